-- A look.
use Rattle.std.proofs.Common.{◌≡◌, ℕ, ◌+◌, ◌-◌, ◌*◌, ◌/◌, ◌%◌, ◌^◌, ◌≤◌, Bool, true, false, not, None, ◌==◌, if◌then◌else◌, refl, ◌∙◌, ap, arith, inl}
use Rattle.std.specs.Prelude.{nat_lt}
use Rattle.std.proofs.lemmas.Bool.Decides.{nat_tests}
use Rattle.oa_words.specs.Words.{Head, Link, Status}
use Rattle.oa_words.specs.declared.packed.Kind.TheVariants as kinds
use Rattle.oa_words.specs.Packed.{head_word, status_word}
use Rattle.phase_pools.specs.declared.access.ClaimEnd.TheVariants as ends
use Rattle.phase_pools.specs.declared.stages.ClaimStage.TheVariants as claims
use Rattle.phase_pools.specs.Accesses.{Loads, Stores, Exchanges}
use Rattle.phase_pools.specs.Pools.{Sweep, look_ended, claim_goes, claim_ends, sweep_started}
use Rattle.c_language.specs.Steps.{Pool, Kept, Returns, set, with_local, onward, wrap}
use Rattle.c_language.proofs.Walking.{here, walks, goes_if, goes_divided}
use Rattle.c_runtime.specs.ClaimFrames.{Quiet}
use Rattle.c_runtime.specs.Laws.{Follows, Steps, FitsClaim}
use Rattle.c_runtime.proofs.Shapes.{frame, staged, TurnsTo}
use Rattle.c_runtime.proofs.Numbers.{fits, sum, status_fits, tops_some, head_whole, stamp, head_with}

-- a look that found no slot: the claim is over, or a sweep begins
no_slot : (pool : Pool) (kind count : ℕ) (sweep : Sweep) (l : ℕ → ℕ) (m : Kept) → l 0 ≡ count → count ≤ 2 → Quiet m
    → TurnsTo pool kind (look_ended (staged pool kind count sweep claims.ReadHead)) (frame 14 l m)
no_slot pool kind count sweep l m same few quiet = of (count == 2) refl where
  of : (b : Bool) → (count == 2) ≡ b
      → TurnsTo pool kind (if b then claim_ends (staged pool kind count sweep claims.ReadHead) ends.Full else sweep_started (staged pool kind count sweep claims.ReadHead)) (frame 14 l m)
  of true e =
      let big : nat_lt (l 0) 2 ≡ false = grind (arith, nat_tests) in
      goes_if (nat_lt (l 0) 2) false 16 refl big (here (record { returns = refl; quiet = quiet }))
  of false e =
      let small : nat_lt (l 0) 2 ≡ true = grind (arith, nat_tests) in
      goes_if (nat_lt (l 0) 2) true 16 refl small (here (record { sweeps = same; few = grind (arith, nat_tests); knows = (refl, quiet, refl) }))

-- the load of the head
pub head_read : (pool : Pool) (kind count : ℕ) (sweep : Sweep) (l : ℕ → ℕ) (m : Kept) → FitsClaim pool → l 0 ≡ count → count ≤ 2 → Quiet m
    → Steps pool kind (staged pool kind count sweep claims.ReadHead) (frame 1 l m)
head_read pool kind count sweep l m within same few quiet = record {
  access = Loads (Head kind);
  next = λ word. with_local 1 word (frame 1 l m);
  wants = refl;
  same = refl;
  each = λ word told. inl (record { leaves = refl; follows = of word (word % pool.sizes.tops == 0) refl });
} where
  of : (word : ℕ) (b : Bool) → (word % pool.sizes.tops == 0) ≡ b
      → TurnsTo pool kind (if b then look_ended (staged pool kind count sweep claims.ReadHead) else claim_goes (staged pool kind count sweep claims.ReadHead) (claims.ReadLink (word / pool.sizes.tops) (word % pool.sizes.tops)))
      (with_local 1 word (frame 1 l m))
  of word true e =
      goes_divided 2 (word % pool.sizes.tops) pool.sizes.tops refl (tops_some pool within)
      (goes_if (word % pool.sizes.tops == 0) true 14 refl e (no_slot pool kind count sweep (set (set l 1 word) 2 (word % pool.sizes.tops)) m same few quiet))
  of word false e =
      goes_divided 2 (word % pool.sizes.tops) pool.sizes.tops refl (tops_some pool within)
      (goes_if (word % pool.sizes.tops == 0) false 14 refl e
      (here (record { sweeps = same; few = few; knows = (refl, head_whole pool.sizes.tops word, refl, quiet) })))

-- the load of the link
pub link_read : (pool : Pool) (kind count q t : ℕ) (sweep : Sweep) (l : ℕ → ℕ) (m : Kept) → FitsClaim pool → q ≤ pool.last → t ≤ pool.sizes.slots
    → l 0 ≡ count → count ≤ 2 → l 1 ≡ head_word pool.sizes.tops q t → l 2 ≡ t → Quiet m
    → Steps pool kind (staged pool kind count sweep (claims.ReadLink q t)) (frame 4 l m)
link_read pool kind count q t sweep l m within fit least same few top slot quiet = record {
  access = Loads (Link (l 2));
  next = λ word. with_local 3 word (frame 4 l m);
  wants = refl;
  same = ap (λ (j : ℕ). Link j) slot;
  each = λ word told. inl (record { leaves = refl; follows = of word told });
} where
  of : (word : ℕ) → word ≤ pool.sizes.slots → Follows pool kind (staged pool kind count sweep (claims.Take q t word)) None (with_local 3 word (frame 4 l m))
  of word told =
      let whole : wrap (wrap (l 1 + (2 ^ 64 - l 2)) + word) ≡ head_word pool.sizes.tops q word =
      ap (λ (x : ℕ). wrap (wrap (x + (2 ^ 64 - l 2)) + word)) top ∙ (ap (λ (x : ℕ). wrap (wrap (head_word pool.sizes.tops q t + (2 ^ 64 - x)) + word)) slot ∙ head_with pool q t word within fit least told) in
      walks _ refl (walks _ refl (here (record { sweeps = same; few = few; knows = (refl, top, slot, whole, quiet) })))

-- the exchange
pub taken : (pool : Pool) (kind count q t next : ℕ) (sweep : Sweep) (l : ℕ → ℕ) (m : Kept) → FitsClaim pool → q ≤ pool.last → t ≤ pool.sizes.slots
    → l 0 ≡ count → count ≤ 2 → l 1 ≡ head_word pool.sizes.tops q t → l 2 ≡ t → l 3 ≡ head_word pool.sizes.tops q next → Quiet m
    → Steps pool kind (staged pool kind count sweep (claims.Take q t next)) (frame 7 l m)
taken pool kind count q t next sweep l m within fit least same few top slot new quiet = record {
  access = Exchanges (Head kind) (l 1) (l 3);
  next = λ word. with_local 4 word (frame 7 l m);
  wants = refl;
  same = refl;
  each = λ word told. inl (record {
    leaves = ap (λ (x : ℕ). if word == x then l 3 else word) top ∙ ap (λ (x : ℕ). if word == head_word pool.sizes.tops q t then x else word) new;
    follows = of word (word == head_word pool.sizes.tops q t) refl;
  });
} where
  of : (word : ℕ) (b : Bool) → (word == head_word pool.sizes.tops q t) ≡ b
      → TurnsTo pool kind (if b then claim_goes (staged pool kind count sweep (claims.Take q t next)) (claims.StoreUsed q t) else claim_goes (staged pool kind count sweep (claims.Take q t next)) claims.ReadHead)
      (with_local 4 word (frame 7 l m))
  of word true e =
      let room = status_fits pool q within fit in
      let found : not (word == l 1) ≡ false = ap (λ (x : ℕ). not (word == x)) top ∙ ap not e in
      let quotient : l 1 / pool.sizes.tops ≡ q = ap (λ (x : ℕ). x / pool.sizes.tops) top ∙ stamp pool q t within least in
      let four : wrap (l 1 / pool.sizes.tops * 4) ≡ 4 * q = ap (λ (x : ℕ). wrap (x * 4)) quotient ∙ fits (q * 4) (omega (arith, room)) ∙ omega arith in
      let whole : wrap (wrap (l 1 / pool.sizes.tops * 4) + 1) ≡ 4 * q + 1 = ap (λ (x : ℕ). wrap (x + 1)) four ∙ sum (4 * q) 1 (omega (arith, room)) in
      goes_if (not (word == l 1)) false 1 refl found
      (goes_divided 4 (l 1 / pool.sizes.tops) pool.sizes.tops refl (tops_some pool within)
      (walks _ refl (walks _ refl (here (record { sweeps = same; few = few; knows = (refl, slot, whole, quiet) })))))
  of word false e =
      let lost : not (word == l 1) ≡ true = ap (λ (x : ℕ). not (word == x)) top ∙ ap not e in
      goes_if (not (word == l 1)) true 1 refl lost (here (record { sweeps = same; few = few; knows = (refl, quiet) }))

-- the store of the status
pub used_stored : (pool : Pool) (kind count q t : ℕ) (sweep : Sweep) (l : ℕ → ℕ) (m : Kept) → l 0 ≡ count → l 2 ≡ t → l 5 ≡ status_word q kinds.Used → Quiet m
    → Steps pool kind (staged pool kind count sweep (claims.StoreUsed q t)) (frame 12 l m)
used_stored pool kind count q t sweep l m same slot new quiet = record {
  access = Stores (Status (l 2)) (l 5);
  next = λ word. onward (frame 12 l m);
  wants = refl;
  same = ap (λ (j : ℕ). Status j) slot;
  each = λ word told. inl (record { leaves = new; follows = here (record { returns = ap (λ (x : ℕ). Returns x) slot; quiet = quiet }) });
}
