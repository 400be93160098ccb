-- A slot that a sweep makes ready, and its push onto the chain of its kind.
use Rattle.std.proofs.Common.{◌≡◌, ℕ, suc, ◌+◌, ◌*◌, ◌/◌, ◌%◌, ◌≤◌, ◌<◌, max, Bool, true, false, List, [], ◌∷◌, ◌++◌, length, ◌==◌, if◌then◌else◌, refl, sym, ◌∙◌, ap, arith, inl, subst}
use Rattle.std.specs.Prelude.{nat_lt, slice_get}
use Rattle.std.proofs.lemmas.Bool.Decides.{nat_tests}
use Rattle.oa_words.specs.declared.packed.Kind.TheVariants as kinds
use Rattle.oa_words.specs.Words.{Head, Link, Status}
use Rattle.oa_words.specs.SlotKinds.{kind_of}
use Rattle.oa_words.specs.Packed.{head_word, status_word}
use Rattle.phase_pools.specs.declared.stages.SweepStage.TheVariants as sweeps
use Rattle.phase_pools.specs.Accesses.{Loads, Stores, Exchanges}
use Rattle.phase_pools.specs.Pools.{sweep_goes, sweep_on}
use Rattle.c_language.specs.declared.lines.Line.{Line}
use Rattle.c_language.specs.Steps.{Pool, Kept, set, with_local, onward, wrap}
use Rattle.c_language.proofs.Walking.{here, walks, leads, goes_if, goes_divided}
use Rattle.c_runtime.specs.KindLines.{kind_lines, HasLines, AtPush}
use Rattle.c_runtime.specs.ClaimLines.{push_line, claim_front, claim_lines}
use Rattle.c_runtime.specs.ClaimFrames.{GatheredBelow}
use Rattle.c_runtime.specs.Laws.{claim_code, Steps, FitsClaim}
use Rattle.c_runtime.proofs.Numbers.{tops_some, head_whole, stamp, head_made}
use Rattle.c_runtime.proofs.KindChain.{found}
use Rattle.c_runtime.proofs.Shapes.{frame, sweep_at, sweeping, SweepsTo}
use Rattle.c_runtime.proofs.Recycling.{next_on}

-- ---- the lines that find a kind stand after all others

get_right : (front back : List Line) (i : ℕ) → slice_get (front ++ back) (length front + i) ≡ slice_get back i
get_right [] back i = let none : 0 + i ≡ i = omega arith in ap (slice_get back) none
get_right (line ∷ front) back i =
    let on : length (line ∷ front) + i ≡ suc (length front + i) = omega arith in
    ap (slice_get (line ∷ (front ++ back))) on ∙ get_right front back i

front_length : (kind : ℕ) → length (claim_front kind) ≡ 65
front_length kind = refl

kinds_stand : (kind many : ℕ) → HasLines (claim_lines kind many) 65 (kind_lines push_line 0 many)
kinds_stand kind many i lt =
    ap (λ (n : ℕ). slice_get (claim_lines kind many) (n + i)) (sym (front_length kind)) ∙ get_right (claim_front kind) (kind_lines push_line 0 many) i

-- ---- the exchange that makes a slot ready

other : (x : ℕ) → x < 12 → x ≡ 12 → ⊥
other x low is = absurd (omega (arith, low, is))

pub ready_made : (pool : Pool) (kind count s j q : ℕ) (gathered : List ℕ) (l : ℕ → ℕ) (m : Kept) → FitsClaim pool → 1 ≤ j → j ≤ pool.sizes.slots
    → count < 2 → l 0 ≡ count → l 6 ≡ s → l 2 ≡ j
    → l 9 ≡ status_word q kinds.Retired → l 5 ≡ status_word s kinds.Ready → GatheredBelow j gathered m
    → Steps pool kind (sweeping pool kind count (sweeps.MakeReady j q) s gathered) (frame 46 l m)
ready_made pool kind count s j q gathered l m within some most few same bound slot status ready notes = record {
  access = Exchanges (Status (l 2)) (l 9) (l 5);
  next = λ word. with_local 4 word (frame 46 l m);
  wants = refl;
  same = ap (λ (x : ℕ). Status x) slot;
  each = λ word told. inl (record {
    leaves = ap (λ (x : ℕ). if word == x then l 5 else word) status ∙ ap (λ (x : ℕ). if word == status_word q kinds.Retired then x else word) ready;
    follows = of word (word == status_word q kinds.Retired) refl;
  });
} where
  -- the slot's kind is found
  pushes : (word : ℕ) → SweepsTo pool kind count (sweeps.MakeReady j q) s gathered (sweep_goes (sweep_at pool (sweeps.MakeReady j q) s gathered) (sweeps.PushHead (kind_of pool.sizes j) j)) (frame 65 (set l 4 word) m)
  pushes word =
      leads {pool = pool} {code = claim_code pool kind} {f = frame 65 (set l 4 word) m} {There = AtPush 54 (kind_of pool.sizes j) (frame 65 (set l 4 word) m)}
      (found pool (claim_code pool kind) 65 54 j (frame 65 (set l 4 word) m) within.sizes.kinds.some some (kinds_stand kind (length pool.sizes.kinds)) refl slot)
      (λ g at. record {
        sweeps = at.others 0 (other 0 (omega arith)) ∙ same;
        few = few;
        knows = (at.line, at.others 6 (other 6 (omega arith)) ∙ bound, at.others 2 (other 2 (omega arith)) ∙ slot, at.named, subst (GatheredBelow j gathered) (sym at.kept) notes);
      })

  of : (word : ℕ) (b : Bool) → (word == status_word q kinds.Retired) ≡ b
      → SweepsTo pool kind count (sweeps.MakeReady j q) s gathered (if b then sweep_goes (sweep_at pool (sweeps.MakeReady j q) s gathered) (sweeps.PushHead (kind_of pool.sizes j) j) else sweep_on pool.sizes (sweep_at pool (sweeps.MakeReady j q) s gathered) j)
      (with_local 4 word (frame 46 l m))
  of word true e = goes_if (word == l 9) true 65 refl (ap (λ (x : ℕ). word == x) status ∙ e) (pushes word)
  of word false e =
      goes_if (word == l 9) false 65 refl (ap (λ (x : ℕ). word == x) status ∙ e)
      (next_on pool kind count s j gathered (sweeps.MakeReady j q) (set l 4 word) m within some most few same bound slot notes)

-- ---- the push

pub head_loaded : (pool : Pool) (kind count s k j : ℕ) (gathered : List ℕ) (l : ℕ → ℕ) (m : Kept) → FitsClaim pool → k ≡ kind_of pool.sizes j
    → count < 2 → l 0 ≡ count → l 6 ≡ s → l 2 ≡ j → l 12 ≡ k → GatheredBelow j gathered m
    → Steps pool kind (sweeping pool kind count (sweeps.PushHead k j) s gathered) (frame 54 l m)
head_loaded pool kind count s k j gathered l m within own few same bound slot twelfth notes = record {
  access = Loads (Head (l 12));
  next = λ word. with_local 1 word (frame 54 l m);
  wants = refl;
  same = ap (λ (x : ℕ). Head x) twelfth;
  each = λ word told. inl (record {
    leaves = refl;
    follows =
        goes_divided 3 (word % pool.sizes.tops) pool.sizes.tops refl (tops_some pool within)
        (here (record { sweeps = same; few = few; knows = (refl, bound, slot, twelfth ∙ own, head_whole pool.sizes.tops word, refl, notes) }));
  });
}

-- from the line at which the greater of both phases is known
pushes_on : (pool : Pool) (kind count s j q t x : ℕ) (gathered : List ℕ) (l : ℕ → ℕ) (m : Kept) → FitsClaim pool → s ≤ pool.last → q ≤ pool.last → j ≤ pool.sizes.slots
    → count < 2 → l 0 ≡ count → l 6 ≡ s → l 2 ≡ j → l 12 ≡ kind_of pool.sizes j → l 1 ≡ head_word pool.sizes.tops q t → l 10 ≡ x → x ≡ max q s → GatheredBelow j gathered m
    → SweepsTo pool kind count (sweeps.PushLink j q t) s gathered (sweep_goes (sweep_at pool (sweeps.PushLink j q t) s gathered) (sweeps.PushTop (kind_of pool.sizes j) j q t)) (frame 60 l m)
pushes_on pool kind count s j q t x gathered l m within fit low most few same bound slot twelfth top tenth is notes =
    walks (frame 61 (set l 10 (wrap (l 10 * pool.sizes.tops))) m) refl
    (walks (frame 62 (set (set l 10 (wrap (l 10 * pool.sizes.tops))) 3 (wrap (wrap (l 10 * pool.sizes.tops) + l 2))) m) refl
    (here (record { sweeps = same; few = few; knows = (refl, bound, slot, twelfth, top, made, notes) })))
  where
    made : wrap (wrap (l 10 * pool.sizes.tops) + l 2) ≡ head_word pool.sizes.tops (max q s) j
    made =
        ap (λ (y : ℕ). wrap (wrap (y * pool.sizes.tops) + l 2)) (tenth ∙ is)
        ∙ (ap (λ (y : ℕ). wrap (wrap (max q s * pool.sizes.tops) + y)) slot ∙ head_made pool (max q s) j within (omega (arith, fit, low)) most)

pub link_stored : (pool : Pool) (kind count s j q t : ℕ) (gathered : List ℕ) (l : ℕ → ℕ) (m : Kept) → FitsClaim pool → s ≤ pool.last → q ≤ pool.last
    → t ≤ pool.sizes.slots → j ≤ pool.sizes.slots → count < 2 → l 0 ≡ count → l 6 ≡ s → l 2 ≡ j → l 12 ≡ kind_of pool.sizes j
    → l 1 ≡ head_word pool.sizes.tops q t → l 3 ≡ t → GatheredBelow j gathered m
    → Steps pool kind (sweeping pool kind count (sweeps.PushLink j q t) s gathered) (frame 56 l m)
link_stored pool kind count s j q t gathered l m within fit low least most few same bound slot twelfth top link notes = record {
  access = Stores (Link (l 2)) (l 3);
  next = λ word. onward (frame 56 l m);
  wants = refl;
  same = ap (λ (x : ℕ). Link x) slot;
  each = λ word told. inl (record {
    leaves = link;
    follows =
        goes_divided {pool = pool} {code = claim_code pool kind} {f = frame 57 l m} 10 (l 1 / pool.sizes.tops) pool.sizes.tops refl (tops_some pool within) (of (nat_lt s q) refl);
  });
} where
  mark : l 1 / pool.sizes.tops ≡ q
  mark = ap (λ (x : ℕ). x / pool.sizes.tops) top ∙ stamp pool q t within least

  of : (b : Bool) → nat_lt s q ≡ b
      → SweepsTo pool kind count (sweeps.PushLink j q t) s gathered (sweep_goes (sweep_at pool (sweeps.PushLink j q t) s gathered) (sweeps.PushTop (kind_of pool.sizes j) j q t)) (frame 58 (set l 10 (l 1 / pool.sizes.tops)) m)
  of true e =
      let more : s < q = grind (arith, nat_tests) in
      let greater : q ≡ max q s = omega (arith, more) in
      goes_if {pool = pool} {code = claim_code pool kind} {f = frame 58 (set l 10 (l 1 / pool.sizes.tops)) m} (nat_lt (l 6) (l 1 / pool.sizes.tops)) true 60 refl
      (ap (λ (x : ℕ). nat_lt x (l 1 / pool.sizes.tops)) bound ∙ (ap (λ (x : ℕ). nat_lt s x) mark ∙ e))
      (pushes_on pool kind count s j q t q gathered (set l 10 (l 1 / pool.sizes.tops)) m within fit low most few same bound slot twelfth top mark greater notes)
  of false e =
      let less : q ≤ s = grind (arith, nat_tests) in
      let greater : s ≡ max q s = omega (arith, less) in
      goes_if {pool = pool} {code = claim_code pool kind} {f = frame 58 (set l 10 (l 1 / pool.sizes.tops)) m} (nat_lt (l 6) (l 1 / pool.sizes.tops)) false 60 refl
      (ap (λ (x : ℕ). nat_lt x (l 1 / pool.sizes.tops)) bound ∙ (ap (λ (x : ℕ). nat_lt s x) mark ∙ e))
      (walks (frame 60 (set (set l 10 (l 1 / pool.sizes.tops)) 10 (l 6)) m) refl
      (pushes_on pool kind count s j q t s gathered (set (set l 10 (l 1 / pool.sizes.tops)) 10 (l 6)) m within fit low most few same bound slot twelfth top bound greater notes))

pub top_pushed : (pool : Pool) (kind count s k j q t : ℕ) (gathered : List ℕ) (l : ℕ → ℕ) (m : Kept) → FitsClaim pool → k ≡ kind_of pool.sizes j
    → 1 ≤ j → j ≤ pool.sizes.slots → count < 2 → l 0 ≡ count → l 6 ≡ s → l 2 ≡ j → l 12 ≡ k → l 1 ≡ head_word pool.sizes.tops q t → l 3 ≡ head_word pool.sizes.tops (max q s) j
    → GatheredBelow j gathered m
    → Steps pool kind (sweeping pool kind count (sweeps.PushTop k j q t) s gathered) (frame 62 l m)
top_pushed pool kind count s k j q t gathered l m within own some most few same bound slot twelfth top new notes = record {
  access = Exchanges (Head (l 12)) (l 1) (l 3);
  next = λ word. with_local 4 word (frame 62 l m);
  wants = refl;
  same = ap (λ (x : ℕ). Head x) twelfth;
  each = λ word told. inl (record {
    leaves = ap (λ (x : ℕ). if word == x then l 3 else word) top ∙ ap (λ (x : ℕ). if word == head_word pool.sizes.tops q t then x else word) new;
    follows = of word (word == head_word pool.sizes.tops q t) refl;
  });
} where
  of : (word : ℕ) (b : Bool) → (word == head_word pool.sizes.tops q t) ≡ b
      → SweepsTo pool kind count (sweeps.PushTop k j q t) s gathered (if b then sweep_on pool.sizes (sweep_at pool (sweeps.PushTop k j q t) s gathered) j else sweep_goes (sweep_at pool (sweeps.PushTop k j q t) s gathered) (sweeps.PushHead (kind_of pool.sizes j) j))
      (with_local 4 word (frame 62 l m))
  of word true e =
      goes_if (word == l 1) true 48 refl (ap (λ (x : ℕ). word == x) top ∙ e)
      (next_on pool kind count s j gathered (sweeps.PushTop k j q t) (set l 4 word) m within some most few same bound slot notes)
  of word false e =
      goes_if (word == l 1) false 48 refl (ap (λ (x : ℕ). word == x) top ∙ e)
      (walks _ refl (here (record { sweeps = same; few = few; knows = (refl, bound, slot, twelfth ∙ own, notes) })))
