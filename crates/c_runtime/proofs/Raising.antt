-- The phase and the warnings of a sweep.
use Rattle.std.proofs.Common.{◌≡◌, ◌≢◌, ◌⊎◌, ℕ, ◌+◌, ◌≤◌, ◌<◌, Bool, true, false, not, [], ◌==◌, if◌then◌else◌, refl, ◌∙◌, ap, arith, inl, inr}
use Rattle.std.specs.Prelude.{nat_lt}
use Rattle.std.proofs.lemmas.Bool.Decides.{nat_tests}
use Rattle.oa_words.specs.Words.{Phase, Warning}
use Rattle.phase_pools.specs.declared.access.SweepEnd.TheVariants as swept
use Rattle.phase_pools.specs.declared.stages.Scheme.TheVariants.{Warned}
use Rattle.phase_pools.specs.declared.stages.SweepStage.TheVariants as sweeps
use Rattle.phase_pools.specs.Accesses.{Loads, Exchanges}
use Rattle.phase_pools.specs.Pools.{sweep_goes, sweep_ends, warn_next}
use Rattle.c_language.specs.Steps.{Pool, Kept, Wants, set, with_local, wrap}
use Rattle.c_language.proofs.Walking.{here, walks, goes_if}
use Rattle.c_runtime.specs.ClaimFrames.{Quiet}
use Rattle.c_runtime.specs.Laws.{Makes, Waits, Steps, FitsClaim}
use Rattle.c_runtime.proofs.Shapes.{frame, sweep_at, sweeping, SweepsTo}
use Rattle.c_runtime.proofs.Numbers.{sum, status_fits}

pub phase_read : (pool : Pool) (kind count s : ℕ) (l : ℕ → ℕ) (m : Kept) → FitsClaim pool → count < 2 → l 0 ≡ count → Quiet m → Steps pool kind (sweeping pool kind count sweeps.ReadPhase s []) (frame 16 l m)
phase_read pool kind count s l m within few same quiet = record {
  access = Loads Phase;
  next = λ word. with_local 11 word (frame 16 l m);
  wants = refl;
  same = refl;
  each = λ word told. inl (record { leaves = refl; follows = of word told (word == pool.last) refl });
} where
  of : (word : ℕ) → word ≤ pool.last → (b : Bool) → (word == pool.last) ≡ b → SweepsTo pool kind count sweeps.ReadPhase s [] (if b then sweep_ends (sweep_at pool sweeps.ReadPhase s []) (swept.PhasesOver word) else sweep_goes (sweep_at pool sweeps.ReadPhase s []) (sweeps.RaisePhase word)) (with_local 11 word (frame 16 l m))
  of word told true e = goes_if (not (word == pool.last)) false 19 refl (ap not e) (here (record { returns = refl; quiet = quiet }))
  of word told false e =
      let room = status_fits pool word within told in
      goes_if (not (word == pool.last)) true 19 refl (ap not e) (walks _ refl (here (record { sweeps = same; few = few; knows = (refl, refl, sum word 1 (omega (arith, room)), quiet, refl) })))

pub phase_raised : (pool : Pool) (kind count s p : ℕ) (l : ℕ → ℕ) (m : Kept) → count < 2 → l 0 ≡ count → l 11 ≡ p → l 6 ≡ p + 1 → Quiet m → Steps pool kind (sweeping pool kind count (sweeps.RaisePhase p) s []) (frame 20 l m)
phase_raised pool kind count s p l m few same phase bound quiet = record {
  access = Exchanges Phase (l 11) (l 6);
  next = λ word. with_local 4 word (frame 20 l m);
  wants = refl;
  same = refl;
  each = λ word told. inl (record {
    leaves = ap (λ (x : ℕ). if word == x then l 6 else word) phase ∙ ap (λ (x : ℕ). if word == p then x else word) bound;
    follows = walks _ refl (here (record { sweeps = same; few = few; knows = (inl refl, bound, refl, quiet, refl) }));
  });
}

-- ---- the warnings

-- after a warning: the next caller, or the hazards
warn_on : (pool : Pool) (kind count s c : ℕ) (l : ℕ → ℕ) (m : Kept) → FitsClaim pool → c < pool.sizes.callers → count < 2 → l 0 ≡ count → l 6 ≡ s → l 7 ≡ c → Quiet m
    → SweepsTo pool kind count (sweeps.Warn c) s [] (sweep_goes (sweep_at pool (sweeps.Warn c) s []) (warn_next pool.sizes Warned c)) (frame 27 l m)
warn_on pool kind count s c l m within lt few same bound caller quiet = walks _ refl (of (nat_lt (c + 1) pool.sizes.callers) refl) where
  next : wrap (l 7 + 1) ≡ c + 1
  next = let few = within.callers in ap (λ (x : ℕ). wrap (x + 1)) caller ∙ sum c 1 (omega (arith, lt, few))

  of : (b : Bool) → nat_lt (c + 1) pool.sizes.callers ≡ b
      → SweepsTo pool kind count (sweeps.Warn c) s [] (sweep_goes (sweep_at pool (sweeps.Warn c) s []) (if b then sweeps.Warn (c + 1) else sweeps.ReadHazard 0 0)) (frame 28 (set l 7 (wrap (l 7 + 1))) m)
  of true e = goes_if (nat_lt (wrap (l 7 + 1)) pool.sizes.callers) true 22 refl (ap (λ (x : ℕ). nat_lt x pool.sizes.callers) next ∙ e) (here (record { sweeps = same; few = few; knows = (inl refl, bound, next, quiet, refl) }))
  of false e =
      goes_if (nat_lt (wrap (l 7 + 1)) pool.sizes.callers) false 22 refl (ap (λ (x : ℕ). nat_lt x pool.sizes.callers) next ∙ e)
      (walks _ refl (walks _ refl (here (record { sweeps = same; few = few; knows = (refl, bound, refl, refl, (quiet, λ j past. quiet j (omega (arith, past)))) }))))

-- the load of a raise: the raise itself if nothing is to be raised
pub warned_load : (pool : Pool) (kind count s c : ℕ) (l : ℕ → ℕ) (m : Kept) → FitsClaim pool → c < pool.sizes.callers → count < 2 → l 0 ≡ count → l 6 ≡ s → l 7 ≡ c → Quiet m
    → Steps pool kind (sweeping pool kind count (sweeps.Warn c) s []) (frame 22 l m)
warned_load pool kind count s c l m within lt few same bound caller quiet = record {
  access = Loads (Warning (l 7));
  next = λ word. with_local 4 word (frame 22 l m);
  wants = refl;
  same = ap (λ (x : ℕ). Warning x) caller;
  each = λ word told. of word (nat_lt word s) refl;
} where
  of : (word : ℕ) (b : Bool) → nat_lt word s ≡ b → Makes pool kind (sweeping pool kind count (sweeps.Warn c) s []) (Loads (Warning (l 7))) word (with_local 4 word (frame 22 l m))
      ⊎ Waits pool kind (sweeping pool kind count (sweeps.Warn c) s []) (Loads (Warning (l 7))) word (with_local 4 word (frame 22 l m))
  of word true e =
      let below : word < s = grind (arith, nat_tests) in
      inr (record {
        caller = c;
        raises = refl;
        leaves = refl;
        on = (
          below,
          goes_if (nat_lt word (l 6)) true 25 refl (ap (λ (x : ℕ). nat_lt word x) bound ∙ e)
              (here (record {
                stands = record { sweeps = same; few = few; knows = (inr (refl, below), bound, caller, quiet, refl) };
                next = λ found. with_local 5 found (frame 25 (set l 4 word) m);
                wants = ap (λ (x : ℕ). Wants (Exchanges (Warning (l 7)) word x) (λ (found : ℕ). with_local 5 found (frame 25 (set l 4 word) m))) bound;
              })),
        );
      })
  of word false e =
      let above : s ≤ word = grind (arith, nat_tests) in
      inl (record {
        leaves = omega (arith, above);
        follows = goes_if (nat_lt word (l 6)) false 25 refl (ap (λ (x : ℕ). nat_lt word x) bound ∙ e) (walks _ refl (warn_on pool kind count s c (set l 4 word) m within lt few same bound caller quiet));
      })

-- and its exchange
pub warned_exchange : (pool : Pool) (kind count s c : ℕ) (l : ℕ → ℕ) (m : Kept) → FitsClaim pool → c < pool.sizes.callers → count < 2 → l 0 ≡ count → l 4 < s → l 6 ≡ s → l 7 ≡ c → Quiet m
    → Steps pool kind (sweeping pool kind count (sweeps.Warn c) s []) (frame 25 l m)
warned_exchange pool kind count s c l m within lt few same below bound caller quiet = record {
  access = Exchanges (Warning (l 7)) (l 4) (l 6);
  next = λ word. with_local 5 word (frame 25 l m);
  wants = refl;
  same = ap (λ (x : ℕ). Warning x) caller;
  each = λ word told. of word (word == l 4) refl;
} where
  of : (word : ℕ) (b : Bool) → (word == l 4) ≡ b → Makes pool kind (sweeping pool kind count (sweeps.Warn c) s []) (Exchanges (Warning (l 7)) (l 4) (l 6)) word (with_local 5 word (frame 25 l m))
      ⊎ Waits pool kind (sweeping pool kind count (sweeps.Warn c) s []) (Exchanges (Warning (l 7)) (l 4) (l 6)) word (with_local 5 word (frame 25 l m))
  of word true e =
      let found : word ≡ l 4 = grind (arith, nat_tests) in
      inl (record {
        leaves = ap (λ (b : Bool). if b then l 6 else word) e ∙ omega (arith, found, below, bound);
        follows = goes_if (not (word == l 4)) false 22 refl (ap not e) (warn_on pool kind count s c (set l 5 word) m within lt few same bound caller quiet);
      })
  of word false e =
      let differs : word ≢ l 4 = grind (arith, nat_tests) in
      inr (record {
        caller = c;
        raises = refl;
        leaves = ap (λ (b : Bool). if b then l 6 else word) e;
        on = (
          differs,
          goes_if (not (word == l 4)) true 22 refl (ap not e)
              (here (record {
                stands = record { sweeps = same; few = few; knows = (inl refl, bound, caller, quiet, refl) };
                next = λ found. with_local 4 found (frame 22 (set l 5 word) m);
                wants = refl;
              })),
        );
      })
