-- Each step of a sweep.
use Rattle.std.proofs.Common.{ℕ, zero, suc, ◌≡◌, ◌≢◌, ◌==◌, ◌+◌, ◌≤◌, ◌<◌, max, Bool, true, false, Option, Some, None, arith, ⊎_elim, sym, subst, refl, if◌then◌else◌}
use Rattle.std.specs.Prelude.{nat_lt}
use Rattle.std.proofs.lemmas.Bool.Decides.{nat_tests, eqb_tells}
use Rattle.oa_words.specs.declared.packed.Kind.TheVariants as kinds
use Rattle.oa_words.specs.Words.{Word, Phase, Warning, Status, Head, Link, slot_range}
use Rattle.oa_words.specs.SlotKinds.{kind_of}
use Rattle.oa_words.specs.Memories.{store}
use Rattle.oa_words.specs.Packed.{StatusParts, status_word, status_parts, head_word, head_parts}
use Rattle.phase_pools.specs.declared.access.SweepEnd.{SweepEnd}
use Rattle.phase_pools.specs.declared.access.SweepEnd.TheVariants as swept
use Rattle.phase_pools.specs.declared.stages.SweepStage.{SweepStage}
use Rattle.phase_pools.specs.declared.stages.SweepStage.TheVariants as sweeps
use Rattle.phase_pools.specs.Accesses.{word_of}
use Rattle.phase_pools.specs.declared.stages.Scheme.{Scheme}
use Rattle.phase_pools.specs.declared.stages.Scheme.TheVariants.{Announced}
use Rattle.phase_pools.specs.Pools.{Sweep, SweepTurn, sweep_wants_at, sweep_accepts_at, sweep_goes, sweep_ends, sweep_on, phase_read, status_read, made_ready, push_read, pushed, lower, low_after, warn_wanted, warn_next}
use Rattle.phase_pools.proofs.Lowering.{lower_less, lower_announced}
use Rattle.phase_pools.proofs.Statuses.{from_slot, from_status}
use Rattle.source_machine.specs.MethodRuns.{put}
use Rattle.oa_simulation.specs.sim_relation.Views.{Plan, Shared}
use Rattle.oa_simulation.specs.sim_relation.Naming.{freed_at}
use Rattle.chain_laws.specs.Memories.{after_access}
use Rattle.oa_simulation.proofs.sim_relation.Words.{store_idle}
use Rattle.oa_simulation.proofs.sim_relation.Moving.{goes_same}
use Rattle.epoch_relation.specs.Reckoned.{reckoned_at, reckoned_words, reckoned, EpochHolds}
use Rattle.epoch_relation.specs.Callers.{Passed, SweepAt, Changes}
use Rattle.oa_simulation.proofs.sim_steps.Pools.Phases.{Risen, with_words, fine_risen, goes_risen}
use Rattle.oa_simulation.proofs.sim_steps.Pools.Slots.{Freed, freed, fine_freed, goes_freed}
use Rattle.epoch_relation.proofs.Rising.{phase_risen, head_risen, link_risen}
use Rattle.epoch_relation.proofs.Storing.{holds_stored, goes_words, reckoned_status}

-- what a sweep that goes on knows
abbrev pub SweepNext : Plan → Shared → (ℕ → ℕ) → Sweep → Option SweepEnd → Type 0
SweepNext t s since sweep None = SweepAt t s since sweep.low sweep.stage
SweepNext t s since sweep (Some end) = Unit {0}

-- a change that any caller might make, in which nobody's announcement changes
abbrev pub ChangesForAll : Plan → Shared → (ℕ → ℕ) → Shared → Type 0
ChangesForAll t s since s' = (y : ℕ) → Changes t y s since s' since

pub record Swept (t : Plan) (s : Shared) (since : ℕ → ℕ) (memory' : Word → ℕ) (turn : SweepTurn) (present' : ℕ → ℕ) : Type 0 where
  pub s' : Shared
  pub memory : s'.memory ≡ memory'
  pub present : s'.present ≡ present'
  pub source : s'.source ≡ s.source
  pub unused : s'.unused ≡ s.unused
  pub holds : EpochHolds t s' since
  pub goes : ChangesForAll t s since s'
  pub next : SweepNext t s' since turn.sweep turn.ended

pub changes_same : (t : Plan) (s : Shared) (since : ℕ → ℕ) → ChangesForAll t s since s
changes_same t s since y = record { goes = goes_same t (reckoned s since) y; warning = λ d ne. refl; stays = λ d ne. refl; retired = λ n is. is }

unchanged : (t : Plan) (s : Shared) (since : ℕ → ℕ) (w : Word) (turn : SweepTurn) → EpochHolds t s since → SweepNext t s since turn.sweep turn.ended → Swept t s since (store s.memory w (s.memory w)) turn s.present
unchanged t s since w turn f next = record { s' = s; memory = store_idle s.memory w; present = refl; source = refl; unused = refl; holds = f; goes = changes_same t s since; next = next }

-- the words of the chain, or the phase, are changed
pub risen_holds : (t : Plan) (s : Shared) (since : ℕ → ℕ) (m : Word → ℕ) → Risen (reckoned_words s.memory since) (reckoned_words m since) → ((d : ℕ) → m (Warning d) ≡ s.memory (Warning d)) → EpochHolds t s since → EpochHolds t (with_words s m) since
risen_holds t s since m r same f = record {
  holds = fine_risen t (reckoned s since) (reckoned_words m since) r f.holds;
  announced = λ d. subst (λ (w : ℕ). w ≤ since d) (sym (same d)) (f.announced d);
  begun = let up = r.phase in let some = f.begun in omega (arith, up, some);
  unguarded = f.unguarded;
}

pub risen_changes : (t : Plan) (s : Shared) (since : ℕ → ℕ) (m : Word → ℕ) → Risen (reckoned_words s.memory since) (reckoned_words m since) → ((d : ℕ) → m (Warning d) ≡ s.memory (Warning d)) → ChangesForAll t s since (with_words s m)
risen_changes t s since m r same y = record { goes = goes_risen t (reckoned s since) (reckoned_words m since) r y; warning = λ d ne. same d; stays = λ d ne. refl; retired = λ n is. is }

risen : (t : Plan) (s : Shared) (since : ℕ → ℕ) (m : Word → ℕ) (turn : SweepTurn) → Risen (reckoned_words s.memory since) (reckoned_words m since) → ((d : ℕ) → m (Warning d) ≡ s.memory (Warning d)) → EpochHolds t s since
    → SweepNext t (with_words s m) since turn.sweep turn.ended → Swept t s since m turn s.present
risen t s since m turn r same f next = record {
  s' = with_words s m;
  memory = refl;
  present = refl;
  source = refl;
  unused = refl;
  holds = risen_holds t s since m r same f;
  goes = risen_changes t s since m r same;
  next = next;
}

-- ---- where a sweep stands afterwards

on_next : (t : Plan) (s : Shared) (since : ℕ → ℕ) (sweep : Sweep) (j : ℕ) → Passed t s since sweep.low t.setting.sizes.callers
    → SweepNext t s since (sweep_on t.setting.sizes sweep j).sweep (sweep_on t.setting.sizes sweep j).ended
on_next t s since sweep j w = from_slot (λ turn. SweepNext t s since turn.sweep turn.ended) t.setting.sizes sweep j (λ more. w) tt

status_next : (t : Plan) (s : Shared) (since : ℕ → ℕ) (sweep : Sweep) (j : ℕ) (parts : Option StatusParts) → Passed t s since sweep.low t.setting.sizes.callers
    → SweepNext t s since (status_read t.setting.sizes sweep j parts).sweep (status_read t.setting.sizes sweep j parts).ended
status_next t s since sweep j parts w = from_status (λ turn. SweepNext t s since turn.sweep turn.ended) t.setting.sizes sweep j parts (on_next t s since sweep j w) (λ p is below away. (w, below))

-- ---- what callers have announced

-- one caller more: nobody is reckoned below what was loaded of him
heard : (word since phase low : ℕ) → low ≤ phase → word ≤ since → lower low word ≤ reckoned_at word since phase
heard zero since phase low raised le = raised
heard (suc p) since phase low raised le = let less = lower_announced low (suc p) (λ z. omega (arith, z)) in omega (arith, less, le)

pub passed_more : (t : Plan) (s : Shared) (since : ℕ → ℕ) (low c : ℕ) → EpochHolds t s since → Passed t s since low c → Passed t s since (lower low (s.memory (Warning c))) (c + 1)
passed_more t s since low c f w = record {
  raised = let less = lower_less low (s.memory (Warning c)) in let up = w.raised in omega (arith, less, up);
  passed = λ d lt. ⊎_elim
      (λ (e : ((d == c) ≡ true) × (d ≡ c)). subst (λ (i : ℕ). lower low (s.memory (Warning c)) ≤ reckoned_at (s.memory (Warning i)) (since i) (s.memory Phase)) (sym e.1) (heard (s.memory (Warning c)) (since c) (s.memory Phase) low w.raised (f.announced c)))
      (λ (e : ((d == c) ≡ false) × (d ≢ c)). let less = lower_less low (s.memory (Warning c)) in let before = w.passed d (let ne = e.1 in omega (arith, lt, ne)) in omega (arith, less, before))
      (eqb_tells d c);
}

heard_next : (t : Plan) (s : Shared) (since : ℕ → ℕ) (own low c : ℕ) → c < t.setting.sizes.callers → Passed t s since low (c + 1) → SweepAt t s since low (warn_next t.setting.sizes (Announced own) c)
heard_next t s since own low c lt w = of (nat_lt (c + 1) t.setting.sizes.callers) refl where
  of : (b : Bool) → nat_lt (c + 1) t.setting.sizes.callers ≡ b → SweepAt t s since low (if b then sweeps.Warn (c + 1) else sweeps.ReadStatus (slot_range t.setting.sizes).last)
  of true is = (w, grind (arith, nat_tests))
  of false is = let end : c + 1 ≡ t.setting.sizes.callers = grind (arith, nat_tests) in subst (λ (m : ℕ). Passed t s since low m) end w

-- ---- each stage

frees : (t : Plan) (s : Shared) (since : ℕ → ℕ) (sweep : Sweep) (j q : ℕ) → EpochHolds t s since → SweepAt t s since sweep.low (sweeps.MakeReady j q)
    → Swept t s since (after_access s.memory (sweep_wants_at sweep.tops sweep.scheme (sweeps.MakeReady j q) sweep.bound)) (made_ready t.setting.sizes sweep j q (s.memory (Status j))) (freed_at (sweeps.MakeReady j q) s.memory s.present)
frees t s since sweep j q f w = of (s.memory (Status j) == status_word q kinds.Retired) refl where
  of : (b : Bool) → (s.memory (Status j) == status_word q kinds.Retired) ≡ b
      → Swept t s since (store s.memory (Status j) (if b then status_word sweep.bound kinds.Ready else s.memory (Status j))) (if b then sweep_goes sweep (sweeps.PushHead (kind_of t.setting.sizes j) j) else sweep_on t.setting.sizes sweep j) (if b then put s.present j 0 else s.present)
  of false is = unchanged t s since (Status j) (sweep_on t.setting.sizes sweep j) f (on_next t s since sweep j w.0)
  of true is =
      let r = reckoned s since in
      let dead : s.memory (Status j) ≡ status_word q kinds.Retired = grind (arith, nat_tests) in
      let k : Freed t r sweep.low j q = record { word = dead; below = w.1; warned = w.0.passed; spared = λ d i some. absurd (some (f.unguarded d i)) } in
      let word : ℕ = status_word sweep.bound kinds.Ready in
      record {
        s' = freed s j sweep.bound;
        memory = refl;
        present = refl;
        source = refl;
        unused = refl;
        holds = holds_stored t s (freed r j sweep.bound) since (store s.memory (Status j) word) f (reckoned_status s.memory since j word) refl (λ d. refl) f.unguarded (fine_freed t r sweep.low sweep.bound j q f.holds k);
        goes = λ y. record {
          goes = goes_words t y r (freed r j sweep.bound) (reckoned_words (store s.memory (Status j) word) since) (reckoned_status s.memory since j word) (goes_freed t r sweep.low sweep.bound j q f.holds k y);
          warning = λ d ne. refl;
          stays = λ d ne. refl;
          retired = λ n is. is;
        };
        next = record { raised = w.0.raised; passed = w.0.passed };
      }

pushes : (t : Plan) (s : Shared) (since : ℕ → ℕ) (sweep : Sweep) (tops kind j q top : ℕ) → tops ≡ t.setting.sizes.tops → EpochHolds t s since → Passed t s since sweep.low t.setting.sizes.callers
    → Swept t s since (after_access s.memory (sweep_wants_at tops sweep.scheme (sweeps.PushTop kind j q top) sweep.bound)) (pushed t.setting.sizes sweep j q top (s.memory (Head kind))) s.present
pushes t s since sweep tops kind j q top same f w =
    subst (λ (n : ℕ). Swept t s since (after_access s.memory (sweep_wants_at n sweep.scheme (sweeps.PushTop kind j q top) sweep.bound)) (pushed t.setting.sizes sweep j q top (s.memory (Head kind))) s.present) (sym same)
    (of (s.memory (Head kind) == head_word t.setting.sizes.tops q top)) where
      here : (x : ℕ) → Passed t (with_words s (store s.memory (Head kind) x)) since sweep.low t.setting.sizes.callers
      here x = record { raised = w.raised; passed = w.passed }

      of : (b : Bool) → Swept t s since (store s.memory (Head kind) (if b then head_word t.setting.sizes.tops (max q sweep.bound) j else s.memory (Head kind))) (if b then sweep_on t.setting.sizes sweep j else sweep_goes sweep (sweeps.PushHead (kind_of t.setting.sizes j) j)) s.present
      of true = risen t s since (store s.memory (Head kind) (head_word t.setting.sizes.tops (max q sweep.bound) j)) (sweep_on t.setting.sizes sweep j) (head_risen s.memory since kind (head_word t.setting.sizes.tops (max q sweep.bound) j) f.holds.warning) (λ d. refl) f
          (on_next t (with_words s (store s.memory (Head kind) (head_word t.setting.sizes.tops (max q sweep.bound) j))) since sweep j (here (head_word t.setting.sizes.tops (max q sweep.bound) j)))
      of false = unchanged t s since (Head kind) (sweep_goes sweep (sweeps.PushHead (kind_of t.setting.sizes j) j)) f w

pub sweep_step : (t : Plan) (s : Shared) (since : ℕ → ℕ) (own : ℕ) (sweep : Sweep) (stage : SweepStage) → 1 ≤ t.setting.sizes.callers → sweep.scheme ≡ Announced own → sweep.tops ≡ t.setting.sizes.tops → EpochHolds t s since → SweepAt t s since sweep.low stage
    → Swept t s since (after_access s.memory (sweep_wants_at sweep.tops sweep.scheme stage sweep.bound)) (sweep_accepts_at t.setting.sizes t.setting.last sweep (s.memory (word_of (sweep_wants_at sweep.tops sweep.scheme stage sweep.bound))) stage) (freed_at stage s.memory s.present)
sweep_step t s since own sweep sweeps.ReadPhase some scheme same f w = unchanged t s since Phase (phase_read t.setting.last sweep (s.memory Phase)) f (of (s.memory Phase == t.setting.last)) where
  of : (b : Bool) → SweepNext t s since (if b then sweep_ends sweep (swept.PhasesOver (s.memory Phase)) else sweep_goes sweep (sweeps.RaisePhase (s.memory Phase))).sweep
      (if b then sweep_ends sweep (swept.PhasesOver (s.memory Phase)) else sweep_goes sweep (sweeps.RaisePhase (s.memory Phase))).ended
  of true = tt
  of false = omega arith
sweep_step t s since own sweep (sweeps.RaisePhase p) some scheme same f w =
    let le : p ≤ s.memory Phase = w in
    let to : ℕ = if s.memory Phase == p then p + 1 else s.memory Phase in
    let up : s.memory Phase ≤ (if s.memory Phase == p then p + 1 else s.memory Phase) = grind (arith, nat_tests) in
    let most : p + 1 ≤ (if s.memory Phase == p then p + 1 else s.memory Phase) = grind (arith, nat_tests) in
    risen t s since (store s.memory Phase to) _ (phase_risen s.memory since to up f.holds.warning) (λ d. refl) f
    (record { raised = most; passed = λ c lt. absurd (omega arith) }, some)
sweep_step t s since own sweep (sweeps.Warn c) some scheme same f w =
    subst (λ (scheme : Scheme). Swept t s since (after_access s.memory (warn_wanted scheme c sweep.bound)) (sweep_goes (record sweep { low = low_after scheme sweep.low (s.memory (word_of (warn_wanted scheme c sweep.bound))) }) (warn_next t.setting.sizes scheme c)) s.present) (sym scheme)
    (unchanged t s since (Warning c) (sweep_goes (record sweep { low = lower sweep.low (s.memory (Warning c)) }) (warn_next t.setting.sizes (Announced own) c)) f
    (heard_next t s since own (lower sweep.low (s.memory (Warning c))) c w.1 (passed_more t s since sweep.low c f w.0)))
sweep_step t s since own sweep (sweeps.ReadHazard c r) some scheme same f w = absurd w
sweep_step t s since own sweep (sweeps.ReadStatus j) some scheme same f w = unchanged t s since (Status j) (status_read t.setting.sizes sweep j (status_parts (s.memory (Status j)))) f (status_next t s since sweep j (status_parts (s.memory (Status j))) w)
sweep_step t s since own sweep (sweeps.MakeReady j q) some scheme same f w = frees t s since sweep j q f w
sweep_step t s since own sweep (sweeps.PushHead kind j) some scheme same f w = unchanged t s since (Head kind) (push_read sweep j (head_parts t.setting.sizes.tops (s.memory (Head kind)))) f w
sweep_step t s since own sweep (sweeps.PushLink j q top) some scheme same f w =
    risen t s since (store s.memory (Link j) top) (sweep_goes sweep (sweeps.PushTop (kind_of t.setting.sizes j) j q top)) (link_risen s.memory since j top f.holds.warning) (λ d. refl) f (record { raised = w.raised; passed = w.passed })
sweep_step t s since own sweep (sweeps.PushTop kind j q top) some scheme same f w = pushes t s since sweep sweep.tops kind j q top same f w
