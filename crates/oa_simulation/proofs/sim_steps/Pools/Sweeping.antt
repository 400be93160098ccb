-- The stages of a sweep: what each makes of what is shared, and what the sweep knows at the next.
use Rattle.std.proofs.Common.{ℕ, zero, suc, ◌≡◌, ◌≢◌, ◌==◌, ◌+◌, ◌-◌, ◌*◌, ◌≤◌, ◌<◌, ◌⊎◌, ◌∙◌, ◌||◌, Bool, true, false, List, [], ◌∷◌, Option, Some, None, arith, inl, inr, ⊎_elim, sym, ap, subst, refl, max, if◌then◌else◌}
use Rattle.std.specs.Prelude.{nat_lt}
use Rattle.std.proofs.lemmas.Bool.{cases_lt}
use Rattle.std.proofs.lemmas.Bool.Decides.{nat_tests}
use Rattle.std.proofs.lemmas.List.Folds.{list_any-append}
use Rattle.oa_words.specs.declared.packed.Kind.TheVariants as kinds
use Rattle.oa_words.specs.Words.{Word, Phase, Warning, Hazard, Status, Head, Link, slot_range}
use Rattle.oa_words.specs.SlotKinds.{kind_of}
use Rattle.oa_words.specs.Memories.{store}
use Rattle.oa_words.specs.Packed.{StatusParts, status_word, status_parts, head_word, head_parts}
use Rattle.guard_words.specs.Guards.{with_slot, has_slot}
use Rattle.phase_pools.specs.declared.access.SweepEnd.{SweepEnd}
use Rattle.phase_pools.specs.declared.access.SweepEnd.TheVariants as swept
use Rattle.phase_pools.specs.declared.stages.Scheme.TheVariants.{Warned}
use Rattle.phase_pools.specs.declared.stages.SweepStage.{SweepStage}
use Rattle.phase_pools.specs.declared.stages.SweepStage.TheVariants as sweeps
use Rattle.phase_pools.specs.Accesses.{word_of}
use Rattle.phase_pools.specs.Pools.{Sweep, SweepTurn, sweep_wants_at, sweep_accepts_at, sweep_goes, sweep_ends, sweep_on, phase_read, hazard_next, hazard_read, status_read, made_ready, push_read, pushed}
use Rattle.phase_pools.proofs.Statuses.{from_slot, from_status}
use Rattle.source_machine.specs.MethodRuns.{put}
use Rattle.oa_simulation.specs.sim_relation.Views.{Plan, Shared}
use Rattle.oa_simulation.specs.sim_relation.Shared.{SharedHolds}
use Rattle.oa_simulation.specs.sim_relation.Callers.{Sweeps, SweepAt}
use Rattle.oa_simulation.specs.sim_relation.Naming.{freed_at}
use Rattle.chain_laws.specs.Memories.{after_access}
use Rattle.oa_simulation.specs.sim_relation.Steps.{GoesForAll}
use Rattle.oa_simulation.proofs.sim_relation.Names.{has_slot_of}
use Rattle.oa_simulation.proofs.sim_relation.Words.{store_idle, each_warning}
use Rattle.oa_simulation.proofs.sim_relation.Moving.{goes_same}
use Rattle.oa_simulation.proofs.sim_steps.Pools.Phases.{Risen, with_words, fine_risen, goes_risen, phase_risen, warning_risen, head_risen, link_risen}
use Rattle.oa_simulation.proofs.sim_steps.Pools.Slots.{Freed, freed, dead_slot, fine_freed, goes_freed}

-- a sweep that raises the callers' warnings to its phase, and recycles what was retired before it; its heads are those of a row of so
-- many tops
pub record Warns (most : ℕ) (sweep : Sweep) : Type 0 where
  pub scheme : sweep.scheme ≡ Warned
  pub tops : sweep.tops ≡ most
  pub low : sweep.low ≡ sweep.bound

-- what a sweep that goes on knows
abbrev pub SweepNext : Plan → Shared → Sweep → Option SweepEnd → Type 0
SweepNext t s sweep None = SweepAt t s sweep.bound sweep.gathered sweep.stage
SweepNext t s sweep (Some end) = Unit {0}

pub record Swept (t : Plan) (s : Shared) (memory' : Word → ℕ) (turn : SweepTurn) (present' : ℕ → ℕ) : Type 0 where
  pub s' : Shared
  pub memory : s'.memory ≡ memory'
  pub present : s'.present ≡ present'
  pub source : s'.source ≡ s.source
  pub unused : s'.unused ≡ s.unused
  pub shared_holds : SharedHolds t s'
  pub goes : GoesForAll t s s'
  pub next : SweepNext t s' turn.sweep turn.ended

unchanged : (t : Plan) (s : Shared) (w : Word) (turn : SweepTurn) → SharedHolds t s → SweepNext t s turn.sweep turn.ended → Swept t s (store s.memory w (s.memory w)) turn s.present
unchanged t s w turn f next = record { s' = s; memory = store_idle s.memory w; present = refl; source = refl; unused = refl; shared_holds = f; goes = goes_same t s; next = next }

-- the phase, a warning, the head or a link is stored
risen : (t : Plan) (s : Shared) (m : Word → ℕ) (turn : SweepTurn) → Risen s.memory m → SharedHolds t s → SweepNext t (with_words s m) turn.sweep turn.ended → Swept t s m turn s.present
risen t s m turn r f next = record { s' = with_words s m; memory = refl; present = refl; source = refl; unused = refl; shared_holds = fine_risen t s m r f; goes = goes_risen t s m r; next = next }

on_next : (t : Plan) (s : Shared) (sweep : Sweep) (j : ℕ) → Sweeps t s sweep.bound t.setting.sizes.callers (8 * t.setting.sizes.callers) sweep.gathered
    → SweepNext t s (sweep_on t.setting.sizes sweep j).sweep (sweep_on t.setting.sizes sweep j).ended
on_next t s sweep j w = from_slot (λ turn. SweepNext t s turn.sweep turn.ended) t.setting.sizes sweep j (λ more. w) tt

status_next : (t : Plan) (s : Shared) (sweep : Sweep) (j : ℕ) (parts : Option StatusParts) → Warns t.setting.sizes.tops sweep → Sweeps t s sweep.bound t.setting.sizes.callers (8 * t.setting.sizes.callers) sweep.gathered
    → SweepNext t s (status_read t.setting.sizes sweep j parts).sweep (status_read t.setting.sizes sweep j parts).ended
status_next t s sweep j parts own w = from_status (λ turn. SweepNext t s turn.sweep turn.ended) t.setting.sizes sweep j parts (on_next t s sweep j w)
    (λ p is below away. let low = own.low in (w, omega (arith, below, low), away))

-- ---- hazard words

pub has_before : (g : List ℕ) (w j : ℕ) → has_slot g j ≡ true → has_slot (with_slot g w) j ≡ true
has_before g zero j is = is
has_before g (suc w) j is = list_any-append (λ slot. slot == j) g (suc w ∷ []) ∙ rw is refl

pub has_now : (g : List ℕ) (w j : ℕ) → w ≢ 0 → w ≡ j → has_slot (with_slot g w) j ≡ true
has_now g zero j some is = absurd (some refl)
has_now g (suc w) j some is = list_any-append (λ slot. slot == j) g (suc w ∷ []) ∙ last (has_slot g j) ((suc w) == j) (grind (arith, nat_tests)) where
  last : (a b : Bool) → b ≡ true → (a || (b || false)) ≡ true
  last true b is = refl
  last false true is = refl
  last false false is = is

-- the word before a place in the rows is passed, or it is the last
pub here_or_before : (d r x k : ℕ) → 8 * d + r < 8 * x + k + 1 → r < 8 → k < 8 → (8 * d + r < 8 * x + k) ⊎ ((d ≡ x) × (r ≡ k))
here_or_before d r x k lt r8 k8 = ⊎_elim (λ (l : 8 * d + r < 8 * x + k). inl l) (λ (ge : 8 * x + k ≤ 8 * d + r). inr (omega arith, omega arith)) (cases_lt (8 * d + r) (8 * x + k))

gathers : (t : Plan) (s : Shared) (p y x k : ℕ) (g : List ℕ) → SharedHolds t s → k < 8 → Sweeps t s p y (8 * x + k) g → Sweeps t s p y (8 * x + k + 1) (with_slot g (s.memory (Hazard x k)))
gathers t s p y x k g f lt w = record {
  raised = w.raised;
  warned = w.warned;
  gathered = λ d r q before some tagged below. ⊎_elim
      (λ (earlier : 8 * d + r < 8 * x + k). has_before g (s.memory (Hazard x k)) (t.home (s.protects d r)) (w.gathered d r q earlier some tagged below))
      (λ (here : (d ≡ x) × (r ≡ k)).
      let gd = f.guard d r some in
      let word : s.memory (Hazard x k) ≡ t.home (s.protects d r) = ap (λ (i : ℕ). s.memory (Hazard i k)) (sym here.0) ∙ (ap (λ (i : ℕ). s.memory (Hazard d i)) (sym here.1) ∙ gd.word) in
      has_now g (s.memory (Hazard x k)) (t.home (s.protects d r)) (λ z. has_slot_of t s (s.protects d r) f gd.resident some (sym word ∙ z)) word)
      (here_or_before d r x k before (f.guard d r some).register lt);
}

hazard_on : (t : Plan) (s : Shared) (p x k : ℕ) (g : List ℕ) → x < t.setting.sizes.callers → k < 8 → Sweeps t s p t.setting.sizes.callers (8 * x + k + 1) g → SweepAt t s p g (hazard_next t.setting.sizes x k)
hazard_on t s p x k g lx lk w = of (nat_lt (k + 1) 8) refl where
  last : (b : Bool) → nat_lt (k + 1) 8 ≡ false → nat_lt (x + 1) t.setting.sizes.callers ≡ b → SweepAt t s p g (if b then sweeps.ReadHazard (x + 1) 0 else sweeps.ReadStatus (slot_range t.setting.sizes).last)
  last true full is = let k7 : k ≡ 7 = grind (arith, nat_tests) in (subst (λ (m : ℕ). Sweeps t s p t.setting.sizes.callers m g) (omega (arith, k7)) w, grind (arith, nat_tests), omega arith)
  last false full is =
      let k7 : k ≡ 7 = grind (arith, nat_tests) in let end : x + 1 ≡ t.setting.sizes.callers = grind (arith, nat_tests) in
      subst (λ (m : ℕ). Sweeps t s p t.setting.sizes.callers m g) (omega (arith, k7, end)) w

  of : (b : Bool) → nat_lt (k + 1) 8 ≡ b → SweepAt t s p g (if b then sweeps.ReadHazard x (k + 1) else (if nat_lt (x + 1) t.setting.sizes.callers then sweeps.ReadHazard (x + 1) 0 else sweeps.ReadStatus (slot_range t.setting.sizes).last))
  of true is = (subst (λ (m : ℕ). Sweeps t s p t.setting.sizes.callers m g) (omega arith) w, lx, grind (arith, nat_tests))
  of false is = last (nat_lt (x + 1) t.setting.sizes.callers) is refl

-- ---- warnings

warned_more : (t : Plan) (s : Shared) (p x : ℕ) (g : List ℕ) → Sweeps t s p x 0 g → Sweeps t (with_words s (store s.memory (Warning x) (max (s.memory (Warning x)) p))) p (x + 1) 0 g
warned_more t s p x g w = record {
  raised = w.raised;
  warned = each_warning (λ d n. d < x + 1 → p ≤ n) s.memory x (max (s.memory (Warning x)) p) (λ lt. omega arith) (λ d ne lt. w.warned d (omega arith));
  gathered = λ d r q lt. absurd (omega arith);
}

warned_next : (t : Plan) (s : Shared) (p x : ℕ) (g : List ℕ) → x < t.setting.sizes.callers → Sweeps t s p (x + 1) 0 g → SweepAt t s p g (if nat_lt (x + 1) t.setting.sizes.callers then sweeps.Warn (x + 1) else sweeps.ReadHazard 0 0)
warned_next t s p x g lx w = of (nat_lt (x + 1) t.setting.sizes.callers) refl where
  of : (b : Bool) → nat_lt (x + 1) t.setting.sizes.callers ≡ b → SweepAt t s p g (if b then sweeps.Warn (x + 1) else sweeps.ReadHazard 0 0)
  of true is = (w, grind (arith, nat_tests))
  of false is = let end : x + 1 ≡ t.setting.sizes.callers = grind (arith, nat_tests) in (subst (λ (m : ℕ). Sweeps t s p m 0 g) end w, omega (arith, lx), omega arith)

-- ---- each stage

-- what a sweep that is about to free a slot knows of it: its name is under no validated guard, since all were gathered
pub may_free : (t : Plan) (s : Shared) (low j q : ℕ) (g : List ℕ) → SharedHolds t s → SweepAt t s low g (sweeps.MakeReady j q) → s.memory (Status j) ≡ status_word q kinds.Retired → Freed t s low j q
may_free t s low j q g f w word = record { word = word; below = w.1; warned = w.0.warned; spared = spared } where
  spared : (d r : ℕ) → s.protects d r ≢ 0 → t.home (s.protects d r) ≢ j
  spared d r some at =
      let gd = f.guard d r some in
      let named : s.present j ≡ s.protects d r = ap s.present (sym at) ∙ gd.resident in
      let lt : d < t.setting.sizes.callers = gd.caller in
      let lt8 : r < 8 = gd.register in
      let is : has_slot g (t.home (s.protects d r)) ≡ true = w.0.gathered d r q (omega (arith, lt, lt8)) some (ap s.tag (sym named) ∙ (dead_slot s j q (f.slot j) word).1) w.1 in
      let clash : true ≡ false = sym is ∙ (ap (λ (n : ℕ). has_slot g n) at ∙ w.2) in
      cc

frees : (t : Plan) (s : Shared) (sweep : Sweep) (j q : ℕ) → SharedHolds t s → SweepAt t s sweep.bound sweep.gathered (sweeps.MakeReady j q)
    → Swept t s (after_access s.memory (sweep_wants_at sweep.tops sweep.scheme (sweeps.MakeReady j q) sweep.bound)) (made_ready t.setting.sizes sweep j q (s.memory (Status j))) (freed_at (sweeps.MakeReady j q) s.memory s.present)
frees t s sweep j q f w = of (s.memory (Status j) == status_word q kinds.Retired) refl where
  of : (b : Bool) → (s.memory (Status j) == status_word q kinds.Retired) ≡ b
      → Swept t s (store s.memory (Status j) (if b then status_word sweep.bound kinds.Ready else s.memory (Status j))) (if b then sweep_goes sweep (sweeps.PushHead (kind_of t.setting.sizes j) j) else sweep_on t.setting.sizes sweep j) (if b then put s.present j 0 else s.present)
  of false is = unchanged t s (Status j) (sweep_on t.setting.sizes sweep j) f (on_next t s sweep j w.0)
  of true is =
      let word : s.memory (Status j) ≡ status_word q kinds.Retired = grind (arith, nat_tests) in
      let k = may_free t s sweep.bound j q sweep.gathered f w word in
      record {
        s' = freed s j sweep.bound;
        memory = refl;
        present = refl;
        source = refl;
        unused = refl;
        shared_holds = fine_freed t s sweep.bound sweep.bound j q f k;
        goes = goes_freed t s sweep.bound sweep.bound j q f k;
        next = w.0;
      }

pushes : (t : Plan) (s : Shared) (sweep : Sweep) (tops kind j q top : ℕ) → tops ≡ t.setting.sizes.tops → SharedHolds t s → Sweeps t s sweep.bound t.setting.sizes.callers (8 * t.setting.sizes.callers) sweep.gathered
    → Swept t s (after_access s.memory (sweep_wants_at tops sweep.scheme (sweeps.PushTop kind j q top) sweep.bound)) (pushed t.setting.sizes sweep j q top (s.memory (Head kind))) s.present
pushes t s sweep tops kind j q top own f w =
    subst (λ (n : ℕ). Swept t s (after_access s.memory (sweep_wants_at n sweep.scheme (sweeps.PushTop kind j q top) sweep.bound)) (pushed t.setting.sizes sweep j q top (s.memory (Head kind))) s.present) (sym own)
    (of (s.memory (Head kind) == head_word t.setting.sizes.tops q top)) where
      of : (b : Bool) → Swept t s (store s.memory (Head kind) (if b then head_word t.setting.sizes.tops (max q sweep.bound) j else s.memory (Head kind))) (if b then sweep_on t.setting.sizes sweep j else sweep_goes sweep (sweeps.PushHead (kind_of t.setting.sizes j) j)) s.present
      of true = risen t s (store s.memory (Head kind) (head_word t.setting.sizes.tops (max q sweep.bound) j)) (sweep_on t.setting.sizes sweep j) (head_risen s.memory kind (head_word t.setting.sizes.tops (max q sweep.bound) j) f.warning) f
          (on_next t (with_words s (store s.memory (Head kind) (head_word t.setting.sizes.tops (max q sweep.bound) j))) sweep j w)
      of false = unchanged t s (Head kind) (sweep_goes sweep (sweeps.PushHead (kind_of t.setting.sizes j) j)) f w

pub sweep_step : (t : Plan) (s : Shared) (sweep : Sweep) (stage : SweepStage) → 1 ≤ t.setting.sizes.callers → SharedHolds t s → Warns t.setting.sizes.tops sweep → SweepAt t s sweep.bound sweep.gathered stage
    → Swept t s (after_access s.memory (sweep_wants_at sweep.tops sweep.scheme stage sweep.bound)) (sweep_accepts_at t.setting.sizes t.setting.last sweep (s.memory (word_of (sweep_wants_at sweep.tops sweep.scheme stage sweep.bound))) stage) (freed_at stage s.memory s.present)
sweep_step t s sweep sweeps.ReadPhase some f own w = unchanged t s Phase (phase_read t.setting.last sweep (s.memory Phase)) f (of (s.memory Phase == t.setting.last)) where
  of : (b : Bool) → SweepNext t s (if b then sweep_ends sweep (swept.PhasesOver (s.memory Phase)) else sweep_goes sweep (sweeps.RaisePhase (s.memory Phase))).sweep
      (if b then sweep_ends sweep (swept.PhasesOver (s.memory Phase)) else sweep_goes sweep (sweeps.RaisePhase (s.memory Phase))).ended
  of true = tt
  of false = omega arith
sweep_step t s sweep (sweeps.RaisePhase p) some f own w =
    let le : p ≤ s.memory Phase = w in
    let up : s.memory Phase ≤ (if s.memory Phase == p then p + 1 else s.memory Phase) = grind (arith, nat_tests) in
    let to : p + 1 ≤ (if s.memory Phase == p then p + 1 else s.memory Phase) = grind (arith, nat_tests) in
    risen t s (store s.memory Phase (if s.memory Phase == p then p + 1 else s.memory Phase)) _ (phase_risen s.memory _ up f.warning) f
    (record { raised = to; warned = λ d lt. absurd (omega arith); gathered = λ d r q lt. absurd (omega arith) }, some)
sweep_step t s sweep (sweeps.Warn c) some f own w =
    let m : Word → ℕ = store s.memory (Warning c) (max (s.memory (Warning c)) sweep.bound) in
    rw own.scheme (risen t s m _ (warning_risen s.memory c sweep.bound w.0.raised f.warning) f (warned_next t (with_words s m) sweep.bound c sweep.gathered w.1 (warned_more t s sweep.bound c sweep.gathered w.0)))
sweep_step t s sweep (sweeps.ReadHazard c r) some f own w = unchanged t s (Hazard c r) (hazard_read t.setting.sizes sweep c r (s.memory (Hazard c r))) f
    (hazard_on t s sweep.bound c r (with_slot sweep.gathered (s.memory (Hazard c r))) w.1 w.2 (gathers t s sweep.bound t.setting.sizes.callers c r sweep.gathered f w.2 w.0))
sweep_step t s sweep (sweeps.ReadStatus j) some f own w = unchanged t s (Status j) (status_read t.setting.sizes sweep j (status_parts (s.memory (Status j)))) f (status_next t s sweep j (status_parts (s.memory (Status j))) own w)
sweep_step t s sweep (sweeps.MakeReady j q) some f own w = frees t s sweep j q f w
sweep_step t s sweep (sweeps.PushHead kind j) some f own w = unchanged t s (Head kind) (push_read sweep j (head_parts t.setting.sizes.tops (s.memory (Head kind)))) f w
sweep_step t s sweep (sweeps.PushLink j q top) some f own w = risen t s (store s.memory (Link j) top) (sweep_goes sweep (sweeps.PushTop (kind_of t.setting.sizes j) j q top)) (link_risen s.memory j top f.warning) f w
sweep_step t s sweep (sweeps.PushTop kind j q top) some f own w = pushes t s sweep sweep.tops kind j q top own.tops f w
