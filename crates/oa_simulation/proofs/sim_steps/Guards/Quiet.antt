-- Checks and guards of the real core, and the call that begins.
use Rattle.std.proofs.Common.{ℕ, ◌≡◌, ◌==◌, ◌+◌, ◌<◌, Bool, true, false, length, Some, arith, refl, if◌then◌else◌}
use Rattle.std.specs.Prelude.{slice_get}
use Rattle.std.proofs.lemmas.Bool.Decides.{nat_tests}
use Rattle.norm_lang.specs.declared.text.Reg.TheVariants.{Ref}
use Rattle.norm_lang.specs.Local.{Spot}
use Rattle.norm_lang.specs.Registers.{node_in}
use Rattle.target_code.specs.declared.target.TargetInstr.TheVariants.{Check, Guard}
use Rattle.oa_words.specs.Words.{Warning, Hazard}
use Rattle.oa_words.specs.Memories.{store}
use Rattle.caller_steps.specs.Entries.{one_more}
use Rattle.caller_parts.specs.Operands.{slot_in}
use Rattle.caller_steps.specs.After.{counted, checked, check_passed, check_failed, guarded}
use Rattle.target_laws.specs.Methods.{code_in}
use Rattle.oa_simulation.specs.sim_relation.Views.{Plan, IsPlan, Shared, Caller}
use Rattle.oa_simulation.specs.sim_relation.Shared.{SharedHolds}
use Rattle.oa_simulation.specs.sim_relation.Callers.{Calm, Base, Running, spot_of}
use Rattle.oa_simulation.specs.sim_relation.Allowing.{IsProperFor}
use Rattle.oa_simulation.specs.sim_relation.Steps.{KeptBy, checked_names, with_names, hazarded, regarded}
use Rattle.oa_simulation.specs.sim_relation.WasSet.{set_checked, set_onward}
use Rattle.oa_simulation.proofs.sim_relation.Words.{store_idle}
use Rattle.oa_simulation.proofs.sim_relation.Moving.{base_moved, running_moved}
use Rattle.oa_simulation.proofs.sim_steps.Walks.Stopping.{settles_ends}
use Rattle.oa_simulation.proofs.sim_steps.Guards.Checks.{checked_caller, checked_shared, Passing, fine_passed, goes_passed, base_passed, running_passed}
use Rattle.oa_simulation.proofs.sim_steps.Guards.Guarding.{fine_hazarded, goes_hazarded, base_hazarded}
use Rattle.oa_simulation.proofs.sim_steps.Guards.Publishing.{guard_name, running_guarded}
use Rattle.oa_simulation.proofs.sim_steps.Guards.Unguarding.{kept_ends, counted_caller}
use Rattle.oa_simulation.proofs.sim_steps.Walks.Restarting.{walks_restart, check_fails}
use Rattle.run_ahead.specs.Guards.{validated}
use Rattle.run_ahead.specs.Ahead.{erasing}

abbrev behind : Caller → Spot
behind x = record { at = x.entry.hand.at + 1; registers = x.entry.hand.registers }

-- a check that passes, and the local code after it
pub check_passes : (t : Plan) (c : ℕ) (s : Shared) (x : Caller) → IsPlan t → SharedHolds t s → Base t s c x → (walk : Running t s c x (spot_of x.entry.hand)) → slice_get (code_in walk.0.walk.method) x.entry.hand.at ≡ Some Check
    → c < t.setting.sizes.callers → Calm s c x → IsProperFor s x → length x.entry.hand.guards.slots ≡ 8
    → KeptBy t c s x (validated x.names) (set_onward t.target x.entry x.was_set x.entry.hand.registers) (store s.memory (Warning c) (s.memory (Warning c))) (check_passed t.target t.setting.sizes (counted x.entry))
check_passes t c s x plan f b walk is below calm proper count =
    let y = counted_caller x in
    let moves = running_moved t s c x (spot_of x.entry.hand) (one_more x.entry.running.steps) x.entry.counts x.entry.routine walk in
    let b' : Base t s c y = base_moved t s c x (one_more x.entry.running.steps) x.entry.counts x.entry.routine b in
    let p : Passing t s c y walk.0 = record { plan = plan; shared_holds = f; base = b'; walks = moves.1; gets = moves.3; below = below; calm = calm; proper = proper; count = count } in
    let next = base_passed t s c y b' in
    kept_ends t c s (checked_shared s c y) x _ (check_passed t.target t.setting.sizes (counted x.entry)) (store s.memory (Warning c) (s.memory (Warning c))) (fine_passed t s c y walk.0 p) (goes_passed t s c y walk.0 p) (store_idle s.memory (Warning c)) refl refl
    (settles_ends t (checked_shared s c y) c (checked_caller y) (behind x) plan (fine_passed t s c y walk.0 p)
    (record { number = next.number; seen = next.seen; old = next.old; hazard = next.hazard; protects = next.protects; known = next.known; cradle = next.cradle })
    (running_passed t s c y moves p is))

-- a check, whichever way it goes
pub check_kept : (t : Plan) (c : ℕ) (s : Shared) (x : Caller) → (plan : IsPlan t) → SharedHolds t s → Base t s c x → (walk : Running t s c x (spot_of x.entry.hand)) → slice_get (code_in walk.0.walk.method) x.entry.hand.at ≡ Some Check
    → c < t.setting.sizes.callers → IsProperFor s x → length x.entry.hand.guards.slots ≡ 8
    → KeptBy t c s x (checked_names (s.memory (Warning c) == x.entry.hand.seen) x.names) (set_checked t.target x.entry x.was_set (s.memory (Warning c) == x.entry.hand.seen)) (store s.memory (Warning c) (s.memory (Warning c))) (checked t.target t.setting.sizes (s.memory (Warning c)) (counted x.entry))
check_kept t c s x plan f b walk is below proper count = of (s.memory (Warning c) == x.entry.hand.seen) refl where
  of : (z : Bool) → (s.memory (Warning c) == x.entry.hand.seen) ≡ z
      → KeptBy t c s x (checked_names z x.names) (set_checked t.target x.entry x.was_set z) (store s.memory (Warning c) (s.memory (Warning c))) (if z then check_passed t.target t.setting.sizes (counted x.entry) else check_failed t.target t.setting.sizes (s.memory (Warning c)) (counted x.entry))
  of true same = let calm : x.entry.hand.seen ≡ s.memory (Warning c) = grind (arith, nat_tests) in check_passes t c s x plan f b walk is below calm proper count
  of false differs = check_fails t s c x walk.0 plan f b walk.1 (walks_restart t s c x walk.0 (erasing plan.compiled) walk.1 walk.2)

-- a guard, and the local code after it
pub guard_kept : (t : Plan) (c : ℕ) (s : Shared) (x : Caller) (k : ℕ) → IsPlan t → SharedHolds t s → Base t s c x → (walk : Running t s c x (spot_of x.entry.hand)) → slice_get (code_in walk.0.walk.method) x.entry.hand.at ≡ Some (Guard (Ref k))
    → k < length x.entry.hand.guards.slots
    → KeptBy t c s x (with_names x.names k (guard_name t walk.0 k)) (set_onward t.target x.entry x.was_set x.entry.hand.registers) (store s.memory (Hazard c k) (slot_in x.entry.hand.registers (Ref k))) (guarded t.target t.setting.sizes (Ref k) (counted x.entry))
guard_kept t c s x k plan f b walk is lt =
    let y = counted_caller x in
    let slot = node_in x.entry.hand.registers k in
    let moves = running_moved t s c x (spot_of x.entry.hand) (one_more x.entry.running.steps) x.entry.counts x.entry.routine walk in
    let b' : Base t s c y = base_moved t s c x (one_more x.entry.running.steps) x.entry.counts x.entry.routine b in
    let next = base_hazarded t c s y k slot (guard_name t walk.0 k) lt b' in
    kept_ends t c s (hazarded s c k slot) x _ (guarded t.target t.setting.sizes (Ref k) (counted x.entry)) (store s.memory (Hazard c k) slot) (fine_hazarded t c s k slot f) (goes_hazarded t c s k slot) refl refl refl
    (settles_ends t (hazarded s c k slot) c (regarded y k slot (guard_name t walk.0 k)) (behind x) plan (fine_hazarded t c s k slot f)
    (record { number = next.number; seen = next.seen; old = next.old; hazard = next.hazard; protects = next.protects; known = next.known; cradle = next.cradle })
    (running_guarded t s c y k plan moves lt is))
