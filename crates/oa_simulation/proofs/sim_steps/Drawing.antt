-- A quiet step draws no name.
use Rattle.std.proofs.Common.{ℕ, ◌≡◌, ◌&&◌, ◌==◌, ◌+◌, if◌then◌else◌, Bool, true, false, List, [], ◌∷◌, ◌++◌, length, Option, Some, None, refl}
use Rattle.std.specs.Prelude.{nat_lt}
use Rattle.std.specs.List.{list_all}
use Rattle.norm_lang.specs.declared.text.Instr.{Instr}
use Rattle.norm_lang.specs.declared.text.Instr.TheVariants as instr
use Rattle.norm_lang.specs.declared.registers.Registers.{Registers}
use Rattle.norm_lang.specs.Local.{Spot}
use Rattle.target_code.specs.LocalCode.{target_run}
use Rattle.guard_words.specs.Guards.{with_guard, pass_check}
use Rattle.target_code.specs.declared.target.TargetInstr.{TargetInstr}
use Rattle.target_code.specs.declared.target.TargetInstr.TheVariants.{Plain, Check, Guard}
use Rattle.target_code.specs.declared.target.Target.{Target}
use Rattle.oa_words.specs.Words.{Sizes}
use Rattle.phase_pools.specs.declared.access.ClaimEnd.{ClaimEnd}
use Rattle.phase_pools.specs.declared.access.ClaimEnd.TheVariants as ends
use Rattle.phase_pools.specs.Pools.{Claim, Retirement, claim_accepts, claim_takes, retire_accepts}
use Rattle.caller_parts.specs.declared.routine.MethodStart.TheVariants as starts
use Rattle.caller_parts.specs.declared.routine.AfterRetire.{AfterRetire}
use Rattle.caller_parts.specs.declared.routine.AfterRetire.TheVariants as onward
use Rattle.caller_parts.specs.declared.routine.Routine.{Routine}
use Rattle.caller_parts.specs.declared.routine.Routine.TheVariants.{Idle, LoadSeen, At, InList, Retires, Restarts, Clears, Claims, Zeroes, Announces}
use Rattle.caller_parts.specs.Settings.{Setting}
use Rattle.caller_steps.specs.Entries.{Entry, code_in, instr_in, cradle_of, zero_count}
use Rattle.caller_parts.specs.Operands.{register_number, slot_in}
use Rattle.caller_steps.specs.Clearing.{restart_next, unguarded}
use Rattle.caller_steps.specs.After.{stops, plain_stop, settles, restart_on, check_passed, check_failed, onward_goes, retired_on, claim_counted, claim_on, instr_accepted, accepted, counted, node_made, with_routine, with_hand, hand_at, goes_on, method_begun, first_spot, with_restart}
use Rattle.caller_steps.specs.After.{moved as after_moves}
use Rattle.caller_steps.specs.Signs.{Sign, Accesses, Draws, quiet}
use Rattle.caller_steps.specs.Stands.{is_stop}
use Rattle.oa_simulation.specs.sim_steps.Quiet.{is_quiet_at, is_quiet}
use Rattle.caller_parts.specs.declared.setting.Reclamation.TheVariants.{Optimistic}
use Rattle.oa_simulation.proofs.sim_relation.Schemes.{NeverAnnounces}

abbrev pub draws_none : Sign → Bool
draws_none (Draws j) = false
draws_none _ = true

-- no sign of a list draws a name
abbrev pub DrawsNone : List Sign → Type 0
DrawsNone signs = list_all draws_none signs ≡ true

owed_draws : (b : Bool) → DrawsNone ((if b then Accesses ∷ [] else []) ++ [])
owed_draws true = refl
owed_draws false = refl

module _ (target : Target) (sizes : Sizes) where
  plain_draws : (i : Instr) (e : Entry) → DrawsNone (plain_stop target sizes i e).signs
  plain_draws (instr.New d kind) e = refl
  plain_draws (instr.Commit []) e = refl
  plain_draws (instr.Commit (exchange ∷ exchanges)) e = refl
  plain_draws (instr.Return a) e = owed_draws (e.hand.wrapup && e.hand.accessed)
  plain_draws instr.ReturnNone e = owed_draws (e.hand.wrapup && e.hand.accessed)
  plain_draws instr.Again e = owed_draws (e.hand.wrapup && e.hand.accessed)
  plain_draws _ e = refl

  stops_draw : (o : Option TargetInstr) (e : Entry) → DrawsNone (stops Optimistic target sizes o e).signs
  stops_draw (Some (Plain i)) e = plain_draws i e
  stops_draw _ e = refl

  settled_draws : (spot : Spot) (e : Entry) → DrawsNone (settles Optimistic target sizes spot e).signs
  settled_draws spot e =
      let there : Entry = with_hand e (hand_at e.hand (target_run (code_in target e) (length (code_in target e)) spot)) in stops_draw (instr_in target there) there

  goes_draws : (registers : Registers) (e : Entry) → DrawsNone (goes_on Optimistic target sizes registers e).signs
  goes_draws registers e = settled_draws (record { at = e.hand.at + 1; registers = registers }) e

  begun_draws : (wrapup : Bool) (e : Entry) → DrawsNone (method_begun target sizes wrapup e).signs
  begun_draws wrapup e = settled_draws (first_spot wrapup e.running.call.args e.hand.started) (with_hand e (record e.hand { wrapup = wrapup; accessed = false }))

  restart_draws : (o : Option ℕ) (e : Entry) → DrawsNone (restart_on target sizes o e).signs
  restart_draws None e = begun_draws e.hand.wrapup e
  restart_draws (Some r) e = refl

  check_draws : (b : Bool) (word : ℕ) (e : Entry) → DrawsNone (if b then check_passed target sizes e else check_failed target sizes word e).signs
  check_draws true word e = goes_draws e.hand.registers (with_hand e (record e.hand { guards = pass_check e.hand.guards }))
  check_draws false word e = let failed : Entry = with_hand (with_restart e) (record e.hand { seen = word; accessed = false }) in restart_draws (restart_next target failed) failed

  onward_draws : (go : AfterRetire) (e : Entry) → DrawsNone (onward_goes Optimistic target sizes go e).signs
  onward_draws onward.Next e = goes_draws e.hand.registers e
  onward_draws (onward.List k) e = refl

  retired_draws : (go : AfterRetire) (o : Option Retirement) (e : Entry) → DrawsNone (retired_on Optimistic target sizes go o e).signs
  retired_draws go None e = onward_draws go (with_routine e At)
  retired_draws go (Some retirement) e = refl

  claim_draws : (claim : Claim) (o : Option ClaimEnd) (e : Entry) → DrawsNone (claim_on Optimistic target claim o e).signs
  claim_draws claim (Some (ends.Claimed j)) e = refl
  claim_draws claim _ e = refl

  instr_draws : (o : Option TargetInstr) (word : ℕ) (e : Entry) → is_stop o ≡ true → DrawsNone (instr_accepted Optimistic target sizes o word e).signs
  instr_draws None word e is = refl
  instr_draws (Some (Plain i)) word e is = absurd (let z : false ≡ true = is in cc)
  instr_draws (Some Check) word e is = check_draws (word == e.hand.seen) word e
  instr_draws (Some (Guard r)) word e is = goes_draws e.hand.registers (with_hand e (record e.hand { guards = with_guard e.hand.guards (register_number r) (slot_in e.hand.registers r) }))

  zero_draws : (b : Bool) (k field : ℕ) (e : Entry) → b ≡ true → DrawsNone (if b then quiet (with_routine e (Zeroes k (field + 1))) else node_made Optimistic target sizes (cradle_of e k) e).signs
  zero_draws true k field e is = refl
  zero_draws false k field e is = absurd (let z : false ≡ true = is in cc)

at_routine : (target : Target) (setting : Setting) (word : ℕ) (e : Entry) (r : Routine) → NeverAnnounces r → is_quiet_at target setting e r ≡ true → DrawsNone (accepted Optimistic target setting word (counted e) r).signs
at_routine target setting word e Idle never is = refl
at_routine target setting word e (LoadSeen starts.Begin) never is = begun_draws target setting.sizes false (with_hand (counted e) (record e.hand { seen = word }))
at_routine target setting word e (LoadSeen starts.WrapUp) never is = begun_draws target setting.sizes true (with_hand (counted e) (record e.hand { seen = word }))
at_routine target setting word e (LoadSeen starts.Again) never is = begun_draws target setting.sizes false (with_hand (counted e) (record e.hand { seen = word }))
at_routine target setting word e At never is = instr_draws target setting.sizes (instr_in target e) word (counted e) is
at_routine target setting word e (InList k) never is = absurd (let z : false ≡ true = is in cc)
at_routine target setting word e (Retires retirement go) never is = retired_draws target setting.sizes go (retire_accepts retirement word) (counted e)
at_routine target setting word e Restarts never is =
    let cleared : Entry = with_hand (counted e) (unguarded (restart_next target e) e.hand) in restart_draws target setting.sizes (restart_next target cleared) cleared
at_routine target setting word e (Clears next) never is = refl
at_routine target setting word e (Claims claim) never is = claim_draws target setting.sizes (claim_accepts setting.sizes setting.last claim word).claim (claim_accepts setting.sizes setting.last claim word).ended (claim_counted (claim_takes setting.sizes claim word) (counted e))
at_routine target setting word e (Zeroes k field) never is = zero_draws target setting.sizes (nat_lt (field + 1) (zero_count target (instr_in target e))) k field (counted e) is
at_routine target setting word e (Announces announcing) never is = absurd (never announcing refl)

pub quiet_draws_none : (target : Target) (setting : Setting) (e : Entry) (word : ℕ) → NeverAnnounces e.routine → is_quiet target setting e ≡ true → DrawsNone (after_moves Optimistic target setting e word).signs
quiet_draws_none target setting e word never is = at_routine target setting word e e.routine never is
