-- Which signs begin a call: that of the load before a call's first method run, or of the store of its announcement, and no others.
--
-- One lemma for each small definition of `after`.
use Rattle.std.proofs.Common.{ℕ, zero, suc, ◌≡◌, ◌==◌, ◌+◌, ◌&&◌, Bool, true, false, refl, sym, ap, ◌∙◌, List, [], ◌∷◌, ◌++◌, length, Option, Some, None, if◌then◌else◌}
use Rattle.std.specs.Prelude.{slice_get, nat_lt}
use Rattle.norm_lang.specs.declared.text.Reg.{Reg}
use Rattle.norm_lang.specs.declared.text.CasEntry.{CasEntry}
use Rattle.norm_lang.specs.declared.text.Instr.{Instr}
use Rattle.norm_lang.specs.declared.text.Instr.TheVariants as instr
use Rattle.norm_lang.specs.declared.registers.Registers.{Registers}
use Rattle.norm_lang.specs.Registers.{number_in, with_count}
use Rattle.norm_lang.specs.Local.{Spot}
use Rattle.norm_lang.specs.declared.reply.SourceReply.TheVariants as replies
use Rattle.target_code.specs.declared.target.TargetInstr.{TargetInstr}
use Rattle.target_code.specs.declared.target.TargetInstr.TheVariants.{Plain, Check, Guard}
use Rattle.target_code.specs.declared.target.Target.{Target}
use Rattle.guard_words.specs.Guards.{pass_check, with_guard}
use Rattle.oa_words.specs.Words.{Sizes}
use Rattle.phase_pools.specs.declared.access.ClaimEnd.{ClaimEnd}
use Rattle.phase_pools.specs.declared.access.ClaimEnd.TheVariants as ends
use Rattle.phase_pools.specs.declared.stages.Scheme.{Scheme}
use Rattle.phase_pools.specs.declared.stages.Scheme.TheVariants.{Warned, Announced}
use Rattle.phase_pools.specs.Pools.{Claim, claim_accepts, claim_takes, Retirement, retire_accepts}
use Rattle.caller_parts.specs.declared.call.Call.{Call}
use Rattle.caller_parts.specs.declared.routine.AfterClear.{AfterClear}
use Rattle.caller_parts.specs.declared.routine.AfterClear.TheVariants as clears
use Rattle.caller_parts.specs.declared.routine.AfterRetire.{AfterRetire}
use Rattle.caller_parts.specs.declared.routine.AfterRetire.TheVariants as retires
use Rattle.caller_parts.specs.declared.routine.AnnounceReason.TheVariants as reasons
use Rattle.caller_parts.specs.declared.routine.Announcing.{Announcing}
use Rattle.caller_parts.specs.declared.routine.Announcing.TheVariants as announces
use Rattle.caller_parts.specs.declared.routine.MethodStart.{MethodStart}
use Rattle.caller_parts.specs.declared.routine.MethodStart.TheVariants as starts
use Rattle.caller_parts.specs.declared.routine.Routine.{Routine}
use Rattle.caller_parts.specs.declared.routine.Routine.TheVariants.{Idle, LoadSeen, At, InList, Retires, Restarts, Clears, Claims, Zeroes, Announces}
use Rattle.caller_parts.specs.declared.setting.Reclamation.{Reclamation}
use Rattle.caller_parts.specs.declared.setting.Reclamation.TheVariants.{Optimistic, Epochs}
use Rattle.caller_parts.specs.Settings.{Setting}
use Rattle.caller_steps.specs.Entries.{Entry, instr_in, new_kind, new_number, zero_count, cradle_of}
use Rattle.caller_parts.specs.Operands.{with_word, slot_in, register_number, list_of, succeeds, to_retire, with_new}
use Rattle.caller_steps.specs.Clearing.{restart_next, clear_next, unguarded}
use Rattle.caller_steps.specs.Signs.{Sign, Begins, Accesses, Moved, quiet}
use Rattle.caller_steps.specs.After.{accepted, after, announced, announced_list, announced_stop, cas_ended, cas_failed, check_failed, check_passed, checked, checked_by, claim_counted, claim_on, clear_on, cleared, counted, ended, entry_ended, first_spot, generator_begun, goes_on, guarded_by, instr_accepted, is_wrap_up, list_accepted, list_begun, list_ended, list_failed, list_goes, list_on, method_begun, new_begun, new_on, node_made, onward_goes, plain_accepted, plain_stop, restart_on, restarted, retired_on, retires_then, run_to, settles, signs, slot_gained, stop_at, stopped, stops, then_goes, with_access, with_hand, with_published, with_restart, with_routine, wrap_up_begun, wrap_up_hand, wrap_up_stop, wrap_up_stopped, wrap_up_stops, zeroed}
use Rattle.oa_simulation.proofs.sim_relation.Schemes.{NeverAnnounces}

abbrev pub begins : Sign → List Call
begins (Begins call) = call ∷ []
begins _ = []

-- the calls that signs begin
abbrev pub begun : List Sign → List Call
begun [] = []
begun (sign ∷ signs) = begins sign ++ begun signs

-- before an access of the announcement with which a call begins; under optimistic access no caller announces anything
abbrev pub begins_announcing : Reclamation → Announcing → Bool
begins_announcing Optimistic announcing = true
begins_announcing Epochs (announces.Loads reasons.Begin) = true
begins_announcing Epochs (announces.Stores reasons.Begin phase) = true
begins_announcing Epochs _ = false

-- before the load, or the announcement, with which a call begins
abbrev pub waits : Reclamation → Routine → Bool
waits by (LoadSeen starts.Begin) = true
waits by (Announces announcing) = begins_announcing by announcing
waits by _ = false

-- what a step made of an entry stands elsewhere, and its signs begin nothing
abbrev pub Onward : Reclamation → Moved → Type 0
Onward by m = (begun m.signs ≡ []) × (waits by m.entry.routine ≡ false)

owes_none : (b : Bool) → begun ((if b then Accesses ∷ [] else []) ++ []) ≡ []
owes_none true = refl
owes_none false = refl

module _ (target : Target) (sizes : Sizes) where
  new_begun_on : (by : Reclamation) (scheme : Scheme) (e : Entry) → waits by (new_begun scheme target sizes e).routine ≡ false
  new_begun_on by scheme e = of (cradle_of e (new_number target e)) where
    of : (j : ℕ) → waits by (new_on scheme sizes (new_kind target e) (new_number target e) j e).routine ≡ false
    of zero = refl
    of (suc j) = refl

  then_on : (next : AfterClear) (e : Entry) → waits Optimistic (then_goes target sizes next e).routine ≡ false
  then_on clears.New e = new_begun_on Optimistic Warned e
  then_on _ e = refl

  cleared_on : (next : AfterClear) (e : Entry) → waits Optimistic (cleared target sizes next e).routine ≡ false
  cleared_on next e = of (clear_next target next e) where
    of : (o : Option ℕ) → waits Optimistic (clear_on target sizes next o e).routine ≡ false
    of None = then_on next e
    of (Some r) = refl

  list_ended_on : (made : ℕ) (e : Entry) → waits Optimistic (list_ended target sizes made e).routine ≡ false
  list_ended_on made e = cleared_on clears.WrapUp (with_hand e (wrap_up_hand made e.hand))

  list_begun_on : (exchanges : List CasEntry) (e : Entry) → Onward Optimistic (list_begun target sizes exchanges e)
  list_begun_on [] e = (refl, list_ended_on 0 e)
  list_begun_on (exchange ∷ exchanges) e = (refl, refl)

  ended_on : (next : AfterClear) (e : Entry) → Onward Optimistic (ended target sizes next e)
  ended_on next e = (owes_none (e.hand.wrapup && e.hand.accessed), cleared_on next e)

  plain_on : (i : Instr) (e : Entry) → Onward Optimistic (plain_stop target sizes i e)
  plain_on (instr.New d kind) e = (refl, cleared_on clears.New e)
  plain_on (instr.Commit exchanges) e = list_begun_on exchanges e
  plain_on (instr.Return a) e = ended_on (clears.Reply (replies.Number (number_in e.hand.registers a))) e
  plain_on instr.ReturnNone e = ended_on (clears.Reply replies.Nothing) e
  plain_on instr.Again e = ended_on clears.Again e
  plain_on _ e = (refl, refl)

  -- under epochs
  wrap_up_on : (i : Instr) (e : Entry) → Onward Epochs (wrap_up_stop i e)
  wrap_up_on (instr.Return a) e = (owes_none (e.hand.wrapup && e.hand.accessed), refl)
  wrap_up_on instr.ReturnNone e = (owes_none (e.hand.wrapup && e.hand.accessed), refl)
  wrap_up_on instr.Again e = (owes_none (e.hand.wrapup && e.hand.accessed), refl)
  wrap_up_on _ e = (refl, refl)

  wrap_up_stopped_on : (e : Entry) → Onward Epochs (wrap_up_stopped target e)
  wrap_up_stopped_on e = of (instr_in target e) where
    of : (o : Option TargetInstr) → Onward Epochs (wrap_up_stops o e)
    of (Some (Plain i)) = wrap_up_on i e
    of _ = (refl, refl)

  wrap_up_begun_on : (made : ℕ) (e : Entry) → Onward Epochs (wrap_up_begun target made e)
  wrap_up_begun_on made e = wrap_up_stopped_on (run_to target (record { at = 0; registers = with_count e.hand.registers made }) (with_hand e (wrap_up_hand made e.hand)))

  announced_list_on : (exchanges : List CasEntry) (e : Entry) → Onward Epochs (announced_list target exchanges e)
  announced_list_on [] e = wrap_up_begun_on 0 e
  announced_list_on (exchange ∷ exchanges) e = (refl, refl)

  announced_stop_on : (i : Instr) (e : Entry) → Onward Epochs (announced_stop target sizes i e)
  announced_stop_on (instr.New d kind) e = (refl, new_begun_on Epochs (Announced e.number) e)
  announced_stop_on (instr.Commit exchanges) e = announced_list_on exchanges e
  announced_stop_on (instr.Return a) e = wrap_up_on (instr.Return a) e
  announced_stop_on instr.ReturnNone e = wrap_up_on instr.ReturnNone e
  announced_stop_on instr.Again e = wrap_up_on instr.Again e
  announced_stop_on _ e = (refl, refl)

  -- under either scheme
  stop_on : (by : Reclamation) (i : Instr) (e : Entry) → Onward by (stop_at by target sizes i e)
  stop_on Optimistic i e = plain_on i e
  stop_on Epochs i e = announced_stop_on i e

  stopped_on : (by : Reclamation) (e : Entry) → Onward by (stopped by target sizes e)
  stopped_on by e = of (instr_in target e) where
    of : (o : Option TargetInstr) → Onward by (stops by target sizes o e)
    of (Some (Plain i)) = stop_on by i e
    of _ = (refl, refl)

  settles_on : (by : Reclamation) (spot : Spot) (e : Entry) → Onward by (settles by target sizes spot e)
  settles_on by spot e = stopped_on by (run_to target spot e)

  method_on : (wrapup : Bool) (e : Entry) → Onward Optimistic (method_begun target sizes wrapup e)
  method_on wrapup e = settles_on Optimistic (first_spot wrapup e.running.call.args e.hand.started) (with_hand e (record e.hand { wrapup = wrapup; accessed = false }))

  restarted_on : (e : Entry) → Onward Optimistic (restarted target sizes e)
  restarted_on e = of (restart_next target e) where
    of : (o : Option ℕ) → Onward Optimistic (restart_on target sizes o e)
    of None = method_on e.hand.wrapup e
    of (Some r) = (refl, refl)

  pub generator_on : (e : Entry) → Onward Epochs (generator_begun target sizes e)
  generator_on e = settles_on Epochs (first_spot false e.running.call.args e.hand.started) (with_hand e (record e.hand { wrapup = false; accessed = false }))

  code_on : (by : Reclamation) (registers : Registers) (e : Entry) → Onward by (goes_on by target sizes registers e)
  code_on by registers e = settles_on by (record { at = e.hand.at + 1; registers = registers }) e

  next_entry_on : (k : ℕ) (e : Entry) → waits Optimistic (list_on target sizes k e).routine ≡ false
  next_entry_on k e = of (nat_lt (k + 1) (length (list_of (instr_in target e)))) where
    of : (b : Bool) → waits Optimistic (if b then with_routine e (InList (k + 1)) else list_ended target sizes (k + 1) e).routine ≡ false
    of true = refl
    of false = list_ended_on (k + 1) e

  list_goes_on : (by : Reclamation) (k : ℕ) (e : Entry) → Onward by (list_goes by target sizes k e)
  list_goes_on Optimistic k e = (refl, next_entry_on k e)
  list_goes_on Epochs k e = of (nat_lt (k + 1) (length (list_of (instr_in target e)))) where
    of : (b : Bool) → Onward Epochs (if b then quiet (with_routine e (InList (k + 1))) else wrap_up_begun target (k + 1) e)
    of true = (refl, refl)
    of false = wrap_up_begun_on (k + 1) e

  onward_on : (by : Reclamation) (go : AfterRetire) (e : Entry) → Onward by (onward_goes by target sizes go e)
  onward_on by retires.Next e = code_on by e.hand.registers e
  onward_on by (retires.List k) e = list_goes_on by k e

  retires_on : (by : Reclamation) (go : AfterRetire) (slot : ℕ) (e : Entry) → Onward by (retires_then by target sizes go slot e)
  retires_on by go zero e = onward_on by go e
  retires_on by go (suc j) e = (refl, refl)

  cas_on : (by : Reclamation) (exchange : CasEntry) (l word : ℕ) (e : Entry) → Onward by (cas_ended by target sizes exchange l word e)
  cas_on by exchange l word e = of (succeeds exchange e.hand.registers word) where
    of : (b : Bool) → Onward by (if b then retires_then by target sizes retires.Next (to_retire exchange.retire e.hand.registers) e else cas_failed by target sizes l e)
    of true = retires_on by retires.Next (to_retire exchange.retire e.hand.registers) e
    of false = settles_on by (record { at = l; registers = e.hand.registers }) e

  checked_on : (word : ℕ) (e : Entry) → Onward Optimistic (checked target sizes word e)
  checked_on word e = of (word == e.hand.seen) where
    of : (b : Bool) → Onward Optimistic (if b then check_passed target sizes e else check_failed target sizes word e)
    of true = code_on Optimistic e.hand.registers (with_hand e (record e.hand { guards = pass_check e.hand.guards }))
    of false = restarted_on (with_hand (with_restart e) (record e.hand { seen = word; accessed = false }))

  accepted_plain : (by : Reclamation) (i : Instr) (word : ℕ) (e : Entry) → waits by e.routine ≡ false → Onward by (plain_accepted by target sizes i word e)
  accepted_plain by (instr.LoadRoot d x) word e on = code_on by (with_word e.hand.registers d word) (with_access e)
  accepted_plain by (instr.LoadPick d x n a) word e on = code_on by (with_word e.hand.registers d word) (with_access e)
  accepted_plain by (instr.LoadField d a f) word e on = code_on by (with_word e.hand.registers d word) (with_access e)
  accepted_plain by (instr.Put a f b) word e on = code_on by e.hand.registers e
  accepted_plain by (instr.Cas exchange l) word e on = cas_on by exchange l word (with_access e)
  accepted_plain by _ word e on = (refl, on)

  checked_by_on : (by : Reclamation) (word : ℕ) (e : Entry) → waits by e.routine ≡ false → Onward by (checked_by by target sizes word e)
  checked_by_on Optimistic word e on = checked_on word e
  checked_by_on Epochs word e on = (refl, on)

  guarded_by_on : (by : Reclamation) (r : Reg) (e : Entry) → waits by e.routine ≡ false → Onward by (guarded_by by target sizes r e)
  guarded_by_on Optimistic r e on =
      code_on Optimistic e.hand.registers (with_hand e (record e.hand { guards = with_guard e.hand.guards (register_number r) (slot_in e.hand.registers r) }))
  guarded_by_on Epochs r e on = (refl, on)

  accepted_instr : (by : Reclamation) (o : Option TargetInstr) (word : ℕ) (e : Entry) → waits by e.routine ≡ false → Onward by (instr_accepted by target sizes o word e)
  accepted_instr by None word e on = (refl, on)
  accepted_instr by (Some (Plain i)) word e on = accepted_plain by i word e on
  accepted_instr by (Some Check) word e on = checked_by_on by word e on
  accepted_instr by (Some (Guard r)) word e on = guarded_by_on by r e on

  failed_on : (by : Reclamation) (k : ℕ) (e : Entry) → Onward by (list_failed by target sizes k e)
  failed_on Optimistic k e = (refl, list_ended_on k e)
  failed_on Epochs k e = wrap_up_begun_on k e

  entry_on : (by : Reclamation) (k : ℕ) (exchange : CasEntry) (word : ℕ) (e : Entry) → Onward by (entry_ended by target sizes k exchange word e)
  entry_on by k exchange word e = of (succeeds exchange e.hand.registers word) where
    of : (b : Bool) → Onward by (if b then retires_then by target sizes (retires.List k) (to_retire exchange.retire e.hand.registers) (with_published exchange.replacement e) else list_failed by target sizes k e)
    of true = retires_on by (retires.List k) (to_retire exchange.retire e.hand.registers) (with_published exchange.replacement e)
    of false = failed_on by k e

  list_accepted_on : (by : Reclamation) (k : ℕ) (o : Option CasEntry) (word : ℕ) (e : Entry) → waits by e.routine ≡ false → Onward by (list_accepted by target sizes k o word e)
  list_accepted_on by k None word e on = (refl, on)
  list_accepted_on by k (Some exchange) word e on = entry_on by k exchange word e

  retirement_on : (by : Reclamation) (go : AfterRetire) (o : Option Retirement) (e : Entry) → Onward by (retired_on by target sizes go o e)
  retirement_on by go None e = onward_on by go (with_routine e At)
  retirement_on by go (Some retirement) e = (refl, refl)

  gained_on : (by : Reclamation) (made j : ℕ) (e : Entry) → waits by (slot_gained by target made j e).routine ≡ false
  gained_on Epochs zero j e = refl
  gained_on _ _ j e = refl

  claim_goes : (by : Reclamation) (claim : Claim) (o : Option ClaimEnd) (e : Entry) → Onward by (claim_on by target claim o e)
  claim_goes by claim (Some (ends.Claimed j)) e = (refl, gained_on by claim.sweeps j (with_routine e At))
  claim_goes by claim _ e = (refl, refl)

  zeroed_on : (by : Reclamation) (k field : ℕ) (e : Entry) → Onward by (zeroed by target sizes k field e)
  zeroed_on by k field e = of (nat_lt (field + 1) (zero_count target (instr_in target e))) where
    of : (b : Bool) → Onward by (if b then quiet (with_routine e (Zeroes k (field + 1))) else node_made by target sizes (cradle_of e k) e)
    of true = (refl, refl)
    of false = code_on by (with_new (instr_in target e) (cradle_of e k) e.hand.registers) e

  seen_on : (why : MethodStart) (word : ℕ) (e : Entry) → Onward Optimistic (method_begun target sizes (is_wrap_up why) (with_hand e (record e.hand { seen = word })))
  seen_on why word e = method_on (is_wrap_up why) (with_hand e (record e.hand { seen = word }))

-- before the access with which a call begins
abbrev pub begins_at : Routine → Bool
begins_at (LoadSeen starts.Begin) = true
begins_at (Announces (announces.Stores reasons.Begin phase)) = true
begins_at _ = false

abbrev call_if : Bool → Call → List Call
call_if b call = if b then call ∷ [] else []

-- what a step begins: the call, if its caller stood before the access with which it begins; and it stands elsewhere afterwards, but for
-- announcements
abbrev Starts : Reclamation → Entry → Routine → Moved → Type 0
Starts by e routine m = (begun m.signs ≡ call_if (begins_at routine) e.running.call) × (NeverAnnounces routine → waits by m.entry.routine ≡ false)

-- fewer wait under epochs
fewer_wait : (by : Reclamation) (r : Routine) → waits Optimistic r ≡ false → waits by r ≡ false
fewer_wait by (LoadSeen starts.Begin) on = on
fewer_wait by (Announces announcing) on = absurd (let no : true ≡ false = on in cc)
fewer_wait by _ on = refl

-- no announcement begins a call but the first one's store
announced_starts : (target : Target) (sizes : Sizes) (announcing : Announcing) (word : ℕ) (e : Entry) → begun (announced target sizes announcing word e).signs ≡ call_if (begins_at (Announces announcing)) e.running.call
announced_starts target sizes (announces.Loads why) word e = refl
announced_starts target sizes (announces.Stores reasons.Begin phase) word e = ap (λ (l : List Call). e.running.call ∷ l) (generator_on target sizes e).0
announced_starts target sizes (announces.Stores reasons.Again phase) word e = (generator_on target sizes e).0
announced_starts target sizes (announces.Stores reasons.Swept phase) word e = (generator_on target sizes e).0
announced_starts target sizes (announces.Leaves reply) word e = refl

step_starts : (by : Reclamation) (target : Target) (setting : Setting) (word : ℕ) (e : Entry) (routine : Routine) → e.routine ≡ routine → Starts by e routine (accepted by target setting word e routine)
step_starts by target setting word e Idle is = (refl, λ never. ap (waits by) is)
step_starts by target setting word e (LoadSeen starts.Begin) is =
    let on = seen_on target setting.sizes starts.Begin word e in (ap (λ (l : List Call). e.running.call ∷ l) on.0, λ never. fewer_wait by _ on.1)
step_starts by target setting word e (LoadSeen starts.WrapUp) is = let on = seen_on target setting.sizes starts.WrapUp word e in (on.0, λ never. fewer_wait by _ on.1)
step_starts by target setting word e (LoadSeen starts.Again) is = let on = seen_on target setting.sizes starts.Again word e in (on.0, λ never. fewer_wait by _ on.1)
step_starts by target setting word e At is = let on = accepted_instr target setting.sizes by (instr_in target e) word e (ap (waits by) is) in (on.0, λ never. on.1)
step_starts by target setting word e (InList k) is =
    let on = list_accepted_on target setting.sizes by k (slice_get (list_of (instr_in target e)) k) word e (ap (waits by) is) in (on.0, λ never. on.1)
step_starts by target setting word e (Retires retirement go) is = let on = retirement_on target setting.sizes by go (retire_accepts retirement word) e in (on.0, λ never. on.1)
step_starts by target setting word e Restarts is =
    let on = restarted_on target setting.sizes (with_hand e (unguarded (restart_next target e) e.hand)) in (on.0, λ never. fewer_wait by _ on.1)
step_starts by target setting word e (Clears next) is = (refl, λ never. fewer_wait by _ (cleared_on target setting.sizes next (with_hand e (unguarded (clear_next target next e) e.hand))))
step_starts by target setting word e (Claims claim) is =
    let turn = claim_accepts setting.sizes setting.last claim word in
    let on = claim_goes target setting.sizes by turn.claim turn.ended (claim_counted (claim_takes setting.sizes claim word) e) in
    (on.0, λ never. on.1)
step_starts by target setting word e (Zeroes k field) is = let on = zeroed_on target setting.sizes by k field e in (on.0, λ never. on.1)
step_starts by target setting word e (Announces announcing) is = (announced_starts target setting.sizes announcing word e, λ never. absurd (never announcing refl))

-- of a step, under either scheme
pub after_starts : (target : Target) (setting : Setting) (e : Entry) (word : ℕ)
    → (begun (signs target setting e word) ≡ (if begins_at e.routine then e.running.call ∷ [] else [])) × (NeverAnnounces e.routine → waits setting.reclamation (after target setting e word).routine ≡ false)
unfolding after signs
after_starts target setting e word = step_starts setting.reclamation target setting word (counted e) e.routine refl

-- under optimistic access who doesn't wait announces nothing
pub never_waits : (r : Routine) → waits Optimistic r ≡ false → NeverAnnounces r
never_waits r on announcing is = let no : true ≡ false = sym (ap (waits Optimistic) is) ∙ on in cc

-- and its call begins with the next step exactly if it waits
pub begins_waiting : (r : Routine) → NeverAnnounces r → begins_at r ≡ waits Optimistic r
begins_waiting (Announces announcing) never = absurd (never announcing refl)
begins_waiting _ never = refl
