-- Where a caller stands after a step: what holds of every place at which a routine may begin, and of the claim and the retirement that
-- are under way as they go on, holds of it.
--
-- One lemma for each small definition of `after`.
use Rattle.std.proofs.Common.{ℕ, zero, suc, ◌≡◌, ◌==◌, ◌+◌, Bool, true, false, refl, sym, subst, List, [], ◌∷◌, length, Option, Some, None, if◌then◌else◌}
use Rattle.std.specs.Prelude.{slice_get, nat_lt}
use Rattle.norm_lang.specs.declared.text.Reg.{Reg}
use Rattle.norm_lang.specs.declared.text.CasEntry.{CasEntry}
use Rattle.norm_lang.specs.declared.text.Instr.{Instr}
use Rattle.norm_lang.specs.declared.text.Instr.TheVariants as instr
use Rattle.norm_lang.specs.declared.registers.Registers.{Registers}
use Rattle.norm_lang.specs.Registers.{number_in, with_count}
use Rattle.norm_lang.specs.Local.{Spot}
use Rattle.norm_lang.specs.declared.reply.SourceReply.{SourceReply}
use Rattle.norm_lang.specs.declared.reply.SourceReply.TheVariants as replies
use Rattle.target_code.specs.declared.target.TargetInstr.{TargetInstr}
use Rattle.target_code.specs.declared.target.TargetInstr.TheVariants.{Plain, Check, Guard}
use Rattle.target_code.specs.declared.target.Target.{Target}
use Rattle.guard_words.specs.Guards.{pass_check, with_guard}
use Rattle.oa_words.specs.Words.{Sizes}
use Rattle.phase_pools.specs.declared.access.ClaimEnd.{ClaimEnd}
use Rattle.phase_pools.specs.declared.access.ClaimEnd.TheVariants as ends
use Rattle.phase_pools.specs.declared.stages.Scheme.{Scheme}
use Rattle.phase_pools.specs.declared.stages.Scheme.TheVariants.{Warned, Announced}
use Rattle.phase_pools.specs.Pools.{Claim, claim_begun, claim_takes, claim_accepts, Retirement, retire_begun, retire_accepts}
use Rattle.caller_parts.specs.declared.routine.MethodStart.{MethodStart}
use Rattle.caller_parts.specs.declared.routine.MethodStart.TheVariants as starts
use Rattle.caller_parts.specs.declared.routine.AfterClear.{AfterClear}
use Rattle.caller_parts.specs.declared.routine.AfterClear.TheVariants as clears
use Rattle.caller_parts.specs.declared.routine.AfterRetire.{AfterRetire}
use Rattle.caller_parts.specs.declared.routine.AfterRetire.TheVariants as retires
use Rattle.caller_parts.specs.declared.routine.AnnounceReason.{AnnounceReason}
use Rattle.caller_parts.specs.declared.routine.AnnounceReason.TheVariants as reasons
use Rattle.caller_parts.specs.declared.routine.Announcing.{Announcing}
use Rattle.caller_parts.specs.declared.routine.Announcing.TheVariants as announces
use Rattle.caller_parts.specs.declared.routine.Routine.{Routine}
use Rattle.caller_parts.specs.declared.routine.Routine.TheVariants.{Idle, LoadSeen, At, InList, Retires, Restarts, Clears, Claims, Zeroes, Announces}
use Rattle.caller_parts.specs.declared.setting.Reclamation.{Reclamation}
use Rattle.caller_parts.specs.declared.setting.Reclamation.TheVariants.{Optimistic, Epochs}
use Rattle.caller_parts.specs.Settings.{Setting}
use Rattle.caller_steps.specs.Entries.{Entry, instr_in, new_kind, new_number, zero_count, cradle_of}
use Rattle.caller_parts.specs.Operands.{with_word, slot_in, register_number, list_of, succeeds, to_retire, with_new}
use Rattle.caller_steps.specs.Clearing.{restart_next, clear_next, unguarded}
use Rattle.caller_steps.specs.Signs.{quiet}
use Rattle.caller_steps.specs.After.{accepted, after, announced, announced_list, announced_stop, cas_ended, cas_failed, check_failed, check_passed, checked, checked_by, claim_counted, claim_on, clear_on, cleared, counted, entry_ended, first_spot, generator_begun, goes_on, guarded_by, instr_accepted, is_wrap_up, list_accepted, list_begun, list_ended, list_failed, list_goes, list_on, method_begun, new_begun, new_on, node_made, onward_goes, plain_accepted, plain_stop, restart_on, restarted, retired_on, retires_then, run_to, settles, slot_gained, stop_at, stopped, stops, then_goes, with_access, with_hand, with_published, with_restart, with_routine, wrap_up_begun, wrap_up_hand, wrap_up_stop, wrap_up_stopped, wrap_up_stops, zeroed}

-- it holds wherever a routine may begin
pub record HoldsAtBegins (target : Target) (sizes : Sizes) (Holds : Routine → Type 0) : Type 0 where
  pub idle : Holds Idle
  pub seen : (why : MethodStart) → Holds (LoadSeen why)
  pub here : Holds At
  pub lists : (k : ℕ) → Holds (InList k)
  pub retires : (j : ℕ) (go : AfterRetire) → Holds (Retires (retire_begun (suc j)) go)
  pub restarts : Holds Restarts
  pub clears : (next : AfterClear) → Holds (Clears next)
  -- whatever the scheme
  pub claims : (e : Entry) (scheme : Scheme) → Holds (Claims (claim_begun sizes (new_kind target e) scheme))
  pub zeroes : (k field : ℕ) → Holds (Zeroes k field)
  pub announces : (announcing : Announcing) → Holds (Announces announcing)

-- the same, except where a claim that has swept leads
pub record HoldsAtStarts (target : Target) (sizes : Sizes) (Holds : Routine → Type 0) : Type 0 where
  pub idle : Holds Idle
  pub seen : (why : MethodStart) → Holds (LoadSeen why)
  pub here : Holds At
  pub lists : (k : ℕ) → Holds (InList k)
  pub retires : (j : ℕ) (go : AfterRetire) → Holds (Retires (retire_begun (suc j)) go)
  pub restarts : Holds Restarts
  pub clears : (next : AfterClear) → Holds (Clears next)
  pub claims : (e : Entry) (scheme : Scheme) → Holds (Claims (claim_begun sizes (new_kind target e) scheme))
  pub zeroes : (k field : ℕ) → Holds (Zeroes k field)
  pub again : Holds (Announces (announces.Loads reasons.Again))
  pub stores : (why : AnnounceReason) (phase : ℕ) → Holds (Announces (announces.Stores why phase))
  pub leaves : (reply : SourceReply) → Holds (Announces (announces.Leaves reply))

starts_of : (target : Target) (sizes : Sizes) (Holds : Routine → Type 0) → HoldsAtBegins target sizes Holds → HoldsAtStarts target sizes Holds
starts_of target sizes Holds h = record {
  idle = h.idle;
  seen = h.seen;
  here = h.here;
  lists = h.lists;
  retires = h.retires;
  restarts = h.restarts;
  clears = h.clears;
  claims = h.claims;
  zeroes = h.zeroes;
  again = h.announces (announces.Loads reasons.Again);
  stores = λ why phase. h.announces (announces.Stores why phase);
  leaves = λ reply. h.announces (announces.Leaves reply);
}

module _ (target : Target) (sizes : Sizes) (Holds : Routine → Type 0) (h : HoldsAtStarts target sizes Holds) where
  new_routed : (scheme : Scheme) (e : Entry) → Holds (new_begun scheme target sizes e).routine
  new_routed scheme e = of (cradle_of e (new_number target e)) where
    of : (j : ℕ) → Holds (new_on scheme sizes (new_kind target e) (new_number target e) j e).routine
    of zero = h.claims e scheme
    of (suc j) = h.zeroes (new_number target e) 0

  then_routed : (next : AfterClear) (e : Entry) → Holds (then_goes target sizes next e).routine
  then_routed clears.New e = new_routed Warned e
  then_routed clears.WrapUp e = h.seen starts.WrapUp
  then_routed (clears.Reply reply) e = h.idle
  then_routed clears.Again e = h.seen starts.Again

  cleared_routed : (next : AfterClear) (e : Entry) → Holds (cleared target sizes next e).routine
  cleared_routed next e = of (clear_next target next e) where
    of : (o : Option ℕ) → Holds (clear_on target sizes next o e).routine
    of None = then_routed next e
    of (Some r) = h.clears next

  ended_routed : (made : ℕ) (e : Entry) → Holds (list_ended target sizes made e).routine
  ended_routed made e = cleared_routed clears.WrapUp (with_hand e (wrap_up_hand made e.hand))

  begun_list_routed : (exchanges : List CasEntry) (e : Entry) → Holds (list_begun target sizes exchanges e).entry.routine
  begun_list_routed [] e = ended_routed 0 e
  begun_list_routed (exchange ∷ exchanges) e = h.lists 0

  plain_routed : (i : Instr) (e : Entry) → Holds (plain_stop target sizes i e).entry.routine
  plain_routed (instr.New d kind) e = cleared_routed clears.New e
  plain_routed (instr.Commit exchanges) e = begun_list_routed exchanges e
  plain_routed (instr.Return a) e = cleared_routed (clears.Reply (replies.Number (number_in e.hand.registers a))) e
  plain_routed instr.ReturnNone e = cleared_routed (clears.Reply replies.Nothing) e
  plain_routed instr.Again e = cleared_routed clears.Again e
  plain_routed _ e = h.here

  -- under epochs
  wrap_up_routed : (i : Instr) (e : Entry) → Holds (wrap_up_stop i e).entry.routine
  wrap_up_routed (instr.Return a) e = h.leaves (replies.Number (number_in e.hand.registers a))
  wrap_up_routed instr.ReturnNone e = h.leaves replies.Nothing
  wrap_up_routed instr.Again e = h.again
  wrap_up_routed _ e = h.here

  wrap_up_stopped_routed : (e : Entry) → Holds (wrap_up_stopped target e).entry.routine
  wrap_up_stopped_routed e = of (instr_in target e) where
    of : (o : Option TargetInstr) → Holds (wrap_up_stops o e).entry.routine
    of (Some (Plain i)) = wrap_up_routed i e
    of _ = h.here

  wrap_up_begun_routed : (made : ℕ) (e : Entry) → Holds (wrap_up_begun target made e).entry.routine
  wrap_up_begun_routed made e =
      wrap_up_stopped_routed (run_to target (record { at = 0; registers = with_count e.hand.registers made }) (with_hand e (wrap_up_hand made e.hand)))

  announced_list_routed : (exchanges : List CasEntry) (e : Entry) → Holds (announced_list target exchanges e).entry.routine
  announced_list_routed [] e = wrap_up_begun_routed 0 e
  announced_list_routed (exchange ∷ exchanges) e = h.lists 0

  announced_stop_routed : (i : Instr) (e : Entry) → Holds (announced_stop target sizes i e).entry.routine
  announced_stop_routed (instr.New d kind) e = new_routed (Announced e.number) e
  announced_stop_routed (instr.Commit exchanges) e = announced_list_routed exchanges e
  announced_stop_routed i e = wrap_up_routed i e

  -- under either scheme
  stop_routed : (by : Reclamation) (i : Instr) (e : Entry) → Holds (stop_at by target sizes i e).entry.routine
  stop_routed Optimistic i e = plain_routed i e
  stop_routed Epochs i e = announced_stop_routed i e

  stopped_routed : (by : Reclamation) (e : Entry) → Holds (stopped by target sizes e).entry.routine
  stopped_routed by e = of (instr_in target e) where
    of : (o : Option TargetInstr) → Holds (stops by target sizes o e).entry.routine
    of (Some (Plain i)) = stop_routed by i e
    of _ = h.here

  settles_routed : (by : Reclamation) (spot : Spot) (e : Entry) → Holds (settles by target sizes spot e).entry.routine
  settles_routed by spot e = stopped_routed by (run_to target spot e)

  begun_routed : (wrapup : Bool) (e : Entry) → Holds (method_begun target sizes wrapup e).entry.routine
  begun_routed wrapup e = settles_routed Optimistic (first_spot wrapup e.running.call.args e.hand.started) (with_hand e (record e.hand { wrapup = wrapup; accessed = false }))

  restarted_routed : (e : Entry) → Holds (restarted target sizes e).entry.routine
  restarted_routed e = of (restart_next target e) where
    of : (o : Option ℕ) → Holds (restart_on target sizes o e).entry.routine
    of None = begun_routed e.hand.wrapup e
    of (Some r) = h.restarts

  generator_routed : (e : Entry) → Holds (generator_begun target sizes e).entry.routine
  generator_routed e = settles_routed Epochs (first_spot false e.running.call.args e.hand.started) (with_hand e (record e.hand { wrapup = false; accessed = false }))

  announced_routed : (announcing : Announcing) (word : ℕ) (e : Entry) → Holds (announced target sizes announcing word e).entry.routine
  announced_routed (announces.Loads why) word e = h.stores why word
  announced_routed (announces.Stores why phase) word e = generator_routed e
  announced_routed (announces.Leaves reply) word e = h.idle

  on_routed : (by : Reclamation) (registers : Registers) (e : Entry) → Holds (goes_on by target sizes registers e).entry.routine
  on_routed by registers e = settles_routed by (record { at = e.hand.at + 1; registers = registers }) e

  list_routed : (k : ℕ) (e : Entry) → Holds (list_on target sizes k e).routine
  list_routed k e = of (nat_lt (k + 1) (length (list_of (instr_in target e)))) where
    of : (b : Bool) → Holds (if b then with_routine e (InList (k + 1)) else list_ended target sizes (k + 1) e).routine
    of true = h.lists (k + 1)
    of false = ended_routed (k + 1) e

  list_goes_routed : (by : Reclamation) (k : ℕ) (e : Entry) → Holds (list_goes by target sizes k e).entry.routine
  list_goes_routed Optimistic k e = list_routed k e
  list_goes_routed Epochs k e = of (nat_lt (k + 1) (length (list_of (instr_in target e)))) where
    of : (b : Bool) → Holds (if b then quiet (with_routine e (InList (k + 1))) else wrap_up_begun target (k + 1) e).entry.routine
    of true = h.lists (k + 1)
    of false = wrap_up_begun_routed (k + 1) e

  onward_routed : (by : Reclamation) (go : AfterRetire) (e : Entry) → Holds (onward_goes by target sizes go e).entry.routine
  onward_routed by retires.Next e = on_routed by e.hand.registers e
  onward_routed by (retires.List k) e = list_goes_routed by k e

  retires_routed : (by : Reclamation) (go : AfterRetire) (slot : ℕ) (e : Entry) → Holds (retires_then by target sizes go slot e).entry.routine
  retires_routed by go zero e = onward_routed by go e
  retires_routed by go (suc j) e = h.retires j go

  cas_routed : (by : Reclamation) (exchange : CasEntry) (l word : ℕ) (e : Entry) → Holds (cas_ended by target sizes exchange l word e).entry.routine
  cas_routed by exchange l word e = of (succeeds exchange e.hand.registers word) where
    of : (b : Bool) → Holds (if b then retires_then by target sizes retires.Next (to_retire exchange.retire e.hand.registers) e else cas_failed by target sizes l e).entry.routine
    of true = retires_routed by retires.Next (to_retire exchange.retire e.hand.registers) e
    of false = settles_routed by (record { at = l; registers = e.hand.registers }) e

  checked_routed : (word : ℕ) (e : Entry) → Holds (checked target sizes word e).entry.routine
  checked_routed word e = of (word == e.hand.seen) where
    of : (b : Bool) → Holds (if b then check_passed target sizes e else check_failed target sizes word e).entry.routine
    of true = on_routed Optimistic e.hand.registers (with_hand e (record e.hand { guards = pass_check e.hand.guards }))
    of false = restarted_routed (with_hand (with_restart e) (record e.hand { seen = word; accessed = false }))

  accepted_plain : (by : Reclamation) (i : Instr) (word : ℕ) (e : Entry) → Holds e.routine → Holds (plain_accepted by target sizes i word e).entry.routine
  accepted_plain by (instr.LoadRoot d x) word e own = on_routed by (with_word e.hand.registers d word) (with_access e)
  accepted_plain by (instr.LoadPick d x n a) word e own = on_routed by (with_word e.hand.registers d word) (with_access e)
  accepted_plain by (instr.LoadField d a f) word e own = on_routed by (with_word e.hand.registers d word) (with_access e)
  accepted_plain by (instr.Put a f b) word e own = on_routed by e.hand.registers e
  accepted_plain by (instr.Cas exchange l) word e own = cas_routed by exchange l word (with_access e)
  accepted_plain by _ word e own = own

  checked_by_routed : (by : Reclamation) (word : ℕ) (e : Entry) → Holds e.routine → Holds (checked_by by target sizes word e).entry.routine
  checked_by_routed Optimistic word e own = checked_routed word e
  checked_by_routed Epochs word e own = own

  guarded_by_routed : (by : Reclamation) (r : Reg) (e : Entry) → Holds e.routine → Holds (guarded_by by target sizes r e).entry.routine
  guarded_by_routed Optimistic r e own =
      on_routed Optimistic e.hand.registers (with_hand e (record e.hand { guards = with_guard e.hand.guards (register_number r) (slot_in e.hand.registers r) }))
  guarded_by_routed Epochs r e own = own

  accepted_instr : (by : Reclamation) (o : Option TargetInstr) (word : ℕ) (e : Entry) → Holds e.routine → Holds (instr_accepted by target sizes o word e).entry.routine
  accepted_instr by None word e own = own
  accepted_instr by (Some (Plain i)) word e own = accepted_plain by i word e own
  accepted_instr by (Some Check) word e own = checked_by_routed by word e own
  accepted_instr by (Some (Guard r)) word e own = guarded_by_routed by r e own

  failed_routed : (by : Reclamation) (k : ℕ) (e : Entry) → Holds (list_failed by target sizes k e).entry.routine
  failed_routed Optimistic k e = ended_routed k e
  failed_routed Epochs k e = wrap_up_begun_routed k e

  entry_routed : (by : Reclamation) (k : ℕ) (exchange : CasEntry) (word : ℕ) (e : Entry) → Holds (entry_ended by target sizes k exchange word e).entry.routine
  entry_routed by k exchange word e = of (succeeds exchange e.hand.registers word) where
    of : (b : Bool) → Holds (if b then retires_then by target sizes (retires.List k) (to_retire exchange.retire e.hand.registers) (with_published exchange.replacement e) else list_failed by target sizes k e).entry.routine
    of true = retires_routed by (retires.List k) (to_retire exchange.retire e.hand.registers) (with_published exchange.replacement e)
    of false = failed_routed by k e

  list_accepted_routed : (by : Reclamation) (k : ℕ) (o : Option CasEntry) (word : ℕ) (e : Entry) → Holds e.routine → Holds (list_accepted by target sizes k o word e).entry.routine
  list_accepted_routed by k None word e own = own
  list_accepted_routed by k (Some exchange) word e own = entry_routed by k exchange word e

  retired_routed : (by : Reclamation) (go : AfterRetire) (o : Option Retirement) (e : Entry) → ((left : Retirement) → o ≡ Some left → Holds (Retires left go)) → Holds (retired_on by target sizes go o e).entry.routine
  retired_routed by go None e goes = onward_routed by go (with_routine e At)
  retired_routed by go (Some left) e goes = goes left refl

  gained_routed : (by : Reclamation) (made j : ℕ) (e : Entry) → Holds (Announces (announces.Loads reasons.Swept)) → Holds (slot_gained by target made j e).routine
  gained_routed Epochs (suc more) j e swept = swept
  gained_routed _ _ j e swept = h.zeroes (new_number target e) 0

  claim_routed : (by : Reclamation) (claim : Claim) (o : Option ClaimEnd) (e : Entry) → (o ≡ None → Holds (Claims claim)) → Holds (Announces (announces.Loads reasons.Swept)) → Holds (claim_on by target claim o e).entry.routine
  claim_routed by claim None e goes swept = goes refl
  claim_routed by claim (Some (ends.Claimed j)) e goes swept = gained_routed by claim.sweeps j (with_routine e At) swept
  claim_routed by claim _ e goes swept = h.idle

  zeroed_routed : (by : Reclamation) (k field : ℕ) (e : Entry) → Holds (zeroed by target sizes k field e).entry.routine
  zeroed_routed by k field e = of (nat_lt (field + 1) (zero_count target (instr_in target e))) where
    of : (b : Bool) → Holds (if b then quiet (with_routine e (Zeroes k (field + 1))) else node_made by target sizes (cradle_of e k) e).entry.routine
    of true = h.zeroes k (field + 1)
    of false = on_routed by (with_new (instr_in target e) (cradle_of e k) e.hand.registers) e

-- it holds of a claim, and of a retirement, that this word lets go on
pub record HoldsAsGoesOn (setting : Setting) (word : ℕ) (Holds : Routine → Type 0) (routine : Routine) : Type 0 where
  pub claims : (claim : Claim) → routine ≡ Claims claim → (claim_accepts setting.sizes setting.last claim word).ended ≡ None → Holds (Claims (claim_accepts setting.sizes setting.last claim word).claim)
  pub retires : (retirement left : Retirement) (go : AfterRetire) → routine ≡ Retires retirement go → retire_accepts retirement word ≡ Some left → Holds (Retires left go)

pub step_routed : (by : Reclamation) (target : Target) (setting : Setting) (Holds : Routine → Type 0) → HoldsAtStarts target setting.sizes Holds → (e : Entry) (word : ℕ) (routine : Routine) → e.routine ≡ routine → HoldsAsGoesOn setting word Holds routine
    → ((claim : Claim) → routine ≡ Claims claim → Holds (Announces (announces.Loads reasons.Swept))) → Holds (accepted by target setting word e routine).entry.routine
step_routed by target setting Holds h e word Idle is on swept = subst Holds (sym is) h.idle
step_routed by target setting Holds h e word (LoadSeen why) is on swept = begun_routed target setting.sizes Holds h (is_wrap_up why) (with_hand e (record e.hand { seen = word }))
step_routed by target setting Holds h e word At is on swept = accepted_instr target setting.sizes Holds h by (instr_in target e) word e (subst Holds (sym is) h.here)
step_routed by target setting Holds h e word (InList k) is on swept =
    list_accepted_routed target setting.sizes Holds h by k (slice_get (list_of (instr_in target e)) k) word e (subst Holds (sym is) (h.lists k))
step_routed by target setting Holds h e word (Retires retirement go) is on swept =
    retired_routed target setting.sizes Holds h by go (retire_accepts retirement word) e (λ left goes. on.retires retirement left go refl goes)
step_routed by target setting Holds h e word Restarts is on swept = restarted_routed target setting.sizes Holds h (with_hand e (unguarded (restart_next target e) e.hand))
step_routed by target setting Holds h e word (Clears next) is on swept = cleared_routed target setting.sizes Holds h next (with_hand e (unguarded (clear_next target next e) e.hand))
step_routed by target setting Holds h e word (Claims claim) is on swept =
    let turn = claim_accepts setting.sizes setting.last claim word in
    claim_routed target setting.sizes Holds h by turn.claim turn.ended (claim_counted (claim_takes setting.sizes claim word) e) (λ goes. on.claims claim refl goes) (swept claim refl)
step_routed by target setting Holds h e word (Zeroes k field) is on swept = zeroed_routed target setting.sizes Holds h by k field e
step_routed by target setting Holds h e word (Announces announcing) is on swept = announced_routed target setting.sizes Holds h announcing word e

pub after_routed : (target : Target) (setting : Setting) (Holds : Routine → Type 0) → HoldsAtBegins target setting.sizes Holds → (e : Entry) (word : ℕ) → HoldsAsGoesOn setting word Holds e.routine
    → Holds (after target setting e word).routine
unfolding after
after_routed target setting Holds h e word on = step_routed setting.reclamation target setting Holds (starts_of target setting.sizes Holds h) (counted e) word e.routine refl on (λ claim is. h.announces (announces.Loads reasons.Swept))
