-- A step of a call that runs leaves it running, or ends it with one reply; and it leaves the caller's number. Local code leaves the counts.
--
-- One lemma for each small definition of `after`. `Turns` speaks of parts of the entry before, so that one whose hand, cradles
-- or counts have changed may stand in its place.
use Rattle.std.proofs.Common.{inl, inr, ℕ, zero, suc, ◌≡◌, ◌==◌, ◌+◌, Bool, true, false, refl, List, [], ◌∷◌, length, Option, Some, None, if◌then◌else◌}
use Rattle.std.specs.Prelude.{slice_get, nat_lt}
use Rattle.norm_lang.specs.declared.text.Reg.{Reg}
use Rattle.norm_lang.specs.declared.text.Reg.TheVariants.{Num, Ref}
use Rattle.norm_lang.specs.declared.text.CasEntry.{CasEntry}
use Rattle.norm_lang.specs.declared.text.Instr.{Instr}
use Rattle.norm_lang.specs.declared.text.Instr.TheVariants as instr
use Rattle.norm_lang.specs.declared.registers.Registers.{Registers}
use Rattle.norm_lang.specs.Registers.{number_in, with_count}
use Rattle.norm_lang.specs.Local.{Spot}
use Rattle.norm_lang.specs.declared.reply.SourceReply.TheVariants as replies
use Rattle.target_code.specs.declared.target.TargetInstr.{TargetInstr}
use Rattle.target_code.specs.declared.target.TargetInstr.TheVariants.{Plain, Check, Guard}
use Rattle.target_code.specs.declared.target.Target.{Target}
use Rattle.guard_words.specs.Guards.{pass_check, with_guard}
use Rattle.oa_words.specs.Words.{Sizes}
use Rattle.phase_pools.specs.declared.access.ClaimEnd.{ClaimEnd}
use Rattle.phase_pools.specs.declared.access.ClaimEnd.TheVariants as ends
use Rattle.phase_pools.specs.declared.stages.Scheme.{Scheme}
use Rattle.phase_pools.specs.declared.stages.Scheme.TheVariants.{Warned, Announced}
use Rattle.phase_pools.specs.Pools.{Claim, claim_takes, claim_accepts, Retirement, retire_accepts}
use Rattle.caller_parts.specs.declared.routine.AfterClear.{AfterClear}
use Rattle.caller_parts.specs.declared.routine.AfterClear.TheVariants as clears
use Rattle.caller_parts.specs.declared.routine.AfterRetire.{AfterRetire}
use Rattle.caller_parts.specs.declared.routine.AfterRetire.TheVariants as retires
use Rattle.caller_parts.specs.declared.routine.AnnounceReason.TheVariants as reasons
use Rattle.caller_parts.specs.declared.routine.Announcing.{Announcing}
use Rattle.caller_parts.specs.declared.routine.Announcing.TheVariants as announces
use Rattle.caller_parts.specs.declared.routine.Routine.{Routine}
use Rattle.caller_parts.specs.declared.routine.Routine.TheVariants.{Idle, LoadSeen, At, InList, Retires, Restarts, Clears, Claims, Zeroes, Announces}
use Rattle.caller_parts.specs.declared.setting.Reclamation.{Reclamation}
use Rattle.caller_parts.specs.declared.setting.Reclamation.TheVariants.{Optimistic, Epochs}
use Rattle.caller_parts.specs.Settings.{Setting}
use Rattle.caller_steps.specs.Entries.{Entry, is_idle, instr_in, new_kind, new_number, zero_count, cradle_of}
use Rattle.caller_parts.specs.Operands.{with_word, slot_in, register_number, list_of, succeeds, to_retire, with_new}
use Rattle.caller_steps.specs.Clearing.{restart_next, clear_next, unguarded}
use Rattle.caller_steps.specs.Signs.{quiet}
use Rattle.caller_steps.specs.After.{accepted, after, announced, announced_list, announced_stop, cas_ended, cas_failed, check_failed, check_passed, checked, checked_by, claim_counted, claim_on, clear_on, cleared, counted, entry_ended, first_spot, generator_begun, goes_on, guarded_by, instr_accepted, is_wrap_up, list_accepted, list_begun, list_ended, list_failed, list_goes, list_on, method_begun, new_begun, new_on, node_made, onward_goes, plain_accepted, plain_stop, restart_on, restarted, retired_on, retires_then, run_to, settles, slot_gained, stop_at, stopped, stops, then_goes, with_access, with_hand, with_published, with_restart, with_routine, wrap_up_begun, wrap_up_hand, wrap_up_stop, wrap_up_stopped, wrap_up_stops, zeroed}
use Rattle.core_runs.specs.Advances.{EndsOrRuns}

abbrev pub Turned : Entry → Entry → Type 0
Turned before later = (later.number ≡ before.number) × EndsOrRuns before later

-- and no count has changed
abbrev pub Turns : Entry → Entry → Type 0
Turns before later = (later.number ≡ before.number) × EndsOrRuns before later × (later.counts ≡ before.counts)

turned : (before later : Entry) → Turns before later → Turned before later
turned before later t = (t.0, t.1)

-- it stands before another access
stays : (e : Entry) (routine : Routine) → is_idle routine ≡ false → Turns e (with_routine e routine)
stays e routine busy = (refl, inl (busy, refl, refl), refl)

-- nothing happened
same : (e : Entry) → is_idle e.routine ≡ false → Turns e e
same e busy = (refl, inl (busy, refl, refl), refl)

module _ (target : Target) (sizes : Sizes) where
  new_turns : (scheme : Scheme) (e : Entry) → Turns e (new_begun scheme target sizes e)
  new_turns scheme e = of (cradle_of e (new_number target e)) where
    of : (j : ℕ) → Turns e (new_on scheme sizes (new_kind target e) (new_number target e) j e)
    of zero = (refl, inl (refl, refl, refl), refl)
    of (suc j) = (refl, inl (refl, refl, refl), refl)

  then_turns : (next : AfterClear) (e : Entry) → Turns e (then_goes target sizes next e)
  then_turns clears.New e = new_turns Warned e
  then_turns clears.WrapUp e = (refl, inl (refl, refl, refl), refl)
  then_turns (clears.Reply reply) e = (refl, inr (reply, refl, refl, refl), refl)
  then_turns clears.Again e = (refl, inl (refl, refl, refl), refl)

  pub cleared_turns : (next : AfterClear) (e : Entry) → Turns e (cleared target sizes next e)
  cleared_turns next e = of (clear_next target next e) where
    of : (o : Option ℕ) → Turns e (clear_on target sizes next o e)
    of None = then_turns next e
    of (Some r) = (refl, inl (refl, refl, refl), refl)

  ended_turns : (made : ℕ) (e : Entry) → Turns e (list_ended target sizes made e)
  ended_turns made e = cleared_turns clears.WrapUp (with_hand e (wrap_up_hand made e.hand))

  begun_list_turns : (exchanges : List CasEntry) (e : Entry) → Turns e (list_begun target sizes exchanges e).entry
  begun_list_turns [] e = ended_turns 0 e
  begun_list_turns (exchange ∷ exchanges) e = (refl, inl (refl, refl, refl), refl)

  plain_turns : (i : Instr) (e : Entry) → Turns e (plain_stop target sizes i e).entry
  plain_turns (instr.New d kind) e = cleared_turns clears.New e
  plain_turns (instr.Commit exchanges) e = begun_list_turns exchanges e
  plain_turns (instr.Return a) e = cleared_turns (clears.Reply (replies.Number (number_in e.hand.registers a))) e
  plain_turns instr.ReturnNone e = cleared_turns (clears.Reply replies.Nothing) e
  plain_turns instr.Again e = cleared_turns clears.Again e
  plain_turns _ e = stays e At refl

  -- under epochs
  wrap_up_turns : (i : Instr) (e : Entry) → Turns e (wrap_up_stop i e).entry
  wrap_up_turns (instr.Return a) e = stays e (Announces (announces.Leaves (replies.Number (number_in e.hand.registers a)))) refl
  wrap_up_turns instr.ReturnNone e = stays e (Announces (announces.Leaves replies.Nothing)) refl
  wrap_up_turns instr.Again e = stays e (Announces (announces.Loads reasons.Again)) refl
  wrap_up_turns _ e = stays e At refl

  wrap_up_stopped_turns : (e : Entry) → Turns e (wrap_up_stopped target e).entry
  wrap_up_stopped_turns e = of (instr_in target e) where
    of : (o : Option TargetInstr) → Turns e (wrap_up_stops o e).entry
    of (Some (Plain i)) = wrap_up_turns i e
    of _ = stays e At refl

  wrap_up_begun_turns : (made : ℕ) (e : Entry) → Turns e (wrap_up_begun target made e).entry
  wrap_up_begun_turns made e =
      wrap_up_stopped_turns (run_to target (record { at = 0; registers = with_count e.hand.registers made }) (with_hand e (wrap_up_hand made e.hand)))

  announced_list_turns : (exchanges : List CasEntry) (e : Entry) → Turns e (announced_list target exchanges e).entry
  announced_list_turns [] e = wrap_up_begun_turns 0 e
  announced_list_turns (exchange ∷ exchanges) e = stays e (InList 0) refl

  announced_stop_turns : (i : Instr) (e : Entry) → Turns e (announced_stop target sizes i e).entry
  announced_stop_turns (instr.New d kind) e = new_turns (Announced e.number) e
  announced_stop_turns (instr.Commit exchanges) e = announced_list_turns exchanges e
  announced_stop_turns i e = wrap_up_turns i e

  -- under either scheme
  stop_turns : (by : Reclamation) (i : Instr) (e : Entry) → Turns e (stop_at by target sizes i e).entry
  stop_turns Optimistic i e = plain_turns i e
  stop_turns Epochs i e = announced_stop_turns i e

  stopped_turns : (by : Reclamation) (e : Entry) → Turns e (stopped by target sizes e).entry
  stopped_turns by e = of (instr_in target e) where
    of : (o : Option TargetInstr) → Turns e (stops by target sizes o e).entry
    of (Some (Plain i)) = stop_turns by i e
    of _ = stays e At refl

  settles_turns : (by : Reclamation) (spot : Spot) (e : Entry) → Turns e (settles by target sizes spot e).entry
  settles_turns by spot e = stopped_turns by (run_to target spot e)

  pub begun_turns : (wrapup : Bool) (e : Entry) → Turns e (method_begun target sizes wrapup e).entry
  begun_turns wrapup e = settles_turns Optimistic (first_spot wrapup e.running.call.args e.hand.started) (with_hand e (record e.hand { wrapup = wrapup; accessed = false }))

  pub restarted_turns : (e : Entry) → Turns e (restarted target sizes e).entry
  restarted_turns e = of (restart_next target e) where
    of : (o : Option ℕ) → Turns e (restart_on target sizes o e).entry
    of None = begun_turns e.hand.wrapup e
    of (Some r) = stays e Restarts refl

  generator_turns : (e : Entry) → Turns e (generator_begun target sizes e).entry
  generator_turns e = settles_turns Epochs (first_spot false e.running.call.args e.hand.started) (with_hand e (record e.hand { wrapup = false; accessed = false }))

  pub announced_turns : (announcing : Announcing) (word : ℕ) (e : Entry) → Turns e (announced target sizes announcing word e).entry
  announced_turns (announces.Loads why) word e = (refl, inl (refl, refl, refl), refl)
  announced_turns (announces.Stores why phase) word e = generator_turns e
  announced_turns (announces.Leaves reply) word e = (refl, inr (reply, refl, refl, refl), refl)

  on_turns : (by : Reclamation) (registers : Registers) (e : Entry) → Turns e (goes_on by target sizes registers e).entry
  on_turns by registers e = settles_turns by (record { at = e.hand.at + 1; registers = registers }) e

  list_turns : (k : ℕ) (e : Entry) → Turns e (list_on target sizes k e)
  list_turns k e = of (nat_lt (k + 1) (length (list_of (instr_in target e)))) where
    of : (b : Bool) → Turns e (if b then with_routine e (InList (k + 1)) else list_ended target sizes (k + 1) e)
    of true = stays e (InList (k + 1)) refl
    of false = ended_turns (k + 1) e

  list_goes_turns : (by : Reclamation) (k : ℕ) (e : Entry) → Turns e (list_goes by target sizes k e).entry
  list_goes_turns Optimistic k e = list_turns k e
  list_goes_turns Epochs k e = of (nat_lt (k + 1) (length (list_of (instr_in target e)))) where
    of : (b : Bool) → Turns e (if b then quiet (with_routine e (InList (k + 1))) else wrap_up_begun target (k + 1) e).entry
    of true = stays e (InList (k + 1)) refl
    of false = wrap_up_begun_turns (k + 1) e

  onward_turns : (by : Reclamation) (go : AfterRetire) (e : Entry) → Turns e (onward_goes by target sizes go e).entry
  onward_turns by retires.Next e = on_turns by e.hand.registers e
  onward_turns by (retires.List k) e = list_goes_turns by k e

  retires_turns : (by : Reclamation) (go : AfterRetire) (slot : ℕ) (e : Entry) → Turns e (retires_then by target sizes go slot e).entry
  retires_turns by go zero e = onward_turns by go e
  retires_turns by go (suc j) e = (refl, inl (refl, refl, refl), refl)

  cas_turns : (by : Reclamation) (exchange : CasEntry) (l word : ℕ) (e : Entry) → Turns e (cas_ended by target sizes exchange l word e).entry
  cas_turns by exchange l word e = of (succeeds exchange e.hand.registers word) where
    of : (b : Bool) → Turns e (if b then retires_then by target sizes retires.Next (to_retire exchange.retire e.hand.registers) e else cas_failed by target sizes l e).entry
    of true = retires_turns by retires.Next (to_retire exchange.retire e.hand.registers) e
    of false = settles_turns by (record { at = l; registers = e.hand.registers }) e

  checked_turns : (word : ℕ) (e : Entry) → Turned e (checked target sizes word e).entry
  checked_turns word e = of (word == e.hand.seen) where
    of : (b : Bool) → Turned e (if b then check_passed target sizes e else check_failed target sizes word e).entry
    of true =
        let passed = on_turns Optimistic e.hand.registers (with_hand e (record e.hand { guards = pass_check e.hand.guards })) in (passed.0, passed.1)
    of false =
        let failed = restarted_turns (with_hand (with_restart e) (record e.hand { seen = word; accessed = false })) in (failed.0, failed.1)

  pub accepted_plain : (by : Reclamation) (i : Instr) (word : ℕ) (e : Entry) → is_idle e.routine ≡ false → Turns e (plain_accepted by target sizes i word e).entry
  accepted_plain by (instr.LoadRoot d x) word e busy = on_turns by (with_word e.hand.registers d word) (with_access e)
  accepted_plain by (instr.LoadPick d x n a) word e busy = on_turns by (with_word e.hand.registers d word) (with_access e)
  accepted_plain by (instr.LoadField d a f) word e busy = on_turns by (with_word e.hand.registers d word) (with_access e)
  accepted_plain by (instr.Put a f b) word e busy = on_turns by e.hand.registers e
  accepted_plain by (instr.Cas exchange l) word e busy = cas_turns by exchange l word (with_access e)
  accepted_plain by _ word e busy = same e busy

  checked_by_turns : (by : Reclamation) (word : ℕ) (e : Entry) → is_idle e.routine ≡ false → Turned e (checked_by by target sizes word e).entry
  checked_by_turns Optimistic word e busy = checked_turns word e
  checked_by_turns Epochs word e busy = turned e e (same e busy)

  pub guarded_by_turns : (by : Reclamation) (r : Reg) (e : Entry) → is_idle e.routine ≡ false → Turns e (guarded_by by target sizes r e).entry
  guarded_by_turns Optimistic r e busy =
      on_turns Optimistic e.hand.registers (with_hand e (record e.hand { guards = with_guard e.hand.guards (register_number r) (slot_in e.hand.registers r) }))
  guarded_by_turns Epochs r e busy = same e busy

  accepted_instr : (by : Reclamation) (o : Option TargetInstr) (word : ℕ) (e : Entry) → is_idle e.routine ≡ false → Turned e (instr_accepted by target sizes o word e).entry
  accepted_instr by None word e busy = turned e e (same e busy)
  accepted_instr by (Some (Plain i)) word e busy = turned e (plain_accepted by target sizes i word e).entry (accepted_plain by i word e busy)
  accepted_instr by (Some Check) word e busy = checked_by_turns by word e busy
  accepted_instr by (Some (Guard r)) word e busy = turned e (guarded_by by target sizes r e).entry (guarded_by_turns by r e busy)

  published_turns : (r : Reg) (e later : Entry) → Turns (with_published r e) later → Turns e later
  published_turns (Num r) e later turns = turns
  published_turns (Ref r) e later turns = turns

  failed_turns : (by : Reclamation) (k : ℕ) (e : Entry) → Turns e (list_failed by target sizes k e).entry
  failed_turns Optimistic k e = ended_turns k e
  failed_turns Epochs k e = wrap_up_begun_turns k e

  entry_turns : (by : Reclamation) (k : ℕ) (exchange : CasEntry) (word : ℕ) (e : Entry) → Turns e (entry_ended by target sizes k exchange word e).entry
  entry_turns by k exchange word e = of (succeeds exchange e.hand.registers word) where
    of : (b : Bool) → Turns e (if b then retires_then by target sizes (retires.List k) (to_retire exchange.retire e.hand.registers) (with_published exchange.replacement e) else list_failed by target sizes k e).entry
    of true =
        let published = with_published exchange.replacement e in
        published_turns exchange.replacement e (retires_then by target sizes (retires.List k) (to_retire exchange.retire e.hand.registers) published).entry
        (retires_turns by (retires.List k) (to_retire exchange.retire e.hand.registers) published)
    of false = failed_turns by k e

  pub list_accepted_turns : (by : Reclamation) (k : ℕ) (o : Option CasEntry) (word : ℕ) (e : Entry) → is_idle e.routine ≡ false → Turns e (list_accepted by target sizes k o word e).entry
  list_accepted_turns by k None word e busy = same e busy
  list_accepted_turns by k (Some exchange) word e busy = entry_turns by k exchange word e

  pub retired_turns : (by : Reclamation) (go : AfterRetire) (o : Option Retirement) (e : Entry) → Turns e (retired_on by target sizes go o e).entry
  retired_turns by go None e = onward_turns by go (with_routine e At)
  retired_turns by go (Some retirement) e = (refl, inl (refl, refl, refl), refl)

  gained_turns : (by : Reclamation) (made j : ℕ) (e : Entry) → Turned e (slot_gained by target made j e)
  gained_turns Epochs zero j e = (refl, inl (refl, refl, refl))
  gained_turns _ _ j e = (refl, inl (refl, refl, refl))

  claim_turns : (by : Reclamation) (claim : Claim) (o : Option ClaimEnd) (e : Entry) → Turned e (claim_on by target claim o e).entry
  claim_turns by claim None e = (refl, inl (refl, refl, refl))
  claim_turns by claim (Some (ends.Claimed j)) e = gained_turns by claim.sweeps j (with_routine e At)
  claim_turns by claim (Some ends.Full) e = (refl, inr (replies.Full, refl, refl, refl))
  claim_turns by claim (Some (ends.PhasesOver p)) e = (refl, inr (replies.Phases p, refl, refl, refl))

  pub zeroed_turns : (by : Reclamation) (k field : ℕ) (e : Entry) → Turns e (zeroed by target sizes k field e).entry
  zeroed_turns by k field e = of (nat_lt (field + 1) (zero_count target (instr_in target e))) where
    of : (b : Bool) → Turns e (if b then quiet (with_routine e (Zeroes k (field + 1))) else node_made by target sizes (cradle_of e k) e).entry
    of true = (refl, inl (refl, refl, refl), refl)
    of false = on_turns by (with_new (instr_in target e) (cradle_of e k) e.hand.registers) e

step_turns : (by : Reclamation) (target : Target) (setting : Setting) (word : ℕ) (e : Entry) (routine : Routine) → is_idle e.routine ≡ false → is_idle routine ≡ false
    → Turned e (accepted by target setting word e routine).entry
step_turns by target setting word e Idle busy is = absurd (let no : true ≡ false = is in cc)
step_turns by target setting word e (LoadSeen why) busy is =
    let e' = (accepted by target setting word e (LoadSeen why)).entry in turned e e' (begun_turns target setting.sizes (is_wrap_up why) (with_hand e (record e.hand { seen = word })))
step_turns by target setting word e At busy is = accepted_instr target setting.sizes by (instr_in target e) word e busy
step_turns by target setting word e (InList k) busy is =
    let e' = (accepted by target setting word e (InList k)).entry in turned e e' (list_accepted_turns target setting.sizes by k (slice_get (list_of (instr_in target e)) k) word e busy)
step_turns by target setting word e (Retires retirement go) busy is =
    let e' = (accepted by target setting word e (Retires retirement go)).entry in turned e e' (retired_turns target setting.sizes by go (retire_accepts retirement word) e)
step_turns by target setting word e Restarts busy is =
    let e' = (accepted by target setting word e Restarts).entry in turned e e' (restarted_turns target setting.sizes (with_hand e (unguarded (restart_next target e) e.hand)))
step_turns by target setting word e (Clears next) busy is =
    let e' = (accepted by target setting word e (Clears next)).entry in turned e e' (cleared_turns target setting.sizes next (with_hand e (unguarded (clear_next target next e) e.hand)))
step_turns by target setting word e (Claims claim) busy is =
    let turn = claim_accepts setting.sizes setting.last claim word in claim_turns target setting.sizes by turn.claim turn.ended (claim_counted (claim_takes setting.sizes claim word) e)
step_turns by target setting word e (Zeroes k field) busy is =
    let e' = (accepted by target setting word e (Zeroes k field)).entry in turned e e' (zeroed_turns target setting.sizes by k field e)
step_turns by target setting word e (Announces announcing) busy is =
    let e' = (accepted by target setting word e (Announces announcing)).entry in turned e e' (announced_turns target setting.sizes announcing word e)

turns_by : (target : Target) (setting : Setting) (e : Entry) (word : ℕ) → is_idle e.routine ≡ false → Turned (counted e) (after target setting e word)
unfolding after
turns_by target setting e word busy = step_turns setting.reclamation target setting word (counted e) e.routine busy busy

pub after_turns : (target : Target) (setting : Setting) (e : Entry) (word : ℕ) → is_idle e.routine ≡ false → EndsOrRuns (counted e) (after target setting e word)
after_turns target setting e word busy = (turns_by target setting e word busy).1

-- an idle entry has nothing to accept
idle_number : (by : Reclamation) (target : Target) (setting : Setting) (e : Entry) (word : ℕ) (routine : Routine) → is_idle routine ≡ true → (accepted by target setting word e routine).entry.number ≡ e.number
idle_number by target setting e word Idle idle = refl
idle_number by target setting e word _ idle = absurd (let no : false ≡ true = idle in cc)

idle_after : (target : Target) (setting : Setting) (e : Entry) (word : ℕ) → is_idle e.routine ≡ true → (after target setting e word).number ≡ e.number
unfolding after
idle_after target setting e word idle = idle_number setting.reclamation target setting (counted e) word e.routine idle

pub after_number : (target : Target) (setting : Setting) (e : Entry) (word : ℕ) → (after target setting e word).number ≡ e.number
after_number target setting e word = of (is_idle e.routine) refl where
  of : (b : Bool) → is_idle e.routine ≡ b → (after target setting e word).number ≡ e.number
  of true idle = idle_after target setting e word idle
  of false busy = (turns_by target setting e word busy).0
