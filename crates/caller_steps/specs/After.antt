-- A caller after its wanted access found a word, and the signs of that step.
--
-- Local instructions run together with the access before them: `settles` runs them up to the next access, and a method
-- that begins runs them too. What gives no sign and runs no local code answers an entry, all else a `Moved`.
--
-- What both schemes share takes the scheme as `by`. Under epochs a caller has no guards, so nothing is cleared, and a wrap-up starts without
-- an access, together with the one that ended its list.
use Rattle.std.specs.Prelude.{ℕ, zero, suc, ◌+◌, Bool, true, false, ◌&&◌, List, [], ◌∷◌, ◌++◌, map, length, Option, Some, None, nat_lt, ◌==◌, if◌then◌else◌, slice_get, slice_set}
use Rattle.norm_lang.specs.declared.text.Reg.{Reg}
use Rattle.norm_lang.specs.declared.text.Reg.TheVariants.{Num, Ref}
use Rattle.norm_lang.specs.declared.text.CasEntry.{CasEntry}
use Rattle.norm_lang.specs.declared.text.Instr.{Instr}
use Rattle.norm_lang.specs.declared.text.Instr.TheVariants as instr
use Rattle.norm_lang.specs.declared.registers.Registers.{Registers}
use Rattle.norm_lang.specs.Registers.{first_registers, with_count, number_in}
use Rattle.norm_lang.specs.Local.{Spot}
use Rattle.norm_lang.specs.declared.reply.SourceReply.{SourceReply}
use Rattle.norm_lang.specs.declared.reply.SourceReply.TheVariants as replies
use Rattle.target_code.specs.declared.target.TargetInstr.{TargetInstr}
use Rattle.target_code.specs.declared.target.TargetInstr.TheVariants.{Plain, Check, Guard}
use Rattle.target_code.specs.declared.target.Target.{Target}
use Rattle.target_code.specs.LocalCode.{target_run}
use Rattle.guard_words.specs.Guards.{with_guard, pass_check}
use Rattle.oa_words.specs.Words.{Sizes}
use Rattle.phase_pools.specs.declared.access.ClaimEnd.{ClaimEnd}
use Rattle.phase_pools.specs.declared.access.ClaimEnd.TheVariants as ends
use Rattle.phase_pools.specs.declared.stages.Scheme.{Scheme}
use Rattle.phase_pools.specs.declared.stages.Scheme.TheVariants.{Warned, Announced}
use Rattle.phase_pools.specs.Pools.{Claim, ClaimTurn, claim_begun, claim_takes, claim_accepts, Retirement, retire_begun, retire_accepts}
use Rattle.caller_parts.specs.declared.call.Call.{Call}
use Rattle.caller_steps.specs.declared.entry.Hand.{Hand}
use Rattle.caller_parts.specs.declared.routine.MethodStart.{MethodStart}
use Rattle.caller_parts.specs.declared.routine.MethodStart.TheVariants as starts
use Rattle.caller_parts.specs.declared.routine.AfterClear.{AfterClear}
use Rattle.caller_parts.specs.declared.routine.AfterClear.TheVariants as clears
use Rattle.caller_parts.specs.declared.routine.AfterRetire.{AfterRetire}
use Rattle.caller_parts.specs.declared.routine.AfterRetire.TheVariants as retires
use Rattle.caller_parts.specs.declared.routine.AnnounceReason.{AnnounceReason}
use Rattle.caller_parts.specs.declared.routine.AnnounceReason.TheVariants as reasons
use Rattle.caller_parts.specs.declared.routine.Announcing.{Announcing}
use Rattle.caller_parts.specs.declared.routine.Announcing.TheVariants as announces
use Rattle.caller_parts.specs.declared.setting.Reclamation.{Reclamation}
use Rattle.caller_parts.specs.declared.setting.Reclamation.TheVariants.{Optimistic, Epochs}
use Rattle.caller_parts.specs.declared.routine.Routine.{Routine}
use Rattle.caller_parts.specs.declared.routine.Routine.TheVariants.{Idle, LoadSeen, At, InList, Retires, Restarts, Clears, Claims, Zeroes, Announces}
use Rattle.caller_parts.specs.Pairing.{replied_by}
use Rattle.caller_parts.specs.Settings.{Setting}
use Rattle.caller_steps.specs.Entries.{Entry, one_more, code_in, instr_in, new_kind, new_number, zero_count, cradle_of}
use Rattle.caller_parts.specs.Operands.{with_word, slot_in, register_number, list_of, succeeds, to_retire, emptied, with_new}
use Rattle.caller_steps.specs.Clearing.{restart_next, clear_next, unguarded}
use Rattle.caller_steps.specs.Signs.{Sign, Begins, Accesses, Draws, Renews, GivesUp, Moved, quiet, told}

abbrev pub with_routine : Entry → Routine → Entry
with_routine e routine = record e { routine = routine }

abbrev pub with_hand : Entry → Hand → Entry
with_hand e hand = record e { hand = hand }

-- ---- ends and clears

-- the reply is added beside its call and the steps made for it, and the caller is idle
abbrev pub replied : SourceReply → Entry → Entry
replied reply e = record e { routine = Idle; replies = e.replies ++ replied_by reply e.running ∷ [] }

-- at a `new` whose cradle has a slot already the fields come next, else the claim of a slot of the kind
abbrev pub new_on : Scheme → Sizes → ℕ → ℕ → ℕ → Entry → Entry
new_on scheme sizes kind k zero e = with_routine e (Claims (claim_begun sizes kind scheme))
new_on scheme sizes kind k (suc j) e = with_routine e (Zeroes k 0)

abbrev pub new_begun : Scheme → Target → Sizes → Entry → Entry
new_begun scheme target sizes e = new_on scheme sizes (new_kind target e) (new_number target e) (cradle_of e (new_number target e)) e

-- what follows a clear that has nothing left to clear
abbrev pub then_goes : Target → Sizes → AfterClear → Entry → Entry
then_goes target sizes clears.New e = new_begun Warned target sizes e
then_goes target sizes clears.WrapUp e = with_routine e (LoadSeen starts.WrapUp)
then_goes target sizes (clears.Reply reply) e = replied reply e
then_goes target sizes clears.Again e = with_routine e (LoadSeen starts.Again)

-- goes on with a clear, or with what follows it
abbrev pub clear_on : Target → Sizes → AfterClear → Option ℕ → Entry → Entry
clear_on target sizes next None e = then_goes target sizes next e
clear_on target sizes next (Some r) e = with_routine e (Clears next)

abbrev pub cleared : Target → Sizes → AfterClear → Entry → Entry
cleared target sizes next e = clear_on target sizes next (clear_next target next e) e

-- ---- the wrap-up's start

-- a list has ended, so many of its exchanges having succeeded: the wrap-up starts with the registers of the commit, but n7
-- is the count
abbrev pub wrap_up_hand : ℕ → Hand → Hand
wrap_up_hand made hand = record hand {
  wrapup = true;
  at = 0;
  registers = with_count hand.registers made;
  started = with_count hand.registers made;
  accessed = false;
}

abbrev pub list_ended : Target → Sizes → ℕ → Entry → Entry
list_ended target sizes made e = cleared target sizes clears.WrapUp (with_hand e (wrap_up_hand made e.hand))

-- the source makes an access of its own for the end of an empty list
abbrev pub list_begun : Target → Sizes → List CasEntry → Entry → Moved
list_begun target sizes [] e = told (Accesses ∷ []) (quiet (list_ended target sizes 0 e))
list_begun target sizes (exchange ∷ exchanges) e = quiet (with_routine e (InList 0))

-- ---- local code, and where it stops

-- and for the end of a wrap-up run that has made an access
abbrev pub owed : Hand → List Sign
owed hand = if hand.wrapup && hand.accessed then Accesses ∷ [] else []

-- an operation ends, or begins again
abbrev pub ended : Target → Sizes → AfterClear → Entry → Moved
ended target sizes next e = told (owed e.hand) (quiet (cleared target sizes next e))

-- where local code stopped: before an access, or at a `new`, a commit or an end
abbrev pub plain_stop : Target → Sizes → Instr → Entry → Moved
plain_stop target sizes (instr.New d kind) e = quiet (cleared target sizes clears.New e)
plain_stop target sizes (instr.Commit exchanges) e = list_begun target sizes exchanges e
plain_stop target sizes (instr.Return a) e = ended target sizes (clears.Reply (replies.Number (number_in e.hand.registers a))) e
plain_stop target sizes instr.ReturnNone e = ended target sizes (clears.Reply replies.Nothing) e
plain_stop target sizes instr.Again e = ended target sizes clears.Again e
plain_stop target sizes _ e = quiet (with_routine e At)

abbrev pub hand_at : Hand → Spot → Hand
hand_at hand spot = record hand { at = spot.at; registers = spot.registers }

-- local code from a spot on, to where it stops
abbrev pub run_to : Target → Spot → Entry → Entry
run_to target spot e = let code = code_in target e in with_hand e (hand_at e.hand (target_run code (length code) spot))

-- the same under epochs, in a wrap-up: the caller's own announcement is withdrawn before the reply, and renewed for `again`
abbrev pub announced_end : Announcing → Entry → Moved
announced_end announcing e = told (owed e.hand) (quiet (with_routine e (Announces announcing)))

abbrev pub wrap_up_stop : Instr → Entry → Moved
wrap_up_stop (instr.Return a) e = announced_end (announces.Leaves (replies.Number (number_in e.hand.registers a))) e
wrap_up_stop instr.ReturnNone e = announced_end (announces.Leaves replies.Nothing) e
wrap_up_stop instr.Again e = announced_end (announces.Loads reasons.Again) e
wrap_up_stop _ e = quiet (with_routine e At)

abbrev pub wrap_up_stops : Option TargetInstr → Entry → Moved
wrap_up_stops None e = quiet (with_routine e At)
wrap_up_stops (Some (Plain i)) e = wrap_up_stop i e
wrap_up_stops (Some Check) e = quiet (with_routine e At)
wrap_up_stops (Some (Guard r)) e = quiet (with_routine e At)

abbrev pub wrap_up_stopped : Target → Entry → Moved
wrap_up_stopped target e = wrap_up_stops (instr_in target e) e

-- a list has ended: the wrap-up runs from its start
abbrev pub wrap_up_begun : Target → ℕ → Entry → Moved
wrap_up_begun target made e =
    wrap_up_stopped target (run_to target (record { at = 0; registers = with_count e.hand.registers made }) (with_hand e (wrap_up_hand made e.hand)))

abbrev pub announced_list : Target → List CasEntry → Entry → Moved
announced_list target [] e = told (Accesses ∷ []) (wrap_up_begun target 0 e)
announced_list target (exchange ∷ exchanges) e = quiet (with_routine e (InList 0))

abbrev pub announced_stop : Target → Sizes → Instr → Entry → Moved
announced_stop target sizes (instr.New d kind) e = quiet (new_begun (Announced e.number) target sizes e)
announced_stop target sizes (instr.Commit exchanges) e = announced_list target exchanges e
announced_stop target sizes i e = wrap_up_stop i e

abbrev pub stop_at : Reclamation → Target → Sizes → Instr → Entry → Moved
stop_at Optimistic target sizes i e = plain_stop target sizes i e
stop_at Epochs target sizes i e = announced_stop target sizes i e

abbrev pub stops : Reclamation → Target → Sizes → Option TargetInstr → Entry → Moved
stops by target sizes None e = quiet (with_routine e At)
stops by target sizes (Some (Plain i)) e = stop_at by target sizes i e
stops by target sizes (Some Check) e = quiet (with_routine e At)
stops by target sizes (Some (Guard r)) e = quiet (with_routine e At)

abbrev pub stopped : Reclamation → Target → Sizes → Entry → Moved
stopped by target sizes e = stops by target sizes (instr_in target e) e

-- local code from a spot on
abbrev pub settles : Reclamation → Target → Sizes → Spot → Entry → Moved
settles by target sizes spot e = stopped by target sizes (run_to target spot e)

-- local code from the next instruction on, with given registers
abbrev pub goes_on : Reclamation → Target → Sizes → Registers → Entry → Moved
goes_on by target sizes registers e = settles by target sizes (record { at = e.hand.at + 1; registers = registers }) e

-- ---- method runs

-- a generator starts with its arguments, a wrap-up with the registers of its start
abbrev pub first_spot : Bool → List ℕ → Registers → Spot
first_spot false args started = record { at = 0; registers = first_registers args }
first_spot true args started = record { at = 0; registers = started }

-- a method runs from its start, and has made no access of the text yet. The end of a list and a failed check say so too, since
-- clears may come before the run
abbrev pub method_begun : Target → Sizes → Bool → Entry → Moved
method_begun target sizes wrapup e =
    settles Optimistic target sizes (first_spot wrapup e.running.call.args e.hand.started) (with_hand e (record e.hand { wrapup = wrapup; accessed = false }))

abbrev pub restart_on : Target → Sizes → Option ℕ → Entry → Moved
restart_on target sizes None e = method_begun target sizes e.hand.wrapup e
restart_on target sizes (Some r) e = quiet (with_routine e Restarts)

-- goes on with the clear of a restart, or the method runs again
abbrev pub restarted : Target → Sizes → Entry → Moved
restarted target sizes e = restart_on target sizes (restart_next target e) e

abbrev pub is_wrap_up : MethodStart → Bool
is_wrap_up starts.Begin = false
is_wrap_up starts.WrapUp = true
is_wrap_up starts.Again = false

abbrev pub seen_sign : MethodStart → Entry → Sign
seen_sign starts.Begin e = Begins e.running.call
seen_sign starts.WrapUp e = Renews
seen_sign starts.Again e = Renews

-- the caller's own warning was loaded
abbrev pub seen_loaded : Target → Sizes → MethodStart → ℕ → Entry → Moved
seen_loaded target sizes why word e =
    told (seen_sign why e ∷ []) (method_begun target sizes (is_wrap_up why) (with_hand e (record e.hand { seen = word })))

-- ---- announcements

-- the phase was announced: the generator runs from its start, with the call's arguments
abbrev pub generator_begun : Target → Sizes → Entry → Moved
generator_begun target sizes e =
    settles Epochs target sizes (first_spot false e.running.call.args e.hand.started) (with_hand e (record e.hand { wrapup = false; accessed = false }))

abbrev pub announced_sign : AnnounceReason → Entry → Sign
announced_sign reasons.Begin e = Begins e.running.call
announced_sign reasons.Again e = Renews
announced_sign reasons.Swept e = Renews

-- the phase was loaded; it, or 0, was stored in the caller's own warning word
abbrev pub announced : Target → Sizes → Announcing → ℕ → Entry → Moved
announced target sizes (announces.Loads why) word e = quiet (with_routine e (Announces (announces.Stores why word)))
announced target sizes (announces.Stores why phase) word e = told (announced_sign why e ∷ []) (generator_begun target sizes e)
announced target sizes (announces.Leaves reply) word e = quiet (replied reply e)

-- ---- checks and guards

-- every guard that isn't 0 is validated
abbrev pub check_passed : Target → Sizes → Entry → Moved
check_passed target sizes e = goes_on Optimistic target sizes e.hand.registers (with_hand e (record e.hand { guards = pass_check e.hand.guards }))

abbrev pub with_restart : Entry → Entry
with_restart e = record e { counts = record e.counts { restarts = one_more e.counts.restarts } }

abbrev pub check_failed : Target → Sizes → ℕ → Entry → Moved
check_failed target sizes word e =
    told (Renews ∷ []) (restarted target sizes (with_hand (with_restart e) (record e.hand { seen = word; accessed = false })))

abbrev pub checked : Target → Sizes → ℕ → Entry → Moved
checked target sizes word e = if word == e.hand.seen then check_passed target sizes e else check_failed target sizes word e

-- the register's slot was stored in its hazard
abbrev pub guarded : Target → Sizes → Reg → Entry → Moved
guarded target sizes r e =
    goes_on Optimistic target sizes e.hand.registers
    (with_hand e (record e.hand { guards = with_guard e.hand.guards (register_number r) (slot_in e.hand.registers r) }))

-- ---- loads, puts and auxiliary exchanges

-- a wrap-up run that has made a load or an exchange of the text
abbrev pub with_access : Entry → Entry
with_access e = with_hand e (record e.hand { accessed = e.hand.wrapup })

abbrev pub loaded : Reclamation → Target → Sizes → Reg → ℕ → Entry → Moved
loaded by target sizes d word e = told (Accesses ∷ []) (goes_on by target sizes (with_word e.hand.registers d word) (with_access e))

abbrev pub put_made : Reclamation → Target → Sizes → Entry → Moved
put_made by target sizes e = told (Accesses ∷ []) (goes_on by target sizes e.hand.registers e)

abbrev pub list_on : Target → Sizes → ℕ → Entry → Entry
list_on target sizes k e =
    if nat_lt (k + 1) (length (list_of (instr_in target e))) then with_routine e (InList (k + 1)) else list_ended target sizes (k + 1) e

-- after an exchange of the list that succeeded
abbrev pub list_goes : Reclamation → Target → Sizes → ℕ → Entry → Moved
list_goes Optimistic target sizes k e = quiet (list_on target sizes k e)
list_goes Epochs target sizes k e =
    if nat_lt (k + 1) (length (list_of (instr_in target e))) then quiet (with_routine e (InList (k + 1))) else wrap_up_begun target (k + 1) e

-- what follows a retirement, or an exchange that retires nothing
abbrev pub onward_goes : Reclamation → Target → Sizes → AfterRetire → Entry → Moved
onward_goes by target sizes retires.Next e = goes_on by target sizes e.hand.registers e
onward_goes by target sizes (retires.List k) e = list_goes by target sizes k e

abbrev pub retires_then : Reclamation → Target → Sizes → AfterRetire → ℕ → Entry → Moved
retires_then by target sizes go zero e = onward_goes by target sizes go e
retires_then by target sizes go (suc j) e = quiet (with_routine e (Retires (retire_begun (suc j)) go))

-- an auxiliary exchange
abbrev pub cas_failed : Reclamation → Target → Sizes → ℕ → Entry → Moved
cas_failed by target sizes l e = settles by target sizes (record { at = l; registers = e.hand.registers }) e

abbrev pub cas_ended : Reclamation → Target → Sizes → CasEntry → ℕ → ℕ → Entry → Moved
cas_ended by target sizes exchange l word e =
    if succeeds exchange e.hand.registers word
    then retires_then by target sizes retires.Next (to_retire exchange.retire e.hand.registers) e
    else cas_failed by target sizes l e

abbrev pub cas_made : Reclamation → Target → Sizes → CasEntry → ℕ → ℕ → Entry → Moved
cas_made by target sizes exchange l word e = told (Accesses ∷ []) (cas_ended by target sizes exchange l word (with_access e))

abbrev pub plain_accepted : Reclamation → Target → Sizes → Instr → ℕ → Entry → Moved
plain_accepted by target sizes (instr.LoadRoot d x) word e = loaded by target sizes d word e
plain_accepted by target sizes (instr.LoadPick d x count a) word e = loaded by target sizes d word e
plain_accepted by target sizes (instr.LoadField d a f) word e = loaded by target sizes d word e
plain_accepted by target sizes (instr.Put a f b) word e = put_made by target sizes e
plain_accepted by target sizes (instr.Cas exchange l) word e = cas_made by target sizes exchange l word e
plain_accepted by target sizes _ word e = quiet e

-- code that is run under epochs has no checks and no guards: there nothing comes of them
abbrev pub checked_by : Reclamation → Target → Sizes → ℕ → Entry → Moved
checked_by Optimistic target sizes word e = checked target sizes word e
checked_by Epochs target sizes word e = quiet e

abbrev pub guarded_by : Reclamation → Target → Sizes → Reg → Entry → Moved
guarded_by Optimistic target sizes r e = guarded target sizes r e
guarded_by Epochs target sizes r e = quiet e

abbrev pub instr_accepted : Reclamation → Target → Sizes → Option TargetInstr → ℕ → Entry → Moved
instr_accepted by target sizes None word e = quiet e
instr_accepted by target sizes (Some (Plain i)) word e = plain_accepted by target sizes i word e
instr_accepted by target sizes (Some Check) word e = checked_by by target sizes word e
instr_accepted by target sizes (Some (Guard r)) word e = guarded_by by target sizes r e

-- ---- exchanges of a list

-- the new operand was published
abbrev pub with_published : Reg → Entry → Entry
with_published (Num r) e = e
with_published (Ref r) e = record e { cradles = map (emptied (slot_in e.hand.registers (Ref r))) e.cradles }

-- a list ends with the first of its exchanges that fails
abbrev pub list_failed : Reclamation → Target → Sizes → ℕ → Entry → Moved
list_failed Optimistic target sizes k e = quiet (list_ended target sizes k e)
list_failed Epochs target sizes k e = wrap_up_begun target k e

abbrev pub entry_ended : Reclamation → Target → Sizes → ℕ → CasEntry → ℕ → Entry → Moved
entry_ended by target sizes k exchange word e =
    if succeeds exchange e.hand.registers word
    then retires_then by target sizes (retires.List k) (to_retire exchange.retire e.hand.registers) (with_published exchange.replacement e)
    else list_failed by target sizes k e

abbrev pub entry_made : Reclamation → Target → Sizes → ℕ → CasEntry → ℕ → Entry → Moved
entry_made by target sizes k exchange word e = told (Accesses ∷ []) (entry_ended by target sizes k exchange word e)

abbrev pub list_accepted : Reclamation → Target → Sizes → ℕ → Option CasEntry → ℕ → Entry → Moved
list_accepted by target sizes k None word e = quiet e
list_accepted by target sizes k (Some exchange) word e = entry_made by target sizes k exchange word e

-- ---- retirements, clears and claims

abbrev pub retired_on : Reclamation → Target → Sizes → AfterRetire → Option Retirement → Entry → Moved
retired_on by target sizes go None e = onward_goes by target sizes go (with_routine e At)
retired_on by target sizes go (Some retirement) e = quiet (with_routine e (Retires retirement go))

-- a hazard was cleared
abbrev pub restart_cleared : Target → Sizes → Entry → Moved
restart_cleared target sizes e = restarted target sizes (with_hand e (unguarded (restart_next target e) e.hand))

abbrev pub then_cleared : Target → Sizes → AfterClear → Entry → Entry
then_cleared target sizes next e = cleared target sizes next (with_hand e (unguarded (clear_next target next e) e.hand))

-- a claim is counted exactly if its exchange takes the slot
abbrev pub claim_counted : Bool → Entry → Entry
claim_counted takes e = record e { counts = record e.counts { claims = if takes then one_more e.counts.claims else e.counts.claims } }

-- a claimed slot goes into the cradle of the `new`
abbrev pub slot_claimed : Target → ℕ → Entry → Entry
slot_claimed target j e = record e { routine = Zeroes (new_number target e) 0; cradles = slice_set e.cradles (new_number target e) j }

-- and if the caller has swept for it, it has no announcement any more: it announces anew, and the generator begins again
abbrev pub slot_swept : Target → ℕ → Entry → Entry
slot_swept target j e = with_routine (with_restart (slot_claimed target j e)) (Announces (announces.Loads reasons.Swept))

abbrev pub slot_gained : Reclamation → Target → ℕ → ℕ → Entry → Entry
slot_gained Optimistic target sweeps j e = slot_claimed target j e
slot_gained Epochs target zero j e = slot_claimed target j e
slot_gained Epochs target (suc swept) j e = slot_swept target j e

-- a claim's end: a slot, or the call is given up. A caller that has announced a phase withdrew it before it swept
abbrev pub claim_ended : Reclamation → Target → ℕ → ClaimEnd → Entry → Moved
claim_ended by target sweeps (ends.Claimed j) e = quiet (slot_gained by target sweeps j e)
claim_ended by target sweeps ends.Full e = told (GivesUp None ∷ []) (quiet (replied replies.Full e))
claim_ended by target sweeps (ends.PhasesOver p) e = told (GivesUp (Some p) ∷ []) (quiet (replied (replies.Phases p) e))

abbrev pub claim_on : Reclamation → Target → Claim → Option ClaimEnd → Entry → Moved
claim_on by target claim None e = quiet (with_routine e (Claims claim))
claim_on by target claim (Some end) e = claim_ended by target claim.sweeps end (with_routine e At)

abbrev pub claimed : Reclamation → Target → ClaimTurn → Entry → Moved
claimed by target turn e = claim_on by target turn.claim turn.ended e

-- ---- the fields of a `new`

-- the last store of 0 makes the node
abbrev pub node_made : Reclamation → Target → Sizes → ℕ → Entry → Moved
node_made by target sizes slot e = told (Draws slot ∷ []) (goes_on by target sizes (with_new (instr_in target e) slot e.hand.registers) e)

abbrev pub zeroed : Reclamation → Target → Sizes → ℕ → ℕ → Entry → Moved
zeroed by target sizes k field e =
    if nat_lt (field + 1) (zero_count target (instr_in target e)) then quiet (with_routine e (Zeroes k (field + 1))) else node_made by target sizes (cradle_of e k) e

-- ---- a step

abbrev pub accepted : Reclamation → Target → Setting → ℕ → Entry → Routine → Moved
accepted by target setting word e Idle = quiet e
accepted by target setting word e (LoadSeen why) = seen_loaded target setting.sizes why word e
accepted by target setting word e At = instr_accepted by target setting.sizes (instr_in target e) word e
accepted by target setting word e (InList k) = list_accepted by target setting.sizes k (slice_get (list_of (instr_in target e)) k) word e
accepted by target setting word e (Retires retirement go) = retired_on by target setting.sizes go (retire_accepts retirement word) e
accepted by target setting word e Restarts = restart_cleared target setting.sizes e
accepted by target setting word e (Clears next) = quiet (then_cleared target setting.sizes next e)
accepted by target setting word e (Claims claim) =
    claimed by target (claim_accepts setting.sizes setting.last claim word) (claim_counted (claim_takes setting.sizes claim word) e)
accepted by target setting word e (Zeroes k field) = zeroed by target setting.sizes k field e
accepted by target setting word e (Announces announcing) = announced target setting.sizes announcing word e

-- the step is counted
abbrev pub counted : Entry → Entry
counted e = record e { running = record e.running { steps = one_more e.running.steps } }

abbrev pub moved : Reclamation → Target → Setting → Entry → ℕ → Moved
moved by target setting e word = accepted by target setting word (counted e) e.routine

-- the entry after its wanted access found a word
unfoldable pub after : Target → Setting → Entry → ℕ → Entry
after target setting e word = (moved setting.reclamation target setting e word).entry

-- the signs of that step, in order
unfoldable pub signs : Target → Setting → Entry → ℕ → List Sign
signs target setting e word = (moved setting.reclamation target setting e word).signs

-- before the first access of a call: the load of the caller's own warning, or that of the phase to announce
abbrev pub first_routine : Reclamation → Routine
first_routine Optimistic = LoadSeen starts.Begin
first_routine Epochs = Announces (announces.Loads reasons.Begin)

-- an idle caller takes a call, and stands at its generator's start: what the last call left in the registers is gone
abbrev pub taken : Reclamation → Call → Entry → Entry
taken by call e = record e {
  running = record { call = call; steps = 0 };
  routine = first_routine by;
  hand = record e.hand { wrapup = false; at = 0; registers = first_registers call.args; started = first_registers [] };
}
