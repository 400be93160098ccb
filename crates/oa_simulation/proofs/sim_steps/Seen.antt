-- What a caller has seen of its warning changes at a check that fails and at a method's begin alone, and is then the warning that was
-- found.
use Rattle.std.proofs.Common.{ℕ, zero, suc, ◌≡◌, ◌==◌, ◌∙◌, ◌+◌, not, Bool, true, false, refl, ap, List, [], ◌∷◌, length, Option, Some, None, if◌then◌else◌}
use Rattle.std.specs.Prelude.{slice_get, nat_lt}
use Rattle.norm_lang.specs.declared.text.Reg.{Reg}
use Rattle.norm_lang.specs.declared.text.Reg.TheVariants.{Num, Ref}
use Rattle.norm_lang.specs.declared.text.CasEntry.{CasEntry}
use Rattle.norm_lang.specs.declared.text.Instr.{Instr}
use Rattle.norm_lang.specs.declared.text.Instr.TheVariants as instr
use Rattle.norm_lang.specs.declared.registers.Registers.{Registers}
use Rattle.norm_lang.specs.Registers.{number_in}
use Rattle.norm_lang.specs.Local.{Spot}
use Rattle.norm_lang.specs.declared.reply.SourceReply.TheVariants as replies
use Rattle.target_code.specs.declared.target.TargetInstr.{TargetInstr}
use Rattle.target_code.specs.declared.target.TargetInstr.TheVariants.{Plain, Check, Guard}
use Rattle.target_code.specs.declared.target.Target.{Target}
use Rattle.target_code.specs.LocalCode.{target_run}
use Rattle.guard_words.specs.Guards.{with_guard, pass_check}
use Rattle.oa_words.specs.Words.{Sizes, Warning}
use Rattle.phase_pools.specs.Accesses.{Loads}
use Rattle.phase_pools.specs.declared.access.ClaimEnd.{ClaimEnd}
use Rattle.phase_pools.specs.declared.access.ClaimEnd.TheVariants as ends
use Rattle.phase_pools.specs.Pools.{Claim, claim_accepts, claim_takes, Retirement, retire_accepts}
use Rattle.caller_parts.specs.declared.routine.AfterClear.{AfterClear}
use Rattle.caller_parts.specs.declared.routine.AfterClear.TheVariants as clears
use Rattle.caller_parts.specs.declared.routine.AfterRetire.{AfterRetire}
use Rattle.caller_parts.specs.declared.routine.AfterRetire.TheVariants as retires
use Rattle.caller_steps.specs.declared.entry.Hand.{Hand}
use Rattle.caller_parts.specs.declared.routine.Routine.{Routine}
use Rattle.caller_parts.specs.declared.routine.Routine.TheVariants.{Idle, LoadSeen, At, InList, Retires, Restarts, Clears, Claims, Zeroes, Announces}
use Rattle.caller_parts.specs.Settings.{Setting}
use Rattle.caller_steps.specs.Entries.{Entry, code_in, instr_in, new_kind, new_number, zero_count, cradle_of}
use Rattle.caller_parts.specs.Operands.{with_word, slot_in, register_number, list_of, succeeds, to_retire, with_new}
use Rattle.caller_steps.specs.Clearing.{restart_next, clear_next, unguarded}
use Rattle.caller_steps.specs.Signs.{quiet}
use Rattle.caller_steps.specs.Wants.{wants, instr_wanted}
use Rattle.caller_steps.specs.After.{after, check_failed, check_passed, is_wrap_up, with_restart, with_routine, with_hand, hand_at, new_on, then_goes, clear_on, cleared, wrap_up_hand, list_ended, list_begun, plain_stop, stops, stopped, settles, goes_on, first_spot, method_begun, restart_on, restarted, with_access, list_on, onward_goes, retires_then, cas_failed, cas_ended, plain_accepted, instr_accepted, with_published, entry_ended, list_accepted, retired_on, claim_counted, claim_on, node_made, zeroed, accepted, counted}
use Rattle.oa_simulation.proofs.sim_steps.Pools.Core.{wants_is}
use Rattle.oa_simulation.specs.sim_steps.Renewing.{fails_at, renews, renews_at}
use Rattle.caller_parts.specs.declared.setting.Reclamation.TheVariants.{Optimistic}
use Rattle.phase_pools.specs.declared.stages.Scheme.TheVariants.{Warned}
use Rattle.oa_simulation.proofs.sim_relation.Schemes.{NeverAnnounces, after_is}

abbrev pub Keeps : Entry → Entry → Type 0
Keeps before later = later.hand.seen ≡ before.hand.seen

abbrev pub is_check : Option TargetInstr → Bool
is_check None = false
is_check (Some (Plain i)) = false
is_check (Some Check) = true
is_check (Some (Guard r)) = false

unguarded_seen : (o : Option ℕ) (hand : Hand) → (unguarded o hand).seen ≡ hand.seen
unguarded_seen None hand = refl
unguarded_seen (Some r) hand = refl

module _ (target : Target) (sizes : Sizes) where
  then_seen : (next : AfterClear) (e : Entry) → Keeps e (then_goes target sizes next e)
  then_seen clears.New e = of (cradle_of e (new_number target e)) where
    of : (j : ℕ) → Keeps e (new_on Warned sizes (new_kind target e) (new_number target e) j e)
    of zero = refl
    of (suc j) = refl
  then_seen _ e = refl

  cleared_seen : (next : AfterClear) (e : Entry) → Keeps e (cleared target sizes next e)
  cleared_seen next e = of (clear_next target next e) where
    of : (o : Option ℕ) → Keeps e (clear_on target sizes next o e)
    of None = then_seen next e
    of (Some r) = refl

  ended_seen : (made : ℕ) (e : Entry) → Keeps e (list_ended target sizes made e)
  ended_seen made e = cleared_seen clears.WrapUp (with_hand e (wrap_up_hand made e.hand))

  begun_list_seen : (exchanges : List CasEntry) (e : Entry) → Keeps e (list_begun target sizes exchanges e).entry
  begun_list_seen [] e = ended_seen 0 e
  begun_list_seen (exchange ∷ exchanges) e = refl

  plain_seen : (i : Instr) (e : Entry) → Keeps e (plain_stop target sizes i e).entry
  plain_seen (instr.New d kind) e = cleared_seen clears.New e
  plain_seen (instr.Commit exchanges) e = begun_list_seen exchanges e
  plain_seen (instr.Return a) e = cleared_seen (clears.Reply (replies.Number (number_in e.hand.registers a))) e
  plain_seen instr.ReturnNone e = cleared_seen (clears.Reply replies.Nothing) e
  plain_seen instr.Again e = cleared_seen clears.Again e
  plain_seen _ e = refl

  stopped_seen : (e : Entry) → Keeps e (stopped Optimistic target sizes e).entry
  stopped_seen e = of (instr_in target e) where
    of : (o : Option TargetInstr) → Keeps e (stops Optimistic target sizes o e).entry
    of None = refl
    of (Some Check) = refl
    of (Some (Guard r)) = refl
    of (Some (Plain i)) = plain_seen i e

  settles_seen : (spot : Spot) (e : Entry) → Keeps e (settles Optimistic target sizes spot e).entry
  settles_seen spot e = stopped_seen (with_hand e (hand_at e.hand (target_run (code_in target e) (length (code_in target e)) spot)))

  begun_seen : (wrapup : Bool) (e : Entry) → Keeps e (method_begun target sizes wrapup e).entry
  begun_seen wrapup e = settles_seen (first_spot wrapup e.running.call.args e.hand.started) (with_hand e (record e.hand { wrapup = wrapup; accessed = false }))

  restarted_seen : (e : Entry) → Keeps e (restarted target sizes e).entry
  restarted_seen e = of (restart_next target e) where
    of : (o : Option ℕ) → Keeps e (restart_on target sizes o e).entry
    of None = begun_seen e.hand.wrapup e
    of (Some r) = refl

  on_seen : (registers : Registers) (e : Entry) → Keeps e (goes_on Optimistic target sizes registers e).entry
  on_seen registers e = settles_seen (record { at = e.hand.at + 1; registers = registers }) e

  list_seen : (k : ℕ) (e : Entry) → Keeps e (list_on target sizes k e)
  list_seen k e = of (nat_lt (k + 1) (length (list_of (instr_in target e)))) where
    of : (b : Bool) → Keeps e (if b then with_routine e (InList (k + 1)) else list_ended target sizes (k + 1) e)
    of true = refl
    of false = ended_seen (k + 1) e

  onward_seen : (go : AfterRetire) (e : Entry) → Keeps e (onward_goes Optimistic target sizes go e).entry
  onward_seen retires.Next e = on_seen e.hand.registers e
  onward_seen (retires.List k) e = list_seen k e

  retires_seen : (go : AfterRetire) (slot : ℕ) (e : Entry) → Keeps e (retires_then Optimistic target sizes go slot e).entry
  retires_seen go zero e = onward_seen go e
  retires_seen go (suc j) e = refl

  cas_seen : (exchange : CasEntry) (l word : ℕ) (e : Entry) → Keeps e (cas_ended Optimistic target sizes exchange l word e).entry
  cas_seen exchange l word e = of (succeeds exchange e.hand.registers word) where
    of : (b : Bool) → Keeps e (if b then retires_then Optimistic target sizes retires.Next (to_retire exchange.retire e.hand.registers) e else cas_failed Optimistic target sizes l e).entry
    of true = retires_seen retires.Next (to_retire exchange.retire e.hand.registers) e
    of false = settles_seen (record { at = l; registers = e.hand.registers }) e

  accepted_plain : (i : Instr) (word : ℕ) (e : Entry) → Keeps e (plain_accepted Optimistic target sizes i word e).entry
  accepted_plain (instr.LoadRoot d x) word e = on_seen (with_word e.hand.registers d word) (with_access e)
  accepted_plain (instr.LoadPick d x n a) word e = on_seen (with_word e.hand.registers d word) (with_access e)
  accepted_plain (instr.LoadField d a f) word e = on_seen (with_word e.hand.registers d word) (with_access e)
  accepted_plain (instr.Put a f b) word e = on_seen e.hand.registers e
  accepted_plain (instr.Cas exchange l) word e = cas_seen exchange l word (with_access e)
  accepted_plain _ word e = refl

  accepted_instr : (o : Option TargetInstr) (word : ℕ) (e : Entry) → fails_at o e.hand.seen word ≡ false → Keeps e (instr_accepted Optimistic target sizes o word e).entry
  accepted_instr None word e goes = refl
  accepted_instr (Some (Plain i)) word e goes = accepted_plain i word e
  accepted_instr (Some Check) word e goes = of (word == e.hand.seen) goes where
    of : (b : Bool) → not b ≡ false → Keeps e (if b then check_passed target sizes e else check_failed target sizes word e).entry
    of true goes = on_seen e.hand.registers (with_hand e (record e.hand { guards = pass_check e.hand.guards }))
    of false goes = absurd (let z : true ≡ false = goes in cc)
  accepted_instr (Some (Guard r)) word e goes =
      on_seen e.hand.registers (with_hand e (record e.hand { guards = with_guard e.hand.guards (register_number r) (slot_in e.hand.registers r) }))

  published_seen : (r : Reg) (e later : Entry) → Keeps (with_published r e) later → Keeps e later
  published_seen (Num r) e later turns = turns
  published_seen (Ref r) e later turns = turns

  entry_seen : (k : ℕ) (exchange : CasEntry) (word : ℕ) (e : Entry) → Keeps e (entry_ended Optimistic target sizes k exchange word e).entry
  entry_seen k exchange word e = of (succeeds exchange e.hand.registers word) where
    of : (b : Bool) → Keeps e (if b then retires_then Optimistic target sizes (retires.List k) (to_retire exchange.retire e.hand.registers) (with_published exchange.replacement e) else quiet (list_ended target sizes k e)).entry
    of true =
        let published = with_published exchange.replacement e in
        published_seen exchange.replacement e (retires_then Optimistic target sizes (retires.List k) (to_retire exchange.retire e.hand.registers) published).entry
        (retires_seen (retires.List k) (to_retire exchange.retire e.hand.registers) published)
    of false = ended_seen k e

  list_accepted_seen : (k : ℕ) (o : Option CasEntry) (word : ℕ) (e : Entry) → Keeps e (list_accepted Optimistic target sizes k o word e).entry
  list_accepted_seen k None word e = refl
  list_accepted_seen k (Some exchange) word e = entry_seen k exchange word e

  retired_seen : (go : AfterRetire) (o : Option Retirement) (e : Entry) → Keeps e (retired_on Optimistic target sizes go o e).entry
  retired_seen go None e = onward_seen go (with_routine e At)
  retired_seen go (Some retirement) e = refl

  claim_seen : (claim : Claim) (o : Option ClaimEnd) (e : Entry) → Keeps e (claim_on Optimistic target claim o e).entry
  claim_seen claim (Some (ends.Claimed j)) e = refl
  claim_seen claim _ e = refl

  zeroed_seen : (k field : ℕ) (e : Entry) → Keeps e (zeroed Optimistic target sizes k field e).entry
  zeroed_seen k field e = of (nat_lt (field + 1) (zero_count target (instr_in target e))) where
    of : (b : Bool) → Keeps e (if b then quiet (with_routine e (Zeroes k (field + 1))) else node_made Optimistic target sizes (cradle_of e k) e).entry
    of true = refl
    of false = on_seen (with_new (instr_in target e) (cradle_of e k) e.hand.registers) e

-- at a routine that isn't the load at a method's begin, nor a check
abbrev pub loads_seen : Target → Entry → Routine → Bool
loads_seen target e Idle = false
loads_seen target e (LoadSeen why) = true
loads_seen target e At = is_check (instr_in target e)
loads_seen target e (InList k) = false
loads_seen target e (Retires retirement go) = false
loads_seen target e Restarts = false
loads_seen target e (Clears next) = false
loads_seen target e (Claims claim) = false
loads_seen target e (Zeroes k field) = false
loads_seen target e (Announces announcing) = false

-- if no method begins or begins again, what was seen stays
pub stays_seen : (target : Target) (setting : Setting) (word : ℕ) (e : Entry) (routine : Routine) → NeverAnnounces routine → renews_at target e routine word ≡ false → Keeps e (accepted Optimistic target setting word (counted e) routine).entry
stays_seen target setting word e Idle never other = refl
stays_seen target setting word e (LoadSeen why) never other = absurd (let z : true ≡ false = other in cc)
stays_seen target setting word e At never other = accepted_instr target setting.sizes (instr_in target e) word (counted e) other
stays_seen target setting word e (InList k) never other = list_accepted_seen target setting.sizes k (slice_get (list_of (instr_in target e)) k) word (counted e)
stays_seen target setting word e (Retires retirement go) never other = retired_seen target setting.sizes go (retire_accepts retirement word) (counted e)
stays_seen target setting word e Restarts never other = restarted_seen target setting.sizes (with_hand (counted e) (unguarded (restart_next target e) e.hand)) ∙ unguarded_seen (restart_next target e) e.hand
stays_seen target setting word e (Clears next) never other = cleared_seen target setting.sizes next (with_hand (counted e) (unguarded (clear_next target next e) e.hand)) ∙ unguarded_seen (clear_next target next e) e.hand
stays_seen target setting word e (Claims claim) never other =
    let turn = claim_accepts setting.sizes setting.last claim word in claim_seen target setting.sizes turn.claim turn.ended (claim_counted (claim_takes setting.sizes claim word) (counted e))
stays_seen target setting word e (Zeroes k field) never other = zeroed_seen target setting.sizes k field (counted e)
stays_seen target setting word e (Announces announcing) never other = absurd (never announcing refl)

no_check : (o : Option TargetInstr) (seen word : ℕ) → is_check o ≡ false → fails_at o seen word ≡ false
no_check (Some Check) seen word other = absurd (let z : true ≡ false = other in cc)
no_check _ seen word other = refl

no_begin : (target : Target) (e : Entry) (routine : Routine) (word : ℕ) → loads_seen target e routine ≡ false → renews_at target e routine word ≡ false
no_begin target e (LoadSeen why) word other = other
no_begin target e At word other = no_check (instr_in target e) e.hand.seen word other
no_begin target e _ word other = refl

pub seen_stays : (target : Target) (setting : Setting) (word : ℕ) (e : Entry) (routine : Routine) → NeverAnnounces routine → loads_seen target e routine ≡ false → Keeps e (accepted Optimistic target setting word (counted e) routine).entry
seen_stays target setting word e routine never other = stays_seen target setting word e routine never (no_begin target e routine word other)

pub after_stays : (target : Target) (setting : Setting) (word : ℕ) (e : Entry) → setting.reclamation ≡ Optimistic → NeverAnnounces e.routine → renews target e word ≡ false → (after target setting e word).hand.seen ≡ e.hand.seen
after_stays target setting word e optimistic never other = ap (λ (e : Entry). e.hand.seen) (after_is target setting e word optimistic) ∙ stays_seen target setting word e e.routine never other

-- if a method begins, or begins again, what is seen is the warning that was found
pub renewed_seen : (target : Target) (setting : Setting) (warning : ℕ) (e : Entry) (routine : Routine) → renews_at target e routine warning ≡ true → (accepted Optimistic target setting warning (counted e) routine).entry.hand.seen ≡ warning
renewed_seen target setting warning e (LoadSeen why) renew = begun_seen target setting.sizes (is_wrap_up why) (with_hand (counted e) (record e.hand { seen = warning }))
renewed_seen target setting warning e At renew = of (instr_in target e) renew where
  failed : (b : Bool) → not b ≡ true → (if b then check_passed target setting.sizes (counted e) else check_failed target setting.sizes warning (counted e)).entry.hand.seen ≡ warning
  failed true fails = absurd (let z : false ≡ true = fails in cc)
  failed false fails = restarted_seen target setting.sizes (with_hand (with_restart (counted e)) (record e.hand { seen = warning; accessed = false }))

  of : (o : Option TargetInstr) → fails_at o e.hand.seen warning ≡ true → (instr_accepted Optimistic target setting.sizes o warning (counted e)).entry.hand.seen ≡ warning
  of (Some Check) renew = failed (warning == e.hand.seen) renew
  of _ renew = absurd (let z : false ≡ true = renew in cc)
renewed_seen target setting warning e _ renew = absurd (let z : false ≡ true = renew in cc)

-- such a step finds the own warning
pub renewing_loads : (target : Target) (warning : ℕ) (e : Entry) → renews target e warning ≡ true → wants target e ≡ Some (Loads (Warning e.number))
renewing_loads target warning e renew = of e.routine refl renew where
  by_instr : (o : Option TargetInstr) → fails_at o e.hand.seen warning ≡ true → instr_wanted target.fields e.number o e.hand.registers ≡ Some (Loads (Warning e.number))
  by_instr None renew = absurd (let z : false ≡ true = renew in cc)
  by_instr (Some (Plain i)) renew = absurd (let z : false ≡ true = renew in cc)
  by_instr (Some Check) renew = refl
  by_instr (Some (Guard r)) renew = absurd (let z : false ≡ true = renew in cc)

  of : (r : Routine) → e.routine ≡ r → renews_at target e r warning ≡ true → wants target e ≡ Some (Loads (Warning e.number))
  of (LoadSeen why) is renew = wants_is target e (LoadSeen why) is
  of At is renew = wants_is target e At is ∙ by_instr (instr_in target e) renew
  of _ is renew = absurd (let z : false ≡ true = renew in cc)

pub after_seen : (target : Target) (setting : Setting) (warning : ℕ) (e : Entry) → setting.reclamation ≡ Optimistic → renews target e warning ≡ true → (after target setting e warning).hand.seen ≡ warning
after_seen target setting warning e optimistic renew = ap (λ (e : Entry). e.hand.seen) (after_is target setting e warning optimistic) ∙ renewed_seen target setting warning e e.routine renew
