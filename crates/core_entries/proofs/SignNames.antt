-- The signs of a step are that of its access, and that of the end to which its local code comes.
use Rattle.std.proofs.Common.{◌≡◌, ℕ, zero, suc, ◌+◌, ◌&&◌, Bool, true, false, List, [], ◌∷◌, ◌++◌, length, map, Option, Some, None, refl, ap, ◌∙◌, if◌then◌else◌}
use Rattle.std.specs.Prelude.{nat_lt, ◌==◌, slice_get}
use Rattle.norm_lang.specs.declared.text.CasEntry.{CasEntry}
use Rattle.norm_lang.specs.declared.text.Instr.{Instr}
use Rattle.norm_lang.specs.declared.text.Instr.TheVariants as instr
use Rattle.norm_lang.specs.declared.registers.Registers.{Registers}
use Rattle.norm_lang.specs.Registers.{with_count}
use Rattle.norm_lang.specs.Local.{Spot}
use Rattle.target_code.specs.declared.target.TargetInstr.{TargetInstr}
use Rattle.target_code.specs.declared.target.TargetInstr.TheVariants.{Plain, Check, Guard}
use Rattle.target_code.specs.declared.target.Target.{Target}
use Rattle.oa_words.specs.Words.{Sizes}
use Rattle.phase_pools.specs.declared.access.ClaimEnd.{ClaimEnd}
use Rattle.phase_pools.specs.declared.access.ClaimEnd.TheVariants as claim_ends
use Rattle.phase_pools.specs.Pools.{Claim, claim_accepts, claim_takes, Retirement, retire_accepts}
use Rattle.caller_parts.specs.declared.routine.MethodStart.{MethodStart}
use Rattle.caller_parts.specs.declared.routine.MethodStart.TheVariants as starts
use Rattle.caller_parts.specs.declared.routine.AnnounceReason.TheVariants as reasons
use Rattle.caller_parts.specs.declared.routine.Announcing.{Announcing}
use Rattle.caller_parts.specs.declared.routine.Announcing.TheVariants as announces
use Rattle.caller_parts.specs.declared.setting.Reclamation.{Reclamation}
use Rattle.caller_parts.specs.declared.setting.Reclamation.TheVariants.{Optimistic, Epochs}
use Rattle.caller_parts.specs.declared.routine.AfterRetire.{AfterRetire}
use Rattle.caller_parts.specs.declared.routine.AfterRetire.TheVariants as retires
use Rattle.caller_parts.specs.declared.routine.Routine.{Routine}
use Rattle.caller_parts.specs.declared.routine.Routine.TheVariants.{Idle, LoadSeen, At, InList, Retires, Restarts, Clears, Claims, Zeroes, Announces}
use Rattle.caller_parts.specs.Settings.{Setting}
use Rattle.caller_parts.specs.Operands.{succeeds, to_retire, list_of, with_word, with_new, register_number, slot_in}
use Rattle.caller_steps.specs.Entries.{Entry, code_in, instr_in, cradle_of}
use Rattle.caller_steps.specs.Signs.{Accesses, quiet}
use Rattle.caller_steps.specs.Signs as steps
use Rattle.caller_steps.specs.After.{plain_stop, wrap_up_stops, wrap_up_hand, wrap_up_begun, run_to, announced_stop, stop_at, stops, settles, list_goes, list_failed, retires_then, cas_ended, plain_accepted, instr_accepted, checked, restart_on, seen_loaded, entry_ended, list_accepted, retired_on, claim_counted, claim_on, zeroed, accepted, counted, signs, with_access, with_published, with_hand, with_routine, with_restart, hand_at, first_spot, goes_on, method_begun, generator_begun, announced}
use Rattle.guard_words.specs.Guards.{with_guard, pass_check}
use Rattle.caller_steps.specs.Clearing.{restart_next, unguarded}
use Rattle.target_code.specs.LocalCode.{target_run}
use Rattle.core_entries.specs.declared.signs.Sign.{Sign}
use Rattle.core_entries.specs.declared.signs.Run.{Run}
use Rattle.core_entries.specs.StepSigns.{is_plain_at, is_of_text, named, all_named, step_signs}
use Rattle.core_entries.specs.StepRuns.{next_run, method_run, start_named, check_named, instr_named, list_named, end_named, stores_more, fresh_named, announcing_named, first_sign, restart_run, check_run, retire_run, cas_run, plain_run, instr_run, retired_run, restart_after, zeroed_run, announcing_run, run_after, plain_ends, stop_ends, run_ends, end_signs, signs_of}

-- an access that the source owes, or none
abbrev owes : Bool → List steps.Sign
owes false = []
owes true = Accesses ∷ []

if_owes : (b : Bool) → ((if b then Accesses ∷ [] else []) ++ []) ≡ owes b
if_owes false = refl
if_owes true = refl

named_ends : (b : Bool) → map (named false) (owes b) ≡ end_signs b
named_ends false = refl
named_ends true = refl

all_ends : (b : Bool) → all_named false (owes b) ≡ end_signs b
all_ends false = refl
all_ends true = refl

-- a wrap-up that has just begun owes none
wrap_up_quiet : (i : Option TargetInstr) (e : Entry) → e.hand.accessed ≡ false → e.hand.wrapup ≡ true → (wrap_up_stops i e).signs ≡ []
wrap_up_quiet (Some (Plain (instr.Return a))) e new within = rw (within, new) refl
wrap_up_quiet (Some (Plain instr.ReturnNone)) e new within = rw (within, new) refl
wrap_up_quiet (Some (Plain instr.Again)) e new within = rw (within, new) refl
wrap_up_quiet _ e new within = refl

begun_quiet : (target : Target) (made : ℕ) (e : Entry) → (wrap_up_begun target made e).signs ≡ []
begun_quiet target made e =
    let begun : Entry = run_to target (record { at = 0; registers = with_count e.hand.registers made }) (with_hand e (wrap_up_hand made e.hand)) in
    wrap_up_quiet (instr_in target begun) begun refl refl

module _ (target : Target) (sizes : Sizes) where
  plain_owes : (i : Instr) (e : Entry) → (plain_stop target sizes i e).signs ≡ owes (plain_ends (e.hand.wrapup && e.hand.accessed) i)
  plain_owes (instr.Commit []) e = refl
  plain_owes (instr.Commit (exchange ∷ exchanges)) e = refl
  plain_owes (instr.Return a) e = if_owes (e.hand.wrapup && e.hand.accessed)
  plain_owes instr.ReturnNone e = if_owes (e.hand.wrapup && e.hand.accessed)
  plain_owes instr.Again e = if_owes (e.hand.wrapup && e.hand.accessed)
  plain_owes _ e = refl

  announced_owes : (i : Instr) (e : Entry) → (announced_stop target sizes i e).signs ≡ owes (plain_ends (e.hand.wrapup && e.hand.accessed) i)
  announced_owes (instr.Commit []) e = ap (λ (l : List steps.Sign). Accesses ∷ l) (begun_quiet target 0 e)
  announced_owes (instr.Commit (exchange ∷ exchanges)) e = refl
  announced_owes (instr.Return a) e = if_owes (e.hand.wrapup && e.hand.accessed)
  announced_owes instr.ReturnNone e = if_owes (e.hand.wrapup && e.hand.accessed)
  announced_owes instr.Again e = if_owes (e.hand.wrapup && e.hand.accessed)
  announced_owes _ e = refl

  by_owes : (by : Reclamation) (i : Instr) (e : Entry) → (stop_at by target sizes i e).signs ≡ owes (plain_ends (e.hand.wrapup && e.hand.accessed) i)
  by_owes Optimistic i e = plain_owes i e
  by_owes Epochs i e = announced_owes i e

  stop_owes : (by : Reclamation) (i : Option TargetInstr) (e : Entry) → (stops by target sizes i e).signs ≡ owes (stop_ends (e.hand.wrapup && e.hand.accessed) i)
  stop_owes by (Some (Plain i)) e = by_owes by i e
  stop_owes by _ e = refl

  -- local code from a spot on
  abbrev run_of : Spot → Entry → Run
  run_of spot e = record { wrapup = e.hand.wrapup; accessed = e.hand.accessed; at = spot.at; registers = spot.registers }

  abbrev settled_at : Spot → Entry → Entry
  settled_at spot e = with_hand e (hand_at e.hand (target_run (code_in target e) (length (code_in target e)) spot))

  settled : (by : Reclamation) (spot : Spot) (e : Entry) → (settles by target sizes spot e).signs ≡ owes (run_ends target e.running.call.op (Some (run_of spot e)))
  settled by spot e = stop_owes by (instr_in target (settled_at spot e)) (settled_at spot e)

tells_first : (own : Bool) (sign : steps.Sign) (l : List steps.Sign) (b : Bool) → l ≡ owes b → all_named own (sign ∷ l) ≡ signs_of (Some (named own sign)) b
tells_first own sign l b is = ap (λ (l : List steps.Sign). named own sign ∷ map (named false) l) is ∙ ap (λ (l : List Sign). named own sign ∷ l) (named_ends b)

tells_none : (l : List steps.Sign) (b : Bool) → l ≡ owes b → all_named false l ≡ signs_of None b
tells_none l b is = ap (λ (l : List steps.Sign). all_named false l) is ∙ all_ends b

module _ (target : Target) (sizes : Sizes) (word : ℕ) where
  abbrev ends_of : Entry → Option Run → Bool
  ends_of e run = run_ends target e.running.call.op run

  -- from the next instruction on
  goes_owes : (by : Reclamation) (registers : Registers) (e : Entry) → (goes_on by target sizes registers e).signs ≡ owes (ends_of e (Some (next_run e e.hand.accessed registers)))
  goes_owes by registers e = settled target sizes by (record { at = e.hand.at + 1; registers = registers }) e

  -- a method from its start
  abbrev begun_at : Bool → Entry → Entry
  begun_at wrapup e = with_hand e (record e.hand { wrapup = wrapup; accessed = false })

  begun_owes : (wrapup : Bool) (e : Entry) → (method_begun target sizes wrapup e).signs ≡ owes (ends_of e (Some (method_run wrapup e)))
  begun_owes false e = settled target sizes Optimistic (first_spot false e.running.call.args e.hand.started) (begun_at false e)
  begun_owes true e = settled target sizes Optimistic (first_spot true e.running.call.args e.hand.started) (begun_at true e)

  -- a generator after an announcement
  generator_owes : (e : Entry) → (generator_begun target sizes e).signs ≡ owes (ends_of e (Some (method_run false e)))
  generator_owes e = settled target sizes Epochs (first_spot false e.running.call.args e.hand.started) (begun_at false e)

  announced_is : (announcing : Announcing) (e : Entry) → all_named false (announced target sizes announcing word e).signs ≡ signs_of (announcing_named announcing) (ends_of e (announcing_run e announcing))
  announced_is (announces.Loads why) e = refl
  announced_is (announces.Stores reasons.Begin phase) e = tells_first false (steps.Begins e.running.call) _ _ (generator_owes e)
  announced_is (announces.Stores reasons.Again phase) e = tells_first false steps.Renews _ _ (generator_owes e)
  announced_is (announces.Stores reasons.Swept phase) e = tells_first false steps.Renews _ _ (generator_owes e)
  announced_is (announces.Leaves reply) e = refl

  -- ---- starts and checks

  seen_is : (why : MethodStart) (e : Entry) → all_named false (seen_loaded target sizes why word e).signs ≡ signs_of (Some (start_named why)) (ends_of e (run_after Optimistic target e word (LoadSeen why)))
  seen_is starts.Begin e = tells_first false (steps.Begins e.running.call) _ _ (begun_owes false (with_hand e (record e.hand { seen = word })))
  seen_is starts.WrapUp e = tells_first false steps.Renews _ _ (begun_owes true (with_hand e (record e.hand { seen = word })))
  seen_is starts.Again e = tells_first false steps.Renews _ _ (begun_owes false (with_hand e (record e.hand { seen = word })))

  -- the method runs again, or clears a hazard first
  again_owes : (next : Option ℕ) (e : Entry) → (restart_on target sizes next e).signs ≡ owes (ends_of e (restart_run e next))
  again_owes None e = begun_owes e.hand.wrapup e
  again_owes (Some r) e = refl

  check_is : (same : Bool) (e : Entry) → word == e.hand.seen ≡ same
      → all_named false (checked target sizes word e).signs ≡ signs_of (check_named (word == e.hand.seen)) (ends_of e (check_run target e (word == e.hand.seen)))
  check_is true e is = rw is (tells_none _ _ (goes_owes Optimistic e.hand.registers (with_hand e (record e.hand { guards = pass_check e.hand.guards }))))
  check_is false e is = rw is (tells_first false steps.Renews _ _ (again_owes (restart_next target e) (with_hand (with_restart e) (record e.hand { seen = word; accessed = false }))))

  -- ---- accesses of the text

  retires_owes : (by : Reclamation) (slot : ℕ) (e : Entry) → (retires_then by target sizes retires.Next slot (with_access e)).signs ≡ owes (ends_of e (retire_run e slot))
  retires_owes by zero e = goes_owes by e.hand.registers (with_access e)
  retires_owes by (suc j) e = refl

  cas_owes : (by : Reclamation) (exchange : CasEntry) (l : ℕ) (e : Entry) (made : Bool) → succeeds exchange e.hand.registers word ≡ made
      → (cas_ended by target sizes exchange l word (with_access e)).signs ≡ owes (ends_of e (cas_run e exchange l (succeeds exchange e.hand.registers word)))
  cas_owes by exchange l e true is = rw is (retires_owes by (to_retire exchange.retire e.hand.registers) e)
  cas_owes by exchange l e false is = rw is (settled target sizes by (record { at = l; registers = e.hand.registers }) (with_access e))

  plain_is : (by : Reclamation) (i : Instr) (e : Entry) → all_named true (plain_accepted by target sizes i word e).signs ≡ signs_of (instr_named by (Some (Plain i)) e.hand.seen word) (ends_of e (plain_run e i word))
  plain_is by (instr.LoadRoot d x) e = tells_first true steps.Accesses _ _ (goes_owes by (with_word e.hand.registers d word) (with_access e))
  plain_is by (instr.LoadPick d x count a) e = tells_first true steps.Accesses _ _ (goes_owes by (with_word e.hand.registers d word) (with_access e))
  plain_is by (instr.LoadField d a f) e = tells_first true steps.Accesses _ _ (goes_owes by (with_word e.hand.registers d word) (with_access e))
  plain_is by (instr.Put a f b) e = tells_first true steps.Accesses _ _ (goes_owes by e.hand.registers e)
  plain_is by (instr.Cas exchange l) e = tells_first true steps.Accesses _ _ (cas_owes by exchange l e _ refl)
  plain_is by _ e = refl

  instr_is : (by : Reclamation) (i : Option TargetInstr) (e : Entry) → all_named (is_plain_at i) (instr_accepted by target sizes i word e).signs ≡ signs_of (instr_named by i e.hand.seen word) (ends_of e (instr_run by target e i word))
  instr_is by None e = refl
  instr_is by (Some (Plain i)) e = plain_is by i e
  instr_is Optimistic (Some Check) e = check_is _ e refl
  instr_is Epochs (Some Check) e = refl
  instr_is Optimistic (Some (Guard r)) e = tells_none _ _ (goes_owes Optimistic e.hand.registers (with_hand e (record e.hand { guards = with_guard e.hand.guards (register_number r) (slot_in e.hand.registers r) })))
  instr_is Epochs (Some (Guard r)) e = refl

  -- ---- lists, retirements, claims and stores of 0

  more_quiet : (k : ℕ) (e : Entry) (more : Bool) → (if more then quiet (with_routine e (InList (k + 1))) else wrap_up_begun target (k + 1) e).signs ≡ []
  more_quiet k e true = refl
  more_quiet k e false = begun_quiet target (k + 1) e

  quiet_goes : (by : Reclamation) (k : ℕ) (e : Entry) → (list_goes by target sizes k e).signs ≡ []
  quiet_goes Optimistic k e = refl
  quiet_goes Epochs k e = more_quiet k e (nat_lt (k + 1) (length (list_of (instr_in target e))))

  quiet_list : (by : Reclamation) (k : ℕ) (slot : ℕ) (e : Entry) → (retires_then by target sizes (retires.List k) slot e).signs ≡ []
  quiet_list by k zero e = quiet_goes by k e
  quiet_list by k (suc j) e = refl

  failed_quiet : (by : Reclamation) (k : ℕ) (e : Entry) → (list_failed by target sizes k e).signs ≡ []
  failed_quiet Optimistic k e = refl
  failed_quiet Epochs k e = begun_quiet target k e

  entry_quiet : (by : Reclamation) (k : ℕ) (exchange : CasEntry) (e : Entry) (made : Bool) → succeeds exchange e.hand.registers word ≡ made → (entry_ended by target sizes k exchange word e).signs ≡ []
  entry_quiet by k exchange e true is = rw is (quiet_list by k (to_retire exchange.retire e.hand.registers) (with_published exchange.replacement e))
  entry_quiet by k exchange e false is = rw is (failed_quiet by k e)

  list_is : (by : Reclamation) (k : ℕ) (exchange : Option CasEntry) (e : Entry) → all_named true (list_accepted by target sizes k exchange word e).signs ≡ signs_of (list_named exchange) false
  list_is by k None e = refl
  list_is by k (Some exchange) e = tells_first true steps.Accesses _ false (entry_quiet by k exchange e _ refl)

  retired_is : (by : Reclamation) (go : AfterRetire) (left : Option Retirement) (e : Entry) → all_named false (retired_on by target sizes go left e).signs ≡ signs_of None (ends_of e (retired_run e go left))
  retired_is by retires.Next None e = tells_none _ _ (goes_owes by e.hand.registers (with_routine e At))
  retired_is by (retires.List k) None e = tells_none _ false (quiet_goes by k (with_routine e At))
  retired_is by go (Some retirement) e = refl

  claim_is : (by : Reclamation) (claim : Claim) (end : Option ClaimEnd) (e : Entry) → all_named false (claim_on by target claim end e).signs ≡ signs_of (end_named end) false
  claim_is by claim (Some (claim_ends.Claimed slot)) e = refl
  claim_is by claim _ e = refl

  zeroed_is : (by : Reclamation) (k field : ℕ) (e : Entry) (more : Bool) → stores_more target e field ≡ more
      → all_named false (zeroed by target sizes k field e).signs ≡ signs_of (fresh_named (stores_more target e field)) (ends_of e (zeroed_run target e k (stores_more target e field)))
  zeroed_is by k field e true is = rw is refl
  zeroed_is by k field e false is = rw is (tells_first false (steps.Draws (cradle_of e k)) _ _ (goes_owes by (with_new (instr_in target e) (cradle_of e k) e.hand.registers) e))

-- a hazard that is cleared changes no method run
same_after : (target : Target) (e : Entry) (now next : Option ℕ)
    → run_ends target e.running.call.op (restart_run (with_hand (counted e) (unguarded now e.hand)) next) ≡ run_ends target e.running.call.op (restart_run e next)
same_after target e None next = refl
same_after target e (Some r) next = refl

-- nor does the count of steps
same_run : (target : Target) (e : Entry) (word : ℕ) (by : Reclamation) (i : Option TargetInstr) → instr_run by target (counted e) i word ≡ instr_run by target e i word
same_run target e word by None = refl
same_run target e word by (Some (Plain i)) = refl
same_run target e word Optimistic (Some Check) = refl
same_run target e word Epochs (Some Check) = refl
same_run target e word Optimistic (Some (Guard r)) = refl
same_run target e word Epochs (Some (Guard r)) = refl

module _ (target : Target) (setting : Setting) (e : Entry) (word : ℕ) where
  abbrev scheme : Reclamation
  scheme = setting.reclamation

  by : (routine : Routine) → all_named (is_of_text target e routine) (accepted scheme target setting word (counted e) routine).signs
      ≡ signs_of (first_sign target setting e word routine) (run_ends target e.running.call.op (run_after scheme target e word routine))
  by Idle = refl
  by (LoadSeen why) = seen_is target setting.sizes word why (counted e)
  by At = instr_is target setting.sizes word scheme (instr_in target e) (counted e)
      ∙ ap (λ (run : Option Run). signs_of (instr_named scheme (instr_in target e) e.hand.seen word) (run_ends target e.running.call.op run)) (same_run target e word scheme (instr_in target e))
  by (InList k) = list_is target setting.sizes word scheme k (slice_get (list_of (instr_in target e)) k) (counted e)
  by (Retires retirement go) = retired_is target setting.sizes word scheme go (retire_accepts retirement word) (counted e)
  by Restarts = tells_none _ _ (again_owes target setting.sizes word (restart_after target e) (with_hand (counted e) (unguarded (restart_next target e) e.hand))
      ∙ ap owes (same_after target e (restart_next target e) (restart_after target e)))
  by (Clears next) = refl
  by (Claims claim) = claim_is target setting.sizes word scheme (claim_accepts setting.sizes setting.last claim word).claim (claim_accepts setting.sizes setting.last claim word).ended (claim_counted (claim_takes setting.sizes claim word) (counted e))
  by (Zeroes k field) = zeroed_is target setting.sizes word scheme k field (counted e) _ refl
  by (Announces announcing) = announced_is target setting.sizes word announcing (counted e)

  pub signs_are : step_signs target setting e word ≡ signs_of (first_sign target setting e word e.routine) (run_ends target e.running.call.op (run_after setting.reclamation target e word e.routine))
  unfolding signs
  signs_are = by e.routine
