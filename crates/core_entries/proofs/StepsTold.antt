-- What a step at a load or a check tells under optimistic access is known by where the caller stands afterwards.
use Rattle.std.proofs.Common.{◌≡◌, ℕ, zero, suc, ◌+◌, Bool, true, false, List, [], length, Option, Some, None, refl, sym, ap, ◌∙◌, arith}
use Rattle.std.proofs.lemmas.Bool.Decides.{nat_tests}
use Rattle.std.specs.Prelude.{slice_get, slice_index, ◌&&◌, ◌==◌}
use Rattle.norm_lang.specs.declared.text.Reg.{Reg}
use Rattle.norm_lang.specs.declared.text.Instr.{Instr}
use Rattle.norm_lang.specs.declared.text.Instr.TheVariants as instr
use Rattle.norm_lang.specs.declared.registers.Registers.{Registers}
use Rattle.norm_lang.specs.Local.{Spot}
use Rattle.norm_lang.specs.declared.reply.SourceReply.{SourceReply}
use Rattle.target_code.specs.declared.target.TargetInstr.{TargetInstr}
use Rattle.target_code.specs.declared.target.TargetInstr.TheVariants.{Plain, Check}
use Rattle.target_code.specs.declared.target.Target.{Target}
use Rattle.target_code.specs.LocalCode.{target_run}
use Rattle.guard_words.specs.Guards.{pass_check}
use Rattle.oa_words.specs.Words.{Sizes, address_of}
use Rattle.phase_pools.specs.declared.stages.Scheme.TheVariants.{Warned}
use Rattle.phase_pools.specs.Accesses.{WordAccess, word_of}
use Rattle.caller_parts.specs.Settings.{Setting}
use Rattle.caller_parts.specs.Operands.{with_word, code_at}
use Rattle.caller_parts.specs.declared.setting.Reclamation.{Reclamation}
use Rattle.caller_parts.specs.declared.setting.Reclamation.TheVariants.{Optimistic}
use Rattle.caller_parts.specs.declared.routine.AfterClear.TheVariants as clears
use Rattle.caller_parts.specs.declared.routine.Routine.{Routine}
use Rattle.caller_parts.specs.declared.routine.Routine.TheVariants.{At}
use Rattle.caller_steps.specs.Entries.{Entry, RoomyEntry, instr_in, new_kind, new_number, cradle_of}
use Rattle.caller_steps.specs.After.{with_hand, with_access, with_restart, loaded, instr_accepted, checked, check_passed, check_failed, accepted, counted, after, new_on, clear_on, stops, settles, goes_on, method_begun, restart_on, first_spot}
use Rattle.caller_steps.specs.Clearing.{clear_next, restart_next}
use Rattle.caller_steps.specs.Signs.{Moved}
use Rattle.core_runs.specs.RunSigns.{wanted_signs}
use Rattle.core_entries.specs.declared.signs.Sign.TheVariants.{Access, Restart}
use Rattle.core_entries.specs.Steps.{StepIs}
use Rattle.core_entries.specs.StepSigns.{is_of_text, all_named, step_signs, signs_told}
use Rattle.core_entries.specs.StepRuns.{next_run, plain_ends, stop_ends, first_sign, check_named, instr_named, instr_run, check_run, restart_run, method_run, run_after, run_ends, signs_of}
use Rattle.core_entries.specs.Told.{is_load_at, told_by}
use Rattle.core_entries.proofs.SignNames.{signs_are}

module _ (target : Target) (sizes : Sizes) (owes : Bool) where
  new_tells : (e : Entry) (next : Option ℕ) → told_by owes (clear_on target sizes clears.New next e).routine ≡ false
  new_tells e (Some r) = refl
  new_tells e None = by (cradle_of e (new_number target e)) where
    by : (slot : ℕ) → told_by owes (new_on Warned sizes (new_kind target e) (new_number target e) slot e).routine ≡ false
    by zero = refl
    by (suc j) = refl

  wrap_up_tells : (e : Entry) (next : Option ℕ) → told_by owes (clear_on target sizes clears.WrapUp next e).routine ≡ true
  wrap_up_tells e (Some r) = refl
  wrap_up_tells e None = refl

  again_tells : (e : Entry) (next : Option ℕ) → told_by owes (clear_on target sizes clears.Again next e).routine ≡ owes
  again_tells e (Some r) = refl
  again_tells e None = refl

  reply_tells : (e : Entry) (reply : SourceReply) (next : Option ℕ) → told_by owes (clear_on target sizes (clears.Reply reply) next e).routine ≡ owes
  reply_tells e reply (Some r) = refl
  reply_tells e reply None = refl

  plain_tells : (i : Instr) (e : Entry) → told_by owes (stops Optimistic target sizes (Some (Plain i)) e).entry.routine ≡ plain_ends owes i
  plain_tells (instr.New d kind) e = new_tells e (clear_next target clears.New e)
  plain_tells (instr.Commit []) e = wrap_up_tells _ _
  plain_tells (instr.Return a) e = reply_tells e _ _
  plain_tells instr.ReturnNone e = reply_tells e _ _
  plain_tells instr.Again e = again_tells e _
  plain_tells _ e = refl

  -- where local code stopped tells whether it came to an end
  pub stops_tell : (i : Option TargetInstr) (e : Entry) → told_by owes (stops Optimistic target sizes i e).entry.routine ≡ stop_ends owes i
  stops_tell (Some (Plain i)) e = plain_tells i e
  stops_tell _ e = refl

  abbrev stop_of : Spot → Entry → Option TargetInstr
  stop_of spot e = let code = code_at target e.running.call.op e.hand.wrapup in slice_get code (target_run code (length code) spot).at

  pub settles_tell : (spot : Spot) (e : Entry) → told_by owes (settles Optimistic target sizes spot e).entry.routine ≡ stop_ends owes (stop_of spot e)
  settles_tell spot e = stops_tell (stop_of spot e) _

  pub goes_tell : (registers : Registers) (e : Entry) → told_by owes (goes_on Optimistic target sizes registers e).entry.routine ≡ stop_ends owes (stop_of (record { at = e.hand.at + 1; registers = registers }) e)
  goes_tell registers e = settles_tell (record { at = e.hand.at + 1; registers = registers }) e

  -- what the phase seen is after local code
  new_sees : (e : Entry) (next : Option ℕ) → (clear_on target sizes clears.New next e).hand.seen ≡ e.hand.seen
  new_sees e (Some r) = refl
  new_sees e None = by (cradle_of e (new_number target e)) where
    by : (slot : ℕ) → (new_on Warned sizes (new_kind target e) (new_number target e) slot e).hand.seen ≡ e.hand.seen
    by zero = refl
    by (suc j) = refl

  wrap_up_sees : (e : Entry) (next : Option ℕ) → (clear_on target sizes clears.WrapUp next e).hand.seen ≡ e.hand.seen
  wrap_up_sees e (Some r) = refl
  wrap_up_sees e None = refl

  again_sees : (e : Entry) (next : Option ℕ) → (clear_on target sizes clears.Again next e).hand.seen ≡ e.hand.seen
  again_sees e (Some r) = refl
  again_sees e None = refl

  reply_sees : (e : Entry) (reply : SourceReply) (next : Option ℕ) → (clear_on target sizes (clears.Reply reply) next e).hand.seen ≡ e.hand.seen
  reply_sees e reply (Some r) = refl
  reply_sees e reply None = refl

  plain_sees : (i : Instr) (e : Entry) → (stops Optimistic target sizes (Some (Plain i)) e).entry.hand.seen ≡ e.hand.seen
  plain_sees (instr.New d kind) e = new_sees e (clear_next target clears.New e)
  plain_sees (instr.Commit []) e = wrap_up_sees _ _
  plain_sees (instr.Return a) e = reply_sees e _ _
  plain_sees instr.ReturnNone e = reply_sees e _ _
  plain_sees instr.Again e = again_sees e _
  plain_sees _ e = refl

  stops_see : (i : Option TargetInstr) (e : Entry) → (stops Optimistic target sizes i e).entry.hand.seen ≡ e.hand.seen
  stops_see (Some (Plain i)) e = plain_sees i e
  stops_see _ e = refl

  settles_see : (spot : Spot) (e : Entry) → (settles Optimistic target sizes spot e).entry.hand.seen ≡ e.hand.seen
  settles_see spot e = stops_see (stop_of spot e) _

same_test : (n : ℕ) → n == n ≡ true
same_test n = grind (arith, nat_tests)

both : (b : Bool) → b && b ≡ b
both true = refl
both false = refl

module _ (target : Target) (setting : Setting) (words later : List ℕ) (e e' : RoomyEntry) (optimistic : setting.reclamation ≡ Optimistic) (step : StepIs target setting words later e e') (at : e.core.routine ≡ At) where
  abbrev old : Entry
  old = e.core

  abbrev found : ℕ
  found = slice_index words (address_of setting.sizes (word_of step.access))

  tells : signs_told target setting words old ≡ step_signs target setting old found
  tells = ap (λ (o : Option WordAccess). all_named (is_of_text target old old.routine) (wanted_signs target setting (record { words = words; entries = [] }) old o)) step.wanted

  tells_at : (i : Option TargetInstr) → instr_in target old ≡ i → signs_told target setting words old ≡ signs_of (instr_named Optimistic i old.hand.seen found) (run_ends target old.running.call.op (instr_run Optimistic target old i found))
  tells_at i is =
      tells ∙ signs_are target setting old found
      ∙ ap (λ (r : Routine). signs_of (first_sign target setting old found r) (run_ends target old.running.call.op (run_after setting.reclamation target old found r))) at
      ∙ ap (λ (j : Option TargetInstr). signs_of (instr_named setting.reclamation j old.hand.seen found) (run_ends target old.running.call.op (instr_run setting.reclamation target old j found))) is
      ∙ ap (λ (by : Reclamation). signs_of (instr_named by i old.hand.seen found) (run_ends target old.running.call.op (instr_run by target old i found))) optimistic

  after_at : (i : Option TargetInstr) → instr_in target old ≡ i → after target setting old found ≡ (instr_accepted Optimistic target setting.sizes i found (counted old)).entry
  unfolding after
  after_at i is =
      ap (λ (r : Routine). (accepted setting.reclamation target setting found (counted old) r).entry) at
      ∙ ap (λ (j : Option TargetInstr). (instr_accepted setting.reclamation target setting.sizes j found (counted old)).entry) is
      ∙ ap (λ (by : Reclamation). (instr_accepted by target setting.sizes i found (counted old)).entry) optimistic

  entry_at : (i : Option TargetInstr) → instr_in target old ≡ i → e'.core ≡ (instr_accepted Optimistic target setting.sizes i found (counted old)).entry
  entry_at i is = ap (λ (x : RoomyEntry). x.core) step.entry ∙ after_at i is

  -- a load
  loaded_tells : (d : Reg) → told_by old.hand.wrapup (loaded Optimistic target setting.sizes d found (counted old)).entry.routine
      ≡ run_ends target old.running.call.op (Some (next_run old old.hand.wrapup (with_word old.hand.registers d found)))
  loaded_tells d =
      ap (λ (b : Bool). told_by b (loaded Optimistic target setting.sizes d found (counted old)).entry.routine) (sym (both old.hand.wrapup))
      ∙ goes_tell target setting.sizes (old.hand.wrapup && old.hand.wrapup) (with_word old.hand.registers d found) (with_access (counted old))

  load_by : (i : Option TargetInstr) → instr_in target old ≡ i → is_load_at i ≡ true → signs_of (Some Access) (told_by old.hand.wrapup e'.core.routine) ≡ signs_told target setting words old
  load_by (Some (Plain (instr.LoadRoot d x))) is loads =
      ap (λ (x : Entry). signs_of (Some Access) (told_by old.hand.wrapup x.routine)) (entry_at _ is) ∙ ap (signs_of (Some Access)) (loaded_tells d) ∙ sym (tells_at _ is)
  load_by (Some (Plain (instr.LoadPick d x count a))) is loads =
      ap (λ (x : Entry). signs_of (Some Access) (told_by old.hand.wrapup x.routine)) (entry_at _ is) ∙ ap (signs_of (Some Access)) (loaded_tells d) ∙ sym (tells_at _ is)
  load_by (Some (Plain (instr.LoadField d a f))) is loads =
      ap (λ (x : Entry). signs_of (Some Access) (told_by old.hand.wrapup x.routine)) (entry_at _ is) ∙ ap (signs_of (Some Access)) (loaded_tells d) ∙ sym (tells_at _ is)
  load_by _ is loads = absurd (let z : false ≡ true = loads in cc)

  pub load_told : is_load_at (instr_in target old) ≡ true → signs_of (Some Access) (told_by old.hand.wrapup e'.core.routine) ≡ signs_told target setting words old
  load_told loads = load_by (instr_in target old) refl loads

  -- a check that passed
  passed_is : found == old.hand.seen ≡ true → checked target setting.sizes found (counted old) ≡ check_passed target setting.sizes (counted old)
  passed_is same = rw same refl

  passed_tells : told_by (old.hand.wrapup && old.hand.accessed) (check_passed target setting.sizes (counted old)).entry.routine ≡ run_ends target old.running.call.op (check_run target old true)
  passed_tells = goes_tell target setting.sizes (old.hand.wrapup && old.hand.accessed) old.hand.registers (with_hand (counted old) (record old.hand { guards = pass_check old.hand.guards }))

  passed_told : (is : instr_in target old ≡ Some Check) → found == old.hand.seen ≡ true
      → signs_of None (told_by (old.hand.wrapup && old.hand.accessed) e'.core.routine) ≡ signs_told target setting words old
  passed_told is same =
      ap (λ (x : Entry). signs_of None (told_by (old.hand.wrapup && old.hand.accessed) x.routine)) (entry_at _ is ∙ ap (λ (m : Moved). m.entry) (passed_is same))
      ∙ ap (signs_of None) passed_tells
      ∙ sym (tells_at _ is ∙ ap (λ (b : Bool). signs_of (check_named b) (run_ends target old.running.call.op (check_run target old b))) same)

  -- a check that failed
  abbrev again : Entry
  again = with_hand (with_restart (counted old)) (record old.hand { seen = found; accessed = false })

  failed_tells : (next : Option ℕ) → told_by false (restart_on target setting.sizes next again).entry.routine ≡ run_ends target old.running.call.op (restart_run old next)
  failed_tells (Some r) = refl
  failed_tells None = begun old.hand.wrapup where
    begun : (w : Bool) → told_by false (method_begun target setting.sizes w again).entry.routine ≡ run_ends target old.running.call.op (Some (method_run w old))
    begun true = settles_tell target setting.sizes false (first_spot true old.running.call.args old.hand.started) (with_hand again (record again.hand { wrapup = true; accessed = false }))
    begun false = settles_tell target setting.sizes false (first_spot false old.running.call.args old.hand.started) (with_hand again (record again.hand { wrapup = false; accessed = false }))

  failed_is : found == old.hand.seen ≡ false → checked target setting.sizes found (counted old) ≡ check_failed target setting.sizes found (counted old)
  failed_is other = rw other refl

  failed_told : (is : instr_in target old ≡ Some Check) → found == old.hand.seen ≡ false → signs_of (Some Restart) (told_by false e'.core.routine) ≡ signs_told target setting words old
  failed_told is other =
      ap (λ (x : Entry). signs_of (Some Restart) (told_by false x.routine)) (entry_at _ is ∙ ap (λ (m : Moved). m.entry) (failed_is other))
      ∙ ap (signs_of (Some Restart)) (failed_tells (restart_next target old))
      ∙ sym (tells_at _ is ∙ ap (λ (b : Bool). signs_of (check_named b) (run_ends target old.running.call.op (check_run target old b))) other)

  -- the phase seen afterwards tells whether the check passed
  passed_sees : (check_passed target setting.sizes (counted old)).entry.hand.seen ≡ old.hand.seen
  passed_sees = settles_see target setting.sizes false (record { at = old.hand.at + 1; registers = old.hand.registers }) (with_hand (counted old) (record old.hand { guards = pass_check old.hand.guards }))

  failed_sees : (next : Option ℕ) → (restart_on target setting.sizes next again).entry.hand.seen ≡ found
  failed_sees (Some r) = refl
  failed_sees None = settles_see target setting.sizes false (first_spot old.hand.wrapup old.running.call.args old.hand.started) (with_hand again (record again.hand { wrapup = old.hand.wrapup; accessed = false }))

  pub check_told : instr_in target old ≡ Some Check → (same : Bool) → e'.core.hand.seen == old.hand.seen ≡ same
      → signs_of (check_named same) (told_by (same && (old.hand.wrapup && old.hand.accessed)) e'.core.routine) ≡ signs_told target setting words old
  check_told is same test = of (found == old.hand.seen) refl same test where
    passed_at : found == old.hand.seen ≡ true → e'.core.hand.seen ≡ old.hand.seen
    passed_at b = ap (λ (x : Entry). x.hand.seen) (entry_at _ is ∙ ap (λ (m : Moved). m.entry) (passed_is b)) ∙ passed_sees

    failed_at : found == old.hand.seen ≡ false → e'.core.hand.seen ≡ found
    failed_at b = ap (λ (x : Entry). x.hand.seen) (entry_at _ is ∙ ap (λ (m : Moved). m.entry) (failed_is b)) ∙ failed_sees (restart_next target old)

    of : (b : Bool) → found == old.hand.seen ≡ b → (s : Bool) → e'.core.hand.seen == old.hand.seen ≡ s
        → signs_of (check_named s) (told_by (s && (old.hand.wrapup && old.hand.accessed)) e'.core.routine) ≡ signs_told target setting words old
    of true b true t = passed_told is b
    of true b false t = absurd (let z : true ≡ false = sym (same_test old.hand.seen) ∙ ap (λ (n : ℕ). n == old.hand.seen) (sym (passed_at b)) ∙ t in cc)
    of false b true t = absurd (let z : false ≡ true = sym b ∙ ap (λ (n : ℕ). n == old.hand.seen) (sym (failed_at b)) ∙ t in cc)
    of false b false t = failed_told is b
