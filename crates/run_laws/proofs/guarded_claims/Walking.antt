-- A step that isn't one of a claim puts no slot in a cradle, and comes to stand in no sweep.
use Rattle.std.proofs.Common.{ℕ, zero, suc, ◌≡◌, ◌≢◌, ◌==◌, ◌+◌, ◌⊎◌, ◌∙◌, Bool, true, false, refl, inl, inr, sym, List, [], ◌∷◌, map, length, ⊎_elim, Option, Some, None, if◌then◌else◌}
use Rattle.std.specs.Prelude.{slice_get, slice_index, nat_lt}
use Rattle.norm_lang.specs.declared.text.Reg.{Reg}
use Rattle.norm_lang.specs.declared.text.Reg.TheVariants.{Num, Ref}
use Rattle.norm_lang.specs.declared.text.CasEntry.{CasEntry}
use Rattle.norm_lang.specs.declared.text.Instr.{Instr}
use Rattle.norm_lang.specs.declared.text.Instr.TheVariants as instr
use Rattle.norm_lang.specs.declared.registers.Registers.{Registers}
use Rattle.norm_lang.specs.Registers.{number_in}
use Rattle.norm_lang.specs.Local.{Spot}
use Rattle.norm_lang.specs.declared.reply.SourceReply.TheVariants as replies
use Rattle.target_code.specs.declared.target.TargetInstr.{TargetInstr}
use Rattle.target_code.specs.declared.target.TargetInstr.TheVariants.{Plain, Check, Guard}
use Rattle.target_code.specs.declared.target.Target.{Target}
use Rattle.target_code.specs.LocalCode.{target_run}
use Rattle.guard_words.specs.Guards.{with_guard, pass_check}
use Rattle.oa_words.specs.Words.{Sizes}
use Rattle.phase_pools.specs.Pools.{Retirement, retire_accepts}
use Rattle.caller_parts.specs.declared.routine.AfterClear.{AfterClear}
use Rattle.caller_parts.specs.declared.routine.AfterClear.TheVariants as clears
use Rattle.caller_parts.specs.declared.routine.AfterRetire.{AfterRetire}
use Rattle.caller_parts.specs.declared.routine.AfterRetire.TheVariants as retires
use Rattle.caller_parts.specs.declared.routine.Routine.{Routine}
use Rattle.caller_parts.specs.declared.routine.Routine.TheVariants.{Idle, LoadSeen, At, InList, Retires, Restarts, Clears, Claims, Zeroes, Announces}
use Rattle.caller_parts.specs.Settings.{Setting}
use Rattle.caller_steps.specs.Entries.{Entry, code_in, instr_in, new_kind, new_number, zero_count, cradle_of}
use Rattle.caller_parts.specs.Operands.{with_word, slot_in, register_number, list_of, succeeds, to_retire, emptied, with_new}
use Rattle.caller_steps.specs.Clearing.{restart_next, clear_next, unguarded}
use Rattle.caller_steps.specs.Signs.{quiet}
use Rattle.caller_steps.specs.After.{check_failed, check_passed, is_wrap_up, with_restart, with_routine, with_hand, hand_at, new_on, then_goes, clear_on, cleared, wrap_up_hand, list_ended, list_begun, plain_stop, stops, stopped, settles, goes_on, first_spot, method_begun, restart_on, restarted, with_access, list_on, onward_goes, retires_then, cas_failed, cas_ended, plain_accepted, instr_accepted, with_published, entry_ended, list_accepted, retired_on, node_made, zeroed, accepted, counted}
use Rattle.oa_simulation.specs.sim_relation.Views.{Shared}
use Rattle.run_laws.proofs.guarded_claims.Passing.{KnowsWhere}
use Rattle.caller_parts.specs.declared.setting.Reclamation.TheVariants.{Optimistic}
use Rattle.phase_pools.specs.declared.stages.Scheme.TheVariants.{Warned}
use Rattle.oa_simulation.proofs.sim_relation.Schemes.{NeverAnnounces}

-- no cradle has the slot
abbrev pub Away : ℕ → Entry → Type 0
Away j e = (k : ℕ) → cradle_of e k ≢ j

abbrev pub Keeps : Shared → ℕ → ℕ → ℕ → Entry → Entry → Type 0
Keeps s d r j before later = (Away j before → Away j later) × (KnowsWhere s d r j before.routine → KnowsWhere s d r j later.routine)

emptied_is : (slot : ℕ) (xs : List ℕ) (i : ℕ) → (slice_index (map (emptied slot) xs) i ≡ 0) ⊎ (slice_index (map (emptied slot) xs) i ≡ slice_index xs i)
emptied_is slot [] i = inr refl
emptied_is slot (x ∷ xs) zero = of (x == slot) where
  of : (b : Bool) → ((if b then 0 else x) ≡ 0) ⊎ ((if b then 0 else x) ≡ x)
  of true = inl refl
  of false = inr refl
emptied_is slot (x ∷ xs) (suc i) = emptied_is slot xs i

module _ (target : Target) (sizes : Sizes) (s : Shared) (d r j : ℕ) (some : j ≢ 0) where
  then_keeps : (next : AfterClear) (e : Entry) → Keeps s d r j e (then_goes target sizes next e)
  then_keeps clears.New e = of (cradle_of e (new_number target e)) where
    of : (slot : ℕ) → Keeps s d r j e (new_on Warned sizes (new_kind target e) (new_number target e) slot e)
    of zero = (λ a. a, λ k. tt)
    of (suc slot) = (λ a. a, λ k. tt)
  then_keeps _ e = (λ a. a, λ k. tt)

  cleared_keeps : (next : AfterClear) (e : Entry) → Keeps s d r j e (cleared target sizes next e)
  cleared_keeps next e = of (clear_next target next e) where
    of : (o : Option ℕ) → Keeps s d r j e (clear_on target sizes next o e)
    of None = then_keeps next e
    of (Some r) = (λ a. a, λ k. tt)

  ended_keeps : (made : ℕ) (e : Entry) → Keeps s d r j e (list_ended target sizes made e)
  ended_keeps made e = cleared_keeps clears.WrapUp (with_hand e (wrap_up_hand made e.hand))

  begun_list_keeps : (exchanges : List CasEntry) (e : Entry) → Keeps s d r j e (list_begun target sizes exchanges e).entry
  begun_list_keeps [] e = ended_keeps 0 e
  begun_list_keeps (exchange ∷ exchanges) e = (λ a. a, λ k. tt)

  plain_keeps : (i : Instr) (e : Entry) → Keeps s d r j e (plain_stop target sizes i e).entry
  plain_keeps (instr.New d kind) e = cleared_keeps clears.New e
  plain_keeps (instr.Commit exchanges) e = begun_list_keeps exchanges e
  plain_keeps (instr.Return a) e = cleared_keeps (clears.Reply (replies.Number (number_in e.hand.registers a))) e
  plain_keeps instr.ReturnNone e = cleared_keeps (clears.Reply replies.Nothing) e
  plain_keeps instr.Again e = cleared_keeps clears.Again e
  plain_keeps _ e = (λ a. a, λ k. tt)

  stopped_keeps : (e : Entry) → Keeps s d r j e (stopped Optimistic target sizes e).entry
  stopped_keeps e = of (instr_in target e) where
    of : (o : Option TargetInstr) → Keeps s d r j e (stops Optimistic target sizes o e).entry
    of (Some (Plain i)) = plain_keeps i e
    of _ = (λ a. a, λ k. tt)

  settles_keeps : (spot : Spot) (e : Entry) → Keeps s d r j e (settles Optimistic target sizes spot e).entry
  settles_keeps spot e = stopped_keeps (with_hand e (hand_at e.hand (target_run (code_in target e) (length (code_in target e)) spot)))

  begun_keeps : (wrapup : Bool) (e : Entry) → Keeps s d r j e (method_begun target sizes wrapup e).entry
  begun_keeps wrapup e = settles_keeps (first_spot wrapup e.running.call.args e.hand.started) (with_hand e (record e.hand { wrapup = wrapup; accessed = false }))

  restarted_keeps : (e : Entry) → Keeps s d r j e (restarted target sizes e).entry
  restarted_keeps e = of (restart_next target e) where
    of : (o : Option ℕ) → Keeps s d r j e (restart_on target sizes o e).entry
    of None = begun_keeps e.hand.wrapup e
    of (Some r) = (λ a. a, λ k. tt)

  on_keeps : (registers : Registers) (e : Entry) → Keeps s d r j e (goes_on Optimistic target sizes registers e).entry
  on_keeps registers e = settles_keeps (record { at = e.hand.at + 1; registers = registers }) e

  list_keeps : (k : ℕ) (e : Entry) → Keeps s d r j e (list_on target sizes k e)
  list_keeps k e = of (nat_lt (k + 1) (length (list_of (instr_in target e)))) where
    of : (b : Bool) → Keeps s d r j e (if b then with_routine e (InList (k + 1)) else list_ended target sizes (k + 1) e)
    of true = (λ a. a, λ k. tt)
    of false = ended_keeps (k + 1) e

  onward_keeps : (go : AfterRetire) (e : Entry) → Keeps s d r j e (onward_goes Optimistic target sizes go e).entry
  onward_keeps retires.Next e = on_keeps e.hand.registers e
  onward_keeps (retires.List k) e = list_keeps k e

  retires_keeps : (go : AfterRetire) (slot : ℕ) (e : Entry) → Keeps s d r j e (retires_then Optimistic target sizes go slot e).entry
  retires_keeps go zero e = onward_keeps go e
  retires_keeps go (suc i) e = (λ a. a, λ k. tt)

  cas_keeps : (exchange : CasEntry) (l word : ℕ) (e : Entry) → Keeps s d r j e (cas_ended Optimistic target sizes exchange l word e).entry
  cas_keeps exchange l word e = of (succeeds exchange e.hand.registers word) where
    of : (b : Bool) → Keeps s d r j e (if b then retires_then Optimistic target sizes retires.Next (to_retire exchange.retire e.hand.registers) e else cas_failed Optimistic target sizes l e).entry
    of true = retires_keeps retires.Next (to_retire exchange.retire e.hand.registers) e
    of false = settles_keeps (record { at = l; registers = e.hand.registers }) e

  accepted_plain : (i : Instr) (word : ℕ) (e : Entry) → Keeps s d r j e (plain_accepted Optimistic target sizes i word e).entry
  accepted_plain (instr.LoadRoot d x) word e = on_keeps (with_word e.hand.registers d word) (with_access e)
  accepted_plain (instr.LoadPick d x n a) word e = on_keeps (with_word e.hand.registers d word) (with_access e)
  accepted_plain (instr.LoadField d a f) word e = on_keeps (with_word e.hand.registers d word) (with_access e)
  accepted_plain (instr.Put a f b) word e = on_keeps e.hand.registers e
  accepted_plain (instr.Cas exchange l) word e = cas_keeps exchange l word (with_access e)
  accepted_plain _ word e = (λ a. a, λ k. k)

  accepted_instr : (o : Option TargetInstr) (word : ℕ) (e : Entry) → Keeps s d r j e (instr_accepted Optimistic target sizes o word e).entry
  accepted_instr None word e = (λ a. a, λ k. k)
  accepted_instr (Some (Plain i)) word e = accepted_plain i word e
  accepted_instr (Some Check) word e = of (word == e.hand.seen) where
    of : (b : Bool) → Keeps s d r j e (if b then check_passed target sizes e else check_failed target sizes word e).entry
    of true = on_keeps e.hand.registers (with_hand e (record e.hand { guards = pass_check e.hand.guards }))
    of false = restarted_keeps (with_hand (with_restart e) (record e.hand { seen = word; accessed = false }))
  accepted_instr (Some (Guard reg)) word e =
      on_keeps e.hand.registers (with_hand e (record e.hand { guards = with_guard e.hand.guards (register_number reg) (slot_in e.hand.registers reg) }))

  published_keeps : (reg : Reg) (e later : Entry) → Keeps s d r j (with_published reg e) later → Keeps s d r j e later
  published_keeps (Num i) e later turns = turns
  published_keeps (Ref i) e later turns = (
    λ a. turns.0 (λ k is. ⊎_elim
        (λ (none : slice_index (map (emptied (slot_in e.hand.registers (Ref i))) e.cradles) k ≡ 0). some (sym is ∙ none))
        (λ (same : slice_index (map (emptied (slot_in e.hand.registers (Ref i))) e.cradles) k ≡ cradle_of e k). a k (sym same ∙ is))
        (emptied_is (slot_in e.hand.registers (Ref i)) e.cradles k)),
    turns.1,
  )

  entry_keeps : (k : ℕ) (exchange : CasEntry) (word : ℕ) (e : Entry) → Keeps s d r j e (entry_ended Optimistic target sizes k exchange word e).entry
  entry_keeps k exchange word e = of (succeeds exchange e.hand.registers word) where
    of : (b : Bool) → Keeps s d r j e (if b then retires_then Optimistic target sizes (retires.List k) (to_retire exchange.retire e.hand.registers) (with_published exchange.replacement e) else quiet (list_ended target sizes k e)).entry
    of true =
        let published = with_published exchange.replacement e in
        published_keeps exchange.replacement e (retires_then Optimistic target sizes (retires.List k) (to_retire exchange.retire e.hand.registers) published).entry
        (retires_keeps (retires.List k) (to_retire exchange.retire e.hand.registers) published)
    of false = ended_keeps k e

  list_accepted_keeps : (k : ℕ) (o : Option CasEntry) (word : ℕ) (e : Entry) → Keeps s d r j e (list_accepted Optimistic target sizes k o word e).entry
  list_accepted_keeps k None word e = (λ a. a, λ k. k)
  list_accepted_keeps k (Some exchange) word e = entry_keeps k exchange word e

  retired_keeps : (go : AfterRetire) (o : Option Retirement) (e : Entry) → Keeps s d r j e (retired_on Optimistic target sizes go o e).entry
  retired_keeps go None e = let on = onward_keeps go (with_routine e At) in (on.0, λ k. on.1 tt)
  retired_keeps go (Some retirement) e = (λ a. a, λ k. tt)

  zeroed_keeps : (k field : ℕ) (e : Entry) → Keeps s d r j e (zeroed Optimistic target sizes k field e).entry
  zeroed_keeps k field e = of (nat_lt (field + 1) (zero_count target (instr_in target e))) where
    of : (b : Bool) → Keeps s d r j e (if b then quiet (with_routine e (Zeroes k (field + 1))) else node_made Optimistic target sizes (cradle_of e k) e).entry
    of true = (λ a. a, λ k. tt)
    of false = on_keeps (with_new (instr_in target e) (cradle_of e k) e.hand.registers) e

abbrev pub is_claiming : Routine → Bool
is_claiming (Claims claim) = true
is_claiming _ = false

pub accepted_keeps : (target : Target) (setting : Setting) (s : Shared) (d r j : ℕ) → j ≢ 0 → (word : ℕ) (e : Entry) (routine : Routine) → NeverAnnounces routine → is_claiming routine ≡ false → Keeps s d r j e (accepted Optimistic target setting word (counted e) routine).entry
accepted_keeps target setting s d r j some word e Idle never other = (λ a. a, λ k. k)
accepted_keeps target setting s d r j some word e (LoadSeen why) never other = begun_keeps target setting.sizes s d r j some (is_wrap_up why) (with_hand (counted e) (record e.hand { seen = word }))
accepted_keeps target setting s d r j some word e At never other = accepted_instr target setting.sizes s d r j some (instr_in target e) word (counted e)
accepted_keeps target setting s d r j some word e (InList k) never other = list_accepted_keeps target setting.sizes s d r j some k (slice_get (list_of (instr_in target e)) k) word (counted e)
accepted_keeps target setting s d r j some word e (Retires retirement go) never other = retired_keeps target setting.sizes s d r j some go (retire_accepts retirement word) (counted e)
accepted_keeps target setting s d r j some word e Restarts never other = restarted_keeps target setting.sizes s d r j some (with_hand (counted e) (unguarded (restart_next target e) e.hand))
accepted_keeps target setting s d r j some word e (Clears next) never other = cleared_keeps target setting.sizes s d r j some next (with_hand (counted e) (unguarded (clear_next target next e) e.hand))
accepted_keeps target setting s d r j some word e (Claims claim) never other = absurd (let z : true ≡ false = other in cc)
accepted_keeps target setting s d r j some word e (Zeroes k field) never other = zeroed_keeps target setting.sizes s d r j some k field (counted e)
accepted_keeps target setting s d r j some word e (Announces announcing) never other = absurd (never announcing refl)
