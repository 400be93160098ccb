-- A step after which nothing that the caller holds names a slot.
--
-- One lemma for each small definition of `after`.
use Rattle.std.proofs.Common.{ℕ, zero, suc, ◌≡◌, ◌==◌, ◌+◌, ◌≤◌, ◌<◌, ◌≢◌, Bool, true, false, refl, sym, subst, arith, List, [], ◌∷◌, length, Option, Some, None, if◌then◌else◌}
use Rattle.std.specs.Prelude.{slice_get, nat_lt}
use Rattle.norm_lang.specs.declared.text.Reg.{Reg}
use Rattle.norm_lang.specs.declared.text.Reg.TheVariants.{Num, Ref}
use Rattle.norm_lang.specs.declared.text.CasEntry.{CasEntry}
use Rattle.norm_lang.specs.declared.text.Instr.{Instr}
use Rattle.norm_lang.specs.declared.text.Instr.TheVariants as instr
use Rattle.norm_lang.specs.declared.registers.Registers.{Registers}
use Rattle.norm_lang.specs.Registers.{number_in, with_count}
use Rattle.norm_lang.specs.Local.{Spot}
use Rattle.target_code.specs.declared.target.TargetInstr.{TargetInstr}
use Rattle.target_code.specs.declared.target.TargetInstr.TheVariants.{Plain, Check, Guard}
use Rattle.target_code.specs.declared.target.Target.{Target}
use Rattle.guard_words.specs.Guards.{guard_at, pass_check, with_guard}
use Rattle.oa_words.specs.Words.{Sizes}
use Rattle.phase_pools.specs.declared.access.ClaimEnd.{ClaimEnd}
use Rattle.phase_pools.specs.declared.access.ClaimEnd.TheVariants as ends
use Rattle.phase_pools.specs.declared.stages.Scheme.{Scheme}
use Rattle.phase_pools.specs.declared.stages.Scheme.TheVariants.{Warned, Announced}
use Rattle.phase_pools.specs.Pools.{Claim, claim_begun, claim_takes, claim_accepts, Retirement, retire_begun, retire_accepts, retire_accepts_at}
use Rattle.caller_parts.specs.declared.routine.AfterClear.{AfterClear}
use Rattle.caller_parts.specs.declared.routine.AfterClear.TheVariants as clears
use Rattle.caller_parts.specs.declared.routine.AfterRetire.{AfterRetire}
use Rattle.caller_parts.specs.declared.routine.AfterRetire.TheVariants as retires
use Rattle.caller_parts.specs.declared.routine.Announcing.{Announcing}
use Rattle.caller_parts.specs.declared.routine.Announcing.TheVariants as announces
use Rattle.caller_parts.specs.declared.routine.AnnounceReason.TheVariants as reasons
use Rattle.caller_parts.specs.declared.setting.Reclamation.{Reclamation}
use Rattle.caller_parts.specs.declared.setting.Reclamation.TheVariants.{Optimistic, Epochs}
use Rattle.caller_parts.specs.declared.routine.MethodStart.TheVariants as starts
use Rattle.phase_pools.specs.declared.stages.RetireStage.{RetireStage}
use Rattle.phase_pools.specs.declared.stages.RetireStage.TheVariants as stages
use Rattle.caller_parts.specs.declared.routine.Routine.{Routine}
use Rattle.caller_parts.specs.declared.routine.Routine.TheVariants.{Idle, LoadSeen, At, InList, Retires, Restarts, Clears, Claims, Zeroes, Announces}
use Rattle.caller_parts.specs.Settings.{Setting}
use Rattle.caller_steps.specs.Entries.{Entry, code_in, instr_in, new_kind, new_number, zero_count, cradle_of}
use Rattle.caller_parts.specs.Operands.{with_word, slot_in, register_number, list_of, succeeds, to_retire, with_new}
use Rattle.caller_steps.specs.Clearing.{restart_next, clear_next, unguarded}
use Rattle.caller_steps.specs.Signs.{quiet}
use Rattle.caller_steps.specs.After.{with_routine, with_hand, run_to, new_on, new_begun, then_goes, clear_on, cleared, wrap_up_hand, list_ended, list_begun, plain_stop, wrap_up_stop, wrap_up_stops, wrap_up_begun, announced_list, announced_stop, announced, stop_at, stops, stopped, settles, goes_on, first_spot, method_begun, restart_on, restarted, is_wrap_up, generator_begun, check_passed, check_failed, checked, checked_by, guarded_by, with_restart, with_access, list_on, list_goes, list_failed, onward_goes, retires_then, cas_failed, cas_ended, plain_accepted, instr_accepted, with_published, entry_ended, list_accepted, retired_on, claim_counted, slot_gained, claim_on, node_made, zeroed, accepted, counted, after}
use Rattle.std.specs.Prelude.{slice_index, slice_set}
use Rattle.norm_lang.specs.declared.reply.SourceReply.TheVariants as replies
use Rattle.claim_laws.specs.Untouched.{RegistersAvoid, RoutineAvoids, EntryAvoids}
use Rattle.claim_laws.proofs.Naming.{null, referred, names_other, first_avoid, run_avoids, retires_other, guard_put, cradle_put, cradle_emptied}

-- what a caller holds beside its routine
pub record IsFree (j : ℕ) (e : Entry) : Type 0 where
  pub registers : RegistersAvoid j e.hand.registers
  pub started : RegistersAvoid j e.hand.started
  pub guards : (r : ℕ) → guard_at e.hand.guards r ≢ j
  pub cradles : (k : ℕ) → slice_index e.cradles k ≢ j

pub free_of : (j : ℕ) (e : Entry) → EntryAvoids j e → IsFree j e
free_of j e a = record { registers = a.registers; started = a.started; guards = a.guards; cradles = a.cradles }

-- a load gives its register no such reference
abbrev pub LoadAvoids : ℕ → Instr → ℕ → Registers → Type 0
LoadAvoids j (instr.LoadRoot d x) word registers = RegistersAvoid j (with_word registers d word)
LoadAvoids j (instr.LoadPick d x n a) word registers = RegistersAvoid j (with_word registers d word)
LoadAvoids j (instr.LoadField d a g) word registers = RegistersAvoid j (with_word registers d word)
LoadAvoids j _ word registers = Unit {0}

abbrev pub InstrAvoids : ℕ → Option TargetInstr → ℕ → Registers → Type 0
InstrAvoids j (Some (Plain i)) word registers = LoadAvoids j i word registers
InstrAvoids j _ word registers = Unit {0}

-- a claim that goes on has gathered other slots, and one that ends has claimed another
abbrev pub ClaimAvoids : ℕ → Claim → Option ClaimEnd → Type 0
ClaimAvoids j claim None = RoutineAvoids j (Claims claim)
ClaimAvoids j claim (Some (ends.Claimed k)) = k ≢ j
ClaimAvoids j claim (Some ends.Full) = Unit {0}
ClaimAvoids j claim (Some (ends.PhasesOver p)) = Unit {0}

module _ (target : Target) (sizes : Sizes) (j : ℕ) (some : 1 ≤ j) where
  to : (e : Entry) (routine : Routine) → IsFree j e → RoutineAvoids j routine → EntryAvoids j (with_routine e routine)
  to e routine f a = record { registers = f.registers; started = f.started; guards = f.guards; cradles = f.cradles; routine = a }

  new_avoids : (scheme : Scheme) (e : Entry) → IsFree j e → EntryAvoids j (new_begun scheme target sizes e)
  new_avoids scheme e f = of (cradle_of e (new_number target e)) where
    of : (k : ℕ) → EntryAvoids j (new_on scheme sizes (new_kind target e) (new_number target e) k e)
    of zero = to e (Claims (claim_begun sizes (new_kind target e) scheme)) f ((λ k d lt. absurd (let none : k < 0 = lt in omega (arith, none))), tt)
    of (suc k) = to e (Zeroes (new_number target e) 0) f tt

  then_avoids : (next : AfterClear) (e : Entry) → IsFree j e → EntryAvoids j (then_goes target sizes next e)
  then_avoids clears.New e f = new_avoids Warned e f
  then_avoids clears.WrapUp e f = to e (LoadSeen starts.WrapUp) f tt
  then_avoids (clears.Reply reply) e f = record { registers = f.registers; started = f.started; guards = f.guards; cradles = f.cradles; routine = tt }
  then_avoids clears.Again e f = to e (LoadSeen starts.Again) f tt

  cleared_avoids : (next : AfterClear) (e : Entry) → IsFree j e → EntryAvoids j (cleared target sizes next e)
  cleared_avoids next e f = of (clear_next target next e) where
    of : (o : Option ℕ) → EntryAvoids j (clear_on target sizes next o e)
    of None = then_avoids next e f
    of (Some r) = to e (Clears next) f tt

  ended_avoids : (made : ℕ) (e : Entry) → IsFree j e → EntryAvoids j (list_ended target sizes made e)
  ended_avoids made e f =
      cleared_avoids clears.WrapUp (with_hand e (wrap_up_hand made e.hand)) (record { registers = f.registers; started = f.registers; guards = f.guards; cradles = f.cradles })

  begun_list_avoids : (exchanges : List CasEntry) (e : Entry) → IsFree j e → EntryAvoids j (list_begun target sizes exchanges e).entry
  begun_list_avoids [] e f = ended_avoids 0 e f
  begun_list_avoids (exchange ∷ exchanges) e f = to e (InList 0) f tt

  plain_avoids : (i : Instr) (e : Entry) → IsFree j e → EntryAvoids j (plain_stop target sizes i e).entry
  plain_avoids (instr.New d kind) e f = cleared_avoids clears.New e f
  plain_avoids (instr.Commit exchanges) e f = begun_list_avoids exchanges e f
  plain_avoids (instr.Return a) e f = cleared_avoids (clears.Reply (replies.Number (number_in e.hand.registers a))) e f
  plain_avoids instr.ReturnNone e f = cleared_avoids (clears.Reply replies.Nothing) e f
  plain_avoids instr.Again e f = cleared_avoids clears.Again e f
  plain_avoids _ e f = to e At f tt

  -- ---- under epochs

  stop_avoids : (i : Instr) (e : Entry) → IsFree j e → EntryAvoids j (wrap_up_stop i e).entry
  stop_avoids (instr.Return a) e f = to e (Announces (announces.Leaves (replies.Number (number_in e.hand.registers a)))) f tt
  stop_avoids instr.ReturnNone e f = to e (Announces (announces.Leaves replies.Nothing)) f tt
  stop_avoids instr.Again e f = to e (Announces (announces.Loads reasons.Again)) f tt
  stop_avoids _ e f = to e At f tt

  stops_avoids : (o : Option TargetInstr) (e : Entry) → IsFree j e → EntryAvoids j (wrap_up_stops o e).entry
  stops_avoids (Some (Plain i)) e f = stop_avoids i e f
  stops_avoids _ e f = to e At f tt

  -- local code names nothing new
  run_free : (spot : Spot) (e : Entry) → IsFree j e → RegistersAvoid j spot.registers → IsFree j (run_to target spot e)
  run_free spot e f s =
      let code = code_in target e in
      record { registers = run_avoids j some code (length code) spot s; started = f.started; guards = f.guards; cradles = f.cradles }

  wrap_up_avoids : (made : ℕ) (e : Entry) → IsFree j e → EntryAvoids j (wrap_up_begun target made e).entry
  wrap_up_avoids made e f =
      let spot : Spot = record { at = 0; registers = with_count e.hand.registers made } in
      let wrapped : Entry = with_hand e (wrap_up_hand made e.hand) in
      let begun : Entry = run_to target spot wrapped in
      stops_avoids (instr_in target begun) begun
      (run_free spot wrapped (record { registers = f.registers; started = f.registers; guards = f.guards; cradles = f.cradles }) f.registers)

  announced_list_avoids : (exchanges : List CasEntry) (e : Entry) → IsFree j e → EntryAvoids j (announced_list target exchanges e).entry
  announced_list_avoids [] e f = wrap_up_avoids 0 e f
  announced_list_avoids (exchange ∷ exchanges) e f = to e (InList 0) f tt

  announced_avoids : (i : Instr) (e : Entry) → IsFree j e → EntryAvoids j (announced_stop target sizes i e).entry
  announced_avoids (instr.New d kind) e f = new_avoids (Announced e.number) e f
  announced_avoids (instr.Commit exchanges) e f = announced_list_avoids exchanges e f
  announced_avoids i e f = stop_avoids i e f

  -- ---- where local code stops

  stop_at_avoids : (by : Reclamation) (i : Instr) (e : Entry) → IsFree j e → EntryAvoids j (stop_at by target sizes i e).entry
  stop_at_avoids Optimistic i e f = plain_avoids i e f
  stop_at_avoids Epochs i e f = announced_avoids i e f

  stopped_avoids : (by : Reclamation) (e : Entry) → IsFree j e → EntryAvoids j (stopped by target sizes e).entry
  stopped_avoids by e f = of (instr_in target e) where
    of : (o : Option TargetInstr) → EntryAvoids j (stops by target sizes o e).entry
    of (Some (Plain i)) = stop_at_avoids by i e f
    of _ = to e At f tt

  settles_avoids : (by : Reclamation) (spot : Spot) (e : Entry) → IsFree j e → RegistersAvoid j spot.registers → EntryAvoids j (settles by target sizes spot e).entry
  settles_avoids by spot e f s = stopped_avoids by (run_to target spot e) (run_free spot e f s)

  begun_avoids : (wrapup : Bool) (e : Entry) → IsFree j e → EntryAvoids j (method_begun target sizes wrapup e).entry
  begun_avoids wrapup e f =
      settles_avoids Optimistic (first_spot wrapup e.running.call.args e.hand.started) (with_hand e (record e.hand { wrapup = wrapup; accessed = false }))
      (record { registers = f.registers; started = f.started; guards = f.guards; cradles = f.cradles }) (of wrapup) where
        of : (w : Bool) → RegistersAvoid j (first_spot w e.running.call.args e.hand.started).registers
        of true = f.started
        of false = first_avoid j some e.running.call.args

  generator_avoids : (e : Entry) → IsFree j e → EntryAvoids j (generator_begun target sizes e).entry
  generator_avoids e f =
      settles_avoids Epochs (first_spot false e.running.call.args e.hand.started) (with_hand e (record e.hand { wrapup = false; accessed = false }))
      (record { registers = f.registers; started = f.started; guards = f.guards; cradles = f.cradles }) (first_avoid j some e.running.call.args)

  restarted_avoids : (e : Entry) → IsFree j e → EntryAvoids j (restarted target sizes e).entry
  restarted_avoids e f = of (restart_next target e) where
    of : (o : Option ℕ) → EntryAvoids j (restart_on target sizes o e).entry
    of None = begun_avoids e.hand.wrapup e f
    of (Some r) = to e Restarts f tt

  on_avoids : (by : Reclamation) (registers : Registers) (e : Entry) → IsFree j e → RegistersAvoid j registers → EntryAvoids j (goes_on by target sizes registers e).entry
  on_avoids by registers e f s = settles_avoids by (record { at = e.hand.at + 1; registers = registers }) e f s

  list_avoids : (k : ℕ) (e : Entry) → IsFree j e → EntryAvoids j (list_on target sizes k e)
  list_avoids k e f = of (nat_lt (k + 1) (length (list_of (instr_in target e)))) where
    of : (b : Bool) → EntryAvoids j (if b then with_routine e (InList (k + 1)) else list_ended target sizes (k + 1) e)
    of true = to e (InList (k + 1)) f tt
    of false = ended_avoids (k + 1) e f

  list_goes_avoids : (by : Reclamation) (k : ℕ) (e : Entry) → IsFree j e → EntryAvoids j (list_goes by target sizes k e).entry
  list_goes_avoids Optimistic k e f = list_avoids k e f
  list_goes_avoids Epochs k e f = of (nat_lt (k + 1) (length (list_of (instr_in target e)))) where
    of : (b : Bool) → EntryAvoids j (if b then quiet (with_routine e (InList (k + 1))) else wrap_up_begun target (k + 1) e).entry
    of true = to e (InList (k + 1)) f tt
    of false = wrap_up_avoids (k + 1) e f

  failed_avoids : (by : Reclamation) (k : ℕ) (e : Entry) → IsFree j e → EntryAvoids j (list_failed by target sizes k e).entry
  failed_avoids Optimistic k e f = ended_avoids k e f
  failed_avoids Epochs k e f = wrap_up_avoids k e f

  onward_avoids : (by : Reclamation) (go : AfterRetire) (e : Entry) → IsFree j e → EntryAvoids j (onward_goes by target sizes go e).entry
  onward_avoids by retires.Next e f = on_avoids by e.hand.registers e f f.registers
  onward_avoids by (retires.List k) e f = list_goes_avoids by k e f

  retires_avoids : (by : Reclamation) (go : AfterRetire) (slot : ℕ) (e : Entry) → IsFree j e → slot ≢ j → EntryAvoids j (retires_then by target sizes go slot e).entry
  retires_avoids by go zero e f other = onward_avoids by go e f
  retires_avoids by go (suc k) e f other = to e (Retires (retire_begun (suc k)) go) f other

  cas_avoids : (by : Reclamation) (exchange : CasEntry) (l word : ℕ) (e : Entry) → IsFree j e → EntryAvoids j (cas_ended by target sizes exchange l word e).entry
  cas_avoids by exchange l word e f = of (succeeds exchange e.hand.registers word) where
    of : (b : Bool) → EntryAvoids j (if b then retires_then by target sizes retires.Next (to_retire exchange.retire e.hand.registers) e else cas_failed by target sizes l e).entry
    of true = retires_avoids by retires.Next (to_retire exchange.retire e.hand.registers) e f (retires_other j some exchange.retire e.hand.registers f.registers)
    of false = settles_avoids by (record { at = l; registers = e.hand.registers }) e f f.registers

  checked_avoids : (word : ℕ) (e : Entry) → IsFree j e → EntryAvoids j (checked target sizes word e).entry
  checked_avoids word e f = of (word == e.hand.seen) where
    of : (b : Bool) → EntryAvoids j (if b then check_passed target sizes e else check_failed target sizes word e).entry
    of true = on_avoids Optimistic e.hand.registers (with_hand e (record e.hand { guards = pass_check e.hand.guards }))
        (record { registers = f.registers; started = f.started; guards = f.guards; cradles = f.cradles }) f.registers
    of false = restarted_avoids (with_hand (with_restart e) (record e.hand { seen = word; accessed = false })) (record { registers = f.registers; started = f.started; guards = f.guards; cradles = f.cradles })

  with_access_free : (e : Entry) → IsFree j e → IsFree j (with_access e)
  with_access_free e f = record { registers = f.registers; started = f.started; guards = f.guards; cradles = f.cradles }

  same : (e : Entry) (routine : Routine) → e.routine ≡ routine → IsFree j e → RoutineAvoids j routine → EntryAvoids j e
  same e routine is f a = record { registers = f.registers; started = f.started; guards = f.guards; cradles = f.cradles; routine = subst (RoutineAvoids j) (sym is) a }

  checked_by_avoids : (by : Reclamation) (word : ℕ) (e : Entry) → e.routine ≡ At → IsFree j e → EntryAvoids j (checked_by by target sizes word e).entry
  checked_by_avoids Optimistic word e is f = checked_avoids word e f
  checked_by_avoids Epochs word e is f = same e At is f tt

  guarded_by_avoids : (by : Reclamation) (r : Reg) (e : Entry) → e.routine ≡ At → IsFree j e → EntryAvoids j (guarded_by by target sizes r e).entry
  guarded_by_avoids Optimistic r e is f =
      on_avoids Optimistic e.hand.registers (with_hand e (record e.hand { guards = with_guard e.hand.guards (register_number r) (slot_in e.hand.registers r) }))
      (record {
        registers = f.registers;
        started = f.started;
        guards = λ k. guard_put j some e.hand.guards (register_number r) (slot_in e.hand.registers r) k f.guards (names_other j some e.hand.registers r f.registers);
        cradles = f.cradles;
      })
      f.registers
  guarded_by_avoids Epochs r e is f = same e At is f tt

  accepted_plain : (by : Reclamation) (i : Instr) (word : ℕ) (e : Entry) → e.routine ≡ At → IsFree j e → LoadAvoids j i word e.hand.registers → EntryAvoids j (plain_accepted by target sizes i word e).entry
  accepted_plain by (instr.LoadRoot d x) word e is f l = on_avoids by (with_word e.hand.registers d word) (with_access e) (with_access_free e f) l
  accepted_plain by (instr.LoadPick d x n a) word e is f l = on_avoids by (with_word e.hand.registers d word) (with_access e) (with_access_free e f) l
  accepted_plain by (instr.LoadField d a g) word e is f l = on_avoids by (with_word e.hand.registers d word) (with_access e) (with_access_free e f) l
  accepted_plain by (instr.Put a g b) word e is f l = on_avoids by e.hand.registers e f f.registers
  accepted_plain by (instr.Cas exchange k) word e is f l = cas_avoids by exchange k word (with_access e) (with_access_free e f)
  accepted_plain by _ word e is f l = same e At is f tt

  accepted_instr : (by : Reclamation) (o : Option TargetInstr) (word : ℕ) (e : Entry) → e.routine ≡ At → IsFree j e → InstrAvoids j o word e.hand.registers → EntryAvoids j (instr_accepted by target sizes o word e).entry
  accepted_instr by None word e is f l = same e At is f tt
  accepted_instr by (Some (Plain i)) word e is f l = accepted_plain by i word e is f l
  accepted_instr by (Some Check) word e is f l = checked_by_avoids by word e is f
  accepted_instr by (Some (Guard r)) word e is f l = guarded_by_avoids by r e is f

  published_free : (r : Reg) (e : Entry) → IsFree j e → IsFree j (with_published r e)
  published_free (Num r) e f = f
  published_free (Ref r) e f = record {
    registers = f.registers;
    started = f.started;
    guards = f.guards;
    cradles = λ k. cradle_emptied j some (slot_in e.hand.registers (Ref r)) e.cradles k (f.cradles k);
  }

  entry_avoids : (by : Reclamation) (k : ℕ) (exchange : CasEntry) (word : ℕ) (e : Entry) → IsFree j e → EntryAvoids j (entry_ended by target sizes k exchange word e).entry
  entry_avoids by k exchange word e f = of (succeeds exchange e.hand.registers word) where
    of : (b : Bool) → EntryAvoids j (if b then retires_then by target sizes (retires.List k) (to_retire exchange.retire e.hand.registers) (with_published exchange.replacement e) else list_failed by target sizes k e).entry
    of true = retires_avoids by (retires.List k) (to_retire exchange.retire e.hand.registers) (with_published exchange.replacement e) (published_free exchange.replacement e f)
        (retires_other j some exchange.retire e.hand.registers f.registers)
    of false = failed_avoids by k e f

  list_accepted_avoids : (by : Reclamation) (k : ℕ) (o : Option CasEntry) (word : ℕ) (e : Entry) → e.routine ≡ InList k → IsFree j e → EntryAvoids j (list_accepted by target sizes k o word e).entry
  list_accepted_avoids by k None word e is f = same e (InList k) is f tt
  list_accepted_avoids by k (Some exchange) word e is f = entry_avoids by k exchange word e f

  retired_avoids : (by : Reclamation) (go : AfterRetire) (o : Option Retirement) (e : Entry) → IsFree j e → ((r : Retirement) → o ≡ Some r → r.slot ≢ j) → EntryAvoids j (retired_on by target sizes go o e).entry
  retired_avoids by go None e f other = onward_avoids by go (with_routine e At) (record { registers = f.registers; started = f.started; guards = f.guards; cradles = f.cradles })
  retired_avoids by go (Some retirement) e f other = to e (Retires retirement go) f (other retirement refl)

  -- another slot goes into a cradle, whatever comes next
  gained_avoids : (by : Reclamation) (swept k : ℕ) (e : Entry) → IsFree j e → k ≢ j → EntryAvoids j (slot_gained by target swept k e)
  gained_avoids by swept k e f other = of by swept where
    cradles : (i : ℕ) → slice_index (slice_set e.cradles (new_number target e) k) i ≢ j
    cradles i = cradle_put j some e.cradles (new_number target e) k i other (f.cradles i)

    of : (by : Reclamation) (swept : ℕ) → EntryAvoids j (slot_gained by target swept k e)
    of Epochs zero = record { registers = f.registers; started = f.started; guards = f.guards; cradles = cradles; routine = tt }
    of _ _ = record { registers = f.registers; started = f.started; guards = f.guards; cradles = cradles; routine = tt }

  claim_avoids : (by : Reclamation) (claim : Claim) (o : Option ClaimEnd) (e : Entry) → IsFree j e → ClaimAvoids j claim o → EntryAvoids j (claim_on by target claim o e).entry
  claim_avoids by claim None e f a = to e (Claims claim) f a
  claim_avoids by claim (Some (ends.Claimed k)) e f a =
      gained_avoids by claim.sweeps k (with_routine e At) (record { registers = f.registers; started = f.started; guards = f.guards; cradles = f.cradles }) a
  claim_avoids by claim (Some ends.Full) e f a = record { registers = f.registers; started = f.started; guards = f.guards; cradles = f.cradles; routine = tt }
  claim_avoids by claim (Some (ends.PhasesOver p)) e f a = record { registers = f.registers; started = f.started; guards = f.guards; cradles = f.cradles; routine = tt }

  drawn_avoids : (o : Option TargetInstr) (slot : ℕ) (registers : Registers) → slot ≢ j → RegistersAvoid j registers → RegistersAvoid j (with_new o slot registers)
  drawn_avoids (Some (Plain (instr.New d kind))) slot registers other s = referred j some registers d (record { node = slot; marked = false }) s other
  drawn_avoids _ slot registers other s = s

  zeroed_avoids : (by : Reclamation) (k field : ℕ) (e : Entry) → IsFree j e → EntryAvoids j (zeroed by target sizes k field e).entry
  zeroed_avoids by k field e f = of (nat_lt (field + 1) (zero_count target (instr_in target e))) where
    of : (b : Bool) → EntryAvoids j (if b then quiet (with_routine e (Zeroes k (field + 1))) else node_made by target sizes (cradle_of e k) e).entry
    of true = to e (Zeroes k (field + 1)) f tt
    of false = on_avoids by (with_new (instr_in target e) (cradle_of e k) e.hand.registers) e f (drawn_avoids (instr_in target e) (cradle_of e k) e.hand.registers (f.cradles k) f.registers)

  -- an announcement's access
  announcing_avoids : (announcing : Announcing) (word : ℕ) (e : Entry) → IsFree j e → EntryAvoids j (announced target sizes announcing word e).entry
  announcing_avoids (announces.Loads why) word e f = to e (Announces (announces.Stores why word)) f tt
  announcing_avoids (announces.Stores why phase) word e f = generator_avoids e f
  announcing_avoids (announces.Leaves reply) word e f = record { registers = f.registers; started = f.started; guards = f.guards; cradles = f.cradles; routine = tt }

  cleared_free : (o : Option ℕ) (e : Entry) → IsFree j e → IsFree j (with_hand e (unguarded o e.hand))
  cleared_free None e f = record { registers = f.registers; started = f.started; guards = f.guards; cradles = f.cradles }
  cleared_free (Some r) e f = record {
    registers = f.registers;
    started = f.started;
    guards = λ k. guard_put j some e.hand.guards r 0 k f.guards (null j some);
    cradles = f.cradles;
  }

  same_retirement : (a b : Retirement) → Some a ≡ Some b → a ≡ b
  same_retirement a b is = cc

  retire_goes : (slot word : ℕ) (stage : RetireStage) → slot ≢ j → (r : Retirement) → retire_accepts_at slot word stage ≡ Some r → r.slot ≢ j
  retire_goes slot word stages.ReadPhase other r is = subst (λ (x : Retirement). x.slot ≢ j) (same_retirement (record { slot = slot; stage = stages.StoreStatus word }) r is) other
  retire_goes slot word (stages.StoreStatus p) other r is = absurd (let z : None ≡ Some r = is in cc)

-- what the word found has to avoid, by routine
abbrev pub StepAvoids : Target → Setting → ℕ → Entry → ℕ → Routine → Type 0
StepAvoids target setting j e word At = InstrAvoids j (instr_in target e) word e.hand.registers
StepAvoids target setting j e word (Claims claim) = let turn = claim_accepts setting.sizes setting.last claim word in ClaimAvoids j turn.claim turn.ended
StepAvoids target setting j e word _ = Unit {0}

step_avoids : (by : Reclamation) (target : Target) (setting : Setting) (j word : ℕ) (e : Entry) (routine : Routine) → 1 ≤ j → e.routine ≡ routine → IsFree j e → RoutineAvoids j routine
    → StepAvoids target setting j e word routine → EntryAvoids j (accepted by target setting word e routine).entry
step_avoids by target setting j word e Idle some is f a found = same target setting.sizes j some e Idle is f tt
step_avoids by target setting j word e (LoadSeen why) some is f a found =
    begun_avoids target setting.sizes j some (is_wrap_up why) (with_hand e (record e.hand { seen = word })) (record { registers = f.registers; started = f.started; guards = f.guards; cradles = f.cradles })
step_avoids by target setting j word e At some is f a found = accepted_instr target setting.sizes j some by (instr_in target e) word e is f found
step_avoids by target setting j word e (InList k) some is f a found = list_accepted_avoids target setting.sizes j some by k (slice_get (list_of (instr_in target e)) k) word e is f
step_avoids by target setting j word e (Retires retirement go) some is f a found =
    retired_avoids target setting.sizes j some by go (retire_accepts retirement word) e f (retire_goes target setting.sizes j some retirement.slot word retirement.stage a)
step_avoids by target setting j word e Restarts some is f a found =
    restarted_avoids target setting.sizes j some (with_hand e (unguarded (restart_next target e) e.hand)) (cleared_free target setting.sizes j some (restart_next target e) e f)
step_avoids by target setting j word e (Clears next) some is f a found =
    cleared_avoids target setting.sizes j some next (with_hand e (unguarded (clear_next target next e) e.hand)) (cleared_free target setting.sizes j some (clear_next target next e) e f)
step_avoids by target setting j word e (Claims claim) some is f a found =
    let turn = claim_accepts setting.sizes setting.last claim word in
    claim_avoids target setting.sizes j some by turn.claim turn.ended (claim_counted (claim_takes setting.sizes claim word) e) (record { registers = f.registers; started = f.started; guards = f.guards; cradles = f.cradles }) found
step_avoids by target setting j word e (Zeroes k field) some is f a found = zeroed_avoids target setting.sizes j some by k field e f
step_avoids by target setting j word e (Announces announcing) some is f a found = announcing_avoids target setting.sizes j some announcing word e f

-- an entry that doesn't name the slot doesn't name it afterwards, if what it found doesn't
pub after_avoids : (target : Target) (setting : Setting) (j word : ℕ) (e : Entry) → 1 ≤ j → EntryAvoids j e → StepAvoids target setting j e word e.routine → EntryAvoids j (after target setting e word)
unfolding after
after_avoids target setting j word e some a found =
    step_avoids setting.reclamation target setting j word (counted e) e.routine some refl (record { registers = a.registers; started = a.started; guards = a.guards; cradles = a.cradles }) a.routine found
