-- Once a call has published a node it doesn't begin again, if no way through the wrap-up leads to `again` after an exchange has
-- succeeded.
--
-- One lemma for each small definition of `after`.
use Rattle.std.proofs.Common.{◌≡◌, ◌⊎◌, inl, inr, ⊎_elim, ℕ, zero, suc, ◌+◌, ◌≤◌, ◌<◌, ◌==◌, Bool, true, false, List, length, Option, Some, None, refl, sym, ◌∙◌, ap, subst, arith, if◌then◌else◌, get_or-set_same}
use Rattle.std.specs.Prelude.{slice_get, nat_lt}
use Rattle.norm_lang.specs.declared.text.Reg.{Reg}
use Rattle.norm_lang.specs.declared.text.Reg.TheVariants.{Num, Ref}
use Rattle.norm_lang.specs.declared.text.CasEntry.{CasEntry}
use Rattle.norm_lang.specs.declared.text.Instr.{Instr}
use Rattle.norm_lang.specs.declared.text.Instr.TheVariants as instr
use Rattle.norm_lang.specs.declared.registers.Registers.{Registers}
use Rattle.norm_lang.specs.Registers.{number_in, with_count}
use Rattle.norm_lang.specs.Local.{Spot, local_step, go_on}
use Rattle.norm_lang.specs.declared.reply.SourceReply.TheVariants as replies
use Rattle.target_code.specs.declared.target.TargetInstr.{TargetInstr}
use Rattle.target_code.specs.declared.target.TargetInstr.TheVariants.{Plain, Check, Guard}
use Rattle.target_code.specs.declared.target.Target.{Target}
use Rattle.target_code.specs.LocalCode.{target_local_at, target_next_spot, target_run}
use Rattle.guard_words.specs.Guards.{pass_check, with_guard}
use Rattle.oa_words.specs.Words.{Sizes}
use Rattle.phase_pools.specs.Pools.{Retirement, retire_accepts}
use Rattle.caller_steps.specs.declared.entry.Hand.{Hand}
use Rattle.caller_parts.specs.declared.routine.Announcing.{Announcing}
use Rattle.caller_parts.specs.declared.routine.Announcing.TheVariants as announces
use Rattle.caller_parts.specs.declared.setting.Reclamation.{Reclamation}
use Rattle.caller_parts.specs.declared.setting.Reclamation.TheVariants.{Optimistic, Epochs}
use Rattle.caller_parts.specs.declared.routine.MethodStart.{MethodStart}
use Rattle.caller_parts.specs.declared.routine.MethodStart.TheVariants as starts
use Rattle.caller_parts.specs.declared.routine.AfterClear.{AfterClear}
use Rattle.caller_parts.specs.declared.routine.AfterClear.TheVariants as clears
use Rattle.caller_parts.specs.declared.routine.AfterRetire.{AfterRetire}
use Rattle.caller_parts.specs.declared.routine.AfterRetire.TheVariants as retires
use Rattle.caller_parts.specs.declared.routine.Routine.{Routine}
use Rattle.caller_parts.specs.declared.routine.Routine.TheVariants.{Idle, LoadSeen, At, InList, Retires, Restarts, Clears, Claims, Zeroes, Announces}
use Rattle.caller_parts.specs.Settings.{Setting}
use Rattle.caller_steps.specs.Entries.{Entry, code_in, instr_in}
use Rattle.caller_parts.specs.Operands.{with_word, slot_in, register_number, code_at, instr_at, list_of, succeeds, to_retire}
use Rattle.caller_steps.specs.Clearing.{restart_next, clear_next, unguarded}
use Rattle.caller_steps.specs.Signs.{quiet}
use Rattle.caller_steps.specs.After.{with_routine, with_hand, run_to, then_goes, clear_on, cleared, wrap_up_hand, list_ended, plain_stop, wrap_up_stop, wrap_up_stops, wrap_up_begun, announced_stop, stop_at, stops, stopped, settles, goes_on, first_spot, method_begun, seen_loaded, restart_on, restarted, check_passed, check_failed, checked, checked_by, guarded_by, with_restart, with_access, list_on, list_goes, list_failed, onward_goes, retires_then, cas_failed, cas_ended, plain_accepted, instr_accepted, with_published, entry_ended, list_accepted, retired_on, accepted, counted, after, announced}
use Rattle.claim_laws.proofs.Onward.{failed_moves}

-- ---- a sentence about places and registers of a wrap-up

-- an instruction carries it on to wherever it leads, and isn't `again`
abbrev pub PlainCarries : (ℕ → Registers → Type 0) → ℕ → Registers → Instr → Type 0
PlainCarries Holds at registers (instr.LoadRoot d x) = (word : ℕ) → Holds (at + 1) (with_word registers d word)
PlainCarries Holds at registers (instr.LoadPick d x n a) = (word : ℕ) → Holds (at + 1) (with_word registers d word)
PlainCarries Holds at registers (instr.LoadField d a f) = (word : ℕ) → Holds (at + 1) (with_word registers d word)
PlainCarries Holds at registers (instr.Put a f b) = Holds (at + 1) registers
PlainCarries Holds at registers (instr.Cas exchange l) = Holds (at + 1) registers × Holds l registers
PlainCarries Holds at registers (instr.New d kind) = ⊥
PlainCarries Holds at registers (instr.Commit exchanges) = ⊥
PlainCarries Holds at registers instr.Again = ⊥
PlainCarries Holds at registers i = (next : Spot) → local_step i at registers ≡ Some next → Holds next.at next.registers

abbrev pub InstrCarries : (ℕ → Registers → Type 0) → ℕ → Registers → Option TargetInstr → Type 0
InstrCarries Holds at registers None = Unit {0}
InstrCarries Holds at registers (Some (Plain i)) = PlainCarries Holds at registers i
InstrCarries Holds at registers (Some Check) = Holds (at + 1) registers
InstrCarries Holds at registers (Some (Guard r)) = Holds (at + 1) registers

-- so does the whole code
abbrev pub CodeCarries : (ℕ → Registers → Type 0) → List TargetInstr → Type 0
CodeCarries Holds code = (at : ℕ) (registers : Registers) → Holds at registers → InstrCarries Holds at registers (slice_get code at)

-- and it holds at the start, if an exchange has succeeded
abbrev pub Begins : (ℕ → Registers → Type 0) → Type 0
Begins Holds = (registers : Registers) → 1 ≤ number_in registers (Num 7) → Holds 0 registers

-- ---- where a caller stands that won't begin again

-- in a wrap-up that started after an exchange had succeeded
abbrev pub InWrapUp : Hand → Type 0
InWrapUp hand = (hand.wrapup ≡ true) × (1 ≤ number_in hand.started (Num 7))

abbrev pub ClearSettles : Hand → AfterClear → Type 0
ClearSettles hand clears.New = ⊥
ClearSettles hand clears.WrapUp = InWrapUp hand
ClearSettles hand (clears.Reply reply) = Unit {0}
ClearSettles hand clears.Again = ⊥

abbrev pub RetireSettles : (ℕ → Registers → Type 0) → Hand → AfterRetire → Type 0
RetireSettles Holds hand retires.Next = InWrapUp hand × Holds (hand.at + 1) hand.registers
RetireSettles Holds hand (retires.List k) = Unit {0}

abbrev pub StartSettles : Hand → MethodStart → Type 0
StartSettles hand starts.Begin = ⊥
StartSettles hand starts.WrapUp = InWrapUp hand
StartSettles hand starts.Again = ⊥

-- before it withdraws its announcement, its reply given
abbrev pub LeaveSettles : Announcing → Type 0
LeaveSettles (announces.Loads why) = ⊥
LeaveSettles (announces.Stores why phase) = ⊥
LeaveSettles (announces.Leaves reply) = Unit {0}

abbrev pub SettledAt : (ℕ → Registers → Type 0) → Hand → Routine → Type 0
SettledAt Holds hand Idle = Unit {0}
SettledAt Holds hand (LoadSeen why) = StartSettles hand why
SettledAt Holds hand At = InWrapUp hand × Holds hand.at hand.registers
SettledAt Holds hand (InList k) = 1 ≤ k
SettledAt Holds hand (Retires retirement go) = RetireSettles Holds hand go
SettledAt Holds hand Restarts = InWrapUp hand
SettledAt Holds hand (Clears next) = ClearSettles hand next
SettledAt Holds hand (Claims claim) = ⊥
SettledAt Holds hand (Zeroes k field) = ⊥
SettledAt Holds hand (Announces announcing) = LeaveSettles announcing

abbrev HasEight : Entry → Type 0
HasEight e = length e.hand.registers.numbers ≡ 8

count_in : (registers : Registers) (made : ℕ) → length registers.numbers ≡ 8 → 1 ≤ made → 1 ≤ number_in (with_count registers made) (Num 7)
count_in registers made eight some =
    let inside : 7 < length registers.numbers = omega (arith, eight) in
    subst (λ (n : ℕ). 1 ≤ n) (sym (get_or-set_same registers.numbers 7 made 0 inside)) some

unguarded_wraps : (o : Option ℕ) (hand : Hand) → InWrapUp hand → InWrapUp (unguarded o hand)
unguarded_wraps None hand wraps = wraps
unguarded_wraps (Some r) hand wraps = wraps

unguarded_clears : (o : Option ℕ) (hand : Hand) (next : AfterClear) → ClearSettles hand next → ClearSettles (unguarded o hand) next
unguarded_clears (Some r) hand clears.New settled = settled
unguarded_clears _ hand _ settled = settled

-- ---- code

module _ (Holds : ℕ → Registers → Type 0) where
  plain_carries : (i : Instr) (at : ℕ) (registers : Registers) (next : Spot) → PlainCarries Holds at registers i → local_step i at registers ≡ Some next → Holds next.at next.registers
  plain_carries (instr.LoadRoot d x) at registers next carries is = absurd (let z : None ≡ Some next = is in cc)
  plain_carries (instr.LoadPick d x n a) at registers next carries is = absurd (let z : None ≡ Some next = is in cc)
  plain_carries (instr.LoadField d a f) at registers next carries is = absurd (let z : None ≡ Some next = is in cc)
  plain_carries (instr.Put a f b) at registers next carries is = absurd (let z : None ≡ Some next = is in cc)
  plain_carries (instr.Cas exchange l) at registers next carries is = absurd (let z : None ≡ Some next = is in cc)
  plain_carries (instr.New d kind) at registers next carries is = absurd carries
  plain_carries (instr.Commit exchanges) at registers next carries is = absurd carries
  plain_carries instr.Again at registers next carries is = absurd carries
  plain_carries _ at registers next carries is = carries next is

  instr_carries : (o : Option TargetInstr) (at : ℕ) (registers : Registers) (next : Spot) → InstrCarries Holds at registers o → target_local_at o at registers ≡ Some next → Holds next.at next.registers
  instr_carries (Some (Plain i)) at registers next carries is = plain_carries i at registers next carries is
  instr_carries _ at registers next carries is = absurd (let z : None ≡ Some next = is in cc)

  run_carries : (code : List TargetInstr) → CodeCarries Holds code → (n : ℕ) (spot : Spot) → Holds spot.at spot.registers → (let end = target_run code n spot in Holds end.at end.registers)
  run_carries code carries zero spot holds = holds
  run_carries code carries (suc n) spot holds = of (λ next h. run_carries code carries n next h) (target_next_spot code spot) refl where
    of : ((next : Spot) → Holds next.at next.registers → (let end = target_run code n next in Holds end.at end.registers)) → (o : Option Spot) → target_next_spot code spot ≡ o
        → (let end = go_on o spot (target_run code n) in Holds end.at end.registers)
    of further None is = holds
    of further (Some next) is = further next (instr_carries (slice_get code spot.at) spot.at spot.registers next (carries spot.at spot.registers holds) is)

-- ---- a caller

module _ (target : Target) (sizes : Sizes) (Holds : ℕ → ℕ → Registers → Type 0) (begins : (op : ℕ) → Begins (Holds op)) (carries : (op : ℕ) → CodeCarries (Holds op) (code_at target op true)) where
  abbrev pub Settled : Entry → Type 0
  Settled e = SettledAt (Holds e.running.call.op) e.hand e.routine

  abbrev HoldsIn : Entry → ℕ → Registers → Type 0
  HoldsIn e = Holds e.running.call.op

  -- nothing happened
  same : (e : Entry) (routine : Routine) → e.routine ≡ routine → SettledAt (HoldsIn e) e.hand routine → Settled e
  same e routine is settled = subst (SettledAt (HoldsIn e) e.hand) (sym is) settled

  then_settles : (next : AfterClear) (e : Entry) → ClearSettles e.hand next → Settled (then_goes target sizes next e)
  then_settles clears.WrapUp e settled = settled
  then_settles (clears.Reply reply) e settled = tt
  then_settles _ e settled = absurd settled

  cleared_settles : (next : AfterClear) (e : Entry) → ClearSettles e.hand next → Settled (cleared target sizes next e)
  cleared_settles next e settled = of (clear_next target next e) where
    of : (o : Option ℕ) → Settled (clear_on target sizes next o e)
    of None = then_settles next e settled
    of (Some r) = settled

  ended_settles : (made : ℕ) (e : Entry) → HasEight e → 1 ≤ made → Settled (list_ended target sizes made e)
  ended_settles made e eight some = cleared_settles clears.WrapUp (with_hand e (wrap_up_hand made e.hand)) (refl, count_in e.hand.registers made eight some)

  plain_settles : (i : Instr) (e : Entry) → InWrapUp e.hand → HoldsIn e e.hand.at e.hand.registers → PlainCarries (HoldsIn e) e.hand.at e.hand.registers i → Settled (plain_stop target sizes i e).entry
  plain_settles (instr.New d kind) e wraps holds carried = absurd carried
  plain_settles (instr.Commit exchanges) e wraps holds carried = absurd carried
  plain_settles (instr.Return a) e wraps holds carried = cleared_settles (clears.Reply (replies.Number (number_in e.hand.registers a))) e tt
  plain_settles instr.ReturnNone e wraps holds carried = cleared_settles (clears.Reply replies.Nothing) e tt
  plain_settles instr.Again e wraps holds carried = absurd carried
  plain_settles _ e wraps holds carried = (wraps, holds)

  -- ---- under epochs

  stop_settles : (i : Instr) (e : Entry) → InWrapUp e.hand → HoldsIn e e.hand.at e.hand.registers → PlainCarries (HoldsIn e) e.hand.at e.hand.registers i → Settled (wrap_up_stop i e).entry
  stop_settles (instr.Return a) e wraps holds carried = tt
  stop_settles instr.ReturnNone e wraps holds carried = tt
  stop_settles instr.Again e wraps holds carried = absurd carried
  stop_settles _ e wraps holds carried = (wraps, holds)

  announced_settles : (i : Instr) (e : Entry) → InWrapUp e.hand → HoldsIn e e.hand.at e.hand.registers → PlainCarries (HoldsIn e) e.hand.at e.hand.registers i → Settled (announced_stop target sizes i e).entry
  announced_settles (instr.New d kind) e wraps holds carried = absurd carried
  announced_settles (instr.Commit exchanges) e wraps holds carried = absurd carried
  announced_settles i e wraps holds carried = stop_settles i e wraps holds carried

  -- ---- where local code stops

  stop_at_settles : (by : Reclamation) (i : Instr) (e : Entry) → InWrapUp e.hand → HoldsIn e e.hand.at e.hand.registers → PlainCarries (HoldsIn e) e.hand.at e.hand.registers i → Settled (stop_at by target sizes i e).entry
  stop_at_settles Optimistic i e wraps holds carried = plain_settles i e wraps holds carried
  stop_at_settles Epochs i e wraps holds carried = announced_settles i e wraps holds carried

  -- what the instruction at which a wrap-up stands does
  carried_here : (e : Entry) → InWrapUp e.hand → HoldsIn e e.hand.at e.hand.registers → InstrCarries (HoldsIn e) e.hand.at e.hand.registers (instr_in target e)
  carried_here e wraps holds =
      subst (λ (w : Bool). InstrCarries (HoldsIn e) e.hand.at e.hand.registers (instr_at target e.running.call.op w e.hand.at)) (sym wraps.0) (carries e.running.call.op e.hand.at e.hand.registers holds)

  stopped_settles : (by : Reclamation) (e : Entry) → InWrapUp e.hand → HoldsIn e e.hand.at e.hand.registers → Settled (stopped by target sizes e).entry
  stopped_settles by e wraps holds = of (instr_in target e) (carried_here e wraps holds) where
    of : (o : Option TargetInstr) → InstrCarries (HoldsIn e) e.hand.at e.hand.registers o → Settled (stops by target sizes o e).entry
    of (Some (Plain i)) carried = stop_at_settles by i e wraps holds carried
    of _ carried = (wraps, holds)

  -- local code carries it on
  run_holds : (spot : Spot) (e : Entry) → InWrapUp e.hand → HoldsIn e spot.at spot.registers → (let end = target_run (code_in target e) (length (code_in target e)) spot in HoldsIn e end.at end.registers)
  run_holds spot e wraps holds =
      subst (λ (w : Bool). let code = code_at target e.running.call.op w in let end = target_run code (length code) spot in HoldsIn e end.at end.registers) (sym wraps.0)
      (run_carries (HoldsIn e) (code_at target e.running.call.op true) (carries e.running.call.op) (length (code_at target e.running.call.op true)) spot holds)

  settles_on : (by : Reclamation) (spot : Spot) (e : Entry) → InWrapUp e.hand → HoldsIn e spot.at spot.registers → Settled (settles by target sizes spot e).entry
  settles_on by spot e wraps holds = stopped_settles by (run_to target spot e) wraps (run_holds spot e wraps holds)

  -- a wrap-up that starts without an access
  wrap_up_settles : (made : ℕ) (e : Entry) → HasEight e → 1 ≤ made → Settled (wrap_up_begun target made e).entry
  wrap_up_settles made e eight some =
      let wrapped : Entry = with_hand e (wrap_up_hand made e.hand) in
      let spot : Spot = record { at = 0; registers = with_count e.hand.registers made } in
      let begun : Entry = run_to target spot wrapped in
      let some_made : 1 ≤ number_in (with_count e.hand.registers made) (Num 7) = count_in e.hand.registers made eight some in
      let wraps : InWrapUp begun.hand = (refl, some_made) in
      let holds : HoldsIn begun begun.hand.at begun.hand.registers = run_holds spot wrapped (refl, some_made) (begins e.running.call.op (with_count e.hand.registers made) some_made) in
      of begun (instr_in target begun) wraps holds (carried_here begun wraps holds)
    where
      of : (e : Entry) (o : Option TargetInstr) → InWrapUp e.hand → HoldsIn e e.hand.at e.hand.registers → InstrCarries (HoldsIn e) e.hand.at e.hand.registers o → Settled (wrap_up_stops o e).entry
      of e (Some (Plain i)) wraps holds carried = stop_settles i e wraps holds carried
      of e _ wraps holds carried = (wraps, holds)

  begun_settles : (e : Entry) → 1 ≤ number_in e.hand.started (Num 7) → Settled (method_begun target sizes true e).entry
  begun_settles e some =
      settles_on Optimistic (first_spot true e.running.call.args e.hand.started) (with_hand e (record e.hand { wrapup = true; accessed = false })) (refl, some) (begins e.running.call.op e.hand.started some)

  restarted_settles : (e : Entry) → InWrapUp e.hand → Settled (restarted target sizes e).entry
  restarted_settles e wraps = of (restart_next target e) where
    of : (o : Option ℕ) → Settled (restart_on target sizes o e).entry
    of None = subst (λ (w : Bool). Settled (method_begun target sizes w e).entry) (sym wraps.0) (begun_settles e wraps.1)
    of (Some r) = wraps

  on_settles : (by : Reclamation) (registers : Registers) (e : Entry) → InWrapUp e.hand → HoldsIn e (e.hand.at + 1) registers → Settled (goes_on by target sizes registers e).entry
  on_settles by registers e wraps holds = settles_on by (record { at = e.hand.at + 1; registers = registers }) e wraps holds

  list_settles : (k : ℕ) (e : Entry) → HasEight e → Settled (list_on target sizes k e)
  list_settles k e eight = of (nat_lt (k + 1) (length (list_of (instr_in target e)))) where
    of : (b : Bool) → Settled (if b then with_routine e (InList (k + 1)) else list_ended target sizes (k + 1) e)
    of true = omega arith
    of false = ended_settles (k + 1) e eight (omega arith)

  list_goes_settles : (by : Reclamation) (k : ℕ) (e : Entry) → HasEight e → Settled (list_goes by target sizes k e).entry
  list_goes_settles Optimistic k e eight = list_settles k e eight
  list_goes_settles Epochs k e eight = of (nat_lt (k + 1) (length (list_of (instr_in target e)))) where
    of : (b : Bool) → Settled (if b then quiet (with_routine e (InList (k + 1))) else wrap_up_begun target (k + 1) e).entry
    of true = omega arith
    of false = wrap_up_settles (k + 1) e eight (omega arith)

  failed_settles : (by : Reclamation) (k : ℕ) (e : Entry) → HasEight e → 1 ≤ k → Settled (list_failed by target sizes k e).entry
  failed_settles Optimistic k e eight some = ended_settles k e eight some
  failed_settles Epochs k e eight some = wrap_up_settles k e eight some

  onward_settles : (by : Reclamation) (go : AfterRetire) (e : Entry) → HasEight e → RetireSettles (HoldsIn e) e.hand go → Settled (onward_goes by target sizes go e).entry
  onward_settles by retires.Next e eight settled = on_settles by e.hand.registers e settled.0 settled.1
  onward_settles by (retires.List k) e eight settled = list_goes_settles by k e eight

  retires_settles : (by : Reclamation) (go : AfterRetire) (slot : ℕ) (e : Entry) → HasEight e → RetireSettles (HoldsIn e) e.hand go → Settled (retires_then by target sizes go slot e).entry
  retires_settles by go zero e eight settled = onward_settles by go e eight settled
  retires_settles by go (suc j) e eight settled = settled

  cas_settles : (by : Reclamation) (exchange : CasEntry) (l word : ℕ) (e : Entry) → HasEight e → InWrapUp e.hand → HoldsIn e (e.hand.at + 1) e.hand.registers × HoldsIn e l e.hand.registers → Settled (cas_ended by target sizes exchange l word e).entry
  cas_settles by exchange l word e eight wraps both = of (succeeds exchange e.hand.registers word) where
    of : (b : Bool) → Settled (if b then retires_then by target sizes retires.Next (to_retire exchange.retire e.hand.registers) e else cas_failed by target sizes l e).entry
    of true = retires_settles by retires.Next (to_retire exchange.retire e.hand.registers) e eight (wraps, both.0)
    of false = settles_on by (record { at = l; registers = e.hand.registers }) e wraps both.1

  checked_settles : (word : ℕ) (e : Entry) → InWrapUp e.hand → HoldsIn e (e.hand.at + 1) e.hand.registers → Settled (checked target sizes word e).entry
  checked_settles word e wraps holds = of (word == e.hand.seen) where
    of : (b : Bool) → Settled (if b then check_passed target sizes e else check_failed target sizes word e).entry
    of true = on_settles Optimistic e.hand.registers (with_hand e (record e.hand { guards = pass_check e.hand.guards })) wraps holds
    of false = restarted_settles (with_hand (with_restart e) (record e.hand { seen = word; accessed = false })) wraps

  checked_by_settles : (by : Reclamation) (word : ℕ) (e : Entry) → e.routine ≡ At → InWrapUp e.hand → HoldsIn e e.hand.at e.hand.registers → HoldsIn e (e.hand.at + 1) e.hand.registers → Settled (checked_by by target sizes word e).entry
  checked_by_settles Optimistic word e is wraps holds carried = checked_settles word e wraps carried
  checked_by_settles Epochs word e is wraps holds carried = same e At is (wraps, holds)

  guarded_by_settles : (by : Reclamation) (r : Reg) (e : Entry) → e.routine ≡ At → InWrapUp e.hand → HoldsIn e e.hand.at e.hand.registers → HoldsIn e (e.hand.at + 1) e.hand.registers → Settled (guarded_by by target sizes r e).entry
  guarded_by_settles Optimistic r e is wraps holds carried =
      on_settles Optimistic e.hand.registers (with_hand e (record e.hand { guards = with_guard e.hand.guards (register_number r) (slot_in e.hand.registers r) })) wraps carried
  guarded_by_settles Epochs r e is wraps holds carried = same e At is (wraps, holds)

  accepted_plain : (by : Reclamation) (i : Instr) (word : ℕ) (e : Entry) → HasEight e → e.routine ≡ At → InWrapUp e.hand → HoldsIn e e.hand.at e.hand.registers → PlainCarries (HoldsIn e) e.hand.at e.hand.registers i
      → Settled (plain_accepted by target sizes i word e).entry
  accepted_plain by (instr.LoadRoot d x) word e eight is wraps holds carried = on_settles by (with_word e.hand.registers d word) (with_access e) wraps (carried word)
  accepted_plain by (instr.LoadPick d x n a) word e eight is wraps holds carried = on_settles by (with_word e.hand.registers d word) (with_access e) wraps (carried word)
  accepted_plain by (instr.LoadField d a f) word e eight is wraps holds carried = on_settles by (with_word e.hand.registers d word) (with_access e) wraps (carried word)
  accepted_plain by (instr.Put a f b) word e eight is wraps holds carried = on_settles by e.hand.registers e wraps carried
  accepted_plain by (instr.Cas exchange l) word e eight is wraps holds carried = cas_settles by exchange l word (with_access e) eight wraps carried
  accepted_plain by _ word e eight is wraps holds carried = same e At is (wraps, holds)

  accepted_instr : (by : Reclamation) (o : Option TargetInstr) (word : ℕ) (e : Entry) → HasEight e → e.routine ≡ At → InWrapUp e.hand → HoldsIn e e.hand.at e.hand.registers → InstrCarries (HoldsIn e) e.hand.at e.hand.registers o
      → Settled (instr_accepted by target sizes o word e).entry
  accepted_instr by None word e eight is wraps holds carried = same e At is (wraps, holds)
  accepted_instr by (Some (Plain i)) word e eight is wraps holds carried = accepted_plain by i word e eight is wraps holds carried
  accepted_instr by (Some Check) word e eight is wraps holds carried = checked_by_settles by word e is wraps holds carried
  accepted_instr by (Some (Guard r)) word e eight is wraps holds carried = guarded_by_settles by r e is wraps holds carried

  published_eight : (r : Reg) (e : Entry) → HasEight e → HasEight (with_published r e)
  published_eight (Num r) e eight = eight
  published_eight (Ref r) e eight = eight

  -- an exchange of a list leaves it so if it succeeds, and else leaves the cradles
  entry_settles : (by : Reclamation) (k : ℕ) (exchange : CasEntry) (word : ℕ) (e : Entry) → HasEight e
      → Settled (entry_ended by target sizes k exchange word e).entry ⊎ ((entry_ended by target sizes k exchange word e).entry ≡ (list_failed by target sizes k e).entry)
  entry_settles by k exchange word e eight = of (succeeds exchange e.hand.registers word) where
    of : (b : Bool) → (let later = (if b then retires_then by target sizes (retires.List k) (to_retire exchange.retire e.hand.registers) (with_published exchange.replacement e) else list_failed by target sizes k e).entry in
        Settled later ⊎ (later ≡ (list_failed by target sizes k e).entry))
    of true = inl (retires_settles by (retires.List k) (to_retire exchange.retire e.hand.registers) (with_published exchange.replacement e) (published_eight exchange.replacement e eight) tt)
    of false = inr refl

  list_stays : (by : Reclamation) (k : ℕ) (o : Option CasEntry) (word : ℕ) (e : Entry) → HasEight e → e.routine ≡ InList k → 1 ≤ k → Settled (list_accepted by target sizes k o word e).entry
  list_stays by k None word e eight is some = same e (InList k) is some
  list_stays by k (Some exchange) word e eight is some = ⊎_elim
      (λ (t : Settled (entry_ended by target sizes k exchange word e).entry). t)
      (λ (t : (entry_ended by target sizes k exchange word e).entry ≡ (list_failed by target sizes k e).entry). subst Settled (sym t) (failed_settles by k e eight some))
      (entry_settles by k exchange word e eight)

  list_publishes : (by : Reclamation) (k : ℕ) (o : Option CasEntry) (word : ℕ) (e : Entry) → HasEight e → Settled (list_accepted by target sizes k o word e).entry ⊎ ((list_accepted by target sizes k o word e).entry.cradles ≡ e.cradles)
  list_publishes by k None word e eight = inr refl
  list_publishes by k (Some exchange) word e eight = ⊎_elim
      (λ (t : Settled (entry_ended by target sizes k exchange word e).entry). inl t)
      (λ (t : (entry_ended by target sizes k exchange word e).entry ≡ (list_failed by target sizes k e).entry). inr (ap (λ (x : Entry). x.cradles) t ∙ (failed_moves target sizes by k e).0.0))
      (entry_settles by k exchange word e eight)

  retired_settles : (by : Reclamation) (go : AfterRetire) (o : Option Retirement) (e : Entry) → HasEight e → RetireSettles (HoldsIn e) e.hand go → Settled (retired_on by target sizes go o e).entry
  retired_settles by go None e eight settled = onward_settles by go (with_routine e At) eight settled
  retired_settles by go (Some retirement) e eight settled = settled

  -- it leaves, and announces no more
  leaving_settles : (announcing : Announcing) (word : ℕ) (e : Entry) → LeaveSettles announcing → Settled (announced target sizes announcing word e).entry
  leaving_settles (announces.Leaves reply) word e settled = tt
  leaving_settles _ word e settled = absurd settled

  start_settles : (why : MethodStart) (word : ℕ) (e : Entry) → StartSettles e.hand why → Settled (seen_loaded target sizes why word e).entry
  start_settles starts.WrapUp word e settled = begun_settles (with_hand e (record e.hand { seen = word })) settled.1
  start_settles _ word e settled = absurd settled

-- ---- each step

module _ (target : Target) (setting : Setting) (Holds : ℕ → ℕ → Registers → Type 0) (begins : (op : ℕ) → Begins (Holds op)) (carries : (op : ℕ) → CodeCarries (Holds op) (code_at target op true)) where
  abbrev Stays : Entry → Type 0
  Stays e = Settled target setting.sizes Holds begins carries e

  step_settles : (by : Reclamation) (word : ℕ) (e : Entry) (routine : Routine) → HasEight e → e.routine ≡ routine → SettledAt (Holds e.running.call.op) e.hand routine → Stays (accepted by target setting word e routine).entry
  step_settles by word e Idle eight is settled = same target setting.sizes Holds begins carries e Idle is tt
  step_settles by word e (LoadSeen why) eight is settled = start_settles target setting.sizes Holds begins carries why word e settled
  step_settles by word e At eight is settled = accepted_instr target setting.sizes Holds begins carries by (instr_in target e) word e eight is settled.0 settled.1 (carried_here target setting.sizes Holds begins carries e settled.0 settled.1)
  step_settles by word e (InList k) eight is settled = list_stays target setting.sizes Holds begins carries by k (slice_get (list_of (instr_in target e)) k) word e eight is settled
  step_settles by word e (Retires retirement go) eight is settled = retired_settles target setting.sizes Holds begins carries by go (retire_accepts retirement word) e eight settled
  step_settles by word e Restarts eight is settled =
      restarted_settles target setting.sizes Holds begins carries (with_hand e (unguarded (restart_next target e) e.hand)) (unguarded_wraps (restart_next target e) e.hand settled)
  step_settles by word e (Clears next) eight is settled =
      cleared_settles target setting.sizes Holds begins carries next (with_hand e (unguarded (clear_next target next e) e.hand)) (unguarded_clears (clear_next target next e) e.hand next settled)
  step_settles by word e (Claims claim) eight is settled = absurd settled
  step_settles by word e (Zeroes k field) eight is settled = absurd settled
  step_settles by word e (Announces announcing) eight is settled = leaving_settles target setting.sizes Holds begins carries announcing word e settled

  -- such a caller stays one
  pub after_settles : (e : Entry) (word : ℕ) → length e.hand.registers.numbers ≡ 8 → Stays e → Stays (after target setting e word)
  unfolding after
  after_settles e word eight settled = step_settles setting.reclamation word (counted e) e.routine eight refl settled

  -- and a list's step makes one, or leaves the cradles
  pub after_publishes : (e : Entry) (word k : ℕ) → length e.hand.registers.numbers ≡ 8 → e.routine ≡ InList k → Stays (after target setting e word) ⊎ ((after target setting e word).cradles ≡ e.cradles)
  unfolding after
  after_publishes e word k eight is = of e.routine is where
    of : (routine : Routine) → routine ≡ InList k → Stays (accepted setting.reclamation target setting word (counted e) routine).entry ⊎ ((accepted setting.reclamation target setting word (counted e) routine).entry.cradles ≡ e.cradles)
    of routine same = subst (λ (r : Routine). Stays (accepted setting.reclamation target setting word (counted e) r).entry ⊎ ((accepted setting.reclamation target setting word (counted e) r).entry.cradles ≡ e.cradles)) (sym same)
        (list_publishes target setting.sizes Holds begins carries setting.reclamation k (slice_get (list_of (instr_in target (counted e))) k) word (counted e) eight)
