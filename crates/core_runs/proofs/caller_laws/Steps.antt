-- An entry belongs after each of its steps.
use Rattle.std.proofs.Common.{List, ◌≡◌, ◌≢◌, ℕ, suc, ◌+◌, ◌≤◌, ◌<◌, ◌==◌, Bool, true, false, length, Option, Some, None, refl, sym, ◌∙◌, subst, ap, inr, arith, if◌then◌else◌}
use Rattle.std.specs.Prelude.{slice_get, slice_set, nat_lt}
use Rattle.std.proofs.lemmas.List.{get_or-set_same}
use Rattle.std.proofs.lemmas.Bool.Decides.{nat_tests}
use Rattle.std.proofs.lemmas.Bool.{and_parts}
use Rattle.norm_lang.specs.declared.text.Reg.{Reg}
use Rattle.norm_lang.specs.declared.text.Reg.TheVariants.{Num, Ref}
use Rattle.norm_lang.specs.declared.text.CasEntry.{CasEntry}
use Rattle.norm_lang.specs.declared.text.Instr.TheVariants as instr
use Rattle.norm_lang.specs.declared.registers.Reference.{Reference}
use Rattle.norm_lang.specs.declared.registers.Registers.{Registers}
use Rattle.norm_lang.specs.Registers.{no_reference, reference_in, with_reference}
use Rattle.norm_lang.specs.InstructionRules.{holds_number}
use Rattle.norm_lang.specs.Limits.{is_register}
use Rattle.target_code.specs.declared.target.TargetInstr.{TargetInstr}
use Rattle.target_code.specs.declared.target.TargetInstr.TheVariants.{Plain}
use Rattle.target_code.specs.declared.target.Target.{Target}
use Rattle.phase_pools.specs.declared.access.ClaimEnd.{ClaimEnd}
use Rattle.phase_pools.specs.declared.access.ClaimEnd.TheVariants as ends
use Rattle.phase_pools.specs.declared.stages.RetireStage.{RetireStage}
use Rattle.phase_pools.specs.declared.stages.RetireStage.TheVariants as retires
use Rattle.phase_pools.specs.Pools.{Claim, claim_takes, claim_accepts, retire_accepts_at, retire_wants_at}
use Rattle.caller_parts.specs.declared.routine.MethodStart.{MethodStart}
use Rattle.caller_parts.specs.declared.routine.MethodStart.TheVariants as starts
use Rattle.caller_parts.specs.declared.routine.AfterClear.{AfterClear}
use Rattle.caller_parts.specs.declared.routine.AfterClear.TheVariants as clears
use Rattle.caller_parts.specs.declared.routine.AfterRetire.{AfterRetire}
use Rattle.caller_parts.specs.declared.routine.AfterRetire.TheVariants as onwards
use Rattle.oa_words.specs.SlotKinds.{kind_of, IsNullOrOf}
use Rattle.phase_pools.proofs.Keeping.{claim_stays}
use Rattle.caller_parts.specs.Settings.{Setting, Fits}
use Rattle.caller_parts.proofs.News.{new_there}
use Rattle.caller_steps.specs.Entries.{Entry, op_of, code_in, cradle_of, instr_in, new_kind, new_number, zero_count}
use Rattle.caller_parts.specs.Operands.{is_new_at, kind_made, list_of, slot_in, succeeds, to_retire, with_new}
use Rattle.caller_steps.specs.Clearing.{clear_next, restart_next, unguarded}
use Rattle.caller_steps.specs.Wants.{announcing_wanted, wanted, wants}
use Rattle.caller_steps.specs.After.{accepted, after, announced, claim_counted, claim_on, cleared, counted, entry_made, goes_on, is_wrap_up, list_accepted, list_ended, list_failed, list_goes, node_made, onward_goes, restarted, retired_on, retires_then, seen_loaded, slot_claimed, slot_gained, slot_swept, with_hand, with_published, with_routine, wrap_up_begun, zeroed}
use Rattle.caller_steps.specs.Signs.{quiet}
use Rattle.caller_steps.specs.Lawful.{Accepts, MayBeTold}
use Rattle.caller_steps.specs.Belongs.{AnnouncingStands, Belongs, ClearStands, HaveKinds, HoldsSlots, HasComeTo, RetireFits, RetireStands, RunsAt, RunsWithKinds, Stands, StartStands, cas_of, is_check_at, is_retiring}
use Rattle.caller_parts.specs.declared.routine.Routine.{Routine}
use Rattle.caller_parts.specs.declared.routine.Routine.TheVariants.{Idle, LoadSeen, At, InList, Retires, Restarts, Clears, Claims, Zeroes, Announces}
use Rattle.caller_parts.specs.declared.routine.Announcing.{Announcing}
use Rattle.caller_parts.specs.declared.routine.Announcing.TheVariants as announces
use Rattle.caller_parts.specs.declared.setting.Reclamation.{Reclamation}
use Rattle.caller_parts.specs.declared.setting.Reclamation.TheVariants.{Optimistic, Epochs}
use Rattle.target_laws.specs.target_runs.Sane.{SaneAt, SaneCode}
use Rattle.core_runs.proofs.caller_laws.Methods.{Methods, SettingSane, new_fits, zero_count_fits}
use Rattle.core_runs.proofs.caller_laws.OfKinds.{slot_of_kind}
use Rattle.core_runs.proofs.caller_laws.KindSteps.{made_typed}
use Rattle.core_runs.proofs.caller_laws.Lists.{list_there}
use Rattle.core_runs.proofs.caller_laws.Named.{referred, set_hits}
use Rattle.core_runs.proofs.caller_laws.Reaching.{Leaves, one_way, other_reference}
use Rattle.core_runs.proofs.caller_laws.Pools.{ClaimOn, claim_keeps}
use Rattle.core_runs.proofs.caller_laws.Schemes.{warning_within}
use Rattle.core_runs.proofs.caller_laws.Stopping.{Holds, Here, BelongsIn, hand_belongs, cleared_belongs, ended_belongs, begun_belongs, generator_belongs, new_in_generator, restarted_belongs, site_of, wrap_up_begun_belongs}
use Rattle.core_runs.proofs.caller_laws.Going.{goes_belongs, guards_put, cradle_put, cradles_emptied}
use Rattle.core_runs.proofs.caller_laws.Cradles.{cradle_number_small, cradle_kind_is, in_cradle}
use Rattle.core_runs.proofs.caller_laws.Instructions.{passes, retiring, retire_within, retire_some, two, instr_keeps}

-- on in a list: to its next exchange, or to the wrap-up's start
pub list_goes_belongs : (target : Target) (setting : Setting) (by : Reclamation) (e : Entry) (k : ℕ) → Methods target → SettingSane setting → Fits target setting → Holds target setting e → Here target setting e
    → setting.reclamation ≡ by → k < length (list_of (instr_in target e)) → BelongsIn target setting (list_goes by target setting.sizes k e)
list_goes_belongs target setting by e k sane some fits h c scheme lt = of by scheme where
  commit : (exchanges : List CasEntry) × (instr_in target e ≡ Some (Plain (instr.Commit exchanges)))
  commit = list_there (instr_in target e) k lt

  next : nat_lt (k + 1) (length (list_of (instr_in target e))) ≡ true → Belongs target setting (with_routine e (InList (k + 1)))
  next is = record { number = h.number; op = h.op; hand = hand_belongs target setting e h c.names; cradles = h.cradles; reaches = c.reached; kinds = record { now = c.kinds; started = h.start }; stands = grind (arith, nat_tests) }

  here : (b : Bool) → nat_lt (k + 1) (length (list_of (instr_in target e))) ≡ b → setting.reclamation ≡ Optimistic
      → Belongs target setting (if b then with_routine e (InList (k + 1)) else list_ended target setting.sizes (k + 1) e)
  here true is scheme = next is
  here false is scheme = ended_belongs target setting (k + 1) e commit.0 sane some fits h c scheme commit.1

  there : (b : Bool) → nat_lt (k + 1) (length (list_of (instr_in target e))) ≡ b → setting.reclamation ≡ Epochs
      → BelongsIn target setting (if b then quiet (with_routine e (InList (k + 1))) else wrap_up_begun target (k + 1) e)
  there true is scheme = next is
  there false is scheme = wrap_up_begun_belongs target setting (k + 1) e commit.0 sane h c scheme commit.1

  of : (by : Reclamation) → setting.reclamation ≡ by → BelongsIn target setting (list_goes by target setting.sizes k e)
  of Optimistic scheme = here (nat_lt (k + 1) (length (list_of (instr_in target e)))) refl scheme
  of Epochs scheme = there (nat_lt (k + 1) (length (list_of (instr_in target e)))) refl scheme

-- a list ends with an exchange that failed
list_fails : (target : Target) (setting : Setting) (by : Reclamation) (e : Entry) (k : ℕ) → Methods target → SettingSane setting → Fits target setting → Holds target setting e → Here target setting e
    → setting.reclamation ≡ by → k < length (list_of (instr_in target e)) → BelongsIn target setting (list_failed by target setting.sizes k e)
list_fails target setting Optimistic e k sane some fits h c scheme lt = let commit = list_there (instr_in target e) k lt in ended_belongs target setting k e commit.0 sane some fits h c scheme commit.1
list_fails target setting Epochs e k sane some fits h c scheme lt = let commit = list_there (instr_in target e) k lt in wrap_up_begun_belongs target setting k e commit.0 sane h c scheme commit.1

published : (target : Target) (setting : Setting) (r : Reg) (e : Entry) → Holds target setting e → Holds target setting (with_published r e)
published target setting (Num r) e h = h
published target setting (Ref r) e h = record { number = h.number; op = h.op; started = h.started; start = h.start; guards = h.guards; cradles = cradles_emptied setting.sizes (slot_in e.hand.registers (Ref r)) e.cradles h.cradles; seen = h.seen }

published_here : (target : Target) (setting : Setting) (r : Reg) (e : Entry) → Here target setting e → Here target setting (with_published r e)
published_here target setting (Num r) e c = c
published_here target setting (Ref r) e c = c

published_instr : (target : Target) (r : Reg) (e : Entry) → instr_in target (with_published r e) ≡ instr_in target e
published_instr target (Num r) e = refl
published_instr target (Ref r) e = refl

exchange_keeps : (target : Target) (setting : Setting) (by : Reclamation) (e : Entry) (k word : ℕ) (exchange : CasEntry) → Methods target → SettingSane setting → Fits target setting → Holds target setting e → Here target setting e → setting.reclamation ≡ by
    → k < length (list_of (instr_in target e)) → slice_get (list_of (instr_in target e)) k ≡ Some exchange → BelongsIn target setting (entry_made by target setting.sizes k exchange word e)
exchange_keeps target setting by e k word exchange sane some fits h c scheme lt is = of (succeeds exchange e.hand.registers word) where
  e' : Entry
  e' = with_published exchange.replacement e

  same : instr_in target e' ≡ instr_in target e
  same = published_instr target exchange.replacement e

  of : (b : Bool) → BelongsIn target setting (if b then retires_then by target setting.sizes (onwards.List k) (to_retire exchange.retire e.hand.registers) e' else list_failed by target setting.sizes k e)
  of true = retiring target setting by (onwards.List k) (to_retire exchange.retire e.hand.registers) e' (published target setting exchange.replacement e h) (published_here target setting exchange.replacement e c)
      (retire_within setting.sizes.slots exchange.retire e.hand.registers c.names)
      (λ ne. subst (λ (o : Option TargetInstr). RetireFits o (onwards.List k)) (sym same)
      (lt, subst (λ (x : Option CasEntry). is_retiring x ≡ true) (sym is) (retire_some exchange.retire e.hand.registers ne)))
      (list_goes_belongs target setting by e' k sane some fits (published target setting exchange.replacement e h) (published_here target setting exchange.replacement e c) scheme
      (subst (λ (o : Option TargetInstr). k < length (list_of o)) (sym same) lt))
  of false = list_fails target setting by e k sane some fits h c scheme lt

list_keeps : (target : Target) (setting : Setting) (by : Reclamation) (e : Entry) (k word : ℕ) → Methods target → SettingSane setting → Fits target setting → Holds target setting e → Here target setting e → setting.reclamation ≡ by
    → k < length (list_of (instr_in target e)) → Belongs target setting e → BelongsIn target setting (list_accepted by target setting.sizes k (slice_get (list_of (instr_in target e)) k) word e)
list_keeps target setting by e k word sane some fits h c scheme lt b = of (slice_get (list_of (instr_in target e)) k) refl where
  of : (o : Option CasEntry) → slice_get (list_of (instr_in target e)) k ≡ o → BelongsIn target setting (list_accepted by target setting.sizes k o word e)
  of None is = b
  of (Some exchange) is = exchange_keeps target setting by e k word exchange sane some fits h c scheme lt is

-- an auxiliary exchange that retired goes on to the next instruction
cas_passes : (target : Target) (setting : Setting) (by : Reclamation) (e : Entry) → Methods target → SettingSane setting → Fits target setting → Holds target setting e → Here target setting e → setting.reclamation ≡ by
    → is_retiring (cas_of (instr_in target e)) ≡ true → BelongsIn target setting (onward_goes by target setting.sizes onwards.Next e)
cas_passes target setting by e sane some fits h c scheme is = of (instr_in target e) refl is where
  of : (o : Option TargetInstr) → instr_in target e ≡ o → is_retiring (cas_of o) ≡ true → BelongsIn target setting (onward_goes by target setting.sizes onwards.Next e)
  of (Some (Plain (instr.Cas exchange l))) at stands = passes target setting by e (Plain (instr.Cas exchange l)) sane some fits (record { scheme = scheme; holds = h; here = c; is = at }) (two l (e.hand.at + 1)) refl (λ r. refl)
  of _ at stands = absurd (let z : false ≡ true = stands in cc)

onward_keeps : (target : Target) (setting : Setting) (by : Reclamation) (e : Entry) (go : AfterRetire) → Methods target → SettingSane setting → Fits target setting → Holds target setting e → Here target setting e → setting.reclamation ≡ by
    → RetireFits (instr_in target e) go → BelongsIn target setting (onward_goes by target setting.sizes go e)
onward_keeps target setting by e onwards.Next sane some fits h c scheme stands = cas_passes target setting by e sane some fits h c scheme stands
onward_keeps target setting by e (onwards.List k) sane some fits h c scheme stands = list_goes_belongs target setting by e k sane some fits h c scheme stands.0

retire_keeps : (target : Target) (setting : Setting) (by : Reclamation) (e : Entry) (word slot : ℕ) (stage : RetireStage) (go : AfterRetire) → Methods target → SettingSane setting → Fits target setting → Holds target setting e → Here target setting e → setting.reclamation ≡ by
    → (1 ≤ slot) × (slot ≤ setting.sizes.slots) × RetireStands setting stage → RetireFits (instr_in target e) go → Accepts target setting (retire_wants_at slot stage) word
    → BelongsIn target setting (retired_on by target setting.sizes go (retire_accepts_at slot word stage) e)
retire_keeps target setting by e word slot retires.ReadPhase go sane some fits h c scheme r stands lawful = record {
  number = h.number;
  op = h.op;
  hand = hand_belongs target setting e h c.names;
  cradles = h.cradles;
  reaches = c.reached;
  kinds = record { now = c.kinds; started = h.start };
  stands = ((r.0, r.1, lawful.1), stands);
}
retire_keeps target setting by e word slot (retires.StoreStatus p) go sane some fits h c scheme r stands lawful = onward_keeps target setting by (with_routine e At) go sane some fits h c scheme stands

-- guards with one cleared
cleared_guards : (target : Target) (setting : Setting) (e : Entry) (o : Option ℕ) → Holds target setting e → Holds target setting (with_hand e (unguarded o e.hand))
cleared_guards target setting e None h = h
cleared_guards target setting e (Some r) h = record { number = h.number; op = h.op; started = h.started; start = h.start; guards = guards_put setting.sizes.slots e.hand.guards r 0 h.guards (omega arith); cradles = h.cradles; seen = h.seen }

restart_keeps : (target : Target) (setting : Setting) (e : Entry) (o : Option ℕ) → Methods target → SettingSane setting → Fits target setting → Holds target setting e → Here target setting e → setting.reclamation ≡ Optimistic
    → is_check_at (instr_in target e) ≡ true → BelongsIn target setting (restarted target setting.sizes (with_hand e (unguarded o e.hand)))
restart_keeps target setting e None sane some fits h c scheme stands = restarted_belongs target setting e sane some fits h c scheme stands
restart_keeps target setting e (Some r) sane some fits h c scheme stands =
    restarted_belongs target setting (with_hand e (unguarded (Some r) e.hand)) sane some fits (cleared_guards target setting e (Some r) h) c scheme stands

clear_keeps : (target : Target) (setting : Setting) (e : Entry) (o : Option ℕ) (next : AfterClear) → Methods target → SettingSane setting → Fits target setting → Holds target setting e → Here target setting e → setting.reclamation ≡ Optimistic
    → ClearStands (instr_in target e) e.hand next → Belongs target setting (cleared target setting.sizes next (with_hand e (unguarded o e.hand)))
clear_keeps target setting e None next sane some fits h c scheme stands = cleared_belongs target setting next e sane some fits h c scheme stands
clear_keeps target setting e (Some r) next sane some fits h c scheme stands =
    cleared_belongs target setting next (with_hand e (unguarded (Some r) e.hand)) sane some fits (cleared_guards target setting e (Some r) h) c scheme (same next stands) where
      same : (next : AfterClear) → ClearStands (instr_in target e) e.hand next → ClearStands (instr_in target e) (unguarded (Some r) e.hand) next
      same clears.New s = s
      same _ s = s

-- that a claim is counted changes nothing else
claims_counted : (target : Target) (setting : Setting) (takes : Bool) (e : Entry) → Holds target setting e → Holds target setting (claim_counted takes e)
claims_counted target setting takes e h = record { number = h.number; op = h.op; started = h.started; start = h.start; guards = h.guards; cradles = h.cradles; seen = h.seen }

-- a slot was claimed: its fields come next, or, under epochs after a sweep, the announcement with which the generator begins again
gained_keeps : (target : Target) (setting : Setting) (by : Reclamation) (e : Entry) (made j : ℕ) → Methods target → SettingSane setting → Fits target setting → Holds target setting e → Here target setting e → setting.reclamation ≡ by
    → is_new_at (instr_in target e) ≡ true → (1 ≤ j) × (j ≤ setting.sizes.slots) × (kind_of setting.sizes j ≡ new_kind target e) → Belongs target setting (slot_gained by target made j e)
gained_keeps target setting by e made j sane some fits h c scheme stands slot = of by made scheme where
  k : ℕ
  k = new_number target e

  method : SaneCode target e.hand.wrapup (code_in target e)
  method = sane.code e.running.call.op e.hand.wrapup

  few : new_number target e < length e.cradles
  few = let small = cradle_number_small target e.hand.wrapup (code_in target e) e.hand.at method stands (new_fits target setting e.running.call.op e.hand.wrapup e.hand.at sane some fits stands).1 in
      let count = h.cradles.count in omega (arith, small, count)

  cradles : HoldsSlots setting.sizes (slice_set e.cradles k j)
  cradles = cradle_put setting.sizes e.cradles k j h.cradles slot.1 (λ t i lt is. inr (slot.0, slot.1, slot.2 ∙ sym (cradle_kind_is target e.hand.wrapup (code_in target e) e.hand.at method stands t i lt is)))

  zeroes : Belongs target setting (slot_claimed target j e)
  zeroes = record {
    number = h.number;
    op = h.op;
    hand = hand_belongs target setting e h c.names;
    cradles = cradles;
    reaches = c.reached;
    kinds = record { now = c.kinds; started = h.start };
    stands = (stands, refl, (λ null. let z : j ≡ 0 = sym (get_or-set_same e.cradles k j 0 few) ∙ null in omega (arith, slot.0, z)), (zero_count_fits target setting e.running.call.op e.hand.wrapup e.hand.at sane fits stands).0);
  }

  there : (d : Reg) × (kind : ℕ) × (instr_in target e ≡ Some (Plain (instr.New d kind)))
  there = new_there (instr_in target e) stands

  swept : setting.reclamation ≡ Epochs → Belongs target setting (slot_swept target j e)
  swept scheme = record {
    number = h.number;
    op = h.op;
    hand = hand_belongs target setting e h c.names;
    cradles = cradles;
    reaches = c.reached;
    kinds = record { now = c.kinds; started = h.start };
    stands = (scheme, (new_in_generator target setting e sane c there.0 there.1 there.2, stands));
  }

  of : (by : Reclamation) (made : ℕ) → setting.reclamation ≡ by → Belongs target setting (slot_gained by target made j e)
  of Epochs (suc made) scheme = swept scheme
  of _ _ scheme = zeroes

claimed_keeps : (target : Target) (setting : Setting) (by : Reclamation) (e : Entry) (claim : Claim) (end : Option ClaimEnd) → Methods target → SettingSane setting → Fits target setting → Holds target setting e → Here target setting e → setting.reclamation ≡ by
    → is_new_at (instr_in target e) ≡ true → claim.kind ≡ new_kind target e → ClaimOn setting e.number end claim → BelongsIn target setting (claim_on by target claim end e)
claimed_keeps target setting by e claim None sane some fits h c scheme stands same on = record {
  number = h.number;
  op = h.op;
  hand = hand_belongs target setting e h c.names;
  cradles = h.cradles;
  reaches = c.reached;
  kinds = record { now = c.kinds; started = h.start };
  stands = (stands, on, same);
}
claimed_keeps target setting by e claim (Some (ends.Claimed j)) sane some fits h c scheme stands same on =
    gained_keeps target setting by (with_routine e At) claim.sweeps j sane some fits h c scheme stands (on.0, on.1, on.2 ∙ same)
claimed_keeps target setting by e claim (Some ends.Full) sane some fits h c scheme stands same on = record {
  number = h.number;
  op = h.op;
  hand = hand_belongs target setting e h c.names;
  cradles = h.cradles;
  reaches = c.reached.inside;
  kinds = tt;
  stands = tt;
}
claimed_keeps target setting by e claim (Some (ends.PhasesOver p)) sane some fits h c scheme stands same on = record {
  number = h.number;
  op = h.op;
  hand = hand_belongs target setting e h c.names;
  cradles = h.cradles;
  reaches = c.reached.inside;
  kinds = tt;
  stands = tt;
}

-- the register that a `new` sets isn't null
new_leaves : (slots : ℕ) (registers : Registers) (d : Reg) (kind slot : ℕ) → holds_number d ≡ false → is_register d ≡ true → length registers.references ≡ 8 → slot ≢ 0
    → Leaves (Plain (instr.New d kind)) registers (with_reference registers d (record { node = slot; marked = false }))
new_leaves slots registers (Num d) kind slot right limit count ne = absurd (let z : true ≡ false = right in cc)
new_leaves slots registers (Ref d) kind slot right limit count ne = record {
  made = λ r wrote new. of r (same r d wrote);
  kept = λ r isnt. other_reference registers (Ref d) value r isnt;
} where
  value : Reference
  value = record { node = slot; marked = false }

  lt : d < length registers.references
  lt = let less : d < 8 = grind (arith, nat_tests) in omega (arith, less, count)

  same : (r d : ℕ) → (r == d) ≡ true → r ≡ d
  same r d e = grind (arith, nat_tests)

  of : (r : ℕ) → r ≡ d → (reference_in (with_reference registers (Ref d) value) (Ref r)).node ≢ 0
  of r is = λ null. ne (sym (ap (λ (v : Reference). v.node) (set_hits registers.references d value no_reference lt)) ∙ subst (λ (k : ℕ). (reference_in (with_reference registers (Ref d) value) (Ref k)).node ≡ 0) is null)

zero_keeps : (target : Target) (setting : Setting) (by : Reclamation) (e : Entry) (k field : ℕ) → Methods target → SettingSane setting → Fits target setting → Holds target setting e → Here target setting e → setting.reclamation ≡ by
    → (is_new_at (instr_in target e) ≡ true) × (k ≡ new_number target e) × (cradle_of e k ≢ 0) × (field < zero_count target (instr_in target e)) → BelongsIn target setting (zeroed by target setting.sizes k field e)
zero_keeps target setting by e k field sane some fits h c scheme stands = of (nat_lt (field + 1) (zero_count target (instr_in target e))) refl where
  there : (d : Reg) × (kind : ℕ) × (instr_in target e ≡ Some (Plain (instr.New d kind)))
  there = new_there (instr_in target e) stands.0

  d : Reg
  d = there.0

  kind : ℕ
  kind = there.1

  slot : ℕ
  slot = cradle_of e k

  site : SaneAt target e.hand.wrapup (code_in target e) e.hand.at (Plain (instr.New d kind))
  site = site_of target e (Plain (instr.New d kind)) sane c.reached there.2

  made : Registers
  made = with_reference e.hand.registers d (record { node = slot; marked = false })

  sets_it : with_new (instr_in target e) slot e.hand.registers ≡ made
  sets_it = ap (λ (o : Option TargetInstr). with_new o slot e.hand.registers) there.2

  -- the slot in the cradle is of the kind
  of_kind : kind_of setting.sizes slot ≡ kind
  of_kind =
      let held : IsNullOrOf setting.sizes (new_kind target e) slot =
      subst (λ (i : ℕ). IsNullOrOf setting.sizes (new_kind target e) (cradle_of e i)) (sym stands.1)
      (in_cradle target e.hand.wrapup (code_in target e) e.hand.at setting.sizes e.cradles (sane.code e.running.call.op e.hand.wrapup) stands.0 h.cradles) in
      (slot_of_kind setting.sizes (new_kind target e) slot stands.2 held).2 ∙ ap kind_made there.2

  on : BelongsIn target setting (goes_on by target setting.sizes made e)
  on = goes_belongs target setting by e (Plain (instr.New d kind)) (e.hand.at + 1) made sane some fits h c scheme there.2 (one_way (e.hand.at + 1))
      (new_leaves setting.sizes.slots e.hand.registers d kind slot site.own.form.kinds (and_parts (is_register d) (nat_lt kind (length target.kinds)) site.limits).0 c.names.references stands.2)
      (referred setting.sizes.slots e.hand.registers d (record { node = slot; marked = false }) c.names (h.cradles.within k))
      (λ way. made_typed target setting e.hand.wrapup (op_of target e) e.hand.at (e.hand.at + 1) e.hand.registers d kind slot c.reached.path.0 c.reached.path.1 there.2 of_kind way c.kinds)

  of : (b : Bool) → nat_lt (field + 1) (zero_count target (instr_in target e)) ≡ b
      → BelongsIn target setting (if b then quiet (with_routine e (Zeroes k (field + 1))) else node_made by target setting.sizes (cradle_of e k) e)
  of true is = record { number = h.number; op = h.op; hand = hand_belongs target setting e h c.names; cradles = h.cradles; reaches = c.reached; kinds = record { now = c.kinds; started = h.start }; stands = (stands.0, stands.1, stands.2, grind (arith, nat_tests)) }
  of false is = subst (λ (registers : Registers). BelongsIn target setting (goes_on by target setting.sizes registers e)) (sym sets_it) on

-- the caller has loaded its own warning; a wrap-up starts once the list has ended
seen_keeps : (target : Target) (setting : Setting) (e : Entry) (why : MethodStart) (word : ℕ) → Methods target → SettingSane setting → Fits target setting → Holds target setting e → setting.reclamation ≡ Optimistic → StartStands (instr_in target e) e.hand why
    → word ≤ setting.last → BelongsIn target setting (seen_loaded target setting.sizes why word e)
seen_keeps target setting e why word sane some fits h scheme stands le =
    begun_belongs target setting (is_wrap_up why) (with_hand e (record e.hand { seen = word })) sane some fits
    (record { number = h.number; op = h.op; started = h.started; start = h.start; guards = h.guards; cradles = h.cradles; seen = le }) scheme (runs why stands) where
      runs : (why : MethodStart) → StartStands (instr_in target e) e.hand why → is_wrap_up why ≡ true → e.hand.wrapup ≡ true
      runs starts.WrapUp stands is = stands.0
      runs _ stands is = absurd (let no : false ≡ true = is in cc)

-- the phase was loaded or announced, or the announcement was withdrawn
announced_keeps : (target : Target) (setting : Setting) (e : Entry) (announcing : Announcing) (word : ℕ) → Methods target → SettingSane setting → Fits target setting → Holds target setting e → Here target setting e → setting.reclamation ≡ Epochs
    → AnnouncingStands setting (instr_in target e) e.hand announcing → Accepts target setting (announcing_wanted e.number announcing) word → BelongsIn target setting (announced target setting.sizes announcing word e)
announced_keeps target setting e (announces.Loads why) word sane some fits h c scheme stands lawful = record {
  number = h.number;
  op = h.op;
  hand = hand_belongs target setting e h c.names;
  cradles = h.cradles;
  reaches = c.reached;
  kinds = record { now = c.kinds; started = h.start };
  stands = (scheme, (stands, lawful.0, lawful.1));
}
announced_keeps target setting e (announces.Stores why phase) word sane some fits h c scheme stands lawful = generator_belongs target setting e sane some fits h scheme
announced_keeps target setting e (announces.Leaves reply) word sane some fits h c scheme stands lawful = record {
  number = h.number;
  op = h.op;
  hand = hand_belongs target setting e h c.names;
  cradles = h.cradles;
  reaches = c.reached.inside;
  kinds = tt;
  stands = tt;
}

holds_of : (target : Target) (setting : Setting) (e : Entry) → Belongs target setting e → (e.hand.wrapup ≡ true → HaveKinds target setting (op_of target e) true 0 e.hand.started) → Holds target setting e
holds_of target setting e b start = record { number = b.number; op = b.op; started = b.hand.started; start = start; guards = b.hand.guards; cradles = b.cradles; seen = b.hand.seen }

here_of : (target : Target) (setting : Setting) (e : Entry) → Belongs target setting e → HasComeTo (code_in target e) e.hand.at e.hand.registers → HaveKinds target setting (op_of target e) e.hand.wrapup e.hand.at e.hand.registers → Here target setting e
here_of target setting e b reaches kinds = record { reached = reaches; names = b.hand.registers; kinds = kinds }

-- an entry in a routine state, whatever its routine is said to be
step_keeps : (target : Target) (setting : Setting) (by : Reclamation) (e : Entry) (word : ℕ) (routine : Routine) → Methods target → SettingSane setting → Fits target setting → setting.reclamation ≡ by → Belongs target setting e
    → RunsAt target e routine → RunsWithKinds target setting e routine → Stands target setting e routine → MayBeTold target setting (wanted target e routine) word → BelongsIn target setting (accepted by target setting word e routine)
step_keeps target setting by e word Idle sane some fits scheme b reaches kinds stands told = b
step_keeps target setting by e word (LoadSeen why) sane some fits scheme b reaches kinds stands told =
    seen_keeps target setting e why word sane some fits (holds_of target setting e b kinds.started) stands.0 stands.1 (warning_within setting.reclamation setting word told)
step_keeps target setting by e word At sane some fits scheme b reaches kinds stands told =
    instr_keeps target setting by e word (instr_in target e) sane some fits (holds_of target setting e b kinds.started) (here_of target setting e b reaches kinds.now) b scheme refl stands told
step_keeps target setting by e word (InList k) sane some fits scheme b reaches kinds stands told =
    list_keeps target setting by e k word sane some fits (holds_of target setting e b kinds.started) (here_of target setting e b reaches kinds.now) scheme stands b
step_keeps target setting by e word (Retires retirement go) sane some fits scheme b reaches kinds stands told =
    retire_keeps target setting by e word retirement.slot retirement.stage go sane some fits (holds_of target setting e b kinds.started) (here_of target setting e b reaches kinds.now) scheme stands.0 stands.1 told
step_keeps target setting by e word Restarts sane some fits scheme b reaches kinds stands told =
    restart_keeps target setting e (restart_next target e) sane some fits (holds_of target setting e b kinds.started) (here_of target setting e b reaches kinds.now) stands.0 stands.1
step_keeps target setting by e word (Clears next) sane some fits scheme b reaches kinds stands told =
    clear_keeps target setting e (clear_next target next e) next sane some fits (holds_of target setting e b kinds.started) (here_of target setting e b reaches kinds.now) stands.0 stands.1
step_keeps target setting by e word (Claims claim) sane some fits scheme b reaches kinds stands told =
    let turn = claim_accepts setting.sizes setting.last claim word in
    let counts = claim_counted (claim_takes setting.sizes claim word) e in
    claimed_keeps target setting by counts turn.claim turn.ended sane some fits (claims_counted target setting (claim_takes setting.sizes claim word) e (holds_of target setting e b kinds.started)) (here_of target setting e b reaches kinds.now) scheme stands.0 ((claim_stays setting.sizes setting.last claim word).kind ∙ stands.2)
    (claim_keeps target setting e.number claim word claim.stage refl some (omega (arith, b.number)) stands.1.kind (stands.1.scheme, stands.1.tops) stands.1.stands stands.1.sweep told)
step_keeps target setting by e word (Zeroes k field) sane some fits scheme b reaches kinds stands told =
    zero_keeps target setting by e k field sane some fits (holds_of target setting e b kinds.started) (here_of target setting e b reaches kinds.now) scheme stands
step_keeps target setting by e word (Announces announcing) sane some fits scheme b reaches kinds stands told =
    announced_keeps target setting e announcing word sane some fits (holds_of target setting e b kinds.started) (here_of target setting e b reaches kinds.now) stands.0 stands.1 told

-- an entry that belongs does so after each step that finds a lawful word
pub after_belongs : (target : Target) (setting : Setting) (e : Entry) (word : ℕ) → Methods target → SettingSane setting → Fits target setting → Belongs target setting e
    → MayBeTold target setting (wants target e) word → Belongs target setting (after target setting e word)
unfolding wants after
after_belongs target setting e word sane some fits b told =
    step_keeps target setting setting.reclamation (counted e) word e.routine sane some fits refl (record { number = b.number; op = b.op; hand = b.hand; cradles = b.cradles; reaches = b.reaches; kinds = b.kinds; stands = b.stands }) b.reaches b.kinds b.stands told
