-- An entry that belongs has what its code needs: what is asked of an entry that asks, and of one that is told a lawful word.
use Rattle.std.proofs.Common.{◌≡◌, ℕ, zero, suc, ◌+◌, ◌≤◌, ◌*◌, ◌<◌, ◌^◌, true, false, length, Option, Some, None, refl, subst, ap, arith}
use Rattle.std.specs.Prelude.{slice_get, nat_lt, nat_le}
use Rattle.std.specs.List.{list_all}
use Rattle.std.proofs.lemmas.Bool.{and_parts, leb-true}
use Rattle.norm_lang.specs.declared.text.Reg.{Reg}
use Rattle.norm_lang.specs.declared.text.Reg.TheVariants.{Num, Ref}
use Rattle.norm_lang.specs.declared.text.Place.{Place}
use Rattle.norm_lang.specs.declared.text.Place.TheVariants as places
use Rattle.norm_lang.specs.declared.text.CasEntry.{CasEntry}
use Rattle.norm_lang.specs.declared.text.Instr.{Instr}
use Rattle.norm_lang.specs.declared.text.Instr.TheVariants as instr
use Rattle.norm_lang.specs.declared.registers.Registers.{Registers}
use Rattle.norm_lang.specs.Limits.{is_entry}
use Rattle.norm_lang.specs.KindFields.{place_of}
use Rattle.norm_lang.specs.Registers.{number_in}
use Rattle.norm_lang.specs.Local.{remainder}
use Rattle.target_code.specs.declared.target.TargetInstr.{TargetInstr}
use Rattle.target_code.specs.declared.target.TargetInstr.TheVariants.{Plain, Check, Guard}
use Rattle.target_code.specs.declared.target.Target.{Target}
use Rattle.oa_words.specs.Words.{FieldOf, in_row}
use Rattle.phase_pools.specs.declared.stages.ClaimStage.{ClaimStage}
use Rattle.phase_pools.specs.declared.stages.ClaimStage.TheVariants as claims
use Rattle.phase_pools.specs.declared.stages.RetireStage.{RetireStage}
use Rattle.phase_pools.specs.declared.stages.RetireStage.TheVariants as retires
use Rattle.phase_pools.specs.Pools.{Sweep, Claim, retire_wants_at}
use Rattle.phase_pools.specs.Ranges.{HasOwn, ClaimInRange, RetireTold}
use Rattle.caller_parts.specs.declared.routine.AfterRetire.{AfterRetire}
use Rattle.caller_parts.specs.declared.routine.AfterRetire.TheVariants as onwards
use Rattle.caller_parts.specs.declared.routine.Routine.{Routine}
use Rattle.caller_parts.specs.declared.routine.Routine.TheVariants.{Idle, LoadSeen, At, InList, Retires, Restarts, Clears, Claims, Zeroes, Announces}
use Rattle.caller_parts.specs.Settings.{Fits, IsSetting, Setting}
use Rattle.caller_steps.specs.Entries.{Entry, is_idle, code_in, instr_in, op_of, zero_count}
use Rattle.caller_parts.specs.Operands.{list_of, slot_in, word_in, is_new_at, AreSlots}
use Rattle.caller_parts.specs.Spared.{restart_spares, then_spares}
use Rattle.caller_steps.specs.Wants.{exchange_wanted, instr_wanted, list_wanted, object_exchange, place_exchange, plain_wanted, wanted, wants}
use Rattle.caller_steps.specs.Lawful.{Accepts, AsksSafely, IsSafe, MayBeTold}
use Rattle.caller_steps.specs.Belongs.{Belongs, ClaimBelongs, NamesSlots, ClaimStands, HasComeTo, RetireFits, RunsAt, Stands, SweepBelongs}
use Rattle.caller_steps.specs.Asking.{CanAccept, CanAsk, CanAskInstr, CanAskList, CanAskPlain, CanExchange, HasField, InstrAccepts, IsNear}
use Rattle.std.proofs.Math.Nat.{mul-le-mul_left}
use Rattle.core_runs.proofs.caller_laws.OfKinds.{of_row}
use Rattle.core_runs.proofs.caller_laws.Methods.{Methods, SettingSane, setting_sane, zero_count_fits}
use Rattle.core_runs.proofs.caller_laws.Schemes.{has_own}
use Rattle.core_runs.proofs.caller_laws.Stopping.{site_of}
use Rattle.core_runs.proofs.caller_laws.Named.{named}
use Rattle.core_runs.proofs.caller_laws.Safety.{below, list_there, wants_safe}
use Rattle.core_runs.proofs.caller_laws.Fitting.{clears_register, sweep_ranges, claim_told}

-- registers that name slots of the row fit their type, if the slots do
pub are_slots : (setting : Setting) (registers : Registers) → setting.sizes.slots < 2 ^ 32 → NamesSlots setting.sizes.slots registers → AreSlots registers
are_slots setting registers few names = record { each = of }
  where
    of : (r : Reg) → slot_in registers r < 2 ^ 32
    of r = let le : slot_in registers r ≤ setting.sizes.slots = named setting.sizes.slots registers r names in omega (arith, le, few)

-- ---- asking: the wanted word is in the row

has_field : (setting : Setting) (j g : ℕ) → in_row setting.sizes (FieldOf j g) ≡ true → HasField setting.sizes j g
has_field setting j g row =
    let p = and_parts (nat_lt j (setting.sizes.slots + 1)) (nat_lt g setting.sizes.fields) row in
    let lt = below j (setting.sizes.slots + 1) p.0 in (omega (arith, lt), below g setting.sizes.fields p.1)

can_exchange : (target : Target) (setting : Setting) (exchange : CasEntry) (registers : Registers) → IsSafe target setting (exchange_wanted target.fields exchange registers) → CanExchange target.fields setting.sizes exchange.place registers
can_exchange target setting exchange registers = of exchange.place where
  by_slot : (j f expected replacement : ℕ) → IsSafe target setting (object_exchange j f expected replacement) → HasField setting.sizes j f
  by_slot zero f expected replacement safe = has_field setting zero f safe.row
  by_slot (suc j) f expected replacement safe = has_field setting (suc j) f safe.row

  of : (place : Place) → IsSafe target setting (place_exchange target.fields place registers (word_in registers exchange.expected) (word_in registers exchange.replacement)) → CanExchange target.fields setting.sizes place registers
  of (places.Root x) safe = below x setting.sizes.cells safe.row
  of (places.Field a f) safe = by_slot (slot_in registers a) (place_of target.fields f) (word_in registers exchange.expected) (word_in registers exchange.replacement) safe

ask_plain : (target : Target) (setting : Setting) (i : Instr) (registers : Registers) → AsksSafely target setting (plain_wanted target.fields i registers) → CanAskPlain target.fields setting.sizes i registers
ask_plain target setting (instr.LoadRoot d x) registers safe = below x setting.sizes.cells safe.row
ask_plain target setting (instr.LoadPick d x n a) registers safe = below (x + remainder (number_in registers a) n) setting.sizes.cells safe.row
ask_plain target setting (instr.LoadField d a f) registers safe = has_field setting (slot_in registers a) (place_of target.fields f) safe.row
ask_plain target setting (instr.Put a f b) registers safe = has_field setting (slot_in registers a) (place_of target.fields f) safe.row
ask_plain target setting (instr.Cas exchange l) registers safe = can_exchange target setting exchange registers safe
ask_plain target setting _ registers safe = tt

-- a guard is of a reference
guarded_register : (target : Target) (e : Entry) (r : ℕ) → Methods target → HasComeTo (code_in target e) e.hand.at e.hand.registers → instr_in target e ≡ Some (Guard (Ref r)) → r < 8
guarded_register target e r sane here is = below r 8 (site_of target e (Guard (Ref r)) sane here is).limits

no_guard_of_number : (target : Target) (e : Entry) (r : ℕ) → Methods target → HasComeTo (code_in target e) e.hand.at e.hand.registers → instr_in target e ≡ Some (Guard (Num r)) → ⊥
no_guard_of_number target e r sane here is = let no : false ≡ true = (site_of target e (Guard (Num r)) sane here is).limits in cc

ask_instr : (target : Target) (setting : Setting) (e : Entry) (o : Option TargetInstr) → Methods target → HasComeTo (code_in target e) e.hand.at e.hand.registers → instr_in target e ≡ o
    → AsksSafely target setting (instr_wanted target.fields e.number o e.hand.registers) → CanAskInstr target.fields setting.sizes o e.hand.registers
ask_instr target setting e None sane here is safe = tt
ask_instr target setting e (Some (Plain i)) sane here is safe = ask_plain target setting i e.hand.registers safe
ask_instr target setting e (Some Check) sane here is safe = tt
ask_instr target setting e (Some (Guard (Ref r))) sane here is safe = guarded_register target e r sane here is
ask_instr target setting e (Some (Guard (Num r))) sane here is safe = no_guard_of_number target e r sane here is

ask_list : (target : Target) (setting : Setting) (o : Option CasEntry) (registers : Registers) → AsksSafely target setting (list_wanted target.fields o registers) → CanAskList target.fields setting.sizes o registers
ask_list target setting None registers safe = tt
ask_list target setting (Some exchange) registers safe = can_exchange target setting exchange registers safe

claim_ranges : (setting : Setting) (k : ℕ) (sweep : Sweep) (stage : ClaimStage) → SettingSane setting → HasOwn setting.sizes sweep.scheme → ClaimStands setting sweep.scheme k stage → SweepBelongs setting sweep → ClaimInRange setting.sizes sweep stage
claim_ranges setting k sweep claims.ReadHead some has s own = tt
claim_ranges setting k sweep (claims.ReadLink q t) some has s own = s.1
claim_ranges setting k sweep (claims.Take q t next) some has s own = (s.1, of_row setting.sizes k next s.3)
claim_ranges setting k sweep (claims.StoreUsed q t) some has s own = s.1
claim_ranges setting k sweep (claims.Withdraw announced) some has s own = subst (HasOwn setting.sizes) s has
claim_ranges setting k sweep claims.Sweeps some has s own = sweep_ranges setting sweep.bound sweep.stage some own.stands

-- the caller whose claim it is is one of the row's
claim_own : (target : Target) (setting : Setting) (e : Entry) (claim : Claim) → Belongs target setting e → ClaimBelongs setting e.number claim → HasOwn setting.sizes claim.sweep.scheme
claim_own target setting e claim b own = has_own setting.sizes setting.reclamation e.number claim.sweep.scheme own.scheme b.number

-- a field to which a `new` stores 0 is in the row
zeroes_within : (target : Target) (setting : Setting) (e : Entry) (field : ℕ) → Methods target → Fits target setting → is_new_at (instr_in target e) ≡ true → field < zero_count target (instr_in target e) → field < setting.sizes.fields
zeroes_within target setting e field sane fits new below = let room = (zero_count_fits target setting e.running.call.op e.hand.wrapup e.hand.at sane fits new).1 in omega (arith, below, room)

ask_step : (target : Target) (setting : Setting) (e : Entry) (routine : Routine) → Methods target → IsSetting setting → Fits target setting → Belongs target setting e
    → RunsAt target e routine → Stands target setting e routine → (is_idle routine ≡ false → AsksSafely target setting (wanted target e routine)) → CanAsk target setting e routine
ask_step target setting e At sane own fits b reaches stands safe = ask_instr target setting e (instr_in target e) sane reaches refl (safe refl)
ask_step target setting e (InList k) sane own fits b reaches stands safe = ask_list target setting (slice_get (list_of (instr_in target e)) k) e.hand.registers (safe refl)
ask_step target setting e (Retires retirement go) sane own fits b reaches stands safe = stands.0.1
ask_step target setting e Restarts sane own fits b reaches stands safe = clears_register e.hand.guards (restart_spares e.hand.wrapup (op_of target e)) b.hand.guards.row.slots
ask_step target setting e (Clears next) sane own fits b reaches stands safe = clears_register e.hand.guards (then_spares next (op_of target e)) b.hand.guards.row.slots
ask_step target setting e (Claims claim) sane own fits b reaches stands safe =
    (stands.1.kind, claim_ranges setting claim.kind claim.sweep claim.stage (setting_sane setting own) (claim_own target setting e claim b stands.1) stands.1.stands stands.1.sweep)
ask_step target setting e (Zeroes k field) sane own fits b reaches stands safe = (b.cradles.within k, zeroes_within target setting e field sane fits stands.0 stands.3)
ask_step target setting e _ sane own fits b reaches stands safe = tt

-- what `pending` needs
pub can_ask : (target : Target) (setting : Setting) (e : Entry) → Methods target → IsSetting setting → Fits target setting → Belongs target setting e → CanAsk target setting e e.routine
unfolding wants
can_ask target setting e sane own fits b =
    ask_step target setting e e.routine sane own fits b b.reaches b.stands (λ busy. wants_safe target setting e sane (setting_sane setting own) fits b busy)

-- ---- being told a lawful word

accept_instr : (target : Target) (setting : Setting) (e : Entry) (o : Option TargetInstr) → Methods target → HasComeTo (code_in target e) e.hand.at e.hand.registers → instr_in target e ≡ o → InstrAccepts o
accept_instr target setting e (Some (Guard (Ref r))) sane here is = guarded_register target e r sane here is
accept_instr target setting e (Some (Guard (Num r))) sane here is = no_guard_of_number target e r sane here is
accept_instr target setting e _ sane here is = tt

-- a list has at most 4 exchanges
near_list : (target : Target) (setting : Setting) (e : Entry) (k : ℕ) → Methods target → HasComeTo (code_in target e) e.hand.at e.hand.registers → k < length (list_of (instr_in target e)) → k < 2 ^ 62
near_list target setting e k sane here lt =
    let there = list_there (instr_in target e) k lt in
    let limits = (site_of target e (Plain (instr.Commit there.0)) sane here there.1).limits in
    let four = leb-true (length there.0) 4 (and_parts (nat_le (length there.0) 4) (list_all (is_entry (length target.fields) (length target.roots)) there.0) limits).0 in
    let same : length (list_of (instr_in target e)) ≡ length there.0 = ap (λ (o : Option TargetInstr). length (list_of o)) there.1 in
    omega (arith, lt, four, same)

near_onward : (target : Target) (setting : Setting) (e : Entry) (go : AfterRetire) → Methods target → HasComeTo (code_in target e) e.hand.at e.hand.registers → RetireFits (instr_in target e) go → IsNear go
near_onward target setting e onwards.Next sane here stands = tt
near_onward target setting e (onwards.List k) sane here stands = near_list target setting e k sane here stands.0

-- a phase of the run is one that fits a status
retire_told : (target : Target) (setting : Setting) (slot word : ℕ) (stage : RetireStage) → IsSetting setting → Accepts target setting (retire_wants_at slot stage) word → RetireTold stage word
retire_told target setting slot word retires.ReadPhase own told =
    let most = told.1 in
    let last = own.last in
    let four : setting.last * 4 ≤ setting.last * setting.sizes.tops = mul-le-mul_left setting.last own.sizes.room in
    let room = own.sizes.room in
    omega (arith, most, last, four, room)
retire_told target setting slot word (retires.StoreStatus p) own told = tt

accept_step : (target : Target) (setting : Setting) (e : Entry) (word : ℕ) (routine : Routine) → Methods target → IsSetting setting → Fits target setting → Belongs target setting e
    → RunsAt target e routine → Stands target setting e routine → MayBeTold target setting (wanted target e routine) word → CanAccept target setting e word routine
accept_step target setting e word Idle sane own fits b reaches stands told = tt
accept_step target setting e word (LoadSeen why) sane own fits b reaches stands told = tt
accept_step target setting e word At sane own fits b reaches stands told = accept_instr target setting e (instr_in target e) sane reaches refl
accept_step target setting e word (InList k) sane own fits b reaches stands told = near_list target setting e k sane reaches stands
accept_step target setting e word (Retires retirement go) sane own fits b reaches stands told =
    (stands.0.1, retire_told target setting retirement.slot word retirement.stage own told, near_onward target setting e go sane reaches stands.1)
accept_step target setting e word Restarts sane own fits b reaches stands told = clears_register e.hand.guards (restart_spares e.hand.wrapup (op_of target e)) b.hand.guards.row.slots
accept_step target setting e word (Clears next) sane own fits b reaches stands told = clears_register e.hand.guards (then_spares next (op_of target e)) b.hand.guards.row.slots
accept_step target setting e word (Claims claim) sane own fits b reaches stands told = (
  stands.1.kind,
  claim_own target setting e claim b stands.1,
  claim_ranges setting claim.kind claim.sweep claim.stage (setting_sane setting own) (claim_own target setting e claim b stands.1) stands.1.stands stands.1.sweep,
  claim_told target setting claim.sweep.tops claim.kind claim.sweep word claim.stage told,
)
accept_step target setting e word (Zeroes k field) sane own fits b reaches stands told = zeroes_within target setting e field sane fits stands.0 stands.3
accept_step target setting e word (Announces announcing) sane own fits b reaches stands told = tt

-- what `accept` needs
pub can_accept : (target : Target) (setting : Setting) (e : Entry) (word : ℕ) → Methods target → IsSetting setting → Fits target setting → Belongs target setting e
    → MayBeTold target setting (wants target e) word → CanAccept target setting e word e.routine
unfolding wants
can_accept target setting e word sane own fits b told = accept_step target setting e word e.routine sane own fits b b.reaches b.stands told

-- and its place is one of at most 4096
pub is_near : (target : Target) (setting : Setting) (e : Entry) → Methods target → Belongs target setting e → e.hand.at < 2 ^ 62
is_near target setting e sane b = of e.routine b.reaches where
  short : length (code_in target e) ≤ 4096
  short = (sane.code e.running.call.op e.hand.wrapup).short

  of : (routine : Routine) → RunsAt target e routine → e.hand.at < 2 ^ 62
  of Idle reaches = omega (arith, short, reaches)
  of _ reaches = let lt = reaches.inside in omega (arith, short, lt)
