-- An entry belongs to a target and a setting: what holds of each caller in every reachable state.
use Rattle.std.specs.Prelude.{◌≡◌, ◌≢◌, ℕ, ◌+◌, ◌*◌, ◌≤◌, ◌<◌, Bool, true, false, List, length, Option, Some, None, slice_get, slice_index}
use Rattle.std.specs.List.{All}
use Rattle.norm_lang.specs.declared.text.Reg.TheVariants.{Ref}
use Rattle.norm_lang.specs.declared.text.CasEntry.{CasEntry}
use Rattle.norm_lang.specs.declared.text.Instr.{Instr}
use Rattle.norm_lang.specs.declared.text.Instr.TheVariants as instr
use Rattle.norm_lang.specs.declared.text.Reg.{Reg}
use Rattle.norm_lang.specs.declared.registers.Registers.{Registers}
use Rattle.norm_lang.specs.Registers.{reference_in}
use Rattle.target_code.specs.declared.target.TargetInstr.{TargetInstr}
use Rattle.target_code.specs.declared.target.TargetInstr.TheVariants.{Plain, Check, Guard}
use Rattle.target_code.specs.declared.target.TargetOp.{TargetOp}
use Rattle.target_code.specs.declared.target.Target.{Target}
use Rattle.target_code.specs.Paths.{TargetPath}
use Rattle.target_code.specs.PathStates.{IsSurelyFreshInTarget}
use Rattle.kind_laws.specs.TargetKinds.{AreTyped}
use Rattle.oa_words.specs.Words.{Sizes, slot_range}
use Rattle.oa_words.specs.SlotKinds.{kind_of, IsNullOrOf}
use Rattle.guard_words.specs.Guards.{Guards, IsRow, guard_at}
use Rattle.phase_pools.specs.declared.stages.Scheme.{Scheme}
use Rattle.phase_pools.specs.declared.stages.Scheme.TheVariants.{Warned, Announced}
use Rattle.phase_pools.specs.declared.stages.SweepStage.{SweepStage}
use Rattle.phase_pools.specs.declared.stages.SweepStage.TheVariants as sweeps
use Rattle.phase_pools.specs.declared.stages.ClaimStage.{ClaimStage}
use Rattle.phase_pools.specs.declared.stages.ClaimStage.TheVariants as claims
use Rattle.phase_pools.specs.declared.stages.RetireStage.{RetireStage}
use Rattle.phase_pools.specs.declared.stages.RetireStage.TheVariants as stages
use Rattle.phase_pools.specs.Pools.{Sweep, Claim, Retirement}
use Rattle.caller_parts.specs.declared.routine.AfterClear.{AfterClear}
use Rattle.caller_parts.specs.declared.routine.AfterClear.TheVariants as clears
use Rattle.caller_parts.specs.declared.routine.AfterRetire.{AfterRetire}
use Rattle.caller_parts.specs.declared.routine.AfterRetire.TheVariants as retires
use Rattle.caller_parts.specs.declared.routine.MethodStart.{MethodStart}
use Rattle.caller_parts.specs.declared.routine.MethodStart.TheVariants as starts
use Rattle.caller_steps.specs.declared.entry.Hand.{Hand}
use Rattle.caller_parts.specs.declared.routine.AnnounceReason.{AnnounceReason}
use Rattle.caller_parts.specs.declared.routine.AnnounceReason.TheVariants as reasons
use Rattle.caller_parts.specs.declared.routine.Announcing.{Announcing}
use Rattle.caller_parts.specs.declared.routine.Announcing.TheVariants as announces
use Rattle.caller_parts.specs.declared.setting.Reclamation.{Reclamation}
use Rattle.caller_parts.specs.declared.setting.Reclamation.TheVariants.{Optimistic, Epochs}
use Rattle.caller_parts.specs.Settings.{Setting}
use Rattle.caller_parts.specs.declared.routine.Routine.{Routine}
use Rattle.caller_parts.specs.declared.routine.Routine.TheVariants.{Idle, LoadSeen, At, InList, Retires, Restarts, Clears, Claims, Zeroes, Announces}
use Rattle.caller_steps.specs.Entries.{Entry, op_of, code_in, instr_in, new_kind, new_number, zero_count, cradle_of}
use Rattle.caller_parts.specs.Operands.{list_of, is_new_at, cradle_count}
use Rattle.caller_steps.specs.Clearing.{restart_next, clear_next}

-- eight registers of each kind, whose references name slots of the row
abbrev pub NamesSlots : ℕ → Registers → Type 0
NamesSlots slots registers = record {
  numbers : length registers.numbers ≡ 8;
  references : length registers.references ≡ 8;
  within : (r : ℕ) → (reference_in registers (Ref r)).node ≤ slots;
}

abbrev pub GuardsSlots : ℕ → Guards → Type 0
GuardsSlots slots guards = record {
  row : IsRow guards;
  within : (r : ℕ) → guard_at guards r ≤ slots;
}

-- four cradles for each kind, by the kinds' order: each is empty or holds a slot of its kind
abbrev pub HoldsSlots : Sizes → List ℕ → Type 0
HoldsSlots n cradles = record {
  count : length cradles ≡ cradle_count;
  within : (k : ℕ) → slice_index cradles k ≤ n.slots;
  kinds : (t k : ℕ) → k < 4 → IsNullOrOf n t (slice_index cradles (4 * t + k));
}

-- what a method run holds
abbrev pub HandBelongs : Setting → Hand → Type 0
HandBelongs setting hand = record {
  registers : NamesSlots setting.sizes.slots hand.registers;
  started : NamesSlots setting.sizes.slots hand.started;
  guards : GuardsSlots setting.sizes.slots hand.guards;
  seen : hand.seen ≤ setting.last;
}

-- a run of the method has come to a place: it is one of its instructions, a path leads there, and what is surely fresh
-- there isn't null
abbrev pub HasComeTo : List TargetInstr → ℕ → Registers → Type 0
HasComeTo code at registers = record {
  inside : at < length code;
  path : (path : List ℕ) × TargetPath code path at;
  fresh : (r : ℕ) → IsSurelyFreshInTarget code (Ref r) at → (reference_in registers (Ref r)).node ≢ 0;
}

-- each register of references names null, or a slot of a kind that it may have at a place of the operation's method
abbrev pub HaveKinds : Target → Setting → Option TargetOp → Bool → ℕ → Registers → Type 0
HaveKinds target setting None wrapup at registers = Unit {0}
HaveKinds target setting (Some op) wrapup at registers = AreTyped (kind_of setting.sizes) target.fields target.roots op wrapup at registers

-- the slots that hold nodes: those that are claimed, retired and swept
abbrev pub first_slot : Setting → ℕ
first_slot setting = (slot_range setting.sizes).first

abbrev pub last_slot : Setting → ℕ
last_slot setting = (slot_range setting.sizes).last

-- where a sweep stands; a push goes to the head of its slot's kind, whose top is of the kind
abbrev pub SweepStands : Setting → ℕ → SweepStage → Type 0
SweepStands setting bound sweeps.ReadPhase = Unit {0}
SweepStands setting bound (sweeps.RaisePhase p) = (setting.first ≤ p) × (p < setting.last)
SweepStands setting bound (sweeps.Warn c) = c < setting.sizes.callers
SweepStands setting bound (sweeps.ReadHazard c r) = (c < setting.sizes.callers) × (r < 8)
SweepStands setting bound (sweeps.ReadStatus j) = (first_slot setting ≤ j) × (j ≤ last_slot setting)
SweepStands setting bound (sweeps.MakeReady j q) = (first_slot setting ≤ j) × (j ≤ last_slot setting) × (q ≤ setting.last)
SweepStands setting bound (sweeps.PushHead k j) = (first_slot setting ≤ j) × (j ≤ last_slot setting) × (k ≡ kind_of setting.sizes j)
SweepStands setting bound (sweeps.PushLink j q t) =
    (first_slot setting ≤ j) × (j ≤ last_slot setting) × (q ≤ setting.last) × IsNullOrOf setting.sizes (kind_of setting.sizes j) t
SweepStands setting bound (sweeps.PushTop k j q t) =
    (first_slot setting ≤ j) × (j ≤ last_slot setting) × (q ≤ setting.last) × IsNullOrOf setting.sizes (kind_of setting.sizes j) t
    × (k ≡ kind_of setting.sizes j)

-- a sweep that has its s has one of the run's phases; before that it has none past the last
abbrev pub HasBound : Setting → ℕ → SweepStage → Type 0
HasBound setting bound sweeps.ReadPhase = bound ≤ setting.last
HasBound setting bound (sweeps.RaisePhase p) = bound ≤ setting.last
HasBound setting bound _ = (setting.first ≤ bound) × (bound ≤ setting.last)

-- a sweep that warns the callers recycles what was retired before the phase to which it raises
abbrev pub HasLow : Scheme → ℕ → ℕ → Type 0
HasLow Warned bound low = low ≡ bound
HasLow (Announced own) bound low = low ≤ bound

abbrev pub SweepBelongs : Setting → Sweep → Type 0
SweepBelongs setting sweep = record {
  stands : SweepStands setting sweep.bound sweep.stage;
  bound : HasBound setting sweep.bound sweep.stage;
  low : HasLow sweep.scheme sweep.bound sweep.low;
  gathered : All (λ j. j ≤ setting.sizes.slots) sweep.gathered;
}

-- where a claim of a slot of a kind stands; no look takes slot 0, and a caller withdraws the announcement that is its own
abbrev pub ClaimStands : Setting → Scheme → ℕ → ClaimStage → Type 0
ClaimStands setting scheme k claims.ReadHead = Unit {0}
ClaimStands setting scheme k (claims.ReadLink q t) = (first_slot setting ≤ t) × (t ≤ last_slot setting) × (q ≤ setting.last) × (kind_of setting.sizes t ≡ k)
ClaimStands setting scheme k (claims.Take q t next) =
    (first_slot setting ≤ t) × (t ≤ last_slot setting) × (q ≤ setting.last) × IsNullOrOf setting.sizes k next × (kind_of setting.sizes t ≡ k)
ClaimStands setting scheme k (claims.StoreUsed q t) = (first_slot setting ≤ t) × (t ≤ last_slot setting) × (q ≤ setting.last) × (kind_of setting.sizes t ≡ k)
ClaimStands setting scheme k (claims.Withdraw own) = scheme ≡ Announced own
ClaimStands setting scheme k claims.Sweeps = Unit {0}

-- how the sweeps of a caller with this number deal with the others: they warn them, or load what they have announced
abbrev pub scheme_of : Reclamation → ℕ → Scheme
scheme_of Optimistic c = Warned
scheme_of Epochs c = Announced c

-- its kind is one of the row's, its sweeps go by the setting's scheme, and its heads are those of the row. Its sweep belongs, whether it is under
-- way or has ended: the slots and phases of one that has ended stay with the claim that looks again
abbrev pub ClaimBelongs : Setting → ℕ → Claim → Type 0
ClaimBelongs setting c claim = record {
  kind : claim.kind < length setting.sizes.kinds;
  scheme : claim.sweep.scheme ≡ scheme_of setting.reclamation c;
  tops : claim.sweep.tops ≡ setting.sizes.tops;
  stands : ClaimStands setting claim.sweep.scheme claim.kind claim.stage;
  sweep : SweepBelongs setting claim.sweep;
}

abbrev pub RetireStands : Setting → RetireStage → Type 0
RetireStands setting stages.ReadPhase = Unit {0}
RetireStands setting (stages.StoreStatus p) = p ≤ setting.last

abbrev pub RetireBelongs : Setting → Retirement → Type 0
RetireBelongs setting retirement = (first_slot setting ≤ retirement.slot) × (retirement.slot ≤ last_slot setting) × RetireStands setting retirement.stage

-- the instruction has an access of its own
abbrev pub plain_has_access : Instr → Bool
plain_has_access (instr.LoadRoot d x) = true
plain_has_access (instr.LoadPick d x count a) = true
plain_has_access (instr.LoadField d a f) = true
plain_has_access (instr.Put a f b) = true
plain_has_access (instr.Cas exchange l) = true
plain_has_access _ = false

abbrev pub has_access : Option TargetInstr → Bool
has_access None = false
has_access (Some (Plain i)) = plain_has_access i
has_access (Some Check) = true
has_access (Some (Guard r)) = true

-- an exchange with a register to retire
abbrev pub has_retire : Option Reg → Bool
has_retire None = false
has_retire (Some r) = true

abbrev pub is_retiring : Option CasEntry → Bool
is_retiring None = false
is_retiring (Some exchange) = has_retire exchange.retire

abbrev pub cas_of : Option TargetInstr → Option CasEntry
cas_of (Some (Plain (instr.Cas exchange l))) = Some exchange
cas_of _ = None

abbrev pub is_check_at : Option TargetInstr → Bool
is_check_at (Some Check) = true
is_check_at _ = false

abbrev pub is_reply_at : Option TargetInstr → Bool
is_reply_at (Some (Plain (instr.Return a))) = true
is_reply_at (Some (Plain instr.ReturnNone)) = true
is_reply_at _ = false

abbrev pub is_again_at : Option TargetInstr → Bool
is_again_at (Some (Plain instr.Again)) = true
is_again_at _ = false

-- a retirement after an exchange stands at that exchange
abbrev pub RetireFits : Option TargetInstr → AfterRetire → Type 0
RetireFits i retires.Next = is_retiring (cas_of i) ≡ true
RetireFits i (retires.List k) = (k < length (list_of i)) × (is_retiring (slice_get (list_of i) k) ≡ true)

-- a clear stands at the moment of its row
abbrev pub ClearStands : Option TargetInstr → Hand → AfterClear → Type 0
ClearStands i hand clears.New = is_new_at i ≡ true
ClearStands i hand clears.WrapUp = (hand.wrapup ≡ true) × (hand.at ≡ 0)
ClearStands i hand (clears.Reply reply) = (hand.wrapup ≡ true) × (is_reply_at i ≡ true)
ClearStands i hand clears.Again = (hand.wrapup ≡ true) × (is_again_at i ≡ true)

abbrev pub StartStands : Option TargetInstr → Hand → MethodStart → Type 0
StartStands i hand starts.Begin = (hand.wrapup ≡ false) × (hand.at ≡ 0)
StartStands i hand starts.WrapUp = (hand.wrapup ≡ true) × (hand.at ≡ 0)
StartStands i hand starts.Again = (hand.wrapup ≡ true) × (is_again_at i ≡ true)

-- an announcement stands at the place of its reason: at the start of an operation, at an `again`, at a `new` for which the caller has
-- swept, or at a reply
abbrev pub ReasonStands : Option TargetInstr → Hand → AnnounceReason → Type 0
ReasonStands i hand reasons.Begin = (hand.wrapup ≡ false) × (hand.at ≡ 0)
ReasonStands i hand reasons.Again = (hand.wrapup ≡ true) × (is_again_at i ≡ true)
ReasonStands i hand reasons.Swept = (hand.wrapup ≡ false) × (is_new_at i ≡ true)

abbrev pub AnnouncingStands : Setting → Option TargetInstr → Hand → Announcing → Type 0
AnnouncingStands setting i hand (announces.Loads why) = ReasonStands i hand why
AnnouncingStands setting i hand (announces.Stores why phase) = ReasonStands i hand why × (setting.first ≤ phase) × (phase ≤ setting.last)
AnnouncingStands setting i hand (announces.Leaves reply) = (hand.wrapup ≡ true) × (is_reply_at i ≡ true)

abbrev pub IsSomeOf : Option ℕ → Type 0
IsSomeOf None = ⊥
IsSomeOf (Some r) = Unit {0}

-- it stands at an access of its routine. Only under optimistic access does a caller load its warning for a start, or clear hazards, and only
-- under epochs does it announce
abbrev pub Stands : Target → Setting → Entry → Routine → Type 0
Stands target setting e Idle = Unit {0}
Stands target setting e (LoadSeen why) = (setting.reclamation ≡ Optimistic) × StartStands (instr_in target e) e.hand why
Stands target setting e At = has_access (instr_in target e) ≡ true
Stands target setting e (InList k) = k < length (list_of (instr_in target e))
Stands target setting e (Retires retirement go) = RetireBelongs setting retirement × RetireFits (instr_in target e) go
Stands target setting e Restarts = (setting.reclamation ≡ Optimistic) × (is_check_at (instr_in target e) ≡ true) × IsSomeOf (restart_next target e)
Stands target setting e (Clears next) = (setting.reclamation ≡ Optimistic) × ClearStands (instr_in target e) e.hand next × IsSomeOf (clear_next target next e)
Stands target setting e (Claims claim) = (is_new_at (instr_in target e) ≡ true) × ClaimBelongs setting e.number claim × (claim.kind ≡ new_kind target e)
Stands target setting e (Zeroes k field) =
    (is_new_at (instr_in target e) ≡ true) × (k ≡ new_number target e) × (cradle_of e k ≢ 0) × (field < zero_count target (instr_in target e))
Stands target setting e (Announces announcing) = (setting.reclamation ≡ Epochs) × AnnouncingStands setting (instr_in target e) e.hand announcing

-- if a call runs, the entry has come to its instruction
abbrev pub RunsAt : Target → Entry → Routine → Type 0
RunsAt target e Idle = e.hand.at < length (code_in target e)
RunsAt target e _ = HasComeTo (code_in target e) e.hand.at e.hand.registers

-- and its registers name slots of kinds that they may have there; in a wrap-up those of its start name slots of kinds that they may have at
-- its first instruction
abbrev pub RunsWithKinds : Target → Setting → Entry → Routine → Type 0
RunsWithKinds target setting e Idle = Unit {0}
RunsWithKinds target setting e _ = record {
  now : HaveKinds target setting (op_of target e) e.hand.wrapup e.hand.at e.hand.registers;
  started : e.hand.wrapup ≡ true → HaveKinds target setting (op_of target e) true 0 e.hand.started;
}

pub record Belongs (target : Target) (setting : Setting) (e : Entry) : Type 0 where
  pub number : e.number < setting.sizes.callers
  pub op : e.running.call.op < length target.ops
  pub hand : HandBelongs setting e.hand
  pub cradles : HoldsSlots setting.sizes e.cradles
  pub reaches : RunsAt target e e.routine
  pub kinds : RunsWithKinds target setting e e.routine
  pub stands : Stands target setting e e.routine
