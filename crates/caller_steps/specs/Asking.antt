-- What an entry needs of where it stands, for the access that it wants to be in the row, and of the word that it is told, for its
-- step to fit its types. An entry that belongs, told a lawful word, has it.
use Rattle.std.specs.Prelude.{ℕ, ◌+◌, ◌≤◌, ◌<◌, ◌^◌, Bool, List, length, Option, Some, None, option_map, slice_get}
use Rattle.norm_lang.specs.declared.text.Reg.TheVariants.{Num, Ref}
use Rattle.norm_lang.specs.declared.text.FieldDecl.{FieldDecl}
use Rattle.norm_lang.specs.declared.text.Place.{Place}
use Rattle.norm_lang.specs.declared.text.Place.TheVariants as places
use Rattle.norm_lang.specs.declared.text.CasEntry.{CasEntry}
use Rattle.norm_lang.specs.declared.text.Instr.{Instr}
use Rattle.norm_lang.specs.declared.text.Instr.TheVariants as instr
use Rattle.norm_lang.specs.declared.registers.Registers.{Registers}
use Rattle.norm_lang.specs.KindFields.{place_of}
use Rattle.norm_lang.specs.Registers.{number_in}
use Rattle.norm_lang.specs.Local.{remainder}
use Rattle.target_code.specs.declared.target.TargetInstr.{TargetInstr}
use Rattle.target_code.specs.declared.target.TargetInstr.TheVariants.{Plain, Check, Guard}
use Rattle.target_code.specs.declared.target.Target.{Target}
use Rattle.oa_words.specs.Words.{Sizes}
use Rattle.phase_pools.specs.declared.access.Access.{Access}
use Rattle.phase_pools.specs.Accesses.{WordAccess, located}
use Rattle.phase_pools.specs.Ranges.{HasOwn, ClaimInRange, ClaimTold, RetireTold}
use Rattle.caller_parts.specs.declared.routine.AfterRetire.{AfterRetire}
use Rattle.caller_parts.specs.declared.routine.AfterRetire.TheVariants as retires
use Rattle.caller_parts.specs.declared.routine.Routine.{Routine}
use Rattle.caller_parts.specs.declared.routine.Routine.TheVariants.{Idle, LoadSeen, At, InList, Retires, Restarts, Clears, Claims, Zeroes, Announces}
use Rattle.caller_parts.specs.Settings.{Setting}
use Rattle.caller_steps.specs.Entries.{Entry, instr_in, cradle_of}
use Rattle.caller_parts.specs.Operands.{slot_in, list_of, instr_at, kind_made}
use Rattle.caller_steps.specs.Clearing.{restart_next, clear_next}

-- an access as the code makes it
abbrev pub located_option : Sizes → Option WordAccess → Option Access
located_option n access = option_map (located n) access

-- ---- asking

abbrev pub HasField : Sizes → ℕ → ℕ → Type 0
HasField n slot place = (slot ≤ n.slots) × (place < n.fields)

abbrev pub CanExchange : List FieldDecl → Sizes → Place → Registers → Type 0
CanExchange fields n (places.Root x) registers = x < n.cells
CanExchange fields n (places.Field a f) registers = HasField n (slot_in registers a) (place_of fields f)

abbrev pub CanAskPlain : List FieldDecl → Sizes → Instr → Registers → Type 0
CanAskPlain fields n (instr.LoadRoot d x) registers = x < n.cells
CanAskPlain fields n (instr.LoadPick d x count a) registers = x + remainder (number_in registers a) count < n.cells
CanAskPlain fields n (instr.LoadField d a f) registers = HasField n (slot_in registers a) (place_of fields f)
CanAskPlain fields n (instr.Put a f b) registers = HasField n (slot_in registers a) (place_of fields f)
CanAskPlain fields n (instr.Cas exchange l) registers = CanExchange fields n exchange.place registers
CanAskPlain fields n _ registers = Unit {0}

abbrev pub CanAskInstr : List FieldDecl → Sizes → Option TargetInstr → Registers → Type 0
CanAskInstr fields n None registers = Unit {0}
CanAskInstr fields n (Some (Plain i)) registers = CanAskPlain fields n i registers
CanAskInstr fields n (Some Check) registers = Unit {0}
CanAskInstr fields n (Some (Guard (Ref r))) registers = r < 8
CanAskInstr fields n (Some (Guard (Num r))) registers = ⊥

abbrev pub CanAskList : List FieldDecl → Sizes → Option CasEntry → Registers → Type 0
CanAskList fields n None registers = Unit {0}
CanAskList fields n (Some exchange) registers = CanExchange fields n exchange.place registers

abbrev pub IsRegister : Option ℕ → Type 0
IsRegister None = Unit {0}
IsRegister (Some r) = r < 8

abbrev pub CanAsk : Target → Setting → Entry → Routine → Type 0
CanAsk target setting e Idle = Unit {0}
CanAsk target setting e (LoadSeen why) = Unit {0}
CanAsk target setting e At = CanAskInstr target.fields setting.sizes (instr_in target e) e.hand.registers
CanAsk target setting e (InList k) = CanAskList target.fields setting.sizes (slice_get (list_of (instr_in target e)) k) e.hand.registers
CanAsk target setting e (Retires retirement go) = retirement.slot ≤ setting.sizes.slots
CanAsk target setting e Restarts = IsRegister (restart_next target e)
CanAsk target setting e (Clears next) = IsRegister (clear_next target next e)
CanAsk target setting e (Claims claim) = (claim.kind < length setting.sizes.kinds) × ClaimInRange setting.sizes claim.sweep claim.stage
CanAsk target setting e (Zeroes k field) = HasField setting.sizes (cradle_of e k) field
CanAsk target setting e (Announces announcing) = Unit {0}

-- ---- accepting

-- the target makes nodes of kinds that the row has
abbrev pub NewsFit : Target → Sizes → Type 0
NewsFit target n = (op : ℕ) (wrapup : Bool) (at : ℕ) → kind_made (instr_at target op wrapup at) < length n.kinds

abbrev pub IsNear : AfterRetire → Type 0
IsNear retires.Next = Unit {0}
IsNear (retires.List k) = k < 2 ^ 62

abbrev pub InstrAccepts : Option TargetInstr → Type 0
InstrAccepts None = Unit {0}
InstrAccepts (Some (Plain i)) = Unit {0}
InstrAccepts (Some Check) = Unit {0}
InstrAccepts (Some (Guard (Ref r))) = r < 8
InstrAccepts (Some (Guard (Num r))) = ⊥

abbrev pub CanAccept : Target → Setting → Entry → ℕ → Routine → Type 0
CanAccept target setting e word Idle = Unit {0}
CanAccept target setting e word (LoadSeen why) = Unit {0}
CanAccept target setting e word At = InstrAccepts (instr_in target e)
CanAccept target setting e word (InList k) = k < 2 ^ 62
CanAccept target setting e word (Retires retirement go) = (retirement.slot ≤ setting.sizes.slots) × RetireTold retirement.stage word × IsNear go
CanAccept target setting e word Restarts = IsRegister (restart_next target e)
CanAccept target setting e word (Clears next) = IsRegister (clear_next target next e)
CanAccept target setting e word (Claims claim) =
    (claim.kind < length setting.sizes.kinds) × HasOwn setting.sizes claim.sweep.scheme × ClaimInRange setting.sizes claim.sweep claim.stage
    × ClaimTold setting.sizes setting.last claim.sweep claim.stage word
CanAccept target setting e word (Zeroes k field) = field < setting.sizes.fields
CanAccept target setting e word (Announces announcing) = Unit {0}
