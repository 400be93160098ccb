-- The one access that a caller makes next.
use Rattle.std.specs.Prelude.{ℕ, zero, suc, ◌+◌, List, Option, Some, None, option_map, slice_get}
use Rattle.norm_lang.specs.declared.text.FieldDecl.{FieldDecl}
use Rattle.norm_lang.specs.declared.text.Place.{Place}
use Rattle.norm_lang.specs.declared.text.Place.TheVariants as places
use Rattle.norm_lang.specs.declared.text.CasEntry.{CasEntry}
use Rattle.norm_lang.specs.declared.text.Instr.{Instr}
use Rattle.norm_lang.specs.declared.text.Instr.TheVariants as instr
use Rattle.norm_lang.specs.declared.registers.Registers.{Registers}
use Rattle.norm_lang.specs.KindFields.{place_of}
use Rattle.norm_lang.specs.Registers.{number_in}
use Rattle.norm_lang.specs.Local.{remainder}
use Rattle.target_code.specs.declared.target.TargetInstr.{TargetInstr}
use Rattle.target_code.specs.declared.target.TargetInstr.TheVariants.{Plain, Check, Guard}
use Rattle.target_code.specs.declared.target.Target.{Target}
use Rattle.oa_words.specs.Words.{Phase, Warning, Hazard, FieldOf, Cell}
use Rattle.phase_pools.specs.Accesses.{WordAccess, Loads, Stores, Exchanges}
use Rattle.phase_pools.specs.Pools.{claim_wants, retire_wants}
use Rattle.caller_parts.specs.declared.routine.Announcing.{Announcing}
use Rattle.caller_parts.specs.declared.routine.Announcing.TheVariants as announces
use Rattle.caller_parts.specs.declared.routine.Routine.{Routine}
use Rattle.caller_parts.specs.declared.routine.Routine.TheVariants.{Idle, LoadSeen, At, InList, Retires, Restarts, Clears, Claims, Zeroes, Announces}
use Rattle.caller_steps.specs.Entries.{Entry, instr_in, cradle_of}
use Rattle.caller_parts.specs.Operands.{word_in, slot_in, register_number, list_of}
use Rattle.caller_steps.specs.Clearing.{restart_next, clear_next}

-- an exchange of a field of the node in a slot; if the object is null, its field is loaded instead
abbrev pub object_exchange : ℕ → ℕ → ℕ → ℕ → WordAccess
object_exchange zero f expected replacement = Loads (FieldOf 0 f)
object_exchange (suc j) f expected replacement = Exchanges (FieldOf (suc j) f) expected replacement

-- fields are addressed by their places among those of their kind
abbrev pub place_exchange : List FieldDecl → Place → Registers → ℕ → ℕ → WordAccess
place_exchange fields (places.Root x) registers expected replacement = Exchanges (Cell x) expected replacement
place_exchange fields (places.Field a f) registers expected replacement = object_exchange (slot_in registers a) (place_of fields f) expected replacement

abbrev pub exchange_wanted : List FieldDecl → CasEntry → Registers → WordAccess
exchange_wanted fields exchange registers =
    place_exchange fields exchange.place registers (word_in registers exchange.expected) (word_in registers exchange.replacement)

-- the access of one instruction; none of those that are local, or that end a method or claim
abbrev pub plain_wanted : List FieldDecl → Instr → Registers → Option WordAccess
plain_wanted fields (instr.LoadRoot d x) registers = Some (Loads (Cell x))
plain_wanted fields (instr.LoadPick d x count a) registers = Some (Loads (Cell (x + remainder (number_in registers a) count)))
plain_wanted fields (instr.LoadField d a f) registers = Some (Loads (FieldOf (slot_in registers a) (place_of fields f)))
plain_wanted fields (instr.Put a f b) registers = Some (Stores (FieldOf (slot_in registers a) (place_of fields f)) (word_in registers b))
plain_wanted fields (instr.Cas exchange l) registers = Some (exchange_wanted fields exchange registers)
plain_wanted fields _ registers = None

-- a check loads the caller's own warning, a guard stores the register's slot in its hazard
abbrev pub instr_wanted : List FieldDecl → ℕ → Option TargetInstr → Registers → Option WordAccess
instr_wanted fields c None registers = None
instr_wanted fields c (Some (Plain i)) registers = plain_wanted fields i registers
instr_wanted fields c (Some Check) registers = Some (Loads (Warning c))
instr_wanted fields c (Some (Guard r)) registers = Some (Stores (Hazard c (register_number r)) (slot_in registers r))

-- an exchange of a commit's list
abbrev pub list_wanted : List FieldDecl → Option CasEntry → Registers → Option WordAccess
list_wanted fields exchange registers = option_map (λ e. exchange_wanted fields e registers) exchange

-- a store of 0 to a hazard of the caller
abbrev pub clear_wanted : ℕ → Option ℕ → Option WordAccess
clear_wanted c register = option_map (λ r. Stores (Hazard c r) 0) register

-- the load of the phase, or a store to the caller's own warning word
abbrev pub announcing_wanted : ℕ → Announcing → WordAccess
announcing_wanted c (announces.Loads why) = Loads Phase
announcing_wanted c (announces.Stores why phase) = Stores (Warning c) phase
announcing_wanted c (announces.Leaves reply) = Stores (Warning c) 0

abbrev pub wanted : Target → Entry → Routine → Option WordAccess
wanted target e Idle = None
wanted target e (LoadSeen why) = Some (Loads (Warning e.number))
wanted target e At = instr_wanted target.fields e.number (instr_in target e) e.hand.registers
wanted target e (InList k) = list_wanted target.fields (slice_get (list_of (instr_in target e)) k) e.hand.registers
wanted target e (Retires retirement go) = Some (retire_wants retirement)
wanted target e Restarts = clear_wanted e.number (restart_next target e)
wanted target e (Clears next) = clear_wanted e.number (clear_next target next e)
wanted target e (Claims claim) = Some (claim_wants claim)
wanted target e (Zeroes k field) = Some (Stores (FieldOf (cradle_of e k) field) 0)
wanted target e (Announces announcing) = Some (announcing_wanted e.number announcing)

-- the one access that the entry makes next
unfoldable pub wants : Target → Entry → Option WordAccess
wants target e = wanted target e e.routine
