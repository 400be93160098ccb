-- Worked rows: why names must be apart, from each other and from null; why marks agree; guards by name; restarts of a wrap-up.
use Rattle.std.proofs.Common.{◌≡◌, ℕ, true, false, [], ◌∷◌, Some, None, refl}
use Rattle.std.specs.Prelude.{is_some, ◌==◌, if◌then◌else◌, codes}
use Rattle.norm_lang.specs.declared.text.Reg.TheVariants.{Num, Ref}
use Rattle.norm_lang.specs.declared.text.Place.TheVariants as places
use Rattle.norm_lang.specs.declared.text.CasEntry.{CasEntry}
use Rattle.norm_lang.specs.declared.text.Instr.TheVariants as instr
use Rattle.norm_lang.specs.declared.text.Op.{Op}
use Rattle.norm_lang.specs.declared.text.Text.{Text}
use Rattle.norm_lang.specs.declared.registers.Registers.{Registers}
use Rattle.norm_lang.specs.LineWords.{item_kind}
use Rattle.norm_lang.specs.Local.{local_step}
use Rattle.norm_lang.specs.Registers.{are_equal, first_registers}
use Rattle.source_machine.specs.declared.event.SourceEvent.TheVariants.{Access, Restart}
use Rattle.norm_lang.specs.declared.reply.SourceReply.TheVariants as replies
use Rattle.source_machine.specs.Memory.{exchange}
use Rattle.source_machine.specs.MethodRuns.{run_after}
use Rattle.source_machine.specs.Run.{is_enabled_for}
use Rattle.source_machine.specs.declared.state.Value.TheVariants.{Number, Node}
use Rattle.source_machine.specs.declared.state.Memory.{Memory}
use Rattle.source_machine.specs.Step.{replied, caller_turn}
use Rattle.target_code.specs.declared.target.TargetInstr.TheVariants.{Plain, Check, Guard}
use Rattle.run_ahead.specs.AccessLaws.{succeeds_on}
use Rattle.run_ahead.specs.Agreeing.{Agree}
use Rattle.run_ahead.specs.Guards.{GuardRow, no_guards, guards_after}
use Rattle.run_ahead.specs.Standing.{Call, caller_of, begins_at, turn_if_enabled}

-- ---- names that share a slot

-- two registers of references
abbrev two : ℕ → ℕ → Registers
two x y = record { numbers = []; references = record { node = x; marked = false } ∷ record { node = y; marked = false } ∷ [] }

-- names 3 and 4 have had slot 2, one after the other: the core's registers agree with the source's, and seem equal
abbrev reused : ℕ → ℕ
reused n = if n == 4 then 2 else if n == 3 then 2 else n

same_slot : Agree reused (two 2 2) (two 3 4) (Ref 0) × Agree reused (two 2 2) (two 3 4) (Ref 1)
same_slot = ((refl, refl), (refl, refl))

seem_equal : (are_equal (two 2 2) (Ref 0) (Ref 1) ≡ true) × (are_equal (two 3 4) (Ref 0) (Ref 1) ≡ false)
seem_equal = (refl, refl)

-- ---- a name that shares slot 0 with null

abbrev lost : ℕ → ℕ
lost n = if n == 3 then 0 else n

-- an exchange of a field of r0, which expects r1
abbrev swap : CasEntry
swap = record { place = places.Field (Ref 0) 0; expected = Ref 1; replacement = Ref 1; retire = None }

abbrev linked : Memory
linked = record { nodes = record { name = 3; kind = 0; values = Node (record { node = 5; marked = false }) ∷ [] } ∷ []; roots = []; retired = [] }

-- its operands agree, and both sides would find name 5: but the core takes its object for null
object_agrees : Agree lost (two 0 5) (two 3 5) (Ref 0)
object_agrees = (refl, refl)

seems_null : (succeeds_on swap (two 0 5) (Node (record { node = 5; marked = false })) ≡ false) × (is_some (exchange [] swap (two 3 5) linked) ≡ true)
seems_null = (refl, refl)

-- with a slot of its own the exchange succeeds on both sides
own_slot : succeeds_on swap (two 2 5) (Node (record { node = 5; marked = false })) ≡ true
own_slot = refl

-- ---- marks

abbrev marked : Registers
marked = record { numbers = []; references = record { node = 2; marked = true } ∷ [] }

abbrev unmarked : Registers
unmarked = record { numbers = []; references = record { node = 2; marked = false } ∷ [] }

-- the same node with another mark goes another way
by_mark : (local_step (instr.IfMarked (Ref 0) 9) 4 marked ≡ Some (record { at = 9; registers = marked })) × (local_step (instr.IfMarked (Ref 0) 9) 4 unmarked ≡ Some (record { at = 5; registers = unmarked }))
by_mark = (refl, refl)

-- ---- guards, by name

-- r1 holds name 4: its guard publishes that, a check validates it, and a `new` takes it away
abbrev guarded : GuardRow
guarded = guards_after (Guard (Ref 1)) (two 3 4) no_guards

published_name : (guarded.name 1 ≡ 4) × (guarded.valid 1 ≡ false) × (guarded.name 0 ≡ 0)
published_name = (refl, refl, refl)

validated_name : ((guards_after Check (two 3 4) guarded).name 1 ≡ 4) × ((guards_after Check (two 3 4) guarded).valid 1 ≡ true) × ((guards_after Check (two 3 4) guarded).valid 0 ≡ false)
validated_name = (refl, refl, refl)

cleared_name : (guards_after (Plain (instr.New (Ref 0) 0)) (two 3 4) guarded).name 1 ≡ 0
cleared_name = refl

-- ---- restarts of a wrap-up

-- its wrap-up makes no access, and ends at once
abbrev idle : Op
idle = record { name = codes "idle"; args = 0; generator = instr.Commit [] ∷ []; wrapup = instr.Set (Num 0) 7 ∷ instr.Return (Num 0) ∷ [] }

-- its wrap-up makes one
abbrev looks : Op
looks = record { name = codes "look"; args = 0; generator = instr.Commit [] ∷ []; wrapup = instr.LoadRoot (Num 0) 0 ∷ instr.Return (Num 0) ∷ [] }

abbrev both : Text
both = record { kinds = item_kind ∷ []; fields = []; roots = []; nodes = []; ops = idle ∷ looks ∷ [] }

abbrev call : ℕ → Call
call number = record { number = number; args = []; replies = [] }

abbrev empty : Memory
empty = record { nodes = []; roots = Number 9 ∷ []; retired = [] }

abbrev blank : Registers
blank = first_registers []

-- the first has replied as soon as it began, so that a restart isn't enabled and leaves it
replied_at_once : begins_at idle true blank (call 0) ≡ replied (replies.Number 7) (caller_of (call 0))
replied_at_once = refl

no_restart : (is_enabled_for both (Restart 0) (Some (begins_at idle true blank (call 0))) empty ≡ false) × ((turn_if_enabled both (Restart 0) empty (begins_at idle true blank (call 0))).caller ≡ begins_at idle true blank (call 0))
no_restart = (refl, refl)

-- the second waits at its load; once that was made, a restart leads it back, and its method run has got nothing
goes_back : (turn_if_enabled both (Restart 0) empty (caller_turn both (Access 0 0) empty (begins_at looks true blank (call 1))).caller).caller ≡ begins_at looks true blank (call 1)
goes_back = refl

forgets : run_after both (Restart 0) empty (begins_at looks true blank (call 1)) (record { got = 3 ∷ []; old = [] }) ≡ record { got = []; old = [] }
forgets = refl

-- and without one it replies by an access of its own
replies_what_it_loaded : (caller_turn both (Access 0 0) empty (caller_turn both (Access 0 0) empty (begins_at looks true blank (call 1))).caller).caller ≡ replied (replies.Number 9) (caller_of (call 1))
replies_what_it_loaded = refl
