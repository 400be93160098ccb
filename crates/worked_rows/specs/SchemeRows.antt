-- Rows of combined checks: what the second scheme makes of small methods and of the queue's, and beside which instructions of a
-- method it puts checks.
use Rattle.std.specs.Prelude.{◌≡◌, Bool, true, false, List, [], ◌∷◌, map, codes}
use Rattle.norm_lang.specs.declared.text.Instr.{Instr}
use Rattle.norm_lang.specs.declared.text.Instr.TheVariants.{Set, Add, Null, LoadRoot, LoadPick, LoadField, New, Put, Cas, Jump, IfEq, IfMarked, Commit, Return, ReturnNone, Again}
use Rattle.norm_lang.specs.declared.text.Op.{Op}
use Rattle.norm_lang.specs.Shipped.{root_entry, next_entry, retiring, enqueue_generator, enqueue_wrap_up, dequeue_generator, dequeue_wrap_up}
use Rattle.target_code.specs.declared.target.TargetInstr.{TargetInstr}
use Rattle.target_code.specs.declared.target.TargetInstr.TheVariants.{Plain, Check, Guard}
use Rattle.target_code.specs.Blocks.{laid_out}
use Rattle.target_code.specs.SecondScheme.{second_marks}
use Rattle.worked_rows.specs.Small.{n0, n1, n2, n3, n7, r0, r1, r2, r3, key, next, first, ten, does, field_entry}

-- a method of an operation compiled
abbrev pub combined : Op → List Instr → List TargetInstr
combined op code = laid_out op (second_marks code)

-- the checks beside each instruction: none, one before it, one after it
abbrev pub checks_of : List Instr → List (Bool × Bool)
checks_of code = map (λ m. (m.before, m.after)) (second_marks code)

abbrev pub none : Bool × Bool
none = (false, false)

abbrev pub before : Bool × Bool
before = (true, false)

abbrev pub after : Bool × Bool
after = (false, true)

-- ---- guards and checks

-- a commit of r3 and r2, after which the wrap-up reads r1, r0 and r3
abbrev pub keeps_three : Op
keeps_three =
    does
    (LoadRoot r0 first ∷ LoadRoot r1 first ∷ LoadRoot r2 first ∷ LoadRoot r3 first ∷ Commit (root_entry first r3 r2 ∷ []) ∷ [])
    (IfEq r1 r0 1 ∷ IfMarked r3 2 ∷ ReturnNone ∷ [])

abbrev pub keeps_three_barred : List TargetInstr
keeps_three_barred =
    Plain (LoadRoot r0 first)
    ∷ Plain (LoadRoot r1 first)
    ∷ Plain (LoadRoot r2 first)
    ∷ Plain (LoadRoot r3 first)
    ∷ Guard r3
    ∷ Guard r2
    ∷ Guard r0
    ∷ Guard r1
    ∷ Check
    ∷ Plain (Commit (root_entry first r3 r2 ∷ []))
    ∷ []

-- the exchange of a number, and one of a field whose two references are one register; neither keeps anything
abbrev pub exchanges_number : Op
exchanges_number = does (Cas (root_entry ten n1 n0) 0 ∷ Jump 0 ∷ []) (ReturnNone ∷ [])

abbrev pub exchanges_same : Op
exchanges_same = does (Cas (field_entry r0 next r1 r1) 0 ∷ Jump 0 ∷ []) (ReturnNone ∷ [])

-- the exchange of a number that was loaded
abbrev pub exchanges_loaded : Op
exchanges_loaded = does (LoadRoot n1 ten ∷ Cas (root_entry ten n1 n0) 0 ∷ Jump 0 ∷ []) (ReturnNone ∷ [])

-- jumps to a block with guards, and to the one after a block that ends with a check
abbrev pub jumps_around : Op
jumps_around =
    does
    (LoadRoot r0 first ∷ Null r1 ∷ Cas (field_entry r0 next r1 r1) 2 ∷ LoadRoot r0 first ∷ IfEq r0 r1 2 ∷ Jump 4 ∷ Commit [] ∷ [])
    (ReturnNone ∷ [])

abbrev pub jumps_around_barred : List TargetInstr
jumps_around_barred =
    Plain (LoadRoot r0 first)
    ∷ Plain (Null r1)
    ∷ Check
    ∷ Guard r0
    ∷ Guard r1
    ∷ Check
    ∷ Plain (Cas (field_entry r0 next r1 r1) 3)
    ∷ Plain (LoadRoot r0 first)
    ∷ Check
    ∷ Plain (IfEq r0 r1 3)
    ∷ Plain (Jump 9)
    ∷ Plain (Commit [])
    ∷ []

pub record BarrierRows : Type 0 where
  -- a pick is checked before the test that reads it, and alone not at all
  pub pick_tested : combined (does [] []) (LoadPick r0 first 2 n0 ∷ IfMarked r0 0 ∷ []) ≡ Plain (LoadPick r0 first 2 n0) ∷ Check ∷ Plain (IfMarked r0 0) ∷ []
  pub pick_alone : combined (does [] []) (LoadPick r0 first 2 n0 ∷ []) ≡ Plain (LoadPick r0 first 2 n0) ∷ []
  -- a commit has guards for its operands first, and then for what is kept, in the order of numbers, each register once. Four loads
  -- that don't feed each other share the check of the guards
  pub kept_guarded : combined keeps_three keeps_three.generator ≡ keeps_three_barred
  -- the wrap-up, which exchanges nothing, stays as it is
  pub kept_unguarded_later : combined keeps_three keeps_three.wrapup ≡ Plain (IfEq r1 r0 1) ∷ Plain (IfMarked r3 2) ∷ Plain ReturnNone ∷ []
  -- numbers are exchanged without guards, and without a check but for what was loaded
  pub numbers_unguarded : combined exchanges_number exchanges_number.generator ≡ Plain (Cas (root_entry ten n1 n0) 0) ∷ Plain (Jump 0) ∷ []
  pub numbers_checked : combined exchanges_loaded exchanges_loaded.generator ≡ Plain (LoadRoot n1 ten) ∷ Check ∷ Plain (Cas (root_entry ten n1 n0) 0) ∷ Plain (Jump 0) ∷ []
  -- the object and one register that is both the expected and the new operand: two guards, and a check though none is due
  pub guarded_once : combined exchanges_same exchanges_same.generator
      ≡ Guard r0 ∷ Guard r1 ∷ Check ∷ Plain (Cas (field_entry r0 next r1 r1) 0) ∷ Plain (Jump 0) ∷ []
  -- a jump leads to the guards of its instruction, and past a check that ends the block before
  pub jumps_lead : combined jumps_around jumps_around.generator ≡ jumps_around_barred

-- ---- where checks stand

pub record CheckRows : Type 0 where
  -- a check before a load is one for all that was loaded before: r1 was checked with r0
  pub checked_together : checks_of (LoadRoot r0 first ∷ LoadRoot r1 first ∷ LoadField n1 r0 key ∷ LoadField n2 r1 key ∷ Commit [] ∷ [])
      ≡ none ∷ none ∷ before ∷ none ∷ before ∷ []
  -- each load of a walk feeds the next one
  pub walked : checks_of (LoadRoot r0 first ∷ LoadField r0 r0 next ∷ LoadField r0 r0 next ∷ Commit [] ∷ []) ≡ none ∷ before ∷ before ∷ before ∷ []
  -- what was loaded while the check was due counts until the check, even if it was set again since
  pub set_again : checks_of (LoadRoot n1 ten ∷ Set n1 5 ∷ Add n2 n1 n1 ∷ Commit [] ∷ []) ≡ none ∷ none ∷ before ∷ none ∷ []
  -- what was computed from other registers counts at an end alone, and no other instruction needs a check for it
  pub computed : checks_of (LoadRoot n1 ten ∷ Set n2 5 ∷ Add n3 n2 n2 ∷ Return n3 ∷ []) ≡ none ∷ none ∷ none ∷ before ∷ []
  pub computed_before : checks_of (Set n2 5 ∷ LoadRoot n1 ten ∷ Return n2 ∷ []) ≡ none ∷ none ∷ none ∷ []
  -- a `new` has the check before it that was due, and makes one due
  pub made : checks_of (LoadRoot n1 ten ∷ New r1 0 ∷ Put r1 key n1 ∷ Commit [] ∷ []) ≡ none ∷ before ∷ before ∷ none ∷ []
  -- if a jump leads to the next instruction, a due check ends the block, and one that isn't due doesn't
  pub loop_head : checks_of (LoadRoot n1 ten ∷ Set n2 5 ∷ Set n3 5 ∷ Jump 2 ∷ []) ≡ none ∷ after ∷ none ∷ none ∷ []
  pub loop_head_clean : checks_of (Set n2 5 ∷ Set n3 5 ∷ Jump 1 ∷ []) ≡ none ∷ none ∷ none ∷ []
  -- an instruction with a check before it and one after it
  pub both : checks_of (LoadRoot r0 first ∷ LoadField n1 r0 key ∷ Set n2 5 ∷ Jump 2 ∷ []) ≡ none ∷ (true, true) ∷ none ∷ none ∷ []
  -- an end has no check for what it doesn't read, and one for what was set since, by a load or by another instruction
  pub ends_bare : checks_of (LoadRoot n1 ten ∷ Return n2 ∷ []) ≡ none ∷ none ∷ []
  pub ends_with_none : checks_of (LoadRoot n1 ten ∷ ReturnNone ∷ []) ≡ none ∷ none ∷ []
  pub ends_loaded : checks_of (LoadRoot n1 ten ∷ Return n1 ∷ []) ≡ none ∷ before ∷ []
  pub ends_set : checks_of (LoadRoot n1 ten ∷ Set n2 5 ∷ Return n2 ∷ []) ≡ none ∷ none ∷ before ∷ []
  -- after an end no check is due
  pub after_end : checks_of (IfEq n0 n0 3 ∷ LoadRoot n1 ten ∷ Again ∷ Set n1 5 ∷ Return n1 ∷ []) ≡ none ∷ none ∷ none ∷ none ∷ none ∷ []

-- ---- the queue

abbrev pub enqueue : Op
enqueue = record { name = codes "enqueue"; args = 1; generator = enqueue_generator; wrapup = enqueue_wrap_up }

abbrev pub dequeue : Op
dequeue = record { name = codes "dequeue"; args = 0; generator = dequeue_generator; wrapup = dequeue_wrap_up }

-- the root of the head is 0, and that of the tail 1; field 0 is the value, and field 1 the next node
abbrev pub enqueue_barred : List TargetInstr
enqueue_barred =
    Plain (LoadRoot r0 1)
    ∷ Check
    ∷ Plain (LoadField r1 r0 1)
    ∷ Plain (Null r2)
    ∷ Check
    ∷ Plain (IfEq r1 r2 11)
    ∷ Guard r0
    ∷ Guard r1
    ∷ Check
    ∷ Plain (Cas (root_entry 1 r0 r1) 0)
    ∷ Plain (Jump 0)
    ∷ Plain (New r3 0)
    ∷ Check
    ∷ Plain (Put r3 0 n0)
    ∷ Guard r0
    ∷ Guard r2
    ∷ Guard r3
    ∷ Check
    ∷ Plain (Commit (next_entry r0 r2 r3 ∷ []))
    ∷ []

abbrev pub enqueue_wrap_up_barred : List TargetInstr
enqueue_wrap_up_barred =
    Plain (Set n1 0)
    ∷ Plain (IfEq n7 n1 13)
    ∷ Plain (LoadRoot r0 1)
    ∷ Check
    ∷ Plain (LoadField r1 r0 1)
    ∷ Plain (Null r2)
    ∷ Check
    ∷ Plain (IfEq r1 r2 12)
    ∷ Guard r0
    ∷ Guard r1
    ∷ Check
    ∷ Plain (Cas (root_entry 1 r0 r1) 12)
    ∷ Plain (Return n0)
    ∷ Plain Again
    ∷ []

abbrev pub dequeue_barred : List TargetInstr
dequeue_barred =
    Plain (Null r3)
    ∷ Plain (LoadRoot r0 0)
    ∷ Plain (LoadRoot r1 1)
    ∷ Check
    ∷ Plain (LoadField r2 r0 1)
    ∷ Check
    ∷ Plain (IfEq r0 r1 13)
    ∷ Plain (LoadField n1 r2 0)
    ∷ Plain (Set n2 1)
    ∷ Guard r0
    ∷ Guard r2
    ∷ Check
    ∷ Plain (Commit (retiring (root_entry 0 r0 r2) r0 ∷ []))
    ∷ Plain (IfEq r2 r3 19)
    ∷ Guard r1
    ∷ Guard r2
    ∷ Check
    ∷ Plain (Cas (root_entry 1 r1 r2) 1)
    ∷ Plain (Jump 1)
    ∷ Plain (Set n1 0)
    ∷ Plain (Set n2 0)
    ∷ Plain (Commit [])
    ∷ []

pub record QueueRows : Type 0 where
  pub enqueue_compiled : combined enqueue enqueue_generator ≡ enqueue_barred
  pub enqueue_wrap_up_compiled : combined enqueue enqueue_wrap_up ≡ enqueue_wrap_up_barred
  pub dequeue_compiled : combined dequeue dequeue_generator ≡ dequeue_barred
