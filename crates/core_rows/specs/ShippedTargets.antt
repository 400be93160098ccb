-- The shipped list and queue compiled by hand by the first scheme.
use Rattle.std.specs.Prelude.{ℕ, List, [], ◌∷◌, ◌++◌, codes}
use Rattle.norm_lang.specs.declared.text.Instr.TheVariants.{Set, Mov, Mark, Unmark, Null, LoadRoot, LoadPick, LoadField, New, Put, Cas, Jump, IfEq, IfLess, IfMarked, Commit, Return, ReturnNone, Again}
use Rattle.norm_lang.specs.Shipped.{number_field, reference_field, reference_root, sentinel, root_entry, next_entry, retiring}
use Rattle.norm_lang.specs.LineWords.{item_kind}
use Rattle.target_code.specs.declared.target.TargetInstr.{TargetInstr}
use Rattle.target_code.specs.declared.target.TargetInstr.TheVariants.{Plain, Check, Guard}
use Rattle.target_code.specs.declared.target.TargetOp.{TargetOp}
use Rattle.target_code.specs.declared.target.Target.{Target}
use Rattle.core_rows.specs.Short.{n0, n1, n2, n3, n7, r0, r1, r2, r3, r4, r5, r6}

-- the search for a key: 24 instructions, which go to one place if no node has the key, and to another if one has it
abbrev pub search_target : ℕ → ℕ → List TargetInstr
search_target absent present =
    Plain (Null r5)
    ∷ Plain (LoadPick r0 0 1 n0)
    ∷ Check
    ∷ Plain (LoadField r1 r0 1)
    ∷ Check
    ∷ Plain (IfEq r1 r5 absent)
    ∷ Plain (LoadField r2 r1 1)
    ∷ Check
    ∷ Plain (IfMarked r2 16)
    ∷ Plain (LoadField n1 r1 0)
    ∷ Check
    ∷ Plain (IfLess n0 n1 absent)
    ∷ Plain (IfEq n0 n1 present)
    ∷ Plain (Mov r0 r1)
    ∷ Plain (Mov r1 r2)
    ∷ Plain (Jump 5)
    ∷ Plain (Unmark r3 r2)
    ∷ Guard r0
    ∷ Guard r1
    ∷ Guard r3
    ∷ Check
    ∷ Plain (Cas (retiring (next_entry r0 r1 r3) r1) 1)
    ∷ Plain (Mov r1 r3)
    ∷ Plain (Jump 5)
    ∷ []

abbrev pub change_target : List TargetInstr
change_target =
    Plain (Set n3 0)
    ∷ Plain (IfEq n2 n3 4)
    ∷ Plain (IfEq n7 n3 5)
    ∷ Plain (Return n2)
    ∷ Plain (Return n3)
    ∷ Plain Again
    ∷ []

abbrev pub insert_target : TargetOp
insert_target = record {
  name = codes "insert";
  args = 1;
  generator = search_target 24 34 ++ (
      Plain (Set n2 1)
      ∷ Plain (New r4 0)
      ∷ Check
      ∷ Plain (Put r4 0 n0)
      ∷ Plain (Put r4 1 r1)
      ∷ Guard r0
      ∷ Guard r1
      ∷ Guard r4
      ∷ Check
      ∷ Plain (Commit (next_entry r0 r1 r4 ∷ []))
      ∷ Plain (Set n2 0)
      ∷ Plain (Commit [])
      ∷ []);
  wrapup = change_target;
}

abbrev pub remove_target : TargetOp
remove_target = record {
  name = codes "remove";
  args = 1;
  generator = search_target 32 24 ++ (
      Plain (Mark r6 r2)
      ∷ Plain (Set n2 1)
      ∷ Guard r1
      ∷ Guard r2
      ∷ Guard r6
      ∷ Guard r0
      ∷ Check
      ∷ Plain (Commit (next_entry r1 r2 r6 ∷ retiring (next_entry r0 r1 r2) r1 ∷ []))
      ∷ Plain (Set n2 0)
      ∷ Plain (Commit [])
      ∷ []);
  wrapup = change_target;
}

abbrev pub contains_target : TargetOp
contains_target = record {
  name = codes "contains";
  args = 1;
  generator = search_target 26 24 ++ (Plain (Set n2 1) ∷ Plain (Commit []) ∷ Plain (Set n2 0) ∷ Plain (Commit []) ∷ []);
  wrapup = Plain (Return n2) ∷ [];
}

-- the list: operations 0 insert, 1 remove, 2 contains
abbrev pub list_target : Target
list_target = record {
  kinds = item_kind ∷ [];
  fields = number_field (codes "key") ∷ reference_field (codes "next") ∷ [];
  roots = reference_root (codes "b0") 1 ∷ [];
  nodes = sentinel ∷ [];
  ops = insert_target ∷ remove_target ∷ contains_target ∷ [];
}

abbrev pub enqueue_target : TargetOp
enqueue_target = record {
  name = codes "enqueue";
  args = 1;
  generator =
      Plain (LoadRoot r0 1)
      ∷ Check
      ∷ Plain (LoadField r1 r0 1)
      ∷ Check
      ∷ Plain (Null r2)
      ∷ Plain (IfEq r1 r2 11)
      ∷ Guard r0
      ∷ Guard r1
      ∷ Check
      ∷ Plain (Cas (root_entry 1 r0 r1) 0)
      ∷ Plain (Jump 0)
      ∷ Plain (New r3 0)
      ∷ Check
      ∷ Plain (Put r3 0 n0)
      ∷ Guard r0
      ∷ Guard r2
      ∷ Guard r3
      ∷ Check
      ∷ Plain (Commit (next_entry r0 r2 r3 ∷ []))
      ∷ [];
  wrapup =
      Plain (Set n1 0)
      ∷ Plain (IfEq n7 n1 13)
      ∷ Plain (LoadRoot r0 1)
      ∷ Check
      ∷ Plain (LoadField r1 r0 1)
      ∷ Check
      ∷ Plain (Null r2)
      ∷ Plain (IfEq r1 r2 12)
      ∷ Guard r0
      ∷ Guard r1
      ∷ Check
      ∷ Plain (Cas (root_entry 1 r0 r1) 12)
      ∷ Plain (Return n0)
      ∷ Plain Again
      ∷ [];
}

abbrev pub dequeue_target : TargetOp
dequeue_target = record {
  name = codes "dequeue";
  args = 0;
  generator =
      Plain (Null r3)
      ∷ Plain (LoadRoot r0 0)
      ∷ Check
      ∷ Plain (LoadRoot r1 1)
      ∷ Check
      ∷ Plain (LoadField r2 r0 1)
      ∷ Check
      ∷ Plain (IfEq r0 r1 15)
      ∷ Plain (LoadField n1 r2 0)
      ∷ Check
      ∷ Plain (Set n2 1)
      ∷ Guard r0
      ∷ Guard r2
      ∷ Check
      ∷ Plain (Commit (retiring (root_entry 0 r0 r2) r0 ∷ []))
      ∷ Plain (IfEq r2 r3 21)
      ∷ Guard r1
      ∷ Guard r2
      ∷ Check
      ∷ Plain (Cas (root_entry 1 r1 r2) 1)
      ∷ Plain (Jump 1)
      ∷ Plain (Set n1 0)
      ∷ Plain (Set n2 0)
      ∷ Plain (Commit [])
      ∷ [];
  wrapup =
      Plain (Set n3 0)
      ∷ Plain (IfEq n2 n3 4)
      ∷ Plain (IfEq n7 n3 5)
      ∷ Plain (Return n1)
      ∷ Plain ReturnNone
      ∷ Plain Again
      ∷ [];
}

-- the queue: operations 0 enqueue, 1 dequeue
abbrev pub queue_target : Target
queue_target = record {
  kinds = item_kind ∷ [];
  fields = number_field (codes "value") ∷ reference_field (codes "next") ∷ [];
  roots = reference_root (codes "head") 1 ∷ reference_root (codes "tail") 1 ∷ [];
  nodes = sentinel ∷ [];
  ops = enqueue_target ∷ dequeue_target ∷ [];
}
