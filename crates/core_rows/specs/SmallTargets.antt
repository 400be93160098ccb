-- The small texts compiled by hand by the first scheme: a check after each load and `new`, and before each exchange and
-- commit guards of its references and a check.
use Rattle.std.specs.Prelude.{[], ◌∷◌, codes}
use Rattle.norm_lang.specs.declared.text.Instr.TheVariants.{Set, Add, Sub, Mark, Null, LoadRoot, LoadPick, LoadField, New, Put, Cas, IfEq, Commit, Return, ReturnNone, Again}
use Rattle.norm_lang.specs.declared.text.Start.TheVariants as starts
use Rattle.norm_lang.specs.LineWords.{item_kind}
use Rattle.norm_lang.specs.Shipped.{number_field, reference_field, reference_root, root_entry, retiring}
use Rattle.target_code.specs.declared.target.TargetInstr.TheVariants.{Plain, Check, Guard}
use Rattle.target_code.specs.declared.target.TargetOp.{TargetOp}
use Rattle.target_code.specs.declared.target.Target.{Target}
use Rattle.core_rows.specs.Short.{n0, n1, n2, n3, n7, r0, r1, r2, r3, number_root, number_node, field_entry}

abbrev pub add_target : TargetOp
add_target = record {
  name = codes "add";
  args = 1;
  generator = Plain (LoadRoot n1 0) ∷ Check ∷ Plain (Add n2 n1 n0) ∷ Plain (Commit (root_entry 0 n1 n2 ∷ [])) ∷ [];
  wrapup = Plain (Set n3 0) ∷ Plain (IfEq n7 n3 3) ∷ Plain (Return n2) ∷ Plain Again ∷ [];
}

abbrev pub nop_target : TargetOp
nop_target = record { name = codes "nop"; args = 0; generator = Plain (Commit []) ∷ []; wrapup = Plain ReturnNone ∷ [] }

abbrev pub counter_target : Target
counter_target = record { kinds = item_kind ∷ []; fields = number_field (codes "pad") ∷ []; roots = number_root (codes "total") 0 ∷ []; nodes = []; ops = add_target ∷ nop_target ∷ [] }

abbrev pub tally_target : Target
tally_target = record {
  kinds = item_kind ∷ [];
  fields = number_field (codes "pad") ∷ [];
  roots = number_root (codes "total") 0 ∷ [];
  nodes = [];
  ops = record {
    name = codes "tally";
    args = 1;
    generator = Plain (LoadRoot n1 0) ∷ Check ∷ Plain (Add n2 n1 n0) ∷ Plain (Commit (root_entry 0 n1 n2 ∷ [])) ∷ [];
    wrapup = Plain (LoadRoot n1 0) ∷ Check ∷ Plain (Set n3 0) ∷ Plain (IfEq n7 n3 5) ∷ Plain (Return n1) ∷ Plain Again ∷ [];
  } ∷ [];
}

abbrev pub pick_target : TargetOp
pick_target = record { name = codes "pick"; args = 1; generator = Plain (LoadPick n1 1 2 n0) ∷ Check ∷ Plain (Commit []) ∷ []; wrapup = Plain (Return n1) ∷ [] }

abbrev pub nulls_target : TargetOp
nulls_target = record {
  name = codes "nulls";
  args = 0;
  generator =
      Plain (Null r0)
      ∷ Plain (Set n0 0)
      ∷ Plain (Set n1 1)
      ∷ Guard r0
      ∷ Check
      ∷ Plain (Cas (field_entry r0 0 n0 n1) 7)
      ∷ Plain (Set n1 9)
      ∷ Guard r0
      ∷ Check
      ∷ Plain (Commit (field_entry r0 0 n0 n1 ∷ []))
      ∷ [];
  wrapup = Plain (Add n2 n1 n7) ∷ Plain (Return n2) ∷ [];
}

abbrev pub numbers_target : Target
numbers_target = record {
  kinds = item_kind ∷ [];
  fields = number_field (codes "v") ∷ [];
  roots = number_root (codes "x0") 10 ∷ number_root (codes "x1") 20 ∷ number_root (codes "x2") 30 ∷ [];
  nodes = [];
  ops = pick_target ∷ nulls_target ∷ [];
}

-- r0 is kept, and guarded for that reason too
abbrev pub swap_target_op : TargetOp
swap_target_op = record {
  name = codes "swap";
  args = 1;
  generator =
      Plain (LoadRoot r0 0)
      ∷ Check
      ∷ Plain (New r1 0)
      ∷ Check
      ∷ Plain (Put r1 0 n0)
      ∷ Guard r0
      ∷ Guard r1
      ∷ Check
      ∷ Plain (Commit (retiring (root_entry 0 r0 r1) r0 ∷ []))
      ∷ [];
  wrapup =
      Plain (Add n0 n0 n7)
      ∷ Plain (LoadRoot r2 0)
      ∷ Check
      ∷ Plain (LoadRoot r3 1)
      ∷ Check
      ∷ Guard r3
      ∷ Guard r2
      ∷ Check
      ∷ Plain (Cas (root_entry 1 r3 r2) 9)
      ∷ Plain (Set n1 0)
      ∷ Plain (IfEq n7 n1 13)
      ∷ Plain (IfEq r2 r0 13)
      ∷ Plain (Return n0)
      ∷ Plain Again
      ∷ [];
}

abbrev pub peek_target : TargetOp
peek_target = record {
  name = codes "peek";
  args = 0;
  generator = Plain (Commit []) ∷ [];
  wrapup = Plain (LoadRoot r0 0) ∷ Check ∷ Plain (LoadField n1 r0 0) ∷ Check ∷ Plain (Return n1) ∷ [];
}

abbrev pub swap_target : Target
swap_target = record {
  kinds = item_kind ∷ [];
  fields = number_field (codes "v") ∷ [];
  roots = reference_root (codes "top") 1 ∷ reference_root (codes "noted") 0 ∷ [];
  nodes = number_node 40 ∷ [];
  ops = swap_target_op ∷ peek_target ∷ [];
}

abbrev pub drop_target : TargetOp
drop_target = record {
  name = codes "drop";
  args = 0;
  generator =
      Plain (LoadRoot r0 0)
      ∷ Check
      ∷ Plain (LoadRoot r1 1)
      ∷ Check
      ∷ Plain (Null r2)
      ∷ Guard r0
      ∷ Guard r2
      ∷ Guard r1
      ∷ Check
      ∷ Plain (Commit (retiring (root_entry 0 r0 r2) r0 ∷ retiring (root_entry 1 r1 r2) r1 ∷ []))
      ∷ [];
  wrapup = Plain (Return n7) ∷ [];
}

abbrev pub drop_right_target : TargetOp
drop_right_target = record {
  name = codes "drop_right";
  args = 0;
  generator =
      Plain (LoadRoot r1 1)
      ∷ Check
      ∷ Plain (Null r2)
      ∷ Guard r1
      ∷ Guard r2
      ∷ Check
      ∷ Plain (Commit (retiring (root_entry 1 r1 r2) r1 ∷ []))
      ∷ [];
  wrapup = Plain (Return n7) ∷ [];
}

abbrev pub drops_target : Target
drops_target = record {
  kinds = item_kind ∷ [];
  fields = number_field (codes "v") ∷ [];
  roots = reference_root (codes "left") 1 ∷ reference_root (codes "right") 2 ∷ [];
  nodes = number_node 0 ∷ number_node 0 ∷ [];
  ops = drop_target ∷ drop_right_target ∷ [];
}

abbrev pub fill_target : TargetOp
fill_target = record {
  name = codes "fill";
  args = 1;
  generator =
      Plain (Null r0)
      ∷ Plain (Set n1 0)
      ∷ Plain (IfEq n0 n1 9)
      ∷ Plain (New r1 0)
      ∷ Check
      ∷ Guard r0
      ∷ Guard r1
      ∷ Check
      ∷ Plain (Commit (root_entry 0 r0 r1 ∷ []))
      ∷ Plain (New r2 0)
      ∷ Check
      ∷ Guard r0
      ∷ Guard r2
      ∷ Check
      ∷ Plain (Commit (root_entry 1 r0 r2 ∷ []))
      ∷ [];
  wrapup = Plain (Return n7) ∷ [];
}

abbrev pub branches_target : Target
branches_target = record {
  kinds = item_kind ∷ [];
  fields = number_field (codes "v") ∷ [];
  roots = reference_root (codes "empty") 0 ∷ reference_root (codes "full") 1 ∷ [];
  nodes = number_node 0 ∷ [];
  ops = fill_target ∷ [];
}

abbrev pub renew_target : TargetOp
renew_target = record {
  name = codes "renew";
  args = 0;
  generator =
      Plain (LoadRoot r0 0)
      ∷ Check
      ∷ Plain (New r1 0)
      ∷ Check
      ∷ Guard r0
      ∷ Guard r1
      ∷ Check
      ∷ Plain (Commit (retiring (root_entry 0 r0 r1) r0 ∷ []))
      ∷ [];
  wrapup = Plain (Return n7) ∷ [];
}

abbrev pub copy_target : TargetOp
copy_target = record {
  name = codes "copy";
  args = 0;
  generator =
      Plain (LoadRoot r0 0)
      ∷ Check
      ∷ Plain (LoadRoot r1 1)
      ∷ Check
      ∷ Guard r1
      ∷ Guard r0
      ∷ Check
      ∷ Plain (Cas (root_entry 1 r1 r0) 8)
      ∷ Plain (Commit [])
      ∷ [];
  wrapup = Plain ReturnNone ∷ [];
}

abbrev pub hold_target : TargetOp
hold_target = record {
  name = codes "hold";
  args = 0;
  generator =
      Plain (LoadRoot r0 0)
      ∷ Check
      ∷ Plain (LoadRoot r2 1)
      ∷ Check
      ∷ Plain (New r1 0)
      ∷ Check
      ∷ Guard r0
      ∷ Guard r2
      ∷ Check
      ∷ Plain (Cas (root_entry 0 r0 r2) 10)
      ∷ Plain (Commit [])
      ∷ [];
  wrapup = Plain ReturnNone ∷ [];
}

abbrev pub late_target : TargetOp
late_target = record {
  name = codes "late";
  args = 0;
  generator =
      Plain (LoadRoot r0 0)
      ∷ Check
      ∷ Guard r0
      ∷ Check
      ∷ Plain (Cas (root_entry 0 r0 r0) 5)
      ∷ Plain (New r1 0)
      ∷ Check
      ∷ Guard r0
      ∷ Guard r1
      ∷ Check
      ∷ Plain (Commit (retiring (root_entry 0 r0 r1) r0 ∷ []))
      ∷ [];
  wrapup = Plain (Return n7) ∷ [];
}

abbrev pub stale_target : Target
stale_target = record {
  kinds = item_kind ∷ [];
  fields = number_field (codes "v") ∷ [];
  roots = reference_root (codes "first") 1 ∷ reference_root (codes "second") 0 ∷ [];
  nodes = number_node 0 ∷ [];
  ops = renew_target ∷ copy_target ∷ hold_target ∷ late_target ∷ [];
}

abbrev pub press_target : Target
press_target = record {
  kinds = item_kind ∷ [];
  fields = number_field (codes "v") ∷ [];
  roots = reference_root (codes "top") 1 ∷ [];
  nodes = number_node 0 ∷ [];
  ops = record {
    name = codes "press";
    args = 1;
    generator =
        Plain (Set n2 1)
        ∷ Plain (Add n0 n0 n2)
        ∷ Plain (LoadRoot r0 0)
        ∷ Check
        ∷ Guard r0
        ∷ Check
        ∷ Plain (Cas (root_entry 0 r0 r0) 7)
        ∷ Plain (New r1 0)
        ∷ Check
        ∷ Plain (Put r1 0 n0)
        ∷ Guard r0
        ∷ Guard r1
        ∷ Check
        ∷ Plain (Commit (retiring (root_entry 0 r0 r1) r0 ∷ []))
        ∷ [];
    wrapup =
        Plain (Add n0 n0 n2)
        ∷ Plain (Set n3 0)
        ∷ Plain (IfEq n7 n3 7)
        ∷ Plain (LoadRoot r2 0)
        ∷ Check
        ∷ Plain (IfEq r2 r0 7)
        ∷ Plain (Return n0)
        ∷ Plain Again
        ∷ [];
  } ∷ [];
}

abbrev pub touch_target_op : TargetOp
touch_target_op = record {
  name = codes "touch";
  args = 0;
  generator = Plain (Commit []) ∷ [];
  wrapup = Plain (Set n0 0) ∷ Plain (Cas (root_entry 0 n0 n0) 2) ∷ Plain ReturnNone ∷ [];
}

abbrev pub nudge_target : TargetOp
nudge_target = record {
  name = codes "nudge";
  args = 0;
  generator = Plain (Commit []) ∷ [];
  wrapup = Plain (Null r0) ∷ Plain (Set n0 0) ∷ Guard r0 ∷ Check ∷ Plain (Cas (field_entry r0 0 n0 n0) 5) ∷ Plain ReturnNone ∷ [];
}

abbrev pub twice_target : TargetOp
twice_target = record {
  name = codes "twice";
  args = 0;
  generator =
      Plain (LoadRoot r0 1)
      ∷ Check
      ∷ Guard r0
      ∷ Check
      ∷ Plain (Cas (root_entry 1 r0 r0) 5)
      ∷ Guard r0
      ∷ Check
      ∷ Plain (Cas (root_entry 1 r0 r0) 8)
      ∷ Plain (Commit [])
      ∷ [];
  wrapup = Plain ReturnNone ∷ [];
}

abbrev pub free_target : TargetOp
free_target = record {
  name = codes "free";
  args = 0;
  generator = Plain (LoadRoot r0 2) ∷ Check ∷ Guard r0 ∷ Check ∷ Plain (Cas (retiring (root_entry 2 r0 r0) r0) 5) ∷ Plain (Commit []) ∷ [];
  wrapup = Plain ReturnNone ∷ [];
}

abbrev pub touch_target : Target
touch_target = record {
  kinds = item_kind ∷ [];
  fields = number_field (codes "v") ∷ [];
  roots = number_root (codes "x") 0 ∷ reference_root (codes "full") 1 ∷ reference_root (codes "empty") 0 ∷ [];
  nodes = number_node 0 ∷ [];
  ops = touch_target_op ∷ nudge_target ∷ twice_target ∷ free_target ∷ [];
}

abbrev pub second_target : TargetOp
second_target = record {
  name = codes "second";
  args = 0;
  generator = Plain (LoadRoot r0 0) ∷ Check ∷ Plain (LoadField r1 r0 1) ∷ Check ∷ Plain (LoadField n0 r1 0) ∷ Check ∷ Plain (Commit []) ∷ [];
  wrapup = Plain (Return n0) ∷ [];
}

abbrev pub less_target : TargetOp
less_target = record { name = codes "less"; args = 2; generator = Plain (Commit []) ∷ []; wrapup = Plain (Sub n2 n0 n1) ∷ Plain (Return n2) ∷ [] }

abbrev pub marks_target : TargetOp
marks_target = record {
  name = codes "marks";
  args = 0;
  generator =
      Plain (LoadRoot r0 0)
      ∷ Check
      ∷ Plain (Mark r1 r0)
      ∷ Plain (LoadField n0 r1 0)
      ∷ Check
      ∷ Plain (Set n1 8)
      ∷ Guard r1
      ∷ Check
      ∷ Plain (Cas (field_entry r1 0 n0 n1) 9)
      ∷ Guard r1
      ∷ Guard r0
      ∷ Check
      ∷ Plain (Cas (root_entry 0 r1 r0) 14)
      ∷ Plain (Set n1 9)
      ∷ Plain (Null r2)
      ∷ Plain (Mark r2 r2)
      ∷ Guard r2
      ∷ Check
      ∷ Plain (Commit (field_entry r2 0 n0 n0 ∷ []))
      ∷ [];
  wrapup = Plain (Return n1) ∷ [];
}

abbrev pub pair_target : Target
pair_target = record {
  kinds = item_kind ∷ [];
  fields = number_field (codes "v") ∷ reference_field (codes "next") ∷ [];
  roots = reference_root (codes "top") 1 ∷ [];
  nodes = record { owner = 0; values = starts.Value 7 ∷ starts.Node 2 ∷ [] } ∷ record { owner = 0; values = starts.Value 9 ∷ starts.Node 0 ∷ [] } ∷ [];
  ops = second_target ∷ less_target ∷ marks_target ∷ [];
}
