-- Small targets of the rows, each with the checks and guards that the first scheme of compiling gives: a check after each load and
-- `new`, and before each exchange and commit guards of its references and a check.
use Rattle.std.specs.Prelude.{ℕ, [], ◌∷◌, codes}
use Rattle.norm_lang.specs.declared.text.Instr.TheVariants.{Null, Mark, LoadRoot, LoadField, New, Cas, Commit, Return, ReturnNone}
use Rattle.norm_lang.specs.declared.text.Start.TheVariants as starts
use Rattle.norm_lang.specs.LineWords.{item_kind}
use Rattle.norm_lang.specs.Shipped.{number_field, reference_field, reference_root, root_entry, retiring}
use Rattle.target_code.specs.declared.target.TargetInstr.TheVariants.{Plain, Check, Guard}
use Rattle.target_code.specs.declared.target.TargetOp.{TargetOp}
use Rattle.target_code.specs.declared.target.Target.{Target}
use Rattle.core_rows.specs.Short.{n0, n1, n2, n3, n7, r0, r1, r2, r3, r4, number_root, number_node, field_entry}
use Rattle.core_rows.specs.SmallTargets.{add_target, nop_target}

-- ---- exchanges of a field whose object is retired

-- `cut` takes the second node out of the first, and retires the first, by the list
abbrev pub cut_target : TargetOp
cut_target = record {
  name = codes "cut";
  args = 0;
  generator =
      Plain (LoadRoot r0 0)
      ∷ Check
      ∷ Plain (LoadField r1 r0 0)
      ∷ Check
      ∷ Plain (Null r2)
      ∷ Guard r0
      ∷ Guard r1
      ∷ Guard r2
      ∷ Check
      ∷ Plain (Commit (retiring (field_entry r0 0 r1 r2) r0 ∷ []))
      ∷ [];
  wrapup = Plain (Return n7) ∷ [];
}

-- `snip` does the same by an auxiliary exchange, whose object is marked
abbrev pub snip_target : TargetOp
snip_target = record {
  name = codes "snip";
  args = 0;
  generator =
      Plain (LoadRoot r0 0)
      ∷ Check
      ∷ Plain (LoadField r1 r0 0)
      ∷ Check
      ∷ Plain (Null r2)
      ∷ Plain (Mark r3 r0)
      ∷ Guard r3
      ∷ Guard r1
      ∷ Guard r2
      ∷ Check
      ∷ Plain (Cas (retiring (field_entry r3 0 r1 r2) r3) 0)
      ∷ Plain (Commit [])
      ∷ [];
  wrapup = Plain ReturnNone ∷ [];
}

abbrev pub unlink_target : Target
unlink_target = record {
  kinds = item_kind ∷ [];
  fields = reference_field (codes "next") ∷ [];
  roots = reference_root (codes "top") 1 ∷ [];
  nodes = record { owner = 0; values = starts.Node 2 ∷ [] } ∷ record { owner = 0; values = starts.Node 0 ∷ [] } ∷ [];
  ops = cut_target ∷ snip_target ∷ [];
}

-- ---- a slot that is retired, and a call that wants one

abbrev pub lone_drop_target : TargetOp
lone_drop_target = record {
  name = codes "drop";
  args = 0;
  generator =
      Plain (LoadRoot r0 0)
      ∷ Check
      ∷ Plain (Null r1)
      ∷ Guard r0
      ∷ Guard r1
      ∷ Check
      ∷ Plain (Commit (retiring (root_entry 0 r0 r1) r0 ∷ []))
      ∷ [];
  wrapup = Plain ReturnNone ∷ [];
}

-- `put_in` makes a node, and puts it into an empty root
abbrev pub put_in_target : ℕ → TargetOp
put_in_target root = record {
  name = codes "put_in";
  args = 0;
  generator = Plain (Null r0) ∷ Plain (New r1 0) ∷ Check ∷ Guard r0 ∷ Guard r1 ∷ Check ∷ Plain (Commit (root_entry root r0 r1 ∷ [])) ∷ [];
  wrapup = Plain ReturnNone ∷ [];
}

abbrev pub later_target : Target
later_target = record {
  kinds = item_kind ∷ [];
  fields = number_field (codes "v") ∷ [];
  roots = reference_root (codes "top") 1 ∷ reference_root (codes "spare") 0 ∷ [];
  nodes = number_node 0 ∷ [];
  ops = lone_drop_target ∷ put_in_target 1 ∷ [];
}

-- ---- four `new` in one path, and lists of more than two exchanges

-- `four` makes four nodes, and puts each into a root of its own
abbrev pub four_op_target : TargetOp
four_op_target = record {
  name = codes "four";
  args = 0;
  generator =
      Plain (New r1 0)
      ∷ Check
      ∷ Plain (New r2 0)
      ∷ Check
      ∷ Plain (New r3 0)
      ∷ Check
      ∷ Plain (New r4 0)
      ∷ Check
      ∷ Plain (Null r0)
      ∷ Guard r0
      ∷ Guard r1
      ∷ Guard r2
      ∷ Guard r3
      ∷ Guard r4
      ∷ Check
      ∷ Plain (Commit (root_entry 0 r0 r1 ∷ root_entry 1 r0 r2 ∷ root_entry 2 r0 r3 ∷ root_entry 3 r0 r4 ∷ []))
      ∷ [];
  wrapup = Plain (Return n7) ∷ [];
}

-- `label` makes a node, puts its argument into a root of numbers, and then the node into a root
abbrev pub label_target : TargetOp
label_target = record {
  name = codes "label";
  args = 1;
  generator =
      Plain (New r1 0)
      ∷ Check
      ∷ Plain (LoadRoot n1 4)
      ∷ Check
      ∷ Plain (Null r0)
      ∷ Guard r0
      ∷ Guard r1
      ∷ Check
      ∷ Plain (Commit (root_entry 4 n1 n0 ∷ root_entry 0 r0 r1 ∷ []))
      ∷ [];
  wrapup = Plain (Return n7) ∷ [];
}

abbrev pub four_target : Target
four_target = record {
  kinds = item_kind ∷ [];
  fields = number_field (codes "v") ∷ [];
  roots =
      reference_root (codes "a") 0
      ∷ reference_root (codes "b") 0
      ∷ reference_root (codes "c") 0
      ∷ reference_root (codes "d") 0
      ∷ number_root (codes "x") 0
      ∷ [];
  nodes = [];
  ops = four_op_target ∷ put_in_target 2 ∷ label_target ∷ [];
}

-- ---- three and four fields, three and four arguments

-- `third` and `fourth` reply their last arguments
abbrev pub third_target : TargetOp
third_target = record { name = codes "third"; args = 3; generator = Plain (Commit []) ∷ []; wrapup = Plain (Return n2) ∷ [] }

abbrev pub fourth_target : TargetOp
fourth_target = record { name = codes "fourth"; args = 4; generator = Plain (Commit []) ∷ []; wrapup = Plain (Return n3) ∷ [] }

abbrev pub three_fields_target : Target
three_fields_target = record {
  kinds = item_kind ∷ [];
  fields = number_field (codes "a") ∷ reference_field (codes "b") ∷ number_field (codes "c") ∷ [];
  roots = reference_root (codes "top") 0 ∷ [];
  nodes = [];
  ops = put_in_target 0 ∷ third_target ∷ fourth_target ∷ [];
}

abbrev pub four_fields_target : Target
four_fields_target = record {
  kinds = item_kind ∷ [];
  fields = number_field (codes "a") ∷ reference_field (codes "b") ∷ number_field (codes "c") ∷ reference_field (codes "d") ∷ [];
  roots = reference_root (codes "top") 0 ∷ [];
  nodes = [];
  ops = put_in_target 0 ∷ [];
}

-- ---- a number in a root, and a call that loads it alone

abbrev pub get_target : TargetOp
get_target = record {
  name = codes "get";
  args = 0;
  generator = Plain (LoadRoot n1 0) ∷ Check ∷ Plain (Commit []) ∷ [];
  wrapup = Plain (Return n1) ∷ [];
}

abbrev pub total_target : Target
total_target = record { kinds = item_kind ∷ []; fields = number_field (codes "pad") ∷ []; roots = number_root (codes "total") 0 ∷ []; nodes = []; ops = add_target ∷ nop_target ∷ get_target ∷ [] }
