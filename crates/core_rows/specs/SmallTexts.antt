-- Small texts of the rows. Each is compiled by hand in the module of the targets.
use Rattle.std.specs.Prelude.{[], ◌∷◌, codes}
use Rattle.norm_lang.specs.declared.text.Instr.TheVariants.{Set, Add, Sub, Mark, Null, LoadRoot, LoadPick, LoadField, New, Put, Cas, IfEq, Commit, Return, ReturnNone, Again}
use Rattle.norm_lang.specs.declared.text.Start.TheVariants as starts
use Rattle.norm_lang.specs.declared.text.Op.{Op}
use Rattle.norm_lang.specs.declared.text.Text.{Text}
use Rattle.norm_lang.specs.LineWords.{item_kind}
use Rattle.norm_lang.specs.Shipped.{number_field, reference_field, reference_root, root_entry, retiring}
use Rattle.core_rows.specs.Short.{n0, n1, n2, n3, n7, r0, r1, r2, r3, number_root, number_node, field_entry}

-- ---- a number in a root

-- `add` adds its argument and replies the sum. `nop` does nothing
abbrev pub add_op : Op
add_op = record {
  name = codes "add";
  args = 1;
  generator = LoadRoot n1 0 ∷ Add n2 n1 n0 ∷ Commit (root_entry 0 n1 n2 ∷ []) ∷ [];
  wrapup = Set n3 0 ∷ IfEq n7 n3 3 ∷ Return n2 ∷ Again ∷ [];
}

abbrev pub nop_op : Op
nop_op = record { name = codes "nop"; args = 0; generator = Commit [] ∷ []; wrapup = ReturnNone ∷ [] }

abbrev pub counter_text : Text
counter_text = record { kinds = item_kind ∷ []; fields = number_field (codes "pad") ∷ []; roots = number_root (codes "total") 0 ∷ []; nodes = []; ops = add_op ∷ nop_op ∷ [] }

-- `tally` is `add` whose wrap-up loads the total once more, and replies it
abbrev pub tally_op : Op
tally_op = record {
  name = codes "tally";
  args = 1;
  generator = LoadRoot n1 0 ∷ Add n2 n1 n0 ∷ Commit (root_entry 0 n1 n2 ∷ []) ∷ [];
  wrapup = LoadRoot n1 0 ∷ Set n3 0 ∷ IfEq n7 n3 4 ∷ Return n1 ∷ Again ∷ [];
}

abbrev pub tally_text : Text
tally_text = record { kinds = item_kind ∷ []; fields = number_field (codes "pad") ∷ []; roots = number_root (codes "total") 0 ∷ []; nodes = []; ops = tally_op ∷ [] }

-- `pick` replies the second or the third of three roots; `nulls` tries to exchange a field of no node, by itself and in a list
abbrev pub pick_op : Op
pick_op = record { name = codes "pick"; args = 1; generator = LoadPick n1 1 2 n0 ∷ Commit [] ∷ []; wrapup = Return n1 ∷ [] }

abbrev pub nulls_op : Op
nulls_op = record {
  name = codes "nulls";
  args = 0;
  generator =
      Null r0
      ∷ Set n0 0
      ∷ Set n1 1
      ∷ Cas (field_entry r0 0 n0 n1) 5
      ∷ Set n1 9
      ∷ Commit (field_entry r0 0 n0 n1 ∷ [])
      ∷ [];
  wrapup = Add n2 n1 n7 ∷ Return n2 ∷ [];
}

abbrev pub numbers_text : Text
numbers_text = record {
  kinds = item_kind ∷ [];
  fields = number_field (codes "v") ∷ [];
  roots = number_root (codes "x0") 10 ∷ number_root (codes "x1") 20 ∷ number_root (codes "x2") 30 ∷ [];
  nodes = [];
  ops = pick_op ∷ nulls_op ∷ [];
}

-- ---- a root that is swapped

-- `swap` puts a new node with its argument into the root and retires the old one. Its wrap-up compares the root with the old
-- node, which it therefore keeps, and notes in a second root what it found. It replies the argument and one more
abbrev pub swap_op : Op
swap_op = record {
  name = codes "swap";
  args = 1;
  generator = LoadRoot r0 0 ∷ New r1 0 ∷ Put r1 0 n0 ∷ Commit (retiring (root_entry 0 r0 r1) r0 ∷ []) ∷ [];
  wrapup =
      Add n0 n0 n7
      ∷ LoadRoot r2 0
      ∷ LoadRoot r3 1
      ∷ Cas (root_entry 1 r3 r2) 4
      ∷ Set n1 0
      ∷ IfEq n7 n1 8
      ∷ IfEq r2 r0 8
      ∷ Return n0
      ∷ Again
      ∷ [];
}

-- `peek` loads in its wrap-up alone
abbrev pub peek_op : Op
peek_op = record {
  name = codes "peek";
  args = 0;
  generator = Commit [] ∷ [];
  wrapup = LoadRoot r0 0 ∷ LoadField n1 r0 0 ∷ Return n1 ∷ [];
}

abbrev pub swap_text : Text
swap_text = record {
  kinds = item_kind ∷ [];
  fields = number_field (codes "v") ∷ [];
  roots = reference_root (codes "top") 1 ∷ reference_root (codes "noted") 0 ∷ [];
  nodes = number_node 40 ∷ [];
  ops = swap_op ∷ peek_op ∷ [];
}

-- ---- a list of two exchanges, each of which retires

-- `drop` takes the nodes out of both roots, `drop_right` out of the second alone. Both reply how many exchanges succeeded
abbrev pub drop_op : Op
drop_op = record {
  name = codes "drop";
  args = 0;
  generator = LoadRoot r0 0 ∷ LoadRoot r1 1 ∷ Null r2 ∷ Commit (retiring (root_entry 0 r0 r2) r0 ∷ retiring (root_entry 1 r1 r2) r1 ∷ []) ∷ [];
  wrapup = Return n7 ∷ [];
}

abbrev pub drop_right_op : Op
drop_right_op = record {
  name = codes "drop_right";
  args = 0;
  generator = LoadRoot r1 1 ∷ Null r2 ∷ Commit (retiring (root_entry 1 r1 r2) r1 ∷ []) ∷ [];
  wrapup = Return n7 ∷ [];
}

abbrev pub drops_text : Text
drops_text = record {
  kinds = item_kind ∷ [];
  fields = number_field (codes "v") ∷ [];
  roots = reference_root (codes "left") 1 ∷ reference_root (codes "right") 2 ∷ [];
  nodes = number_node 0 ∷ number_node 0 ∷ [];
  ops = drop_op ∷ drop_right_op ∷ [];
}

-- ---- two `new` in branches

-- `fill` makes a node in one of two branches: for 0 in the second, else in the first. A root that is full stays
abbrev pub fill_op : Op
fill_op = record {
  name = codes "fill";
  args = 1;
  generator =
      Null r0
      ∷ Set n1 0
      ∷ IfEq n0 n1 5
      ∷ New r1 0
      ∷ Commit (root_entry 0 r0 r1 ∷ [])
      ∷ New r2 0
      ∷ Commit (root_entry 1 r0 r2 ∷ [])
      ∷ [];
  wrapup = Return n7 ∷ [];
}

abbrev pub branches_text : Text
branches_text = record {
  kinds = item_kind ∷ [];
  fields = number_field (codes "v") ∷ [];
  roots = reference_root (codes "empty") 0 ∷ reference_root (codes "full") 1 ∷ [];
  nodes = number_node 0 ∷ [];
  ops = fill_op ∷ [];
}

-- ---- a text that isn't proper: a root goes on to hold a node that was retired

-- `renew` puts a new node into the first root and retires the old one. `copy` puts the first root's node into the second.
-- `hold` makes a node, and puts what the second root has into the first by an auxiliary exchange. `late` makes its node
-- after an auxiliary exchange
abbrev pub renew_op : Op
renew_op = record {
  name = codes "renew";
  args = 0;
  generator = LoadRoot r0 0 ∷ New r1 0 ∷ Commit (retiring (root_entry 0 r0 r1) r0 ∷ []) ∷ [];
  wrapup = Return n7 ∷ [];
}

abbrev pub copy_op : Op
copy_op = record {
  name = codes "copy";
  args = 0;
  generator = LoadRoot r0 0 ∷ LoadRoot r1 1 ∷ Cas (root_entry 1 r1 r0) 3 ∷ Commit [] ∷ [];
  wrapup = ReturnNone ∷ [];
}

abbrev pub hold_op : Op
hold_op = record {
  name = codes "hold";
  args = 0;
  generator = LoadRoot r0 0 ∷ LoadRoot r2 1 ∷ New r1 0 ∷ Cas (root_entry 0 r0 r2) 4 ∷ Commit [] ∷ [];
  wrapup = ReturnNone ∷ [];
}

abbrev pub late_op : Op
late_op = record {
  name = codes "late";
  args = 0;
  generator = LoadRoot r0 0 ∷ Cas (root_entry 0 r0 r0) 2 ∷ New r1 0 ∷ Commit (retiring (root_entry 0 r0 r1) r0 ∷ []) ∷ [];
  wrapup = Return n7 ∷ [];
}

abbrev pub stale_text : Text
stale_text = record {
  kinds = item_kind ∷ [];
  fields = number_field (codes "v") ∷ [];
  roots = reference_root (codes "first") 1 ∷ reference_root (codes "second") 0 ∷ [];
  nodes = number_node 0 ∷ [];
  ops = renew_op ∷ copy_op ∷ hold_op ∷ late_op ∷ [];
}

-- ---- generators and wrap-ups that count their argument up

-- `press` adds 1 to its argument, makes its node after an auxiliary exchange, and puts it in place of the old one. Its
-- wrap-up adds 1 once more, and keeps the old node
abbrev pub press_op : Op
press_op = record {
  name = codes "press";
  args = 1;
  generator =
      Set n2 1
      ∷ Add n0 n0 n2
      ∷ LoadRoot r0 0
      ∷ Cas (root_entry 0 r0 r0) 4
      ∷ New r1 0
      ∷ Put r1 0 n0
      ∷ Commit (retiring (root_entry 0 r0 r1) r0 ∷ [])
      ∷ [];
  wrapup =
      Add n0 n0 n2
      ∷ Set n3 0
      ∷ IfEq n7 n3 6
      ∷ LoadRoot r2 0
      ∷ IfEq r2 r0 6
      ∷ Return n0
      ∷ Again
      ∷ [];
}

abbrev pub press_text : Text
press_text = record { kinds = item_kind ∷ []; fields = number_field (codes "v") ∷ []; roots = reference_root (codes "top") 1 ∷ []; nodes = number_node 0 ∷ []; ops = press_op ∷ [] }

-- ---- exchanges alone

-- `touch` makes but an exchange in its wrap-up, and `nudge` one on null. `twice` makes two auxiliary exchanges, and `free` one
-- that is to retire null
abbrev pub touch_op : Op
touch_op = record { name = codes "touch"; args = 0; generator = Commit [] ∷ []; wrapup = Set n0 0 ∷ Cas (root_entry 0 n0 n0) 2 ∷ ReturnNone ∷ [] }

abbrev pub nudge_op : Op
nudge_op = record {
  name = codes "nudge";
  args = 0;
  generator = Commit [] ∷ [];
  wrapup = Null r0 ∷ Set n0 0 ∷ Cas (field_entry r0 0 n0 n0) 3 ∷ ReturnNone ∷ [];
}

abbrev pub twice_op : Op
twice_op = record {
  name = codes "twice";
  args = 0;
  generator = LoadRoot r0 1 ∷ Cas (root_entry 1 r0 r0) 2 ∷ Cas (root_entry 1 r0 r0) 3 ∷ Commit [] ∷ [];
  wrapup = ReturnNone ∷ [];
}

abbrev pub free_op : Op
free_op = record {
  name = codes "free";
  args = 0;
  generator = LoadRoot r0 2 ∷ Cas (retiring (root_entry 2 r0 r0) r0) 2 ∷ Commit [] ∷ [];
  wrapup = ReturnNone ∷ [];
}

abbrev pub touch_text : Text
touch_text = record {
  kinds = item_kind ∷ [];
  fields = number_field (codes "v") ∷ [];
  roots = number_root (codes "x") 0 ∷ reference_root (codes "full") 1 ∷ reference_root (codes "empty") 0 ∷ [];
  nodes = number_node 0 ∷ [];
  ops = touch_op ∷ nudge_op ∷ twice_op ∷ free_op ∷ [];
}

-- ---- two fields, two nodes, two arguments, and marks

-- `second` replies the second node's number, `less` its first argument less its second. `marks` uses a marked reference as a
-- base, as an object and as what it compares, and marked null as an object
abbrev pub second_op : Op
second_op = record {
  name = codes "second";
  args = 0;
  generator = LoadRoot r0 0 ∷ LoadField r1 r0 1 ∷ LoadField n0 r1 0 ∷ Commit [] ∷ [];
  wrapup = Return n0 ∷ [];
}

abbrev pub less_op : Op
less_op = record { name = codes "less"; args = 2; generator = Commit [] ∷ []; wrapup = Sub n2 n0 n1 ∷ Return n2 ∷ [] }

abbrev pub marks_op : Op
marks_op = record {
  name = codes "marks";
  args = 0;
  generator =
      LoadRoot r0 0
      ∷ Mark r1 r0
      ∷ LoadField n0 r1 0
      ∷ Set n1 8
      ∷ Cas (field_entry r1 0 n0 n1) 5
      ∷ Cas (root_entry 0 r1 r0) 7
      ∷ Set n1 9
      ∷ Null r2
      ∷ Mark r2 r2
      ∷ Commit (field_entry r2 0 n0 n0 ∷ [])
      ∷ [];
  wrapup = Return n1 ∷ [];
}

abbrev pub pair_text : Text
pair_text = record {
  kinds = item_kind ∷ [];
  fields = number_field (codes "v") ∷ reference_field (codes "next") ∷ [];
  roots = reference_root (codes "top") 1 ∷ [];
  nodes = record { owner = 0; values = starts.Value 7 ∷ starts.Node 2 ∷ [] } ∷ record { owner = 0; values = starts.Value 9 ∷ starts.Node 0 ∷ [] } ∷ [];
  ops = second_op ∷ less_op ∷ marks_op ∷ [];
}
