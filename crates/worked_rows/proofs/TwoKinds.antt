-- The rows of a text of two kinds of nodes, each computed from the machine's definitions.
use Rattle.std.specs.Prelude.{◌≡◌, [], ◌∷◌, Some, None, refl}
use Rattle.source_machine.specs.declared.event.SourceEvent.TheVariants.{Access}
use Rattle.norm_lang.specs.declared.reply.SourceReply.TheVariants as replies
use Rattle.source_machine.specs.declared.state.Value.TheVariants.{Number}
use Rattle.source_machine.specs.Memory.{kind_of_node}
use Rattle.worked_rows.specs.Runs.{Replies, nodes_after, roots_after, begins, to_node}
use Rattle.worked_rows.specs.TwoKindRows.{key, next, one, left, other, an_item, a_pair, first_item, last_pair, first_three, makes_pair, makes_item, loads_number, loads_item, loads_other, number_through_null, reference_through_null, exchanges_number, exchanges_item, TwoKindRows}

first_nodes : nodes_after makes_pair [] ≡ Some first_three
first_nodes = refl

kind_of_item : kind_of_node 1 first_three ≡ Some 0
kind_of_item = refl

kind_of_pair : kind_of_node 2 first_three ≡ Some 1
kind_of_pair = refl

kind_of_last : kind_of_node 3 first_three ≡ Some 1
kind_of_last = refl

null_has_no_kind : kind_of_node 0 first_three ≡ None
null_has_no_kind = refl

unused_has_no_kind : kind_of_node 4 first_three ≡ None
unused_has_no_kind = refl

new_pair : nodes_after makes_pair (begins 0 5 ∷ Access 0 0 ∷ Access 0 7 ∷ [])
    ≡ Some (record { name = 7; kind = 1; values = to_node 0 ∷ Number 0 ∷ to_node 0 ∷ [] } ∷ first_three)
new_pair = refl

new_item : nodes_after makes_item (begins 0 5 ∷ Access 0 0 ∷ Access 0 7 ∷ [])
    ≡ Some (record { name = 7; kind = 0; values = Number 0 ∷ to_node 0 ∷ [] } ∷ first_three)
new_item = refl

number_put : nodes_after makes_pair (begins 0 5 ∷ Access 0 0 ∷ Access 0 7 ∷ Access 0 0 ∷ [])
    ≡ Some (record { name = 7; kind = 1; values = to_node 0 ∷ Number 5 ∷ to_node 0 ∷ [] } ∷ first_three)
number_put = refl

item_put : nodes_after makes_pair (begins 0 5 ∷ Access 0 0 ∷ Access 0 7 ∷ Access 0 0 ∷ Access 0 0 ∷ [])
    ≡ Some (record { name = 7; kind = 1; values = to_node 1 ∷ Number 5 ∷ to_node 0 ∷ [] } ∷ first_three)
item_put = refl

next_put : nodes_after makes_item (begins 0 5 ∷ Access 0 0 ∷ Access 0 7 ∷ Access 0 0 ∷ [])
    ≡ Some (record { name = 7; kind = 0; values = Number 0 ∷ to_node 1 ∷ [] } ∷ first_three)
next_put = refl

pair_made : roots_after makes_pair (begins 0 5 ∷ Access 0 0 ∷ Access 0 7 ∷ Access 0 0 ∷ Access 0 0 ∷ Access 0 0 ∷ [])
    ≡ Some (to_node 1 ∷ to_node 2 ∷ to_node 7 ∷ [])
pair_made = refl

number_loaded : Replies loads_number 0 3 (replies.Number 6)
number_loaded = refl

item_loaded : Replies loads_item 0 4 (replies.Number 2)
item_loaded = refl

other_loaded : Replies loads_other 0 4 (replies.Number 8)
other_loaded = refl

number_exchanged : nodes_after exchanges_number (begins 0 5 ∷ Access 0 0 ∷ Access 0 0 ∷ [])
    ≡ Some (first_item ∷ record { name = 2; kind = 1; values = to_node 1 ∷ Number 5 ∷ to_node 3 ∷ [] } ∷ last_pair ∷ [])
number_exchanged = refl

number_counted : Replies exchanges_number 5 2 (replies.Number 1)
number_counted = refl

item_exchanged : nodes_after exchanges_item (begins 0 5 ∷ Access 0 0 ∷ Access 0 0 ∷ Access 0 0 ∷ [])
    ≡ Some (first_item ∷ record { name = 2; kind = 1; values = to_node 0 ∷ Number 6 ∷ to_node 3 ∷ [] } ∷ last_pair ∷ [])
item_exchanged = refl

item_counted : Replies exchanges_item 5 3 (replies.Number 1)
item_counted = refl

key_of_null : Replies (number_through_null key) 0 2 (replies.Number 0)
key_of_null = refl

next_of_null : Replies (reference_through_null an_item next) 0 3 (replies.Number 2)
next_of_null = refl

one_of_null : Replies (reference_through_null an_item one) 0 3 (replies.Number 2)
one_of_null = refl

left_of_null : Replies (number_through_null left) 0 2 (replies.Number 0)
left_of_null = refl

other_of_null : Replies (reference_through_null a_pair other) 0 3 (replies.Number 2)
other_of_null = refl

undeclared_of_null : Replies (number_through_null 5) 0 2 (replies.Number 0)
undeclared_of_null = refl

pub two_kind_rows : TwoKindRows
two_kind_rows = record {
  first_nodes = first_nodes;
  kind_of_item = kind_of_item;
  kind_of_pair = kind_of_pair;
  kind_of_last = kind_of_last;
  null_has_no_kind = null_has_no_kind;
  unused_has_no_kind = unused_has_no_kind;
  new_pair = new_pair;
  new_item = new_item;
  number_put = number_put;
  item_put = item_put;
  next_put = next_put;
  pair_made = pair_made;
  number_loaded = number_loaded;
  item_loaded = item_loaded;
  other_loaded = other_loaded;
  number_exchanged = number_exchanged;
  number_counted = number_counted;
  item_exchanged = item_exchanged;
  item_counted = item_counted;
  key_of_null = key_of_null;
  next_of_null = next_of_null;
  one_of_null = one_of_null;
  left_of_null = left_of_null;
  other_of_null = other_of_null;
  undeclared_of_null = undeclared_of_null;
}
