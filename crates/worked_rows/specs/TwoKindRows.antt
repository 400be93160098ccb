-- Rows of the source machine for a text of two kinds of nodes: what a `new` makes, and which field an access meets. The second
-- kind has a reference first and then a number, so that each field of it stands elsewhere than its number says, and is of the
-- other sort than what stands there in a node of the first kind.
use Rattle.std.specs.Prelude.{◌≡◌, ℕ, List, [], ◌∷◌, ◌++◌, Some, None, codes}
use Rattle.norm_lang.specs.declared.text.FieldKind.TheVariants as holdings
use Rattle.norm_lang.specs.declared.text.Start.TheVariants as starts
use Rattle.norm_lang.specs.declared.text.FieldDecl.{FieldDecl}
use Rattle.norm_lang.specs.declared.text.RootDecl.{RootDecl}
use Rattle.norm_lang.specs.declared.text.NodeDecl.{NodeDecl}
use Rattle.norm_lang.specs.declared.text.Instr.{Instr}
use Rattle.norm_lang.specs.declared.text.Instr.TheVariants.{Set, Null, LoadRoot, LoadField, New, Put, IfEq, Commit, Return, ReturnNone}
use Rattle.norm_lang.specs.declared.text.Text.{Text}
use Rattle.norm_lang.specs.Shipped.{root_entry}
use Rattle.source_machine.specs.declared.event.SourceEvent.TheVariants.{Access}
use Rattle.norm_lang.specs.declared.reply.SourceReply.TheVariants as replies
use Rattle.source_machine.specs.declared.state.Value.TheVariants.{Number}
use Rattle.source_machine.specs.declared.state.NamedNode.{NamedNode}
use Rattle.source_machine.specs.Memory.{kind_of_node}
use Rattle.worked_rows.specs.Small.{n0, n1, n7, r0, r1, r2, does, field_entry}
use Rattle.worked_rows.specs.Runs.{Replies, nodes_after, roots_after, begins, to_node}

-- the kinds
abbrev pub item : ℕ
item = 0

abbrev pub pair : ℕ
pair = 1

-- the fields: of an item its key and the next item; of a pair an item, a number and another pair
abbrev pub key : ℕ
key = 0

abbrev pub next : ℕ
next = 1

abbrev pub one : ℕ
one = 2

abbrev pub left : ℕ
left = 3

abbrev pub other : ℕ
other = 4

abbrev pub fields : List FieldDecl
fields =
    record { owner = item; name = codes "key"; kind = holdings.Number }
    ∷ record { owner = item; name = codes "next"; kind = holdings.Reference item }
    ∷ record { owner = pair; name = codes "one"; kind = holdings.Reference item }
    ∷ record { owner = pair; name = codes "left"; kind = holdings.Number }
    ∷ record { owner = pair; name = codes "other"; kind = holdings.Reference pair }
    ∷ []

-- the roots: of the item, of the first pair, and of no pair
abbrev pub an_item : ℕ
an_item = 0

abbrev pub a_pair : ℕ
a_pair = 1

abbrev pub no_pair : ℕ
no_pair = 2

abbrev pub roots : List RootDecl
roots =
    record { name = codes "an_item"; kind = holdings.Reference item; start = starts.Node 1 }
    ∷ record { name = codes "a_pair"; kind = holdings.Reference pair; start = starts.Node 2 }
    ∷ record { name = codes "no_pair"; kind = holdings.Reference pair; start = starts.Node 0 }
    ∷ []

-- an item with key 4, a pair of it and 6 that leads to the other pair, and that one, with 8 alone
abbrev pub nodes : List NodeDecl
nodes =
    record { owner = item; values = starts.Value 4 ∷ starts.Node 0 ∷ [] }
    ∷ record { owner = pair; values = starts.Node 1 ∷ starts.Value 6 ∷ starts.Node 3 ∷ [] }
    ∷ record { owner = pair; values = starts.Node 0 ∷ starts.Value 8 ∷ starts.Node 0 ∷ [] }
    ∷ []

abbrev pub first_item : NamedNode
first_item = record { name = 1; kind = 0; values = Number 4 ∷ to_node 0 ∷ [] }

abbrev pub last_pair : NamedNode
last_pair = record { name = 3; kind = 1; values = to_node 0 ∷ Number 8 ∷ to_node 0 ∷ [] }

abbrev pub first_three : List NamedNode
first_three = first_item ∷ record { name = 2; kind = 1; values = to_node 1 ∷ Number 6 ∷ to_node 3 ∷ [] } ∷ last_pair ∷ []

-- one operation over these
abbrev pub paired : List Instr → List Instr → Text
paired generator wrapup =
    record { kinds = codes "item" ∷ codes "pair" ∷ []; fields = fields; roots = roots; nodes = nodes; ops = does generator wrapup ∷ [] }

-- instructions and a comparison of two registers, with a wrap-up that replies 2 if they are equal, and 1 if they aren't
abbrev pub compares : List Instr → Instr → Text
compares before test = paired (before ++ test ∷ Set n1 1 ∷ Commit [] ∷ Set n1 2 ∷ Commit [] ∷ []) (Return n1 ∷ [])

-- a new pair with the argument and the item, for the root of no pair
abbrev pub makes_pair : Text
makes_pair =
    paired (LoadRoot r2 an_item ∷ Null r1 ∷ New r0 pair ∷ Put r0 left n0 ∷ Put r0 one r2 ∷ Commit (root_entry no_pair r1 r0 ∷ []) ∷ []) (ReturnNone ∷ [])

-- a new item before the item of the root
abbrev pub makes_item : Text
makes_item = paired (LoadRoot r2 an_item ∷ New r0 item ∷ Put r0 next r2 ∷ Commit (root_entry an_item r2 r0 ∷ []) ∷ []) (ReturnNone ∷ [])

-- the number of the first pair, and its item, compared with the item of the root
abbrev pub loads_number : Text
loads_number = paired (LoadRoot r0 a_pair ∷ LoadField n1 r0 left ∷ Commit [] ∷ []) (Return n1 ∷ [])

abbrev pub loads_item : Text
loads_item = compares (LoadRoot r0 a_pair ∷ LoadField r1 r0 one ∷ LoadRoot r2 an_item ∷ []) (IfEq r1 r2 6)

-- the number that the pair after the first one has
abbrev pub loads_other : Text
loads_other = paired (LoadRoot r0 a_pair ∷ LoadField r1 r0 other ∷ LoadField n1 r1 left ∷ Commit [] ∷ []) (Return n1 ∷ [])

-- a field is loaded through null into a number that was 7, or into a reference that was to a node, which is compared with null
abbrev pub number_through_null : ℕ → Text
number_through_null f = paired (Set n1 7 ∷ Null r0 ∷ LoadField n1 r0 f ∷ Commit [] ∷ []) (Return n1 ∷ [])

abbrev pub reference_through_null : ℕ → ℕ → Text
reference_through_null root f = compares (Null r0 ∷ LoadRoot r1 root ∷ LoadField r1 r0 f ∷ []) (IfEq r1 r0 6)

-- the first pair's number becomes the argument, if it was 6; and its item becomes null
abbrev pub exchanges_number : Text
exchanges_number = paired (LoadRoot r0 a_pair ∷ Set n1 6 ∷ Commit (field_entry r0 left n1 n0 ∷ []) ∷ []) (Return n7 ∷ [])

abbrev pub exchanges_item : Text
exchanges_item = paired (LoadRoot r0 a_pair ∷ LoadField r1 r0 one ∷ Null r2 ∷ Commit (field_entry r0 one r1 r2 ∷ []) ∷ []) (Return n7 ∷ [])

pub record TwoKindRows : Type 0 where
  -- the initial nodes have their names in their order, through all kinds, each with its own kind
  pub first_nodes : nodes_after makes_pair [] ≡ Some first_three
  pub kind_of_item : kind_of_node 1 first_three ≡ Some 0
  pub kind_of_pair : kind_of_node 2 first_three ≡ Some 1
  pub kind_of_last : kind_of_node 3 first_three ≡ Some 1
  pub null_has_no_kind : kind_of_node 0 first_three ≡ None
  pub unused_has_no_kind : kind_of_node 4 first_three ≡ None
  -- a `new` makes a node of its own kind, with the fields of that kind alone, each 0 or null
  pub new_pair : nodes_after makes_pair (begins 0 5 ∷ Access 0 0 ∷ Access 0 7 ∷ [])
      ≡ Some (record { name = 7; kind = 1; values = to_node 0 ∷ Number 0 ∷ to_node 0 ∷ [] } ∷ first_three)
  pub new_item : nodes_after makes_item (begins 0 5 ∷ Access 0 0 ∷ Access 0 7 ∷ [])
      ≡ Some (record { name = 7; kind = 0; values = Number 0 ∷ to_node 0 ∷ [] } ∷ first_three)
  -- a put finds a field of a pair by its place among a pair's: field 3 is the second, and field 2 the first
  pub number_put : nodes_after makes_pair (begins 0 5 ∷ Access 0 0 ∷ Access 0 7 ∷ Access 0 0 ∷ [])
      ≡ Some (record { name = 7; kind = 1; values = to_node 0 ∷ Number 5 ∷ to_node 0 ∷ [] } ∷ first_three)
  pub item_put : nodes_after makes_pair (begins 0 5 ∷ Access 0 0 ∷ Access 0 7 ∷ Access 0 0 ∷ Access 0 0 ∷ [])
      ≡ Some (record { name = 7; kind = 1; values = to_node 1 ∷ Number 5 ∷ to_node 0 ∷ [] } ∷ first_three)
  pub next_put : nodes_after makes_item (begins 0 5 ∷ Access 0 0 ∷ Access 0 7 ∷ Access 0 0 ∷ [])
      ≡ Some (record { name = 7; kind = 0; values = Number 0 ∷ to_node 1 ∷ [] } ∷ first_three)
  -- the root of no pair becomes the new one
  pub pair_made : roots_after makes_pair (begins 0 5 ∷ Access 0 0 ∷ Access 0 7 ∷ Access 0 0 ∷ Access 0 0 ∷ Access 0 0 ∷ [])
      ≡ Some (to_node 1 ∷ to_node 2 ∷ to_node 7 ∷ [])
  -- so does a load
  pub number_loaded : Replies loads_number 0 3 (replies.Number 6)
  pub item_loaded : Replies loads_item 0 4 (replies.Number 2)
  pub other_loaded : Replies loads_other 0 4 (replies.Number 8)
  -- so does an exchange, and the node keeps its kind
  pub number_exchanged : nodes_after exchanges_number (begins 0 5 ∷ Access 0 0 ∷ Access 0 0 ∷ [])
      ≡ Some (first_item ∷ record { name = 2; kind = 1; values = to_node 1 ∷ Number 5 ∷ to_node 3 ∷ [] } ∷ last_pair ∷ [])
  pub number_counted : Replies exchanges_number 5 2 (replies.Number 1)
  pub item_exchanged : nodes_after exchanges_item (begins 0 5 ∷ Access 0 0 ∷ Access 0 0 ∷ Access 0 0 ∷ [])
      ≡ Some (first_item ∷ record { name = 2; kind = 1; values = to_node 0 ∷ Number 6 ∷ to_node 3 ∷ [] } ∷ last_pair ∷ [])
  pub item_counted : Replies exchanges_item 5 3 (replies.Number 1)
  -- null has the fields of both kinds, each 0 or null by its own declaration
  pub key_of_null : Replies (number_through_null key) 0 2 (replies.Number 0)
  pub next_of_null : Replies (reference_through_null an_item next) 0 3 (replies.Number 2)
  pub one_of_null : Replies (reference_through_null an_item one) 0 3 (replies.Number 2)
  pub left_of_null : Replies (number_through_null left) 0 2 (replies.Number 0)
  pub other_of_null : Replies (reference_through_null a_pair other) 0 3 (replies.Number 2)
  -- a field that is declared for no kind is 0 there
  pub undeclared_of_null : Replies (number_through_null 5) 0 2 (replies.Number 0)
