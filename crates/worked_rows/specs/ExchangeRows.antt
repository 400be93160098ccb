-- Rows of the source machine: exchanges, what they retire, and lists of them.
use Rattle.std.specs.Prelude.{◌≡◌, [], ◌∷◌, Some, None}
use Rattle.norm_lang.specs.declared.text.Instr.TheVariants.{Set, Null, Mark, LoadRoot, Cas, Commit}
use Rattle.norm_lang.specs.declared.text.Text.{Text}
use Rattle.norm_lang.specs.Shipped.{root_entry, next_entry, retiring}
use Rattle.norm_lang.specs.declared.reply.SourceReply.TheVariants as replies
use Rattle.source_machine.specs.declared.state.Value.TheVariants.{Number}
use Rattle.source_machine.specs.declared.state.Stand.TheVariants.{InList}
use Rattle.worked_rows.specs.Small.{n0, n1, n2, n3, r0, r1, r2, key, first, second, none, ten, field_entry}
use Rattle.worked_rows.specs.Runs.{replies_after, roots_after, retired_after, nodes_after, stands_after, undisturbed, Replies, counts, decides, to_node}

-- the root holds the first node without its mark, and with it is what is expected
abbrev pub expects_mark : Text
expects_mark = counts (LoadRoot r0 first ∷ Mark r1 r0 ∷ Commit (root_entry first r1 r0 ∷ []) ∷ [])

-- the first exchange marks what the root holds; without the mark is what the second expects
abbrev pub expects_no_mark : Text
expects_no_mark = counts (LoadRoot r0 first ∷ Mark r1 r0 ∷ Commit (root_entry first r0 r1 ∷ root_entry first r0 r0 ∷ []) ∷ [])

-- the first exchange marks what the root holds, and the second takes the mark away
abbrev pub marks_and_unmarks : Text
marks_and_unmarks = counts (LoadRoot r0 first ∷ Mark r1 r0 ∷ Commit (root_entry first r0 r1 ∷ root_entry first r1 r0 ∷ []) ∷ [])

-- an auxiliary exchange of the argument for 10, where 10 stands, and for 9, where 10 stands
abbrev pub exchanges_ten : Text
exchanges_ten = decides (Set n2 10 ∷ []) (Cas (root_entry ten n2 n0))

abbrev pub exchanges_nine : Text
exchanges_nine = decides (Set n2 9 ∷ []) (Cas (root_entry ten n2 n0))

-- exchanges on a field of null: of null for null in a list, and of 0 for 0 by an auxiliary exchange; and one on a marked null
abbrev pub on_null : Text
on_null = counts (Null r0 ∷ Null r1 ∷ Commit (next_entry r0 r1 r1 ∷ []) ∷ [])

abbrev pub auxiliary_on_null : Text
auxiliary_on_null = decides (Null r0 ∷ Set n2 0 ∷ []) (Cas (field_entry r0 key n2 n2))

abbrev pub on_marked_null : Text
on_marked_null = counts (Null r0 ∷ Mark r1 r0 ∷ Null r2 ∷ Commit (next_entry r1 r2 r2 ∷ []) ∷ [])

-- the key of the first node, which is 4, becomes 9, by a reference that has a mark
abbrev pub on_marked : Text
on_marked = counts (LoadRoot r0 first ∷ Mark r1 r0 ∷ Set n1 4 ∷ Set n2 9 ∷ Commit (field_entry r1 key n1 n2 ∷ []) ∷ [])

-- what the root `none` held is retired: null
abbrev pub retires_null : Text
retires_null = counts (LoadRoot r0 none ∷ LoadRoot r1 first ∷ Commit (retiring (root_entry none r0 r1) r0 ∷ []) ∷ [])

-- the second node is retired, and then the first
abbrev pub retires_two : Text
retires_two =
    counts
    (LoadRoot r0 first
    ∷ LoadRoot r1 second
    ∷ Null r2
    ∷ Commit (retiring (root_entry second r1 r2) r1 ∷ retiring (root_entry first r0 r2) r0 ∷ [])
    ∷ [])

-- an exchange that fails would retire the second node
abbrev pub fails_to_retire : Text
fails_to_retire = counts (LoadRoot r0 first ∷ LoadRoot r1 second ∷ Commit (retiring (root_entry first r1 r0) r1 ∷ []) ∷ [])

-- an auxiliary exchange retires the first node
abbrev pub auxiliary_retires : Text
auxiliary_retires = decides (LoadRoot r0 first ∷ Null r1 ∷ []) (Cas (retiring (root_entry first r0 r1) r0))

-- 10 becomes 11, and 11 becomes 12
abbrev pub in_order : Text
in_order = counts (Set n1 10 ∷ Set n2 11 ∷ Set n3 12 ∷ Commit (root_entry ten n1 n2 ∷ root_entry ten n2 n3 ∷ []) ∷ [])

-- 10 becomes 11; 10 isn't there any more; 11 would become 12
abbrev pub fails_between : Text
fails_between =
    counts (Set n1 10 ∷ Set n2 11 ∷ Set n3 12 ∷ Commit (root_entry ten n1 n2 ∷ root_entry ten n1 n3 ∷ root_entry ten n2 n3 ∷ []) ∷ [])

pub record ExchangeRows : Type 0 where
  -- an exchange compares marks too
  pub mark_expected : Replies expects_mark 0 2 (replies.Number 0)
  pub no_mark_expected : Replies expects_no_mark 0 3 (replies.Number 1)
  pub same_marks : Replies marks_and_unmarks 0 3 (replies.Number 2)
  -- an auxiliary exchange that fails goes to its other instruction, and changes nothing; else it goes on
  pub failed_goes_elsewhere : Replies exchanges_nine 7 2 (replies.Number 2)
  pub failed_changes_nothing : roots_after exchanges_nine (undisturbed 7 2)
      ≡ Some (to_node 1 ∷ to_node 2 ∷ to_node 0 ∷ Number 10 ∷ Number 20 ∷ Number 30 ∷ [])
  pub succeeded_goes_on : Replies exchanges_ten 7 2 (replies.Number 1)
  pub succeeded_changes_root : roots_after exchanges_ten (undisturbed 7 2)
      ≡ Some (to_node 1 ∷ to_node 2 ∷ to_node 0 ∷ Number 7 ∷ Number 20 ∷ Number 30 ∷ [])
  -- an exchange on null fails, though null and 0 are what a load finds there; and so with a mark
  pub null_fails : Replies on_null 0 1 (replies.Number 0)
  pub null_fails_auxiliary : Replies auxiliary_on_null 0 2 (replies.Number 2)
  pub marked_null_fails : Replies on_marked_null 0 1 (replies.Number 0)
  -- on a marked object it works on the node
  pub marked_object : Replies on_marked 0 2 (replies.Number 1)
  pub marked_object_changes : nodes_after on_marked (undisturbed 0 2)
      ≡ Some (record { name = 1; kind = 0; values = Number 9 ∷ to_node 2 ∷ [] } ∷ record { name = 2; kind = 0; values = Number 6 ∷ to_node 0 ∷ [] } ∷ [])
  -- to retire null does nothing: the exchange succeeds, and nothing is retired
  pub null_retired : Replies retires_null 0 3 (replies.Number 1)
  pub null_isnt_listed : retired_after retires_null (undisturbed 0 3) ≡ Some []
  -- what is retired stands in the order of retirement
  pub two_retired : retired_after retires_two (undisturbed 0 4) ≡ Some (2 ∷ 1 ∷ [])
  -- an exchange that fails retires nothing, and one that succeeds does it in the same step
  pub failed_retires_nothing : retired_after fails_to_retire (undisturbed 0 3) ≡ Some []
  pub retired_at_once : retired_after auxiliary_retires (undisturbed 0 2) ≡ Some (1 ∷ [])
  -- the exchanges of a list are made in order, up to the first that fails
  pub made_in_order : Replies in_order 0 2 (replies.Number 2)
  pub stops_at_failure : Replies fails_between 0 2 (replies.Number 1)
  pub last_isnt_made : roots_after fails_between (undisturbed 0 2)
      ≡ Some (to_node 1 ∷ to_node 2 ∷ to_node 0 ∷ Number 11 ∷ Number 20 ∷ Number 30 ∷ [])
  pub no_access_left : replies_after fails_between 1 (undisturbed 0 3) ≡ None
  -- a caller in a list stands at its commit, before the exchange after so many that succeeded
  pub stands_at_its_commit : stands_after exchanges_nine (undisturbed 7 1) ≡ Some (Some (InList 5 [] 0) ∷ [])
  pub stands_after_one : stands_after in_order (undisturbed 0 1)
      ≡ Some (Some (InList 3 (root_entry ten n1 n2 ∷ root_entry ten n2 n3 ∷ []) 1) ∷ [])
