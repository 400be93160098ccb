-- The rows of exchanges, each computed from the machine's definitions.
use Rattle.std.specs.Prelude.{◌≡◌, [], ◌∷◌, Some, None, refl}
use Rattle.norm_lang.specs.Shipped.{root_entry}
use Rattle.norm_lang.specs.declared.reply.SourceReply.TheVariants as replies
use Rattle.source_machine.specs.declared.state.Value.TheVariants.{Number}
use Rattle.source_machine.specs.declared.state.Stand.TheVariants.{InList}
use Rattle.worked_rows.specs.Small.{n1, n2, n3, ten}
use Rattle.worked_rows.specs.Runs.{replies_after, roots_after, retired_after, nodes_after, stands_after, undisturbed, Replies, to_node}
use Rattle.worked_rows.specs.ExchangeRows.{expects_mark, expects_no_mark, marks_and_unmarks, exchanges_ten, exchanges_nine, on_null, auxiliary_on_null, on_marked_null, on_marked, retires_null, retires_two, fails_to_retire, auxiliary_retires, in_order, fails_between, ExchangeRows}

mark_expected : Replies expects_mark 0 2 (replies.Number 0)
mark_expected = refl

no_mark_expected : Replies expects_no_mark 0 3 (replies.Number 1)
no_mark_expected = refl

same_marks : Replies marks_and_unmarks 0 3 (replies.Number 2)
same_marks = refl

failed_goes_elsewhere : Replies exchanges_nine 7 2 (replies.Number 2)
failed_goes_elsewhere = refl

failed_changes_nothing : roots_after exchanges_nine (undisturbed 7 2)
    ≡ Some (to_node 1 ∷ to_node 2 ∷ to_node 0 ∷ Number 10 ∷ Number 20 ∷ Number 30 ∷ [])
failed_changes_nothing = refl

succeeded_goes_on : Replies exchanges_ten 7 2 (replies.Number 1)
succeeded_goes_on = refl

succeeded_changes_root : roots_after exchanges_ten (undisturbed 7 2)
    ≡ Some (to_node 1 ∷ to_node 2 ∷ to_node 0 ∷ Number 7 ∷ Number 20 ∷ Number 30 ∷ [])
succeeded_changes_root = refl

null_fails : Replies on_null 0 1 (replies.Number 0)
null_fails = refl

null_fails_auxiliary : Replies auxiliary_on_null 0 2 (replies.Number 2)
null_fails_auxiliary = refl

marked_null_fails : Replies on_marked_null 0 1 (replies.Number 0)
marked_null_fails = refl

marked_object : Replies on_marked 0 2 (replies.Number 1)
marked_object = refl

marked_object_changes : nodes_after on_marked (undisturbed 0 2)
    ≡ Some (record { name = 1; kind = 0; values = Number 9 ∷ to_node 2 ∷ [] } ∷ record { name = 2; kind = 0; values = Number 6 ∷ to_node 0 ∷ [] } ∷ [])
marked_object_changes = refl

null_retired : Replies retires_null 0 3 (replies.Number 1)
null_retired = refl

null_isnt_listed : retired_after retires_null (undisturbed 0 3) ≡ Some []
null_isnt_listed = refl

two_retired : retired_after retires_two (undisturbed 0 4) ≡ Some (2 ∷ 1 ∷ [])
two_retired = refl

failed_retires_nothing : retired_after fails_to_retire (undisturbed 0 3) ≡ Some []
failed_retires_nothing = refl

retired_at_once : retired_after auxiliary_retires (undisturbed 0 2) ≡ Some (1 ∷ [])
retired_at_once = refl

made_in_order : Replies in_order 0 2 (replies.Number 2)
made_in_order = refl

stops_at_failure : Replies fails_between 0 2 (replies.Number 1)
stops_at_failure = refl

last_isnt_made : roots_after fails_between (undisturbed 0 2)
    ≡ Some (to_node 1 ∷ to_node 2 ∷ to_node 0 ∷ Number 11 ∷ Number 20 ∷ Number 30 ∷ [])
last_isnt_made = refl

no_access_left : replies_after fails_between 1 (undisturbed 0 3) ≡ None
no_access_left = refl

stands_at_its_commit : stands_after exchanges_nine (undisturbed 7 1) ≡ Some (Some (InList 5 [] 0) ∷ [])
stands_at_its_commit = refl

stands_after_one : stands_after in_order (undisturbed 0 1)
    ≡ Some (Some (InList 3 (root_entry ten n1 n2 ∷ root_entry ten n2 n3 ∷ []) 1) ∷ [])
stands_after_one = refl

pub exchange_rows : ExchangeRows
exchange_rows = record {
  mark_expected = mark_expected;
  no_mark_expected = no_mark_expected;
  same_marks = same_marks;
  failed_goes_elsewhere = failed_goes_elsewhere;
  failed_changes_nothing = failed_changes_nothing;
  succeeded_goes_on = succeeded_goes_on;
  succeeded_changes_root = succeeded_changes_root;
  null_fails = null_fails;
  null_fails_auxiliary = null_fails_auxiliary;
  marked_null_fails = marked_null_fails;
  marked_object = marked_object;
  marked_object_changes = marked_object_changes;
  null_retired = null_retired;
  null_isnt_listed = null_isnt_listed;
  two_retired = two_retired;
  failed_retires_nothing = failed_retires_nothing;
  retired_at_once = retired_at_once;
  made_in_order = made_in_order;
  stops_at_failure = stops_at_failure;
  last_isnt_made = last_isnt_made;
  no_access_left = no_access_left;
  stands_at_its_commit = stands_at_its_commit;
  stands_after_one = stands_after_one;
}
