-- The rows of methods that begin again, of names and of giving up, each computed from the machine's definitions.
use Rattle.std.specs.Prelude.{◌≡◌, [], ◌∷◌, Some, None, refl}
use Rattle.source_machine.specs.declared.event.SourceEvent.TheVariants.{Begin, Access, Restart, GiveUp}
use Rattle.norm_lang.specs.declared.reply.SourceReply.TheVariants as replies
use Rattle.source_machine.specs.declared.state.Value.TheVariants.{Number}
use Rattle.worked_rows.specs.Runs.{replies_after, begins, nodes_after, to_node, first_nodes}
use Rattle.worked_rows.specs.MethodRows.{adds_then_loads, adds_then_commits, adds_in_wrap_up, doubles_count, adds_again, exchanges_once, makes_node, MethodRows}

generator_restarts : replies_after adds_then_loads 1 (begins 0 5 ∷ Restart 0 ∷ Access 0 0 ∷ Access 0 0 ∷ []) ≡ Some ((replies.Number 6 ∷ []) ∷ [])
generator_restarts = refl

generator_restarts_later : replies_after adds_then_loads 1 (begins 0 5 ∷ Access 0 0 ∷ Restart 0 ∷ Access 0 0 ∷ Access 0 0 ∷ [])
    ≡ Some ((replies.Number 6 ∷ []) ∷ [])
generator_restarts_later = refl

list_restarts : replies_after adds_then_commits 1 (begins 0 5 ∷ Restart 0 ∷ Access 0 0 ∷ []) ≡ Some ((replies.Number 6 ∷ []) ∷ [])
list_restarts = refl

wrap_up_restarts : replies_after adds_in_wrap_up 1 (begins 0 0 ∷ Access 0 0 ∷ Restart 0 ∷ Access 0 0 ∷ Access 0 0 ∷ [])
    ≡ Some ((replies.Number 6 ∷ []) ∷ [])
wrap_up_restarts = refl

wrap_up_restarts_later : replies_after adds_in_wrap_up 1 (begins 0 0 ∷ Access 0 0 ∷ Access 0 0 ∷ Restart 0 ∷ Access 0 0 ∷ Access 0 0 ∷ [])
    ≡ Some ((replies.Number 6 ∷ []) ∷ [])
wrap_up_restarts_later = refl

count_restarts : replies_after doubles_count 1 (begins 0 0 ∷ Access 0 0 ∷ Restart 0 ∷ Access 0 0 ∷ Access 0 0 ∷ [])
    ≡ Some ((replies.Number 2 ∷ []) ∷ [])
count_restarts = refl

again_restarts : replies_after adds_again 2
    (begins 0 5 ∷ begins 1 7 ∷ Access 0 0 ∷ Access 1 0 ∷ Access 1 0 ∷ Access 0 0 ∷ Access 0 0 ∷ Access 0 0 ∷ [])
    ≡ Some ((replies.Number 6 ∷ []) ∷ (replies.Number 8 ∷ []) ∷ [])
again_restarts = refl

load_has_no_name : replies_after adds_then_loads 1 (begins 0 5 ∷ Access 0 3 ∷ []) ≡ None
load_has_no_name = refl

exchange_has_no_name : replies_after exchanges_once 1 (begins 0 0 ∷ Access 0 3 ∷ []) ≡ None
exchange_has_no_name = refl

put_has_no_name : replies_after makes_node 1 (begins 0 5 ∷ Access 0 3 ∷ Access 0 4 ∷ []) ≡ None
put_has_no_name = refl

empty_list_has_no_name : replies_after adds_then_commits 1 (begins 0 5 ∷ Access 0 3 ∷ []) ≡ None
empty_list_has_no_name = refl

end_has_no_name : replies_after adds_in_wrap_up 1 (begins 0 0 ∷ Access 0 0 ∷ Access 0 0 ∷ Access 0 3 ∷ []) ≡ None
end_has_no_name = refl

all_without_names : replies_after makes_node 1 (begins 0 5 ∷ Access 0 3 ∷ Access 0 0 ∷ Access 0 0 ∷ []) ≡ Some ((replies.Nothing ∷ []) ∷ [])
all_without_names = refl

gives_up_with_phase : replies_after makes_node 1 (begins 0 5 ∷ GiveUp 0 (Some 7) ∷ []) ≡ Some ((replies.Phases 7 ∷ []) ∷ [])
gives_up_with_phase = refl

gives_up_twice : replies_after makes_node 1 (begins 0 5 ∷ GiveUp 0 (Some 7) ∷ begins 0 5 ∷ GiveUp 0 None ∷ [])
    ≡ Some ((replies.Phases 7 ∷ replies.Full ∷ []) ∷ [])
gives_up_twice = refl

idle_makes_no_access : replies_after makes_node 1 (Access 0 0 ∷ []) ≡ None
idle_makes_no_access = refl

idle_restarts_nothing : replies_after makes_node 1 (Restart 0 ∷ []) ≡ None
idle_restarts_nothing = refl

idle_gives_up_nothing : replies_after makes_node 1 (GiveUp 0 None ∷ []) ≡ None
idle_gives_up_nothing = refl

no_such_operation : replies_after makes_node 1 (Begin 0 1 (0 ∷ 0 ∷ 0 ∷ 0 ∷ []) ∷ []) ≡ None
no_such_operation = refl

new_is_blank : nodes_after makes_node (begins 0 5 ∷ Access 0 3 ∷ [])
    ≡ Some (record { name = 3; kind = 0; values = Number 0 ∷ to_node 0 ∷ [] } ∷ first_nodes)
new_is_blank = refl

put_sets_field : nodes_after makes_node (begins 0 5 ∷ Access 0 3 ∷ Access 0 0 ∷ [])
    ≡ Some (record { name = 3; kind = 0; values = Number 5 ∷ to_node 0 ∷ [] } ∷ first_nodes)
put_sets_field = refl

pub method_rows : MethodRows
method_rows = record {
  generator_restarts = generator_restarts;
  generator_restarts_later = generator_restarts_later;
  list_restarts = list_restarts;
  wrap_up_restarts = wrap_up_restarts;
  wrap_up_restarts_later = wrap_up_restarts_later;
  count_restarts = count_restarts;
  again_restarts = again_restarts;
  load_has_no_name = load_has_no_name;
  exchange_has_no_name = exchange_has_no_name;
  put_has_no_name = put_has_no_name;
  empty_list_has_no_name = empty_list_has_no_name;
  end_has_no_name = end_has_no_name;
  all_without_names = all_without_names;
  gives_up_with_phase = gives_up_with_phase;
  gives_up_twice = gives_up_twice;
  idle_makes_no_access = idle_makes_no_access;
  idle_restarts_nothing = idle_restarts_nothing;
  idle_gives_up_nothing = idle_gives_up_nothing;
  no_such_operation = no_such_operation;
  new_is_blank = new_is_blank;
  put_sets_field = put_sets_field;
}
