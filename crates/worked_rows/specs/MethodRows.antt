-- Rows of the source machine: how methods begin again, the names of accesses, and giving up.
use Rattle.std.specs.Prelude.{◌≡◌, [], ◌∷◌, Some, None}
use Rattle.norm_lang.specs.declared.text.Instr.TheVariants.{Set, Add, Null, LoadRoot, New, Put, IfEq, Commit, Return, ReturnNone, Again}
use Rattle.norm_lang.specs.declared.text.Text.{Text}
use Rattle.norm_lang.specs.Shipped.{root_entry}
use Rattle.source_machine.specs.declared.event.SourceEvent.TheVariants.{Begin, Access, Restart, GiveUp}
use Rattle.norm_lang.specs.declared.reply.SourceReply.TheVariants as replies
use Rattle.source_machine.specs.declared.state.Value.TheVariants.{Number}
use Rattle.worked_rows.specs.Small.{n0, n1, n2, n3, n7, r0, r1, key, none, ten, small}
use Rattle.worked_rows.specs.Runs.{replies_after, nodes_after, begins, counts, to_node, first_nodes}

-- one more than the argument is replied: with a load after the addition, and with none
abbrev pub adds_then_loads : Text
adds_then_loads = small (Set n1 1 ∷ Add n0 n0 n1 ∷ LoadRoot n2 ten ∷ Commit [] ∷ []) (Return n0 ∷ [])

abbrev pub adds_then_commits : Text
adds_then_commits = small (Set n1 1 ∷ Add n0 n0 n1 ∷ Commit [] ∷ []) (Return n0 ∷ [])

-- one more than the generator's 5 is replied, after a load
abbrev pub adds_in_wrap_up : Text
adds_in_wrap_up = small (Set n2 5 ∷ Commit [] ∷ []) (Set n1 1 ∷ Add n2 n2 n1 ∷ LoadRoot n3 ten ∷ Return n2 ∷ [])

-- the count of exchanges, which is 1, is doubled, and replied after a load
abbrev pub doubles_count : Text
doubles_count =
    small (Set n1 10 ∷ Set n2 11 ∷ Commit (root_entry ten n1 n2 ∷ []) ∷ []) (Add n7 n7 n7 ∷ LoadRoot n3 ten ∷ Return n7 ∷ [])

-- one more than the argument becomes the root's value and is replied; if the exchange fails, the operation begins again
abbrev pub adds_again : Text
adds_again =
    small
    (Set n1 1 ∷ Add n0 n0 n1 ∷ LoadRoot n2 ten ∷ Commit (root_entry ten n2 n0 ∷ []) ∷ [])
    (Set n3 0 ∷ IfEq n7 n3 3 ∷ Return n0 ∷ Again ∷ [])

-- 10 becomes 11
abbrev pub exchanges_once : Text
exchanges_once = counts (Set n1 10 ∷ Set n2 11 ∷ Commit (root_entry ten n1 n2 ∷ []) ∷ [])

-- a new node with the argument as its key becomes the root `none`
abbrev pub makes_node : Text
makes_node = small (Null r1 ∷ New r0 0 ∷ Put r0 key n0 ∷ Commit (root_entry none r1 r0 ∷ []) ∷ []) (ReturnNone ∷ [])

pub record MethodRows : Type 0 where
  -- a restart of a generator gives it its first registers: 5 + 1 and not 6 + 1; and so it does before the first exchange
  pub generator_restarts : replies_after adds_then_loads 1 (begins 0 5 ∷ Restart 0 ∷ Access 0 0 ∷ Access 0 0 ∷ []) ≡ Some ((replies.Number 6 ∷ []) ∷ [])
  pub generator_restarts_later : replies_after adds_then_loads 1 (begins 0 5 ∷ Access 0 0 ∷ Restart 0 ∷ Access 0 0 ∷ Access 0 0 ∷ [])
      ≡ Some ((replies.Number 6 ∷ []) ∷ [])
  pub list_restarts : replies_after adds_then_commits 1 (begins 0 5 ∷ Restart 0 ∷ Access 0 0 ∷ []) ≡ Some ((replies.Number 6 ∷ []) ∷ [])
  -- a restart of a wrap-up gives back the registers of its start, also after its load
  pub wrap_up_restarts : replies_after adds_in_wrap_up 1 (begins 0 0 ∷ Access 0 0 ∷ Restart 0 ∷ Access 0 0 ∷ Access 0 0 ∷ [])
      ≡ Some ((replies.Number 6 ∷ []) ∷ [])
  pub wrap_up_restarts_later : replies_after adds_in_wrap_up 1 (begins 0 0 ∷ Access 0 0 ∷ Access 0 0 ∷ Restart 0 ∷ Access 0 0 ∷ Access 0 0 ∷ [])
      ≡ Some ((replies.Number 6 ∷ []) ∷ [])
  -- the count among them: 1 + 1
  pub count_restarts : replies_after doubles_count 1 (begins 0 0 ∷ Access 0 0 ∷ Restart 0 ∷ Access 0 0 ∷ Access 0 0 ∷ [])
      ≡ Some ((replies.Number 2 ∷ []) ∷ [])
  -- `again` begins with the first registers too: after caller 1, whose 8 made its exchange fail, caller 0 adds 1 to 5 once more
  pub again_restarts : replies_after adds_again 2
      (begins 0 5 ∷ begins 1 7 ∷ Access 0 0 ∷ Access 1 0 ∷ Access 1 0 ∷ Access 0 0 ∷ Access 0 0 ∷ Access 0 0 ∷ [])
      ≡ Some ((replies.Number 6 ∷ []) ∷ (replies.Number 8 ∷ []) ∷ [])
  -- an access that is no `new` carries no name: not a load, an exchange, a put, the end of an empty list or the end of a wrap-up
  pub load_has_no_name : replies_after adds_then_loads 1 (begins 0 5 ∷ Access 0 3 ∷ []) ≡ None
  pub exchange_has_no_name : replies_after exchanges_once 1 (begins 0 0 ∷ Access 0 3 ∷ []) ≡ None
  pub put_has_no_name : replies_after makes_node 1 (begins 0 5 ∷ Access 0 3 ∷ Access 0 4 ∷ []) ≡ None
  pub empty_list_has_no_name : replies_after adds_then_commits 1 (begins 0 5 ∷ Access 0 3 ∷ []) ≡ None
  pub end_has_no_name : replies_after adds_in_wrap_up 1 (begins 0 0 ∷ Access 0 0 ∷ Access 0 0 ∷ Access 0 3 ∷ []) ≡ None
  -- without a name each of them is enabled
  pub all_without_names : replies_after makes_node 1 (begins 0 5 ∷ Access 0 3 ∷ Access 0 0 ∷ Access 0 0 ∷ []) ≡ Some ((replies.Nothing ∷ []) ∷ [])
  -- a caller gives up with a phase or without one, and is idle then
  pub gives_up_with_phase : replies_after makes_node 1 (begins 0 5 ∷ GiveUp 0 (Some 7) ∷ []) ≡ Some ((replies.Phases 7 ∷ []) ∷ [])
  pub gives_up_twice : replies_after makes_node 1 (begins 0 5 ∷ GiveUp 0 (Some 7) ∷ begins 0 5 ∷ GiveUp 0 None ∷ [])
      ≡ Some ((replies.Phases 7 ∷ replies.Full ∷ []) ∷ [])
  -- an idle caller makes no access, no restart and gives nothing up, and there is no operation 1
  pub idle_makes_no_access : replies_after makes_node 1 (Access 0 0 ∷ []) ≡ None
  pub idle_restarts_nothing : replies_after makes_node 1 (Restart 0 ∷ []) ≡ None
  pub idle_gives_up_nothing : replies_after makes_node 1 (GiveUp 0 None ∷ []) ≡ None
  pub no_such_operation : replies_after makes_node 1 (Begin 0 1 (0 ∷ 0 ∷ 0 ∷ 0 ∷ []) ∷ []) ≡ None
  -- a new node has 0 and null in its fields, and a put sets one of them
  pub new_is_blank : nodes_after makes_node (begins 0 5 ∷ Access 0 3 ∷ [])
      ≡ Some (record { name = 3; kind = 0; values = Number 0 ∷ to_node 0 ∷ [] } ∷ first_nodes)
  pub put_sets_field : nodes_after makes_node (begins 0 5 ∷ Access 0 3 ∷ Access 0 0 ∷ [])
      ≡ Some (record { name = 3; kind = 0; values = Number 5 ∷ to_node 0 ∷ [] } ∷ first_nodes)
