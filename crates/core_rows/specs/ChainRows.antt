-- The chain of ready slots in two runs of three callers, whose code is as `compile` makes it. In the first a head comes back under the same
-- phase, and a claim's exchange takes the top that stood there all the time. In the second a text that isn't proper makes a circle.
use Rattle.std.specs.Prelude.{◌≡◌, ℕ, List, [], ◌∷◌, ◌++◌, Some, codes}
use Rattle.norm_lang.specs.declared.text.Instr.TheVariants.{Null, LoadRoot, New, Commit, ReturnNone}
use Rattle.norm_lang.specs.declared.text.Op.{Op}
use Rattle.norm_lang.specs.declared.text.Text.{Text}
use Rattle.norm_lang.specs.LineWords.{item_kind}
use Rattle.norm_lang.specs.Shipped.{number_field, reference_root, root_entry, retiring}
use Rattle.norm_lang.specs.declared.reply.SourceReply.TheVariants as replies
use Rattle.oa_words.specs.Words.{Status, Head, Link}
use Rattle.target_code.specs.declared.target.TargetInstr.TheVariants.{Plain, Check, Guard}
use Rattle.target_code.specs.declared.target.TargetOp.{TargetOp}
use Rattle.target_code.specs.declared.target.Target.{Target}
use Rattle.target_code.specs.SecondScheme.{second_scheme}
use Rattle.caller_parts.specs.Settings.{Setting}
use Rattle.core_runs.specs.Machine.{CoreEvent}
use Rattle.core_rows.specs.Short.{r0, r1, r2, number_node, call_of, setting_of, cradles_of}
use Rattle.core_rows.specs.Stories.{Line, Load, Store, Exchange, silent, story, lines_after, left_after, steps, calls, begins, renews, clears, looks, takes, no_hazards, finds, frees, pushes}

-- `take` puts a new node into a root that is empty
abbrev pub take_op : ℕ → Op
take_op root = record { name = codes "take"; args = 0; generator = New r0 0 ∷ Null r1 ∷ Commit (root_entry root r1 r0 ∷ []) ∷ []; wrapup = ReturnNone ∷ [] }

abbrev pub take_target : ℕ → TargetOp
take_target root = record {
  name = codes "take";
  args = 0;
  generator = Plain (New r0 0) ∷ Plain (Null r1) ∷ Guard r1 ∷ Guard r0 ∷ Check ∷ Plain (Commit (root_entry root r1 r0 ∷ [])) ∷ [];
  wrapup = Plain ReturnNone ∷ [];
}

-- ---- a head that comes back

-- `drop` takes the nodes out of two roots, and retires both
abbrev pub drop_both_op : Op
drop_both_op = record {
  name = codes "drop";
  args = 0;
  generator = LoadRoot r0 0 ∷ LoadRoot r1 1 ∷ Null r2 ∷ Commit (retiring (root_entry 0 r0 r2) r0 ∷ retiring (root_entry 1 r1 r2) r1 ∷ []) ∷ [];
  wrapup = ReturnNone ∷ [];
}

abbrev pub emptied_text : Text
emptied_text = record {
  kinds = item_kind ∷ [];
  fields = number_field (codes "v") ∷ [];
  roots = reference_root (codes "left") 1 ∷ reference_root (codes "right") 2 ∷ reference_root (codes "spare") 0 ∷ [];
  nodes = number_node 5 ∷ number_node 6 ∷ [];
  ops = drop_both_op ∷ take_op 2 ∷ [];
}

abbrev pub drop_both_target : TargetOp
drop_both_target = record {
  name = codes "drop";
  args = 0;
  generator =
      Plain (LoadRoot r0 0)
      ∷ Plain (LoadRoot r1 1)
      ∷ Plain (Null r2)
      ∷ Guard r0
      ∷ Guard r2
      ∷ Guard r1
      ∷ Check
      ∷ Plain (Commit (retiring (root_entry 0 r0 r2) r0 ∷ retiring (root_entry 1 r1 r2) r1 ∷ []))
      ∷ [];
  wrapup = Plain ReturnNone ∷ [];
}

abbrev pub emptied_target : Target
emptied_target = record { kinds = item_kind ∷ []; fields = emptied_text.fields; roots = emptied_text.roots; nodes = emptied_text.nodes; ops = drop_both_target ∷ take_target 2 ∷ [] }

abbrev pub emptied_setting : Setting
emptied_setting = setting_of 3 2 1 3 2 1000

-- both slots were retired in phase 1. The sweep of caller 0, of phase 2, has made slot 2 ready, and hasn't loaded the head. That of caller 1, of
-- phase 3, has made slot 1 ready and pushed it, and has ended
abbrev pub one_pushed : List CoreEvent
one_pushed = calls 2 (call_of 0 0) 16 ++ (calls 0 (call_of 1 0) 33 ++ calls 1 (call_of 1 0) 37)

-- caller 2 has loaded the head, with slot 1 on top, and its link
abbrev pub top_loaded : List CoreEvent
top_loaded = one_pushed ++ calls 2 (call_of 1 0) 3

-- caller 0 pushes slot 2 onto it, under phase 3, and caller 1 claims that one: the head is the same as before
abbrev pub head_back : List CoreEvent
head_back = top_loaded ++ (steps 0 3 ++ steps 1 4)

pub record ReturnedRows : Type 0 where
  pub compiled : second_scheme emptied_text ≡ emptied_target
  pub loaded : lines_after emptied_target emptied_setting one_pushed (calls 2 (call_of 1 0) 3) ≡ begins 2 3 (call_of 1 0) ∷ looks 24577 ∷ silent (Load (Link 1) 0) ∷ []
  pub pushed : lines_after emptied_target emptied_setting top_loaded (steps 0 3) ≡ pushes 2 24577 1 24578
  pub taken : lines_after emptied_target emptied_setting (top_loaded ++ steps 0 3) (steps 1 4) ≡ takes 2 24578 1 24577 13
  -- the exchange finds the head that was loaded. Slot 1 has stood in the chain since, and below it no other
  pub exchanged : lines_after emptied_target emptied_setting head_back (steps 2 2) ≡ silent (Exchange (Head 0) 24577 24576 24577) ∷ silent (Store (Status 1) 13) ∷ []
  pub left : left_after emptied_target emptied_setting (head_back ++ steps 2 2) 1 ≡ Some (record { replies = []; cradles = cradles_of 2 0 0 0; restarts = 0; claims = 1 })
  pub other_left : left_after emptied_target emptied_setting (head_back ++ steps 2 2) 2
      ≡ Some (record { replies = replies.Nothing ∷ []; cradles = cradles_of 1 0 0 0; restarts = 0; claims = 1 })

-- ---- a circle

-- `lose` retires the node that it leaves in the root. So a slot that stands in the chain is retired a second time, and a sweep that began
-- after that pushes it once more, onto itself
abbrev pub lose_op : Op
lose_op = record {
  name = codes "lose";
  args = 0;
  generator = LoadRoot r0 0 ∷ Commit (retiring (root_entry 0 r0 r0) r0 ∷ []) ∷ [];
  wrapup = ReturnNone ∷ [];
}

abbrev pub circle_text : Text
circle_text = record {
  kinds = item_kind ∷ [];
  fields = number_field (codes "v") ∷ [];
  roots = reference_root (codes "h") 1 ∷ reference_root (codes "spare") 0 ∷ [];
  nodes = number_node 5 ∷ [];
  ops = lose_op ∷ take_op 1 ∷ [];
}

abbrev pub lose_target : TargetOp
lose_target = record {
  name = codes "lose";
  args = 0;
  generator = Plain (LoadRoot r0 0) ∷ Guard r0 ∷ Check ∷ Plain (Commit (retiring (root_entry 0 r0 r0) r0 ∷ [])) ∷ [];
  wrapup = Plain ReturnNone ∷ [];
}

abbrev pub circle_target : Target
circle_target = record { kinds = item_kind ∷ []; fields = circle_text.fields; roots = circle_text.roots; nodes = circle_text.nodes; ops = lose_target ∷ take_target 1 ∷ [] }

-- one slot
abbrev pub circle_setting : Setting
circle_setting = setting_of 3 1 1 2 1 1000

-- a `lose` has retired slot 1 in phase 1. The sweep of caller 0 has raised the phase to 2, and found no guard: it stands before the
-- status. The sweep of caller 1 has loaded phase 2. Another `lose` of caller 2 has loaded it too, and then caller 1 has raised it to 3
abbrev pub crossed : List CoreEvent
crossed = calls 2 (call_of 0 0) 9 ++ (calls 0 (call_of 1 0) 31 ++ (calls 1 (call_of 1 0) 3 ++ (calls 2 (call_of 0 0) 6 ++ steps 1 4)))

-- caller 0 makes the slot ready, and pushes it
abbrev pub once_pushed : List CoreEvent
once_pushed = crossed ++ steps 0 5

-- caller 2 stores that it is retired, in phase 2: it stands in the chain
abbrev pub retired_in_chain : List CoreEvent
retired_in_chain = once_pushed ++ steps 2 3

-- caller 1 finds it retired before its phase, and nobody guards it any more. It is on top: its link names itself
abbrev pub circle : List Line
circle = story (
    no_hazards 0
    ∷ no_hazards 1
    ∷ no_hazards 2
    ∷ (finds 1 10 ∷ frees 1 10 12 ∷ [])
    ∷ pushes 1 16385 1 24577
    ∷ [])

abbrev pub circled : List CoreEvent
circled = retired_in_chain ++ steps 1 29

-- the exchange leaves the head as it was, and so each look takes the slot
abbrev pub taken_again : List Line
taken_again = takes 1 24577 1 24577 13

abbrev pub all_taken : List CoreEvent
all_taken = circled ++ (steps 0 4 ++ (steps 1 4 ++ calls 2 (call_of 1 0) 5))

pub record CircleRows : Type 0 where
  pub compiled : second_scheme circle_text ≡ circle_target
  pub pushed : lines_after circle_target circle_setting crossed (steps 0 5) ≡ story ((finds 1 6 ∷ frees 1 6 8 ∷ []) ∷ pushes 1 8192 0 16385 ∷ [])
  pub retired : lines_after circle_target circle_setting once_pushed (steps 2 3) ≡ silent (Store (Status 1) 10) ∷ clears 2 0 ∷ renews 2 3 ∷ []
  pub circle_made : lines_after circle_target circle_setting retired_in_chain (steps 1 29) ≡ circle
  pub first : lines_after circle_target circle_setting circled (steps 0 4) ≡ taken_again
  pub second : lines_after circle_target circle_setting (circled ++ steps 0 4) (steps 1 4) ≡ taken_again
  pub third : lines_after circle_target circle_setting (circled ++ (steps 0 4 ++ steps 1 4)) (calls 2 (call_of 1 0) 5) ≡ begins 2 3 (call_of 1 0) ∷ taken_again
  -- one slot, claimed three times
  pub first_left : left_after circle_target circle_setting all_taken 0 ≡ Some (record { replies = []; cradles = cradles_of 1 0 0 0; restarts = 0; claims = 1 })
  pub second_left : left_after circle_target circle_setting all_taken 1 ≡ Some (record { replies = []; cradles = cradles_of 1 0 0 0; restarts = 0; claims = 1 })
  pub third_left : left_after circle_target circle_setting all_taken 2
      ≡ Some (record { replies = replies.Nothing ∷ replies.Nothing ∷ []; cradles = cradles_of 1 0 0 0; restarts = 0; claims = 1 })
