-- Rows with two kinds of nodes: the words at the start, two `new` of two kinds with a restart between them, and claims of one kind
-- that sweep for the other.
use Rattle.std.specs.Prelude.{◌≡◌, ℕ, ◌+◌, List, [], ◌∷◌, ◌++◌, codes, Some, Ok}
use Rattle.norm_lang.specs.declared.text.FieldDecl.{FieldDecl}
use Rattle.norm_lang.specs.declared.text.FieldKind.TheVariants as holdings
use Rattle.norm_lang.specs.declared.text.RootDecl.{RootDecl}
use Rattle.norm_lang.specs.declared.text.Instr.TheVariants.{Set, LoadRoot, New, Put, IfEq, Commit, Return, ReturnNone, Again}
use Rattle.norm_lang.specs.declared.text.Start.TheVariants as starts
use Rattle.norm_lang.specs.Shipped.{root_entry, retiring}
use Rattle.norm_lang.specs.declared.reply.SourceReply.TheVariants as replies
use Rattle.target_code.specs.declared.target.TargetInstr.TheVariants.{Plain, Check, Guard}
use Rattle.target_code.specs.declared.target.TargetOp.{TargetOp}
use Rattle.target_code.specs.declared.target.Target.{Target}
use Rattle.schedule_turns.specs.declared.turn.Turn.TheVariants as turns
use Rattle.oa_words.specs.Words.{Sizes, Status, FieldOf, Cell, Head, Link, address_of, word_count}
use Rattle.caller_parts.specs.declared.call.Call.{Call}
use Rattle.caller_parts.specs.declared.setting.Reclamation.TheVariants.{Optimistic}
use Rattle.caller_parts.specs.Settings.{Setting}
use Rattle.core_runs.specs.Machine.{CoreEvent, core_start}
use Rattle.core_rows.specs.Short.{n0, n3, n7, r0, r1, call_of}
use Rattle.core_rows.specs.Stories.{Line, Load, Store, Exchange, silent, story, lines_after, left_after, calls, steps, passes, ends, renews, draws, zeroes}
use Rattle.core_rows.specs.ReplayRows.{summary}

-- ---- texts

abbrev pub number_of : ℕ → List ℕ → FieldDecl
number_of owner name = record { owner = owner; name = name; kind = holdings.Number }

abbrev pub reference_of : ℕ → List ℕ → ℕ → FieldDecl
reference_of owner name kind = record { owner = owner; name = name; kind = holdings.Reference kind }

abbrev pub root_of : List ℕ → ℕ → ℕ → RootDecl
root_of name kind node = record { name = name; kind = holdings.Reference kind; start = starts.Node node }

abbrev pub item_and_pair : List (List ℕ)
item_and_pair = codes "item" ∷ codes "pair" ∷ []

-- a node of each kind, neither of which is put anywhere
abbrev pub both_op : TargetOp
both_op = record {
  name = codes "both";
  args = 0;
  generator = Plain (New r0 0) ∷ Check ∷ Plain (New r1 1) ∷ Check ∷ Plain (Commit []) ∷ [];
  wrapup = Plain ReturnNone ∷ [];
}

abbrev pub take_op : TargetOp
take_op = record { name = codes "take"; args = 0; generator = Plain (New r0 0) ∷ Check ∷ Plain (Commit []) ∷ []; wrapup = Plain ReturnNone ∷ [] }

-- a new node of a kind, with the argument in one of its fields, for a root; the root's node is retired
abbrev pub set_op : List ℕ → ℕ → ℕ → ℕ → TargetOp
set_op name root kind field = record {
  name = name;
  args = 1;
  generator =
      Plain (LoadRoot r1 root)
      ∷ Check
      ∷ Plain (New r0 kind)
      ∷ Check
      ∷ Plain (Put r0 field n0)
      ∷ Guard r1
      ∷ Guard r0
      ∷ Check
      ∷ Plain (Commit (retiring (root_entry root r1 r0) r1 ∷ []))
      ∷ [];
  wrapup = Plain (Set n3 0) ∷ Plain (IfEq n7 n3 3) ∷ Plain (Return n0) ∷ Plain Again ∷ [];
}

-- items have one field and pairs two
abbrev pub set_target : Target
set_target = record {
  kinds = item_and_pair;
  fields = number_of 0 (codes "key") ∷ number_of 1 (codes "left") ∷ number_of 1 (codes "right") ∷ [];
  roots = root_of (codes "a") 0 0 ∷ root_of (codes "b") 1 0 ∷ [];
  nodes = [];
  ops = set_op (codes "set_a") 0 0 0 ∷ set_op (codes "set_b") 1 1 1 ∷ both_op ∷ take_op ∷ [];
}

abbrev pub set_setting : ℕ → ℕ → ℕ → Setting
set_setting callers items pairs = record {
  reclamation = Optimistic;
  sizes = record { callers = callers; slots = items + pairs; fields = 2; cells = 2; kinds = items ∷ pairs ∷ []; tops = 8192 };
  first = 1;
  last = 1000000000;
  nodes = 0 ∷ 0 ∷ 0 ∷ 0 ∷ [];
}

-- ---- the words at the start

-- two items and a pair, which refer to each other: @1 with 7 leads to the pair @3, @2 has 8, and @3 with 4 and 5 leads to @2
abbrev pub meeting_target : Target
meeting_target = record {
  kinds = item_and_pair;
  fields =
      number_of 0 (codes "key")
      ∷ reference_of 0 (codes "mate") 1
      ∷ number_of 1 (codes "left")
      ∷ number_of 1 (codes "right")
      ∷ reference_of 1 (codes "of") 0
      ∷ [];
  roots = root_of (codes "a") 0 1 ∷ root_of (codes "b") 1 3 ∷ [];
  nodes =
      record { owner = 0; values = starts.Value 7 ∷ starts.Node 3 ∷ [] }
      ∷ record { owner = 0; values = starts.Value 8 ∷ starts.Node 0 ∷ [] }
      ∷ record { owner = 1; values = starts.Value 4 ∷ starts.Value 5 ∷ starts.Node 2 ∷ [] }
      ∷ [];
  ops = take_op ∷ [];
}

-- one caller; four slots for items, 1 to 4, and three for pairs, 5 to 7. A slot has three fields, as many as a pair
abbrev pub meeting_sizes : Sizes
meeting_sizes = record { callers = 1; slots = 7; fields = 3; cells = 2; kinds = 4 ∷ 3 ∷ []; tops = 8192 }

abbrev pub meeting_setting : Setting
meeting_setting = record { reclamation = Optimistic; sizes = meeting_sizes; first = 1; last = 1000; nodes = 2 ∷ 1 ∷ 0 ∷ 0 ∷ [] }

-- @1 and @2 stand in slots 1 and 2, and @3 in slot 5. The reference to a slot is twice its number
abbrev pub meeting_words : List ℕ
meeting_words =
    -- the phase, the place, the warning, the hazards
    1 ∷ 0 ∷ 1 ∷ 0 ∷ 0 ∷ 0 ∷ 0 ∷ 0 ∷ 0 ∷ 0 ∷ 0
    -- of slots 0 to 7: used is 4 * 1 + 1, and ready 4 * 1
    ∷ 5 ∷ 5 ∷ 5 ∷ 4 ∷ 4 ∷ 5 ∷ 4 ∷ 4
    -- three fields each
    ∷ 0 ∷ 0 ∷ 0
    ∷ 7 ∷ 10 ∷ 0
    ∷ 8 ∷ 0 ∷ 0
    ∷ 0 ∷ 0 ∷ 0
    ∷ 0 ∷ 0 ∷ 0
    ∷ 4 ∷ 5 ∷ 4
    ∷ 0 ∷ 0 ∷ 0
    ∷ 0 ∷ 0 ∷ 0
    -- the roots
    ∷ 2 ∷ 10
    -- the heads: 8192 * 1, and the least slot of the kind without an initial node
    ∷ 8195 ∷ 8198
    -- the links: slot 4 is the last for items, and slot 7 the last for pairs
    ∷ 0 ∷ 0 ∷ 0 ∷ 4 ∷ 0 ∷ 0 ∷ 7 ∷ 0
    ∷ []

pub record TwoKindStarts : Type 0 where
  pub words : (core_start meeting_target meeting_setting).words ≡ meeting_words
  pub count : word_count meeting_sizes ≡ 55
  pub last_status : address_of meeting_sizes (Status 7) ≡ 18
  pub third_of_pair : address_of meeting_sizes (FieldOf 5 2) ≡ 36
  pub second_root : address_of meeting_sizes (Cell 1) ≡ 44
  pub first_head : address_of meeting_sizes (Head 0) ≡ 45
  pub second_head : address_of meeting_sizes (Head 1) ≡ 46
  pub null_link : address_of meeting_sizes (Link 0) ≡ 47
  pub last_link : address_of meeting_sizes (Link 7) ≡ 54

-- ---- a restart between two `new`

-- a look that takes the slot on top of a kind's chain
abbrev pub takes_of : ℕ → ℕ → ℕ → ℕ → ℕ → ℕ → List Line
takes_of kind slot head link next used =
    silent (Load (Head kind) head) ∷ silent (Load (Link slot) link) ∷ silent (Exchange (Head kind) head next head) ∷ silent (Store (Status slot) used) ∷ []

abbrev pub both : Call
both = call_of 2 0

abbrev pub take : Call
take = call_of 3 0

-- one slot for items, and slots 2 and 3 for pairs. The first caller has its item; the second finds none, and raises the phase and
-- warns the first
abbrev pub warned : List CoreEvent
warned = calls 0 both 6 ++ calls 1 take 5

-- the check after the first `new` fails. Then it takes its slot from the cradle, and the second `new` claims the top pair, whose two
-- fields are zeroed
abbrev pub both_again : List Line
both_again = story (
    (renews 0 2 ∷ draws 1 0 ∷ passes 0 2 ∷ [])
    ∷ takes_of 1 2 8194 3 8195 5
    ∷ (zeroes 2 0 ∷ draws 2 1 ∷ ends 0 2 ∷ renews 0 2 ∷ [])
    ∷ [])

-- the first cradle of each of four kinds; all others are empty
abbrev pub first_cradles : ℕ → ℕ → List ℕ
first_cradles item pair = item ∷ 0 ∷ 0 ∷ 0 ∷ pair ∷ 0 ∷ 0 ∷ 0 ∷ 0 ∷ 0 ∷ 0 ∷ 0 ∷ 0 ∷ 0 ∷ 0 ∷ 0 ∷ []

pub record TwoKindCradles : Type 0 where
  pub item : left_after set_target (set_setting 2 1 2) (calls 0 both 6) 0 ≡ Some (record { replies = []; cradles = first_cradles 1 0; restarts = 0; claims = 1 })
  pub lines : lines_after set_target (set_setting 2 1 2) warned (steps 0 11) ≡ both_again
  -- each is the first `new` of its kind
  pub left : left_after set_target (set_setting 2 1 2) (warned ++ steps 0 11) 0
      ≡ Some (record { replies = replies.Nothing ∷ []; cradles = first_cradles 1 2; restarts = 1; claims = 2 })

-- ---- claims of one kind that sweep for the other

abbrev pub set_a : ℕ → Call
set_a key = call_of 0 key

abbrev pub set_b : ℕ → Call
set_b left = call_of 1 left

pub record TwoKindSweeps : Type 0 where
  -- one slot for items and two for pairs. The second `set_a` finds no item in two sweeps, of which the first makes a pair's slot
  -- ready: the pair that `set_b` makes then needs no sweep
  pub freed : summary set_target (set_setting 2 1 2) ((set_b 7 ∷ set_b 8 ∷ set_a 1 ∷ set_a 2 ∷ []) ∷ (set_b 9 ∷ []) ∷ []) (turns.Ops 0 4 ∷ turns.Ops 1 1 ∷ [])
      ≡ Ok (record { replies = (replies.Number 7 ∷ replies.Number 8 ∷ replies.Number 1 ∷ replies.Full ∷ []) ∷ (replies.Number 9 ∷ []) ∷ []; phase = 3; claims = 4; restarts = 0 })
  -- without the second `set_a` it sweeps itself, and begins once more
  pub unfreed : summary set_target (set_setting 2 1 2) ((set_b 7 ∷ set_b 8 ∷ set_a 1 ∷ []) ∷ (set_b 9 ∷ []) ∷ []) (turns.Ops 0 3 ∷ turns.Ops 1 1 ∷ [])
      ≡ Ok (record { replies = (replies.Number 7 ∷ replies.Number 8 ∷ replies.Number 1 ∷ []) ∷ (replies.Number 9 ∷ []) ∷ []; phase = 2; claims = 4; restarts = 1 })
  -- two slots for items and one for pairs: the last `set_b` frees an item's slot, which doesn't serve a pair
  pub full : summary set_target (set_setting 1 2 1) ((set_a 1 ∷ set_a 2 ∷ set_a 3 ∷ set_b 7 ∷ set_b 8 ∷ []) ∷ []) []
      ≡ Ok (record { replies = (replies.Number 1 ∷ replies.Number 2 ∷ replies.Number 3 ∷ replies.Number 7 ∷ replies.Full ∷ []) ∷ []; phase = 4; claims = 4; restarts = 1 })
