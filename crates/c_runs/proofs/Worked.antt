-- A run of two callers, worked by hand. Their function adds its argument to a root by a load and an exchange, begins again if the exchange fails,
-- and returns the sum.
use Rattle.std.specs.Prelude.{◌≡◌, ℕ, ◌+◌, ◌==◌, List, [], ◌∷◌, ◌++◌, Option, Some, None, if◌then◌else◌, slice_index, codes, refl}
use Rattle.norm_lang.specs.declared.reply.SourceReply.{SourceReply}
use Rattle.norm_lang.specs.declared.reply.SourceReply.TheVariants.{Number}
use Rattle.norm_lang.specs.declared.text.FieldKind.TheVariants as holdings
use Rattle.norm_lang.specs.declared.text.Start.TheVariants as starts
use Rattle.norm_lang.specs.LineWords.{item_kind}
use Rattle.norm_lang.specs.Shipped.{number_field}
use Rattle.target_code.specs.declared.target.Target.{Target}
use Rattle.oa_words.specs.Words.{Cell}
use Rattle.phase_pools.specs.Accesses.{Loads, Exchanges}
use Rattle.caller_parts.specs.declared.call.Call.{Call}
use Rattle.caller_parts.specs.declared.setting.Reclamation.TheVariants.{Optimistic}
use Rattle.caller_parts.specs.Settings.{Setting}
use Rattle.c_runs.specs.Machine.{Move, Goes, Wants, Rests, Functions, CState, CEvent, Calls, Runs, c_run, calls_made}
use Rattle.c_runs.specs.Promise.{c_start}

-- one operation of one argument, and one root, which begins with 7. Its code plays no part here
abbrev target : Target
target = record {
  kinds = item_kind ∷ [];
  fields = number_field (codes "pad") ∷ [];
  roots = record { name = codes "total"; kind = holdings.Number; start = starts.Value 7 } ∷ [];
  nodes = [];
  ops = record { name = codes "add"; args = 1; generator = []; wrapup = [] } ∷ [];
}

abbrev setting : Setting
setting = record {
  reclamation = Optimistic;
  sizes = record { callers = 2; slots = 2; fields = 1; cells = 1; kinds = 2 ∷ []; tops = 8192 };
  first = 1;
  last = 1000;
  nodes = 0 ∷ 0 ∷ 0 ∷ 0 ∷ [];
}

data Stage : Type 0 where
  Away : Stage
  Before : (argument : ℕ) → Stage
  Loaded : (argument word : ℕ) → Stage
  Added : (sum : ℕ) → Stage

record Adder : Type 0 where
  stage : Stage
  replies : List SourceReply

abbrev tried : Adder → ℕ → ℕ → ℕ → Adder
tried x argument word found = record x { stage = if found == word then Added (word + argument) else Before argument }

abbrev move : Adder → Move Adder
move x = by x.stage where
  by : Stage → Move Adder
  by Away = Rests
  by (Before argument) = Wants (Loads (Cell 0)) (λ word. record x { stage = Loaded argument word })
  by (Loaded argument word) = Wants (Exchanges (Cell 0) word (word + argument)) (tried x argument word)
  by (Added sum) = Goes (record { stage = Away; replies = x.replies ++ Number sum ∷ [] })

abbrev adders : Functions Adder
adders = record {
  start = λ c. record { stage = Away; replies = [] };
  call = λ call x. record x { stage = Before (slice_index call.args 0) };
  move = move;
  replies = λ x. x.replies;
}

abbrev add : ℕ → Call
add n = record { op = 0; args = n ∷ 0 ∷ 0 ∷ 0 ∷ [] }

-- both load 7; caller 1 leaves 10 and returns it; the exchange of caller 0 finds 10, so it loads again
abbrev disturbed : List CEvent
disturbed = Calls 0 (add 5) ∷ Runs 0 ∷ Calls 1 (add 3) ∷ Runs 1 ∷ Runs 1 ∷ Runs 1 ∷ Runs 0 ∷ []

-- then it leaves 15, which it has still to return
abbrev added : List CEvent
added = disturbed ++ Runs 0 ∷ Runs 0 ∷ []

-- the total, and what the calls of both have returned
record Left : Type 0 where
  total : ℕ
  first : List SourceReply
  second : List SourceReply

abbrev left : Option (CState Adder) → Option Left
left None = None
left (Some s) = Some (record { total = s.memory (Cell 0); first = (s.who 0).replies; second = (s.who 1).replies })

abbrev left_after : List CEvent → Option Left
left_after events = left (c_run target setting adders events (c_start target setting adders))

pub record AdderRows : Type 0 where
  started : left_after [] ≡ Some (record { total = 7; first = []; second = [] })
  once : left_after disturbed ≡ Some (record { total = 10; first = []; second = Number 10 ∷ [] })
  twice : left_after added ≡ Some (record { total = 15; first = []; second = Number 10 ∷ [] })
  returned : left_after (added ++ Runs 0 ∷ []) ≡ Some (record { total = 15; first = Number 15 ∷ []; second = Number 10 ∷ [] })
  again : left_after (added ++ Runs 0 ∷ Calls 0 (add 1) ∷ Runs 0 ∷ Runs 0 ∷ Runs 0 ∷ [])
      ≡ Some (record { total = 16; first = Number 15 ∷ Number 16 ∷ []; second = Number 10 ∷ [] })
  calls : calls_made 0 (added ++ Runs 0 ∷ Calls 0 (add 1) ∷ []) ≡ add 5 ∷ add 1 ∷ []
  other_calls : calls_made 1 added ≡ add 3 ∷ []
  -- a caller that runs can't be called, one that rests can't run, there is no third one, and neither a second operation nor a second argument
  busy : left_after (added ++ Calls 0 (add 1) ∷ []) ≡ None
  resting : left_after (added ++ Runs 1 ∷ []) ≡ None
  third : left_after (Calls 2 (add 1) ∷ []) ≡ None
  unknown : left_after (Calls 0 (record { op = 1; args = 0 ∷ 0 ∷ 0 ∷ 0 ∷ [] }) ∷ []) ≡ None
  surplus : left_after (Calls 0 (record { op = 0; args = 5 ∷ 1 ∷ 0 ∷ 0 ∷ [] }) ∷ []) ≡ None

pub adder_rows : AdderRows
adder_rows = record {
  started = refl;
  once = refl;
  twice = refl;
  returned = refl;
  again = refl;
  calls = refl;
  other_calls = refl;
  busy = refl;
  resting = refl;
  third = refl;
  unknown = refl;
  surplus = refl;
}
