-- Functions that call each other, and what their caller keeps.
use Rattle.std.specs.Prelude.{◌≡◌, true, false, List, [], ◌∷◌}
use Rattle.c_language.specs.declared.lines.Answer.TheVariants as answers
use Rattle.c_language.specs.declared.lines.Operand.TheVariants.{Number, Local}
use Rattle.c_language.specs.declared.lines.Value.TheVariants as values
use Rattle.c_language.specs.declared.lines.Line.{Line}
use Rattle.c_language.specs.declared.lines.Line.TheVariants as lines
use Rattle.c_language.specs.Steps.{Kept, keep, note}
use Rattle.c_language.specs.Threads.{Replies, Strays, kept_begun, thread_begun}
use Rattle.c_rows.specs.Running.{turns}
use Rattle.c_rows.specs.LineRows.{row_pool}

-- 0: an operation that calls 1, and answers with what it returned beside its own argument, which it kept in a local
abbrev pub outer : List Line
outer =
    lines.Let 0 (values.Times (Local 16) (Number 10))
    ∷ lines.Call 1 1
    ∷ lines.Let 1 (values.Plus (Local 0) (Local 1))
    ∷ lines.Reply answers.Number (Local 1)
    ∷ []

-- 1: its locals are its own, and are 0 at first. It keeps 7 in a cradle, sets the bit of slot 2, and returns what it finds in its local 16 and
-- in the cradle
abbrev pub inner : List Line
inner =
    lines.Keep 3 (Number 7)
    ∷ lines.Note (Number 2)
    ∷ lines.Get 0 3
    ∷ lines.Let 1 (values.Plus (Local 0) (Local 16))
    ∷ lines.Return (Local 1)
    ∷ []

-- 2: it answers with what stands in the cradle. 3: it returns to nobody. 4: it calls 2, which answers though a function waits. 5: it calls a
-- function that isn't there. 6: it goes on at 2 if the bit of slot 2 was set, and again: it was cleared. 7: it calls 8, which calls 1, and each of
-- 7 and 8 adds what it is returned to a local of its own
abbrev pub functions : List (List Line)
functions =
    outer
    ∷ inner
    ∷ (lines.Get 0 3 ∷ lines.Reply answers.Full (Local 0) ∷ [])
    ∷ (lines.Return (Number 1) ∷ [])
    ∷ (lines.Call 0 2 ∷ lines.Reply answers.Nothing (Number 0) ∷ [])
    ∷ (lines.Call 0 9 ∷ lines.Reply answers.Nothing (Number 0) ∷ [])
    ∷ (lines.IfNoted (Number 2) 2 ∷ lines.Reply answers.Nothing (Number 0) ∷ lines.IfNoted (Number 2) 4 ∷ lines.Reply answers.Phases (Number 1) ∷ lines.Reply answers.Number (Number 2) ∷ [])
    ∷ (lines.Let 0 (values.Is (Number 100)) ∷ lines.Call 1 8 ∷ lines.Let 1 (values.Plus (Local 0) (Local 1)) ∷ lines.Reply answers.Number (Local 1) ∷ [])
    ∷ (lines.Let 0 (values.Is (Number 20)) ∷ lines.Call 1 1 ∷ lines.Let 1 (values.Plus (Local 0) (Local 1)) ∷ lines.Return (Local 1) ∷ [])
    ∷ []

-- what the caller keeps after 0 ran
abbrev pub kept_after : Kept
kept_after = note 2 true (keep 3 7 kept_begun)

pub record ThreadRows : Type 0 where
  pub called : turns row_pool functions 20 (thread_begun 0 (4 ∷ []) kept_begun) ≡ Replies answers.Number 47 kept_after
  -- while 1 runs, both others wait
  pub called_within : turns row_pool functions 20 (thread_begun 7 [] kept_begun) ≡ Replies answers.Number 127 kept_after
  pub kept : turns row_pool functions 20 (thread_begun 2 [] kept_after) ≡ Replies answers.Full 7 kept_after
  pub not_kept : turns row_pool functions 20 (thread_begun 2 [] kept_begun) ≡ Replies answers.Full 0 kept_begun
  pub returned_to_nobody : turns row_pool functions 20 (thread_begun 3 [] kept_begun) ≡ Strays
  pub answered_from_within : turns row_pool functions 20 (thread_begun 4 [] kept_begun) ≡ Strays
  pub no_function : turns row_pool functions 20 (thread_begun 5 [] kept_begun) ≡ Strays
  pub bit_cleared : turns row_pool functions 20 (thread_begun 6 [] kept_after) ≡ Replies answers.Phases 1 (note 2 false (note 2 false kept_after))
  pub no_bit : turns row_pool functions 20 (thread_begun 6 [] kept_begun) ≡ Replies answers.Nothing 0 (note 2 false kept_begun)
