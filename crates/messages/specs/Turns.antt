-- The turn of the schedule at which a replay stopped, and the sentence on it.
use Rattle.std.specs.Prelude.{ℕ, Bool, ◌&&◌, ◌||◌, List, [], ◌∷◌, Option, codes, decimal, nat_lt}
use Rattle.std.specs.List.{concat}
use Rattle.oa_text.specs.Lines.{TextLine}
use Rattle.statuses.specs.Explanations.{shape_words}
use Rattle.message_lines.specs.Places.{◌>>=◌, trimmed, begins, begins_after, line_that}

-- a line past this number is a turn
abbrev pub is_turn_after : ℕ → TextLine → Bool
is_turn_after after line = nat_lt after line.number && (begins (codes "step") line || (begins (codes "upto") line || begins (codes "op") line))

-- the turn of the schedule after so many
abbrev pub stopped_line : List ℕ → ℕ → Option TextLine
stopped_line bytes whole = do
  schedule ← line_that (begins_after 0 (codes "schedule")) bytes 0
  line_that (is_turn_after schedule.number) bytes whole

-- at which turn a replay stopped, after so many steps
abbrev pub turn_sentence : TextLine → ℕ → List ℕ
turn_sentence line steps = concat (
    codes "oa: line " ∷ decimal line.number ∷ codes ": the replay stopped after " ∷ decimal steps ∷ codes " steps, at '" ∷ trimmed line ∷ codes "': " ∷ shape_words 10
    ∷ codes ". See 'What can be run' in docs/language.md.\n" ∷ [])

-- the same, if memory ran out before the turn was found
abbrev pub unfound_sentence : ℕ → List ℕ
unfound_sentence steps = concat (
    codes "oa: the replay stopped after " ∷ decimal steps ∷ codes " steps, at a turn that there was no memory to find: " ∷ shape_words 10
    ∷ codes ". See 'What can be run' in docs/language.md.\n" ∷ [])
