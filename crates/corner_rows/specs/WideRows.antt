-- A `new` of three and of four fields, and calls with three and four arguments.
use Rattle.std.specs.Prelude.{◌≡◌, ℕ, List, [], ◌∷◌, ◌++◌, Some}
use Rattle.norm_lang.specs.declared.reply.SourceReply.TheVariants as replies
use Rattle.caller_parts.specs.declared.call.Call.{Call}
use Rattle.caller_parts.specs.Settings.{Setting}
use Rattle.core_rows.specs.Short.{call_of, setting_of, no_slots}
use Rattle.core_rows.specs.Stories.{Line, story, lines_after, left_after, calls, begins, passes, takes, draws, zeroes}
use Rattle.corner_rows.specs.CornerTargets.{three_fields_target, four_fields_target}

-- one slot, of so many fields
abbrev pub wide_setting : ℕ → Setting
wide_setting fields = setting_of 1 1 fields 1 0 1000

-- the fields get 0 in their order, and the store to the last makes the node
abbrev pub three_zeroed : List Line
three_zeroed = story (
    (begins 0 1 (call_of 0 0) ∷ [])
    ∷ takes 1 8193 0 8192 5
    ∷ (zeroes 1 0 ∷ zeroes 1 1 ∷ draws 1 2 ∷ passes 0 1 ∷ [])
    ∷ [])

abbrev pub four_zeroed : List Line
four_zeroed = story (
    (begins 0 1 (call_of 0 0) ∷ [])
    ∷ takes 1 8193 0 8192 5
    ∷ (zeroes 1 0 ∷ zeroes 1 1 ∷ zeroes 1 2 ∷ draws 1 3 ∷ passes 0 1 ∷ [])
    ∷ [])

-- calls with three and with four arguments
abbrev pub third_of : Call
third_of = record { op = 1; args = 5 ∷ 6 ∷ 7 ∷ 0 ∷ [] }

abbrev pub fourth_of : Call
fourth_of = record { op = 2; args = 5 ∷ 6 ∷ 7 ∷ 8 ∷ [] }

pub record WideRows : Type 0 where
  pub three : lines_after three_fields_target (wide_setting 3) [] (calls 0 (call_of 0 0) 9) ≡ three_zeroed
  pub four : lines_after four_fields_target (wide_setting 4) [] (calls 0 (call_of 0 0) 10) ≡ four_zeroed
  -- each replies its last argument
  pub arguments : left_after three_fields_target (wide_setting 3) (calls 0 third_of 2 ++ calls 0 fourth_of 2) 0
      ≡ Some (record { replies = replies.Number 7 ∷ replies.Number 8 ∷ []; cradles = no_slots; restarts = 0; claims = 0 })
