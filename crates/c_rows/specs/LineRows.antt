-- One line: values, and what strays.
use Rattle.std.specs.Prelude.{◌≡◌, ℕ, true, false, [], ◌∷◌, Some, None}
use Rattle.oa_words.specs.Words.{FieldOf}
use Rattle.phase_pools.specs.Accesses.{Loads, Stores, Exchanges}
use Rattle.c_language.specs.declared.lines.Parameter.TheVariants.{Slots, Callers, LastPhase, FirstSlot, Tops, Own}
use Rattle.c_language.specs.declared.lines.Operand.TheVariants.{Number, Local, Of}
use Rattle.c_language.specs.declared.lines.Value.{Value}
use Rattle.c_language.specs.declared.lines.Value.TheVariants as values
use Rattle.c_language.specs.declared.lines.Test.TheVariants as tests
use Rattle.c_language.specs.declared.lines.Place.TheVariants as places
use Rattle.c_language.specs.declared.lines.Line.{Line}
use Rattle.c_language.specs.declared.lines.Line.TheVariants as lines
use Rattle.c_language.specs.Steps.{Pool, Frame, Stop, Goes, Wants, Strays, value, test, stop, with_local, onward, goes_to}
use Rattle.c_language.specs.Threads.{kept_begun, frame_begun}

-- two callers, and three slots: 1 and 2 are of the first kind, whose nodes have two fields, and 3 is of the second, whose nodes have one
abbrev pub row_pool : Pool
row_pool = record { sizes = record { callers = 2; slots = 3; fields = 2; cells = 1; kinds = 2 ∷ 1 ∷ []; tops = 16 }; fields = 2 ∷ 1 ∷ []; last = 9; own = 1 }

-- local 16 is 5, and 17 is 3
abbrev pub row_frame : Frame
row_frame = frame_begun (5 ∷ 3 ∷ []) kept_begun

abbrev pub of_value : Value → ℕ → Type 0
of_value v x = value row_pool row_frame.locals v ≡ Some x

-- sums, differences and products wrap; nothing is divided by 0; a local that nothing set is 0
pub record ValueRows : Type 0 where
  pub below_zero : of_value (values.Minus (Number 0) (Number 1)) 18446744073709551615
  pub over_the_top : of_value (values.Plus (Number 18446744073709551615) (Number 1)) 0
  pub minus_itself : of_value (values.Minus (Local 16) (Local 16)) 0
  pub minus : of_value (values.Minus (Local 16) (Local 17)) 2
  pub doubled : of_value (values.Times (Number 9223372036854775808) (Number 2)) 0
  pub times : of_value (values.Times (Local 16) (Local 17)) 15
  pub over : of_value (values.Over (Number 7) (Number 4)) 1
  pub rest : of_value (values.Rest (Number 7) (Number 4)) 3
  pub over_zero : value row_pool row_frame.locals (values.Over (Number 7) (Number 0)) ≡ None
  pub rest_of_zero : value row_pool row_frame.locals (values.Rest (Number 7) (Local 0)) ≡ None
  pub unset : of_value (values.Is (Local 0)) 0
  pub argument : of_value (values.Is (Local 16)) 5
  pub past_arguments : of_value (values.Is (Local 18)) 0
  pub slots : of_value (values.Is (Of Slots)) 3
  pub callers : of_value (values.Is (Of Callers)) 2
  pub last : of_value (values.Is (Of LastPhase)) 9
  pub first : of_value (values.Is (Of (FirstSlot 0))) 1
  pub second : of_value (values.Is (Of (FirstSlot 1))) 3
  pub head_top : of_value (values.Rest (Number 35) (Of Tops)) 3
  pub head_phase : of_value (values.Over (Number 35) (Of Tops)) 2
  pub own : of_value (values.Is (Of Own)) 1
  pub below : test row_pool row_frame.locals (tests.Less (Local 17) (Local 16)) ≡ true
  pub not_below : test row_pool row_frame.locals (tests.Less (Local 16) (Local 16)) ≡ false
  pub equal : test row_pool row_frame.locals (tests.Equal (Local 16) (Number 5)) ≡ true
  pub differ : test row_pool row_frame.locals (tests.Differ (Local 16) (Number 5)) ≡ false

abbrev pub does : Line → Stop → Type 0
does line there = stop row_pool (line ∷ []) row_frame ≡ there

-- what C leaves undefined strays, and what is next to it doesn't
pub record StrayRows : Type 0 where
  pub divided : does (lines.Let 0 (values.Over (Local 16) (Local 17))) (Goes (with_local 0 1 row_frame))
  pub divided_by_zero : does (lines.Let 0 (values.Over (Local 16) (Local 18))) Strays
  -- slot 3 is of the second kind, and null has a row for each
  pub field : does (lines.Load 0 (places.Field 1 (Local 17) 0)) (Wants (Loads (FieldOf 3 0)) (λ word. with_local 0 word row_frame))
  pub field_of_null : does (lines.Load 0 (places.Field 1 (Local 18) 0)) (Wants (Loads (FieldOf 0 0)) (λ word. with_local 0 word row_frame))
  -- null's is loaded, and nothing is put there
  pub stored : does (lines.Store (places.Field 1 (Local 17) 0) (Local 16)) (Wants (Stores (FieldOf 3 0) 5) (λ word. onward row_frame))
  pub stored_at_null : does (lines.Store (places.Field 1 (Local 18) 0) (Local 16)) Strays
  pub exchanged : does (lines.Exchange 0 (places.Field 1 (Local 17) 0) (Number 0) (Number 1)) (Wants (Exchanges (FieldOf 3 0) 0 1) (λ word. with_local 0 word row_frame))
  pub exchanged_at_null : does (lines.Exchange 0 (places.Field 1 (Local 18) 0) (Number 0) (Number 1)) Strays
  pub field_of_another_kind : does (lines.Load 0 (places.Field 0 (Local 17) 0)) Strays
  pub field_past_the_last : does (lines.Load 0 (places.Field 1 (Local 17) 1)) Strays
  pub field_of_no_slot : does (lines.Store (places.Field 1 (Number 4) 0) (Number 0)) Strays
  pub field_of_no_kind : does (lines.Exchange 0 (places.Field 2 (Local 17) 0) (Number 0) (Number 1)) Strays
  pub noted : does (lines.Note (Number 4)) Strays
  pub cleared : does (lines.IfNoted (Number 4) 0) Strays
  pub no_cradle : does (lines.Get 0 16) Strays
  pub no_cradle_to_keep : does (lines.Keep 16 (Local 16)) Strays
  pub last_cradle : does (lines.Get 0 15) (Goes (with_local 0 0 row_frame))
  pub jump_past_the_end : stop row_pool (lines.Goto 1 ∷ []) (goes_to 1 row_frame) ≡ Strays
