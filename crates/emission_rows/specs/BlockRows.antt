-- Blocks written out, and where they stand.
use Rattle.std.specs.Prelude.{◌≡◌, true, [], ◌∷◌, length, Some, None, slice_get}
use Rattle.norm_lang.specs.declared.text.Reg.TheVariants.{Ref}
use Rattle.caller_parts.specs.Spared.{kept_by}
use Rattle.c_language.specs.declared.lines.Answer.TheVariants as answers
use Rattle.c_language.specs.declared.lines.Parameter.TheVariants.{Own, LastPhase}
use Rattle.c_language.specs.declared.lines.Operand.TheVariants.{Number, Local, Of}
use Rattle.c_language.specs.declared.lines.Value.TheVariants as values
use Rattle.c_language.specs.declared.lines.Place.TheVariants as places
use Rattle.c_language.specs.declared.lines.Test.TheVariants as tests
use Rattle.c_language.specs.declared.lines.Line.TheVariants as lines
use Rattle.c_emission.specs.Blocks.{guard_block, clear_lines}
use Rattle.c_emission.specs.Exchanges.{field_exchange, retire_lines, commit_block}
use Rattle.c_emission.specs.Ends.{cradle_block}
use Rattle.c_emission.specs.Operations.{operation_lines, generator_warned, wrap_up_line, restart_line, wrap_up_first, wrap_up_warned}
use Rattle.emission_rows.specs.Targets.{stack, pop, peek}

pub record BlockRows : Type 0 where
  pub guard : guard_block (Ref 3)
      ≡ lines.Let 30 (values.Over (Local 11) (Number 2)) ∷ lines.Store (places.Hazard (Of Own) (Number 3)) (Local 30) ∷ lines.Let 24 (values.Is (Local 30)) ∷ []
  -- one register of two is spared
  pub clear : clear_lines (true ∷ []) 40 0 2
      ≡ lines.If (tests.Equal (Local 22) (Number 0)) 43 ∷ lines.Store (places.Hazard (Of Own) (Number 1)) (Number 0) ∷ lines.Let 22 (values.Is (Number 0)) ∷ []
  pub exchange : field_exchange 100 (Ref 2) 1 3 (Ref 4) (Ref 5) 7
      ≡ lines.Let 30 (values.Over (Local 10) (Number 2)) ∷ lines.If (tests.Differ (Local 30) (Number 0)) 104
      ∷ lines.Load 29 (places.Field 1 (Number 0) 3) ∷ lines.Goto 7
      ∷ lines.Exchange 29 (places.Field 1 (Local 30) 3) (Local 12) (Local 13) ∷ lines.If (tests.Differ (Local 29) (Local 12)) 7 ∷ []
  pub retire : retire_lines 50 (Some (Ref 6))
      ≡ lines.Let 30 (values.Over (Local 14) (Number 2)) ∷ lines.If (tests.Equal (Local 30) (Number 0)) 56 ∷ lines.Load 31 places.Phase
      ∷ lines.Let 31 (values.Times (Local 31) (Number 4)) ∷ lines.Let 31 (values.Plus (Local 31) (Number 2)) ∷ lines.Store (places.Status (Local 30)) (Local 31) ∷ []
  pub empty_commit : commit_block [] 1 99 20 0 [] ≡ lines.Let 32 (values.Is (Number 0)) ∷ lines.Goto 99 ∷ []
  pub cradle : cradle_block 10 2 9
      ≡ lines.Get 30 9 ∷ lines.If (tests.Differ (Local 30) (Number 0)) 18 ∷ lines.Call 30 2 ∷ lines.If (tests.Equal (Local 30) (Number 0)) 16
      ∷ lines.If (tests.Differ (Local 30) (Number 18446744073709551615)) 17 ∷ lines.Reply answers.Phases (Of LastPhase) ∷ lines.Reply answers.Full (Number 0)
      ∷ lines.Keep 9 (Local 30) ∷ []

-- `pop`, by the lines of its parts: the load of the root is line 17, the guard 18 to 20, the checks 21 and 25, the commit 27 to 50
pub record PlaceRows : Type 0 where
  pub warned : generator_warned stack pop ≡ 51
  pub wrap_up : wrap_up_line stack pop ≡ 77
  pub restart : restart_line stack pop ≡ 119
  pub first : wrap_up_first stack pop ≡ 135
  pub wrap_warned : wrap_up_warned stack pop ≡ 187
  pub size : length (operation_lines stack pop) ≡ 213
  -- the wrap-up of `peek` keeps r0, so its clears have three lines fewer
  pub kept : slice_get (kept_by (Some peek)) 0 ≡ Some true
  pub peek_warned : generator_warned stack peek ≡ 25
  pub peek_restart : restart_line stack peek ≡ 90
  pub begun : slice_get (operation_lines stack pop) 0 ≡ Some (lines.Load 20 (places.Warning (Of Own)))
  pub check : slice_get (operation_lines stack pop) 22 ≡ Some (lines.If (tests.Differ (Local 29) (Local 20)) 51)
  pub failed : slice_get (operation_lines stack pop) 29 ≡ Some (lines.If (tests.Differ (Local 29) (Local 8)) 77)
  pub again : slice_get (operation_lines stack pop) 76 ≡ Some (lines.Goto 1)
  pub count : slice_get (operation_lines stack pop) 77 ≡ Some (lines.Let 7 (values.Is (Local 32)))
  pub jump : slice_get (operation_lines stack pop) 136 ≡ Some (lines.If (tests.Less (Local 7) (Local 0)) 162)
  pub begins_again : slice_get (operation_lines stack pop) 186 ≡ Some (lines.Goto 0)
  pub wraps_again : slice_get (operation_lines stack pop) 212 ≡ Some (lines.Goto 119)
  pub past : slice_get (operation_lines stack pop) 213 ≡ None
