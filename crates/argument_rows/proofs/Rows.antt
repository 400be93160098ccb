-- The rows, computed, and the text's tables.
use Rattle.std.proofs.Common.{ℕ, ◌≡◌, true, false, [], ◌∷◌, refl}
use Rattle.norm_lang.specs.declared.text.Reg.TheVariants.{Num, Ref}
use Rattle.norm_lang.specs.Limits.{IsWithinLimits}
use Rattle.norm_lang.specs.NormalForm.{IsNormal}
use Rattle.source_machine.specs.MethodRuns.{MethodRun}
use Rattle.source_machine.specs.Proper.{itself, IsProperState}
use Rattle.closed_tables.specs.Tables.{OpTables}
use Rattle.closed_tables.proofs.Normal.{tables_show_normal}
use Rattle.argument_rows.specs.Calls.{CoreArgumentRows}
use Rattle.argument_rows.specs.Losing.{losing, lost, ArgumentRows}

improper : (runs : ℕ → MethodRun) → ¬ IsProperState lost runs
improper runs proper = let e : true ≡ false = proper.roots 0 1 (record { node = 1; marked = false }) refl (itself 1) in cc

pub argument_rows : ArgumentRows
argument_rows = record {
  greatest_word = refl;
  one_more = refl;
  past_the_count = refl;
  last_past_the_count = refl;
  none = refl;
  three = refl;
  five = refl;
  keeps = refl;
  would_retire = refl;
  would_stay = refl;
  would_be_improper = improper;
}

pub core_argument_rows : CoreArgumentRows
core_argument_rows = record {
  greatest_word = refl;
  one_more = refl;
  past_the_count = refl;
  last_past_the_count = refl;
  none = refl;
  three = refl;
  five = refl;
  no_operation = refl;
}

abbrev tables : OpTables
tables = record {
  generator = record {
    may_be_fresh = [];
    surely_fresh = [];
    set = [] ∷ (Num 1 ∷ []) ∷ (Num 1 ∷ []) ∷ (Num 1 ∷ []) ∷ (Num 1 ∷ Ref 0 ∷ []) ∷ [];
    level = [];
    rank = 0 ∷ 1 ∷ 2 ∷ 2 ∷ 3 ∷ [];
  };
  wrapup = record { may_be_fresh = []; surely_fresh = []; set = []; level = []; rank = [] };
}

pub losing_is_within : IsWithinLimits losing
losing_is_within = refl

pub losing_is_normal : IsNormal losing
losing_is_normal = tables_show_normal losing (tables ∷ []) refl
