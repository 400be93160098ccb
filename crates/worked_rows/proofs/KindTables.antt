-- The rows of the tests of one instruction, each computed from the test.
use Rattle.std.specs.Prelude.{◌≡◌, true, false, refl}
use Rattle.std.specs.List.{list_any, list_all}
use Rattle.norm_lang.specs.InstructionRules.{has_wrong_kind, computes_on_reference}
use Rattle.norm_lang.specs.PathRules.{looks, follows}
use Rattle.worked_rows.specs.Small.{r0, small_fields, small_roots}
use Rattle.worked_rows.specs.KindRows.{wrong_kinds, right_kinds, computing, not_computing, looking, not_looking, following, not_following, KindRows}

kinds_found : list_all (has_wrong_kind small_fields small_roots) wrong_kinds ≡ true
kinds_found = refl

kinds_passed : list_any (has_wrong_kind small_fields small_roots) right_kinds ≡ false
kinds_passed = refl

computing_found : list_all computes_on_reference computing ≡ true
computing_found = refl

computing_passed : list_any computes_on_reference not_computing ≡ false
computing_passed = refl

looking_found : list_all looks looking ≡ true
looking_found = refl

looking_passed : list_any looks not_looking ≡ false
looking_passed = refl

following_found : list_all (follows r0) following ≡ true
following_found = refl

following_passed : list_any (follows r0) not_following ≡ false
following_passed = refl

pub kind_rows : KindRows
kind_rows = record {
  kinds_found = kinds_found;
  kinds_passed = kinds_passed;
  computing_found = computing_found;
  computing_passed = computing_passed;
  looking_found = looking_found;
  looking_passed = looking_passed;
  following_found = following_found;
  following_passed = following_passed;
}
