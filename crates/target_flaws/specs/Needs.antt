-- What an operation of a text asks of the target that is compiled of it: what its wrap-up uses of what registers hold at the
-- commit.
use Rattle.std.specs.Prelude.{◌↔◌, Bool, false, List, slice_index_or, IsTrue}
use Rattle.norm_lang.specs.declared.text.Reg.{Reg}
use Rattle.norm_lang.specs.declared.text.Reg.TheVariants.{Num, Ref}
use Rattle.norm_lang.specs.declared.text.Op.{Op}
use Rattle.norm_lang.specs.Kept.{IsKept}
use Rattle.target_code.specs.Flaws.{IsHandedOver}
use Rattle.target_flaws.specs.declared.needs.Needs.{Needs}

-- a number that a commit hands over to the wrap-up, by the answers for numbers
abbrev pub is_handed_by : List Bool → Reg → Bool
is_handed_by answers (Num n) = slice_index_or answers n false
is_handed_by answers (Ref n) = false

-- a reference that the wrap-up keeps, by the answers for references
abbrev pub is_kept_by : List Bool → Reg → Bool
is_kept_by answers (Num n) = false
is_kept_by answers (Ref n) = slice_index_or answers n false

-- they are what the operation asks
pub record AreNeeds (source : Op) (needs : Needs) : Type 0 where
  pub handed : (r : Reg) → IsTrue (is_handed_by needs.handed_over r) ↔ IsHandedOver source r
  pub kept : (r : Reg) → IsTrue (is_kept_by needs.kept r) ↔ IsKept source r
