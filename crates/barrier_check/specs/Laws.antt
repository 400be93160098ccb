-- What holds of barred targets and of first flaws.
use Rattle.std.specs.Prelude.{◌≡◌}
use Rattle.norm_lang.specs.declared.text.Text.{Text}
use Rattle.target_code.specs.declared.target.Target.{Target}
use Rattle.target_code.specs.Barred.{Flaw, IsBarred, IsFirstFlaw}

-- a target has at most one first flaw for a text
abbrev pub FirstFlawIsOne : Type 0
FirstFlawIsOne = (target : Target) (text : Text) (one other : Flaw) → IsFirstFlaw target text one → IsFirstFlaw target text other → one ≡ other

-- and one that has a first flaw isn't barred for it
abbrev pub FlawedIsNotBarred : Type 0
FlawedIsNotBarred = (target : Target) (text : Text) (flaw : Flaw) → IsFirstFlaw target text flaw → ¬ IsBarred target text
