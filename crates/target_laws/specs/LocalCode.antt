-- Where local code of a target settles.
use Rattle.std.specs.Prelude.{ℕ, ◌≡◌, ◌<◌, Bool, true, List, ◌++◌, length, slice_get, IsTrue, IsSomeAnd}
use Rattle.norm_lang.specs.declared.text.Text.{Text}
use Rattle.norm_lang.specs.Local.{Spot}
use Rattle.norm_lang.specs.NormalForm.{IsNormal}
use Rattle.target_laws.specs.local_laws.Settling.{SettlesBy, may_stop}
use Rattle.target_code.specs.declared.target.TargetInstr.{TargetInstr}
use Rattle.target_code.specs.declared.target.TargetInstr.TheVariants.{Plain, Check, Guard}
use Rattle.target_code.specs.declared.target.Target.{Target}
use Rattle.target_code.specs.LocalCode.{target_next_spot, target_run}
use Rattle.target_code.specs.Paths.{TargetPath}
use Rattle.target_code.specs.Erasing.{ErasesTo}
use Rattle.target_laws.specs.Methods.{Method, code_in}

-- local code of a target settles
abbrev pub TargetSettles : List TargetInstr → Spot → Spot → Type 0
TargetSettles code = SettlesBy (target_next_spot code)

-- local code of a target may stop at a check, at a guard, and where the text's may
abbrev pub target_may_stop : Bool → TargetInstr → Bool
target_may_stop wrapup (Plain i) = may_stop wrapup i
target_may_stop wrapup Check = true
target_may_stop wrapup (Guard r) = true

-- if a target erases to a text in normal form, local code of a method settles within as many steps as the method has
-- instructions
abbrev pub TargetCodeSettles : Type 0
TargetCodeSettles =
    (target : Target) (text : Text) → IsNormal text → ErasesTo target text → (method : Method target text) (here : Spot)
    → TargetSettles (code_in method) here (target_run (code_in method) (length (code_in method)) here)

-- and at one spot alone
abbrev pub TargetSettlesOnce : Type 0
TargetSettlesOnce = (code : List TargetInstr) (here one other : Spot) → TargetSettles code here one → TargetSettles code here other → one ≡ other

-- from a place of the method it settles at an instruction of the method where it may stop
abbrev pub TargetSettlesInside : Type 0
TargetSettlesInside =
    (target : Target) (text : Text) → IsNormal text → ErasesTo target text → (method : Method target text) (here there : Spot)
    → here.at < length (code_in method) → TargetSettles (code_in method) here there
    → IsSomeAnd (slice_get (code_in method) there.at) (λ i. IsTrue (target_may_stop method.wrapup i))

-- and if a path leads to the place, it leads on to there
abbrev pub TargetPathsLeadOn : Type 0
TargetPathsLeadOn =
    (target : Target) (text : Text) → IsNormal text → ErasesTo target text → (method : Method target text) (here there : Spot) (path : List ℕ)
    → TargetPath (code_in method) path here.at → TargetSettles (code_in method) here there
    → (further : List ℕ) × TargetPath (code_in method) (further ++ path) there.at
