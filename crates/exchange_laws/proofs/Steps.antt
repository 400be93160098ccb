-- Parts of blocks, conditions of C that hold, and frames at another count of the same line.
use Rattle.std.proofs.Common.{◌≡◌, ℕ, suc, ◌+◌, Bool, true, false, List, ◌++◌, length, ◌==◌, sym, ◌∙◌, ap, arith}
use Rattle.std.proofs.lemmas.Bool.Decides.{nat_tests}
use Rattle.norm_lang.specs.declared.registers.Registers.{Registers}
use Rattle.c_language.specs.declared.lines.Line.{Line}
use Rattle.c_language.specs.Steps.{Frame, Stop, defined}
use Rattle.c_runtime.specs.KindLines.{HasLines}
use Rattle.emission_laws.specs.Hands.{Known, Stands}
use Rattle.emission_laws.proofs.Layouts.{lines_past}

pub isnt_zero : (j : ℕ) → (suc j == 0) ≡ false
isnt_zero j = grind (arith, nat_tests)

-- a line whose condition of C holds
pub is_defined : (b : Bool) (s : Stop) → b ≡ true → defined b s ≡ s
is_defined b s holds = ap (λ (x : Bool). defined x s) holds

pub both : (b : Bool) → b ≡ true → b ≡ false → ⊥
both b t f = let no : true ≡ false = sym t ∙ f in cc

pub stands_by : (known : Known) (registers : Registers) (line at : ℕ) (f : Frame) → line ≡ at → Stands known registers line f → Stands known registers at f
stands_by known registers line at f same stands = record { at = stands.at ∙ same; held = stands.held; seen = stands.seen; carried = stands.carried }

-- lines past a first part of so many
pub back_lines : (code : List Line) (base size : ℕ) (front back : List Line) → length front ≡ size → HasLines code base (front ++ back) → HasLines code (base + size) back
back_lines code base size front back is has = lines_past code base (base + size) front back (ap (λ (n : ℕ). base + n) is) has
