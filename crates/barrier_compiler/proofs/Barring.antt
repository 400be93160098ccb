-- What a scheme makes of a text in normal form is barred for it.
use Rattle.std.proofs.Common.{◌≡◌, List, sym, subst}
use Rattle.norm_lang.specs.declared.text.Instr.{Instr}
use Rattle.norm_lang.specs.declared.text.Op.{Op}
use Rattle.norm_lang.specs.declared.text.Reg.{Reg}
use Rattle.norm_lang.specs.declared.text.Text.{Text}
use Rattle.norm_lang.specs.Limits.{IsWithinLimits}
use Rattle.norm_lang.specs.NormalForm.{IsNormal}
use Rattle.target_code.specs.declared.target.Target.{Target}
use Rattle.target_code.specs.Barred.{IsBarred}
use Rattle.target_code.specs.TargetLimits.{IsTargetWithinLimits}
use Rattle.target_code.specs.Blocks.{Marked, scheme}
use Rattle.target_code.specs.SecondScheme.{second_marks, second_scheme}
use Rattle.target_code.proofs.Keeping.{keeps_is_kept}
use Rattle.barrier_compiler.proofs.Erases.{scheme_erases}
use Rattle.barrier_compiler.proofs.Flawless.{IsScheme, scheme_is_flawless}
use Rattle.barrier_compiler.proofs.SchemeLimits.{scheme_is_within}
use Rattle.barrier_compiler.proofs.Combining.{second_is_scheme}

pub scheme_is_barred : (marks : List Instr → List Marked) → IsScheme marks → (text : Text) → IsWithinLimits text → IsNormal text → IsBarred (scheme marks text) text
scheme_is_barred marks is text within normal = record {
  erases = scheme_erases marks is.instrs text normal;
  flawless = scheme_is_flawless (λ (op : Op) (r : Reg) kept. (keeps_is_kept op r).1 kept) marks is text within normal;
}

pub second_scheme_is_barred : (text : Text) → IsWithinLimits text → IsNormal text → IsBarred (second_scheme text) text
second_scheme_is_barred = scheme_is_barred second_marks second_is_scheme

pub second_scheme_is_within : (text : Text) → IsWithinLimits text → IsTargetWithinLimits (second_scheme text)
second_scheme_is_within = scheme_is_within second_marks second_is_scheme.instrs

-- and so is a target that is what the scheme makes
pub compiled_is_barred : (text read : Text) (target : Target) → read ≡ text → IsWithinLimits read → IsNormal read → target ≡ second_scheme text → IsBarred target text
compiled_is_barred text read target same within normal is =
    subst (λ (t : Target). IsBarred t text) (sym is) (subst (λ (t : Text). IsBarred (second_scheme t) t) same (second_scheme_is_barred read within normal))

pub compiled_is_within : (text read : Text) (target : Target) → read ≡ text → IsWithinLimits read → target ≡ second_scheme text → IsTargetWithinLimits target
compiled_is_within text read target same within is =
    subst IsTargetWithinLimits (sym is) (subst (λ (t : Text). IsTargetWithinLimits (second_scheme t)) same (second_scheme_is_within read within))
