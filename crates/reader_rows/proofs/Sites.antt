-- The rules over paths, at an instruction's place.
use Rattle.std.proofs.Common.{◌≡◌, ℕ, Bool, Some, sym, subst}
use Rattle.std.specs.Prelude.{slice_get}
use Rattle.norm_lang.specs.declared.text.Instr.{Instr}
use Rattle.norm_lang.specs.declared.text.Op.{Op}
use Rattle.norm_lang.specs.Kept.{code_of}
use Rattle.norm_paths.specs.declared.method.OpFacts.{OpFacts}
use Rattle.norm_paths.specs.Found.{Found, IsFound, IsOpWithin}
use Rattle.norm_paths.specs.OpFound.{AreOpFacts, IsSite, found_of}
use Rattle.norm_check.proofs.Answering.{found_true}

pub site_of : (op : Op) (facts : OpFacts) (wrapup : Bool) (at : ℕ) (i : Instr) (found : Found) → found ≡ found_of facts wrapup
    → IsOpWithin op → AreOpFacts op facts → slice_get (code_of op wrapup) at ≡ Some i → IsSite op wrapup at i found
site_of op facts wrapup at i found is within are stands = record {
  within = within;
  stands = stands;
  true_of = subst (λ (f : Found). IsFound op wrapup f) (sym is) (found_true op facts wrapup are);
}
