-- The claims of up to four kinds can be printed, so the header of a text is read back.
use Rattle.std.proofs.Common.{◌≡◌, ℕ, zero, suc, ◌≤◌, true, List, [], ◌∷◌, ◌++◌, length, Some, refl, ap, ◌∙◌, sym, arith}
use Rattle.std.specs.List.{list_all}
use Rattle.c_language.specs.declared.lines.Line.{Line}
use Rattle.c_printer.specs.Names.{claim_names}
use Rattle.c_printer.specs.Fitting.{is_fitting_code}
use Rattle.c_printer.specs.Header.{header_text}
use Rattle.c_printer.specs.FileRead.{header_said}
use Rattle.c_printer.proofs.HeaderBack.{headers_back}
use Rattle.oac_cli.specs.Emitted.{strides_of, claim_of, claims_of, EmittedReadsBack}
use Rattle.oac_cli.proofs.Counting.{counted_length}

claims_fit : (kinds : ℕ) → kinds ≤ 4 → list_all (is_fitting_code claim_names) (claims_of kinds) ≡ true
claims_fit zero few = refl
claims_fit (suc zero) few = refl
claims_fit (suc (suc zero)) few = refl
claims_fit (suc (suc (suc zero))) few = refl
claims_fit (suc (suc (suc (suc zero)))) few = refl
claims_fit (suc (suc (suc (suc (suc kinds))))) few = absurd (let f : ⊥ = omega (arith, few) in f)

none_more : (claims : List (List Line)) → claims ++ [] ≡ claims
none_more [] = refl
none_more (code ∷ claims) = ap (λ (l : List (List Line)). code ∷ l) (none_more claims)

pub emitted_back : EmittedReadsBack
emitted_back name text is few =
    let claims = claims_of (length text.kinds) in
    ap (λ (n : ℕ). header_said name (strides_of text) text.roots text.nodes n [] (header_text name (strides_of text) text.roots text.nodes claims [])) (sym (counted_length (claim_of (length text.kinds)) 0 (length text.kinds)))
    ∙ headers_back name (strides_of text) text.roots text.nodes claims [] is (claims_fit (length text.kinds) few) refl
    ∙ ap Some (none_more claims)
