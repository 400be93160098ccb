-- What an operation asks, by its facts.
use Rattle.std.proofs.Common.{◌≡◌, ◌↔◌, ℕ, zero, suc, ◌≤◌, Bool, true, false, not, List, [], ◌∷◌, refl, sym, ◌∙◌, arith}
use Rattle.std.specs.Prelude.{nat_lt, IsTrue}
use Rattle.std.proofs.lemmas.Bool.Decides.{nat_tests}
use Rattle.norm_lang.specs.declared.text.Reg.{Reg}
use Rattle.norm_lang.specs.declared.text.Reg.TheVariants.{Num, Ref}
use Rattle.norm_lang.specs.declared.text.Op.{Op}
use Rattle.norm_lang.specs.Limits.{is_register}
use Rattle.norm_lang.specs.RegisterUse.{same_register}
use Rattle.norm_lang.specs.Kept.{IsCarried, IsKept}
use Rattle.norm_paths.specs.Found.{IsOpWithin, AreKept}
use Rattle.norm_paths.specs.Found as found
use Rattle.norm_paths.proofs.Starting.{carried_within, kept_within}
use Rattle.target_code.specs.Flaws.{IsHandedOver}
use Rattle.target_flaws.specs.Needs.{is_handed_by, is_kept_by, AreNeeds}

-- a number but the last is handed over exactly if it is carried
handed : (source : Op) (n : ℕ) (answer : Bool) → IsTrue (not (same_register (Num n) (Num 7))) → IsTrue answer ↔ IsCarried source (Num n) → IsTrue answer ↔ IsHandedOver source (Num n)
handed source n answer other right = ((λ so. (other, right.0 so)), λ over. right.1 over.1)

-- what is past the last register is carried nowhere
none_past : (source : Op) (r : Reg) → IsOpWithin source → is_register r ≡ false → IsCarried source r → ⊥
none_past source r within past carried = let no : true ≡ false = sym (carried_within source r within carried) ∙ past in cc

past : (n : ℕ) → nat_lt (suc (suc (suc (suc (suc (suc (suc (suc n)))))))) 8 ≡ false
past n = let le : 8 ≤ suc (suc (suc (suc (suc (suc (suc (suc n))))))) = omega arith in grind (arith, nat_tests)

kept_by : (source : Op) (n : ℕ) (answer : Bool) (kept : List Bool) → IsOpWithin source → answer ≡ found.is_kept_by kept (Ref n) → AreKept source kept → IsTrue answer ↔ IsKept source (Ref n)
kept_by source n answer kept within is are =
    let right = kept_within source kept (Ref n) within are in
    ((λ so. right.0 (sym is ∙ so)), λ keeps. is ∙ right.1 keeps)

-- what is asked, if each answer is right
pub are_needs : (source : Op) (kept : List Bool) (n0 n1 n2 n3 n4 n5 n6 r0 r1 r2 r3 r4 r5 r6 r7 : Bool) → IsOpWithin source → AreKept source kept
    → IsTrue n0 ↔ IsCarried source (Num 0)
    → IsTrue n1 ↔ IsCarried source (Num 1)
    → IsTrue n2 ↔ IsCarried source (Num 2)
    → IsTrue n3 ↔ IsCarried source (Num 3)
    → IsTrue n4 ↔ IsCarried source (Num 4)
    → IsTrue n5 ↔ IsCarried source (Num 5)
    → IsTrue n6 ↔ IsCarried source (Num 6)
    → r0 ≡ found.is_kept_by kept (Ref 0)
    → r1 ≡ found.is_kept_by kept (Ref 1)
    → r2 ≡ found.is_kept_by kept (Ref 2)
    → r3 ≡ found.is_kept_by kept (Ref 3)
    → r4 ≡ found.is_kept_by kept (Ref 4)
    → r5 ≡ found.is_kept_by kept (Ref 5)
    → r6 ≡ found.is_kept_by kept (Ref 6)
    → r7 ≡ found.is_kept_by kept (Ref 7)
    → AreNeeds source (record { handed_over = n0 ∷ n1 ∷ n2 ∷ n3 ∷ n4 ∷ n5 ∷ n6 ∷ false ∷ []; kept = r0 ∷ r1 ∷ r2 ∷ r3 ∷ r4 ∷ r5 ∷ r6 ∷ r7 ∷ [] })
are_needs source kept n0 n1 n2 n3 n4 n5 n6 r0 r1 r2 r3 r4 r5 r6 r7 within are n0_is n1_is n2_is n3_is n4_is n5_is n6_is r0_is r1_is r2_is r3_is r4_is r5_is r6_is r7_is = record { handed = over; kept = keeps }
  where
    over : (r : Reg) → IsTrue (is_handed_by (n0 ∷ n1 ∷ n2 ∷ n3 ∷ n4 ∷ n5 ∷ n6 ∷ false ∷ []) r) ↔ IsHandedOver source r
    over (Num zero) = handed source 0 n0 refl n0_is
    over (Num (suc zero)) = handed source 1 n1 refl n1_is
    over (Num (suc (suc zero))) = handed source 2 n2 refl n2_is
    over (Num (suc (suc (suc zero)))) = handed source 3 n3 refl n3_is
    over (Num (suc (suc (suc (suc zero))))) = handed source 4 n4 refl n4_is
    over (Num (suc (suc (suc (suc (suc zero)))))) = handed source 5 n5 refl n5_is
    over (Num (suc (suc (suc (suc (suc (suc zero))))))) = handed source 6 n6 refl n6_is
    over (Num (suc (suc (suc (suc (suc (suc (suc zero)))))))) = ((λ so. let no : false ≡ true = so in cc), λ handed_over. handed_over.0)
    over (Num (suc (suc (suc (suc (suc (suc (suc (suc n))))))))) =
        ((λ so. let no : false ≡ true = so in cc), λ handed_over. absurd (none_past source (Num (suc (suc (suc (suc (suc (suc (suc (suc n))))))))) within (past n) handed_over.1))
    over (Ref n) = ((λ so. let no : false ≡ true = so in cc), λ handed_over. handed_over.0)

    keeps : (r : Reg) → IsTrue (is_kept_by (r0 ∷ r1 ∷ r2 ∷ r3 ∷ r4 ∷ r5 ∷ r6 ∷ r7 ∷ []) r) ↔ IsKept source r
    keeps (Num n) = ((λ so. let no : false ≡ true = so in cc), λ kept_there. kept_there.0)
    keeps (Ref zero) = kept_by source 0 r0 kept within r0_is are
    keeps (Ref (suc zero)) = kept_by source 1 r1 kept within r1_is are
    keeps (Ref (suc (suc zero))) = kept_by source 2 r2 kept within r2_is are
    keeps (Ref (suc (suc (suc zero)))) = kept_by source 3 r3 kept within r3_is are
    keeps (Ref (suc (suc (suc (suc zero))))) = kept_by source 4 r4 kept within r4_is are
    keeps (Ref (suc (suc (suc (suc (suc zero)))))) = kept_by source 5 r5 kept within r5_is are
    keeps (Ref (suc (suc (suc (suc (suc (suc zero))))))) = kept_by source 6 r6 kept within r6_is are
    keeps (Ref (suc (suc (suc (suc (suc (suc (suc zero)))))))) = kept_by source 7 r7 kept within r7_is are
    keeps (Ref (suc (suc (suc (suc (suc (suc (suc (suc n))))))))) =
        ((λ so. let no : false ≡ true = so in cc), λ kept_there. absurd (none_past source (Ref (suc (suc (suc (suc (suc (suc (suc (suc n))))))))) within (past n) kept_there.1))
