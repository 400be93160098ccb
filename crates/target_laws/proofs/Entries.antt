-- At an exchange, on the caller's own path: what one of its exchanges reads, and what of it is guarded.
use Rattle.std.proofs.Common.{◌≡◌, ℕ, zero, suc, inl, inr, Bool, true, false, List, [], ◌∷◌, ◌++◌, Some, None, sym, subst}
use Rattle.std.specs.Prelude.{slice_get, IsTrue}
use Rattle.std.specs.List.{list_any, flat_map}
use Rattle.std.proofs.lemmas.Bool.{or_cases, or_left, or_right}
use Rattle.norm_lang.specs.declared.text.Reg.{Reg}
use Rattle.norm_lang.specs.declared.text.CasEntry.{CasEntry}
use Rattle.norm_lang.specs.declared.text.Instr.{Instr}
use Rattle.norm_lang.specs.declared.text.Instr.TheVariants as instr
use Rattle.norm_lang.specs.RegisterUse.{same_register, operands_of, entry_sources, reads}
use Rattle.target_code.specs.declared.target.TargetInstr.TheVariants.{Plain}
use Rattle.target_code.specs.Flaws.{exchanged}
use Rattle.target_laws.specs.Uses.{entries_of, EntriesAreClean, EntriesAreValidated}
use Rattle.target_laws.proofs.Used.{clean_where_used, validated_where_needed}

-- ---- an item of one of several lists

any_before : {X : Type 0} (test : X → Bool) (xs ys : List X) → IsTrue (list_any test xs) → IsTrue (list_any test (xs ++ ys))
any_before test [] ys is = absurd (let no : false ≡ true = is in cc)
any_before test (x ∷ xs) ys is = elim (or_cases (test x) (list_any test xs) is) [ inl here ↦ or_left (test x) _ here | inr more ↦ or_right (test x) _ (any_before test xs ys more) ]

any_after : {X : Type 0} (test : X → Bool) (xs ys : List X) → IsTrue (list_any test ys) → IsTrue (list_any test (xs ++ ys))
any_after test [] ys is = is
any_after test (x ∷ xs) ys is = or_right (test x) _ (any_after test xs ys is)

-- a register of one exchange of a list is one of the list
any_of_entries : (test : Reg → Bool) (of : CasEntry → List Reg) (entries : List CasEntry) (k : ℕ) (entry : CasEntry) → slice_get entries k ≡ Some entry → IsTrue (list_any test (of entry)) → IsTrue (list_any test (flat_map of entries))
any_of_entries test of [] k entry is any = absurd (let no : None ≡ Some entry = is in cc)
any_of_entries test of (first ∷ entries) zero entry is any = let same : first ≡ entry = cc in any_before test (of first) _ (subst (λ e. IsTrue (list_any test (of e))) (sym same) any)
any_of_entries test of (first ∷ entries) (suc k) entry is any = any_after test (of first) _ (any_of_entries test of entries k entry is any)

single : (xs : List Reg) (test : Reg → Bool) → IsTrue (list_any test (xs ++ [])) → IsTrue (list_any test xs)
single [] test is = is
single (x ∷ xs) test is = elim (or_cases (test x) (list_any test (xs ++ [])) is) [ inl here ↦ or_left (test x) _ here | inr more ↦ or_right (test x) _ (single xs test more) ]

-- ---- an instruction reads and exchanges what its exchanges do

pub reads_entry : (i : Instr) (k : ℕ) (entry : CasEntry) (r : Reg) → slice_get (entries_of i) k ≡ Some entry → IsTrue (list_any (same_register r) (entry_sources entry)) → IsTrue (reads r i)
reads_entry (instr.Cas entry' l) k entry r is any = single (entry_sources entry') (same_register r) (any_of_entries (same_register r) entry_sources (entry' ∷ []) k entry is any)
reads_entry (instr.Commit entries) k entry r is any = any_of_entries (same_register r) entry_sources entries k entry is any
reads_entry _ k entry r is any = absurd (let no : None ≡ Some entry = is in cc)

pub exchanges_entry : (i : Instr) (k : ℕ) (entry : CasEntry) (r : Reg) → slice_get (entries_of i) k ≡ Some entry → IsTrue (list_any (same_register r) (operands_of entry)) → IsTrue (list_any (same_register r) (exchanged i))
exchanges_entry (instr.Cas entry' l) k entry r is any = single (operands_of entry') (same_register r) (any_of_entries (same_register r) operands_of (entry' ∷ []) k entry is any)
exchanges_entry (instr.Commit entries) k entry r is any = any_of_entries (same_register r) operands_of entries k entry is any
exchanges_entry _ k entry r is any = absurd (let no : None ≡ Some entry = is in cc)

-- ---- on the caller's own path

pub entries_are_clean : EntriesAreClean
entries_are_clean target text barred method path at i k entry r came one any = clean_where_used target text barred method path at (Plain i) r came (inl (reads_entry i k entry r one any))

pub entries_are_validated : EntriesAreValidated
entries_are_validated target text barred method path at i k entry r came one holds any = validated_where_needed target text barred method path at (Plain i) r came (inl (holds, exchanges_entry i k entry r one any))
