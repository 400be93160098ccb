-- What a block makes of a register: what it exchanges is guarded and checked right before, and what isn't clean after it was
-- fetched there, or wasn't clean before, and no check stood in the block.
use Rattle.std.proofs.Common.{◌≡◌, ℕ, zero, suc, ◌⊎◌, inl, inr, Bool, true, false, not, ◌||◌, List, [], ◌∷◌, ◌++◌, map, Option, Some, None, refl, sym, ap, subst, ◌∙◌, arith}
use Rattle.std.specs.Prelude.{slice_get, IsTrue, if◌then◌else◌}
use Rattle.std.specs.List.{list_any, filter}
use Rattle.std.proofs.lemmas.Bool.Decides.{nat_tests}
use Rattle.std.proofs.lemmas.List.Folds.{list_any-append}
use Rattle.std.proofs.lemmas.Bool.{or_cases, or_left, or_right}
use Rattle.norm_lang.specs.declared.text.Reg.{Reg}
use Rattle.norm_lang.specs.declared.text.Reg.TheVariants.{Num, Ref}
use Rattle.norm_lang.specs.declared.text.Instr.{Instr}
use Rattle.norm_lang.specs.declared.text.Instr.TheVariants as instr
use Rattle.norm_lang.specs.declared.text.Op.{Op}
use Rattle.norm_lang.specs.Limits.{is_register}
use Rattle.norm_lang.specs.RegisterUse.{same_register, is_register_named, sources, destination, reads, reads_at, sets}
use Rattle.norm_lang.specs.Kept.{holds_reference, IsKept}
use Rattle.norm_lang.specs.PathRules.{is_commit}
use Rattle.norm_paths.specs.Found.{IsOpWithin}
use Rattle.norm_paths.proofs.Within.{register_same, reads_within, instr_within}
use Rattle.target_code.specs.declared.target.TargetInstr.TheVariants.{Plain, Check, Guard}
use Rattle.target_code.specs.Erasing.{redirected}
use Rattle.target_code.specs.Flaws.{fetches, clean_after, GuardState, Published, Validated, guard_after, checked, exchanged, Uses, NeedsGuard}
use Rattle.target_code.specs.Keeping.{keeps}
use Rattle.target_code.specs.Blocks.{all_references, once, kept_at, to_guard, Marked, check_if, barrier, block}
use Rattle.barrier_compiler.proofs.BlocksInLists.{run, run_both}

-- a register is one of a list
abbrev pub IsAmong : Reg → List Reg → Type 0
IsAmong r rs = IsTrue (list_any (same_register r) rs)

same_both : (a b : Reg) → same_register a b ≡ false → same_register b a ≡ false
same_both (Num a) (Num b) is = grind (arith, nat_tests)
same_both (Ref a) (Ref b) is = grind (arith, nat_tests)
same_both (Num a) (Ref b) is = refl
same_both (Ref a) (Num b) is = refl

-- among two lists
pub among_left : (r : Reg) (xs ys : List Reg) → IsAmong r xs → IsAmong r (xs ++ ys)
among_left r xs ys is = list_any-append (same_register r) xs ys ∙ or_left (list_any (same_register r) xs) (list_any (same_register r) ys) is

pub among_right : (r : Reg) (xs ys : List Reg) → IsAmong r ys → IsAmong r (xs ++ ys)
among_right r xs ys is = list_any-append (same_register r) xs ys ∙ or_right (list_any (same_register r) xs) (list_any (same_register r) ys) is

pub among_either : (r : Reg) (xs ys : List Reg) → IsAmong r (xs ++ ys) → IsAmong r xs ⊎ IsAmong r ys
among_either r xs ys is = or_cases (list_any (same_register r) xs) (list_any (same_register r) ys) (sym (list_any-append (same_register r) xs ys) ∙ is)

-- among those that pass a test
pub among_filtered : (test : Reg → Bool) (r : Reg) (rs : List Reg) → IsTrue (test r) → IsAmong r rs → IsAmong r (filter test rs)
among_filtered test r [] passes is = cc
among_filtered test r (a ∷ rs) passes is = elim (or_cases (same_register r a) (list_any (same_register r) rs) is) [
  | inl same ↦ (
      let kept : test a ≡ true = subst (λ z. IsTrue (test z)) (register_same r a same) passes in
      ap (λ b. list_any (same_register r) (if b then a ∷ filter test rs else filter test rs)) kept ∙ or_left (same_register r a) (list_any (same_register r) (filter test rs)) same)
  | inr later ↦ by_bool (test a) (among_filtered test r rs passes later)
]
  where
    by_bool : (b : Bool) → IsAmong r (filter test rs) → IsAmong r (if b then a ∷ filter test rs else filter test rs)
    by_bool true found = or_right (same_register r a) (list_any (same_register r) (filter test rs)) found
    by_bool false found = found

pub filtered_among : (test : Reg → Bool) (r : Reg) (rs : List Reg) → IsAmong r (filter test rs) → IsAmong r rs
filtered_among test r [] is = cc
filtered_among test r (a ∷ rs) is = by_bool (test a) (λ later. filtered_among test r rs later) is
  where
    by_bool : (b : Bool) → (IsAmong r (filter test rs) → IsAmong r rs) → IsAmong r (if b then a ∷ filter test rs else filter test rs) → IsAmong r (a ∷ rs)
    by_bool true rest found = elim (or_cases (same_register r a) (list_any (same_register r) (filter test rs)) found) [
      | inl same ↦ or_left (same_register r a) (list_any (same_register r) rs) same
      | inr later ↦ or_right (same_register r a) (list_any (same_register r) rs) (rest later)
    ]
    by_bool false rest found = or_right (same_register r a) (list_any (same_register r) rs) (rest found)

-- among the same registers, each once
pub among_once : (r : Reg) (rs : List Reg) → IsAmong r rs → IsAmong r (once rs)
among_once r [] is = cc
among_once r (a ∷ rs) is = by_bool (same_register r a) (λ later. among_once r rs later) refl is
  where
    by_bool : (b : Bool) → (IsAmong r rs → IsAmong r (once rs)) → same_register r a ≡ b → IsTrue (b || list_any (same_register r) rs) → IsAmong r (once (a ∷ rs))
    by_bool true rest same found = or_left (same_register r a) (list_any (same_register r) (filter (λ other. not (same_register a other)) (once rs))) same
    by_bool false rest other found =
        let apart : IsTrue (not (same_register a r)) = ap not (same_both r a other) in
        or_right (same_register r a) (list_any (same_register r) (filter (λ other. not (same_register a other)) (once rs)))
        (among_filtered (λ other. not (same_register a other)) r (once rs) apart (rest found))

pub once_among : (r : Reg) (rs : List Reg) → IsAmong r (once rs) → IsAmong r rs
once_among r [] is = cc
once_among r (a ∷ rs) is =
    elim (or_cases (same_register r a) (list_any (same_register r) (filter (λ other. not (same_register a other)) (once rs))) is) [
      | inl same ↦ or_left (same_register r a) (list_any (same_register r) rs) same
      | inr later ↦ or_right (same_register r a) (list_any (same_register r) rs) (once_among r rs (filtered_among (λ other. not (same_register a other)) r (once rs) later))
    ]

-- an instruction whose jump is taken elsewhere fetches, reads, sets, exchanges and commits the same
fetches_same : (place : ℕ → ℕ) (i : Instr) → fetches (redirected place i) ≡ fetches i
fetches_same place (instr.Cas entry l) = refl
fetches_same place _ = refl

sources_same : (place : ℕ → ℕ) (i : Instr) → sources (redirected place i) ≡ sources i
sources_same place (instr.Cas entry l) = refl
sources_same place _ = refl

destination_same : (place : ℕ → ℕ) (i : Instr) → destination (redirected place i) ≡ destination i
destination_same place (instr.Cas entry l) = refl
destination_same place _ = refl

exchanged_same : (place : ℕ → ℕ) (i : Instr) → exchanged (redirected place i) ≡ exchanged i
exchanged_same place (instr.Cas entry l) = refl
exchanged_same place _ = refl

commit_same : (place : ℕ → ℕ) (i : Instr) → is_commit (redirected place i) ≡ is_commit i
commit_same place (instr.Cas entry l) = refl
commit_same place _ = refl

-- what an instruction uses whose jump is taken elsewhere, it uses
pub uses_same : (place : ℕ → ℕ) (op : Op) (r : Reg) (i : Instr) → Uses op r (Plain (redirected place i)) → Uses op r (Plain i)
uses_same place op r i uses = elim uses [
  | inl reading ↦ inl (ap (list_any (same_register r)) (sym (sources_same place i)) ∙ reading)
  | inr commits ↦ inr (sym (commit_same place i) ∙ commits.0, commits.1)
]

-- after guards and a check a register is clean
guards_clean : (r : Reg) (rs : List Reg) (was : Bool) → run (clean_after r) (map Guard rs ++ (Check ∷ [])) was ≡ true
guards_clean r [] was = refl
guards_clean r (a ∷ rs) was = guards_clean r rs was

-- what isn't clean after a check that is only wanted at times: none stood there, and it wasn't clean before
pub unclean_behind : (r : Reg) (wanted was : Bool) → run (clean_after r) (check_if wanted) was ≡ false → (wanted ≡ false) × (was ≡ false)
unclean_behind r true was is = cc
unclean_behind r false was is = (refl, is)

pub unclean_barrier : (r : Reg) (wanted : Bool) (rs : List Reg) (was : Bool) → run (clean_after r) (barrier wanted rs) was ≡ false → (wanted ≡ false) × (was ≡ false)
unclean_barrier r wanted [] was is = unclean_behind r wanted was is
unclean_barrier r wanted (a ∷ rs) was is = let no : false ≡ true = sym is ∙ guards_clean r (a ∷ rs) was in cc

-- a register isn't clean after an instruction: a load or a `new` has set it, or it was so before, and no check stood there
abbrev pub IsUnclean : Reg → Marked → Type 0 → Type 0
IsUnclean r m Before = (IsTrue (sets r m.instr) × IsTrue (fetches m.instr)) ⊎ ((m.before ≡ false) × Before)

pub unclean_block : (r : Reg) (place : ℕ → ℕ) (op : Op) (m : Marked) (was : Bool) → run (clean_after r) (block place op m) was ≡ false
    → (m.after ≡ false) × IsUnclean r m (was ≡ false)
unclean_block r place op m was is =
    let passed : Bool = run (clean_after r) (barrier m.before (to_guard op m.instr)) was in
    let split : run (clean_after r) (block place op m) was ≡ run (clean_after r) (check_if m.after) (if sets r (redirected place m.instr) then not (fetches (redirected place m.instr)) else passed) =
    run_both (clean_after r) (barrier m.before (to_guard op m.instr)) (Plain (redirected place m.instr) ∷ check_if m.after) was in
    let behind = unclean_behind r m.after (if sets r (redirected place m.instr) then not (fetches (redirected place m.instr)) else passed) (sym split ∙ is) in
    let set : sets r (redirected place m.instr) ≡ sets r m.instr = ap (is_register_named r) (destination_same place m.instr) in
    let here : (if sets r m.instr then not (fetches m.instr) else passed) ≡ false =
    ap (λ b. if b then not (fetches m.instr) else passed) (sym set) ∙ ap (λ b. if sets r (redirected place m.instr) then not b else passed) (sym (fetches_same place m.instr)) ∙ behind.1 in
    (behind.0, by_bool (sets r m.instr) (fetches m.instr) refl here)
  where
    by_bool : (b fetched : Bool) → sets r m.instr ≡ b → (if b then not fetched else run (clean_after r) (barrier m.before (to_guard op m.instr)) was) ≡ false
        → (IsTrue b × IsTrue fetched) ⊎ ((m.before ≡ false) × (was ≡ false))
    by_bool true true set unclean = inl (refl, refl)
    by_bool true false set unclean = cc
    by_bool false fetched set unclean = inr (unclean_barrier r m.before (to_guard op m.instr) was unclean)

stays_published : (r : Reg) (rs : List Reg) → run (guard_after r) (map Guard rs) Published ≡ Published
stays_published r [] = refl
stays_published r (a ∷ rs) = by_bool (same_register r a) (stays_published r rs)
  where
    by_bool : (b : Bool) → run (guard_after r) (map Guard rs) Published ≡ Published → run (guard_after r) (map Guard rs) (if b then Published else Published) ≡ Published
    by_bool true rest = rest
    by_bool false rest = rest

guards_publish : (r : Reg) (rs : List Reg) (state : GuardState) → IsAmong r rs → run (guard_after r) (map Guard rs) state ≡ Published
guards_publish r [] state is = cc
guards_publish r (a ∷ rs) state is = by_bool (same_register r a) (λ later. guards_publish r rs state later) is
  where
    by_bool : (b : Bool) → (IsAmong r rs → run (guard_after r) (map Guard rs) state ≡ Published) → IsTrue (b || list_any (same_register r) rs) → run (guard_after r) (map Guard rs) (if b then Published else state) ≡ Published
    by_bool true rest found = stays_published r rs
    by_bool false rest found = rest found

-- a barrier that guards a register leaves its guard validated, whatever became of it before
pub barrier_validates : (r : Reg) (wanted : Bool) (rs : List Reg) (state : GuardState) → IsAmong r rs → run (guard_after r) (barrier wanted rs) state ≡ Validated
barrier_validates r wanted [] state is = cc
barrier_validates r wanted (a ∷ rs) state is = run_both (guard_after r) (map Guard (a ∷ rs)) (Check ∷ []) state ∙ ap checked (guards_publish r (a ∷ rs) state is)

-- if what may stand at a place reads a register, an instruction stands there
reads_some : (found : Option Instr) (r : Reg) → IsTrue (reads_at r found) → (i : Instr) × (found ≡ Some i) × IsTrue (reads r i)
reads_some None r is = cc
reads_some (Some i) r is = (i, refl, is)

reference_among : (r : Reg) → IsTrue (holds_reference r) → IsTrue (is_register r) → IsAmong r all_references
reference_among (Num n) is register = cc
reference_among (Ref zero) is register = refl
reference_among (Ref (suc zero)) is register = refl
reference_among (Ref (suc (suc zero))) is register = refl
reference_among (Ref (suc (suc (suc zero)))) is register = refl
reference_among (Ref (suc (suc (suc (suc zero))))) is register = refl
reference_among (Ref (suc (suc (suc (suc (suc zero)))))) is register = refl
reference_among (Ref (suc (suc (suc (suc (suc (suc zero))))))) is register = refl
reference_among (Ref (suc (suc (suc (suc (suc (suc (suc zero)))))))) is register = refl
reference_among (Ref (suc (suc (suc (suc (suc (suc (suc (suc n))))))))) is register = let no : ⊥ = grind (arith, nat_tests) in absurd no

-- a kept register is one of the eight registers of references
kept_among : (op : Op) (r : Reg) → IsOpWithin op → IsKept op r → IsAmong r all_references
kept_among op r within kept =
    let read = reads_some (slice_get op.wrapup kept.1.0) r kept.1.1 in
    let register = reads_within within.0 within.1 within.2 read.0 r (instr_within within.0 within.1 within.2 op true kept.1.0 read.0 within.3 read.1) read.2 in
    reference_among r kept.0 register

-- what an instruction needs guarded is what its block guards
pub needed : (place : ℕ → ℕ) (op : Op) (i : Instr) (r : Reg) → IsOpWithin op → ((r : Reg) → IsKept op r → IsTrue (keeps op r))
    → NeedsGuard op r (Plain (redirected place i)) → IsAmong r (to_guard op i)
needed place op i r within computed needs = among_once r (filter holds_reference (exchanged i) ++ kept_at op i) (elim needs [
  | inl exchange ↦
      among_left r (filter holds_reference (exchanged i)) (kept_at op i)
      (among_filtered holds_reference r (exchanged i) exchange.0 (subst (λ rs. IsAmong r rs) (exchanged_same place i) exchange.1))
  | inr commit ↦ (
      let commits : is_commit i ≡ true = sym (commit_same place i) ∙ commit.0 in
      among_right r (filter holds_reference (exchanged i)) (kept_at op i)
      (ap (λ b. list_any (same_register r) (if b then filter (keeps op) all_references else [])) commits
      ∙ among_filtered (keeps op) r all_references (computed r commit.1) (kept_among op r within commit.1)))
])
