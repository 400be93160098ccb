-- The flaws of an instruction, by what was found out.
use Rattle.std.proofs.Common.{◌≡◌, ◌↔◌, inl, inr, ℕ, ◌-◌, ◌≤◌, Bool, true, false, ◌&&◌, ◌||◌, List, [], ◌∷◌, refl, sym, subst, ◌∙◌, arith}
use Rattle.std.specs.Prelude.{slice_index_or, IsTrue}
use Rattle.std.specs.List.{list_any, flat_map}
use Rattle.std.proofs.lemmas.List.Folds.{list_any-append}
use Rattle.std.proofs.lemmas.Bool.{or_cases, or_left, or_right, and_from}
use Rattle.norm_lang.specs.declared.text.Reg.{Reg}
use Rattle.norm_lang.specs.declared.text.Reg.TheVariants.{Num, Ref}
use Rattle.norm_lang.specs.declared.text.CasEntry.{CasEntry}
use Rattle.norm_lang.specs.declared.text.Instr.{Instr}
use Rattle.norm_lang.specs.declared.text.Instr.TheVariants as instr
use Rattle.norm_lang.specs.declared.text.Op.{Op}
use Rattle.norm_lang.specs.Limits.{is_register}
use Rattle.norm_lang.specs.RegisterUse.{same_register, operands_of, registers_named, entry_sources, reads}
use Rattle.norm_lang.specs.Kept.{holds_reference, IsKept}
use Rattle.norm_paths.specs.Found.{IsOpWithin, all_registers}
use Rattle.norm_paths.proofs.Reading.{any_of_all}
use Rattle.norm_paths.proofs.Within.{and_left, and_right, reads_within, register_same}
use Rattle.norm_paths.proofs.Starting.{carried_within}
use Rattle.norm_paths.proofs.RuleLemmas.{both_tests}
use Rattle.target_code.specs.declared.target.TargetInstr.{TargetInstr}
use Rattle.target_code.specs.declared.target.TargetInstr.TheVariants.{Plain, Check, Guard}
use Rattle.target_code.specs.Paths.{target_reads}
use Rattle.target_code.specs.Flaws.{GuardState, Free, Published, Dropped, MayBeUnchecked, MayBeGuarded, Uses, exchanged, target_commits, target_exchanges, guards, NeedsGuard, NeedsMore, UsesUnchecked, HasGuardDropped}
use Rattle.target_code.specs.TargetLimits.{is_target_instr}
use Rattle.target_code.specs.Barred.{FlawKind, ErasesDifferently, UncheckedUse, Unguarded, GuardAfterCheck, GuardDropped, kind_number, IsFlawed}
use Rattle.target_flaws.specs.declared.needs.Needs.{Needs}
use Rattle.target_flaws.specs.Machines.{guard_number}
use Rattle.target_flaws.specs.Needs.{is_handed_by, is_kept_by, AreNeeds}
use Rattle.target_flaws.specs.Found.{TargetFound, may_be_unchecked_by, may_be_guarded_by, AreTargetFacts}
use Rattle.target_flaws.specs.FlawAnswers.{IsTargetSite, AreFlawAnswers, uses_by, needs_guard_by, needs_more_by, guards_kept_by, flaw_answers_by}

-- an operand of some exchange of a commit
pub operand_of_some : (r : Reg) (entries : List CasEntry) (result : Bool) → result ≡ list_any (λ entry. list_any (same_register r) (operands_of entry)) entries
    → result ≡ list_any (same_register r) (flat_map operands_of entries)
operand_of_some r entries result is = is ∙ any_of_all (same_register r) operands_of entries

-- an operand of an exchange is read
operand_read : (r : Reg) (entry : CasEntry) → IsTrue (list_any (same_register r) (operands_of entry)) → IsTrue (list_any (same_register r) (entry_sources entry))
operand_read r entry is =
    list_any-append (same_register r) (operands_of entry) (registers_named entry.retire)
    ∙ or_left (list_any (same_register r) (operands_of entry)) (list_any (same_register r) (registers_named entry.retire)) is

operands_read : (r : Reg) (entries : List CasEntry) → IsTrue (list_any (same_register r) (flat_map operands_of entries)) → IsTrue (list_any (same_register r) (flat_map entry_sources entries))
operands_read r [] is = cc
operands_read r (entry ∷ entries) is =
    let operand = list_any (same_register r) (operands_of entry) in
    let more = list_any (same_register r) (flat_map operands_of entries) in
    let source = list_any (same_register r) (entry_sources entry) in
    let later = list_any (same_register r) (flat_map entry_sources entries) in
    list_any-append (same_register r) (entry_sources entry) (flat_map entry_sources entries)
    ∙ elim (or_cases operand more (sym (list_any-append (same_register r) (operands_of entry) (flat_map operands_of entries)) ∙ is)) [
      | inl first ↦ or_left source later (operand_read r entry first)
      | inr rest ↦ or_right source later (operands_read r entries rest)
    ]

exchanged_read : (r : Reg) (i : Instr) → IsTrue (list_any (same_register r) (exchanged i)) → IsTrue (reads r i)
exchanged_read r (instr.Cas entry l) is = operand_read r entry is
exchanged_read r (instr.Commit entries) is = operands_read r entries is
exchanged_read r _ is = cc

-- what an instruction within the limits reads, exchanges or guards is a register
target_reads_within : (kinds fields roots : ℕ) (i : TargetInstr) (r : Reg) → IsTrue (is_target_instr kinds fields roots i) → IsTrue (target_reads r i) → IsTrue (is_register r)
target_reads_within kinds fields roots (Plain i) r limits is = reads_within kinds fields roots i r limits is
target_reads_within kinds fields roots Check r limits is = cc
target_reads_within kinds fields roots (Guard a) r limits is = cc

exchanges_within : (kinds fields roots : ℕ) (i : TargetInstr) (r : Reg) → IsTrue (is_target_instr kinds fields roots i) → IsTrue (target_exchanges r i) → IsTrue (is_register r)
exchanges_within kinds fields roots (Plain i) r limits is = reads_within kinds fields roots i r limits (exchanged_read r i is)
exchanges_within kinds fields roots Check r limits is = cc
exchanges_within kinds fields roots (Guard a) r limits is = cc

guards_within : (kinds fields roots : ℕ) (i : TargetInstr) (r : Reg) → IsTrue (is_target_instr kinds fields roots i) → IsTrue (guards r i) → IsTrue (is_register r)
guards_within kinds fields roots (Plain i) r limits is = cc
guards_within kinds fields roots Check r limits is = cc
guards_within kinds fields roots (Guard a) r limits is = subst (λ (s : Reg). IsTrue (is_register s)) (sym (register_same r a is)) (and_right (holds_reference a) (is_register a) limits)

-- an instruction uses a register
uses_right : (source : Op) (needs : Needs) (r : Reg) (i : TargetInstr) → AreNeeds source needs → IsTrue (uses_by needs r i) ↔ Uses source r i
uses_right source needs r i asks = (
  (λ so. elim (or_cases read (commits && handed) so) [ inl one ↦ inl one | inr two ↦ inr (and_left commits handed two, (asks.handed r).0 (and_right commits handed two)) ]),
  λ uses. elim uses [ inl one ↦ or_left read (commits && handed) one | inr two ↦ or_right read (commits && handed) (and_from commits handed two.0 ((asks.handed r).1 two.1)) ],
)
  where
    read : Bool
    read = target_reads r i

    commits : Bool
    commits = target_commits i

    handed : Bool
    handed = is_handed_by needs.handed_over r

uses_register : (source : Op) (kinds fields roots : ℕ) (i : TargetInstr) (r : Reg) → IsOpWithin source → IsTrue (is_target_instr kinds fields roots i) → Uses source r i → IsTrue (is_register r)
uses_register source kinds fields roots i r within limits uses = elim uses [ inl one ↦ target_reads_within kinds fields roots i r limits one | inr two ↦ carried_within source r within two.1.1 ]

unchecked_right : (source : Op) (code : List TargetInstr) (at : ℕ) (i : TargetInstr) (needs : Needs) (found : TargetFound) → IsTargetSite source code i needs found
    → IsTrue (list_any (λ r. uses_by needs r i && may_be_unchecked_by found r at) all_registers) ↔ UsesUnchecked source code at i
unchecked_right source code at i needs found site = ((λ so. let some = tests.0 so in (some.0, (right some.0).0 some.1, some.2)), λ some. tests.1 (some.0, (right some.0).1 some.1, some.2))
  where
    right : (r : Reg) → IsTrue (uses_by needs r i) ↔ Uses source r i
    right r = uses_right source needs r i site.asks

    tests : IsTrue (list_any (λ r. uses_by needs r i && may_be_unchecked_by found r at) all_registers) ↔ ((r : Reg) × IsTrue (uses_by needs r i) × MayBeUnchecked code r at)
    tests =
        both_tests (λ r. uses_by needs r i) (λ r. may_be_unchecked_by found r at) (λ r. MayBeUnchecked code r at)
        (λ r uses. uses_register source site.limits.0 site.limits.1 site.limits.2 i r site.within site.limits.3 ((right r).0 uses)) (λ r register. site.true_of.unchecked r register at)

-- an instruction needs a register guarded; of a number it is never asked
needs_right : (source : Op) (needs : Needs) (r : Reg) (i : TargetInstr) → AreNeeds source needs → IsTrue (holds_reference r) → IsTrue (needs_guard_by needs r i) ↔ NeedsGuard source r i
needs_right source needs r i asks reference = (
  (λ so. elim (or_cases exchanges (commits && kept) so) [ inl one ↦ inl (reference, one) | inr two ↦ inr (and_left commits kept two, (asks.kept r).0 (and_right commits kept two)) ]),
  λ need. elim need [ inl one ↦ or_left exchanges (commits && kept) one.1 | inr two ↦ or_right exchanges (commits && kept) (and_from commits kept two.0 ((asks.kept r).1 two.1)) ],
)
  where
    exchanges : Bool
    exchanges = target_exchanges r i

    commits : Bool
    commits = target_commits i

    kept : Bool
    kept = is_kept_by needs.kept r

need_reference : (source : Op) (r : Reg) (i : TargetInstr) → NeedsGuard source r i → IsTrue (holds_reference r)
need_reference source r i need = elim need [ inl one ↦ one.0 | inr two ↦ two.1.0 ]

guarded_right : (code : List TargetInstr) (found : TargetFound) (at : ℕ) (state : GuardState) → AreTargetFacts code found
    → (r : Reg) → IsTrue (is_register r) → IsTrue (may_be_guarded_by found r at (guard_number state)) ↔ (IsTrue (holds_reference r) × MayBeGuarded code r at state)
guarded_right code found at state true_of (Num n) register = ((λ so. let no : false ≡ true = so in cc), λ both. both.0)
guarded_right code found at state true_of (Ref n) register = ((λ so. (refl, (true_of.guarded n register at state).0 so)), λ both. (true_of.guarded n register at state).1 both.1)

asked_register : (source : Op) (kinds fields roots : ℕ) (i : TargetInstr) (needs : Needs) (r : Reg) → IsOpWithin source → IsTrue (is_target_instr kinds fields roots i) → AreNeeds source needs
    → IsTrue (needs_guard_by needs r i) → IsTrue (is_register r)
asked_register source kinds fields roots i needs r within limits asks so = elim (or_cases (target_exchanges r i) (target_commits i && is_kept_by needs.kept r) so) [
  | inl one ↦ exchanges_within kinds fields roots i r limits one
  | inr two ↦ carried_within source r within ((asks.kept r).0 (and_right (target_commits i) (is_kept_by needs.kept r) two)).1
]

more_right : (source : Op) (code : List TargetInstr) (at : ℕ) (i : TargetInstr) (needs : Needs) (found : TargetFound) (state : GuardState) → IsTargetSite source code i needs found
    → IsTrue (needs_more_by needs found at i (guard_number state)) ↔ NeedsMore state source code at i
more_right source code at i needs found state site = (
  (λ so. let some = tests.0 so in (some.0, (needs_right source needs some.0 i site.asks some.2.0).0 some.1, some.2.1)),
  λ some. let reference = need_reference source some.0 i some.1 in tests.1 (some.0, (needs_right source needs some.0 i site.asks reference).1 some.1, (reference, some.2)),
)
  where
    tests : IsTrue (needs_more_by needs found at i (guard_number state)) ↔ ((r : Reg) × IsTrue (needs_guard_by needs r i) × (IsTrue (holds_reference r) × MayBeGuarded code r at state))
    tests =
        both_tests (λ r. needs_guard_by needs r i) (λ r. may_be_guarded_by found r at (guard_number state)) (λ r. IsTrue (holds_reference r) × MayBeGuarded code r at state)
        (λ r so. asked_register source site.limits.0 site.limits.1 site.limits.2 i needs r site.within site.limits.3 site.asks so) (guarded_right code found at state site.true_of)

guards_kept_right : (source : Op) (code : List TargetInstr) (i : TargetInstr) (needs : Needs) (found : TargetFound) → IsTargetSite source code i needs found
    → IsTrue (guards_kept_by needs i) ↔ ((r : Reg) × IsTrue (guards r i) × IsKept source r)
guards_kept_right source code i needs found site =
    both_tests (λ r. guards r i) (is_kept_by needs.kept) (IsKept source) (λ r so. guards_within site.limits.0 site.limits.1 site.limits.2 i r site.limits.3 so) (λ r register. site.asks.kept r)

dropped_right : (source : Op) (wrapup : Bool) (code : List TargetInstr) (at : ℕ) (i : TargetInstr) (needs : Needs) (found : TargetFound) → IsTargetSite source code i needs found
    → IsTrue (needs_more_by needs found at i 3 || (wrapup && guards_kept_by needs i)) ↔ HasGuardDropped source wrapup code at i
dropped_right source wrapup code at i needs found site = (
  (λ so. elim (or_cases undone (wrapup && anew) so) [ inl one ↦ inl (more.0 one) | inr two ↦ inr (and_left wrapup anew two, guarding.0 (and_right wrapup anew two)) ]),
  λ has. elim has [ inl one ↦ or_left undone (wrapup && anew) (more.1 one) | inr two ↦ or_right undone (wrapup && anew) (and_from wrapup anew two.0 (guarding.1 two.1)) ],
)
  where
    undone : Bool
    undone = needs_more_by needs found at i 3

    anew : Bool
    anew = guards_kept_by needs i

    more : IsTrue undone ↔ NeedsMore Dropped source code at i
    more = more_right source code at i needs found Dropped site

    guarding : IsTrue anew ↔ ((r : Reg) × IsTrue (guards r i) × IsKept source r)
    guarding = guards_kept_right source code i needs found site

-- the answers are true
are_answers_by : (source : Op) (wrapup : Bool) (code : List TargetInstr) (at : ℕ) (i : TargetInstr) (needs : Needs) (found : TargetFound) → IsTargetSite source code i needs found
    → AreFlawAnswers source wrapup code at i (flaw_answers_by needs found wrapup at i)
are_answers_by source wrapup code at i needs found site = record { sized = refl; each = answer }
  where
    answer : (kind : FlawKind) → 2 ≤ kind_number kind → IsTrue (slice_index_or (flaw_answers_by needs found wrapup at i) (kind_number kind - 2) false) ↔ IsFlawed kind source wrapup code at i
    answer ErasesDifferently le = let no : ⊥ = omega (arith, le) in absurd no
    answer UncheckedUse le = unchecked_right source code at i needs found site
    answer Unguarded le = more_right source code at i needs found Free site
    answer GuardAfterCheck le = more_right source code at i needs found Published site
    answer GuardDropped le = dropped_right source wrapup code at i needs found site

pub are_answers : (source : Op) (wrapup : Bool) (code : List TargetInstr) (at : ℕ) (i : TargetInstr) (needs : Needs) (found : TargetFound) (answers : List Bool)
    → answers ≡ flaw_answers_by needs found wrapup at i → IsTargetSite source code i needs found → AreFlawAnswers source wrapup code at i answers
are_answers source wrapup code at i needs found answers is site = subst (AreFlawAnswers source wrapup code at i) (sym is) (are_answers_by source wrapup code at i needs found site)
