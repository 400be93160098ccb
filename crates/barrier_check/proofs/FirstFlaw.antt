-- A target has at most one first flaw for a text, and then it isn't barred for it.
use Rattle.std.proofs.Common.{◌≡◌, ℕ, inl, inr, Bool, true, false, length, refl, sym, ap, subst, ◌∙◌, arith}
use Rattle.std.specs.Prelude.{[], ◌∷◌, slice_index_or, IsTrue}
use Rattle.std.proofs.lemmas.Bool.Decides.{nat_tests}
use Rattle.std.proofs.lemmas.Bool.{false_from_ne_true}
use Rattle.norm_lang.specs.declared.text.Text.{Text}
use Rattle.norm_lang.specs.NormalForm.{is_before, method_number}
use Rattle.target_code.specs.declared.target.Target.{Target}
use Rattle.target_code.specs.Erasing.{erased, ErasesTo, part_at}
use Rattle.target_code.specs.Barred.{FlawKind, ErasesDifferently, UncheckedUse, Unguarded, GuardAfterCheck, GuardDropped, kind_number, Flaw, flaw_before, DiffersAt, IsErasingFlaw}
use Rattle.barrier_check.specs.Laws.{FirstFlawIsOne, FlawedIsNotBarred}

-- neither of two numbers comes before the other: they are the same, and what follows decides neither
tied : (a b : ℕ) (after before : Bool) → is_before a b after ≡ false → is_before b a before ≡ false → (a ≡ b) × (after ≡ false) × (before ≡ false)
tied a b after before one other = (grind (arith, nat_tests), grind (arith, nat_tests), grind (arith, nat_tests))

-- the kind with a number
abbrev kind_numbered : ℕ → FlawKind
kind_numbered n = slice_index_or (ErasesDifferently ∷ ErasesDifferently ∷ UncheckedUse ∷ Unguarded ∷ GuardAfterCheck ∷ GuardDropped ∷ []) n ErasesDifferently

numbered : (kind : FlawKind) → kind_numbered (kind_number kind) ≡ kind
numbered ErasesDifferently = refl
numbered _ = refl

same_kind : (one other : FlawKind) → kind_number one ≡ kind_number other → one ≡ other
same_kind one other is = sym (numbered one) ∙ ap kind_numbered is ∙ numbered other

same_method : (one other : Bool) → method_number one ≡ method_number other → one ≡ other
same_method false true is = cc
same_method true false is = cc
same_method _ _ is = refl

flaw_at : FlawKind → ℕ → Bool → ℕ → Flaw
flaw_at kind op wrapup at = record { kind = kind; op = op; wrapup = wrapup; at = at }

-- of two flaws neither comes before the other: they are the same
same_flaw : (one other : Flaw) → flaw_before one other ≡ false → flaw_before other one ≡ false → one ≡ other
unfolding flaw_at
same_flaw one other first last =
    let ops = tied one.op other.op _ _ first last in
    let methods = tied (method_number one.wrapup) (method_number other.wrapup) _ _ ops.1 ops.2 in
    let places = tied one.at other.at _ _ methods.1 methods.2 in
    let kinds : kind_number one.kind ≡ kind_number other.kind = grind (arith, nat_tests, places.1, places.2) in
    let same : flaw_at one.kind one.op one.wrapup one.at ≡ flaw_at other.kind other.op other.wrapup other.at
    = rw (same_kind one.kind other.kind kinds, ops.0, same_method one.wrapup other.wrapup methods.0, places.0) refl
    in same

-- texts that differ somewhere aren't the same
differ : (target : Target) (text : Text) (op : ℕ) (wrapup : Bool) → DiffersAt (erased target) text op wrapup → ¬ ErasesTo target text
differ target text op wrapup differs erases =
    elim differs [
      | inl apart ↦ apart.0 (record {
        kinds = ap (λ (t : Text). t.kinds) erases;
        fields = ap (λ (t : Text). t.fields) erases;
        roots = ap (λ (t : Text). t.roots) erases;
        nodes = ap (λ (t : Text). t.nodes) erases;
        count = ap (λ (t : Text). length t.ops) erases;
      })
      | inr other ↦ other.1 (ap (λ (t : Text). part_at t op wrapup) erases)
    ]

-- of two that erase differently neither comes before the other
none_earlier : (target : Target) (text : Text) (one other : Flaw) → IsErasingFlaw target text one → IsErasingFlaw target text other → ¬ IsTrue (flaw_before one other)
none_earlier target text one other first last before =
    last.2 one.op one.wrapup (subst (λ (f : Flaw). IsTrue (flaw_before f other)) first.0 before) first.1

pub first_flaw_is_one : FirstFlawIsOne
first_flaw_is_one target text one other (inl first) (inl last) =
    same_flaw one other
    (false_from_ne_true (flaw_before one other) (none_earlier target text one other first last))
    (false_from_ne_true (flaw_before other one) (none_earlier target text other one last first))
first_flaw_is_one target text one other (inl first) (inr last) = absurd (differ target text one.op one.wrapup first.1 last.0)
first_flaw_is_one target text one other (inr first) (inl last) = absurd (differ target text other.op other.wrapup last.1 first.0)
first_flaw_is_one target text one other (inr first) (inr last) =
    same_flaw one other
    (false_from_ne_true (flaw_before one other) (λ before. last.2 one before first.1))
    (false_from_ne_true (flaw_before other one) (λ before. first.2 other before last.1))

pub flawed_is_not_barred : FlawedIsNotBarred
flawed_is_not_barred target text flaw (inl first) barred = differ target text flaw.op flaw.wrapup first.1 barred.erases
flawed_is_not_barred target text flaw (inr first) barred = barred.flawless flaw first.1
