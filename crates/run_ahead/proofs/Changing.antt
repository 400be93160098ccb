-- What a change of one register on both sides leaves.
use Rattle.std.proofs.Common.{◌≡◌, ℕ, zero, suc, ◌⊎◌, inl, inr, true, false, List, [], ◌∷◌, length, get_or, set, Some, None, refl, sym, ap, subst, ◌∙◌, arith}
use Rattle.std.specs.Prelude.{IsTrue, ◌==◌}
use Rattle.std.proofs.lemmas.Bool.{eqb-true, eqb-false}
use Rattle.std.proofs.lemmas.List.{length-set, get_or-set_other}
use Rattle.std.proofs.lemmas.Option.{unwrap_or-slice_get}
use Rattle.norm_lang.specs.declared.text.Reg.{Reg}
use Rattle.norm_lang.specs.declared.text.Reg.TheVariants.{Num, Ref}
use Rattle.norm_lang.specs.declared.registers.Reference.{Reference}
use Rattle.norm_lang.specs.declared.registers.Registers.{Registers}
use Rattle.norm_lang.specs.RegisterUse.{is_register_named}
use Rattle.norm_lang.specs.Registers.{no_reference, number_in, reference_in, with_number, with_reference, node_in}
use Rattle.run_ahead.specs.Agreeing.{StandsFor, Agree, HaveSameSize, Changes}

-- what is put at the same place of two lists of one length, or what stands past both
put_both : {X Y : Type 0} (P : X → Y → Type 0) (xs : List X) (ys : List Y) (d : ℕ) (x z : X) (y w : Y) → length xs ≡ length ys → P x y → P z w → P (get_or (set xs d x) d z) (get_or (set ys d y) d w)
put_both P [] [] d x z y w same put past = past
put_both P [] (b ∷ ys) d x z y w same put past = let no : ⊥ = omega (arith, same) in absurd no
put_both P (a ∷ xs) [] d x z y w same put past = let no : ⊥ = omega (arith, same) in absurd no
put_both P (a ∷ xs) (b ∷ ys) zero x z y w same put past = put
put_both P (a ∷ xs) (b ∷ ys) (suc d) x z y w same put past = let tails : length xs ≡ length ys = omega (arith, same) in put_both P xs ys d x z y w tails put past

put_either : {X : Type 0} (xs : List X) (d : ℕ) (x z : X) → (get_or (set xs d x) d z ≡ z) ⊎ (get_or (set xs d x) d z ≡ x)
put_either [] d x z = inl refl
put_either (a ∷ xs) zero x z = inr refl
put_either (a ∷ xs) (suc d) x z = put_either xs d x z

-- the reference in a register, by the list alone
reference_at : (registers : Registers) (r : ℕ) → reference_in registers (Ref r) ≡ get_or registers.references r no_reference
reference_at registers r = unwrap_or-slice_get registers.references r no_reference

-- nothing changes
pub nothing_changes : (home : ℕ → ℕ) (Set : Type 0 → Type 0) (here mirror : Registers) → HaveSameSize here mirror → Changes home Set None 0 here mirror here mirror
nothing_changes home Set here mirror sized = record {
  sized = sized;
  set = λ r named. absurd (let no : false ≡ true = named in cc);
  kept = λ r named agree. agree;
  gives = λ r named. absurd (let no : false ≡ true = named in cc);
  leaves = λ r named. refl;
}

-- numbers are put into one register
pub number_changes : (home : ℕ → ℕ) (Set : Type 0 → Type 0) (here mirror : Registers) (d n m : ℕ) → HaveSameSize here mirror
    → ((r : ℕ) → r ≡ d → Set (number_in (with_number here (Num d) n) (Num r) ≡ number_in (with_number mirror (Num d) m) (Num r)))
    → Changes home Set (Some (Num d)) 0 here mirror (with_number here (Num d) n) (with_number mirror (Num d) m)
number_changes home Set here mirror d n m sized same = record {
  sized = (length-set here.numbers d n ∙ (sized.0 ∙ sym (length-set mirror.numbers d m)), sized.1);
  set = set_in;
  kept = kept_in;
  gives = λ r named. absurd (let no : false ≡ true = named in cc);
  leaves = λ r named. refl;
}
  where
    set_in : (r : Reg) → IsTrue (is_register_named r (Some (Num d))) → Set (Agree home (with_number here (Num d) n) (with_number mirror (Num d) m) r)
    set_in (Num r) named = same r (eqb-true r d named)
    set_in (Ref r) named = absurd (let no : false ≡ true = named in cc)

    kept_in : (r : Reg) → is_register_named r (Some (Num d)) ≡ false → Agree home here mirror r → Agree home (with_number here (Num d) n) (with_number mirror (Num d) m) r
    kept_in (Num r) named agree = get_or-set_other here.numbers d r n 0 (eqb-false r d named) ∙ (agree ∙ sym (get_or-set_other mirror.numbers d r m 0 (eqb-false r d named)))
    kept_in (Ref r) named agree = agree

-- the same number is the same afterwards
pub put_same : (here mirror : Registers) (d n m : ℕ) → HaveSameSize here mirror → n ≡ m → (r : ℕ) → r ≡ d → number_in (with_number here (Num d) n) (Num r) ≡ number_in (with_number mirror (Num d) m) (Num r)
put_same here mirror d n m sized same r is = subst (λ (k : ℕ). get_or (set here.numbers d n) k 0 ≡ get_or (set mirror.numbers d m) k 0) (sym is) (put_both (λ x y. x ≡ y) here.numbers mirror.numbers d n 0 m 0 sized.0 same refl)

-- what another register holds
other_reference : (registers : Registers) (d r : ℕ) (x : Reference) → (r == d) ≡ false → reference_in (with_reference registers (Ref d) x) (Ref r) ≡ reference_in registers (Ref r)
other_reference registers d r x named = unwrap_or-slice_get (set registers.references d x) r no_reference ∙ (get_or-set_other registers.references d r x no_reference (eqb-false r d named) ∙ sym (unwrap_or-slice_get registers.references r no_reference))

-- references to a slot and to its name are put into one register
pub reference_changes : (home : ℕ → ℕ) (Set : Type 0 → Type 0) (here mirror : Registers) (d : ℕ) (x y : Reference) → HaveSameSize here mirror
    → ((r : ℕ) → r ≡ d → Set (StandsFor home (reference_in (with_reference here (Ref d) x) (Ref r)) (reference_in (with_reference mirror (Ref d) y) (Ref r))))
    → Changes home Set (Some (Ref d)) y.node here mirror (with_reference here (Ref d) x) (with_reference mirror (Ref d) y)
reference_changes home Set here mirror d x y sized stands = record {
  sized = (sized.0, length-set here.references d x ∙ (sized.1 ∙ sym (length-set mirror.references d y)));
  set = set_in;
  kept = kept_in;
  gives = λ r named. gives_in r (eqb-true r d named);
  leaves = λ r named. ap (λ z. z.node) (other_reference mirror d r y named);
}
  where
    set_in : (r : Reg) → IsTrue (is_register_named r (Some (Ref d))) → Set (Agree home (with_reference here (Ref d) x) (with_reference mirror (Ref d) y) r)
    set_in (Num r) named = absurd (let no : false ≡ true = named in cc)
    set_in (Ref r) named = stands r (eqb-true r d named)

    kept_in : (r : Reg) → is_register_named r (Some (Ref d)) ≡ false → Agree home here mirror r → Agree home (with_reference here (Ref d) x) (with_reference mirror (Ref d) y) r
    kept_in (Num r) named agree = agree
    kept_in (Ref r) named agree = (
      ap (λ z. z.node) (other_reference here d r x named) ∙ (agree.0 ∙ ap (λ z. home z.node) (sym (other_reference mirror d r y named))),
      ap (λ z. z.marked) (other_reference here d r x named) ∙ (agree.1 ∙ ap (λ z. z.marked) (sym (other_reference mirror d r y named))),
    )

    gives_in : (r : ℕ) → r ≡ d → (node_in (with_reference mirror (Ref d) y) r ≡ 0) ⊎ (node_in (with_reference mirror (Ref d) y) r ≡ y.node)
    gives_in r same = subst (λ (k : ℕ). (node_in (with_reference mirror (Ref d) y) k ≡ 0) ⊎ (node_in (with_reference mirror (Ref d) y) k ≡ y.node)) (sym same)
        (elim (put_either mirror.references d y no_reference) [
          | inl past ↦ inl (ap (λ z. z.node) (reference_at (with_reference mirror (Ref d) y) d ∙ past))
          | inr put ↦ inr (ap (λ z. z.node) (reference_at (with_reference mirror (Ref d) y) d ∙ put))
        ])

-- it stands for it afterwards
pub put_stands : (home : ℕ → ℕ) (here mirror : Registers) (d : ℕ) (x y : Reference) → HaveSameSize here mirror → home 0 ≡ 0 → StandsFor home x y
    → (r : ℕ) → r ≡ d → StandsFor home (reference_in (with_reference here (Ref d) x) (Ref r)) (reference_in (with_reference mirror (Ref d) y) (Ref r))
put_stands home here mirror d x y sized null stands r same =
    subst (λ (k : ℕ). StandsFor home (reference_in (with_reference here (Ref d) x) (Ref k)) (reference_in (with_reference mirror (Ref d) y) (Ref k))) (sym same)
    (subst (λ z. StandsFor home z (reference_in (with_reference mirror (Ref d) y) (Ref d))) (sym (reference_at (with_reference here (Ref d) x) d))
    (subst (λ z. StandsFor home (get_or (set here.references d x) d no_reference) z) (sym (reference_at (with_reference mirror (Ref d) y) d))
    (put_both (StandsFor home) here.references mirror.references d x no_reference y no_reference sized.1 stands (sym null, refl))))
