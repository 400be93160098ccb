-- What is found out tells which register is at fault.
use Rattle.std.proofs.Common.{◌≡◌, ◌↔◌, ℕ, ◌<◌, ◌⊎◌, inl, inr, ⊎_elim, Bool, true, false, cond, not, ◌&&◌, ◌||◌, List, [], ◌∷◌, find, Option, Some, None, refl, sym, ap, subst, ◌∙◌, arith}
use Rattle.std.specs.Prelude.{slice_get, IsTrue, IsSomeAnd, ◌==◌, if◌then◌else◌}
use Rattle.std.proofs.lemmas.Option.{same_Some}
use Rattle.std.proofs.lemmas.Bool.Decides.{nat_tests}
use Rattle.std.proofs.lemmas.Bool.{or_cases, or_left, or_right, and_from}
use Rattle.norm_lang.specs.declared.text.Reg.{Reg}
use Rattle.norm_lang.specs.declared.text.Reg.TheVariants.{Num, Ref}
use Rattle.norm_lang.specs.declared.text.FieldDecl.{FieldDecl}
use Rattle.norm_lang.specs.declared.text.RootDecl.{RootDecl}
use Rattle.norm_lang.specs.declared.text.Instr.{Instr}
use Rattle.norm_lang.specs.declared.text.Op.{Op}
use Rattle.norm_lang.specs.declared.text.Text.{Text}
use Rattle.norm_lang.specs.Freshness.{MayBeFresh, IsSurelyFresh}
use Rattle.norm_lang.specs.Kept.{code_of, IsKept}
use Rattle.norm_lang.specs.Limits.{is_register}
use Rattle.norm_lang.specs.NormalForm.{Rule, N1, N2, N4, N5, N6, N9, N10, N11, N12, N14, N15, rule_number}
use Rattle.norm_lang.specs.PathRules.{reads_openly, is_commit, follows, exchanges}
use Rattle.norm_lang.specs.RegisterUse.{reads, sets}
use Rattle.norm_paths.specs.Found.{Found, AreKept, all_registers, is_fresh_by, is_surely_fresh_by, is_kept_by}
use Rattle.norm_paths.specs.OpFound.{IsSite, may_be_unset_by}
use Rattle.norm_paths.proofs.Within.{and_left, and_right}
use Rattle.norm_paths.proofs.RuleLemmas.{unset_is}
use Rattle.norm_paths.proofs.Starting.{not_true, true_not, kept_within}
use Rattle.kind_rules.specs.declared.facts.KindFacts.{KindFacts}
use Rattle.kind_rules.specs.Asking.{IsKindSite}
use Rattle.kind_rules.proofs.Mixing.{mixes_there}
use Rattle.norm_check.specs.declared.refusal.Refusal.{Refusal}
use Rattle.rule_registers.specs.AtFault.{is_misplaced, is_computed_with, is_retired_wrongly, is_put_into, is_put, is_shown, IsLeaked, IsOtherKindIn, IsAtFault}
use Rattle.rule_registers.specs.Blamed.{is_put_wrongly_by, is_leaked_by, is_other_kind_by, is_blamed}
use Rattle.rule_registers.specs.First.{AtFault, IsNoRule, IsFirstAtFault}
use Rattle.rule_registers.proofs.Finding.{first_found}

-- ---- tests and what they decide

itself : (b : Bool) → IsTrue b ↔ IsTrue b
itself b = ((λ is. is), λ is. is)

both : (a b : Bool) (A : Type 0) → IsTrue b ↔ A → IsTrue (a && b) ↔ (IsTrue a × A)
both a b A decides = ((λ is. (and_left a b is, decides.0 (and_right a b is))), λ holds. and_from a b holds.0 (decides.1 holds.1))

either : (a b : Bool) (A B : Type 0) → IsTrue a ↔ A → IsTrue b ↔ B → IsTrue (a || b) ↔ (A ⊎ B)
either a b A B one other = (
  (λ is. ⊎_elim (λ (first : IsTrue a). inl (one.0 first)) (λ (second : IsTrue b). inr (other.0 second)) (or_cases a b is)),
  λ holds. ⊎_elim (λ (first : A). or_left a b (one.1 first)) (λ (second : B). or_right a b (other.1 second)) holds,
)

negated : (a : Bool) (A : Type 0) → IsTrue a ↔ A → IsTrue (not a) ↔ (¬ A)
negated a A decides = ((λ isnt holds. true_not a isnt (decides.1 holds)), λ never. not_true a (λ is. never (decides.0 is)))

some_and : {X : Type 0} (o : Option X) (x : X) (P : X → Type 0) → o ≡ Some x → P x ↔ IsSomeAnd o P
some_and None x P is = let no : None ≡ Some x = is in cc
some_and (Some y) x P is = let same : y ≡ x = same_Some y x is in ((λ holds. subst P (sym same) holds), λ holds. subst P same holds)

none_and : {X : Type 0} (o : Option X) (P : X → Type 0) → o ≡ None → ¬ IsSomeAnd o P
none_and None P is holds = absurd holds
none_and (Some y) P is holds = let no : Some y ≡ None = is in cc

-- ---- each rule

module _ (text : Text) (op : Op) (wrapup : Bool) (at : ℕ) (i : Instr) (found : Found) (kept : List Bool) (kinds : List KindFacts)
    (site : IsSite op wrapup at i found) (are : AreKept op kept) (kind_site : IsKindSite text op wrapup at i kinds) where
  fresh_is : (r : Reg) → IsTrue (is_register r) → IsTrue (is_fresh_by found.facts r at) ↔ MayBeFresh (code_of op wrapup) r at
  fresh_is r register = (site.true_of.held r register).fresh at

  surely_is : (r : Reg) → IsTrue (is_register r) → IsTrue (is_surely_fresh_by found.facts r at) ↔ IsSurelyFresh (code_of op wrapup) r at
  surely_is r register = (site.true_of.held r register).surely at

  keeps_is : (r : Reg) → IsTrue (is_kept_by kept r) ↔ IsKept op r
  keeps_is r = kept_within op kept r site.within are

  kept_rule : (test : Bool) (r : Reg) → IsTrue (wrapup && (test && is_kept_by kept r)) ↔ (IsTrue wrapup × IsTrue test × IsKept op r)
  kept_rule test r =
      let keeps = is_kept_by kept r in (
        (λ is. let rest = and_right wrapup (test && keeps) is in (and_left wrapup (test && keeps) is, and_left test keeps rest, (keeps_is r).0 (and_right test keeps rest))),
        λ holds. and_from wrapup (test && keeps) holds.0 (and_from test keeps holds.1 ((keeps_is r).1 holds.2)),
      )

  leaked_is : (r : Reg) → IsTrue (is_register r) → IsTrue (is_leaked_by at i found kept r) ↔ IsLeaked op wrapup at i r
  leaked_is r register =
      let openly = reads_openly r i in
      let keeps = is_commit i && is_kept_by kept r in
      let fresh = is_fresh_by found.facts r at in (
        (λ is.
            let so = (fresh_is r register).0 (and_right (openly || keeps) fresh is) in
            ⊎_elim
            (λ (one : IsTrue openly). inl (one, so))
            (λ (two : IsTrue keeps). inr (and_left (is_commit i) (is_kept_by kept r) two, (keeps_is r).0 (and_right (is_commit i) (is_kept_by kept r) two), so))
            (or_cases openly keeps (and_left (openly || keeps) fresh is))),
        λ leaks. ⊎_elim
            (λ (one : IsTrue openly × MayBeFresh (code_of op wrapup) r at). and_from (openly || keeps) fresh (or_left openly keeps one.0) ((fresh_is r register).1 one.1))
            (λ (two : IsTrue (is_commit i) × IsKept op r × MayBeFresh (code_of op wrapup) r at).
            and_from (openly || keeps) fresh (or_right openly keeps (and_from (is_commit i) (is_kept_by kept r) two.0 ((keeps_is r).1 two.1))) ((fresh_is r register).1 two.2))
            leaks,
      )

  other_kind_is : (r : Reg) → IsTrue (is_register r) → IsTrue (is_other_kind_by text.fields text.roots wrapup at i kinds r) ↔ IsOtherKindIn text op wrapup at i r
  other_kind_is (Num n) register = ((λ is. let no : false ≡ true = is in cc), λ holds. absurd holds)
  other_kind_is (Ref n) register = mixes_there text op wrapup at i kinds n (grind (arith, nat_tests)) kind_site

  never : IsTrue false ↔ ⊥
  never = ((λ is. let no : false ≡ true = is in cc), λ holds. absurd holds)

  blamed_is : (rule : Rule) (r : Reg) → IsTrue (is_register r) → IsTrue (is_blamed (rule_number rule) text.fields text.roots wrapup at i found kept kinds r) ↔ IsAtFault rule text op wrapup at i r
  blamed_is N1 r register = itself _
  blamed_is N2 r register = itself _
  blamed_is N4 r register =
      both (not wrapup) _ _
      (either _ _ _ _
      (both (is_put_into r i) _ _ (negated (is_surely_fresh_by found.facts r at) (IsSurelyFresh (code_of op wrapup) r at) (surely_is r register)))
      (both (is_put r i) _ _ (fresh_is r register)))
  blamed_is N5 r register = both (is_shown r i) _ _ (fresh_is r register)
  blamed_is N6 r register = leaked_is r register
  blamed_is N9 r register = kept_rule (sets r i) r
  blamed_is N10 r register = kept_rule (follows r i) r
  blamed_is N11 r register = kept_rule (exchanges r i) r
  blamed_is N12 r register = itself _
  blamed_is N14 r register = both (reads r i) (may_be_unset_by found r at) _ (unset_is op wrapup found r at site.true_of register)
  blamed_is N15 r register = other_kind_is r register
  blamed_is _ r register = never

  -- in its text
  blamed_there : (number : ℕ) → slice_get text.ops number ≡ Some op → (rule : Rule) (r : Reg) → IsTrue (is_register r)
      → IsTrue (is_blamed (rule_number rule) text.fields text.roots wrapup at i found kept kinds r) ↔ AtFault rule text number wrapup at r
  blamed_there number stands rule r register =
      let here = blamed_is rule r register in
      let inside = some_and (slice_get (code_of op wrapup) at) i (λ j. IsAtFault rule text op wrapup at j r) site.stands in
      let outside = some_and (slice_get text.ops number) op (λ o. IsSomeAnd (slice_get (code_of o wrapup) at) (λ j. IsAtFault rule text o wrapup at j r)) stands in
      ((λ is. outside.0 (inside.0 (here.0 is))), λ holds. here.1 (inside.1 (outside.1 holds)))

-- ---- a number that no rule has

unequal : (n k : ℕ) → k < n → (n == k) ≡ false
unequal n k less = grind (arith, nat_tests)

passed : (b x rest : Bool) → b ≡ false → rest ≡ false → (if b then x else rest) ≡ false
passed false x rest is none = none
passed true x rest is none = let no : true ≡ false = is in cc

unknown_blames : (rule : ℕ) (fields : List FieldDecl) (roots : List RootDecl) (wrapup : Bool) (at : ℕ) (i : Instr) (found : Found) (kept : List Bool) (kinds : List KindFacts) (r : Reg)
    → IsNoRule rule → is_blamed rule fields roots wrapup at i found kept kinds r ≡ false
unknown_blames rule fields roots wrapup at i found kept kinds r (inl zeroth) = ap (λ (n : ℕ). is_blamed n fields roots wrapup at i found kept kinds r) zeroth
unknown_blames rule fields roots wrapup at i found kept kinds r (inr more) =
    let from15 : Bool = if rule == 15 then is_other_kind_by fields roots wrapup at i kinds r else false in
    let none15 : from15 ≡ false = passed (rule == 15) (is_other_kind_by fields roots wrapup at i kinds r) false (unequal rule 15 (omega (arith, more))) refl in
    let from14 : Bool = if rule == 14 then reads r i && may_be_unset_by found r at else from15 in
    let none14 : from14 ≡ false = passed (rule == 14) (reads r i && may_be_unset_by found r at) from15 (unequal rule 14 (omega (arith, more))) none15 in
    let from12 : Bool = if rule == 12 then is_retired_wrongly r i else from14 in
    let none12 : from12 ≡ false = passed (rule == 12) (is_retired_wrongly r i) from14 (unequal rule 12 (omega (arith, more))) none14 in
    let from11 : Bool = if rule == 11 then wrapup && (exchanges r i && is_kept_by kept r) else from12 in
    let none11 : from11 ≡ false = passed (rule == 11) (wrapup && (exchanges r i && is_kept_by kept r)) from12 (unequal rule 11 (omega (arith, more))) none12 in
    let from10 : Bool = if rule == 10 then wrapup && (follows r i && is_kept_by kept r) else from11 in
    let none10 : from10 ≡ false = passed (rule == 10) (wrapup && (follows r i && is_kept_by kept r)) from11 (unequal rule 10 (omega (arith, more))) none11 in
    let from9 : Bool = if rule == 9 then wrapup && (sets r i && is_kept_by kept r) else from10 in
    let none9 : from9 ≡ false = passed (rule == 9) (wrapup && (sets r i && is_kept_by kept r)) from10 (unequal rule 9 (omega (arith, more))) none10 in
    let from6 : Bool = if rule == 6 then is_leaked_by at i found kept r else from9 in
    let none6 : from6 ≡ false = passed (rule == 6) (is_leaked_by at i found kept r) from9 (unequal rule 6 (omega (arith, more))) none9 in
    let from5 : Bool = if rule == 5 then is_shown r i && is_fresh_by found.facts r at else from6 in
    let none5 : from5 ≡ false = passed (rule == 5) (is_shown r i && is_fresh_by found.facts r at) from6 (unequal rule 5 (omega (arith, more))) none6 in
    let from4 : Bool = if rule == 4 then is_put_wrongly_by wrapup at i found r else from5 in
    let none4 : from4 ≡ false = passed (rule == 4) (is_put_wrongly_by wrapup at i found r) from5 (unequal rule 4 (omega (arith, more))) none5 in
    let from2 : Bool = if rule == 2 then is_computed_with r i else from4 in
    let none2 : from2 ≡ false = passed (rule == 2) (is_computed_with r i) from4 (unequal rule 2 (omega (arith, more))) none4 in
    let from1 : Bool = if rule == 1 then is_misplaced fields roots r i else from2 in
    let none1 : from1 ≡ false = passed (rule == 1) (is_misplaced fields roots r i) from2 (unequal rule 1 (omega (arith, more))) none2 in
    none1

skipped : (b : Bool) (x : Reg) (rest : Option Reg) → b ≡ false → rest ≡ None → cond b (Some x) rest ≡ None
skipped false x rest is none = none
skipped true x rest is none = let no : true ≡ false = is in cc

finds_none : (test : Reg → Bool) → ((r : Reg) → test r ≡ false) → (rs : List Reg) → find test rs ≡ None
finds_none test fails [] = refl
finds_none test fails (r ∷ rs) = skipped (test r) r (find test rs) (fails r) (finds_none test fails rs)

pub first_at_fault : (text : Text) (op : Op) (i : Instr) (refusal : Refusal) (found : Found) (kept : List Bool) (kinds : List KindFacts) (result : Option Reg)
    → IsSite op refusal.wrapup refusal.at i found → AreKept op kept → IsKindSite text op refusal.wrapup refusal.at i kinds → slice_get text.ops refusal.op ≡ Some op
    → result ≡ find (is_blamed refusal.rule text.fields text.roots refusal.wrapup refusal.at i found kept kinds) all_registers
    → IsFirstAtFault text refusal result
first_at_fault text op i refusal found kept kinds result site are kind_site stands is = (
  λ rule same. first_found (is_blamed (rule_number rule) text.fields text.roots refusal.wrapup refusal.at i found kept kinds) (AtFault rule text refusal.op refusal.wrapup refusal.at)
      (blamed_there text op refusal.wrapup refusal.at i found kept kinds site are kind_site refusal.op stands rule) result
      (is ∙ ap (λ (n : ℕ). find (is_blamed n text.fields text.roots refusal.wrapup refusal.at i found kept kinds) all_registers) (sym same)),
  λ unknown. is
      ∙ finds_none (is_blamed refusal.rule text.fields text.roots refusal.wrapup refusal.at i found kept kinds)
      (λ r. unknown_blames refusal.rule text.fields text.roots refusal.wrapup refusal.at i found kept kinds r unknown) all_registers,
)

-- a text without the operation, or without the instruction, has no register there
pub no_operation : (text : Text) (refusal : Refusal) → slice_get text.ops refusal.op ≡ None → IsFirstAtFault text refusal None
no_operation text refusal none = ((λ rule same k r is holds. none_and (slice_get text.ops refusal.op) _ none holds), λ unknown. refl)

pub no_instruction : (text : Text) (op : Op) (refusal : Refusal) → slice_get text.ops refusal.op ≡ Some op → slice_get (code_of op refusal.wrapup) refusal.at ≡ None → IsFirstAtFault text refusal None
no_instruction text op refusal stands none = (each, λ unknown. refl)
  where
    each : (rule : Rule) → rule_number rule ≡ refusal.rule → (k : ℕ) (r : Reg) → slice_get all_registers k ≡ Some r → ¬ AtFault rule text refusal.op refusal.wrapup refusal.at r
    each rule same k r is holds =
        let outside = some_and (slice_get text.ops refusal.op) op (λ o. IsSomeAnd (slice_get (code_of o refusal.wrapup) refusal.at) (λ j. IsAtFault rule text o refusal.wrapup refusal.at j r)) stands in
        none_and (slice_get (code_of op refusal.wrapup) refusal.at) _ none (outside.1 holds)
