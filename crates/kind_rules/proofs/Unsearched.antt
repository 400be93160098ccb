-- A kind that no instruction of an operation gives is held by no register.
use Rattle.std.proofs.Common.{◌≡◌, ℕ, zero, suc, Bool, true, false, List, [], ◌∷◌, length, ◌+◌, ◌*◌, Some, None, sym, ap, subst, ◌∙◌}
use Rattle.std.specs.Prelude.{slice_get, nat_lt, ◌&&◌, IsTrue}
use Rattle.std.specs.List.{list_any}
use Rattle.std.proofs.lemmas.Bool.{or_left, or_right}
use Rattle.norm_lang.specs.declared.text.FieldDecl.{FieldDecl}
use Rattle.norm_lang.specs.declared.text.RootDecl.{RootDecl}
use Rattle.norm_lang.specs.declared.text.Instr.{Instr}
use Rattle.norm_lang.specs.declared.text.Op.{Op}
use Rattle.norm_lang.specs.Kept.{code_of}
use Rattle.norm_lang.specs.Kinds.{MayHaveKind}
use Rattle.origin_facts.specs.Steps.{holds_by, StaysWithin}
use Rattle.norm_paths.proofs.Within.{and_right}
use Rattle.kind_rules.specs.declared.facts.KindFacts.{KindFacts}
use Rattle.kind_rules.specs.Effects.{gives, some_give}
use Rattle.kind_rules.specs.KindsFound.{AreRight, AreKindFacts, facts_of}
use Rattle.kind_rules.proofs.Mixing.{may_given}

one_of : (p : Instr → Bool) (code : List Instr) (at : ℕ) (i : Instr) → slice_get code at ≡ Some i → p i ≡ true → list_any p code ≡ true
one_of p [] at i is has = absurd (let no : None ≡ Some i = is in cc)
one_of p (first ∷ code) zero i is has = let same : first ≡ i = cc in or_left (p first) (list_any p code) (ap p same ∙ has)
one_of p (first ∷ code) (suc at) i is has = or_right (p first) (list_any p code) (one_of p code at i is has)

-- no answer is true in a list of none
never : (at r : ℕ) → IsTrue (holds_by [] at r) → ⊥
never at r is = let no : false ≡ true = and_right (nat_lt r 8 && nat_lt (32 * at + 31) 0) false is in cc

none_within : (count : ℕ) → StaysWithin count []
none_within count at r is = absurd (never at r is)

-- those of both methods
pub both_within : (op : Op) (facts : KindFacts) → StaysWithin (length op.generator) facts.generator → StaysWithin (length op.wrapup) facts.wrapup → (wrapup : Bool) → StaysWithin (length (code_of op wrapup)) (facts_of facts wrapup)
both_within op facts generator wrapup false = generator
both_within op facts generator wrapup true = wrapup

module _ (fields : List FieldDecl) (roots : List RootDecl) (op : Op) (t : ℕ) (none : some_give fields roots op t ≡ false) where
  some : (wrapup : Bool) → list_any (gives fields roots t) (code_of op wrapup) ≡ true → some_give fields roots op t ≡ true
  some false is = or_left (list_any (gives fields roots t) op.generator) (list_any (gives fields roots t) op.wrapup) is
  some true is = or_right (list_any (gives fields roots t) op.generator) (list_any (gives fields roots t) op.wrapup) is

  never_given : (wrapup : Bool) (at : ℕ) (i : Instr) → slice_get (code_of op wrapup) at ≡ Some i → gives fields roots t i ≡ true → ⊥
  never_given wrapup at i stands given = let no : false ≡ true = sym none ∙ some wrapup (one_of (gives fields roots t) (code_of op wrapup) at i stands given) in cc

  none_right : (wrapup : Bool) → AreRight fields roots op wrapup t []
  none_right wrapup at r inside few =
      ((λ (is : IsTrue (holds_by [] at r)). absurd (never at r is)), λ (may : MayHaveKind fields roots op wrapup r at t). absurd (may_given ⊥ fields roots op t never_given wrapup r at may))

pub not_given : (fields : List FieldDecl) (roots : List RootDecl) (op : Op) (t : ℕ) (facts : KindFacts) → some_give fields roots op t ≡ false → facts ≡ record { generator = []; wrapup = [] } → AreKindFacts fields roots op t facts
not_given fields roots op t facts none is =
    subst (AreKindFacts fields roots op t) (sym is) (record { generator = none_right fields roots op t none false; wrapup = none_right fields roots op t none true; within = both_within op (record { generator = []; wrapup = [] }) (none_within (length op.generator)) (none_within (length op.wrapup)) })
