-- How many kinds have a field, found field by field.
use Rattle.std.proofs.Common.{◌≡◌, ℕ, ◌+◌, ◌<◌, ◌≤◌, List, length, get_or, drop, max, sym, ap, ◌∙◌, arith}
use Rattle.std.proofs.lemmas.List.{drop_more, drop_all}
use Rattle.norm_lang.specs.declared.text.FieldDecl.{FieldDecl}
use Rattle.norm_lang.specs.Declarations.{groups_begun}

-- a greatest number is found in either order
in_turn : (a b c : ℕ) → max (max a b) c ≡ max a (max b c)
in_turn a b c = omega arith

pub begun_more : (fields : List FieldDecl) (i : ℕ) (d : FieldDecl) (begun whole : ℕ) → i < length fields
    → max begun (groups_begun (drop i fields)) ≡ whole → max (max begun ((get_or fields i d).owner + 1)) (groups_begun (drop (i + 1) fields)) ≡ whole
begun_more fields i d begun whole lt so_far =
    in_turn begun ((get_or fields i d).owner + 1) (groups_begun (drop (i + 1) fields)) ∙ ap (λ left. max begun (groups_begun left)) (sym (drop_more fields i d lt)) ∙ so_far

pub begun_done : (fields : List FieldDecl) (i begun whole : ℕ) → length fields ≤ i → max begun (groups_begun (drop i fields)) ≡ whole → begun ≡ whole
begun_done fields i begun whole le so_far = none begun whole (ap (λ left. max begun (groups_begun left)) (sym (drop_all i fields le)) ∙ so_far)
  where
    none : (begun whole : ℕ) → max begun 0 ≡ whole → begun ≡ whole
    none begun whole same = omega arith
