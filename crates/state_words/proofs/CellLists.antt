-- Lists that are read cell by cell: what is left gives what the whole gives.
use Rattle.std.proofs.Common.{ℕ, zero, suc, ◌+◌, ◌-◌, ◌<◌, ◌≡◌, ◌∙◌, ◌==◌, ◌++◌, Bool, true, false, cond, List, [], ◌∷◌, length, sym, ap, refl, subst, append_assoc, arith}
use Rattle.std.specs.Prelude.{slice_index}
use Rattle.std.proofs.lemmas.Bool.Decides.{eqb_tells}
use Rattle.source_machine.specs.declared.state.NamedNode.{NamedNode}
use Rattle.state_words.specs.Layout.{read_list, name_if, flagged, node_at, nodes_onto}

one_left : (n i : ℕ) → i < n → n - i ≡ suc (n - (i + 1))
one_left n i lt = omega (arith, lt)

pub read_on : {A : Type 0} (item : ℕ → A) (at step n i : ℕ) (items new whole : List A) (x : A)
    → i < n → x ≡ item at → new ≡ items ++ x ∷ [] → items ++ read_list item at step (n - i) ≡ whole
    → new ++ read_list item (at + step) step (n - (i + 1)) ≡ whole
read_on item at step n i items new whole x lt is pushed so_far =
    ap (λ l. l ++ read_list item (at + step) step (n - (i + 1))) pushed
    ∙ (append_assoc items (x ∷ []) (read_list item (at + step) step (n - (i + 1)))
    ∙ (ap (λ y. items ++ y ∷ read_list item (at + step) step (n - (i + 1))) is
    ∙ (sym (ap (λ k. items ++ read_list item at step k) (one_left n i lt)) ∙ so_far)))

pub flag_on : (cells : List ℕ) (at n i flag : ℕ) (names new whole : List ℕ)
    → i < n → flag ≡ slice_index cells at → new ≡ names ++ name_if flag (i + 1) → names ++ flagged cells at (i + 1) (n - i) ≡ whole
    → new ++ flagged cells (at + 20) (i + 1 + 1) (n - (i + 1)) ≡ whole
flag_on cells at n i flag names new whole lt is pushed so_far =
    ap (λ l. l ++ flagged cells (at + 20) (i + 1 + 1) (n - (i + 1))) pushed
    ∙ (append_assoc names (name_if flag (i + 1)) (flagged cells (at + 20) (i + 1 + 1) (n - (i + 1)))
    ∙ (ap (λ k. names ++ (name_if k (i + 1) ++ flagged cells (at + 20) (i + 1 + 1) (n - (i + 1)))) is
    ∙ (sym (ap (λ k. names ++ flagged cells at (i + 1) k) (one_left n i lt)) ∙ so_far)))

pub node_on : (cells : List ℕ) (from at n i : ℕ) (rows new whole : List NamedNode)
    → i < n → new ≡ node_at cells from at (i + 1) ∷ rows → nodes_onto cells from at (i + 1) (n - i) rows ≡ whole
    → nodes_onto cells from (at + 20) (i + 1 + 1) (n - (i + 1)) new ≡ whole
node_on cells from at n i rows new whole lt pushed so_far =
    ap (λ l. nodes_onto cells from (at + 20) (i + 1 + 1) (n - (i + 1)) l) pushed ∙ (sym (ap (λ k. nodes_onto cells from at (i + 1) k rows) (one_left n i lt)) ∙ so_far)

pub as_many : {A : Type 0} (item : ℕ → A) (at step n : ℕ) (items : List A) → items ≡ read_list item at step n → length items ≡ n
as_many item at step n items is = ap length is ∙ count at n where
  count : (at n : ℕ) → length (read_list item at step n) ≡ n
  count at zero = refl
  count at (suc n) = ap suc (count (at + step) n)
