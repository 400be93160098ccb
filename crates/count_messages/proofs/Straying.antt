-- Initial nodes counted line by line, and the word that names none, looked for one by one.
use Rattle.std.proofs.Common.{◌≡◌, ℕ, ◌-◌, Bool, true, false, List, [], ◌∷◌, map, filter, find, Option, Some, None, refl, sym, ◌∙◌}
use Rattle.oa_text.specs.Lines.{TextLine}
use Rattle.count_messages.specs.Stray.{promised_by, left_after}

-- a line that promises nodes
pub node_counted : (test : TextLine → Bool) (x : TextLine) (rest xs : List TextLine) (left : ℕ) (whole : ℕ) → xs ≡ x ∷ rest → test x ≡ true
    → left_after left (filter test xs) ≡ whole → left_after (left - promised_by x) (filter test rest) ≡ whole
node_counted test x rest xs left whole is passes so_far = sym (rw (is, passes) refl) ∙ so_far

-- another line
pub node_passed : (test : TextLine → Bool) (x : TextLine) (rest xs : List TextLine) (left : ℕ) (whole : ℕ) → xs ≡ x ∷ rest → test x ≡ false
    → left_after left (filter test xs) ≡ whole → left_after left (filter test rest) ≡ whole
node_passed test x rest xs left whole is fails so_far = sym (rw (is, fails) refl) ∙ so_far

-- none is left
pub nodes_done : (test : TextLine → Bool) (xs : List TextLine) (left : ℕ) (whole : ℕ) → xs ≡ [] → left_after left (filter test xs) ≡ whole → left ≡ whole
nodes_done test xs left whole is so_far = sym (rw is refl) ∙ so_far

-- the word looked for
pub word_met : {X : Type 0} (view : X → List ℕ) (test : List ℕ → Bool) (x : X) (rest xs : List X) (whole : Option (List ℕ)) → xs ≡ x ∷ rest → test (view x) ≡ true
    → find test (map view xs) ≡ whole → whole ≡ Some (view x)
word_met view test x rest xs whole is passes so_far = sym so_far ∙ rw (is, passes) refl

pub word_left : {X : Type 0} (view : X → List ℕ) (test : List ℕ → Bool) (x : X) (rest xs : List X) (whole : Option (List ℕ)) → xs ≡ x ∷ rest → test (view x) ≡ false
    → find test (map view xs) ≡ whole → find test (map view rest) ≡ whole
word_left view test x rest xs whole is fails so_far = sym (rw (is, fails) refl) ∙ so_far

pub words_done : {X : Type 0} (view : X → List ℕ) (test : List ℕ → Bool) (xs : List X) (whole : Option (List ℕ)) → xs ≡ [] → find test (map view xs) ≡ whole → whole ≡ None
words_done view test xs whole is so_far = sym so_far ∙ rw is refl
