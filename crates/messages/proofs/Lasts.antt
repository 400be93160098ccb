-- The last of lines that pass a test, looked for one by one.
use Rattle.std.proofs.Common.{◌≡◌, Bool, true, false, List, [], ◌∷◌, filter, Option, Some, refl, sym, ◌∙◌}
use Rattle.oa_text.specs.Lines.{TextLine}
use Rattle.messages.specs.Owed.{last_of}

-- one that passes is the last so far
pub last_more : (test : TextLine → Bool) (x : TextLine) (rest xs : List TextLine) (last : Option TextLine) (whole : Option TextLine) → xs ≡ x ∷ rest → test x ≡ true
    → last_of last (filter test xs) ≡ whole → last_of (Some x) (filter test rest) ≡ whole
last_more test x rest xs last whole is passes so_far = sym (rw (is, passes) refl) ∙ so_far

pub last_passed : (test : TextLine → Bool) (x : TextLine) (rest xs : List TextLine) (last : Option TextLine) (whole : Option TextLine) → xs ≡ x ∷ rest → test x ≡ false
    → last_of last (filter test xs) ≡ whole → last_of last (filter test rest) ≡ whole
last_passed test x rest xs last whole is fails so_far = sym (rw (is, fails) refl) ∙ so_far

pub last_done : (test : TextLine → Bool) (xs : List TextLine) (last : Option TextLine) (whole : Option TextLine) → xs ≡ [] → last_of last (filter test xs) ≡ whole → last ≡ whole
last_done test xs last whole is so_far = sym (rw is refl) ∙ so_far
