-- A search, as it goes on.
use Rattle.std.proofs.Common.{ℕ, zero, suc, ◌+◌, ◌<◌, ◌≤◌, ◌≡◌, ◌∙◌, ◌++◌, List, [], ◌∷◌, length, Some, None, sym, ap, refl, subst, append_assoc, ⊎_elim, arith}
use Rattle.std.specs.Prelude.{slice_get}
use Rattle.std.proofs.lemmas.Bool.{cases_lt}
use Rattle.state_images.specs.Closed.{Told, IsAmong, IsGoneOn, AreGoneOn, AreProperStates, AreProperScripts, told_start}
use Rattle.state_search.specs.Searches.{Seen, IsMore, IsFine, Starts}
use Rattle.state_images.proofs.Closing.{closed_is_proper}

-- ---- more

append_nil : {A : Type 0} (xs : List A) → xs ++ [] ≡ xs
append_nil [] = refl
append_nil (x ∷ xs) = ap (λ l. x ∷ l) (append_nil xs)

pub as_before : (s : Seen) → IsMore s s
as_before s = record { text = refl; scripts = refl; more = []; found = sym (append_nil s.found) }

pub more_on : (a b c : Seen) → IsMore a b → IsMore b c → IsMore a c
more_on a b c p q = record {
  text = q.text ∙ p.text;
  scripts = q.scripts ∙ p.scripts;
  more = p.more ++ q.more;
  found = q.found ∙ (ap (λ l. l ++ q.more) p.found ∙ append_assoc a.found p.more q.more);
}

-- the search's invariant: the start is among the found, the first so many are gone on from, and all are proper
pub record Goes (seen : Seen) (done : ℕ) : Type 0 where
  pub begun : IsAmong seen.found (told_start seen.text seen.scripts)
  pub gone : AreGoneOn seen.text seen.scripts seen.found done
  pub proper : AreProperStates seen.found

pub goes_from : (seen : Seen) → Starts seen → Goes seen 0
goes_from seen s = record { begun = s.begun; gone = λ place one below stands. let no : ⊥ = omega (arith, below) in absurd no; proper = s.proper }

pub still_there : {A : Type 0} (xs ys : List A) (i : ℕ) (x : A) → slice_get xs i ≡ Some x → slice_get (xs ++ ys) i ≡ Some x
still_there [] ys i x e = absurd (let z : None ≡ Some x = e in cc)
still_there (y ∷ xs) ys zero x e = e
still_there (y ∷ xs) ys (suc i) x e = still_there xs ys i x e

was_there : {A : Type 0} (xs ys : List A) (i : ℕ) (x : A) → i < length xs → slice_get (xs ++ ys) i ≡ Some x → slice_get xs i ≡ Some x
was_there [] ys i x lt e = let no : ⊥ = omega (arith, lt) in absurd no
was_there (y ∷ xs) ys zero x lt e = e
was_there (y ∷ xs) ys (suc i) x lt e = was_there xs ys i x (omega (arith, lt)) e

pub among_more : (found more : List Told) (told : Told) → IsAmong found told → IsAmong (found ++ more) told
among_more found more told a = record { place = a.place; one = a.one; stands = still_there found more a.place a.one a.stands; naming = a.naming; image = a.image; begun = a.begun }

module _ (old new : Seen) (m : IsMore old new) where
  pub among_new : (told : Told) → IsAmong old.found told → IsAmong new.found told
  among_new told a = subst (λ f. IsAmong f told) (sym m.found) (among_more old.found m.more told a)

  gone_new : (one : Told) → IsGoneOn old.text old.scripts old.found one → IsGoneOn new.text new.scripts new.found one
  gone_new one g =
      subst (λ t. IsGoneOn t new.scripts new.found one) (sym m.text)
      (subst (λ s. IsGoneOn old.text s new.found one) (sym m.scripts)
      (record { name = g.name; some = g.some; unused = g.unused; leads = λ event e h. among_new _ (g.leads event e h) }))

  pub goes_more : (done : ℕ) → done < length old.found → Goes old done → IsFine old new done → Goes new (done + 1)
  goes_more done lt g fine = record {
    begun = subst (λ t. IsAmong new.found (told_start t new.scripts)) (sym m.text) (subst (λ s. IsAmong new.found (told_start old.text s)) (sym m.scripts) (among_new _ g.begun));
    gone = λ place one below stands. ⊎_elim
        (λ (less : place < done). gone_new one (g.gone place one less (was_there old.found m.more place one (omega (arith, less, lt)) (subst (λ f. slice_get f place ≡ Some one) m.found stands))))
        (λ (more : done ≤ place).
        let here : place ≡ done = omega (arith, below, more) in
        let same : fine.one ≡ one = (let z : Some fine.one ≡ Some one = sym fine.stands ∙ (ap (slice_get new.found) (sym here) ∙ stands) in cc) in
        subst (IsGoneOn new.text new.scripts new.found) same fine.gone)
        (cases_lt place done);
    proper = fine.proper g.proper;
  }

pub goes_to_end : (seen : Seen) (done : ℕ) → length seen.found ≤ done → Goes seen done → AreProperScripts seen.text seen.scripts
goes_to_end seen done all g =
    closed_is_proper seen.text seen.scripts seen.found
    (record { starts = g.begun; goes_on = λ place one below stands. g.gone place one (omega (arith, below, all)) stands; proper = g.proper })

-- what holds of what is found holds of what the search began with
pub goes_since : (first seen : Seen) (done : ℕ) → IsMore first seen → length seen.found ≤ done → Goes seen done → AreProperScripts first.text first.scripts
goes_since first seen done m all g =
    subst (λ t. AreProperScripts t first.scripts) m.text (subst (λ s. AreProperScripts seen.text s) m.scripts (goes_to_end seen done all g))

pub record Since (first seen : Seen) (done : ℕ) : Type 0 where
  pub more : IsMore first seen
  pub goes : Goes seen done

pub since_start : (seen : Seen) → Starts seen → Since seen seen 0
since_start seen s = record { more = as_before seen; goes = goes_from seen s }

pub since_more : (first old new : Seen) (done : ℕ) → done < length old.found → Since first old done → IsMore old new → IsFine old new done → Since first new (done + 1)
since_more first old new done lt s m fine = record { more = more_on first old new s.more m; goes = goes_more old new m done lt s.goes fine }
