-- Each `new` of a method has a cradle, and different ones have different cradles. These laws alone open what a cradle's number is.
use Rattle.std.proofs.Common.{◌≡◌, ◌≢◌, ◌==◌, ℕ, zero, suc, ◌+◌, ◌*◌, ◌≤◌, ◌<◌, ◌∙◌, Bool, true, false, List, [], ◌∷◌, Option, Some, refl, sym, ap, subst, ⊎_elim, arith, if◌then◌else◌}
use Rattle.std.specs.Prelude.{slice_get, slice_index}
use Rattle.std.proofs.lemmas.Bool.{cases_eq, cases_lt}
use Rattle.std.proofs.lemmas.Bool.Decides.{nat_tests}
use Rattle.norm_lang.specs.declared.text.Instr.TheVariants as instr
use Rattle.target_code.specs.declared.target.TargetInstr.{TargetInstr}
use Rattle.target_code.specs.declared.target.TargetInstr.TheVariants.{Plain}
use Rattle.target_code.specs.declared.target.Target.{Target}
use Rattle.target_code.specs.TargetLimits.{is_target_new, target_news_in}
use Rattle.target_laws.specs.target_runs.Sane.{SaneCode}
use Rattle.oa_words.specs.Words.{Sizes}
use Rattle.oa_words.specs.SlotKinds.{IsNullOrOf}
use Rattle.caller_parts.specs.Operands.{is_new_at, is_new_of, kind_made, news_before, cradle_count, cradle_number}
use Rattle.caller_steps.specs.Belongs.{HoldsSlots}

-- ---- how many `new` of a kind stand before a place

one_if : Bool → ℕ
one_if true = 1
one_if false = 0

same_number : (n : ℕ) → (n == n) ≡ true
same_number n = grind (arith, nat_tests)

-- a `new` is one of its kind
new_of_own : (o : Option TargetInstr) → is_new_at o ≡ true → is_new_of (kind_made o) o ≡ true
new_of_own (Some (Plain (instr.New d kind))) is = same_number kind
new_of_own _ is = absurd (let no : false ≡ true = is in cc)

-- and one of a kind is a `new`
new_of_some : (kind : ℕ) (o : Option TargetInstr) → is_new_of kind o ≡ true → is_new_at o ≡ true
new_of_some kind (Some (Plain (instr.New d k))) is = refl
new_of_some kind _ is = absurd (let no : false ≡ true = is in cc)

shifted : (kind : ℕ) (i : TargetInstr) (code : List TargetInstr) (n : ℕ) → news_before kind (i ∷ code) (suc n) ≡ one_if (is_new_of kind (Some i)) + news_before kind code n
unfolding one_if
shifted kind i code zero = of (is_new_of kind (Some i)) where
  of : (b : Bool) → (if b then 0 + 1 else 0) ≡ one_if b + 0
  of true = refl
  of false = refl
shifted kind i code (suc n) = of (is_new_of kind (slice_get code n)) (shifted kind i code n) where
  of : (b : Bool) → news_before kind (i ∷ code) (suc n) ≡ one_if (is_new_of kind (Some i)) + news_before kind code n
      → (if b then news_before kind (i ∷ code) (suc n) + 1 else news_before kind (i ∷ code) (suc n)) ≡ one_if (is_new_of kind (Some i)) + (if b then news_before kind code n + 1 else news_before kind code n)
  of true e = omega (arith, e)
  of false e = e

counted_by : (i : TargetInstr) (code : List TargetInstr) → target_news_in (i ∷ code) ≡ one_if (is_target_new i) + target_news_in code
unfolding one_if
counted_by i code = of (is_target_new i) where
  of : (b : Bool) → (if b then target_news_in code + 1 else target_news_in code) ≡ one_if b + target_news_in code
  of true = omega arith
  of false = omega arith

-- those of a kind are some of all
no_more : (kind : ℕ) (i : TargetInstr) → one_if (is_new_of kind (Some i)) ≤ one_if (is_target_new i)
unfolding one_if
no_more kind i = of (is_new_of kind (Some i)) (is_target_new i) (new_of_some kind (Some i)) where
  of : (a b : Bool) → (a ≡ true → b ≡ true) → one_if a ≤ one_if b
  of true false then_is = absurd (let no : false ≡ true = then_is refl in cc)
  of _ _ then_is = omega arith

-- fewer than the method has
news_below : (kind : ℕ) (code : List TargetInstr) (at : ℕ) → is_new_of kind (slice_get code at) ≡ true → news_before kind code at < target_news_in code
unfolding one_if
news_below kind [] at is = absurd (let z : false ≡ true = is in cc)
news_below kind (i ∷ code) zero is = of (is_target_new i) (new_of_some kind (Some i) is) (counted_by i code) where
  of : (b : Bool) → b ≡ true → target_news_in (i ∷ code) ≡ one_if b + target_news_in code → 0 < target_news_in (i ∷ code)
  of true new e = omega (arith, e)
  of false new e = absurd (let z : false ≡ true = new in cc)
news_below kind (i ∷ code) (suc at) is =
    let rest : news_before kind code at < target_news_in code = news_below kind code at is in
    let a = shifted kind i code at in let b = counted_by i code in let few = no_more kind i in omega (arith, rest, a, b, few)

one_more : (b : Bool) (n : ℕ) → n ≤ (if b then n + 1 else n)
one_more true n = omega arith
one_more false n = omega arith

-- after a `new` of the kind there are more
news_more : (kind : ℕ) (code : List TargetInstr) (a b : ℕ) → is_new_of kind (slice_get code a) ≡ true → a < b → news_before kind code a < news_before kind code b
news_more kind code a zero new lt = absurd (omega (arith, lt))
news_more kind code a (suc b) new lt = ⊎_elim
    (λ (e : a ≡ b).
    let here : is_new_of kind (slice_get code b) ≡ true = ap (λ (i : ℕ). is_new_of kind (slice_get code i)) (sym e) ∙ new in
    let same : news_before kind code a ≡ news_before kind code b = ap (news_before kind code) e in
    rw here (omega (arith, same)))
    (λ (ne : a ≢ b).
    let before = news_more kind code a b new (omega (arith, lt, ne)) in
    let up = one_more (is_new_of kind (slice_get code b)) (news_before kind code b) in omega (arith, before, up))
    (cases_eq a b)

-- ---- the laws

abbrev number_among : List TargetInstr → ℕ → ℕ
number_among code at = news_before (kind_made (slice_get code at)) code at

-- among those of its kind it has a number below four
among_small : (target : Target) (wrapup : Bool) (code : List TargetInstr) (at : ℕ) → SaneCode target wrapup code → is_new_at (slice_get code at) ≡ true → number_among code at < 4
among_small target wrapup code at sane is =
    let below = news_below (kind_made (slice_get code at)) code at (new_of_own (slice_get code at) is) in
    let most : target_news_in code ≤ 4 = sane.news in omega (arith, below, most)

-- at a `new` of a sane method it is that of a cradle
pub cradle_number_small : (target : Target) (wrapup : Bool) (code : List TargetInstr) (at : ℕ) → SaneCode target wrapup code → is_new_at (slice_get code at) ≡ true → kind_made (slice_get code at) < 4
    → cradle_number code at < cradle_count
cradle_number_small target wrapup code at sane is few = let below = among_small target wrapup code at sane is in omega (arith, below, few)

-- no other kind has that cradle
pub cradle_kind_is : (target : Target) (wrapup : Bool) (code : List TargetInstr) (at : ℕ) → SaneCode target wrapup code → is_new_at (slice_get code at) ≡ true → (t k : ℕ) → k < 4 → 4 * t + k ≡ cradle_number code at
    → t ≡ kind_made (slice_get code at)
cradle_kind_is target wrapup code at sane is t k few same = let below = among_small target wrapup code at sane is in omega (arith, below, few, same)

-- so it holds a slot of its kind, or none
pub in_cradle : (target : Target) (wrapup : Bool) (code : List TargetInstr) (at : ℕ) (n : Sizes) (cradles : List ℕ) → SaneCode target wrapup code → is_new_at (slice_get code at) ≡ true → HoldsSlots n cradles
    → IsNullOrOf n (kind_made (slice_get code at)) (slice_index cradles (cradle_number code at))
in_cradle target wrapup code at n cradles sane is holds = holds.kinds (kind_made (slice_get code at)) (number_among code at) (among_small target wrapup code at sane is)

-- two places of `new` in one method have different ones
pub cradle_numbers_apart : (target : Target) (wrapup : Bool) (code : List TargetInstr) (a b : ℕ) → SaneCode target wrapup code → is_new_at (slice_get code a) ≡ true → is_new_at (slice_get code b) ≡ true → a ≢ b
    → cradle_number code a ≢ cradle_number code b
cradle_numbers_apart target wrapup code a b sane new new' other same =
    let one = among_small target wrapup code a sane new in
    let two = among_small target wrapup code b sane new' in
    let kinds : kind_made (slice_get code a) ≡ kind_made (slice_get code b) = omega (arith, same, one, two) in
    let here = new_of_own (slice_get code a) new in
    let there = subst (λ (kind : ℕ). is_new_of kind (slice_get code b) ≡ true) (sym kinds) (new_of_own (slice_get code b) new') in
    let also : news_before (kind_made (slice_get code b)) code b ≡ news_before (kind_made (slice_get code a)) code b = ap (λ (kind : ℕ). news_before kind code b) (sym kinds) in
    ⊎_elim
    (λ (lt : a < b). let more = news_more (kind_made (slice_get code a)) code a b here lt in let no : ⊥ = omega (arith, more, same, kinds, also) in no)
    (λ (ge : b ≤ a). let more = news_more (kind_made (slice_get code a)) code b a there (omega (arith, ge, other)) in let no : ⊥ = omega (arith, more, same, kinds, also) in no)
    (cases_lt a b)

-- a method with a `new` has one
pub new_counts : (code : List TargetInstr) (at : ℕ) → is_new_at (slice_get code at) ≡ true → 1 ≤ target_news_in code
new_counts code at is = let below = news_below (kind_made (slice_get code at)) code at (new_of_own (slice_get code at) is) in omega (arith, below)
