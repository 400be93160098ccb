-- If deeds explain what callers were told, their calls can be put in the order of the deeds.
use Rattle.std.proofs.Common.{ℕ, zero, suc, ◌≡◌, ◌≤◌, ◌==◌, ◌∙◌, Bool, true, false, List, [], ◌∷◌, length, drop, Option, Some, None, inl, inr, ⊎_elim, refl, sym, ap, subst, arith}
use Rattle.std.specs.Prelude.{slice_index_or, if◌then◌else◌}
use Rattle.std.specs.List.{remove}
use Rattle.std.proofs.lemmas.Bool.{cases_eq}
use Rattle.std.proofs.lemmas.Bool.Decides.{nat_tests}
use mathlib.Core.Logic.{◌⊎◌}
use Rattle.histories.specs.declared.call.Call.{Call}
use Rattle.histories.specs.declared.call.Action.{Action}
use Rattle.histories.specs.declared.call.Answer.{Answer}
use Rattle.histories.specs.declared.call.Answer.TheVariants.{Number, Nothing, Spent, NoEffect}
use Rattle.histories.specs.Histories.{Shared, reply_to, after, Leaves, calls_of, HasLegalOrder}
use Rattle.histories.proofs.Beginnings.{same_caller, none_is_no, first_taken, stands, begins_one, none_left}
use Rattle.source_histories.specs.declared.deed.Deed.{Deed}
use Rattle.source_histories.specs.Deeds.{of_caller, after_deeds}

-- the reply of a deed, as it is told
abbrev pub answer_of : Option ℕ → Answer
answer_of None = Nothing
answer_of (Some n) = Number n

-- an answer to a call that has a deed with a reply
abbrev pub AnswerFits : Answer → Option ℕ → Type 0
AnswerFits (Number n) reply = reply ≡ Some n
AnswerFits Nothing reply = reply ≡ None
AnswerFits Spent reply = Unit {0}
AnswerFits NoEffect reply = ⊥

-- an answer to a call that may have none
abbrev pub IsQuiet : Answer → Type 0
IsQuiet (Number n) = ⊥
IsQuiet Nothing = ⊥
IsQuiet Spent = Unit {0}
IsQuiet NoEffect = Unit {0}

pub record IsDeedOf (action : ℕ → ℕ → Action) (d : Deed) (it : Call) : Type 0 where
  pub asked : action d.op d.arg ≡ it.action
  pub fits : AnswerFits it.answer d.reply

-- the deeds are those of the calls, in order
abbrev pub Explain : (ℕ → ℕ → Action) → List Deed → List Call → Type 0
Explain action [] [] = Unit {0}
Explain action (d ∷ ds) [] = ⊥
Explain action [] (it ∷ its) = IsQuiet it.answer × Explain action [] its
Explain action (d ∷ ds) (it ∷ its) = (IsQuiet it.answer × Explain action (d ∷ ds) its) ⊎ (IsDeedOf action d it × Explain action ds its)

-- if the object and what is shared are the same, a deed does to the one what its action does to the other, and its reply is the action's
abbrev pub StepFits : (A : Type 0) → (Deed → A → Option A) → (ℕ → ℕ → Action) → (A → Shared → Type 0) → Type 0
StepFits A step action Same = (d : Deed) (a b : A) (shared : Shared) → Same a shared → step d a ≡ Some b
    → (reply_to shared (action d.op d.arg) ≡ answer_of d.reply) × Same b (after shared (action d.op d.arg))

leaves : (shared : Shared) (action : Action) (answer : Answer) (reply : Option ℕ) → AnswerFits answer reply → reply_to shared action ≡ answer_of reply → Leaves shared action answer (after shared action)
leaves shared action (Number n) reply fits is = (is ∙ ap answer_of fits, refl)
leaves shared action Nothing reply fits is = (is ∙ ap answer_of fits, refl)
leaves shared action Spent reply fits is = inl refl
leaves shared action NoEffect reply fits is = absurd fits

quiet_leaves : (shared : Shared) (action : Action) (answer : Answer) → IsQuiet answer → Leaves shared action answer shared
quiet_leaves shared action (Number n) quiet = absurd quiet
quiet_leaves shared action Nothing quiet = absurd quiet
quiet_leaves shared action Spent quiet = inr refl
quiet_leaves shared action NoEffect quiet = refl

-- ---- one call is taken out

head_is : (x h : Call) (xs tail : List Call) → x ∷ xs ≡ h ∷ tail → x ≡ h
head_is x h xs tail is = ap (λ l. slice_index_or l 0 x) is

first_by : (c : ℕ) (x h : Call) (xs tail : List Call) (b : Bool) → (x.caller == c) ≡ b → (xs ≡ h ∷ tail → (h.caller == c) ≡ true) → (if b then x ∷ xs else xs) ≡ h ∷ tail → (h.caller == c) ≡ true
first_by c x h xs tail true same later is = subst (λ (y : Call). (y.caller == c) ≡ true) (head_is x h xs tail is) same
first_by c x h xs tail false other later is = later is

first_is_of : (c : ℕ) (left : List Call) (h : Call) (tail : List Call) → calls_of c left ≡ h ∷ tail → (h.caller == c) ≡ true
first_is_of c [] h tail is = none_is_no h tail is
first_is_of c (x ∷ xs) h tail is = first_by c x h (calls_of c xs) tail (x.caller == c) refl (first_is_of c xs h tail) is

is_other : (a b c : ℕ) → (a == b) ≡ true → (c ≡ b → ⊥) → (a == c) ≡ false
is_other a b c same ne = grind (arith, nat_tests)

tests_same : (a b : ℕ) → (a == b) ≡ true → a ≡ b
tests_same a b same = grind (arith, nat_tests)

own_deeds : (c : ℕ) (d : Deed) (ds : List Deed) → d.caller ≡ c → of_caller c (d ∷ ds) ≡ d ∷ of_caller c ds
own_deeds c d ds is = ap (λ b. if b then d ∷ of_caller c ds else of_caller c ds) (subst (λ i. (d.caller == i) ≡ true) is (same_caller d.caller))

other_test : (a c : ℕ) → (c ≡ a → ⊥) → (a == c) ≡ false
other_test a c ne = grind (arith, nat_tests)

other_deeds : (c : ℕ) (d : Deed) (ds : List Deed) → (c ≡ d.caller → ⊥) → of_caller c (d ∷ ds) ≡ of_caller c ds
other_deeds c d ds ne = ap (λ b. if b then d ∷ of_caller c ds else of_caller c ds) (other_test d.caller c ne)

-- a caller's first call, where it stands, and what is left without it
record First (c : ℕ) (history : List Call) (h : Call) (tail : List Call) : Type 0 where
  at : ℕ
  inside : suc (length (remove history at)) ≡ length history
  of : (h.caller == c) ≡ true
  rest : calls_of c (remove history at) ≡ tail
  others : (e : ℕ) → (e ≡ c → ⊥) → calls_of e history ≡ calls_of e (remove history at)
  begins : (shared next : Shared) → Leaves shared h.action h.answer next → HasLegalOrder next (remove history at) → HasLegalOrder shared history

length_removed : (xs : List Call) (i : ℕ) → suc i ≤ length xs → suc (length (remove xs i)) ≡ length xs
length_removed [] i lt = let no : ⊥ = omega (arith, lt) in absurd no
length_removed (x ∷ xs) zero lt = refl
length_removed (x ∷ xs) (suc i) lt = ap suc (length_removed xs i (omega (arith, lt)))

first_of : (c : ℕ) (history : List Call) (h : Call) (tail : List Call) → calls_of c history ≡ h ∷ tail → First c history h tail
first_of c history h tail is =
    let of = first_is_of c history h tail is in
    let same : h.caller ≡ c = tests_same h.caller c of in
    let (at, lt, there, first) = stands history h tail (subst (λ i. calls_of i history ≡ h ∷ tail) (sym same) is) in
    let split = λ (e : ℕ). first_taken history at h e lt there first in
    record {
      at = at;
      inside = length_removed history at lt;
      of = of;
      rest = ap (drop 1) (sym (sym is ∙ (split c ∙ ap (λ b. if b then h ∷ calls_of c (remove history at) else calls_of c (remove history at)) of)));
      others = λ e ne. split e ∙ ap (λ b. if b then h ∷ calls_of e (remove history at) else calls_of e (remove history at)) (is_other h.caller c e of ne);
      begins = λ shared next left order. begins_one shared history at lt (h, there, first, (next, left, order));
    }

-- ---- the order

-- every call left has its deed among those left
abbrev pub AllExplained : (ℕ → ℕ → Action) → List Deed → List Call → Type 0
AllExplained action ds history = (c : ℕ) → Explain action (of_caller c ds) (calls_of c history)

left_explained : (action : ℕ → ℕ → Action) (ds ds' : List Deed) (history : List Call) (c : ℕ) (h : Call) (tail : List Call) (first : First c history h tail)
    → AllExplained action ds history → Explain action (of_caller c ds') tail → ((e : ℕ) → (e ≡ c → ⊥) → of_caller e ds ≡ of_caller e ds') → AllExplained action ds' (remove history first.at)
left_explained action ds ds' history c h tail first all own others e = ⊎_elim
    (λ (same : e ≡ c). subst (λ i. Explain action (of_caller i ds') (calls_of i (remove history first.at))) (sym same) (subst (λ l. Explain action (of_caller c ds') l) (sym first.rest) own))
    (λ (ne : e ≡ c → ⊥). subst (λ l. Explain action (of_caller e ds') l) (first.others e ne) (subst (λ x. Explain action x (calls_of e history)) (others e ne) (all e)))
    (cases_eq e c)

goes : {A : Type 0} (step : Deed → A → Option A) (d : Deed) (ds : List Deed) (o : Option A) (b : A) → after_deeds step ds o ≡ Some b → (a : A) × (o ≡ Some a)
goes step d ds (Some a) b is = (a, refl)
goes step d [] None b is = absurd (let z : None ≡ Some b = is in cc)
goes step d (x ∷ ds) None b is = goes step d ds None b is

module _ (A : Type 0) (step : Deed → A → Option A) (action : ℕ → ℕ → Action) (Same : A → Shared → Type 0) (fits : StepFits A step action Same) where
  -- a caller's first call, which may be the one that the first deed is of
  by_first : (n : ℕ) (d : Deed) (ds : List Deed) (a b : A) (shared : Shared) (history : List Call) → length history ≤ suc n → Same a shared → after_deeds step (d ∷ ds) (Some a) ≡ Some b → AllExplained action (d ∷ ds) history
      → ((ds' : List Deed) (a' : A) (shared' : Shared) (left : List Call) → length left ≤ n → Same a' shared' → after_deeds step ds' (Some a') ≡ Some b → AllExplained action ds' left → HasLegalOrder shared' left)
      → (its : List Call) → calls_of d.caller history ≡ its → Explain action (d ∷ of_caller d.caller ds) its → HasLegalOrder shared history
  by_first n d ds a b shared history le same runs all later [] is explained = absurd explained
  by_first n d ds a b shared history le same runs all later (h ∷ tail) is (inl (quiet, more)) =
      let first = first_of d.caller history h tail is in
      first.begins shared shared (quiet_leaves shared h.action h.answer quiet)
      (later (d ∷ ds) a shared (remove history first.at) (omega (arith, le, first.inside)) same runs
      (left_explained action (d ∷ ds) (d ∷ ds) history d.caller h tail first all (subst (λ l. Explain action l tail) (sym (own_deeds d.caller d ds refl)) more) (λ e ne. refl)))
  by_first n d ds a b shared history le same runs all later (h ∷ tail) is (inr (deed, more)) =
      let first = first_of d.caller history h tail is in
      let (next, went) = goes step d ds (step d a) b runs in
      let stepped = fits d a next shared same went in
      let left = subst (λ (k : Action). Leaves shared k h.answer (after shared k)) deed.asked (leaves shared (action d.op d.arg) h.answer d.reply deed.fits stepped.0) in
      first.begins shared (after shared h.action) left
      (later ds next (after shared h.action) (remove history first.at) (omega (arith, le, first.inside)) (subst (λ (k : Action). Same next (after shared k)) deed.asked stepped.1) (ap (λ o. after_deeds step ds o) (sym went) ∙ runs)
      (left_explained action (d ∷ ds) ds history d.caller h tail first all more (λ e ne. other_deeds e d ds ne)))

  ordered : (n : ℕ) (ds : List Deed) (a b : A) (shared : Shared) (history : List Call) → length history ≤ n → Same a shared → after_deeds step ds (Some a) ≡ Some b → AllExplained action ds history
      → HasLegalOrder shared history
  ordered zero ds a b shared history le same runs all = none_left shared history (omega (arith, le))
  ordered (suc n) ds a b shared [] le same runs all = none_left shared [] refl
  ordered (suc n) [] a b shared (x ∷ xs) le same runs all =
      let own : calls_of x.caller (x ∷ xs) ≡ x ∷ calls_of x.caller xs = ap (λ b. if b then x ∷ calls_of x.caller xs else calls_of x.caller xs) (same_caller x.caller) in
      let first = first_of x.caller (x ∷ xs) x (calls_of x.caller xs) own in
      let quiet : IsQuiet x.answer × Explain action [] (calls_of x.caller xs) = subst (λ l. Explain action [] l) own (all x.caller) in
      first.begins shared shared (quiet_leaves shared x.action x.answer quiet.0)
      (ordered n [] a b shared (remove (x ∷ xs) first.at) (omega (arith, le, first.inside)) same runs (left_explained action [] [] (x ∷ xs) x.caller x (calls_of x.caller xs) first all quiet.1 (λ e ne. refl)))
  ordered (suc n) (d ∷ ds) a b shared (x ∷ xs) le same runs all =
      by_first n d ds a b shared (x ∷ xs) le same runs all (λ ds' a' shared' left le' same' runs' all'. ordered n ds' a' b shared' left le' same' runs' all')
      (calls_of d.caller (x ∷ xs)) refl (subst (λ l. Explain action l (calls_of d.caller (x ∷ xs))) (own_deeds d.caller d ds refl) (all d.caller))

  -- all deeds, from the first object on
  pub has_order : (first : A) (shared : Shared) (ds : List Deed) (history : List Call) (b : A) → Same first shared → after_deeds step ds (Some first) ≡ Some b → AllExplained action ds history → HasLegalOrder shared history
  has_order first shared ds history b same runs all = ordered (length history) ds first b shared history (omega arith) same runs all
