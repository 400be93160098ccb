-- The orders of the legal ones are written out; each of the others is of one caller, whose calls have one order.
use Rattle.std.proofs.Common.{◌≡◌, ◌≢◌, ℕ, ◌==◌, Bool, true, false, List, [], ◌∷◌, refl, sym, ap, ◌∙◌, subst, inl, inr, ⊎_elim, arith}
use Rattle.std.specs.Prelude.{slice_index_or, codes, if◌then◌else◌}
use Rattle.std.proofs.lemmas.Bool.{cases_eq}
use Rattle.std.proofs.lemmas.Bool.Decides.{nat_tests}
use Rattle.norm_lang.specs.declared.reply.SourceReply.TheVariants as replies
use Rattle.document_runs.specs.declared.report.Answer.{Answer}
use Rattle.document_runs.specs.declared.report.Answer.TheVariants as answers
use Rattle.document_runs.specs.declared.report.ReportLine.{ReportLine}
use Rattle.histories.specs.declared.call.Call.{Call}
use Rattle.histories.specs.declared.call.Action.{Action}
use Rattle.histories.specs.declared.call.Action.TheVariants.{Insert, Remove, Contains, Enqueue, Dequeue}
use Rattle.histories.specs.declared.call.Answer as told
use Rattle.histories.specs.declared.call.Answer.TheVariants.{Number, Nothing, NoEffect}
use Rattle.histories.specs.Histories.{Shared, nothing_shared, reply_to, after, Leaves, calls_of, IsOrderOf, IsLegal}
use Rattle.histories.proofs.Beginnings.{same_caller, none_is_no}
use Rattle.script_driver.specs.report_laws.Legal.{AsksFor, answer_shown, Shows, HasLegalHistory}
use Rattle.shipped_rows.specs.LegalRows.{key_line, number, dequeue_line, of_lines, put_and_found, shared_by_two, put_and_taken, LegalRows}

abbrev call : ℕ → Action → told.Answer → Call
call caller action answer = record { caller = caller; action = action; answer = answer }

shows : (line : ReportLine) (action : Action) → AsksFor action line.name line.args → Shows line (call line.caller action (answer_shown line.answer))
shows line action asks = record { caller = refl; action = asks; answer = refl }

abbrev pair : Call → Call → List Call
pair a b = a ∷ b ∷ []

-- ---- legal ones

-- a set that is given 5, and one that isn't
abbrev with_five : Shared
with_five = after nothing_shared (Insert 5)

found_history : (answer : Answer) (next : Shared) (found : ℕ) → Leaves nothing_shared (Insert 5) (answer_shown answer) next → reply_to next (Contains 5) ≡ Number found → HasLegalHistory (put_and_found answer found)
found_history answer next found leaves reply =
    let history : List Call = pair (call 0 (Insert 5) (answer_shown answer)) (call 0 (Contains 5) (Number found)) in (
      history,
      (shows (key_line 0 0 (codes "insert") 5 answer) (Insert 5) (refl, refl), (shows (key_line 0 1 (codes "contains") 5 (number found)) (Contains 5) (refl, refl), tt)),
      (history, λ c. refl, (next, leaves, (next, (reply, refl), tt))),
    )

taken_history : HasLegalHistory (put_and_taken (number 9))
taken_history =
    let history : List Call = pair (call 0 (Enqueue 9) (Number 9)) (call 0 Dequeue (Number 9)) in
    let next : Shared = after nothing_shared (Enqueue 9) in (
      history,
      (shows (key_line 0 0 (codes "enqueue") 9 (number 9)) (Enqueue 9) (refl, refl), (shows (dequeue_line 1 (number 9)) Dequeue (refl, refl), tt)),
      (history, λ c. refl, (next, (refl, refl), (after next Dequeue, (refl, refl), tt))),
    )

abbrev by_callers : List Call
by_callers = call 0 (Insert 5) (Number 1) ∷ call 1 (Contains 5) (Number 0) ∷ call 1 (Remove 5) (Number 1) ∷ []

abbrev by_moments : List Call
by_moments = call 1 (Contains 5) (Number 0) ∷ call 0 (Insert 5) (Number 1) ∷ call 1 (Remove 5) (Number 1) ∷ []

moved : (a b : Bool) (x y z : Call) → (a ≡ true → b ≡ true → ⊥) → (if b then y ∷ (if a then x ∷ (if b then z ∷ [] else []) else (if b then z ∷ [] else [])) else (if a then x ∷ (if b then z ∷ [] else []) else (if b then z ∷ [] else [])))
    ≡ (if a then x ∷ (if b then y ∷ (if b then z ∷ [] else []) else (if b then z ∷ [] else [])) else (if b then y ∷ (if b then z ∷ [] else []) else (if b then z ∷ [] else [])))
moved true true x y z differ = absurd (differ refl refl)
moved _ _ x y z differ = refl

not_both : (c : ℕ) → (0 == c) ≡ true → (1 == c) ≡ true → ⊥
not_both c zero_is one_is = grind (arith, nat_tests)

in_order : IsOrderOf by_callers by_moments
in_order c = moved (0 == c) (1 == c) (call 0 (Insert 5) (Number 1)) (call 1 (Contains 5) (Number 0)) (call 1 (Remove 5) (Number 1)) (not_both c)

two_history : HasLegalHistory shared_by_two
two_history = (
  by_callers,
  (
    shows (key_line 0 0 (codes "insert") 5 (number 1)) (Insert 5) (refl, refl),
    (
      shows (key_line 1 0 (codes "contains") 5 (number 0)) (Contains 5) (refl, refl),
      (shows (key_line 1 1 (codes "remove") 5 (number 1)) (Remove 5) (refl, refl), tt),
    ),
  ),
  (by_moments, in_order, (nothing_shared, (refl, refl), (with_five, (refl, refl), (after with_five (Remove 5), (refl, refl), tt)))),
)

-- ---- the one order of a caller's calls

own_first : (x : Call) (xs : List Call) → x.caller ≡ 0 → calls_of 0 (x ∷ xs) ≡ x ∷ calls_of 0 xs
own_first x xs own = ap (λ b. if b then x ∷ calls_of 0 xs else calls_of 0 xs) (let e : (x.caller == 0) ≡ true = grind (arith, nat_tests) in e)

other_first : (x : Call) (xs : List Call) (c : ℕ) → x.caller ≡ 0 → c ≢ 0 → calls_of c (x ∷ xs) ≡ calls_of c xs
other_first x xs c own ne = ap (λ b. if b then x ∷ calls_of c xs else calls_of c xs) (let e : (x.caller == c) ≡ false = grind (arith, nat_tests) in e)

of_one : (order : List Call) → ((c : ℕ) → c ≢ 0 → calls_of c order ≡ []) → calls_of 0 order ≡ order
of_one [] none = refl
of_one (x ∷ xs) none = ⊎_elim
    (λ (own : x.caller ≡ 0). own_first x xs own ∙ ap (λ l. x ∷ l) (of_one xs (λ c ne. sym (other_first x xs c own ne) ∙ none c ne)))
    (λ (ne : x.caller ≢ 0). none_is_no x (calls_of x.caller xs) (sym (none x.caller ne) ∙ ap (λ b. if b then x ∷ calls_of x.caller xs else calls_of x.caller xs) (same_caller x.caller)))
    (cases_eq x.caller 0)

same_call : (x : Call) (caller : ℕ) (action : Action) (answer : told.Answer) → x.caller ≡ caller → x.action ≡ action → x.answer ≡ answer → x ≡ call caller action answer
same_call x caller action answer c a w = ap (λ k. call k x.action x.answer) c ∙ (ap (λ k. call caller k x.answer) a ∙ ap (λ k. call caller action k) w)

none_of_two : (a b : Call) → a.caller ≡ 0 → b.caller ≡ 0 → (c : ℕ) → c ≢ 0 → calls_of c (pair a b) ≡ []
none_of_two a b own own' c ne = other_first a (b ∷ []) c own ne ∙ other_first b [] c own' ne

one_order : (a b : Call) (order : List Call) → a.caller ≡ 0 → b.caller ≡ 0 → IsOrderOf (pair a b) order → order ≡ pair a b
one_order a b order own own' is =
    sym (of_one order (λ c ne. is c ∙ none_of_two a b own own' c ne)) ∙ (is 0 ∙ (own_first a (b ∷ []) own ∙ ap (λ l. a ∷ l) (own_first b [] own')))

-- ---- what a line asks for

no_name : {A : Type 0} (word name : List ℕ) → word ≡ name → (slice_index_or word 0 0 == slice_index_or name 0 0) ≡ false → A
no_name word name is differ = let same : slice_index_or word 0 0 ≡ slice_index_or name 0 0 = ap (λ l. slice_index_or l 0 0) is in let no : ⊥ = grind (arith, nat_tests) in absurd no

one_key : (a b : ℕ) → a ∷ [] ≡ b ∷ [] → b ≡ a
one_key a b is = sym (ap (λ l. slice_index_or l 0 0) is)

insert_is : (action : Action) (key : ℕ) → AsksFor action (codes "insert") (key ∷ []) → action ≡ Insert key
insert_is (Insert k) key asks = ap (λ x. Insert x) (one_key key k asks.1)
insert_is (Remove k) key asks = no_name (codes "insert") (codes "remove") asks.0 refl
insert_is (Contains k) key asks = no_name (codes "insert") (codes "contains") asks.0 refl
insert_is (Enqueue k) key asks = no_name (codes "insert") (codes "enqueue") asks.0 refl
insert_is Dequeue key asks = no_name (codes "insert") (codes "dequeue") asks.0 refl

contains_is : (action : Action) (key : ℕ) → AsksFor action (codes "contains") (key ∷ []) → action ≡ Contains key
contains_is (Insert k) key asks = no_name (codes "contains") (codes "insert") asks.0 refl
contains_is (Remove k) key asks = no_name (codes "contains") (codes "remove") asks.0 refl
contains_is (Contains k) key asks = ap (λ x. Contains x) (one_key key k asks.1)
contains_is (Enqueue k) key asks = no_name (codes "contains") (codes "enqueue") asks.0 refl
contains_is Dequeue key asks = no_name (codes "contains") (codes "dequeue") asks.0 refl

enqueue_is : (action : Action) (value : ℕ) → AsksFor action (codes "enqueue") (value ∷ []) → action ≡ Enqueue value
enqueue_is (Insert k) value asks = no_name (codes "enqueue") (codes "insert") asks.0 refl
enqueue_is (Remove k) value asks = no_name (codes "enqueue") (codes "remove") asks.0 refl
enqueue_is (Contains k) value asks = no_name (codes "enqueue") (codes "contains") asks.0 refl
enqueue_is (Enqueue k) value asks = ap (λ x. Enqueue x) (one_key value k asks.1)
enqueue_is Dequeue value asks = no_name (codes "enqueue") (codes "dequeue") asks.0 refl

dequeue_is : (action : Action) → AsksFor action (codes "dequeue") [] → action ≡ Dequeue
dequeue_is (Insert k) asks = no_name (codes "dequeue") (codes "insert") asks.0 refl
dequeue_is (Remove k) asks = no_name (codes "dequeue") (codes "remove") asks.0 refl
dequeue_is (Contains k) asks = no_name (codes "dequeue") (codes "contains") asks.0 refl
dequeue_is (Enqueue k) asks = no_name (codes "dequeue") (codes "enqueue") asks.0 refl
dequeue_is Dequeue asks = refl

-- ---- the others

-- what two lines of a caller say is said by its two calls, one after the other
told_by_two : (one other : ReportLine) (act act' : Action) → one.caller ≡ 0 → other.caller ≡ 0 → ((a : Action) → AsksFor a one.name one.args → a ≡ act) → ((a : Action) → AsksFor a other.name other.args → a ≡ act')
    → HasLegalHistory (of_lines (one ∷ other ∷ [])) → IsLegal nothing_shared (pair (call 0 act (answer_shown one.answer)) (call 0 act' (answer_shown other.answer)))
told_by_two one other act act' own own' asks asks' ([], are, order) = absurd are
told_by_two one other act act' own own' asks asks' (a ∷ [], are, order) = absurd are.1
told_by_two one other act act' own own' asks asks' (a ∷ b ∷ [], are, (order, is, legal)) =
    let shows_a : Shows one a = are.0 in
    let shows_b : Shows other b = are.1.0 in
    let same : a ≡ call 0 act (answer_shown one.answer) = same_call a 0 act (answer_shown one.answer) (shows_a.caller ∙ own) (asks a.action shows_a.action) shows_a.answer in
    let same' : b ≡ call 0 act' (answer_shown other.answer) = same_call b 0 act' (answer_shown other.answer) (shows_b.caller ∙ own') (asks' b.action shows_b.action) shows_b.answer in
    let history : order ≡ pair a b = one_order a b order (shows_a.caller ∙ own) (shows_b.caller ∙ own') is in
    subst (IsLegal nothing_shared) (history ∙ (ap (λ x. pair x b) same ∙ ap (λ x. pair (call 0 act (answer_shown one.answer)) x) same')) legal
told_by_two one other act act' own own' asks asks' (a ∷ b ∷ c ∷ more, are, order) = absurd are.1.1

found_told : (answer : Answer) (found : ℕ) → HasLegalHistory (put_and_found answer found) → IsLegal nothing_shared (pair (call 0 (Insert 5) (answer_shown answer)) (call 0 (Contains 5) (Number found)))
found_told answer found has = told_by_two (key_line 0 0 (codes "insert") 5 answer) (key_line 0 1 (codes "contains") 5 (number found)) (Insert 5) (Contains 5) refl refl
    (λ a asks. insert_is a 5 asks) (λ a asks. contains_is a 5 asks) has

taken_told : (answer : Answer) → HasLegalHistory (put_and_taken answer) → IsLegal nothing_shared (pair (call 0 (Enqueue 9) (Number 9)) (call 0 Dequeue (answer_shown answer)))
taken_told answer has = told_by_two (key_line 0 0 (codes "enqueue") 9 (number 9)) (dequeue_line 1 answer) (Enqueue 9) Dequeue refl refl (λ a asks. enqueue_is a 9 asks) (λ a asks. dequeue_is a asks) has

other_number : {A : Type 0} (n m : ℕ) → Number n ≡ Number m → (n == m) ≡ false → A
other_number n m is differ = let same : n ≡ m = (let z : Number n ≡ Number m = is in cc) in let no : ⊥ = grind (arith, nat_tests) in absurd no

after_effect : IsLegal nothing_shared (pair (call 0 (Insert 5) (Number 1)) (call 0 (Contains 5) (Number 0))) → ⊥
after_effect (next, leaves, (last, ends, rest)) = other_number 1 0 (ap (λ s. reply_to s (Contains 5)) (sym leaves.1) ∙ ends.0) refl

after_none : IsLegal nothing_shared (pair (call 0 (Insert 5) NoEffect) (call 0 (Contains 5) (Number 1))) → ⊥
after_none (next, leaves, (last, ends, rest)) = other_number 0 1 (ap (λ s. reply_to s (Contains 5)) (sym leaves) ∙ ends.0) refl

nothing_taken_told : IsLegal nothing_shared (pair (call 0 (Enqueue 9) (Number 9)) (call 0 Dequeue Nothing)) → ⊥
nothing_taken_told (next, leaves, (last, ends, rest)) = let z : Number 9 ≡ Nothing = ap (λ s. reply_to s Dequeue) (sym leaves.1) ∙ ends.0 in cc

another_taken_told : IsLegal nothing_shared (pair (call 0 (Enqueue 9) (Number 9)) (call 0 Dequeue (Number 8))) → ⊥
another_taken_told (next, leaves, (last, ends, rest)) = other_number 9 8 (ap (λ s. reply_to s Dequeue) (sym leaves.1) ∙ ends.0) refl

pub legal_rows : LegalRows
legal_rows = record {
  found = found_history (number 1) with_five 1 (refl, refl) refl;
  not_found = λ has. after_effect (found_told (number 1) 0 has);
  full = found_history (answers.Replied replies.Full) nothing_shared 0 refl refl;
  found_though_full = λ has. after_none (found_told (answers.Replied replies.Full) 1 has);
  found_after_phases = λ has. after_none (found_told (answers.Replied (replies.Phases 7)) 1 has);
  found_though_unreached = λ has. after_none (found_told answers.Unreached 1 has);
  spent_with_effect = found_history answers.Spent with_five 1 (inl refl) refl;
  spent_without = found_history answers.Spent nothing_shared 0 (inr refl) refl;
  two_callers = two_history;
  taken = taken_history;
  nothing_taken = λ has. nothing_taken_told (taken_told (answers.Replied replies.Nothing) has);
  another_taken = λ has. another_taken_told (taken_told (number 8) has);
}
