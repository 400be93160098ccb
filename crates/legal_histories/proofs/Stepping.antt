-- Deeds of a set and of a queue do what their actions do to what callers share.
use Rattle.std.proofs.Common.{ℕ, zero, suc, ◌≡◌, ◌≢◌, ◌==◌, ◌∙◌, Bool, true, false, ◌||◌, not, List, [], ◌∷◌, ◌++◌, drop, Option, Some, None, ⊎_elim, refl, sym, ap, subst, arith}
use Rattle.std.specs.Prelude.{if◌then◌else◌}
use Rattle.std.specs.List.{filter}
use Rattle.std.proofs.lemmas.Bool.{cases_eq}
use Rattle.std.proofs.lemmas.Bool.Decides.{nat_tests}
use Rattle.source_machine.specs.Proper.{has}
use Rattle.set_laws.specs.Sets.{if_right, with_key, without_key, inserted, removed, searched, after_reply, set_step}
use Rattle.set_laws.proofs.Keys.{has_with, has_without, has_taken}
use Rattle.queue_laws.specs.Queues.{queue_step, enqueued, dequeued}
use Rattle.histories.specs.declared.call.Action.TheVariants.{Insert, Remove, Contains, Enqueue, Dequeue}
use Rattle.histories.specs.declared.call.Answer.TheVariants.{Number}
use Rattle.histories.specs.Histories.{Shared, has_key, number_of, first_value, reply_to, after}
use Rattle.legal_histories.specs.Told.{set_action, queue_action}
use Rattle.legal_histories.proofs.Ordering.{StepFits, answer_of}

-- the same keys, whatever their order
abbrev pub SameKeys : List ℕ → Shared → Type 0
SameKeys keys shared = (k : ℕ) → has k keys ≡ has_key shared.keys k

abbrev pub SameValues : List ℕ → Shared → Type 0
SameValues values shared = shared.values ≡ values

none_is : {A B : Type 0} (b : A) → None ≡ Some b → B
none_is {A} b e = absurd (let z : None ≡ Some b = e in cc)

right_is : (t : Bool) (keys b : List ℕ) → if_right t keys ≡ Some b → (t ≡ true) × (keys ≡ b)
right_is true keys b is = (refl, let z : Some keys ≡ Some b = is in cc)
right_is false keys b is = none_is b is

number_is : (t : Bool) (n reply : ℕ) → number_of t ≡ Number n → (reply == n) ≡ true → number_of t ≡ Number reply
number_is t n reply is same = is ∙ ap (λ x. Number x) (let e : n ≡ reply = grind (arith, nat_tests) in e)

-- ---- keys

added : (keys : List ℕ) (key k : ℕ) → has_key (keys ++ key ∷ []) k ≡ (key == k) || has_key keys k
added [] key k = refl
added (x ∷ xs) key k = ap (λ t. (x == k) || t) (added xs key k) ∙ exchanged (x == k) (key == k) (has_key xs k)
  where
    exchanged : (a b c : Bool) → a || (b || c) ≡ b || (a || c)
    exchanged true true c = refl
    exchanged true false c = refl
    exchanged false b c = refl

kept_by : (x key k : ℕ) (xs : List ℕ) (t : Bool) → (x == key) ≡ t → k ≢ key → has_key (filter (λ it. not (it == key)) xs) k ≡ has_key xs k
    → has_key (if not t then x ∷ filter (λ it. not (it == key)) xs else filter (λ it. not (it == key)) xs) k ≡ (x == k) || has_key xs k
kept_by x key k xs true same ne more = more ∙ ap (λ t. t || has_key xs k) (sym (let e : (x == k) ≡ false = grind (arith, nat_tests) in e))
kept_by x key k xs false other ne more = ap (λ t. (x == k) || t) more

kept : (keys : List ℕ) (key k : ℕ) → k ≢ key → has_key (filter (λ it. not (it == key)) keys) k ≡ has_key keys k
kept [] key k ne = refl
kept (x ∷ xs) key k ne = kept_by x key k xs (x == key) refl ne (kept xs key k ne)

taken_by : (x key : ℕ) (xs : List ℕ) (t : Bool) → (x == key) ≡ t → has_key (filter (λ it. not (it == key)) xs) key ≡ false
    → has_key (if not t then x ∷ filter (λ it. not (it == key)) xs else filter (λ it. not (it == key)) xs) key ≡ false
taken_by x key xs true same more = more
taken_by x key xs false other more = ap (λ t. t || has_key (filter (λ it. not (it == key)) xs) key) other ∙ more

taken : (keys : List ℕ) (key : ℕ) → has_key (filter (λ it. not (it == key)) keys) key ≡ false
taken [] key = refl
taken (x ∷ xs) key = taken_by x key xs (x == key) refl (taken xs key)

-- ---- a set

inserted_fits : (t : Bool) (key reply : ℕ) (keys b : List ℕ) (shared : Shared) → SameKeys keys shared → has key keys ≡ t → inserted t key reply keys ≡ Some b
    → (reply_to shared (Insert key) ≡ Number reply) × SameKeys b (after shared (Insert key))
inserted_fits true key reply keys b shared same there is =
    let (right, same_keys) = right_is (reply == 0) keys b is in
    let has_it : has_key shared.keys key ≡ true = sym (same key) ∙ there in (
      number_is (not (has_key shared.keys key)) 0 reply (ap (λ t. number_of (not t)) has_it) right,
      λ k. ap (λ l. has k l) (sym same_keys) ∙ (same k ∙ ap (λ t. has_key (if t then shared.keys else shared.keys ++ key ∷ []) k) (sym has_it)),
    )
inserted_fits false key reply keys b shared same there is =
    let (right, same_keys) = right_is (reply == 1) (with_key key keys) b is in
    let has_none : has_key shared.keys key ≡ false = sym (same key) ∙ there in (
      number_is (not (has_key shared.keys key)) 1 reply (ap (λ t. number_of (not t)) has_none) right,
      λ k. ap (λ l. has k l) (sym same_keys) ∙ (has_with k key keys ∙ (ap (λ t. (key == k) || t) (same k)
          ∙ (sym (added shared.keys key k) ∙ ap (λ t. has_key (if t then shared.keys else shared.keys ++ key ∷ []) k) (sym has_none)))),
    )

without_is : (key k : ℕ) (keys : List ℕ) (shared : Shared) → SameKeys keys shared → has k (without_key key keys) ≡ has_key (filter (λ it. not (it == key)) shared.keys) k
without_is key k keys shared same = ⊎_elim
    (λ (e : k ≡ key). subst (λ i. has i (without_key key keys) ≡ has_key (filter (λ it. not (it == key)) shared.keys) i) (sym e) (has_taken key keys ∙ sym (taken shared.keys key)))
    (λ (ne : k ≢ key). has_without k key keys ne ∙ (same k ∙ sym (kept shared.keys key k ne)))
    (cases_eq k key)

-- taking out what isn't there changes nothing
gone_is : (key k : ℕ) (keys : List ℕ) (shared : Shared) → SameKeys keys shared → has key keys ≡ false → has k keys ≡ has_key (filter (λ it. not (it == key)) shared.keys) k
gone_is key k keys shared same none = ⊎_elim
    (λ (e : k ≡ key). subst (λ i. has i keys ≡ has_key (filter (λ it. not (it == key)) shared.keys) i) (sym e) (none ∙ sym (taken shared.keys key)))
    (λ (ne : k ≢ key). same k ∙ sym (kept shared.keys key k ne))
    (cases_eq k key)

removed_fits : (t : Bool) (key reply : ℕ) (keys b : List ℕ) (shared : Shared) → SameKeys keys shared → has key keys ≡ t → removed t key reply keys ≡ Some b
    → (reply_to shared (Remove key) ≡ Number reply) × SameKeys b (after shared (Remove key))
removed_fits true key reply keys b shared same there is =
    let (right, same_keys) = right_is (reply == 1) (without_key key keys) b is in (
      number_is (has_key shared.keys key) 1 reply (ap (λ t. number_of t) (sym (same key) ∙ there)) right,
      λ k. ap (λ l. has k l) (sym same_keys) ∙ without_is key k keys shared same,
    )
removed_fits false key reply keys b shared same there is =
    let (right, same_keys) = right_is (reply == 0) keys b is in (
      number_is (has_key shared.keys key) 0 reply (ap (λ t. number_of t) (sym (same key) ∙ there)) right,
      λ k. ap (λ l. has k l) (sym same_keys) ∙ gone_is key k keys shared same there,
    )

searched_fits : (t : Bool) (key reply : ℕ) (keys b : List ℕ) (shared : Shared) → SameKeys keys shared → has key keys ≡ t → searched t reply keys ≡ Some b
    → (reply_to shared (Contains key) ≡ Number reply) × SameKeys b (after shared (Contains key))
searched_fits true key reply keys b shared same there is =
    let (right, same_keys) = right_is (reply == 1) keys b is in
    (number_is (has_key shared.keys key) 1 reply (ap (λ t. number_of t) (sym (same key) ∙ there)) right, λ k. ap (λ l. has k l) (sym same_keys) ∙ same k)
searched_fits false key reply keys b shared same there is =
    let (right, same_keys) = right_is (reply == 0) keys b is in
    (number_is (has_key shared.keys key) 0 reply (ap (λ t. number_of t) (sym (same key) ∙ there)) right, λ k. ap (λ l. has k l) (sym same_keys) ∙ same k)

reply_fits : (op key reply : ℕ) (keys b : List ℕ) (shared : Shared) → SameKeys keys shared → after_reply op key reply keys ≡ Some b
    → (reply_to shared (set_action op key) ≡ Number reply) × SameKeys b (after shared (set_action op key))
reply_fits zero key reply keys b shared same is = inserted_fits (has key keys) key reply keys b shared same refl is
reply_fits (suc zero) key reply keys b shared same is = removed_fits (has key keys) key reply keys b shared same refl is
reply_fits (suc (suc zero)) key reply keys b shared same is = searched_fits (has key keys) key reply keys b shared same refl is
reply_fits (suc (suc (suc n))) key reply keys b shared same is = none_is b is

pub set_fits : StepFits (List ℕ) set_step set_action SameKeys
set_fits d keys b shared same is = by_reply d.op d.arg d.reply is
  where
    by_reply : (op key : ℕ) (reply : Option ℕ) → set_step (record { caller = 0; op = op; arg = key; reply = reply; moment = 0 }) keys ≡ Some b
        → (reply_to shared (set_action op key) ≡ answer_of reply) × SameKeys b (after shared (set_action op key))
    by_reply op key None is = none_is b is
    by_reply op key (Some reply) is = reply_fits op key reply keys b shared same is

-- ---- a queue

enqueue_fits : (t : Bool) (value reply : ℕ) (values b : List ℕ) (shared : Shared) → SameValues values shared → (reply == value) ≡ t → enqueued t value values ≡ Some b
    → (reply_to shared (Enqueue value) ≡ Number reply) × SameValues b (after shared (Enqueue value))
enqueue_fits true value reply values b shared same right is = (
  ap (λ x. Number x) (let e : value ≡ reply = grind (arith, nat_tests) in e),
  ap (λ l. l ++ value ∷ []) same ∙ (let z : Some (values ++ value ∷ []) ≡ Some b = is in cc),
)
enqueue_fits false value reply values b shared same right is = none_is b is

front_fits : (t : Bool) (value reply : ℕ) (values b : List ℕ) (shared : Shared) → SameValues (value ∷ values) shared → (value == reply) ≡ t → (if t then Some values else None) ≡ Some b
    → (reply_to shared Dequeue ≡ Number reply) × SameValues b (after shared Dequeue)
front_fits true value reply values b shared same right is = (
  ap first_value same ∙ ap (λ x. Number x) (let e : value ≡ reply = grind (arith, nat_tests) in e),
  ap (λ l. drop 1 l) same ∙ (let z : Some values ≡ Some b = is in cc),
)
front_fits false value reply values b shared same right is = none_is b is

dequeue_fits : (reply : Option ℕ) (values b : List ℕ) (shared : Shared) → SameValues values shared → dequeued reply values ≡ Some b
    → (reply_to shared Dequeue ≡ answer_of reply) × SameValues b (after shared Dequeue)
dequeue_fits None [] b shared same is = (ap first_value same, ap (λ l. drop 1 l) same ∙ (let z : Some [] ≡ Some b = is in cc))
dequeue_fits None (value ∷ values) b shared same is = none_is b is
dequeue_fits (Some reply) [] b shared same is = none_is b is
dequeue_fits (Some reply) (value ∷ values) b shared same is = front_fits (value == reply) value reply values b shared same refl is

pub queue_fits : StepFits (List ℕ) queue_step queue_action SameValues
queue_fits d values b shared same is = by_op d.op d.arg d.reply is
  where
    by_op : (op value : ℕ) (reply : Option ℕ) → queue_step (record { caller = 0; op = op; arg = value; reply = reply; moment = 0 }) values ≡ Some b
        → (reply_to shared (queue_action op value) ≡ answer_of reply) × SameValues b (after shared (queue_action op value))
    by_op zero value None is = none_is b is
    by_op zero value (Some reply) is = enqueue_fits (reply == value) value reply values b shared same refl is
    by_op (suc zero) value reply is = dequeue_fits reply values b shared same is
    by_op (suc (suc n)) value reply is = none_is b is
