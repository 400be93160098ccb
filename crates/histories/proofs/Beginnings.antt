-- Orders that begin with one call, and what is left of them.
use Rattle.std.proofs.Common.{◌≡◌, ℕ, zero, suc, ◌+◌, ◌<◌, ◌≤◌, Bool, true, false, ◌||◌, List, [], ◌∷◌, length, take, drop, refl, sym, ap, subst, ◌∙◌, arith}
use Rattle.std.specs.Prelude.{◌==◌, slice_index_or, if◌then◌else◌}
use Rattle.std.specs.List.{list_any, remove}
use Rattle.std.specs.Bool.{Decides}
use Rattle.std.proofs.lemmas.Bool.{cases_eq, or_parts}
use Rattle.std.proofs.lemmas.Bool.Decides.{nat_tests}
use mathlib.Core.Logic.{◌⊎◌, inl, inr}
use Rattle.histories.specs.declared.call.Call.{Call}
use Rattle.histories.specs.Histories.{Shared, calls_of, IsOrderOf, IsLegal, HasLegalOrder}
use Rattle.histories.specs.Search.{IsFirst, BeginsAt}

pub same_caller : (a : ℕ) → (a == a) ≡ true
same_caller a = grind (arith, nat_tests)

-- two callers are not both this one
not_both : (a b c : ℕ) → (a == b) ≡ false → (a == c) ≡ true → (b == c) ≡ false
not_both a b c other same = grind (arith, nat_tests)

pub true_is_no : {A : Type 0} → true ≡ false → A
true_is_no e = grind arith

pub none_is_no : {A : Type 0} (x : Call) (xs : List Call) → [] ≡ x ∷ xs → A
none_is_no x xs e = let lengths : 0 ≡ suc (length xs) = ap length e in let impossible : ⊥ = omega (arith, lengths) in absurd impossible

-- past a call of another caller
passed : (x call : Call) (others rest : List Call) (a b : Bool) → (a ≡ true → b ≡ false) → others ≡ (if b then call ∷ rest else rest)
    → (if a then x ∷ others else others) ≡ (if b then call ∷ (if a then x ∷ rest else rest) else (if a then x ∷ rest else rest))
passed x call others rest true true differs is = true_is_no (differs refl)
passed x call others rest true false differs is = ap (λ l. x ∷ l) is
passed x call others rest false b differs is = is

-- Each caller's calls are those of the rest, with this one before them if it is the caller's.
pub first_taken : (left : List Call) (at : ℕ) (call : Call) (caller : ℕ) → at < length left → slice_index_or left at call ≡ call → IsFirst left at call
    → calls_of caller left ≡ (if call.caller == caller then call ∷ calls_of caller (remove left at) else calls_of caller (remove left at))
first_taken [] at call caller lt is first = let impossible : ⊥ = omega (arith, lt) in absurd impossible
first_taken (x ∷ xs) zero call caller lt is first = ap (λ (c : Call). if c.caller == caller then c ∷ calls_of caller xs else calls_of caller xs) is
first_taken (x ∷ xs) (suc n) call caller lt is first =
    let parts = or_parts (x.caller == call.caller) (list_any (λ it. it.caller == call.caller) (take n xs)) first in
    let lower : n < length xs = omega (arith, lt) in
    passed x call (calls_of caller xs) (calls_of caller (remove xs n)) (x.caller == caller) (call.caller == caller) (not_both x.caller call.caller caller parts.0) (first_taken xs n call caller lower is parts.1)

-- where a caller's first call stands
abbrev pub Stands : List Call → Call → Type 0
Stands left call = (at : ℕ) × (at < length left) × (slice_index_or left at call ≡ call) × IsFirst left at call

stands_in : (x : Call) (xs : List Call) (call : Call) (others tail : List Call) (b : Bool) → (x.caller == call.caller) ≡ b → (others ≡ call ∷ tail → Stands xs call)
    → (if b then x ∷ others else others) ≡ call ∷ tail → Stands (x ∷ xs) call
stands_in x xs call others tail true same later is = (0, omega arith, ap (λ l. slice_index_or l 0 call) is, refl)
stands_in x xs call others tail false other later is =
    let (at, lt, there, first) = later is in
    (suc at, omega (arith, lt), there, ap (λ b. b || list_any (λ it. it.caller == call.caller) (take at xs)) other ∙ first)

pub stands : (left : List Call) (call : Call) (tail : List Call) → calls_of call.caller left ≡ call ∷ tail → Stands left call
stands [] call tail is = none_is_no call tail is
stands (x ∷ xs) call tail is = stands_in x xs call (calls_of call.caller xs) tail (x.caller == call.caller) refl (stands xs call tail) is

cancel : (b : Bool) (x : Call) (ys zs : List Call) → (if b then x ∷ ys else ys) ≡ (if b then x ∷ zs else zs) → ys ≡ zs
cancel true x ys zs is = ap (drop 1) is
cancel false x ys zs is = is

head_of : (call : Call) (order : List Call) → calls_of call.caller (call ∷ order) ≡ call ∷ calls_of call.caller order
head_of call order = ap (λ b. if b then call ∷ calls_of call.caller order else calls_of call.caller order) (same_caller call.caller)

-- an order that begins with a call has it at some place
begun : (shared : Shared) (left : List Call) (call : Call) (order : List Call) → IsOrderOf left (call ∷ order) → IsLegal shared (call ∷ order) → (at : ℕ) × (at < length left) × BeginsAt shared left at
begun shared left call order is (next, leaves, legal) =
    let (at, lt, there, first) = stands left call (calls_of call.caller order) (sym (is call.caller) ∙ head_of call order) in
    let of : IsOrderOf (remove left at) order = λ caller. cancel (call.caller == caller) call (calls_of caller order) (calls_of caller (remove left at)) (is caller ∙ first_taken left at call caller lt there first) in
    (at, lt, (call, there, first, (next, leaves, (order, of, legal))))

pub some_begins : (shared : Shared) (left : List Call) → 0 < length left → HasLegalOrder shared left → (at : ℕ) × (at < length left) × BeginsAt shared left at
some_begins shared [] more order = let impossible : ⊥ = omega (arith, more) in absurd impossible
some_begins shared (x ∷ xs) more ([], is, legal) = none_is_no x (calls_of x.caller xs) (is x.caller ∙ head_of x xs)
some_begins shared (x ∷ xs) more (call ∷ order, is, legal) = begun shared (x ∷ xs) call order is legal

pub begins_one : (shared : Shared) (left : List Call) (at : ℕ) → at < length left → BeginsAt shared left at → HasLegalOrder shared left
begins_one shared left at lt (call, there, first, (next, leaves, (order, is, legal))) =
    (call ∷ order, λ caller. ap (λ l. if call.caller == caller then call ∷ l else l) (is caller) ∙ sym (first_taken left at call caller lt there first), (next, leaves, legal))

pub none_left : (shared : Shared) (left : List Call) → length left ≡ 0 → HasLegalOrder shared left
none_left shared [] none = ([], λ caller. refl, tt)
none_left shared (x ∷ xs) none = let impossible : ⊥ = omega (arith, none) in absurd impossible

-- one more place at which no legal order begins
pub none_more : (shared : Shared) (left : List Call) (at : ℕ) (found : Bool) → ((place : ℕ) → place < at → BeginsAt shared left place → ⊥) → found ≡ false → Decides found (BeginsAt shared left at)
    → (place : ℕ) → place < at + 1 → BeginsAt shared left place → ⊥
none_more shared left at found none missed decides place lt begins = by_place (cases_eq place at)
  where
    by_place : (place ≡ at) ⊎ (place ≡ at → ⊥) → ⊥
    by_place (inl same) = true_is_no (sym (decides.1 (subst (λ p. BeginsAt shared left p) same begins)) ∙ missed)
    by_place (inr other) = none place (omega (arith, lt, other)) begins

pub none_begins : (shared : Shared) (left : List Call) (at : ℕ) → 0 < length left → length left ≤ at → ((place : ℕ) → place < at → BeginsAt shared left place → ⊥) → HasLegalOrder shared left → ⊥
none_begins shared left at more all none order =
    let (place, lt, begins) = some_begins shared left more order in
    none place (omega (arith, lt, all)) begins

pub some_left : (count : ℕ) (empty : Bool) → empty ≡ (count == 0) → empty ≡ false → 0 < count
some_left zero empty is not_empty = true_is_no (sym is ∙ not_empty)
some_left (suc n) empty is not_empty = omega arith
