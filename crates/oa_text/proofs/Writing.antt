-- One write after another: what each added joins to what all were to add.
use Rattle.std.proofs.Common.{◌≡◌, ℕ, ◌+◌, ◌≤◌, min, arith, List, [], ◌++◌, length, take, drop, get_or, ◌<◌, Option, Some, None, Result, Ok, Err, sym, ap, ◌∙◌, subst, append_assoc}
use Rattle.std.specs.Io.KnownBytes.{Appends}
use Rattle.std.proofs.lemmas.List.{append-nil, take-append-drop, take-append-le, take_min, drop_more, drop_all}
use Rattle.std.proofs.Math.Seq.{take-append-add}
use Rattle.std.specs.List.{flat_map}
use Rattle.oa_text.specs.Written.{Writes}

-- two pieces added in turn
appends_more : (a b c : Option (List ℕ)) (x y : List ℕ) → Appends a b x → Appends b c y → Appends a c (x ++ y)
appends_more None b c x y first next = tt
appends_more (Some p) None c x y first next = absurd first
appends_more (Some p) (Some q) None x y first next = absurd next
appends_more (Some p) (Some q) (Some r) x y first next = next ∙ ap (λ l. l ++ y) first ∙ append_assoc p x y

-- no bytes added
nothing : (a : Option (List ℕ)) → Appends a a []
nothing None = tt
nothing (Some p) = sym (append-nil p)

-- a piece that was added, and then the rest, which may have failed
pub writes_more : {E : Type 0} (a b c : Option (List ℕ)) (x y : List ℕ) (r : Result (Unit {0}) E) → Appends a b x → Writes b c y r → Writes a c (x ++ y) r
writes_more a b c x y (Ok u) first next = appends_more a b c x y first next
writes_more a b c x y (Err e) first next =
    (length x + next.0, subst (Appends a c) (sym (take-append-add x y next.0)) (appends_more a b c x (take next.0 y) first next.1))

-- a fault in the first of two pieces is one in both together
pub writes_stopped : {E : Type 0} (a b : Option (List ℕ)) (x y : List ℕ) (e : E) → Writes a b x (Err e) → Writes a b (x ++ y) (Err e)
writes_stopped a b x y e front =
    let n = min front.0 (length x) in
    let le : n ≤ length x = omega arith in
    let same : take n (x ++ y) ≡ take front.0 x = take-append-le n x y le ∙ take_min front.0 x in
    (n, subst (Appends a b) (sym same) front.1)

-- the first n bytes, and then the rest
pub writes_rest : {E : Type 0} (a b c : Option (List ℕ)) (n : ℕ) (x : List ℕ) (r : Result (Unit {0}) E) → Appends a b (take n x) → Writes b c (drop n x) r → Writes a c x r
writes_rest a b c n x r first next = subst (λ l. Writes a c l r) (take-append-drop n x) (writes_more a b c (take n x) (drop n x) r first next)

-- one item, and then the rest of the list
pub item_more : {X E : Type 0} (f : X → List ℕ) (xs : List X) (i : ℕ) (d : X) (a b c : Option (List ℕ)) (r : Result (Unit {0}) E) → i < length xs
    → Appends a b (f (get_or xs i d)) → Writes b c (flat_map f (drop (i + 1) xs)) r → Writes a c (flat_map f (drop i xs)) r
item_more f xs i d a b c r lt first next = rw (drop_more xs i d lt) (writes_more a b c (f (get_or xs i d)) (flat_map f (drop (i + 1) xs)) r first next)

-- a fault in one item is one in the list from there on
pub item_stopped : {X E : Type 0} (f : X → List ℕ) (xs : List X) (i : ℕ) (d : X) (a b : Option (List ℕ)) (e : E) → i < length xs
    → Writes a b (f (get_or xs i d)) (Err e) → Writes a b (flat_map f (drop i xs)) (Err e)
item_stopped f xs i d a b e lt front = rw (drop_more xs i d lt) (writes_stopped a b (f (get_or xs i d)) (flat_map f (drop (i + 1) xs)) e front)

-- past the last item
pub items_done : {X : Type 0} (f : X → List ℕ) (xs : List X) (i : ℕ) (a : Option (List ℕ)) → length xs ≤ i → Appends a a (flat_map f (drop i xs))
items_done f xs i a le = rw (drop_all i xs le) (nothing a)
