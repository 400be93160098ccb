-- Fields and nodes in the order of their kinds: each field may follow those before it, and the counts of the kinds in their turn promise
-- the nodes.
use Rattle.std.specs.Prelude.{◌≡◌, ℕ, zero, suc, ◌+◌, ◌<◌, ◌≤◌, ◌⊎◌, Bool, true, false, not, List, [], ◌∷◌, ◌++◌, map, length, replicate, Some, nat_lt, nat_le, ◌==◌}
use Rattle.std.specs.List.{list_all, filter}
use Rattle.std.proofs.Common.{refl, ap, ◌∙◌, sym, arith, inl, inr, ⊎_elim, length-append}
use Rattle.std.proofs.Math.Nat.{le-max_left, le-max_right}
use Rattle.std.proofs.lemmas.Bool.{and_from, and_parts, cases_Bool, not-true, not_from_false, eqb-true, ltb-true, leb-true, lt-ltb, le-leb}
use Rattle.std.proofs.lemmas.Bool.Decides.{nat_tests}
use Rattle.std.proofs.lemmas.List.{map-append, length-map}
use Rattle.std.proofs.lemmas.List.Elements.{filter-append}
use Rattle.std.proofs.lemmas.List.Folds.{list_all-append, list_all-map}
use Rattle.norm_lang.specs.declared.text.FieldDecl.{FieldDecl}
use Rattle.norm_lang.specs.declared.text.NodeDecl.{NodeDecl}
use Rattle.norm_lang.specs.KindFields.{fields_of}
use Rattle.norm_lang.specs.Declarations.{groups_begun, may_follow}
use Rattle.norm_lang.specs.Spelling.{kind_name, nodes_of}
use Rattle.norm_lang.specs.Limits.{has_between, is_rising, has_groups, owners_of}
use Rattle.text_laws.proofs.FieldGroups.{all_imply, few_begun}

-- the name of the kind whose turn comes after these
pub name_in_turn : (done rest : List (List ℕ)) (name : List ℕ) → kind_name (done ++ name ∷ rest) (length done) ≡ name
name_in_turn [] rest name = refl
name_in_turn (first ∷ done) rest name = name_in_turn done rest name

-- what passes no item leaves none, and what passes all leaves all
pub none_kept : {A : Type 0} (test : A → Bool) (items : List A) → list_all (λ x. not (test x)) items ≡ true → filter test items ≡ []
none_kept test [] none = refl
none_kept test (x ∷ items) none =
    let parts = and_parts (not (test x)) (list_all (λ x. not (test x)) items) none in
    rw (not-true (test x) parts.0) (none_kept test items parts.1)

pub all_kept : {A : Type 0} (test : A → Bool) (items : List A) → list_all test items ≡ true → filter test items ≡ items
all_kept test [] all = refl
all_kept test (x ∷ items) all =
    let parts = and_parts (test x) (list_all test items) all in
    rw parts.0 (ap (λ l. x ∷ l) (all_kept test items parts.1))

pub kept_few : {A : Type 0} (test : A → Bool) (items : List A) → length (filter test items) ≤ length items
kept_few test [] = omega arith
kept_few test (x ∷ items) = go (kept_few test items) (cases_Bool (test x))
  where
    go : length (filter test items) ≤ length items → (test x ≡ true) ⊎ (test x ≡ false) → length (filter test (x ∷ items)) ≤ length (x ∷ items)
    go few (inl e) = rw e (omega (arith, few))
    go few (inr e) = rw e (omega (arith, few))

rising_rest : (n : ℕ) (numbers : List ℕ) → is_rising (n ∷ numbers) ≡ true → is_rising numbers ≡ true
rising_rest n [] rising = refl
rising_rest n (m ∷ numbers) rising = (and_parts (nat_le n m) (is_rising (m ∷ numbers)) rising).1

rising_behind : (before numbers : List ℕ) → is_rising (before ++ numbers) ≡ true → is_rising numbers ≡ true
rising_behind [] numbers rising = rising
rising_behind (n ∷ before) numbers rising = rising_behind before numbers (rising_rest n (before ++ numbers) rising)

-- the first of rising numbers is the least
first_least : (n : ℕ) (numbers : List ℕ) → is_rising (n ∷ numbers) ≡ true → list_all (λ m. nat_le n m) numbers ≡ true
first_least n [] rising = refl
first_least n (m ∷ numbers) rising =
    let parts = and_parts (nat_le n m) (is_rising (m ∷ numbers)) rising in
    and_from (nat_le n m) _ parts.0 (all_imply (λ k. nat_le m k) (λ k. nat_le n k) numbers (λ k more. grind (arith, nat_tests, parts.0)) (first_least m numbers parts.1))

-- a number among rising ones is the greatest so far
greatest_so_far : (before rest : List ℕ) (n : ℕ) → is_rising (before ++ n ∷ rest) ≡ true → list_all (λ m. nat_le m n) before ≡ true
greatest_so_far [] rest n rising = refl
greatest_so_far (m ∷ before) rest n rising =
    let least : list_all (λ k. nat_le m k) (before ++ n ∷ rest) ≡ true = first_least m (before ++ n ∷ rest) rising in
    let parts = and_parts (list_all (λ k. nat_le m k) before) (list_all (λ k. nat_le m k) (n ∷ rest)) (sym (list_all-append (λ k. nat_le m k) before (n ∷ rest)) ∙ least) in
    and_from (nat_le m n) _ (and_parts (nat_le m n) _ parts.1).0 (greatest_so_far before rest n (rising_rest m (before ++ n ∷ rest) rising))

-- a kind's group, if each of so many kinds has one
group_between : (kinds k : ℕ) (fields : List FieldDecl) → has_groups kinds fields ≡ true → k < kinds → has_between 1 4 (fields_of k fields) ≡ true
group_between zero k fields groups within = absurd (omega (arith, within))
group_between (suc n) k fields groups within =
    let parts = and_parts (has_between 1 4 (fields_of n fields)) (has_groups n fields) groups in
    ⊎_elim (λ same. let e : k ≡ n = eqb-true k n same in ap (λ k. has_between 1 4 (fields_of k fields)) e ∙ parts.0)
    (λ other. group_between n k fields parts.1 (below other)) (cases_Bool (k == n))
  where
    below : (k == n) ≡ false → k < n
    below other = grind (arith, nat_tests, within)

group_some : (kinds k : ℕ) (fields : List FieldDecl) → has_groups kinds fields ≡ true → k < kinds → 1 ≤ length (fields_of k fields)
group_some kinds k fields groups within =
    leb-true 1 (length (fields_of k fields)) (and_parts (nat_le 1 (length (fields_of k fields))) (nat_le (length (fields_of k fields)) 4) (group_between kinds k fields groups within)).0

pub group_few : (kinds k : ℕ) (fields : List FieldDecl) → has_groups kinds fields ≡ true → k < kinds → length (fields_of k fields) ≤ 4
group_few kinds k fields groups within =
    leb-true (length (fields_of k fields)) 4 (and_parts (nat_le 1 (length (fields_of k fields))) (nat_le (length (fields_of k fields)) 4) (group_between kinds k fields groups within)).1

-- a kind that isn't begun has no field
none_begun : (fields : List FieldDecl) (k : ℕ) → groups_begun fields ≤ k → fields_of k fields ≡ []
none_begun fields k few = none_kept (λ (field : FieldDecl). field.owner == k) fields (others fields few)
  where
    others : (fields : List FieldDecl) → groups_begun fields ≤ k → list_all (λ (field : FieldDecl). not (field.owner == k)) fields ≡ true
    others [] few = refl
    others (field ∷ fields) few =
        let first : field.owner + 1 ≤ groups_begun (field ∷ fields) = le-max_left (field.owner + 1) (groups_begun fields) in
        let rest : groups_begun fields ≤ groups_begun (field ∷ fields) = le-max_right (field.owner + 1) (groups_begun fields) in
        let other : (field.owner == k) ≡ false = grind (arith, nat_tests, first, few) in
        and_from _ _ (not_from_false (field.owner == k) other) (others fields (omega (arith, rest, few)))

abbrev field_owners : List FieldDecl → List ℕ
field_owners fields = map (λ field. field.owner) fields

-- a field among others in the order of their kinds
module _ (kinds : ℕ) (done rest whole : List FieldDecl) (field : FieldDecl) (same : done ++ field ∷ rest ≡ whole) (rising : is_rising (map (λ field. field.owner) whole) ≡ true)
    (groups : has_groups kinds whole ≡ true) (owner : nat_lt field.owner kinds ≡ true) where
  rising_here : is_rising (field_owners done ++ field.owner ∷ field_owners rest) ≡ true
  rising_here = ap is_rising (sym (map-append (λ (field : FieldDecl). field.owner) done (field ∷ rest))) ∙ ap (λ l. is_rising (field_owners l)) same ∙ rising

  begun_at_most : groups_begun done ≤ field.owner + 1
  begun_at_most = few_begun (field.owner + 1) done
      (all_imply (λ (other : FieldDecl). nat_le other.owner field.owner) (λ (other : FieldDecl). nat_lt other.owner (field.owner + 1)) done (λ other least. below other.owner least)
      (sym (list_all-map (λ m. nat_le m field.owner) (λ (field : FieldDecl). field.owner) done) ∙ greatest_so_far (field_owners done) (field_owners rest) field.owner rising_here))
    where
      below : (other : ℕ) → nat_le other field.owner ≡ true → nat_lt other (field.owner + 1) ≡ true
      below other least = grind (arith, nat_tests)

  least_here : list_all (λ (other : FieldDecl). nat_le field.owner other.owner) (field ∷ rest) ≡ true
  least_here = and_from (nat_le field.owner field.owner) _ (le-leb field.owner field.owner (omega arith))
      (sym (list_all-map (λ m. nat_le field.owner m) (λ (field : FieldDecl). field.owner) rest) ∙ first_least field.owner (field_owners rest) (rising_behind (field_owners done) (field.owner ∷ field_owners rest) rising_here))

  -- no kind is left out
  none_left_out : field.owner ≤ groups_begun done
  none_left_out = ⊎_elim (λ less. absurd (left_out (ltb-true _ _ less))) (λ other. not_less other) (cases_Bool (nat_lt (groups_begun done) field.owner))
    where
      not_less : nat_lt (groups_begun done) field.owner ≡ false → field.owner ≤ groups_begun done
      not_less other = grind (arith, nat_tests)

      left_out : groups_begun done < field.owner → ⊥
      left_out less =
          let k = groups_begun done in
          let behind : fields_of k (field ∷ rest) ≡ [] = none_kept (λ (field : FieldDecl). field.owner == k) (field ∷ rest)
          (all_imply (λ (other : FieldDecl). nat_le field.owner other.owner) (λ (other : FieldDecl). not (other.owner == k)) (field ∷ rest) (λ other least. later other.owner least) least_here) in
          let none : length (fields_of k whole) ≡ 0 = ap (λ l. length (fields_of k l)) (sym same) ∙ ap length (filter-append (λ (field : FieldDecl). field.owner == k) done (field ∷ rest)) ∙ (rw (none_begun done k (omega arith), behind) refl) in
          let some : 1 ≤ length (fields_of k whole) = group_some kinds k whole groups (let lt : field.owner < kinds = ltb-true _ _ owner in omega (arith, lt, less)) in
          omega (arith, none, some)
        where
          later : (other : ℕ) → nat_le field.owner other ≡ true → not (other == groups_begun done) ≡ true
          later other least = let differs : (other == groups_begun done) ≡ false = grind (arith, nat_tests, less) in not_from_false _ differs

  -- the field goes on with the last kind's group, or begins the next one's
  pub field_follows : may_follow (groups_begun done) (Some field.owner) ≡ true
  field_follows = grind (arith, nat_tests, begun_at_most, none_left_out)

  -- there is room in its group
  pub field_has_room : nat_lt (length (fields_of field.owner done)) 4 ≡ true
  field_has_room =
      let here : (field.owner == field.owner) ≡ true = grind (arith, nat_tests) in
      let all : length (fields_of field.owner whole) ≡ length (fields_of field.owner done) + length (fields_of field.owner (field ∷ rest)) =
      ap (λ l. length (fields_of field.owner l)) (sym same) ∙ ap length (filter-append (λ (other : FieldDecl). other.owner == field.owner) done (field ∷ rest)) ∙ length-append (fields_of field.owner done) (fields_of field.owner (field ∷ rest)) in
      let some : 1 ≤ length (fields_of field.owner (field ∷ rest)) = rw here (omega arith) in
      let few : length (fields_of field.owner whole) ≤ 4 = group_few kinds field.owner whole groups (ltb-true _ _ owner) in
      lt-ltb (length (fields_of field.owner done)) 4 (omega (arith, all, some, few))

some_begun : (fields : List FieldDecl) (k : ℕ) → 1 ≤ length (fields_of k fields) → k + 1 ≤ groups_begun fields
some_begun fields k some = ⊎_elim (λ less. begun less) (λ other. absurd (missing (past other))) (cases_Bool (nat_lt k (groups_begun fields)))
  where
    begun : nat_lt k (groups_begun fields) ≡ true → k + 1 ≤ groups_begun fields
    begun less = grind (arith, nat_tests)

    past : nat_lt k (groups_begun fields) ≡ false → groups_begun fields ≤ k
    past other = grind (arith, nat_tests)

    missing : groups_begun fields ≤ k → ⊥
    missing few = let none : length (fields_of k fields) ≡ 0 = ap length (none_begun fields k few) in omega (arith, none, some)

-- with a field of each kind, each kind is begun
pub every_begun : (kinds : ℕ) (fields : List FieldDecl) → 1 ≤ kinds → has_groups kinds fields ≡ true → list_all (λ (field : FieldDecl). nat_lt field.owner kinds) fields ≡ true
    → groups_begun fields ≡ kinds
every_begun zero fields some groups all = absurd (omega (arith, some))
every_begun (suc n) fields some groups all =
    let least : n + 1 ≤ groups_begun fields = some_begun fields n (group_some (suc n) n fields groups (omega arith)) in
    let most : groups_begun fields ≤ suc n = few_begun (suc n) fields all in
    omega (arith, least, most)

-- rising numbers up to one are those below it, and then itself
up_to_split : (k : ℕ) (numbers : List ℕ) → is_rising numbers ≡ true → filter (λ n. nat_lt n (suc k)) numbers ≡ filter (λ n. nat_lt n k) numbers ++ filter (λ n. n == k) numbers
up_to_split k [] rising = refl
up_to_split k (n ∷ numbers) rising = go (up_to_split k numbers (rising_rest n numbers rising)) (cases_Bool (nat_lt n k)) (cases_Bool (n == k))
  where
    go : filter (λ n. nat_lt n (suc k)) numbers ≡ filter (λ n. nat_lt n k) numbers ++ filter (λ n. n == k) numbers
        → (nat_lt n k ≡ true) ⊎ (nat_lt n k ≡ false) → ((n == k) ≡ true) ⊎ ((n == k) ≡ false)
        → filter (λ n. nat_lt n (suc k)) (n ∷ numbers) ≡ filter (λ n. nat_lt n k) (n ∷ numbers) ++ filter (λ n. n == k) (n ∷ numbers)
    go others (inl less) (inl same) = let f : ⊥ = (let a = ltb-true _ _ less in let b = eqb-true _ _ same in omega (arith, a, b)) in absurd f
    go others (inl less) (inr other) =
        let within : nat_lt n (suc k) ≡ true = grind (arith, nat_tests) in
        rw (within, less, other) (ap (λ l. n ∷ l) others)
    go others (inr past) (inl same) =
        let within : nat_lt n (suc k) ≡ true = grind (arith, nat_tests) in
        let none : filter (λ n. nat_lt n k) numbers ≡ [] = none_kept (λ n. nat_lt n k) numbers
        (all_imply (λ m. nat_le n m) (λ m. not (nat_lt m k)) numbers (λ m least. not_below m least) (first_least n numbers rising)) in
        rw (within, past, same, others, none) refl
      where
        not_below : (m : ℕ) → nat_le n m ≡ true → not (nat_lt m k) ≡ true
        not_below m least = let e : nat_lt m k ≡ false = grind (arith, nat_tests, past) in not_from_false _ e
    go others (inr past) (inr other) =
        let beyond : nat_lt n (suc k) ≡ false = grind (arith, nat_tests) in
        rw (beyond, past, other) others

-- so many times a number
times : (k : ℕ) (numbers : List ℕ) → filter (λ n. n == k) numbers ≡ replicate (length (filter (λ n. n == k) numbers)) k
times k [] = refl
times k (n ∷ numbers) = go (times k numbers) (cases_Bool (n == k))
  where
    go : filter (λ n. n == k) numbers ≡ replicate (length (filter (λ n. n == k) numbers)) k → ((n == k) ≡ true) ⊎ ((n == k) ≡ false)
        → filter (λ n. n == k) (n ∷ numbers) ≡ replicate (length (filter (λ n. n == k) (n ∷ numbers))) k
    go others (inl same) = let is : n ≡ k = eqb-true n k same in rw same (ap (λ l. n ∷ l) others ∙ ap (λ m. m ∷ replicate (length (filter (λ n. n == k) numbers)) k) is)
    go others (inr other) = rw other others

-- so many nodes of a kind, by their kinds
pub nodes_counted : (k : ℕ) (nodes : List NodeDecl) → length (nodes_of k nodes) ≡ length (filter (λ n. n == k) (owners_of nodes))
nodes_counted k [] = refl
nodes_counted k (node ∷ nodes) = go (nodes_counted k nodes) (cases_Bool (node.owner == k))
  where
    go : length (nodes_of k nodes) ≡ length (filter (λ n. n == k) (owners_of nodes)) → ((node.owner == k) ≡ true) ⊎ ((node.owner == k) ≡ false)
        → length (nodes_of k (node ∷ nodes)) ≡ length (filter (λ n. n == k) (owners_of (node ∷ nodes)))
    go others (inl same) = rw same (ap suc others)
    go others (inr other) = rw other others

-- the kinds of the nodes that the counts of the first kinds, so many, promise
abbrev pub promised : ℕ → List NodeDecl → List ℕ
promised zero nodes = []
promised (suc k) nodes = promised k nodes ++ replicate (length (nodes_of k nodes)) k

promised_below : (k : ℕ) (nodes : List NodeDecl) → is_rising (owners_of nodes) ≡ true → promised k nodes ≡ filter (λ n. nat_lt n k) (owners_of nodes)
promised_below zero nodes rising = sym (none_kept (λ n. nat_lt n 0) (owners_of nodes) (none_less (owners_of nodes)))
  where
    none_less : (numbers : List ℕ) → list_all (λ n. not (nat_lt n 0)) numbers ≡ true
    none_less [] = refl
    none_less (n ∷ numbers) = let e : nat_lt n 0 ≡ false = grind (arith, nat_tests) in and_from _ _ (not_from_false _ e) (none_less numbers)
promised_below (suc k) nodes rising =
    rw (promised_below k nodes rising, nodes_counted k nodes) (ap (λ l. filter (λ n. nat_lt n k) (owners_of nodes) ++ l) (sym (times k (owners_of nodes))) ∙ sym (up_to_split k (owners_of nodes) rising))

-- the counts of all kinds promise the nodes
pub promised_all : (kinds : ℕ) (nodes : List NodeDecl) → is_rising (owners_of nodes) ≡ true → list_all (λ (node : NodeDecl). nat_lt node.owner kinds) nodes ≡ true
    → promised kinds nodes ≡ owners_of nodes
promised_all kinds nodes rising all =
    promised_below kinds nodes rising
    ∙ all_kept (λ n. nat_lt n kinds) (owners_of nodes) (list_all-map (λ n. nat_lt n kinds) (λ (node : NodeDecl). node.owner) nodes ∙ all)

-- no more nodes are promised than there are
pub promised_few : (k : ℕ) (nodes : List NodeDecl) → is_rising (owners_of nodes) ≡ true → length (promised k nodes) ≤ length nodes
promised_few k nodes rising =
    let few : length (filter (λ n. nat_lt n k) (owners_of nodes)) ≤ length (owners_of nodes) = kept_few (λ n. nat_lt n k) (owners_of nodes) in
    let same : length (owners_of nodes) ≡ length nodes = length-map nodes (λ (node : NodeDecl). node.owner) in
    rw (promised_below k nodes rising) (omega (arith, few, same))
