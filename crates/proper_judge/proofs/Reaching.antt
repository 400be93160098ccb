-- The search of what names reach.
use Rattle.std.proofs.Common.{ℕ, zero, suc, ◌+◌, ◌≤◌, ◌<◌, ◌≡◌, ◌≢◌, ◌==◌, ◌||◌, ◌⊎◌, ◌∙◌, ◌++◌, Bool, true, false, cond, List, [], ◌∷◌, length, length-append, take, get_or, Option, Some, None, sym, ap, refl, subst, inl, inr, ⊎_elim, arith}
use Rattle.std.specs.Prelude.{unwrap_or}
use Rattle.std.proofs.lemmas.Bool.{cases_Bool, or_cases, or_left, or_right}
use Rattle.std.proofs.lemmas.Bool.Decides.{nat_tests, eqb_tells}
use Rattle.std.proofs.lemmas.List.{take_more}
use Rattle.source_machine.specs.declared.state.Value.{Value}
use Rattle.source_machine.specs.declared.state.Value.TheVariants.{Number, Node}
use Rattle.source_machine.specs.declared.state.NamedNode.{NamedNode}
use Rattle.source_machine.specs.declared.state.Memory.{Memory}
use Rattle.source_machine.specs.Memory.{fields_named, value_at}
use Rattle.source_machine.specs.Proper.{has, PointsTo, Reaches, itself, onward}
use Rattle.source_machine.proofs.Names.{has_push, has_last, has_old, has_new, untrue}
use Rattle.source_machine.proofs.Places.{same_test, other_test}
use Rattle.proper_judge.specs.Marks.{marked}
use Rattle.proper_judge.specs.Reach.{ReachedFrom, IsFine, Found, targets, without, fields_at, LeadsFrom, all_marked, more_work}

-- ---- lists of names

pub has_both : (n : ℕ) (ns ms : List ℕ) → has n (ns ++ ms) ≡ has n ns || has n ms
has_both n [] ms = refl
has_both n (k ∷ ks) ms = ap (λ b. (k == n) || b) (has_both n ks ms) ∙ sym (more (k == n) (has n ks) (has n ms)) where
  more : (a b c : Bool) → (a || b) || c ≡ a || (b || c)
  more true b c = refl
  more false b c = refl

pub has_kept : (n m : ℕ) (ns : List ℕ) → n ≢ m → has n (without m ns) ≡ has n ns
has_kept n m [] ne = refl
has_kept n m (k ∷ ks) ne = ⊎_elim
    (λ (t : ((k == m) ≡ true) × (k ≡ m)).
    let other : (k == n) ≡ false = (let l : k ≡ m = t.1 in grind (arith, nat_tests, l, ne)) in
    rw (t.0, other) (has_kept n m ks ne))
    (λ (t : ((k == m) ≡ false) × (k ≢ m)). rw t.0 (ap (λ b. (k == n) || b) (has_kept n m ks ne)))
    (eqb_tells k m)

pub has_gone : (m : ℕ) (ns : List ℕ) → has m (without m ns) ≡ false
has_gone m [] = refl
has_gone m (k ∷ ks) = ⊎_elim
    (λ (t : ((k == m) ≡ true) × (k ≡ m)). rw t.0 (has_gone m ks))
    (λ (t : ((k == m) ≡ false) × (k ≢ m)). rw t.0 (rw t.0 (has_gone m ks)))
    (eqb_tells k m)

pub has_at : (ns : List ℕ) (i d : ℕ) → i < length ns → has (get_or ns i d) ns ≡ true
has_at [] i d lt = absurd (omega (arith, lt))
has_at (n ∷ ns) zero d lt = rw (same_test n) refl
has_at (n ∷ ns) (suc i) d lt = or_right (n == get_or ns i d) (has (get_or ns i d) ns) (has_at ns i d (omega (arith, lt)))

pub one_has : (n m : ℕ) → has n (m ∷ []) ≡ true → n ≡ m
one_has n m e = ⊎_elim
    (λ (t : ((m == n) ≡ true) × (m ≡ n)). sym t.1)
    (λ (t : ((m == n) ≡ false) × (m ≢ n)). absurd (untrue false refl (sym (ap (λ b. b || false) t.0) ∙ e)))
    (eqb_tells m n)

-- ---- fields

-- a value of a list that refers to a name
pub at_target : (values : List Value) (f : ℕ) (mark : Bool) (name : ℕ) → value_at values f ≡ Node (record { node = name; marked = mark }) → has name (targets values) ≡ true
at_target [] f mark name e = absurd (let z : Number 0 ≡ Node (record { node = name; marked = mark }) = e in cc)
at_target (Number n ∷ values) zero mark name e = absurd (let z : Number n ≡ Node (record { node = name; marked = mark }) = e in cc)
at_target (Number n ∷ values) (suc f) mark name e = at_target values f mark name e
at_target (Node reference ∷ values) zero mark name e =
    let same : reference.node ≡ name = (let z : Node reference ≡ Node (record { node = name; marked = mark }) = e in cc) in
    let t : (reference.node == name) ≡ true = grind (arith, nat_tests, same) in
    or_left (reference.node == name) (has name (targets values)) t
at_target (Node reference ∷ values) (suc f) mark name e =
    or_right (reference.node == name) (has name (targets values)) (at_target values f mark name e)

pub target_at : (values : List Value) (name : ℕ) → has name (targets values) ≡ true → (f : ℕ) × (mark : Bool) × (value_at values f ≡ Node (record { node = name; marked = mark }))
target_at [] name e = absurd (untrue false refl e)
target_at (Number n ∷ values) name e = let k = target_at values name e in (suc k.0, k.1, k.2)
target_at (Node reference ∷ values) name e = ⊎_elim
    (λ (t : ((reference.node == name) ≡ true) × (reference.node ≡ name)).
    (zero, reference.marked, ap (λ n. Node (record { node = n; marked = reference.marked })) t.1))
    (λ (t : ((reference.node == name) ≡ false) × (reference.node ≢ name)).
    let k = target_at values name (sym (ap (λ b. b || has name (targets values)) t.0) ∙ e) in (suc k.0, k.1, k.2))
    (eqb_tells reference.node name)

pub points_in : (memory : Memory) (name other : ℕ) → PointsTo memory name other → has other (targets (fields_at memory name)) ≡ true
points_in memory name other p = at_target (fields_at memory name) p.0 p.1 other p.2

pub points_so : (memory : Memory) (name other : ℕ) → has other (targets (fields_at memory name)) ≡ true → PointsTo memory name other
points_so memory name other e = target_at (fields_at memory name) other e

-- a field of the name at a place leads on
pub leads_from : (memory : Memory) (names : List ℕ) (i d name : ℕ) → i < length names → (get_or names i d ≡ name → ⊥)
    → has name (targets (fields_at memory (get_or names i d))) ≡ true → LeadsFrom memory names name
leads_from memory names i d name lt other e =
    (get_or names i d, has_kept (get_or names i d) name names other ∙ has_at names i d lt, points_so memory (get_or names i d) name e)

-- one more name is marked
pub mark_more : (names : List ℕ) (i d : ℕ) (first before after : ℕ → Bool) → i < length names → ((n : ℕ) → before n ≡ all_marked first (take i names) n)
    → ((n : ℕ) → after n ≡ marked before (get_or names i d) n) → (n : ℕ) → after n ≡ all_marked first (take (i + 1) names) n
mark_more names i d first before after lt so_far goes n =
    goes n ∙ (ap (λ b. (get_or names i d == n) || b) (so_far n) ∙ (turned (get_or names i d == n) (has n (take i names)) (first n)
    ∙ ap (λ b. b || first n) (sym (ap (has n) (take_more names i d lt) ∙ has_push n (take i names) (get_or names i d))))) where
      turned : (a b c : Bool) → a || (b || c) ≡ (b || a) || c
      turned true true c = refl
      turned true false c = refl
      turned false true c = refl
      turned false false c = refl

-- ---- paths

pub farther : (memory : Memory) (a b c : ℕ) → Reaches memory a b → PointsTo memory b c → Reaches memory a c
farther memory a b c (itself n) p = onward n c c p (itself c)
farther memory a b c (onward n next m q r) p = onward n next c q (farther memory next m c r p)

-- a name to which a root refers, and one to which another name leads
pub known_target : (memory : Memory) (values : List Value) (name : ℕ) (bad : ℕ → Bool) → has name (targets values) ≡ true → IsFine memory (targets values) bad → IsFine memory (name ∷ []) bad
known_target memory values name bad at fine start z e goes = fine name z at (subst (λ n. Reaches memory n z) (one_has start name e) goes)

pub known_led : (memory : Memory) (names : List ℕ) (name : ℕ) (bad : ℕ → Bool) → LeadsFrom memory names name → IsFine memory (without name names) bad → IsFine memory (name ∷ []) bad
known_led memory names name bad led fine start z e goes = fine led.0 z led.1 (onward led.0 name z led.2 (subst (λ n. Reaches memory n z) (one_has start name e) goes))

-- ---- the search

-- a name was passed: it is known, or it isn't bad
abbrev pub Passed : List ℕ → (ℕ → Bool) → (ℕ → Bool) → ℕ → Type 0
Passed known bad marks name = (marks name ≡ true) × ((has name known ≡ true) ⊎ (bad name ≡ false))

-- or it is to be visited
abbrev pub Settled : List ℕ → (ℕ → Bool) → (ℕ → Bool) → List ℕ → ℕ → Type 0
Settled known bad marks work name = Passed known bad marks name ⊎ (has name work ≡ true)

pub record Search (memory : Memory) (from known : List ℕ) (bad marks : ℕ → Bool) (work : List ℕ) : Type 0 where
  pub sound : (name : ℕ) → has name work ≡ true → ReachedFrom memory from name
  pub closed : (name other : ℕ) → marks name ≡ true → has name known ≡ false → PointsTo memory name other → Settled known bad marks work other
  pub begun : (name : ℕ) → has name from ≡ true → Settled known bad marks work name

pub search_starts : (memory : Memory) (from known : List ℕ) (bad none marks : ℕ → Bool) → ((n : ℕ) → none n ≡ false) → ((n : ℕ) → marks n ≡ all_marked none known n)
    → Search memory from known bad marks from
search_starts memory from known bad none marks empty all = record {
  sound = λ name e. (name, e, itself name);
  closed = λ name other m out p. absurd (untrue (marks name) (all name ∙ (ap (λ b. b || none name) out ∙ empty name)) m);
  begun = λ name e. inr e;
}

pub search_found : (memory : Memory) (from known : List ℕ) (bad marks : ℕ → Bool) (work : List ℕ) (name : ℕ) → Search memory from known bad marks (work ++ name ∷ []) → bad name ≡ true
    → Found memory from known bad (Some name)
search_found memory from known bad marks work name s e = (s.sound name (has_new name work), e)

pub search_ends : (memory : Memory) (from known : List ℕ) (bad marks : ℕ → Bool) → Search memory from known bad marks [] → Found memory from known bad None
search_ends memory from known bad marks s fine start name e reaches = passed start name reaches (done start (s.begun start e)) where
  done : (n : ℕ) → Settled known bad marks [] n → Passed known bad marks n
  done n (inl p) = p
  done n (inr e) = absurd (untrue false refl e)

  passed : (n z : ℕ) → Reaches memory n z → Passed known bad marks n → bad z ≡ false
  passed n z (itself m) p = ⊎_elim (λ (k : has n known ≡ true). fine n n k (itself n)) (λ (good : bad n ≡ false). good) p.1
  passed n z (onward m next other points rest) p = ⊎_elim
      (λ (k : has n known ≡ true). fine n z k (onward n next z points rest))
      (λ (k : has n known ≡ false). passed next z rest (done next (s.closed n next p.0 k points)))
      (cases_Bool (has n known))

module _ (memory : Memory) (from known : List ℕ) (bad marks marks' : ℕ → Bool) (work work' : List ℕ) (name : ℕ)
    (s : Search memory from known bad marks (work ++ name ∷ [])) (good : bad name ≡ false)
    (marks_are : (n : ℕ) → marks' n ≡ marked marks name n) (work_is : work' ≡ more_work memory name (marks name) work) where
  -- what was to be visited still is, except for the name
  kept : (n : ℕ) (b : Bool) → has n work ≡ true → has n (more_work memory name b work) ≡ true
  kept n true e = e
  kept n false e = has_both n work (targets (fields_at memory name)) ∙ or_left (has n work) (has n (targets (fields_at memory name))) e

  in_work : (n : ℕ) → has n (more_work memory name (marks name) work) ≡ true → has n work' ≡ true
  in_work n e = ap (has n) work_is ∙ e

  marked_on : (n : ℕ) → marks n ≡ true → marks' n ≡ true
  marked_on n e = marks_are n ∙ or_right (name == n) (marks n) e

  marked_now : marks' name ≡ true
  marked_now = marks_are name ∙ or_left (name == name) (marks name) (same_test name)

  still : (n : ℕ) → Settled known bad marks (work ++ name ∷ []) n → Settled known bad marks' work' n
  still n (inl p) = inl (marked_on n p.0, p.1)
  still n (inr e) = ⊎_elim
      (λ (old : has n work ≡ true). inr (in_work n (kept n (marks name) old)))
      (λ (t : n ≡ name). inl (subst (λ m. marks' m ≡ true) (sym t) marked_now, inr (subst (λ m. bad m ≡ false) (sym t) good)))
      (has_last n name work e)

  new_target : (other : ℕ) (b : Bool) → b ≡ false → PointsTo memory name other → has other (more_work memory name b work) ≡ true
  new_target other true e p = absurd (let z : true ≡ false = e in cc)
  new_target other false e p = has_both other work (targets (fields_at memory name)) ∙ or_right (has other work) (has other (targets (fields_at memory name))) (points_in memory name other p)

  closed_on : (n other : ℕ) → marks' n ≡ true → has n known ≡ false → PointsTo memory n other → Settled known bad marks' work' other
  closed_on n other m out p = ⊎_elim
      (λ (old : marks n ≡ true). still other (s.closed n other old out p))
      (λ (new : marks n ≡ false). let t : name ≡ n = is_name n m new in
      inr (in_work other (new_target other (marks name) (ap marks t ∙ new) (subst (λ k. PointsTo memory k other) (sym t) p))))
      (cases_Bool (marks n)) where
        is_name : (k : ℕ) → marks' k ≡ true → marks k ≡ false → name ≡ k
        is_name k m new = ⊎_elim
            (λ (t : ((name == k) ≡ true) × (name ≡ k)). t.1)
            (λ (t : ((name == k) ≡ false) × (name ≢ k)). absurd (untrue (marks' k) (marks_are k ∙ (ap (λ b. b || marks k) t.0 ∙ new)) m))
            (eqb_tells name k)

  sound_on : (n : ℕ) (b : Bool) → has n (more_work memory name b work) ≡ true → ReachedFrom memory from n
  sound_on n true e = s.sound n (has_old n name work e)
  sound_on n false e = ⊎_elim
      (λ (old : has n work ≡ true). s.sound n (has_old n name work old))
      (λ (new : has n (targets (fields_at memory name)) ≡ true).
      let k = s.sound name (has_new name work) in (k.0, k.1, farther memory k.0 name n k.2 (points_so memory name n new)))
      (or_cases (has n work) (has n (targets (fields_at memory name))) (sym (has_both n work (targets (fields_at memory name))) ∙ e))

  pub search_goes : Search memory from known bad marks' work'
  search_goes = record {
    sound = λ n e. sound_on n (marks name) (sym (ap (has n) work_is) ∙ e);
    closed = closed_on;
    begun = λ n e. still n (s.begun n e);
  }

-- ---- that it ends

-- what may still be added to the work: the references of nodes that aren't marked
abbrev pub weight_of : Memory → Bool → ℕ → ℕ
weight_of memory true name = 0
weight_of memory false name = suc (length (targets (fields_at memory name)))

abbrev pub weight : Memory → (ℕ → Bool) → List NamedNode → ℕ
weight memory marks [] = 0
weight memory marks (node ∷ nodes) = weight_of memory (marks node.name) node.name + weight memory marks nodes

weight_less : (memory : Memory) (marks marks' : ℕ → Bool) (name : ℕ) (nodes : List NamedNode) → ((n : ℕ) → marks' n ≡ marked marks name n) → weight memory marks' nodes ≤ weight memory marks nodes
weight_less memory marks marks' name [] are = omega arith
weight_less memory marks marks' name (node ∷ nodes) are =
    let rest = weight_less memory marks marks' name nodes are in
    let here : weight_of memory (marks' node.name) node.name ≤ weight_of memory (marks node.name) node.name =
    subst (λ b. weight_of memory b node.name ≤ weight_of memory (marks node.name) node.name) (sym (are node.name)) (of (name == node.name) (marks node.name)) in
    omega (arith, rest, here) where
      of : (a b : Bool) → weight_of memory (a || b) node.name ≤ weight_of memory b node.name
      of true true = omega arith
      of true false = omega arith
      of false b = omega arith

weight_gone : (memory : Memory) (marks marks' : ℕ → Bool) (name : ℕ) (nodes : List NamedNode) (values : List Value) → ((n : ℕ) → marks' n ≡ marked marks name n) → marks name ≡ false
    → fields_named name nodes ≡ Some values → suc (weight memory marks' nodes + length (targets (fields_at memory name))) ≤ weight memory marks nodes
weight_gone memory marks marks' name [] values are new e = absurd (let z : None ≡ Some values = e in cc)
weight_gone memory marks marks' name (node ∷ nodes) values are new e = ⊎_elim
    (λ (t : ((node.name == name) ≡ true) × (node.name ≡ name)).
    let rest = weight_less memory marks marks' name nodes are in
    let was : weight_of memory (marks node.name) node.name ≡ suc (length (targets (fields_at memory name))) =
    ap (λ n. weight_of memory (marks n) n) t.1 ∙ ap (λ b. weight_of memory b name) new in
    let now : weight_of memory (marks' node.name) node.name ≡ 0 =
    ap (λ n. weight_of memory (marks' n) n) t.1 ∙ ap (λ b. weight_of memory b name) (are name ∙ or_left (name == name) (marks name) (same_test name)) in
    omega (arith, rest, was, now))
    (λ (t : ((node.name == name) ≡ false) × (node.name ≢ name)).
    let rest = weight_gone memory marks marks' name nodes values are new (sym (ap (λ b. cond b (Some node.values) (fields_named name nodes)) t.0) ∙ e) in
    let away : (name == node.name) ≡ false = other_test name node.name (λ h. t.1 (sym h)) in
    let here : weight_of memory (marks' node.name) node.name ≤ weight_of memory (marks node.name) node.name =
    subst (λ b. weight_of memory b node.name ≤ weight_of memory (marks node.name) node.name) (sym (are node.name ∙ ap (λ b. b || marks node.name) away)) (omega arith) in
    omega (arith, rest, here))
    (eqb_tells node.name name)

pub weight_falls : (memory : Memory) (marks marks' : ℕ → Bool) (work work' : List ℕ) (name : ℕ) → ((n : ℕ) → marks' n ≡ marked marks name n)
    → work' ≡ more_work memory name (marks name) work → length work' + weight memory marks' memory.nodes < length (work ++ name ∷ []) + weight memory marks memory.nodes
weight_falls memory marks marks' work work' name are is =
    subst (λ w. length w + weight memory marks' memory.nodes < length (work ++ name ∷ []) + weight memory marks memory.nodes) (sym is) (of (marks name) refl) where
      by : marks name ≡ false → (o : Option (List Value)) → fields_named name memory.nodes ≡ o
          → length (work ++ targets (fields_at memory name)) + weight memory marks' memory.nodes < length (work ++ name ∷ []) + weight memory marks memory.nodes
      by new None e =
          let l : length (work ++ targets (fields_at memory name)) ≡ length work = ap (λ o. length (work ++ targets (unwrap_or o []))) e ∙ length-append work [] ∙ (let z : length work + 0 ≡ length work = omega arith in z) in
          let k = length-append work (name ∷ []) in
          let w = weight_less memory marks marks' name memory.nodes are in omega (arith, l, k, w)
      by new (Some values) e =
          let l = length-append work (targets (fields_at memory name)) in
          let k = length-append work (name ∷ []) in
          let w = weight_gone memory marks marks' name memory.nodes values are new e in omega (arith, l, k, w)

      of : (b : Bool) → marks name ≡ b → length (more_work memory name b work) + weight memory marks' memory.nodes < length (work ++ name ∷ []) + weight memory marks memory.nodes
      of true old =
          let k = length-append work (name ∷ []) in
          let w = weight_less memory marks marks' name memory.nodes are in omega (arith, k, w)
      of false new = by new (fields_named name memory.nodes) refl
