-- The search of what names reach.
use Rattle.std.proofs.Common.{ℕ, suc, ◌+◌, ◌≤◌, ◌<◌, ◌≡◌, ◌≢◌, ◌==◌, ◌||◌, ◌⊎◌, ◌∙◌, ◌++◌, not, Bool, true, false, cond, List, [], ◌∷◌, length, length-append, reverse, Some, None, sym, ap, refl, subst, inl, inr, ⊎_elim, arith}
use Rattle.std.specs.Prelude.{unwrap_or}
use Rattle.std.proofs.lemmas.Bool.{cases_eq, or_cases, or_left, or_right, or_parts, or_from}
use Rattle.std.proofs.lemmas.Bool.Decides.{eqb_tells}
use Rattle.std.proofs.lemmas.List.{reverse-append}
use Rattle.source_machine.specs.declared.state.NamedNode.{NamedNode}
use Rattle.source_machine.specs.declared.state.Memory.{Memory}
use Rattle.source_machine.specs.Memory.{fields_named}
use Rattle.source_machine.specs.Proper.{has, PointsTo, itself}
use Rattle.source_machine.proofs.Along.{along_fields}
use Rattle.source_machine.proofs.Names.{has_last, has_old, has_new, untrue}
use Rattle.proper_judge.specs.Reach.{ReachedFrom, targets, without, fields_at}
use Rattle.proper_judge.proofs.Reaching.{has_both, has_kept, has_gone, points_in, points_so, farther}
use Rattle.state_judge.specs.Reach.{Found, names_of, more_work}

-- ---- lists of names

pub has_without : (n m : ℕ) (ns : List ℕ) → n ≢ m → has n ns ≡ false → has n (without m ns) ≡ false
has_without n m [] ne e = refl
has_without n m (k ∷ ks) ne e = let p = or_parts (k == n) (has n ks) e in of (not (k == m)) p.0 (has_without n m ks ne p.1) where
  of : (b : Bool) → (k == n) ≡ false → has n (without m ks) ≡ false → has n (cond b (k ∷ without m ks) (without m ks)) ≡ false
  of true a r = or_from (k == n) (has n (without m ks)) a r
  of false a r = r

-- ---- names in use

lost_more : (name : ℕ) (nodes : List NamedNode) (node : NamedNode) → fields_named name nodes ≡ None → (node.name == name) ≡ false → fields_named name (nodes ++ node ∷ []) ≡ None
lost_more name [] node e ne = rw ne refl
lost_more name (k ∷ ks) node e ne = of (k.name == name) e (λ h. lost_more name ks node h ne) where
  of : (b : Bool) → cond b (Some k.values) (fields_named name ks) ≡ None → (fields_named name ks ≡ None → fields_named name (ks ++ node ∷ []) ≡ None)
      → cond b (Some k.values) (fields_named name (ks ++ node ∷ [])) ≡ None
  of true h more = absurd (let z : Some k.values ≡ None = h in cc)
  of false h more = more h

unnamed : (name : ℕ) (rows : List NamedNode) → has name (names_of rows) ≡ false → fields_named name (reverse rows) ≡ None
unnamed name [] e = refl
unnamed name (node ∷ rows) e =
    let p = or_parts (node.name == name) (has name (names_of rows)) e in
    ap (fields_named name) (reverse-append (node ∷ []) rows) ∙ lost_more name (reverse rows) node (unnamed name rows p.1) p.0

-- what isn't in use points nowhere
nowhere : (memory : Memory) (name other : ℕ) → fields_named name memory.nodes ≡ None → PointsTo memory name other → ⊥
nowhere memory name other lost p =
    let e : has other (targets (unwrap_or (fields_named name memory.nodes) [])) ≡ true = points_in memory name other p in
    untrue false refl (sym (ap (λ o. has other (targets (unwrap_or o []))) lost) ∙ e)

-- ---- the search

-- a name was visited and isn't bad, or is to be visited
pub Settled : List ℕ → List ℕ → List ℕ → ℕ → Type 0
Settled bad rest work name = ((has name bad ≡ false) × (has name rest ≡ false)) ⊎ (has name work ≡ true)

pub record Search (memory : Memory) (from bad rest work : List ℕ) : Type 0 where
  pub sound : (name : ℕ) → has name work ≡ true → ReachedFrom memory from name
  pub closed : (name other : ℕ) → has name rest ≡ false → PointsTo memory name other → Settled bad rest work other
  pub begun : (name : ℕ) → has name from ≡ true → Settled bad rest work name

pub search_starts : (memory : Memory) (rows : List NamedNode) (from bad : List ℕ) → memory.nodes ≡ reverse rows → Search memory from bad (names_of rows) from
unfolding Settled
search_starts memory rows from bad same = record {
  sound = λ name e. (name, e, itself name);
  closed = λ name other out p. absurd (nowhere memory name other (ap (fields_named name) same ∙ unnamed name rows out) p);
  begun = λ name e. inr e;
}

pub search_found : (memory : Memory) (from bad rest work : List ℕ) (name : ℕ) → Search memory from bad rest (work ++ name ∷ []) → has name bad ≡ true → Found memory from bad (Some name)
search_found memory from bad rest work name s e = (s.sound name (has_new name work), e)

pub search_ends : (memory : Memory) (from bad rest : List ℕ) → Search memory from bad rest [] → Found memory from bad None
unfolding Settled
search_ends memory from bad rest s start name e reaches = (along_fields memory P goes start name reaches (here start (s.begun start e))).0 where
  P : ℕ → Type 0
  P n = (has n bad ≡ false) × (has n rest ≡ false)

  here : (n : ℕ) → ((has n bad ≡ false) × (has n rest ≡ false)) ⊎ (has n [] ≡ true) → P n
  here n (inl p) = p
  here n (inr e) = absurd (untrue false refl e)

  goes : (n next : ℕ) → PointsTo memory n next → P n → P next
  goes n next p k = here next (s.closed n next k.1 p)

more_of : Memory → ℕ → Bool → List ℕ → List ℕ
more_of memory name true work = work ++ targets (fields_at memory name)
more_of memory name false work = work

module _ (memory : Memory) (from bad rest work : List ℕ) (name : ℕ) (s : Search memory from bad rest (work ++ name ∷ [])) (good : has name bad ≡ false) where
  after : List ℕ
  after = more_work memory name rest work

  kept : (n : ℕ) (b : Bool) → has name rest ≡ b → has n work ≡ true → has n (more_work memory name rest work) ≡ true
  kept n true h e = rw h (has_both n work (targets (fields_at memory name)) ∙ or_left (has n work) (has n (targets (fields_at memory name))) e)
  kept n false h e = rw h e

  -- what was settled before
  still : (n : ℕ) → Settled bad rest (work ++ name ∷ []) n → Settled bad (without name rest) (more_work memory name rest work) n
  unfolding Settled
  still n (inl p) = ⊎_elim
      (λ (t : n ≡ name). inl (p.0, subst (λ m. has m (without name rest) ≡ false) (sym t) (has_gone name rest)))
      (λ (ne : n ≢ name). inl (p.0, has_without n name rest ne p.1))
      (cases_eq n name)
  still n (inr e) = ⊎_elim
      (λ (old : has n work ≡ true). inr (kept n (has name rest) refl old))
      (λ (t : n ≡ name). inl (subst (λ m. has m bad ≡ false) (sym t) good, subst (λ m. has m (without name rest) ≡ false) (sym t) (has_gone name rest)))
      (has_last n name work e)

  new_target : (other : ℕ) → has name rest ≡ true → PointsTo memory name other → has other (more_work memory name rest work) ≡ true
  new_target other h p = rw h (has_both other work (targets (fields_at memory name)) ∙ or_right (has other work) (has other (targets (fields_at memory name))) (points_in memory name other p))

  closed_on : (n other : ℕ) → has n (without name rest) ≡ false → PointsTo memory n other → Settled bad (without name rest) (more_work memory name rest work) other
  unfolding Settled
  closed_on n other out p = ⊎_elim
      (λ (t : n ≡ name). of (has name rest) refl (subst (λ m. PointsTo memory m other) t p))
      (λ (ne : n ≢ name). still other (s.closed n other (sym (has_kept n name rest ne) ∙ out) p))
      (cases_eq n name) where
        of : (b : Bool) → has name rest ≡ b → PointsTo memory name other → Settled bad (without name rest) (more_work memory name rest work) other
        of true h q = inr (new_target other h q)
        of false h q = still other (s.closed name other h q)

  sound_on : (n : ℕ) (b : Bool) → has name rest ≡ b → has n (cond b (work ++ targets (fields_at memory name)) work) ≡ true → ReachedFrom memory from n
  sound_on n true h e = ⊎_elim
      (λ (old : has n work ≡ true). s.sound n (has_old n name work old))
      (λ (new : has n (targets (fields_at memory name)) ≡ true).
      let k = s.sound name (has_new name work) in (k.0, k.1, farther memory k.0 name n k.2 (points_so memory name n new)))
      (or_cases (has n work) (has n (targets (fields_at memory name))) (sym (has_both n work (targets (fields_at memory name))) ∙ e))
  sound_on n false h e = s.sound n (has_old n name work e)

  pub search_goes : Search memory from bad (without name rest) (more_work memory name rest work)
  search_goes = record {
    sound = λ n e. sound_on n (has name rest) refl e;
    closed = closed_on;
    begun = λ n e. still n (s.begun n e);
  }

-- ---- that it ends

abbrev pub weight : Memory → List ℕ → ℕ
weight memory [] = 0
weight memory (name ∷ names) = suc (length (targets (fields_at memory name)) + weight memory names)

weight_less : (memory : Memory) (m : ℕ) (ns : List ℕ) → weight memory (without m ns) ≤ weight memory ns
weight_less memory m [] = omega arith
weight_less memory m (k ∷ ks) = of (not (k == m)) (weight_less memory m ks) where
  of : (b : Bool) → weight memory (without m ks) ≤ weight memory ks → weight memory (cond b (k ∷ without m ks) (without m ks)) ≤ suc (length (targets (fields_at memory k)) + weight memory ks)
  of true e = omega (arith, e)
  of false e = omega (arith, e)

weight_gone : (memory : Memory) (m : ℕ) (ns : List ℕ) → has m ns ≡ true → suc (weight memory (without m ns) + length (targets (fields_at memory m))) ≤ weight memory ns
weight_gone memory m [] e = absurd (untrue false refl e)
weight_gone memory m (k ∷ ks) e = ⊎_elim
    (λ (t : ((k == m) ≡ true) × (k ≡ m)).
    let less : weight memory (without m ks) ≤ weight memory ks = weight_less memory m ks in
    let same : length (targets (fields_at memory k)) ≡ length (targets (fields_at memory m)) = ap (λ n. length (targets (fields_at memory n))) t.1 in
    rw t.0 (omega (arith, less, same)))
    (λ (t : ((k == m) ≡ false) × (k ≢ m)).
    let less : suc (weight memory (without m ks) + length (targets (fields_at memory m))) ≤ weight memory ks = weight_gone memory m ks (sym (ap (λ b. b || has m ks) t.0) ∙ e) in
    rw t.0 (omega (arith, less)))
    (eqb_tells k m)

pub weight_falls : (memory : Memory) (rest work : List ℕ) (name : ℕ) → length (more_work memory name rest work) + weight memory (without name rest) < length (work ++ name ∷ []) + weight memory rest
weight_falls memory rest work name = of (has name rest) refl where
  of : (b : Bool) → has name rest ≡ b → length (cond b (work ++ targets (fields_at memory name)) work) + weight memory (without name rest) < length (work ++ name ∷ []) + weight memory rest
  of true h =
      let l = length-append work (targets (fields_at memory name)) in
      let k = length-append work (name ∷ []) in
      let w = weight_gone memory name rest h in omega (arith, l, k, w)
  of false h =
      let k = length-append work (name ∷ []) in
      let w = weight_less memory name rest in omega (arith, k, w)
