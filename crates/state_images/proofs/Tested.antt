-- What the tests of images tell.
use Rattle.std.proofs.Common.{ℕ, zero, suc, ◌+◌, ◌<◌, ◌≤◌, ◌≡◌, ◌≢◌, ◌∙◌, ◌==◌, ◌&&◌, ◌||◌, ◌⊎◌, inl, inr, not, Bool, true, false, cond, is_some, List, [], ◌∷◌, map, Option, Some, None, option_map, sym, ap, refl, subst, ⊎_elim, arith}
use Rattle.std.specs.Prelude.{slice_get, unwrap_or}
use Rattle.std.specs.Str.{bytes_eq}
use Rattle.std.proofs.lemmas.Bool.{cases_eq, and_parts, or_cases, or_left, or_right}
use Rattle.std.proofs.lemmas.Bool.Decides.{nat_tests, eqb_tells}
use Rattle.norm_lang.specs.declared.registers.Reference.{Reference}
use Rattle.norm_lang.specs.declared.registers.Registers.{Registers}
use Rattle.norm_lang.specs.Registers.{no_reference, node_in, same_bool}
use Rattle.source_machine.specs.declared.state.Value.{Value}
use Rattle.source_machine.specs.declared.state.Value.TheVariants.{Number, Node}
use Rattle.source_machine.specs.declared.state.Memory.{Memory}
use Rattle.source_machine.specs.Memory.{value_at, fields_named}
use Rattle.source_machine.specs.Proper.{has, IsOnce, field_of}
use Rattle.source_machine.proofs.Names.{untrue}
use Rattle.source_machine.proofs.Places.{same_test, other_test}
use Rattle.state_images.specs.Images.{Naming, Kept, renamed, renamed_value, renamed_registers, IsKeptValue, AreKept, IsMemoryImage}
use Rattle.state_images.specs.Tests.{place_from, number_of, matters, is_reference, is_value, are_values, are_references, are_registers, are_fields, are_nodes, are_in, are_used, is_memory}

-- ---- numbers

pub place_least : (k : ℕ) (bs : List ℕ) (a : ℕ) → has a bs ≡ true → k ≤ place_from k bs a
place_least k [] a e = absurd (untrue false refl e)
place_least k (b ∷ bs) a e = ⊎_elim
    (λ (t : ((b == a) ≡ true) × (b ≡ a)). rw t.0 (omega arith))
    (λ (t : ((b == a) ≡ false) × (b ≢ a)). let l = place_least (k + 1) bs a (sym (ap (λ x. x || has a bs) t.0) ∙ e) in rw t.0 (omega (arith, l)))
    (eqb_tells b a)

pub place_apart : (k : ℕ) (bs : List ℕ) (a c : ℕ) → has a bs ≡ true → has c bs ≡ true → place_from k bs a ≡ place_from k bs c → a ≡ c
place_apart k [] a c ha hc e = absurd (untrue false refl ha)
place_apart k (b ∷ bs) a c ha hc e = of (λ p q h. place_apart (k + 1) bs a c p q h) (eqb_tells b a) (eqb_tells b c) where
  of : (has a bs ≡ true → has c bs ≡ true → place_from (k + 1) bs a ≡ place_from (k + 1) bs c → a ≡ c) → (((b == a) ≡ true) × (b ≡ a)) ⊎ (((b == a) ≡ false) × (b ≢ a)) → (((b == c) ≡ true) × (b ≡ c)) ⊎ (((b == c) ≡ false) × (b ≢ c)) → a ≡ c
  of more (inl p) (inl q) = sym p.1 ∙ q.1
  of more (inl p) (inr q) =
      let l = place_least (k + 1) bs c (sym (ap (λ z. z || has c bs) q.0) ∙ hc) in
      let one : place_from k (b ∷ bs) a ≡ k = ap (λ z. cond z k (place_from (k + 1) bs a)) p.0 in
      let two : place_from k (b ∷ bs) c ≡ place_from (k + 1) bs c = ap (λ z. cond z k (place_from (k + 1) bs c)) q.0 in
      let s : k ≡ place_from (k + 1) bs c = sym one ∙ (e ∙ two) in
      let no : ⊥ = omega (arith, l, s) in absurd no
  of more (inr p) (inl q) =
      let l = place_least (k + 1) bs a (sym (ap (λ z. z || has a bs) p.0) ∙ ha) in
      let one : place_from k (b ∷ bs) a ≡ place_from (k + 1) bs a = ap (λ z. cond z k (place_from (k + 1) bs a)) p.0 in
      let two : place_from k (b ∷ bs) c ≡ k = ap (λ z. cond z k (place_from (k + 1) bs c)) q.0 in
      let s : place_from (k + 1) bs a ≡ k = sym one ∙ (e ∙ two) in
      let no : ⊥ = omega (arith, l, s) in absurd no
  of more (inr p) (inr q) =
      more (sym (ap (λ z. z || has a bs) p.0) ∙ ha) (sym (ap (λ z. z || has c bs) q.0) ∙ hc)
      (sym (ap (λ z. cond z k (place_from (k + 1) bs a)) p.0) ∙ (e ∙ ap (λ z. cond z k (place_from (k + 1) bs c)) q.0))

pub number_some : (order : List ℕ) (a : ℕ) → a ≢ 0 → number_of order a ≡ place_from 1 order a
number_some order a ne = ap (λ b. cond b 0 (place_from 1 order a)) (other_test a 0 ne)

pub in_order : (order : List ℕ) (a : ℕ) → a ≢ 0 → matters order a ≡ true → has a order ≡ true
in_order order a ne e = sym (ap (λ b. b || has a order) (other_test a 0 ne)) ∙ e

abbrev pub naming_of : List ℕ → Naming
naming_of order = record {
  to = number_of order;
  keeps = matters order;
  null = refl;
  null_kept = refl;
  apart = λ a b ka kb e. ⊎_elim
      (λ (za : a ≡ 0). ⊎_elim
      (λ (zb : b ≡ 0). za ∙ sym zb)
      (λ (nb : b ≢ 0).
      let l = place_least 1 order b (in_order order b nb kb) in
      let s : 0 ≡ place_from 1 order b = sym (ap (number_of order) za) ∙ (e ∙ number_some order b nb) in
      let no : ⊥ = omega (arith, l, s) in absurd no)
      (cases_eq b 0))
      (λ (na : a ≢ 0). ⊎_elim
      (λ (zb : b ≡ 0).
      let l = place_least 1 order a (in_order order a na ka) in
      let s : place_from 1 order a ≡ 0 = sym (number_some order a na) ∙ (e ∙ ap (number_of order) zb) in
      let no : ⊥ = omega (arith, l, s) in absurd no)
      (λ (nb : b ≢ 0). place_apart 1 order a b (in_order order a na ka) (in_order order b nb kb) (sym (number_some order a na) ∙ (e ∙ number_some order b nb)))
      (cases_eq b 0))
      (cases_eq a 0);
}

-- ---- values

module _ (order : List ℕ) where
  n : Naming
  n = naming_of order

  pub same_bool_is : (a b : Bool) → same_bool a b ≡ true → b ≡ a
  same_bool_is true true e = refl
  same_bool_is true false e = absurd (untrue false refl e)
  same_bool_is false true e = absurd (untrue false refl e)
  same_bool_is false false e = refl

  pub reference_tested : (r r' : Reference) → is_reference order r r' ≡ true → (r' ≡ renamed (naming_of order) r) × Kept (naming_of order) r.node
  reference_tested r r' e =
      let p = and_parts (matters order r.node) ((r'.node == number_of order r.node) && same_bool r.marked r'.marked) e in
      let q = and_parts (r'.node == number_of order r.node) (same_bool r.marked r'.marked) p.1 in
      let same : r'.node ≡ number_of order r.node = (let t = q.0 in grind (arith, nat_tests, t)) in (
        ap (λ k. let x : Reference = record { node = k; marked = r'.marked } in x) same
            ∙ ap (λ b. let x : Reference = record { node = number_of order r.node; marked = b } in x) (same_bool_is r.marked r'.marked q.1),
        p.0,
      )

  pub value_tested : (v v' : Value) → is_value order v v' ≡ true → (v' ≡ renamed_value (naming_of order) v) × IsKeptValue (naming_of order) v
  value_tested (Number v) (Number v') e = let same : v' ≡ v = grind (arith, nat_tests, e) in (ap Number same, tt)
  value_tested (Node r) (Node r') e = let k = reference_tested r r' e in (ap Node k.0, k.1)
  value_tested (Number v) (Node r') e = absurd (untrue false refl e)
  value_tested (Node r) (Number v') e = absurd (untrue false refl e)

  pub values_tested : (vs vs' : List Value) → are_values order vs vs' ≡ true → (vs' ≡ map (renamed_value (naming_of order)) vs) × ((f : ℕ) → IsKeptValue (naming_of order) (value_at vs f))
  values_tested [] [] e = (refl, λ f. tt)
  values_tested [] (v' ∷ vs') e = absurd (untrue false refl e)
  values_tested (v ∷ vs) [] e = absurd (untrue false refl e)
  values_tested (v ∷ vs) (v' ∷ vs') e =
      let p = and_parts (is_value order v v') (are_values order vs vs') e in
      let k = value_tested v v' p.0 in
      let ks = values_tested vs vs' p.1 in
      (ap (λ x. x ∷ vs') k.0 ∙ ap (λ l. renamed_value (naming_of order) v ∷ l) ks.0, at k.1 ks.1) where
        at : IsKeptValue (naming_of order) v → ((f : ℕ) → IsKeptValue (naming_of order) (value_at vs f)) → (f : ℕ) → IsKeptValue (naming_of order) (value_at (v ∷ vs) f)
        at here rest zero = here
        at here rest (suc f) = rest f

  references_tested : (rs rs' : List Reference) → are_references order rs rs' ≡ true → (rs' ≡ map (renamed (naming_of order)) rs) × ((r : ℕ) → Kept (naming_of order) (unwrap_or (slice_get rs r) no_reference).node)
  references_tested [] [] e = (refl, λ r. refl)
  references_tested [] (r' ∷ rs') e = absurd (untrue false refl e)
  references_tested (r ∷ rs) [] e = absurd (untrue false refl e)
  references_tested (r ∷ rs) (r' ∷ rs') e =
      let p = and_parts (is_reference order r r') (are_references order rs rs') e in
      let k = reference_tested r r' p.0 in
      let ks = references_tested rs rs' p.1 in
      (ap (λ x. x ∷ rs') k.0 ∙ ap (λ l. renamed (naming_of order) r ∷ l) ks.0, at k.1 ks.1) where
        at : Kept (naming_of order) r.node → ((i : ℕ) → Kept (naming_of order) (unwrap_or (slice_get rs i) no_reference).node) → (i : ℕ) → Kept (naming_of order) (unwrap_or (slice_get (r ∷ rs) i) no_reference).node
        at here rest zero = here
        at here rest (suc i) = rest i

  pub numbers_tested : (xs ys : List ℕ) → bytes_eq xs ys ≡ true → ys ≡ xs
  numbers_tested [] [] e = refl
  numbers_tested [] (y ∷ ys) e = absurd (untrue false refl e)
  numbers_tested (x ∷ xs) [] e = absurd (untrue false refl e)
  numbers_tested (x ∷ xs) (y ∷ ys) e =
      let p = and_parts (x == y) (bytes_eq xs ys) e in
      let same : y ≡ x = (let t = p.0 in grind (arith, nat_tests, t)) in
      ap (λ z. z ∷ ys) same ∙ ap (λ l. x ∷ l) (numbers_tested xs ys p.1)

  pub registers_tested : (g g' : Registers) → are_registers order g g' ≡ true → (g' ≡ renamed_registers (naming_of order) g) × AreKept (naming_of order) g
  registers_tested g g' e =
      let p = and_parts (bytes_eq g.numbers g'.numbers) (are_references order g.references g'.references) e in
      let k = references_tested g.references g'.references p.1 in (
        ap (λ l. let x : Registers = record { numbers = l; references = g'.references } in x) (numbers_tested g.numbers g'.numbers p.0)
            ∙ ap (λ l. let x : Registers = record { numbers = g.numbers; references = l } in x) k.0,
        k.1,
      )

  -- ---- memory

  of_all : (xs : List ℕ) (m m' : Memory) → are_nodes order xs m m' ≡ true → (a : ℕ) → has a xs ≡ true → are_fields order a (fields_named a m.nodes) (fields_named (number_of order a) m'.nodes) ≡ true
  of_all [] m m' e a h = absurd (untrue false refl h)
  of_all (b ∷ bs) m m' e a h =
      let p = and_parts (are_fields order b (fields_named b m.nodes) (fields_named (number_of order b) m'.nodes)) (are_nodes order bs m m') e in
      ⊎_elim
      (λ (t : ((b == a) ≡ true) × (b ≡ a)). subst (λ c. are_fields order c (fields_named c m.nodes) (fields_named (number_of order c) m'.nodes) ≡ true) t.1 p.0)
      (λ (t : ((b == a) ≡ false) × (b ≢ a)). of_all bs m m' p.1 a (sym (ap (λ x. x || has a bs) t.0) ∙ h))
      (eqb_tells b a)

  pub in_both : (xs names names' : List ℕ) → are_in order xs names names' ≡ true → (a : ℕ) → has a xs ≡ true → has a names ≡ true → has (number_of order a) names' ≡ true
  in_both [] names names' e a h there = absurd (untrue false refl h)
  in_both (b ∷ bs) names names' e a h there =
      let p = and_parts (not (has b names) || has (number_of order b) names') (are_in order bs names names') e in
      ⊎_elim
      (λ (t : ((b == a) ≡ true) × (b ≡ a)).
      let q : (not (has a names) || has (number_of order a) names') ≡ true = subst (λ c. (not (has c names) || has (number_of order c) names') ≡ true) t.1 p.0 in
      sym (ap (λ x. not x || has (number_of order a) names') there) ∙ q)
      (λ (t : ((b == a) ≡ false) × (b ≢ a)). in_both bs names names' p.1 a (sym (ap (λ x. x || has a bs) t.0) ∙ h) there)
      (eqb_tells b a)

  pub used_all : (xs : List ℕ) (m : Memory) → are_used xs m ≡ true → (a : ℕ) → has a xs ≡ true → is_some (fields_named a m.nodes) ≡ true
  used_all [] m e a h = absurd (untrue false refl h)
  used_all (b ∷ bs) m e a h =
      let p = and_parts (is_some (fields_named b m.nodes)) (are_used bs m) e in
      ⊎_elim
      (λ (t : ((b == a) ≡ true) × (b ≡ a)). subst (λ c. is_some (fields_named c m.nodes) ≡ true) t.1 p.0)
      (λ (t : ((b == a) ≡ false) × (b ≢ a)). used_all bs m p.1 a (sym (ap (λ x. x || has a bs) t.0) ∙ h))
      (eqb_tells b a)

  -- null, or one of the list
  pub with_null : (a : ℕ) → Kept (naming_of order) a → has a (0 ∷ order) ≡ true
  with_null a e = ⊎_elim
      (λ (t : (a == 0) ≡ true). let z : a ≡ 0 = grind (arith, nat_tests, t) in subst (λ c. has c (0 ∷ order) ≡ true) (sym z) refl)
      (λ (h : has a order ≡ true). or_right (0 == a) (has a order) h)
      (or_cases (a == 0) (has a order) e)

  FieldsAre : ℕ → Option (List Value) → Option (List Value) → Type 0
  FieldsAre a o o' = (o' ≡ option_map (map (renamed_value (naming_of order))) o) × ((f : ℕ) → IsKeptValue (naming_of order) (value_at (unwrap_or o []) f)) × (a ≢ 0 → is_some o ≡ true)

  fields_tested : (a : ℕ) (o o' : Option (List Value)) → are_fields order a o o' ≡ true → FieldsAre a o o'
  unfolding FieldsAre
  fields_tested a None None e = (refl, (λ f. tt), λ ne. absurd (untrue (a == 0) (other_test a 0 ne) e))
  fields_tested a (Some vs) (Some vs') e = let k = values_tested vs vs' e in (ap Some k.0, k.1, λ ne. refl)
  fields_tested a None (Some vs') e = absurd (untrue false refl e)
  fields_tested a (Some vs) None e = absurd (untrue false refl e)

  pub memory_tested : (m m' : Memory) → IsOnce m.retired → is_memory order m m' ≡ true → IsMemoryImage (naming_of order) m m'
  unfolding FieldsAre
  memory_tested m m' once e =
      let p = and_parts (are_values order m.roots m'.roots) (are_nodes order (0 ∷ order) m m' && (are_in order (0 ∷ order) m.retired m'.retired && are_used m.retired m)) e in
      let q = and_parts (are_nodes order (0 ∷ order) m m') (are_in order (0 ∷ order) m.retired m'.retired && are_used m.retired m) p.1 in
      let r = and_parts (are_in order (0 ∷ order) m.retired m'.retired) (are_used m.retired m) q.1 in
      let v = values_tested m.roots m'.roots p.0 in
      record {
        roots = v.0;
        roots_kept = v.1;
        fields = λ a k. (fields_tested a (fields_named a m.nodes) (fields_named (number_of order a) m'.nodes) (of_all (0 ∷ order) m m' q.0 a (with_null a k))).0;
        fields_kept = λ a f k. (fields_tested a (fields_named a m.nodes) (fields_named (number_of order a) m'.nodes) (of_all (0 ∷ order) m m' q.0 a (with_null a k))).1 f;
        used = λ a k ne. (fields_tested a (fields_named a m.nodes) (fields_named (number_of order a) m'.nodes) (of_all (0 ∷ order) m m' q.0 a (with_null a k))).2 ne;
        once = λ o. once;
        retired = λ a k h. in_both (0 ∷ order) m.retired m'.retired r.0 a (with_null a k) h;
        retired_used = λ a h. used_all m.retired m r.1 a h;
      }
