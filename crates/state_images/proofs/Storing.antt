-- Exchanges and stores under other names.
use Rattle.std.proofs.Common.{ℕ, zero, suc, ◌+◌, ◌≡◌, ◌≢◌, ◌∙◌, ◌==◌, ◌||◌, ◌&&◌, ◌++◌, Bool, true, false, cond, List, [], ◌∷◌, map, set, Option, Some, None, option_map, is_some, sym, ap, refl, subst, ⊎_elim, arith}
use Rattle.std.specs.Prelude.{unwrap_or}
use Rattle.std.proofs.lemmas.Bool.{cases_eq, or_parts, false_from_ne_true}
use Rattle.std.proofs.lemmas.Bool.Decides.{nat_tests, eqb_tells}
use Rattle.norm_lang.specs.declared.text.Reg.{Reg}
use Rattle.norm_lang.specs.declared.text.Reg.TheVariants.{Num, Ref}
use Rattle.norm_lang.specs.declared.text.Place.{Place}
use Rattle.norm_lang.specs.declared.text.Place.TheVariants as places
use Rattle.norm_lang.specs.declared.text.CasEntry.{CasEntry}
use Rattle.norm_lang.specs.declared.text.FieldDecl.{FieldDecl}
use Rattle.norm_lang.specs.declared.registers.Reference.{Reference}
use Rattle.norm_lang.specs.declared.registers.Registers.{Registers}
use Rattle.norm_lang.specs.Registers.{number_in, reference_in, same_reference}
use Rattle.norm_lang.specs.KindFields.{place_of}
use Rattle.source_machine.specs.declared.state.Value.{Value}
use Rattle.source_machine.specs.declared.state.Value.TheVariants.{Number, Node}
use Rattle.source_machine.specs.declared.state.Memory.{Memory}
use Rattle.source_machine.specs.Memory.{value_in, same_value, value_at, fields_named, with_field, found_at, with_place, with_name_retired, with_retired, exchange_on, exchange}
use Rattle.source_machine.specs.Proper.{has, IsOnce, field_of}
use Rattle.source_machine.proofs.Places.{fields_set, fields_set_other}
use Rattle.source_machine.proofs.Names.{has_push, has_last, has_old, has_new, once_push, untrue}
use Rattle.state_images.specs.Images.{Naming, Kept, renamed, renamed_value, renamed_registers, IsKeptValue, AreKept, IsMemoryImage}
use Rattle.state_images.proofs.Renaming.{set_map, same_name, same_reference_renamed, reference_renamed, number_renamed, reference_kept}
use Rattle.state_images.proofs.Standing.{value_map, field_image}

module _ (n : Naming) where
  pub null_stays : (a : ℕ) → Kept n a → a ≢ 0 → n.to a ≢ 0
  null_stays a kept some e = some (n.apart a 0 kept n.null_kept (e ∙ sym n.null))

  pub value_renamed : (g : Registers) (r : Reg) → value_in (renamed_registers n g) r ≡ renamed_value n (value_in g r)
  value_renamed g (Num r) = refl
  value_renamed g (Ref r) = ap Node (reference_renamed n g (Ref r))

  pub value_kept : (g : Registers) (r : Reg) → AreKept n g → IsKeptValue n (value_in g r)
  value_kept g (Num r) kept = tt
  value_kept g (Ref r) kept = kept r

  pub same_value_renamed : (a b : Value) → IsKeptValue n a → IsKeptValue n b → same_value (renamed_value n a) (renamed_value n b) ≡ same_value a b
  same_value_renamed (Number a) (Number b) ka kb = refl
  same_value_renamed (Number a) (Node b) ka kb = refl
  same_value_renamed (Node a) (Number b) ka kb = refl
  same_value_renamed (Node a) (Node b) ka kb = same_reference_renamed n a b ka kb

  set_value_kept : (values : List Value) (x : ℕ) (v : Value) → IsKeptValue n v → ((y : ℕ) → IsKeptValue n (value_at values y)) → (y : ℕ) → IsKeptValue n (value_at (set values x v) y)
  set_value_kept [] x v here kept y = kept y
  set_value_kept (w ∷ ws) zero v here kept zero = here
  set_value_kept (w ∷ ws) zero v here kept (suc y) = kept (suc y)
  set_value_kept (w ∷ ws) (suc x) v here kept zero = kept zero
  set_value_kept (w ∷ ws) (suc x) v here kept (suc y) = set_value_kept ws x v here (λ k. kept (suc k)) y

  -- ---- a store

  pub root_stored : (m m' : Memory) → IsMemoryImage n m m' → (x : ℕ) (v : Value) → IsKeptValue n v
      → IsMemoryImage n (record m { roots = set m.roots x v }) (record m' { roots = set m'.roots x (renamed_value n v) })
  root_stored m m' image x v kept = record {
    roots = ap (λ l. set l x (renamed_value n v)) image.roots ∙ set_map n (renamed_value n) m.roots x v;
    roots_kept = set_value_kept m.roots x v kept image.roots_kept;
    fields = image.fields;
    fields_kept = image.fields_kept;
    used = image.used;
    once = image.once;
    retired = image.retired;
    retired_used = image.retired_used;
  }

  set_fields : (o : Option (List Value)) (f : ℕ) (v : Value) → option_map (λ values. set values f (renamed_value n v)) (option_map (map (renamed_value n)) o) ≡ option_map (map (renamed_value n)) (option_map (λ values. set values f v) o)
  set_fields None f v = refl
  set_fields (Some values) f v = ap Some (set_map n (renamed_value n) values f v)

  still_some : {A : Type 0} (f : A → A) (o : Option A) → is_some o ≡ true → is_some (option_map f o) ≡ true
  still_some f None is = is
  still_some f (Some x) is = refl

  pub field_stored : (m m' : Memory) → IsMemoryImage n m m' → (a f : ℕ) (v : Value) → Kept n a → IsKeptValue n v
      → IsMemoryImage n (record m { nodes = with_field a f v m.nodes }) (record m' { nodes = with_field (n.to a) f (renamed_value n v) m'.nodes })
  field_stored m m' image a f v kept here = record {
    roots = image.roots;
    roots_kept = image.roots_kept;
    fields = λ b kb. ⊎_elim
        (λ (e : b ≡ a). subst (λ c. fields_named (n.to c) (with_field (n.to a) f (renamed_value n v) m'.nodes) ≡ option_map (map (renamed_value n)) (fields_named c (with_field a f v m.nodes))) (sym e)
        (fields_set (n.to a) f (renamed_value n v) m'.nodes ∙ (ap (option_map (λ values. set values f (renamed_value n v))) (image.fields a kept)
        ∙ (set_fields (fields_named a m.nodes) f v ∙ ap (option_map (map (renamed_value n))) (sym (fields_set a f v m.nodes))))))
        (λ (ne : b ≢ a). fields_set_other (n.to a) (n.to b) f (renamed_value n v) m'.nodes (λ e. ne (n.apart b a kb kept e))
        ∙ (image.fields b kb ∙ ap (option_map (map (renamed_value n))) (sym (fields_set_other a b f v m.nodes ne))))
        (cases_eq b a);
    fields_kept = λ b g kb. ⊎_elim
        (λ (e : b ≡ a). subst (λ c. IsKeptValue n (field_of (record m { nodes = with_field a f v m.nodes }) c g)) (sym e)
        (subst (λ o. IsKeptValue n (value_at (unwrap_or o []) g)) (sym (fields_set a f v m.nodes)) (of (fields_named a m.nodes) (λ h. image.fields_kept a h kept) g)))
        (λ (ne : b ≢ a). subst (λ o. IsKeptValue n (value_at (unwrap_or o []) g)) (sym (fields_set_other a b f v m.nodes ne)) (image.fields_kept b g kb))
        (cases_eq b a);
    used = λ b kb some. ⊎_elim
        (λ (e : b ≡ a). subst (λ c. is_some (fields_named c (with_field a f v m.nodes)) ≡ true) (sym e)
        (ap is_some (fields_set a f v m.nodes) ∙ still_some (λ values. set values f v) (fields_named a m.nodes) (image.used a kept (λ z. some (e ∙ z)))))
        (λ (ne : b ≢ a). ap is_some (fields_set_other a b f v m.nodes ne) ∙ image.used b kb some)
        (cases_eq b a);
    once = image.once;
    retired = image.retired;
    retired_used = λ b e. ⊎_elim
        (λ (z : b ≡ a). subst (λ c. is_some (fields_named c (with_field a f v m.nodes)) ≡ true) (sym z)
        (ap is_some (fields_set a f v m.nodes) ∙ still_some (λ values. set values f v) (fields_named a m.nodes) (subst (λ c. is_some (fields_named c m.nodes) ≡ true) z (image.retired_used b e))))
        (λ (ne : b ≢ a). ap is_some (fields_set_other a b f v m.nodes ne) ∙ image.retired_used b e)
        (cases_eq b a);
  } where
    of : (o : Option (List Value)) → ((h : ℕ) → IsKeptValue n (value_at (unwrap_or o []) h)) → (g : ℕ) → IsKeptValue n (value_at (unwrap_or (option_map (λ values. set values f v) o) []) g)
    of None k g = tt
    of (Some values) k g = set_value_kept values f v here k g

  -- ---- retiring

  retired_more : (a : ℕ) (m : Memory) → a ≢ 0 → with_name_retired a m ≡ record m { retired = m.retired ++ a ∷ [] }
  retired_more zero m some = absurd (some refl)
  retired_more (suc a) m some = refl

  unpushed : (ns : List ℕ) (a : ℕ) → IsOnce (ns ++ a ∷ []) → IsOnce ns × (has a ns ≡ false)
  unpushed [] a once = (tt, refl)
  unpushed (k ∷ ks) a once =
      let p = or_parts (has k ks) (a == k) (sym (has_push k ks a) ∙ once.0) in
      let r = unpushed ks a once.1 in
      let apart : (k == a) ≡ false = (let h = p.1 in grind (arith, nat_tests, h)) in
      ((p.0, r.0), rw apart r.1)

  pub name_retired : (m m' : Memory) → IsMemoryImage n m m' → (a : ℕ) → Kept n a → IsMemoryImage n (with_name_retired a m) (with_name_retired (n.to a) m')
  name_retired m m' image zero kept = subst (λ k. IsMemoryImage n m (with_name_retired k m')) (sym n.null) image
  name_retired m m' image (suc a) kept =
      subst (IsMemoryImage n (record m { retired = m.retired ++ suc a ∷ [] })) (sym (retired_more (n.to (suc a)) m' (null_stays (suc a) kept (λ e. let no : ⊥ = omega (arith, e) in no)))) record {
        roots = image.roots;
        roots_kept = image.roots_kept;
        fields = image.fields;
        fields_kept = image.fields_kept;
        used = image.used;
        once = λ once. let k = unpushed m'.retired (n.to (suc a)) once in once_push m.retired (suc a) (image.once k.0)
            (false_from_ne_true (has (suc a) m.retired) (λ e. untrue (has (n.to (suc a)) m'.retired) k.1 (image.retired (suc a) kept e)));
        retired = λ b kb e. ⊎_elim
            (λ (old : has b m.retired ≡ true). has_old (n.to b) (n.to (suc a)) m'.retired (image.retired b kb old))
            (λ (z : b ≡ suc a). subst (λ c. has (n.to c) (m'.retired ++ n.to (suc a) ∷ []) ≡ true) (sym z) (has_new (n.to (suc a)) m'.retired))
            (has_last b (suc a) m.retired e);
        retired_used = λ b e. ⊎_elim
            (λ (old : has b m.retired ≡ true). image.retired_used b old)
            (λ (z : b ≡ suc a). subst (λ c. is_some (fields_named c m.nodes) ≡ true) (sym z) (image.used (suc a) kept (λ h. let no : ⊥ = omega (arith, h) in no)))
            (has_last b (suc a) m.retired e);
      }

  pub retired_renamed : (m m' : Memory) → IsMemoryImage n m m' → (r : Option Reg) (g : Registers) → AreKept n g → IsMemoryImage n (with_retired r g m) (with_retired r (renamed_registers n g) m')
  retired_renamed m m' image None g kept = image
  retired_renamed m m' image (Some r) g kept =
      subst (λ (x : Reference). IsMemoryImage n (with_retired (Some r) g m) (with_name_retired x.node m')) (sym (reference_renamed n g r)) (name_retired m m' image (reference_in g r).node (reference_kept n g r kept))

  -- ---- an exchange

  pub place_stored : (fields : List FieldDecl) (m m' : Memory) → IsMemoryImage n m m' → (place : Place) (g : Registers) (v : Value) → AreKept n g → IsKeptValue n v
      → IsMemoryImage n (with_place fields place g v m) (with_place fields place (renamed_registers n g) (renamed_value n v) m')
  place_stored fields m m' image (places.Root x) g v kept here = root_stored m m' image x v here
  place_stored fields m m' image (places.Field a f) g v kept here =
      subst (λ (x : Reference). IsMemoryImage n (with_place fields (places.Field a f) g v m) (record m' { nodes = with_field x.node (place_of fields f) (renamed_value n v) m'.nodes })) (sym (reference_renamed n g a))
      (field_stored m m' image (reference_in g a).node (place_of fields f) v (reference_kept n g a kept) here)

  abbrev pub FoundIs : Option Value → Option Value → Type 0
  FoundIs None o = o ≡ None
  FoundIs (Some v) o = (o ≡ Some (renamed_value n v)) × IsKeptValue n v

  found_renamed : (fields : List FieldDecl) (m m' : Memory) → IsMemoryImage n m m' → (place : Place) (g : Registers) → AreKept n g → FoundIs (found_at fields place g m) (found_at fields place (renamed_registers n g) m')
  found_renamed fields m m' image (places.Root x) g kept = (ap Some (ap (λ l. value_at l x) image.roots ∙ value_map n m.roots x), image.roots_kept x)
  found_renamed fields m m' image (places.Field a f) g kept =
      subst (FoundIs (found_at fields (places.Field a f) g m)) (sym (ap (λ (x : Reference). option_map (λ values. value_at values place) (fields_named x.node m'.nodes)) (reference_renamed n g a)
      ∙ ap (option_map (λ values. value_at values place)) (image.fields (reference_in g a).node (reference_kept n g a kept))))
      (of (fields_named (reference_in g a).node m.nodes) (λ h. image.fields_kept (reference_in g a).node h (reference_kept n g a kept))) where
        place : ℕ
        place = place_of fields f

        of : (o : Option (List Value)) → ((h : ℕ) → IsKeptValue n (value_at (unwrap_or o []) h))
            → FoundIs (option_map (λ values. value_at values place) o) (option_map (λ values. value_at values place) (option_map (map (renamed_value n)) o))
        of None k = refl
        of (Some values) k = (ap Some (value_map n values place), k place)

  -- both fail, or both leave images
  abbrev pub AfterIs : Option Memory → Option Memory → Type 0
  AfterIs None o = o ≡ None
  AfterIs (Some m) None = ⊥
  AfterIs (Some m) (Some m') = IsMemoryImage n m m'

  on_renamed : (fields : List FieldDecl) (entry : CasEntry) (g : Registers) (m m' : Memory) → IsMemoryImage n m m' → AreKept n g → (found found' : Option Value) → FoundIs found found'
      → AfterIs (exchange_on fields found entry g m) (exchange_on fields found' entry (renamed_registers n g) m')
  on_renamed fields entry g m m' image kept None found' is = ap (λ o. exchange_on fields o entry (renamed_registers n g) m') is
  on_renamed fields entry g m m' image kept (Some v) found' is =
      subst (λ o. AfterIs (exchange_on fields (Some v) entry g m) (exchange_on fields o entry (renamed_registers n g) m')) (sym is.0)
      (subst (λ w. AfterIs (exchange_on fields (Some v) entry g m) (cond (same_value (renamed_value n v) w) (Some (done' w)) None)) (sym (value_renamed g entry.expected)) whole) where
        done' : Value → Memory
        done' w = with_retired entry.retire (renamed_registers n g) (with_place fields entry.place (renamed_registers n g) (value_in (renamed_registers n g) entry.replacement) m')

        done : Memory
        done = with_retired entry.retire g (with_place fields entry.place g (value_in g entry.replacement) m)

        is_done : IsMemoryImage n done (done' (Number 0))
        is_done =
            retired_renamed _ _ (subst (λ w. IsMemoryImage n (with_place fields entry.place g (value_in g entry.replacement) m) (with_place fields entry.place (renamed_registers n g) w m')) (sym (value_renamed g entry.replacement))
            (place_stored fields m m' image entry.place g (value_in g entry.replacement) kept (value_kept g entry.replacement kept))) entry.retire g kept

        by : (b : Bool) → AfterIs (cond b (Some done) None) (cond b (Some (done' (Number 0))) None)
        by true = is_done
        by false = refl

        whole : AfterIs (cond (same_value v (value_in g entry.expected)) (Some done) None) (cond (same_value (renamed_value n v) (renamed_value n (value_in g entry.expected))) (Some (done' (Number 0))) None)
        whole = subst (λ b. AfterIs (cond (same_value v (value_in g entry.expected)) (Some done) None) (cond b (Some (done' (Number 0))) None))
            (sym (same_value_renamed v (value_in g entry.expected) is.1 (value_kept g entry.expected kept))) (by (same_value v (value_in g entry.expected)))

  pub exchange_renamed : (fields : List FieldDecl) (entry : CasEntry) (g : Registers) (m m' : Memory) → IsMemoryImage n m m' → AreKept n g → AfterIs (exchange fields entry g m) (exchange fields entry (renamed_registers n g) m')
  exchange_renamed fields entry g m m' image kept = on_renamed fields entry g m m' image kept _ _ (found_renamed fields m m' image entry.place g kept)
