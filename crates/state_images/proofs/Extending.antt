-- One more name that matters: a node is made.
use Rattle.std.proofs.Common.{ℕ, zero, suc, ◌+◌, ◌≡◌, ◌≢◌, ◌∙◌, ◌==◌, ◌||◌, ◌⊎◌, inl, inr, ◌++◌, Bool, true, false, cond, List, [], ◌∷◌, map, replicate, Option, Some, None, option_map, is_some, sym, ap, refl, subst, ⊎_elim, arith}
use Rattle.std.specs.Prelude.{slice_get, unwrap_or}
use Rattle.std.proofs.lemmas.Bool.{cases_eq, or_cases, or_left, or_right}
use Rattle.std.proofs.lemmas.Bool.Decides.{nat_tests, eqb_tells}
use Rattle.norm_lang.specs.declared.text.Text.{Text}
use Rattle.norm_lang.specs.declared.text.FieldDecl.{FieldDecl}
use Rattle.norm_lang.specs.declared.registers.Reference.{Reference}
use Rattle.norm_lang.specs.declared.registers.Registers.{Registers}
use Rattle.norm_lang.specs.Registers.{no_reference, node_in}
use Rattle.norm_lang.specs.KindFields.{fields_of}
use Rattle.source_machine.specs.declared.state.Value.{Value}
use Rattle.source_machine.specs.declared.state.Value.TheVariants.{Number, Node}
use Rattle.source_machine.specs.declared.state.Memory.{Memory}
use Rattle.source_machine.specs.declared.state.Running.{Running}
use Rattle.source_machine.specs.declared.state.Stand.{Stand}
use Rattle.source_machine.specs.declared.state.Stand.TheVariants.{InGenerator, InList, InWrapUp}
use Rattle.source_machine.specs.declared.state.SourceCaller.{SourceCaller}
use Rattle.source_machine.specs.Memory.{value_at, blank_field, blank_fields, fields_named}
use Rattle.source_machine.specs.MethodRuns.{MethodRun, put}
use Rattle.source_machine.specs.Proper.{has, field_of}
use Rattle.source_machine.proofs.Places.{put_same, put_other, fields_new, fields_new_other, same_test, other_test}
use Rattle.source_machine.proofs.Names.{untrue}
use Rattle.state_images.specs.Images.{Naming, Kept, renamed, renamed_value, renamed_registers, IsKeptValue, AreKept, IsMemoryImage, renamed_stand, IsKeptStand, IsRunningImage, IsRunningImageIf, IsCallerImage, IsRunImage}
use Rattle.state_images.proofs.Loading.{blank_kept}
use Rattle.state_images.proofs.Storing.{null_stays}

-- names that mattered still do, and are renamed as before
pub record Extends (n n' : Naming) : Type 0 where
  pub keeps : (a : ℕ) → Kept n a → Kept n' a
  pub same : (a : ℕ) → Kept n a → n'.to a ≡ n.to a

module _ (n n' : Naming) (e : Extends n n') where
  pub reference_more : (r : Reference) → Kept n r.node → renamed n' r ≡ renamed n r
  reference_more r kept = ap (λ k. let x : Reference = record { node = k; marked = r.marked } in x) (e.same r.node kept)

  pub value_more : (v : Value) → IsKeptValue n v → (renamed_value n' v ≡ renamed_value n v) × IsKeptValue n' v
  value_more (Number v) kept = (refl, tt)
  value_more (Node r) kept = (ap Node (reference_more r kept), e.keeps r.node kept)

  pub values_more : (values : List Value) → ((f : ℕ) → IsKeptValue n (value_at values f)) → map (renamed_value n') values ≡ map (renamed_value n) values
  values_more [] kept = refl
  values_more (v ∷ vs) kept = ap (λ x. x ∷ map (renamed_value n') vs) (value_more v (kept 0)).0 ∙ ap (λ l. renamed_value n v ∷ l) (values_more vs (λ f. kept (suc f)))

  references_more : (rs : List Reference) → ((r : ℕ) → Kept n (unwrap_or (slice_get rs r) no_reference).node) → map (renamed n') rs ≡ map (renamed n) rs
  references_more [] kept = refl
  references_more (r ∷ rs) kept = ap (λ x. x ∷ map (renamed n') rs) (reference_more r (kept 0)) ∙ ap (λ l. renamed n r ∷ l) (references_more rs (λ k. kept (suc k)))

  pub registers_more : (g : Registers) → AreKept n g → renamed_registers n' g ≡ renamed_registers n g
  registers_more g kept = ap (λ l. let x : Registers = record { numbers = g.numbers; references = l } in x) (references_more g.references kept)

  stand_more : (s : Stand) → IsKeptStand n s → (renamed_stand n' s ≡ renamed_stand n s) × IsKeptStand n' s
  stand_more (InGenerator at) kept = (refl, tt)
  stand_more (InList at entries made) kept = (refl, tt)
  stand_more (InWrapUp at started accessed) kept = (ap (λ g. InWrapUp at g accessed) (registers_more started kept), λ r. e.keeps _ (kept r))

  pub running_more : (o o' : Option Running) → IsRunningImageIf n o o' → IsRunningImageIf n' o o'
  running_more None None i = tt
  running_more None (Some r') i = absurd i
  running_more (Some r) None i = absurd i
  running_more (Some r) (Some r') i = record {
    op = i.op;
    args = i.args;
    registers = i.registers ∙ sym (registers_more r.registers i.registers_kept);
    stand = i.stand ∙ sym (stand_more r.stand i.stand_kept).0;
    registers_kept = λ k. e.keeps _ (i.registers_kept k);
    stand_kept = (stand_more r.stand i.stand_kept).1;
  }

  pub caller_more : (o o' : Option SourceCaller) → IsCallerImage n o o' → IsCallerImage n' o o'
  caller_more None None i = tt
  caller_more None (Some c') i = absurd i
  caller_more (Some c) None i = absurd i
  caller_more (Some c) (Some c') i = running_more c.running c'.running i

-- ---- a new node

module _ (n : Naming) (m m' : Memory) (image : IsMemoryImage n m m') (name name' : ℕ) (some : name ≢ 0) (some' : name' ≢ 0)
    (fresh : fields_named name m.nodes ≡ None) (fresh' : fields_named name' m'.nodes ≡ None) where
  lost : (o : Option (List Value)) → o ≡ None → is_some o ≡ true → ⊥
  lost None e is = untrue false refl is
  lost (Some x) e is = absurd (let z : Some x ≡ None = e in cc)

  pub unkept : (a : ℕ) → Kept n a → a ≢ name
  unkept a kept z = lost (fields_named name m.nodes) fresh (subst (λ c. is_some (fields_named c m.nodes) ≡ true) z (image.used a kept (λ h. some (sym z ∙ h))))

  unmet : (a : ℕ) → Kept n a → n.to a ≢ name'
  unmet a kept z = ⊎_elim
      (λ (null : a ≡ 0). some' (sym z ∙ (ap n.to null ∙ n.null)))
      (λ (ne : a ≢ 0). lost (fields_named name' m'.nodes) fresh'
      (ap (λ c. is_some (fields_named c m'.nodes)) (sym z) ∙ (ap is_some (image.fields a kept) ∙ of (fields_named a m.nodes) (image.used a kept ne))))
      (cases_eq a 0) where
        of : (o : Option (List Value)) → is_some o ≡ true → is_some (option_map (map (renamed_value n)) o) ≡ true
        of None e = e
        of (Some x) e = refl

  was : (a : ℕ) → ((a == name) || n.keeps a) ≡ true → (a ≡ name) ⊎ Kept n a
  was a e = ⊎_elim (λ (t : (a == name) ≡ true). inl (grind (arith, nat_tests, t))) (λ k. inr k) (or_cases (a == name) (n.keeps a) e)

  pub with_new : Naming
  with_new = record {
    to = put n.to name name';
    keeps = λ a. (a == name) || n.keeps a;
    null = put_other n.to name 0 name' (λ z. some (sym z)) ∙ n.null;
    null_kept = or_right (0 == name) (n.keeps 0) n.null_kept;
    apart = λ a b ka kb z. of a b (was a ka) (was b kb) z;
  } where
    of : (a b : ℕ) → ((a ≡ name) ⊎ Kept n a) → ((b ≡ name) ⊎ Kept n b) → put n.to name name' a ≡ put n.to name name' b → a ≡ b
    of a b (inl p) (inl q) z = p ∙ sym q
    of a b (inl p) (inr kb) z = absurd (unmet b kb (sym (put_other n.to name b name' (unkept b kb)) ∙ (sym z ∙ (ap (put n.to name name') p ∙ put_same n.to name name'))))
    of a b (inr ka) (inl q) z = absurd (unmet a ka (sym (put_other n.to name a name' (unkept a ka)) ∙ (z ∙ (ap (put n.to name name') q ∙ put_same n.to name name'))))
    of a b (inr ka) (inr kb) z = n.apart a b ka kb (sym (put_other n.to name a name' (unkept a ka)) ∙ (z ∙ put_other n.to name b name' (unkept b kb)))

  pub new_extends : Extends n with_new
  unfolding with_new
  new_extends = record { keeps = λ a k. or_right (a == name) (n.keeps a) k; same = λ a k. put_other n.to name a name' (unkept a k) }

  pub new_is : with_new.to name ≡ name'
  unfolding with_new
  new_is = put_same n.to name name'

  pub new_kept : Kept with_new name
  unfolding with_new
  new_kept = or_left (name == name) (n.keeps name) (same_test name)

  pub kept_was : (a : ℕ) → Kept with_new a → (a ≡ name) ⊎ Kept n a
  unfolding with_new
  kept_was a e = was a e

  blanks : (fields : List FieldDecl) → map (renamed_value with_new) (map blank_field fields) ≡ map blank_field fields
  blanks [] = refl
  blanks (f ∷ fs) = ap (λ v. v ∷ map (renamed_value with_new) (map blank_field fs)) (blank_kept with_new f.kind).0 ∙ ap (λ l. blank_field f ∷ l) (blanks fs)

  blank_at : (fields : List FieldDecl) (f : ℕ) → IsKeptValue with_new (value_at (map blank_field fields) f)
  blank_at [] f = tt
  blank_at (d ∷ ds) zero = (blank_kept with_new d.kind).1
  blank_at (d ∷ ds) (suc f) = blank_at ds f

  pub new_made : (text : Text) (kind : ℕ)
      → IsMemoryImage with_new (record m { nodes = record { name = name; kind = kind; values = blank_fields text kind } ∷ m.nodes }) (record m' { nodes = record { name = name'; kind = kind; values = blank_fields text kind } ∷ m'.nodes })
  new_made text kind = record {
    roots = image.roots ∙ sym (values_more n with_new new_extends m.roots image.roots_kept);
    roots_kept = λ x. (value_more n with_new new_extends (value_at m.roots x) (image.roots_kept x)).1;
    fields = λ a k. ⊎_elim
        (λ (z : a ≡ name). subst (λ c. fields_named (with_new.to c) (record { name = name'; kind = kind; values = blank_fields text kind } ∷ m'.nodes) ≡ option_map (map (renamed_value with_new)) (fields_named c (record { name = name; kind = kind; values = blank_fields text kind } ∷ m.nodes))) (sym z)
        (ap (λ c. fields_named c (record { name = name'; kind = kind; values = blank_fields text kind } ∷ m'.nodes)) new_is
        ∙ (fields_new name' kind (blank_fields text kind) m'.nodes ∙ (ap Some (sym (blanks (fields_of kind text.fields))) ∙ ap (option_map (map (renamed_value with_new))) (sym (fields_new name kind (blank_fields text kind) m.nodes))))))
        (λ (old : Kept n a).
        ap (λ c. fields_named c (record { name = name'; kind = kind; values = blank_fields text kind } ∷ m'.nodes)) (new_extends.same a old)
        ∙ (fields_new_other name' kind (n.to a) (blank_fields text kind) m'.nodes (unmet a old)
        ∙ (image.fields a old ∙ (of a old (fields_named a m.nodes) refl ∙ ap (option_map (map (renamed_value with_new))) (sym (fields_new_other name kind a (blank_fields text kind) m.nodes (unkept a old)))))))
        (kept_was a k);
    fields_kept = λ a f k. ⊎_elim
        (λ (z : a ≡ name). subst (λ c. IsKeptValue with_new (field_of (record m { nodes = record { name = name; kind = kind; values = blank_fields text kind } ∷ m.nodes }) c f)) (sym z)
        (subst (λ o. IsKeptValue with_new (value_at (unwrap_or o []) f)) (sym (fields_new name kind (blank_fields text kind) m.nodes)) (blank_at (fields_of kind text.fields) f)))
        (λ (old : Kept n a). subst (λ o. IsKeptValue with_new (value_at (unwrap_or o []) f)) (sym (fields_new_other name kind a (blank_fields text kind) m.nodes (unkept a old)))
        (value_more n with_new new_extends (field_of m a f) (image.fields_kept a f old)).1)
        (kept_was a k);
    used = λ a k ne. ⊎_elim
        (λ (z : a ≡ name). subst (λ c. is_some (fields_named c (record { name = name; kind = kind; values = blank_fields text kind } ∷ m.nodes)) ≡ true) (sym z) (ap is_some (fields_new name kind (blank_fields text kind) m.nodes)))
        (λ (old : Kept n a). ap is_some (fields_new_other name kind a (blank_fields text kind) m.nodes (unkept a old)) ∙ image.used a old ne)
        (kept_was a k);
    once = image.once;
    retired = λ a k e. ⊎_elim
        (λ (z : a ≡ name). absurd (lost (fields_named name m.nodes) fresh (subst (λ c. is_some (fields_named c m.nodes) ≡ true) z (image.retired_used a e))))
        (λ (old : Kept n a). ap (λ c. has c m'.retired) (new_extends.same a old) ∙ image.retired a old e)
        (kept_was a k);
    retired_used = λ a e. ⊎_elim
        (λ (z : a ≡ name). subst (λ c. is_some (fields_named c (record { name = name; kind = kind; values = blank_fields text kind } ∷ m.nodes)) ≡ true) (sym z) (ap is_some (fields_new name kind (blank_fields text kind) m.nodes)))
        (λ (ne : a ≢ name). ap is_some (fields_new_other name kind a (blank_fields text kind) m.nodes ne) ∙ image.retired_used a e)
        (cases_eq a name);
  } where
    of : (a : ℕ) → Kept n a → (o : Option (List Value)) → fields_named a m.nodes ≡ o → option_map (map (renamed_value n)) (fields_named a m.nodes) ≡ option_map (map (renamed_value with_new)) (fields_named a m.nodes)
    of a old None z = ap (option_map (map (renamed_value n))) z ∙ sym (ap (option_map (map (renamed_value with_new))) z)
    of a old (Some values) z =
        ap (option_map (map (renamed_value n))) z
        ∙ (ap Some (sym (values_more n with_new new_extends values (λ f. subst (λ o. IsKeptValue n (value_at (unwrap_or o []) f)) z (image.fields_kept a f old)))) ∙ sym (ap (option_map (map (renamed_value with_new))) z))
