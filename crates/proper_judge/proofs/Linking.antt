-- What a change does to fields and roots, and what names reach after it.
use Rattle.std.proofs.Common.{ℕ, zero, suc, ◌≡◌, ◌≢◌, ◌==◌, ◌⊎◌, ◌∙◌, Bool, true, false, cond, List, [], ◌∷◌, map, set, Option, Some, None, option_map, sym, ap, refl, subst, inl, inr, ⊎_elim}
use Rattle.std.specs.Prelude.{unwrap_or}
use Rattle.std.proofs.lemmas.Bool.{or_left, cases_eq}
use Rattle.std.proofs.lemmas.Bool.Decides.{eqb_tells}
use Rattle.norm_lang.specs.declared.registers.Reference.{Reference}
use Rattle.norm_lang.specs.declared.text.FieldDecl.{FieldDecl}
use Rattle.norm_lang.specs.declared.text.FieldKind.TheVariants as holdings
use Rattle.norm_lang.specs.declared.text.Text.{Text}
use Rattle.norm_lang.specs.KindFields.{fields_of}
use Rattle.source_machine.specs.declared.state.Value.{Value}
use Rattle.source_machine.specs.declared.state.Value.TheVariants.{Number, Node}
use Rattle.source_machine.specs.declared.state.Memory.{Memory}
use Rattle.source_machine.specs.declared.plan.Site.{Site}
use Rattle.source_machine.specs.declared.plan.Site.TheVariants as sites
use Rattle.source_machine.specs.declared.plan.Change.{Change}
use Rattle.source_machine.specs.declared.plan.Change.TheVariants.{Nothing, Makes, Writes}
use Rattle.source_machine.specs.Memory.{value_at, fields_named, with_field, blank_of, blank_field, blank_fields, with_name_retired}
use Rattle.source_machine.specs.Plans.{site_written, changed}
use Rattle.source_machine.specs.Proper.{has, PointsTo, Reaches, itself, onward}
use Rattle.source_machine.proofs.Places.{same_test, fields_set, fields_set_other}
use Rattle.proper_judge.specs.Reach.{ReachedFrom, IsFine, targets}
use Rattle.proper_judge.specs.Changes.{retired_by, field_targets, root_targets}
use Rattle.proper_judge.proofs.Numbering.{after_retirement}
use Rattle.proper_judge.proofs.Reaching.{at_target, target_at}

-- ---- values

-- null in a fresh field
blank_null : (fields : List FieldDecl) (f : ℕ) (reference : Reference) → value_at (map blank_field fields) f ≡ Node reference → reference.node ≡ 0
blank_null [] f reference e = absurd (let z : Number 0 ≡ Node reference = e in cc)
blank_null (field ∷ fields) (suc f) reference e = blank_null fields f reference e
blank_null (field ∷ fields) zero reference e = of field.kind e where
  of : (k : _) → blank_of k ≡ Node reference → reference.node ≡ 0
  of holdings.Number h = absurd (let z : Number 0 ≡ Node reference = h in cc)
  of (holdings.Reference k) h = let z : Node (record { node = 0; marked = false }) ≡ Node reference = h in cc

value_set : (values : List Value) (g f : ℕ) (v : Value) (reference : Reference) → value_at (set values g v) f ≡ Node reference → (value_at values f ≡ Node reference) ⊎ (v ≡ Node reference)
value_set [] g f v reference e = inl e
value_set (x ∷ xs) zero zero v reference e = inr e
value_set (x ∷ xs) zero (suc f) v reference e = inl e
value_set (x ∷ xs) (suc g) zero v reference e = inl e
value_set (x ∷ xs) (suc g) (suc f) v reference e = value_set xs g f v reference e

one_target : (v : Value) (reference : Reference) → v ≡ Node reference → has reference.node (targets (v ∷ [])) ≡ true
one_target v reference e = ap (λ x. has reference.node (targets (x ∷ []))) e ∙ or_left (reference.node == reference.node) false (same_test reference.node)

nodes_retired : (n : ℕ) (m : Memory) → (with_name_retired n m).nodes ≡ m.nodes
nodes_retired zero m = refl
nodes_retired (suc n) m = refl

roots_retired : (n : ℕ) (m : Memory) → (with_name_retired n m).roots ≡ m.roots
roots_retired zero m = refl
roots_retired (suc n) m = refl

list_retired : (n : ℕ) (m : Memory) → (with_name_retired n m).retired ≡ after_retirement n m.retired
list_retired zero m = refl
list_retired (suc n) m = refl

-- ---- a change

-- its retirements
pub change_retires : (text : Text) (change : Change) (m : Memory) → (changed text change m).retired ≡ after_retirement (retired_by change) m.retired
change_retires text Nothing m = refl
change_retires text (Makes name kind) m = refl
change_retires text (Writes w) m = list_retired w.retires (site_written w.site w.value m) ∙ ap (after_retirement w.retires) (of w.site) where
  of : (s : Site) → (site_written s w.value m).retired ≡ m.retired
  of (sites.Root x) = refl
  of (sites.Field name f) = refl

-- a reference in a field was there before, or is one that the change makes
abbrev Edges : Memory → Memory → List ℕ → Type 0
Edges m m' links = (a b : ℕ) → PointsTo m' a b → PointsTo m a b ⊎ (has b links ≡ true)

makes_edges : (text : Text) (name kind : ℕ) (m : Memory) → Edges m (changed text (Makes name kind) m) (0 ∷ [])
makes_edges text name kind m a b p = ⊎_elim
    (λ (t : ((name == a) ≡ true) × (name ≡ a)).
    let null : b ≡ 0 = blank_null (fields_of kind text.fields) p.0 (record { node = b; marked = p.1 })
    (sym (ap (λ c. value_at (unwrap_or (cond c (Some (blank_fields text kind)) (fields_named a m.nodes)) []) p.0) t.0) ∙ p.2) in
    inr (subst (λ n. has n (0 ∷ []) ≡ true) (sym null) refl))
    (λ (t : ((name == a) ≡ false) × (name ≢ a)).
    inl (p.0, p.1, sym (ap (λ c. value_at (unwrap_or (cond c (Some (blank_fields text kind)) (fields_named a m.nodes)) []) p.0) t.0) ∙ p.2))
    (eqb_tells name a)

field_edges : (m : Memory) (n g : ℕ) (v : Value) → Edges m (record m { nodes = with_field n g v m.nodes }) (targets (v ∷ []))
field_edges m n g v a b p = ⊎_elim
    (λ (t : a ≡ n). here t (fields_named n m.nodes) refl)
    (λ (ne : a ≢ n). inl (p.0, p.1, sym (ap (λ o. value_at (unwrap_or o []) p.0) (fields_set_other n a g v m.nodes ne)) ∙ p.2))
    (cases_eq a n) where
      held : a ≡ n → value_at (unwrap_or (option_map (λ values. set values g v) (fields_named n m.nodes)) []) p.0 ≡ Node (record { node = b; marked = p.1 })
      held t = sym (ap (λ k. value_at (unwrap_or (fields_named k (with_field n g v m.nodes)) []) p.0) t ∙ ap (λ o. value_at (unwrap_or o []) p.0) (fields_set n g v m.nodes)) ∙ p.2

      here : a ≡ n → (o : Option (List Value)) → fields_named n m.nodes ≡ o → PointsTo m a b ⊎ (has b (targets (v ∷ [])) ≡ true)
      here t None e = absurd (let z : Number 0 ≡ Node (record { node = b; marked = p.1 }) = sym (ap (λ o. value_at (unwrap_or (option_map (λ values. set values g v) o) []) p.0) e) ∙ held t in cc)
      here t (Some values) e = ⊎_elim
          (λ (old : value_at values p.0 ≡ Node (record { node = b; marked = p.1 })).
          inl (p.0, p.1, ap (λ k. value_at (unwrap_or (fields_named k m.nodes) []) p.0) t ∙ (ap (λ o. value_at (unwrap_or o []) p.0) e ∙ old)))
          (λ (new : v ≡ Node (record { node = b; marked = p.1 })). inr (one_target v (record { node = b; marked = p.1 }) new))
          (value_set values g p.0 v (record { node = b; marked = p.1 }) (sym (ap (λ o. value_at (unwrap_or (option_map (λ xs. set xs g v) o) []) p.0) e) ∙ held t))

pub change_edges : (text : Text) (change : Change) (m : Memory) → Edges m (changed text change m) (field_targets change)
change_edges text Nothing m a b p = inl p
change_edges text (Makes name kind) m a b p = makes_edges text name kind m a b p
change_edges text (Writes w) m a b p =
    of w.site (p.0, p.1, sym (ap (λ ns. value_at (unwrap_or (fields_named a ns) []) p.0) (nodes_retired w.retires (site_written w.site w.value m))) ∙ p.2) where
      of : (s : Site) → PointsTo (site_written s w.value m) a b → PointsTo m a b ⊎ (has b (field_targets (Writes (record w { site = s }))) ≡ true)
      of (sites.Root x) q = inl q
      of (sites.Field n g) q = field_edges m n g w.value a b q

-- the same of roots
pub change_roots : (text : Text) (change : Change) (m : Memory) (n : ℕ) → has n (targets (changed text change m).roots) ≡ true
    → (has n (targets m.roots) ≡ true) ⊎ (has n (root_targets change) ≡ true)
change_roots text Nothing m n e = inl e
change_roots text (Makes name kind) m n e = inl e
change_roots text (Writes w) m n e = of w.site (sym (ap (λ rs. has n (targets rs)) (roots_retired w.retires (site_written w.site w.value m))) ∙ e) where
  by : (x : ℕ) (t : (f : ℕ) × (mark : Bool) × (value_at (set m.roots x w.value) f ≡ Node (record { node = n; marked = mark })))
      → (has n (targets m.roots) ≡ true) ⊎ (has n (targets (w.value ∷ [])) ≡ true)
  by x t = ⊎_elim
      (λ (old : value_at m.roots t.0 ≡ Node (record { node = n; marked = t.1 })). inl (at_target m.roots t.0 t.1 n old))
      (λ (new : w.value ≡ Node (record { node = n; marked = t.1 })). inr (one_target w.value (record { node = n; marked = t.1 }) new))
      (value_set m.roots x t.0 w.value (record { node = n; marked = t.1 }) t.2)

  of : (s : Site) → has n (targets (site_written s w.value m).roots) ≡ true → (has n (targets m.roots) ≡ true) ⊎ (has n (root_targets (Writes (record w { site = s }))) ≡ true)
  of (sites.Root x) h = by x (target_at (set m.roots x w.value) n h)
  of (sites.Field k g) h = inl h

-- ---- paths after it

-- a path after a change was there before, or goes on by one that was from a reference that the change makes
pub path_on : (m m' : Memory) (links : List ℕ) → Edges m m' links → (a z : ℕ) → Reaches m' a z → Reaches m a z ⊎ ReachedFrom m links z
path_on m m' links edges a z (itself n) = inl (itself n)
path_on m m' links edges a z (onward n next other points rest) = ⊎_elim
    (λ (on : Reaches m next z). ⊎_elim
    (λ (old : PointsTo m n next). inl (onward n next z old on))
    (λ (new : has next links ≡ true). inr (next, new, on))
    (edges n next points))
    (λ (by : ReachedFrom m links z). inr by)
    (path_on m m' links edges next z rest)

pub fine_on : (m m' : Memory) (links from : List ℕ) (bad : ℕ → Bool) → Edges m m' links → IsFine m from bad → IsFine m links bad → IsFine m' from bad
fine_on m m' links from bad edges here there start name e reaches = ⊎_elim
    (λ (old : Reaches m start name). here start name e old)
    (λ (new : ReachedFrom m links name). there new.0 name new.1 new.2)
    (path_on m m' links edges start name reaches)
