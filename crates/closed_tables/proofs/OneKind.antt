-- If fields, roots and new nodes are of the first kind, no register of references may have another, so that N15 is kept.
use Rattle.std.proofs.Common.{◌≡◌, ℕ, zero, suc, ◌<◌, ⊎_elim, Bool, true, false, ◌&&◌, ◌||◌, not, List, [], ◌∷◌, take, drop, Option, Some, None, refl, sym, ap, ◌∙◌, arith}
use Rattle.std.specs.Prelude.{slice_get, ◌==◌, IsTrue, if◌then◌else◌}
use Rattle.std.specs.List.{list_any, list_all}
use Rattle.std.proofs.lemmas.Bool.Decides.{nat_tests}
use Rattle.std.proofs.lemmas.Bool.{or_cases, and_from}
use Rattle.norm_lang.specs.declared.text.Reg.{Reg}
use Rattle.norm_lang.specs.declared.text.Reg.TheVariants.{Num, Ref}
use Rattle.norm_lang.specs.declared.text.FieldKind.{FieldKind}
use Rattle.norm_lang.specs.declared.text.FieldKind.TheVariants.{Number, Reference}
use Rattle.norm_lang.specs.declared.text.FieldDecl.{FieldDecl}
use Rattle.norm_lang.specs.declared.text.RootDecl.{RootDecl}
use Rattle.norm_lang.specs.declared.text.Place.{Place}
use Rattle.norm_lang.specs.declared.text.Place.TheVariants as places
use Rattle.norm_lang.specs.declared.text.CasEntry.{CasEntry}
use Rattle.norm_lang.specs.declared.text.Instr.{Instr}
use Rattle.norm_lang.specs.declared.text.Instr.TheVariants as instr
use Rattle.norm_lang.specs.declared.text.Op.{Op}
use Rattle.norm_lang.specs.declared.text.Text.{Text}
use Rattle.norm_lang.specs.Limits.{is_kind}
use Rattle.norm_lang.specs.Flow.{passed}
use Rattle.norm_lang.specs.Kept.{code_of}
use Rattle.norm_lang.specs.RegisterUse.{same_register, sets}
use Rattle.norm_lang.specs.InstructionRules.{field_kind, root_kind, place_kind}
use Rattle.norm_lang.specs.Kinds.{refers_to, refers, root_refers, none_held, held_in, given_kinds, kinds_after, kinds_along, CommitPath, MayHaveKind, asks_object, asks_entry, asks, refers_elsewhere, differs_from, are_several, picks_several, HasOtherKind, MixesKinds}
use Rattle.norm_lang.specs.KindFields.{owner_of}
use Rattle.norm_lang.specs.LineWords.{is_owner}
use Rattle.closed_tables.specs.Tables.{is_first_field, is_first_root, declare_first, makes_first}
use Rattle.closed_tables.proofs.Tests.{and_left, and_right}

never : {P : Type 0} → false ≡ true → P
never is = absurd (let no : false ≡ true = is in cc)

-- ---- what fields and roots refer to

kind_first : (kind : FieldKind) (t : ℕ) → is_kind 1 kind ≡ true → refers_to kind t ≡ true → t < 1
kind_first Number t is refers_there = never refers_there
kind_first (Reference k) t is refers_there =
    let first : k ≡ 0 = grind (arith, nat_tests) in
    let same : k ≡ t = grind (arith, nat_tests) in
    omega (arith, first, same)

field_first : (fields : List FieldDecl) (f t : ℕ) → list_all is_first_field fields ≡ true → refers (field_kind fields f) t ≡ true → t < 1
field_first [] f t all is = never is
field_first (field ∷ fields) zero t all is = kind_first field.kind t (and_right (field.owner == 0) (is_kind 1 field.kind) (and_left (is_first_field field) (list_all is_first_field fields) all)) is
field_first (field ∷ fields) (suc f) t all is = field_first fields f t (and_right (is_first_field field) (list_all is_first_field fields) all) is

owner_first : (fields : List FieldDecl) (f k : ℕ) → list_all is_first_field fields ≡ true → is_owner (owner_of fields f) k ≡ true → k < 1
owner_first [] f k all is = never is
owner_first (field ∷ fields) zero k all is =
    let first : (field.owner == 0) ≡ true = and_left (field.owner == 0) (is_kind 1 field.kind) (and_left (is_first_field field) (list_all is_first_field fields) all) in
    let zeroth : field.owner ≡ 0 = grind (arith, nat_tests) in
    let same : field.owner ≡ k = grind (arith, nat_tests) in
    omega (arith, zeroth, same)
owner_first (field ∷ fields) (suc f) k all is = owner_first fields f k (and_right (is_first_field field) (list_all is_first_field fields) all) is

root_first : (roots : List RootDecl) (x t : ℕ) → list_all is_first_root roots ≡ true → refers (root_kind roots x) t ≡ true → t < 1
root_first [] x t all is = never is
root_first (root ∷ roots) zero t all is = kind_first root.kind t (and_left (is_first_root root) (list_all is_first_root roots) all) is
root_first (root ∷ roots) (suc x) t all is = root_first roots x t (and_right (is_first_root root) (list_all is_first_root roots) all) is

any_first : (roots : List RootDecl) (t : ℕ) → list_all is_first_root roots ≡ true → list_any (root_refers t) roots ≡ true → t < 1
any_first [] t all is = never is
any_first (root ∷ roots) t all is = ⊎_elim
    (λ (one : root_refers t root ≡ true). kind_first root.kind t (and_left (is_first_root root) (list_all is_first_root roots) all) one)
    (λ (rest : list_any (root_refers t) roots ≡ true). any_first roots t (and_right (is_first_root root) (list_all is_first_root roots) all) rest)
    (or_cases (root_refers t root) (list_any (root_refers t) roots) is)

all_taken : (p : RootDecl → Bool) (n : ℕ) (roots : List RootDecl) → list_all p roots ≡ true → list_all p (take n roots) ≡ true
all_taken p zero roots all = refl
all_taken p (suc n) [] all = refl
all_taken p (suc n) (root ∷ roots) all = and_from (p root) (list_all p (take n roots)) (and_left (p root) (list_all p roots) all) (all_taken p n roots (and_right (p root) (list_all p roots) all))

all_dropped : (p : RootDecl → Bool) (n : ℕ) (roots : List RootDecl) → list_all p roots ≡ true → list_all p (drop n roots) ≡ true
all_dropped p zero roots all = all
all_dropped p (suc n) [] all = refl
all_dropped p (suc n) (root ∷ roots) all = all_dropped p n roots (and_right (p root) (list_all p roots) all)

-- ---- roots of several kinds

same_kinds : (k : ℕ) (kind : FieldKind) → k ≡ 0 → is_kind 1 kind ≡ true → refers_elsewhere k kind ≡ true → ⊥
same_kinds k Number first is elsewhere = never elsewhere
same_kinds k (Reference j) first is elsewhere =
    let zeroth : j ≡ 0 = grind (arith, nat_tests) in
    let same : (j == k) ≡ true = grind (arith, nat_tests) in
    never (sym (ap not same) ∙ elsewhere)

none_elsewhere : (k : ℕ) (roots : List RootDecl) → k ≡ 0 → list_all is_first_root roots ≡ true → list_any (λ root. refers_elsewhere k root.kind) roots ≡ true → ⊥
none_elsewhere k [] first all is = never is
none_elsewhere k (root ∷ roots) first all is = ⊎_elim
    (λ (one : refers_elsewhere k root.kind ≡ true). same_kinds k root.kind first (and_left (is_first_root root) (list_all is_first_root roots) all) one)
    (λ (rest : list_any (λ other. refers_elsewhere k other.kind) roots ≡ true). none_elsewhere k roots first (and_right (is_first_root root) (list_all is_first_root roots) all) rest)
    (or_cases (refers_elsewhere k root.kind) (list_any (λ other. refers_elsewhere k other.kind) roots) is)

no_difference : (kind : FieldKind) (roots : List RootDecl) → is_kind 1 kind ≡ true → list_all is_first_root roots ≡ true → differs_from roots kind ≡ true → ⊥
no_difference Number roots is all differs = never differs
no_difference (Reference k) roots is all differs = let first : k ≡ 0 = grind (arith, nat_tests) in none_elsewhere k roots first all differs

not_several : (roots : List RootDecl) → list_all is_first_root roots ≡ true → are_several roots ≡ true → ⊥
not_several [] all is = never is
not_several (root ∷ roots) all is =
    let later = and_right (is_first_root root) (list_all is_first_root roots) all in
    ⊎_elim
    (λ (differs : differs_from roots root.kind ≡ true). no_difference root.kind roots (and_left (is_first_root root) (list_all is_first_root roots) all) later differs)
    (λ (rest : are_several roots ≡ true). not_several roots later rest)
    (or_cases (differs_from roots root.kind) (are_several roots) is)

picks_one : (roots : List RootDecl) (i : Instr) → list_all is_first_root roots ≡ true → picks_several roots i ≡ true → ⊥
picks_one roots (instr.LoadPick d x n a) all is = not_several (take n (drop x roots)) (all_taken is_first_root n (drop x roots) (all_dropped is_first_root x roots all)) is
picks_one roots _ all is = never is

-- ---- what instructions ask for, and what they give

module _ (fields : List FieldDecl) (roots : List RootDecl) (all_fields : list_all is_first_field fields ≡ true) (all_roots : list_all is_first_root roots ≡ true) where
  place_first : (place : Place) (k : ℕ) → refers (place_kind fields roots place) k ≡ true → k < 1
  place_first (places.Root x) k is = root_first roots x k all_roots is
  place_first (places.Field a f) k is = field_first fields f k all_fields is

  object_first : (place : Place) (r k : ℕ) → asks_object fields place r k ≡ true → k < 1
  object_first (places.Root x) r k is = never is
  object_first (places.Field a f) r k is = owner_first fields f k all_fields (and_right (same_register (Ref r) a) (is_owner (owner_of fields f) k) is)

  entry_first : (entry : CasEntry) (r k : ℕ) → asks_entry fields roots r k entry ≡ true → k < 1
  entry_first entry r k is =
      let named = same_register (Ref r) entry.expected || same_register (Ref r) entry.replacement in
      ⊎_elim
      (λ (object : asks_object fields entry.place r k ≡ true). object_first entry.place r k object)
      (λ (value : ((same_register (Ref r) entry.expected || same_register (Ref r) entry.replacement) && refers (place_kind fields roots entry.place) k) ≡ true).
      place_first entry.place k (and_right named (refers (place_kind fields roots entry.place) k) value))
      (or_cases (asks_object fields entry.place r k) (named && refers (place_kind fields roots entry.place) k) is)

  entries_first : (entries : List CasEntry) (r k : ℕ) → list_any (asks_entry fields roots r k) entries ≡ true → k < 1
  entries_first [] r k is = never is
  entries_first (entry ∷ entries) r k is = ⊎_elim
      (λ (one : asks_entry fields roots r k entry ≡ true). entry_first entry r k one)
      (λ (rest : list_any (asks_entry fields roots r k) entries ≡ true). entries_first entries r k rest)
      (or_cases (asks_entry fields roots r k entry) (list_any (asks_entry fields roots r k) entries) is)

  put_first : (a b : Reg) (f r k : ℕ) → (asks_object fields (places.Field a f) r k || (same_register (Ref r) b && refers (field_kind fields f) k)) ≡ true → k < 1
  put_first a b f r k is = ⊎_elim
      (λ (object : asks_object fields (places.Field a f) r k ≡ true). object_first (places.Field a f) r k object)
      (λ (value : (same_register (Ref r) b && refers (field_kind fields f) k) ≡ true). field_first fields f k all_fields (and_right (same_register (Ref r) b) (refers (field_kind fields f) k) value))
      (or_cases (asks_object fields (places.Field a f) r k) (same_register (Ref r) b && refers (field_kind fields f) k) is)

  asked_first : (i : Instr) (r k : ℕ) → asks fields roots i r k ≡ true → k < 1
  asked_first (instr.LoadField d a f) r k is = object_first (places.Field a f) r k is
  asked_first (instr.Put a f b) r k is = put_first a b f r k is
  asked_first (instr.Cas entry l) r k is = entry_first entry r k is
  asked_first (instr.Commit entries) r k is = entries_first entries r k is
  asked_first _ r k is = never is

  held_first : (held : ℕ → ℕ → Bool) (a : Reg) (t : ℕ) → ((r : ℕ) → held r t ≡ true → t < 1) → held_in held a t ≡ true → t < 1
  held_first held (Num a) t before is = never is
  held_first held (Ref a) t before is = before a is

  new_first : (kind t : ℕ) → (kind == 0) ≡ true → (kind == t) ≡ true → t < 1
  new_first kind t first is =
      let zeroth : kind ≡ 0 = grind (arith, nat_tests) in
      let same : kind ≡ t = grind (arith, nat_tests) in
      omega (arith, zeroth, same)

  given_first : (i : Instr) (held : ℕ → ℕ → Bool) (t : ℕ) → makes_first i ≡ true → ((r : ℕ) → held r t ≡ true → t < 1) → given_kinds fields roots i held t ≡ true → t < 1
  given_first (instr.Mov d a) held t makes before is = held_first held a t before is
  given_first (instr.Mark d a) held t makes before is = held_first held a t before is
  given_first (instr.Unmark d a) held t makes before is = held_first held a t before is
  given_first (instr.LoadRoot d x) held t makes before is = root_first roots x t all_roots is
  given_first (instr.LoadPick d x n a) held t makes before is = any_first (take n (drop x roots)) t (all_taken is_first_root n (drop x roots) (all_dropped is_first_root x roots all_roots)) is
  given_first (instr.LoadField d a f) held t makes before is = field_first fields f t all_fields is
  given_first (instr.New d kind) held t makes before is = new_first kind t makes is
  given_first _ held t makes before is = never is

  -- ---- along a path

  module _ (op : Op) (makes : (wrapup : Bool) (at : ℕ) (i : Instr) → slice_get (code_of op wrapup) at ≡ Some i → makes_first i ≡ true) (t : ℕ) where
    passed_first : (wrapup : Bool) (last : ℕ) (found : Option Instr) (held : ℕ → ℕ → Bool) (r : ℕ) → slice_get (code_of op wrapup) last ≡ found
        → ((a : ℕ) → held a t ≡ true → t < 1) → passed (kinds_after fields roots) found held r t ≡ true → t < 1
    passed_first wrapup last None held r stands before has = before r has
    passed_first wrapup last (Some i) held r stands before has = by (sets (Ref r) i) has
      where
        by : (b : Bool) → (if b then given_kinds fields roots i held t else held r t) ≡ true → t < 1
        by true is = given_first i held t (makes wrapup last i stands) before is
        by false is = before r is

    along_first : (wrapup : Bool) (start : ℕ → ℕ → Bool) → ((a : ℕ) → start a t ≡ true → t < 1) → (path : List ℕ) (r : ℕ) → kinds_along fields roots start (code_of op wrapup) path r t ≡ true → t < 1
    along_first wrapup start begun [] r has = begun r has
    along_first wrapup start begun (last ∷ path) r has =
        passed_first wrapup last (slice_get (code_of op wrapup) last) (kinds_along fields roots start (code_of op wrapup) path) r refl (along_first wrapup start begun path) has

    none_first : (a : ℕ) → none_held a t ≡ true → t < 1
    none_first a is = never is

    may_first : (wrapup : Bool) (r at : ℕ) → MayHaveKind fields roots op wrapup r at t → t < 1
    may_first false r at may = along_first false none_held none_first may.path r (sym (ap (λ (start : ℕ → ℕ → Bool). kinds_along fields roots start op.generator may.path r t) may.starts) ∙ may.has)
    may_first true r at may = along_first true may.start begun may.path r may.has
      where
        begun : (a : ℕ) → may.start a t ≡ true → t < 1
        begun a is = ⊎_elim
            (λ (none : may.start ≡ none_held). none_first a (sym (ap (λ (s : ℕ → ℕ → Bool). s a t) none) ∙ is))
            (λ (from : (c : CommitPath op.generator) × (may.start ≡ kinds_along fields roots none_held op.generator c.path)).
            along_first false none_held none_first from.0.path a (sym (ap (λ (s : ℕ → ℕ → Bool). s a t) from.1) ∙ is))
            may.starts

pub mixes_none : (text : Text) (op : Op) → declare_first text.fields text.roots ≡ true
    → ((wrapup : Bool) (at : ℕ) (i : Instr) → slice_get (code_of op wrapup) at ≡ Some i → makes_first i ≡ true)
    → (wrapup : Bool) (at : ℕ) (i : Instr) → MixesKinds text op wrapup at i → ⊥
mixes_none text op one makes wrapup at i mixes =
    let all_fields = and_left (list_all is_first_field text.fields) (list_all is_first_root text.roots) one in
    let all_roots = and_right (list_all is_first_field text.fields) (list_all is_first_root text.roots) one in
    ⊎_elim
    (λ (several : IsTrue (picks_several text.roots i)). picks_one text.roots i all_roots several)
    (λ (other : HasOtherKind text op wrapup at i).
    let held : other.kind < 1 = may_first text.fields text.roots all_fields all_roots op makes other.kind wrapup other.register at other.may in
    let asked : other.asked < 1 = asked_first text.fields text.roots all_fields all_roots i other.register other.asked other.asks_it in
    other.differs (omega (arith, held, asked)))
    mixes
