-- The object of an exchange of a list is read openly, so it isn't fresh.
use Rattle.std.proofs.Common.{ℕ, zero, suc, ◌≡◌, ◌==◌, ◌+◌, ◌≤◌, ◌∙◌, ◌&&◌, ◌||◌, not, Bool, true, false, List, [], ◌∷◌, ◌++◌, Some, None, arith, inl, inr, sym, ap, subst, refl, if◌then◌else◌}
use Rattle.std.specs.Prelude.{slice_get, IsTrue, count_by}
use Rattle.std.specs.List.{list_any, flat_map}
use Rattle.std.proofs.lemmas.Bool.{or_cases, or_left}
use Rattle.std.proofs.lemmas.Bool.Decides.{nat_tests}
use Rattle.std.proofs.lemmas.List.Recursion.{is_count_by}
use Rattle.norm_lang.specs.declared.text.Reg.{Reg}
use Rattle.norm_lang.specs.declared.text.Reg.TheVariants.{Ref}
use Rattle.norm_lang.specs.declared.text.Place.{Place}
use Rattle.norm_lang.specs.declared.text.Place.TheVariants as places
use Rattle.norm_lang.specs.declared.text.CasEntry.{CasEntry}
use Rattle.norm_lang.specs.declared.text.Instr.TheVariants as instr
use Rattle.norm_lang.specs.PathRules.{is_given_once, reads_openly}
use Rattle.norm_lang.specs.RegisterUse.{same_register, objects_of, registers_named, operands_of, entry_sources, reads}
use Rattle.norm_paths.specs.Times.{times}
use Rattle.run_ahead.proofs.Mirroring.{same_itself}
use Rattle.target_laws.proofs.Entries.{reads_entry}
use Rattle.oa_simulation.proofs.sim_steps.Exchanges.Offering.{any_before, object_is}

times_append : (r : Reg) (xs ys : List Reg) → times r (xs ++ ys) ≡ times r xs + times r ys
times_append r [] ys = let none : times r ys ≡ 0 + times r ys = omega arith in none
times_append r (x ∷ xs) ys = by_bool (same_register r x) (times_append r xs ys)
  where
    by_bool : (b : Bool) → times r (xs ++ ys) ≡ times r xs + times r ys → (if b then 1 + times r (xs ++ ys) else times r (xs ++ ys)) ≡ (if b then 1 + times r xs else times r xs) + times r ys
    by_bool true rest = omega (arith, rest)
    by_bool false rest = rest

times_is : (r : Reg) (xs : List Reg) → times r xs ≡ count_by (same_register r) xs
times_is r xs = is_count_by (times r) (same_register r) refl (λ x others. refl) xs

-- a register that is among them is read at least once
times_some : (r : Reg) (xs : List Reg) → IsTrue (list_any (same_register r) xs) → 1 ≤ times r xs
times_some r [] is = absurd (let no : false ≡ true = is in cc)
times_some r (x ∷ xs) is = by_bool (same_register r x) is (times_some r xs)
  where
    by_bool : (b : Bool) → IsTrue (b || list_any (same_register r) xs) → (IsTrue (list_any (same_register r) xs) → 1 ≤ times r xs) → 1 ≤ (if b then 1 + times r xs else times r xs)
    by_bool true is rest = omega arith
    by_bool false is rest = rest is

-- how often an entry reads a register that is its object, its replacement, or both
object_times : (r f : ℕ) (entry : CasEntry) → entry.place ≡ places.Field (Ref r) f → 1 ≤ times (Ref r) (objects_of entry.place)
object_times r f entry is = times_some (Ref r) (objects_of entry.place) (subst (λ (place : Place). IsTrue (list_any (same_register (Ref r)) (objects_of place))) (sym is) (or_left (same_register (Ref r) (Ref r)) _ (same_itself (Ref r))))

new_times : (r : ℕ) (entry : CasEntry) → IsTrue (same_register (Ref r) entry.replacement) → 1 ≤ times (Ref r) (entry.replacement ∷ [])
new_times r entry is = times_some (Ref r) (entry.replacement ∷ []) (or_left (same_register (Ref r) entry.replacement) _ is)

all_times : (r : ℕ) (entry : CasEntry) → times (Ref r) (objects_of entry.place) + times (Ref r) (entry.expected ∷ []) + times (Ref r) (entry.replacement ∷ []) + times (Ref r) (registers_named entry.retire) ≡ times (Ref r) (entry_sources entry)
all_times r entry =
    let all = times_append (Ref r) (operands_of entry) (registers_named entry.retire) in
    let operands = times_append (Ref r) (objects_of entry.place) (entry.expected ∷ entry.replacement ∷ []) in
    let both = times_append (Ref r) (entry.expected ∷ []) (entry.replacement ∷ []) in
    omega (arith, all, operands, both)

some_new : (r : ℕ) (entries : List CasEntry) → IsTrue (list_any (λ entry. same_register (Ref r) entry.replacement) entries) → 1 ≤ times (Ref r) (flat_map entry_sources entries)
some_new r [] is = absurd (let no : false ≡ true = is in cc)
some_new r (e ∷ es) is =
    let both = times_append (Ref r) (entry_sources e) (flat_map entry_sources es) in
    let all = all_times r e in
    elim (or_cases (same_register (Ref r) e.replacement) (list_any (λ entry. same_register (Ref r) entry.replacement) es) is) [
      | inl here ↦ (let one = new_times r e here in omega (arith, both, all, one))
      | inr more ↦ (let rest = some_new r es more in omega (arith, both, rest))
    ]

-- the object of one entry that is the replacement of one is read twice
twice : (r f : ℕ) (entries : List CasEntry) (k : ℕ) (entry : CasEntry) → slice_get entries k ≡ Some entry → entry.place ≡ places.Field (Ref r) f
    → IsTrue (list_any (λ other. same_register (Ref r) other.replacement) entries) → 2 ≤ times (Ref r) (flat_map entry_sources entries)
twice r f [] k entry is place new = absurd (let no : None ≡ Some entry = is in cc)
twice r f (e ∷ es) zero entry is place new =
    let same : e ≡ entry = cc in
    let both = times_append (Ref r) (entry_sources e) (flat_map entry_sources es) in
    let all = all_times r e in
    let object = object_times r f e (ap (λ (other : CasEntry). other.place) same ∙ place) in
    elim (or_cases (same_register (Ref r) e.replacement) (list_any (λ other. same_register (Ref r) other.replacement) es) new) [
      | inl here ↦ (let one = new_times r e here in omega (arith, both, all, one, object))
      | inr more ↦ (let rest = some_new r es more in omega (arith, both, all, object, rest))
    ]
twice r f (e ∷ es) (suc k) entry is place new =
    let both = times_append (Ref r) (entry_sources e) (flat_map entry_sources es) in
    let all = all_times r e in
    let object : 1 ≤ times (Ref r) (flat_map entry_sources es) = times_some (Ref r) (flat_map entry_sources es) (reads_entry (instr.Commit es) k entry (Ref r) is (any_before (same_register (Ref r)) (operands_of entry) (registers_named entry.retire) (object_is (Ref r) f entry place))) in
    elim (or_cases (same_register (Ref r) e.replacement) (list_any (λ other. same_register (Ref r) other.replacement) es) new) [
      | inl here ↦ (let one = new_times r e here in omega (arith, both, all, one, object))
      | inr more ↦ (let rest = twice r f es k entry is place more in omega (arith, both, rest))
    ]

not_given : (r f : ℕ) (entries : List CasEntry) (k : ℕ) (entry : CasEntry) → slice_get entries k ≡ Some entry → entry.place ≡ places.Field (Ref r) f → is_given_once (Ref r) entries ≡ false
not_given r f entries k entry is place = of (list_any (λ other. same_register (Ref r) other.replacement) entries) refl where
  and_false : (b : Bool) → (b && false) ≡ false
  and_false true = refl
  and_false false = refl

  of : (b : Bool) → list_any (λ other. same_register (Ref r) other.replacement) entries ≡ b → ((count_by (same_register (Ref r)) (flat_map entry_sources entries) == 1) && b) ≡ false
  of false none = and_false (count_by (same_register (Ref r)) (flat_map entry_sources entries) == 1)
  of true new =
      let many = twice r f entries k entry is place new in
      let count : times (Ref r) (flat_map entry_sources entries) ≡ count_by (same_register (Ref r)) (flat_map entry_sources entries) = times_is (Ref r) (flat_map entry_sources entries) in
      let more : 2 ≤ count_by (same_register (Ref r)) (flat_map entry_sources entries) = omega (arith, many, count) in
      let test : (count_by (same_register (Ref r)) (flat_map entry_sources entries) == 1) ≡ false = grind (arith, nat_tests, more) in
      ap (λ (b : Bool). b && true) test

pub object_openly : (r f : ℕ) (entries : List CasEntry) (k : ℕ) (entry : CasEntry) → slice_get entries k ≡ Some entry → entry.place ≡ places.Field (Ref r) f → IsTrue (reads_openly (Ref r) (instr.Commit entries))
object_openly r f entries k entry is place =
    let read : reads (Ref r) (instr.Commit entries) ≡ true = reads_entry (instr.Commit entries) k entry (Ref r) is (any_before (same_register (Ref r)) (operands_of entry) (registers_named entry.retire) (object_is (Ref r) f entry place)) in
    ap (λ (b : Bool). b && not (is_given_once (Ref r) entries)) read ∙ ap not (not_given r f entries k entry is place)
