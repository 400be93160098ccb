-- What registers hold, along a method run: names that it got, or those of its start.
use Rattle.std.proofs.Common.{◌≡◌, ℕ, zero, suc, ◌⊎◌, inl, inr, Bool, true, false, ◌||◌, List, [], ◌∷◌, Some, refl, sym, ap, subst, ◌∙◌}
use Rattle.std.specs.Prelude.{slice_get, IsTrue, ◌==◌}
use Rattle.std.proofs.lemmas.Bool.{or_parts, or_cases, or_left, or_right}
use Rattle.norm_lang.specs.declared.text.Reg.{Reg}
use Rattle.norm_lang.specs.declared.text.Reg.TheVariants.{Num, Ref}
use Rattle.norm_lang.specs.declared.text.FieldDecl.{FieldDecl}
use Rattle.norm_lang.specs.declared.text.RootDecl.{RootDecl}
use Rattle.norm_lang.specs.declared.text.Instr.{Instr}
use Rattle.norm_lang.specs.declared.text.Instr.TheVariants as instr
use Rattle.norm_lang.specs.declared.text.Text.{Text}
use Rattle.norm_lang.specs.declared.registers.Registers.{Registers}
use Rattle.norm_lang.specs.Flow.{passed}
use Rattle.norm_lang.specs.InstructionRules.{has_wrong_kind}
use Rattle.norm_lang.specs.Kept.{code_of, IsCarried}
use Rattle.norm_lang.specs.Local.{Spot, local_step}
use Rattle.norm_lang.specs.PathRules.{follows}
use Rattle.norm_lang.specs.RegisterUse.{same_register, set_after, destination, sets, reads, reads_at, ComesUnset}
use Rattle.norm_lang.specs.Registers.{node_in}
use Rattle.source_machine.specs.MethodRuns.{with_name}
use Rattle.source_machine.specs.Proper.{has}
use Rattle.source_machine.proofs.Places.{same_test}
use Rattle.target_code.specs.declared.target.TargetInstr.TheVariants.{Plain, Check, Guard}
use Rattle.target_code.specs.declared.target.Target.{Target}
use Rattle.target_code.specs.Erasing.{source_place}
use Rattle.target_code.specs.Paths.{TargetPath}
use Rattle.target_laws.specs.Methods.{Method, code_in, source_in}
use Rattle.target_code.specs.PathStates.{over_plain, is_set_along}
use Rattle.target_laws.specs.Places.{source_path}
use Rattle.target_laws.proofs.InText.{paths_are_in_text, set_in_source}
use Rattle.target_laws.proofs.KeptRules.{kept_are_left}
use Rattle.target_laws.proofs.Redirected.{reads_redirected}
use Rattle.run_ahead.specs.Agreeing.{Changes}
use Rattle.run_ahead.specs.Ahead.{IsErased}
use Rattle.run_ahead.specs.Known.{IsGot, is_set_in, AreGot}
use Rattle.run_ahead.proofs.Plain.{at_place, kind_right}
use Rattle.closed_tables.proofs.Tests.{other_holds}

-- ---- lists of names

-- a name that is got
pub given_got : (n : ℕ) (got : List ℕ) → IsGot (with_name n got) n
given_got zero got = inl refl
given_got (suc n) got = inr (or_left (suc n == suc n) (has (suc n) got) (same_test (suc n)))

-- others stay
pub more_got : (m : ℕ) (got : List ℕ) (n : ℕ) → IsGot got n → IsGot (with_name m got) n
more_got zero got n was = was
more_got (suc m) got n (inl null) = inl null
more_got (suc m) got n (inr among) = inr (or_right (suc m == n) (has n got) among)

-- ---- an instruction of the source

set_after_plain : {target : Target} {text : Text} (method : Method target text) (path : List ℕ) (at : ℕ) (i : Instr) (r : ℕ) → slice_get (code_in method) at ≡ Some (Plain i) → is_set_in method (at ∷ path) r ≡ (sets (Ref r) i || is_set_in method path r)
set_after_plain method path at i r is = ap (λ o. passed (over_plain (set_after (Ref r))) o (is_set_in method path r)) is

-- the name that it puts is got
pub plain_got : {target : Target} {text : Text} (method : Method target text) (home : ℕ → ℕ) (Set : Type 0 → Type 0) (path : List ℕ) (at : ℕ) (i : Instr) (given : ℕ) (here mirror here' mirror' started : Registers) (got got' : List ℕ)
    → slice_get (code_in method) at ≡ Some (Plain i) → Changes home Set (destination i) given here mirror here' mirror'
    → ((r : ℕ) → IsTrue (sets (Ref r) i) → IsGot got' given) → ((n : ℕ) → IsGot got n → IsGot got' n) → AreGot method path started mirror got → AreGot method (at ∷ path) started mirror' got'
plain_got method home Set path at i given here mirror here' mirror' started got got' is changes given_is more a = record {
  set = λ r was_set. by_set r (sets (Ref r) i) refl (sym (set_after_plain method path at i r is) ∙ was_set);
  unset = λ r unset. (let parts = or_parts (sets (Ref r) i) (is_set_in method path r) (sym (set_after_plain method path at i r is) ∙ unset) in changes.leaves r parts.0 ∙ a.unset r parts.1);
}
  where
    by_set : (r : ℕ) (b : Bool) → sets (Ref r) i ≡ b → (sets (Ref r) i || is_set_in method path r) ≡ true → IsGot got' (node_in mirror' r)
    by_set r true named was = elim (changes.gives r named) [ inl null ↦ inl null | inr same ↦ subst (IsGot got') (sym same) (given_is r named) ]
    by_set r false named was = subst (IsGot got') (sym (changes.leaves r named)) (more (node_in mirror r) (a.set r (other_holds (sets (Ref r) i) (is_set_in method path r) was named)))

-- ---- a local instruction

-- one that sets a reference and reads one copies it
copies : (fields : List FieldDecl) (roots : List RootDecl) (i : Instr) (at : ℕ) (registers : Registers) (next : Spot) (d a : ℕ) → has_wrong_kind fields roots i ≡ false → local_step i at registers ≡ Some next
    → IsTrue (sets (Ref d) i) → IsTrue (reads (Ref a) i) → IsTrue (follows (Ref a) i)
copies fields roots (instr.Mov e b) at registers next d a kind step set read = elim (or_cases (same_register (Ref a) b) false read) [ inl same ↦ same | inr other ↦ absurd (let never : false ≡ true = other in cc) ]
copies fields roots (instr.Mark e b) at registers next d a kind step set read = elim (or_cases (same_register (Ref a) b) false read) [ inl same ↦ same | inr other ↦ absurd (let never : false ≡ true = other in cc) ]
copies fields roots (instr.Unmark e b) at registers next d a kind step set read = elim (or_cases (same_register (Ref a) b) false read) [ inl same ↦ same | inr other ↦ absurd (let never : false ≡ true = other in cc) ]
copies fields roots (instr.Add (Num e) b c) at registers next d a kind step set read = absurd (let no : false ≡ true = set in cc)
copies fields roots (instr.Sub (Num e) b c) at registers next d a kind step set read = absurd (let no : false ≡ true = set in cc)
copies fields roots (instr.Rem (Num e) b n) at registers next d a kind step set read = absurd (let no : false ≡ true = set in cc)
copies fields roots _ at registers next d a kind step set read = absurd cc

-- what is read at a place of the target and wasn't set on the path is so in the text
read_unset : {target : Target} {text : Text} (method : Method target text) → IsErased target text → (path : List ℕ) (at : ℕ) (i : Instr) (r : Reg) → TargetPath (code_in method) path at
    → slice_get (code_in method) at ≡ Some (Plain i) → IsTrue (reads r i) → is_set_along (code_in method) path r false ≡ false
    → (place : ℕ) × IsTrue (reads_at r (slice_get (source_in method) place)) × ComesUnset (source_in method) r place
read_unset {target = target} {text = text} method erased path at i r leads is read unset =
    let place = source_place (code_in method) in
    let here : IsTrue (reads_at r (slice_get (source_in method) (place at))) = subst (λ o. IsTrue (reads_at r o)) (sym (at_place method erased at (Plain i) is).0) (reads_redirected r place i ∙ read) in
    (place at, here, (source_path (code_in method) path, paths_are_in_text target text erased.normal erased.erases method path at leads, set_in_source erased.erases method path r false ∙ unset))

pub carried_where_read : {target : Target} {text : Text} (method : Method target text) → IsErased target text → (path : List ℕ) (at : ℕ) (i : Instr) (r : Reg) → method.wrapup ≡ true → TargetPath (code_in method) path at
    → slice_get (code_in method) at ≡ Some (Plain i) → IsTrue (reads r i) → is_set_along (code_in method) path r false ≡ false → IsCarried method.op r
carried_where_read method erased path at i r wrapup leads is read unset =
    subst (λ b. (place : ℕ) × IsTrue (reads_at r (slice_get (code_of method.op b) place)) × ComesUnset (code_of method.op b) r place) wrapup (read_unset method erased path at i r leads is read unset)

-- a register that is copied holds null or a name that the run got: a wrap-up copies no kept register
pub copied_got : {target : Target} {text : Text} (method : Method target text) → IsErased target text → (path : List ℕ) (at : ℕ) (i : Instr) (started mirror : Registers) (got : List ℕ) (r : ℕ) → TargetPath (code_in method) path at
    → slice_get (code_in method) at ≡ Some (Plain i) → IsTrue (reads (Ref r) i) → IsTrue (follows (Ref r) i) → (method.wrapup ≡ false → (r : ℕ) → node_in started r ≡ 0) → AreGot method path started mirror got → IsGot got (node_in mirror r)
copied_got {target = target} {text = text} method erased path at i started mirror got r leads is read followed null a = by_set (is_set_in method path r) refl
  where
    by_method : (b : Bool) → method.wrapup ≡ b → is_set_in method path r ≡ false → IsGot got (node_in mirror r)
    by_method false generator unset = inl (a.unset r unset ∙ null generator r)
    by_method true wrapup unset =
        let left = kept_are_left target text erased.normal erased.erases method at i (Ref r) wrapup is (refl, carried_where_read method erased path at i (Ref r) wrapup leads is read unset) in
        absurd (let never : true ≡ false = sym followed ∙ left.1 in cc)

    by_set : (b : Bool) → is_set_in method path r ≡ b → IsGot got (node_in mirror r)
    by_set true was = a.set r was
    by_set false was = by_method method.wrapup refl was

-- so it gets no name
pub local_got : {target : Target} {text : Text} (method : Method target text) → IsErased target text → (home : ℕ → ℕ) (Set : Type 0 → Type 0) (path : List ℕ) (at : ℕ) (i : Instr) (given : ℕ) (here mirror here' mirror' started : Registers) (got : List ℕ) (next : Spot)
    → TargetPath (code_in method) path at → slice_get (code_in method) at ≡ Some (Plain i) → local_step i at here ≡ Some next → Changes home Set (destination i) given here mirror here' mirror'
    → (given ≡ 0) ⊎ ((r : ℕ) × IsTrue (reads (Ref r) i) × (node_in mirror r ≡ given)) → (method.wrapup ≡ false → (r : ℕ) → node_in started r ≡ 0)
    → AreGot method path started mirror got → AreGot method (at ∷ path) started mirror' got
local_got {text = text} method erased home Set path at i given here mirror here' mirror' started got next leads is step changes known null a =
    plain_got method home Set path at i given here mirror here' mirror' started got got is changes given_is (λ n was. was) a
  where
    given_is : (r : ℕ) → IsTrue (sets (Ref r) i) → IsGot got given
    given_is r set = elim known [
      | inl zero_is ↦ inl zero_is
      | inr read ↦ subst (IsGot got) read.2 (copied_got method erased path at i started mirror got read.0 leads is read.1 (copies text.fields text.roots i at here next r read.0 (kind_right method erased at i is) step set read.1) null a)
    ]

-- ---- what sets nothing

still_got : {target : Target} {text : Text} (method : Method target text) (path path' : List ℕ) (started mirror : Registers) (got : List ℕ) → ((r : ℕ) → is_set_in method path' r ≡ is_set_in method path r)
    → AreGot method path started mirror got → AreGot method path' started mirror got
still_got method path path' started mirror got same a = record { set = λ r was. a.set r (sym (same r) ∙ was); unset = λ r was. a.unset r (sym (same r) ∙ was) }

pub check_got : {target : Target} {text : Text} (method : Method target text) (path : List ℕ) (at : ℕ) (started mirror : Registers) (got : List ℕ) → slice_get (code_in method) at ≡ Some Check
    → AreGot method path started mirror got → AreGot method (at ∷ path) started mirror got
check_got method path at started mirror got is a = still_got method path (at ∷ path) started mirror got (λ r. ap (λ o. passed (over_plain (set_after (Ref r))) o (is_set_in method path r)) is) a

pub guard_got : {target : Target} {text : Text} (method : Method target text) (path : List ℕ) (at : ℕ) (guarded : Reg) (started mirror : Registers) (got : List ℕ) → slice_get (code_in method) at ≡ Some (Guard guarded)
    → AreGot method path started mirror got → AreGot method (at ∷ path) started mirror got
guard_got method path at guarded started mirror got is a = still_got method path (at ∷ path) started mirror got (λ r. ap (λ o. passed (over_plain (set_after (Ref r))) o (is_set_in method path r)) is) a

-- ---- where a run begins

pub start_got : {target : Target} {text : Text} (method : Method target text) (started : Registers) → AreGot method [] started started []
start_got method started = record { set = λ r was. absurd (let no : false ≡ true = was in cc); unset = λ r was. refl }
