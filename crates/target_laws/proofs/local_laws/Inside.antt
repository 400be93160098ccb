-- Control stays inside a method of a text in normal form, and local code stops where a machine knows how to go on.
use Rattle.std.proofs.Common.{◌≡◌, ℕ, zero, suc, ◌+◌, ◌<◌, Bool, true, false, ◌&&◌, ◌||◌, List, [], ◌∷◌, length, Option, Some, None, refl, sym, subst, arith}
use Rattle.std.specs.Prelude.{slice_get, IsTrue, IsSomeAnd, ◌==◌, nat_le}
use Rattle.std.proofs.lemmas.Bool.Decides.{nat_tests}
use Rattle.std.proofs.lemmas.Option.{slice_get_within}
use Rattle.std.proofs.lemmas.Bool.{false_from_ne_true}
use Rattle.norm_lang.specs.declared.text.RootDecl.{RootDecl}
use Rattle.norm_lang.specs.declared.text.Instr.{Instr}
use Rattle.norm_lang.specs.declared.text.Instr.TheVariants as instr
use Rattle.norm_lang.specs.declared.text.Op.{Op}
use Rattle.norm_lang.specs.declared.text.Text.{Text}
use Rattle.norm_lang.specs.declared.registers.Registers.{Registers}
use Rattle.norm_lang.specs.Local.{Spot, local_step, local_at}
use Rattle.norm_lang.specs.Flow.{goes_to, goes_from}
use Rattle.norm_lang.specs.InstructionRules.{is_end_of_other, runs_off, has_wrong_end, has_wrong_range}
use Rattle.norm_lang.specs.Kept.{code_of}
use Rattle.norm_lang.specs.NormalForm.{N8, N13, IsNormal}
use Rattle.target_laws.specs.local_laws.Settling.{next_spot, Settles, rests, goes_on, may_stop, StaysInside, MethodsStayInside, SettlesInside}
use Rattle.target_laws.proofs.local_laws.Settled.{next_goes, keeps_rule}
use Rattle.target_laws.proofs.local_laws.Bounded.{settled}

-- ---- successors

falls : (at to count : ℕ) → (((at + 1) == to) || false) ≡ true → ((((at + 1) == (at + 1)) || false) && ((at + 1) == count)) ≡ false → at < count → to < count
falls at to count goes stays lt = grind (arith, nat_tests, goes, stays, lt)

jumps : (l to count : ℕ) → ((l == to) || false) ≡ true → nat_le count l ≡ false → to < count
jumps l to count goes range = grind (arith, nat_tests, goes, range)

forks : (at l to count : ℕ) → (((at + 1) == to) || ((l == to) || false)) ≡ true → ((((at + 1) == (at + 1)) || ((l == (at + 1)) || false)) && ((at + 1) == count)) ≡ false → nat_le count l ≡ false → at < count → to < count
forks at l to count goes stays range lt = grind (arith, nat_tests, goes, stays, range, lt)

pub inside_by : (roots : List RootDecl) (i : Instr) (at to count : ℕ) → IsTrue (goes_to i at to) → runs_off i at count ≡ false → has_wrong_range roots i count ≡ false → at < count → to < count
inside_by roots (instr.Jump l) at to count goes stays range lt = jumps l to count goes range
inside_by roots (instr.IfEq a b l) at to count goes stays range lt = forks at l to count goes stays range lt
inside_by roots (instr.IfLess a b l) at to count goes stays range lt = forks at l to count goes stays range lt
inside_by roots (instr.IfMarked a l) at to count goes stays range lt = forks at l to count goes stays range lt
inside_by roots (instr.Cas entry l) at to count goes stays range lt = forks at l to count goes stays range lt
inside_by roots (instr.Commit entries) at to count goes stays range lt = absurd (let no : false ≡ true = goes in cc)
inside_by roots (instr.Return a) at to count goes stays range lt = absurd (let no : false ≡ true = goes in cc)
inside_by roots instr.ReturnNone at to count goes stays range lt = absurd (let no : false ≡ true = goes in cc)
inside_by roots instr.Again at to count goes stays range lt = absurd (let no : false ≡ true = goes in cc)
inside_by roots _ at to count goes stays range lt = falls at to count goes stays lt

or_right_false : (a b : Bool) → (a || b) ≡ false → b ≡ false
or_right_false true b is = absurd (let no : true ≡ false = is in cc)
or_right_false false b is = is

or_left_false : (a b : Bool) → (a || b) ≡ false → a ≡ false
or_left_false true b is = is
or_left_false false b is = refl

pub stays_inside : MethodsStayInside
stays_inside text number op wrapup normal is at to i there goes =
    let count = length (code_of op wrapup) in
    let ends : has_wrong_end wrapup i at count ≡ false = false_from_ne_true _ (keeps_rule text N8 number op wrapup at i normal is there) in
    let range : has_wrong_range text.roots i count ≡ false = false_from_ne_true _ (keeps_rule text N13 number op wrapup at i normal is there) in
    inside_by text.roots i at to count goes (or_right_false (is_end_of_other wrapup i) (runs_off i at count) ends) range (slice_get_within (code_of op wrapup) at i there)

-- an instruction that control goes on from
from_some : (o : Option Instr) (at to : ℕ) → IsTrue (goes_from o at to) → (i : Instr) × (o ≡ Some i) × IsTrue (goes_to i at to)
from_some None at to goes = absurd (let no : false ≡ true = goes in cc)
from_some (Some i) at to goes = (i, refl, goes)

pub stays_below : (code : List Instr) → StaysInside code → (here there : Spot) → Settles code here there → here.at < length code → there.at < length code
stays_below code inside here there (rests _ none) lt = lt
stays_below code inside here there (goes_on _ next _ is rest) lt =
    let goes = from_some (slice_get code here.at) here.at next.at (next_goes (slice_get code here.at) here.at here.registers next is).0 in
    stays_below code inside next there rest (inside here.at next.at goes.0 goes.1 goes.2)

-- ---- where it stops

-- an instruction that isn't local, and that its method may have, is one at which local code may stop
pub stops_there : (wrapup : Bool) (i : Instr) (at : ℕ) (registers : Registers) → local_step i at registers ≡ None → is_end_of_other wrapup i ≡ false → IsTrue (may_stop wrapup i)
stops_there false (instr.Commit entries) at registers none own = refl
stops_there true (instr.Return a) at registers none own = refl
stops_there true instr.ReturnNone at registers none own = refl
stops_there true instr.Again at registers none own = refl
stops_there _ (instr.LoadRoot d x) at registers none own = refl
stops_there _ (instr.LoadPick d x n a) at registers none own = refl
stops_there _ (instr.LoadField d a f) at registers none own = refl
stops_there _ (instr.New d kind) at registers none own = refl
stops_there _ (instr.Put a f b) at registers none own = refl
stops_there _ (instr.Cas entry l) at registers none own = refl
stops_there _ _ at registers none own = absurd cc

pub there_is : {X : Type 0} (xs : List X) (k : ℕ) → k < length xs → (x : X) × (slice_get xs k ≡ Some x)
there_is [] k lt = let never : ⊥ = omega arith in absurd never
there_is (x ∷ xs) zero lt = (x, refl)
there_is (x ∷ xs) (suc k) lt = let less : k < length xs = omega arith in there_is xs k less

-- an instruction of a method in normal form is none that ends the other method
pub own_end : (text : Text) (number : ℕ) (op : Op) (wrapup : Bool) (at : ℕ) (i : Instr) → IsNormal text → slice_get text.ops number ≡ Some op → slice_get (code_of op wrapup) at ≡ Some i
    → is_end_of_other wrapup i ≡ false
own_end text number op wrapup at i normal is there =
    or_left_false (is_end_of_other wrapup i) (runs_off i at (length (code_of op wrapup))) (false_from_ne_true (has_wrong_end wrapup i at (length (code_of op wrapup))) (keeps_rule text N8 number op wrapup at i normal is there))

pub settles_inside : SettlesInside
settles_inside text number op wrapup normal is here there lt settles =
    let code = code_of op wrapup in
    let inside : there.at < length code = stays_below code (stays_inside text number op wrapup normal is) here there settles lt in
    let found = there_is code there.at inside in
    let none : local_step found.0 there.at there.registers ≡ None = subst (λ o. local_at o there.at there.registers ≡ None) found.1 (settled (next_spot code) here there settles) in
    subst (λ o. IsSomeAnd o (λ i. IsTrue (may_stop wrapup i))) (sym found.1)
    (stops_there wrapup found.0 there.at there.registers none (own_end text number op wrapup there.at found.0 normal is found.1))
