-- Where local code settles, without a bound.
use Rattle.std.specs.Prelude.{◌≡◌, ℕ, zero, suc, ◌<◌, Bool, true, false, ◌||◌, List, length, Option, Some, None, slice_get, IsTrue, IsSomeAnd}
use Rattle.norm_lang.specs.declared.text.Instr.{Instr}
use Rattle.norm_lang.specs.declared.text.Instr.TheVariants as instr
use Rattle.norm_lang.specs.declared.text.Op.{Op}
use Rattle.norm_lang.specs.declared.text.Text.{Text}
use Rattle.norm_lang.specs.Local.{Spot, go_on, local_at, local_run}
use Rattle.norm_lang.specs.Flow.{IsCycle, goes_to, is_end}
use Rattle.norm_lang.specs.PathRules.{is_blind, is_commit}
use Rattle.norm_lang.specs.Kept.{code_of}
use Rattle.norm_lang.specs.NormalForm.{IsNormal}

-- at most so many steps from a spot: where they lead, or where no step is left
abbrev pub run_by : (Spot → Option Spot) → ℕ → Spot → Spot
run_by step zero here = here
run_by step (suc n) here = go_on (step here) here (run_by step n)

-- steps from a spot settle at another, from which no step leads; no bound is named
pub data SettlesBy (step : Spot → Option Spot) : Spot → Spot → Type 0 where
  rests : (here : Spot) → step here ≡ None → SettlesBy step here here
  goes_on : (here next there : Spot) → step here ≡ Some next → SettlesBy step next there → SettlesBy step here there

-- what the instruction at a spot does, if it is local
abbrev pub next_spot : List Instr → Spot → Option Spot
next_spot code here = local_at (slice_get code here.at) here.at here.registers

-- local code settles: at an instruction that isn't local, or past the method's end
abbrev pub Settles : List Instr → Spot → Spot → Type 0
Settles code = SettlesBy (next_spot code)

-- no cycle of a method is without a load or an auxiliary exchange: the rule N7 for all of its instructions
abbrev pub HasNoBlindCycle : List Instr → Type 0
HasNoBlindCycle code = (at : ℕ) (path : List ℕ) → IsCycle code path at → ¬ IsTrue (is_blind code path)

-- each successor by form of an instruction of a method is in the method: the rules N8 and N13 for all of its instructions
abbrev pub StaysInside : List Instr → Type 0
StaysInside code = (at to : ℕ) (i : Instr) → slice_get code at ≡ Some i → IsTrue (goes_to i at to) → to < length code

-- an instruction accesses shared memory: a load, a `new`, a put or an auxiliary exchange
abbrev pub is_access : Instr → Bool
is_access (instr.LoadRoot d x) = true
is_access (instr.LoadPick d x n a) = true
is_access (instr.LoadField d a f) = true
is_access (instr.New d kind) = true
is_access (instr.Put a f b) = true
is_access (instr.Cas entry l) = true
is_access _ = false

-- local code may stop at an instruction: of a generator at an access or a commit, of a wrap-up (`true`) at an access or an end
abbrev pub may_stop : Bool → Instr → Bool
may_stop false i = is_access i || is_commit i
may_stop true i = is_access i || is_end i

-- so it is in each method of a text in normal form
abbrev pub MethodsHaveNoBlindCycle : Type 0
MethodsHaveNoBlindCycle = (text : Text) (number : ℕ) (op : Op) (wrapup : Bool) → IsNormal text → slice_get text.ops number ≡ Some op → HasNoBlindCycle (code_of op wrapup)

abbrev pub MethodsStayInside : Type 0
MethodsStayInside = (text : Text) (number : ℕ) (op : Op) (wrapup : Bool) → IsNormal text → slice_get text.ops number ≡ Some op → StaysInside (code_of op wrapup)

-- code without such a cycle settles from every spot, within as many steps as it has instructions: the bound is never why it
-- stops. It doesn't matter whether its other jumps lead back
abbrev pub CodeSettles : Type 0
CodeSettles = (code : List Instr) → HasNoBlindCycle code → (here : Spot) → Settles code here (local_run code (length code) here)

-- so does local code of a method in normal form
abbrev pub LocalCodeSettles : Type 0
LocalCodeSettles =
    (text : Text) (number : ℕ) (op : Op) (wrapup : Bool) → IsNormal text → slice_get text.ops number ≡ Some op
    → (here : Spot) → Settles (code_of op wrapup) here (local_run (code_of op wrapup) (length (code_of op wrapup)) here)

-- local code settles at one spot alone
abbrev pub SettlesOnce : Type 0
SettlesOnce = (code : List Instr) (here one other : Spot) → Settles code here one → Settles code here other → one ≡ other

-- from a place of a method in normal form, local code settles at an instruction of the method, and at one where it may stop
abbrev pub SettlesInside : Type 0
SettlesInside =
    (text : Text) (number : ℕ) (op : Op) (wrapup : Bool) → IsNormal text → slice_get text.ops number ≡ Some op
    → (here there : Spot) → here.at < length (code_of op wrapup) → Settles (code_of op wrapup) here there
    → IsSomeAnd (slice_get (code_of op wrapup) there.at) (λ i. IsTrue (may_stop wrapup i))
