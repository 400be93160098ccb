-- Erasing by places: what stands in a text for what stands at a place of a target, and the text's path along which a target's
-- path leads. Nothing is said of how the target was compiled.
use Rattle.std.specs.Prelude.{◌≡◌, ℕ, ◌+◌, ◌<◌, List, [], ◌∷◌, length, Option, Some, None, slice_get, IsTrue}
use Rattle.norm_lang.specs.declared.text.Reg.{Reg}
use Rattle.norm_lang.specs.declared.text.Instr.{Instr}
use Rattle.norm_lang.specs.declared.text.Text.{Text}
use Rattle.norm_lang.specs.Flow.{Leads, state_along, IsPath, IsCycle}
use Rattle.norm_lang.specs.Freshness.{MayBeFresh, IsSurelyFresh}
use Rattle.norm_lang.specs.Limits.{IsWithinLimits}
use Rattle.norm_lang.specs.NormalForm.{IsNormal}
use Rattle.target_code.specs.declared.target.TargetInstr.{TargetInstr}
use Rattle.target_code.specs.declared.target.TargetInstr.TheVariants.{Plain, Check, Guard}
use Rattle.target_code.specs.declared.target.Target.{Target}
use Rattle.target_code.specs.Paths.{target_goes_from, IsTargetSuccessor, TargetPath}
use Rattle.target_code.specs.PathStates.{over_plain, MayBeFreshInTarget, IsSurelyFreshInTarget}
use Rattle.target_code.specs.Erasing.{source_place, redirected, ErasesTo}
use Rattle.target_laws.specs.Methods.{Method, code_in, source_in}

-- what stands in the source for the instruction that may stand at a place: a plain one stands at its source place, with its
-- jump at a source place, and what is after it is one place further; a check or a guard leaves the source place as it is
abbrev pub ErasesAt : List TargetInstr → List Instr → ℕ → Option TargetInstr → Type 0
ErasesAt code source at None = Unit {0}
ErasesAt code source at (Some (Plain i)) =
    (slice_get source (source_place code at) ≡ Some (redirected (source_place code) i)) × (source_place code (at + 1) ≡ source_place code at + 1)
ErasesAt code source at (Some Check) = source_place code (at + 1) ≡ source_place code at
ErasesAt code source at (Some (Guard r)) = source_place code (at + 1) ≡ source_place code at

-- a method of a target erases to a method of a text, place by place
abbrev pub ErasesByPlaces : List TargetInstr → List Instr → Type 0
ErasesByPlaces code source = (at : ℕ) → ErasesAt code source at (slice_get code at)

-- a path of the target, as the source's: the source places of its plain instructions
abbrev pub with_place : List TargetInstr → Option TargetInstr → ℕ → List ℕ → List ℕ
with_place code (Some (Plain i)) at path = source_place code at ∷ path
with_place code _ at path = path

abbrev pub source_path : List TargetInstr → List ℕ → List ℕ
source_path code [] = []
source_path code (last ∷ path) = with_place code (slice_get code last) last (source_path code path)

-- a cycle through an instruction of the target
abbrev pub IsTargetCycle : List TargetInstr → List ℕ → ℕ → Type 0
IsTargetCycle code [] at = ⊥
IsTargetCycle code (last ∷ path) at = Leads (IsTargetSuccessor code) at (last ∷ path) at

-- it doesn't matter to a state where jumps lead
abbrev pub IgnoresJumps : {S : Type 0} → (Instr → S → S) → Type 0
IgnoresJumps {S} after = (place : ℕ → ℕ) (i : Instr) (state : S) → after (redirected place i) state ≡ after i state

-- each method of a target that erases to a text erases to the text's, by places
abbrev pub TargetsEraseByPlaces : Type 0
TargetsEraseByPlaces = (target : Target) (text : Text) → ErasesTo target text → (method : Method target text) → ErasesByPlaces (code_in method) (source_in method)

-- and if a place's source is an instruction of the text's method, the place is one of the target's
abbrev pub SourcesAreInside : Type 0
SourcesAreInside =
    (target : Target) (text : Text) → ErasesTo target text → (method : Method target text) (at : ℕ)
    → source_place (code_in method) at < length (source_in method) → at < length (code_in method)

-- a path of a target is, with checks and guards left out, a path of the text
abbrev pub PathsAreInText : Type 0
PathsAreInText =
    (target : Target) (text : Text) → IsNormal text → ErasesTo target text → (method : Method target text) (path : List ℕ) (at : ℕ)
    → TargetPath (code_in method) path at → IsPath (source_in method) (source_path (code_in method) path) (source_place (code_in method) at)

-- to an instruction of the text, and of the target
abbrev pub PathsLeadInside : Type 0
PathsLeadInside =
    (target : Target) (text : Text) → IsWithinLimits text → IsNormal text → ErasesTo target text → (method : Method target text) (path : List ℕ) (at : ℕ)
    → TargetPath (code_in method) path at → (source_place (code_in method) at < length (source_in method)) × (at < length (code_in method))

-- if control goes on after a path, it stays inside the target's method: nothing that is reached runs off its end
abbrev pub TargetsStayInside : Type 0
TargetsStayInside =
    (target : Target) (text : Text) → IsWithinLimits text → IsNormal text → ErasesTo target text → (method : Method target text) (path : List ℕ) (at to : ℕ)
    → TargetPath (code_in method) path at → IsTrue (target_goes_from (slice_get (code_in method) at) at to) → to < length (code_in method)

-- a cycle of a target is, with checks and guards left out, a cycle of the text
abbrev pub CyclesAreInText : Type 0
CyclesAreInText =
    (target : Target) (text : Text) → IsNormal text → ErasesTo target text → (method : Method target text) (path : List ℕ) (at : ℕ)
    → IsTargetCycle (code_in method) path at → IsCycle (source_in method) (source_path (code_in method) path) (source_place (code_in method) at)

-- what becomes of a state is the same along both, be they paths or cycles
abbrev pub StatesAreSame : Type 0 → Type 0
StatesAreSame S =
    (after : Instr → S → S) → IgnoresJumps after → (target : Target) (text : Text) → ErasesTo target text → (method : Method target text) (start : S) (path : List ℕ)
    → state_along after start (source_in method) (source_path (code_in method) path) ≡ state_along (over_plain after) start (code_in method) path

-- what may be fresh in the target may be so in the text
abbrev pub FreshMayBeInText : Type 0
FreshMayBeInText =
    (target : Target) (text : Text) → IsNormal text → ErasesTo target text → (method : Method target text) (r : Reg) (at : ℕ)
    → MayBeFreshInTarget (code_in method) r at → MayBeFresh (source_in method) r (source_place (code_in method) at)

-- what is surely fresh in the text is so in the target
abbrev pub SurelyFreshInTarget : Type 0
SurelyFreshInTarget =
    (target : Target) (text : Text) → IsNormal text → ErasesTo target text → (method : Method target text) (r : Reg) (at : ℕ)
    → IsSurelyFresh (source_in method) r (source_place (code_in method) at) → IsSurelyFreshInTarget (code_in method) r at
