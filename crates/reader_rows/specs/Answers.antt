-- What rows on rules and on flaws answer: the rule's or the flaw's word.
use Rattle.std.specs.Prelude.{◌≡◌, ◌↔◌, ℕ, Bool, true, false, List, [], ◌∷◌, ◌++◌, length, Option, Some, None, ◌==◌, codes, if◌then◌else◌, slice_get, slice_index_or, IsTrue}
use Rattle.norm_lang.specs.declared.text.Instr.{Instr}
use Rattle.norm_lang.specs.declared.text.Op.{Op}
use Rattle.norm_lang.specs.declared.text.Text.{Text}
use Rattle.norm_lang.specs.InstructionRules.{has_wrong_kind, computes_on_reference, has_wrong_end, has_wrong_retire, has_wrong_range}
use Rattle.norm_lang.specs.PathRules.{MakesNodesAgain, HasWrongPut, ShowsFresh, LeaksFresh, LoopsBlindly, SetsKept, FollowsKept, ExchangesKept, ReadsUnset}
use Rattle.norm_lang.specs.Kept.{code_of}
use Rattle.norm_paths.specs.declared.method.OpFacts.{OpFacts}
use Rattle.norm_paths.specs.Found.{IsOpWithin}
use Rattle.norm_paths.specs.OpFound.{AreOpFacts}
use Rattle.target_code.specs.declared.target.TargetInstr.{TargetInstr}
use Rattle.target_code.specs.TargetLimits.{is_target_instr}
use Rattle.target_flaws.specs.declared.needs.Needs.{Needs}
use Rattle.target_flaws.specs.Needs.{AreNeeds}
use Rattle.target_flaws.specs.FlawAnswers.{AreFlawAnswers}
use Rattle.reader_rows.specs.declared.row.Judge.{Judge}
use Rattle.reader_rows.specs.declared.row.Judge.TheVariants as judges

-- ---- names in a row

-- a space after the names so far, if there are any
abbrev pub spaced : List ℕ → List ℕ
spaced row = if length row == 0 then row else row ++ 32 ∷ []

-- one more name, if the answer is yes
abbrev pub with_answer : List ℕ → List ℕ → Bool → List ℕ
with_answer row name true = spaced row ++ name
with_answer row name false = row

-- after the names so far those with the answer yes
abbrev pub names_after : List ℕ → List (List ℕ) → List Bool → List ℕ
names_after row [] answers = row
names_after row (name ∷ names) [] = row
names_after row (name ∷ names) (answer ∷ answers) = names_after (with_answer row name answer) names answers

-- `none`, if there are no names
abbrev pub or_none : List ℕ → List ℕ
or_none row = if length row == 0 then row ++ codes "none" else row

-- the names with the answer yes, in their order
abbrev pub listed : List (List ℕ) → List Bool → List ℕ
listed names answers = or_none (names_after [] names answers)

-- ---- a rule that looks at an instruction alone

-- whether the instruction breaks it; the rules over paths and the flaws are judged elsewhere
abbrev pub is_wrong : Judge → Text → Bool → ℕ → ℕ → Instr → Option Bool
is_wrong judges.Kind text wrapup count at i = Some (has_wrong_kind text.fields text.roots i)
is_wrong judges.Computes text wrapup count at i = Some (computes_on_reference i)
is_wrong judges.End text wrapup count at i = Some (has_wrong_end wrapup i at count)
is_wrong judges.Retire text wrapup count at i = Some (has_wrong_retire i)
is_wrong judges.Range text wrapup count at i = Some (has_wrong_range text.roots i count)
is_wrong judges.Paths text wrapup count at i = None
is_wrong judges.Flaws text wrapup count at i = None
is_wrong judges.CarriedFlaws text wrapup count at i = None

abbrev pub wrong_at : Judge → Text → Bool → List Instr → ℕ → Option Instr → Option Bool
wrong_at judge text wrapup code at None = None
wrong_at judge text wrapup code at (Some i) = is_wrong judge text wrapup (length code) at i

-- the word for it
abbrev pub verdict : Bool → List ℕ
verdict true = codes "wrong"
verdict false = codes "right"

-- ---- the rules over paths

-- which of them an instruction breaks, in the order of their numbers
pub record AreBroken (op : Op) (wrapup : Bool) (at : ℕ) (i : Instr) (broken : List Bool) : Type 0 where
  pub n3 : IsTrue (slice_index_or broken 0 false) ↔ MakesNodesAgain op wrapup at i
  pub n4 : IsTrue (slice_index_or broken 1 false) ↔ HasWrongPut op wrapup at i
  pub n5 : IsTrue (slice_index_or broken 2 false) ↔ ShowsFresh op wrapup at i
  pub n6 : IsTrue (slice_index_or broken 3 false) ↔ LeaksFresh op wrapup at i
  pub n7 : IsTrue (slice_index_or broken 4 false) ↔ LoopsBlindly op wrapup at i
  pub n9 : IsTrue (slice_index_or broken 5 false) ↔ SetsKept op wrapup at i
  pub n10 : IsTrue (slice_index_or broken 6 false) ↔ FollowsKept op wrapup at i
  pub n11 : IsTrue (slice_index_or broken 7 false) ↔ ExchangesKept op wrapup at i
  pub n14 : IsTrue (slice_index_or broken 8 false) ↔ ReadsUnset op wrapup at i

-- which of them an instruction breaks at its place in every operation of which this was found out
abbrev pub AreBrokenBy : OpFacts → Bool → ℕ → Instr → List Bool → Type 0
AreBrokenBy facts wrapup at i broken = (op : Op) → IsOpWithin op → AreOpFacts op facts → slice_get (code_of op wrapup) at ≡ Some i → AreBroken op wrapup at i broken

abbrev pub path_rules : List (List ℕ)
path_rules = codes "N3" ∷ codes "N4" ∷ codes "N5" ∷ codes "N6" ∷ codes "N7" ∷ codes "N9" ∷ codes "N10" ∷ codes "N11" ∷ codes "N14" ∷ []

-- the answer has the names of those that the instruction breaks
pub record IsPathAnswer (op : Op) (wrapup : Bool) (at : ℕ) (answer : List ℕ) : Type 0 where
  pub instr : Instr
  pub stands : slice_get (code_of op wrapup) at ≡ Some instr
  pub broken : List Bool
  pub breaks : AreBroken op wrapup at instr broken
  pub names : answer ≡ listed path_rules broken

-- ---- flaws

-- what a wrap-up uses of what its generator leaves: nothing, or `n1` and `r3`
abbrev pub needs_of : Bool → Needs
needs_of false = record {
  handed_over = false ∷ false ∷ false ∷ false ∷ false ∷ false ∷ false ∷ false ∷ [];
  kept = false ∷ false ∷ false ∷ false ∷ false ∷ false ∷ false ∷ false ∷ [];
}
needs_of true = record {
  handed_over = false ∷ true ∷ false ∷ false ∷ false ∷ false ∷ false ∷ false ∷ [];
  kept = false ∷ false ∷ false ∷ true ∷ false ∷ false ∷ false ∷ false ∷ [];
}

-- the instruction stands there, and for every operation within the limits that needs so much the answers say which flaws it has, if it is
-- within the limits
abbrev pub AreFlaws : Needs → Bool → List TargetInstr → ℕ → TargetInstr → List Bool → Type 0
AreFlaws needs wrapup code at i answers =
    (slice_get code at ≡ Some i)
    × ((source : Op) (kinds fields roots : ℕ) → IsOpWithin source → IsTrue (is_target_instr kinds fields roots i) → AreNeeds source needs → AreFlawAnswers source wrapup code at i answers)

abbrev pub flaw_names : List (List ℕ)
flaw_names = codes "unchecked" ∷ codes "unguarded" ∷ codes "late" ∷ codes "dropped" ∷ []

-- the answer has the names of those that the instruction has
pub record IsFlawsAnswer (needs : Needs) (wrapup : Bool) (code : List TargetInstr) (at : ℕ) (answer : List ℕ) : Type 0 where
  pub instr : TargetInstr
  pub found : List Bool
  pub flaws : AreFlaws needs wrapup code at instr found
  pub names : answer ≡ listed flaw_names found
