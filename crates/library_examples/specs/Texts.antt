-- What the examples say of bytes that spell texts and targets.
use Rattle.std.specs.Prelude.{◌≡◌, ℕ, List, Result, Ok, Err}
use Rattle.norm_lang.specs.declared.text.Text.{Text}
use Rattle.norm_lang.specs.Grammar.{Grammar, text_read}
use Rattle.norm_lang.specs.NormalForm.{IsNormal}
use Rattle.norm_parser.specs.FaultShown.{fault_shown}
use Rattle.norm_check.specs.declared.refusal.Refusal.{Refusal}
use Rattle.norm_check.specs.declared.normal.Normal.{Normal}
use Rattle.norm_check.specs.Refusals.{IsRefused}
use Rattle.target_code.specs.declared.target.Target.{Target}
use Rattle.target_code.specs.Barred.{IsBarred, IsFirstFlaw}
use Rattle.target_code.specs.SecondScheme.{second_scheme}
use Rattle.target_reader.specs.TargetGrammar.{Spells, target_read}
use Rattle.barrier_check.specs.declared.barred.Barred.{Barred}
use Rattle.barrier_check.specs.declared.flaw.Flaw.{Flaw}
use Rattle.barrier_check.specs.FlawsTold.{flaw_of}
use Rattle.library_examples.specs.declared.texts.TextProblem.{TextProblem}
use Rattle.library_examples.specs.declared.texts.TextProblem.TheVariants as texts
use Rattle.library_examples.specs.declared.texts.TargetProblem.{TargetProblem}
use Rattle.library_examples.specs.declared.texts.TargetProblem.TheVariants as targets

-- the text itself if it is normal, and otherwise the first rule that it breaks; memory may run out before
abbrev pub IsJudgedText : Text → Result Normal TextProblem → Type 0
IsJudgedText text (Ok normal) = (normal ≡ text) × IsNormal text
IsJudgedText text (Err texts.Memory) = Unit {0}
IsJudgedText text (Err (texts.Fault fault)) = ⊥
IsJudgedText text (Err (texts.Refused refusal)) = IsRefused text refusal

-- the bytes spell this text, and it is in normal form
pub record IsNormalTextOf (bytes : List ℕ) (text : Text) : Type 0 where
  pub spelled : Grammar bytes text
  pub normal : IsNormal text

-- the bytes spell a text, of which this is the first rule that it breaks
pub record IsRefusedIn (bytes : List ℕ) (refusal : Refusal) : Type 0 where
  pub text : Text
  pub spelled : Grammar bytes text
  pub refused : IsRefused text refusal

-- why bytes give no text in normal form; memory may run out before
abbrev pub IsTextProblem : List ℕ → TextProblem → Type 0
IsTextProblem bytes texts.Memory = Unit {0}
IsTextProblem bytes (texts.Fault fault) = text_read bytes ≡ Err (fault_shown fault)
IsTextProblem bytes (texts.Refused refusal) = IsRefusedIn bytes refusal

-- what the second scheme makes of the text that the bytes spell, which is in normal form; it is barred for it
pub record IsBarredFor (bytes : List ℕ) (code : Barred) : Type 0 where
  pub source : IsNormalTextOf bytes code.source
  pub compiled : code.target ≡ second_scheme code.source
  pub barred : IsBarred code.target code.source

-- the bytes spell this target, which is barred for the text
pub record IsVerifiedAs (bytes : List ℕ) (text : Text) (code : Barred) : Type 0 where
  pub spelled : Spells bytes code.target
  pub source : code.source ≡ text
  pub barred : IsBarred code.target text

-- the bytes spell a target, of which this is the first flaw
pub record IsFlawedIn (bytes : List ℕ) (text : Text) (flaw : Flaw) : Type 0 where
  pub target : Target
  pub spelled : Spells bytes target
  pub flawed : IsFirstFlaw target text (flaw_of flaw)

-- why bytes give no target that is barred for the text; memory may run out before
abbrev pub IsTargetProblem : List ℕ → Text → TargetProblem → Type 0
IsTargetProblem bytes text targets.Memory = Unit {0}
IsTargetProblem bytes text (targets.Fault fault) = target_read bytes ≡ Err (fault_shown fault)
IsTargetProblem bytes text (targets.Flawed flaw) = IsFlawedIn bytes text flaw
