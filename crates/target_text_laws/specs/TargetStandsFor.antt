-- Which bytes stand for a target, told by their lines and words, and what follows.
use Rattle.std.specs.Prelude.{◌≡◌, ◌↔◌, ℕ, List}
use Rattle.text_laws.specs.StandsFor.{ArePlain, told}
use Rattle.target_code.specs.declared.target.Target.{Target}
use Rattle.target_code.specs.TargetSpelling.{spelled_target}
use Rattle.target_code.specs.TargetLimits.{IsTargetWithinLimits}
use Rattle.target_reader.specs.TargetGrammar.{Spells}

-- each target that bytes spell is within the limits
abbrev pub TargetsAreWithin : Type 0
TargetsAreWithin = (bytes : List ℕ) (target : Target) → Spells bytes target → IsTargetWithinLimits target

-- bytes spell at most one target
abbrev pub TargetStandsForOne : Type 0
TargetStandsForOne = (bytes : List ℕ) (one other : Target) → Spells bytes one → Spells bytes other → one ≡ other

-- bytes spell a target exactly if every line is plain and short enough, the target is within the limits, and the lines
-- that aren't skipped are those of its canonical spelling, word for word
abbrev pub TargetsAreSaid : Type 0
TargetsAreSaid = (bytes : List ℕ) (target : Target) → Spells bytes target ↔ (ArePlain bytes × IsTargetWithinLimits target × (told bytes ≡ spelled_target target))
