-- What holds of targets that bytes spell.
use Rattle.target_code.specs.declared.target.Target.{Target}
use Rattle.target_code.specs.TargetSpelling.{target_spelling}
use Rattle.target_code.specs.TargetLimits.{IsTargetWithinLimits}
use Rattle.target_reader.specs.TargetGrammar.{Spells}

-- the spelling of a target within the limits spells it
abbrev pub SpellingsSpell : Type 0
SpellingsSpell = (target : Target) → IsTargetWithinLimits target → Spells (target_spelling target) target
