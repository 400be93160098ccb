-- What contracts see of the values that readers pass on.
use Rattle.norm_lang.specs.LineWords.{Holding, OfNumbers, OfNodes, StartWord, Value, Null, At}
use Rattle.line_words.specs.declared.words.Holding.{Holding as ReadHolding}
use Rattle.line_words.specs.declared.words.Holding.TheVariants as held
use Rattle.line_words.specs.declared.words.StartWord.{StartWord as ReadStart}
use Rattle.line_words.specs.declared.words.StartWord.TheVariants as read

-- a first value as it is spelled
abbrev pub start_shown : ReadStart → StartWord
start_shown (read.Value n) = Value n
start_shown read.Null = Null
start_shown (read.At j) = At j

-- what a field or a root holds, as it is spelled
abbrev pub holding_shown : ReadHolding → Holding
holding_shown held.Numbers = OfNumbers
holding_shown (held.Nodes owner) = OfNodes owner
