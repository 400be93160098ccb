pub mod CodeRead
pub mod DeclarationLimits
pub mod Declared
pub mod DraftLimits
pub mod FewDeclared
pub mod FieldGroups
pub mod InstrLimits
pub mod InTurn
pub mod InstrsRead
pub mod LineLimits
pub mod LinesSpelled
pub mod OneText
pub mod OpsRead
pub mod Readings
pub mod SpelledFolds
pub mod SpelledWords
pub mod SpellingStands
pub mod TextRead
pub mod WithinLimits
pub mod WordsRead
pub mod WordsSaid
pub mod InstrsSaid
pub mod DeclarationsSaid
pub mod DraftSaid
pub mod TextsSaid
pub mod LinesAndWordsAre
mod WorkedKinds
mod WorkedTexts
mod WrittenOut
