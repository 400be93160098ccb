-- What an outcome says.
use Rattle.std.specs.Prelude.{Option, Some, None}
use Rattle.norm_lang.specs.declared.reply.SourceReply.{SourceReply}
use Rattle.norm_lang.specs.declared.reply.SourceReply.TheVariants as replies
use Rattle.word_runner.specs.declared.caller.Outcome.{Outcome}
use Rattle.word_runner.specs.declared.caller.Outcome.TheVariants as outcomes
use Rattle.epoch_runner.specs.declared.caller.EpochOutcome.{EpochOutcome}
use Rattle.epoch_runner.specs.declared.caller.EpochOutcome.TheVariants as epochs

-- the reply for which an outcome stands; none at `Spent`
abbrev pub epoch_answer_of : EpochOutcome → Option SourceReply
epoch_answer_of (epochs.Replied (Some n)) = Some (replies.Number n)
epoch_answer_of (epochs.Replied None) = Some replies.Nothing
epoch_answer_of epochs.Full = Some replies.Full
epoch_answer_of (epochs.PhasesOver p) = Some (replies.Phases p)
epoch_answer_of epochs.Spent = None

-- what a caller of the shared table is told
abbrev pub epoch_told : Outcome → EpochOutcome
epoch_told (outcomes.Replied number) = epochs.Replied number
epoch_told outcomes.Full = epochs.Full
epoch_told (outcomes.PhasesOver p) = epochs.PhasesOver p
epoch_told outcomes.Spent = epochs.Spent
