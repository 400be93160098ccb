-- What is told says the same.
use Rattle.std.proofs.Common.{◌≡◌, Option, Some, refl, sym, subst}
use Rattle.norm_lang.specs.declared.reply.SourceReply.{SourceReply}
use Rattle.caller_parts.specs.declared.call.Call.{Call}
use Rattle.caller_steps.specs.Entries.{Entry}
use Rattle.word_runner.specs.declared.caller.Outcome.{Outcome}
use Rattle.word_runner.specs.declared.caller.Outcome.TheVariants as outcomes
use Rattle.word_runner.specs.Outcome.{Replies, answer_of}
use Rattle.epoch_runner.specs.declared.caller.EpochOutcome.{EpochOutcome}
use Rattle.epoch_runner.specs.Outcomes.{epoch_answer_of, epoch_told}

same : (o : Outcome) → epoch_answer_of (epoch_told o) ≡ answer_of o
same (outcomes.Replied (Some n)) = refl
same _ = refl

pub replies_told : (e : Entry) (call : Call) (o : Outcome) (e' : Entry) (told : EpochOutcome) → told ≡ epoch_told o → Replies e call (answer_of o) e' → Replies e call (epoch_answer_of told) e'
replies_told e call o e' told is replied =
    subst (λ (t : EpochOutcome). Replies e call (epoch_answer_of t) e') (sym is) (subst (λ (r : Option SourceReply). Replies e call r e') (sym (same o)) replied)
