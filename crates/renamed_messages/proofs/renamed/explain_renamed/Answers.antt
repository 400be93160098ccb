use Rattle.std.proofs.Common.{◌≡◌, ◌++◌, ◌∙◌, List, ℕ, inl, inr, refl, ap, subst}
use Rattle.oa_text.specs.Memory.{MemoryOutput}
use Rattle.oa_text.specs.Written.{Writes}
use Rattle.messages.specs.declared.turns.StoppedTurn.TheVariants.{Nowhere}
use Rattle.messages.specs.Messages.{message_for}
use Rattle.messages.specs.Remembered.{remembered}
use Rattle.renamed_messages.specs.Renamed.{renamed}
use Rattle.renamed_messages.proofs.renamed.explain_renamed.Goals as goal

pub returns-in-Ok-clause-bytes : goal.returns-in-Ok-clause-bytes
returns-in-Ok-clause-bytes g c =
    let said = c.in-Ok.ensures.bytes in
    let program = c.args.program.now in
    let message = message_for (remembered c.args.input.now) c.args.status said.0 Nowhere in
    let same : c.bytes.result.now ≡ message = c.bytes.ensures ∙ said.2 ∙ ap (λ (s : MemoryOutput). s.written ++ message) c.new-sink.ensures in (
      renamed program message,
      (said.0, said.1, inl refl),
      subst (λ (m : List ℕ). Writes (g.K.Sink.written c.args.errors.now) (g.K.Sink.written c.write_renamed.new.errors) (renamed program m) c.write_renamed.result) same c.write_renamed.ensures.bytes,
    )

pub returns-clause-bytes : goal.returns-clause-bytes
returns-clause-bytes g c =
    let said = c.explain_read-in-Err.ensures.bytes in
    (_, (said.0, said.1, inr refl), said.2)
