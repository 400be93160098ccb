-- What is said of all bytes of a source, as it is judged.
use Rattle.std.proofs.Common.{◌≡◌, ℕ, ◌+◌, ◌<◌, ◌≤◌, List, [], ◌++◌, length, Option, Some, None, ◌⊎◌, inl, inr, refl, sym, ap, subst, ◌∙◌, arith}
use Rattle.std.proofs.lemmas.List.{length-append, append-nil}
use Rattle.std.specs.Option.{unwrap_or}
use Rattle.std.specs.Io.KnownBytes.{Consumes, IsAtEnd}
use Rattle.oa_text.specs.Causes.{Rose}
use Rattle.command_input.specs.Inputs.{ReadsWithin}
use Rattle.oax_cli.specs.declared.verdict.Verdict.{Verdict}
use Rattle.oax_cli.specs.declared.verdict.Verdict.TheVariants as verdicts
use Rattle.oax_cli.specs.Telling.{NoFault}
use Rattle.oax_cli.specs.Readings.{ReadsAll, IsUnread, IsOfInput, IsOfSource}

-- why a source was not read to its end is a verdict on it
pub unread : (limit : ℕ) (Says : List ℕ → Verdict → Type 0) (old new : Option (List ℕ)) (before now : ℕ) (verdict : Verdict)
    → IsUnread limit old new before now verdict → IsOfSource limit Says old new before now verdict
unread limit Says old new before now verdicts.ReadFault is = is
unread limit Says old new before now verdicts.LongInput is = is
unread limit Says old new before now verdicts.Memory is = is
unread limit Says old new before now _ is = absurd is

-- all bytes of a source, fewer than the limit, are no more than that
at_most : (n limit : ℕ) → n < limit → n ≤ limit
at_most n limit short = omega (arith, short)

reads_within : (limit : ℕ) (old new : Option (List ℕ)) (bytes : List ℕ) → ReadsAll limit old new bytes → ReadsWithin limit old new
reads_within limit old new bytes all = (bytes, all.read, at_most (length bytes) limit all.short)

-- what is said of all its bytes is one, if that says of none that they weren't read
pub read : (limit : ℕ) (Says : List ℕ → Verdict → Type 0) (old new : Option (List ℕ)) (before now : ℕ) (bytes : List ℕ) (verdict : Verdict)
    → (Says bytes verdicts.ReadFault → ⊥) → (Says bytes verdicts.LongInput → ⊥) → NoFault before now → ReadsAll limit old new bytes → Says bytes verdict
    → IsOfSource limit Says old new before now verdict
read limit Says old new before now bytes verdicts.ReadFault unfailed short same all says = absurd (unfailed says)
read limit Says old new before now bytes verdicts.LongInput unfailed short same all says = absurd (short says)
read limit Says old new before now bytes verdicts.Memory unfailed short same all says = (same, reads_within limit old new bytes all)
read limit Says old new before now bytes _ unfailed short same all says = (same, bytes, all, says)
