-- How a source is read, and what is said of all its bytes.
use Rattle.std.specs.Prelude.{◌≡◌, ℕ, ◌<◌, List, length, Option, Result, Ok, Err}
use Rattle.std.specs.Io.KnownBytes.{Consumes, IsAtEnd}
use Rattle.oa_text.specs.Causes.{Rose}
use Rattle.command_input.specs.Inputs.{ReadsFewer, ReadsWithin}
use Rattle.oax_cli.specs.Telling.{NoFault}
use Rattle.oax_cli.specs.declared.verdict.Verdict.{Verdict}
use Rattle.oax_cli.specs.declared.verdict.Verdict.TheVariants as verdicts

-- these bytes were read, fewer than the limit, and none are left
pub record ReadsAll (limit : ℕ) (old new : Option (List ℕ)) (bytes : List ℕ) : Type 0 where
  pub read : Consumes old new bytes
  pub short : length bytes < limit
  pub done : IsAtEnd new

-- nothing was read
pub record Untouched (old new : Option (List ℕ)) (before now : ℕ) : Type 0 where
  pub left : new ≡ old
  pub faults : NoFault before now

-- a source was not read to its end: at `ReadFault` a read failed, and fewer bytes than the limit were read; at `LongInput` as many as the
-- limit were read; at `Memory` memory ran out, and no more than the limit were read
abbrev pub IsUnread : ℕ → Option (List ℕ) → Option (List ℕ) → ℕ → ℕ → Verdict → Type 0
IsUnread limit old new before now verdicts.ReadFault = Rose before now × ReadsFewer limit old new
IsUnread limit old new before now verdicts.LongInput = NoFault before now × (bytes : List ℕ) × Consumes old new bytes × (length bytes ≡ limit)
IsUnread limit old new before now verdicts.Memory = NoFault before now × ReadsWithin limit old new
IsUnread limit old new before now _ = ⊥

-- all bytes of a source, fewer than the limit, or why it was not read to its end
abbrev pub IsReadTo : ℕ → Option (List ℕ) → Option (List ℕ) → ℕ → ℕ → Result (List ℕ) Verdict → Type 0
IsReadTo limit old new before now (Ok bytes) = NoFault before now × ReadsAll limit old new bytes
IsReadTo limit old new before now (Err verdict) = IsUnread limit old new before now verdict

-- the verdict on all bytes that the source had, of which this is said; no read failed
abbrev pub IsOfInput : ℕ → (List ℕ → Verdict → Type 0) → Option (List ℕ) → Option (List ℕ) → ℕ → ℕ → Verdict → Type 0
IsOfInput limit Says old new before now verdict = NoFault before now × (bytes : List ℕ) × ReadsAll limit old new bytes × Says bytes verdict

-- the verdict on what was read of a source, no more bytes than the limit, if this is said of all its bytes: a read failed at `ReadFault`
-- alone, and at `LongInput` alone there were too many
abbrev pub IsOfSource : ℕ → (List ℕ → Verdict → Type 0) → Option (List ℕ) → Option (List ℕ) → ℕ → ℕ → Verdict → Type 0
IsOfSource limit Says old new before now verdicts.ReadFault = IsUnread limit old new before now verdicts.ReadFault
IsOfSource limit Says old new before now verdicts.LongInput = IsUnread limit old new before now verdicts.LongInput
IsOfSource limit Says old new before now verdicts.Memory = IsUnread limit old new before now verdicts.Memory
IsOfSource limit Says old new before now verdict = IsOfInput limit Says old new before now verdict
