-- The register that is named if a text is refused.
use Rattle.std.specs.Prelude.{◌≡◌, ℕ, ◌+◌, List, length, Option, Some, None, Result, Ok, Err, codes}
use Rattle.oa_text.specs.Lines.{lines_of, numbered}
use Rattle.norm_lang.specs.declared.text.Text.{Text}
use Rattle.norm_lang.specs.Faults.{LineFault, ◌>>=◌}
use Rattle.norm_parser.specs.FrontRead.{front_read}
use Rattle.norm_parser.specs.Version.{after_version}
use Rattle.norm_check.specs.declared.refusal.Refusal.{Refusal}
use Rattle.refusal_messages.specs.declared.named.Blame.{Blame}
use Rattle.refusal_messages.specs.declared.named.Blame.TheVariants.{Found, NoMemory}
use Rattle.rule_registers.specs.First.{IsFirstAtFault}
use Rattle.statuses.specs.declared.status.Status.{Status}
use Rattle.statuses.specs.declared.status.Status.TheVariants.{Refused}

-- the text with which bytes begin, be they a document or a certificate
abbrev pub text_in : List ℕ → Result Text LineFault
text_in bytes = do
  next ← after_version (codes "oa") (length (lines_of bytes) + 1) (numbered 1 (lines_of bytes))
  front ← front_read next.1 bytes next.0
  Ok front.0

-- what is found of the register to name, if this was read as a text: the first that is at fault, and none only if the rule blames none.
-- If a line has a fault, there is no text that a rule could refuse, and none is named. Of a register for which there was no memory nothing
-- is said here, and the message says that there was none
abbrev pub IsNamedIn : Result Text LineFault → Refusal → Blame → Type 0
IsNamedIn read refusal NoMemory = Unit {0}
IsNamedIn (Ok text) refusal (Found register) = IsFirstAtFault text refusal register
IsNamedIn (Err fault) refusal (Found register) = register ≡ None

-- the same of the text with which the bytes begin
abbrev pub IsNamed : List ℕ → Refusal → Blame → Type 0
IsNamed bytes refusal named = IsNamedIn (text_in bytes) refusal named

-- the same, if this is remembered of what was read; of what is forgotten no register is named
abbrev pub IsNamedRead : Option (List ℕ) → Refusal → Blame → Type 0
IsNamedRead None refusal named = named ≡ Found None
IsNamedRead (Some bytes) refusal named = IsNamed bytes refusal named

-- what is named for a status: if a rule is broken, the same; otherwise no register
abbrev pub IsNamedFor : Option (List ℕ) → Status → Blame → Type 0
IsNamedFor read (Refused refusal) named = IsNamedRead read refusal named
IsNamedFor read _ named = named ≡ Found None
