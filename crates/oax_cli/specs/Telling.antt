-- What is said of a verdict, and how the command ends.
use Rattle.std.specs.Prelude.{◌≡◌, ℕ, Bool, true, false, List, [], ◌∷◌, ◌++◌, ◌⊎◌, codes, decimal, Option, Some, None, slice_get}
use Rattle.std.specs.Io.KnownBytes.{Appends}
use Rattle.oa_text.specs.Causes.{Rose}
use Rattle.oa_text.specs.Written.{AppendsPrefix}
use Rattle.line_words.specs.declared.fault.ParseFault.{ParseFault}
use Rattle.norm_lang.specs.declared.text.Op.{Op}
use Rattle.norm_lang.specs.declared.text.Text.{Text}
use Rattle.norm_check.specs.declared.refusal.Refusal.{Refusal}
use Rattle.proper_judge.specs.declared.breach.Breach.{Breach}
use Rattle.proper_judge.specs.Breaches.{number_of}
use Rattle.oax_cli.specs.declared.ending.Ending.{Ending}
use Rattle.oax_cli.specs.declared.ending.Ending.TheVariants as endings
use Rattle.oax_cli.specs.declared.verdict.Verdict.{Verdict}
use Rattle.oax_cli.specs.declared.verdict.Verdict.TheVariants as verdicts

-- no call failed: the count is as it was
abbrev pub NoFault : ℕ → ℕ → Type 0
NoFault before now = now ≡ before

-- the number of the condition that is broken, and the event after which it is
abbrev pub breach_line : Breach → ℕ → List ℕ
breach_line breach at = codes "improper " ++ decimal (number_of breach) ++ codes " at " ++ decimal at ++ 10 ∷ []

-- the event that isn't enabled
abbrev pub stop_line : ℕ → List ℕ
stop_line at = codes "rejected 1 at " ++ decimal at ++ 10 ∷ []

-- the line that tells a fault
abbrev pub fault_line : ParseFault → List ℕ
fault_line fault = codes "line " ++ decimal fault.line ++ codes " fault " ++ decimal fault.number ++ 10 ∷ []

-- the line that tells what is wrong with a document's shape
abbrev pub shape_fault_line : ℕ → ℕ → List ℕ
shape_fault_line number at = codes "shape " ++ decimal number ++ codes " at " ++ decimal at ++ 10 ∷ []

abbrev pub name_of : Option Op → List ℕ
name_of None = []
name_of (Some op) = op.name

-- the name of a text's operation, by its number; no bytes if there is none
abbrev pub op_name : Text → ℕ → List ℕ
op_name text number = name_of (slice_get text.ops number)

-- a generator is told as `gen`, a wrap-up as `wrap`
abbrev pub method_word : Bool → List ℕ
method_word false = codes " gen "
method_word true = codes " wrap "

-- the line that tells why a text is refused: the rule, the operation, the method and the instruction's number in it
abbrev pub refusal_line : Text → Refusal → List ℕ
refusal_line text refusal =
    codes "refused N" ++ decimal refusal.rule ++ codes " op " ++ op_name text refusal.op ++ method_word refusal.wrapup ++ decimal refusal.at ++ 10 ∷ []

-- how the program is used
abbrev pub help_text : List ℕ
help_text =
    codes "usage: oax proper < CERTIFICATE\n  proper  say whether a certificate's run shows that its text isn't proper\nSee docs/man/oax.1.\n"

-- the text of a verdict, each line with its newline
abbrev pub text_for : Verdict → List ℕ
text_for verdicts.Proper = codes "proper so far\n"
text_for (verdicts.Improper breach at message) = breach_line breach at
text_for (verdicts.NotEnabled at message) = stop_line at
text_for verdicts.Help = help_text
text_for verdicts.Version = codes "oax 1\n"
text_for verdicts.Usage = codes "usage\n"
text_for verdicts.ReadFault = codes "read fault\n"
text_for verdicts.LongInput = codes "long input\n"
text_for (verdicts.BadCertificate fault) = fault_line fault
text_for (verdicts.Refused text refusal) = refusal_line text refusal
text_for (verdicts.BadShape number at) = shape_fault_line number at
text_for verdicts.Memory = codes "memory\n"

-- how a command with a verdict ends
abbrev pub ending_for : Verdict → Ending
ending_for verdicts.Proper = endings.Done
ending_for (verdicts.Improper breach at message) = endings.Found
ending_for (verdicts.NotEnabled at message) = endings.Found
ending_for verdicts.Help = endings.Done
ending_for verdicts.Version = endings.Done
ending_for verdicts.Usage = endings.Usage
ending_for verdicts.ReadFault = endings.ReadFault
ending_for verdicts.LongInput = endings.LongInput
ending_for (verdicts.BadCertificate fault) = endings.BadCertificate fault.line fault.number
ending_for (verdicts.Refused text refusal) = endings.Refused refusal
ending_for (verdicts.BadShape number at) = endings.BadShape number at
ending_for verdicts.Memory = endings.Memory

-- the whole text was written and no write failed, or the sink failed after a prefix of it
abbrev pub IsSaid : Option (List ℕ) → Option (List ℕ) → ℕ → ℕ → List ℕ → Ending → Ending → Type 0
IsSaid old new before now text ending result =
    ((result ≡ ending) × NoFault before now × Appends old new text) ⊎ ((result ≡ endings.WriteFault) × Rose before now × AppendsPrefix old new text)
