-- How the program ends.
use Rattle.std.specs.Prelude.{◌≡◌, ℕ, Bool, true, false, IsFalse, ◌⊎◌}
use Rattle.oa_text.specs.Causes.{Rose}
use Rattle.oax_cli.specs.declared.ending.Ending.{Ending}
use Rattle.oax_cli.specs.declared.ending.Ending.TheVariants as endings

-- the number with which the program ends
abbrev pub number_of : Ending → ℕ
number_of endings.Done = 0
number_of endings.Usage = 2
number_of endings.ReadFault = 3
number_of endings.LongInput = 4
number_of (endings.BadCertificate line fault) = 5
number_of (endings.Refused refusal) = 6
number_of (endings.BadShape number at) = 7
number_of endings.WriteFault = 8
number_of endings.Memory = 9
number_of endings.Found = 11

-- a fault of writing
abbrev pub is_write_fault : Ending → Bool
is_write_fault endings.WriteFault = true
is_write_fault endings.Done = false
is_write_fault endings.Found = false
is_write_fault endings.Usage = false
is_write_fault endings.ReadFault = false
is_write_fault endings.LongInput = false
is_write_fault (endings.BadCertificate line fault) = false
is_write_fault (endings.Refused refusal) = false
is_write_fault (endings.BadShape number at) = false
is_write_fault endings.Memory = false

-- the ending is the one given and nothing failed, or what was buffered could not be handed on; after a fault of writing that isn't tried
abbrev pub IsFinished : ℕ → ℕ → Ending → Ending → Type 0
IsFinished before now ending result =
    ((result ≡ ending) × (now ≡ before)) ⊎ (IsFalse (is_write_fault ending) × (result ≡ endings.WriteFault) × Rose before now)
