-- References, statuses and the pool's head as words.
use Rattle.std.specs.Prelude.{ℕ, ◌+◌, ◌*◌, ◌%◌, ◌/◌, Bool, true, false, Option, Some, None, ◌==◌, if◌then◌else◌}
use Rattle.oa_words.specs.declared.packed.Kind.{Kind}
use Rattle.oa_words.specs.declared.packed.Kind.TheVariants.{Ready, Used, Retired}

abbrev pub mark_bit : Bool → ℕ
mark_bit true = 1
mark_bit false = 0

abbrev pub ref_word : ℕ → Bool → ℕ
ref_word slot marked = 2 * slot + mark_bit marked

abbrev pub slot_part : ℕ → ℕ
slot_part word = word / 2

abbrev pub is_marked : ℕ → Bool
is_marked word = word % 2 == 1

abbrev pub kind_number : Kind → ℕ
kind_number Ready = 0
kind_number Used = 1
kind_number Retired = 2

abbrev pub status_word : ℕ → Kind → ℕ
status_word phase kind = 4 * phase + kind_number kind

abbrev pub status_kind_of : ℕ → Option Kind
status_kind_of n = if n == 0 then Some Ready else (if n == 1 then Some Used else (if n == 2 then Some Retired else None))

-- the phase and the kind of a status
pub record StatusParts : Type 0 where
  pub phase : ℕ
  pub kind : Kind

abbrev pub parts_by : ℕ → Option Kind → Option StatusParts
parts_by phase None = None
parts_by phase (Some kind) = Some (record { phase = phase; kind = kind })

abbrev pub status_parts : ℕ → Option StatusParts
status_parts word = parts_by (word / 4) (status_kind_of (word % 4))

-- the phase that the head of the chain of ready slots is stamped with, and the slot on top, 0 for none
pub record HeadParts : Type 0 where
  pub phase : ℕ
  pub top : ℕ

-- the word of a head whose top is below a number, which each row has for its own
abbrev pub head_word : ℕ → ℕ → ℕ → ℕ
head_word tops phase top = tops * phase + top

abbrev pub head_parts : ℕ → ℕ → HeadParts
head_parts tops word = record { phase = word / tops; top = word % tops }
