-- The callers' machine with names beside its words. Each word, name and slot is seen by a function.
use Rattle.std.specs.Prelude.{ℕ, ◌≡◌, ◌≤◌, if◌then◌else◌, Bool, [], length, Option, unwrap_or}
use Rattle.norm_lang.specs.declared.text.Text.{Text}
use Rattle.target_code.specs.declared.target.Target.{Target}
use Rattle.oa_words.specs.Words.{Word}
use Rattle.oa_words.specs.Packed.{ref_word}
use Rattle.source_machine.specs.declared.state.Value.{Value}
use Rattle.source_machine.specs.declared.state.Value.TheVariants.{Number, Node}
use Rattle.source_machine.specs.declared.state.Memory.{Memory}
use Rattle.source_machine.specs.declared.state.SourceCaller.{SourceCaller}
use Rattle.source_machine.specs.MethodRuns.{MethodRun, name_in}
use Rattle.source_machine.specs.Proper.{field_of}
use Rattle.source_machine.specs.Memory.{value_at, fields_named}
use Rattle.caller_parts.specs.Settings.{Setting, Fits, IsSetting}
use Rattle.caller_parts.specs.declared.setting.Reclamation.TheVariants.{Optimistic}
use Rattle.target_laws.specs.target_runs.Sane.{Sane}
use Rattle.caller_steps.specs.Entries.{Entry}
use Rattle.run_ahead.specs.Ahead.{IsCompiled}
use Rattle.run_ahead.specs.Guards.{GuardRow}

-- what a run is told once, and the slots of its names: each name that the run draws has one for good
pub record Plan : Type 0 where
  pub target : Target
  pub text : Text
  pub setting : Setting
  pub home : ℕ → ℕ

pub record IsPlan (t : Plan) : Type 0 where
  pub compiled : IsCompiled t.target t.text
  pub sane : Sane t.target
  pub some : IsSetting t.setting
  pub fits : Fits t.target t.setting
  -- slots are recycled by optimistic access
  pub optimistic : t.setting.reclamation ≡ Optimistic
  pub callers : 1 ≤ t.setting.sizes.callers
  -- null is in slot 0
  pub null : t.home 0 ≡ 0

-- who may change a slot
pub data Owner : Type 0 where
  Null : Owner  -- slot 0
  Pool : Owner  -- is ready: it stands in the chain, or a claim has taken it, or a sweep pushes it
  Held : (c k : ℕ) → Owner  -- in cradle k of caller c
  Living : Owner  -- its name is published, and isn't retired
  Retiring : (c : ℕ) → Owner  -- its name is retired, and c is in the retire routine on it
  Dead : Owner  -- its status is retired, until it is freed

-- what the callers share: the words, the names beside them, and the source's memory
pub record Shared : Type 0 where
  pub memory : Word → ℕ
  -- a slot's name, 0 for none
  pub present : ℕ → ℕ
  -- the least name that wasn't drawn
  pub unused : ℕ
  -- a name's, from the load in the retire routine
  pub tag : ℕ → Option ℕ
  pub owner : ℕ → Owner
  -- the name under the validated guard of a caller's register, 0 for none
  pub protects : ℕ → ℕ → ℕ
  -- names that were published
  pub public : ℕ → Bool
  pub source : Memory

-- a caller: its entry; the names that its guards had when they were published; which registers of references its own method run
-- has set, what it has got, and what was retired when it began; the source's caller, and the source's method run. The source may
-- be ahead in another run
pub record Caller : Type 0 where
  pub entry : Entry
  pub names : GuardRow
  pub was_set : ℕ → Bool
  pub held : MethodRun
  pub source : SourceCaller
  pub watch : MethodRun

-- the word for a value of the source
abbrev pub word_for : (ℕ → ℕ) → Value → ℕ
word_for home (Number n) = n
word_for home (Node reference) = ref_word (home reference.node) reference.marked

-- how many fields a name has: those of its kind. Their places are below it, and null has none of its own
abbrev pub value_count : Memory → ℕ → ℕ
value_count memory n = length (unwrap_or (fields_named n memory.nodes) [])

-- the name in a field of a name, by the field's place, and in a root
abbrev pub link : Shared → ℕ → ℕ → ℕ
link s n g = name_in (field_of s.source n g)

abbrev pub top : Shared → ℕ → ℕ
top s x = name_in (value_at s.source.roots x)

-- null counts as resident
abbrev pub Resident : Plan → Shared → ℕ → Type 0
Resident t s n = s.present (t.home n) ≡ n

-- two names in one slot are one: once true, true for ever
abbrev pub Apart : Plan → ℕ → ℕ → Type 0
Apart t x y = t.home x ≡ t.home y → x ≡ y

abbrev pub protected : GuardRow → ℕ → ℕ
protected names r = if names.valid r then names.name r else 0

-- only what is validated has a name
abbrev pub settled_names : GuardRow → GuardRow
settled_names names = record { name = protected names; valid = names.valid }
