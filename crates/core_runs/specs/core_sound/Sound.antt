-- What holds of the words and the callers in every reachable state.
use Rattle.std.specs.Prelude.{◌≡◌, ℕ, suc, ◌≤◌, ◌<◌, true, false, List, length, Some, slice_get, slice_index}
use Rattle.norm_lang.specs.declared.text.Reg.TheVariants.{Ref}
use Rattle.norm_lang.specs.declared.text.FieldKind.TheVariants as holdings
use Rattle.norm_lang.specs.declared.text.Text.{Text}
use Rattle.norm_lang.specs.Registers.{reference_in}
use Rattle.norm_lang.specs.InstructionRules.{root_kind}
use Rattle.target_code.specs.declared.target.Target.{Target}
use Rattle.target_laws.specs.target_runs.Runnable.{MayBeWalked}
use Rattle.oa_words.specs.Words.{Word, Phase, Warning, Hazard, Status, FieldOf, Cell, Head, Link, address_of, in_row, word_count}
use Rattle.oa_words.specs.SlotKinds.{kind_of, IsNullOrOf}
use Rattle.oa_words.specs.Packed.{slot_part, head_parts}
use Rattle.oa_words.specs.Starts.{Suits}
use Rattle.phase_pools.specs.Accesses.{WordAccess, word_of}
use Rattle.caller_parts.specs.Settings.{Setting, Fits, IsSetting}
use Rattle.caller_steps.specs.Entries.{Entry}
use Rattle.caller_steps.specs.Wants.{wants}
use Rattle.caller_steps.specs.Lawful.{IsLawful, LawfulPhase, LawfulWarning, LawfulStatus, held_at, is_place}
use Rattle.caller_steps.specs.Belongs.{Belongs, RunsWithKinds}
use Rattle.core_runs.specs.Machine.{CoreState, Reachable, beginning_of, word_at}

-- the words of the row are lawful
abbrev pub AreLawful : Target → Setting → List ℕ → Type 0
AreLawful target setting words = (w : Word) → in_row setting.sizes w ≡ true → IsLawful target setting w (slice_index words (address_of setting.sizes w))

-- each entry has its number and belongs
abbrev pub AllBelong : Target → Setting → List Entry → Type 0
AllBelong target setting entries = (c : ℕ) (e : Entry) → slice_get entries c ≡ Some e → Belongs target setting e × (e.number ≡ c)

-- as many words as the row has, all of them lawful, and an entry that belongs for each caller
pub record IsSound (target : Target) (setting : Setting) (state : CoreState) : Type 0 where
  pub count : length state.words ≡ word_count setting.sizes
  pub callers : length state.entries ≡ setting.sizes.callers
  pub lawful : AreLawful target setting state.words
  pub belong : AllBelong target setting state.entries

abbrev pub NamesSlot : Setting → ℕ → Type 0
NamesSlot setting slot = slot ≤ setting.sizes.slots

-- nothing leads out of the row, and no reference to a slot of another kind: every register and every hazard names one of the row's slots or
-- null, and a register of a caller that runs one of a kind that it may have there; a reference field of a slot, by its place among the
-- fields of the slot's kind, and a reference root name null or a slot of the kind to which they refer; null's fields are 0; a link names one
-- of its slot's kind or none, and a top one of the head's; every wanted address is that of one of the row's words, and the word there is
-- lawful; phases are those of the run, and each head's phase is one that the phase word has come to
pub record StaysInRow (target : Target) (setting : Setting) (state : CoreState) : Type 0 where
  pub registers : (c r : ℕ) (e : Entry) → slice_get state.entries c ≡ Some e → NamesSlot setting (reference_in e.hand.registers (Ref r)).node
  pub started : (c r : ℕ) (e : Entry) → slice_get state.entries c ≡ Some e → NamesSlot setting (reference_in e.hand.started (Ref r)).node
  pub kinds : (c : ℕ) (e : Entry) → slice_get state.entries c ≡ Some e → RunsWithKinds target setting e e.routine
  pub fields : (j g k : ℕ) → in_row setting.sizes (FieldOf (suc j) g) ≡ true → held_at target (kind_of setting.sizes (suc j)) g ≡ Some (holdings.Reference k)
      → IsNullOrOf setting.sizes k (slot_part (word_at setting state (FieldOf (suc j) g)))
  pub null_fields : (g : ℕ) → in_row setting.sizes (FieldOf 0 g) ≡ true → word_at setting state (FieldOf 0 g) ≡ 0
  pub roots : (x k : ℕ) → in_row setting.sizes (Cell x) ≡ true → root_kind target.roots x ≡ Some (holdings.Reference k)
      → IsNullOrOf setting.sizes k (slot_part (word_at setting state (Cell x)))
  pub hazards : (c r : ℕ) → in_row setting.sizes (Hazard c r) ≡ true → NamesSlot setting (word_at setting state (Hazard c r))
  pub links : (j : ℕ) → in_row setting.sizes (Link j) ≡ true → IsNullOrOf setting.sizes (kind_of setting.sizes j) (word_at setting state (Link j))
  pub top : (t : ℕ) → t < length setting.sizes.kinds → IsNullOrOf setting.sizes t (head_parts setting.sizes.tops (word_at setting state (Head t))).top
  pub words : length state.words ≡ word_count setting.sizes
  pub wanted : (c : ℕ) (e : Entry) (a : WordAccess) → slice_get state.entries c ≡ Some e → wants target e ≡ Some a
      → (address_of setting.sizes (word_of a) < word_count setting.sizes) × (is_place (word_of a) ≡ false) × IsLawful target setting (word_of a) (word_at setting state (word_of a))
  pub phase : LawfulPhase setting (word_at setting state Phase)
  pub warnings : (c : ℕ) → in_row setting.sizes (Warning c) ≡ true → LawfulWarning setting.reclamation setting (word_at setting state (Warning c))
  pub statuses : (j : ℕ) → in_row setting.sizes (Status j) ≡ true → LawfulStatus setting.last (word_at setting state (Status j))
  pub stamped : (t : ℕ) → t < length setting.sizes.kinds → (head_parts setting.sizes.tops (word_at setting state (Head t))).phase ≤ word_at setting state Phase

-- the initial nodes and the roots have as many words as the row asks for, so that each word at the start says what its name does
pub record StartSuits (target : Target) (setting : Setting) : Type 0 where
  pub suits : Suits setting.sizes (beginning_of target setting)

-- of every state to which a list of enabled events leads; texts needn't be proper
abbrev pub Always : (Target → Setting → CoreState → Type 0) → Type 0
Always Holds = (target : Target) (text : Text) (setting : Setting) (state : CoreState) → MayBeWalked target text → IsSetting setting → Fits target setting
    → Reachable target setting state → Holds target setting state
