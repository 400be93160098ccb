-- What a run is told once.
use Rattle.std.specs.Prelude.{◌≡◌, ℕ, zero, suc, ◌+◌, ◌*◌, ◌^◌, ◌≤◌, ◌<◌, Bool, true, ◌&&◌, List, nat_le, if◌then◌else◌, Result, Ok, Err, length, slice_index}
use Rattle.oa_words.specs.Words.{Sizes}
use Rattle.oa_words.specs.SlotKinds.{slots_of}
use Rattle.oa_words.specs.Within.{AreSizes, AreSmall}
use Rattle.target_code.specs.declared.target.Target.{Target}
use Rattle.caller_parts.specs.KindCounts.{greatest_count, node_counts}
use Rattle.caller_parts.specs.declared.limits.TheConstants.{MOST_PHASES}
use Rattle.caller_parts.specs.declared.setting.Reclamation.{Reclamation}
use Rattle.caller_parts.specs.declared.setting.Reclamation.TheVariants.{Optimistic, Epochs}
use Rattle.caller_parts.specs.declared.setting.SettingFault.{SettingFault}
use Rattle.caller_parts.specs.declared.setting.SettingFault.TheVariants as faults

-- the scheme by which nodes are recycled, the sizes of the row, the first and the last phase, and how many initial nodes each of four
-- kinds has
pub record Setting : Type 0 where
  pub reclamation : Reclamation
  pub sizes : Sizes
  pub first : ℕ
  pub last : ℕ
  pub nodes : List ℕ

-- what a caller's warning word holds at the start: the first phase, of which it has been warned, or nothing that it has announced
abbrev pub first_warning : Reclamation → ℕ → ℕ
first_warning Optimistic first = first
first_warning Epochs first = 0

-- a setting fits a target: as many kinds and roots, as many fields as the kind with the most, and as many initial nodes of each kind
pub record Fits (target : Target) (setting : Setting) : Type 0 where
  pub kinds : length setting.sizes.kinds ≡ length target.kinds
  pub fields : setting.sizes.fields ≡ greatest_count target
  pub cells : setting.sizes.cells ≡ length target.roots
  pub nodes : setting.nodes ≡ node_counts target

-- no kind of the row has more initial nodes than slots; numbers past the kinds aren't judged
abbrev pub HaveSlots : Sizes → List ℕ → Type 0
HaveSlots sizes nodes = (t : ℕ) → t < length sizes.kinds → slice_index nodes t ≤ slots_of sizes t

-- what laws ask of a setting: sizes, phases from 1 on, of which the last fits a word beside each slot, and slots for the initial nodes.
-- A status has room for the last phase too, since a head has at least as many tops as a status has kinds
pub record IsSetting (setting : Setting) : Type 0 where
  pub sizes : AreSizes setting.sizes
  pub first : 1 ≤ setting.first
  pub phases : setting.first ≤ setting.last
  pub last : setting.last * setting.sizes.tops + setting.sizes.tops ≤ 2 ^ 64
  pub nodes : HaveSlots setting.sizes setting.nodes

-- the limits of the settings that the code makes, which no law asks for
pub record IsSmall (setting : Setting) : Type 0 where
  pub sizes : AreSmall setting.sizes
  pub last : setting.last ≤ MOST_PHASES

abbrev pub are_phases : ℕ → ℕ → Bool
are_phases first last = nat_le 1 first && (nat_le first last && nat_le last MOST_PHASES)

-- whether none of the first so many kinds has more initial nodes than slots
abbrev pub have_slots : Sizes → List ℕ → ℕ → Bool
have_slots sizes nodes zero = true
have_slots sizes nodes (suc t) = have_slots sizes nodes t && nat_le (slice_index nodes t) (slots_of sizes t)

-- a setting, or the fault for which it is refused
abbrev pub setting_or_fault : Setting → Result Setting SettingFault
setting_or_fault setting =
    if have_slots setting.sizes setting.nodes (length setting.sizes.kinds)
    then (if are_phases setting.first setting.last then Ok setting else Err faults.Phases)
    else Err faults.Nodes
