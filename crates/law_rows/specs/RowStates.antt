-- States of the core that nothing leads to, each with one thing out of the row: what stays in the row refuses each of them.
use Rattle.std.specs.Prelude.{◌≡◌, ℕ, ◌++◌, false, List, [], ◌∷◌}
use Rattle.norm_lang.specs.declared.registers.Registers.{Registers}
use Rattle.norm_lang.specs.Registers.{first_registers, with_reference}
use Rattle.norm_lang.specs.declared.reply.SourceReply.TheVariants as replies
use Rattle.oa_words.specs.Words.{Phase, Warning, Status, Head}
use Rattle.phase_pools.specs.declared.stages.RetireStage.TheVariants as stages
use Rattle.guard_words.specs.Guards.{no_guards}
use Rattle.phase_pools.specs.declared.stages.Scheme.TheVariants.{Warned}
use Rattle.phase_pools.specs.Pools.{claim_begun}
use Rattle.caller_parts.specs.declared.routine.AfterClear.TheVariants as clears
use Rattle.caller_parts.specs.declared.routine.AfterRetire.TheVariants as retires
use Rattle.caller_parts.specs.declared.routine.AnnounceReason.TheVariants as reasons
use Rattle.caller_parts.specs.declared.routine.Announcing.TheVariants as announces
use Rattle.caller_parts.specs.declared.setting.Reclamation.TheVariants.{Epochs}
use Rattle.caller_parts.specs.declared.routine.MethodStart.TheVariants as starts
use Rattle.caller_parts.specs.declared.routine.Routine.{Routine}
use Rattle.caller_parts.specs.declared.routine.Routine.TheVariants.{Idle, LoadSeen, At, InList, Retires, Restarts, Clears, Claims, Zeroes, Announces}
use Rattle.caller_parts.specs.Settings.{Setting}
use Rattle.caller_steps.specs.Entries.{Entry, idle_entry, empty_hand}
use Rattle.caller_steps.specs.declared.entry.Hand.{Hand}
use Rattle.caller_steps.specs.Belongs.{Belongs}
use Rattle.caller_steps.specs.Lawful.{LawfulPhase, IsLawful}
use Rattle.core_runs.specs.Machine.{CoreState, core_start}
use Rattle.core_rows.specs.Short.{r3, call_of, setting_of, cradles_of}
use Rattle.core_rows.specs.SmallTargets.{pair_target}
use Rattle.core_runs.specs.core_sound.Sound.{StaysInRow}

-- one caller, two slots of a number and a reference, one root, and the phases 5 to 9
abbrev pub phases_setting : Setting
phases_setting = record (setting_of 1 2 2 1 2 9) { first = 5 }

-- the same for callers that announce
abbrev pub announced_setting : Setting
announced_setting = record phases_setting { reclamation = Epochs }

-- ---- phases

pub record PhaseRows : Type 0 where
  pub first : LawfulPhase phases_setting 5
  pub last : LawfulPhase phases_setting 9
  pub before_first : LawfulPhase phases_setting 4 → ⊥
  pub after_last : LawfulPhase phases_setting 10 → ⊥
  -- of the phase word and of a warning
  pub phase_word : IsLawful pair_target phases_setting Phase 4 → ⊥
  pub warning : IsLawful pair_target phases_setting (Warning 0) 4 → ⊥
  -- one that announces nothing is lawful under epochs alone, and none after the last phase
  pub no_warning : IsLawful pair_target phases_setting (Warning 0) 0 → ⊥
  pub nothing_announced : IsLawful pair_target announced_setting (Warning 0) 0
  pub late_announced : IsLawful pair_target announced_setting (Warning 0) 10 → ⊥
  pub announced_phase_word : IsLawful pair_target announced_setting Phase 4 → ⊥
  -- a status and a head may have an earlier phase than the first: 4 times 4, and 1 for used; 8192 times 4, and the slot 2
  pub status : IsLawful pair_target phases_setting (Status 1) 17
  pub head : IsLawful pair_target phases_setting (Head 0) 32770
  -- but none after the last
  pub late_status : IsLawful pair_target phases_setting (Status 1) 41 → ⊥
  pub late_head : IsLawful pair_target phases_setting (Head 0) 81922 → ⊥

-- ---- words

-- the words at the start, by what stands there: 21 is used in phase 5, node 1 is 7 and leads to node 2, which is 9 and leads to none
abbrev pub words_with : (phase warning hazard status field root head link : ℕ) → List ℕ
words_with phase warning hazard status field root head link =
    (phase ∷ 0 ∷ warning ∷ 0 ∷ 0 ∷ 0 ∷ 0 ∷ 0 ∷ 0 ∷ 0 ∷ hazard ∷ [])
    ++ ((21 ∷ 21 ∷ status ∷ [])
    ++ ((0 ∷ 0 ∷ 7 ∷ field ∷ 9 ∷ 0 ∷ root ∷ [])
    ++ (head ∷ 0 ∷ 0 ∷ link ∷ [])))

abbrev pub first_words : List ℕ
first_words = words_with 5 5 0 21 4 2 40960 0

abbrev pub with_words : List ℕ → CoreState
with_words words = record { words = words; entries = idle_entry 0 ∷ [] }

-- the same words with another entry
abbrev pub with_entry : Entry → CoreState
with_entry e = record { words = first_words; entries = e ∷ [] }

-- slot 3 is none of the row; a register names it
abbrev pub names_third : Registers
names_third = with_reference (first_registers []) r3 (record { node = 3; marked = false })

abbrev pub in_register : Entry
in_register = record (idle_entry 0) { hand = record empty_hand { registers = names_third } }

abbrev pub at_wrap_up_start : Entry
at_wrap_up_start = record (idle_entry 0) { hand = record empty_hand { started = names_third } }

-- the status of slot 30 would be word 41
abbrev pub past_the_row : Entry
past_the_row = record (idle_entry 0) { running = record { call = call_of 0 0; steps = 3 }; routine = Retires (record { slot = 30; stage = stages.StoreStatus 5 }) retires.Next }

abbrev pub Stays : CoreState → Type 0
Stays state = StaysInRow pair_target phases_setting state

pub record OutOfRow : Type 0 where
  -- with nothing changed these are the words and the entries at the start
  pub start : with_words first_words ≡ core_start pair_target phases_setting
  pub register : Stays (with_entry in_register) → ⊥
  pub started : Stays (with_entry at_wrap_up_start) → ⊥
  -- the reference to slot 3 is 6, in the field of node 1 and in the root
  pub field : Stays (with_words (words_with 5 5 0 21 6 2 40960 0)) → ⊥
  pub root : Stays (with_words (words_with 5 5 0 21 4 6 40960 0)) → ⊥
  pub hazard : Stays (with_words (words_with 5 5 3 21 4 2 40960 0)) → ⊥
  pub link : Stays (with_words (words_with 5 5 0 21 4 2 40960 3)) → ⊥
  -- under phase 5 slot 3 is on top
  pub top : Stays (with_words (words_with 5 5 0 21 4 2 40963 0)) → ⊥
  -- a word more than the row has, and one less
  pub longer : Stays (with_words (first_words ++ 0 ∷ [])) → ⊥
  pub shorter : Stays (with_words (5 ∷ 0 ∷ 5 ∷ 0 ∷ 0 ∷ 0 ∷ 0 ∷ 0 ∷ 0 ∷ 0 ∷ 0 ∷ 21 ∷ 21 ∷ 21 ∷ 0 ∷ 0 ∷ 7 ∷ 4 ∷ 9 ∷ 0 ∷ 2 ∷ 40960 ∷ 0 ∷ 0 ∷ [])) → ⊥
  pub wanted : Stays (with_entry past_the_row) → ⊥
  -- a phase before the first or after the last
  pub early_phase : Stays (with_words (words_with 4 5 0 21 4 2 32768 0)) → ⊥
  pub late_phase : Stays (with_words (words_with 10 5 0 21 4 2 40960 0)) → ⊥
  pub early_warning : Stays (with_words (words_with 5 4 0 21 4 2 40960 0)) → ⊥
  pub late_warning : Stays (with_words (words_with 5 10 0 21 4 2 40960 0)) → ⊥
  -- a status of no kind, and one of phase 10
  pub no_kind : Stays (with_words (words_with 5 5 0 23 4 2 40960 0)) → ⊥
  pub late_status : Stays (with_words (words_with 5 5 0 41 4 2 40960 0)) → ⊥
  -- a head of phase 6 while the phase is 5
  pub early_head : Stays (with_words (words_with 5 5 0 21 4 2 49152 0)) → ⊥

-- ---- entries

-- an idle caller, and one that stands at an instruction of `second` before this access; it has seen the first phase
abbrev pub seen_first : Hand
seen_first = record empty_hand { seen = 5 }

abbrev pub idle_with : Hand → Entry
idle_with hand = record (idle_entry 0) { hand = hand }

abbrev pub stands_at : ℕ → Routine → Entry
stands_at at routine = record (idle_entry 0) { running = record { call = call_of 0 0; steps = 1 }; hand = record seen_first { at = at }; routine = routine }

abbrev pub BelongsThere : Entry → Type 0
BelongsThere e = Belongs pair_target phases_setting e

abbrev pub BelongsAnnounced : Entry → Type 0
BelongsAnnounced e = Belongs pair_target announced_setting e

pub record StrangeEntries : Type 0 where
  -- caller 1 of one, and an operation after the last of three
  pub number : BelongsThere (idle_entry 1) → ⊥
  pub op : BelongsThere (record (idle_entry 0) { running = record { call = call_of 3 0; steps = 0 } }) → ⊥
  -- a register, one of the wrap-up's start, a guard and a cradle that name slot 3
  pub register : BelongsThere (idle_with (record seen_first { registers = names_third })) → ⊥
  pub started : BelongsThere (idle_with (record seen_first { started = names_third })) → ⊥
  pub guard : BelongsThere (idle_with (record seen_first { guards = record no_guards { slots = 3 ∷ 0 ∷ 0 ∷ 0 ∷ 0 ∷ 0 ∷ 0 ∷ 0 ∷ [] } })) → ⊥
  pub cradle : BelongsThere (record (idle_entry 0) { cradles = cradles_of 0 0 0 3 }) → ⊥
  -- three cradles, and seven guards
  pub three_cradles : BelongsThere (record (idle_entry 0) { cradles = 0 ∷ 0 ∷ 0 ∷ [] }) → ⊥
  pub seven_guards : BelongsThere (idle_with (record seen_first { guards = record no_guards { slots = 0 ∷ 0 ∷ 0 ∷ 0 ∷ 0 ∷ 0 ∷ 0 ∷ [] } })) → ⊥
  -- a warning after the last phase was seen
  pub seen : BelongsThere (idle_with (record empty_hand { seen = 10 })) → ⊥
  -- past the seven instructions of its generator
  pub past_the_end : BelongsThere (stands_at 7 At) → ⊥
  pub idle_past_the_end : BelongsThere (stands_at 7 Idle) → ⊥
  -- at the commit, which has no access of its own; in its list, which is empty; at a load that is no check, no `new` and no method's start
  pub no_access : BelongsThere (stands_at 6 At) → ⊥
  pub empty_list : BelongsThere (stands_at 6 (InList 0)) → ⊥
  pub no_check : BelongsThere (stands_at 0 Restarts) → ⊥
  pub no_new : BelongsThere (stands_at 0 (Zeroes 0 0)) → ⊥
  pub no_claim : BelongsThere (stands_at 0 (Claims (claim_begun phases_setting.sizes 0 Warned))) → ⊥
  pub no_start : BelongsThere (stands_at 2 (LoadSeen starts.Begin)) → ⊥
  pub no_exchange : BelongsThere (stands_at 0 (Retires (record { slot = 1; stage = stages.ReadPhase }) retires.Next)) → ⊥
  -- before an announcement, if access is optimistic; and if callers announce, before the load of the own warning, before a clear, before
  -- an announcement in the midst of the generator, before that of a phase before the first, and before its end if no reply is given
  pub no_epochs : BelongsThere (stands_at 0 (Announces (announces.Loads reasons.Begin))) → ⊥
  pub no_warning : BelongsAnnounced (stands_at 0 (LoadSeen starts.Begin)) → ⊥
  pub no_clear : BelongsAnnounced (stands_at 0 (Clears clears.New)) → ⊥
  pub no_begin : BelongsAnnounced (stands_at 2 (Announces (announces.Loads reasons.Begin))) → ⊥
  pub no_phase : BelongsAnnounced (stands_at 0 (Announces (announces.Stores reasons.Begin 4))) → ⊥
  pub no_sweep : BelongsAnnounced (stands_at 0 (Announces (announces.Loads reasons.Swept))) → ⊥
  pub no_reply : BelongsAnnounced (stands_at 0 (Announces (announces.Leaves replies.Nothing))) → ⊥
