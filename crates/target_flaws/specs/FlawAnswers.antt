-- Judging an instruction of a target.
use Rattle.std.specs.Prelude.{◌≡◌, ◌↔◌, ℕ, ◌-◌, ◌≤◌, Bool, false, ◌&&◌, ◌||◌, List, [], ◌∷◌, length, slice_index_or, IsTrue}
use Rattle.std.specs.List.{list_any}
use Rattle.norm_lang.specs.declared.text.Op.{Op}
use Rattle.norm_lang.specs.declared.text.Reg.{Reg}
use Rattle.norm_paths.specs.Found.{IsOpWithin, all_registers}
use Rattle.target_code.specs.declared.target.TargetInstr.{TargetInstr}
use Rattle.target_code.specs.Paths.{target_reads}
use Rattle.target_code.specs.Flaws.{target_commits, target_exchanges, guards}
use Rattle.target_code.specs.TargetLimits.{is_target_instr}
use Rattle.target_code.specs.Barred.{FlawKind, kind_number, IsFlawed}
use Rattle.target_flaws.specs.declared.needs.Needs.{Needs}
use Rattle.target_flaws.specs.Needs.{AreNeeds, is_handed_by, is_kept_by}
use Rattle.target_flaws.specs.Found.{TargetFound, AreTargetFacts, may_be_unchecked_by, may_be_guarded_by}

-- an instruction within the limits, of a method compiled of an operation's, and what was found out about both
pub record IsTargetSite (source : Op) (code : List TargetInstr) (i : TargetInstr) (needs : Needs) (found : TargetFound) : Type 0 where
  pub within : IsOpWithin source
  pub limits : (kinds fields roots : ℕ) × IsTrue (is_target_instr kinds fields roots i)
  pub asks : AreNeeds source needs
  pub true_of : AreTargetFacts code found

-- an answer for each kind of flaw that an instruction may have, in the order of their numbers, is true of an instruction at
-- its place
pub record AreFlawAnswers (source : Op) (wrapup : Bool) (code : List TargetInstr) (at : ℕ) (i : TargetInstr) (answers : List Bool) : Type 0 where
  pub sized : length answers ≡ 4
  pub each : (kind : FlawKind) → 2 ≤ kind_number kind → IsTrue (slice_index_or answers (kind_number kind - 2) false) ↔ IsFlawed kind source wrapup code at i

-- an instruction uses a register, by what the operation asks
abbrev pub uses_by : Needs → Reg → TargetInstr → Bool
uses_by needs r i = target_reads r i || (target_commits i && is_handed_by needs.handed_over r)

-- an instruction needs a register guarded, if it is a reference, by what the operation asks
abbrev pub needs_guard_by : Needs → Reg → TargetInstr → Bool
needs_guard_by needs r i = target_exchanges r i || (target_commits i && is_kept_by needs.kept r)

-- an instruction uses a register that may be unchecked there, by the answers
abbrev pub uses_unchecked_by : Needs → TargetFound → ℕ → TargetInstr → Bool
uses_unchecked_by needs found at i = list_any (λ r. uses_by needs r i && may_be_unchecked_by found r at) all_registers

-- it needs a register guarded whose guard may come there in a state
abbrev pub needs_more_by : Needs → TargetFound → ℕ → TargetInstr → ℕ → Bool
needs_more_by needs found at i state = list_any (λ r. needs_guard_by needs r i && may_be_guarded_by found r at state) all_registers

-- it guards a register that the wrap-up keeps
abbrev pub guards_kept_by : Needs → TargetInstr → Bool
guards_kept_by needs i = list_any (λ r. guards r i && is_kept_by needs.kept r) all_registers

-- the guard of a register that it needs guarded may have been undone, or in a wrap-up it guards a register that is kept
abbrev pub has_guard_dropped_by : Needs → TargetFound → Bool → ℕ → TargetInstr → Bool
has_guard_dropped_by needs found wrapup at i = needs_more_by needs found at i 3 || (wrapup && guards_kept_by needs i)

-- the answer for each kind of flaw that an instruction may have, by any needs and any facts, whether they are true or not
abbrev pub flaw_answers_by : Needs → TargetFound → Bool → ℕ → TargetInstr → List Bool
flaw_answers_by needs found wrapup at i =
    uses_unchecked_by needs found at i ∷ needs_more_by needs found at i 0 ∷ needs_more_by needs found at i 1 ∷ has_guard_dropped_by needs found wrapup at i ∷ []
