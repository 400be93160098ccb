-- Which name each slot has, 0 for none, as the callers' steps go on.
use Rattle.std.specs.Prelude.{ℕ, zero, suc, ◌+◌, ◌==◌, Bool, true, false, nat_lt, if◌then◌else◌}
use Rattle.target_code.specs.declared.target.Target.{Target}
use Rattle.oa_words.specs.declared.packed.Kind.TheVariants as kinds
use Rattle.oa_words.specs.Words.{Word, Status}
use Rattle.oa_words.specs.Packed.{status_word}
use Rattle.phase_pools.specs.declared.stages.SweepStage.{SweepStage}
use Rattle.phase_pools.specs.declared.stages.SweepStage.TheVariants as sweeps
use Rattle.phase_pools.specs.declared.stages.ClaimStage.{ClaimStage}
use Rattle.phase_pools.specs.declared.stages.ClaimStage.TheVariants as claims
use Rattle.source_machine.specs.MethodRuns.{put}
use Rattle.caller_parts.specs.declared.routine.Routine.{Routine}
use Rattle.caller_parts.specs.declared.routine.Routine.TheVariants.{Idle, LoadSeen, At, InList, Retires, Restarts, Clears, Claims, Zeroes, Announces}
use Rattle.caller_steps.specs.Entries.{Entry, instr_in, zero_count, cradle_of}

-- the exchange of a sweep that makes a slot ready takes the slot's name away, if it finds the word that it expects
abbrev pub freed_at : SweepStage → (Word → ℕ) → (ℕ → ℕ) → ℕ → ℕ
freed_at (sweeps.MakeReady j q) memory present = if memory (Status j) == status_word q kinds.Retired then put present j 0 else present
freed_at sweeps.ReadPhase memory present = present
freed_at (sweeps.RaisePhase p) memory present = present
freed_at (sweeps.Warn c) memory present = present
freed_at (sweeps.ReadHazard c r) memory present = present
freed_at (sweeps.ReadStatus j) memory present = present
freed_at (sweeps.PushHead kind j) memory present = present
freed_at (sweeps.PushLink j q t) memory present = present
freed_at (sweeps.PushTop kind j q t) memory present = present

abbrev pub freed_in : ClaimStage → SweepStage → (Word → ℕ) → (ℕ → ℕ) → ℕ → ℕ
freed_in claims.Sweeps stage memory present = freed_at stage memory present
freed_in claims.ReadHead stage memory present = present
freed_in (claims.ReadLink q t) stage memory present = present
freed_in (claims.Take q t next) stage memory present = present
freed_in (claims.StoreUsed q t) stage memory present = present
freed_in (claims.Withdraw own) stage memory present = present

-- the first store of 0 of a `new` takes the name away that the slot of its cradle has
abbrev pub emptied_at : ℕ → ℕ → (ℕ → ℕ) → ℕ → ℕ
emptied_at zero slot present = put present slot 0
emptied_at (suc field) slot present = present

-- and with the last comes the name that is drawn
abbrev pub named_at : Bool → ℕ → ℕ → (ℕ → ℕ) → ℕ → ℕ
named_at true slot drawn present = present
named_at false slot drawn present = put present slot drawn

-- after the access that an entry makes at a routine, where `drawn` is the least name above all used ones
abbrev pub present_at : Target → (Word → ℕ) → ℕ → Entry → Routine → (ℕ → ℕ) → ℕ → ℕ
present_at target memory drawn e Idle present = present
present_at target memory drawn e (LoadSeen why) present = present
present_at target memory drawn e At present = present
present_at target memory drawn e (InList k) present = present
present_at target memory drawn e (Retires retirement go) present = present
present_at target memory drawn e Restarts present = present
present_at target memory drawn e (Clears next) present = present
present_at target memory drawn e (Claims claim) present = freed_in claim.stage claim.sweep.stage memory present
present_at target memory drawn e (Zeroes k field) present = named_at (nat_lt (field + 1) (zero_count target (instr_in target e))) (cradle_of e k) drawn (emptied_at field (cradle_of e k) present)
present_at target memory drawn e (Announces announcing) present = present
