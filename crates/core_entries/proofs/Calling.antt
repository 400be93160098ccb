-- What the calls of an entry need and keep.
use Rattle.std.proofs.Common.{◌≡◌, ◌≢◌, ℕ, ◌<◌, ◌^◌, Bool, true, false, List, length, Option, Some, None, refl, sym, ◌∙◌, subst, not, ⊎_elim}
use Rattle.std.specs.Prelude.{is_some}
use Rattle.target_code.specs.declared.target.Target.{Target}
use Rattle.oa_words.specs.Words.{address_of, word_count}
use Rattle.oa_words.proofs.Places.{within}
use Rattle.phase_pools.specs.Accesses.{WordAccess, word_of, located, Loads}
use Rattle.caller_parts.specs.declared.call.Call.{Call}
use Rattle.caller_parts.specs.declared.call.Replied.{Replied}
use Rattle.caller_parts.specs.Settings.{Setting, IsSetting}
use Rattle.caller_parts.specs.declared.setting.Reclamation.{Reclamation}
use Rattle.caller_steps.specs.Entries.{Entry, idle_entry, is_idle}
use Rattle.caller_parts.specs.Calls.{is_call}
use Rattle.caller_steps.specs.Wants.{wants}
use Rattle.caller_steps.specs.After.{after, taken, counted}
use Rattle.caller_steps.specs.Lawful.{MayBeTold, AsksSafely}
use Rattle.caller_steps.specs.Asking.{located_option, CanAsk, CanAccept, NewsFit}
use Rattle.caller_parts.specs.Operands.{AreSlots}
use Rattle.core_runs.specs.caller_laws.Laws.{EntriesAskSafely}
use Rattle.core_runs.proofs.caller_laws.Beginning.{idle_belongs, taken_belongs}
use Rattle.core_runs.proofs.caller_laws.Together.{methods, belong, fits_code, safe}
use Rattle.core_runs.specs.Advances.{RunsOn, Ends}
use Rattle.core_runs.proofs.Advancing.{runs_end}
use Rattle.barrier_check.specs.Paired.{Paired, IsSound}
use Rattle.core_ground.specs.Ports.{at_of}
use Rattle.core_ground.specs.Running.{MayRun}
use Rattle.core_ground.proofs.Runnable.{runnable}
use Rattle.core_entries.specs.Callers.{BelongsTo, BelongsToAll, StaysWithAll, IsInRow}

pub new_belongs : (c : ℕ) → BelongsToAll (idle_entry c)
new_belongs c = record {
  each = λ pair setting sound fits lt. record { fits = fits; belongs = idle_belongs pair.target setting c (methods pair.target pair.source (runnable pair sound)) lt };
  any = λ pair setting runs fits lt. record { fits = fits; belongs = idle_belongs pair.target setting c (methods pair.target pair.source runs) lt };
}

pub begins : (by : Reclamation) (pair : Paired) (call : Call) (e : Entry) → MayRun pair → is_call pair.target call ≡ true → StaysWithAll by pair e (taken by call e)
begins by pair call e sound is = record {
  each = λ setting scheme b. record {
    fits = b.fits;
    belongs = taken_belongs pair.target setting by call e (methods pair.target pair.source sound) scheme is b.belongs;
  };
}

-- ---- what the code may ask and be told

pub asks : (pair : Paired) (target : Target) (setting : Setting) (e : Entry) → target ≡ pair.target → MayRun pair → IsSetting setting → BelongsTo pair setting e
    → CanAsk target setting e e.routine
asks pair target setting e same sound own b =
    subst (λ (t : Target). CanAsk t setting e e.routine) (sym same) ((fits_code pair.target pair.source setting sound own b.fits).asks e b.belongs)

pub told : (pair : Paired) (target : Target) (setting : Setting) (e : Entry) (word : ℕ) → target ≡ pair.target → MayRun pair → IsSetting setting → BelongsTo pair setting e
    → MayBeTold pair.target setting (wants pair.target e) word → CanAccept target setting e word e.routine
told pair target setting e word same sound own b lawful =
    subst (λ (t : Target). CanAccept t setting e word e.routine) (sym same) ((fits_code pair.target pair.source setting sound own b.fits).accepts e word b.belongs lawful)

-- each `new` of its code is of a kind of the row
pub news : (pair : Paired) (target : Target) (setting : Setting) (e : Entry) → target ≡ pair.target → MayRun pair → IsSetting setting → BelongsTo pair setting e → NewsFit target setting.sizes
news pair target setting e same sound own b =
    subst (λ (t : Target). NewsFit t setting.sizes) (sym same) (fits_code pair.target pair.source setting sound own b.fits).news

-- its number is one of the row's
pub numbered : (pair : Paired) (setting : Setting) (e : Entry) → BelongsTo pair setting e → e.number < setting.sizes.callers
numbered pair setting e b = b.belongs.number

pub near : (pair : Paired) (setting : Setting) (e : Entry) → MayRun pair → IsSetting setting → BelongsTo pair setting e → e.hand.at < 2 ^ 62
near pair setting e sound own b = (fits_code pair.target pair.source setting sound own b.fits).near e b.belongs

pub slots : (pair : Paired) (setting : Setting) (e : Entry) → MayRun pair → IsSetting setting → setting.sizes.slots < 2 ^ 32 → BelongsTo pair setting e → AreSlots e.hand.registers
slots pair setting e sound own few b = ((fits_code pair.target pair.source setting sound own b.fits).slots few e b.belongs).0

pub keeps : (pair : Paired) (setting : Setting) (e : Entry) (word : ℕ) → MayRun pair → IsSetting setting → BelongsTo pair setting e
    → MayBeTold pair.target setting (wants pair.target e) word → BelongsTo pair setting (after pair.target setting e word)
keeps pair setting e word sound own b lawful =
    record { fits = b.fits; belongs = (belong pair.target pair.source setting sound own b.fits).steps e word b.belongs lawful }

-- ---- what it wants

-- a caller that wants an access runs
busy_by : (pair : Paired) (setting : Setting) (e : Entry) → MayRun pair → IsSetting setting → BelongsTo pair setting e → wants pair.target e ≢ None
    → (b : Bool) → is_idle e.routine ≡ b → is_idle e.routine ≡ false
busy_by pair setting e sound own b some false idle = idle
busy_by pair setting e sound own b some true idle = absurd (some ((safe pair.target pair.source setting sound own b.fits).idle e idle))

pub runs : (pair : Paired) (setting : Setting) (e : Entry) → MayRun pair → IsSetting setting → BelongsTo pair setting e → wants pair.target e ≢ None → is_idle e.routine ≡ false
runs pair setting e sound own b some = busy_by pair setting e sound own b some (is_idle e.routine) refl

pub at_located : (setting : Setting) (a : WordAccess) → at_of (located setting.sizes a) ≡ address_of setting.sizes (word_of a)
at_located setting (Loads w) = refl
at_located setting _ = refl

-- one that runs wants an access to a word of the row, and an idle one none
in_row : (pair : Paired) (setting : Setting) (e : Entry) → MayRun pair → IsSetting setting → BelongsTo pair setting e
    → (is_some (located_option setting.sizes (wants pair.target e)) ≡ not (is_idle e.routine)) × IsInRow setting (located_option setting.sizes (wants pair.target e))
in_row pair setting e sound own b = by (wants pair.target e) refl (is_idle e.routine) refl where
  law : EntriesAskSafely pair.target setting
  law = safe pair.target pair.source setting sound own b.fits

  asked : (o : Option WordAccess) → wants pair.target e ≡ o → is_idle e.routine ≡ false → AsksSafely pair.target setting o
  asked o is busy = subst (λ (o : Option WordAccess). AsksSafely pair.target setting o) is (law.busy e b.belongs busy)

  by : (o : Option WordAccess) → wants pair.target e ≡ o → (i : Bool) → is_idle e.routine ≡ i
      → (is_some (located_option setting.sizes o) ≡ not i) × IsInRow setting (located_option setting.sizes o)
  by None is true idle = (refl, tt)
  by None is false idle = absurd (asked None is idle)
  by (Some a) is true idle = absurd (let z : Some a ≡ None = sym is ∙ law.idle e idle in cc)
  by (Some a) is false idle =
      (refl, subst (λ (at : ℕ). at < word_count setting.sizes) (sym (at_located setting a)) (within setting.sizes (word_of a) (asked (Some a) is idle).row))

pub wanted : (pair : Paired) (setting : Setting) (e : Entry) → MayRun pair → IsSetting setting → BelongsTo pair setting e
    → is_some (located_option setting.sizes (wants pair.target e)) ≡ not (is_idle e.routine)
wanted pair setting e sound own b = (in_row pair setting e sound own b).0

pub row : (pair : Paired) (setting : Setting) (e : Entry) → MayRun pair → IsSetting setting → BelongsTo pair setting e → IsInRow setting (located_option setting.sizes (wants pair.target e))
row pair setting e sound own b = (in_row pair setting e sound own b).1

-- a step keeps the room: the call runs on with the same replies, or the entry is idle
pub room_kept : (target : Target) (setting : Setting) (e : Entry) (room word : ℕ) → is_idle e.routine ≡ false → length e.replies < room
    → is_idle (after target setting e word).routine ≡ false → length (after target setting e word).replies < room
room_kept target setting e room word busy spare runs = ⊎_elim
    (λ (t : RunsOn (counted e) (after target setting e word)). subst (λ (r : List Replied). length r < room) (sym t.1) spare)
    (λ (t : Ends (counted e) (after target setting e word)). absurd (let no : true ≡ false = sym t.1 ∙ runs in cc))
    ((runs_end target setting).one e word busy)
