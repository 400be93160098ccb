-- Each step of a caller that runs C is a step of the entry beside it, or changes nothing.
use Rattle.std.specs.Prelude.{◌≡◌, ◌⊎◌, ℕ, ◌<◌, true, ◌||◌, not, Some}
use Rattle.target_code.specs.declared.target.Target.{Target}
use Rattle.phase_pools.specs.Accesses.{WordAccess, word_of, word_after}
use Rattle.caller_parts.specs.declared.call.Call.{Call}
use Rattle.caller_parts.specs.declared.setting.Reclamation.TheVariants.{Optimistic}
use Rattle.caller_parts.specs.Settings.{Setting}
use Rattle.caller_parts.specs.Calls.{is_call}
use Rattle.caller_steps.specs.Entries.{Entry, idle_entry, is_idle}
use Rattle.caller_steps.specs.Wants.{wants}
use Rattle.caller_steps.specs.After.{after, taken}
use Rattle.caller_steps.specs.Lawful.{MayBeTold}
use Rattle.caller_steps.specs.Belongs.{Belongs}
use Rattle.oa_simulation.specs.Statements.{AgreesWith}
use Rattle.oa_simulation.specs.sim_relation.Callers.{replies_of}
use Rattle.c_runs.specs.Machine.{Functions, Goes, Wants, Rests, Strays, rests}

-- the access leaves what the wanted one would, and the callers go on side by side
pub record Makes {C : Type 0} (target : Target) (setting : Setting) (R : Entry → C → Type 0) (e : Entry) (a wanted : WordAccess) (word : ℕ) (x : C) : Type 0 where
  pub leaves : word_after a word ≡ word_after wanted word
  pub related : R (after target setting e word) x

-- the access changes nothing, and the entry waits; so a loop may stand for a raise of a warning, which C doesn't have
pub record Waits {C : Type 0} (R : Entry → C → Type 0) (e : Entry) (a : WordAccess) (word : ℕ) (x : C) : Type 0 where
  pub leaves : word_after a word ≡ word
  pub related : R e x

-- an access to the word that the entry wants: whatever the entry may be told, it is the entry's access, or the entry waits
pub record Asks {C : Type 0} (target : Target) (setting : Setting) (R : Entry → C → Type 0) (e : Entry) (a : WordAccess) (next : ℕ → C) : Type 0 where
  pub wanted : WordAccess
  pub wants : wants target e ≡ Some wanted
  pub same : word_of a ≡ word_of wanted
  pub each : (word : ℕ) → MayBeTold target setting (Some wanted) word → Makes target setting R e a wanted word (next word) ⊎ Waits R e a word (next word)

-- what the calls of a caller have returned is what those of its entry got. An entry gets its reply by its last access, so while the caller goes
-- on to its end, the entry may have one reply more
abbrev pub RepliesAgree : {C : Type 0} → Functions C → Entry → C → Type 0
RepliesAgree code e x = AgreesWith (rests (code.move x) || not (is_idle e.routine)) (code.replies x) (replies_of e)

-- the relation R holds of idle entries and callers at the start, and is kept by every call, local step and access. Beside an entry that belongs, a
-- caller that is in the relation rests only if the entry is idle, never strays, and makes no access but the entry's
pub record Matches {C : Type 0} (target : Target) (setting : Setting) (code : Functions C) (R : Entry → C → Type 0) : Type 0 where
  pub starts : (c : ℕ) → c < setting.sizes.callers → R (idle_entry c) (code.start c)
  pub rests : (e : Entry) (x : C) → R e x → Belongs target setting e → code.move x ≡ Rests → is_idle e.routine ≡ true
  pub calls : (e : Entry) (x : C) (call : Call) → R e x → Belongs target setting e → code.move x ≡ Rests → is_call target call ≡ true
      → R (taken Optimistic call e) (code.call call x)
  pub goes : (e : Entry) (x y : C) → R e x → Belongs target setting e → code.move x ≡ Goes y → R e y
  pub accesses : (e : Entry) (x : C) (a : WordAccess) (next : ℕ → C) → R e x → Belongs target setting e → code.move x ≡ Wants a next
      → Asks target setting R e a next
  pub strays : (e : Entry) (x : C) → R e x → Belongs target setting e → code.move x ≡ Strays → ⊥
  pub replies : (e : Entry) (x : C) → R e x → Belongs target setting e → RepliesAgree code e x
