-- Clears of hazards: where one has come to, and what follows it.
use Rattle.std.specs.Prelude.{◌≡◌, ◌≢◌, ℕ, suc, ◌+◌, ◌<◌, Bool, false, List, Option, Some, None}
use Rattle.target_code.specs.declared.target.Target.{Target}
use Rattle.oa_words.specs.Words.{Sizes, Hazard}
use Rattle.phase_pools.specs.Accesses.{Stores}
use Rattle.guard_words.specs.Guards.{Guards, IsRow, with_guard, is_spared, next_to_clear}
use Rattle.caller_parts.specs.declared.routine.AfterClear.{AfterClear}
use Rattle.caller_parts.specs.declared.routine.Routine.TheVariants.{Restarts, Clears}
use Rattle.caller_parts.specs.Settings.{Setting}
use Rattle.caller_parts.specs.Spared.{restart_spares, then_spares}
use Rattle.caller_steps.specs.Entries.{Entry, op_of}
use Rattle.caller_steps.specs.Clearing.{restart_next, clear_next}
use Rattle.caller_steps.specs.After.{after, cleared, restarted}
use Rattle.c_language.specs.declared.lines.Line.{Line}
use Rattle.c_language.specs.Steps.{Pool, Frame, Wants, stop}
use Rattle.c_language.specs.Runs.{Comes}
use Rattle.c_runtime.specs.KindLines.{HasLines}
use Rattle.c_emission.specs.Blocks.{clear_lines, clear_size}
use Rattle.emission_laws.specs.Hands.{HoldsSlots, StandsFor}
use Rattle.emission_laws.specs.Making.{RunsFor, MakesAccess}

-- before the store to a register's hazard, the rest of the clear after it; the clear ends at a line
pub record AtStore (code : List Line) (spared : List Bool) (end k : ℕ) (f : Frame) : Type 0 where
  pub base : ℕ
  pub more : ℕ
  pub has : HasLines code base (clear_lines spared base k (suc more))
  pub sum : k + suc more ≡ 8
  pub kept : is_spared spared k ≡ false
  pub at : f.at ≡ base + 1
  pub ends : end ≡ base + clear_size spared k (suc more)

-- where a clear has come to: before the store for a register, or past its end
abbrev pub ClearGoes : List Line → List Bool → ℕ → Option ℕ → Frame → Type 0
ClearGoes code spared end None f = f.at ≡ end
ClearGoes code spared end (Some k) f = AtStore code spared end k f

-- its locals hold what stands in the hazards; all others, and what belongs to the caller, are as they were
pub record Clearing (code : List Line) (spared : List Bool) (end : ℕ) (guards : Guards) (from to : Frame) : Type 0 where
  pub goes : ClearGoes code spared end (next_to_clear guards spared) to
  pub slots : HoldsSlots guards.slots to.locals
  pub others : (x : ℕ) → ((r : ℕ) → r < 8 → x ≢ 21 + r) → to.locals x ≡ from.locals x
  pub kept : to.kept ≡ from.kept

pub record ClearsAreMade : Type 0 where
  -- a clear's first line leads to the store for the first register to clear
  pub begins : (pool : Pool) (code : List Line) (spared : List Bool) (base : ℕ) (guards : Guards) (f : Frame)
      → IsRow guards
      → HasLines code base (clear_lines spared base 0 8) → f.at ≡ base → HoldsSlots guards.slots f.locals
      → Comes pool code f (Clearing code spared (base + clear_size spared 0 8) guards f)
  -- and each store to that for the next
  pub stores : (pool : Pool) (code : List Line) (spared : List Bool) (end k : ℕ) (guards : Guards) (f : Frame)
      → IsRow guards
      → AtStore code spared end k f → HoldsSlots guards.slots f.locals → next_to_clear guards spared ≡ Some k
      → (next : ℕ → Frame) × (stop pool code f ≡ Wants (Stores (Hazard pool.own k) 0) next)
      × ((word : ℕ) → Comes pool code (next word) (Clearing code spared end (with_guard guards k 0) f))

-- ---- beside an entry

-- an entry's clear has come to the store for a register, or to its end
pub record StandsClearing (code : List Line) (spared : List Bool) (end : ℕ) (e : Entry) (next : Option ℕ)
    (f : Frame) : Type 0 where
  pub goes : ClearGoes code spared end next f
  pub stands : StandsFor e e.hand.registers f.at f

-- what the core comes to is a clear of an entry of the same call, with what follows it, and the frame has come as far
pub record ClearsFrom (target : Target) (sizes : Sizes) (settled e : Entry) (next : AfterClear) (code : List Line)
    (end : ℕ) (f : Frame) : Type 0 where
  pub entry : Entry
  pub is : settled ≡ cleared target sizes next entry
  pub op : entry.running.call.op ≡ e.running.call.op
  pub stands : StandsClearing code (then_spares next (op_of target entry)) end entry (clear_next target next entry) f

-- the same of the clear of a restart
pub record RestartsFrom (target : Target) (sizes : Sizes) (settled e : Entry) (code : List Line) (end : ℕ)
    (f : Frame) : Type 0 where
  pub entry : Entry
  pub is : settled ≡ (restarted target sizes entry).entry
  pub op : entry.running.call.op ≡ e.running.call.op
  pub method : entry.hand.wrapup ≡ e.hand.wrapup
  pub stands : StandsClearing code (restart_spares entry.hand.wrapup (op_of target entry)) end entry
      (restart_next target entry) f

pub record EntriesClear : Type 0 where
  -- from the first line of a clear on
  pub begins : (pool : Pool) (code : List Line) (spared : List Bool) (base : ℕ) (e : Entry) (f : Frame)
      → IsRow e.hand.guards
      → HasLines code base (clear_lines spared base 0 8) → StandsFor e e.hand.registers base f
      → Comes pool code f
      (StandsClearing code spared (base + clear_size spared 0 8) e (next_to_clear e.hand.guards spared))
  -- a caller in a clear makes the store that its entry wants
  pub clears : (pool : Pool) (code : List Line) (target : Target) (setting : Setting) (e : Entry) (next : AfterClear)
      (end k : ℕ) (f : Frame)
      → RunsFor pool target setting e → e.routine ≡ Clears next → clear_next target next e ≡ Some k
      → StandsClearing code (then_spares next (op_of target e)) end e (Some k) f
      → MakesAccess pool code target setting e
      (λ word. ClearsFrom target setting.sizes (after target setting e word) e next code end) f
  pub restarts : (pool : Pool) (code : List Line) (target : Target) (setting : Setting) (e : Entry) (end k : ℕ)
      (f : Frame)
      → RunsFor pool target setting e → e.routine ≡ Restarts → restart_next target e ≡ Some k
      → StandsClearing code (restart_spares e.hand.wrapup (op_of target e)) end e (Some k) f
      → MakesAccess pool code target setting e
      (λ word. RestartsFrom target setting.sizes (after target setting e word) e code end) f
