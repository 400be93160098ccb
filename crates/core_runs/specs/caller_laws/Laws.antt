-- What holds of a caller of each target that it may run.
use Rattle.std.specs.Prelude.{◌≡◌, ◌≢◌, ℕ, ◌<◌, ◌^◌, Bool, true, false, Some, None}
use Rattle.norm_lang.specs.declared.text.Reg.{Reg}
use Rattle.norm_lang.specs.declared.text.Instr.TheVariants as instr
use Rattle.norm_lang.specs.declared.text.Text.{Text}
use Rattle.target_code.specs.declared.target.TargetInstr.TheVariants.{Plain}
use Rattle.target_code.specs.declared.target.Target.{Target}
use Rattle.target_laws.specs.target_runs.Runnable.{MayBeWalked}
use Rattle.oa_words.specs.Words.{Word}
use Rattle.phase_pools.specs.Accesses.{Stores}
use Rattle.caller_parts.specs.declared.call.Call.{Call}
use Rattle.caller_parts.specs.declared.routine.Routine.TheVariants.{At}
use Rattle.caller_parts.specs.Settings.{Setting, Fits, IsSetting}
use Rattle.caller_steps.specs.Entries.{Entry, idle_entry, is_idle, instr_in}
use Rattle.caller_parts.specs.Calls.{is_call}
use Rattle.caller_parts.specs.Operands.{slot_in, AreSlots, code_at, instr_at, is_new_at, cradle_count, cradle_number}
use Rattle.caller_steps.specs.Wants.{wants}
use Rattle.caller_steps.specs.After.{after, signs, taken}
use Rattle.caller_steps.specs.Lawful.{MayBeTold, AsksSafely}
use Rattle.caller_steps.specs.Belongs.{Belongs}
use Rattle.caller_steps.specs.Asking.{CanAsk, CanAccept, NewsFit}

-- of each target that callers may run, with a setting that fits it; texts needn't be proper
abbrev pub ForRuns : (Target → Setting → Type 0) → Type 0
ForRuns Holds = (target : Target) (text : Text) (setting : Setting) → MayBeWalked target text → IsSetting setting → Fits target setting → Holds target setting

-- an idle entry belongs, and one that belongs still does after it takes a call, and after what it wants finds a lawful word
pub record EntriesBelong (target : Target) (setting : Setting) : Type 0 where
  pub new : (c : ℕ) → c < setting.sizes.callers → Belongs target setting (idle_entry c)
  pub takes : (e : Entry) (call : Call) → is_call target call ≡ true → Belongs target setting e → Belongs target setting (taken setting.reclamation call e)
  pub steps : (e : Entry) (word : ℕ) → Belongs target setting e → MayBeTold target setting (wants target e) word → Belongs target setting (after target setting e word)

-- what it wants while a call runs is one access, to a word of the row that isn't a place word, which leaves a lawful word
-- lawful; an idle one wants nothing
pub record EntriesAskSafely (target : Target) (setting : Setting) : Type 0 where
  pub busy : (e : Entry) → Belongs target setting e → is_idle e.routine ≡ false → AsksSafely target setting (wants target e)
  pub idle : (e : Entry) → is_idle e.routine ≡ true → wants target e ≡ None

-- where it stands the code may ask for its access, and take a lawful word; the kinds of the nodes that it makes are kinds of the row. If slots
-- fit the type by which the code names them, its registers do
pub record EntriesFitCode (target : Target) (setting : Setting) : Type 0 where
  pub asks : (e : Entry) → Belongs target setting e → CanAsk target setting e e.routine
  pub accepts : (e : Entry) (word : ℕ) → Belongs target setting e → MayBeTold target setting (wants target e) word → CanAccept target setting e word e.routine
  pub news : NewsFit target setting.sizes
  pub near : (e : Entry) → Belongs target setting e → e.hand.at < 2 ^ 62
  pub slots : setting.sizes.slots < 2 ^ 32 → (e : Entry) → Belongs target setting e → AreSlots e.hand.registers × AreSlots e.hand.started

-- the word that a store found doesn't matter
pub record StoresTellNothing (target : Target) (setting : Setting) : Type 0 where
  pub each : (e : Entry) (w : Word) (x a b : ℕ) → wants target e ≡ Some (Stores w x)
      → (after target setting e a ≡ after target setting e b) × (signs target setting e a ≡ signs target setting e b)

-- a put writes to a node: its object isn't null
pub record PutsFindNodes (target : Target) (setting : Setting) : Type 0 where
  pub each : (e : Entry) (a b : Reg) (f : ℕ) → Belongs target setting e → e.routine ≡ At → instr_in target e ≡ Some (Plain (instr.Put a f b))
      → slot_in e.hand.registers a ≢ 0

-- each `new` of a method has a cradle, and different ones have different cradles
pub record NewsHaveCradles (target : Target) (setting : Setting) : Type 0 where
  pub each : (op : ℕ) (wrapup : Bool) (at : ℕ) → is_new_at (instr_at target op wrapup at) ≡ true → cradle_number (code_at target op wrapup) at < cradle_count
  pub apart : (op : ℕ) (wrapup : Bool) (a b : ℕ) → is_new_at (instr_at target op wrapup a) ≡ true → is_new_at (instr_at target op wrapup b) ≡ true → a ≢ b
      → cradle_number (code_at target op wrapup) a ≢ cradle_number (code_at target op wrapup) b
