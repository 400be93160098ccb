-- The list of a commit: that the lines of each of its exchanges make its access, and where the list ends.
use Rattle.std.specs.Prelude.{◌≡◌, ◌≢◌, ℕ, zero, suc, ◌+◌, ◌≤◌, ◌<◌, true, false, List, [], ◌∷◌, length, Some, slice_get}
use Rattle.norm_lang.specs.declared.text.Reg.TheVariants.{Ref}
use Rattle.norm_lang.specs.declared.text.CasEntry.{CasEntry}
use Rattle.norm_lang.specs.declared.text.Instr.TheVariants as instr
use Rattle.target_code.specs.declared.target.TargetInstr.TheVariants.{Plain}
use Rattle.target_code.specs.declared.target.Target.{Target}
use Rattle.oa_words.specs.Words.{Sizes}
use Rattle.phase_pools.specs.declared.stages.RetireStage.TheVariants as stages
use Rattle.phase_pools.specs.Pools.{retire_begun}
use Rattle.caller_parts.specs.declared.routine.AfterRetire.TheVariants as retires
use Rattle.caller_parts.specs.declared.routine.Routine.TheVariants.{At, InList}
use Rattle.caller_parts.specs.Operands.{succeeds, to_retire}
use Rattle.caller_parts.specs.Settings.{Setting, Fits}
use Rattle.caller_steps.specs.Entries.{Entry, instr_in}
use Rattle.caller_steps.specs.After.{after, counted, with_routine, with_published, list_ended, list_begun}
use Rattle.c_language.specs.declared.lines.Line.{Line}
use Rattle.c_language.specs.Steps.{Pool, Frame}
use Rattle.c_language.specs.Runs.{Comes}
use Rattle.c_runtime.specs.KindLines.{HasLines}
use Rattle.c_emission.specs.Exchanges.{place_size, published_size, entry_size, commit_block}
use Rattle.emission_laws.specs.Hands.{StandsFor}
use Rattle.emission_laws.specs.Making.{RunsFor, MakesAccess}
use Rattle.exchange_laws.specs.Exchanging.{FitsExchange, RetiresNow, AtRetirement}

-- how many lines of a list stand before an exchange
abbrev pub lines_before : ℕ → List CasEntry → ℕ → ℕ
lines_before kinds [] k = 0
lines_before kinds (exchange ∷ exchanges) zero = 0
lines_before kinds (exchange ∷ exchanges) (suc k) = entry_size kinds exchange + lines_before kinds exchanges k

-- and before what is retired after it, counted from the first line of its own
abbrev pub lines_to_retire : ℕ → CasEntry → ℕ
lines_to_retire kinds exchange = 1 + place_size exchange.place + published_size kinds exchange.replacement

-- a commit's list stands in the lines, from a line on
pub record HasList (pool : Pool) (code : List Line) (target : Target) (setting : Setting) (e : Entry) (exchanges : List CasEntry) (wrap_up base : ℕ) : Type 0 where
  pub runs : RunsFor pool target setting e
  pub fits : Fits target setting
  pub is : instr_in target e ≡ Some (Plain (instr.Commit exchanges))
  pub has : HasLines code base (commit_block target.fields (length target.kinds) wrap_up base 0 exchanges)

-- what an entry has become is the end of its list, so many exchanges having succeeded: the frame stands at the wrap-up's first line, with that count
pub record ListEnds (target : Target) (sizes : Sizes) (settled entry : Entry) (made wrap_up : ℕ) (f : Frame) : Type 0 where
  pub is : settled ≡ list_ended target sizes made entry
  pub stands : StandsFor entry entry.hand.registers wrap_up f
  pub count : f.locals 32 ≡ made

-- or the next exchange of the list is due, and the frame stands at its first line
pub record ListGoes (settled entry : Entry) (k line : ℕ) (f : Frame) : Type 0 where
  pub is : settled ≡ with_routine entry (InList k)
  pub stands : StandsFor entry entry.hand.registers line f

-- so many exchanges have succeeded, with all that follows each
pub record ListIsOn (target : Target) (setting : Setting) (settled entry : Entry) (exchanges : List CasEntry) (made wrap_up base : ℕ) (f : Frame) : Type 0 where
  pub goes : made < length exchanges → ListGoes settled entry made (base + lines_before (length target.kinds) exchanges made) f
  pub ends : length exchanges ≤ made → ListEnds target setting.sizes settled entry made wrap_up f

-- after an exchange of the list
pub record Listed (target : Target) (setting : Setting) (e : Entry) (exchanges : List CasEntry) (k : ℕ) (exchange : CasEntry) (wrap_up base word : ℕ) (f : Frame) : Type 0 where
  pub fails : succeeds exchange e.hand.registers word ≡ false → ListEnds target setting.sizes (after target setting e word) (counted e) k wrap_up f
  pub goes : succeeds exchange e.hand.registers word ≡ true → to_retire exchange.retire e.hand.registers ≡ 0
      → ListIsOn target setting (after target setting e word) (with_published exchange.replacement (counted e)) exchanges (k + 1) wrap_up base f
  pub retires : succeeds exchange e.hand.registers word ≡ true → to_retire exchange.retire e.hand.registers ≢ 0
      → RetiresNow target setting e word (with_published exchange.replacement (counted e)) (retire_begun (to_retire exchange.retire e.hand.registers))
      (retires.List k) (base + lines_before (length target.kinds) exchanges k + lines_to_retire (length target.kinds) exchange) f

pub record ListsAreMade : Type 0 where
  -- a commit begins: with its first exchange, or, if it has none, with its end
  pub begins : (pool : Pool) (code : List Line) (target : Target) (setting : Setting) (e : Entry) (exchanges : List CasEntry) (wrap_up base : ℕ) (here : Frame)
      → HasLines code base (commit_block target.fields (length target.kinds) wrap_up base 0 exchanges) → StandsFor e e.hand.registers base here
      → Comes pool code here (ListIsOn target setting (list_begun target setting.sizes exchanges e).entry e exchanges 0 wrap_up base)
  -- each exchange of the list
  pub exchanges : (pool : Pool) (code : List Line) (target : Target) (setting : Setting) (e : Entry) (exchanges : List CasEntry) (k : ℕ) (exchange : CasEntry) (wrap_up base : ℕ) (here : Frame)
      → HasList pool code target setting e exchanges wrap_up base → e.routine ≡ InList k → slice_get exchanges k ≡ Some exchange
      → FitsExchange target setting e exchange → StandsFor e e.hand.registers (base + lines_before (length target.kinds) exchanges k) here
      → Comes pool code here (MakesAccess pool code target setting e (Listed target setting e exchanges k exchange wrap_up base))
  -- and the end of a retirement after one
  pub retirements : (pool : Pool) (code : List Line) (target : Target) (setting : Setting) (e : Entry) (exchanges : List CasEntry) (k : ℕ) (exchange : CasEntry) (wrap_up base r slot p : ℕ) (here : Frame)
      → HasList pool code target setting e exchanges wrap_up base → slice_get exchanges k ≡ Some exchange → exchange.retire ≡ Some (Ref r)
      → AtRetirement pool code target setting e (record { slot = slot; stage = stages.StoreStatus p }) (retires.List k) r
      (base + lines_before (length target.kinds) exchanges k + lines_to_retire (length target.kinds) exchange) here
      → MakesAccess pool code target setting e
      (λ word. ListIsOn target setting (after target setting e word) (with_routine (counted e) At) exchanges (k + 1) wrap_up base) here
