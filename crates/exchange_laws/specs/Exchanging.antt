-- An auxiliary exchange and the retirement after it: that their lines make their accesses.
use Rattle.std.specs.Prelude.{◌≡◌, ◌≢◌, ℕ, ◌+◌, ◌<◌, true, false, List, Option, Some, None}
use Rattle.norm_lang.specs.declared.text.Reg.{Reg}
use Rattle.norm_lang.specs.declared.text.Reg.TheVariants.{Num, Ref}
use Rattle.norm_lang.specs.declared.text.Place.{Place}
use Rattle.norm_lang.specs.declared.text.Place.TheVariants as places
use Rattle.norm_lang.specs.declared.text.CasEntry.{CasEntry}
use Rattle.norm_lang.specs.declared.text.Instr.TheVariants as instr
use Rattle.target_code.specs.declared.target.TargetInstr.TheVariants.{Plain}
use Rattle.target_code.specs.declared.target.Target.{Target}
use Rattle.oa_words.specs.Packed.{status_word}
use Rattle.oa_words.specs.declared.packed.Kind.TheVariants as kinds
use Rattle.phase_pools.specs.declared.stages.RetireStage.{RetireStage}
use Rattle.phase_pools.specs.declared.stages.RetireStage.TheVariants as stages
use Rattle.phase_pools.specs.Pools.{Retirement, retire_begun}
use Rattle.caller_parts.specs.declared.routine.AfterRetire.{AfterRetire}
use Rattle.caller_parts.specs.declared.routine.AfterRetire.TheVariants as retires
use Rattle.caller_parts.specs.declared.routine.Routine.TheVariants.{Retires}
use Rattle.caller_parts.specs.Operands.{succeeds, to_retire}
use Rattle.caller_parts.specs.Settings.{Setting}
use Rattle.caller_steps.specs.Entries.{Entry}
use Rattle.caller_steps.specs.After.{after, counted, with_access, with_routine}
use Rattle.c_language.specs.declared.lines.Line.{Line}
use Rattle.c_language.specs.Steps.{Pool, Frame}
use Rattle.c_language.specs.Runs.{Comes}
use Rattle.c_runtime.specs.KindLines.{HasLines}
use Rattle.c_emission.specs.Exchanges.{cas_block, cas_size, place_size, retire_lines}
use Rattle.emission_laws.specs.Hands.{StandsFor}
use Rattle.emission_laws.specs.Making.{RunsFor, GoesOn, SettlesAt, MakesAccess, HasNumber}
use Rattle.emission_laws.specs.Accesses.{AtBlock, HasField}

-- ---- what an exchange works on

-- the object of a field is null or a node that has it
abbrev pub FitsPlace : Target → Setting → Entry → Place → Type 0
FitsPlace target setting e (places.Root x) = Unit {0}
FitsPlace target setting e (places.Field (Num a) f) = ⊥
FitsPlace target setting e (places.Field (Ref a) f) = HasField target setting e a f

-- what is retired stands in a register of references
abbrev pub FitsRetired : Option Reg → Type 0
FitsRetired None = Unit {0}
FitsRetired (Some (Num r)) = ⊥
FitsRetired (Some (Ref r)) = r < 8

pub record FitsExchange (target : Target) (setting : Setting) (e : Entry) (exchange : CasEntry) : Type 0 where
  pub place : FitsPlace target setting e exchange.place
  pub expected : HasNumber exchange.expected
  pub replacement : HasNumber exchange.replacement
  pub retired : FitsRetired exchange.retire

-- ---- retirements

-- the line of a retirement before its access
abbrev pub retire_line : RetireStage → ℕ
retire_line stages.ReadPhase = 2
retire_line (stages.StoreStatus p) = 5

-- the status to be, once the phase was loaded
abbrev pub HoldsStatus : RetireStage → (ℕ → ℕ) → Type 0
HoldsStatus stages.ReadPhase l = Unit {0}
HoldsStatus (stages.StoreStatus p) l = l 31 ≡ status_word p kinds.Retired

-- the frame stands for an entry in a retirement, whose lines begin at a line
pub record StandsRetiring (e : Entry) (retirement : Retirement) (base : ℕ) (f : Frame) : Type 0 where
  pub stands : StandsFor e e.hand.registers (base + retire_line retirement.stage) f
  pub slot : f.locals 30 ≡ retirement.slot
  pub status : HoldsStatus retirement.stage f.locals

-- after its access an entry is another one, which retires a slot now, and the frame stands for that
pub record RetiresNow (target : Target) (setting : Setting) (e : Entry) (word : ℕ) (entry : Entry) (retirement : Retirement) (go : AfterRetire) (base : ℕ) (f : Frame) : Type 0 where
  pub is : after target setting e word ≡ with_routine entry (Retires retirement go)
  pub stands : StandsRetiring entry retirement base f

-- an entry stands in a retirement, whose lines stand in the function, and so does the frame
pub record AtRetirement (pool : Pool) (code : List Line) (target : Target) (setting : Setting) (e : Entry) (retirement : Retirement) (go : AfterRetire) (r base : ℕ) (here : Frame) : Type 0 where
  pub runs : RunsFor pool target setting e
  pub at : e.routine ≡ Retires retirement go
  pub has : HasLines code base (retire_lines base (Some (Ref r)))
  pub stands : StandsRetiring e retirement base here

pub record RetirementsAreMade : Type 0 where
  -- the load of the phase leads to the store of the status
  pub phases : (pool : Pool) (code : List Line) (target : Target) (setting : Setting) (e : Entry) (slot : ℕ) (go : AfterRetire) (r base : ℕ) (here : Frame)
      → AtRetirement pool code target setting e (retire_begun slot) go r base here
      → MakesAccess pool code target setting e
      (λ word. RetiresNow target setting e word (counted e) (record { slot = slot; stage = stages.StoreStatus word }) go base) here
  -- and that to the next instruction, if the exchange was an auxiliary one
  pub stores : (pool : Pool) (code : List Line) (target : Target) (setting : Setting) (e : Entry) (slot p : ℕ) (r base : ℕ) (here : Frame)
      → AtRetirement pool code target setting e (record { slot = slot; stage = stages.StoreStatus p }) retires.Next r base here
      → MakesAccess pool code target setting e (λ word. GoesOn target setting e word (base + 6)) here

-- ---- auxiliary exchanges

-- after an auxiliary exchange, whose block begins at a line: the line of its jump if it failed, and the next block if it succeeded and there is
-- nothing to retire; else the retirement, of the slot that the register names
pub record Exchanged (target : Target) (setting : Setting) (e : Entry) (exchange : CasEntry) (l failed base word : ℕ) (f : Frame) : Type 0 where
  pub fails : succeeds exchange e.hand.registers word ≡ false → SettlesAt target setting e word e.hand.wrapup l failed f
  pub goes : succeeds exchange e.hand.registers word ≡ true → to_retire exchange.retire e.hand.registers ≡ 0
      → GoesOn target setting e word (base + cas_size exchange) f
  pub retires : succeeds exchange e.hand.registers word ≡ true → to_retire exchange.retire e.hand.registers ≢ 0
      → RetiresNow target setting e word (with_access (counted e)) (retire_begun (to_retire exchange.retire e.hand.registers)) retires.Next
      (base + place_size exchange.place) f

abbrev pub ExchangesAreMade : Type 0
ExchangesAreMade = (pool : Pool) (code : List Line) (target : Target) (setting : Setting) (e : Entry) (exchange : CasEntry) (l failed base : ℕ) (here : Frame)
    → AtBlock pool code target setting e (Plain (instr.Cas exchange l)) (cas_block target.fields base exchange failed) base here
    → FitsExchange target setting e exchange
    → Comes pool code here (MakesAccess pool code target setting e (Exchanged target setting e exchange l failed base))
