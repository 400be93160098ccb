-- Where local code leads, its lines lead.
use Rattle.std.specs.Prelude.{◌≡◌, ◌≢◌, ℕ, ◌+◌, ◌≤◌, ◌<◌, Bool, List, length, Some, slice_get}
use Rattle.norm_lang.specs.declared.text.Reg.TheVariants.{Num, Ref}
use Rattle.norm_lang.specs.declared.text.Instr.{Instr}
use Rattle.norm_lang.specs.declared.text.Instr.TheVariants as instr
use Rattle.norm_lang.specs.declared.registers.Registers.{Registers}
use Rattle.norm_lang.specs.Local.{Spot, local_step}
use Rattle.target_code.specs.declared.target.TargetInstr.{TargetInstr}
use Rattle.target_code.specs.declared.target.TargetInstr.TheVariants.{Plain}
use Rattle.target_code.specs.declared.target.Target.{Target}
use Rattle.target_code.specs.LocalCode.{target_run}
use Rattle.oa_words.specs.Words.{Sizes}
use Rattle.caller_parts.specs.declared.setting.Reclamation.TheVariants.{Optimistic}
use Rattle.caller_parts.specs.Operands.{code_at}
use Rattle.caller_steps.specs.Entries.{Entry}
use Rattle.caller_steps.specs.After.{stopped}
use Rattle.c_language.specs.declared.lines.Line.{Line}
use Rattle.c_language.specs.Steps.{Pool, Frame}
use Rattle.c_language.specs.Runs.{Comes}
use Rattle.c_runtime.specs.KindLines.{HasLines}
use Rattle.c_emission.specs.Locals.{local_block}
use Rattle.emission_laws.specs.Hands.{Holds, AreWords, StandsFor}
use Rattle.emission_laws.specs.Making.{SettlesFrom}

-- a local instruction whose registers are of the kinds that it needs
abbrev pub FitsLocal : Instr → Type 0
FitsLocal (instr.Set (Num d) n) = d < 8
FitsLocal (instr.Mov (Num d) (Num a)) = (d < 8) × (a < 8)
FitsLocal (instr.Mov (Ref d) (Ref a)) = (d < 8) × (a < 8)
FitsLocal (instr.Add (Num d) (Num a) (Num b)) = (d < 8) × (a < 8) × (b < 8)
FitsLocal (instr.Sub (Num d) (Num a) (Num b)) = (d < 8) × (a < 8) × (b < 8)
FitsLocal (instr.Rem (Num d) (Num a) n) = (d < 8) × (a < 8) × (1 ≤ n)
FitsLocal (instr.Null (Ref d)) = d < 8
FitsLocal (instr.Unmark (Ref d) (Ref a)) = (d < 8) × (a < 8)
FitsLocal (instr.Mark (Ref d) (Ref a)) = (d < 8) × (a < 8)
FitsLocal (instr.Jump l) = Unit {0}
FitsLocal (instr.IfEq (Num a) (Num b) l) = (a < 8) × (b < 8)
FitsLocal (instr.IfEq (Ref a) (Ref b) l) = (a < 8) × (b < 8)
FitsLocal (instr.IfLess (Num a) (Num b) l) = (a < 8) × (b < 8)
FitsLocal (instr.IfMarked (Ref a) l) = a < 8
FitsLocal _ = ⊥

-- the blocks of a method's local instructions stand in a function's lines, one before the next
pub record LaysOut (code : List Line) (method : List TargetInstr) (start : ℕ → ℕ) : Type 0 where
  pub block : (at : ℕ) (i : Instr) → slice_get method at ≡ Some (Plain i) → FitsLocal i
      → HasLines code (start at) (local_block start i)
  pub after : (at : ℕ) (i : Instr) → slice_get method at ≡ Some (Plain i) → FitsLocal i
      → start (at + 1) ≡ start at + length (local_block start i)

abbrev pub AllFit : List TargetInstr → Type 0
AllFit method = (at : ℕ) (i : Instr) (registers : Registers) (spot : Spot) → slice_get method at ≡ Some (Plain i)
    → local_step i at registers ≡ Some spot → FitsLocal i

-- a frame stands at the first line of a spot's block, with its registers. Other locals that live, and what belongs to the caller, are as they were
pub record AtSpot (start : ℕ → ℕ) (spot : Spot) (from f : Frame) : Type 0 where
  pub at : f.at ≡ start spot.at
  pub held : Holds spot.registers f.locals
  pub words : AreWords spot.registers
  pub others : (x : ℕ) → 16 ≤ x → x ≢ 31 → f.locals x ≡ from.locals x
  pub kept : f.kept ≡ from.kept

-- what the core comes to is what it does where local code stops, and the frame stands for the entry there, at the block of its instruction
pub record StopsFrom (target : Target) (sizes : Sizes) (settled e : Entry) (wrapup : Bool) (start : ℕ → ℕ)
    (f : Frame) : Type 0 where
  pub entry : Entry
  pub is : settled ≡ (stopped Optimistic target sizes entry).entry
  pub op : entry.running.call.op ≡ e.running.call.op
  pub method : entry.hand.wrapup ≡ wrapup
  pub words : AreWords entry.hand.registers
  pub stands : StandsFor entry entry.hand.registers (start entry.hand.at) f

pub record LocalsAreMade : Type 0 where
  -- as many instructions of a method as there are to run
  pub run : (pool : Pool) (code : List Line) (method : List TargetInstr) (start : ℕ → ℕ) → LaysOut code method start
      → AllFit method
      → (n : ℕ) (spot : Spot) (from f : Frame) → AtSpot start spot from f
      → Comes pool code f (AtSpot start (target_run method n spot) from)
  -- and so where the core settles
  pub settles : (pool : Pool) (code : List Line) (target : Target) (sizes : Sizes) (settled e : Entry) (wrapup : Bool)
      (place : ℕ) (start : ℕ → ℕ) (f : Frame)
      → LaysOut code (code_at target e.running.call.op wrapup) start → AllFit (code_at target e.running.call.op wrapup)
      → SettlesFrom target sizes settled e wrapup place (start place) f
      → Comes pool code f (StopsFrom target sizes settled e wrapup start)
