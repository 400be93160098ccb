-- That the lines of an instruction make its access.
use Rattle.std.specs.Prelude.{◌≡◌, ◌≢◌, ℕ, ◌+◌, ◌≤◌, ◌<◌, List, Some, length}
use Rattle.norm_lang.specs.declared.text.Reg.{Reg}
use Rattle.norm_lang.specs.declared.text.Reg.TheVariants.{Num, Ref}
use Rattle.norm_lang.specs.declared.text.Instr.TheVariants as instr
use Rattle.norm_lang.specs.KindFields.{place_of}
use Rattle.target_code.specs.declared.target.TargetInstr.{TargetInstr}
use Rattle.target_code.specs.declared.target.TargetInstr.TheVariants.{Plain, Check, Guard}
use Rattle.target_code.specs.declared.target.Target.{Target}
use Rattle.oa_words.specs.SlotKinds.{IsNullOrOf}
use Rattle.caller_parts.specs.declared.routine.Routine.TheVariants.{At}
use Rattle.caller_parts.specs.Settings.{Setting}
use Rattle.caller_parts.specs.Operands.{slot_in}
use Rattle.caller_steps.specs.Entries.{Entry, instr_in}
use Rattle.caller_steps.specs.After.{after, check_failed, counted}
use Rattle.c_language.specs.declared.lines.Line.{Line}
use Rattle.c_language.specs.Steps.{Pool, Frame}
use Rattle.c_language.specs.Runs.{Comes}
use Rattle.c_runtime.specs.KindLines.{HasLines}
use Rattle.c_emission.specs.Blocks.{root_block, pick_block, load_block, put_block, check_block, guard_block}
use Rattle.c_emission.specs.Exchanges.{kind_of_field}
use Rattle.emission_laws.specs.Hands.{StandsFor}
use Rattle.emission_laws.specs.Making.{RunsFor, GoesOn, MakesAccess, HasNumber, TellsFitting}

-- an entry stands at an access of its method; the block of its instruction stands in the lines, and the frame at its first line
pub record AtBlock (pool : Pool) (code : List Line) (target : Target) (setting : Setting) (e : Entry) (i : TargetInstr)
    (block : List Line) (base : ℕ) (here : Frame) : Type 0 where
  pub runs : RunsFor pool target setting e
  pub at : e.routine ≡ At
  pub is : instr_in target e ≡ Some i
  pub has : HasLines code base block
  pub stands : StandsFor e e.hand.registers base here

-- a register of references names null, or a node that has a field, which is declared
pub record HasField (target : Target) (setting : Setting) (e : Entry) (a f : ℕ) : Type 0 where
  pub low : a < 8
  pub declared : f < length target.fields
  pub object : IsNullOrOf setting.sizes (kind_of_field target.fields f) (slot_in e.hand.registers (Ref a))

-- a caller that was warned: the frame stands at the line for such a one, with the word that was found
pub record WasWarned (target : Target) (setting : Setting) (e : Entry) (word warned : ℕ) (f : Frame) : Type 0 where
  pub fails : after target setting e word ≡ (check_failed target setting.sizes word (counted e)).entry
  pub found : f.locals 29 ≡ word
  pub stands : StandsFor e e.hand.registers warned f

-- after a check: the next block if the caller wasn't warned
pub record Checked (target : Target) (setting : Setting) (e : Entry) (line warned word : ℕ) (f : Frame) : Type 0 where
  pub passes : word ≡ e.hand.seen → GoesOn target setting e word line f
  pub fails : word ≢ e.hand.seen → WasWarned target setting e word warned f

-- a caller that runs a block makes the access that the entry beside it wants, and goes on as the entry does
pub record AccessesAreMade : Type 0 where
  pub roots : (pool : Pool) (code : List Line) (target : Target) (setting : Setting) (e : Entry) (d : Reg) (x base : ℕ)
      (here : Frame)
      → AtBlock pool code target setting e (Plain (instr.LoadRoot d x)) (root_block d x) base here → HasNumber d
      → TellsFitting target setting e d
      → Comes pool code here (MakesAccess pool code target setting e (λ word. GoesOn target setting e word (base + 1)))
  pub picks : (pool : Pool) (code : List Line) (target : Target) (setting : Setting) (e : Entry) (d : Reg)
      (x count a base : ℕ) (here : Frame)
      → AtBlock pool code target setting e (Plain (instr.LoadPick d x count (Num a)))
      (pick_block d x count (Num a)) base here → HasNumber d → a < 8 → 1 ≤ count
      → TellsFitting target setting e d
      → Comes pool code here (MakesAccess pool code target setting e (λ word. GoesOn target setting e word (base + 2)))
  pub loads : (pool : Pool) (code : List Line) (target : Target) (setting : Setting) (e : Entry) (d : Reg)
      (a f base : ℕ) (here : Frame)
      → AtBlock pool code target setting e (Plain (instr.LoadField d (Ref a) f))
      (load_block d (Ref a) (kind_of_field target.fields f) (place_of target.fields f)) base here
      → HasNumber d → HasField target setting e a f → TellsFitting target setting e d
      → Comes pool code here (MakesAccess pool code target setting e (λ word. GoesOn target setting e word (base + 2)))
  pub puts : (pool : Pool) (code : List Line) (target : Target) (setting : Setting) (e : Entry) (a f : ℕ) (b : Reg)
      (base : ℕ) (here : Frame)
      → AtBlock pool code target setting e (Plain (instr.Put (Ref a) f b))
      (put_block (Ref a) (kind_of_field target.fields f) (place_of target.fields f) b) base here
      → HasNumber b → HasField target setting e a f → slot_in e.hand.registers (Ref a) ≢ 0
      → Comes pool code here (MakesAccess pool code target setting e (λ word. GoesOn target setting e word (base + 2)))
  pub checks : (pool : Pool) (code : List Line) (target : Target) (setting : Setting) (e : Entry) (base warned : ℕ)
      (here : Frame)
      → AtBlock pool code target setting e Check (check_block warned) base here
      → Comes pool code here (MakesAccess pool code target setting e (Checked target setting e (base + 2) warned))
  pub guards : (pool : Pool) (code : List Line) (target : Target) (setting : Setting) (e : Entry) (r base : ℕ)
      (here : Frame)
      → AtBlock pool code target setting e (Guard (Ref r)) (guard_block (Ref r)) base here → r < 8
      → Comes pool code here (MakesAccess pool code target setting e (λ word. GoesOn target setting e word (base + 3)))
