-- Where local code stops: before an access, at a `new`, or at an end of the operation. The lines of all but an access begin with a clear.
use Rattle.std.specs.Prelude.{◌≡◌, ℕ, ◌+◌, true, List, Some}
use Rattle.norm_lang.specs.declared.text.Reg.{Reg}
use Rattle.norm_lang.specs.declared.text.Instr.TheVariants as instr
use Rattle.norm_lang.specs.declared.reply.SourceReply.TheVariants as replies
use Rattle.norm_lang.specs.Registers.{number_in}
use Rattle.target_code.specs.declared.target.TargetInstr.TheVariants.{Plain}
use Rattle.target_code.specs.declared.target.Target.{Target}
use Rattle.oa_words.specs.Words.{Sizes}
use Rattle.guard_words.specs.Guards.{IsRow}
use Rattle.caller_parts.specs.declared.setting.Reclamation.TheVariants.{Optimistic}
use Rattle.caller_parts.specs.declared.routine.AfterClear.TheVariants as clears
use Rattle.caller_parts.specs.declared.routine.Routine.TheVariants.{At}
use Rattle.caller_steps.specs.Entries.{Entry, instr_in}
use Rattle.caller_steps.specs.After.{stopped, with_routine}
use Rattle.caller_steps.specs.Belongs.{has_access}
use Rattle.c_language.specs.declared.lines.Line.{Line}
use Rattle.c_language.specs.Steps.{Pool, Frame}
use Rattle.c_language.specs.Runs.{Comes}
use Rattle.c_runtime.specs.KindLines.{HasLines}
use Rattle.c_emission.specs.Ends.{new_block, return_block, none_block, again_block}
use Rattle.emission_laws.specs.Hands.{StandsFor}
use Rattle.emission_laws.specs.Clears.{ClearsFrom}

pub record StopsAreMade : Type 0 where
  -- the guards are as they were, so an entry that settles has a row of them if the entry to which it comes belongs
  pub guards : (target : Target) (sizes : Sizes) (e : Entry)
      → (stopped Optimistic target sizes e).entry.hand.guards ≡ e.hand.guards
  pub accesses : (target : Target) (sizes : Sizes) (e : Entry) → has_access (instr_in target e) ≡ true
      → (stopped Optimistic target sizes e).entry ≡ with_routine e At
  pub news : (pool : Pool) (code : List Line) (target : Target) (sizes : Sizes) (e : Entry) (d : Reg)
      (kind cradle count base : ℕ) (f : Frame)
      → IsRow e.hand.guards → instr_in target e ≡ Some (Plain (instr.New d kind))
      → HasLines code base (new_block base d kind cradle count)
      → StandsFor e e.hand.registers base f
      → Comes pool code f
      (ClearsFrom target sizes (stopped Optimistic target sizes e).entry e clears.New code (base + 24))
  pub numbers : (pool : Pool) (code : List Line) (target : Target) (sizes : Sizes) (e : Entry) (a : Reg) (base : ℕ)
      (f : Frame)
      → IsRow e.hand.guards → instr_in target e ≡ Some (Plain (instr.Return a))
      → HasLines code base (return_block base a)
      → StandsFor e e.hand.registers base f
      → Comes pool code f
      (ClearsFrom target sizes (stopped Optimistic target sizes e).entry e
      (clears.Reply (replies.Number (number_in e.hand.registers a))) code (base + 24))
  pub none : (pool : Pool) (code : List Line) (target : Target) (sizes : Sizes) (e : Entry) (base : ℕ) (f : Frame)
      → IsRow e.hand.guards → instr_in target e ≡ Some (Plain instr.ReturnNone) → HasLines code base (none_block base)
      → StandsFor e e.hand.registers base f
      → Comes pool code f
      (ClearsFrom target sizes (stopped Optimistic target sizes e).entry e (clears.Reply replies.Nothing) code
      (base + 24))
  pub again : (pool : Pool) (code : List Line) (target : Target) (sizes : Sizes) (e : Entry) (begin base : ℕ)
      (f : Frame)
      → IsRow e.hand.guards → instr_in target e ≡ Some (Plain instr.Again) → HasLines code base (again_block base begin)
      → StandsFor e e.hand.registers base f
      → Comes pool code f
      (ClearsFrom target sizes (stopped Optimistic target sizes e).entry e clears.Again code (base + 24))
