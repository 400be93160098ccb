-- Where methods start: the load of the caller's own warning, and the registers with which a generator and a wrap-up begin.
use Rattle.std.specs.Prelude.{◌≡◌, ℕ, ◌+◌, ◌≤◌, ◌<◌, true, false, List, [], ◌∷◌, ◌++◌, length, None, slice_index}
use Rattle.target_code.specs.declared.target.Target.{Target}
use Rattle.oa_words.specs.Words.{Sizes}
use Rattle.guard_words.specs.Guards.{IsRow, guard_at}
use Rattle.norm_lang.specs.declared.text.Reg.TheVariants.{Num}
use Rattle.norm_lang.specs.Registers.{number_in}
use Rattle.norm_lang.specs.declared.reply.SourceReply.{SourceReply}
use Rattle.caller_parts.specs.declared.call.Call.{Call}
use Rattle.caller_parts.specs.declared.setting.Reclamation.TheVariants.{Optimistic}
use Rattle.caller_parts.specs.declared.routine.AfterClear.TheVariants as clears
use Rattle.caller_parts.specs.declared.routine.MethodStart.{MethodStart}
use Rattle.caller_parts.specs.declared.routine.MethodStart.TheVariants as starts
use Rattle.caller_parts.specs.declared.routine.Routine.TheVariants.{LoadSeen}
use Rattle.caller_parts.specs.Settings.{Setting}
use Rattle.caller_parts.specs.Spared.{restart_spares, kept_by}
use Rattle.caller_steps.specs.Entries.{Entry, op_of}
use Rattle.caller_steps.specs.After.{after, is_wrap_up, list_ended, method_begun, taken}
use Rattle.caller_steps.specs.Clearing.{clear_next}
use Rattle.c_language.specs.declared.lines.Answer.TheVariants as answers
use Rattle.c_language.specs.declared.lines.Line.{Line}
use Rattle.c_language.specs.declared.lines.Line.TheVariants as lines
use Rattle.c_language.specs.Steps.{Pool, Kept, Frame, Replies, stop}
use Rattle.c_language.specs.Threads.{frame_begun}
use Rattle.c_runtime.specs.ClaimFrames.{Quiet}
use Rattle.c_language.specs.Runs.{Comes}
use Rattle.c_runtime.specs.KindLines.{HasLines}
use Rattle.c_emission.specs.Blocks.{clear_size, copy_lines}
use Rattle.c_emission.specs.Ends.{return_block, none_block, again_block}
use Rattle.c_emission.specs.Operations.{seen_lines, first_lines, warned_lines, wrap_up_lines}
use Rattle.emission_laws.specs.Hands.{AreWords, Carries, StandsFor, known_of}
use Rattle.emission_laws.specs.Making.{RunsFor, SettlesFrom, SettlesAt, MakesAccess}
use Rattle.emission_laws.specs.Accesses.{WasWarned}
use Rattle.emission_laws.specs.Clears.{ClearsFrom, RestartsFrom}

pub record StartsAreMade : Type 0 where
  -- the program calls an operation: the frame that begins it has what an idle entry without guards knows that takes the call
  pub calls : (e : Entry) (call : Call) (kept : Kept) → length call.args ≤ 4 → ((r : ℕ) → guard_at e.hand.guards r ≡ 0)
      → ((k : ℕ) → k < 16 → kept.cradles k ≡ slice_index e.cradles k) → Quiet kept
      → Carries (known_of (taken Optimistic call e)) (frame_begun call.args kept)
  -- a generator starts: the first line of an operation loads the caller's own warning, and the registers become the arguments, 0 and null
  pub generators : (pool : Pool) (code : List Line) (target : Target) (setting : Setting) (e : Entry)
      (why : MethodStart) (base : ℕ) (f : Frame)
      → RunsFor pool target setting e → e.routine ≡ LoadSeen why → is_wrap_up why ≡ false
      → HasLines code base (seen_lines ++ first_lines) → f.at ≡ base
      → Carries (known_of e) f
      → MakesAccess pool code target setting e (λ word. SettlesAt target setting e word false 0 (base + 17)) f
  -- a wrap-up starts: it loads the warning, and the registers are those that were kept
  pub wrap_ups : (pool : Pool) (code : List Line) (target : Target) (setting : Setting) (e : Entry) (base : ℕ)
      (f : Frame)
      → RunsFor pool target setting e → e.routine ≡ LoadSeen starts.WrapUp → e.hand.wrapup ≡ true
      → HasLines code base (seen_lines ++ copy_lines 0 33 16)
      → StandsFor e e.hand.registers base f
      → MakesAccess pool code target setting e (λ word. SettlesAt target setting e word true 0 (base + 17)) f

pub record RestartsAreMade : Type 0 where
  -- a caller that was warned has seen the new warning, and clears its hazards
  pub warned : (pool : Pool) (code : List Line) (target : Target) (setting : Setting) (e : Entry) (word base again : ℕ)
      (f : Frame)
      → RunsFor pool target setting e
      → HasLines code base (warned_lines base (restart_spares e.hand.wrapup (op_of target e)) again)
      → WasWarned target setting e word base f
      → Comes pool code f
      (RestartsFrom target setting.sizes (after target setting e word) e code
      (base + 1 + clear_size (restart_spares e.hand.wrapup (op_of target e)) 0 8))
  -- once none is left to clear, a generator begins again with its arguments
  pub generators : (pool : Pool) (code : List Line) (target : Target) (sizes : Sizes) (e : Entry) (end again : ℕ)
      (f : Frame) → e.hand.wrapup ≡ false
      → HasLines code end (lines.Goto again ∷ []) → HasLines code again first_lines → StandsFor e e.hand.registers end f
      → Comes pool code f (SettlesFrom target sizes (method_begun target sizes false e).entry e false 0 (again + 16))
  -- and a wrap-up with what it started with
  pub wrap_ups : (pool : Pool) (code : List Line) (target : Target) (sizes : Sizes) (e : Entry) (end again : ℕ)
      (f : Frame) → e.hand.wrapup ≡ true
      → HasLines code end (lines.Goto again ∷ []) → HasLines code again (copy_lines 0 33 16)
      → StandsFor e e.hand.registers end f → AreWords e.hand.started
      → Comes pool code f (SettlesFrom target sizes (method_begun target sizes true e).entry e true 0 (again + 16))

pub record EndsAreMade : Type 0 where
  -- a list has ended, and local 32 is how many of its exchanges succeeded: the wrap-up keeps the registers, and clears the hazards
  pub lists : (pool : Pool) (code : List Line) (target : Target) (sizes : Sizes) (e : Entry) (made base : ℕ)
      (f : Frame) → IsRow e.hand.guards
      → AreWords e.hand.registers → HasLines code base (wrap_up_lines base (kept_by (op_of target e)))
      → StandsFor e e.hand.registers base f → f.locals 32 ≡ made
      → Comes pool code f
      (ClearsFrom target sizes (list_ended target sizes made e) e clears.WrapUp code
      (base + 17 + clear_size (kept_by (op_of target e)) 0 8))
  -- behind the clear of its block an operation ends with the number in a register, or without one
  pub numbers : (pool : Pool) (code : List Line) (e : Entry) (a base : ℕ) (f : Frame) → a < 8
      → HasLines code base (return_block base (Num a))
      → StandsFor e e.hand.registers (base + 24) f
      → stop pool code f ≡ Replies answers.Number (number_in e.hand.registers (Num a))
  pub none : (pool : Pool) (code : List Line) (e : Entry) (base : ℕ) (f : Frame) → HasLines code base (none_block base)
      → StandsFor e e.hand.registers (base + 24) f → stop pool code f ≡ Replies answers.Nothing 0
  -- it has cleared all hazards then
  pub unguarded : (target : Target) (e : Entry) (reply : SourceReply) → clear_next target (clears.Reply reply) e ≡ None
      → (r : ℕ) → guard_at e.hand.guards r ≡ 0
  -- or it begins again at a line
  pub again : (pool : Pool) (code : List Line) (e : Entry) (base begin : ℕ) (f : Frame)
      → HasLines code base (again_block base begin)
      → StandsFor e e.hand.registers (base + 24) f → Comes pool code f (StandsFor e e.hand.registers begin)
