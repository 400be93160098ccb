-- A spent call that has ended in the source: its fuel is one short of the last clear of its guard.
use Rattle.std.specs.Prelude.{◌≡◌, ℕ, List, [], ◌∷◌, map, Option, Some, None, codes, refl, slice_get, replicate}
use Rattle.norm_lang.specs.declared.text.Reg.TheVariants.{Num, Ref}
use Rattle.norm_lang.specs.declared.text.FieldKind.TheVariants as holdings
use Rattle.norm_lang.specs.declared.text.Start.TheVariants as starts
use Rattle.norm_lang.specs.declared.text.Place.TheVariants as places
use Rattle.norm_lang.specs.declared.text.Instr.TheVariants.{LoadRoot, LoadField, Commit, Return}
use Rattle.norm_lang.specs.declared.text.Text.{Text}
use Rattle.norm_lang.specs.LineWords.{item_kind}
use Rattle.target_code.specs.declared.target.TargetInstr.TheVariants.{Plain, Check, Guard}
use Rattle.target_code.specs.declared.target.Target.{Target}
use Rattle.target_code.specs.declared.target.TargetOp.{TargetOp}
use Rattle.target_code.specs.Erasing.{erased_op}
use Rattle.source_machine.specs.declared.event.SourceEvent.{SourceEvent}
use Rattle.source_machine.specs.declared.event.SourceEvent.TheVariants.{Begin, Access, Restart}
use Rattle.source_machine.specs.Run.{source_replies}
use Rattle.norm_lang.specs.declared.reply.SourceReply.{SourceReply}
use Rattle.norm_lang.specs.declared.reply.SourceReply.TheVariants as replies
use Rattle.caller_parts.specs.declared.routine.Routine.{Routine}
use Rattle.caller_parts.specs.declared.routine.Routine.TheVariants.{Clears}
use Rattle.caller_parts.specs.declared.routine.AfterClear.TheVariants as clears
use Rattle.caller_parts.specs.Pairing.{reply_of}
use Rattle.caller_parts.specs.Settings.{Setting}
use Rattle.caller_steps.specs.Entries.{Entry}
use Rattle.caller_steps.specs.Wants.{wants}
use Rattle.caller_steps.specs.After.{after, signs}
use Rattle.core_runs.specs.Machine.{CoreState, CoreEvent, Takes, Steps, core_run, core_start}
use Rattle.oa_simulation.specs.Shadow.{shadow, image}
use Rattle.caller_parts.specs.declared.setting.Reclamation.TheVariants.{Optimistic}

-- the root's node is put in its own place, and its number is loaded in the wrap-up, which keeps it, guard and all
touch : TargetOp
touch = record {
  name = codes "touch";
  args = 0;
  generator =
      Plain (LoadRoot (Ref 0) 0)
      ∷ Guard (Ref 0)
      ∷ Check
      ∷ Plain (Commit (record { place = places.Root 0; expected = Ref 0; replacement = Ref 0; retire = None } ∷ []))
      ∷ [];
  wrapup = Plain (LoadField (Num 1) (Ref 0) 0) ∷ Check ∷ Plain (Return (Num 1)) ∷ [];
}

target : Target
unfolding touch
target = record {
  kinds = item_kind ∷ [];
  fields = record { owner = 0; name = codes "key"; kind = holdings.Number } ∷ [];
  roots = record { name = codes "top"; kind = holdings.Reference 0; start = starts.Node 1 } ∷ [];
  nodes = record { owner = 0; values = starts.Value 7 ∷ [] } ∷ [];
  ops = touch ∷ [];
}

text : Text
unfolding target touch
text = record { kinds = item_kind ∷ []; fields = target.fields; roots = target.roots; nodes = target.nodes; ops = map erased_op target.ops }

setting : Setting
setting = record { reclamation = Optimistic; sizes = record { callers = 1; slots = 1; fields = 1; cells = 1; kinds = 1 ∷ []; tops = 8192 }; first = 1; last = 9; nodes = 1 ∷ 0 ∷ 0 ∷ 0 ∷ [] }

-- the call, with so many steps
with_steps : ℕ → List CoreEvent
with_steps n = Takes 0 (record { op = 0; args = 0 ∷ 0 ∷ 0 ∷ 0 ∷ [] }) ∷ replicate n (Steps 0)

abbrev entry_of : Option CoreState → Option Entry
entry_of None = None
entry_of (Some state) = slice_get state.entries 0

abbrev replied : Option Entry → Option (List SourceReply)
replied None = None
replied (Some e) = Some (map reply_of e.replies)

abbrev stands : Option Entry → Option Routine
stands None = None
stands (Some e) = Some e.routine

abbrev entry_after : ℕ → Option Entry
entry_after n = entry_of (core_run target setting (with_steps n) (core_start target setting))

-- what its steps give the source: its begin, the load of the root and the exchange; the wrap-up begins again with the load of the
-- warning, loads the number, and ends with the check, since the number is returned by local code
made : List SourceEvent
made = Begin 0 0 (0 ∷ 0 ∷ 0 ∷ 0 ∷ []) ∷ Access 0 0 ∷ Access 0 0 ∷ Restart 0 ∷ Access 0 0 ∷ Access 0 0 ∷ []

-- after eight steps the caller stands before the clear, and has no reply
waits_for_clear : stands (entry_after 8) ≡ Some (Clears (clears.Reply (replies.Number 7)))
unfolding target touch setting with_steps wants after signs
waits_for_clear = refl

none_yet : replied (entry_after 8) ≡ Some []
unfolding target touch setting with_steps wants after signs
none_yet = refl

-- in the source the call has ended
made_by_eight : image target text setting (with_steps 8) ≡ made
unfolding target touch text setting with_steps made wants after signs
made_by_eight = refl

ended_there : source_replies (shadow target text setting (with_steps 8)).machine 0 ≡ replies.Number 7 ∷ []
unfolding target touch text setting with_steps wants after signs
ended_there = refl

-- the ninth step gives the source nothing, and the caller the source's reply
made_by_nine : image target text setting (with_steps 9) ≡ made
unfolding target touch text setting with_steps made wants after signs
made_by_nine = refl

replied_by_nine : replied (entry_after 9) ≡ Some (replies.Number 7 ∷ [])
unfolding target touch setting with_steps wants after signs
replied_by_nine = refl

-- with seven it runs still in the source too
runs_there : source_replies (shadow target text setting (with_steps 7)).machine 0 ≡ []
unfolding target touch text setting with_steps wants after signs
runs_there = refl
