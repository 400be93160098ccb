-- An add of the counter, computed: five steps under optimistic access, and five under epochs.
use Rattle.std.specs.Prelude.{◌≡◌, ℕ, List, [], ◌∷◌, ◌++◌, Option, Some, None, codes, refl, map, take, drop}
use Rattle.norm_lang.specs.declared.text.Reg.TheVariants.{Num}
use Rattle.norm_lang.specs.declared.text.FieldKind.TheVariants as holdings
use Rattle.norm_lang.specs.declared.text.Start.TheVariants as starts
use Rattle.norm_lang.specs.declared.text.Place.TheVariants as places
use Rattle.norm_lang.specs.declared.text.Instr.TheVariants as instr
use Rattle.norm_lang.specs.declared.text.Op.{Op}
use Rattle.norm_lang.specs.declared.text.Text.{Text}
use Rattle.norm_lang.specs.LineWords.{item_kind}
use Rattle.target_code.specs.declared.target.TargetInstr.TheVariants.{Plain, Check}
use Rattle.target_code.specs.declared.target.TargetOp.{TargetOp}
use Rattle.target_code.specs.declared.target.Target.{Target}
use Rattle.target_code.specs.Bare.{bare}
use Rattle.schedule_turns.specs.declared.turn.Turn.TheVariants as turns
use Rattle.schedule_turns.specs.declared.turn.StepKind.TheVariants as stepkinds
use Rattle.caller_parts.specs.declared.call.Call.{Call}
use Rattle.caller_parts.specs.declared.call.Replied.{Replied}
use Rattle.caller_parts.specs.declared.setting.Reclamation.TheVariants.{Optimistic, Epochs}
use Rattle.caller_parts.specs.Settings.{Setting}
use Rattle.caller_steps.specs.Entries.{Entry}
use Rattle.caller_steps.specs.Wants.{wants}
use Rattle.caller_steps.specs.Signs.{Begins, Accesses, Renews}
use Rattle.caller_steps.specs.After.{after, signs}
use Rattle.core_runs.specs.Machine.{CoreState, CoreEvent, Takes, Steps, core_run, core_start}
use Rattle.core_runs.specs.RunSigns.{Signed, run_signs}
use Rattle.core_runs.specs.Replays.{Replaying, Refusal, StepOfNobody, LongReplay, replayed}
use Rattle.std.specs.Prelude.{Result, Ok, Err}
use Rattle.norm_lang.specs.declared.reply.SourceReply.TheVariants as replies

add : TargetOp
add = record {
  name = codes "add";
  args = 1;
  generator =
      Plain (instr.LoadRoot (Num 1) 0)
      ∷ Check
      ∷ Plain (instr.Add (Num 2) (Num 1) (Num 0))
      ∷ Plain (instr.Commit (record { place = places.Root 0; expected = Num 1; replacement = Num 2; retire = None } ∷ []))
      ∷ [];
  wrapup =
      Plain (instr.Set (Num 3) 0)
      ∷ Plain (instr.IfEq (Num 7) (Num 3) 3)
      ∷ Plain (instr.Return (Num 2))
      ∷ Plain instr.Again
      ∷ [];
}

counter : Target
counter = record {
  kinds = item_kind ∷ [];
  fields = record { owner = 0; name = codes "pad"; kind = holdings.Number } ∷ [];
  roots = record { name = codes "total"; kind = holdings.Number; start = starts.Value 0 } ∷ [];
  nodes = [];
  ops = add ∷ [];
}

setting : Setting
setting = record { reclamation = Optimistic; sizes = record { callers = 1; slots = 1; fields = 1; cells = 1; kinds = 1 ∷ []; tops = 8192 }; first = 1; last = 9; nodes = 0 ∷ 0 ∷ 0 ∷ 0 ∷ [] }

add_five : Call
add_five = record { op = 0; args = 5 ∷ 0 ∷ 0 ∷ 0 ∷ [] }

events : List CoreEvent
events = Takes 0 add_five ∷ Steps 0 ∷ Steps 0 ∷ Steps 0 ∷ Steps 0 ∷ Steps 0 ∷ []

replies_of : Option CoreState → List (List Replied)
replies_of None = []
replies_of (Some state) = map (λ (e : Entry). e.replies) state.entries

it_adds : replies_of (core_run counter setting events (core_start counter setting)) ≡ (record { call = add_five; reply = replies.Number 5; steps = 5 } ∷ []) ∷ []
unfolding add counter setting add_five events replies_of wants after
it_adds = refl

it_signs : map (λ (s : Signed). s.sign) (run_signs counter setting events (core_start counter setting)) ≡ Begins add_five ∷ Accesses ∷ Accesses ∷ Renews ∷ []
unfolding add counter setting add_five events wants after signs
it_signs = refl

steps_of : Result Replaying Refusal → ℕ
steps_of (Err refusal) = 1000
steps_of (Ok r) = r.steps

it_replays : steps_of (replayed (record { target = counter; setting = setting; scripts = (add_five ∷ add_five ∷ []) ∷ []; fuel = 100; limit = 200 }) (turns.Upto 0 stepkinds.Exchange 1 ∷ turns.Ops 0 1 ∷ [])) ≡ 10
unfolding add counter setting add_five steps_of wants after
it_replays = refl

it_refuses : replayed (record { target = counter; setting = setting; scripts = (add_five ∷ []) ∷ []; fuel = 100; limit = 200 }) (turns.Ops 0 1 ∷ turns.Step 0 1 ∷ []) ≡ Err (StepOfNobody 5)
unfolding add counter setting add_five wants after
it_refuses = refl

-- at the limit of steps the refusal tells of a caller that has no step; if it has one, the refusal tells of the limit
nobody_first : replayed (record { target = counter; setting = setting; scripts = (add_five ∷ []) ∷ []; fuel = 100; limit = 5 }) (turns.Ops 0 1 ∷ turns.Step 0 1 ∷ []) ≡ Err (StepOfNobody 5)
unfolding add counter setting add_five wants after
nobody_first = refl

it_is_long : replayed (record { target = counter; setting = setting; scripts = (add_five ∷ add_five ∷ []) ∷ []; fuel = 100; limit = 5 }) (turns.Ops 0 2 ∷ []) ≡ Err (LongReplay 5)
unfolding add counter setting add_five wants after
it_is_long = refl

-- the turn up to the exchange is over though its caller was given all its steps; a further step isn't there
it_is_spent : replayed (record { target = counter; setting = setting; scripts = (add_five ∷ []) ∷ []; fuel = 3; limit = 200 }) (turns.Upto 0 stepkinds.Exchange 1 ∷ turns.Step 0 1 ∷ []) ≡ Err (StepOfNobody 3)
unfolding add counter setting add_five wants after
it_is_spent = refl

-- ---- under epochs, over the text as it is

add_text : Op
add_text = record {
  name = codes "add";
  args = 1;
  generator =
      instr.LoadRoot (Num 1) 0
      ∷ instr.Add (Num 2) (Num 1) (Num 0)
      ∷ instr.Commit (record { place = places.Root 0; expected = Num 1; replacement = Num 2; retire = None } ∷ [])
      ∷ [];
  wrapup = instr.Set (Num 3) 0 ∷ instr.IfEq (Num 7) (Num 3) 3 ∷ instr.Return (Num 2) ∷ instr.Again ∷ [];
}

counter_text : Text
counter_text = record {
  kinds = item_kind ∷ [];
  fields = record { owner = 0; name = codes "pad"; kind = holdings.Number } ∷ [];
  roots = record { name = codes "total"; kind = holdings.Number; start = starts.Value 0 } ∷ [];
  nodes = [];
  ops = add_text ∷ [];
}

by_epochs : Setting
by_epochs = record setting { reclamation = Epochs }

-- the phase, the place, the warning and the hazards, the statuses, fields, root, head and links: so the second is the warning word
announced_of : Option CoreState → List ℕ
announced_of None = []
announced_of (Some state) = take 1 (drop 2 state.words)

-- the load of the phase, its store, the load of the total, its exchange, and the store of 0 with which the call ends
epochs_add : replies_of (core_run (bare counter_text) by_epochs events (core_start (bare counter_text) by_epochs)) ≡ (record { call = add_five; reply = replies.Number 5; steps = 5 } ∷ []) ∷ []
unfolding add_text counter_text setting by_epochs add_five events replies_of wants after
epochs_add = refl

epochs_sign : map (λ (s : Signed). s.sign) (run_signs (bare counter_text) by_epochs events (core_start (bare counter_text) by_epochs)) ≡ Begins add_five ∷ Accesses ∷ Accesses ∷ []
unfolding add_text counter_text setting by_epochs add_five events wants after signs
epochs_sign = refl

-- nothing is announced at first, then the phase, and nothing again in the end
epochs_announce : announced_of (Some (core_start (bare counter_text) by_epochs)) ++ announced_of (core_run (bare counter_text) by_epochs (take 3 events) (core_start (bare counter_text) by_epochs))
    ++ announced_of (core_run (bare counter_text) by_epochs events (core_start (bare counter_text) by_epochs)) ≡ 0 ∷ 1 ∷ 0 ∷ []
unfolding add_text counter_text setting by_epochs add_five events announced_of wants after
epochs_announce = refl
