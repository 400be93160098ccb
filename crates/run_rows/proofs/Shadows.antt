-- Runs of the core worked out by hand: their images and the slots of their names, computed from the definitions.
use Rattle.std.specs.Prelude.{◌≡◌, ℕ, zero, suc, Bool, true, false, List, [], ◌∷◌, ◌++◌, map, Option, Some, None, codes, refl, slice_get}
use Rattle.norm_lang.specs.declared.text.Reg.TheVariants.{Num, Ref}
use Rattle.norm_lang.specs.declared.text.FieldKind.TheVariants as holdings
use Rattle.norm_lang.specs.declared.text.Start.TheVariants as starts
use Rattle.norm_lang.specs.declared.text.Place.TheVariants as places
use Rattle.norm_lang.specs.declared.text.Instr.TheVariants.{Set, Add, LoadRoot, LoadField, New, Put, IfEq, Commit, Return, Again}
use Rattle.norm_lang.specs.declared.text.Text.{Text}
use Rattle.norm_lang.specs.LineWords.{item_kind}
use Rattle.target_code.specs.declared.target.TargetInstr.TheVariants.{Plain, Check, Guard}
use Rattle.target_code.specs.declared.target.Target.{Target}
use Rattle.target_code.specs.declared.target.TargetOp.{TargetOp}
use Rattle.target_code.specs.Erasing.{erased_op}
use Rattle.source_machine.specs.declared.event.SourceEvent.{SourceEvent}
use Rattle.source_machine.specs.declared.event.SourceEvent.TheVariants.{Begin, Access, Restart, GiveUp}
use Rattle.caller_parts.specs.declared.call.Call.{Call}
use Rattle.caller_parts.specs.declared.setting.Reclamation.TheVariants.{Optimistic}
use Rattle.caller_parts.specs.Settings.{Setting}
use Rattle.caller_steps.specs.Entries.{Entry, is_idle}
use Rattle.caller_steps.specs.Wants.{wants}
use Rattle.caller_steps.specs.After.{after, signs}
use Rattle.core_runs.specs.Machine.{CoreState, CoreEvent, Takes, Steps, core_event, core_start}
use Rattle.oa_simulation.specs.Shadow.{Shadow, shadow}

-- caller 0 makes its calls one after another, at most so many events
abbrev goes : Option CoreState → CoreEvent → (CoreState → List CoreEvent) → List CoreEvent
goes None event next = []
goes (Some state) event next = event ∷ next state

abbrev chosen : (List Call → CoreState → List CoreEvent) → Target → Setting → Bool → List Call → CoreState → List CoreEvent
chosen next target setting true [] state = []
chosen next target setting true (call ∷ calls) state = goes (core_event target setting state (Takes 0 call)) (Takes 0 call) (next calls)
chosen next target setting false calls state = goes (core_event target setting state (Steps 0)) (Steps 0) (next calls)

abbrev idles : Option Entry → Bool
idles None = true
idles (Some e) = is_idle e.routine

abbrev one_after_another : ℕ → Target → Setting → List Call → CoreState → List CoreEvent
one_after_another zero target setting calls state = []
one_after_another (suc n) target setting calls state = chosen (one_after_another n target setting) target setting (idles (slice_get state.entries 0)) calls state

abbrev erased : Target → Text
erased target = record { kinds = target.kinds; fields = target.fields; roots = target.roots; nodes = target.nodes; ops = map erased_op target.ops }

-- caller 0 alone
abbrev alone : Target → Setting → List Call → Shadow
alone target setting calls = shadow target (erased target) setting (one_after_another 400 target setting calls (core_start target setting))

add : TargetOp
add = record {
  name = codes "add";
  args = 1;
  generator =
      Plain (LoadRoot (Num 1) 0)
      ∷ Check
      ∷ Plain (Add (Num 2) (Num 1) (Num 0))
      ∷ Plain (Commit (record { place = places.Root 0; expected = Num 1; replacement = Num 2; retire = None } ∷ []))
      ∷ [];
  wrapup = Plain (Set (Num 3) 0) ∷ Plain (IfEq (Num 7) (Num 3) 3) ∷ Plain (Return (Num 2)) ∷ Plain Again ∷ [];
}

-- an empty list, and a load in the wrap-up
look : TargetOp
look = record {
  name = codes "look";
  args = 0;
  generator = Plain (Commit []) ∷ [];
  wrapup = Plain (LoadRoot (Num 1) 0) ∷ Check ∷ Plain (Return (Num 1)) ∷ [];
}

counter : Target
unfolding add look
counter = record {
  kinds = item_kind ∷ [];
  fields = record { owner = 0; name = codes "pad"; kind = holdings.Number } ∷ [];
  roots = record { name = codes "total"; kind = holdings.Number; start = starts.Value 0 } ∷ [];
  nodes = [];
  ops = add ∷ look ∷ [];
}

calls : ℕ → ℕ → Call
calls op argument = record { op = op; args = argument ∷ 0 ∷ 0 ∷ 0 ∷ [] }

small : Setting
small = record { reclamation = Optimistic; sizes = record { callers = 1; slots = 3; fields = 1; cells = 1; kinds = 3 ∷ []; tops = 8192 }; first = 1; last = 9; nodes = 0 ∷ 0 ∷ 0 ∷ 0 ∷ [] }

-- the wrap-up's restart isn't enabled: the source has replied with its exchange
adds : (alone counter small (calls 0 5 ∷ [])).events ≡ Begin 0 0 (5 ∷ 0 ∷ 0 ∷ 0 ∷ []) ∷ Access 0 0 ∷ Access 0 0 ∷ []
unfolding counter add look small calls wants after signs
adds = refl

-- the end of the empty list, a restart at the wrap-up's start, its load, and its end
looks : (alone counter small (calls 0 5 ∷ calls 1 0 ∷ [])).events
    ≡ Begin 0 0 (5 ∷ 0 ∷ 0 ∷ 0 ∷ []) ∷ Access 0 0 ∷ Access 0 0 ∷ Begin 0 1 (0 ∷ 0 ∷ 0 ∷ 0 ∷ []) ∷ Access 0 0 ∷ Restart 0 ∷ Access 0 0 ∷ Access 0 0 ∷ []
unfolding counter add look small calls wants after signs
looks = refl

-- a list whose first node is put in and taken out: a node has a key and a next
inserts : TargetOp
inserts = record {
  name = codes "insert";
  args = 1;
  generator =
      Plain (New (Ref 1) 0)
      ∷ Plain (Put (Ref 1) 0 (Num 0))
      ∷ Plain (LoadRoot (Ref 0) 0)
      ∷ Plain (Put (Ref 1) 1 (Ref 0))
      ∷ Guard (Ref 0) ∷ Guard (Ref 1) ∷ Check
      ∷ Plain (Commit (record { place = places.Root 0; expected = Ref 0; replacement = Ref 1; retire = None } ∷ []))
      ∷ [];
  wrapup = Plain (Set (Num 3) 0) ∷ Plain (IfEq (Num 7) (Num 3) 3) ∷ Plain (Return (Num 7)) ∷ Plain Again ∷ [];
}

removes : TargetOp
removes = record {
  name = codes "remove";
  args = 0;
  generator =
      Plain (LoadRoot (Ref 0) 0)
      ∷ Guard (Ref 0) ∷ Check
      ∷ Plain (LoadField (Ref 1) (Ref 0) 1)
      ∷ Guard (Ref 1) ∷ Check
      ∷ Plain (Commit (record { place = places.Root 0; expected = Ref 0; replacement = Ref 1; retire = Some (Ref 0) } ∷ []))
      ∷ [];
  wrapup = Plain (Return (Num 7)) ∷ [];
}

listed : Target
unfolding inserts removes
listed = record {
  kinds = item_kind ∷ [];
  fields = record { owner = 0; name = codes "key"; kind = holdings.Number } ∷ record { owner = 0; name = codes "next"; kind = holdings.Reference 0 } ∷ [];
  roots = record { name = codes "head"; kind = holdings.Reference 0; start = starts.Node 0 } ∷ [];
  nodes = [];
  ops = inserts ∷ removes ∷ [];
}

three : Setting
three = record { reclamation = Optimistic; sizes = record { callers = 1; slots = 3; fields = 2; cells = 1; kinds = 3 ∷ []; tops = 8192 }; first = 1; last = 9; nodes = 0 ∷ 0 ∷ 0 ∷ 0 ∷ [] }

put_in : ℕ → List SourceEvent
put_in name = Begin 0 0 (7 ∷ 0 ∷ 0 ∷ 0 ∷ []) ∷ Access 0 name ∷ Access 0 0 ∷ Access 0 0 ∷ Access 0 0 ∷ Access 0 0 ∷ []

taken_out : List SourceEvent
taken_out = Begin 0 1 (0 ∷ 0 ∷ 0 ∷ 0 ∷ []) ∷ Access 0 0 ∷ Access 0 0 ∷ Access 0 0 ∷ []

-- four nodes over three slots: the fourth is that of a slot given back by a sweep, which warns, so that its check fails once
recycling : List Call
unfolding calls
recycling = calls 0 7 ∷ calls 1 0 ∷ calls 0 7 ∷ calls 1 0 ∷ calls 0 7 ∷ calls 1 0 ∷ calls 0 7 ∷ []

fourth : List SourceEvent
fourth = Begin 0 0 (7 ∷ 0 ∷ 0 ∷ 0 ∷ []) ∷ Access 0 4 ∷ Access 0 0 ∷ Access 0 0 ∷ Access 0 0
    ∷ Restart 0 ∷ Access 0 5 ∷ Access 0 0 ∷ Access 0 0 ∷ Access 0 0 ∷ Access 0 0 ∷ []

recycled : (alone listed three recycling).events
    ≡ put_in 1 ++ (taken_out ++ (put_in 2 ++ (taken_out ++ (put_in 3 ++ (taken_out ++ fourth)))))
unfolding listed inserts removes three recycling calls put_in taken_out fourth wants after signs
recycled = refl

-- the slots of the names 1 to 5
slots_of : map (alone listed three recycling).home (1 ∷ 2 ∷ 3 ∷ 4 ∷ 5 ∷ 6 ∷ []) ≡ 1 ∷ 2 ∷ 3 ∷ 1 ∷ 1 ∷ 0 ∷ []
unfolding listed inserts removes three recycling calls wants after signs
slots_of = refl

-- with nothing given back the fourth call gives up
filling : List Call
unfolding calls
filling = calls 0 7 ∷ calls 0 7 ∷ calls 0 7 ∷ calls 0 7 ∷ []

filled : (alone listed three filling).events ≡ put_in 1 ++ (put_in 2 ++ (put_in 3 ++ (Begin 0 0 (7 ∷ 0 ∷ 0 ∷ 0 ∷ []) ∷ GiveUp 0 None ∷ [])))
unfolding listed inserts removes three filling calls put_in wants after signs
filled = refl
