-- A step of a state, and of its image.
use Rattle.std.proofs.Common.{ℕ, zero, suc, ◌+◌, ◌≡◌, ◌≢◌, ◌∙◌, ◌==◌, ◌&&◌, ◌||◌, Bool, true, false, cond, is_some, List, [], ◌∷◌, length, set, Option, Some, None, option_map, sym, ap, refl, subst, ⊎_elim, ◌⊎◌, inl, inr, arith}
use Rattle.std.specs.Prelude.{slice_get, is_none, nat_lt}
use Rattle.std.proofs.lemmas.Bool.{cases_eq, and_parts, and_from, or_cases}
use Rattle.std.proofs.lemmas.Bool.Decides.{nat_tests, eqb_tells}
use Rattle.norm_lang.specs.declared.text.Text.{Text}
use Rattle.norm_lang.specs.declared.text.Op.{Op}
use Rattle.norm_lang.specs.declared.text.Instr.{Instr}
use Rattle.norm_lang.specs.declared.text.Instr.TheVariants as instr
use Rattle.norm_lang.specs.declared.reply.SourceReply.{SourceReply}
use Rattle.norm_lang.specs.declared.registers.Registers.{Registers}
use Rattle.norm_lang.specs.Registers.{first_registers}
use Rattle.source_machine.specs.declared.event.SourceEvent.{SourceEvent}
use Rattle.source_machine.specs.declared.event.SourceEvent.TheVariants as events
use Rattle.source_machine.specs.declared.state.Value.{Value}
use Rattle.source_machine.specs.declared.state.Value.TheVariants.{Number, Node}
use Rattle.source_machine.specs.declared.state.Memory.{Memory}
use Rattle.source_machine.specs.declared.state.Running.{Running}
use Rattle.source_machine.specs.declared.state.Stand.{Stand}
use Rattle.source_machine.specs.declared.state.Stand.TheVariants.{InGenerator, InList, InWrapUp}
use Rattle.source_machine.specs.declared.state.SourceCaller.{SourceCaller}
use Rattle.source_machine.specs.declared.state.SourceMachine.{SourceMachine}
use Rattle.source_machine.specs.Memory.{fields_named, loaded}
use Rattle.source_machine.specs.Step.{Turn, Performed, performed, performed_by, goes_on, replied, give_up_reply, generator_begun, caller_turn, turn_of, running_turn, access_turn, restarted, begun}
use Rattle.source_machine.specs.Run.{mover, is_pending, is_new_at, is_new_pending, is_name, is_in_method, is_call, is_enabled, is_enabled_for, is_enabled_by, is_enabled_running, source_step, step_of, with_turn}
use Rattle.source_machine.specs.MethodRuns.{MethodRun, run_begun, with_name, run_with, name_in, name_got, stand_in, wrap_up_run, access_run, run_of, run_after, run_at, put, Watched, watched_step}
use Rattle.source_machine.specs.Proper.{has, in_method, runs_method}
use Rattle.source_machine.proofs.Names.{untrue, has_more}
use Rattle.source_machine.proofs.Places.{put_same, put_other, same_test}
use Rattle.source_machine.proofs.Later.{later_step, others_stay}
use Rattle.state_images.specs.Images.{Naming, Kept, renamed_value, renamed_registers, IsKeptValue, AreKept, IsMemoryImage, renamed_stand, IsKeptStand, IsRunningImage, IsRunningImageIf, IsCallerImage, IsRunImage, IsImage, with_name_of, ImagesSimulate}
use Rattle.state_images.proofs.Renaming.{number_renamed}
use Rattle.state_images.proofs.Loading.{loads_are_renamed}
use Rattle.state_images.proofs.Standing.{method_image}
use Rattle.state_images.proofs.Storing.{null_stays}
use Rattle.state_images.proofs.Extending.{Extends, caller_more}
use Rattle.state_images.proofs.Turning.{IsOnly, IsFresh, TurnIs, left, access_turned, restart_turned, begun_image, alike}

-- ---- method runs

module _ (n after : Naming) (m : Memory) (e : Extends n after) (only : IsOnly n after m) where
  pub run_more : (r r' : MethodRun) → ((a : ℕ) → has a r.old ≡ true → is_some (fields_named a m.nodes) ≡ true) → IsRunImage n r r' → IsRunImage after r r'
  run_more r r' used i = record {
    got_kept = λ a g. e.keeps a (i.got_kept a g);
    got = λ a k g. ap (λ b. has b r'.got) (e.same a (i.got_kept a g)) ∙ i.got a (i.got_kept a g) g;
    old = λ a k o. let was = only a k (used a o) in ap (λ b. has b r'.old) (e.same a was) ∙ i.old a was o;
  }

module _ (n : Naming) where
  pub begun_run : (m m' : Memory) → IsMemoryImage n m m' → IsRunImage n (run_begun m) (run_begun m')
  begun_run m m' image = record { got_kept = λ a e. absurd (untrue false refl e); got = λ a k e. absurd (untrue false refl e); old = image.retired }

  with_some : (name : ℕ) (got : List ℕ) → name ≢ 0 → with_name name got ≡ name ∷ got
  with_some zero got some = absurd (some refl)
  with_some (suc k) got some = refl

  pub got_run : (r r' : MethodRun) (name name' : ℕ) → IsRunImage n r r' → name' ≡ n.to name → Kept n name → IsRunImage n (run_with name r) (run_with name' r')
  got_run r r' zero name' i e kept = subst (λ k. IsRunImage n (run_with 0 r) (run_with k r')) (sym (e ∙ n.null)) (record { got_kept = i.got_kept; got = i.got; old = i.old })
  got_run r r' (suc k) name' i e kept = record {
    got_kept = λ a g. has_more (Kept n) a (suc k) r.got kept (i.got_kept a) g;
    got = λ a ka g. ap (has (n.to a)) (with_some name' r'.got some) ∙ of a ka (suc k == a) refl g;
    old = i.old;
  } where
    some : name' ≢ 0
    some z = null_stays n (suc k) kept (λ h. let no : ⊥ = omega (arith, h) in no) (sym e ∙ z)

    of : (a : ℕ) → Kept n a → (b : Bool) → (suc k == a) ≡ b → (b || has a r.got) ≡ true → ((name' == n.to a) || has (n.to a) r'.got) ≡ true
    of a ka true t g =
        let same : suc k ≡ a = grind (arith, nat_tests, t) in
        let here : name' ≡ n.to a = e ∙ ap n.to same in
        let z : (name' == n.to a) ≡ true = grind (arith, nat_tests, here) in rw z refl
    of a ka false t g = or_true (name' == n.to a) (has (n.to a) r'.got) (i.got a ka g) where
      or_true : (x y : Bool) → y ≡ true → (x || y) ≡ true
      or_true true y h = refl
      or_true false y h = h

-- the name that an access gets
got_name : (n after : Naming) → Extends n after → (text : Text) (name name' : ℕ) (o : Option Instr) (g : Registers) (m m' : Memory) → IsMemoryImage n m m' → AreKept n g
    → (is_new_at o ≡ true → (after.to name ≡ name') × Kept after name)
    → (name_got text name' o (renamed_registers n g) m' ≡ after.to (name_got text name o g m)) × Kept after (name_got text name o g m)
got_name n after e text name name' None g m m' image kept named = (sym after.null, after.null_kept)
got_name n after e text name name' (Some (instr.New d kind)) g m m' image kept named = let k = named refl in (sym k.0, k.1)
got_name n after e text name name' (Some i) g m m' image kept named = of i (loaded text i g m) (loads_are_renamed n text i g m m' image kept) where
  in_value : (v : Value) → IsKeptValue n v → (name_in (renamed_value n v) ≡ after.to (name_in v)) × Kept after (name_in v)
  in_value (Number v) k = (sym after.null, after.null_kept)
  in_value (Node r) k = (sym (e.same r.node k), e.keeps r.node k)

  of : (i : Instr) (v : Value) → (loaded text i (renamed_registers n g) m' ≡ renamed_value n v) × IsKeptValue n v
      → (name_in (loaded text i (renamed_registers n g) m') ≡ after.to (name_in v)) × Kept after (name_in v)
  of i v l = let k = in_value v l.1 in (ap name_in l.0 ∙ k.0, k.1)

-- ---- the run of the caller that moves

module _ (n : Naming) (m m' : Memory) (image : IsMemoryImage n m m') (text : Text) (name name' : ℕ) (op : Op) (r r' : Running) (i : IsRunningImage n r r')
    (b : Bool) (turn turn' : Turn) (t : TurnIs n m b name name' turn turn') (run run' : MethodRun) where
  gets : (used : (a : ℕ) → has a run.old ≡ true → is_some (fields_named a m.nodes) ≡ true) (o : Option Instr) → (is_new_at o ≡ true → b ≡ true) → IsRunImage n run run' → IsRunImage t.after (run_with (name_got text name o r.registers m) run) (run_with (name_got text name' o r'.registers m') run')
  gets used o new is =
      let k = got_name n t.after t.extends text name name' o r.registers m m' image i.registers_kept (λ e. t.named (new e)) in
      got_run t.after run run' (name_got text name o r.registers m) (name_got text name' o r'.registers m') (run_more n t.after m t.extends t.only run run' used is)
      (ap (λ g. name_got text name' o g m') i.registers ∙ k.0) k.1

  begins : IsRunImage t.after (run_begun turn.memory) (run_begun turn'.memory)
  begins = begun_run t.after turn.memory turn'.memory t.memory

  inside : (o o' : Option Running) → IsRunningImageIf t.after o o' → (x x' : ℕ) → IsRunImage t.after (run_with x run) (run_with x' run')
      → IsRunImage t.after (wrap_up_run (stand_in o) x turn.memory run) (wrap_up_run (stand_in o') x' turn'.memory run')
  inside None None j x x' is = begins
  inside None (Some q') j x x' is = absurd j
  inside (Some q) None j x x' is = absurd j
  inside (Some q) (Some q') j x x' is = subst (λ s. IsRunImage t.after (wrap_up_run (Some q.stand) x turn.memory run) (wrap_up_run (Some s) x' turn'.memory run')) (sym j.stand) (of q.stand) where
    of : (s : Stand) → IsRunImage t.after (wrap_up_run (Some s) x turn.memory run) (wrap_up_run (Some (renamed_stand t.after s)) x' turn'.memory run')
    of (InGenerator at) = begins
    of (InList at entries made) = begins
    of (InWrapUp at started accessed) = is

  pub access_followed : (s : Stand) → b ≡ is_new_pending op s → (is_in_method s ≡ true → IsRunImage n run run' × ((a : ℕ) → has a run.old ≡ true → is_some (fields_named a m.nodes) ≡ true))
      → IsRunImage t.after (access_run text name s (record { op = op; running = r }) m turn run) (access_run text name' (renamed_stand n s) (record { op = op; running = r' }) m' turn' run')
  access_followed (InGenerator at) new is = gets (is refl).1 (slice_get op.generator at) (λ e. new ∙ e) (is refl).0
  access_followed (InList at entries made) new is = begins
  access_followed (InWrapUp at started accessed) new is =
      inside turn.caller.running turn'.caller.running t.running (name_got text name (slice_get op.wrapup at) r.registers m) (name_got text name' (slice_get op.wrapup at) r'.registers m')
      (gets (is refl).1 (slice_get op.wrapup at) (λ e. new ∙ e) (is refl).0)

-- ---- a caller's step

pub record StepIs (n : Naming) (m m' : Memory) (text : Text) (event event' : SourceEvent) (caller caller' : SourceCaller) (run run' : MethodRun) : Type 0 where
  pub enabled : is_enabled_by text event' (performed text caller') m' caller' ≡ true
  pub made : Bool
  pub name : ℕ
  pub name' : ℕ
  pub turn : TurnIs n m made name name' (caller_turn text event m caller) (caller_turn text event' m' caller')
  pub goes : IsRunImage turn.after (run_after text event m caller run) (run_after text event' m' caller' run')

pending_same : (n : Naming) (op : Op) (s : Stand) → is_pending op (renamed_stand n s) ≡ is_pending op s
pending_same n op (InGenerator at) = refl
pending_same n op (InList at entries made) = refl
pending_same n op (InWrapUp at started accessed) = refl

new_same : (n : Naming) (op : Op) (s : Stand) → is_new_pending op (renamed_stand n s) ≡ is_new_pending op s
new_same n op (InGenerator at) = refl
new_same n op (InList at entries made) = refl
new_same n op (InWrapUp at started accessed) = refl

method_same : (n : Naming) (s : Stand) → is_in_method (renamed_stand n s) ≡ is_in_method s
method_same n (InGenerator at) = refl
method_same n (InList at entries made) = refl
method_same n (InWrapUp at started accessed) = refl

-- the name of an enabled access
name_told : (new : Bool) (m m' : Memory) (name fresh : ℕ) → is_name new name m.nodes ≡ true → fresh ≢ 0 → fields_named fresh m'.nodes ≡ None
    → (name ≡ 0 → (new ≡ false)) × (name ≢ 0 → (new ≡ true) × IsFresh name m × IsFresh fresh m' × (is_name true fresh m'.nodes ≡ true))
name_told true m m' zero fresh e some lost = absurd (untrue false refl e)
name_told true m m' (suc k) fresh e some lost =
    ((λ z. let no : ⊥ = omega (arith, z) in absurd no), λ ne. (refl, (ne, none_is (fields_named (suc k) m.nodes) (and_parts (nat_lt 0 (suc k)) (is_none (fields_named (suc k) m.nodes)) e).1), (some, lost), named fresh some)) where
      none_is : {A : Type 0} (o : Option A) → is_none o ≡ true → o ≡ None
      none_is None h = refl
      none_is (Some x) h = absurd (untrue false refl h)

      named : (f : ℕ) → f ≢ 0 → is_name true fresh m'.nodes ≡ true
      named f ne = let p : nat_lt 0 fresh ≡ true = positive fresh some in rw (p, lost) refl where
        positive : (x : ℕ) → x ≢ 0 → nat_lt 0 x ≡ true
        positive zero h = absurd (h refl)
        positive (suc x) h = grind (arith, nat_tests)
name_told false m m' zero fresh e some lost = ((λ z. refl), λ ne. absurd (ne refl))
name_told false m m' (suc k) fresh e some lost = absurd (untrue (suc k == 0) (grind (arith, nat_tests)) e)

-- what is known of a method run
abbrev IsKnown : Naming → Memory → MethodRun → MethodRun → Type 0
IsKnown n m run run' = IsRunImage n run run' × ((a : ℕ) → has a run.old ≡ true → is_some (fields_named a m.nodes) ≡ true)

module _ (n : Naming) (m m' : Memory) (image : IsMemoryImage n m m') (text : Text) (run run' : MethodRun) where
  accessed : (name name' : ℕ) (op : Op) (r r' : Running) (replies replies' : List SourceReply) (i : IsRunningImage n r r') → (is_in_method r.stand ≡ true → IsKnown n m run run')
      → (is_new_pending op r.stand ≡ true → IsFresh name m × IsFresh name' m')
      → (t : TurnIs n m (is_new_pending op r.stand) name name' (access_turn text name op r.stand r m (record { replies = replies; running = Some r })) (access_turn text name' op r'.stand r' m' (record { replies = replies'; running = Some r' })))
      × IsRunImage t.after (access_run text name r.stand (record { op = op; running = r }) m (access_turn text name op r.stand r m (record { replies = replies; running = Some r })) run)
      (access_run text name' r'.stand (record { op = op; running = r' }) m' (access_turn text name' op r'.stand r' m' (record { replies = replies'; running = Some r' })) run')
  accessed name name' op r r' replies replies' i known fresh = subst P (sym i.stand) (t0, access_followed n m m' image text name name' op r r' i (is_new_pending op r.stand) _ _ t0 run run' r.stand refl known) where
    P : Stand → Type 0
    P s = (t : TurnIs n m (is_new_pending op r.stand) name name' (access_turn text name op r.stand r m (record { replies = replies; running = Some r })) (access_turn text name' op s r' m' (record { replies = replies'; running = Some r' })))
        × IsRunImage t.after (access_run text name r.stand (record { op = op; running = r }) m (access_turn text name op r.stand r m (record { replies = replies; running = Some r })) run)
        (access_run text name' s (record { op = op; running = r' }) m' (access_turn text name' op s r' m' (record { replies = replies'; running = Some r' })) run')

    t0 : TurnIs n m (is_new_pending op r.stand) name name' (access_turn text name op r.stand r m (record { replies = replies; running = Some r })) (access_turn text name' op (renamed_stand n r.stand) r' m' (record { replies = replies'; running = Some r' }))
    t0 = access_turned n m m' image name name' text op r.stand r r' (record { replies = replies; running = Some r }) (record { replies = replies'; running = Some r' }) i i.stand_kept fresh

  running_step : (op : Op) (r r' : Running) (replies replies' : List SourceReply) → IsRunningImage n r r' → slice_get text.ops r.op ≡ Some op → (is_in_method r.stand ≡ true → IsKnown n m run run') → (event : SourceEvent) (fresh : ℕ) → fresh ≢ 0 → fields_named fresh m'.nodes ≡ None
      → is_enabled_running event (record { op = op; running = r }) m ≡ true
      → (is_enabled_running (with_name_of event fresh) (record { op = op; running = r' }) m' ≡ true)
      × ((made : Bool) × (name : ℕ) × (name' : ℕ)
      × ((t : TurnIs n m made name name' (running_turn text event (record { op = op; running = r }) m (record { replies = replies; running = Some r })) (running_turn text (with_name_of event fresh) (record { op = op; running = r' }) m' (record { replies = replies'; running = Some r' })))
      × IsRunImage t.after (run_of text event (Some (record { op = op; running = r })) m (running_turn text event (record { op = op; running = r }) m (record { replies = replies; running = Some r })) run)
      (run_of text (with_name_of event fresh) (Some (record { op = op; running = r' })) m' (running_turn text (with_name_of event fresh) (record { op = op; running = r' }) m' (record { replies = replies'; running = Some r' })) run')))
  running_step op r r' replies replies' i found known (events.Begin c number args) fresh some lost e = absurd (untrue false refl e)
  running_step op r r' replies replies' i found known (events.Restart c) fresh some lost e =
      let t = subst (λ s. IsRunningImageIf n (restarted op r.stand r (record { replies = replies; running = Some r })).running (restarted op s r' (record { replies = replies'; running = Some r' })).running) (sym i.stand)
      (restart_turned n m m' image 0 0 op r.stand r r' (record { replies = replies; running = Some r }) (record { replies = replies'; running = Some r' }) i i.stand_kept) in
      (ap is_in_method i.stand ∙ (method_same n r.stand ∙ e), (false, 0, 0, let u = left n m m' image 0 0 (restarted op r.stand r (record { replies = replies; running = Some r })) (restarted op r'.stand r' (record { replies = replies'; running = Some r' })) t in (u, begun_run u.after m m' u.memory)))
  running_step op r r' replies replies' i found known (events.GiveUp c phase) fresh some lost e = (
    ap (is_new_pending op) i.stand ∙ (new_same n op r.stand ∙ e),
    (false, 0, 0, let u = left n m m' image 0 0 (replied (give_up_reply phase) (record { replies = replies; running = Some r })) (replied (give_up_reply None) (record { replies = replies'; running = Some r' })) tt in (u, begun_run u.after m m' u.memory)),
  )
  running_step op r r' replies replies' i found known (events.Access c zero) fresh some lost e =
      let p = and_parts (is_pending op r.stand) (is_name (is_new_pending op r.stand) 0 m.nodes) e in
      let told = name_told (is_new_pending op r.stand) m m' 0 fresh p.1 some lost in
      let old : is_new_pending op r.stand ≡ false = told.0 refl in (
        and_from (is_pending op r'.stand) (is_name (is_new_pending op r'.stand) 0 m'.nodes) (ap (is_pending op) i.stand ∙ (pending_same n op r.stand ∙ p.0))
            (ap (λ b. is_name b 0 m'.nodes) (ap (is_new_pending op) i.stand ∙ (new_same n op r.stand ∙ old)) ∙ same_test 0),
        (is_new_pending op r.stand, 0, 0, accessed 0 0 op r r' replies replies' i known (λ h. absurd (untrue (is_new_pending op r.stand) old h))),
      )
  running_step op r r' replies replies' i found known (events.Access c (suc k)) fresh some lost e =
      let p = and_parts (is_pending op r.stand) (is_name (is_new_pending op r.stand) (suc k) m.nodes) e in
      let told = (name_told (is_new_pending op r.stand) m m' (suc k) fresh p.1 some lost).1 (λ z. let no : ⊥ = omega (arith, z) in no) in (
        and_from (is_pending op r'.stand) (is_name (is_new_pending op r'.stand) fresh m'.nodes) (ap (is_pending op) i.stand ∙ (pending_same n op r.stand ∙ p.0))
            (ap (λ b. is_name b fresh m'.nodes) (ap (is_new_pending op) i.stand ∙ (new_same n op r.stand ∙ told.0)) ∙ told.3),
        (is_new_pending op r.stand, suc k, fresh, accessed (suc k) fresh op r r' replies replies' i known (λ h. (told.1, told.2))),
      )

  -- ---- the step of a caller

  -- what is to be shown of an event of a caller
  abbrev CallerSteps : SourceEvent → SourceEvent → Option Performed → Option Performed → SourceCaller → SourceCaller → Type 0
  CallerSteps event event' here here' caller caller' =
      (is_enabled_by text event' here' m' caller' ≡ true)
      × ((made : Bool) × (name : ℕ) × (name' : ℕ)
      × ((t : TurnIs n m made name name' (turn_of text event here m caller) (turn_of text event' here' m' caller'))
      × IsRunImage t.after (run_of text event here m (turn_of text event here m caller) run) (run_of text event' here' m' (turn_of text event' here' m' caller') run')))

  begin_step : (c number : ℕ) (args : List ℕ) (fresh : ℕ) (replies replies' : List SourceReply) → is_enabled_by text (events.Begin c number args) None m (record { replies = replies; running = None }) ≡ true
      → CallerSteps (events.Begin c number args) (events.Begin c number args) None None (record { replies = replies; running = None }) (record { replies = replies'; running = None })
  begin_step c number args fresh replies replies' e =
      (e, (false, 0, 0, let u = left n m m' image 0 0 (begun (slice_get text.ops number) number args (record { replies = replies; running = None })) (begun (slice_get text.ops number) number args (record { replies = replies'; running = None })) (of (slice_get text.ops number)) in (u, begun_run u.after m m' u.memory))) where
        of : (o : Option Op) → IsRunningImageIf n (begun o number args (record { replies = replies; running = None })).running (begun o number args (record { replies = replies'; running = None })).running
        of None = tt
        of (Some op) = begun_image n op (record { op = number; args = args; registers = first_registers args; stand = InGenerator 0 }) (record { op = number; args = args; registers = first_registers args; stand = InGenerator 0 }) (record { op = refl; args = refl })

  some_step : (event : SourceEvent) (fresh : ℕ) → fresh ≢ 0 → fields_named fresh m'.nodes ≡ None → (op : Op) (r r' : Running) (replies replies' : List SourceReply) → IsRunningImage n r r' → slice_get text.ops r.op ≡ Some op
      → (is_in_method r.stand ≡ true → IsKnown n m run run')
      → is_enabled_by text event (Some (record { op = op; running = r })) m (record { replies = replies; running = Some r }) ≡ true
      → CallerSteps event (with_name_of event fresh) (Some (record { op = op; running = r })) (Some (record { op = op; running = r' })) (record { replies = replies; running = Some r }) (record { replies = replies'; running = Some r' })
  some_step (events.Begin c number args) fresh some lost op r r' replies replies' i found known e = absurd (untrue false refl e)
  some_step (events.Access c zero) fresh some lost op r r' replies replies' i found known e = running_step op r r' replies replies' i found known (events.Access c zero) fresh some lost e
  some_step (events.Access c (suc k)) fresh some lost op r r' replies replies' i found known e = running_step op r r' replies replies' i found known (events.Access c (suc k)) fresh some lost e
  some_step (events.Restart c) fresh some lost op r r' replies replies' i found known e = running_step op r r' replies replies' i found known (events.Restart c) fresh some lost e
  some_step (events.GiveUp c phase) fresh some lost op r r' replies replies' i found known e = running_step op r r' replies replies' i found known (events.GiveUp c phase) fresh some lost e

  no_step : (event : SourceEvent) (r : Running) (replies : List SourceReply) → is_enabled_by text event None m (record { replies = replies; running = Some r }) ≡ true → ⊥
  no_step (events.Begin c number args) r replies e = untrue false refl e
  no_step (events.Access c name) r replies e = untrue false refl e
  no_step (events.Restart c) r replies e = untrue false refl e
  no_step (events.GiveUp c phase) r replies e = untrue false refl e

  idle_step : (event : SourceEvent) (fresh : ℕ) (replies replies' : List SourceReply) → is_enabled_by text event None m (record { replies = replies; running = None }) ≡ true
      → CallerSteps event (with_name_of event fresh) None None (record { replies = replies; running = None }) (record { replies = replies'; running = None })
  idle_step (events.Begin c number args) fresh replies replies' e = begin_step c number args fresh replies replies' e
  idle_step (events.Access c name) fresh replies replies' e = absurd (untrue false refl e)
  idle_step (events.Restart c) fresh replies replies' e = absurd (untrue false refl e)
  idle_step (events.GiveUp c phase) fresh replies replies' e = absurd (untrue false refl e)

  pub caller_steps : (event : SourceEvent) (fresh : ℕ) → fresh ≢ 0 → fields_named fresh m'.nodes ≡ None → (replies replies' : List SourceReply) (o o' : Option Running) → IsRunningImageIf n o o'
      → (in_method o ≡ true → IsKnown n m run run')
      → is_enabled_by text event (performed_by text o) m (record { replies = replies; running = o }) ≡ true
      → CallerSteps event (with_name_of event fresh) (performed_by text o) (performed_by text o') (record { replies = replies; running = o }) (record { replies = replies'; running = o' })
  caller_steps event fresh some lost replies replies' None None i known e = idle_step event fresh replies replies' e
  caller_steps event fresh some lost replies replies' None (Some r') i known e = absurd i
  caller_steps event fresh some lost replies replies' (Some r) None i known e = absurd i
  caller_steps event fresh some lost replies replies' (Some r) (Some r') i known e = of (slice_get text.ops r.op) refl where
    here : Running → Option Op → Option Performed
    here q o = option_map (λ op. record { op = op; running = q }) o

    of : (o : Option Op) → slice_get text.ops r.op ≡ o → CallerSteps event (with_name_of event fresh) (performed_by text (Some r)) (performed_by text (Some r')) (record { replies = replies; running = Some r }) (record { replies = replies'; running = Some r' })
    of None at = absurd (no_step event r replies (sym (ap (λ o. is_enabled_by text event (here r o) m (record { replies = replies; running = Some r })) at) ∙ e))
    of (Some op) at =
        subst (λ p. CallerSteps event (with_name_of event fresh) p (performed_by text (Some r')) (record { replies = replies; running = Some r }) (record { replies = replies'; running = Some r' })) (sym (ap (here r) at))
        (subst (λ p. CallerSteps event (with_name_of event fresh) (Some (record { op = op; running = r })) p (record { replies = replies; running = Some r }) (record { replies = replies'; running = Some r' }))
        (sym (ap (here r') (ap (slice_get text.ops) i.op ∙ at)))
        (some_step event fresh some lost op r r' replies replies' i at known (sym (ap (λ o. is_enabled_by text event (here r o) m (record { replies = replies; running = Some r })) at) ∙ e)))

-- ---- the whole state

mover_same : (event : SourceEvent) (fresh : ℕ) → mover (with_name_of event fresh) ≡ mover event
mover_same (events.Begin c number args) fresh = refl
mover_same (events.Access c zero) fresh = refl
mover_same (events.Access c (suc k)) fresh = refl
mover_same (events.Restart c) fresh = refl
mover_same (events.GiveUp c phase) fresh = refl

get_set : {A : Type 0} (xs : List A) (i : ℕ) (x y : A) → slice_get xs i ≡ Some x → slice_get (set xs i y) i ≡ Some y
get_set [] i x y e = absurd (let z : None ≡ Some x = e in cc)
get_set (z ∷ xs) zero x y e = refl
get_set (z ∷ xs) (suc i) x y e = get_set xs i x y e

-- where a step of a caller leads
pub record Led (text : Text) (s : SourceMachine) (event : SourceEvent) (caller : SourceCaller) : Type 0 where
  pub memory : (source_step text s event).memory ≡ (caller_turn text event s.memory caller).memory
  pub here : slice_get (source_step text s event).callers (mover event) ≡ Some (caller_turn text event s.memory caller).caller

led : (text : Text) (s : SourceMachine) (event : SourceEvent) (caller : SourceCaller) → slice_get s.callers (mover event) ≡ Some caller → Led text s event caller
led text s event caller at =
    let e : source_step text s event ≡ with_turn s (mover event) (caller_turn text event s.memory caller) = ap (λ o. step_of text event o s) at in
    record { memory = ap (λ (x : SourceMachine). x.memory) e; here = ap (λ (x : SourceMachine). slice_get x.callers (mover event)) e ∙ get_set s.callers (mover event) caller (caller_turn text event s.memory caller).caller at }

-- what was retired before a run after an event began: all that is retired then, or what it was, if a method ran
was_in_method : Option Performed → Bool
was_in_method None = false
was_in_method (Some here) = is_in_method here.running.stand

wrap_up_old : (s : Option Stand) (x : ℕ) (memory : Memory) (run : MethodRun) → ((wrap_up_run s x memory run).old ≡ memory.retired) ⊎ ((wrap_up_run s x memory run).old ≡ run.old)
wrap_up_old None x memory run = inl refl
wrap_up_old (Some (InGenerator at)) x memory run = inl refl
wrap_up_old (Some (InList at entries made)) x memory run = inl refl
wrap_up_old (Some (InWrapUp at started accessed)) x memory run = inr refl

access_old : (text : Text) (name : ℕ) (s : Stand) (here : Performed) (m : Memory) (turn : Turn) (run : MethodRun)
    → ((access_run text name s here m turn run).old ≡ turn.memory.retired) ⊎ (((access_run text name s here m turn run).old ≡ run.old) × (is_in_method s ≡ true))
access_old text name (InGenerator at) here m turn run = inr (refl, refl)
access_old text name (InList at entries made) here m turn run = inl refl
access_old text name (InWrapUp at started accessed) here m turn run = ⊎_elim (λ e. inl e) (λ e. inr (e, refl)) (wrap_up_old (stand_in turn.caller.running) _ turn.memory run)

old_of : (text : Text) (event : SourceEvent) (here : Option Performed) (m : Memory) (turn : Turn) (run : MethodRun)
    → ((run_of text event here m turn run).old ≡ turn.memory.retired) ⊎ (((run_of text event here m turn run).old ≡ run.old) × (was_in_method here ≡ true))
unfolding was_in_method
old_of text event None m turn run = inl refl
old_of text (events.Begin c number args) (Some here) m turn run = inl refl
old_of text (events.Access c name) (Some here) m turn run = access_old text name here.running.stand here m turn run
old_of text (events.Restart c) (Some here) m turn run = inl refl
old_of text (events.GiveUp c phase) (Some here) m turn run = inl refl

method_was : (text : Text) (o : Option Running) → was_in_method (performed_by text o) ≡ true → in_method o ≡ true
unfolding was_in_method
method_was text None e = e
method_was text (Some r) e = of (slice_get text.ops r.op) e where
  of : (o : Option Op) → was_in_method (option_map (λ op. let p : Performed = record { op = op; running = r } in p) o) ≡ true → is_in_method r.stand ≡ true
  of None h = absurd (untrue false refl h)
  of (Some op) h = h

module _ (n : Naming) (text : Text) (w w' : Watched) (event : SourceEvent) (fresh : ℕ) (image : IsImage n w w') (enabled : is_enabled text w.machine event ≡ true)
    (some : fresh ≢ 0) (lost : fields_named fresh w'.machine.memory.nodes ≡ None) (caller caller' : SourceCaller)
    (at : slice_get w.machine.callers (mover event) ≡ Some caller) (at' : slice_get w'.machine.callers (mover event) ≡ Some caller') (running : IsRunningImageIf n caller.running caller'.running) where
  m : Memory
  m = w.machine.memory

  event' : SourceEvent
  event' = with_name_of event fresh

  on_here : in_method caller.running ≡ true → runs_method (slice_get w.machine.callers (mover event)) ≡ true
  on_here e = ap runs_method at ∙ e

  steps : (is_enabled_by text (with_name_of event fresh) (performed text caller') w'.machine.memory caller' ≡ true)
      × ((made : Bool) × (name : ℕ) × (name' : ℕ)
      × ((t : TurnIs n w.machine.memory made name name' (caller_turn text event w.machine.memory caller) (caller_turn text (with_name_of event fresh) w'.machine.memory caller'))
      × IsRunImage t.after (run_after text event w.machine.memory caller (w.runs (mover event))) (run_after text (with_name_of event fresh) w'.machine.memory caller' (w'.runs (mover event)))))
  steps = caller_steps n w.machine.memory w'.machine.memory image.memory text (w.runs (mover event)) (w'.runs (mover event)) event fresh some lost caller.replies caller'.replies caller.running caller'.running running
      (λ e. (image.runs (mover event) (on_here e), λ a h. image.old_used (mover event) a (on_here e) h))
      (sym (ap (λ o. is_enabled_for text event o w.machine.memory) at) ∙ enabled)

  pub enabled_on : is_enabled text w'.machine (with_name_of event fresh) ≡ true
  enabled_on = ap (λ c. is_enabled_for text (with_name_of event fresh) (slice_get w'.machine.callers c) w'.machine.memory) (mover_same event fresh)
      ∙ (ap (λ o. is_enabled_for text (with_name_of event fresh) o w'.machine.memory) at' ∙ steps.0)

  l : Led text w.machine event caller
  l = led text w.machine event caller at

  at_moved : slice_get w'.machine.callers (mover (with_name_of event fresh)) ≡ Some caller'
  at_moved = ap (slice_get w'.machine.callers) (mover_same event fresh) ∙ at'

  l' : Led text w'.machine (with_name_of event fresh) caller'
  l' = led text w'.machine (with_name_of event fresh) caller' at_moved

  t : TurnIs n w.machine.memory steps.1.0 steps.1.1 steps.1.2 (caller_turn text event w.machine.memory caller) (caller_turn text (with_name_of event fresh) w'.machine.memory caller')
  t = steps.1.3.0

  here' : slice_get (source_step text w'.machine (with_name_of event fresh)).callers (mover event) ≡ Some (caller_turn text (with_name_of event fresh) w'.machine.memory caller').caller
  here' = sym (ap (slice_get (source_step text w'.machine (with_name_of event fresh)).callers) (mover_same event fresh)) ∙ l'.here

  stays : (d : ℕ) → d ≢ mover event → slice_get (source_step text w.machine event).callers d ≡ slice_get w.machine.callers d
  stays d ne = others_stay text w.machine event d ne

  stays' : (d : ℕ) → d ≢ mover event → slice_get (source_step text w'.machine (with_name_of event fresh)).callers d ≡ slice_get w'.machine.callers d
  stays' d ne = others_stay text w'.machine (with_name_of event fresh) d (λ e. ne (e ∙ mover_same event fresh))

  run_here : (watched_step text w event).runs (mover event) ≡ run_after text event w.machine.memory caller (w.runs (mover event))
  run_here = put_same w.runs (mover event) _ ∙ ap (λ o. run_at text event w.machine.memory o (w.runs (mover event))) at

  run_here' : (watched_step text w' (with_name_of event fresh)).runs (mover event) ≡ run_after text (with_name_of event fresh) w'.machine.memory caller' (w'.runs (mover event))
  run_here' =
      ap (λ c. put w'.runs c (run_at text (with_name_of event fresh) w'.machine.memory (slice_get w'.machine.callers c) (w'.runs c)) (mover event)) (mover_same event fresh)
      ∙ (put_same w'.runs (mover event) _ ∙ ap (λ o. run_at text (with_name_of event fresh) w'.machine.memory o (w'.runs (mover event))) at')

  names_stay : (a : ℕ) → is_some (fields_named a w.machine.memory.nodes) ≡ true → is_some (fields_named a (source_step text w.machine event).memory.nodes) ≡ true
  names_stay a e = (later_step text w.machine event).names a e

  caller_there : (d : ℕ) → IsCallerImage t.after (slice_get (source_step text w.machine event).callers d) (slice_get (source_step text w'.machine (with_name_of event fresh)).callers d)
  caller_there d = ⊎_elim
      (λ (e : d ≡ mover event). subst (λ k. IsCallerImage t.after (slice_get (source_step text w.machine event).callers k) (slice_get (source_step text w'.machine (with_name_of event fresh)).callers k)) (sym e)
      (subst (λ o. IsCallerImage t.after o (slice_get (source_step text w'.machine (with_name_of event fresh)).callers (mover event))) (sym l.here)
      (subst (λ o. IsCallerImage t.after (Some (caller_turn text event w.machine.memory caller).caller) o) (sym here') t.running)))
      (λ (ne : d ≢ mover event). subst (λ o. IsCallerImage t.after o (slice_get (source_step text w'.machine (with_name_of event fresh)).callers d)) (sym (stays d ne))
      (subst (λ o. IsCallerImage t.after (slice_get w.machine.callers d) o) (sym (stays' d ne)) (caller_more n t.after t.extends _ _ (image.callers d))))
      (cases_eq d (mover event))

  run_there : (d : ℕ) → runs_method (slice_get (source_step text w.machine event).callers d) ≡ true → IsRunImage t.after ((watched_step text w event).runs d) ((watched_step text w' (with_name_of event fresh)).runs d)
  unfolding t
  run_there d on = ⊎_elim
      (λ (e : d ≡ mover event). subst (λ k. IsRunImage t.after ((watched_step text w event).runs k) ((watched_step text w' (with_name_of event fresh)).runs k)) (sym e)
      (subst (λ r. IsRunImage t.after r ((watched_step text w' (with_name_of event fresh)).runs (mover event))) (sym run_here)
      (subst (λ r. IsRunImage t.after (run_after text event w.machine.memory caller (w.runs (mover event))) r) (sym run_here') steps.1.3.1)))
      (λ (ne : d ≢ mover event).
      let was : runs_method (slice_get w.machine.callers d) ≡ true = sym (ap runs_method (stays d ne)) ∙ on in
      subst (λ r. IsRunImage t.after r ((watched_step text w' (with_name_of event fresh)).runs d)) (sym (put_other w.runs (mover event) d _ ne))
      (subst (λ r. IsRunImage t.after (w.runs d) r) (sym (put_other w'.runs (mover (with_name_of event fresh)) d _ (λ e. ne (e ∙ mover_same event fresh))))
      (run_more n t.after w.machine.memory t.extends t.only (w.runs d) (w'.runs d) (λ a h. image.old_used d a was h) (image.runs d was))))
      (cases_eq d (mover event))

  used_here : (a : ℕ) → has a (run_after text event w.machine.memory caller (w.runs (mover event))).old ≡ true → is_some (fields_named a (source_step text w.machine event).memory.nodes) ≡ true
  used_here a h = ⊎_elim
      (λ (e : (run_after text event w.machine.memory caller (w.runs (mover event))).old ≡ (caller_turn text event w.machine.memory caller).memory.retired).
      ap (λ (x : Memory). is_some (fields_named a x.nodes)) l.memory ∙ t.memory.retired_used a (sym (ap (has a) e) ∙ h))
      (λ (k : ((run_after text event w.machine.memory caller (w.runs (mover event))).old ≡ (w.runs (mover event)).old) × (was_in_method (performed text caller) ≡ true)).
      names_stay a (image.old_used (mover event) a (on_here (method_was text caller.running k.1)) (sym (ap (has a) k.0) ∙ h)))
      (old_of text event (performed text caller) w.machine.memory (caller_turn text event w.machine.memory caller) (w.runs (mover event)))

  used_there : (d a : ℕ) → runs_method (slice_get (source_step text w.machine event).callers d) ≡ true → has a ((watched_step text w event).runs d).old ≡ true → is_some (fields_named a (source_step text w.machine event).memory.nodes) ≡ true
  used_there d a on h = ⊎_elim
      (λ (e : d ≡ mover event). used_here a (sym (ap (λ (r : MethodRun). has a r.old) (ap (watched_step text w event).runs e ∙ run_here)) ∙ h))
      (λ (ne : d ≢ mover event). names_stay a (image.old_used d a (sym (ap runs_method (stays d ne)) ∙ on) (sym (ap (λ (r : MethodRun). has a r.old) (put_other w.runs (mover event) d _ ne)) ∙ h)))
      (cases_eq d (mover event))

  pub stepped : (after : Naming) × IsImage after (watched_step text w event) (watched_step text w' (with_name_of event fresh))
  stepped = (
    t.after,
    record {
      memory = subst (λ x. IsMemoryImage t.after x (source_step text w'.machine (with_name_of event fresh)).memory) (sym l.memory) (subst (IsMemoryImage t.after (caller_turn text event w.machine.memory caller).memory) (sym l'.memory) t.memory);
      callers = caller_there;
      runs = run_there;
      old_used = used_there;
    },
  )

pub images_simulate : ImagesSimulate
images_simulate n text w w' event fresh image enabled some lost = of (slice_get w.machine.callers (mover event)) refl (slice_get w'.machine.callers (mover event)) refl (image.callers (mover event)) where
  of : (o : Option SourceCaller) → slice_get w.machine.callers (mover event) ≡ o → (o' : Option SourceCaller) → slice_get w'.machine.callers (mover event) ≡ o' → IsCallerImage n o o'
      → (is_enabled text w'.machine (with_name_of event fresh) ≡ true) × ((after : Naming) × IsImage after (watched_step text w event) (watched_step text w' (with_name_of event fresh)))
  of None at o' at' i = absurd (untrue false refl (sym (ap (λ o. is_enabled_for text event o w.machine.memory) at) ∙ enabled))
  of (Some c) at None at' i = absurd i
  of (Some c) at (Some c') at' i = (enabled_on n text w w' event fresh image enabled some lost c c' at at' i, stepped n text w w' event fresh image enabled some lost c c' at at' i)
