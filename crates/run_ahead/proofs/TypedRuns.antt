-- Along every source run memory stays typed, and so do the registers of each caller where it stands.
use Rattle.std.proofs.Common.{◌≡◌, ℕ, zero, suc, ◌+◌, Bool, true, false, List, [], ◌∷◌, length, Option, Some, None, refl, sym, ap, subst, ◌∙◌}
use Rattle.std.specs.Prelude.{slice_get, nat_lt, option_map, if◌then◌else◌, IsTrue}
use Rattle.std.specs.List.{list_any}
use Rattle.std.proofs.lemmas.Bool.{or_parts, and_parts}
use Rattle.std.proofs.lemmas.Option.{same_Some}
use Rattle.norm_lang.specs.declared.text.CasEntry.{CasEntry}
use Rattle.norm_lang.specs.declared.text.Instr.{Instr}
use Rattle.norm_lang.specs.declared.text.Instr.TheVariants as instr
use Rattle.norm_lang.specs.declared.text.Op.{Op}
use Rattle.norm_lang.specs.declared.text.Text.{Text}
use Rattle.norm_lang.specs.declared.registers.Registers.{Registers}
use Rattle.norm_lang.specs.Registers.{first_registers, with_count}
use Rattle.norm_lang.specs.InstructionRules.{has_wrong_operand}
use Rattle.norm_lang.specs.Limits.{IsWithinLimits}
use Rattle.norm_lang.specs.Local.{Spot, local_run}
use Rattle.norm_lang.specs.NormalForm.{IsNormal}
use Rattle.source_machine.specs.declared.event.SourceEvent.{SourceEvent}
use Rattle.source_machine.specs.declared.event.SourceEvent.TheVariants.{Begin, Access, Restart, GiveUp}
use Rattle.source_machine.specs.Frames.{Holds, Kept}
use Rattle.source_machine.specs.Memory.{exchange, access_at, Reached}
use Rattle.source_machine.specs.MethodRuns.{MethodRun, Watched, watched_start}
use Rattle.source_machine.specs.Run.{mover, is_pending, is_new_pending, is_name, is_new_at, is_enabled_running, is_enabled_by, IsSourceRun}
use Rattle.source_machine.specs.declared.state.NamedNode.{NamedNode}
use Rattle.source_machine.specs.declared.state.Stand.{Stand}
use Rattle.source_machine.specs.declared.state.Stand.TheVariants.{InGenerator, InList, InWrapUp}
use Rattle.source_machine.specs.declared.state.Running.{Running}
use Rattle.source_machine.specs.declared.state.SourceCaller.{SourceCaller}
use Rattle.source_machine.specs.declared.state.SourceMachine.{SourceMachine}
use Rattle.source_machine.specs.declared.state.Memory.{Memory}
use Rattle.source_machine.specs.State.{first_memory}
use Rattle.source_machine.specs.Step.{generator_stand, generator_from, is_access_at, goes_on, wrap_up_end, wrap_up_stop, wrap_up_from, wrap_up_begun, generator_begun, list_next, list_turn, entry_turn, generator_turn, wrap_up_turn, access_turn, restarted, begun, Turn, Performed, performed_by, performed, running_turn, turn_of, caller_turn}
use Rattle.source_machine.proofs.Along.{along_run}
use Rattle.source_machine.proofs.Frames.{every_step, starts}
use Rattle.run_ahead.specs.NameLaws.{MemoryIsTyped, CallersAreTyped}
use Rattle.run_ahead.specs.Typed.{IsTyped, KindsStay}
use Rattle.run_ahead.specs.TypedCallers.{StandsTyped, IsTypedStand, IsTypedRunning, IsTypedCaller}
use Rattle.run_ahead.proofs.Bare.{kind_at}
use Rattle.run_ahead.proofs.TypedMemory.{exchange_typed, exchange_kinds_stay}
use Rattle.run_ahead.proofs.TypedCallers.{Comes, stands_stay, list_asked, local_stands, access_at_comes, generator_starts, wrap_up_starts}
use Rattle.run_ahead.proofs.TypedStart.{first_typed}

-- ---- names that come change nothing

pub stand_stays : (text : Text) (op : Op) (nodes nodes' : List NamedNode) (registers : Registers) (stand : Stand) → KindsStay nodes nodes' → IsTypedStand text op nodes registers stand → IsTypedStand text op nodes' registers stand
stand_stays text op nodes nodes' registers (InGenerator at) stay stands = stands_stay text op false at nodes nodes' registers stay stands
stand_stays text op nodes nodes' registers (InList at entries made) stay stands = (stands.0, stands_stay text op false at nodes nodes' registers stay stands.1)
stand_stays text op nodes nodes' registers (InWrapUp at started accessed) stay stands =
    (stands_stay text op true 0 nodes nodes' started stay stands.0, stands_stay text op true at nodes nodes' registers stay stands.1)

running_stays : (text : Text) (nodes nodes' : List NamedNode) (running : Option Running) → KindsStay nodes nodes' → IsTypedRunning text nodes running → IsTypedRunning text nodes' running
running_stays text nodes nodes' None stay runs = tt
running_stays text nodes nodes' (Some running) stay runs = λ op is. stand_stays text op nodes nodes' running.registers running.stand stay (runs op is)

pub typed_caller_stays : (text : Text) (nodes nodes' : List NamedNode) (caller : SourceCaller) → KindsStay nodes nodes' → IsTypedCaller text nodes caller → IsTypedCaller text nodes' caller
typed_caller_stays text nodes nodes' caller stay runs = running_stays text nodes nodes' caller.running stay runs

-- ---- lists

-- an item of a list of which none passes
none_passes : {X : Type 0} (test : X → Bool) (xs : List X) (k : ℕ) (x : X) → list_any test xs ≡ false → slice_get xs k ≡ Some x → test x ≡ false
none_passes test [] k x none is = absurd (let never : None ≡ Some x = is in cc)
none_passes test (y ∷ xs) zero x none is = ap test (sym (same_Some y x is)) ∙ (or_parts (test y) (list_any test xs) none).0
none_passes test (y ∷ xs) (suc k) x none is = none_passes test xs k x (or_parts (test y) (list_any test xs) none).1 is

-- ---- an operation of the text

-- a caller that runs an operation with this number
abbrev RunsOp : Text → Op → ℕ → List NamedNode → Option Running → Type 0
RunsOp text op number nodes None = Unit {0}
RunsOp text op number nodes (Some running) = (running.op ≡ number) × IsTypedStand text op nodes running.registers running.stand

runs_any : (text : Text) (op : Op) (number : ℕ) (nodes : List NamedNode) (running : Option Running) → slice_get text.ops number ≡ Some op → RunsOp text op number nodes running → IsTypedRunning text nodes running
runs_any text op number nodes None is runs = tt
runs_any text op number nodes (Some running) is runs =
    λ other found. subst (λ (o : Op). IsTypedStand text o nodes running.registers running.stand) (same_Some op other (sym is ∙ (sym (ap (slice_get text.ops) runs.0) ∙ found))) runs.1

-- memory and registers stay typed over a turn
record Turned (text : Text) (op : Op) (number : ℕ) (nodes : List NamedNode) (turn : Turn) : Type 0 where
  pub typed : IsTyped text turn.memory
  pub stay : KindsStay nodes turn.memory.nodes
  pub runs : RunsOp text op number turn.memory.nodes turn.caller.running

module _ (text : Text) (normal : IsNormal text) (within : IsWithinLimits text) (number : ℕ) (op : Op) (is : slice_get text.ops number ≡ Some op) where
  -- ---- the generator

  generator_runs : (nodes : List NamedNode) (registers : Registers) (i : Option Instr) (at : ℕ) → slice_get op.generator at ≡ i → StandsTyped text op false at nodes registers → IsTypedStand text op nodes registers (generator_stand i at)
  generator_runs nodes registers None at there stands = stands
  generator_runs nodes registers (Some (instr.Commit entries)) at there stands = (there, stands)
  generator_runs nodes registers (Some _) at there stands = stands

  generator_from_runs : (nodes : List NamedNode) (spot : Spot) (running : Running) → running.op ≡ number → StandsTyped text op false spot.at nodes spot.registers → RunsOp text op number nodes (Some (generator_from op spot running))
  generator_from_runs nodes spot running same stands =
      let next = local_run op.generator (length op.generator) spot in
      (same, generator_runs nodes next.registers (slice_get op.generator next.at) next.at refl (local_stands text normal within number op is false spot nodes stands))

  begun_runs : (nodes : List NamedNode) (running : Running) → running.op ≡ number → RunsOp text op number nodes (Some (generator_begun op running))
  begun_runs nodes running same = generator_from_runs nodes (record { at = 0; registers = first_registers running.args }) running same (generator_starts text op nodes running.args)

  -- ---- the wrap-up

  end_runs : (nodes : List NamedNode) (i : Option Instr) (running : Running) (caller : SourceCaller) → running.op ≡ number → IsTypedStand text op nodes running.registers running.stand → RunsOp text op number nodes (wrap_up_end op i running caller).running
  end_runs nodes None running caller same stands = (same, stands)
  end_runs nodes (Some (instr.Return a)) running caller same stands = tt
  end_runs nodes (Some instr.ReturnNone) running caller same stands = tt
  end_runs nodes (Some instr.Again) running caller same stands = begun_runs nodes running same
  end_runs nodes (Some _) running caller same stands = (same, stands)

  stop_runs : (nodes : List NamedNode) (accessed : Bool) (i : Option Instr) (running : Running) (caller : SourceCaller) → running.op ≡ number → IsTypedStand text op nodes running.registers running.stand
      → RunsOp text op number nodes (wrap_up_stop accessed op i running caller).running
  stop_runs nodes true i running caller same stands = (same, stands)
  stop_runs nodes false i running caller same stands = end_runs nodes i running caller same stands

  wrap_up_runs : (nodes : List NamedNode) (started : Registers) (accessed : Bool) (spot : Spot) (running : Running) (caller : SourceCaller) → running.op ≡ number → StandsTyped text op true 0 nodes started
      → StandsTyped text op true spot.at nodes spot.registers → RunsOp text op number nodes (wrap_up_from op started accessed spot running caller).running
  wrap_up_runs nodes started accessed spot running caller same first stands =
      let next = local_run op.wrapup (length op.wrapup) spot in
      stop_runs nodes accessed (slice_get op.wrapup next.at) (record running { registers = next.registers; stand = InWrapUp next.at started accessed }) caller same
      (first, local_stands text normal within number op is true spot nodes stands)

  wrap_up_begun_runs : (nodes : List NamedNode) (at : ℕ) (entries : List CasEntry) (made : ℕ) (running : Running) (caller : SourceCaller) → running.op ≡ number → slice_get op.generator at ≡ Some (instr.Commit entries)
      → StandsTyped text op false at nodes running.registers → RunsOp text op number nodes (wrap_up_begun op made running caller).running
  wrap_up_begun_runs nodes at entries made running caller same commits stands =
      let first = wrap_up_starts text op at entries nodes running.registers made commits stands in
      wrap_up_runs nodes (with_count running.registers made) false (record { at = 0; registers = with_count running.registers made }) running caller same first first

  -- ---- the list

  next_runs : (nodes : List NamedNode) (at : ℕ) (entries : List CasEntry) (made : ℕ) (running : Running) (caller : SourceCaller) → running.op ≡ number → slice_get op.generator at ≡ Some (instr.Commit entries)
      → StandsTyped text op false at nodes running.registers → RunsOp text op number nodes (list_next op at entries made running caller).running
  next_runs nodes at entries made running caller same commits stands = by (nat_lt made (length entries))
    where
      by : (b : Bool) → RunsOp text op number nodes (if b then goes_on (record running { stand = InList at entries made }) caller else wrap_up_begun op made running caller).running
      by true = (same, (commits, stands))
      by false = wrap_up_begun_runs nodes at entries made running caller same commits stands

  list_turned : (at : ℕ) (entries : List CasEntry) (made : ℕ) (entry : CasEntry) (o : Option Memory) (running : Running) (memory : Memory) (caller : SourceCaller) → exchange text.fields entry running.registers memory ≡ o
      → slice_get entries made ≡ Some entry → running.op ≡ number → slice_get op.generator at ≡ Some (instr.Commit entries) → IsTyped text memory → StandsTyped text op false at memory.nodes running.registers
      → Turned text op number memory.nodes (list_turn op at entries made o running memory caller)
  list_turned at entries made entry None running memory caller makes there same commits typed stands =
      record { typed = typed; stay = λ n k e. e; runs = wrap_up_begun_runs memory.nodes at entries made running caller same commits stands }
  list_turned at entries made entry (Some after) running memory caller makes there same commits typed stands =
      let right = none_passes (has_wrong_operand text.fields text.roots) entries made entry (kind_at text normal number op false at (instr.Commit entries) is commits) there in
      let stay = exchange_kinds_stay text.fields entry running.registers memory after makes in
      record {
        typed = exchange_typed text entry running.registers memory after right (list_asked text normal number op is memory.nodes at entries running.registers commits stands made entry there) makes typed;
        stay = stay;
        runs = next_runs after.nodes at entries (made + 1) running caller same commits (stands_stay text op false at memory.nodes after.nodes running.registers stay stands);
      }

  entry_turned : (at : ℕ) (entries : List CasEntry) (made : ℕ) (o : Option CasEntry) (running : Running) (memory : Memory) (caller : SourceCaller) → slice_get entries made ≡ o → running.op ≡ number
      → slice_get op.generator at ≡ Some (instr.Commit entries) → IsTyped text memory → StandsTyped text op false at memory.nodes running.registers → Turned text op number memory.nodes (entry_turn text.fields op at entries made o running memory caller)
  entry_turned at entries made None running memory caller there same commits typed stands =
      record { typed = typed; stay = λ n k e. e; runs = wrap_up_begun_runs memory.nodes at entries made running caller same commits stands }
  entry_turned at entries made (Some entry) running memory caller there same commits typed stands =
      list_turned at entries made entry (exchange text.fields entry running.registers memory) running memory caller refl there same commits typed stands

  -- ---- events

  generator_turned : (at name : ℕ) (running : Running) (memory : Memory) (caller : SourceCaller) → running.op ≡ number → IsTrue (is_name (is_new_at (slice_get op.generator at)) name memory.nodes) → IsTyped text memory
      → StandsTyped text op false at memory.nodes running.registers → Turned text op number memory.nodes (generator_turn op (access_at text name (slice_get op.generator at) at running.registers memory) running caller)
  generator_turned at name running memory caller same named typed stands =
      let comes = access_at_comes text normal within number op is false name at running.registers memory named typed stands in
      let reached = access_at text name (slice_get op.generator at) at running.registers memory in
      record { typed = comes.typed; stay = comes.stay; runs = generator_from_runs reached.memory.nodes reached.spot running same comes.stands }

  wrap_up_turned : (b : Bool) (started : Registers) (i : Option Instr) (reached : Reached) (running : Running) (memory : Memory) (caller : SourceCaller) → running.op ≡ number → IsTyped text memory
      → IsTypedStand text op memory.nodes running.registers running.stand → StandsTyped text op true 0 memory.nodes started → Comes text op true memory.nodes reached
      → Turned text op number memory.nodes (wrap_up_turn b op started i reached running memory caller)
  wrap_up_turned true started i reached running memory caller same typed stands first comes = record {
    typed = comes.typed;
    stay = comes.stay;
    runs = wrap_up_runs reached.memory.nodes started true reached.spot running caller same (stands_stay text op true 0 memory.nodes reached.memory.nodes started comes.stay first) comes.stands;
  }
  wrap_up_turned false started i reached running memory caller same typed stands first comes = record { typed = typed; stay = λ n k e. e; runs = end_runs memory.nodes i running caller same stands }

  access_turned : (name : ℕ) (stand : Stand) (running : Running) (memory : Memory) (caller : SourceCaller) → running.op ≡ number → running.stand ≡ stand → IsTrue (is_name (is_new_pending op stand) name memory.nodes) → IsTyped text memory
      → IsTypedStand text op memory.nodes running.registers stand → Turned text op number memory.nodes (access_turn text name op stand running memory caller)
  access_turned name (InGenerator at) running memory caller same at_stand named typed stands = generator_turned at name running memory caller same named typed stands
  access_turned name (InList at entries made) running memory caller same at_stand named typed stands =
      entry_turned at entries made (slice_get entries made) running memory caller refl same stands.0 typed stands.1
  access_turned name (InWrapUp at started accessed) running memory caller same at_stand named typed stands =
      wrap_up_turned (is_access_at (slice_get op.wrapup at)) started (slice_get op.wrapup at) _ running memory caller same typed
      (subst (λ (s : Stand). IsTypedStand text op memory.nodes running.registers s) (sym at_stand) stands) stands.0
      (access_at_comes text normal within number op is true name at running.registers memory named typed stands.1)

  restarted_runs : (nodes : List NamedNode) (stand : Stand) (running : Running) (caller : SourceCaller) → running.op ≡ number → IsTypedStand text op nodes running.registers stand → RunsOp text op number nodes (restarted op stand running caller).running
  restarted_runs nodes (InGenerator at) running caller same stands = begun_runs nodes running same
  restarted_runs nodes (InList at entries made) running caller same stands = begun_runs nodes running same
  restarted_runs nodes (InWrapUp at started accessed) running caller same stands = wrap_up_runs nodes started false (record { at = 0; registers = started }) running caller same stands.0 stands.0

-- ---- an event

-- memory stays typed over an event of a caller, and so do its registers
record After (text : Text) (nodes : List NamedNode) (turn : Turn) : Type 0 where
  pub typed : IsTyped text turn.memory
  pub stay : KindsStay nodes turn.memory.nodes
  pub runs : IsTypedRunning text turn.memory.nodes turn.caller.running

of_turned : (text : Text) (op : Op) (number : ℕ) (nodes : List NamedNode) (turn : Turn) → slice_get text.ops number ≡ Some op → Turned text op number nodes turn → After text nodes turn
of_turned text op number nodes turn is turned = record { typed = turned.typed; stay = turned.stay; runs = runs_any text op number turn.memory.nodes turn.caller.running is turned.runs }

running_after : (text : Text) → IsNormal text → IsWithinLimits text → (event : SourceEvent) (here : Performed) (memory : Memory) (caller : SourceCaller) → slice_get text.ops here.running.op ≡ Some here.op → caller.running ≡ Some here.running
    → is_enabled_running event here memory ≡ true → IsTyped text memory → IsTypedRunning text memory.nodes (Some here.running) → After text memory.nodes (running_turn text event here memory caller)
running_after text normal within (Begin c number args) here memory caller is runs enabled typed stands = absurd (let never : false ≡ true = enabled in cc)
running_after text normal within (Access c name) here memory caller is runs enabled typed stands =
    let named = (and_parts (is_pending here.op here.running.stand) (is_name (is_new_pending here.op here.running.stand) name memory.nodes) enabled).1 in
    of_turned text here.op here.running.op memory.nodes (access_turn text name here.op here.running.stand here.running memory caller) is
    (access_turned text normal within here.running.op here.op is name here.running.stand here.running memory caller refl refl named typed (stands here.op is))
running_after text normal within (Restart c) here memory caller is runs enabled typed stands = record {
  typed = typed;
  stay = λ n k e. e;
  runs = runs_any text here.op here.running.op memory.nodes (restarted here.op here.running.stand here.running caller).running is
      (restarted_runs text normal within here.running.op here.op is memory.nodes here.running.stand here.running caller refl (stands here.op is));
}
running_after text normal within (GiveUp c phase) here memory caller is runs enabled typed stands = record { typed = typed; stay = λ n k e. e; runs = tt }

begun_after : (text : Text) → IsNormal text → IsWithinLimits text → (number : ℕ) (args : List ℕ) (memory : Memory) (caller : SourceCaller) → IsTypedCaller text memory.nodes caller
    → IsTypedRunning text memory.nodes (begun (slice_get text.ops number) number args caller).running
begun_after text normal within number args memory caller runs = by (slice_get text.ops number) refl
  where
    by : (o : Option Op) → slice_get text.ops number ≡ o → IsTypedRunning text memory.nodes (begun o number args caller).running
    by None is = runs
    by (Some op) is =
        let running : Running = record { op = number; args = args; registers = first_registers args; stand = InGenerator 0 } in
        runs_any text op number memory.nodes (Some (generator_begun op running)) is (begun_runs text normal within number op is memory.nodes running refl)

event_after : (text : Text) → IsNormal text → IsWithinLimits text → (event : SourceEvent) (here : Option Performed) (memory : Memory) (caller : SourceCaller)
    → ((p : Performed) → here ≡ Some p → (slice_get text.ops p.running.op ≡ Some p.op) × (caller.running ≡ Some p.running)) → is_enabled_by text event here memory caller ≡ true
    → IsTyped text memory → IsTypedCaller text memory.nodes caller → After text memory.nodes (turn_of text event here memory caller)
event_after text normal within (Begin c number args) None memory caller is enabled typed runs = record { typed = typed; stay = λ n k e. e; runs = begun_after text normal within number args memory caller runs }
event_after text normal within (Begin c number args) (Some p) memory caller is enabled typed runs = record { typed = typed; stay = λ n k e. e; runs = begun_after text normal within number args memory caller runs }
event_after text normal within (Access c name) None memory caller is enabled typed runs = record { typed = typed; stay = λ n k e. e; runs = runs }
event_after text normal within (Restart c) None memory caller is enabled typed runs = record { typed = typed; stay = λ n k e. e; runs = runs }
event_after text normal within (GiveUp c phase) None memory caller is enabled typed runs = record { typed = typed; stay = λ n k e. e; runs = runs }
event_after text normal within (Access c name) (Some p) memory caller is enabled typed runs =
    let here = is p refl in
    running_after text normal within (Access c name) p memory caller here.0 here.1 enabled typed (subst (IsTypedRunning text memory.nodes) here.1 runs)
event_after text normal within (Restart c) (Some p) memory caller is enabled typed runs =
    let here = is p refl in
    running_after text normal within (Restart c) p memory caller here.0 here.1 enabled typed (subst (IsTypedRunning text memory.nodes) here.1 runs)
event_after text normal within (GiveUp c phase) (Some p) memory caller is enabled typed runs =
    let here = is p refl in
    running_after text normal within (GiveUp c phase) p memory caller here.0 here.1 enabled typed (subst (IsTypedRunning text memory.nodes) here.1 runs)

-- the operation that a caller performs is the text's
performed_is : (text : Text) (running : Option Running) (p : Performed) → performed_by text running ≡ Some p → (slice_get text.ops p.running.op ≡ Some p.op) × (running ≡ Some p.running)
performed_is text None p is = absurd (let never : None ≡ Some p = is in cc)
performed_is text (Some running) p is = by (slice_get text.ops running.op) refl is
  where
    by : (o : Option Op) → slice_get text.ops running.op ≡ o → option_map (λ op. record { op = op; running = running }) o ≡ Some p → (slice_get text.ops p.running.op ≡ Some p.op) × (Some running ≡ Some p.running)
    by None there same = absurd (let never : None ≡ Some p = same in cc)
    by (Some op) there same =
        let whole : record { op = op; running = running } ≡ p = same_Some _ p same in
        (ap (λ (z : Performed). slice_get text.ops z.running.op) (sym whole) ∙ (there ∙ ap (λ (z : Performed). Some z.op) whole), ap (λ (z : Performed). Some z.running) whole)

-- ---- along a run

abbrev Stays : ℕ → Memory → Memory → Type 0
Stays c memory memory' = KindsStay memory.nodes memory'.nodes

abbrev StandsRight : Text → Memory → ℕ → MethodRun → SourceCaller → Type 0
StandsRight text memory c run caller = IsTypedCaller text memory.nodes caller

abbrev AllTyped : Text → Watched → Type 0
AllTyped text w = Holds Memory (λ m. m) (IsTyped text) (StandsRight text) w

event_keeps : (text : Text) → IsNormal text → IsWithinLimits text → (event : SourceEvent) (memory : Memory) (run : MethodRun) (caller : SourceCaller) → IsTyped text memory → StandsRight text memory (mover event) run caller
    → is_enabled_by text event (performed text caller) memory caller ≡ true → Kept text Memory (λ m. m) (IsTyped text) (StandsRight text) Stays event (mover event) memory run caller
event_keeps text normal within event memory run caller typed runs enabled =
    let after = event_after text normal within event (performed text caller) memory caller (performed_is text caller.running) enabled typed runs in
    record { s' = (caller_turn text event memory caller).memory; memory = refl; fine = after.typed; goes = after.stay; stands = after.runs }

-- what a run leads to
run_typed : (text : Text) → IsNormal text → IsWithinLimits text → (callers : ℕ) (events : List SourceEvent) (state : SourceMachine) → IsSourceRun text callers events state
    → IsTyped text state.memory × ((c : ℕ) (caller : SourceCaller) → slice_get state.callers c ≡ Some caller → IsTypedCaller text state.memory.nodes caller)
run_typed text normal within callers events state run =
    let first : AllTyped text (watched_start text callers) = starts text Memory (λ m. m) (IsTyped text) (StandsRight text) (first_memory text) refl (first_typed text within) (λ c. tt) callers in
    let kept = along_run text (AllTyped text)
    (every_step text Memory (λ m. m) (IsTyped text) (StandsRight text) Stays (λ c d s s' r caller goes fine other stands. typed_caller_stays text s.nodes s'.nodes caller goes stands) (event_keeps text normal within))
    events (watched_start text callers) state run.runs first in
    subst (λ (machine : SourceMachine). IsTyped text machine.memory × ((c : ℕ) (caller : SourceCaller) → slice_get machine.callers c ≡ Some caller → IsTypedCaller text machine.memory.nodes caller)) kept.1 (
      subst (IsTyped text) (sym kept.0.memory) kept.0.fine,
      λ c caller there. subst (λ (memory : Memory). IsTypedCaller text memory.nodes caller) (sym kept.0.memory) (kept.0.callers c caller there),
    )

pub memory_is_typed : MemoryIsTyped
memory_is_typed text normal within callers events state run = (run_typed text normal within callers events state run).0

pub callers_are_typed : CallersAreTyped
callers_are_typed text normal within callers events state run = (run_typed text normal within callers events state run).1
