-- A call begins, and the source begins it too.
use Rattle.std.proofs.Common.{ℕ, ◌≡◌, ◌∙◌, true, false, Option, Some, None, inl, sym, ap, subst, refl}
use Rattle.std.specs.Prelude.{slice_get, option_map}
use Rattle.std.proofs.lemmas.Option.{slice_get-map}
use Rattle.norm_lang.specs.declared.text.Op.{Op}
use Rattle.norm_lang.specs.declared.text.Text.{Text}
use Rattle.norm_lang.specs.Registers.{first_registers}
use Rattle.target_code.specs.declared.target.TargetOp.{TargetOp}
use Rattle.target_code.specs.Erasing.{ErasesTo, erased_op}
use Rattle.oa_words.specs.Words.{Warning}
use Rattle.source_machine.specs.declared.event.SourceEvent.TheVariants as events
use Rattle.source_machine.specs.declared.state.SourceCaller.{SourceCaller}
use Rattle.source_machine.specs.Run.{is_call_of}
use Rattle.source_machine.specs.MethodRuns.{run_begun}
use Rattle.oa_words.specs.Memories.{store}
use Rattle.caller_parts.specs.declared.routine.MethodStart.TheVariants as starts
use Rattle.caller_parts.specs.Calls.{is_call, is_call_of as is_core_call_of}
use Rattle.caller_steps.specs.Signs.{Begins as BeginsCall}
use Rattle.caller_steps.specs.After.{counted, seen_loaded, method_begun}
use Rattle.target_laws.specs.Methods.{Method}
use Rattle.run_ahead.specs.Standing.{Call, begins_at, run_from, first_spot}
use Rattle.run_ahead.specs.Following.{Walk, generator_walk}
use Rattle.run_ahead.specs.MethodLaws.{Turns}
use Rattle.run_ahead.proofs.Starting.{generator_start}
use Rattle.run_ahead.proofs.Begins.{begins_are_followed}
use Rattle.oa_simulation.specs.sim_relation.Views.{Plan, IsPlan, Shared, Caller}
use Rattle.oa_simulation.specs.sim_relation.Shared.{SharedHolds}
use Rattle.oa_simulation.specs.sim_relation.Callers.{Base, Begins, Empty, Settled, IsIdle, call_of}
use Rattle.oa_simulation.specs.sim_relation.Points.{point}
use Rattle.oa_simulation.specs.sim_relation.Steps.{KeptSetting}
use Rattle.oa_simulation.specs.sim_relation.WasSet.{set_begun}
use Rattle.oa_simulation.proofs.sim_relation.Words.{store_idle}
use Rattle.oa_simulation.proofs.sim_relation.Moving.{goes_same}
use Rattle.oa_simulation.proofs.sim_relation.Playing.{plays_first}
use Rattle.oa_simulation.proofs.sim_steps.Walks.Accessing.{accessed_in_method}
use Rattle.oa_simulation.proofs.sim_steps.Walks.Beginning.{restarting, begun_spot, begins_running}
use Rattle.oa_simulation.proofs.sim_steps.Walks.Stopping.{settles_ends}
use Rattle.oa_simulation.proofs.sim_steps.Walks.Restarting.{rerun, base_rerun}

-- the operation of a call, in the target and in the text
record Called (t : Plan) (x : Caller) : Type 0 where
  method : Method t.target t.text
  number : method.number ≡ x.entry.running.call.op
  right : is_call_of (slice_get t.text.ops x.entry.running.call.op) x.entry.running.call.args ≡ true

called : (t : Plan) (x : Caller) → ErasesTo t.target t.text → is_call t.target x.entry.running.call ≡ true → Called t x
called t x erases is = of (slice_get t.target.ops x.entry.running.call.op) refl where
  of : (o : Option TargetOp) → slice_get t.target.ops x.entry.running.call.op ≡ o → Called t x
  of None none = absurd (let z : false ≡ true = sym (ap (λ (o : Option TargetOp). is_core_call_of o x.entry.running.call.args) none) ∙ is in cc)
  of (Some compiled) there =
      let in_text : slice_get t.text.ops x.entry.running.call.op ≡ Some (erased_op compiled) =
      ap (λ (text : Text). slice_get text.ops x.entry.running.call.op) (sym erases)
      ∙ (slice_get-map erased_op t.target.ops x.entry.running.call.op ∙ ap (option_map erased_op) there) in
      record {
        method = record { number = x.entry.running.call.op; wrapup = false; op = erased_op compiled; compiled = compiled; in_text = in_text; in_target = there };
        number = refl;
        right = ap (λ (o : Option Op). is_call_of o x.entry.running.call.args) in_text
            ∙ (sym (ap (λ (o : Option TargetOp). is_core_call_of o x.entry.running.call.args) there) ∙ is);
      }

-- the load of what was seen, with which a call begins
pub begin_kept : (t : Plan) (c : ℕ) (s : Shared) (x : Caller) → IsPlan t → SharedHolds t s → Base t s c x → Empty x → Settled x → IsIdle x → is_call t.target x.entry.running.call ≡ true
    → KeptSetting t c s x (set_begun t.target false x.entry) (store s.memory (Warning c) (s.memory (Warning c))) (seen_loaded t.target t.setting.sizes starts.Begin (s.memory (Warning c)) (counted x.entry))
begin_kept t c s x plan f b empty settled idle is =
    let call : Call = call_of x.entry in
    let k = called t x plan.compiled.barred.erases is in
    let walk : Walk t.target t.text = generator_walk k.method call in
    let source : SourceCaller = begins_at k.method.op false (first_registers call.args) call in
    let turns : Turns t.text (events.Begin c call.number call.args) s.source x.source (record { memory = s.source; caller = source }) =
    subst (λ (caller : SourceCaller). Turns t.text (events.Begin c call.number call.args) s.source caller (record { memory = s.source; caller = source })) (sym idle)
    (begins_are_followed (Unit {0}) t.target t.text plan.compiled.normal t.home plan.null k.method call (sym k.number) k.right c s.source).0 in
    let y : Caller = rerun x s (s.memory (Warning c)) source (run_begun s.source) x.entry.counts x.entry.hand.accessed in
    let b' = base_rerun t s c x source (run_begun s.source) x.entry.counts x.entry.hand.accessed f b in
    let begins : Begins t s c y walk = record {
      call = refl;
      first = refl;
      number = sym k.number;
      start = generator_start k.method t.home call.args plan.null;
      generator = λ gen. refl;
      kept = λ r kept. absurd (let z : false ≡ true = kept in cc);
      shown = λ r kept. absurd (let z : false ≡ true = kept in cc);
      stands = refl;
      got = refl;
      tied = inl (accessed_in_method k.method.op false (first_registers call.args) call (run_from k.method.op false (first_spot (first_registers call.args))), refl);
      settled = settled;
    } in
    let ended = settles_ends t s c (restarting y false) (begun_spot false y.entry) plan f
    (record { number = b'.number; seen = b'.seen; old = b'.old; hazard = b'.hazard; protects = b'.protects; known = b'.known; cradle = b'.cradle })
    (begins_running t s c y walk false plan.compiled.normal f b' refl begins (λ r free. empty r)) in
    record {
      s' = s;
      x' = ended.x';
      memory = store_idle s.memory (Warning c);
      present = refl;
      entry = ended.entry;
      names = ended.names;
      was_set = ended.was_set;
      shared_holds = f;
      goes = goes_same t s c;
      retires = λ n is. inl is;
      caller_holds = ended.caller_holds;
      plays = plays_first t.text c (BeginsCall x.entry.running.call) (method_begun t.target t.setting.sizes false y.entry).signs (point s x) (point s y) (point s ended.x')
          (turns.enabled, (sym (ap (λ turn. turn.memory) turns.turns), sym (ap (λ turn. turn.caller) turns.turns), sym (turns.run x.watch))) refl ended.plays;
    }
