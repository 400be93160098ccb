-- A method begins again, if that is enabled.
use Rattle.std.proofs.Common.{◌≡◌, ℕ, ◌⊎◌, inl, inr, Bool, true, false, List, Option, Some, None, refl, sym, ap, ◌∙◌}
use Rattle.std.specs.Prelude.{slice_get, IsTrue, IsSomeAnd, if◌then◌else◌}
use Rattle.std.proofs.lemmas.Bool.{or_cases}
use Rattle.norm_lang.specs.declared.text.Instr.{Instr}
use Rattle.norm_lang.specs.declared.text.Instr.TheVariants as instr
use Rattle.norm_lang.specs.declared.text.Op.{Op}
use Rattle.norm_lang.specs.declared.text.Text.{Text}
use Rattle.norm_lang.specs.declared.registers.Registers.{Registers}
use Rattle.norm_lang.specs.Kept.{code_of}
use Rattle.norm_lang.specs.Local.{Spot}
use Rattle.norm_lang.specs.Registers.{first_registers}
use Rattle.norm_lang.specs.Flow.{is_end}
use Rattle.target_laws.specs.local_laws.Settling.{is_access, may_stop}
use Rattle.target_laws.proofs.local_laws.Inside.{settles_inside}
use Rattle.source_machine.specs.declared.event.SourceEvent.TheVariants as events
use Rattle.source_machine.specs.MethodRuns.{run_begun}
use Rattle.source_machine.specs.Run.{is_end_at, is_enabled_for}
use Rattle.source_machine.specs.declared.state.Stand.TheVariants.{InWrapUp}
use Rattle.source_machine.specs.declared.state.Memory.{Memory}
use Rattle.source_machine.specs.Step.{generator_at, wrap_up_end, is_access_at, Turn, caller_turn}
use Rattle.target_code.specs.declared.target.Target.{Target}
use Rattle.target_code.specs.Erasing.{source_place}
use Rattle.target_laws.specs.Methods.{Method, code_in}
use Rattle.target_laws.proofs.InText.{paths_lead_inside}
use Rattle.run_ahead.specs.Ahead.{IsErased, Ahead}
use Rattle.run_ahead.specs.MethodLaws.{RestartsAreFollowed}
use Rattle.run_ahead.specs.Standing.{Call, running_of, caller_of, stands_at, first_spot, run_from, begins_at, running_at, turn_if_enabled}
use Rattle.run_ahead.proofs.Begins.{start_follows}
use Rattle.run_ahead.proofs.Enabled.{restart_is_enabled, generator_inside}
use Rattle.run_ahead.proofs.Standing.{access_at_is, end_at_is, generator_restarts, stays_in, wrap_up_restarts}
use Rattle.run_ahead.proofs.Watched.{restart_run}

taken : (b : Bool) (one other : Turn) → IsTrue b → (if b then one else other) ≡ one
taken true one other is = refl
taken false one other is = absurd (let no : false ≡ true = is in cc)

-- ---- a generator

restart_in_generator : (text : Text) (c : ℕ) (op : Op) (started : Registers) (accessed : Bool) (call : Call) (there : Spot) (memory : Memory) → slice_get text.ops call.number ≡ Some op
    → turn_if_enabled text (events.Restart c) memory (stands_at op false started accessed call there) ≡ record { memory = memory; caller = begins_at op false (first_registers call.args) call }
restart_in_generator text c op started accessed call there memory is =
    taken _ _ _ (restart_is_enabled text c op (generator_at op there (running_of call)) (caller_of call) memory is (generator_inside (slice_get op.generator there.at) there.at))
    ∙ generator_restarts text c op started accessed call there memory is

-- ---- a wrap-up

-- it begins again, or it has ended without an access, and then stands where it would
restart_in_wrap_up : (text : Text) (c : ℕ) (op : Op) (started : Registers) (accessed : Bool) (call : Call) (there : Spot) (memory : Memory) → slice_get text.ops call.number ≡ Some op
    → IsTrue (is_access_at (slice_get op.wrapup there.at)) ⊎ IsTrue (is_end_at (slice_get op.wrapup there.at))
    → (accessed ≡ false → there ≡ run_from op true (first_spot started))
    → turn_if_enabled text (events.Restart c) memory (stands_at op true started accessed call there) ≡ record { memory = memory; caller = begins_at op true started call }
restart_in_wrap_up text c op started accessed call there memory is stops unmoved = by_accessed accessed refl stops
  where
    still : (b : Bool) → IsTrue (is_access_at (slice_get op.wrapup there.at)) ⊎ IsTrue b
        → turn_if_enabled text (events.Restart c) memory (stands_at op true started b call there) ≡ record { memory = memory; caller = begins_at op true started call }
    still b why = taken _ _ _ (ap (λ caller. is_enabled_for text (events.Restart c) (Some caller) memory) (stays_in b op (slice_get op.wrapup there.at) (running_at call there.registers (InWrapUp there.at started b)) (caller_of call) why)
        ∙ restart_is_enabled text c op (running_at call there.registers (InWrapUp there.at started b)) (caller_of call) memory is refl) ∙ wrap_up_restarts text c op started b call there memory is why

    -- it has ended without an access
    ended : (i : Option Instr) → IsTrue (is_end_at i)
        → turn_if_enabled text (events.Restart c) memory (wrap_up_end op i (running_at call there.registers (InWrapUp there.at started false)) (caller_of call))
        ≡ record { memory = memory; caller = wrap_up_end op i (running_at call there.registers (InWrapUp there.at started false)) (caller_of call) }
    ended (Some (instr.Return a)) ends = refl
    ended (Some instr.ReturnNone) ends = refl
    ended (Some instr.Again) ends = restart_in_generator text c op started false call (run_from op false (first_spot (first_registers call.args))) memory is
    ended _ ends = absurd (let no : false ≡ true = ends in cc)

    by_accessed : (b : Bool) → accessed ≡ b → IsTrue (is_access_at (slice_get op.wrapup there.at)) ⊎ IsTrue (is_end_at (slice_get op.wrapup there.at))
        → turn_if_enabled text (events.Restart c) memory (stands_at op true started b call there) ≡ record { memory = memory; caller = begins_at op true started call }
    by_accessed true is_b why = still true (inr refl)
    by_accessed false is_b (inl access) = still false (inl access)
    by_accessed false is_b (inr ends) = ended (slice_get op.wrapup there.at) ends
        ∙ ap (λ (s : Spot). record { memory = memory; caller = stands_at op true started false call s }) (unmoved is_b)

-- ---- a method

restart_at : (wrapup : Bool) (text : Text) (c : ℕ) (op : Op) (started : Registers) (accessed : Bool) (call : Call) (there : Spot) (memory : Memory) → slice_get text.ops call.number ≡ Some op
    → (wrapup ≡ false → started ≡ first_registers call.args) → IsSomeAnd (slice_get (code_of op wrapup) there.at) (λ i. IsTrue (may_stop wrapup i))
    → (wrapup ≡ true → accessed ≡ false → there ≡ run_from op wrapup (first_spot started))
    → turn_if_enabled text (events.Restart c) memory (stands_at op wrapup started accessed call there) ≡ record { memory = memory; caller = begins_at op wrapup started call }
restart_at false text c op started accessed call there memory is begun stops unmoved =
    restart_in_generator text c op started accessed call there memory is ∙ ap (λ registers. record { memory = memory; caller = begins_at op false registers call }) (sym (begun refl))
restart_at true text c op started accessed call there memory is begun stops unmoved = restart_in_wrap_up text c op started accessed call there memory is (by (slice_get op.wrapup there.at) stops) (unmoved refl)
  where
    by : (o : Option Instr) → IsSomeAnd o (λ i. IsTrue (may_stop true i)) → IsTrue (is_access_at o) ⊎ IsTrue (is_end_at o)
    by None some = absurd some
    by (Some i) some = elim (or_cases (is_access i) (is_end i) some) [ inl access ↦ inl (sym (access_at_is i) ∙ access) | inr ends ↦ inr (sym (end_at_is i) ∙ ends) ]

-- where the source's local code has come to
stops_inside : {target : Target} {text : Text} (method : Method target text) (home : ℕ → ℕ) (calm : Type 0) (path : List ℕ) (core : Spot) (mirror : Registers) (there : Spot) → IsErased target text
    → Ahead method home calm path core mirror there → IsSomeAnd (slice_get (code_of method.op method.wrapup) there.at) (λ i. IsTrue (may_stop method.wrapup i))
stops_inside {target = target} {text = text} method home calm path core mirror there erased a =
    settles_inside text method.number method.op method.wrapup erased.normal method.in_text (record { at = source_place (code_in method) core.at; registers = mirror }) there
    (paths_lead_inside target text erased.within erased.normal erased.erases method path core.at a.path_is).0 a.settles

pub restarts_are_followed : (calm calm' : Type 0) → RestartsAreFollowed calm calm'
restarts_are_followed calm calm' target text erased home walk path core mirror accessed caller f c memory =
    let method = walk.method in
    let op : slice_get text.ops walk.call.number ≡ Some method.op = ap (slice_get text.ops) f.begun.number ∙ method.in_text in
    let turned : turn_if_enabled text (events.Restart c) memory caller ≡ record { memory = memory; caller = begins_at method.op method.wrapup walk.started walk.call } =
    ap (λ z. turn_if_enabled text (events.Restart c) memory z) f.stands
    ∙ restart_at method.wrapup text c method.op walk.started accessed walk.call f.there memory op (λ generator. (f.begun.generator generator).1)
    (stops_inside method home calm path core mirror f.there erased f.ahead) f.unmoved in
    record {
      memory = ap (λ (t : Turn). t.memory) turned;
      follows = start_follows walk home calm' _ erased.normal f.begun (ap (λ (t : Turn). t.caller) turned);
      run = λ enabled was. restart_run text c memory caller was
          ∙ ap (λ (t : Turn). run_begun t.memory) (sym (taken (is_enabled_for text (events.Restart c) (Some caller) memory) (caller_turn text (events.Restart c) memory caller) _ enabled) ∙ turned);
    }
