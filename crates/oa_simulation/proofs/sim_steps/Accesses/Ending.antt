-- An exchange of the list that fails: the wrap-up's start.
use Rattle.std.proofs.Common.{subst, ℕ, ◌≡◌, ◌∙◌, Bool, true, false, List, [], ◌∷◌, Some, None, sym, ap, refl, if◌then◌else◌, inl}
use Rattle.std.specs.Prelude.{slice_get, is_some}
use Rattle.norm_lang.specs.declared.text.CasEntry.{CasEntry}
use Rattle.norm_lang.specs.declared.text.Instr.TheVariants as instr
use Rattle.target_code.specs.declared.target.TargetInstr.TheVariants.{Plain}
use Rattle.phase_pools.specs.Accesses.{word_of}
use Rattle.source_machine.specs.declared.event.SourceEvent.TheVariants as events
use Rattle.source_machine.specs.Step.{caller_turn}
use Rattle.source_machine.specs.Run.{is_enabled_for}
use Rattle.source_machine.specs.Memory.{exchange}
use Rattle.source_machine.specs.MethodRuns.{run_begun, run_after}
use Rattle.caller_parts.specs.declared.routine.AfterRetire.TheVariants as onward
use Rattle.caller_steps.specs.Entries.{instr_in}
use Rattle.caller_parts.specs.Operands.{list_of, succeeds, to_retire}
use Rattle.caller_steps.specs.Wants.{exchange_wanted}
use Rattle.caller_steps.specs.After.{counted, retires_then, with_published, list_ended, entry_made}
use Rattle.target_laws.specs.Methods.{code_in}
use Rattle.run_ahead.proofs.Lists.{lists_are_made}
use Rattle.target_code.specs.Erasing.{source_place}
use Rattle.oa_simulation.specs.sim_relation.Views.{Plan, IsPlan, Shared, Caller}
use Rattle.oa_simulation.specs.sim_relation.Shared.{SharedHolds}
use Rattle.oa_simulation.specs.sim_relation.Callers.{Base, Committed, InExecutor}
use Rattle.caller_steps.specs.Signs.{Accesses, quiet, told}
use Rattle.oa_simulation.specs.sim_relation.Points.{point}
use Rattle.oa_simulation.proofs.sim_relation.Playing.{plays_first}
use Rattle.chain_laws.specs.Memories.{after_access}
use Rattle.oa_simulation.specs.sim_relation.Steps.{Kept}
use Rattle.oa_simulation.proofs.sim_relation.Moving.{goes_same}
use Rattle.oa_simulation.proofs.sim_steps.Exchanges.Exchanging.{Offers, tests_agree}
use Rattle.oa_simulation.proofs.sim_steps.Walks.Committing.{list_ends}
use Rattle.oa_simulation.proofs.sim_steps.Accesses.Failing.{fails_stay}
use Rattle.caller_parts.specs.declared.setting.Reclamation.TheVariants.{Optimistic}

pub entry_fails : (t : Plan) (c : ℕ) (s : Shared) (x : Caller) (k : ℕ) (entry : CasEntry) (entries : List CasEntry) → IsPlan t → SharedHolds t s → Base t s c x → (w : InExecutor t s c x k)
    → slice_get (code_in w.0.walk.method) x.entry.hand.at ≡ Some (Plain (instr.Commit entries)) → slice_get (list_of (instr_in t.target x.entry)) k ≡ Some entry
    → Offers t s c x.entry.hand.registers w.0.mirror entry → exchange t.text.fields entry w.0.mirror s.source ≡ None
    → Kept t c s x (after_access s.memory (exchange_wanted t.target.fields entry x.entry.hand.registers)) (entry_made Optimistic t.target t.setting.sizes k entry (s.memory (word_of (exchange_wanted t.target.fields entry x.entry.hand.registers))) (counted x.entry))
entry_fails t c s x k entry entries plan f b w here there offers none =
    let m = w.0 in
    let list : List CasEntry = list_of (instr_in t.target x.entry) in
    let op = ap (slice_get t.text.ops) w.1.number ∙ m.walk.method.in_text in
    let turns = (lists_are_made t.text c m.walk.method.op (source_place (code_in m.walk.method) x.entry.hand.at) list k m.mirror m.walk.call s.source op).fails entry there none in
    let turned = ap (λ caller. caller_turn t.text (events.Access c 0) s.source caller) w.4 ∙ turns.turns in
    let begun : run_after t.text (events.Access c 0) s.source x.source x.watch ≡ run_begun s.source = ap (λ caller. run_after t.text (events.Access c 0) s.source caller x.watch) w.4 ∙ turns.run x.watch in
    let y : Caller = record x { entry = counted x.entry; held = run_begun s.source; watch = run_begun s.source; source = (caller_turn t.text (events.Access c 0) s.source x.source).caller } in
    let v = w.1 in
    let committed : Committed t s c y k = (
      m,
      record { call = v.call; wrapup = v.wrapup; was_set = v.was_set; first = v.first; number = v.number; start = v.start; ahead = v.ahead; generator = v.generator; kept = v.kept; shown = v.shown; sound = v.sound },
      w.2,
      w.3,
      ap (λ turn. turn.caller) turned,
      refl,
      refl,
      w.5,
    ) in
    let base : Base t s c y = record { number = b.number; seen = b.seen; old = λ n p is lt. f.tagged n p is; hazard = b.hazard; protects = b.protects; known = λ n got. absurd (let z : false ≡ true = got in cc); cradle = b.cradle } in
    let ended = list_ends t s c y k entries plan base committed here in
    let fails : succeeds entry x.entry.hand.registers (s.memory (word_of (exchange_wanted t.target.fields entry x.entry.hand.registers))) ≡ false = tests_agree t s c x.entry.hand.registers m.mirror entry plan.null f offers ∙ ap is_some none in
    subst (λ (z : Bool). Kept t c s x (after_access s.memory (exchange_wanted t.target.fields entry x.entry.hand.registers))
    (told (Accesses ∷ []) (if z then retires_then Optimistic t.target t.setting.sizes (onward.List k) (to_retire entry.retire x.entry.hand.registers) (with_published entry.replacement (counted x.entry)) else quiet (list_ended t.target t.setting.sizes k (counted x.entry))))) (sym fails) (record {
      s' = s;
      x' = ended.x';
      memory = fails_stay t.target.fields s.memory entry x.entry.hand.registers fails;
      present = refl;
      entry = ended.entry;
      names = ended.names;
      was_set = ended.was_set;
      plays = plays_first t.text c Accesses _ (point s x) (point s y) (point s ended.x')
          (ap (λ caller. is_enabled_for t.text (events.Access c 0) (Some caller) s.source) w.4 ∙ turns.enabled, (sym (ap (λ turn. turn.memory) turned), refl, sym begun)) refl ended.plays;
      shared_holds = f;
      goes = goes_same t s c;
      retires = λ n is. inl is;
      caller_holds = ended.caller_holds;
    })
