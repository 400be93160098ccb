-- Where local code stops: what the entry comes to want, and where the source stands then.
use Rattle.std.proofs.Common.{ℕ, ◌≡◌, ◌∙◌, ◌&&◌, Bool, true, false, [], ◌∷◌, Option, Some, sym, ap, subst, refl, if◌then◌else◌}
use Rattle.std.specs.Prelude.{slice_get, IsTrue}
use Rattle.norm_lang.specs.declared.text.Instr.{Instr}
use Rattle.norm_lang.specs.declared.text.Instr.TheVariants as instr
use Rattle.norm_lang.specs.declared.text.Op.{Op}
use Rattle.norm_lang.specs.declared.registers.Registers.{Registers}
use Rattle.norm_lang.specs.InstructionRules.{is_end_of_other}
use Rattle.norm_lang.specs.Kept.{code_of}
use Rattle.norm_lang.specs.Local.{Spot}
use Rattle.norm_lang.specs.Registers.{number_in}
use Rattle.target_code.specs.declared.target.TargetInstr.{TargetInstr}
use Rattle.target_code.specs.declared.target.TargetInstr.TheVariants.{Plain}
use Rattle.target_laws.specs.Methods.{code_in}
use Rattle.target_laws.proofs.Forms.{instructions_are_in_form}
use Rattle.source_machine.specs.declared.event.SourceEvent.TheVariants as events
use Rattle.norm_lang.specs.declared.reply.SourceReply.TheVariants as replies
use Rattle.norm_lang.specs.Flow.{is_end}
use Rattle.source_machine.specs.declared.state.SourceCaller.{SourceCaller}
use Rattle.source_machine.specs.declared.state.Stand.TheVariants.{InWrapUp}
use Rattle.source_machine.specs.MethodRuns.{MethodRun, run_after}
use Rattle.source_machine.specs.Run.{is_end_at, is_enabled_for}
use Rattle.source_machine.specs.Step.{replied, wrap_up_end, caller_turn}
use Rattle.caller_steps.specs.Signs.{Accesses}
use Rattle.caller_parts.specs.declared.routine.AnnounceReason.TheVariants.{Again}
use Rattle.caller_parts.specs.declared.routine.Announcing.{Announcing}
use Rattle.caller_parts.specs.declared.routine.Announcing.TheVariants as announces
use Rattle.caller_parts.specs.declared.routine.Routine.{Routine}
use Rattle.caller_parts.specs.declared.routine.Routine.TheVariants.{Announces, At}
use Rattle.caller_steps.specs.Entries.{instr_in}
use Rattle.caller_steps.specs.Signs.{quiet, told}
use Rattle.caller_steps.specs.After.{with_routine, announced_end, wrap_up_stop, wrap_up_stops, wrap_up_stopped}
use Rattle.run_ahead.specs.Agreeing.{Agree}
use Rattle.run_ahead.specs.MethodLaws.{ended_at}
use Rattle.run_ahead.specs.Standing.{Call, caller_of, stands_at, running_at}
use Rattle.run_ahead.proofs.Enabled.{end_is_enabled}
use Rattle.run_ahead.proofs.Mirroring.{numbers_agree}
use Rattle.run_ahead.proofs.Standing.{end_at_is, wrap_up_ends}
use Rattle.oa_simulation.specs.sim_relation.Views.{Plan, Shared}
use Rattle.oa_simulation.specs.sim_relation.Callers.{call_of, spot_of}
use Rattle.oa_simulation.specs.sim_relation.Points.{done}
use Rattle.oa_simulation.proofs.sim_relation.Playing.{plays_one}
use Rattle.epoch_relation.specs.Callers.{Caller, Base}
use Rattle.epoch_relation.specs.Walking.{IsPlan, Trail, StandsAt, Running, HoldsAt, AnnouncesAt}
use Rattle.epoch_relation.specs.Keeping.{point_at, Ends, Comes}
use Rattle.epoch_relation.proofs.Bare.{in_source}
use Rattle.epoch_relation.proofs.Local.{Standing}
use Rattle.epoch_relation.proofs.Moving.{changed, becomes, base_changed, walks_changed, gets_changed, core_instr_is}
use Rattle.oa_simulation.proofs.sim_steps.Walks.Replying.{in_wrap_up}

pub standing_of : (t : Plan) (s : Shared) (since : ℕ → ℕ) (c : ℕ) (x : Caller) (core : Spot) (m : Trail t) → Comes t s since c x core m → Standing t s since c x
standing_of t s since c x core m w = record { plan = w.plan; holds = w.holds; base = w.base; below = w.below; announced = w.announced }

-- a step ends at a routine whose facts hold: the shared state stays, and nothing is signed
pub ends_quiet : (t : Plan) (s : Shared) (since : ℕ → ℕ) (c : ℕ) (x : Caller) (r : Routine) → Base t s since c x → HoldsAt t s since c (becomes x (with_routine x.entry r)) r → Ends t s since c x (quiet (with_routine x.entry r))
ends_quiet t s since c x r b holds = record {
  x' = becomes x (with_routine x.entry r);
  entry = refl;
  plays = done _;
  caller_holds = record { base = base_changed t s since c x (with_routine x.entry r) x.source x.watch refl refl b; spot = holds };
}

-- still running
pub still : (t : Plan) (s : Shared) (since : ℕ → ℕ) (c : ℕ) (x : Caller) (m : Trail t) (r : Routine) → Comes t s since c x (spot_of x.entry.hand) m → StandsAt t x (spot_of x.entry.hand) m x.entry.hand.accessed → Running t s c (becomes x (with_routine x.entry r))
still t s since c x m r w at = (m, walks_changed t s c x (spot_of x.entry.hand) m (with_routine x.entry r) x.source x.watch refl refl w.walks, gets_changed t s c x m (with_routine x.entry r) x.source w.gets, at, w.announced)

pub stays : (t : Plan) (s : Shared) (since : ℕ → ℕ) (c : ℕ) (x : Caller) (m : Trail t) → Comes t s since c x (spot_of x.entry.hand) m → StandsAt t x (spot_of x.entry.hand) m x.entry.hand.accessed → Ends t s since c x (quiet (with_routine x.entry At))
stays t s since c x m w at = ends_quiet t s since c x At w.base (still t s since c x m At w at)

-- ---- the end of a wrap-up

pub own_end : (t : Plan) (m : Trail t) (at : ℕ) (i : Instr) → IsPlan t → slice_get (code_in m.walk.method) at ≡ Some (Plain i) → is_end_of_other m.walk.method.wrapup i ≡ false
own_end t m at i plan is = (instructions_are_in_form t.target t.text plan.normal plan.erases m.walk.method at i is).own_end

-- where it leaves the source's caller
ended_is : (op : Op) (i : Instr) (home : ℕ → ℕ) (here mirror : Registers) (call : Call) (at : ℕ) (started : Registers) → IsTrue (is_end i) → ((r : _) → Agree home here mirror r)
    → wrap_up_end op (Some i) (running_at call mirror (InWrapUp at started false)) (caller_of call) ≡ ended_at op i here call
ended_is op (instr.Return a) home here mirror call at started ends agree = ap (λ n. replied (replies.Number n) (caller_of call)) (sym (numbers_agree home here mirror a (agree a)))
ended_is op instr.ReturnNone home here mirror call at started ends agree = refl
ended_is op instr.Again home here mirror call at started ends agree = refl
ended_is op _ home here mirror call at started ends agree = absurd (let never : false ≡ true = ends in cc)

pub record WrapEnds (t : Plan) (s : Shared) (c : ℕ) (x : Caller) (m : Trail t) (i : Instr) : Type 0 where
  pub wrapup : x.entry.hand.wrapup ≡ true
  pub ended : x.entry.hand.accessed ≡ false → x.source ≡ ended_at m.walk.method.op i x.entry.hand.registers (call_of x.entry)
  pub enabled : x.entry.hand.accessed ≡ true → is_enabled_for t.text (events.Access c 0) (Some x.source) s.source ≡ true
  pub turns : x.entry.hand.accessed ≡ true → caller_turn t.text (events.Access c 0) s.source x.source ≡ record { memory = s.source; caller = ended_at m.walk.method.op i x.entry.hand.registers (call_of x.entry) }

wrap_ends : (t : Plan) (s : Shared) (since : ℕ → ℕ) (c : ℕ) (x : Caller) (m : Trail t) (i : Instr) → Comes t s since c x (spot_of x.entry.hand) m → StandsAt t x (spot_of x.entry.hand) m x.entry.hand.accessed
    → slice_get (code_in m.walk.method) x.entry.hand.at ≡ Some (Plain i) → IsTrue (is_end i) → WrapEnds t s c x m i
wrap_ends t s since c x m i w at is ends =
    let method = m.walk.method in
    let wrap : method.wrapup ≡ true = in_wrap_up method.wrapup i ends (own_end t m x.entry.hand.at i w.plan is) in
    let spot : Spot = record { at = x.entry.hand.at; registers = m.mirror } in
    let instruction : slice_get method.op.wrapup x.entry.hand.at ≡ Some i = ap (λ (b : Bool). slice_get (code_of method.op b) x.entry.hand.at) (sym wrap) ∙ in_source w.plan.target_is method x.entry.hand.at i is in
    let ended : IsTrue (is_end_at (slice_get method.op.wrapup x.entry.hand.at)) = subst (λ o. IsTrue (is_end_at o)) (sym instruction) (sym (end_at_is i) ∙ ends) in
    let op : slice_get t.text.ops m.walk.call.number ≡ Some method.op = ap (slice_get t.text.ops) w.walks.number ∙ method.in_text in
    let stands : x.source ≡ stands_at method.op true m.walk.started x.entry.hand.accessed m.walk.call spot = at ∙ ap (λ (b : Bool). stands_at method.op b m.walk.started x.entry.hand.accessed m.walk.call spot) wrap in
    let leaves : stands_at method.op true m.walk.started false m.walk.call spot ≡ ended_at method.op i x.entry.hand.registers (call_of x.entry) =
    ap (λ o. wrap_up_end method.op o (running_at m.walk.call m.mirror (InWrapUp x.entry.hand.at m.walk.started false)) (caller_of m.walk.call)) instruction
    ∙ (ended_is method.op i t.home x.entry.hand.registers m.mirror m.walk.call x.entry.hand.at m.walk.started ends w.walks.agree ∙ ap (λ (call : Call). ended_at method.op i x.entry.hand.registers call) w.walks.call) in
    record {
      wrapup = w.walks.wrapup ∙ wrap;
      ended = λ none. stands ∙ (ap (λ b. stands_at method.op true m.walk.started b m.walk.call spot) none ∙ leaves);
      enabled = λ made. (let at_end : x.source ≡ stands_at method.op true m.walk.started true m.walk.call spot = stands ∙ ap (λ b. stands_at method.op true m.walk.started b m.walk.call spot) made in
          ap (λ z. is_enabled_for t.text (events.Access c 0) (Some z) s.source) at_end ∙ end_is_enabled t.text c method.op m.walk.started m.walk.call spot s.source op ended);
      turns = λ made. (let at_end : x.source ≡ stands_at method.op true m.walk.started true m.walk.call spot = stands ∙ ap (λ b. stands_at method.op true m.walk.started b m.walk.call spot) made in
          ap (λ z. caller_turn t.text (events.Access c 0) s.source z) at_end ∙ (wrap_up_ends t.text c method.op m.walk.started m.walk.call spot s.source op ended ∙ ap (λ z. record { memory = s.source; caller = z }) leaves));
    }

-- if the source's caller is at the end, the entry goes on as it does at an end
end_holds : (t : Plan) (s : Shared) (since : ℕ → ℕ) (c : ℕ) (x : Caller) (m : Trail t) (i : Instr) (r : Announcing) → Base t s since c x → WrapEnds t s c x m i
    → ((source : SourceCaller) (watch : MethodRun) → source ≡ ended_at m.walk.method.op i x.entry.hand.registers (call_of x.entry) → AnnouncesAt t s (changed x (with_routine x.entry (Announces r)) source watch) r)
    → Ends t s since c x (announced_end r x.entry)
end_holds t s since c x m i r b w holds = subst (λ (wrapup : Bool). Ends t s since c x (told (if wrapup && x.entry.hand.accessed then Accesses ∷ [] else []) (quiet (with_routine x.entry (Announces r))))) (sym w.wrapup) (by x.entry.hand.accessed refl) where
  by : (accessed : Bool) → x.entry.hand.accessed ≡ accessed → Ends t s since c x (told (if accessed then Accesses ∷ [] else []) (quiet (with_routine x.entry (Announces r))))
  by false none = record {
    x' = becomes x (with_routine x.entry (Announces r));
    entry = refl;
    plays = done _;
    caller_holds = record { base = base_changed t s since c x (with_routine x.entry (Announces r)) x.source x.watch refl refl b; spot = holds x.source x.watch (w.ended none) };
  }
  by true made =
      let source : SourceCaller = (caller_turn t.text (events.Access c 0) s.source x.source).caller in
      let watch : MethodRun = run_after t.text (events.Access c 0) s.source x.source x.watch in
      let x' : Caller = changed x (with_routine x.entry (Announces r)) source watch in
      record {
        x' = x';
        entry = refl;
        plays = plays_one t.text c Accesses (point_at s x) (point_at s x') (w.enabled made, (sym (ap (λ turn. turn.memory) (w.turns made)), refl, refl)) refl;
        caller_holds = record { base = base_changed t s since c x (with_routine x.entry (Announces r)) source watch refl refl b; spot = holds source watch (ap (λ turn. turn.caller) (w.turns made)) };
      }

-- at an instruction of the wrap-up: an end, or an access
pub wrap_up_stop_ends : (t : Plan) (s : Shared) (since : ℕ → ℕ) (c : ℕ) (x : Caller) (m : Trail t) (i : Instr) → Comes t s since c x (spot_of x.entry.hand) m → StandsAt t x (spot_of x.entry.hand) m x.entry.hand.accessed
    → slice_get (code_in m.walk.method) x.entry.hand.at ≡ Some (Plain i) → Ends t s since c x (wrap_up_stop i x.entry)
wrap_up_stop_ends t s since c x m (instr.Return a) w at is =
    end_holds t s since c x m (instr.Return a) (announces.Leaves (replies.Number (number_in x.entry.hand.registers a))) w.base (wrap_ends t s since c x m (instr.Return a) w at is refl) (λ source watch stands. stands)
wrap_up_stop_ends t s since c x m instr.ReturnNone w at is =
    end_holds t s since c x m instr.ReturnNone (announces.Leaves replies.Nothing) w.base (wrap_ends t s since c x m instr.ReturnNone w at is refl) (λ source watch stands. stands)
wrap_up_stop_ends t s since c x m instr.Again w at is =
    end_holds t s since c x m instr.Again (announces.Loads Again) w.base (wrap_ends t s since c x m instr.Again w at is refl)
    (λ source watch stands. (m.walk.method, ap (λ (call : Call). call.number) (sym w.walks.call) ∙ w.walks.number, stands))
wrap_up_stop_ends t s since c x m _ w at is = stays t s since c x m w at

pub wrap_up_stops_ends : (t : Plan) (s : Shared) (since : ℕ → ℕ) (c : ℕ) (x : Caller) (m : Trail t) → Comes t s since c x (spot_of x.entry.hand) m → StandsAt t x (spot_of x.entry.hand) m x.entry.hand.accessed
    → Ends t s since c x (wrap_up_stopped t.target x.entry)
wrap_up_stops_ends t s since c x m w at = of (instr_in t.target x.entry) (sym (core_instr_is t s c x (spot_of x.entry.hand) m w.walks)) where
  of : (o : Option TargetInstr) → slice_get (code_in m.walk.method) x.entry.hand.at ≡ o → Ends t s since c x (wrap_up_stops o x.entry)
  of (Some (Plain i)) is = wrap_up_stop_ends t s since c x m i w at is
  of _ is = stays t s since c x m w at
