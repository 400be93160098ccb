-- The end of a wrap-up: the reply, or the operation again. If its run has made an access, the source makes one too, which it owes;
-- else it has come there before.
use Rattle.std.proofs.Common.{ℕ, ◌≡◌, ◌∙◌, ◌&&◌, if◌then◌else◌, Bool, true, false, [], ◌∷◌, Some, inl, ⊎_elim, sym, ap, subst, refl}
use Rattle.std.specs.Prelude.{slice_get, IsTrue}
use Rattle.norm_lang.specs.declared.text.Instr.{Instr}
use Rattle.norm_lang.specs.declared.text.Instr.TheVariants as instr
use Rattle.norm_lang.specs.InstructionRules.{is_end_of_other}
use Rattle.norm_lang.specs.Registers.{first_registers}
use Rattle.target_code.specs.declared.target.TargetInstr.TheVariants.{Plain}
use Rattle.source_machine.specs.declared.event.SourceEvent.TheVariants as events
use Rattle.source_machine.specs.declared.state.SourceCaller.{SourceCaller}
use Rattle.source_machine.specs.Step.{caller_turn, replied}
use Rattle.source_machine.specs.MethodRuns.{run_begun, run_after}
use Rattle.source_machine.specs.Proper.{runs_method}
use Rattle.norm_lang.specs.declared.reply.SourceReply.{SourceReply}
use Rattle.norm_lang.specs.Flow.{is_end}
use Rattle.caller_parts.specs.declared.routine.AfterClear.TheVariants as clears
use Rattle.caller_steps.specs.Signs.{Accesses, quiet, told}
use Rattle.caller_steps.specs.After.{cleared, owed}
use Rattle.target_laws.specs.Methods.{code_in}
use Rattle.target_laws.specs.target_runs.Sane.{Sane}
use Rattle.run_ahead.specs.Standing.{Call, caller_of, begins_at, run_from, first_spot}
use Rattle.run_ahead.specs.Following.{Follows, generator_walk}
use Rattle.run_ahead.specs.MethodLaws.{ended_at}
use Rattle.run_ahead.specs.MethodLaws.{Ends as WalkEnds}
use Rattle.run_ahead.proofs.Ends.{ends_are_followed}
use Rattle.run_ahead.proofs.Starting.{generator_start}
use Rattle.oa_simulation.specs.sim_relation.Views.{Plan, IsPlan, Shared, Caller, settled_names}
use Rattle.oa_simulation.specs.sim_relation.Shared.{SharedHolds}
use Rattle.oa_simulation.specs.sim_relation.Callers.{Calm, Base, Trail, Walks, Stands, Begins, call_of, spot_of, first_of}
use Rattle.oa_simulation.specs.sim_relation.Points.{point}
use Rattle.oa_simulation.specs.sim_relation.Steps.{Ends}
use Rattle.oa_simulation.proofs.sim_relation.Playing.{plays_first}
use Rattle.oa_simulation.proofs.sim_relation.Moving.{base_settled, base_begun, settled_is, names_settle, names_stay_on}
use Rattle.oa_simulation.proofs.sim_steps.Walks.Accessing.{accessed_in_method}
use Rattle.oa_simulation.proofs.sim_steps.Walks.Beginning.{ends_from, cleared_reply, cleared_again, over_after}
use Rattle.oa_simulation.proofs.sim_steps.Walks.Quieting.{sane_here}

-- a caller that walks is followed by the source's
pub follows_of : (t : Plan) (s : Shared) (c : ℕ) (x : Caller) (m : Trail t) → Walks t s c x (spot_of x.entry.hand) m → Stands t x m
    → Follows m.walk t.home (Calm s c x) m.path (spot_of x.entry.hand) m.mirror x.entry.hand.accessed x.source
follows_of t s c x m w stands = record {
  there = m.there;
  begun = record {
    number = w.number;
    start = w.start;
    generator = λ gen. (w.first ∙ ap (λ (b : Bool). first_of b x.entry.running.call.args x.entry.hand.started) gen ∙ ap (λ (call : Call). first_registers call.args) (sym w.call), w.generator gen);
  };
  ahead = w.ahead;
  stands = stands.stands;
  unmoved = stands.unmoved;
}

-- only a wrap-up ends so
pub in_wrap_up : (wrapup : Bool) (i : Instr) → IsTrue (is_end i) → is_end_of_other wrapup i ≡ false → wrapup ≡ true
in_wrap_up true i ends own = refl
in_wrap_up false (instr.Return a) ends own = absurd (let z : true ≡ false = own in cc)
in_wrap_up false instr.ReturnNone ends own = absurd (let z : true ≡ false = own in cc)
in_wrap_up false instr.Again ends own = absurd (let z : true ≡ false = own in cc)
in_wrap_up false _ ends own = absurd (let z : false ≡ true = ends in cc)

wrapup_is : (t : Plan) (s : Shared) (c : ℕ) (x : Caller) (m : Trail t) (i : Instr) → Sane t.target → Walks t s c x (spot_of x.entry.hand) m → slice_get (code_in m.walk.method) x.entry.hand.at ≡ Some (Plain i) → IsTrue (is_end i)
    → m.walk.method.wrapup ≡ true
wrapup_is t s c x m i sane w is ends = in_wrap_up m.walk.method.wrapup i ends (sane_here t s c x (spot_of x.entry.hand) m (Plain i) sane w is).own.form.own_end

-- where the end leaves the source
walk_ends : (t : Plan) (s : Shared) (c : ℕ) (x : Caller) (m : Trail t) (i : Instr) → IsPlan t → Walks t s c x (spot_of x.entry.hand) m → Stands t x m → slice_get (code_in m.walk.method) x.entry.hand.at ≡ Some (Plain i) → IsTrue (is_end i)
    → WalkEnds m.walk.method m.walk.call (spot_of x.entry.hand) x.entry.hand.accessed x.source i
walk_ends t s c x m i plan w stands is ends =
    let wrap = wrapup_is t s c x m i plan.sane w is ends in
    ends_are_followed (Calm s c x) t.target t.text plan.compiled t.home m.walk.method m.walk.call m.walk.first m.walk.started m.path (spot_of x.entry.hand) m.mirror x.entry.hand.accessed x.source
    (subst (λ (b : Bool). Follows (record m.walk { method = record m.walk.method { wrapup = b } }) t.home (Calm s c x) m.path (spot_of x.entry.hand) m.mirror x.entry.hand.accessed x.source) wrap (follows_of t s c x m w stands))
    i (ap (λ (b : Bool). slice_get (code_in (record m.walk.method { wrapup = b })) x.entry.hand.at) (sym wrap) ∙ is) ends

-- the source has made the access that it owes
abbrev ended_caller : Plan → Shared → ℕ → Caller → Caller
ended_caller t s c x =
    record x { names = settled_names x.names; held = run_begun s.source; source = (caller_turn t.text (events.Access c 0) s.source x.source).caller; watch = run_after t.text (events.Access c 0) s.source x.source x.watch }

abbrev settled_caller : Caller → Caller
settled_caller x = record x { names = settled_names x.names }

base_ended : (t : Plan) (s : Shared) (c : ℕ) (x : Caller) → SharedHolds t s → Base t s c x → Base t s c (ended_caller t s c x)
base_ended t s c x f b =
    let b' = base_settled t s c x b in
    base_begun t s c (settled_caller x) (caller_turn t.text (events.Access c 0) s.source x.source).caller (run_after t.text (events.Access c 0) s.source x.source x.watch) f
    (record { number = b'.number; seen = b'.seen; old = b'.old; hazard = b'.hazard; protects = b'.protects; known = b'.known; cradle = b'.cradle })

-- with the access that is owed, or without
owes : (t : Plan) (s : Shared) (c : ℕ) (x : Caller) (next : _) → x.entry.hand.wrapup ≡ true
    → ((accessed : Bool) → x.entry.hand.accessed ≡ accessed → Ends t s c x (told (if accessed then Accesses ∷ [] else []) (quiet (cleared t.target t.setting.sizes next x.entry))))
    → Ends t s c x (told (owed x.entry.hand) (quiet (cleared t.target t.setting.sizes next x.entry)))
owes t s c x next wrap by = subst (λ (b : Bool). Ends t s c x (told (if b && x.entry.hand.accessed then Accesses ∷ [] else []) (quiet (cleared t.target t.setting.sizes next x.entry)))) (sym wrap) (by x.entry.hand.accessed refl)

-- the call ends with a reply
pub reply_ends : (t : Plan) (s : Shared) (c : ℕ) (x : Caller) (m : Trail t) (i : Instr) (reply : SourceReply) → IsPlan t → SharedHolds t s → Base t s c x → Walks t s c x (spot_of x.entry.hand) m → Stands t x m
    → slice_get (code_in m.walk.method) x.entry.hand.at ≡ Some (Plain i) → IsTrue (is_end i) → ended_at m.walk.method.op i x.entry.hand.registers m.walk.call ≡ replied reply (caller_of m.walk.call)
    → Ends t s c x (told (owed x.entry.hand) (quiet (cleared t.target t.setting.sizes (clears.Reply reply) x.entry)))
reply_ends t s c x m i reply plan f b w stands is ends leaves = owes t s c x (clears.Reply reply) (w.wrapup ∙ wrapup_is t s c x m i plan.sane w is ends) by where
  e : WalkEnds m.walk.method m.walk.call (spot_of x.entry.hand) x.entry.hand.accessed x.source i
  e = walk_ends t s c x m i plan w stands is ends

  replies : ended_at m.walk.method.op i x.entry.hand.registers m.walk.call ≡ replied reply (caller_of (call_of x.entry))
  replies = leaves ∙ ap (λ (call : Call). replied reply (caller_of call)) w.call

  by : (accessed : Bool) → x.entry.hand.accessed ≡ accessed → Ends t s c x (told (if accessed then Accesses ∷ [] else []) (quiet (cleared t.target t.setting.sizes (clears.Reply reply) x.entry)))
  by false none = ends_from t s c x (settled_caller x) _ refl refl refl (names_settle x.names _ (over_after t.target t.setting.sizes (clears.Reply reply) x.entry refl)) (cleared_reply t s c (settled_caller x) reply (base_settled t s c x b) (e.ended none ∙ replies) (λ r invalid. settled_is x r invalid))
  by true made =
      let turns = e.ends made c s.source in
      let ended = cleared_reply t s c (ended_caller t s c x) reply (base_ended t s c x f b) (ap (λ turn. turn.caller) turns.turns ∙ replies) (λ r invalid. settled_is x r invalid) in
      record {
        x' = ended.x';
        entry = ended.entry;
        names = names_stay_on x.names (settled_names x.names) ended.x'.names _ (names_settle x.names _ (over_after t.target t.setting.sizes (clears.Reply reply) x.entry refl)) ended.names;
        was_set = ended.was_set;
        caller_holds = ended.caller_holds;
        plays = plays_first t.text c Accesses [] (point s x) (point s (ended_caller t s c x)) (point s ended.x') (turns.enabled, (sym (ap (λ turn. turn.memory) turns.turns), refl, refl)) refl ended.plays;
      }

-- the operation begins again
pub again_ends : (t : Plan) (s : Shared) (c : ℕ) (x : Caller) (m : Trail t) → IsPlan t → SharedHolds t s → Base t s c x → Walks t s c x (spot_of x.entry.hand) m → Stands t x m
    → slice_get (code_in m.walk.method) x.entry.hand.at ≡ Some (Plain instr.Again) → Ends t s c x (told (owed x.entry.hand) (quiet (cleared t.target t.setting.sizes clears.Again x.entry)))
again_ends t s c x m plan f b w stands is = owes t s c x clears.Again (w.wrapup ∙ wrap) by where
  wrap : m.walk.method.wrapup ≡ true
  wrap = wrapup_is t s c x m instr.Again plan.sane w is refl

  e : WalkEnds m.walk.method m.walk.call (spot_of x.entry.hand) x.entry.hand.accessed x.source instr.Again
  e = walk_ends t s c x m instr.Again plan w stands is refl

  runs : (caller : SourceCaller) → caller ≡ begins_at m.walk.method.op false (first_registers m.walk.call.args) m.walk.call → runs_method (Some caller) ≡ true
  runs caller stands = ap (λ (z : SourceCaller). runs_method (Some z)) stands ∙ accessed_in_method m.walk.method.op false (first_registers m.walk.call.args) m.walk.call (run_from m.walk.method.op false (first_spot (first_registers m.walk.call.args)))

  by : (accessed : Bool) → x.entry.hand.accessed ≡ accessed → Ends t s c x (told (if accessed then Accesses ∷ [] else []) (quiet (cleared t.target t.setting.sizes clears.Again x.entry)))
  by false none =
      let begins : Begins t s c (settled_caller x) (generator_walk m.walk.method m.walk.call) = record {
        call = w.call;
        first = ap (λ (call : Call). first_registers call.args) w.call;
        number = w.number;
        start = generator_start m.walk.method t.home m.walk.call.args plan.null;
        generator = λ gen. refl;
        kept = λ r kept. absurd (let z : false ≡ true = kept in cc);
        shown = λ r kept. absurd (let z : false ≡ true = kept in cc);
        stands = e.ended none;
        got = stands.unread wrap none;
        tied = inl (runs x.source (e.ended none), ⊎_elim (λ both. both.1) (λ ended. absurd (let z : true ≡ false = sym (runs x.source (e.ended none)) ∙ ended.0 in cc)) stands.tied);
        settled = λ r invalid. settled_is x r invalid;
      } in
      ends_from t s c x (settled_caller x) _ refl refl refl (names_settle x.names _ (over_after t.target t.setting.sizes clears.Again x.entry refl)) (cleared_again t s c (settled_caller x) (generator_walk m.walk.method m.walk.call) (base_settled t s c x b) refl begins)
  by true made =
      let turns = e.ends made c s.source in
      let begins : Begins t s c (ended_caller t s c x) (generator_walk m.walk.method m.walk.call) = record {
        call = w.call;
        first = ap (λ (call : Call). first_registers call.args) w.call;
        number = w.number;
        start = generator_start m.walk.method t.home m.walk.call.args plan.null;
        generator = λ gen. refl;
        kept = λ r kept. absurd (let z : false ≡ true = kept in cc);
        shown = λ r kept. absurd (let z : false ≡ true = kept in cc);
        stands = ap (λ turn. turn.caller) turns.turns;
        got = refl;
        tied = inl (runs _ (ap (λ turn. turn.caller) turns.turns), sym (turns.run x.watch));
        settled = λ r invalid. settled_is x r invalid;
      } in
      let ended = cleared_again t s c (ended_caller t s c x) (generator_walk m.walk.method m.walk.call) (base_ended t s c x f b) refl begins in
      record {
        x' = ended.x';
        entry = ended.entry;
        names = names_stay_on x.names (settled_names x.names) ended.x'.names _ (names_settle x.names _ (over_after t.target t.setting.sizes clears.Again x.entry refl)) ended.names;
        was_set = ended.was_set;
        caller_holds = ended.caller_holds;
        plays = plays_first t.text c Accesses [] (point s x) (point s (ended_caller t s c x)) (point s ended.x') (turns.enabled, (sym (ap (λ turn. turn.memory) turns.turns), refl, refl)) refl ended.plays;
      }
