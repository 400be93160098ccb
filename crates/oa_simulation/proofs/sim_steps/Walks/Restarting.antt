-- The source's method begins again when the core's does: at a failed check, and at the load of what was seen.
use Rattle.std.proofs.Common.{ℕ, ◌≡◌, ◌⊎◌, ◌∙◌, Bool, true, false, List, [], ◌∷◌, Option, Some, None, arith, inl, inr, sym, ap, subst, refl, if◌then◌else◌}
use Rattle.std.specs.Prelude.{slice_get, option_map}
use Rattle.norm_lang.specs.declared.text.Instr.{Instr}
use Rattle.norm_lang.specs.declared.text.Instr.TheVariants as instr
use Rattle.norm_lang.specs.declared.text.Op.{Op}
use Rattle.norm_lang.specs.declared.text.Text.{Text}
use Rattle.norm_lang.specs.declared.registers.Registers.{Registers}
use Rattle.norm_lang.specs.Registers.{first_registers}
use Rattle.norm_lang.specs.Local.{Spot}
use Rattle.oa_words.specs.Words.{Warning}
use Rattle.oa_words.specs.Memories.{store}
use Rattle.source_machine.specs.declared.event.SourceEvent.TheVariants as events
use Rattle.source_machine.specs.declared.state.Memory.{Memory}
use Rattle.source_machine.specs.declared.state.Running.{Running}
use Rattle.source_machine.specs.declared.state.SourceCaller.{SourceCaller}
use Rattle.source_machine.specs.Step.{performed_by, caller_turn, wrap_up_end}
use Rattle.source_machine.specs.Run.{is_enabled_for, is_enabled_by}
use Rattle.source_machine.specs.MethodRuns.{MethodRun, run_begun, run_after}
use Rattle.source_machine.specs.Proper.{runs_method, in_method}
use Rattle.caller_parts.specs.declared.routine.MethodStart.{MethodStart}
use Rattle.caller_steps.specs.Entries.{one_more}
use Rattle.caller_steps.specs.After.{counted, seen_loaded, check_failed, is_wrap_up}
use Rattle.run_ahead.proofs.Starting.{start_keeps}
use Rattle.run_ahead.specs.Standing.{Call, stands_at, run_from, turn_if_enabled, caller_of}
use Rattle.run_ahead.specs.Following.{Walk}
use Rattle.target_laws.specs.local_laws.Settling.{next_spot}
use Rattle.target_laws.proofs.local_laws.Bounded.{settles_once}
use Rattle.target_laws.specs.Methods.{source_in}
use Rattle.run_ahead.specs.Following.{Follows}
use Rattle.run_ahead.specs.MethodLaws.{RestartFollows}
use Rattle.run_ahead.proofs.Restarting.{restarts_are_followed}
use Rattle.run_ahead.specs.Ahead.{IsErased}
use Rattle.caller_steps.specs.declared.entry.Counts.{Counts}
use Rattle.caller_steps.specs.Signs.{Sign, Renews}
use Rattle.caller_steps.specs.After.{seen_sign, method_begun}
use Rattle.oa_simulation.specs.sim_relation.Points.{Point, Plays, leaves_out, point}
use Rattle.oa_simulation.proofs.sim_relation.Playing.{point_of, plays_first}
use Rattle.oa_simulation.proofs.sim_steps.Walks.Replying.{follows_of}
use Rattle.oa_simulation.proofs.sim_steps.Walks.Beginning.{begun_spot}
use Rattle.oa_simulation.proofs.sim_steps.Walks.Committing.{kept_settled}
use Rattle.oa_simulation.specs.sim_relation.Callers.{first_of}
use Rattle.oa_simulation.specs.sim_relation.Views.{Plan, IsPlan, Shared, Caller, settled_names}
use Rattle.oa_simulation.specs.sim_relation.Shared.{SharedHolds}
use Rattle.oa_simulation.specs.sim_relation.Callers.{Calm, Base, Trail, Walks, Stands, Begins, EmptyBut, spot_of}
use Rattle.oa_simulation.specs.sim_relation.Steps.{KeptBy, KeptSetting}
use Rattle.oa_simulation.specs.sim_relation.WasSet.{set_begun, set_cleared}
use Rattle.oa_simulation.proofs.sim_relation.Words.{store_idle}
use Rattle.oa_simulation.proofs.sim_relation.Moving.{goes_same, settled_is, base_settled}
use Rattle.oa_simulation.proofs.sim_steps.Walks.Stopping.{settles_ends, restarted_ends}
use Rattle.oa_simulation.proofs.sim_steps.Walks.Beginning.{restarting, begins_running}

-- ---- when a restart is enabled

-- a caller's operation, if it runs one, is this
abbrev RunsOp : Text → Op → SourceCaller → Type 0
RunsOp text op caller = (running : Running) → caller.running ≡ Some running → slice_get text.ops running.op ≡ Some op

enabled_is : (text : Text) (c : ℕ) (op : Op) (memory : Memory) (caller : SourceCaller) → RunsOp text op caller → is_enabled_for text (events.Restart c) (Some caller) memory ≡ runs_method (Some caller)
enabled_is text c op memory caller runs = of caller.running refl where
  of : (o : Option Running) → caller.running ≡ o → is_enabled_by text (events.Restart c) (performed_by text o) memory caller ≡ in_method o
  of None is = refl
  of (Some running) is = ap (λ (x : Option Op). is_enabled_by text (events.Restart c) (option_map (λ op. record { op = op; running = running }) x) memory caller) (runs running is)

-- the number of the operation that runs
abbrev op_or : ℕ → Option Running → ℕ
op_or n None = n
op_or n (Some running) = running.op

-- wherever the source's caller stands it runs the call's operation, if any
end_number : (op : Op) (i : Option Instr) (running : Running) (caller : SourceCaller) → op_or running.op (wrap_up_end op i running caller).running ≡ running.op
end_number op (Some (instr.Return a)) running caller = refl
end_number op _ running caller = refl

stand_number : (op : Op) (wrapup : Bool) (started : Registers) (accessed : Bool) (call : Call) (there : Spot) → op_or call.number (stands_at op wrapup started accessed call there).running ≡ call.number
stand_number op false started accessed call there = refl
stand_number op true started true call there = refl
stand_number op true started false call there = end_number op (slice_get op.wrapup there.at) _ (caller_of call)

pub stand_runs : (text : Text) (op : Op) (wrapup : Bool) (started : Registers) (accessed : Bool) (call : Call) (there : Spot) → slice_get text.ops call.number ≡ Some op → RunsOp text op (stands_at op wrapup started accessed call there)
stand_runs text op wrapup started accessed call there is running runs =
    ap (λ (n : ℕ). slice_get text.ops n) (sym (ap (op_or call.number) runs) ∙ stand_number op wrapup started accessed call there) ∙ is

-- ---- the restart, if it is enabled

-- the source's method begins again, if it may, with a run of its own; else it stands where that would lead it
pub record Restarted (t : Plan) (s : Shared) (c : ℕ) (x : Caller) (walk : Walk t.target t.text) : Type 0 where
  pub source' : SourceCaller
  pub watch' : MethodRun
  pub plays : (signs : List Sign) (p : Point) → Plays t.text c signs (point_of s.unused s.source source' watch') p → Plays t.text c (Renews ∷ signs) (point s x) p
  pub stands : source' ≡ stands_at walk.method.op walk.method.wrapup walk.started false walk.call (run_from walk.method.op walk.method.wrapup (record { at = 0; registers = walk.started }))
  pub tied : (runs_method (Some source') ≡ true) → run_begun s.source ≡ watch'

pub restarts : (t : Plan) (s : Shared) (c : ℕ) (x : Caller) (walk : Walk t.target t.text) (calm : Type 0) (path : List ℕ) (core : Spot) (mirror : Registers) (accessed : Bool) → IsErased t.target t.text
    → (follows : Follows walk t.home calm path core mirror accessed x.source) → Restarted t s c x walk
restarts t s c x walk calm path core mirror accessed erased follows = of (is_enabled_for t.text (events.Restart c) (Some x.source) s.source) refl where
  again : RestartFollows walk t.home calm (events.Restart c) s.source x.source
  again = restarts_are_followed calm calm t.target t.text erased t.home walk path core mirror accessed x.source follows c s.source

  place : again.follows.there ≡ run_from walk.method.op walk.method.wrapup (record { at = 0; registers = walk.started })
  place = settles_once (next_spot (source_in walk.method)) _ again.follows.there (run_from walk.method.op walk.method.wrapup (record { at = 0; registers = walk.started }))
      again.follows.ahead.settles (start_keeps walk.method t.home calm walk.first walk.started erased.normal follows.begun.start).settles

  begun : (turn_if_enabled t.text (events.Restart c) s.source x.source).caller
      ≡ stands_at walk.method.op walk.method.wrapup walk.started false walk.call (run_from walk.method.op walk.method.wrapup (record { at = 0; registers = walk.started }))
  begun = again.follows.stands ∙ ap (λ (spot : Spot). stands_at walk.method.op walk.method.wrapup walk.started false walk.call spot) place

  of : (b : Bool) → is_enabled_for t.text (events.Restart c) (Some x.source) s.source ≡ b → Restarted t s c x walk
  of true is =
      let turn : turn_if_enabled t.text (events.Restart c) s.source x.source ≡ caller_turn t.text (events.Restart c) s.source x.source =
      ap (λ (b : Bool). if b then caller_turn t.text (events.Restart c) s.source x.source else record { memory = s.source; caller = x.source }) is in
      record {
        source' = (caller_turn t.text (events.Restart c) s.source x.source).caller;
        watch' = run_after t.text (events.Restart c) s.source x.source x.watch;
        plays = λ signs p rest. plays_first t.text c Renews signs (point s x) (point_of s.unused s.source _ _) p (is, (sym (sym (ap (λ turn. turn.memory) turn) ∙ again.memory), refl, refl)) refl rest;
        stands = sym (ap (λ turn. turn.caller) turn) ∙ begun;
        tied = λ runs. sym (again.run is x.watch);
      }
  of false is =
      let turn : turn_if_enabled t.text (events.Restart c) s.source x.source ≡ record { memory = s.source; caller = x.source } =
      ap (λ (b : Bool). if b then caller_turn t.text (events.Restart c) s.source x.source else record { memory = s.source; caller = x.source }) is in
      let op : slice_get t.text.ops walk.call.number ≡ Some walk.method.op = ap (slice_get t.text.ops) follows.begun.number ∙ walk.method.in_text in
      let runs : runs_method (Some x.source) ≡ false =
      sym (enabled_is t.text c walk.method.op s.source x.source (subst (λ caller. RunsOp t.text walk.method.op caller) (sym follows.stands) (stand_runs t.text walk.method.op walk.method.wrapup walk.started accessed walk.call follows.there op))) ∙ is in
      record {
        source' = x.source;
        watch' = x.watch;
        plays = λ signs p rest. leaves_out signs (point s x) p is rest;
        stands = sym (ap (λ turn. turn.caller) turn) ∙ begun;
        tied = λ runs'. absurd (let z : true ≡ false = sym runs' ∙ runs in cc);
      }

-- the caller is tied to the source's method run again
pub tied_again : (t : Plan) (s : Shared) (c : ℕ) (x : Caller) (walk : Walk t.target t.text) (r : Restarted t s c x walk) → ((runs_method (Some r.source') ≡ true) × (run_begun s.source ≡ r.watch')) ⊎ ((runs_method (Some r.source') ≡ false) × ((run_begun s.source).got ≡ []))
tied_again t s c x walk r = of (runs_method (Some r.source')) refl where
  of : (b : Bool) → runs_method (Some r.source') ≡ b → ((runs_method (Some r.source') ≡ true) × (run_begun s.source ≡ r.watch')) ⊎ ((runs_method (Some r.source') ≡ false) × ((run_begun s.source).got ≡ []))
  of true is = inl (is, r.tied is)
  of false is = inr (is, refl)

abbrev pub one_restart : Counts → Counts
one_restart counts = record counts { restarts = one_more counts.restarts }

-- the caller with a run that begins now
abbrev pub rerun : Caller → Shared → ℕ → SourceCaller → MethodRun → Counts → Bool → Caller
rerun x s word source watch counts accessed = record x {
  held = run_begun s.source;
  source = source;
  watch = watch;
  entry = record x.entry { running = record x.entry.running { steps = one_more x.entry.running.steps }; counts = counts; hand = record x.entry.hand { seen = word; accessed = accessed } };
}

pub base_rerun : (t : Plan) (s : Shared) (c : ℕ) (x : Caller) (source : SourceCaller) (watch : MethodRun) (counts : Counts) (accessed : Bool) → SharedHolds t s → Base t s c x → Base t s c (rerun x s (s.memory (Warning c)) source watch counts accessed)
base_rerun t s c x source watch counts accessed f b = record {
  number = b.number;
  hazard = b.hazard;
  protects = b.protects;
  cradle = b.cradle;
  seen = omega arith;
  old = λ n p is lt. f.tagged n p is;
  known = λ n got. absurd (let z : false ≡ true = got in cc);
}

-- the load of what was seen, at a wrap-up's start and after `again`
pub seen_kept : (t : Plan) (s : Shared) (c : ℕ) (x : Caller) (walk : Walk t.target t.text) (why : MethodStart) → IsPlan t → SharedHolds t s → Base t s c x → Begins t s c x walk → walk.method.wrapup ≡ is_wrap_up why → EmptyBut t walk x
    → seen_sign why (counted x.entry) ≡ Renews → (r : Restarted t s c x walk)
    → KeptSetting t c s x (set_begun t.target (is_wrap_up why) x.entry) (store s.memory (Warning c) (s.memory (Warning c))) (seen_loaded t.target t.setting.sizes why (s.memory (Warning c)) (counted x.entry))
seen_kept t s c x walk why plan f b begins is empty sign r =
    let word = s.memory (Warning c) in
    let y : Caller = rerun x s word r.source' r.watch' x.entry.counts x.entry.hand.accessed in
    let b' = base_rerun t s c x r.source' r.watch' x.entry.counts x.entry.hand.accessed f b in
    let again : Begins t s c y walk = record { call = begins.call; first = begins.first; number = begins.number; start = begins.start; generator = begins.generator; kept = begins.kept; shown = begins.shown; stands = r.stands; got = refl; tied = tied_again t s c x walk r; settled = begins.settled } in
    let ended = settles_ends t s c (restarting y (is_wrap_up why)) (begun_spot (is_wrap_up why) y.entry) plan f
    (record { number = b'.number; seen = b'.seen; old = b'.old; hazard = b'.hazard; protects = b'.protects; known = b'.known; cradle = b'.cradle })
    (begins_running t s c y walk (is_wrap_up why) plan.compiled.normal f b' is again empty) in
    record {
      s' = s;
      x' = ended.x';
      memory = store_idle s.memory (Warning c);
      present = refl;
      entry = ended.entry;
      names = ended.names;
      was_set = ended.was_set;
      shared_holds = f;
      goes = goes_same t s c;
      retires = λ n is. inl is;
      caller_holds = ended.caller_holds;
      plays = subst (λ (sign : Sign). Plays t.text c (sign ∷ (method_begun t.target t.setting.sizes (is_wrap_up why) y.entry).signs) (point s x) (point s ended.x')) (sym sign) (r.plays _ (point s ended.x') ended.plays);
    }

-- the source's restart if a run is about to begin
pub begins_restart : (t : Plan) (s : Shared) (c : ℕ) (x : Caller) (walk : Walk t.target t.text) → IsErased t.target t.text → Begins t s c x walk → Restarted t s c x walk
begins_restart t s c x walk erased begins =
    restarts t s c x walk (Unit {0}) [] (record { at = 0; registers = walk.first }) walk.started false erased (record {
      there = run_from walk.method.op walk.method.wrapup (record { at = 0; registers = walk.started });
      begun = record {
        number = begins.number;
        start = begins.start;
        generator = λ gen. (begins.first ∙ (ap (λ (b : Bool). first_of b x.entry.running.call.args x.entry.hand.started) gen ∙ ap (λ (call : Call). first_registers call.args) (sym begins.call)), begins.generator gen);
      };
      ahead = start_keeps walk.method t.home (Unit {0}) walk.first walk.started erased.normal begins.start;
      stands = begins.stands;
      unmoved = λ wrap still. refl;
    })

-- and if the caller is in one
pub walks_restart : (t : Plan) (s : Shared) (c : ℕ) (x : Caller) (m : Trail t) → IsErased t.target t.text → Walks t s c x (spot_of x.entry.hand) m → Stands t x m → Restarted t s c x m.walk
walks_restart t s c x m erased w stands = restarts t s c x m.walk (Calm s c x) m.path (spot_of x.entry.hand) m.mirror x.entry.hand.accessed erased (follows_of t s c x m w stands)

-- a check that fails
pub check_fails : (t : Plan) (s : Shared) (c : ℕ) (x : Caller) (m : Trail t) → IsPlan t → SharedHolds t s → Base t s c x → Walks t s c x (spot_of x.entry.hand) m → (r : Restarted t s c x m.walk)
    → KeptBy t c s x (settled_names x.names) (set_cleared t.target x.entry x.was_set) (store s.memory (Warning c) (s.memory (Warning c))) (check_failed t.target t.setting.sizes (s.memory (Warning c)) (counted x.entry))
check_fails t s c x m plan f b w r =
    let word = s.memory (Warning c) in
    let settled : Caller = record x { names = settled_names x.names } in
    let y : Caller = rerun settled s word r.source' r.watch' (one_restart x.entry.counts) false in
    let b' = base_rerun t s c settled r.source' r.watch' (one_restart x.entry.counts) false f (base_settled t s c x b) in
    let again : Begins t s c y m.walk = record {
      call = w.call;
      first = w.first;
      number = w.number;
      start = w.start;
      generator = w.generator;
      stands = r.stands;
      got = refl;
      tied = tied_again t s c x m.walk r;
      kept = λ i is. kept_settled t x m.walk i _ (w.kept i is);
      shown = w.shown;
      settled = λ i invalid. settled_is x i invalid;
    } in
    let ended = restarted_ends t s c y m.walk plan f b' (sym w.wrapup) again in
    record {
      s' = s;
      x' = ended.x';
      memory = store_idle s.memory (Warning c);
      present = refl;
      entry = ended.entry;
      names = ended.names;
      was_set = ended.was_set;
      shared_holds = f;
      goes = goes_same t s c;
      retires = λ n is. inl is;
      caller_holds = ended.caller_holds;
      plays = r.plays _ (point s ended.x') ended.plays;
    }
