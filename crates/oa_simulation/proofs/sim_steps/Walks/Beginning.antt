-- Method runs begin, or begin again.
use Rattle.std.proofs.Common.{inl, ℕ, ◌≡◌, ◌≤◌, ◌∙◌, ◌&&◌, Bool, true, false, List, [], ◌∷◌, Option, Some, None, ⊎_elim, sym, ap, subst, refl}
use Rattle.std.specs.Prelude.{slice_get}
use Rattle.std.proofs.lemmas.List.{map-append}
use Rattle.norm_lang.specs.declared.text.Reg.TheVariants.{Ref}
use Rattle.norm_lang.specs.declared.text.Op.{Op}
use Rattle.norm_lang.specs.Local.{Spot}
use Rattle.norm_lang.specs.NormalForm.{IsNormal}
use Rattle.target_code.specs.declared.target.TargetOp.{TargetOp}
use Rattle.target_code.specs.Erasing.{ErasesTo, erased_op}
use Rattle.target_code.specs.Keeping.{keeps}
use Rattle.guard_words.specs.Guards.{is_spared, next_to_clear}
use Rattle.norm_lang.specs.declared.reply.SourceReply.{SourceReply}
use Rattle.source_machine.specs.Proper.{has}
use Rattle.caller_parts.specs.declared.routine.MethodStart.TheVariants as starts
use Rattle.caller_parts.specs.declared.routine.AfterClear.TheVariants as clears
use Rattle.caller_parts.specs.declared.routine.Routine.TheVariants.{LoadSeen, Clears}
use Rattle.caller_steps.specs.Entries.{Entry, op_of}
use Rattle.caller_parts.specs.Spared.{kept_by, restart_spares}
use Rattle.caller_steps.specs.Clearing.{clear_next}
use Rattle.caller_steps.specs.After.{first_spot, clear_on, cleared, replied as entry_replied}
use Rattle.run_ahead.specs.Ahead.{Ahead}
use Rattle.run_ahead.specs.Known.{AreGot}
use Rattle.run_ahead.specs.Standing.{run_from}
use Rattle.run_ahead.specs.Following.{Walk}
use Rattle.run_ahead.proofs.Starting.{start_keeps}
use Rattle.run_ahead.proofs.Getting.{start_got}
use Rattle.target_laws.proofs.ErasedPlaces.{erased_is}
use Rattle.oa_simulation.specs.sim_relation.Views.{Plan, Shared, Caller}
use Rattle.oa_simulation.specs.sim_relation.Shared.{SharedHolds}
use Rattle.oa_simulation.specs.sim_relation.Callers.{Calm, Base, Running, Begins, EmptyBut, Settled, HasReplied, spared, first_of, call_of}
use Rattle.caller_steps.specs.Signs.{Moved, quiet}
use Rattle.caller_parts.specs.Pairing.{replied_by, reply_of}
use Rattle.oa_simulation.specs.sim_relation.Points.{done, point}
use Rattle.oa_simulation.proofs.sim_relation.Playing.{plays_from, points_same}
use Rattle.oa_simulation.specs.sim_relation.Steps.{Ends, NamesStay, is_between, is_over}
use Rattle.oa_simulation.specs.sim_relation.WasSet.{none_set}
use Rattle.oa_simulation.proofs.sim_relation.Names.{unprotected}
use Rattle.oa_simulation.proofs.sim_relation.Moving.{begins_moved, same_names, names_stay_on}
use Rattle.oa_simulation.proofs.sim_relation.Codes.{blank}
use Rattle.oa_simulation.proofs.sim_steps.Walks.Local.{at_spot}
use Rattle.oa_simulation.proofs.sim_relation.Clearing.{clear_none, none_out, kept_bit}
use Rattle.oa_simulation.proofs.sim_steps.Walks.Quieting.{ends_quiet}
use Rattle.caller_parts.specs.declared.routine.AfterClear.{AfterClear}
use Rattle.oa_words.specs.Words.{Sizes}
use Rattle.target_code.specs.declared.target.Target.{Target}

-- the method's flag is set, and no access was made and no register set
abbrev pub restarting : Caller → Bool → Caller
restarting x wrapup = record x { was_set = none_set; entry = record x.entry { hand = record x.entry.hand { wrapup = wrapup; accessed = false } } }

-- where a method run begins
abbrev pub begun_spot : Bool → Entry → Spot
begun_spot wrapup e = first_spot wrapup e.running.call.args e.hand.started

first_is : (wrapup : Bool) (e : Entry) → begun_spot wrapup e ≡ record { at = 0; registers = first_of wrapup e.running.call.args e.hand.started }
first_is true e = refl
first_is false e = refl

-- no guard but the kept ones has a name
names_gone : (t : Plan) (s : Shared) (c : ℕ) (x : Caller) (walk : Walk t.target t.text) (r : ℕ) → SharedHolds t s → Base t s c x → Settled x → EmptyBut t walk x → spared t walk r ≡ false → (s.protects c r ≡ 0) × (x.names.name r ≡ 0)
names_gone t s c x walk r f b settled empty free = (gone, of (x.names.valid r) refl) where
  gone : s.protects c r ≡ 0
  gone = unprotected t s c r f (b.hazard r ∙ empty r free)

  of : (v : Bool) → x.names.valid r ≡ v → x.names.name r ≡ 0
  of true is = sym (sym gone ∙ (b.protects r ∙ rw is refl))
  of false is = settled r is

-- a method run begins
pub begins_running : (t : Plan) (s : Shared) (c : ℕ) (x : Caller) (walk : Walk t.target t.text) (wrapup : Bool) → IsNormal t.text → SharedHolds t s → Base t s c x → walk.method.wrapup ≡ wrapup → Begins t s c x walk → EmptyBut t walk x
    → Running t s c (at_spot (restarting x wrapup) (begun_spot wrapup x.entry)) (begun_spot wrapup x.entry)
begins_running t s c x walk wrapup normal f b is begins empty = (
  record { walk = walk; path = []; mirror = walk.started; there = run_from walk.method.op walk.method.wrapup (record { at = 0; registers = walk.started }) },
  record {
    call = begins.call;
    wrapup = sym is;
    first = begins.first;
    number = begins.number;
    start = begins.start;
    generator = begins.generator;
    kept = begins.kept;
    shown = begins.shown;
    was_set = λ r. refl;
    ahead = subst (λ (spot : Spot). Ahead walk.method t.home (Calm s c x) [] spot walk.started (run_from walk.method.op walk.method.wrapup (record { at = 0; registers = walk.started }))) here
        (start_keeps walk.method t.home (Calm s c x) walk.first walk.started normal begins.start);
    sound = record {
      word = λ calm r some invalid. absurd (some (begins.settled r invalid));
      pairs = λ o e g free some some'. absurd (some (names_gone t s c x walk o f b begins.settled empty free).0);
      apart = λ gen r e trusted some. absurd (some (names_gone t s c x walk e f b begins.settled empty (ap (λ (w : Bool). w && keeps walk.method.op (Ref e)) gen)).0);
    };
  },
  record { stands = begins.stands; unmoved = λ wrap still. refl; tied = begins.tied; unread = λ wrap still. begins.got },
  record {
    got = subst (λ (got : List ℕ). AreGot walk.method [] walk.started walk.started got) (sym begins.got) (start_got walk.method walk.started);
    named = λ r some free. absurd (some (names_gone t s c x walk r f b begins.settled empty free).1);
    shown = λ gen r shut. inl (blank walk begins.generator gen r);
    fresh = λ gen r fresh. absurd (let z : false ≡ true = fresh in cc);
    made = λ n k got. absurd (let z : false ≡ true = ap (λ (ns : List ℕ). has n ns) (sym begins.got) ∙ got in cc);
  },
  (λ r counted. tt),
) where
  here : record { at = 0; registers = walk.first } ≡ begun_spot wrapup x.entry
  here = ap (λ registers. record { at = 0; registers = registers }) (begins.first ∙ ap (λ (w : Bool). first_of w x.entry.running.call.args x.entry.hand.started) is) ∙ sym (first_is wrapup x.entry)

-- an operation's kept registers in the target are the text's
bit_free : (t : Plan) (x : Caller) (walk : Walk t.target t.text) (r : ℕ) → ErasesTo t.target t.text → walk.call ≡ call_of x.entry → walk.call.number ≡ walk.method.number → walk.method.wrapup ≡ true → spared t walk r ≡ false → is_spared (kept_by (op_of t.target x.entry)) r ≡ false
bit_free t x walk r erases call number wrap free =
    let same : op_of t.target x.entry ≡ Some walk.method.compiled = ap (λ (n : ℕ). slice_get t.target.ops n) (sym (ap (λ call. call.number) call) ∙ number) ∙ walk.method.in_target in
    let erased : erased_op walk.method.compiled ≡ walk.method.op = erased_is t.target t.text walk.method.number walk.method.compiled walk.method.op erases walk.method.in_target walk.method.in_text in
    let unkept : keeps walk.method.op (Ref r) ≡ false = sym (ap (λ (w : Bool). w && keeps walk.method.op (Ref r)) wrap) ∙ free in
    ap (λ (o : Option TargetOp). is_spared (kept_by o) r) same ∙ ⊎_elim
    (λ (bit : is_spared (kept_by (Some walk.method.compiled)) r ≡ keeps (erased_op walk.method.compiled) (Ref r)). bit ∙ (ap (λ (op : Op). keeps op (Ref r)) erased ∙ unkept))
    (λ (past : (is_spared (kept_by (Some walk.method.compiled)) r ≡ false) × (8 ≤ r)). past.0)
    (kept_bit walk.method.compiled r)

-- if nothing is left to clear at a restart, each guard that isn't spared is 0
pub restart_empty : (t : Plan) (s : Shared) (c : ℕ) (x : Caller) (walk : Walk t.target t.text) (wrapup : Bool) → ErasesTo t.target t.text → walk.method.wrapup ≡ wrapup → Begins t s c x walk
    → next_to_clear x.entry.hand.guards (restart_spares wrapup (op_of t.target x.entry)) ≡ None → EmptyBut t walk x
restart_empty t s c x walk true erases is begins none r free = clear_none x.entry.hand.guards (kept_by (op_of t.target x.entry)) none r (bit_free t x walk r erases begins.call begins.number is free)
restart_empty t s c x walk false erases is begins none r free = none_out x.entry.hand.guards none r

-- from where the source stands
pub ends_from : (t : Plan) (s : Shared) (c : ℕ) (x y : Caller) (m : Moved) → y.source ≡ x.source → y.watch ≡ x.watch → y.was_set ≡ x.was_set → NamesStay x.names y.names (is_between m.entry.routine) → Ends t s c y m → Ends t s c x m
ends_from t s c x y m source watch same names w = record {
  x' = w.x';
  entry = w.entry;
  names = names_stay_on x.names y.names w.x'.names (is_between m.entry.routine) names w.names;
  was_set = w.was_set ∙ same;
  caller_holds = w.caller_holds;
  plays = plays_from t.text c m.signs (point s x) (point s y) (point s w.x') (points_same (point s x) (point s y) refl refl source watch) w.plays;
}

-- past a clear that ends a method run no run goes on
pub over_after : (target : Target) (sizes : Sizes) (next : AfterClear) (e : Entry) → is_over next ≡ true → is_between (cleared target sizes next e).routine ≡ true
over_after target sizes next e over = of next over (clear_next target next e) where
  of : (next : AfterClear) → is_over next ≡ true → (o : Option ℕ) → is_between (clear_on target sizes next o e).routine ≡ true
  of clears.New over o = absurd (let z : false ≡ true = over in cc)
  of clears.WrapUp over None = refl
  of clears.WrapUp over (Some r) = refl
  of (clears.Reply reply) over None = refl
  of (clears.Reply reply) over (Some r) = refl
  of clears.Again over None = refl
  of clears.Again over (Some r) = refl

-- at a wrap-up's start
pub cleared_wrap_up : (t : Plan) (s : Shared) (c : ℕ) (x : Caller) (walk : Walk t.target t.text) → ErasesTo t.target t.text → Base t s c x → walk.method.wrapup ≡ true → Begins t s c x walk → Ends t s c x (quiet (cleared t.target t.setting.sizes clears.WrapUp x.entry))
cleared_wrap_up t s c x walk erases b is begins = of (clear_next t.target clears.WrapUp x.entry) refl where
  of : (o : Option ℕ) → clear_next t.target clears.WrapUp x.entry ≡ o → Ends t s c x (quiet (clear_on t.target t.setting.sizes clears.WrapUp o x.entry))
  of None none = ends_quiet t s c x (LoadSeen starts.WrapUp) b (walk, begins_moved t s c x walk x.entry.running.steps x.entry.counts (LoadSeen starts.WrapUp) begins, is, restart_empty t s c x walk true erases is begins none)
  of (Some r) some = ends_quiet t s c x (Clears clears.WrapUp) b (walk, begins_moved t s c x walk x.entry.running.steps x.entry.counts (Clears clears.WrapUp) begins, is)

-- after `again`
pub cleared_again : (t : Plan) (s : Shared) (c : ℕ) (x : Caller) (walk : Walk t.target t.text) → Base t s c x → walk.method.wrapup ≡ false → Begins t s c x walk → Ends t s c x (quiet (cleared t.target t.setting.sizes clears.Again x.entry))
cleared_again t s c x walk b is begins = of (clear_next t.target clears.Again x.entry) refl where
  of : (o : Option ℕ) → clear_next t.target clears.Again x.entry ≡ o → Ends t s c x (quiet (clear_on t.target t.setting.sizes clears.Again o x.entry))
  of None none = ends_quiet t s c x (LoadSeen starts.Again) b (walk, begins_moved t s c x walk x.entry.running.steps x.entry.counts (LoadSeen starts.Again) begins, is, (λ r free. none_out x.entry.hand.guards none r))
  of (Some r) some = ends_quiet t s c x (Clears clears.Again) b (walk, begins_moved t s c x walk x.entry.running.steps x.entry.counts (Clears clears.Again) begins, is)

-- at the reply
pub cleared_reply : (t : Plan) (s : Shared) (c : ℕ) (x : Caller) (reply : SourceReply) → Base t s c x → HasReplied x reply → Settled x → Ends t s c x (quiet (cleared t.target t.setting.sizes (clears.Reply reply) x.entry))
cleared_reply t s c x reply b replied settled = of (clear_next t.target (clears.Reply reply) x.entry) refl where
  of : (o : Option ℕ) → clear_next t.target (clears.Reply reply) x.entry ≡ o → Ends t s c x (quiet (clear_on t.target t.setting.sizes (clears.Reply reply) o x.entry))
  of None none = record {
    x' = record x { entry = entry_replied reply x.entry };
    entry = refl;
    names = same_names x.names true;
    was_set = refl;
    plays = done _;
    caller_holds = record {
      base = record { number = b.number; seen = b.seen; old = b.old; hazard = b.hazard; protects = b.protects; known = b.known; cradle = b.cradle };
      spot = (
        none_out x.entry.hand.guards none,
        settled,
        replied ∙ ap (λ (rs : List SourceReply). record { replies = rs; running = None })
            (sym (map-append reply_of x.entry.replies (replied_by reply x.entry.running ∷ []))),
      );
    };
  }
  of (Some r) some = ends_quiet t s c x (Clears (clears.Reply reply)) b (replied, settled)
