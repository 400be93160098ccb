-- A store of 0 to a hazard word, and what the caller does after it.
use Rattle.std.proofs.Common.{ℕ, ◌≡◌, ◌≢◌, ◌==◌, ◌≤◌, ◌<◌, ◌∙◌, ◌&&◌, Bool, true, false, length, Option, Some, arith, ⊎_elim, sym, ap, subst, refl, inl}
use Rattle.source_machine.specs.Proper.{has}
use Rattle.std.specs.Prelude.{slice_get}
use Rattle.std.proofs.lemmas.Bool.Decides.{eqb_tells}
use Rattle.norm_lang.specs.declared.text.Op.{Op}
use Rattle.norm_lang.specs.declared.text.Reg.TheVariants.{Ref}
use Rattle.target_code.specs.declared.target.TargetOp.{TargetOp}
use Rattle.target_code.specs.Erasing.{ErasesTo, erased_op}
use Rattle.target_code.specs.Keeping.{keeps}
use Rattle.oa_words.specs.Words.{Word, Hazard}
use Rattle.oa_words.specs.Memories.{store}
use Rattle.guard_words.specs.Guards.{is_spared}
use Rattle.caller_parts.specs.declared.routine.AfterClear.{AfterClear}
use Rattle.caller_parts.specs.declared.routine.AfterClear.TheVariants as clears
use Rattle.caller_steps.specs.Entries.{one_more, op_of}
use Rattle.caller_parts.specs.Spared.{kept_by, none_spared, restart_spares}
use Rattle.caller_steps.specs.Clearing.{restart_next, clear_next, unguarded}
use Rattle.caller_steps.specs.After.{counted, restart_cleared, restarted, then_cleared, cleared, with_hand}
use Rattle.run_ahead.specs.Following.{Walk}
use Rattle.target_laws.proofs.ErasedPlaces.{erased_is}
use Rattle.caller_steps.specs.Signs.{Moved, quiet}
use Rattle.oa_simulation.specs.sim_relation.Points.{point, Point}
use Rattle.oa_simulation.proofs.sim_relation.Playing.{plays_from}
use Rattle.oa_simulation.specs.sim_relation.Views.{Plan, IsPlan, Shared, Caller}
use Rattle.oa_simulation.specs.sim_relation.Shared.{SharedHolds}
use Rattle.oa_simulation.specs.sim_relation.Callers.{Base, Begins, Settled, ClearsAt, spared, call_of}
use Rattle.oa_simulation.specs.sim_relation.MayChange.{MayChange}
use Rattle.oa_simulation.specs.sim_relation.Steps.{KeptBy, Ends, with_names, hazarded, regarded, moved}
use Rattle.oa_simulation.specs.sim_relation.WasSet.{set_cleared}
use Rattle.oa_simulation.proofs.sim_steps.Walks.Local.{having_set}
use Rattle.oa_simulation.proofs.sim_relation.Moving.{base_moved}
use Rattle.oa_simulation.proofs.sim_steps.Guards.Guarding.{fine_hazarded, goes_hazarded, base_hazarded, kept_hazarded}
use Rattle.oa_simulation.proofs.sim_relation.Clearing.{clear_some, kept_bit}
use Rattle.oa_simulation.proofs.sim_steps.Walks.Beginning.{cleared_wrap_up, cleared_again, cleared_reply}
use Rattle.oa_simulation.proofs.sim_steps.Walks.Stopping.{restarted_ends}

-- a step whose access is made, and after which the entry comes to stand elsewhere
pub kept_ends : (t : Plan) (c : ℕ) (s s' : Shared) (x y : Caller) (m : Moved) (memory' : Word → ℕ) → SharedHolds t s' → MayChange t c s s' → s'.memory ≡ memory' → s'.present ≡ s.present → point s' y ≡ point s x → Ends t s' c y m → KeptBy t c s x y.names y.was_set memory' m
kept_ends t c s s' x y m memory' f g memory present from w = record {
  s' = s';
  x' = w.x';
  memory = memory;
  present = present;
  entry = w.entry;
  names = w.names;
  was_set = w.was_set;
  shared_holds = f;
  goes = g;
  retires = λ n is. inl (subst (λ (p : Point). has n p.memory.retired ≡ true) from is);
  caller_holds = w.caller_holds;
  plays = plays_from t.text c m.signs (point s x) (point s' y) (point s' w.x') from w.plays;
}

abbrev pub counted_caller : Caller → Caller
counted_caller x = moved x (one_more x.entry.running.steps) x.entry.counts x.entry.routine

settled_still : (x : Caller) (r : ℕ) → Settled x → Settled (regarded x r 0 0)
settled_still x r settled k = ⊎_elim
    (λ (e : ((k == r) ≡ true) × (k ≡ r)). rw e.0 (λ invalid. refl))
    (λ (e : ((k == r) ≡ false) × (k ≢ r)). rw e.0 (settled k))
    (eqb_tells k r)

-- a register that isn't left out isn't kept
free_of : (t : Plan) (x : Caller) (walk : Walk t.target t.text) (r : ℕ) (wrapup : Bool) → ErasesTo t.target t.text → walk.call ≡ call_of x.entry → walk.call.number ≡ walk.method.number → walk.method.wrapup ≡ wrapup → r < 8
    → is_spared (restart_spares wrapup (op_of t.target x.entry)) r ≡ false → spared t walk r ≡ false
free_of t x walk r false erases call number is lt bit = ap (λ (w : Bool). w && keeps walk.method.op (Ref r)) is
free_of t x walk r true erases call number is lt bit =
    let same : op_of t.target x.entry ≡ Some walk.method.compiled = ap (λ (n : ℕ). slice_get t.target.ops n) (sym (ap (λ call. call.number) call) ∙ number) ∙ walk.method.in_target in
    let erased : erased_op walk.method.compiled ≡ walk.method.op = erased_is t.target t.text walk.method.number walk.method.compiled walk.method.op erases walk.method.in_target walk.method.in_text in
    ap (λ (w : Bool). w && keeps walk.method.op (Ref r)) is ∙ ⊎_elim
    (λ (b : is_spared (kept_by (Some walk.method.compiled)) r ≡ keeps (erased_op walk.method.compiled) (Ref r)). sym (b ∙ ap (λ (op : Op). keeps op (Ref r)) erased) ∙ (ap (λ (o : Option TargetOp). is_spared (kept_by o) r) (sym same) ∙ bit))
    (λ (past : (is_spared (kept_by (Some walk.method.compiled)) r ≡ false) × (8 ≤ r)). absurd (omega (arith, lt, past.1)))
    (kept_bit walk.method.compiled r)

begins_regarded : (t : Plan) (s : Shared) (c : ℕ) (x : Caller) (r : ℕ) (walk : Walk t.target t.text) → spared t walk r ≡ false → Begins t s c x walk → Begins t (hazarded s c r 0) c (regarded (counted_caller x) r 0 0) walk
begins_regarded t s c x r walk free b = record {
  call = b.call;
  first = b.first;
  number = b.number;
  start = b.start;
  generator = b.generator;
  stands = b.stands;
  got = b.got;
  tied = b.tied;
  kept = kept_hazarded t x r 0 0 walk free b.kept;
  shown = b.shown;
  settled = settled_still x r b.settled;
}

base_cleared : (t : Plan) (s : Shared) (c : ℕ) (x : Caller) (r : ℕ) → r < length x.entry.hand.guards.slots → Base t s c x → Base t (hazarded s c r 0) c (regarded (counted_caller x) r 0 0)
base_cleared t s c x r lt b = base_hazarded t c s (counted_caller x) r 0 0 lt (base_moved t s c x (one_more x.entry.running.steps) x.entry.counts x.entry.routine b)

-- a clear after a failed check
pub restart_clears : (t : Plan) (c : ℕ) (s : Shared) (x : Caller) (r : ℕ) → IsPlan t → SharedHolds t s → Base t s c x → length x.entry.hand.guards.slots ≡ 8 → restart_next t.target x.entry ≡ Some r
    → (walk : Walk t.target t.text) → Begins t s c x walk → walk.method.wrapup ≡ x.entry.hand.wrapup
    → KeptBy t c s x (with_names x.names r 0) (set_cleared t.target (with_hand x.entry (unguarded (restart_next t.target x.entry) x.entry.hand)) x.was_set) (store s.memory (Hazard c r) 0) (restart_cleared t.target t.setting.sizes (counted x.entry))
restart_clears t c s x r plan f b count next walk begins is =
    let found = clear_some x.entry.hand.guards (restart_spares x.entry.hand.wrapup (op_of t.target x.entry)) r next in
    let free : spared t walk r ≡ false = free_of t x walk r x.entry.hand.wrapup plan.compiled.barred.erases begins.call begins.number is (omega (arith, found.1, count)) found.0 in
    let ended = restarted_ends t (hazarded s c r 0) c (regarded (counted_caller x) r 0 0) walk plan (fine_hazarded t c s r 0 f) (base_cleared t s c x r found.1 b) is (begins_regarded t s c x r walk free begins) in
    kept_ends t c s (hazarded s c r 0) x (having_set (regarded (counted_caller x) r 0 0) (set_cleared t.target (with_hand x.entry (unguarded (restart_next t.target x.entry) x.entry.hand)) x.was_set)) (restart_cleared t.target t.setting.sizes (counted x.entry)) (store s.memory (Hazard c r) 0) (fine_hazarded t c s r 0 f) (goes_hazarded t c s r 0) refl refl refl
    (subst (λ (o : Option ℕ). Ends t (hazarded s c r 0) c (having_set (regarded (counted_caller x) r 0 0) (set_cleared t.target (with_hand x.entry (unguarded o x.entry.hand)) x.was_set)) (restarted t.target t.setting.sizes (with_hand (counted x.entry) (unguarded o x.entry.hand)))) (sym next) ended)

-- a clear at a wrap-up's start, after `again`, or at the reply
pub then_clears : (t : Plan) (c : ℕ) (s : Shared) (x : Caller) (r : ℕ) (next : AfterClear) → (next ≡ clears.New → ⊥) → IsPlan t → SharedHolds t s → Base t s c x → length x.entry.hand.guards.slots ≡ 8 → clear_next t.target next x.entry ≡ Some r
    → ClearsAt t s c x next → KeptBy t c s x (with_names x.names r 0) x.was_set (store s.memory (Hazard c r) 0) (quiet (then_cleared t.target t.setting.sizes next (counted x.entry)))
then_clears t c s x r next old plan f b count is at =
    kept_ends t c s (hazarded s c r 0) x (regarded (counted_caller x) r 0 0) (quiet (then_cleared t.target t.setting.sizes next (counted x.entry))) (store s.memory (Hazard c r) 0) (fine_hazarded t c s r 0 f) (goes_hazarded t c s r 0) refl refl refl
    (subst (λ (o : Option ℕ). Ends t (hazarded s c r 0) c (regarded (counted_caller x) r 0 0) (quiet (cleared t.target t.setting.sizes next (with_hand (counted x.entry) (unguarded o x.entry.hand))))) (sym is) (by_then next old is at))
  where
    by_then : (next : AfterClear) → (next ≡ clears.New → ⊥) → clear_next t.target next x.entry ≡ Some r → ClearsAt t s c x next → Ends t (hazarded s c r 0) c (regarded (counted_caller x) r 0 0) (quiet (cleared t.target t.setting.sizes next (regarded (counted_caller x) r 0 0).entry))
    by_then clears.New old is at = absurd (old refl)
    by_then clears.WrapUp old is at =
        let found = clear_some x.entry.hand.guards (kept_by (op_of t.target x.entry)) r is in
        let free : spared t at.0 r ≡ false = free_of t x at.0 r true plan.compiled.barred.erases at.1.call at.1.number at.2 (omega (arith, found.1, count)) found.0 in
        cleared_wrap_up t (hazarded s c r 0) c (regarded (counted_caller x) r 0 0) at.0 plan.compiled.barred.erases (base_cleared t s c x r found.1 b) at.2 (begins_regarded t s c x r at.0 free at.1)
    by_then (clears.Reply reply) old is at =
        let found = clear_some x.entry.hand.guards none_spared r is in
        cleared_reply t (hazarded s c r 0) c (regarded (counted_caller x) r 0 0) reply (base_cleared t s c x r found.1 b) at.0 (settled_still x r at.1)
    by_then clears.Again old is at =
        let found = clear_some x.entry.hand.guards none_spared r is in
        let free : spared t at.0 r ≡ false = ap (λ (w : Bool). w && keeps at.0.method.op (Ref r)) at.2 in
        cleared_again t (hazarded s c r 0) c (regarded (counted_caller x) r 0 0) at.0 (base_cleared t s c x r found.1 b) at.2 (begins_regarded t s c x r at.0 free at.1)
