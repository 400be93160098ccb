-- The stores of a `new` over the real core, and the clear before it.
use Rattle.std.proofs.Common.{ℕ, ◌≡◌, ◌≢◌, ◌==◌, ◌+◌, ◌⊎◌, ◌∙◌, ◌&&◌, Bool, true, false, [], ◌∷◌, Option, Some, inl, inr, sym, ap, subst, refl, if◌then◌else◌}
use Rattle.std.specs.Prelude.{nat_lt}
use Rattle.norm_lang.specs.declared.text.Reg.TheVariants.{Ref}
use Rattle.norm_lang.specs.declared.text.Instr.TheVariants as instr
use Rattle.target_code.specs.declared.target.TargetInstr.{TargetInstr}
use Rattle.target_code.specs.declared.target.TargetInstr.TheVariants.{Plain}
use Rattle.oa_words.specs.Words.{Word, Hazard, FieldOf}
use Rattle.oa_words.specs.Memories.{store}
use Rattle.guard_words.specs.Guards.{guard_at, with_guard}
use Rattle.target_code.specs.Keeping.{keeps}
use Rattle.source_machine.specs.MethodRuns.{put}
use Rattle.source_machine.specs.Proper.{has}
use Rattle.std.proofs.lemmas.Bool.Decides.{eqb_tells}
use Rattle.caller_parts.specs.declared.routine.AfterClear.TheVariants as clears
use Rattle.caller_parts.specs.declared.routine.Routine.TheVariants.{Zeroes}
use Rattle.caller_steps.specs.Entries.{one_more, cradle_of, instr_in, zero_count}
use Rattle.caller_steps.specs.Clearing.{clear_next, unguarded}
use Rattle.caller_parts.specs.Spared.{none_spared}
use Rattle.caller_steps.specs.After.{counted, with_hand, then_cleared, cleared, goes_on, zeroed as core_zeroed}
use Rattle.caller_parts.specs.Operands.{with_new}
use Rattle.oa_simulation.specs.sim_relation.Views.{Plan, Shared, Caller}
use Rattle.oa_simulation.specs.sim_relation.Shared.{SharedHolds}
use Rattle.oa_simulation.specs.sim_relation.Callers.{Base, Trail, Walks, Stands, Gets, AtNew, Calm, spared, spot_of}
use Rattle.oa_simulation.specs.sim_relation.MayChange.{MayChange}
use Rattle.caller_steps.specs.Signs.{Draws, quiet, told}
use Rattle.oa_simulation.specs.sim_relation.Points.{point}
use Rattle.oa_simulation.proofs.sim_relation.Playing.{plays_first}
use Rattle.oa_simulation.specs.sim_relation.Naming.{named_at}
use Rattle.oa_simulation.specs.sim_relation.Steps.{KeptWith, Ends, hazarded, regarded, KeptBy, with_names}
use Rattle.oa_simulation.specs.sim_relation.WasSet.{set_by, set_onward, set_zeroed}
use Rattle.oa_simulation.proofs.sim_relation.Moving.{base_moved, walks_moved}
use Rattle.oa_simulation.proofs.sim_steps.Exchanges.Fresh.{zeroed, goes_zeroed, drawn, goes_drawn}
use Rattle.oa_simulation.proofs.sim_steps.Walks.Quieting.{cleared_new}
use Rattle.oa_simulation.proofs.sim_steps.Walks.Stopping.{settles_ends}
use Rattle.oa_simulation.proofs.sim_steps.Guards.Guarding.{fine_hazarded, goes_hazarded, base_hazarded, kept_hazarded, guard_other, protects_more}
use Rattle.oa_simulation.proofs.sim_relation.Clearing.{clear_some}
use Rattle.oa_simulation.proofs.sim_steps.Guards.Unguarding.{counted_caller, kept_ends}
use Rattle.oa_simulation.proofs.sim_steps.Walks.Accessing.{turned, took}
use Rattle.oa_simulation.proofs.sim_steps.Accesses.News.{Zeroing, zero_kept, Drawing, draws, behind_new, new_takes}
use Rattle.caller_parts.specs.declared.setting.Reclamation.TheVariants.{Optimistic}

-- a word that is stored twice
twice_at : (b : Bool) (x y : ℕ) → (if b then x else (if b then x else y)) ≡ (if b then x else y)
twice_at true x y = refl
twice_at false x y = refl

pub twice_word : (m : Word → ℕ) (j g : ℕ) (v : Word) → store (store m (FieldOf j g) 0) (FieldOf j g) 0 v ≡ store m (FieldOf j g) 0 v
twice_word m j g (FieldOf a b) = twice_at ((a == j) && (b == g)) 0 (m (FieldOf a b))
twice_word m j g _ = refl

twice : (m : Word → ℕ) (j g : ℕ) → store (store m (FieldOf j g) 0) (FieldOf j g) 0 ≡ store m (FieldOf j g) 0
twice m j g = λ i v. twice_word m j g v i

pub zeroing_moved : (t : Plan) (s : Shared) (c : ℕ) (x : Caller) (m : Trail t) (r k g : ℕ) → Zeroing t s c x m r k g → Zeroing t s c (counted_caller x) m r k g
zeroing_moved t s c x m r k g w = record {
  plan = w.plan;
  shared_holds = w.shared_holds;
  base = base_moved t s c x (one_more x.entry.running.steps) x.entry.counts x.entry.routine w.base;
  walks = walks_moved t s c x (spot_of x.entry.hand) m (one_more x.entry.running.steps) x.entry.counts x.entry.routine w.walks;
  gets = w.gets;
  held = w.held;
  zeros = w.zeros;
  empty = w.empty;
  kind = w.kind;
  here = w.here;
  number = w.number;
  generator = w.generator;
}

pub moved_kind : (t : Plan) (s : Shared) (c : ℕ) (x : Caller) (m : Trail t) (r k g : ℕ) (w : Zeroing t s c x m r k g) → (zeroing_moved t s c x m r k g w).kind ≡ w.kind
unfolding zeroing_moved
moved_kind t s c x m r k g w = refl

-- the zero, and the draw in the same step
pub goes_new : (t : Plan) (s : Shared) (c kind j g : ℕ) → MayChange t c s (zeroed s j g) → MayChange t c (zeroed s j g) (drawn t (zeroed s j g) kind j g) → MayChange t c s (drawn t (zeroed s j g) kind j g)
goes_new t s c kind j g one two = record {
  phase = two.phase;
  warning = two.warning;
  tag = two.tag;
  public = two.public;
  link = two.link;
  hazard = two.hazard;
  protects = two.protects;
  validated = two.validated;
  held = λ i d q ne own. let a = one.held i d q ne own in let b = two.held i d q ne a.0 in (b.0, b.1 ∙ a.1, (λ h. b.2 h ∙ a.2 h));
  retiring = λ i d ne own. let a = one.retiring i d ne own in let b = two.retiring i d ne a.0 in (b.0, b.1 ∙ a.1, refl);
}

-- a store of 0 at a `new`: the next field's, or the draw and the local code after it
pub new_stores : (t : Plan) (c : ℕ) (s : Shared) (x : Caller) (m : Trail t) (r k g : ℕ) → (w : Zeroing t s c x m r k g) → Stands t x m → instr_in t.target x.entry ≡ Some (Plain (instr.New (Ref r) w.kind))
    → (nat_lt (g + 1) (zero_count t.target (instr_in t.target x.entry)) ≡ false → Drawing t (zeroed s (cradle_of x.entry k) g) c (counted_caller x) m r k g)
    → KeptWith t c s x x.names (set_zeroed t.target x.entry x.was_set k (nat_lt (g + 1) (zero_count t.target (instr_in t.target x.entry)))) (store s.memory (FieldOf (cradle_of x.entry k) g) 0) (core_zeroed Optimistic t.target t.setting.sizes k g (counted x.entry)) (named_at (nat_lt (g + 1) (zero_count t.target (instr_in t.target x.entry))) (cradle_of x.entry k) s.unused (put s.present (cradle_of x.entry k) 0))
new_stores t c s x m r k g w st is draw = of (nat_lt (g + 1) (zero_count t.target (instr_in t.target x.entry))) refl where
  last : nat_lt (g + 1) (zero_count t.target (instr_in t.target x.entry)) ≡ false → KeptWith t c s x x.names (set_onward t.target x.entry (set_by (Some (Plain (instr.New (Ref r) w.kind))) x.was_set) (with_new (Some (Plain (instr.New (Ref r) w.kind))) (cradle_of x.entry k) x.entry.hand.registers)) (store s.memory (FieldOf (cradle_of x.entry k) g) 0) (told (Draws (cradle_of x.entry k) ∷ []) (goes_on Optimistic t.target t.setting.sizes (with_new (Some (Plain (instr.New (Ref r) w.kind))) (cradle_of x.entry k) x.entry.hand.registers) (counted x.entry))) (put (put s.present (cradle_of x.entry k) 0) (cradle_of x.entry k) s.unused)
  last ends =
      let d = draw ends in
      let j = cradle_of x.entry k in
      let s1 = zeroed s j g in
      let s' = drawn t s1 d.zeroing.kind j g in
      let y = counted_caller x in
      let own = w.base.cradle k w.held in
      let taken = new_takes t s1 c y m r k g d in
      let z = took t s1 c s.unused y (behind_new x r j) x.entry.hand.accessed s.unused (set_by (Some (Plain (instr.New (Ref r) w.kind))) x.was_set) in
      let ended = settles_ends t s' c (record (turned y z.source z.watch) { held = z.held; was_set = z.was_set }) (behind_new x r j) w.plan taken.1 taken.2 taken.3 in
      record {
        s' = s';
        x' = ended.x';
        memory = twice s.memory j g;
        present = refl;
        entry = ended.entry;
        names = ended.names;
        was_set = ended.was_set;
        plays = plays_first t.text c (Draws (cradle_of x.entry k)) _ (point s x) (point s' z) (point s' ended.x') taken.0 refl ended.plays;
        shared_holds = taken.1;
        goes = goes_new t s c d.zeroing.kind j g (goes_zeroed t s c k j g own) (goes_drawn t s1 c k d.zeroing.kind j g d.zeroing.shared_holds (draws t s1 c y m r k g d));
        retires = λ n is. inl is;
        caller_holds = ended.caller_holds;
      }

  of : (b : Bool) → nat_lt (g + 1) (zero_count t.target (instr_in t.target x.entry)) ≡ b → KeptWith t c s x x.names (set_zeroed t.target x.entry x.was_set k b) (store s.memory (FieldOf (cradle_of x.entry k) g) 0)
      (if b then quiet (record (counted x.entry) { routine = Zeroes k (g + 1) }) else told (Draws (cradle_of x.entry k) ∷ []) (goes_on Optimistic t.target t.setting.sizes (with_new (instr_in t.target (counted x.entry)) (cradle_of x.entry k) x.entry.hand.registers) (counted x.entry))) (named_at b (cradle_of x.entry k) s.unused (put s.present (cradle_of x.entry k) 0))
  of true more = zero_kept t c s x m r k g w st
  of false ends = subst (λ (o : Option TargetInstr). KeptWith t c s x x.names (set_onward t.target x.entry (set_by o x.was_set) (with_new o (cradle_of x.entry k) x.entry.hand.registers)) (store s.memory (FieldOf (cradle_of x.entry k) g) 0) (told (Draws (cradle_of x.entry k) ∷ []) (goes_on Optimistic t.target t.setting.sizes (with_new o (cradle_of x.entry k) x.entry.hand.registers) (counted x.entry))) (put (put s.present (cradle_of x.entry k) 0) (cradle_of x.entry k) s.unused)) (sym is) (last ends)

-- ---- the clear before a `new`

new_regarded : (t : Plan) (s : Shared) (c : ℕ) (x : Caller) (m : Trail t) (r : ℕ) → m.walk.method.wrapup ≡ false → Walks t s c x (spot_of x.entry.hand) m → Stands t x m → Gets t s c x m
    → AtNew t (hazarded s c r 0) c (regarded (counted_caller x) r 0 0) (spot_of x.entry.hand)
new_regarded t s c x m r gen w st g = (
  m,
  record {
    call = w.call;
    wrapup = w.wrapup;
    was_set = w.was_set;
    first = w.first;
    number = w.number;
    start = w.start;
    ahead = w.ahead;
    generator = w.generator;
    kept = kept_hazarded t x r 0 0 m.walk (ap (λ (b : Bool). b && keeps m.walk.method.op (Ref r)) gen) w.kept;
    shown = w.shown;
    sound = record {
      word = λ calm k. word calm k (eqb_tells k r);
      pairs = λ o e f free some some'.
          let p = protects_more s c r 0 c o some in
          let q = protects_more s c r 0 c e some' in
          rw (p.0, q.0) (w.sound.pairs o e f free (λ z. some (p.0 ∙ z)) (λ z. some' (q.0 ∙ z)));
      apart = λ gen' k e trusted some. let q = protects_more s c r 0 c e some in rw q.0 (w.sound.apart gen' k e trusted (λ z. some (q.0 ∙ z)));
    };
  },
  st,
  record { got = g.got; named = λ k. named k (eqb_tells k r); fresh = g.fresh; shown = g.shown; made = g.made },
) where
  word : Calm s c x → (k : ℕ) → (((k == r) ≡ true) × (k ≡ r)) ⊎ (((k == r) ≡ false) × (k ≢ r)) → put x.names.name r 0 k ≢ 0 → put x.names.valid r false k ≡ false → guard_at (with_guard x.entry.hand.guards r 0) k ≡ t.home (put x.names.name r 0 k)
  word calm k (inl e) = rw e.0 (λ some invalid. absurd (some refl))
  word calm k (inr e) = rw e.0 (λ some invalid. guard_other x.entry.hand.guards r 0 k e.1 ∙ w.sound.word calm k some invalid)

  named : (k : ℕ) → (((k == r) ≡ true) × (k ≡ r)) ⊎ (((k == r) ≡ false) × (k ≢ r)) → put x.names.name r 0 k ≢ 0 → spared t m.walk k ≡ false → has (put x.names.name r 0 k) x.held.got ≡ true
  named k (inl e) = rw e.0 (λ some free. absurd (some refl))
  named k (inr e) = rw e.0 (λ some free. g.named k some free)

pub new_clears : (t : Plan) (c : ℕ) (s : Shared) (x : Caller) (r : ℕ) → SharedHolds t s → Base t s c x → clear_next t.target clears.New x.entry ≡ Some r → (at : AtNew t s c x (spot_of x.entry.hand)) → at.0.walk.method.wrapup ≡ false
    → KeptBy t c s x (with_names x.names r 0) x.was_set (store s.memory (Hazard c r) 0) (quiet (then_cleared t.target t.setting.sizes clears.New (counted x.entry)))
new_clears t c s x r f b is at gen =
    let found = clear_some x.entry.hand.guards none_spared r is in
    let y = regarded (counted_caller x) r 0 0 in
    kept_ends t c s (hazarded s c r 0) x y (quiet (then_cleared t.target t.setting.sizes clears.New (counted x.entry))) (store s.memory (Hazard c r) 0) (fine_hazarded t c s r 0 f) (goes_hazarded t c s r 0) refl refl refl
    (subst (λ (o : Option ℕ). Ends t (hazarded s c r 0) c y (quiet (cleared t.target t.setting.sizes clears.New (with_hand (counted x.entry) (unguarded o x.entry.hand))))) (sym is)
    (cleared_new t (hazarded s c r 0) c y (base_hazarded t c s (counted_caller x) r 0 0 found.1 (base_moved t s c x (one_more x.entry.running.steps) x.entry.counts x.entry.routine b)) (new_regarded t s c x at.0 r gen at.1 at.2 at.3)))
