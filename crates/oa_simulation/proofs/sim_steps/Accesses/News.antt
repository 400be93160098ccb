-- A `new` whose slot is in its cradle: the slot's old name goes as its first field is zeroed, and with the last the node is drawn.
use Rattle.std.proofs.Common.{ℕ, ◌≡◌, ◌≢◌, ◌==◌, ◌+◌, ◌≤◌, ◌<◌, ◌⊎◌, ◌∙◌, ◌||◌, Bool, true, false, ◌∷◌, length, Some, arith, inl, inr, ⊎_elim, sym, ap, subst, refl, if◌then◌else◌}
use Rattle.std.specs.Prelude.{slice_get, nat_lt, IsTrue}
use Rattle.std.proofs.lemmas.Bool.{cases_eq}
use Rattle.std.proofs.lemmas.Bool.Decides.{nat_tests, eqb_tells}
use Rattle.norm_lang.specs.declared.text.Reg.TheVariants.{Ref}
use Rattle.norm_lang.specs.declared.text.Instr.TheVariants as instr
use Rattle.norm_lang.specs.declared.registers.Reference.{Reference}
use Rattle.norm_lang.specs.Flow.{passed}
use Rattle.norm_lang.specs.Local.{Spot}
use Rattle.norm_lang.specs.Registers.{with_reference, node_in}
use Rattle.norm_lang.specs.RegisterUse.{sets, set_after}
use Rattle.target_code.specs.declared.target.TargetInstr.TheVariants.{Plain}
use Rattle.target_code.specs.Erasing.{source_place}
use Rattle.target_code.specs.Flaws.{GuardState, dropped, guard_after}
use Rattle.oa_words.specs.Words.{FieldOf}
use Rattle.oa_words.specs.Memories.{store}
use Rattle.source_machine.specs.declared.event.SourceEvent.TheVariants as events
use Rattle.source_machine.specs.MethodRuns.{put, with_name}
use Rattle.source_machine.specs.Proper.{has}
use Rattle.source_machine.specs.Run.{is_name}
use Rattle.source_machine.proofs.Places.{put_same, put_other}
use Rattle.source_machine.specs.Memory.{blank_fields}
use Rattle.caller_steps.specs.Entries.{cradle_of, one_more}
use Rattle.caller_parts.specs.Operands.{is_new_at, cradle_number}
use Rattle.caller_parts.specs.declared.routine.Routine.TheVariants.{Zeroes}
use Rattle.caller_steps.specs.After.{counted, with_routine}
use Rattle.target_laws.specs.Methods.{code_in}
use Rattle.target_laws.specs.Trusted.{Trusted, Unchecked}
use Rattle.run_ahead.specs.Ahead.{erasing, AsTrusted}
use Rattle.run_ahead.specs.Known.{IsGot, is_set_in}
use Rattle.target_code.specs.PathStates.{is_fresh_along}
use Rattle.run_ahead.specs.Standing.{run_from}
use Rattle.run_ahead.proofs.Quiet.{goes_next}
use Rattle.run_ahead.proofs.Changing.{reference_changes, put_stands}
use Rattle.run_ahead.proofs.Getting.{plain_got}
use Rattle.run_ahead.specs.Guards.{GuardStands}
use Rattle.run_ahead.proofs.Plain.{at_place}
use Rattle.run_ahead.proofs.TypedMemory.{new_typed}
use Rattle.target_code.specs.PathStates.{over_plain}
use Rattle.norm_lang.specs.Freshness.{fresh_after}
use Rattle.oa_simulation.specs.sim_relation.Views.{Plan, IsPlan, Held, Shared, Caller, Resident}
use Rattle.oa_simulation.specs.sim_relation.Shared.{SharedHolds}
use Rattle.oa_simulation.specs.sim_relation.Callers.{Own, Known, Shown, Calm, Base, Trail, Walks, Stands, Gets, Running, Empty, Zeroed, guard_state, spot_of}
use Rattle.caller_steps.specs.Signs.{quiet}
use Rattle.oa_simulation.specs.sim_relation.Points.{done}
use Rattle.oa_simulation.proofs.sim_relation.Playing.{PlaysEvent}
use Rattle.oa_simulation.specs.sim_relation.Steps.{KeptNaming, moved}
use Rattle.oa_simulation.specs.sim_relation.WasSet.{set_by}
use Rattle.oa_simulation.proofs.sim_relation.Moving.{base_moved, walks_moved, same_names}
use Rattle.oa_simulation.proofs.sim_relation.Names.{null_resident, unprotected}
use Rattle.oa_simulation.proofs.sim_steps.Walks.Along.{undone, made_before}
use Rattle.oa_simulation.proofs.sim_relation.Codes.{blank}
use Rattle.oa_simulation.proofs.sim_steps.Exchanges.Fresh.{zeroed, fine_zeroed, goes_zeroed, drawn, Draws, fine_drawn}
use Rattle.oa_simulation.proofs.sim_steps.Exchanges.Made.{new_is_first}
use Rattle.oa_simulation.proofs.sim_steps.Accesses.Loads.{has_with, has_kept, got_kept, got_new}
use Rattle.oa_simulation.proofs.sim_steps.Walks.Accessing.{Makes, turns, took, stands_took}

-- what is known while the fields of a cradle's slot are zeroed
pub record Zeroing (t : Plan) (s : Shared) (c : ℕ) (x : Caller) (m : Trail t) (r k g : ℕ) : Type 0 where
  pub plan : IsPlan t
  pub shared_holds : SharedHolds t s
  pub base : Base t s c x
  pub walks : Walks t s c x (spot_of x.entry.hand) m
  pub gets : Gets t s c x m
  pub held : cradle_of x.entry k ≢ 0
  pub zeros : Zeroed s (cradle_of x.entry k) g
  pub empty : Empty x
  pub kind : ℕ
  pub here : slice_get (code_in m.walk.method) x.entry.hand.at ≡ Some (Plain (instr.New (Ref r) kind))
  pub number : k ≡ cradle_number (code_in m.walk.method) x.entry.hand.at
  pub generator : m.walk.method.wrapup ≡ false

bare : (t : Plan) (s : Shared) (c : ℕ) (x : Caller) (m : Trail t) (r k g : ℕ) → Zeroing t s c x m r k g → (i : ℕ) → s.protects c i ≡ 0
bare t s c x m r k g w i = unprotected t s c i w.shared_holds (w.base.hazard i ∙ w.empty i)

-- null, or a name that the run has got: its slot is another
away : (t : Plan) (s : Shared) (c : ℕ) (x : Caller) (m : Trail t) (r k g n : ℕ) → Zeroing t s c x m r k g → (n ≡ 0) ⊎ (has n x.held.got ≡ true) → Resident t s n → t.home n ≢ cradle_of x.entry k
away t s c x m r k g n w (inl z) here e = w.held (sym e ∙ (ap t.home z ∙ w.plan.null))
away t s c x m r k g n w (inr got) here e = new_is_first m.walk.method m.path x.entry.hand.at (Ref r) w.kind k (erasing w.plan.compiled) w.plan.sane w.walks.ahead.path_is w.here w.number (w.gets.made n k got (ap s.owner e ∙ w.base.cradle k w.held) here)

own_zeroed : (t : Plan) (s : Shared) (c : ℕ) (x : Caller) (m : Trail t) (r k g n : ℕ) → Zeroing t s c x m r k g → (n ≡ 0) ⊎ (has n x.held.got ≡ true) → Own t s c n → Own t (zeroed s (cradle_of x.entry k) g) c n
own_zeroed t s c x m r k g n w known own = (own.0, own.1, put_other s.present (cradle_of x.entry k) (t.home n) 0 (away t s c x m r k g n w known own.2) ∙ own.2)

-- a fresh register holds null or a name that was got
fresh_got : (t : Plan) (s : Shared) (c : ℕ) (x : Caller) (m : Trail t) (r k g i : ℕ) → Zeroing t s c x m r k g → (node_in m.mirror i ≡ 0) ⊎ (has (node_in m.mirror i) x.held.got ≡ true)
fresh_got t s c x m r k g i w = of (is_set_in m.walk.method m.path i) refl where
  got_of : IsGot x.held.got (node_in m.mirror i) → (node_in m.mirror i ≡ 0) ⊎ (has (node_in m.mirror i) x.held.got ≡ true)
  got_of (inl z) = inl z
  got_of (inr among) = inr (among)

  of : (b : Bool) → is_set_in m.walk.method m.path i ≡ b → (node_in m.mirror i ≡ 0) ⊎ (has (node_in m.mirror i) x.held.got ≡ true)
  of true set = got_of (w.gets.got.set i set)
  of false unset = inl (w.gets.got.unset i unset ∙ blank m.walk w.walks.generator w.generator i)

-- all of it stays known after one more field is zeroed
pub zeroing_on : (t : Plan) (s : Shared) (c : ℕ) (x : Caller) (m : Trail t) (r k g : ℕ) → Zeroing t s c x m r k g → Zeroing t (zeroed s (cradle_of x.entry k) g) c x m r k (g + 1)
zeroing_on t s c x m r k g w = record {
  plan = w.plan;
  shared_holds = fine_zeroed t s c k j g w.plan.null w.shared_holds (w.base.cradle k w.held) (bare t s c x m r k g w);
  base = record { number = b.number; seen = b.seen; old = b.old; hazard = b.hazard; protects = b.protects; cradle = b.cradle; known = λ n got. known n got (b.known n got) };
  walks = record { call = k'.call; wrapup = k'.wrapup; was_set = k'.was_set; first = k'.first; number = k'.number; start = k'.start; ahead = k'.ahead; generator = k'.generator; kept = k'.kept; shown = k'.shown; sound = k'.sound };
  gets = record {
    got = w.gets.got;
    named = w.gets.named;
    shown = w.gets.shown;
    fresh = λ gen i is. own_zeroed t s c x m r k g (node_in m.mirror i) w (fresh_got t s c x m r k g i w) (w.gets.fresh gen i is);
    made = λ n i got own here. w.gets.made n i got own (before n here);
  };
  held = w.held;
  zeros = ((λ some. put_same s.present j 0), (λ h lt. zero_at h lt (eqb_tells h g)));
  empty = w.empty;
  kind = w.kind;
  here = w.here;
  number = w.number;
  generator = w.generator;
} where
  j : ℕ
  j = cradle_of x.entry k

  b : Base t s c x
  b = w.base

  k' : Walks t s c x (spot_of x.entry.hand) m
  k' = w.walks

  known : (n : ℕ) → has n x.held.got ≡ true → Known t s c n → Known t (zeroed s (cradle_of x.entry k) g) c n
  known n got (inl z) = inl z
  known n got (inr (inl p)) = inr (inl p)
  known n got (inr (inr own)) = inr (inr (own_zeroed t s c x m r k g n w (inr got) own))

  before : (n : ℕ) → put s.present (cradle_of x.entry k) 0 (t.home n) ≡ n → s.present (t.home n) ≡ n
  before n is = ⊎_elim
      (λ (e : t.home n ≡ cradle_of x.entry k). null_resident t s n w.plan.null w.shared_holds (sym is ∙ (ap (put s.present (cradle_of x.entry k) 0) e ∙ put_same s.present (cradle_of x.entry k) 0)))
      (λ (ne : t.home n ≢ cradle_of x.entry k). sym (put_other s.present (cradle_of x.entry k) (t.home n) 0 ne) ∙ is)
      (cases_eq (t.home n) (cradle_of x.entry k))

  zero_at : (h : ℕ) → h < g + 1 → (((h == g) ≡ true) × (h ≡ g)) ⊎ (((h == g) ≡ false) × (h ≢ g)) → store s.memory (FieldOf (cradle_of x.entry k) g) 0 (FieldOf (cradle_of x.entry k) h) ≡ 0
  zero_at h lt (inl e) = let one : (cradle_of x.entry k == cradle_of x.entry k) ≡ true = grind (arith, nat_tests) in rw (one, e.0) refl
  zero_at h lt (inr e) = let one : (cradle_of x.entry k == cradle_of x.entry k) ≡ true = grind (arith, nat_tests) in let ne = e.1 in rw (one, e.0) (w.zeros.1 h (omega (arith, lt, ne)))

pub zeroing_kind : (t : Plan) (s : Shared) (c : ℕ) (x : Caller) (m : Trail t) (r k g : ℕ) (w : Zeroing t s c x m r k g) → (zeroing_on t s c x m r k g w).kind ≡ w.kind
unfolding zeroing_on
zeroing_kind t s c x m r k g w = refl

-- the store that isn't the last
pub zero_kept : (t : Plan) (c : ℕ) (s : Shared) (x : Caller) (m : Trail t) (r k g : ℕ) → Zeroing t s c x m r k g → Stands t x m
    → KeptNaming t c s x (store s.memory (FieldOf (cradle_of x.entry k) g) 0) (quiet (with_routine (counted x.entry) (Zeroes k (g + 1)))) (put s.present (cradle_of x.entry k) 0)
zero_kept t c s x m r k g w st =
    let z = zeroing_on t s c x m r k g w in
    record {
      s' = zeroed s (cradle_of x.entry k) g;
      x' = moved x (one_more x.entry.running.steps) x.entry.counts (Zeroes k (g + 1));
      memory = refl;
      present = refl;
      entry = refl;
      names = same_names x.names false;
      was_set = refl;
      plays = done _;
      shared_holds = z.shared_holds;
      goes = goes_zeroed t s c k (cradle_of x.entry k) g (w.base.cradle k w.held);
      retires = λ n is. inl is;
      caller_holds = record {
        base = base_moved t (zeroed s (cradle_of x.entry k) g) c x (one_more x.entry.running.steps) x.entry.counts (Zeroes k (g + 1)) z.base;
        spot = (
          w.held,
          z.zeros,
          (
            m,
            walks_moved t (zeroed s (cradle_of x.entry k) g) c x (spot_of x.entry.hand) m (one_more x.entry.running.steps) x.entry.counts (Zeroes k (g + 1)) z.walks,
            st,
            z.gets,
          ),
          w.empty,
        );
      };
    }

-- ---- the draw, after the last store

-- the last field is 0 already
pub record Drawing (t : Plan) (s : Shared) (c : ℕ) (x : Caller) (m : Trail t) (r k g : ℕ) : Type 0 where
  pub zeroing : Zeroing t s c x m r k (g + 1)
  pub stands : Stands t x m
  pub home : t.home s.unused ≡ cradle_of x.entry k
  -- the node has no field past it
  pub counted : length (blank_fields t.text zeroing.kind) ≤ g + 1
  -- from the entry's Belongs and the target's Sane: the register is there
  pub register : node_in (with_reference m.mirror (Ref r) (record { node = s.unused; marked = false })) r ≡ s.unused

-- the least name that wasn't drawn is none of a node
unused_is_name : (t : Plan) (s : Shared) → SharedHolds t s → IsTrue (is_name true s.unused s.source.nodes)
unused_is_name t s f = let unknown = (f.unused s.unused (omega arith)).2 in let some = f.unused_some in let lt : nat_lt 0 s.unused ≡ true = grind (arith, nat_tests) in rw (lt, unknown) refl

pub draws : (t : Plan) (s : Shared) (c : ℕ) (x : Caller) (m : Trail t) (r k g : ℕ) → (d : Drawing t s c x m r k g) → Draws t s c k d.zeroing.kind (cradle_of x.entry k) g
draws t s c x m r k g d = record {
  own = d.zeroing.base.cradle k d.zeroing.held;
  none = d.zeroing.zeros.0 (omega arith);
  home = d.home;
  zeros = λ i ne few. let all = d.counted in d.zeroing.zeros.1 i (omega (arith, few, all));
  typed = new_typed t.text s.unused 0 (Ref r) d.zeroing.kind m.mirror s.source (unused_is_name t s d.zeroing.shared_holds) d.zeroing.shared_holds.typed;
}

abbrev pub behind_new : Caller → ℕ → ℕ → Spot
behind_new x r j = record { at = x.entry.hand.at + 1; registers = with_reference x.entry.hand.registers (Ref r) (record { node = j; marked = false }) }

pub new_takes : (t : Plan) (s : Shared) (c : ℕ) (x : Caller) (m : Trail t) (r k g : ℕ) → (d : Drawing t s c x m r k g)
    → let j = cradle_of x.entry k in
    let s' = drawn t s d.zeroing.kind j g in
    let y = took t s c s.unused x (behind_new x r j) x.entry.hand.accessed s.unused (set_by (Some (Plain (instr.New (Ref r) d.zeroing.kind))) x.was_set) in
    PlaysEvent t.text (events.Access c s.unused) s.source x.source x.watch s'.source y.source y.watch × SharedHolds t s' × Base t s' c y × Running t s' c y (behind_new x r j)
new_takes t s c x m r k g d =
    let z = d.zeroing in
    let j = cradle_of x.entry k in
    let name = s.unused in
    let i = instr.New (Ref r) z.kind in
    let method = m.walk.method in
    let place = source_place (code_in method) in
    let at = x.entry.hand.at in
    let s' = drawn t s z.kind j g in
    let there : Reference = record { node = j; marked = false } in
    let named : Reference = record { node = name; marked = false } in
    let next = behind_new x r j in
    let mirror' = with_reference m.mirror (Ref r) named in
    let changes = reference_changes t.home (AsTrusted (Calm s c x) Unchecked) x.entry.hand.registers m.mirror r there named z.walks.ahead.sized (λ q same now. put_stands t.home x.entry.hand.registers m.mirror r there named z.walks.ahead.sized z.plan.null (sym d.home, refl) q same) in
    let made : Makes t s c name x m i name next mirror' = record {
      here = z.here;
      access = refl;
      named = unused_is_name t s z.shared_holds;
      goes = goes_next at;
      changes = changes;
      known = λ trusted. absurd (let never : Unchecked ≡ Trusted = trusted in cc);
      leads = ap (λ (q : ℕ). record { at = q; registers = mirror' }) (sym (at_place method (erasing z.plan.compiled) at (Plain i) z.here).1);
    } in
    let turn = turns t s c name x m i name next mirror' (erasing z.plan.compiled) z.walks d.stands made in
    let there' : Spot = run_from method.op method.wrapup (record { at = place next.at; registers = mirror' }) in
    let y = took t s c name x next x.entry.hand.accessed name (set_by (Some (Plain i)) x.was_set) in (
      (turn.enabled, (sym turn.memory, refl, sym turn.watch)),
      fine_drawn t s c k z.kind j g z.plan.null z.shared_holds (draws t s c x m r k g d),
      record {
        number = z.base.number;
        seen = z.base.seen;
        old = z.base.old;
        hazard = z.base.hazard;
        protects = z.base.protects;
        cradle = z.base.cradle;
        known = λ n got. ⊎_elim (λ (e : n ≡ s.unused). inr (inr (own_new n e))) (λ (old : has n x.held.got ≡ true). known_still n old (z.base.known n old)) (has_with n s.unused x.held.got got);
      },
      (
        record { walk = m.walk; path = at ∷ m.path; mirror = mirror'; there = there' },
        record {
          call = z.walks.call;
          wrapup = z.walks.wrapup;
          was_set = λ q. ap (λ (b : Bool). passed (over_plain (set_after (Ref q))) (Some (Plain i)) b) (z.walks.was_set q) ∙ ap (λ o. passed (over_plain (set_after (Ref q))) o (is_set_in method m.path q)) (sym z.here);
          first = z.walks.first;
          number = z.walks.number;
          start = z.walks.start;
          ahead = turn.ahead;
          generator = z.walks.generator;
          kept = z.walks.kept;
          shown = z.walks.shown;
          sound = record {
            word = z.walks.sound.word;
            pairs = λ o e f free full full'. absurd (full (bare t s c x m r k (g + 1) z o));
            apart = λ gen q e trusted full. absurd (full (bare t s c x m r k (g + 1) z e));
          };
        },
        stands_took t s c name x m i next mirror' x.entry.hand.accessed name (λ wrap. absurd (let never : true ≡ false = sym wrap ∙ z.generator in cc)) turn,
        record {
          got = plain_got method t.home (AsTrusted (Calm s c x) Unchecked) m.path at i name x.entry.hand.registers m.mirror next.registers mirror' m.walk.started x.held.got (with_name name x.held.got) z.here changes (λ q set. got_new s.unused x.held.got) (λ q. got_kept q s.unused x.held.got) z.gets.got;
          named = λ q full free. has_kept (x.names.name q) s.unused x.held.got (z.gets.named q full free);
          shown = λ gen q shut. by_shown gen q (sets (Ref q) i) refl (changes.leaves q) (subst (λ o. passed (over_plain (fresh_after (Ref q))) o (is_fresh_along (code_in method) m.path (Ref q)) ≡ false) z.here shut);
          fresh = λ gen q fresh. by_fresh gen q (sets (Ref q) i) refl (changes.leaves q) (subst (λ o. passed (over_plain (fresh_after (Ref q))) o (is_fresh_along (code_in method) m.path (Ref q)) ≡ true) z.here fresh);
          made = λ n q got own here. ⊎_elim
              (λ (e : n ≡ s.unused). (at, (let one : (at == at) ≡ true = grind (arith, nat_tests) in rw one refl), ap is_new_at z.here, sym z.number ∙ same_cradle q (sym (z.base.cradle k z.held) ∙ (ap s.owner (sym (ap t.home e ∙ d.home)) ∙ own))))
              (λ (ne : n ≢ s.unused). ⊎_elim
              (λ (e : n ≡ s.unused). absurd (ne e))
              (λ (old : has n x.held.got ≡ true). made_before (code_in method) at m.path q (z.gets.made n q old own (before n ne here)))
              (has_with n s.unused x.held.got got))
              (cases_eq n s.unused);
        },
        (λ q counted. subst (λ o. GuardStands o mirror' x.names q) (sym (ap (λ o. passed (guard_after (Ref q)) o (guard_state t m.walk m.path q)) z.here ∙ either (sets (Ref q) i) (dropped (guard_state t m.walk m.path q)) (guard_state t m.walk m.path q))) (undone (guard_state t m.walk m.path q) mirror' x.names q)),
      ),
    )
  where
    either : (b : Bool) (a o : GuardState) → (if b || true then a else o) ≡ a
    either true a o = refl
    either false a o = refl

    same_cradle : (q : ℕ) → Held c k ≡ Held c q → k ≡ q
    same_cradle q e = cc

    own_new : (n : ℕ) → n ≡ s.unused → Own t (drawn t s d.zeroing.kind (cradle_of x.entry k) g) c n
    own_new n e = (k, ap s.owner (ap t.home e ∙ d.home) ∙ d.zeroing.base.cradle k d.zeroing.held, ap (put s.present (cradle_of x.entry k) s.unused) (ap t.home e ∙ d.home) ∙ (put_same s.present (cradle_of x.entry k) s.unused ∙ sym e))

    own_still : (n : ℕ) → (n ≡ 0) ⊎ (has n x.held.got ≡ true) → Own t s c n → Own t (drawn t s d.zeroing.kind (cradle_of x.entry k) g) c n
    own_still n got own = (own.0, own.1, put_other s.present (cradle_of x.entry k) (t.home n) s.unused (away t s c x m r k (g + 1) n d.zeroing got own.2) ∙ own.2)

    known_still : (n : ℕ) → has n x.held.got ≡ true → Known t s c n → Known t (drawn t s d.zeroing.kind (cradle_of x.entry k) g) c n
    known_still n got (inl e) = inl e
    known_still n got (inr (inl p)) = inr (inl p)
    known_still n got (inr (inr own)) = inr (inr (own_still n (inr got) own))

    before : (n : ℕ) → n ≢ s.unused → put s.present (cradle_of x.entry k) s.unused (t.home n) ≡ n → s.present (t.home n) ≡ n
    before n ne is = ⊎_elim
        (λ (e : t.home n ≡ cradle_of x.entry k). absurd (ne (sym is ∙ (ap (put s.present (cradle_of x.entry k) s.unused) e ∙ put_same s.present (cradle_of x.entry k) s.unused))))
        (λ (other : t.home n ≢ cradle_of x.entry k). sym (put_other s.present (cradle_of x.entry k) (t.home n) s.unused other) ∙ is)
        (cases_eq (t.home n) (cradle_of x.entry k))

    by_shown : m.walk.method.wrapup ≡ false → (q : ℕ) (b : Bool) → sets (Ref q) (instr.New (Ref r) d.zeroing.kind) ≡ b
        → (sets (Ref q) (instr.New (Ref r) d.zeroing.kind) ≡ false → node_in (with_reference m.mirror (Ref r) (record { node = s.unused; marked = false })) q ≡ node_in m.mirror q)
        → (if sets (Ref q) (instr.New (Ref r) d.zeroing.kind) then true else is_fresh_along (code_in m.walk.method) m.path (Ref q)) ≡ false → Shown s (node_in (with_reference m.mirror (Ref r) (record { node = s.unused; marked = false })) q)
    by_shown gen q true set leaves shut = absurd (let never : true ≡ false = sym (rw set refl) ∙ shut in cc)
    by_shown gen q false set leaves shut = subst (λ (n : ℕ). Shown s n) (sym (leaves set)) (d.zeroing.gets.shown gen q (sym (rw set refl) ∙ shut))

    by_fresh : m.walk.method.wrapup ≡ false → (q : ℕ) (b : Bool) → sets (Ref q) (instr.New (Ref r) d.zeroing.kind) ≡ b
        → (sets (Ref q) (instr.New (Ref r) d.zeroing.kind) ≡ false → node_in (with_reference m.mirror (Ref r) (record { node = s.unused; marked = false })) q ≡ node_in m.mirror q)
        → (if sets (Ref q) (instr.New (Ref r) d.zeroing.kind) then true else is_fresh_along (code_in m.walk.method) m.path (Ref q)) ≡ true
        → Own t (drawn t s d.zeroing.kind (cradle_of x.entry k) g) c (node_in (with_reference m.mirror (Ref r) (record { node = s.unused; marked = false })) q)
    by_fresh gen q true set leaves fresh = let same : q ≡ r = (let e : (q == r) ≡ true = set in grind (arith, nat_tests)) in own_new _ (ap (λ (n : ℕ). node_in (with_reference m.mirror (Ref r) (record { node = s.unused; marked = false })) n) same ∙ d.register)
    by_fresh gen q false set leaves fresh = subst (λ (n : ℕ). Own t (drawn t s d.zeroing.kind (cradle_of x.entry k) g) c n) (sym (leaves set)) (own_still (node_in m.mirror q) (fresh_got t s c x m r k (g + 1) q d.zeroing) (d.zeroing.gets.fresh gen q (sym (rw set refl) ∙ fresh)))
