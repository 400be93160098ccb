-- The stores of 0 of a `new`: with the first its cradle's slot loses its name, and with the last it gets the name that is drawn.
use Rattle.std.proofs.Common.{ℕ, ◌≡◌, ◌≢◌, ◌==◌, ◌+◌, ◌≤◌, ◌<◌, ◌∙◌, ◌⊎◌, Bool, true, false, List, [], ◌∷◌, length, Option, Some, None, arith, inl, inr, ⊎_elim, sym, ap, subst, refl, if◌then◌else◌}
use Rattle.std.specs.Prelude.{slice_get, IsTrue, nat_lt, unwrap_or}
use Rattle.std.proofs.lemmas.Bool.{cases_eq}
use Rattle.std.proofs.lemmas.Bool.Decides.{nat_tests, eqb_tells}
use Rattle.norm_lang.specs.declared.text.Instr.TheVariants as instr
use Rattle.norm_lang.specs.declared.text.Reg.{Reg}
use Rattle.norm_lang.specs.declared.text.Reg.TheVariants.{Ref}
use Rattle.norm_lang.specs.declared.registers.Reference.{Reference}
use Rattle.norm_lang.specs.declared.registers.Registers.{Registers}
use Rattle.norm_lang.specs.Flow.{passed}
use Rattle.norm_lang.specs.Freshness.{fresh_after}
use Rattle.norm_lang.specs.Local.{Spot}
use Rattle.norm_lang.specs.Registers.{with_reference, node_in}
use Rattle.norm_lang.specs.RegisterUse.{sets}
use Rattle.target_code.specs.declared.target.TargetInstr.{TargetInstr}
use Rattle.target_code.specs.declared.target.TargetInstr.TheVariants.{Plain}
use Rattle.target_code.specs.Paths.{target_goes_from}
use Rattle.target_code.specs.PathStates.{over_plain, is_fresh_along}
use Rattle.target_laws.specs.Methods.{code_in}
use Rattle.oa_words.specs.Words.{Word, Warning, FieldOf}
use Rattle.oa_words.specs.Memories.{store}
use Rattle.source_machine.specs.declared.event.SourceEvent.TheVariants as events
use Rattle.source_machine.specs.declared.state.Value.{Value}
use Rattle.source_machine.specs.Memory.{fields_named, blank_fields, value_at}
use Rattle.source_machine.specs.MethodRuns.{run_with, with_name, put, name_in}
use Rattle.source_machine.specs.Proper.{has}
use Rattle.source_machine.specs.Step.{caller_turn}
use Rattle.source_machine.proofs.Places.{put_same, put_other, fields_new, fields_new_other}
use Rattle.caller_parts.specs.Operands.{is_new_at, cradle_number, with_new}
use Rattle.norm_lang.specs.KindFields.{fields_of}
use Rattle.source_machine.specs.Run.{is_name}
use Rattle.caller_steps.specs.Entries.{one_more}
use Rattle.caller_steps.specs.Signs.{Draws as DrawsSign}
use Rattle.caller_parts.specs.declared.routine.Routine.TheVariants.{Zeroes}
use Rattle.caller_steps.specs.Entries.{instr_in, zero_count, cradle_of}
use Rattle.caller_steps.specs.Signs.{quiet, told}
use Rattle.caller_steps.specs.After.{counted, with_routine, goes_on, node_made, zeroed as core_zeroed}
use Rattle.caller_parts.specs.declared.setting.Reclamation.TheVariants.{Epochs}
use Rattle.run_ahead.specs.Agreeing.{Agree, Changes}
use Rattle.run_ahead.specs.Known.{IsGot, AreGot, is_set_in}
use Rattle.run_ahead.proofs.Changing.{reference_changes, put_stands}
use Rattle.run_ahead.proofs.Quiet.{goes_next}
use Rattle.run_ahead.proofs.TypedMemory.{new_typed}
use Rattle.oa_simulation.specs.sim_relation.Views.{Plan, Held, Null, Shared, Resident, link}
use Rattle.oa_simulation.specs.sim_relation.Callers.{Own, Shown, spot_of, Zeroed}
use Rattle.oa_simulation.specs.sim_relation.MayChange.{MayChange}
use Rattle.oa_simulation.specs.sim_relation.Shared.{SharedHolds}
use Rattle.oa_simulation.specs.sim_relation.Naming.{named_at, emptied_at}
use Rattle.oa_simulation.specs.sim_relation.Points.{IsProperPoint, done}
use Rattle.oa_simulation.proofs.sim_relation.Codes.{blank}
use Rattle.oa_simulation.proofs.sim_relation.Playing.{plays_first}
use Rattle.oa_simulation.proofs.sim_steps.Accesses.Loads.{has_with}
use Rattle.oa_simulation.proofs.sim_steps.Exchanges.Fresh.{zeroed, fine_zeroed, goes_zeroed, drawn, Draws, fine_drawn, goes_drawn, blank_value}
use Rattle.oa_simulation.proofs.sim_steps.Exchanges.Made.{new_is_first}
use Rattle.oa_simulation.proofs.sim_steps.Walks.Along.{made_before}
use Rattle.epoch_relation.specs.Reckoned.{reckoned_words, reckoned, EpochHolds}
use Rattle.epoch_relation.specs.Callers.{Caller, Base, IsSafe, IsAnnounced, Changes as SharedChanges}
use Rattle.epoch_relation.specs.Walking.{IsPlan, Trail, Walks, Gets, Pairs, StandsAt}
use Rattle.epoch_relation.specs.Keeping.{point_at, KeptWith, Ends, Comes}
use Rattle.oa_simulation.proofs.sim_steps.Pools.Phases.{with_words}
use Rattle.run_ahead.proofs.Getting.{plain_got, given_got, more_got}
use Rattle.run_ahead.proofs.Plain.{path_on}
use Rattle.epoch_relation.proofs.Local.{Standing, erased_of, safe_apart}
use Rattle.epoch_relation.proofs.Moving.{changed, base_changed, walks_changed}
use Rattle.epoch_relation.proofs.Settling.{settles_ends}
use Rattle.epoch_relation.proofs.Storing.{SameWords, holds_stored, goes_words, reckoned_field}
use Rattle.epoch_relation.proofs.Same.{placed, running_placed}
use Rattle.epoch_relation.proofs.Accessing.{Turned, turns, stands_marked, Owing, got_clear, link_public}
use Rattle.oa_simulation.proofs.sim_steps.Accesses.Newing.{twice_word, goes_new}
use Rattle.oa_simulation.proofs.sim_steps.Accesses.Zeroed.{none_before}
use Rattle.oa_simulation.proofs.sim_relation.Names.{shown_kept}

-- what is known while the fields of a cradle's slot are zeroed
pub record Zeroing (t : Plan) (s : Shared) (since : ℕ → ℕ) (c : ℕ) (x : Caller) (m : Trail t) (r kind k g : ℕ) : Type 0 where
  pub standing : Standing t s since c x
  pub walks : Walks t s c x (spot_of x.entry.hand) m
  pub gets : Gets t s c x m
  pub stands : StandsAt t x (spot_of x.entry.hand) m x.entry.hand.accessed
  pub held : cradle_of x.entry k ≢ 0
  pub zeros : Zeroed s (cradle_of x.entry k) g
  pub here : slice_get (code_in m.walk.method) x.entry.hand.at ≡ Some (Plain (instr.New (Ref r) kind))
  pub number : k ≡ cradle_number (code_in m.walk.method) x.entry.hand.at
  pub generator : m.walk.method.wrapup ≡ false

module _ (t : Plan) (s : Shared) (since : ℕ → ℕ) (c : ℕ) (x : Caller) (m : Trail t) (r kind k g : ℕ) (w : Zeroing t s since c x m r kind k g) where
  own_slot : s.owner (cradle_of x.entry k) ≡ Held c k
  own_slot = w.standing.base.cradle k w.held

  -- null, or a name that the run has got: its slot is another
  away : (n : ℕ) → IsGot x.watch.got n → Resident t s n → t.home n ≢ cradle_of x.entry k
  away n (inl z) here e = w.held (sym e ∙ (ap t.home z ∙ w.standing.plan.null))
  away n (inr got) here e = new_is_first m.walk.method m.path x.entry.hand.at (Ref r) kind k (erased_of t w.standing.plan) w.standing.plan.sane w.walks.path_is w.here w.number (w.gets.made n k got (ap s.owner e ∙ own_slot) here)

  got_here : (i : ℕ) → IsGot x.watch.got (node_in m.mirror i)
  got_here i = of (is_set i) where
    is_set : (i : ℕ) → (is_set_in m.walk.method m.path i ≡ true) ⊎ (is_set_in m.walk.method m.path i ≡ false)
    is_set i = of (is_set_in m.walk.method m.path i) refl where
      of : (b : Bool) → is_set_in m.walk.method m.path i ≡ b → (is_set_in m.walk.method m.path i ≡ true) ⊎ (is_set_in m.walk.method m.path i ≡ false)
      of true is = inl is
      of false is = inr is

    of : (is_set_in m.walk.method m.path i ≡ true) ⊎ (is_set_in m.walk.method m.path i ≡ false) → IsGot x.watch.got (node_in m.mirror i)
    of (inl set) = w.gets.got.set i set
    of (inr unset) = inl (w.gets.got.unset i unset ∙ blank m.walk w.walks.generator w.generator i)

  -- ---- a name of the slot that goes, or another that comes

  own_still : (s' : Shared) (v n : ℕ) → s'.owner ≡ s.owner → s'.present ≡ put s.present (cradle_of x.entry k) v → IsGot x.watch.got n → Own t s c n → Own t s' c n
  own_still s' v n owner present got own = (
    own.0,
    ap (λ (f : ℕ → _). f (t.home n)) owner ∙ own.1,
    ap (λ (f : ℕ → ℕ). f (t.home n)) present ∙ (put_other s.present (cradle_of x.entry k) (t.home n) v (away n got own.2) ∙ own.2),
  )

  safe_still : (s' : Shared) (v n : ℕ) → s'.owner ≡ s.owner → s'.public ≡ s.public → s'.present ≡ put s.present (cradle_of x.entry k) v → IsGot x.watch.got n → IsSafe t s c x n → IsSafe t s' c x n
  safe_still s' v n owner public present got (inl z) = inl z
  safe_still s' v n owner public present got (inr (inl own)) = inr (inl (own_still s' v n owner present got own))
  safe_still s' v n owner public present got (inr (inr p)) = inr (inr (ap (λ (f : ℕ → Bool). f n) public ∙ p.0, p.1))

  walks_still : (s' : Shared) (v : ℕ) → s'.owner ≡ s.owner → s'.public ≡ s.public → s'.present ≡ put s.present (cradle_of x.entry k) v → Walks t s' c x (spot_of x.entry.hand) m
  walks_still s' v owner public present = record {
    call = w.walks.call;
    wrapup = w.walks.wrapup;
    number = w.walks.number;
    generator = w.walks.generator;
    path_is = w.walks.path_is;
    sized = w.walks.sized;
    agree = w.walks.agree;
    safe = λ i. safe_still s' v (node_in m.mirror i) owner public present (got_here i) (w.walks.safe i);
    fresh = λ gen i is. own_still s' v (node_in m.mirror i) owner present (got_here i) (w.walks.fresh gen i is);
    shown = λ gen i is. shown_kept s s' (node_in m.mirror i) (λ n was. ap (λ (f : ℕ → Bool). f n) public ∙ was) (w.walks.shown gen i is);
  }

  -- a name that is resident now was so before, unless it is the one that came
  before : (v n : ℕ) → n ≢ v → put s.present (cradle_of x.entry k) v (t.home n) ≡ n → Resident t s n
  before v n ne is = ⊎_elim
      (λ (e : t.home n ≡ cradle_of x.entry k). absurd (ne (sym is ∙ (ap (put s.present (cradle_of x.entry k) v) e ∙ put_same s.present (cradle_of x.entry k) v))))
      (λ (other : t.home n ≢ cradle_of x.entry k). sym (put_other s.present (cradle_of x.entry k) (t.home n) v other) ∙ is)
      (cases_eq (t.home n) (cradle_of x.entry k))

-- ---- the zero

goes_still : (t : Plan) (s s' : Shared) (since : ℕ → ℕ) (c : ℕ) → MayChange t c (reckoned s since) (reckoned s' since) → ((d : ℕ) → s'.memory (Warning d) ≡ s.memory (Warning d)) → s'.source.retired ≡ s.source.retired → SharedChanges t c s since s' since
goes_still t s s' since c g warning retired = record { goes = g; warning = λ d ne. warning d; stays = λ d ne. refl; retired = λ n is. ap (λ (ns : List ℕ). has n ns) retired ∙ is }

fine_zero : (t : Plan) (s : Shared) (since : ℕ → ℕ) (c k j g : ℕ) → IsPlan t → EpochHolds t s since → s.owner j ≡ Held c k → EpochHolds t (zeroed s j g) since
fine_zero t s since c k j g plan f own = holds_stored t s (zeroed (reckoned s since) j g) since (store s.memory (FieldOf j g) 0) f (reckoned_field s.memory since j g 0) refl (λ d. refl) f.unguarded (fine_zeroed t (reckoned s since) c k j g plan.null f.holds own (λ i. f.unguarded c i))

base_still : (t : Plan) (s s' : Shared) (since : ℕ → ℕ) (c : ℕ) (x : Caller) → s'.owner ≡ s.owner → s'.tag ≡ s.tag → s'.source.retired ≡ s.source.retired → (IsAnnounced s' c → IsAnnounced s c) → Base t s since c x → Base t s' since c x
base_still t s s' since c x owner tag retired some b = record {
  number = b.number;
  old = λ a n p is lt. b.old (some a) n p (sym (ap (λ (f : ℕ → Option ℕ). f n) tag) ∙ is) lt;
  before = λ n is. ap (λ (ns : List ℕ). has n ns) retired ∙ b.before n is;
  cradle = λ i full. ap (λ (f : ℕ → _). f (cradle_of x.entry i)) owner ∙ b.cradle i full;
}

zero_at : (memory : Word → ℕ) (j g h : ℕ) → ((i : ℕ) → i < g → memory (FieldOf j i) ≡ 0) → h < g + 1 → store memory (FieldOf j g) 0 (FieldOf j h) ≡ 0
zero_at memory j g h zeros lt = of (eqb_tells h g) where
  of : (((h == g) ≡ true) × (h ≡ g)) ⊎ (((h == g) ≡ false) × (h ≢ g)) → store memory (FieldOf j g) 0 (FieldOf j h) ≡ 0
  of (inl e) = let one : (j == j) ≡ true = grind (arith, nat_tests) in rw (one, e.0) refl
  of (inr e) = let one : (j == j) ≡ true = grind (arith, nat_tests) in let ne = e.1 in rw (one, e.0) (zeros h (omega (arith, lt, ne)))

-- the store that isn't the last
pub zero_kept : (t : Plan) (c : ℕ) (s : Shared) (since : ℕ → ℕ) (x : Caller) (m : Trail t) (r kind k g : ℕ) → Zeroing t s since c x m r kind k g
    → KeptWith t c s since x (store s.memory (FieldOf (cradle_of x.entry k) g) 0) (quiet (with_routine (counted x.entry) (Zeroes k (g + 1)))) (put s.present (cradle_of x.entry k) 0)
zero_kept t c s since x m r kind k g w =
    let j = cradle_of x.entry k in
    let s' = zeroed s j g in
    let own : s.owner j ≡ Held c k = w.standing.base.cradle k w.held in
    let y = placed x (one_more x.entry.running.steps) x.entry.cradles x.entry.counts (Zeroes k (g + 1)) in
    let gets : Gets t s' c x m = record {
      got = w.gets.got;
      made = λ n i got own here. (⊎_elim
          (λ (z : n ≡ 0). absurd (let e : Null ≡ Held c i = sym w.standing.holds.holds.none_there ∙ (ap s.owner (sym (ap t.home z ∙ w.standing.plan.null)) ∙ own) in cc))
          (λ (some : n ≢ 0). w.gets.made n i got own (before t s since c x m r kind k g w 0 n some here))
          (cases_eq n 0));
      safe = λ n got. safe_still t s since c x m r kind k g w s' 0 n refl refl refl (inr got) (w.gets.safe n got);
      known = w.gets.known;
      older = w.gets.older;
    } in
    record {
      s' = s';
      since' = since;
      x' = y;
      memory = refl;
      present = refl;
      entry = refl;
      plays = done _;
      shared_holds = fine_zero t s since c k j g w.standing.plan w.standing.holds own;
      goes = goes_still t s s' since c (goes_words t c (reckoned s since) (zeroed (reckoned s since) j g) (reckoned_words (store s.memory (FieldOf j g) 0) since) (reckoned_field s.memory since j g 0) (goes_zeroed t (reckoned s since) c k j g own)) (λ d. refl) refl;
      caller_holds = record {
        base = base_changed t s' since c x y.entry x.source x.watch refl refl (base_still t s s' since c x refl refl refl (λ a. a) w.standing.base);
        spot = (
          w.held,
          ((λ some. put_same s.present j 0), (λ h lt. zero_at s.memory j g h w.zeros.1 lt)),
          running_placed t s' c x (one_more x.entry.running.steps) x.entry.cradles x.entry.counts (Zeroes k (g + 1)) (m, walks_still t s since c x m r kind k g w s' 0 refl refl refl, gets, w.stands, w.standing.announced),
        );
      };
    }

-- ---- the draw

pub record Drawing (t : Plan) (s : Shared) (since : ℕ → ℕ) (c : ℕ) (x : Caller) (m : Trail t) (r kind k g : ℕ) : Type 0 where
  pub zeroing : Zeroing t s since c x m r kind k g
  pub proper : IsProperPoint t.text (point_at s x)
  pub home : t.home s.unused ≡ cradle_of x.entry k
  -- it is the last field of the kind
  pub counted : length (blank_fields t.text kind) ≤ g + 1
  -- from the entry's Belongs and the limits: the register is there
  pub register : node_in (with_reference m.mirror (Ref r) (record { node = s.unused; marked = false })) r ≡ s.unused

module _ (t : Plan) (s : Shared) (since : ℕ → ℕ) (c : ℕ) (x : Caller) (m : Trail t) (r kind k g : ℕ) (d : Drawing t s since c x m r kind k g) where
  abbrev w : Zeroing t s since c x m r kind k g
  w = d.zeroing

  abbrev j : ℕ
  j = cradle_of x.entry k

  plan : IsPlan t
  plan = w.standing.plan

  f : EpochHolds t s since
  f = w.standing.holds

  own : s.owner (cradle_of x.entry k) ≡ Held c k
  own = w.standing.base.cradle k w.held

  abbrev q1 : Shared
  q1 = zeroed (reckoned s since) (cradle_of x.entry k) g

  abbrev memory' : Word → ℕ
  memory' = store s.memory (FieldOf (cradle_of x.entry k) g) 0

  abbrev s' : Shared
  s' = with_words (drawn t (zeroed s (cradle_of x.entry k) g) kind (cradle_of x.entry k) g) (store s.memory (FieldOf (cradle_of x.entry k) g) 0)

  same_words : SameWords (drawn t (zeroed (reckoned s since) (cradle_of x.entry k) g) kind (cradle_of x.entry k) g).memory (reckoned_words (store s.memory (FieldOf (cradle_of x.entry k) g) 0) since)
  same_words v = reckoned_field s.memory since (cradle_of x.entry k) g 0 v ∙ sym (twice_word (reckoned_words s.memory since) (cradle_of x.entry k) g v)

  fine1 : SharedHolds t (zeroed (reckoned s since) (cradle_of x.entry k) g)
  fine1 = fine_zeroed t (reckoned s since) c k j g plan.null f.holds own (λ i. f.unguarded c i)

  unknown : fields_named s.unused s.source.nodes ≡ None
  unknown = (f.holds.unused s.unused (omega arith)).2

  is_new : IsTrue (is_name true s.unused s.source.nodes)
  is_new = let some = f.holds.unused_some in let lt : nat_lt 0 s.unused ≡ true = grind (arith, nat_tests, some) in rw (lt, unknown) refl

  draws : Draws t (zeroed (reckoned s since) (cradle_of x.entry k) g) c k kind (cradle_of x.entry k) g
  draws = record {
    own = own;
    none = put_same s.present (cradle_of x.entry k) 0;
    home = d.home;
    zeros = λ i ne few. zero_at s.memory (cradle_of x.entry k) g i w.zeros.1 (let all = d.counted in omega (arith, few, all));
    typed = new_typed t.text s.unused 0 (Ref r) kind m.mirror s.source is_new f.holds.typed;
  }

  fine' : EpochHolds t (with_words (drawn t (zeroed s (cradle_of x.entry k) g) kind (cradle_of x.entry k) g) (store s.memory (FieldOf (cradle_of x.entry k) g) 0)) since
  fine' = holds_stored t s (drawn t (zeroed (reckoned s since) (cradle_of x.entry k) g) kind (cradle_of x.entry k) g) since (store s.memory (FieldOf (cradle_of x.entry k) g) 0) f same_words refl (λ d. refl) f.unguarded (fine_drawn t q1 c k kind j g plan.null fine1 draws)

  goes' : SharedChanges t c s since (with_words (drawn t (zeroed s (cradle_of x.entry k) g) kind (cradle_of x.entry k) g) (store s.memory (FieldOf (cradle_of x.entry k) g) 0)) since
  goes' = goes_still t s s' since c (goes_words t c (reckoned s since) (drawn t q1 kind j g) (reckoned_words (store s.memory (FieldOf (cradle_of x.entry k) g) 0) since) same_words
      (goes_new t (reckoned s since) c kind j g (goes_zeroed t (reckoned s since) c k j g own) (goes_drawn t q1 c k kind j g fine1 draws))) (λ d. refl) refl

  -- ---- the caller

  abbrev there : Reference
  there = record { node = cradle_of x.entry k; marked = false }

  abbrev named : Reference
  named = record { node = s.unused; marked = false }

  abbrev mirror' : Registers
  mirror' = with_reference m.mirror (Ref r) (record { node = s.unused; marked = false })

  abbrev next : Spot
  next = record { at = x.entry.hand.at + 1; registers = with_reference x.entry.hand.registers (Ref r) (record { node = cradle_of x.entry k; marked = false }) }

  abbrev m' : Trail t
  m' = record { walk = m.walk; path = x.entry.hand.at ∷ m.path; mirror = with_reference m.mirror (Ref r) (record { node = s.unused; marked = false }) }

  changes : Changes t.home (λ A. A) (Some (Ref r)) s.unused x.entry.hand.registers m.mirror (with_reference x.entry.hand.registers (Ref r) (record { node = cradle_of x.entry k; marked = false })) (with_reference m.mirror (Ref r) (record { node = s.unused; marked = false }))
  changes = reference_changes t.home (λ A. A) x.entry.hand.registers m.mirror r there named w.walks.sized (λ q same. put_stands t.home x.entry.hand.registers m.mirror r there named w.walks.sized plan.null (sym d.home, refl) q same)

  turn : Turned t s c s.unused x m (instr.New (Ref r) kind) (record { at = x.entry.hand.at + 1; registers = with_reference x.entry.hand.registers (Ref r) (record { node = cradle_of x.entry k; marked = false }) }) (with_reference m.mirror (Ref r) (record { node = s.unused; marked = false }))
  turn = turns t s c s.unused x m (instr.New (Ref r) kind) next mirror' plan w.walks w.stands w.here refl is_new refl

  -- the present names
  present_new : put (put s.present (cradle_of x.entry k) 0) (cradle_of x.entry k) s.unused ≡ put s.present (cradle_of x.entry k) s.unused
  present_new = λ i l. at l (eqb_tells l (cradle_of x.entry k)) i where
    at : (l : ℕ) → (((l == cradle_of x.entry k) ≡ true) × (l ≡ cradle_of x.entry k)) ⊎ (((l == cradle_of x.entry k) ≡ false) × (l ≢ cradle_of x.entry k)) → put (put s.present (cradle_of x.entry k) 0) (cradle_of x.entry k) s.unused l ≡ put s.present (cradle_of x.entry k) s.unused l
    at l (inl e) = rw e.0 refl
    at l (inr e) = rw e.0 refl

  own_new : (n : ℕ) → n ≡ s.unused → Own t (with_words (drawn t (zeroed s (cradle_of x.entry k) g) kind (cradle_of x.entry k) g) (store s.memory (FieldOf (cradle_of x.entry k) g) 0)) c n
  own_new n e = (k, ap s.owner (ap t.home e ∙ d.home) ∙ own, ap (put (put s.present (cradle_of x.entry k) 0) (cradle_of x.entry k) s.unused) (ap t.home e ∙ d.home) ∙ (put_same (put s.present (cradle_of x.entry k) 0) (cradle_of x.entry k) s.unused ∙ sym e))

  safe_old : (n : ℕ) → IsGot x.watch.got n → IsSafe t s c x n → IsSafe t (with_words (drawn t (zeroed s (cradle_of x.entry k) g) kind (cradle_of x.entry k) g) (store s.memory (FieldOf (cradle_of x.entry k) g) 0)) c x n
  safe_old n got safe = safe_still t s since c x m r kind k g w s' s.unused n refl refl present_new got safe

  owes : Owing t s since c x m
  owes = record { standing = w.standing; walks = w.walks; gets = w.gets; proper = d.proper; runs = turn.runs }

  safe_at : (i : ℕ) (b : Bool) → sets (Ref i) (instr.New (Ref r) kind) ≡ b → IsSafe t (with_words (drawn t (zeroed s (cradle_of x.entry k) g) kind (cradle_of x.entry k) g) (store s.memory (FieldOf (cradle_of x.entry k) g) 0)) c x (node_in (with_reference m.mirror (Ref r) (record { node = s.unused; marked = false })) i)
  safe_at i true set = ⊎_elim (λ (z : node_in mirror' i ≡ 0). inl z) (λ (e : node_in mirror' i ≡ s.unused). inr (inl (own_new (node_in mirror' i) e))) (changes.gives i set)
  safe_at i false unset = subst (λ (n : ℕ). IsSafe t s' c x n) (sym (changes.leaves i unset)) (safe_old (node_in m.mirror i) (got_here t s since c x m r kind k g w i) (w.walks.safe i))

  agree_at : (i : Reg) (b : Bool) → sets i (instr.New (Ref r) kind) ≡ b → Agree t.home (with_reference x.entry.hand.registers (Ref r) (record { node = cradle_of x.entry k; marked = false })) (with_reference m.mirror (Ref r) (record { node = s.unused; marked = false })) i
  agree_at i true set = changes.set i set
  agree_at i false unset = changes.kept i unset (w.walks.agree i)

  fresh_at : (i : ℕ) (b : Bool) → sets (Ref i) (instr.New (Ref r) kind) ≡ b → m.walk.method.wrapup ≡ false → (if sets (Ref i) (instr.New (Ref r) kind) then true else is_fresh_along (code_in m.walk.method) m.path (Ref i)) ≡ true
      → Own t (with_words (drawn t (zeroed s (cradle_of x.entry k) g) kind (cradle_of x.entry k) g) (store s.memory (FieldOf (cradle_of x.entry k) g) 0)) c (node_in (with_reference m.mirror (Ref r) (record { node = s.unused; marked = false })) i)
  fresh_at i true set gen fresh = let same : i ≡ r = (let e : (i == r) ≡ true = set in grind (arith, nat_tests)) in own_new _ (ap (λ (n : ℕ). node_in (with_reference m.mirror (Ref r) (record { node = s.unused; marked = false })) n) same ∙ d.register)
  fresh_at i false set gen fresh = subst (λ (n : ℕ). Own t s' c n) (sym (changes.leaves i set)) (own_still t s since c x m r kind k g w s' s.unused (node_in m.mirror i) refl present_new (got_here t s since c x m r kind k g w i) (w.walks.fresh gen i (sym (rw set refl) ∙ fresh)))

  shown_at : (i : ℕ) (b : Bool) → sets (Ref i) (instr.New (Ref r) kind) ≡ b → m.walk.method.wrapup ≡ false → (if sets (Ref i) (instr.New (Ref r) kind) then true else is_fresh_along (code_in m.walk.method) m.path (Ref i)) ≡ false
      → Shown s (node_in (with_reference m.mirror (Ref r) (record { node = s.unused; marked = false })) i)
  shown_at i true set gen shut = absurd (let never : true ≡ false = sym (rw set refl) ∙ shut in cc)
  shown_at i false set gen shut = subst (λ (n : ℕ). Shown s n) (sym (changes.leaves i set)) (w.walks.shown gen i (sym (rw set refl) ∙ shut))

  walks' : Walks t (with_words (drawn t (zeroed s (cradle_of x.entry k) g) kind (cradle_of x.entry k) g) (store s.memory (FieldOf (cradle_of x.entry k) g) 0)) c x
      (record { at = x.entry.hand.at + 1; registers = with_reference x.entry.hand.registers (Ref r) (record { node = cradle_of x.entry k; marked = false }) }) (record { walk = m.walk; path = x.entry.hand.at ∷ m.path; mirror = with_reference m.mirror (Ref r) (record { node = s.unused; marked = false }) })
  walks' = record {
    call = w.walks.call;
    wrapup = w.walks.wrapup;
    number = w.walks.number;
    generator = w.walks.generator;
    path_is = path_on m.walk.method (erased_of t plan) m.path x.entry.hand.at (x.entry.hand.at + 1) w.walks.path_is (subst (λ o. IsTrue (target_goes_from o x.entry.hand.at (x.entry.hand.at + 1))) (sym w.here) (goes_next x.entry.hand.at));
    sized = changes.sized;
    agree = λ i. agree_at i (sets i (instr.New (Ref r) kind)) refl;
    safe = λ i. safe_at i (sets (Ref i) (instr.New (Ref r) kind)) refl;
    fresh = λ gen i is. fresh_at i (sets (Ref i) (instr.New (Ref r) kind)) refl gen (subst (λ o. passed (over_plain (fresh_after (Ref i))) o (is_fresh_along (code_in m.walk.method) m.path (Ref i)) ≡ true) w.here is);
    shown = λ gen i is. shown_at i (sets (Ref i) (instr.New (Ref r) kind)) refl gen (subst (λ o. passed (over_plain (fresh_after (Ref i))) o (is_fresh_along (code_in m.walk.method) m.path (Ref i)) ≡ false) w.here is);
  }

  abbrev y : Caller
  y = changed x (counted x.entry) (caller_turn t.text (events.Access c s.unused) s.source x.source).caller (run_with s.unused x.watch)

  got' : AreGot m.walk.method (x.entry.hand.at ∷ m.path) m.walk.started mirror' (with_name s.unused x.watch.got)
  got' = plain_got m.walk.method t.home (λ A. A) m.path x.entry.hand.at (instr.New (Ref r) kind) s.unused x.entry.hand.registers m.mirror next.registers mirror' m.walk.started x.watch.got (with_name s.unused x.watch.got) w.here changes
      (λ i set. given_got s.unused x.watch.got) (λ i. more_got s.unused x.watch.got i) w.gets.got

  same_cradle : (i : ℕ) → Held c k ≡ Held c i → k ≡ i
  same_cradle i e = cc

  gets' : Gets t s' c y m'
  gets' = record {
    got = got';
    made = λ n i got held here. ⊎_elim
        (λ (e : n ≡ s.unused). (x.entry.hand.at, (let one : (x.entry.hand.at == x.entry.hand.at) ≡ true = grind (arith, nat_tests) in rw one refl), ap is_new_at w.here, sym w.number ∙ same_cradle i (sym own ∙ (ap s.owner (sym (ap t.home e ∙ d.home)) ∙ held))))
        (λ (ne : n ≢ s.unused). ⊎_elim
        (λ (e : n ≡ s.unused). absurd (ne e))
        (λ (old : has n x.watch.got ≡ true). made_before (code_in m.walk.method) x.entry.hand.at m.path i (w.gets.made n i old held (before t s since c x m r kind k g w s.unused n ne (ap (λ (p : ℕ → ℕ). p (t.home n)) (sym present_new) ∙ here))))
        (has_with n s.unused x.watch.got got))
        (cases_eq n s.unused);
    safe = λ n got. ⊎_elim (λ (e : n ≡ s.unused). inr (inl (own_new n e))) (λ (old : has n x.watch.got ≡ true). safe_old n (inr old) (w.gets.safe n old)) (has_with n s.unused x.watch.got got);
    known = λ wrap. absurd (let z : true ≡ false = sym wrap ∙ w.generator in cc);
    older = w.gets.older;
  }

  base' : Base t s' since c x
  base' = base_still t s s' since c x refl refl refl (λ a. a) w.standing.base

  st' : Standing t s' since c x
  st' = record { plan = plan; holds = fine'; base = base'; below = w.standing.below; announced = w.standing.announced }

  -- what is linked is null or was retired after the announcement or not at all, as before; and the new node links nothing
  link_old : (n i : ℕ) → n ≢ s.unused → link s' n i ≡ link s n i
  link_old n i ne = ap (λ (o : Option (List Value)). name_in (value_at (unwrap_or o []) i)) (fields_new_other s.unused kind n (blank_fields t.text kind) s.source.nodes ne)

  link_new : (i : ℕ) → link s' s.unused i ≡ 0
  link_new i = ap (λ (o : Option (List Value)). name_in (value_at (unwrap_or o []) i)) (fields_new s.unused kind (blank_fields t.text kind) s.source.nodes) ∙ (blank_value t (fields_of kind t.text.fields) i plan.null).1

  public_safe : (n : ℕ) → (n ≡ 0) ⊎ ((s.public n ≡ true) × (has n x.old ≡ false)) → IsSafe t s' c x n
  public_safe n (inl z) = inl z
  public_safe n (inr p) = inr (inr p)

  link_at : (n i : ℕ) → (n ≡ s.unused) ⊎ (n ≢ s.unused) → IsGot x.watch.got n ⊎ (n ≡ s.unused) → IsSafe t s' c x (link s' n i)
  link_at n i (inl e) got = inl (ap (λ (a : ℕ). link s' a i) e ∙ link_new i)
  link_at n i (inr ne) (inr e) = absurd (ne e)
  link_at n i (inr ne) (inl got) = subst (λ (a : ℕ). IsSafe t s' c x a) (sym (link_old n i ne)) (public_safe (link s n i) (link_public t s since c x m owes n i (got_clear t s since c x m owes n got)))

  register_at : (i : ℕ) (b : Bool) → sets (Ref i) (instr.New (Ref r) kind) ≡ b → IsGot x.watch.got (node_in mirror' i) ⊎ (node_in mirror' i ≡ s.unused)
  register_at i true set = ⊎_elim (λ (z : node_in mirror' i ≡ 0). inl (inl z)) (λ (e : node_in mirror' i ≡ s.unused). inr e) (changes.gives i set)
  register_at i false unset = inl (subst (λ (n : ℕ). IsGot x.watch.got n) (sym (changes.leaves i unset)) (got_here t s since c x m r kind k g w i))

  pairs' : Pairs t s' m'
  pairs' a e i = safe_apart t s' since c x (link s' (node_in mirror' a) i) (node_in mirror' e) st'
      (link_at (node_in mirror' a) i (cases_eq (node_in mirror' a) s.unused) (register_at a (sets (Ref a) (instr.New (Ref r) kind)) refl)) (walks'.safe e)

  comes' : Comes t s' since c y next m'
  comes' = record {
    plan = plan;
    holds = fine';
    base = base_changed t s' since c x y.entry y.source y.watch refl refl base';
    below = w.standing.below;
    announced = w.standing.announced;
    walks = walks_changed t s' c x next m' y.entry y.source y.watch refl refl walks';
    gets = gets';
    pairs = λ gen. pairs';
  }

  ended' : Ends t s' since c y (goes_on Epochs t.target t.setting.sizes next.registers (counted x.entry))
  ended' = settles_ends t s' since c y next m' comes' (turn.stands ∙ stands_marked m.walk.method.op m.walk.method.wrapup m.walk.started x.entry.hand.accessed m.walk.call _ (λ wrap. absurd (let z : true ≡ false = sym wrap ∙ w.generator in cc)))

  -- the last store, the draw, and the local code after it
  pub new_kept : instr_in t.target x.entry ≡ Some (Plain (instr.New (Ref r) kind))
      → KeptWith t c s since x (store s.memory (FieldOf (cradle_of x.entry k) g) 0) (node_made Epochs t.target t.setting.sizes (cradle_of x.entry k) (counted x.entry)) (put (put s.present (cradle_of x.entry k) 0) (cradle_of x.entry k) s.unused)
  new_kept is = subst (λ (o : Option TargetInstr). KeptWith t c s since x memory' (told (DrawsSign j ∷ []) (goes_on Epochs t.target t.setting.sizes (with_new o j x.entry.hand.registers) (counted x.entry))) s'.present) (sym is) (record {
    s' = s';
    since' = since;
    x' = ended'.x';
    memory = refl;
    present = refl;
    entry = ended'.entry;
    plays = plays_first t.text c (DrawsSign j) _ (point_at s x) (point_at s' y) (point_at s' ended'.x') (turn.enabled, (sym turn.memory, refl, sym turn.watch)) refl ended'.plays;
    shared_holds = fine';
    goes = goes';
    caller_holds = ended'.caller_holds;
  })

-- each store of a `new`
pub zero_step : (t : Plan) (c : ℕ) (s : Shared) (since : ℕ → ℕ) (x : Caller) (m : Trail t) (r kind k g : ℕ) → Zeroing t s since c x m r kind k g → instr_in t.target x.entry ≡ Some (Plain (instr.New (Ref r) kind)) → (nat_lt (g + 1) (zero_count t.target (instr_in t.target x.entry)) ≡ false → Drawing t s since c x m r kind k g)
    → KeptWith t c s since x (store s.memory (FieldOf (cradle_of x.entry k) g) 0) (core_zeroed Epochs t.target t.setting.sizes k g (counted x.entry)) (named_at (nat_lt (g + 1) (zero_count t.target (instr_in t.target x.entry))) (cradle_of x.entry k) s.unused (emptied_at g (cradle_of x.entry k) s.present))
zero_step t c s since x m r kind k g w is draws =
    subst (λ (present : ℕ → ℕ). KeptWith t c s since x (store s.memory (FieldOf (cradle_of x.entry k) g) 0) (core_zeroed Epochs t.target t.setting.sizes k g (counted x.entry)) (named_at (nat_lt (g + 1) (zero_count t.target (instr_in t.target x.entry))) (cradle_of x.entry k) s.unused present))
    (none_before s.present (cradle_of x.entry k) g w.zeros.0) (of (nat_lt (g + 1) (zero_count t.target (instr_in t.target x.entry))) refl)
  where
    of : (more : Bool) → nat_lt (g + 1) (zero_count t.target (instr_in t.target x.entry)) ≡ more
        → KeptWith t c s since x (store s.memory (FieldOf (cradle_of x.entry k) g) 0) (if more then quiet (with_routine (counted x.entry) (Zeroes k (g + 1))) else node_made Epochs t.target t.setting.sizes (cradle_of x.entry k) (counted x.entry)) (named_at more (cradle_of x.entry k) s.unused (put s.present (cradle_of x.entry k) 0))
    of true ends = zero_kept t c s since x m r kind k g w
    of false ends = new_kept t s since c x m r kind k g (draws ends) is
