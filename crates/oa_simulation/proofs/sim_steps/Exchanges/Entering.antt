-- An exchange of the list that succeeds.
use Rattle.std.proofs.Common.{ℕ, ◌≡◌, ◌≢◌, ◌==◌, ◌+◌, ◌≤◌, ◌⊎◌, ◌∙◌, Bool, true, false, List, length, Some, arith, inl, inr, ⊎_elim, sym, ap, subst, refl, if◌then◌else◌}
use Rattle.std.specs.Prelude.{slice_get, slice_index, nat_lt}
use Rattle.std.proofs.lemmas.Bool.Decides.{nat_tests, eqb_tells}
use Rattle.norm_lang.specs.declared.text.CasEntry.{CasEntry}
use Rattle.norm_lang.specs.Registers.{node_in}
use Rattle.oa_words.specs.Words.{Word, Warning, Hazard}
use Rattle.source_machine.specs.declared.event.SourceEvent.TheVariants as events
use Rattle.source_machine.specs.declared.state.Value.{Value}
use Rattle.source_machine.specs.declared.state.NamedNode.{NamedNode}
use Rattle.source_machine.specs.Step.{caller_turn}
use Rattle.source_machine.specs.Run.{is_enabled_for}
use Rattle.source_machine.specs.Memory.{exchange}
use Rattle.source_machine.specs.MethodRuns.{put, run_begun, run_after}
use Rattle.source_machine.specs.Proper.{has}
use Rattle.source_machine.proofs.Places.{put_other}
use Rattle.caller_parts.specs.declared.routine.Routine.{Routine}
use Rattle.caller_steps.specs.Entries.{one_more, instr_in}
use Rattle.caller_parts.specs.Operands.{list_of}
use Rattle.run_ahead.specs.Standing.{wrap_up_after, stands_in_list}
use Rattle.run_ahead.specs.MethodLaws.{Turns}
use Rattle.run_ahead.proofs.Lists.{lists_are_made}
use Rattle.target_code.specs.Erasing.{source_place}
use Rattle.target_laws.specs.Methods.{code_in}
use Rattle.oa_simulation.proofs.sim_relation.Playing.{PlaysEvent}
use Rattle.oa_simulation.specs.sim_relation.Views.{Plan, IsPlan, Owner, Null, Pool, Held, Living, Retiring, Dead, Shared, Caller, link, Resident}
use Rattle.oa_simulation.specs.sim_relation.Shared.{SharedHolds}
use Rattle.oa_simulation.specs.sim_relation.Callers.{CommitsShown, Base, Trail, Walks, Guards, AfterExchange, spot_of}
use Rattle.oa_simulation.specs.sim_relation.MayChange.{MayChange}
use Rattle.oa_simulation.specs.sim_relation.Steps.{moved, cradled}
use Rattle.oa_simulation.proofs.sim_relation.Names.{slot_by, own_private, shown_kept}
use Rattle.oa_simulation.proofs.sim_relation.Stable.{LeavesGuards, walks_left}
use Rattle.oa_simulation.proofs.sim_relation.Moving.{goes_same}
use Rattle.oa_simulation.proofs.sim_steps.Exchanges.Writing.{publish, published, fine_published, goes_published}

-- a name other than null is published
abbrev pub published_if : Plan → Shared → ℕ → Shared
published_if t s n = record s { public = if n == 0 then s.public else put s.public n true; owner = if n == 0 then s.owner else put s.owner (t.home n) (publish (s.owner (t.home n))) }

-- memory is written, in both machines
abbrev pub written : Shared → (Word → ℕ) → List NamedNode → List Value → Shared
written s memory nodes roots = record s { memory = memory; source = record s.source { nodes = nodes; roots = roots } }

pub record Writes (t : Plan) (c : ℕ) (s : Shared) (memory : Word → ℕ) (nodes : List NamedNode) (roots : List Value) : Type 0 where
  pub shared_holds : SharedHolds t (written s memory nodes roots)
  pub goes : MayChange t c s (written s memory nodes roots)
  pub links : (n g : ℕ) → (link (written s memory nodes roots) n g ≡ link s n g) ⊎ Resident t s (link (written s memory nodes roots) n g)
  pub hazard : (d r : ℕ) → memory (Hazard d r) ≡ s.memory (Hazard d r)
  pub warning : (d : ℕ) → memory (Warning d) ≡ s.memory (Warning d)

-- published, resident and not retired: its slot is that of a living name
pub living : (t : Plan) (s : Shared) (n : ℕ) → SharedHolds t s → Resident t s n → n ≢ 0 → s.public n ≡ true → has n s.source.retired ≡ false → s.owner (t.home n) ≡ Living
living t s n f here some public live = of (s.owner (t.home n)) refl where
  named : s.present (t.home n) ≡ n
  named = here

  of : (o : Owner) → s.owner (t.home n) ≡ o → s.owner (t.home n) ≡ Living
  of Null is = absurd (some (sym here ∙ (slot_by s (t.home n) Null is (f.slot (t.home n))).1))
  of Pool is = absurd (some (sym here ∙ (slot_by s (t.home n) Pool is (f.slot (t.home n))).1))
  of (Held d k) is = absurd (let z : true ≡ false = sym public ∙ own_private t s d k n f is here in cc)
  of Living is = is
  of (Retiring d) is = absurd (let z : false ≡ true = sym live ∙ (sym (ap (λ (i : ℕ). has i s.source.retired) here) ∙ (slot_by s (t.home n) (Retiring d) is (f.slot (t.home n))).2) in cc)
  of Dead is = absurd (let slot = slot_by s (t.home n) Dead is (f.slot (t.home n)) in let z : false ≡ true = sym live ∙ f.tagged n slot.0 (ap s.tag (sym here) ∙ slot.2) in cc)

pub publishes : (t : Plan) (s : Shared) (c n : ℕ) → SharedHolds t s → (n ≡ 0) ⊎ (Resident t s n × ((s.public n ≡ true) ⊎ ((i : ℕ) × (s.owner (t.home n) ≡ Held c i))))
    → SharedHolds t (published_if t s n) × MayChange t c s (published_if t s n)
publishes t s c n f new = of (n == 0) refl where
  some_of : n ≢ 0 → (n ≡ 0) ⊎ (Resident t s n × ((s.public n ≡ true) ⊎ ((i : ℕ) × (s.owner (t.home n) ≡ Held c i)))) → SharedHolds t (published t s n) × MayChange t c s (published t s n)
  some_of some (inl z) = absurd (some z)
  some_of some (inr k) = (fine_published t s n f some k.0, goes_published t c s n f k.0 k.1)

  of : (b : Bool) → (n == 0) ≡ b
      → SharedHolds t (record s { public = if b then s.public else put s.public n true; owner = if b then s.owner else put s.owner (t.home n) (publish (s.owner (t.home n))) })
      × MayChange t c s (record s { public = if b then s.public else put s.public n true; owner = if b then s.owner else put s.owner (t.home n) (publish (s.owner (t.home n))) })
  of true is = (f, goes_same t s c)
  of false is = some_of (let ne : n ≢ 0 = grind (arith, nat_tests) in ne) new

-- what is published is so still, and a slot of another name has the owner that it had
pub public_still : (t : Plan) (s : Shared) (n i : ℕ) → s.public i ≡ true → (published_if t s n).public i ≡ true
public_still t s n i is = of (n == 0) where
  of : (b : Bool) → (if b then s.public else put s.public n true) i ≡ true
  of true = is
  of false = ⊎_elim
      (λ (e : ((i == n) ≡ true) × (i ≡ n)). rw e.0 refl)
      (λ (e : ((i == n) ≡ false) × (i ≢ n)). rw e.0 is)
      (eqb_tells i n)

pub public_now : (t : Plan) (s : Shared) (n : ℕ) → n ≢ 0 → (published_if t s n).public n ≡ true
public_now t s n some = let a : (n == 0) ≡ false = grind (arith, nat_tests) in let b : (n == n) ≡ true = grind (arith, nat_tests) in rw (a, b) refl

pub owner_still : (t : Plan) (s : Shared) (n j : ℕ) → (n ≢ 0 → j ≢ t.home n) → (published_if t s n).owner j ≡ s.owner j
owner_still t s n j away = ⊎_elim
    (λ (e : ((n == 0) ≡ true) × (n ≡ 0)). rw e.0 refl)
    (λ (e : ((n == 0) ≡ false) × (n ≢ 0)). rw e.0 (put_other s.owner (t.home n) j (publish (s.owner (t.home n))) (away e.1)))
    (eqb_tells n 0)

-- what an exchange that publishes a name leaves of what the caller knows
pub record Passes (t : Plan) (c : ℕ) (s s' : Shared) (n : ℕ) : Type 0 where
  pub shared_holds : SharedHolds t s'
  pub goes : MayChange t c s s'
  pub left : LeavesGuards t c s s'
  pub hazard : (r : ℕ) → s'.memory (Hazard c r) ≡ s.memory (Hazard c r)
  -- a slot of another name stays in its cradle
  pub owns : (j k : ℕ) → (n ≢ 0 → j ≢ t.home n) → s.owner j ≡ Held c k → s'.owner j ≡ Held c k

-- the exchange of an entry that succeeds in both machines
pub record Enters (t : Plan) (s s' : Shared) (c : ℕ) (x : Caller) (m : Trail t) (k n : ℕ) (entry : CasEntry) (cradles : List ℕ) : Type 0 where
  pub plan : IsPlan t
  pub shared_holds : SharedHolds t s
  pub base : Base t s c x
  pub walks : Walks t s c x (spot_of x.entry.hand) m
  pub guards : Guards t x m
  pub generator : m.walk.method.wrapup ≡ false
  pub source : x.source ≡ stands_in_list (source_place (code_in m.walk.method) x.entry.hand.at) (list_of (instr_in t.target x.entry)) k m.mirror m.walk.call
  pub shown : CommitsShown t s m
  pub passes : Passes t c s s' n
  -- the cradles are emptied of n's slot
  pub cradle : (i : ℕ) → slice_index cradles i ≢ 0 → (slice_index cradles i ≡ slice_index x.entry.cradles i) × (n ≢ 0 → slice_index cradles i ≢ t.home n)
  -- the source's exchange
  pub entry_is : slice_get (list_of (instr_in t.target x.entry)) k ≡ Some entry
  pub after : exchange t.text.fields entry m.mirror s.source ≡ Some s'.source

-- the caller after it, at a routine
abbrev pub entered : Plan → ℕ → Shared → Shared → Caller → List ℕ → Routine → Caller
entered t c s s' x cradles routine = record (moved (cradled x cradles) (one_more x.entry.running.steps) x.entry.counts routine) {
  held = run_begun s'.source;
  source = (caller_turn t.text (events.Access c 0) s.source x.source).caller;
  watch = run_after t.text (events.Access c 0) s.source x.source x.watch;
}

-- the source makes it too, and stands before the next entry, or has begun the wrap-up
pub enters : (t : Plan) (s s' : Shared) (c : ℕ) (x : Caller) (m : Trail t) (k n : ℕ) (entry : CasEntry) (cradles : List ℕ) (routine : Routine) → Enters t s s' c x m k n entry cradles
    → let y = entered t c s s' x cradles routine in
    PlaysEvent t.text (events.Access c 0) s.source x.source x.watch s'.source y.source y.watch × Base t s' c y × AfterExchange t s' c y (k + 1) (nat_lt (k + 1) (length (list_of (instr_in t.target x.entry))))
enters t s s' c x m k n entry cradles routine w = (
  (ap (λ caller. is_enabled_for t.text (events.Access c 0) (Some caller) s.source) w.source ∙ list.enabled, (sym (ap (λ turn. turn.memory) turned), refl, refl)),
  base',
  behind (nat_lt (k + 1) (length (list_of (instr_in t.target x.entry)))) refl,
) where
  y : Caller
  y = entered t c s s' x cradles routine

  op : slice_get t.text.ops m.walk.call.number ≡ Some m.walk.method.op
  op = ap (λ (i : ℕ). slice_get t.text.ops i) w.walks.number ∙ m.walk.method.in_text

  list : Turns t.text (events.Access c 0) s.source (stands_in_list (source_place (code_in m.walk.method) x.entry.hand.at) (list_of (instr_in t.target x.entry)) k m.mirror m.walk.call)
      (record {
        memory = s'.source;
        caller = if nat_lt (k + 1) (length (list_of (instr_in t.target x.entry))) then stands_in_list (source_place (code_in m.walk.method) x.entry.hand.at) (list_of (instr_in t.target x.entry)) (k + 1) m.mirror m.walk.call
            else wrap_up_after m.walk.method.op (k + 1) m.mirror m.walk.call;
      })
  list = (lists_are_made t.text c m.walk.method.op (source_place (code_in m.walk.method) x.entry.hand.at) (list_of (instr_in t.target x.entry)) k m.mirror m.walk.call s.source op).succeeds entry
      s'.source w.entry_is w.after

  turned : caller_turn t.text (events.Access c 0) s.source x.source
      ≡ record {
        memory = s'.source;
        caller = if nat_lt (k + 1) (length (list_of (instr_in t.target x.entry))) then stands_in_list (source_place (code_in m.walk.method) x.entry.hand.at) (list_of (instr_in t.target x.entry)) (k + 1) m.mirror m.walk.call
            else wrap_up_after m.walk.method.op (k + 1) m.mirror m.walk.call;
      }
  turned = ap (λ caller. caller_turn t.text (events.Access c 0) s.source caller) w.source ∙ list.turns

  begun : run_begun s'.source ≡ run_after t.text (events.Access c 0) s.source x.source x.watch
  begun = sym (ap (λ caller. run_after t.text (events.Access c 0) s.source caller x.watch) w.source ∙ list.run x.watch)

  base' : Base t s' c (entered t c s s' x cradles routine)
  base' = record {
    number = w.base.number;
    old = λ i p is lt. w.passes.shared_holds.tagged i p is;
    protects = λ r. w.passes.left.protects r ∙ w.base.protects r;
    seen = subst (λ (i : ℕ). x.entry.hand.seen ≤ i) (sym w.passes.left.warning) w.base.seen;
    hazard = λ r. w.passes.hazard r ∙ w.base.hazard r;
    known = λ i got. absurd (let z : false ≡ true = got in cc);
    cradle = λ i full. let cr = w.cradle i full in rw cr.0 (w.passes.owns (slice_index x.entry.cradles i) i (λ some z. cr.1 some (cr.0 ∙ z)) (w.base.cradle i (λ z. full (cr.0 ∙ z))));
  }

  walks' : Walks t s' c (entered t c s s' x cradles routine) (spot_of x.entry.hand) m
  walks' =
      let k = walks_left t c s s' x (spot_of x.entry.hand) m w.shared_holds w.passes.left w.walks in
      record { call = k.call; wrapup = k.wrapup; was_set = k.was_set; first = k.first; number = k.number; start = k.start; generator = k.generator; kept = k.kept; shown = k.shown; ahead = k.ahead; sound = k.sound }

  behind : (b : Bool) → nat_lt (k + 1) (length (list_of (instr_in t.target x.entry))) ≡ b → AfterExchange t s' c (entered t c s s' x cradles routine) (k + 1) b
  behind true is = (m, walks', w.guards, w.generator, ap (λ turn. turn.caller) turned ∙ rw is refl, (λ r is. shown_kept s s' (node_in m.mirror r) w.passes.left.public (w.shown r is)))
  behind false is = (m, walks', w.guards, w.generator, ap (λ turn. turn.caller) turned ∙ rw is refl, begun, refl, (λ r is. shown_kept s s' (node_in m.mirror r) w.passes.left.public (w.shown r is)))
