-- A put: into a node of the caller's own, of a number or of what isn't its own.
use Rattle.std.proofs.Common.{ℕ, ◌≡◌, ◌≢◌, ◌+◌, ◌<◌, ◌∙◌, true, false, List, [], ◌∷◌, length, Option, Some, inl, sym, ap, subst, refl}
use Rattle.std.specs.Prelude.{slice_get, IsTrue, unwrap_or}
use Rattle.std.proofs.lemmas.Bool.{or_parts, or_left}
use Rattle.norm_lang.specs.declared.text.Reg.{Reg}
use Rattle.norm_lang.specs.declared.text.Reg.TheVariants.{Num, Ref}
use Rattle.norm_lang.specs.declared.text.FieldDecl.{FieldDecl}
use Rattle.norm_lang.specs.declared.text.Place.TheVariants as places
use Rattle.norm_lang.specs.declared.text.Text.{Text}
use Rattle.norm_lang.specs.declared.text.Instr.{Instr}
use Rattle.norm_lang.specs.declared.text.Instr.TheVariants as instr
use Rattle.norm_lang.specs.InstructionRules.{holds_number, is_unlike, field_kind}
use Rattle.norm_lang.specs.Local.{Spot}
use Rattle.norm_lang.specs.RegisterUse.{reads}
use Rattle.norm_lang.specs.KindFields.{place_of}
use Rattle.norm_lang.specs.Kinds.{asks_object}
use Rattle.norm_lang.specs.Registers.{node_in}
use Rattle.target_code.specs.declared.target.TargetInstr.TheVariants.{Plain}
use Rattle.target_code.specs.Erasing.{source_place}
use Rattle.oa_words.specs.Words.{FieldOf}
use Rattle.oa_words.specs.Memories.{store}
use Rattle.source_machine.specs.declared.event.SourceEvent.TheVariants as events
use Rattle.source_machine.specs.declared.state.Value.{Value}
use Rattle.source_machine.specs.Memory.{value_in, fields_named}
use Rattle.source_machine.specs.MethodRuns.{name_in}
use Rattle.caller_steps.specs.Entries.{one_more}
use Rattle.caller_parts.specs.Operands.{word_in, slot_in}
use Rattle.caller_steps.specs.After.{counted, plain_accepted}
use Rattle.run_ahead.specs.Agreeing.{Agree}
use Rattle.target_laws.specs.Methods.{code_in}
use Rattle.target_laws.specs.Trusted.{Trusted, trust_along}
use Rattle.run_ahead.specs.Ahead.{erasing, AsTrusted}
use Rattle.target_code.specs.PathStates.{is_fresh_along}
use Rattle.run_ahead.specs.Standing.{run_from}
use Rattle.run_ahead.specs.Typed.{AreAsked}
use Rattle.run_ahead.proofs.Quiet.{goes_next}
use Rattle.run_ahead.proofs.Changing.{nothing_changes}
use Rattle.run_ahead.proofs.Plain.{trusted_at}
use Rattle.run_ahead.proofs.Getting.{plain_got}
use Rattle.run_ahead.proofs.Mirroring.{reads_first, reads_second}
use Rattle.run_ahead.proofs.Plain.{at_place, kind_right}
use Rattle.run_ahead.proofs.Telling.{told_trusted}
use Rattle.run_ahead.proofs.TypedMemory.{register_for, put_typed}
use Rattle.target_laws.proofs.FreshRules.{puts_go_to_fresh}
use Rattle.oa_simulation.specs.sim_relation.Views.{Plan, IsPlan, Null, Held, Shared, Caller, word_for, value_count, link, Resident, Apart}
use Rattle.oa_simulation.specs.sim_relation.Shared.{SharedHolds}
use Rattle.oa_simulation.specs.sim_relation.Callers.{Own, Shown, Calm, Base, Trail, Walks, Stands, Gets, Guards, Running, spot_of}
use Rattle.caller_steps.specs.Signs.{Accesses}
use Rattle.oa_simulation.specs.sim_relation.Points.{point}
use Rattle.oa_simulation.proofs.sim_relation.Playing.{PlaysEvent, plays_first}
use Rattle.oa_simulation.specs.sim_relation.Steps.{KeptSetting}
use Rattle.oa_simulation.specs.sim_relation.WasSet.{set_onward}
use Rattle.oa_simulation.proofs.sim_relation.Names.{own_private}
use Rattle.oa_simulation.proofs.sim_steps.Inside.{field_inside}
use Rattle.oa_simulation.proofs.sim_steps.Walks.Along.{null_apart, walks_along, guards_along, gets_along}
use Rattle.oa_simulation.proofs.sim_relation.Moving.{base_moved, running_moved}
use Rattle.oa_simulation.proofs.sim_steps.Exchanges.Exchanging.{word_agrees}
use Rattle.oa_simulation.proofs.sim_steps.Exchanges.Writing.{linked, Links, fine_linked, each_written}
use Rattle.oa_simulation.proofs.sim_steps.Exchanges.Fresh.{goes_put}
use Rattle.oa_simulation.proofs.sim_steps.Walks.Stopping.{settles_ends}
use Rattle.oa_simulation.proofs.sim_steps.Guards.Unguarding.{counted_caller}
use Rattle.oa_simulation.proofs.sim_steps.Walks.Accessing.{Makes, turns, turned, took, walks_turned, stands_took}
use Rattle.caller_parts.specs.declared.setting.Reclamation.TheVariants.{Optimistic}

-- ---- a field of a node that is there

pub field_there : (t : Plan) (s : Shared) (o g : ℕ) → SharedHolds t s → Resident t s o → o ≢ 0 → g < value_count s.source o → (values : List Value) × (fields_named o s.source.nodes ≡ Some values) × (g < length values)
field_there t s o g fine here some inside =
    let node = fine.store.node (t.home o) (λ z. some (sym here ∙ z)) in
    let fields : fields_named o s.source.nodes ≡ Some node.0 = ap (λ (n : ℕ). fields_named n s.source.nodes) (sym here) ∙ node.1 in
    (node.0, fields, subst (λ (x : Option (List Value)). g < length (unwrap_or x [])) fields inside)

-- ---- what a put stands on

-- an access that reads registers
pub record Reads (t : Plan) (s : Shared) (c : ℕ) (x : Caller) (m : Trail t) (i : Instr) : Type 0 where
  pub plan : IsPlan t
  pub shared_holds : SharedHolds t s
  pub base : Base t s c x
  pub walks : Walks t s c x (spot_of x.entry.hand) m
  pub gets : Gets t s c x m
  pub here : slice_get (code_in m.walk.method) x.entry.hand.at ≡ Some (Plain i)

pub read_trusted : (t : Plan) (s : Shared) (c : ℕ) (x : Caller) (m : Trail t) (i : Instr) (r : Reg) → Reads t s c x m i → IsTrue (reads r i) → trust_along m.walk.method m.path r ≡ Trusted
read_trusted t s c x m i r w is = trusted_at m.walk.method w.plan.compiled m.path x.entry.hand.at i r w.walks.ahead.path_is w.here is

pub read_same : (t : Plan) (s : Shared) (c : ℕ) (x : Caller) (m : Trail t) (i : Instr) (r : Reg) → Reads t s c x m i → IsTrue (reads r i) → Agree t.home x.entry.hand.registers m.mirror r
read_same t s c x m i r w is = told_trusted (Calm s c x) (trust_along m.walk.method m.path r) (Agree t.home x.entry.hand.registers m.mirror r) (read_trusted t s c x m i r w is) (w.walks.ahead.agree r)

pub object_is : (a : Reg) → holds_number a ≡ false → (r : ℕ) × (a ≡ Ref r)
object_is (Num r) is = absurd (let z : true ≡ false = is in cc)
object_is (Ref r) is = (r, refl)

-- what a register holds, as a value, is apart from what is guarded
value_apart : (t : Plan) (s : Shared) (c : ℕ) (x : Caller) (m : Trail t) (i : Instr) (b : Reg) (e : ℕ) → Reads t s c x m i → IsTrue (reads b i) → m.walk.method.wrapup ≡ false → s.protects c e ≢ 0
    → Apart t (name_in (value_in m.mirror b)) (s.protects c e)
value_apart t s c x m i (Num r) e w is gen some = null_apart t s c e 0 w.plan.null w.shared_holds some refl
value_apart t s c x m i (Ref r) e w is gen some = w.walks.sound.apart gen r e (read_trusted t s c x m i (Ref r) w is) some

value_shown : (t : Plan) (s : Shared) (c : ℕ) (x : Caller) (m : Trail t) (b : Reg) → Gets t s c x m → m.walk.method.wrapup ≡ false → is_fresh_along (code_in m.walk.method) m.path b ≡ false → Shown s (name_in (value_in m.mirror b))
value_shown t s c x m (Num r) g gen shut = inl refl
value_shown t s c x m (Ref r) g gen shut = g.shown gen r shut

pub walks_linked : (t : Plan) (s : Shared) (c : ℕ) (x : Caller) (core : Spot) (m : Trail t) (o f : ℕ) (v : Value) → Links t s o f v → ((e : ℕ) → s.protects c e ≢ 0 → Apart t (name_in v) (s.protects c e)) → Walks t s c x core m
    → Walks t (linked t s o f v) c x core m
walks_linked t s c x core m o f v w apart k = record {
  call = k.call;
  wrapup = k.wrapup;
  was_set = k.was_set;
  first = k.first;
  number = k.number;
  start = k.start;
  ahead = k.ahead;
  generator = k.generator;
  kept = k.kept;
  shown = k.shown;
  sound = record {
    word = k.sound.word;
    apart = k.sound.apart;
    pairs = λ a e g free some some'.
        each_written (λ n g' (value : Value). n ≡ s.protects c a → Apart t (name_in value) (s.protects c e)) s.source o f v w.values w.fields w.within (λ same. apart e some')
        (λ n g' ne same. subst (λ (j : ℕ). Apart t (link s j g') (s.protects c e)) (sym same) (k.sound.pairs a e g' free some some')) (s.protects c a) g refl;
  };
}

pub base_linked : (t : Plan) (s : Shared) (c : ℕ) (x : Caller) (o f : ℕ) (v : Value) → Base t s c x → Base t (linked t s o f v) c x
base_linked t s c x o f v b = record { number = b.number; seen = b.seen; old = b.old; hazard = b.hazard; protects = b.protects; known = b.known; cradle = b.cradle }

-- a put, to the next instruction: the source makes it too
pub put_takes : (t : Plan) (s : Shared) (c : ℕ) (x : Caller) (m : Trail t) (r f : ℕ) (b : Reg) → Reads t s c x m (instr.Put (Ref r) f b) → AreAsked t.text (instr.Put (Ref r) f b) s.source.nodes m.mirror → Stands t x m → Guards t x m
    → let v = value_in m.mirror b in
    let s' = linked t s (node_in m.mirror r) (place_of t.text.fields f) v in
    let next : Spot = record { at = x.entry.hand.at + 1; registers = x.entry.hand.registers } in
    let y = took t s c 0 x next x.entry.hand.accessed 0 x.was_set in
    PlaysEvent t.text (events.Access c 0) s.source x.source x.watch s'.source y.source y.watch
    × (s'.memory ≡ store s.memory (FieldOf (slot_in x.entry.hand.registers (Ref r)) (place_of t.target.fields f)) (word_in x.entry.hand.registers b))
    × SharedHolds t s' × Base t s' c y × ((k : ℕ) × (s.owner (t.home (node_in m.mirror r)) ≡ Held c k)) × Links t s (node_in m.mirror r) (place_of t.text.fields f) v × Running t s' c y next
put_takes t s c x m r f b w asked st guards =
    let i = instr.Put (Ref r) f b in
    let method = m.walk.method in
    let place = source_place (code_in method) in
    let at = x.entry.hand.at in
    let o : ℕ = node_in m.mirror r in
    let v = value_in m.mirror b in
    let s' = linked t s o (place_of t.text.fields f) v in
    let next : Spot = record { at = at + 1; registers = x.entry.hand.registers } in
    let same_fields : t.target.fields ≡ t.text.fields = ap (λ (text : Text). text.fields) w.plan.compiled.barred.erases in
    let rules = puts_go_to_fresh t.target t.text w.plan.compiled.normal w.plan.compiled.barred.erases method m.path at (Ref r) b f (record { leads = w.walks.ahead.path_is; stands = w.here }) in
    let own : Own t s c o = w.gets.fresh rules.0 r rules.1 in
    let some : o ≢ 0 = λ z. (let e : Null ≡ Held c own.0 = sym w.shared_holds.none_there ∙ (ap s.owner (sym (ap t.home z ∙ w.plan.null)) ∙ own.1) in cc) in
    let right = kind_right method (erasing w.plan.compiled) at i w.here in
    let kind = register_for (field_kind t.text.fields f) b (or_parts (holds_number (Ref r)) _ right).1 in
    let inside = field_inside t.text s.source m.mirror (Ref r) f kind.0 w.shared_holds.typed (λ q k is. asked q k (or_left (asks_object t.text.fields (places.Field (Ref r) f) q k) _ is)) kind.1 some in
    let there = field_there t s o (place_of t.text.fields f) w.shared_holds own.2 some inside in
    let links : Links t s o (place_of t.text.fields f) v = record { here = own.2; some = some; values = there.0; fields = there.1; within = there.2; known = value_shown t s c x m b w.gets rules.0 rules.2; typed = put_typed t.text 0 0 (Ref r) b f m.mirror s.source right asked w.shared_holds.typed } in
    let fine' : SharedHolds t s' = fine_linked t s o (place_of t.text.fields f) v w.shared_holds links in
    let slot : slot_in x.entry.hand.registers (Ref r) ≡ t.home o = (read_same t s c x m i (Ref r) w (reads_first (Ref r) _)).0 in
    let word : word_in x.entry.hand.registers b ≡ word_for t.home v = word_agrees t x.entry.hand.registers m.mirror b (read_same t s c x m i b w (reads_second (Ref r) b)) in
    let changes = nothing_changes t.home (AsTrusted (Calm s c x) Trusted) x.entry.hand.registers m.mirror w.walks.ahead.sized in
    let made : Makes t s c 0 x m i 0 next m.mirror = record {
      here = w.here;
      access = refl;
      named = refl;
      goes = goes_next at;
      changes = changes;
      known = λ trusted. inl refl;
      leads = ap (λ (k : ℕ). record { at = k; registers = m.mirror }) (sym (at_place method (erasing w.plan.compiled) at (Plain i) w.here).1);
    } in
    let turn = turns t s c 0 x m i 0 next m.mirror (erasing w.plan.compiled) w.walks st made in
    let y = turned x (took t s c 0 x next x.entry.hand.accessed 0 x.was_set).source (took t s c 0 x next x.entry.hand.accessed 0 x.was_set).watch in
    let there' : Spot = run_from method.op method.wrapup (record { at = place next.at; registers = m.mirror }) in
    let got = plain_got method t.home (AsTrusted (Calm s c x) Trusted) m.path at i 0 x.entry.hand.registers m.mirror next.registers m.mirror m.walk.started x.held.got x.held.got w.here changes (λ k set. inl refl) (λ k is. is) w.gets.got in
    let walks' = walks_turned t s' c x (spot_of x.entry.hand) m y.source y.watch (walks_linked t s c x (spot_of x.entry.hand) m o (place_of t.text.fields f) v links (λ e. value_apart t s c x m i b e w (reads_second (Ref r) b) rules.0) w.walks) in
    let base' = base_linked t s c x o (place_of t.text.fields f) v w.base in (
      (turn.enabled, (sym turn.memory, refl, sym turn.watch)),
      ap (λ (j : ℕ). store s.memory (FieldOf j (place_of t.text.fields f)) (word_for t.home v)) (sym slot) ∙ (ap (λ (z : ℕ). store s.memory (FieldOf (slot_in x.entry.hand.registers (Ref r)) (place_of t.text.fields f)) z) (sym word)
          ∙ ap (λ (fields : List FieldDecl). store s.memory (FieldOf (slot_in x.entry.hand.registers (Ref r)) (place_of fields f)) (word_in x.entry.hand.registers b)) (sym same_fields)),
      fine',
      record { number = base'.number; seen = base'.seen; old = base'.old; hazard = base'.hazard; protects = base'.protects; known = base'.known; cradle = base'.cradle },
      (own.0, own.1),
      links,
      (
        record { walk = m.walk; path = at ∷ m.path; mirror = m.mirror; there = there' },
        walks_along t s' c y (spot_of x.entry.hand) next m i 0 (AsTrusted (Calm s c x) Trusted) m.mirror there' x.entry.hand.accessed x.held w.plan.null fine' w.here changes (λ trusted. inl refl) turn.ahead walks',
        stands_took t s c 0 x m i next m.mirror x.entry.hand.accessed 0 (λ wrap. absurd (let z : true ≡ false = sym wrap ∙ rules.0 in cc)) turn,
        gets_along t s' c y (spot_of x.entry.hand) next m i 0 (AsTrusted (Calm s c x) Trusted) m.mirror there' x.entry.hand.accessed x.held w.here refl changes got (λ k is. is) (λ k j is a z. is) (λ gen k set. inl refl)
            (record { got = w.gets.got; named = w.gets.named; fresh = w.gets.fresh; shown = w.gets.shown; made = w.gets.made }),
        guards_along t s' c y (spot_of x.entry.hand) next m i 0 (AsTrusted (Calm s c x) Trusted) m.mirror there' x.entry.hand.accessed x.held w.here refl changes guards,
      ),
    )

-- a put, and the local code after it
pub put_kept : (t : Plan) (c : ℕ) (s : Shared) (x : Caller) (a : Reg) (f : ℕ) (b : Reg) → IsPlan t → SharedHolds t s → Base t s c x → (walk : Running t s c x (spot_of x.entry.hand))
    → slice_get (code_in walk.0.walk.method) x.entry.hand.at ≡ Some (Plain (instr.Put a f b)) → AreAsked t.text (instr.Put a f b) s.source.nodes walk.0.mirror
    → KeptSetting t c s x (set_onward t.target x.entry x.was_set x.entry.hand.registers) (store s.memory (FieldOf (slot_in x.entry.hand.registers a) (place_of t.target.fields f)) (word_in x.entry.hand.registers b)) (plain_accepted Optimistic t.target t.setting.sizes (instr.Put a f b) (s.memory (FieldOf (slot_in x.entry.hand.registers a) (place_of t.target.fields f))) (counted x.entry))
put_kept t c s x (Num r) f b plan fine base walk here asked = absurd (let z : true ≡ false = (or_parts true (is_unlike (field_kind t.text.fields f) b) (kind_right walk.0.walk.method (erasing plan.compiled) x.entry.hand.at (instr.Put (Num r) f b) here)).0 in cc)
put_kept t c s x (Ref r) f b plan fine base walk here asked =
    let y = counted_caller x in
    let moves = running_moved t s c x (spot_of x.entry.hand) (one_more x.entry.running.steps) x.entry.counts x.entry.routine walk in
    let w : Reads t s c y walk.0 (instr.Put (Ref r) f b) = record { plan = plan; shared_holds = fine; base = base_moved t s c x (one_more x.entry.running.steps) x.entry.counts x.entry.routine base; walks = moves.1; gets = moves.3; here = here } in
    let taken = put_takes t s c y walk.0 r f b w asked moves.2 moves.4 in
    let next : Spot = record { at = x.entry.hand.at + 1; registers = x.entry.hand.registers } in
    let z = took t s c 0 y next x.entry.hand.accessed 0 x.was_set in
    let s' = linked t s (node_in walk.0.mirror r) (place_of t.text.fields f) (value_in walk.0.mirror b) in
    let ended = settles_ends t s' c (turned y z.source z.watch) next plan taken.2 taken.3 taken.6 in
    record {
      s' = s';
      x' = ended.x';
      memory = taken.1;
      present = refl;
      entry = ended.entry;
      names = ended.names;
      was_set = ended.was_set;
      plays = plays_first t.text c Accesses _ (point s x) (point s' z) (point s' ended.x') taken.0 refl ended.plays;
      shared_holds = taken.2;
      goes = goes_put t c taken.4.0 s (node_in walk.0.mirror r) (place_of t.text.fields f) (value_in walk.0.mirror b) taken.5 taken.4.1 (own_private t s c taken.4.0 (node_in walk.0.mirror r) fine taken.4.1 taken.5.here);
      retires = λ n is. inl is;
      caller_holds = ended.caller_holds;
    }
