-- A put: into a node of the caller's own, of a number or of what isn't its own.
use Rattle.std.proofs.Common.{ℕ, ◌≡◌, ◌≢◌, ◌+◌, ◌<◌, ◌∙◌, true, false, List, ◌∷◌, length, Some, None, inl, sym, ap, subst, refl}
use Rattle.std.specs.Prelude.{slice_get}
use Rattle.std.proofs.lemmas.Bool.{or_parts, or_left}
use Rattle.norm_lang.specs.declared.text.Instr.{Instr}
use Rattle.norm_lang.specs.declared.text.Instr.TheVariants as instr
use Rattle.norm_lang.specs.declared.text.Reg.{Reg}
use Rattle.norm_lang.specs.declared.text.Reg.TheVariants.{Num, Ref}
use Rattle.norm_lang.specs.declared.registers.Registers.{Registers}
use Rattle.norm_lang.specs.InstructionRules.{holds_number, field_kind, has_wrong_kind}
use Rattle.norm_lang.specs.declared.text.FieldKind.{FieldKind}
use Rattle.run_ahead.specs.Typed.{IsRegisterFor, AreAsked}
use Rattle.norm_lang.specs.declared.text.Place.TheVariants as places
use Rattle.norm_lang.specs.KindFields.{place_of}
use Rattle.norm_lang.specs.Kinds.{asks_object}
use Rattle.oa_simulation.proofs.sim_steps.Inside.{field_inside}
use Rattle.norm_lang.specs.Local.{Spot}
use Rattle.norm_lang.specs.RegisterUse.{destination}
use Rattle.norm_lang.specs.Registers.{node_in}
use Rattle.target_code.specs.declared.target.TargetInstr.TheVariants.{Plain}
use Rattle.target_laws.specs.Methods.{code_in}
use Rattle.target_laws.proofs.FreshRules.{puts_go_to_fresh}
use Rattle.target_code.specs.PathStates.{is_fresh_along}
use Rattle.oa_words.specs.Words.{FieldOf}
use Rattle.oa_words.specs.Memories.{store}
use Rattle.source_machine.specs.declared.event.SourceEvent.TheVariants as events
use Rattle.source_machine.specs.declared.state.Value.{Value}
use Rattle.source_machine.specs.Memory.{value_in, fields_named}
use Rattle.source_machine.specs.Step.{caller_turn}
use Rattle.source_machine.specs.MethodRuns.{name_in}
use Rattle.caller_parts.specs.Operands.{word_in, slot_in}
use Rattle.caller_steps.specs.Signs.{Accesses}
use Rattle.caller_steps.specs.Entries.{Entry}
use Rattle.caller_steps.specs.After.{counted, goes_on, plain_accepted}
use Rattle.caller_parts.specs.declared.setting.Reclamation.TheVariants.{Epochs}
use Rattle.run_ahead.specs.Agreeing.{Changes}
use Rattle.run_ahead.proofs.Changing.{nothing_changes}
use Rattle.run_ahead.proofs.Quiet.{goes_next}
use Rattle.run_ahead.proofs.TypedMemory.{register_for, put_typed}
use Rattle.oa_simulation.specs.sim_relation.Views.{Plan, Held, Null, Shared, Apart, link, word_for}
use Rattle.oa_simulation.specs.sim_relation.Points.{IsProperPoint}
use Rattle.oa_simulation.proofs.sim_relation.Names.{KeepsNames, own_private}
use Rattle.oa_simulation.proofs.sim_relation.Playing.{plays_first}
use Rattle.oa_simulation.proofs.sim_steps.Accesses.Puts.{field_there}
use Rattle.oa_simulation.proofs.sim_steps.Exchanges.Exchanging.{word_agrees}
use Rattle.oa_simulation.proofs.sim_steps.Exchanges.Writing.{linked, Links, fine_linked, each_written}
use Rattle.oa_simulation.proofs.sim_steps.Exchanges.Fresh.{goes_put}
use Rattle.oa_simulation.proofs.sim_steps.Walks.Along.{made_before}
use Rattle.oa_simulation.specs.sim_relation.Callers.{Own, Shown, spot_of}
use Rattle.epoch_relation.specs.Reckoned.{reckoned_words, reckoned, EpochHolds}
use Rattle.epoch_relation.specs.Callers.{Caller, Base, IsSafe, Changes as SharedChanges}
use Rattle.epoch_relation.specs.Walking.{IsPlan, Trail, Walks, Gets, Running}
use Rattle.epoch_relation.specs.Keeping.{point_at, KeptWith, Ends, Comes}
use Rattle.run_ahead.proofs.Getting.{plain_got}
use Rattle.run_ahead.proofs.Plain.{kind_right}
use Rattle.epoch_relation.proofs.Local.{Standing, walks_on, erased_of, safe_apart}
use Rattle.epoch_relation.proofs.Moving.{changed, base_changed, walks_changed, gets_changed}
use Rattle.epoch_relation.proofs.Settling.{settles_ends}
use Rattle.epoch_relation.proofs.Storing.{holds_stored, goes_words, reckoned_field}
use Rattle.epoch_relation.proofs.Same.{walks_kept, gets_kept}
use Rattle.epoch_relation.proofs.Accessing.{Turned, turns, asked_at, stands_marked, Owing, got_clear, register_got, link_safe}

value_shown : (t : Plan) (s : Shared) (c : ℕ) (x : Caller) (core : Spot) (m : Trail t) (b : Reg) → Walks t s c x core m → m.walk.method.wrapup ≡ false → is_fresh_along (code_in m.walk.method) m.path b ≡ false → Shown s (name_in (value_in m.mirror b))
value_shown t s c x core m (Num r) g gen shut = inl refl
value_shown t s c x core m (Ref r) g gen shut = g.shown gen r shut

pub value_safe : (t : Plan) (s : Shared) (c : ℕ) (x : Caller) (core : Spot) (m : Trail t) (b : Reg) → Walks t s c x core m → IsSafe t s c x (name_in (value_in m.mirror b))
value_safe t s c x core m (Num r) w = inl refl
value_safe t s c x core m (Ref r) w = w.safe r

-- what the run has got stays, past an instruction that sets no reference
pub gets_past : (t : Plan) (s : Shared) (c : ℕ) (x : Caller) (m : Trail t) (at : ℕ) (i : Instr) (core : Registers) → slice_get (code_in m.walk.method) at ≡ Some (Plain i) → Changes t.home (λ A. A) (destination i) 0 core m.mirror core m.mirror → Gets t s c x m
    → Gets t s c x (record { walk = m.walk; path = at ∷ m.path; mirror = m.mirror })
gets_past t s c x m at i core is changes g = record {
  got = plain_got m.walk.method t.home (λ A. A) m.path at i 0 core m.mirror core m.mirror m.walk.started x.watch.got x.watch.got is changes (λ r set. inl refl) (λ n got. got) g.got;
  made = λ n k has_n held here. made_before (code_in m.walk.method) at m.path k (g.made n k has_n held here);
  safe = g.safe;
  known = g.known;
  older = g.older;
}

pub put_kept : (t : Plan) (c : ℕ) (s : Shared) (since : ℕ → ℕ) (x : Caller) (r f : ℕ) (b : Reg) → IsPlan t → EpochHolds t s since → Base t s since c x → c < t.setting.sizes.callers → (w : Running t s c x) → IsProperPoint t.text (point_at s x)
    → slice_get (code_in w.0.walk.method) x.entry.hand.at ≡ Some (Plain (instr.Put (Ref r) f b))
    → (word : ℕ) → KeptWith t c s since x (store s.memory (FieldOf (slot_in x.entry.hand.registers (Ref r)) (place_of t.text.fields f)) (word_in x.entry.hand.registers b)) (plain_accepted Epochs t.target t.setting.sizes (instr.Put (Ref r) f b) word (counted x.entry)) s.present
put_kept t c s since x r f b plan fine base below w proper is word = record {
  s' = linked t s (node_in w.0.mirror r) (place_of t.text.fields f) (value_in w.0.mirror b);
  since' = since;
  x' = ended.x';
  memory = ap (λ (j : ℕ). store s.memory (FieldOf j (place_of t.text.fields f)) (word_for t.home (value_in w.0.mirror b))) (sym (w.1.agree (Ref r)).0) ∙ ap (λ (v : ℕ). store s.memory (FieldOf (slot_in x.entry.hand.registers (Ref r)) (place_of t.text.fields f)) v) (sym (word_agrees t x.entry.hand.registers w.0.mirror b (w.1.agree b)));
  present = refl;
  entry = ended.entry;
  plays = plays_first t.text c Accesses _ (point_at s x) (point_at (linked t s (node_in w.0.mirror r) (place_of t.text.fields f) (value_in w.0.mirror b)) y) (point_at (linked t s (node_in w.0.mirror r) (place_of t.text.fields f) (value_in w.0.mirror b)) ended.x') (turn.enabled, (sym turn.memory, refl, sym turn.watch)) refl ended.plays;
  shared_holds = fine';
  goes = goes';
  caller_holds = ended.caller_holds;
} where
  i : Instr
  i = instr.Put (Ref r) f b

  o : ℕ
  o = node_in w.0.mirror r

  v : Value
  v = value_in w.0.mirror b

  q : Shared
  q = reckoned s since

  s' : Shared
  s' = linked t s (node_in w.0.mirror r) (place_of t.text.fields f) (value_in w.0.mirror b)

  st : Standing t s since c x
  st = record { plan = plan; holds = fine; base = base; below = below; announced = w.4 }

  rules : (w.0.walk.method.wrapup ≡ false) × (is_fresh_along (code_in w.0.walk.method) w.0.path (Ref r) ≡ true) × (is_fresh_along (code_in w.0.walk.method) w.0.path b ≡ false)
  rules = puts_go_to_fresh t.target t.text plan.normal plan.erases w.0.walk.method w.0.path x.entry.hand.at (Ref r) b f (record { leads = w.1.path_is; stands = is })

  own : Own t s c (node_in w.0.mirror r)
  own = w.1.fresh rules.0 r rules.1

  some : node_in w.0.mirror r ≢ 0
  some z = let e : Null ≡ Held c own.0 = sym fine.holds.none_there ∙ (ap s.owner (sym (ap t.home z ∙ plan.null)) ∙ own.1) in cc

  right : has_wrong_kind t.text.fields t.text.roots (instr.Put (Ref r) f b) ≡ false
  right = kind_right w.0.walk.method (erased_of t plan) x.entry.hand.at (instr.Put (Ref r) f b) is

  kind : (kind : FieldKind) × (field_kind t.text.fields f ≡ Some kind) × IsRegisterFor kind b
  kind = register_for (field_kind t.text.fields f) b (or_parts (holds_number (Ref r)) _ right).1

  asked : AreAsked t.text (instr.Put (Ref r) f b) s.source.nodes w.0.mirror
  asked = asked_at t s c x w.0 (instr.Put (Ref r) f b) plan w.1 w.3 is refl proper

  there : (values : List Value) × (fields_named (node_in w.0.mirror r) s.source.nodes ≡ Some values) × (place_of t.text.fields f < length values)
  there = field_there t q o (place_of t.text.fields f) fine.holds own.2 some
      (field_inside t.text s.source w.0.mirror (Ref r) f kind.0 fine.holds.typed (λ q k is. asked q k (or_left (asks_object t.text.fields (places.Field (Ref r) f) q k) _ is)) kind.1 some)

  links : Links t (reckoned s since) (node_in w.0.mirror r) (place_of t.text.fields f) (value_in w.0.mirror b)
  links = record { here = own.2; some = some; values = there.0; fields = there.1; within = there.2; known = value_shown t s c x (spot_of x.entry.hand) w.0 b w.1 rules.0 rules.2; typed = put_typed t.text 0 0 (Ref r) b f w.0.mirror s.source right asked fine.holds.typed }

  fine' : EpochHolds t (linked t s (node_in w.0.mirror r) (place_of t.text.fields f) (value_in w.0.mirror b)) since
  fine' = holds_stored t s (linked t (reckoned s since) (node_in w.0.mirror r) (place_of t.text.fields f) (value_in w.0.mirror b)) since (store s.memory (FieldOf (t.home o) (place_of t.text.fields f)) (word_for t.home v)) fine (reckoned_field s.memory since (t.home o) (place_of t.text.fields f) (word_for t.home v)) refl (λ d. refl) fine.unguarded (fine_linked t q o (place_of t.text.fields f) v fine.holds links)

  goes' : SharedChanges t c s since (linked t s (node_in w.0.mirror r) (place_of t.text.fields f) (value_in w.0.mirror b)) since
  goes' = record {
    goes = goes_words t c q (linked t q o (place_of t.text.fields f) v) (reckoned_words (store s.memory (FieldOf (t.home o) (place_of t.text.fields f)) (word_for t.home v)) since) (reckoned_field s.memory since (t.home o) (place_of t.text.fields f) (word_for t.home v)) (goes_put t c own.0 q o (place_of t.text.fields f) v links own.1 (own_private t q c own.0 o fine.holds own.1 own.2));
    warning = λ d ne. refl;
    stays = λ d ne. refl;
    retired = λ n is. is;
  }

  keeps : KeepsNames c s (linked t s (node_in w.0.mirror r) (place_of t.text.fields f) (value_in w.0.mirror b))
  keeps = record { held = λ j k is. (is, refl); public = λ n is. is }

  turn : Turned t s c 0 x w.0 (instr.Put (Ref r) f b) (record { at = x.entry.hand.at + 1; registers = x.entry.hand.registers }) w.0.mirror
  turn = turns t s c 0 x w.0 i (record { at = x.entry.hand.at + 1; registers = x.entry.hand.registers }) w.0.mirror plan w.1 w.3 is refl refl refl

  owes : Owing t s since c x w.0
  owes = record { standing = st; walks = w.1; gets = w.2; proper = proper; runs = turn.runs }

  next : Spot
  next = record { at = x.entry.hand.at + 1; registers = x.entry.hand.registers }

  m' : Trail t
  m' = record { walk = w.0.walk; path = x.entry.hand.at ∷ w.0.path; mirror = w.0.mirror }

  e : Entry
  e = counted x.entry

  y : Caller
  y = changed x (counted x.entry) (caller_turn t.text (events.Access c 0) s.source x.source).caller x.watch

  changes : Changes t.home (λ A. A) None 0 x.entry.hand.registers w.0.mirror x.entry.hand.registers w.0.mirror
  changes = nothing_changes t.home (λ A. A) x.entry.hand.registers w.0.mirror w.1.sized

  walks : Walks t s c x (record { at = x.entry.hand.at + 1; registers = x.entry.hand.registers }) (record { walk = w.0.walk; path = x.entry.hand.at ∷ w.0.path; mirror = w.0.mirror })
  walks = walks_on t s c x (spot_of x.entry.hand) next w.0 i 0 w.0.mirror plan is refl (goes_next x.entry.hand.at) changes (λ k set. inl refl) (λ gen k set. inl refl) w.1

  pairs : (a e g : ℕ) → Apart t (link (linked t s (node_in w.0.mirror r) (place_of t.text.fields f) (value_in w.0.mirror b)) (node_in w.0.mirror a) g) (node_in w.0.mirror e)
  pairs a e g = each_written (λ n g' (value : Value). n ≡ node_in w.0.mirror a → Apart t (name_in value) (node_in w.0.mirror e)) s.source o (place_of t.text.fields f) v links.values links.fields links.within
      (λ same. safe_apart t s since c x (name_in v) (node_in w.0.mirror e) st (value_safe t s c x (spot_of x.entry.hand) w.0 b w.1) (w.1.safe e))
      (λ n g' ne same. safe_apart t s since c x (link s n g') (node_in w.0.mirror e) st (subst (λ (j : ℕ). IsSafe t s c x (link s j g')) (sym same)
      (link_safe t s since c x w.0 owes (node_in w.0.mirror a) g' (got_clear t s since c x w.0 owes (node_in w.0.mirror a) (register_got t s since c x w.0 owes rules.0 a)))) (w.1.safe e))
      (node_in w.0.mirror a) g refl

  comes : Comes t (linked t s (node_in w.0.mirror r) (place_of t.text.fields f) (value_in w.0.mirror b)) since c (changed x (counted x.entry) (caller_turn t.text (events.Access c 0) s.source x.source).caller x.watch)
      (record { at = x.entry.hand.at + 1; registers = x.entry.hand.registers }) (record { walk = w.0.walk; path = x.entry.hand.at ∷ w.0.path; mirror = w.0.mirror })
  comes = record {
    plan = plan;
    holds = fine';
    base = base_changed t s' since c x e y.source x.watch refl refl (record { number = base.number; old = base.old; before = base.before; cradle = base.cradle });
    below = below;
    announced = w.4;
    walks = walks_changed t s' c x next m' e y.source x.watch refl refl (walks_kept t c s s' x keeps next m' walks);
    gets = gets_changed t s' c x m' e y.source (gets_kept t c s s' x keeps since m' plan.null fine' (gets_past t s c x w.0 x.entry.hand.at i x.entry.hand.registers is changes w.2));
    pairs = λ gen. pairs;
  }

  ended : Ends t (linked t s (node_in w.0.mirror r) (place_of t.text.fields f) (value_in w.0.mirror b)) since c (changed x (counted x.entry) (caller_turn t.text (events.Access c 0) s.source x.source).caller x.watch) (goes_on Epochs t.target t.setting.sizes x.entry.hand.registers (counted x.entry))
  ended = settles_ends t s' since c y next m' comes (turn.stands ∙ stands_marked w.0.walk.method.op w.0.walk.method.wrapup w.0.walk.started x.entry.hand.accessed w.0.walk.call _ (λ wrap. absurd (let z : true ≡ false = sym wrap ∙ rules.0 in cc)))
