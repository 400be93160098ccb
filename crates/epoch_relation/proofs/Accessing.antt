-- An access of the text in a method run: the source makes it too, and what a proper text owes at the point before it.
use Rattle.std.proofs.Common.{ℕ, ◌≡◌, ◌∙◌, ◌⊎◌, Bool, true, false, List, Some, inl, inr, sym, ap, subst, refl}
use Rattle.std.specs.Prelude.{slice_get, IsTrue}
use Rattle.norm_lang.specs.declared.text.Instr.{Instr}
use Rattle.norm_lang.specs.declared.text.Op.{Op}
use Rattle.norm_lang.specs.declared.registers.Reference.{Reference}
use Rattle.norm_lang.specs.declared.registers.Registers.{Registers}
use Rattle.norm_lang.specs.Grammar.{is_new}
use Rattle.norm_lang.specs.Kept.{code_of}
use Rattle.norm_lang.specs.Local.{Spot}
use Rattle.norm_lang.specs.Registers.{node_in}
use Rattle.target_laws.specs.local_laws.Settling.{is_access}
use Rattle.target_code.specs.declared.target.TargetInstr.TheVariants.{Plain}
use Rattle.target_laws.specs.Methods.{code_in}
use Rattle.source_machine.specs.declared.event.SourceEvent.TheVariants as events
use Rattle.source_machine.specs.declared.state.SourceCaller.{SourceCaller}
use Rattle.source_machine.specs.declared.state.Value.{Value}
use Rattle.source_machine.specs.declared.state.Value.TheVariants.{Number, Node}
use Rattle.source_machine.specs.Memory.{access_at, access_by, value_at}
use Rattle.source_machine.specs.MethodRuns.{run_with, name_got, run_after, name_in}
use Rattle.source_machine.specs.Proper.{has, field_of, Reaches, itself, onward, runs_method}
use Rattle.source_machine.specs.Run.{is_name, is_new_at, is_enabled_for}
use Rattle.source_machine.specs.Step.{is_access_at, Turn, caller_turn}
use Rattle.run_ahead.specs.Known.{IsGot, is_set_in}
use Rattle.run_ahead.specs.Standing.{Call, stands_at, run_from}
use Rattle.run_ahead.specs.Typed.{AreAsked}
use Rattle.run_ahead.specs.TypedCallers.{IsTypedCaller}
use Rattle.run_ahead.proofs.Asked.{typed_at_access}
use Rattle.run_ahead.proofs.TypedCallers.{stands_asked}
use Rattle.run_ahead.proofs.Accessing.{still_new}
use Rattle.run_ahead.proofs.Enabled.{access_is_enabled}
use Rattle.run_ahead.proofs.Standing.{access_at_is, accesses}
use Rattle.run_ahead.proofs.Watched.{access_watched}
use Rattle.oa_simulation.specs.sim_relation.Views.{Plan, Shared, link, top}
use Rattle.oa_simulation.specs.sim_relation.Points.{IsProperPoint}
use Rattle.oa_simulation.proofs.sim_relation.Codes.{blank}
use Rattle.oa_simulation.proofs.sim_steps.Walks.Accessing.{access_in_method}
use Rattle.oa_simulation.specs.sim_relation.Callers.{spot_of}
use Rattle.epoch_relation.specs.Callers.{Caller, IsSafe, Base}
use Rattle.epoch_relation.specs.Walking.{IsPlan, Trail, Walks, Gets, Pairs, StandsAt}
use Rattle.epoch_relation.specs.Keeping.{point_at}
use Rattle.epoch_relation.proofs.Bare.{in_source, undirected}
use Rattle.epoch_relation.proofs.Local.{Standing, safe_apart}
use Rattle.epoch_relation.proofs.Settling.{null_link}

-- ---- the source's turn

pub record Turned (t : Plan) (s : Shared) (c name : ℕ) (x : Caller) (m : Trail t) (i : Instr) (next : Spot) (mirror' : Registers) : Type 0 where
  pub enabled : is_enabled_for t.text (events.Access c name) (Some x.source) s.source ≡ true
  pub memory : (caller_turn t.text (events.Access c name) s.source x.source).memory ≡ (access_by t.text name i x.entry.hand.at m.mirror s.source).memory
  pub stands : (caller_turn t.text (events.Access c name) s.source x.source).caller
      ≡ stands_at m.walk.method.op m.walk.method.wrapup m.walk.started true m.walk.call (run_from m.walk.method.op m.walk.method.wrapup (record { at = next.at; registers = mirror' }))
  pub watch : run_after t.text (events.Access c name) s.source x.source x.watch ≡ run_with (name_got t.text name (Some i) m.mirror s.source) x.watch
  pub runs : runs_method (Some x.source) ≡ true

new_is : (i : Instr) → is_new_at (Some i) ≡ is_new i
new_is i = ap (λ (j : Instr). is_new_at (Some j)) (sym (undirected i)) ∙ still_new (λ at. at) i

pub turns : (t : Plan) (s : Shared) (c name : ℕ) (x : Caller) (m : Trail t) (i : Instr) (next : Spot) (mirror' : Registers) → IsPlan t → Walks t s c x (spot_of x.entry.hand) m → StandsAt t x (spot_of x.entry.hand) m x.entry.hand.accessed
    → slice_get (code_in m.walk.method) x.entry.hand.at ≡ Some (Plain i) → IsTrue (is_access i) → IsTrue (is_name (is_new i) name s.source.nodes)
    → (access_by t.text name i x.entry.hand.at m.mirror s.source).spot ≡ record { at = next.at; registers = mirror' } → Turned t s c name x m i next mirror'
turns t s c name x m i next mirror' plan w stands is makes named leads =
    let method = m.walk.method in
    let there : Spot = record { at = x.entry.hand.at; registers = m.mirror } in
    let here : slice_get (code_of method.op method.wrapup) x.entry.hand.at ≡ Some i = in_source plan.target_is method x.entry.hand.at i is in
    let op : slice_get t.text.ops m.walk.call.number ≡ Some method.op = ap (slice_get t.text.ops) w.number ∙ method.in_text in
    let access : IsTrue (is_access_at (slice_get (code_of method.op method.wrapup) x.entry.hand.at)) = subst (λ o. IsTrue (is_access_at o)) (sym here) (sym (access_at_is i) ∙ makes) in
    let named' : IsTrue (is_name (is_new_at (slice_get (code_of method.op method.wrapup) x.entry.hand.at)) name s.source.nodes) = subst (λ o. IsTrue (is_name (is_new_at o) name s.source.nodes)) (sym here) (subst (λ b. IsTrue (is_name b name s.source.nodes)) (sym (new_is i)) named) in
    let turn = ap (λ caller. caller_turn t.text (events.Access c name) s.source caller) stands ∙ accesses t.text c name method.op method.wrapup m.walk.started x.entry.hand.accessed m.walk.call there s.source op access in
    let reached : access_at t.text name (slice_get (code_of method.op method.wrapup) x.entry.hand.at) x.entry.hand.at m.mirror s.source ≡ access_by t.text name i x.entry.hand.at m.mirror s.source = ap (λ o. access_at t.text name o x.entry.hand.at m.mirror s.source) here in
    record {
      enabled = ap (λ caller. is_enabled_for t.text (events.Access c name) (Some caller) s.source) stands ∙ access_is_enabled t.text c name method.op method.wrapup m.walk.started x.entry.hand.accessed m.walk.call there s.source op access named';
      memory = ap (λ (t : Turn). t.memory) turn ∙ ap (λ z. z.memory) reached;
      stands = ap (λ (t : Turn). t.caller) turn ∙ ap (λ (spot : Spot). stands_at method.op method.wrapup m.walk.started true m.walk.call (run_from method.op method.wrapup spot)) (ap (λ z. z.spot) reached ∙ leads);
      watch = ap (λ caller. run_after t.text (events.Access c name) s.source caller x.watch) stands
          ∙ (access_watched t.text c name method.op method.wrapup m.walk.started x.entry.hand.accessed m.walk.call there s.source x.watch op access
          ∙ ap (λ o. run_with (name_got t.text name o m.mirror s.source) x.watch) here);
      runs = ap (λ (caller : SourceCaller). runs_method (Some caller)) stands ∙ access_in_method method.op method.wrapup m.walk.started x.entry.hand.accessed m.walk.call there access;
    }

-- before an access a method runs
pub runs_at : (t : Plan) (s : Shared) (c : ℕ) (x : Caller) (m : Trail t) (i : Instr) → IsPlan t → StandsAt t x (spot_of x.entry.hand) m x.entry.hand.accessed
    → slice_get (code_in m.walk.method) x.entry.hand.at ≡ Some (Plain i) → IsTrue (is_access i) → runs_method (Some x.source) ≡ true
runs_at t s c x m i plan stands is makes =
    let method = m.walk.method in
    let here : slice_get (code_of method.op method.wrapup) x.entry.hand.at ≡ Some i = in_source plan.target_is method x.entry.hand.at i is in
    let access : IsTrue (is_access_at (slice_get (code_of method.op method.wrapup) x.entry.hand.at)) = subst (λ o. IsTrue (is_access_at o)) (sym here) (sym (access_at_is i) ∙ makes) in
    ap (λ (caller : SourceCaller). runs_method (Some caller)) stands
    ∙ access_in_method method.op method.wrapup m.walk.started x.entry.hand.accessed m.walk.call (record { at = x.entry.hand.at; registers = m.mirror }) access

-- and the registers that the access asks for are of the kinds that it asks for
pub asked_at : (t : Plan) (s : Shared) (c : ℕ) (x : Caller) (m : Trail t) (i : Instr) → IsPlan t → Walks t s c x (spot_of x.entry.hand) m → StandsAt t x (spot_of x.entry.hand) m x.entry.hand.accessed
    → slice_get (code_in m.walk.method) x.entry.hand.at ≡ Some (Plain i) → IsTrue (is_access i) → IsProperPoint t.text (point_at s x) → AreAsked t.text i s.source.nodes m.mirror
asked_at t s c x m i plan w stands is makes proper r k asked =
    let method = m.walk.method in
    let there : Spot = record { at = x.entry.hand.at; registers = m.mirror } in
    let here : slice_get (code_of method.op method.wrapup) x.entry.hand.at ≡ Some i = in_source plan.target_is method x.entry.hand.at i is in
    let op : slice_get t.text.ops m.walk.call.number ≡ Some method.op = ap (slice_get t.text.ops) w.number ∙ method.in_text in
    let access : IsTrue (is_access_at (slice_get (code_of method.op method.wrapup) x.entry.hand.at)) = subst (λ o. IsTrue (is_access_at o)) (sym here) (sym (access_at_is i) ∙ makes) in
    let standing = typed_at_access t.text method.op method.wrapup m.walk.started x.entry.hand.accessed m.walk.call there s.source.nodes op access
    (subst (λ (z : SourceCaller). IsTypedCaller t.text s.source.nodes z) stands proper.kinds) in
    stands_asked t.text plan.normal method.number method.op method.wrapup method.in_text x.entry.hand.at i s.source.nodes m.mirror here standing r k asked

-- whether a wrap-up has made an access doesn't matter to a generator
pub stands_marked : (op : Op) (wrapup : Bool) (started : Registers) (accessed : Bool) (call : Call) (there : Spot) → (wrapup ≡ true → accessed ≡ true) → stands_at op wrapup started true call there ≡ stands_at op wrapup started accessed call there
stands_marked op true started accessed call there is = ap (λ (a : Bool). stands_at op true started a call there) (sym (is refl))
stands_marked op false started accessed call there is = refl

-- ---- what a proper text owes before an access

-- null, or nothing that can be reached from it was retired before the caller announced
abbrev pub Clear : Shared → Caller → ℕ → Type 0
Clear s x n = (n ≡ 0) ⊎ ((other : ℕ) → Reaches s.source n other → has other x.old ≡ false)

pub not_old : (old list : List ℕ) (n : ℕ) → (has n old ≡ true → has n list ≡ true) → has n list ≡ false → has n old ≡ false
not_old old list n up new = of (has n old) refl where
  of : (b : Bool) → has n old ≡ b → has n old ≡ false
  of false is = is
  of true is = absurd (let z : true ≡ false = sym (up is) ∙ new in cc)

-- what is clear, and null or published, is safe
pub clear_safe : (t : Plan) (s : Shared) (c : ℕ) (x : Caller) (n : ℕ) → Clear s x n → (n ≡ 0) ⊎ (s.public n ≡ true) → IsSafe t s c x n
clear_safe t s c x n (inl z) shown = inl z
clear_safe t s c x n (inr clear) (inl z) = inl z
clear_safe t s c x n (inr clear) (inr public) = inr (inr (public, clear n (itself n)))

named : (v : Value) → (name_in v ≡ 0) ⊎ ((reference : Reference) × (v ≡ Node reference) × (reference.node ≡ name_in v))
named (Number n) = inl refl
named (Node reference) = inr (reference, refl, refl)

-- from a root
pub root_clear : (t : Plan) (s : Shared) (since : ℕ → ℕ) (c : ℕ) (x : Caller) (z : ℕ) → Base t s since c x → IsProperPoint t.text (point_at s x) → Clear s x (top s z)
root_clear t s since c x z base proper = of (named (value_at s.source.roots z)) where
  of : (name_in (value_at s.source.roots z) ≡ 0) ⊎ ((reference : Reference) × (value_at s.source.roots z ≡ Node reference) × (reference.node ≡ name_in (value_at s.source.roots z))) → Clear s x (top s z)
  of (inl none) = inl none
  of (inr node) = inr (λ other reaches. not_old x.old s.source.retired other (base.before other) (proper.roots z other node.0 node.1 (subst (λ (n : ℕ). Reaches s.source n other) (sym node.2) reaches)))

pub record Owing (t : Plan) (s : Shared) (since : ℕ → ℕ) (c : ℕ) (x : Caller) (m : Trail t) : Type 0 where
  pub standing : Standing t s since c x
  pub walks : Walks t s c x (spot_of x.entry.hand) m
  pub gets : Gets t s c x m
  pub proper : IsProperPoint t.text (point_at s x)
  pub runs : runs_method (Some x.source) ≡ true

module _ (t : Plan) (s : Shared) (since : ℕ → ℕ) (c : ℕ) (x : Caller) (m : Trail t) (w : Owing t s since c x m) where
  pub got_clear : (n : ℕ) → IsGot x.watch.got n → Clear s x n
  got_clear n (inl z) = inl z
  got_clear n (inr got) = inr (λ other reaches. not_old x.old x.watch.old other (w.gets.older other) (w.proper.got w.runs n other got reaches))

  -- along a field
  pub link_clear : (n g : ℕ) → Clear s x n → Clear s x (link s n g)
  link_clear n g (inl z) = inl (ap (λ (n : ℕ). link s n g) z ∙ null_link t s since g w.standing.holds)
  link_clear n g (inr clear) = of (named (field_of s.source n g)) where
    of : (name_in (field_of s.source n g) ≡ 0) ⊎ ((reference : Reference) × (field_of s.source n g ≡ Node reference) × (reference.node ≡ name_in (field_of s.source n g))) → Clear s x (link s n g)
    of (inl none) = inl none
    of (inr node) = inr (λ other reaches. clear other (onward n node.0.node other (g, node.0.marked, node.1) (subst (λ (k : ℕ). Reaches s.source k other) (sym node.2) reaches)))

  -- what is linked from it is null, or published and not retired before
  pub link_public : (n g : ℕ) → Clear s x n → (link s n g ≡ 0) ⊎ ((s.public (link s n g) ≡ true) × (has (link s n g) x.old ≡ false))
  link_public n g clear = of (link_clear n g clear) (w.standing.holds.holds.store.link n g) where
    of : Clear s x (link s n g) → (link s n g ≡ 0) ⊎ (s.public (link s n g) ≡ true) → (link s n g ≡ 0) ⊎ ((s.public (link s n g) ≡ true) × (has (link s n g) x.old ≡ false))
    of (inl z) shown = inl z
    of (inr clear) (inl z) = inl z
    of (inr clear) (inr public) = inr (public, clear (link s n g) (itself (link s n g)))

  pub link_safe : (n g : ℕ) → Clear s x n → IsSafe t s c x (link s n g)
  link_safe n g clear = clear_safe t s c x (link s n g) (link_clear n g clear) (w.standing.holds.holds.store.link n g)

  -- a register of a generator holds null or what the run has got
  pub register_got : m.walk.method.wrapup ≡ false → (r : ℕ) → IsGot x.watch.got (node_in m.mirror r)
  register_got gen r = of (is_set_in m.walk.method m.path r) refl where
    of : (b : Bool) → is_set_in m.walk.method m.path r ≡ b → IsGot x.watch.got (node_in m.mirror r)
    of true set = w.gets.got.set r set
    of false unset = inl (w.gets.got.unset r unset ∙ blank m.walk w.walks.generator gen r)

  pub pairs_clear : (mirror : Registers) → ((r : ℕ) → Clear s x (node_in mirror r)) → ((r : ℕ) → IsSafe t s c x (node_in mirror r)) → Pairs t s (record { walk = m.walk; path = m.path; mirror = mirror })
  pairs_clear mirror clear safe r e g = safe_apart t s since c x (link s (node_in mirror r) g) (node_in mirror e)
      w.standing (link_safe (node_in mirror r) g (clear r)) (safe e)
