-- An access of the text in a method run: the source makes it too, and its local code runs on.
use Rattle.std.proofs.Common.{ℕ, ◌≡◌, ◌∙◌, Bool, true, false, ◌∷◌, Option, Some, None, inl, ⊎_elim, sym, ap, refl}
use Rattle.std.specs.Prelude.{slice_get, IsTrue}
use Rattle.norm_lang.specs.declared.text.Instr.{Instr}
use Rattle.norm_lang.specs.declared.text.Instr.TheVariants as instr
use Rattle.norm_lang.specs.declared.text.Op.{Op}
use Rattle.norm_lang.specs.declared.registers.Registers.{Registers}
use Rattle.norm_lang.specs.Flow.{goes_to}
use Rattle.norm_lang.specs.Kept.{code_of}
use Rattle.norm_lang.specs.Local.{Spot}
use Rattle.norm_lang.specs.RegisterUse.{destination}
use Rattle.target_code.specs.declared.target.TargetInstr.TheVariants.{Plain}
use Rattle.target_code.specs.Erasing.{source_place, redirected}
use Rattle.source_machine.specs.declared.event.SourceEvent.TheVariants as events
use Rattle.source_machine.specs.declared.state.Stand.TheVariants.{InWrapUp}
use Rattle.source_machine.specs.declared.state.SourceCaller.{SourceCaller}
use Rattle.source_machine.specs.Step.{is_access_at, generator_stand, caller_turn}
use Rattle.target_laws.specs.local_laws.Settling.{is_access}
use Rattle.norm_lang.specs.Grammar.{is_new}
use Rattle.source_machine.specs.Run.{is_name, is_in_method, is_enabled_for}
use Rattle.source_machine.specs.Proper.{runs_method}
use Rattle.source_machine.specs.MethodRuns.{MethodRun, run_with, name_got, run_after}
use Rattle.run_ahead.specs.Agreeing.{Changes}
use Rattle.target_laws.specs.Methods.{code_in}
use Rattle.target_laws.specs.Trusted.{Trusted, trust_in_set, trust_along}
use Rattle.run_ahead.specs.Ahead.{IsErased, AsTrusted, IsHeld, Ahead}
use Rattle.run_ahead.specs.Following.{StandsAhead}
use Rattle.run_ahead.specs.Standing.{Call, running_of, caller_of, stands_at, run_from}
use Rattle.run_ahead.proofs.Plain.{plain_keeps}
use Rattle.run_ahead.proofs.Accessing.{mirrored_access, access_turns}
use Rattle.target_laws.proofs.local_laws.Settled.{local_code_settles}
use Rattle.run_ahead.proofs.Standing.{generator_access, wrap_up_access}
use Rattle.oa_simulation.specs.sim_relation.Views.{Plan, Shared, Caller}
use Rattle.oa_simulation.specs.sim_relation.Callers.{Calm, Base, Trail, Walks, Stands, spot_of}
use Rattle.oa_simulation.specs.sim_relation.Steps.{walked}

-- ---- in a method

-- the caller is in a method if an access is pending
pub access_in_method : (op : Op) (wrapup : Bool) (started : Registers) (accessed : Bool) (call : Call) (there : Spot) → IsTrue (is_access_at (slice_get (code_of op wrapup) there.at))
    → runs_method (Some (stands_at op wrapup started accessed call there)) ≡ true
access_in_method op false started accessed call there access = ap is_in_method (generator_access (slice_get op.generator there.at) there.at access)
access_in_method op true started accessed call there access = ap (λ (caller : SourceCaller). runs_method (Some caller)) (wrap_up_access accessed op (slice_get op.wrapup there.at) (record (running_of call) { registers = there.registers; stand = InWrapUp there.at started accessed }) (caller_of call) access)

-- and after it
pub accessed_in_method : (op : Op) (wrapup : Bool) (started : Registers) (call : Call) (there : Spot) → runs_method (Some (stands_at op wrapup started true call there)) ≡ true
accessed_in_method op true started call there = refl
accessed_in_method op false started call there = of (slice_get op.generator there.at) where
  of : (o : Option Instr) → is_in_method (generator_stand o there.at) ≡ true
  of None = refl
  of (Some (instr.Commit entries)) = refl
  of (Some _) = refl

-- ---- the source's turn

-- where the source stands, whatever the caller's registers hold
pub source_stands : (t : Plan) (s : Shared) (c : ℕ) (x : Caller) (core : Spot) (m : Trail t) → Walks t s c x core m → Stands t x m
    → StandsAhead m.walk.method m.walk.started x.entry.hand.accessed m.walk.call core.at m.mirror m.there x.source
source_stands t s c x core m w st = record { number = w.number; settles = w.ahead.settles; stands = st.stands }

-- the source's turn at an access leads to another place, with these registers, and its run gets a name
pub record Turned (t : Plan) (s : Shared) (c name : ℕ) (x : Caller) (m : Trail t) (i : Instr) (next : Spot) (mirror' : Registers) : Type 0 where
  pub enabled : is_enabled_for t.text (events.Access c name) (Some x.source) s.source ≡ true
  pub memory : (caller_turn t.text (events.Access c name) s.source x.source).memory ≡ (mirrored_access m.walk.method name i x.entry.hand.at m.mirror s.source).memory
  pub stands : (caller_turn t.text (events.Access c name) s.source x.source).caller
      ≡ stands_at m.walk.method.op m.walk.method.wrapup m.walk.started true m.walk.call (run_from m.walk.method.op m.walk.method.wrapup (record { at = source_place (code_in m.walk.method) next.at; registers = mirror' }))
  pub watch : run_after t.text (events.Access c name) s.source x.source x.watch ≡ run_with (name_got t.text name (Some (redirected (source_place (code_in m.walk.method)) i)) m.mirror s.source) x.watch
  pub same : x.held ≡ x.watch
  pub ahead : Ahead m.walk.method t.home (Calm s c x) (x.entry.hand.at ∷ m.path) next mirror' (run_from m.walk.method.op m.walk.method.wrapup (record { at = source_place (code_in m.walk.method) next.at; registers = mirror' }))

-- an access that the core makes: local code is led on, and one register changes at most
pub record Makes (t : Plan) (s : Shared) (c name : ℕ) (x : Caller) (m : Trail t) (i : Instr) (given : ℕ) (next : Spot) (mirror' : Registers) : Type 0 where
  pub here : slice_get (code_in m.walk.method) x.entry.hand.at ≡ Some (Plain i)
  pub access : IsTrue (is_access i)
  pub named : IsTrue (is_name (is_new i) name s.source.nodes)
  pub goes : IsTrue (goes_to i x.entry.hand.at next.at)
  pub changes : Changes t.home (AsTrusted (Calm s c x) (trust_in_set i)) (destination i) given x.entry.hand.registers m.mirror next.registers mirror'
  pub known : trust_in_set i ≡ Trusted → IsHeld (trust_along m.walk.method m.path) m.mirror given
  pub leads : (mirrored_access m.walk.method name i x.entry.hand.at m.mirror s.source).spot ≡ record { at = source_place (code_in m.walk.method) next.at; registers = mirror' }

pub turns : (t : Plan) (s : Shared) (c name : ℕ) (x : Caller) (m : Trail t) (i : Instr) (given : ℕ) (next : Spot) (mirror' : Registers) → IsErased t.target t.text → Walks t s c x (spot_of x.entry.hand) m → Stands t x m
    → Makes t s c name x m i given next mirror' → Turned t s c name x m i next mirror'
turns t s c name x m i given next mirror' erased w st makes =
    let method = m.walk.method in
    let turn = access_turns method m.walk.started x.entry.hand.accessed m.walk.call x.entry.hand.at m.mirror m.there s.source i c name x.source erased (source_stands t s c x (spot_of x.entry.hand) m w st) makes.here makes.access makes.named in
    let runs : runs_method (Some x.source) ≡ true = ap (λ (caller : SourceCaller). runs_method (Some caller)) turn.here ∙ access_in_method method.op method.wrapup m.walk.started x.entry.hand.accessed m.walk.call _ turn.access in
    record {
      enabled = turn.enabled;
      memory = turn.memory;
      stands = turn.stands ∙ ap (λ (spot : Spot). stands_at method.op method.wrapup m.walk.started true m.walk.call (run_from method.op method.wrapup spot)) makes.leads;
      watch = turn.run x.watch;
      same = ⊎_elim (λ both. both.1) (λ ended. absurd (let z : true ≡ false = sym runs ∙ ended.0 in cc)) st.tied;
      ahead = plain_keeps method t.home (Calm s c x) m.path (spot_of x.entry.hand) next m.mirror mirror' m.there _ i given erased makes.here makes.goes makes.changes makes.known
          (local_code_settles t.text method.number method.op method.wrapup erased.normal method.in_text (record { at = source_place (code_in method) next.at; registers = mirror' })) w.ahead;
    }

-- ---- the caller after it

-- the source's caller, and its method run, are others
abbrev pub turned : Caller → SourceCaller → MethodRun → Caller
turned x source watch = record x { source = source; watch = watch }

-- the source's turn was made, the run has got a name and set registers, and local code has come to a spot
abbrev pub took : Plan → Shared → ℕ → ℕ → Caller → Spot → Bool → ℕ → (ℕ → Bool) → Caller
took t s c name x next accessed n were = walked (turned x (caller_turn t.text (events.Access c name) s.source x.source).caller (run_with n x.watch)) next accessed (run_with n x.held) were

pub base_turned : (t : Plan) (s : Shared) (c : ℕ) (x : Caller) (source : SourceCaller) (watch : MethodRun) → Base t s c x → Base t s c (turned x source watch)
base_turned t s c x source watch b = record { number = b.number; seen = b.seen; old = b.old; hazard = b.hazard; protects = b.protects; known = b.known; cradle = b.cradle }

pub walks_turned : (t : Plan) (s : Shared) (c : ℕ) (x : Caller) (core : Spot) (m : Trail t) (source : SourceCaller) (watch : MethodRun) → Walks t s c x core m → Walks t s c (turned x source watch) core m
walks_turned t s c x core m source watch w = record { call = w.call; wrapup = w.wrapup; was_set = w.was_set; first = w.first; number = w.number; start = w.start; ahead = w.ahead; generator = w.generator; kept = w.kept; shown = w.shown; sound = w.sound }

-- where the source stands after the access
pub stands_took : (t : Plan) (s : Shared) (c name : ℕ) (x : Caller) (m : Trail t) (i : Instr) (next : Spot) (mirror' : Registers) (accessed : Bool) (n : ℕ)
    → (m.walk.method.wrapup ≡ true → accessed ≡ true) → Turned t s c name x m i next mirror'
    → Stands t (took t s c name x next accessed n x.was_set) (record { walk = m.walk; path = x.entry.hand.at ∷ m.path; mirror = mirror'; there = run_from m.walk.method.op m.walk.method.wrapup (record { at = source_place (code_in m.walk.method) next.at; registers = mirror' }) })
stands_took t s c name x m i next mirror' accessed n marked turn = record {
  stands = turn.stands ∙ by_wrapup m.walk.method.wrapup marked;
  unmoved = λ wrap still. absurd (let z : true ≡ false = sym (marked wrap) ∙ still in cc);
  unread = λ wrap still. absurd (let z : true ≡ false = sym (marked wrap) ∙ still in cc);
  tied = inl (ap (λ (caller : SourceCaller). runs_method (Some caller)) turn.stands ∙ accessed_in_method m.walk.method.op m.walk.method.wrapup m.walk.started m.walk.call _, ap (run_with n) turn.same);
} where
  there : Spot
  there = run_from m.walk.method.op m.walk.method.wrapup (record { at = source_place (code_in m.walk.method) next.at; registers = mirror' })

  by_wrapup : (b : Bool) → (b ≡ true → accessed ≡ true) → stands_at m.walk.method.op b m.walk.started true m.walk.call there ≡ stands_at m.walk.method.op b m.walk.started accessed m.walk.call there
  by_wrapup true is = ap (λ (a : Bool). stands_at m.walk.method.op true m.walk.started a m.walk.call there) (sym (is refl))
  by_wrapup false is = refl
