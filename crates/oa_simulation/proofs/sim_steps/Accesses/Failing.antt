-- An auxiliary exchange that fails.
use Rattle.std.proofs.Common.{ℕ, zero, suc, ◌≡◌, ◌==◌, ◌+◌, ◌∙◌, ◌&&◌, ◌||◌, not, Bool, true, false, List, [], ◌∷◌, Option, Some, None, arith, inl, sym, ap, subst, refl, if◌then◌else◌}
use Rattle.std.specs.Prelude.{slice_get, IsTrue, is_some}
use Rattle.std.proofs.lemmas.Bool.Decides.{nat_tests}
use Rattle.norm_lang.specs.declared.text.Place.{Place}
use Rattle.norm_lang.specs.declared.text.Place.TheVariants as places
use Rattle.norm_lang.specs.declared.text.CasEntry.{CasEntry}
use Rattle.norm_lang.specs.declared.text.Instr.TheVariants as instr
use Rattle.norm_lang.specs.declared.text.FieldDecl.{FieldDecl}
use Rattle.norm_lang.specs.declared.registers.Registers.{Registers}
use Rattle.norm_lang.specs.Local.{Spot}
use Rattle.norm_lang.specs.KindFields.{place_of}
use Rattle.target_code.specs.declared.target.TargetInstr.TheVariants.{Plain}
use Rattle.target_code.specs.Erasing.{source_place}
use Rattle.oa_words.specs.Words.{Word, FieldOf, Cell}
use Rattle.oa_words.specs.Memories.{store}
use Rattle.phase_pools.specs.Accesses.{word_of}
use Rattle.source_machine.specs.declared.event.SourceEvent.TheVariants as events
use Rattle.source_machine.specs.Memory.{exchange, auxiliary}
use Rattle.source_machine.specs.declared.state.Memory.{Memory}
use Rattle.caller_steps.specs.Entries.{one_more}
use Rattle.caller_parts.specs.Operands.{word_in, slot_in, succeeds, has_object, to_retire}
use Rattle.caller_steps.specs.Wants.{place_exchange, object_exchange, exchange_wanted}
use Rattle.caller_steps.specs.After.{counted, with_access, retires_then, cas_failed, plain_accepted}
use Rattle.caller_parts.specs.declared.routine.AfterRetire.TheVariants as onward
use Rattle.target_laws.specs.Methods.{code_in}
use Rattle.target_laws.specs.Trusted.{Trusted}
use Rattle.run_ahead.specs.Ahead.{erasing, AsTrusted}
use Rattle.run_ahead.specs.Standing.{run_from}
use Rattle.run_ahead.proofs.Changing.{nothing_changes}
use Rattle.run_ahead.proofs.Getting.{plain_got}
use Rattle.oa_simulation.specs.sim_relation.Views.{Plan, IsPlan, Shared, Caller}
use Rattle.oa_simulation.specs.sim_relation.Shared.{SharedHolds}
use Rattle.oa_simulation.specs.sim_relation.Callers.{Calm, Base, Trail, Stands, Guards, Running, spot_of}
use Rattle.caller_steps.specs.Signs.{Accesses, told}
use Rattle.oa_simulation.specs.sim_relation.Points.{point}
use Rattle.oa_simulation.proofs.sim_relation.Playing.{PlaysEvent, plays_first}
use Rattle.chain_laws.specs.Memories.{after_access}
use Rattle.oa_simulation.specs.sim_relation.Steps.{KeptSetting}
use Rattle.oa_simulation.specs.sim_relation.WasSet.{set_exchanged, set_plain}
use Rattle.oa_simulation.proofs.sim_relation.Words.{store_idle}
use Rattle.oa_simulation.proofs.sim_steps.Walks.Along.{walks_along, guards_along, gets_along}
use Rattle.oa_simulation.proofs.sim_relation.Moving.{base_moved, running_moved, goes_same}
use Rattle.oa_simulation.proofs.sim_steps.Exchanges.Exchanging.{Offers, tests_agree}
use Rattle.oa_simulation.proofs.sim_steps.Walks.Stopping.{settles_ends}
use Rattle.oa_simulation.proofs.sim_steps.Guards.Unguarding.{counted_caller}
use Rattle.oa_simulation.proofs.sim_steps.Walks.Accessing.{Makes, turns, turned, took, base_turned, walks_turned, stands_took}
use Rattle.oa_simulation.proofs.sim_steps.Accesses.Loads.{made_by}
use Rattle.oa_simulation.proofs.sim_steps.Accesses.Puts.{Reads}
use Rattle.caller_parts.specs.declared.setting.Reclamation.TheVariants.{Optimistic}

-- if it fails, the words stay
stays : (m : Word → ℕ) (w : Word) (e r : ℕ) (b : Bool) → (m w == e) ≡ b → b ≡ false → m ≡ store m w (if m w == e then r else m w)
stays m w e r b is fails = rw (is, fails) (store_idle m w)

object_stays : (m : Word → ℕ) (n f e r : ℕ) → (not (n == 0) && (m (word_of (object_exchange n f e r)) == e)) ≡ false → m ≡ after_access m (object_exchange n f e r)
object_stays m zero f e r fails = store_idle m (FieldOf 0 f)
object_stays m (suc j) f e r fails = let some : (suc j == 0) ≡ false = grind (arith, nat_tests) in stays m (FieldOf (suc j) f) e r (m (FieldOf (suc j) f) == e) refl (sym (rw some refl) ∙ fails)

place_stays : (fields : List FieldDecl) (m : Word → ℕ) (p : Place) (registers : Registers) (e r : ℕ) → (has_object p registers && (m (word_of (place_exchange fields p registers e r)) == e)) ≡ false → m ≡ after_access m (place_exchange fields p registers e r)
place_stays fields m (places.Root x) registers e r fails = stays m (Cell x) e r (m (Cell x) == e) refl fails
place_stays fields m (places.Field a f) registers e r fails = object_stays m (slot_in registers a) (place_of fields f) e r fails

pub fails_stay : (fields : List FieldDecl) (m : Word → ℕ) (entry : CasEntry) (registers : Registers) → succeeds entry registers (m (word_of (exchange_wanted fields entry registers))) ≡ false → m ≡ after_access m (exchange_wanted fields entry registers)
fails_stay fields m entry registers fails = place_stays fields m entry.place registers (word_in registers entry.expected) (word_in registers entry.replacement) fails

-- to the other instruction: the source's fails too
pub failure_takes : (t : Plan) (s : Shared) (c : ℕ) (x : Caller) (m : Trail t) (entry : CasEntry) (l : ℕ) (accessed : Bool) → Reads t s c x m (instr.Cas entry l) → Stands t x m → Guards t x m → exchange t.text.fields entry m.mirror s.source ≡ None
    → (m.walk.method.wrapup ≡ true → accessed ≡ true)
    → let next : Spot = record { at = l; registers = x.entry.hand.registers } in
    let y = took t s c 0 x next accessed 0 x.was_set in
    PlaysEvent t.text (events.Access c 0) s.source x.source x.watch s.source y.source y.watch × (Base t s c y × Running t s c y next)
failure_takes t s c x m entry l accessed w st guards none marked =
    let i = instr.Cas entry l in
    let method = m.walk.method in
    let place = source_place (code_in method) in
    let at = x.entry.hand.at in
    let next : Spot = record { at = l; registers = x.entry.hand.registers } in
    let changes = nothing_changes t.home (AsTrusted (Calm s c x) Trusted) x.entry.hand.registers m.mirror w.walks.ahead.sized in
    let made : Makes t s c 0 x m i 0 next m.mirror = record {
      here = w.here;
      access = refl;
      named = refl;
      goes = goes l;
      changes = changes;
      known = λ trusted. inl refl;
      leads = ap (λ (o : Option Memory). (auxiliary o s.source (place at) (place l) m.mirror).spot) none;
    } in
    let turn = turns t s c 0 x m i 0 next m.mirror (erasing w.plan.compiled) w.walks st made in
    let y = turned x (took t s c 0 x next accessed 0 x.was_set).source (took t s c 0 x next accessed 0 x.was_set).watch in
    let there : Spot = run_from method.op method.wrapup (record { at = place l; registers = m.mirror }) in
    let got = plain_got method t.home (AsTrusted (Calm s c x) Trusted) m.path at i 0 x.entry.hand.registers m.mirror next.registers m.mirror m.walk.started x.held.got x.held.got w.here changes (λ k set. inl refl) (λ k is. is) w.gets.got in
    let b = base_turned t s c x y.source y.watch w.base in (
      (turn.enabled, (sym (turn.memory ∙ ap (λ (o : Option Memory). (auxiliary o s.source (place at) (place l) m.mirror).memory) none), refl, sym turn.watch)),
      (
        record { number = b.number; seen = b.seen; old = b.old; hazard = b.hazard; protects = b.protects; known = b.known; cradle = b.cradle },
        (
          record { walk = m.walk; path = at ∷ m.path; mirror = m.mirror; there = there },
          walks_along t s c y (spot_of x.entry.hand) next m i 0 (AsTrusted (Calm s c x) Trusted) m.mirror there accessed x.held w.plan.null w.shared_holds w.here changes (λ trusted. inl refl) turn.ahead (walks_turned t s c x (spot_of x.entry.hand) m y.source y.watch w.walks),
          stands_took t s c 0 x m i next m.mirror accessed 0 marked turn,
          gets_along t s c y (spot_of x.entry.hand) next m i 0 (AsTrusted (Calm s c x) Trusted) m.mirror there accessed x.held w.here refl changes got (λ k is. is) (λ k j is a z. is) (λ gen k set. inl refl) w.gets,
          guards_along t s c y (spot_of x.entry.hand) next m i 0 (AsTrusted (Calm s c x) Trusted) m.mirror there accessed x.held w.here refl changes guards,
        ),
      ),
    )
  where
    goes : (l : ℕ) → IsTrue (((x.entry.hand.at + 1) == l) || ((l == l) || false))
    goes l = grind (arith, nat_tests)

-- a failed auxiliary exchange, and the local code after it
pub failure_kept : (t : Plan) (c : ℕ) (s : Shared) (x : Caller) (entry : CasEntry) (l : ℕ) → IsPlan t → SharedHolds t s → Base t s c x → (walk : Running t s c x (spot_of x.entry.hand))
    → slice_get (code_in walk.0.walk.method) x.entry.hand.at ≡ Some (Plain (instr.Cas entry l)) → Offers t s c x.entry.hand.registers walk.0.mirror entry → exchange t.text.fields entry walk.0.mirror s.source ≡ None
    → KeptSetting t c s x (set_plain t.target (instr.Cas entry l) (s.memory (word_of (exchange_wanted t.target.fields entry x.entry.hand.registers))) x.entry x.was_set) (after_access s.memory (exchange_wanted t.target.fields entry x.entry.hand.registers)) (plain_accepted Optimistic t.target t.setting.sizes (instr.Cas entry l) (s.memory (word_of (exchange_wanted t.target.fields entry x.entry.hand.registers))) (counted x.entry))
failure_kept t c s x entry l plan f base walk here offers none =
    let y = counted_caller x in
    let moves = running_moved t s c x (spot_of x.entry.hand) (one_more x.entry.running.steps) x.entry.counts x.entry.routine walk in
    let w : Reads t s c y walk.0 (instr.Cas entry l) = record { plan = plan; shared_holds = f; base = base_moved t s c x (one_more x.entry.running.steps) x.entry.counts x.entry.routine base; walks = moves.1; gets = moves.3; here = here } in
    let taken = failure_takes t s c y walk.0 entry l x.entry.hand.wrapup w moves.2 moves.4 none (λ e. walk.1.wrapup ∙ e) in
    let next : Spot = record { at = l; registers = x.entry.hand.registers } in
    let z = took t s c 0 y next x.entry.hand.wrapup 0 x.was_set in
    let word : ℕ = s.memory (word_of (exchange_wanted t.target.fields entry x.entry.hand.registers)) in
    let fails : succeeds entry x.entry.hand.registers word ≡ false = tests_agree t s c x.entry.hand.registers walk.0.mirror entry plan.null f offers ∙ ap is_some none in
    let ended = settles_ends t s c (made_by x z.source z.watch z.held x.was_set) next plan f taken.1.0 taken.1.1 in
    let e = with_access (counted x.entry) in
    subst (λ (b : Bool). KeptSetting t c s x (set_exchanged t.target entry l x.entry x.was_set b) (after_access s.memory (exchange_wanted t.target.fields entry x.entry.hand.registers))
    (told (Accesses ∷ []) (if b then retires_then Optimistic t.target t.setting.sizes onward.Next (to_retire entry.retire x.entry.hand.registers) e else cas_failed Optimistic t.target t.setting.sizes l e))) (sym fails) (record {
      s' = s;
      x' = ended.x';
      memory = fails_stay t.target.fields s.memory entry x.entry.hand.registers fails;
      present = refl;
      entry = ended.entry;
      names = ended.names;
      was_set = ended.was_set;
      plays = plays_first t.text c Accesses _ (point s x) (point s z) (point s ended.x') taken.0 refl ended.plays;
      shared_holds = f;
      goes = goes_same t s c;
      retires = λ n is. inl is;
      caller_holds = ended.caller_holds;
    })
