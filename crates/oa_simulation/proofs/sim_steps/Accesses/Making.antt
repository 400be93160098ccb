-- An auxiliary exchange that succeeds, with or without a retirement.
use Rattle.std.proofs.Common.{ℕ, suc, ◌≡◌, ◌≢◌, ◌==◌, ◌+◌, ◌≤◌, ◌⊎◌, ◌∙◌, ◌||◌, Bool, true, false, [], ◌∷◌, Option, Some, None, arith, inl, inr, ⊎_elim, sym, ap, subst, refl, if◌then◌else◌}
use Rattle.source_machine.specs.Proper.{has}
use Rattle.std.specs.Prelude.{IsTrue, is_some}
use Rattle.std.proofs.lemmas.Bool.Decides.{nat_tests}
use Rattle.norm_lang.specs.declared.text.CasEntry.{CasEntry}
use Rattle.norm_lang.specs.declared.text.Instr.{Instr}
use Rattle.norm_lang.specs.declared.text.Instr.TheVariants as instr
use Rattle.norm_lang.specs.Local.{Spot}
use Rattle.target_code.specs.declared.target.TargetInstr.TheVariants.{Plain}
use Rattle.target_code.specs.Erasing.{source_place}
use Rattle.oa_words.specs.Words.{Hazard}
use Rattle.source_machine.specs.declared.event.SourceEvent.TheVariants as events
use Rattle.source_machine.specs.Memory.{exchange, auxiliary}
use Rattle.source_machine.specs.declared.state.Memory.{Memory}
use Rattle.phase_pools.specs.Accesses.{word_of}
use Rattle.caller_parts.specs.declared.routine.AfterRetire.TheVariants as onward
use Rattle.phase_pools.specs.Pools.{retire_begun}
use Rattle.caller_parts.specs.declared.routine.Routine.TheVariants.{Retires}
use Rattle.caller_steps.specs.Entries.{one_more}
use Rattle.caller_steps.specs.Wants.{exchange_wanted}
use Rattle.caller_steps.specs.After.{counted, with_access, with_routine, retires_then, cas_failed, plain_accepted}
use Rattle.caller_parts.specs.Operands.{succeeds, to_retire}
use Rattle.oa_simulation.specs.sim_relation.MayChange.{MayChange}
use Rattle.oa_simulation.proofs.sim_relation.Moving.{base_moved, walks_moved, same_names}
use Rattle.oa_simulation.proofs.sim_steps.Exchanges.Exchanging.{Offers, tests_agree}
use Rattle.oa_simulation.proofs.sim_steps.Walks.Stopping.{settles_ends}
use Rattle.oa_simulation.proofs.sim_steps.Guards.Unguarding.{counted_caller}
use Rattle.oa_simulation.proofs.sim_steps.Accesses.Loads.{made_by}
use Rattle.target_laws.specs.Methods.{code_in}
use Rattle.target_laws.specs.Trusted.{Trusted}
use Rattle.run_ahead.specs.Ahead.{erasing, AsTrusted}
use Rattle.run_ahead.specs.Standing.{run_from}
use Rattle.run_ahead.proofs.Changing.{nothing_changes}
use Rattle.run_ahead.proofs.Getting.{plain_got}
use Rattle.run_ahead.proofs.Plain.{at_place}
use Rattle.run_ahead.proofs.Quiet.{less_calm}
use Rattle.oa_simulation.proofs.sim_relation.Stable.{LeavesGuards, walks_left}
use Rattle.oa_simulation.specs.sim_relation.Views.{Plan, Held, Shared, Caller}
use Rattle.oa_simulation.specs.sim_relation.Shared.{SharedHolds}
use Rattle.oa_simulation.specs.sim_relation.Callers.{IsRetiring, Calm, HasMade, Base, Trail, Walks, Stands, Gets, Guards, Running, spot_of}
use Rattle.caller_steps.specs.Signs.{Accesses, told}
use Rattle.oa_simulation.specs.sim_relation.Points.{point}
use Rattle.oa_simulation.proofs.sim_relation.Playing.{PlaysEvent, plays_first, plays_one}
use Rattle.chain_laws.specs.Memories.{after_access}
use Rattle.oa_simulation.specs.sim_relation.Steps.{KeptSetting}
use Rattle.oa_simulation.specs.sim_relation.WasSet.{set_exchanged, set_plain, set_unless_retiring}
use Rattle.oa_simulation.proofs.sim_relation.Names.{KeepsNames, own_kept, known_kept, shown_kept, made_kept}
use Rattle.oa_simulation.proofs.sim_steps.Walks.Along.{walks_along, guards_along, gets_along}
use Rattle.oa_simulation.proofs.sim_steps.Walks.Accessing.{Makes, turns, turned, took, base_turned, walks_turned, stands_took}
use Rattle.oa_simulation.proofs.sim_steps.Accesses.Puts.{Reads}
use Rattle.caller_parts.specs.declared.setting.Reclamation.TheVariants.{Optimistic}

-- what a caller's own exchange leaves of what it knows
pub record Keeps (t : Plan) (c : ℕ) (s s' : Shared) : Type 0 where
  pub left : LeavesGuards t c s s'
  pub hazard : (r : ℕ) → s'.memory (Hazard c r) ≡ s.memory (Hazard c r)
  pub tag : (n p : ℕ) → s'.tag n ≡ Some p → s.tag n ≡ Some p
  pub present : (j : ℕ) → s'.present j ≡ s.present j
  pub owns : (j k : ℕ) → s.owner j ≡ Held c k → s'.owner j ≡ Held c k

keeps_names : (t : Plan) (c : ℕ) (s s' : Shared) → Keeps t c s s' → KeepsNames c s s'
keeps_names t c s s' q = record { held = λ j k own. (q.owns j k own, q.present j); public = q.left.public }

pub keeps_base : (t : Plan) (c : ℕ) (s s' : Shared) (x : Caller) → Keeps t c s s' → Base t s c x → Base t s' c x
keeps_base t c s s' x q b = record {
  number = b.number;
  seen = subst (λ (i : ℕ). x.entry.hand.seen ≤ i) (sym q.left.warning) b.seen;
  old = λ n p is lt. b.old n p (q.tag n p is) lt;
  hazard = λ r. q.hazard r ∙ b.hazard r;
  protects = λ r. q.left.protects r ∙ b.protects r;
  known = λ n got. known_kept t c s s' n (keeps_names t c s s' q) (b.known n got);
  cradle = λ k some. q.owns _ k (b.cradle k some);
}

pub keeps_gets : (t : Plan) (c : ℕ) (s s' : Shared) (x : Caller) (m : Trail t) → t.home 0 ≡ 0 → SharedHolds t s' → Keeps t c s s' → Base t s c x → Gets t s c x m → Gets t s' c x m
keeps_gets t c s s' x m null_home f' q b g = record {
  got = g.got;
  named = g.named;
  fresh = λ gen r is. own_kept t c s s' _ (keeps_names t c s s' q) (g.fresh gen r is);
  shown = λ gen r is. shown_kept s s' _ q.left.public (g.shown gen r is);
  made = λ n k got. made_kept t c s s' (λ i. HasMade (code_in m.walk.method) m.path i) n null_home (keeps_names t c s s' q) f' (b.known n got) (λ i. g.made n i got) k;
}

-- the access of an exchange that succeeds in the source
pub exchange_makes : (t : Plan) (s : Shared) (c : ℕ) (x : Caller) (m : Trail t) (entry : CasEntry) (l : ℕ) (after : Memory) → Reads t s c x m (instr.Cas entry l) → exchange t.text.fields entry m.mirror s.source ≡ Some after
    → Makes t s c 0 x m (instr.Cas entry l) 0 (record { at = x.entry.hand.at + 1; registers = x.entry.hand.registers }) m.mirror
exchange_makes t s c x m entry l after w some =
    let place = source_place (code_in m.walk.method) in
    let at = x.entry.hand.at in
    record {
      here = w.here;
      access = refl;
      named = refl;
      goes = goes l;
      changes = nothing_changes t.home (AsTrusted (Calm s c x) Trusted) x.entry.hand.registers m.mirror w.walks.ahead.sized;
      known = λ trusted. inl refl;
      leads = ap (λ (o : Option Memory). (auxiliary o s.source (place at) (place l) m.mirror).spot) some
          ∙ ap (λ (k : ℕ). record { at = k; registers = m.mirror }) (sym (at_place m.walk.method (erasing w.plan.compiled) at (Plain (instr.Cas entry l)) w.here).1);
    }
  where
    goes : (l : ℕ) → IsTrue (((x.entry.hand.at + 1) == (x.entry.hand.at + 1)) || ((l == (x.entry.hand.at + 1)) || false))
    goes l = grind (arith, nat_tests)

-- to the next instruction, in what is shared after the exchange: the source's succeeds too
pub success_takes : (t : Plan) (s s' : Shared) (c : ℕ) (x : Caller) (m : Trail t) (entry : CasEntry) (l : ℕ) (accessed : Bool) → Reads t s c x m (instr.Cas entry l) → Stands t x m → Guards t x m
    → exchange t.text.fields entry m.mirror s.source ≡ Some s'.source → SharedHolds t s' → Keeps t c s s' → (m.walk.method.wrapup ≡ true → accessed ≡ true)
    → let next : Spot = record { at = x.entry.hand.at + 1; registers = x.entry.hand.registers } in
    let y = took t s c 0 x next accessed 0 x.was_set in
    PlaysEvent t.text (events.Access c 0) s.source x.source x.watch s'.source y.source y.watch × (Base t s' c y × Running t s' c y next)
success_takes t s s' c x m entry l accessed w st guards some f' q marked =
    let i = instr.Cas entry l in
    let method = m.walk.method in
    let place = source_place (code_in method) in
    let at = x.entry.hand.at in
    let next : Spot = record { at = at + 1; registers = x.entry.hand.registers } in
    let changes = nothing_changes t.home (AsTrusted (Calm s c x) Trusted) x.entry.hand.registers m.mirror w.walks.ahead.sized in
    let made : Makes t s c 0 x m i 0 next m.mirror = exchange_makes t s c x m entry l s'.source w some in
    let turn = turns t s c 0 x m i 0 next m.mirror (erasing w.plan.compiled) w.walks st made in
    let y = turned x (took t s c 0 x next accessed 0 x.was_set).source (took t s c 0 x next accessed 0 x.was_set).watch in
    let there : Spot = run_from method.op method.wrapup (record { at = place (at + 1); registers = m.mirror }) in
    let got = plain_got method t.home (AsTrusted (Calm s c x) Trusted) m.path at i 0 x.entry.hand.registers m.mirror next.registers m.mirror m.walk.started x.held.got x.held.got w.here changes (λ k set. inl refl) (λ k is. is) w.gets.got in
    let b = base_turned t s' c x y.source y.watch (keeps_base t c s s' x q w.base) in
    let ahead = less_calm method t.home (Calm s c x) (Calm s' c x) (at ∷ m.path) next m.mirror there (λ calm. calm ∙ q.left.warning) turn.ahead in
    let changes' = nothing_changes t.home (AsTrusted (Calm s' c x) Trusted) x.entry.hand.registers m.mirror w.walks.ahead.sized in (
      (turn.enabled, (sym (turn.memory ∙ ap (λ (o : Option Memory). (auxiliary o s.source (place at) (place l) m.mirror).memory) some), refl, sym turn.watch)),
      (
        record { number = b.number; seen = b.seen; old = b.old; hazard = b.hazard; protects = b.protects; known = b.known; cradle = b.cradle },
        (
          record { walk = m.walk; path = at ∷ m.path; mirror = m.mirror; there = there },
          walks_along t s' c y (spot_of x.entry.hand) next m i 0 (AsTrusted (Calm s' c x) Trusted) m.mirror there accessed x.held w.plan.null f' w.here changes' (λ trusted. inl refl) ahead
              (walks_turned t s' c x (spot_of x.entry.hand) m y.source y.watch (walks_left t c s s' x (spot_of x.entry.hand) m w.shared_holds q.left w.walks)),
          stands_took t s c 0 x m i next m.mirror accessed 0 marked turn,
          gets_along t s' c y (spot_of x.entry.hand) next m i 0 (AsTrusted (Calm s' c x) Trusted) m.mirror there accessed x.held w.here refl changes' got (λ k is. is) (λ k j is a z. is) (λ gen k set. inl refl) (keeps_gets t c s s' x m w.plan.null f' q w.base w.gets),
          guards_along t s' c y (spot_of x.entry.hand) next m i 0 (AsTrusted (Calm s' c x) Trusted) m.mirror there accessed x.held w.here refl changes' guards,
        ),
      ),
    )

-- the exchange over the real core, what is shared after it being given
pub record Succeeds (t : Plan) (s s' : Shared) (c : ℕ) (x : Caller) (m : Trail t) (entry : CasEntry) (l : ℕ) : Type 0 where
  pub reads : Reads t s c x m (instr.Cas entry l)
  pub stands : Stands t x m
  pub guards : Guards t x m
  pub offers : Offers t s c x.entry.hand.registers m.mirror entry
  pub makes : exchange t.text.fields entry m.mirror s.source ≡ Some s'.source
  pub shared_holds : SharedHolds t s'
  pub goes : MayChange t c s s'
  pub keeps : Keeps t c s s'
  pub unused : s'.unused ≡ s.unused
  pub memory : s'.memory ≡ after_access s.memory (exchange_wanted t.target.fields entry x.entry.hand.registers)
  -- what it newly retires is in the slot to retire
  pub retires : (i : ℕ) → has i s'.source.retired ≡ true → (has i s.source.retired ≡ true) ⊎ ((to_retire entry.retire x.entry.hand.registers ≡ t.home i) × (t.home i ≢ 0))

-- how the core goes on if the exchange was made, by the slot to retire
goes_by_slot : (t : Plan) (s s' : Shared) (c : ℕ) (x : Caller) (m : Trail t) (entry : CasEntry) (l j : ℕ) → Succeeds t s s' c x m entry l → to_retire entry.retire x.entry.hand.registers ≡ j
    → KeptSetting t c s x (set_unless_retiring t.target x.entry x.was_set j) (after_access s.memory (exchange_wanted t.target.fields entry x.entry.hand.registers)) (told (Accesses ∷ []) (retires_then Optimistic t.target t.setting.sizes onward.Next j (with_access (counted x.entry))))
    → KeptSetting t c s x (set_plain t.target (instr.Cas entry l) (s.memory (word_of (exchange_wanted t.target.fields entry x.entry.hand.registers))) x.entry x.was_set) (after_access s.memory (exchange_wanted t.target.fields entry x.entry.hand.registers)) (plain_accepted Optimistic t.target t.setting.sizes (instr.Cas entry l) (s.memory (word_of (exchange_wanted t.target.fields entry x.entry.hand.registers))) (counted x.entry))
goes_by_slot t s s' c x m entry l j w slot k =
    let e = with_access (counted x.entry) in
    let succeeded : succeeds entry x.entry.hand.registers (s.memory (word_of (exchange_wanted t.target.fields entry x.entry.hand.registers))) ≡ true =
    tests_agree t s c x.entry.hand.registers m.mirror entry w.reads.plan.null w.reads.shared_holds w.offers ∙ ap is_some w.makes in
    subst (λ (b : Bool). KeptSetting t c s x (set_exchanged t.target entry l x.entry x.was_set b) (after_access s.memory (exchange_wanted t.target.fields entry x.entry.hand.registers))
    (told (Accesses ∷ []) (if b then retires_then Optimistic t.target t.setting.sizes onward.Next (to_retire entry.retire x.entry.hand.registers) e else cas_failed Optimistic t.target t.setting.sizes l e))) (sym succeeded)
    (subst (λ (i : ℕ). KeptSetting t c s x (set_unless_retiring t.target x.entry x.was_set i) (after_access s.memory (exchange_wanted t.target.fields entry x.entry.hand.registers)) (told (Accesses ∷ []) (retires_then Optimistic t.target t.setting.sizes onward.Next i e))) (sym slot) k)

reads_counted : (t : Plan) (s : Shared) (c : ℕ) (x : Caller) (m : Trail t) (i : Instr) → Reads t s c x m i → Reads t s c (counted_caller x) m i
reads_counted t s c x m i w = record {
  plan = w.plan;
  shared_holds = w.shared_holds;
  base = base_moved t s c x (one_more x.entry.running.steps) x.entry.counts x.entry.routine w.base;
  walks = walks_moved t s c x (spot_of x.entry.hand) m (one_more x.entry.running.steps) x.entry.counts x.entry.routine w.walks;
  gets = w.gets;
  here = w.here;
}

pub success_kept : (t : Plan) (c : ℕ) (s s' : Shared) (x : Caller) (m : Trail t) (entry : CasEntry) (l : ℕ) → Succeeds t s s' c x m entry l → to_retire entry.retire x.entry.hand.registers ≡ 0
    → KeptSetting t c s x (set_plain t.target (instr.Cas entry l) (s.memory (word_of (exchange_wanted t.target.fields entry x.entry.hand.registers))) x.entry x.was_set) (after_access s.memory (exchange_wanted t.target.fields entry x.entry.hand.registers)) (plain_accepted Optimistic t.target t.setting.sizes (instr.Cas entry l) (s.memory (word_of (exchange_wanted t.target.fields entry x.entry.hand.registers))) (counted x.entry))
success_kept t c s s' x m entry l w none =
    let y = counted_caller x in
    let next : Spot = record { at = x.entry.hand.at + 1; registers = x.entry.hand.registers } in
    let taken = success_takes t s s' c y m entry l x.entry.hand.wrapup (reads_counted t s c x m (instr.Cas entry l) w.reads) w.stands w.guards w.makes w.shared_holds w.keeps (λ e. w.reads.walks.wrapup ∙ e) in
    let z = took t s c 0 y next x.entry.hand.wrapup 0 x.was_set in
    let ended = settles_ends t s' c (made_by x z.source z.watch z.held x.was_set) next w.reads.plan w.shared_holds taken.1.0 taken.1.1 in
    goes_by_slot t s s' c x m entry l 0 w none (record {
      s' = s';
      x' = ended.x';
      memory = w.memory;
      present = λ i j. w.keeps.present j i;
      entry = ended.entry;
      names = ended.names;
      was_set = ended.was_set;
      plays = plays_first t.text c Accesses _ (point s x) (point s' z) (point s' ended.x') taken.0 w.unused ended.plays;
      shared_holds = w.shared_holds;
      goes = w.goes;
      retires = λ i is. ⊎_elim (λ (was : has i s.source.retired ≡ true). inl was)
          (λ (now : (to_retire entry.retire x.entry.hand.registers ≡ t.home i) × (t.home i ≢ 0)). absurd (now.1 (sym now.0 ∙ none))) (w.retires i is);
      caller_holds = ended.caller_holds;
    })

-- the slot to retire goes into the retire routine, after which the next instruction stands
pub success_retires : (t : Plan) (c : ℕ) (s s' : Shared) (x : Caller) (m : Trail t) (entry : CasEntry) (l j n : ℕ) → Succeeds t s s' c x m entry l → to_retire entry.retire x.entry.hand.registers ≡ suc j → IsRetiring s' c (suc j) n None
    → KeptSetting t c s x (set_plain t.target (instr.Cas entry l) (s.memory (word_of (exchange_wanted t.target.fields entry x.entry.hand.registers))) x.entry x.was_set) (after_access s.memory (exchange_wanted t.target.fields entry x.entry.hand.registers)) (plain_accepted Optimistic t.target t.setting.sizes (instr.Cas entry l) (s.memory (word_of (exchange_wanted t.target.fields entry x.entry.hand.registers))) (counted x.entry))
success_retires t c s s' x m entry l j n w some retiring =
    let y = counted_caller x in
    let next : Spot = record { at = x.entry.hand.at + 1; registers = x.entry.hand.registers } in
    let taken = success_takes t s s' c y m entry l x.entry.hand.wrapup (reads_counted t s c x m (instr.Cas entry l) w.reads) w.stands w.guards w.makes w.shared_holds w.keeps (λ e. w.reads.walks.wrapup ∙ e) in
    let z = took t s c 0 y next x.entry.hand.wrapup 0 x.was_set in
    let r = Retires (retire_begun (suc j)) onward.Next in
    let b = taken.1.0 in
    let walk = taken.1.1 in
    let k : Walks t s' c z next walk.0 = walk.1 in
    goes_by_slot t s s' c x m entry l (suc j) w some (record {
      s' = s';
      x' = record (made_by x z.source z.watch z.held x.was_set) { entry = with_routine (with_access (counted x.entry)) r };
      memory = w.memory;
      present = λ i j. w.keeps.present j i;
      entry = refl;
      names = same_names x.names false;
      was_set = refl;
      plays = plays_one t.text c Accesses (point s x) (point s' (made_by x z.source z.watch z.held x.was_set)) taken.0 w.unused;
      shared_holds = w.shared_holds;
      goes = w.goes;
      retires = λ i is. ⊎_elim (λ (was : has i s.source.retired ≡ true). inl was)
          (λ (now : (to_retire entry.retire x.entry.hand.registers ≡ t.home i) × (t.home i ≢ 0)). inr (onward.Next, ap (λ (slot : ℕ). Retires (retire_begun slot) onward.Next) (sym some ∙ now.0))) (w.retires i is);
      caller_holds = record {
        base = record { number = b.number; seen = b.seen; old = b.old; hazard = b.hazard; protects = b.protects; known = b.known; cradle = b.cradle };
        spot = (
          (n, retiring),
          (
            walk.0,
            record { call = k.call; wrapup = k.wrapup; was_set = k.was_set; first = k.first; number = k.number; start = k.start; ahead = k.ahead; generator = k.generator; kept = k.kept; shown = k.shown; sound = k.sound },
            walk.2,
            walk.3,
            walk.4,
          ),
        );
      };
    })
