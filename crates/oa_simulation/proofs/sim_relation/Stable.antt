-- What a step of one caller leaves of what is known of another.
use Rattle.std.proofs.Common.{ℕ, ◌≡◌, ◌≢◌, ◌+◌, ◌*◌, ◌≤◌, ◌<◌, ◌⊎◌, ◌∙◌, Bool, true, false, List, length, Option, Some, arith, inl, inr, ⊎_elim, sym, ap, subst}
use Rattle.std.specs.Prelude.{nat_lt}
use Rattle.std.proofs.lemmas.Bool.{cases_eq}
use Rattle.norm_lang.specs.Local.{Spot}
use Rattle.norm_lang.specs.declared.registers.Registers.{Registers}
use Rattle.norm_lang.specs.Registers.{node_in}
use Rattle.oa_words.specs.Words.{Phase, Warning}
use Rattle.guard_words.specs.Guards.{has_slot}
use Rattle.phase_pools.specs.declared.stages.SweepStage.{SweepStage}
use Rattle.phase_pools.specs.declared.stages.SweepStage.TheVariants as sweeps
use Rattle.phase_pools.specs.declared.stages.ClaimStage.{ClaimStage}
use Rattle.phase_pools.specs.declared.stages.ClaimStage.TheVariants as claims
use Rattle.phase_pools.specs.Pools.{Sweep}
use Rattle.caller_parts.specs.declared.routine.MethodStart.{MethodStart}
use Rattle.caller_parts.specs.declared.routine.MethodStart.TheVariants as starts
use Rattle.caller_parts.specs.declared.routine.AfterClear.{AfterClear}
use Rattle.caller_parts.specs.declared.routine.AfterClear.TheVariants as clears
use Rattle.caller_parts.specs.declared.routine.AfterRetire.{AfterRetire}
use Rattle.caller_parts.specs.declared.routine.AfterRetire.TheVariants as onward
use Rattle.caller_parts.specs.declared.routine.Routine.{Routine}
use Rattle.caller_parts.specs.declared.routine.Routine.TheVariants.{Idle, LoadSeen, At, InList, Retires, Restarts, Clears, Claims, Zeroes, Announces}
use Rattle.caller_steps.specs.Entries.{cradle_of, instr_in}
use Rattle.caller_parts.specs.Operands.{list_of}
use Rattle.target_laws.specs.Methods.{code_in}
use Rattle.run_ahead.specs.Following.{Walk}
use Rattle.run_ahead.proofs.Quiet.{less_calm}
use Rattle.oa_simulation.specs.sim_relation.Views.{Plan, Held, Shared, Caller, link, Resident, Apart}
use Rattle.oa_simulation.specs.sim_relation.Shared.{SharedHolds}
use Rattle.oa_simulation.specs.sim_relation.Callers.{spot_of, tag_at, Own, Known, Calm, Base, Sound, HasMade, Trail, Walks, Gets, Running, AtNew, Begins, AfterExchange, IsRetiring, Sweeps, SweepAt, ClaimAt, Zeroed, GoesOn, BeginsAt, ClearsAt, HoldsAt, CallerHolds}
use Rattle.oa_simulation.specs.sim_relation.MayChange.{MayChange}
use Rattle.oa_simulation.proofs.sim_relation.Names.{residents_apart, KeepsNames, own_kept, known_kept, shown_kept, made_kept}

-- what is another's own stays
names_stay : (t : Plan) (c d : ℕ) (s s' : Shared) → MayChange t c s s' → d ≢ c → KeepsNames d s s'
names_stay t c d s s' g ne = record { held = λ j k own. (let h = g.held j d k ne own in (h.0, h.1)); public = g.public }

pub stable_own : (t : Plan) (c d : ℕ) (s s' : Shared) (n : ℕ) → MayChange t c s s' → d ≢ c → Own t s d n → Own t s' d n
stable_own t c d s s' n g ne own = own_kept t d s s' n (names_stay t c d s s' g ne) own

pub stable_known : (t : Plan) (c d : ℕ) (s s' : Shared) (n : ℕ) → MayChange t c s s' → d ≢ c → Known t s d n → Known t s' d n
stable_known t c d s s' n g ne known = known_kept t d s s' n (names_stay t c d s s' g ne) known

-- a step may warn the caller, and never calms it
pub calm_before : (t : Plan) (c d : ℕ) (s s' : Shared) (x : Caller) → MayChange t c s s' → Base t s d x → Calm s' d x → Calm s d x
calm_before t c d s s' x g b calm = let same : x.entry.hand.seen ≡ s'.memory (Warning d) = calm in omega (arith, b.seen, g.warning d, same)

pub stable_base : (t : Plan) (c d : ℕ) (s s' : Shared) (x : Caller) → MayChange t c s s' → SharedHolds t s → d ≢ c → Base t s d x → Base t s' d x
stable_base t c d s s' x g f ne b = record {
  number = b.number;
  seen = omega (arith, b.seen, g.warning d);
  old = λ n p is lt. ⊎_elim (λ was. b.old n p was lt) (λ le. absurd (omega (arith, b.seen, f.warning d, le, lt))) (g.tag n p is);
  hazard = λ r. g.hazard d r ne ∙ b.hazard r;
  protects = λ r. g.protects d r ne ∙ b.protects r;
  known = λ n got. stable_known t c d s s' n g ne (b.known n got);
  cradle = λ k some. (g.held (cradle_of x.entry k) d k ne (b.cradle k some)).0;
}

pub stable_sound : (t : Plan) (c d : ℕ) (s s' : Shared) (x : Caller) (walk : Walk t.target t.text) (path : List ℕ) (mirror : Registers) → MayChange t c s s' → SharedHolds t s' → d ≢ c → Base t s d x
    → Sound t s d x walk path mirror → Sound t s' d x walk path mirror
stable_sound t c d s s' x walk path mirror g f ne b w = record {
  word = λ calm. w.word (calm_before t c d s s' x g b calm);
  apart = λ gen r e trusted some.
      let at : s'.protects d e ≡ s.protects d e = g.protects d e ne in
      rw at (w.apart gen r e trusted (λ z. some (at ∙ z)));
  pairs = λ o e i own some some'.
      let at_o : s'.protects d o ≡ s.protects d o = g.protects d o ne in
      let at_e : s'.protects d e ≡ s.protects d e = g.protects d e ne in
      ⊎_elim
      (λ (same : link s' (s'.protects d o) i ≡ link s (s'.protects d o) i).
      let was : Apart t (link s (s.protects d o) i) (s.protects d e) = w.pairs o e i own (λ z. some (at_o ∙ z)) (λ z. some' (at_e ∙ z)) in
      λ e'. let k = was (ap t.home (sym (same ∙ ap (λ (n : ℕ). link s n i) at_o)) ∙ (e' ∙ ap t.home at_e)) in same ∙ (ap (λ (n : ℕ). link s n i) at_o ∙ (k ∙ sym at_e)))
      (λ (k : Resident t s' (link s' (s'.protects d o) i) ⊎ (((k : ℕ) × (s'.owner (t.home (s'.protects d o)) ≡ Held c k)) × (s'.public (s'.protects d o) ≡ false))). ⊎_elim
      (λ (new : Resident t s' (link s' (s'.protects d o) i)). residents_apart t s' (link s' (s'.protects d o) i) (s'.protects d e) new (f.guard d e some').resident)
      (λ (own : ((k : ℕ) × (s'.owner (t.home (s'.protects d o)) ≡ Held c k)) × (s'.public (s'.protects d o) ≡ false)). absurd (⊎_elim
      (λ (p : s'.public (s'.protects d o) ≡ true). let z : false ≡ true = sym own.1 ∙ p in cc)
      (λ (h' : (k : ℕ) × (s'.owner (t.home (s'.protects d o)) ≡ Held d k)). ne (let z : Held d h'.0 ≡ Held c own.0.0 = sym h'.1 ∙ own.0.1 in cc))
      (f.mine d o some)))
      k)
      (g.link (s'.protects d o) i);
}

pub stable_walks : (t : Plan) (c d : ℕ) (s s' : Shared) (x : Caller) (core : Spot) (m : Trail t) → MayChange t c s s' → SharedHolds t s' → d ≢ c → Base t s d x → Walks t s d x core m → Walks t s' d x core m
stable_walks t c d s s' x core m g f' ne b w = record {
  call = w.call;
  wrapup = w.wrapup;
  was_set = w.was_set;
  first = w.first;
  number = w.number;
  start = w.start;
  generator = w.generator;
  ahead = less_calm m.walk.method t.home (Calm s d x) (Calm s' d x) m.path core m.mirror m.there (calm_before t c d s s' x g b) w.ahead;
  kept = w.kept;
  shown = λ r is. shown_kept s s' (node_in m.walk.started r) g.public (w.shown r is);
  sound = stable_sound t c d s s' x m.walk m.path m.mirror g f' ne b w.sound;
}

-- ---- a step of the caller's own that leaves its warning and its guards: what it links is as before, or resident

pub record LeavesGuards (t : Plan) (c : ℕ) (s s' : Shared) : Type 0 where
  pub warning : s'.memory (Warning c) ≡ s.memory (Warning c)
  pub protects : (r : ℕ) → s'.protects c r ≡ s.protects c r
  pub links : (n g : ℕ) → (link s' n g ≡ link s n g) ⊎ Resident t s (link s' n g)
  pub public : (n : ℕ) → s.public n ≡ true → s'.public n ≡ true

pub walks_left : (t : Plan) (c : ℕ) (s s' : Shared) (x : Caller) (core : Spot) (m : Trail t) → SharedHolds t s → LeavesGuards t c s s' → Walks t s c x core m → Walks t s' c x core m
walks_left t c s s' x core m f q w = record {
  call = w.call;
  wrapup = w.wrapup;
  was_set = w.was_set;
  first = w.first;
  number = w.number;
  start = w.start;
  generator = w.generator;
  kept = w.kept;
  shown = λ r is. shown_kept s s' (node_in m.walk.started r) q.public (w.shown r is);
  ahead = less_calm m.walk.method t.home (Calm s c x) (Calm s' c x) m.path core m.mirror m.there (λ calm. calm ∙ q.warning) w.ahead;
  sound = record {
    word = λ calm. w.sound.word (calm ∙ q.warning);
    apart = λ gen r e trusted some. rw (q.protects e) (w.sound.apart gen r e trusted (λ z. some (q.protects e ∙ z)));
    pairs = λ o e g free some some'. rw (q.protects o, q.protects e) (pair o e g (w.sound.pairs o e g free (λ z. some (q.protects o ∙ z)) (λ z. some' (q.protects e ∙ z))) (λ z. some' (q.protects e ∙ z)) (q.links (s.protects c o) g));
  };
} where
  pair : (o e g : ℕ) → Apart t (link s (s.protects c o) g) (s.protects c e) → s.protects c e ≢ 0 → (link s' (s.protects c o) g ≡ link s (s.protects c o) g) ⊎ Resident t s (link s' (s.protects c o) g) → Apart t (link s' (s.protects c o) g) (s.protects c e)
  pair o e g was some (inl same) = subst (λ (j : ℕ). Apart t j (s.protects c e)) (sym same) was
  pair o e g was some (inr new) = residents_apart t s (link s' (s.protects c o) g) (s.protects c e) new (f.guard c e some).resident

pub stable_gets : (t : Plan) (c d : ℕ) (s s' : Shared) (x : Caller) (m : Trail t) → t.home 0 ≡ 0 → MayChange t c s s' → SharedHolds t s' → d ≢ c → Base t s d x → Gets t s d x m → Gets t s' d x m
stable_gets t c d s s' x m null_home g f' ne b w = record {
  got = w.got;
  named = w.named;
  fresh = λ gen r is. stable_own t c d s s' (node_in m.mirror r) g ne (w.fresh gen r is);
  shown = λ gen r is. shown_kept s s' (node_in m.mirror r) g.public (w.shown gen r is);
  made = λ n k got. made_kept t d s s' (λ i. HasMade (code_in m.walk.method) m.path i) n null_home (names_stay t c d s s' g ne) f' (b.known n got) (λ i. w.made n i got) k;
}

pub stable_begins : (t : Plan) (c d : ℕ) (s s' : Shared) (x : Caller) (walk : Walk t.target t.text) → MayChange t c s s' → d ≢ c → Begins t s d x walk → Begins t s' d x walk
stable_begins t c d s s' x walk g ne b = record {
  call = b.call;
  first = b.first;
  number = b.number;
  start = b.start;
  generator = b.generator;
  stands = b.stands;
  got = b.got;
  tied = b.tied;
  settled = b.settled;
  kept = b.kept;
  shown = λ r is. shown_kept s s' (node_in walk.started r) g.public (b.shown r is);
}

pub stable_retires : (t : Plan) (c d : ℕ) (s s' : Shared) (j n : ℕ) (o : Option ℕ) → MayChange t c s s' → d ≢ c → IsRetiring s d j n o → IsRetiring s' d j n o
stable_retires t c d s s' j n o g ne r =
    let k = g.retiring j d ne r.owner in
    record { owner = k.0; present = k.1 ∙ r.present; tag_is = ap s'.tag (sym r.present) ∙ (k.2 ∙ (ap s.tag r.present ∙ r.tag_is)) }

-- the guard (d, r) after the step, of which a sweep that has passed it knows
stable_gathered : (t : Plan) (c : ℕ) (s s' : Shared) (p x m : ℕ) (l : List ℕ) → MayChange t c s s' → Sweeps t s p x m l
    → (d r q : ℕ) → 8 * d + r < m → s'.protects d r ≢ 0 → s'.tag (s'.protects d r) ≡ Some q → q < p → s'.protects d r ≡ s.protects d r → has_slot l (t.home (s'.protects d r)) ≡ true
stable_gathered t c s s' p x m l g w d r q lt some is below same =
    let there : s.protects d r ≢ 0 = λ z. some (same ∙ z) in
    let tagged : s.tag (s.protects d r) ≡ Some q = ⊎_elim (λ (was : s.tag (s'.protects d r) ≡ Some q). ap s.tag (sym same) ∙ was) (λ (le : s.memory Phase ≤ q). absurd (omega (arith, w.raised, le, below))) (g.tag (s'.protects d r) q is) in
    ap (λ (k : ℕ). has_slot l k) (ap t.home same) ∙ w.gathered d r q lt there tagged below

pub stable_sweeps : (t : Plan) (c : ℕ) (s s' : Shared) (p x m : ℕ) (l : List ℕ) → MayChange t c s s' → SharedHolds t s' → m ≤ 8 * x → Sweeps t s p x m l → Sweeps t s' p x m l
stable_sweeps t c s s' p x m l g f all w = record {
  raised = omega (arith, w.raised, g.phase);
  warned = λ d lt. omega (arith, w.warned d lt, g.warning d);
  gathered = λ d r q lt some is below. ⊎_elim
      (λ (same : d ≡ c). ⊎_elim
      (λ (old : s'.protects c r ≡ s.protects c r). stable_gathered t c s s' p x m l g w d r q lt some is below (ap (λ (k : ℕ). s'.protects k r) same ∙ (old ∙ ap (λ (k : ℕ). s.protects k r) (sym same))))
      (λ (new : s'.tag (s'.protects c r) ≡ Some q → s'.memory (Warning c) ≤ q).
      let le : s'.memory (Warning c) ≤ q = new (ap (λ (k : ℕ). s'.tag (s'.protects k r)) (sym same) ∙ is) in
      let lt8 : r < 8 = (f.guard d r some).register in
      absurd (omega (arith, w.warned c (omega arith), g.warning c)))
      (g.validated r q (λ z. some (ap (λ (k : ℕ). s'.protects k r) same ∙ z))))
      (λ (ne : d ≢ c). stable_gathered t c s s' p x m l g w d r q lt some is below (g.protects d r ne))
      (cases_eq d c);
}

pub stable_sweep : (t : Plan) (c : ℕ) (s s' : Shared) (p : ℕ) (l : List ℕ) (stage : SweepStage) → MayChange t c s s' → SharedHolds t s' → SweepAt t s p l stage → SweepAt t s' p l stage
stable_sweep t c s s' p l sweeps.ReadPhase g f w = tt
stable_sweep t c s s' p l (sweeps.RaisePhase q) g f w = let le : q ≤ s.memory Phase = w in omega (arith, le, g.phase)
stable_sweep t c s s' p l (sweeps.Warn x) g f w = (stable_sweeps t c s s' p x 0 l g f (omega arith) w.0, w.1)
stable_sweep t c s s' p l (sweeps.ReadHazard x r) g f w = (stable_sweeps t c s s' p t.setting.sizes.callers (8 * x + r) l g f (omega (arith, w.1, w.2)) w.0, w.1, w.2)
stable_sweep t c s s' p l (sweeps.MakeReady j q) g f w = (stable_sweeps t c s s' p t.setting.sizes.callers (8 * t.setting.sizes.callers) l g f (omega arith) w.0, w.1, w.2)
stable_sweep t c s s' p l _ g f w = stable_sweeps t c s s' p t.setting.sizes.callers (8 * t.setting.sizes.callers) l g f (omega arith) w

pub stable_claim : (t : Plan) (c : ℕ) (s s' : Shared) (sweep : Sweep) (stage : ClaimStage) → MayChange t c s s' → SharedHolds t s' → ClaimAt t s sweep stage → ClaimAt t s' sweep stage
stable_claim t c s s' sweep claims.ReadHead g f w = tt
stable_claim t c s s' sweep (claims.Withdraw own) g f w = tt
stable_claim t c s s' sweep claims.Sweeps g f w = stable_sweep t c s s' sweep.bound sweep.gathered sweep.stage g f w
stable_claim t c s s' sweep _ g f w = w

pub stable_running : (t : Plan) (c d : ℕ) (s s' : Shared) (x : Caller) (core : Spot) → t.home 0 ≡ 0 → MayChange t c s s' → SharedHolds t s' → d ≢ c → Base t s d x → Running t s d x core → Running t s' d x core
stable_running t c d s s' x core null_home g f' ne b w = (w.0, stable_walks t c d s s' x core w.0 g f' ne b w.1, w.2, stable_gets t c d s s' x w.0 null_home g f' ne b w.3, w.4)

pub stable_new : (t : Plan) (c d : ℕ) (s s' : Shared) (x : Caller) (core : Spot) → t.home 0 ≡ 0 → MayChange t c s s' → SharedHolds t s' → d ≢ c → Base t s d x → AtNew t s d x core → AtNew t s' d x core
stable_new t c d s s' x core null_home g f' ne b w = (w.0, stable_walks t c d s s' x core w.0 g f' ne b w.1, w.2, stable_gets t c d s s' x w.0 null_home g f' ne b w.3)

pub stable_behind : (t : Plan) (c d : ℕ) (s s' : Shared) (x : Caller) (made : ℕ) (more : Bool) → MayChange t c s s' → SharedHolds t s' → d ≢ c → Base t s d x → AfterExchange t s d x made more → AfterExchange t s' d x made more
stable_behind t c d s s' x made true g f' ne b w = (w.0, stable_walks t c d s s' x (spot_of x.entry.hand) w.0 g f' ne b w.1, w.2, w.3, w.4, (λ r is. shown_kept s s' (node_in w.0.mirror r) g.public (w.5 r is)))
stable_behind t c d s s' x made false g f' ne b w = (w.0, stable_walks t c d s s' x (spot_of x.entry.hand) w.0 g f' ne b w.1, w.2, w.3, w.4, w.5, w.6, (λ r is. shown_kept s s' (node_in w.0.mirror r) g.public (w.7 r is)))

stable_onward : (t : Plan) (c d : ℕ) (s s' : Shared) (x : Caller) (go : AfterRetire) → t.home 0 ≡ 0 → MayChange t c s s' → SharedHolds t s' → d ≢ c → Base t s d x → GoesOn t s d x go → GoesOn t s' d x go
stable_onward t c d s s' x onward.Next null_home g f' ne b w = stable_running t c d s s' x (record { at = x.entry.hand.at + 1; registers = x.entry.hand.registers }) null_home g f' ne b w
stable_onward t c d s s' x (onward.List k) null_home g f' ne b w = stable_behind t c d s s' x (k + 1) (nat_lt (k + 1) (length (list_of (instr_in t.target x.entry)))) g f' ne b w

stable_beginning : (t : Plan) (c d : ℕ) (s s' : Shared) (x : Caller) (why : MethodStart) → MayChange t c s s' → d ≢ c → BeginsAt t s d x why → BeginsAt t s' d x why
stable_beginning t c d s s' x starts.Begin g ne w = w
stable_beginning t c d s s' x starts.WrapUp g ne w = (w.0, stable_begins t c d s s' x w.0 g ne w.1, w.2, w.3)
stable_beginning t c d s s' x starts.Again g ne w = (w.0, stable_begins t c d s s' x w.0 g ne w.1, w.2, w.3)

stable_then : (t : Plan) (c d : ℕ) (s s' : Shared) (x : Caller) (next : AfterClear) → t.home 0 ≡ 0 → MayChange t c s s' → SharedHolds t s' → d ≢ c → Base t s d x → ClearsAt t s d x next → ClearsAt t s' d x next
stable_then t c d s s' x clears.New null_home g f' ne b w = stable_new t c d s s' x (spot_of x.entry.hand) null_home g f' ne b w
stable_then t c d s s' x clears.WrapUp null_home g f' ne b w = (w.0, stable_begins t c d s s' x w.0 g ne w.1, w.2)
stable_then t c d s s' x (clears.Reply reply) null_home g f' ne b w = w
stable_then t c d s s' x clears.Again null_home g f' ne b w = (w.0, stable_begins t c d s s' x w.0 g ne w.1, w.2)

pub stable_zeroed : (t : Plan) (c d k : ℕ) (s s' : Shared) (j field : ℕ) → MayChange t c s s' → d ≢ c → s.owner j ≡ Held d k → Zeroed s j field → Zeroed s' j field
stable_zeroed t c d k s s' j field g ne own z = let h = g.held j d k ne own in ((λ some. h.1 ∙ z.0 some), (λ i lt. h.2 i ∙ z.1 i lt))

pub stable_spot : (t : Plan) (c d : ℕ) (s s' : Shared) (x : Caller) (r : Routine) → t.home 0 ≡ 0 → MayChange t c s s' → SharedHolds t s' → d ≢ c → Base t s d x → HoldsAt t s d x r → HoldsAt t s' d x r
stable_spot t c d s s' x Idle null_home g f' ne b w = w
stable_spot t c d s s' x (LoadSeen why) null_home g f' ne b w = stable_beginning t c d s s' x why g ne w
stable_spot t c d s s' x At null_home g f' ne b w = stable_running t c d s s' x (spot_of x.entry.hand) null_home g f' ne b w
stable_spot t c d s s' x (InList k) null_home g f' ne b w = stable_behind t c d s s' x k true g f' ne b w
stable_spot t c d s s' x (Retires retirement go) null_home g f' ne b w =
    ((w.0.0, stable_retires t c d s s' retirement.slot w.0.0 (tag_at retirement.stage) g ne w.0.1), stable_onward t c d s s' x go null_home g f' ne b w.1)
stable_spot t c d s s' x Restarts null_home g f' ne b w = (w.0, stable_begins t c d s s' x w.0 g ne w.1, w.2)
stable_spot t c d s s' x (Clears next) null_home g f' ne b w = stable_then t c d s s' x next null_home g f' ne b w
stable_spot t c d s s' x (Claims claim) null_home g f' ne b w =
    (stable_claim t c s s' claim.sweep claim.stage g f' w.0, stable_new t c d s s' x (spot_of x.entry.hand) null_home g f' ne b w.1, w.2)
stable_spot t c d s s' x (Zeroes k field) null_home g f' ne b w =
    (w.0, stable_zeroed t c d k s s' (cradle_of x.entry k) field g ne (b.cradle k w.0) w.1, stable_new t c d s s' x (spot_of x.entry.hand) null_home g f' ne b w.2, w.3)
stable_spot t c d s s' x (Announces announcing) null_home g f' ne b w = absurd w

-- all that is known of another caller stays
pub stable : (t : Plan) (c d : ℕ) (s s' : Shared) (x : Caller) → t.home 0 ≡ 0 → MayChange t c s s' → SharedHolds t s → SharedHolds t s' → d ≢ c → CallerHolds t s d x → CallerHolds t s' d x
stable t c d s s' x null_home g f f' ne w = record { base = stable_base t c d s s' x g f ne w.base; spot = stable_spot t c d s s' x x.entry.routine null_home g f' ne w.base w.spot }
