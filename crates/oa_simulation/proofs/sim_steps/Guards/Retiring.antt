-- The retire routine: its load gives the tag, its store the status, and the caller goes on.
use Rattle.std.proofs.Common.{ℕ, ◌≡◌, ◌≢◌, ◌+◌, ◌<◌, ◌∙◌, Bool, true, false, List, length, Option, Some, None, arith, inl, inr, ⊎_elim, sym, ap, refl, if◌then◌else◌}
use Rattle.std.specs.Prelude.{nat_lt}
use Rattle.std.proofs.lemmas.Bool.{cases_eq}
use Rattle.norm_lang.specs.declared.text.CasEntry.{CasEntry}
use Rattle.norm_lang.specs.declared.text.Instr.TheVariants as instr
use Rattle.norm_lang.specs.Local.{Spot}
use Rattle.target_code.specs.declared.target.TargetInstr.TheVariants.{Plain}
use Rattle.oa_words.specs.declared.packed.Kind.TheVariants as kinds
use Rattle.oa_words.specs.Words.{Phase, Status}
use Rattle.oa_words.specs.Memories.{store}
use Rattle.oa_words.specs.Packed.{status_word}
use Rattle.phase_pools.specs.declared.stages.RetireStage.TheVariants as retires
use Rattle.source_machine.specs.MethodRuns.{put}
use Rattle.source_machine.specs.Proper.{has}
use Rattle.source_machine.proofs.Places.{each_put, put_same, put_other}
use Rattle.caller_parts.specs.declared.routine.AfterRetire.{AfterRetire}
use Rattle.caller_parts.specs.declared.routine.AfterRetire.TheVariants as onward
use Rattle.caller_parts.specs.declared.routine.Routine.{Routine}
use Rattle.caller_parts.specs.declared.routine.Routine.TheVariants.{At, InList, Retires}
use Rattle.caller_steps.specs.Entries.{one_more, instr_in, cradle_of}
use Rattle.caller_parts.specs.Operands.{list_of}
use Rattle.caller_steps.specs.After.{counted, with_routine, retired_on, list_ended}
use Rattle.caller_steps.specs.declared.entry.Counts.{Counts}
use Rattle.oa_simulation.proofs.sim_steps.Walks.Local.{at_spot}
use Rattle.oa_simulation.specs.sim_relation.Callers.{Running}
use Rattle.oa_simulation.proofs.sim_steps.Walks.Stopping.{settles_ends}
use Rattle.oa_simulation.specs.sim_relation.Views.{Plan, IsPlan, Held, Retiring, Dead, Shared, Caller}
use Rattle.oa_simulation.specs.sim_relation.Shared.{SharedHolds}
use Rattle.oa_simulation.specs.sim_relation.Callers.{Own, Known, Base, Trail, Walks, Gets, AfterExchange, GoesOn, IsRetiring, spot_of}
use Rattle.caller_steps.specs.Signs.{quiet}
use Rattle.oa_simulation.specs.sim_relation.Points.{done}
use Rattle.oa_simulation.specs.sim_relation.Steps.{Kept, KeptSetting, Ends, moved}
use Rattle.oa_simulation.specs.sim_relation.WasSet.{set_onward}
use Rattle.oa_simulation.proofs.sim_relation.Words.{store_idle}
use Rattle.oa_simulation.proofs.sim_relation.Moving.{base_moved, walks_moved, running_moved, same_names}
use Rattle.oa_simulation.proofs.sim_steps.Pools.Slots.{with_tag, with_status, tagged, marked}
use Rattle.oa_simulation.proofs.sim_steps.Walks.Quieting.{ends_quiet}
use Rattle.oa_simulation.proofs.sim_steps.Guards.Unguarding.{kept_ends}
use Rattle.oa_simulation.proofs.sim_relation.Codes.{instr_is}
use Rattle.oa_simulation.proofs.sim_steps.Walks.Committing.{list_ends}
use Rattle.caller_parts.specs.declared.setting.Reclamation.TheVariants.{Optimistic}

-- ---- the load

walks_tagged : (t : Plan) (s : Shared) (c n : ℕ) (x : Caller) (core : Spot) (m : Trail t) → Walks t s c x core m → Walks t (with_tag s n) c x core m
walks_tagged t s c n x core m w = record { call = w.call; wrapup = w.wrapup; was_set = w.was_set; first = w.first; number = w.number; start = w.start; generator = w.generator; ahead = w.ahead; kept = w.kept; shown = w.shown; sound = w.sound }

behind_tagged : (t : Plan) (s : Shared) (c n : ℕ) (x : Caller) (made : ℕ) (b : Bool) → AfterExchange t s c x made b → AfterExchange t (with_tag s n) c x made b
behind_tagged t s c n x made true w = (w.0, walks_tagged t s c n x (spot_of x.entry.hand) w.0 w.1, w.2, w.3, w.4, w.5)
behind_tagged t s c n x made false w = (w.0, walks_tagged t s c n x (spot_of x.entry.hand) w.0 w.1, w.2, w.3, w.4, w.5, w.6, w.7)

goes_tagged : (t : Plan) (s : Shared) (c n : ℕ) (x : Caller) (go : AfterRetire) → GoesOn t s c x go → GoesOn t (with_tag s n) c x go
goes_tagged t s c n x onward.Next w = (w.0, walks_tagged t s c n x (record { at = x.entry.hand.at + 1; registers = x.entry.hand.registers }) w.0 w.1, w.2, w.3, w.4)
goes_tagged t s c n x (onward.List k) w = behind_tagged t s c n x (k + 1) (nat_lt (k + 1) (length (list_of (instr_in t.target x.entry)))) w

behind_moved : (t : Plan) (s : Shared) (c : ℕ) (x : Caller) (made : ℕ) (b : Bool) (p : ℕ) (q : Counts) (r : Routine) → AfterExchange t s c x made b → AfterExchange t s c (moved x p q r) made b
behind_moved t s c x made true p q r w = (w.0, walks_moved t s c x (spot_of x.entry.hand) w.0 p q r w.1, w.2, w.3, w.4, w.5)
behind_moved t s c x made false p q r w = (w.0, walks_moved t s c x (spot_of x.entry.hand) w.0 p q r w.1, w.2, w.3, w.4, w.5, w.6, w.7)

goes_moved : (t : Plan) (s : Shared) (c : ℕ) (x : Caller) (go : AfterRetire) (p : ℕ) (q : Counts) (r : Routine) → GoesOn t s c x go → GoesOn t s c (moved x p q r) go
goes_moved t s c x onward.Next p q r w = running_moved t s c x (record { at = x.entry.hand.at + 1; registers = x.entry.hand.registers }) p q r w
goes_moved t s c x (onward.List i) p q r w = behind_moved t s c x (i + 1) (nat_lt (i + 1) (length (list_of (instr_in t.target x.entry)))) p q r w

base_tagged : (t : Plan) (s : Shared) (c n : ℕ) (x : Caller) → SharedHolds t s → Base t s c x → Base t (with_tag s n) c x
base_tagged t s c n x f b = record {
  number = b.number;
  seen = b.seen;
  hazard = b.hazard;
  protects = b.protects;
  known = b.known;
  cradle = b.cradle;
  old = each_put (λ i (o : Option ℕ). (p : ℕ) → o ≡ Some p → p < x.entry.hand.seen → has i x.held.old ≡ true) s.tag n (Some (s.memory Phase))
      (λ p is lt. let e : s.memory Phase ≡ p = cc in absurd (omega (arith, e, lt, b.seen, f.warning c))) (λ i ne. b.old i);
}

pub retire_loads : (t : Plan) (c : ℕ) (s : Shared) (x : Caller) (slot n : ℕ) (go : AfterRetire) → SharedHolds t s → Base t s c x → IsRetiring s c slot n None → GoesOn t s c x go
    → Kept t c s x (store s.memory Phase (s.memory Phase)) (retired_on Optimistic t.target t.setting.sizes go (Some (record { slot = slot; stage = retires.StoreStatus (s.memory Phase) })) (counted x.entry))
retire_loads t c s x slot n go f b r w =
    let step = tagged t s c slot n f r in
    let next : Routine = Retires (record { slot = slot; stage = retires.StoreStatus (s.memory Phase) }) go in
    record {
      s' = with_tag s n;
      x' = moved x (one_more x.entry.running.steps) x.entry.counts next;
      memory = store_idle s.memory Phase;
      present = refl;
      entry = refl;
      names = same_names x.names false;
      was_set = refl;
      plays = done _;
      shared_holds = step.0;
      goes = step.1;
      retires = λ n is. inl is;
      caller_holds = record {
        base = base_moved t (with_tag s n) c x (one_more x.entry.running.steps) x.entry.counts next (base_tagged t s c n x f b);
        spot = (
          (n, record { owner = r.owner; present = r.present; tag_is = put_same s.tag n (Some (s.memory Phase)) }),
          goes_moved t (with_tag s n) c x go (one_more x.entry.running.steps) x.entry.counts next (goes_tagged t s c n x go w),
        );
      };
    }

-- ---- the store

-- a slot of the caller's cradles isn't the one that is retired
held_still : (s : Shared) (c j k i : ℕ) (word : ℕ) → s.owner j ≡ Retiring c → s.owner i ≡ Held c k → (with_status s j Dead word).owner i ≡ Held c k
held_still s c j k i word retiring own = put_other s.owner j i Dead (λ e. let z : Held c k ≡ Retiring c = sym own ∙ (ap s.owner e ∙ retiring) in cc) ∙ own

held_before : (s : Shared) (c j k i : ℕ) (word : ℕ) → (with_status s j Dead word).owner i ≡ Held c k → s.owner i ≡ Held c k
held_before s c j k i word own = ⊎_elim
    (λ (e : i ≡ j). absurd (let z : Dead ≡ Held c k = sym (put_same s.owner j Dead) ∙ (ap (λ (l : ℕ). put s.owner j Dead l) (sym e) ∙ own) in cc))
    (λ (ne : i ≢ j). sym (put_other s.owner j i Dead ne) ∙ own)
    (cases_eq i j)

own_status : (t : Plan) (s : Shared) (c j n : ℕ) (word : ℕ) → s.owner j ≡ Retiring c → Own t s c n → Own t (with_status s j Dead word) c n
own_status t s c j n word retiring own = (own.0, held_still s c j own.0 (t.home n) word retiring own.1, own.2)

known_status : (t : Plan) (s : Shared) (c j n : ℕ) (word : ℕ) → s.owner j ≡ Retiring c → Known t s c n → Known t (with_status s j Dead word) c n
known_status t s c j n word retiring (inl z) = inl z
known_status t s c j n word retiring (inr (inl p)) = inr (inl p)
known_status t s c j n word retiring (inr (inr own)) = inr (inr (own_status t s c j n word retiring own))

base_status : (t : Plan) (s : Shared) (c j : ℕ) (word : ℕ) (x : Caller) → s.owner j ≡ Retiring c → Base t s c x → Base t (with_status s j Dead word) c x
base_status t s c j word x retiring b = record {
  number = b.number;
  seen = b.seen;
  old = b.old;
  hazard = b.hazard;
  protects = b.protects;
  known = λ n got. known_status t s c j n word retiring (b.known n got);
  cradle = λ k full. held_still s c j k (cradle_of x.entry k) word retiring (b.cradle k full);
}

walks_status : (t : Plan) (s : Shared) (c j : ℕ) (word : ℕ) (x : Caller) (core : Spot) (m : Trail t) → Walks t s c x core m → Walks t (with_status s j Dead word) c x core m
walks_status t s c j word x core m w = record { call = w.call; wrapup = w.wrapup; was_set = w.was_set; first = w.first; number = w.number; start = w.start; generator = w.generator; ahead = w.ahead; kept = w.kept; shown = w.shown; sound = w.sound }

gets_status : (t : Plan) (s : Shared) (c j : ℕ) (word : ℕ) (x : Caller) (m : Trail t) → s.owner j ≡ Retiring c → Gets t s c x m → Gets t (with_status s j Dead word) c x m
gets_status t s c j word x m retiring g = record {
  got = g.got;
  named = g.named;
  shown = g.shown;
  fresh = λ gen r is. own_status t s c j _ word retiring (g.fresh gen r is);
  made = λ n k got own here. g.made n k got (held_before s c j k (t.home n) word own) here;
}

behind_status : (t : Plan) (s : Shared) (c j : ℕ) (word : ℕ) (x : Caller) (made : ℕ) (b : Bool) → AfterExchange t s c x made b → AfterExchange t (with_status s j Dead word) c x made b
behind_status t s c j word x made true w = (w.0, walks_status t s c j word x (spot_of x.entry.hand) w.0 w.1, w.2, w.3, w.4, w.5)
behind_status t s c j word x made false w = (w.0, walks_status t s c j word x (spot_of x.entry.hand) w.0 w.1, w.2, w.3, w.4, w.5, w.6, w.7)

-- the store, and the list's next exchange, or the wrap-up's start
pub retire_stores_in_list : (t : Plan) (c : ℕ) (s : Shared) (x : Caller) (slot n p k : ℕ) (entries : List CasEntry) → IsPlan t → SharedHolds t s → Base t s c x → IsRetiring s c slot n (Some p) → GoesOn t s c x (onward.List k)
    → instr_in t.target x.entry ≡ Some (Plain (instr.Commit entries))
    → Kept t c s x (store s.memory (Status slot) (status_word p kinds.Retired)) (retired_on Optimistic t.target t.setting.sizes (onward.List k) None (counted x.entry))
unfolding behind_moved behind_status
retire_stores_in_list t c s x slot n p k entries plan f b r w commit =
    let step = marked t s c slot n p f r in
    kept_ends t c s (with_status s slot Dead (status_word p kinds.Retired)) x y (retired_on Optimistic t.target t.setting.sizes (onward.List k) None (counted x.entry)) _ step.0 step.1 refl refl refl
    (ends (nat_lt (k + 1) (length (list_of (instr_in t.target x.entry)))) w)
  where
    y : Caller
    y = moved x (one_more x.entry.running.steps) x.entry.counts At

    b' : Base t (with_status s slot Dead (status_word p kinds.Retired)) c (moved x (one_more x.entry.running.steps) x.entry.counts At)
    b' = base_moved t _ c x (one_more x.entry.running.steps) x.entry.counts At (base_status t s c slot (status_word p kinds.Retired) x r.owner b)

    next : (more : Bool) → AfterExchange t s c x (k + 1) more → AfterExchange t (with_status s slot Dead (status_word p kinds.Retired)) c (moved x (one_more x.entry.running.steps) x.entry.counts At) (k + 1) more
    next more w = behind_moved t _ c x (k + 1) more (one_more x.entry.running.steps) x.entry.counts At (behind_status t s c slot (status_word p kinds.Retired) x (k + 1) more w)

    ends : (more : Bool) → AfterExchange t s c x (k + 1) more
        → Ends t (with_status s slot Dead (status_word p kinds.Retired)) c (moved x (one_more x.entry.running.steps) x.entry.counts At)
        (quiet (if more then with_routine (moved x (one_more x.entry.running.steps) x.entry.counts At).entry (InList (k + 1)) else list_ended t.target t.setting.sizes (k + 1) (moved x (one_more x.entry.running.steps) x.entry.counts At).entry))
    ends true w = ends_quiet t _ c (moved x (one_more x.entry.running.steps) x.entry.counts At) (InList (k + 1)) b'
        (behind_moved t _ c (moved x (one_more x.entry.running.steps) x.entry.counts At) (k + 1) true (one_more x.entry.running.steps) x.entry.counts (InList (k + 1)) (next true w))
    ends false w =
        let v = next false w in
        list_ends t _ c (moved x (one_more x.entry.running.steps) x.entry.counts At) (k + 1) entries plan b' v (sym (instr_is t s c x (spot_of x.entry.hand) w.0 w.1) ∙ commit)

-- the store after an auxiliary exchange, and the local code after it
pub retire_stores_next : (t : Plan) (c : ℕ) (s : Shared) (x : Caller) (slot n p : ℕ) → IsPlan t → SharedHolds t s → Base t s c x → IsRetiring s c slot n (Some p) → GoesOn t s c x onward.Next
    → KeptSetting t c s x (set_onward t.target x.entry x.was_set x.entry.hand.registers) (store s.memory (Status slot) (status_word p kinds.Retired)) (retired_on Optimistic t.target t.setting.sizes onward.Next None (counted x.entry))
retire_stores_next t c s x slot n p plan f b r w =
    let step = marked t s c slot n p f r in
    let s' = with_status s slot Dead (status_word p kinds.Retired) in
    let next : Spot = record { at = x.entry.hand.at + 1; registers = x.entry.hand.registers } in
    let y : Caller = moved x (one_more x.entry.running.steps) x.entry.counts At in
    let here : Running t s' c x next = (w.0, walks_status t s c slot (status_word p kinds.Retired) x next w.0 w.1, w.2, gets_status t s c slot (status_word p kinds.Retired) x w.0 r.owner w.3, w.4) in
    let there = running_moved t s' c x next (one_more x.entry.running.steps) x.entry.counts At here in
    let b' = base_moved t s' c x (one_more x.entry.running.steps) x.entry.counts At (base_status t s c slot (status_word p kinds.Retired) x r.owner b) in
    let ended = settles_ends t s' c y next plan step.0 (record { number = b'.number; seen = b'.seen; old = b'.old; hazard = b'.hazard; protects = b'.protects; known = b'.known; cradle = b'.cradle })
    (there.0, walks_at t s' c y next there.0 there.1, there.2, there.3, there.4) in
    kept_ends t c s s' x _ (retired_on Optimistic t.target t.setting.sizes onward.Next None (counted x.entry)) _ step.0 step.1 refl refl refl ended
  where
    walks_at : (t : Plan) (s : Shared) (c : ℕ) (y : Caller) (next : Spot) (m : Trail t) → Walks t s c y next m → Walks t s c (at_spot y next) next m
    walks_at t s c y next m w = record { call = w.call; wrapup = w.wrapup; was_set = w.was_set; first = w.first; number = w.number; start = w.start; generator = w.generator; ahead = w.ahead; kept = w.kept; shown = w.shown; sound = w.sound }
