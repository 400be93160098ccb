-- The claim of a `new`: looks, the withdrawal, sweeps, the slot that it takes, and the call that it gives up.
use Rattle.std.proofs.Common.{ℕ, zero, suc, ◌≡◌, ◌≢◌, ◌==◌, ◌+◌, ◌≤◌, ◌<◌, ◌∙◌, Bool, true, false, List, [], ◌∷◌, length, Option, Some, None, arith, sym, ap, subst, refl, if◌then◌else◌, set}
use Rattle.std.specs.Prelude.{slice_get, slice_index}
use Rattle.std.proofs.lemmas.List.{map-append}
use Rattle.std.proofs.lemmas.Bool.Decides.{nat_tests}
use Rattle.norm_lang.specs.declared.text.Instr.TheVariants as instr
use Rattle.norm_lang.specs.Kept.{code_of}
use Rattle.target_code.specs.declared.target.TargetInstr.TheVariants.{Plain}
use Rattle.oa_words.specs.declared.packed.Kind.TheVariants as kinds
use Rattle.oa_words.specs.Words.{Word, Warning, Status, Head, Link}
use Rattle.oa_words.specs.Memories.{store}
use Rattle.oa_words.specs.Packed.{HeadParts, status_word, head_word, head_parts}
use Rattle.phase_pools.specs.declared.access.ClaimEnd.{ClaimEnd}
use Rattle.phase_pools.specs.declared.access.ClaimEnd.TheVariants as ends
use Rattle.phase_pools.specs.declared.access.SweepEnd.{SweepEnd}
use Rattle.phase_pools.specs.declared.access.SweepEnd.TheVariants as swept
use Rattle.phase_pools.specs.Accesses.{word_of}
use Rattle.phase_pools.specs.declared.stages.Scheme.{Scheme}
use Rattle.phase_pools.specs.declared.stages.Scheme.TheVariants.{Announced}
use Rattle.phase_pools.specs.declared.stages.ClaimStage.{ClaimStage}
use Rattle.phase_pools.specs.declared.stages.ClaimStage.TheVariants as claims
use Rattle.phase_pools.specs.Pools.{Claim, Sweep, claim_wants_at, claim_accepts_at, claim_goes, claim_ends, look_ended, look_begun, look_took, takes_at, sweep_ended, sweep_started, sweep_follows, sweep_accepts_at, sweep_wants_at}
use Rattle.phase_pools.proofs.Keeping.{sweep_keeps}
use Rattle.target_laws.specs.Methods.{code_in}
use Rattle.source_machine.specs.Proper.{has}
use Rattle.source_machine.specs.Run.{is_enabled_for, is_new_at as is_source_new}
use Rattle.caller_steps.specs.declared.entry.Counts.{Counts}
use Rattle.source_machine.specs.declared.event.SourceEvent.TheVariants as events
use Rattle.norm_lang.specs.declared.reply.SourceReply.{SourceReply}
use Rattle.source_machine.specs.Step.{caller_turn, give_up_reply}
use Rattle.source_machine.specs.MethodRuns.{run_after, put}
use Rattle.source_machine.proofs.Places.{put_other}
use Rattle.caller_parts.specs.Operands.{is_new_at}
use Rattle.caller_parts.specs.Pairing.{replied_by, reply_of}
use Rattle.caller_steps.specs.Entries.{one_more}
use Rattle.caller_steps.specs.Signs.{GivesUp}
use Rattle.caller_parts.specs.declared.routine.AnnounceReason.TheVariants.{Swept as AfterSweep}
use Rattle.caller_parts.specs.declared.routine.Announcing.TheVariants as announces
use Rattle.caller_parts.specs.declared.routine.Routine.{Routine}
use Rattle.caller_parts.specs.declared.routine.Routine.TheVariants.{At, Claims, Zeroes, Announces}
use Rattle.caller_steps.specs.Entries.{instr_in, new_number}
use Rattle.caller_steps.specs.Signs.{quiet, told}
use Rattle.caller_steps.specs.After.{counted, claimed, claim_counted, claim_on, claim_ended, slot_gained, with_routine, replied as entry_replied}
use Rattle.caller_parts.specs.declared.setting.Reclamation.TheVariants.{Epochs}
use Rattle.run_ahead.specs.Standing.{Call, stands_at}
use Rattle.run_ahead.proofs.Enabled.{gives_up}
use Rattle.oa_simulation.specs.sim_relation.Views.{Plan, Pool, Held, Shared}
use Rattle.oa_simulation.specs.sim_relation.Callers.{call_of, spot_of}
use Rattle.oa_simulation.specs.sim_relation.Points.{done}
use Rattle.chain_laws.specs.Memories.{after_access}
use Rattle.oa_simulation.specs.sim_relation.Steps.{TakenIsReady}
use Rattle.oa_simulation.specs.sim_relation.Naming.{freed_in}
use Rattle.oa_simulation.proofs.sim_relation.Playing.{plays_none, plays_one, points_same}
use Rattle.oa_simulation.proofs.sim_relation.Words.{store_idle}
use Rattle.oa_simulation.proofs.sim_relation.Lists.{index_set}
use Rattle.caller_parts.proofs.News.{new_there}
use Rattle.oa_simulation.proofs.sim_steps.Pools.Slots.{in_pool, apart, with_status, taken as slot_taken, cradle_taken}
use Rattle.epoch_relation.specs.Reckoned.{reckoned_words, reckoned, EpochHolds}
use Rattle.epoch_relation.specs.Callers.{Caller, Base, ClaimAt, Changes}
use Rattle.epoch_relation.specs.Walking.{IsPlan, Running, Waits, ClaimsIn, HoldsAt, has_swept, has_withdrawn}
use Rattle.epoch_relation.specs.Keeping.{point_at, KeptWith}
use Rattle.epoch_relation.proofs.Announcing.{owned, since_now, fine_owned, goes_owned, stable_base}
use Rattle.epoch_relation.proofs.Bare.{in_source}
use Rattle.epoch_relation.proofs.Moving.{changed, base_changed, core_instr_is}
use Rattle.epoch_relation.proofs.Phases.{base_withdrawn}
use Rattle.oa_simulation.proofs.sim_steps.Pools.Phases.{with_words}
use Rattle.epoch_relation.proofs.Rising.{head_risen}
use Rattle.epoch_relation.proofs.Same.{Leaves, placed, base_kept, running_kept, claims_kept, running_placed}
use Rattle.epoch_relation.proofs.Storing.{holds_stored, goes_words, reckoned_status}
use Rattle.epoch_relation.proofs.Sweeping.{SweepNext, ChangesForAll, sweep_step, changes_same, risen_holds, risen_changes}

-- what is known while a caller claims
pub record Claiming (t : Plan) (s : Shared) (since : ℕ → ℕ) (c : ℕ) (x : Caller) (claim : Claim) : Type 0 where
  pub plan : IsPlan t
  pub holds : EpochHolds t s since
  pub base : Base t s since c x
  pub scheme : claim.sweep.scheme ≡ Announced c
  pub tops : claim.sweep.tops ≡ t.setting.sizes.tops
  -- it stands at a `new` of its generator
  pub at_new : is_new_at (instr_in t.target x.entry) ≡ true
  pub generator : x.entry.hand.wrapup ≡ false

-- ---- the call is given up

-- what is shared after a step that leaves the source's memory
pub record Leads (t : Plan) (c : ℕ) (s s' : Shared) (since since' : ℕ → ℕ) (x : Caller) (memory' : Word → ℕ) (present' : ℕ → ℕ) : Type 0 where
  pub holds : EpochHolds t s' since'
  pub goes : Changes t c s since s' since'
  pub base : Base t s' since' c x
  pub source : s'.source ≡ s.source
  pub unused : s'.unused ≡ s.unused
  pub memory : s'.memory ≡ memory'
  pub present : s'.present ≡ present'

gave_up : (t : Plan) (c : ℕ) (s s' : Shared) (since since' : ℕ → ℕ) (x : Caller) (phase : Option ℕ) (takes : Bool) (memory' : Word → ℕ) (present' : ℕ → ℕ) → Leads t c s s' since since' x memory' present' → Waits t x
    → KeptWith t c s since x memory' (told (GivesUp phase ∷ []) (quiet (entry_replied (give_up_reply phase) (with_routine (claim_counted takes (counted x.entry)) At)))) present'
gave_up t c s s' since since' x phase takes memory' present' l w =
    let call : Call = call_of x.entry in
    let op = ap (slice_get t.text.ops) w.5 ∙ w.0.in_text in
    let ends = gives_up t.text c phase w.0.op w.2 x.entry.hand.accessed call w.1 s.source op (ap is_source_new w.6) in
    let enabled = ap (λ caller. is_enabled_for t.text (events.GiveUp c phase) (Some caller) s.source) w.7 ∙ ends.0 in
    let turns = ap (λ caller. caller_turn t.text (events.GiveUp c phase) s.source caller) w.7 ∙ ends.1 in
    let x' : Caller = changed x (entry_replied (give_up_reply phase) (with_routine (claim_counted takes (counted x.entry)) At)) (caller_turn t.text (events.GiveUp c phase) s.source x.source).caller (run_after t.text (events.GiveUp c phase) s.source x.source x.watch) in
    record {
      s' = s';
      since' = since';
      x' = x';
      memory = l.memory;
      present = l.present;
      entry = refl;
      plays = plays_one t.text c (GivesUp phase) (point_at s x) (point_at s' x') (enabled, (l.source ∙ sym (ap (λ turn. turn.memory) turns), refl, refl)) l.unused;
      shared_holds = l.holds;
      goes = l.goes;
      caller_holds = record {
        base = base_changed t s' since' c x x'.entry x'.source x'.watch refl refl l.base;
        spot = ap (λ turn. turn.caller) turns
            ∙ ap (λ (rs : List SourceReply). record { replies = rs; running = None })
            (sym (map-append reply_of x.entry.replies (replied_by (give_up_reply phase) (record x.entry.running { steps = one_more x.entry.running.steps }) ∷ [])));
      };
    }

-- ---- the claim goes on

-- what is known of a claim that goes on, or has ended without a slot
abbrev pub ClaimGoes : Plan → Shared → (ℕ → ℕ) → ℕ → Caller → Claim → Option ClaimEnd → Type 0
ClaimGoes t s since c x claim None = (claim.sweep.scheme ≡ Announced c) × ClaimAt t s since c claim.sweep claim.stage × ClaimsIn t s c x (has_withdrawn claim.stage claim.sweeps)
ClaimGoes t s since c x claim (Some (ends.Claimed j)) = ⊥
ClaimGoes t s since c x claim (Some ends.Full) = Waits t x
ClaimGoes t s since c x claim (Some (ends.PhasesOver p)) = Waits t x

in_placed : (t : Plan) (s : Shared) (c : ℕ) (x : Caller) (steps : ℕ) (cradles : List ℕ) (counts : Counts) (r : Routine) (withdrawn : Bool) → ClaimsIn t s c x withdrawn → ClaimsIn t s c (placed x steps cradles counts r) withdrawn
in_placed t s c x steps cradles counts r true w = w
in_placed t s c x steps cradles counts r false w = running_placed t s c x steps cradles counts r w

claim_kept : (t : Plan) (c : ℕ) (s s' : Shared) (since since' : ℕ → ℕ) (x : Caller) (claim : Claim) (end : Option ClaimEnd) (takes : Bool) (memory' : Word → ℕ) (present' : ℕ → ℕ) → Leads t c s s' since since' x memory' present'
    → ClaimGoes t s' since' c x claim end → KeptWith t c s since x memory' (claim_on Epochs t.target claim end (claim_counted takes (counted x.entry))) present'
claim_kept t c s s' since since' x claim None takes memory' present' l goes =
    let x' : Caller = placed x (one_more x.entry.running.steps) x.entry.cradles (claim_counted takes x.entry).counts (Claims claim) in
    record {
      s' = s';
      since' = since';
      x' = x';
      memory = l.memory;
      present = l.present;
      entry = refl;
      plays = plays_none t.text c (point_at s x) (point_at s' x') (points_same (point_at s x) (point_at s' x') l.unused l.source refl refl);
      shared_holds = l.holds;
      goes = l.goes;
      caller_holds = record {
        base = base_changed t s' since' c x x'.entry x.source x.watch refl refl l.base;
        spot = (goes.0, goes.1, in_placed t s' c x (one_more x.entry.running.steps) x.entry.cradles (claim_counted takes x.entry).counts (Claims claim) (has_withdrawn claim.stage claim.sweeps) goes.2);
      };
    }
claim_kept t c s s' since since' x claim (Some (ends.Claimed j)) takes memory' present' l goes = absurd goes
claim_kept t c s s' since since' x claim (Some ends.Full) takes memory' present' l goes = gave_up t c s s' since since' x None takes memory' present' l goes
claim_kept t c s s' since since' x claim (Some (ends.PhasesOver p)) takes memory' present' l goes = gave_up t c s s' since since' x (Some p) takes memory' present' l goes

-- nothing is stored
idle : (t : Plan) (c : ℕ) (s : Shared) (since : ℕ → ℕ) (x : Caller) (claim : Claim) (w : Word) → Claiming t s since c x claim → Leads t c s s since since x (store s.memory w (s.memory w)) s.present
idle t c s since x claim w k = record { holds = k.holds; goes = changes_same t s since c; base = k.base; source = refl; unused = refl; memory = store_idle s.memory w; present = refl }

look_ends : (t : Plan) (s : Shared) (since : ℕ → ℕ) (c : ℕ) (x : Caller) (claim : Claim) → claim.sweep.scheme ≡ Announced c → ClaimsIn t s c x (has_swept claim.sweeps) → ClaimGoes t s since c x (look_ended claim).claim (look_ended claim).ended
look_ends t s since c x claim scheme w = of (claim.sweeps == 2) refl where
  follows : (made : ℕ) → claim.sweeps ≡ made → ClaimsIn t s c x (has_swept made) → ClaimGoes t s since c x (sweep_follows (Announced c) made claim).claim (sweep_follows (Announced c) made claim).ended
  follows zero none w = (scheme, refl, w)
  follows (suc made) some w = (scheme, tt, w)

  of : (b : Bool) → (claim.sweeps == 2) ≡ b → ClaimGoes t s since c x (if b then claim_ends claim ends.Full else sweep_follows claim.sweep.scheme claim.sweeps claim).claim (if b then claim_ends claim ends.Full else sweep_follows claim.sweep.scheme claim.sweeps claim).ended
  of true is = let two : claim.sweeps ≡ 2 = grind (arith, nat_tests) in subst (λ (n : ℕ). ClaimsIn t s c x (has_swept n)) two w
  of false is = subst (λ (scheme : Scheme). ClaimGoes t s since c x (sweep_follows scheme claim.sweeps claim).claim (sweep_follows scheme claim.sweeps claim).ended) (sym scheme) (follows claim.sweeps refl w)

head_next : (t : Plan) (s : Shared) (since : ℕ → ℕ) (c : ℕ) (x : Caller) (claim : Claim) (head : HeadParts) → claim.sweep.scheme ≡ Announced c → ClaimsIn t s c x (has_swept claim.sweeps) → ClaimGoes t s since c x (look_begun claim head).claim (look_begun claim head).ended
head_next t s since c x claim head scheme w = of (head.top == 0) refl where
  of : (b : Bool) → (head.top == 0) ≡ b → ClaimGoes t s since c x (if b then look_ended claim else claim_goes claim (claims.ReadLink head.phase head.top)).claim (if b then look_ended claim else claim_goes claim (claims.ReadLink head.phase head.top)).ended
  of true is = look_ends t s since c x claim scheme w
  of false is = (scheme, grind (arith, nat_tests), w)

-- ---- the withdrawal

-- an announced caller that stands at a `new` waits there
waits_of : (t : Plan) (s : Shared) (c : ℕ) (x : Caller) → IsPlan t → is_new_at (instr_in t.target x.entry) ≡ true → x.entry.hand.wrapup ≡ false → Running t s c x → Waits t x
waits_of t s c x plan at_new generator w =
    let method = w.0.walk.method in
    let new = new_there (instr_in t.target x.entry) at_new in
    let gen : method.wrapup ≡ false = sym w.1.wrapup ∙ generator in
    let is : slice_get (code_in method) x.entry.hand.at ≡ Some (Plain (instr.New new.0 new.1)) = sym (core_instr_is t s c x (spot_of x.entry.hand) w.0 w.1) ∙ new.2 in (
      method,
      record { at = x.entry.hand.at; registers = w.0.mirror },
      w.0.walk.started,
      new.0,
      new.1,
      ap (λ (call : Call). call.number) (sym w.1.call) ∙ w.1.number,
      ap (λ (b : Bool). slice_get (code_of method.op b) x.entry.hand.at) (sym gen) ∙ in_source plan.target_is method x.entry.hand.at (instr.New new.0 new.1) is,
      w.3 ∙ (ap (λ (b : Bool). stands_at method.op b w.0.walk.started x.entry.hand.accessed w.0.walk.call (record { at = x.entry.hand.at; registers = w.0.mirror })) gen
          ∙ ap (λ (call : Call). stands_at method.op false w.0.walk.started x.entry.hand.accessed call (record { at = x.entry.hand.at; registers = w.0.mirror })) w.1.call),
    )

withdraws : (t : Plan) (c : ℕ) (s : Shared) (since : ℕ → ℕ) (x : Caller) (claim : Claim) (own : ℕ) → Claiming t s since c x claim → own ≡ c → Running t s c x
    → KeptWith t c s since x (store s.memory (Warning own) 0) (claimed Epochs t.target (sweep_started claim) (claim_counted false (counted x.entry))) s.present
withdraws t c s since x claim own k is w = claim_kept t c s (owned s c 0) since (since_now s since c) x (sweep_started claim).claim None false (store s.memory (Warning own) 0) s.present
    (record {
      holds = fine_owned t s since c 0 (omega arith) k.holds;
      goes = goes_owned t s since c 0 k.holds;
      base = base_withdrawn t s since c x k.base;
      source = refl;
      unused = refl;
      memory = ap (λ (d : ℕ). store s.memory (Warning d) 0) (sym is);
      present = refl;
    })
    (k.scheme, tt, waits_of t s c x k.plan k.at_new k.generator w)

-- ---- a slot is taken from the chain

with_head : (t : Plan) (c : ℕ) (s : Shared) (since : ℕ → ℕ) (x : Caller) (claim : Claim) (kind v : ℕ) → Claiming t s since c x claim → Leads t c s (with_words s (store s.memory (Head kind) v)) since since x (store s.memory (Head kind) v) s.present
with_head t c s since x claim kind v k = record {
  holds = risen_holds t s since (store s.memory (Head kind) v) (head_risen s.memory since kind v k.holds.holds.warning) (λ d. refl) k.holds;
  goes = risen_changes t s since (store s.memory (Head kind) v) (head_risen s.memory since kind v k.holds.holds.warning) (λ d. refl) c;
  base = base_kept t c s (with_words s (store s.memory (Head kind) v)) x (record { held = λ j k is. (is, refl); public = λ n is. is }) since since k.base.old (λ n is. is) k.base;
  source = refl;
  unused = refl;
  memory = refl;
  present = refl;
}

takes : (t : Plan) (c : ℕ) (s : Shared) (since : ℕ → ℕ) (x : Caller) (claim : Claim) (tops j q next : ℕ) → tops ≡ t.setting.sizes.tops → Claiming t s since c x claim → 1 ≤ j → ClaimsIn t s c x (has_swept claim.sweeps)
    → KeptWith t c s since x (store s.memory (Head claim.kind) (if s.memory (Head claim.kind) == head_word tops q j then head_word tops q next else s.memory (Head claim.kind)))
    (claimed Epochs t.target (look_took t.setting.sizes claim q j (s.memory (Head claim.kind))) (claim_counted (takes_at t.setting.sizes.tops (claims.Take q j next) (s.memory (Head claim.kind))) (counted x.entry))) s.present
takes t c s since x claim tops j q next same k some w =
    subst (λ (n : ℕ). KeptWith t c s since x (store s.memory (Head claim.kind) (if s.memory (Head claim.kind) == head_word n q j then head_word n q next else s.memory (Head claim.kind)))
    (claimed Epochs t.target (look_took t.setting.sizes claim q j (s.memory (Head claim.kind))) (claim_counted (takes_at t.setting.sizes.tops (claims.Take q j next) (s.memory (Head claim.kind))) (counted x.entry))) s.present) (sym same)
    (of (s.memory (Head claim.kind) == head_word t.setting.sizes.tops q j)) where
      left : (v : ℕ) → Leaves t c s (with_words s (store s.memory (Head claim.kind) v)) since x
      left v = record { null = k.plan.null; after = (with_head t c s since x claim claim.kind v k).holds; names = record { held = λ j k is. (is, refl); public = λ n is. is }; announced = λ some. some; pairs = λ m some safe pairs. pairs }

      of : (b : Bool) → KeptWith t c s since x (store s.memory (Head claim.kind) (if b then head_word t.setting.sizes.tops q next else s.memory (Head claim.kind)))
          (claimed Epochs t.target (if b then claim_goes claim (claims.StoreUsed q j) else claim_goes claim claims.ReadHead) (claim_counted b (counted x.entry))) s.present
      of true = claim_kept t c s (with_words s (store s.memory (Head claim.kind) (head_word t.setting.sizes.tops q next))) since since x (record claim { stage = claims.StoreUsed q j }) None true _ s.present (with_head t c s since x claim claim.kind (head_word t.setting.sizes.tops q next) k)
          (k.scheme, some, claims_kept t c s (with_words s (store s.memory (Head claim.kind) (head_word t.setting.sizes.tops q next))) since x (left (head_word t.setting.sizes.tops q next)) (has_swept claim.sweeps) w)
      of false = claim_kept t c s s since since x (record claim { stage = claims.ReadHead }) None false _ s.present (idle t c s since x claim (Head claim.kind) k) (k.scheme, tt, w)

-- ---- a slot that was taken is used

taken : (t : Plan) (s : Shared) (since : ℕ → ℕ) (c k j p q : ℕ) → IsPlan t → EpochHolds t s since → s.memory (Status j) ≡ status_word p kinds.Ready
    → (s.owner j ≡ Pool) × (s.present j ≡ 0) × EpochHolds t (with_status s j (Held c k) (status_word q kinds.Used)) since × Changes t c s since (with_status s j (Held c k) (status_word q kinds.Used)) since
taken t s since c k j p q plan f is =
    let r = reckoned s since in
    let w : ℕ = status_word q kinds.Used in
    let pool = in_pool (s.owner j) p (s.memory (Status j)) (s.present j) (s.tag (s.present j)) (has (s.present j) s.source.retired) (s.public (s.present j)) is (f.holds.slot j) in
    let take = slot_taken t r c k j p q plan.null f.holds is in (
      pool.0,
      pool.1,
      holds_stored t s (with_status r j (Held c k) w) since (store s.memory (Status j) w) f (reckoned_status s.memory since j w) refl (λ d. refl) f.unguarded take.0,
      record { goes = goes_words t c r (with_status r j (Held c k) w) (reckoned_words (store s.memory (Status j) w) since) (reckoned_status s.memory since j w) (take.1 c); warning = λ d ne. refl; stays = λ d ne. refl; retired = λ n is. is },
    )

took : (t : Plan) (c : ℕ) (s : Shared) (since : ℕ → ℕ) (x : Caller) (claim : Claim) (j p q : ℕ) → Claiming t s since c x claim → 1 ≤ j → new_number t.target x.entry < length x.entry.cradles → s.memory (Status j) ≡ status_word p kinds.Ready → ClaimsIn t s c x (has_swept claim.sweeps)
    → KeptWith t c s since x (store s.memory (Status j) (status_word q kinds.Used)) (claim_ended Epochs t.target claim.sweeps (ends.Claimed j) (with_routine (claim_counted false (counted x.entry)) At)) s.present
took t c s since x claim j p q w some lt is here = of claim.sweeps here where
  k : ℕ
  k = new_number t.target x.entry

  s' : Shared
  s' = with_status s j (Held c (new_number t.target x.entry)) (status_word q kinds.Used)

  take : (s.owner j ≡ Pool) × (s.present j ≡ 0) × EpochHolds t (with_status s j (Held c (new_number t.target x.entry)) (status_word q kinds.Used)) since × Changes t c s since (with_status s j (Held c (new_number t.target x.entry)) (status_word q kinds.Used)) since
  take = taken t s since c (new_number t.target x.entry) j p q w.plan w.holds is

  cradles : List ℕ
  cradles = set x.entry.cradles (new_number t.target x.entry) j

  there : slice_index (set x.entry.cradles (new_number t.target x.entry) j) (new_number t.target x.entry) ≡ j
  there = index_set x.entry.cradles (new_number t.target x.entry) j lt

  held : (i m : ℕ) → s.owner i ≡ Held c m → put s.owner j (Held c (new_number t.target x.entry)) i ≡ Held c m
  held i m own = put_other s.owner j i (Held c k) (apart s i j (Held c m) Pool own take.0 (λ e. cc)) ∙ own

  left : Leaves t c s (with_status s j (Held c (new_number t.target x.entry)) (status_word q kinds.Used)) since x
  left = record { null = w.plan.null; after = take.2; names = record { held = λ i m own. (held i m own, refl); public = λ n is. is }; announced = λ some. some; pairs = λ m some safe pairs. pairs }

  cradle : (i : ℕ) → slice_index (set x.entry.cradles (new_number t.target x.entry) j) i ≢ 0 → put s.owner j (Held c (new_number t.target x.entry)) (slice_index (set x.entry.cradles (new_number t.target x.entry) j) i) ≡ Held c i
  cradle = cradle_taken s c k j x.entry.cradles lt take.0 w.base.cradle

  kept : (counts : Counts) (r : Routine) → HoldsAt t s' since c (placed x (one_more x.entry.running.steps) (set x.entry.cradles (new_number t.target x.entry) j) counts r) r
      → KeptWith t c s since x (store s.memory (Status j) (status_word q kinds.Used)) (quiet (placed x (one_more x.entry.running.steps) (set x.entry.cradles (new_number t.target x.entry) j) counts r).entry) s.present
  kept counts r spot = record {
    s' = s';
    since' = since;
    x' = placed x (one_more x.entry.running.steps) cradles counts r;
    memory = refl;
    present = refl;
    entry = refl;
    plays = done _;
    shared_holds = take.2;
    goes = take.3;
    caller_holds = record { base = record { number = w.base.number; old = w.base.old; before = w.base.before; cradle = cradle }; spot = spot };
  }

  of : (made : ℕ) → ClaimsIn t s c x (has_swept made) → KeptWith t c s since x (store s.memory (Status j) (status_word q kinds.Used)) (quiet (slot_gained Epochs t.target made j (with_routine (claim_counted false (counted x.entry)) At))) s.present
  of zero in_run = kept x.entry.counts (Zeroes k 0) (
    (λ z. omega (arith, some, there, z)),
    ((λ none. absurd (omega (arith, none))), (λ g none. absurd (omega (arith, none)))),
    running_placed t s' c x (one_more x.entry.running.steps) cradles x.entry.counts (Zeroes k 0) (running_kept t c s s' since x left in_run),
  )
  of (suc made) waits = kept (record x.entry.counts { restarts = one_more x.entry.counts.restarts }) (Announces (announces.Loads AfterSweep)) waits

-- ---- the sweep's own

swept_own : (t : Plan) (c : ℕ) (s s' : Shared) (since : ℕ → ℕ) (x : Caller) → EpochHolds t s since → ChangesForAll t s since s' → Base t s since c x → Base t s' since c x
swept_own t c s s' since x f g b = stable_base t (suc c) c s since s' since x (g (suc c)) f (λ e. omega (arith, e)) b

some_swept : (n : ℕ) → 0 < n → has_swept n ≡ true
some_swept zero some = absurd (omega (arith, some))
some_swept (suc n) some = refl

one_swept : (n : ℕ) → has_swept (n + 1) ≡ true
one_swept n = some_swept (n + 1) (omega arith)

sweep_goes_on : (t : Plan) (s : Shared) (since : ℕ → ℕ) (c : ℕ) (x : Caller) (claim : Claim) (sweep : Sweep) (end : Option SweepEnd) → claim.stage ≡ claims.Sweeps → sweep.scheme ≡ Announced c → SweepNext t s since sweep end → Waits t x
    → ClaimGoes t s since c x (sweep_ended claim sweep end).claim (sweep_ended claim sweep end).ended
sweep_goes_on t s since c x claim sweep None is scheme next w = (scheme, subst (λ (stage : ClaimStage). ClaimAt t s since c sweep stage) (sym is) next, subst (λ (stage : ClaimStage). ClaimsIn t s c x (has_withdrawn stage claim.sweeps)) (sym is) w)
sweep_goes_on t s since c x claim sweep (Some swept.Swept) is scheme next w = (scheme, tt, subst (λ (b : Bool). ClaimsIn t s c x b) (sym (one_swept claim.sweeps)) w)
sweep_goes_on t s since c x claim sweep (Some (swept.PhasesOver p)) is scheme next w = w

-- each step of a claim
pub claims_keep : (t : Plan) (c : ℕ) (s : Shared) (since : ℕ → ℕ) (x : Caller) (claim : Claim) (stage : ClaimStage) → claim.stage ≡ stage → Claiming t s since c x claim → new_number t.target x.entry < length x.entry.cradles → 1 ≤ t.setting.sizes.callers
    → TakenIsReady s.memory stage → ClaimAt t s since c claim.sweep stage → ClaimsIn t s c x (has_withdrawn stage claim.sweeps)
    → KeptWith t c s since x (after_access s.memory (claim_wants_at claim.sweep.tops claim.kind claim.sweep stage)) (claimed Epochs t.target (claim_accepts_at t.setting.sizes t.setting.last claim (s.memory (word_of (claim_wants_at claim.sweep.tops claim.kind claim.sweep stage))) stage) (claim_counted (takes_at t.setting.sizes.tops stage (s.memory (word_of (claim_wants_at claim.sweep.tops claim.kind claim.sweep stage)))) (counted x.entry))) (freed_in stage claim.sweep.stage s.memory s.present)
claims_keep t c s since x claim claims.ReadHead is k lt callers ready at w =
    let turn = look_begun claim (head_parts t.setting.sizes.tops (s.memory (Head claim.kind))) in
    claim_kept t c s s since since x turn.claim turn.ended false _ s.present (idle t c s since x claim (Head claim.kind) k) (head_next t s since c x claim (head_parts t.setting.sizes.tops (s.memory (Head claim.kind))) k.scheme w)
claims_keep t c s since x claim (claims.ReadLink q j) is k lt callers ready at w =
    claim_kept t c s s since since x (record claim { stage = claims.Take q j (s.memory (Link j)) }) None false _ s.present (idle t c s since x claim (Link j) k) (k.scheme, at, w)
claims_keep t c s since x claim (claims.Take q j next) is k lt callers ready at w = takes t c s since x claim claim.sweep.tops j q next k.tops k at w
claims_keep t c s since x claim (claims.StoreUsed q j) is k lt callers ready at w = took t c s since x claim j ready.0 q k at lt ready.1 w
claims_keep t c s since x claim (claims.Withdraw own) is k lt callers ready at w = withdraws t c s since x claim own k at w
claims_keep t c s since x claim claims.Sweeps is k lt callers ready at w =
    let turn = sweep_accepts_at t.setting.sizes t.setting.last claim.sweep (s.memory (word_of (sweep_wants_at claim.sweep.tops claim.sweep.scheme claim.sweep.stage claim.sweep.bound))) claim.sweep.stage in
    let swept = sweep_step t s since c claim.sweep claim.sweep.stage callers k.scheme k.tops k.holds at in
    claim_kept t c s swept.s' since since x (sweep_ended claim turn.sweep turn.ended).claim (sweep_ended claim turn.sweep turn.ended).ended false _ _
    (record { holds = swept.holds; goes = swept.goes c; base = swept_own t c s swept.s' since x k.holds swept.goes k.base; source = swept.source; unused = swept.unused; memory = swept.memory; present = swept.present })
    (sweep_goes_on t swept.s' since c x claim turn.sweep turn.ended is ((sweep_keeps t.setting.sizes t.setting.last claim.sweep (s.memory (word_of (sweep_wants_at claim.sweep.tops claim.sweep.scheme claim.sweep.stage claim.sweep.bound)))).scheme ∙ k.scheme) swept.next w)
