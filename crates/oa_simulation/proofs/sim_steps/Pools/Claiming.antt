-- The claim of a `new`: looks, sweeps, the slot that it takes, and the call that it gives up.
use Rattle.std.proofs.Common.{ℕ, zero, suc, ◌≡◌, ◌==◌, ◌≤◌, ◌<◌, ◌∙◌, Bool, true, false, List, [], ◌∷◌, ◌++◌, map, length, Option, Some, None, arith, sym, ap, subst, refl, if◌then◌else◌, set, inl}
use Rattle.source_machine.specs.declared.state.Memory.{Memory}
use Rattle.std.specs.Prelude.{slice_get, slice_index}
use Rattle.std.proofs.lemmas.List.{map-append}
use Rattle.std.proofs.lemmas.Bool.Decides.{nat_tests}
use Rattle.norm_lang.specs.declared.text.Instr.TheVariants as instr
use Rattle.target_code.specs.declared.target.TargetInstr.TheVariants.{Plain}
use Rattle.oa_words.specs.declared.packed.Kind.TheVariants as kinds
use Rattle.oa_words.specs.Words.{Word, Status, Head, Link}
use Rattle.oa_words.specs.Memories.{store}
use Rattle.oa_words.specs.Packed.{HeadParts, status_word, head_word, head_parts}
use Rattle.phase_pools.specs.declared.access.ClaimEnd.{ClaimEnd}
use Rattle.phase_pools.specs.declared.access.ClaimEnd.TheVariants as ends
use Rattle.phase_pools.specs.declared.access.SweepEnd.{SweepEnd}
use Rattle.phase_pools.specs.declared.access.SweepEnd.TheVariants as swept
use Rattle.phase_pools.specs.declared.stages.Scheme.{Scheme}
use Rattle.phase_pools.specs.declared.stages.Scheme.TheVariants.{Warned, Announced}
use Rattle.phase_pools.specs.declared.stages.ClaimStage.{ClaimStage}
use Rattle.phase_pools.specs.declared.stages.ClaimStage.TheVariants as claims
use Rattle.phase_pools.specs.Accesses.{word_of}
use Rattle.phase_pools.specs.Pools.{Claim, Sweep, claim_wants_at, claim_accepts_at, claim_goes, claim_ends, look_ended, look_begun, look_took, takes_at, sweep_ended, sweep_follows, sweep_accepts_at, sweep_wants_at}
use Rattle.source_machine.specs.declared.event.SourceEvent.TheVariants as events
use Rattle.norm_lang.specs.declared.reply.SourceReply.{SourceReply}
use Rattle.source_machine.specs.Step.{caller_turn, give_up_reply, replied}
use Rattle.source_machine.specs.MethodRuns.{run_after}
use Rattle.caller_parts.specs.declared.routine.Routine.TheVariants.{At, Claims, Zeroes}
use Rattle.caller_steps.specs.Entries.{one_more, instr_in, new_number}
use Rattle.caller_parts.specs.Operands.{is_new_at}
use Rattle.caller_parts.specs.Settings.{Setting}
use Rattle.caller_steps.specs.Belongs.{ClaimBelongs, HasLow}
use Rattle.oa_simulation.proofs.sim_relation.Schemes.{claim_warned, never_withdraws}
use Rattle.caller_steps.specs.After.{counted, claimed, claim_counted, claim_on, claim_ended, with_routine, replied as entry_replied}
use Rattle.target_laws.specs.Methods.{code_in}
use Rattle.run_ahead.specs.Standing.{Call, caller_of}
use Rattle.run_ahead.proofs.Ends.{giving_up_is_followed}
use Rattle.run_ahead.specs.Ahead.{IsErased}
use Rattle.caller_steps.specs.Signs.{GivesUp, quiet, told}
use Rattle.caller_parts.specs.Pairing.{replied_by, reply_of}
use Rattle.caller_parts.proofs.News.{new_there}
use Rattle.oa_simulation.specs.sim_relation.Views.{Plan, Held, Shared, Caller, settled_names}
use Rattle.oa_simulation.specs.sim_relation.Shared.{SharedHolds}
use Rattle.oa_simulation.specs.sim_relation.Points.{done, point}
use Rattle.oa_simulation.proofs.sim_relation.Playing.{plays_none, plays_one, points_same}
use Rattle.oa_simulation.proofs.sim_steps.Walks.Replying.{follows_of}
use Rattle.oa_simulation.specs.sim_relation.Callers.{Calm, Base, Trail, AtNew, Empty, ClaimAt, spot_of, call_of}
use Rattle.oa_simulation.specs.sim_relation.Naming.{freed_in}
use Rattle.chain_laws.specs.Memories.{after_access}
use Rattle.oa_simulation.specs.sim_relation.Steps.{KeptNaming, Kept, TakenIsReady, GoesForAll, moved, cradled}
use Rattle.oa_simulation.proofs.sim_relation.Words.{store_idle}
use Rattle.oa_simulation.proofs.sim_relation.Moving.{base_moved, new_moved, own_base, own_new, goes_same, new_cradled, base_cradled, base_settled, settled_is, names_settle, same_names}
use Rattle.oa_simulation.proofs.sim_steps.Pools.Slots.{in_pool, taken, cradle_taken, with_status}
use Rattle.source_machine.specs.Proper.{has}
use Rattle.oa_simulation.proofs.sim_relation.Lists.{index_set}
use Rattle.oa_simulation.proofs.sim_steps.Pools.Phases.{with_words, fine_risen, goes_risen, head_risen}
use Rattle.oa_simulation.proofs.sim_steps.Pools.Sweeping.{Warns, SweepNext, sweep_step}
use Rattle.oa_simulation.proofs.sim_relation.Codes.{instr_is}
use Rattle.caller_parts.specs.declared.setting.Reclamation.TheVariants.{Optimistic}

-- a caller in a claim, but for what the claim itself knows
pub record Claiming (t : Plan) (s : Shared) (c : ℕ) (x : Caller) : Type 0 where
  pub base : Base t s c x
  pub running : AtNew t s c x (spot_of x.entry.hand)
  pub empty : Empty x
  -- it stands at a `new` of its generator
  pub at_new : is_new_at (instr_in t.target x.entry) ≡ true
  pub generator : x.entry.hand.wrapup ≡ false

own_claiming : (t : Plan) (c : ℕ) (s s' : Shared) (x : Caller) → t.home 0 ≡ 0 → GoesForAll t s s' → SharedHolds t s → SharedHolds t s' → Claiming t s c x → Claiming t s' c x
own_claiming t c s s' x null_home g f f' w = record {
  base = own_base t c s s' x g f w.base;
  running = own_new t c s s' x (spot_of x.entry.hand) null_home g f' w.base w.running;
  empty = w.empty;
  at_new = w.at_new;
  generator = w.generator;
}

-- ---- the call is given up

pub gave_up : (t : Plan) (c : ℕ) (s s' : Shared) (x : Caller) (phase : Option ℕ) (takes : Bool) (memory' : Word → ℕ) (present' : ℕ → ℕ) → IsErased t.target t.text → SharedHolds t s → SharedHolds t s' → GoesForAll t s s' → s'.source ≡ s.source → s'.unused ≡ s.unused → s'.memory ≡ memory' → s'.present ≡ present' → Claiming t s c x
    → KeptNaming t c s x memory' (told (GivesUp phase ∷ []) (quiet (entry_replied (give_up_reply phase) (with_routine (claim_counted takes (counted x.entry)) At)))) present'
gave_up t c s s' x phase takes memory' present' erased f f' g source unused memory present w =
    let m : Trail t = w.running.0 in
    let walks = w.running.1 in
    let new = new_there (instr_in t.target x.entry) w.at_new in
    let is : slice_get (code_in m.walk.method) x.entry.hand.at ≡ Some (Plain (instr.New new.0 new.1)) = sym (instr_is t s c x (spot_of x.entry.hand) m walks) ∙ new.2 in
    let turns = giving_up_is_followed (Calm s c x) t.target t.text erased t.home m.walk m.path (spot_of x.entry.hand) m.mirror x.entry.hand.accessed x.source (follows_of t s c x m walks w.running.2) new.0 new.1 is c phase s.source in
    let x' : Caller = record x {
      names = settled_names x.names;
      entry = entry_replied (give_up_reply phase) (with_routine (claim_counted takes (counted x.entry)) At);
      source = (caller_turn t.text (events.GiveUp c phase) s.source x.source).caller;
      watch = run_after t.text (events.GiveUp c phase) s.source x.source x.watch;
    } in
    let b = base_settled t s' c x (own_base t c s s' x g f w.base) in
    record {
      s' = s';
      x' = x';
      memory = memory;
      present = present;
      entry = refl;
      names = names_settle x.names true refl;
      was_set = refl;
      plays = plays_one t.text c (GivesUp phase) (point s x) (point s' x') (turns.enabled, (source ∙ sym (ap (λ turn. turn.memory) turns.turns), refl, refl)) unused;
      shared_holds = f';
      goes = g c;
      retires = λ n is. inl (subst (λ (memory : Memory). has n memory.retired ≡ true) source is);
      caller_holds = record {
        base = record { number = b.number; seen = b.seen; old = b.old; hazard = b.hazard; protects = b.protects; known = b.known; cradle = b.cradle };
        spot = (w.empty, settled_is x, ap (λ turn. turn.caller) turns.turns ∙ idle m.walk.call walks.call);
      };
    }
  where
    idle : (call : Call) → call ≡ call_of x.entry → replied (give_up_reply phase) (caller_of call) ≡ record { replies = map reply_of (x.entry.replies ++ replied_by (give_up_reply phase) (record x.entry.running { steps = one_more x.entry.running.steps }) ∷ []); running = None }
    idle call is = ap (λ call. replied (give_up_reply phase) (caller_of call)) is
        ∙ ap (λ (rs : List SourceReply). record { replies = rs; running = None })
        (sym (map-append reply_of x.entry.replies (replied_by (give_up_reply phase) (record x.entry.running { steps = one_more x.entry.running.steps }) ∷ [])))

-- ---- the claim goes on

-- what is known of a claim that goes on, or has ended without a slot
abbrev pub ClaimGoes : Plan → Shared → Claim → Option ClaimEnd → Type 0
ClaimGoes t s claim None = ClaimAt t s claim.sweep claim.stage
ClaimGoes t s claim (Some (ends.Claimed j)) = ⊥
ClaimGoes t s claim (Some ends.Full) = Unit {0}
ClaimGoes t s claim (Some (ends.PhasesOver p)) = Unit {0}

pub claim_kept : (t : Plan) (c : ℕ) (s s' : Shared) (x : Caller) (claim : Claim) (end : Option ClaimEnd) (takes : Bool) (memory' : Word → ℕ) (present' : ℕ → ℕ) → IsErased t.target t.text → t.home 0 ≡ 0 → SharedHolds t s → SharedHolds t s' → GoesForAll t s s' → s'.source ≡ s.source → s'.unused ≡ s.unused → s'.memory ≡ memory' → s'.present ≡ present' → Claiming t s c x
    → ClaimGoes t s' claim end → KeptNaming t c s x memory' (claim_on Optimistic t.target claim end (claim_counted takes (counted x.entry))) present'
claim_kept t c s s' x claim None takes memory' present' erased null_home f f' g source unused memory present w goes =
    let w' = own_claiming t c s s' x null_home g f f' w in
    record {
      s' = s';
      x' = moved x (one_more x.entry.running.steps) (claim_counted takes x.entry).counts (Claims claim);
      memory = memory;
      present = present;
      entry = refl;
      names = same_names x.names false;
      was_set = refl;
      plays = plays_none t.text c (point s x) (point s' (moved x (one_more x.entry.running.steps) (claim_counted takes x.entry).counts (Claims claim))) (points_same (point s x) (point s' (moved x (one_more x.entry.running.steps) (claim_counted takes x.entry).counts (Claims claim))) unused source refl refl);
      shared_holds = f';
      goes = g c;
      retires = λ n is. inl (subst (λ (memory : Memory). has n memory.retired ≡ true) source is);
      caller_holds = record {
        base = base_moved t s' c x (one_more x.entry.running.steps) (claim_counted takes x.entry).counts (Claims claim) w'.base;
        spot = (goes, new_moved t s' c x (spot_of x.entry.hand) (one_more x.entry.running.steps) (claim_counted takes x.entry).counts (Claims claim) w'.running, w.empty);
      };
    }
claim_kept t c s s' x claim (Some (ends.Claimed j)) takes memory' present' erased null_home f f' g source unused memory present w goes = absurd goes
claim_kept t c s s' x claim (Some ends.Full) takes memory' present' erased null_home f f' g source unused memory present w goes = gave_up t c s s' x None takes memory' present' erased f f' g source unused memory present w
claim_kept t c s s' x claim (Some (ends.PhasesOver p)) takes memory' present' erased null_home f f' g source unused memory present w goes = gave_up t c s s' x (Some p) takes memory' present' erased f f' g source unused memory present w

begins_sweep : (t : Plan) (s : Shared) (claim : Claim) (scheme : Scheme) (made : ℕ) → ClaimGoes t s (sweep_follows scheme made claim).claim (sweep_follows scheme made claim).ended
begins_sweep t s claim Warned made = tt
begins_sweep t s claim (Announced own) zero = tt
begins_sweep t s claim (Announced own) (suc made) = tt

look_ends : (t : Plan) (s : Shared) (claim : Claim) → ClaimGoes t s (look_ended claim).claim (look_ended claim).ended
look_ends t s claim = of (claim.sweeps == 2) where
  of : (b : Bool) → ClaimGoes t s (if b then claim_ends claim ends.Full else sweep_follows claim.sweep.scheme claim.sweeps claim).claim
      (if b then claim_ends claim ends.Full else sweep_follows claim.sweep.scheme claim.sweeps claim).ended
  of true = tt
  of false = begins_sweep t s claim claim.sweep.scheme claim.sweeps

head_next : (t : Plan) (s : Shared) (claim : Claim) (head : HeadParts) → ClaimGoes t s (look_begun claim head).claim (look_begun claim head).ended
head_next t s claim head = of (head.top == 0) refl where
  of : (b : Bool) → (head.top == 0) ≡ b → ClaimGoes t s (if b then look_ended claim else claim_goes claim (claims.ReadLink head.phase head.top)).claim (if b then look_ended claim else claim_goes claim (claims.ReadLink head.phase head.top)).ended
  of true is = look_ends t s claim
  of false is = grind (arith, nat_tests)

sweep_goes_on : (t : Plan) (s : Shared) (claim : Claim) (sweep : Sweep) (end : Option SweepEnd) → claim.stage ≡ claims.Sweeps → SweepNext t s sweep end → ClaimGoes t s (sweep_ended claim sweep end).claim (sweep_ended claim sweep end).ended
sweep_goes_on t s claim sweep None is next = subst (λ (stage : ClaimStage). ClaimAt t s sweep stage) (sym is) next
sweep_goes_on t s claim sweep (Some swept.Swept) is next = tt
sweep_goes_on t s claim sweep (Some (swept.PhasesOver p)) is next = tt

-- ---- a slot that was taken is used

took : (t : Plan) (c : ℕ) (s : Shared) (x : Caller) (claim : Claim) (j p q : ℕ) → t.home 0 ≡ 0 → SharedHolds t s → Claiming t s c x → 1 ≤ j → new_number t.target x.entry < length x.entry.cradles → s.memory (Status j) ≡ status_word p kinds.Ready
    → Kept t c s x (store s.memory (Status j) (status_word q kinds.Used)) (claim_ended Optimistic t.target claim.sweeps (ends.Claimed j) (with_routine (claim_counted false (counted x.entry)) At))
took t c s x claim j p q null_home f w some lt is =
    let k : ℕ = new_number t.target x.entry in
    let take = taken t s c k j p q null_home f is in
    let pool = in_pool (s.owner j) p (s.memory (Status j)) (s.present j) (s.tag (s.present j)) (has (s.present j) s.source.retired) (s.public (s.present j)) is (f.slot j) in
    let w' = own_claiming t c s (with_status s j (Held c k) (status_word q kinds.Used)) x null_home take.1 f take.0 w in
    let cradles : List ℕ = set x.entry.cradles k j in
    let there : slice_index cradles k ≡ j = index_set x.entry.cradles k j lt in
    record {
      s' = with_status s j (Held c k) (status_word q kinds.Used);
      x' = moved (cradled x cradles) (one_more x.entry.running.steps) (claim_counted false x.entry).counts (Zeroes k 0);
      memory = refl;
      present = refl;
      entry = refl;
      names = same_names x.names false;
      was_set = refl;
      plays = done _;
      shared_holds = take.0;
      goes = take.1 c;
      retires = λ n is. inl is;
      caller_holds = record {
        base = base_moved t _ c (cradled x cradles) (one_more x.entry.running.steps) (claim_counted false x.entry).counts (Zeroes k 0)
            (base_cradled t _ c x cradles (cradle_taken s c k j x.entry.cradles lt pool.0 w.base.cradle) w'.base);
        spot = (
          (λ z. omega (arith, some, there, z)),
          ((λ none. absurd (omega (arith, none))), (λ g none. absurd (omega (arith, none)))),
          new_moved t _ c (cradled x cradles) (spot_of x.entry.hand) (one_more x.entry.running.steps) (claim_counted false x.entry).counts (Zeroes k 0)
              (new_cradled t _ c x (spot_of x.entry.hand) cradles w'.running),
          w.empty,
        );
      };
    }

-- ---- a slot is taken from the chain

takes : (t : Plan) (c : ℕ) (s : Shared) (x : Caller) (claim : Claim) (tops j q next : ℕ) → tops ≡ t.setting.sizes.tops → IsErased t.target t.text → t.home 0 ≡ 0 → SharedHolds t s → Claiming t s c x → 1 ≤ j
    → Kept t c s x (store s.memory (Head claim.kind) (if s.memory (Head claim.kind) == head_word tops q j then head_word tops q next else s.memory (Head claim.kind)))
    (claimed Optimistic t.target (look_took t.setting.sizes claim q j (s.memory (Head claim.kind))) (claim_counted (takes_at t.setting.sizes.tops (claims.Take q j next) (s.memory (Head claim.kind))) (counted x.entry)))
takes t c s x claim tops j q next own erased null_home f w some =
    subst (λ (n : ℕ). Kept t c s x (store s.memory (Head claim.kind) (if s.memory (Head claim.kind) == head_word n q j then head_word n q next else s.memory (Head claim.kind)))
    (claimed Optimistic t.target (look_took t.setting.sizes claim q j (s.memory (Head claim.kind))) (claim_counted (takes_at t.setting.sizes.tops (claims.Take q j next) (s.memory (Head claim.kind))) (counted x.entry)))) (sym own)
    (of (s.memory (Head claim.kind) == head_word t.setting.sizes.tops q j)) where
      of : (b : Bool) → Kept t c s x (store s.memory (Head claim.kind) (if b then head_word t.setting.sizes.tops q next else s.memory (Head claim.kind)))
          (claimed Optimistic t.target (if b then claim_goes claim (claims.StoreUsed q j) else claim_goes claim claims.ReadHead) (claim_counted b (counted x.entry)))
      of true =
          let memory' : Word → ℕ = store s.memory (Head claim.kind) (head_word t.setting.sizes.tops q next) in
          let r = head_risen s.memory claim.kind (head_word t.setting.sizes.tops q next) f.warning in
          claim_kept t c s (with_words s memory') x (record claim { stage = claims.StoreUsed q j }) None true memory' s.present erased null_home f (fine_risen t s memory' r f) (goes_risen t s memory' r) refl refl refl refl w some
      of false = claim_kept t c s s x (record claim { stage = claims.ReadHead }) None false _ s.present erased null_home f f (goes_same t s) refl refl (store_idle s.memory (Head claim.kind)) refl w tt

-- its sweeps warn the callers
claim_warns : (setting : Setting) (c : ℕ) (claim : Claim) → setting.reclamation ≡ Optimistic → ClaimBelongs setting c claim → Warns setting.sizes.tops claim.sweep
claim_warns setting c claim optimistic own =
    let warned = claim_warned setting c claim optimistic own in
    record { scheme = warned; tops = own.tops; low = subst (λ (scheme : Scheme). HasLow scheme claim.sweep.bound claim.sweep.low) warned own.sweep.low }

-- each step of a claim
pub claims_keep : (t : Plan) (c : ℕ) (s : Shared) (x : Caller) (claim : Claim) (stage : ClaimStage) → claim.stage ≡ stage → IsErased t.target t.text → t.home 0 ≡ 0 → 1 ≤ t.setting.sizes.callers → SharedHolds t s → Claiming t s c x → new_number t.target x.entry < length x.entry.cradles → TakenIsReady s.memory stage → t.setting.reclamation ≡ Optimistic → ClaimBelongs t.setting x.entry.number claim → ClaimAt t s claim.sweep stage
    → KeptNaming t c s x (after_access s.memory (claim_wants_at claim.sweep.tops claim.kind claim.sweep stage)) (claimed Optimistic t.target (claim_accepts_at t.setting.sizes t.setting.last claim (s.memory (word_of (claim_wants_at claim.sweep.tops claim.kind claim.sweep stage))) stage) (claim_counted (takes_at t.setting.sizes.tops stage (s.memory (word_of (claim_wants_at claim.sweep.tops claim.kind claim.sweep stage)))) (counted x.entry))) (freed_in stage claim.sweep.stage s.memory s.present)
claims_keep t c s x claim claims.ReadHead is erased null_home some f w lt ready optimistic own at =
    let turn = look_begun claim (head_parts t.setting.sizes.tops (s.memory (Head claim.kind))) in
    claim_kept t c s s x turn.claim turn.ended false _ s.present erased null_home f f (goes_same t s) refl refl (store_idle s.memory (Head claim.kind)) refl w (head_next t s claim (head_parts t.setting.sizes.tops (s.memory (Head claim.kind))))
claims_keep t c s x claim (claims.ReadLink q j) is erased null_home some f w lt ready optimistic own at =
    claim_kept t c s s x (record claim { stage = claims.Take q j (s.memory (Link j)) }) None false _ s.present erased null_home f f (goes_same t s) refl refl (store_idle s.memory (Link j)) refl w at
claims_keep t c s x claim (claims.Take q j next) is erased null_home some f w lt ready optimistic own at = takes t c s x claim claim.sweep.tops j q next own.tops erased null_home f w at
claims_keep t c s x claim (claims.StoreUsed q j) is erased null_home some f w lt ready optimistic own at = took t c s x claim j ready.0 q null_home f w at lt ready.1
claims_keep t c s x claim (claims.Withdraw number) is erased null_home some f w lt ready optimistic own at = absurd (never_withdraws t.setting x.entry.number number claim optimistic own is)
claims_keep t c s x claim claims.Sweeps is erased null_home some f w lt ready optimistic own at =
    let turn = sweep_accepts_at t.setting.sizes t.setting.last claim.sweep (s.memory (word_of (sweep_wants_at claim.sweep.tops claim.sweep.scheme claim.sweep.stage claim.sweep.bound))) claim.sweep.stage in
    let swept = sweep_step t s claim.sweep claim.sweep.stage some f (claim_warns t.setting x.entry.number claim optimistic own) at in
    claim_kept t c s swept.s' x (sweep_ended claim turn.sweep turn.ended).claim (sweep_ended claim turn.sweep turn.ended).ended false _ _ erased null_home f swept.shared_holds swept.goes swept.source swept.unused swept.memory swept.present w
    (sweep_goes_on t swept.s' claim turn.sweep turn.ended is swept.next)
