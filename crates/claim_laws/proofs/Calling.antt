-- A call of an operation with one `new`: it claims at most once before it has published, and past that it claims no more.
use Rattle.std.proofs.Common.{◌≡◌, ◌≢◌, ◌⊎◌, inl, inr, ⊎_elim, ℕ, zero, suc, ◌+◌, ◌≤◌, ◌<◌, ◌==◌, if◌then◌else◌, Bool, true, false, List, [], ◌∷◌, ◌++◌, length, set, Option, Some, None, refl, sym, ◌∙◌, ap, subst, arith, get_or-set_same}
use Rattle.std.specs.Prelude.{slice_get, slice_index}
use Rattle.std.proofs.lemmas.List.{append_assoc}
use native.Mathlib.Decide.{ℕ_discrete}
use mathlib.Core.Logic.{dite}
use Rattle.norm_lang.specs.declared.text.Reg.{Reg}
use Rattle.norm_lang.specs.declared.text.Instr.TheVariants as instr
use Rattle.norm_lang.specs.declared.reply.SourceReply.{SourceReply}
use Rattle.norm_lang.specs.declared.reply.SourceReply.TheVariants as replies
use Rattle.target_code.specs.declared.target.TargetInstr.{TargetInstr}
use Rattle.target_code.specs.declared.target.TargetInstr.TheVariants.{Plain}
use Rattle.target_code.specs.declared.target.TargetOp.{TargetOp}
use Rattle.target_code.specs.declared.target.Target.{Target}
use Rattle.target_code.specs.TargetLimits.{is_target_new, target_news_in}
use Rattle.phase_pools.specs.declared.access.ClaimEnd.{ClaimEnd}
use Rattle.phase_pools.specs.declared.access.ClaimEnd.TheVariants as ends
use Rattle.phase_pools.specs.declared.stages.ClaimStage.{ClaimStage}
use Rattle.phase_pools.specs.declared.stages.ClaimStage.TheVariants as claims
use Rattle.oa_words.specs.SlotKinds.{kind_of}
use Rattle.phase_pools.specs.Pools.{Claim, ClaimTurn, claim_accepts, claim_accepts_at, claim_ends, claim_goes, claim_takes, takes_at}
use Rattle.oa_words.specs.Packed.{head_word}
use Rattle.caller_parts.proofs.News.{new_there}
use Rattle.caller_parts.specs.declared.call.Replied.{Replied}
use Rattle.caller_parts.specs.declared.call.Running.{Running}
use Rattle.caller_parts.specs.declared.routine.AnnounceReason.{AnnounceReason}
use Rattle.caller_parts.specs.declared.routine.AnnounceReason.TheVariants as reasons
use Rattle.caller_parts.specs.declared.routine.Announcing.TheVariants as announces
use Rattle.caller_parts.specs.declared.routine.MethodStart.{MethodStart}
use Rattle.caller_parts.specs.declared.routine.MethodStart.TheVariants as starts
use Rattle.caller_parts.specs.declared.routine.AfterRetire.TheVariants as retires
use Rattle.caller_parts.specs.declared.routine.Routine.{Routine}
use Rattle.caller_parts.specs.declared.routine.Routine.TheVariants.{Idle, LoadSeen, At, InList, Retires, Restarts, Clears, Claims, Zeroes, Announces}
use Rattle.caller_parts.specs.Pairing.{replied_by}
use Rattle.caller_parts.specs.Settings.{Setting}
use Rattle.caller_steps.specs.Entries.{Entry, is_idle, code_in, cradle_of, instr_in, new_number}
use Rattle.caller_parts.specs.Operands.{is_new_at, kind_made, code_at, cradle_number, method_code}
use Rattle.caller_steps.specs.Signs.{Moved}
use Rattle.caller_steps.specs.After.{after, counted, claim_counted, claim_on, is_wrap_up, slot_gained, with_routine}
use Rattle.caller_steps.specs.Belongs.{Belongs, ClaimStands, RunsAt, Stands}
use Rattle.core_runs.specs.Advances.{RunsOn, Ends}
use Rattle.core_runs.proofs.Turning.{after_turns}
use Rattle.target_laws.specs.target_runs.Sane.{SaneAt}
use Rattle.core_runs.proofs.caller_laws.Methods.{Methods, SettingSane}
use Rattle.core_runs.proofs.caller_laws.Equations.{after_is, moved_claims}
use Rattle.core_runs.proofs.caller_laws.Stopping.{site_of}
use Rattle.core_runs.proofs.caller_laws.Cradles.{cradle_number_small, new_counts}
use Rattle.core_runs.proofs.caller_laws.Pools.{ClaimOn}
use Rattle.claim_laws.specs.CallSteps.{StepMade}
use Rattle.claim_laws.specs.Publishing.{again_routine, news_of, news_of_call, HasFewNews, Publishes}
use Rattle.claim_laws.proofs.Onward.{IsAnswer, IsBefore, IsNoClaim, StandsAfter, after_answers, ClaimStarts, Gains, IsNoStore, KeepsFrom, IsPastAt, IsPast, StepKeeps, after_keeps, slot_gains}

-- ---- at a `new`

generator_news : (o : Option TargetOp) → target_news_in (method_code o false) ≡ news_of o
generator_news None = refl
generator_news (Some op) = refl

-- the generator of the operation that a caller runs
abbrev generator_of : Target → Entry → List TargetInstr
generator_of target e = code_at target e.running.call.op false

-- it stands at one of its `new`, and the cradle for which it claims is that of this
pub record ClaimsForNew (target : Target) (e : Entry) : Type 0 where
  pub new : is_new_at (slice_get (generator_of target e) e.hand.at) ≡ true
  pub number : new_number target e ≡ cradle_number (generator_of target e) e.hand.at

two : {n : ℕ} (here : Bool) → here ≡ true → 1 ≤ n → (if here then n + 1 else n) ≤ 1 → ⊥
two true is some few = omega (arith, some, few)
two false is some few = let z : false ≡ true = is in cc

-- if a method has no more than one `new`, its places of one are the same
only_place : (code : List TargetInstr) (a b : ℕ) → target_news_in code ≤ 1 → is_new_at (slice_get code a) ≡ true → is_new_at (slice_get code b) ≡ true → a ≡ b
only_place [] a b few new also = absurd (let z : false ≡ true = new in cc)
only_place (i ∷ code) zero zero few new also = refl
only_place (i ∷ code) zero (suc b) few new also = absurd (two (is_target_new i) new (new_counts code b also) few)
only_place (i ∷ code) (suc a) zero few new also = absurd (two (is_target_new i) also (new_counts code a new) few)
only_place (i ∷ code) (suc a) (suc b) few new also = ap suc (only_place code a b (fewer (is_target_new i) few) new also) where
  fewer : (here : Bool) → (if here then target_news_in code + 1 else target_news_in code) ≤ 1 → target_news_in code ≤ 1
  fewer true le = omega (arith, le)
  fewer false le = le

module _ (target : Target) (setting : Setting) (sane : Methods target) where
  -- a caller that claims is in a generator, at one of its `new`, for the cradle of this
  pub claims_at_new : (e : Entry) (claim : Claim) → Belongs target setting e → e.routine ≡ Claims claim
      → (e.hand.wrapup ≡ false) × (1 ≤ news_of_call target e.running.call) × ClaimsForNew target e
  claims_at_new e claim b is = (
    in_generator,
    subst (λ (n : ℕ). 1 ≤ n) count (new_counts (code_in target e) e.hand.at stands),
    record {
      new = subst (λ (w : Bool). is_new_at (slice_get (code_at target e.running.call.op w) e.hand.at) ≡ true) in_generator stands;
      number = ap (λ (w : Bool). cradle_number (code_at target e.running.call.op w) e.hand.at) in_generator;
    },
  ) where
    stands : is_new_at (instr_in target e) ≡ true
    stands = let all : Stands target setting e (Claims claim) = subst (Stands target setting e) is b.stands in all.0

    there : (d : Reg) × (kind : ℕ) × (instr_in target e ≡ Some (Plain (instr.New d kind)))
    there = new_there (instr_in target e) stands

    site : SaneAt target e.hand.wrapup (code_in target e) e.hand.at (Plain (instr.New there.0 there.1))
    site = site_of target e (Plain (instr.New there.0 there.1)) sane (subst (RunsAt target e) is b.reaches) there.2

    in_generator : e.hand.wrapup ≡ false
    in_generator = site.own.news refl

    count : target_news_in (code_in target e) ≡ news_of_call target e.running.call
    count = ap (λ (w : Bool). target_news_in (method_code (slice_get target.ops e.running.call.op) w)) in_generator ∙ generator_news (slice_get target.ops e.running.call.op)

  -- a caller of a wrap-up claims nothing, and is past its list as long as it hasn't loaded a phase to announce
  past_of_wrap : (e : Entry) → Belongs target setting e → e.hand.wrapup ≡ true → IsNoStore e.routine → IsPast e ⊎ (is_idle e.routine ≡ true)
  past_of_wrap e b w no_store = of e.routine refl where
    of : (routine : Routine) → e.routine ≡ routine → IsPast e ⊎ (is_idle e.routine ≡ true)
    of Idle is = inr (ap is_idle is)
    of (Claims claim) is = absurd (let z : true ≡ false = sym w ∙ (claims_at_new e claim b is).0 in cc)
    of (LoadSeen why) is = inl (subst (IsPastAt e) (sym is) w)
    of At is = inl (subst (IsPastAt e) (sym is) w)
    of (InList k) is = inl (subst (IsPastAt e) (sym is) tt)
    of (Retires retirement retires.Next) is = inl (subst (IsPastAt e) (sym is) w)
    of (Retires retirement (retires.List k)) is = inl (subst (IsPastAt e) (sym is) tt)
    of Restarts is = inl (subst (IsPastAt e) (sym is) w)
    of (Clears next) is = inl (subst (IsPastAt e) (sym is) w)
    of (Zeroes k field) is = inl (subst (IsPastAt e) (sym is) w)
    of (Announces (announces.Loads why)) is = inl (subst (IsPastAt e) (sym is) w)
    of (Announces (announces.Stores why phase)) is = absurd (subst IsNoStore is no_store)
    of (Announces (announces.Leaves reply)) is = inl (subst (IsPastAt e) (sym is) w)

-- ---- credits

-- a call that got an answer may have claimed for each of its `new`
abbrev pub credit : Target → Replied → SourceReply → ℕ
credit target r (replies.Number n) = news_of_call target r.call
credit target r replies.Nothing = news_of_call target r.call
credit target r replies.Full = 0
credit target r (replies.Phases p) = 0

abbrev pub credits : Target → List Replied → ℕ
credits target [] = 0
credits target (r ∷ given) = credit target r r.reply + credits target given

credits_more : (target : Target) (given : List Replied) (r : Replied) → credits target (given ++ r ∷ []) ≡ credits target given + credit target r r.reply
credits_more target [] r = omega arith
credits_more target (x ∷ given) r = let rest = credits_more target given r in omega (arith, rest)

answer_credit : (target : Target) (run : Running) (reply : SourceReply) → IsAnswer reply → credit target (replied_by reply run) reply ≡ news_of_call target run.call
answer_credit target run (replies.Number n) is = refl
answer_credit target run replies.Nothing is = refl
answer_credit target run replies.Full is = absurd is
answer_credit target run (replies.Phases p) is = absurd is

-- ---- where a call stands

-- it has published
pub record HasPublished (target : Target) (setting : Setting) (steps : List StepMade) : Type 0 where
  pub before : List StepMade
  pub step : StepMade
  pub later : List StepMade
  pub among : steps ≡ before ++ step ∷ later
  pub publishes : Publishes target setting step

abbrev NoClaim : Routine → Type 0
NoClaim (Claims claim) = ⊥
NoClaim _ = Unit {0}

-- a claim has taken its slot, and stores that it is used
abbrev TookAt : ClaimStage → Type 0
TookAt claims.ReadHead = ⊥
TookAt (claims.ReadLink q t) = ⊥
TookAt (claims.Take q t next) = ⊥
TookAt (claims.StoreUsed q t) = Unit {0}
TookAt (claims.Withdraw own) = ⊥
TookAt claims.Sweeps = ⊥

abbrev Took : Routine → Type 0
Took (Claims claim) = TookAt claim.stage
Took _ = ⊥

-- the cradle of a `new` of its operation has a slot
abbrev HasSlot : Target → Entry → Type 0
HasSlot target e = (at : ℕ) × (is_new_at (slice_get (generator_of target e) at) ≡ true) × (cradle_of e (cradle_number (generator_of target e) at) ≢ 0)

-- its cradle holds its slot, or gets it with the next access
abbrev Holds : Target → Entry → Type 0
Holds target e = (HasSlot target e × NoClaim e.routine) ⊎ Took e.routine

took_claims : (routine : Routine) → Took routine → IsNoClaim routine → ⊥
took_claims (Claims claim) took none = none
took_claims _ took none = took

-- it has claimed nothing, or it has claimed once and holds the slot, or it has published the node and is past its generator
abbrev HasClaimed : Target → Setting → Entry → List StepMade → Type 0
HasClaimed target setting e steps =
    (e.counts.claims ≤ credits target e.replies + 1) × (1 ≤ news_of_call target e.running.call) × (Holds target e ⊎ (HasPublished target setting steps × IsPast e))

abbrev pub Standing : Target → Setting → Entry → List StepMade → Type 0
Standing target setting e steps = (e.counts.claims ≤ credits target e.replies) ⊎ HasClaimed target setting e steps

-- what a step makes of it
pub record Ended (target : Target) (e later : Entry) : Type 0 where
  pub reply : SourceReply
  pub idle : is_idle later.routine ≡ true
  pub given : later.replies ≡ e.replies ++ replied_by reply (counted e).running ∷ []
  pub claims : later.counts.claims ≤ credits target later.replies
  pub full : reply ≡ replies.Full → 1 ≤ news_of_call target e.running.call

pub record Going (target : Target) (setting : Setting) (e later : Entry) (steps : List StepMade) : Type 0 where
  pub busy : is_idle later.routine ≡ false
  pub given : later.replies ≡ e.replies
  pub stands : Standing target setting later steps

module _ (target : Target) (setting : Setting) (sane : Methods target) (row : SettingSane setting) (few : HasFewNews target) (e : Entry) (word : ℕ) (steps : List StepMade) where
  abbrev s : StepMade
  s = record { entry = e; found = word }

  abbrev all : List StepMade
  all = steps ++ s ∷ []

  abbrev later : Entry
  later = after target setting e word

  published_on : HasPublished target setting steps → HasPublished target setting all
  published_on p = record {
    before = p.before;
    step = p.step;
    later = p.later ++ s ∷ [];
    among = ap (λ (l : List StepMade). l ++ s ∷ []) p.among ∙ append_assoc p.before (p.step ∷ p.later) (s ∷ []);
    publishes = p.publishes;
  }

  -- the cradle for which a caller claims is that of the one `new` of its operation
  only_new : (x : Entry) (claim : Claim) → Belongs target setting x → x.routine ≡ Claims claim → (at : ℕ) → is_new_at (slice_get (generator_of target x) at) ≡ true
      → new_number target x ≡ cradle_number (generator_of target x) at
  only_new x claim b is at new =
      let own = (claims_at_new target setting sane x claim b is).2 in
      let one : target_news_in (generator_of target x) ≤ 1 = subst (λ (n : ℕ). n ≤ 1) (sym (generator_news (slice_get target.ops x.running.call.op))) (few x.running.call.op) in
      own.number ∙ ap (cradle_number (generator_of target x)) (only_place (generator_of target x) x.hand.at at one own.new new)

  module _ (b : Belongs target setting e) (b_later : Belongs target setting later) (busy : is_idle e.routine ≡ false) (before : IsBefore e.routine)
      (never : e.routine ≡ again_routine setting.reclamation → HasPublished target setting steps → ⊥) (standing : Standing target setting e steps) where
    turns : RunsOn (counted e) later ⊎ Ends (counted e) later
    turns = after_turns target setting e word busy

    -- ---- a step that isn't one of a claim

    module _ (plain : IsNoClaim e.routine) where
      answers : (later.counts.claims ≡ e.counts.claims) × StandsAfter setting.sizes (counted e) later later.routine
      answers = after_answers target setting e word before plain

      -- it ends with an answer
      ends_so : is_idle later.routine ≡ true → Ended target e later
      ends_so idle = by later.routine refl answers.1 where
        by : (routine : Routine) → later.routine ≡ routine → StandsAfter setting.sizes (counted e) later routine → Ended target e later
        by Idle is stands = record {
          reply = stands.0;
          idle = idle;
          given = stands.2;
          claims = within standing;
          full = λ full. absurd (no_full stands.0 stands.1 full);
        } where
          no_full : (reply : SourceReply) → IsAnswer reply → reply ≡ replies.Full → ⊥
          no_full (replies.Number n) answer e = cc
          no_full replies.Nothing answer e = cc
          no_full replies.Full answer e = answer
          no_full (replies.Phases p) answer e = answer

          sum : credits target later.replies ≡ credits target e.replies + news_of_call target e.running.call
          sum = ap (credits target) stands.2 ∙ (credits_more target e.replies (replied_by stands.0 (counted e).running) ∙ ap (λ (n : ℕ). credits target e.replies + n) (answer_credit target (counted e).running stands.0 stands.1))

          within : Standing target setting e steps → later.counts.claims ≤ credits target later.replies
          within (inl le) = let same = answers.0 in omega (arith, le, same, sum)
          within (inr claimed) = let same = answers.0 in let le = claimed.0 in let some = claimed.1 in omega (arith, le, some, same, sum)
        by _ is stands = absurd (let z : false ≡ true = sym (ap is_idle is) ∙ idle in cc)

      -- it goes on: what is left to say is whether it still holds its slot or is past its generator
      goes_so : RunsOn (counted e) later → (Holds target e → Holds target later ⊎ (HasPublished target setting all × IsPast later)) → (HasPublished target setting steps → IsPast e → IsPast later) → Going target setting e later all
      goes_so runs holds past = record { busy = runs.0; given = runs.1; stands = by standing } where
        same : later.counts.claims ≡ e.counts.claims
        same = answers.0

        given : credits target later.replies ≡ credits target e.replies
        given = ap (credits target) runs.1

        news : news_of_call target later.running.call ≡ news_of_call target e.running.call
        news = ap (λ (run : Running). news_of_call target run.call) runs.2

        by : Standing target setting e steps → Standing target setting later all
        by (inl le) = inl (omega (arith, le, same, given))
        by (inr claimed) = inr (
          (let le = claimed.0 in omega (arith, le, same, given)),
          (let some = claimed.1 in omega (arith, some, news)),
          ⊎_elim
              (λ (t : Holds target e). holds t)
              (λ (t : HasPublished target setting steps × IsPast e). inr (published_on t.0, past t.0 t.1))
              claimed.2,
        )

      -- the call's generator stays
      slot_later : RunsOn (counted e) later → (at : ℕ) → cradle_of later (cradle_number (generator_of target e) at) ≢ 0 → is_new_at (slice_get (generator_of target e) at) ≡ true → HasSlot target later
      slot_later runs at full new =
          let code : generator_of target e ≡ generator_of target later = ap (λ (run : Running). code_at target run.call.op false) (sym runs.2) in
          (at, subst (λ (code : List TargetInstr). is_new_at (slice_get code at) ≡ true) code new, subst (λ (code : List TargetInstr). cradle_of later (cradle_number code at) ≢ 0) code full)

      -- its cradles are those before, and if it claims now, its cradle is empty
      holds_on : RunsOn (counted e) later → later.cradles ≡ e.cradles → ClaimStarts target later later.routine → Holds target e → Holds target later
      holds_on runs same starts (inr took) = absurd (took_claims e.routine took plain)
      holds_on runs same starts (inl holds) = inl (full, by later.routine refl starts) where
        full : HasSlot target later
        full = slot_later runs holds.0.0 (subst (λ (l : List ℕ). slice_index l (cradle_number (generator_of target e) holds.0.0) ≢ 0) (sym same) holds.0.2) holds.0.1

        by : (routine : Routine) → later.routine ≡ routine → ClaimStarts target later routine → NoClaim later.routine
        by (Claims claim) is empty = absurd (full.2 (ap (cradle_of later) (sym (only_new later claim b_later is full.0 full.1)) ∙ empty))
        by _ is empty = subst NoClaim (sym is) tt

      past_busy : is_idle later.routine ≡ false → later.hand.wrapup ≡ true → IsNoStore later.routine → IsPast later
      past_busy running w no_store = ⊎_elim (λ (t : IsPast later). t) (λ (t : is_idle later.routine ≡ true). absurd (let z : false ≡ true = sym running ∙ t in cc)) (past_of_wrap target setting sane later b_later w no_store)

      -- a step that keeps cradles and wrap-ups
      kept_goes : RunsOn (counted e) later → (wrapup : Bool) → KeepsFrom target e.cradles wrapup later → (HasPublished target setting steps → IsPast e → wrapup ≡ true) → Going target setting e later all
      kept_goes runs wrapup keeps wraps = goes_so runs (λ holds. inl (holds_on runs keeps.0 keeps.2 holds)) (λ published past. past_busy runs.0 (keeps.1 (wraps published past)) keeps.3)

      no_claim_past : (x : Entry) (routine : Routine) → x.routine ≡ routine → IsPastAt x routine → NoClaim x.routine
      no_claim_past x (Claims claim) is past = absurd past
      no_claim_past x _ is past = subst NoClaim (sym is) tt

      -- a step of a list, which may publish
      list_goes : RunsOn (counted e) later → IsPast later → Going target setting e later all
      list_goes runs past = goes_so runs on (λ published was. past) where
        on : Holds target e → Holds target later ⊎ (HasPublished target setting all × IsPast later)
        on (inr took) = absurd (took_claims e.routine took plain)
        on (inl holds) = dite (ℕ_discrete (cradle_of later own) 0)
            (λ (empty : cradle_of later own ≡ 0). inr (record { before = steps; step = s; later = []; among = refl; publishes = (own, holds.0.2, empty) }, past))
            (λ (full : cradle_of later own ≢ 0). inl (inl (slot_later runs holds.0.0 full holds.0.1, no_claim_past later later.routine refl past))) where
              own : ℕ
              own = cradle_number (generator_of target e) holds.0.0

      busy_goes : RunsOn (counted e) later → Going target setting e later all
      busy_goes runs = by e.routine refl (after_keeps target setting e word) where
        kept : (routine : Routine) → e.routine ≡ routine → (IsPastAt e routine → e.hand.wrapup ≡ true) → KeepsFrom target e.cradles e.hand.wrapup later → Going target setting e later all
        kept routine is wraps keeps = kept_goes runs e.hand.wrapup keeps (λ published past. wraps (subst (IsPastAt e) is past))

        -- how it stands there
        by_scheme : (routine : Routine) → e.routine ≡ routine → Stands target setting e routine
        by_scheme routine is = subst (Stands target setting e) is b.stands

        seen : (why : MethodStart) → e.routine ≡ LoadSeen why → KeepsFrom target e.cradles (is_wrap_up why) later → Going target setting e later all
        seen starts.Begin is keeps = kept_goes runs false keeps
            (λ published past. absurd (let w : e.hand.wrapup ≡ true = subst (IsPastAt e) is past in
            let stands : Stands target setting e (LoadSeen starts.Begin) = subst (Stands target setting e) is b.stands in let z : true ≡ false = sym w ∙ stands.1.0 in cc))
        seen starts.WrapUp is keeps = kept_goes runs true keeps (λ published past. refl)
        seen starts.Again is keeps =
            kept_goes runs false keeps (λ published past. absurd (never (is ∙ sym (ap again_routine (by_scheme (LoadSeen starts.Again) is).0)) published))

        -- before the load of a phase to announce, it is past its list only if it begins again
        unpast : (why : AnnounceReason) → e.routine ≡ Announces (announces.Loads why) → HasPublished target setting steps → IsPast e → ⊥
        unpast reasons.Begin is published past =
            let w : e.hand.wrapup ≡ true = subst (IsPastAt e) is past in let z : true ≡ false = sym w ∙ (by_scheme (Announces (announces.Loads reasons.Begin)) is).1.0 in cc
        unpast reasons.Swept is published past =
            let w : e.hand.wrapup ≡ true = subst (IsPastAt e) is past in let z : true ≡ false = sym w ∙ (by_scheme (Announces (announces.Loads reasons.Swept)) is).1.0 in cc
        unpast reasons.Again is published past = never (is ∙ sym (ap again_routine (by_scheme (Announces (announces.Loads reasons.Again)) is).0)) published

        by : (routine : Routine) → e.routine ≡ routine → StepKeeps target (counted e) later routine → Going target setting e later all
        by Idle is keeps = absurd (let z : true ≡ false = sym (ap is_idle is) ∙ busy in cc)
        by (Claims claim) is keeps = absurd (subst IsNoClaim is plain)
        by (LoadSeen why) is keeps = seen why is keeps
        by (InList k) is keeps = list_goes runs keeps
        by (Retires retirement (retires.List k)) is keeps = list_goes runs keeps.1
        by (Retires retirement retires.Next) is keeps = kept (Retires retirement retires.Next) is (λ w. w) keeps
        by At is keeps = kept At is (λ w. w) keeps
        by Restarts is keeps = kept Restarts is (λ w. w) keeps
        by (Clears next) is keeps = kept (Clears next) is (λ w. w) keeps
        by (Zeroes k field) is keeps = kept (Zeroes k field) is (λ w. w) keeps
        by (Announces (announces.Loads why)) is keeps = goes_so runs
            (λ holds. inl (holds_on runs keeps.0 (subst (ClaimStarts target later) (sym keeps.2) tt) holds)) (λ published past. absurd (unpast why is published past))
        by (Announces (announces.Stores why phase)) is keeps = kept_goes runs false keeps (λ published past. absurd (subst (IsPastAt e) is past))
        by (Announces (announces.Leaves reply)) is keeps = kept (Announces (announces.Leaves reply)) is (λ w. w) keeps

      plain_step : Going target setting e later all ⊎ Ended target e later
      plain_step = ⊎_elim (λ (t : RunsOn (counted e) later). inl (busy_goes t)) (λ (t : Ends (counted e) later). inr (ends_so t.1)) turns

    -- ---- one of a claim

    module _ (claim : Claim) (there : e.routine ≡ Claims claim) where
      abbrev turn : ClaimTurn
      turn = claim_accepts setting.sizes setting.last claim word

      abbrev Outcome : Entry → Type 0
      Outcome x = Going target setting e x all ⊎ Ended target e x

      later_is : later ≡ (claim_on setting.reclamation target turn.claim turn.ended (claim_counted (claim_takes setting.sizes claim word) (counted e))).entry
      later_is = after_is target setting e word ∙ ap (λ (m : Moved). m.entry) (moved_claims setting.reclamation target setting e word claim there)

      -- as the claim's stage says
      later_by : (takes : Bool) (x : ClaimTurn) → claim_takes setting.sizes claim word ≡ takes → turn ≡ x → later ≡ (claim_on setting.reclamation target x.claim x.ended (claim_counted takes (counted e))).entry
      later_by takes x same is =
          later_is ∙ ap (λ (b : Bool). (claim_on setting.reclamation target turn.claim turn.ended (claim_counted b (counted e))).entry) same
          ∙ ap (λ (y : ClaimTurn). (claim_on setting.reclamation target y.claim y.ended (claim_counted takes (counted e))).entry) is

      -- nothing was claimed yet
      none_yet : (TookAt claim.stage → ⊥) → Standing target setting e steps → e.counts.claims ≤ credits target e.replies
      none_yet other (inl le) = le
      none_yet other (inr claimed) = ⊎_elim
          (λ (t : Holds target e). absurd (⊎_elim (λ (h : HasSlot target e × NoClaim e.routine). subst NoClaim there h.1) (λ (took : Took e.routine). other (subst Took there took)) t))
          (λ (t : HasPublished target setting steps × IsPast e). absurd (subst (IsPastAt e) there t.1))
          claimed.2

      at_new : (e.hand.wrapup ≡ false) × (1 ≤ news_of_call target e.running.call) × ClaimsForNew target e
      at_new = claims_at_new target setting sane e claim b there

      -- a step that takes no slot and doesn't end with one
      by_end : e.counts.claims ≤ credits target e.replies → (next : Claim) (o : Option ClaimEnd) → ClaimOn setting e.number o next → Outcome (claim_on setting.reclamation target next o (claim_counted false (counted e))).entry
      by_end none next None on = inl (record { busy = refl; given = refl; stands = inl none })
      by_end none next (Some (ends.Claimed j)) on =
          let x = with_routine (claim_counted false (counted e)) At in
          let g = slot_gains setting.reclamation target next.sweeps j x in
          inl (record { busy = g.busy; given = g.replies; stands = inl (within_same (slot_gained setting.reclamation target next.sweeps j x) g.claims g.replies) })
        where
          within_same : (y : Entry) → y.counts.claims ≡ e.counts.claims → y.replies ≡ e.replies → y.counts.claims ≤ credits target y.replies
          within_same y claims replies = let sum = ap (credits target) replies in omega (arith, none, claims, sum)
      by_end none next (Some ends.Full) on = inr (record {
        reply = replies.Full;
        idle = refl;
        given = refl;
        claims = (let sum = credits_more target e.replies (replied_by replies.Full (counted e).running) in omega (arith, none, sum));
        full = λ z. at_new.1;
      })
      by_end none next (Some (ends.PhasesOver p)) on = inr (record {
        reply = replies.Phases p;
        idle = refl;
        given = refl;
        claims = (let sum = credits_more target e.replies (replied_by (replies.Phases p) (counted e).running) in omega (arith, none, sum));
        full = λ z. absurd cc;
      })

      most_one : Standing target setting e steps → e.counts.claims ≤ credits target e.replies + 1
      most_one (inl le) = omega (arith, le)
      most_one (inr claimed) = claimed.0

      -- the slot that was taken goes into the cradle
      fills : (j : ℕ) → 1 ≤ j → Outcome (claim_on setting.reclamation target claim (Some (ends.Claimed j)) (claim_counted false (counted e))).entry
      fills j low =
          let x = with_routine (claim_counted false (counted e)) At in
          let g = slot_gains setting.reclamation target claim.sweeps j x in
          inl (record { busy = g.busy; given = g.replies; stands = filled (slot_gained setting.reclamation target claim.sweeps j x) g }) where
            no_claim : (routine : Routine) → IsNoClaim routine → NoClaim routine
            no_claim (Claims claim) other = other
            no_claim Idle other = tt
            no_claim (LoadSeen why) other = tt
            no_claim At other = tt
            no_claim (InList k) other = tt
            no_claim (Retires retirement go) other = tt
            no_claim Restarts other = tt
            no_claim (Clears next) other = tt
            no_claim (Zeroes k field) other = tt
            no_claim (Announces announcing) other = tt

            inside : new_number target e < length e.cradles
            inside =
                let all_stands : Stands target setting e (Claims claim) = subst (Stands target setting e) there b.stands in
                let known = all_stands.1.kind in
                let own = all_stands.2 in
                let most = row.kinds.few in
                let kind : kind_made (slice_get (code_in target e) e.hand.at) < 4 = omega (arith, known, own, most) in
                let small = cradle_number_small target e.hand.wrapup (code_in target e) e.hand.at (sane.code e.running.call.op e.hand.wrapup) all_stands.0 kind in
                let count = b.cradles.count in omega (arith, small, count)

            filled : (y : Entry) → Gains target j (with_routine (claim_counted false (counted e)) At) y → Standing target setting y all
            filled y g =
                let held : slice_index (set e.cradles (new_number target e) j) (new_number target e) ≡ j = get_or-set_same e.cradles (new_number target e) j 0 inside in
                let full : slice_index (set e.cradles (new_number target e) j) (new_number target e) ≢ 0 = (λ null. let z : j ≡ 0 = sym held ∙ null in omega (arith, low, z)) in
                let slot : slice_index (set e.cradles (new_number target e) j) (cradle_number (generator_of target e) e.hand.at) ≢ 0 =
                subst (λ (k : ℕ). slice_index (set e.cradles (new_number target e) j) k ≢ 0) at_new.2.number full in
                let code : generator_of target e ≡ generator_of target y = ap (λ (run : Running). code_at target run.call.op false) (sym g.running) in
                let there : cradle_of y (cradle_number (generator_of target y) e.hand.at) ≢ 0 =
                subst (λ (code : List TargetInstr). cradle_of y (cradle_number code e.hand.at) ≢ 0) code
                (subst (λ (l : List ℕ). slice_index l (cradle_number (generator_of target e) e.hand.at) ≢ 0) (sym g.cradles) slot) in
                let most = most_one standing in
                let claims = g.claims in
                let sum : credits target y.replies ≡ credits target e.replies = ap (credits target) g.replies in
                inr (
                  omega (arith, most, claims, sum),
                  subst (λ (run : Running). 1 ≤ news_of_call target run.call) (sym g.running) at_new.1,
                  inl (inl ((e.hand.at, subst (λ (code : List TargetInstr). is_new_at (slice_get code e.hand.at) ≡ true) code at_new.2.new, there), no_claim y.routine g.other)),
                )

      claim_step : ClaimOn setting e.number turn.ended turn.claim → Outcome later
      claim_step on = of claim.stage refl where
        stands : ClaimStands setting claim.sweep.scheme claim.kind claim.stage
        stands = (let all_stands : Stands target setting e (Claims claim) = subst (Stands target setting e) there b.stands in all_stands.1.stands)

        other : (stage : ClaimStage) → claim.stage ≡ stage → takes_at setting.sizes.tops stage word ≡ false → (TookAt stage → ⊥) → Outcome later
        other stage is takes none = subst Outcome (sym (later_by false turn (ap (λ (x : ClaimStage). takes_at setting.sizes.tops x word) is ∙ takes) refl))
            (by_end (none_yet (λ took. none (subst TookAt is took)) standing) turn.claim turn.ended on)

        of : (stage : ClaimStage) → claim.stage ≡ stage → Outcome later
        of claims.ReadHead is = other claims.ReadHead is refl (λ z. z)
        of (claims.ReadLink q t) is = other (claims.ReadLink q t) is refl (λ z. z)
        of (claims.Withdraw own) is = other (claims.Withdraw own) is refl (λ z. z)
        of claims.Sweeps is = other claims.Sweeps is refl (λ z. z)
        of (claims.StoreUsed q t) is =
            let low : (1 ≤ t) × (t ≤ setting.sizes.slots) × (q ≤ setting.last) × (kind_of setting.sizes t ≡ claim.kind) = subst (ClaimStands setting claim.sweep.scheme claim.kind) is stands in
            subst Outcome (sym (later_by false (claim_ends claim (ends.Claimed t)) (ap (λ (x : ClaimStage). takes_at setting.sizes.tops x word) is) (ap (claim_accepts_at setting.sizes setting.last claim word) is))) (fills t low.0)
        of (claims.Take q t next) is = by (word == head_word setting.sizes.tops q t) refl where
          turns_by : (d : Bool) → (word == head_word setting.sizes.tops q t) ≡ d → turn ≡ (if d then claim_goes claim (claims.StoreUsed q t) else claim_goes claim claims.ReadHead)
          turns_by d same = ap (claim_accepts_at setting.sizes setting.last claim word) is ∙ ap (λ (x : Bool). if x then claim_goes claim (claims.StoreUsed q t) else claim_goes claim claims.ReadHead) same

          by : (d : Bool) → (word == head_word setting.sizes.tops q t) ≡ d → Outcome later
          by false lost = other (claims.Take q t next) is lost (λ z. z)
          by true took = subst Outcome (sym (later_by true (claim_goes claim (claims.StoreUsed q t)) (ap (λ (x : ClaimStage). takes_at setting.sizes.tops x word) is ∙ took) (turns_by true took)))
              (inl (record {
                busy = refl;
                given = refl;
                stands = inr ((let none = none_yet (λ z. subst TookAt is z) standing in omega (arith, none)), at_new.1, inl (inr tt));
              }))

    pub call_step : ((claim : Claim) → e.routine ≡ Claims claim → (let turn = claim_accepts setting.sizes setting.last claim word in ClaimOn setting e.number turn.ended turn.claim)) → Going target setting e later all ⊎ Ended target e later
    call_step on = of e.routine refl where
      plain_by : (routine : Routine) → e.routine ≡ routine → IsNoClaim routine → Going target setting e later all ⊎ Ended target e later
      plain_by routine is other = plain_step (subst IsNoClaim (sym is) other)

      of : (routine : Routine) → e.routine ≡ routine → Going target setting e later all ⊎ Ended target e later
      of Idle is = absurd (let z : true ≡ false = sym (ap is_idle is) ∙ busy in cc)
      of (Claims claim) is = claim_step claim is (on claim is)
      of (LoadSeen why) is = plain_by (LoadSeen why) is tt
      of At is = plain_by At is tt
      of (InList k) is = plain_by (InList k) is tt
      of (Retires retirement go) is = plain_by (Retires retirement go) is tt
      of Restarts is = plain_by Restarts is tt
      of (Clears next) is = plain_by (Clears next) is tt
      of (Zeroes k field) is = plain_by (Zeroes k field) is tt
      of (Announces announcing) is = plain_by (Announces announcing) is tt
