-- Along a run: each caller has claimed at most as often as it took calls with a `new`.
use Rattle.std.proofs.Common.{◌≡◌, ◌⊎◌, inl, inr, ⊎_elim, ℕ, zero, suc, ◌+◌, ◌≤◌, Bool, true, false, List, [], ◌∷◌, ◌++◌, map, Option, Some, None, refl, sym, ◌∙◌, ap, subst, arith}
use Rattle.std.specs.Prelude.{slice_get}
use Rattle.norm_lang.specs.declared.text.Text.{Text}
use Rattle.norm_lang.specs.declared.reply.SourceReply.{SourceReply}
use Rattle.norm_lang.specs.declared.reply.SourceReply.TheVariants as replies
use Rattle.target_code.specs.declared.target.Target.{Target}
use Rattle.target_laws.specs.target_runs.Runnable.{MayBeWalked}
use Rattle.phase_pools.specs.Accesses.{WordAccess}
use Rattle.phase_pools.specs.Pools.{Claim, claim_accepts, claim_wants, claim_wants_at}
use Rattle.caller_parts.specs.declared.call.Replied.{Replied}
use Rattle.caller_parts.specs.declared.call.Running.{Running}
use Rattle.caller_parts.specs.declared.routine.Routine.TheVariants.{Claims}
use Rattle.caller_parts.specs.Pairing.{replied_by, run_of}
use Rattle.caller_parts.specs.Settings.{Setting, Fits, IsSetting}
use Rattle.caller_steps.specs.Entries.{Entry, is_idle}
use Rattle.caller_steps.specs.After.{after, counted}
use Rattle.caller_steps.specs.Lawful.{Accepts, AsksSafely, IsSafe}
use Rattle.caller_steps.specs.Belongs.{Belongs, Stands as StandsAt}
use Rattle.core_runs.specs.Machine.{CoreState, CoreEvent, Steps, Reachable, core_run, core_start, found_by}
use Rattle.core_runs.specs.Advances.{RunsOn, Ends}
use Rattle.core_runs.specs.Histories.{calls_of, running_of}
use Rattle.core_runs.proofs.Reaching.{run_more}
use Rattle.core_runs.specs.caller_laws.Laws.{ForRuns}
use Rattle.core_runs.proofs.caller_laws.Methods.{setting_sane}
use Rattle.core_runs.proofs.caller_laws.Equations.{wants_claims}
use Rattle.core_runs.proofs.caller_laws.Pools.{ClaimOn, claim_keeps}
use Rattle.core_runs.proofs.caller_laws.Safety.{wants_safe}
use Rattle.core_runs.proofs.caller_laws.Together.{methods}
use Rattle.core_runs.specs.core_sound.Sound.{IsSound}
use Rattle.core_runs.proofs.core_sound.Machine.{found_told}
use Rattle.core_runs.proofs.core_sound.Reached.{states_are_sound}
use Rattle.claim_laws.specs.CallSteps.{StepMade, call_steps}
use Rattle.claim_laws.specs.Full.{claims_in}
use Rattle.claim_laws.specs.Publishing.{again_routine, news_of_call, HasFewNews, PublishedEnd, new_calls, new_calls_in, FullTakesCalls}
use Rattle.claim_laws.proofs.Running.{IsStepOf, StepKeeps, Stands, run_stands}
use Rattle.claim_laws.proofs.Filling.{reached_pool}
use Rattle.claim_laws.proofs.Sought.{full_takes}
use Rattle.claim_laws.proofs.Calling.{credit, credits, HasPublished, Standing, Ended, Going, call_step}

-- ---- one caller

-- one more reply
got_last : (given : List Replied) (i : ℕ) (r new : Replied) → slice_get (given ++ new ∷ []) i ≡ Some r → (slice_get given i ≡ Some r) ⊎ (new ≡ r)
got_last [] zero r new is = inr cc
got_last [] (suc i) r new is = absurd (let z : None ≡ Some r = is in cc)
got_last (x ∷ given) zero r new is = inl is
got_last (x ∷ given) (suc i) r new is = got_last given i r new is

abbrev FullNew : Target → List Replied → Type 0
FullNew target given = (i : ℕ) (r : Replied) → slice_get given i ≡ Some r → r.reply ≡ replies.Full → 1 ≤ news_of_call target r.call

-- a caller that rests has claimed for its answered calls alone; one whose call runs stands in it
record HasRested (target : Target) (e : Entry) : Type 0 where
  claims : e.counts.claims ≤ credits target e.replies
  full : FullNew target e.replies

record IsRunning (target : Target) (setting : Setting) (e : Entry) (steps : List StepMade) : Type 0 where
  stands : Standing target setting e steps
  full : FullNew target e.replies

-- the entry with the steps of its calls
abbrev Called : Target → Setting → Entry → List (List StepMade) → Bool → Type 0
Called target setting = Stands target setting (HasRested target) (IsRunning target setting)

-- ---- a step of a claim

-- a claim's step ends with a slot of the row, if with any
pub claim_on_step : (target : Target) (text : Text) (setting : Setting) → MayBeWalked target text → IsSetting setting → Fits target setting → (past : List CoreEvent) (state : CoreState) (k : ℕ) (d : Entry) (a : WordAccess) (claim : Claim)
    → IsStepOf target setting past state k d a → d.routine ≡ Claims claim → (let turn = claim_accepts setting.sizes setting.last claim (found_by setting state a) in ClaimOn setting d.number turn.ended turn.claim)
claim_on_step target text setting runs own fits past state k d a claim step is =
    let stands : StandsAt target setting d (Claims claim) = subst (StandsAt target setting d) is belongs.stands in
    let wanted : a ≡ claim_wants claim = (let same : Some a ≡ Some (claim_wants claim) = sym step.wanted ∙ wants_claims target d claim is in cc) in
    let told : Accepts target setting (claim_wants claim) (found_by setting state a) = subst (λ (x : WordAccess). Accepts target setting x (found_by setting state a)) wanted (found_told target setting state a sound safe) in
    claim_keeps target setting d.number claim (found_by setting state a) claim.stage refl (setting_sane setting own) (let lt = belongs.number in omega (arith, lt)) stands.1.kind (stands.1.scheme, stands.1.tops) stands.1.stands stands.1.sweep told where
      sound : IsSound target setting state
      sound = states_are_sound target text setting state runs own fits (record { events = past; runs = step.came })

      belongs : Belongs target setting d
      belongs = (sound.belong k d step.there).0

      safe : IsSafe target setting a
      safe = subst (λ (o : Option WordAccess). AsksSafely target setting o) step.wanted (wants_safe target setting d (methods target text runs) (setting_sane setting own) fits belongs step.busy)

-- ---- all callers

module _ (target : Target) (text : Text) (setting : Setting) (runs : MayBeWalked target text) (own_setting : IsSetting setting) (fits : Fits target setting) (few : HasFewNews target) (never : PublishedEnd target setting) where
  -- a caller's step
  keeps : StepKeeps target setting (HasRested target) (IsRunning target setting)
  keeps past state k d a steps step own was =
      by (call_step target setting (methods target text runs) (setting_sane setting own_setting) few d found steps belongs belongs_later step.busy (((reached_pool target text setting runs own_setting fits state reached).pool.before k d step.there)) again was.stands on)
    where
      found : ℕ
      found = found_by setting state a

      new : Entry
      new = after target setting d found

      s : StepMade
      s = record { entry = d; found = found }

      reached : Reachable target setting state
      reached = record { events = past; runs = step.came }

      sound : IsSound target setting state
      sound = states_are_sound target text setting state runs own_setting fits reached

      belongs : Belongs target setting d
      belongs = (sound.belong k d step.there).0

      reached_later : Reachable target setting step.next
      reached_later = record { events = past ++ Steps k ∷ []; runs = run_more target setting past (Steps k) (core_start target setting) state step.next step.came step.goes }

      belongs_later : Belongs target setting new
      belongs_later = ((states_are_sound target text setting step.next runs own_setting fits reached_later).belong k new step.later).0

      again : d.routine ≡ again_routine setting.reclamation → HasPublished target setting steps → ⊥
      again is h = never.each past state k d h.before h.step h.later step.came step.there is (own ∙ h.among) h.publishes

      on : (claim : Claim) → d.routine ≡ Claims claim → (let turn = claim_accepts setting.sizes setting.last claim found in ClaimOn setting d.number turn.ended turn.claim)
      on claim is = claim_on_step target text setting runs own_setting fits past state k d a claim step is

      by : Going target setting d new (steps ++ s ∷ []) ⊎ Ended target d new
          → (Ends (counted d) new → HasRested target new) × (RunsOn (counted d) new → IsRunning target setting new (steps ++ s ∷ []))
      by (inl g) = (
        (λ (t : Ends (counted d) new). absurd (let z : false ≡ true = sym g.busy ∙ t.1 in cc)),
        (λ (t : RunsOn (counted d) new). record { stands = g.stands; full = subst (FullNew target) (sym g.given) was.full }),
      )
      by (inr r) = (
        (λ (t : Ends (counted d) new). record {
          claims = r.claims;
          full = subst (FullNew target) (sym r.given) (λ i x got is. ⊎_elim
              (λ (at : slice_get d.replies i ≡ Some x). was.full i x at is)
              (λ (at : replied_by r.reply (counted d).running ≡ x). subst (λ (y : Replied). 1 ≤ news_of_call target y.call) at (r.full (ap (λ (y : Replied). y.reply) at ∙ is)))
              (got_last d.replies i x (replied_by r.reply (counted d).running) got));
        }),
        (λ (t : RunsOn (counted d) new). absurd (let z : true ≡ false = sym r.idle ∙ t.0 in cc)),
      )

  all_called : (events : List CoreEvent) (state : CoreState) → core_run target setting events (core_start target setting) ≡ Some state → (c : ℕ) (e : Entry) → slice_get state.entries c ≡ Some e
      → Called target setting e (call_steps target setting events c) (is_idle e.routine)
  all_called = run_stands target setting (HasRested target) (IsRunning target setting)
      (λ c. record { claims = omega arith; full = λ i r got full. absurd (let z : None ≡ Some r = got in cc) })
      (λ e call was. record { stands = inl was.claims; full = was.full })
      keeps

-- ---- counts

calls_both : (target : Target) (xs ys : List Running) → new_calls target (xs ++ ys) ≡ new_calls target xs + new_calls target ys
calls_both target [] ys = omega arith
calls_both target (x ∷ xs) ys = let rest = calls_both target xs ys in omega (arith, rest)

credit_within : (target : Target) (r : Replied) (reply : SourceReply) → credit target r reply ≤ news_of_call target r.call
credit_within target r (replies.Number n) = omega arith
credit_within target r _ = omega arith

credits_within : (target : Target) (given : List Replied) → credits target given ≤ new_calls target (map run_of given)
credits_within target [] = omega arith
credits_within target (r ∷ given) = let rest = credits_within target given in let here = credit_within target r r.reply in omega (arith, rest, here)

-- a call that was told so had a `new`, and no credit
credits_below : (target : Target) (given : List Replied) (i : ℕ) (r : Replied) → slice_get given i ≡ Some r → r.reply ≡ replies.Full → 1 ≤ news_of_call target r.call
    → credits target given + 1 ≤ new_calls target (map run_of given)
credits_below target [] i r got full some = absurd (let z : None ≡ Some r = got in cc)
credits_below target (x ∷ given) zero r got full some =
    let same : x ≡ r = cc in
    let none : credit target x x.reply ≡ 0 = ap (λ (y : Replied). credit target y y.reply) same ∙ ap (credit target r) full in
    let one : 1 ≤ news_of_call target x.call = subst (λ (y : Replied). 1 ≤ news_of_call target y.call) (sym same) some in
    let rest = credits_within target given in
    omega (arith, none, one, rest)
credits_below target (x ∷ given) (suc i) r got full some = let rest = credits_below target given i r got full some in let here = credit_within target x x.reply in omega (arith, rest, here)

module _ (target : Target) (setting : Setting) where
  -- so many credits, and a call that runs
  with_running : (e : Entry) (calls : List (List StepMade)) (spare : ℕ) → Called target setting e calls (is_idle e.routine) → credits target e.replies + spare ≤ new_calls target (map run_of e.replies)
      → e.counts.claims + spare ≤ new_calls target (calls_of e)
  with_running e calls spare p few = of (is_idle e.routine) p where
    of : (b : Bool) → Called target setting e calls b → e.counts.claims + spare ≤ new_calls target (map run_of e.replies ++ running_of b e)
    of true was = let both = calls_both target (map run_of e.replies) [] in let le = was.0.claims in omega (arith, both, le, few)
    of false was = by was.4.stands where
      both : new_calls target (map run_of e.replies ++ e.running ∷ []) ≡ new_calls target (map run_of e.replies) + new_calls target (e.running ∷ [])
      both = calls_both target (map run_of e.replies) (e.running ∷ [])

      by : Standing target setting e was.1 → e.counts.claims + spare ≤ new_calls target (map run_of e.replies ++ e.running ∷ [])
      by (inl le) = omega (arith, both, le, few)
      by (inr claimed) = let le = claimed.0 in let some = claimed.1 in omega (arith, both, le, some, few)

  full_news : (e : Entry) (calls : List (List StepMade)) (b : Bool) → Called target setting e calls b → FullNew target e.replies
  full_news e calls true was = was.0.full
  full_news e calls false was = was.4.full

  caller_within : (e : Entry) (calls : List (List StepMade)) → Called target setting e calls (is_idle e.routine) → e.counts.claims ≤ new_calls target (calls_of e)
  caller_within e calls p = let le = credits_within target e.replies in let all = with_running e calls 0 p (omega (arith, le)) in omega (arith, all)

  caller_below : (e : Entry) (calls : List (List StepMade)) (i : ℕ) (r : Replied) → Called target setting e calls (is_idle e.routine) → slice_get e.replies i ≡ Some r → r.reply ≡ replies.Full
      → e.counts.claims + 1 ≤ new_calls target (calls_of e)
  caller_below e calls i r p got full = with_running e calls 1 p (credits_below target e.replies i r got full (full_news e calls (is_idle e.routine) p i r got full))

all_within : (target : Target) (entries : List Entry) → ((c : ℕ) (e : Entry) → slice_get entries c ≡ Some e → e.counts.claims ≤ new_calls target (calls_of e)) → claims_in entries ≤ new_calls_in target entries
all_within target [] each = omega arith
all_within target (e ∷ entries) each = let here = each 0 e refl in let rest = all_within target entries (λ c f got. each (suc c) f got) in omega (arith, here, rest)

all_below : (target : Target) (entries : List Entry) (c : ℕ) (e : Entry) → ((c : ℕ) (e : Entry) → slice_get entries c ≡ Some e → e.counts.claims ≤ new_calls target (calls_of e)) → slice_get entries c ≡ Some e
    → e.counts.claims + 1 ≤ new_calls target (calls_of e) → claims_in entries + 1 ≤ new_calls_in target entries
all_below target [] c e each got below = absurd (let z : None ≡ Some e = got in cc)
all_below target (x ∷ entries) zero e each got below =
    let same : x ≡ e = cc in
    let here : x.counts.claims + 1 ≤ new_calls target (calls_of x) = subst (λ (y : Entry). y.counts.claims + 1 ≤ new_calls target (calls_of y)) (sym same) below in
    let rest = all_within target entries (λ d f at. each (suc d) f at) in omega (arith, here, rest)
all_below target (x ∷ entries) (suc c) e each got below = let here = each 0 x refl in let rest = all_below target entries c e (λ d f at. each (suc d) f at) got below in omega (arith, here, rest)

pub full_takes_calls : ForRuns FullTakesCalls
full_takes_calls target text setting runs own fits = record {
  each = λ events state c i e replied few never run there got full.
      let calls = all_called target text setting runs own fits few never events state run in
      let fill = (full_takes target text setting runs own fits).each events state c i e replied run there got full in
      let below = all_below target state.entries c e (λ d f at. caller_within target setting f (call_steps target setting events d) (calls d f at)) there
      (caller_below target setting e (call_steps target setting events c) i replied (calls c e there) got full) in
      (fill.0, fill.1, fill.2, (let enough = fill.3 in omega (arith, enough, below)));
}
