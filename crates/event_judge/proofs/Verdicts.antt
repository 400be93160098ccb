-- What a verdict means.
use Rattle.std.proofs.Common.{ℕ, zero, suc, ◌+◌, ◌<◌, ◌≤◌, ◌≡◌, ◌∙◌, ◌↔◌, Bool, true, false, List, [], ◌∷◌, length, drop, replicate, Option, Some, None, sym, ap, refl, subst, arith}
use Rattle.std.proofs.lemmas.List.{get_or-replicate, get_or_past, length-replicate}
use Rattle.std.specs.Prelude.{Result, Ok, Err, slice_get, slice_index}
use Rattle.norm_lang.specs.declared.text.Text.{Text}
use Rattle.source_machine.specs.declared.event.SourceEvent.{SourceEvent}
use Rattle.norm_lang.specs.declared.reply.SourceReply.{SourceReply}
use Rattle.source_machine.specs.declared.state.SourceMachine.{SourceMachine}
use Rattle.source_machine.specs.State.{source_start}
use Rattle.source_machine.specs.Run.{source_run, source_replies, IsSourceRun}
use Rattle.documents.specs.declared.document.ScriptCall.{ScriptCall}
use Rattle.event_judge.specs.declared.judging.Progress.{Progress}
use Rattle.event_judge.specs.declared.verdict.Verdict.{Verdict}
use Rattle.event_judge.specs.declared.verdict.Verdict.TheVariants.{Accepted, Rejected}
use Rattle.event_judge.specs.Calls.{listed, script_of}
use Rattle.event_judge.specs.Judging.{is_idle, first_progress, walked_on, walked, event_flaw, advanced, agrees_after, found_from, found_after, verdict_on}
use Rattle.event_judge.specs.JudgingLaws.{calls_begun, are_first_calls, Agrees, AgreesAfter, IsRunOf, IsTrueRun, AcceptedIsTrue}
use Rattle.event_judge.proofs.Walks.{left, Walk, walks, is_walked}
use Rattle.event_judge.proofs.Agreements.{agrees_is, is_agrees, all_agree, is_accepted}

-- no caller has begun a call before the first event
none_begun : (n c : ℕ) → slice_index (replicate n 0) c ≡ 0
none_begun zero c = refl
none_begun (suc n) zero = refl
none_begun (suc n) (suc c) = none_begun n c

-- events that show 1 or 2 aren't accepted
stops : (text : Text) (scripts : List (List ScriptCall)) (events : List SourceEvent) (at : ℕ) (old : Progress) (verdict : Verdict)
    → walked text scripts at old events ≡ Err verdict → verdict ≡ Accepted → ⊥
stops text scripts [] at old verdict e same = let f : ⊥ = (let z : Ok old ≡ Err verdict = e in cc) in f
stops text scripts (event ∷ events) at old verdict e same =
    of (event_flaw text scripts old event) e (λ h. stops text scripts events (at + 1) (advanced text old event) verdict h same) where
      of : (o : Option ℕ) → walked_on o at (walked text scripts (at + 1) (advanced text old event) events) ≡ Err verdict
          → (walked text scripts (at + 1) (advanced text old event) events ≡ Err verdict → ⊥) → ⊥
      of None h more = more h
      of (Some number) h more = let f : ⊥ = (let z : Err (Rejected number at) ≡ Err verdict = h in cc) in f

module _ (text : Text) (scripts : List (List ScriptCall)) (events : List SourceEvent) where
  pub all_left : (c : ℕ) → left scripts (first_progress text scripts).begun c ≡ script_of scripts c
  all_left c = ap (λ n. drop n (script_of scripts c)) (none_begun (length scripts) c)

  pub many : length (first_progress text scripts).begun ≡ length scripts
  many = length-replicate (length scripts) 0

  -- events that show neither are a run that begins the calls in order
  pub is_run_of : (new : Progress) → 1 ≤ length scripts → Walk text scripts (first_progress text scripts) events new
      → IsRunOf text scripts events new.state
  is_run_of new some walk = record {
    run = record { some = some; runs = walk.run };
    order = λ c. subst (λ calls. are_first_calls text.ops (calls_begun c events) calls ≡ true) (all_left c) (walk.order c);
  }

  pub counted : (new : Progress) → Walk text scripts (first_progress text scripts) events new → (c : ℕ) → slice_index new.begun c ≡ length (calls_begun c events)
  counted new walk c = walk.counted c ∙ ap (λ n. n + length (calls_begun c events)) (none_begun (length scripts) c) ∙ from_nothing where
    from_nothing : 0 + length (calls_begun c events) ≡ length (calls_begun c events)
    from_nothing = omega arith

  pub is_walk : (state : SourceMachine) → IsRunOf text scripts events state
      → (new : Progress) × (walked text scripts 0 (first_progress text scripts) events ≡ Ok new) × (new.state ≡ state)
  is_walk state r =
      is_walked text scripts events 0 (first_progress text scripts) state many r.run.runs
      (λ c. subst (λ calls. are_first_calls text.ops (calls_begun c events) calls ≡ true) (sym (all_left c)) (r.order c))

  -- a caller agrees by its count
  pub agrees_so : (new : Progress) (c : ℕ) (claimed : List SourceReply) → slice_index new.begun c ≡ length (calls_begun c events)
      → agrees_after new c claimed ≡ true
      → Agrees (length (calls_begun c events)) (is_idle (slice_get new.state.callers c)) (source_replies new.state c) claimed
  agrees_so new c claimed count e =
      subst (λ n. Agrees n (is_idle (slice_get new.state.callers c)) (source_replies new.state c) claimed) count
      (agrees_is (slice_index new.begun c) (is_idle (slice_get new.state.callers c)) (source_replies new.state c) claimed e)

  pub so_agrees : (new : Progress) (c : ℕ) (claimed : List SourceReply) → slice_index new.begun c ≡ length (calls_begun c events)
      → Agrees (length (calls_begun c events)) (is_idle (slice_get new.state.callers c)) (source_replies new.state c) claimed
      → agrees_after new c claimed ≡ true
  so_agrees new c claimed count a =
      is_agrees (slice_index new.begun c) (is_idle (slice_get new.state.callers c)) (source_replies new.state c) claimed
      (subst (λ n. Agrees n (is_idle (slice_get new.state.callers c)) (source_replies new.state c) claimed) (sym count) a)

  pub from_zero : (c : ℕ) → 0 + c ≡ c
  from_zero c = omega arith

  -- accepted is a run that begins the calls in order and agrees
  pub accepted_is : (claims : List (List SourceReply)) → 1 ≤ length scripts → length claims ≡ length scripts
      → (r : Result Progress Verdict) → walked text scripts 0 (first_progress text scripts) events ≡ r → found_after claims r ≡ Accepted → IsTrueRun text scripts events claims
  accepted_is claims some same (Err verdict) w e = absurd (stops text scripts events 0 (first_progress text scripts) verdict w e)
  accepted_is claims some same (Ok new) w e =
      let walk : Walk text scripts (first_progress text scripts) events new = walks text scripts events 0 (first_progress text scripts) new many w in
      record {
        state = new.state;
        is_run = is_run_of new some walk;
        agree = λ c below. agrees_so new c (listed (slice_get claims c)) (counted new walk c)
            (subst (λ d. agrees_after new d (listed (slice_get claims c)) ≡ true) (from_zero c)
            (all_agree new claims 0 e c (subst (λ n. c < n) (sym same) below)));
      }

  pub is_accepted_run : (claims : List (List SourceReply)) → length claims ≡ length scripts → IsTrueRun text scripts events claims → verdict_on text scripts events claims ≡ Accepted
  is_accepted_run claims same t =
      let w = is_walk t.state t.is_run in
      let walk : Walk text scripts (first_progress text scripts) events w.0 = walks text scripts events 0 (first_progress text scripts) w.0 many w.1 in
      let agree : (c : ℕ) → c < length scripts → AgreesAfter events w.0.state claims c =
      subst (λ s. (c : ℕ) → c < length scripts → AgreesAfter events s claims c) (sym w.2) t.agree in
      ap (found_after claims) w.1
      ∙ is_accepted w.0 claims 0 (λ c below. subst (λ d. agrees_after w.0 d (listed (slice_get claims c)) ≡ true) (sym (from_zero c))
      (so_agrees w.0 c (listed (slice_get claims c)) (counted w.0 walk c) (agree c (subst (λ n. c < n) same below))))

pub accepted_is_true : AcceptedIsTrue
accepted_is_true text scripts events claims some same = (
  λ e. accepted_is text scripts events claims some same (walked text scripts 0 (first_progress text scripts) events) refl e,
  λ t. is_accepted_run text scripts events claims same t,
)
