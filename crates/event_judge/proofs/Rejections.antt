-- What each rejection means.
use Rattle.std.proofs.Common.{ℕ, zero, suc, ◌+◌, ◌<◌, ◌≤◌, ◌≡◌, ◌∙◌, ◌++◌, ◌⊎◌, inl, inr, ◌↔◌, Bool, true, false, cond, List, [], ◌∷◌, length, take, drop, Option, Some, None, sym, ap, refl, subst, arith}
use Rattle.std.specs.Prelude.{Result, Ok, Err, slice_get}
use Rattle.std.proofs.lemmas.Bool.{false_from_ne_true, true_from_ne_false}
use Rattle.norm_lang.specs.declared.text.Text.{Text}
use Rattle.source_machine.specs.declared.event.SourceEvent.{SourceEvent}
use Rattle.norm_lang.specs.declared.reply.SourceReply.{SourceReply}
use Rattle.source_machine.specs.declared.state.SourceMachine.{SourceMachine}
use Rattle.source_machine.specs.Run.{is_enabled, source_step}
use Rattle.documents.specs.declared.document.ScriptCall.{ScriptCall}
use Rattle.event_judge.specs.declared.judging.Progress.{Progress}
use Rattle.event_judge.specs.declared.verdict.Verdict.{Verdict}
use Rattle.event_judge.specs.declared.verdict.Verdict.TheVariants.{Accepted, Rejected}
use Rattle.event_judge.specs.Calls.{listed, begins_other, begun_with}
use Rattle.event_judge.specs.Judging.{event_flaw, advanced, walked_on, walked, first_progress, agrees_after, found_from, found_after, verdict_on}
use Rattle.event_judge.specs.JudgingLaws.{calls_begun, are_first_calls, BeginInOrder, AgreesAfter, IsRunOf, IsTrueRun, IsNotEnabledAt, IsOtherCallAt, IsOtherReplyOf, IsSo, VerdictsAreRight}
use Rattle.event_judge.proofs.Walks.{left, event_keeps, other_fails, still_many, Walk, walks, is_walked}
use Rattle.event_judge.proofs.Verdicts.{many, all_left, is_run_of, counted, is_walk, agrees_so, so_agrees, from_zero, accepted_is, is_accepted_run}

-- ---- the event that stops

-- events that stop at one of them
record Stop (text : Text) (scripts : List (List ScriptCall)) (at : ℕ) (old : Progress) (events : List SourceEvent) (verdict : Verdict) : Type 0 where
  number : ℕ
  place : ℕ
  event : SourceEvent
  new : Progress
  same : verdict ≡ Rejected number (at + place)
  before : walked text scripts at old (take place events) ≡ Ok new
  stands : slice_get events place ≡ Some event
  flaw : event_flaw text scripts new event ≡ Some number

module _ (text : Text) (scripts : List (List ScriptCall)) where
  stops_at : (events : List SourceEvent) (at : ℕ) (old : Progress) (verdict : Verdict) → walked text scripts at old events ≡ Err verdict → Stop text scripts at old events verdict
  stops_at [] at old verdict e = absurd (let f : ⊥ = (let z : Ok old ≡ Err verdict = e in cc) in f)
  stops_at (event ∷ events) at old verdict e =
      of (event_flaw text scripts old event) refl e (λ h. stops_at events (at + 1) (advanced text old event) verdict h) where
        of : (o : Option ℕ) → event_flaw text scripts old event ≡ o → walked_on o at (walked text scripts (at + 1) (advanced text old event) events) ≡ Err verdict
            → (walked text scripts (at + 1) (advanced text old event) events ≡ Err verdict → Stop text scripts (at + 1) (advanced text old event) events verdict)
            → Stop text scripts at old (event ∷ events) verdict
        of (Some number) o h more =
            let found : Rejected number at ≡ verdict = (let z : Err (Rejected number at) ≡ Err verdict = h in cc) in
            let here : at ≡ at + 0 = omega arith in
            record { number = number; place = zero; event = event; new = old; same = sym found ∙ ap (Rejected number) here; before = refl; stands = refl; flaw = o }
        of None o h more =
            let rest : Stop text scripts (at + 1) (advanced text old event) events verdict = more h in
            let next : (at + 1) + rest.place ≡ at + suc rest.place = omega arith in
            record {
              number = rest.number;
              place = suc rest.place;
              event = rest.event;
              new = rest.new;
              same = rest.same ∙ ap (Rejected rest.number) next;
              before = ap (λ f. walked_on f at (walked text scripts (at + 1) (advanced text old event) (take rest.place events))) o ∙ rest.before;
              stands = rest.stands;
              flaw = rest.flaw;
            }

  is_stopped : (events : List SourceEvent) (at place : ℕ) (old new : Progress) (event : SourceEvent) (number : ℕ) → walked text scripts at old (take place events) ≡ Ok new
      → slice_get events place ≡ Some event → event_flaw text scripts new event ≡ Some number → walked text scripts at old events ≡ Err (Rejected number (at + place))
  is_stopped [] at place old new event number w stands flaw = absurd (let f : ⊥ = (let z : None ≡ Some event = stands in cc) in f)
  is_stopped (first ∷ events) at zero old new event number w stands flaw =
      let same : old ≡ new = (let z : Ok old ≡ Ok new = w in cc) in
      let this : first ≡ event = (let z : Some first ≡ Some event = stands in cc) in
      let here : at ≡ at + 0 = omega arith in
      let e : event_flaw text scripts old first ≡ Some number = ap (λ p. event_flaw text scripts p first) same ∙ ap (event_flaw text scripts new) this ∙ flaw in
      ap (λ f. walked_on f at (walked text scripts (at + 1) (advanced text old first) events)) e ∙ ap (λ (k : ℕ). Err (Rejected number k)) here
  is_stopped (first ∷ events) at (suc place) old new event number w stands flaw =
      of (event_flaw text scripts old first) refl w (λ h. is_stopped events (at + 1) place (advanced text old first) new event number h stands flaw) where
        of : (o : Option ℕ) → event_flaw text scripts old first ≡ o → walked_on o at (walked text scripts (at + 1) (advanced text old first) (take place events)) ≡ Ok new
            → (walked text scripts (at + 1) (advanced text old first) (take place events) ≡ Ok new → walked text scripts (at + 1) (advanced text old first) events ≡ Err (Rejected number ((at + 1) + place)))
            → walked_on (event_flaw text scripts old first) at (walked text scripts (at + 1) (advanced text old first) events) ≡ Err (Rejected number (at + suc place))
        of (Some other) o h more = absurd (let f : ⊥ = (let z : Err (Rejected other at) ≡ Ok new = h in cc) in f)
        of None o h more =
            let next : (at + 1) + place ≡ at + suc place = omega arith in
            ap (λ f. walked_on f at (walked text scripts (at + 1) (advanced text old first) events)) o ∙ more h ∙ ap (λ (k : ℕ). Err (Rejected number k)) next

  -- behind events that are walked, the calls that further ones begin are judged by what is left
  order_behind : (events more : List SourceEvent) (at : ℕ) (old new : Progress) (c : ℕ) → length old.begun ≡ length scripts → walked text scripts at old events ≡ Ok new
      → are_first_calls text.ops (calls_begun c (events ++ more)) (left scripts old.begun c) ≡ are_first_calls text.ops (calls_begun c more) (left scripts new.begun c)
  order_behind [] more at old new c long w =
      let same : old ≡ new = (let z : Ok old ≡ Ok new = w in cc) in
      ap (λ (p : Progress). are_first_calls text.ops (calls_begun c more) (left scripts p.begun c)) same
  order_behind (event ∷ events) more at old new c long w =
      of (begins_other text.ops scripts old.begun event) (is_enabled text old.state event) refl w
      (λ h. order_behind events more (at + 1) (advanced text old event) new c (still_many old.begun event ∙ long) h) where
        of : (other enabled : Bool) → begins_other text.ops scripts old.begun event ≡ other
            → walked_on (cond other (Some 2) (cond enabled None (Some 1))) at (walked text scripts (at + 1) (advanced text old event) events) ≡ Ok new
            → (walked text scripts (at + 1) (advanced text old event) events ≡ Ok new
            → are_first_calls text.ops (calls_begun c (events ++ more)) (left scripts (begun_with old.begun event) c) ≡ are_first_calls text.ops (calls_begun c more) (left scripts new.begun c))
            → are_first_calls text.ops (calls_begun c (event ∷ (events ++ more))) (left scripts old.begun c) ≡ are_first_calls text.ops (calls_begun c more) (left scripts new.begun c)
        of true enabled o h next = absurd (let f : ⊥ = (let z : Err (Rejected 2 at) ≡ Ok new = h in cc) in f)
        of false false o h next = absurd (let f : ⊥ = (let z : Err (Rejected 1 at) ≡ Ok new = h in cc) in f)
        of false true o h next = event_keeps text.ops scripts old.begun long event (events ++ more) c o ∙ next h

-- ---- what an event shows

module _ (text : Text) (scripts : List (List ScriptCall)) where
  -- one more event keeps the order exactly if it begins no other call
  keeps_order : (events : List SourceEvent) (event : SourceEvent) (new : Progress) → walked text scripts 0 (first_progress text scripts) events ≡ Ok new
      → begins_other text.ops scripts new.begun event ≡ false → BeginInOrder text.ops scripts (events ++ event ∷ [])
  keeps_order events event new w right c =
      let walk = walks text scripts events 0 (first_progress text scripts) new (many text scripts events) w in
      subst (λ calls. are_first_calls text.ops (calls_begun c (events ++ event ∷ [])) calls ≡ true) (all_left text scripts events c)
      (order_behind text scripts events (event ∷ []) 0 (first_progress text scripts) new c (many text scripts events) w
      ∙ event_keeps text.ops scripts new.begun walk.many event [] c right)

  breaks_order : (events : List SourceEvent) (event : SourceEvent) (new : Progress) → walked text scripts 0 (first_progress text scripts) events ≡ Ok new
      → begins_other text.ops scripts new.begun event ≡ true → BeginInOrder text.ops scripts (events ++ event ∷ []) → ⊥
  breaks_order events event new w wrong order =
      let walk = walks text scripts events 0 (first_progress text scripts) new (many text scripts events) w in
      let fails = other_fails text.ops scripts new.begun walk.many event [] wrong in
      let here : are_first_calls text.ops (calls_begun fails.0 (events ++ event ∷ [])) (left scripts (first_progress text scripts).begun fails.0) ≡ false
      = order_behind text scripts events (event ∷ []) 0 (first_progress text scripts) new fails.0 (many text scripts events) w ∙ fails.1 in
      let there : are_first_calls text.ops (calls_begun fails.0 (events ++ event ∷ [])) (left scripts (first_progress text scripts).begun fails.0) ≡ true
      = subst (λ calls. are_first_calls text.ops (calls_begun fails.0 (events ++ event ∷ [])) calls ≡ true) (sym (all_left text scripts events fails.0)) (order fails.0) in
      let no : true ≡ false = sym there ∙ here in
      let f : ⊥ = cc in f

  flaw_is : (events : List SourceEvent) (claims : List (List SourceReply)) (place number : ℕ) (event : SourceEvent) (new : Progress) → 1 ≤ length scripts
      → walked text scripts 0 (first_progress text scripts) (take place events) ≡ Ok new → slice_get events place ≡ Some event
      → (other enabled : Bool) → begins_other text.ops scripts new.begun event ≡ other → is_enabled text new.state event ≡ enabled
      → cond other (Some 2) (cond enabled None (Some 1)) ≡ Some number → IsSo text scripts events claims (Rejected number place)
  flaw_is events claims place number event new some w stands true enabled o p h =
      let two : number ≡ 2 = (let z : Some 2 ≡ Some number = h in cc) in
      let run = is_run_of text scripts (take place events) new some (walks text scripts (take place events) 0 (first_progress text scripts) new (many text scripts events) w) in
      inr (inl (two, record { event = event; state = new.state; stands = stands; before = run; other = breaks_order (take place events) event new w o }))
  flaw_is events claims place number event new some w stands false false o p h =
      let one : number ≡ 1 = (let z : Some 1 ≡ Some number = h in cc) in
      let run = is_run_of text scripts (take place events) new some (walks text scripts (take place events) 0 (first_progress text scripts) new (many text scripts events) w) in
      inl (one, record { event = event; state = new.state; stands = stands; before = run; order = keeps_order (take place events) event new w o; refused = p })
  flaw_is events claims place number event new some w stands false true o p h = absurd (let f : ⊥ = (let z : None ≡ Some number = h in cc) in f)

-- ---- the caller that doesn't agree

record Differs (progress : Progress) (c : ℕ) (claims : List (List SourceReply)) (verdict : Verdict) : Type 0 where
  place : ℕ
  below : place < length claims
  same : verdict ≡ Rejected 3 (c + place)
  agree : (k : ℕ) → k < place → agrees_after progress (c + k) (listed (slice_get claims k)) ≡ true
  other : agrees_after progress (c + place) (listed (slice_get claims place)) ≡ false

module _ (progress : Progress) where
  one_on : (c k : ℕ) → (c + 1) + k ≡ c + suc k
  one_on c k = omega arith

  no_more : (c : ℕ) → c ≡ c + zero
  no_more c = omega arith

  differs : (claims : List (List SourceReply)) (c number at : ℕ) → found_from c progress claims ≡ Rejected number at → Differs progress c claims (Rejected number at)
  differs [] c number at e = absurd (let f : ⊥ = (let z : Accepted ≡ Rejected number at = e in cc) in f)
  differs (claimed ∷ claims) c number at e = of (agrees_after progress c claimed) refl e (λ h. differs claims (c + 1) number at h) where
    of : (b : Bool) → agrees_after progress c claimed ≡ b → cond b (found_from (c + 1) progress claims) (Rejected 3 c) ≡ Rejected number at
        → (found_from (c + 1) progress claims ≡ Rejected number at → Differs progress (c + 1) claims (Rejected number at)) → Differs progress c (claimed ∷ claims) (Rejected number at)
    of false o h more = record {
      place = zero;
      below = omega arith;
      same = sym h ∙ ap (Rejected 3) (no_more c);
      agree = λ k below. absurd (omega (arith, below));
      other = subst (λ d. agrees_after progress d claimed ≡ false) (no_more c) o;
    }
    of true o h more =
        let rest : Differs progress (c + 1) claims (Rejected number at) = more h in
        record {
          place = suc rest.place;
          below = omega (arith, rest.below);
          same = rest.same ∙ ap (Rejected 3) (one_on c rest.place);
          agree = agree_on rest;
          other = subst (λ d. agrees_after progress d (listed (slice_get claims rest.place)) ≡ false) (one_on c rest.place) rest.other;
        } where
          agree_on : (rest : Differs progress (c + 1) claims (Rejected number at)) → (k : ℕ) → k < suc rest.place → agrees_after progress (c + k) (listed (slice_get (claimed ∷ claims) k)) ≡ true
          agree_on rest zero below = subst (λ d. agrees_after progress d claimed ≡ true) (no_more c) o
          agree_on rest (suc k) below = subst (λ d. agrees_after progress d (listed (slice_get claims k)) ≡ true) (one_on c k) (rest.agree k (omega (arith, below)))

  is_different : (claims : List (List SourceReply)) (c place : ℕ) → place < length claims
      → ((k : ℕ) → k < place → agrees_after progress (c + k) (listed (slice_get claims k)) ≡ true) → agrees_after progress (c + place) (listed (slice_get claims place)) ≡ false
      → found_from c progress claims ≡ Rejected 3 (c + place)
  is_different [] c place below agree other = absurd (omega (arith, below))
  is_different (claimed ∷ claims) c zero below agree other =
      ap (λ b. cond b (found_from (c + 1) progress claims) (Rejected 3 c)) (subst (λ d. agrees_after progress d claimed ≡ false) (sym (no_more c)) other) ∙ ap (Rejected 3) (no_more c)
  is_different (claimed ∷ claims) c (suc place) below agree other =
      ap (λ b. cond b (found_from (c + 1) progress claims) (Rejected 3 c)) (subst (λ d. agrees_after progress d claimed ≡ true) (sym (no_more c)) (agree zero (omega arith)))
      ∙ is_different claims (c + 1) place (omega (arith, below))
      (λ k under. subst (λ d. agrees_after progress d (listed (slice_get claims k)) ≡ true) (sym (one_on c k)) (agree (suc k) (omega (arith, under))))
      (subst (λ d. agrees_after progress d (listed (slice_get claims place)) ≡ false) (sym (one_on c place)) other)
      ∙ ap (Rejected 3) (one_on c place)

-- ---- the whole

not_both : (b : Bool) → b ≡ false → b ≡ true → ⊥
not_both b isnt is = let z : false ≡ true = sym isnt ∙ is in let f : ⊥ = cc in f

module _ (text : Text) (scripts : List (List ScriptCall)) (events : List SourceEvent) (claims : List (List SourceReply)) (some : 1 ≤ length scripts) (same : length claims ≡ length scripts) where
  rejected_is : (number at : ℕ) (r : Result Progress Verdict) → walked text scripts 0 (first_progress text scripts) events ≡ r → found_after claims r ≡ Rejected number at
      → IsSo text scripts events claims (Rejected number at)
  rejected_is number at (Err verdict) w e =
      let stop = stops_at text scripts events 0 (first_progress text scripts) verdict w in
      let told : Rejected stop.number stop.place ≡ Rejected number at = sym (stop.same ∙ ap (Rejected stop.number) (from_zero text scripts events stop.place)) ∙ e in
      subst (λ (v : Verdict). IsSo text scripts events claims v) told
      (flaw_is text scripts events claims stop.place stop.number stop.event stop.new some stop.before stop.stands
      (begins_other text.ops scripts stop.new.begun stop.event) (is_enabled text stop.new.state stop.event) refl refl stop.flaw)
  rejected_is number at (Ok new) w e =
      let walk = walks text scripts events 0 (first_progress text scripts) new (many text scripts events) w in
      let d = differs new claims 0 number at e in
      let place : 0 + d.place ≡ d.place = from_zero text scripts events d.place in
      let told : Rejected 3 d.place ≡ Rejected number at = sym (d.same ∙ ap (Rejected 3) place) in
      subst (λ (v : Verdict). IsSo text scripts events claims v) told
      (inr (inr (
        refl,
        record {
          state = new.state;
          is_run = is_run_of text scripts events new some walk;
          known = subst (λ n. d.place < n) same d.below;
          agree = λ k below. agrees_so text scripts events new k (listed (slice_get claims k)) (counted text scripts events new walk k)
              (subst (λ c. agrees_after new c (listed (slice_get claims k)) ≡ true) (from_zero text scripts events k) (d.agree k below));
          other = λ a. not_both (agrees_after new d.place (listed (slice_get claims d.place)))
              (subst (λ c. agrees_after new c (listed (slice_get claims d.place)) ≡ false) place d.other)
              (so_agrees text scripts events new d.place (listed (slice_get claims d.place)) (counted text scripts events new walk d.place) a);
        },
      )))

  -- an event that stands at a place, of which the flaw is known, decides
  decides : (at number : ℕ) (event : SourceEvent) (new : Progress) → walked text scripts 0 (first_progress text scripts) (take at events) ≡ Ok new → slice_get events at ≡ Some event
      → event_flaw text scripts new event ≡ Some number → verdict_on text scripts events claims ≡ Rejected number at
  decides at number event new w stands flaw =
      ap (found_after claims) (is_stopped text scripts events 0 at (first_progress text scripts) new event number w stands flaw) ∙ ap (Rejected number) (from_zero text scripts events at)

  one_is : (at : ℕ) → IsNotEnabledAt text scripts events at → verdict_on text scripts events claims ≡ Rejected 1 at
  one_is at h =
      let w = is_walk text scripts (take at events) h.state h.before in
      let right : begins_other text.ops scripts w.0.begun h.event ≡ false
      = false_from_ne_true (begins_other text.ops scripts w.0.begun h.event) (λ wrong. breaks_order text scripts (take at events) h.event w.0 w.1 wrong h.order) in
      let refused : is_enabled text w.0.state h.event ≡ false = ap (λ s. is_enabled text s h.event) w.2 ∙ h.refused in
      decides at 1 h.event w.0 w.1 h.stands
      (ap (λ b. cond b (Some 2) (cond (is_enabled text w.0.state h.event) None (Some 1))) right ∙ ap (λ b. cond b None (Some 1)) refused)

  two_is : (at : ℕ) → IsOtherCallAt text scripts events at → verdict_on text scripts events claims ≡ Rejected 2 at
  two_is at h =
      let w = is_walk text scripts (take at events) h.state h.before in
      let wrong : begins_other text.ops scripts w.0.begun h.event ≡ true
      = true_from_ne_false (begins_other text.ops scripts w.0.begun h.event) (λ right. h.other (keeps_order text scripts (take at events) h.event w.0 w.1 right)) in
      decides at 2 h.event w.0 w.1 h.stands (ap (λ b. cond b (Some 2) (cond (is_enabled text w.0.state h.event) None (Some 1))) wrong)

  three_is : (c : ℕ) → IsOtherReplyOf text scripts events claims c → verdict_on text scripts events claims ≡ Rejected 3 c
  three_is c h =
      let w = is_walk text scripts events h.state h.is_run in
      let walk = walks text scripts events 0 (first_progress text scripts) w.0 (many text scripts events) w.1 in
      let agree : (d : ℕ) → d < c → AgreesAfter events w.0.state claims d = subst (λ s. (d : ℕ) → d < c → AgreesAfter events s claims d) (sym w.2) h.agree in
      let other : AgreesAfter events w.0.state claims c → ⊥ = subst (λ s. AgreesAfter events s claims c → ⊥) (sym w.2) h.other in
      let zero_on = from_zero text scripts events in
      ap (found_after claims) w.1
      ∙ is_different w.0 claims 0 c (subst (λ n. c < n) (sym same) h.known)
      (λ k below. subst (λ d. agrees_after w.0 d (listed (slice_get claims k)) ≡ true) (sym (zero_on k))
      (so_agrees text scripts events w.0 k (listed (slice_get claims k)) (counted text scripts events w.0 walk k) (agree k below)))
      (subst (λ d. agrees_after w.0 d (listed (slice_get claims c)) ≡ false) (sym (zero_on c))
      (false_from_ne_true (agrees_after w.0 c (listed (slice_get claims c)))
      (λ yes. other (agrees_so text scripts events w.0 c (listed (slice_get claims c)) (counted text scripts events w.0 walk c) yes))))
      ∙ ap (Rejected 3) (zero_on c)

  is_so : (verdict : Verdict) → verdict_on text scripts events claims ≡ verdict → IsSo text scripts events claims verdict
  is_so Accepted e = accepted_is text scripts events claims some same (walked text scripts 0 (first_progress text scripts) events) refl e
  is_so (Rejected number at) e = rejected_is number at (walked text scripts 0 (first_progress text scripts) events) refl e

  so_is : (verdict : Verdict) → IsSo text scripts events claims verdict → verdict_on text scripts events claims ≡ verdict
  so_is Accepted t = is_accepted_run text scripts events claims same t
  so_is (Rejected number at) h = elim h [
    | inl one ↦ one_is at one.1 ∙ ap (λ (n : ℕ). Rejected n at) (sym one.0)
    | inr rest ↦ elim rest [
      | inl two ↦ two_is at two.1 ∙ ap (λ (n : ℕ). Rejected n at) (sym two.0)
      | inr three ↦ three_is at three.1 ∙ ap (λ (n : ℕ). Rejected n at) (sym three.0)
    ]
  ]

pub verdicts_are_right : VerdictsAreRight
verdicts_are_right text scripts events claims verdict some same = (λ e. is_so text scripts events claims some same verdict e, λ h. so_is text scripts events claims some same verdict h)
