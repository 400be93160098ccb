-- Events walked through one by one: where they lead is where a run leads, and their begins are counted.
use Rattle.std.proofs.Common.{ℕ, zero, suc, ◌+◌, ◌<◌, ◌≤◌, ◌≡◌, ◌≢◌, ◌==◌, ◌&&◌, ◌∙◌, ◌++◌, ◌⊎◌, inl, inr, Bool, true, false, cond, List, [], ◌∷◌, length, get_or, take, drop, replicate, Option, Some, None, sym, ap, refl, subst, arith}
use Rattle.std.proofs.lemmas.List.{get_or-set_same, get_or-set_other, get_or-replicate, length-set, length-replicate}
use Rattle.std.proofs.lemmas.Bool.{eq-eqb, not-true, not-false}
use Rattle.std.proofs.lemmas.Bool.Decides.{eqb_tells}
use Rattle.std.specs.Prelude.{Result, Ok, Err, slice_get, slice_set, slice_index}
use Rattle.norm_lang.specs.declared.text.Op.{Op}
use Rattle.norm_lang.specs.declared.text.Text.{Text}
use Rattle.source_machine.specs.declared.event.SourceEvent.{SourceEvent}
use Rattle.source_machine.specs.declared.event.SourceEvent.TheVariants as events
use Rattle.source_machine.specs.declared.state.SourceMachine.{SourceMachine}
use Rattle.source_machine.specs.Run.{is_enabled, source_step, source_run}
use Rattle.documents.specs.declared.document.ScriptCall.{ScriptCall}
use Rattle.event_judge.specs.declared.judging.Progress.{Progress}
use Rattle.event_judge.specs.declared.verdict.Verdict.{Verdict}
use Rattle.event_judge.specs.declared.verdict.Verdict.TheVariants.{Accepted, Rejected}
use Rattle.event_judge.specs.Calls.{is_call_of_op, is_call_so, listed, script_of, next_call, begins_other, begun_with}
use Rattle.event_judge.specs.Judging.{event_flaw, advanced, walked_on, walked}
use Rattle.event_judge.specs.JudgingLaws.{Begun, calls_begun, are_first_calls}

-- the calls of a caller that aren't begun
abbrev pub left : List (List ScriptCall) → List ℕ → ℕ → List ScriptCall
left scripts begun c = drop (slice_index begun c) (script_of scripts c)

plus_one : (n : ℕ) → n + 1 ≡ suc n
plus_one n = omega arith

-- ---- a call that is begun

-- whether calls are the first of those left is told by the one that stands next
first_call : (ops : List Op) (b : Begun) (more : List Begun) (script : List ScriptCall) (n : ℕ)
    → are_first_calls ops (b ∷ more) (drop n script) ≡ (is_call_so ops (slice_get script n) b.op b.words && are_first_calls ops more (drop (suc n) script))
first_call ops b more [] zero = refl
first_call ops b more [] (suc n) = refl
first_call ops b more (call ∷ script) zero = refl
first_call ops b more (call ∷ script) (suc n) = first_call ops b more script n

-- a caller that begins the next call of its script has one
has_script : (ops : List Op) (scripts : List (List ScriptCall)) (c n op : ℕ) (words : List ℕ)
    → is_call_so ops (slice_get (script_of scripts c) n) op words ≡ true → c < length scripts
has_script ops [] c n op words e = absurd (let z : false ≡ true = e in cc)
has_script ops (script ∷ scripts) zero n op words e = omega arith
has_script ops (script ∷ scripts) (suc c) n op words e = let more : c < length scripts = has_script ops scripts c n op words e in omega (arith, more)

one_more : (begun : List ℕ) (c : ℕ) → c < length begun → slice_index (slice_set begun c (slice_index begun c + 1)) c ≡ suc (slice_index begun c)
one_more begun c lt = get_or-set_same begun c (slice_index begun c + 1) 0 lt ∙ plus_one (slice_index begun c)

others_stay : (begun : List ℕ) (c d n : ℕ) → c ≢ d → slice_index (slice_set begun c n) d ≡ slice_index begun d
others_stay begun c d n other = get_or-set_other begun c d n 0 (λ e. other (sym e))

-- ---- an event

module _ (ops : List Op) (scripts : List (List ScriptCall)) (begun : List ℕ) (many : length begun ≡ length scripts) where
  begins_here : (c op : ℕ) (words : List ℕ) (events : List SourceEvent) → is_call_so ops (next_call scripts begun c) op words ≡ true
      → are_first_calls ops (record { op = op; words = words } ∷ calls_begun c events) (left scripts begun c)
      ≡ are_first_calls ops (calls_begun c events) (left scripts (slice_set begun c (slice_index begun c + 1)) c)
  begins_here c op words events right =
      let below : c < length begun = subst (λ n. c < n) (sym many) (has_script ops scripts c (slice_index begun c) op words right) in
      first_call ops (record { op = op; words = words }) (calls_begun c events) (script_of scripts c) (slice_index begun c)
      ∙ ap (λ t. t && are_first_calls ops (calls_begun c events) (drop (suc (slice_index begun c)) (script_of scripts c))) right
      ∙ ap (λ n. are_first_calls ops (calls_begun c events) (drop n (script_of scripts c))) (sym (one_more begun c below))

  -- an event that begins no other call leaves what is left of each script
  pub event_keeps : (event : SourceEvent) (events : List SourceEvent) (c : ℕ) → begins_other ops scripts begun event ≡ false
      → are_first_calls ops (calls_begun c (event ∷ events)) (left scripts begun c) ≡ are_first_calls ops (calls_begun c events) (left scripts (begun_with begun event) c)
  event_keeps (events.Begin d op words) events c e =
      let b : Begun = record { op = op; words = words } in
      let right : is_call_so ops (next_call scripts begun d) op words ≡ true = not-false (is_call_so ops (next_call scripts begun d) op words) e in
      let next : List ℕ = slice_set begun d (slice_index begun d + 1) in
      let told : Bool → Bool = λ t. are_first_calls ops (cond t (b ∷ calls_begun c events) (calls_begun c events)) (left scripts begun c) in
      elim (eqb_tells d c) [
        | inl same ↦ ap told same.0
            ∙ subst (λ x. are_first_calls ops (b ∷ calls_begun x events) (left scripts begun x) ≡ are_first_calls ops (calls_begun x events) (left scripts next x)) same.1
            (begins_here d op words events right)
        | inr other ↦ ap told other.0 ∙ ap (λ n. are_first_calls ops (calls_begun c events) (drop n (script_of scripts c))) (sym (others_stay begun d c (slice_index begun d + 1) other.1))
      ]
  event_keeps (events.Access d name) events c e = refl
  event_keeps (events.Restart d) events c e = refl
  event_keeps (events.GiveUp d phase) events c e = refl

  -- an event that begins another call is of a caller whose calls aren't the first of its script
  pub other_fails : (event : SourceEvent) (events : List SourceEvent) → begins_other ops scripts begun event ≡ true
      → (c : ℕ) × (are_first_calls ops (calls_begun c (event ∷ events)) (left scripts begun c) ≡ false)
  other_fails (events.Begin d op words) events e =
      let b : Begun = record { op = op; words = words } in
      let told : Bool → Bool = λ t. are_first_calls ops (cond t (b ∷ calls_begun d events) (calls_begun d events)) (left scripts begun d) in (
        d,
        ap told (eq-eqb d d refl)
            ∙ first_call ops b (calls_begun d events) (script_of scripts d) (slice_index begun d)
            ∙ ap (λ t. t && are_first_calls ops (calls_begun d events) (drop (suc (slice_index begun d)) (script_of scripts d)))
            (not-true (is_call_so ops (next_call scripts begun d) op words) e),
      )
  other_fails (events.Access d name) events e = absurd (let z : false ≡ true = e in cc)
  other_fails (events.Restart d) events e = absurd (let z : false ≡ true = e in cc)
  other_fails (events.GiveUp d phase) events e = absurd (let z : false ≡ true = e in cc)

  -- the calls that are begun are counted
  pub event_counts : (event : SourceEvent) (events : List SourceEvent) (c : ℕ) → begins_other ops scripts begun event ≡ false
      → slice_index (begun_with begun event) c + length (calls_begun c events) ≡ slice_index begun c + length (calls_begun c (event ∷ events))
  event_counts (events.Begin d op words) events c e =
      let b : Begun = record { op = op; words = words } in
      let right : is_call_so ops (next_call scripts begun d) op words ≡ true = not-false (is_call_so ops (next_call scripts begun d) op words) e in
      let below : d < length begun = subst (λ n. d < n) (sym many) (has_script ops scripts d (slice_index begun d) op words right) in
      let next : List ℕ = slice_set begun d (slice_index begun d + 1) in
      let told : Bool → ℕ = λ t. slice_index begun c + length (cond t (b ∷ calls_begun c events) (calls_begun c events)) in
      let here : slice_index next d ≡ suc (slice_index begun d) = one_more begun d below in
      elim (eqb_tells d c) [
        | inl same ↦ subst (λ x. slice_index next x + length (calls_begun x events) ≡ slice_index begun x + suc (length (calls_begun x events))) same.1
            (omega (arith, here)) ∙ sym (ap told same.0)
        | inr other ↦ ap (λ n. n + length (calls_begun c events)) (others_stay begun d c (slice_index begun d + 1) other.1) ∙ sym (ap told other.0)
      ]
  event_counts (events.Access d name) events c e = refl
  event_counts (events.Restart d) events c e = refl
  event_counts (events.GiveUp d phase) events c e = refl

pub still_many : (begun : List ℕ) (event : SourceEvent) → length (begun_with begun event) ≡ length begun
still_many begun (events.Begin d op words) = length-set begun d (slice_index begun d + 1)
still_many begun (events.Access d name) = refl
still_many begun (events.Restart d) = refl
still_many begun (events.GiveUp d phase) = refl

-- ---- events

-- events lead from what has come so far to a state, each caller begins the next calls of its script, and they are counted
pub record Walk (text : Text) (scripts : List (List ScriptCall)) (old : Progress) (events : List SourceEvent) (new : Progress) : Type 0 where
  pub run : source_run text events old.state ≡ Some new.state
  pub order : (c : ℕ) → are_first_calls text.ops (calls_begun c events) (left scripts old.begun c) ≡ true
  pub counted : (c : ℕ) → slice_index new.begun c ≡ slice_index old.begun c + length (calls_begun c events)
  pub many : length new.begun ≡ length scripts

module _ (text : Text) (scripts : List (List ScriptCall)) where
  pub walks : (events : List SourceEvent) (at : ℕ) (old new : Progress) → length old.begun ≡ length scripts → walked text scripts at old events ≡ Ok new
      → Walk text scripts old events new
  walks [] at old new many e =
      let same : old ≡ new = (let z : Ok old ≡ Ok new = e in cc) in
      subst (λ p. Walk text scripts old [] p) same (record { run = refl; order = λ c. refl; counted = λ c. omega arith; many = many })
  walks (event ∷ events) at old new many e =
      of (begins_other text.ops scripts old.begun event) (is_enabled text old.state event) refl refl
      (λ h. walks events (at + 1) (advanced text old event) new (still_many old.begun event ∙ many) h) e where
        of : (other enabled : Bool) → begins_other text.ops scripts old.begun event ≡ other → is_enabled text old.state event ≡ enabled
            → (walked text scripts (at + 1) (advanced text old event) events ≡ Ok new → Walk text scripts (advanced text old event) events new)
            → walked_on (cond other (Some 2) (cond enabled None (Some 1))) at (walked text scripts (at + 1) (advanced text old event) events) ≡ Ok new
            → Walk text scripts old (event ∷ events) new
        of true enabled o p more h = absurd (let z : Err (Rejected 2 at) ≡ Ok new = h in cc)
        of false false o p more h = absurd (let z : Err (Rejected 1 at) ≡ Ok new = h in cc)
        of false true o p more h =
            let rest : Walk text scripts (advanced text old event) events new = more h in
            record {
              run = ap (λ t. cond t (source_run text events (source_step text old.state event)) None) p ∙ rest.run;
              order = λ c. event_keeps text.ops scripts old.begun many event events c o ∙ rest.order c;
              counted = λ c. rest.counted c ∙ event_counts text.ops scripts old.begun many event events c o;
              many = rest.many;
            }

  pub is_walked : (events : List SourceEvent) (at : ℕ) (old : Progress) (state : SourceMachine) → length old.begun ≡ length scripts
      → source_run text events old.state ≡ Some state → ((c : ℕ) → are_first_calls text.ops (calls_begun c events) (left scripts old.begun c) ≡ true)
      → (new : Progress) × (walked text scripts at old events ≡ Ok new) × (new.state ≡ state)
  is_walked [] at old state many run order = (old, refl, let z : Some old.state ≡ Some state = run in cc)
  is_walked (event ∷ events) at old state many run order =
      of (begins_other text.ops scripts old.begun event) (is_enabled text old.state event) refl refl run
      (λ r k. is_walked events (at + 1) (advanced text old event) state (still_many old.begun event ∙ many) r k) where
        of : (other enabled : Bool) → begins_other text.ops scripts old.begun event ≡ other → is_enabled text old.state event ≡ enabled
            → cond enabled (source_run text events (source_step text old.state event)) None ≡ Some state
            → (source_run text events (source_step text old.state event) ≡ Some state
            → ((c : ℕ) → are_first_calls text.ops (calls_begun c events) (left scripts (begun_with old.begun event) c) ≡ true)
            → (new : Progress) × (walked text scripts (at + 1) (advanced text old event) events ≡ Ok new) × (new.state ≡ state))
            → (new : Progress) × (walked_on (cond other (Some 2) (cond enabled None (Some 1))) at (walked text scripts (at + 1) (advanced text old event) events) ≡ Ok new) × (new.state ≡ state)
        of true enabled o p r more =
            let fails = other_fails text.ops scripts old.begun many event events o in
            absurd (let z : true ≡ false = sym (order fails.0) ∙ fails.1 in cc)
        of false false o p r more = absurd (let z : None ≡ Some state = r in cc)
        of false true o p r more = more r (λ c. sym (event_keeps text.ops scripts old.begun many event events c o) ∙ order c)
