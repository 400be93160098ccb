-- Loops over steps: what is left gives what the whole gives.
use Rattle.std.proofs.Common.{◌≡◌, ◌<◌, ◌≤◌, ◌-◌, ℕ, suc, ◌+◌, Bool, true, false, List, [], ◌∷◌, length, drop, get_or, Option, Some, None, refl, sym, ap, ◌∙◌, arith, if◌then◌else◌}
use Rattle.std.specs.Prelude.{Result, Ok, Err, nat_le, is_some}
use Rattle.std.proofs.lemmas.Bool.Decides.{nat_tests}
use Rattle.std.proofs.lemmas.List.{drop_more}
use Rattle.schedule_turns.specs.declared.turn.Turn.{Turn}
use Rattle.schedule_turns.specs.declared.turn.StepKind.{StepKind}
use Rattle.core_runs.specs.Machine.{CoreEvent}
use Rattle.core_runs.specs.Replays.{Replay, Replaying, Refusal, one_step, next_events, go_further, most_steps, wants_kind, steps_made, upto_made, ended_calls, ops_made, turn_made, turns_made, ended_or, caller_ended, callers_ended}
use Rattle.replay_steps.specs.Turns.{left_after, made_to, refused}
use Rattle.oa_core.specs.Shown.{Progress, shown, bared}
use Rattle.oa_core.proofs.Bare.{Blind, goes_alike, steps_blind, upto_blind, ops_blind, turns_blind, caller_blind, callers_blind}

-- after what was made, the rest is as from there
pub goes : (o : Result Replaying Refusal) (next : Replaying → Result Replaying Refusal) (now : Progress) → Blind next → made_to (shown now) ≡ bared o → bared (go_further o next) ≡ bared (next (shown now))
goes o next now blind is = goes_alike next blind o (made_to (shown now)) (sym is)

-- after what was refused there is no rest
pub halts : (o : Result Replaying Refusal) (next : Replaying → Result Replaying Refusal) (refusal : Refusal) → refused refusal ≡ bared o → refused refusal ≡ bared (go_further o next)
halts (Err x) next refusal is = is
halts (Ok r) next refusal is = absurd (let no : refused refusal ≡ made_to (record r { events = [] }) = is in cc)

-- ---- so many steps

steps_turn : (p : Replay) (c n i : ℕ) (r : Replaying) → i < n → steps_made p c (n - i) r ≡ go_further (one_step p c r) (steps_made p c (n - (i + 1)))
steps_turn p c n i r lt = let k : n - i ≡ suc (n - (i + 1)) = omega arith in ap (λ (m : ℕ). steps_made p c m r) k

pub steps_more : (p : Replay) (c n i : ℕ) (old new : Progress) (whole : Result Replaying Refusal) → i < n → made_to (shown new) ≡ bared (one_step p c (shown old))
    → bared (steps_made p c (n - i) (shown old)) ≡ whole → bared (steps_made p c (n - (i + 1)) (shown new)) ≡ whole
steps_more p c n i old new whole lt step so_far =
    sym (ap bared (steps_turn p c n i (shown old) lt) ∙ goes (one_step p c (shown old)) (steps_made p c (n - (i + 1))) new (steps_blind p c (n - (i + 1))) step) ∙ so_far

pub steps_stop : (p : Replay) (c n i : ℕ) (old : Progress) (refusal : Refusal) (whole : Result Replaying Refusal) → i < n → refused refusal ≡ bared (one_step p c (shown old))
    → bared (steps_made p c (n - i) (shown old)) ≡ whole → refused refusal ≡ whole
steps_stop p c n i old refusal whole lt step so_far =
    halts (one_step p c (shown old)) (steps_made p c (n - (i + 1))) refusal step ∙ (sym (ap bared (steps_turn p c n i (shown old) lt)) ∙ so_far)

pub steps_end : (p : Replay) (c n i : ℕ) (now : Progress) (whole : Result Replaying Refusal) → n ≤ i → bared (steps_made p c (n - i) (shown now)) ≡ whole → made_to (shown now) ≡ whole
steps_end p c n i now whole past so_far = let k : n - i ≡ 0 = omega arith in sym (ap (λ (m : ℕ). bared (steps_made p c m (shown now))) k) ∙ so_far

-- ---- the most steps that can be made

fewer : (limit old new : ℕ) → new ≡ old + 1 → old < limit → limit - old ≡ (limit - new) + 1
fewer limit old new is lt = omega (arith, is, lt)

plus_one : (n : ℕ) → n + 1 ≡ suc n
plus_one n = omega arith

-- ---- steps up to an access

-- what follows by how many are left
upto_on : Replay → ℕ → StepKind → ℕ → Replaying → Option ℕ → Result Replaying Refusal
upto_on p c kind most r None = Ok r
upto_on p c kind most r (Some left) = go_further (one_step p c r) (upto_made p c kind most left)

upto_turn : (p : Replay) (c : ℕ) (kind : StepKind) (most left : ℕ) (r : Replaying) → upto_made p c kind (most + 1) left r ≡ upto_on p c kind most r (left_after (wants_kind p c kind r) left)
unfolding upto_on
upto_turn p c kind most left r = ap (λ (m : ℕ). upto_made p c kind m left r) (plus_one most) ∙ of (wants_kind p c kind r) (nat_le left 1) where
  of : (wanted last : Bool)
      → (if wanted then (if last then Ok r else go_further (one_step p c r) (upto_made p c kind most (left - 1))) else go_further (one_step p c r) (upto_made p c kind most left))
      ≡ upto_on p c kind most r (if wanted then (if last then None else Some (left - 1)) else Some left)
  of true true = refl
  of true false = refl
  of false last = refl

pub upto_more : (p : Replay) (c : ℕ) (kind : StepKind) (left rest : ℕ) (old new : Progress) (whole : Result Replaying Refusal) → left_after (wants_kind p c kind (shown old)) left ≡ Some rest
    → new.steps ≡ old.steps + 1 → old.steps < p.limit → made_to (shown new) ≡ bared (one_step p c (shown old))
    → bared (upto_made p c kind (most_steps p (shown old)) left (shown old)) ≡ whole → bared (upto_made p c kind (most_steps p (shown new)) rest (shown new)) ≡ whole
unfolding upto_on
upto_more p c kind left rest old new whole is counted below step so_far =
    let most = p.limit - old.steps in
    sym (ap bared (upto_turn p c kind most left (shown old) ∙ ap (upto_on p c kind most (shown old)) is)
    ∙ (goes (one_step p c (shown old)) (upto_made p c kind most rest) new (upto_blind p c kind most rest) step
    ∙ ap (λ (m : ℕ). bared (upto_made p c kind m rest (shown new))) (fewer p.limit old.steps new.steps counted below)))
    ∙ so_far

pub upto_stop : (p : Replay) (c : ℕ) (kind : StepKind) (left rest : ℕ) (old : Progress) (refusal : Refusal) (whole : Result Replaying Refusal) → left_after (wants_kind p c kind (shown old)) left ≡ Some rest
    → refused refusal ≡ bared (one_step p c (shown old)) → bared (upto_made p c kind (most_steps p (shown old)) left (shown old)) ≡ whole → refused refusal ≡ whole
unfolding upto_on
upto_stop p c kind left rest old refusal whole is step so_far =
    let most = p.limit - old.steps in
    halts (one_step p c (shown old)) (upto_made p c kind most rest) refusal step
    ∙ (sym (ap bared (upto_turn p c kind most left (shown old) ∙ ap (upto_on p c kind most (shown old)) is)) ∙ so_far)

pub upto_end : (p : Replay) (c : ℕ) (kind : StepKind) (left : ℕ) (now : Progress) (whole : Result Replaying Refusal) → left_after (wants_kind p c kind (shown now)) left ≡ None
    → bared (upto_made p c kind (most_steps p (shown now)) left (shown now)) ≡ whole → made_to (shown now) ≡ whole
unfolding upto_on
upto_end p c kind left now whole is so_far =
    let most = p.limit - now.steps in
    sym (ap bared (upto_turn p c kind most left (shown now) ∙ ap (upto_on p c kind most (shown now)) is)) ∙ so_far

-- ---- steps until so many calls have ended

not_reached : (goal ended : ℕ) → ended < goal → nat_le goal ended ≡ false
not_reached goal ended lt = grind (arith, nat_tests)

reached : (goal ended : ℕ) → goal ≤ ended → nat_le goal ended ≡ true
reached goal ended le = grind (arith, nat_tests)

ops_turn : (p : Replay) (c most goal : ℕ) (r : Replaying) → ended_calls c r < goal → ops_made p c (most + 1) goal r ≡ go_further (one_step p c r) (ops_made p c most goal)
ops_turn p c most goal r lt = ap (λ (m : ℕ). ops_made p c m goal r) (plus_one most) ∙ ap (λ (b : Bool). if b then Ok r else go_further (one_step p c r) (ops_made p c most goal)) (not_reached goal (ended_calls c r) lt)

pub ops_more : (p : Replay) (c goal : ℕ) (old new : Progress) (whole : Result Replaying Refusal) → ended_calls c (shown old) < goal → new.steps ≡ old.steps + 1 → old.steps < p.limit
    → made_to (shown new) ≡ bared (one_step p c (shown old)) → bared (ops_made p c (most_steps p (shown old)) goal (shown old)) ≡ whole
    → bared (ops_made p c (most_steps p (shown new)) goal (shown new)) ≡ whole
ops_more p c goal old new whole lt counted below step so_far =
    let most = p.limit - old.steps in
    sym (ap bared (ops_turn p c most goal (shown old) lt)
    ∙ (goes (one_step p c (shown old)) (ops_made p c most goal) new (ops_blind p c most goal) step
    ∙ ap (λ (m : ℕ). bared (ops_made p c m goal (shown new))) (fewer p.limit old.steps new.steps counted below)))
    ∙ so_far

pub ops_stop : (p : Replay) (c goal : ℕ) (old : Progress) (refusal : Refusal) (whole : Result Replaying Refusal) → ended_calls c (shown old) < goal
    → refused refusal ≡ bared (one_step p c (shown old)) → bared (ops_made p c (most_steps p (shown old)) goal (shown old)) ≡ whole → refused refusal ≡ whole
ops_stop p c goal old refusal whole lt step so_far =
    let most = p.limit - old.steps in
    halts (one_step p c (shown old)) (ops_made p c most goal) refusal step ∙ (sym (ap bared (ops_turn p c most goal (shown old) lt)) ∙ so_far)

pub ops_end : (p : Replay) (c goal : ℕ) (now : Progress) (whole : Result Replaying Refusal) → goal ≤ ended_calls c (shown now)
    → bared (ops_made p c (most_steps p (shown now)) goal (shown now)) ≡ whole → made_to (shown now) ≡ whole
ops_end p c goal now whole le so_far =
    let most = p.limit - now.steps in
    sym (ap (λ (m : ℕ). bared (ops_made p c m goal (shown now))) (plus_one most)
    ∙ ap (λ (b : Bool). bared (if b then Ok (shown now) else go_further (one_step p c (shown now)) (ops_made p c most goal))) (reached goal (ended_calls c (shown now)) le))
    ∙ so_far

-- ---- turns

pub turns_more : (p : Replay) (turn : Turn) (rest : List Turn) (old new : Progress) (whole : Result Replaying Refusal) → made_to (shown new) ≡ bared (turn_made p turn (shown old))
    → bared (turns_made p (turn ∷ rest) (shown old)) ≡ whole → bared (turns_made p rest (shown new)) ≡ whole
turns_more p turn rest old new whole made so_far = sym (goes (turn_made p turn (shown old)) (turns_made p rest) new (turns_blind p rest) made) ∙ so_far

-- in a list at a place
pub turns_next : (p : Replay) (schedule : List Turn) (i : ℕ) (d : Turn) (old new : Progress) (whole : Result Replaying Refusal) → i < length schedule → made_to (shown new) ≡ bared (turn_made p (get_or schedule i d) (shown old))
    → bared (turns_made p (drop i schedule) (shown old)) ≡ whole → bared (turns_made p (drop (i + 1) schedule) (shown new)) ≡ whole
turns_next p schedule i d old new whole lt made so_far =
    turns_more p (get_or schedule i d) (drop (i + 1) schedule) old new whole made (ap (λ (l : List Turn). bared (turns_made p l (shown old))) (sym (drop_more schedule i d lt)) ∙ so_far)

pub turns_stop : (p : Replay) (turn : Turn) (rest : List Turn) (old : Progress) (refusal : Refusal) (whole : Result Replaying Refusal) → refused refusal ≡ bared (turn_made p turn (shown old))
    → bared (turns_made p (turn ∷ rest) (shown old)) ≡ whole → refused refusal ≡ whole
turns_stop p turn rest old refusal whole made so_far = halts (turn_made p turn (shown old)) (turns_made p rest) refusal made ∙ so_far

-- ---- to the end

caller_turn : (p : Replay) (c most : ℕ) (r : Replaying) → is_some (next_events p c r) ≡ true → caller_ended p c (most + 1) r ≡ go_further (one_step p c r) (caller_ended p c most)
caller_turn p c most r some = ap (λ (m : ℕ). caller_ended p c m r) (plus_one most) ∙ of (next_events p c r) some where
  of : (o : Option (List CoreEvent)) → is_some o ≡ true → ended_or r o (go_further (one_step p c r) (caller_ended p c most)) ≡ go_further (one_step p c r) (caller_ended p c most)
  of None is = absurd (let no : false ≡ true = is in cc)
  of (Some events) is = refl

pub caller_more : (p : Replay) (c : ℕ) (old new : Progress) (whole : Result Replaying Refusal) → is_some (next_events p c (shown old)) ≡ true → new.steps ≡ old.steps + 1 → old.steps < p.limit
    → made_to (shown new) ≡ bared (one_step p c (shown old)) → bared (caller_ended p c (most_steps p (shown old)) (shown old)) ≡ whole
    → bared (caller_ended p c (most_steps p (shown new)) (shown new)) ≡ whole
caller_more p c old new whole some counted below step so_far =
    let most = p.limit - old.steps in
    sym (ap bared (caller_turn p c most (shown old) some)
    ∙ (goes (one_step p c (shown old)) (caller_ended p c most) new (caller_blind p c most) step
    ∙ ap (λ (m : ℕ). bared (caller_ended p c m (shown new))) (fewer p.limit old.steps new.steps counted below)))
    ∙ so_far

pub caller_stop : (p : Replay) (c : ℕ) (old : Progress) (refusal : Refusal) (whole : Result Replaying Refusal) → is_some (next_events p c (shown old)) ≡ true
    → refused refusal ≡ bared (one_step p c (shown old)) → bared (caller_ended p c (most_steps p (shown old)) (shown old)) ≡ whole → refused refusal ≡ whole
caller_stop p c old refusal whole some step so_far =
    let most = p.limit - old.steps in
    halts (one_step p c (shown old)) (caller_ended p c most) refusal step ∙ (sym (ap bared (caller_turn p c most (shown old) some)) ∙ so_far)

pub caller_end : (p : Replay) (c : ℕ) (now : Progress) (whole : Result Replaying Refusal) → is_some (next_events p c (shown now)) ≡ false
    → bared (caller_ended p c (most_steps p (shown now)) (shown now)) ≡ whole → made_to (shown now) ≡ whole
caller_end p c now whole none so_far =
    of (next_events p c (shown now)) none (sym (ap (λ (m : ℕ). bared (caller_ended p c m (shown now))) (plus_one (p.limit - now.steps))) ∙ so_far) where
      of : (o : Option (List CoreEvent)) → is_some o ≡ false → bared (ended_or (shown now) o (go_further (one_step p c (shown now)) (caller_ended p c (p.limit - now.steps)))) ≡ whole → made_to (shown now) ≡ whole
      of None is so_far = so_far
      of (Some events) is so_far = absurd (let no : true ≡ false = is in cc)

callers_turn : (p : Replay) (n c : ℕ) (r : Replaying) → c < n → callers_ended p c (n - c) r ≡ go_further (caller_ended p c (most_steps p r) r) (callers_ended p (c + 1) (n - (c + 1)))
callers_turn p n c r lt = let k : n - c ≡ suc (n - (c + 1)) = omega arith in ap (λ (m : ℕ). callers_ended p c m r) k

pub callers_more : (p : Replay) (n c : ℕ) (old new : Progress) (whole : Result Replaying Refusal) → c < n → made_to (shown new) ≡ bared (caller_ended p c (most_steps p (shown old)) (shown old))
    → bared (callers_ended p c (n - c) (shown old)) ≡ whole → bared (callers_ended p (c + 1) (n - (c + 1)) (shown new)) ≡ whole
callers_more p n c old new whole lt made so_far =
    sym (ap bared (callers_turn p n c (shown old) lt)
    ∙ goes (caller_ended p c (most_steps p (shown old)) (shown old)) (callers_ended p (c + 1) (n - (c + 1))) new (callers_blind p (c + 1) (n - (c + 1))) made)
    ∙ so_far

pub callers_stop : (p : Replay) (n c : ℕ) (old : Progress) (refusal : Refusal) (whole : Result Replaying Refusal) → c < n → refused refusal ≡ bared (caller_ended p c (most_steps p (shown old)) (shown old))
    → bared (callers_ended p c (n - c) (shown old)) ≡ whole → refused refusal ≡ whole
callers_stop p n c old refusal whole lt made so_far =
    halts (caller_ended p c (most_steps p (shown old)) (shown old)) (callers_ended p (c + 1) (n - (c + 1))) refusal made
    ∙ (sym (ap bared (callers_turn p n c (shown old) lt)) ∙ so_far)

pub callers_end : (p : Replay) (n c : ℕ) (now : Progress) (whole : Result Replaying Refusal) → n ≤ c → bared (callers_ended p c (n - c) (shown now)) ≡ whole → made_to (shown now) ≡ whole
callers_end p n c now whole past so_far = let k : n - c ≡ 0 = omega arith in sym (ap (λ (m : ℕ). bared (callers_ended p c m (shown now))) k) ∙ so_far
