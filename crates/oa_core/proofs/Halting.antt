-- The turn at which a replay stops, turn by turn.
use Rattle.std.proofs.Common.{◌≡◌, ◌<◌, ◌≤◌, ℕ, zero, suc, ◌+◌, List, [], ◌∷◌, ◌++◌, length, take, get_or, refl, sym, ap, subst, ◌∙◌, arith}
use Rattle.std.specs.Prelude.{Result, Ok, Err, IfOk}
use Rattle.std.proofs.lemmas.List.{take_more}
use Rattle.schedule_turns.specs.declared.turn.Turn.{Turn}
use Rattle.core_runs.specs.Replays.{Replay, Replaying, Refusal, replay_start, go_further, turn_made, turns_made}
use Rattle.replay_steps.specs.Turns.{made_to, refused}
use Rattle.oa_core.specs.Shown.{Progress, shown, bare, bared}
use Rattle.oa_core.specs.Stops.{StopsAfter}
use Rattle.oa_core.proofs.Bare.{turn_blind}
use Rattle.oa_core.proofs.Looping.{goes}

-- ---- a turn more, after others

alone : (p : Replay) (o : Result Replaying Refusal) → go_further o (turns_made p []) ≡ o
alone p (Err refusal) = refl
alone p (Ok later) = refl

joined : (p : Replay) (turn : Turn) (before : List Turn) → ((later : Replaying) → turns_made p (before ++ turn ∷ []) later ≡ go_further (turns_made p before later) (turn_made p turn))
    → (o : Result Replaying Refusal) → go_further o (turns_made p (before ++ turn ∷ [])) ≡ go_further (go_further o (turns_made p before)) (turn_made p turn)
joined p turn before on (Err refusal) = refl
joined p turn before on (Ok later) = on later

further : (p : Replay) (turn : Turn) (before : List Turn) (r : Replaying) → turns_made p (before ++ turn ∷ []) r ≡ go_further (turns_made p before r) (turn_made p turn)
further p turn [] r = alone p (turn_made p turn r)
further p turn (first ∷ before) r = joined p turn before (λ later. further p turn before later) (turn_made p first r)

-- what the next turn gives is what all of them up to it give
pub turn_more : (p : Replay) (schedule : List Turn) (i : ℕ) (d : Turn) (r : Replaying) (now : Progress) (o : Result Replaying Refusal) → i < length schedule
    → made_to (shown now) ≡ bared (turns_made p (take i schedule) r) → o ≡ bared (turn_made p (get_or schedule i d) (shown now)) → o ≡ bared (turns_made p (take (i + 1) schedule) r)
turn_more p schedule i d r now o lt so_far given =
    given
    ∙ (sym (goes (turns_made p (take i schedule) r) (turn_made p (get_or schedule i d)) now (turn_blind p (get_or schedule i d)) so_far)
    ∙ ap bared (sym (ap (λ (l : List Turn). turns_made p l r) (take_more schedule i d lt) ∙ further p (get_or schedule i d) (take i schedule) r)))

-- ---- what is refused early is refused as a whole

passed_on : (p : Replay) (k : ℕ) (rest : List Turn) (refusal : Refusal) → ((later : Replaying) → turns_made p (take k rest) later ≡ Err refusal → turns_made p rest later ≡ Err refusal)
    → (o : Result Replaying Refusal) → go_further o (turns_made p (take k rest)) ≡ Err refusal → go_further o (turns_made p rest) ≡ Err refusal
passed_on p k rest refusal on (Err other) is = is
passed_on p k rest refusal on (Ok later) is = on later is

refused_whole : (p : Replay) (k : ℕ) (schedule : List Turn) (r : Replaying) (refusal : Refusal) → turns_made p (take k schedule) r ≡ Err refusal → turns_made p schedule r ≡ Err refusal
refused_whole p zero schedule r refusal is = absurd (let no : made_to r ≡ refused refusal = is in cc)
refused_whole p (suc k) [] r refusal is = is
refused_whole p (suc k) (turn ∷ rest) r refusal is = passed_on p k rest refusal (λ later on. refused_whole p k rest later refusal on) (turn_made p turn r) is

-- ---- where it stops

made_so : (now : Progress) (o : Result Replaying Refusal) → made_to (shown now) ≡ bared o → (later : Replaying) × (o ≡ Ok later)
made_so now (Ok later) is = (later, refl)
made_so now (Err refusal) is = absurd (let no : made_to (shown now) ≡ refused refusal = is in cc)

refused_so : (refusal : Refusal) (o : Result Replaying Refusal) → refused refusal ≡ bared o → o ≡ Err refusal
refused_so refusal (Ok later) is = absurd (let no : refused refusal ≡ made_to (bare later) = is in cc)
refused_so refusal (Err other) is = sym is

pub stops_here : (p : Replay) (schedule : List Turn) (i : ℕ) (d : Turn) (r : Replaying) (now : Progress) (refusal : Refusal) → i < length schedule
    → made_to (shown now) ≡ bared (turns_made p (take i schedule) r) → refused refusal ≡ bared (turn_made p (get_or schedule i d) (shown now)) → StopsAfter p schedule r i
stops_here p schedule i d r now refusal lt so_far given = record {
  within = omega (arith, lt);
  made = made_so now (turns_made p (take i schedule) r) so_far;
  stopped = λ more. (refusal, next, refused_whole p (i + 1) schedule r refusal next);
} where
  next : turns_made p (take (i + 1) schedule) r ≡ Err refusal
  next = refused_so refusal (turns_made p (take (i + 1) schedule) r) (turn_more p schedule i d r now (refused refusal) lt so_far given)

pub stops_nowhere : (p : Replay) (schedule : List Turn) (i : ℕ) (r : Replaying) (now : Progress) → i ≤ length schedule → length schedule ≤ i
    → made_to (shown now) ≡ bared (turns_made p (take i schedule) r) → StopsAfter p schedule r (length schedule)
stops_nowhere p schedule i r now within past so_far = record {
  within = omega arith;
  made = made_so now (turns_made p (take (length schedule) schedule) r) (subst (λ (n : ℕ). made_to (shown now) ≡ bared (turns_made p (take n schedule) r)) all so_far);
  stopped = λ more. absurd (none more);
} where
  all : i ≡ length schedule
  all = omega (arith, within, past)

  none : length schedule < length schedule → ⊥
  none more = omega (arith, more)

-- ---- what is answered

abbrev pub StopsIn : {E : Type 0} → Result ℕ E → List Turn → Replay → Type 0
StopsIn o schedule p = IfOk o (λ whole. StopsAfter p schedule (replay_start p) whole)
