-- Code that follows a replay, part after part.
use Rattle.std.proofs.Common.{◌≡◌, ◌<◌, ◌-◌, ℕ, suc, ◌+◌, List, length, drop, get_or, Some, None, refl, sym, ap, ◌∙◌, subst, arith}
use Rattle.std.specs.Prelude.{Result, Ok, Err}
use Rattle.std.proofs.lemmas.List.{drop_more}
use Rattle.schedule_turns.specs.declared.turn.Turn.{Turn}
use Rattle.core_runs.specs.Machine.{CoreState}
use Rattle.core_runs.specs.Replays.{Replaying, Refusal, one_step, go_further, turns_made, callers_ended}
use Rattle.replay_logs.specs.declared.error.LogError.{LogError}
use Rattle.replay_logs.specs.declared.error.LogError.TheVariants as errors
use Rattle.replay_logs.specs.declared.parts.Part.{Part}
use Rattle.replay_logs.specs.declared.parts.Part.TheVariants.{End}
use Rattle.replay_logs.specs.UnderWay.{Terms, Progress, replay_by, cores_of, IsUnderWay, Shows, Tells, Follows}
use Rattle.replay_logs.specs.Parts.{caller_of, part_made, part_of, part_rest}
use Rattle.replay_steps.specs.Turns.{made_to}
use Rattle.replay_logs.proofs.Parting.{unrolled, unrolls, turn_is}

abbrev pub Way : Type 0
Way = Replaying → Result Replaying Refusal

abbrev pub done : Unit {0} → Result (Unit {0}) LogError
done u = Ok u

abbrev pub failed : LogError → Result (Unit {0}) LogError
failed error = Err error

-- what is left leads where the whole leads
pub record Leaves (t : Terms) (old now : Progress) (whole rest : Way) : Type 0 where
  pub each : (r : Replaying) → Shows t old r → (later : Replaying) × Shows t now later × (rest later ≡ whole r)

pub nothing_made : (t : Terms) (now : Progress) (whole : Way) → Leaves t now now whole whole
nothing_made t now whole = record { each = λ r shows. (r, shows, refl) }

-- what is left is one part, and then the rest of it
pub record Begins (t : Terms) (now : Progress) (rest first next : Way) : Type 0 where
  pub each : (r : Replaying) → Shows t now r → rest r ≡ go_further (first r) next

pub goes_on : (t : Terms) (old now new : Progress) (whole rest first next : Way) (u : Unit {0}) → Leaves t old now whole rest → Begins t now rest first next → Follows t now (done u) new first
    → Leaves t old new whole next
goes_on t old now new whole rest first next u leaves begins follows = record { each = each } where
  of : (r mid : Replaying) → rest mid ≡ whole r → rest mid ≡ go_further (first mid) next → (o : Result Replaying Refusal) → first mid ≡ o → Tells t (done u) new o
      → (later : Replaying) × Shows t new later × (next later ≡ whole r)
  of r mid same begin (Ok later) made tells = (later, tells, sym (ap (λ (o : Result Replaying Refusal). go_further o next) made) ∙ (sym begin ∙ same))
  of r mid same begin (Err refusal) made tells = absurd tells

  each : (r : Replaying) → Shows t old r → (later : Replaying) × Shows t new later × (next later ≡ whole r)
  each r shows = let there = leaves.each r shows in of r there.0 there.2 (begins.each there.0 there.1) (first there.0) refl (follows.each there.0 there.1)

pub stops : (t : Terms) (old now new : Progress) (whole rest first next : Way) (error : LogError) → Leaves t old now whole rest → Begins t now rest first next → Follows t now (failed error) new first
    → Follows t old (failed error) new whole
stops t old now new whole rest first next error leaves begins follows = record { each = each } where
  of : (error : LogError) (r mid : Replaying) → rest mid ≡ whole r → rest mid ≡ go_further (first mid) next → Tells t (failed error) new (first mid) → Tells t (failed error) new (whole r)
  of errors.Memory r mid same begin tells = tt
  of (errors.StepOfNobody steps) r mid same begin tells = sym same ∙ (begin ∙ ap (λ (o : Result Replaying Refusal). go_further o next) tells)
  of (errors.LongReplay steps) r mid same begin tells = sym same ∙ (begin ∙ ap (λ (o : Result Replaying Refusal). go_further o next) tells)

  each : (r : Replaying) → Shows t old r → Tells t (failed error) new (whole r)
  each r shows = let there = leaves.each r shows in of error r there.0 there.2 (begins.each there.0 there.1) (follows.each there.0 there.1)

-- nothing is left
pub record IsOver (t : Terms) (now : Progress) (rest : Way) : Type 0 where
  pub each : (r : Replaying) → Shows t now r → rest r ≡ made_to r

pub ends : (t : Terms) (old now : Progress) (whole rest : Way) (u : Unit {0}) → Leaves t old now whole rest → IsOver t now rest → Follows t old (done u) now whole
ends t old now whole rest u leaves over = record {
  each = λ r shows.
      let there = leaves.each r shows in
      subst (λ (o : Result Replaying Refusal). Tells t (done u) now o) (sym (over.each there.0 there.1) ∙ there.2) there.1;
}

-- the replay is under way still
pub still : (t : Terms) (old new : Progress) (first : Way) (u : Unit {0}) → IsUnderWay t old → Follows t old (done u) new first → IsUnderWay t new
still t old new first u way follows = of (first way.replaying) (follows.each way.replaying way.shows) where
  of : (o : Result Replaying Refusal) → Tells t (done u) new o → IsUnderWay t new
  of (Ok later) shows = record { suits = way.suits; replaying = later; shows = shows }
  of (Err refusal) none = absurd none

-- one after the other
pub both : (t : Terms) (old mid : Progress) (first next : Way) (u : Unit {0}) → Follows t old (done u) mid first → Leaves t old mid (λ r. go_further (first r) next) next
both t old mid first next u follows =
    goes_on t old old mid (λ r. go_further (first r) next) (λ r. go_further (first r) next) first next u (nothing_made t old (λ r. go_further (first r) next)) (record { each = λ r shows. refl }) follows

-- ---- a part

same_entries : (t : Terms) (now : Progress) (r : Replaying) → Shows t now r → cores_of now ≡ r.state.entries
same_entries t now r shows = ap (λ (s : CoreState). s.entries) shows.state

pub part_begins : (t : Terms) (now : Progress) (part rest : Part) → part_rest (replay_by t) part (cores_of now) ≡ Some rest
    → Begins t now (part_made (replay_by t) part) (one_step (replay_by t) (caller_of part)) (part_made (replay_by t) rest)
part_begins t now part rest is = record {
  each = λ r shows.
      unrolls (replay_by t) part r
      ∙ ap (unrolled (replay_by t) part r) (sym (ap (part_rest (replay_by t) part) (same_entries t now r shows)) ∙ is);
}

pub part_is_over : (t : Terms) (now : Progress) (part : Part) → part_rest (replay_by t) part (cores_of now) ≡ None → IsOver t now (part_made (replay_by t) part)
part_is_over t now part is = record {
  each = λ r shows.
      unrolls (replay_by t) part r
      ∙ ap (unrolled (replay_by t) part r) (sym (ap (part_rest (replay_by t) part) (same_entries t now r shows)) ∙ is);
}

-- ---- turns

pub turn_begins : (t : Terms) (now : Progress) (schedule : List Turn) (i : ℕ) (turn : Turn) → i < length schedule
    → Begins t now (turns_made (replay_by t) (drop i schedule)) (part_made (replay_by t) (part_of (get_or schedule i turn) (cores_of now))) (turns_made (replay_by t) (drop (i + 1) schedule))
turn_begins t now schedule i turn lt = record {
  each = λ r shows.
      ap (λ (l : List Turn). turns_made (replay_by t) l r) (drop_more schedule i turn lt)
      ∙ ap (λ (o : Result Replaying Refusal). go_further o (turns_made (replay_by t) (drop (i + 1) schedule)))
      (turn_is (replay_by t) (get_or schedule i turn) r ∙ ap (λ es. part_made (replay_by t) (part_of (get_or schedule i turn) es) r) (sym (same_entries t now r shows)));
}

-- ---- callers

pub caller_begins : (t : Terms) (now : Progress) (n c : ℕ) → c < n → Begins t now (callers_ended (replay_by t) c (n - c)) (part_made (replay_by t) (End c)) (callers_ended (replay_by t) (c + 1) (n - (c + 1)))
caller_begins t now n c lt = record {
  each = λ r shows. let k : n - c ≡ suc (n - (c + 1)) = omega arith in ap (λ (m : ℕ). callers_ended (replay_by t) c m r) k;
}

pub callers_are_over : (t : Terms) (now : Progress) (n c : ℕ) → n - c ≡ 0 → IsOver t now (callers_ended (replay_by t) c (n - c))
callers_are_over t now n c none = record { each = λ r shows. ap (λ (m : ℕ). callers_ended (replay_by t) c m r) none }
