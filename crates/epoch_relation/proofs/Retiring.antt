-- The retire routine: its load gives the tag, its store the status, and the caller goes on.
use Rattle.std.proofs.Common.{ℕ, ◌≡◌, ◌+◌, ◌<◌, ◌∙◌, Bool, true, false, length, Option, Some, None, arith, sym, ap, refl, if◌then◌else◌}
use Rattle.std.specs.Prelude.{nat_lt}
use Rattle.oa_words.specs.declared.packed.Kind.TheVariants as kinds
use Rattle.oa_words.specs.Words.{Word, Phase, Warning, Status}
use Rattle.oa_words.specs.Memories.{store}
use Rattle.oa_words.specs.Packed.{status_word}
use Rattle.phase_pools.specs.declared.stages.RetireStage.TheVariants as retires
use Rattle.source_machine.specs.MethodRuns.{put}
use Rattle.source_machine.specs.Proper.{has}
use Rattle.source_machine.proofs.Places.{each_put, put_same, put_other}
use Rattle.caller_parts.specs.declared.routine.AfterRetire.{AfterRetire}
use Rattle.caller_parts.specs.declared.routine.AfterRetire.TheVariants as onward
use Rattle.caller_parts.specs.Operands.{list_of}
use Rattle.caller_steps.specs.Entries.{one_more}
use Rattle.caller_parts.specs.declared.routine.Routine.{Routine}
use Rattle.caller_parts.specs.declared.routine.Routine.TheVariants.{At, InList, Retires}
use Rattle.caller_steps.specs.Entries.{instr_in}
use Rattle.caller_steps.specs.Signs.{Moved, quiet}
use Rattle.caller_steps.specs.After.{counted, with_routine, accepted, onward_goes, wrap_up_begun}
use Rattle.caller_parts.specs.declared.setting.Reclamation.TheVariants.{Epochs}
use Rattle.oa_simulation.specs.sim_relation.Views.{Plan, Held, Retiring, Dead, Shared}
use Rattle.oa_simulation.specs.sim_relation.Callers.{IsRetiring}
use Rattle.oa_simulation.specs.sim_relation.Shared.{SharedHolds}
use Rattle.oa_simulation.specs.sim_relation.MayChange.{MayChange}
use Rattle.oa_simulation.specs.sim_relation.Points.{done}
use Rattle.oa_simulation.proofs.sim_relation.Words.{store_idle}
use Rattle.oa_simulation.proofs.sim_relation.Playing.{plays_from}
use Rattle.oa_simulation.proofs.sim_steps.Pools.Slots.{with_tag, with_status, tagged, marked}
use Rattle.epoch_relation.specs.Reckoned.{reckoned_words, reckoned, EpochHolds}
use Rattle.epoch_relation.specs.Callers.{Caller, Base, IsAnnounced, Changes}
use Rattle.epoch_relation.specs.Walking.{IsPlan, GoesOn, AfterExchange}
use Rattle.epoch_relation.specs.Keeping.{point_at, KeptWith, Ends}
use Rattle.epoch_relation.proofs.Announcing.{since_below}
use Rattle.epoch_relation.proofs.Moving.{base_changed}
use Rattle.epoch_relation.proofs.Settling.{settles_ends, list_ends}
use Rattle.epoch_relation.proofs.Stopping.{ends_quiet}
use Rattle.epoch_relation.proofs.Storing.{holds_stored, goes_words, reckoned_status}
use Rattle.epoch_relation.proofs.Same.{Leaves, placed, base_kept, goes_on_kept, goes_on_placed, behind_placed}

-- what is shared changes so, and the caller ends there
pub kept_ends : (t : Plan) (c : ℕ) (s s' : Shared) (since since' : ℕ → ℕ) (x y : Caller) (m : Moved) (memory' : Word → ℕ) (present' : ℕ → ℕ) → EpochHolds t s' since' → Changes t c s since s' since' → s'.memory ≡ memory' → s'.present ≡ present' → point_at s' y ≡ point_at s x
    → Ends t s' since' c y m → KeptWith t c s since x memory' m present'
kept_ends t c s s' since since' x y m memory' present' f g memory present same w = record {
  s' = s';
  since' = since';
  x' = w.x';
  memory = memory;
  present = present;
  entry = w.entry;
  plays = plays_from t.text c m.signs (point_at s x) (point_at s' y) (point_at s' w.x') same w.plays;
  shared_holds = f;
  goes = g;
  caller_holds = w.caller_holds;
}

-- ---- the load

pub retire_loaded : (t : Plan) (c : ℕ) (s : Shared) (since : ℕ → ℕ) (x : Caller) (slot n : ℕ) (go : AfterRetire) → t.home 0 ≡ 0 → EpochHolds t s since → Base t s since c x → IsRetiring s c slot n None → GoesOn t s c x go
    → KeptWith t c s since x (store s.memory Phase (s.memory Phase)) (accepted Epochs t.target t.setting (s.memory Phase) (counted x.entry) (Retires (record { slot = slot; stage = retires.ReadPhase }) go)) s.present
retire_loaded t c s since x slot n go null f b r w = record {
  s' = with_tag s n;
  since' = since;
  x' = y;
  memory = store_idle s.memory Phase;
  present = refl;
  entry = refl;
  plays = done _;
  shared_holds = f';
  goes = record { goes = step.1; warning = λ d ne. refl; stays = λ d ne. refl; retired = λ n is. is };
  caller_holds = record {
    base = base_changed t (with_tag s n) since c x y.entry x.source x.watch refl refl (base_kept t c s (with_tag s n) x left.names since since old (λ n is. is) b);
    spot = (
      (n, record { owner = r.owner; present = r.present; tag_is = put_same s.tag n (Some (s.memory Phase)) }),
      goes_on_placed t (with_tag s n) c x (one_more x.entry.running.steps) x.entry.cradles x.entry.counts next go (goes_on_kept t c s (with_tag s n) since x left go w),
    );
  };
} where
  next : Routine
  next = Retires (record { slot = slot; stage = retires.StoreStatus (s.memory Phase) }) go

  y : Caller
  y = placed x (one_more x.entry.running.steps) x.entry.cradles x.entry.counts next

  step : SharedHolds t (with_tag (reckoned s since) n) × MayChange t c (reckoned s since) (with_tag (reckoned s since) n)
  step = tagged t (reckoned s since) c slot n f.holds r

  f' : EpochHolds t (with_tag s n) since
  f' = record { holds = step.0; announced = f.announced; begun = f.begun; unguarded = f.unguarded }

  left : Leaves t c s (with_tag s n) since x
  left = record { null = null; after = f'; names = record { held = λ j k is. (is, refl); public = λ n is. is }; announced = λ some. some; pairs = λ m some safe pairs. pairs }

  old : IsAnnounced (with_tag s n) c → (i p : ℕ) → put s.tag n (Some (s.memory Phase)) i ≡ Some p → p < since c → has i x.old ≡ true
  old some = each_put (λ i (o : Option ℕ). (p : ℕ) → o ≡ Some p → p < since c → has i x.old ≡ true) s.tag n (Some (s.memory Phase))
      (λ p is lt. let e : s.memory Phase ≡ p = cc in let up = since_below (s.memory (Warning c)) (since c) (s.memory Phase) some (f.holds.warning c) in absurd (omega (arith, e, lt, up)))
      (λ i ne. b.old some i)

-- ---- the store

pub retire_stored : (t : Plan) (c : ℕ) (s : Shared) (since : ℕ → ℕ) (x : Caller) (slot n p word : ℕ) (go : AfterRetire) → IsPlan t → EpochHolds t s since → Base t s since c x → c < t.setting.sizes.callers → IsRetiring s c slot n (Some p) → GoesOn t s c x go
    → KeptWith t c s since x (store s.memory (Status slot) (status_word p kinds.Retired)) (accepted Epochs t.target t.setting word (counted x.entry) (Retires (record { slot = slot; stage = retires.StoreStatus p }) go)) s.present
retire_stored t c s since x slot n p word go plan f b below r w = kept_ends t c s s' since since x y (onward_goes Epochs t.target t.setting.sizes go y.entry) (store s.memory (Status slot) (status_word p kinds.Retired)) s.present f'
    (record { goes = goes_words t c (reckoned s since) (with_status (reckoned s since) slot Dead (status_word p kinds.Retired)) (reckoned_words s'.memory since) (reckoned_status s.memory since slot (status_word p kinds.Retired)) step.1; warning = λ d ne. refl; stays = λ d ne. refl; retired = λ n is. is })
    refl refl refl (by go (goes_on_placed t s' c x (one_more x.entry.running.steps) x.entry.cradles x.entry.counts At go (goes_on_kept t c s s' since x left go w)))
  where
    s' : Shared
    s' = with_status s slot Dead (status_word p kinds.Retired)

    y : Caller
    y = placed x (one_more x.entry.running.steps) x.entry.cradles x.entry.counts At

    step : SharedHolds t (with_status (reckoned s since) slot Dead (status_word p kinds.Retired)) × MayChange t c (reckoned s since) (with_status (reckoned s since) slot Dead (status_word p kinds.Retired))
    step = marked t (reckoned s since) c slot n p f.holds r

    f' : EpochHolds t (with_status s slot Dead (status_word p kinds.Retired)) since
    f' = holds_stored t s (with_status (reckoned s since) slot Dead (status_word p kinds.Retired)) since (store s.memory (Status slot) (status_word p kinds.Retired)) f (reckoned_status s.memory since slot (status_word p kinds.Retired)) refl (λ d. refl) f.unguarded step.0

    held : (j k : ℕ) → s.owner j ≡ Held c k → put s.owner slot Dead j ≡ Held c k
    held j k own = put_other s.owner slot j Dead (λ e. let z : Held c k ≡ Retiring c = sym own ∙ (ap s.owner e ∙ r.owner) in cc) ∙ own

    left : Leaves t c s (with_status s slot Dead (status_word p kinds.Retired)) since x
    left = record { null = plan.null; after = f'; names = record { held = λ j k is. (held j k is, refl); public = λ n is. is }; announced = λ some. some; pairs = λ m some safe pairs. pairs }

    b' : Base t (with_status s slot Dead (status_word p kinds.Retired)) since c (placed x (one_more x.entry.running.steps) x.entry.cradles x.entry.counts At)
    b' = base_changed t _ since c x y.entry x.source x.watch refl refl (base_kept t c s _ x left.names since since b.old (λ n is. is) b)

    in_list : (k : ℕ) (more : Bool) → AfterExchange t (with_status s slot Dead (status_word p kinds.Retired)) c (placed x (one_more x.entry.running.steps) x.entry.cradles x.entry.counts At) (k + 1) more
        → Ends t (with_status s slot Dead (status_word p kinds.Retired)) since c (placed x (one_more x.entry.running.steps) x.entry.cradles x.entry.counts At)
        (if more then quiet (with_routine (placed x (one_more x.entry.running.steps) x.entry.cradles x.entry.counts At).entry (InList (k + 1))) else wrap_up_begun t.target (k + 1) (placed x (one_more x.entry.running.steps) x.entry.cradles x.entry.counts At).entry)
    in_list k true w = ends_quiet t _ since c y (InList (k + 1)) b' (behind_placed t _ c y (one_more x.entry.running.steps) x.entry.cradles x.entry.counts (InList (k + 1)) (k + 1) true w)
    in_list k false w = list_ends t _ since c y (k + 1) plan f' b' below w

    by : (go : AfterRetire) → GoesOn t (with_status s slot Dead (status_word p kinds.Retired)) c (placed x (one_more x.entry.running.steps) x.entry.cradles x.entry.counts At) go
        → Ends t (with_status s slot Dead (status_word p kinds.Retired)) since c (placed x (one_more x.entry.running.steps) x.entry.cradles x.entry.counts At) (onward_goes Epochs t.target t.setting.sizes go (placed x (one_more x.entry.running.steps) x.entry.cradles x.entry.counts At).entry)
    by onward.Next w = settles_ends t _ since c y (record { at = x.entry.hand.at + 1; registers = x.entry.hand.registers }) w.0
        (record { plan = plan; holds = f'; base = b'; below = below; announced = w.4; walks = w.1; gets = w.2; pairs = w.5 }) w.3
    by (onward.List k) w = in_list k (nat_lt (k + 1) (length (list_of (instr_in t.target x.entry)))) w
