-- What a step keeps.
use Rattle.std.specs.Prelude.{ℕ, ◌≡◌, ◌<◌, false}
use Rattle.oa_words.specs.Words.{Word}
use Rattle.caller_steps.specs.Signs.{Moved}
use Rattle.oa_simulation.specs.sim_relation.Views.{Plan, Shared}
use Rattle.oa_simulation.specs.sim_relation.Points.{Point, Plays}
use Rattle.epoch_relation.specs.Reckoned.{EpochHolds}
use Rattle.epoch_relation.specs.Callers.{Caller, Base, IsAnnounced, Changes}
use Rattle.epoch_relation.specs.Walking.{IsPlan, Trail, Walks, Gets, Pairs, CallerHolds}
use Rattle.norm_lang.specs.Local.{Spot}

-- the point at which the source is
abbrev pub point_at : Shared → Caller → Point
point_at s x = record { unused = s.unused; memory = s.source; caller = x.source; run = x.watch }

-- names can be put beside the words and what a step has made of the entry, so that all facts hold again, and the source plays the
-- step's signs; each slot has the name that is given
pub record KeptWith (t : Plan) (c : ℕ) (s : Shared) (since : ℕ → ℕ) (x : Caller) (memory' : Word → ℕ) (m : Moved) (present' : ℕ → ℕ) : Type 0 where
  pub s' : Shared
  pub since' : ℕ → ℕ
  pub x' : Caller
  pub memory : s'.memory ≡ memory'
  pub present : s'.present ≡ present'
  pub entry : x'.entry ≡ m.entry
  pub plays : Plays t.text c m.signs (point_at s x) (point_at s' x')
  pub shared_holds : EpochHolds t s' since'
  pub goes : Changes t c s since s' since'
  pub caller_holds : CallerHolds t s' since' c x'

-- what is shared stays: the entry comes to stand elsewhere, maybe with signs that leave the source's memory
pub record Ends (t : Plan) (s : Shared) (since : ℕ → ℕ) (c : ℕ) (x : Caller) (m : Moved) : Type 0 where
  pub x' : Caller
  pub entry : x'.entry ≡ m.entry
  pub plays : Plays t.text c m.signs (point_at s x) (point_at s x')
  pub caller_holds : CallerHolds t s since c x'

-- a caller that is announced, whose method run has come to a spot
pub record Comes (t : Plan) (s : Shared) (since : ℕ → ℕ) (c : ℕ) (x : Caller) (core : Spot) (m : Trail t) : Type 0 where
  pub plan : IsPlan t
  pub holds : EpochHolds t s since
  pub base : Base t s since c x
  pub below : c < t.setting.sizes.callers
  pub announced : IsAnnounced s c
  pub walks : Walks t s c x core m
  pub gets : Gets t s c x m
  pub pairs : m.walk.method.wrapup ≡ false → Pairs t s m
