-- An entry moves on with its hand as it was; and what any caller might do leaves the mover's own facts too.
use Rattle.std.proofs.Common.{ℕ, suc, ◌≡◌, ◌≢◌, ◌∙◌, Bool, true, false, if◌then◌else◌, List, refl, sym, arith, inl}
use Rattle.std.specs.Prelude.{slice_index}
use Rattle.norm_lang.specs.Local.{Spot}
use Rattle.run_ahead.specs.Following.{Walk}
use Rattle.caller_steps.specs.declared.entry.Counts.{Counts}
use Rattle.caller_parts.specs.declared.routine.Routine.{Routine}
use Rattle.source_machine.specs.declared.state.SourceCaller.{SourceCaller}
use Rattle.source_machine.specs.MethodRuns.{MethodRun, run_begun}
use Rattle.oa_simulation.specs.sim_relation.Views.{Plan, Held, Shared, Caller, protected, settled_names}
use Rattle.oa_simulation.specs.sim_relation.Shared.{SharedHolds}
use Rattle.oa_simulation.specs.sim_relation.Callers.{Base, Trail, Walks, Running, AtNew, Begins}
use Rattle.run_ahead.specs.Guards.{GuardRow}
use Rattle.oa_simulation.specs.sim_relation.Steps.{moved, cradled, GoesForAll, NamesStay}
use Rattle.oa_simulation.proofs.sim_relation.Stable.{stable_base, stable_new}

pub base_moved : (t : Plan) (s : Shared) (d : ℕ) (x : Caller) (a : ℕ) (k : Counts) (r : Routine) → Base t s d x → Base t s d (moved x a k r)
base_moved t s d x a k r w = record { number = w.number; seen = w.seen; old = w.old; hazard = w.hazard; protects = w.protects; known = w.known; cradle = w.cradle }

pub walks_moved : (t : Plan) (s : Shared) (d : ℕ) (x : Caller) (core : Spot) (m : Trail t) (a : ℕ) (k : Counts) (r : Routine) → Walks t s d x core m → Walks t s d (moved x a k r) core m
walks_moved t s d x core m a k r w = record {
  call = w.call;
  wrapup = w.wrapup;
  was_set = w.was_set;
  first = w.first;
  number = w.number;
  start = w.start;
  ahead = w.ahead;
  generator = w.generator;
  kept = w.kept;
  shown = w.shown;
  sound = w.sound;
}

abbrev pub running_moved : (t : Plan) (s : Shared) (d : ℕ) (x : Caller) (core : Spot) (a : ℕ) (k : Counts) (r : Routine) → Running t s d x core → Running t s d (moved x a k r) core
running_moved t s d x core a k r w = (w.0, walks_moved t s d x core w.0 a k r w.1, w.2, w.3, w.4)

abbrev pub new_moved : (t : Plan) (s : Shared) (d : ℕ) (x : Caller) (core : Spot) (a : ℕ) (k : Counts) (r : Routine) → AtNew t s d x core → AtNew t s d (moved x a k r) core
new_moved t s d x core a k r w = (w.0, walks_moved t s d x core w.0 a k r w.1, w.2, w.3)

pub begins_moved : (t : Plan) (s : Shared) (d : ℕ) (x : Caller) (walk : Walk t.target t.text) (a : ℕ) (k : Counts) (r : Routine) → Begins t s d x walk → Begins t s d (moved x a k r) walk
begins_moved t s d x walk a k r w = record { call = w.call; first = w.first; number = w.number; start = w.start; generator = w.generator; kept = w.kept; shown = w.shown; stands = w.stands; got = w.got; tied = w.tied; settled = w.settled }

pub own_base : (t : Plan) (c : ℕ) (s s' : Shared) (x : Caller) → GoesForAll t s s' → SharedHolds t s → Base t s c x → Base t s' c x
own_base t c s s' x g f w = stable_base t (suc c) c s s' x (g (suc c)) f (λ e. omega (arith, e)) w

pub own_new : (t : Plan) (c : ℕ) (s s' : Shared) (x : Caller) (core : Spot) → t.home 0 ≡ 0 → GoesForAll t s s' → SharedHolds t s' → Base t s c x → AtNew t s c x core → AtNew t s' c x core
own_new t c s s' x core null_home g f' b w = stable_new t (suc c) c s s' x core null_home (g (suc c)) f' (λ e. omega (arith, e)) b w

pub goes_same : (t : Plan) (s : Shared) → GoesForAll t s s
goes_same t s y = record {
  phase = omega arith;
  warning = λ d. omega arith;
  tag = λ n p is. inl is;
  public = λ n is. is;
  link = λ n g. inl refl;
  hazard = λ d r ne. refl;
  protects = λ d r ne. refl;
  validated = λ r q some. inl refl;
  held = λ j d k ne is. (is, refl, (λ g. refl));
  retiring = λ j d ne is. (is, refl, refl);
}

pub walks_cradled : (t : Plan) (s : Shared) (d : ℕ) (x : Caller) (core : Spot) (m : Trail t) (cradles : List ℕ) → Walks t s d x core m → Walks t s d (cradled x cradles) core m
walks_cradled t s d x core m cradles w = record {
  call = w.call;
  wrapup = w.wrapup;
  was_set = w.was_set;
  first = w.first;
  number = w.number;
  start = w.start;
  ahead = w.ahead;
  generator = w.generator;
  kept = w.kept;
  shown = w.shown;
  sound = w.sound;
}

pub new_cradled : (t : Plan) (s : Shared) (d : ℕ) (x : Caller) (core : Spot) (cradles : List ℕ) → AtNew t s d x core → AtNew t s d (cradled x cradles) core
new_cradled t s d x core cradles w = (w.0, walks_cradled t s d x core w.0 cradles w.1, w.2, w.3)

pub base_cradled : (t : Plan) (s : Shared) (d : ℕ) (x : Caller) (cradles : List ℕ) → ((k : ℕ) → slice_index cradles k ≢ 0 → s.owner (slice_index cradles k) ≡ Held d k) → Base t s d x → Base t s d (cradled x cradles)
base_cradled t s d x cradles cradle w = record { number = w.number; seen = w.seen; old = w.old; hazard = w.hazard; protects = w.protects; known = w.known; cradle = cradle }

-- the names of guards that no check validated are forgotten
abbrev pub settled : Caller → Caller
settled x = record x { names = settled_names x.names }

pub same_protected : (v : Bool) (n : ℕ) → (if v then (if v then n else 0) else 0) ≡ (if v then n else 0)
same_protected true n = refl
same_protected false n = refl

pub base_settled : (t : Plan) (s : Shared) (d : ℕ) (x : Caller) → Base t s d x → Base t s d (settled x)
base_settled t s d x w = record { number = w.number; seen = w.seen; old = w.old; hazard = w.hazard; known = w.known; cradle = w.cradle; protects = λ r. w.protects r ∙ sym (same_protected (x.names.valid r) (x.names.name r)) }

pub settled_is : (x : Caller) (r : ℕ) → x.names.valid r ≡ false → protected x.names r ≡ 0
settled_is x r is = rw is refl

-- names that stay as they are, those that settle when a method run is over, and two changes in turn
pub same_names : (row : GuardRow) (between : Bool) → NamesStay row row between
same_names row between = record { guarded = λ r some. some; named = λ on r some. some }

pub names_settle : (row : GuardRow) (between : Bool) → between ≡ true → NamesStay row (settled_names row) between
names_settle row between over = record {
  guarded = λ r some none. some (sym (same_protected (row.valid r) (row.name r)) ∙ none);
  named = λ on. absurd (let z : true ≡ false = sym over ∙ on in cc);
}

pub names_stay_on : (row row' later : GuardRow) (between : Bool) → NamesStay row row' between → NamesStay row' later between → NamesStay row later between
names_stay_on row row' later between one two = record {
  guarded = λ r some. two.guarded r (one.guarded r some);
  named = λ on r some. two.named on r (one.named on r some);
}

-- a method run begins now
pub base_begun : (t : Plan) (s : Shared) (d : ℕ) (x : Caller) (source : SourceCaller) (watch : MethodRun) → SharedHolds t s → Base t s d x → Base t s d (record x { held = run_begun s.source; source = source; watch = watch })
base_begun t s d x source watch f w = record {
  number = w.number;
  seen = w.seen;
  hazard = w.hazard;
  protects = w.protects;
  cradle = w.cradle;
  old = λ n p is lt. f.tagged n p is;
  known = λ n got. absurd (let z : false ≡ true = got in cc);
}
