-- A hazard word is stored: a guard is published or cleared.
use Rattle.std.proofs.Common.{ℕ, ◌≡◌, ◌≢◌, ◌==◌, ◌<◌, ◌∙◌, true, false, length, arith, inl, inr, ⊎_elim, sym, ap, refl}
use Rattle.std.proofs.lemmas.Bool.Decides.{nat_tests, eqb_tells}
use Rattle.oa_words.specs.Words.{Hazard}
use Rattle.guard_words.specs.Guards.{Guards, guard_at, with_guard}
use Rattle.core_runs.proofs.caller_laws.Named.{set_hits, set_misses}
use Rattle.source_machine.specs.MethodRuns.{put}
use Rattle.source_machine.proofs.Places.{put_same, put_other}
use Rattle.run_ahead.specs.Following.{Walk}
use Rattle.oa_simulation.specs.sim_relation.Views.{Plan, Shared, Caller}
use Rattle.oa_simulation.specs.sim_relation.Shared.{SharedHolds}
use Rattle.oa_simulation.specs.sim_relation.Callers.{Base, spared, KeepsGuards}
use Rattle.oa_simulation.specs.sim_relation.MayChange.{MayChange}
use Rattle.oa_simulation.specs.sim_relation.Steps.{hazarded, regarded}

pub guard_here : (guards : Guards) (r slot : ℕ) → r < length guards.slots → guard_at (with_guard guards r slot) r ≡ slot
guard_here guards r slot lt = set_hits guards.slots r slot 0 lt

pub guard_other : (guards : Guards) (r slot k : ℕ) → k ≢ r → guard_at (with_guard guards r slot) k ≡ guard_at guards k
guard_other guards r slot k ne = set_misses guards.slots r slot 0 k ne

-- a guard that still protects is as it was
pub protects_more : (s : Shared) (c r x d k : ℕ) → (hazarded s c r x).protects d k ≢ 0 → ((hazarded s c r x).protects d k ≡ s.protects d k) × ((hazarded s c r x).memory (Hazard d k) ≡ s.memory (Hazard d k))
protects_more s c r x d k some = grind (arith, nat_tests)

pub fine_hazarded : (t : Plan) (c : ℕ) (s : Shared) (r x : ℕ) → SharedHolds t s → SharedHolds t (hazarded s c r x)
fine_hazarded t c s r x f = record {
  warning = f.warning;
  tag = f.tag;
  tagged = f.tagged;
  slot = f.slot;
  home = f.home;
  none_there = f.none_there;
  null_stays = f.null_stays;
  gone = f.gone;
  public = f.public;
  placed = f.placed;
  store = f.store;
  unused = f.unused;
  unused_some = f.unused_some;
  typed = f.typed;
  mine = λ d k some. let p = protects_more s c r x d k some in rw p.0 (f.mine d k (λ z. some (p.0 ∙ z)));
  guard = λ d k some.
      let p = protects_more s c r x d k some in
      let g = f.guard d k (λ z. some (p.0 ∙ z)) in
      record { resident = rw p.0 g.resident; word = rw (p.0, p.1) g.word; caller = g.caller; register = g.register };
}

pub goes_hazarded : (t : Plan) (c : ℕ) (s : Shared) (r x : ℕ) → MayChange t c s (hazarded s c r x)
goes_hazarded t c s r x = record {
  phase = omega arith;
  warning = λ d. omega arith;
  tag = λ n q is. inl is;
  public = λ n is. is;
  link = λ n g. inl refl;
  hazard = λ d k ne. grind (arith, nat_tests);
  protects = λ d k ne. ap (λ (f : ℕ → ℕ). f k) (put_other s.protects c d (put (s.protects c) r 0) ne);
  validated = λ k q some. inl (protects_more s c r x c k some).0;
  held = λ j d k ne is. (is, refl, (λ g. refl));
  retiring = λ j d ne is. (is, refl, refl);
}

pub base_hazarded : (t : Plan) (c : ℕ) (s : Shared) (x : Caller) (r slot n : ℕ) → r < length x.entry.hand.guards.slots → Base t s c x → Base t (hazarded s c r slot) c (regarded x r slot n)
base_hazarded t c s x r slot n lt b = record {
  number = b.number;
  seen = b.seen;
  old = b.old;
  known = b.known;
  cradle = b.cradle;
  hazard = λ k. ⊎_elim
      (λ (e : ((k == r) ≡ true) × (k ≡ r)). let here : (c == c) ≡ true = grind (arith, nat_tests) in rw (here, e.0) (sym (ap (λ (i : ℕ). guard_at (with_guard x.entry.hand.guards r slot) i) e.1 ∙ guard_here x.entry.hand.guards r slot lt)))
      (λ (e : ((k == r) ≡ false) × (k ≢ r)). let here : (c == c) ≡ true = grind (arith, nat_tests) in rw (here, e.0) (b.hazard k ∙ sym (guard_other x.entry.hand.guards r slot k e.1)))
      (eqb_tells k r);
  protects = λ k. ap (λ (f : ℕ → ℕ). f k) (put_same s.protects c (put (s.protects c) r 0)) ∙ ⊎_elim
      (λ (e : ((k == r) ≡ true) × (k ≡ r)). rw e.0 refl)
      (λ (e : ((k == r) ≡ false) × (k ≢ r)). rw e.0 (b.protects k))
      (eqb_tells k r);
}

pub kept_hazarded : (t : Plan) (x : Caller) (r slot n : ℕ) (walk : Walk t.target t.text) → spared t walk r ≡ false → KeepsGuards t x walk → KeepsGuards t (regarded x r slot n) walk
kept_hazarded t x r slot n walk free kept k is =
    let ne : k ≢ r = λ e. let z : true ≡ false = sym is ∙ (ap (λ (i : ℕ). spared t walk i) e ∙ free) in cc in
    let old = kept k is in
    (put_other x.names.name r k n ne ∙ old.0, ⊎_elim (λ (v : x.names.valid k ≡ true). inl (put_other x.names.valid r k false ne ∙ v)) (λ (z : x.names.name k ≡ 0). inr (put_other x.names.name r k n ne ∙ z)) old.1)
