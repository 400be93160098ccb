-- A slot that a hazard word names and that isn't given out: it keeps its name while the word is unchanged. This needs the relation's
-- validated guard only at its begin, so it holds too if a `grd` stores the slot again, after which the relation knows nothing of the
-- guard until the next check.
use Rattle.std.proofs.Common.{ℕ, ◌≡◌, ◌≢◌, ◌*◌, ◌<◌, ◌∙◌, true, false, List, arith, ⊎_elim, sym, ap, subst}
use Rattle.std.specs.Prelude.{slice_index}
use Rattle.oa_words.specs.declared.packed.Kind.TheVariants as kinds
use Rattle.oa_words.specs.Words.{Hazard, Status}
use Rattle.oa_words.specs.Packed.{status_word}
use Rattle.phase_pools.specs.declared.stages.SweepStage.{SweepStage}
use Rattle.phase_pools.specs.declared.stages.SweepStage.TheVariants as sweeps
use Rattle.phase_pools.specs.declared.stages.ClaimStage.{ClaimStage}
use Rattle.phase_pools.specs.declared.stages.ClaimStage.TheVariants as claims
use Rattle.phase_pools.specs.Pools.{Sweep}
use Rattle.source_machine.specs.MethodRuns.{put}
use Rattle.source_machine.specs.Proper.{has}
use Rattle.source_machine.proofs.Places.{each_put}
use Rattle.caller_parts.specs.declared.routine.Routine.{Routine}
use Rattle.caller_parts.specs.declared.routine.Routine.TheVariants.{Claims}
use Rattle.caller_steps.specs.Entries.{cradle_of}
use Rattle.oa_simulation.specs.sim_relation.Views.{Plan, Held, Shared, Caller}
use Rattle.oa_simulation.specs.sim_relation.Shared.{SharedHolds}
use Rattle.oa_simulation.specs.sim_relation.Callers.{Sweeps, SweepAt, ClaimAt, HoldsAt}
use Rattle.oa_simulation.specs.sim_relation.Worlds.{World, Holds}
use Rattle.oa_simulation.proofs.sim_relation.Names.{has_slot_of, none_there, own_private}
use Rattle.oa_simulation.proofs.sim_steps.Pools.Slots.{in_pool}
use Rattle.run_laws.proofs.guarded_claims.Passing.{Knows, KnowsAt, KnowsIn, KnowsWhere}
use Rattle.run_laws.proofs.guarded_claims.Walking.{Away}

pub record Covered (t : Plan) (w : World) (d r : ℕ) : Type 0 where
  pub slot : ℕ
  pub word : w.shared.memory (Hazard d r) ≡ slot
  pub caller : d < t.setting.sizes.callers
  pub register : r < 8
  -- it has a name
  pub named : w.shared.present slot ≢ 0
  -- no other caller has it in a cradle, to store 0 in its fields
  pub away : (e : ℕ) → e < t.setting.sizes.callers → e ≢ d → Away slot (w.who e).entry
  -- no sweep under way that is past the word frees it
  pub known : (e : ℕ) → e < t.setting.sizes.callers → KnowsWhere w.shared d r slot (w.who e).entry.routine

pub covered_named : (t : Plan) (w : World) (d r : ℕ) (v : Covered t w d r) → SharedHolds t w.shared → v.slot ≢ 0
covered_named t w d r v f z = v.named (ap w.shared.present z ∙ none_there t w.shared f)

-- so it isn't ready
pub covered_spares : (t : Plan) (w : World) (d r q : ℕ) → SharedHolds t w.shared → Covered t w d r → w.shared.memory (Status (w.shared.memory (Hazard d r))) ≡ status_word q kinds.Ready → ⊥
covered_spares t w d r q f v ready =
    let s : Shared = w.shared in
    let j : ℕ = s.memory (Hazard d r) in
    let pool = in_pool (s.owner j) q (s.memory (Status j)) (s.present j) (s.tag (s.present j)) (has (s.present j) s.source.retired) (s.public (s.present j)) ready (f.slot j) in
    v.named (ap s.present (sym v.word) ∙ pool.1)

-- ---- what a validated guard of the relation names

module _ (t : Plan) (w : World) (h : Holds t w) (d r : ℕ) (some : w.shared.protects d r ≢ 0) where
  abbrev s : Shared
  s = w.shared

  -- a sweep that is past all hazard words
  known_all : (p : ℕ) (g : List ℕ) → Sweeps t s p t.setting.sizes.callers (8 * t.setting.sizes.callers) g → Knows s (t.home (s.protects d r)) p g
  known_all p g k q is below =
      let gd = h.shared_holds.guard d r some in
      let lt = gd.caller in
      let low = gd.register in
      k.gathered d r q (omega (arith, lt, low)) some (ap s.tag (sym gd.resident) ∙ is) below

  known_at : (p : ℕ) (g : List ℕ) (stage : SweepStage) → SweepAt t s p g stage → KnowsAt s d r (t.home (s.protects d r)) p g stage
  known_at p g sweeps.ReadPhase k = tt
  known_at p g (sweeps.RaisePhase q) k = tt
  known_at p g (sweeps.Warn x) k = tt
  known_at p g (sweeps.ReadHazard x i) k = λ past q is below. k.0.gathered d r q past some (ap s.tag (sym (h.shared_holds.guard d r some).resident) ∙ is) below
  known_at p g (sweeps.MakeReady i q) k = known_all p g k.0
  known_at p g _ k = known_all p g k

  known_in : (sweep : Sweep) (stage : ClaimStage) → ClaimAt t s sweep stage → KnowsIn s d r (t.home (s.protects d r)) sweep stage
  known_in sweep claims.Sweeps k = known_at sweep.bound sweep.gathered sweep.stage k
  known_in sweep _ k = tt

  known_where : (e : ℕ) (x : Caller) (routine : Routine) → HoldsAt t s e x routine → KnowsWhere s d r (t.home (s.protects d r)) routine
  known_where e x (Claims claim) k = known_in claim.sweep claim.stage k.0
  known_where e x _ k = tt

  pub covered_of : Covered t w d r
  covered_of =
      let f = h.shared_holds in
      let gd = f.guard d r some in
      let n : ℕ = s.protects d r in
      record {
        slot = t.home n;
        word = gd.word;
        caller = gd.caller;
        register = gd.register;
        named = λ z. some (sym gd.resident ∙ z);
        away = λ e lt ne k is.
            (let held : s.owner (cradle_of (w.who e).entry k) ≡ Held e k = (h.caller_holds e lt).base.cradle k (λ z. has_slot_of t s n f gd.resident some (sym is ∙ z)) in
            let here : s.owner (t.home n) ≡ Held e k = ap s.owner (sym is) ∙ held in
            ⊎_elim
            (λ (public : s.public n ≡ true). let z : true ≡ false = sym public ∙ own_private t s e k n f here gd.resident in cc)
            (λ (own : (i : ℕ) × (s.owner (t.home n) ≡ Held d i)). ne (let z : Held e k ≡ Held d own.0 = sym here ∙ own.1 in cc))
            (f.mine d r some));
        known = λ e lt. known_where e (w.who e) (w.who e).entry.routine (h.caller_holds e lt).spot;
      }

-- a caller that takes a call leaves it
pub covered_took : (t : Plan) (w : World) (c : ℕ) (x' : Caller) (d r : ℕ) → x'.entry.cradles ≡ (w.who c).entry.cradles → KnowsWhere w.shared d r (w.shared.memory (Hazard d r)) x'.entry.routine
    → Covered t w d r → Covered t (record { shared = w.shared; who = put w.who c x' }) d r
covered_took t w c x' d r cradles knows v = record {
  slot = v.slot;
  word = v.word;
  caller = v.caller;
  register = v.register;
  named = v.named;
  away = each_put (λ e (x : Caller). e < t.setting.sizes.callers → e ≢ d → Away v.slot x.entry) w.who c x'
      (λ lt ne k is. v.away c lt ne k (ap (λ (l : List ℕ). slice_index l k) (sym cradles) ∙ is))
      (λ e ne. v.away e);
  known = each_put (λ e (x : Caller). e < t.setting.sizes.callers → KnowsWhere w.shared d r v.slot x.entry.routine) w.who c x'
      (λ lt. subst (λ (j : ℕ). KnowsWhere w.shared d r j x'.entry.routine) v.word knows)
      (λ e ne. v.known e);
}
