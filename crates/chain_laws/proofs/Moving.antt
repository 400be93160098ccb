-- What a step of one caller leaves of what is known of another.
use Rattle.std.proofs.Common.{ℕ, ◌≡◌, ◌≢◌, ◌≤◌, ◌∙◌, Some, None, arith, inl, inr, ⊎_elim, sym, subst}
use Rattle.oa_words.specs.Words.{Word, Link, Sizes}
use Rattle.oa_words.specs.SlotKinds.{kind_of}
use Rattle.phase_pools.specs.declared.stages.SweepStage.{SweepStage}
use Rattle.phase_pools.specs.declared.stages.SweepStage.TheVariants as sweeps
use Rattle.phase_pools.specs.declared.stages.ClaimStage.{ClaimStage}
use Rattle.phase_pools.specs.declared.stages.ClaimStage.TheVariants as claims
use Rattle.phase_pools.specs.declared.stages.RetireStage.{RetireStage}
use Rattle.phase_pools.specs.declared.stages.RetireStage.TheVariants as retires
use Rattle.phase_pools.specs.Pools.{Sweep}
use Rattle.chain_laws.specs.Chains.{Owner, Chained, Taken, Hands, stamp}
use Rattle.chain_laws.specs.Standing.{ComesAbove, Gone, Loaded, SweepStands, ClaimStands, RetireStands, MayMove}

pub stable_gone : (n : Sizes) (c : ℕ) (m : Word → ℕ) (h : Hands) (m' : Word → ℕ) (h' : Hands) (q t : ℕ) → MayMove n c m h m' h' → q ≤ stamp n.tops m (kind_of n t) → Gone n m h q t → Gone n m' h' q t
stable_gone n c m h m' h' q t g le (inl lt) = inl (let up = g.stamped (kind_of n t) in omega (arith, lt, up))
stable_gone n c m h m' h' q t g le (inr above) = g.gone q t le above

-- what a look has loaded: of its own caller's steps too
pub stable_loaded : (n : Sizes) (c : ℕ) (m : Word → ℕ) (h : Hands) (m' : Word → ℕ) (h' : Hands) (k q t : ℕ) (IsLinked IsLinked' : Type 0) → MayMove n c m h m' h' → (m' (Link t) ≡ m (Link t) → IsLinked → IsLinked')
    → Loaded n m h k q t IsLinked → Loaded n m' h' k q t IsLinked'
stable_loaded n c m h m' h' k q t IsLinked IsLinked' g on w = (
  w.0,
  w.1,
  w.2,
  (let le = w.3 in let up = g.stamped k in omega (arith, le, up)),
  ⊎_elim
      (λ (here : (h.owner t ≡ Chained) × IsLinked). ⊎_elim
      (λ (stays : (h'.owner t ≡ Chained) × (m' (Link t) ≡ m (Link t))). inl (stays.0, on stays.1 here.1))
      (λ (took : h'.owner t ≡ Taken c). inr (inr (subst (λ (o : Owner). ComesAbove q o) (sym took) tt)))
      (g.chained t here.0))
      (λ (gone : Gone n m h q t). inr (stable_gone n c m h m' h' q t g (subst (λ (x : ℕ). q ≤ stamp n.tops m x) (sym w.2) w.3) gone))
      w.4,
)

pub stable_sweep : (n : Sizes) (c d : ℕ) (m : Word → ℕ) (h : Hands) (m' : Word → ℕ) (h' : Hands) (s low : ℕ) (stage : SweepStage) → MayMove n c m h m' h' → d ≢ c → SweepStands n m h d s low stage → SweepStands n m' h' d s low stage
stable_sweep n c d m h m' h' s low sweeps.ReadPhase g ne w = tt
stable_sweep n c d m h m' h' s low (sweeps.RaisePhase p) g ne w = omega (arith, w, g.phase)
stable_sweep n c d m h m' h' s low (sweeps.Warn x) g ne w = (omega (arith, w.0, g.phase), w.1)
stable_sweep n c d m h m' h' s low (sweeps.ReadHazard x r) g ne w = (omega (arith, w.0, g.phase), w.1)
stable_sweep n c d m h m' h' s low (sweeps.ReadStatus j) g ne w = (omega (arith, w.0, g.phase), w.1, w.2)
stable_sweep n c d m h m' h' s low (sweeps.MakeReady j q) g ne w = (omega (arith, w.0, g.phase), w.1, w.2, w.3)
stable_sweep n c d m h m' h' s low (sweeps.PushHead k j) g ne w = (omega (arith, w.0, g.phase), w.1, (g.pushing j d s ne w.2).0, w.3)
stable_sweep n c d m h m' h' s low (sweeps.PushLink j q t) g ne w = (omega (arith, w.0, g.phase), w.1, (g.pushing j d s ne w.2).0, w.3)
stable_sweep n c d m h m' h' s low (sweeps.PushTop k j q t) g ne w = (omega (arith, w.0, g.phase), w.1, (g.pushing j d s ne w.2).0, w.3, w.4, (g.pushing j d s ne w.2).1 ∙ w.5)

pub stable_claim : (n : Sizes) (c d : ℕ) (m : Word → ℕ) (h : Hands) (m' : Word → ℕ) (h' : Hands) (k : ℕ) (sweep : Sweep) (stage : ClaimStage) → MayMove n c m h m' h' → d ≢ c
    → ClaimStands n m h d k sweep stage → ClaimStands n m' h' d k sweep stage
stable_claim n c d m h m' h' k sweep claims.ReadHead g ne w = tt
stable_claim n c d m h m' h' k sweep (claims.ReadLink q t) g ne w = stable_loaded n c m h m' h' k q t (Unit {0}) (Unit {0}) g (λ same is. is) w
stable_claim n c d m h m' h' k sweep (claims.Take q t next) g ne w = stable_loaded n c m h m' h' k q t (m (Link t) ≡ next) (m' (Link t) ≡ next) g (λ same is. same ∙ is) w
stable_claim n c d m h m' h' k sweep (claims.StoreUsed q t) g ne w = (g.taken t d ne w.0, w.1)
stable_claim n c d m h m' h' k sweep (claims.Withdraw own) g ne w = tt
stable_claim n c d m h m' h' k sweep claims.Sweeps g ne w = stable_sweep n c d m h m' h' sweep.bound sweep.low sweep.stage g ne w

pub stable_retire : (n : Sizes) (c d : ℕ) (m : Word → ℕ) (h : Hands) (m' : Word → ℕ) (h' : Hands) (j : ℕ) (stage : RetireStage) → MayMove n c m h m' h' → d ≢ c → RetireStands h d j stage → RetireStands h' d j stage
stable_retire n c d m h m' h' j retires.ReadPhase g ne w = g.retiring j d None ne w
stable_retire n c d m h m' h' j (retires.StoreStatus p) g ne w = g.retiring j d (Some p) ne w
