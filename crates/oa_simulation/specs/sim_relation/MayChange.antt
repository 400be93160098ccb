-- What one caller's step may do to what is shared, and so to what is known of the others.
use Rattle.std.specs.Prelude.{ℕ, ◌≡◌, ◌≢◌, ◌≤◌, ◌⊎◌, true, false, Some}
use Rattle.oa_words.specs.Words.{Phase, Warning, Hazard, FieldOf}
use Rattle.oa_simulation.specs.sim_relation.Views.{Plan, Held, Retiring, Shared, link, Resident}

pub record MayChange (t : Plan) (c : ℕ) (s s' : Shared) : Type 0 where
  pub phase : s.memory Phase ≤ s'.memory Phase
  pub warning : (d : ℕ) → s.memory (Warning d) ≤ s'.memory (Warning d)
  -- a new tag is at least the phase
  pub tag : (n p : ℕ) → s'.tag n ≡ Some p → (s.tag n ≡ Some p) ⊎ (s.memory Phase ≤ p)
  pub public : (n : ℕ) → s.public n ≡ true → s'.public n ≡ true
  -- what is newly linked is null or resident, or the mover's own fresh name is linked
  pub link : (n g : ℕ) → (link s' n g ≡ link s n g) ⊎ Resident t s' (link s' n g) ⊎ (((k : ℕ) × (s'.owner (t.home n) ≡ Held c k)) × (s'.public n ≡ false))
  pub hazard : (d r : ℕ) → d ≢ c → s'.memory (Hazard d r) ≡ s.memory (Hazard d r)
  pub protects : (d r : ℕ) → d ≢ c → s'.protects d r ≡ s.protects d r
  -- what the mover newly protects has no tag that a sweep past its warning may free
  pub validated : (r q : ℕ) → s'.protects c r ≢ 0 → (s'.protects c r ≡ s.protects c r) ⊎ (s'.tag (s'.protects c r) ≡ Some q → s'.memory (Warning c) ≤ q)
  pub held : (j d k : ℕ) → d ≢ c → s.owner j ≡ Held d k → (s'.owner j ≡ Held d k) × (s'.present j ≡ s.present j) × ((g : ℕ) → s'.memory (FieldOf j g) ≡ s.memory (FieldOf j g))
  pub retiring : (j d : ℕ) → d ≢ c → s.owner j ≡ Retiring d → (s'.owner j ≡ Retiring d) × (s'.present j ≡ s.present j) × (s'.tag (s.present j) ≡ s.tag (s.present j))
