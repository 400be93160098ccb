-- Names and slots.
use Rattle.std.proofs.Common.{ℕ, ◌≡◌, ◌≢◌, ◌∙◌, Bool, true, false, inl, inr, sym, ap, subst, refl, ⊎_elim}
use Rattle.std.proofs.lemmas.Bool.{cases_eq}
use Rattle.oa_words.specs.Words.{Status, Hazard}
use Rattle.source_machine.specs.Proper.{has}
use Rattle.oa_simulation.specs.sim_relation.Views.{Plan, Owner, Null, Held, Shared, Resident, Apart}
use Rattle.oa_simulation.specs.sim_relation.Shared.{Slot, SlotAt, SharedHolds}
use Rattle.oa_simulation.specs.sim_relation.Callers.{Own, Known, Shown}

pub residents_apart : (t : Plan) (s : Shared) (x y : ℕ) → Resident t s x → Resident t s y → Apart t x y
residents_apart t s x y p q e = sym p ∙ (ap s.present e ∙ q)

-- by a slot's owner
pub slot_by : (s : Shared) (j : ℕ) (o : Owner) → s.owner j ≡ o → SlotAt s j → Slot o (s.memory (Status j)) (s.present j) (s.tag (s.present j)) (has (s.present j) s.source.retired) (s.public (s.present j))
slot_by s j o is slot = subst (λ (owner : Owner). Slot owner (s.memory (Status j)) (s.present j) (s.tag (s.present j)) (has (s.present j) s.source.retired) (s.public (s.present j))) is slot

-- slot 0 has no name
pub none_there : (t : Plan) (s : Shared) → SharedHolds t s → s.present 0 ≡ 0
none_there t s f = (slot_by s 0 Null f.none_there (f.slot 0)).1

pub null_resident : (t : Plan) (s : Shared) (n : ℕ) → t.home 0 ≡ 0 → SharedHolds t s → n ≡ 0 → Resident t s n
null_resident t s n null_home f z = ap (λ (i : ℕ). s.present (t.home i)) z ∙ (ap s.present null_home ∙ (none_there t s f ∙ sym z))

-- a resident name other than null has a slot other than 0
pub has_slot_of : (t : Plan) (s : Shared) (n : ℕ) → SharedHolds t s → Resident t s n → n ≢ 0 → t.home n ≢ 0
has_slot_of t s n f r some z = some (sym r ∙ (ap s.present z ∙ none_there t s f))

-- if a hazard word is 0, its guard protects nothing
pub unprotected : (t : Plan) (s : Shared) (c r : ℕ) → SharedHolds t s → s.memory (Hazard c r) ≡ 0 → s.protects c r ≡ 0
unprotected t s c r f z = ⊎_elim
    (λ (is : s.protects c r ≡ 0). is)
    (λ (some : s.protects c r ≢ 0). let g = f.guard c r some in absurd (has_slot_of t s (s.protects c r) f g.resident some (sym g.word ∙ z)))
    (cases_eq (s.protects c r) 0)

-- a name in a cradle isn't published
pub own_private : (t : Plan) (s : Shared) (d k n : ℕ) → SharedHolds t s → s.owner (t.home n) ≡ Held d k → Resident t s n → s.public n ≡ false
own_private t s d k n f held here = ap s.public (sym here) ∙ (slot_by s (t.home n) (Held d k) held (f.slot (t.home n))).2

pub null_private : (t : Plan) (s : Shared) → t.home 0 ≡ 0 → SharedHolds t s → s.public 0 ≡ false
null_private t s null_home f = of (s.public 0) refl where
  of : (b : Bool) → s.public 0 ≡ b → b ≡ false
  of true is = absurd (f.placed 0 is null_home)
  of false is = refl

-- ---- a step leaves a caller's own names, and what was published: its own step, or another's

pub record KeepsNames (c : ℕ) (s s' : Shared) : Type 0 where
  pub held : (j k : ℕ) → s.owner j ≡ Held c k → (s'.owner j ≡ Held c k) × (s'.present j ≡ s.present j)
  pub public : (n : ℕ) → s.public n ≡ true → s'.public n ≡ true

pub own_kept : (t : Plan) (c : ℕ) (s s' : Shared) (n : ℕ) → KeepsNames c s s' → Own t s c n → Own t s' c n
own_kept t c s s' n keeps own = let h = keeps.held (t.home n) own.0 own.1 in (own.0, h.0, h.1 ∙ own.2)

pub known_kept : (t : Plan) (c : ℕ) (s s' : Shared) (n : ℕ) → KeepsNames c s s' → Known t s c n → Known t s' c n
known_kept t c s s' n keeps (inl z) = inl z
known_kept t c s s' n keeps (inr (inl public)) = inr (inl (keeps.public n public))
known_kept t c s s' n keeps (inr (inr own)) = inr (inr (own_kept t c s s' n keeps own))

pub shown_kept : (s s' : Shared) (n : ℕ) → ((n : ℕ) → s.public n ≡ true → s'.public n ≡ true) → Shown s n → Shown s' n
shown_kept s s' n stays (inl z) = inl z
shown_kept s s' n stays (inr public) = inr (stays n public)

-- what is known of its own names stays so, too: no other name comes to a cradle
pub made_kept : (t : Plan) (c : ℕ) (s s' : Shared) (P : ℕ → Type 0) (n : ℕ) → t.home 0 ≡ 0 → KeepsNames c s s' → SharedHolds t s' → Known t s c n → ((k : ℕ) → s.owner (t.home n) ≡ Held c k → Resident t s n → P k)
    → (k : ℕ) → s'.owner (t.home n) ≡ Held c k → Resident t s' n → P k
made_kept t c s s' P n null_home keeps f' (inl z) made k held here = absurd (let e : Null ≡ Held c k = sym f'.none_there ∙ (ap s'.owner (sym (ap t.home z ∙ null_home)) ∙ held) in cc)
made_kept t c s s' P n null_home keeps f' (inr (inl public)) made k held here = absurd (let e : true ≡ false = sym (keeps.public n public) ∙ own_private t s' c k n f' held here in cc)
made_kept t c s s' P n null_home keeps f' (inr (inr own)) made k held here =
    let was = keeps.held (t.home n) own.0 own.1 in
    let same : k ≡ own.0 = (let e : Held c k ≡ Held c own.0 = sym held ∙ was.0 in cc) in subst P (sym same) (made own.0 own.1 own.2)
