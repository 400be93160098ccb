-- What an optimistic caller has under its validated guards is at hand, and what it links is apart from the rest that it has there.
use Rattle.std.proofs.Common.{ℕ, ◌≡◌, ◌≢◌, ◌⊎◌, ◌∙◌, Bool, true, false, inl, inr, ⊎_elim, sym, ap, subst}
use Rattle.oa_simulation.specs.sim_relation.Views.{Plan, Held, Shared, link, Resident, Apart}
use Rattle.oa_simulation.specs.sim_relation.Shared.{SharedHolds}
use Rattle.oa_simulation.proofs.sim_steps.Exchanges.Exchanging.{IsAtHand, hand_resident}

-- null, or under a validated guard of the run
pub data IsUnder (s : Shared) (c : ℕ) (own : ℕ → Bool) (n : ℕ) : Type 0 where
  null : n ≡ 0 → IsUnder s c own n
  under : (r : ℕ) → own r ≡ false → s.protects c r ≡ n → n ≢ 0 → IsUnder s c own n

pub under_at_hand : (t : Plan) (s : Shared) (c : ℕ) (own : ℕ → Bool) (n : ℕ) → SharedHolds t s → IsUnder s c own n → IsAtHand t s c n
under_at_hand t s c own n f (null z) = inl z
under_at_hand t s c own n f (under r free is some) = inr (
  subst (λ (i : ℕ). Resident t s i) is (f.guard c r (λ z. some (sym is ∙ z))).resident,
  subst (λ (i : ℕ). (s.public i ≡ true) ⊎ ((k : ℕ) × (s.owner (t.home i) ≡ Held c k))) is (f.mine c r (λ z. some (sym is ∙ z))),
)

pub under_resident : (t : Plan) (s : Shared) (c : ℕ) (own : ℕ → Bool) (n : ℕ) → t.home 0 ≡ 0 → SharedHolds t s → IsUnder s c own n → Resident t s n
under_resident t s c own n null_home f is = hand_resident t s c n null_home f (under_at_hand t s c own n f is)

-- the content of what is guarded is told by its word from what is guarded
abbrev pub AreTold : Plan → Shared → ℕ → (ℕ → Bool) → Type 0
AreTold t s c own = (o e g : ℕ) → own o ≡ false → s.protects c o ≢ 0 → s.protects c e ≢ 0 → Apart t (link s (s.protects c o) g) (s.protects c e)

pub content_apart : (t : Plan) (s : Shared) (c : ℕ) (own : ℕ → Bool) (o e g : ℕ) → t.home 0 ≡ 0 → SharedHolds t s → AreTold t s c own
    → IsUnder s c own o → o ≢ 0 → IsUnder s c own e → Apart t (link s o g) e
content_apart t s c own o e g null_home f told (null z) some ue = absurd (some z)
content_apart t s c own o e g null_home f told (under r free is _) some (null z) = λ same. ⊎_elim
    (λ (l : link s o g ≡ 0). l ∙ sym z)
    (λ (p : s.public (link s o g) ≡ true). absurd (f.placed (link s o g) p (same ∙ (ap t.home z ∙ null_home))))
    (f.store.link o g)
content_apart t s c own o e g null_home f told (under r free is _) some (under q free' is' some') =
    subst (λ (n : ℕ). Apart t (link s n g) e) is (subst (λ (n : ℕ). Apart t (link s (s.protects c r) g) n) is' (told r q g free (λ z. some (sym is ∙ z)) (λ z. some' (sym is' ∙ z))))
