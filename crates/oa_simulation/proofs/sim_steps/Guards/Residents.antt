-- What a run has got, and all that it reaches, is resident while its caller isn't warned. No induction over steps: it
-- follows from the other facts.
use Rattle.std.proofs.Common.{ℕ, ◌≡◌, ◌≢◌, ◌<◌, ◌⊎◌, ◌∙◌, true, false, arith, inl, inr, ⊎_elim, sym, ap, subst, refl}
use Rattle.std.proofs.lemmas.Bool.{cases_eq}
use Rattle.norm_lang.specs.declared.text.Reg.TheVariants.{Ref}
use Rattle.norm_lang.specs.Registers.{node_in}
use Rattle.oa_words.specs.Words.{Warning}
use Rattle.source_machine.specs.Proper.{has, Reaches, itself, onward}
use Rattle.source_machine.specs.MethodRuns.{name_in}
use Rattle.target_code.proofs.Keeping.{keeps_is_kept}
use Rattle.target_code.specs.Keeping.{keeps}
use Rattle.target_laws.specs.Trusted.{trust_along}
use Rattle.run_ahead.specs.Ahead.{IsHoped}
use Rattle.run_ahead.specs.Known.{IsGot, IsNameKept}
use Rattle.run_ahead.specs.Following.{Walk}
use Rattle.run_ahead.proofs.Names.{hoped_are_known}
use Rattle.oa_simulation.specs.sim_relation.Views.{Plan, Shared, Caller, link, Resident}
use Rattle.oa_simulation.specs.sim_relation.Shared.{SharedHolds}
use Rattle.oa_simulation.specs.sim_relation.Callers.{Known, Calm, Base, Trail, Gets, KeepsGuards, spared}
use Rattle.oa_simulation.specs.sim_relation.Allowing.{IsProperFor}
use Rattle.oa_simulation.proofs.sim_relation.Names.{null_resident}

-- all that is reachable is null, published, or the caller's own
pub reach_known : (t : Plan) (s : Shared) (c : ℕ) → SharedHolds t s → (n other : ℕ) → Known t s c n → Reaches s.source n other → Known t s c other
reach_known t s c f n other known (itself _) = known
reach_known t s c f n other known (onward _ next _ points rest) =
    let is : link s n points.0 ≡ next = ap name_in points.2 in
    reach_known t s c f next other (⊎_elim (λ (z : link s n points.0 ≡ 0). inl (sym is ∙ z)) (λ (p : s.public (link s n points.0) ≡ true). inr (inl (ap s.public (sym is) ∙ p))) (f.store.link n points.0)) rest

pub resident : (t : Plan) (s : Shared) (c : ℕ) (x : Caller) → t.home 0 ≡ 0 → SharedHolds t s → Base t s c x → c < t.setting.sizes.callers → Calm s c x → IsProperFor s x
    → (n other : ℕ) → has n x.held.got ≡ true → Reaches s.source n other → Resident t s other
resident t s c x null_home f b lt calm proper n other got reach = of (cases_eq (s.present (t.home other)) other) (reach_known t s c f n other (b.known n got) reach) where
  of : (s.present (t.home other) ≡ other) ⊎ (s.present (t.home other) ≢ other) → Known t s c other → Resident t s other
  of (inl here) k = here
  of (inr away) (inl null) = null_resident t s other null_home f null
  of (inr away) (inr (inl public)) =
      let tagged = f.public other public away in
      let same : x.entry.hand.seen ≡ s.memory (Warning c) = calm in
      let below : tagged.0 < x.entry.hand.seen = omega (arith, f.gone other tagged.0 c tagged.1 away lt, same) in
      absurd (let clash : true ≡ false = sym (b.old other tagged.0 tagged.1 below) ∙ proper n other got reach in cc)
  of (inr away) (inr (inr own)) = own.2

-- a guard that is validated protects its name
pub protects_name : (t : Plan) (s : Shared) (c : ℕ) (x : Caller) (r : ℕ) → Base t s c x → x.names.valid r ≡ true → s.protects c r ≡ x.names.name r
protects_name t s c x r b valid = b.protects r ∙ rw valid refl

pub kept_resident : (t : Plan) (s : Shared) (c : ℕ) (x : Caller) (walk : Walk t.target t.text) (r : ℕ) → t.home 0 ≡ 0 → SharedHolds t s → Base t s c x → KeepsGuards t x walk → spared t walk r ≡ true → Resident t s (node_in walk.started r)
kept_resident t s c x walk r null_home f b kept is = let k = kept r is in subst (λ (n : ℕ). Resident t s n) k.0 (⊎_elim
    (λ (v : x.names.valid r ≡ true). named (protects_name t s c x r b v) (cases_eq (x.names.name r) 0))
    (λ (z : x.names.name r ≡ 0). null_resident t s (x.names.name r) null_home f z)
    k.1)
  where
    named : s.protects c r ≡ x.names.name r → (x.names.name r ≡ 0) ⊎ (x.names.name r ≢ 0) → Resident t s (x.names.name r)
    named p (inl z) = null_resident t s (x.names.name r) null_home f z
    named p (inr some) = subst (λ (n : ℕ). Resident t s n) p (f.guard c r (λ z. some (sym p ∙ z))).resident

-- what a passed check speaks of is resident
pub hoped_resident : (t : Plan) (s : Shared) (c : ℕ) (x : Caller) (m : Trail t) → t.home 0 ≡ 0 → SharedHolds t s → Base t s c x → c < t.setting.sizes.callers → Calm s c x → IsProperFor s x
    → (m.walk.method.wrapup ≡ false → (r : ℕ) → node_in m.walk.started r ≡ 0) → KeepsGuards t x m.walk → Gets t s c x m
    → (n : ℕ) → IsHoped (trust_along m.walk.method m.path) m.mirror n → Resident t s n
hoped_resident t s c x m null_home f b lt calm proper blank kept gets n hoped = of (hoped_are_known t.target t.text m.walk.method m.path m.walk.started m.mirror x.held.got blank gets.got n hoped) where
  of : IsGot x.held.got n ⊎ IsNameKept m.walk.method m.walk.started m.mirror n → Resident t s n
  of (inl (inl z)) = null_resident t s n null_home f z
  of (inl (inr among)) = resident t s c x null_home f b lt calm proper n n among (itself n)
  of (inr k) =
      let wrap : m.walk.method.wrapup ≡ true = k.0 in
      let bit : keeps m.walk.method.op (Ref k.1.0) ≡ true = (keeps_is_kept m.walk.method.op (Ref k.1.0)).1 k.1.1 in
      subst (λ (i : ℕ). Resident t s i) k.1.3 (kept_resident t s c x m.walk k.1.0 null_home f b kept (rw (wrap, bit) refl))
