-- Stores in the own warning word, and what they leave of what is known.
use Rattle.std.proofs.Common.{ℕ, ◌≡◌, ◌≢◌, ◌==◌, ◌≤◌, ◌<◌, ◌∙◌, true, false, List, arith, ⊎_elim, sym, ap, subst, refl, zero, suc, ◌⊎◌, inl, inr}
use Rattle.std.proofs.lemmas.Bool.{cases_eq}
use Rattle.std.specs.Prelude.{slice_index}
use Rattle.caller_steps.specs.Entries.{cradle_of}
use Rattle.std.proofs.lemmas.Bool.Decides.{eqb_tells}
use Rattle.oa_words.specs.Words.{Phase, Warning}
use Rattle.oa_words.specs.Memories.{store}
use Rattle.source_machine.specs.Proper.{has}
use Rattle.source_machine.specs.MethodRuns.{put}
use Rattle.source_machine.proofs.Places.{put_other}
use Rattle.oa_simulation.specs.sim_relation.Views.{Plan, Shared, Held, Resident}
use Rattle.oa_simulation.proofs.sim_relation.Words.{each_warning}
use Rattle.epoch_relation.specs.Reckoned.{reckoned_at, reckoned_words, reckoned, EpochHolds}
use Rattle.epoch_relation.specs.Callers.{Caller, Base, IsAnnounced, Changes}
use Rattle.epoch_relation.specs.Laws.{SafeIsResident, RegistersAreResident}
use Rattle.norm_lang.specs.Registers.{node_in}
use Rattle.oa_simulation.proofs.sim_relation.Names.{null_resident}
use Rattle.oa_simulation.proofs.sim_steps.Pools.Phases.{fine_risen, goes_risen}
use Rattle.epoch_relation.proofs.Rising.{own_risen}

-- a caller stores a word in its own warning word
abbrev pub owned : Shared → ℕ → ℕ → Shared
owned s c p = record s { memory = store s.memory (Warning c) p }

abbrev pub since_now : Shared → (ℕ → ℕ) → ℕ → ℕ → ℕ
since_now s since c = put since c (s.memory Phase)

-- the store of an announced phase that was loaded before, or of 0
pub fine_owned : (t : Plan) (s : Shared) (since : ℕ → ℕ) (c p : ℕ) → p ≤ s.memory Phase → EpochHolds t s since → EpochHolds t (owned s c p) (since_now s since c)
fine_owned t s since c p le f = record {
  holds = fine_risen t (reckoned s since) (reckoned_words (store s.memory (Warning c) p) (since_now s since c)) (own_risen s.memory since c p f.holds.warning) f.holds;
  announced = λ d. ⊎_elim
      (λ (e : ((d == c) ≡ true) × (d ≡ c)). rw e.0 le)
      (λ (e : ((d == c) ≡ false) × (d ≢ c)). rw e.0 (f.announced d))
      (eqb_tells d c);
  begun = f.begun;
  unguarded = f.unguarded;
}

pub goes_owned : (t : Plan) (s : Shared) (since : ℕ → ℕ) (c p : ℕ) → EpochHolds t s since → Changes t c s since (owned s c p) (since_now s since c)
goes_owned t s since c p f = record {
  goes = goes_risen t (reckoned s since) (reckoned_words (store s.memory (Warning c) p) (since_now s since c)) (own_risen s.memory since c p f.holds.warning) c;
  warning = λ d ne. each_warning (λ i w. i ≢ c → w ≡ s.memory (Warning i)) s.memory c p (λ no. absurd (no refl)) (λ i ne no. refl) d ne;
  stays = λ d ne. put_other since c d (s.memory Phase) ne;
  retired = λ n is. is;
}

-- an announcement: whatever was tagged until now was retired before it
pub base_announced : (t : Plan) (s : Shared) (since : ℕ → ℕ) (c p : ℕ) (x x' : Caller) → EpochHolds t s since → Base t s since c x → x'.entry.number ≡ x.entry.number → x'.entry.cradles ≡ x.entry.cradles → x'.old ≡ s.source.retired
    → Base t (owned s c p) (since_now s since c) c x'
base_announced t s since c p x x' f b number cradles old = record {
  number = number ∙ b.number;
  old = λ some n q is lt. subst_old n (f.holds.tagged n q is);
  before = λ n is. before n is;
  cradle = λ k. cradle k;
} where
  subst_old : (n : ℕ) → has n s.source.retired ≡ true → has n x'.old ≡ true
  subst_old n is = ap (λ (l : List ℕ). has n l) old ∙ is

  before : (n : ℕ) → has n x'.old ≡ true → has n s.source.retired ≡ true
  before n is = sym (ap (λ (l : List ℕ). has n l) old) ∙ is

  cradle : (k : ℕ) → cradle_of x'.entry k ≢ 0 → s.owner (cradle_of x'.entry k) ≡ Held c k
  cradle k some =
      let same : cradle_of x'.entry k ≡ cradle_of x.entry k = ap (λ (l : List ℕ). slice_index l k) cradles in
      ap s.owner same ∙ b.cradle k (λ z. some (same ∙ z))

-- ---- what is known of another caller stays

pub since_below : (word since phase : ℕ) → word ≢ 0 → reckoned_at word since phase ≤ phase → since ≤ phase
since_below zero since phase some le = absurd (some refl)
since_below (suc p) since phase some le = le

pub stable_base : (t : Plan) (c d : ℕ) (s : Shared) (since : ℕ → ℕ) (s' : Shared) (since' : ℕ → ℕ) (x : Caller) → Changes t c s since s' since' → EpochHolds t s since → d ≢ c → Base t s since d x → Base t s' since' d x
stable_base t c d s since s' since' x g f ne b = record {
  number = b.number;
  old = λ some n p is lt. ⊎_elim
      (λ was. b.old (λ z. some (g.warning d ne ∙ z)) n p was (subst (λ (k : ℕ). p < k) (g.stays d ne) lt))
      (λ le. absurd (let some' : s.memory (Warning d) ≢ 0 = λ z. some (g.warning d ne ∙ z) in
      let up : since d ≤ s.memory Phase = since_below (s.memory (Warning d)) (since d) (s.memory Phase) some' (f.holds.warning d) in
      let lt' : p < since d = subst (λ (k : ℕ). p < k) (g.stays d ne) lt in
      let le' : s.memory Phase ≤ p = le in omega (arith, up, lt', le')))
      (g.goes.tag n p is);
  before = λ n is. g.retired n (b.before n is);
  cradle = λ k some. (g.goes.held (cradle_of x.entry k) d k ne (b.cradle k some)).0;
}

-- ---- what an announced caller may hold is resident

announced_at : (word since phase : ℕ) → word ≢ 0 → reckoned_at word since phase ≡ since
announced_at zero since phase some = absurd (some refl)
announced_at (suc p) since phase some = refl

-- a published name that was retired after the announcement, or not at all
pub safe_resident : (t : Plan) (s : Shared) (since : ℕ → ℕ) (d : ℕ) (x : Caller) (n : ℕ) → EpochHolds t s since → Base t s since d x → d < t.setting.sizes.callers → IsAnnounced s d → s.public n ≡ true → has n x.old ≡ false → Resident t s n
safe_resident t s since d x n f b lt some public new = of (cases_eq (s.present (t.home n)) n) where
  of : (s.present (t.home n) ≡ n) ⊎ (s.present (t.home n) ≢ n) → Resident t s n
  of (inl here) = here
  of (inr away) =
      let tagged = f.holds.public n public away in
      let gone = f.holds.gone n tagged.0 d tagged.1 away lt in
      let below : tagged.0 < since d = subst (λ (k : ℕ). tagged.0 < k) (announced_at (s.memory (Warning d)) (since d) (s.memory Phase) some) gone in
      let clash : false ≡ true = sym new ∙ b.old some n tagged.0 tagged.1 below in
      absurd (let z : false ≡ true = clash in cc)

-- whatever it may hold
pub safe_is_resident : SafeIsResident
safe_is_resident t s since d x n null f b lt some (inl z) = null_resident t (reckoned s since) n null f.holds z
safe_is_resident t s since d x n null f b lt some (inr (inl own)) = own.2
safe_is_resident t s since d x n null f b lt some (inr (inr public)) = safe_resident t s since d x n f b lt some public.0 public.1

-- so whatever the registers of a method run name
pub registers_are_resident : RegistersAreResident
registers_are_resident t s since d x null f b lt run r = safe_is_resident t s since d x (node_in run.0.mirror r) null f b lt run.4 (run.1.safe r)
