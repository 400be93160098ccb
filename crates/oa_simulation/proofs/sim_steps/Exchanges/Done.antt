-- What is shared after an exchange that succeeds in both machines: an auxiliary one, or one of a list, which publishes the name that it puts there.
use Rattle.std.proofs.Common.{ℕ, zero, suc, ◌≡◌, ◌≢◌, ◌⊎◌, ◌∙◌, true, false, Some, None, arith, inl, inr, ⊎_elim, sym, ap, subst, refl}
use Rattle.std.proofs.lemmas.Bool.{or_parts, cases_eq}
use Rattle.norm_lang.specs.declared.text.Reg.TheVariants.{Ref}
use Rattle.norm_lang.specs.declared.text.Place.{Place}
use Rattle.norm_lang.specs.declared.text.Place.TheVariants as places
use Rattle.norm_lang.specs.declared.text.CasEntry.{CasEntry}
use Rattle.norm_lang.specs.declared.text.FieldKind.{FieldKind}
use Rattle.norm_lang.specs.declared.registers.Registers.{Registers}
use Rattle.norm_lang.specs.Registers.{reference_in, node_in}
use Rattle.norm_lang.specs.InstructionRules.{place_kind, is_unlike, has_wrong_object, has_wrong_operand, is_stranger}
use Rattle.oa_words.specs.Words.{Hazard}
use Rattle.source_machine.specs.declared.state.Memory.{Memory}
use Rattle.source_machine.specs.declared.state.Value.{Value}
use Rattle.source_machine.specs.Memory.{value_in, exchange, with_name_retired}
use Rattle.source_machine.specs.Proper.{has, IsOnce}
use Rattle.source_machine.proofs.Names.{has_push, has_last}
use Rattle.source_machine.proofs.Places.{put_same, put_other}
use Rattle.source_machine.specs.MethodRuns.{name_in}
use Rattle.caller_parts.specs.Operands.{to_retire}
use Rattle.run_ahead.specs.Typed.{IsTyped, IsRegisterFor}
use Rattle.run_ahead.proofs.TypedMemory.{register_for, exchange_typed}
use Rattle.oa_simulation.specs.sim_relation.Views.{Plan, Held, Living, Retiring, Shared, Resident}
use Rattle.oa_simulation.specs.sim_relation.Shared.{SharedHolds}
use Rattle.oa_simulation.specs.sim_relation.Callers.{IsRetiring, Shown}
use Rattle.oa_simulation.specs.sim_relation.MayChange.{MayChange}
use Rattle.oa_simulation.proofs.sim_relation.Names.{residents_apart, has_slot_of}
use Rattle.oa_simulation.proofs.sim_relation.Stable.{LeavesGuards}
use Rattle.oa_simulation.proofs.sim_steps.Pools.Slots.{apart}
use Rattle.oa_simulation.proofs.sim_steps.Exchanges.Exchanging.{IsAtHand, hand_resident, Offers}
use Rattle.oa_simulation.proofs.sim_steps.Exchanges.Entering.{Writes, published_if, publishes, public_still, public_now, owner_still, living}
use Rattle.oa_simulation.proofs.sim_steps.Exchanges.Writing.{dropped, fine_dropped, goes_dropped, goes_compose}
use Rattle.oa_simulation.proofs.sim_steps.Exchanges.Placing.{place_memory, placed, PlaceThere, place_there, place_writes, Makes, makes, to_drop, once_new, typed_before}
use Rattle.oa_simulation.proofs.sim_steps.Exchanges.Dropping.{Drops, drops, untagged}

-- ---- what is published, and where

-- what is at hand stays so if a name at hand is published
hand_published : (t : Plan) (s : Shared) (c n o : ℕ) → IsAtHand t s c n → IsAtHand t s c o → IsAtHand t (published_if t s n) c o
hand_published t s c n o new (inl z) = inl z
hand_published t s c n o new (inr known) = inr (known.0, of known.1 new) where
  there : (n ≢ 0 → t.home o ≢ t.home n) → (i : ℕ) × (s.owner (t.home o) ≡ Held c i) → (i : ℕ) × ((published_if t s n).owner (t.home o) ≡ Held c i)
  there away mine = (mine.0, owner_still t s n (t.home o) away ∙ mine.1)

  by_slot : n ≢ 0 → Resident t s n → (i : ℕ) × (s.owner (t.home o) ≡ Held c i) → ((published_if t s n).public o ≡ true) ⊎ ((i : ℕ) × ((published_if t s n).owner (t.home o) ≡ Held c i))
  by_slot some here mine = ⊎_elim
      (λ (same : t.home o ≡ t.home n). inl (subst (λ (i : ℕ). (published_if t s n).public i ≡ true) (sym (residents_apart t s o n known.0 here same)) (public_now t s n some)))
      (λ (ne : t.home o ≢ t.home n). inr (there (λ a. ne) mine))
      (cases_eq (t.home o) (t.home n))

  of : (s.public o ≡ true) ⊎ ((i : ℕ) × (s.owner (t.home o) ≡ Held c i)) → IsAtHand t s c n → ((published_if t s n).public o ≡ true) ⊎ ((i : ℕ) × ((published_if t s n).owner (t.home o) ≡ Held c i))
  of (inl public) given = inl (public_still t s n o public)
  of (inr mine) (inl z) = inr (there (λ some. absurd (some z)) mine)
  of (inr mine) (inr given) = ⊎_elim (λ (z : n ≡ 0). inr (there (λ some. absurd (some z)) mine)) (λ (some : n ≢ 0). by_slot some given.0 mine) (cases_eq n 0)

there_published : (t : Plan) (s : Shared) (n c : ℕ) (mirror : Registers) (p : Place) → IsAtHand t s c n → PlaceThere t s c mirror p → PlaceThere t (published_if t s n) c mirror p
there_published t s n c mirror (places.Root z) new there = there
there_published t s n c mirror (places.Field a f) new there = (hand_published t s c n (reference_in mirror a).node new there.0, there.1, there.2)

-- ---- the exchange

-- what holds before it; `p` is the name that it publishes, or null for none
pub record Tried (t : Plan) (s : Shared) (c : ℕ) (core mirror : Registers) (entry : CasEntry) (p : ℕ) (after : Memory) : Type 0 where
  pub null : t.home 0 ≡ 0
  pub shared_holds : SharedHolds t s
  pub offers : Offers t s c core mirror entry
  pub right : has_wrong_operand t.text.fields t.text.roots entry ≡ false
  pub publishes : IsAtHand t s c p
  pub known : (name_in (value_in mirror entry.replacement) ≡ 0) ⊎ ((published_if t s p).public (name_in (value_in mirror entry.replacement)) ≡ true)
  pub object : (r f : ℕ) → entry.place ≡ places.Field (Ref r) f → Shown s (node_in mirror r)
  pub kin : is_stranger entry entry.retire ≡ false
  pub makes : exchange t.text.fields entry mirror s.source ≡ Some after
  -- no name is retired twice by it, since the text is proper
  pub once : IsOnce after.retired

pub record Done (t : Plan) (s s' : Shared) (c : ℕ) (core mirror : Registers) (entry : CasEntry) (p : ℕ) : Type 0 where
  pub shared_holds : SharedHolds t s'
  pub goes : MayChange t c s s'
  pub makes : exchange t.text.fields entry mirror s.source ≡ Some s'.source
  pub memory : s'.memory ≡ place_memory t s.memory mirror entry.place (value_in mirror entry.replacement)
  pub unused : s'.unused ≡ s.unused
  pub present : s'.present ≡ s.present
  pub tag : s'.tag ≡ s.tag
  pub left : LeavesGuards t c s s'
  pub hazard : (r : ℕ) → s'.memory (Hazard c r) ≡ s.memory (Hazard c r)
  pub protects : s'.protects ≡ s.protects
  pub public : p ≢ 0 → s'.public p ≡ true
  -- a slot of another name stays in its cradle
  pub owns : (j k : ℕ) → (p ≢ 0 → j ≢ t.home p) → s.owner j ≡ Held c k → s'.owner j ≡ Held c k
  pub retired : (n : ℕ) → has n s.source.retired ≡ true → has n s'.source.retired ≡ true
  -- what it newly retires is in the slot to retire
  pub retires : (n : ℕ) → has n s'.source.retired ≡ true → (has n s.source.retired ≡ true) ⊎ ((to_retire entry.retire core ≡ t.home n) × (t.home n ≢ 0))

module _ (t : Plan) (s : Shared) (c : ℕ) (core mirror : Registers) (entry : CasEntry) (p : ℕ) (after : Memory) (w : Tried t s c core mirror entry p after) where
  abbrev v : Value
  v = value_in mirror entry.replacement

  -- both machines, but for what it retires
  abbrev s1 : Shared
  s1 = placed t (published_if t s p) mirror entry.place (value_in mirror entry.replacement)

  kind : (kind : FieldKind) × (place_kind t.text.fields t.text.roots entry.place ≡ Some kind) × IsRegisterFor kind entry.expected
  kind = register_for (place_kind t.text.fields t.text.roots entry.place) entry.expected (or_parts (is_unlike (place_kind t.text.fields t.text.roots entry.place) entry.expected) _ (or_parts (has_wrong_object entry.place) _ w.right).1).0

  made : Makes t s mirror entry after
  made = makes t s mirror entry after w.makes

  typed : IsTyped t.text after
  typed = exchange_typed t.text entry mirror s.source after w.right w.offers.asked w.makes w.shared_holds.typed

  up : SharedHolds t (published_if t s p) × MayChange t c s (published_if t s p)
  up = publishes t s c p w.shared_holds w.publishes

  writes : Writes t c (published_if t s p) (place_memory t s.memory mirror entry.place v) s1.source.nodes s1.source.roots
  writes = place_writes t (published_if t s p) c mirror entry.place v w.null up.0
      (there_published t s p c mirror entry.place w.publishes (place_there t s c core mirror (name_in (value_in mirror entry.expected)) entry.place kind.0 made.found w.shared_holds w.offers.place w.offers.inside kind.1 made.finds))
      (hand_resident t s c (name_in v) w.null w.shared_holds w.offers.new) w.known
      (typed_before t.text (to_drop entry.retire mirror) (placed t s mirror entry.place v).source (subst (λ (memory : Memory). IsTyped t.text memory) made.after_is typed))

  goes : MayChange t c s s1
  goes = goes_compose t c s (published_if t s p) s1 up.1 writes.goes writes.links (λ r. refl)

  dropping : Drops t s core mirror entry.retire
  dropping = drops t s c core mirror entry made.found w.null w.shared_holds w.offers made.finds made.same w.object w.kin

  -- it retires nothing
  leaves : to_drop entry.retire mirror ≡ 0 → Done t s s1 c core mirror entry p
  leaves none = record {
    shared_holds = writes.shared_holds;
    goes = goes;
    makes = w.makes ∙ ap Some (made.after_is ∙ ap (λ (n : ℕ). with_name_retired n s1.source) none);
    memory = refl;
    unused = refl;
    present = refl;
    tag = refl;
    left = record { warning = writes.warning c; protects = λ r. refl; links = writes.links; public = λ n is. public_still t s p n is };
    hazard = λ r. writes.hazard c r;
    protects = refl;
    public = λ some. public_now t s p some;
    owns = λ j k away held. owner_still t s p j away ∙ held;
    retired = λ n is. is;
    retires = λ n is. inl is;
  }

  -- it retires a name
  drops_one : (n : ℕ) → to_drop entry.retire mirror ≡ suc n → Done t s (dropped t s1 c (suc n)) c core mirror entry p × IsRetiring (dropped t s1 c (suc n)) c (t.home (suc n)) (suc n) None × (t.home (suc n) ≢ 0)
  drops_one n at = (
    record {
      shared_holds = fine_dropped t s1 c (suc n) writes.shared_holds full here alive public (subst (λ (memory : Memory). IsTyped t.text memory) after_is typed);
      goes = goes_compose t c s s1 (dropped t s1 c (suc n)) goes (goes_dropped t s1 c (suc n) alive) writes.links (λ r. refl);
      makes = w.makes ∙ ap Some after_is;
      memory = refl;
      unused = refl;
      present = refl;
      tag = refl;
      left = record { warning = writes.warning c; protects = λ r. refl; links = writes.links; public = λ i is. public_still t s p i is };
      hazard = λ r. writes.hazard c r;
      protects = refl;
      public = λ some. public_now t s p some;
      owns = λ j k away held. let still = owner_still t s p j away ∙ held in put_other s1.owner (t.home (suc n)) j (Retiring c) (apart s1 j (t.home (suc n)) (Held c k) Living still alive (λ z. cc)) ∙ still;
      retired = λ i was. has_push i s.source.retired (suc n) ∙ rw was refl;
      retires = λ i new. ⊎_elim (λ (was : has i s.source.retired ≡ true). inl was)
          (λ (now : i ≡ suc n). inr (dropping.slot ∙ (ap t.home at ∙ ap t.home (sym now)), (λ z. some (ap t.home (sym now) ∙ z)))) (has_last i (suc n) s.source.retired new);
    },
    record { owner = put_same s1.owner (t.home (suc n)) (Retiring c); present = here; tag_is = untagged t s1 (suc n) writes.shared_holds live },
    some,
  ) where
    full : suc n ≢ 0
    full z = let no : ⊥ = omega (arith, z) in no

    after_is : after ≡ (dropped t s1 c (suc n)).source
    after_is = made.after_is ∙ ap (λ (i : ℕ). with_name_retired i s1.source) at

    here : Resident t s (suc n)
    here = subst (λ (i : ℕ). Resident t s i) at dropping.here

    some : t.home (suc n) ≢ 0
    some = has_slot_of t s (suc n) w.shared_holds here full

    public : s1.public (suc n) ≡ true
    public = of (subst (λ (i : ℕ). Shown s i) at dropping.shown) where
      of : Shown s (suc n) → s1.public (suc n) ≡ true
      of (inl z) = let no : ⊥ = omega (arith, z) in absurd no
      of (inr was) = public_still t s p (suc n) was

    live : has (suc n) s.source.retired ≡ false
    live = once_new s.source.retired (suc n) (subst IsOnce (ap (λ (memory : Memory). memory.retired) after_is) w.once)

    alive : s1.owner (t.home (suc n)) ≡ Living
    alive = living t s1 (suc n) writes.shared_holds here full public live

  -- `Follows` holds of the slot to retire, if it does both when nothing is retired and when a name is
  pub by_retirement : (Follows : ℕ → Type 0) → ((s' : Shared) → Done t s s' c core mirror entry p → to_retire entry.retire core ≡ 0 → Follows 0)
      → ((s' : Shared) (j n : ℕ) → Done t s s' c core mirror entry p → IsRetiring s' c (suc j) n None → to_retire entry.retire core ≡ suc j → Follows (suc j)) → Follows (to_retire entry.retire core)
  by_retirement Follows none one = by_name (to_drop entry.retire mirror) refl where
    by_slot : (n j : ℕ) → Done t s (dropped t s1 c (suc n)) c core mirror entry p × IsRetiring (dropped t s1 c (suc n)) c (t.home (suc n)) (suc n) None × (t.home (suc n) ≢ 0) → t.home (suc n) ≡ j → to_retire entry.retire core ≡ j → Follows j
    by_slot n zero d at slot = absurd (d.2 at)
    by_slot n (suc j) d at slot = one (dropped t s1 c (suc n)) j (suc n) d.0 (subst (λ (i : ℕ). IsRetiring (dropped t s1 c (suc n)) c i (suc n) None) at d.1) slot

    by_name : (n : ℕ) → to_drop entry.retire mirror ≡ n → Follows (to_retire entry.retire core)
    by_name zero nothing = let slot : to_retire entry.retire core ≡ 0 = dropping.slot ∙ (ap t.home nothing ∙ w.null) in subst Follows (sym slot) (none s1 (leaves nothing) slot)
    by_name (suc n) at = let slot : to_retire entry.retire core ≡ t.home (suc n) = dropping.slot ∙ ap t.home at in subst Follows (sym slot) (by_slot n (t.home (suc n)) (drops_one n at) refl slot)
