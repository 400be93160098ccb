-- What an exchange retires: what it expects, or its object, of which both are resident.
use Rattle.std.proofs.Common.{ℕ, ◌≡◌, ◌==◌, ◌∙◌, ◌||◌, true, false, Option, Some, None, arith, inl, inr, sym, ap, subst, refl}
use Rattle.std.proofs.lemmas.Bool.{or_cases, not-false}
use Rattle.std.proofs.lemmas.Bool.Decides.{nat_tests}
use Rattle.norm_lang.specs.declared.text.Reg.{Reg}
use Rattle.norm_lang.specs.declared.text.Reg.TheVariants.{Num, Ref}
use Rattle.norm_lang.specs.declared.text.Place.{Place}
use Rattle.norm_lang.specs.declared.text.Place.TheVariants as places
use Rattle.norm_lang.specs.declared.text.CasEntry.{CasEntry}
use Rattle.norm_lang.specs.declared.registers.Registers.{Registers}
use Rattle.norm_lang.specs.InstructionRules.{is_stranger, is_object}
use Rattle.norm_lang.specs.RegisterUse.{same_register}
use Rattle.norm_lang.specs.Registers.{node_in}
use Rattle.source_machine.specs.declared.state.Value.{Value}
use Rattle.source_machine.specs.Memory.{value_in, found_at}
use Rattle.source_machine.specs.Proper.{has}
use Rattle.source_machine.specs.MethodRuns.{name_in}
use Rattle.caller_parts.specs.Operands.{to_retire}
use Rattle.run_ahead.specs.Agreeing.{Agree}
use Rattle.oa_simulation.specs.sim_relation.Views.{Plan, Shared, Resident}
use Rattle.oa_simulation.specs.sim_relation.Shared.{SharedHolds}
use Rattle.oa_simulation.specs.sim_relation.Callers.{Shown}
use Rattle.oa_simulation.proofs.sim_relation.Names.{null_resident}
use Rattle.oa_simulation.proofs.sim_steps.Exchanges.Exchanging.{hand_resident, PlaceOffered, Offers}
use Rattle.oa_simulation.proofs.sim_steps.Exchanges.Placing.{to_drop, found_shown}

-- the name that an exchange retires, null if none: the core's slot is its home, and it is resident, and null or published
pub record Drops (t : Plan) (s : Shared) (core mirror : Registers) (retire : Option Reg) : Type 0 where
  pub slot : to_retire retire core ≡ t.home (to_drop retire mirror)
  pub here : Resident t s (to_drop retire mirror)
  pub shown : Shown s (to_drop retire mirror)

same_is : (r : ℕ) (a : Reg) → same_register (Ref r) a ≡ true → a ≡ Ref r
same_is r (Num k) is = absurd (let z : false ≡ true = is in cc)
same_is r (Ref k) is = let e : (r == k) ≡ true = is in let same : k ≡ r = grind (arith, nat_tests, e) in ap Ref same

pub drops : (t : Plan) (s : Shared) (c : ℕ) (core mirror : Registers) (entry : CasEntry) (found : Value) → t.home 0 ≡ 0 → SharedHolds t s → Offers t s c core mirror entry
    → found_at t.text.fields entry.place mirror s.source ≡ Some found → name_in found ≡ name_in (value_in mirror entry.expected)
    → ((r f : ℕ) → entry.place ≡ places.Field (Ref r) f → Shown s (node_in mirror r)) → is_stranger entry entry.retire ≡ false → Drops t s core mirror entry.retire
drops t s c core mirror entry found null_home f w finds same object right = by_retire entry.retire right where
  of_expected : (r : ℕ) → entry.expected ≡ Ref r → Drops t s core mirror (Some (Ref r))
  of_expected r is =
      let name : name_in (value_in mirror entry.expected) ≡ node_in mirror r = ap (λ (a : Reg). name_in (value_in mirror a)) is in
      let agree : Agree t.home core mirror (Ref r) = subst (λ (a : Reg). Agree t.home core mirror a) is w.expected in
      record {
        slot = agree.0;
        here = subst (λ (n : ℕ). Resident t s n) name w.resident;
        shown = subst (λ (n : ℕ). Shown s n) (same ∙ name) (found_shown t s mirror entry.place found f finds);
      }

  of_object : (r : ℕ) (p : Place) → entry.place ≡ p → is_object (Ref r) p ≡ true → PlaceOffered t s c core mirror (name_in (value_in mirror entry.expected)) p → Drops t s core mirror (Some (Ref r))
  of_object r (places.Root z) is here place = absurd (let z : false ≡ true = here in cc)
  of_object r (places.Field a g) is here place =
      let named : a ≡ Ref r = same_is r a here in
      let place' : PlaceOffered t s c core mirror (name_in (value_in mirror entry.expected)) (places.Field (Ref r) g) =
      subst (λ (b : Reg). PlaceOffered t s c core mirror (name_in (value_in mirror entry.expected)) (places.Field b g)) named place in
      record {
        slot = place'.0.0;
        here = hand_resident t s c (node_in mirror r) null_home f place'.1;
        shown = object r g (is ∙ ap (λ (b : Reg). places.Field b g) named);
      }

  by_retire : (o : Option Reg) → is_stranger entry o ≡ false → Drops t s core mirror o
  by_retire None none = record { slot = sym null_home; here = null_resident t s 0 null_home f refl; shown = inl refl }
  by_retire (Some (Num r)) stranger = record { slot = sym null_home; here = null_resident t s 0 null_home f refl; shown = inl refl }
  by_retire (Some (Ref r)) stranger =
      elim (or_cases (same_register (Ref r) entry.expected) (is_object (Ref r) entry.place) (not-false (same_register (Ref r) entry.expected || is_object (Ref r) entry.place) stranger)) [
        | inl expected ↦ of_expected r (same_is r entry.expected expected)
        | inr objected ↦ of_object r entry.place refl objected w.place
      ]

-- a name that isn't retired has no tag
pub untagged : (t : Plan) (s : Shared) (n : ℕ) → SharedHolds t s → has n s.source.retired ≡ false → s.tag n ≡ None
untagged t s n f live = of (s.tag n) refl where
  of : (o : Option ℕ) → s.tag n ≡ o → s.tag n ≡ None
  of None is = is
  of (Some p) is = absurd (let z : true ≡ false = sym (f.tagged n p is) ∙ live in cc)
