-- What an exchange of an announced caller is given: its operands are resident, and so it succeeds exactly if the source's does.
use Rattle.std.proofs.Common.{ℕ, zero, suc, ◌≡◌, ◌∙◌, false, List, Some, inl, inr, sym, ap, refl}
use Rattle.std.specs.Prelude.{is_some}
use Rattle.std.proofs.lemmas.Bool.{or_parts}
use Rattle.norm_lang.specs.declared.text.CasEntry.{CasEntry}
use Rattle.norm_lang.specs.declared.text.FieldDecl.{FieldDecl}
use Rattle.norm_lang.specs.declared.text.FieldKind.{FieldKind}
use Rattle.norm_lang.specs.declared.text.Place.{Place}
use Rattle.norm_lang.specs.declared.text.Place.TheVariants as places
use Rattle.norm_lang.specs.declared.text.Reg.{Reg}
use Rattle.norm_lang.specs.declared.text.Reg.TheVariants.{Num, Ref}
use Rattle.norm_lang.specs.declared.text.Text.{Text}
use Rattle.norm_lang.specs.declared.registers.Registers.{Registers}
use Rattle.norm_lang.specs.InstructionRules.{place_kind, has_wrong_operand, has_wrong_object, is_unlike}
use Rattle.norm_lang.specs.KindFields.{place_of}
use Rattle.norm_lang.specs.Registers.{node_in}
use Rattle.oa_words.specs.Words.{Word}
use Rattle.phase_pools.specs.Accesses.{word_of}
use Rattle.source_machine.specs.Memory.{value_in, exchange}
use Rattle.source_machine.specs.MethodRuns.{name_in}
use Rattle.caller_parts.specs.Operands.{word_in, slot_in, succeeds}
use Rattle.caller_steps.specs.Wants.{object_exchange, place_exchange, exchange_wanted}
use Rattle.run_ahead.specs.Agreeing.{Agree}
use Rattle.run_ahead.specs.Typed.{IsRegisterFor, AreAskedBy}
use Rattle.run_ahead.proofs.TypedMemory.{register_for}
use Rattle.oa_simulation.specs.sim_relation.Views.{Plan, Shared, Apart, link, top}
use Rattle.oa_simulation.proofs.sim_steps.Exchanges.Exchanging.{IsAtHand, PlaceOffered, Offers, tests_agree}
use Rattle.oa_simulation.proofs.sim_steps.Exchanges.Offering.{same_kind, found_right, entry_object}
use Rattle.oa_simulation.proofs.sim_steps.Inside.{place_inside}
use Rattle.epoch_relation.specs.Reckoned.{reckoned_words, reckoned, EpochHolds}
use Rattle.epoch_relation.specs.Callers.{Caller, IsSafe}
use Rattle.epoch_relation.specs.Walking.{IsPlan}
use Rattle.epoch_relation.proofs.Local.{Standing, safe_here, safe_apart}

-- what an announced caller may hold is at hand
pub at_hand : (t : Plan) (s : Shared) (since : ℕ → ℕ) (d : ℕ) (x : Caller) (n : ℕ) → Standing t s since d x → IsSafe t s d x n → IsAtHand t s d n
at_hand t s since d x n st (inl z) = inl z
at_hand t s since d x n st (inr (inl own)) = inr (own.2, inr (own.0, own.1))
at_hand t s since d x n st (inr (inr public)) = inr (safe_here t s since d x n st (inr (inr public)), inl public.0)

pub registers_safe : (t : Plan) (s : Shared) (d : ℕ) (x : Caller) (mirror : Registers) (r : Reg) → ((i : ℕ) → IsSafe t s d x (node_in mirror i)) → IsSafe t s d x (name_in (value_in mirror r))
registers_safe t s d x mirror (Num r) safe = inl refl
registers_safe t s d x mirror (Ref r) safe = safe r

-- registers are safe, and what the place holds is apart from what is expected
pub offers : (t : Plan) (s : Shared) (since : ℕ → ℕ) (d : ℕ) (x : Caller) (mirror : Registers) (entry : CasEntry) → Standing t s since d x → ((r : Reg) → Agree t.home x.entry.hand.registers mirror r) → ((r : ℕ) → IsSafe t s d x (node_in mirror r)) → has_wrong_operand t.text.fields t.text.roots entry ≡ false
    → AreAskedBy t.text entry s.source.nodes mirror
    → ((z : ℕ) → entry.place ≡ places.Root z → IsSafe t s d x (top s z)) → ((r f : ℕ) → entry.place ≡ places.Field (Ref r) f → Apart t (link s (node_in mirror r) (place_of t.text.fields f)) (name_in (value_in mirror entry.expected)))
    → Offers t s d x.entry.hand.registers mirror entry
offers t s since d x mirror entry st agree safe right asked roots links = record {
  place = place entry.place refl;
  expected = agree entry.expected;
  replacement = agree entry.replacement;
  resident = safe_here t s since d x (name_in (value_in mirror entry.expected)) st (registers_safe t s d x mirror entry.expected safe);
  new = at_hand t s since d x (name_in (value_in mirror entry.replacement)) st (registers_safe t s d x mirror entry.replacement safe);
  asked = asked;
  fields = ap (λ (text : Text). text.fields) st.plan.erases;
  inside = place_inside t.text s.source mirror entry.place kind.0 st.holds.holds.typed (entry_object t.text entry s.source.nodes mirror asked) kind.1;
  alike = λ v found. same_kind s.source.nodes kind.0 v mirror entry.expected (found_right t.text s.source mirror entry.place kind.0 v st.holds.holds.typed (entry_object t.text entry s.source.nodes mirror asked) kind.1 found) kind.2;
} where
  kind : (kind : FieldKind) × (place_kind t.text.fields t.text.roots entry.place ≡ Some kind) × IsRegisterFor kind entry.expected
  kind = register_for (place_kind t.text.fields t.text.roots entry.place) entry.expected (or_parts (is_unlike (place_kind t.text.fields t.text.roots entry.place) entry.expected) _ (or_parts (has_wrong_object entry.place) _ right).1).0

  place : (p : Place) → entry.place ≡ p → PlaceOffered t s d x.entry.hand.registers mirror (name_in (value_in mirror entry.expected)) p
  place (places.Root z) is = safe_apart t s since d x (top s z) (name_in (value_in mirror entry.expected)) st (roots z is) (registers_safe t s d x mirror entry.expected safe)
  place (places.Field (Num a) f) is = ((sym st.plan.null, refl), inl refl, (λ some. absurd (some refl)))
  place (places.Field (Ref a) f) is = (agree (Ref a), at_hand t s since d x (node_in mirror a) st (safe a), (λ some. links a f is))

-- nothing of this is about words
pub reckoned_offers : (t : Plan) (s : Shared) (since : ℕ → ℕ) (d : ℕ) (core mirror : Registers) (entry : CasEntry) → Offers t s d core mirror entry → Offers t (reckoned s since) d core mirror entry
reckoned_offers t s since d core mirror entry w = record {
  place = of entry.place w.place;
  expected = w.expected;
  replacement = w.replacement;
  resident = w.resident;
  new = w.new;
  asked = w.asked;
  inside = w.inside;
  fields = w.fields;
  alike = w.alike;
} where
  of : (p : Place) → PlaceOffered t s d core mirror (name_in (value_in mirror entry.expected)) p → PlaceOffered t (reckoned s since) d core mirror (name_in (value_in mirror entry.expected)) p
  of (places.Root z) w = w
  of (places.Field a f) w = w

-- ---- a sweep reckons with the word of an exchange as it is

object_word : (memory : Word → ℕ) (since : ℕ → ℕ) (n f e r : ℕ) → reckoned_words memory since (word_of (object_exchange n f e r)) ≡ memory (word_of (object_exchange n f e r))
object_word memory since zero f e r = refl
object_word memory since (suc j) f e r = refl

place_word : (memory : Word → ℕ) (since : ℕ → ℕ) (fields : List FieldDecl) (p : Place) (core : Registers) (e r : ℕ) → reckoned_words memory since (word_of (place_exchange fields p core e r)) ≡ memory (word_of (place_exchange fields p core e r))
place_word memory since fields (places.Root x) core e r = refl
place_word memory since fields (places.Field a f) core e r = object_word memory since (slot_in core a) (place_of fields f) e r

-- the test of an exchange agrees with the source's
pub both_succeed : (t : Plan) (s : Shared) (since : ℕ → ℕ) (d : ℕ) (core mirror : Registers) (entry : CasEntry) → IsPlan t → EpochHolds t s since → Offers t s d core mirror entry
    → succeeds entry core (s.memory (word_of (exchange_wanted t.target.fields entry core))) ≡ is_some (exchange t.text.fields entry mirror s.source)
both_succeed t s since d core mirror entry plan f w =
    ap (succeeds entry core) (sym (place_word s.memory since t.target.fields entry.place core (word_in core entry.expected) (word_in core entry.replacement)))
    ∙ tests_agree t (reckoned s since) d core mirror entry plan.null f.holds (reckoned_offers t s since d core mirror entry w)
