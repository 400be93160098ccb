-- An exchange succeeds in the core exactly if it does in the source; what it reads agrees, and its operands are guarded.
use Rattle.std.proofs.Common.{◌≡◌, ℕ, inl, inr, Bool, true, false, ◌&&◌, Some, None, refl, sym, ap, subst, ◌∙◌}
use Rattle.std.specs.Prelude.{not, is_some, IsTrue, ◌==◌, if◌then◌else◌}
use Rattle.std.specs.List.{list_any}
use Rattle.std.proofs.lemmas.Bool.{or_left, or_right}
use Rattle.norm_lang.specs.declared.text.Reg.{Reg}
use Rattle.norm_lang.specs.declared.text.Reg.TheVariants.{Num, Ref}
use Rattle.norm_lang.specs.declared.text.Place.{Place}
use Rattle.norm_lang.specs.declared.text.Place.TheVariants as places
use Rattle.norm_lang.specs.declared.text.CasEntry.{CasEntry}
use Rattle.norm_lang.specs.declared.registers.Registers.{Registers}
use Rattle.norm_lang.specs.Registers.{reference_in, node_in}
use Rattle.norm_lang.specs.RegisterUse.{same_register, operands_of}
use Rattle.source_machine.specs.Memory.{value_in, same_value, found_at, exchange_on, exchange}
use Rattle.source_machine.specs.MethodRuns.{name_in}
use Rattle.source_machine.specs.declared.state.Value.{Value}
use Rattle.source_machine.specs.declared.state.Value.TheVariants.{Number, Node}
use Rattle.source_machine.specs.declared.state.Memory.{Memory}
use Rattle.target_laws.proofs.Entries.{reads_entry, entries_are_validated}
use Rattle.run_ahead.specs.AccessLaws.{has_null_object, succeeds_on, IsCompared, TestsAgree, OperandsAgree}
use Rattle.run_ahead.specs.Agreeing.{Agree, AreApart}
use Rattle.run_ahead.specs.Guards.{GuardStands}
use Rattle.run_ahead.specs.Standing.{ValuesAgree}
use Rattle.run_ahead.proofs.Mirroring.{same_itself, same_test, same_references}
use Rattle.run_ahead.proofs.Plain.{agrees_at}

-- ---- what is found, and what is expected

values_agree : (home : ℕ → ℕ) (found found' : Value) (here mirror : Registers) (expected : Reg) → ValuesAgree home found found' → Agree home here mirror expected
    → (home (name_in found') ≡ home (name_in (value_in mirror expected)) → name_in found' ≡ name_in (value_in mirror expected))
    → same_value found (value_in here expected) ≡ same_value found' (value_in mirror expected)
values_agree home (Number n) (Number m) here mirror (Num r) found expected apart = rw (found, expected) refl
values_agree home (Number n) (Number m) here mirror (Ref r) found expected apart = refl
values_agree home (Node x) (Node y) here mirror (Num r) found expected apart = refl
values_agree home (Node x) (Node y) here mirror (Ref r) found expected apart = same_references home x (reference_in here (Ref r)) y (reference_in mirror (Ref r)) found expected apart
values_agree home (Number n) (Node y) here mirror expected found agree apart = absurd found
values_agree home (Node x) (Number m) here mirror expected found agree apart = absurd found

-- ---- operands

-- and so is what is expected
expected_at : (place : Place) (entry : CasEntry) → IsTrue (list_any (same_register entry.expected) (operands_of (record entry { place = place })))
expected_at (places.Root x) entry = or_left (same_register entry.expected entry.expected) _ (same_itself entry.expected)
expected_at (places.Field a f) entry = or_right (same_register entry.expected a) _ (or_left (same_register entry.expected entry.expected) _ (same_itself entry.expected))

expected_is_operand : (entry : CasEntry) → IsTrue (list_any (same_register entry.expected) (operands_of entry))
expected_is_operand entry = expected_at entry.place entry

-- the name in an operand is compared
compared : (entry : CasEntry) (mirror : Registers) (found : Value) (r : Reg) → IsTrue (list_any (same_register r) (operands_of entry)) → IsCompared entry mirror found (name_in (value_in mirror r))
compared entry mirror found (Num k) operand = inl refl
compared entry mirror found (Ref k) operand = inr (inr (k, operand, refl))

-- its object is null on both sides or on neither
object_agrees : (home : ℕ → ℕ) → home 0 ≡ 0 → (place : Place) (entry : CasEntry) (here mirror : Registers) (found : Value)
    → ((r : Reg) → IsTrue (list_any (same_register r) (operands_of (record entry { place = place }))) → Agree home here mirror r) → AreApart home (IsCompared (record entry { place = place }) mirror found)
    → has_null_object place here ≡ has_null_object place mirror
object_agrees home null (places.Root x) entry here mirror found agree apart = refl
object_agrees home null (places.Field (Num k) f) entry here mirror found agree apart = refl
object_agrees home null (places.Field (Ref k) f) entry here mirror found agree apart =
    let here_is : Agree home here mirror (Ref k) = agree (Ref k) (or_left (same_register (Ref k) (Ref k)) _ (same_itself (Ref k))) in
    ap (λ (n : ℕ). n == 0) here_is.0
    ∙ (ap (λ (n : ℕ). home (node_in mirror k) == n) (sym null)
    ∙ same_test home (node_in mirror k) 0 (λ same. apart (node_in mirror k) 0 (inr (inr (k, or_left (same_register (Ref k) (Ref k)) _ (same_itself (Ref k)), refl))) (inl refl) same))

-- ---- the test

made_is : (b : Bool) (X : Type 0) (x : X) → is_some (if b then Some x else None) ≡ b
made_is true X x = refl
made_is false X x = refl

pub tests_agree : TestsAgree
tests_agree fields home null entry here mirror memory found found' agree apart found_is values = by (has_null_object entry.place mirror) refl found_is
  where
    object : has_null_object entry.place here ≡ has_null_object entry.place mirror
    object = object_agrees home null entry.place entry here mirror found' agree apart

    by : (b : Bool) → has_null_object entry.place mirror ≡ b → found_at fields entry.place mirror memory ≡ (if b then None else Some found') → succeeds_on entry here found ≡ is_some (exchange fields entry mirror memory)
    by true is finds =
        ap (λ b. not b && same_value found (value_in here entry.expected)) (object ∙ is) ∙ sym (ap (λ o. is_some (exchange_on fields o entry mirror memory)) finds)
    by false is finds =
        ap (λ b. not b && same_value found (value_in here entry.expected)) (object ∙ is)
        ∙ (values_agree home found found' here mirror entry.expected (values is) (agree entry.expected (expected_is_operand entry))
        (apart (name_in found') (name_in (value_in mirror entry.expected)) (inr (inl refl)) (compared entry mirror found' entry.expected (expected_is_operand entry)))
        ∙ (sym (made_is (same_value found' (value_in mirror entry.expected)) Memory _) ∙ sym (ap (λ o. is_some (exchange_on fields o entry mirror memory)) finds)))

-- ---- operands of a walk

pub operands_agree : (calm : Type 0) → OperandsAgree calm
operands_agree calm target text compiled home walk path core mirror accessed caller f i k entry is one = record {
  agree = λ r source. agrees_at walk.method home calm path core mirror f.there i r compiled is (reads_entry i k entry r one source) f.ahead;
  guarded = λ row stands r operand. subst (λ state. GuardStands state mirror row r)
      (entries_are_validated target text compiled.barred walk.method path core.at i k entry (Ref r) (record { leads = f.ahead.path_is; stands = is }) one refl operand) (stands r);
}
