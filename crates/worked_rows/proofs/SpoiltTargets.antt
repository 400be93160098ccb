-- The rows of flaws: what shows one is the register, and the path to the instruction, the latest place first, with a step of it for
-- each place.
use Rattle.std.specs.Prelude.{◌≡◌, ℕ, zero, suc, true, false, ◌||◌, not, List, [], ◌∷◌, length, nat_lt, ◌==◌, slice_get, refl}
use Rattle.std.proofs.Common.{inl, inr, arith}
use Rattle.std.proofs.lemmas.Bool.{ltb-true}
use Rattle.std.proofs.lemmas.Bool.Decides.{nat_tests}
use Rattle.norm_lang.specs.declared.text.Reg.TheVariants.{Num, Ref}
use Rattle.target_code.specs.declared.target.TargetInstr.{TargetInstr}
use Rattle.target_code.specs.Paths.{IsTargetSuccessor, target_goes_from}
use Rattle.target_code.specs.Barred.{UncheckedUse, Unguarded, GuardAfterCheck, GuardDropped}
use Rattle.worked_rows.specs.Small.{n1, r0}
use Rattle.worked_rows.specs.TargetRows.{IsSpoilt, only_replies, sets_guarded, guards_the_new, checks_then_guards, picks, loads_key, makes, loads_count, returns_count, FlawRows}

-- a step from one place to the next
step : (code : List TargetInstr) (at to : ℕ) → target_goes_from (slice_get code at) at to ≡ true → nat_lt to (length code) ≡ true → IsTargetSuccessor code at to
step code at to goes there = (goes, ltb-true to (length code) there)

impossible : false ≡ true → ⊥
impossible e = cc

dropped_by_setting : IsSpoilt sets_guarded only_replies GuardDropped false 4
dropped_by_setting =
    inl (
      r0,
      inl (refl, refl),
      (
        3 ∷ 2 ∷ 1 ∷ 0 ∷ [],
        (step sets_guarded 3 4 refl refl, (step sets_guarded 2 3 refl refl, (step sets_guarded 1 2 refl refl, (step sets_guarded 0 1 refl refl, refl)))),
        refl,
      ),
    )

expected_unguarded : IsSpoilt guards_the_new only_replies Unguarded false 4
expected_unguarded = (
  r0,
  inl (refl, refl),
  (3 ∷ 2 ∷ 1 ∷ 0 ∷ [], (step guards_the_new 3 4 refl refl, (step guards_the_new 2 3 refl refl, (step guards_the_new 1 2 refl refl, (step guards_the_new 0 1 refl refl, refl)))), refl),
)

guarded_after_check : IsSpoilt checks_then_guards only_replies GuardAfterCheck false 3
guarded_after_check = (r0, inl (refl, refl), (2 ∷ 1 ∷ 0 ∷ [], (step checks_then_guards 2 3 refl refl, (step checks_then_guards 1 2 refl refl, (step checks_then_guards 0 1 refl refl, refl))), refl))

picked_unchecked : IsSpoilt picks only_replies UncheckedUse false 1
picked_unchecked = (r0, inl refl, (0 ∷ [], (step picks 0 1 refl refl, refl), refl))

field_unchecked : IsSpoilt loads_key only_replies UncheckedUse false 3
field_unchecked =
    (n1, inl refl, (2 ∷ 1 ∷ 0 ∷ [], (step loads_key 2 3 refl refl, (step loads_key 1 2 refl refl, (step loads_key 0 1 refl refl, refl))), refl))

new_unchecked : IsSpoilt makes only_replies UncheckedUse false 1
new_unchecked = (r0, inl refl, (0 ∷ [], (step makes 0 1 refl refl, refl), refl))

-- another number than n7 isn't what `return n7` reads
not_read : (n : ℕ) → not (n == 7) ≡ true → (n == 7) || false ≡ true → ⊥
not_read n other read = let no : ⊥ = grind (arith, nat_tests) in no

count_not_handed_over : ¬ IsSpoilt loads_count returns_count UncheckedUse false 1
count_not_handed_over (r, inl read, unchecked) = impossible read
count_not_handed_over (Ref k, inr (commits, (number, carried)), unchecked) = impossible number
count_not_handed_over (Num n, inr (commits, (number, (zero, read, unset))), unchecked) = not_read n number read
count_not_handed_over (Num n, inr (commits, (number, (suc at, read, unset))), unchecked) = impossible read

pub flaw_rows : FlawRows
flaw_rows = record {
  dropped_by_setting = dropped_by_setting;
  expected_unguarded = expected_unguarded;
  guarded_after_check = guarded_after_check;
  picked_unchecked = picked_unchecked;
  field_unchecked = field_unchecked;
  new_unchecked = new_unchecked;
  count_not_handed_over = count_not_handed_over;
}
