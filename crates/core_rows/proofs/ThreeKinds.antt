-- Three kinds of nodes.
use Rattle.std.proofs.Common.{◌≡◌, ◌≤◌, ℕ, inl, inr, refl, arith}
use Rattle.oa_words.specs.SlotKinds.{kind_of, IsNullOrOf}
use Rattle.core_rows.specs.ThreeKindRows.{three_setting, ThreeKindSettings, ThreeKindCradles, ThreeKindWords}

pub three_kind_settings : ThreeKindSettings
three_kind_settings = record {
  greatest = refl;
  fields = refl;
  places = refl;
  nodes = refl;
  fits = record { kinds = refl; fields = refl; cells = refl; nodes = refl };
  taken = refl;
  first_full = refl;
  second_full = refl;
  third_full = refl;
  past_kinds = refl;
}

pub three_kind_cradles : ThreeKindCradles
three_kind_cradles = record { first = refl; second = refl }

-- a slot of the row isn't null, nor of a kind but its own
neither : (t j : ℕ) → (j ≡ 0 → ⊥) → (kind_of three_setting.sizes j ≡ t → ⊥) → IsNullOrOf three_setting.sizes t j → ⊥
neither t j some other is = elim is [
  | inl null ↦ some null
  | inr slot ↦ other slot.2
]

past : (t j : ℕ) → 7 ≤ j → IsNullOrOf three_setting.sizes t j → ⊥
past t j more is = elim is [
  | inl null ↦ omega (arith, more, null)
  | inr slot ↦ let few : j ≤ 6 = slot.1 in omega (arith, more, few)
]

of : (t j : ℕ) → 1 ≤ j → j ≤ 6 → kind_of three_setting.sizes j ≡ t → IsNullOrOf three_setting.sizes t j
of t j some few is = inr (some, few, is)

pub three_kind_words : ThreeKindWords
three_kind_words = record {
  top = (omega arith, of 1 4 (omega arith) (omega arith) refl);
  no_top = (omega arith, inl refl);
  other_top = λ is. neither 1 2 (λ e. omega (arith, e)) (λ e. omega (arith, e)) is.1;
  late_top = λ is. let late : 10 ≤ 9 = is.0 in omega (arith, late);
  link = of 1 5 (omega arith) (omega arith) refl;
  no_link = inl refl;
  other_link = neither 1 6 (λ e. omega (arith, e)) (λ e. omega (arith, e));
  reference = of 2 6 (omega arith) (omega arith) refl;
  marked = of 2 6 (omega arith) (omega arith) refl;
  null = inl refl;
  other_reference = neither 2 1 (λ e. omega (arith, e)) (λ e. omega (arith, e));
  reference_back = of 0 2 (omega arith) (omega arith) refl;
  other_back = neither 0 6 (λ e. omega (arith, e)) (λ e. omega (arith, e));
  no_slot = past 2 7 (omega arith);
  number = tt;
  no_field = tt;
  null_field = refl;
  null_refers = λ is. let no : 2 ≡ 0 = is in omega (arith, no);
  number_root = tt;
  reference_root = of 1 3 (omega arith) (omega arith) refl;
  other_root = neither 1 6 (λ e. omega (arith, e)) (λ e. omega (arith, e));
  hazard = omega arith;
  no_hazard = λ is. let no : 7 ≤ 6 = is in omega (arith, no);
}
