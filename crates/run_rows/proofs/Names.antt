-- The rows of names, by computing.
use Rattle.std.specs.Prelude.{ℕ, ◌≡◌, true, false, refl}
use Rattle.std.specs.Fmt.{digits}
use Rattle.norm_lang.specs.declared.text.Reg.TheVariants.{Ref}
use Rattle.caller_steps.specs.Wants.{wants}
use Rattle.caller_steps.specs.After.{after, signs}
use Rattle.run_rows.specs.ListNames.{RecycledNames, HeldNames, RecycledLoad}

pub recycled_names : RecycledNames
unfolding wants after signs digits
recycled_names = record { sentinel = refl; given = refl; retired = refl; freed = refl; claimed = refl; drawn = refl; emptied = refl; again = refl }

four_is_two : ◌≡◌ {A = ℕ} 4 2 → ⊥
four_is_two e = cc

two_is_none : ◌≡◌ {A = ℕ} 2 0 → ⊥
two_is_none e = cc

one_is_none : ◌≡◌ {A = ℕ} 1 0 → ⊥
one_is_none e = cc

three_is_none : ◌≡◌ {A = ℕ} 3 0 → ⊥
three_is_none e = cc

is_retired : true ≡ false → ⊥
is_retired e = cc

pub held_names : HeldNames
unfolding wants after signs digits
held_names = record {
  sentinel = (one_is_none, refl);
  node = (two_is_none, refl);
  retired = λ held. is_retired held.1;
  freed = λ held. held.0 refl;
  claimed = λ held. held.0 refl;
  drawn = (three_is_none, refl);
}

pub recycled_load : RecycledLoad
unfolding wants after signs digits
recycled_load = record {
  before = refl;
  resident = refl;
  later = refl;
  stale = record { loads = record { at = refl; into = Ref 2; field = 1; instr_is = refl }; some = two_is_none; away = four_is_two };
  warning = refl;
  seen = refl;
  goes_on = refl;
}
