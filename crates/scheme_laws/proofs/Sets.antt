-- The sets compile alike by both schemes.
use Rattle.std.specs.Prelude.{◌≡◌, ℕ, refl}
use Rattle.norm_lang.specs.Shipped.{set_text}
use Rattle.target_code.specs.SecondScheme.{second_scheme}
use Rattle.scheme_laws.specs.FirstScheme.{first_scheme}

pub sets_are_same : (buckets : ℕ) → second_scheme (set_text buckets) ≡ first_scheme (set_text buckets)
sets_are_same buckets = refl
