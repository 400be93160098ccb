-- What every value has that a reading gives.
use Rattle.std.specs.Prelude.{◌≡◌, ℕ, Bool, true, false, Result, Ok, Err, IfOk, if◌then◌else◌}
use Rattle.std.proofs.Common.{refl}
use Rattle.norm_lang.specs.Faults.{◌>>=◌, demand}

-- what is read has Q, and then what is read after it has P
pub then_has : {A B E : Type 0} (r : Result A E) (f : A → Result B E) (Q : A → Type 0) (P : B → Type 0)
    → IfOk r Q → ((x : A) → Q x → IfOk (f x) P) → IfOk (r >>= f) P
then_has (Ok x) f Q P has next = next x has
then_has (Err e) f Q P has next = tt

-- whatever is read, what is read after it has P
pub anyhow : {A B E : Type 0} (r : Result A E) (f : A → Result B E) (P : B → Type 0)
    → ((x : A) → IfOk (f x) P) → IfOk (r >>= f) P
anyhow (Ok x) f P next = next x
anyhow (Err e) f P next = tt

-- the test passes, and then what is read has P
pub demanded : {B : Type 0} (fault : ℕ) (test : Bool) (f : Unit {0} → Result B ℕ) (P : B → Type 0)
    → (test ≡ true → IfOk (f tt) P) → IfOk (demand fault test >>= f) P
demanded fault true f P next = next refl
demanded fault false f P next = tt

-- what is read if the test passes has P, and so has what is read if it doesn't
pub either : {A E : Type 0} (test : Bool) (x y : Result A E) (P : A → Type 0)
    → (test ≡ true → IfOk x P) → (test ≡ false → IfOk y P) → IfOk (if test then x else y) P
either true x y P passed failed = passed refl
either false x y P passed failed = failed refl
