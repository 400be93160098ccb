-- What is told of a register, by what can be trusted of it.
use Rattle.std.proofs.Common.{◌≡◌, ◌≢◌, refl}
use Rattle.target_laws.specs.Trusted.{Trust, Trusted, Unchecked, Spoilt, confirmed}
use Rattle.run_ahead.specs.Ahead.{AsTrusted}

pub told_map : (calm : Type 0) (trust : Trust) (A B : Type 0) → (A → B) → AsTrusted calm trust A → AsTrusted calm trust B
told_map calm Trusted A B f told = f told
told_map calm Unchecked A B f told = λ now. f (told now)
told_map calm Spoilt A B f told = tt

pub told_trusted : (calm : Type 0) (trust : Trust) (A : Type 0) → trust ≡ Trusted → AsTrusted calm trust A → A
told_trusted calm Trusted A is told = told
told_trusted calm Unchecked A is told = absurd (let never : Unchecked ≡ Trusted = is in cc)
told_trusted calm Spoilt A is told = absurd (let never : Spoilt ≡ Trusted = is in cc)

-- what is told of a register of which anything is known, of a caller that wasn't warned
pub told_hoped : (calm : Type 0) (trust : Trust) (A : Type 0) → calm → trust ≢ Spoilt → AsTrusted calm trust A → A
told_hoped calm Trusted A now hopes told = told
told_hoped calm Unchecked A now hopes told = told now
told_hoped calm Spoilt A now hopes told = absurd (hopes refl)

pub told_confirmed : (calm : Type 0) (trust : Trust) (A : Type 0) → calm → AsTrusted calm trust A → AsTrusted calm (confirmed trust) A
told_confirmed calm Trusted A now told = told
told_confirmed calm Unchecked A now told = told now
told_confirmed calm Spoilt A now told = tt

pub told_less : (calm calm' : Type 0) (trust : Trust) (A : Type 0) → (calm' → calm) → AsTrusted calm trust A → AsTrusted calm' trust A
told_less calm calm' Trusted A less told = told
told_less calm calm' Unchecked A less told = λ now. told (less now)
told_less calm calm' Spoilt A less told = tt

-- what a check confirms wasn't spoilt
pub confirmed_is : (trust : Trust) → confirmed trust ≡ Trusted → trust ≢ Spoilt
confirmed_is Trusted is = λ no. cc
confirmed_is Unchecked is = λ no. cc
confirmed_is Spoilt is = λ no. cc

-- and it confirms all else
pub hoped_is_confirmed : (trust : Trust) → trust ≢ Spoilt → confirmed trust ≡ Trusted
hoped_is_confirmed Trusted hopes = refl
hoped_is_confirmed Unchecked hopes = refl
hoped_is_confirmed Spoilt hopes = absurd (hopes refl)
