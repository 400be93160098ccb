-- The longest inputs, and one byte more, by computing.
use Rattle.std.proofs.Common.{◌≡◌, ℕ, true, false, refl}
use Rattle.std.specs.Prelude.{nat_lt}
use Rattle.statuses.specs.declared.limits.TheConstants.{DOCUMENT_LIMIT, CERTIFICATE_LIMIT}

pub document_last : nat_lt 1048576 DOCUMENT_LIMIT ≡ true
document_last = refl

pub document_past : nat_lt 1048577 DOCUMENT_LIMIT ≡ false
document_past = refl

pub certificate_last : nat_lt 268435456 CERTIFICATE_LIMIT ≡ true
certificate_last = refl

pub certificate_past : nat_lt 268435457 CERTIFICATE_LIMIT ≡ false
certificate_past = refl
