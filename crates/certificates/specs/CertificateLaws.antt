-- That the spelling of a certificate is read back.
use Rattle.std.specs.Prelude.{◌≡◌, ℕ, Bool, true, ◌&&◌, List, length, Some, None, nat_le}
use Rattle.std.specs.List.{list_all}
use Rattle.norm_lang.specs.declared.text.Text.{Text}
use Rattle.norm_lang.specs.Limits.{is_number, is_reply}
use Rattle.source_machine.specs.declared.event.SourceEvent.{SourceEvent}
use Rattle.source_machine.specs.declared.event.SourceEvent.TheVariants as events
use Rattle.source_machine.specs.Run.{is_call}
use Rattle.documents.specs.DocumentLimits.{most_caller}
use Rattle.documents.specs.DocumentRead.{IsDocument}
use Rattle.document_spelling.specs.SpellingLaws.{AreAlike}
use Rattle.certificates.specs.declared.certificate.Certificate.{Certificate}
use Rattle.certificates.specs.CertificateRead.{IsCertificate}
use Rattle.certificates.specs.CertificateSpelling.{certificate_spelling}

-- a number of 32 bits
abbrev pub is_caller : ℕ → Bool
is_caller c = nat_le c most_caller

-- an event whose numbers are numbers of their types, and whose call, if it begins one, is a call of an operation of the text
abbrev pub is_event : Text → SourceEvent → Bool
is_event text (events.Begin c op words) = is_caller c && is_call text op words
is_event text (events.Access c name) = is_caller c && is_number name
is_event text (events.Restart c) = is_caller c
is_event text (events.GiveUp c None) = is_caller c
is_event text (events.GiveUp c (Some phase)) = is_caller c && is_number phase

-- a certificate of a document for which bytes stand, with such events and replies, and a list of replies for each script
pub record IsTold (certificate : Certificate) : Type 0 where
  pub bytes : List ℕ
  pub document : IsDocument bytes certificate.document
  pub events : list_all (is_event certificate.document.text) certificate.events ≡ true
  pub lists : length certificate.replies ≡ length certificate.document.scripts
  pub replies : list_all (list_all is_reply) certificate.replies ≡ true

-- the same certificate but for the lines of its document's calls
pub record AreLike (one other : Certificate) : Type 0 where
  pub document : AreAlike one.document other.document
  pub events : one.events ≡ other.events
  pub replies : one.replies ≡ other.replies

-- what is read of the spelling of a certificate is the same certificate, but for the lines of its document's calls
abbrev pub CertificatesAreRead : Type 0
CertificatesAreRead =
    (certificate : Certificate) → IsTold certificate
    → (read : Certificate) × IsCertificate (certificate_spelling certificate) read × AreLike read certificate

-- a certificate that is read is such a one
abbrev pub WhatIsReadIsTold : Type 0
WhatIsReadIsTold = (bytes : List ℕ) (certificate : Certificate) → IsCertificate bytes certificate → IsTold certificate
