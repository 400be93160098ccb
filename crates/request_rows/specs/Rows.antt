-- One document, of two calls on the list, and a certificate in which neither has begun. A definition of the premises that nothing meets, or a request
-- that nothing answers, breaks a row.
use Rattle.std.specs.Prelude.{ℕ, List, [], ◌∷◌, ◌++◌, Some, None, codes}
use Rattle.std.specs.List.{flat_map}
use Rattle.statuses.specs.declared.status.Status.TheVariants as statuses
use Rattle.command_input.specs.declared.command.Command.{Command}
use Rattle.command_input.specs.declared.command.Command.TheVariants as commands
use Rattle.command_input.specs.declared.command.Request.TheVariants as requests
use Rattle.oa_cli.specs.Complete.{CanBeAnswered}
use Rattle.oa_cli.specs.Headline.{Premises}

-- lines, with a newline after each
abbrev pub spelled : List (List ℕ) → List ℕ
spelled lines = flat_map (λ line. line ++ 10 ∷ []) lines

abbrev pub document_lines : List (List ℕ)
document_lines = codes "oa 1" ∷ codes "use list" ∷ codes "script 0" ∷ codes "insert 5" ∷ codes "contains 5" ∷ []

abbrev pub document_bytes : List ℕ
document_bytes = spelled document_lines

abbrev pub certificate_bytes : List ℕ
certificate_bytes = spelled (document_lines ++ codes "schedule" ∷ codes "events" ∷ codes "replies" ∷ [])

-- a source that has the document, a sink to which nothing was written, no fault, and an answer
abbrev pub AreMetBy : Command → Type 0
AreMetBy command = Premises command (Some document_bytes) (Some []) 0 0 0 0 statuses.Done

pub record PremiseRows : Type 0 where
  pub run : AreMetBy commands.Run
  pub replay : AreMetBy commands.Replay
  pub epochs : AreMetBy commands.Epochs

pub record AnsweredRows : Type 0 where
  pub run : CanBeAnswered (Some (requests.OfDocument commands.Run)) (Some document_bytes)
  pub replay : CanBeAnswered (Some (requests.OfDocument commands.Replay)) (Some document_bytes)
  pub epochs : CanBeAnswered (Some (requests.OfDocument commands.Epochs)) (Some document_bytes)
  pub check : CanBeAnswered (Some (requests.OfDocument commands.Check)) (Some document_bytes)
  pub compile : CanBeAnswered (Some (requests.OfDocument commands.Compile)) (Some document_bytes)
  pub show : CanBeAnswered (Some (requests.OfDocument commands.Show)) (Some document_bytes)
  pub upgrade : CanBeAnswered (Some (requests.OfDocument commands.Upgrade)) (Some document_bytes)
  pub certify : CanBeAnswered (Some (requests.OfDocument commands.Certify)) (Some document_bytes)
  pub certificate : CanBeAnswered (Some requests.OfCertificate) (Some certificate_bytes)
  pub workload : CanBeAnswered (Some (requests.Workload 1 1)) None
