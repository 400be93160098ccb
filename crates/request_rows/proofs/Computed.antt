-- The document is read, and has no fault, by computing; its text is in normal form by the law of the sets' texts.
use Rattle.std.proofs.Common.{◌≡◌, ◌≢◌, ℕ, ◌+◌, ◌<◌, List, [], ◌∷◌, length, Option, Some, None, Ok, refl, arith}
use Rattle.std.specs.Prelude.{codes}
use Rattle.norm_lang.specs.NormalForm.{IsNormal}
use Rattle.norm_lang.specs.Shipped.{set_text}
use Rattle.documents.specs.declared.document.Document.{Document}
use Rattle.documents.specs.DocumentRead.{IsDocument}
use Rattle.caller_steps.specs.Wants.{wants}
use Rattle.caller_steps.specs.After.{after}
use Rattle.oa_core.specs.Finals.{replay_limit}
use Rattle.script_plans.specs.Shapes.{shape_fault}
use Rattle.script_plans.specs.Plans.{IsRunnable}
use Rattle.document_runs.specs.Runs.{replay_fault}
use Rattle.statuses.specs.declared.status.Status.TheVariants as statuses
use Rattle.statuses.specs.declared.limits.TheConstants.{DOCUMENT_LIMIT, CERTIFICATE_LIMIT}
use Rattle.certificates.specs.declared.certificate.Certificate.{Certificate}
use Rattle.certificates.specs.CertificateRead.{IsCertificate}
use Rattle.run_judge.specs.Made.{certificate_limit, certificate_fault}
use Rattle.command_input.specs.declared.command.Command.{Command}
use Rattle.command_input.specs.declared.command.Command.TheVariants as commands
use Rattle.oa_cli.specs.Complete.{HasAccepted, HasCertificate, IsAccepted}
use Rattle.oa_cli.specs.Headline.{MakesCalls, Premises}
use Rattle.request_rows.specs.Rows.{document_bytes, certificate_bytes, AreMetBy, PremiseRows, AnsweredRows}

-- what the lines of the document say
abbrev document_at : ℕ → Document
document_at line = record {
  text = set_text 1;
  slots = 64 ∷ [];
  first = 1;
  last = 1000000000;
  fuel = 1000000;
  scripts = (record { line = line; name = codes "insert"; args = 5 ∷ [] } ∷ record { line = line + 1; name = codes "contains"; args = 5 ∷ [] } ∷ []) ∷ [];
  schedule = [];
}

abbrev document : Document
document = document_at 4

is_read : IsDocument document_bytes document
is_read = refl

is_certificate : IsCertificate certificate_bytes (record { document = document; events = []; replies = [] ∷ [] })
is_certificate = refl

has_no_fault : shape_fault document ≡ None
has_no_fault = refl

is_replayed : replay_fault document ≡ None
unfolding replay_limit wants after
is_replayed = refl

is_certified : certificate_fault document ≡ None
unfolding certificate_limit wants after
is_certified = refl

short : length document_bytes < DOCUMENT_LIMIT
short = omega arith

small : length certificate_bytes < CERTIFICATE_LIMIT
small = omega arith

module _ (normal : (buckets : ℕ) → 0 < buckets → IsNormal (set_text buckets)) where
  its_normal : IsNormal document.text
  its_normal = normal 1 (omega arith)

  is_runnable : IsRunnable document
  is_runnable = record { normal = its_normal; shape = has_no_fault }

  accepted : (command : Command) → IsAccepted command document → HasAccepted command (Some document_bytes)
  accepted command is = record { bytes = document_bytes; told = refl; short = short; document = document; spelled = is_read; accepted = is }

  met : (command : Command) → MakesCalls command → IsAccepted command document → AreMetBy command
  met command makes is = record {
    calls = makes;
    bytes_told = accepted command is;
    written = [];
    text_told = refl;
    reads = λ rose. let no : 0 ≡ 1 = rose in cc;
    writes = λ rose. let no : 0 ≡ 1 = rose in cc;
    memory = λ is. let no : statuses.Done ≡ statuses.Memory = is in cc;
  }

  pub premise_rows : PremiseRows
  premise_rows = record { run = met commands.Run tt is_runnable; replay = met commands.Replay tt (is_runnable, is_replayed); epochs = met commands.Epochs tt is_runnable }

  pub answered_rows : AnsweredRows
  answered_rows = record {
    run = accepted commands.Run is_runnable;
    replay = accepted commands.Replay (is_runnable, is_replayed);
    epochs = accepted commands.Epochs is_runnable;
    check = accepted commands.Check its_normal;
    compile = accepted commands.Compile its_normal;
    show = accepted commands.Show tt;
    upgrade = accepted commands.Upgrade tt;
    certify = accepted commands.Certify (is_runnable, is_certified);
    certificate = record {
      bytes = certificate_bytes;
      told = refl;
      short = small;
      certificate = record { document = document; events = []; replies = [] ∷ [] };
      spelled = is_certificate;
      runnable = is_runnable;
    };
    workload = tt;
  }
