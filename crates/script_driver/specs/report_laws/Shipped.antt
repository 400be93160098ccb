-- Documents of the shipped texts whose slots are enough: one for each initial node, and one for each `insert` or `enqueue`.
use Rattle.std.specs.Prelude.{◌≡◌, ◌≢◌, ℕ, ◌+◌, ◌≤◌, List, [], ◌∷◌, length, if◌then◌else◌, codes}
use Rattle.std.specs.List.{All}
use Rattle.std.specs.Str.{bytes_eq}
use Rattle.norm_lang.specs.Shipped.{set_text, queue_text}
use Rattle.norm_lang.specs.declared.reply.SourceReply.TheVariants as replies
use Rattle.documents.specs.declared.document.ScriptCall.{ScriptCall}
use Rattle.documents.specs.declared.document.Document.{Document}
use Rattle.script_plans.specs.Shapes.{sizes_of}
use Rattle.document_runs.specs.declared.report.Answer.TheVariants as answers
use Rattle.document_runs.specs.declared.report.ReportLine.{ReportLine}
use Rattle.document_runs.specs.declared.report.Report.{Report}

-- the calls of a script to the operation so named
abbrev pub calls_to : List ℕ → List ScriptCall → ℕ
calls_to name [] = 0
calls_to name (call ∷ script) = if bytes_eq name call.name then calls_to name script + 1 else calls_to name script

-- and of all scripts
abbrev pub all_calls_to : List ℕ → List (List ScriptCall) → ℕ
all_calls_to name [] = 0
all_calls_to name (script ∷ scripts) = calls_to name script + all_calls_to name scripts

-- the slots are at least the initial nodes and those calls together
abbrev pub HasRoomFor : List ℕ → Document → Type 0
HasRoomFor name document = length document.text.nodes + all_calls_to name document.scripts ≤ (sizes_of document).slots

abbrev pub IsNotFull : ReportLine → Type 0
IsNotFull line = line.answer ≢ answers.Replied replies.Full

-- then no line says that the pool is full
pub record ShippedIsNeverFull (document : Document) (report : Report) : Type 0 where
  pub set : (buckets : ℕ) → document.text ≡ set_text buckets → HasRoomFor (codes "insert") document → All IsNotFull report.lines
  pub queue : document.text ≡ queue_text → HasRoomFor (codes "enqueue") document → All IsNotFull report.lines
