-- The turn at which a replay stopped.
use Rattle.std.proofs.Common.{◌≡◌, ℕ, Bool, true, false, List, Option, Some, None, Result, Ok, Err, refl, sym, subst, ◌∙◌}
use Rattle.std.specs.Prelude.{MatchBool}
use Rattle.norm_lang.specs.Faults.{LineFault}
use Rattle.line_words.specs.declared.fault.ParseError.{ParseError}
use Rattle.line_words.specs.declared.fault.ParseError.TheVariants as errors
use Rattle.line_words.specs.declared.fault.ParseFault.{ParseFault}
use Rattle.line_words.specs.Answered.{Fails}
use Rattle.norm_check.specs.declared.refusal.Refusal.{Refusal}
use Rattle.norm_check.specs.Refusals.{IsRefused}
use Rattle.documents.specs.declared.document.Document.{Document}
use Rattle.documents.specs.DocumentRead.{document_read}
use Rattle.script_plans.specs.declared.fault.ShapeFault.{ShapeFault}
use Rattle.script_plans.specs.Shapes.{shape_fault}
use Rattle.script_plans.specs.Plans.{IsRunnable}
use Rattle.messages.specs.declared.turns.StoppedTurn.{StoppedTurn}
use Rattle.messages.specs.declared.turns.StoppedTurn.TheVariants.{NoMemory, Nowhere}
use Rattle.statuses.specs.declared.status.Status.{Status}
use Rattle.oa_cli.specs.verdicts.Stops.{IsStopOf, IsStopAt, IsStopIn, IsStopRead, is_stopped, IsStopFor}
use Rattle.oa_cli.proofs.Completing.{not_refused}

-- ---- a document that can't be replayed

pub refused_nowhere : (document : Document) (refusal : Refusal) → IsRefused document.text refusal → IsRunnable document → ⊥
refused_nowhere document refusal refused runs = not_refused document.text refusal runs.normal refused

pub shaped_nowhere : (document : Document) (number at : ℕ) → shape_fault document ≡ Some (record { number = number; at = at }) → IsRunnable document → ⊥
shaped_nowhere document number at is runs = clash (sym is ∙ runs.shape)
  where
    clash : ◌≡◌ {A = Option ShapeFault} (Some (record { number = number; at = at })) None → ⊥
    clash same = cc

-- ---- of bytes

pub stop_of_read : (bytes : List ℕ) (document : Document) (turn : StoppedTurn) → document_read bytes ≡ Ok document → IsStopOf document turn → IsStopIn bytes turn
stop_of_read bytes document turn read is = subst (λ (r : Result Document LineFault). IsStopAt r turn) (sym read) is

-- none if they are no document
no_document : (bytes : List ℕ) (fault : LineFault) → document_read bytes ≡ Err fault → IsStopIn bytes Nowhere
no_document bytes fault not = subst (λ (r : Result Document LineFault). IsStopAt r Nowhere) (sym not) tt

pub stop_of_none : (bytes : List ℕ) (error : ParseError) (fault : ParseFault)
    → error ≡ errors.Fault fault → Fails error (document_read bytes) → IsStopIn bytes Nowhere
stop_of_none bytes error fault is fails =
    no_document bytes (record { line = fault.line; number = fault.number }) (subst (λ (e : ParseError). Fails e (document_read bytes)) is fails)

-- nothing without memory
untold_at : (read : Result Document LineFault) → IsStopAt read NoMemory
untold_at (Ok document) = tt
untold_at (Err fault) = tt

pub stop_without_memory : (bytes : List ℕ) → IsStopIn bytes NoMemory
stop_without_memory bytes = untold_at (document_read bytes)

-- ---- of a source, and for a status

pub stop_read : (read : Option (List ℕ)) (bytes : List ℕ) (turn : StoppedTurn) → read ≡ Some bytes → IsStopIn bytes turn → IsStopRead read turn
stop_read read bytes turn same is = subst (λ (r : Option (List ℕ)). IsStopRead r turn) (sym same) is

pub stop_forgotten : (read : Option (List ℕ)) → read ≡ None → IsStopRead read NoMemory
stop_forgotten read none = subst (λ (r : Option (List ℕ)). IsStopRead r NoMemory) (sym none) refl

pub stop_for : (read : Option (List ℕ)) (status : Status) (turn : StoppedTurn) → is_stopped status ≡ true → IsStopRead read turn → IsStopFor read status turn
stop_for read status turn stopped is = subst (λ (b : Bool). MatchBool b (IsStopRead read turn) (turn ≡ Nowhere)) (sym stopped) is

pub no_stop_for : (read : Option (List ℕ)) (status : Status) → is_stopped status ≡ false → IsStopFor read status Nowhere
no_stop_for read status not = subst (λ (b : Bool). MatchBool b (IsStopRead read Nowhere) (Nowhere ≡ Nowhere)) (sym not) refl
