-- The register that is named.
use Rattle.std.proofs.Common.{◌≡◌, ℕ, List, Option, Some, None, Result, Ok, Err, refl, sym, subst}
use Rattle.std.specs.Prelude.{codes}
use Rattle.norm_lang.specs.declared.text.Text.{Text}
use Rattle.norm_lang.specs.declared.text.Version.{Version}
use Rattle.norm_lang.specs.Faults.{LineFault}
use Rattle.line_words.specs.declared.fault.ParseError.{ParseError}
use Rattle.line_words.specs.declared.fault.ParseError.TheVariants as errors
use Rattle.line_words.specs.declared.fault.ParseFault.{ParseFault}
use Rattle.line_words.specs.Answered.{Fails}
use Rattle.norm_parser.specs.Cursors.{LinesLeft, all_lines, past_of, IsRestOf}
use Rattle.norm_parser.specs.FrontRead.{front_in}
use Rattle.norm_parser.specs.Version.{after_version}
use Rattle.norm_parser.proofs.CursorLines.{version_read, front_is_read}
use Rattle.norm_check.specs.declared.refusal.Refusal.{Refusal}
use Rattle.statuses.specs.declared.status.Status.{Status}
use Rattle.statuses.specs.declared.status.Status.TheVariants.{Refused}
use Rattle.refusal_messages.specs.declared.named.Blame.{Blame}
use Rattle.refusal_messages.specs.declared.named.Blame.TheVariants.{Found, NoMemory}
use Rattle.refusal_messages.specs.Named.{text_in, IsNamedIn, IsNamed, IsNamedRead, IsNamedFor}

-- the text that is read
pub text_is : (bytes : List ℕ) (all start left : LinesLeft) (version : Version) (text : Text) → all ≡ all_lines bytes → IsRestOf all start
    → after_version (codes "oa") (past_of all) all.lines ≡ Ok (start.number, version) → front_in version start.lines (past_of start) ≡ Ok (text, left.number) → text_in bytes ≡ Ok text
text_is bytes all start left version text same is begun front = rw (version_read (codes "oa") bytes all _ same begun, front_is_read bytes all start version _ same is front) refl

-- a fault of the lines up to the version line, and one of the text's lines
pub version_fails : (bytes : List ℕ) (all : LinesLeft) (error : ParseError) → all ≡ all_lines bytes → Fails error (after_version (codes "oa") (past_of all) all.lines)
    → Fails error (text_in bytes)
version_fails bytes all errors.Memory same fails = tt
version_fails bytes all (errors.Fault fault) same fails = rw (version_read (codes "oa") bytes all _ same fails) refl

pub front_fails : (bytes : List ℕ) (all start : LinesLeft) (version : Version) (error : ParseError) → all ≡ all_lines bytes → IsRestOf all start
    → after_version (codes "oa") (past_of all) all.lines ≡ Ok (start.number, version) → Fails error (front_in version start.lines (past_of start)) → Fails error (text_in bytes)
front_fails bytes all start version errors.Memory same is begun fails = tt
front_fails bytes all start version (errors.Fault fault) same is begun fails =
    rw (version_read (codes "oa") bytes all _ same begun, front_is_read bytes all start version _ same is fails) refl

-- what is found of the text that was read
pub named_there : (bytes : List ℕ) (refusal : Refusal) (text : Text) (named : Blame) → text_in bytes ≡ Ok text → IsNamedIn (Ok text) refusal named → IsNamed bytes refusal named
named_there bytes refusal text named read is = subst (λ (r : Result Text LineFault). IsNamedIn r refusal named) (sym read) is

-- no register if there is no text
blameless : (bytes : List ℕ) (refusal : Refusal) (fault : LineFault) → text_in bytes ≡ Err fault → IsNamed bytes refusal (Found None)
blameless bytes refusal fault read = subst (λ (r : Result Text LineFault). IsNamedIn r refusal (Found None)) (sym read) refl

pub named_nowhere : (bytes : List ℕ) (refusal : Refusal) (error : ParseError) (fault : ParseFault) → error ≡ errors.Fault fault → Fails error (text_in bytes)
    → IsNamed bytes refusal (Found None)
named_nowhere bytes refusal error fault is fails =
    blameless bytes refusal (record { line = fault.line; number = fault.number }) (subst (λ (e : ParseError). Fails e (text_in bytes)) is fails)

-- nothing without memory
unfound_in : (read : Result Text LineFault) (refusal : Refusal) → IsNamedIn read refusal NoMemory
unfound_in (Ok text) refusal = tt
unfound_in (Err fault) refusal = tt

pub named_without_memory : (bytes : List ℕ) (refusal : Refusal) → IsNamed bytes refusal NoMemory
named_without_memory bytes refusal = unfound_in (text_in bytes) refusal

-- that of a refusal
pub named_refusal : (bytes : List ℕ) (status : Status) (refusal : Refusal) (named : Blame)
    → status ≡ Refused refusal → IsNamed bytes refusal named → IsNamedFor (Some bytes) status named
named_refusal bytes status refusal named refused is =
    subst (λ (s : Status). IsNamedFor (Some bytes) s named) (sym refused) is

-- none for a status that is no refusal, nor if nothing is remembered
pub not_refused : (read : Option (List ℕ)) (status : Status)
    → ((refusal : Refusal) → ¬ (status ≡ Refused refusal)) → IsNamedFor read status (Found None)
not_refused read (Refused refusal) other = absurd (other refusal refl)
not_refused read _ other = refl

pub not_read : (read : Option (List ℕ)) (status : Status) → read ≡ None → IsNamedFor read status (Found None)
not_read read (Refused refusal) none = subst (λ (r : Option (List ℕ)). IsNamedRead r refusal (Found None)) (sym none) refl
not_read read _ none = refl

-- the same, if that is remembered
pub named_read : (read : Option (List ℕ)) (bytes : List ℕ) (status : Status) (named : Blame) → read ≡ Some bytes → IsNamedFor (Some bytes) status named → IsNamedFor read status named
named_read read bytes status named is so = subst (λ (r : Option (List ℕ)). IsNamedFor r status named) (sym is) so
