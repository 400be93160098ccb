-- A certificate's spelling, put in steps.
use Rattle.std.proofs.Common.{ℕ, ◌≡◌, ◌∙◌, ◌++◌, List, [], ◌∷◌, sym, ap, refl, append_assoc, true, false}
use Rattle.std.proofs.lemmas.Grind.{flat_map-append}
use Rattle.std.proofs.lemmas.List.{append-nil}
use Rattle.std.specs.Prelude.{codes, decimal}
use Rattle.std.specs.List.{flat_map}
use Rattle.norm_lang.specs.Spelling.{spaced, line_bytes, spelled}
use Rattle.schedule_turns.specs.declared.turn.Turn.{Turn}
use Rattle.documents.specs.declared.document.Document.{Document}
use Rattle.document_spelling.specs.Spelling.{setting_lines, scripts_lines, schedule_lines, document_lines, document_spelling}
use Rattle.certificates.specs.declared.certificate.Certificate.{Certificate}
use Rattle.certificates.specs.CertificateSpelling.{owed_lines, account_lines, certificate_spelling}

owed : (schedule : List Turn) → schedule_lines false schedule ++ owed_lines schedule ≡ schedule_lines true schedule
owed [] = refl
owed (turn ∷ schedule) = append-nil (schedule_lines true (turn ∷ schedule))

document_whole : (document : Document) → document_lines false document ++ owed_lines document.schedule ≡ document_lines true document
document_whole document =
    let text = spelled document.text in
    let settings = setting_lines document in
    let scripts = scripts_lines 0 document.scripts in
    let turns = schedule_lines false document.schedule in
    let more = owed_lines document.schedule in
    append_assoc text (settings ++ (scripts ++ turns)) more
    ∙ ap (λ ls. text ++ ls) (append_assoc settings (scripts ++ turns) more
    ∙ ap (λ ls. settings ++ ls) (append_assoc scripts turns more
    ∙ ap (λ ls. scripts ++ ls) (owed document.schedule)))

pub in_three : (certificate : Certificate) (first second third : List ℕ) → first ≡ document_spelling certificate.document
    → second ≡ first ++ flat_map line_bytes (owed_lines certificate.document.schedule) → third ≡ second ++ flat_map line_bytes (account_lines certificate)
    → third ≡ certificate_spelling certificate
in_three certificate first second third shown owed account =
    let document = certificate.document in
    let lines = document_lines false document in
    let more = owed_lines document.schedule in
    let behind = account_lines certificate in
    let two : second ≡ flat_map line_bytes (document_lines true document)
    = owed ∙ ap (λ (bytes : List ℕ). bytes ++ flat_map line_bytes more) shown ∙ sym (flat_map-append line_bytes lines more) ∙ ap (flat_map line_bytes) (document_whole document) in
    account ∙ ap (λ (bytes : List ℕ). bytes ++ flat_map line_bytes behind) two ∙ sym (flat_map-append line_bytes (document_lines true document) behind)

-- a line put in four steps
pub begin_in_steps : (o a b c d : List ℕ) (caller : ℕ) (rest : List (List ℕ)) → a ≡ o ++ codes "begin " → b ≡ a ++ decimal caller → c ≡ b ++ spaced rest → d ≡ c ++ 10 ∷ []
    → d ≡ o ++ line_bytes (codes "begin" ∷ decimal caller ∷ rest)
begin_in_steps o a b c d caller rest to_a to_b to_c to_d = rw (to_d, to_c, to_b, to_a) (simp append_assoc)
