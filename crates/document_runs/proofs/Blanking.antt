-- The lines that are made before a run.
use Rattle.std.proofs.Common.{◌≡◌, ℕ, ◌+◌, ◌<◌, ◌≤◌, ◌^◌, List, [], ◌∷◌, ◌++◌, length, drop, get_or, sym, ap, ◌∙◌, append_assoc, arith}
use Rattle.std.proofs.lemmas.List.{drop_more, drop_all, append-nil}
use Rattle.std.proofs.lemmas.List.Elements.{All-get_or}
use Rattle.documents.specs.declared.document.ScriptCall.{ScriptCall}
use Rattle.documents.specs.DocumentLimits.{AreShort}
use Rattle.document_runs.specs.declared.report.Answer.TheVariants as answers
use Rattle.document_runs.specs.declared.report.ReportLine.{ReportLine}
use Rattle.document_runs.specs.Reports.{line_of, lines_from, all_lines}
use Rattle.document_runs.specs.Blanks.{nothing, no_answer}

-- ---- call by call

pub lines_more : (made before : List ReportLine) (caller i : ℕ) (script : List ScriptCall) (d : ScriptCall) (line : ReportLine) → i < length script
    → line ≡ line_of caller i (get_or script i d) answers.Unreached
    → made ++ lines_from nothing caller i (drop i script) ≡ before ++ lines_from nothing caller 0 script
    → (made ++ line ∷ []) ++ lines_from nothing caller (i + 1) (drop (i + 1) script) ≡ before ++ lines_from nothing caller 0 script
lines_more made before caller i script d line lt is so_far =
    append_assoc made (line ∷ []) (lines_from nothing caller (i + 1) (drop (i + 1) script))
    ∙ ap (λ (x : ReportLine). made ++ (x ∷ lines_from nothing caller (i + 1) (drop (i + 1) script))) is
    ∙ ap (λ (left : List ScriptCall). made ++ lines_from nothing caller i left) (sym (drop_more script i d lt))
    ∙ so_far

pub lines_end : (made before : List ReportLine) (caller i : ℕ) (script : List ScriptCall) → length script ≤ i
    → made ++ lines_from nothing caller i (drop i script) ≡ before ++ lines_from nothing caller 0 script → made ≡ before ++ lines_from nothing caller 0 script
lines_end made before caller i script le so_far =
    sym (append-nil made) ∙ ap (λ (left : List ScriptCall). made ++ lines_from nothing caller i left) (sym (drop_all i script le)) ∙ so_far

-- ---- script by script

pub scripts_more : (made more : List ReportLine) (c : ℕ) (scripts : List (List ScriptCall)) (d : List ScriptCall) → c < length scripts
    → more ≡ made ++ lines_from nothing c 0 (get_or scripts c d)
    → made ++ all_lines no_answer c (drop c scripts) ≡ all_lines no_answer 0 scripts
    → more ++ all_lines no_answer (c + 1) (drop (c + 1) scripts) ≡ all_lines no_answer 0 scripts
scripts_more made more c scripts d lt is so_far =
    ap (λ (lines : List ReportLine). lines ++ all_lines no_answer (c + 1) (drop (c + 1) scripts)) is
    ∙ append_assoc made (lines_from nothing c 0 (get_or scripts c d)) (all_lines no_answer (c + 1) (drop (c + 1) scripts))
    ∙ ap (λ (left : List (List ScriptCall)). made ++ all_lines no_answer c left) (sym (drop_more scripts c d lt))
    ∙ so_far

pub scripts_end : (made : List ReportLine) (c : ℕ) (scripts : List (List ScriptCall)) → length scripts ≤ c
    → made ++ all_lines no_answer c (drop c scripts) ≡ all_lines no_answer 0 scripts → made ≡ all_lines no_answer 0 scripts
scripts_end made c scripts le so_far =
    sym (append-nil made) ∙ ap (λ (left : List (List ScriptCall)). made ++ all_lines no_answer c left) (sym (drop_all c scripts le)) ∙ so_far

pub few_calls : (scripts : List (List ScriptCall)) (c : ℕ) (d : List ScriptCall) → c < length scripts → AreShort scripts → length (get_or scripts c d) < 2 ^ 32
few_calls scripts c d lt short =
    let few = All-get_or (λ (script : List ScriptCall). length script ≤ 100000) scripts c d lt short in
    omega (arith, few)
