-- What holds of the answer to each call holds of each line, and what answers say.
use Rattle.std.proofs.Common.{◌≡◌, ◌<◌, ℕ, zero, suc, ◌+◌, Bool, true, false, ◌&&◌, not, ◌==◌, eq-eqb, List, [], ◌∷◌, length, map, Option, Some, None, refl, sym, ap, ◌∙◌, arith}
use Rattle.std.proofs.lemmas.Bool.{eqb-true}
use Rattle.std.proofs.lemmas.List.Elements.{All-nil, All-cons, All-append}
use Rattle.std.proofs.lemmas.Option.{slice_get-map}
use Rattle.std.specs.Prelude.{slice_get}
use Rattle.std.specs.List.{All}
use Rattle.std.specs.Option.{option_map}
use Rattle.norm_lang.specs.declared.reply.SourceReply.{SourceReply}
use Rattle.caller_parts.specs.declared.call.Replied.{Replied}
use Rattle.caller_parts.specs.Pairing.{reply_of}
use Rattle.caller_steps.specs.Entries.{Entry, is_idle}
use Rattle.core_runs.specs.Machine.{CoreState}
use Rattle.documents.specs.declared.document.ScriptCall.{ScriptCall}
use Rattle.document_runs.specs.declared.report.Answer.TheVariants as answers
use Rattle.document_runs.specs.declared.report.ReportLine.{ReportLine}
use Rattle.document_runs.specs.Reports.{answer_from, answer_by, answer_in, line_of, lines_from, all_lines}

-- ---- whether a call runs

abbrev pub runs_at : Bool → ℕ → ℕ → Bool
runs_at idle i n = not idle && (i == n)

pub runs_true : (idle : Bool) (i n : ℕ) → runs_at idle i n ≡ true → (idle ≡ false) × (i ≡ n)
runs_true true i n is = cc
runs_true false i n is = (refl, eqb-true i n is)

pub runs_false : (idle : Bool) (i n : ℕ) → runs_at idle i n ≡ false → idle ≡ false → i ≡ n → ⊥
runs_false true i n is busy same = let z : true ≡ false = busy in cc
runs_false false i n is busy same = let z : true ≡ false = sym (eq-eqb i n same) ∙ is in cc

pub replied_is : (a b : SourceReply) → answers.Replied a ≡ answers.Replied b → a ≡ b
replied_is a b is = cc

-- ---- the answer to a call

abbrev pub still : Entry → ℕ → Bool
still e i = runs_at (is_idle e.routine) i (length (map reply_of e.replies))

module _ (state : CoreState) (c : ℕ) (e : Entry) (there : slice_get state.entries c ≡ Some e) (i : ℕ) where
  pub answer_is : answer_in state c i ≡ answer_from (option_map reply_of (slice_get e.replies i)) (still e i)
  answer_is = ap (λ (o : Option Entry). answer_by o i) there ∙ ap (λ (o : Option SourceReply). answer_from o (still e i)) (slice_get-map reply_of e.replies i)

  -- the reply that an answer is
  pub told_reply : (reply : SourceReply) → answer_in state c i ≡ answers.Replied reply → (replied : Replied) × (slice_get e.replies i ≡ Some replied) × (replied.reply ≡ reply)
  told_reply reply is = of (slice_get e.replies i) refl (sym answer_is ∙ is) where
    un : (b : Bool) → answer_from None b ≡ answers.Replied reply → ⊥
    un true z = cc
    un false z = cc

    of : (o : Option Replied) → slice_get e.replies i ≡ o → answer_from (option_map reply_of o) (still e i) ≡ answers.Replied reply
        → (replied : Replied) × (slice_get e.replies i ≡ Some replied) × (replied.reply ≡ reply)
    of None none z = absurd (un (still e i) z)
    of (Some replied) there z = (replied, there, replied_is replied.reply reply z)

-- ---- all lines

entry_there : (es : List Entry) (c : ℕ) → c < length es → (e : Entry) × (slice_get es c ≡ Some e)
entry_there [] c lt = absurd (omega (arith, lt))
entry_there (e ∷ es) zero lt = (e, refl)
entry_there (e ∷ es) (suc c) lt = entry_there es c (omega (arith, lt))

module _ (state : CoreState) (P : ReportLine → Type 0) (each : (c i : ℕ) (call : ScriptCall) (e : Entry) → slice_get state.entries c ≡ Some e → P (line_of c i call (answer_in state c i))) where
  each_line : (c i : ℕ) (e : Entry) (script : List ScriptCall) → slice_get state.entries c ≡ Some e → All P (lines_from (answer_in state c) c i script)
  each_line c i e [] there = All-nil P
  each_line c i e (call ∷ script) there =
      All-cons P (line_of c i call (answer_in state c i)) (lines_from (answer_in state c) c (i + 1) script) (each c i call e there) (each_line c (i + 1) e script there)

  pub every_line : (c : ℕ) (scripts : List (List ScriptCall)) → c + length scripts ≡ length state.entries → All P (all_lines (answer_in state) c scripts)
  every_line c [] count = All-nil P
  every_line c (script ∷ scripts) count =
      let e = entry_there state.entries c (omega (arith, count)) in
      All-append P (lines_from (answer_in state c) c 0 script) (all_lines (answer_in state) (c + 1) scripts) (each_line c 0 e.0 script e.1) (every_line (c + 1) scripts (omega (arith, count)))
