-- What is printed is what the source answers, and its begins are those of the scripts.
use Rattle.std.proofs.Common.{◌≡◌, ◌⊎◌, inl, inr, ◌≤◌, ◌<◌, ℕ, zero, suc, ◌+◌, Bool, true, false, List, [], ◌∷◌, ◌++◌, length, map, Option, Some, None, refl, sym, ap, ◌∙◌, subst, arith}
use Rattle.std.proofs.lemmas.List.{length-map}
use Rattle.std.proofs.lemmas.Option.{slice_get-map}
use Rattle.std.specs.Prelude.{slice_get}
use Rattle.std.specs.Option.{option_map}
use Rattle.norm_lang.specs.declared.text.Text.{Text}
use Rattle.norm_lang.specs.Shipped.{set_text, queue_text}
use Rattle.text_laws.specs.StandsFor.{ShippedText, TheList, TheSet, TheQueue, IsShipped, shipped_text}
use Rattle.target_laws.specs.target_runs.Runnable.{MayBeWalked as MayRun}
use Rattle.norm_lang.specs.declared.reply.SourceReply.{SourceReply}
use Rattle.source_machine.specs.declared.state.SourceMachine.{SourceMachine}
use Rattle.source_machine.specs.Run.{source_replies}
use Rattle.source_machine.specs.Proper.{IsProper, IsProperFor, IsProperForAny}
use Rattle.caller_parts.specs.declared.call.Replied.{Replied}
use Rattle.caller_parts.specs.Pairing.{reply_of}
use Rattle.caller_parts.specs.Settings.{Fits, IsSetting}
use Rattle.caller_steps.specs.Entries.{Entry, is_idle}
use Rattle.core_runs.specs.Machine.{CoreState, CoreEvent}
use Rattle.oa_simulation.specs.sim_relation.Callers.{replies_of}
use Rattle.oa_simulation.specs.Statements.{AgreesWith}
use Rattle.barrier_check.specs.Paired.{Paired, IsSound}
use Rattle.run_laws.proofs.Following.{follows}
use Rattle.documents.specs.declared.document.Document.{Document}
use Rattle.script_plans.specs.Shapes.{setting_of}
use Rattle.script_plans.specs.Plans.{target_of, calls_of}
use Rattle.document_runs.specs.declared.report.Answer.TheVariants as answers
use Rattle.document_runs.specs.Reports.{answer_from, answer_in, report_of}
use Rattle.document_runs.specs.Runs.{IsCompleteRunOf}
use Rattle.script_driver.specs.report_laws.Sources.{IsSourceAnswer, IsSourceLine, source_of, HasSourceRun, IsNamed}
use Rattle.script_driver.proofs.report_laws.EachLine.{runs_true, runs_false, replied_is, still, answer_is, every_line}
use Rattle.target_code.specs.Barred.{IsBarred}

-- ---- one call

still_there : {A : Type 0} (xs more : List A) (i : ℕ) (x : A) → slice_get xs i ≡ Some x → slice_get (xs ++ more) i ≡ Some x
still_there [] more i x is = absurd (let z : None ≡ Some x = is in cc)
still_there (y ∷ xs) more zero x is = is
still_there (y ∷ xs) more (suc i) x is = still_there xs more i x is

none_past : {A : Type 0} (xs : List A) (i : ℕ) → slice_get xs i ≡ None → length xs ≤ i
none_past [] i none = omega arith
none_past (x ∷ xs) zero none = absurd (let z : Some x ≡ None = none in cc)
none_past (x ∷ xs) (suc i) none = let le = none_past xs i none in omega (arith, le)

one_longer : (xs : List SourceReply) (x : SourceReply) → length (xs ++ x ∷ []) ≡ length xs + 1
one_longer [] x = refl
one_longer (y ∷ xs) x = let more = one_longer xs x in omega (arith, more)

module _ (machine : SourceMachine) (state : CoreState) (c : ℕ) (e : Entry) (there : slice_get state.entries c ≡ Some e)
    (agrees : AgreesWith (is_idle e.routine) (replies_of e) (source_replies machine c)) (i : ℕ) where
  count_is : length (replies_of e) ≡ length e.replies
  count_is = length-map e.replies reply_of

  same_reply : (replied : Replied) → slice_get e.replies i ≡ Some replied → slice_get (replies_of e) i ≡ Some replied.reply
  same_reply replied is = slice_get-map reply_of e.replies i ∙ ap (option_map reply_of) is

  reply_there : (replied : Replied) → slice_get e.replies i ≡ Some replied → (b : Bool) → AgreesWith b (replies_of e) (source_replies machine c)
      → slice_get (source_replies machine c) i ≡ Some replied.reply
  reply_there replied is true same = ap (λ (l : List SourceReply). slice_get l i) same ∙ same_reply replied is
  reply_there replied is false (inl same) = ap (λ (l : List SourceReply). slice_get l i) same ∙ same_reply replied is
  reply_there replied is false (inr more) = ap (λ (l : List SourceReply). slice_get l i) more.1 ∙ still_there (replies_of e) (more.0 ∷ []) i replied.reply (same_reply replied is)

  told : (replied : Replied) → slice_get e.replies i ≡ Some replied → IsSourceAnswer machine c i (answers.Replied replied.reply)
  told replied is = record {
    replied = λ reply z. reply_there replied is (is_idle e.routine) agrees ∙ ap Some (replied_is replied.reply reply z);
    spent = λ z. absurd (let no : answers.Replied replied.reply ≡ answers.Spent = z in cc);
    unreached = λ z. absurd (let no : answers.Replied replied.reply ≡ answers.Unreached = z in cc);
  }

  -- how many replies there are in the source
  spent_count : (b : Bool) → b ≡ false → AgreesWith b (replies_of e) (source_replies machine c) → i ≡ length e.replies
      → (length (source_replies machine c) ≡ i) ⊎ (length (source_replies machine c) ≡ i + 1)
  spent_count true busy same last = absurd (let no : true ≡ false = busy in cc)
  spent_count false busy (inl same) last = inl (ap length same ∙ (count_is ∙ sym last))
  spent_count false busy (inr more) last = inr (ap length more.1 ∙ (one_longer (replies_of e) more.0 ∙ ap (λ (n : ℕ). n + 1) (count_is ∙ sym last)))

  unreached_count : (b : Bool) → AgreesWith b (replies_of e) (source_replies machine c) → length e.replies ≤ i → (b ≡ false → i ≡ length e.replies → ⊥) → length (source_replies machine c) ≤ i
  unreached_count true same le past = subst (λ (n : ℕ). n ≤ i) (sym (ap length same ∙ count_is)) le
  unreached_count false (inl same) le past = subst (λ (n : ℕ). n ≤ i) (sym (ap length same ∙ count_is)) le
  unreached_count false (inr more) le past = subst (λ (n : ℕ). n ≤ i) (sym (ap length more.1 ∙ (one_longer (replies_of e) more.0 ∙ ap (λ (n : ℕ). n + 1) count_is)))
      (let other = past refl in let less : length e.replies < i = below (length e.replies) i le (λ z. other (sym z)) in omega (arith, less)) where
        below : (n m : ℕ) → n ≤ m → (n ≡ m → ⊥) → n < m
        below n m le ne = omega (arith, le, ne)

  untold : slice_get e.replies i ≡ None → (b : Bool) → still e i ≡ b → IsSourceAnswer machine c i (answer_from None b)
  untold none true is = record {
    replied = λ reply z. absurd (let no : answers.Spent ≡ answers.Replied reply = z in cc);
    spent = λ z. let parts = runs_true (is_idle e.routine) i (length (map reply_of e.replies)) is in spent_count (is_idle e.routine) parts.0 agrees (parts.1 ∙ length-map e.replies reply_of);
    unreached = λ z. absurd (let no : answers.Spent ≡ answers.Unreached = z in cc);
  }
  untold none false is = record {
    replied = λ reply z. absurd (let no : answers.Unreached ≡ answers.Replied reply = z in cc);
    spent = λ z. absurd (let no : answers.Unreached ≡ answers.Spent = z in cc);
    unreached = λ z. unreached_count (is_idle e.routine) agrees (none_past e.replies i none)
        (λ busy last. runs_false (is_idle e.routine) i (length (map reply_of e.replies)) is busy (last ∙ sym (length-map e.replies reply_of)));
  }

  pub source_answer : IsSourceAnswer machine c i (answer_in state c i)
  source_answer = subst (IsSourceAnswer machine c i) (sym (answer_is state c e there i)) (of (slice_get e.replies i) refl) where
    of : (o : Option Replied) → slice_get e.replies i ≡ o → IsSourceAnswer machine c i (answer_from (option_map reply_of o) (still e i))
    of None none = untold none (still e i) refl
    of (Some replied) is = told replied is

-- ---- the whole

pub has_source_run : (document : Document) (events : List CoreEvent) (state : CoreState) → MayRun (target_of document) document.text → IsBarred (target_of document) document.text → IsSetting (setting_of document) → Fits (target_of document) (setting_of document)
    → 1 ≤ document.fuel → 0 + length document.scripts ≡ length state.entries → IsCompleteRunOf document events state → IsProperFor (length document.scripts) document.text → HasSourceRun document events state (report_of document state)
has_source_run document events state may barred own fits some count complete proper =
    let pair : Paired = record { target = target_of document; source = document.text } in
    let sound : IsSound pair = record { small = may.small; normal = may.normal; within = may.within; barred = barred } in
    let run = follows pair (setting_of document) sound own fits refl proper (calls_of document) document.fuel events state some complete in
    record {
      run = run;
      lines = every_line state (IsSourceLine (source_of document events)) (λ c i call e there. source_answer (source_of document events) state c e there (run.refined.agrees c e there) i) 0 document.scripts count;
    }

-- ---- shipped texts

abbrev pub SetsAreProper : Type 0
SetsAreProper = (buckets : ℕ) → 0 < buckets → IsProperForAny (set_text buckets)

proper_by : SetsAreProper → IsProperForAny queue_text → (shipped : ShippedText) → IsShipped shipped → IsProper (shipped_text shipped)
proper_by sets queue TheList may = sets 1 (omega arith) 8
proper_by sets queue (TheSet buckets) may = let some = may.0 in sets buckets (omega (arith, some)) 8
proper_by sets queue TheQueue may = queue 8

pub named_is_proper : SetsAreProper → IsProperForAny queue_text → (words : List (List ℕ)) (text : Text) → IsNamed words text → IsProper text
named_is_proper sets queue words text named = subst IsProper (sym named.same) (proper_by sets queue named.shipped named.may_be)
