-- The report of a document of a shipped text has a legal history.
use Rattle.std.proofs.Common.{◌≡◌, ◌≤◌, ◌<◌, ℕ, zero, suc, List, [], ◌∷◌, length, Some, None, refl, sym, ap, ◌∙◌, subst, arith}
use Rattle.std.specs.Prelude.{slice_get}
use Rattle.norm_lang.specs.declared.text.Text.{Text}
use Rattle.text_laws.specs.StandsFor.{ShippedText, TheList, TheSet, TheQueue, IsShipped, shipped_text}
use Rattle.source_machine.specs.declared.event.SourceEvent.{SourceEvent}
use Rattle.source_machine.specs.declared.state.SourceMachine.{SourceMachine}
use Rattle.source_machine.specs.Run.{IsSourceRun, source_replies}
use Rattle.caller_parts.specs.declared.call.Call.{Call}
use Rattle.caller_steps.specs.Entries.{Entry, is_idle}
use Rattle.core_runs.specs.Machine.{CoreState, CoreEvent}
use Rattle.core_runs.specs.Histories.{calls_in}
use Rattle.core_runs.specs.Scripts.{script_of}
use Rattle.core_runs.proofs.Keeping.{kept_calls}
use Rattle.oa_simulation.specs.Shadow.{image}
use Rattle.run_laws.specs.begin_laws.Begins.{begun_in}
use Rattle.run_laws.specs.Source.{FollowsSource}
use Rattle.documents.specs.declared.document.ScriptCall.{ScriptCall}
use Rattle.documents.specs.declared.document.Document.{Document}
use Rattle.script_plans.specs.Shapes.{setting_of}
use Rattle.script_plans.specs.Plans.{target_of, calls_of as scripts_of, IsRunnable}
use Rattle.document_runs.specs.declared.report.Answer.TheVariants as answers
use Rattle.document_runs.specs.Reports.{answer_in, report_of}
use Rattle.document_runs.specs.Runs.{IsCompleteRunOf}
use Rattle.histories.specs.declared.call.Action.{Action}
use Rattle.legal_histories.specs.Told.{set_action, queue_action, AreTold, IsLegalWhereTold, SetRunsAreLegal, QueueRunsAreLegal}
use Rattle.script_driver.specs.report_laws.Sources.{IsSourceAnswer, source_of, IsNamed}
use Rattle.script_driver.specs.report_laws.Lines.{IsTrueAnswer}
use Rattle.script_driver.specs.report_laws.Legal.{HasLegalHistory}
use Rattle.script_driver.proofs.report_laws.Naming.{EachAsks, set_document_asks, queue_document_asks}
use Rattle.script_driver.proofs.report_laws.Legal.{told_from, all_told, all_shown, told_of, none_of, Front, are_told, Begun, begun_is, script_there}

here : {A : Type 0} (xs : List A) (i : ℕ) → i < length xs → (x : A) × (slice_get xs i ≡ Some x)
here [] i lt = let no : ⊥ = omega (arith, lt) in absurd no
here (x ∷ xs) zero lt = (x, refl)
here (x ∷ xs) (suc i) lt = here xs i (omega (arith, lt))

there_below : {A : Type 0} (xs : List A) (i : ℕ) (x : A) → slice_get xs i ≡ Some x → i < length xs
there_below [] i x is = absurd (let z : None ≡ Some x = is in cc)
there_below (y ∷ xs) zero x is = omega arith
there_below (y ∷ xs) (suc i) x is = let more = there_below xs i x is in omega (arith, more)

pub none_past : {A : Type 0} (xs : List A) (i : ℕ) → slice_get xs i ≡ None → length xs ≤ i
none_past [] i none = omega arith
none_past (x ∷ xs) zero none = absurd (let z : Some x ≡ None = none in cc)
none_past (x ∷ xs) (suc i) none = let le = none_past xs i none in omega (arith, le)

-- ---- by what either scheme gives: where the source is after the events of a run of a document, of which each caller has begun the first
-- calls of its script, and each line's answer is the source's

module _ (document : Document) (state : CoreState) (image : List SourceEvent) (machine : SourceMachine) (run : IsSourceRun document.text (length document.scripts) image machine) (count : length document.scripts ≡ length state.entries)
    (fronts : (c : ℕ) (e : Entry) → slice_get state.entries c ≡ Some e → c < length document.scripts → Front (begun_in c image) (script_of (scripts_of document) c))
    (unreached : (c : ℕ) (e : Entry) → slice_get state.entries c ≡ Some e → c < length document.scripts → (i : ℕ) → answer_in state c i ≡ answers.Unreached → length (begun_in c image) ≤ i)
    (sources : (c : ℕ) (e : Entry) → slice_get state.entries c ≡ Some e → (i : ℕ) → IsSourceAnswer machine c i (answer_in state c i)) where
  module _ (action : ℕ → ℕ → Action) (c : ℕ) (script : List ScriptCall) (at : slice_get document.scripts c ≡ Some script) (e : Entry) (there : slice_get state.entries c ≡ Some e) where
    caller_told : AreTold action (begun_in c image) (source_replies machine c) (told_from action document.text.ops (answer_in state c) c 0 script)
    caller_told = are_told action document.text.ops c (answer_in state c) script 0 (begun_in c image) (source_replies machine c)
        (subst (λ l. Front (begun_in c image) l) (script_there document.text.ops document.scripts c script at) (fronts c e there (there_below document.scripts c script at)))
        (record {
          replied = λ k j reply is a. ap (λ i. slice_get (source_replies machine c) i) (sym (let z : k ≡ j = omega (arith, is) in z)) ∙ (sources c e there k).replied reply a;
          unreached = λ k j is a. let le = unreached c e there (there_below document.scripts c script at) k a in omega (arith, is, le);
        })

  has_history : (action : ℕ → ℕ → Action) → EachAsks action document.text.ops document.scripts → IsLegalWhereTold action (length document.scripts) image machine → HasLegalHistory (report_of document state)
  has_history action ask legal = (
    all_told action document.text.ops (answer_in state) 0 document.scripts,
    all_shown action document.text.ops (answer_in state) 0 document.scripts ask,
    legal (all_told action document.text.ops (answer_in state) 0 document.scripts)
        (λ c lt.
        let (script, at) = here document.scripts c lt in
        let (e, there) = here state.entries c (omega (arith, lt, count)) in
        subst (λ l. AreTold action (begun_in c image) (source_replies machine c) l) (sym (told_of action document.text.ops (answer_in state) c 0 c document.scripts script (omega arith) at)) (caller_told action c script at e there))
        (λ c le. none_of action document.text.ops (answer_in state) c 0 document.scripts (omega (arith, le))),
  )

  abbrev RunOf : Text → Type 0
  RunOf text = IsSourceRun text (length document.scripts) image machine

  by_text : SetRunsAreLegal → QueueRunsAreLegal → IsRunnable document → (shipped : ShippedText) → IsShipped shipped → document.text ≡ shipped_text shipped → HasLegalHistory (report_of document state)
  by_text sets queues can TheList may is = has_history set_action (set_document_asks 1 document is can.shape) (sets 1 (length document.scripts) image machine (omega arith) (subst RunOf is run))
  by_text sets queues can (TheSet buckets) may is =
      has_history set_action (set_document_asks buckets document is can.shape) (sets buckets (length document.scripts) image machine (let some = may.0 in omega (arith, some)) (subst RunOf is run))
  by_text sets queues can TheQueue may is = has_history queue_action (queue_document_asks document is can.shape) (queues (length document.scripts) image machine (subst RunOf is run))

  pub is_legal_where_sourced : SetRunsAreLegal → QueueRunsAreLegal → IsRunnable document → (words : List (List ℕ)) → IsNamed words document.text → HasLegalHistory (report_of document state)
  is_legal_where_sourced sets queues can words named = by_text sets queues can named.shipped named.may_be named.same

-- ---- under optimistic access

module _ (document : Document) (events : List CoreEvent) (state : CoreState) (complete : IsCompleteRunOf document events state)
    (run : FollowsSource (target_of document) document.text (setting_of document) (scripts_of document) events state)
    (count : length document.scripts ≡ length state.entries)
    (causes : (c : ℕ) (e : Entry) → slice_get state.entries c ≡ Some e → (i : ℕ) → IsTrueAnswer document events state c i (answer_in state c i))
    (sources : (c : ℕ) (e : Entry) → slice_get state.entries c ≡ Some e → (i : ℕ) → IsSourceAnswer (source_of document events) c i (answer_in state c i)) where
  abbrev begun : ℕ → List Call
  begun c = begun_in c (image (target_of document) document.text (setting_of document) events)

  begins : (c : ℕ) (e : Entry) → slice_get state.entries c ≡ Some e → Begun (script_of (scripts_of document) c) (begun c) (length (calls_in c events))
  begins c e there = begun_is document.fuel e (is_idle e.routine) (script_of (scripts_of document) c) (calls_in c events) (begun c)
      (kept_calls (target_of document) (setting_of document) events state c e complete.run.runs there) (complete.ended c e there) (run.begins c e there)

  pub has_legal_history : SetRunsAreLegal → QueueRunsAreLegal → IsRunnable document → (words : List (List ℕ)) → IsNamed words document.text → HasLegalHistory (report_of document state)
  has_legal_history = is_legal_where_sourced document state (image (target_of document) document.text (setting_of document) events) (source_of document events) run.refined.run count
      (λ c e there lt. (begins c e there).front)
      (λ c e there lt i is.
      let few = (begins c e there).few in
      let le = none_past (calls_in c events) i ((causes c e there i).unreached.0 is) in
      omega (arith, few, le))
      sources
