-- If a document's text is a shipped one, the lines of its report show calls that have a legal order.
use Rattle.std.proofs.Common.{◌≡◌, ◌≢◌, ◌≤◌, ◌<◌, ℕ, zero, suc, ◌+◌, ◌==◌, Bool, true, false, List, [], ◌∷◌, ◌++◌, length, map, take, drop, Some, None, inl, inr, refl, sym, ap, ◌∙◌, subst, arith}
use Rattle.std.proofs.lemmas.List.{length-map, length-append}
use Rattle.std.proofs.lemmas.Bool.Decides.{nat_tests}
use Rattle.std.specs.Prelude.{slice_get, slice_index, if◌then◌else◌}
use Rattle.norm_lang.specs.declared.text.Op.{Op}
use Rattle.norm_lang.specs.declared.reply.SourceReply.{SourceReply}
use Rattle.norm_lang.specs.declared.reply.SourceReply.TheVariants as replies
use Rattle.caller_parts.specs.declared.call.Call.{Call}
use Rattle.caller_parts.specs.declared.call.Running.{Running}
use Rattle.caller_parts.specs.Pairing.{run_of}
use Rattle.caller_steps.specs.Entries.{Entry}
use Rattle.core_runs.specs.Histories.{running_of}
use Rattle.core_runs.specs.Scripts.{script_of, HasEnded}
use Rattle.run_laws.specs.begin_laws.Begins.{BeginsScript}
use Rattle.documents.specs.declared.document.ScriptCall.{ScriptCall}
use Rattle.script_plans.specs.Shapes.{op_number}
use Rattle.script_plans.specs.Plans.{call_of}
use Rattle.document_runs.specs.declared.report.Answer.{Answer}
use Rattle.document_runs.specs.declared.report.Answer.TheVariants as answers
use Rattle.document_runs.specs.Reports.{lines_from, all_lines}
use Rattle.histories.specs.declared.call.Call as told
use Rattle.histories.specs.declared.call.Action.{Action}
use Rattle.histories.specs.declared.call.Answer.TheVariants.{Spent}
use Rattle.histories.specs.Histories.{calls_of}
use Rattle.legal_histories.specs.Told.{AnswerTold, AreTold, NeverBegun}
use Rattle.script_driver.specs.report_laws.Legal.{answer_shown, AreShown}
use Rattle.script_driver.proofs.report_laws.Naming.{AllAsk, EachAsks}

-- ---- the calls that lines show

module _ (action : ℕ → ℕ → Action) (ops : List Op) where
  abbrev pub it_of : ℕ → ScriptCall → Answer → told.Call
  it_of c call answer = record { caller = c; action = action (op_number ops call.name) (slice_index call.args 0); answer = answer_shown answer }

  abbrev pub told_from : (ℕ → Answer) → ℕ → ℕ → List ScriptCall → List told.Call
  told_from answer c i [] = []
  told_from answer c i (call ∷ script) = it_of c call (answer i) ∷ told_from answer c (i + 1) script

  abbrev pub all_told : (ℕ → ℕ → Answer) → ℕ → List (List ScriptCall) → List told.Call
  all_told answer c [] = []
  all_told answer c (script ∷ scripts) = told_from (answer c) c 0 script ++ all_told answer (c + 1) scripts

  shown_from : (answer : ℕ → Answer) (c i : ℕ) (script : List ScriptCall) → AllAsk action ops script → AreShown (lines_from answer c i script) (told_from answer c i script)
  shown_from answer c i [] ask = tt
  shown_from answer c i (call ∷ script) ask = (record { caller = refl; action = ask.0; answer = refl }, shown_from answer c (i + 1) script ask.1)

  pub all_shown : (answer : ℕ → ℕ → Answer) (c : ℕ) (scripts : List (List ScriptCall)) → EachAsks action ops scripts → AreShown (all_lines answer c scripts) (all_told answer c scripts)
  all_shown answer c [] ask = tt
  all_shown answer c (script ∷ scripts) ask = with_more (answer c) c 0 script ask.0 (all_shown answer (c + 1) scripts ask.1)
    where
      with_more : (one : ℕ → Answer) (d i : ℕ) (calls : List ScriptCall) → AllAsk action ops calls → AreShown (all_lines answer (c + 1) scripts) (all_told answer (c + 1) scripts)
          → AreShown (lines_from one d i calls ++ all_lines answer (c + 1) scripts) (told_from one d i calls ++ all_told answer (c + 1) scripts)
      with_more one d i [] asked more = more
      with_more one d i (call ∷ calls) asked more = (record { caller = refl; action = asked.0; answer = refl }, with_more one d (i + 1) calls asked.1 more)

  -- ---- those of one caller

  same_test : (a : ℕ) → (a == a) ≡ true
  same_test a = grind (arith, nat_tests)

  other_test : (a b : ℕ) → b ≢ a → (a == b) ≡ false
  other_test a b ne = grind (arith, nat_tests)

  own_before : (answer : ℕ → Answer) (c i : ℕ) (script : List ScriptCall) (more : List told.Call) → calls_of c (told_from answer c i script ++ more) ≡ told_from answer c i script ++ calls_of c more
  own_before answer c i [] more = refl
  own_before answer c i (call ∷ script) more =
      ap (λ b. if b then it_of c call (answer i) ∷ calls_of c (told_from answer c (i + 1) script ++ more) else calls_of c (told_from answer c (i + 1) script ++ more)) (same_test c)
      ∙ ap (λ l. it_of c call (answer i) ∷ l) (own_before answer c (i + 1) script more)

  other_before : (answer : ℕ → Answer) (d c i : ℕ) (script : List ScriptCall) (more : List told.Call) → c ≢ d → calls_of c (told_from answer d i script ++ more) ≡ calls_of c more
  other_before answer d c i [] more ne = refl
  other_before answer d c i (call ∷ script) more ne =
      ap (λ b. if b then it_of d call (answer i) ∷ calls_of c (told_from answer d (i + 1) script ++ more) else calls_of c (told_from answer d (i + 1) script ++ more)) (other_test d c ne)
      ∙ other_before answer d c (i + 1) script more ne

  before_all : (answer : ℕ → ℕ → Answer) (c k : ℕ) (scripts : List (List ScriptCall)) → c < k → calls_of c (all_told answer k scripts) ≡ []
  before_all answer c k [] lt = refl
  before_all answer c k (script ∷ scripts) lt =
      other_before (answer k) k c 0 script (all_told answer (k + 1) scripts) (λ e. let no : ⊥ = omega (arith, lt, e) in no) ∙ before_all answer c (k + 1) scripts (omega (arith, lt))

  append_none : (xs : List told.Call) → xs ++ [] ≡ xs
  append_none [] = refl
  append_none (x ∷ xs) = ap (λ l. x ∷ l) (append_none xs)

  pub told_of : (answer : ℕ → ℕ → Answer) (c k j : ℕ) (scripts : List (List ScriptCall)) (script : List ScriptCall) → c ≡ k + j → slice_get scripts j ≡ Some script
      → calls_of c (all_told answer k scripts) ≡ told_from (answer c) c 0 script
  told_of answer c k j [] script is there = absurd (let z : None ≡ Some script = there in cc)
  told_of answer c k zero (s ∷ scripts) script is there =
      let same : c ≡ k = omega (arith, is) in
      let here : s ≡ script = (let z : Some s ≡ Some script = there in cc) in
      ap (λ i. calls_of c (told_from (answer i) i 0 s ++ all_told answer (i + 1) scripts)) (sym same) ∙ (own_before (answer c) c 0 s (all_told answer (c + 1) scripts)
      ∙ (ap (λ l. told_from (answer c) c 0 s ++ l) (before_all answer c (c + 1) scripts (omega arith)) ∙ (append_none (told_from (answer c) c 0 s) ∙ ap (λ l. told_from (answer c) c 0 l) here)))
  told_of answer c k (suc j) (s ∷ scripts) script is there =
      other_before (answer k) k c 0 s (all_told answer (k + 1) scripts) (λ e. let no : ⊥ = omega (arith, is, e) in no) ∙ told_of answer c (k + 1) j scripts script (omega (arith, is)) there

  pub none_of : (answer : ℕ → ℕ → Answer) (c k : ℕ) (scripts : List (List ScriptCall)) → k + length scripts ≤ c → calls_of c (all_told answer k scripts) ≡ []
  none_of answer c k [] le = refl
  none_of answer c k (s ∷ scripts) le =
      other_before (answer k) k c 0 s (all_told answer (k + 1) scripts) (λ e. let no : ⊥ = omega (arith, le, e) in no) ∙ none_of answer c (k + 1) scripts (omega (arith, le))

-- ---- what is known of the answers to a caller's calls

-- calls that were begun are the first of a script
abbrev pub Front : List Call → List Call → Type 0
Front [] calls = Unit {0}
Front (x ∷ begun) [] = ⊥
Front (x ∷ begun) (y ∷ calls) = (x ≡ y) × Front begun calls

-- from the call at an index on, by the calls from there on that were begun, and their replies
pub record Answered (answer : ℕ → Answer) (i : ℕ) (begun : List Call) (got : List SourceReply) : Type 0 where
  pub replied : (k j : ℕ) (reply : SourceReply) → k ≡ i + j → answer k ≡ answers.Replied reply → slice_get got j ≡ Some reply
  pub unreached : (k j : ℕ) → k ≡ i + j → answer k ≡ answers.Unreached → length begun ≤ j

next_got : (got : List SourceReply) (j : ℕ) → slice_get (drop 1 got) j ≡ slice_get got (suc j)
next_got [] j = refl
next_got (x ∷ got) j = refl

later : (answer : ℕ → Answer) (i : ℕ) (x : Call) (begun : List Call) (got : List SourceReply) → Answered answer i (x ∷ begun) got → Answered answer (i + 1) begun (drop 1 got)
later answer i x begun got h = record {
  replied = λ k j reply is a. next_got got j ∙ h.replied k (suc j) reply (omega (arith, is)) a;
  unreached = λ k j is a. let le = h.unreached k (suc j) (omega (arith, is)) a in omega (arith, le);
}

none_later : (answer : ℕ → Answer) (i : ℕ) → Answered answer i [] [] → Answered answer (i + 1) [] []
none_later answer i h = record {
  replied = λ k j reply is a. h.replied k (suc j) reply (omega (arith, is)) a;
  unreached = λ k j is a. omega arith;
}

-- ---- one call

never_begun : (answer : ℕ → Answer) (i : ℕ) → Answered answer i [] [] → (a : Answer) → answer i ≡ a → NeverBegun (answer_shown a)
never_begun answer i h (answers.Replied reply) is = absurd (let z : None ≡ Some reply = h.replied i 0 reply (omega arith) is in cc)
never_begun answer i h answers.Spent is = inr refl
never_begun answer i h answers.Unreached is = inl refl

is_spent : (answer : ℕ → Answer) (i : ℕ) (x : Call) (begun : List Call) → Answered answer i (x ∷ begun) [] → (a : Answer) → answer i ≡ a → answer_shown a ≡ Spent
is_spent answer i x begun h (answers.Replied reply) is = absurd (let z : None ≡ Some reply = h.replied i 0 reply (omega arith) is in cc)
is_spent answer i x begun h answers.Spent is = refl
is_spent answer i x begun h answers.Unreached is = let le = h.unreached i 0 (omega arith) is in let no : ⊥ = omega (arith, le) in absurd no

told_reply : (reply : SourceReply) → AnswerTold reply (answer_shown (answers.Replied reply))
told_reply (replies.Number n) = refl
told_reply _ = tt

any_spent : (reply : SourceReply) → AnswerTold reply Spent
any_spent (replies.Number v) = tt
any_spent _ = tt

answer_told : (answer : ℕ → Answer) (i : ℕ) (x : Call) (begun : List Call) (r : SourceReply) (got : List SourceReply) → Answered answer i (x ∷ begun) (r ∷ got) → (a : Answer) → answer i ≡ a → AnswerTold r (answer_shown a)
answer_told answer i x begun r got h (answers.Replied reply) is =
    let same : r ≡ reply = (let z : Some r ≡ Some reply = h.replied i 0 reply (omega arith) is in cc) in
    subst (λ y. AnswerTold y (answer_shown (answers.Replied reply))) (sym same) (told_reply reply)
answer_told answer i x begun r got h answers.Spent is = any_spent r
answer_told answer i x begun r got h answers.Unreached is = let le = h.unreached i 0 (omega arith) is in let no : ⊥ = omega (arith, le) in absurd no

-- ---- a caller's calls

module _ (action : ℕ → ℕ → Action) (ops : List Op) (c : ℕ) (answer : ℕ → Answer) where
  asked : (x : Call) (call : ScriptCall) → x ≡ call_of ops call → action x.op (slice_index x.args 0) ≡ action (op_number ops call.name) (slice_index call.args 0)
  asked x call is = ap (λ (y : Call). action y.op (slice_index y.args 0)) is

  pub are_told : (script : List ScriptCall) (i : ℕ) (begun : List Call) (got : List SourceReply) → Front begun (map (call_of ops) script) → Answered answer i begun got → AreTold action begun got (told_from action ops answer c i script)
  are_told [] i [] [] front h = tt
  are_told [] i [] (r ∷ got) front h = tt
  are_told [] i (x ∷ begun) got front h = absurd front
  are_told (call ∷ script) i [] [] front h = (never_begun answer i h (answer i) refl, are_told script (i + 1) [] [] tt (none_later answer i h))
  are_told (call ∷ script) i [] (r ∷ got) front h = tt
  are_told (call ∷ script) i (x ∷ begun) [] front h = (asked x call front.0, is_spent answer i x begun h (answer i) refl, are_told script (i + 1) begun [] front.1 (later answer i x begun [] h))
  are_told (call ∷ script) i (x ∷ begun) (r ∷ got) front h = (asked x call front.0, answer_told answer i x begun r got h (answer i) refl, are_told script (i + 1) begun got front.1 (later answer i x begun (r ∷ got) h))

-- ---- begun calls, and their count

pub all_front : (calls : List Call) → Front calls calls
all_front [] = tt
all_front (x ∷ calls) = (refl, all_front calls)

pub take_front : (n : ℕ) (calls : List Call) → Front (take n calls) calls
take_front zero calls = tt
take_front (suc n) [] = tt
take_front (suc n) (x ∷ calls) = (refl, take_front n calls)

few_in : (n : ℕ) (calls : List Call) → length (take n calls) ≤ n
few_in zero calls = omega arith
few_in (suc n) [] = omega arith
few_in (suc n) (x ∷ calls) = let more = few_in n calls in omega (arith, more)

-- what is begun of a script are its first calls, no more than were taken
pub record Begun (script : List Call) (begun : List Call) (count : ℕ) : Type 0 where
  pub front : Front begun script
  pub few : length begun ≤ count

-- as many calls were taken as got a reply, and one that runs
pub taken_is : (e : Entry) (idle : Bool) (taken : List Running) → map run_of e.replies ++ running_of idle e ≡ taken → length e.replies + length (running_of idle e) ≡ length taken
taken_is e idle taken kept = sym (length-append (map run_of e.replies) (running_of idle e) ∙ ap (λ n. n + length (running_of idle e)) (length-map e.replies run_of)) ∙ ap length kept

-- all of a script were begun
pub begun_all : (fuel : ℕ) (script : List Call) (taken : List Running) (begun : List Call) → HasEnded fuel script taken true → begun ≡ script → Begun script begun (length taken)
begun_all fuel script taken begun ended begins =
    let same : length begun ≡ length taken = ap length begins ∙ sym ended in
    record { front = subst (λ b. Front b script) (sym begins) (all_front script); few = omega (arith, same) }

-- so many of them, but one more than got a reply at most
pub begun_some : (e : Entry) (script : List Call) (taken : List Running) (begun : List Call) (n : ℕ) → map run_of e.replies ++ running_of false e ≡ taken → begun ≡ take n script → n ≤ length e.replies + 1 → Begun script begun (length taken)
begun_some e script taken begun n kept begins le =
    let count = taken_is e false taken kept in
    let few = few_in n script in
    let same : length begun ≡ length (take n script) = ap length begins in
    record { front = subst (λ b. Front b script) (sym begins) (take_front n script); few = omega (arith, count, few, same, le) }

pub begun_is : (fuel : ℕ) (e : Entry) (idle : Bool) (script : List Call) (taken : List Running) (begun : List Call) → map run_of e.replies ++ running_of idle e ≡ taken → HasEnded fuel script taken idle → BeginsScript idle script e begun
    → Begun script begun (length taken)
begun_is fuel e true script taken begun kept ended begins = begun_all fuel script taken begun ended begins
begun_is fuel e false script taken begun kept ended begins = begun_some e script taken begun (length e.replies + 1) kept begins (omega arith)

pub script_there : (ops : List Op) (scripts : List (List ScriptCall)) (c : ℕ) (script : List ScriptCall) → slice_get scripts c ≡ Some script → script_of (map (map (call_of ops)) scripts) c ≡ map (call_of ops) script
script_there ops [] c script there = absurd (let z : None ≡ Some script = there in cc)
script_there ops (s ∷ scripts) zero script there = let same : s ≡ script = (let z : Some s ≡ Some script = there in cc) in ap (map (call_of ops)) same
script_there ops (s ∷ scripts) (suc c) script there = script_there ops scripts c script there
