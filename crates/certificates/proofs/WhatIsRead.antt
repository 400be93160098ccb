-- A certificate that is read is one that can be told: its numbers are numbers of their types, its begins are of calls of the text, and it has a
-- list of replies for each script.
use Rattle.std.specs.Prelude.{◌≡◌, ℕ, zero, suc, ◌+◌, ◌-◌, ◌<◌, ◌≤◌, ◌&&◌, ◌==◌, not, Bool, true, false, cond, List, [], ◌∷◌, ◌++◌, length, take, drop, replicate, Option, Some, None, slice_get, slice_set, Result, Ok, Err, IfOk, codes, nat_lt, nat_le}
use Rattle.std.specs.List.{list_all, position_or_len}
use Rattle.std.specs.Str.{bytes_eq}
use Rattle.std.proofs.Common.{refl, ap, sym, ◌∙◌, subst, arith, length-append}
use Rattle.std.proofs.lemmas.Bool.{and_parts, and_from, eqb-true, eq-eqb, ltb-true}
use Rattle.std.proofs.lemmas.Bool.Decides.{nat_tests}
use Rattle.std.proofs.lemmas.List.{length-set, length-replicate}
use Rattle.std.proofs.lemmas.List.Folds.{list_all-append}
use Rattle.oa_text.specs.Lines.{TextLine, lines_of, numbered}
use Rattle.norm_lang.specs.declared.text.Op.{Op}
use Rattle.norm_lang.specs.declared.text.Text.{Text}
use Rattle.norm_lang.specs.Faults.{form_fault, number_fault, unknown_name, ◌>>=◌, LineFault, demand, or_fault, at_line}
use Rattle.norm_lang.specs.LineWords.{number_in, end_at, word_at, value_of}
use Rattle.norm_lang.specs.Limits.{is_number, is_op, is_within_limits, is_reply}
use Rattle.line_words.specs.Lines.{words_in, first_word}
use Rattle.source_machine.specs.declared.event.SourceEvent.{SourceEvent}
use Rattle.source_machine.specs.declared.event.SourceEvent.TheVariants as events
use Rattle.norm_lang.specs.declared.reply.SourceReply.{SourceReply}
use Rattle.norm_lang.specs.Arguments.{are_words}
use Rattle.source_machine.specs.Run.{is_call_of, is_call}
use Rattle.documents.specs.declared.document.Document.{Document}
use Rattle.documents.specs.DocumentRead.{document_read}
use Rattle.text_laws.proofs.Readings.{then_has, anyhow, demanded, either}
use Rattle.text_laws.proofs.LineLimits.{Fits, number_in_fits, number_then, name_then, value_then, up_to_then}
use Rattle.text_laws.proofs.DraftLimits.{at_line_has}
use Rattle.text_laws.proofs.WithinLimits.{OpParts, op_parts_of, parts_of}
use Rattle.document_spelling.proofs.DocumentParts.{is_stated}
use Rattle.certificates.specs.declared.account.Account.{Account}
use Rattle.certificates.specs.declared.certificate.Certificate.{Certificate}
use Rattle.certificates.specs.declared.numbers.Numbers.{Numbers}
use Rattle.certificates.specs.declared.replies.Claim.{Claim}
use Rattle.certificates.specs.EventLines.{caller_in, no_numbers, counted, with_number, numbers_from, op_named, may_take, may_take_at, begin_line, access_line, lone_caller, phases_line, event_line, ReplyWord, Spelled, Nothing, Full, Phases, reply_by, reply_of, may_reply, claim_line}
use Rattle.certificates.specs.Accounts.{grown, list_at, with_claim, no_account, after_word, after_words, after_line, after_lines}
use Rattle.certificates.specs.CertificateRead.{Cut, cut_from, events_line, certificate_of, whole, read_at, certificate_read}
use Rattle.certificates.specs.CertificateLaws.{is_caller, is_event, IsTold, WhatIsReadIsTold}
use Rattle.certificates.proofs.EventsRead.{passes_at}

-- ---- numbers

-- numbers that are read: four words, and those past the count are 0
record AreGood (numbers : Numbers) : Type 0 where
  four : length numbers.words ≡ 4
  fit : list_all is_number numbers.words ≡ true
  zeros : list_all (λ word. word == 0) (drop numbers.count numbers.words) ≡ true

set_passes : (test : ℕ → Bool) (xs : List ℕ) (i n : ℕ) → list_all test xs ≡ true → test n ≡ true → list_all test (slice_set xs i n) ≡ true
set_passes test [] i n all passes = refl
set_passes test (x ∷ xs) zero n all passes = and_from (test n) (list_all test xs) passes (and_parts (test x) (list_all test xs) all).1
set_passes test (x ∷ xs) (suc i) n all passes =
    let parts = and_parts (test x) (list_all test xs) all in
    and_from (test x) (list_all test (slice_set xs i n)) parts.0 (set_passes test xs i n parts.1 passes)

fewer : (test : ℕ → Bool) (k : ℕ) (xs : List ℕ) → list_all test (drop k xs) ≡ true → list_all test (drop (suc k) xs) ≡ true
fewer test zero [] all = refl
fewer test zero (x ∷ xs) all = (and_parts (test x) (list_all test xs) all).1
fewer test (suc k) [] all = refl
fewer test (suc k) (x ∷ xs) all = fewer test k xs all

behind_set : (test : ℕ → Bool) (k : ℕ) (xs : List ℕ) (n : ℕ) → list_all test (drop k xs) ≡ true → list_all test (drop (suc k) (slice_set xs k n)) ≡ true
behind_set test zero [] n all = refl
behind_set test zero (x ∷ xs) n all = (and_parts (test x) (list_all test xs) all).1
behind_set test (suc k) [] n all = refl
behind_set test (suc k) (x ∷ xs) n all = behind_set test k xs n all

none_past : (test : ℕ → Bool) (k : ℕ) (xs : List ℕ) → length xs ≤ k → list_all test (drop k xs) ≡ true
none_past test zero [] short = refl
none_past test zero (x ∷ xs) short = absurd (omega (arith, short))
none_past test (suc k) [] short = refl
none_past test (suc k) (x ∷ xs) short = none_past test k xs (omega (arith, short))

not_below : (k n : ℕ) → nat_lt k n ≡ false → n ≤ k
not_below k n e = grind (arith, nat_tests, e)

-- one more is counted, or none as there are more than 4
counted_is : (k : ℕ) (P : ℕ → Type 0) → P (suc k) → (5 ≤ k → P k) → P (counted k)
counted_is k P more same = of (nat_lt k 5) refl where
  of : (b : Bool) → nat_lt k 5 ≡ b → P (cond b (k + 1) k)
  of true e = let one : suc k ≡ k + 1 = omega arith in subst P one more
  of false e = same (not_below k 5 e)

good_more : (numbers : Numbers) (number : Option ℕ) → AreGood numbers → Fits number → AreGood (with_number numbers number)
good_more numbers None good fits = record {
  four = good.four;
  fit = good.fit;
  zeros = counted_is numbers.count (λ k. list_all (λ word. word == 0) (drop k numbers.words) ≡ true) (fewer (λ word. word == 0) numbers.count numbers.words good.zeros) (λ great. good.zeros);
}
good_more numbers (Some value) good fits =
    let words : List ℕ = slice_set numbers.words numbers.count value in
    let long : length words ≡ 4 = length-set numbers.words numbers.count value ∙ good.four in
    record {
      four = long;
      fit = set_passes is_number numbers.words numbers.count value good.fit fits;
      zeros = counted_is numbers.count (λ k. list_all (λ word. word == 0) (drop k words) ≡ true) (behind_set (λ word. word == 0) numbers.count numbers.words value good.zeros)
          (λ great. none_past (λ word. word == 0) numbers.count words (omega (arith, long, great)));
    }

good_numbers : (words : List (List ℕ)) (numbers : Numbers) → AreGood numbers → IfOk (numbers_from numbers words) AreGood
good_numbers [] numbers good = good
good_numbers (word ∷ words) numbers good =
    then_has (number_in word) _ Fits AreGood (number_in_fits word) λ number fits. good_numbers words (with_number numbers number) (good_more numbers number good fits)

no_good : AreGood no_numbers
no_good = record { four = refl; fit = refl; zeros = refl }

-- ---- events

-- an operation that is named stands among the operations
stands : (ops : List Op) (name : List ℕ) (at : ℕ) → op_named ops name ≡ Some at → at < length ops
stands ops name at e = of (nat_lt (position_or_len (λ (op : Op). bytes_eq op.name name) ops) (length ops)) refl e where
  of : (b : Bool) → nat_lt (position_or_len (λ (op : Op). bytes_eq op.name name) ops) (length ops) ≡ b
      → cond b (Some (position_or_len (λ (op : Op). bytes_eq op.name name) ops)) None ≡ Some at → at < length ops
  of true below h =
      let same : position_or_len (λ (op : Op). bytes_eq op.name name) ops ≡ at = cc in
      subst (λ k. k < length ops) same (ltb-true _ (length ops) below)
  of false below h = absurd (let f : ⊥ = cc in f)

got : {A : Type 0} (xs : List A) (at : ℕ) → at < length xs → (x : A) × (slice_get xs at ≡ Some x)
got [] at below = absurd (omega (arith, below))
got (x ∷ xs) zero below = (x, refl)
got (x ∷ xs) (suc at) below = got xs at (omega (arith, below))

-- what is read in two steps has P if the second step gives it for the value of the first
then_is : {A B E : Type 0} (r : Result A E) (f : A → Result B E) (P : B → Type 0) → ((x : A) → r ≡ Ok x → IfOk (f x) P) → IfOk (r >>= f) P
then_is (Ok x) f P next = next x refl
then_is (Err e) f P next = tt

module _ (text : Text) (within : is_within_limits text ≡ true) where
  call_is : (op : ℕ) (numbers : Numbers) → AreGood numbers → op < length text.ops → may_take_at text.ops (Some op) numbers.count ≡ true → is_call text op numbers.words ≡ true
  call_is op numbers good below takes =
      let o = got text.ops op below in
      let parts = (parts_of text within).ops in
      let is : OpParts (length text.kinds) (length text.fields) (length text.roots) o.0
      = op_parts_of (length text.kinds) (length text.fields) (length text.roots) o.0
      (passes_at (is_op (length text.kinds) (length text.fields) (length text.roots)) text.ops op o.0 o.1 parts.each) in
      let takes_so : may_take numbers.count (Some o.0) ≡ true = ap (may_take numbers.count) (sym o.1) ∙ takes in
      let count : numbers.count ≡ o.0.args = eqb-true numbers.count o.0.args takes_so in
      let words : are_words numbers.words ≡ true = and_from (length numbers.words == 4) (list_all is_number numbers.words) (eq-eqb (length numbers.words) 4 good.four) good.fit in
      let zeros : list_all (λ word. word == 0) (drop o.0.args numbers.words) ≡ true = ap (λ (k : ℕ). list_all (λ word. word == 0) (drop k numbers.words)) (sym count) ∙ good.zeros in
      ap (λ (x : Option Op). is_call_of x numbers.words) o.1 ∙ and_from (are_words numbers.words) (list_all (λ word. word == 0) (drop o.0.args numbers.words)) words zeros

  -- what is read behind the operation's name
  named_told : (caller : Option ℕ) (numbers : Numbers) (op : Option ℕ) → ((at : ℕ) → op ≡ Some at → at < length text.ops) → Fits caller → AreGood numbers → may_take_at text.ops op numbers.count ≡ true
      → IfOk (value_of caller >>= λ who. demand number_fault (not numbers.great) >>= λ small. or_fault unknown_name op >>= λ k. caller_in who >>= λ known. Ok (events.Begin known k numbers.words))
      (λ e. is_event text e ≡ true)
  named_told caller numbers None below fits good takes =
      value_then caller _ (λ e. is_event text e ≡ true) fits λ who small. anyhow (demand number_fault (not numbers.great)) _ (λ e. is_event text e ≡ true) λ done. tt
  named_told caller numbers (Some k) below fits good takes =
      value_then caller _ (λ e. is_event text e ≡ true) fits λ who small. anyhow (demand number_fault (not numbers.great)) _ (λ e. is_event text e ≡ true) λ done.
      up_to_then 4294967295 who _ (λ e. is_event text e ≡ true) λ known. and_from (is_caller who) (is_call text k numbers.words) known (call_is k numbers good (below k refl) takes)

  begin_told : (words : List (List ℕ)) → IfOk (begin_line text.ops words) (λ e. is_event text e ≡ true)
  begin_told words =
      number_then words _ (λ e. is_event text e ≡ true) λ caller rest fits. name_then rest _ (λ e. is_event text e ≡ true) λ name behind named.
      then_has (numbers_from no_numbers behind) _ AreGood (λ e. is_event text e ≡ true) (good_numbers behind no_numbers no_good) λ numbers good.
      demanded form_fault (may_take_at text.ops (op_named text.ops name) numbers.count) _ (λ e. is_event text e ≡ true) λ takes.
      named_told caller numbers (op_named text.ops name) (λ at e. stands text.ops name at e) fits good takes

  access_told : (words : List (List ℕ)) → IfOk (access_line words) (λ e. is_event text e ≡ true)
  access_told words =
      number_then words _ (λ e. is_event text e ≡ true) λ caller rest fits. number_then rest _ (λ e. is_event text e ≡ true) λ name behind fit.
      anyhow (end_at behind) _ (λ e. is_event text e ≡ true) λ done.
      value_then caller _ (λ e. is_event text e ≡ true) fits λ who small. value_then name _ (λ e. is_event text e ≡ true) fit λ node is.
      up_to_then 4294967295 who _ (λ e. is_event text e ≡ true) λ known. and_from (is_caller who) (is_number node) known is

  phases_told : (words : List (List ℕ)) → IfOk (phases_line words) (λ e. is_event text e ≡ true)
  phases_told words =
      number_then words _ (λ e. is_event text e ≡ true) λ caller rest fits. number_then rest _ (λ e. is_event text e ≡ true) λ phase behind fit.
      anyhow (end_at behind) _ (λ e. is_event text e ≡ true) λ done.
      value_then caller _ (λ e. is_event text e ≡ true) fits λ who small. value_then phase _ (λ e. is_event text e ≡ true) fit λ last is.
      up_to_then 4294967295 who _ (λ e. is_event text e ≡ true) λ known. and_from (is_caller who) (is_number last) known is

  lone_told : (words : List (List ℕ)) → IfOk (lone_caller words) (λ c. is_caller c ≡ true)
  lone_told words =
      number_then words _ (λ c. is_caller c ≡ true) λ caller rest fits. anyhow (end_at rest) _ (λ c. is_caller c ≡ true) λ done.
      value_then caller _ (λ c. is_caller c ≡ true) fits λ who small. either (nat_le who 4294967295) (Ok who) _ (λ c. is_caller c ≡ true) (λ known. known) (λ _. tt)

  event_told : (word : List ℕ) (rest : List (List ℕ)) → IfOk (event_line text.ops word rest) (λ e. is_event text e ≡ true)
  event_told word rest =
      either (bytes_eq word (codes "begin")) _ _ (λ e. is_event text e ≡ true) (λ _. begin_told rest) λ _.
      either (bytes_eq word (codes "access")) _ _ (λ e. is_event text e ≡ true) (λ _. access_told rest) λ _.
      either (bytes_eq word (codes "restart")) _ _ (λ e. is_event text e ≡ true) (λ _. then_has (lone_caller rest) _ (λ c. is_caller c ≡ true) (λ e. is_event text e ≡ true) (lone_told rest) λ c is. is) λ _.
      either (bytes_eq word (codes "full")) _ _ (λ e. is_event text e ≡ true) (λ _. then_has (lone_caller rest) _ (λ c. is_caller c ≡ true) (λ e. is_event text e ≡ true) (lone_told rest) λ c is. is) λ _.
      either (bytes_eq word (codes "phases")) _ _ (λ e. is_event text e ≡ true) (λ _. phases_told rest) (λ _. tt)

-- ---- replies

abbrev IsSpelled : ReplyWord → Type 0
IsSpelled (Spelled number) = Fits number
IsSpelled Nothing = Unit {0}
IsSpelled Full = Unit {0}
IsSpelled (Phases phase) = Fits phase

word_told : (word : List ℕ) (rest : List (List ℕ)) → IfOk (reply_by word rest) IsSpelled
word_told word rest =
    either (bytes_eq word (codes "none")) _ _ IsSpelled (λ _. anyhow (end_at rest) _ IsSpelled λ done. tt) λ _.
    either (bytes_eq word (codes "full")) _ _ IsSpelled (λ _. anyhow (end_at rest) _ IsSpelled λ done. tt) λ _.
    either (bytes_eq word (codes "phases")) _ _ IsSpelled (λ _. number_then rest _ IsSpelled λ phase behind fits. anyhow (end_at behind) _ IsSpelled λ done. fits) λ _.
    then_has (number_in word) _ Fits IsSpelled (number_in_fits word) λ number fits. anyhow (end_at rest) _ IsSpelled λ done. fits

reply_told : (word : ReplyWord) → IsSpelled word → IfOk (reply_of word) (λ reply. is_reply reply ≡ true)
reply_told (Spelled number) fits = value_then number _ (λ reply. is_reply reply ≡ true) fits λ n is. is
reply_told (Phases phase) fits = value_then phase _ (λ reply. is_reply reply ≡ true) fits λ p is. is
reply_told _ fits = refl

record IsClaim (scripts : ℕ) (claim : Claim) : Type 0 where
  below : claim.caller < scripts
  told : is_reply claim.reply ≡ true

claimed : (scripts so_far : ℕ) (caller : Option ℕ) (word : ReplyWord) → IsSpelled word → may_reply scripts so_far caller ≡ true
    → IfOk (value_of caller >>= λ who. reply_of word >>= λ reply. Ok (record { caller = who; reply = reply })) (IsClaim scripts)
claimed scripts so_far None word fits may = tt
claimed scripts so_far (Some c) word fits may =
    let below = (and_parts (nat_lt c scripts) (nat_le so_far (c + 1)) may).0 in
    then_has (reply_of word) _ (λ reply. is_reply reply ≡ true) (IsClaim scripts) (reply_told word fits) λ reply is. record { below = ltb-true c scripts below; told = is }

claim_told : (scripts so_far : ℕ) (words : List (List ℕ)) → IfOk (claim_line scripts so_far words) (IsClaim scripts)
claim_told scripts so_far words =
    number_then words _ (IsClaim scripts) λ caller rest fits. anyhow (word_at rest) _ (IsClaim scripts) λ first.
    then_has (reply_by first.0 first.1) _ IsSpelled (IsClaim scripts) (word_told first.0 first.1) λ word spelled.
    demanded form_fault (may_reply scripts so_far caller) _ (IsClaim scripts) λ may. claimed scripts so_far caller word spelled may

-- ---- lists of replies

copies_pass : (k : ℕ) → list_all (list_all is_reply) (replicate k []) ≡ true
copies_pass zero = refl
copies_pass (suc k) = copies_pass k

grown_passes : (count : ℕ) (lists : List (List SourceReply)) → list_all (list_all is_reply) lists ≡ true → list_all (list_all is_reply) (grown count lists) ≡ true
grown_passes count lists all = list_all-append (list_all is_reply) lists (replicate (count - length lists) []) ∙ and_from (list_all (list_all is_reply) lists) (list_all (list_all is_reply) (replicate (count - length lists) [])) all (copies_pass (count - length lists))

grown_long : (count : ℕ) (lists : List (List SourceReply)) → length (grown count lists) ≡ length lists + (count - length lists)
grown_long count lists = length-append lists (replicate (count - length lists) []) ∙ ap (λ k. length lists + k) (length-replicate (count - length lists) [])

list_passes : (lists : List (List SourceReply)) (at : ℕ) → list_all (list_all is_reply) lists ≡ true → list_all is_reply (list_at (slice_get lists at)) ≡ true
list_passes [] at all = refl
list_passes (list ∷ lists) zero all = (and_parts (list_all is_reply list) (list_all (list_all is_reply) lists) all).0
list_passes (list ∷ lists) (suc at) all = list_passes lists at (and_parts (list_all is_reply list) (list_all (list_all is_reply) lists) all).1

lists_set : (lists : List (List SourceReply)) (at : ℕ) (list : List SourceReply) → list_all (list_all is_reply) lists ≡ true → list_all is_reply list ≡ true → list_all (list_all is_reply) (slice_set lists at list) ≡ true
lists_set [] at list all passes = refl
lists_set (first ∷ lists) zero list all passes =
    and_from (list_all is_reply list) (list_all (list_all is_reply) lists) passes (and_parts (list_all is_reply first) (list_all (list_all is_reply) lists) all).1
lists_set (first ∷ lists) (suc at) list all passes =
    let parts = and_parts (list_all is_reply first) (list_all (list_all is_reply) lists) all in
    and_from (list_all is_reply first) (list_all (list_all is_reply) (slice_set lists at list)) parts.0 (lists_set lists at list parts.1 passes)

record AreLists (scripts : ℕ) (lists : List (List SourceReply)) : Type 0 where
  few : length lists ≤ scripts
  told : list_all (list_all is_reply) lists ≡ true

claim_kept : (scripts : ℕ) (lists : List (List SourceReply)) (claim : Claim) → AreLists scripts lists → IsClaim scripts claim → AreLists scripts (with_claim claim lists)
claim_kept scripts lists claim are is =
    let more = grown (claim.caller + 1) lists in
    let all = grown_passes (claim.caller + 1) lists are.told in
    let list = list_at (slice_get more claim.caller) in
    let long = length-set more claim.caller (list ++ claim.reply ∷ []) ∙ grown_long (claim.caller + 1) lists in
    record {
      few = omega (arith, long, are.few, is.below);
      told = lists_set more claim.caller (list ++ claim.reply ∷ []) all
          (list_all-append is_reply list (claim.reply ∷ []) ∙ and_from (list_all is_reply list) (is_reply claim.reply && true) (list_passes more claim.caller all) (and_from (is_reply claim.reply) true is.told refl));
    }

-- ---- lines

module _ (text : Text) (within : is_within_limits text ≡ true) (scripts : ℕ) where
  record IsKept (account : Account) : Type 0 where
    events : list_all (is_event text) account.events ≡ true
    lists : AreLists scripts account.replies

  one_event : (events : List SourceEvent) (event : SourceEvent) → list_all (is_event text) events ≡ true → is_event text event ≡ true → list_all (is_event text) (events ++ event ∷ []) ≡ true
  one_event events event all is = list_all-append (is_event text) events (event ∷ []) ∙ and_from (list_all (is_event text) events) (is_event text event && true) all (and_from (is_event text event) true is refl)

  word_kept : (account : Account) (word : List ℕ) (rest : List (List ℕ)) → IsKept account → IfOk (after_word text.ops scripts account word rest) IsKept
  word_kept account word rest kept =
      either account.in_replies _ _ IsKept
      (λ _. either (bytes_eq word (codes "reply")) _ _ IsKept
      (λ _. then_has (claim_line scripts (length account.replies) rest) _ (IsClaim scripts) IsKept (claim_told scripts (length account.replies) rest) λ claim is.
      record { events = kept.events; lists = claim_kept scripts account.replies claim kept.lists is }) (λ _. tt))
      (λ _. either (bytes_eq word (codes "replies")) _ _ IsKept
      (λ _. anyhow (end_at rest) _ IsKept λ done. record { events = kept.events; lists = kept.lists })
      (λ _. then_has (event_line text.ops word rest) _ (λ e. is_event text e ≡ true) IsKept (event_told text within word rest) λ event is.
      record { events = one_event account.events event kept.events is; lists = kept.lists }))

  words_kept : (account : Account) (words : Option (List ℕ × List (List ℕ))) → IsKept account → IfOk (after_words text.ops scripts account words) IsKept
  words_kept account None kept = kept
  words_kept account (Some word) kept = word_kept account word.0 word.1 kept

  lines_kept : (account : Account) (lines : List TextLine) → IsKept account → IfOk (after_lines text.ops scripts account lines) IsKept
  lines_kept account [] kept = kept
  lines_kept account (line ∷ lines) kept =
      then_has (at_line line.number (after_line text.ops scripts account line)) _ IsKept IsKept
      (at_line_has line.number (after_line text.ops scripts account line) IsKept (anyhow (words_in line) _ IsKept λ words. words_kept account (first_word words) kept))
      λ next is. lines_kept next lines is

-- ---- the whole

whole_told : (bytes first : List ℕ) (document : Document) (within : is_within_limits document.text ≡ true) (account : Account) → document_read first ≡ Ok document
    → IsKept document.text within (length document.scripts) account → IfOk (whole bytes document account) IsTold
whole_told bytes first document within account read kept =
    either account.in_replies (Ok (certificate_of document account)) _ IsTold
    (λ _. record {
      bytes = first;
      document = read;
      events = kept.events;
      lists = let long = grown_long (length document.scripts) account.replies in omega (arith, long, kept.lists.few);
      replies = grown_passes (length document.scripts) account.replies kept.lists.told;
    })
    (λ _. tt)

nothing_kept : (text : Text) (within : is_within_limits text ≡ true) (scripts : ℕ) → IsKept text within scripts no_account
nothing_kept text within scripts = record { events = refl; lists = record { few = omega arith; told = refl } }

read_told : (bytes : List ℕ) (cut : Option Cut) → IfOk (read_at bytes cut) IsTold
read_told bytes None = anyhow (document_read bytes) _ IsTold λ document. tt
read_told bytes (Some cut) =
    then_is (document_read (take cut.before bytes)) _ IsTold λ document read. anyhow (at_line cut.line.number (events_line cut.line)) _ IsTold λ begun.
    let within : is_within_limits document.text ≡ true = (is_stated (take cut.before bytes) document read).text in
    then_has (after_lines document.text.ops (length document.scripts) no_account cut.behind) _ (IsKept document.text within (length document.scripts)) IsTold
    (lines_kept document.text within (length document.scripts) no_account cut.behind (nothing_kept document.text within (length document.scripts))) λ account kept.
    whole_told bytes (take cut.before bytes) document within account read kept

of_ok : (r : Result Certificate LineFault) (certificate : Certificate) → IfOk r IsTold → r ≡ Ok certificate → IsTold certificate
of_ok r certificate has e = subst (λ (x : Result Certificate LineFault). IfOk x IsTold) e has

pub what_is_read_is_told : WhatIsReadIsTold
what_is_read_is_told bytes certificate is = of_ok (certificate_read bytes) certificate (read_told bytes (cut_from false 0 (numbered 1 (lines_of bytes)))) is

-- a list of replies for each script
pub as_many_lists : (bytes : List ℕ) (certificate : Certificate) → certificate_read bytes ≡ Ok certificate → length certificate.replies ≡ length certificate.document.scripts
as_many_lists bytes certificate is = (what_is_read_is_told bytes certificate is).lists
