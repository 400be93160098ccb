-- Events that are spelled, and read back.
use Rattle.std.specs.Prelude.{◌≡◌, ℕ, zero, suc, ◌+◌, ◌^◌, ◌≤◌, ◌==◌, Bool, true, false, List, [], ◌∷◌, ◌++◌, map, length, take, drop, Option, Some, None, slice_get, Result, Ok, Err, decimal, nat_lt}
use Rattle.std.specs.List.{list_all, AllByRecursion}
use Rattle.std.proofs.Common.{refl, ap, sym, ◌∙◌, subst, arith, append_assoc}
use Rattle.std.proofs.lemmas.Bool.{and_parts, eqb-true, eq-eqb}
use Rattle.std.proofs.lemmas.Bool.Decides.{nat_tests}
use Rattle.std.proofs.lemmas.List.{append-nil}
use Rattle.norm_lang.specs.declared.text.Op.{Op}
use Rattle.norm_lang.specs.declared.text.Text.{Text}
use Rattle.norm_lang.specs.Faults.{◌>>=◌, at_line}
use Rattle.norm_lang.specs.LineWords.{is_name}
use Rattle.norm_lang.specs.Limits.{is_number, is_op, is_within_limits}
use Rattle.norm_lang.specs.Spelling.{joined_words}
use Rattle.line_words.specs.Lines.{first_word}
use Rattle.source_machine.specs.declared.event.SourceEvent.{SourceEvent}
use Rattle.source_machine.specs.declared.event.SourceEvent.TheVariants as events
use Rattle.norm_lang.specs.Arguments.{are_words, are_arguments}
use Rattle.source_machine.specs.Run.{is_call_of, is_call}
use Rattle.text_laws.proofs.WordsRead.{number_read, named_at}
use Rattle.text_laws.proofs.WithinLimits.{OpParts, op_parts_of, parts_of}
use Rattle.text_laws.proofs.TextsSaid.{no_fault}
use Rattle.document_spelling.proofs.JoinedWords.{IsPlain}
use Rattle.document_spelling.proofs.SpelledFront.{found_from}
use Rattle.certificates.specs.declared.account.Account.{Account}
use Rattle.certificates.specs.EventLines.{no_numbers, numbers_from, op_named, begin_line}
use Rattle.certificates.specs.Accounts.{after_words, after_lines}
use Rattle.certificates.specs.CertificateSpelling.{spelled_event}
use Rattle.certificates.specs.CertificateLaws.{is_caller, is_event}

-- an item of a list passes a test that all pass
pub passes_at : {A : Type 0} (test : A → Bool) (items : List A) (at : ℕ) (item : A) → slice_get items at ≡ Some item → list_all test items ≡ true → test item ≡ true
passes_at test [] at item is all = let f : ⊥ = cc in absurd f
passes_at test (x ∷ items) zero item is all =
    let same : x ≡ item = cc in
    ap test (sym same) ∙ (and_parts (test x) (list_all test items) all).0
passes_at test (x ∷ items) (suc at) item is all = passes_at test items at item is (and_parts (test x) (list_all test items) all).1

-- ---- lines by their words

-- what lines say by their words
abbrev pub after_told : List Op → ℕ → Account → List (List (List ℕ)) → Result Account ℕ
after_told ops scripts account [] = Ok account
after_told ops scripts account (words ∷ lines) = after_words ops scripts account (first_word words) >>= λ next. after_told ops scripts next lines

-- a first line, and then others
pub line_then : (ops : List Op) (scripts : ℕ) (account next : Account) (words : List (List ℕ)) (lines : List (List (List ℕ))) (r : Result Account ℕ)
    → after_words ops scripts account (first_word words) ≡ Ok next → after_told ops scripts next lines ≡ r → after_told ops scripts account (words ∷ lines) ≡ r
line_then ops scripts account next words lines r first others = rw first others

-- what the words of plain lines say the lines say as they are found
pub lines_read : (ops : List Op) (scripts : ℕ) (lines : List (List (List ℕ))) (n : ℕ) (account last : Account) → AllByRecursion IsPlain lines
    → after_told ops scripts account lines ≡ Ok last → after_lines ops scripts account (found_from n lines) ≡ Ok last
lines_read ops scripts [] n account last are read = let same : account ≡ last = cc in rw same refl
lines_read ops scripts (words ∷ lines) n account last are read =
    rw (no_fault n (joined_words words) (are.0).plain, (are.0).found)
    (go (after_words ops scripts account (first_word words)) read (λ t read. lines_read ops scripts lines (n + 1) t last are.1 read))
  where
    go : (w : Result Account ℕ) → (w >>= λ t. after_told ops scripts t lines) ≡ Ok last
        → ((t : Account) → after_told ops scripts t lines ≡ Ok last → after_lines ops scripts t (found_from (n + 1) lines) ≡ Ok last)
        → (at_line n w >>= λ t. after_lines ops scripts t (found_from (n + 1) lines)) ≡ Ok last
    go (Ok t) read more = more t read
    go (Err fault) read more = absurd (let f : ⊥ = cc in f)

-- ---- the arguments of a begin

pub small : (c : ℕ) → is_caller c ≡ true → is_number c ≡ true
small c known = grind (arith, nat_tests, known)

-- four words
pub record Four (words : List ℕ) : Type 0 where
  pub a : ℕ
  pub b : ℕ
  pub c : ℕ
  pub d : ℕ
  pub same : words ≡ a ∷ b ∷ c ∷ d ∷ []

pub four : (words : List ℕ) → length words ≡ 4 → Four words
four (a ∷ b ∷ c ∷ d ∷ []) e = record { a = a; b = b; c = c; d = d; same = refl }
four _ e = absurd (omega (arith, e))

-- the words of the arguments are read as they are
pub Reads : ℕ → List ℕ → Type 0
Reads n words = numbers_from no_numbers (map decimal (take n words)) ≡ Ok (record { count = n; great = false; words = words })

module _ (a b c d : ℕ) (fa : is_number a ≡ true) (fb : is_number b ≡ true) (fc : is_number c ≡ true) (fd : is_number d ≡ true) where
  pub none_read : a ≡ 0 → b ≡ 0 → c ≡ 0 → d ≡ 0 → Reads 0 (a ∷ b ∷ c ∷ d ∷ [])
  unfolding Reads
  none_read ea eb ec ed = rw (ea, eb, ec, ed) refl

  pub one_read : b ≡ 0 → c ≡ 0 → d ≡ 0 → Reads 1 (a ∷ b ∷ c ∷ d ∷ [])
  unfolding Reads
  one_read eb ec ed = rw (eb, ec, ed, number_read a fa) refl

  pub two_read : c ≡ 0 → d ≡ 0 → Reads 2 (a ∷ b ∷ c ∷ d ∷ [])
  unfolding Reads
  two_read ec ed = rw (ec, ed, number_read a fa, number_read b fb) refl

  pub three_read : d ≡ 0 → Reads 3 (a ∷ b ∷ c ∷ d ∷ [])
  unfolding Reads
  three_read ed = rw (ed, number_read a fa, number_read b fb, number_read c fc) refl

  pub four_read : Reads 4 (a ∷ b ∷ c ∷ d ∷ [])
  unfolding Reads
  four_read = rw (number_read a fa, number_read b fb, number_read c fc, number_read d fd) refl

  first_zero : (x : ℕ) (xs : List ℕ) → list_all (λ word. word == 0) (x ∷ xs) ≡ true → (x ≡ 0) × (list_all (λ word. word == 0) xs ≡ true)
  first_zero x xs all = let parts = and_parts (x == 0) (list_all (λ word. word == 0) xs) all in (eqb-true x 0 parts.0, parts.1)

  pub some_read : (n : ℕ) → n ≤ 4 → list_all (λ word. word == 0) (drop n (a ∷ b ∷ c ∷ d ∷ [])) ≡ true → Reads n (a ∷ b ∷ c ∷ d ∷ [])
  some_read zero few all =
      let pa = first_zero a (b ∷ c ∷ d ∷ []) all in
      let pb = first_zero b (c ∷ d ∷ []) pa.1 in
      let pc = first_zero c (d ∷ []) pb.1 in
      none_read pa.0 pb.0 pc.0 (first_zero d [] pc.1).0
  some_read (suc zero) few all =
      let pb = first_zero b (c ∷ d ∷ []) all in
      let pc = first_zero c (d ∷ []) pb.1 in
      one_read pb.0 pc.0 (first_zero d [] pc.1).0
  some_read (suc (suc zero)) few all = let pc = first_zero c (d ∷ []) all in two_read pc.0 (first_zero d [] pc.1).0
  some_read (suc (suc (suc zero))) few all = three_read (first_zero d [] all).0
  some_read (suc (suc (suc (suc zero)))) few all = four_read
  some_read (suc (suc (suc (suc (suc n))))) few all = absurd (omega (arith, few))

pub numbers_read : (n : ℕ) (words : List ℕ) → n ≤ 4 → are_arguments n words ≡ true → numbers_from no_numbers (map decimal (take n words)) ≡ Ok (record { count = n; great = false; words = words })
unfolding Reads
numbers_read n words few are =
    let parts = and_parts (are_words words) (list_all (λ word. word == 0) (drop n words)) are in
    let sizes = and_parts (length words == 4) (list_all (λ word. nat_lt word (2 ^ 64)) words) parts.0 in
    let is : Four words = four words (eqb-true (length words) 4 sizes.0) in
    let fits : list_all is_number (is.a ∷ is.b ∷ is.c ∷ is.d ∷ []) ≡ true = ap (list_all is_number) (sym is.same) ∙ sizes.1 in
    let pa = and_parts (is_number is.a) (list_all is_number (is.b ∷ is.c ∷ is.d ∷ [])) fits in
    let pb = and_parts (is_number is.b) (list_all is_number (is.c ∷ is.d ∷ [])) pa.1 in
    let pc = and_parts (is_number is.c) (list_all is_number (is.d ∷ [])) pb.1 in
    let pd = and_parts (is_number is.d) true pc.1 in
    subst (Reads n) (sym is.same)
    (some_read is.a is.b is.c is.d pa.0 pb.0 pc.0 pd.0 n few (ap (λ (ws : List ℕ). list_all (λ word. word == 0) (drop n ws)) (sym is.same) ∙ parts.1))

-- ---- an event

begin_read : (ops : List Op) (o : Op) (op c : ℕ) (words : List ℕ) → slice_get ops op ≡ Some o → op_named ops o.name ≡ Some op → is_name o.name ≡ true → is_caller c ≡ true
    → numbers_from no_numbers (map decimal (take o.args words)) ≡ Ok (record { count = o.args; great = false; words = words })
    → begin_line ops (decimal c ∷ o.name ∷ map decimal (take o.args words)) ≡ Ok (events.Begin c op words)
begin_read ops o op c words found place named known numbers =
    rw (number_read c (small c known), named, numbers, place, found, eq-eqb o.args o.args refl, known) refl

-- behind events, before the replies
abbrev pub with_events : List SourceEvent → Account
with_events events = record { in_replies = false; events = events; replies = [] }

module _ (text : Text) (within : is_within_limits text ≡ true) (scripts : ℕ) (so_far : List SourceEvent) where
  begun_read : (c op : ℕ) (words : List ℕ) (o : Option Op) → slice_get text.ops op ≡ o → is_caller c ≡ true → is_call_of o words ≡ true
      → after_words text.ops scripts (with_events so_far) (first_word (spelled_event text.ops (events.Begin c op words))) ≡ Ok (with_events (so_far ++ events.Begin c op words ∷ []))
  begun_read c op words None found known call = absurd (let z : false ≡ true = call in cc)
  begun_read c op words (Some o) found known call =
      let parts = (parts_of text within).ops in
      let is : OpParts (length text.kinds) (length text.fields) (length text.roots) o
      = op_parts_of (length text.kinds) (length text.fields) (length text.roots) o
      (passes_at (is_op (length text.kinds) (length text.fields) (length text.roots)) text.ops op o found parts.each) in
      let read = begin_read text.ops o op c words found (named_at (λ (x : Op). x.name) text.ops op o found parts.apart) is.named known (numbers_read o.args words is.args call) in
      rw (found, read) refl

  pub event_read : (event : SourceEvent) → is_event text event ≡ true
      → after_words text.ops scripts (with_events so_far) (first_word (spelled_event text.ops event)) ≡ Ok (with_events (so_far ++ event ∷ []))
  event_read (events.Begin c op words) is =
      let parts = and_parts (is_caller c) (is_call text op words) is in
      begun_read c op words (slice_get text.ops op) refl parts.0 parts.1
  event_read (events.Access c name) is =
      let parts = and_parts (is_caller c) (is_number name) is in
      rw (number_read c (small c parts.0), number_read name parts.1, parts.0) refl
  event_read (events.Restart c) is = rw (number_read c (small c is), is) refl
  event_read (events.GiveUp c None) is = rw (number_read c (small c is), is) refl
  event_read (events.GiveUp c (Some phase)) is =
      let parts = and_parts (is_caller c) (is_number phase) is in
      rw (number_read c (small c parts.0), number_read phase parts.1, parts.0) refl

-- all events
pub events_read : (text : Text) → is_within_limits text ≡ true → (scripts : ℕ) (events so_far : List SourceEvent) (behind : List (List (List ℕ))) (r : Result Account ℕ)
    → list_all (is_event text) events ≡ true → after_told text.ops scripts (with_events (so_far ++ events)) behind ≡ r
    → after_told text.ops scripts (with_events so_far) (map (spelled_event text.ops) events ++ behind) ≡ r
events_read text within scripts [] so_far behind r are read = ap (λ (l : List SourceEvent). after_told text.ops scripts (with_events l) behind) (sym (nothing so_far)) ∙ read where
  nothing : (l : List SourceEvent) → l ++ [] ≡ l
  nothing l = append-nil l
events_read text within scripts (event ∷ events) so_far behind r are read =
    let parts = and_parts (is_event text event) (list_all (is_event text) events) are in
    line_then text.ops scripts (with_events so_far) (with_events (so_far ++ event ∷ [])) (spelled_event text.ops event) (map (spelled_event text.ops) events ++ behind) r
    (event_read text within scripts so_far event parts.0)
    (events_read text within scripts events (so_far ++ event ∷ []) behind r parts.1
    (ap (λ (l : List SourceEvent). after_told text.ops scripts (with_events l) behind) (append_assoc so_far (event ∷ []) events) ∙ read))
