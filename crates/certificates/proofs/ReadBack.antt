-- What is read of the spelling of a certificate is the same certificate, but for the lines of its document's calls.
use Rattle.std.specs.Prelude.{◌≡◌, ℕ, suc, ◌+◌, ◌^◌, ◌≤◌, ◌&&◌, ◌==◌, true, false, List, [], ◌∷◌, ◌++◌, map, length, take, drop, Option, Some, None, slice_get, Ok, codes, decimal, nat_lt, nat_le}
use Rattle.std.specs.List.{list_all, flat_map, AllByRecursion}
use Rattle.std.proofs.Common.{refl, ap, sym, ◌∙◌, subst, arith, append_assoc}
use Rattle.std.proofs.lemmas.List.{length-map}
use Rattle.std.proofs.lemmas.Bool.{and_parts, ltb-true, lt-ltb, leb-true, eqb-true}
use Rattle.std.proofs.lemmas.Grind.{flat_map-append}
use Rattle.oa_text.specs.Lines.{lines_of, numbered}
use Rattle.norm_lang.specs.declared.text.Op.{Op}
use Rattle.norm_lang.specs.declared.text.Text.{Text}
use Rattle.norm_lang.specs.declared.text.Version.TheVariants.{Second}
use Rattle.norm_lang.specs.LineWords.{is_name, end_at}
use Rattle.norm_lang.specs.Limits.{is_number, is_op, is_within_limits, is_reply}
use Rattle.norm_lang.specs.Spelling.{joined_words, line_bytes, spelled}
use Rattle.norm_lang.proofs.SpelledLines.{is_visible, IsWord}
use Rattle.source_machine.specs.declared.event.SourceEvent.{SourceEvent}
use Rattle.source_machine.specs.declared.event.SourceEvent.TheVariants as events
use Rattle.norm_lang.specs.declared.reply.SourceReply.{SourceReply}
use Rattle.norm_lang.specs.declared.reply.SourceReply.TheVariants as replies
use Rattle.norm_lang.specs.Arguments.{are_words}
use Rattle.source_machine.specs.Run.{is_call_of, is_call}
use Rattle.documents.specs.declared.document.ScriptCall.{ScriptCall}
use Rattle.documents.specs.declared.document.Document.{Document}
use Rattle.documents.specs.DocumentRead.{document_read}
use Rattle.text_laws.proofs.LinesSpelled.{version_is, kind_line_is}
use Rattle.text_laws.proofs.SpelledWords.{decimal_word}
use Rattle.text_laws.proofs.TextsSaid.{no_fault}
use Rattle.text_laws.proofs.WithinLimits.{KindParts, OpParts, op_parts_of, parts_of}
use Rattle.document_spelling.specs.Spelling.{setting_lines, scripts_lines, spelled_turn, document_lines, spelling_with}
use Rattle.document_spelling.specs.SpellingLaws.{placeless, AreAlike}
use Rattle.document_spelling.proofs.JoinedWords.{IsPlain, line_is_plain, lines_found}
use Rattle.document_spelling.proofs.DocumentParts.{IsStated, is_stated}
use Rattle.document_spelling.proofs.OwnLines.{all_both, own_lines, own_are, lines_are_plain}
use Rattle.document_spelling.proofs.SpelledFront.{found_from}
use Rattle.document_spelling.proofs.TailPlain.{tail_plain}
use Rattle.document_spelling.proofs.SpellingsRead.{spellings_are_read}
use Rattle.certificates.specs.declared.account.Account.{Account}
use Rattle.certificates.specs.Accounts.{grown, no_account, after_lines}
use Rattle.certificates.specs.CertificateRead.{Cut, cut_from, events_line, certificate_of, certificate_read}
use Rattle.certificates.specs.CertificateSpelling.{call_words, spelled_event, spelled_reply, replies_lines, certificate_lines, certificate_spelling}
use Rattle.certificates.specs.CertificateLaws.{is_caller, is_event, CertificatesAreRead}
use Rattle.certificates.proofs.EventsRead.{passes_at, after_told, line_then, lines_read, small, with_events, events_read}
use Rattle.certificates.proofs.ClaimsRead.{with_lists, Read, lists_read}
use Rattle.certificates.proofs.CutsFound.{first_lines, cut_found}

-- ---- each line is plain

keyword : (word : List ℕ) → nat_lt 0 (length word) && (nat_le (length word) 20 && list_all is_visible word) ≡ true → IsWord word
keyword word is =
    let parts = and_parts (nat_lt 0 (length word)) (nat_le (length word) 20 && list_all is_visible word) is in
    let rest = and_parts (nat_le (length word) 20) (list_all is_visible word) parts.1 in
    record { some = ltb-true 0 (length word) parts.0; short = leb-true (length word) 20 rest.0; visible = rest.1 }

name_word : (name : List ℕ) → is_name name ≡ true → IsWord name
name_word name is = (kind_line_is name is).word.1.0

number_word : (n : ℕ) → is_number n ≡ true → IsWord (decimal n)
number_word n is = decimal_word n (ltb-true n (2 ^ 64) is)

caller_word : (c : ℕ) → is_caller c ≡ true → IsWord (decimal c)
caller_word c is = number_word c (small c is)

one_word : (word : List ℕ) → IsWord word → IsPlain (word ∷ [])
one_word word is = line_is_plain (word ∷ []) (record { few = omega arith; word = (is, tt) })

two_words : (one two : List ℕ) → IsWord one → IsWord two → IsPlain (one ∷ two ∷ [])
two_words one two first second = line_is_plain (one ∷ two ∷ []) (record { few = omega arith; word = (first, (second, tt)) })

three_words : (one two three : List ℕ) → IsWord one → IsWord two → IsWord three → IsPlain (one ∷ two ∷ three ∷ [])
three_words one two three first second third = line_is_plain (one ∷ two ∷ three ∷ []) (record { few = omega arith; word = (first, (second, (third, tt))) })

four_words : (one two three four : List ℕ) → IsWord one → IsWord two → IsWord three → IsWord four → IsPlain (one ∷ two ∷ three ∷ four ∷ [])
four_words one two three four first second third fourth =
    line_is_plain (one ∷ two ∷ three ∷ four ∷ []) (record { few = omega arith; word = (first, (second, (third, (fourth, tt)))) })

taken_words : (n : ℕ) (words : List ℕ) → list_all is_number words ≡ true → AllByRecursion IsWord (map decimal (take n words))
taken_words (suc n) (w ∷ words) all =
    let parts = and_parts (is_number w) (list_all is_number words) all in
    (number_word w parts.0, taken_words n words parts.1)
taken_words _ _ all = tt

taken_few : (n : ℕ) (words : List ℕ) → length (map decimal (take n words)) ≤ length words
taken_few (suc n) (w ∷ words) = let more : length (map decimal (take n words)) ≤ length words = taken_few n words in omega (arith, more)
taken_few _ _ = omega arith

begin_plain : (text : Text) → is_within_limits text ≡ true → (c op : ℕ) (words : List ℕ) (o : Option Op) → slice_get text.ops op ≡ o → is_caller c ≡ true → is_call_of o words ≡ true
    → IsPlain (codes "begin" ∷ decimal c ∷ call_words o words)
begin_plain text within c op words None found known call = absurd (let z : false ≡ true = call in cc)
begin_plain text within c op words (Some o) found known call =
    let parts = (parts_of text within).ops in
    let is : OpParts (length text.kinds) (length text.fields) (length text.roots) o
    = op_parts_of (length text.kinds) (length text.fields) (length text.roots) o
    (passes_at (is_op (length text.kinds) (length text.fields) (length text.roots)) text.ops op o found parts.each) in
    let sizes = and_parts (are_words words) _ call in
    let size = and_parts (length words == 4) (list_all is_number words) sizes.0 in
    let four : length words ≡ 4 = eqb-true (length words) 4 size.0 in
    let few : length (map decimal (take o.args words)) ≤ length words = taken_few o.args words in
    line_is_plain (codes "begin" ∷ decimal c ∷ o.name ∷ map decimal (take o.args words))
    (record { few = omega (arith, four, few); word = (keyword (codes "begin") refl, (caller_word c known, (name_word o.name is.named, taken_words o.args words size.1))) })

event_plain : (text : Text) → is_within_limits text ≡ true → (event : SourceEvent) → is_event text event ≡ true → IsPlain (spelled_event text.ops event)
event_plain text within (events.Begin c op words) is =
    let parts = and_parts (is_caller c) (is_call text op words) is in
    begin_plain text within c op words (slice_get text.ops op) refl parts.0 parts.1
event_plain text within (events.Access c name) is =
    let parts = and_parts (is_caller c) (is_number name) is in
    three_words (codes "access") (decimal c) (decimal name) (keyword (codes "access") refl) (caller_word c parts.0) (number_word name parts.1)
event_plain text within (events.Restart c) is = two_words (codes "restart") (decimal c) (keyword (codes "restart") refl) (caller_word c is)
event_plain text within (events.GiveUp c None) is = two_words (codes "full") (decimal c) (keyword (codes "full") refl) (caller_word c is)
event_plain text within (events.GiveUp c (Some phase)) is =
    let parts = and_parts (is_caller c) (is_number phase) is in
    three_words (codes "phases") (decimal c) (decimal phase) (keyword (codes "phases") refl) (caller_word c parts.0) (number_word phase parts.1)

events_plain : (text : Text) → is_within_limits text ≡ true → (events : List SourceEvent) → list_all (is_event text) events ≡ true → AllByRecursion IsPlain (map (spelled_event text.ops) events)
events_plain text within [] all = tt
events_plain text within (event ∷ events) all =
    let parts = and_parts (is_event text event) (list_all (is_event text) events) all in
    (event_plain text within event parts.0, events_plain text within events parts.1)

reply_plain : (c : ℕ) (reply : SourceReply) → is_number c ≡ true → is_reply reply ≡ true → IsPlain (spelled_reply c reply)
reply_plain c (replies.Number n) known is = three_words (codes "reply") (decimal c) (decimal n) (keyword (codes "reply") refl) (number_word c known) (number_word n is)
reply_plain c replies.Nothing known is = three_words (codes "reply") (decimal c) (codes "none") (keyword (codes "reply") refl) (number_word c known) (keyword (codes "none") refl)
reply_plain c replies.Full known is = three_words (codes "reply") (decimal c) (codes "full") (keyword (codes "reply") refl) (number_word c known) (keyword (codes "full") refl)
reply_plain c (replies.Phases p) known is =
    four_words (codes "reply") (decimal c) (codes "phases") (decimal p) (keyword (codes "reply") refl) (number_word c known) (keyword (codes "phases") refl) (number_word p is)

list_plain : (c : ℕ) (list : List SourceReply) → is_number c ≡ true → list_all is_reply list ≡ true → AllByRecursion IsPlain (map (spelled_reply c) list)
list_plain c [] known all = tt
list_plain c (reply ∷ list) known all =
    let parts = and_parts (is_reply reply) (list_all is_reply list) all in
    (reply_plain c reply known parts.0, list_plain c list known parts.1)

lists_plain : (c : ℕ) (lists : List (List SourceReply)) → c + length lists ≤ 256 → list_all (list_all is_reply) lists ≡ true → AllByRecursion IsPlain (replies_lines c lists)
lists_plain c [] few all = tt
lists_plain c (list ∷ lists) few all =
    let parts = and_parts (list_all is_reply list) (list_all (list_all is_reply) lists) all in
    let known : is_number c ≡ true = lt-ltb c (2 ^ 64) (omega (arith, few)) in
    all_both IsPlain (map (spelled_reply c) list) (replies_lines (c + 1) lists) (list_plain c list known parts.0) (lists_plain (c + 1) lists (omega (arith, few)) parts.1)

-- ---- lists of lines

all_first : {B : Type 0} (P : B → Type 0) (xs ys : List B) → AllByRecursion P (xs ++ ys) → AllByRecursion P xs
all_first P [] ys all = tt
all_first P (x ∷ xs) ys all = (all.0, all_first P xs ys all.1)

all_second : {B : Type 0} (P : B → Type 0) (xs ys : List B) → AllByRecursion P (xs ++ ys) → AllByRecursion P ys
all_second P [] ys all = all
all_second P (x ∷ xs) ys all = all_second P xs ys all.1

take_first : (xs ys : List ℕ) → take (length xs) (xs ++ ys) ≡ xs
take_first [] ys = refl
take_first (x ∷ xs) ys = ap (λ (l : List ℕ). x ∷ l) (take_first xs ys)

as_many_scripts : (one other : List (List ScriptCall)) → map (map placeless) one ≡ map (map placeless) other → length one ≡ length other
as_many_scripts one other same = sym (mapped one) ∙ ap length same ∙ mapped other where
  mapped : (l : List (List ScriptCall)) → length (map (map placeless) l) ≡ length l
  mapped l = length-map l (map placeless)

-- ---- the whole

nothing_more : (n : ℕ) → 0 + n ≡ n
nothing_more n = omega arith

begins_alone : (n : ℕ) (words : List (List ℕ)) → IsPlain words → end_at (drop 1 words) ≡ Ok tt → events_line (record { number = n; bytes = joined_words words }) ≡ Ok tt
begins_alone n words is alone = rw (no_fault n (joined_words words) is.plain, is.found) alone

-- what reads a certificate of which the document's end is found
read_through : (bytes : List ℕ) (cut : Cut) (document : Document) (account : Account) → cut_from false 0 (numbered 1 (lines_of bytes)) ≡ Some cut
    → document_read (take cut.before bytes) ≡ Ok document → events_line cut.line ≡ Ok tt
    → after_lines document.text.ops (length document.scripts) no_account cut.behind ≡ Ok account → account.in_replies ≡ true
    → certificate_read bytes ≡ Ok (certificate_of document account)
read_through bytes cut document account found read begun said whole = rw (found, read, begun, said, whole) refl

pub certificates_are_read : CertificatesAreRead
certificates_are_read certificate told =
    let d = certificate.document in
    let text = d.text in
    let is : IsStated d = is_stated told.bytes d told.document in
    let kinds : KindParts text.kinds = (parts_of text is.text).kinds in
    let lists = certificate.replies in
    let spoken : List (List (List ℕ)) = map (spelled_event text.ops) certificate.events in
    let claims : List (List (List ℕ)) = replies_lines 0 lists in
    let behind : List (List (List ℕ)) = spoken ++ ((codes "replies" ∷ []) ∷ claims) in
    let settings = setting_lines d in
    let scripts = scripts_lines 0 d.scripts in
    let turns : List (List (List ℕ)) = map spelled_turn d.schedule in
    let rest : List (List (List ℕ)) = (codes "schedule" ∷ []) ∷ turns in
    let firsts = first_lines d in
    -- every line is plain
    let tail : AllByRecursion IsPlain (settings ++ (scripts ++ rest)) = tail_plain true d kinds.each is in
    let behind_settings = all_second IsPlain settings (scripts ++ rest) tail in
    let in_schedule = all_second IsPlain scripts rest behind_settings in
    let own : AllByRecursion IsPlain (spelled text) = (line_is_plain _ (version_is Second), lines_are_plain (own_lines text) (own_are text is.text)) in
    let firsts_plain : AllByRecursion IsPlain firsts
    = all_both IsPlain (spelled text) (settings ++ scripts) own (all_both IsPlain settings scripts (all_first IsPlain settings (scripts ++ rest) tail) (all_first IsPlain scripts rest behind_settings)) in
    let events_is : IsPlain (codes "events" ∷ []) = one_word (codes "events") (keyword (codes "events") refl) in
    let few : length lists ≤ 256 = subst (λ (n : ℕ). n ≤ 256) (sym told.lists) is.few_scripts in
    let behind_plain : AllByRecursion IsPlain behind
    = all_both IsPlain spoken ((codes "replies" ∷ []) ∷ claims) (events_plain text is.text certificate.events told.events)
    (one_word (codes "replies") (keyword (codes "replies") refl), lists_plain 0 lists (omega (arith, few)) told.replies) in
    let account : List (List (List ℕ)) = (codes "events" ∷ []) ∷ behind in
    let lines : List (List (List ℕ)) = firsts ++ (rest ++ account) in
    let plain : AllByRecursion IsPlain lines
    = all_both IsPlain firsts (rest ++ account) firsts_plain (all_both IsPlain rest account in_schedule (events_is, behind_plain)) in
    -- its lines are those of the document, and then the others
    let own_same : document_lines true d ≡ firsts ++ rest = sym (append_assoc (spelled text) (settings ++ scripts) rest ∙ ap (λ (l : List (List (List ℕ))). spelled text ++ l) (append_assoc settings scripts rest)) in
    let same : certificate_lines certificate ≡ lines = ap (λ (l : List (List (List ℕ))). l ++ account) own_same ∙ append_assoc firsts rest account in
    let bytes = certificate_spelling certificate in
    let spelt : bytes ≡ flat_map line_bytes lines = ap (flat_map line_bytes) same in
    -- the document's end is found
    let cut = cut_found d behind is firsts_plain in_schedule.0 in_schedule.1 events_is in
    let found = ap (λ (b : List ℕ). cut_from false 0 (numbered 1 (lines_of b))) spelt
    ∙ ap (λ (l : List (List ℕ)). cut_from false 0 (numbered 1 l)) (lines_found lines plain) ∙ cut.1 in
    -- the document is read
    let shown = spelling_with true d in
    let first_bytes : flat_map line_bytes (firsts ++ rest) ≡ shown = ap (flat_map line_bytes) (sym own_same) in
    let taken : take (length (flat_map line_bytes (firsts ++ rest))) bytes ≡ shown
    = ap (λ (b : List ℕ). take (length b) bytes) first_bytes ∙ ap (take (length shown)) (flat_map-append line_bytes (document_lines true d) account)
    ∙ take_first shown (flat_map line_bytes account) in
    let read = spellings_are_read true told.bytes d told.document in
    let document_is : document_read (take (length (flat_map line_bytes (firsts ++ rest))) bytes) ≡ Ok read.0 = ap document_read taken ∙ read.1 in
    -- the lines behind it are read
    let alike : AreAlike read.0 d = read.2 in
    let count : length read.0.scripts ≡ length d.scripts = as_many_scripts read.0.scripts d.scripts alike.scripts in
    let said : Read text.ops (length d.scripts) certificate.events is.few_scripts claims [] ([] ++ lists) (length d.scripts)
    = lists_read text.ops (length d.scripts) certificate.events is.few_scripts lists [] [] (omega arith) refl (ap (λ (n : ℕ). 0 + n) told.lists ∙ nothing_more (length d.scripts)) told.replies in
    let last = with_lists certificate.events said.last in
    let told_all : after_told text.ops (length d.scripts) no_account behind ≡ Ok last
    = events_read text is.text (length d.scripts) certificate.events [] ((codes "replies" ∷ []) ∷ claims) (Ok last) told.events
    (line_then text.ops (length d.scripts) (with_events certificate.events) (with_lists certificate.events []) (codes "replies" ∷ []) claims (Ok last) refl said.read) in
    let lines_say : after_lines text.ops (length d.scripts) no_account (found_from (cut.0 + 1) behind) ≡ Ok last
    = lines_read text.ops (length d.scripts) behind (cut.0 + 1) no_account last behind_plain told_all in
    let says : after_lines read.0.text.ops (length read.0.scripts) no_account (found_from (cut.0 + 1) behind) ≡ Ok last
    = ap (λ (t : Text). after_lines t.ops (length read.0.scripts) no_account (found_from (cut.0 + 1) behind)) alike.text
    ∙ ap (λ (n : ℕ). after_lines text.ops n no_account (found_from (cut.0 + 1) behind)) count ∙ lines_say in (
      certificate_of read.0 last,
      read_through bytes _ read.0 last found document_is (begins_alone cut.0 (codes "events" ∷ []) events_is refl) says refl,
      record { document = alike; events = refl; replies = ap (λ (n : ℕ). grown n said.last) count ∙ said.same },
    )
