-- Replies that are spelled, and read back.
use Rattle.std.specs.Prelude.{◌≡◌, ℕ, zero, suc, ◌+◌, ◌-◌, ◌<◌, ◌≤◌, true, false, List, [], ◌∷◌, ◌++◌, map, length, replicate, Some, slice_get, slice_set, Result, Ok, codes, decimal}
use Rattle.std.specs.List.{list_all}
use Rattle.std.proofs.Common.{refl, ap, sym, ◌∙◌, arith, append_assoc, length-append}
use Rattle.std.proofs.Math.Seq.{set-append_seam}
use Rattle.std.proofs.lemmas.Bool.{and_parts, lt-ltb, le-leb, ltb-true, false_from_ne_true}
use Rattle.std.proofs.lemmas.Slice.Eq.{bytes_eq-Decides}
use Rattle.std.specs.Str.{bytes_eq}
use Rattle.oa_text.specs.Numbers.{is_numeral}
use Rattle.oa_text.proofs.Again.{decimal_numeral}
use Rattle.std.proofs.lemmas.List.{append-nil}
use Rattle.norm_lang.specs.declared.text.Op.{Op}
use Rattle.norm_lang.specs.Limits.{is_number, is_reply}
use Rattle.line_words.specs.Lines.{first_word}
use Rattle.source_machine.specs.declared.event.SourceEvent.{SourceEvent}
use Rattle.norm_lang.specs.declared.reply.SourceReply.{SourceReply}
use Rattle.norm_lang.specs.declared.reply.SourceReply.TheVariants as replies
use Rattle.text_laws.proofs.WordsRead.{number_read}
use Rattle.certificates.specs.declared.account.Account.{Account}
use Rattle.certificates.specs.EventLines.{Spelled, reply_by, claim_line}
use Rattle.certificates.specs.Accounts.{grown, list_at, with_claim, after_words}
use Rattle.certificates.specs.CertificateSpelling.{reply_words, spelled_reply, replies_lines}
use Rattle.certificates.proofs.Tables.{grown_whole}
use Rattle.certificates.proofs.EventsRead.{after_told, line_then}

-- behind the events, and these replies
abbrev pub with_lists : List SourceEvent → List (List SourceReply) → Account
with_lists events lists = record { in_replies = true; events = events; replies = lists }

-- ---- a reply

-- a number's word isn't one of the others
numeral_other : (word other : List ℕ) → is_numeral word ≡ true → is_numeral other ≡ false → bytes_eq word other ≡ false
numeral_other word other is isnt =
    false_from_ne_true (bytes_eq word other) (λ same.
    let e : word ≡ other = (bytes_eq-Decides word other).0 same in
    let f : true ≡ false = sym is ∙ ap is_numeral e ∙ isnt in
    let no : ⊥ = cc in no)

reply_number : (n : ℕ) → is_number n ≡ true → reply_by (decimal n) [] ≡ Ok (Spelled (Some n))
reply_number n is =
    let word : is_numeral (decimal n) ≡ true = decimal_numeral n (ltb-true n _ is) in
    rw (numeral_other (decimal n) (codes "none") word refl, numeral_other (decimal n) (codes "full") word refl, numeral_other (decimal n) (codes "phases") word refl, number_read n is) refl

claim_read : (scripts so_far c : ℕ) (reply : SourceReply) → c < scripts → so_far ≤ c + 1 → scripts ≤ 256 → is_reply reply ≡ true
    → claim_line scripts so_far (decimal c ∷ reply_words reply) ≡ Ok (record { caller = c; reply = reply })
claim_read scripts so_far c (replies.Number n) below rising few is =
    let small : is_number c ≡ true = lt-ltb c _ (omega (arith, below, few)) in
    rw (number_read c small, reply_number n is, lt-ltb c scripts below, le-leb so_far (c + 1) rising) refl
claim_read scripts so_far c (replies.Phases p) below rising few is =
    let small : is_number c ≡ true = lt-ltb c _ (omega (arith, below, few)) in
    rw (number_read c small, number_read p is, lt-ltb c scripts below, le-leb so_far (c + 1) rising) refl
claim_read scripts so_far c _ below rising few is =
    let small : is_number c ≡ true = lt-ltb c _ (omega (arith, below, few)) in
    rw (number_read c small, lt-ltb c scripts below, le-leb so_far (c + 1) rising) refl

reply_read : (ops : List Op) (scripts : ℕ) (events : List SourceEvent) (lists : List (List SourceReply)) (c : ℕ) (reply : SourceReply) → c < scripts → length lists ≤ c + 1 → scripts ≤ 256 → is_reply reply ≡ true
    → after_words ops scripts (with_lists events lists) (first_word (spelled_reply c reply)) ≡ Ok (with_lists events (with_claim (record { caller = c; reply = reply }) lists))
reply_read ops scripts events lists c reply below rising few is = rw (claim_read scripts (length lists) c reply below rising few is) refl

-- ---- lists that grow

one_more_copy : (k : ℕ) → replicate {A = List SourceReply} (suc k) [] ≡ replicate k [] ++ [] ∷ []
one_more_copy zero = refl
one_more_copy (suc k) = ap (λ (l : List (List SourceReply)). [] ∷ l) (one_more_copy k)

-- one more empty list
grown_next : (c : ℕ) (lists : List (List SourceReply)) → length lists ≤ c → grown (c + 1) lists ≡ grown c lists ++ [] ∷ []
grown_next c lists few =
    let more : c + 1 - length lists ≡ suc (c - length lists) = omega (arith, few) in
    ap (λ (k : ℕ). lists ++ replicate k []) more ∙ ap (λ (l : List (List SourceReply)). lists ++ l) (one_more_copy (c - length lists))
    ∙ sym (append_assoc lists (replicate (c - length lists) []) ([] ∷ []))

get_seam : (xs : List (List SourceReply)) (x : List SourceReply) (ys : List (List SourceReply)) → slice_get (xs ++ x ∷ ys) (length xs) ≡ Some x
get_seam [] x ys = refl
get_seam (y ∷ xs) x ys = get_seam xs x ys

-- a reply goes to the last of the lists
claim_last : (firsts lists : List (List SourceReply)) (list : List SourceReply) (reply : SourceReply) → grown (length firsts + 1) lists ≡ firsts ++ list ∷ []
    → with_claim (record { caller = length firsts; reply = reply }) lists ≡ firsts ++ (list ++ reply ∷ []) ∷ []
claim_last firsts lists list reply same =
    ap (λ (more : List (List SourceReply)). slice_set more (length firsts) (list_at (slice_get more (length firsts)) ++ reply ∷ [])) same
    ∙ ap (λ o. slice_set (firsts ++ list ∷ []) (length firsts) (list_at o ++ reply ∷ [])) (get_seam firsts list [])
    ∙ set-append_seam firsts list [] (list ++ reply ∷ [])

-- ---- the replies of a caller

module _ (ops : List Op) (scripts : ℕ) (events : List SourceEvent) (few : scripts ≤ 256) where
  -- behind some of them
  more_read : (firsts : List (List SourceReply)) (done rest : List SourceReply) (behind : List (List (List ℕ))) (r : Result Account ℕ) → length firsts < scripts → list_all is_reply rest ≡ true
      → after_told ops scripts (with_lists events (firsts ++ (done ++ rest) ∷ [])) behind ≡ r
      → after_told ops scripts (with_lists events (firsts ++ done ∷ [])) (map (spelled_reply (length firsts)) rest ++ behind) ≡ r
  more_read firsts done [] behind r below are read =
      ap (λ (l : List SourceReply). after_told ops scripts (with_lists events (firsts ++ l ∷ [])) behind) (sym (append-nil done)) ∙ read
  more_read firsts done (reply ∷ rest) behind r below are read =
      let parts = and_parts (is_reply reply) (list_all is_reply rest) are in
      let lists = firsts ++ done ∷ [] in
      let long : length lists ≡ length firsts + 1 = length-append firsts (done ∷ []) in
      let whole : grown (length firsts + 1) lists ≡ lists = grown_whole (length firsts + 1) lists (omega (arith, long)) in
      line_then ops scripts (with_lists events lists) (with_lists events (firsts ++ (done ++ reply ∷ []) ∷ [])) (spelled_reply (length firsts) reply) (map (spelled_reply (length firsts)) rest ++ behind) r
      (reply_read ops scripts events lists (length firsts) reply below (omega (arith, long)) few parts.0 ∙ ap (λ (l : List (List SourceReply)). Ok (with_lists events l)) (claim_last firsts lists done reply whole))
      (more_read firsts (done ++ reply ∷ []) rest behind r below parts.1
      (ap (λ (l : List SourceReply). after_told ops scripts (with_lists events (firsts ++ l ∷ [])) behind) (append_assoc done (reply ∷ []) rest) ∙ read))

  -- what is read gives the lists, but for empty ones at their end
  pub record Read (lines : List (List (List ℕ))) (lists whole : List (List SourceReply)) (count : ℕ) : Type 0 where
    pub last : List (List SourceReply)
    pub few_lists : length last ≤ count
    pub read : after_told ops scripts (with_lists events lists) lines ≡ Ok (with_lists events last)
    pub same : grown count last ≡ whole

  pub lists_read : (rest firsts lists : List (List SourceReply)) → length lists ≤ length firsts → grown (length firsts) lists ≡ firsts → length firsts + length rest ≡ scripts
      → list_all (list_all is_reply) rest ≡ true → Read (replies_lines (length firsts) rest) lists (firsts ++ rest) scripts
  lists_read [] firsts lists short same sum are =
      let all : length firsts ≡ scripts = omega (arith, sum) in
      record { last = lists; few_lists = omega (arith, short, all); read = refl; same = ap (λ (k : ℕ). grown k lists) (sym all) ∙ same ∙ sym (append-nil firsts) }
  lists_read ([] ∷ rest) firsts lists short same sum are =
      let long : length (firsts ++ [] ∷ []) ≡ length firsts + 1 = length-append firsts ([] ∷ []) in
      let next : grown (length (firsts ++ [] ∷ [])) lists ≡ firsts ++ [] ∷ []
      = ap (λ (k : ℕ). grown k lists) long ∙ grown_next (length firsts) lists short ∙ ap (λ (l : List (List SourceReply)). l ++ [] ∷ []) same in
      let more = lists_read rest (firsts ++ [] ∷ []) lists (omega (arith, long, short)) next (omega (arith, long, sum)) are in
      record {
        last = more.last;
        few_lists = more.few_lists;
        read = ap (λ (k : ℕ). after_told ops scripts (with_lists events lists) (replies_lines k rest)) (sym long) ∙ more.read;
        same = more.same ∙ append_assoc firsts ([] ∷ []) rest;
      }
  lists_read ((reply ∷ list) ∷ rest) firsts lists short same sum are =
      let parts = and_parts (list_all is_reply (reply ∷ list)) (list_all (list_all is_reply) rest) are in
      let first = and_parts (is_reply reply) (list_all is_reply list) parts.0 in
      let below : length firsts < scripts = omega (arith, sum) in
      let after = firsts ++ (reply ∷ list) ∷ [] in
      let long : length after ≡ length firsts + 1 = length-append firsts ((reply ∷ list) ∷ []) in
      let next : grown (length firsts + 1) lists ≡ firsts ++ [] ∷ [] = grown_next (length firsts) lists short ∙ ap (λ (l : List (List SourceReply)). l ++ [] ∷ []) same in
      let more = lists_read rest after after (omega (arith, long)) (grown_whole (length after) after (omega arith)) (omega (arith, long, sum)) parts.1 in
      record {
        last = more.last;
        few_lists = more.few_lists;
        read = line_then ops scripts (with_lists events lists) (with_lists events (firsts ++ (reply ∷ []) ∷ [])) (spelled_reply (length firsts) reply)
            (map (spelled_reply (length firsts)) list ++ replies_lines (length firsts + 1) rest) (Ok (with_lists events more.last))
            (reply_read ops scripts events lists (length firsts) reply below (omega (arith, short)) few first.0 ∙ ap (λ (l : List (List SourceReply)). Ok (with_lists events l)) (claim_last firsts lists [] reply next))
            (more_read firsts (reply ∷ []) list (replies_lines (length firsts + 1) rest) (Ok (with_lists events more.last)) below first.1
            (ap (λ (k : ℕ). after_told ops scripts (with_lists events after) (replies_lines k rest)) (sym long) ∙ more.read));
        same = more.same ∙ append_assoc firsts ((reply ∷ list) ∷ []) rest;
      }
