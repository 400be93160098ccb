-- The scripts and the schedule as they are spelled behind the settings, and what their lines say.
use Rattle.std.specs.Prelude.{◌≡◌, ℕ, ◌+◌, ◌^◌, ◌<◌, ◌≤◌, ◌⊎◌, ◌&&◌, Bool, true, false, List, [], ◌∷◌, ◌++◌, map, length, Ok, codes, decimal, nat_lt, nat_le, ◌==◌}
use Rattle.std.specs.List.{list_all, AllByRecursion}
use Rattle.std.proofs.Common.{refl, ap, sym, ◌∙◌, arith, append_assoc, length-append, ⊎_elim, inl, inr}
use Rattle.std.proofs.lemmas.Bool.{and_from, and_parts, lt-ltb, ltb-true}
use Rattle.std.proofs.lemmas.Bool.Decides.{nat_tests}
use Rattle.std.proofs.lemmas.List.{append-nil, length-map}
use Rattle.oa_text.specs.Numbers.{is_numeral}
use Rattle.oa_text.proofs.Again.{decimal_numeral, number_of_decimal}
use Rattle.norm_lang.specs.declared.text.Text.{Text}
use Rattle.norm_lang.specs.LineWords.{is_lower, is_name_byte, is_name}
use Rattle.norm_lang.specs.Grammar.{is_comment}
use Rattle.norm_lang.specs.Limits.{is_number}
use Rattle.line_words.specs.Lines.{first_word}
use Rattle.schedule_turns.specs.declared.turn.StepKind.{StepKind}
use Rattle.schedule_turns.specs.declared.turn.StepKind.TheVariants as steps
use Rattle.schedule_turns.specs.declared.turn.Turn.{Turn}
use Rattle.schedule_turns.specs.declared.turn.Turn.TheVariants as turns
use Rattle.documents.specs.declared.document.ScriptCall.{ScriptCall}
use Rattle.documents.specs.TailLines.{values_in, arguments_at, step_kind_at, counts_at, upto_line}
use Rattle.documents.specs.DocumentRead.{InScript, InSchedule, Tail, after_words, document_of}
use Rattle.text_laws.proofs.WordsRead.{number_read}
use Rattle.document_spelling.specs.Spelling.{spelled_call, script_lines, scripts_lines, step_kind_word, spelled_turn, turn_lines, schedule_lines}
use Rattle.document_spelling.specs.SpellingLaws.{calls_from, scripts_from}
use Rattle.document_spelling.proofs.DocumentParts.{IsCall, IsScript, IsCount, IsTurn}
use Rattle.document_spelling.proofs.TailSpelled.{after_told, line_then, lines_then, renumbered, settled}

-- ---- calls

numerals : (args : List ℕ) → list_all is_number args ≡ true → list_all is_numeral (map decimal args) ≡ true
numerals [] all = refl
numerals (n ∷ args) all =
    let parts = and_parts (is_number n) (list_all is_number args) all in
    and_from (is_numeral (decimal n)) (list_all is_numeral (map decimal args)) (decimal_numeral n (ltb-true n (2 ^ 64) parts.0)) (numerals args parts.1)

values_read : (args : List ℕ) → list_all is_number args ≡ true → values_in (map decimal args) ≡ Ok args
values_read [] all = refl
values_read (n ∷ args) all =
    let parts = and_parts (is_number n) (list_all is_number args) all in
    rw (number_of_decimal n (ltb-true n (2 ^ 64) parts.0), parts.0, values_read args parts.1) refl

arguments_read : (args : List ℕ) → list_all is_number args ≡ true → arguments_at (map decimal args) ≡ Ok args
arguments_read args all = rw (numerals args all) (values_read args all)

name_told : (name : List ℕ) → is_name name ≡ true → is_comment name ≡ false
name_told [] is = refl
name_told (b ∷ bytes) is =
    let lower : is_lower b ≡ true = (and_parts (is_lower b) (list_all is_name_byte bytes && nat_le (length bytes) 15) is).0 in
    grind (arith, nat_tests)

-- ---- turns

counts_read : (caller count : ℕ) → IsCount caller count → counts_at (decimal caller ∷ decimal count ∷ []) ≡ Ok (record { caller = caller; count = count })
counts_read caller count is =
    let who : is_number caller ≡ true = grind (arith, nat_tests, is.known) in
    let many : is_number count ≡ true = grind (arith, nat_tests, is.few) in
    let some : nat_lt 0 count ≡ true = grind (arith, nat_tests, is.some) in
    rw (number_read caller who, number_read count many, some, is.known, is.few) refl

kind_read : (kind : StepKind) (rest : List (List ℕ)) → step_kind_at (step_kind_word kind ∷ rest) ≡ Ok (kind, rest)
kind_read steps.Load rest = refl
kind_read _ rest = refl

upto_read : (caller : ℕ) (kind : StepKind) (count : ℕ) → IsCount caller count → upto_line (decimal caller ∷ step_kind_word kind ∷ decimal count ∷ []) ≡ Ok (turns.Upto caller kind count)
upto_read caller kind count is =
    let who : is_number caller ≡ true = grind (arith, nat_tests, is.known) in
    let many : is_number count ≡ true = grind (arith, nat_tests, is.few) in
    let some : nat_lt 0 count ≡ true = grind (arith, nat_tests, is.some) in
    rw (number_read caller who, kind_read kind (decimal count ∷ []), number_read count many, some, is.known, is.few) refl

module _ (kinds : List (List ℕ)) (slots : List ℕ) (first last fuel : ℕ) where
  -- behind the settings
  abbrev pub set_up : Tail
  set_up = settled kinds slots first last fuel

  -- in a script, behind others
  abbrev pub in_script : List (List ScriptCall) → List ScriptCall → Tail
  in_script done script = record set_up { stage = InScript; scripts = done; script = script }

  -- in the schedule, behind all scripts
  abbrev pub in_turns : List (List ScriptCall) → List Turn → Tail
  in_turns scripts schedule = record set_up { stage = InSchedule; scripts = scripts; schedule = schedule }

  call_read : (done : List (List ScriptCall)) (script : List ScriptCall) (call : ScriptCall) (n : ℕ) → IsCall call → length script < 100000
      → after_words (in_script done script) n (first_word (spelled_call call)) ≡ Ok (in_script done (script ++ record call { line = n } ∷ []))
  call_read done script call n is room =
      rw (name_told call.name is.named, is.free, is.named, arguments_read call.args is.args, lt-ltb (length script) 100000 room) refl

  calls_read : (done : List (List ScriptCall)) (script calls : List ScriptCall) (n : ℕ) → AllByRecursion IsCall calls → length script + length calls ≤ 100000
      → after_told (in_script done script) n (map spelled_call calls) ≡ Ok (in_script done (script ++ calls_from n calls))
  calls_read done script [] n are few = ap (λ l. Ok (in_script done l)) (sym (append-nil script))
  calls_read done script (call ∷ calls) n are few =
      let here : ScriptCall = record call { line = n } in
      let with_it = script ++ here ∷ [] in
      line_then (in_script done script) (in_script done with_it) n (spelled_call call) (map spelled_call calls) (Ok (in_script done (script ++ here ∷ calls_from (n + 1) calls)))
      (call_read done script call n are.0 (omega (arith, few)))
      (calls_read done with_it calls (n + 1) are.1 (omega (arith, few, length-append script (here ∷ []))) ∙ ap (λ l. Ok (in_script done l)) (append_assoc script (here ∷ []) (calls_from (n + 1) calls)))

  -- ---- scripts

  -- the line with which the first script begins
  first_begins : (n : ℕ) → after_words set_up n (first_word (codes "script" ∷ decimal 0 ∷ [])) ≡ Ok (in_script [] [])
  first_begins n = rw (number_read 0 refl) refl

  -- the line with which a further script begins
  script_begins : (done : List (List ScriptCall)) (script : List ScriptCall) (number n : ℕ) → length (done ++ script ∷ []) ≡ number → number < 256
      → after_words (in_script done script) n (first_word (codes "script" ∷ decimal number ∷ [])) ≡ Ok (in_script (done ++ script ∷ []) [])
  script_begins done script number n count few =
      let small : is_number number ≡ true = lt-ltb number (2 ^ 64) (omega (arith, few)) in
      let same : (number == number) ≡ true = grind (arith, nat_tests) in
      rw (number_read number small, count, same, lt-ltb number 256 few) refl

  -- behind some scripts stand these
  record Ends (from : Tail) (n : ℕ) (lines : List (List (List ℕ))) (scripts : List (List ScriptCall)) : Type 0 where
    done : List (List ScriptCall)
    script : List ScriptCall
    read : after_told from n lines ≡ Ok (in_script done script)
    whole : done ++ script ∷ [] ≡ scripts

  -- the calls of a script behind its first line
  one_script : (from : Tail) (done : List (List ScriptCall)) (script : List ScriptCall) (number n : ℕ) → after_words from n (first_word (codes "script" ∷ decimal number ∷ [])) ≡ Ok (in_script done [])
      → IsScript script → after_told from n (script_lines number script) ≡ Ok (in_script done (calls_from (n + 1) script))
  one_script from done script number n begins is =
      line_then from (in_script done []) n (codes "script" ∷ decimal number ∷ []) (map spelled_call script) (Ok (in_script done (calls_from (n + 1) script))) begins
      (calls_read done [] script (n + 1) is.each (omega (arith, is.few)))

  -- behind the lines of a script
  ends_behind : (from next : Tail) (n after : ℕ) (lines others : List (List (List ℕ))) (scripts whole : List (List ScriptCall)) → after_told from n lines ≡ Ok next → n + length lines ≡ after → scripts ≡ whole
      → Ends next after others scripts → Ends from n (lines ++ others) whole
  ends_behind from next n after lines others scripts whole read place same ends = record {
    done = ends.done;
    script = ends.script;
    read = lines_then from next n lines others (Ok (in_script ends.done ends.script)) read (renumbered next after (n + length lines) others (Ok (in_script ends.done ends.script)) place ends.read);
    whole = rw (← same) ends.whole;
  }

  script_length : (number n : ℕ) (script : List ScriptCall) → n + length (script_lines number script) ≡ n + 1 + length script
  script_length number n script = omega (arith, length-map script spelled_call)

  more_scripts : (done : List (List ScriptCall)) (script : List ScriptCall) (scripts : List (List ScriptCall)) (number n : ℕ) → length (done ++ script ∷ []) ≡ number → AllByRecursion IsScript scripts
      → number + length scripts ≤ 256 → Ends (in_script done script) n (scripts_lines number scripts) ((done ++ script ∷ []) ++ scripts_from n scripts)
  more_scripts done script [] number n count are few = record { done = done; script = script; read = refl; whole = sym (append-nil (done ++ script ∷ [])) }
  more_scripts done script (next ∷ scripts) number n count are few =
      let whole = done ++ script ∷ [] in
      let here = calls_from (n + 1) next in
      let after = n + 1 + length next in
      ends_behind (in_script done script) (in_script whole here) n after (script_lines number next) (scripts_lines (number + 1) scripts)
      ((whole ++ here ∷ []) ++ scripts_from after scripts) (whole ++ here ∷ scripts_from after scripts)
      (one_script (in_script done script) whole next number n (script_begins done script number n count (omega (arith, few))) are.0)
      (script_length number n next) (append_assoc whole (here ∷ []) (scripts_from after scripts))
      (more_scripts whole here scripts (number + 1) after (length-append whole (here ∷ []) ∙ ap (λ k. k + 1) count) are.1 (omega (arith, few)))

  first_scripts : (script : List ScriptCall) (scripts : List (List ScriptCall)) (n : ℕ) → IsScript script → AllByRecursion IsScript scripts → 1 + length scripts ≤ 256
      → Ends set_up n (scripts_lines 0 (script ∷ scripts)) (scripts_from n (script ∷ scripts))
  first_scripts script scripts n is are few =
      let here = calls_from (n + 1) script in
      let after = n + 1 + length script in
      ends_behind set_up (in_script [] here) n after (script_lines 0 script) (scripts_lines 1 scripts) (here ∷ scripts_from after scripts) (here ∷ scripts_from after scripts)
      (one_script set_up [] script 0 n (first_begins n) is) (script_length 0 n script) refl (more_scripts [] here scripts 1 after refl are few)

  -- ---- the schedule

  turn_line_read : (turn : Turn) (n : ℕ) (scripts : List (List ScriptCall)) (done : List Turn) → IsTurn turn → length done < 100000
      → after_words (in_turns scripts done) n (first_word (spelled_turn turn)) ≡ Ok (in_turns scripts (done ++ turn ∷ []))
  turn_line_read (turns.Step caller count) n scripts done is room = rw (counts_read caller count is, lt-ltb (length done) 100000 room) refl
  turn_line_read (turns.Upto caller kind count) n scripts done is room = rw (upto_read caller kind count is, lt-ltb (length done) 100000 room) refl
  turn_line_read (turns.Ops caller count) n scripts done is room = rw (counts_read caller count is, lt-ltb (length done) 100000 room) refl

  turns_read : (scripts : List (List ScriptCall)) (done schedule : List Turn) (n : ℕ) → AllByRecursion IsTurn schedule → length done + length schedule ≤ 100000
      → after_told (in_turns scripts done) n (map spelled_turn schedule) ≡ Ok (in_turns scripts (done ++ schedule))
  turns_read scripts done [] n are few = ap (λ l. Ok (in_turns scripts l)) (sym (append-nil done))
  turns_read scripts done (turn ∷ schedule) n are few =
      let with_it = done ++ turn ∷ [] in
      line_then (in_turns scripts done) (in_turns scripts with_it) n (spelled_turn turn) (map spelled_turn schedule) (Ok (in_turns scripts (done ++ turn ∷ schedule)))
      (turn_line_read turn n scripts done are.0 (omega (arith, few)))
      (turns_read scripts with_it schedule (n + 1) are.1 (omega (arith, few, length-append done (turn ∷ []))) ∙ ap (λ l. Ok (in_turns scripts l)) (append_assoc done (turn ∷ []) schedule))

  -- behind all scripts: behind the settings if there is none, and otherwise in the last one
  abbrev IsBehind : List (List ScriptCall) → Tail → Type 0
  IsBehind scripts tail = ((tail ≡ set_up) × (scripts ≡ [])) ⊎ ((done : List (List ScriptCall)) × (script : List ScriptCall) × (tail ≡ in_script done script) × (done ++ script ∷ [] ≡ scripts))

  schedule_begins : (scripts : List (List ScriptCall)) (tail : Tail) (n : ℕ) → IsBehind scripts tail → after_words tail n (first_word (codes "schedule" ∷ [])) ≡ Ok (in_turns scripts [])
  schedule_begins scripts tail n is = ⊎_elim (λ none. rw (none.0, none.1) refl) (λ some. rw (some.2, ← some.3) refl) is

  -- what is said behind the schedule is a document like that of these turns behind these scripts
  pub record Says (tail : Tail) (n : ℕ) (lines : List (List (List ℕ))) (scripts : List (List ScriptCall)) (schedule : List Turn) : Type 0 where
    pub said : Tail
    pub read : after_told tail n lines ≡ Ok said
    pub same : (text : Text) → document_of text said ≡ document_of text (in_turns scripts schedule)

  turn_lines_said : (scripts : List (List ScriptCall)) (schedule : List Turn) (tail : Tail) (n : ℕ) → IsBehind scripts tail → AllByRecursion IsTurn schedule → length schedule ≤ 100000
      → Says tail n (turn_lines schedule) scripts schedule
  turn_lines_said scripts schedule tail n is are few = record {
    said = in_turns scripts schedule;
    read = line_then tail (in_turns scripts []) n (codes "schedule" ∷ []) (map spelled_turn schedule) (Ok (in_turns scripts schedule)) (schedule_begins scripts tail n is)
        (turns_read scripts [] schedule (n + 1) are (omega (arith, few)));
    same = λ text. refl;
  }

  no_schedule : (scripts : List (List ScriptCall)) (tail : Tail) → IsBehind scripts tail → (text : Text) → document_of text tail ≡ document_of text (in_turns scripts [])
  no_schedule scripts tail is text = ⊎_elim (λ none. rw (none.0, none.1) refl) (λ some. rw (some.2, ← some.3) refl) is

  schedule_said : (always : Bool) (scripts : List (List ScriptCall)) (schedule : List Turn) (tail : Tail) (n : ℕ) → IsBehind scripts tail → AllByRecursion IsTurn schedule → length schedule ≤ 100000
      → Says tail n (schedule_lines always schedule) scripts schedule
  schedule_said false scripts [] tail n is are few = record { said = tail; read = refl; same = no_schedule scripts tail is }
  schedule_said _ scripts x tail n is are few = turn_lines_said scripts x tail n is are few

  -- the scripts and the schedule
  pub tail_said : (always : Bool) (scripts : List (List ScriptCall)) (schedule : List Turn) (n : ℕ) → AllByRecursion IsScript scripts → length scripts ≤ 256 → AllByRecursion IsTurn schedule
      → length schedule ≤ 100000 → Says set_up n (scripts_lines 0 scripts ++ schedule_lines always schedule) (scripts_from n scripts) schedule
  tail_said always [] schedule n are few turned short = schedule_said always [] schedule set_up n (inl (refl, refl)) turned short
  tail_said always (script ∷ scripts) schedule n are few turned short =
      let lines = scripts_lines 0 (script ∷ scripts) in
      let ends = first_scripts script scripts n are.0 are.1 (omega (arith, few)) in
      let says = schedule_said always (scripts_from n (script ∷ scripts)) schedule (in_script ends.done ends.script) (n + length lines) (inr (ends.done, ends.script, refl, ends.whole)) turned short in
      record {
        said = says.said;
        read = lines_then set_up (in_script ends.done ends.script) n lines (schedule_lines always schedule) (Ok says.said) ends.read says.read;
        same = says.same;
      }
