-- The lines of a target in three parts: up to its version line, its declarations, and from its first operation on.
use Rattle.std.specs.Prelude.{◌≡◌, ℕ, ◌+◌, ◌<◌, ◌≤◌, Bool, true, false, cond, not, ◌||◌, List, [], ◌∷◌, ◌++◌, map, Option, Some, None, Result, Ok, Err, IfOk, codes, nat_lt, if◌then◌else◌}
use Rattle.std.specs.List.{list_all, filter}
use Rattle.std.specs.Str.{bytes_eq}
use Rattle.std.proofs.Common.{refl, ap, ◌∙◌, sym, arith}
use Rattle.std.proofs.lemmas.Bool.{and_from, lt-ltb, le-ltb}
use Rattle.std.proofs.lemmas.Bool.Decides.{nat_tests}
use Rattle.std.proofs.lemmas.List.{map-append}
use Rattle.std.proofs.lemmas.List.Elements.{filter-append}
use Rattle.oa_text.specs.Lines.{TextLine, numbered}
use Rattle.oa_text.specs.Tokens.{words_of, line_fault}
use Rattle.norm_lang.specs.declared.text.Version.{Version}
use Rattle.norm_lang.specs.declared.text.Version.TheVariants.{First, Second}
use Rattle.norm_lang.specs.Faults.{LineFault, ◌>>=◌, form_fault, at_line}
use Rattle.norm_lang.specs.Grammar.{is_comment, plain}
use Rattle.norm_lang.specs.Declarations.{version_line}
use Rattle.norm_lang.specs.Spelling.{version_word, spelled_version}
use Rattle.line_words.specs.Lines.{words_in, first_word}
use Rattle.norm_parser.specs.FrontRead.{from_line, front_of, names_text, ends_head, head_lines, after_head}
use Rattle.norm_parser.specs.Version.{version_or, after_version, of_second}
use Rattle.text_laws.specs.StandsFor.{is_plain_line, begins_with_hash, is_skipped, told_in}
use Rattle.text_laws.proofs.Readings.{then_has}
use Rattle.text_laws.proofs.WordsSaid.{same_word}
use Rattle.text_laws.proofs.DeclarationsSaid.{version_said}
use Rattle.text_laws.proofs.DraftLimits.{at_line_has}
use Rattle.text_laws.proofs.DraftSaid.{told_line, same_comment}
use Rattle.text_laws.proofs.TextsSaid.{follows, told_first, line_plain}
use Rattle.target_reader.specs.TargetGrammar.{version_words, version_of, version_end}
use Rattle.target_reader.proofs.Spelled.{ends_declarations, NoEnds}

abbrev pub Lines : Type 0
Lines = List (List (List ℕ))

-- the lines of one list and of another
pub told_both : (xs ys : List (List ℕ)) → told_in (xs ++ ys) ≡ told_in xs ++ told_in ys
told_both xs ys = ap (filter (λ words. not (is_skipped words))) (map-append words_of xs ys) ∙ filter-append (λ words. not (is_skipped words)) (map words_of xs) (map words_of ys)

-- lines of which each comes later are all from a number on
pub all_later : (n start : ℕ) (lines : List (List ℕ)) → start ≤ n → from_line start (numbered n lines) ≡ numbered n lines
all_later n start [] le = refl
all_later n start (line ∷ lines) le =
    rw (le-ltb n start le) (ap (λ (rest : List TextLine). record { number = n; bytes = line } ∷ rest) (all_later (n + 1) start lines (omega arith)))

-- lines from a number on, and of these those from a later one on
pub from_twice : (late early : ℕ) (lines : List TextLine) → early ≤ late → from_line late (from_line early lines) ≡ from_line late lines
from_twice late early [] le = refl
from_twice late early (line ∷ lines) le = go (nat_lt line.number early) refl (nat_lt line.number late) refl (from_twice late early lines le)
  where
    go : (a : Bool) → nat_lt line.number early ≡ a → (b : Bool) → nat_lt line.number late ≡ b → from_line late (from_line early lines) ≡ from_line late lines
        → from_line late (if a then from_line early lines else line ∷ from_line early lines) ≡ (if b then from_line late lines else line ∷ from_line late lines)
    go true e true f others = others
    go true e false f others = let no : ⊥ = grind (arith, nat_tests) in absurd no
    go false e true f others = rw f others
    go false e false f others = rw f (ap (λ l. line ∷ l) others)

-- the words of a line that is read: it is plain and short enough
pub words_in_said : (line : TextLine) → IfOk (words_in line) (λ words. (words ≡ words_of line.bytes) × (is_plain_line line.bytes ≡ true))
words_in_said line = then_has (plain (line_fault line)) _ (λ done. is_plain_line line.bytes ≡ true) _ (line_plain line) λ done is. (refl, is)

abbrev rest_of : List (List ℕ) → List (List ℕ)
rest_of [] = []
rest_of (word ∷ rest) = rest

-- the line of a target's version
abbrev pub version_line_of : Version → List (List ℕ)
version_line_of version = codes "oat" ∷ version_word version ∷ []

-- what the words of a line tell that says a version, or none
abbrev told_version : Option Version → Lines
told_version None = []
told_version (Some version) = version_line_of version ∷ []

record Says (words : List (List ℕ)) (said : Option Version) : Type 0 where
  told : told_line words ≡ told_version said

said_of : (words : List (List ℕ)) → IfOk (version_words (first_word words)) (Says words)
said_of [] = record { told = refl }
said_of (word ∷ rest) = go (is_comment word) refl
  where
    says : begins_with_hash word ≡ false → (t : Bool) → bytes_eq word (codes "oat") ≡ t → IfOk (if t then (version_line rest >>= λ version. Ok (Some version)) else Err form_fault) (Says (word ∷ rest))
    says plain true e =
        then_has (version_line rest) _ (λ version. codes "oa" ∷ rest ≡ spelled_version version) (Says (word ∷ rest)) (version_said rest) λ version same.
        record { told = rw plain (ap (λ l. l ∷ []) (rw (same_word word (codes "oat") e, ap rest_of same) refl)) }
    says plain false e = tt

    go : (t : Bool) → is_comment word ≡ t → IfOk (version_words (if t then None else Some (word, rest))) (Says (word ∷ rest))
    go true e = let hash : begins_with_hash word ≡ true = sym (same_comment word) ∙ e in record { told = rw hash refl }
    go false e = says (sym (same_comment word) ∙ e) (bytes_eq word (codes "oat")) refl

record VersionLine (line : TextLine) (said : Option Version) : Type 0 where
  plain_line : is_plain_line line.bytes ≡ true
  says : Says (words_of line.bytes) said

version_of_said : (line : TextLine) → IfOk (version_of line) (VersionLine line)
version_of_said line =
    then_has (words_in line) _ (λ words. (words ≡ words_of line.bytes) × (is_plain_line line.bytes ≡ true)) (VersionLine line) (words_in_said line) λ words is. by words is.0 is.1
  where
    by : (words : List (List ℕ)) → words ≡ words_of line.bytes → is_plain_line line.bytes ≡ true → IfOk (version_words (first_word words)) (VersionLine line)
    by words same is = rw same (follows (version_words (first_word (words_of line.bytes))) (Says (words_of line.bytes)) (VersionLine line) (said_of (words_of line.bytes)) λ said it. record { plain_line = is; says = it })

-- the lines after the version line
pub record VersionSplit (n : ℕ) (lines : List (List ℕ)) (version : Version) (behind : ℕ) : Type 0 where
  pub rest : List (List ℕ)
  pub later : n < behind
  pub left : from_line behind (numbered n lines) ≡ numbered behind rest
  pub told : told_in lines ≡ version_line_of version ∷ told_in rest
  pub plain_too : list_all is_plain_line rest ≡ true → list_all is_plain_line lines ≡ true

abbrev Split : ℕ → List (List ℕ) → ℕ × Version → Type 0
Split n lines read = VersionSplit n lines read.1 read.0

-- a line and what the others tell
told_more : (bytes : List ℕ) (lines : List (List ℕ)) → told_in (bytes ∷ lines) ≡ told_line (words_of bytes) ++ told_in lines
told_more bytes lines = told_first (words_of bytes) (told_in lines) (not (is_skipped (words_of bytes)))

version_found : (n : ℕ) (bytes : List ℕ) (lines : List (List ℕ)) (said : Option Version) (next : Result (ℕ × Version) LineFault) → VersionLine (record { number = n; bytes = bytes }) said
    → IfOk next (Split (n + 1) lines) → IfOk (version_or said n next) (Split n (bytes ∷ lines))
version_found n bytes lines (Some version) next said others =
    let passed : nat_lt n (n + 1) ≡ true = lt-ltb n (n + 1) (omega arith) in
    record {
      rest = lines;
      later = omega arith;
      left = rw passed (all_later (n + 1) (n + 1) lines (omega arith));
      told = told_more bytes lines ∙ ap (λ l. l ++ told_in lines) ((said.says).told);
      plain_too = λ rest. and_from (is_plain_line bytes) (list_all is_plain_line lines) said.plain_line rest;
    }
version_found n bytes lines None next said others =
    follows next (Split (n + 1) lines) (Split n (bytes ∷ lines)) others λ read it.
    let later : n + 1 < read.0 = it.later in
    let passed : nat_lt n read.0 ≡ true = lt-ltb n read.0 (omega arith) in
    record {
      rest = it.rest;
      later = omega arith;
      left = rw passed it.left;
      told = told_more bytes lines ∙ ap (λ l. l ++ told_in lines) ((said.says).told) ∙ it.told;
      plain_too = λ rest. and_from (is_plain_line bytes) (list_all is_plain_line lines) said.plain_line (it.plain_too rest);
    }

versions_split : (past n : ℕ) (lines : List (List ℕ)) → IfOk (after_version (codes "oat") past (numbered n lines)) (Split n lines)
versions_split past n [] = tt
versions_split past n (bytes ∷ lines) =
    let line : TextLine = record { number = n; bytes = bytes } in
    then_has (at_line n (version_of line)) _ (VersionLine line) (Split n (bytes ∷ lines)) (at_line_has n (version_of line) (VersionLine line) (version_of_said line)) λ said is.
    version_found n bytes lines said (after_version (codes "oat") past (numbered (n + 1) lines)) is (versions_split past (n + 1) lines)

-- the version line of a target is of the second version
pub version_split : (past n : ℕ) (lines : List (List ℕ)) → IfOk (version_end past (numbered n lines)) (VersionSplit n lines Second)
version_split past n lines = then_has (after_version (codes "oat") past (numbered n lines)) _ (Split n lines) (VersionSplit n lines Second) (versions_split past n lines) λ read it. second read.1 read.0 it
  where
    second : (version : Version) (behind : ℕ) → VersionSplit n lines version behind → IfOk (of_second behind version) (VersionSplit n lines Second)
    second Second behind it = it
    second First behind it = tt

-- lines of which the first ends the declarations
abbrev pub BeginsEnd : Lines → Type 0
BeginsEnd [] = Unit {0}
BeginsEnd (words ∷ lines) = ends_declarations (front_of words) ≡ true

abbrev pub EndsHere : List (List ℕ) → Type 0
EndsHere [] = Unit {0}
EndsHere (bytes ∷ lines) = ends_declarations (front_of (words_of bytes)) ≡ true

-- the lines before the first that ends the declarations, and from there on
pub record HeadSplit (n : ℕ) (lines : List (List ℕ)) : Type 0 where
  pub front : List (List ℕ)
  pub back : List (List ℕ)
  pub place : ℕ
  pub split : lines ≡ front ++ back
  pub first : head_lines (numbered n lines) ≡ numbered n front
  pub behind : after_head (numbered n lines) ≡ numbered place back
  pub left : from_line place (numbered n lines) ≡ numbered place back
  pub later : n ≤ place
  pub none : NoEnds (told_in front)
  pub ends : EndsHere back

-- a line that ends the declarations isn't skipped
pub end_stands : (words : List (List ℕ)) → ends_declarations (front_of words) ≡ true → is_skipped words ≡ false
end_stands [] e = let f : ⊥ = cc in absurd f
end_stands (word ∷ rest) e = go (ends_head word) refl (names_text word) refl e
  where
    go : (a : Bool) → ends_head word ≡ a → (b : Bool) → names_text word ≡ b → a || b ≡ true → begins_with_hash word ≡ false
    go true op b named e = rw (same_word word (codes "op") op) refl
    go false op true named e = rw (same_word word (codes "use") named) refl
    go false op false named e = let f : ⊥ = cc in absurd f

-- and so it is told
pub end_told : (back : List (List ℕ)) → EndsHere back → BeginsEnd (told_in back)
end_told [] here = tt
end_told (bytes ∷ back) here = rw (end_stands (words_of bytes) here) here

no_end_first : (words : List (List ℕ)) (told : Lines) (taken : Bool) → ends_declarations (front_of words) ≡ false → NoEnds told → NoEnds (cond taken (words ∷ told) told)
no_end_first words told true e others = (e, others)
no_end_first words told false e others = others

pub head_split : (n : ℕ) (lines : List (List ℕ)) → HeadSplit n lines
head_split n [] = record { front = []; back = []; place = n; split = refl; first = refl; behind = refl; left = refl; later = omega arith; none = tt; ends = tt }
head_split n (bytes ∷ lines) = go (ends_declarations (front_of (words_of bytes))) refl (head_split (n + 1) lines)
  where
    go : (t : Bool) → ends_declarations (front_of (words_of bytes)) ≡ t → HeadSplit (n + 1) lines → HeadSplit n (bytes ∷ lines)
    go true e others = record {
      front = [];
      back = bytes ∷ lines;
      place = n;
      split = refl;
      first = rw e refl;
      behind = rw e refl;
      left = all_later n n (bytes ∷ lines) (omega arith);
      later = omega arith;
      none = tt;
      ends = e;
    }
    go false e others =
        let later : n + 1 ≤ others.place = others.later in
        let passed : nat_lt n others.place ≡ true = lt-ltb n others.place (omega arith) in
        record {
          front = bytes ∷ others.front;
          back = others.back;
          place = others.place;
          split = ap (λ l. bytes ∷ l) others.split;
          first = rw e (ap (λ (l : List TextLine). record { number = n; bytes = bytes } ∷ l) others.first);
          behind = rw e others.behind;
          left = rw passed others.left;
          later = omega arith;
          none = no_end_first (words_of bytes) (told_in others.front) (not (is_skipped (words_of bytes))) e others.none;
          ends = others.ends;
        }

-- where the lines of the declarations end is no choice
pub record SameParts (front back first second : Lines) : Type 0 where
  pub before : front ≡ first
  pub from_there : back ≡ second

abbrev tail_of : Lines → Lines
tail_of [] = []
tail_of (words ∷ lines) = lines

abbrev head_of : Lines → List (List ℕ)
head_of [] = []
head_of (words ∷ lines) = words

pub same_parts : (front back first : Lines) (op : List (List ℕ)) (others : Lines) → NoEnds front → BeginsEnd back → NoEnds first → ends_declarations (front_of op) ≡ true → front ++ back ≡ first ++ op ∷ others
    → SameParts front back first (op ∷ others)
same_parts [] back [] op others none begins none_too is same = record { before = refl; from_there = same }
same_parts [] back (words ∷ first) op others none begins none_too is same = absurd (clash back begins same)
  where
    clash : (back : Lines) → BeginsEnd back → back ≡ words ∷ (first ++ op ∷ others) → ⊥
    clash [] begins same = cc
    clash (x ∷ back) begins same = let is : x ≡ words = ap head_of same in let e : true ≡ false = sym begins ∙ ap (λ w. ends_declarations (front_of w)) is ∙ none_too.0 in cc
same_parts (words ∷ front) back [] op others none begins none_too is same =
    let here : words ≡ op = ap head_of same in
    let e : true ≡ false = sym is ∙ ap (λ w. ends_declarations (front_of w)) (sym here) ∙ none.0 in
    let f : ⊥ = cc in absurd f
same_parts (words ∷ front) back (x ∷ first) op others none begins none_too is same =
    let rest = same_parts front back first op others none.1 begins none_too.1 is (ap tail_of same) in
    let here : words ≡ x = ap head_of same in
    record { before = ap (λ l. words ∷ l) rest.before ∙ ap (λ w. w ∷ first) here; from_there = rest.from_there }
