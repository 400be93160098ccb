-- Each target that bytes spell is what their lines say, and within the limits.
use Rattle.std.specs.Prelude.{◌≡◌, ℕ, ◌+◌, ◌≤◌, Bool, true, false, not, List, [], ◌∷◌, ◌++◌, length, Some, None, Result, Ok, Err, IfOk, codes, nat_lt, if◌then◌else◌}
use Rattle.std.specs.List.{list_all, list_any, flat_map}
use Rattle.std.specs.Str.{bytes_eq}
use Rattle.std.proofs.Common.{refl, ap, ◌∙◌, sym, append_assoc}
use Rattle.std.proofs.lemmas.Bool.{and_from}
use Rattle.std.proofs.lemmas.List.{append-nil}
use Rattle.std.proofs.lemmas.List.Folds.{list_all-append}
use Rattle.std.proofs.lemmas.Result.{IfOk-at_ok}
use Rattle.oa_text.specs.Lines.{TextLine, lines_of, numbered}
use Rattle.oa_text.specs.Tokens.{words_of}
use Rattle.norm_lang.specs.declared.text.FieldDecl.{FieldDecl}
use Rattle.norm_lang.specs.declared.text.RootDecl.{RootDecl}
use Rattle.norm_lang.specs.declared.text.Text.{Text}
use Rattle.norm_lang.specs.declared.text.Version.{Version}
use Rattle.norm_lang.specs.declared.text.Version.TheVariants.{First, Second}
use Rattle.norm_lang.specs.Faults.{LineFault, ◌>>=◌, form_fault, at_line}
use Rattle.norm_lang.specs.Spelling.{spelled_version, declaration_lines}
use Rattle.norm_lang.specs.Grammar.{Section, Start, Opening, Roots, Draft, draft_at, is_comment, after_lines}
use Rattle.line_words.specs.Lines.{words_in, first_word}
use Rattle.norm_parser.specs.declared.head.Head.{Head}
use Rattle.norm_parser.specs.FrontRead.{from_line, front_of, names_text, end_before, ended, whole_in, whole_head, before_op, head_in, IsHeadWithinLimits}
use Rattle.text_laws.specs.StandsFor.{is_plain_line, begins_with_hash, is_skipped, told_in, told}
use Rattle.text_laws.proofs.Readings.{then_has, demanded}
use Rattle.text_laws.proofs.DraftLimits.{Keeps, Kept, lines_kept, at_line_has, nothing_declared, roots_within}
use Rattle.text_laws.proofs.DraftSaid.{SaysIn, SaidIn, told_line, same_comment, words_said, nothing_said, whole_declared}
use Rattle.text_laws.proofs.TextsSaid.{both, follows, told_first, lines_said, lines_plain}
use Rattle.target_code.specs.declared.target.TargetOp.{TargetOp}
use Rattle.target_code.specs.declared.target.Target.{Target}
use Rattle.target_code.specs.TargetSpelling.{spelled_target_version, target_op_lines, spelled_target}
use Rattle.target_code.specs.TargetLimits.{are_target_ops, is_target_within_limits}
use Rattle.target_reader.specs.TargetGrammar.{OpsDraft, no_ops, after_target_words, after_target_line, after_target_lines, finished_ops, ops_read, version_end, target_of, Spells}
use Rattle.target_reader.proofs.OpsLimits.{ops_within}
use Rattle.target_reader.proofs.Targets.{both_within}
use Rattle.target_text_laws.specs.TargetStandsFor.{TargetsAreWithin, TargetStandsForOne}
use Rattle.target_text_laws.proofs.OpsSaid as ops_said
use Rattle.target_text_laws.proofs.Parts.{Lines, told_both, from_twice, words_in_said, VersionSplit, version_split, HeadSplit, head_split}

-- what is read of lines
abbrev pub read_of : List (List ℕ) → Result Target LineFault
read_of lines =
    version_end (length lines + 1) (numbered 1 lines) >>= λ behind.
    head_in (from_line behind (numbered 1 lines)) (length lines + 1) >>= λ head.
    ops_read head.0.kinds head.0.fields head.0.roots (length lines + 1) no_ops (from_line head.1 (numbered 1 lines)) >>= λ ops. Ok (target_of head.0 ops)

-- the text that declares the same and has no operation
abbrev pub head_text : Head → Text
head_text head = record { kinds = head.kinds; fields = head.fields; roots = head.roots; nodes = head.nodes; ops = [] }

-- declarations that lines tell
record TellsHead (lines : Lines) (head : Head) : Type 0 where
  said : lines ≡ declaration_lines Second (head_text head)
  within : IsHeadWithinLimits head

abbrev rest_of : Lines → Lines
rest_of [] = []
rest_of (words ∷ lines) = lines

abbrev first_of : Lines → List (List ℕ)
first_of [] = []
first_of (words ∷ lines) = words

is_second : (version : Version) → spelled_version Second ≡ spelled_version version → version ≡ Second
is_second First same =
    let e : true ≡ false = ap (λ words. list_any (λ word. bytes_eq word (codes "2")) words) same in
    let f : ⊥ = cc in absurd f
is_second Second same = refl

-- the lines after a version line of the second version
whole_told : (version : Version) (text : Text) (lines : Lines) → spelled_version Second ∷ lines ≡ spelled_version version ∷ declaration_lines version text → lines ≡ declaration_lines Second text
whole_told version text lines same =
    let second : version ≡ Second = is_second version (ap first_of same) in
    ap rest_of same ∙ ap (λ v. declaration_lines v text) second

whole_in_said : (section : Section) (draft : Draft) (lines : Lines) → Keeps section draft → SaysIn section draft (spelled_version Second ∷ lines) → IfOk (whole_in section draft) (TellsHead lines)
whole_in_said Roots draft lines keeps h =
    demanded form_fault (nat_lt 0 (length draft.text.roots)) _ (TellsHead lines) λ some. record {
      said = whole_told draft.version draft.text lines (h.said ∙ whole_declared draft.version draft.counted draft.owners draft.text keeps.all_counted keeps.all);
      within = roots_within draft keeps some;
    }
whole_in_said _ draft lines keeps h = tt

ended_has : {A : Type 0} (r : Result A ℕ) (end : LineFault) (Q : A → Type 0) (P : A × ℕ → Type 0) → IfOk r Q → ((x : A) → Q x → P (x, end.line)) → IfOk (ended r end) P
ended_has (Ok x) end Q P has next = next x has
ended_has (Err e) end Q P has next = tt

-- the lines of declarations, and those after them
pub record HeadTold (n : ℕ) (lines : List (List ℕ)) (read : Head × ℕ) : Type 0 where
  pub back : List (List ℕ)
  pub later : n ≤ read.1
  pub left : from_line read.1 (numbered n lines) ≡ numbered read.1 back
  pub told : told_in lines ≡ declaration_lines Second (head_text read.0) ++ told_in back
  pub plain_too : list_all is_plain_line back ≡ true → list_all is_plain_line lines ≡ true
  pub within : IsHeadWithinLimits read.0

-- what a draft of declarations is
record DraftTold (front : List (List ℕ)) (draft : Draft) : Type 0 where
  kept : Kept draft
  said : SaidIn (spelled_version Second ∷ told_in front) draft
  plain_lines : list_all is_plain_line front ≡ true

-- right after the version line
abbrev opens : Draft
opens = draft_at Second Opening

opens_said : SaidIn (spelled_version Second ∷ []) opens
opens_said = words_said (draft_at Second Start) (spelled_version Second) [] (nothing_declared Second) nothing_said

draft_told : (n : ℕ) (front : List (List ℕ)) → IfOk (after_lines opens (numbered n front)) (DraftTold front)
draft_told n front =
    let read = after_lines opens (numbered n front) in
    let kept : Kept opens = nothing_declared Second in
    let telling = SaidIn (spelled_version Second ∷ told_in front) in
    follows read (λ draft. Kept draft × (telling draft × (list_all is_plain_line front ≡ true))) (DraftTold front)
    (both read Kept (λ draft. telling draft × (list_all is_plain_line front ≡ true)) (lines_kept opens (numbered n front) kept)
    (both read telling (λ draft. list_all is_plain_line front ≡ true)
    (lines_said n opens front (spelled_version Second ∷ []) (spelled_version Second ∷ told_in front) kept opens_said refl)
    (lines_plain n opens front)))
    λ draft has. record { kept = has.0; said = has.1.0; plain_lines = has.1.1 }

-- a draft whose lines end before an operation
record DraftEnds (front : List (List ℕ)) (place : ℕ) (read : Draft × LineFault) : Type 0 where
  told : DraftTold front read.0
  ends : read.1.line ≡ place

before_told : (front back : List (List ℕ)) (place past : ℕ) (draft : Draft) → DraftTold front draft → IfOk (before_op draft (numbered place back) past) (DraftEnds front place)
before_told front [] place past draft told = tt
before_told front (bytes ∷ back) place past draft told = go (names_text (front_of (words_of bytes)))
  where
    line : TextLine
    line = record { number = place; bytes = bytes }

    go : (b : Bool) → IfOk (if b then Err (end_before line) else Ok (draft, end_before line)) (DraftEnds front place)
    go true = tt
    go false = record { told = told; ends = refl }

head_told : (n past : ℕ) (lines : List (List ℕ)) → IfOk (head_in (numbered n lines) past) (HeadTold n lines)
head_told n past lines = rw (split.first, split.behind) (then_has (after_lines opens (numbered n split.front) >>= λ draft. before_op draft (numbered split.place split.back) past) _
    (DraftEnds split.front split.place) (HeadTold n lines) ends λ read has.
    ended_has (whole_head read.0) read.1 (TellsHead (told_in split.front)) (HeadTold n lines) (whole_in_said read.0.section read.0 (told_in split.front) has.told.kept has.told.said) λ head tells.
    rw has.ends (found head tells has.told.plain_lines))
  where
    split : HeadSplit n lines
    split = head_split n lines

    ends : IfOk (after_lines opens (numbered n split.front) >>= λ draft. before_op draft (numbered split.place split.back) past) (DraftEnds split.front split.place)
    ends = then_has (after_lines opens (numbered n split.front)) _ (DraftTold split.front) (DraftEnds split.front split.place) (draft_told n split.front) λ draft told.
        before_told split.front split.back split.place past draft told

    found : (head : Head) → TellsHead (told_in split.front) head → list_all is_plain_line split.front ≡ true → HeadTold n lines (head, split.place)
    found head tells are = record {
      back = split.back;
      later = split.later;
      left = split.left;
      told = ap told_in split.split ∙ told_both split.front split.back ∙ ap (λ l. l ++ told_in split.back) tells.said;
      plain_too = λ others. ap (list_all is_plain_line) split.split ∙ list_all-append is_plain_line split.front split.back ∙ and_from (list_all is_plain_line split.front) (list_all is_plain_line split.back) are others;
      within = tells.within;
    }

module _ (kinds : List (List ℕ)) (fields : List FieldDecl) (roots : List RootDecl) where
  words_told : (draft : OpsDraft) (words : List (List ℕ)) (lines : Lines) → ops_said.SaidIn kinds fields roots lines draft
      → IfOk (after_target_words kinds fields roots draft (first_word words)) (ops_said.SaidIn kinds fields roots (lines ++ told_line words))
  words_told draft [] lines h = rw (append-nil lines) h
  words_told draft (word ∷ rest) lines h = go (is_comment word) refl
    where
      taken : begins_with_hash word ≡ false → IfOk (after_target_words kinds fields roots draft (Some (word, rest))) (ops_said.SaidIn kinds fields roots (lines ++ told_line (word ∷ rest)))
      taken e = rw e (ops_said.place_said kinds fields roots draft.left draft word rest lines h)

      go : (t : Bool) → is_comment word ≡ t → IfOk (after_target_words kinds fields roots draft (if t then None else Some (word, rest))) (ops_said.SaidIn kinds fields roots (lines ++ told_line (word ∷ rest)))
      go true e = let hash : begins_with_hash word ≡ true = sym (same_comment word) ∙ e in rw (hash, append-nil lines) h
      go false e = taken (sym (same_comment word) ∙ e)

  -- a draft after a line that is plain
  record LineTold (lines : Lines) (bytes : List ℕ) (draft : OpsDraft) : Type 0 where
    said : ops_said.SaidIn kinds fields roots (lines ++ told_line (words_of bytes)) draft
    plain_line : is_plain_line bytes ≡ true

  line_told : (draft : OpsDraft) (line : TextLine) (lines : Lines) → ops_said.SaidIn kinds fields roots lines draft → IfOk (after_target_line kinds fields roots draft line) (LineTold lines line.bytes)
  line_told draft line lines h =
      then_has (words_in line) _ (λ words. (words ≡ words_of line.bytes) × (is_plain_line line.bytes ≡ true)) (LineTold lines line.bytes) (words_in_said line) λ words is. by words is.0 is.1
    where
      by : (words : List (List ℕ)) → words ≡ words_of line.bytes → is_plain_line line.bytes ≡ true → IfOk (after_target_words kinds fields roots draft (first_word words)) (LineTold lines line.bytes)
      by words same is = rw same (follows (after_target_words kinds fields roots draft (first_word (words_of line.bytes))) (ops_said.SaidIn kinds fields roots (lines ++ told_line (words_of line.bytes))) (LineTold lines line.bytes)
          (words_told draft (words_of line.bytes) lines h) λ next said. record { said = said; plain_line = is })

  -- a draft after lines that are plain
  record LinesTold (whole : Lines) (lines : List (List ℕ)) (draft : OpsDraft) : Type 0 where
    said : ops_said.SaidIn kinds fields roots whole draft
    plain_lines : list_all is_plain_line lines ≡ true

  lines_told : (number : ℕ) (draft : OpsDraft) (lines : List (List ℕ)) (so_far whole : Lines) → ops_said.SaidIn kinds fields roots so_far draft → so_far ++ told_in lines ≡ whole
      → IfOk (after_target_lines kinds fields roots draft (numbered number lines)) (LinesTold whole lines)
  lines_told number draft [] so_far whole h same = record { said = rw (← same, append-nil so_far) h; plain_lines = refl }
  lines_told number draft (bytes ∷ lines) so_far whole h same =
      let line : TextLine = record { number = number; bytes = bytes } in
      let more = so_far ++ told_line (words_of bytes) in
      then_has (at_line number (after_target_line kinds fields roots draft line)) _ (LineTold so_far bytes) (LinesTold whole (bytes ∷ lines))
      (at_line_has number (after_target_line kinds fields roots draft line) (LineTold so_far bytes) (line_told draft line so_far h)) λ next has.
      follows (after_target_lines kinds fields roots next (numbered (number + 1) lines)) (LinesTold whole lines) (LinesTold whole (bytes ∷ lines))
      (lines_told (number + 1) next lines more whole has.said
      (append_assoc so_far (told_line (words_of bytes)) (told_in lines) ∙ ap (λ l. so_far ++ l) (sym (told_first (words_of bytes) (told_in lines) (not (is_skipped (words_of bytes))))) ∙ same))
      λ last others. record { said = others.said; plain_lines = and_from (is_plain_line bytes) (list_all is_plain_line lines) has.plain_line others.plain_lines }

  -- operations that lines tell
  pub record OpsTold (lines : List (List ℕ)) (ops : List TargetOp) : Type 0 where
    pub told : told_in lines ≡ flat_map (target_op_lines kinds fields roots) ops
    pub plain_lines : list_all is_plain_line lines ≡ true

  pub ops_told : (number past : ℕ) (lines : List (List ℕ)) → IfOk (ops_read kinds fields roots past no_ops (numbered number lines)) (OpsTold lines)
  ops_told number past lines =
      then_has (after_target_lines kinds fields roots no_ops (numbered number lines)) _ (LinesTold (told_in lines) lines) (OpsTold lines)
      (lines_told number no_ops lines [] (told_in lines) (ops_said.nothing_said kinds fields roots) refl) λ last has.
      at_line_has past (finished_ops last) (OpsTold lines)
      (follows (finished_ops last) (λ ops. told_in lines ≡ flat_map (target_op_lines kinds fields roots) ops) (OpsTold lines) (ops_said.finished_said kinds fields roots last (told_in lines) has.said) λ ops said.
      record { told = said; plain_lines = has.plain_lines })

-- a target that lines tell
pub record TargetTold (lines : List (List ℕ)) (target : Target) : Type 0 where
  pub plain_lines : list_all is_plain_line lines ≡ true
  pub within : is_target_within_limits target ≡ true
  pub told : told_in lines ≡ spelled_target target

pub target_told : (lines : List (List ℕ)) → IfOk (read_of lines) (TargetTold lines)
target_told lines =
    then_has (version_end past (numbered 1 lines)) _ (VersionSplit 1 lines Second) (TargetTold lines) (version_split past 1 lines) λ behind version.
    then_has (head_in (from_line behind (numbered 1 lines)) past) _ (HeadTold behind version.rest) (TargetTold lines) (headed behind version) λ head told.
    then_has (ops_read head.0.kinds head.0.fields head.0.roots past no_ops (from_line head.1 (numbered 1 lines))) _
    (λ ops. OpsTold head.0.kinds head.0.fields head.0.roots told.back ops × (are_target_ops (length head.0.kinds) (length head.0.fields) (length head.0.roots) ops ≡ true)) (TargetTold lines) (opsed behind version head told) λ ops has.
    record {
      plain_lines = version.plain_too (told.plain_too has.0.plain_lines);
      within = both_within head.0 ops told.within has.1;
      told = version.told ∙ ap (λ l. spelled_target_version ∷ l) (told.told ∙ ap (λ l. declaration_lines Second (head_text head.0) ++ l) has.0.told);
    }
  where
    past : ℕ
    past = length lines + 1

    headed : (behind : ℕ) (version : VersionSplit 1 lines Second behind) → IfOk (head_in (from_line behind (numbered 1 lines)) past) (HeadTold behind version.rest)
    headed behind version = rw version.left (head_told behind past version.rest)

    opsed : (behind : ℕ) (version : VersionSplit 1 lines Second behind) (head : Head × ℕ) (told : HeadTold behind version.rest head)
        → IfOk (ops_read head.0.kinds head.0.fields head.0.roots past no_ops (from_line head.1 (numbered 1 lines))) (λ ops. OpsTold head.0.kinds head.0.fields head.0.roots told.back ops × (are_target_ops (length head.0.kinds) (length head.0.fields) (length head.0.roots) ops ≡ true))
    opsed behind version head told =
        let from : from_line head.1 (numbered 1 lines) ≡ numbered head.1 told.back
        = sym (from_twice head.1 behind (numbered 1 lines) told.later) ∙ ap (from_line head.1) version.left ∙ told.left in
        rw from (both (ops_read head.0.kinds head.0.fields head.0.roots past no_ops (numbered head.1 told.back)) (OpsTold head.0.kinds head.0.fields head.0.roots told.back) (λ ops. are_target_ops (length head.0.kinds) (length head.0.fields) (length head.0.roots) ops ≡ true)
        (ops_told head.0.kinds head.0.fields head.0.roots head.1 past told.back) (ops_within head.0.kinds head.0.fields head.0.roots past (numbered head.1 told.back)))

pub target_of_bytes : (bytes : List ℕ) (target : Target) → Spells bytes target → TargetTold (lines_of bytes) target
target_of_bytes bytes target spells = IfOk-at_ok (TargetTold (lines_of bytes)) spells (target_told (lines_of bytes))

pub targets_are_within : TargetsAreWithin
targets_are_within bytes target spells = (target_of_bytes bytes target spells).within

pub target_stands_for_one : TargetStandsForOne
target_stands_for_one bytes one other spells spells_too = cc
