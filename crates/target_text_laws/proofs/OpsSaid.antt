-- The lines so far of a target's operations are those that spell what they say, whichever line comes next.
use Rattle.std.specs.Prelude.{◌≡◌, ℕ, zero, suc, ◌+◌, true, not, ◌&&◌, List, [], ◌∷◌, ◌++◌, map, length, Option, Some, None, IfOk, codes, decimal, nat_lt, ◌==◌, ⊤}
use Rattle.std.specs.List.{flat_map}
use Rattle.std.specs.Str.{bytes_eq}
use Rattle.std.proofs.Common.{refl, ap, ◌∙◌, sym, arith, append_assoc, length-append}
use Rattle.std.proofs.lemmas.Bool.{and_parts, eqb-true}
use Rattle.std.proofs.lemmas.Grind.{flat_map-append}
use Rattle.std.proofs.lemmas.List.{map-append, append-nil}
use Rattle.norm_lang.specs.declared.text.FieldDecl.{FieldDecl}
use Rattle.norm_lang.specs.declared.text.RootDecl.{RootDecl}
use Rattle.norm_lang.specs.declared.text.CasEntry.{CasEntry}
use Rattle.norm_lang.specs.declared.text.Instr.TheVariants as instr
use Rattle.norm_lang.specs.declared.text.Version.TheVariants.{Second}
use Rattle.norm_lang.specs.Faults.{form_fault, too_many}
use Rattle.norm_lang.specs.Declarations.{op_line}
use Rattle.norm_lang.specs.Instructions.{Step, Whole, Commits, step_line, entry_line}
use Rattle.norm_lang.specs.Kept.{holds_reference}
use Rattle.norm_lang.specs.Spelling.{register_word, spelled_entry}
use Rattle.text_laws.proofs.Readings.{then_has, demanded, either}
use Rattle.text_laws.proofs.WordsSaid.{same_word, end_then}
use Rattle.text_laws.proofs.DeclarationsSaid.{SaysOp, op_said}
use Rattle.text_laws.proofs.InstrsSaid.{one_then, StepSays, step_said, entry_said}
use Rattle.text_laws.proofs.DraftSaid.{pending_lines}
use Rattle.target_code.specs.declared.target.TargetInstr.{TargetInstr}
use Rattle.target_code.specs.declared.target.TargetInstr.TheVariants.{Plain, Check, Guard}
use Rattle.target_code.specs.declared.target.TargetOp.{TargetOp}
use Rattle.target_code.specs.TargetSpelling.{target_instr_lines, target_code_lines, spelled_target_op, target_op_lines}
use Rattle.target_reader.specs.TargetGrammar.{Part, Outside, Begun, Generator, WrapUp, OpsDraft, no_ops, opened, target_op_at, target_op_line, with_whole_target_op, with_one_more, has_place, is_fifth_target_new, with_target_entries, with_target_step, plain_line, guarded_at, added_line, in_outside, in_begun_op, in_target_generator, in_target_wrap_up, or_plain, in_target_place, finished_ops_in, finished_ops}

abbrev pub Lines : Type 0
Lines = List (List (List ℕ))

-- a draft at a part, with no entry line to follow
abbrev pub at : Part → OpsDraft → OpsDraft
at part draft = record draft { part = part; left = 0 }

none : (left : ℕ) → suc left ≡ 0 → ⊥
none left e = absurd (omega arith)

-- one more line, whatever it adds
grown : (before code next lines : Lines) (words : List (List ℕ)) → lines ≡ before ++ code → code ++ words ∷ [] ≡ next → lines ++ words ∷ [] ≡ before ++ next
grown before code next lines words said same = rw said (append_assoc before code (words ∷ []) ∙ ap (λ l. before ++ l) same)

module _ (kinds : List (List ℕ)) (fields : List FieldDecl) (roots : List RootDecl) where
  -- the lines of whole operations
  abbrev pub whole_lines : List TargetOp → Lines
  whole_lines ops = flat_map (target_op_lines kinds fields roots) ops

  -- the lines of a method so far
  abbrev pub code_so_far_lines : List TargetInstr → ℕ → List CasEntry → Lines
  code_so_far_lines code left entries = target_code_lines kinds fields roots code ++ pending_lines fields roots left entries

  -- the lines before a generator's, and before a wrap-up's
  abbrev pub before_generator : List TargetOp → TargetOp → Lines
  before_generator ops op = whole_lines ops ++ (spelled_target_op op ∷ (codes "gen" ∷ []) ∷ [])

  abbrev pub before_wrap_up : List TargetOp → TargetOp → Lines
  before_wrap_up ops op = whole_lines ops ++ (spelled_target_op op ∷ (codes "gen" ∷ []) ∷ (target_code_lines kinds fields roots op.generator ++ (codes "wrap" ∷ []) ∷ []))

  pub record SaysOutside (draft : OpsDraft) (lines : Lines) : Type 0 where
    said : lines ≡ whole_lines draft.ops
    whole : draft.left ≡ 0

  pub record SaysBegun (draft : OpsDraft) (lines : Lines) : Type 0 where
    said : lines ≡ whole_lines draft.ops ++ (spelled_target_op draft.op ∷ [])
    no_generator : draft.op.generator ≡ []
    no_wrap_up : draft.op.wrapup ≡ []
    whole : draft.left ≡ 0

  pub record SaysGenerator (draft : OpsDraft) (lines : Lines) : Type 0 where
    said : lines ≡ before_generator draft.ops draft.op ++ code_so_far_lines draft.op.generator draft.left draft.entries
    no_wrap_up : draft.op.wrapup ≡ []

  pub record SaysWrapUp (draft : OpsDraft) (lines : Lines) : Type 0 where
    said : lines ≡ before_wrap_up draft.ops draft.op ++ code_so_far_lines draft.op.wrapup draft.left draft.entries

  -- what the lines so far are, for a draft at a part
  abbrev pub SaysIn : Part → OpsDraft → Lines → Type 0
  SaysIn Outside draft lines = SaysOutside draft lines
  SaysIn Begun draft lines = SaysBegun draft lines
  SaysIn Generator draft lines = SaysGenerator draft lines
  SaysIn WrapUp draft lines = SaysWrapUp draft lines

  -- the lines are those of the draft
  abbrev pub SaidIn : Lines → OpsDraft → Type 0
  SaidIn lines draft = SaysIn draft.part draft lines

  -- the same of the draft that a line may give, and of the one that it must give
  abbrev pub SaidIf : Lines → Option OpsDraft → Type 0
  SaidIf lines None = ⊤
  SaidIf lines (Some draft) = SaidIn lines draft

  abbrev pub SaidAlways : Lines → Option OpsDraft → Type 0
  SaidAlways lines None = ⊥
  SaidAlways lines (Some draft) = SaidIn lines draft

  -- an operation without code, and the words of its line
  pub record Begins (rest : List (List ℕ)) (op : TargetOp) : Type 0 where
    line : codes "op" ∷ rest ≡ spelled_target_op op
    no_generator : op.generator ≡ []
    no_wrap_up : op.wrapup ≡ []

  -- an operation begins
  op_begins : (draft : OpsDraft) (word : List ℕ) (rest : List (List ℕ)) (lines : Lines) → bytes_eq word (codes "op") ≡ true → draft.left ≡ 0 → lines ≡ whole_lines draft.ops
      → IfOk (target_op_line draft rest) (SaidIn (lines ++ (word ∷ rest) ∷ []))
  op_begins draft word rest lines e whole said =
      then_has (target_op_at draft.ops rest) _ (Begins rest) (SaidIn (lines ++ (word ∷ rest) ∷ []))
      (then_has (op_line (map opened draft.ops) rest) _ (SaysOp rest) (Begins rest) (op_said (map opened draft.ops) rest) λ op by. record { line = by.line; no_generator = refl; no_wrap_up = refl }) λ op by.
      record { said = rw (said, same_word word (codes "op") e, by.line) refl; no_generator = by.no_generator; no_wrap_up = by.no_wrap_up; whole = whole }

  outside_said : (draft : OpsDraft) (word : List ℕ) (rest : List (List ℕ)) (lines : Lines) → SaysOutside (at Outside draft) lines
      → IfOk (in_outside (at Outside draft) word rest) (SaidAlways (lines ++ (word ∷ rest) ∷ []))
  outside_said draft word rest lines h =
      either (bytes_eq word (codes "op")) _ _ (SaidAlways (lines ++ (word ∷ rest) ∷ []))
      (λ e. then_has (target_op_line (at Outside draft) rest) _ (SaidIn (lines ++ (word ∷ rest) ∷ [])) (SaidAlways (lines ++ (word ∷ rest) ∷ [])) (op_begins (at Outside draft) word rest lines e refl h.said) λ next said. said) λ _. tt

  begun_said : (draft : OpsDraft) (word : List ℕ) (rest : List (List ℕ)) (lines : Lines) → SaysBegun (at Begun draft) lines
      → IfOk (in_begun_op (at Begun draft) word rest) (SaidAlways (lines ++ (word ∷ rest) ∷ []))
  begun_said draft word rest lines h =
      either (bytes_eq word (codes "gen")) _ _ (SaidAlways (lines ++ (word ∷ rest) ∷ [])) (λ e. end_then rest _ (SaidAlways (lines ++ (word ∷ rest) ∷ [])) λ last. record {
        said = begins (whole_lines draft.ops) (same_word word (codes "gen") e) last h.no_generator h.said;
        no_wrap_up = h.no_wrap_up;
      }) λ _. tt
    where
      begins : (before : Lines) → word ≡ codes "gen" → rest ≡ [] → draft.op.generator ≡ [] → lines ≡ before ++ (spelled_target_op draft.op ∷ [])
          → lines ++ (word ∷ rest) ∷ [] ≡ (before ++ (spelled_target_op draft.op ∷ (codes "gen" ∷ []) ∷ [])) ++ code_so_far_lines draft.op.generator 0 draft.entries
      begins before is last none said = rw (said, is, last, none) (simp (append_assoc, append-nil))

  -- one more instruction
  instr_said : (code : List TargetInstr) (i : TargetInstr) (words : List (List ℕ)) (entries others : List CasEntry) → words ∷ [] ≡ target_instr_lines kinds fields roots i
      → code_so_far_lines code 0 entries ++ words ∷ [] ≡ code_so_far_lines (code ++ i ∷ []) 0 others
  instr_said code i words entries others same = one_more (target_instr_lines kinds fields roots) same
    where
      placed : (before : Lines) (words : List (List ℕ)) → (before ++ []) ++ words ∷ [] ≡ (before ++ ((words ∷ []) ++ [])) ++ []
      placed before words = simp (append_assoc, append-nil)

      one_more : (lines : TargetInstr → Lines) → words ∷ [] ≡ lines i → (flat_map lines code ++ []) ++ words ∷ [] ≡ flat_map lines (code ++ i ∷ []) ++ []
      one_more lines same = rw (flat_map-append lines code (i ∷ []), ← same) (placed (flat_map lines code) words)

  -- the line of a commit, if entry lines follow
  commit_said : (code : List TargetInstr) (count : ℕ) (words : List (List ℕ)) (entries : List CasEntry) → words ≡ codes "commit" ∷ decimal (suc count) ∷ []
      → code_so_far_lines code 0 entries ++ words ∷ [] ≡ code_so_far_lines code (suc count) []
  commit_said code count words entries same =
      let counted : 0 + suc count ≡ suc count = omega arith in
      rw (same, counted) (ap (λ l. l ++ (codes "commit" ∷ decimal (suc count) ∷ []) ∷ []) (append-nil (target_code_lines kinds fields roots code)))

  -- an entry line, if more follow
  entry_line_said : (code : List TargetInstr) (left : ℕ) (words : List (List ℕ)) (entries : List CasEntry) (entry : CasEntry) → words ≡ spelled_entry fields roots entry
      → code_so_far_lines code (suc (suc left)) entries ++ words ∷ [] ≡ code_so_far_lines code (suc left) (entries ++ entry ∷ [])
  entry_line_said code left words entries entry same =
      let counted : length (entries ++ entry ∷ []) + suc left ≡ length entries + suc (suc left) = omega (arith, length-append entries (entry ∷ [])) in
      rw (same, counted, map-append (spelled_entry fields roots) entries (entry ∷ []))
      (append_assoc (target_code_lines kinds fields roots code) ((codes "commit" ∷ decimal (length entries + suc (suc left)) ∷ []) ∷ map (spelled_entry fields roots) entries) (spelled_entry fields roots entry ∷ []))

  -- the last entry line
  last_entry_said : (code : List TargetInstr) (words : List (List ℕ)) (entries : List CasEntry) (entry : CasEntry) → words ≡ spelled_entry fields roots entry
      → code_so_far_lines code 1 entries ++ words ∷ [] ≡ code_so_far_lines (code ++ Plain (instr.Commit (entries ++ entry ∷ [])) ∷ []) 0 []
  last_entry_said code words entries entry same =
      let counted : length (entries ++ entry ∷ []) ≡ length entries + 1 = omega (arith, length-append entries (entry ∷ [])) in
      rw (same, flat_map-append (target_instr_lines kinds fields roots) code (Plain (instr.Commit (entries ++ entry ∷ [])) ∷ []), counted, map-append (spelled_entry fields roots) entries (entry ∷ []))
      (placed (target_code_lines kinds fields roots code) (map (spelled_entry fields roots) entries) (codes "commit" ∷ decimal (length entries + 1) ∷ []) (spelled_entry fields roots entry))
    where
      placed : (before entries : Lines) (first words : List (List ℕ)) → (before ++ (first ∷ entries)) ++ words ∷ [] ≡ (before ++ ((first ∷ (entries ++ words ∷ [])) ++ [])) ++ []
      placed before entries first words = simp (append_assoc, append-nil)

  -- one more instruction of a method
  generator_more : (draft : OpsDraft) (i : TargetInstr) (words : List (List ℕ)) (lines : Lines) → SaysGenerator (at Generator draft) lines → words ∷ [] ≡ target_instr_lines kinds fields roots i
      → SaidIn (lines ++ words ∷ []) (with_one_more (at Generator draft) i)
  generator_more draft i words lines h same = record {
    said = grown (before_generator draft.ops draft.op) _ _ lines words h.said (instr_said draft.op.generator i words draft.entries draft.entries same);
    no_wrap_up = h.no_wrap_up;
  }

  wrap_up_more : (draft : OpsDraft) (i : TargetInstr) (words : List (List ℕ)) (lines : Lines) → SaysWrapUp (at WrapUp draft) lines → words ∷ [] ≡ target_instr_lines kinds fields roots i
      → SaidIn (lines ++ words ∷ []) (with_one_more (at WrapUp draft) i)
  wrap_up_more draft i words lines h same = record {
    said = grown (before_wrap_up draft.ops draft.op) _ _ lines words h.said (instr_said draft.op.wrapup i words draft.entries draft.entries same);
  }

  generator_step_said : (draft : OpsDraft) (step : Step) (words : List (List ℕ)) (lines : Lines) → SaysGenerator (at Generator draft) lines → StepSays Second kinds fields roots words step
      → SaidIn (lines ++ words ∷ []) (with_target_step (at Generator draft) step)
  generator_step_said draft (Whole i) words lines h same = generator_more draft (Plain i) words lines h same
  generator_step_said draft (Commits zero) words lines h same = record {
    said = grown (before_generator draft.ops draft.op) _ _ lines words h.said (instr_said draft.op.generator (Plain (instr.Commit [])) words draft.entries [] (ap (λ w. w ∷ []) same));
    no_wrap_up = h.no_wrap_up;
  }
  generator_step_said draft (Commits (suc count)) words lines h same = record {
    said = grown (before_generator draft.ops draft.op) _ _ lines words h.said (commit_said draft.op.generator count words draft.entries same);
    no_wrap_up = h.no_wrap_up;
  }

  wrap_up_step_said : (draft : OpsDraft) (step : Step) (words : List (List ℕ)) (lines : Lines) → SaysWrapUp (at WrapUp draft) lines → StepSays Second kinds fields roots words step
      → SaidIn (lines ++ words ∷ []) (with_target_step (at WrapUp draft) step)
  wrap_up_step_said draft (Whole i) words lines h same = wrap_up_more draft (Plain i) words lines h same
  wrap_up_step_said draft (Commits zero) words lines h same = record {
    said = grown (before_wrap_up draft.ops draft.op) _ _ lines words h.said (instr_said draft.op.wrapup (Plain (instr.Commit [])) words draft.entries [] (ap (λ w. w ∷ []) same));
  }
  wrap_up_step_said draft (Commits (suc count)) words lines h same = record {
    said = grown (before_wrap_up draft.ops draft.op) _ _ lines words h.said (commit_said draft.op.wrapup count words draft.entries same);
  }

  -- after an instruction of the language the lines are the draft's, if they are after each step that its line says
  plain_said : (draft : OpsDraft) (word : List ℕ) (rest : List (List ℕ)) (lines : Lines)
      → ((step : Step) → StepSays Second kinds fields roots (word ∷ rest) step → SaidIn (lines ++ (word ∷ rest) ∷ []) (with_target_step draft step))
      → IfOk (plain_line kinds fields roots draft word rest) (SaidIn (lines ++ (word ∷ rest) ∷ []))
  plain_said draft word rest lines next =
      then_has (step_line Second kinds fields roots word rest) _ (StepSays Second kinds fields roots (word ∷ rest)) (SaidIn (lines ++ (word ∷ rest) ∷ [])) (step_said Second kinds fields roots word rest) λ step same.
      demanded too_many (has_place draft && not (is_fifth_target_new draft step)) _ (SaidIn (lines ++ (word ∷ rest) ∷ [])) λ _. next step same

  guarded_said : (words : List (List ℕ)) → IfOk (guarded_at words) (λ r. words ≡ register_word r ∷ [])
  guarded_said words = one_then words _ _ λ r same. demanded form_fault (holds_reference r) _ _ λ _. same

  -- after a check or a guard the lines are the draft's, if they are after each that its line says
  added_said : (draft : OpsDraft) (word : List ℕ) (rest : List (List ℕ)) (lines : Lines)
      → ((i : TargetInstr) → (word ∷ rest) ∷ [] ≡ target_instr_lines kinds fields roots i → SaidIn (lines ++ (word ∷ rest) ∷ []) (with_one_more draft i))
      → IfOk (added_line draft word rest) (SaidIf (lines ++ (word ∷ rest) ∷ []))
  added_said draft word rest lines next =
      either (bytes_eq word (codes "chk")) _ _ (SaidIf (lines ++ (word ∷ rest) ∷ []))
      (λ e. end_then rest _ (SaidIf (lines ++ (word ∷ rest) ∷ [])) λ last. demanded too_many (has_place draft) _ (SaidIf (lines ++ (word ∷ rest) ∷ [])) λ _. next Check (rw (same_word word (codes "chk") e, last) refl)) λ _.
      either (bytes_eq word (codes "grd")) _ _ (SaidIf (lines ++ (word ∷ rest) ∷ []))
      (λ e. then_has (guarded_at rest) _ (λ r. rest ≡ register_word r ∷ []) (SaidIf (lines ++ (word ∷ rest) ∷ [])) (guarded_said rest) λ r same.
      demanded too_many (has_place draft) _ (SaidIf (lines ++ (word ∷ rest) ∷ [])) λ _. next (Guard r) (rw (same_word word (codes "grd") e, same) refl)) λ _. tt

  generator_said : (draft : OpsDraft) (word : List ℕ) (rest : List (List ℕ)) (lines : Lines) → SaysGenerator (at Generator draft) lines
      → IfOk (in_target_generator (at Generator draft) word rest) (SaidIf (lines ++ (word ∷ rest) ∷ []))
  generator_said draft word rest lines h =
      either (bytes_eq word (codes "wrap") && nat_lt 0 (length draft.op.generator)) _ _ (SaidIf (lines ++ (word ∷ rest) ∷ []))
      (λ e. end_then rest _ (SaidIf (lines ++ (word ∷ rest) ∷ [])) λ last. record {
        said = wraps (same_word word (codes "wrap") (and_parts _ _ e).0) last (whole_lines draft.ops) (target_code_lines kinds fields roots draft.op.generator) h.said;
      }) λ _.
      added_said (at Generator draft) word rest lines λ i same. generator_more draft i (word ∷ rest) lines h same
    where
      placed : (before code : Lines) (o g w : List (List ℕ)) → ((before ++ (o ∷ g ∷ [])) ++ (code ++ [])) ++ w ∷ [] ≡ (before ++ (o ∷ g ∷ (code ++ w ∷ []))) ++ ([] ++ [])
      placed before code o g w = simp (append_assoc, append-nil)

      wraps : word ≡ codes "wrap" → rest ≡ [] → (before code : Lines) → lines ≡ (before ++ (spelled_target_op draft.op ∷ (codes "gen" ∷ []) ∷ [])) ++ (code ++ [])
          → lines ++ (word ∷ rest) ∷ [] ≡ (before ++ (spelled_target_op draft.op ∷ (codes "gen" ∷ []) ∷ (code ++ (codes "wrap" ∷ []) ∷ []))) ++ code_so_far_lines draft.op.wrapup 0 draft.entries
      wraps is last before code said = rw (said, is, last, h.no_wrap_up) (placed before code (spelled_target_op draft.op) (codes "gen" ∷ []) (codes "wrap" ∷ []))

  -- whole operations
  whole_op_said : (draft : OpsDraft) (lines : Lines) → draft.left ≡ 0 → SaysWrapUp draft lines → IfOk (with_whole_target_op draft) (λ next. SaysOutside next lines)
  whole_op_said draft lines whole h = demanded form_fault (nat_lt 0 (length draft.op.wrapup)) _ (λ next. SaysOutside next lines) λ _. record { said = said; whole = whole }
    where
      placed : (o g w : List (List ℕ)) (ops first second : Lines) → (ops ++ (o ∷ g ∷ (first ++ w ∷ []))) ++ (second ++ []) ≡ ops ++ ((o ∷ g ∷ (first ++ (w ∷ second))) ++ [])
      placed o g w ops first second = simp (append_assoc, append-nil)

      said : lines ≡ whole_lines (draft.ops ++ draft.op ∷ [])
      said =
          (rw whole at h.said)
          ∙ placed (spelled_target_op draft.op) (codes "gen" ∷ []) (codes "wrap" ∷ []) (whole_lines draft.ops) (target_code_lines kinds fields roots draft.op.generator) (target_code_lines kinds fields roots draft.op.wrapup)
          ∙ sym (flat_map-append (target_op_lines kinds fields roots) draft.ops (draft.op ∷ []))

  wrap_up_said : (draft : OpsDraft) (word : List ℕ) (rest : List (List ℕ)) (lines : Lines) → SaysWrapUp (at WrapUp draft) lines
      → IfOk (in_target_wrap_up (at WrapUp draft) word rest) (SaidIf (lines ++ (word ∷ rest) ∷ []))
  wrap_up_said draft word rest lines h =
      either (bytes_eq word (codes "op")) _ _ (SaidIf (lines ++ (word ∷ rest) ∷ []))
      (λ e. then_has (with_whole_target_op (at WrapUp draft)) _ (λ next. SaysOutside next lines) (SaidIf (lines ++ (word ∷ rest) ∷ [])) (whole_op_said (at WrapUp draft) lines refl h) λ next before.
      then_has (target_op_line next rest) _ (SaidIn (lines ++ (word ∷ rest) ∷ [])) (SaidIf (lines ++ (word ∷ rest) ∷ [])) (op_begins next word rest lines e before.whole before.said) λ begun said. said) λ _.
      added_said (at WrapUp draft) word rest lines λ i same. wrap_up_more draft i (word ∷ rest) lines h same

  -- what a line says of its own, or else the instruction that it must be
  always_or_plain : (draft : OpsDraft) (word : List ℕ) (rest : List (List ℕ)) (more : Lines) (own : Option OpsDraft) → SaidAlways more own → IfOk (or_plain kinds fields roots draft word rest own) (SaidIn more)
  always_or_plain draft word rest more (Some next) own = own
  always_or_plain draft word rest more None own = absurd own

  if_or_plain : (draft : OpsDraft) (word : List ℕ) (rest : List (List ℕ)) (more : Lines) (own : Option OpsDraft) → SaidIf more own → IfOk (plain_line kinds fields roots draft word rest) (SaidIn more)
      → IfOk (or_plain kinds fields roots draft word rest own) (SaidIn more)
  if_or_plain draft word rest more (Some next) own plain = own
  if_or_plain draft word rest more None own plain = plain

  part_said : (part : Part) (draft : OpsDraft) (word : List ℕ) (rest : List (List ℕ)) (lines : Lines) → SaysIn part (at part draft) lines
      → IfOk (in_target_place kinds fields roots 0 (at part draft) word rest) (SaidIn (lines ++ (word ∷ rest) ∷ []))
  part_said Outside draft word rest lines h =
      then_has (in_outside (at Outside draft) word rest) _ (SaidAlways (lines ++ (word ∷ rest) ∷ [])) (SaidIn (lines ++ (word ∷ rest) ∷ [])) (outside_said draft word rest lines h) λ own said.
      always_or_plain (at Outside draft) word rest (lines ++ (word ∷ rest) ∷ []) own said
  part_said Begun draft word rest lines h =
      then_has (in_begun_op (at Begun draft) word rest) _ (SaidAlways (lines ++ (word ∷ rest) ∷ [])) (SaidIn (lines ++ (word ∷ rest) ∷ [])) (begun_said draft word rest lines h) λ own said.
      always_or_plain (at Begun draft) word rest (lines ++ (word ∷ rest) ∷ []) own said
  part_said Generator draft word rest lines h =
      then_has (in_target_generator (at Generator draft) word rest) _ (SaidIf (lines ++ (word ∷ rest) ∷ [])) (SaidIn (lines ++ (word ∷ rest) ∷ [])) (generator_said draft word rest lines h) λ own said.
      if_or_plain (at Generator draft) word rest (lines ++ (word ∷ rest) ∷ []) own said
      (plain_said (at Generator draft) word rest lines λ step same. generator_step_said draft step (word ∷ rest) lines h same)
  part_said WrapUp draft word rest lines h =
      then_has (in_target_wrap_up (at WrapUp draft) word rest) _ (SaidIf (lines ++ (word ∷ rest) ∷ [])) (SaidIn (lines ++ (word ∷ rest) ∷ [])) (wrap_up_said draft word rest lines h) λ own said.
      if_or_plain (at WrapUp draft) word rest (lines ++ (word ∷ rest) ∷ []) own said
      (plain_said (at WrapUp draft) word rest lines λ step same. wrap_up_step_said draft step (word ∷ rest) lines h same)

  -- one more entry of a commit
  entry_pushed : (part : Part) (left : ℕ) (draft : OpsDraft) (entry : CasEntry) (words : List (List ℕ)) (lines : Lines) → SaysIn part (record draft { left = suc left }) lines
      → words ≡ spelled_entry fields roots entry
      → SaysIn part (with_target_entries left (record draft { part = part }) (draft.entries ++ entry ∷ [])) (lines ++ words ∷ [])
  entry_pushed Outside left draft entry words lines h same = absurd (none left h.whole)
  entry_pushed Begun left draft entry words lines h same = absurd (none left h.whole)
  entry_pushed Generator zero draft entry words lines h same = record {
    said = grown (before_generator draft.ops draft.op) _ _ lines words h.said (last_entry_said draft.op.generator words draft.entries entry same);
    no_wrap_up = h.no_wrap_up;
  }
  entry_pushed Generator (suc left) draft entry words lines h same = record {
    said = grown (before_generator draft.ops draft.op) _ _ lines words h.said (entry_line_said draft.op.generator left words draft.entries entry same);
    no_wrap_up = h.no_wrap_up;
  }
  entry_pushed WrapUp zero draft entry words lines h same = record {
    said = grown (before_wrap_up draft.ops draft.op) _ _ lines words h.said (last_entry_said draft.op.wrapup words draft.entries entry same);
  }
  entry_pushed WrapUp (suc left) draft entry words lines h same = record {
    said = grown (before_wrap_up draft.ops draft.op) _ _ lines words h.said (entry_line_said draft.op.wrapup left words draft.entries entry same);
  }

  -- what is said at a part is said of a draft there
  said_there : (part : Part) (left : ℕ) (draft : OpsDraft) (entries : List CasEntry) (lines : Lines)
      → SaysIn part (with_target_entries left (record draft { part = part }) entries) lines → SaidIn lines (with_target_entries left (record draft { part = part }) entries)
  said_there part zero draft entries lines h = h
  said_there part (suc left) draft entries lines h = h

  pub place_said : (left : ℕ) (draft : OpsDraft) (word : List ℕ) (rest : List (List ℕ)) (lines : Lines) → SaidIn lines (record draft { left = left })
      → IfOk (in_target_place kinds fields roots left (record draft { left = left }) word rest) (SaidIn (lines ++ (word ∷ rest) ∷ []))
  place_said zero draft word rest lines h = part_said draft.part (record draft { left = 0 }) word rest lines h
  place_said (suc left) draft word rest lines h =
      then_has (entry_line fields roots word rest) _ (λ entry. word ∷ rest ≡ spelled_entry fields roots entry) (SaidIn (lines ++ (word ∷ rest) ∷ [])) (entry_said Second kinds fields roots word rest) λ entry same.
      said_there draft.part left (record draft { left = suc left }) (draft.entries ++ entry ∷ []) (lines ++ (word ∷ rest) ∷ [])
      (entry_pushed draft.part left (record draft { left = suc left }) entry (word ∷ rest) lines h same)

  -- nothing is said before the first line
  pub nothing_said : SaidIn [] no_ops
  nothing_said = record { said = refl; whole = refl }

  finished_in_said : (part : Part) (draft : OpsDraft) (lines : Lines) → draft.left ≡ 0 → SaysIn part draft lines → IfOk (finished_ops_in part draft) (λ ops. lines ≡ whole_lines ops)
  finished_in_said Outside draft lines whole h = tt
  finished_in_said Begun draft lines whole h = tt
  finished_in_said Generator draft lines whole h = tt
  finished_in_said WrapUp draft lines whole h =
      then_has (with_whole_target_op draft) _ (λ next. SaysOutside next lines) (λ ops. lines ≡ whole_lines ops) (whole_op_said draft lines whole h) λ next last. last.said

  -- operations that end are what their lines say
  pub finished_said : (draft : OpsDraft) (lines : Lines) → SaidIn lines draft → IfOk (finished_ops draft) (λ ops. lines ≡ whole_lines ops)
  finished_said draft lines h = demanded form_fault (draft.left == 0) _ (λ ops. lines ≡ whole_lines ops) λ e. finished_in_said draft.part draft lines (eqb-true draft.left 0 e) h
