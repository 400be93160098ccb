-- What the lines so far say of a target's operations is within the limits, whichever line comes next.
use Rattle.std.specs.Prelude.{◌≡◌, ℕ, zero, suc, ◌+◌, Bool, true, false, not, ◌&&◌, List, [], ◌∷◌, ◌++◌, map, length, Option, Some, None, Result, Ok, Err, IfOk, nat_lt, nat_le, codes, ⊤, ◌==◌, if◌then◌else◌}
use Rattle.std.specs.List.{list_all}
use Rattle.std.specs.Str.{bytes_eq}
use Rattle.std.proofs.Common.{refl, ap, sym, ◌∙◌, arith, length-append}
use Rattle.std.proofs.lemmas.Bool.{and_from, and_parts, not-true}
use Rattle.std.proofs.lemmas.Bool.Decides.{nat_tests}
use Rattle.oa_text.specs.Lines.{TextLine}
use Rattle.norm_lang.specs.declared.text.FieldDecl.{FieldDecl}
use Rattle.norm_lang.specs.declared.text.RootDecl.{RootDecl}
use Rattle.norm_lang.specs.declared.text.CasEntry.{CasEntry}
use Rattle.norm_lang.specs.declared.text.Instr.TheVariants as instr
use Rattle.norm_lang.specs.declared.text.Op.{Op}
use Rattle.norm_lang.specs.declared.text.Version.TheVariants.{Second}
use Rattle.norm_lang.specs.Faults.{◌>>=◌, at_line, form_fault, too_many}
use Rattle.norm_lang.specs.LineWords.{is_name, end_at}
use Rattle.norm_lang.specs.Declarations.{op_line, is_reserved}
use Rattle.norm_lang.specs.Instructions.{Step, Whole, Commits, step_line, entry_line}
use Rattle.norm_lang.specs.Kept.{holds_reference}
use Rattle.norm_lang.specs.Limits.{is_register, is_entry}
use Rattle.text_laws.proofs.Readings.{then_has, anyhow, demanded, either}
use Rattle.text_laws.proofs.Declared.{SoFar, IsNext, pushed, all_pushed, whole_list}
use Rattle.text_laws.proofs.DeclarationLimits.{NextOp, op_fits}
use Rattle.text_laws.proofs.InstrLimits.{StepFits, step_fits, entry_fits}
use Rattle.text_laws.proofs.LineLimits.{one_then}
use Rattle.text_laws.proofs.DraftLimits.{at_line_has}
use Rattle.line_words.specs.Lines.{words_in, first_word}
use Rattle.target_code.specs.declared.target.TargetInstr.{TargetInstr}
use Rattle.target_code.specs.declared.target.TargetInstr.TheVariants.{Plain, Check, Guard}
use Rattle.target_code.specs.declared.target.TargetOp.{TargetOp}
use Rattle.target_code.specs.TargetLimits.{is_target_new, target_news_in, target_news_of, is_target_instr, is_target_op, are_target_ops}
use Rattle.target_reader.specs.TargetGrammar.{Part, Outside, Begun, Generator, WrapUp, OpsDraft, no_ops, opened, begun, target_op_at, target_op_line, with_whole_target_op, target_code_so_far, with_target_instr, with_one_more, has_place, is_fifth_target_new, with_target_entries, with_target_step, plain_line, guarded_at, added_line, in_begun_op, in_target_generator, in_target_wrap_up, or_plain, in_target_place, after_target_words, after_target_line, after_target_lines, finished_ops_in, ops_read}
use Rattle.target_reader.proofs.Opened.{opened_same}

-- a method's instructions so far
record CodeSoFar (kinds fields roots : ℕ) (code : List TargetInstr) : Type 0 where
  few : nat_le (length code) 4096 ≡ true
  each : list_all (is_target_instr kinds fields roots) code ≡ true

-- the operation whose lines stand here
record OpSoFar (kinds fields roots : ℕ) (ops : List TargetOp) (op : TargetOp) : Type 0 where
  next : IsNext 16 (λ op. op.name) ops op
  named : is_name op.name && not (is_reserved op.name) ≡ true
  args : nat_le op.args 4 ≡ true
  generator : CodeSoFar kinds fields roots op.generator
  wrapup : CodeSoFar kinds fields roots op.wrapup
  news : nat_le (target_news_of op) 4 ≡ true

-- a commit's entries so far, and room for it
record CommitSoFar (fields roots left : ℕ) (code : List TargetInstr) (entries : List CasEntry) : Type 0 where
  room : nat_lt (length code) 4096 ≡ true
  few : nat_le (length entries + left) 4 ≡ true
  each : list_all (is_entry fields roots) entries ≡ true

abbrev Pending : ℕ → ℕ → ℕ → List TargetInstr → List CasEntry → Type 0
Pending fields roots zero code entries = ⊤
Pending fields roots (suc left) code entries = CommitSoFar fields roots (suc left) code entries

-- the whole operations
abbrev OpsSoFar : ℕ → ℕ → ℕ → List TargetOp → Type 0
OpsSoFar kinds fields roots ops = SoFar 16 (λ op. op.name) (is_target_op kinds fields roots) ops

-- an operation's lines stand here
record InOp (kinds fields roots : ℕ) (part : Part) (draft : OpsDraft) : Type 0 where
  ops : OpsSoFar kinds fields roots draft.ops
  op : OpSoFar kinds fields roots draft.ops draft.op
  pending : Pending fields roots draft.left (target_code_so_far part draft.op) draft.entries

-- what holds of a draft there
abbrev Keeps : ℕ → ℕ → ℕ → Part → OpsDraft → Type 0
Keeps kinds fields roots Outside draft = OpsSoFar kinds fields roots draft.ops
Keeps kinds fields roots Begun draft = InOp kinds fields roots Begun draft
Keeps kinds fields roots Generator draft = InOp kinds fields roots Generator draft
Keeps kinds fields roots WrapUp draft = InOp kinds fields roots WrapUp draft × (nat_lt 0 (length draft.op.generator) ≡ true)

-- what holds of each draft
abbrev Kept : ℕ → ℕ → ℕ → OpsDraft → Type 0
Kept kinds fields roots draft = Keeps kinds fields roots draft.part draft

-- what holds of the draft that a line may give
abbrev KeptIf : ℕ → ℕ → ℕ → Option OpsDraft → Type 0
KeptIf kinds fields roots None = ⊤
KeptIf kinds fields roots (Some draft) = Kept kinds fields roots draft

-- a draft at a part, with no entry line to follow
abbrev at : Part → OpsDraft → OpsDraft
at part draft = record draft { part = part; left = 0 }

-- the line of an operation that is next
next_of : (ops : List TargetOp) (op : Op) → NextOp (map opened ops) op → IsNext 16 (λ op. op.name) ops (begun op)
next_of ops op h = record {
  room = ap (λ n. nat_lt n 16) (sym (count ops)) ∙ h.next.room;
  new = ap not (opened_same ops op.name) ∙ h.next.new;
}
  where
    count : (ops : List TargetOp) → length (map opened ops) ≡ length ops
    count [] = refl
    count (op ∷ ops) = ap suc (count ops)

op_begins : (kinds fields roots : ℕ) (ops : List TargetOp) (op : Op) → NextOp (map opened ops) op → OpSoFar kinds fields roots ops (begun op)
op_begins kinds fields roots ops op h = record {
  next = next_of ops op h;
  named = h.named;
  args = h.args;
  generator = record { few = refl; each = refl };
  wrapup = record { few = refl; each = refl };
  news = refl;
}

op_line_kept : (kinds fields roots : ℕ) (draft : OpsDraft) (words : List (List ℕ)) → OpsSoFar kinds fields roots draft.ops → draft.left ≡ 0
    → IfOk (target_op_line draft words) (Kept kinds fields roots)
op_line_kept kinds fields roots draft words h rest =
    then_has (target_op_at draft.ops words) _ (λ op. OpSoFar kinds fields roots draft.ops op) _
    (then_has (op_line (map opened draft.ops) words) _ (NextOp (map opened draft.ops)) _ (op_fits (map opened draft.ops) words) λ op next. op_begins kinds fields roots draft.ops op next)
    λ op so_far. record { ops = h; op = so_far; pending = rw rest tt }

begun_kept : (kinds fields roots : ℕ) (draft : OpsDraft) (word : List ℕ) (rest : List (List ℕ)) → Keeps kinds fields roots Begun draft → IfOk (in_begun_op (at Begun draft) word rest) (KeptIf kinds fields roots)
begun_kept kinds fields roots draft word rest h =
    either (bytes_eq word (codes "gen")) _ _ _ (λ _. anyhow (end_at rest) _ _ λ done. record { ops = h.ops; op = h.op; pending = tt }) λ _. tt

-- one more instruction of a method
code_pushed : (kinds fields roots : ℕ) (code : List TargetInstr) (i : TargetInstr) → CodeSoFar kinds fields roots code → nat_lt (length code) 4096 ≡ true → is_target_instr kinds fields roots i ≡ true
    → CodeSoFar kinds fields roots (code ++ i ∷ [])
code_pushed kinds fields roots code i h room fine = record { few = few_pushed; each = all_pushed _ code i h.each fine }
  where
    few_pushed : nat_le (length (code ++ i ∷ [])) 4096 ≡ true
    few_pushed = let k = length-append code (i ∷ []) in grind (arith, nat_tests, k)

abbrev one_if : Bool → ℕ
one_if b = if b then 1 else 0

-- one more instruction is a `new`, or not
news_pushed : (code : List TargetInstr) (i : TargetInstr) → target_news_in (code ++ i ∷ []) ≡ target_news_in code + one_if (is_target_new i)
news_pushed [] i = go (is_target_new i)
  where
    go : (b : Bool) → (if b then 0 + 1 else 0) ≡ 0 + one_if b
    go true = refl
    go false = refl
news_pushed (j ∷ code) i = go (is_target_new j) (news_pushed code i)
  where
    go : (b : Bool) → target_news_in (code ++ i ∷ []) ≡ target_news_in code + one_if (is_target_new i)
        → (if b then target_news_in (code ++ i ∷ []) + 1 else target_news_in (code ++ i ∷ [])) ≡ (if b then target_news_in code + 1 else target_news_in code) + one_if (is_target_new i)
    go true e = omega (arith, e)
    go false e = e

-- at most 4 `new` if the last isn't the fifth
news_fit : (n m : ℕ) (b : Bool) → nat_le n 4 ≡ true → not (b && nat_lt 3 n) ≡ true → m ≡ n + one_if b → nat_le m 4 ≡ true
news_fit n m true few fifth e = let below : nat_lt 3 n ≡ false = not-true _ fifth in grind (arith, nat_tests)
news_fit n m false few fifth e = grind (arith, nat_tests)

-- one more instruction of an operation
op_pushed : (part : Part) (kinds fields roots : ℕ) (ops : List TargetOp) (op : TargetOp) (i : TargetInstr) → OpSoFar kinds fields roots ops op
    → nat_lt (length (target_code_so_far part op)) 4096 ≡ true → not (is_target_new i && nat_lt 3 (target_news_of op)) ≡ true → is_target_instr kinds fields roots i ≡ true
    → OpSoFar kinds fields roots ops (with_target_instr part op i)
op_pushed Generator kinds fields roots ops op i h room fifth fine = record {
  next = record { room = h.next.room; new = h.next.new };
  named = h.named;
  args = h.args;
  generator = code_pushed kinds fields roots op.generator i h.generator room fine;
  wrapup = h.wrapup;
  news = news_fit (target_news_of op) _ (is_target_new i) h.news fifth (let e = news_pushed op.generator i in omega (arith, e));
}
op_pushed _ kinds fields roots ops op i h room fifth fine = record {
  next = record { room = h.next.room; new = h.next.new };
  named = h.named;
  args = h.args;
  generator = h.generator;
  wrapup = code_pushed kinds fields roots op.wrapup i h.wrapup room fine;
  news = news_fit (target_news_of op) _ (is_target_new i) h.news fifth (let e = news_pushed op.wrapup i in omega (arith, e));
}

-- one more instruction where an operation's lines stand
pushed_in_op : (kinds fields roots : ℕ) (part : Part) (draft : OpsDraft) (i : TargetInstr) → InOp kinds fields roots part draft
    → nat_lt (length (target_code_so_far part draft.op)) 4096 ≡ true → not (is_target_new i && nat_lt 3 (target_news_of draft.op)) ≡ true
    → is_target_instr kinds fields roots i ≡ true
    → InOp kinds fields roots part (record (at part draft) { op = with_target_instr part draft.op i })
pushed_in_op kinds fields roots part draft i h room fifth fine = record { ops = h.ops; op = op_pushed part kinds fields roots draft.ops draft.op i h.op room fifth fine; pending = tt }

-- a commit that is whole with these entries, or whose entry lines go on
entries_in_op : (kinds fields roots : ℕ) (part : Part) (left : ℕ) (draft : OpsDraft) (entries : List CasEntry) → OpsSoFar kinds fields roots draft.ops
    → OpSoFar kinds fields roots draft.ops draft.op → CommitSoFar fields roots left (target_code_so_far part draft.op) entries
    → InOp kinds fields roots part (with_target_entries left (record draft { part = part }) entries)
entries_in_op kinds fields roots part zero draft entries ops op h = record {
  ops = ops;
  op = op_pushed part kinds fields roots draft.ops draft.op (Plain (instr.Commit entries)) op h.room refl (and_from _ _ few h.each);
  pending = tt;
}
  where
    few : nat_le (length entries) 4 ≡ true
    few = let k : nat_le (length entries + 0) 4 ≡ true = h.few in grind (arith, nat_tests)
entries_in_op kinds fields roots part (suc left) draft entries ops op h = record { ops = ops; op = op; pending = h }

no_entries : (fields roots count : ℕ) (code : List TargetInstr) → nat_lt (length code) 4096 ≡ true → nat_le count 4 ≡ true → CommitSoFar fields roots count code []
no_entries fields roots count code room few = record { room = room; few = let k : nat_le count 4 ≡ true = few in grind (arith, nat_tests); each = refl }

generator_step_kept : (kinds fields roots : ℕ) (draft : OpsDraft) (step : Step) → InOp kinds fields roots Generator draft → StepFits kinds fields roots step
    → has_place (at Generator draft) && not (is_fifth_target_new (at Generator draft) step) ≡ true
    → Kept kinds fields roots (with_target_step (at Generator draft) step)
generator_step_kept kinds fields roots draft (Whole i) h fits room =
    let parts = and_parts _ _ room in pushed_in_op kinds fields roots Generator draft (Plain i) h parts.0 parts.1 fits
generator_step_kept kinds fields roots draft (Commits zero) h fits room =
    entries_in_op kinds fields roots Generator 0 draft [] h.ops h.op (no_entries _ _ 0 draft.op.generator (and_parts _ _ room).0 fits)
generator_step_kept kinds fields roots draft (Commits (suc count)) h fits room =
    entries_in_op kinds fields roots Generator (suc count) draft [] h.ops h.op (no_entries _ _ (suc count) draft.op.generator (and_parts _ _ room).0 fits)

wrap_up_step_kept : (kinds fields roots : ℕ) (draft : OpsDraft) (step : Step) → Keeps kinds fields roots WrapUp draft → StepFits kinds fields roots step
    → has_place (at WrapUp draft) && not (is_fifth_target_new (at WrapUp draft) step) ≡ true
    → Kept kinds fields roots (with_target_step (at WrapUp draft) step)
wrap_up_step_kept kinds fields roots draft (Whole i) h fits room =
    let parts = and_parts _ _ room in (pushed_in_op kinds fields roots WrapUp draft (Plain i) h.0 parts.0 parts.1 fits, h.1)
wrap_up_step_kept kinds fields roots draft (Commits zero) h fits room =
    (entries_in_op kinds fields roots WrapUp 0 draft [] h.0.ops h.0.op (no_entries _ _ 0 draft.op.wrapup (and_parts _ _ room).0 fits), h.1)
wrap_up_step_kept kinds fields roots draft (Commits (suc count)) h fits room =
    (entries_in_op kinds fields roots WrapUp (suc count) draft [] h.0.ops h.0.op (no_entries _ _ (suc count) draft.op.wrapup (and_parts _ _ room).0 fits), h.1)

-- an instruction of the language keeps what holds if each step that fits does
plain_kept : (kinds : List (List ℕ)) (fields : List FieldDecl) (roots : List RootDecl) (draft : OpsDraft) (word : List ℕ) (rest : List (List ℕ))
    → ((step : Step) → StepFits (length kinds) (length fields) (length roots) step → has_place draft && not (is_fifth_target_new draft step) ≡ true
    → Kept (length kinds) (length fields) (length roots) (with_target_step draft step))
    → IfOk (plain_line kinds fields roots draft word rest) (Kept (length kinds) (length fields) (length roots))
plain_kept kinds fields roots draft word rest next =
    then_has (step_line Second kinds fields roots word rest) _ (StepFits (length kinds) (length fields) (length roots)) _ (step_fits Second kinds fields roots tt word rest) λ step fits.
    demanded too_many (has_place draft && not (is_fifth_target_new draft step)) _ _ λ room. next step fits room

-- a check or a guard keeps what holds if each that fits does
added_kept : (kinds fields roots : ℕ) (draft : OpsDraft) (word : List ℕ) (rest : List (List ℕ))
    → ((i : TargetInstr) → is_target_instr kinds fields roots i ≡ true → is_target_new i ≡ false → has_place draft ≡ true → Kept kinds fields roots (with_one_more draft i))
    → IfOk (added_line draft word rest) (KeptIf kinds fields roots)
added_kept kinds fields roots draft word rest next =
    either (bytes_eq word (codes "chk")) _ _ _
    (λ _. anyhow (end_at rest) _ _ λ done. demanded too_many (has_place draft) _ _ λ room. next Check refl refl room) λ _.
    either (bytes_eq word (codes "grd")) _ _ _
    (λ _. then_has (guarded_at rest) _ (λ r. holds_reference r && is_register r ≡ true) _ (guarded_fits rest) λ r fine.
    demanded too_many (has_place draft) _ _ λ room. next (Guard r) fine refl room) λ _. tt
  where
    guarded_fits : (words : List (List ℕ)) → IfOk (guarded_at words) (λ r. holds_reference r && is_register r ≡ true)
    guarded_fits words = one_then words _ _ λ r is. demanded form_fault (holds_reference r) _ _ λ reference. and_from _ _ reference is

not_fifth : (i : TargetInstr) (n : ℕ) → is_target_new i ≡ false → not (is_target_new i && nat_lt 3 n) ≡ true
not_fifth i n old = rw old refl

generator_kept : (kinds : List (List ℕ)) (fields : List FieldDecl) (roots : List RootDecl) (draft : OpsDraft) (word : List ℕ) (rest : List (List ℕ)) → Keeps (length kinds) (length fields) (length roots) Generator draft
    → IfOk (in_target_generator (at Generator draft) word rest) (KeptIf (length kinds) (length fields) (length roots))
generator_kept kinds fields roots draft word rest h =
    either (bytes_eq word (codes "wrap") && nat_lt 0 (length draft.op.generator)) _ _ _
    (λ e. anyhow (end_at rest) _ _ λ done. (record { ops = h.ops; op = h.op; pending = tt }, (and_parts _ _ e).1)) λ _.
    added_kept (length kinds) (length fields) (length roots) (at Generator draft) word rest
    λ i fine old room. pushed_in_op (length kinds) (length fields) (length roots) Generator draft i h room (not_fifth i (target_news_of draft.op) old) fine

-- the operations with one more that is whole
record IsNextDraft (kinds fields roots left : ℕ) (next : OpsDraft) : Type 0 where
  ops : OpsSoFar kinds fields roots next.ops
  left_as_before : next.left ≡ left
  some : nat_lt 0 (length next.ops) ≡ true

op_is : (kinds fields roots : ℕ) (ops : List TargetOp) (op : TargetOp) → OpSoFar kinds fields roots ops op → nat_lt 0 (length op.generator) ≡ true → nat_lt 0 (length op.wrapup) ≡ true
    → is_target_op kinds fields roots op ≡ true
op_is kinds fields roots ops op h begun some =
    and_from _ _ h.named (and_from _ _ h.args (and_from _ _ (and_from _ _ (and_from _ _ begun h.generator.few) h.generator.each)
    (and_from _ _ (and_from _ _ (and_from _ _ some h.wrapup.few) h.wrapup.each) h.news)))

whole_op_has : (kinds fields roots : ℕ) (draft : OpsDraft) → Keeps kinds fields roots WrapUp draft → IfOk (with_whole_target_op draft) (IsNextDraft kinds fields roots draft.left)
whole_op_has kinds fields roots draft h =
    demanded form_fault (nat_lt 0 (length draft.op.wrapup)) _ _ λ some. record {
      ops = pushed 16 _ _ draft.ops draft.op h.0.ops h.0.op.next (op_is kinds fields roots draft.ops draft.op h.0.op h.1 some);
      left_as_before = refl;
      some = not_empty draft.ops draft.op;
    }
  where
    not_empty : (ops : List TargetOp) (op : TargetOp) → nat_lt 0 (length (ops ++ op ∷ [])) ≡ true
    not_empty ops op = let k = length-append ops (op ∷ []) in grind (arith, nat_tests, k)

wrap_up_kept : (kinds : List (List ℕ)) (fields : List FieldDecl) (roots : List RootDecl) (draft : OpsDraft) (word : List ℕ) (rest : List (List ℕ)) → Keeps (length kinds) (length fields) (length roots) WrapUp draft
    → IfOk (in_target_wrap_up (at WrapUp draft) word rest) (KeptIf (length kinds) (length fields) (length roots))
wrap_up_kept kinds fields roots draft word rest h =
    either (bytes_eq word (codes "op")) _ _ _
    (λ _. then_has (with_whole_target_op (at WrapUp draft)) _ (IsNextDraft (length kinds) (length fields) (length roots) 0) _
    (whole_op_has (length kinds) (length fields) (length roots) (at WrapUp draft) (record { ops = h.0.ops; op = h.0.op; pending = tt }, h.1)) λ next so_far.
    then_has (target_op_line next rest) _ (Kept (length kinds) (length fields) (length roots)) _ (op_line_kept (length kinds) (length fields) (length roots) next rest so_far.ops so_far.left_as_before) λ begun kept. kept) λ _.
    added_kept (length kinds) (length fields) (length roots) (at WrapUp draft) word rest
    λ i fine old room. (pushed_in_op (length kinds) (length fields) (length roots) WrapUp draft i h.0 room (not_fifth i (target_news_of draft.op) old) fine, h.1)

-- what a line says of its own, or else the instruction that it must be
or_plain_kept : (kinds : List (List ℕ)) (fields : List FieldDecl) (roots : List RootDecl) (draft : OpsDraft) (word : List ℕ) (rest : List (List ℕ)) (own : Option OpsDraft)
    → KeptIf (length kinds) (length fields) (length roots) own → IfOk (plain_line kinds fields roots draft word rest) (Kept (length kinds) (length fields) (length roots))
    → IfOk (or_plain kinds fields roots draft word rest own) (Kept (length kinds) (length fields) (length roots))
or_plain_kept kinds fields roots draft word rest (Some next) own plain = own
or_plain_kept kinds fields roots draft word rest None own plain = plain

-- a line gives a draft of its own, or a fault
abbrev own_only : Result OpsDraft ℕ → Result (Option OpsDraft) ℕ
own_only r = r >>= λ next. Ok (Some next)

own_given : (kinds : List (List ℕ)) (fields : List FieldDecl) (roots : List RootDecl) (draft : OpsDraft) (word : List ℕ) (rest : List (List ℕ)) (r : Result OpsDraft ℕ)
    → IfOk r (Kept (length kinds) (length fields) (length roots)) → IfOk (own_only r >>= or_plain kinds fields roots draft word rest) (Kept (length kinds) (length fields) (length roots))
own_given kinds fields roots draft word rest (Ok next) h = h
own_given kinds fields roots draft word rest (Err fault) h = tt

outside_given : (kinds : List (List ℕ)) (fields : List FieldDecl) (roots : List RootDecl) (draft : OpsDraft) (word : List ℕ) (rest : List (List ℕ)) (b : Bool) → Keeps (length kinds) (length fields) (length roots) Outside draft
    → IfOk ((if b then own_only (target_op_line (at Outside draft) rest) else Err form_fault) >>= or_plain kinds fields roots (at Outside draft) word rest) (Kept (length kinds) (length fields) (length roots))
outside_given kinds fields roots draft word rest true h =
    own_given kinds fields roots (at Outside draft) word rest (target_op_line (at Outside draft) rest) (op_line_kept (length kinds) (length fields) (length roots) (at Outside draft) rest h refl)
outside_given kinds fields roots draft word rest false h = tt

begun_given : (kinds : List (List ℕ)) (fields : List FieldDecl) (roots : List RootDecl) (draft : OpsDraft) (word : List ℕ) (rest : List (List ℕ)) (b : Bool) (r : Result (Unit {0}) ℕ) → Keeps (length kinds) (length fields) (length roots) Begun draft
    → IfOk ((if b then (r >>= λ done. Ok (Some (record (at Begun draft) { part = Generator }))) else Err form_fault) >>= or_plain kinds fields roots (at Begun draft) word rest) (Kept (length kinds) (length fields) (length roots))
begun_given kinds fields roots draft word rest true (Ok done) h = record { ops = h.ops; op = h.op; pending = tt }
begun_given kinds fields roots draft word rest _ _ h = tt

-- the draft after a line, if no entry line is due
part_kept : (kinds : List (List ℕ)) (fields : List FieldDecl) (roots : List RootDecl) (part : Part) (draft : OpsDraft) (word : List ℕ) (rest : List (List ℕ)) → Keeps (length kinds) (length fields) (length roots) part draft
    → IfOk (in_target_place kinds fields roots 0 (at part draft) word rest) (Kept (length kinds) (length fields) (length roots))
part_kept kinds fields roots Outside draft word rest h = outside_given kinds fields roots draft word rest (bytes_eq word (codes "op")) h
part_kept kinds fields roots Begun draft word rest h = begun_given kinds fields roots draft word rest (bytes_eq word (codes "gen")) (end_at rest) h
part_kept kinds fields roots Generator draft word rest h =
    then_has (in_target_generator (at Generator draft) word rest) _ (KeptIf (length kinds) (length fields) (length roots)) _ (generator_kept kinds fields roots draft word rest h) λ own kept.
    or_plain_kept kinds fields roots (at Generator draft) word rest own kept
    (plain_kept kinds fields roots (at Generator draft) word rest λ step fits room. generator_step_kept (length kinds) (length fields) (length roots) draft step h fits room)
part_kept kinds fields roots WrapUp draft word rest h =
    then_has (in_target_wrap_up (at WrapUp draft) word rest) _ (KeptIf (length kinds) (length fields) (length roots)) _ (wrap_up_kept kinds fields roots draft word rest h) λ own kept.
    or_plain_kept kinds fields roots (at WrapUp draft) word rest own kept
    (plain_kept kinds fields roots (at WrapUp draft) word rest λ step fits room. wrap_up_step_kept (length kinds) (length fields) (length roots) draft step h fits room)

-- one more entry of a commit
entry_pushed : (fields roots left : ℕ) (code : List TargetInstr) (entries : List CasEntry) (entry : CasEntry)
    → CommitSoFar fields roots (suc left) code entries → is_entry fields roots entry ≡ true → CommitSoFar fields roots left code (entries ++ entry ∷ [])
entry_pushed fields roots left code entries entry h fine = record { room = h.room; few = few; each = all_pushed _ entries entry h.each fine }
  where
    few : nat_le (length (entries ++ entry ∷ []) + left) 4 ≡ true
    few = let before : nat_le (length entries + suc left) 4 ≡ true = h.few in let k = length-append entries (entry ∷ []) in grind (arith, nat_tests, k)

-- what holds somewhere holds of a draft there
keeps_there : (kinds fields roots : ℕ) (part : Part) (left : ℕ) (draft : OpsDraft) (entries : List CasEntry)
    → Keeps kinds fields roots part (with_target_entries left (record draft { part = part }) entries) → Kept kinds fields roots (with_target_entries left (record draft { part = part }) entries)
keeps_there kinds fields roots part zero draft entries h = h
keeps_there kinds fields roots part (suc left) draft entries h = h

same_ops : (kinds fields roots left : ℕ) (draft : OpsDraft) (entries : List CasEntry) → OpsSoFar kinds fields roots draft.ops → OpsSoFar kinds fields roots (with_target_entries left draft entries).ops
same_ops kinds fields roots zero draft entries h = h
same_ops kinds fields roots (suc left) draft entries h = h

same_generator : (left : ℕ) (draft : OpsDraft) (entries : List CasEntry) → nat_lt 0 (length draft.op.generator) ≡ true
    → nat_lt 0 (length (with_target_entries left (record draft { part = WrapUp }) entries).op.generator) ≡ true
same_generator zero draft entries h = h
same_generator (suc left) draft entries h = h

entry_kept : (kinds fields roots : ℕ) (part : Part) (left : ℕ) (draft : OpsDraft) (entry : CasEntry) → Keeps kinds fields roots part (record draft { left = suc left }) → is_entry fields roots entry ≡ true
    → Keeps kinds fields roots part (with_target_entries left (record draft { part = part }) (draft.entries ++ entry ∷ []))
entry_kept kinds fields roots Outside left draft entry h fine = same_ops kinds fields roots left (record draft { part = Outside }) _ h
entry_kept kinds fields roots Begun left draft entry h fine = entries_in_op kinds fields roots Begun left draft _ h.ops h.op (entry_pushed _ _ left draft.op.wrapup draft.entries entry h.pending fine)
entry_kept kinds fields roots Generator left draft entry h fine = entries_in_op kinds fields roots Generator left draft _ h.ops h.op (entry_pushed _ _ left draft.op.generator draft.entries entry h.pending fine)
entry_kept kinds fields roots WrapUp left draft entry h fine =
    (entries_in_op kinds fields roots WrapUp left draft _ h.0.ops h.0.op (entry_pushed _ _ left draft.op.wrapup draft.entries entry h.0.pending fine), same_generator left draft _ h.1)

place_kept : (kinds : List (List ℕ)) (fields : List FieldDecl) (roots : List RootDecl) (left : ℕ) (draft : OpsDraft) (word : List ℕ) (rest : List (List ℕ)) → Kept (length kinds) (length fields) (length roots) (record draft { left = left })
    → IfOk (in_target_place kinds fields roots left (record draft { left = left }) word rest) (Kept (length kinds) (length fields) (length roots))
place_kept kinds fields roots zero draft word rest h = part_kept kinds fields roots draft.part (record draft { left = 0 }) word rest h
place_kept kinds fields roots (suc left) draft word rest h =
    then_has (entry_line fields roots word rest) _ (λ entry. is_entry (length fields) (length roots) entry ≡ true) _ (entry_fits fields roots word rest) λ entry fine.
    keeps_there (length kinds) (length fields) (length roots) draft.part left (record draft { left = suc left }) (draft.entries ++ entry ∷ [])
    (entry_kept (length kinds) (length fields) (length roots) draft.part left (record draft { left = suc left }) entry h fine)

words_kept : (kinds : List (List ℕ)) (fields : List FieldDecl) (roots : List RootDecl) (draft : OpsDraft) (first : Option (List ℕ × List (List ℕ))) → Kept (length kinds) (length fields) (length roots) draft
    → IfOk (after_target_words kinds fields roots draft first) (Kept (length kinds) (length fields) (length roots))
words_kept kinds fields roots draft None h = h
words_kept kinds fields roots draft (Some word) h = place_kept kinds fields roots draft.left draft word.0 word.1 h

lines_kept : (kinds : List (List ℕ)) (fields : List FieldDecl) (roots : List RootDecl) (draft : OpsDraft) (lines : List TextLine) → Kept (length kinds) (length fields) (length roots) draft
    → IfOk (after_target_lines kinds fields roots draft lines) (Kept (length kinds) (length fields) (length roots))
lines_kept kinds fields roots draft [] h = h
lines_kept kinds fields roots draft (line ∷ lines) h =
    then_has (at_line line.number (after_target_line kinds fields roots draft line)) _ (Kept (length kinds) (length fields) (length roots)) (Kept (length kinds) (length fields) (length roots))
    (at_line_has line.number _ (Kept (length kinds) (length fields) (length roots)) (anyhow (words_in line) _ _ λ words. words_kept kinds fields roots draft (first_word words) h)) λ next kept.
    lines_kept kinds fields roots next lines kept

abbrev AreOps : List (List ℕ) → List FieldDecl → List RootDecl → List TargetOp → Type 0
AreOps kinds fields roots ops = are_target_ops (length kinds) (length fields) (length roots) ops ≡ true

finished_in_is : (kinds : List (List ℕ)) (fields : List FieldDecl) (roots : List RootDecl) (part : Part) (draft : OpsDraft) → Keeps (length kinds) (length fields) (length roots) part draft → IfOk (finished_ops_in part draft) (AreOps kinds fields roots)
finished_in_is kinds fields roots WrapUp draft h =
    then_has (with_whole_target_op draft) _ (IsNextDraft (length kinds) (length fields) (length roots) draft.left) _ (whole_op_has (length kinds) (length fields) (length roots) draft h) λ next last.
    whole_list 16 _ _ next.ops last.ops last.some
finished_in_is kinds fields roots _ draft h = tt

-- operations that are read are within the limits
pub ops_within : (kinds : List (List ℕ)) (fields : List FieldDecl) (roots : List RootDecl) (past : ℕ) (lines : List TextLine) → IfOk (ops_read kinds fields roots past no_ops lines) (AreOps kinds fields roots)
ops_within kinds fields roots past lines =
    then_has (after_target_lines kinds fields roots no_ops lines) _ (Kept (length kinds) (length fields) (length roots)) _ (lines_kept kinds fields roots no_ops lines (record { few = refl; each = refl; apart = refl })) λ last h.
    at_line_has past _ (AreOps kinds fields roots) (demanded form_fault (last.left == 0) _ _ λ _. finished_in_is kinds fields roots last.part last h)
