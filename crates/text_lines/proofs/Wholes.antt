-- A line that says a whole instruction, and one that begins a commit.
use Rattle.std.proofs.Common.{◌≡◌, ℕ, Bool, true, false, List, Result, Ok, Err, codes, if◌then◌else◌, refl}
use Rattle.std.specs.Str.{bytes_eq}
use Rattle.std.proofs.lemmas.Slice.Eq.{bytes_eq-Decides}
use Rattle.norm_lang.specs.declared.text.FieldDecl.{FieldDecl}
use Rattle.norm_lang.specs.declared.text.RootDecl.{RootDecl}
use Rattle.norm_lang.specs.declared.text.Instr.{Instr}
use Rattle.norm_lang.specs.declared.text.Version.{Version}
use Rattle.norm_lang.specs.Faults.{form_fault}
use Rattle.norm_lang.specs.Instructions.{Step, whole, step_line, set_line, mov_line, add_line, sub_line, rem_line, null_line, mark_line, unmark_line, load_root_line, pick_line, load_field_line, new_line, put_line, cas_line, casroot_line, jump_line, ifeq_line, ifless_line, ifmarked_line, commit_line, return_line, returnnone_line, again_line}
use Rattle.line_words.specs.declared.fault.Fault.{Fault}
use Rattle.line_words.specs.Answered.{Reads}
use Rattle.text_lines.specs.declared.steps.Step.{Step as ReadStep}
use Rattle.text_lines.specs.Steps.{step_shown, whole_read, instr_line}

pub commit_begins : (version : Version) (kinds : List (List ℕ)) (fields : List FieldDecl) (roots : List RootDecl) (word : List ℕ) (rest : List (List ℕ)) → bytes_eq word (codes "commit") ≡ true
    → step_line version kinds fields roots word rest ≡ commit_line rest
commit_begins version kinds fields roots word rest same = let e : word ≡ codes "commit" = (bytes_eq-Decides word (codes "commit")).0 same in rw e refl

-- steps that say whole instructions
record Says (steps : Result Step ℕ) (instrs : Result Instr ℕ) : Type 0 where
  same : steps ≡ whole instrs

-- one more word that a whole instruction may begin with
or_else : (here : Bool) (line : Result Instr ℕ) {instrs : Result Instr ℕ} {steps : Result Step ℕ} → Says steps instrs
    → Says (if here then whole line else steps) (if here then line else instrs)
or_else true line others = record { same = refl }
or_else false line others = others

-- any other line says an instruction whole, if it has no fault
says_instr : (version : Version) (kinds : List (List ℕ)) (fields : List FieldDecl) (roots : List RootDecl) (word : List ℕ) (rest : List (List ℕ)) → bytes_eq word (codes "commit") ≡ false
    → step_line version kinds fields roots word rest ≡ whole (instr_line version kinds fields roots word rest)
says_instr version kinds fields roots word rest other =
    let unknown : Says (Err form_fault) (Err form_fault) = record { same = refl } in
    let ends = or_else (bytes_eq word (codes "return")) (return_line rest) (or_else (bytes_eq word (codes "returnnone")) (returnnone_line rest) (or_else (bytes_eq word (codes "again")) (again_line rest) unknown)) in
    let flows = or_else (bytes_eq word (codes "jump")) (jump_line rest) (or_else (bytes_eq word (codes "ifeq")) (ifeq_line rest)
    (or_else (bytes_eq word (codes "ifless")) (ifless_line rest) (or_else (bytes_eq word (codes "ifmarked")) (ifmarked_line rest) ends))) in
    let accesses = or_else (bytes_eq word (codes "root")) (load_root_line roots rest) (or_else (bytes_eq word (codes "pick")) (pick_line roots rest)
    (or_else (bytes_eq word (codes "load")) (load_field_line fields rest) (or_else (bytes_eq word (codes "new")) (new_line version kinds rest)
    (or_else (bytes_eq word (codes "put")) (put_line fields rest) (or_else (bytes_eq word (codes "cas")) (cas_line fields rest)
    (or_else (bytes_eq word (codes "casroot")) (casroot_line roots rest) flows)))))) in
    let registers = or_else (bytes_eq word (codes "set")) (set_line rest) (or_else (bytes_eq word (codes "mov")) (mov_line rest)
    (or_else (bytes_eq word (codes "add")) (add_line rest) (or_else (bytes_eq word (codes "sub")) (sub_line rest)
    (or_else (bytes_eq word (codes "rem")) (rem_line rest) (or_else (bytes_eq word (codes "null")) (null_line rest)
    (or_else (bytes_eq word (codes "mark")) (mark_line rest) (or_else (bytes_eq word (codes "unmark")) (unmark_line rest) accesses))))))) in
    rw other registers.same

pub whole_reads : (version : Version) (kinds : List (List ℕ)) (fields : List FieldDecl) (roots : List RootDecl) (word : List ℕ) (rest : List (List ℕ)) (read : Result Instr Fault) (result : Result ReadStep Fault)
    → bytes_eq word (codes "commit") ≡ false → Reads (λ i. i) read (instr_line version kinds fields roots word rest) → result ≡ whole_read read
    → Reads step_shown result (step_line version kinds fields roots word rest)
whole_reads version kinds fields roots word rest (Ok i) result other said is = rw (is, says_instr version kinds fields roots word rest other, said) refl
whole_reads version kinds fields roots word rest (Err fault) result other said is = rw (is, says_instr version kinds fields roots word rest other, said) refl
