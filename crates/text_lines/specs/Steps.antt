-- What contracts see of a line of a method, and the lines by their first words.
use Rattle.std.specs.Prelude.{ℕ, List, Result, Ok, Err, codes, if◌then◌else◌}
use Rattle.std.specs.Str.{bytes_eq}
use Rattle.norm_lang.specs.declared.text.FieldDecl.{FieldDecl}
use Rattle.norm_lang.specs.declared.text.RootDecl.{RootDecl}
use Rattle.norm_lang.specs.declared.text.Instr.{Instr}
use Rattle.norm_lang.specs.declared.text.Version.{Version}
use Rattle.norm_lang.specs.Faults.{form_fault}
use Rattle.norm_lang.specs.Instructions.{Step, Whole, Commits, set_line, mov_line, add_line, sub_line, rem_line, null_line, mark_line, unmark_line, load_root_line, pick_line, load_field_line, new_line, put_line, cas_line, casroot_line, jump_line, ifeq_line, ifless_line, ifmarked_line, return_line, returnnone_line, again_line}
use Rattle.line_words.specs.declared.fault.Fault.{Fault}
use Rattle.text_lines.specs.declared.steps.Step.{Step as ReadStep}
use Rattle.text_lines.specs.declared.steps.Step.TheVariants as read

abbrev pub step_shown : ReadStep → Step
step_shown (read.Whole i) = Whole i
step_shown (read.Commits count) = Commits count

-- a whole instruction, if one was read
abbrev pub whole_read : Result Instr Fault → Result ReadStep Fault
whole_read (Ok i) = Ok (read.Whole i)
whole_read (Err fault) = Err fault

-- the instruction of a line that jumps, branches or ends a method
abbrev pub flow_line : List ℕ → List (List ℕ) → Result Instr ℕ
flow_line word rest =
    if bytes_eq word (codes "jump") then jump_line rest
    else (if bytes_eq word (codes "ifeq") then ifeq_line rest
    else (if bytes_eq word (codes "ifless") then ifless_line rest
    else (if bytes_eq word (codes "ifmarked") then ifmarked_line rest
    else (if bytes_eq word (codes "return") then return_line rest
    else (if bytes_eq word (codes "returnnone") then returnnone_line rest
    else (if bytes_eq word (codes "again") then again_line rest
    else Err form_fault))))))

-- the instruction of a load, a fresh node, a put or an exchange, or of a line as above
abbrev pub access_line : Version → List (List ℕ) → List FieldDecl → List RootDecl → List ℕ → List (List ℕ) → Result Instr ℕ
access_line version kinds fields roots word rest =
    if bytes_eq word (codes "root") then load_root_line roots rest
    else (if bytes_eq word (codes "pick") then pick_line roots rest
    else (if bytes_eq word (codes "load") then load_field_line fields rest
    else (if bytes_eq word (codes "new") then new_line version kinds rest
    else (if bytes_eq word (codes "put") then put_line fields rest
    else (if bytes_eq word (codes "cas") then cas_line fields rest
    else (if bytes_eq word (codes "casroot") then casroot_line roots rest
    else flow_line word rest))))))

-- the instruction of any line that says one whole
abbrev pub instr_line : Version → List (List ℕ) → List FieldDecl → List RootDecl → List ℕ → List (List ℕ) → Result Instr ℕ
instr_line version kinds fields roots word rest =
    if bytes_eq word (codes "set") then set_line rest
    else (if bytes_eq word (codes "mov") then mov_line rest
    else (if bytes_eq word (codes "add") then add_line rest
    else (if bytes_eq word (codes "sub") then sub_line rest
    else (if bytes_eq word (codes "rem") then rem_line rest
    else (if bytes_eq word (codes "null") then null_line rest
    else (if bytes_eq word (codes "mark") then mark_line rest
    else (if bytes_eq word (codes "unmark") then unmark_line rest
    else access_line version kinds fields roots word rest)))))))
