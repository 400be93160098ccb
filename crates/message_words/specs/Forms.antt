-- How lines are spelled, by their first words.
use Rattle.std.specs.Prelude.{ℕ, List, [], length, codes, ◌==◌, if◌then◌else◌}
use Rattle.std.specs.Str.{bytes_eq}

-- the lines that declare; no bytes for another word
unfoldable pub declaration_form : List ℕ → List ℕ
declaration_form word =
    if bytes_eq word (codes "oa") then codes "'oa 1' or 'oa 2', once, as the first line"
    else (if bytes_eq word (codes "use") then codes "'use list', 'use set B' or 'use queue', right after the first line"
    else (if bytes_eq word (codes "kind") then codes "'kind NAME', in version 2 alone, before the fields"
    else (if bytes_eq word (codes "field") then codes "'field NAME num' or 'field NAME ref', in version 2 'field KIND NAME num' or 'field KIND NAME ref KIND' for each kind in turn, before the initial nodes"
    else (if bytes_eq word (codes "nodes") then codes "'nodes K', in version 2 'nodes KIND K' for each kind in turn, after the fields"
    else (if bytes_eq word (codes "node") then codes "'node V V ..', a value for each field, in version 2 of its kind, after the nodes lines and as often as they say"
    else (if bytes_eq word (codes "root") then codes "'root D X' in a method, and 'root NAME num V' or 'root NAME ref V', in version 2 'root NAME ref KIND V', after the nodes lines and as many node lines as they say, and before the operations"
    else (if bytes_eq word (codes "op") then codes "'op NAME A', where NAME is not script or schedule, after the roots or a whole operation, and 'op C N' in the schedule, where N is not 0"
    else (if bytes_eq word (codes "gen") then codes "'gen' alone, after an op line"
    else (if bytes_eq word (codes "wrap") then codes "'wrap' alone, after the instructions of a generator"
    else [])))))))))

-- instructions that set a register from others; no bytes for another word
unfoldable pub local_form : List ℕ → List ℕ
local_form word =
    if bytes_eq word (codes "set") then codes "'set D V', registers being n0 to n7 and r0 to r7"
    else (if bytes_eq word (codes "mov") then codes "'mov D A', registers being n0 to n7 and r0 to r7"
    else (if bytes_eq word (codes "add") then codes "'add D A B', registers being n0 to n7 and r0 to r7"
    else (if bytes_eq word (codes "sub") then codes "'sub D A B', registers being n0 to n7 and r0 to r7"
    else (if bytes_eq word (codes "rem") then codes "'rem D A V', where V is not 0, registers being n0 to n7 and r0 to r7"
    else (if bytes_eq word (codes "null") then codes "'null D', registers being n0 to n7 and r0 to r7"
    else (if bytes_eq word (codes "mark") then codes "'mark D A', registers being n0 to n7 and r0 to r7"
    else (if bytes_eq word (codes "unmark") then codes "'unmark D A', registers being n0 to n7 and r0 to r7"
    else [])))))))

-- instructions on shared memory, and entries of a commit; no bytes for another word
unfoldable pub access_form : List ℕ → List ℕ
access_form word =
    if bytes_eq word (codes "pick") then codes "'pick D X V A', where V is not 0, registers being n0 to n7 and r0 to r7"
    else (if bytes_eq word (codes "load") then codes "'load D A F', registers being n0 to n7 and r0 to r7"
    else (if bytes_eq word (codes "new") then codes "'new D', in version 2 'new D KIND', registers being n0 to n7 and r0 to r7"
    else (if bytes_eq word (codes "put") then codes "'put A F B', registers being n0 to n7 and r0 to r7"
    else (if bytes_eq word (codes "cas") then codes "'cas A F B D L', and maybe 'retire R', where L is the number of an instruction, counted from 0"
    else (if bytes_eq word (codes "casroot") then codes "'casroot X B D L', and maybe 'retire R', where L is the number of an instruction, counted from 0"
    else (if bytes_eq word (codes "commit") then codes "'commit K', with K lines 'with' or 'withroot' right after it"
    else (if bytes_eq word (codes "with") then codes "'with A F B D', and maybe 'retire R', right after its commit, which says how many such lines follow"
    else (if bytes_eq word (codes "withroot") then codes "'withroot X B D', and maybe 'retire R', right after its commit, which says how many such lines follow"
    else []))))))))

-- instructions that jump, branch or end a method; no bytes for another word
unfoldable pub flow_form : List ℕ → List ℕ
flow_form word =
    if bytes_eq word (codes "jump") then codes "'jump L', where L is the number of an instruction, counted from 0"
    else (if bytes_eq word (codes "ifeq") then codes "'ifeq A B L', where L is the number of an instruction, counted from 0"
    else (if bytes_eq word (codes "ifless") then codes "'ifless A B L', where L is the number of an instruction, counted from 0"
    else (if bytes_eq word (codes "ifmarked") then codes "'ifmarked A L', where L is the number of an instruction, counted from 0"
    else (if bytes_eq word (codes "return") then codes "'return A', registers being n0 to n7 and r0 to r7"
    else (if bytes_eq word (codes "returnnone") then codes "'returnnone' alone"
    else (if bytes_eq word (codes "again") then codes "'again' alone"
    else []))))))

-- the lines after a text; no bytes for another word
unfoldable pub tail_form : List ℕ → List ℕ
tail_form word =
    if bytes_eq word (codes "slots") then codes "'slots S', in version 2 'slots KIND S', once for each kind, after the text and before the phases, the fuel and the scripts"
    else (if bytes_eq word (codes "phases") then codes "'phases F L', once, after the text and the slots and before the fuel and the scripts"
    else (if bytes_eq word (codes "fuel") then codes "'fuel N', once, after the text, the slots and the phases and before the scripts"
    else (if bytes_eq word (codes "script") then codes "'script C', where C counts the scripts from 0, after the text and before the schedule"
    else (if bytes_eq word (codes "schedule") then codes "'schedule' alone, once, after the text and the scripts"
    else (if bytes_eq word (codes "step") then codes "'step C N' in the schedule, where N is not 0"
    else (if bytes_eq word (codes "upto") then codes "'upto C load N', 'upto C check N' or 'upto C exchange N' in the schedule, where N is not 0"
    else []))))))

-- the lines of a certificate after its schedule; no bytes for another word
unfoldable pub certificate_form : List ℕ → List ℕ
certificate_form word =
    if bytes_eq word (codes "events") then codes "'events' alone, in a certificate, behind the schedule"
    else (if bytes_eq word (codes "begin") then codes "'begin C NAME V V ..' among the events, with as many numbers as the operation has arguments"
    else (if bytes_eq word (codes "access") then codes "'access C N' among the events"
    else (if bytes_eq word (codes "restart") then codes "'restart C' among the events"
    else (if bytes_eq word (codes "full") then codes "'full C' among the events"
    else (if bytes_eq word (codes "replies") then codes "'replies' alone, in a certificate, behind the events"
    else (if bytes_eq word (codes "reply") then codes "'reply C V' among the replies, by callers in their order, where V is a number, none, full or phases P"
    else []))))))

-- the first form, or the second if the first has no bytes
abbrev pub or_form : List ℕ → List ℕ → List ℕ
or_form form other = if length form == 0 then other else form

-- how a line that begins with a word is spelled, and where it may stand; no bytes if no line begins so
unfoldable pub line_form : List ℕ → List ℕ
line_form word = or_form (declaration_form word) (or_form (or_form (local_form word) (or_form (access_form word) (flow_form word))) (or_form (tail_form word) (certificate_form word)))
