-- What the program says on standard error, for a person, beside the line that it writes on standard output.
use Rattle.std.specs.Prelude.{ℕ, Bool, true, false, List, [], ◌++◌, codes, decimal, nat_lt, ◌==◌, if◌then◌else◌}
use Rattle.norm_check.specs.declared.refusal.Refusal.{Refusal}
use Rattle.statuses.specs.declared.status.Status.{Status}
use Rattle.statuses.specs.declared.status.Status.TheVariants.{Done, Partial, Usage, ReadFault, LongInput, BadDocument, Refused, BadShape, WriteFault, Memory, Rejected}

-- what is wrong with a line, by the number of its fault
unfoldable pub fault_words : ℕ → List ℕ
fault_words fault =
    if fault == 1 then codes "it has a byte other than a tab and those from space to ~"
    else (if fault == 2 then codes "a number in it is greater than 18446744073709551615"
    else (if fault == 3 then codes "it has more than 200 bytes"
    else (if fault == 4 then codes "its words make no line that may stand there, or a further line must follow"
    else (if fault == 5 then codes "it names a kind, a field, a root, an initial node or an operation that is not declared"
    else (if fault == 6 then codes "it declares a name that is declared already"
    else (if fault == 7 then codes "it passes a limit, such as how many lines of its kind there may be"
    else (if fault == 8 then codes "it names an initial node of another kind than its place refers to"
    else codes "it is not as the language has it")))))))

-- a rule of the normal form, by its number
unfoldable pub rule_words : ℕ → List ℕ
rule_words rule =
    if rule == 1 then codes "each register has the kind that its place needs"
    else (if rule == 2 then codes "references are not computed with"
    else (if rule == 3 then codes "each new is made once"
    else (if rule == 4 then codes "a put writes into a fresh node"
    else (if rule == 5 then codes "an auxiliary exchange shows no fresh node"
    else (if rule == 6 then codes "a fresh node has one register and one way out"
    else (if rule == 7 then codes "each cycle looks at shared memory"
    else (if rule == 8 then codes "each method ends as it must"
    else (if rule == 9 then codes "a wrap-up leaves kept registers as they are"
    else (if rule == 10 then codes "no way leads on from a kept register"
    else (if rule == 11 then codes "a wrap-up exchanges no kept register"
    else (if rule == 12 then codes "an exchange retires what it cut off"
    else (if rule == 13 then codes "jumps and picks stay inside"
    else (if rule == 14 then codes "a register is set before it is read"
    else (if rule == 15 then codes "each reference is to a node of the kind that its place needs"
    else codes "it is not in normal form"))))))))))))))

-- what is wrong with a document's shape, by its number
unfoldable pub shape_words : ℕ → List ℕ
shape_words number =
    if number == 1 then codes "it needs 1 to 8 scripts"
    else (if number == 2 then codes "the slots of each kind of its nodes, and of all kinds together, are not 1 to 4096"
    else (if number == 3 then codes "its nodes do not have 1 to 4 fields"
    else (if number == 4 then codes "it does not have 1 to 256 roots"
    else (if number == 5 then codes "it has more initial nodes of a kind than slots for them"
    else (if number == 6 then codes "its phases are not 1 to 1125899906842624, with the first no later than the last"
    else (if number == 7 then codes "its fuel is not 1 to 1000000000"
    else (if number == 8 then codes "its text has no operation of that name"
    else (if number == 9 then codes "the operation has another number of arguments"
    else (if number == 10 then codes "a turn of the schedule needs a step of a caller that has none to make"
    else (if number == 11 then codes "a replay has no more steps than these"
    else codes "its shape is not as the language has it"))))))))))

-- the methods of an operation
abbrev pub method_words : Bool → List ℕ
method_words false = codes " of the generator"
method_words true = codes " of the wrap-up"

-- the line that is at fault, what is wrong with it, and where to read on
abbrev pub fault_sentence : ℕ → ℕ → List ℕ
fault_sentence line fault =
    codes "oa: line " ++ (decimal line ++ (codes " is at fault: " ++ (fault_words fault ++ codes ". See 'Faults' in docs/language.md.\n")))

-- the rule that is broken, where, and where to read on
abbrev pub refusal_sentence : Refusal → List ℕ
refusal_sentence refusal =
    codes "oa: rule N" ++ (decimal refusal.rule ++ (codes " is broken at instruction " ++ (decimal refusal.at ++ (method_words refusal.wrapup
    ++ (codes " of operation " ++ (decimal refusal.op ++ (codes " (both counted from 0): " ++ (rule_words refusal.rule
    ++ (codes ". See 'N" ++ (decimal refusal.rule ++ codes "' in docs/language.md for how to mend it.\n"))))))))))

-- how the place of a fault of shape is told: the document as a whole, a call's line, or how many steps were made
unfoldable pub place_before : ℕ → List ℕ
place_before number =
    if nat_lt number 8 then codes "oa: the document cannot be run: "
    else (if nat_lt number 10 then codes "oa: line "
    else codes "oa: the replay stopped after ")

unfoldable pub place_number : ℕ → ℕ → List ℕ
place_number number at = if nat_lt number 8 then [] else decimal at

unfoldable pub place_after : ℕ → List ℕ
place_after number =
    if nat_lt number 8 then []
    else (if nat_lt number 10 then codes ": "
    else codes " steps: ")

-- where, what is wrong there, and where to read on
abbrev pub shape_sentence : ℕ → ℕ → List ℕ
shape_sentence number at =
    place_before number ++ (place_number number at ++ (place_after number ++ (shape_words number ++ codes ". See 'What can be run' in docs/language.md.\n")))

-- what of a certificate is wrong, by the number of what is found: an event, or the replies of a caller
unfoldable pub rejected_part : ℕ → List ℕ
rejected_part number = if number == 3 then codes "the replies of caller " else codes "event "

-- what is wrong with it, and what to look at
unfoldable pub rejection_words : ℕ → List ℕ
rejection_words number =
    if number == 1 then codes " (counted from 0) is not enabled: after the events before it no run of the text makes that step. Compare it with the earlier events of its caller"
    else (if number == 2 then codes " (counted from 0) begins another call than the next one of its caller's script. Compare its operation and its numbers with that script"
    else (if number == 3 then codes " do not agree with its events: each call that it began has the reply that the events give it, in order, and only that of the last may be left out. Compare its reply lines with its events"
    else codes " is not as the language has it"))

-- which event or caller, what is wrong there, and where to read on
abbrev pub rejection_sentence : ℕ → ℕ → List ℕ
rejection_sentence number at =
    codes "oa: the certificate is rejected: " ++ (rejected_part number ++ (decimal at ++ (rejection_words number ++ codes ". See 'Certificates' in docs/language.md.\n")))

-- the sentence on a status; none if all went well
abbrev pub explanation : Status → List ℕ
explanation Done = []
explanation Partial = codes "oa: at least one call has no answer: full (two sweeps freed no slot for its new node), phases (the last phase is over), spent (it used up its fuel, the steps that one call may make) or unreached (an earlier call of its caller was spent). More slots, phases or fuel may answer it: see 'The answers' in docs/language.md.\n"
explanation Usage = codes "oa: usage: oa COMMAND < DOCUMENT, oa judge check < CERTIFICATE, or oa workload N C\n  run          make the document's calls on threads, and print their answers\n  replay       make them step by step, in the order of the document's schedule\n  epochs       make them on threads as run does, on the text as it is\n  check        say whether its text is in normal form\n  show         print its text in the canonical spelling\n  upgrade      print the whole document in the canonical spelling\n  compile      print its text with checks and guards\n  judge make   replay the calls, and print a certificate of that run\n  judge check  say whether a certificate tells of a run of its document, with its replies\n  workload     make N calls on a hash set (1 to 100000), after up to 2000 by each of C callers (1 to 8)\nSee docs/language.md for documents.\n"
explanation ReadFault = codes "oa: standard input could not be read to its end, so nothing was judged. Check the file or the pipe, and try again.\n"
explanation LongInput = codes "oa: the input is longer than 1048576 bytes, the most that a document may have, or than 268435456, the most that a certificate may have. Make two documents of it, or a certificate of fewer calls.\n"
explanation (BadDocument line fault) = fault_sentence line fault
explanation (Refused refusal) = refusal_sentence refusal
explanation (BadShape number at) = shape_sentence number at
explanation WriteFault = codes "oa: standard output could not be written to its end, so what stands there may be cut short. Check the disk or the pipe, and try again.\n"
explanation Memory = codes "oa: memory ran out before there was an answer. A shorter document or a smaller workload needs less.\n"
explanation (Rejected number at) = rejection_sentence number at
