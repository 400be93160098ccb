-- The message on a status, if bytes were read: the sentence that names the line at fault, or the one on the status if there is no such line.
use Rattle.std.specs.Prelude.{ℕ, List, Option, Some, None, codes, ◌==◌, if◌then◌else◌}
use Rattle.oa_text.specs.Lines.{TextLine}
use Rattle.norm_check.specs.declared.refusal.Refusal.{Refusal}
use Rattle.statuses.specs.declared.status.Status.{Status}
use Rattle.statuses.specs.declared.status.Status.TheVariants.{Done, Partial, Usage, ReadFault, LongInput, BadDocument, Refused, BadShape, WriteFault, Memory, Rejected}
use Rattle.statuses.specs.Explanations.{fault_sentence, refusal_sentence, shape_sentence, explanation}
use Rattle.messages.specs.declared.faults.OddByte.{OddByte}
use Rattle.messages.specs.declared.faults.NamedWord.{NamedWord}
use Rattle.messages.specs.declared.faults.NamedWord.TheVariants.{Field, Root, Kind, Node, Operation, Unknown}
use Rattle.messages.specs.Faults.{odd_byte, byte_sentence, named_word, unknown_sentence, repeated_sentence}
use Rattle.messages.specs.Owed.{owed_at, misplaced_message, end_message}
use Rattle.count_messages.specs.Passed.{passed_sentence}
use Rattle.count_messages.specs.Stray.{stray_word}
use Rattle.message_lines.specs.Places.{word_at, is_numbered, declares_op, line_that}
use Rattle.refusal_messages.specs.declared.named.Blame.{Blame}
use Rattle.refusal_messages.specs.Refused.{FoundLines, refused_lines, refused_sentence}
use Rattle.messages.specs.Shapes.{shape_line, shape_at_sentence, arguments_sentence}
use Rattle.messages.specs.declared.turns.StoppedTurn.{StoppedTurn}
use Rattle.messages.specs.declared.turns.StoppedTurn.TheVariants as turns
use Rattle.messages.specs.Turns.{stopped_line, turn_sentence, unfound_sentence}

-- ---- a fault of a line

abbrev pub byte_message : Option OddByte → TextLine → ℕ → List ℕ
byte_message None line number = fault_sentence number 1
byte_message (Some odd) line number = byte_sentence line odd

abbrev pub stray_message : Option (List ℕ) → TextLine → ℕ → List ℕ
stray_message None line number = fault_sentence number 5
stray_message (Some word) line number = unknown_sentence line (codes "initial node") word

abbrev pub unknown_message : List ℕ → TextLine → NamedWord → ℕ → List ℕ
unknown_message bytes line (Field at) number = unknown_sentence line (codes "field") (word_at line at)
unknown_message bytes line (Root at) number = unknown_sentence line (codes "root") (word_at line at)
unknown_message bytes line (Kind at) number = unknown_sentence line (codes "kind") (word_at line at)
unknown_message bytes line (Node at) number = unknown_sentence line (codes "initial node") (word_at line at)
unknown_message bytes line (Operation at) number = unknown_sentence line (codes "operation") (word_at line at)
unknown_message bytes line Unknown number = stray_message (stray_word bytes line) line number

-- a line has this fault
abbrev pub fault_at_message : List ℕ → TextLine → ℕ → ℕ → List ℕ
fault_at_message bytes line number fault =
    if fault == 1 then byte_message (odd_byte line) line number
    else (if fault == 4 then misplaced_message bytes line
    else (if fault == 5 then unknown_message bytes line (named_word bytes line) number
    else (if fault == 6 then repeated_sentence line
    else (if fault == 7 then passed_sentence bytes line
    else fault_sentence number fault))))

abbrev fault_found : List ℕ → Option TextLine → ℕ → ℕ → List ℕ
fault_found bytes None number fault = if fault == 4 then end_message number (owed_at bytes number) else fault_sentence number fault
fault_found bytes (Some line) number fault = fault_at_message bytes line number fault

-- the line with this number has this fault; if there is no such line, a further one must follow
abbrev pub fault_message : List ℕ → ℕ → ℕ → List ℕ
fault_message bytes number fault = fault_found bytes (line_that (is_numbered number) bytes 0) number fault

-- ---- a broken rule

abbrev refusal_found : Option FoundLines → Refusal → Blame → List ℕ
refusal_found None refusal named = refusal_sentence refusal
refusal_found (Some found) refusal named = refused_sentence found refusal named

abbrev pub refusal_message : List ℕ → Refusal → Blame → List ℕ
refusal_message bytes refusal named = refusal_found (refused_lines bytes refusal) refusal named

-- ---- a document's shape

-- a call has another number of arguments than the line of its operation, if there is one
abbrev arguments_found : Option TextLine → TextLine → List ℕ
arguments_found None line = shape_at_sentence line 9
arguments_found (Some op) line = arguments_sentence line op

-- a document can't be run with this line
abbrev pub shape_at_message : List ℕ → TextLine → ℕ → List ℕ
shape_at_message bytes line number = if number == 9 then arguments_found (line_that (declares_op (word_at line 0)) bytes 0) line else shape_at_sentence line number

abbrev shape_found : List ℕ → Option TextLine → ℕ → ℕ → List ℕ
shape_found bytes None number at = shape_sentence number at
shape_found bytes (Some line) number at = shape_at_message bytes line number

-- a replay stopped after so many steps, at this turn
abbrev pub turn_found : Option TextLine → ℕ → List ℕ
turn_found None steps = shape_sentence 10 steps
turn_found (Some line) steps = turn_sentence line steps

-- by which turn that is
abbrev pub turn_message : List ℕ → StoppedTurn → ℕ → List ℕ
turn_message bytes (turns.After whole) steps = turn_found (stopped_line bytes whole) steps
turn_message bytes turns.NoMemory steps = unfound_sentence steps
turn_message bytes turns.Nowhere steps = shape_sentence 10 steps

abbrev pub shape_message : List ℕ → ℕ → ℕ → StoppedTurn → List ℕ
shape_message bytes number at turn = if number == 10 then turn_message bytes turn at else shape_found bytes (shape_line bytes number at) number at

-- ---- all statuses

-- the message on a status, if these bytes were read, this is found of the register, and a replay stopped at this turn; none if all went well
abbrev pub message_of : List ℕ → Status → Blame → StoppedTurn → List ℕ
message_of bytes Done named turn = explanation Done
message_of bytes Partial named turn = explanation Partial
message_of bytes Usage named turn = explanation Usage
message_of bytes ReadFault named turn = explanation ReadFault
message_of bytes LongInput named turn = explanation LongInput
message_of bytes (BadDocument line fault) named turn = fault_message bytes line fault
message_of bytes (Refused refusal) named turn = refusal_message bytes refusal named
message_of bytes (BadShape number at) named turn = shape_message bytes number at turn
message_of bytes WriteFault named turn = explanation WriteFault
message_of bytes Memory named turn = explanation Memory
message_of bytes (Rejected number at) named turn = explanation (Rejected number at)

-- the message on a status, if this is remembered of what was read, this is found of the register, and a replay stopped at this turn
abbrev pub message_for : Option (List ℕ) → Status → Blame → StoppedTurn → List ℕ
message_for None status named turn = explanation status
message_for (Some bytes) status named turn = message_of bytes status named turn
