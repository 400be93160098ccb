-- What contracts see of what a reader has of the lines after a text.
use Rattle.documents.specs.DocumentRead.{Stage, AfterText, AfterPhases, AfterFuel, InScript, InSchedule, Tail}
use Rattle.documents.specs.TailLines.{Slots, Phases, Counts}
use Rattle.documents.specs.declared.tail.Stage.{Stage as ReadStage}
use Rattle.documents.specs.declared.tail.Stage.TheVariants as read
use Rattle.documents.specs.declared.tail.Tail.{Tail as ReadTail}
use Rattle.documents.specs.declared.settings.Slots.{Slots as ReadSlots}
use Rattle.documents.specs.declared.settings.Phases.{Phases as ReadPhases}
use Rattle.documents.specs.declared.schedule.Counts.{Counts as ReadCounts}

-- where the next line stands
abbrev pub stage_shown : ReadStage → Stage
stage_shown read.Slots = AfterText
stage_shown read.Fuel = AfterPhases
stage_shown read.Scripts = AfterFuel
stage_shown read.Calls = InScript
stage_shown read.Turns = InSchedule

-- what the lines say so far
abbrev pub tail_shown : ReadTail → Tail
tail_shown tail = record {
  stage = stage_shown tail.stage;
  version = tail.version;
  kinds = tail.text.kinds;
  next_kind = tail.next_kind;
  slots = tail.slots;
  first = tail.first;
  last = tail.last;
  fuel = tail.fuel;
  scripts = tail.scripts;
  script = tail.script;
  schedule = tail.schedule;
}

-- the slots of a kind
abbrev pub slots_shown : ReadSlots → Slots
slots_shown slots = record { owner = slots.owner; count = slots.count }

-- the first and the last phase
abbrev pub phases_shown : ReadPhases → Phases
phases_shown phases = record { first = phases.first; last = phases.last }

-- the caller of a turn, and its count
abbrev pub counts_shown : ReadCounts → Counts
counts_shown counts = record { caller = counts.caller; count = counts.count }
