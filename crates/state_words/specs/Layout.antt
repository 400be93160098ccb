-- What the cells of a word stand for. A number that no state needs is read as some state all the same, so that every word stands for one.
--
-- Cell 0 is the count of nodes, cell 1 that of roots. Then come 41 cells for each caller: the calls begun; 0 if it is idle, else 1 in a generator,
-- 2 in a list, 3 in a wrap-up; the operation; four arguments; the place; how many exchanges of the list succeeded, or whether the wrap-up run
-- has made an access; registers; and the registers of the wrap-up's start. Then 20 for each node, named from 1: its kind; the count of its values, and
-- where they begin; whether it is retired; and for each of eight callers whether its method run has got it, and whether it was retired before
-- that began. Then two for each root, and last two for each value of each node. Registers are eight numbers and eight references.
--
-- Nothing rests on what writes words: a search reads each word that it wrote, and tests what it stands for. A wrong word shows as a breach that isn't
-- there, or as an undecided search.
use Rattle.std.specs.Prelude.{ℕ, zero, suc, ◌+◌, ◌*◌, ◌/◌, ◌%◌, ◌==◌, List, [], ◌∷◌, ◌++◌, Option, Some, None, nat_lt, if◌then◌else◌, slice_get, slice_index}
use Rattle.norm_lang.specs.declared.text.CasEntry.{CasEntry}
use Rattle.norm_lang.specs.declared.text.Instr.{Instr}
use Rattle.norm_lang.specs.declared.text.Instr.TheVariants as instr
use Rattle.norm_lang.specs.declared.text.Op.{Op}
use Rattle.norm_lang.specs.declared.text.Text.{Text}
use Rattle.norm_lang.specs.declared.registers.Reference.{Reference}
use Rattle.norm_lang.specs.declared.registers.Registers.{Registers}
use Rattle.source_machine.specs.declared.state.Value.{Value}
use Rattle.source_machine.specs.declared.state.Value.TheVariants.{Number, Node}
use Rattle.source_machine.specs.declared.state.NamedNode.{NamedNode}
use Rattle.source_machine.specs.declared.state.Memory.{Memory}
use Rattle.source_machine.specs.declared.state.Stand.{Stand}
use Rattle.source_machine.specs.declared.state.Stand.TheVariants.{InGenerator, InList, InWrapUp}
use Rattle.source_machine.specs.declared.state.Running.{Running}
use Rattle.source_machine.specs.declared.state.SourceCaller.{SourceCaller}
use Rattle.state_judge.specs.declared.runs.ListedRun.{ListedRun}
use Rattle.state_words.specs.declared.snapshot.Snapshot.{Snapshot}
use Rattle.state_words.specs.Cells.{cells_from}

abbrev pub at_most : ℕ → ℕ → ℕ
at_most most number = if nat_lt number most then number else most

-- so many items, from a place on, each so many cells after the one before
abbrev pub read_list : {A : Type 0} → (ℕ → A) → ℕ → ℕ → ℕ → List A
read_list item at step zero = []
read_list item at step (suc n) = item at ∷ read_list item (at + step) step n

abbrev pub reference_of : ℕ → Reference
reference_of cell = record { node = cell / 2; marked = (cell % 2) == 1 }

abbrev pub registers_at : List ℕ → ℕ → Registers
registers_at cells at = record {
  numbers = slice_index cells at ∷ slice_index cells (at + 1) ∷ slice_index cells (at + 2) ∷ slice_index cells (at + 3) ∷ slice_index cells (at + 4) ∷ slice_index cells (at + 5) ∷ slice_index cells (at + 6) ∷ slice_index cells (at + 7) ∷ [];
  references = reference_of (slice_index cells (at + 8)) ∷ reference_of (slice_index cells (at + 9)) ∷ reference_of (slice_index cells (at + 10)) ∷ reference_of (slice_index cells (at + 11)) ∷ reference_of (slice_index cells (at + 12)) ∷ reference_of (slice_index cells (at + 13)) ∷ reference_of (slice_index cells (at + 14)) ∷ reference_of (slice_index cells (at + 15)) ∷ [];
}

abbrev pub value_at : List ℕ → ℕ → Value
value_at cells at = if slice_index cells at == 0 then Number (slice_index cells (at + 1)) else Node (reference_of (slice_index cells (at + 1)))

-- the exchanges of the commit at a place of a generator
abbrev pub entries_in : Option Instr → List CasEntry
entries_in (Some (instr.Commit entries)) = entries
entries_in _ = []

abbrev pub entries_at : Option Op → ℕ → List CasEntry
entries_at None at = []
entries_at (Some op) at = entries_in (slice_get op.generator at)

abbrev pub stand_at : Text → ℕ → List ℕ → ℕ → Stand
stand_at text op cells at =
    let place = slice_index cells (at + 7) in
    if slice_index cells (at + 1) == 1 then InGenerator place
    else (if slice_index cells (at + 1) == 2 then InList place (entries_at (slice_get text.ops op) place) (slice_index cells (at + 8))
    else InWrapUp place (registers_at cells (at + 25)) (slice_index cells (at + 8) == 1))

abbrev pub running_at : Text → List ℕ → ℕ → Running
running_at text cells at = record {
  op = at_most 255 (slice_index cells (at + 2));
  args = slice_index cells (at + 3) ∷ slice_index cells (at + 4) ∷ slice_index cells (at + 5) ∷ slice_index cells (at + 6) ∷ [];
  registers = registers_at cells (at + 9);
  stand = stand_at text (at_most 255 (slice_index cells (at + 2))) cells at;
}

abbrev pub caller_at : Text → List ℕ → ℕ → SourceCaller
caller_at text cells at = record { replies = []; running = if slice_index cells (at + 1) == 0 then None else Some (running_at text cells at) }

-- a name whose flag is 1
abbrev pub name_if : ℕ → ℕ → List ℕ
name_if flag name = if flag == 1 then name ∷ [] else []

-- the names of the nodes whose blocks have a 1 at a place; the first has the name, and its flag stands there
abbrev pub flagged : List ℕ → ℕ → ℕ → ℕ → List ℕ
flagged cells at name zero = []
flagged cells at name (suc n) = name_if (slice_index cells at) name ++ flagged cells (at + 20) (name + 1) n

-- the node of a block, whose values stand after a place
abbrev pub node_at : List ℕ → ℕ → ℕ → ℕ → NamedNode
node_at cells from at name = record {
  name = name;
  kind = at_most 255 (slice_index cells at);
  values = read_list (value_at cells) (from + at_most 4294967295 (slice_index cells (at + 2))) 2 (at_most 255 (slice_index cells (at + 1)));
}

-- nodes, the newest first, after others that were made before
abbrev pub nodes_onto : List ℕ → ℕ → ℕ → ℕ → ℕ → List NamedNode → List NamedNode
nodes_onto cells from at name zero nodes = nodes
nodes_onto cells from at name (suc n) nodes = nodes_onto cells from (at + 20) (name + 1) n (node_at cells from at name ∷ nodes)

abbrev pub run_at : List ℕ → ℕ → ℕ → ℕ → ListedRun
run_at cells start count caller =
    record { got = flagged cells (start + 2 * caller + 4) 1 count; old = flagged cells (start + 2 * caller + 5) 1 count }

abbrev pub memory_at : List ℕ → ℕ → ℕ → Memory
memory_at cells start count =
    let roots = at_most 65535 (slice_index cells 1) in
    record {
      nodes = nodes_onto cells (start + 20 * count + 2 * roots) start 1 count [];
      roots = read_list (value_at cells) (start + 20 * count) 2 roots;
      retired = flagged cells (start + 3) 1 count;
    }

-- the state of cells, for so many callers
abbrev pub snapshot_of : Text → ℕ → List ℕ → Snapshot
snapshot_of text callers cells =
    let count = at_most 65535 (slice_index cells 0) in
    let start = 2 + 41 * callers in
    record {
      machine = record { memory = memory_at cells start count; callers = read_list (caller_at text cells) 2 41 callers };
      runs = read_list (run_at cells start count) 0 1 callers;
      begun = read_list (slice_index cells) 2 41 callers;
    }

-- the state that a word stands for
unfoldable pub word_snapshot : Text → ℕ → List ℕ → Snapshot
word_snapshot text callers word = snapshot_of text callers (cells_from 0 word)
