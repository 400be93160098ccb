-- What is seen of the source machine after the events of a run.
use Rattle.std.specs.Prelude.{◌≡◌, ℕ, zero, suc, false, List, [], ◌∷◌, ◌++◌, ◌+◌, map, length, Option, Some, option_map}
use Rattle.norm_lang.specs.declared.text.Instr.{Instr}
use Rattle.norm_lang.specs.declared.text.Instr.TheVariants.{Set, Commit, Return}
use Rattle.norm_lang.specs.declared.text.Text.{Text}
use Rattle.source_machine.specs.declared.event.SourceEvent.{SourceEvent}
use Rattle.source_machine.specs.declared.event.SourceEvent.TheVariants.{Begin, Access}
use Rattle.norm_lang.specs.declared.reply.SourceReply.{SourceReply}
use Rattle.source_machine.specs.declared.state.Value.{Value}
use Rattle.source_machine.specs.declared.state.Value.TheVariants.{Number, Node}
use Rattle.source_machine.specs.declared.state.NamedNode.{NamedNode}
use Rattle.source_machine.specs.declared.state.Stand.{Stand}
use Rattle.source_machine.specs.declared.state.Running.{Running}
use Rattle.source_machine.specs.declared.state.SourceCaller.{SourceCaller}
use Rattle.source_machine.specs.declared.state.SourceMachine.{SourceMachine}
use Rattle.source_machine.specs.State.{source_start}
use Rattle.source_machine.specs.Run.{source_run}
use Rattle.worked_rows.specs.Small.{n1, n7, small}

-- the replies of each of so many callers after a run; none if an event isn't enabled
abbrev pub replies_after : Text → ℕ → List SourceEvent → Option (List (List SourceReply))
replies_after text callers events =
    option_map (λ (state : SourceMachine). map (λ (caller : SourceCaller). caller.replies) state.callers) (source_run text events (source_start text callers))

-- the roots, the retired names and the nodes after a run of one caller
abbrev pub roots_after : Text → List SourceEvent → Option (List Value)
roots_after text events = option_map (λ (state : SourceMachine). state.memory.roots) (source_run text events (source_start text 1))

abbrev pub retired_after : Text → List SourceEvent → Option (List ℕ)
retired_after text events = option_map (λ (state : SourceMachine). state.memory.retired) (source_run text events (source_start text 1))

abbrev pub nodes_after : Text → List SourceEvent → Option (List NamedNode)
nodes_after text events = option_map (λ (state : SourceMachine). state.memory.nodes) (source_run text events (source_start text 1))

-- where a caller stands, unless it is idle
abbrev pub stand_of : SourceCaller → Option Stand
stand_of caller = option_map (λ (running : Running). running.stand) caller.running

-- where one caller stands after a run
abbrev pub stands_after : Text → List SourceEvent → Option (List (Option Stand))
stands_after text events = option_map (λ (state : SourceMachine). map stand_of state.callers) (source_run text events (source_start text 1))

-- a caller begins the operation with an argument
abbrev pub begins : ℕ → ℕ → SourceEvent
begins caller argument = Begin caller 0 (argument ∷ 0 ∷ 0 ∷ 0 ∷ [])

-- so many accesses of caller 0
abbrev pub accesses : ℕ → List SourceEvent
accesses zero = []
accesses (suc n) = Access 0 0 ∷ accesses n

-- caller 0 begins the operation with an argument, and makes so many accesses
abbrev pub undisturbed : ℕ → ℕ → List SourceEvent
undisturbed argument n = begins 0 argument ∷ accesses n

-- so it comes to its reply
abbrev pub Replies : Text → ℕ → ℕ → SourceReply → Type 0
Replies text argument n reply = replies_after text 1 (undisturbed argument n) ≡ Some ((reply ∷ []) ∷ [])

-- a generator, with a wrap-up that replies how many exchanges of its list succeeded
abbrev pub counts : List Instr → Text
counts generator = small generator (Return n7 ∷ [])

-- instructions and a branch, with a wrap-up that replies 2 if the branch was taken, and 1 if it wasn't
abbrev pub decides : List Instr → (ℕ → Instr) → Text
decides before branch =
    small (before ++ branch (length before + 3) ∷ Set n1 1 ∷ Commit [] ∷ Set n1 2 ∷ Commit [] ∷ []) (Return n1 ∷ [])

-- a reference without a mark
abbrev pub to_node : ℕ → Value
to_node name = Node (record { node = name; marked = false })

-- the two nodes with which a run starts
abbrev pub first_nodes : List NamedNode
first_nodes =
    record { name = 1; kind = 0; values = Number 4 ∷ to_node 2 ∷ [] }
    ∷ record { name = 2; kind = 0; values = Number 6 ∷ to_node 0 ∷ [] }
    ∷ []
