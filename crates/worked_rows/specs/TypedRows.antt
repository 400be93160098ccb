-- A run over two kinds of nodes to which the laws of typed memory apply: what they ask for is met, and what they give is told.
use Rattle.std.specs.Prelude.{◌≡◌, List, [], ◌∷◌, Some, codes, slice_get}
use Rattle.norm_lang.specs.declared.text.FieldKind.TheVariants as holdings
use Rattle.norm_lang.specs.declared.text.Start.TheVariants as starts
use Rattle.norm_lang.specs.declared.text.FieldDecl.{FieldDecl}
use Rattle.norm_lang.specs.declared.text.RootDecl.{RootDecl}
use Rattle.norm_lang.specs.declared.text.NodeDecl.{NodeDecl}
use Rattle.norm_lang.specs.declared.text.Instr.{Instr}
use Rattle.norm_lang.specs.declared.text.Instr.TheVariants.{LoadRoot, LoadField, Commit, ReturnNone}
use Rattle.norm_lang.specs.declared.text.Op.{Op}
use Rattle.norm_lang.specs.declared.text.Text.{Text}
use Rattle.norm_lang.specs.Limits.{IsWithinLimits}
use Rattle.norm_lang.specs.NormalForm.{IsNormal}
use Rattle.source_machine.specs.declared.event.SourceEvent.{SourceEvent}
use Rattle.source_machine.specs.declared.event.SourceEvent.TheVariants.{Begin, Access}
use Rattle.source_machine.specs.declared.state.SourceCaller.{SourceCaller}
use Rattle.source_machine.specs.declared.state.SourceMachine.{SourceMachine}
use Rattle.source_machine.specs.Run.{IsSourceRun}
use Rattle.run_ahead.specs.Typed.{IsNodeOf, IsTyped}
use Rattle.run_ahead.specs.TypedCallers.{IsTypedCaller}
use Rattle.worked_rows.specs.Small.{n1, r0, r1}

-- an item has a key, and a pair a mate, which is an item
abbrev pub mated_fields : List FieldDecl
mated_fields =
    record { owner = 0; name = codes "key"; kind = holdings.Number }
    ∷ record { owner = 1; name = codes "mate"; kind = holdings.Reference 0 }
    ∷ []

abbrev pub mated_roots : List RootDecl
mated_roots = record { name = codes "first"; kind = holdings.Reference 1; start = starts.Node 2 } ∷ []

-- the item @1 with 7, and the pair @2, whose mate it is
abbrev pub mated_nodes : List NodeDecl
mated_nodes = record { owner = 0; values = starts.Value 7 ∷ [] } ∷ record { owner = 1; values = starts.Node 1 ∷ [] } ∷ []

-- the pair, its mate, and the mate's key
abbrev pub follows : List Instr
follows = LoadRoot r0 0 ∷ LoadField r1 r0 1 ∷ LoadField n1 r1 0 ∷ Commit [] ∷ []

abbrev pub follow : Op
follow = record { name = codes "follow"; args = 0; generator = follows; wrapup = ReturnNone ∷ [] }

abbrev pub mated : Text
mated = record { kinds = codes "item" ∷ codes "pair" ∷ []; fields = mated_fields; roots = mated_roots; nodes = mated_nodes; ops = follow ∷ [] }

-- up to the load of the key
abbrev pub to_the_key : List SourceEvent
to_the_key = Begin 0 0 (0 ∷ 0 ∷ 0 ∷ 0 ∷ []) ∷ Access 0 0 ∷ Access 0 0 ∷ []

-- where the caller stands, and what its registers name
pub record StandsAtKey (state : SourceMachine) : Type 0 where
  pub caller : SourceCaller
  pub is : slice_get state.callers 0 ≡ Some caller
  pub typed : IsTypedCaller mated state.memory.nodes caller
  -- by the laws r0, which the load of the mate asked for, names a pair, and r1, which the load of the key asks for, an item
  pub pair : IsNodeOf state.memory.nodes 1 2
  pub item : IsNodeOf state.memory.nodes 0 1

pub record TypedRows : Type 0 where
  pub normal : IsNormal mated
  pub within : IsWithinLimits mated
  pub state : SourceMachine
  pub run : IsSourceRun mated 1 to_the_key state
  pub memory : IsTyped mated state.memory
  pub stands : StandsAtKey state
