-- The target that the rows emit: a stack of nodes with a reference and a number, on one root.
use Rattle.std.specs.Prelude.{List, [], ◌∷◌, map, Some, None}
use Rattle.norm_lang.specs.declared.text.FieldDecl.{FieldDecl}
use Rattle.norm_lang.specs.declared.text.FieldKind.TheVariants as holdings
use Rattle.norm_lang.specs.declared.text.Place.TheVariants as text_places
use Rattle.norm_lang.specs.declared.text.Reg.TheVariants.{Num, Ref}
use Rattle.norm_lang.specs.declared.text.Start.TheVariants as starts
use Rattle.norm_lang.specs.declared.text.Instr.TheVariants as instr
use Rattle.target_code.specs.declared.target.TargetInstr.{TargetInstr}
use Rattle.target_code.specs.declared.target.TargetInstr.TheVariants.{Plain, Check, Guard}
use Rattle.target_code.specs.declared.target.TargetOp.{TargetOp}
use Rattle.target_code.specs.declared.target.Target.{Target}
use Rattle.c_language.specs.declared.lines.Line.{Line}
use Rattle.c_runtime.specs.ClaimLines.{claim_lines}
use Rattle.c_emission.specs.Operations.{operation_lines}

-- field 0 refers to the next node, and field 1 is the key
abbrev pub item_fields : List FieldDecl
item_fields = record { owner = 0; name = []; kind = holdings.Reference 0 } ∷ record { owner = 0; name = []; kind = holdings.Number } ∷ []

abbrev pub named : List TargetInstr → List TargetInstr → TargetOp
named generator wrapup = record { name = []; args = 1; generator = generator; wrapup = wrapup }

-- `push`: a node with the key n0 before the top, and again if another caller was first
abbrev pub push : TargetOp
push =
    named
    (Plain (instr.New (Ref 0) 0)
    ∷ Plain (instr.Put (Ref 0) 1 (Num 0))
    ∷ Plain (instr.LoadRoot (Ref 1) 0)
    ∷ Plain (instr.Put (Ref 0) 0 (Ref 1))
    ∷ Plain (instr.Commit (record { place = text_places.Root 0; expected = Ref 1; replacement = Ref 0; retire = None } ∷ []))
    ∷ [])
    (Plain (instr.Set (Num 0) 1) ∷ Plain (instr.IfLess (Num 7) (Num 0) 3) ∷ Plain instr.ReturnNone ∷ Plain instr.Again ∷ [])

-- `pop`: the top is retired, and the answer is 1
abbrev pub pop : TargetOp
pop =
    named
    (Plain (instr.LoadRoot (Ref 0) 0)
    ∷ Guard (Ref 0)
    ∷ Check
    ∷ Plain (instr.LoadField (Ref 1) (Ref 0) 0)
    ∷ Check
    ∷ Plain (instr.Commit (record { place = text_places.Root 0; expected = Ref 0; replacement = Ref 1; retire = Some (Ref 0) } ∷ []))
    ∷ [])
    (Plain (instr.Set (Num 0) 1) ∷ Plain (instr.IfLess (Num 7) (Num 0) 3) ∷ Plain (instr.Return (Num 0)) ∷ Plain instr.Again ∷ [])

-- `peek`: the wrap-up keeps r0, and answers with the key of the top
abbrev pub peek : TargetOp
peek =
    named
    (Plain (instr.LoadRoot (Ref 0) 0) ∷ Guard (Ref 0) ∷ Check ∷ Plain (instr.Commit []) ∷ [])
    (Plain (instr.LoadField (Num 0) (Ref 0) 1) ∷ Check ∷ Plain (instr.Return (Num 0)) ∷ [])

-- `swing`: an auxiliary exchange of the top's field; the answer is 1 if it succeeds
abbrev pub swing : TargetOp
swing =
    named
    (Plain (instr.LoadRoot (Ref 0) 0)
    ∷ Plain (instr.Cas (record { place = text_places.Field (Ref 0) 0; expected = Ref 0; replacement = Ref 1; retire = None }) 3)
    ∷ Plain (instr.Set (Num 1) 1)
    ∷ Plain (instr.Commit [])
    ∷ [])
    (Plain (instr.Return (Num 1)) ∷ [])

abbrev pub stack : Target
stack =
    record {
      kinds = [] ∷ [];
      fields = item_fields;
      roots = record { name = []; kind = holdings.Reference 0; start = starts.Node 0 } ∷ [];
      nodes = [];
      ops = push ∷ pop ∷ peek ∷ swing ∷ [];
    }

-- the claim of the one kind is function 0, and the operations follow
abbrev pub functions : List (List Line)
functions = claim_lines 0 1 ∷ map (operation_lines stack) stack.ops
