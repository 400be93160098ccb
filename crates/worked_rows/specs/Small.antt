-- Small texts for the rows: three roots of references, three of numbers and two nodes, and what is written short for them.
use Rattle.std.specs.Prelude.{ℕ, List, [], ◌∷◌, None, codes}
use Rattle.norm_lang.specs.declared.text.Reg.{Reg}
use Rattle.norm_lang.specs.declared.text.Reg.TheVariants.{Num, Ref}
use Rattle.norm_lang.specs.declared.text.FieldKind.TheVariants as holdings
use Rattle.norm_lang.specs.declared.text.Start.TheVariants as starts
use Rattle.norm_lang.specs.declared.text.FieldDecl.{FieldDecl}
use Rattle.norm_lang.specs.declared.text.RootDecl.{RootDecl}
use Rattle.norm_lang.specs.declared.text.NodeDecl.{NodeDecl}
use Rattle.norm_lang.specs.declared.text.Place.TheVariants as places
use Rattle.norm_lang.specs.declared.text.CasEntry.{CasEntry}
use Rattle.norm_lang.specs.declared.text.Instr.{Instr}
use Rattle.norm_lang.specs.declared.text.Op.{Op}
use Rattle.norm_lang.specs.declared.text.Text.{Text}
use Rattle.norm_lang.specs.LineWords.{item_kind}
use Rattle.norm_lang.specs.Shipped.{number_field, reference_field, reference_root}

abbrev pub n0 : Reg
n0 = Num 0

abbrev pub n1 : Reg
n1 = Num 1

abbrev pub n2 : Reg
n2 = Num 2

abbrev pub n3 : Reg
n3 = Num 3

abbrev pub n7 : Reg
n7 = Num 7

abbrev pub r0 : Reg
r0 = Ref 0

abbrev pub r1 : Reg
r1 = Ref 1

abbrev pub r2 : Reg
r2 = Ref 2

abbrev pub r3 : Reg
r3 = Ref 3

-- the fields: a number and a reference
abbrev pub key : ℕ
key = 0

abbrev pub next : ℕ
next = 1

abbrev pub small_fields : List FieldDecl
small_fields = number_field (codes "key") ∷ reference_field (codes "next") ∷ []

-- the nodes: the first has key 4 and leads to the second, which has key 6 and leads nowhere
abbrev pub small_nodes : List NodeDecl
small_nodes =
    record { owner = 0; values = starts.Value 4 ∷ starts.Node 2 ∷ [] }
    ∷ record { owner = 0; values = starts.Value 6 ∷ starts.Node 0 ∷ [] }
    ∷ []

-- the roots: of the first node, of the second, and of none; and 10, 20 and 30
abbrev pub first : ℕ
first = 0

abbrev pub second : ℕ
second = 1

abbrev pub none : ℕ
none = 2

abbrev pub ten : ℕ
ten = 3

abbrev pub twenty : ℕ
twenty = 4

abbrev pub thirty : ℕ
thirty = 5

abbrev pub number_root : List ℕ → ℕ → RootDecl
number_root name value = record { name = name; kind = holdings.Number; start = starts.Value value }

abbrev pub small_roots : List RootDecl
small_roots =
    reference_root (codes "first") 1
    ∷ reference_root (codes "second") 2
    ∷ reference_root (codes "none") 0
    ∷ number_root (codes "ten") 10
    ∷ number_root (codes "twenty") 20
    ∷ number_root (codes "thirty") 30
    ∷ []

-- an operation with one argument
abbrev pub does : List Instr → List Instr → Op
does generator wrapup = record { name = codes "does"; args = 1; generator = generator; wrapup = wrapup }

-- operations over these
abbrev pub over : List Op → Text
over ops = record { kinds = item_kind ∷ []; fields = small_fields; roots = small_roots; nodes = small_nodes; ops = ops }

-- one operation over these
abbrev pub small : List Instr → List Instr → Text
small generator wrapup = over (does generator wrapup ∷ [])

-- an exchange on a field of the node in a register, from one register to another
abbrev pub field_entry : Reg → ℕ → Reg → Reg → CasEntry
field_entry object field expected replacement = record { place = places.Field object field; expected = expected; replacement = replacement; retire = None }
