-- Memory whose roots and fields hold values of their kinds: numbers, or references to nodes of a kind.
use Rattle.std.specs.Prelude.{◌≡◌, ℕ, ◌⊎◌, List, [], ◌∷◌, map, Some, None, IsTrue}
use Rattle.norm_lang.specs.declared.text.Reg.{Reg}
use Rattle.norm_lang.specs.declared.text.Reg.TheVariants.{Num, Ref}
use Rattle.norm_lang.specs.declared.text.FieldKind.{FieldKind}
use Rattle.norm_lang.specs.declared.text.FieldKind.TheVariants as holdings
use Rattle.norm_lang.specs.declared.text.CasEntry.{CasEntry}
use Rattle.norm_lang.specs.declared.text.Instr.{Instr}
use Rattle.norm_lang.specs.declared.text.Text.{Text}
use Rattle.norm_lang.specs.declared.registers.Registers.{Registers}
use Rattle.norm_lang.specs.KindFields.{fields_of}
use Rattle.norm_lang.specs.Kinds.{asks_entry, asks}
use Rattle.norm_lang.specs.Registers.{node_in}
use Rattle.source_machine.specs.declared.state.Value.{Value}
use Rattle.source_machine.specs.declared.state.Value.TheVariants.{Number, Node}
use Rattle.source_machine.specs.declared.state.NamedNode.{NamedNode}
use Rattle.source_machine.specs.declared.state.Memory.{Memory}
use Rattle.source_machine.specs.Memory.{kind_of_node}

-- ---- values

-- null, or the name of a node of a kind
abbrev pub IsNodeOf : List NamedNode → ℕ → ℕ → Type 0
IsNodeOf nodes kind name = (name ≡ 0) ⊎ (kind_of_node name nodes ≡ Some kind)

-- a value of a kind: a number, or a reference to null or to a node of the kind
abbrev pub IsOfKind : List NamedNode → FieldKind → Value → Type 0
IsOfKind nodes holdings.Number (Number n) = Unit {0}
IsOfKind nodes (holdings.Reference k) (Node x) = IsNodeOf nodes k x.node
IsOfKind nodes _ _ = ⊥

-- one value of its kind for each
abbrev pub AreOfKinds : List NamedNode → List FieldKind → List Value → Type 0
AreOfKinds nodes [] [] = Unit {0}
AreOfKinds nodes (kind ∷ kinds) (value ∷ values) = IsOfKind nodes kind value × AreOfKinds nodes kinds values
AreOfKinds nodes _ _ = ⊥

-- a register for values of a kind
abbrev pub IsRegisterFor : FieldKind → Reg → Type 0
IsRegisterFor holdings.Number (Num r) = Unit {0}
IsRegisterFor (holdings.Reference k) (Ref r) = Unit {0}
IsRegisterFor _ _ = ⊥

-- ---- memory

-- what the fields of a kind hold, in their order
abbrev pub field_kinds : Text → ℕ → List FieldKind
field_kinds text kind = map (λ field. field.kind) (fields_of kind text.fields)

abbrev pub root_kinds : Text → List FieldKind
root_kinds text = map (λ root. root.kind) text.roots

-- some of the nodes: each has a value for each field of its kind
abbrev pub AreTypedNodes : Text → List NamedNode → List NamedNode → Type 0
AreTypedNodes text nodes [] = Unit {0}
AreTypedNodes text nodes (node ∷ some) = AreOfKinds nodes (field_kinds text node.kind) node.values × AreTypedNodes text nodes some

-- each root and each field of each node holds a value of its kind, and no node has the name of null
pub record IsTyped (text : Text) (memory : Memory) : Type 0 where
  pub roots : AreOfKinds memory.nodes (root_kinds text) memory.roots
  pub nodes : AreTypedNodes text memory.nodes memory.nodes
  pub null : kind_of_node 0 memory.nodes ≡ None

-- names only come to memory, and keep their kinds
abbrev pub KindsStay : List NamedNode → List NamedNode → Type 0
KindsStay nodes nodes' = (name kind : ℕ) → kind_of_node name nodes ≡ Some kind → kind_of_node name nodes' ≡ Some kind

-- ---- registers

-- each register that an instruction asks to be of a kind names null or a node of the kind
abbrev pub AreAsked : Text → Instr → List NamedNode → Registers → Type 0
AreAsked text i nodes registers = (r k : ℕ) → IsTrue (asks text.fields text.roots i r k) → IsNodeOf nodes k (node_in registers r)

-- and so it is of one exchange
abbrev pub AreAskedBy : Text → CasEntry → List NamedNode → Registers → Type 0
AreAskedBy text entry nodes registers = (r k : ℕ) → IsTrue (asks_entry text.fields text.roots r k entry) → IsNodeOf nodes k (node_in registers r)
