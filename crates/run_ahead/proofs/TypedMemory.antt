-- Accesses of a text in normal form keep memory typed, and what a load finds is of its register's kind.
use Rattle.std.proofs.Common.{◌≡◌, ◌≢◌, ℕ, zero, suc, ◌+◌, ◌<◌, inl, inr, ◌&&◌, ◌||◌, Bool, true, false, List, [], ◌∷◌, map, length, take, drop, set, Option, Some, None, refl, sym, ap, subst, ◌∙◌, arith}
use Rattle.std.specs.Prelude.{slice_get, option_map, unwrap_or, is_some, is_none, if◌then◌else◌, ◌==◌, ◌%◌, nat_le, nat_lt, IsTrue}
use Rattle.std.specs.List.{list_all}
use Rattle.std.proofs.lemmas.Bool.{or_parts, or_left, or_right, and_parts, and_from, leb-true, ltb-true, eq-eqb}
use Rattle.std.proofs.lemmas.Option.{slice_get-map, same_Some}
use Rattle.norm_lang.specs.declared.text.Reg.{Reg}
use Rattle.norm_lang.specs.declared.text.Reg.TheVariants.{Num, Ref}
use Rattle.norm_lang.specs.declared.text.FieldKind.{FieldKind}
use Rattle.norm_lang.specs.declared.text.FieldKind.TheVariants as holdings
use Rattle.norm_lang.specs.declared.text.FieldDecl.{FieldDecl}
use Rattle.norm_lang.specs.declared.text.RootDecl.{RootDecl}
use Rattle.norm_lang.specs.declared.text.Place.{Place}
use Rattle.norm_lang.specs.declared.text.Place.TheVariants as places
use Rattle.norm_lang.specs.declared.text.CasEntry.{CasEntry}
use Rattle.norm_lang.specs.declared.text.Instr.{Instr}
use Rattle.norm_lang.specs.declared.text.Instr.TheVariants as instr
use Rattle.norm_lang.specs.declared.text.Text.{Text}
use Rattle.norm_lang.specs.KindFields.{fields_of, owner_of, place_of}
use Rattle.norm_lang.specs.Kinds.{refers, asks_object}
use Rattle.norm_lang.specs.LineWords.{is_owner}
use Rattle.norm_lang.specs.RegisterUse.{same_register}
use Rattle.norm_lang.proofs.FieldPlaces.{place_finds}
use Rattle.norm_lang.specs.declared.registers.Registers.{Registers}
use Rattle.norm_lang.specs.Registers.{reference_in, number_in, node_in}
use Rattle.norm_lang.specs.Local.{remainder}
use Rattle.norm_lang.specs.InstructionRules.{field_kind, root_kind, place_kind, is_unlike, has_wrong_object, has_wrong_operand, has_wrong_kind, are_roots_of_one_kind, is_of_kind, same_kind}
use Rattle.norm_lang.specs.Grammar.{is_new}
use Rattle.target_laws.proofs.local_laws.Inside.{there_is}
use Rattle.source_machine.specs.declared.state.Value.{Value}
use Rattle.source_machine.specs.declared.state.Value.TheVariants.{Number, Node}
use Rattle.source_machine.specs.declared.state.NamedNode.{NamedNode}
use Rattle.source_machine.specs.declared.state.Memory.{Memory}
use Rattle.source_machine.specs.Memory.{value_in, value_at, same_value, blank_of, blank_field, blank_fields, null_fields, fields_named, kind_of_node, with_field, with_place, found_at, with_name_retired, with_retired, exchange_on, exchange, auxiliary, access_by, loaded}
use Rattle.source_machine.specs.Run.{is_name}
use Rattle.source_machine.proofs.Places.{kinds_set, kind_new_other, kind_is_named}
use Rattle.run_ahead.specs.Typed.{IsNodeOf, IsOfKind, AreOfKinds, IsRegisterFor, field_kinds, root_kinds, AreTypedNodes, IsTyped, KindsStay, AreAsked, AreAskedBy}

-- ---- names keep their kinds

pub node_stays : (nodes nodes' : List NamedNode) (kind name : ℕ) → KindsStay nodes nodes' → IsNodeOf nodes kind name → IsNodeOf nodes' kind name
node_stays nodes nodes' kind name stay (inl null) = inl null
node_stays nodes nodes' kind name stay (inr is) = inr (stay name kind is)

pub of_kind_stays : (nodes nodes' : List NamedNode) (kind : FieldKind) (value : Value) → KindsStay nodes nodes' → IsOfKind nodes kind value → IsOfKind nodes' kind value
of_kind_stays nodes nodes' holdings.Number (Number n) stay right = tt
of_kind_stays nodes nodes' holdings.Number (Node x) stay right = absurd right
of_kind_stays nodes nodes' (holdings.Reference k) (Number n) stay right = absurd right
of_kind_stays nodes nodes' (holdings.Reference k) (Node x) stay right = node_stays nodes nodes' k x.node stay right

pub are_of_kinds_stay : (nodes nodes' : List NamedNode) (kinds : List FieldKind) (values : List Value) → KindsStay nodes nodes' → AreOfKinds nodes kinds values → AreOfKinds nodes' kinds values
are_of_kinds_stay nodes nodes' [] [] stay typed = tt
are_of_kinds_stay nodes nodes' [] (value ∷ values) stay typed = absurd typed
are_of_kinds_stay nodes nodes' (kind ∷ kinds) [] stay typed = absurd typed
are_of_kinds_stay nodes nodes' (kind ∷ kinds) (value ∷ values) stay typed = (of_kind_stays nodes nodes' kind value stay typed.0, are_of_kinds_stay nodes nodes' kinds values stay typed.1)

nodes_stay : (text : Text) (nodes nodes' some : List NamedNode) → KindsStay nodes nodes' → AreTypedNodes text nodes some → AreTypedNodes text nodes' some
nodes_stay text nodes nodes' [] stay typed = tt
nodes_stay text nodes nodes' (node ∷ some) stay typed = (are_of_kinds_stay nodes nodes' (field_kinds text node.kind) node.values stay typed.0, nodes_stay text nodes nodes' some stay typed.1)

-- setting a field changes no kind
pub field_kinds_stay : (k f : ℕ) (value : Value) (nodes : List NamedNode) → KindsStay nodes (with_field k f value nodes)
field_kinds_stay k f value nodes name kind is = kinds_set k name f value nodes ∙ is

-- a node with a new name changes none
pub new_kinds_stay : (text : Text) (name kind : ℕ) (nodes : List NamedNode) → fields_named name nodes ≡ None → KindsStay nodes (record { name = name; kind = kind; values = blank_fields text kind } ∷ nodes)
new_kinds_stay text name kind nodes unused other k is = kind_new_other name kind other (blank_fields text kind) nodes differs ∙ is
  where
    differs : other ≢ name
    differs same =
        let named : is_some (kind_of_node name nodes) ≡ true = ap is_some (ap (λ (n : ℕ). kind_of_node n nodes) (sym same) ∙ is) in
        let none : is_some (kind_of_node name nodes) ≡ false = kind_is_named name nodes ∙ ap is_some unused in
        let no : true ≡ false = sym named ∙ none in
        absurd (let never : true ≡ false = no in cc)

pub place_kinds_stay : (fields : List FieldDecl) (place : Place) (registers : Registers) (value : Value) (memory : Memory) → KindsStay memory.nodes (with_place fields place registers value memory).nodes
place_kinds_stay fields (places.Root x) registers value memory = λ name kind is. is
place_kinds_stay fields (places.Field a f) registers value memory = field_kinds_stay (reference_in registers a).node (place_of fields f) value memory.nodes

-- retiring a name leaves all nodes as they are
pub name_retired_nodes : (name : ℕ) (memory : Memory) → (with_name_retired name memory).nodes ≡ memory.nodes
name_retired_nodes zero memory = refl
name_retired_nodes (suc n) memory = refl

pub retired_nodes : (retire : Option Reg) (registers : Registers) (memory : Memory) → (with_retired retire registers memory).nodes ≡ memory.nodes
retired_nodes None registers memory = refl
retired_nodes (Some r) registers memory = name_retired_nodes (reference_in registers r).node memory

-- ---- lists of values

pub value_of_kind : (nodes : List NamedNode) (kinds : List FieldKind) (values : List Value) (i : ℕ) (kind : FieldKind) → AreOfKinds nodes kinds values → slice_get kinds i ≡ Some kind → IsOfKind nodes kind (value_at values i)
value_of_kind nodes [] values i kind typed is = absurd (let no : None ≡ Some kind = is in cc)
value_of_kind nodes (first ∷ kinds) [] i kind typed is = absurd typed
value_of_kind nodes (first ∷ kinds) (value ∷ values) zero kind typed is = subst (λ k. IsOfKind nodes k value) (same_Some first kind is) typed.0
value_of_kind nodes (first ∷ kinds) (value ∷ values) (suc i) kind typed is = value_of_kind nodes kinds values i kind typed.1 is

pub set_of_kind : (nodes : List NamedNode) (kinds : List FieldKind) (values : List Value) (i : ℕ) (kind : FieldKind) (value : Value) → AreOfKinds nodes kinds values → slice_get kinds i ≡ Some kind → IsOfKind nodes kind value → AreOfKinds nodes kinds (set values i value)
set_of_kind nodes [] [] i kind value typed is right = typed
set_of_kind nodes [] (v ∷ values) i kind value typed is right = absurd typed
set_of_kind nodes (first ∷ kinds) [] i kind value typed is right = absurd typed
set_of_kind nodes (first ∷ kinds) (v ∷ values) zero kind value typed is right = (subst (λ k. IsOfKind nodes k value) (sym (same_Some first kind is)) right, typed.1)
set_of_kind nodes (first ∷ kinds) (v ∷ values) (suc i) kind value typed is right = (typed.0, set_of_kind nodes kinds values i kind value typed.1 is right)

-- there is a value for each kind
pub values_inside : (nodes : List NamedNode) (kinds : List FieldKind) (values : List Value) (i : ℕ) (kind : FieldKind) → AreOfKinds nodes kinds values → slice_get kinds i ≡ Some kind → i < length values
values_inside nodes [] values i kind typed is = absurd (let no : None ≡ Some kind = is in cc)
values_inside nodes (first ∷ kinds) [] i kind typed is = absurd typed
values_inside nodes (first ∷ kinds) (value ∷ values) zero kind typed is = omega arith
values_inside nodes (first ∷ kinds) (value ∷ values) (suc i) kind typed is = let rest = values_inside nodes kinds values i kind typed.1 is in omega (arith, rest)

blank_right : (nodes : List NamedNode) (kind : FieldKind) → IsOfKind nodes kind (blank_of kind)
blank_right nodes holdings.Number = tt
blank_right nodes (holdings.Reference k) = inl refl

pub blank_typed : (nodes : List NamedNode) (fields : List FieldDecl) → AreOfKinds nodes (map (λ field. field.kind) fields) (map blank_field fields)
blank_typed nodes [] = tt
blank_typed nodes (field ∷ fields) = (blank_right nodes field.kind, blank_typed nodes fields)

-- ---- registers

-- what a register is right for
pub register_for : (o : Option FieldKind) (r : Reg) → is_unlike o r ≡ false → (kind : FieldKind) × (o ≡ Some kind) × IsRegisterFor kind r
register_for None r is = absurd (let no : true ≡ false = is in cc)
register_for (Some holdings.Number) (Num r) is = (holdings.Number, refl, tt)
register_for (Some holdings.Number) (Ref r) is = absurd (let no : true ≡ false = is in cc)
register_for (Some (holdings.Reference k)) (Num r) is = absurd (let no : true ≡ false = is in cc)
register_for (Some (holdings.Reference k)) (Ref r) is = (holdings.Reference k, refl, tt)

-- what it holds is of a kind, if it names what is asked
pub value_in_right : (nodes : List NamedNode) (kind : FieldKind) (registers : Registers) (r : Reg) → IsRegisterFor kind r
    → ((d k : ℕ) → IsTrue (same_register (Ref d) r && refers (Some kind) k) → IsNodeOf nodes k (node_in registers d)) → IsOfKind nodes kind (value_in registers r)
value_in_right nodes holdings.Number registers (Num r) right asked = tt
value_in_right nodes holdings.Number registers (Ref r) right asked = absurd right
value_in_right nodes (holdings.Reference k) registers (Num r) right asked = absurd right
value_in_right nodes (holdings.Reference k) registers (Ref r) right asked = asked r k (and_from (r == r) (k == k) (eq-eqb r r refl) (eq-eqb k k refl))

-- so does the object of a field: it names null or a node of the kind that has the field
pub object_right : (text : Text) (f owner : ℕ) (registers : Registers) (a : Reg) (nodes : List NamedNode) → owner_of text.fields f ≡ Some owner
    → ((d k : ℕ) → IsTrue (asks_object text.fields (places.Field a f) d k) → IsNodeOf nodes k (node_in registers d)) → IsNodeOf nodes owner (reference_in registers a).node
object_right text f owner registers (Num r) nodes is asked = inl refl
object_right text f owner registers (Ref r) nodes is asked =
    asked r owner (and_from (r == r) (is_owner (owner_of text.fields f) owner) (eq-eqb r r refl) (ap (λ o. is_owner o owner) is ∙ eq-eqb owner owner refl))

-- where a field that is declared stands among those of its kind
pub field_at : (text : Text) (f : ℕ) (kind : FieldKind) → field_kind text.fields f ≡ Some kind
    → (owner : ℕ) × (owner_of text.fields f ≡ Some owner) × (slice_get (field_kinds text owner) (place_of text.fields f) ≡ Some kind)
field_at text f kind is = by (slice_get text.fields f) refl is
  where
    by : (o : Option FieldDecl) → slice_get text.fields f ≡ o → option_map (λ field. field.kind) o ≡ Some kind
        → (owner : ℕ) × (owner_of text.fields f ≡ Some owner) × (slice_get (field_kinds text owner) (place_of text.fields f) ≡ Some kind)
    by None found held = absurd (let no : None ≡ Some kind = held in cc)
    by (Some field) found held = (
      field.owner,
      ap (option_map (λ (y : FieldDecl). y.owner)) found,
      slice_get-map (λ (y : FieldDecl). y.kind) (fields_of field.owner text.fields) (place_of text.fields f) ∙ (ap (option_map (λ (y : FieldDecl). y.kind)) (place_finds text.fields f field found) ∙ held),
    )

pub root_at : (text : Text) (x : ℕ) (kind : FieldKind) → root_kind text.roots x ≡ Some kind → slice_get (root_kinds text) x ≡ Some kind
root_at text x kind is = slice_get-map (λ root. root.kind) text.roots x ∙ is

-- ---- nodes

-- the kind that a name has, if it names null or a node of a kind
pub one_kind : (nodes : List NamedNode) (owner name kind : ℕ) → kind_of_node 0 nodes ≡ None → IsNodeOf nodes owner name → kind_of_node name nodes ≡ Some kind → kind ≡ owner
one_kind nodes owner name kind null (inl zeroth) is = absurd (let no : None ≡ Some kind = sym null ∙ (ap (λ (n : ℕ). kind_of_node n nodes) (sym zeroth) ∙ is) in cc)
one_kind nodes owner name kind null (inr of) is = same_Some kind owner (sym is ∙ of)

field_set_typed : (text : Text) (all : List NamedNode) (name owner place : ℕ) (kind : FieldKind) (value : Value) (nodes : List NamedNode) → ((k : ℕ) → kind_of_node name nodes ≡ Some k → k ≡ owner)
    → slice_get (field_kinds text owner) place ≡ Some kind → IsOfKind all kind value → AreTypedNodes text all nodes → AreTypedNodes text all (with_field name place value nodes)
field_set_typed text all name owner place kind value [] of is right typed = typed
field_set_typed text all name owner place kind value (node ∷ nodes) of is right typed = by_name (node.name == name) of (λ of'. field_set_typed text all name owner place kind value nodes of' is right typed.1)
  where
    by_name : (b : Bool) → ((k : ℕ) → (if b then Some node.kind else kind_of_node name nodes) ≡ Some k → k ≡ owner) → (((k : ℕ) → kind_of_node name nodes ≡ Some k → k ≡ owner) → AreTypedNodes text all (with_field name place value nodes))
        → AreTypedNodes text all (if b then (record node { values = set node.values place value } ∷ nodes) else (node ∷ with_field name place value nodes))
    by_name true of rest =
        let same : node.kind ≡ owner = of node.kind refl in
        (set_of_kind all (field_kinds text node.kind) node.values place kind value typed.0 (ap (λ (k : ℕ). slice_get (field_kinds text k) place) same ∙ is) right, typed.1)
    by_name false of rest = (typed.0, rest of)

-- the values of a node's fields are of the kinds that the fields of its kind hold
named_typed : (text : Text) (all : List NamedNode) (name owner : ℕ) (nodes : List NamedNode) (values : List Value) → ((k : ℕ) → kind_of_node name nodes ≡ Some k → k ≡ owner) → AreTypedNodes text all nodes
    → fields_named name nodes ≡ Some values → AreOfKinds all (field_kinds text owner) values
named_typed text all name owner [] values of typed is = absurd (let no : None ≡ Some values = is in cc)
named_typed text all name owner (node ∷ nodes) values of typed is = by_name (node.name == name) of is (λ of' is'. named_typed text all name owner nodes values of' typed.1 is')
  where
    by_name : (b : Bool) → ((k : ℕ) → (if b then Some node.kind else kind_of_node name nodes) ≡ Some k → k ≡ owner) → (if b then Some node.values else fields_named name nodes) ≡ Some values
        → (((k : ℕ) → kind_of_node name nodes ≡ Some k → k ≡ owner) → fields_named name nodes ≡ Some values → AreOfKinds all (field_kinds text owner) values) → AreOfKinds all (field_kinds text owner) values
    by_name true of is rest =
        subst (AreOfKinds all (field_kinds text owner)) (same_Some node.values values is) (subst (λ (k : ℕ). AreOfKinds all (field_kinds text k) node.values) (of node.kind refl) typed.0)
    by_name false of is rest = rest of is

pub values_typed : (text : Text) (owner name : ℕ) (values : List Value) (memory : Memory) → IsTyped text memory → IsNodeOf memory.nodes owner name → fields_named name memory.nodes ≡ Some values
    → AreOfKinds memory.nodes (field_kinds text owner) values
values_typed text owner name values memory typed of is = named_typed text memory.nodes name owner memory.nodes values (λ k. one_kind memory.nodes owner name k typed.null of) typed.nodes is

-- the fields that a load finds through a reference, or blank ones
pub behind_typed : (text : Text) (owner name : ℕ) (memory : Memory) → IsTyped text memory → IsNodeOf memory.nodes owner name
    → AreOfKinds memory.nodes (field_kinds text owner) (unwrap_or (fields_named name memory.nodes) (blank_fields text owner))
behind_typed text owner name memory typed of = by (fields_named name memory.nodes) refl
  where
    by : (o : Option (List Value)) → fields_named name memory.nodes ≡ o → AreOfKinds memory.nodes (field_kinds text owner) (unwrap_or o (blank_fields text owner))
    by None is = blank_typed memory.nodes (fields_of owner text.fields)
    by (Some values) is = values_typed text owner name values memory typed of is

-- a field's place is one of the values of a node of its kind
pub place_inside : (text : Text) (f : ℕ) (kind : FieldKind) (owner name : ℕ) (values : List Value) (memory : Memory) → IsTyped text memory → owner_of text.fields f ≡ Some owner → IsNodeOf memory.nodes owner name
    → fields_named name memory.nodes ≡ Some values → field_kind text.fields f ≡ Some kind → place_of text.fields f < length values
place_inside text f kind owner name values memory typed owned of found is =
    let at = field_at text f kind is in
    let same : at.0 ≡ owner = same_Some at.0 owner (sym at.1 ∙ owned) in
    values_inside memory.nodes (field_kinds text owner) values (place_of text.fields f) kind (values_typed text owner name values memory typed of found)
    (subst (λ (k : ℕ). slice_get (field_kinds text k) (place_of text.fields f) ≡ Some kind) same at.2)

-- ---- exchanges, puts and new nodes

-- a field is set to a value of its kind, of null or of a node that has the field
field_put_typed : (text : Text) (name f owner : ℕ) (kind : FieldKind) (value : Value) (memory : Memory) → slice_get (field_kinds text owner) (place_of text.fields f) ≡ Some kind → IsNodeOf memory.nodes owner name
    → IsOfKind memory.nodes kind value → IsTyped text memory → IsTyped text (record memory { nodes = with_field name (place_of text.fields f) value memory.nodes })
field_put_typed text name f owner kind value memory is of right typed =
    let nodes' = with_field name (place_of text.fields f) value memory.nodes in
    let stay : KindsStay memory.nodes nodes' = field_kinds_stay name (place_of text.fields f) value memory.nodes in
    record {
      roots = are_of_kinds_stay memory.nodes nodes' (root_kinds text) memory.roots stay typed.roots;
      nodes = field_set_typed text nodes' name owner (place_of text.fields f) kind value memory.nodes (λ k. one_kind memory.nodes owner name k typed.null of) is
          (of_kind_stays memory.nodes nodes' kind value stay right) (nodes_stay text memory.nodes nodes' memory.nodes stay typed.nodes);
      null = kinds_set name 0 (place_of text.fields f) value memory.nodes ∙ typed.null;
    }

place_typed : (text : Text) (place : Place) (registers : Registers) (value : Value) (memory : Memory) (kind : FieldKind) → place_kind text.fields text.roots place ≡ Some kind
    → ((d k : ℕ) → IsTrue (asks_object text.fields place d k) → IsNodeOf memory.nodes k (node_in registers d)) → IsOfKind memory.nodes kind value → IsTyped text memory → IsTyped text (with_place text.fields place registers value memory)
place_typed text (places.Root x) registers value memory kind is asked right typed =
    record { roots = set_of_kind memory.nodes (root_kinds text) memory.roots x kind value typed.roots (root_at text x kind is) right; nodes = typed.nodes; null = typed.null }
place_typed text (places.Field a f) registers value memory kind is asked right typed =
    let at = field_at text f kind is in
    field_put_typed text (reference_in registers a).node f at.0 kind value memory at.2 (object_right text f at.0 registers a memory.nodes at.1 asked) right typed

name_retired_typed : (text : Text) (name : ℕ) (memory : Memory) → IsTyped text memory → IsTyped text (with_name_retired name memory)
name_retired_typed text zero memory typed = typed
name_retired_typed text (suc n) memory typed = record { roots = typed.roots; nodes = typed.nodes; null = typed.null }

retired_typed : (text : Text) (retire : Option Reg) (registers : Registers) (memory : Memory) → IsTyped text memory → IsTyped text (with_retired retire registers memory)
retired_typed text None registers memory typed = typed
retired_typed text (Some r) registers memory typed = name_retired_typed text (reference_in registers r).node memory typed

-- what an exchange puts in is right for its place
replacement_right : (text : Text) (entry : CasEntry) (registers : Registers) (nodes : List NamedNode) (kind : FieldKind) → place_kind text.fields text.roots entry.place ≡ Some kind → IsRegisterFor kind entry.replacement
    → AreAskedBy text entry nodes registers → IsOfKind nodes kind (value_in registers entry.replacement)
replacement_right text entry registers nodes kind is right asked = value_in_right nodes kind registers entry.replacement right by
  where
    by : (d k : ℕ) → IsTrue (same_register (Ref d) entry.replacement && refers (Some kind) k) → IsNodeOf nodes k (node_in registers d)
    by d k both =
        let parts = and_parts (same_register (Ref d) entry.replacement) (refers (Some kind) k) both in
        asked d k (or_right (asks_object text.fields entry.place d k) _
        (and_from (same_register (Ref d) entry.expected || same_register (Ref d) entry.replacement) (refers (place_kind text.fields text.roots entry.place) k)
        (or_right (same_register (Ref d) entry.expected) (same_register (Ref d) entry.replacement) parts.0) (ap (λ o. refers o k) is ∙ parts.1)))

-- an exchange whose operands are of the right kinds (N1), and name what it asks (N15)
pub exchange_typed : (text : Text) (entry : CasEntry) (registers : Registers) (memory after : Memory) → has_wrong_operand text.fields text.roots entry ≡ false → AreAskedBy text entry memory.nodes registers
    → exchange text.fields entry registers memory ≡ Some after → IsTyped text memory → IsTyped text after
exchange_typed text entry registers memory after right asked makes typed = by_found (found_at text.fields entry.place registers memory) makes
  where
    replacement : is_unlike (place_kind text.fields text.roots entry.place) entry.replacement ≡ false
    replacement = (or_parts (is_unlike (place_kind text.fields text.roots entry.place) entry.expected) _ (or_parts (has_wrong_object entry.place) _ right).1).1

    new_typed : IsTyped text (with_retired entry.retire registers (with_place text.fields entry.place registers (value_in registers entry.replacement) memory))
    new_typed =
        let kind = register_for (place_kind text.fields text.roots entry.place) entry.replacement replacement in
        retired_typed text entry.retire registers _ (place_typed text entry.place registers (value_in registers entry.replacement) memory kind.0 kind.1
        (λ d k is. asked d k (or_left (asks_object text.fields entry.place d k) _ is))
        (replacement_right text entry registers memory.nodes kind.0 kind.1 kind.2 asked) typed)

    by_test : (b : Bool) → (if b then Some (with_retired entry.retire registers (with_place text.fields entry.place registers (value_in registers entry.replacement) memory)) else None) ≡ Some after → IsTyped text after
    by_test true is = subst (IsTyped text) (same_Some _ after is) new_typed
    by_test false is = absurd (let no : None ≡ Some after = is in cc)

    by_found : (o : Option Value) → exchange_on text.fields o entry registers memory ≡ Some after → IsTyped text after
    by_found None is = absurd (let no : None ≡ Some after = is in cc)
    by_found (Some found) is = by_test (same_value found (value_in registers entry.expected)) is

pub exchange_kinds_stay : (fields : List FieldDecl) (entry : CasEntry) (registers : Registers) (memory after : Memory) → exchange fields entry registers memory ≡ Some after → KindsStay memory.nodes after.nodes
exchange_kinds_stay fields entry registers memory after makes = by_found (found_at fields entry.place registers memory) makes
  where
    by_test : (b : Bool) → (if b then Some (with_retired entry.retire registers (with_place fields entry.place registers (value_in registers entry.replacement) memory)) else None) ≡ Some after → KindsStay memory.nodes after.nodes
    by_test true is =
        let placed = with_place fields entry.place registers (value_in registers entry.replacement) memory in
        let same : placed.nodes ≡ after.nodes = sym (retired_nodes entry.retire registers placed) ∙ ap (λ (m : Memory). m.nodes) (same_Some (with_retired entry.retire registers placed) after is) in
        subst (KindsStay memory.nodes) same (place_kinds_stay fields entry.place registers (value_in registers entry.replacement) memory)
    by_test false is = absurd (let no : None ≡ Some after = is in cc)

    by_found : (o : Option Value) → exchange_on fields o entry registers memory ≡ Some after → KindsStay memory.nodes after.nodes
    by_found None is = absurd (let no : None ≡ Some after = is in cc)
    by_found (Some found) is = by_test (same_value found (value_in registers entry.expected)) is

pub put_typed : (text : Text) (name at : ℕ) (a b : Reg) (f : ℕ) (registers : Registers) (memory : Memory) → has_wrong_kind text.fields text.roots (instr.Put a f b) ≡ false → AreAsked text (instr.Put a f b) memory.nodes registers → IsTyped text memory
    → IsTyped text (access_by text name (instr.Put a f b) at registers memory).memory
put_typed text name at a b f registers memory right asked typed =
    let kind = register_for (field_kind text.fields f) b (or_parts _ _ right).1 in
    let at = field_at text f kind.0 kind.1 in
    field_put_typed text (reference_in registers a).node f at.0 kind.0 (value_in registers b) memory at.2
    (object_right text f at.0 registers a memory.nodes at.1 (λ d k is. asked d k (or_left (asks_object text.fields (places.Field a f) d k) _ is)))
    (value_in_right memory.nodes kind.0 registers b kind.2
    (λ d k both. let parts = and_parts (same_register (Ref d) b) (refers (Some kind.0) k) both in
    asked d k (or_right (asks_object text.fields (places.Field a f) d k) _ (and_from (same_register (Ref d) b) (refers (field_kind text.fields f) k) parts.0 (ap (λ o. refers o k) kind.1 ∙ parts.1)))))
    typed

-- a name that isn't in use
pub unused_name : (name : ℕ) (nodes : List NamedNode) → IsTrue (is_name true name nodes) → (0 < name) × (fields_named name nodes ≡ None)
unused_name name nodes is =
    let parts = and_parts (nat_lt 0 name) (is_none (fields_named name nodes)) is in
    (ltb-true 0 name parts.0, none_is (fields_named name nodes) parts.1)
  where
    none_is : (o : Option (List Value)) → is_none o ≡ true → o ≡ None
    none_is None e = refl
    none_is (Some values) e = absurd (let no : false ≡ true = e in cc)

pub new_typed : (text : Text) (name at : ℕ) (d : Reg) (kind : ℕ) (registers : Registers) (memory : Memory) → IsTrue (is_name true name memory.nodes) → IsTyped text memory
    → IsTyped text (access_by text name (instr.New d kind) at registers memory).memory
new_typed text name at d kind registers memory named typed =
    let unused = unused_name name memory.nodes named in
    let nodes' : List NamedNode = record { name = name; kind = kind; values = blank_fields text kind } ∷ memory.nodes in
    let stay : KindsStay memory.nodes nodes' = new_kinds_stay text name kind memory.nodes unused.1 in
    record {
      roots = are_of_kinds_stay memory.nodes nodes' (root_kinds text) memory.roots stay typed.roots;
      nodes = (blank_typed nodes' (fields_of kind text.fields), nodes_stay text memory.nodes nodes' memory.nodes stay typed.nodes);
      null = kind_new_other name kind 0 (blank_fields text kind) memory.nodes (λ (same : 0 ≡ name). let some = unused.0 in let no : ⊥ = omega (arith, same, some) in no) ∙ typed.null;
    }

-- no access takes a name or its kind away
pub access_kinds_stay : (text : Text) (name : ℕ) (i : Instr) (at : ℕ) (registers : Registers) (memory : Memory) → IsTrue (is_name (is_new i) name memory.nodes)
    → KindsStay memory.nodes (access_by text name i at registers memory).memory.nodes
access_kinds_stay text name (instr.New d kind) at registers memory named = new_kinds_stay text name kind memory.nodes (unused_name name memory.nodes named).1
access_kinds_stay text name (instr.Put a f b) at registers memory named = field_kinds_stay (reference_in registers a).node (place_of text.fields f) (value_in registers b) memory.nodes
access_kinds_stay text name (instr.Cas entry l) at registers memory named = by (exchange text.fields entry registers memory) refl
  where
    by : (o : Option Memory) → exchange text.fields entry registers memory ≡ o → KindsStay memory.nodes (auxiliary o memory at l registers).memory.nodes
    by None is = λ n k e. e
    by (Some after) is = exchange_kinds_stay text.fields entry registers memory after is
access_kinds_stay text name _ at registers memory named = λ n k e. e

-- ---- loads, of one of several roots too

abbrev pub FindsFor : List NamedNode → Option FieldKind → Reg → Value → Type 0
FindsFor nodes o d value = (kind : FieldKind) × (o ≡ Some kind) × IsRegisterFor kind d × IsOfKind nodes kind value

pub root_finds : (text : Text) (d : Reg) (x : ℕ) (registers : Registers) (memory : Memory) → has_wrong_kind text.fields text.roots (instr.LoadRoot d x) ≡ false → IsTyped text memory
    → FindsFor memory.nodes (root_kind text.roots x) d (loaded text (instr.LoadRoot d x) registers memory)
root_finds text d x registers memory right typed =
    let kind = register_for (root_kind text.roots x) d right in
    (kind.0, kind.1, kind.2, value_of_kind memory.nodes (root_kinds text) memory.roots x kind.0 typed.roots (root_at text x kind.0 kind.1))

pub field_finds : (text : Text) (d a : Reg) (f : ℕ) (registers : Registers) (memory : Memory) → has_wrong_kind text.fields text.roots (instr.LoadField d a f) ≡ false → AreAsked text (instr.LoadField d a f) memory.nodes registers
    → IsTyped text memory → FindsFor memory.nodes (field_kind text.fields f) d (loaded text (instr.LoadField d a f) registers memory)
field_finds text d a f registers memory right asked typed =
    let kind = register_for (field_kind text.fields f) d (or_parts _ _ right).1 in
    let at = field_at text f kind.0 kind.1 in
    let of = object_right text f at.0 registers a memory.nodes at.1 asked in
    let name = (reference_in registers a).node in
    let found = value_of_kind memory.nodes (field_kinds text at.0) (unwrap_or (fields_named name memory.nodes) (blank_fields text at.0)) (place_of text.fields f) kind.0 (behind_typed text at.0 name memory typed of) at.2 in
    (kind.0, kind.1, kind.2, subst (λ (o : Option ℕ). IsOfKind memory.nodes kind.0 (value_at (unwrap_or (fields_named name memory.nodes) (null_fields text o)) (place_of text.fields f))) (sym at.1) found)

pub slice_drop : {X : Type 0} (xs : List X) (x j : ℕ) → slice_get xs (x + j) ≡ slice_get (drop x xs) j
slice_drop xs zero j = let same : zero + j ≡ j = omega arith in ap (slice_get xs) same
slice_drop [] (suc x) j = refl
slice_drop (y ∷ xs) (suc x) j = let next : suc x + j ≡ suc (x + j) = omega arith in ap (slice_get (y ∷ xs)) next ∙ slice_drop xs x j

all_taken : {X : Type 0} (test : X → Bool) (xs : List X) (n j : ℕ) (x : X) → list_all test (take n xs) ≡ true → j < n → slice_get xs j ≡ Some x → test x ≡ true
all_taken test xs zero j x all lt is = let no : ⊥ = omega (arith, lt) in absurd no
all_taken test [] (suc n) j x all lt is = absurd (let no : None ≡ Some x = is in cc)
all_taken test (y ∷ xs) (suc n) zero x all lt is = ap test (sym (same_Some y x is)) ∙ (and_parts _ _ all).0
all_taken test (y ∷ xs) (suc n) (suc j) x all lt is = let less : j < n = omega (arith, lt) in all_taken test xs n j x (and_parts _ _ all).1 less is

-- a register for one of two kinds of numbers, or of two kinds of references, is one for the other
same_register_for : (one other : FieldKind) (d : Reg) → same_kind one other ≡ true → IsRegisterFor one d → IsRegisterFor other d
same_register_for holdings.Number holdings.Number d is right = right
same_register_for (holdings.Reference k) (holdings.Reference t) (Ref d) is right = tt
same_register_for (holdings.Reference k) (holdings.Reference t) (Num d) is right = absurd right
same_register_for holdings.Number (holdings.Reference t) d is right = absurd (let no : false ≡ true = is in cc)
same_register_for (holdings.Reference k) holdings.Number d is right = absurd (let no : false ≡ true = is in cc)

same_as_itself : (kind : FieldKind) → same_kind kind kind ≡ true
same_as_itself holdings.Number = refl
same_as_itself (holdings.Reference k) = refl

-- a root that holds what the first one's kind says: a number, or a reference
abbrev IsRootLike : List RootDecl → ℕ → FieldKind → Type 0
IsRootLike roots x kind = (other : FieldKind) × (root_kind roots x ≡ Some other) × (same_kind kind other ≡ true)

root_of_several : (roots : List RootDecl) (x n j : ℕ) (kind : FieldKind) → are_roots_of_one_kind roots x n ≡ true → root_kind roots x ≡ Some kind → j < n → IsRootLike roots (x + j) kind
root_of_several roots x n j kind one is lt =
    let parts = and_parts (nat_le (x + n) (length roots)) (list_all (is_of_kind (root_kind roots x)) (take n (drop x roots))) one in
    let within : x + j < length roots = (let le = leb-true (x + n) (length roots) parts.0 in omega (arith, le, lt)) in
    let found = there_is roots (x + j) within in
    let passes : is_of_kind (root_kind roots x) found.0 ≡ true = all_taken (is_of_kind (root_kind roots x)) (drop x roots) n j found.0 parts.1 lt (sym (slice_drop roots x j) ∙ found.1) in
    (found.0.kind, ap (option_map (λ root. root.kind)) found.1, ap (λ o. is_of_kind o found.0) (sym is) ∙ passes)

pub pick_finds : (text : Text) (d : Reg) (x count : ℕ) (a : Reg) (registers : Registers) (memory : Memory) → has_wrong_kind text.fields text.roots (instr.LoadPick d x count a) ≡ false
    → are_roots_of_one_kind text.roots x count ≡ true → IsTyped text memory
    → FindsFor memory.nodes (root_kind text.roots (x + remainder (number_in registers a) count)) d (loaded text (instr.LoadPick d x count a) registers memory)
pick_finds text d x count a registers memory right one typed =
    let kind = register_for (root_kind text.roots x) d right in
    let root = picked count one kind.0 kind.1 in
    let place = x + remainder (number_in registers a) count in
    (root.0, root.1, same_register_for kind.0 root.0 d root.2 kind.2, value_of_kind memory.nodes (root_kinds text) memory.roots place root.0 typed.roots (root_at text place root.0 root.1))
  where
    picked : (n : ℕ) → are_roots_of_one_kind text.roots x n ≡ true → (kind : FieldKind) → root_kind text.roots x ≡ Some kind → IsRootLike text.roots (x + remainder (number_in registers a) n) kind
    picked zero one kind is = let same : x + 0 ≡ x = omega arith in (kind, ap (root_kind text.roots) same ∙ is, same_as_itself kind)
    picked (suc n) one kind is = let lt : number_in registers a % suc n < suc n = omega arith in root_of_several text.roots x (suc n) (number_in registers a % suc n) kind one is lt
