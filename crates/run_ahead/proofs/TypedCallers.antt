-- Registers stay typed along a method of a text in normal form: by local code, by accesses, over a commit.
use Rattle.std.proofs.Common.{◌≡◌, ℕ, zero, suc, ◌+◌, ◌<◌, ◌⊎◌, inl, inr, ⊎_elim, ◌&&◌, ◌||◌, Bool, true, false, List, [], ◌∷◌, length, take, drop, Option, Some, None, refl, sym, ap, subst, ◌∙◌, arith}
use Rattle.std.specs.Prelude.{slice_get, option_map, unwrap_or, ◌==◌, nat_le, nat_lt, IsTrue}
use Rattle.std.specs.List.{list_any}
use Rattle.std.proofs.lemmas.Bool.{and_parts, or_left, or_right, eq-eqb, leb-true, not-false}
use Rattle.std.proofs.lemmas.Option.{same_Some}
use Rattle.norm_lang.specs.declared.text.Reg.{Reg}
use Rattle.norm_lang.specs.declared.text.Reg.TheVariants.{Num, Ref}
use Rattle.norm_lang.specs.declared.text.FieldKind.{FieldKind}
use Rattle.norm_lang.specs.declared.text.FieldKind.TheVariants as holdings
use Rattle.norm_lang.specs.declared.text.RootDecl.{RootDecl}
use Rattle.norm_lang.specs.declared.text.CasEntry.{CasEntry}
use Rattle.norm_lang.specs.declared.text.Instr.{Instr}
use Rattle.norm_lang.specs.declared.text.Instr.TheVariants as instr
use Rattle.norm_lang.specs.declared.text.Op.{Op}
use Rattle.norm_lang.specs.declared.text.Text.{Text}
use Rattle.norm_lang.specs.declared.registers.Registers.{Registers}
use Rattle.norm_lang.specs.Flow.{goes_to}
use Rattle.norm_lang.specs.Grammar.{is_new}
use Rattle.norm_lang.specs.InstructionRules.{field_kind, root_kind, are_roots_of_one_kind}
use Rattle.norm_lang.specs.Kept.{code_of}
use Rattle.norm_lang.specs.Kinds.{refers, root_refers, none_held, given_kinds, asks_entry}
use Rattle.norm_lang.specs.Bounds.{most_picked}
use Rattle.norm_lang.specs.Limits.{is_register, is_instr, IsWithinLimits}
use Rattle.norm_lang.specs.Local.{Spot, remainder, local_at, local_run, go_on}
use Rattle.norm_lang.specs.NormalForm.{IsNormal}
use Rattle.norm_lang.specs.Registers.{no_reference, first_registers, number_in, with_reference, with_count, node_in}
use Rattle.norm_lang.specs.RegisterUse.{is_register_named, destination}
use Rattle.target_laws.specs.local_laws.Settling.{next_spot}
use Rattle.target_laws.proofs.local_laws.Settled.{next_goes}
use Rattle.source_machine.specs.declared.state.Value.{Value}
use Rattle.source_machine.specs.declared.state.Value.TheVariants.{Number, Node}
use Rattle.source_machine.specs.declared.state.NamedNode.{NamedNode}
use Rattle.source_machine.specs.declared.state.Memory.{Memory}
use Rattle.source_machine.specs.Memory.{kind_of_node, blank_fields, with_value, loaded, exchange, Reached, auxiliary, access_by, access_at}
use Rattle.source_machine.specs.Run.{is_new_at, is_name}
use Rattle.source_machine.proofs.Places.{kind_new}
use Rattle.target_code.specs.declared.target.TargetInstr.TheVariants.{Plain}
use Rattle.target_code.specs.declared.target.TargetOp.{TargetOp}
use Rattle.kind_laws.specs.TargetKinds.{MayHaveInTarget}
use Rattle.kind_laws.proofs.Closed.{kept_kind}
use Rattle.kind_laws.proofs.InText.{asked_kinds_are_named}
use Rattle.kind_laws.proofs.Typed.{local_code_keeps, loads_keep, new_nodes_keep, commits_carry, restarts_keep}
use Rattle.target_code.specs.Bare.{bare_op, bare}
use Rattle.run_ahead.specs.Typed.{IsNodeOf, IsOfKind, IsRegisterFor, IsTyped, KindsStay, AreAsked, AreAskedBy}
use Rattle.run_ahead.specs.TypedCallers.{HasKinds, AreTypedAmong, StandsTyped}
use Rattle.bare_targets.proofs.Erasing.{bare_erases}
use Rattle.run_ahead.proofs.Bare.{method_of, bare_at, bare_goes, kind_at, range_at, limits_at}
use Rattle.run_ahead.proofs.TypedMemory.{FindsFor, root_finds, field_finds, pick_finds, slice_drop, put_typed, new_typed, exchange_typed, exchange_kinds_stay, access_kinds_stay}

-- ---- names that come change nothing

pub among_stays : (nodes nodes' : List NamedNode) (text : Text) (op : TargetOp) (wrapup : Bool) (at : ℕ) (registers : Registers) → KindsStay nodes nodes'
    → AreTypedAmong nodes text.fields text.roots op wrapup at registers → AreTypedAmong nodes' text.fields text.roots op wrapup at registers
among_stays nodes nodes' text op wrapup at registers stay typed kind_of has = typed kind_of (λ name kind is. has name kind (stay name kind is))

pub stands_stay : (text : Text) (op : Op) (wrapup : Bool) (at : ℕ) (nodes nodes' : List NamedNode) (registers : Registers) → KindsStay nodes nodes' → StandsTyped text op wrapup at nodes registers → StandsTyped text op wrapup at nodes' registers
stands_stay text op wrapup at nodes nodes' registers stay stands =
    record { path = stands.path; leads = stands.leads; typed = among_stays nodes nodes' text (bare_op op) wrapup at registers stay stands.typed }

-- ---- the kinds that are asked

one_passes : {X : Type 0} (test : X → Bool) (xs : List X) (k : ℕ) (x : X) → slice_get xs k ≡ Some x → test x ≡ true → list_any test xs ≡ true
one_passes test [] k x is passes = absurd (let never : None ≡ Some x = is in cc)
one_passes test (y ∷ xs) zero x is passes = or_left (test y) (list_any test xs) (ap test (same_Some y x is) ∙ passes)
one_passes test (y ∷ xs) (suc k) x is passes = or_right (test y) (list_any test xs) (one_passes test xs k x is passes)

-- a kind for each name, another number for those of no node
abbrev kind_or : List NamedNode → ℕ → ℕ → ℕ
kind_or nodes other name = unwrap_or (kind_of_node name nodes) other

has_own : (nodes : List NamedNode) (other : ℕ) → HasKinds nodes (kind_or nodes other)
has_own nodes other name kind is = ap (λ (o : Option ℕ). unwrap_or o other) is

-- a name that would be of the kind whatever kind it is given is that of a node
node_of : (nodes : List NamedNode) (name k : ℕ) → ((kind_of : ℕ → ℕ) → HasKinds nodes kind_of → (name ≡ 0) ⊎ (kind_of name ≡ k)) → IsNodeOf nodes k name
node_of nodes name k right = by (kind_of_node name nodes) refl
  where
    by : (o : Option ℕ) → kind_of_node name nodes ≡ o → IsNodeOf nodes k name
    by (Some kind) is = ⊎_elim
        (λ (null : name ≡ 0). inl null)
        (λ (same : kind_or nodes 0 name ≡ k). inr (is ∙ ap Some (sym (has_own nodes 0 name kind is) ∙ same)))
        (right (kind_or nodes 0) (has_own nodes 0))
    by None is = ⊎_elim
        (λ (null : name ≡ 0). inl null)
        (λ (same : kind_or nodes (k + 1) name ≡ k).
        let next : k + 1 ≡ k = sym (ap (λ (o : Option ℕ). unwrap_or o (k + 1)) is) ∙ same in
        let no : ⊥ = omega (arith, next) in absurd no)
        (right (kind_or nodes (k + 1)) (has_own nodes (k + 1)))

-- if registers are typed, each that an instruction asks to be of a kind names null or a node of the kind (N15)
pub stands_asked : (text : Text) → IsNormal text → (number : ℕ) (op : Op) (wrapup : Bool) → slice_get text.ops number ≡ Some op → (at : ℕ) (i : Instr) (nodes : List NamedNode) (registers : Registers) → slice_get (code_of op wrapup) at ≡ Some i
    → StandsTyped text op wrapup at nodes registers → AreAsked text i nodes registers
stands_asked text normal number op wrapup is at i nodes registers there stands r k asked = node_of nodes (node_in registers r) k
    (λ kind_of has. asked_kinds_are_named kind_of (bare text) text normal (bare_erases text normal) (method_of text number op wrapup is) at i registers r k (bare_at op wrapup at i there) asked (stands.typed kind_of has))

-- what a commit asks of registers each of its exchanges does
pub list_asked : (text : Text) → IsNormal text → (number : ℕ) (op : Op) → slice_get text.ops number ≡ Some op → (nodes : List NamedNode) (at : ℕ) (entries : List CasEntry) (registers : Registers) → slice_get op.generator at ≡ Some (instr.Commit entries)
    → StandsTyped text op false at nodes registers → (k : ℕ) (entry : CasEntry) → slice_get entries k ≡ Some entry → AreAskedBy text entry nodes registers
list_asked text normal number op is nodes at entries registers commits stands k entry there r kind asked =
    stands_asked text normal number op false is at (instr.Commit entries) nodes registers commits stands r kind (one_passes (asks_entry text.fields text.roots r kind) entries k entry there asked)

-- ---- a method

-- what an instruction gives the register that it sets is what it found
abbrev Gives : Text → Instr → Option FieldKind → Type 0
Gives text i o = (t : ℕ) → refers o t ≡ true → given_kinds text.fields text.roots i none_held t ≡ true

-- a root among several that an instruction picks from
taken_refers : (roots : List RootDecl) (n j t : ℕ) → j < n → refers (root_kind roots j) t ≡ true → list_any (root_refers t) (take n roots) ≡ true
taken_refers roots zero j t lt is = let no : ⊥ = omega (arith, lt) in absurd no
taken_refers [] (suc n) j t lt is = absurd (let no : false ≡ true = is in cc)
taken_refers (root ∷ roots) (suc n) zero t lt is = or_left (root_refers t root) (list_any (root_refers t) (take n roots)) is
taken_refers (root ∷ roots) (suc n) (suc j) t lt is =
    let less : j < n = omega (arith, lt) in or_right (root_refers t root) (list_any (root_refers t) (take n roots)) (taken_refers roots n j t less is)

next_place : (at : ℕ) → (((at + 1) == (at + 1)) || false) ≡ true
next_place at = or_left ((at + 1) == (at + 1)) false (eq-eqb (at + 1) (at + 1) refl)

first_place : (at l : ℕ) → (((at + 1) == (at + 1)) || ((l == (at + 1)) || false)) ≡ true
first_place at l = or_left ((at + 1) == (at + 1)) ((l == (at + 1)) || false) (eq-eqb (at + 1) (at + 1) refl)

other_place : (at l : ℕ) → (((at + 1) == l) || ((l == l) || false)) ≡ true
other_place at l = or_right ((at + 1) == l) ((l == l) || false) (or_left (l == l) false (eq-eqb l l refl))

-- what the limits say of a pick: it picks from one root at least
some_picked : (kinds fields roots : ℕ) (d : Reg) (x n : ℕ) (a : Reg) → is_instr kinds fields roots (instr.LoadPick d x n a) ≡ true → 0 < n
some_picked kinds fields roots d x n a right =
    let count = nat_le 1 n && nat_le n most_picked in
    let later = (and_parts (is_register d) (nat_lt x roots && (count && is_register a)) right).1 in
    let counts = (and_parts count (is_register a) (and_parts (nat_lt x roots) (count && is_register a) later).1).0 in
    let least = leb-true 1 n (and_parts (nat_le 1 n) (nat_le n most_picked) counts).0 in
    omega (arith, least)

-- memory and registers stay typed over an access
pub record Comes (text : Text) (op : Op) (wrapup : Bool) (nodes : List NamedNode) (reached : Reached) : Type 0 where
  pub typed : IsTyped text reached.memory
  pub stay : KindsStay nodes reached.memory.nodes
  pub stands : StandsTyped text op wrapup reached.spot.at reached.memory.nodes reached.spot.registers

module _ (text : Text) (normal : IsNormal text) (within : IsWithinLimits text) (number : ℕ) (op : Op) (is : slice_get text.ops number ≡ Some op) (wrapup : Bool) where
  -- the path goes on
  onward : (at to : ℕ) (i : Instr) (nodes nodes' : List NamedNode) (registers registers' : Registers) → slice_get (code_of op wrapup) at ≡ Some i → IsTrue (goes_to i at to) → StandsTyped text op wrapup at nodes registers
      → AreTypedAmong nodes' text.fields text.roots (bare_op op) wrapup to registers' → StandsTyped text op wrapup to nodes' registers'
  onward at to i nodes nodes' registers registers' there goes stands typed = record {
    path = at ∷ stands.path;
    leads = (bare_goes text normal number op wrapup is at to i there goes, stands.leads);
    typed = typed;
  }

  -- an instruction that sets no register
  unset_stands : (at to : ℕ) (i : Instr) (nodes : List NamedNode) (registers : Registers) → slice_get (code_of op wrapup) at ≡ Some i → IsTrue (goes_to i at to) → destination i ≡ None
      → StandsTyped text op wrapup at nodes registers → StandsTyped text op wrapup to nodes registers
  unset_stands at to i nodes registers there goes none stands = onward at to i nodes nodes registers registers there goes stands
      (λ kind_of has r. ⊎_elim
      (λ (null : node_in registers r ≡ 0). inl null)
      (λ (may : MayHaveInTarget text.fields text.roots (bare_op op) wrapup r at (kind_of (node_in registers r))).
      inr (kept_kind text.fields text.roots (bare_op op) wrapup r at to (kind_of (node_in registers r)) (Plain i) (bare_at op wrapup at i there) (bare_goes text normal number op wrapup is at to i there goes)
      (ap (is_register_named (Ref r)) none) may))
      (stands.typed kind_of has r))

  -- ---- local code

  next_stands : (here next : Spot) (nodes : List NamedNode) → next_spot (code_of op wrapup) here ≡ Some next → StandsTyped text op wrapup here.at nodes here.registers → StandsTyped text op wrapup next.at nodes next.registers
  next_stands here next nodes steps stands = by (slice_get (code_of op wrapup) here.at) refl steps
    where
      by : (o : Option Instr) → slice_get (code_of op wrapup) here.at ≡ o → local_at o here.at here.registers ≡ Some next → StandsTyped text op wrapup next.at nodes next.registers
      by None there step = absurd (let no : None ≡ Some next = step in cc)
      by (Some i) there step =
          let goes = (next_goes (Some i) here.at here.registers next step).0 in
          onward here.at next.at i nodes nodes here.registers next.registers there goes stands
          (λ kind_of has. local_code_keeps kind_of text.fields text.roots (bare_op op) wrapup here.at here.registers i here.at next stands.path stands.leads (bare_at op wrapup here.at i there)
          (kind_at text normal number op wrapup here.at i is there) step next.at (bare_goes text normal number op wrapup is here.at next.at i there goes) (stands.typed kind_of has))

  run_stands : (n : ℕ) (here : Spot) (nodes : List NamedNode) → StandsTyped text op wrapup here.at nodes here.registers
      → StandsTyped text op wrapup (local_run (code_of op wrapup) n here).at nodes (local_run (code_of op wrapup) n here).registers
  run_stands zero here nodes stands = stands
  run_stands (suc n) here nodes stands = by (next_spot (code_of op wrapup) here) refl (λ next typed. run_stands n next nodes typed)
    where
      by : (o : Option Spot) → next_spot (code_of op wrapup) here ≡ o
          → ((next : Spot) → StandsTyped text op wrapup next.at nodes next.registers → StandsTyped text op wrapup (local_run (code_of op wrapup) n next).at nodes (local_run (code_of op wrapup) n next).registers)
          → StandsTyped text op wrapup (go_on o here (local_run (code_of op wrapup) n)).at nodes (go_on o here (local_run (code_of op wrapup) n)).registers
      by None none rest = stands
      by (Some next) steps rest = rest next (next_stands here next nodes steps stands)

  -- the method's local code from a spot
  pub local_stands : (here : Spot) (nodes : List NamedNode) → StandsTyped text op wrapup here.at nodes here.registers
      → StandsTyped text op wrapup (local_run (code_of op wrapup) (length (code_of op wrapup)) here).at nodes (local_run (code_of op wrapup) (length (code_of op wrapup)) here).registers
  local_stands here nodes stands = run_stands (length (code_of op wrapup)) here nodes stands

  -- ---- loads

  found_among : (at : ℕ) (i : Instr) (d : Reg) (o : Option FieldKind) (kind : FieldKind) (v : Value) (nodes : List NamedNode) (registers : Registers) → slice_get (code_of op wrapup) at ≡ Some i → IsTrue (goes_to i at (at + 1)) → destination i ≡ Some d
      → Gives text i o → o ≡ Some kind → IsRegisterFor kind d → IsOfKind nodes kind v → StandsTyped text op wrapup at nodes registers
      → AreTypedAmong nodes text.fields text.roots (bare_op op) wrapup (at + 1) (with_value registers d v)
  found_among at i (Num d) o holdings.Number (Number n) nodes registers there goes sets gives is_o right of stands kind_of has =
      loads_keep kind_of text.fields text.roots (bare_op op) wrapup at registers i (Num d) no_reference stands.path stands.leads (bare_at op wrapup at i there) sets (inl refl) (at + 1)
      (bare_goes text normal number op wrapup is at (at + 1) i there goes) (stands.typed kind_of has)
  found_among at i (Num d) o holdings.Number (Node x) nodes registers there goes sets gives is_o right of stands kind_of has = absurd of
  found_among at i (Ref d) o holdings.Number v nodes registers there goes sets gives is_o right of stands kind_of has = absurd right
  found_among at i (Num d) o (holdings.Reference k) v nodes registers there goes sets gives is_o right of stands kind_of has = absurd right
  found_among at i (Ref d) o (holdings.Reference k) (Number n) nodes registers there goes sets gives is_o right of stands kind_of has = absurd of
  found_among at i (Ref d) o (holdings.Reference k) (Node x) nodes registers there goes sets gives is_o right of stands kind_of has =
      loads_keep kind_of text.fields text.roots (bare_op op) wrapup at registers i (Ref d) x stands.path stands.leads (bare_at op wrapup at i there) sets
      (⊎_elim
      (λ (null : x.node ≡ 0). inl null)
      (λ (named : kind_of_node x.node nodes ≡ Some k).
      inr (gives (kind_of x.node) (ap (λ (f : Option FieldKind). refers f (kind_of x.node)) is_o ∙ eq-eqb k (kind_of x.node) (sym (has x.node k named)))))
      of)
      (at + 1) (bare_goes text normal number op wrapup is at (at + 1) i there goes) (stands.typed kind_of has)

  load_stands : (at : ℕ) (i : Instr) (d : Reg) (o : Option FieldKind) (v : Value) (nodes : List NamedNode) (registers : Registers) → slice_get (code_of op wrapup) at ≡ Some i → IsTrue (goes_to i at (at + 1)) → destination i ≡ Some d
      → Gives text i o → FindsFor nodes o d v → StandsTyped text op wrapup at nodes registers → StandsTyped text op wrapup (at + 1) nodes (with_value registers d v)
  load_stands at i d o v nodes registers there goes sets gives finds stands = onward at (at + 1) i nodes nodes registers (with_value registers d v) there goes stands
      (found_among at i d o finds.0 v nodes registers there goes sets gives finds.1 finds.2 finds.3 stands)

  -- a pick gives the kinds of all of its roots, and so that of the one that is picked
  pick_gives : (d a : Reg) (x n j : ℕ) → j < n → Gives text (instr.LoadPick d x n a) (root_kind text.roots (x + j))
  pick_gives d a x n j lt t refers_there =
      taken_refers (drop x text.roots) n j t lt (ap (λ (o : Option RootDecl). refers (option_map (λ root. root.kind) o) t) (sym (slice_drop text.roots x j)) ∙ refers_there)

  remains_below : (a n : ℕ) → 0 < n → remainder a n < n
  remains_below a zero some = let no : ⊥ = omega (arith, some) in absurd no
  remains_below a (suc n) some = omega arith

  -- ---- accesses

  -- a new node
  new_stands : (at : ℕ) (d : Reg) (kind name : ℕ) (registers : Registers) (memory : Memory) → slice_get (code_of op wrapup) at ≡ Some (instr.New d kind) → IsTrue (is_name true name memory.nodes) → StandsTyped text op wrapup at memory.nodes registers
      → StandsTyped text op wrapup (at + 1) (access_by text name (instr.New d kind) at registers memory).memory.nodes (with_reference registers d (record { node = name; marked = false }))
  new_stands at d kind name registers memory there named stands =
      let nodes' = (access_by text name (instr.New d kind) at registers memory).memory.nodes in
      onward at (at + 1) (instr.New d kind) memory.nodes nodes' registers (with_reference registers d (record { node = name; marked = false })) there (next_place at) stands
      (λ kind_of has. new_nodes_keep kind_of text.fields text.roots (bare_op op) wrapup at registers d kind name stands.path stands.leads (bare_at op wrapup at (instr.New d kind) there)
      (has name kind (kind_new name kind (blank_fields text kind) memory.nodes)) (at + 1) (bare_goes text normal number op wrapup is at (at + 1) (instr.New d kind) there (next_place at))
      (stands.typed kind_of (λ n k e. has n k (access_kinds_stay text name (instr.New d kind) at registers memory named n k e))))

  -- an exchange goes on to the next instruction, or to its other one
  exchange_comes : (at : ℕ) (entry : CasEntry) (l : ℕ) (registers : Registers) (memory : Memory) (o : Option Memory) → exchange text.fields entry registers memory ≡ o → slice_get (code_of op wrapup) at ≡ Some (instr.Cas entry l)
      → IsTyped text memory → StandsTyped text op wrapup at memory.nodes registers → Comes text op wrapup memory.nodes (auxiliary o memory at l registers)
  exchange_comes at entry l registers memory None makes there typed stands = record {
    typed = typed;
    stay = λ n k e. e;
    stands = unset_stands at l (instr.Cas entry l) memory.nodes registers there (other_place at l) refl stands;
  }
  exchange_comes at entry l registers memory (Some after) makes there typed stands =
      let stay = exchange_kinds_stay text.fields entry registers memory after makes in
      record {
        typed = exchange_typed text entry registers memory after (kind_at text normal number op wrapup at (instr.Cas entry l) is there) (stands_asked text normal number op wrapup is at (instr.Cas entry l) memory.nodes registers there stands) makes typed;
        stay = stay;
        stands = stands_stay text op wrapup (at + 1) memory.nodes after.nodes registers stay (unset_stands at (at + 1) (instr.Cas entry l) memory.nodes registers there (first_place at l) refl stands);
      }

  access_comes : (name : ℕ) (i : Instr) (at : ℕ) (registers : Registers) (memory : Memory) → slice_get (code_of op wrapup) at ≡ Some i → IsTrue (is_name (is_new i) name memory.nodes) → IsTyped text memory
      → StandsTyped text op wrapup at memory.nodes registers → Comes text op wrapup memory.nodes (access_by text name i at registers memory)
  access_comes name (instr.LoadRoot d x) at registers memory there named typed stands = record {
    typed = typed;
    stay = λ n k e. e;
    stands = load_stands at (instr.LoadRoot d x) d (root_kind text.roots x) (loaded text (instr.LoadRoot d x) registers memory) memory.nodes registers there (next_place at) refl (λ t e. e)
        (root_finds text d x registers memory (kind_at text normal number op wrapup at (instr.LoadRoot d x) is there) typed) stands;
  }
  access_comes name (instr.LoadPick d x n a) at registers memory there named typed stands =
      let i = instr.LoadPick d x n a in
      let some = some_picked (length text.kinds) (length text.fields) (length text.roots) d x n a (limits_at text within number op wrapup at i is there) in
      record {
        typed = typed;
        stay = λ m k e. e;
        stands = load_stands at i d (root_kind text.roots (x + remainder (number_in registers a) n)) (loaded text i registers memory) memory.nodes registers there (next_place at) refl
            (pick_gives d a x n (remainder (number_in registers a) n) (remains_below (number_in registers a) n some))
            (pick_finds text d x n a registers memory (kind_at text normal number op wrapup at i is there)
            (not-false (are_roots_of_one_kind text.roots x n) (range_at text normal number op wrapup at i is there)) typed) stands;
      }
  access_comes name (instr.LoadField d a f) at registers memory there named typed stands = record {
    typed = typed;
    stay = λ n k e. e;
    stands = load_stands at (instr.LoadField d a f) d (field_kind text.fields f) (loaded text (instr.LoadField d a f) registers memory) memory.nodes registers there (next_place at) refl (λ t e. e)
        (field_finds text d a f registers memory (kind_at text normal number op wrapup at (instr.LoadField d a f) is there) (stands_asked text normal number op wrapup is at (instr.LoadField d a f) memory.nodes registers there stands) typed) stands;
  }
  access_comes name (instr.New d kind) at registers memory there named typed stands = record {
    typed = new_typed text name at d kind registers memory named typed;
    stay = access_kinds_stay text name (instr.New d kind) at registers memory named;
    stands = new_stands at d kind name registers memory there named stands;
  }
  access_comes name (instr.Put a f b) at registers memory there named typed stands =
      let stay = access_kinds_stay text name (instr.Put a f b) at registers memory named in
      record {
        typed = put_typed text name at a b f registers memory (kind_at text normal number op wrapup at (instr.Put a f b) is there) (stands_asked text normal number op wrapup is at (instr.Put a f b) memory.nodes registers there stands) typed;
        stay = stay;
        stands = stands_stay text op wrapup (at + 1) memory.nodes (access_by text name (instr.Put a f b) at registers memory).memory.nodes registers stay
            (unset_stands at (at + 1) (instr.Put a f b) memory.nodes registers there (next_place at) refl stands);
      }
  access_comes name (instr.Cas entry l) at registers memory there named typed stands = exchange_comes at entry l registers memory (exchange text.fields entry registers memory) refl there typed stands
  access_comes name _ at registers memory there named typed stands = record { typed = typed; stay = λ n k e. e; stands = stands }

  -- the access at a place, and the local code after it
  pub access_at_comes : (name at : ℕ) (registers : Registers) (memory : Memory) → IsTrue (is_name (is_new_at (slice_get (code_of op wrapup) at)) name memory.nodes) → IsTyped text memory
      → StandsTyped text op wrapup at memory.nodes registers → Comes text op wrapup memory.nodes (access_at text name (slice_get (code_of op wrapup) at) at registers memory)
  access_at_comes name at registers memory named typed stands = by (slice_get (code_of op wrapup) at) refl named
    where
      same_test : (i : Instr) → is_new_at (Some i) ≡ is_new i
      same_test (instr.New d kind) = refl
      same_test _ = refl

      by : (o : Option Instr) → slice_get (code_of op wrapup) at ≡ o → IsTrue (is_name (is_new_at o) name memory.nodes) → Comes text op wrapup memory.nodes (access_at text name o at registers memory)
      by None there right = record { typed = typed; stay = λ n k e. e; stands = stands }
      by (Some i) there right = access_comes name i at registers memory there (subst (λ (b : Bool). IsTrue (is_name b name memory.nodes)) (same_test i) right) typed stands

-- ---- where methods start

-- a generator begins with null in each register of references
pub generator_starts : (text : Text) (op : Op) (nodes : List NamedNode) (args : List ℕ) → StandsTyped text op false 0 nodes (first_registers args)
generator_starts text op nodes args = record { path = []; leads = refl; typed = λ kind_of has. restarts_keep kind_of text.fields text.roots (bare_op op) false 0 args }

-- a wrap-up with the registers of the commit, and their count
pub wrap_up_starts : (text : Text) (op : Op) (at : ℕ) (entries : List CasEntry) (nodes : List NamedNode) (registers : Registers) (made : ℕ) → slice_get op.generator at ≡ Some (instr.Commit entries)
    → StandsTyped text op false at nodes registers → StandsTyped text op true 0 nodes (with_count registers made)
wrap_up_starts text op at entries nodes registers made commits stands = record {
  path = [];
  leads = refl;
  typed = λ kind_of has. commits_carry kind_of text.fields text.roots (bare_op op) at registers entries (bare_at op false at (instr.Commit entries) commits) (stands.typed kind_of has);
}
