-- Worked rows of typed memory on a text of two kinds, an item that refers to a pair: the laws' premises can be met, memory and
-- registers that mix the kinds aren't typed, and what an access asks is told.
use Rattle.std.proofs.Common.{◌≡◌, ◌≢◌, ℕ, zero, suc, inl, inr, ⊎_elim, ◌&&◌, ◌||◌, Bool, true, false, List, [], ◌∷◌, Option, Some, None, refl, sym, ap, subst, ◌∙◌, arith}
use Rattle.std.specs.Prelude.{codes, slice_get, unwrap_or, is_some, ◌==◌, IsTrue, IsSomeAnd}
use Rattle.std.proofs.lemmas.Bool.{and_parts, or_cases}
use Rattle.std.proofs.lemmas.Bool.Decides.{nat_tests}
use Rattle.std.proofs.lemmas.Option.{same_Some}
use Rattle.norm_lang.specs.declared.text.Reg.TheVariants.{Num, Ref}
use Rattle.norm_lang.specs.declared.text.FieldKind.TheVariants as holdings
use Rattle.norm_lang.specs.declared.text.Start.TheVariants as starts
use Rattle.norm_lang.specs.declared.text.Place.TheVariants as places
use Rattle.norm_lang.specs.declared.text.FieldDecl.{FieldDecl}
use Rattle.norm_lang.specs.declared.text.RootDecl.{RootDecl}
use Rattle.norm_lang.specs.declared.text.NodeDecl.{NodeDecl}
use Rattle.norm_lang.specs.declared.text.CasEntry.{CasEntry}
use Rattle.norm_lang.specs.declared.text.Instr.{Instr}
use Rattle.norm_lang.specs.declared.text.Instr.TheVariants.{LoadRoot, LoadField, New, Put, Commit, ReturnNone}
use Rattle.norm_lang.specs.declared.text.Op.{Op}
use Rattle.norm_lang.specs.declared.text.Text.{Text}
use Rattle.norm_lang.specs.declared.registers.Registers.{Registers}
use Rattle.norm_lang.specs.declared.registers.Reference.{Reference}
use Rattle.norm_lang.specs.Flow.{goes_from, IsPath}
use Rattle.norm_lang.specs.InstructionRules.{has_wrong_kind}
use Rattle.norm_lang.specs.Kept.{code_of}
use Rattle.norm_lang.specs.Kinds.{none_held, kinds_along, MayHaveKind, MixesKinds}
use Rattle.norm_lang.specs.LineWords.{item_kind}
use Rattle.norm_lang.specs.Limits.{IsWithinLimits}
use Rattle.norm_lang.specs.NormalForm.{Rule, N1, N2, N3, N4, N5, N6, N7, N8, N9, N10, N11, N12, N13, N14, N15, BreaksRule, IsNormal}
use Rattle.closed_tables.specs.Tables.{OpTables}
use Rattle.closed_tables.proofs.Normal.{tables_show_normal}
use Rattle.source_machine.specs.declared.event.SourceEvent.{SourceEvent}
use Rattle.source_machine.specs.declared.event.SourceEvent.TheVariants.{Begin, Access}
use Rattle.source_machine.specs.declared.state.Value.TheVariants as values
use Rattle.source_machine.specs.declared.state.Memory.{Memory}
use Rattle.source_machine.specs.declared.state.SourceCaller.{SourceCaller}
use Rattle.source_machine.specs.declared.state.SourceMachine.{SourceMachine}
use Rattle.source_machine.specs.Memory.{kind_of_node}
use Rattle.source_machine.specs.Run.{source_run, IsSourceRun}
use Rattle.source_machine.specs.State.{source_start, idle_caller}
use Rattle.run_ahead.specs.Standing.{Call, stands_in_list}
use Rattle.run_ahead.specs.Typed.{IsNodeOf, IsTyped, AreAsked, AreAskedBy}
use Rattle.run_ahead.specs.TypedCallers.{IsTypedCaller}
use Rattle.run_ahead.proofs.Asked.{lists_find_kinds}
use Rattle.run_ahead.proofs.TypedCallers.{stands_asked}
use Rattle.run_ahead.proofs.TypedRuns.{memory_is_typed, callers_are_typed}

-- ---- the text

-- an item has a pair, and a pair a number
abbrev pub fields_of : ℕ → List FieldDecl
fields_of pair = record { owner = 0; name = codes "a"; kind = holdings.Reference pair } ∷ record { owner = pair; name = codes "b"; kind = holdings.Number } ∷ []

abbrev pub roots : List RootDecl
roots = record { name = codes "top"; kind = holdings.Reference 0; start = starts.Node 1 } ∷ []

-- x: puts a new item in place of the first, with the same pair, and looks at that
abbrev swap : CasEntry
swap = record { place = places.Root 0; expected = Ref 0; replacement = Ref 1; retire = None }

abbrev makes : List Instr
makes = LoadRoot (Ref 0) 0 ∷ New (Ref 1) 0 ∷ LoadField (Ref 2) (Ref 0) 0 ∷ Put (Ref 1) 0 (Ref 2) ∷ LoadField (Num 1) (Ref 2) 1 ∷ Commit (swap ∷ []) ∷ []

abbrev x : Op
x = record { name = codes "x"; args = 0; generator = makes; wrapup = ReturnNone ∷ [] }

abbrev pub nodes : List NodeDecl
nodes = record { owner = 0; values = starts.Node 2 ∷ [] } ∷ record { owner = 1; values = starts.Value 6 ∷ [] } ∷ []

-- a text of the two kinds, and one of a single kind that is else the same
abbrev pub two_of : Op → Text
two_of op = record { kinds = item_kind ∷ codes "pair" ∷ []; fields = fields_of 1; roots = roots; nodes = nodes; ops = op ∷ [] }

abbrev pub one_of : Op → Text
one_of op = record { kinds = item_kind ∷ []; fields = fields_of 0; roots = roots; nodes = []; ops = op ∷ [] }

abbrev two : Text
two = two_of x

within : IsWithinLimits two
within = refl

-- ---- it is in normal form

-- with one kind it would be, by tables; no rule but N15 asks for the node kind
abbrev one : Text
one = one_of x

abbrev pub SameRegisters : Op → Type 0
SameRegisters op =
    (number : ℕ) (wrapup : Bool) (at : ℕ) → IsSomeAnd (slice_get (two_of op).ops number) (λ o. IsSomeAnd (slice_get (code_of o wrapup) at) (λ i. IsTrue (has_wrong_kind (two_of op).fields (two_of op).roots i)))
    → IsSomeAnd (slice_get (one_of op).ops number) (λ o. IsSomeAnd (slice_get (code_of o wrapup) at) (λ i. IsTrue (has_wrong_kind (one_of op).fields (one_of op).roots i)))

abbrev pub KeepsKinds : Op → Type 0
KeepsKinds op = (number : ℕ) (wrapup : Bool) (at : ℕ) → IsSomeAnd (slice_get (two_of op).ops number) (λ o. IsSomeAnd (slice_get (code_of o wrapup) at) (λ i. MixesKinds (two_of op) o wrapup at i)) → ⊥

-- the rules but N1 and N15 find the same in both texts
pub two_is_normal : (op : Op) → IsNormal (one_of op) → SameRegisters op → KeepsKinds op → IsNormal (two_of op)
two_is_normal op one_is same keeps breach broken = by breach.rule broken
  where
    by : (rule : Rule) → IsSomeAnd (slice_get (two_of op).ops breach.op) (λ o. IsSomeAnd (slice_get (code_of o breach.wrapup) breach.at) (λ i. BreaksRule rule (two_of op) o breach.wrapup breach.at i)) → ⊥
    by N1 is = one_is (record breach { rule = N1 }) (same breach.op breach.wrapup breach.at is)
    by N2 is = one_is (record breach { rule = N2 }) is
    by N3 is = one_is (record breach { rule = N3 }) is
    by N4 is = one_is (record breach { rule = N4 }) is
    by N5 is = one_is (record breach { rule = N5 }) is
    by N6 is = one_is (record breach { rule = N6 }) is
    by N7 is = one_is (record breach { rule = N7 }) is
    by N8 is = one_is (record breach { rule = N8 }) is
    by N9 is = one_is (record breach { rule = N9 }) is
    by N10 is = one_is (record breach { rule = N10 }) is
    by N11 is = one_is (record breach { rule = N11 }) is
    by N12 is = one_is (record breach { rule = N12 }) is
    by N13 is = one_is (record breach { rule = N13 }) is
    by N14 is = one_is (record breach { rule = N14 }) is
    by N15 is = keeps breach.op breach.wrapup breach.at is

abbrev tables : OpTables
tables = record {
  generator = record {
    may_be_fresh = [] ∷ [] ∷ (Ref 1 ∷ []) ∷ (Ref 1 ∷ []) ∷ (Ref 1 ∷ []) ∷ (Ref 1 ∷ []) ∷ [];
    surely_fresh = [] ∷ [] ∷ (Ref 1 ∷ []) ∷ (Ref 1 ∷ []) ∷ (Ref 1 ∷ []) ∷ (Ref 1 ∷ []) ∷ [];
    set = [] ∷ (Ref 0 ∷ []) ∷ (Ref 0 ∷ Ref 1 ∷ []) ∷ (Ref 0 ∷ Ref 1 ∷ Ref 2 ∷ []) ∷ (Ref 0 ∷ Ref 1 ∷ Ref 2 ∷ []) ∷ (Ref 0 ∷ Ref 1 ∷ Ref 2 ∷ []) ∷ [];
    level = 0 ∷ 0 ∷ 1 ∷ 1 ∷ 1 ∷ 1 ∷ [];
    rank = 0 ∷ 1 ∷ 2 ∷ 3 ∷ 4 ∷ 5 ∷ [];
  };
  wrapup = record { may_be_fresh = []; surely_fresh = []; set = []; level = []; rank = [] };
}

one_normal : IsNormal one
one_normal = tables_show_normal one (tables ∷ []) refl

-- control goes from each instruction of x to the next
next_of : (last to : ℕ) → goes_from (slice_get makes last) last to ≡ true → to ≡ suc last
next_of zero to is = grind (arith, nat_tests)
next_of (suc zero) to is = grind (arith, nat_tests)
next_of (suc (suc zero)) to is = grind (arith, nat_tests)
next_of (suc (suc (suc zero))) to is = grind (arith, nat_tests)
next_of (suc (suc (suc (suc zero)))) to is = grind (arith, nat_tests)
next_of (suc (suc (suc (suc (suc zero))))) to is = absurd (let no : false ≡ true = is in cc)
next_of (suc (suc (suc (suc (suc (suc n)))))) to is = absurd (let no : false ≡ true = is in cc)

-- so one path leads to a place
abbrev down : ℕ → List ℕ
down zero = []
down (suc n) = n ∷ down n

one_path : (path : List ℕ) (to : ℕ) → IsPath makes path to → path ≡ down to
one_path [] to leads = ap down (sym leads)
one_path (last ∷ path) to leads =
    let before = one_path path last leads.1 in
    ap (λ (rest : List ℕ). last ∷ rest) before ∙ ap down (sym (next_of last to leads.0.0))

-- the kinds that registers have there
held_there : (r n at t : ℕ) → r ≡ n → MayHaveKind two.fields two.roots x false r at t → kinds_along two.fields two.roots none_held makes (down at) n t ≡ true
held_there r n at t same may =
    subst (λ (m : ℕ). kinds_along two.fields two.roots none_held makes (down at) m t ≡ true) same
    (subst (λ (path : List ℕ). kinds_along two.fields two.roots none_held makes path r t ≡ true) (one_path may.path at may.leads)
    (subst (λ (start : ℕ → ℕ → Bool). kinds_along two.fields two.roots start makes may.path r t ≡ true) may.starts may.has))

pub asked_of : (r n c k : ℕ) → ((r == n) && (c == k)) ≡ true → (r ≡ n) × (c ≡ k)
asked_of r n c k is =
    let parts = and_parts (r == n) (c == k) is in
    let register : (r == n) ≡ true = parts.0 in
    let kind : (c == k) ≡ true = parts.1 in
    (grind (arith, nat_tests), grind (arith, nat_tests))

-- a register that is asked to be of kind c is
pub same_as : (t k c : ℕ) → (c == t) ≡ true → c ≡ k → t ≢ k → ⊥
same_as t k c held asked differs = let has : c ≡ t = grind (arith, nat_tests) in differs (sym has ∙ asked)

pub asks_none : {P : Type 0} → false ≡ true → P
asks_none is = absurd (let no : false ≡ true = is in cc)

mixes_none : (at : ℕ) → IsSomeAnd (slice_get makes at) (λ i. MixesKinds two x false at i) → ⊥
mixes_none zero (inl several) = asks_none several
mixes_none zero (inr other) = asks_none other.asks_it
mixes_none (suc zero) (inl several) = asks_none several
mixes_none (suc zero) (inr other) = asks_none other.asks_it
mixes_none (suc (suc zero)) (inl several) = asks_none several
mixes_none (suc (suc zero)) (inr other) =
    let asked = asked_of other.register 0 0 other.asked other.asks_it in
    same_as other.kind other.asked 0 (held_there other.register 0 2 other.kind asked.0 other.may) asked.1 other.differs
mixes_none (suc (suc (suc zero))) (inl several) = asks_none several
mixes_none (suc (suc (suc zero))) (inr other) = ⊎_elim
    (λ (object : ((other.register == 1) && (0 == other.asked)) ≡ true).
    let asked = asked_of other.register 1 0 other.asked object in
    same_as other.kind other.asked 0 (held_there other.register 1 3 other.kind asked.0 other.may) asked.1 other.differs)
    (λ (value : ((other.register == 2) && (1 == other.asked)) ≡ true).
    let asked = asked_of other.register 2 1 other.asked value in
    same_as other.kind other.asked 1 (held_there other.register 2 3 other.kind asked.0 other.may) asked.1 other.differs)
    (or_cases ((other.register == 1) && (0 == other.asked)) ((other.register == 2) && (1 == other.asked)) other.asks_it)
mixes_none (suc (suc (suc (suc zero)))) (inl several) = asks_none several
mixes_none (suc (suc (suc (suc zero)))) (inr other) =
    let asked = asked_of other.register 2 1 other.asked other.asks_it in
    same_as other.kind other.asked 1 (held_there other.register 2 4 other.kind asked.0 other.may) asked.1 other.differs
mixes_none (suc (suc (suc (suc (suc zero))))) (inl several) = asks_none several
mixes_none (suc (suc (suc (suc (suc zero))))) (inr other) = ⊎_elim
    (λ (swaps : (((other.register == 0) || (other.register == 1)) && (0 == other.asked)) ≡ true).
    let parts = and_parts ((other.register == 0) || (other.register == 1)) (0 == other.asked) swaps in
    let kind : (0 == other.asked) ≡ true = parts.1 in
    let first : 0 ≡ other.asked = grind (arith, nat_tests) in
    ⊎_elim
    (λ (expected : (other.register == 0) ≡ true). let is : other.register ≡ 0 = grind (arith, nat_tests) in same_as other.kind other.asked 0 (held_there other.register 0 5 other.kind is other.may) first other.differs)
    (λ (replacement : (other.register == 1) ≡ true). let is : other.register ≡ 1 = grind (arith, nat_tests) in same_as other.kind other.asked 0 (held_there other.register 1 5 other.kind is other.may) first other.differs)
    (or_cases (other.register == 0) (other.register == 1) parts.0))
    (λ (more : false ≡ true). asks_none more)
    (or_cases (((other.register == 0) || (other.register == 1)) && (0 == other.asked)) false other.asks_it)
mixes_none (suc (suc (suc (suc (suc (suc n)))))) mixes = absurd mixes

ends_alone : (at : ℕ) → IsSomeAnd (slice_get (ReturnNone ∷ []) at) (λ i. MixesKinds two x true at i) → ⊥
ends_alone zero (inl several) = asks_none several
ends_alone zero (inr other) = asks_none other.asks_it
ends_alone (suc n) mixes = absurd mixes

keeps_kinds : KeepsKinds x
keeps_kinds zero false at mixes = mixes_none at mixes
keeps_kinds zero true at mixes = ends_alone at mixes
keeps_kinds (suc n) wrapup at mixes = absurd mixes

same_registers : SameRegisters x
same_registers zero false zero is = is
same_registers zero false (suc zero) is = is
same_registers zero false (suc (suc zero)) is = is
same_registers zero false (suc (suc (suc zero))) is = is
same_registers zero false (suc (suc (suc (suc zero)))) is = is
same_registers zero false (suc (suc (suc (suc (suc zero))))) is = is
same_registers zero false (suc (suc (suc (suc (suc (suc n)))))) is = absurd is
same_registers zero true zero is = is
same_registers zero true (suc n) is = absurd is
same_registers (suc n) wrapup at is = absurd is

two_normal : IsNormal two
two_normal = two_is_normal x one_normal same_registers keeps_kinds

-- ---- a run of one caller, which makes item 7

abbrev reached : List SourceEvent → SourceMachine
reached events = unwrap_or (source_run two events (source_start two 1)) (source_start two 1)

pub some_run : (o : Option SourceMachine) (other : SourceMachine) → is_some o ≡ true → o ≡ Some (unwrap_or o other)
some_run None other is = absurd (let no : false ≡ true = is in cc)
some_run (Some state) other is = refl

is_run : (events : List SourceEvent) → is_some (source_run two events (source_start two 1)) ≡ true → IsSourceRun two 1 events (reached events)
is_run events enabled = record { some = omega arith; runs = some_run (source_run two events (source_start two 1)) (source_start two 1) enabled }

abbrev begins : List SourceEvent
begins = Begin 0 0 (0 ∷ 0 ∷ 0 ∷ 0 ∷ []) ∷ Access 0 0 ∷ Access 0 7 ∷ Access 0 0 ∷ []

-- before the put
abbrev before : SourceMachine
before = reached begins

abbrev pub caller_in : SourceMachine → SourceCaller
caller_in state = unwrap_or (slice_get state.callers 0) idle_caller

-- r0 has item 1, r1 the new item, and r2 the pair
abbrev pub to : ℕ → Reference
to name = record { node = name; marked = false }

abbrev held : Registers
held = record {
  numbers = 0 ∷ 0 ∷ 0 ∷ 0 ∷ 0 ∷ 0 ∷ 0 ∷ 0 ∷ [];
  references = to 1 ∷ to 7 ∷ to 2 ∷ to 0 ∷ to 0 ∷ to 0 ∷ to 0 ∷ to 0 ∷ [];
}

memory_before : IsTyped two before.memory
memory_before = memory_is_typed two two_normal within 1 begins before (is_run begins refl)

caller_before : IsTypedCaller two before.memory.nodes (caller_in before)
caller_before = callers_are_typed two two_normal within 1 begins before (is_run begins refl) 0 (caller_in before) refl

-- so the put finds an item in r1, and a pair in r2
put_asks : AreAsked two (Put (Ref 1) 0 (Ref 2)) before.memory.nodes held
put_asks = stands_asked two two_normal 0 x false refl 3 (Put (Ref 1) 0 (Ref 2)) before.memory.nodes held refl (caller_before x refl)

object_found : IsNodeOf before.memory.nodes 0 7
object_found = put_asks 1 0 refl

value_found : IsNodeOf before.memory.nodes 1 2
value_found = put_asks 2 1 refl

kinds_there : (kind_of_node 7 before.memory.nodes ≡ Some 0) × (kind_of_node 2 before.memory.nodes ≡ Some 1) × (kind_of_node 0 before.memory.nodes ≡ None)
kinds_there = (refl, refl, refl)

-- and the list's exchange two items
abbrev goes_on : List SourceEvent
goes_on = Begin 0 0 (0 ∷ 0 ∷ 0 ∷ 0 ∷ []) ∷ Access 0 0 ∷ Access 0 7 ∷ Access 0 0 ∷ Access 0 0 ∷ Access 0 0 ∷ []

abbrev in_list : SourceMachine
in_list = reached goes_on

abbrev call : Call
call = record { number = 0; args = 0 ∷ 0 ∷ 0 ∷ 0 ∷ []; replies = [] }

abbrev loaded : Registers
loaded = record held { numbers = 0 ∷ 6 ∷ 0 ∷ 0 ∷ 0 ∷ 0 ∷ 0 ∷ 0 ∷ [] }

stands_there : caller_in in_list ≡ stands_in_list 5 (swap ∷ []) 0 loaded call
stands_there = refl

swap_asks : AreAskedBy two swap in_list.memory.nodes loaded
swap_asks = lists_find_kinds two two_normal x 5 (swap ∷ []) 0 loaded call refl in_list.memory.nodes
    (callers_are_typed two two_normal within 1 goes_on in_list (is_run goes_on refl) 0 (caller_in in_list) refl) 0 swap refl

replacement_found : IsNodeOf in_list.memory.nodes 0 7
replacement_found = swap_asks 1 0 refl

-- ---- what isn't typed

-- the root of items names the pair
abbrev mixed : Memory
mixed = record before.memory { roots = values.Node (to 2) ∷ [] }

not_typed : IsTyped two mixed → ⊥
not_typed typed = ⊎_elim
    (λ (null : ◌≡◌ {A = ℕ} 2 0). let no : ⊥ = omega (arith, null) in no)
    (λ (item : kind_of_node 2 mixed.nodes ≡ Some 0). let no : ◌≡◌ {A = ℕ} 1 0 = same_Some 1 0 item in let never : ⊥ = omega (arith, no) in never)
    typed.roots.0

-- a name that no node has is none that an access may meet
not_named : IsNodeOf before.memory.nodes 0 9 → ⊥
not_named named = ⊎_elim
    (λ (null : ◌≡◌ {A = ℕ} 9 0). let no : ⊥ = omega (arith, null) in no)
    (λ (item : kind_of_node 9 before.memory.nodes ≡ Some 0). let never : None ≡ Some 0 = item in cc)
    named
