-- A worked row of a core caller that is followed, on a text of two kinds and a target that is barred for it: the core comes to a
-- load of a field, and the source's register names a node of the kind that has the field.
use Rattle.std.proofs.Common.{◌≡◌, ℕ, zero, suc, ◌⊎◌, inl, inr, Bool, true, false, List, [], ◌∷◌, refl, subst, arith}
use Rattle.std.specs.Prelude.{codes, slice_get, IsTrue, IsSomeAnd, unwrap_or, is_some, ◌==◌}
use Rattle.norm_lang.specs.declared.text.Reg.{Reg}
use Rattle.norm_lang.specs.declared.text.Reg.TheVariants.{Ref}
use Rattle.norm_lang.specs.declared.text.Instr.{Instr}
use Rattle.norm_lang.specs.declared.text.Instr.TheVariants.{LoadRoot, LoadField, Commit, ReturnNone}
use Rattle.norm_lang.specs.declared.text.Op.{Op}
use Rattle.norm_lang.specs.declared.text.Text.{Text}
use Rattle.norm_lang.specs.declared.registers.Registers.{Registers}
use Rattle.norm_lang.specs.RegisterUse.{reads_at}
use Rattle.norm_lang.specs.Flow.{state_along, IsPath}
use Rattle.norm_lang.specs.Kept.{holds_reference, IsCarried, IsKept}
use Rattle.norm_lang.specs.Kinds.{kinds_along, MayHaveKind, MixesKinds}
use Rattle.norm_lang.specs.LineWords.{item_kind}
use Rattle.norm_lang.specs.Limits.{IsWithinLimits}
use Rattle.norm_lang.specs.Local.{Spot}
use Rattle.norm_lang.specs.NormalForm.{IsNormal}
use Rattle.norm_lang.specs.Registers.{first_registers, node_in}
use Rattle.closed_tables.specs.Tables.{OpTables}
use Rattle.closed_tables.proofs.Normal.{tables_show_normal}
use Rattle.source_machine.specs.declared.event.SourceEvent.{SourceEvent}
use Rattle.source_machine.specs.declared.event.SourceEvent.TheVariants.{Begin, Access}
use Rattle.source_machine.specs.declared.state.Value.TheVariants.{Node}
use Rattle.source_machine.specs.declared.state.SourceMachine.{SourceMachine}
use Rattle.source_machine.specs.Memory.{with_value}
use Rattle.source_machine.specs.Run.{source_run, IsSourceRun}
use Rattle.source_machine.specs.State.{source_start, first_memory}
use Rattle.target_code.specs.declared.target.TargetInstr.{TargetInstr}
use Rattle.target_code.specs.declared.target.TargetInstr.TheVariants.{Plain, Check}
use Rattle.target_code.specs.declared.target.Target.{Target}
use Rattle.target_code.specs.Barred.{FlawKind, ErasesDifferently, UncheckedUse, Unguarded, GuardAfterCheck, GuardDropped, IsFlawed}
use Rattle.target_code.specs.Paths.{TargetPath, target_code_of}
use Rattle.target_code.specs.Flaws.{clean_after, IsHandedOver, Uses, MayBeUnchecked, NeedsGuard, GuardsKept}
use Rattle.target_laws.specs.Methods.{Method}
use Rattle.run_ahead.specs.AccessLaws.{AccessFollows}
use Rattle.run_ahead.specs.Ahead.{IsCompiled, erasing}
use Rattle.run_ahead.specs.Following.{Walk, generator_walk, Follows}
use Rattle.run_ahead.specs.LocalLaws.{Confirms}
use Rattle.run_ahead.specs.Standing.{Call, first_spot, begins_at}
use Rattle.run_ahead.specs.Typed.{IsNodeOf, AreAsked}
use Rattle.run_ahead.proofs.Accesses.{loads_are_followed}
use Rattle.run_ahead.proofs.Asked.{accesses_find_kinds}
use Rattle.run_ahead.proofs.Begins.{begins_are_followed}
use Rattle.run_ahead.proofs.LocalRuns.{passed_checks_confirm}
use Rattle.run_ahead.proofs.TypedRows.{fields_of, roots, nodes, two_of, one_of, SameRegisters, KeepsKinds, two_is_normal, to, caller_in, some_run, asks_none, asked_of, same_as}
use Rattle.run_ahead.proofs.TypedRuns.{memory_is_typed, callers_are_typed}

-- ---- the text and the target

-- y: loads the item, and the pair that it refers to
abbrev loads : List Instr
loads = LoadRoot (Ref 0) 0 ∷ LoadField (Ref 1) (Ref 0) 0 ∷ Commit [] ∷ []

abbrev y : Op
y = record { name = codes "y"; args = 0; generator = loads; wrapup = ReturnNone ∷ [] }

abbrev two : Text
two = two_of y

-- a check stands before the item is read
abbrev checked : List TargetInstr
checked = Plain (LoadRoot (Ref 0) 0) ∷ Check ∷ Plain (LoadField (Ref 1) (Ref 0) 0) ∷ Plain (Commit []) ∷ []

abbrev barred : Target
barred = record {
  kinds = item_kind ∷ codes "pair" ∷ [];
  fields = fields_of 1;
  roots = roots;
  nodes = nodes;
  ops = record { name = codes "y"; args = 0; generator = checked; wrapup = Plain ReturnNone ∷ [] } ∷ [];
}

-- ---- the text is in normal form

abbrev one : Text
one = one_of y

abbrev tables : OpTables
tables = record {
  generator = record { may_be_fresh = []; surely_fresh = []; set = [] ∷ (Ref 0 ∷ []) ∷ (Ref 0 ∷ Ref 1 ∷ []) ∷ []; level = []; rank = 0 ∷ 1 ∷ 2 ∷ [] };
  wrapup = record { may_be_fresh = []; surely_fresh = []; set = []; level = []; rank = [] };
}

one_normal : IsNormal one
one_normal = tables_show_normal one (tables ∷ []) refl

-- the load at 1 asks r0 to be an item, which is what the root refers to
item_there : (start : ℕ → ℕ → Bool) (path : List ℕ) (t : ℕ) → IsPath loads path 1 → kinds_along two.fields two.roots start loads path 0 t ≡ true → (0 == t) ≡ true
item_there start [] t leads has = let no : ⊥ = omega (arith, leads) in absurd no
item_there start (zero ∷ path) t leads has = has
item_there start (suc zero ∷ path) t leads has = asks_none leads.0.0
item_there start (suc (suc zero) ∷ path) t leads has = asks_none leads.0.0
item_there start (suc (suc (suc n)) ∷ path) t leads has = asks_none leads.0.0

mixes_none : (at : ℕ) → IsSomeAnd (slice_get loads at) (λ i. MixesKinds two y false at i) → ⊥
mixes_none zero (inl several) = asks_none several
mixes_none zero (inr other) = asks_none other.asks_it
mixes_none (suc zero) (inl several) = asks_none several
mixes_none (suc zero) (inr other) =
    let asked = asked_of other.register 0 0 other.asked other.asks_it in
    let may : MayHaveKind two.fields two.roots y false 0 1 other.kind = subst (λ (r : ℕ). MayHaveKind two.fields two.roots y false r 1 other.kind) asked.0 other.may in
    same_as other.kind other.asked 0 (item_there may.start may.path other.kind may.leads may.has) asked.1 other.differs
mixes_none (suc (suc zero)) (inl several) = asks_none several
mixes_none (suc (suc zero)) (inr other) = asks_none other.asks_it
mixes_none (suc (suc (suc n))) mixes = absurd mixes

keeps_kinds : KeepsKinds y
keeps_kinds zero false at mixes = mixes_none at mixes
keeps_kinds zero true zero (inl several) = asks_none several
keeps_kinds zero true zero (inr other) = asks_none other.asks_it
keeps_kinds zero true (suc n) mixes = absurd mixes
keeps_kinds (suc n) wrapup at mixes = absurd mixes

same_registers : SameRegisters y
same_registers zero false zero is = is
same_registers zero false (suc zero) is = is
same_registers zero false (suc (suc zero)) is = is
same_registers zero false (suc (suc (suc n))) is = absurd is
same_registers zero true zero is = is
same_registers zero true (suc n) is = absurd is
same_registers (suc n) wrapup at is = absurd is

two_normal : IsNormal two
two_normal = two_is_normal y one_normal same_registers keeps_kinds

within : IsWithinLimits two
within = refl

-- ---- the target is barred

-- the wrap-up reads nothing
none_carried : (r : Reg) → IsCarried y r → ⊥
none_carried r carried = by carried.0 carried.1
  where
    by : (at : ℕ) → reads_at r (slice_get (ReturnNone ∷ []) at) ≡ true → ⊥
    by zero reads = asks_none reads
    by (suc n) reads = asks_none reads

-- an instruction that uses nothing unchecked, needs no guard and is none has no flaw
none_flawed : (kind : FlawKind) (wrapup : Bool) (code : List TargetInstr) (at : ℕ) (i : TargetInstr) → ((r : Reg) → Uses y r i → MayBeUnchecked code r at → ⊥) → ((r : Reg) → NeedsGuard y r i → ⊥) → (GuardsKept y wrapup i → ⊥)
    → IsFlawed kind y wrapup code at i → ⊥
none_flawed ErasesDifferently wrapup code at i uses needs keeps flaw = flaw
none_flawed UncheckedUse wrapup code at i uses needs keeps flaw = uses flaw.0 flaw.1 flaw.2
none_flawed Unguarded wrapup code at i uses needs keeps flaw = needs flaw.0 flaw.1
none_flawed GuardAfterCheck wrapup code at i uses needs keeps flaw = needs flaw.0 flaw.1
none_flawed GuardDropped wrapup code at i uses needs keeps (inl flaw) = needs flaw.0 flaw.1
none_flawed GuardDropped wrapup code at i uses needs keeps (inr flaw) = keeps flaw

-- the field is read after the check
checked_there : (r : Reg) → MayBeUnchecked checked r 2 → ⊥
checked_there r may = by may.0 may.1 may.2
  where
    by : (path : List ℕ) → TargetPath checked path 2 → state_along (clean_after r) true checked path ≡ false → ⊥
    by [] leads is = let no : ⊥ = omega (arith, leads) in no
    by (zero ∷ path) leads is = asks_none leads.0.0
    by (suc zero ∷ path) leads is = let no : true ≡ false = is in cc
    by (suc (suc zero) ∷ path) leads is = asks_none leads.0.0
    by (suc (suc (suc zero)) ∷ path) leads is = asks_none leads.0.0
    by (suc (suc (suc (suc n))) ∷ path) leads is = asks_none leads.0.0

reads_none : (r : Reg) → IsTrue false ⊎ (IsTrue false × IsHandedOver y r) → ⊥
reads_none r (inl reads) = asks_none reads
reads_none r (inr commits) = asks_none commits.0

guards_none : (r : Reg) → (IsTrue (holds_reference r) × IsTrue false) ⊎ (IsTrue false × IsKept y r) → ⊥
guards_none r (inl exchanges) = asks_none exchanges.1
guards_none r (inr commits) = asks_none commits.0

-- a commit of nothing hands nothing over, and keeps nothing
hands_none : (r : Reg) → IsTrue false ⊎ (IsTrue true × IsHandedOver y r) → ⊥
hands_none r (inl reads) = asks_none reads
hands_none r (inr commits) = none_carried r commits.1.1

keeps_none : (r : Reg) → (IsTrue (holds_reference r) × IsTrue false) ⊎ (IsTrue true × IsKept y r) → ⊥
keeps_none r (inl exchanges) = asks_none exchanges.1
keeps_none r (inr commits) = none_carried r commits.1.1

no_flaw : (kind : FlawKind) (number : ℕ) (wrapup : Bool) (at : ℕ)
    → IsSomeAnd (slice_get two.ops number) (λ source. IsSomeAnd (slice_get barred.ops number) (λ op. IsSomeAnd (slice_get (target_code_of op wrapup) at) (λ i. IsFlawed kind source wrapup (target_code_of op wrapup) at i))) → ⊥
no_flaw kind zero false zero flaw = none_flawed kind false checked 0 (Plain (LoadRoot (Ref 0) 0)) (λ r uses may. reads_none r uses) guards_none (λ kept. asks_none kept.0) flaw
no_flaw kind zero false (suc zero) flaw = none_flawed kind false checked 1 Check (λ r uses may. reads_none r uses) guards_none (λ kept. asks_none kept.0) flaw
no_flaw kind zero false (suc (suc zero)) flaw = none_flawed kind false checked 2 (Plain (LoadField (Ref 1) (Ref 0) 0)) (λ r uses may. checked_there r may) guards_none (λ kept. asks_none kept.0) flaw
no_flaw kind zero false (suc (suc (suc zero))) flaw = none_flawed kind false checked 3 (Plain (Commit [])) (λ r uses may. hands_none r uses) keeps_none (λ kept. asks_none kept.0) flaw
no_flaw kind zero false (suc (suc (suc (suc n)))) flaw = absurd flaw
no_flaw kind zero true zero flaw = none_flawed kind true (Plain ReturnNone ∷ []) 0 (Plain ReturnNone) (λ r uses may. reads_none r uses) guards_none (λ kept. asks_none kept.1.1) flaw
no_flaw kind zero true (suc n) flaw = absurd flaw
no_flaw kind (suc n) wrapup at flaw = absurd flaw

compiled : IsCompiled barred two
compiled = record { normal = two_normal; within = within; barred = record { erases = refl; flawless = λ flaw has. no_flaw flaw.kind flaw.op flaw.wrapup flaw.at has } }

-- ---- a core caller, and the source beside it

abbrev method : Method barred two
method = record {
  number = 0;
  wrapup = false;
  op = y;
  compiled = record { name = codes "y"; args = 0; generator = checked; wrapup = Plain ReturnNone ∷ [] };
  in_text = refl;
  in_target = refl;
}

abbrev call : Call
call = record { number = 0; args = 0 ∷ 0 ∷ 0 ∷ 0 ∷ []; replies = [] }

abbrev walk : Walk barred two
walk = generator_walk method call

abbrev start : Registers
start = first_registers call.args

-- each name is its own slot
abbrev home : ℕ → ℕ
home n = n

abbrev events : List SourceEvent
events = Begin 0 0 call.args ∷ []

abbrev reached : List SourceEvent → SourceMachine
reached more = unwrap_or (source_run two more (source_start two 1)) (source_start two 1)

is_run : (more : List SourceEvent) → is_some (source_run two more (source_start two 1)) ≡ true → IsSourceRun two 1 more (reached more)
is_run more enabled = record { some = omega arith; runs = some_run (source_run two more (source_start two 1)) (source_start two 1) enabled }

-- it begins
begun : Follows walk home (Unit {0}) [] (first_spot start) start false (begins_at y false start call)
begun = (begins_are_followed (Unit {0}) barred two two_normal home refl method call refl refl 0 (first_memory two)).1

-- it loads the item, as the source does
abbrev after : Spot
after = record { at = 1; registers = with_value start (Ref 0) (Node (to 1)) }

loaded_item : AccessFollows walk home (Unit {0}) [] 0 after start after.registers (LoadRoot (Ref 0) 0) 1 (Access 0 0) (first_memory two) (first_memory two) (begins_at y false start call)
loaded_item = loads_are_followed (Unit {0}) barred two (erasing compiled) home refl walk [] (first_spot start) start false (begins_at y false start call) begun (LoadRoot (Ref 0) 0) (Ref 0) refl refl 0 (first_memory two) (Node (to 1))
    (memory_is_typed two two_normal within 1 events (reached events) (is_run events refl))
    (callers_are_typed two two_normal within 1 events (reached events) (is_run events refl) 0 (caller_in (reached events)) refl)
    tt (λ calm. (refl, refl))

abbrev onward : List SourceEvent
onward = Begin 0 0 call.args ∷ Access 0 0 ∷ []

-- a check passes
confirmed : Confirms walk home (Unit {0}) (0 ∷ []) after after.registers false (caller_in (reached onward))
confirmed = passed_checks_confirm (Unit {0}) barred two (erasing compiled) home walk (0 ∷ []) after after.registers false (caller_in (reached onward)) loaded_item.follows refl tt (λ m n hopes other same. same)

-- and at the load of the field the source's r0 is an item
field_asks : AreAsked two (LoadField (Ref 1) (Ref 0) 0) (reached onward).memory.nodes after.registers
field_asks = accesses_find_kinds (Unit {0}) barred two (erasing compiled) home walk (1 ∷ 0 ∷ []) (record { at = 2; registers = after.registers }) after.registers false (caller_in (reached onward)) confirmed.follows
    (reached onward).memory.nodes (callers_are_typed two two_normal within 1 onward (reached onward) (is_run onward refl) 0 (caller_in (reached onward)) refl) (LoadField (Ref 1) (Ref 0) 0) refl refl

item_found : IsNodeOf (reached onward).memory.nodes 0 (node_in after.registers 0)
item_found = field_asks 0 0 refl
