-- The laws of typed memory, applied to a run over two kinds of nodes.
use Rattle.std.proofs.Common.{◌≡◌, ◌≢◌, ℕ, zero, suc, ◌&&◌, ◌⊎◌, ⊎_elim, Bool, true, false, List, [], ◌∷◌, Some, refl, subst, arith}
use Rattle.std.specs.Prelude.{slice_get, unwrap_or, ◌==◌}
use Rattle.std.proofs.lemmas.Bool.{and_parts}
use Rattle.std.proofs.lemmas.Bool.Decides.{nat_tests}
use Rattle.norm_lang.specs.declared.text.FieldKind.TheVariants as holdings
use Rattle.norm_lang.specs.declared.text.Start.TheVariants as starts
use Rattle.norm_lang.specs.declared.text.Instr.{Instr}
use Rattle.norm_lang.specs.declared.text.Instr.TheVariants.{LoadRoot, LoadField, Commit, ReturnNone}
use Rattle.norm_lang.specs.declared.text.Text.{Text}
use Rattle.norm_lang.specs.LineWords.{item_kind}
use Rattle.norm_lang.specs.Limits.{IsWithinLimits}
use Rattle.norm_lang.specs.Flow.{IsPath}
use Rattle.norm_lang.specs.Registers.{first_registers, with_reference}
use Rattle.norm_lang.specs.Kinds.{kinds_along, MayHaveKind, HasOtherKind, MixesKinds}
use Rattle.norm_lang.specs.NormalForm.{Rule, N1, N13, N15, Breaks, IsNormal}
use Rattle.closed_tables.specs.Tables.{OpTables}
use Rattle.closed_tables.proofs.Normal.{tables_show_normal}
use Rattle.source_machine.specs.declared.event.SourceEvent.TheVariants.{Begin, Access}
use Rattle.source_machine.specs.declared.state.SourceCaller.{SourceCaller}
use Rattle.source_machine.specs.declared.state.SourceMachine.{SourceMachine}
use Rattle.source_machine.specs.State.{source_start, idle_caller}
use Rattle.source_machine.specs.Run.{source_step, IsSourceRun}
use Rattle.run_ahead.specs.Typed.{IsTyped}
use Rattle.run_ahead.specs.TypedCallers.{IsTypedCaller}
use Rattle.run_ahead.proofs.TypedCallers.{stands_asked}
use Rattle.run_ahead.proofs.TypedRuns.{memory_is_typed, callers_are_typed}
use Rattle.worked_rows.specs.Small.{n1, r0, r1}
use Rattle.worked_rows.specs.TypedRows.{mated_fields, mated_roots, follows, follow, mated, to_the_key, StandsAtKey, TypedRows}

-- ---- the rules that ask for no kind of nodes: as of a text of one kind with the same operation

abbrev alone : Text
alone = record {
  kinds = item_kind ∷ [];
  fields =
      record { owner = 0; name = []; kind = holdings.Number }
      ∷ record { owner = 0; name = []; kind = holdings.Reference 0 }
      ∷ [];
  roots = record { name = []; kind = holdings.Reference 0; start = starts.Node 0 } ∷ [];
  nodes = [];
  ops = follow ∷ [];
}

abbrev tables : OpTables
unfolding r0 r1
tables = record {
  generator = record { may_be_fresh = []; surely_fresh = []; set = [] ∷ (r0 ∷ []) ∷ (r0 ∷ r1 ∷ []) ∷ (r0 ∷ r1 ∷ []) ∷ []; level = []; rank = 0 ∷ 1 ∷ 2 ∷ 3 ∷ [] };
  wrapup = record { may_be_fresh = []; surely_fresh = []; set = []; level = []; rank = [] };
}

alone_is_normal : IsNormal alone
alone_is_normal = tables_show_normal alone (tables ∷ []) refl

-- ---- what r0 and r1 may be of

never : {P : Type 0} → false ≡ true → P
never is = absurd (let no : false ≡ true = is in cc)

-- the root has given r0 kind 1 before the load of the mate
root_gives : (start : ℕ → ℕ → Bool) (path : List ℕ) (t : ℕ) → IsPath follows path 1 → kinds_along mated_fields mated_roots start follows path 0 t ≡ true → t ≡ 1
root_gives start [] t leads has = let no : ⊥ = omega (arith, leads) in absurd no
root_gives start (zero ∷ path) t leads has = let same : 1 ≡ t = grind (arith, nat_tests) in omega (arith, same)
root_gives start (suc (suc (suc zero)) ∷ path) t leads has = never leads.0.0
root_gives start _ t leads has = never leads.0.0

-- the field has given r1 kind 0 before the load of the key
field_gives : (start : ℕ → ℕ → Bool) (path : List ℕ) (t : ℕ) → IsPath follows path 2 → kinds_along mated_fields mated_roots start follows path 1 t ≡ true → t ≡ 0
field_gives start [] t leads has = let no : ⊥ = omega (arith, leads) in absurd no
field_gives start (suc zero ∷ path) t leads has = let same : 0 ≡ t = grind (arith, nat_tests) in omega (arith, same)
field_gives start (suc (suc (suc zero)) ∷ path) t leads has = never leads.0.0
field_gives start _ t leads has = never leads.0.0

-- a load whose base may be of one kind alone, that which is asked
one_kind : (at base asked : ℕ) → ((t : ℕ) → MayHaveKind mated.fields mated.roots follow false base at t → t ≡ asked)
    → (r k t : ℕ) → ((r == base) && (asked == k)) ≡ true → MayHaveKind mated.fields mated.roots follow false r at t → t ≢ k → ⊥
one_kind at base asked only r k t asks may differs =
    let parts = and_parts (r == base) (asked == k) asks in
    let named : (r == base) ≡ true = parts.0 in
    let owned : (asked == k) ≡ true = parts.1 in
    let first : r ≡ base = grind (arith, nat_tests) in
    let same : asked ≡ k = grind (arith, nat_tests) in
    let is : t ≡ asked = only t (subst (λ (n : ℕ). MayHaveKind mated.fields mated.roots follow false n at t) first may) in
    differs (omega (arith, same, is))

mate_keeps : ¬ MixesKinds mated follow false 1 (LoadField r1 r0 1)
mate_keeps mixes = ⊎_elim
    (λ (several : false ≡ true). never several)
    (λ (other : HasOtherKind mated follow false 1 (LoadField r1 r0 1)).
    one_kind 1 0 1 (λ t may. root_gives may.start may.path t may.leads may.has) other.register other.asked other.kind other.asks_it other.may other.differs)
    mixes

key_keeps : ¬ MixesKinds mated follow false 2 (LoadField n1 r1 0)
key_keeps mixes = ⊎_elim
    (λ (several : false ≡ true). never several)
    (λ (other : HasOtherKind mated follow false 2 (LoadField n1 r1 0)).
    one_kind 2 1 0 (λ t may. field_gives may.start may.path t may.leads may.has) other.register other.asked other.kind other.asks_it other.may other.differs)
    mixes

-- an instruction that picks from no roots and asks for no kind
asks_none : (wrapup : Bool) (at : ℕ) (i : Instr) → (false ≡ true) ⊎ HasOtherKind mated follow wrapup at i → (HasOtherKind mated follow wrapup at i → false ≡ true) → ⊥
asks_none wrapup at i mixes none = ⊎_elim (λ (several : false ≡ true). never several) (λ (other : HasOtherKind mated follow wrapup at i). never (none other)) mixes

normal : IsNormal mated
normal breach broken = by breach.rule breach.op breach.wrapup breach.at broken where
  by : (rule : Rule) (op : ℕ) (wrapup : Bool) (at : ℕ) → Breaks mated (record { rule = rule; op = op; wrapup = wrapup; at = at }) → ⊥
  by rule (suc op) wrapup at broken = broken
  by N1 zero false zero broken = never broken
  by N1 zero false (suc zero) broken = never broken
  by N1 zero false (suc (suc zero)) broken = never broken
  by N1 zero false (suc (suc (suc zero))) broken = never broken
  by N1 zero false (suc (suc (suc (suc at)))) broken = broken
  by N1 zero true zero broken = never broken
  by N1 zero true (suc at) broken = broken
  by N13 zero false zero broken = never broken
  by N13 zero false (suc zero) broken = never broken
  by N13 zero false (suc (suc zero)) broken = never broken
  by N13 zero false (suc (suc (suc zero))) broken = never broken
  by N13 zero false (suc (suc (suc (suc at)))) broken = broken
  by N13 zero true zero broken = never broken
  by N13 zero true (suc at) broken = broken
  by N15 zero false zero broken = asks_none false 0 (LoadRoot r0 0) broken (λ other. other.asks_it)
  by N15 zero false (suc zero) broken = mate_keeps broken
  by N15 zero false (suc (suc zero)) broken = key_keeps broken
  by N15 zero false (suc (suc (suc zero))) broken = asks_none false 3 (Commit []) broken (λ other. other.asks_it)
  by N15 zero false (suc (suc (suc (suc at)))) broken = broken
  by N15 zero true zero broken = asks_none true 0 ReturnNone broken (λ other. other.asks_it)
  by N15 zero true (suc at) broken = broken
  by x zero wrapup at broken = alone_is_normal (record { rule = x; op = 0; wrapup = wrapup; at = at }) broken

-- ---- the run

-- after the events
after : SourceMachine
after = source_step mated (source_step mated (source_step mated (source_start mated 1) (Begin 0 0 (0 ∷ 0 ∷ 0 ∷ 0 ∷ []))) (Access 0 0)) (Access 0 0)

runs : IsSourceRun mated 1 to_the_key after
unfolding after
runs = record { some = omega arith; runs = refl }

within : IsWithinLimits mated
within = refl

memory : IsTyped mated after.memory
memory = memory_is_typed mated normal within 1 to_the_key after runs

caller : SourceCaller
unfolding after
caller = unwrap_or (slice_get after.callers 0) idle_caller

there : slice_get after.callers 0 ≡ Some caller
unfolding after caller
there = refl

typed : IsTypedCaller mated after.memory.nodes caller
typed = callers_are_typed mated normal within 1 to_the_key after runs 0 caller there

stands : StandsAtKey after
unfolding after caller
stands = record {
  caller = caller;
  is = there;
  typed = typed;
  pair = memory.roots.0;
  item = stands_asked mated normal 0 follow false refl 2 (LoadField n1 r1 0) after.memory.nodes (with_reference (with_reference (first_registers (0 ∷ 0 ∷ 0 ∷ 0 ∷ [])) r0 (record { node = 2; marked = false })) r1 (record { node = 1; marked = false })) refl (typed follow refl) 1 0 refl;
}

pub typed_rows : TypedRows
typed_rows = record { normal = normal; within = within; state = after; run = runs; memory = memory; stands = stands }
