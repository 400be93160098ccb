-- The tables show that an instruction keeps the rules.
use Rattle.std.proofs.Common.{◌≡◌, ℕ, ◌⊎◌, inl, inr, Bool, true, false, not, ◌&&◌, ◌||◌, List, Option, Some, None, refl, sym, ap, ◌∙◌}
use Rattle.std.specs.Prelude.{slice_get, IsTrue}
use Rattle.std.specs.List.{list_all}
use Rattle.std.proofs.lemmas.Bool.{or_cases}
use Rattle.norm_lang.specs.declared.text.Reg.{Reg}
use Rattle.norm_lang.specs.declared.text.Reg.TheVariants.{Num}
use Rattle.norm_lang.specs.declared.text.Instr.{Instr}
use Rattle.norm_lang.specs.declared.text.Instr.TheVariants as instr
use Rattle.norm_lang.specs.declared.text.Op.{Op}
use Rattle.norm_lang.specs.Grammar.{is_new}
use Rattle.norm_lang.specs.Flow.{IsPath, IsOnCycle, state_along}
use Rattle.norm_lang.specs.RegisterUse.{same_register, sources, reads_at, set_after}
use Rattle.norm_lang.specs.Freshness.{MayBeFresh, IsSurelyFresh}
use Rattle.norm_lang.specs.Kept.{code_of, holds_reference, IsKept, is_argument, IsSetAtCommits, StartsSet}
use Rattle.norm_lang.specs.PathRules.{reads_openly, is_commit, MakesNodesAgain, HasWrongPut, ShowsFresh, LeaksFresh, LoopsBlindly, ReadsUnset}
use Rattle.closed_tables.specs.Tables.{Tables, OpTables, tables_of, among, registers_at, is_closed, has_right_put, has_right_exchange, is_set_at_commits, starts_set, keeps_none}
use Rattle.closed_tables.proofs.Tests.{and_left, and_right, not_and_true, all_among, all_places}
use Rattle.closed_tables.proofs.Tables.{not_or, may_along, surely_along, set_along, set_stays, new_once, cycle_looks}

-- a register that may be fresh is among those of the table
pub may_fresh : (t : Tables) (code : List Instr) (r : Reg) (at : ℕ) → is_closed t code ≡ true → MayBeFresh code r at → among r (registers_at t.may_be_fresh at) ≡ true
may_fresh t code r at closed fresh = may_along t code r closed fresh.0 at fresh.1 fresh.2

pub surely_is : (t : Tables) (code : List Instr) (r : Reg) (at : ℕ) → is_closed t code ≡ true → among r (registers_at t.surely_fresh at) ≡ true → IsSurelyFresh code r at
surely_is t code r at closed is = λ path leads. surely_along t code r closed path at leads is

made_by : (op : Op) (wrapup : Bool) (t : Tables) (at : ℕ) (i : Instr) → is_closed t (code_of op wrapup) ≡ true → slice_get (code_of op wrapup) at ≡ Some i → is_new i ≡ true
    → not (wrapup && is_new i) ≡ true → IsTrue wrapup ⊎ IsOnCycle (code_of op wrapup) at → ⊥
made_by op wrapup t at i closed get new test (inl is) = not_and_true (wrapup && is_new i) test (ap (λ b. b && is_new i) is ∙ new)
made_by op wrapup t at i closed get new test (inr cycle) = new_once t (code_of op wrapup) at i closed get new cycle

put_by : (op : Op) (wrapup : Bool) (t : Tables) (at : ℕ) (a b : Reg) → is_closed t (code_of op wrapup) ≡ true
    → (not wrapup && (among a (registers_at t.surely_fresh at) && not (among b (registers_at t.may_be_fresh at)))) ≡ true
    → IsTrue wrapup ⊎ ((¬ IsSurelyFresh (code_of op wrapup) a at) ⊎ MayBeFresh (code_of op wrapup) b at) → ⊥
put_by op wrapup t at a b closed test (inl is) =
    not_and_true wrapup (and_left (not wrapup) (among a (registers_at t.surely_fresh at) && not (among b (registers_at t.may_be_fresh at))) test) is
put_by op wrapup t at a b closed test (inr (inl isnt)) =
    let both = and_right (not wrapup) (among a (registers_at t.surely_fresh at) && not (among b (registers_at t.may_be_fresh at))) test in
    isnt (surely_is t (code_of op wrapup) a at closed (and_left (among a (registers_at t.surely_fresh at)) (not (among b (registers_at t.may_be_fresh at))) both))
put_by op wrapup t at a b closed test (inr (inr fresh)) =
    let both = and_right (not wrapup) (among a (registers_at t.surely_fresh at) && not (among b (registers_at t.may_be_fresh at))) test in
    not_and_true (among b (registers_at t.may_be_fresh at)) (and_right (among a (registers_at t.surely_fresh at)) (not (among b (registers_at t.may_be_fresh at))) both)
    (may_fresh t (code_of op wrapup) b at closed fresh)

-- a `new` is made once
pub made_once : (op : Op) (wrapup : Bool) (t : Tables) (at : ℕ) (i : Instr) → is_closed t (code_of op wrapup) ≡ true → slice_get (code_of op wrapup) at ≡ Some i
    → not (wrapup && is_new i) ≡ true → MakesNodesAgain op wrapup at i → ⊥
made_once op wrapup t at (instr.New d kind) closed get test broken = made_by op wrapup t at (instr.New d kind) closed get refl test broken
made_once op wrapup t at _ closed get test broken = broken

-- a put comes in a generator, into a node that is surely fresh, of what can't be fresh
pub puts_right : (op : Op) (wrapup : Bool) (t : Tables) (at : ℕ) (i : Instr) → is_closed t (code_of op wrapup) ≡ true → has_right_put t wrapup at i ≡ true → HasWrongPut op wrapup at i → ⊥
puts_right op wrapup t at (instr.Put a f b) closed test broken = put_by op wrapup t at a b closed test broken
puts_right op wrapup t at _ closed test broken = broken

-- an auxiliary exchange puts in what can't be fresh
pub shows_none : (op : Op) (wrapup : Bool) (t : Tables) (at : ℕ) (i : Instr) → is_closed t (code_of op wrapup) ≡ true → has_right_exchange t at i ≡ true → ShowsFresh op wrapup at i → ⊥
shows_none op wrapup t at (instr.Cas entry l) closed test broken =
    not_and_true (among entry.replacement (registers_at t.may_be_fresh at)) test (may_fresh t (code_of op wrapup) entry.replacement at closed broken)
shows_none op wrapup t at _ closed test broken = broken

-- a register that is read at a place of the wrap-up is of numbers, or set on every path there
kept_never : (op : Op) (t : OpTables) (r : Reg) (at : ℕ) (found : Option Instr) → is_closed t.wrapup op.wrapup ≡ true → keeps_none op t ≡ true → slice_get op.wrapup at ≡ found
    → IsTrue (holds_reference r) → IsTrue (reads_at r found) → (path : List ℕ) → IsPath op.wrapup path at → state_along (set_after r) false op.wrapup path ≡ false → ⊥
kept_never op t r at None closed none get reference read path leads unset = let z : false ≡ true = read in cc
kept_never op t r at (Some i) closed none get reference read path leads unset =
    let each = all_places (λ at i. list_all (λ s. not (holds_reference s) || among s (registers_at t.wrapup.set at)) (sources i)) op.wrapup at i none get in
    let is = all_among (λ s. not (holds_reference s) || among s (registers_at t.wrapup.set at)) (sources i) r each read in
    let set = set_along t.wrapup op.wrapup r closed path at leads (not_or (holds_reference r) (among r (registers_at t.wrapup.set at)) is reference) in
    let z : false ≡ true = sym unset ∙ set in cc

-- the wrap-up keeps no reference
pub none_kept : (op : Op) (t : OpTables) (r : Reg) → is_closed t.wrapup op.wrapup ≡ true → keeps_none op t ≡ true → IsKept op r → ⊥
none_kept op t r closed none kept =
    let carried = kept.1 in
    kept_never op t r carried.0 (slice_get op.wrapup carried.0) closed none refl kept.0 carried.1 carried.2.0 carried.2.1 carried.2.2

-- a new node goes nowhere but to one place of shared memory
pub leaks_none : (op : Op) (wrapup : Bool) (t : Tables) (at : ℕ) (i : Instr) → is_closed t (code_of op wrapup) ≡ true → ((r : Reg) → IsKept op r → ⊥)
    → list_all (λ r. not (reads_openly r i)) (registers_at t.may_be_fresh at) ≡ true → LeaksFresh op wrapup at i → ⊥
leaks_none op wrapup t at i closed none test (inl leak) =
    not_and_true (reads_openly leak.0 i)
    (all_among (λ r. not (reads_openly r i)) (registers_at t.may_be_fresh at) leak.0 test (may_fresh t (code_of op wrapup) leak.0 at closed leak.2)) leak.1
leaks_none op wrapup t at i closed none test (inr leak) = none leak.1.0 leak.1.1

-- a register is set at each commit of the generator
set_at : (op : Op) (t : OpTables) (r : Reg) (at : ℕ) (path : List ℕ) (argument : Bool) → is_closed t.generator op.generator ≡ true → IsPath op.generator path at
    → (argument || among r (registers_at t.generator.set at)) ≡ true → state_along (set_after r) argument op.generator path ≡ true
set_at op t r at path true closed leads is = set_stays r op.generator path
set_at op t r at path false closed leads is = set_along t.generator op.generator r closed path at leads is

commits_set : (op : Op) (t : OpTables) (r : Reg) → is_closed t.generator op.generator ≡ true → is_set_at_commits op t r ≡ true → IsSetAtCommits op r
commits_set op t r closed is at entries get path leads =
    let here = all_places (λ at i. not (is_commit i) || (is_argument op r || among r (registers_at t.generator.set at))) op.generator at (instr.Commit entries) is get in
    set_at op t r at path (is_argument op r) closed leads here

starts_by : (op : Op) (t : OpTables) (wrapup : Bool) (r : Reg) → is_closed t.generator op.generator ≡ true → starts_set op t wrapup r ≡ true → StartsSet op wrapup r
starts_by op t false r closed is = is
starts_by op t true r closed is = elim (or_cases (same_register r (Num 7)) (is_set_at_commits op t r) is) [ inl same ↦ inl same | inr set ↦ inr (commits_set op t r closed set) ]

-- each register that is read is set at the start or on every path
pub reads_set : (op : Op) (t : OpTables) (wrapup : Bool) (at : ℕ) (i : Instr) → is_closed t.generator op.generator ≡ true → is_closed (tables_of t wrapup) (code_of op wrapup) ≡ true
    → list_all (λ r. starts_set op t wrapup r || among r (registers_at (tables_of t wrapup).set at)) (sources i) ≡ true → ReadsUnset op wrapup at i → ⊥
reads_set op t wrapup at i made closed test broken =
    let r = broken.0 in
    let unset = broken.2.0 in
    let path = broken.2.1 in
    elim (or_cases (starts_set op t wrapup r) (among r (registers_at (tables_of t wrapup).set at))
    (all_among (λ s. starts_set op t wrapup s || among s (registers_at (tables_of t wrapup).set at)) (sources i) r test broken.1)) [
      | inl starts ↦ unset (starts_by op t wrapup r made starts)
      | inr set ↦ (let z : false ≡ true = sym path.2 ∙ set_along (tables_of t wrapup) (code_of op wrapup) r closed path.0 at path.1 set in cc)
    ]

-- on each cycle an instruction looks
pub loops_none : (op : Op) (wrapup : Bool) (t : Tables) (at : ℕ) (i : Instr) → is_closed t (code_of op wrapup) ≡ true → LoopsBlindly op wrapup at i → ⊥
loops_none op wrapup t at i closed loop = cycle_looks t (code_of op wrapup) at loop.0 closed loop.1 loop.2
