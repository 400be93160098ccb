-- What is kept by each instruction holds along every path.
use Rattle.std.proofs.Common.{◌≡◌, ℕ, ◌≤◌, ◌<◌, true, false, not, List, [], ◌∷◌, Option, Some, None, refl, sym, subst, arith}
use Rattle.std.specs.Prelude.{slice_get, IsTrue}
use Rattle.norm_lang.specs.declared.text.Instr.{Instr}
use Rattle.norm_lang.specs.Flow.{Leads, passed, state_along, goes_to, goes_from, IsSuccessor, IsPath}
use Rattle.norm_lang.specs.PathRules.{looks_at, is_blind}
use Rattle.closed_tables.specs.Laws.{TablesHold}
use Rattle.closed_tables.proofs.Tests.{and_left, and_right}

over : {S : Type 0} (after : Instr → S → S) (code : List Instr) (Holds : ℕ → S → Type 0)
    → ((at next : ℕ) (i : Instr) (state : S) → slice_get code at ≡ Some i → IsTrue (goes_to i at next) → Holds at state → Holds next (after i state))
    → (last to : ℕ) (found : Option Instr) (state : S) → slice_get code last ≡ found → IsTrue (goes_from found last to) → Holds last state
    → Holds to (passed after found state)
over after code Holds keeps last to None state get goes here = absurd (let z : false ≡ true = goes in cc)
over after code Holds keeps last to (Some i) state get goes here = keeps last to i state get goes here

-- what holds of the first place and state, and goes over from each instruction to the next, holds along every path
pub along : {S : Type 0} (after : Instr → S → S) (start : S) (code : List Instr) (Holds : ℕ → S → Type 0) → Holds 0 start
    → ((at next : ℕ) (i : Instr) (state : S) → slice_get code at ≡ Some i → IsTrue (goes_to i at next) → Holds at state → Holds next (after i state))
    → (path : List ℕ) (to : ℕ) → IsPath code path to → Holds to (state_along after start code path)
along after start code Holds begins keeps [] to leads = subst (λ k. Holds k start) (sym leads) begins
along after start code Holds begins keeps (last ∷ path) to leads =
    over after code Holds keeps last to (slice_get code last) (state_along after start code path) refl leads.0.0
    (along after start code Holds begins keeps path last leads.1)

pub tables_hold : TablesHold
tables_hold after start code table begins keeps path to leads = along after start code (λ at state. IsTrue (table at state)) begins keeps path to leads

-- a number that never falls on the way, and rises from the start, is higher at the end of a path that isn't empty
pub climbs : (Next : ℕ → ℕ → Type 0) (height : ℕ → ℕ) (start : ℕ) → ((at next : ℕ) → Next at next → height at ≤ height next)
    → ((next : ℕ) → Next start next → height start < height next)
    → (last : ℕ) (path : List ℕ) (to : ℕ) → Leads Next start (last ∷ path) to → height start < height to
climbs Next height start weak strict last [] to leads = strict to (subst (λ k. Next k to) leads.1 leads.0)
climbs Next height start weak strict last (before ∷ path) to leads =
    let a : height start < height last = climbs Next height start weak strict before path last leads.1 in
    let b : height last ≤ height to = weak last to leads.0 in
    omega (arith, a, b)

-- a step from an instruction that doesn't look
abbrev pub Blindly : List Instr → ℕ → ℕ → Type 0
Blindly code at next = IsSuccessor code at next × IsTrue (not (looks_at (slice_get code at)))

pub blind_leads : (code : List Instr) (start : ℕ) (path : List ℕ) (to : ℕ) → Leads (IsSuccessor code) start path to → IsTrue (is_blind code path)
    → Leads (Blindly code) start path to
blind_leads code start [] to leads blind = leads
blind_leads code start (last ∷ path) to leads blind = (
  (leads.0, and_left (not (looks_at (slice_get code last))) (is_blind code path) blind),
  blind_leads code start path last leads.1 (and_right (not (looks_at (slice_get code last))) (is_blind code path) blind),
)
