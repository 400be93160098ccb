-- Code whose jumps lead forward has no blind cycle.
use Rattle.std.proofs.Common.{◌≡◌, ℕ, ◌+◌, ◌<◌, ◌≤◌, inl, inr, true, false, ◌||◌, List, [], ◌∷◌, Option, Some, None, refl, arith}
use Rattle.std.specs.Prelude.{slice_get, IsTrue, ◌==◌, not}
use Rattle.std.proofs.lemmas.Bool.{and_parts, not-true, or_cases}
use Rattle.std.proofs.lemmas.Bool.Decides.{nat_tests}
use Rattle.norm_lang.specs.declared.text.Instr.{Instr}
use Rattle.norm_lang.specs.declared.text.Instr.TheVariants as instr
use Rattle.norm_lang.specs.Flow.{Leads, goes_from, IsSuccessor}
use Rattle.norm_lang.specs.PathRules.{looks_at, is_blind}
use Rattle.target_laws.specs.local_laws.Forward.{local_jump, LeadsForward, ForwardCodeSettles}
use Rattle.target_laws.specs.local_laws.Settling.{HasNoBlindCycle}
use Rattle.target_laws.proofs.local_laws.Settled.{settles}

next_is : (at to : ℕ) → ((at + 1 == to) || false) ≡ true → at < to
next_is at to goes = grind (arith, nat_tests, goes)

jump_is : (at l to : ℕ) → ((l == to) || false) ≡ true → at < l → at < to
jump_is at l to goes ahead = grind (arith, nat_tests, goes, ahead)

fork_is : (at l to : ℕ) → ((at + 1 == to) || ((l == to) || false)) ≡ true → at < l → at < to
fork_is at l to goes ahead = elim (or_cases (at + 1 == to) ((l == to) || false) goes) [
  | inl next ↦ grind (arith, nat_tests, next)
  | inr jump ↦ jump_is at l to jump ahead
]

-- an instruction that doesn't look goes forward
step_forward : (o : Option Instr) (at to : ℕ) → ((l : ℕ) → local_jump o ≡ Some l → at < l) → IsTrue (goes_from o at to) → looks_at o ≡ false → at < to
step_forward None at to forward goes blind = absurd (let no : false ≡ true = goes in cc)
step_forward (Some (instr.Jump l)) at to forward goes blind = jump_is at l to goes (forward l refl)
step_forward (Some (instr.IfEq a b l)) at to forward goes blind = fork_is at l to goes (forward l refl)
step_forward (Some (instr.IfLess a b l)) at to forward goes blind = fork_is at l to goes (forward l refl)
step_forward (Some (instr.IfMarked a l)) at to forward goes blind = fork_is at l to goes (forward l refl)
step_forward (Some (instr.Cas entry l)) at to forward goes blind = absurd (let no : true ≡ false = blind in cc)
step_forward (Some (instr.Commit entries)) at to forward goes blind = absurd (let no : false ≡ true = goes in cc)
step_forward (Some (instr.Return a)) at to forward goes blind = absurd (let no : false ≡ true = goes in cc)
step_forward (Some instr.ReturnNone) at to forward goes blind = absurd (let no : false ≡ true = goes in cc)
step_forward (Some instr.Again) at to forward goes blind = absurd (let no : false ≡ true = goes in cc)
step_forward (Some _) at to forward goes blind = next_is at to goes

way_forward : (code : List Instr) → LeadsForward code → (start : ℕ) (path : List ℕ) (to : ℕ) → Leads (IsSuccessor code) start path to → IsTrue (is_blind code path) → start ≤ to
way_forward code forward start [] to leads blind = omega (arith, leads)
way_forward code forward start (last ∷ path) to leads blind =
    let parts = and_parts (not (looks_at (slice_get code last))) (is_blind code path) blind in
    let before = way_forward code forward start path last leads.1 parts.1 in
    let step = step_forward (slice_get code last) last to (forward last) leads.0.0 (not-true (looks_at (slice_get code last)) parts.0) in
    omega (arith, before, step)

no_blind_cycle : (code : List Instr) → LeadsForward code → HasNoBlindCycle code
no_blind_cycle code forward at [] cycle blind = cycle
no_blind_cycle code forward at (last ∷ path) cycle blind =
    let parts = and_parts (not (looks_at (slice_get code last))) (is_blind code path) blind in
    let before = way_forward code forward at path last cycle.1 parts.1 in
    let step = step_forward (slice_get code last) last at (forward last) cycle.0.0 (not-true (looks_at (slice_get code last)) parts.0) in
    omega (arith, before, step)

pub forward_code_settles : ForwardCodeSettles
forward_code_settles code forward here = settles code (no_blind_cycle code forward) here
