-- Which accesses of a sweep end its claim: the load of the phase alone, if it finds the last phase.
use Rattle.std.proofs.Common.{◌≡◌, ℕ, zero, ◌&&◌, Bool, true, false, Option, Some, None, if◌then◌else◌, refl}
use Rattle.std.specs.Prelude.{◌==◌}
use Rattle.oa_words.specs.declared.packed.Kind.TheVariants as kinds
use Rattle.oa_words.specs.Words.{Sizes}
use Rattle.oa_words.specs.Packed.{status_parts, status_word, head_word}
use Rattle.phase_pools.specs.declared.access.ClaimEnd.{ClaimEnd}
use Rattle.phase_pools.specs.declared.access.ClaimEnd.TheVariants as ends
use Rattle.phase_pools.specs.declared.access.SweepEnd.TheVariants as swept
use Rattle.phase_pools.specs.declared.stages.SweepStage.{SweepStage}
use Rattle.phase_pools.specs.declared.stages.SweepStage.TheVariants as sweeps
use Rattle.oa_words.specs.Packed.{HeadParts}
use Rattle.phase_pools.specs.declared.stages.Scheme.{Scheme}
use Rattle.phase_pools.specs.declared.stages.Scheme.TheVariants.{Announced}
use Rattle.phase_pools.specs.Pools.{sweep_follows, look_begun, Sweep, SweepTurn, sweep_goes, sweep_ends, sweep_on, sweep_accepts_at, sweep_accepts, Claim, look_ended, claim_sweeps, finds_last, phases_end}
use Rattle.phase_pools.proofs.Statuses.{from_slot, from_status}

-- a turn of a sweep after which its claim goes on
abbrev Onward : SweepTurn → Type 0
Onward turn = (claim : Claim) → (claim_sweeps claim turn).ended ≡ None

either : (test : Bool) (x y : SweepTurn) → Onward x → Onward y → Onward (if test then x else y)
either true x y here there = here
either false x y here there = there

on : (n : Sizes) (sweep : Sweep) (j : ℕ) → Onward (sweep_on n sweep j)
on n sweep j = from_slot Onward n sweep j (λ more claim. refl) (λ claim. refl)

over : (sweep : Sweep) (p : ℕ) (claim : Claim) (test : Bool)
    → (claim_sweeps claim (if test then sweep_ends sweep (swept.PhasesOver p) else sweep_goes sweep (sweeps.RaisePhase p))).ended ≡ phases_end test p
over sweep p claim true = refl
over sweep p claim false = refl

-- the end of a claim whose sweep found a word
at_stage : (n : Sizes) (last word : ℕ) (sweep : Sweep) (claim : Claim) (stage : SweepStage)
    → (claim_sweeps claim (sweep_accepts_at n last sweep word stage)).ended ≡ phases_end (finds_last last stage word) word
at_stage n last word sweep claim sweeps.ReadPhase = over sweep word claim (word == last)
at_stage n last word sweep claim (sweeps.ReadStatus j) = from_status Onward n sweep j (status_parts word) (on n sweep j) (λ p is below away claim. refl) claim
at_stage n last word sweep claim (sweeps.MakeReady j q) = either (word == status_word q kinds.Retired) _ _ (λ claim. refl) (on n sweep j) claim
at_stage n last word sweep claim (sweeps.PushTop k j q t) = either (word == head_word n.tops q t) _ _ (on n sweep j) (λ claim. refl) claim
at_stage n last word sweep claim _ = refl

pub sweep_end : (n : Sizes) (last word : ℕ) (claim : Claim) → (claim_sweeps claim (sweep_accepts n last claim.sweep word)).ended ≡ phases_end (finds_last last claim.sweep.stage word) word
sweep_end n last word claim = at_stage n last word claim.sweep claim claim.sweep.stage

-- ---- looks

follows : (scheme : Scheme) (made : ℕ) (claim : Claim) → (sweep_follows scheme made claim).ended ≡ None
follows (Announced own) zero claim = refl
follows _ _ claim = refl

abbrev full_end : Bool → Option ClaimEnd
full_end over = if over then Some ends.Full else None

after_look : (claim : Claim) (over : Bool) → claim.sweeps == 2 ≡ over → (look_ended claim).ended ≡ full_end over
after_look claim true is = rw is refl
after_look claim false is = rw is (follows claim.sweep.scheme claim.sweeps claim)

by_top : (claim : Claim) (head : HeadParts) (empty over : Bool) → head.top == 0 ≡ empty → claim.sweeps == 2 ≡ over → (look_begun claim head).ended ≡ full_end (empty && over)
by_top claim head true over top is = rw top (after_look claim over is)
by_top claim head false over top is = rw top refl

-- the end of a claim whose look has loaded the head
pub look_end : (claim : Claim) (head : HeadParts) → (look_begun claim head).ended ≡ (if head.top == 0 && claim.sweeps == 2 then Some ends.Full else None)
look_end claim head = by_top claim head (head.top == 0) (claim.sweeps == 2) refl refl
