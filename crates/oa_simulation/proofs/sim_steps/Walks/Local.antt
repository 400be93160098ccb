-- Local code, to where it stops.
use Rattle.std.proofs.Common.{ℕ, zero, suc, ◌≡◌, ◌∙◌, Bool, false, List, ◌∷◌, Option, Some, None, ◌⊎◌, inl, inr, sym, ap, subst, refl}
use Rattle.std.specs.Prelude.{slice_get, IsTrue}
use Rattle.norm_lang.specs.declared.text.Instr.{Instr}
use Rattle.norm_lang.specs.declared.text.Instr.TheVariants as instr
use Rattle.norm_lang.specs.declared.registers.Registers.{Registers}
use Rattle.norm_lang.specs.Grammar.{is_new}
use Rattle.norm_lang.specs.Local.{Spot, local_step, go_on}
use Rattle.target_code.specs.declared.target.TargetInstr.{TargetInstr}
use Rattle.target_code.specs.declared.target.TargetInstr.TheVariants.{Plain}
use Rattle.target_code.specs.LocalCode.{target_run, target_local_at as core_local_at}
use Rattle.caller_steps.specs.Entries.{code_in as core_code}
use Rattle.norm_lang.specs.declared.text.Reg.{Reg}
use Rattle.norm_lang.specs.declared.text.Reg.TheVariants.{Ref}
use Rattle.norm_lang.specs.PathRules.{reads_openly}
use Rattle.norm_lang.specs.RegisterUse.{reads}
use Rattle.target_code.specs.Paths.{TargetPath}
use Rattle.target_code.specs.PathStates.{is_fresh_along}
use Rattle.target_laws.proofs.FreshRules.{open_reads_are_not_fresh}
use Rattle.target_laws.specs.Methods.{code_in, Method}
use Rattle.run_ahead.proofs.Local.{local_mirrors, local_held, mirrored_keeps}
use Rattle.run_ahead.proofs.Getting.{local_got}
use Rattle.run_ahead.specs.Ahead.{IsErased, erasing}
use Rattle.oa_simulation.specs.sim_relation.Views.{Plan, IsPlan, Shared, Caller}
use Rattle.oa_simulation.specs.sim_relation.Shared.{SharedHolds}
use Rattle.oa_simulation.specs.sim_relation.Callers.{Shown, Calm, Trail, Walks, Running}
use Rattle.oa_simulation.specs.sim_relation.Steps.{walked}
use Rattle.oa_simulation.specs.sim_relation.WasSet.{set_by, set_if_local, set_on}
use Rattle.oa_simulation.proofs.sim_steps.Walks.Along.{walks_along, gets_along, guards_along}
use Rattle.oa_simulation.proofs.sim_relation.Codes.{code_is, blank}
use Rattle.target_code.specs.declared.target.Target.{Target}
use Rattle.norm_lang.specs.declared.text.Text.{Text}
use Rattle.norm_lang.specs.Registers.{node_in}

pub local_is_old : (i : Instr) (at : ℕ) (registers : Registers) (next : Spot) → local_step i at registers ≡ Some next → is_new i ≡ false
local_is_old (instr.New d kind) at registers next is = absurd (let z : None ≡ Some next = is in cc)
local_is_old _ at registers next is = refl

abbrev pub at_spot : Caller → Spot → Caller
at_spot x spot = walked x spot x.entry.hand.accessed x.held x.was_set

abbrev pub having_set : Caller → (ℕ → Bool) → Caller
having_set x were = record x { was_set = were }

-- what local code reads it reads openly
local_opens : (i : Instr) (at : ℕ) (registers : Registers) (next : Spot) (r : Reg) → local_step i at registers ≡ Some next → IsTrue (reads r i) → IsTrue (reads_openly r i)
local_opens (instr.Put a f b) at registers next r is read = absurd (let z : None ≡ Some next = is in cc)
local_opens (instr.Commit entries) at registers next r is read = absurd (let z : None ≡ Some next = is in cc)
local_opens _ at registers next r is read = read

-- so what it puts into a register isn't the caller's own
pub local_shown : {target : Target} {text : Text} (s : Shared) (method : Method target text) (path : List ℕ) (mirror : Registers) (i : Instr) (core next : Spot) (given : ℕ) → IsErased target text → slice_get (code_in method) core.at ≡ Some (Plain i) → local_step i core.at core.registers ≡ Some next
    → TargetPath (code_in method) path core.at → ((r : ℕ) → is_fresh_along (code_in method) path (Ref r) ≡ false → Shown s (node_in mirror r))
    → (given ≡ 0) ⊎ ((r : ℕ) × IsTrue (reads (Ref r) i) × (node_in mirror r ≡ given)) → Shown s given
local_shown s method path mirror i core next given erased is step leads shown (inl z) = inl z
local_shown {target = target} {text = text} s method path mirror i core next given erased is step leads shown (inr read) = subst (λ (n : ℕ). Shown s n) read.2
    (shown read.0 (open_reads_are_not_fresh target text erased.normal erased.erases method path core.at i (Ref read.0) (record { leads = leads; stands = is }) (local_opens i core.at core.registers next (Ref read.0) step read.1)))

pub local_goes : (t : Plan) (s : Shared) (c : ℕ) (x : Caller) (core next : Spot) → IsPlan t → SharedHolds t s → core_local_at (slice_get (core_code t.target x.entry) core.at) core.at core.registers ≡ Some next
    → Running t s c x core → Running t s c (at_spot (having_set x (set_by (slice_get (core_code t.target x.entry) core.at) x.was_set)) next) next
local_goes t s c x core next plan f goes walk = of (slice_get (core_code t.target x.entry) core.at) refl goes where
  m : Trail t
  m = walk.0

  of : (o : Option TargetInstr) → slice_get (core_code t.target x.entry) core.at ≡ o → core_local_at o core.at core.registers ≡ Some next → Running t s c (at_spot (having_set x (set_by o x.was_set)) next) next
  of (Some (Plain i)) there step =
      let w : Walks t s c x core walk.0 = walk.1 in
      let is : slice_get (code_in walk.0.walk.method) core.at ≡ Some (Plain i) = sym (ap (λ (code : List TargetInstr). slice_get code core.at) (code_is t s c x core walk.0 w)) ∙ there in
      let made = local_mirrors walk.0.walk.method t.home (Calm s c x) walk.0.path core next walk.0.mirror walk.0.there i plan.compiled plan.null is step w.ahead in
      let ahead = mirrored_keeps walk.0.walk.method t.home (Calm s c x) walk.0.path core next walk.0.mirror walk.0.there i plan.compiled is step w.ahead made in
      let got = local_got walk.0.walk.method (erasing plan.compiled) t.home (λ A. A) walk.0.path core.at i made.given core.registers walk.0.mirror next.registers made.mirror' walk.0.walk.started x.held.got next w.ahead.path_is is step made.changes made.known (blank walk.0.walk w.generator) walk.3.got in (
        record { walk = walk.0.walk; path = core.at ∷ walk.0.path; mirror = made.mirror'; there = walk.0.there },
        walks_along t s c x core next walk.0 i made.given (λ A. A) made.mirror' walk.0.there x.entry.hand.accessed x.held plan.null f is made.changes
            (λ trusted. local_held walk.0.walk.method t.home (Calm s c x) walk.0.path core next walk.0.mirror walk.0.there i plan.compiled is w.ahead made)
            ahead w,
        walk.2,
        gets_along t s c x core next walk.0 i made.given (λ A. A) made.mirror' walk.0.there x.entry.hand.accessed x.held is (local_is_old i core.at core.registers next step) made.changes got (λ n is. is) (λ n k is held here. is)
            (λ gen r set. local_shown s walk.0.walk.method walk.0.path walk.0.mirror i core next made.given (erasing plan.compiled) is step walk.1.ahead.path_is (walk.3.shown gen) made.known) walk.3,
        guards_along t s c x core next walk.0 i made.given (λ A. A) made.mirror' walk.0.there x.entry.hand.accessed x.held is (local_is_old i core.at core.registers next step) made.changes walk.4,
      )
  of _ there step = absurd (let z : None ≡ Some next = step in cc)

pub local_runs : (t : Plan) (s : Shared) (c : ℕ) (x : Caller) (n : ℕ) (spot : Spot) → IsPlan t → SharedHolds t s → Running t s c (at_spot x spot) spot
    → Running t s c (at_spot (having_set x (set_on (core_code t.target x.entry) n x.was_set spot)) (target_run (core_code t.target x.entry) n spot)) (target_run (core_code t.target x.entry) n spot)
local_runs t s c x zero spot plan f walk = walk
local_runs t s c x (suc n) spot plan f walk =
    by_next (core_local_at (slice_get (core_code t.target x.entry) spot.at) spot.at spot.registers) refl (λ next go. local_runs t s c (having_set x (set_by (slice_get (core_code t.target x.entry) spot.at) x.was_set)) n next plan f go)
  where
    by_next : (o : Option Spot) → core_local_at (slice_get (core_code t.target x.entry) spot.at) spot.at spot.registers ≡ o
        → ((next : Spot) → Running t s c (at_spot (having_set x (set_by (slice_get (core_code t.target x.entry) spot.at) x.was_set)) next) next
        → Running t s c (at_spot (having_set x (set_on (core_code t.target x.entry) n (set_by (slice_get (core_code t.target x.entry) spot.at) x.was_set) next)) (target_run (core_code t.target x.entry) n next)) (target_run (core_code t.target x.entry) n next))
        → Running t s c (at_spot (having_set x (set_if_local o x.was_set (set_on (core_code t.target x.entry) n (set_by (slice_get (core_code t.target x.entry) spot.at) x.was_set)))) (go_on o spot (target_run (core_code t.target x.entry) n))) (go_on o spot (target_run (core_code t.target x.entry) n))
    by_next None is more = walk
    by_next (Some next) is more = more next (local_goes t s c (at_spot x spot) spot next plan f is walk)
