-- Where a walk begins: at a begin, after a list, after `again`.
use Rattle.std.proofs.Common.{◌≡◌, ℕ, true, false, List, [], Some, refl, ap, ◌∙◌}
use Rattle.std.specs.Prelude.{slice_get}
use Rattle.norm_lang.specs.declared.text.CasEntry.{CasEntry}
use Rattle.norm_lang.specs.declared.text.Instr.TheVariants as instr
use Rattle.norm_lang.specs.declared.text.Text.{Text}
use Rattle.norm_lang.specs.declared.registers.Registers.{Registers}
use Rattle.norm_lang.specs.Local.{Spot}
use Rattle.norm_lang.specs.NormalForm.{IsNormal}
use Rattle.norm_lang.specs.Registers.{first_registers, with_count}
use Rattle.source_machine.specs.declared.state.SourceCaller.{SourceCaller}
use Rattle.source_machine.specs.Step.{begun}
use Rattle.target_code.specs.declared.target.TargetInstr.TheVariants.{Plain}
use Rattle.target_code.specs.declared.target.Target.{Target}
use Rattle.target_laws.specs.Methods.{Method, code_in, generator_of}
use Rattle.run_ahead.specs.Ahead.{IsCompiled, Ahead}
use Rattle.run_ahead.specs.Following.{Walk, generator_walk, wrapup_walk, HasBegun, Follows}
use Rattle.run_ahead.specs.MethodLaws.{BeginsAreFollowed, WrapUpsBegin, AgainIsFollowed}
use Rattle.run_ahead.specs.Standing.{Call, caller_of, first_spot, begins_at, wrap_up_after}
use Rattle.run_ahead.proofs.Starting.{start_keeps, generator_start, wrapup_start}
use Rattle.run_ahead.proofs.Watched.{begin_run}

-- a method stands at its start
pub start_follows : {target : Target} {text : Text} (walk : Walk target text) (home : ℕ → ℕ) (calm : Type 0) (caller : SourceCaller) → IsNormal text → HasBegun walk home
    → caller ≡ begins_at walk.method.op walk.method.wrapup walk.started walk.call → Follows walk home calm [] (first_spot walk.first) walk.started false caller
start_follows walk home calm caller normal begun stands =
    record { there = _; begun = begun; ahead = start_keeps walk.method home calm walk.first walk.started normal begun.start; stands = stands; unmoved = λ wrapup still. refl }

-- ---- the generator

generator_begun : {target : Target} {text : Text} (method : Method target text) (call : Call) (home : ℕ → ℕ) → home 0 ≡ 0 → call.number ≡ method.number → HasBegun (generator_walk method call) home
generator_begun method call home null number = record { number = number; start = generator_start method home call.args null; generator = λ generator. (refl, refl) }

pub generator_follows : {target : Target} {text : Text} (method : Method target text) (call : Call) (home : ℕ → ℕ) (calm : Type 0) → IsNormal text → home 0 ≡ 0 → call.number ≡ method.number
    → Follows (generator_walk method call) home calm [] (first_spot (first_registers call.args)) (first_registers call.args) false (begins_at method.op false (first_registers call.args) call)
generator_follows method call home calm normal null number = start_follows (generator_walk method call) home calm _ normal (generator_begun method call home null number) refl

pub begins_are_followed : (calm : Type 0) → BeginsAreFollowed calm
begins_are_followed calm target text normal home null method call number right c memory = (
  record {
    enabled = right;
    turns = ap (λ o. record { memory = memory; caller = begun o call.number call.args (caller_of call) }) (ap (slice_get text.ops) number ∙ method.in_text);
    run = λ was. begin_run text c call.number call.args memory (caller_of call) was;
  },
  generator_follows method call home calm normal null number,
)

pub again_is_followed : (calm : Type 0) → AgainIsFollowed calm
again_is_followed calm target text normal home null method call number registers = generator_follows method call home calm normal null number

-- ---- the wrap-up

-- at any moment after the commit, also if the source's caller has moved on in its list
pub wrapup_follows : {target : Target} {text : Text} (method : Method target text) (call : Call) (home : ℕ → ℕ) (calm calm' : Type 0) (path : List ℕ) (core : Spot) (mirror : Registers) (there : Spot) (entries : List CasEntry) (made : ℕ)
    → IsCompiled target text → call.number ≡ method.number → slice_get (code_in (generator_of method)) core.at ≡ Some (Plain (instr.Commit entries)) → Ahead (generator_of method) home calm path core mirror there
    → Follows (wrapup_walk method call (with_count core.registers made) (with_count mirror made)) home calm' [] (first_spot (with_count core.registers made)) (with_count mirror made) false (wrap_up_after method.op made mirror call)
wrapup_follows method call home calm calm' path core mirror there entries made compiled number is a =
    start_follows (wrapup_walk method call (with_count core.registers made) (with_count mirror made)) home calm' _ compiled.normal
    (record { number = number; start = wrapup_start method home calm path core mirror there entries made compiled is a; generator = λ generator. absurd (let never : true ≡ false = generator in cc) }) refl

pub wrap_ups_begin : (calm calm' : Type 0) → WrapUpsBegin calm calm'
wrap_ups_begin calm calm' target text compiled home method call path core mirror accessed caller f entries made is =
    wrapup_follows method call home calm calm' path core mirror f.there entries made compiled f.begun.number is f.ahead
