-- The source's caller follows the core's local code, a check that passes, a guard and a warning.
use Rattle.std.proofs.Common.{◌≡◌, ℕ, zero, suc, Bool, false, List, [], ◌∷◌, ◌++◌, length, Option, Some, None, refl, sym, ap, subst, ◌∙◌}
use Rattle.std.specs.Prelude.{slice_get, if◌then◌else◌}
use Rattle.norm_lang.specs.declared.text.Instr.{Instr}
use Rattle.norm_lang.specs.declared.text.Instr.TheVariants as instr
use Rattle.norm_lang.specs.declared.text.Text.{Text}
use Rattle.norm_lang.specs.declared.registers.Registers.{Registers}
use Rattle.norm_lang.specs.Grammar.{is_new}
use Rattle.norm_lang.specs.Local.{Spot, go_on, local_step}
use Rattle.norm_lang.specs.Registers.{node_in}
use Rattle.source_machine.specs.declared.state.SourceCaller.{SourceCaller}
use Rattle.target_code.specs.declared.target.TargetInstr.{TargetInstr}
use Rattle.target_code.specs.declared.target.TargetInstr.TheVariants.{Plain, Check, Guard}
use Rattle.target_code.specs.declared.target.Target.{Target}
use Rattle.target_code.specs.LocalCode.{target_local_at, target_next_spot, target_run}
use Rattle.target_laws.specs.Methods.{code_in}
use Rattle.target_laws.proofs.InText.{paths_lead_inside}
use Rattle.target_laws.proofs.TargetSettled.{target_code_settles, target_settles_inside}
use Rattle.run_ahead.specs.Ahead.{IsCompiled, erasing, Ahead}
use Rattle.run_ahead.specs.Following.{Walk, HasBegun, Follows}
use Rattle.run_ahead.specs.Guards.{no_guards, GuardsStand}
use Rattle.run_ahead.specs.LocalLaws.{RunsTo, RunsOn, LocalRunsAreFollowed, PassedChecksConfirm, GuardsPublish, WarnedAreFollowed}
use Rattle.run_ahead.proofs.Getting.{local_got, check_got, guard_got}
use Rattle.run_ahead.proofs.GuardRows.{plain_guards, check_guards, guard_guards}
use Rattle.run_ahead.proofs.Local.{local_mirrors, mirrored_keeps}
use Rattle.run_ahead.proofs.Quiet.{check_keeps, check_trusts, guard_keeps, less_calm}
use Rattle.run_ahead.proofs.Starting.{first_is_blank}
use Rattle.run_ahead.proofs.Telling.{told_hoped}

-- ---- the source stays where it stood

pub same_stand : {target : Target} {text : Text} (walk : Walk target text) (home : ℕ → ℕ) (calm calm' : Type 0) (path path' : List ℕ) (core core' : Spot) (mirror mirror' : Registers) (accessed : Bool) (caller : SourceCaller)
    → (f : Follows walk home calm path core mirror accessed caller) → Ahead walk.method home calm' path' core' mirror' f.there → Follows walk home calm' path' core' mirror' accessed caller
same_stand walk home calm calm' path path' core core' mirror mirror' accessed caller f ahead = record { there = f.there; begun = f.begun; stands = f.stands; unmoved = f.unmoved; ahead = ahead }

-- a generator's walk begins without names
pub walk_is_blank : {target : Target} {text : Text} (walk : Walk target text) (home : ℕ → ℕ) → HasBegun walk home → walk.method.wrapup ≡ false → (r : ℕ) → node_in walk.started r ≡ 0
walk_is_blank walk home begun generator r = ap (λ registers. node_in registers r) (begun.generator generator).1 ∙ first_is_blank walk.call.args r

-- ---- local code

no_new : (i : Instr) (at : ℕ) (registers : Registers) (next : Spot) → local_step i at registers ≡ Some next → is_new i ≡ false
no_new (instr.New d kind) at registers next is = absurd (let never : None ≡ Some next = is in cc)
no_new _ at registers next is = refl

-- one local instruction
plain_follows : {target : Target} {text : Text} (walk : Walk target text) (home : ℕ → ℕ) (calm : Type 0) (path : List ℕ) (core next : Spot) (mirror : Registers) (accessed : Bool) (caller : SourceCaller) (i : Instr)
    → IsCompiled target text → home 0 ≡ 0 → slice_get (code_in walk.method) core.at ≡ Some (Plain i) → local_step i core.at core.registers ≡ Some next
    → Follows walk home calm path core mirror accessed caller → RunsTo walk home calm path mirror accessed caller (core.at ∷ path) next
plain_follows walk home calm path core next mirror accessed caller i compiled null is step f =
    let made = local_mirrors walk.method home calm path core next mirror f.there i compiled null is step f.ahead in
    let kept = mirrored_keeps walk.method home calm path core next mirror f.there i compiled is step f.ahead made in
    record {
      mirror' = made.mirror';
      follows = same_stand walk home calm calm path (core.at ∷ path) core next mirror made.mirror' accessed caller f kept;
      got = λ names was. local_got walk.method (erasing compiled) home (λ A. A) path core.at i made.given core.registers mirror next.registers made.mirror' walk.started names next f.ahead.path_is is step made.changes made.known
          (walk_is_blank walk home f.begun) was;
      guards = λ row stands. subst (λ b. GuardsStand walk.method (core.at ∷ path) made.mirror' (if b then no_guards else row)) (no_new i core.at core.registers next step)
          (plain_guards walk.method home (λ A. A) path core.at i made.given core.registers mirror next.registers made.mirror' row is made.changes stands);
    }

local_follows : {target : Target} {text : Text} (walk : Walk target text) (home : ℕ → ℕ) (calm : Type 0) (path : List ℕ) (core next : Spot) (mirror : Registers) (accessed : Bool) (caller : SourceCaller)
    → IsCompiled target text → home 0 ≡ 0 → target_next_spot (code_in walk.method) core ≡ Some next
    → Follows walk home calm path core mirror accessed caller → RunsTo walk home calm path mirror accessed caller (core.at ∷ path) next
local_follows walk home calm path core next mirror accessed caller compiled null is f = by_option (slice_get (code_in walk.method) core.at) refl is
  where
    by_option : (o : Option TargetInstr) → slice_get (code_in walk.method) core.at ≡ o → target_local_at o core.at core.registers ≡ Some next → RunsTo walk home calm path mirror accessed caller (core.at ∷ path) next
    by_option None there step = absurd (let no : None ≡ Some next = step in cc)
    by_option (Some Check) there step = absurd (let no : None ≡ Some next = step in cc)
    by_option (Some (Guard r)) there step = absurd (let no : None ≡ Some next = step in cc)
    by_option (Some (Plain i)) there step = plain_follows walk home calm path core next mirror accessed caller i compiled null there step f

joined : (xs : List ℕ) (x : ℕ) (ys : List ℕ) → (xs ++ (x ∷ [])) ++ ys ≡ xs ++ (x ∷ ys)
joined [] x ys = refl
joined (first ∷ xs) x ys = ap (λ rest. first ∷ rest) (joined xs x ys)

-- at most so many
pub run_follows : {target : Target} {text : Text} (walk : Walk target text) (home : ℕ → ℕ) (calm : Type 0) (n : ℕ) (path : List ℕ) (core : Spot) (mirror : Registers) (accessed : Bool) (caller : SourceCaller)
    → IsCompiled target text → home 0 ≡ 0 → Follows walk home calm path core mirror accessed caller → RunsOn walk home calm path mirror accessed caller (target_run (code_in walk.method) n core)
run_follows walk home calm zero path core mirror accessed caller compiled null f = ([], record { mirror' = mirror; follows = f; got = λ names was. was; guards = λ row stands. stands })
run_follows walk home calm (suc n) path core mirror accessed caller compiled null f =
    by_next (target_next_spot (code_in walk.method) core) refl (λ next mirror' follows. run_follows walk home calm n (core.at ∷ path) next mirror' accessed caller compiled null follows)
  where
    by_next : (o : Option Spot) → target_next_spot (code_in walk.method) core ≡ o
        → ((next : Spot) (mirror' : Registers) → Follows walk home calm (core.at ∷ path) next mirror' accessed caller
        → RunsOn walk home calm (core.at ∷ path) mirror' accessed caller (target_run (code_in walk.method) n next))
        → RunsOn walk home calm path mirror accessed caller (go_on o core (target_run (code_in walk.method) n))
    by_next None is rest = ([], record { mirror' = mirror; follows = f; got = λ names was. was; guards = λ row stands. stands })
    by_next (Some next) is rest =
        let one = local_follows walk home calm path core next mirror accessed caller compiled null is f in
        let more = rest next one.mirror' one.follows in
        let last = target_run (code_in walk.method) n next in (
          more.0 ++ (core.at ∷ []),
          subst (λ (whole : List ℕ). RunsTo walk home calm path mirror accessed caller whole last) (sym (joined more.0 core.at path))
              (record { mirror' = more.1.mirror'; follows = more.1.follows; got = λ names was. more.1.got names (one.got names was); guards = λ row stands. more.1.guards row (one.guards row stands) }),
        )

pub local_runs_are_followed : (calm : Type 0) → LocalRunsAreFollowed calm
local_runs_are_followed calm target text compiled home null walk path core mirror accessed caller f =
    let code = code_in walk.method in
    let erases = compiled.barred.erases in (
      run_follows walk home calm (length code) path core mirror accessed caller compiled null f,
      target_settles_inside target text compiled.normal erases walk.method core (target_run code (length code) core)
          (paths_lead_inside target text compiled.within compiled.normal erases walk.method path core.at f.ahead.path_is).1
          (target_code_settles target text compiled.normal erases walk.method core),
    )

-- ---- checks, guards and warnings

pub passed_checks_confirm : (calm : Type 0) → PassedChecksConfirm calm
passed_checks_confirm calm target text erased home walk path core mirror accessed caller f is now apart = record {
  follows = same_stand walk home calm calm path (core.at ∷ path) core _ mirror mirror accessed caller f (check_keeps walk.method home calm path core mirror f.there erased is now apart f.ahead);
  agree = λ r hopes. told_hoped calm _ _ now hopes (f.ahead.agree r);
  trusted = λ r hopes. check_trusts walk.method path core.at r is hopes;
  got = λ names was. check_got walk.method path core.at walk.started mirror names is was;
  guards = λ row stands. check_guards walk.method path core.at mirror row is stands;
}

pub guards_publish : (calm : Type 0) → GuardsPublish calm
guards_publish calm target text erased home walk path core mirror accessed caller f guarded is = record {
  follows = same_stand walk home calm calm path (core.at ∷ path) core _ mirror mirror accessed caller f (guard_keeps walk.method home calm path core mirror f.there guarded erased is f.ahead);
  got = λ names was. guard_got walk.method path core.at guarded walk.started mirror names is was;
  guards = λ row stands. guard_guards walk.method path core.at guarded mirror row is stands;
}

pub warned_are_followed : (calm calm' : Type 0) → WarnedAreFollowed calm calm'
warned_are_followed calm calm' target text home walk path core mirror accessed caller less f =
    same_stand walk home calm calm' path path core core mirror mirror accessed caller f (less_calm walk.method home calm calm' path core mirror f.there less f.ahead)
