-- A target that erases to a text in normal form has sane code.
use Rattle.std.proofs.Common.{◌≡◌, ℕ, ◌<◌, false, Option, Some, None, List, Bool, sym, ap, subst, ◌∙◌}
use Rattle.std.specs.Prelude.{length, slice_get, option_map, IsTrue}
use Rattle.std.proofs.lemmas.Option.{slice_get-map}
use Rattle.norm_lang.specs.declared.text.Reg.{Reg}
use Rattle.norm_lang.specs.declared.text.Instr.{Instr}
use Rattle.norm_lang.specs.declared.text.Instr.TheVariants as instr
use Rattle.norm_lang.specs.declared.text.Text.{Text}
use Rattle.norm_lang.specs.Grammar.{is_new}
use Rattle.norm_lang.specs.Local.{Spot}
use Rattle.target_laws.proofs.local_laws.Bounded.{settled}
use Rattle.target_code.specs.declared.target.TargetInstr.{TargetInstr}
use Rattle.target_code.specs.declared.target.TargetInstr.TheVariants.{Plain, Check, Guard}
use Rattle.target_code.specs.declared.target.TargetOp.{TargetOp}
use Rattle.target_code.specs.declared.target.Target.{Target}
use Rattle.target_code.specs.Paths.{TargetPath, target_goes_from}
use Rattle.target_code.specs.Erasing.{erased_op, ErasesTo}
use Rattle.target_code.specs.TargetLimits.{is_target_instr}
use Rattle.target_code.specs.LocalCode.{target_next_spot, target_run}
use Rattle.target_laws.specs.Methods.{Method, code_in}
use Rattle.target_code.specs.PathStates.{IsSurelyFreshInTarget}
use Rattle.target_laws.specs.Rules.{IsInForm}
use Rattle.target_laws.proofs.Filled.{item_passes}
use Rattle.target_laws.proofs.Forms.{instructions_are_in_form}
use Rattle.target_laws.proofs.FreshRules.{new_is_passed_once, puts_go_to_fresh}
use Rattle.target_laws.proofs.InText.{targets_stay_inside}
use Rattle.target_laws.proofs.TargetSettled.{target_code_settles}
use Rattle.target_laws.specs.target_runs.Runnable.{MayBeWalked}
use Rattle.target_laws.specs.target_runs.Sane.{InstrSane, SaneAt, SaneCode, RunnableIsSane}
use Rattle.target_laws.proofs.target_runs.Limited.{MethodLimits, op_limits, some_op}

-- a method of a target that callers may run, and the text's
module _ {target : Target} {text : Text} (runs : MayBeWalked target text) (method : Method target text) where
  -- a `new` stands in a generator
  generates : (at : ℕ) (i : Instr) (path : List ℕ) → slice_get (code_in method) at ≡ Some (Plain i) → TargetPath (code_in method) path at → IsTrue (is_new i) → method.wrapup ≡ false
  generates at (instr.New d kind) path is leads new = (new_is_passed_once target text runs.normal runs.erases method path at d kind (record { leads = leads; stands = is })).0
  generates at _ path is leads new = absurd cc

  instr_sane : (at : ℕ) (i : TargetInstr) (path : List ℕ) → slice_get (code_in method) at ≡ Some i → TargetPath (code_in method) path at → InstrSane target method.wrapup (length (code_in method)) i
  instr_sane at (Plain i) path is leads = record {
    form = subst (λ (t : Text). IsInForm t.fields t.roots method.wrapup (length (code_in method)) i) (sym runs.erases)
        (instructions_are_in_form target text runs.normal runs.erases method at i is);
    news = generates at i path is leads;
  }
  instr_sane at Check path is leads = tt
  instr_sane at (Guard r) path is leads = tt

  pub limits : MethodLimits target (code_in method)
  limits = op_limits target method.number method.compiled method.wrapup runs.within method.in_target

  sane_at : (at : ℕ) (i : TargetInstr) (path : List ℕ) → slice_get (code_in method) at ≡ Some i → TargetPath (code_in method) path at → SaneAt target method.wrapup (code_in method) at i
  sane_at at i path is leads = record {
    limits = item_passes (is_target_instr (length target.kinds) (length target.fields) (length target.roots)) (code_in method) at i limits.each is;
    own = instr_sane at i path is leads;
    goes = subst (λ (o : Option TargetInstr). (to : ℕ) → IsTrue (target_goes_from o at to) → to < length (code_in method)) is
        (λ to goes. targets_stay_inside target text runs.small runs.normal runs.erases method path at to leads goes);
  }

  ends : (spot : Spot) → target_next_spot (code_in method) (target_run (code_in method) (length (code_in method)) spot) ≡ None
  ends spot =
      settled (target_next_spot (code_in method)) spot (target_run (code_in method) (length (code_in method)) spot)
      (target_code_settles target text runs.normal runs.erases method spot)

  puts : (at : ℕ) (a b : Reg) (f : ℕ) → slice_get (code_in method) at ≡ Some (Plain (instr.Put a f b)) → IsSurelyFreshInTarget (code_in method) a at
  puts at a b f is path leads = (puts_go_to_fresh target text runs.normal runs.erases method path at a b f (record { leads = leads; stands = is })).1

  code_sane : SaneCode target method.wrapup (code_in method)
  code_sane = record { short = limits.short; news = limits.news; each = sane_at; ends = ends; puts = puts }

-- the method of the text of which one of the target's is compiled
abbrev of_text : {target : Target} {text : Text} → ErasesTo target text → (number : ℕ) (wrapup : Bool) (compiled : TargetOp) → slice_get target.ops number ≡ Some compiled → Method target text
of_text {target = target} {text = text} erases number wrapup compiled is = record {
  number = number;
  wrapup = wrapup;
  op = erased_op compiled;
  compiled = compiled;
  in_text = ap (λ (t : Text). slice_get t.ops number) (sym erases) ∙ (slice_get-map erased_op target.ops number ∙ ap (option_map erased_op) is);
  in_target = is;
}

pub runnable_is_sane : RunnableIsSane
runnable_is_sane target text runs = record {
  ops = some_op target runs.within;
  some = λ number wrapup op is. (limits runs (of_text runs.erases number wrapup op is)).some;
  method = λ number wrapup op is. code_sane runs (of_text runs.erases number wrapup op is);
}
