-- The end of a wrap-up, and a caller that gives up.
use Rattle.std.proofs.Common.{◌≡◌, ℕ, Bool, true, false, Some, None, refl, sym, ap, subst, ◌∙◌}
use Rattle.std.specs.Prelude.{slice_get, IsTrue}
use Rattle.norm_lang.specs.declared.text.Instr.{Instr}
use Rattle.norm_lang.specs.declared.text.Instr.TheVariants as instr
use Rattle.norm_lang.specs.declared.text.Op.{Op}
use Rattle.norm_lang.specs.declared.text.Reg.{Reg}
use Rattle.norm_lang.specs.declared.text.Text.{Text}
use Rattle.norm_lang.specs.declared.registers.Registers.{Registers}
use Rattle.norm_lang.specs.Kept.{code_of}
use Rattle.norm_lang.specs.Local.{Spot, local_step}
use Rattle.norm_lang.specs.RegisterUse.{reads}
use Rattle.source_machine.specs.declared.event.SourceEvent.TheVariants as events
use Rattle.norm_lang.specs.declared.reply.SourceReply.TheVariants as replies
use Rattle.norm_lang.specs.Flow.{is_end}
use Rattle.source_machine.specs.MethodRuns.{run_begun, run_after}
use Rattle.source_machine.specs.Run.{is_end_at, is_new_at, is_enabled_for}
use Rattle.source_machine.specs.declared.state.Stand.TheVariants.{InWrapUp}
use Rattle.source_machine.specs.declared.state.SourceCaller.{SourceCaller}
use Rattle.source_machine.specs.Step.{replied, wrap_up_end, Turn, caller_turn}
use Rattle.target_code.specs.declared.target.TargetInstr.TheVariants.{Plain}
use Rattle.target_code.specs.Erasing.{source_place, redirected}
use Rattle.target_code.specs.declared.target.Target.{Target}
use Rattle.target_laws.specs.Methods.{Method, code_in, wrapup_of}
use Rattle.target_laws.proofs.FreshRules.{new_is_passed_once}
use Rattle.run_ahead.specs.Agreeing.{Agree}
use Rattle.run_ahead.specs.Ahead.{IsErased, erasing}
use Rattle.run_ahead.specs.Following.{StandsAhead}
use Rattle.run_ahead.specs.MethodLaws.{ended_at, Ends, EndsAreFollowed, GivingUpIsFollowed}
use Rattle.run_ahead.specs.Standing.{Call, caller_of, stands_at, running_at}
use Rattle.run_ahead.proofs.Enabled.{end_is_enabled, gives_up}
use Rattle.run_ahead.proofs.Mirroring.{numbers_agree, reads_first}
use Rattle.run_ahead.proofs.Plain.{at_place, agrees_at}
use Rattle.run_ahead.proofs.Quiet.{source_ahead, stands_there}
use Rattle.run_ahead.proofs.Standing.{end_at_is, wrap_up_ends}
use Rattle.run_ahead.proofs.Watched.{end_watched, give_up_run}

-- ---- the end of a wrap-up

end_stays : (place : ℕ → ℕ) (i : Instr) → IsTrue (is_end i) → redirected place i ≡ i
end_stays place (instr.Return a) ends = refl
end_stays place instr.ReturnNone ends = refl
end_stays place instr.Again ends = refl
end_stays place _ ends = absurd (let no : false ≡ true = ends in cc)

end_not_local : (place : ℕ → ℕ) (i : Instr) (at : ℕ) (registers : Registers) → IsTrue (is_end i) → local_step (redirected place i) at registers ≡ None
end_not_local place (instr.Return a) at registers ends = refl
end_not_local place instr.ReturnNone at registers ends = refl
end_not_local place instr.Again at registers ends = refl
end_not_local place _ at registers ends = absurd (let no : false ≡ true = ends in cc)

-- where it leaves the source's caller, with the number that the core's register holds
ended_is : (op : Op) (i : Instr) (home : ℕ → ℕ) (here mirror : Registers) (call : Call) (at : ℕ) (started : Registers) → IsTrue (is_end i) → ((r : _) → IsTrue (reads r i) → Agree home here mirror r)
    → wrap_up_end op (Some i) (running_at call mirror (InWrapUp at started false)) (caller_of call) ≡ ended_at op i here call
ended_is op (instr.Return a) home here mirror call at started ends agree = ap (λ n. replied (replies.Number n) (caller_of call)) (sym (numbers_agree home here mirror a (agree a (reads_first a false))))
ended_is op instr.ReturnNone home here mirror call at started ends agree = refl
ended_is op instr.Again home here mirror call at started ends agree = refl
ended_is op _ home here mirror call at started ends agree = absurd (let never : false ≡ true = ends in cc)

-- what it reads agrees
pub end_turns : {target : Target} {text : Text} (method : Method target text) (home : ℕ → ℕ) (started : Registers) (accessed : Bool) (call : Call) (core : Spot) (mirror : Registers) (there : Spot) (caller : SourceCaller) (i : Instr)
    → IsErased target text → StandsAhead (wrapup_of method) started accessed call core.at mirror there caller → slice_get (code_in (wrapup_of method)) core.at ≡ Some (Plain i) → IsTrue (is_end i)
    → ((r : Reg) → IsTrue (reads r i) → Agree home core.registers mirror r) → Ends method call core accessed caller i
end_turns {text = text} method home started accessed call core mirror there caller i erased ahead is ends agree =
    let wrapup = wrapup_of method in
    let place = source_place (code_in wrapup) in
    let spot : Spot = record { at = place core.at; registers = mirror } in
    let here = at_place wrapup erased core.at (Plain i) is in
    let comes = stands_there wrapup core.at mirror there i erased is (end_not_local place i (place core.at) mirror ends) ahead.settles in
    let instruction : slice_get method.op.wrapup (place core.at) ≡ Some i = here.0 ∙ ap (λ j. Some j) (end_stays place i ends) in
    let ended : IsTrue (is_end_at (slice_get method.op.wrapup (place core.at))) = subst (λ o. IsTrue (is_end_at o)) (sym instruction) (sym (end_at_is i) ∙ ends) in
    let op : slice_get text.ops call.number ≡ Some method.op = ap (slice_get text.ops) ahead.number ∙ method.in_text in
    let stands : caller ≡ stands_at method.op true started accessed call spot = ahead.stands ∙ ap (λ (s : Spot). stands_at method.op true started accessed call s) (sym comes) in
    let leaves : stands_at method.op true started false call spot ≡ ended_at method.op i core.registers call =
    ap (λ o. wrap_up_end method.op o (running_at call mirror (InWrapUp (place core.at) started false)) (caller_of call)) instruction
    ∙ ended_is method.op i home core.registers mirror call (place core.at) started ends agree in
    record {
      ended = λ none. stands ∙ (ap (λ b. stands_at method.op true started b call spot) none ∙ leaves);
      ends = λ made c memory. (let at_end : caller ≡ stands_at method.op true started true call spot = stands ∙ ap (λ b. stands_at method.op true started b call spot) made in
          let turns = ap (λ z. caller_turn text (events.Access c 0) memory z) at_end ∙ wrap_up_ends text c method.op started call spot memory op ended in
          record {
            enabled = ap (λ z. is_enabled_for text (events.Access c 0) (Some z) memory) at_end ∙ end_is_enabled text c method.op started call spot memory op ended;
            turns = turns ∙ ap (λ z. record { memory = memory; caller = z }) leaves;
            run = λ was. ap (λ z. run_after text (events.Access c 0) memory z was) at_end ∙ end_watched text c method.op started call spot memory was op ended;
          });
    }

pub ends_are_followed : (calm : Type 0) → EndsAreFollowed calm
ends_are_followed calm target text compiled home method call first started path core mirror accessed caller f i is ends =
    end_turns method home started accessed call core mirror f.there caller i (erasing compiled) (source_ahead f) is ends
    (λ r read. agrees_at (wrapup_of method) home calm path core mirror f.there i r compiled is read f.ahead)

-- ---- a caller gives up

-- where it stands, in a generator
in_generator : (op : Op) (wrapup : Bool) (started : Registers) (accessed : Bool) (call : Call) (there : Spot) → wrapup ≡ false → stands_at op wrapup started accessed call there ≡ stands_at op false started accessed call there
in_generator op wrapup started accessed call there is = ap (λ b. stands_at op b started accessed call there) is

pub giving_up_is_followed : (calm : Type 0) → GivingUpIsFollowed calm
giving_up_is_followed calm target text erased home walk path core mirror accessed caller f d kind is c phase memory =
    let method = walk.method in
    let place = source_place (code_in method) in
    let spot : Spot = record { at = place core.at; registers = mirror } in
    let generator = (new_is_passed_once target text erased.normal erased.erases method path core.at d kind (record { leads = f.ahead.path_is; stands = is })).0 in
    let here = at_place method erased core.at (Plain (instr.New d kind)) is in
    let there = stands_there method core.at mirror f.there (instr.New d kind) erased is refl f.ahead.settles in
    let op : slice_get text.ops walk.call.number ≡ Some method.op = ap (slice_get text.ops) f.begun.number ∙ method.in_text in
    let new : IsTrue (is_new_at (slice_get method.op.generator (place core.at))) =
    subst (λ o. IsTrue (is_new_at o)) (sym (ap (λ b. slice_get (code_of method.op b) (place core.at)) (sym generator) ∙ here.0)) refl in
    let stands : caller ≡ stands_at method.op false walk.started accessed walk.call spot =
    f.stands ∙ (ap (λ (s : Spot). stands_at method.op method.wrapup walk.started accessed walk.call s) (sym there) ∙ in_generator method.op method.wrapup walk.started accessed walk.call spot generator) in
    let gives = gives_up text c phase method.op walk.started accessed walk.call spot memory op new in
    let turns = ap (λ z. caller_turn text (events.GiveUp c phase) memory z) stands ∙ gives.1 in
    record {
      enabled = ap (λ z. is_enabled_for text (events.GiveUp c phase) (Some z) memory) stands ∙ gives.0;
      turns = turns;
      run = λ was. give_up_run text c phase memory caller was ∙ ap (λ (t : Turn). run_begun t.memory) turns;
    }
