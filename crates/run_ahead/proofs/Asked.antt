-- If the source's caller stands at an access, its registers are what the access asks them to be.
use Rattle.std.proofs.Common.{◌≡◌, ℕ, Bool, true, false, List, Option, Some, refl, sym, ap, subst, ◌∙◌}
use Rattle.std.specs.Prelude.{slice_get, IsTrue}
use Rattle.norm_lang.specs.declared.text.FieldDecl.{FieldDecl}
use Rattle.norm_lang.specs.declared.text.RootDecl.{RootDecl}
use Rattle.norm_lang.specs.declared.text.Instr.{Instr}
use Rattle.norm_lang.specs.declared.text.Instr.TheVariants as instr
use Rattle.norm_lang.specs.declared.text.Op.{Op}
use Rattle.norm_lang.specs.declared.text.Text.{Text}
use Rattle.norm_lang.specs.declared.registers.Registers.{Registers}
use Rattle.norm_lang.specs.Kept.{code_of}
use Rattle.norm_lang.specs.Kinds.{asks}
use Rattle.norm_lang.specs.Local.{Spot}
use Rattle.target_laws.specs.local_laws.Settling.{is_access}
use Rattle.source_machine.specs.declared.state.NamedNode.{NamedNode}
use Rattle.source_machine.specs.declared.state.SourceCaller.{SourceCaller}
use Rattle.source_machine.specs.declared.state.Stand.{Stand}
use Rattle.source_machine.specs.declared.state.Stand.TheVariants.{InWrapUp}
use Rattle.source_machine.specs.declared.state.Running.{Running}
use Rattle.source_machine.specs.Step.{is_access_at}
use Rattle.target_code.specs.declared.target.Target.{Target}
use Rattle.target_code.specs.declared.target.TargetInstr.TheVariants.{Plain}
use Rattle.target_code.specs.Erasing.{source_place, redirected}
use Rattle.target_laws.specs.Methods.{Method, code_in}
use Rattle.run_ahead.specs.Ahead.{IsErased}
use Rattle.run_ahead.specs.Following.{StandsAhead}
use Rattle.run_ahead.specs.NameLaws.{AccessesFindKinds, ListsFindKinds}
use Rattle.run_ahead.specs.Standing.{Call, caller_of, stands_at}
use Rattle.run_ahead.specs.Typed.{AreAsked}
use Rattle.run_ahead.specs.TypedCallers.{StandsTyped, IsTypedStand, IsTypedCaller}
use Rattle.run_ahead.proofs.Accessing.{still_access, not_local}
use Rattle.run_ahead.proofs.Plain.{at_place}
use Rattle.run_ahead.proofs.Quiet.{source_ahead, stands_there}
use Rattle.run_ahead.proofs.Standing.{generator_access, wrap_up_access}
use Rattle.run_ahead.proofs.TypedCallers.{stands_asked, list_asked}

-- what is asked doesn't depend on where a jump leads
asks_redirected : (fields : List FieldDecl) (roots : List RootDecl) (place : ℕ → ℕ) (i : Instr) (r k : ℕ) → asks fields roots (redirected place i) r k ≡ asks fields roots i r k
asks_redirected fields roots place (instr.Cas entry l) r k = refl
asks_redirected fields roots place _ r k = refl

-- a typed caller that stands at an access
pub typed_at_access : (text : Text) (op : Op) (wrapup : Bool) (started : Registers) (accessed : Bool) (call : Call) (spot : Spot) (nodes : List NamedNode) → slice_get text.ops call.number ≡ Some op
    → IsTrue (is_access_at (slice_get (code_of op wrapup) spot.at)) → IsTypedCaller text nodes (stands_at op wrapup started accessed call spot) → StandsTyped text op wrapup spot.at nodes spot.registers
typed_at_access text op false started accessed call spot nodes is access typed =
    subst (λ (s : Stand). IsTypedStand text op nodes spot.registers s) (generator_access (slice_get op.generator spot.at) spot.at access) (typed op is)
typed_at_access text op true started accessed call spot nodes is access typed =
    let running : Running = record { op = call.number; args = call.args; registers = spot.registers; stand = InWrapUp spot.at started accessed } in
    (subst (λ (caller : SourceCaller). IsTypedCaller text nodes caller) (wrap_up_access accessed op (slice_get op.wrapup spot.at) running (caller_of call) access) typed op is).1

-- so it is if the core has come to an access, and the source with it
pub asked_here : {target : Target} {text : Text} (method : Method target text) (started : Registers) (accessed : Bool) (call : Call) (at : ℕ) (mirror : Registers) (there : Spot) (caller : SourceCaller)
    (i : Instr) (nodes : List NamedNode) → IsErased target text → StandsAhead method started accessed call at mirror there caller
    → slice_get (code_in method) at ≡ Some (Plain i) → IsTrue (is_access i) → IsTypedCaller text nodes caller → AreAsked text i nodes mirror
asked_here {text = text} method started accessed call at mirror there caller i nodes erased ahead is access typed r k asked =
    let place = source_place (code_in method) in
    let spot : Spot = record { at = place at; registers = mirror } in
    let here = at_place method erased at (Plain i) is in
    let comes : spot ≡ there = stands_there method at mirror there i erased is (not_local place i (place at) mirror access) ahead.settles in
    let op : slice_get text.ops call.number ≡ Some method.op = ap (slice_get text.ops) ahead.number ∙ method.in_text in
    let at_access : IsTrue (is_access_at (slice_get (code_of method.op method.wrapup) (place at))) = subst (λ (o : Option Instr). IsTrue (is_access_at o)) (sym here.0) (still_access place i ∙ access) in
    let standing : StandsTyped text method.op method.wrapup (place at) nodes mirror =
    typed_at_access text method.op method.wrapup started accessed call spot nodes op at_access
    (subst (λ (z : SourceCaller). IsTypedCaller text nodes z) (ahead.stands ∙ ap (λ (s : Spot). stands_at method.op method.wrapup started accessed call s) (sym comes)) typed) in
    stands_asked text erased.normal method.number method.op method.wrapup method.in_text (place at) (redirected place i) nodes mirror here.0 standing r k (asks_redirected text.fields text.roots place i r k ∙ asked)

pub accesses_find_kinds : (calm : Type 0) → AccessesFindKinds calm
accesses_find_kinds calm target text erased home walk path core mirror accessed caller f nodes typed i is access =
    asked_here walk.method walk.started accessed walk.call core.at mirror f.there caller i nodes erased (source_ahead f) is access typed

pub lists_find_kinds : ListsFindKinds
lists_find_kinds text normal op at entries made registers call is nodes typed k entry there =
    let stands = typed op is in
    list_asked text normal call.number op is nodes at entries registers stands.0 stands.1 k entry there
