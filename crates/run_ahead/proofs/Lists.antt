-- The commit, and the exchanges of its list.
use Rattle.std.proofs.Common.{◌≡◌, ℕ, ◌+◌, Bool, false, List, length, Some, None, refl, sym, ap, ◌∙◌}
use Rattle.std.specs.Prelude.{slice_get, nat_lt, if◌then◌else◌}
use Rattle.norm_lang.specs.declared.text.CasEntry.{CasEntry}
use Rattle.norm_lang.specs.declared.text.Instr.TheVariants as instr
use Rattle.norm_lang.specs.declared.text.Op.{Op}
use Rattle.norm_lang.specs.declared.text.Text.{Text}
use Rattle.norm_lang.specs.declared.registers.Registers.{Registers}
use Rattle.norm_lang.specs.Kept.{code_of}
use Rattle.norm_lang.specs.Local.{Spot}
use Rattle.norm_lang.specs.Registers.{first_registers}
use Rattle.source_machine.specs.declared.event.SourceEvent.TheVariants as events
use Rattle.source_machine.specs.Memory.{exchange}
use Rattle.source_machine.specs.MethodRuns.{run_begun}
use Rattle.source_machine.specs.declared.state.Stand.TheVariants.{InList}
use Rattle.source_machine.specs.declared.state.Memory.{Memory}
use Rattle.source_machine.specs.declared.state.SourceCaller.{SourceCaller}
use Rattle.source_machine.specs.Step.{goes_on, generator_stand, list_turn, entry_turn, Turn, turn_of, caller_turn}
use Rattle.target_code.specs.declared.target.TargetInstr.TheVariants.{Plain}
use Rattle.target_code.specs.Erasing.{source_place}
use Rattle.target_code.specs.declared.target.Target.{Target}
use Rattle.target_laws.specs.Methods.{Method, code_in, generator_of}
use Rattle.run_ahead.specs.Ahead.{IsErased}
use Rattle.run_ahead.specs.Following.{StandsAhead}
use Rattle.run_ahead.specs.MethodLaws.{Turns, CommitsAreFollowed, ListsAreMade}
use Rattle.run_ahead.specs.Standing.{Call, caller_of, stands_at, running_at, stands_in_list, wrap_up_after}
use Rattle.run_ahead.proofs.Enabled.{list_is_enabled}
use Rattle.run_ahead.proofs.Plain.{at_place}
use Rattle.run_ahead.proofs.Quiet.{source_ahead, stands_there}
use Rattle.run_ahead.proofs.Standing.{performs, wrap_up_begins}
use Rattle.run_ahead.proofs.Watched.{list_watched}

-- ---- the commit

-- at a commit the source's caller stands before the list's first exchange
pub commit_stands : {target : Target} {text : Text} (method : Method target text) (started : Registers) (accessed : Bool) (call : Call) (at : ℕ) (mirror : Registers) (there : Spot) (caller : SourceCaller) (entries : List CasEntry)
    → IsErased target text → StandsAhead method started accessed call at mirror there caller → method.wrapup ≡ false → slice_get (code_in method) at ≡ Some (Plain (instr.Commit entries))
    → caller ≡ stands_in_list (source_place (code_in method) at) entries 0 mirror call
commit_stands method started accessed call at mirror there caller entries erased ahead generator is =
    let place = source_place (code_in method) in
    let here = at_place method erased at (Plain (instr.Commit entries)) is in
    let comes = stands_there method at mirror there (instr.Commit entries) erased is refl ahead.settles in
    let in_generator : slice_get method.op.generator (place at) ≡ Some (instr.Commit entries) = sym (ap (λ b. slice_get (code_of method.op b) (place at)) generator) ∙ here.0 in
    ahead.stands ∙ (ap (λ b. stands_at method.op b started accessed call there) generator
    ∙ (ap (λ (s : Spot). stands_at method.op false started accessed call s) (sym comes)
    ∙ ap (λ o. goes_on (running_at call mirror (generator_stand o (place at))) (caller_of call)) in_generator))

pub commits_are_followed : (calm : Type 0) → CommitsAreFollowed calm
commits_are_followed calm target text erased home method call path core mirror accessed caller f entries is =
    commit_stands (generator_of method) (first_registers call.args) accessed call core.at mirror f.there caller entries erased (source_ahead f) refl is

-- ---- the list

list_access : (text : Text) (c : ℕ) (op : Op) (at : ℕ) (entries : List CasEntry) (made : ℕ) (registers : Registers) (call : Call) (memory : Memory) → slice_get text.ops call.number ≡ Some op
    → caller_turn text (events.Access c 0) memory (stands_in_list at entries made registers call)
    ≡ entry_turn text.fields op at entries made (slice_get entries made) (running_at call registers (InList at entries made)) memory (stands_in_list at entries made registers call)
list_access text c op at entries made registers call memory is =
    ap (λ here. turn_of text (events.Access c 0) here memory (stands_in_list at entries made registers call)) (performs text op (running_at call registers (InList at entries made)) (caller_of call) is)

-- where it leads is where it turns
list_turns : (text : Text) (c : ℕ) (op : Op) (at : ℕ) (entries : List CasEntry) (made : ℕ) (registers : Registers) (call : Call) (memory : Memory) (turn : Turn) → slice_get text.ops call.number ≡ Some op
    → caller_turn text (events.Access c 0) memory (stands_in_list at entries made registers call) ≡ turn → Turns text (events.Access c 0) memory (stands_in_list at entries made registers call) turn
list_turns text c op at entries made registers call memory turn is turns = record {
  enabled = list_is_enabled text c op at entries made registers call memory is;
  turns = turns;
  run = λ was. list_watched text c op at entries made registers call memory was is ∙ ap (λ (t : Turn). run_begun t.memory) turns;
}

-- no exchange is left
list_ends : (text : Text) (c : ℕ) (op : Op) (at : ℕ) (entries : List CasEntry) (made : ℕ) (registers : Registers) (call : Call) (memory : Memory) → slice_get text.ops call.number ≡ Some op → slice_get entries made ≡ None
    → caller_turn text (events.Access c 0) memory (stands_in_list at entries made registers call) ≡ record { memory = memory; caller = wrap_up_after op made registers call }
list_ends text c op at entries made registers call memory is none =
    list_access text c op at entries made registers call memory is
    ∙ (ap (λ o. entry_turn text.fields op at entries made o (running_at call registers (InList at entries made)) memory (stands_in_list at entries made registers call)) none
    ∙ ap (λ caller. record { memory = memory; caller = caller }) (wrap_up_begins op call made registers (InList at entries made)))

-- an exchange that fails
list_fails : (text : Text) (c : ℕ) (op : Op) (at : ℕ) (entries : List CasEntry) (made : ℕ) (registers : Registers) (call : Call) (memory : Memory) (entry : CasEntry) → slice_get text.ops call.number ≡ Some op
    → slice_get entries made ≡ Some entry → exchange text.fields entry registers memory ≡ None
    → caller_turn text (events.Access c 0) memory (stands_in_list at entries made registers call) ≡ record { memory = memory; caller = wrap_up_after op made registers call }
list_fails text c op at entries made registers call memory entry is there fails =
    list_access text c op at entries made registers call memory is
    ∙ (ap (λ o. entry_turn text.fields op at entries made o (running_at call registers (InList at entries made)) memory (stands_in_list at entries made registers call)) there
    ∙ (ap (λ o. list_turn op at entries made o (running_at call registers (InList at entries made)) memory (stands_in_list at entries made registers call)) fails
    ∙ ap (λ caller. record { memory = memory; caller = caller }) (wrap_up_begins op call made registers (InList at entries made))))

-- one that succeeds: the next of the list, or the wrap-up
list_succeeds : (text : Text) (c : ℕ) (op : Op) (at : ℕ) (entries : List CasEntry) (made : ℕ) (registers : Registers) (call : Call) (memory after : Memory) (entry : CasEntry) → slice_get text.ops call.number ≡ Some op
    → slice_get entries made ≡ Some entry → exchange text.fields entry registers memory ≡ Some after
    → caller_turn text (events.Access c 0) memory (stands_in_list at entries made registers call)
    ≡ record { memory = after; caller = if nat_lt (made + 1) (length entries) then stands_in_list at entries (made + 1) registers call else wrap_up_after op (made + 1) registers call }
list_succeeds text c op at entries made registers call memory after entry is there succeeds =
    list_access text c op at entries made registers call memory is
    ∙ (ap (λ o. entry_turn text.fields op at entries made o (running_at call registers (InList at entries made)) memory (stands_in_list at entries made registers call)) there
    ∙ (ap (λ o. list_turn op at entries made o (running_at call registers (InList at entries made)) memory (stands_in_list at entries made registers call)) succeeds
    ∙ ap (λ caller. record { memory = after; caller = if nat_lt (made + 1) (length entries) then stands_in_list at entries (made + 1) registers call else caller }) (wrap_up_begins op call (made + 1) registers (InList at entries made))))

pub lists_are_made : ListsAreMade
lists_are_made text c op at entries made registers call memory is = record {
  ends = λ none. list_turns text c op at entries made registers call memory _ is (list_ends text c op at entries made registers call memory is none);
  fails = λ entry there fails. list_turns text c op at entries made registers call memory _ is (list_fails text c op at entries made registers call memory entry is there fails);
  succeeds = λ entry after there succeeds. list_turns text c op at entries made registers call memory _ is (list_succeeds text c op at entries made registers call memory after entry is there succeeds);
}
