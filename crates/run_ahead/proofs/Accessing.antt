-- Core and source make any access of a method.
use Rattle.std.proofs.Common.{◌≡◌, ℕ, Bool, true, false, List, ◌∷◌, Some, None, refl, sym, ap, subst, ◌∙◌}
use Rattle.std.specs.Prelude.{slice_get, IsTrue}
use Rattle.norm_lang.specs.declared.text.Instr.{Instr}
use Rattle.norm_lang.specs.declared.text.Instr.TheVariants as instr
use Rattle.norm_lang.specs.declared.text.Text.{Text}
use Rattle.norm_lang.specs.declared.registers.Registers.{Registers}
use Rattle.norm_lang.specs.Flow.{goes_to}
use Rattle.norm_lang.specs.Grammar.{is_new}
use Rattle.norm_lang.specs.Local.{Spot, local_step}
use Rattle.norm_lang.specs.RegisterUse.{destination}
use Rattle.target_laws.specs.local_laws.Settling.{is_access}
use Rattle.target_laws.proofs.local_laws.Settled.{local_code_settles}
use Rattle.source_machine.specs.declared.event.SourceEvent.TheVariants as events
use Rattle.source_machine.specs.Memory.{Reached, access_by, access_at}
use Rattle.source_machine.specs.MethodRuns.{MethodRun, with_name, run_with, name_got, run_after}
use Rattle.source_machine.specs.Run.{is_new_at, is_name, is_enabled_for}
use Rattle.source_machine.specs.declared.state.Memory.{Memory}
use Rattle.source_machine.specs.declared.state.SourceCaller.{SourceCaller}
use Rattle.source_machine.specs.Step.{is_access_at, Turn, caller_turn}
use Rattle.target_code.specs.declared.target.TargetInstr.TheVariants.{Plain}
use Rattle.target_code.specs.declared.target.Target.{Target}
use Rattle.target_code.specs.Erasing.{source_place, redirected}
use Rattle.target_laws.specs.Methods.{Method, code_in, source_in}
use Rattle.target_laws.specs.Trusted.{Trusted, trust_in_set, trust_along}
use Rattle.target_laws.proofs.Redirected.{is_new_redirected}
use Rattle.run_ahead.specs.AccessLaws.{AccessFollows}
use Rattle.run_ahead.specs.Agreeing.{Changes}
use Rattle.run_ahead.specs.Ahead.{AsTrusted, IsHeld, IsErased, Ahead}
use Rattle.run_ahead.specs.Following.{Walk, Follows, StandsAhead}
use Rattle.run_ahead.specs.Standing.{Call, stands_at, run_from}
use Rattle.run_ahead.proofs.Enabled.{access_is_enabled}
use Rattle.run_ahead.proofs.Getting.{given_got, more_got, plain_got}
use Rattle.run_ahead.proofs.GuardRows.{plain_guards}
use Rattle.run_ahead.proofs.Plain.{at_place, plain_keeps}
use Rattle.run_ahead.proofs.Quiet.{source_ahead, stands_there}
use Rattle.run_ahead.proofs.Standing.{accesses, accessed_same}
use Rattle.run_ahead.proofs.Watched.{access_watched}

-- ---- instructions with their jumps taken elsewhere

pub still_access : (place : ℕ → ℕ) (i : Instr) → is_access_at (Some (redirected place i)) ≡ is_access i
still_access place (instr.Cas entry l) = refl
still_access place _ = refl

new_at_is : (i : Instr) → is_new i ≡ is_new_at (Some i)
new_at_is (instr.New d kind) = refl
new_at_is _ = refl

pub still_new : (place : ℕ → ℕ) (i : Instr) → is_new_at (Some (redirected place i)) ≡ is_new i
still_new place i = sym (new_at_is (redirected place i)) ∙ is_new_redirected place i

-- an access isn't local
pub not_local : (place : ℕ → ℕ) (i : Instr) (at : ℕ) (registers : Registers) → IsTrue (is_access i) → local_step (redirected place i) at registers ≡ None
not_local place (instr.LoadRoot d x) at registers access = cc
not_local place _ at registers access = cc

-- ---- any access

-- the access that the source makes for the core's at a place
abbrev pub mirrored_access : {target : Target} {text : Text} → Method target text → ℕ → Instr → ℕ → Registers → Memory → Reached
mirrored_access {text = text} method name i at mirror memory = access_by text name (redirected (source_place (code_in method)) i) (source_place (code_in method) at) mirror memory

-- the source's caller is at the access. It makes it, and its local code runs on from where that leads
pub record AccessTurns {target : Target} {text : Text} (method : Method target text) (started : Registers) (accessed : Bool) (call : Call) (at : ℕ) (mirror : Registers) (before : Memory) (i : Instr) (c name : ℕ) (caller : SourceCaller) : Type 0 where
  pub here : caller ≡ stands_at method.op method.wrapup started accessed call (record { at = source_place (code_in method) at; registers = mirror })
  pub access : IsTrue (is_access_at (slice_get (source_in method) (source_place (code_in method) at)))
  pub enabled : is_enabled_for text (events.Access c name) (Some caller) before ≡ true
  pub memory : (caller_turn text (events.Access c name) before caller).memory ≡ (mirrored_access method name i at mirror before).memory
  pub stands : (caller_turn text (events.Access c name) before caller).caller
      ≡ stands_at method.op method.wrapup started true call (run_from method.op method.wrapup (mirrored_access method name i at mirror before).spot)
  pub run : (was : MethodRun) → run_after text (events.Access c name) before caller was ≡ run_with (name_got text name (Some (redirected (source_place (code_in method)) i)) mirror before) was

pub access_turns : {target : Target} {text : Text} (method : Method target text) (started : Registers) (accessed : Bool) (call : Call) (at : ℕ) (mirror : Registers) (there : Spot) (before : Memory) (i : Instr) (c name : ℕ) (caller : SourceCaller)
    → IsErased target text → StandsAhead method started accessed call at mirror there caller → slice_get (code_in method) at ≡ Some (Plain i) → IsTrue (is_access i) → IsTrue (is_name (is_new i) name before.nodes)
    → AccessTurns method started accessed call at mirror before i c name caller
access_turns {text = text} method started accessed call at mirror there before i c name caller erased ahead is makes names =
    let place = source_place (code_in method) in
    let here = at_place method erased at (Plain i) is in
    let spot : Spot = record { at = place at; registers = mirror } in
    let comes : spot ≡ there = stands_there method at mirror there i erased is (not_local place i (place at) mirror makes) ahead.settles in
    let op : slice_get text.ops call.number ≡ Some method.op = ap (slice_get text.ops) ahead.number ∙ method.in_text in
    let access : IsTrue (is_access_at (slice_get (source_in method) (place at))) = subst (λ o. IsTrue (is_access_at o)) (sym here.0) (still_access place i ∙ makes) in
    let named : IsTrue (is_name (is_new_at (slice_get (source_in method) (place at))) name before.nodes) =
    subst (λ o. IsTrue (is_name (is_new_at o) name before.nodes)) (sym here.0) (subst (λ b. IsTrue (is_name b name before.nodes)) (sym (still_new place i)) names) in
    let stands : caller ≡ stands_at method.op method.wrapup started accessed call spot = ahead.stands ∙ ap (λ (s : Spot). stands_at method.op method.wrapup started accessed call s) (sym comes) in
    let turn = ap (λ z. caller_turn text (events.Access c name) before z) stands ∙ accesses text c name method.op method.wrapup started accessed call spot before op access in
    let reached : access_at text name (slice_get (source_in method) (place at)) (place at) mirror before ≡ mirrored_access method name i at mirror before =
    ap (λ o. access_at text name o (place at) mirror before) here.0 in
    record {
      here = stands;
      access = access;
      enabled = ap (λ z. is_enabled_for text (events.Access c name) (Some z) before) stands ∙ access_is_enabled text c name method.op method.wrapup started accessed call spot before op access named;
      memory = ap (λ (t : Turn). t.memory) turn ∙ ap (λ z. z.memory) reached;
      stands = ap (λ (t : Turn). t.caller) turn ∙ ap (λ z. stands_at method.op method.wrapup started true call (run_from method.op method.wrapup z.spot)) reached;
      run = λ was. ap (λ z. run_after text (events.Access c name) before z was) stands
          ∙ (access_watched text c name method.op method.wrapup started accessed call spot before was op access
          ∙ ap (λ o. run_with (name_got text name o mirror before) was) here.0);
    }

-- an access that the core makes at a place: where it leads on both sides, and the one register that it changes, if any
pub record Makes {target : Target} {text : Text} (method : Method target text) (home : ℕ → ℕ) (calm : Type 0) (path : List ℕ) (core next : Spot) (mirror mirror' : Registers) (memory : Memory) (i : Instr) (name given : ℕ) : Type 0 where
  pub here : slice_get (code_in method) core.at ≡ Some (Plain i)
  pub access : IsTrue (is_access i)
  pub named : IsTrue (is_name (is_new i) name memory.nodes)
  pub goes : IsTrue (goes_to i core.at next.at)
  pub changes : Changes home (AsTrusted calm (trust_in_set i)) (destination i) given core.registers mirror next.registers mirror'
  pub known : trust_in_set i ≡ Trusted → IsHeld (trust_along method path) mirror given
  pub gets : name_got text name (Some (redirected (source_place (code_in method)) i)) mirror memory ≡ given
  pub leads : (mirrored_access method name i core.at mirror memory).spot ≡ record { at = source_place (code_in method) next.at; registers = mirror' }

-- the source is ahead again once the access was made
pub access_keeps : {target : Target} {text : Text} (method : Method target text) (home : ℕ → ℕ) (calm : Type 0) (path : List ℕ) (core next : Spot) (mirror mirror' : Registers) (there : Spot) (memory : Memory) (i : Instr) (name given : ℕ)
    → IsErased target text → Makes method home calm path core next mirror mirror' memory i name given → Ahead method home calm path core mirror there
    → Ahead method home calm (core.at ∷ path) next mirror' (run_from method.op method.wrapup (record { at = source_place (code_in method) next.at; registers = mirror' }))
access_keeps {text = text} method home calm path core next mirror mirror' there memory i name given erased makes a =
    plain_keeps method home calm path core next mirror mirror' there _ i given erased makes.here makes.goes makes.changes makes.known
    (local_code_settles text method.number method.op method.wrapup erased.normal method.in_text (record { at = source_place (code_in method) next.at; registers = mirror' })) a

pub access_follows : {target : Target} {text : Text} (walk : Walk target text) (home : ℕ → ℕ) (calm : Type 0) (path : List ℕ) (core next : Spot) (mirror mirror' : Registers) (accessed : Bool) (caller : SourceCaller)
    (c : ℕ) (memory : Memory) (i : Instr) (name given : ℕ) → IsErased target text → Makes walk.method home calm path core next mirror mirror' memory i name given
    → Follows walk home calm path core mirror accessed caller
    → AccessFollows walk home calm path core.at next mirror mirror' i given (events.Access c name) memory (mirrored_access walk.method name i core.at mirror memory).memory caller
access_follows walk home calm path core next mirror mirror' accessed caller c memory i name given erased makes f =
    let method = walk.method in
    let turn = access_turns method walk.started accessed walk.call core.at mirror f.there memory i c name caller erased (source_ahead f) makes.here makes.access makes.named in
    record {
      enabled = turn.enabled;
      memory = turn.memory;
      follows = record {
        there = run_from method.op method.wrapup (record { at = source_place (code_in method) next.at; registers = mirror' });
        begun = f.begun;
        ahead = access_keeps method home calm path core next mirror mirror' f.there memory i name given erased makes f.ahead;
        stands = turn.stands
            ∙ (ap (λ (s : Spot). stands_at method.op method.wrapup walk.started true walk.call (run_from method.op method.wrapup s)) makes.leads
            ∙ accessed_same method.op method.wrapup walk.started walk.call _);
        unmoved = λ wrapup still. absurd (let never : true ≡ false = sym wrapup ∙ still in cc);
      };
      run = λ was. turn.run was ∙ ap (λ (n : ℕ). run_with n was) makes.gets;
      got = λ names was. plain_got method home (AsTrusted calm (trust_in_set i)) path core.at i given core.registers mirror next.registers mirror' walk.started names (with_name given names) makes.here makes.changes
          (λ r set. given_got given names) (more_got given names) was;
      guards = λ row stand. plain_guards method home (AsTrusted calm (trust_in_set i)) path core.at i given core.registers mirror next.registers mirror' row makes.here makes.changes stand;
    }
