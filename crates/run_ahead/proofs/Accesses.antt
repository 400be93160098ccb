-- Each access of a method, made by core and source.
use Rattle.std.proofs.Common.{◌≡◌, ℕ, ◌+◌, inl, Bool, true, false, ◌||◌, List, Option, Some, None, refl, sym, ap, subst, ◌∙◌, arith}
use Rattle.std.specs.Prelude.{slice_get, unwrap_or, is_some, IsTrue, ◌==◌, if◌then◌else◌}
use Rattle.std.proofs.lemmas.Bool.Decides.{nat_tests}
use Rattle.std.proofs.lemmas.Option.{same_Some}
use Rattle.norm_lang.specs.declared.text.Reg.{Reg}
use Rattle.norm_lang.specs.declared.text.Reg.TheVariants.{Num, Ref}
use Rattle.norm_lang.specs.declared.text.Instr.{Instr}
use Rattle.norm_lang.specs.declared.text.Instr.TheVariants as instr
use Rattle.norm_lang.specs.declared.text.Text.{Text}
use Rattle.norm_lang.specs.declared.registers.Registers.{Registers}
use Rattle.norm_lang.specs.Flow.{goes_to}
use Rattle.norm_lang.specs.Grammar.{is_new}
use Rattle.norm_lang.specs.Local.{Spot}
use Rattle.norm_lang.specs.Registers.{number_in, reference_in, with_number, with_reference}
use Rattle.norm_lang.specs.RegisterUse.{destination}
use Rattle.target_laws.specs.local_laws.Settling.{is_access}
use Rattle.source_machine.specs.declared.event.SourceEvent.TheVariants as events
use Rattle.source_machine.specs.Memory.{with_value, loaded, exchange, auxiliary, access_by}
use Rattle.source_machine.specs.MethodRuns.{name_in, name_got}
use Rattle.source_machine.specs.Run.{is_name}
use Rattle.source_machine.specs.declared.state.Value.{Value}
use Rattle.source_machine.specs.declared.state.Value.TheVariants.{Number, Node}
use Rattle.source_machine.specs.declared.state.Memory.{Memory}
use Rattle.source_machine.specs.declared.state.SourceCaller.{SourceCaller}
use Rattle.target_code.specs.declared.target.TargetInstr.TheVariants.{Plain}
use Rattle.target_code.specs.declared.target.Target.{Target}
use Rattle.target_code.specs.Erasing.{source_place, redirected}
use Rattle.target_laws.specs.Methods.{code_in}
use Rattle.target_laws.specs.Trusted.{Trust, Trusted, Unchecked, trust_in_set}
use Rattle.run_ahead.specs.AccessLaws.{AccessFollows, LoadsAreFollowed, NewNodesAreFollowed, PutsAreFollowed, ExchangesAreFollowed}
use Rattle.run_ahead.specs.Agreeing.{StandsFor, HaveSameSize, Changes}
use Rattle.run_ahead.specs.Ahead.{AsTrusted, IsErased}
use Rattle.run_ahead.specs.Following.{Walk, Follows}
use Rattle.run_ahead.specs.Standing.{loads_into, IsValueFor, ValuesAgree}
use Rattle.run_ahead.proofs.Accessing.{Makes, access_follows}
use Rattle.run_ahead.proofs.Changing.{nothing_changes, number_changes, put_same, reference_changes, put_stands}
use Rattle.run_ahead.proofs.Plain.{at_place, kind_right}
use Rattle.run_ahead.proofs.Quiet.{goes_next}
use Rattle.run_ahead.proofs.Telling.{told_map}
use Rattle.run_ahead.proofs.Asked.{accesses_find_kinds}
use Rattle.run_ahead.proofs.TypedLoads.{load_finds}

-- ---- loads

-- a value is put into a register of its kind
pub value_changes : (home : ℕ → ℕ) (calm : Type 0) (trust : Trust) (here mirror : Registers) (d : Reg) (v v' : Value) → home 0 ≡ 0 → HaveSameSize here mirror → IsValueFor d v → IsValueFor d v'
    → AsTrusted calm trust (ValuesAgree home v v') → Changes home (AsTrusted calm trust) (Some d) (name_in v') here mirror (with_value here d v) (with_value mirror d v')
value_changes home calm trust here mirror (Num d) (Number n) (Number m) null sized kind kind' told =
    number_changes home (AsTrusted calm trust) here mirror d n m sized
    (λ r same. told_map calm trust (n ≡ m) (number_in (with_number here (Num d) n) (Num r) ≡ number_in (with_number mirror (Num d) m) (Num r)) (λ e. put_same here mirror d n m sized e r same) told)
value_changes home calm trust here mirror (Ref d) (Node x) (Node y) null sized kind kind' told =
    reference_changes home (AsTrusted calm trust) here mirror d x y sized
    (λ r same. told_map calm trust (StandsFor home x y) (StandsFor home (reference_in (with_reference here (Ref d) x) (Ref r)) (reference_in (with_reference mirror (Ref d) y) (Ref r)))
    (λ e. put_stands home here mirror d x y sized null e r same) told)
value_changes home calm trust here mirror (Num d) (Number n) (Node y) null sized kind kind' told = absurd kind'
value_changes home calm trust here mirror (Ref d) (Node x) (Number m) null sized kind kind' told = absurd kind'
value_changes home calm trust here mirror d v v' null sized kind kind' told = absurd kind

-- what is known of a load
pub record IsLoad (text : Text) (i : Instr) (d : Reg) : Type 0 where
  pub access : IsTrue (is_access i)
  pub old : is_new i ≡ false
  pub sets : destination i ≡ Some d
  pub trust : trust_in_set i ≡ Unchecked
  pub next : (at : ℕ) → IsTrue (goes_to i at (at + 1))
  pub gets : (place : ℕ → ℕ) (name : ℕ) (registers : Registers) (memory : Memory) → name_got text name (Some (redirected place i)) registers memory ≡ name_in (loaded text i registers memory)
  pub spot : (place : ℕ → ℕ) (name at : ℕ) (registers : Registers) (memory : Memory) → (access_by text name (redirected place i) at registers memory).spot ≡ record { at = at + 1; registers = with_value registers d (loaded text i registers memory) }
  pub memory : (place : ℕ → ℕ) (name at : ℕ) (registers : Registers) (memory : Memory) → (access_by text name (redirected place i) at registers memory).memory ≡ memory

pub is_load : (text : Text) (i : Instr) (d : Reg) → loads_into i ≡ Some d → IsLoad text i d
is_load text (instr.LoadRoot e x) d is = let same = same_Some e d is in
    subst (λ r. IsLoad text (instr.LoadRoot e x) r) same (record { access = refl; old = refl; sets = refl; trust = refl; next = goes_next; gets = λ place name registers memory. refl; spot = λ place name at registers memory. refl; memory = λ place name at registers memory. refl })
is_load text (instr.LoadPick e x n a) d is = let same = same_Some e d is in
    subst (λ r. IsLoad text (instr.LoadPick e x n a) r) same (record { access = refl; old = refl; sets = refl; trust = refl; next = goes_next; gets = λ place name registers memory. refl; spot = λ place name at registers memory. refl; memory = λ place name at registers memory. refl })
is_load text (instr.LoadField e a f) d is = let same = same_Some e d is in
    subst (λ r. IsLoad text (instr.LoadField e a f) r) same (record { access = refl; old = refl; sets = refl; trust = refl; next = goes_next; gets = λ place name registers memory. refl; spot = λ place name at registers memory. refl; memory = λ place name at registers memory. refl })
is_load text _ d is = absurd (let never : None ≡ Some d = is in cc)

-- what a load changes
pub load_changes : (text : Text) (home : ℕ → ℕ) (calm : Type 0) (i : Instr) (d : Reg) (here mirror : Registers) (v v' : Value) → home 0 ≡ 0 → loads_into i ≡ Some d → HaveSameSize here mirror → IsValueFor d v → IsValueFor d v'
    → (calm → ValuesAgree home v v') → Changes home (AsTrusted calm (trust_in_set i)) (destination i) (name_in v') here mirror (with_value here d v) (with_value mirror d v')
load_changes text home calm i d here mirror v v' null loads sized kind kind' agrees =
    let l = is_load text i d loads in
    subst (λ o. Changes home (AsTrusted calm (trust_in_set i)) o (name_in v') here mirror (with_value here d v) (with_value mirror d v')) (sym l.sets)
    (subst (λ t. Changes home (AsTrusted calm t) (Some d) (name_in v') here mirror (with_value here d v) (with_value mirror d v')) (sym l.trust)
    (value_changes home calm Unchecked here mirror d v v' null sized kind kind' agrees))

pub loads_are_followed : (calm : Type 0) → LoadsAreFollowed calm
loads_are_followed calm target text erased home null walk path core mirror accessed caller f i d is loads c memory found typed caller_typed kind agrees =
    let l = is_load text i d loads in
    let place = source_place (code_in walk.method) in
    let v = loaded text i mirror memory in
    let asked = accesses_find_kinds calm target text erased home walk path core mirror accessed caller f memory.nodes caller_typed i is l.access in
    let next : Spot = record { at = core.at + 1; registers = with_value core.registers d found } in
    let makes : Makes walk.method home calm path core next mirror (with_value mirror d v) memory i 0 (name_in v) = record {
      here = is;
      access = l.access;
      named = subst (λ b. IsTrue (is_name b 0 memory.nodes)) (sym l.old) refl;
      goes = l.next core.at;
      changes = load_changes text home calm i d core.registers mirror found v null loads f.ahead.sized kind (load_finds walk.method erased core.at i d mirror memory is loads typed asked) agrees;
      known = λ trusted. absurd (let never : Unchecked ≡ Trusted = sym l.trust ∙ trusted in cc);
      gets = l.gets place 0 mirror memory;
      leads = l.spot place 0 (place core.at) mirror memory ∙ ap (λ (k : ℕ). record { at = k; registers = with_value mirror d v }) (sym (at_place walk.method erased core.at (Plain i) is).1);
    } in
    subst (λ after. AccessFollows walk home calm path core.at next mirror (with_value mirror d v) i (name_in v) (events.Access c 0) memory after caller) (l.memory place 0 (place core.at) mirror memory)
    (access_follows walk home calm path core next mirror (with_value mirror d v) accessed caller c memory i 0 (name_in v) erased makes f)

-- ---- a new node

-- what it changes
pub new_changes : (home : ℕ → ℕ) (calm : Type 0) (d name : ℕ) (here mirror : Registers) → home 0 ≡ 0 → HaveSameSize here mirror
    → Changes home (AsTrusted calm Unchecked) (Some (Ref d)) name here mirror (with_reference here (Ref d) (record { node = home name; marked = false })) (with_reference mirror (Ref d) (record { node = name; marked = false }))
new_changes home calm d name here mirror null sized =
    reference_changes home (AsTrusted calm Unchecked) here mirror d (record { node = home name; marked = false }) (record { node = name; marked = false }) sized
    (λ r same now. put_stands home here mirror d (record { node = home name; marked = false }) (record { node = name; marked = false }) sized null (refl, refl) r same)

new_follows : {target : Target} {text : Text} (walk : Walk target text) (home : ℕ → ℕ) (calm : Type 0) (path : List ℕ) (core : Spot) (mirror : Registers) (accessed : Bool) (caller : SourceCaller) (d kind c name : ℕ) (memory : Memory)
    → IsErased target text → home 0 ≡ 0 → Follows walk home calm path core mirror accessed caller → slice_get (code_in walk.method) core.at ≡ Some (Plain (instr.New (Ref d) kind)) → IsTrue (is_name true name memory.nodes)
    → AccessFollows walk home calm path core.at (record { at = core.at + 1; registers = with_reference core.registers (Ref d) (record { node = home name; marked = false }) })
    mirror (with_reference mirror (Ref d) (record { node = name; marked = false })) (instr.New (Ref d) kind) name (events.Access c name) memory (access_by text name (instr.New (Ref d) kind) 0 mirror memory).memory caller
new_follows walk home calm path core mirror accessed caller d kind c name memory erased null f is named =
    access_follows walk home calm path core _ mirror _ accessed caller c memory (instr.New (Ref d) kind) name name erased (record {
      here = is;
      access = refl;
      named = named;
      goes = goes_next core.at;
      changes = new_changes home calm d name core.registers mirror null f.ahead.sized;
      known = λ trusted. absurd (let never : Unchecked ≡ Trusted = trusted in cc);
      gets = refl;
      leads = ap (λ (k : ℕ). record { at = k; registers = with_reference mirror (Ref d) (record { node = name; marked = false }) }) (sym (at_place walk.method erased core.at (Plain (instr.New (Ref d) kind)) is).1);
    }) f

pub new_nodes_are_followed : (calm : Type 0) → NewNodesAreFollowed calm
new_nodes_are_followed calm target text erased home null walk path core mirror accessed caller f (Ref d) kind is c name memory named = new_follows walk home calm path core mirror accessed caller d kind c name memory erased null f is named
new_nodes_are_followed calm target text erased home null walk path core mirror accessed caller f (Num d) kind is c name memory named =
    absurd (let never : true ≡ false = kind_right walk.method erased core.at (instr.New (Num d) kind) is in cc)

-- ---- a put, and an auxiliary exchange

pub puts_are_followed : (calm : Type 0) → PutsAreFollowed calm
puts_are_followed calm target text erased home walk path core mirror accessed caller f a b field is c memory =
    access_follows walk home calm path core _ mirror mirror accessed caller c memory (instr.Put a field b) 0 0 erased (record {
      here = is;
      access = refl;
      named = refl;
      goes = goes_next core.at;
      changes = nothing_changes home (AsTrusted calm Trusted) core.registers mirror f.ahead.sized;
      known = λ trusted. inl refl;
      gets = refl;
      leads = ap (λ (k : ℕ). record { at = k; registers = mirror }) (sym (at_place walk.method erased core.at (Plain (instr.Put a field b)) is).1);
    }) f

pub exchanges_are_followed : (calm : Type 0) → ExchangesAreFollowed calm
exchanges_are_followed calm target text erased home walk path core mirror accessed caller f entry l is c memory succeeds same =
    let next : Spot = record { at = if succeeds then core.at + 1 else l; registers = core.registers } in
    subst (λ after. AccessFollows walk home calm path core.at next mirror mirror (instr.Cas entry l) 0 (events.Access c 0) memory after caller) (stays (exchange text.fields entry mirror memory))
    (access_follows walk home calm path core next mirror mirror accessed caller c memory (instr.Cas entry l) 0 0 erased (record {
      here = is;
      access = refl;
      named = refl;
      goes = goes succeeds;
      changes = nothing_changes home (AsTrusted calm Trusted) core.registers mirror f.ahead.sized;
      known = λ trusted. inl refl;
      gets = refl;
      leads = leads (exchange text.fields entry mirror memory) succeeds same (at_place walk.method erased core.at (Plain (instr.Cas entry l)) is).1;
    }) f)
  where
    goes : (b : Bool) → IsTrue (((core.at + 1) == (if b then core.at + 1 else l)) || ((l == (if b then core.at + 1 else l)) || false))
    goes true = grind (arith, nat_tests)
    goes false = grind (arith, nat_tests)

    leads : (o : Option Memory) (b : Bool) → b ≡ is_some o → source_place (code_in walk.method) (core.at + 1) ≡ source_place (code_in walk.method) core.at + 1
        → (auxiliary o memory (source_place (code_in walk.method) core.at) (source_place (code_in walk.method) l) mirror).spot ≡ record { at = source_place (code_in walk.method) (if b then core.at + 1 else l); registers = mirror }
    leads None true is_b on = absurd (let never : true ≡ false = is_b in cc)
    leads None false is_b on = refl
    leads (Some after) true is_b on = ap (λ (k : ℕ). record { at = k; registers = mirror }) (sym on)
    leads (Some after) false is_b on = absurd (let never : false ≡ true = is_b in cc)

    stays : (o : Option Memory) → (auxiliary o memory (source_place (code_in walk.method) core.at) (source_place (code_in walk.method) l) mirror).memory ≡ unwrap_or o memory
    stays None = refl
    stays (Some after) = refl
