-- An exchange of the text succeeds exactly if the source's does.
use Rattle.std.proofs.Common.{ℕ, ◌≡◌, ◌∙◌, Bool, true, false, List, [], Option, Some, None, sym, ap, subst, refl, if◌then◌else◌}
use Rattle.std.specs.Prelude.{slice_get, slice_index, option_map, is_some}
use Rattle.std.proofs.lemmas.Option.{slice_get_within}
use Rattle.norm_lang.specs.declared.text.CasEntry.{CasEntry}
use Rattle.norm_lang.specs.declared.text.Instr.{Instr}
use Rattle.norm_lang.specs.declared.text.Instr.TheVariants as instr
use Rattle.norm_lang.specs.declared.text.Op.{Op}
use Rattle.norm_lang.specs.declared.text.Text.{Text}
use Rattle.norm_lang.specs.declared.registers.Registers.{Registers}
use Rattle.norm_lang.specs.InstructionRules.{has_wrong_operand}
use Rattle.norm_lang.specs.Kept.{code_of}
use Rattle.norm_lang.specs.Local.{Spot}
use Rattle.target_code.specs.declared.target.TargetInstr.{TargetInstr}
use Rattle.target_code.specs.declared.target.TargetInstr.TheVariants.{Plain}
use Rattle.target_code.specs.Erasing.{source_place}
use Rattle.oa_words.specs.Words.{Word, address_of, in_row}
use Rattle.phase_pools.specs.Accesses.{WordAccess, word_of}
use Rattle.source_machine.specs.declared.state.Memory.{Memory}
use Rattle.source_machine.specs.declared.state.Running.{Running}
use Rattle.source_machine.specs.declared.state.Stand.TheVariants.{InGenerator, InList, InWrapUp}
use Rattle.source_machine.specs.declared.state.SourceCaller.{SourceCaller}
use Rattle.source_machine.specs.declared.state.SourceMachine.{SourceMachine}
use Rattle.source_machine.specs.Memory.{exchange}
use Rattle.source_machine.specs.Step.{performed_by, goes_on, generator_stand, wrap_up_stop}
use Rattle.source_machine.specs.Proper.{IsProperFor}
use Rattle.caller_parts.specs.declared.routine.Routine.{Routine}
use Rattle.caller_parts.specs.declared.routine.Routine.TheVariants.{At, InList as InCoreList}
use Rattle.caller_steps.specs.Entries.{Entry, instr_in}
use Rattle.caller_parts.specs.Operands.{list_of, succeeds}
use Rattle.caller_steps.specs.Belongs.{cas_of}
use Rattle.caller_steps.specs.Wants.{wants, wanted, exchange_wanted, list_wanted, instr_wanted}
use Rattle.core_runs.proofs.caller_laws.Safety.{list_there}
use Rattle.core_runs.specs.Machine.{CoreState, found_by}
use Rattle.core_runs.specs.Views.{IsShaped, view}
use Rattle.target_laws.specs.Methods.{code_in}
use Rattle.run_ahead.specs.Standing.{Call, stands_at, stands_in_list, running_at, caller_of}
use Rattle.run_ahead.proofs.Plain.{at_place, kind_right}
use Rattle.run_ahead.proofs.Quiet.{stands_there}
use Rattle.run_ahead.specs.Ahead.{erasing}
use Rattle.oa_simulation.specs.sim_relation.Views.{Plan, IsPlan, Shared, Caller}
use Rattle.oa_simulation.specs.sim_relation.Shared.{SharedHolds}
use Rattle.oa_simulation.specs.sim_relation.Callers.{CallerHolds, HoldsAt, Trail, Running as CallerRuns, InExecutor, spot_of}
use Rattle.oa_simulation.specs.sim_relation.Points.{IsProperPoint, point, done, Point}
use Rattle.oa_simulation.proofs.sim_relation.Codes.{instr_is}
use Rattle.oa_simulation.proofs.sim_steps.Pools.Core.{wants_is}
use Rattle.oa_simulation.proofs.sim_steps.Accesses.Stepping.{run_asked}
use Rattle.oa_simulation.proofs.sim_steps.Accesses.Entries.{list_asked}
use Rattle.oa_simulation.proofs.sim_steps.Exchanges.Exchanging.{Offers, tests_agree}
use Rattle.oa_simulation.proofs.sim_steps.Exchanges.Offering.{offers, operand_is_own, own_in_generator, none_passes}
use Rattle.oa_simulation.specs.Shadow.{Shadow}
use Rattle.oa_simulation.specs.Beside.{Beside, Placed, Sourced}
use Rattle.oa_simulation.specs.Statements.{ExchangesAgree, core_exchange, exchange_of, stand_exchange, exchange_makes, performed_makes, caller_makes, source_makes}
use Rattle.oa_simulation.proofs.Lifting.{machine_is, stays_proper}
use Rattle.source_machine.specs.MethodRuns.{Watched}
use Rattle.target_code.specs.declared.target.Target.{Target}
use Rattle.oa_simulation.proofs.Induction.{is_caller, entry_seen}

-- ---- the source's exchange, by where its caller stands

makes_at : (text : Text) (op : Op) (memory : Memory) (caller : SourceCaller) (running : Running) → caller.running ≡ Some running → slice_get text.ops running.op ≡ Some op
    → caller_makes text memory (Some caller) ≡ exchange_makes text.fields memory (record { op = op; running = running }) (stand_exchange op running.stand)
makes_at text op memory caller running is there =
    ap (λ (o : Option Running). performed_makes text.fields memory (performed_by text o)) is
    ∙ ap (λ (o : Option Op). performed_makes text.fields memory (option_map (λ op. record { op = op; running = running }) o)) there

pub list_makes : (text : Text) (op : Op) (at : ℕ) (entries : List CasEntry) (k : ℕ) (mirror : Registers) (call : Call) (entry : CasEntry) (memory : Memory) → slice_get text.ops call.number ≡ Some op → slice_get entries k ≡ Some entry
    → caller_makes text memory (Some (stands_in_list at entries k mirror call)) ≡ is_some (exchange text.fields entry mirror memory)
list_makes text op at entries k mirror call entry memory there one =
    makes_at text op memory (stands_in_list at entries k mirror call) (running_at call mirror (InList at entries k)) refl there
    ∙ ap (λ (o : Option CasEntry). exchange_makes text.fields memory (record { op = op; running = running_at call mirror (InList at entries k) }) o) one

pub cas_makes : (text : Text) (op : Op) (wrapup : Bool) (started : Registers) (accessed : Bool) (call : Call) (mirror : Registers) (place l : ℕ) (entry : CasEntry) (memory : Memory) → slice_get text.ops call.number ≡ Some op
    → slice_get (code_of op wrapup) place ≡ Some (instr.Cas entry l)
    → caller_makes text memory (Some (stands_at op wrapup started accessed call (record { at = place; registers = mirror }))) ≡ is_some (exchange text.fields entry mirror memory)
cas_makes text op false started accessed call mirror place l entry memory there here =
    let running : Running = running_at call mirror (InGenerator place) in
    ap (λ (o : Option Instr). caller_makes text memory (Some (goes_on (running_at call mirror (generator_stand o place)) (caller_of call)))) here
    ∙ (makes_at text op memory (goes_on running (caller_of call)) running refl there
    ∙ ap (λ (o : Option Instr). exchange_makes text.fields memory (record { op = op; running = running }) (exchange_of o)) here)
cas_makes text op true started true call mirror place l entry memory there here =
    let running : Running = running_at call mirror (InWrapUp place started true) in
    makes_at text op memory (goes_on running (caller_of call)) running refl there
    ∙ ap (λ (o : Option Instr). exchange_makes text.fields memory (record { op = op; running = running }) (exchange_of o)) here
cas_makes text op true started false call mirror place l entry memory there here =
    let running : Running = running_at call mirror (InWrapUp place started false) in
    ap (λ (o : Option Instr). caller_makes text memory (Some (wrap_up_stop false op o running (caller_of call)))) here
    ∙ (makes_at text op memory (goes_on running (caller_of call)) running refl there
    ∙ ap (λ (o : Option Instr). exchange_makes text.fields memory (record { op = op; running = running }) (exchange_of o)) here)

pub cas_there : (o : Option TargetInstr) (entry : CasEntry) → cas_of o ≡ Some entry → (l : ℕ) × (o ≡ Some (Plain (instr.Cas entry l)))
cas_there (Some (Plain (instr.Cas exchange l))) entry is = (l, (let same : exchange ≡ entry = cc in ap (λ (x : CasEntry). Some (Plain (instr.Cas x l))) same))
cas_there _ entry is = absurd (let z : None ≡ Some entry = is in cc)

-- ---- the exchange that an entry makes next

-- it is an auxiliary one, or one of its list
pub by_exchange : (target : Target) (e : Entry) (P : CasEntry → WordAccess → Type 0)
    → ((entry : CasEntry) (l : ℕ) → e.routine ≡ At → instr_in target e ≡ Some (Plain (instr.Cas entry l)) → P entry (exchange_wanted target.fields entry e.hand.registers))
    → ((k : ℕ) (entry : CasEntry) → e.routine ≡ InCoreList k → slice_get (list_of (instr_in target e)) k ≡ Some entry → P entry (exchange_wanted target.fields entry e.hand.registers))
    → (entry : CasEntry) (a : WordAccess) → core_exchange target e e.routine ≡ Some entry → wants target e ≡ Some a → P entry a
by_exchange target e P auxiliary listed entry a made want = by e.routine refl made (sym (wants_is target e e.routine refl) ∙ want) where
  by : (r : Routine) → e.routine ≡ r → core_exchange target e r ≡ Some entry → wanted target e r ≡ Some a → P entry a
  by At at is want =
      let there = cas_there (instr_in target e) entry is in
      let made : Some (exchange_wanted target.fields entry e.hand.registers) ≡ Some a = sym (ap (λ (o : Option TargetInstr). instr_wanted target.fields e.number o e.hand.registers) there.1) ∙ want in
      let same : exchange_wanted target.fields entry e.hand.registers ≡ a = cc in
      subst (P entry) same (auxiliary entry there.0 at there.1)
  by (InCoreList k) at is want =
      let made : Some (exchange_wanted target.fields entry e.hand.registers) ≡ Some a = sym (ap (λ (o : Option CasEntry). list_wanted target.fields o e.hand.registers) is) ∙ want in
      let same : exchange_wanted target.fields entry e.hand.registers ≡ a = cc in
      subst (P entry) same (listed k entry at is)
  by _ at is want = absurd (let z : None ≡ Some entry = is in cc)

-- what is known of a caller's own entry and of its source's part says whether both succeed in a state beside its shadow
pub test_agrees : (t : Plan) (state : CoreState) (z : Shadow) (v : Watched) (c : ℕ) (memory : Word → ℕ) (own e : Entry) (p : Point) (entry : CasEntry) (a : WordAccess) → IsShaped t.target t.setting state → Sourced t.text t.setting.sizes.callers z v → Placed v z c p
    → memory ≡ (view t.setting state).memory → own ≡ e → slice_get state.entries c ≡ Some e → wants t.target e ≡ Some a → succeeds entry own.hand.registers (memory (word_of a)) ≡ caller_makes t.text p.memory (Some p.caller)
    → succeeds entry e.hand.registers (found_by t.setting state a) ≡ source_makes t.text z.machine c
test_agrees t state z v c memory own e p entry a shaped sourced placed words same at want mine =
    let row : in_row t.setting.sizes (word_of a) ≡ true = shaped.wanted c e a at want in
    let found : memory (word_of a) ≡ found_by t.setting state a =
    ap (λ (k : Word → ℕ). k (word_of a)) words ∙ ap (λ (b : Bool). if b then slice_index state.words (address_of t.setting.sizes (word_of a)) else 0) row in
    sym (ap (λ (word : ℕ). succeeds entry own.hand.registers word) found ∙ ap (λ (i : Entry). succeeds entry i.hand.registers (found_by t.setting state a)) same)
    ∙ (mine ∙ (ap (λ (m : Memory). caller_makes t.text m (Some p.caller)) (sym placed.memory)
    ∙ (ap (caller_makes t.text v.machine.memory) (sym placed.caller)
    ∙ ap (λ (machine : SourceMachine). source_makes t.text machine c) (machine_is t.text t.setting.sizes.callers z v sourced))))

-- ---- one caller

module _ (t : Plan) (s : Shared) (c : ℕ) (x : Caller) (plan : IsPlan t) (f : SharedHolds t s) (told : CallerHolds t s c x) (proper : IsProperPoint t.text (point s x)) where
  abbrev TestsAgree : CasEntry → WordAccess → Type 0
  TestsAgree entry a = succeeds entry x.entry.hand.registers (s.memory (word_of a)) ≡ caller_makes t.text s.source (Some x.source)

  -- an auxiliary exchange
  cas_agrees : (entry : CasEntry) (l : ℕ) → x.entry.routine ≡ At → instr_in t.target x.entry ≡ Some (Plain (instr.Cas entry l)) → TestsAgree entry (exchange_wanted t.target.fields entry x.entry.hand.registers)
  cas_agrees entry l at is =
      let run : CallerRuns t s c x (spot_of x.entry.hand) = subst (λ (r : Routine). HoldsAt t s c x r) at told.spot in
      let m : Trail t = run.0 in
      let here : slice_get (code_in run.0.walk.method) x.entry.hand.at ≡ Some (Plain (instr.Cas entry l)) = sym (instr_is t s c x (spot_of x.entry.hand) run.0 run.1) ∙ is in
      let offered : Offers t s c x.entry.hand.registers run.0.mirror entry = offers t s c x run.0 (instr.Cas entry l) 0 entry (record {
        plan = plan;
        shared_holds = f;
        base = told.base;
        walks = run.1;
        guards = run.4;
        here = here;
        one = refl;
        right = kind_right run.0.walk.method (erasing plan.compiled) x.entry.hand.at (instr.Cas entry l) here;
        own = λ r operand. operand_is_own t run.0 x.entry.hand.at entry l r (erasing plan.compiled) run.1.ahead.path_is here operand;
        proper = proper;
        asked = run_asked t c s x (instr.Cas entry l) (erasing plan.compiled) run proper here refl;
      }) in
      let there = stands_there run.0.walk.method x.entry.hand.at run.0.mirror run.0.there (instr.Cas entry l) (erasing plan.compiled) here refl run.1.ahead.settles in
      let op = ap (slice_get t.text.ops) run.1.number ∙ run.0.walk.method.in_text in
      tests_agree t s c x.entry.hand.registers run.0.mirror entry plan.null f offered
      ∙ sym (ap (λ (caller : SourceCaller). caller_makes t.text s.source (Some caller))
      (run.2.stands ∙ ap (λ (spot : Spot). stands_at run.0.walk.method.op run.0.walk.method.wrapup run.0.walk.started x.entry.hand.accessed run.0.walk.call spot) (sym there))
      ∙ cas_makes t.text run.0.walk.method.op run.0.walk.method.wrapup run.0.walk.started x.entry.hand.accessed run.0.walk.call run.0.mirror (source_place (code_in run.0.walk.method) x.entry.hand.at)
      (source_place (code_in run.0.walk.method) l) entry s.source op (at_place run.0.walk.method (erasing plan.compiled) x.entry.hand.at (Plain (instr.Cas entry l)) here).0)

  -- an exchange of the list
  entry_agrees : (k : ℕ) (entry : CasEntry) → x.entry.routine ≡ InCoreList k → slice_get (list_of (instr_in t.target x.entry)) k ≡ Some entry → TestsAgree entry (exchange_wanted t.target.fields entry x.entry.hand.registers)
  entry_agrees k entry at one =
      let run : InExecutor t s c x k = subst (λ (r : Routine). HoldsAt t s c x r) at told.spot in
      let commit = list_there (instr_in t.target x.entry) k (slice_get_within (list_of (instr_in t.target x.entry)) k entry one) in
      let here : slice_get (code_in run.0.walk.method) x.entry.hand.at ≡ Some (Plain (instr.Commit commit.0)) = sym (instr_is t s c x (spot_of x.entry.hand) run.0 run.1) ∙ commit.1 in
      let listed : slice_get commit.0 k ≡ Some entry = sym (ap (λ (o : Option TargetInstr). slice_get (list_of o) k) commit.1) ∙ one in
      let offered : Offers t s c x.entry.hand.registers run.0.mirror entry = offers t s c x run.0 (instr.Commit commit.0) k entry (record {
        plan = plan;
        shared_holds = f;
        base = told.base;
        walks = run.1;
        guards = run.2;
        here = here;
        one = listed;
        right = none_passes (has_wrong_operand t.text.fields t.text.roots) commit.0 k entry (kind_right run.0.walk.method (erasing plan.compiled) x.entry.hand.at (instr.Commit commit.0) here) listed;
        own = λ r operand. own_in_generator t run.0 r run.3;
        proper = proper;
        asked = list_asked t s c x run.0 k entry plan.compiled.normal run.1 run.4 proper one;
      }) in
      let op = ap (slice_get t.text.ops) run.1.number ∙ run.0.walk.method.in_text in
      tests_agree t s c x.entry.hand.registers run.0.mirror entry plan.null f offered
      ∙ sym (ap (λ (caller : SourceCaller). caller_makes t.text s.source (Some caller)) run.4
      ∙ list_makes t.text run.0.walk.method.op (source_place (code_in run.0.walk.method) x.entry.hand.at) (list_of (instr_in t.target x.entry)) k run.0.mirror run.0.walk.call entry s.source op one)

  pub caller_agrees : (entry : CasEntry) (a : WordAccess) → core_exchange t.target x.entry x.entry.routine ≡ Some entry → wants t.target x.entry ≡ Some a → TestsAgree entry a
  caller_agrees entry a is want = by_exchange t.target x.entry TestsAgree cas_agrees entry_agrees entry a is want

-- ---- a state beside its shadow

pub exchanges_agree : (t : Plan) (state : CoreState) (z : Shadow) → IsPlan t → IsProperFor t.setting.sizes.callers t.text → IsShaped t.target t.setting state → Beside t state z → ExchangesAgree t.target t.text t.setting state z.machine
exchanges_agree t state z plan proper shaped b c e entry a at is want =
    let lt = is_caller state t.setting.sizes.callers c e shaped.callers at in
    let x : Caller = b.w.who c in
    let own : x.entry ≡ e = b.entry c lt ∙ entry_seen t.setting state c e at in
    let placed : Placed b.v z c (point b.w.shared x) = record { caller = b.caller c lt; memory = b.source; run = b.run c lt; unused = b.unused } in
    let here : IsProperPoint t.text (point b.w.shared x) = stays_proper t.text t.setting.sizes.callers c z b.v (point b.w.shared x) plan.compiled.normal plan.compiled.within proper b.sourced placed [] (point b.w.shared x) (done (point b.w.shared x)) in
    test_agrees t state z b.v c b.w.shared.memory x.entry e (point b.w.shared x) entry a shaped b.sourced placed b.memory own at want
    (caller_agrees t b.w.shared c x plan b.holds.shared_holds (b.holds.caller_holds c lt) here entry a (ap (λ (i : Entry). core_exchange t.target i i.routine) own ∙ is) (ap (wants t.target) own ∙ want))
