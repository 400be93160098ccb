-- An exchange of the text succeeds exactly if the source's does, and a load goes to what is resident.
use Rattle.std.proofs.Common.{ℕ, ◌≡◌, ◌<◌, ◌∙◌, Bool, true, false, [], Option, Some, inl, sym, ap, subst, refl}
use Rattle.std.specs.Prelude.{slice_get, option_map}
use Rattle.std.proofs.lemmas.Option.{slice_get_within}
use Rattle.norm_lang.specs.declared.text.CasEntry.{CasEntry}
use Rattle.norm_lang.specs.declared.text.Instr.{Instr}
use Rattle.norm_lang.specs.declared.text.Instr.TheVariants as instr
use Rattle.norm_lang.specs.declared.text.Op.{Op}
use Rattle.norm_lang.specs.declared.text.Reg.{Reg}
use Rattle.norm_lang.specs.declared.text.Reg.TheVariants.{Num, Ref}
use Rattle.norm_lang.specs.declared.text.Text.{Text}
use Rattle.norm_lang.specs.declared.registers.Registers.{Registers}
use Rattle.norm_lang.specs.InstructionRules.{has_wrong_operand}
use Rattle.norm_lang.specs.Kept.{code_of}
use Rattle.norm_lang.specs.Registers.{reference_in}
use Rattle.target_code.specs.declared.target.TargetInstr.{TargetInstr}
use Rattle.target_code.specs.declared.target.TargetInstr.TheVariants.{Plain}
use Rattle.target_laws.specs.Methods.{code_in}
use Rattle.phase_pools.specs.Accesses.{WordAccess, word_of}
use Rattle.source_machine.specs.declared.state.Running.{Running}
use Rattle.source_machine.specs.declared.state.SourceCaller.{SourceCaller}
use Rattle.source_machine.specs.declared.state.SourceMachine.{SourceMachine}
use Rattle.source_machine.specs.declared.state.Stand.TheVariants.{InGenerator, InWrapUp}
use Rattle.source_machine.specs.Proper.{IsProperFor}
use Rattle.source_machine.specs.Step.{performed_by, generator_stand, goes_on, wrap_up_stop}
use Rattle.caller_parts.specs.declared.routine.Routine.{Routine}
use Rattle.caller_parts.specs.declared.routine.Routine.TheVariants.{At, InList as InCoreList}
use Rattle.caller_parts.specs.Operands.{list_of, slot_in, succeeds}
use Rattle.caller_steps.specs.Entries.{Entry, instr_in}
use Rattle.caller_steps.specs.Wants.{wants, exchange_wanted}
use Rattle.core_runs.specs.Machine.{CoreState}
use Rattle.core_runs.specs.Views.{IsShaped}
use Rattle.core_runs.proofs.caller_laws.Safety.{list_there}
use Rattle.run_ahead.specs.Standing.{Call, caller_of, stands_at, running_at}
use Rattle.run_ahead.proofs.Mirroring.{references_agree}
use Rattle.run_ahead.proofs.Plain.{kind_right}
use Rattle.oa_simulation.specs.Beside.{Placed}
use Rattle.oa_simulation.specs.Shadow.{Shadow}
use Rattle.oa_simulation.specs.Statements.{ExchangesAgree, core_exchange, caller_makes}
use Rattle.oa_simulation.specs.sim_relation.Callers.{spot_of}
use Rattle.oa_simulation.specs.sim_relation.Points.{IsProperPoint, done}
use Rattle.oa_simulation.specs.sim_relation.Views.{Plan, Shared, Resident}
use Rattle.oa_simulation.proofs.Lifting.{machine_is, stays_proper}
use Rattle.oa_simulation.proofs.Testing.{cas_makes, list_makes, by_exchange, test_agrees}
use Rattle.oa_simulation.proofs.sim_steps.Exchanges.Offering.{none_passes}
use Rattle.epoch_relation.specs.Beside.{Beside}
use Rattle.epoch_relation.specs.Callers.{Caller}
use Rattle.epoch_relation.specs.Keeping.{point_at}
use Rattle.epoch_relation.specs.Reckoned.{EpochHolds}
use Rattle.epoch_relation.specs.Simulated.{performed_registers, caller_registers, source_name}
use Rattle.epoch_relation.specs.Walking.{IsPlan, Running as CallerRuns, InExecutor, HoldsAt, CallerHolds}
use Rattle.epoch_relation.proofs.Accessing.{Owing, asked_at, runs_at}
use Rattle.epoch_relation.proofs.Announcing.{safe_is_resident, registers_are_resident}
use Rattle.epoch_relation.proofs.Bare.{in_source}
use Rattle.epoch_relation.proofs.Exchanging.{both_succeed}
use Rattle.epoch_relation.proofs.Failing.{cas_offers}
use Rattle.epoch_relation.proofs.Listing.{InList as ListStep, offered}
use Rattle.epoch_relation.proofs.Local.{erased_of}
use Rattle.epoch_relation.proofs.Moving.{core_instr_is, listed_instr_is}
use Rattle.oa_simulation.proofs.Induction.{is_caller, entry_seen}

-- ---- the registers of the source's caller

registers_by : (text : Text) (op : Op) (running : Running) (caller : SourceCaller) → caller.running ≡ Some running → slice_get text.ops running.op ≡ Some op → caller_registers text (Some caller) ≡ running.registers
registers_by text op running caller is there =
    ap (λ (o : Option Running). performed_registers (performed_by text o)) is
    ∙ ap (λ (o : Option Op). performed_registers (option_map (λ op. record { op = op; running = running }) o)) there

-- at a load it has those of the place
load_registers : (text : Text) (op : Op) (wrapup : Bool) (started : Registers) (accessed : Bool) (call : Call) (mirror : Registers) (place : ℕ) (d a : Reg) (f : ℕ) → slice_get text.ops call.number ≡ Some op
    → slice_get (code_of op wrapup) place ≡ Some (instr.LoadField d a f) → caller_registers text (Some (stands_at op wrapup started accessed call (record { at = place; registers = mirror }))) ≡ mirror
load_registers text op false started accessed call mirror place d a f there here =
    let running : Running = running_at call mirror (InGenerator place) in
    ap (λ (o : Option Instr). caller_registers text (Some (goes_on (running_at call mirror (generator_stand o place)) (caller_of call)))) here
    ∙ registers_by text op running (goes_on running (caller_of call)) refl there
load_registers text op true started true call mirror place d a f there here =
    let running : Running = running_at call mirror (InWrapUp place started true) in registers_by text op running (goes_on running (caller_of call)) refl there
load_registers text op true started false call mirror place d a f there here =
    let running : Running = running_at call mirror (InWrapUp place started false) in
    ap (λ (o : Option Instr). caller_registers text (Some (wrap_up_stop false op o running (caller_of call)))) here
    ∙ registers_by text op running (goes_on running (caller_of call)) refl there

-- ---- one caller

module _ (t : Plan) (s : Shared) (since : ℕ → ℕ) (c : ℕ) (x : Caller) (plan : IsPlan t) (f : EpochHolds t s since) (below : c < t.setting.sizes.callers) (told : CallerHolds t s since c x) (proper : IsProperPoint t.text (point_at s x)) where
  abbrev TestsAgree : CasEntry → WordAccess → Type 0
  TestsAgree entry a = succeeds entry x.entry.hand.registers (s.memory (word_of a)) ≡ caller_makes t.text s.source (Some x.source)

  -- an auxiliary exchange
  cas_agrees : (entry : CasEntry) (l : ℕ) → x.entry.routine ≡ At → instr_in t.target x.entry ≡ Some (Plain (instr.Cas entry l)) → TestsAgree entry (exchange_wanted t.target.fields entry x.entry.hand.registers)
  cas_agrees entry l at is =
      let run : CallerRuns t s c x = subst (λ (r : Routine). HoldsAt t s since c x r) at told.spot in
      let method = run.0.walk.method in
      let here : slice_get (code_in run.0.walk.method) x.entry.hand.at ≡ Some (Plain (instr.Cas entry l)) = sym (core_instr_is t s c x (spot_of x.entry.hand) run.0 run.1) ∙ is in
      let owes : Owing t s since c x run.0 = record {
        standing = record { plan = plan; holds = f; base = told.base; below = below; announced = run.4 };
        walks = run.1;
        gets = run.2;
        proper = proper;
        runs = runs_at t s c x run.0 (instr.Cas entry l) plan run.3 here refl;
      } in
      let op = ap (slice_get t.text.ops) run.1.number ∙ run.0.walk.method.in_text in
      both_succeed t s since c x.entry.hand.registers run.0.mirror entry plan f (cas_offers t s since c x run.0 entry l owes here (asked_at t s c x run.0 (instr.Cas entry l) plan run.1 run.3 here refl proper))
      ∙ sym (ap (λ (caller : SourceCaller). caller_makes t.text s.source (Some caller)) run.3
      ∙ cas_makes t.text method.op method.wrapup run.0.walk.started x.entry.hand.accessed run.0.walk.call run.0.mirror x.entry.hand.at l entry s.source op (in_source plan.target_is run.0.walk.method x.entry.hand.at (instr.Cas entry l) here))

  -- an exchange of the list
  entry_agrees : (k : ℕ) (entry : CasEntry) → x.entry.routine ≡ InCoreList k → slice_get (list_of (instr_in t.target x.entry)) k ≡ Some entry → TestsAgree entry (exchange_wanted t.target.fields entry x.entry.hand.registers)
  entry_agrees k entry at one =
      let run : InExecutor t s c x k = subst (λ (r : Routine). HoldsAt t s since c x r) at told.spot in
      let commit = list_there (instr_in t.target x.entry) k (slice_get_within (list_of (instr_in t.target x.entry)) k entry one) in
      let here : slice_get (code_in run.0.walk.method) x.entry.hand.at ≡ Some (Plain (instr.Commit commit.0)) = sym (listed_instr_is t s c x (spot_of x.entry.hand) run.0 run.1) ∙ commit.1 in
      let listed : slice_get commit.0 k ≡ Some entry = sym (ap (λ (o : Option TargetInstr). slice_get (list_of o) k) commit.1) ∙ one in
      let step : ListStep t s since c x k entry = record {
        plan = plan;
        holds = f;
        base = told.base;
        below = below;
        executes = run;
        proper = proper;
        there = one;
        right = none_passes (has_wrong_operand t.text.fields t.text.roots) commit.0 k entry (kind_right run.0.walk.method (erased_of t plan) x.entry.hand.at (instr.Commit commit.0) here) listed;
      } in
      let op = ap (slice_get t.text.ops) run.1.number ∙ run.0.walk.method.in_text in
      both_succeed t s since c x.entry.hand.registers run.0.mirror entry plan f (offered t s since c x k entry step)
      ∙ sym (ap (λ (caller : SourceCaller). caller_makes t.text s.source (Some caller)) run.3
      ∙ list_makes t.text run.0.walk.method.op x.entry.hand.at (list_of (instr_in t.target x.entry)) k run.0.mirror run.0.walk.call entry s.source op one)

  pub caller_agrees : (entry : CasEntry) (a : WordAccess) → core_exchange t.target x.entry x.entry.routine ≡ Some entry → wants t.target x.entry ≡ Some a → TestsAgree entry a
  caller_agrees entry a is want = by_exchange t.target x.entry TestsAgree cas_agrees entry_agrees entry a is want

  -- the base of a load: the source's name, its slot, and that it is resident
  pub base_there : (d a : Reg) (g : ℕ) → x.entry.routine ≡ At → instr_in t.target x.entry ≡ Some (Plain (instr.LoadField d a g))
      → (slot_in x.entry.hand.registers a ≡ t.home (reference_in (caller_registers t.text (Some x.source)) a).node) × Resident t s (reference_in (caller_registers t.text (Some x.source)) a).node
  base_there d a g at is =
      let run : CallerRuns t s c x = subst (λ (r : Routine). HoldsAt t s since c x r) at told.spot in
      let method = run.0.walk.method in
      let here : slice_get (code_in run.0.walk.method) x.entry.hand.at ≡ Some (Plain (instr.LoadField d a g)) = sym (core_instr_is t s c x (spot_of x.entry.hand) run.0 run.1) ∙ is in
      let op = ap (slice_get t.text.ops) run.1.number ∙ run.0.walk.method.in_text in
      let same : caller_registers t.text (Some x.source) ≡ run.0.mirror = ap (λ (caller : SourceCaller). caller_registers t.text (Some caller)) run.3
      ∙ load_registers t.text method.op method.wrapup run.0.walk.started x.entry.hand.accessed run.0.walk.call run.0.mirror x.entry.hand.at d a g op (in_source plan.target_is run.0.walk.method x.entry.hand.at (instr.LoadField d a g) here) in
      subst (λ (registers : Registers). (slot_in x.entry.hand.registers a ≡ t.home (reference_in registers a).node) × Resident t s (reference_in registers a).node) (sym same)
      ((references_agree t.home x.entry.hand.registers run.0.mirror a plan.null (run.1.agree a)).0, resident a run)
    where
      resident : (a : Reg) (run : CallerRuns t s c x) → Resident t s (reference_in run.0.mirror a).node
      resident (Num r) run = registers_null run
        where
          registers_null : CallerRuns t s c x → Resident t s 0
          registers_null run = safe_is_resident t s since c x 0 plan.null f told.base below run.4 (inl refl)
      resident (Ref r) run = registers_are_resident t s since c x plan.null f told.base below run r

-- ---- a state beside its shadow

module _ (t : Plan) (state : CoreState) (z : Shadow) (plan : IsPlan t) (text_proper : IsProperFor t.setting.sizes.callers t.text) (shaped : IsShaped t.target t.setting state) (b : Beside t state z) where
  placed : (c : ℕ) → c < t.setting.sizes.callers → Placed b.v z c (point_at b.w.shared (b.w.who c))
  placed c lt = record { caller = b.caller c lt; memory = b.source; run = b.run c lt; unused = b.unused }

  point_proper : (c : ℕ) → c < t.setting.sizes.callers → IsProperPoint t.text (point_at b.w.shared (b.w.who c))
  point_proper c lt = stays_proper t.text t.setting.sizes.callers c z b.v (point_at b.w.shared (b.w.who c)) plan.normal plan.within text_proper b.sourced (placed c lt) [] (point_at b.w.shared (b.w.who c)) (done (point_at b.w.shared (b.w.who c)))

  own_entry : (c : ℕ) (e : Entry) → c < t.setting.sizes.callers → slice_get state.entries c ≡ Some e → (b.w.who c).entry ≡ e
  own_entry c e lt at = b.entry c lt ∙ entry_seen t.setting state c e at

  source_caller : (c : ℕ) → c < t.setting.sizes.callers → slice_get z.machine.callers c ≡ Some (b.w.who c).source
  source_caller c lt = ap (λ (machine : SourceMachine). slice_get machine.callers c) (sym (machine_is t.text t.setting.sizes.callers z b.v b.sourced)) ∙ b.caller c lt

  pub exchanges_agree : ExchangesAgree t.target t.text t.setting state z.machine
  exchanges_agree c e entry a at is want =
      let lt = is_caller state t.setting.sizes.callers c e shaped.callers at in
      let x : Caller = b.w.who c in
      let own : x.entry ≡ e = own_entry c e lt at in
      test_agrees t state z b.v c b.w.shared.memory x.entry e (point_at b.w.shared x) entry a shaped b.sourced (placed c lt) b.memory own at want
      (caller_agrees t b.w.shared b.w.since c x plan b.holds.shared_holds lt (b.holds.caller_holds c lt) (point_proper c lt) entry a (ap (λ (i : Entry). core_exchange t.target i i.routine) own ∙ is) (ap (wants t.target) own ∙ want))

  -- the base of each load
  pub bases_resident : (c : ℕ) (e : Entry) (d a : Reg) (g : ℕ) → slice_get state.entries c ≡ Some e → e.routine ≡ At → instr_in t.target e ≡ Some (Plain (instr.LoadField d a g))
      → (slot_in e.hand.registers a ≡ t.home (source_name t.text z.machine c a)) × (b.w.shared.present (t.home (source_name t.text z.machine c a)) ≡ source_name t.text z.machine c a)
  bases_resident c e d a g at runs is =
      let lt = is_caller state t.setting.sizes.callers c e shaped.callers at in
      let own : (b.w.who c).entry ≡ e = own_entry c e lt at in
      let there = base_there t b.w.shared b.w.since c (b.w.who c) plan b.holds.shared_holds lt (b.holds.caller_holds c lt) (point_proper c lt) d a g (ap (λ (i : Entry). i.routine) own ∙ runs) (ap (instr_in t.target) own ∙ is) in
      let name : source_name t.text z.machine c a ≡ (reference_in (caller_registers t.text (Some (b.w.who c).source)) a).node = ap (λ (o : Option SourceCaller). (reference_in (caller_registers t.text o) a).node) (source_caller c lt) in
      (sym (ap (λ (i : Entry). slot_in i.hand.registers a) own) ∙ (there.0 ∙ ap t.home (sym name)), ap (λ (n : ℕ). b.w.shared.present (t.home n)) name ∙ (there.1 ∙ sym name))
