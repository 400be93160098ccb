-- Each step of an announced caller, by its routine.
use Rattle.std.proofs.Common.{ℕ, ◌≡◌, ◌+◌, ◌<◌, ◌∙◌, Bool, true, false, List, [], length, Option, Some, None, arith, sym, ap, subst, refl, if◌then◌else◌}
use Rattle.std.specs.Prelude.{slice_get, nat_lt, option_map}
use Rattle.std.proofs.lemmas.Bool.{and_parts, or_parts}
use Rattle.std.proofs.lemmas.Bool.Decides.{nat_tests}
use Rattle.norm_lang.specs.declared.text.CasEntry.{CasEntry}
use Rattle.norm_lang.specs.declared.text.FieldDecl.{FieldDecl}
use Rattle.norm_lang.specs.declared.text.Text.{Text}
use Rattle.norm_lang.specs.KindFields.{place_of}
use Rattle.norm_lang.specs.declared.text.Instr.{Instr}
use Rattle.norm_lang.specs.declared.text.Instr.TheVariants as instr
use Rattle.norm_lang.specs.declared.text.Reg.{Reg}
use Rattle.norm_lang.specs.declared.text.Reg.TheVariants.{Num, Ref}
use Rattle.norm_lang.specs.InstructionRules.{has_wrong_operand, retires_stranger, is_unlike, field_kind}
use Rattle.target_code.specs.declared.target.TargetInstr.{TargetInstr}
use Rattle.target_code.specs.declared.target.TargetInstr.TheVariants.{Plain, Check, Guard}
use Rattle.target_laws.specs.target_runs.Sane.{SaneAt}
use Rattle.target_laws.specs.Methods.{code_in, source_in}
use Rattle.target_laws.proofs.Forms.{instructions_are_in_form}
use Rattle.target_laws.proofs.FreshRules.{open_reads_are_not_fresh}
use Rattle.oa_words.specs.Words.{Status, FieldOf}
use Rattle.oa_words.specs.Memories.{store}
use Rattle.phase_pools.specs.Accesses.{WordAccess, word_of}
use Rattle.phase_pools.specs.Pools.{Claim}
use Rattle.phase_pools.specs.declared.stages.RetireStage.{RetireStage}
use Rattle.phase_pools.specs.declared.stages.RetireStage.TheVariants as retires
use Rattle.caller_parts.specs.declared.routine.AfterRetire.{AfterRetire}
use Rattle.caller_parts.specs.Calls.{is_call}
use Rattle.caller_parts.specs.Operands.{cradle_number, list_of, slot_in, word_in}
use Rattle.caller_steps.specs.Wants.{plain_wanted, list_wanted, exchange_wanted}
use Rattle.source_machine.specs.declared.state.Memory.{Memory}
use Rattle.source_machine.specs.Memory.{exchange}
use Rattle.caller_parts.specs.declared.routine.Announcing.{Announcing}
use Rattle.caller_parts.specs.declared.routine.Announcing.TheVariants as announces
use Rattle.caller_parts.specs.declared.routine.Routine.{Routine}
use Rattle.caller_parts.specs.declared.routine.Routine.TheVariants.{Idle, LoadSeen, At, InList, Retires, Restarts, Clears, Claims, Zeroes, Announces}
use Rattle.caller_steps.specs.Entries.{instr_in, new_number, zero_count, cradle_of, code_in as core_code}
use Rattle.caller_steps.specs.Belongs.{Belongs, RunsAt, HasComeTo, Stands as CoreStands}
use Rattle.core_runs.proofs.caller_laws.Methods.{sane_code}
use Rattle.core_runs.proofs.caller_laws.Cradles.{cradle_number_small}
use Rattle.core_runs.proofs.caller_laws.Safety.{list_there}
use Rattle.caller_steps.specs.Wants.{wanted, instr_wanted, wants}
use Rattle.caller_steps.specs.Signs.{quiet}
use Rattle.caller_steps.specs.After.{with_routine, counted, accepted, instr_accepted, plain_accepted, list_accepted, node_made, zeroed as core_zeroed}
use Rattle.caller_steps.specs.After.{moved as after_moves}
use Rattle.caller_parts.specs.declared.setting.Reclamation.{Reclamation}
use Rattle.caller_parts.specs.declared.setting.Reclamation.TheVariants.{Epochs}
use Rattle.oa_simulation.specs.sim_relation.Views.{Plan, Shared}
use Rattle.oa_simulation.specs.sim_relation.Naming.{present_at}
use Rattle.oa_simulation.specs.sim_relation.Points.{StaysProper, DrawsHome, IsProperPoint, done}
use Rattle.chain_laws.specs.Memories.{after_access}
use Rattle.oa_simulation.specs.sim_relation.Steps.{TakesReady}
use Rattle.caller_parts.proofs.News.{new_there}
use Rattle.oa_simulation.proofs.sim_steps.Exchanges.Offering.{none_passes}
use Rattle.oa_simulation.proofs.sim_steps.Accesses.Objects.{object_openly}
use Rattle.oa_simulation.specs.sim_relation.Callers.{spot_of}
use Rattle.epoch_relation.specs.Reckoned.{EpochHolds}
use Rattle.epoch_relation.specs.Callers.{Caller}
use Rattle.epoch_relation.specs.Walking.{IsPlan, Running, InExecutor, HoldsAt, CallerHolds}
use Rattle.epoch_relation.specs.Laws.{StepsKeep}
use Rattle.epoch_relation.specs.Keeping.{point_at, KeptWith}
use Rattle.run_ahead.proofs.Plain.{kind_right}
use Rattle.epoch_relation.proofs.Local.{erased_of}
use Rattle.epoch_relation.proofs.Moving.{core_code_is, core_instr_is, listed_instr_is}
use Rattle.epoch_relation.proofs.Phases.{phase_loaded, phase_announced, renewed, call_ended}
use Rattle.epoch_relation.proofs.Retiring.{retire_loaded, retire_stored}
use Rattle.epoch_relation.proofs.Bare.{instr_is}
use Rattle.epoch_relation.proofs.Claiming.{claims_keep}
use Rattle.epoch_relation.proofs.Reading.{load_kept}
use Rattle.epoch_relation.proofs.Putting.{put_kept}
use Rattle.epoch_relation.proofs.Newing.{Zeroing, zero_step}
use Rattle.epoch_relation.proofs.Casting.{cas_kept}
use Rattle.epoch_relation.proofs.Listing.{InList as ListStep, list_failure_kept}
use Rattle.epoch_relation.proofs.Entering.{list_success_kept}
use Rattle.oa_simulation.proofs.sim_steps.Accesses.Zeroed.{put_there, all_zeroed}

-- what a step of a caller stands on
pub record Stepping (t : Plan) (c : ℕ) (s : Shared) (since : ℕ → ℕ) (x : Caller) : Type 0 where
  pub plan : IsPlan t
  pub below : c < t.setting.sizes.callers
  pub holds : EpochHolds t s since
  pub told : CallerHolds t s since c x
  pub ready : TakesReady s.memory x.entry.routine
  pub belongs : Belongs t.target t.setting x.entry
  pub called : is_call t.target x.entry.running.call ≡ true
  pub proper : StaysProper t.text c (point_at s x)

-- a step at a routine that draws the plan's slots is kept
abbrev pub KeptAs : (t : Plan) (c : ℕ) (s : Shared) (since : ℕ → ℕ) (x : Caller) → Routine → Option WordAccess → Type 0
KeptAs t c s since x r None = Unit {0}
KeptAs t c s since x r (Some a) =
    DrawsHome t.home (accepted Epochs t.target t.setting (s.memory (word_of a)) (counted x.entry) r).signs s.unused
    → KeptWith t c s since x (after_access s.memory a) (accepted Epochs t.target t.setting (s.memory (word_of a)) (counted x.entry) r) (present_at t.target s.memory s.unused x.entry r s.present)

abbrev pub KeptAt : (t : Plan) (c : ℕ) (s : Shared) (since : ℕ → ℕ) (x : Caller) → Routine → Type 0
KeptAt t c s since x r = KeptAs t c s since x r (wanted t.target x.entry r)

-- no check and no guard is an instruction of the text
not_plain : (o : Option Instr) (i : TargetInstr) → ((j : Instr) → Plain j ≡ i → ⊥) → option_map Plain o ≡ Some i → ⊥
not_plain None i other is = let z : None ≡ Some i = is in cc
not_plain (Some j) i other is = other j (let same : Plain j ≡ i = cc in same)

module _ (t : Plan) (c : ℕ) (s : Shared) (since : ℕ → ℕ) (x : Caller) (w : Stepping t c s since x) where
  here : IsProperPoint t.text (point_at s x)
  here = w.proper [] (point_at s x) (done (point_at s x))

  same_fields : t.target.fields ≡ t.text.fields
  same_fields = ap (λ (text : Text). text.fields) w.plan.erases

  stands_at : (r : Routine) → x.entry.routine ≡ r → CoreStands t.target t.setting x.entry r
  stands_at r is = subst (λ (r : Routine). CoreStands t.target t.setting x.entry r) is w.belongs.stands

  -- a `new` to which the caller has come: it is within the limits, and stands in a generator
  sane_new : (r : Routine) → x.entry.routine ≡ r → RunsAt t.target x.entry r ≡ HasComeTo (core_code t.target x.entry) x.entry.hand.at x.entry.hand.registers → (d : Reg) (kind : ℕ) → instr_in t.target x.entry ≡ Some (Plain (instr.New d kind))
      → SaneAt t.target x.entry.hand.wrapup (core_code t.target x.entry) x.entry.hand.at (Plain (instr.New d kind))
  sane_new r at runs d kind is =
      let reaches : HasComeTo (core_code t.target x.entry) x.entry.hand.at x.entry.hand.registers = subst (λ (A : Type 0). A) runs (subst (λ (r : Routine). RunsAt t.target x.entry r) at w.belongs.reaches) in
      (sane_code t.target w.plan.sane x.entry.running.call.op x.entry.hand.wrapup).each x.entry.hand.at (Plain (instr.New d kind)) reaches.path.0 is reaches.path.1

  -- ---- the instruction of the text at which the caller stands

  by_plain : (r : Running t s c x) (i : Instr) → instr_in t.target x.entry ≡ Some (Plain i) → (o : Option WordAccess) → plain_wanted t.target.fields i x.entry.hand.registers ≡ o → (a : WordAccess) → o ≡ Some a
      → KeptWith t c s since x (after_access s.memory a) (plain_accepted Epochs t.target t.setting.sizes i (s.memory (word_of a)) (counted x.entry)) s.present
  by_plain r i is o wanted_is a some = of i is (wanted_is ∙ some) where
    code : (i : Instr) → instr_in t.target x.entry ≡ Some (Plain i) → slice_get (code_in r.0.walk.method) x.entry.hand.at ≡ Some (Plain i)
    code i is = sym (core_instr_is t s c x (spot_of x.entry.hand) r.0 r.1) ∙ is

    some_access : (a b : WordAccess) → Some a ≡ Some b → a ≡ b
    some_access a b is = cc

    of : (i : Instr) → instr_in t.target x.entry ≡ Some (Plain i) → plain_wanted t.target.fields i x.entry.hand.registers ≡ Some a → KeptWith t c s since x (after_access s.memory a) (plain_accepted Epochs t.target t.setting.sizes i (s.memory (word_of a)) (counted x.entry)) s.present
    of (instr.LoadRoot d z) is want = subst (λ (a : WordAccess). KeptWith t c s since x (after_access s.memory a) (plain_accepted Epochs t.target t.setting.sizes (instr.LoadRoot d z) (s.memory (word_of a)) (counted x.entry)) s.present) (some_access _ a want)
        (load_kept t c s since x (instr.LoadRoot d z) d _ w.plan w.holds w.told.base w.below r here (code (instr.LoadRoot d z) is) refl refl)
    of (instr.LoadPick d z n b) is want = subst (λ (a : WordAccess). KeptWith t c s since x (after_access s.memory a) (plain_accepted Epochs t.target t.setting.sizes (instr.LoadPick d z n b) (s.memory (word_of a)) (counted x.entry)) s.present) (some_access _ a want)
        (load_kept t c s since x (instr.LoadPick d z n b) d _ w.plan w.holds w.told.base w.below r here (code (instr.LoadPick d z n b) is) refl refl)
    of (instr.LoadField d b f) is want = subst (λ (a : WordAccess). KeptWith t c s since x (after_access s.memory a) (plain_accepted Epochs t.target t.setting.sizes (instr.LoadField d b f) (s.memory (word_of a)) (counted x.entry)) s.present) (some_access _ a want)
        (load_kept t c s since x (instr.LoadField d b f) d _ w.plan w.holds w.told.base w.below r here (code (instr.LoadField d b f) is) refl refl)
    of (instr.Put (Num k) f b) is want = absurd (let z : true ≡ false = (or_parts true (is_unlike (field_kind t.text.fields f) b) (kind_right r.0.walk.method (erased_of t w.plan) x.entry.hand.at (instr.Put (Num k) f b) (code (instr.Put (Num k) f b) is))).0 in cc)
    of (instr.Put (Ref k) f b) is want = subst (λ (a : WordAccess). KeptWith t c s since x (after_access s.memory a) (plain_accepted Epochs t.target t.setting.sizes (instr.Put (Ref k) f b) (s.memory (word_of a)) (counted x.entry)) s.present) (some_access _ a want)
        (subst (λ (fields : List FieldDecl). KeptWith t c s since x (store s.memory (FieldOf (slot_in x.entry.hand.registers (Ref k)) (place_of fields f)) (word_in x.entry.hand.registers b))
        (plain_accepted Epochs t.target t.setting.sizes (instr.Put (Ref k) f b) (s.memory (FieldOf (slot_in x.entry.hand.registers (Ref k)) (place_of fields f))) (counted x.entry)) s.present) (sym same_fields)
        (put_kept t c s since x k f b w.plan w.holds w.told.base w.below r here (code (instr.Put (Ref k) f b) is) (s.memory (FieldOf (slot_in x.entry.hand.registers (Ref k)) (place_of t.text.fields f)))))
    of (instr.Cas entry l) is want = subst (λ (a : WordAccess). KeptWith t c s since x (after_access s.memory a) (plain_accepted Epochs t.target t.setting.sizes (instr.Cas entry l) (s.memory (word_of a)) (counted x.entry)) s.present) (some_access _ a want)
        (cas_kept t c s since x entry l w.plan w.holds w.told.base w.below r w.proper (code (instr.Cas entry l) is))
    of _ is want = absurd (let z : None ≡ Some a = want in cc)

  by_instr : (r : Running t s c x) (o : Option TargetInstr) → instr_in t.target x.entry ≡ o → (a : WordAccess) → instr_wanted t.target.fields x.entry.number o x.entry.hand.registers ≡ Some a
      → KeptWith t c s since x (after_access s.memory a) (instr_accepted Epochs t.target t.setting.sizes o (s.memory (word_of a)) (counted x.entry)) s.present
  by_instr r None is a want = absurd (let z : None ≡ Some a = want in cc)
  by_instr r (Some Check) is a want = absurd (not_plain (slice_get (source_in r.0.walk.method) x.entry.hand.at) Check (λ j same. cc) (sym (instr_is w.plan.target_is r.0.walk.method x.entry.hand.at) ∙ (sym (core_instr_is t s c x (spot_of x.entry.hand) r.0 r.1) ∙ is)))
  by_instr r (Some (Guard g)) is a want = absurd (not_plain (slice_get (source_in r.0.walk.method) x.entry.hand.at) (Guard g) (λ j same. cc) (sym (instr_is w.plan.target_is r.0.walk.method x.entry.hand.at) ∙ (sym (core_instr_is t s c x (spot_of x.entry.hand) r.0 r.1) ∙ is)))
  by_instr r (Some (Plain i)) is a want = by_plain r i is (plain_wanted t.target.fields i x.entry.hand.registers) refl a want

  -- ---- an exchange of the list

  by_entry : (k : ℕ) (h : InExecutor t s c x k) (entries : List CasEntry) → instr_in t.target x.entry ≡ Some (Plain (instr.Commit entries)) → (o : Option CasEntry) → slice_get (list_of (instr_in t.target x.entry)) k ≡ o → (a : WordAccess) → list_wanted t.target.fields o x.entry.hand.registers ≡ Some a
      → KeptWith t c s since x (after_access s.memory a) (list_accepted Epochs t.target t.setting.sizes k o (s.memory (word_of a)) (counted x.entry)) s.present
  by_entry k h entries is None there a want = absurd (let z : None ≡ Some a = want in cc)
  by_entry k h entries is (Some entry) there a want = subst (λ (a : WordAccess). KeptWith t c s since x (after_access s.memory a) (list_accepted Epochs t.target t.setting.sizes k (Some entry) (s.memory (word_of a)) (counted x.entry)) s.present) (let same : exchange_wanted t.target.fields entry x.entry.hand.registers ≡ a = cc in same)
      (by_result (exchange t.text.fields entry h.0.mirror s.source) refl)
    where
      code : slice_get (code_in h.0.walk.method) x.entry.hand.at ≡ Some (Plain (instr.Commit entries))
      code = sym (listed_instr_is t s c x (spot_of x.entry.hand) h.0 h.1) ∙ is

      one : slice_get entries k ≡ Some entry
      one = ap (λ (o : Option TargetInstr). slice_get (list_of o) k) (sym is) ∙ there

      step : ListStep t s since c x k entry
      step = record {
        plan = w.plan;
        holds = w.holds;
        base = w.told.base;
        below = w.below;
        executes = h;
        proper = here;
        there = there;
        right = none_passes (has_wrong_operand t.text.fields t.text.roots) entries k entry (kind_right h.0.walk.method (erased_of t w.plan) x.entry.hand.at (instr.Commit entries) code) one;
      }

      by_result : (o : Option Memory) → exchange t.text.fields entry h.0.mirror s.source ≡ o → KeptWith t c s since x (after_access s.memory (exchange_wanted t.target.fields entry x.entry.hand.registers)) (list_accepted Epochs t.target t.setting.sizes k (Some entry) (s.memory (word_of (exchange_wanted t.target.fields entry x.entry.hand.registers))) (counted x.entry)) s.present
      by_result None none = list_failure_kept t s since c x k entry step none
      by_result (Some after) some = list_success_kept t s since c x k entry step w.proper
          (λ r f place. h.1.shown h.2 r (open_reads_are_not_fresh t.target t.text w.plan.normal w.plan.erases h.0.walk.method h.0.path x.entry.hand.at (instr.Commit entries) (Ref r) (record { leads = h.1.path_is; stands = code }) (object_openly r f entries k entry one place)))
          (none_passes retires_stranger entries k entry (instructions_are_in_form t.target t.text w.plan.normal w.plan.erases h.0.walk.method x.entry.hand.at (instr.Commit entries) code).retired one) after some

  -- ---- a claim

  by_claim : (claim : Claim) → x.entry.routine ≡ Claims claim → HoldsAt t s since c x (Claims claim) → KeptAt t c s since x (Claims claim)
  by_claim claim is h draws =
      let stands = stands_at (Claims claim) is in
      let at_new = stands.0 in
      let there = new_there (instr_in t.target x.entry) at_new in
      let gen : x.entry.hand.wrapup ≡ false = (sane_new (Claims claim) is refl there.0 there.1 there.2).own.news refl in
      let few : new_number t.target x.entry < length x.entry.cradles =
      (let known = stands.1.kind in
      let same = stands.2 in
      let four = w.plan.some.sizes.kinds.few in
      let small = cradle_number_small t.target x.entry.hand.wrapup (core_code t.target x.entry) x.entry.hand.at (sane_code t.target w.plan.sane x.entry.running.call.op x.entry.hand.wrapup) at_new (omega (arith, known, same, four)) in
      let count = w.belongs.cradles.count in omega (arith, small, count)) in
      claims_keep t c s since x claim claim.stage refl (record { plan = w.plan; holds = w.holds; base = w.told.base; scheme = h.0; tops = stands.1.tops; at_new = at_new; generator = gen }) few w.plan.callers
      (subst (λ (r : Routine). TakesReady s.memory r) is w.ready) h.1 h.2

  -- ---- a store of 0 of a `new`

  draws_home : (k field : ℕ) (b : Bool) → b ≡ false → DrawsHome t.home (if b then quiet (with_routine (counted x.entry) (Zeroes k (field + 1))) else node_made Epochs t.target t.setting.sizes (cradle_of x.entry k) (counted x.entry)).signs s.unused → t.home s.unused ≡ cradle_of x.entry k
  draws_home k field true is home = absurd (let z : true ≡ false = is in cc)
  draws_home k field false is home = home.0

  by_zero : (k field : ℕ) → x.entry.routine ≡ Zeroes k field → HoldsAt t s since c x (Zeroes k field) → KeptAt t c s since x (Zeroes k field)
  by_zero k field at h draws = of (new_there (instr_in t.target x.entry) stands.0).0 (new_there (instr_in t.target x.entry) stands.0).1 (new_there (instr_in t.target x.entry) stands.0).2 where
    run : Running t s c x
    run = h.2

    stands : CoreStands t.target t.setting x.entry (Zeroes k field)
    stands = stands_at (Zeroes k field) at

    of : (d : Reg) (kind : ℕ) → instr_in t.target x.entry ≡ Some (Plain (instr.New d kind))
        → KeptWith t c s since x (store s.memory (FieldOf (cradle_of x.entry k) field) 0) (core_zeroed Epochs t.target t.setting.sizes k field (counted x.entry)) (present_at t.target s.memory s.unused x.entry (Zeroes k field) s.present)
    of (Num r) kind is = absurd (let z : true ≡ false = kind_right h.2.0.walk.method (erased_of t w.plan) x.entry.hand.at (instr.New (Num r) kind) (sym (core_instr_is t s c x (spot_of x.entry.hand) h.2.0 h.2.1) ∙ is) in cc)
    of (Ref r) kind is =
        let sane = sane_new (Zeroes k field) at refl (Ref r) kind is in
        let less : r < 8 = (let limit : nat_lt r 8 ≡ true = (and_parts (nat_lt r 8) (nat_lt kind (length t.target.kinds)) sane.limits).0 in grind (arith, nat_tests, limit)) in
        let zeroing : Zeroing t s since c x h.2.0 r kind k field = record {
          standing = record { plan = w.plan; holds = w.holds; base = w.told.base; below = w.below; announced = h.2.4 };
          walks = h.2.1;
          gets = h.2.2;
          stands = h.2.3;
          held = h.0;
          zeros = h.1;
          here = sym (core_instr_is t s c x (spot_of x.entry.hand) h.2.0 h.2.1) ∙ is;
          number = (stands_at (Zeroes k field) at).1 ∙ ap (λ code. cradle_number code x.entry.hand.at) (core_code_is t s c x (spot_of x.entry.hand) h.2.0 h.2.1);
          generator = sym h.2.1.wrapup ∙ sane.own.news refl;
        } in
        zero_step t c s since x h.2.0 r kind k field zeroing is (λ ends. record {
          zeroing = zeroing;
          proper = here;
          home = draws_home k field (nat_lt (field + 1) (zero_count t.target (instr_in t.target x.entry))) ends draws;
          counted = all_zeroed t r kind field same_fields (ap (λ (o : Option TargetInstr). nat_lt (field + 1) (zero_count t.target o)) (sym is) ∙ ends);
          register = put_there h.2.0.mirror r s.unused (let same = h.2.1.sized.1 in let eight = w.belongs.hand.registers.references in omega (arith, less, same, eight));
        })

  -- ---- each routine

  by_retirement : (slot : ℕ) (stage : RetireStage) (go : AfterRetire) → HoldsAt t s since c x (Retires (record { slot = slot; stage = stage }) go) → KeptAt t c s since x (Retires (record { slot = slot; stage = stage }) go)
  by_retirement slot retires.ReadPhase go h draws = retire_loaded t c s since x slot h.0.0 go w.plan.null w.holds w.told.base h.0.1 h.1
  by_retirement slot (retires.StoreStatus p) go h draws = retire_stored t c s since x slot h.0.0 p (s.memory (Status slot)) go w.plan w.holds w.told.base w.below h.0.1 h.1

  by_announcing : (announcing : Announcing) → HoldsAt t s since c x (Announces announcing) → KeptAt t c s since x (Announces announcing)
  by_announcing (announces.Loads why) h draws = phase_loaded t c s since x why w.holds w.told.base h
  by_announcing (announces.Stores why p) h draws = phase_announced t c s since x why p w.plan w.holds w.told.base w.below h.1 (renewed t s c x why w.plan w.called h.0)
  by_announcing (announces.Leaves reply) h draws = call_ended t c s since x reply w.holds w.told.base h

  by_routine : (r : Routine) → x.entry.routine ≡ r → HoldsAt t s since c x r → KeptAt t c s since x r
  by_routine Idle is h = tt
  by_routine (LoadSeen why) is h = absurd h
  by_routine At is h = of (instr_wanted t.target.fields x.entry.number (instr_in t.target x.entry) x.entry.hand.registers) refl where
    of : (o : Option WordAccess) → instr_wanted t.target.fields x.entry.number (instr_in t.target x.entry) x.entry.hand.registers ≡ o → KeptAs t c s since x At o
    of None want = tt
    of (Some a) want = λ draws. by_instr h (instr_in t.target x.entry) refl a want
  by_routine (InList k) is h = of (list_wanted t.target.fields (slice_get (list_of (instr_in t.target x.entry)) k) x.entry.hand.registers) refl where
    there : (exchanges : List CasEntry) × (instr_in t.target x.entry ≡ Some (Plain (instr.Commit exchanges)))
    there = list_there (instr_in t.target x.entry) k (stands_at (InList k) is)

    of : (o : Option WordAccess) → list_wanted t.target.fields (slice_get (list_of (instr_in t.target x.entry)) k) x.entry.hand.registers ≡ o → KeptAs t c s since x (InList k) o
    of None want = tt
    of (Some a) want = λ draws. by_entry k h there.0 there.1 (slice_get (list_of (instr_in t.target x.entry)) k) refl a want
  by_routine (Retires retirement go) is h = by_retirement retirement.slot retirement.stage go h
  by_routine Restarts is h = absurd h
  by_routine (Clears next) is h = absurd h
  by_routine (Claims claim) is h = by_claim claim is h
  by_routine (Zeroes k field) is h = by_zero k field is h
  by_routine (Announces announcing) is h = by_announcing announcing h

-- every step of every caller
pub steps_keep : StepsKeep
unfolding wants
steps_keep t plan c s since x a below holds told ready belongs called proper want draws =
    let w : Stepping t c s since x = record { plan = plan; below = below; holds = holds; told = told; ready = ready; belongs = belongs; called = called; proper = proper } in
    subst (λ (by : Reclamation). DrawsHome t.home (after_moves by t.target t.setting x.entry (s.memory (word_of a))).signs s.unused → KeptWith t c s since x (after_access s.memory a) (after_moves by t.target t.setting x.entry (s.memory (word_of a))) (present_at t.target s.memory s.unused x.entry x.entry.routine s.present))
    (sym plan.epochs) (subst (λ (o : Option WordAccess). KeptAs t c s since x x.entry.routine o) want (by_routine t c s since x w x.entry.routine refl told.spot)) draws
