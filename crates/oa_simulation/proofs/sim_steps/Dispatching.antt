-- Each step of each caller, by where the caller stands.
use Rattle.std.proofs.Common.{ℕ, ◌≡◌, ◌==◌, ◌<◌, ◌∙◌, ◌&&◌, Bool, true, false, length, Option, Some, None, sym, ap, subst, refl, arith}
use Rattle.std.specs.Prelude.{slice_get, nat_lt, IsTrue}
use Rattle.std.proofs.lemmas.Bool.Decides.{nat_tests}
use Rattle.norm_lang.specs.declared.text.Reg.{Reg}
use Rattle.norm_lang.specs.declared.text.Reg.TheVariants.{Num, Ref}
use Rattle.norm_lang.specs.declared.text.CasEntry.{CasEntry}
use Rattle.norm_lang.specs.declared.text.Instr.{Instr}
use Rattle.norm_lang.specs.declared.text.Instr.TheVariants as instr
use Rattle.target_code.specs.declared.target.TargetInstr.{TargetInstr}
use Rattle.target_code.specs.declared.target.TargetInstr.TheVariants.{Plain, Check, Guard}
use Rattle.target_code.specs.TargetLimits.{is_guarded_register}
use Rattle.oa_words.specs.Words.{Warning, Hazard, in_row}
use Rattle.phase_pools.specs.declared.stages.RetireStage.{RetireStage}
use Rattle.phase_pools.specs.declared.stages.RetireStage.TheVariants as retires
use Rattle.phase_pools.specs.Pools.{Claim}
use Rattle.phase_pools.specs.Accesses.{WordAccess, Loads, Stores, word_of}
use Rattle.run_ahead.specs.Guards.{GuardRow}
use Rattle.run_ahead.specs.Ahead.{erasing}
use Rattle.caller_parts.specs.declared.routine.MethodStart.{MethodStart}
use Rattle.caller_parts.specs.declared.routine.MethodStart.TheVariants as starts
use Rattle.caller_parts.specs.declared.routine.AfterClear.{AfterClear}
use Rattle.caller_parts.specs.declared.routine.AfterClear.TheVariants as clears
use Rattle.caller_parts.specs.declared.routine.AfterRetire.{AfterRetire}
use Rattle.caller_parts.specs.declared.routine.AfterRetire.TheVariants as onward
use Rattle.caller_parts.specs.declared.routine.Routine.{Routine}
use Rattle.caller_parts.specs.declared.routine.Routine.TheVariants.{Idle, LoadSeen, At, InList, Retires, Restarts, Clears, Claims, Zeroes, Announces}
use Rattle.caller_steps.specs.Entries.{code_in, instr_in, new_number}
use Rattle.caller_parts.specs.Operands.{is_new_at, list_of}
use Rattle.caller_steps.specs.Clearing.{restart_next, clear_next}
use Rattle.caller_steps.specs.Wants.{wants, wanted, instr_wanted, plain_wanted, list_wanted, clear_wanted}
use Rattle.caller_steps.specs.After.{accepted, counted, instr_accepted, is_wrap_up, list_accepted}
use Rattle.caller_steps.specs.After.{moved as after_moves}
use Rattle.caller_steps.specs.Signs.{Moved}
use Rattle.caller_parts.specs.Calls.{is_call}
use Rattle.caller_parts.proofs.News.{new_there}
use Rattle.caller_steps.specs.Belongs.{Belongs}
use Rattle.caller_steps.specs.Belongs.{Stands as CoreStands}
use Rattle.caller_steps.specs.Stands.{is_stop}
use Rattle.core_runs.proofs.caller_laws.Methods.{sane_code}
use Rattle.core_runs.proofs.caller_laws.Cradles.{cradle_number_small}
use Rattle.core_runs.proofs.caller_laws.Safety.{list_there}
use Rattle.target_laws.specs.Methods.{code_in as method_code}
use Rattle.oa_simulation.specs.sim_relation.Views.{Plan, IsPlan, Shared, Caller}
use Rattle.oa_simulation.specs.sim_relation.Shared.{SharedHolds}
use Rattle.oa_simulation.specs.sim_relation.Callers.{CallerHolds, HoldsAt, Trail, Walks, Running, spot_of}
use Rattle.oa_simulation.specs.sim_relation.Points.{StaysProper, DrawsHome, point}
use Rattle.oa_simulation.specs.sim_relation.Naming.{present_at}
use Rattle.oa_simulation.specs.sim_relation.WasSet.{set_after_access, set_at, set_begun, set_plain}
use Rattle.chain_laws.specs.Memories.{after_access}
use Rattle.oa_simulation.specs.sim_relation.Steps.{KeptWith, KeptBy, KeptSetting, Stepped, StepsKeep, StepKeeps, TakesReady, NamesAt, NamesCleared, NamesAfter, checked_names, with_names}
use Rattle.oa_simulation.proofs.sim_relation.Codes.{instr_is}
use Rattle.oa_simulation.proofs.sim_steps.Walks.Quieting.{sane_here}
use Rattle.oa_simulation.proofs.sim_steps.Walks.Restarting.{seen_kept, begins_restart}
use Rattle.oa_simulation.proofs.sim_steps.Pools.Claiming.{claims_keep}
use Rattle.oa_simulation.proofs.sim_steps.Guards.Quiet.{check_kept, guard_kept}
use Rattle.oa_simulation.proofs.sim_steps.Guards.Publishing.{guard_name, guard_named}
use Rattle.oa_simulation.proofs.sim_steps.Guards.Unguarding.{restart_clears, then_clears}
use Rattle.oa_simulation.proofs.sim_steps.Guards.Retiring.{retire_loads, retire_stores_in_list, retire_stores_next}
use Rattle.oa_simulation.proofs.sim_steps.Accesses.Newing.{new_clears}
use Rattle.oa_simulation.proofs.sim_steps.Accesses.Stepping.{proper_here, PlainKept}
use Rattle.oa_simulation.proofs.sim_steps.Accesses.Succeeding.{plain_step}
use Rattle.oa_simulation.proofs.sim_steps.Accesses.Entries.{entry_step}
use Rattle.oa_simulation.proofs.sim_steps.Accesses.Zeroed.{zero_step}
use Rattle.oa_simulation.specs.sim_steps.Quiet.{is_quiet_at, is_quiet}
use Rattle.oa_simulation.proofs.sim_steps.Calling.{begin_kept}
use Rattle.caller_parts.specs.declared.setting.Reclamation.TheVariants.{Optimistic}

-- what a step of a caller stands on
pub record Stepping (t : Plan) (c : ℕ) (s : Shared) (x : Caller) : Type 0 where
  pub plan : IsPlan t
  pub below : c < t.setting.sizes.callers
  pub shared_holds : SharedHolds t s
  pub caller_holds : CallerHolds t s c x
  pub ready : TakesReady s.memory x.entry.routine
  pub belongs : Belongs t.target t.setting x.entry
  pub called : is_call t.target x.entry.running.call ≡ true
  pub proper : StaysProper t.text c (point s x)

-- a step that makes an access of the row and draws the plan's slots is kept
abbrev pub KeptNamingAs : (t : Plan) → ℕ → Shared → Caller → Option WordAccess → (ℕ → ℕ → Bool) → (ℕ → Moved) → (ℕ → ℕ) → Type 0
KeptNamingAs t c s x None were made present' = Unit {0}
KeptNamingAs t c s x (Some a) were made present' =
    in_row t.setting.sizes (word_of a) ≡ true → DrawsHome t.home (made (s.memory (word_of a))).signs s.unused
    → KeptWith t c s x x.names (were (s.memory (word_of a))) (after_access s.memory a) (made (s.memory (word_of a))) present'

-- and each slot keeps its name
abbrev pub KeptAs : (t : Plan) → ℕ → Shared → Caller → Option WordAccess → (ℕ → ℕ → Bool) → (ℕ → Moved) → Type 0
KeptAs t c s x o were made = KeptNamingAs t c s x o were made s.present

-- and so is one that changes the names of guards so
abbrev pub SteppedAs : (t : Plan) → ℕ → Shared → Caller → (GuardRow → Type 0) → Option WordAccess → (ℕ → ℕ → Bool) → (ℕ → Moved) → (ℕ → ℕ) → Type 0
SteppedAs t c s x Names None were made present' = Unit {0}
SteppedAs t c s x Names (Some a) were made present' =
    in_row t.setting.sizes (word_of a) ≡ true → DrawsHome t.home (made (s.memory (word_of a))).signs s.unused
    → Stepped t c s x Names (were (s.memory (word_of a))) (after_access s.memory a) (made (s.memory (word_of a))) present'

-- a kept step that changes no name is such a step
same_row : (t : Plan) (c : ℕ) (s : Shared) (x : Caller) (Names : GuardRow → Type 0) (o : Option WordAccess) (were : ℕ → ℕ → Bool) (made : ℕ → Moved) (present' : ℕ → ℕ) → Names x.names → KeptNamingAs t c s x o were made present' → SteppedAs t c s x Names o were made present'
same_row t c s x Names None were made present' same kept = tt
same_row t c s x Names (Some a) were made present' same kept = λ row draws. record { row = x.names; names = same; kept = kept row draws }

-- at a routine
abbrev pub sets_at : Plan → Caller → Routine → ℕ → ℕ → Bool
sets_at t x r word = set_after_access t.target x.entry r word x.was_set

abbrev pub KeptAt : (t : Plan) → ℕ → Shared → Caller → Routine → Type 0
KeptAt t c s x r = KeptNamingAs t c s x (wanted t.target x.entry r) (sets_at t x r) (λ word. accepted Optimistic t.target t.setting word (counted x.entry) r) (present_at t.target s.memory s.unused x.entry r s.present)

abbrev pub SteppedAt : (t : Plan) → ℕ → Shared → Caller → Routine → Type 0
SteppedAt t c s x r = SteppedAs t c s x (NamesAfter t s c x r) (wanted t.target x.entry r) (sets_at t x r) (λ word. accepted Optimistic t.target t.setting word (counted x.entry) r) (present_at t.target s.memory s.unused x.entry r s.present)

at_routine : (t : Plan) (c : ℕ) (s : Shared) (x : Caller) (r : Routine) → NamesAfter t s c x r x.names → KeptAt t c s x r → SteppedAt t c s x r
at_routine t c s x r same kept = same_row t c s x (NamesAfter t s c x r) (wanted t.target x.entry r) (sets_at t x r) (λ word. accepted Optimistic t.target t.setting word (counted x.entry) r) (present_at t.target s.memory s.unused x.entry r s.present) same kept

-- the accesses of the text: of an instruction of a method, and the exchanges of a list
abbrev pub PlainKeeps : (t : Plan) → ℕ → Shared → Caller → Type 0
PlainKeeps t c s x = (i : Instr) → x.entry.routine ≡ At → instr_in t.target x.entry ≡ Some (Plain i)
    → KeptAs t c s x (plain_wanted t.target.fields i x.entry.hand.registers) (λ word. set_plain t.target i word x.entry x.was_set) (λ word. instr_accepted Optimistic t.target t.setting.sizes (Some (Plain i)) word (counted x.entry))

abbrev pub EntryKeeps : (t : Plan) → ℕ → Shared → Caller → Type 0
EntryKeeps t c s x = (k : ℕ) (exchange : CasEntry) → x.entry.routine ≡ InList k → slice_get (list_of (instr_in t.target x.entry)) k ≡ Some exchange
    → KeptAs t c s x (list_wanted t.target.fields (Some exchange) x.entry.hand.registers) (λ word. x.was_set) (λ word. list_accepted Optimistic t.target t.setting.sizes k (Some exchange) word (counted x.entry))

both_true : (a b : Bool) → (a && b) ≡ true → b ≡ true
both_true true b is = is
both_true false b is = absurd (let z : false ≡ true = is in cc)

-- a guard's register is a reference
guard_register : (r : Reg) → IsTrue (is_guarded_register r) → (k : ℕ) × (r ≡ Ref k)
guard_register (Num k) is = absurd (let z : false ≡ true = is in cc)
guard_register (Ref k) is = (k, refl)

module _ (t : Plan) (c : ℕ) (s : Shared) (x : Caller) (w : Stepping t c s x) where
  number : x.entry.number ≡ c
  number = w.caller_holds.base.number

  spot_at : (r : Routine) → x.entry.routine ≡ r → HoldsAt t s c x r
  spot_at r is = subst (λ (r : Routine). HoldsAt t s c x r) is w.caller_holds.spot

  stands_at : (r : Routine) → x.entry.routine ≡ r → CoreStands t.target t.setting x.entry r
  stands_at r is = subst (λ (r : Routine). CoreStands t.target t.setting x.entry r) is w.belongs.stands

  -- the own warning is loaded
  by_start : (why : MethodStart) → x.entry.routine ≡ LoadSeen why → KeptAt t c s x (LoadSeen why)
  by_start why is = subst (λ (n : ℕ). KeptAs t c s x (Some (Loads (Warning n))) (sets_at t x (LoadSeen why)) (λ word. accepted Optimistic t.target t.setting word (counted x.entry) (LoadSeen why))) (sym number) (λ row draws. of why (spot_at (LoadSeen why) is)) where
    of : (why : MethodStart) → HoldsAt t s c x (LoadSeen why) → KeptSetting t c s x (set_begun t.target (is_wrap_up why) x.entry) (after_access s.memory (Loads (Warning c))) (accepted Optimistic t.target t.setting (s.memory (Warning c)) (counted x.entry) (LoadSeen why))
    of starts.Begin spot = begin_kept t c s x w.plan w.shared_holds w.caller_holds.base spot.0 spot.1 spot.2 w.called
    of starts.WrapUp spot = seen_kept t s c x spot.0 starts.WrapUp w.plan w.shared_holds w.caller_holds.base spot.1 spot.2 spot.3 refl (begins_restart t s c x spot.0 (erasing w.plan.compiled) spot.1)
    of starts.Again spot = seen_kept t s c x spot.0 starts.Again w.plan w.shared_holds w.caller_holds.base spot.1 spot.2 spot.3 refl (begins_restart t s c x spot.0 (erasing w.plan.compiled) spot.1)

  -- an instruction of the text, a check or a guard
  by_instr : PlainKeeps t c s x → x.entry.routine ≡ At → SteppedAt t c s x At
  by_instr plain is = of (instr_in t.target x.entry) refl where
    walk : Running t s c x (spot_of x.entry.hand)
    walk = spot_at At is

    here : (o : Option TargetInstr) → instr_in t.target x.entry ≡ o → slice_get (method_code walk.0.walk.method) x.entry.hand.at ≡ o
    here o there = sym (instr_is t s c x (spot_of x.entry.hand) walk.0 walk.1) ∙ there

    -- what a guard, a check or an instruction of the text makes of the names
    Steps : Option TargetInstr → ℕ → Type 0
    Steps o n = SteppedAs t c s x (NamesAt t s c x o) (instr_wanted t.target.fields n o x.entry.hand.registers) (λ word. set_at t.target o word x.entry x.was_set) (λ word. instr_accepted Optimistic t.target t.setting.sizes o word (counted x.entry)) s.present

    guards : (r : Reg) → instr_in t.target x.entry ≡ Some (Guard r) → (k : ℕ) × (r ≡ Ref k) → Steps (Some (Guard r)) c
    guards r there (k, same) = subst (λ (r : Reg). Steps (Some (Guard r)) c) (sym same)
        (λ row draws. record {
          row = with_names x.names k (guard_name t walk.0 k);
          names = (k, guard_name t walk.0 k, refl, refl, λ place calm some. guard_named t s c x k walk.0 w.plan.null walk.1 place calm some);
          kept = guard_kept t c s x k w.plan w.shared_holds w.caller_holds.base walk (here (Some (Guard (Ref k))) (there ∙ ap (λ (r : Reg). Some (Guard r)) same))
              (let slots = w.belongs.hand.guards.row.slots in let lt : nat_lt k 8 ≡ true = both_true (nat_lt c t.setting.sizes.callers) (nat_lt k 8) row in let less : k < 8 = grind (arith, nat_tests) in omega (arith, less, slots));
        })

    of : (o : Option TargetInstr) → instr_in t.target x.entry ≡ o → Steps o x.entry.number
    of None there = tt
    of (Some (Plain i)) there = same_row t c s x (NamesAt t s c x (Some (Plain i))) (plain_wanted t.target.fields i x.entry.hand.registers) (λ word. set_plain t.target i word x.entry x.was_set) (λ word. instr_accepted Optimistic t.target t.setting.sizes (Some (Plain i)) word (counted x.entry)) s.present refl (plain i is there)
    of (Some Check) there = subst (Steps (Some Check)) (sym number)
        (λ row draws. record {
          row = checked_names (s.memory (Warning c) == x.entry.hand.seen) x.names;
          names = refl;
          kept = check_kept t c s x w.plan w.shared_holds w.caller_holds.base walk (here (Some Check) there) w.below (proper_here t c s x w.proper walk.2.tied) w.belongs.hand.guards.row.slots;
        })
    of (Some (Guard r)) there = subst (Steps (Some (Guard r))) (sym number)
        (guards r there (guard_register r (sane_here t s c x (spot_of x.entry.hand) walk.0 (Guard r) w.plan.sane walk.1 (here (Some (Guard r)) there)).limits))

  -- an exchange of the list
  by_entry : EntryKeeps t c s x → (k : ℕ) → x.entry.routine ≡ InList k → KeptAt t c s x (InList k)
  by_entry entry k is = of (slice_get (list_of (instr_in t.target x.entry)) k) refl where
    of : (o : Option CasEntry) → slice_get (list_of (instr_in t.target x.entry)) k ≡ o → KeptAs t c s x (list_wanted t.target.fields o x.entry.hand.registers) (λ word. x.was_set) (λ word. list_accepted Optimistic t.target t.setting.sizes k o word (counted x.entry))
    of None there = tt
    of (Some exchange) there = entry k exchange is there

  -- a retirement
  by_retirement : (slot : ℕ) (stage : RetireStage) (go : AfterRetire) → x.entry.routine ≡ Retires (record { slot = slot; stage = stage }) go → KeptAt t c s x (Retires (record { slot = slot; stage = stage }) go)
  by_retirement slot retires.ReadPhase go is =
      let spot = spot_at (Retires (record { slot = slot; stage = retires.ReadPhase }) go) is in
      λ row draws. retire_loads t c s x slot spot.0.0 go w.shared_holds w.caller_holds.base spot.0.1 spot.1
  by_retirement slot (retires.StoreStatus p) onward.Next is =
      let spot = spot_at (Retires (record { slot = slot; stage = retires.StoreStatus p }) onward.Next) is in
      λ row draws. retire_stores_next t c s x slot spot.0.0 p w.plan w.shared_holds w.caller_holds.base spot.0.1 spot.1
  by_retirement slot (retires.StoreStatus p) (onward.List k) is =
      let spot = spot_at (Retires (record { slot = slot; stage = retires.StoreStatus p }) (onward.List k)) is in
      let stands = stands_at (Retires (record { slot = slot; stage = retires.StoreStatus p }) (onward.List k)) is in
      let there = list_there (instr_in t.target x.entry) k stands.1.0 in
      λ row draws. retire_stores_in_list t c s x slot spot.0.0 p k there.0 w.plan w.shared_holds w.caller_holds.base spot.0.1 spot.1 there.1

  -- a clear after a failed check
  by_restart : x.entry.routine ≡ Restarts → SteppedAt t c s x Restarts
  by_restart is = subst (λ (n : ℕ). SteppedAs t c s x (NamesCleared x (restart_next t.target x.entry)) (clear_wanted n (restart_next t.target x.entry)) (sets_at t x Restarts) (λ word. accepted Optimistic t.target t.setting word (counted x.entry) Restarts) s.present) (sym number) (of (restart_next t.target x.entry) refl) where
    spot : HoldsAt t s c x Restarts
    spot = spot_at Restarts is

    of : (o : Option ℕ) → restart_next t.target x.entry ≡ o → SteppedAs t c s x (NamesCleared x o) (clear_wanted c o) (sets_at t x Restarts) (λ word. accepted Optimistic t.target t.setting word (counted x.entry) Restarts) s.present
    of None none = tt
    of (Some r) next = λ row draws. record { row = with_names x.names r 0; names = refl; kept = restart_clears t c s x r w.plan w.shared_holds w.caller_holds.base w.belongs.hand.guards.row.slots next spot.0 spot.1 spot.2 }

  -- a `new` stands in a generator
  new_in_generator : (m : Trail t) → Walks t s c x (spot_of x.entry.hand) m → is_new_at (instr_in t.target x.entry) ≡ true → m.walk.method.wrapup ≡ false
  new_in_generator m walks new =
      let there = new_there (instr_in t.target x.entry) new in
      let here : slice_get (method_code m.walk.method) x.entry.hand.at ≡ Some (Plain (instr.New there.0 there.1)) = sym (instr_is t s c x (spot_of x.entry.hand) m walks) ∙ there.2 in
      (sane_here t s c x (spot_of x.entry.hand) m (Plain (instr.New there.0 there.1)) w.plan.sane walks here).own.news refl

  -- a clear at another moment
  by_clear : (next : AfterClear) → x.entry.routine ≡ Clears next → SteppedAt t c s x (Clears next)
  by_clear next is = subst (λ (n : ℕ). SteppedAs t c s x (NamesCleared x (clear_next t.target next x.entry)) (clear_wanted n (clear_next t.target next x.entry)) (λ word. x.was_set) (λ word. accepted Optimistic t.target t.setting word (counted x.entry) (Clears next)) s.present) (sym number) (of (clear_next t.target next x.entry) refl) where
    clear : (next : AfterClear) (r : ℕ) → x.entry.routine ≡ Clears next → clear_next t.target next x.entry ≡ Some r → KeptBy t c s x (with_names x.names r 0) x.was_set (after_access s.memory (Stores (Hazard c r) 0)) (accepted Optimistic t.target t.setting (s.memory (Hazard c r)) (counted x.entry) (Clears next))
    clear clears.New r is some =
        let spot = spot_at (Clears clears.New) is in
        new_clears t c s x r w.shared_holds w.caller_holds.base some spot (new_in_generator spot.0 spot.1 (stands_at (Clears clears.New) is).1)
    clear clears.WrapUp r is some = then_clears t c s x r clears.WrapUp (λ e. cc) w.plan w.shared_holds w.caller_holds.base w.belongs.hand.guards.row.slots some (spot_at (Clears clears.WrapUp) is)
    clear (clears.Reply reply) r is some = then_clears t c s x r (clears.Reply reply) (λ e. cc) w.plan w.shared_holds w.caller_holds.base w.belongs.hand.guards.row.slots some (spot_at (Clears (clears.Reply reply)) is)
    clear clears.Again r is some = then_clears t c s x r clears.Again (λ e. cc) w.plan w.shared_holds w.caller_holds.base w.belongs.hand.guards.row.slots some (spot_at (Clears clears.Again) is)

    of : (o : Option ℕ) → clear_next t.target next x.entry ≡ o → SteppedAs t c s x (NamesCleared x o) (clear_wanted c o) (λ word. x.was_set) (λ word. accepted Optimistic t.target t.setting word (counted x.entry) (Clears next)) s.present
    of None none = tt
    of (Some r) some = λ row draws. record { row = with_names x.names r 0; names = refl; kept = clear next r is some }

  -- a claim
  by_claim : (claim : Claim) → x.entry.routine ≡ Claims claim → KeptAt t c s x (Claims claim)
  by_claim claim is =
      let spot = spot_at (Claims claim) is in
      let stands = stands_at (Claims claim) is in
      let at_new = stands.0 in
      let gen = spot.1.1.wrapup ∙ new_in_generator spot.1.0 spot.1.1 at_new in
      let few : new_number t.target x.entry < length x.entry.cradles =
      (let known = stands.1.kind in
      let same = stands.2 in
      let four = w.plan.some.sizes.kinds.few in
      let small = cradle_number_small t.target x.entry.hand.wrapup (code_in t.target x.entry) x.entry.hand.at (sane_code t.target w.plan.sane x.entry.running.call.op x.entry.hand.wrapup) at_new (omega (arith, known, same, four)) in
      let count = w.belongs.cradles.count in omega (arith, small, count)) in
      λ row draws. claims_keep t c s x claim claim.stage refl (erasing w.plan.compiled) w.plan.null w.plan.callers w.shared_holds (record { base = w.caller_holds.base; running = spot.1; empty = spot.2; at_new = at_new; generator = gen }) few (subst (λ (r : Routine). TakesReady s.memory r) is w.ready) w.plan.optimistic stands.1 spot.0

  -- a store of 0 at a `new`
  by_zero : (k field : ℕ) → x.entry.routine ≡ Zeroes k field → KeptAt t c s x (Zeroes k field)
  by_zero k field is = λ row draws. zero_step t c s x k field (record { plan = w.plan; shared_holds = w.shared_holds; caller_holds = w.caller_holds; belongs = w.belongs; at = is; home = draws })

  by_routine : PlainKeeps t c s x → EntryKeeps t c s x → (r : Routine) → x.entry.routine ≡ r → SteppedAt t c s x r
  by_routine plain entry Idle is = tt
  by_routine plain entry (LoadSeen why) is = at_routine t c s x (LoadSeen why) refl (by_start why is)
  by_routine plain entry At is = by_instr plain is
  by_routine plain entry (InList k) is = at_routine t c s x (InList k) refl (by_entry entry k is)
  by_routine plain entry (Retires retirement go) is = at_routine t c s x (Retires retirement go) refl (by_retirement retirement.slot retirement.stage go is)
  by_routine plain entry Restarts is = by_restart is
  by_routine plain entry (Clears next) is = by_clear next is
  by_routine plain entry (Claims claim) is = at_routine t c s x (Claims claim) refl (by_claim claim is)
  by_routine plain entry (Zeroes k field) is = at_routine t c s x (Zeroes k field) refl (by_zero k field is)
  by_routine plain entry (Announces announcing) is = absurd (spot_at (Announces announcing) is)

  -- none of them is quiet
  no_plain : is_quiet t.target t.setting x.entry ≡ true → PlainKeeps t c s x
  no_plain quiet i is there = absurd (let z : false ≡ true = sym (ap (λ (o : Option TargetInstr). is_stop o) there) ∙ (sym (ap (λ (r : Routine). is_quiet_at t.target t.setting x.entry r) is) ∙ quiet) in cc)

  no_entry : is_quiet t.target t.setting x.entry ≡ true → EntryKeeps t c s x
  no_entry quiet k exchange is there = absurd (let z : false ≡ true = sym (ap (λ (r : Routine). is_quiet_at t.target t.setting x.entry r) is) ∙ quiet in cc)

-- each quiet step of every caller
pub quiet_steps : (t : Plan) → IsPlan t → StepsKeep t (is_quiet t.target t.setting)
unfolding wants
quiet_steps t plan = record {
  step = λ c s x a quiet below f told ready belongs called proper want row draws.
      (let w : Stepping t c s x = record { plan = plan; below = below; shared_holds = f; caller_holds = told; ready = ready; belongs = belongs; called = called; proper = proper } in
      subst (λ (o : Option WordAccess). SteppedAs t c s x (NamesAfter t s c x x.entry.routine) o (sets_at t x x.entry.routine) (λ word. after_moves Optimistic t.target t.setting x.entry word) (present_at t.target s.memory s.unused x.entry x.entry.routine s.present)) want
      (by_routine t c s x w (no_plain t c s x w quiet) (no_entry t c s x w quiet) x.entry.routine refl) row draws);
}

-- the accesses of the text
with_row : (t : Plan) (c : ℕ) (s : Shared) (x : Caller) (i : Instr) (o : Option WordAccess) → PlainKept t c s x i o → KeptAs t c s x o (λ word. set_plain t.target i word x.entry x.was_set) (λ word. instr_accepted Optimistic t.target t.setting.sizes (Some (Plain i)) word (counted x.entry))
with_row t c s x i None kept = tt
with_row t c s x i (Some a) kept = λ row draws. kept

plain_keeps : (t : Plan) (c : ℕ) (s : Shared) (x : Caller) → Stepping t c s x → PlainKeeps t c s x
plain_keeps t c s x w i at here = with_row t c s x i (plain_wanted t.target.fields i x.entry.hand.registers)
    (plain_step t c s x i (record { plan = w.plan; shared_holds = w.shared_holds; caller_holds = w.caller_holds; below = w.below; at = at; here = here; proper = w.proper }))

entry_keeps : (t : Plan) (c : ℕ) (s : Shared) (x : Caller) → Stepping t c s x → EntryKeeps t c s x
entry_keeps t c s x w k exchange at here = λ row draws. entry_step t c s x k exchange (record { plan = w.plan; shared_holds = w.shared_holds; caller_holds = w.caller_holds; at = at; here = here; proper = w.proper })

-- every step of every caller
pub steps_keep : (t : Plan) → IsPlan t → StepKeeps t
unfolding wants
steps_keep t plan = record {
  step = λ c s x a all below f told ready belongs called proper want row draws.
      (let w : Stepping t c s x = record { plan = plan; below = below; shared_holds = f; caller_holds = told; ready = ready; belongs = belongs; called = called; proper = proper } in
      subst (λ (o : Option WordAccess). SteppedAs t c s x (NamesAfter t s c x x.entry.routine) o (sets_at t x x.entry.routine) (λ word. after_moves Optimistic t.target t.setting x.entry word) (present_at t.target s.memory s.unused x.entry x.entry.routine s.present)) want
      (by_routine t c s x w (plain_keeps t c s x w) (entry_keeps t c s x w) x.entry.routine refl) row draws);
}
