-- Where local code stops, the entry belongs: before an access, at a clear, at a claim, at a list or in a reply.
use Rattle.std.proofs.Common.{◌≡◌, ℕ, zero, suc, ◌≤◌, ◌<◌, Bool, true, false, List, [], ◌∷◌, length, Option, Some, None, refl, sym, ◌∙◌, subst, arith}
use Rattle.std.specs.Prelude.{slice_index_or}
use Rattle.std.proofs.lemmas.Option.{slice_get-get_or}
use Rattle.norm_lang.specs.declared.text.CasEntry.{CasEntry}
use Rattle.norm_lang.specs.declared.text.Instr.{Instr}
use Rattle.norm_lang.specs.declared.text.Instr.TheVariants as instr
use Rattle.norm_lang.specs.declared.text.Reg.{Reg}
use Rattle.norm_lang.specs.declared.text.Reg.TheVariants.{Num, Ref}
use Rattle.norm_lang.specs.declared.registers.Registers.{Registers}
use Rattle.norm_lang.specs.InstructionRules.{is_end_of_other}
use Rattle.norm_lang.specs.Registers.{reference_in, first_registers, with_count, number_in}
use Rattle.norm_lang.specs.Local.{Spot, local_step}
use Rattle.norm_lang.specs.declared.reply.SourceReply.TheVariants as replies
use Rattle.target_code.specs.declared.target.TargetInstr.{TargetInstr}
use Rattle.target_code.specs.declared.target.TargetInstr.TheVariants.{Plain, Check, Guard}
use Rattle.target_code.specs.declared.target.Target.{Target}
use Rattle.caller_parts.specs.declared.routine.AfterClear.{AfterClear}
use Rattle.caller_parts.specs.declared.routine.AfterClear.TheVariants as clears
use Rattle.caller_parts.specs.declared.routine.AnnounceReason.TheVariants as reasons
use Rattle.caller_parts.specs.declared.routine.Announcing.{Announcing}
use Rattle.caller_parts.specs.declared.routine.Announcing.TheVariants as announces
use Rattle.caller_parts.specs.declared.setting.Reclamation.{Reclamation}
use Rattle.caller_parts.specs.declared.setting.Reclamation.TheVariants.{Optimistic, Epochs}
use Rattle.caller_parts.specs.Settings.{Setting, Fits}
use Rattle.caller_steps.specs.Entries.{Entry, op_of, code_in, cradle_of, instr_in, new_kind, new_number}
use Rattle.caller_parts.specs.Operands.{list_of, code_at, instr_at, is_new_at}
use Rattle.caller_steps.specs.Clearing.{clear_next, restart_next}
use Rattle.caller_steps.specs.After.{announced_list, announced_stop, clear_on, cleared, first_spot, generator_begun, list_begun, list_ended, method_begun, new_begun, new_on, plain_stop, restart_on, restarted, run_to, settles, stop_at, stopped, stops, then_goes, with_hand, with_routine, wrap_up_begun, wrap_up_hand, wrap_up_stop, wrap_up_stopped, wrap_up_stops}
use Rattle.caller_steps.specs.Signs.{Moved}
use Rattle.caller_steps.specs.Stands.{leaves}
use Rattle.caller_steps.specs.Belongs.{AnnouncingStands, Belongs, ClaimBelongs, ClearStands, GuardsSlots, HandBelongs, HaveKinds, HoldsSlots, IsSomeOf, NamesSlots, HasComeTo, has_access, is_check_at, scheme_of}
use Rattle.caller_parts.specs.declared.routine.Routine.TheVariants.{At, InList, Announces}
use Rattle.target_code.specs.LocalCode.{target_local_at}
use Rattle.target_laws.specs.target_runs.Sane.{SaneAt}
use Rattle.core_runs.proofs.caller_laws.Methods.{Methods, SettingSane, new_fits, zero_count_fits}
use Rattle.core_runs.proofs.caller_laws.KindSteps.{carried_typed, first_typed}
use Rattle.core_runs.proofs.caller_laws.Named.{numbered}
use Rattle.phase_pools.specs.declared.stages.Scheme.{Scheme}
use Rattle.phase_pools.specs.declared.stages.Scheme.TheVariants.{Warned, Announced}
use Rattle.phase_pools.specs.Pools.{claim_begun}
use Rattle.core_runs.proofs.caller_laws.Pools.{fresh_sweep}
use Rattle.core_runs.proofs.caller_laws.Reaching.{start_reached}
use Rattle.core_runs.proofs.caller_laws.Schemes.{announces_here, warns_here}
use Rattle.core_runs.proofs.caller_laws.Settling.{Comes, run_comes}

-- what an entry holds wherever it runs, but for its place and its registers
abbrev pub Holds : Target → Setting → Entry → Type 0
Holds target setting e = record {
  number : e.number < setting.sizes.callers;
  op : e.running.call.op < length target.ops;
  started : NamesSlots setting.sizes.slots e.hand.started;
  start : e.hand.wrapup ≡ true → HaveKinds target setting (op_of target e) true 0 e.hand.started;
  guards : GuardsSlots setting.sizes.slots e.hand.guards;
  cradles : HoldsSlots setting.sizes e.cradles;
  seen : e.hand.seen ≤ setting.last;
}

-- what is moved leaves an entry that belongs
abbrev pub BelongsIn : Target → Setting → Moved → Type 0
BelongsIn target setting m = Belongs target setting m.entry

-- its place and its registers
abbrev pub Here : Target → Setting → Entry → Type 0
Here target setting e = Comes target setting e.running.call.op e.hand.wrapup (record { at = e.hand.at; registers = e.hand.registers })

pub hand_belongs : (target : Target) (setting : Setting) (e : Entry) → Holds target setting e → NamesSlots setting.sizes.slots e.hand.registers → HandBelongs setting e.hand
hand_belongs target setting e h names = record { registers = names; started = h.started; guards = h.guards; seen = h.seen }

-- at an access of its instruction, and at what follows
pub at_access : (target : Target) (setting : Setting) (e : Entry) → Holds target setting e → Here target setting e
    → has_access (instr_in target e) ≡ true → Belongs target setting (with_routine e At)
at_access target setting e h c has = record { number = h.number; op = h.op; hand = hand_belongs target setting e h c.names; cradles = h.cradles; reaches = c.reached; kinds = record { now = c.kinds; started = h.start }; stands = has }

-- at a `new` it claims a slot, by the setting's scheme, or stores 0 to the fields of the one in its cradle
pub new_belongs : (target : Target) (setting : Setting) (scheme : Scheme) (e : Entry) → Methods target → SettingSane setting → Fits target setting → Holds target setting e → Here target setting e
    → scheme ≡ scheme_of setting.reclamation e.number → is_new_at (instr_in target e) ≡ true → Belongs target setting (new_begun scheme target setting.sizes e)
new_belongs target setting scheme e sane some fits h c follows stands = of (cradle_of e (new_number target e)) refl where
  begun_claim : ClaimBelongs setting e.number (claim_begun setting.sizes (new_kind target e) scheme)
  begun_claim = record { kind = (new_fits target setting e.running.call.op e.hand.wrapup e.hand.at sane some fits stands).0; scheme = follows; tops = refl; stands = tt; sweep = fresh_sweep setting setting.sizes.tops scheme }

  of : (j : ℕ) → cradle_of e (new_number target e) ≡ j → Belongs target setting (new_on scheme setting.sizes (new_kind target e) (new_number target e) j e)
  of zero is = record { number = h.number; op = h.op; hand = hand_belongs target setting e h c.names; cradles = h.cradles; reaches = c.reached; kinds = record { now = c.kinds; started = h.start }; stands = (stands, begun_claim, refl) }
  of (suc j) is = record { number = h.number; op = h.op; hand = hand_belongs target setting e h c.names; cradles = h.cradles; reaches = c.reached; kinds = record { now = c.kinds; started = h.start }; stands = (stands, refl, (λ null. let z : suc j ≡ 0 = sym is ∙ null in omega (arith, z)), (zero_count_fits target setting e.running.call.op e.hand.wrapup e.hand.at sane fits stands).0) }

-- where a clear ends: under optimistic access alone
then_belongs : (target : Target) (setting : Setting) (next : AfterClear) (e : Entry) → Methods target → SettingSane setting → Fits target setting → Holds target setting e → Here target setting e
    → setting.reclamation ≡ Optimistic → ClearStands (instr_in target e) e.hand next → Belongs target setting (then_goes target setting.sizes next e)
then_belongs target setting clears.New e sane some fits h c scheme stands = new_belongs target setting Warned e sane some fits h c (warns_here setting e.number scheme) stands
then_belongs target setting clears.WrapUp e sane some fits h c scheme stands = record { number = h.number; op = h.op; hand = hand_belongs target setting e h c.names; cradles = h.cradles; reaches = c.reached; kinds = record { now = c.kinds; started = h.start }; stands = (scheme, stands) }
then_belongs target setting (clears.Reply reply) e sane some fits h c scheme stands = record { number = h.number; op = h.op; hand = hand_belongs target setting e h c.names; cradles = h.cradles; reaches = c.reached.inside; kinds = tt; stands = tt }
then_belongs target setting clears.Again e sane some fits h c scheme stands = record { number = h.number; op = h.op; hand = hand_belongs target setting e h c.names; cradles = h.cradles; reaches = c.reached; kinds = record { now = c.kinds; started = h.start }; stands = (scheme, stands) }

pub cleared_belongs : (target : Target) (setting : Setting) (next : AfterClear) (e : Entry) → Methods target → SettingSane setting → Fits target setting → Holds target setting e → Here target setting e
    → setting.reclamation ≡ Optimistic → ClearStands (instr_in target e) e.hand next → Belongs target setting (cleared target setting.sizes next e)
cleared_belongs target setting next e sane some fits h c scheme stands = of (clear_next target next e) refl where
  of : (o : Option ℕ) → clear_next target next e ≡ o → Belongs target setting (clear_on target setting.sizes next o e)
  of None is = then_belongs target setting next e sane some fits h c scheme stands
  of (Some r) is = record { number = h.number; op = h.op; hand = hand_belongs target setting e h c.names; cradles = h.cradles; reaches = c.reached; kinds = record { now = c.kinds; started = h.start }; stands = (scheme, stands, subst IsSomeOf (sym is) tt) }

-- what an instruction says of its method
pub site_of : (target : Target) (e : Entry) (i : TargetInstr) → Methods target → HasComeTo (code_in target e) e.hand.at e.hand.registers → instr_in target e ≡ Some i → SaneAt target e.hand.wrapup (code_in target e) e.hand.at i
site_of target e i sane reached is = (sane.code e.running.call.op e.hand.wrapup).each e.hand.at i reached.path.0 is reached.path.1

-- a commit stands in a generator
in_generator : (wrapup : Bool) (exchanges : List CasEntry) → is_end_of_other wrapup (instr.Commit exchanges) ≡ false → wrapup ≡ false
in_generator false exchanges own = refl
in_generator true exchanges own = absurd (let e : true ≡ false = own in cc)

-- so what registers may have there they may have where the wrap-up starts
commit_carries : (target : Target) (setting : Setting) (made : ℕ) (e : Entry) (exchanges : List CasEntry) → Methods target → Here target setting e → instr_in target e ≡ Some (Plain (instr.Commit exchanges))
    → HaveKinds target setting (op_of target e) true 0 (with_count e.hand.registers made)
commit_carries target setting made e exchanges sane c is =
    carried_typed target setting (op_of target e) e.hand.at e.hand.registers exchanges made
    (subst (λ (w : Bool). instr_at target e.running.call.op w e.hand.at ≡ Some (Plain (instr.Commit exchanges))) here is)
    (subst (λ (w : Bool). HaveKinds target setting (op_of target e) w e.hand.at e.hand.registers) here c.kinds)
  where
    here : e.hand.wrapup ≡ false
    here = in_generator e.hand.wrapup exchanges (site_of target e (Plain (instr.Commit exchanges)) sane c.reached is).own.form.own_end

-- a list has ended: the wrap-up's start, and what holds there
wrap_up_holds : (target : Target) (setting : Setting) (made : ℕ) (e : Entry) (exchanges : List CasEntry) → Methods target → Holds target setting e → Here target setting e → instr_in target e ≡ Some (Plain (instr.Commit exchanges))
    → Holds target setting (with_hand e (wrap_up_hand made e.hand))
wrap_up_holds target setting made e exchanges sane h c is =
    let carried = commit_carries target setting made e exchanges sane c is in
    record { number = h.number; op = h.op; started = numbered setting.sizes.slots e.hand.registers (Num 7) made c.names; start = λ wrapup. carried; guards = h.guards; cradles = h.cradles; seen = h.seen }

wrap_up_here : (target : Target) (setting : Setting) (made : ℕ) (e : Entry) (exchanges : List CasEntry) → Methods target → Holds target setting e → Here target setting e → instr_in target e ≡ Some (Plain (instr.Commit exchanges))
    → Comes target setting e.running.call.op true (record { at = 0; registers = with_count e.hand.registers made })
wrap_up_here target setting made e exchanges sane h c is = record {
  reached = start_reached (code_at target e.running.call.op true) (with_count e.hand.registers made) (sane.some e.running.call.op true h.op);
  names = numbered setting.sizes.slots e.hand.registers (Num 7) made c.names;
  kinds = commit_carries target setting made e exchanges sane c is;
}

pub ended_belongs : (target : Target) (setting : Setting) (made : ℕ) (e : Entry) (exchanges : List CasEntry) → Methods target → SettingSane setting → Fits target setting → Holds target setting e → Here target setting e
    → setting.reclamation ≡ Optimistic → instr_in target e ≡ Some (Plain (instr.Commit exchanges)) → Belongs target setting (list_ended target setting.sizes made e)
ended_belongs target setting made e exchanges sane some fits h c scheme is =
    cleared_belongs target setting clears.WrapUp (with_hand e (wrap_up_hand made e.hand)) sane some fits (wrap_up_holds target setting made e exchanges sane h c is) (wrap_up_here target setting made e exchanges sane h c is) scheme (refl, refl)

-- before the first exchange of a list
in_list : (target : Target) (setting : Setting) (exchange : CasEntry) (exchanges : List CasEntry) (e : Entry) → Holds target setting e → Here target setting e → instr_in target e ≡ Some (Plain (instr.Commit (exchange ∷ exchanges)))
    → Belongs target setting (with_routine e (InList 0))
in_list target setting exchange exchanges e h c is = record { number = h.number; op = h.op; hand = hand_belongs target setting e h c.names; cradles = h.cradles; reaches = c.reached; kinds = record { now = c.kinds; started = h.start }; stands = subst (λ (o : Option TargetInstr). 0 < length (list_of o)) (sym is) (omega arith) }

list_belongs : (target : Target) (setting : Setting) (exchanges : List CasEntry) (e : Entry) → Methods target → SettingSane setting → Fits target setting → Holds target setting e → Here target setting e
    → setting.reclamation ≡ Optimistic → instr_in target e ≡ Some (Plain (instr.Commit exchanges)) → BelongsIn target setting (list_begun target setting.sizes exchanges e)
list_belongs target setting [] e sane some fits h c scheme is = ended_belongs target setting 0 e [] sane some fits h c scheme is
list_belongs target setting (exchange ∷ exchanges) e sane some fits h c scheme is = in_list target setting exchange exchanges e h c is

pub in_wrap_up : (wrapup : Bool) → is_end_of_other wrapup instr.ReturnNone ≡ false → wrapup ≡ true
in_wrap_up true own = refl
in_wrap_up false own = absurd (let e : true ≡ false = own in cc)

-- a reply, and `again`, stand in a wrap-up
module _ (target : Target) (setting : Setting) (e : Entry) (sane : Methods target) (c : Here target setting e) where
  return_there : (a : Reg) → instr_in target e ≡ Some (Plain (instr.Return a)) → e.hand.wrapup ≡ true
  return_there a is = in_wrap_up e.hand.wrapup (own e.hand.wrapup (site_of target e (Plain (instr.Return a)) sane c.reached is).own.form.own_end) where
    own : (w : Bool) → is_end_of_other w (instr.Return a) ≡ false → is_end_of_other w instr.ReturnNone ≡ false
    own true x = x
    own false x = x

  nothing_there : instr_in target e ≡ Some (Plain instr.ReturnNone) → e.hand.wrapup ≡ true
  nothing_there is = in_wrap_up e.hand.wrapup (site_of target e (Plain instr.ReturnNone) sane c.reached is).own.form.own_end

  again_there : instr_in target e ≡ Some (Plain instr.Again) → e.hand.wrapup ≡ true
  again_there is = in_wrap_up e.hand.wrapup (own e.hand.wrapup (site_of target e (Plain instr.Again) sane c.reached is).own.form.own_end) where
    own : (w : Bool) → is_end_of_other w instr.Again ≡ false → is_end_of_other w instr.ReturnNone ≡ false
    own true x = x
    own false x = x

  -- and a `new` in a generator
  pub new_in_generator : (d : Reg) (kind : ℕ) → instr_in target e ≡ Some (Plain (instr.New d kind)) → e.hand.wrapup ≡ false
  new_in_generator d kind is = (site_of target e (Plain (instr.New d kind)) sane c.reached is).own.news refl

-- what neither leads elsewhere nor is local is an access
comes_to_access : (i : Instr) (at : ℕ) (registers : Registers) → leaves i ≡ false → local_step i at registers ≡ None → has_access (Some (Plain i)) ≡ true
comes_to_access (instr.LoadRoot d x) at registers stays ends = refl
comes_to_access (instr.LoadPick d x n a) at registers stays ends = refl
comes_to_access (instr.LoadField d a f) at registers stays ends = refl
comes_to_access (instr.Put a f b) at registers stays ends = refl
comes_to_access (instr.Cas exchange l) at registers stays ends = refl
comes_to_access _ at registers stays ends = absurd cc

plain_belongs : (target : Target) (setting : Setting) (i : Instr) (e : Entry) → Methods target → SettingSane setting → Fits target setting → Holds target setting e → Here target setting e
    → setting.reclamation ≡ Optimistic → instr_in target e ≡ Some (Plain i) → local_step i e.hand.at e.hand.registers ≡ None → BelongsIn target setting (plain_stop target setting.sizes i e)
plain_belongs target setting (instr.New d kind) e sane some fits h c scheme is ends = cleared_belongs target setting clears.New e sane some fits h c scheme (rw is refl)
plain_belongs target setting (instr.Commit exchanges) e sane some fits h c scheme is ends = list_belongs target setting exchanges e sane some fits h c scheme is
plain_belongs target setting (instr.Return a) e sane some fits h c scheme is ends =
    cleared_belongs target setting (clears.Reply (replies.Number (number_in e.hand.registers a))) e sane some fits h c scheme (return_there target setting e sane c a is, rw is refl)
plain_belongs target setting instr.ReturnNone e sane some fits h c scheme is ends =
    cleared_belongs target setting (clears.Reply replies.Nothing) e sane some fits h c scheme (nothing_there target setting e sane c is, rw is refl)
plain_belongs target setting instr.Again e sane some fits h c scheme is ends = cleared_belongs target setting clears.Again e sane some fits h c scheme (again_there target setting e sane c is, rw is refl)
plain_belongs target setting i e sane some fits h c scheme is ends = at_access target setting e h c (rw is (comes_to_access i e.hand.at e.hand.registers refl ends))

-- ---- under epochs

-- before an access of an announcement
announces_belongs : (target : Target) (setting : Setting) (announcing : Announcing) (e : Entry) → Holds target setting e → Here target setting e → setting.reclamation ≡ Epochs
    → AnnouncingStands setting (instr_in target e) e.hand announcing → Belongs target setting (with_routine e (Announces announcing))
announces_belongs target setting announcing e h c scheme stands = record { number = h.number; op = h.op; hand = hand_belongs target setting e h c.names; cradles = h.cradles; reaches = c.reached; kinds = record { now = c.kinds; started = h.start }; stands = (scheme, stands) }

-- where local code stops in a wrap-up
wrap_up_belongs : (target : Target) (setting : Setting) (i : Instr) (e : Entry) → Methods target → Holds target setting e → Here target setting e
    → setting.reclamation ≡ Epochs → instr_in target e ≡ Some (Plain i) → e.hand.wrapup ≡ true → local_step i e.hand.at e.hand.registers ≡ None → BelongsIn target setting (wrap_up_stop i e)
wrap_up_belongs target setting (instr.New d kind) e sane h c scheme is own ends = absurd (let new = new_in_generator target setting e sane c d kind is in let no : false ≡ true = sym new ∙ own in cc)
wrap_up_belongs target setting (instr.Commit exchanges) e sane h c scheme is own ends = absurd (let here = in_generator e.hand.wrapup exchanges (site_of target e (Plain (instr.Commit exchanges)) sane c.reached is).own.form.own_end in let no : false ≡ true = sym here ∙ own in cc)
wrap_up_belongs target setting (instr.Return a) e sane h c scheme is own ends =
    announces_belongs target setting (announces.Leaves (replies.Number (number_in e.hand.registers a))) e h c scheme (return_there target setting e sane c a is, rw is refl)
wrap_up_belongs target setting instr.ReturnNone e sane h c scheme is own ends = announces_belongs target setting (announces.Leaves replies.Nothing) e h c scheme (nothing_there target setting e sane c is, rw is refl)
wrap_up_belongs target setting instr.Again e sane h c scheme is own ends = announces_belongs target setting (announces.Loads reasons.Again) e h c scheme (again_there target setting e sane c is, rw is refl)
wrap_up_belongs target setting i e sane h c scheme is own ends = at_access target setting e h c (rw is (comes_to_access i e.hand.at e.hand.registers refl ends))

wrap_up_stopped_belongs : (target : Target) (setting : Setting) (e : Entry) → Methods target → Holds target setting e → Here target setting e
    → setting.reclamation ≡ Epochs → e.hand.wrapup ≡ true → target_local_at (instr_in target e) e.hand.at e.hand.registers ≡ None → BelongsIn target setting (wrap_up_stopped target e)
wrap_up_stopped_belongs target setting e sane h c scheme own ends = of (instr_in target e) refl ends where
  of : (o : Option TargetInstr) → instr_in target e ≡ o → target_local_at o e.hand.at e.hand.registers ≡ None → BelongsIn target setting (wrap_up_stops o e)
  of None is none = absurd (let there : instr_in target e ≡ Some (slice_index_or (code_in target e) e.hand.at Check) = slice_get-get_or (code_in target e) e.hand.at Check c.reached.inside in cc)
  of (Some Check) is none = at_access target setting e h c (rw is refl)
  of (Some (Guard r)) is none = at_access target setting e h c (rw is refl)
  of (Some (Plain i)) is none = wrap_up_belongs target setting i e sane h c scheme is own none

-- a list has ended: the wrap-up runs
pub wrap_up_begun_belongs : (target : Target) (setting : Setting) (made : ℕ) (e : Entry) (exchanges : List CasEntry) → Methods target → Holds target setting e → Here target setting e
    → setting.reclamation ≡ Epochs → instr_in target e ≡ Some (Plain (instr.Commit exchanges)) → BelongsIn target setting (wrap_up_begun target made e)
wrap_up_begun_belongs target setting made e exchanges sane h c scheme is =
    let begun = with_hand e (wrap_up_hand made e.hand) in
    let spot : Spot = record { at = 0; registers = with_count e.hand.registers made } in
    let holds = wrap_up_holds target setting made e exchanges sane h c is in
    let method = sane.code e.running.call.op true in
    wrap_up_stopped_belongs target setting (run_to target spot begun) sane
    (record { number = holds.number; op = holds.op; started = holds.started; start = holds.start; guards = holds.guards; cradles = holds.cradles; seen = holds.seen })
    (run_comes target setting e.running.call.op true (length (code_in target begun)) spot method (wrap_up_here target setting made e exchanges sane h c is))
    scheme refl (method.ends spot)

announced_list_belongs : (target : Target) (setting : Setting) (exchanges : List CasEntry) (e : Entry) → Methods target → Holds target setting e → Here target setting e
    → setting.reclamation ≡ Epochs → instr_in target e ≡ Some (Plain (instr.Commit exchanges)) → BelongsIn target setting (announced_list target exchanges e)
announced_list_belongs target setting [] e sane h c scheme is = wrap_up_begun_belongs target setting 0 e [] sane h c scheme is
announced_list_belongs target setting (exchange ∷ exchanges) e sane h c scheme is = in_list target setting exchange exchanges e h c is

-- where local code stops in either method
announced_belongs : (target : Target) (setting : Setting) (i : Instr) (e : Entry) → Methods target → SettingSane setting → Fits target setting → Holds target setting e → Here target setting e
    → setting.reclamation ≡ Epochs → instr_in target e ≡ Some (Plain i) → local_step i e.hand.at e.hand.registers ≡ None → BelongsIn target setting (announced_stop target setting.sizes i e)
announced_belongs target setting (instr.New d kind) e sane some fits h c scheme is ends = new_belongs target setting (Announced e.number) e sane some fits h c (announces_here setting e.number scheme) (rw is refl)
announced_belongs target setting (instr.Commit exchanges) e sane some fits h c scheme is ends = announced_list_belongs target setting exchanges e sane h c scheme is
announced_belongs target setting (instr.Return a) e sane some fits h c scheme is ends =
    announces_belongs target setting (announces.Leaves (replies.Number (number_in e.hand.registers a))) e h c scheme (return_there target setting e sane c a is, rw is refl)
announced_belongs target setting instr.ReturnNone e sane some fits h c scheme is ends = announces_belongs target setting (announces.Leaves replies.Nothing) e h c scheme (nothing_there target setting e sane c is, rw is refl)
announced_belongs target setting instr.Again e sane some fits h c scheme is ends = announces_belongs target setting (announces.Loads reasons.Again) e h c scheme (again_there target setting e sane c is, rw is refl)
announced_belongs target setting i e sane some fits h c scheme is ends = at_access target setting e h c (rw is (comes_to_access i e.hand.at e.hand.registers refl ends))

-- ---- under either scheme

stop_belongs : (target : Target) (setting : Setting) (by : Reclamation) (i : Instr) (e : Entry) → Methods target → SettingSane setting → Fits target setting → Holds target setting e → Here target setting e
    → setting.reclamation ≡ by → instr_in target e ≡ Some (Plain i) → local_step i e.hand.at e.hand.registers ≡ None → BelongsIn target setting (stop_at by target setting.sizes i e)
stop_belongs target setting Optimistic i e sane some fits h c scheme is ends = plain_belongs target setting i e sane some fits h c scheme is ends
stop_belongs target setting Epochs i e sane some fits h c scheme is ends = announced_belongs target setting i e sane some fits h c scheme is ends

pub stopped_belongs : (target : Target) (setting : Setting) (by : Reclamation) (e : Entry) → Methods target → SettingSane setting → Fits target setting → Holds target setting e → Here target setting e
    → setting.reclamation ≡ by → target_local_at (instr_in target e) e.hand.at e.hand.registers ≡ None → BelongsIn target setting (stopped by target setting.sizes e)
stopped_belongs target setting by e sane some fits h c scheme ends = of (instr_in target e) refl ends where
  of : (o : Option TargetInstr) → instr_in target e ≡ o → target_local_at o e.hand.at e.hand.registers ≡ None → BelongsIn target setting (stops by target setting.sizes o e)
  of None is none = absurd (let there : instr_in target e ≡ Some (slice_index_or (code_in target e) e.hand.at Check) = slice_get-get_or (code_in target e) e.hand.at Check c.reached.inside in cc)
  of (Some Check) is none = at_access target setting e h c (rw is refl)
  of (Some (Guard r)) is none = at_access target setting e h c (rw is refl)
  of (Some (Plain i)) is none = stop_belongs target setting by i e sane some fits h c scheme is none

-- local code from a spot on
pub settles_belongs : (target : Target) (setting : Setting) (by : Reclamation) (spot : Spot) (e : Entry) → Methods target → SettingSane setting → Fits target setting → Holds target setting e
    → setting.reclamation ≡ by → Comes target setting e.running.call.op e.hand.wrapup spot → BelongsIn target setting (settles by target setting.sizes spot e)
settles_belongs target setting by spot e sane some fits h scheme c =
    let method = sane.code e.running.call.op e.hand.wrapup in
    stopped_belongs target setting by (run_to target spot e) sane some fits
    (record { number = h.number; op = h.op; started = h.started; start = h.start; guards = h.guards; cradles = h.cradles; seen = h.seen })
    (run_comes target setting e.running.call.op e.hand.wrapup (length (code_in target e)) spot method c)
    scheme (method.ends spot)

-- the registers with which a generator starts
pub first_names : (slots : ℕ) (args : List ℕ) → NamesSlots slots (first_registers args)
first_names slots args = record { numbers = refl; references = refl; within = eight } where
  eight : (r : ℕ) → (reference_in (first_registers args) (Ref r)).node ≤ slots
  eight (suc (suc (suc (suc (suc (suc (suc zero))))))) = omega arith
  eight _ = omega arith

-- a method runs from its start: a wrap-up only if one runs already
begun_holds : (target : Target) (setting : Setting) (wrapup : Bool) (e : Entry) → Holds target setting e → (wrapup ≡ true → e.hand.wrapup ≡ true) → Holds target setting (with_hand e (record e.hand { wrapup = wrapup; accessed = false }))
begun_holds target setting wrapup e h runs = record { number = h.number; op = h.op; started = h.started; start = λ is. h.start (runs is); guards = h.guards; cradles = h.cradles; seen = h.seen }

generator_comes : (target : Target) (setting : Setting) (e : Entry) → Methods target → Holds target setting e → Comes target setting e.running.call.op false (first_spot false e.running.call.args e.hand.started)
generator_comes target setting e sane h = record {
  reached = start_reached (code_at target e.running.call.op false) (first_registers e.running.call.args) (sane.some e.running.call.op false h.op);
  names = first_names setting.sizes.slots e.running.call.args;
  kinds = first_typed target setting false (op_of target e) 0 e.running.call.args;
}

pub begun_belongs : (target : Target) (setting : Setting) (wrapup : Bool) (e : Entry) → Methods target → SettingSane setting → Fits target setting → Holds target setting e → setting.reclamation ≡ Optimistic → (wrapup ≡ true → e.hand.wrapup ≡ true)
    → BelongsIn target setting (method_begun target setting.sizes wrapup e)
begun_belongs target setting wrapup e sane some fits h scheme runs =
    settles_belongs target setting Optimistic (first_spot wrapup e.running.call.args e.hand.started) (with_hand e (record e.hand { wrapup = wrapup; accessed = false })) sane some fits
    (begun_holds target setting wrapup e h runs) scheme (of wrapup runs) where
      of : (w : Bool) → (w ≡ true → e.hand.wrapup ≡ true) → Comes target setting e.running.call.op w (first_spot w e.running.call.args e.hand.started)
      of true runs = record { reached = start_reached (code_at target e.running.call.op true) e.hand.started (sane.some e.running.call.op true h.op); names = h.started; kinds = h.start (runs refl) }
      of false runs = generator_comes target setting e sane h

-- the generator runs once the phase is announced
pub generator_belongs : (target : Target) (setting : Setting) (e : Entry) → Methods target → SettingSane setting → Fits target setting → Holds target setting e → setting.reclamation ≡ Epochs → BelongsIn target setting (generator_begun target setting.sizes e)
generator_belongs target setting e sane some fits h scheme =
    settles_belongs target setting Epochs (first_spot false e.running.call.args e.hand.started) (with_hand e (record e.hand { wrapup = false; accessed = false })) sane some fits
    (begun_holds target setting false e h (λ is. absurd (let no : false ≡ true = is in cc))) scheme (generator_comes target setting e sane h)

-- after a failed check
pub restarted_belongs : (target : Target) (setting : Setting) (e : Entry) → Methods target → SettingSane setting → Fits target setting → Holds target setting e → Here target setting e → setting.reclamation ≡ Optimistic
    → is_check_at (instr_in target e) ≡ true → BelongsIn target setting (restarted target setting.sizes e)
restarted_belongs target setting e sane some fits h c scheme stands = of (restart_next target e) refl where
  of : (o : Option ℕ) → restart_next target e ≡ o → BelongsIn target setting (restart_on target setting.sizes o e)
  of None is = begun_belongs target setting e.hand.wrapup e sane some fits h scheme (λ runs. runs)
  of (Some r) is = record { number = h.number; op = h.op; hand = hand_belongs target setting e h c.names; cradles = h.cradles; reaches = c.reached; kinds = record { now = c.kinds; started = h.start }; stands = (scheme, stands, subst IsSomeOf (sym is) tt) }
