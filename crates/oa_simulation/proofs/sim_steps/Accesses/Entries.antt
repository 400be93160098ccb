-- The exchanges of a list, of a caller that belongs.
use Rattle.std.proofs.Common.{ℕ, zero, suc, ◌≡◌, ◌≢◌, ◌==◌, ◌+◌, ◌⊎◌, ◌∙◌, Bool, true, false, List, [], ◌∷◌, map, length, Option, Some, None, inl, inr, ⊎_elim, sym, ap, subst, refl, if◌then◌else◌}
use Rattle.std.specs.Prelude.{slice_get, slice_index, nat_lt, is_some}
use Rattle.std.proofs.lemmas.Bool.{cases_eq}
use Rattle.std.proofs.lemmas.Bool.Decides.{eqb_tells}
use Rattle.norm_lang.specs.declared.text.Reg.{Reg}
use Rattle.norm_lang.specs.declared.text.Reg.TheVariants.{Num, Ref}
use Rattle.norm_lang.specs.declared.text.CasEntry.{CasEntry}
use Rattle.norm_lang.specs.declared.text.Instr.TheVariants as instr
use Rattle.norm_lang.specs.declared.registers.Registers.{Registers}
use Rattle.norm_lang.specs.InstructionRules.{has_wrong_operand, retires_stranger}
use Rattle.norm_lang.specs.NormalForm.{IsNormal}
use Rattle.norm_lang.specs.Registers.{node_in}
use Rattle.target_code.specs.declared.target.TargetInstr.{TargetInstr}
use Rattle.target_code.specs.declared.target.TargetInstr.TheVariants.{Plain}
use Rattle.target_code.specs.Erasing.{source_place}
use Rattle.target_code.specs.PathStates.{is_fresh_along}
use Rattle.phase_pools.specs.Accesses.{word_of}
use Rattle.phase_pools.specs.Pools.{retire_begun}
use Rattle.source_machine.specs.declared.event.SourceEvent.TheVariants as events
use Rattle.source_machine.specs.declared.state.Memory.{Memory}
use Rattle.source_machine.specs.Memory.{value_in, exchange}
use Rattle.source_machine.specs.Proper.{has, IsOnce}
use Rattle.source_machine.specs.Run.{is_enabled_for}
use Rattle.source_machine.specs.Step.{caller_turn}
use Rattle.source_machine.specs.MethodRuns.{name_in}
use Rattle.caller_parts.specs.declared.routine.AfterRetire.TheVariants as onward
use Rattle.caller_parts.specs.declared.routine.Routine.{Routine}
use Rattle.caller_parts.specs.declared.routine.Routine.TheVariants.{InList, Retires}
use Rattle.caller_steps.specs.Entries.{Entry, instr_in}
use Rattle.caller_parts.specs.Operands.{list_of, slot_in, succeeds, to_retire, emptied}
use Rattle.caller_steps.specs.Signs.{Accesses, quiet, told}
use Rattle.caller_steps.specs.Wants.{exchange_wanted}
use Rattle.caller_steps.specs.After.{counted, with_published, with_routine, retires_then, list_ended, entry_made}
use Rattle.target_laws.specs.Methods.{code_in}
use Rattle.target_laws.proofs.Forms.{instructions_are_in_form}
use Rattle.target_laws.proofs.FreshRules.{open_reads_are_not_fresh}
use Rattle.run_ahead.specs.Agreeing.{Agree}
use Rattle.run_ahead.specs.Standing.{stands_in_list}
use Rattle.run_ahead.proofs.Lists.{lists_are_made}
use Rattle.run_ahead.proofs.Plain.{kind_right}
use Rattle.run_ahead.specs.Typed.{AreAskedBy}
use Rattle.run_ahead.specs.TypedCallers.{IsTypedCaller}
use Rattle.run_ahead.proofs.Asked.{lists_find_kinds}
use Rattle.run_ahead.specs.Ahead.{erasing}
use Rattle.oa_simulation.specs.sim_relation.Views.{Plan, IsPlan, Shared, Caller}
use Rattle.oa_simulation.specs.sim_relation.Shared.{SharedHolds}
use Rattle.oa_simulation.specs.sim_relation.Callers.{CallerHolds, HoldsAt, IsRetiring, Shown, Base, Trail, Walks, Guards, InExecutor, AfterExchange, spot_of}
use Rattle.oa_simulation.specs.sim_relation.Points.{StaysProper, IsProperPoint, point, played, makes, done}
use Rattle.chain_laws.specs.Memories.{after_access}
use Rattle.oa_simulation.specs.sim_relation.Steps.{Kept}
use Rattle.oa_simulation.proofs.sim_relation.Codes.{instr_is}
use Rattle.oa_simulation.proofs.sim_relation.Playing.{PlaysEvent, plays_one, plays_first}
use Rattle.oa_simulation.proofs.sim_steps.Walks.Committing.{list_ends}
use Rattle.oa_simulation.proofs.sim_steps.Exchanges.Exchanging.{Offers, tests_agree}
use Rattle.oa_simulation.proofs.sim_steps.Exchanges.Entering.{Enters, enters, entered, published_if, public_now}
use Rattle.oa_simulation.proofs.sim_steps.Exchanges.Offering.{offers, own_in_generator, none_passes}
use Rattle.oa_simulation.proofs.sim_steps.Exchanges.Placing.{words_written}
use Rattle.oa_simulation.proofs.sim_steps.Accesses.Ending.{entry_fails}
use Rattle.oa_simulation.proofs.sim_steps.Accesses.Objects.{object_openly}
use Rattle.oa_simulation.proofs.sim_relation.Moving.{same_names}
use Rattle.caller_parts.specs.declared.setting.Reclamation.TheVariants.{Optimistic}
use Rattle.oa_simulation.proofs.sim_steps.Exchanges.Done.{Tried, Done, by_retirement}

-- the source's caller is before the exchange, and what the exchange asks of its registers holds
pub list_asked : (t : Plan) (s : Shared) (c : ℕ) (x : Caller) (m : Trail t) (k : ℕ) (entry : CasEntry) → IsNormal t.text → Walks t s c x (spot_of x.entry.hand) m
    → x.source ≡ stands_in_list (source_place (code_in m.walk.method) x.entry.hand.at) (list_of (instr_in t.target x.entry)) k m.mirror m.walk.call → IsProperPoint t.text (point s x) → slice_get (list_of (instr_in t.target x.entry)) k ≡ Some entry
    → AreAskedBy t.text entry s.source.nodes m.mirror
list_asked t s c x m k entry normal walks source proper here =
    lists_find_kinds t.text normal m.walk.method.op (source_place (code_in m.walk.method) x.entry.hand.at) (list_of (instr_in t.target x.entry)) k m.mirror m.walk.call (ap (slice_get t.text.ops) walks.number ∙ m.walk.method.in_text)
    s.source.nodes (subst (λ caller. IsTypedCaller t.text s.source.nodes caller) source proper.kinds) k entry here

-- the caller stands before an exchange of its list
pub record AtEntry (t : Plan) (c : ℕ) (s : Shared) (x : Caller) (k : ℕ) (entry : CasEntry) : Type 0 where
  pub plan : IsPlan t
  pub shared_holds : SharedHolds t s
  pub caller_holds : CallerHolds t s c x
  pub at : x.entry.routine ≡ InList k
  pub here : slice_get (list_of (instr_in t.target x.entry)) k ≡ Some entry
  pub proper : StaysProper t.text c (point s x)

-- only a commit has a list
commit_there : (o : Option TargetInstr) (k : ℕ) (entry : CasEntry) → slice_get (list_of o) k ≡ Some entry → (entries : List CasEntry) × (o ≡ Some (Plain (instr.Commit entries)))
commit_there (Some (Plain (instr.Commit entries))) k entry is = (entries, refl)
commit_there _ k entry is = absurd (let never : None ≡ Some entry = is in cc)

-- ---- the cradles

-- those that are left when a register's slot was published
abbrev pub cradles_after : Reg → Registers → List ℕ → List ℕ
cradles_after (Num r) registers cradles = cradles
cradles_after (Ref r) registers cradles = map (emptied (slot_in registers (Ref r))) cradles

pub published_entry : (r : Reg) (e : Entry) → with_published r e ≡ record e { cradles = cradles_after r e.hand.registers e.cradles }
published_entry (Num r) e = refl
published_entry (Ref r) e = refl

emptied_at : (slot : ℕ) (xs : List ℕ) (i : ℕ) → slice_index (map (emptied slot) xs) i ≢ 0 → (slice_index (map (emptied slot) xs) i ≡ slice_index xs i) × (slice_index (map (emptied slot) xs) i ≢ slot)
emptied_at slot [] i some = absurd (some refl)
emptied_at slot (x ∷ xs) zero some = ⊎_elim
    (λ (e : ((x == slot) ≡ true) × (x ≡ slot)). absurd (some (rw e.0 refl)))
    (λ (e : ((x == slot) ≡ false) × (x ≢ slot)). let same : emptied slot x ≡ x = rw e.0 refl in (same, (λ z. e.1 (sym same ∙ z))))
    (eqb_tells x slot)
emptied_at slot (x ∷ xs) (suc i) some = emptied_at slot xs i some

pub left_at : (t : Plan) (r : Reg) (core mirror : Registers) (cradles : List ℕ) (i : ℕ) → slot_in core r ≡ t.home (name_in (value_in mirror r)) → slice_index (cradles_after r core cradles) i ≢ 0
    → (slice_index (cradles_after r core cradles) i ≡ slice_index cradles i) × (name_in (value_in mirror r) ≢ 0 → slice_index (cradles_after r core cradles) i ≢ t.home (name_in (value_in mirror r)))
left_at t (Num r) core mirror cradles i agree some = (refl, (λ none. absurd (none refl)))
left_at t (Ref r) core mirror cradles i agree some = let left = emptied_at (slot_in core (Ref r)) cradles i some in (left.0, (λ named z. left.1 (z ∙ sym agree)))

pub slot_agrees : (t : Plan) (core mirror : Registers) (entry : CasEntry) → t.home 0 ≡ 0 → Agree t.home core mirror entry.replacement → slot_in core entry.replacement ≡ t.home (name_in (value_in mirror entry.replacement))
slot_agrees t core mirror entry null_home agrees = of entry.replacement refl where
  of : (r : Reg) → entry.replacement ≡ r → slot_in core entry.replacement ≡ t.home (name_in (value_in mirror entry.replacement))
  of (Num r) is = ap (slot_in core) is ∙ (sym null_home ∙ ap (λ (a : Reg). t.home (name_in (value_in mirror a))) (sym is))
  of (Ref r) is = by agrees is where
    by : Agree t.home core mirror entry.replacement → entry.replacement ≡ Ref r → slot_in core entry.replacement ≡ t.home (name_in (value_in mirror entry.replacement))
    by agree is = ap (slot_in core) is ∙ ((subst (λ (a : Reg). Agree t.home core mirror a) is agree).0 ∙ ap (λ (a : Reg). t.home (name_in (value_in mirror a))) (sym is))

pub known_now : (t : Plan) (s : Shared) (n : ℕ) → (n ≡ 0) ⊎ ((published_if t s n).public n ≡ true)
known_now t s n = ⊎_elim (λ (z : n ≡ 0). inl z) (λ (some : n ≢ 0). inr (public_now t s n some)) (cases_eq n 0)

-- ---- the exchange succeeds

-- what stands before it
record Tries (t : Plan) (c : ℕ) (s : Shared) (x : Caller) (m : Trail t) (k : ℕ) (entry : CasEntry) (entries : List CasEntry) : Type 0 where
  before : AtEntry t c s x k entry
  walks : Walks t s c x (spot_of x.entry.hand) m
  guards : Guards t x m
  generator : m.walk.method.wrapup ≡ false
  source : x.source ≡ stands_in_list (source_place (code_in m.walk.method) x.entry.hand.at) (list_of (instr_in t.target x.entry)) k m.mirror m.walk.call
  shown : (r : ℕ) → is_fresh_along (code_in m.walk.method) m.path (Ref r) ≡ false → Shown s (node_in m.mirror r)
  commits : instr_in t.target x.entry ≡ Some (Plain (instr.Commit entries))
  here : slice_get (code_in m.walk.method) x.entry.hand.at ≡ Some (Plain (instr.Commit entries))
  one : slice_get entries k ≡ Some entry
  offers : Offers t s c x.entry.hand.registers m.mirror entry

once_after : (t : Plan) (c : ℕ) (s : Shared) (x : Caller) (m : Trail t) (k : ℕ) (entry : CasEntry) (entries : List CasEntry) (after : Memory) → Tries t c s x m k entry entries → exchange t.text.fields entry m.mirror s.source ≡ Some after → IsOnce after.retired
once_after t c s x m k entry entries after w some =
    let op = ap (slice_get t.text.ops) w.walks.number ∙ m.walk.method.in_text in
    let turns = (lists_are_made t.text c m.walk.method.op (source_place (code_in m.walk.method) x.entry.hand.at) (list_of (instr_in t.target x.entry)) k m.mirror m.walk.call s.source op).succeeds entry after w.before.here some in
    let turned = ap (λ caller. caller_turn t.text (events.Access c 0) s.source caller) w.source ∙ turns.turns in
    let q = played t.text c Accesses (point s x) in
    let proper : IsProperPoint t.text q = w.before.proper (Accesses ∷ []) q (makes Accesses [] (point s x) q (ap (λ caller. is_enabled_for t.text (events.Access c 0) (Some caller) s.source) w.source ∙ turns.enabled) (done q)) in
    subst IsOnce (ap (λ turn. turn.memory.retired) turned) proper.once

tried : (t : Plan) (c : ℕ) (s : Shared) (x : Caller) (m : Trail t) (k : ℕ) (entry : CasEntry) (entries : List CasEntry) (after : Memory) → Tries t c s x m k entry entries → exchange t.text.fields entry m.mirror s.source ≡ Some after
    → Tried t s c x.entry.hand.registers m.mirror entry (name_in (value_in m.mirror entry.replacement)) after
tried t c s x m k entry entries after w some =
    let plan = w.before.plan in
    let form = instructions_are_in_form t.target t.text plan.compiled.normal plan.compiled.barred.erases m.walk.method x.entry.hand.at (instr.Commit entries) w.here in
    record {
      null = plan.null;
      shared_holds = w.before.shared_holds;
      offers = w.offers;
      right = none_passes (has_wrong_operand t.text.fields t.text.roots) entries k entry (kind_right m.walk.method (erasing plan.compiled) x.entry.hand.at (instr.Commit entries) w.here) w.one;
      publishes = w.offers.new;
      known = known_now t s (name_in (value_in m.mirror entry.replacement));
      object = λ q g is. w.shown q (open_reads_are_not_fresh t.target t.text plan.compiled.normal plan.compiled.barred.erases m.walk.method m.path x.entry.hand.at (instr.Commit entries) (Ref q)
          (record { leads = w.walks.ahead.path_is; stands = w.here }) (object_openly q g entries k entry w.one is));
      kin = none_passes retires_stranger entries k entry form.retired w.one;
      makes = some;
      once = once_after t c s x m k entry entries after w some;
    }

-- the entry enters, in what both machines come to
enters_at : (t : Plan) (c : ℕ) (s s' : Shared) (x : Caller) (m : Trail t) (k : ℕ) (entry : CasEntry) (entries : List CasEntry) → Tries t c s x m k entry entries → Done t s s' c x.entry.hand.registers m.mirror entry (name_in (value_in m.mirror entry.replacement))
    → Enters t s s' c x m k (name_in (value_in m.mirror entry.replacement)) entry (cradles_after entry.replacement x.entry.hand.registers x.entry.cradles)
enters_at t c s s' x m k entry entries w d = record {
  plan = w.before.plan;
  shared_holds = w.before.shared_holds;
  base = w.before.caller_holds.base;
  walks = w.walks;
  guards = w.guards;
  generator = w.generator;
  source = w.source;
  shown = w.shown;
  passes = record { shared_holds = d.shared_holds; goes = d.goes; left = d.left; hazard = d.hazard; owns = d.owns };
  cradle = λ i some. left_at t entry.replacement x.entry.hand.registers m.mirror x.entry.cradles i (slot_agrees t x.entry.hand.registers m.mirror entry w.before.plan.null w.offers.replacement) some;
  entry_is = w.before.here;
  after = d.makes;
}

-- the core's step, by whether it succeeds and the slot that it retires
abbrev pub EntryKept : (t : Plan) (c : ℕ) (s : Shared) (x : Caller) (k : ℕ) (entry : CasEntry) → ℕ → Type 0
EntryKept t c s x k entry j =
    Kept t c s x (after_access s.memory (exchange_wanted t.target.fields entry x.entry.hand.registers))
    (told (Accesses ∷ []) (retires_then Optimistic t.target t.setting.sizes (onward.List k) j (record (counted x.entry) { cradles = cradles_after entry.replacement x.entry.hand.registers x.entry.cradles })))

-- if nothing is retired, the next entry follows, or the wrap-up's start
keeps_on : (t : Plan) (c : ℕ) (s s' : Shared) (x : Caller) (m : Trail t) (k : ℕ) (entry : CasEntry) (entries : List CasEntry) → Tries t c s x m k entry entries → Done t s s' c x.entry.hand.registers m.mirror entry (name_in (value_in m.mirror entry.replacement))
    → s'.memory ≡ after_access s.memory (exchange_wanted t.target.fields entry x.entry.hand.registers) → to_retire entry.retire x.entry.hand.registers ≡ 0 → EntryKept t c s x k entry 0
keeps_on t c s s' x m k entry entries w d memory none = of (nat_lt (k + 1) (length (list_of (instr_in t.target x.entry)))) (λ routine. enters t s s' c x m k n entry cradles routine (enters_at t c s s' x m k entry entries w d)) where
  old : (i : ℕ) → has i s'.source.retired ≡ true → has i s.source.retired ≡ true
  old i is = ⊎_elim (λ (was : has i s.source.retired ≡ true). was) (λ (now : (to_retire entry.retire x.entry.hand.registers ≡ t.home i) × (t.home i ≢ 0)). absurd (now.1 (sym now.0 ∙ none))) (d.retires i is)

  n : ℕ
  n = name_in (value_in m.mirror entry.replacement)

  cradles : List ℕ
  cradles = cradles_after entry.replacement x.entry.hand.registers x.entry.cradles

  of : (b : Bool)
      → ((routine : Routine) → let y = entered t c s s' x (cradles_after entry.replacement x.entry.hand.registers x.entry.cradles) routine in
      PlaysEvent t.text (events.Access c 0) s.source x.source x.watch s'.source y.source y.watch × Base t s' c y × AfterExchange t s' c y (k + 1) b)
      → Kept t c s x (after_access s.memory (exchange_wanted t.target.fields entry x.entry.hand.registers))
      (told (Accesses ∷ []) (quiet (if b then with_routine (record (counted x.entry) { cradles = cradles_after entry.replacement x.entry.hand.registers x.entry.cradles }) (InList (k + 1))
      else list_ended t.target t.setting.sizes (k + 1) (record (counted x.entry) { cradles = cradles_after entry.replacement x.entry.hand.registers x.entry.cradles }))))
  of true facts =
      let e = facts (InList (k + 1)) in
      let y = entered t c s s' x (cradles_after entry.replacement x.entry.hand.registers x.entry.cradles) (InList (k + 1)) in
      record {
        s' = s';
        x' = y;
        memory = memory;
        present = d.present;
        entry = refl;
        names = same_names x.names false;
        was_set = refl;
        plays = plays_one t.text c Accesses (point s x) (point s' y) e.0 d.unused;
        shared_holds = d.shared_holds;
        goes = d.goes;
        retires = λ i is. inl (old i is);
        caller_holds = record { base = e.1; spot = e.2 };
      }
  of false facts =
      let e = facts x.entry.routine in
      let y = entered t c s s' x (cradles_after entry.replacement x.entry.hand.registers x.entry.cradles) x.entry.routine in
      let committed = e.2 in
      let ended = list_ends t s' c y (k + 1) entries w.before.plan e.1 committed (sym (instr_is t s' c y (spot_of y.entry.hand) committed.0 committed.1) ∙ w.commits) in
      record {
        s' = s';
        x' = ended.x';
        memory = memory;
        present = d.present;
        entry = ended.entry;
        names = ended.names;
        was_set = ended.was_set;
        plays = plays_first t.text c Accesses _ (point s x) (point s' y) (point s' ended.x') e.0 d.unused ended.plays;
        shared_holds = d.shared_holds;
        goes = d.goes;
        retires = λ i is. inl (old i is);
        caller_holds = ended.caller_holds;
      }

-- and a name that is retired goes into the retire routine
retires_on : (t : Plan) (c : ℕ) (s s' : Shared) (x : Caller) (m : Trail t) (k : ℕ) (entry : CasEntry) (entries : List CasEntry) (j n : ℕ) → Tries t c s x m k entry entries → Done t s s' c x.entry.hand.registers m.mirror entry (name_in (value_in m.mirror entry.replacement))
    → s'.memory ≡ after_access s.memory (exchange_wanted t.target.fields entry x.entry.hand.registers) → IsRetiring s' c (suc j) n None → to_retire entry.retire x.entry.hand.registers ≡ suc j → EntryKept t c s x k entry (suc j)
retires_on t c s s' x m k entry entries j n w d memory retiring slot =
    let cradles = cradles_after entry.replacement x.entry.hand.registers x.entry.cradles in
    let routine = Retires (retire_begun (suc j)) (onward.List k) in
    let e = enters t s s' c x m k (name_in (value_in m.mirror entry.replacement)) entry (cradles_after entry.replacement x.entry.hand.registers x.entry.cradles) (Retires (retire_begun (suc j)) (onward.List k)) (enters_at t c s s' x m k entry entries w d) in
    let y = entered t c s s' x (cradles_after entry.replacement x.entry.hand.registers x.entry.cradles) (Retires (retire_begun (suc j)) (onward.List k)) in
    record {
      s' = s';
      x' = y;
      memory = memory;
      present = d.present;
      entry = refl;
      names = same_names x.names false;
      was_set = refl;
      plays = plays_one t.text c Accesses (point s x) (point s' y) e.0 d.unused;
      shared_holds = d.shared_holds;
      goes = d.goes;
      retires = λ i is. ⊎_elim (λ (was : has i s.source.retired ≡ true). inl was) (λ (now : (to_retire entry.retire x.entry.hand.registers ≡ t.home i) × (t.home i ≢ 0)). inr (onward.List k, ap (λ (slot : ℕ). Retires (retire_begun slot) (onward.List k)) (sym slot ∙ now.0))) (d.retires i is);
      caller_holds = record { base = e.1; spot = ((n, retiring), e.2) };
    }

-- ---- the whole step

made_kept : (t : Plan) (c : ℕ) (s : Shared) (x : Caller) (m : Trail t) (k : ℕ) (entry : CasEntry) (entries : List CasEntry) (after : Memory) → Tries t c s x m k entry entries → exchange t.text.fields entry m.mirror s.source ≡ Some after
    → Kept t c s x (after_access s.memory (exchange_wanted t.target.fields entry x.entry.hand.registers)) (entry_made Optimistic t.target t.setting.sizes k entry (s.memory (word_of (exchange_wanted t.target.fields entry x.entry.hand.registers))) (counted x.entry))
made_kept t c s x m k entry entries after w some =
    let succeeded : succeeds entry x.entry.hand.registers (s.memory (word_of (exchange_wanted t.target.fields entry x.entry.hand.registers))) ≡ true = tests_agree t s c x.entry.hand.registers m.mirror entry w.before.plan.null w.before.shared_holds w.offers ∙ ap is_some some in
    let words = sym (words_written t s c x.entry.hand.registers m.mirror entry w.offers succeeded) in
    subst (λ (z : Bool). Kept t c s x (after_access s.memory (exchange_wanted t.target.fields entry x.entry.hand.registers))
    (told (Accesses ∷ []) (if z then retires_then Optimistic t.target t.setting.sizes (onward.List k) (to_retire entry.retire x.entry.hand.registers) (with_published entry.replacement (counted x.entry)) else quiet (list_ended t.target t.setting.sizes k (counted x.entry))))) (sym succeeded)
    (subst (λ (e : Entry). Kept t c s x (after_access s.memory (exchange_wanted t.target.fields entry x.entry.hand.registers)) (told (Accesses ∷ []) (retires_then Optimistic t.target t.setting.sizes (onward.List k) (to_retire entry.retire x.entry.hand.registers) e))) (sym (published_entry entry.replacement (counted x.entry)))
    (by_retirement t s c x.entry.hand.registers m.mirror entry (name_in (value_in m.mirror entry.replacement)) after (tried t c s x m k entry entries after w some) (EntryKept t c s x k entry)
    (λ s' d none. keeps_on t c s s' x m k entry entries w d (d.memory ∙ words) none)
    (λ s' j n d retiring slot. retires_on t c s s' x m k entry entries j n w d (d.memory ∙ words) retiring slot)))

-- an exchange of a list, whether it fails or succeeds, and whatever it retires
pub entry_step : (t : Plan) (c : ℕ) (s : Shared) (x : Caller) (k : ℕ) (entry : CasEntry) → AtEntry t c s x k entry
    → Kept t c s x (after_access s.memory (exchange_wanted t.target.fields entry x.entry.hand.registers)) (entry_made Optimistic t.target t.setting.sizes k entry (s.memory (word_of (exchange_wanted t.target.fields entry x.entry.hand.registers))) (counted x.entry))
entry_step t c s x k entry w = by_spot (subst (λ (r : Routine). HoldsAt t s c x r) w.at w.caller_holds.spot) (commit_there (instr_in t.target x.entry) k entry w.here) where
  by_spot : InExecutor t s c x k → (entries : List CasEntry) × (instr_in t.target x.entry ≡ Some (Plain (instr.Commit entries)))
      → Kept t c s x (after_access s.memory (exchange_wanted t.target.fields entry x.entry.hand.registers)) (entry_made Optimistic t.target t.setting.sizes k entry (s.memory (word_of (exchange_wanted t.target.fields entry x.entry.hand.registers))) (counted x.entry))
  by_spot spot commit =
      let m = spot.0 in
      let here = sym (instr_is t s c x (spot_of x.entry.hand) spot.0 spot.1) ∙ commit.1 in
      let one : slice_get commit.0 k ≡ Some entry = ap (λ (o : Option TargetInstr). slice_get (list_of o) k) (sym commit.1) ∙ w.here in
      let offered = offers t s c x spot.0 (instr.Commit commit.0) k entry (record {
        plan = w.plan;
        shared_holds = w.shared_holds;
        base = w.caller_holds.base;
        walks = spot.1;
        guards = spot.2;
        here = here;
        one = one;
        right = none_passes (has_wrong_operand t.text.fields t.text.roots) commit.0 k entry (kind_right spot.0.walk.method (erasing w.plan.compiled) x.entry.hand.at (instr.Commit commit.0) here) one;
        own = λ r operand. own_in_generator t spot.0 r spot.3;
        proper = w.proper [] (point s x) (done (point s x));
        asked = list_asked t s c x spot.0 k entry w.plan.compiled.normal spot.1 spot.4 (w.proper [] (point s x) (done (point s x))) w.here;
      }) in
      let tries : Tries t c s x spot.0 k entry commit.0 = record { before = w; walks = spot.1; guards = spot.2; generator = spot.3; source = spot.4; shown = spot.5; commits = commit.1; here = here; one = one; offers = offered } in
      by_result spot commit.0 tries (exchange t.text.fields entry spot.0.mirror s.source) refl
    where
      by_result : (spot : InExecutor t s c x k) (entries : List CasEntry) → Tries t c s x spot.0 k entry entries → (o : Option Memory) → exchange t.text.fields entry spot.0.mirror s.source ≡ o
          → Kept t c s x (after_access s.memory (exchange_wanted t.target.fields entry x.entry.hand.registers)) (entry_made Optimistic t.target t.setting.sizes k entry (s.memory (word_of (exchange_wanted t.target.fields entry x.entry.hand.registers))) (counted x.entry))
      by_result spot entries tries None none = entry_fails t c s x k entry entries w.plan w.shared_holds w.caller_holds.base spot tries.here w.here tries.offers none
      by_result spot entries tries (Some after) some =
          made_kept t c s x spot.0 k entry entries after tries some
