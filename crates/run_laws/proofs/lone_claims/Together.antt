-- A lone claim ends with Full exactly if each slot of its kind held a name that isn't retired at its begin, that is, if each status was used.
use Rattle.std.proofs.Common.{ℕ, zero, suc, ◌≡◌, ◌≢◌, ◌+◌, ◌≤◌, ◌<◌, ◌⊎◌, ◌∙◌, ◌↔◌, Bool, true, false, List, [], ◌∷◌, length, Option, Some, None, arith, inl, inr, ⊎_elim, sym, ap, subst, refl}
use Rattle.std.specs.Prelude.{slice_get, unwrap_or}
use Rattle.std.proofs.lemmas.Bool.{cases_eq, cases_lt}
use Rattle.norm_lang.specs.declared.text.Reg.{Reg}
use Rattle.norm_lang.specs.declared.text.Instr.TheVariants as instr
use Rattle.norm_lang.specs.declared.text.Text.{Text}
use Rattle.target_code.specs.declared.target.TargetInstr.TheVariants.{Plain}
use Rattle.target_code.specs.declared.target.Target.{Target}
use Rattle.oa_words.specs.declared.packed.Kind.TheVariants as kinds
use Rattle.oa_words.specs.Words.{Word, Phase, Hazard, Status}
use Rattle.oa_words.specs.SlotKinds.{first_of, range_of}
use Rattle.oa_words.specs.SlotKinds as slots
use Rattle.oa_words.specs.Within.{AreKinds}
use Rattle.oa_words.specs.Packed.{status_word}
use Rattle.oa_words.proofs.KindRanges.{in_range_is_of_kind, range_is_within, stands_in_range}
use Rattle.barrier_check.specs.Paired.{Paired, IsSound as IsPairSound}
use Rattle.phase_pools.specs.declared.access.ClaimEnd.{ClaimEnd}
use Rattle.phase_pools.specs.declared.access.ClaimEnd.TheVariants as ends
use Rattle.phase_pools.specs.declared.stages.Scheme.TheVariants.{Warned}
use Rattle.phase_pools.specs.Pools.{claim_begun}
use Rattle.source_machine.specs.declared.state.Memory.{Memory}
use Rattle.source_machine.specs.declared.state.SourceMachine.{SourceMachine}
use Rattle.source_machine.specs.Proper.{has}
use Rattle.chain_laws.specs.Chains.{IsChain, links, times, top, IsOf}
use Rattle.chain_laws.specs.Laws.{Holds, StandsAt}
use Rattle.chain_laws.specs.Machine.{Standing, slot_of}
use Rattle.chain_laws.specs.Machine as pool
use Rattle.chain_laws.specs.Told.{PoolTells, IsClaiming}
use Rattle.chain_laws.proofs.Lists.{times_here}
use Rattle.caller_parts.specs.declared.routine.Routine.{Routine}
use Rattle.caller_parts.specs.declared.routine.Routine.TheVariants.{Idle, Claims}
use Rattle.caller_parts.specs.Operands.{kind_made}
use Rattle.caller_parts.specs.Settings.{Setting, Fits, IsSetting}
use Rattle.caller_parts.proofs.News.{new_there}
use Rattle.caller_steps.specs.Entries.{Entry, idle_entry, instr_in}
use Rattle.caller_steps.specs.Belongs.{Stands as StandsIn}
use Rattle.core_runs.proofs.caller_laws.Together.{methods}
use Rattle.core_runs.proofs.caller_laws.Methods.{setting_sane}
use Rattle.core_runs.specs.Machine.{CoreState, CoreEvent, core_event}
use Rattle.core_runs.specs.Views.{view, IsShaped}
use Rattle.core_runs.proofs.Seeing.{events_are_seen}
use Rattle.core_runs.specs.core_sound.Sound.{IsSound}
use Rattle.core_runs.proofs.core_sound.Machine.{event_sound}
use Rattle.core_runs.proofs.core_sound.Reached.{sound_is_shaped, start_suits}
use Rattle.core_runs.specs.core_sound.Standing.{standing_of}
use Rattle.core_runs.specs.core_pools.Pooled.{standings, pool_of}
use Rattle.core_runs.proofs.core_pools.Going.{past_callers}
use Rattle.core_runs.proofs.core_pools.Pooling.{leads_hold, leads_tell}
use Rattle.target_laws.specs.target_runs.Runnable.{MayBeWalked}
use Rattle.chain_laws.proofs.Routines.{status_tells}
use Rattle.oa_simulation.specs.sim_relation.Views.{Owner, Pool, Dead, Shared}
use Rattle.oa_simulation.specs.sim_relation.Shared.{Slot}
use Rattle.oa_simulation.specs.sim_relation.Callers.{HoldsAt}
use Rattle.oa_simulation.specs.Shadow.{shadow}
use Rattle.oa_simulation.specs.Present.{present_in}
use Rattle.oa_simulation.proofs.Lifting.{machine_is}
use Rattle.oa_simulation.proofs.Refining.{Stood, plan_of, stands}
use Rattle.run_laws.specs.lone_claims.Lone.{IsUsed, HoldsName, AreUsed, BeginsAt, EndsIn, LoneClaimsAreFull}
use Rattle.run_laws.proofs.lone_claims.Pools.{Used, used_on, used_full}
use Rattle.run_laws.proofs.lone_claims.Freeing.{IsFree, IsOld, HasTop, Frees, frees_on, frees_full}
use Rattle.run_laws.proofs.lone_claims.Claims.{along}
use Rattle.run_laws.proofs.lone_claims.InUse.{IsNamed, Works, WorksAt}
use Rattle.run_laws.proofs.lone_claims.Settled.{SomeWorks, SettledBeside, settles}
use Rattle.caller_parts.specs.declared.setting.Reclamation.TheVariants.{Optimistic}

-- a slot's status by its owner: used, ready, or retired with its name's tag
kind_of : (o : Owner) (word n : ℕ) (tag : Option ℕ) (rt pb : Bool) → Slot o word n tag rt pb → IsOf kinds.Used word ⊎ IsOf kinds.Ready word ⊎ ((p : ℕ) × (word ≡ status_word p kinds.Retired) × (tag ≡ Some p))
kind_of Pool word n tag rt pb slot = inr (inl slot.0)
kind_of Dead word n tag rt pb slot = inr (inr (slot.0, slot.1, slot.2))
kind_of _ word n tag rt pb slot = inl slot.0

-- a name that isn't retired is in a used slot
named_used : (o : Owner) (word n : ℕ) (tag : Option ℕ) (rt pb : Bool) → Slot o word n tag rt pb → ((p : ℕ) → tag ≡ Some p → rt ≡ true) → n ≢ 0 → rt ≡ false → IsOf kinds.Used word
named_used Pool word n tag rt pb slot tagged some alive = absurd (some slot.1)
named_used Dead word n tag rt pb slot tagged some alive = absurd (let no : true ≡ false = sym (tagged slot.0 slot.2) ∙ alive in cc)
named_used _ word n tag rt pb slot tagged some alive = slot.0

module _ (target : Target) (text : Text) (setting : Setting) (runs : MayBeWalked target text) (own : IsSetting setting) (fits : Fits target setting) (lone : setting.sizes.callers ≡ 1) (events : List CoreEvent) (state : CoreState) (k : Stood target text setting events state) where
  abbrev m : Word → ℕ
  m = (view setting state).memory

  abbrev world : Shared
  world = k.beside.w.shared

  words : world.memory ≡ m
  words = k.beside.memory

  one : 0 < setting.sizes.callers
  one = omega (arith, lone)

  some_slots : 1 ≤ setting.sizes.slots
  some_slots = own.sizes.slots

  few : setting.sizes.slots < setting.sizes.tops
  few = own.sizes.tops

  are : AreKinds setting.sizes
  are = (setting_sane setting own).kinds

  pool_holds : Holds setting.sizes (pool_of (view setting state) k.pooled.0)
  pool_holds = leads_hold target setting are few (start_suits target text setting runs own fits).suits _ k.pooled.1

  told : PoolTells setting.sizes (pool_of (view setting state) k.pooled.0)
  told = leads_tell target setting are few (start_suits target text setting runs own fits).suits _ k.pooled.1

  shaped : (s : CoreState) → IsSound target setting s → IsShaped target setting s
  shaped s sound = sound_is_shaped target setting s (methods target text runs) (setting_sane setting own) fits sound

  keeps : (s later : CoreState) (event : CoreEvent) → IsSound target setting s → core_event target setting s event ≡ Some later → IsSound target setting later
  keeps s later event sound at = event_sound target setting s later event (methods target text runs) (setting_sane setting own) fits sound at

  -- a slot of a kind that isn't used is ready, or was retired in a phase that is past with the next sweep
  abbrev Unused : ℕ → ℕ → Type 0
  Unused kind n = (i : ℕ) × (1 ≤ i) × (i ≤ n) × (slots.kind_of setting.sizes i ≡ kind) × (IsFree m i ⊎ IsOld m i (m Phase + 1))

  -- the slots of a kind up to one are used
  abbrev UsedTo : ℕ → ℕ → Type 0
  UsedTo kind n = (j : ℕ) → 1 ≤ j → j ≤ n → slots.kind_of setting.sizes j ≡ kind → IsOf kinds.Used (m (Status j))

  status_of : (j : ℕ) → IsOf kinds.Used (m (Status j)) ⊎ (IsFree m j ⊎ IsOld m j (m Phase + 1))
  status_of j = subst (λ (w : Word → ℕ). IsOf kinds.Used (w (Status j)) ⊎ (IsFree w j ⊎ IsOld w j (w Phase + 1))) words
      (of (kind_of (world.owner j) (world.memory (Status j)) (world.present j) (world.tag (world.present j)) (has (world.present j) world.source.retired) (world.public (world.present j)) (k.beside.holds.shared_holds.slot j))) where
        of : IsOf kinds.Used (world.memory (Status j)) ⊎ IsOf kinds.Ready (world.memory (Status j)) ⊎ ((p : ℕ) × (world.memory (Status j) ≡ status_word p kinds.Retired) × (world.tag (world.present j) ≡ Some p))
            → IsOf kinds.Used (world.memory (Status j)) ⊎ (IsFree world.memory j ⊎ IsOld world.memory j (world.memory Phase + 1))
        of (inl used) = inl used
        of (inr (inl ready)) = inr (inl ready)
        of (inr (inr retired)) = inr (inr (retired.0, retired.1, (let le = k.beside.holds.shared_holds.tag (world.present j) retired.0 retired.2 in omega (arith, le))))

  -- one more slot is used, or is of another kind
  one_more : (kind n : ℕ) → UsedTo kind n → (slots.kind_of setting.sizes (suc n) ≡ kind → IsOf kinds.Used (m (Status (suc n)))) → UsedTo kind (suc n)
  one_more kind n all used j least most own = ⊎_elim
      (λ (e : j ≡ suc n). subst (λ (i : ℕ). IsOf kinds.Used (m (Status i))) (sym e) (used (ap (slots.kind_of setting.sizes) (sym e) ∙ own)))
      (λ (ne : j ≢ suc n). all j least (omega (arith, most, ne)) own)
      (cases_eq j (suc n))

  search : (kind n : ℕ) → UsedTo kind n ⊎ Unused kind n
  search kind zero = inl (λ j least most own. absurd (omega (arith, least, most)))
  search kind (suc n) = ⊎_elim
      (λ (all : UsedTo kind n). ⊎_elim
      (λ (own : slots.kind_of setting.sizes (suc n) ≡ kind). ⊎_elim
      (λ (used : IsOf kinds.Used (m (Status (suc n)))). inl (one_more kind n all (λ same. used)))
      (λ (unused : IsFree m (suc n) ⊎ IsOld m (suc n) (m Phase + 1)). inr (suc n, omega arith, omega arith, own, unused))
      (status_of (suc n)))
      (λ (other : slots.kind_of setting.sizes (suc n) ≢ kind). inl (one_more kind n all (λ same. absurd (other same))))
      (cases_eq (slots.kind_of setting.sizes (suc n)) kind))
      (λ (u : Unused kind n). inr (u.0, u.1, (let le = u.2 in omega (arith, le)), u.3, u.4))
      (search kind n)

  -- a claim is of a kind of the row
  known : (kind : ℕ) → BeginsAt setting state kind → kind < length setting.sizes.kinds
  known kind begun = (subst (λ (standing : Standing). StandsAt setting.sizes m k.pooled.0 0 standing) (ap standing_of begun) (pool_holds.told 0)).0

  -- at a claim's begin no caller has taken a slot or pushes one, so that the chains have each ready one
  nobody : (kind : ℕ) → BeginsAt setting state kind → (j c : ℕ) → 1 ≤ j → slot_of (standings (view setting state).who c) ≡ j → ⊥
  nobody kind begun j c least has = ⊎_elim
      (λ (first : c < setting.sizes.callers).
      let same : c ≡ 0 = omega (arith, first, lone) in
      let standing : standings (view setting state).who c ≡ pool.Claims (claim_begun setting.sizes kind Warned) = ap (standings (view setting state).who) same ∙ ap standing_of begun in
      let none : 0 ≡ j = sym (ap slot_of standing) ∙ has in omega (arith, none, least))
      (λ (above : setting.sizes.callers ≤ c).
      let none : 0 ≡ j = sym (ap slot_of (past_callers target setting state c (shaped state k.sound) above)) ∙ has in omega (arith, none, least))
      (cases_lt c setting.sizes.callers)

  free_on_top : (kind : ℕ) → BeginsAt setting state kind → (j : ℕ) → 1 ≤ j → j ≤ setting.sizes.slots → slots.kind_of setting.sizes j ≡ kind → IsFree m j → HasTop setting.sizes.tops m kind
  free_on_top kind begun j least most own free none = ⊎_elim
      (λ (stands : times j (k.pooled.0.chain (slots.kind_of setting.sizes j)) ≡ 1).
      let no : 0 ≡ 1 = sym (ap (times j) (told.empty kind (known kind begun) none)) ∙ (ap (λ (i : ℕ). times j (k.pooled.0.chain i)) (sym own) ∙ stands) in let bad : ⊥ = omega (arith, no) in bad)
      (λ (has : (c : ℕ) × (slot_of (standings (view setting state).who c) ≡ j) × IsClaiming (standings (view setting state).who c)). nobody kind begun j has.0 least has.1)
      (told.ready j (least, most) free)

  -- if each is used, none is on top
  used_none : (kind : ℕ) → kind < length setting.sizes.kinds → AreUsed setting.sizes kind m → top setting.sizes.tops m kind ≡ 0
  used_none kind lt used = of (k.pooled.0.chain kind) refl (pool_holds.fine.linked kind lt) where
    of : (chain : List ℕ) → k.pooled.0.chain kind ≡ chain → IsChain (links m) (top setting.sizes.tops m kind) chain → top setting.sizes.tops m kind ≡ 0
    of [] is linked = linked
    of (j ∷ below) is linked =
        let at_least : times j (j ∷ below) ≡ suc (times j below) = times_here j below in
        let at_most : times j (j ∷ below) ≤ 1 = subst (λ (chain : List ℕ). times j chain ≤ 1) is (told.once kind j) in
        let slot = told.chained kind j (ap (times j) is ∙ (let one : times j (j ∷ below) ≡ 1 = omega (arith, at_least, at_most) in one)) in
        let place = stands_in_range setting.sizes kind j are slot.0.0 slot.0.1 slot.1 in
        let word = used j place.0 place.1 in
        absurd (let no : kinds.Ready ≡ kinds.Used = (status_tells slot.2.0 word.0 kinds.Ready kinds.Used (sym slot.2.1 ∙ word.1)).1 in cc)

  zeros : (kind : ℕ) → BeginsAt setting state kind → (r : ℕ) → m (Hazard 0 r) ≡ 0
  zeros kind begun r =
      let told = k.beside.holds.caller_holds 0 one in
      let routine : (k.beside.w.who 0).entry.routine ≡ Claims (claim_begun setting.sizes kind Warned) = ap (λ (e : Entry). e.routine) (k.beside.entry 0 one) ∙ begun in
      let spot : HoldsAt (plan_of target text setting events) world 0 (k.beside.w.who 0) (Claims (claim_begun setting.sizes kind Warned)) = subst (λ (r : Routine). HoldsAt (plan_of target text setting events) world 0 (k.beside.w.who 0) r) routine told.spot in
      sym (ap (λ (w : Word → ℕ). w (Hazard 0 r)) words) ∙ (told.base.hazard r ∙ spot.2 r)

  never_full : (kind : ℕ) → EndsIn target setting state kind ends.Full → Unused kind setting.sizes.slots → ⊥
  never_full kind end u =
      let start : Frees setting.sizes u.0 u.1 u.2 few lone m (claim_begun setting.sizes kind Warned) = record {
        own = u.3;
        warns = refl;
        tops = refl;
        zeros = zeros kind end.begun;
        at = ⊎_elim (λ (free : IsFree m u.0). inr (free_on_top kind end.begun u.0 u.1 u.2 u.3 free)) (λ (old : IsOld m u.0 (m Phase + 1)). inl (refl, old)) u.4;
      } in
      let there = along target setting lone (events_are_seen target setting) shaped keeps (Frees setting.sizes u.0 u.1 u.2 few lone) (λ m claim f none. frees_on setting.sizes u.0 u.1 u.2 few lone setting.last m claim f none)
      end.more state end.later (claim_begun setting.sizes kind Warned) end.claim k.sound end.begun start end.runs end.stays end.at in
      frees_full setting.sizes u.0 u.1 u.2 few lone setting.last (view setting end.later).memory end.claim there end.ends

  full_here : (kind : ℕ) (end : ClaimEnd) → EndsIn target setting state kind end → ((p : ℕ) → end ≢ ends.PhasesOver p) → (end ≡ ends.Full) ↔ AreUsed setting.sizes kind m
  full_here kind end e never = (
    (λ full. ⊎_elim
        (λ (all : UsedTo kind setting.sizes.slots) (j : ℕ) (low : first_of setting.sizes kind ≤ j) (high : j ≤ (range_of setting.sizes kind).last).
        (let within = range_is_within setting.sizes kind j are (low, high) in all j within.0 within.1 (in_range_is_of_kind setting.sizes kind j (known kind e.begun) (low, high))))
        (λ (u : Unused kind setting.sizes.slots). absurd (never_full kind (subst (λ (i : ClaimEnd). EndsIn target setting state kind i) full e) u))
        (search kind setting.sizes.slots)),
    (λ used.
        let start : Used setting.sizes m (claim_begun setting.sizes kind Warned) = record { known = known kind e.begun; used = used; none = used_none kind (known kind e.begun) used; at = tt } in
        let there = along target setting lone (events_are_seen target setting) shaped keeps (Used setting.sizes) (λ m claim u none. used_on setting.sizes setting.last m claim are some_slots u none)
        e.more state e.later (claim_begun setting.sizes kind Warned) e.claim k.sound e.begun start e.runs e.stays e.at in
        used_full setting.sizes setting.last (view setting e.later).memory e.claim end are some_slots there e.ends never),
  )

  -- a claim that begins is of the kind of the `new` at which the caller stands
  at_new : (kind : ℕ) → BeginsAt setting state kind → (d : Reg) × (instr_in target ((view setting state).who 0) ≡ Some (Plain (instr.New d kind)))
  at_new kind begun = of (slice_get state.entries 0) refl begun where
    of : (o : Option Entry) → slice_get state.entries 0 ≡ o → (unwrap_or o (idle_entry 0)).routine ≡ Claims (claim_begun setting.sizes kind Warned)
        → (d : Reg) × (instr_in target (unwrap_or o (idle_entry 0)) ≡ Some (Plain (instr.New d kind)))
    of None there is = absurd (let no : Idle ≡ Claims (claim_begun setting.sizes kind Warned) = is in cc)
    of (Some e) there is =
        let at : StandsIn target setting e (Claims (claim_begun setting.sizes kind Warned)) = subst (StandsIn target setting e) is (k.sound.belong 0 e there).0.stands in
        let new = new_there (instr_in target e) at.0 in
        let same : new.1 ≡ kind = sym (ap kind_made new.2) ∙ sym at.2 in
        (new.0, new.2 ∙ ap (λ (i : ℕ). Some (Plain (instr.New new.0 i))) same)

  named : (j : ℕ) → present_in target text setting events j ≢ 0 → has (present_in target text setting events j) (shadow target text setting events).machine.memory.retired ≡ false → IsOf kinds.Used (m (Status j))
  named j some alive =
      let source : (shadow target text setting events).machine.memory ≡ world.source =
      ap (λ (machine : SourceMachine). machine.memory) (sym (machine_is text setting.sizes.callers (shadow target text setting events) k.beside.v k.beside.sourced)) ∙ k.beside.source in
      let name : world.present j ≡ present_in target text setting events j = ap (λ (present : ℕ → ℕ). present j) k.present in
      let here : has (world.present j) world.source.retired ≡ false = ap (λ (n : ℕ). has n world.source.retired) name ∙ (ap (λ (memory : Memory). has (present_in target text setting events j) memory.retired) (sym source) ∙ alive) in
      subst (λ (w : Word → ℕ). IsOf kinds.Used (w (Status j))) words
      (named_used (world.owner j) (world.memory (Status j)) (world.present j) (world.tag (world.present j)) (has (world.present j) world.source.retired) (world.public (world.present j)) (k.beside.holds.shared_holds.slot j)
      (k.beside.holds.shared_holds.tagged (world.present j)) (λ z. some (sym name ∙ z)) here)

  -- at a claim's begin nobody works on a slot, so that a used one holds a name that isn't retired
  holds : SettledBeside (plan_of target text setting events) state (shadow target text setting events) (present_in target text setting events) → (kind : ℕ) → BeginsAt setting state kind
      → (j : ℕ) → 1 ≤ j → IsUsed m j → HoldsName target text setting events j
  holds q kind begun j le used = ⊎_elim held (λ (works : SomeWorks setting.sizes.callers q.beside.w.who j). absurd (rests works)) (q.settled j le (subst (λ (w : Word → ℕ). IsUsed w j) (sym q.beside.memory) used)) where
    held : IsNamed q.beside.w.shared j → HoldsName target text setting events j
    held named =
        let name : q.beside.w.shared.present j ≡ present_in target text setting events j = ap (λ (present : ℕ → ℕ). present j) q.names in
        let source : (shadow target text setting events).machine.memory ≡ q.beside.w.shared.source =
        ap (λ (machine : SourceMachine). machine.memory) (sym (machine_is text setting.sizes.callers (shadow target text setting events) q.beside.v q.beside.sourced)) ∙ q.beside.source in
        ((λ z. named.0 (name ∙ z)), ap (λ (memory : Memory). has (present_in target text setting events j) memory.retired) source ∙ (ap (λ (n : ℕ). has n q.beside.w.shared.source.retired) (sym name) ∙ named.1))

    rests : SomeWorks setting.sizes.callers q.beside.w.who j → ⊥
    rests works =
        let lt = works.1 in
        let first : works.0 ≡ 0 = omega (arith, lt, lone) in
        let own : Works (q.beside.w.who 0).entry j = subst (λ (d : ℕ). Works (q.beside.w.who d).entry j) first works.2 in
        subst (λ (r : Routine). WorksAt (q.beside.w.who 0).entry r j) (ap (λ (e : Entry). e.routine) (q.beside.entry 0 one) ∙ begun) own

pub lone_claims : (pair : Paired) (setting : Setting) → IsPairSound pair → IsSetting setting → Fits pair.target setting → setting.reclamation ≡ Optimistic → LoneClaimsAreFull pair.target pair.source setting
lone_claims pair setting sound own fits optimistic proper lone events state is =
    let runs : MayBeWalked pair.target pair.source = record { small = sound.small; normal = sound.normal; within = sound.within; erases = sound.barred.erases } in
    let k = stands pair.target pair.source setting events state runs sound.barred own fits optimistic proper is in
    let used = full_here pair.target pair.source setting runs own fits lone events state k in
    let names : (j : ℕ) → HoldsName pair.target pair.source setting events j → IsUsed (view setting state).memory j = λ j held. named pair.target pair.source setting runs own fits lone events state k j held.0 held.1 in
    let back = holds pair.target pair.source setting runs own fits lone events state k (settles pair.target pair.source setting runs sound.barred own fits optimistic proper events state is) in
    record {
      full = λ kind end e never. (
        (λ full j low high. (let some : 1 ≤ j = omega (arith, low) in back kind e.begun j some ((used kind end e never).0 full j low high))),
        (λ held. (used kind end e never).1 (λ j low high. names j (held j low high))),
      );
      full_as_used = used;
      alike = λ kind begun j le. (names j, back kind begun j le);
      used = names;
      of_new = at_new pair.target pair.source setting runs own fits lone events state k;
    }
