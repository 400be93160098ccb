-- An exchange of the list that succeeds.
use Rattle.std.proofs.Common.{ℕ, suc, ◌≡◌, ◌≢◌, ◌+◌, ◌∙◌, ◌⊎◌, Bool, true, false, [], ◌∷◌, length, Option, Some, None, inl, inr, sym, ap, subst, refl, if◌then◌else◌}
use Rattle.std.specs.Prelude.{slice_get, slice_index, nat_lt}
use Rattle.std.proofs.lemmas.Bool.{cases_eq}
use Rattle.norm_lang.specs.declared.text.CasEntry.{CasEntry}
use Rattle.norm_lang.specs.declared.text.Place.TheVariants as places
use Rattle.norm_lang.specs.declared.text.Reg.TheVariants.{Ref}
use Rattle.norm_lang.specs.InstructionRules.{is_stranger}
use Rattle.norm_lang.specs.Registers.{node_in}
use Rattle.oa_words.specs.Words.{Warning}
use Rattle.phase_pools.specs.Accesses.{word_of}
use Rattle.phase_pools.specs.Pools.{retire_begun}
use Rattle.source_machine.specs.declared.event.SourceEvent.TheVariants as events
use Rattle.source_machine.specs.declared.state.SourceCaller.{SourceCaller}
use Rattle.source_machine.specs.declared.state.Memory.{Memory}
use Rattle.source_machine.specs.Memory.{value_in, exchange}
use Rattle.source_machine.specs.MethodRuns.{MethodRun, run_begun, run_after, name_in}
use Rattle.source_machine.specs.Proper.{has, IsOnce}
use Rattle.source_machine.specs.Run.{is_enabled_for}
use Rattle.source_machine.specs.Step.{caller_turn}
use Rattle.caller_parts.specs.Operands.{list_of, to_retire}
use Rattle.caller_parts.specs.declared.routine.AfterRetire.TheVariants as onward
use Rattle.caller_steps.specs.Wants.{exchange_wanted}
use Rattle.caller_steps.specs.Signs.{Accesses}
use Rattle.caller_parts.specs.declared.routine.Routine.{Routine}
use Rattle.caller_parts.specs.declared.routine.Routine.TheVariants.{InList as InListAt, Retires}
use Rattle.caller_steps.specs.Entries.{Entry, instr_in}
use Rattle.caller_steps.specs.Signs.{Moved, quiet, told}
use Rattle.caller_steps.specs.After.{counted, with_routine, wrap_up_begun, with_published, retires_then, onward_goes, entry_made}
use Rattle.caller_parts.specs.declared.setting.Reclamation.TheVariants.{Epochs}
use Rattle.run_ahead.specs.MethodLaws.{Turns}
use Rattle.run_ahead.specs.Standing.{stands_in_list, wrap_up_after}
use Rattle.run_ahead.proofs.Lists.{lists_are_made}
use Rattle.oa_simulation.specs.sim_relation.Views.{Plan, Held, Shared, Resident, Apart, link}
use Rattle.oa_simulation.specs.sim_relation.Callers.{Shown, spot_of, IsRetiring}
use Rattle.oa_simulation.specs.sim_relation.Points.{IsProperPoint, StaysProper, played, makes as plays_makes, done}
use Rattle.chain_laws.specs.Memories.{after_access}
use Rattle.oa_simulation.proofs.sim_relation.Names.{residents_apart, slot_by, shown_kept}
use Rattle.oa_simulation.proofs.sim_relation.Playing.{plays_first}
use Rattle.oa_simulation.proofs.sim_steps.Exchanges.Exchanging.{Offers}
use Rattle.epoch_relation.specs.Reckoned.{reckoned, EpochHolds}
use Rattle.epoch_relation.specs.Callers.{Caller, Base, IsSafe}
use Rattle.epoch_relation.specs.Walking.{Trail, Listed, Pairs, AfterExchange}
use Rattle.epoch_relation.specs.Keeping.{point_at, KeptWith, Ends}
use Rattle.epoch_relation.proofs.Local.{Standing, safe_here}
use Rattle.epoch_relation.proofs.Moving.{changed, listed_changed}
use Rattle.epoch_relation.proofs.Settling.{list_ends}
use Rattle.epoch_relation.proofs.Stopping.{ends_quiet}
use Rattle.epoch_relation.proofs.Exchanging.{registers_safe}
use Rattle.epoch_relation.proofs.Succeeding.{Tries, Made, succeeded, made_by}
use Rattle.epoch_relation.proofs.Accessing.{not_old}
use Rattle.epoch_relation.proofs.Listing.{InList, offered}
use Rattle.oa_simulation.proofs.sim_steps.Accesses.Entries.{cradles_after, published_entry, left_at, slot_agrees, known_now}

module _ (t : Plan) (s : Shared) (since : ℕ → ℕ) (c : ℕ) (x : Caller) (k : ℕ) (entry : CasEntry) (w : InList t s since c x k entry) (stays : StaysProper t.text c (point_at s x))
    (object : (r f : ℕ) → entry.place ≡ places.Field (Ref r) f → Shown s (node_in w.executes.0.mirror r)) (kin : is_stranger entry entry.retire ≡ false) (after : Memory) (some : exchange t.text.fields entry w.executes.0.mirror s.source ≡ Some after) where
  abbrev m : Trail t
  m = w.executes.0

  abbrev f : EpochHolds t s since
  f = w.holds

  abbrev n : ℕ
  n = name_in (value_in m.mirror entry.replacement)

  listed : Listed t s c x (spot_of x.entry.hand) m
  listed = w.executes.1

  st : Standing t s since c x
  st = record { plan = w.plan; holds = w.holds; base = w.base; below = w.below; announced = w.executes.4 }

  given : Offers t s c x.entry.hand.registers m.mirror entry
  given = offered t s since c x k entry w

  new_safe : IsSafe t s c x n
  new_safe = registers_safe t s c x m.mirror entry.replacement listed.safe

  new_here : Resident t s n
  new_here = safe_here t s since c x n st new_safe

  own_new : (o i : ℕ) → s.owner (t.home o) ≡ Held c i → Resident t s o → has o x.old ≡ false
  own_new o i own here = not_old x.old s.source.retired o (w.base.before o) (sym (ap (λ (a : ℕ). has a s.source.retired) here) ∙ (slot_by (reckoned s since) (t.home o) (Held c i) own (f.holds.slot (t.home o))).1)

  -- ---- the source's turn

  op : slice_get t.text.ops m.walk.call.number ≡ Some m.walk.method.op
  op = ap (λ (i : ℕ). slice_get t.text.ops i) listed.number ∙ m.walk.method.in_text

  abbrev more : Bool
  more = nat_lt (k + 1) (length (list_of (instr_in t.target x.entry)))

  abbrev stand : SourceCaller
  stand = if nat_lt (k + 1) (length (list_of (instr_in t.target x.entry))) then stands_in_list x.entry.hand.at (list_of (instr_in t.target x.entry)) (k + 1) m.mirror m.walk.call else wrap_up_after m.walk.method.op (k + 1) m.mirror m.walk.call

  list : Turns t.text (events.Access c 0) s.source (stands_in_list x.entry.hand.at (list_of (instr_in t.target x.entry)) k m.mirror m.walk.call) (record { memory = after; caller = stand })
  list = (lists_are_made t.text c m.walk.method.op x.entry.hand.at (list_of (instr_in t.target x.entry)) k m.mirror m.walk.call s.source op).succeeds entry after w.there some

  turned : caller_turn t.text (events.Access c 0) s.source x.source ≡ record { memory = after; caller = stand }
  turned = ap (λ caller. caller_turn t.text (events.Access c 0) s.source caller) w.executes.3 ∙ list.turns

  enabled : is_enabled_for t.text (events.Access c 0) (Some x.source) s.source ≡ true
  enabled = ap (λ caller. is_enabled_for t.text (events.Access c 0) (Some caller) s.source) w.executes.3 ∙ list.enabled

  begun : run_after t.text (events.Access c 0) s.source x.source x.watch ≡ run_begun after
  begun = ap (λ caller. run_after t.text (events.Access c 0) s.source caller x.watch) w.executes.3 ∙ list.run x.watch

  once : IsOnce after.retired
  once =
      let point = played t.text c Accesses (point_at s x) in
      let proper : IsProperPoint t.text point = stays (Accesses ∷ []) point (plays_makes Accesses [] (point_at s x) point enabled (done point)) in
      subst IsOnce (ap (λ turn. turn.memory.retired) turned) proper.once

  tries : Tries t s since c x m.mirror entry n after
  tries = record { standing = st; offers = given; right = w.right; publishes = given.new; known = known_now t s n; object = object; kin = kin; makes = some; once = once }

  -- ---- the caller

  abbrev e : Entry
  e = record (counted x.entry) { cradles = cradles_after entry.replacement x.entry.hand.registers x.entry.cradles }

  module _ (s' : Shared) (g : Made t s s' since c x.entry.hand.registers m.mirror entry n) where
    after_same : after ≡ s'.source
    after_same = let same : after ≡ s'.source = cc_some after s'.source (sym some ∙ g.makes) in same where
      cc_some : (a b : Memory) → Some a ≡ Some b → a ≡ b
      cc_some a b is = cc

    safe_after : (i : ℕ) → IsSafe t s c x i → IsSafe t s' c x i
    safe_after i (inl z) = inl z
    safe_after i (inr (inr p)) = inr (inr (g.public i p.0, p.1))
    safe_after i (inr (inl own)) = of (cases_eq i n) (cases_eq n 0) where
      of : (i ≡ n) ⊎ (i ≢ n) → (n ≡ 0) ⊎ (n ≢ 0) → IsSafe t s' c x i
      of (inl same) (inl z) = inl (same ∙ z)
      of (inl same) (inr full) = inr (inr (ap (λ (a : ℕ). s'.public a) same ∙ g.published full, own_new i own.0 own.1 own.2))
      of (inr ne) any = inr (inl (own.0, g.owns (t.home i) own.0 (λ full at. ne (residents_apart t s i n own.2 new_here at)) own.1, ap (λ (present : ℕ → ℕ). present (t.home i)) g.present ∙ own.2))

    abbrev y : Caller
    y = changed x e (caller_turn t.text (events.Access c 0) s.source x.source).caller (run_after t.text (events.Access c 0) s.source x.source x.watch)

    base' : Base t s' since c y
    base' = record {
      number = w.base.number;
      old = λ a i p is lt. w.base.old (λ z. a (g.warning ∙ z)) i p (sym (ap (λ (f : ℕ → Option ℕ). f i) g.tag) ∙ is) lt;
      before = λ i is. g.goes.retired i (w.base.before i is);
      cradle = λ i full. (let left = left_at t entry.replacement x.entry.hand.registers m.mirror x.entry.cradles i (slot_agrees t x.entry.hand.registers m.mirror entry w.plan.null (listed.agree entry.replacement)) full in
          rw left.0 (g.owns (slice_index x.entry.cradles i) i (λ named z. left.1 named (left.0 ∙ z)) (w.base.cradle i (λ z. full (left.0 ∙ z)))));
    }

    listed_on : Listed t s' c x (spot_of x.entry.hand) m
    listed_on = record {
      call = listed.call;
      wrapup = listed.wrapup;
      number = listed.number;
      path_is = listed.path_is;
      sized = listed.sized;
      agree = listed.agree;
      safe = λ i. safe_after (node_in m.mirror i) (listed.safe i);
      shown = λ gen i is. shown_kept s s' (node_in m.mirror i) g.public (listed.shown gen i is);
    }

    announced' : s'.memory (Warning c) ≢ 0
    announced' z = w.executes.4 (sym g.warning ∙ z)

    pairs' : Pairs t s' m
    pairs' a b i = of (g.links (node_in m.mirror a) i) where
      of : (link s' (node_in m.mirror a) i ≡ link s (node_in m.mirror a) i) ⊎ Resident t s (link s' (node_in m.mirror a) i) → Apart t (link s' (node_in m.mirror a) i) (node_in m.mirror b)
      of (inl same) = subst (λ (o : ℕ). Apart t o (node_in m.mirror b)) (sym same) (w.executes.5 a b i)
      of (inr new) = residents_apart t s (link s' (node_in m.mirror a) i) (node_in m.mirror b) new (safe_here t s since c x (node_in m.mirror b) st (listed.safe b))

    behind : (b : Bool) → nat_lt (k + 1) (length (list_of (instr_in t.target x.entry))) ≡ b → AfterExchange t s' c y (k + 1) b
    behind true is = (m, listed_changed t s' c x (spot_of x.entry.hand) m e y.source y.watch refl refl listed_on, w.executes.2, ap (λ turn. turn.caller) turned ∙ rw is refl, announced', pairs')
    behind false is = (
      m,
      listed_changed t s' c x (spot_of x.entry.hand) m e y.source y.watch refl refl listed_on,
      w.executes.2,
      ap (λ turn. turn.caller) turned ∙ rw is refl,
      announced',
      ap (λ (run : MethodRun). run.got) begun,
      (λ i old. ap (λ (run : MethodRun). has i run.old) begun ∙ (ap (λ (memory : Memory). has i memory.retired) after_same ∙ g.goes.retired i (w.base.before i old))),
    )

    with_end : (d : Moved) → Ends t s' since c y d → KeptWith t c s since x (after_access s.memory (exchange_wanted t.target.fields entry x.entry.hand.registers)) (told (Accesses ∷ []) d) s.present
    with_end d ended = record {
      s' = s';
      since' = since;
      x' = ended.x';
      memory = g.memory;
      present = g.present;
      entry = ended.entry;
      plays = plays_first t.text c Accesses d.signs (point_at s x) (point_at s' y) (point_at s' ended.x') (enabled, (sym (ap (λ turn. turn.memory) turned ∙ after_same), refl, refl)) g.unused ended.plays;
      shared_holds = g.holds;
      goes = g.goes;
      caller_holds = ended.caller_holds;
    }

    on_list : (b : Bool) → AfterExchange t s' c y (k + 1) b → Ends t s' since c y (if b then quiet (with_routine e (InListAt (k + 1))) else wrap_up_begun t.target (k + 1) e)
    on_list true h = ends_quiet t s' since c y (InListAt (k + 1)) base' (h.0, listed_changed t s' c y (spot_of y.entry.hand) h.0 (with_routine e (InListAt (k + 1))) y.source y.watch refl refl h.1, h.2, h.3, h.4, h.5)
    on_list false h = list_ends t s' since c y (k + 1) w.plan g.holds base' w.below h

    goes_list : Ends t s' since c y (onward_goes Epochs t.target t.setting.sizes (onward.List k) e)
    goes_list = on_list (nat_lt (k + 1) (length (list_of (instr_in t.target x.entry)))) (behind (nat_lt (k + 1) (length (list_of (instr_in t.target x.entry)))) refl)

    moved_behind : (r : Routine) (b : Bool) → AfterExchange t s' c y (k + 1) b → AfterExchange t s' c (changed y (with_routine e r) y.source y.watch) (k + 1) b
    moved_behind r true h = (h.0, listed_changed t s' c y (spot_of y.entry.hand) h.0 (with_routine e r) y.source y.watch refl refl h.1, h.2, h.3, h.4, h.5)
    moved_behind r false h = (h.0, listed_changed t s' c y (spot_of y.entry.hand) h.0 (with_routine e r) y.source y.watch refl refl h.1, h.2, h.3, h.4, h.5, h.6)

    retires_list : (j i : ℕ) → IsRetiring s' c (suc j) i None → Ends t s' since c y (quiet (with_routine e (Retires (retire_begun (suc j)) (onward.List k))))
    retires_list j i retiring = ends_quiet t s' since c y (Retires (retire_begun (suc j)) (onward.List k)) base' (
      (i, record { owner = retiring.owner; present = retiring.present; tag_is = retiring.tag_is }),
      moved_behind (Retires (retire_begun (suc j)) (onward.List k)) (nat_lt (k + 1) (length (list_of (instr_in t.target x.entry)))) (behind (nat_lt (k + 1) (length (list_of (instr_in t.target x.entry)))) refl),
    )

  abbrev Kept : Moved → Type 0
  Kept d = KeptWith t c s since x (after_access s.memory (exchange_wanted t.target.fields entry x.entry.hand.registers)) (told (Accesses ∷ []) d) s.present

  pub list_success_kept : KeptWith t c s since x (after_access s.memory (exchange_wanted t.target.fields entry x.entry.hand.registers)) (entry_made Epochs t.target t.setting.sizes k entry (s.memory (word_of (exchange_wanted t.target.fields entry x.entry.hand.registers))) (counted x.entry)) s.present
  list_success_kept = subst (λ (made : Bool). Kept (if made then retires_then Epochs t.target t.setting.sizes (onward.List k) (to_retire entry.retire x.entry.hand.registers) (with_published entry.replacement (counted x.entry)) else wrap_up_begun t.target k (counted x.entry))) (sym (succeeded t s since c x m.mirror entry n after tries))
      (subst (λ (d : Entry). Kept (retires_then Epochs t.target t.setting.sizes (onward.List k) (to_retire entry.retire x.entry.hand.registers) d)) (sym (published_entry entry.replacement (counted x.entry)))
      (made_by t s since c x m.mirror entry n after tries (λ j. Kept (retires_then Epochs t.target t.setting.sizes (onward.List k) j e)) (λ s' g. with_end s' g _ (goes_list s' g)) (λ s' j i g retiring. with_end s' g _ (retires_list s' g j i retiring))))
