-- An exchange of the list: it may publish a node of the caller's own, and the list goes on or ends.
use Rattle.std.proofs.Common.{ℕ, ◌≡◌, ◌<◌, ◌∙◌, ◌⊎◌, Bool, true, false, [], ◌∷◌, Some, None, inl, inr, sym, ap, subst, refl, if◌then◌else◌}
use Rattle.std.specs.Prelude.{slice_get, is_some}
use Rattle.norm_lang.specs.declared.text.CasEntry.{CasEntry}
use Rattle.norm_lang.specs.declared.text.Reg.{Reg}
use Rattle.norm_lang.specs.declared.text.Reg.TheVariants.{Num, Ref}
use Rattle.norm_lang.specs.InstructionRules.{has_wrong_operand}
use Rattle.phase_pools.specs.Accesses.{word_of}
use Rattle.source_machine.specs.declared.event.SourceEvent.TheVariants as events
use Rattle.source_machine.specs.Memory.{value_in, exchange}
use Rattle.source_machine.specs.MethodRuns.{MethodRun, run_begun, run_after, name_in}
use Rattle.source_machine.specs.Proper.{has}
use Rattle.source_machine.specs.Run.{is_enabled_for}
use Rattle.source_machine.specs.Step.{caller_turn}
use Rattle.caller_parts.specs.Operands.{list_of, succeeds, to_retire}
use Rattle.caller_parts.specs.declared.routine.AfterRetire.TheVariants as onward
use Rattle.caller_steps.specs.Wants.{exchange_wanted}
use Rattle.caller_steps.specs.Signs.{Accesses}
use Rattle.caller_steps.specs.Entries.{instr_in}
use Rattle.caller_steps.specs.Signs.{told}
use Rattle.caller_steps.specs.After.{counted, wrap_up_begun, with_published, retires_then, entry_made}
use Rattle.caller_parts.specs.declared.setting.Reclamation.TheVariants.{Epochs}
use Rattle.run_ahead.specs.MethodLaws.{Turns}
use Rattle.run_ahead.specs.Standing.{stands_in_list, wrap_up_after}
use Rattle.run_ahead.proofs.Lists.{lists_are_made}
use Rattle.oa_simulation.specs.sim_relation.Views.{Plan, Shared, Apart, link, top}
use Rattle.oa_simulation.specs.sim_relation.Points.{IsProperPoint}
use Rattle.chain_laws.specs.Memories.{after_access}
use Rattle.oa_simulation.proofs.sim_relation.Playing.{plays_first}
use Rattle.oa_simulation.proofs.sim_steps.Accesses.Failing.{fails_stay}
use Rattle.oa_simulation.proofs.sim_steps.Exchanges.Exchanging.{Offers}
use Rattle.norm_lang.specs.KindFields.{place_of}
use Rattle.norm_lang.specs.Registers.{node_in}
use Rattle.run_ahead.specs.Typed.{AreAskedBy}
use Rattle.run_ahead.specs.TypedCallers.{IsTypedCaller}
use Rattle.run_ahead.proofs.Asked.{lists_find_kinds}
use Rattle.oa_simulation.specs.sim_relation.Callers.{spot_of}
use Rattle.epoch_relation.specs.Reckoned.{EpochHolds}
use Rattle.epoch_relation.specs.Callers.{Caller, Base}
use Rattle.epoch_relation.specs.Walking.{IsPlan, Trail, Listed, InExecutor, Committed}
use Rattle.epoch_relation.specs.Keeping.{point_at, KeptWith, Ends}
use Rattle.epoch_relation.proofs.Local.{Standing}
use Rattle.epoch_relation.proofs.Moving.{changed, base_changed, listed_changed}
use Rattle.epoch_relation.proofs.Settling.{list_ends}
use Rattle.epoch_relation.proofs.Sweeping.{changes_same}
use Rattle.epoch_relation.proofs.Exchanging.{offers, both_succeed}
use Rattle.epoch_relation.proofs.Accessing.{clear_safe, root_clear}

-- a caller before an exchange of its list
pub record InList (t : Plan) (s : Shared) (since : ℕ → ℕ) (c : ℕ) (x : Caller) (k : ℕ) (entry : CasEntry) : Type 0 where
  pub plan : IsPlan t
  pub holds : EpochHolds t s since
  pub base : Base t s since c x
  pub below : c < t.setting.sizes.callers
  pub executes : InExecutor t s c x k
  pub proper : IsProperPoint t.text (point_at s x)
  pub there : slice_get (list_of (instr_in t.target x.entry)) k ≡ Some entry
  pub right : has_wrong_operand t.text.fields t.text.roots entry ≡ false

module _ (t : Plan) (s : Shared) (since : ℕ → ℕ) (c : ℕ) (x : Caller) (k : ℕ) (entry : CasEntry) (w : InList t s since c x k entry) where
  abbrev m : Trail t
  m = w.executes.0

  listed : Listed t s c x (spot_of x.entry.hand) m
  listed = w.executes.1

  standing : Standing t s since c x
  standing = record { plan = w.plan; holds = w.holds; base = w.base; below = w.below; announced = w.executes.4 }

  -- what a field of a register names is apart from what a register holds
  pair_at : (r f : ℕ) (e : Reg) → Apart t (link s (node_in m.mirror r) f) (name_in (value_in m.mirror e))
  pair_at r f (Ref e) same = w.executes.5 r e f same
  pair_at r f (Num e) same = of (w.holds.holds.store.link (node_in m.mirror r) f) where
    of : (link s (node_in m.mirror r) f ≡ 0) ⊎ (s.public (link s (node_in m.mirror r) f) ≡ true) → link s (node_in m.mirror r) f ≡ 0
    of (inl z) = z
    of (inr public) = absurd (w.holds.holds.placed (link s (node_in m.mirror r) f) public (same ∙ w.plan.null))

  op : slice_get t.text.ops m.walk.call.number ≡ Some m.walk.method.op
  op = ap (λ (i : ℕ). slice_get t.text.ops i) listed.number ∙ m.walk.method.in_text

  asked : AreAskedBy t.text entry s.source.nodes m.mirror
  asked = lists_find_kinds t.text w.plan.normal m.walk.method.op x.entry.hand.at (list_of (instr_in t.target x.entry)) k m.mirror m.walk.call op s.source.nodes
      (subst (λ caller. IsTypedCaller t.text s.source.nodes caller) w.executes.3 w.proper.kinds) k entry w.there

  pub offered : Offers t s c x.entry.hand.registers m.mirror entry
  offered = offers t s since c x m.mirror entry standing listed.agree listed.safe w.right asked (λ z root. clear_safe t s c x (top s z) (root_clear t s since c x z w.base w.proper) (w.holds.holds.store.top z)) (λ r f field. pair_at r (place_of t.text.fields f) entry.expected)

  -- if the source's fails, the core's fails too, and the list has ended
  pub list_failure_kept : exchange t.text.fields entry m.mirror s.source ≡ None
      → KeptWith t c s since x (after_access s.memory (exchange_wanted t.target.fields entry x.entry.hand.registers)) (entry_made Epochs t.target t.setting.sizes k entry (s.memory (word_of (exchange_wanted t.target.fields entry x.entry.hand.registers))) (counted x.entry)) s.present
  list_failure_kept none = subst (λ (made : Bool). KeptWith t c s since x (after_access s.memory (exchange_wanted t.target.fields entry x.entry.hand.registers)) (told (Accesses ∷ []) (if made then retires_then Epochs t.target t.setting.sizes (onward.List k) (to_retire entry.retire x.entry.hand.registers) (with_published entry.replacement (counted x.entry)) else wrap_up_begun t.target k (counted x.entry))) s.present) (sym fails) (record {
    s' = s;
    since' = since;
    x' = ended.x';
    memory = fails_stay t.target.fields s.memory entry x.entry.hand.registers fails;
    present = refl;
    entry = ended.entry;
    plays = plays_first t.text c Accesses _ (point_at s x) (point_at s y) (point_at s ended.x') (ap (λ caller. is_enabled_for t.text (events.Access c 0) (Some caller) s.source) w.executes.3 ∙ turns.enabled, (sym (ap (λ turn. turn.memory) turned), refl, refl)) refl ended.plays;
    shared_holds = w.holds;
    goes = changes_same t s since c;
    caller_holds = ended.caller_holds;
  }) where
    fails : succeeds entry x.entry.hand.registers (s.memory (word_of (exchange_wanted t.target.fields entry x.entry.hand.registers))) ≡ false
    fails = both_succeed t s since c x.entry.hand.registers m.mirror entry w.plan w.holds offered ∙ ap is_some none

    turns : Turns t.text (events.Access c 0) s.source (stands_in_list x.entry.hand.at (list_of (instr_in t.target x.entry)) k m.mirror m.walk.call) (record { memory = s.source; caller = wrap_up_after m.walk.method.op k m.mirror m.walk.call })
    turns = (lists_are_made t.text c m.walk.method.op x.entry.hand.at (list_of (instr_in t.target x.entry)) k m.mirror m.walk.call s.source op).fails entry w.there none

    turned : caller_turn t.text (events.Access c 0) s.source x.source ≡ record { memory = s.source; caller = wrap_up_after m.walk.method.op k m.mirror m.walk.call }
    turned = ap (λ caller. caller_turn t.text (events.Access c 0) s.source caller) w.executes.3 ∙ turns.turns

    y : Caller
    y = changed x (counted x.entry) (caller_turn t.text (events.Access c 0) s.source x.source).caller (run_after t.text (events.Access c 0) s.source x.source x.watch)

    begun : y.watch ≡ run_begun s.source
    begun = ap (λ caller. run_after t.text (events.Access c 0) s.source caller x.watch) w.executes.3 ∙ turns.run x.watch

    committed : Committed t s c y k
    committed = (
      m,
      listed_changed t s c x (spot_of x.entry.hand) m (counted x.entry) y.source y.watch refl refl listed,
      w.executes.2,
      ap (λ turn. turn.caller) turned,
      w.executes.4,
      ap (λ (run : MethodRun). run.got) begun,
      (λ n old. ap (λ (run : MethodRun). has n run.old) begun ∙ w.base.before n old),
    )

    ended : Ends t s since c y (wrap_up_begun t.target k (counted x.entry))
    ended = list_ends t s since c y k w.plan w.holds (base_changed t s since c x (counted x.entry) y.source y.watch refl refl w.base) w.below committed
