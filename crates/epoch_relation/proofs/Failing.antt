-- An auxiliary exchange: what it is given, and what follows if it fails.
use Rattle.std.proofs.Common.{ℕ, ◌≡◌, ◌==◌, ◌+◌, ◌<◌, ◌∙◌, ◌||◌, Bool, true, false, [], ◌∷◌, Option, Some, None, arith, inl, sym, ap, subst, refl, if◌then◌else◌}
use Rattle.std.specs.Prelude.{slice_get, IsTrue, is_some}
use Rattle.std.specs.List.{list_any}
use Rattle.std.proofs.lemmas.Bool.Decides.{nat_tests}
use Rattle.norm_lang.specs.declared.text.CasEntry.{CasEntry}
use Rattle.norm_lang.specs.declared.text.Instr.{Instr}
use Rattle.norm_lang.specs.declared.text.Instr.TheVariants as instr
use Rattle.norm_lang.specs.declared.text.Reg.TheVariants.{Ref}
use Rattle.norm_lang.specs.Local.{Spot}
use Rattle.norm_lang.specs.RegisterUse.{same_register, operands_of, registers_named}
use Rattle.target_code.specs.declared.target.TargetInstr.TheVariants.{Plain}
use Rattle.target_laws.specs.Methods.{code_in}
use Rattle.target_laws.proofs.KeptRules.{kept_are_left}
use Rattle.phase_pools.specs.Accesses.{word_of}
use Rattle.source_machine.specs.declared.event.SourceEvent.TheVariants as events
use Rattle.source_machine.specs.declared.state.Memory.{Memory}
use Rattle.source_machine.specs.Memory.{exchange, auxiliary, value_in}
use Rattle.source_machine.specs.Step.{caller_turn}
use Rattle.source_machine.specs.MethodRuns.{name_in}
use Rattle.caller_parts.specs.Operands.{succeeds, to_retire}
use Rattle.caller_parts.specs.declared.routine.AfterRetire.TheVariants as onward
use Rattle.caller_steps.specs.Wants.{exchange_wanted}
use Rattle.caller_steps.specs.Signs.{Accesses}
use Rattle.caller_steps.specs.Entries.{Entry}
use Rattle.caller_steps.specs.Signs.{told}
use Rattle.caller_steps.specs.After.{counted, with_access, retires_then, cas_failed, plain_accepted}
use Rattle.caller_parts.specs.declared.setting.Reclamation.TheVariants.{Epochs}
use Rattle.run_ahead.specs.Agreeing.{Changes}
use Rattle.run_ahead.specs.Known.{IsGot, is_set_in}
use Rattle.run_ahead.proofs.Changing.{nothing_changes}
use Rattle.oa_simulation.specs.sim_relation.Views.{Plan, Shared, link, top}
use Rattle.oa_simulation.specs.sim_relation.Points.{IsProperPoint}
use Rattle.chain_laws.specs.Memories.{after_access}
use Rattle.oa_simulation.proofs.sim_relation.Playing.{PlaysEvent, plays_first}
use Rattle.oa_simulation.proofs.sim_steps.Exchanges.Offering.{any_before, object_is}
use Rattle.oa_simulation.proofs.sim_steps.Exchanges.Exchanging.{Offers}
use Rattle.norm_lang.specs.KindFields.{place_of}
use Rattle.norm_lang.specs.Registers.{node_in}
use Rattle.run_ahead.specs.Typed.{AreAskedBy}
use Rattle.oa_simulation.proofs.sim_steps.Accesses.Failing.{fails_stay}
use Rattle.oa_simulation.specs.sim_relation.Callers.{spot_of}
use Rattle.epoch_relation.specs.Reckoned.{EpochHolds}
use Rattle.epoch_relation.specs.Callers.{Caller, Base}
use Rattle.epoch_relation.specs.Walking.{IsPlan, Trail, Walks, Running}
use Rattle.epoch_relation.specs.Keeping.{point_at, KeptWith, Ends, Comes}
use Rattle.run_ahead.proofs.Getting.{carried_where_read}
use Rattle.run_ahead.proofs.Plain.{kind_right}
use Rattle.epoch_relation.proofs.Local.{Standing, erased_of, walks_on, safe_apart}
use Rattle.epoch_relation.proofs.Moving.{changed, base_changed, walks_changed, gets_changed}
use Rattle.epoch_relation.proofs.Putting.{gets_past, value_safe}
use Rattle.epoch_relation.proofs.Settling.{settles_ends}
use Rattle.epoch_relation.proofs.Sweeping.{changes_same}
use Rattle.epoch_relation.proofs.Exchanging.{offers, both_succeed}
use Rattle.epoch_relation.proofs.Accessing.{Turned, turns, asked_at, stands_marked, Owing, got_clear, root_clear, register_got, link_safe, clear_safe, pairs_clear}

-- an operand of an auxiliary exchange was got: a wrap-up exchanges only what its run has set
pub operand_got : (t : Plan) (s : Shared) (since : ℕ → ℕ) (c : ℕ) (x : Caller) (m : Trail t) (entry : CasEntry) (l r : ℕ) → Owing t s since c x m → slice_get (code_in m.walk.method) x.entry.hand.at ≡ Some (Plain (instr.Cas entry l))
    → IsTrue (list_any (same_register (Ref r)) (operands_of entry)) → IsGot x.watch.got (node_in m.mirror r)
operand_got t s since c x m entry l r w is operand = by_method m.walk.method.wrapup refl where
  by_method : (b : Bool) → m.walk.method.wrapup ≡ b → IsGot x.watch.got (node_in m.mirror r)
  by_method false gen = register_got t s since c x m w gen r
  by_method true wrap = of (is_set_in m.walk.method m.path r) refl where
    of : (b : Bool) → is_set_in m.walk.method m.path r ≡ b → IsGot x.watch.got (node_in m.mirror r)
    of true set = w.gets.got.set r set
    of false unset =
        let carried = carried_where_read m.walk.method (erased_of t w.standing.plan) m.path x.entry.hand.at (instr.Cas entry l) (Ref r) wrap w.walks.path_is is (any_before (same_register (Ref r)) (operands_of entry) (registers_named entry.retire) operand) unset in
        let left = kept_are_left t.target t.text w.standing.plan.normal w.standing.plan.erases m.walk.method x.entry.hand.at (instr.Cas entry l) (Ref r) wrap is (refl, carried) in
        absurd (let z : true ≡ false = sym operand ∙ left.2 in cc)

pub cas_offers : (t : Plan) (s : Shared) (since : ℕ → ℕ) (c : ℕ) (x : Caller) (m : Trail t) (entry : CasEntry) (l : ℕ) → Owing t s since c x m → slice_get (code_in m.walk.method) x.entry.hand.at ≡ Some (Plain (instr.Cas entry l)) → AreAskedBy t.text entry s.source.nodes m.mirror → Offers t s c x.entry.hand.registers m.mirror entry
cas_offers t s since c x m entry l w is asked = offers t s since c x m.mirror entry w.standing w.walks.agree w.walks.safe (kind_right m.walk.method (erased_of t w.standing.plan) x.entry.hand.at (instr.Cas entry l) is) asked
    (λ z root. clear_safe t s c x (top s z) (root_clear t s since c x z w.standing.base w.proper) (w.standing.holds.holds.store.top z))
    (λ r f field. safe_apart t s since c x (link s (node_in m.mirror r) (place_of t.text.fields f)) (name_in (value_in m.mirror entry.expected)) w.standing
    (link_safe t s since c x m w (node_in m.mirror r) (place_of t.text.fields f) (got_clear t s since c x m w (node_in m.mirror r) (operand_got t s since c x m entry l r w is (object_is (Ref r) f entry field))))
    (value_safe t s c x (spot_of x.entry.hand) m entry.expected w.walks))

-- if the source's exchange fails, the core's fails too, and both go to the other instruction
pub failure_kept : (t : Plan) (c : ℕ) (s : Shared) (since : ℕ → ℕ) (x : Caller) (entry : CasEntry) (l : ℕ) → IsPlan t → EpochHolds t s since → Base t s since c x → c < t.setting.sizes.callers → (r : Running t s c x) → IsProperPoint t.text (point_at s x)
    → slice_get (code_in r.0.walk.method) x.entry.hand.at ≡ Some (Plain (instr.Cas entry l)) → exchange t.text.fields entry r.0.mirror s.source ≡ None
    → KeptWith t c s since x (after_access s.memory (exchange_wanted t.target.fields entry x.entry.hand.registers)) (plain_accepted Epochs t.target t.setting.sizes (instr.Cas entry l) (s.memory (word_of (exchange_wanted t.target.fields entry x.entry.hand.registers))) (counted x.entry)) s.present
failure_kept t c s since x entry l plan f b below r proper is none =
    subst (λ (made : Bool). KeptWith t c s since x (after_access s.memory (exchange_wanted t.target.fields entry x.entry.hand.registers)) (told (Accesses ∷ []) (if made then retires_then Epochs t.target t.setting.sizes onward.Next (to_retire entry.retire x.entry.hand.registers) e else cas_failed Epochs t.target t.setting.sizes l e)) s.present) (sym fails) (record {
      s' = s;
      since' = since;
      x' = ended.x';
      memory = fails_stay t.target.fields s.memory entry x.entry.hand.registers fails;
      present = refl;
      entry = ended.entry;
      plays = plays_first t.text c Accesses _ (point_at s x) (point_at s y) (point_at s ended.x') event refl ended.plays;
      shared_holds = f;
      goes = changes_same t s since c;
      caller_holds = ended.caller_holds;
    })
  where
    st : Standing t s since c x
    st = record { plan = plan; holds = f; base = b; below = below; announced = r.4 }

    i : Instr
    i = instr.Cas entry l

    e : Entry
    e = with_access (counted x.entry)

    next : Spot
    next = record { at = l; registers = x.entry.hand.registers }

    m' : Trail t
    m' = record { walk = r.0.walk; path = x.entry.hand.at ∷ r.0.path; mirror = r.0.mirror }

    changes : Changes t.home (λ A. A) None 0 x.entry.hand.registers r.0.mirror x.entry.hand.registers r.0.mirror
    changes = nothing_changes t.home (λ A. A) x.entry.hand.registers r.0.mirror r.1.sized

    turn : Turned t s c 0 x r.0 (instr.Cas entry l) (record { at = l; registers = x.entry.hand.registers }) r.0.mirror
    turn = turns t s c 0 x r.0 i next r.0.mirror plan r.1 r.3 is refl refl (ap (λ (o : Option Memory). (auxiliary o s.source x.entry.hand.at l r.0.mirror).spot) none)

    owes : Owing t s since c x r.0
    owes = record { standing = st; walks = r.1; gets = r.2; proper = proper; runs = turn.runs }

    fails : succeeds entry x.entry.hand.registers (s.memory (word_of (exchange_wanted t.target.fields entry x.entry.hand.registers))) ≡ false
    fails = both_succeed t s since c x.entry.hand.registers r.0.mirror entry plan f (cas_offers t s since c x r.0 entry l owes is (asked_at t s c x r.0 i plan r.1 r.3 is refl proper)) ∙ ap is_some none

    y : Caller
    y = changed x (with_access (counted x.entry)) (caller_turn t.text (events.Access c 0) s.source x.source).caller x.watch

    goes : (l : ℕ) → IsTrue (((x.entry.hand.at + 1) == l) || ((l == l) || false))
    goes l = grind (arith, nat_tests)

    walks : Walks t s c x (record { at = l; registers = x.entry.hand.registers }) (record { walk = r.0.walk; path = x.entry.hand.at ∷ r.0.path; mirror = r.0.mirror })
    walks = walks_on t s c x (spot_of x.entry.hand) next r.0 i 0 r.0.mirror plan is refl (goes l) changes (λ k set. inl refl) (λ gen k set. inl refl) r.1

    comes : Comes t s since c (changed x (with_access (counted x.entry)) (caller_turn t.text (events.Access c 0) s.source x.source).caller x.watch) (record { at = l; registers = x.entry.hand.registers }) (record { walk = r.0.walk; path = x.entry.hand.at ∷ r.0.path; mirror = r.0.mirror })
    comes = record {
      plan = plan;
      holds = f;
      base = base_changed t s since c x e y.source x.watch refl refl b;
      below = below;
      announced = r.4;
      walks = walks_changed t s c x next m' e y.source x.watch refl refl walks;
      gets = gets_changed t s c x m' e y.source (gets_past t s c x r.0 x.entry.hand.at i x.entry.hand.registers is changes r.2);
      pairs = λ gen. pairs_clear t s since c x r.0 owes r.0.mirror (λ k. got_clear t s since c x r.0 owes (node_in r.0.mirror k) (register_got t s since c x r.0 owes gen k)) r.1.safe;
    }

    ended : Ends t s since c (changed x (with_access (counted x.entry)) (caller_turn t.text (events.Access c 0) s.source x.source).caller x.watch) (cas_failed Epochs t.target t.setting.sizes l (with_access (counted x.entry)))
    ended = settles_ends t s since c y next m' comes (turn.stands ∙ stands_marked r.0.walk.method.op r.0.walk.method.wrapup r.0.walk.started x.entry.hand.wrapup r.0.walk.call _ (λ wrap. r.1.wrapup ∙ wrap))

    event : PlaysEvent t.text (events.Access c 0) s.source x.source x.watch s.source (caller_turn t.text (events.Access c 0) s.source x.source).caller x.watch
    event = (turn.enabled, (sym (turn.memory ∙ ap (λ (o : Option Memory). (auxiliary o s.source x.entry.hand.at l r.0.mirror).memory) none), refl, sym turn.watch))
