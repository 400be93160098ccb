-- An auxiliary exchange, whole: both sides make it or neither does, and the caller goes on, or retires first.
use Rattle.std.proofs.Common.{ℕ, suc, ◌≡◌, ◌==◌, ◌+◌, ◌<◌, ◌∙◌, ◌⊎◌, ◌||◌, Bool, true, false, [], ◌∷◌, Option, Some, None, arith, inl, inr, sym, ap, subst, refl, if◌then◌else◌}
use Rattle.std.specs.Prelude.{slice_get, IsTrue}
use Rattle.std.specs.List.{list_any}
use Rattle.std.proofs.lemmas.Bool.Decides.{nat_tests}
use Rattle.norm_lang.specs.declared.text.CasEntry.{CasEntry}
use Rattle.norm_lang.specs.declared.text.Instr.{Instr}
use Rattle.norm_lang.specs.declared.text.Instr.TheVariants as instr
use Rattle.norm_lang.specs.declared.text.Reg.{Reg}
use Rattle.norm_lang.specs.declared.text.Reg.TheVariants.{Num, Ref}
use Rattle.norm_lang.specs.InstructionRules.{has_wrong_operand}
use Rattle.norm_lang.specs.Local.{Spot}
use Rattle.norm_lang.specs.RegisterUse.{same_register, operands_of, registers_named}
use Rattle.norm_lang.specs.Registers.{node_in}
use Rattle.target_code.specs.declared.target.TargetInstr.TheVariants.{Plain}
use Rattle.target_laws.specs.Methods.{code_in}
use Rattle.target_laws.proofs.Entries.{reads_entry}
use Rattle.target_laws.proofs.Forms.{instructions_are_in_form}
use Rattle.target_laws.proofs.FreshRules.{open_reads_are_not_fresh}
use Rattle.phase_pools.specs.Accesses.{word_of}
use Rattle.phase_pools.specs.Pools.{retire_begun}
use Rattle.source_machine.specs.declared.event.SourceEvent.TheVariants as events
use Rattle.source_machine.specs.declared.state.Memory.{Memory}
use Rattle.source_machine.specs.Memory.{value_in, exchange, auxiliary}
use Rattle.source_machine.specs.Proper.{IsOnce}
use Rattle.source_machine.specs.Step.{caller_turn}
use Rattle.source_machine.specs.MethodRuns.{name_in}
use Rattle.caller_parts.specs.Operands.{to_retire}
use Rattle.caller_parts.specs.declared.routine.AfterRetire.TheVariants as onward
use Rattle.caller_steps.specs.Wants.{exchange_wanted}
use Rattle.caller_steps.specs.Signs.{Accesses}
use Rattle.caller_parts.specs.declared.routine.Routine.TheVariants.{Retires}
use Rattle.caller_steps.specs.Entries.{Entry}
use Rattle.caller_steps.specs.Signs.{Moved, quiet, told}
use Rattle.caller_steps.specs.After.{counted, with_access, with_routine, retires_then, cas_failed, goes_on, plain_accepted}
use Rattle.caller_parts.specs.declared.setting.Reclamation.TheVariants.{Epochs}
use Rattle.run_ahead.specs.Agreeing.{Changes}
use Rattle.run_ahead.specs.Known.{IsGot}
use Rattle.run_ahead.specs.Standing.{stands_at, run_from}
use Rattle.run_ahead.proofs.Changing.{nothing_changes}
use Rattle.oa_simulation.specs.sim_relation.Views.{Plan, Shared, Resident, Apart, link}
use Rattle.oa_simulation.specs.sim_relation.Callers.{Shown, spot_of, IsRetiring}
use Rattle.oa_simulation.specs.sim_relation.Points.{IsProperPoint, StaysProper, played, makes as plays_makes, done}
use Rattle.chain_laws.specs.Memories.{after_access}
use Rattle.oa_simulation.proofs.sim_relation.Names.{KeepsNames, residents_apart, shown_kept}
use Rattle.oa_simulation.proofs.sim_relation.Playing.{plays_first}
use Rattle.oa_simulation.proofs.sim_steps.Exchanges.Entering.{published_if, public_still}
use Rattle.oa_simulation.proofs.sim_steps.Exchanges.Exchanging.{Offers}
use Rattle.oa_simulation.proofs.sim_steps.Exchanges.Offering.{any_before, replacement_at, object_is}
use Rattle.epoch_relation.specs.Reckoned.{EpochHolds}
use Rattle.epoch_relation.specs.Callers.{Caller, Base}
use Rattle.epoch_relation.specs.Walking.{IsPlan, Trail, Walks, Running}
use Rattle.epoch_relation.specs.Keeping.{point_at, KeptWith, Ends, Comes}
use Rattle.run_ahead.proofs.Plain.{kind_right}
use Rattle.epoch_relation.proofs.Local.{Standing, erased_of, walks_on, safe_here, safe_apart}
use Rattle.epoch_relation.proofs.Moving.{changed, base_changed, walks_changed, gets_changed}
use Rattle.epoch_relation.proofs.Putting.{gets_past}
use Rattle.epoch_relation.proofs.Settling.{settles_ends}
use Rattle.epoch_relation.proofs.Same.{walks_kept, gets_kept, base_kept}
use Rattle.epoch_relation.proofs.Failing.{operand_got, cas_offers, failure_kept}
use Rattle.epoch_relation.proofs.Succeeding.{Tries, Made, succeeded, made_by}
use Rattle.epoch_relation.proofs.Accessing.{Turned, turns, asked_at, stands_marked, Owing, got_clear, register_got, link_safe}
use Rattle.epoch_relation.proofs.Stopping.{ends_quiet}

-- an operand is null or was published
operand_shown : (t : Plan) (s : Shared) (since : ℕ → ℕ) (c : ℕ) (x : Caller) (m : Trail t) (entry : CasEntry) (l r : ℕ) → Owing t s since c x m → slice_get (code_in m.walk.method) x.entry.hand.at ≡ Some (Plain (instr.Cas entry l))
    → IsTrue (list_any (same_register (Ref r)) (operands_of entry)) → Shown s (node_in m.mirror r)
operand_shown t s since c x m entry l r w is operand = by_method m.walk.method.wrapup refl where
  got_shown : m.walk.method.wrapup ≡ true → (n : ℕ) → IsGot x.watch.got n → Shown s n
  got_shown wrap n (inl z) = inl z
  got_shown wrap n (inr got) = inr (w.gets.known wrap n got)

  by_method : (b : Bool) → m.walk.method.wrapup ≡ b → Shown s (node_in m.mirror r)
  by_method false gen = w.walks.shown gen r (open_reads_are_not_fresh t.target t.text w.standing.plan.normal w.standing.plan.erases m.walk.method m.path x.entry.hand.at (instr.Cas entry l) (Ref r)
      (record { leads = w.walks.path_is; stands = is }) (reads_entry (instr.Cas entry l) 0 entry (Ref r) refl (any_before (same_register (Ref r)) (operands_of entry) (registers_named entry.retire) operand)))
  by_method true wrap = got_shown wrap (node_in m.mirror r) (operand_got t s since c x m entry l r w is operand)

value_shown : (t : Plan) (s : Shared) (since : ℕ → ℕ) (c : ℕ) (x : Caller) (m : Trail t) (entry : CasEntry) (l : ℕ) (r : Reg) → Owing t s since c x m → slice_get (code_in m.walk.method) x.entry.hand.at ≡ Some (Plain (instr.Cas entry l))
    → IsTrue (list_any (same_register r) (operands_of entry)) → Shown s (name_in (value_in m.mirror r))
value_shown t s since c x m entry l (Num r) w is operand = inl refl
value_shown t s since c x m entry l (Ref r) w is operand = operand_shown t s since c x m entry l r w is operand

module _ (t : Plan) (c : ℕ) (s : Shared) (since : ℕ → ℕ) (x : Caller) (entry : CasEntry) (l : ℕ) (plan : IsPlan t) (f : EpochHolds t s since) (b : Base t s since c x) (below : c < t.setting.sizes.callers) (r : Running t s c x)
    (stays : StaysProper t.text c (point_at s x)) (is : slice_get (code_in r.0.walk.method) x.entry.hand.at ≡ Some (Plain (instr.Cas entry l))) where
  st : Standing t s since c x
  st = record { plan = plan; holds = f; base = b; below = below; announced = r.4 }

  abbrev i : Instr
  i = instr.Cas entry l

  abbrev next : Spot
  next = record { at = x.entry.hand.at + 1; registers = x.entry.hand.registers }

  abbrev m' : Trail t
  m' = record { walk = r.0.walk; path = x.entry.hand.at ∷ r.0.path; mirror = r.0.mirror }

  module _ (after : Memory) (some : exchange t.text.fields entry r.0.mirror s.source ≡ Some after) where
    turn : Turned t s c 0 x r.0 i next r.0.mirror
    turn = turns t s c 0 x r.0 i next r.0.mirror plan r.1 r.3 is refl refl (ap (λ (o : Option Memory). (auxiliary o s.source x.entry.hand.at l r.0.mirror).spot) some)

    owes : Owing t s since c x r.0
    owes = record { standing = st; walks = r.1; gets = r.2; proper = stays [] (point_at s x) (done (point_at s x)); runs = turn.runs }

    offered : Offers t s c x.entry.hand.registers r.0.mirror entry
    offered = cas_offers t s since c x r.0 entry l owes is (asked_at t s c x r.0 i plan r.1 r.3 is refl owes.proper)

    right : has_wrong_operand t.text.fields t.text.roots entry ≡ false
    right = kind_right r.0.walk.method (erased_of t plan) x.entry.hand.at i is

    -- no name is retired twice by it, since the text is proper
    once : IsOnce after.retired
    once =
        let point = played t.text c Accesses (point_at s x) in
        let proper : IsProperPoint t.text point = stays (Accesses ∷ []) point (plays_makes Accesses [] (point_at s x) point turn.enabled (done point)) in
        subst IsOnce (ap (λ (memory : Memory). memory.retired) (turn.memory ∙ ap (λ (o : Option Memory). (auxiliary o s.source x.entry.hand.at l r.0.mirror).memory) some)) proper.once

    tries : Tries t s since c x r.0.mirror entry 0 after
    tries = record {
      standing = st;
      offers = offered;
      right = right;
      publishes = inl refl;
      known = shown_kept s (published_if t s 0) (name_in (value_in r.0.mirror entry.replacement)) (public_still t s 0) (value_shown t s since c x r.0 entry l entry.replacement owes is (replacement_at entry.place entry));
      object = λ k g at. operand_shown t s since c x r.0 entry l k owes is (object_is (Ref k) g entry at);
      kin = (instructions_are_in_form t.target t.text plan.normal plan.erases r.0.walk.method x.entry.hand.at i is).retired;
      makes = some;
      once = once;
    }

    abbrev e : Entry
    e = with_access (counted x.entry)

    abbrev y : Caller
    y = changed x (with_access (counted x.entry)) (caller_turn t.text (events.Access c 0) s.source x.source).caller x.watch

    changes : Changes t.home (λ A. A) None 0 x.entry.hand.registers r.0.mirror x.entry.hand.registers r.0.mirror
    changes = nothing_changes t.home (λ A. A) x.entry.hand.registers r.0.mirror r.1.sized

    goes_next : (l : ℕ) → IsTrue (((x.entry.hand.at + 1) == (x.entry.hand.at + 1)) || ((l == (x.entry.hand.at + 1)) || false))
    goes_next l = grind (arith, nat_tests)

    walks : Walks t s c x next m'
    walks = walks_on t s c x (spot_of x.entry.hand) next r.0 i 0 r.0.mirror plan is refl (goes_next l) changes (λ k set. inl refl) (λ gen k set. inl refl) r.1

    module _ (s' : Shared) (k : Made t s s' since c x.entry.hand.registers r.0.mirror entry 0) where
      keeps : KeepsNames c s s'
      keeps = record { held = λ j a own. (k.owns j a (λ never. absurd (never refl)) own, ap (λ (present : ℕ → ℕ). present j) k.present); public = k.public }

      base' : Base t s' since c x
      base' = base_kept t c s s' x keeps since since (λ announced n p tag lt. b.old (λ z. announced (k.warning ∙ z)) n p (sym (ap (λ (tags : ℕ → Option ℕ). tags n) k.tag) ∙ tag) lt) k.goes.retired b

      pair : (a e g : ℕ) → r.0.walk.method.wrapup ≡ false → (link s' (node_in r.0.mirror a) g ≡ link s (node_in r.0.mirror a) g) ⊎ Resident t s (link s' (node_in r.0.mirror a) g) → Apart t (link s' (node_in r.0.mirror a) g) (node_in r.0.mirror e)
      pair a e g gen (inl same) = subst (λ (n : ℕ). Apart t n (node_in r.0.mirror e)) (sym same)
          (safe_apart t s since c x (link s (node_in r.0.mirror a) g) (node_in r.0.mirror e) st (link_safe t s since c x r.0 owes (node_in r.0.mirror a) g (got_clear t s since c x r.0 owes (node_in r.0.mirror a) (register_got t s since c x r.0 owes gen a))) (r.1.safe e))
      pair a e g gen (inr new) = residents_apart t s (link s' (node_in r.0.mirror a) g) (node_in r.0.mirror e) new (safe_here t s since c x (node_in r.0.mirror e) st (r.1.safe e))

      comes : Comes t s' since c y next m'
      comes = record {
        plan = plan;
        holds = k.holds;
        base = base_changed t s' since c x e y.source x.watch refl refl base';
        below = below;
        announced = λ z. r.4 (sym k.warning ∙ z);
        walks = walks_changed t s' c x next m' e y.source x.watch refl refl (walks_kept t c s s' x keeps next m' walks);
        gets = gets_changed t s' c x m' e y.source (gets_kept t c s s' x keeps since m' plan.null k.holds (gets_past t s c x r.0 x.entry.hand.at i x.entry.hand.registers is changes r.2));
        pairs = λ gen a e g. pair a e g gen (k.links (node_in r.0.mirror a) g);
      }

      stands : y.source ≡ stands_at r.0.walk.method.op r.0.walk.method.wrapup r.0.walk.started x.entry.hand.wrapup r.0.walk.call (run_from r.0.walk.method.op r.0.walk.method.wrapup (record { at = x.entry.hand.at + 1; registers = r.0.mirror }))
      stands = turn.stands ∙ stands_marked r.0.walk.method.op r.0.walk.method.wrapup r.0.walk.started x.entry.hand.wrapup r.0.walk.call _ (λ wrap. r.1.wrapup ∙ wrap)

      after_source : (caller_turn t.text (events.Access c 0) s.source x.source).memory ≡ s'.source
      after_source = turn.memory ∙ ap (λ (o : Option Memory). (auxiliary o s.source x.entry.hand.at l r.0.mirror).memory) k.makes

      abbrev word : ℕ
      word = s.memory (word_of (exchange_wanted t.target.fields entry x.entry.hand.registers))

      -- the step, if the entry goes on so
      with_end : (m : Moved) → Ends t s' since c y m → KeptWith t c s since x (after_access s.memory (exchange_wanted t.target.fields entry x.entry.hand.registers)) (told (Accesses ∷ []) m) s.present
      with_end m ended = record {
        s' = s';
        since' = since;
        x' = ended.x';
        memory = k.memory;
        present = k.present;
        entry = ended.entry;
        plays = plays_first t.text c Accesses m.signs (point_at s x) (point_at s' y) (point_at s' ended.x') (turn.enabled, (sym after_source, refl, sym turn.watch)) k.unused ended.plays;
        shared_holds = k.holds;
        goes = k.goes;
        caller_holds = ended.caller_holds;
      }

      goes_on_next : Ends t s' since c y (goes_on Epochs t.target t.setting.sizes x.entry.hand.registers e)
      goes_on_next = settles_ends t s' since c y next m' comes stands

      retires_next : (j n : ℕ) → IsRetiring s' c (suc j) n None → Ends t s' since c y (quiet (with_routine e (Retires (retire_begun (suc j)) onward.Next)))
      retires_next j n retiring = ends_quiet t s' since c y (Retires (retire_begun (suc j)) onward.Next) comes.base (
        (n, record { owner = retiring.owner; present = retiring.present; tag_is = retiring.tag_is }),
        (
          m',
          walks_changed t s' c y next m' (with_routine e (Retires (retire_begun (suc j)) onward.Next)) y.source y.watch refl refl comes.walks,
          gets_changed t s' c y m' (with_routine e (Retires (retire_begun (suc j)) onward.Next)) y.source comes.gets,
          stands,
          comes.announced,
          comes.pairs,
        ),
      )

    abbrev Kept : Moved → Type 0
    Kept m = KeptWith t c s since x (after_access s.memory (exchange_wanted t.target.fields entry x.entry.hand.registers)) (told (Accesses ∷ []) m) s.present

    success_kept : KeptWith t c s since x (after_access s.memory (exchange_wanted t.target.fields entry x.entry.hand.registers)) (plain_accepted Epochs t.target t.setting.sizes (instr.Cas entry l) (s.memory (word_of (exchange_wanted t.target.fields entry x.entry.hand.registers))) (counted x.entry)) s.present
    success_kept = subst (λ (made : Bool). Kept (if made then retires_then Epochs t.target t.setting.sizes onward.Next (to_retire entry.retire x.entry.hand.registers) e else cas_failed Epochs t.target t.setting.sizes l e)) (sym (succeeded t s since c x r.0.mirror entry 0 after tries))
        (made_by t s since c x r.0.mirror entry 0 after tries (λ j. Kept (retires_then Epochs t.target t.setting.sizes onward.Next j e)) (λ s' k. with_end s' k _ (goes_on_next s' k)) (λ s' j n k retiring. with_end s' k _ (retires_next s' k j n retiring)))

  pub cas_kept : KeptWith t c s since x (after_access s.memory (exchange_wanted t.target.fields entry x.entry.hand.registers)) (plain_accepted Epochs t.target t.setting.sizes (instr.Cas entry l) (s.memory (word_of (exchange_wanted t.target.fields entry x.entry.hand.registers))) (counted x.entry)) s.present
  cas_kept = by_result (exchange t.text.fields entry r.0.mirror s.source) refl where
    by_result : (o : Option Memory) → exchange t.text.fields entry r.0.mirror s.source ≡ o → KeptWith t c s since x (after_access s.memory (exchange_wanted t.target.fields entry x.entry.hand.registers)) (plain_accepted Epochs t.target t.setting.sizes (instr.Cas entry l) (s.memory (word_of (exchange_wanted t.target.fields entry x.entry.hand.registers))) (counted x.entry)) s.present
    by_result None none = failure_kept t c s since x entry l plan f b below r (stays [] (point_at s x) (done (point_at s x))) is none
    by_result (Some after) some = success_kept after some
