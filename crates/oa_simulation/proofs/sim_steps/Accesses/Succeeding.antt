-- An auxiliary exchange of a caller that belongs.
use Rattle.std.proofs.Common.{ℕ, ◌≡◌, ◌+◌, ◌∙◌, ◌||◌, not, Bool, true, false, [], ◌∷◌, Option, Some, None, inl, inr, sym, ap, subst, refl}
use Rattle.std.specs.Prelude.{slice_get, IsTrue, is_some}
use Rattle.std.specs.List.{list_any}
use Rattle.norm_lang.specs.declared.text.Reg.{Reg}
use Rattle.norm_lang.specs.declared.text.Reg.TheVariants.{Num, Ref}
use Rattle.norm_lang.specs.declared.text.CasEntry.{CasEntry}
use Rattle.norm_lang.specs.declared.text.Instr.{Instr}
use Rattle.norm_lang.specs.declared.text.Instr.TheVariants as instr
use Rattle.norm_lang.specs.Local.{Spot}
use Rattle.norm_lang.specs.NormalForm.{N3}
use Rattle.norm_lang.specs.RegisterUse.{same_register, operands_of, registers_named}
use Rattle.norm_lang.specs.Registers.{node_in}
use Rattle.target_code.specs.declared.target.TargetInstr.TheVariants.{Plain}
use Rattle.target_code.specs.Erasing.{source_place}
use Rattle.source_machine.specs.declared.state.Memory.{Memory}
use Rattle.source_machine.specs.Memory.{value_in, exchange, auxiliary}
use Rattle.source_machine.specs.Proper.{IsOnce}
use Rattle.source_machine.specs.MethodRuns.{name_in}
use Rattle.caller_steps.specs.Wants.{plain_wanted}
use Rattle.caller_parts.proofs.News.{new_there}
use Rattle.caller_steps.specs.Signs.{Accesses}
use Rattle.target_laws.specs.Methods.{code_in}
use Rattle.target_laws.proofs.Entries.{reads_entry}
use Rattle.target_laws.proofs.Forms.{instructions_are_in_form}
use Rattle.target_laws.proofs.FreshRules.{open_reads_are_not_fresh}
use Rattle.target_laws.proofs.TextRules.{keeps_at}
use Rattle.run_ahead.specs.Known.{IsGot, is_set_in}
use Rattle.run_ahead.proofs.Plain.{kind_right}
use Rattle.run_ahead.specs.Ahead.{IsErased, erasing}
use Rattle.oa_simulation.specs.sim_relation.Views.{Plan, Shared, Caller}
use Rattle.oa_simulation.specs.sim_relation.Callers.{Known, Shown, Base, Trail, Stands, Gets, Guards, Running, HasMade, spot_of}
use Rattle.oa_simulation.specs.sim_relation.Points.{StaysProper, IsProperPoint, point, played, makes, done}
use Rattle.oa_simulation.proofs.sim_relation.Names.{shown_kept}
use Rattle.oa_simulation.proofs.sim_steps.Walks.Accessing.{turns}
use Rattle.oa_simulation.proofs.sim_steps.Exchanges.Exchanging.{Offers, tests_agree}
use Rattle.oa_simulation.proofs.sim_steps.Exchanges.Entering.{published_if, public_still}
use Rattle.oa_simulation.proofs.sim_steps.Exchanges.Offering.{offers, operand_is_own, any_before, replacement_at, object_is}
use Rattle.oa_simulation.proofs.sim_steps.Exchanges.Placing.{words_written}
use Rattle.oa_simulation.proofs.sim_steps.Accesses.Puts.{Reads}
use Rattle.oa_simulation.proofs.sim_steps.Accesses.Failing.{failure_kept}
use Rattle.oa_simulation.proofs.sim_steps.Accesses.Making.{Succeeds, exchange_makes, success_kept, success_retires}
use Rattle.oa_simulation.proofs.sim_steps.Accesses.Stepping.{AtPlain, PlainKept, running_at, code_at, asked_at, load_at, put_step}
use Rattle.oa_simulation.proofs.sim_steps.Exchanges.Done.{Tried, Done, by_retirement}

-- ---- operands

-- in a wrap-up, which makes no node, what was got isn't the caller's own
got_shown : (t : Plan) (s : Shared) (c : ℕ) (x : Caller) (m : Trail t) (n : ℕ) → IsErased t.target t.text → Base t s c x → Gets t s c x m → m.walk.method.wrapup ≡ true → IsGot x.held.got n → Shown s n
got_shown t s c x m n erased b g wrap (inl z) = inl z
got_shown t s c x m n erased b g wrap (inr got) = of (b.known n got) where
  of : Known t s c n → Shown s n
  of (inl z) = inl z
  of (inr (inl public)) = inr public
  of (inr (inr own)) =
      let made : HasMade (code_in m.walk.method) m.path own.0 = g.made n own.0 got own.1 own.2 in
      let new = new_there (slice_get (code_in m.walk.method) made.0) made.2 in
      absurd (keeps_at erased.normal erased.erases m.walk.method N3 made.0 (instr.New new.0 new.1) new.2 (inl wrap))

-- an operand is null or was published
pub operand_shown : (t : Plan) (s : Shared) (c : ℕ) (x : Caller) (m : Trail t) (entry : CasEntry) (l r : ℕ) → Reads t s c x m (instr.Cas entry l) → IsTrue (list_any (same_register (Ref r)) (operands_of entry)) → Shown s (node_in m.mirror r)
operand_shown t s c x m entry l r w operand = by_method m.walk.method.wrapup refl where
  by_method : (b : Bool) → m.walk.method.wrapup ≡ b → Shown s (node_in m.mirror r)
  by_method false gen = w.gets.shown gen r (open_reads_are_not_fresh t.target t.text w.plan.compiled.normal w.plan.compiled.barred.erases m.walk.method m.path x.entry.hand.at (instr.Cas entry l) (Ref r)
      (record { leads = w.walks.ahead.path_is; stands = w.here }) (reads_entry (instr.Cas entry l) 0 entry (Ref r) refl (any_before (same_register (Ref r)) (operands_of entry) (registers_named entry.retire) operand)))
  by_method true wrap =
      let own = operand_is_own t m x.entry.hand.at entry l r (erasing w.plan.compiled) w.walks.ahead.path_is w.here operand in
      let set : is_set_in m.walk.method m.path r ≡ true = ap (λ (b : Bool). not b || is_set_in m.walk.method m.path r) (sym wrap) ∙ own.1 in
      got_shown t s c x m (node_in m.mirror r) (erasing w.plan.compiled) w.base w.gets wrap (w.gets.got.set r set)

value_shown : (t : Plan) (s : Shared) (c : ℕ) (x : Caller) (m : Trail t) (entry : CasEntry) (l : ℕ) (r : Reg) → Reads t s c x m (instr.Cas entry l) → IsTrue (list_any (same_register r) (operands_of entry)) → Shown s (name_in (value_in m.mirror r))
value_shown t s c x m entry l (Num r) w operand = inl refl
value_shown t s c x m entry l (Ref r) w operand = operand_shown t s c x m entry l r w operand

-- ---- the exchange succeeds

-- no name is retired twice by it, since the text is proper
once_after : (t : Plan) (s : Shared) (c : ℕ) (x : Caller) (m : Trail t) (entry : CasEntry) (l : ℕ) (after : Memory) → Reads t s c x m (instr.Cas entry l) → Stands t x m → exchange t.text.fields entry m.mirror s.source ≡ Some after
    → StaysProper t.text c (point s x) → IsOnce after.retired
once_after t s c x m entry l after w st some stays =
    let next : Spot = record { at = x.entry.hand.at + 1; registers = x.entry.hand.registers } in
    let turn = turns t s c 0 x m (instr.Cas entry l) 0 next m.mirror (erasing w.plan.compiled) w.walks st (exchange_makes t s c x m entry l after w some) in
    let q = played t.text c Accesses (point s x) in
    let proper : IsProperPoint t.text q = stays (Accesses ∷ []) q (makes Accesses [] (point s x) q turn.enabled (done q)) in
    let place = source_place (code_in m.walk.method) in
    subst IsOnce (ap (λ (memory : Memory). memory.retired) (turn.memory ∙ ap (λ (o : Option Memory). (auxiliary o s.source (place x.entry.hand.at) (place l) m.mirror).memory) some)) proper.once

-- what stands before an auxiliary exchange
record Tries (t : Plan) (s : Shared) (c : ℕ) (x : Caller) (m : Trail t) (entry : CasEntry) (l : ℕ) : Type 0 where
  reads : Reads t s c x m (instr.Cas entry l)
  stands : Stands t x m
  guards : Guards t x m
  offers : Offers t s c x.entry.hand.registers m.mirror entry
  proper : StaysProper t.text c (point s x)

tried : (t : Plan) (s : Shared) (c : ℕ) (x : Caller) (m : Trail t) (entry : CasEntry) (l : ℕ) (after : Memory) → Tries t s c x m entry l → exchange t.text.fields entry m.mirror s.source ≡ Some after → Tried t s c x.entry.hand.registers m.mirror entry 0 after
tried t s c x m entry l after w some =
    let r = w.reads in
    record {
      null = r.plan.null;
      shared_holds = r.shared_holds;
      offers = w.offers;
      right = kind_right m.walk.method (erasing r.plan.compiled) x.entry.hand.at (instr.Cas entry l) r.here;
      publishes = inl refl;
      known = shown_kept s (published_if t s 0) (name_in (value_in m.mirror entry.replacement)) (public_still t s 0) (value_shown t s c x m entry l entry.replacement r (replacement_at entry.place entry));
      object = λ q f is. operand_shown t s c x m entry l q r (object_is (Ref q) f entry is);
      kin = (instructions_are_in_form t.target t.text r.plan.compiled.normal r.plan.compiled.barred.erases m.walk.method x.entry.hand.at (instr.Cas entry l) r.here).retired;
      makes = some;
      once = once_after t s c x m entry l after r w.stands some w.proper;
    }

-- it publishes nothing
succeeded : (t : Plan) (s s' : Shared) (c : ℕ) (x : Caller) (m : Trail t) (entry : CasEntry) (l : ℕ) (after : Memory) → Tries t s c x m entry l → exchange t.text.fields entry m.mirror s.source ≡ Some after → Done t s s' c x.entry.hand.registers m.mirror entry 0 → Succeeds t s s' c x m entry l
succeeded t s s' c x m entry l after w some d = record {
  reads = w.reads;
  stands = w.stands;
  guards = w.guards;
  offers = w.offers;
  makes = d.makes;
  shared_holds = d.shared_holds;
  goes = d.goes;
  keeps = record {
    left = d.left;
    hazard = d.hazard;
    tag = λ n p is. sym (ap (λ (f : ℕ → Option ℕ). f n) d.tag) ∙ is;
    present = λ j. ap (λ (f : ℕ → ℕ). f j) d.present;
    owns = λ j k own. d.owns j k (λ never. absurd (never refl)) own;
  };
  unused = d.unused;
  memory = d.memory ∙ sym (words_written t s c x.entry.hand.registers m.mirror entry w.offers (tests_agree t s c x.entry.hand.registers m.mirror entry w.reads.plan.null w.reads.shared_holds w.offers ∙ ap is_some some));
  retires = d.retires;
}

-- ---- the whole step

pub cas_step : (t : Plan) (c : ℕ) (s : Shared) (x : Caller) (entry : CasEntry) (l : ℕ) → AtPlain t c s x (instr.Cas entry l) → PlainKept t c s x (instr.Cas entry l) (plain_wanted t.target.fields (instr.Cas entry l) x.entry.hand.registers)
cas_step t c s x entry l w = by_result (exchange t.text.fields entry m.mirror s.source) refl where
  run : Running t s c x (spot_of x.entry.hand)
  run = running_at t c s x (instr.Cas entry l) w

  m : Trail t
  m = run.0

  here : slice_get (code_in run.0.walk.method) x.entry.hand.at ≡ Some (Plain (instr.Cas entry l))
  here = code_at t c s x (instr.Cas entry l) w

  offered : Offers t s c x.entry.hand.registers run.0.mirror entry
  offered = offers t s c x run.0 (instr.Cas entry l) 0 entry (record {
    plan = w.plan;
    shared_holds = w.shared_holds;
    base = w.caller_holds.base;
    walks = run.1;
    guards = run.4;
    here = here;
    one = refl;
    right = kind_right run.0.walk.method (erasing w.plan.compiled) x.entry.hand.at (instr.Cas entry l) here;
    own = λ r operand. operand_is_own t run.0 x.entry.hand.at entry l r (erasing w.plan.compiled) run.1.ahead.path_is here operand;
    proper = w.proper [] (point s x) (done (point s x));
    asked = asked_at t c s x (instr.Cas entry l) w refl;
  })

  tries : Tries t s c x run.0 entry l
  tries = record {
    reads = record { plan = w.plan; shared_holds = w.shared_holds; base = w.caller_holds.base; walks = run.1; gets = run.3; here = here };
    stands = run.2;
    guards = run.4;
    offers = offered;
    proper = w.proper;
  }

  by_result : (o : Option Memory) → exchange t.text.fields entry run.0.mirror s.source ≡ o → PlainKept t c s x (instr.Cas entry l) (plain_wanted t.target.fields (instr.Cas entry l) x.entry.hand.registers)
  by_result None none = failure_kept t c s x entry l w.plan w.shared_holds w.caller_holds.base run here offered none
  by_result (Some after) some = by_retirement t s c x.entry.hand.registers run.0.mirror entry 0 after (tried t s c x run.0 entry l after tries some) (λ j. PlainKept t c s x (instr.Cas entry l) (plain_wanted t.target.fields (instr.Cas entry l) x.entry.hand.registers))
      (λ s' d none. success_kept t c s s' x run.0 entry l (succeeded t s s' c x run.0 entry l after tries some d) none)
      (λ s' j n d retiring slot. success_retires t c s s' x run.0 entry l j n (succeeded t s s' c x run.0 entry l after tries some d) slot retiring)

-- each plain instruction with an access of its own
pub plain_step : (t : Plan) (c : ℕ) (s : Shared) (x : Caller) (i : Instr) → AtPlain t c s x i → PlainKept t c s x i (plain_wanted t.target.fields i x.entry.hand.registers)
plain_step t c s x (instr.LoadRoot d z) w = load_at t c s x (instr.LoadRoot d z) d _ w refl refl
plain_step t c s x (instr.LoadPick d z n a) w = load_at t c s x (instr.LoadPick d z n a) d _ w refl refl
plain_step t c s x (instr.LoadField d a f) w = load_at t c s x (instr.LoadField d a f) d _ w refl refl
plain_step t c s x (instr.Put a f b) w = put_step t c s x a b f w
plain_step t c s x (instr.Cas entry l) w = cas_step t c s x entry l w
plain_step t c s x _ w = tt
