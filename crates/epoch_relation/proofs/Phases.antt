-- The phase is loaded and announced, and the announcement is withdrawn when the call ends.
use Rattle.std.proofs.Common.{ℕ, ◌≡◌, ◌≢◌, ◌==◌, ◌≤◌, ◌<◌, ◌∙◌, Bool, true, false, List, [], ◌∷◌, Option, Some, None, arith, inl, ⊎_elim, sym, ap, refl}
use Rattle.std.specs.Prelude.{slice_get, option_map}
use Rattle.std.proofs.lemmas.List.{map-append}
use Rattle.std.proofs.lemmas.Option.{slice_get-map}
use Rattle.std.proofs.lemmas.Bool.Decides.{eqb_tells}
use Rattle.norm_lang.specs.declared.text.Op.{Op}
use Rattle.norm_lang.specs.declared.text.Text.{Text}
use Rattle.norm_lang.specs.declared.text.Reg.{Reg}
use Rattle.norm_lang.specs.declared.text.Reg.TheVariants.{Num, Ref}
use Rattle.norm_lang.specs.Local.{Spot}
use Rattle.norm_lang.specs.Registers.{first_registers}
use Rattle.target_code.specs.declared.target.TargetOp.{TargetOp}
use Rattle.target_code.specs.Erasing.{erased_op}
use Rattle.oa_words.specs.Words.{Word, Phase, Warning}
use Rattle.oa_words.specs.Memories.{store}
use Rattle.target_laws.specs.Methods.{Method}
use Rattle.source_machine.specs.declared.event.SourceEvent.TheVariants as events
use Rattle.norm_lang.specs.declared.reply.SourceReply.{SourceReply}
use Rattle.source_machine.specs.declared.state.SourceCaller.{SourceCaller}
use Rattle.source_machine.specs.MethodRuns.{run_begun, run_after}
use Rattle.source_machine.specs.Run.{is_call_of, is_enabled_for}
use Rattle.source_machine.specs.Step.{begun, caller_turn, generator_at}
use Rattle.caller_parts.specs.Calls.{is_call, is_call_of as is_core_call_of}
use Rattle.caller_parts.specs.Pairing.{replied_by, reply_of}
use Rattle.caller_parts.specs.declared.routine.AnnounceReason.{AnnounceReason}
use Rattle.caller_parts.specs.declared.routine.AnnounceReason.TheVariants.{Begin, Again, Swept}
use Rattle.caller_parts.specs.declared.routine.Announcing.TheVariants as announces
use Rattle.caller_parts.specs.declared.routine.Routine.TheVariants.{Announces}
use Rattle.caller_steps.specs.Entries.{Entry}
use Rattle.caller_steps.specs.After.{counted, with_routine, with_hand, generator_begun, announced_sign, accepted, replied}
use Rattle.caller_parts.specs.declared.setting.Reclamation.TheVariants.{Epochs}
use Rattle.run_ahead.specs.Agreeing.{Agree}
use Rattle.run_ahead.specs.Standing.{Call, caller_of, running_of, run_from, first_spot, begins_at, stands_at}
use Rattle.run_ahead.specs.Following.{generator_walk}
use Rattle.run_ahead.proofs.Enabled.{restart_is_enabled, generator_inside}
use Rattle.run_ahead.proofs.Standing.{generator_restarts}
use Rattle.run_ahead.proofs.Starting.{null_at, first_is_blank}
use Rattle.run_ahead.proofs.Watched.{begin_run, restart_run}
use Rattle.oa_simulation.specs.sim_relation.Views.{Plan, Shared, link}
use Rattle.oa_simulation.specs.sim_relation.Callers.{call_of}
use Rattle.oa_simulation.specs.sim_relation.Points.{done, event_of, unused_after}
use Rattle.oa_simulation.proofs.sim_relation.Playing.{plays_first}
use Rattle.oa_simulation.proofs.sim_relation.Words.{store_idle}
use Rattle.epoch_relation.specs.Reckoned.{EpochHolds}
use Rattle.epoch_relation.specs.Callers.{Caller, Base}
use Rattle.epoch_relation.specs.Walking.{IsPlan, Trail, IsIdle, HasReplied, BeginsAt, IsLoaded}
use Rattle.epoch_relation.specs.Keeping.{point_at, KeptWith, Ends, Comes}
use Rattle.epoch_relation.proofs.Announcing.{owned, since_now, fine_owned, goes_owned, base_announced}
use Rattle.run_ahead.proofs.Getting.{start_got}
use Rattle.epoch_relation.proofs.Sweeping.{changes_same}
use Rattle.epoch_relation.proofs.Moving.{becomes, base_changed}
use Rattle.epoch_relation.proofs.Settling.{null_link, settles_ends}

-- ---- the load

pub phase_loaded : (t : Plan) (c : ℕ) (s : Shared) (since : ℕ → ℕ) (x : Caller) (why : AnnounceReason) → EpochHolds t s since → Base t s since c x → BeginsAt t x why
    → KeptWith t c s since x (store s.memory Phase (s.memory Phase)) (accepted Epochs t.target t.setting (s.memory Phase) (counted x.entry) (Announces (announces.Loads why))) s.present
phase_loaded t c s since x why f b w = record {
  s' = s;
  since' = since;
  x' = becomes x (with_routine (counted x.entry) (Announces (announces.Stores why (s.memory Phase))));
  memory = store_idle s.memory Phase;
  present = refl;
  entry = refl;
  plays = done _;
  shared_holds = f;
  goes = changes_same t s since c;
  caller_holds = record { base = base_changed t s since c x _ x.source x.watch refl refl b; spot = (begins why w, (f.begun, omega arith)) };
} where
  begins : (why : AnnounceReason) → BeginsAt t x why → BeginsAt t (becomes x (with_routine (counted x.entry) (Announces (announces.Stores why (s.memory Phase))))) why
  begins Begin w = w
  begins _ w = w

-- ---- the method run that the store begins

pub record Renewed (t : Plan) (s : Shared) (c : ℕ) (x : Caller) (why : AnnounceReason) : Type 0 where
  pub method : Method t.target t.text
  pub number : (call_of x.entry).number ≡ method.number
  pub enabled : is_enabled_for t.text (event_of c s.unused (announced_sign why (counted x.entry))) (Some x.source) s.source ≡ true
  pub turns : caller_turn t.text (event_of c s.unused (announced_sign why (counted x.entry))) s.source x.source ≡ record { memory = s.source; caller = begins_at method.op false (first_registers (call_of x.entry).args) (call_of x.entry) }
  pub run : run_after t.text (event_of c s.unused (announced_sign why (counted x.entry))) s.source x.source x.watch ≡ run_begun s.source

renewed_begin : (t : Plan) (s : Shared) (c : ℕ) (x : Caller) → IsPlan t → IsIdle x → is_call t.target x.entry.running.call ≡ true → Renewed t s c x Begin
renewed_begin t s c x plan idle is = of (slice_get t.target.ops x.entry.running.call.op) refl where
  of : (o : Option TargetOp) → slice_get t.target.ops x.entry.running.call.op ≡ o → Renewed t s c x Begin
  of None none = absurd (let z : false ≡ true = sym (ap (λ (o : Option TargetOp). is_core_call_of o x.entry.running.call.args) none) ∙ is in cc)
  of (Some compiled) there =
      let in_text : slice_get t.text.ops x.entry.running.call.op ≡ Some (erased_op compiled) =
      ap (λ (text : Text). slice_get text.ops x.entry.running.call.op) (sym plan.erases)
      ∙ (slice_get-map erased_op t.target.ops x.entry.running.call.op ∙ ap (option_map erased_op) there) in
      let call : Call = call_of x.entry in
      let right : is_call_of (slice_get t.text.ops call.number) call.args ≡ true = ap (λ (o : Option Op). is_call_of o x.entry.running.call.args) in_text
      ∙ (sym (ap (λ (o : Option TargetOp). is_core_call_of o x.entry.running.call.args) there) ∙ is) in
      record {
        method = record { number = x.entry.running.call.op; wrapup = false; op = erased_op compiled; compiled = compiled; in_text = in_text; in_target = there };
        number = refl;
        enabled = ap (λ (caller : SourceCaller). is_enabled_for t.text (events.Begin c call.number call.args) (Some caller) s.source) idle ∙ right;
        turns = ap (λ (caller : SourceCaller). caller_turn t.text (events.Begin c call.number call.args) s.source caller) idle
            ∙ ap (λ o. record { memory = s.source; caller = begun o call.number call.args (caller_of call) }) in_text;
        run = begin_run t.text c call.number call.args s.source x.source x.watch;
      }

-- a generator begins again
renewed_generator : (t : Plan) (s : Shared) (c : ℕ) (x : Caller) (method : Method t.target t.text) (accessed : Bool) (started : _) (there : Spot) → (call_of x.entry).number ≡ method.number → x.source ≡ stands_at method.op false started accessed (call_of x.entry) there
    → (is_enabled_for t.text (events.Restart c) (Some x.source) s.source ≡ true)
    × (caller_turn t.text (events.Restart c) s.source x.source ≡ record { memory = s.source; caller = begins_at method.op false (first_registers (call_of x.entry).args) (call_of x.entry) })
    × (run_after t.text (events.Restart c) s.source x.source x.watch ≡ run_begun s.source)
renewed_generator t s c x method accessed started there number stands =
    let call : Call = call_of x.entry in
    let op : slice_get t.text.ops call.number ≡ Some method.op = ap (slice_get t.text.ops) number ∙ method.in_text in
    let turn = ap (λ (caller : SourceCaller). caller_turn t.text (events.Restart c) s.source caller) stands ∙ generator_restarts t.text c method.op started accessed call there s.source op in (
      ap (λ (caller : SourceCaller). is_enabled_for t.text (events.Restart c) (Some caller) s.source) stands
          ∙ restart_is_enabled t.text c method.op (generator_at method.op there (running_of call)) (caller_of call) s.source op (generator_inside (slice_get method.op.generator there.at) there.at),
      turn,
      restart_run t.text c s.source x.source x.watch ∙ ap (λ turn. run_begun turn.memory) turn,
    )

pub renewed : (t : Plan) (s : Shared) (c : ℕ) (x : Caller) (why : AnnounceReason) → IsPlan t → is_call t.target x.entry.running.call ≡ true → BeginsAt t x why → Renewed t s c x why
renewed t s c x Begin plan is w = renewed_begin t s c x plan w is
renewed t s c x Again plan is w =
    let r = renewed_generator t s c x w.0 false (first_registers (call_of x.entry).args) (run_from w.0.op false (first_spot (first_registers (call_of x.entry).args))) w.1 w.2 in
    record { method = w.0; number = w.1; enabled = r.0; turns = r.1; run = r.2 }
renewed t s c x Swept plan is w =
    let r = renewed_generator t s c x w.0 x.entry.hand.accessed w.2 w.1 w.5 w.7 in
    record { method = w.0; number = w.5; enabled = r.0; turns = r.1; run = r.2 }

-- ---- the store of an announcement

own_word : (memory : Word → ℕ) (c p : ℕ) → store memory (Warning c) p (Warning c) ≡ p
own_word memory c p = ⊎_elim (λ (e : ((c == c) ≡ true) × (c ≡ c)). rw e.0 refl) (λ (e : ((c == c) ≡ false) × (c ≢ c)). absurd (e.1 refl)) (eqb_tells c c)

pub phase_announced : (t : Plan) (c : ℕ) (s : Shared) (since : ℕ → ℕ) (x : Caller) (why : AnnounceReason) (p : ℕ) → IsPlan t → EpochHolds t s since → Base t s since c x → c < t.setting.sizes.callers → IsLoaded s p → Renewed t s c x why
    → KeptWith t c s since x (store s.memory (Warning x.entry.number) p) (accepted Epochs t.target t.setting (s.memory (Warning x.entry.number)) (counted x.entry) (Announces (announces.Stores why p))) s.present
phase_announced t c s since x why p plan f b below loaded w = record {
  s' = s';
  since' = since_now s since c;
  x' = ended.x';
  memory = ap (λ (d : ℕ). store s.memory (Warning d) p) (sym b.number);
  present = refl;
  entry = ended.entry;
  plays = plays_first t.text c (announced_sign why (counted x.entry)) _ (point_at s x) (point_at s' y) (point_at s' ended.x') (w.enabled, (sym (ap (λ turn. turn.memory) w.turns), sym (ap (λ turn. turn.caller) w.turns), sym w.run)) (unused why) ended.plays;
  shared_holds = fine_owned t s since c p loaded.1 f;
  goes = goes_owned t s since c p f;
  caller_holds = ended.caller_holds;
} where
  s' : Shared
  s' = owned s c p

  call : Call
  call = call_of x.entry

  e : Entry
  e = with_hand (counted x.entry) (record x.entry.hand { wrapup = false; accessed = false })

  y : Caller
  y = record { entry = e; old = s.source.retired; source = begins_at w.method.op false (first_registers call.args) call; watch = run_begun s.source }

  m : Trail t
  m = record { walk = generator_walk w.method call; path = []; mirror = first_registers call.args }

  spot : Spot
  spot = record { at = 0; registers = first_registers call.args }

  agree : (r : Reg) → Agree t.home (first_registers call.args) (first_registers call.args) r
  agree (Num r) = refl
  agree (Ref r) = (ap (λ z. z.node) (null_at call.args r) ∙ (sym plan.null ∙ ap (λ z. t.home z.node) (sym (null_at call.args r))), refl)

  comes : Comes t s' (since_now s since c) c y spot m
  comes = record {
    plan = plan;
    holds = fine_owned t s since c p loaded.1 f;
    base = base_announced t s since c p x y f b refl refl refl;
    below = below;
    announced = λ z. (let some : 1 ≤ p = loaded.0 in let is : p ≡ 0 = sym (own_word s.memory c p) ∙ z in omega (arith, some, is));
    walks = record {
      call = refl;
      wrapup = refl;
      number = w.number;
      generator = λ gen. refl;
      path_is = refl;
      sized = (refl, refl);
      agree = agree;
      safe = λ r. inl (first_is_blank call.args r);
      fresh = λ gen r is. absurd (let z : false ≡ true = is in cc);
      shown = λ gen r is. inl (first_is_blank call.args r);
    };
    gets = record {
      got = start_got m.walk.method m.walk.started;
      made = λ n k got. absurd (let z : false ≡ true = got in cc);
      safe = λ n got. absurd (let z : false ≡ true = got in cc);
      known = λ wrap n got. absurd (let z : false ≡ true = got in cc);
      older = λ n is. is;
    };
    pairs = λ gen r e g same. ap (λ (n : ℕ). link s n g) (first_is_blank call.args r) ∙ (null_link t s since g f ∙ sym (first_is_blank call.args e));
  }

  ended : Ends t s' (since_now s since c) c y (generator_begun t.target t.setting.sizes (counted x.entry))
  ended = settles_ends t s' (since_now s since c) c y spot m comes refl

  unused : (why : AnnounceReason) → s.unused ≡ unused_after (announced_sign why (counted x.entry)) s.unused
  unused Begin = refl
  unused _ = refl

-- ---- the end of the call

-- a caller that has announced nothing
pub base_withdrawn : (t : Plan) (s : Shared) (since : ℕ → ℕ) (c : ℕ) (x : Caller) → Base t s since c x → Base t (owned s c 0) (since_now s since c) c x
base_withdrawn t s since c x b = record {
  number = b.number;
  old = λ some. absurd (some (own_word s.memory c 0));
  before = b.before;
  cradle = b.cradle;
}

pub call_ended : (t : Plan) (c : ℕ) (s : Shared) (since : ℕ → ℕ) (x : Caller) (reply : SourceReply) → EpochHolds t s since → Base t s since c x → HasReplied x reply
    → KeptWith t c s since x (store s.memory (Warning x.entry.number) 0) (accepted Epochs t.target t.setting (s.memory (Warning x.entry.number)) (counted x.entry) (Announces (announces.Leaves reply))) s.present
call_ended t c s since x reply f b w = record {
  s' = owned s c 0;
  since' = since_now s since c;
  x' = becomes x (replied reply (counted x.entry));
  memory = ap (λ (d : ℕ). store s.memory (Warning d) 0) (sym b.number);
  present = refl;
  entry = refl;
  plays = done _;
  shared_holds = fine_owned t s since c 0 (omega arith) f;
  goes = goes_owned t s since c 0 f;
  caller_holds = record {
    base = base_changed t (owned s c 0) (since_now s since c) c x _ x.source x.watch refl refl (base_withdrawn t s since c x b);
    spot = w ∙ ap (λ (rs : List SourceReply). record { replies = rs; running = None }) (sym (map-append reply_of x.entry.replies (replied_by reply (counted x.entry).running ∷ [])));
  };
}
