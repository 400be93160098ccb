-- Local code from a spot to where it stops.
use Rattle.std.proofs.Common.{ℕ, zero, suc, ◌≡◌, ◌<◌, ◌∙◌, ◌⊎◌, Bool, true, false, List, [], ◌∷◌, length, Option, Some, arith, inl, inr, sym, ap, subst, refl}
use Rattle.std.specs.Prelude.{slice_get}
use Rattle.norm_lang.specs.declared.text.Reg.{Reg}
use Rattle.norm_lang.specs.declared.text.Reg.TheVariants.{Num}
use Rattle.norm_lang.specs.declared.text.CasEntry.{CasEntry}
use Rattle.norm_lang.specs.declared.text.Instr.{Instr}
use Rattle.norm_lang.specs.declared.text.Instr.TheVariants as instr
use Rattle.norm_lang.specs.Kept.{code_of}
use Rattle.norm_lang.specs.Local.{Spot, local_run}
use Rattle.norm_lang.specs.Registers.{with_count, node_in}
use Rattle.norm_lang.specs.RegisterUse.{same_register}
use Rattle.target_code.specs.declared.target.TargetInstr.{TargetInstr}
use Rattle.target_code.specs.declared.target.TargetInstr.TheVariants.{Plain}
use Rattle.target_code.specs.LocalCode.{target_run}
use Rattle.target_laws.specs.Methods.{code_in, source_in}
use Rattle.source_machine.specs.declared.event.SourceEvent.TheVariants as events
use Rattle.source_machine.specs.Proper.{has}
use Rattle.source_machine.specs.MethodRuns.{MethodRun, run_begun, run_after}
use Rattle.source_machine.specs.Run.{is_enabled_for}
use Rattle.source_machine.specs.Step.{caller_turn, generator_stand, goes_on}
use Rattle.caller_parts.specs.Operands.{list_of}
use Rattle.caller_steps.specs.Signs.{Accesses}
use Rattle.phase_pools.specs.declared.stages.Scheme.TheVariants.{Announced}
use Rattle.caller_parts.specs.declared.routine.Routine.TheVariants.{InList, Zeroes}
use Rattle.caller_steps.specs.Entries.{Entry, instr_in, cradle_of, new_kind, new_number}
use Rattle.caller_steps.specs.Signs.{Moved, quiet, told}
use Rattle.caller_steps.specs.After.{with_routine, with_hand, run_to, wrap_up_stopped, wrap_up_hand, wrap_up_begun, new_on, new_begun, announced_stop, stops, stopped, settles}
use Rattle.caller_parts.specs.declared.setting.Reclamation.TheVariants.{Epochs}
use Rattle.run_ahead.specs.Agreeing.{Agree, Changes}
use Rattle.run_ahead.specs.Known.{AreGot}
use Rattle.run_ahead.specs.MethodLaws.{Turns}
use Rattle.run_ahead.specs.Following.{Walk, wrapup_walk}
use Rattle.run_ahead.specs.Standing.{caller_of, stands_at, running_at, stands_in_list, wrap_up_after}
use Rattle.run_ahead.proofs.Changing.{number_changes, put_same}
use Rattle.run_ahead.proofs.Lists.{lists_are_made}
use Rattle.oa_simulation.specs.sim_relation.Views.{Plan, Shared, Apart, link}
use Rattle.oa_simulation.specs.sim_relation.Callers.{spot_of}
use Rattle.oa_simulation.proofs.sim_relation.Playing.{plays_first, plays_from}
use Rattle.oa_simulation.proofs.sim_steps.Walks.Quieting.{commits_in_generator}
use Rattle.epoch_relation.specs.Reckoned.{EpochHolds}
use Rattle.epoch_relation.specs.Callers.{Caller, Base}
use Rattle.epoch_relation.specs.Walking.{IsPlan, Trail, Walks, Pairs, StandsFrom, StandsAt, Committed}
use Rattle.epoch_relation.specs.Keeping.{point_at, Ends, Comes}
use Rattle.epoch_relation.proofs.Bare.{code_is, in_source}
use Rattle.run_ahead.proofs.Getting.{start_got}
use Rattle.epoch_relation.proofs.Local.{Standing, RunTo, runs_on, safe_apart}
use Rattle.epoch_relation.proofs.Moving.{changed, becomes, base_changed, walks_changed, listed_of, gets_changed, core_code_is, core_instr_is}
use Rattle.epoch_relation.proofs.Stopping.{standing_of, ends_quiet, still, stays, own_end, wrap_up_stop_ends, wrap_up_stops_ends}
use Rattle.std.proofs.lemmas.List.{length-map}

-- ---- pairs, if no register has got a name that none held

pub null_link : (t : Plan) (s : Shared) (since : ℕ → ℕ) (g : ℕ) → EpochHolds t s since → link s 0 g ≡ 0
null_link t s since g f = rw f.holds.store.null_node refl

pub pairs_held : (t : Plan) (s : Shared) (since : ℕ → ℕ) (c : ℕ) (x : Caller) (core : Spot) (m m' : Trail t) → Standing t s since c x → Walks t s c x core m' → ((r : ℕ) → (node_in m'.mirror r ≡ 0) ⊎ ((q : ℕ) × (node_in m'.mirror r ≡ node_in m.mirror q))) → Pairs t s m → Pairs t s m'
pairs_held t s since c x core m m' st w held pairs r e g = from (held r) (held e) where
  placed : (n : ℕ) → (n ≡ 0) ⊎ (s.public n ≡ true) → t.home n ≡ t.home 0 → n ≡ 0
  placed n (inl z) same = z
  placed n (inr public) same = absurd (st.holds.holds.placed n public (same ∙ st.plan.null))

  from : (node_in m'.mirror r ≡ 0) ⊎ ((q : ℕ) × (node_in m'.mirror r ≡ node_in m.mirror q)) → (node_in m'.mirror e ≡ 0) ⊎ ((q : ℕ) × (node_in m'.mirror e ≡ node_in m.mirror q)) → Apart t (link s (node_in m'.mirror r) g) (node_in m'.mirror e)
  from (inl z) other = subst (λ (n : ℕ). Apart t n (node_in m'.mirror e)) (sym (ap (λ (n : ℕ). link s n g) z ∙ null_link t s since g st.holds)) (safe_apart t s since c x 0 (node_in m'.mirror e) st (inl refl) (w.safe e))
  from (inr one) (inl z) = subst (λ (n : ℕ). Apart t (link s (node_in m'.mirror r) g) n) (sym z) (placed (link s (node_in m'.mirror r) g) (st.holds.holds.store.link (node_in m'.mirror r) g))
  from (inr one) (inr other) = subst (λ (n : ℕ). Apart t (link s n g) (node_in m'.mirror e)) (sym one.1) (subst (λ (n : ℕ). Apart t (link s (node_in m.mirror one.0) g) n) (sym other.1) (pairs one.0 other.0 g))

-- ---- local code

pub record Came (t : Plan) (s : Shared) (since : ℕ → ℕ) (c : ℕ) (y : Caller) (walk : Walk t.target t.text) : Type 0 where
  pub m' : Trail t
  pub walk_is : m'.walk ≡ walk
  pub comes : Comes t s since c y (spot_of y.entry.hand) m'
  pub at : StandsAt t y (spot_of y.entry.hand) m' y.entry.hand.accessed

pub comes_to : (t : Plan) (s : Shared) (since : ℕ → ℕ) (c : ℕ) (x : Caller) (core : Spot) (m : Trail t) → Comes t s since c x core m → StandsFrom t x core m x.entry.hand.accessed
    → Came t s since c (becomes x (run_to t.target core x.entry)) m.walk
comes_to t s since c x core m w from = subst (λ (code : List TargetInstr). Came t s since c (becomes x (with_hand x.entry (record x.entry.hand { at = (target_run code (length code) core).at; registers = (target_run code (length code) core).registers }))) m.walk)
    (sym (core_code_is t s c x core m w.walks)) came where
      code : List TargetInstr
      code = code_in m.walk.method

      n : ℕ
      n = length code

      ran : RunTo t s c x n core (target_run code n core) m
      ran = runs_on t s since c x n core m (standing_of t s since c x core m w) w.walks w.gets

      size : length code ≡ length (source_in m.walk.method)
      size = ap (λ (code : List TargetInstr). length code) (code_is w.plan.target_is m.walk.method) ∙ length-map (source_in m.walk.method) Plain

      e : Entry
      e = with_hand x.entry (record x.entry.hand { at = (target_run code n core).at; registers = (target_run code n core).registers })

      y : Caller
      y = becomes x e

      came : Came t s since c (becomes x (with_hand x.entry (record x.entry.hand { at = (target_run code n core).at; registers = (target_run code n core).registers }))) m.walk
      came = record {
        m' = ran.m';
        walk_is = ran.walk;
        comes = record {
          plan = w.plan;
          holds = w.holds;
          base = base_changed t s since c x e x.source x.watch refl refl w.base;
          below = w.below;
          announced = w.announced;
          walks = walks_changed t s c x (target_run code n core) ran.m' e x.source x.watch refl refl ran.walks;
          gets = gets_changed t s c x ran.m' e x.source ran.gets;
          pairs = λ gen. pairs_held t s since c x (target_run code n core) m ran.m' (standing_of t s since c x core m w) ran.walks ran.holds (w.pairs (ap (λ (v : Walk t.target t.text). v.method.wrapup) (sym ran.walk) ∙ gen));
        };
        at = subst (λ (v : Walk t.target t.text). x.source ≡ stands_at v.method.op v.method.wrapup v.started x.entry.hand.accessed v.call (record { at = (target_run code n core).at; registers = ran.m'.mirror })) (sym ran.walk)
            (from ∙ ap (λ (spot : Spot). stands_at m.walk.method.op m.walk.method.wrapup m.walk.started x.entry.hand.accessed m.walk.call spot)
            (ap (λ (k : ℕ). local_run (source_in m.walk.method) k (record { at = core.at; registers = m.mirror })) (sym size) ∙ ran.source));
      }

-- from where the source's caller was
ends_from : (t : Plan) (s : Shared) (since : ℕ → ℕ) (c : ℕ) (x y : Caller) (m : Moved) → point_at s y ≡ point_at s x → Ends t s since c y m → Ends t s since c x m
ends_from t s since c x y m same w = record { x' = w.x'; entry = w.entry; caller_holds = w.caller_holds; plays = plays_from t.text c m.signs (point_at s x) (point_at s y) (point_at s w.x') same w.plays }

-- ---- a list has ended

pub list_ends : (t : Plan) (s : Shared) (since : ℕ → ℕ) (c : ℕ) (x : Caller) (made : ℕ) → IsPlan t → EpochHolds t s since → Base t s since c x → c < t.setting.sizes.callers → Committed t s c x made → Ends t s since c x (wrap_up_begun t.target made x.entry)
list_ends t s since c x made plan f b below w = ends_from t s since c x (becomes y (run_to t.target spot y.entry)) (wrap_up_stopped t.target (run_to t.target spot y.entry)) refl
    (wrap_up_stops_ends t s since c (becomes y (run_to t.target spot y.entry)) came.m' came.comes came.at)
  where
    e : Entry
    e = with_hand x.entry (wrap_up_hand made x.entry.hand)

    y : Caller
    y = becomes x e

    spot : Spot
    spot = record { at = 0; registers = with_count x.entry.hand.registers made }

    m : Trail t
    m = record { walk = wrapup_walk w.0.walk.method w.0.walk.call (with_count x.entry.hand.registers made) (with_count w.0.mirror made); path = []; mirror = with_count w.0.mirror made }

    changes : Changes t.home (λ A. A) (Some (Num 7)) 0 x.entry.hand.registers w.0.mirror (with_count x.entry.hand.registers made) (with_count w.0.mirror made)
    changes = number_changes t.home (λ A. A) x.entry.hand.registers w.0.mirror 7 made made w.1.sized (put_same x.entry.hand.registers w.0.mirror 7 made made w.1.sized refl)

    agree : (r : Reg) (b : Bool) → same_register r (Num 7) ≡ b → Agree t.home (with_count x.entry.hand.registers made) (with_count w.0.mirror made) r
    agree r true count = changes.set r count
    agree r false other = changes.kept r other (w.1.agree r)

    came : Came t s since c (becomes y (run_to t.target spot y.entry)) m.walk
    came = comes_to t s since c y spot m (record {
      plan = plan;
      holds = f;
      base = base_changed t s since c x e x.source x.watch refl refl b;
      below = below;
      announced = w.4;
      walks = record {
        call = w.1.call;
        wrapup = refl;
        number = w.1.number;
        generator = λ gen. absurd (let z : true ≡ false = gen in cc);
        path_is = refl;
        sized = changes.sized;
        agree = λ r. agree r (same_register r (Num 7)) refl;
        safe = w.1.safe;
        fresh = λ gen. absurd (let z : true ≡ false = gen in cc);
        shown = λ gen. absurd (let z : true ≡ false = gen in cc);
      };
      gets = record {
        got = subst (λ (got : List ℕ). AreGot m.walk.method [] m.walk.started m.walk.started got) (sym w.5) (start_got m.walk.method m.walk.started);
        made = λ n k got. absurd (let z : false ≡ true = ap (λ (ns : List ℕ). has n ns) (sym w.5) ∙ got in cc);
        safe = λ n got. absurd (let z : false ≡ true = ap (λ (ns : List ℕ). has n ns) (sym w.5) ∙ got in cc);
        known = λ wrap n got. absurd (let z : false ≡ true = ap (λ (ns : List ℕ). has n ns) (sym w.5) ∙ got in cc);
        older = w.6;
      };
      pairs = λ gen. absurd (let z : true ≡ false = gen in cc);
    }) w.3

-- ---- where local code stops

-- at a commit the source stands before the first exchange
pub commit_source : (t : Plan) (s : Shared) (since : ℕ → ℕ) (c : ℕ) (x : Caller) (m : Trail t) (entries : List CasEntry) → Comes t s since c x (spot_of x.entry.hand) m → StandsAt t x (spot_of x.entry.hand) m x.entry.hand.accessed
    → slice_get (code_in m.walk.method) x.entry.hand.at ≡ Some (Plain (instr.Commit entries)) → m.walk.method.wrapup ≡ false → x.source ≡ stands_in_list x.entry.hand.at entries 0 m.mirror m.walk.call
commit_source t s since c x m entries w at is gen =
    let in_generator : slice_get m.walk.method.op.generator x.entry.hand.at ≡ Some (instr.Commit entries) = ap (λ (b : Bool). slice_get (code_of m.walk.method.op b) x.entry.hand.at) (sym gen) ∙ in_source w.plan.target_is m.walk.method x.entry.hand.at (instr.Commit entries) is in
    at ∙ (ap (λ (b : Bool). stands_at m.walk.method.op b m.walk.started x.entry.hand.accessed m.walk.call (record { at = x.entry.hand.at; registers = m.mirror })) gen
    ∙ ap (λ (o : Option Instr). goes_on (running_at m.walk.call m.mirror (generator_stand o x.entry.hand.at)) (caller_of m.walk.call)) in_generator)

-- an empty list ends with an access of the source's own
empty_list_ends : (t : Plan) (s : Shared) (since : ℕ → ℕ) (c : ℕ) (x : Caller) (m : Trail t) → Comes t s since c x (spot_of x.entry.hand) m → m.walk.method.wrapup ≡ false → x.source ≡ stands_in_list x.entry.hand.at [] 0 m.mirror m.walk.call
    → Ends t s since c x (told (Accesses ∷ []) (wrap_up_begun t.target 0 x.entry))
empty_list_ends t s since c x m w gen source = record {
  x' = ended.x';
  entry = ended.entry;
  caller_holds = ended.caller_holds;
  plays = plays_first t.text c Accesses _ (point_at s x) (point_at s y) (point_at s ended.x')
      (ap (λ caller. is_enabled_for t.text (events.Access c 0) (Some caller) s.source) source ∙ turns.enabled, (sym (ap (λ turn. turn.memory) turned), refl, refl)) refl ended.plays;
} where
  turns : Turns t.text (events.Access c 0) s.source (stands_in_list x.entry.hand.at [] 0 m.mirror m.walk.call) (record { memory = s.source; caller = wrap_up_after m.walk.method.op 0 m.mirror m.walk.call })
  turns = (lists_are_made t.text c m.walk.method.op x.entry.hand.at [] 0 m.mirror m.walk.call s.source (ap (slice_get t.text.ops) w.walks.number ∙ m.walk.method.in_text)).ends refl

  turned : caller_turn t.text (events.Access c 0) s.source x.source ≡ record { memory = s.source; caller = wrap_up_after m.walk.method.op 0 m.mirror m.walk.call }
  turned = ap (λ caller. caller_turn t.text (events.Access c 0) s.source caller) source ∙ turns.turns

  y : Caller
  y = changed x x.entry (caller_turn t.text (events.Access c 0) s.source x.source).caller (run_after t.text (events.Access c 0) s.source x.source x.watch)

  begun : y.watch ≡ run_begun s.source
  begun = ap (λ caller. run_after t.text (events.Access c 0) s.source caller x.watch) source ∙ turns.run x.watch

  committed : Committed t s c y 0
  committed = (
    m,
    listed_of t s c y (spot_of x.entry.hand) m (walks_changed t s c x (spot_of x.entry.hand) m x.entry y.source y.watch refl refl w.walks),
    gen,
    ap (λ turn. turn.caller) turned,
    w.announced,
    ap (λ (run : MethodRun). run.got) begun,
    (λ n old. ap (λ (run : MethodRun). has n run.old) begun ∙ w.base.before n old),
  )

  ended : Ends t s since c y (wrap_up_begun t.target 0 x.entry)
  ended = list_ends t s since c y 0 w.plan w.holds (base_changed t s since c x x.entry y.source y.watch refl refl w.base) w.below committed

-- a `new` begins with its claim, or with its slot's fields
new_ends : (t : Plan) (s : Shared) (since : ℕ → ℕ) (c : ℕ) (x : Caller) (m : Trail t) → Comes t s since c x (spot_of x.entry.hand) m → StandsAt t x (spot_of x.entry.hand) m x.entry.hand.accessed → Ends t s since c x (quiet (new_begun (Announced x.entry.number) t.target t.setting.sizes x.entry))
new_ends t s since c x m w at = of (cradle_of x.entry (new_number t.target x.entry)) refl where
  of : (slot : ℕ) → cradle_of x.entry (new_number t.target x.entry) ≡ slot → Ends t s since c x (quiet (new_on (Announced x.entry.number) t.setting.sizes (new_kind t.target x.entry) (new_number t.target x.entry) slot x.entry))
  of zero none = ends_quiet t s since c x _ w.base (ap Announced w.base.number, tt, still t s since c x m _ w at)
  of (suc j) some = ends_quiet t s since c x (Zeroes (new_number t.target x.entry) 0) w.base ((λ z. let e : suc j ≡ 0 = sym some ∙ z in omega (arith, e)), ((λ none. absurd (omega (arith, none))), (λ g none. absurd (omega (arith, none)))), still t s since c x m (Zeroes (new_number t.target x.entry) 0) w at)

-- where local code stopped
pub stopped_ends : (t : Plan) (s : Shared) (since : ℕ → ℕ) (c : ℕ) (x : Caller) (m : Trail t) → Comes t s since c x (spot_of x.entry.hand) m → StandsAt t x (spot_of x.entry.hand) m x.entry.hand.accessed
    → Ends t s since c x (stopped Epochs t.target t.setting.sizes x.entry)
stopped_ends t s since c x m w at = of (instr_in t.target x.entry) refl where
  by : (i : Instr) → instr_in t.target x.entry ≡ Some (Plain i) → Ends t s since c x (announced_stop t.target t.setting.sizes i x.entry)
  by (instr.New d kind) is = new_ends t s since c x m w at
  by (instr.Commit []) is =
      let there : slice_get (code_in m.walk.method) x.entry.hand.at ≡ Some (Plain (instr.Commit [])) = sym (core_instr_is t s c x (spot_of x.entry.hand) m w.walks) ∙ is in
      let gen : m.walk.method.wrapup ≡ false = commits_in_generator m.walk.method.wrapup [] (own_end t m x.entry.hand.at (instr.Commit []) w.plan there) in
      empty_list_ends t s since c x m w gen (commit_source t s since c x m [] w at there gen)
  by (instr.Commit (exchange ∷ exchanges)) is =
      let there : slice_get (code_in m.walk.method) x.entry.hand.at ≡ Some (Plain (instr.Commit (exchange ∷ exchanges))) = sym (core_instr_is t s c x (spot_of x.entry.hand) m w.walks) ∙ is in
      let gen : m.walk.method.wrapup ≡ false = commits_in_generator m.walk.method.wrapup (exchange ∷ exchanges) (own_end t m x.entry.hand.at (instr.Commit (exchange ∷ exchanges)) w.plan there) in
      ends_quiet t s since c x (InList 0) w.base (
        m,
        listed_of t s c (becomes x (with_routine x.entry (InList 0))) (spot_of x.entry.hand) m (walks_changed t s c x (spot_of x.entry.hand) m (with_routine x.entry (InList 0)) x.source x.watch refl refl w.walks),
        gen,
        commit_source t s since c x m (exchange ∷ exchanges) w at there gen ∙ ap (λ (o : Option TargetInstr). stands_in_list x.entry.hand.at (list_of o) 0 m.mirror m.walk.call) (sym is),
        w.announced,
        w.pairs gen,
      )
  by i is = wrap_up_stop_ends t s since c x m i w at (sym (core_instr_is t s c x (spot_of x.entry.hand) m w.walks) ∙ is)

  of : (o : Option TargetInstr) → instr_in t.target x.entry ≡ o → Ends t s since c x (stops Epochs t.target t.setting.sizes o x.entry)
  of (Some (Plain i)) is = by i is
  of _ is = stays t s since c x m w at

-- local code from a spot, to where it stops
pub settles_ends : (t : Plan) (s : Shared) (since : ℕ → ℕ) (c : ℕ) (x : Caller) (core : Spot) (m : Trail t) → Comes t s since c x core m → StandsFrom t x core m x.entry.hand.accessed → Ends t s since c x (settles Epochs t.target t.setting.sizes core x.entry)
settles_ends t s since c x core m w from =
    let y : Caller = becomes x (run_to t.target core x.entry) in
    let came = comes_to t s since c x core m w from in
    ends_from t s since c x y (settles Epochs t.target t.setting.sizes core x.entry) refl (stopped_ends t s since c y came.m' came.comes came.at)
