-- A list has ended: the wrap-up begins, with the registers and the kept guards of the commit.
use Rattle.std.proofs.Common.{ℕ, ◌≡◌, ◌∙◌, ◌||◌, not, Bool, true, false, List, ◌∷◌, Some, inl, inr, ⊎_elim, ◌⊎◌, if◌then◌else◌, [], sym, ap, subst, refl}
use Rattle.std.specs.Prelude.{slice_get}
use Rattle.norm_lang.specs.declared.text.CasEntry.{CasEntry}
use Rattle.norm_lang.specs.declared.text.Instr.TheVariants as instr
use Rattle.norm_lang.specs.declared.text.Reg.TheVariants.{Ref}
use Rattle.norm_lang.specs.Registers.{with_count, node_in}
use Rattle.target_code.specs.declared.target.TargetInstr.TheVariants.{Plain}
use Rattle.target_code.proofs.Keeping.{keeps_is_kept}
use Rattle.source_machine.specs.Proper.{runs_method}
use Rattle.caller_steps.specs.After.{list_ended, wrap_up_hand}
use Rattle.run_ahead.specs.Ahead.{erasing, Ahead}
use Rattle.target_laws.specs.Methods.{code_in}
use Rattle.run_ahead.specs.Known.{is_set_in}
use Rattle.run_ahead.specs.Following.{Walk, wrapup_walk}
use Rattle.target_laws.proofs.FreshRules.{kept_are_not_fresh}
use Rattle.target_laws.proofs.Used.{validated_where_needed}
use Rattle.run_ahead.proofs.Starting.{wrapup_start}
use Rattle.run_ahead.specs.Guards.{GuardStands}
use Rattle.caller_steps.specs.Signs.{Accesses, quiet, told}
use Rattle.target_code.specs.Erasing.{source_place}
use Rattle.source_machine.specs.declared.event.SourceEvent.TheVariants as events
use Rattle.source_machine.specs.Step.{caller_turn}
use Rattle.source_machine.specs.Run.{is_enabled_for}
use Rattle.source_machine.specs.MethodRuns.{run_begun, run_after}
use Rattle.run_ahead.specs.MethodLaws.{Turns}
use Rattle.run_ahead.specs.Standing.{stands_in_list, wrap_up_after}
use Rattle.run_ahead.proofs.Lists.{lists_are_made}
use Rattle.oa_simulation.specs.sim_relation.Shared.{SharedHolds}
use Rattle.oa_simulation.specs.sim_relation.Points.{point}
use Rattle.oa_simulation.proofs.sim_relation.Playing.{plays_first}
use Rattle.oa_simulation.proofs.sim_relation.Moving.{base_begun, names_settle}
use Rattle.oa_simulation.proofs.sim_steps.Walks.Quieting.{sane_here, commits_in_generator, commit_source}
use Rattle.caller_parts.specs.declared.routine.AfterClear.TheVariants as clears
use Rattle.oa_simulation.specs.sim_relation.Views.{Plan, IsPlan, Shared, Caller, settled_names}
use Rattle.oa_simulation.specs.sim_relation.Callers.{Calm, Base, Trail, Walks, Stands, Gets, Guards, Begins, Committed, Tied, spot_of}
use Rattle.oa_simulation.specs.sim_relation.Steps.{Ends}
use Rattle.oa_simulation.proofs.sim_relation.Moving.{base_settled, settled_is}
use Rattle.oa_simulation.proofs.sim_steps.Walks.Beginning.{cleared_wrap_up, ends_from, over_after}

-- guards that no check validated lose their names, and kept ones stay
pub kept_settled : (t : Plan) (x : Caller) (walk : Walk t.target t.text) (r n : ℕ) → (x.names.name r ≡ n) × ((x.names.valid r ≡ true) ⊎ (x.names.name r ≡ 0))
    → ((settled_names x.names).name r ≡ n) × ((x.names.valid r ≡ true) ⊎ ((settled_names x.names).name r ≡ 0))
kept_settled t x walk r n k = ⊎_elim
    (λ (v : x.names.valid r ≡ true). (rw v k.0, inl v))
    (λ (z : x.names.name r ≡ 0). (null_of (x.names.valid r) (x.names.name r) z ∙ (sym z ∙ k.0), inr (null_of (x.names.valid r) (x.names.name r) z)))
    k.1
  where
    null_of : (v : Bool) (i : ℕ) → i ≡ 0 → (if v then i else 0) ≡ 0
    null_of true i z = z
    null_of false i z = refl

-- the caller whose wrap-up is about to begin
abbrev pub wrapped : Caller → ℕ → Caller
wrapped x made = record x { names = settled_names x.names; entry = record x.entry { hand = wrap_up_hand made x.entry.hand } }

pub committed_begins : (t : Plan) (s : Shared) (c : ℕ) (x : Caller) (made : ℕ) (entries : List CasEntry) → IsPlan t → (w : Committed t s c x made)
    → slice_get (code_in w.0.walk.method) x.entry.hand.at ≡ Some (Plain (instr.Commit entries))
    → Begins t s c (wrapped x made) (wrapup_walk w.0.walk.method w.0.walk.call (with_count x.entry.hand.registers made) (with_count w.0.mirror made))
committed_begins t s c x made entries plan w is = record {
  call = w.1.call;
  first = refl;
  number = w.1.number;
  generator = λ gen. absurd (let z : true ≡ false = gen in cc);
  stands = w.4;
  got = w.6;
  settled = λ r invalid. settled_is x r invalid;
  start = wrapup_start w.0.walk.method t.home (Calm s c x) w.0.path (spot_of x.entry.hand) w.0.mirror w.0.there entries made plan.compiled
      (ap (λ (b : Bool). slice_get (code_in (record w.0.walk.method { wrapup = b })) x.entry.hand.at) (sym w.3) ∙ is)
      (subst (λ (b : Bool). Ahead (record w.0.walk.method { wrapup = b }) t.home (Calm s c x) w.0.path (spot_of x.entry.hand) w.0.mirror w.0.there) w.3 w.1.ahead);
  kept = λ r kept. kept_settled t x w.0.walk r (node_in w.0.mirror r) (subst (λ state. GuardStands state w.0.mirror x.names r)
      (validated_where_needed t.target t.text plan.compiled.barred w.0.walk.method w.0.path x.entry.hand.at (Plain (instr.Commit entries)) (Ref r) (record { leads = w.1.ahead.path_is; stands = is })
      (inr (refl, (keeps_is_kept w.0.walk.method.op (Ref r)).0 kept)))
      (w.2 r (ap (λ (b : Bool). not b || is_set_in w.0.walk.method w.0.path r) w.3)));
  shown = λ r kept. w.7 r (kept_are_not_fresh t.target t.text plan.compiled.normal plan.compiled.barred.erases w.0.walk.method w.0.path x.entry.hand.at entries (Ref r)
      (record { leads = w.1.ahead.path_is; stands = is }) ((keeps_is_kept w.0.walk.method.op (Ref r)).0 kept));
  tied = tie (runs_method (Some x.source)) refl;
} where
  tie : (b : Bool) → runs_method (Some x.source) ≡ b → Tied x
  tie true runs = inl (runs, w.5)
  tie false runs = inr (runs, w.6)

-- a list has ended, so many exchanges having succeeded
pub list_ends : (t : Plan) (s : Shared) (c : ℕ) (x : Caller) (made : ℕ) (entries : List CasEntry) → IsPlan t → Base t s c x → (w : Committed t s c x made)
    → slice_get (code_in w.0.walk.method) x.entry.hand.at ≡ Some (Plain (instr.Commit entries)) → Ends t s c x (quiet (list_ended t.target t.setting.sizes made x.entry))
list_ends t s c x made entries plan b w is =
    let b' = base_settled t s c x b in
    ends_from t s c x (wrapped x made) _ refl refl refl (names_settle x.names _ (over_after t.target t.setting.sizes clears.WrapUp (wrapped x made).entry refl))
    (cleared_wrap_up t s c (wrapped x made) (wrapup_walk w.0.walk.method w.0.walk.call (with_count x.entry.hand.registers made) (with_count w.0.mirror made)) plan.compiled.barred.erases
    (record { number = b'.number; seen = b'.seen; old = b'.old; hazard = b'.hazard; protects = b'.protects; known = b'.known; cradle = b'.cradle })
    refl (committed_begins t s c x made entries plan w is))

-- an empty list ends with an access of the source's own
pub empty_list_ends : (t : Plan) (s : Shared) (c : ℕ) (x : Caller) (m : Trail t) → IsPlan t → SharedHolds t s → Base t s c x → Walks t s c x (spot_of x.entry.hand) m → Stands t x m → Gets t s c x m → Guards t x m
    → slice_get (code_in m.walk.method) x.entry.hand.at ≡ Some (Plain (instr.Commit [])) → Ends t s c x (told (Accesses ∷ []) (quiet (list_ended t.target t.setting.sizes 0 x.entry)))
empty_list_ends t s c x m plan f b w stands gets guards is = record {
  x' = ended.x';
  entry = ended.entry;
  names = ended.names;
  was_set = ended.was_set;
  caller_holds = ended.caller_holds;
  plays = plays_first t.text c Accesses [] (point s x) (point s y) (point s ended.x')
      (ap (λ caller. is_enabled_for t.text (events.Access c 0) (Some caller) s.source) source ∙ turns.enabled, (sym (ap (λ turn. turn.memory) turned), refl, refl)) refl ended.plays;
} where
  gen : m.walk.method.wrapup ≡ false
  gen = commits_in_generator m.walk.method.wrapup [] (sane_here t s c x (spot_of x.entry.hand) m (Plain (instr.Commit [])) plan.sane w is).own.form.own_end

  source : x.source ≡ stands_in_list (source_place (code_in m.walk.method) x.entry.hand.at) [] 0 m.mirror m.walk.call
  source = commit_source t s c x m [] (erasing plan.compiled) w stands is gen

  turns : Turns t.text (events.Access c 0) s.source (stands_in_list (source_place (code_in m.walk.method) x.entry.hand.at) [] 0 m.mirror m.walk.call) (record { memory = s.source; caller = wrap_up_after m.walk.method.op 0 m.mirror m.walk.call })
  turns = (lists_are_made t.text c m.walk.method.op (source_place (code_in m.walk.method) x.entry.hand.at) [] 0 m.mirror m.walk.call s.source (ap (slice_get t.text.ops) w.number ∙ m.walk.method.in_text)).ends refl

  turned : caller_turn t.text (events.Access c 0) s.source x.source ≡ record { memory = s.source; caller = wrap_up_after m.walk.method.op 0 m.mirror m.walk.call }
  turned = ap (λ caller. caller_turn t.text (events.Access c 0) s.source caller) source ∙ turns.turns

  y : Caller
  y = record x { held = run_begun s.source; source = (caller_turn t.text (events.Access c 0) s.source x.source).caller; watch = run_after t.text (events.Access c 0) s.source x.source x.watch }

  committed : Committed t s c y 0
  committed = (
    m,
    record { call = w.call; wrapup = w.wrapup; was_set = w.was_set; first = w.first; number = w.number; start = w.start; ahead = w.ahead; generator = w.generator; kept = w.kept; shown = w.shown; sound = w.sound },
    guards,
    gen,
    ap (λ turn. turn.caller) turned,
    sym (ap (λ caller. run_after t.text (events.Access c 0) s.source caller x.watch) source ∙ turns.run x.watch),
    refl,
    gets.shown gen,
  )

  ended : Ends t s c y (quiet (list_ended t.target t.setting.sizes 0 x.entry))
  ended = list_ends t s c y 0 [] plan (base_begun t s c x (caller_turn t.text (events.Access c 0) s.source x.source).caller (run_after t.text (events.Access c 0) s.source x.source x.watch) f b) committed is
