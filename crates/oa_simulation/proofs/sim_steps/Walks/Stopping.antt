-- Where local code stops: what the entry comes to want, and where the source stands then.
use Rattle.std.proofs.Common.{ℕ, ◌≡◌, ◌∙◌, false, [], ◌∷◌, length, Option, Some, None, sym, ap, refl}
use Rattle.std.specs.Prelude.{slice_get}
use Rattle.norm_lang.specs.declared.text.Instr.{Instr}
use Rattle.norm_lang.specs.declared.text.Instr.TheVariants as instr
use Rattle.norm_lang.specs.Local.{Spot}
use Rattle.target_code.specs.declared.target.TargetInstr.{TargetInstr}
use Rattle.target_code.specs.declared.target.TargetInstr.TheVariants.{Plain}
use Rattle.target_code.specs.Erasing.{source_place}
use Rattle.caller_parts.specs.declared.routine.Routine.TheVariants.{At, InList, Restarts}
use Rattle.target_code.specs.LocalCode.{target_run}
use Rattle.caller_steps.specs.Entries.{instr_in, code_in as core_code}
use Rattle.caller_parts.specs.Operands.{list_of}
use Rattle.caller_steps.specs.After.{with_routine, plain_stop, stops, stopped, settles}
use Rattle.target_laws.specs.Methods.{code_in}
use Rattle.run_ahead.specs.Standing.{stands_in_list}
use Rattle.norm_lang.specs.Registers.{number_in}
use Rattle.norm_lang.specs.declared.reply.SourceReply.TheVariants as core_replies
use Rattle.caller_steps.specs.Clearing.{restart_next}
use Rattle.caller_steps.specs.After.{restart_on, restarted}
use Rattle.run_ahead.specs.Following.{Walk}
use Rattle.run_ahead.specs.Ahead.{erasing}
use Rattle.oa_simulation.specs.sim_relation.Callers.{Begins}
use Rattle.oa_simulation.proofs.sim_relation.Moving.{begins_moved, same_names}
use Rattle.oa_simulation.proofs.sim_steps.Walks.Beginning.{restarting, begun_spot, begins_running, restart_empty, ends_from}
use Rattle.oa_simulation.proofs.sim_steps.Walks.Quieting.{ends_quiet, cleared_new, sane_here, commits_in_generator, commit_source}
use Rattle.oa_simulation.proofs.sim_steps.Walks.Committing.{empty_list_ends}
use Rattle.oa_simulation.proofs.sim_steps.Walks.Replying.{reply_ends, again_ends}
use Rattle.oa_simulation.specs.sim_relation.Views.{Plan, IsPlan, Shared, Caller}
use Rattle.oa_simulation.specs.sim_relation.Shared.{SharedHolds}
use Rattle.oa_simulation.specs.sim_relation.Callers.{Base, Running, spot_of}
use Rattle.oa_simulation.specs.sim_relation.Steps.{Ends}
use Rattle.oa_simulation.specs.sim_relation.WasSet.{set_begun, set_cleared, set_from, set_restarted}
use Rattle.caller_steps.specs.Signs.{quiet}
use Rattle.oa_simulation.proofs.sim_relation.Moving.{walks_moved, running_moved}
use Rattle.oa_simulation.proofs.sim_steps.Walks.Local.{at_spot, having_set, local_runs}
use Rattle.oa_simulation.proofs.sim_relation.Codes.{instr_is}
use Rattle.caller_parts.specs.declared.setting.Reclamation.TheVariants.{Optimistic}

-- at an instruction that isn't local
pub stopped_ends : (t : Plan) (s : Shared) (c : ℕ) (x : Caller) → IsPlan t → SharedHolds t s → Base t s c x → Running t s c x (spot_of x.entry.hand)
    → Ends t s c x (stopped Optimistic t.target t.setting.sizes x.entry)
stopped_ends t s c x plan f b walk = by_instr (instr_in t.target x.entry) refl where
  here : Ends t s c x (quiet (with_routine x.entry At))
  here = ends_quiet t s c x At b (running_moved t s c x (spot_of x.entry.hand) x.entry.running.steps x.entry.counts At walk)

  by_plain : (i : Instr) → instr_in t.target x.entry ≡ Some (Plain i) → Ends t s c x (plain_stop t.target t.setting.sizes i x.entry)
  by_plain (instr.New d kind) is = cleared_new t s c x b (walk.0, walk.1, walk.2, walk.3)
  by_plain (instr.Commit []) is =
      let at : slice_get (code_in walk.0.walk.method) x.entry.hand.at ≡ Some (Plain (instr.Commit [])) = sym (instr_is t s c x (spot_of x.entry.hand) walk.0 walk.1) ∙ is in
      empty_list_ends t s c x walk.0 plan f b walk.1 walk.2 walk.3 walk.4 at
  by_plain (instr.Commit (exchange ∷ exchanges)) is =
      let at : slice_get (code_in walk.0.walk.method) x.entry.hand.at ≡ Some (Plain (instr.Commit (exchange ∷ exchanges))) = sym (instr_is t s c x (spot_of x.entry.hand) walk.0 walk.1) ∙ is in
      let gen : walk.0.walk.method.wrapup ≡ false = commits_in_generator walk.0.walk.method.wrapup (exchange ∷ exchanges) (sane_here t s c x (spot_of x.entry.hand) walk.0 (Plain (instr.Commit (exchange ∷ exchanges))) plan.sane walk.1 at).own.form.own_end in
      ends_quiet t s c x (InList 0) b (
        walk.0,
        walks_moved t s c x (spot_of x.entry.hand) walk.0 x.entry.running.steps x.entry.counts (InList 0) walk.1,
        walk.4,
        gen,
        commit_source t s c x walk.0 (exchange ∷ exchanges) (erasing plan.compiled) walk.1 walk.2 at gen ∙ ap (λ (o : Option TargetInstr). stands_in_list (source_place (code_in walk.0.walk.method) x.entry.hand.at) (list_of o) 0 walk.0.mirror walk.0.walk.call) (sym is),
        walk.3.shown gen,
      )
  by_plain (instr.Return a) is = reply_ends t s c x walk.0 (instr.Return a) (core_replies.Number (number_in x.entry.hand.registers a)) plan f b walk.1 walk.2 (sym (instr_is t s c x (spot_of x.entry.hand) walk.0 walk.1) ∙ is) refl refl
  by_plain instr.ReturnNone is = reply_ends t s c x walk.0 instr.ReturnNone core_replies.Nothing plan f b walk.1 walk.2 (sym (instr_is t s c x (spot_of x.entry.hand) walk.0 walk.1) ∙ is) refl refl
  by_plain instr.Again is = again_ends t s c x walk.0 plan f b walk.1 walk.2 (sym (instr_is t s c x (spot_of x.entry.hand) walk.0 walk.1) ∙ is)
  by_plain _ is = here

  by_instr : (o : Option TargetInstr) → instr_in t.target x.entry ≡ o → Ends t s c x (stops Optimistic t.target t.setting.sizes o x.entry)
  by_instr (Some (Plain i)) is = by_plain i is
  by_instr _ is = here

-- local code from a spot, to where it stops
pub settles_ends : (t : Plan) (s : Shared) (c : ℕ) (x : Caller) (spot : Spot) → IsPlan t → SharedHolds t s → Base t s c (at_spot x spot) → Running t s c (at_spot x spot) spot
    → Ends t s c (at_spot (having_set x (set_from t.target x.entry x.was_set spot)) (target_run (core_code t.target x.entry) (length (core_code t.target x.entry)) spot)) (settles Optimistic t.target t.setting.sizes spot x.entry)
settles_ends t s c x spot plan f b walk =
    let there = target_run (core_code t.target x.entry) (length (core_code t.target x.entry)) spot in
    stopped_ends t s c (at_spot (having_set x (set_from t.target x.entry x.was_set spot)) there) plan f (record { number = b.number; seen = b.seen; old = b.old; hazard = b.hazard; protects = b.protects; known = b.known; cradle = b.cradle })
    (local_runs t s c x (length (core_code t.target x.entry)) spot plan f walk)

-- after a failed check: guards are cleared, then the method begins again
pub restarted_ends : (t : Plan) (s : Shared) (c : ℕ) (x : Caller) (walk : Walk t.target t.text) → IsPlan t → SharedHolds t s → Base t s c x → walk.method.wrapup ≡ x.entry.hand.wrapup → Begins t s c x walk
    → Ends t s c (having_set x (set_cleared t.target x.entry x.was_set)) (restarted t.target t.setting.sizes x.entry)
restarted_ends t s c x walk plan f b is begins = of (restart_next t.target x.entry) refl where
  of : (o : Option ℕ) → restart_next t.target x.entry ≡ o → Ends t s c (having_set x (set_restarted t.target x.entry x.was_set o)) (restart_on t.target t.setting.sizes o x.entry)
  of None none =
      let spot = begun_spot x.entry.hand.wrapup x.entry in
      let there = target_run (core_code t.target (restarting x x.entry.hand.wrapup).entry) (length (core_code t.target (restarting x x.entry.hand.wrapup).entry)) spot in
      ends_from t s c (having_set x (set_begun t.target x.entry.hand.wrapup x.entry)) (at_spot (having_set (restarting x x.entry.hand.wrapup) (set_begun t.target x.entry.hand.wrapup x.entry)) there) _ refl refl refl (same_names x.names _)
      (settles_ends t s c (restarting x x.entry.hand.wrapup) spot plan f
      (record { number = b.number; seen = b.seen; old = b.old; hazard = b.hazard; protects = b.protects; known = b.known; cradle = b.cradle })
      (begins_running t s c x walk x.entry.hand.wrapup plan.compiled.normal f b is begins (restart_empty t s c x walk x.entry.hand.wrapup plan.compiled.barred.erases is begins none)))
  of (Some r) some = ends_quiet t s c x Restarts b (walk, begins_moved t s c x walk x.entry.running.steps x.entry.counts Restarts begins, is)
