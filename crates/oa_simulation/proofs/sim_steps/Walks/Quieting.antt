-- A caller comes to stand elsewhere, and what is shared stays; a `new`, whose guards are cleared first.
use Rattle.std.proofs.Common.{ℕ, zero, suc, ◌≡◌, ◌∙◌, Bool, true, false, List, Option, Some, None, arith, sym, refl}
use Rattle.std.specs.Prelude.{slice_get}
use Rattle.norm_lang.specs.declared.text.CasEntry.{CasEntry}
use Rattle.norm_lang.specs.declared.text.Instr.TheVariants as instr
use Rattle.norm_lang.specs.InstructionRules.{is_end_of_other}
use Rattle.norm_lang.specs.Local.{Spot}
use Rattle.target_code.specs.declared.target.TargetInstr.{TargetInstr}
use Rattle.target_code.specs.declared.target.TargetInstr.TheVariants.{Plain}
use Rattle.target_code.specs.Erasing.{source_place}
use Rattle.phase_pools.specs.declared.stages.Scheme.TheVariants.{Warned}
use Rattle.phase_pools.specs.Pools.{claim_begun}
use Rattle.caller_parts.specs.declared.routine.AfterClear.TheVariants as clears
use Rattle.caller_parts.specs.declared.routine.Routine.{Routine}
use Rattle.caller_parts.specs.declared.routine.Routine.TheVariants.{Clears, Claims, Zeroes}
use Rattle.caller_steps.specs.Entries.{cradle_of, new_kind, new_number}
use Rattle.caller_steps.specs.Clearing.{clear_next}
use Rattle.caller_steps.specs.After.{with_routine, new_on, clear_on, cleared}
use Rattle.target_laws.specs.target_runs.Sane.{Sane, SaneAt}
use Rattle.target_laws.specs.Methods.{code_in}
use Rattle.run_ahead.specs.Standing.{stands_in_list}
use Rattle.run_ahead.proofs.Lists.{commit_stands}
use Rattle.run_ahead.specs.Ahead.{IsErased}
use Rattle.oa_simulation.specs.sim_relation.Views.{Plan, Shared, Caller}
use Rattle.oa_simulation.specs.sim_relation.Callers.{Base, Trail, Walks, Stands, AtNew, Empty, spot_of, HoldsAt}
use Rattle.oa_simulation.specs.sim_relation.Steps.{Ends, moved, is_between}
use Rattle.oa_simulation.specs.sim_relation.Points.{done}
use Rattle.caller_steps.specs.Signs.{quiet}
use Rattle.oa_simulation.proofs.sim_relation.Moving.{base_moved, new_moved, same_names}
use Rattle.oa_simulation.proofs.sim_relation.Clearing.{none_out}
use Rattle.oa_simulation.proofs.sim_steps.Walks.Accessing.{source_stands}

abbrev pub routed : Caller → Routine → Caller
routed x r = moved x x.entry.running.steps x.entry.counts r

-- the source stays, and the entry stands elsewhere
pub ends_quiet : (t : Plan) (s : Shared) (c : ℕ) (x : Caller) (r : Routine) → Base t s c x → HoldsAt t s c (routed x r) r → Ends t s c x (quiet (with_routine x.entry r))
ends_quiet t s c x r b spot = record {
  x' = routed x r;
  entry = refl;
  names = same_names x.names (is_between r);
  was_set = refl;
  plays = done _;
  caller_holds = record { base = base_moved t s c x x.entry.running.steps x.entry.counts r b; spot = spot };
}

pub new_routed : (t : Plan) (s : Shared) (c : ℕ) (x : Caller) (core : Spot) (r : Routine) → AtNew t s c x core → AtNew t s c (routed x r) core
new_routed t s c x core r w = new_moved t s c x core x.entry.running.steps x.entry.counts r w

-- at a `new`: guards are cleared, then the claim, or the fields of the slot that the cradle has
pub cleared_new : (t : Plan) (s : Shared) (c : ℕ) (x : Caller) → Base t s c x → AtNew t s c x (spot_of x.entry.hand) → Ends t s c x (quiet (cleared t.target t.setting.sizes clears.New x.entry))
cleared_new t s c x b w = by_next (clear_next t.target clears.New x.entry) refl where
  by_cradle : Empty x → (j : ℕ) → cradle_of x.entry (new_number t.target x.entry) ≡ j → Ends t s c x (quiet (new_on Warned t.setting.sizes (new_kind t.target x.entry) (new_number t.target x.entry) j x.entry))
  by_cradle empty zero is = ends_quiet t s c x (Claims (claim_begun t.setting.sizes (new_kind t.target x.entry) Warned)) b (omega arith, new_routed t s c x (spot_of x.entry.hand) (Claims (claim_begun t.setting.sizes (new_kind t.target x.entry) Warned)) w, empty)
  by_cradle empty (suc j) is = ends_quiet t s c x (Zeroes (new_number t.target x.entry) 0) b (
    (λ z. let e : suc j ≡ 0 = sym is ∙ z in omega (arith, e)),
    ((λ none. absurd (omega (arith, none))), (λ g none. absurd (omega (arith, none)))),
    new_routed t s c x (spot_of x.entry.hand) (Zeroes (new_number t.target x.entry) 0) w,
    empty,
  )

  by_next : (o : Option ℕ) → clear_next t.target clears.New x.entry ≡ o → Ends t s c x (quiet (clear_on t.target t.setting.sizes clears.New o x.entry))
  by_next None is = by_cradle (none_out x.entry.hand.guards is) (cradle_of x.entry (new_number t.target x.entry)) refl
  by_next (Some r) is = ends_quiet t s c x (Clears clears.New) b (new_routed t s c x (spot_of x.entry.hand) (Clears clears.New) w)

-- what the normal form says of the instruction at which a method run is
pub sane_here : (t : Plan) (s : Shared) (c : ℕ) (x : Caller) (core : Spot) (m : Trail t) (i : TargetInstr) → Sane t.target → Walks t s c x core m → slice_get (code_in m.walk.method) core.at ≡ Some i
    → SaneAt t.target m.walk.method.wrapup (code_in m.walk.method) core.at i
sane_here t s c x core m i sane w is =
    (sane.method m.walk.method.number m.walk.method.wrapup m.walk.method.compiled m.walk.method.in_target).each core.at i m.path is w.ahead.path_is

pub commits_in_generator : (wrapup : Bool) (entries : List CasEntry) → is_end_of_other wrapup (instr.Commit entries) ≡ false → wrapup ≡ false
commits_in_generator true entries own = absurd (let e : true ≡ false = own in cc)
commits_in_generator false entries own = refl

-- at a commit the source stands before the first exchange
pub commit_source : (t : Plan) (s : Shared) (c : ℕ) (x : Caller) (m : Trail t) (entries : List CasEntry) → IsErased t.target t.text → Walks t s c x (spot_of x.entry.hand) m → Stands t x m
    → slice_get (code_in m.walk.method) x.entry.hand.at ≡ Some (Plain (instr.Commit entries)) → m.walk.method.wrapup ≡ false → x.source ≡ stands_in_list (source_place (code_in m.walk.method) x.entry.hand.at) entries 0 m.mirror m.walk.call
commit_source t s c x m entries erased w stands is gen =
    commit_stands m.walk.method m.walk.started x.entry.hand.accessed m.walk.call x.entry.hand.at m.mirror m.there x.source entries erased (source_stands t s c x (spot_of x.entry.hand) m w stands) gen is
