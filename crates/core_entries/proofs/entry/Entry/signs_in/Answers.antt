use Rattle.std.proofs.Common.{sym, ap, subst, ◌∙◌, arith}
use Rattle.target_code.specs.declared.target.Target.{Target}
use Rattle.caller_steps.specs.Entries.{RoomyEntry}
use Rattle.caller_steps.specs.Wants.{wants}
use Rattle.caller_steps.specs.Lawful.{MayBeTold}
use Rattle.core_entries.specs.Callers.{BelongsTo}
use Rattle.core_entries.specs.StepSigns.{step_signs}
use Rattle.core_ground.proofs.Runnable.{runnable}
use Rattle.core_entries.proofs.Calling.{told, near, slots}
use Rattle.core_entries.proofs.entry.Entry.signs_in.Goals as goal

pub signs_after-requires-clause-near : goal.signs_after-requires-clause-near
signs_after-requires-clause-near c =
    near c.args.barred.now c.args.setting.now c.self.inside.state.core (runnable c.args.barred.now c.kept-2.ensures) c.kept.ensures
    (subst (λ (e : RoomyEntry). BelongsTo c.args.barred.now c.args.setting.now e.core) (sym c.self.view_is) c.requires.belongs)

pub signs_after-requires-clause-slots : goal.signs_after-requires-clause-slots
signs_after-requires-clause-slots c =
    slots c.args.barred.now c.args.setting.now c.self.inside.state.core (runnable c.args.barred.now c.kept-2.ensures) c.kept.ensures
    (let few = c.limits.ensures.sizes.slots in omega (arith, few))
    (subst (λ (e : RoomyEntry). BelongsTo c.args.barred.now c.args.setting.now e.core) (sym c.self.view_is) c.requires.belongs)

pub signs_after-requires-clause-can : goal.signs_after-requires-clause-can
signs_after-requires-clause-can c =
    told c.args.barred.now c.args.program.now c.args.setting.now c.self.inside.state.core c.args.word c.requires.program (runnable c.args.barred.now c.kept-2.ensures) c.kept.ensures
    (subst (λ (e : RoomyEntry). BelongsTo c.args.barred.now c.args.setting.now e.core) (sym c.self.view_is) c.requires.belongs)
    (subst (λ (e : RoomyEntry). MayBeTold c.args.barred.now.target c.args.setting.now (wants c.args.barred.now.target e.core) c.args.word) (sym c.self.view_is) c.requires.lawful)

pub returns : goal.returns
returns c =
    c.signs_after.ensures
    ∙ ap (λ (t : Target). step_signs t c.args.setting.now c.self.inside.state.core c.args.word) c.requires.program
    ∙ ap (λ (e : RoomyEntry). step_signs c.args.barred.now.target c.args.setting.now e.core c.args.word) c.self.view_is
