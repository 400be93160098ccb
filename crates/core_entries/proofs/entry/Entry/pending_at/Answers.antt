use Rattle.std.proofs.Common.{sym, ap, subst, ◌∙◌, arith}
use Rattle.std.specs.Prelude.{is_some}
use Rattle.target_code.specs.declared.target.Target.{Target}
use Rattle.caller_steps.specs.Entries.{RoomyEntry}
use Rattle.caller_steps.specs.Wants.{wants}
use Rattle.caller_steps.specs.Asking.{located_option}
use Rattle.core_entries.specs.Callers.{BelongsTo}
use Rattle.core_ground.proofs.Runnable.{runnable}
use Rattle.core_entries.proofs.Calling.{asks, wanted, slots}
use Rattle.core_entries.proofs.entry.Entry.pending_at.Goals as goal

pub pending_at-requires-clause-slots : goal.pending_at-requires-clause-slots
pending_at-requires-clause-slots c =
    slots c.args.barred.now c.args.setting.now c.self.inside.state.core (runnable c.args.barred.now c.kept-2.ensures) c.kept.ensures
    (let few = c.limits.ensures.sizes.slots in omega (arith, few))
    (subst (λ (e : RoomyEntry). BelongsTo c.args.barred.now c.args.setting.now e.core) (sym c.self.view_is) c.requires.belongs)

pub pending_at-requires-clause-can : goal.pending_at-requires-clause-can
pending_at-requires-clause-can c =
    asks c.args.barred.now c.args.program.now c.args.setting.now c.self.inside.state.core c.requires.program (runnable c.args.barred.now c.kept-2.ensures) c.kept.ensures
    (subst (λ (e : RoomyEntry). BelongsTo c.args.barred.now c.args.setting.now e.core) (sym c.self.view_is) c.requires.belongs)

pub returns-clause-idle : goal.returns-clause-idle
returns-clause-idle c =
    ap is_some (c.pending_at.ensures
    ∙ ap (λ (t : Target). located_option c.args.setting.now.sizes (wants t c.self.inside.state.core)) c.requires.program
    ∙ ap (λ (e : RoomyEntry). located_option c.args.setting.now.sizes (wants c.args.barred.now.target e.core)) c.self.view_is)
    ∙ wanted c.args.barred.now c.args.setting.now c.args.self.now.core (runnable c.args.barred.now c.kept-2.ensures) c.kept.ensures c.requires.belongs
