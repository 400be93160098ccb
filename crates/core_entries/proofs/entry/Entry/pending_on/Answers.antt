use Rattle.std.proofs.Common.{Option, sym, ap, subst, ◌∙◌, arith}
use Rattle.std.specs.Prelude.{is_some}
use Rattle.target_code.specs.declared.target.Target.{Target}
use Rattle.phase_pools.specs.declared.access.Access.{Access}
use Rattle.caller_steps.specs.Entries.{RoomyEntry}
use Rattle.caller_steps.specs.Wants.{wants}
use Rattle.caller_steps.specs.Asking.{located_option}
use Rattle.core_entries.specs.Callers.{BelongsTo, IsInRow}
use Rattle.core_entries.proofs.Calling.{asks, wanted, row, slots}
use Rattle.core_entries.proofs.entry.Entry.pending_on.Goals as goal

pub pending-requires-clause-slots : goal.pending-requires-clause-slots
pending-requires-clause-slots c =
    slots c.args.loaded.now c.args.setting.now c.self.inside.state.core c.kept-2.ensures c.kept.ensures
    (let few = c.limits.ensures.sizes.slots in omega (arith, few))
    (subst (λ (e : RoomyEntry). BelongsTo c.args.loaded.now c.args.setting.now e.core) (sym c.self.view_is) c.requires.belongs)

pub pending-requires-clause-can : goal.pending-requires-clause-can
pending-requires-clause-can c =
    asks c.args.loaded.now c.program.result c.args.setting.now c.self.inside.state.core c.program.ensures c.kept-2.ensures c.kept.ensures
    (subst (λ (e : RoomyEntry). BelongsTo c.args.loaded.now c.args.setting.now e.core) (sym c.self.view_is) c.requires.belongs)

pub returns-clause-idle : goal.returns-clause-idle
returns-clause-idle c =
    ap is_some (c.pending.ensures
    ∙ ap (λ (t : Target). located_option c.args.setting.now.sizes (wants t c.self.inside.state.core)) c.program.ensures
    ∙ ap (λ (e : RoomyEntry). located_option c.args.setting.now.sizes (wants c.args.loaded.now.target e.core)) c.self.view_is)
    ∙ wanted c.args.loaded.now c.args.setting.now c.args.self.now.core c.kept-2.ensures c.kept.ensures c.requires.belongs

pub returns-clause-row : goal.returns-clause-row
returns-clause-row c =
    subst (λ (o : Option Access). IsInRow c.args.setting.now o)
    (sym (c.pending.ensures
    ∙ ap (λ (t : Target). located_option c.args.setting.now.sizes (wants t c.self.inside.state.core)) c.program.ensures
    ∙ ap (λ (e : RoomyEntry). located_option c.args.setting.now.sizes (wants c.args.loaded.now.target e.core)) c.self.view_is))
    (row c.args.loaded.now c.args.setting.now c.args.self.now.core c.kept-2.ensures c.kept.ensures c.requires.belongs)
