use Rattle.std.proofs.Common.{◌≡◌, Some, sym, subst, ◌∙◌}
use Rattle.barrier_check.specs.Paired.{Paired}
use Rattle.caller_steps.specs.Wants.{wants}
use Rattle.caller_steps.specs.Asking.{located_option}
use Rattle.core_entries.proofs.Counted.{kind_pending}
use Rattle.core_entries.proofs.entry.Entry.kind_wanted.Goals as goal

pub returns-in-Some : goal.returns-in-Some
returns-in-Some c =
    c.kind_at.ensures
    ∙ kind_pending c.args.prepared.now c.args.setting.now c.args.self.now.core c.in-Some.access c.first_field.result c.pool_head.result c.program-program.ensures.sound c.kept.ensures c.requires.belongs (sym c.if-stands_at_check.ensures)
    (subst (λ (pair : Paired). Some c.in-Some.access ≡ located_option c.args.setting.now.sizes (wants pair.target c.args.self.now.core)) c.barred.ensures c.in-Some.ensures.wanted)
    c.first_field.ensures c.pool_head.ensures
