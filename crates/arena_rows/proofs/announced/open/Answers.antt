use Rattle.std.proofs.Common.{◌≡◌, ◌∙◌, length, sym, ap, subst}
use Rattle.std.specs.Prelude.{All}
use Rattle.caller_parts.specs.Calls.{AreCalls}
use Rattle.word_runner.specs.table_rule.Seen.{Fixed}
use Rattle.arena_rows.proofs.announced.open.Goals as goal

pub invariant_of-result : goal.invariant_of-result
invariant_of-result c = (
  subst (λ (f : Fixed). All (AreCalls f.target.target) c.args.plan.scripts) (sym c.in-Ok.ensures.arena) c.requires.calls,
  c.requires.count ∙ ap (λ (s : _). s.callers) (sym (c.copy_of-shape.ensures ∙ c.shape.ensures)) ∙ sym (ap (λ (f : Fixed). f.setting.sizes.callers) c.in-Ok.ensures.arena),
)
