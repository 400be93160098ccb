use Rattle.std.proofs.Common.{length, ap, ◌∙◌}
use Rattle.norm_lang.specs.declared.text.Text.{Text}
use Rattle.core_ground.proofs.Runnable.{bare_count}
use Rattle.core_ground.proofs.running.bare_count.Goals as goal

pub returns : goal.returns
returns c = ap length c.items.ensures ∙ ap (λ (t : Text). length t.ops) c.text.ensures.same ∙ bare_count c.args.normal.now
