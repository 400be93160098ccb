use Rattle.std.proofs.Common.{rules, ap, ◌∙◌}
use Rattle.std.proofs.lemmas.Fn.{filter_same}
use Rattle.histories.specs.Histories.{without_key}
use Rattle.histories.proofs.shared.without_key.Goals as goal

pub returns : goal.returns
returns c = filter_same _ _ _ (λ x b f' k. search rules) _ _ c.retain.ensures.filtered ∙ ap (λ l. without_key l c.args.key) c.in_ok-rest.ensures.items
