use Rattle.std.proofs.Common.{rules, ap, ◌∙◌}
use Rattle.std.proofs.lemmas.Iterator.{items_from_collect}
use Rattle.std.proofs.lemmas.Iterator.Adapters.{YieldsList-from_vec, YieldsList-from_skip}
use Rattle.std.specs.Vec.Iter.{into_iter_items, into_iter_len}
use Rattle.oax_cli.proofs.program.command_words.Goals as goal

pub returns-in-Ok-clause-had : goal.returns-in-Ok-clause-had
returns-in-Ok-clause-had c =
    let all = YieldsList-from_skip 1 (YieldsList-from_vec (into_iter_items c.in-Ok.args) (ap into_iter_items c.skip.ensures.source) (ap into_iter_len c.skip.ensures.source ∙ c.in-Ok.args.rest.ok.0)) c.skip.ensures.count in
    let got = items_from_collect c.collect.result c.collect.ensures.ran all in
    search rules
