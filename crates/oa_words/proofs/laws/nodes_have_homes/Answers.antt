use Rattle.oa_words.proofs.Homes.{nodes_have_homes}
use Rattle.oa_words.proofs.laws.nodes_have_homes.Goals as goal

pub returns : goal.returns
returns g c = nodes_have_homes c.args.shape.now g.start c.kept.ensures.sizes.kinds c.requires
