use Rattle.std.proofs.Common.{[], ◌∷◌}
use Rattle.c_emission.specs.Ends.{clear_block, number_reply}
use Rattle.c_emission.proofs.Steps.{two_added}
use Rattle.c_emission.proofs.ends.add_return.Goals as goal

pub returns : goal.returns
returns c =
    two_added c.args.lines.now.items c.add_clear_all.new.lines.items c.add_number_reply.new.lines.items (clear_block c.args.base) (number_reply c.args.a ∷ [])
    c.in_ok-add_clear_all.ensures c.in_ok-add_number_reply.ensures
