use Rattle.std.proofs.Common.{rules, arith, ◌++◌}
use Rattle.std.proofs.lemmas.Grind.{common_steps}
use Rattle.command_input.proofs.Consumed.{consumes_kept, consumes_more}
use Rattle.command_input.proofs.input.read_input.Goals as goal

pub read_more-requires-clause-room : goal.read_more-requires-clause-room
read_more-requires-clause-room g c = search rules

pub returns-in_err-read_more-clause-fewer : goal.returns-in_err-read_more-clause-fewer
returns-in_err-read_more-clause-fewer g c = λ is. (c.reads.bytes.items, consumes_kept _ _ _ _ c.reads.invariant.bytes (c.in_err-read_more.ensures.nothing (search rules)), omega arith)

pub returns-in_err-read_more-clause-within : goal.returns-in_err-read_more-clause-within
returns-in_err-read_more-clause-within g c = λ is.
    let more = c.in_err-read_more.ensures.within (search rules) in
    let most = c.reads.invariant.most in
    let few = more.2 in
    (c.reads.bytes.items ++ more.0, consumes_more _ _ _ _ _ c.reads.invariant.bytes more.1, grind (arith, common_steps))
