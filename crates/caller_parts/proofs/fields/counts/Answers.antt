use Rattle.std.proofs.Common.{◌<◌, length, arith, length-set, ◌∙◌}
use Rattle.caller_parts.specs.KindCounts.{field_count}
use Rattle.caller_parts.proofs.Tables.{one_more}
use Rattle.caller_parts.proofs.fields.counts.Goals as goal

pub loop-kind-preserved : goal.loop-kind-preserved
loop-kind-preserved c =
    let within : c.loop-kind.kind < length c.loop-kind.counts = omega (arith, c.loop-kind-test.true, c.loop-kind.invariant.sized) in
    record {
      sized = length-set c.loop-kind.counts c.loop-kind.kind c.count_of.result ∙ c.loop-kind.invariant.sized;
      right = one_more (field_count c.args.fields.now) c.loop-kind.counts c.loop-kind.kind c.count_of.result within c.loop-kind.invariant.right c.count_of.ensures;
    }
