use Rattle.std.proofs.Common.{◌<◌, length, arith, length-set, ◌∙◌}
use Rattle.norm_lang.specs.KindFields.{place_of}
use Rattle.caller_parts.proofs.Tables.{one_more}
use Rattle.caller_parts.proofs.fields.places.Goals as goal

pub loop-field-preserved : goal.loop-field-preserved
loop-field-preserved c =
    let within : c.loop-field.field < length c.loop-field.places = omega (arith, c.loop-field-test.true, c.loop-field.invariant.sized) in
    record {
      sized = length-set c.loop-field.places c.loop-field.field c.place_of.result ∙ c.loop-field.invariant.sized;
      right = one_more (place_of c.args.fields.now) c.loop-field.places c.loop-field.field c.place_of.result within c.loop-field.invariant.right c.place_of.ensures;
    }
