use Rattle.std.proofs.Common.{◌∙◌, sym}
use Rattle.barrier_check.specs.SourcePlaces.{place_by}
use Rattle.barrier_check.proofs.Contents.{both_say}
use Rattle.barrier_check.proofs.code.is_redirected.Goals as goal

pub returns-in-Some-content_of : goal.returns-in-Some-content_of
returns-in-Some-content_of c =
    both_say (place_by c.args.places.now) c.args.instr.now c.args.source.now c.in-Some.content c.in-Some-content_of.other c.is_same.result
    (sym c.content_of.ensures ∙ c.in-Some.is) (sym c.content_of-2.ensures ∙ c.in-Some-content_of.is) c.is_same.ensures
