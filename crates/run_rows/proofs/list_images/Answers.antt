use Rattle.run_rows.proofs.Images.{recycled_image, guarded_image}
use Rattle.run_rows.proofs.list_images.Goals as goal

pub returns-clause-recycled : goal.returns-clause-recycled
returns-clause-recycled c = recycled_image

pub returns-clause-guarded : goal.returns-clause-guarded
returns-clause-guarded c = guarded_image
