use Rattle.std.proofs.Common.{ℕ, ◌∙◌, ap}
use Rattle.std.specs.Prelude.{◌==◌}
use Rattle.std.specs.List.{list_all}
use Rattle.norm_lang.proofs.Arguments.{array_has_arguments}
use Rattle.caller_rows.proofs.announcing.is_call_of.Goals as goal

pub returns-in-Some : goal.returns-in-Some
returns-in-Some c =
    rw (c.in-Some.is)
    (c.are_zero.ensures ∙ ap (list_all (λ (word : ℕ). word == 0)) c.past.ensures ∙ array_has_arguments c.in-Some.op.now.args c.args.args.now c.told-args c.fits-args)
