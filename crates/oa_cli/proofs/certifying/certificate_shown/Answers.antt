use Rattle.std.proofs.Common.{refl, sym, ◌∙◌}
use Rattle.oa_cli.proofs.certifying.certificate_shown.Goals as goal

pub returns-in-Ok : goal.returns-in-Ok
returns-in-Ok c = (
  refl,
  record {
    certificate = c.args.certificate.now;
    made = c.requires;
    same = c.in-Ok.ensures;
    partial = c.falls_short.ensures ∙ sym (c.short_is_told.ensures c.args.document.now c.args.certificate.now c.requires);
  },
)
