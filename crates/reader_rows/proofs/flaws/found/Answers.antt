use Rattle.std.proofs.Common.{List, sym, subst}
use Rattle.target_code.specs.declared.target.TargetInstr.{TargetInstr}
use Rattle.target_flaws.specs.declared.needs.Needs.{Needs}
use Rattle.target_flaws.specs.Needs.{AreNeeds}
use Rattle.target_flaws.specs.FlawAnswers.{AreFlawAnswers}
use Rattle.reader_rows.proofs.flaws.found.Goals as goal

pub returns : goal.returns
returns c = (
  c.requires,
  λ source kinds fields roots within limits asks.
      subst (λ (code : List TargetInstr). AreFlawAnswers source c.args.wrapup code c.args.at c.args.instr.now c.flaws.result) c.target_code_of-code.ensures
      (c.flaws.ensures.true_of source c.target_code_of-code.result.now (record {
        within = within;
        limits = (kinds, fields, roots, limits);
        asks = subst (λ (needs : Needs). AreNeeds source needs) (sym c.needs_of-needs.ensures) asks;
        true_of = c.in_ok-facts.ensures;
      })),
)
