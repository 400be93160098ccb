use Rattle.std.proofs.Common.{List, sym, subst}
use Rattle.kind_rules.specs.declared.facts.KindFacts.{KindFacts}
use Rattle.kind_rules.specs.Asking.{AreOfOp}
use Rattle.norm_check.proofs.judge.judge_known.Goals as goal

pub judge_methods-requires : goal.judge_methods-requires
judge_methods-requires c = record {
  within = c.requires.within;
  stands = c.requires.stands;
  true_of = c.requires.true_of;
  kinds = subst (λ (known : List KindFacts). AreOfOp c.args.text.now c.args.op.now known) (sym c.deref.ensures.value) c.in_ok-kinds.ensures.tell;
}
