use Rattle.std.proofs.Common.{List, ap, ◌∙◌}
use Rattle.norm_lang.specs.declared.text.Instr.{Instr}
use Rattle.kind_rules.specs.KindSteps.{starts_below}
use Rattle.kind_rules.proofs.Bridging.{generator_right, wrapup_right}
use Rattle.kind_rules.proofs.Unsearched.{both_within}
use Rattle.kind_rules.proofs.facts.searched.Goals as goal

pub returns : goal.returns
returns c =
    let fields = c.args.fields.now in
    let roots = c.args.roots.now in
    let op = c.args.op.now in
    let right = generator_right fields roots c.args.node_kind op c.in_ok-generator.generator c.in_ok-generator.ensures.right in
    record {
      generator = right;
      wrapup = wrapup_right fields roots c.args.node_kind op c.in_ok-generator.generator c.requires right c.starts_of-start.result c.in_ok-wrapup.wrapup
          (c.starts_of-start.ensures ∙ ap (λ (code : List Instr). starts_below c.in_ok-generator.generator code 8) c.items.ensures) c.in_ok-wrapup.ensures.right;
      within = both_within op (record { generator = c.in_ok-generator.generator; wrapup = c.in_ok-wrapup.wrapup }) c.in_ok-generator.ensures.within c.in_ok-wrapup.ensures.within;
    }
