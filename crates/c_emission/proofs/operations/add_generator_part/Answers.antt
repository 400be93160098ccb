use Rattle.std.proofs.Common.{ℕ, ◌∙◌, ◌++◌, ap}
use Rattle.caller_parts.specs.Spared.{none_spared}
use Rattle.c_emission.specs.Layout.{method_lines}
use Rattle.c_emission.specs.Operations.{seen_lines, first_lines, warned_lines, generator, generator_warned, generator_line}
use Rattle.c_emission.proofs.Steps.{four_added}
use Rattle.c_emission.proofs.operations.add_generator_part.Goals as goal

pub returns : goal.returns
returns c =
    four_added c.args.lines.now.items c.add_seen.new.lines.items c.add_first.new.lines.items c.add_generator.new.lines.items c.add_warned.new.lines.items
    seen_lines first_lines (method_lines (generator c.args.target.now c.args.op.now))
    (warned_lines (generator_warned c.args.target.now c.args.op.now) none_spared generator_line) c.in_ok-add_seen.ensures c.in_ok-add_first.ensures
    c.in_ok-add_generator.ensures
    (c.in_ok-add_warned.ensures
    ∙ ap (λ (line : ℕ). c.add_generator.new.lines.items ++ warned_lines line none_spared generator_line) c.requires.places.generator_warned)
