use Rattle.std.proofs.Common.{◌≡◌, refl, arith}
use Rattle.norm_parser.specs.Cursors.{all_lines}
use Rattle.norm_parser.proofs.CursorLines.{passed_one, passed_from, passed_past}
use Rattle.norm_parser.proofs.cursor.Cursor.from_line.Goals as goal

pub loop-preserved : goal.loop-preserved
loop-preserved c = passed_one (all_lines c.args.input.now) c.loop.cursor c.pass.new.self c.loop.counter c.loop.invariant c.pass.ensures

pub returns-clause-lines : goal.returns-clause-lines
returns-clause-lines c =
    let end : c.loop.counter ≡ c.args.line = omega (arith, c.loop-test.false, c.loop.auto.counter-end, c.requires.counted) in
    passed_from c.args.input.now (all_lines c.args.input.now) c.loop.cursor c.args.line refl (rw end at c.loop.invariant)

pub returns-clause-past : goal.returns-clause-past
returns-clause-past c = passed_past c.args.input.now (all_lines c.args.input.now) c.loop.cursor c.loop.counter refl c.loop.invariant
