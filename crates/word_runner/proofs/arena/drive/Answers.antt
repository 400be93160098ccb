use Rattle.std.proofs.Common.{rules, false, ◌≡◌}
use Rattle.caller_steps.specs.Entries.{is_idle}
use Rattle.word_runner.proofs.table_rule.Drives.{can_again, drive_first, drive_more}
use Rattle.word_runner.proofs.arena.drive.Goals as goal

pub loop-left-init : goal.loop-left-init
loop-left-init c = (c.advance.ensures.table, drive_first c.args.arena.now.fixed c.args.seat.now.me c.args.entry.now c.args.budget c.advance.new.seat.me c.advance.new.entry c.requires.budget c.requires.can c.advance.ensures.went)

pub advance-requires-in-loop-left-clause-can : goal.advance-requires-in-loop-left-clause-can
advance-requires-in-loop-left-clause-can c =
    let busy : is_idle c.loop-left.entry.core.routine ≡ false = search rules in
    can_again c.args.arena.now.fixed c.args.seat.now.me c.args.entry.now c.args.budget c.loop-left.left c.loop-left.seat.me c.loop-left.entry c.requires.can c.loop-left.invariant.1 busy

pub loop-left-preserved : goal.loop-left-preserved
loop-left-preserved c =
    let busy : is_idle c.loop-left.entry.core.routine ≡ false = search rules in
    (search rules, drive_more c.args.arena.now.fixed c.args.seat.now.me c.args.entry.now c.args.budget c.loop-left.left c.loop-left.seat.me c.loop-left.entry c.advance-in-loop-left.new.seat.me c.advance-in-loop-left.new.entry c.loop-left-test.true c.loop-left.invariant.1 busy c.advance-in-loop-left.ensures.went)
