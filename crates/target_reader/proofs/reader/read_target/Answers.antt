use Rattle.std.proofs.Common.{rules, ◌+◌, length}
use Rattle.oa_text.specs.Lines.{lines_of}
use Rattle.target_reader.proofs.Reading.{version_fails, head_fails, ops_fail, target_is, ops_left}
use Rattle.target_reader.proofs.Targets.{target_within}
use Rattle.target_reader.proofs.reader.read_target.Goals as goal

pub returns-in_err-read_second_version-clause-exact : goal.returns-in_err-read_second_version-clause-exact
returns-in_err-read_second_version-clause-exact c =
    search (rules, version_fails c.args.input.now c.new-cursor.result c.in_err-read_second_version.field-0.0 c.new-cursor.ensures c.in_err-read_second_version.ensures.exact)

pub returns-in_err-head-clause-exact : goal.returns-in_err-head-clause-exact
returns-in_err-head-clause-exact c =
    search (
      rules,
      head_fails c.args.input.now c.new-cursor.result c.read_second_version.new.cursor c.in_err-head.field-0.0 c.new-cursor.ensures c.in_ok-read_second_version.ensures.rest
          c.in_ok-read_second_version.ensures.exact c.in_err-head.ensures.exact,
    )

pub read_ops-requires-clause-rest : goal.read_ops-requires-clause-rest
read_ops-requires-clause-rest c =
    ops_left c.args.input.now c.new-cursor.result c.read_second_version.new.cursor c.read_head.new.cursor c.new-cursor.ensures c.in_ok-read_second_version.ensures.rest c.in_ok-head.ensures.rest

pub returns-in_err-ops-clause-exact : goal.returns-in_err-ops-clause-exact
returns-in_err-ops-clause-exact c =
    search (
      rules,
      ops_fail c.args.input.now c.new-cursor.result c.read_second_version.new.cursor c.read_head.new.cursor c.in_ok-head.head c.in_err-ops.field-0.0 c.new-cursor.ensures
          c.in_ok-read_second_version.ensures.rest c.in_ok-head.ensures.rest c.in_ok-read_second_version.ensures.exact c.in_ok-head.ensures.exact c.in_err-ops.ensures,
    )

pub returns-clause-exact : goal.returns-clause-exact
returns-clause-exact c =
    target_is c.args.input.now c.new-cursor.result c.read_second_version.new.cursor c.read_head.new.cursor c.in_ok-head.head c.in_ok-ops.ops c.new-cursor.ensures
    c.in_ok-read_second_version.ensures.rest c.in_ok-head.ensures.rest c.in_ok-read_second_version.ensures.exact c.in_ok-head.ensures.exact c.in_ok-ops.ensures

pub returns-clause-within : goal.returns-clause-within
returns-clause-within c =
    target_within c.in_ok-head.head (length (lines_of c.args.input.now) + 1) c.read_head.new.cursor.lines c.in_ok-ops.ops c.in_ok-head.ensures.within c.in_ok-ops.ensures
