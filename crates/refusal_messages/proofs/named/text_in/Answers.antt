use Rattle.std.proofs.Common.{rules}
use Rattle.refusal_messages.proofs.Naming.{text_is, version_fails, front_fails}
use Rattle.refusal_messages.proofs.named.text_in.Goals as goal

pub returns-in_err-version-clause-exact : goal.returns-in_err-version-clause-exact
returns-in_err-version-clause-exact c =
    search (rules, version_fails c.args.bytes.now c.new-cursor.result c.in_err-version.field-0.0 c.new-cursor.ensures c.in_err-version.ensures.exact)

pub returns-in_err-text-clause-exact : goal.returns-in_err-text-clause-exact
returns-in_err-text-clause-exact c =
    search (
      rules,
      front_fails c.args.bytes.now c.new-cursor.result c.read_version.new.cursor c.in_ok-version.version c.in_err-text.field-0.0 c.new-cursor.ensures c.in_ok-version.ensures.rest
          c.in_ok-version.ensures.exact c.in_err-text.ensures.exact,
    )

pub returns-clause-exact : goal.returns-clause-exact
returns-clause-exact c =
    text_is c.args.bytes.now c.new-cursor.result c.read_version.new.cursor c.read_front.new.cursor c.in_ok-version.version c.in_ok-text.text c.new-cursor.ensures c.in_ok-version.ensures.rest
    c.in_ok-version.ensures.exact c.in_ok-text.ensures.exact
