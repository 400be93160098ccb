use Rattle.std.proofs.Common.{rules, ◌≡◌, ◌<◌, ◌+◌, ◌-◌}
use Rattle.caller_steps.specs.Entries.{idle_entry}
use Rattle.word_runner.specs.table_rule.Rule.{callers_of}
use Rattle.word_runner.proofs.Taking.{seated_at}
use Rattle.word_runner.proofs.blank.Blank.enter.Goals as goal

pub invariant_of-blank : goal.invariant_of-blank
invariant_of-blank c = search rules

pub returns-else-find_place-clause-err : goal.returns-else-find_place-clause-err
returns-else-find_place-clause-err c = search rules

pub returns-then-find_place-clause-ok : goal.returns-then-find_place-clause-ok
returns-then-find_place-clause-ok c = search rules

pub find_place-requires-clause-empty : goal.find_place-requires-clause-empty
find_place-requires-clause-empty c = search rules

pub over-requires-clause-seated : goal.over-requires-clause-seated
over-requires-clause-seated c =
    let fixed : c.self.inside.place.me.0.fixed ≡ c.args.arena.now.fixed = search rules in
    let same : c.renumber.new.self.core ≡ idle_entry c.find_place.new.found = search rules in
    let lt : c.find_place.new.found < callers_of c.args.arena.now.fixed = search rules in
    seated_at c.args.arena.now.fixed c.find_place.new.place.me c.self.inside.place.me.0 c.find_place.new.found (c.find_place.new.found - c.self.inside.found + 1) c.renumber.new.self.core c.kept.ensures.idle fixed
    c.self.invariant.0.live c.if-find_place.ensures.won.1 same lt
