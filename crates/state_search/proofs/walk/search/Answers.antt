use Rattle.std.proofs.Common.{rules, ◌<◌, ◌≤◌, length, subst}
use Rattle.state_search.specs.Searches.{WentOn}
use Rattle.state_search.proofs.Searching.{more_on, since_start, since_more, goes_since}
use Rattle.state_search.proofs.walk.search.Goals as goal

pub states-init : goal.states-init
states-init g c = since_start (g.E.Explorer.seen c.args.explorer.now) c.requires

pub states-preserved : goal.states-preserved
states-preserved g c =
    let lt : c.states.done < length (g.E.Explorer.seen c.states.explorer).found = subst (λ n. c.states.done < n) c.count.ensures c.states-test.true in
    let w = subst (λ o. WentOn (g.E.Explorer.seen c.states.explorer) c.states.done o (g.E.Explorer.seen c.go_on.new.self)) c.in-Fine.is c.in_ok-go_on.ensures in
    since_more (g.E.Explorer.seen c.args.explorer.now) (g.E.Explorer.seen c.states.explorer) (g.E.Explorer.seen c.go_on.new.self) c.states.done lt c.states.invariant w.0 w.1

pub returns : goal.returns
returns g c =
    let all : length (g.E.Explorer.seen c.states.explorer).found ≤ c.states.done = subst (λ n. n ≤ c.states.done) c.count.ensures c.states-test.false in
    goes_since (g.E.Explorer.seen c.args.explorer.now) (g.E.Explorer.seen c.states.explorer) c.states.done c.states.invariant.more all c.states.invariant.goes

pub returns-then-found-limit : goal.returns-then-found-limit
returns-then-found-limit g c =
    let over : c.args.limit < length (g.E.Explorer.seen c.states.explorer).found = search rules in
    (c.states.invariant.more, over)

pub returns-in-Breach : goal.returns-in-Breach
returns-in-Breach g c =
    let w = subst (λ o. WentOn (g.E.Explorer.seen c.states.explorer) c.states.done o (g.E.Explorer.seen c.go_on.new.self)) c.in-Breach.is c.in_ok-go_on.ensures in
    (more_on (g.E.Explorer.seen c.args.explorer.now) (g.E.Explorer.seen c.states.explorer) (g.E.Explorer.seen c.go_on.new.self) c.states.invariant.more w.0, (c.states.done, w.1))

pub returns-in-Undecided : goal.returns-in-Undecided
returns-in-Undecided g c =
    let w = subst (λ o. WentOn (g.E.Explorer.seen c.states.explorer) c.states.done o (g.E.Explorer.seen c.go_on.new.self)) c.in-Undecided.is c.in_ok-go_on.ensures in
    more_on (g.E.Explorer.seen c.args.explorer.now) (g.E.Explorer.seen c.states.explorer) (g.E.Explorer.seen c.go_on.new.self) c.states.invariant.more w
