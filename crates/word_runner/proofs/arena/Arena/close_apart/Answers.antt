use Rattle.std.proofs.Common.{rules, ◌≡◌, ◌∙◌, ap, subst, length, List}
use Rattle.std.proofs.lemmas.List.Sorted.{IsNonDecreasingBy-from_sort_by_key}
use Rattle.caller_steps.specs.Entries.{RoomyEntry}
use Rattle.word_runner.specs.table_rule.Seen.{Fixed}
use Rattle.word_runner.specs.table_rule.Plays.{Apart}
use Rattle.word_runner.specs.table_rule.Seats.{cores}
use Rattle.word_runner.specs.table_rule.Closing.{IsClosed}
use Rattle.word_runner.proofs.table_rule.Ordered.{closed}
use Rattle.word_runner.proofs.arena.Arena.close_apart.Goals as goal

pub returns : goal.returns
returns c =
    let up = IsNonDecreasingBy-from_sort_by_key (λ (r : RoomyEntry). r.core.number) c.sort_unstable_by_key.new.self.items c.sort_unstable_by_key.ensures.sorted (λ a r q k. search rules) in
    let p = c.parts-place.ensures in
    let resting = p.3 in
    let xs = c.parts-place.result.1.items in
    let apart : Apart c.args.self.fixed.setting.sizes.callers (cores xs) = subst (λ (f : Fixed). Apart f.setting.sizes.callers (cores xs)) (p.1 ∙ c.requires.came.1) resting.apart in
    let full : length xs ≡ c.args.self.fixed.setting.sizes.callers = ap length p.2 ∙ c.requires.all in
    subst (λ (ys : List RoomyEntry). IsClosed c.args.self.fixed ys c.shut-phase.result c.sort_unstable_by_key.new.self.items) p.2
    (closed c.args.self.fixed c.parts-place.result.0.me.0 c.shut-phase.result xs c.sort_unstable_by_key.new.self.items c.shut-phase.ensures resting.entries apart full c.sort_unstable_by_key.ensures.permutation up)
