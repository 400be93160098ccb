use Rattle.std.proofs.Common.{rules, ◌≤◌, length, vec_capacity}
use Rattle.word_runner.proofs.table_rule.Merged.{rest_few}
use Rattle.word_runner.proofs.rest.Rest.count.Goals as goal

pub overflow_cast-result : goal.overflow_cast-result
overflow_cast-result c =
    let few : length c.self.inside.list.items ≤ 8 = rest_few c.self.inside.place.me c.self.inside.list.items (vec_capacity c.self.inside.list) c.self.invariant in
    search (rules, few)
