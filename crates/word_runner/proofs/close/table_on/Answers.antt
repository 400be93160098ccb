use Rattle.std.proofs.Common.{rules, ◌≡◌, length, ap, ◌∙◌}
use Rattle.barrier_check.specs.Paired.{Paired}
use Rattle.oa_words.specs.Words.{word_count}
use Rattle.core_runs.specs.Machine.{core_start}
use Rattle.word_runner.specs.table_rule.Seen.{Fixed}
use Rattle.word_runner.proofs.table_rule.Others.{opens, opening_count}
use Rattle.word_runner.proofs.close.table_on.Goals as goal

pub of_words-requires : goal.of_words-requires
of_words-requires c =
    let begins : c.words-2.result.now ≡ (core_start c.args.ground.now.target.target c.args.ground.now.setting).words =
    c.words-2.ensures ∙ c.in_ok-words.ensures.start
    ∙ ap (λ (p : Paired). (core_start p.target c.ground.inside.setting).words) c.runs.ensures ∙ ap (λ (f : Fixed). (core_start f.target.target f.setting).words) c.ground.view_is in
    opens c.args.ground.now c.words-2.result.now c.requires begins

pub returns-clause-table : goal.returns-clause-table
returns-clause-table c =
    let begins : c.words-2.result.now ≡ (core_start c.args.ground.now.target.target c.args.ground.now.setting).words =
    c.words-2.ensures ∙ c.in_ok-words.ensures.start
    ∙ ap (λ (p : Paired). (core_start p.target c.ground.inside.setting).words) c.runs.ensures ∙ ap (λ (f : Fixed). (core_start f.target.target f.setting).words) c.ground.view_is in
    let count : length c.words-2.result.now ≡ word_count c.args.ground.now.setting.sizes = opening_count c.args.ground.now c.words-2.result.now c.requires begins in
    search (rules, count)
