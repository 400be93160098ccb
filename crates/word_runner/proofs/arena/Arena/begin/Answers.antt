use Rattle.std.proofs.Common.{rules, ◌≡◌, subst, sym}
use Rattle.barrier_check.specs.Paired.{Paired}
use Rattle.caller_steps.specs.Entries.{Entry}
use Rattle.core_ground.specs.Running.{pair_of}
use Rattle.word_runner.specs.table_rule.Plays.{Belonging}
use Rattle.word_runner.proofs.arena.Arena.begin.Goals as goal

pub returns-clause-belongs : goal.returns-clause-belongs
returns-clause-belongs c =
    let same : pair_of c.runs.result ≡ c.args.self.now.fixed.target = search rules in
    let scheme : c.args.self.now.fixed.setting.reclamation ≡ c.reclamation-by.result = search rules in
    let belonging : Paired → Entry → Type 0 = λ p e. Belonging (record { target = p; setting = c.args.self.now.fixed.setting }) e in
    subst (λ (p : Paired). belonging p c.begin_by.new.self.core) same
    (c.begin_by.ensures.belongs.each c.args.self.now.fixed.setting scheme (subst (λ (p : Paired). belonging p c.args.entry.now.core) (sym same) c.requires.belongs))
