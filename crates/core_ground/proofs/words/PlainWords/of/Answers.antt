use Rattle.std.proofs.Common.{◌≡◌, ◌++◌, List, ℕ, subst}
use Rattle.core_ground.specs.Running.{pair_of}
use Rattle.core_ground.specs.Starts.{caller_words}
use Rattle.core_ground.proofs.Starting.{words_put, words_lawful}
use Rattle.core_ground.proofs.words.PlainWords.of.Goals as goal

pub returns-clause-start : goal.returns-clause-start
returns-clause-start c =
    words_put (pair_of c.args.runs).target c.args.setting.now c.put_callers.new.words c.put_slots.new.words c.put_pool.new.words c.requires
    (subst (λ (l : List ℕ). c.put_callers.new.words ≡ l ++ caller_words c.args.setting.now) c.empty-words.ensures c.in_ok-put_callers.ensures)
    c.in_ok-put_slots.ensures
    c.in_ok-put_pool.ensures

pub returns-clause-lawful : goal.returns-clause-lawful
returns-clause-lawful c = words_lawful (pair_of c.args.runs) c.args.setting.now _ c.kept-2.ensures c.kept.ensures c.requires (returns-clause-start c)
