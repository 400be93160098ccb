use Rattle.std.proofs.Common.{ℕ, ◌≡◌, take}
use Rattle.proper_judge.specs.Marks.{is_marked}
use Rattle.proper_judge.specs.Reach.{all_marked}
use Rattle.proper_judge.proofs.reach.mark_all.Given as goal

abbrev pub invariant-loop-name : goal.invariant-loop-name
invariant-loop-name l = (n : ℕ) → is_marked l.marks n ≡ all_marked (is_marked l.fn.marks) (take l.name-index l.names) n
