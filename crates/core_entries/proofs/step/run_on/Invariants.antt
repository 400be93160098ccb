use Rattle.std.proofs.Common.{◌≤◌, ◌-◌}
use Rattle.core_entries.specs.Callers.{BelongsTo}
use Rattle.core_entries.specs.Steps.{WordsSound, StepsAre}
use Rattle.core_entries.proofs.step.run_on.Given as goal

abbrev pub invariant-steps : goal.invariant-steps
invariant-steps l = record {
  belongs : BelongsTo l.barred l.setting l.entry.core;
  lawful : WordsSound l.barred.target l.setting l.words;
  fewer : l.left ≤ l.most;
  made : StepsAre l.barred.target l.setting (l.most - l.left) l.fn.words l.words l.fn.entry l.entry;
}

abbrev pub decreases-steps : goal.decreases-steps
decreases-steps l = l.left
