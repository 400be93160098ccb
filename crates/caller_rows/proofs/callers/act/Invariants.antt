use Rattle.core_entries.specs.Callers.{BelongsTo}
use Rattle.core_entries.specs.Steps.{WordsSound}
use Rattle.caller_rows.proofs.callers.act.Given as goal

abbrev pub invariant-loop-who : goal.invariant-loop-who
invariant-loop-who l = record {
  first : BelongsTo l.barred l.setting l.first.core;
  last : BelongsTo l.barred l.setting l.last.core;
  lawful : WordsSound l.barred.target l.setting l.words;
}
