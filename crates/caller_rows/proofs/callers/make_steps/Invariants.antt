use Rattle.core_entries.specs.Callers.{BelongsTo}
use Rattle.core_entries.specs.Steps.{WordsSound}
use Rattle.caller_rows.proofs.callers.make_steps.Given as goal

abbrev pub invariant-loop : goal.invariant-loop
invariant-loop l = record {
  belongs : BelongsTo l.barred l.setting l.entry.core;
  lawful : WordsSound l.barred.target l.setting l.words;
}
