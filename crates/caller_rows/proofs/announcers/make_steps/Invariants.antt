use Rattle.target_code.specs.Bare.{bare}
use Rattle.core_ground.specs.Running.{bare_pair}
use Rattle.core_entries.specs.Callers.{BelongsTo}
use Rattle.core_entries.specs.Steps.{WordsSound}
use Rattle.caller_rows.proofs.announcers.make_steps.Given as goal

abbrev pub invariant-loop : goal.invariant-loop
invariant-loop l = record {
  belongs : BelongsTo (bare_pair l.row.0) l.row.1 l.entry.core;
  lawful : WordsSound (bare l.row.0) l.row.1 l.words;
}
