use Rattle.target_code.specs.Bare.{bare}
use Rattle.core_ground.specs.Running.{bare_pair}
use Rattle.core_entries.specs.Callers.{BelongsTo}
use Rattle.core_entries.specs.Steps.{WordsSound}
use Rattle.caller_rows.proofs.announcers.act.Given as goal

abbrev pub invariant-loop-who : goal.invariant-loop-who
invariant-loop-who l = record {
  first : BelongsTo (bare_pair l.row.0) l.row.1 l.first.core;
  last : BelongsTo (bare_pair l.row.0) l.row.1 l.last.core;
  lawful : WordsSound (bare l.row.0) l.row.1 l.words;
}
