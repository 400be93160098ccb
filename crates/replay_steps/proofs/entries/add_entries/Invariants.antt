use Rattle.std.proofs.Common.{◌≡◌, ◌++◌, drop}
use Rattle.replay_steps.specs.Entries.{fresh_entries}
use Rattle.replay_steps.proofs.entries.add_entries.Given as goal

-- what is left gives what the whole gives
abbrev pub invariant-loop-script : goal.invariant-loop-script
invariant-loop-script l = record {
  place : l.number ≡ l.script-index;
  same : l.entries.items ++ fresh_entries l.number (drop l.script-index l.scripts) ≡ l.fn.entries.items ++ fresh_entries 0 l.scripts;
}
