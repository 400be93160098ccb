use Rattle.std.proofs.Common.{◌≡◌, ◌+◌, ◌≤◌, drop}
use Rattle.target_code.specs.TargetLimits.{target_news_in}
use Rattle.target_reader.proofs.draft.news_in.Given as goal

abbrev pub invariant-loop-instr : goal.invariant-loop-instr
invariant-loop-instr l = record {
  same : l.news + target_news_in (drop l.instr-index l.code) ≡ target_news_in l.code;
  few : l.news ≤ l.instr-index;
}
