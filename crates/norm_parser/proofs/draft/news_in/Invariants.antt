use Rattle.std.proofs.Common.{◌≡◌, ◌+◌, ◌≤◌, drop}
use Rattle.norm_lang.specs.Grammar.{news_in}
use Rattle.norm_parser.proofs.draft.news_in.Given as goal

abbrev pub invariant-loop-instr : goal.invariant-loop-instr
invariant-loop-instr l = record {
  same : l.news + news_in (drop l.instr-index l.code) ≡ news_in l.code;
  few : l.news ≤ l.instr-index;
}
