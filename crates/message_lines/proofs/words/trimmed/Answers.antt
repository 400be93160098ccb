use Rattle.std.proofs.Common.{rules}
use Rattle.std.proofs.lemmas.List.Sums.{prefix_len-le-length}
use Rattle.message_lines.proofs.words.trimmed.Goals as goal

pub split_at-requires : goal.split_at-requires
split_at-requires c = search (rules, prefix_len-le-length)
