use Rattle.std.proofs.Common.{◌≡◌, ◌<◌, ℕ, length}
use Rattle.std.specs.Prelude.{slice_index}
use Rattle.caller_parts.specs.KindCounts.{field_count}
use Rattle.caller_parts.proofs.fields.counts.Given as goal

abbrev pub invariant-loop-kind : goal.invariant-loop-kind
invariant-loop-kind l = record { sized : length l.counts ≡ 4; right : (t : ℕ) → t < l.kind → slice_index l.counts t ≡ field_count l.fields t }
