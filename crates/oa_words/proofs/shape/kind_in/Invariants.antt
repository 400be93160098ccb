use Rattle.std.proofs.Common.{◌≡◌, ◌+◌, ◌-◌, ◌≤◌, drop, length}
use Rattle.oa_words.specs.SlotKinds.{kind_in}
use Rattle.oa_words.proofs.shape.kind_in.Given as goal

-- the kinds gone past and the kind among what is left are the whole
abbrev pub invariant-loop-kind : goal.invariant-loop-kind
invariant-loop-kind l = record {
  told : l.kind + kind_in (drop l.kind l.counts) l.left ≡ kind_in l.counts l.place;
  within : l.kind ≤ length l.counts;
}

abbrev pub decreases-loop-kind : goal.decreases-loop-kind
decreases-loop-kind l = length l.counts - l.kind
