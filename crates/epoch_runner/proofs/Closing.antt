-- The entries of a closed table are as many as its callers, and stand in the list that was empty.
use Rattle.std.proofs.Common.{◌≡◌, ℕ, ◌+◌, ◌≤◌, List, [], ◌++◌, length, sym, ap, ◌∙◌, subst, arith}
use Rattle.std.proofs.lemmas.List.Sorted.{length_permutation}
use Rattle.caller_steps.specs.Entries.{RoomyEntry}
use Rattle.word_runner.specs.table_rule.Seen.{Fixed}
use Rattle.word_runner.specs.table_rule.Closing.{IsClosed}

pub have_room : (key : Fixed) (rested entries list : List RoomyEntry) (phase capacity callers : ℕ) → IsClosed key rested phase entries → length rested ≡ callers → list ≡ [] → callers ≤ capacity
    → length list + length entries ≤ capacity
have_room key rested entries list phase capacity callers closed all none room =
    let same = length_permutation rested entries closed.kept in
    let empty : length list ≡ 0 = ap length none in
    omega (arith, same, empty, all, room)

pub closed_so : (key : Fixed) (rested entries list new shown : List RoomyEntry) (phase : ℕ) → IsClosed key rested phase entries → list ≡ [] → new ≡ list ++ entries → shown ≡ new → IsClosed key rested phase shown
closed_so key rested entries list new shown phase closed none poured is =
    subst (λ (es : List RoomyEntry). IsClosed key rested phase es) (sym (is ∙ (poured ∙ ap (λ (l : List RoomyEntry). l ++ entries) none))) closed
