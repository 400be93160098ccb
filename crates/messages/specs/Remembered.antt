-- What a source that remembers keeps.
use Rattle.std.specs.Prelude.{◌≡◌, ℕ, ◌+◌, ◌≤◌, min, Bool, true, List, [], ◌++◌, length, Option, Some, None, if◌then◌else◌}
use Rattle.statuses.specs.declared.limits.TheConstants.{DOCUMENT_LIMIT}

-- one more byte than a document may have
abbrev pub most_remembered : ℕ
most_remembered = DOCUMENT_LIMIT

-- the bytes that a source has left, if it tells them, how many faults there were, the bytes that it keeps, for how many it has memory, and
-- whether they are all that were read
pub record RememberingInput : Type 0 where
  pub left : Option (List ℕ)
  pub faults : ℕ
  pub bytes : List ℕ
  pub room : ℕ
  pub whole : Bool

-- all bytes that were read, unless they are forgotten
abbrev pub remembered : RememberingInput → Option (List ℕ)
remembered input = if input.whole then Some input.bytes else None

-- After one more piece was read it is remembered with those before it, or all is forgotten, for good (`whole`). What stays within the most
-- that is remembered, and within the memory that there was for it, is not forgotten (`kept`), and an empty piece has nothing forgotten
-- (`empty`). So all is forgotten only because it became too long, or for want of memory. The memory is kept (`room`).
pub record IsRemembered (before now : RememberingInput) (piece : List ℕ) : Type 0 where
  pub whole : now.whole ≡ true → (before.whole ≡ true) × (now.bytes ≡ before.bytes ++ piece)
  pub kept : before.whole ≡ true → length before.bytes + length piece ≤ min most_remembered before.room → now.whole ≡ true
  pub empty : before.whole ≡ true → piece ≡ [] → now.whole ≡ true
  pub room : before.room ≤ now.room
