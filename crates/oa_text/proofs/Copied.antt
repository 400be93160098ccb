-- A read that copies the next bytes to the start of a buffer.
use Rattle.std.proofs.Common.{◌≡◌, ℕ, ◌+◌, ◌-◌, ◌<◌, ◌≤◌, min, List, [], ◌++◌, length, take, drop, sym, ap, ◌∙◌, arith}
use Rattle.std.proofs.lemmas.List.{take_at, take-append-drop, drop-drop, drop_all, length-drop, length-take-le}

-- what was left is the bytes copied, and then what is left now
pub copied : (items buffer piece : List ℕ) (at count : ℕ) → at + count ≤ length items → piece ≡ take (at + count - at) (drop at items)
    → drop at items ≡ take count (piece ++ drop count buffer) ++ drop (at + count) items
copied items buffer piece at count fits same =
    let k : at + count - at ≡ count = omega arith in
    let le : count ≤ length (drop at items) = omega (arith, length-drop at items) in
    let front : piece ≡ take count (drop at items) = same ∙ ap (λ n. take n (drop at items)) k in
    let long : length piece ≡ count = ap length front ∙ length-take-le count (drop at items) le in
    rw (take_at piece (drop count buffer) count long, front, ← drop-drop count at items) (sym (take-append-drop count (drop at items)))

-- a read that copies nothing, with room and a limit above 0, stands at the end
pub at_end : (items : List ℕ) (at count room most : ℕ) → at ≤ length items → 0 < most → 0 < room → count ≡ min (min room most) (length items - at) → count ≡ 0 → drop (at + count) items ≡ []
at_end items at count room most within some space count_is none = drop_all (at + count) items (omega arith)
