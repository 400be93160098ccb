-- Entries one by one from the front of one list to the end of another.
use Rattle.std.proofs.Common.{◌≡◌, ◌+◌, ◌<◌, List, [], ◌∷◌, ◌++◌, length, take, drop, ap, ◌∙◌, arith, append_assoc}
use Rattle.std.specs.Prelude.{slice_index_or}
use Rattle.caller_steps.specs.Entries.{RoomyEntry}

front : (xs rest : List RoomyEntry) (x : RoomyEntry) → 0 < length xs → x ≡ slice_index_or xs 0 x → rest ≡ take 0 xs ++ drop (0 + 1) xs → x ∷ rest ≡ xs
front [] rest x some is left = absurd (omega (arith, some))
front (y ∷ ys) rest x some is left = λ i. is i ∷ left i

pub poured : (list new xs rest whole : List RoomyEntry) (x : RoomyEntry) → 0 < length xs → x ≡ slice_index_or xs 0 x → rest ≡ take 0 xs ++ drop (0 + 1) xs → new ≡ list ++ x ∷ []
    → list ++ xs ≡ whole → new ++ rest ≡ whole
poured list new xs rest whole x some is left pushed so_far =
    ap (λ (l : List RoomyEntry). l ++ rest) pushed ∙ (append_assoc list (x ∷ []) rest ∙ (ap (λ (l : List RoomyEntry). list ++ l) (front xs rest x some is left) ∙ so_far))
