-- Lines that are cut: none has more bytes than there are, and the bytes before one have no more lines than all.
use Rattle.std.proofs.Common.{ℕ, suc, ◌+◌, ◌≤◌, ◌≡◌, ◌==◌, ◌&&◌, ◌||◌, Bool, true, false, cond, List, [], ◌∷◌, length, take, Some, None, ap, arith}
use Rattle.std.specs.Prelude.{is_none, codes}
use Rattle.oa_text.specs.Lines.{TextLine, onto, lines_of, numbered}
use Rattle.certificates.specs.CertificateRead.{word_of, begins_with, room_of, Cut, cut_from}

-- ---- the bytes that lines take

onto_room : (n b : ℕ) (bytes : List ℕ) (lines : List (List ℕ)) → room_of (numbered n lines) ≤ length bytes + 1 → room_of (numbered n (onto b lines)) ≤ suc (length bytes) + 1
onto_room n b bytes [] h = omega arith
onto_room n b bytes (line ∷ lines) h = omega (arith, h)

-- lines take no more bytes than there are, but for a newline behind the last
pub room_enough : (n : ℕ) (bytes : List ℕ) → room_of (numbered n (lines_of bytes)) ≤ length bytes + 1
room_enough n [] = omega arith
room_enough n (b ∷ bytes) = of (b == 10) (room_enough (n + 1) bytes) (room_enough n bytes) where
  of : (t : Bool) → room_of (numbered (n + 1) (lines_of bytes)) ≤ length bytes + 1 → room_of (numbered n (lines_of bytes)) ≤ length bytes + 1
      → room_of (numbered n (cond t ([] ∷ lines_of bytes) (onto b (lines_of bytes)))) ≤ suc (length bytes) + 1
  of true behind all = omega (arith, behind)
  of false behind all = onto_room n b bytes (lines_of bytes) all

-- ---- the line at which they are cut

pub cut_within : (scheduled : Bool) (before : ℕ) (lines : List TextLine) (cut : Cut) → cut_from scheduled before lines ≡ Some cut → cut.before + 1 ≤ before + room_of lines
cut_within scheduled before [] cut e = absurd (let z : None ≡ Some cut = e in cc)
cut_within scheduled before (line ∷ lines) cut e =
    of (is_none (word_of line)) (scheduled && begins_with line (codes "events")) e
    (λ h. cut_within (scheduled || begins_with line (codes "schedule")) (before + length line.bytes + 1) lines cut h) where
      of : (faulty here : Bool)
          → cond faulty None (cond here (Some (record { before = before; line = line; behind = lines })) (cut_from (scheduled || begins_with line (codes "schedule")) (before + length line.bytes + 1) lines)) ≡ Some cut
          → (cut_from (scheduled || begins_with line (codes "schedule")) (before + length line.bytes + 1) lines ≡ Some cut → cut.before + 1 ≤ before + length line.bytes + 1 + room_of lines)
          → cut.before + 1 ≤ before + room_of (line ∷ lines)
      of true here h more = absurd (let z : None ≡ Some cut = h in cc)
      of false true h more =
          let found : Cut = record { before = before; line = line; behind = lines } in
          let same : found ≡ cut = (let z : Some found ≡ Some cut = h in cc) in
          let at : before ≡ cut.before = ap (λ (c : Cut). c.before) same in
          omega (arith, at)
      of false false h more = let below : cut.before + 1 ≤ before + length line.bytes + 1 + room_of lines = more h in omega (arith, below)

-- ---- the count of lines

onto_fewer : (b : ℕ) (xs ys : List (List ℕ)) → length xs ≤ length ys → length (onto b xs) ≤ length (onto b ys)
onto_fewer b [] [] h = omega arith
onto_fewer b [] (y ∷ ys) h = omega arith
onto_fewer b (x ∷ xs) [] h = absurd (omega (arith, h))
onto_fewer b (x ∷ xs) (y ∷ ys) h = h

-- first bytes have no more lines than all
pub fewer_lines : (n : ℕ) (bytes : List ℕ) → length (lines_of (take n bytes)) ≤ length (lines_of bytes)
fewer_lines (suc n) (b ∷ bytes) = of (b == 10) (fewer_lines n bytes) where
  of : (t : Bool) → length (lines_of (take n bytes)) ≤ length (lines_of bytes)
      → length (cond t ([] ∷ lines_of (take n bytes)) (onto b (lines_of (take n bytes)))) ≤ length (cond t ([] ∷ lines_of bytes) (onto b (lines_of bytes)))
  of true more = omega (arith, more)
  of false more = onto_fewer b (lines_of (take n bytes)) (lines_of bytes) more
fewer_lines _ _ = omega arith
