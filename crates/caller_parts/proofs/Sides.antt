-- Two lists side by side.
use Rattle.std.proofs.Common.{◌≡◌, ◌<◌, ◌≤◌, ℕ, suc, List, [], ◌∷◌, ◌++◌, length, map, refl, sym, ap, ◌∙◌, arith}
use Rattle.norm_lang.specs.Roomy.{Roomy}
use Rattle.norm_lang.specs.declared.reply.SourceReply.{SourceReply}
use Rattle.caller_parts.specs.declared.call.Running.{Running}
use Rattle.caller_parts.specs.declared.call.Replied.{Replied}
use Rattle.caller_parts.specs.Pairing.{replied_by, reply_of, run_of, side_by_side}

pub as_many : (replies : List SourceReply) (runs : List Running) → length runs ≡ length replies → length (side_by_side replies runs) ≡ length replies
as_many [] runs same = refl
as_many (reply ∷ replies) [] same = absurd (omega (arith, same))
as_many (reply ∷ replies) (run ∷ runs) same = ap suc (as_many replies runs (omega (arith, same)))

pub one_more_side : (replies : List SourceReply) (runs : List Running) (reply : SourceReply) (run : Running) → length runs ≡ length replies
    → side_by_side (replies ++ reply ∷ []) (runs ++ run ∷ []) ≡ side_by_side replies runs ++ replied_by reply run ∷ []
one_more_side [] [] reply run same = refl
one_more_side [] (r ∷ runs) reply run same = absurd (omega (arith, same))
one_more_side (x ∷ replies) [] reply run same = absurd (omega (arith, same))
one_more_side (x ∷ replies) (r ∷ runs) reply run same = ap (λ (l : List Replied). replied_by x r ∷ l) (one_more_side replies runs reply run (omega (arith, same)))

pub replies_of : (replies : List SourceReply) (runs : List Running) → length runs ≡ length replies → replies ≡ map reply_of (side_by_side replies runs)
replies_of [] runs same = refl
replies_of (reply ∷ replies) [] same = absurd (omega (arith, same))
replies_of (reply ∷ replies) (run ∷ runs) same = ap (λ (l : List SourceReply). reply ∷ l) (replies_of replies runs (omega (arith, same)))

pub runs_of : (replies : List SourceReply) (runs : List Running) → length runs ≡ length replies → runs ≡ map run_of (side_by_side replies runs)
runs_of [] [] same = refl
runs_of [] (r ∷ runs) same = absurd (omega (arith, same))
runs_of (reply ∷ replies) [] same = absurd (omega (arith, same))
runs_of (reply ∷ replies) (run ∷ runs) same = ap (λ (l : List Running). run ∷ l) (runs_of replies runs (omega (arith, same)))

one_longer : {A : Type 0} (xs : List A) (x : A) → length (xs ++ x ∷ []) ≡ suc (length xs)
one_longer [] x = refl
one_longer (y ∷ ys) x = ap suc (one_longer ys x)

-- both lists stay of one length, within the room
pub as_long : (replies : List SourceReply) (runs : List Running) (reply : SourceReply) (run : Running) → length runs ≡ length replies
    → length (runs ++ run ∷ []) ≡ length (replies ++ reply ∷ [])
as_long replies runs reply run same = one_longer runs run ∙ (ap suc same ∙ sym (one_longer replies reply))

pub has_room : (replies : List SourceReply) (runs : List Running) (reply : SourceReply) (room : ℕ) → length runs ≡ length replies
    → length (side_by_side replies runs) < room → length (replies ++ reply ∷ []) ≤ room
has_room replies runs reply room same lt = omega (arith, one_longer replies reply, as_many replies runs same, lt)

-- a reply and what got it were added
pub room_stays : (replies : Roomy SourceReply) (runs : Roomy Running) (added : Roomy SourceReply) (more : Roomy Running) (room : ℕ) (reply : SourceReply) (run : Running)
    → (length runs.items ≡ length replies.items) × (replies.room ≡ room) × (runs.room ≡ room) × (length replies.items ≤ room)
    → length (side_by_side replies.items runs.items) < room
    → added ≡ record replies { items = replies.items ++ reply ∷ [] } → more ≡ record runs { items = runs.items ++ run ∷ [] }
    → (length more.items ≡ length added.items) × (added.room ≡ room) × (more.room ≡ room) × (length added.items ≤ room)
room_stays replies runs added more room reply run kept lt is also =
    rw (is, also) (as_long replies.items runs.items reply run kept.0, kept.1, kept.2, has_room replies.items runs.items reply room kept.0 lt)
