-- The length of the longest script so far.
use Rattle.std.proofs.Common.{◌≡◌, ◌≢◌, ◌≤◌, ◌<◌, ◌+◌, ℕ, List, length, get_or, arith, sym, ap, ◌∙◌, subst}
use Rattle.std.specs.Prelude.{slice_index_or}
use Rattle.std.proofs.lemmas.List.{get_or_default}
use mathlib.Core.Logic.{dite}
use native.Mathlib.Decide.{ℕ_discrete}
use Rattle.caller_parts.specs.declared.call.Call.{Call}
use Rattle.thread_runs.specs.Scripts.{IsRoomForEach}

-- so many scripts from the first on fit the room
abbrev pub FitFirst : List (List Call) → ℕ → ℕ → Type 0
FitFirst scripts i room = (k : ℕ) (d : List Call) → k < i → length (slice_index_or scripts k d) ≤ room

pub fit_more : (scripts : List (List Call)) (i room more : ℕ) (item : List Call) → i < length scripts → item ≡ get_or scripts i item → room ≤ more → length item ≤ more
    → FitFirst scripts i room → FitFirst scripts (i + 1) more
fit_more scripts i room more item within is le long fit k d lt = dite (ℕ_discrete k i)
    (λ (q : k ≡ i). let same : slice_index_or scripts k d ≡ item = ap (λ (j : ℕ). slice_index_or scripts j d) q ∙ (sym (get_or_default scripts i item d within) ∙ sym is) in
    subst (λ (l : List Call). length l ≤ more) (sym same) long)
    (λ (q : k ≢ i). let one = fit k d (omega arith) in omega (arith, one, le))

-- a room that holds each script holds that one
pub item_within : (scripts : List (List Call)) (i room : ℕ) (item : List Call) → i < length scripts → item ≡ get_or scripts i item → IsRoomForEach scripts room → length item ≤ room
item_within scripts i room item within is fits = subst (λ (l : List Call). length l ≤ room) (sym (get_or_default scripts i item item within) ∙ sym is) (fits i item within)
