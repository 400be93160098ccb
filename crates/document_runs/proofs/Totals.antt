-- Sums over callers that stay at their type's end.
use Rattle.std.proofs.Common.{◌≡◌, ℕ, ◌+◌, ◌-◌, ◌<◌, ◌≤◌, ◌^◌, min, List, map, length, drop, get_or, refl, sym, ap, ◌∙◌, arith}
use Rattle.std.proofs.lemmas.List.{drop_more, drop_all}
use Rattle.std.proofs.lemmas.List.Sums.{sum_by-cons}
use Rattle.std.specs.List.{sum_by}
use Rattle.caller_steps.specs.Entries.{Entry, RoomyEntry}
use Rattle.oa_core.specs.Finals.{core_part}
use Rattle.document_runs.specs.Reports.{capped, claims_of, restarts_of}

-- the sum so far and what is left
abbrev pub with_rest : (Entry → ℕ) → ℕ → ℕ → List RoomyEntry → ℕ
with_rest f so_far i entries = capped (so_far + sum_by f (map core_part (drop i entries)))

turn : (f : Entry → ℕ) (entries : List RoomyEntry) (i : ℕ) (d : RoomyEntry) → i < length entries
    → sum_by f (map core_part (drop i entries)) ≡ f (get_or entries i d).core + sum_by f (map core_part (drop (i + 1) entries))
turn f entries i d lt = rw (drop_more entries i d lt) (sum_by-cons f (get_or entries i d).core (map core_part (drop (i + 1) entries)))

capped_more : (a x s : ℕ) → capped (capped (a + x) + s) ≡ capped (a + (x + s))
capped_more a x s = omega arith

total_more : (f : Entry → ℕ) (entries : List RoomyEntry) (i : ℕ) (d : RoomyEntry) (so_far whole : ℕ) → i < length entries
    → with_rest f so_far i entries ≡ whole → with_rest f (capped (so_far + f (get_or entries i d).core)) (i + 1) entries ≡ whole
total_more f entries i d so_far whole lt is =
    capped_more so_far (f (get_or entries i d).core) (sum_by f (map core_part (drop (i + 1) entries)))
    ∙ ap (λ (rest : ℕ). capped (so_far + rest)) (sym (turn f entries i d lt)) ∙ is

total_end : (f : Entry → ℕ) (entries : List RoomyEntry) (i so_far whole : ℕ) → length entries ≤ i → so_far ≤ 2 ^ 64 - 1
    → with_rest f so_far i entries ≡ whole → so_far ≡ whole
total_end f entries i so_far whole le fits is =
    let none : sum_by f (map core_part (drop i entries)) ≡ 0 = rw (drop_all i entries le) refl in
    let same : with_rest f so_far i entries ≡ capped (so_far + 0) = ap (λ (rest : ℕ). capped (so_far + rest)) none in
    omega (arith, same, is, fits)

pub claims_more : (entries : List RoomyEntry) (i : ℕ) (d : RoomyEntry) (so_far whole : ℕ) → i < length entries
    → with_rest claims_of so_far i entries ≡ whole → with_rest claims_of (min (so_far + (get_or entries i d).core.counts.claims) (2 ^ 64 - 1)) (i + 1) entries ≡ whole
claims_more entries i d so_far whole lt is = total_more claims_of entries i d so_far whole lt is

pub claims_end : (entries : List RoomyEntry) (i so_far whole : ℕ) → length entries ≤ i → so_far ≤ 2 ^ 64 - 1 → with_rest claims_of so_far i entries ≡ whole → so_far ≡ whole
claims_end entries i so_far whole le fits is = total_end claims_of entries i so_far whole le fits is

pub restarts_more : (entries : List RoomyEntry) (i : ℕ) (d : RoomyEntry) (so_far whole : ℕ) → i < length entries
    → with_rest restarts_of so_far i entries ≡ whole → with_rest restarts_of (min (so_far + (get_or entries i d).core.counts.restarts) (2 ^ 64 - 1)) (i + 1) entries ≡ whole
restarts_more entries i d so_far whole lt is = total_more restarts_of entries i d so_far whole lt is

pub restarts_end : (entries : List RoomyEntry) (i so_far whole : ℕ) → length entries ≤ i → so_far ≤ 2 ^ 64 - 1 → with_rest restarts_of so_far i entries ≡ whole → so_far ≡ whole
restarts_end entries i so_far whole le fits is = total_end restarts_of entries i so_far whole le fits is
