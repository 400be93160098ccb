-- States of a table that show a state of the core, word by word and seat by seat; and of each other state what it breaks.
use Rattle.std.proofs.Common.{◌≡◌, ℕ, zero, suc, ◌+◌, ◌≤◌, ◌<◌, Bool, true, false, List, [], ◌∷◌, Option, Some, None, refl, ap, subst, arith}
use Rattle.std.specs.List.{AllByRecursion}
use Rattle.std.specs.Prelude.{slice_index, slice_get, length}
use Rattle.std.proofs.lemmas.List.Sorted.{sum_by-IsPermutation}
use mathlib.Core.Option.{some, none}
use lib.ListN.{get_elem?}
use Rattle.caller_steps.specs.Entries.{Entry, RoomyEntry, idle_entry, is_idle}
use Rattle.word_runner.specs.table_rule.Seen.{Fixed, SeatView, nobody}
use Rattle.word_runner.specs.table_rule.Rule.{IsPlace, IsSeen, held}
use Rattle.law_rows.specs.TableStates.{ShownRows, NotShownRows, NotClosedRows, with_reply, as_made, two_key, table_words, core_with, at_start, with_begun, begun, seat, seat_with, seat_found}

-- ---- states that are shown

seen_each : (words : List ℕ) (all : List Entry) (views : List SeatView) → AllByRecursion (IsSeen two_key words all) views → (by : ℕ) (v : SeatView) → get_elem? views by ≡ some v → IsSeen two_key words all v
seen_each words all [] each by v is = absurd (let no : none ≡ some v = is in cc)
seen_each words all (w ∷ ws) each zero v is = subst (IsSeen two_key words all) (let same : w ≡ v = cc in same) each.0
seen_each words all (w ∷ ws) each (suc by) v is = seen_each words all ws each.1 by v is

-- the words but the places are the core's
same_words : (one two : ℕ) (e : Entry) (i : ℕ) → ¬ IsPlace 2 i → slice_index (table_words one two 0) i ≡ slice_index (core_with e).words i
same_words one two e (suc zero) free = absurd (free (omega arith, omega arith))
same_words one two e (suc (suc zero)) free = absurd (free (omega arith, omega arith))
same_words one two e _ free = refl

-- of both callers
abbrev Both : (ℕ → Type 0) → Type 0
Both P = P 0 × P 1

both : (P : ℕ → Type 0) → Both P → (c : ℕ) → c < 2 → P c
both P are zero lt = are.0
both P are (suc zero) lt = are.1
both P are (suc (suc c)) lt = absurd (omega arith)

no_place_found : (words : List ℕ) (k : ℕ) → k < 0 → slice_index words (1 + k) ≡ 1
no_place_found words k lt = absurd (omega arith)

first_place_found : (k : ℕ) → k < 1 → slice_index (table_words 1 0 0) (1 + k) ≡ 1
first_place_found zero lt = refl
first_place_found (suc k) lt = absurd (omega arith)

vacant : (words : List ℕ) (all : List Entry) → IsSeen two_key words all seat
vacant words all = record { fixed = λ live. refl; within = omega arith; places = no_place_found words; here = tt }

entered_seat : (e : Entry) → e.number ≡ 0 → IsSeen two_key (table_words 1 0 0) (core_with e).entries (seat_with (e ∷ []))
entered_seat e is = record { fixed = λ live. refl; within = omega arith; places = no_place_found (table_words 1 0 0); here = (ap (slice_get (core_with e).entries) is, tt) }

other_seat : (e : Entry) → IsSeen two_key (table_words 1 0 0) (core_with e).entries (seat_found 1)
other_seat e = record { fixed = λ live. refl; within = omega arith; places = first_place_found; here = tt }

joined_away : (words : List ℕ) (all : List Entry) → IsSeen two_key words all nobody
joined_away words all = record { fixed = λ live. absurd (let no : false ≡ true = live in cc); within = omega arith; places = no_place_found words; here = tt }

pub shown_rows : ShownRows
shown_rows = record {
  start = refl;
  begun_runs = refl;
  empty = record {
    count = refl;
    seen = seen_each (table_words 0 0 0) at_start.entries (seat ∷ []) (vacant (table_words 0 0 0) at_start.entries, tt);
    same = same_words 0 0 (idle_entry 0);
    placed = both (λ c. slice_index (table_words 0 0 0) (1 + c) ≡ held c (seat ∷ [])) (refl, refl);
    once = both (λ c. held c (seat ∷ []) ≤ 1) (omega arith, omega arith);
    absent = both (λ c. held c (seat ∷ []) ≡ 0 → _ ≡ Some (idle_entry c)) ((λ h. refl), (λ h. refl));
  };
  entered = record {
    count = refl;
    seen = seen_each (table_words 1 0 0) at_start.entries (seat_with (idle_entry 0 ∷ []) ∷ seat_found 1 ∷ []) (entered_seat (idle_entry 0) refl, (other_seat (idle_entry 0), tt));
    same = same_words 1 0 (idle_entry 0);
    placed = both (λ c. slice_index (table_words 1 0 0) (1 + c) ≡ held c (seat_with (idle_entry 0 ∷ []) ∷ seat_found 1 ∷ [])) (refl, refl);
    once = both (λ c. held c (seat_with (idle_entry 0 ∷ []) ∷ seat_found 1 ∷ []) ≤ 1) (omega arith, omega arith);
    absent = both (λ c. held c (seat_with (idle_entry 0 ∷ []) ∷ seat_found 1 ∷ []) ≡ 0 → _ ≡ Some (idle_entry c)) ((λ h. refl), (λ h. refl));
  };
  running = record {
    count = refl;
    seen = seen_each (table_words 1 0 0) with_begun.entries (seat_with (begun ∷ []) ∷ seat_found 1 ∷ []) (entered_seat begun refl, (other_seat begun, tt));
    same = same_words 1 0 begun;
    placed = both (λ c. slice_index (table_words 1 0 0) (1 + c) ≡ held c (seat_with (begun ∷ []) ∷ seat_found 1 ∷ [])) (refl, refl);
    once = both (λ c. held c (seat_with (begun ∷ []) ∷ seat_found 1 ∷ []) ≤ 1) (omega arith, omega arith);
    absent = both (λ c. held c (seat_with (begun ∷ []) ∷ seat_found 1 ∷ []) ≡ 0 → _ ≡ Some (idle_entry c)) ((λ h. absurd (let no : ◌≡◌ {A = ℕ} 1 0 = h in omega arith)), (λ h. refl));
  };
  joined = record {
    count = refl;
    seen = seen_each (table_words 1 1 0) at_start.entries (seat_with (idle_entry 0 ∷ idle_entry 1 ∷ []) ∷ nobody ∷ [])
        (record { fixed = λ live. refl; within = omega arith; places = no_place_found (table_words 1 1 0); here = (refl, (refl, tt)) }, (joined_away (table_words 1 1 0) at_start.entries, tt));
    same = same_words 1 1 (idle_entry 0);
    placed = both (λ c. slice_index (table_words 1 1 0) (1 + c) ≡ held c (seat_with (idle_entry 0 ∷ idle_entry 1 ∷ []) ∷ nobody ∷ [])) (refl, refl);
    once = both (λ c. held c (seat_with (idle_entry 0 ∷ idle_entry 1 ∷ []) ∷ nobody ∷ []) ≤ 1) (omega arith, omega arith);
    absent = both (λ c. held c (seat_with (idle_entry 0 ∷ idle_entry 1 ∷ []) ∷ nobody ∷ []) ≡ 0 → _ ≡ Some (idle_entry c)) ((λ h. refl), (λ h. refl));
  };
}

-- ---- states that aren't

abbrev idle_at : Option Entry → Bool
idle_at None = true
idle_at (Some e) = is_idle e.routine

busy : Some begun ≡ Some (idle_entry 0) → ⊥
busy same = let no : false ≡ true = ap idle_at same in cc

callers_in : Fixed → ℕ
callers_in key = key.setting.sizes.callers

pub not_shown_rows : NotShownRows
unfolding callers_in
not_shown_rows = record {
  place_alone = λ h. let is : ◌≡◌ {A = ℕ} 1 0 = h.placed 0 (omega arith) in omega arith;
  second_place_alone = λ h. let is : ◌≡◌ {A = ℕ} 1 0 = h.placed 1 (omega arith) in omega arith;
  entry_alone = λ h. let is : ◌≡◌ {A = ℕ} 0 1 = h.placed 0 (omega arith) in omega arith;
  in_two = λ h. let is : ◌≡◌ {A = ℕ} 1 2 = h.placed 0 (omega arith) in omega arith;
  twice = λ h. let is : 2 ≤ 1 = h.once 0 (omega arith) in omega arith;
  free_found = λ h. let is : ◌≡◌ {A = ℕ} 0 1 = (h.seen 1 (seat_found 2) refl).places 1 (omega arith) in omega arith;
  many_found = λ h. let is : 3 ≤ 2 = (h.seen 1 (seat_found 3) refl).within in omega arith;
  behind = λ h. busy (h.seen 0 (seat_with (idle_entry 0 ∷ [])) refl).here.0;
  absent = λ h. busy (h.absent 0 (omega arith) refl);
  other_root = λ h. let is : ◌≡◌ {A = ℕ} 5 0 = h.same 25 (λ place. omega arith) in omega arith;
  other_phase = λ h. let is : ◌≡◌ {A = ℕ} 2 1 = h.same 0 (λ place. omega arith) in omega arith;
  longer = λ h. let is : ◌≡◌ {A = ℕ} 30 29 = h.count in omega arith;
  strange = λ h. let is : ◌≡◌ {A = ℕ} 0 2 = ap callers_in ((h.seen 0 _ refl).fixed refl) in omega arith;
}

-- ---- ends

replies_kept : RoomyEntry → ℕ
replies_kept r = length r.core.replies

each_once : RoomyEntry → ℕ
each_once r = 1

pub not_closed_rows : NotClosedRows
unfolding replies_kept each_once
not_closed_rows = record {
  emptied = λ h. let is : ◌≡◌ {A = ℕ} 0 1 = sum_by-IsPermutation replies_kept (with_reply ∷ as_made 1 ∷ []) (as_made 0 ∷ as_made 1 ∷ []) h.kept in omega arith;
  lost = λ h. let is : ◌≡◌ {A = ℕ} 1 2 = sum_by-IsPermutation each_once (as_made 0 ∷ as_made 1 ∷ []) (as_made 0 ∷ []) h.kept in omega arith;
  added = λ h. let is : ◌≡◌ {A = ℕ} 2 1 = sum_by-IsPermutation each_once (as_made 0 ∷ []) (as_made 0 ∷ as_made 1 ∷ []) h.kept in omega arith;
}
