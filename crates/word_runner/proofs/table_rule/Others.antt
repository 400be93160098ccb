-- The steps that are no step of the machine keep the rule: taking a place, splitting, joining and looking. And the table at the start and at the end.
use Rattle.std.proofs.Common.{◌≡◌, ◌≢◌, ℕ, zero, suc, ◌+◌, ◌-◌, ◌≤◌, ◌<◌, ◌==◌, ne_eqb, Bool, true, false, true≢false, List, [], ◌∷◌, ◌++◌, length, set, Some, refl, sym, ap, ◌∙◌, subst, ⊎_elim, arith}
use mathlib.Core.Option.{none}
use mathlib.Core.Logic.{dite}
use native.Mathlib.Decide.{ℕ_discrete}
use Rattle.std.proofs.lemmas.Bool.Decides.{nat_tests}
use Rattle.std.specs.Prelude.{slice_index, slice_set, if◌then◌else◌, MatchBool}
use Rattle.std.proofs.Math.ListN.{length-set}
use Rattle.std.proofs.lemmas.List.{get_or-set_same, get_or-set_other, set-get_or}
use mathlib.Core.Option.{some, some-injective, some-ne-none}
use lib.ListN.{get_elem?}
use prog.Atomic.{either}
use Rattle.atomic_table.specs.Table.{State, Me, step, Act, keeps, Valid, carried_after, Allows, Splits, Joins, opening, stepped, Final, Seen}
use Rattle.atomic_table.proofs.Lists.{at_set, at_snoc}
use Rattle.oa_words.specs.Words.{word_count}
use Rattle.caller_steps.specs.Entries.{Entry, idle_entry}
use Rattle.core_runs.specs.Machine.{CoreState, core_start}
use Rattle.core_runs.specs.core_sound.Sound.{IsSound}
use Rattle.core_runs.proofs.Reaching.{starts}
use Rattle.core_runs.proofs.Keeping.{idle_there}
use Rattle.word_runner.proofs.table_rule.Rows.{place_free}
use Rattle.word_runner.specs.table_rule.Seen.{Fixed, IsGround, SeatView, nobody, newcomer}
use Rattle.word_runner.specs.table_rule.Rule.{IsReached, callers_of, IsPlace, times, held, AllHere, IsSeen, Shows, Holds}
use Rattle.word_runner.specs.table_rule.Parts.{doubled, IsPart}
use Rattle.word_runner.specs.table_rule.Plays.{with_accesses, with_entry, parted, cut_off, joined, with_found, Tried, AllBelow, Apart, Looked}
use Rattle.word_runner.proofs.table_rule.Moves.{sound}
use Rattle.word_runner.proofs.table_rule.Sums.{total_set, total_at, total_append, times_self, times_append}
use Rattle.word_runner.proofs.table_rule.Parting.{whole_set, whole_split, whole_join}

here_append : (all xs ys : List Entry) → AllHere all xs → AllHere all ys → AllHere all (xs ++ ys)
here_append all [] ys h k = k
here_append all (x ∷ xs) ys h k = (h.0, here_append all xs ys h.1 k)

below_here : (key : Fixed) (core : CoreState) (es : List Entry) → IsSound key.target.target key.setting core → AllHere core.entries es → AllBelow (callers_of key) es
below_here key core [] good h = tt
below_here key core (e ∷ es) good h = ((good.belong e.number e h.0).0.number, below_here key core es good h.1)

-- splitting
pub split_kept : (key : Fixed) (id : ℕ) (v : SeatView) → v.live ≡ true → Splits (Holds key) id v (parted v) (cut_off v)
split_kept key id v live s h at =
    let half = parted v in
    let mid : List SeatView = set s.views id half in
    let w = cut_off v in
    let mine = h.shows.seen id v at in
    let same_held : (i : ℕ) → held i (mid ++ w ∷ []) ≡ held i s.views = λ i.
    let a = total_set (λ (u : SeatView). times i u.entries) s.views id v half at in
    let b = total_append (λ (u : SeatView). times i u.entries) mid (w ∷ []) in
    omega arith in
    let shows : Shows key s.words (mid ++ w ∷ []) h.core = record {
      count = h.shows.count;
      seen = λ by u there. ⊎_elim
          (λ (t : get_elem? mid by ≡ some u). ⊎_elim
          (λ (q : (by ≡ id) × (half ≡ u)). subst (IsSeen key s.words h.core.entries) q.1 (record { fixed = mine.fixed; within = mine.within; places = mine.places; here = mine.here }))
          (λ (q : (by ≢ id) × (get_elem? s.views by ≡ some u)). h.shows.seen by u q.1)
          (at_set s.views id by half u t))
          (λ (t : w ≡ u). subst (IsSeen key s.words h.core.entries) t (record { fixed = mine.fixed; within = omega arith; places = λ k lt. absurd (omega arith); here = tt }))
          (at_snoc mid w u by there);
      same = h.shows.same;
      placed = λ i lt. h.shows.placed i lt ∙ sym (same_held i);
      once = λ i lt. let q = same_held i in let o = h.shows.once i lt in omega arith;
      absent = λ i lt none. let q = same_held i in h.shows.absent i lt (omega arith);
    } in
    record { good = h.good; core = h.core; reachable = h.reachable; shows = shows; whole = whole_split s.views id v h.whole at live }

-- joining
pub join_kept : (key : Fixed) (id : ℕ) (v : SeatView) (other : ℕ) (w : SeatView) → v.live ≡ true → Joins (Holds key) id v other w (joined v w) nobody
join_kept key id v other w live s h at apart there =
    let both = joined v w in
    let mid : List SeatView = set s.views id both in
    let end : List SeatView = set mid other nobody in
    let was : get_elem? s.views other ≡ some w = ⊎_elim (λ (t : (other ≡ id) × (both ≡ w)). absurd (apart t.0)) (λ (t : (other ≢ id) × (get_elem? s.views other ≡ some w)). t.1) (at_set s.views id other both w there) in
    let mine = h.shows.seen id v at in
    let theirs = h.shows.seen other w was in
    let same_held : (i : ℕ) → held i end ≡ held i s.views = λ i.
    let a = total_set (λ (u : SeatView). times i u.entries) s.views id v both at in
    let b = total_set (λ (u : SeatView). times i u.entries) mid other w nobody there in
    let c = times_append i v.entries w.entries in
    omega arith in
    record {
      good = h.good;
      core = h.core;
      reachable = h.reachable;
      whole = whole_join s.views id other v w h.whole apart live at was there;
      shows = record {
        count = h.shows.count;
        seen = λ by u e. ⊎_elim
            (λ (t : (by ≡ other) × (nobody ≡ u)). subst (IsSeen key s.words h.core.entries) t.1 (record { fixed = λ f. absurd (true≢false (sym f)); within = omega arith; places = λ k lt. absurd (omega arith); here = tt }))
            (λ (t : (by ≢ other) × (get_elem? mid by ≡ some u)). ⊎_elim
            (λ (q : (by ≡ id) × (both ≡ u)). subst (IsSeen key s.words h.core.entries) q.1 (record { fixed = mine.fixed; within = mine.within; places = mine.places; here = here_append h.core.entries v.entries w.entries mine.here theirs.here }))
            (λ (q : (by ≢ id) × (get_elem? s.views by ≡ some u)). h.shows.seen by u q.1)
            (at_set s.views id by both u t.1))
            (at_set mid other by nobody u e);
        same = h.shows.same;
        placed = λ i lt. h.shows.placed i lt ∙ sym (same_held i);
        once = λ i lt. let q = same_held i in let o = h.shows.once i lt in omega arith;
        absent = λ i lt none. let q = same_held i in h.shows.absent i lt (omega arith);
      };
    }

-- an access is counted, and nothing else changes
counts : (key : Fixed) (words : List ℕ) (views : List SeatView) (core : CoreState) (id : ℕ) (v : SeatView) → Shows key words views core → get_elem? views id ≡ some v → Shows key words (set views id (with_accesses v 1)) core
counts key words views core id v h at =
    let w = with_accesses v 1 in
    let mine = h.seen id v at in
    let same_held : (i : ℕ) → held i (set views id w) ≡ held i views = λ i. let t = total_set (λ (u : SeatView). times i u.entries) views id v w at in omega arith in
    record {
      count = h.count;
      seen = λ by u there. ⊎_elim
          (λ (t : (by ≡ id) × (w ≡ u)). subst (IsSeen key words core.entries) t.1 (record { fixed = mine.fixed; within = mine.within; places = mine.places; here = mine.here }))
          (λ (t : (by ≢ id) × (get_elem? views by ≡ some u)). h.seen by u t.1)
          (at_set views id by w u there);
      same = h.same;
      placed = λ i q. h.placed i q ∙ sym (same_held i);
      once = λ i q. let a = same_held i in let o = h.once i q in omega arith;
      absent = λ i q z. let a = same_held i in h.absent i q (omega arith);
    }

-- looking: the entries of a seat have different numbers
pub look_allowed : (key : Fixed) (slots id : ℕ) (me : Me ℕ SeatView) → me.0.live ≡ true → me.0.fixed ≡ key → Allows (Holds key) slots id me 0 (λ n. n) (λ n w. Looked me w)
look_allowed key slots id me live fixed s h len at bound =
    let good = sound key h.core h.good h.reachable in
    let w = with_accesses me.0 1 in
    let words : slice_set s.words 0 (slice_index s.words 0) ≡ s.words = set-get_or s.words 0 0 in
    let mine = h.shows.seen id me.0 at in (
      w,
      keeps,
      tt,
      record {
        good = h.good;
        core = h.core;
        reachable = h.reachable;
        shows = subst (λ (ws : List ℕ). Shows key ws (set s.views id w) h.core) (sym words) (counts key s.words s.views h.core id me.0 h.shows at);
        whole = whole_set s.views id me.0 w h.whole at refl live live;
      },
      record {
        same = refl;
        apart = subst (λ (f : Fixed). Apart f.setting.sizes.callers me.0.entries) (sym fixed) (record {
          once = λ i lt. let a = total_at (λ (u : SeatView). times i u.entries) s.views id me.0 at in let o = h.shows.once i lt in omega arith;
          below = below_here key h.core me.0.entries good mine.here;
        });
      },
    )

-- the start
first_view : (key : Fixed) (by : ℕ) (v : SeatView) → get_elem? (newcomer key ∷ []) by ≡ some v → newcomer key ≡ v
first_view key zero v e = some-injective _ _ e
first_view key (suc by) v e = absurd (some-ne-none v (sym e))

pub opens : (key : Fixed) (words : List ℕ) → IsGround key → words ≡ (core_start key.target.target key.setting).words → Holds key (opening words [] (newcomer key))
opens key words good is =
    let first = core_start key.target.target key.setting in
    let begun : IsReached key first = starts key.target.target key.setting in
    subst (λ (ws : List ℕ). Holds key (opening ws [] (newcomer key))) (sym is) (record {
      good = good;
      core = first;
      reachable = begun;
      shows = record {
        count = (sound key first good begun).count;
        seen = λ by v e. subst (IsSeen key first.words first.entries) (first_view key by v e) (record { fixed = λ _. refl; within = omega arith; places = λ k lt. absurd (omega arith); here = tt });
        same = λ i no'. refl;
        placed = λ i lt. place_free key.target.target key.target.source key.setting i good.runs good.own good.fits lt;
        once = λ i lt. omega arith;
        absent = λ i lt none'. idle_there 0 (callers_of key) i lt ∙ ap (λ (j : ℕ). Some (idle_entry j)) (omega arith);
      };
      whole = record {
        each = λ by v e. subst IsPart (first_view key by v e) (record { holds = λ _. omega arith; bare = λ _. refl });
        all = λ m coarse. let same : doubled (m - 0) ≡ doubled m = ap doubled (omega arith) in omega arith;
      };
    })

pub opening_count : (key : Fixed) (words : List ℕ) → IsGround key → words ≡ (core_start key.target.target key.setting).words → length words ≡ word_count key.setting.sizes
opening_count key words good is = ap length is ∙ (sound key (core_start key.target.target key.setting) good (starts key.target.target key.setting)).count

-- a place is tried
index_set : (ws : List ℕ) (i x : ℕ) → i < length ws → slice_index (set ws i x) i ≡ x
index_set ws i x lt = get_or-set_same ws i x 0 lt

times_none : (i c : ℕ) → i ≢ c → times i (idle_entry c ∷ []) ≡ 0
times_none i c ne = ap (λ (b : Bool). (if b then 1 else 0) + 0) (ne_eqb c i (λ q. ne (sym q)))

won : (key : Fixed) (words : List ℕ) (views : List SeatView) (core : CoreState) (id : ℕ) (v : SeatView) (c : ℕ) → Shows key words views core → get_elem? views id ≡ some v → (v.live ≡ true → v.fixed ≡ key) → v.entries ≡ [] → c < key.setting.sizes.callers → slice_index words (1 + c) ≡ 0
    → Shows key (slice_set words (1 + c) 1) (set views id (with_accesses (with_entry v (idle_entry c)) 1)) core
won key words views core id v c h at fixed empty lt free =
    let e = idle_entry c in
    let w = with_accesses (with_entry v e) 1 in
    let mine = h.seen id v at in
    let was : held c views ≡ 0 = sym (h.placed c lt) ∙ free in
    let held_more : (i : ℕ) → held i (set views id w) ≡ held i views + times i (e ∷ []) = λ i. let t = total_set (λ (u : SeatView). times i u.entries) views id v w at in let z : times i v.entries ≡ 0 = ap (times i) empty in omega arith in
    let len : 1 + c < length words = omega (arith, h.count) in
    let now : slice_index (slice_set words (1 + c) 1) (1 + c) ≡ 1 = index_set words (1 + c) 1 len in
    let else' : (i : ℕ) → i ≢ 1 + c → slice_index (slice_set words (1 + c) 1) i ≡ slice_index words i = λ i ne. get_or-set_other words (1 + c) i 1 0 ne in
    let place : (k : ℕ) → slice_index words (1 + k) ≡ 1 → slice_index (slice_set words (1 + c) 1) (1 + k) ≡ 1 = λ k one. else' (1 + k) (λ (q : 1 + k ≡ 1 + c). let z : 1 ≡ 0 = sym one ∙ (ap (slice_index words) q ∙ free) in absurd (omega arith)) ∙ one in
    record {
      count = length-set words (1 + c) 1 ∙ h.count;
      seen = λ by u there. ⊎_elim
          (λ (t : (by ≡ id) × (w ≡ u)). subst (IsSeen key (slice_set words (1 + c) 1) core.entries) t.1 (record { fixed = fixed; within = mine.within; places = λ k q. place k (mine.places k q); here = (h.absent c lt was, tt) }))
          (λ (t : (by ≢ id) × (get_elem? views by ≡ some u)). let its = h.seen by u t.1 in record { fixed = its.fixed; within = its.within; places = λ k q. place k (its.places k q); here = its.here })
          (at_set views id by w u there);
      same = λ i no. else' i (λ (q : i ≡ 1 + c). no (subst (λ (k : ℕ). IsPlace key.setting.sizes.callers k) (sym q) (omega arith, omega arith))) ∙ h.same i no;
      placed = λ i q. dite (ℕ_discrete i c)
          (λ (is : i ≡ c). subst (λ (k : ℕ). slice_index (slice_set words (1 + c) 1) (1 + k) ≡ held k (set views id w)) (sym is) (now ∙ (let a = held_more c in let b = times_self e c refl in omega arith)))
          (λ (ne : i ≢ c). else' (1 + i) (λ q'. ne (omega arith)) ∙ (h.placed i q ∙ (let a = held_more i in let b = times_none i c ne in omega arith)));
      once = λ i q. dite (ℕ_discrete i c)
          (λ (is : i ≡ c). subst (λ (k : ℕ). held k (set views id w) ≤ 1) (sym is) (let a = held_more c in let b = times_self e c refl in omega arith))
          (λ (ne : i ≢ c). let a = held_more i in let b = times_none i c ne in let o = h.once i q in omega arith);
      absent = λ i q z. h.absent i q (let a = held_more i in omega arith);
    }

lost : (key : Fixed) (words : List ℕ) (views : List SeatView) (core : CoreState) (id : ℕ) (v : SeatView) → Shows key words views core → get_elem? views id ≡ some v → v.found < key.setting.sizes.callers → slice_index words (1 + v.found) ≡ 1
    → Shows key words (set views id (with_accesses (with_found v (v.found + 1)) 1)) core
lost key words views core id v h at lt full =
    let w = with_accesses (with_found v (v.found + 1)) 1 in
    let mine = h.seen id v at in
    let same_held : (i : ℕ) → held i (set views id w) ≡ held i views = λ i. let t = total_set (λ (u : SeatView). times i u.entries) views id v w at in omega arith in
    record {
      count = h.count;
      seen = λ by u there. ⊎_elim
          (λ (t : (by ≡ id) × (w ≡ u)). subst (IsSeen key words core.entries) t.1 (record {
            fixed = mine.fixed;
            within = omega arith;
            places = λ k q. dite (ℕ_discrete k v.found)
                (λ (is : k ≡ v.found). subst (λ (j : ℕ). slice_index words (1 + j) ≡ 1) (sym is) full)
                (λ (ne : k ≢ v.found). mine.places k (omega arith));
            here = mine.here;
          }))
          (λ (t : (by ≢ id) × (get_elem? views by ≡ some u)). h.seen by u t.1)
          (at_set views id by w u there);
      same = h.same;
      placed = λ i q. h.placed i q ∙ sym (same_held i);
      once = λ i q. let a = same_held i in let o = h.once i q in omega arith;
      absent = λ i q z. let a = same_held i in h.absent i q (omega arith);
    }

abbrev as_me : SeatView → List (ℕ × ℕ) → Me ℕ SeatView
as_me v c = (v, c)

-- the rule and what is told, after a try that found n and left x
abbrev TryGoes : (key : Fixed) (slots id : ℕ) (me : Me ℕ SeatView) (s : State ℕ SeatView) (n x : ℕ) (hit : Bool) → Type 0
TryGoes key slots id me s n x hit = (w : SeatView) × (a : Act ℕ) × Valid s.homes me.1 a × Holds key (stepped s (1 + me.0.found) x id me.1 w a)
    × MatchBool hit (as_me w (carried_after me.1 a) ≡ as_me (with_accesses (with_entry me.0 (idle_entry me.0.found)) 1) []) (as_me w (carried_after me.1 a) ≡ as_me (with_accesses (with_found me.0 (me.0.found + 1)) 1) [])

try_goes : (key : Fixed) (slots id : ℕ) (me : Me ℕ SeatView) (s : State ℕ SeatView) → me.1 ≡ [] → me.0.live ≡ true → me.0.fixed ≡ key → me.0.entries ≡ [] → me.0.found < key.setting.sizes.callers → Holds key s → get_elem? s.views id ≡ some me.0
    → (hit : Bool) → (slice_index s.words (1 + me.0.found) == 0) ≡ hit → TryGoes key slots id me s (slice_index s.words (1 + me.0.found)) (either hit 1 (slice_index s.words (1 + me.0.found))) hit
try_goes key slots id me s bare live fixed empty lt h at true is =
    let free : slice_index s.words (1 + me.0.found) ≡ 0 = grind (arith, nat_tests) in
    let w = with_accesses (with_entry me.0 (idle_entry me.0.found)) 1 in
    (w, keeps, tt, record { good = h.good; core = h.core; reachable = h.reachable; shows = won key s.words s.views h.core id me.0 me.0.found h.shows at (λ _. fixed) empty lt free; whole = whole_set s.views id me.0 w h.whole at refl live live }, (λ i. (w, bare i)))
try_goes key slots id me s bare live fixed empty lt h at false is =
    let n : ℕ = slice_index s.words (1 + me.0.found) in
    let some' : n ≢ 0 = grind (arith, nat_tests) in
    let full : n ≡ 1 = let p = h.shows.placed me.0.found lt in let o = h.shows.once me.0.found lt in omega arith in
    let w = with_accesses (with_found me.0 (me.0.found + 1)) 1 in
    let words : slice_set s.words (1 + me.0.found) n ≡ s.words = set-get_or s.words (1 + me.0.found) 0 in
    (w, keeps, tt, record { good = h.good; core = h.core; reachable = h.reachable; shows = subst (λ (ws : List ℕ). Shows key ws (set s.views id w) h.core) (sym words) (lost key s.words s.views h.core id me.0 h.shows at lt full); whole = whole_set s.views id me.0 w h.whole at refl live live }, (λ i. (w, bare i)))

pub try_allowed : (key : Fixed) (slots id word : ℕ) (me : Me ℕ SeatView) → word ≡ 1 + me.0.found → me.1 ≡ [] → me.0.live ≡ true → me.0.fixed ≡ key → me.0.entries ≡ [] → me.0.found < key.setting.sizes.callers
    → Allows (Holds key) slots id me word (λ n. either (n == 0) 1 n) (Tried (step slots word 0 1 none) me)
try_allowed key slots id word me at_word bare live fixed no_entry lt =
    let family : ℕ → Type 0 = λ k. Allows (Holds key) slots id me k (λ n. either (n == 0) 1 n) (Tried (step slots k 0 1 none) me) in
    subst family (sym at_word) (λ s h len at bound.
    let g = try_goes key slots id me s bare live fixed no_entry lt h at (slice_index s.words (1 + me.0.found) == 0) refl in
    let number : 1 + me.0.found - 1 ≡ me.0.found = omega arith in
    (g.0, g.1, g.2, g.3, rw number g.4))

-- the end
pub record Closes (key : Fixed) (words : List ℕ) (es : List Entry) : Type 0 where
  pub good : IsGround key
  pub core : CoreState
  pub reachable : IsReached key core
  pub phase : slice_index words 0 ≡ slice_index core.words 0
  pub here : AllHere core.entries es

pub closes : (key : Fixed) (id : ℕ) (v : SeatView) (words xs : List ℕ) → Final (Seen (Holds key) id v) words xs → Closes key words v.entries
closes key id v words xs f =
    let h = f.1.0 in record {
      good = h.good;
      core = h.core;
      reachable = h.reachable;
      phase = ap (λ (ws : List ℕ). slice_index ws 0) (sym f.2) ∙ h.shows.same 0 (λ (p : IsPlace key.setting.sizes.callers 0). absurd (omega arith));
      here = (h.shows.seen id v f.1.1).here;
    }
