-- The seats stay parts of the first one.
use Rattle.std.proofs.Common.{◌≡◌, ◌≢◌, ℕ, zero, suc, ◌+◌, ◌-◌, ◌≤◌, ◌<◌, max, Bool, true, false, true≢false, List, [], ◌∷◌, ◌++◌, length, set, refl, sym, ap, ◌∙◌, subst, ⊎_elim, arith, length-append}
use mathlib.Core.Option.{some, some-injective, some-ne-none}
use mathlib.Core.Logic.{dite}
use native.Mathlib.Decide.{ℕ_discrete}
use lib.ListN.{get_elem?}
use Rattle.atomic_table.proofs.Lists.{at_set, at_snoc, set_else, at_longer, at_last}
use Rattle.word_runner.specs.table_rule.Seen.{SeatView, nobody}
use Rattle.word_runner.specs.table_rule.Parts.{total, doubled, grains, AreCoarse, halved, AllCoarse, IsPart, IsWhole}
use Rattle.word_runner.specs.table_rule.Plays.{parted, cut_off, joined}
use Rattle.word_runner.proofs.table_rule.Sums.{total_set, total_append}

-- ---- parts

grains_append : (m : ℕ) (xs ys : List ℕ) → grains m (xs ++ ys) ≡ grains m xs + grains m ys
grains_append m [] ys = omega arith
grains_append m (x ∷ xs) ys = omega (arith, grains_append m xs ys)

coarse_front : (m : ℕ) (xs ys : List ℕ) → AreCoarse m (xs ++ ys) → AreCoarse m xs
coarse_front m [] ys h = tt
coarse_front m (x ∷ xs) ys h = (h.0, coarse_front m xs ys h.1)

coarse_back : (m : ℕ) (xs ys : List ℕ) → AreCoarse m (xs ++ ys) → AreCoarse m ys
coarse_back m [] ys h = h
coarse_back m (x ∷ xs) ys h = coarse_back m xs ys h.1

coarse_halved : (m : ℕ) (ks : List ℕ) → AreCoarse m (halved ks) → AreCoarse m ks
coarse_halved m [] h = tt
coarse_halved m (k ∷ ks) h = (omega (arith, h.0), coarse_halved m ks h.1)

grains_halved : (m : ℕ) (ks : List ℕ) → AreCoarse m (halved ks) → grains m (halved ks) + grains m (halved ks) ≡ grains m ks
grains_halved m [] h = refl
grains_halved m (k ∷ ks) h =
    let less : m - k ≡ suc (m - suc k) = omega (arith, h.0) in
    let two : doubled (m - k) ≡ doubled (m - suc k) + doubled (m - suc k) = ap doubled less in
    omega (arith, two, grains_halved m ks h.1)

length_halved : (ks : List ℕ) → length (halved ks) ≡ length ks
length_halved [] = refl
length_halved (k ∷ ks) = omega (arith, length_halved ks)

-- ---- seats

stands : {X : Type 0} (l : List X) (i : ℕ) (a b : X) → get_elem? l i ≡ some b → get_elem? (set l i a) i ≡ some a
stands [] i a b e = absurd (some-ne-none b (sym e))
stands (x ∷ xs) zero a b e = refl
stands (x ∷ xs) (suc i) a b e = stands xs i a b e

abbrev size : ℕ → SeatView → ℕ
size m v = grains m v.parts

-- if no part is smaller than a grain after one seat changed, none was before: this holds of all seats if it holds of that one
was_coarse : (m : ℕ) (views : List SeatView) (id : ℕ) (v w : SeatView) → get_elem? views id ≡ some v → (AreCoarse m w.parts → AreCoarse m v.parts) → AllCoarse m (set views id w) → AllCoarse m views
was_coarse m views id v w at less h by u there = dite (ℕ_discrete by id)
    (λ (is : by ≡ id).
    let same : v ≡ u = some-injective v u (sym at ∙ subst (λ (k : ℕ). get_elem? views k ≡ some u) is there) in
    subst (λ (x : SeatView). AreCoarse m x.parts) same (less (h id w (stands views id w v at))))
    (λ (ne : by ≢ id). h by u (set_else views id by w ne ∙ there))

-- a seat changes, and stays the same part
all_set : (views : List SeatView) (id : ℕ) (v w : SeatView) → IsWhole views → get_elem? views id ≡ some v → w.parts ≡ v.parts → (m : ℕ) → AllCoarse m (set views id w) → total (size m) (set views id w) ≡ doubled m
all_set views id v w h at same m coarse =
    let sum = total_set (size m) views id v w at in
    let equal : size m w ≡ size m v = ap (grains m) same in
    let was : total (size m) views ≡ doubled m = h.all m (was_coarse m views id v w at (subst (AreCoarse m) same) coarse) in
    omega arith

pub whole_set : (views : List SeatView) (id : ℕ) (v w : SeatView) → IsWhole views → get_elem? views id ≡ some v → w.parts ≡ v.parts → w.live ≡ true → v.live ≡ true → IsWhole (set views id w)
whole_set views id v w h at same live was = record {
  each = λ by u there. ⊎_elim
      (λ (t : (by ≡ id) × (w ≡ u)). subst IsPart t.1 (record { holds = λ _. subst (λ (ks : List ℕ). 0 < length ks) (sym same) ((h.each id v at).holds was); bare = λ dead. absurd (true≢false (sym live ∙ dead)) }))
      (λ (t : (by ≢ id) × (get_elem? views by ≡ some u)). h.each by u t.1)
      (at_set views id by w u there);
  all = all_set views id v w h at same;
}

-- a seat splits
pub whole_split : (views : List SeatView) (id : ℕ) (v : SeatView) → IsWhole views → get_elem? views id ≡ some v → v.live ≡ true → IsWhole (set views id (parted v) ++ cut_off v ∷ [])
whole_split views id v h at live =
    let half = halved v.parts in
    let some' : 0 < length half = omega (arith, (h.each id v at).holds live, length_halved v.parts) in
    let mid : List SeatView = set views id (parted v) in record {
      each = λ by u there. ⊎_elim
          (λ (t : get_elem? mid by ≡ some u). ⊎_elim
          (λ (q : (by ≡ id) × (parted v ≡ u)). subst IsPart q.1 (record { holds = λ _. some'; bare = λ dead. absurd (true≢false (sym live ∙ dead)) }))
          (λ (q : (by ≢ id) × (get_elem? views by ≡ some u)). h.each by u q.1)
          (at_set views id by (parted v) u t))
          (λ (t : cut_off v ≡ u). subst IsPart t (record { holds = λ _. some'; bare = λ _. refl }))
          (at_snoc mid (cut_off v) u by there);
      all = λ m coarse.
          let front : AllCoarse m mid = λ by u there. coarse by u (at_longer mid (cut_off v ∷ []) by u there) in
          let fine : AreCoarse m half = front id (parted v) (stands views id (parted v) v at) in
          let was : total (size m) views ≡ doubled m = h.all m (was_coarse m views id v (parted v) at (coarse_halved m v.parts) front) in
          let sum = total_set (size m) views id v (parted v) at in
          let more = total_append (size m) mid (cut_off v ∷ []) in
          let two : grains m half + grains m half ≡ grains m v.parts = grains_halved m v.parts fine in
          omega arith;
    }

-- a seat takes in another
pub whole_join : (views : List SeatView) (id other : ℕ) (v w : SeatView) → IsWhole views → other ≢ id → v.live ≡ true → get_elem? views id ≡ some v → get_elem? views other ≡ some w → get_elem? (set views id (joined v w)) other ≡ some w → IsWhole (set (set views id (joined v w)) other nobody)
whole_join views id other v w h apart live at was there =
    let both = joined v w in
    let mid : List SeatView = set views id both in
    let end : List SeatView = set mid other nobody in
    let some' : 0 < length both.parts = let a = (h.each id v at).holds live in omega (arith, a, length-append v.parts w.parts) in record {
      each = λ by u e. ⊎_elim
          (λ (t : (by ≡ other) × (nobody ≡ u)). subst IsPart t.1 (record { holds = λ f. absurd (true≢false (sym f)); bare = λ _. refl }))
          (λ (t : (by ≢ other) × (get_elem? mid by ≡ some u)). ⊎_elim
          (λ (q : (by ≡ id) × (both ≡ u)). subst IsPart q.1 (record { holds = λ _. some'; bare = λ dead. absurd (true≢false (sym live ∙ dead)) }))
          (λ (q : (by ≢ id) × (get_elem? views by ≡ some u)). h.each by u q.1)
          (at_set views id by both u t.1))
          (at_set mid other by nobody u e);
      all = λ m coarse.
          let fine : AreCoarse m (v.parts ++ w.parts) = coarse id both (set_else mid other id nobody (λ (e : id ≡ other). apart (sym e)) ∙ stands views id both v at) in
          let old : AllCoarse m views = λ by u e. old_coarse m fine by u e coarse in
          let a = total_set (size m) views id v both at in
          let b = total_set (size m) mid other w nobody there in
          let c = grains_append m v.parts w.parts in
          let sum : total (size m) views ≡ doubled m = h.all m old in
          omega arith;
    }
  where
    at_other : (m by : ℕ) (u : SeatView) → by ≢ id → get_elem? views by ≡ some u → AreCoarse m (v.parts ++ w.parts) → AllCoarse m (set (set views id (joined v w)) other nobody) → AreCoarse m u.parts
    at_other m by u ne e fine coarse = dite (ℕ_discrete by other)
        (λ (is : by ≡ other). let same : w ≡ u = some-injective w u (sym was ∙ subst (λ (k : ℕ). get_elem? views k ≡ some u) is e) in subst (λ (x : SeatView). AreCoarse m x.parts) same (coarse_back m v.parts w.parts fine))
        (λ (far : by ≢ other). coarse by u (set_else (set views id (joined v w)) other by nobody far ∙ (set_else views id by (joined v w) ne ∙ e)))

    old_coarse : (m : ℕ) → AreCoarse m (v.parts ++ w.parts) → (by : ℕ) (u : SeatView) → get_elem? views by ≡ some u → AllCoarse m (set (set views id (joined v w)) other nobody) → AreCoarse m u.parts
    old_coarse m fine by u e coarse = dite (ℕ_discrete by id)
        (λ (is : by ≡ id). let same : v ≡ u = some-injective v u (sym at ∙ subst (λ (k : ℕ). get_elem? views k ≡ some u) is e) in subst (λ (x : SeatView). AreCoarse m x.parts) same (coarse_front m v.parts w.parts fine))
        (λ (ne : by ≢ id). at_other m by u ne e fine coarse)

-- ---- nothing comes from nowhere

abbrev greatest : List ℕ → ℕ
greatest [] = 0
greatest (k ∷ ks) = max k (greatest ks)

coarser : (m n : ℕ) (ks : List ℕ) → m ≤ n → AreCoarse m ks → AreCoarse n ks
coarser m n [] le h = tt
coarser m n (k ∷ ks) le h = (omega (arith, h.0), coarser m n ks le h.1)

greatest_coarse : (ks : List ℕ) → AreCoarse (greatest ks) ks
greatest_coarse [] = tt
greatest_coarse (k ∷ ks) = (omega arith, coarser (greatest ks) (max k (greatest ks)) ks (omega arith) (greatest_coarse ks))

abbrev scale : List SeatView → ℕ
scale [] = 0
scale (v ∷ vs) = max (greatest v.parts) (scale vs)

scale_coarse : (vs : List SeatView) → AllCoarse (scale vs) vs
scale_coarse [] by u e = absurd (some-ne-none u (sym e))
scale_coarse (v ∷ vs) zero u e = let same : v ≡ u = some-injective v u e in subst (λ (x : SeatView). AreCoarse (scale (v ∷ vs)) x.parts) same (coarser (greatest v.parts) (scale (v ∷ vs)) v.parts (omega arith) (greatest_coarse v.parts))
scale_coarse (v ∷ vs) (suc by) u e = coarser (scale vs) (scale (v ∷ vs)) u.parts (omega arith) (scale_coarse vs by u e)

doubled_some : (n : ℕ) → 0 < doubled n
doubled_some zero = omega arith
doubled_some (suc n) = omega (arith, doubled_some n)

no_part : (m : ℕ) (ks : List ℕ) → grains m ks ≡ 0 → 0 < length ks → ⊥
no_part m [] none' some' = absurd (omega (arith, some'))
no_part m (k ∷ ks) none' some' = absurd (omega (arith, none', doubled_some (m - k)))

none_from : (views : List SeatView) (w : SeatView) → ((m : ℕ) → AllCoarse m views → total (size m) views ≡ doubled m) → IsWhole (views ++ w ∷ []) → (w.live ≡ false) × (w.entries ≡ [])
none_from views w whole later =
    let all : List SeatView = views ++ w ∷ [] in
    let m = scale all in
    let coarse = scale_coarse all in
    let now : total (size m) all ≡ doubled m = later.all m coarse in
    let was : total (size m) views ≡ doubled m = whole m (λ by u e. coarse by u (at_longer views (w ∷ []) by u e)) in
    let sum = total_append (size m) views (w ∷ []) in
    let none' : grains m w.parts ≡ 0 = omega arith in
    let mine = later.each (length views) w (at_last views w (length views) refl) in
    of m mine none' w.live refl
  where
    of : (m : ℕ) → IsPart w → grains m w.parts ≡ 0 → (b : Bool) → w.live ≡ b → (w.live ≡ false) × (w.entries ≡ [])
    of m mine none' true is = absurd (no_part m w.parts none' (mine.holds is))
    of m mine none' false is = (is, mine.bare is)

pub none_comes : (views : List SeatView) (w : SeatView) → IsWhole views → IsWhole (views ++ w ∷ []) → (w.live ≡ false) × (w.entries ≡ [])
none_comes views w h later = none_from views w h.all later

pub none_split : (views : List SeatView) (id : ℕ) (v left w : SeatView) → IsWhole views → get_elem? views id ≡ some v → left.parts ≡ v.parts → IsWhole (set views id left ++ w ∷ []) → (w.live ≡ false) × (w.entries ≡ [])
none_split views id v left w h at same later = none_from (set views id left) w (all_set views id v left h at same) later
