-- Slots of one kind, by its range, up to the frontier of its claims.
use Rattle.std.proofs.Common.{ℕ, ◌≡◌, ◌≢◌, ◌+◌, ◌≤◌, ◌<◌, ◌⊎◌, ◌∙◌, arith, inl, inr, ⊎_elim, sym, ap, subst}
use Rattle.std.proofs.lemmas.Bool.{cases_eq, cases_lt}
use Rattle.oa_words.specs.Words.{Word, Status, Head, Link, SlotRange, IsSlot}
use Rattle.oa_words.specs.Packed.{head_parts}
use Rattle.oa_words.specs.Starts.{slot_or_none, slot_after}
use Rattle.chain_laws.specs.Chains.{top}
use Rattle.chain_laws.specs.claim_order.Frontier.{IsNear, IsPast, IsGood, IsOrdered, LookFits}
use Rattle.chain_laws.proofs.Start.{none_past_last, slot_inside}

-- ---- slots up to the frontier

pub near_below : (range : SlotRange) (v x : ℕ) → IsNear range v x → x ≤ v
near_below range v x (inl none) = let is = none.0 in omega (arith, is)
near_below range v x (inr some) = some.1

pub near_inside : (range : SlotRange) (v x : ℕ) → IsNear range v x → x ≤ range.last
near_inside range v x (inl none) = let is = none.0 in omega (arith, is)
near_inside range v x (inr some) = some.2

-- if none is near, the frontier is past the last
pub near_none : (range : SlotRange) (v x : ℕ) → 1 ≤ range.first → x ≡ 0 → IsNear range v x → range.last < v
near_none range v x above is (inl none) = none.1
near_none range v x above is (inr some) = let low = some.0 in let differ : ⊥ = omega (arith, is, low, above) in absurd differ

pub near_some : (range : SlotRange) (v x : ℕ) → x ≢ 0 → IsNear range v x → range.first ≤ x
near_some range v x some (inl none) = absurd (some none.0)
near_some range v x some (inr slot) = slot.0

near_up : (range : SlotRange) (v x : ℕ) → IsNear range v x → IsNear range (v + 1) x
near_up range v x (inl none) = inl (none.0, (let lt = none.1 in omega (arith, lt)))
near_up range v x (inr some) = inr (some.0, (let le = some.1 in omega (arith, le)), some.2)

-- the frontier itself, or none if it is past the last
near_from : (range : SlotRange) (v : ℕ) → range.first ≤ v → IsNear range v (slot_or_none range v)
near_from range v low = ⊎_elim
    (λ (out : range.last < v). inl (none_past_last range v out, out))
    (λ (le : v ≤ range.last). let is = slot_inside range v le in inr (omega (arith, is, low), omega (arith, is), omega (arith, is, le)))
    (cases_lt range.last v)

pub near_past : (range : SlotRange) (v j : ℕ) → IsPast range v j → j ≤ range.last → IsNear range v j
near_past range v j past le = inr (past.0, (let lt = past.1 in omega (arith, lt)), le)

-- ---- words

-- links of the range that name none past the frontier go on so
abbrev pub Stays : SlotRange → ℕ → (Word → ℕ) → (Word → ℕ) → Type 0
Stays range v m m' = (j : ℕ) → IsSlot range j → IsNear range v (m (Link j)) → IsNear range v (m' (Link j))

pub good_stays : (range : SlotRange) (v : ℕ) (m m' : Word → ℕ) (x : ℕ) → Stays range v m m' → IsGood range m v x → IsGood range m' v x
good_stays range v m m' x stay good = (good.0, λ past. stay x (past.0, near_inside range v x good.0) (good.1 past))

-- a link of the range stays, or a good one is stored
abbrev pub LinkStep : SlotRange → ℕ → (Word → ℕ) → (Word → ℕ) → Type 0
LinkStep range v m m' = (j : ℕ) → IsSlot range j → (m' (Link j) ≡ m (Link j)) ⊎ (IsPast range v j × IsGood range m v (m' (Link j)))

links_stay : (range : SlotRange) (v : ℕ) (m m' : Word → ℕ) → LinkStep range v m m' → Stays range v m m'
links_stay range v m m' links j slot near = ⊎_elim
    (λ (same : m' (Link j) ≡ m (Link j)). subst (λ (x : ℕ). IsNear range v x) (sym same) near)
    (λ (new : IsPast range v j × IsGood range m v (m' (Link j))). new.1.0)
    (links j slot)

-- a slot that was claimed is of the range, and so is one from the frontier on
pub past_slot : (tops : ℕ) (range : SlotRange) (k nodes first : ℕ) (m : Word → ℕ) (v j : ℕ) → IsOrdered tops range k nodes first m v → IsPast range v j → IsSlot range j
past_slot tops range k nodes first m v j o past = (past.0, (let lt = past.1 in let most = o.greatest in omega (arith, lt, most)))

from_slot : (tops : ℕ) (range : SlotRange) (k nodes first : ℕ) (m : Word → ℕ) (v j : ℕ) → IsOrdered tops range k nodes first m v → v ≤ j → j ≤ range.last → IsSlot range j
from_slot tops range k nodes first m v j o le within = ((let least = o.least in omega (arith, least, le)), within)

pub ordered_with : (tops : ℕ) (range : SlotRange) (k nodes first : ℕ) (m m' : Word → ℕ) (v : ℕ) → IsOrdered tops range k nodes first m v → IsGood range m v (top tops m' k) → LinkStep range v m m'
    → ((j : ℕ) → IsSlot range j → (m' (Status j) ≡ m (Status j)) ⊎ (j < v)) → IsOrdered tops range k nodes first m' v × Stays range v m m'
ordered_with tops range k nodes first m m' v o good links statuses =
    let stay : Stays range v m m' = links_stay range v m m' links in (
      record {
        above_null = o.above_null;
        least = o.least;
        greatest = o.greatest;
        top_good = good_stays range v m m' (top tops m' k) stay good;
        link_good = λ j past near. ⊎_elim
            (λ (same : m' (Link j) ≡ m (Link j)).
            good_stays range v m m' (m' (Link j)) stay (subst (λ (x : ℕ). IsGood range m v x) (sym same) (o.link_good j past (subst (λ (x : ℕ). IsNear range v x) same near))))
            (λ (new : IsPast range v j × IsGood range m v (m' (Link j))). good_stays range v m m' (m' (Link j)) stay new.1)
            (links j (past_slot tops range k nodes first m v j o past));
        link_first = λ j le within. ⊎_elim
            (λ (same : m' (Link j) ≡ m (Link j)). same ∙ o.link_first j le within)
            (λ (new : IsPast range v j × IsGood range m v (m' (Link j))). let lt = new.0.1 in let differ : ⊥ = omega (arith, le, lt) in absurd differ)
            (links j (from_slot tops range k nodes first m v j o le within));
        status_first = λ j le within. ⊎_elim
            (λ (same : m' (Status j) ≡ m (Status j)). same ∙ o.status_first j le within)
            (λ (lt : j < v). let differ : ⊥ = omega (arith, le, lt) in absurd differ)
            (statuses j (from_slot tops range k nodes first m v j o le within));
      },
      stay,
    )

-- the top is good if the head is the same
pub top_kept : (tops : ℕ) (range : SlotRange) (k nodes first : ℕ) (m m' : Word → ℕ) (v : ℕ) → m' (Head k) ≡ m (Head k) → IsOrdered tops range k nodes first m v → IsGood range m v (top tops m' k)
top_kept tops range k nodes first m m' v is o = subst (λ (w : ℕ). IsGood range m v (head_parts tops w).top) (sym is) o.top_good

-- ---- the slot at the frontier is claimed

near_link : (tops : ℕ) (range : SlotRange) (k nodes first : ℕ) (m : Word → ℕ) (v : ℕ) → v ≤ range.last → IsOrdered tops range k nodes first m v → IsNear range (v + 1) (m (Link v))
near_link tops range k nodes first m v le o =
    subst (λ (x : ℕ). IsNear range (v + 1) x) (sym (o.link_first v (omega arith) le)) (near_from range (v + 1) (let low = o.least in omega (arith, low)))

pub good_up : (tops : ℕ) (range : SlotRange) (k nodes first : ℕ) (m : Word → ℕ) (v x : ℕ) → v ≤ range.last → IsOrdered tops range k nodes first m v → IsGood range m v x → IsGood range m (v + 1) x
good_up tops range k nodes first m v x le o good = (
  near_up range v x good.0,
  λ past. ⊎_elim
      (λ (z : x ≡ v). subst (λ (i : ℕ). IsNear range (v + 1) (m (Link i))) (sym z) (near_link tops range k nodes first m v le o))
      (λ (ne : x ≢ v). near_up range v (m (Link x)) (good.1 (past.0, (let lt = past.1 in omega (arith, lt, ne)))))
      (cases_eq x v),
)

-- the frontier itself isn't past it
pub good_from : (range : SlotRange) (m : Word → ℕ) (v : ℕ) → 1 ≤ range.first → range.first ≤ v → IsGood range m v (slot_or_none range v)
good_from range m v above low = (
  near_from range v low,
  λ past. ⊎_elim
      (λ (out : range.last < v). let is = none_past_last range v out in let some = past.0 in let differ : ⊥ = omega (arith, is, some, above) in absurd differ)
      (λ (le : v ≤ range.last). let is = slot_inside range v le in let lt = past.1 in let differ : ⊥ = omega (arith, is, lt) in absurd differ)
      (cases_lt range.last v),
)

pub good_after : (tops : ℕ) (range : SlotRange) (k nodes first : ℕ) (m : Word → ℕ) (v : ℕ) → IsOrdered tops range k nodes first m v → IsGood range m (v + 1) (slot_after range v)
good_after tops range k nodes first m v o = good_from range m (v + 1) o.above_null (let low = o.least in omega (arith, low))

-- what comes near only now is the frontier, or none
good_now : (tops : ℕ) (range : SlotRange) (k nodes first : ℕ) (m : Word → ℕ) (v j : ℕ) → v ≤ range.last → IsOrdered tops range k nodes first m v → IsPast range v j → IsNear range (v + 1) (m (Link j)) → IsGood range m (v + 1) (m (Link j))
good_now tops range k nodes first m v j le o past (inl none) =
    (inl none, (λ before. let is = none.0 in let low = before.0 in let above = o.above_null in let differ : ⊥ = omega (arith, is, low, above) in absurd differ))
good_now tops range k nodes first m v j le o past (inr some) = ⊎_elim
    (λ (more : v < m (Link j)). (inr some, (λ before. let lt = before.1 in let differ : ⊥ = omega (arith, more, lt) in absurd differ)))
    (λ (low : m (Link j) ≤ v). good_up tops range k nodes first m v (m (Link j)) le o (o.link_good j past (inr (some.0, low, some.2))))
    (cases_lt v (m (Link j)))

pub ordered_on : (tops : ℕ) (range : SlotRange) (k nodes first : ℕ) (m : Word → ℕ) (v : ℕ) → v ≤ range.last → IsOrdered tops range k nodes first m v → IsOrdered tops range k nodes first m (v + 1)
ordered_on tops range k nodes first m v le o = record {
  above_null = o.above_null;
  least = (let low = o.least in omega (arith, low));
  greatest = omega (arith, le);
  top_good = good_up tops range k nodes first m v (top tops m k) le o o.top_good;
  link_good = λ j past near. ⊎_elim
      (λ (z : j ≡ v). subst (λ (i : ℕ). IsGood range m (v + 1) (m (Link i))) (sym z) (subst (λ (x : ℕ). IsGood range m (v + 1) x) (sym (o.link_first v (omega arith) le)) (good_after tops range k nodes first m v o)))
      (λ (ne : j ≢ v). good_now tops range k nodes first m v j le o (past.0, (let lt = past.1 in omega (arith, lt, ne))) near)
      (cases_eq j v);
  link_first = λ j ge within. o.link_first j (omega (arith, ge)) within;
  status_first = λ j ge within. o.status_first j (omega (arith, ge)) within;
}

-- ---- the frontier stays, or moves on by one

abbrev pub Moves : SlotRange → (Word → ℕ) → (Word → ℕ) → ℕ → ℕ → Type 0
Moves range m m' v v' = ((v' ≡ v) × Stays range v m m') ⊎ ((v' ≡ v + 1) × (v ≤ range.last) × ((w : ℕ) → m' (Link w) ≡ m (Link w)))

module _ (tops : ℕ) (range : SlotRange) (k nodes first : ℕ) (m m' : Word → ℕ) (v v' : ℕ) (o : IsOrdered tops range k nodes first m v) where
  -- what was claimed stays so
  pub past_later : (j : ℕ) → Moves range m m' v v' → IsPast range v j → IsPast range v' j
  past_later j (inl same) past = (past.0, (let is = same.0 in let lt = past.1 in omega (arith, is, lt)))
  past_later j (inr one) past = (past.0, (let is = one.0 in let lt = past.1 in omega (arith, is, lt)))

  pub near_later : (j : ℕ) → Moves range m m' v v' → IsSlot range j → IsNear range v (m (Link j)) → IsNear range v' (m' (Link j))
  near_later j (inl same) slot near = subst (λ (x : ℕ). IsNear range x (m' (Link j))) (sym same.0) (same.1 j slot near)
  near_later j (inr one) slot near = subst (λ (x : ℕ). IsNear range x (m' (Link j))) (sym one.0) (subst (λ (x : ℕ). IsNear range (v + 1) x) (sym (one.2 j)) (near_up range v (m (Link j)) near))

  -- if the links are the same
  good_same : (x : ℕ) → ((w : ℕ) → m' (Link w) ≡ m (Link w)) → IsGood range m (v + 1) x → IsGood range m' (v + 1) x
  good_same x same good = (good.0, λ past. subst (λ (y : ℕ). IsNear range (v + 1) y) (sym (same x)) (good.1 past))

  pub good_later : (x : ℕ) → Moves range m m' v v' → IsGood range m v x → IsGood range m' v' x
  good_later x (inl same) good = subst (λ (y : ℕ). IsGood range m' y x) (sym same.0) (good_stays range v m m' x same.1 good)
  good_later x (inr one) good = subst (λ (y : ℕ). IsGood range m' y x) (sym one.0) (good_same x one.2 (good_up tops range k nodes first m v x one.1 o good))

  pub look_later : (t next : ℕ) → Moves range m m' v v' → LookFits range m v t next → LookFits range m' v' t next
  look_later t next (inl same) w = subst (λ (y : ℕ). LookFits range m' y t next) (sym same.0)
      (w.0, good_stays range v m m' t same.1 w.1, (λ lt. good_stays range v m m' next same.1 (w.2 lt)), w.3)
  look_later t next (inr one) w = subst (λ (y : ℕ). LookFits range m' y t next) (sym one.0) (
    w.0,
    good_same t one.2 (good_up tops range k nodes first m v t one.1 o w.1),
    (λ lt. good_same next one.2 (⊎_elim
        (λ (below : t < v). good_up tops range k nodes first m v next one.1 o (w.2 below))
        (λ (ge : v ≤ t). let is : t ≡ v = omega (arith, lt, ge) in subst (λ (x : ℕ). IsGood range m (v + 1) x) (sym (w.3 is ∙ ap (slot_after range) is)) (good_after tops range k nodes first m v o))
        (cases_lt t v))),
    (λ is. let high = near_below range v t w.1.0 in let differ : ⊥ = omega (arith, is, high) in absurd differ),
  )
