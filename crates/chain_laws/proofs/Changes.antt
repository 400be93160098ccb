-- What each change of one word or one owner keeps.
use Rattle.std.proofs.Common.{ℕ, suc, ◌≡◌, ◌≢◌, ◌==◌, ◌≤◌, ◌<◌, ◌∙◌, Bool, true, false, List, [], ◌∷◌, length, Option, Some, None, arith, inl, inr, ⊎_elim, sym, ap, subst, refl, max, if◌then◌else◌}
use Rattle.std.proofs.lemmas.Bool.{cases_eq}
use Rattle.std.proofs.lemmas.Bool.Decides.{nat_tests, eqb_tells}
use Rattle.oa_words.specs.Words.{Word, Phase, Status, Head, Link, Sizes, SlotRange, slot_range, IsSlot}
use Rattle.oa_words.specs.SlotKinds.{kind_of}
use Rattle.oa_words.specs.Within.{AreKinds}
use Rattle.oa_words.specs.Packed.{HeadParts, head_word, head_parts}
use Rattle.oa_words.proofs.Parts.{head_back}
use Rattle.oa_words.specs.Memories.{store}
use Rattle.oa_words.proofs.KindRanges.{kind_small}
use Rattle.chain_laws.specs.Memories.{put}
use Rattle.chain_laws.specs.Chains.{IsChain, times, below_top, Owner, Chained, Taken, Pushing, Outside, Retiring, Retired, caller_of, Hands, handed, with_top, without_top, stamp, top, links, once, once_in, UpTo, SlotHolds, PoolHolds}
use Rattle.chain_laws.specs.Standing.{ComesAbove, MayMove}
use Rattle.chain_laws.proofs.Lists.{each_put, same_test, other_test, put_same, put_other, times_here, times_other, chain_same}

-- ---- words

pub link_other : (memory : Word → ℕ) (j x i : ℕ) → i ≢ j → store memory (Link j) x (Link i) ≡ memory (Link i)
link_other memory j x i ne = rw (other_test i j ne) refl

pub status_other : (memory : Word → ℕ) (j x i : ℕ) → i ≢ j → store memory (Status j) x (Status i) ≡ memory (Status i)
status_other memory j x i ne = rw (other_test i j ne) refl

pub status_here : (memory : Word → ℕ) (j x : ℕ) → store memory (Status j) x (Status j) ≡ x
status_here memory j x = rw (same_test j) refl

pub link_here : (memory : Word → ℕ) (j x : ℕ) → store memory (Link j) x (Link j) ≡ x
link_here memory j x = rw (same_test j) refl

pub head_other : (memory : Word → ℕ) (k x i : ℕ) → i ≢ k → store memory (Head k) x (Head i) ≡ memory (Head i)
head_other memory k x i ne = rw (other_test i k ne) refl

pub head_here : (memory : Word → ℕ) (k x : ℕ) → store memory (Head k) x (Head k) ≡ x
head_here memory k x = rw (same_test k) refl

-- each head after a store in one of them
pub each_head : (P : ℕ → ℕ → Type 0) (memory : Word → ℕ) (k x : ℕ) → P k x → ((i : ℕ) → i ≢ k → P i (memory (Head i))) → (i : ℕ) → P i (store memory (Head k) x (Head i))
each_head P memory k x here others i = ⊎_elim
    (λ (same : i ≡ k). subst (λ (j : ℕ). P j (store memory (Head k) x (Head j))) (sym same) (subst (P k) (sym (head_here memory k x)) here))
    (λ (ne : i ≢ k). subst (P i) (sym (head_other memory k x i ne)) (others i ne))
    (cases_eq i k)

-- ---- slots by their owners

up_to : (phase phase' : ℕ) (tag : Option ℕ) → phase ≤ phase' → UpTo phase tag → UpTo phase' tag
up_to phase phase' None le is = tt
up_to phase phase' (Some tag) le is = omega (arith, le, is)

-- the head's stamp and the phase rise
pub slot_up : (range : SlotRange) (stamped stamped' phase phase' j word word' : ℕ) (o : Owner) → stamped ≤ stamped' → phase ≤ phase' → word' ≡ word → SlotHolds range stamped phase j word o → SlotHolds range stamped' phase' j word' o
slot_up range stamped stamped' phase phase' j word word' Chained le up same is = (is.0, (is.1.0, same ∙ is.1.1, omega (arith, le, is.1.2)))
slot_up range stamped stamped' phase phase' j word word' (Taken c) le up same is = (is.0, (is.1.0, same ∙ is.1.1))
slot_up range stamped stamped' phase phase' j word word' (Pushing c s) le up same is = (is.0, same ∙ is.1, omega (arith, up, is.2))
slot_up range stamped stamped' phase phase' j word word' Outside le up same is = λ within. ((is within).0, same ∙ (is within).1)
slot_up range stamped stamped' phase phase' j word word' (Retiring c tag) le up same is = (is.0, (is.1.0, same ∙ is.1.1), up_to phase phase' tag up is.2)
slot_up range stamped stamped' phase phase' j word word' (Retired tag) le up same is = (is.0, same ∙ is.1, omega (arith, up, is.2))

-- a slot of the chain is none of null
in_chain : (range : SlotRange) (stamped phase j word : ℕ) (o : Owner) → once o ≢ 0 → SlotHolds range stamped phase j word o → IsSlot range j
in_chain range stamped phase j word Chained some is = is.0
in_chain range stamped phase j word _ some is = absurd (some refl)

-- and a caller has none of null
pub is_callers : (range : SlotRange) (stamped phase j word c : ℕ) (o : Owner) → caller_of o ≡ Some c → SlotHolds range stamped phase j word o → IsSlot range j
is_callers range stamped phase j word c (Taken x) is slot = slot.0
is_callers range stamped phase j word c (Pushing x s) is slot = slot.0
is_callers range stamped phase j word c (Retiring x tag) is slot = slot.0
is_callers range stamped phase j word c _ is slot = absurd (let z : None ≡ Some c = is in cc)

pub is_chained : (o : Owner) → once o ≢ 0 → o ≡ Chained
is_chained Chained some = refl
is_chained _ some = absurd (some refl)

-- a slot that stands in the chain of a kind is of the kind
pub in_kind : (n : Sizes) (k j : ℕ) (o : Owner) → once_in n k j o ≢ 0 → (o ≡ Chained) × (kind_of n j ≡ k)
in_kind n k j o some = of (kind_of n j == k) refl some where
  of : (b : Bool) → (kind_of n j == k) ≡ b → (if b then once o else 0) ≢ 0 → (o ≡ Chained) × (kind_of n j ≡ k)
  of true is some = (is_chained o some, grind (arith, nat_tests))
  of false is some = absurd (some refl)

-- and so it is in that of its own kind, and in no other's
pub once_here : (n : Sizes) (k j : ℕ) (o : Owner) → kind_of n j ≡ k → once_in n k j o ≡ once o
once_here n k j o is = let test : (kind_of n j == k) ≡ true = grind (arith, nat_tests) in rw test refl

pub once_elsewhere : (n : Sizes) (k j : ℕ) (o : Owner) → kind_of n j ≢ k → once_in n k j o ≡ 0
once_elsewhere n k j o ne = rw (other_test (kind_of n j) k ne) refl

-- what is in no chain is in none of any kind
pub once_none : (n : Sizes) (k j : ℕ) (o : Owner) → once o ≡ 0 → once_in n k j o ≡ 0
once_none n k j o none = of (kind_of n j == k) where
  of : (b : Bool) → (if b then once o else 0) ≡ 0
  of true = none
  of false = refl

-- the slot on top is in the chain
on_top : (n : Sizes) (k : ℕ) (m : Word → ℕ) (owner : ℕ → Owner) (t : ℕ) (chain : List ℕ) → t ≢ 0 → IsChain (links m) t chain → ((j : ℕ) → times j chain ≡ once_in n k j (owner j))
    → (owner t ≡ Chained) × (kind_of n t ≡ k)
on_top n k m owner t [] some linked stands = absurd (some linked)
on_top n k m owner t (j ∷ below) some linked stands =
    let at : times t (t ∷ below) ≡ once_in n k t (owner t) = ap (λ (i : ℕ). times t (i ∷ below)) linked.0 ∙ stands t in
    in_kind n k t (owner t) (λ z. let one : suc (times t below) ≡ 0 = sym (times_here t below) ∙ (at ∙ z) in let no : ⊥ = omega (arith, one) in no)

pub top_chained : (n : Sizes) (m : Word → ℕ) (h : Hands) (k t : ℕ) → k < length n.kinds → PoolHolds n m h → top n.tops m k ≡ t → t ≢ 0 → (h.owner t ≡ Chained) × (kind_of n t ≡ k)
top_chained n m h k t lt f is some = on_top n k m h.owner t (h.chain k) some (subst (λ (i : ℕ). IsChain (links m) i (h.chain k)) is (f.linked k lt)) (f.stands k)

-- what c may hand over: it is c's, or nobody's
abbrev pub IsMine : ℕ → Owner → Type 0
IsMine c Chained = ⊥
IsMine c (Taken d) = d ≡ c
IsMine c (Pushing d s) = d ≡ c
IsMine c Outside = Unit {0}
IsMine c (Retiring d tag) = d ≡ c
IsMine c (Retired tag) = Unit {0}

only_mine : (c d : ℕ) (o : Owner) → IsMine c o → caller_of o ≡ Some d → d ≡ c
only_mine c d Chained mine is = absurd mine
only_mine c d (Taken x) mine is = let same : Some x ≡ Some d = is in let z : x ≡ d = cc in sym z ∙ mine
only_mine c d (Pushing x s) mine is = let same : Some x ≡ Some d = is in let z : x ≡ d = cc in sym z ∙ mine
only_mine c d Outside mine is = absurd (let z : None ≡ Some d = is in cc)
only_mine c d (Retiring x tag) mine is = let same : Some x ≡ Some d = is in let z : x ≡ d = cc in sym z ∙ mine
only_mine c d (Retired tag) mine is = absurd (let z : None ≡ Some d = is in cc)

mine_apart : (c : ℕ) (o : Owner) → IsMine c o → once o ≡ 0
mine_apart c Chained mine = absurd mine
mine_apart c _ mine = refl

-- what isn't c's is another slot than one that is
apart : (c : ℕ) (owner : ℕ → Owner) (i j : ℕ) (o : Owner) → owner i ≡ o → IsMine c (owner j) → (IsMine c o → ⊥) → i ≢ j
apart c owner i j o own mine differ e = differ (subst (IsMine c) (ap owner (sym e) ∙ own) mine)

-- ---- other words

-- the pool's words stay, but that the phase may rise and one status may change
pub record Near (memory memory' : Word → ℕ) (j : ℕ) : Type 0 where
  pub phase : memory Phase ≤ memory' Phase
  pub head : (k : ℕ) → memory' (Head k) ≡ memory (Head k)
  pub link : (i : ℕ) → memory' (Link i) ≡ memory (Link i)
  pub status : (i : ℕ) → i ≢ j → memory' (Status i) ≡ memory (Status i)

pub record Same (memory memory' : Word → ℕ) : Type 0 where
  pub phase : memory Phase ≤ memory' Phase
  pub head : (k : ℕ) → memory' (Head k) ≡ memory (Head k)
  pub link : (i : ℕ) → memory' (Link i) ≡ memory (Link i)
  pub status : (i : ℕ) → memory' (Status i) ≡ memory (Status i)

-- a kind's stamp is the same if its head is
same_stamp : (tops : ℕ) (memory memory' : Word → ℕ) (k : ℕ) → memory' (Head k) ≡ memory (Head k) → stamp tops memory' k ≡ stamp tops memory k
same_stamp tops memory memory' k is = ap (λ (w : ℕ). (head_parts tops w).phase) is

-- and its chain still hangs on it if its links are the same
same_linked : (tops : ℕ) (memory memory' : Word → ℕ) (k : ℕ) (chain : List ℕ) → memory' (Head k) ≡ memory (Head k) → ((i : ℕ) → times i chain ≢ 0 → memory' (Link i) ≡ memory (Link i))
    → IsChain (links memory) (top tops memory k) chain → IsChain (links memory') (top tops memory' k) chain
same_linked tops memory memory' k chain is same linked =
    chain_same (links memory) (links memory') (top tops memory' k) chain same (subst (λ (w : ℕ). IsChain (links memory) (head_parts tops w).top chain) (sym is) linked)

pub fine_same : (n : Sizes) (memory memory' : Word → ℕ) (hands : Hands) → Same memory memory' → PoolHolds n memory hands → PoolHolds n memory' hands
fine_same n memory memory' hands same f = record {
  stamped = λ k lt. (let is = same_stamp n.tops memory memory' k (same.head k) in let low = f.stamped k lt in let up = same.phase in omega (arith, is, low, up));
  linked = λ k lt. same_linked n.tops memory memory' k (hands.chain k) (same.head k) (λ i some. same.link i) (f.linked k lt);
  stands = f.stands;
  slot = λ j. slot_up (slot_range n) (stamp n.tops memory (kind_of n j)) (stamp n.tops memory' (kind_of n j)) (memory Phase) (memory' Phase) j (memory (Status j)) (memory' (Status j)) (hands.owner j)
      (let is = same_stamp n.tops memory memory' (kind_of n j) (same.head (kind_of n j)) in omega (arith, is)) same.phase (same.status j) (f.slot j);
}

pub goes_same : (n : Sizes) (c : ℕ) (memory memory' : Word → ℕ) (hands : Hands) → Same memory memory' → MayMove n c memory hands memory' hands
goes_same n c memory memory' hands same = record {
  phase = same.phase;
  stamped = λ k. (let is = same_stamp n.tops memory memory' k (same.head k) in omega (arith, is));
  chained = λ j own. inl (own, same.link j);
  gone = λ q t le above. inr above;
  taken = λ j d ne own. own;
  pushing = λ j d s ne own. (own, same.link j);
  retiring = λ j d tag ne own. own;
  others = λ j d ne is. is;
}

-- ---- other words past the row

row_slot : (range : SlotRange) (stamped phase j word word' : ℕ) (o : Owner) → (j ≤ range.last → word' ≡ word) → SlotHolds range stamped phase j word o → SlotHolds range stamped phase j word' o
row_slot range stamped phase j word word' Chained same is = (is.0, (is.1.0, same is.0.1 ∙ is.1.1, is.1.2))
row_slot range stamped phase j word word' (Taken c) same is = (is.0, (is.1.0, same is.0.1 ∙ is.1.1))
row_slot range stamped phase j word word' (Pushing c s) same is = (is.0, same is.0.1 ∙ is.1, is.2)
row_slot range stamped phase j word word' Outside same is = λ within. ((is within).0, same within ∙ (is within).1)
row_slot range stamped phase j word word' (Retiring c tag) same is = (is.0, (is.1.0, same is.0.1 ∙ is.1.1), is.2)
row_slot range stamped phase j word word' (Retired tag) same is = (is.0, same is.0.1 ∙ is.1, is.2)

-- the pool's words in the row are the same
pub fine_row : (n : Sizes) (memory memory' : Word → ℕ) (hands : Hands) → AreKinds n → memory' Phase ≡ memory Phase → ((k : ℕ) → k < length n.kinds → memory' (Head k) ≡ memory (Head k))
    → ((j : ℕ) → j ≤ n.slots → memory' (Link j) ≡ memory (Link j)) → ((j : ℕ) → j ≤ n.slots → memory' (Status j) ≡ memory (Status j)) → PoolHolds n memory hands → PoolHolds n memory' hands
fine_row n memory memory' hands kinds phase head link status f = record {
  stamped = λ k lt. (let is = same_stamp n.tops memory memory' k (head k lt) in let low = f.stamped k lt in omega (arith, is, low, phase));
  linked = λ k lt. same_linked n.tops memory memory' k (hands.chain k) (head k lt) (λ i some. link i (stands_there k i some).1) (f.linked k lt);
  stands = f.stands;
  slot = λ j. slot_up (slot_range n) (stamp n.tops memory (kind_of n j)) (stamp n.tops memory' (kind_of n j)) (memory Phase) (memory' Phase) j (memory' (Status j)) (memory' (Status j)) (hands.owner j)
      (let is = same_stamp n.tops memory memory' (kind_of n j) (head (kind_of n j) (kind_small n j kinds)) in omega (arith, is)) (omega (arith, phase)) refl
      (row_slot (slot_range n) (stamp n.tops memory (kind_of n j)) (memory Phase) j (memory (Status j)) (memory' (Status j)) (hands.owner j) (status j) (f.slot j));
} where
  stands_there : (k i : ℕ) → times i (hands.chain k) ≢ 0 → IsSlot (slot_range n) i
  stands_there k i some = in_chain (slot_range n) (stamp n.tops memory (kind_of n i)) (memory Phase) i (memory (Status i)) (hands.owner i)
      (λ z. some (f.stands k i ∙ once_none n k i (hands.owner i) z)) (f.slot i)

-- ---- a slot outside the chain changes hands

pub fine_handed : (n : Sizes) (memory memory' : Word → ℕ) (hands : Hands) (c j : ℕ) (o : Owner) → Near memory memory' j → IsMine c (hands.owner j) → once o ≡ 0
    → SlotHolds (slot_range n) (stamp n.tops memory (kind_of n j)) (memory' Phase) j (memory' (Status j)) o → PoolHolds n memory hands → PoolHolds n memory' (handed hands j o)
fine_handed n memory memory' hands c j o near mine none here f = record {
  stamped = λ k lt. (let is = same_stamp n.tops memory memory' k (near.head k) in let low = f.stamped k lt in let up = near.phase in omega (arith, is, low, up));
  linked = λ k lt. same_linked n.tops memory memory' k (hands.chain k) (near.head k) (λ i some. near.link i) (f.linked k lt);
  stands = λ k. each_put (λ i (x : Owner). times i (hands.chain k) ≡ once_in n k i x) hands.owner j o
      (f.stands k j ∙ (once_none n k j (hands.owner j) (mine_apart c (hands.owner j) mine) ∙ sym (once_none n k j o none))) (λ i ne. f.stands k i);
  slot = each_put (λ i (x : Owner). SlotHolds (slot_range n) (stamp n.tops memory' (kind_of n i)) (memory' Phase) i (memory' (Status i)) x) hands.owner j o
      (slot_up (slot_range n) (stamp n.tops memory (kind_of n j)) (stamp n.tops memory' (kind_of n j)) (memory' Phase) (memory' Phase) j (memory' (Status j)) (memory' (Status j)) o (stays (kind_of n j)) (omega arith) refl here)
      (λ i ne. slot_up (slot_range n) (stamp n.tops memory (kind_of n i)) (stamp n.tops memory' (kind_of n i)) (memory Phase) (memory' Phase) i (memory (Status i)) (memory' (Status i)) (hands.owner i)
      (stays (kind_of n i)) near.phase (near.status i ne) (f.slot i));
} where
  stays : (k : ℕ) → stamp n.tops memory k ≤ stamp n.tops memory' k
  stays k = let is = same_stamp n.tops memory memory' k (near.head k) in omega (arith, is)

pub goes_handed : (n : Sizes) (c : ℕ) (memory memory' : Word → ℕ) (hands : Hands) (j : ℕ) (o : Owner) → Near memory memory' j → IsMine c (hands.owner j) → IsMine c o
    → ((q : ℕ) → q ≤ stamp n.tops memory (kind_of n j) → ComesAbove q (hands.owner j) → ComesAbove q o) → MayMove n c memory hands memory' (handed hands j o)
goes_handed n c memory memory' hands j o near mine new above = record {
  phase = near.phase;
  stamped = λ k. (let is = same_stamp n.tops memory memory' k (near.head k) in omega (arith, is));
  chained = λ i own. inl (put_other hands.owner j i o (apart c hands.owner i j Chained own mine (λ z. z)) ∙ own, near.link i);
  gone = λ q t le is. inr (each_put (λ i (x : Owner). q ≤ stamp n.tops memory (kind_of n i) → ComesAbove q (hands.owner i) → ComesAbove q x) hands.owner j o (above q) (λ i ne low z. z) t le is);
  taken = λ i d ne own. put_other hands.owner j i o (apart c hands.owner i j (Taken d) own mine ne) ∙ own;
  pushing = λ i d s ne own. (put_other hands.owner j i o (apart c hands.owner i j (Pushing d s) own mine ne) ∙ own, near.link i);
  retiring = λ i d tag ne own. put_other hands.owner j i o (apart c hands.owner i j (Retiring d tag) own mine ne) ∙ own;
  others = λ i d ne. each_put (λ i (x : Owner). caller_of x ≡ Some d → caller_of (hands.owner i) ≡ Some d) hands.owner j o (λ is. absurd (ne (only_mine c d o new is))) (λ i differ is. is) i;
}

-- ---- the top is taken

-- a word of a head tells its parts
pub tells : (tops : ℕ) (memory : Word → ℕ) (k q t : ℕ) → memory (Head k) ≡ head_word tops q t → t < tops → (stamp tops memory k ≡ q) × (top tops memory k ≡ t)
tells tops memory k q t is small =
    let parts : head_parts tops (memory (Head k)) ≡ record { phase = q; top = t } = ap (head_parts tops) is ∙ head_back tops q t small in
    (ap (λ (p : HeadParts). p.phase) parts, ap (λ (p : HeadParts). p.top) parts)

-- and so does one that is stored
pub stored_tells : (tops : ℕ) (memory : Word → ℕ) (k q t : ℕ) → t < tops
    → (stamp tops (store memory (Head k) (head_word tops q t)) k ≡ q) × (top tops (store memory (Head k) (head_word tops q t)) k ≡ t)
stored_tells tops memory k q t small = tells tops (store memory (Head k) (head_word tops q t)) k q t (head_here memory k (head_word tops q t)) small

-- the phase of a word that was made of it
pub phase_back : (tops q t : ℕ) → t < tops → (head_parts tops (head_word tops q t)).phase ≡ q
phase_back tops q t small = ap (λ (p : HeadParts). p.phase) (head_back tops q t small)

-- if the stamp doesn't fall, none does
pub stamps_rise : (tops : ℕ) (memory : Word → ℕ) (k q t : ℕ) → t < tops → stamp tops memory k ≤ q
    → (i : ℕ) → stamp tops memory i ≤ stamp tops (store memory (Head k) (head_word tops q t)) i
stamps_rise tops memory k q t small up = each_head (λ i w. stamp tops memory i ≤ (head_parts tops w).phase) memory k (head_word tops q t)
    (let phase = phase_back tops q t small in omega (arith, phase, up)) (λ i ne. omega arith)

-- a kind's head as a claim expects it, over a slot of the chain with this link
pub record Expected (n : Sizes) (memory : Word → ℕ) (hands : Hands) (k q t next : ℕ) : Type 0 where
  pub slots : n.slots < n.tops
  pub kind : k < length n.kinds
  pub head : memory (Head k) ≡ head_word n.tops q t
  pub small : t < n.tops
  pub some : t ≢ 0
  pub own : hands.owner t ≡ Chained
  pub of_kind : kind_of n t ≡ k
  pub link : memory (Link t) ≡ next

-- what follows if the top is taken off a chain
record TakenOff (n : Sizes) (memory : Word → ℕ) (owner : ℕ → Owner) (c k t next : ℕ) (below : List ℕ) : Type 0 where
  small : next < n.tops
  linked : IsChain (links memory) next below
  stands : (j : ℕ) → times j below ≡ once_in n k j (put owner t (Taken c) j)

next_small : (n : Sizes) (memory : Word → ℕ) (owner : ℕ → Owner) (k t next : ℕ) (below : List ℕ) → n.slots < n.tops → IsChain (links memory) next below
    → ((j : ℕ) → times j (t ∷ below) ≡ once_in n k j (owner j)) → ((j : ℕ) → SlotHolds (slot_range n) (stamp n.tops memory (kind_of n j)) (memory Phase) j (memory (Status j)) (owner j)) → next < n.tops
next_small n memory owner k t next [] le is stands slot = omega (arith, is, le)
next_small n memory owner k t next (j ∷ below) le is stands slot =
    let some : once (owner j) ≢ 0 = λ z. times_below_top (stands j ∙ once_none n k j (owner j) z) in
    let within = in_chain (slot_range n) (stamp n.tops memory (kind_of n j)) (memory Phase) j (memory (Status j)) (owner j) some (slot j) in
    let same : next ≡ j = is.0 in
    omega (arith, within.1, le, same)
  where
    times_below_top : times j (t ∷ (j ∷ below)) ≡ 0 → ⊥
    times_below_top z = ⊎_elim
        (λ (e : ((t == j) ≡ true) × (t ≡ j)). let one : times j (t ∷ (j ∷ below)) ≡ suc (times j (j ∷ below)) = rw e.0 refl in let no : ⊥ = omega (arith, one, z) in no)
        (λ (e : ((t == j) ≡ false) × (t ≢ j)). let one : times j (t ∷ (j ∷ below)) ≡ suc (times j below) = rw e.0 (times_here j below) in let no : ⊥ = omega (arith, one, z) in no)
        (eqb_tells t j)

take_off : (n : Sizes) (memory : Word → ℕ) (hands : Hands) (c k q t next : ℕ) (chain : List ℕ) → Expected n memory hands k q t next → IsChain (links memory) (top n.tops memory k) chain
    → ((j : ℕ) → times j chain ≡ once_in n k j (hands.owner j)) → ((j : ℕ) → SlotHolds (slot_range n) (stamp n.tops memory (kind_of n j)) (memory Phase) j (memory (Status j)) (hands.owner j))
    → TakenOff n memory hands.owner c k t next (below_top chain)
take_off n memory hands c k q t next [] e is stands slot = absurd (e.some (sym (tells n.tops memory k q t e.head e.small).1 ∙ is))
take_off n memory hands c k q t next (j ∷ below) e is stands slot =
    let same : j ≡ t = sym is.0 ∙ (tells n.tops memory k q t e.head e.small).1 in
    let at : (i : ℕ) → times i (t ∷ below) ≡ once_in n k i (hands.owner i) = subst (λ (x : ℕ). (i : ℕ) → times i (x ∷ below) ≡ once_in n k i (hands.owner i)) same stands in
    let linked : IsChain (links memory) next below = subst (λ (x : ℕ). IsChain (links memory) x below) (ap (links memory) same ∙ e.link) is.2 in
    record {
      small = next_small n memory hands.owner k t next below e.slots linked at slot;
      linked = linked;
      stands = each_put (λ i (x : Owner). times i below ≡ once_in n k i x) hands.owner t (Taken c)
          (let one : suc (times t below) ≡ 1 = sym (times_here t below) ∙ (at t ∙ (once_here n k t (hands.owner t) e.of_kind ∙ ap once e.own)) in
          let none = once_none n k t (Taken c) refl in omega (arith, one, none))
          (λ i ne. sym (times_other i t below (λ z. ne (sym z))) ∙ at i);
    }

ready_taken : (range : SlotRange) (stamped phase j word c : ℕ) (o : Owner) → o ≡ Chained → SlotHolds range stamped phase j word o → SlotHolds range stamped phase j word (Taken c)
ready_taken range stamped phase j word c o own is = let slot : SlotHolds range stamped phase j word Chained = subst (λ (x : Owner). SlotHolds range stamped phase j word x) own is in (slot.0, (slot.1.0, slot.1.1))

-- in the chain of another kind a slot that changes hands is no slot before and after
elsewhere : (n : Sizes) (k i j : ℕ) (o p : Owner) → kind_of n j ≢ k → i ≡ j → once_in n k i o ≡ once_in n k i p
elsewhere n k i j o p ne same =
    let other : kind_of n i ≢ k = λ z. ne (ap (kind_of n) (sym same) ∙ z) in
    once_elsewhere n k i o other ∙ sym (once_elsewhere n k i p other)

pub fine_taken : (n : Sizes) (memory : Word → ℕ) (hands : Hands) (c k q t next : ℕ) → Expected n memory hands k q t next → PoolHolds n memory hands
    → PoolHolds n (store memory (Head k) (head_word n.tops q next)) (without_top hands k c t)
fine_taken n memory hands c k q t next e f =
    let off = take_off n memory hands c k q t next (hands.chain k) e (f.linked k e.kind) (f.stands k) f.slot in
    let here = tells n.tops memory k q t e.head e.small in
    let there = stored_tells n.tops memory k q next off.small in
    record {
      stamped = each_head (λ i w. i < length n.kinds → (head_parts n.tops w).phase ≤ memory Phase) memory k (head_word n.tops q next)
          (λ lt. (let low = f.stamped k lt in let phase = phase_back n.tops q next off.small in let is = here.0 in omega (arith, phase, low, is))) (λ i ne lt. f.stamped i lt);
      linked = each_put (λ i (chain : List ℕ). i < length n.kinds → IsChain (links memory) (top n.tops (store memory (Head k) (head_word n.tops q next)) i) chain) hands.chain k (below_top (hands.chain k))
          (λ lt. subst (λ (x : ℕ). IsChain (links memory) x (below_top (hands.chain k))) (sym there.1) off.linked)
          (λ i ne lt. subst (λ (w : ℕ). IsChain (links memory) (head_parts n.tops w).top (hands.chain i)) (sym (head_other memory k (head_word n.tops q next) i ne)) (f.linked i lt));
      stands = each_put (λ i (chain : List ℕ). (j : ℕ) → times j chain ≡ once_in n i j (put hands.owner t (Taken c) j)) hands.chain k (below_top (hands.chain k))
          off.stands
          (λ i ne. each_put (λ j (x : Owner). times j (hands.chain i) ≡ once_in n i j x) hands.owner t (Taken c)
          (f.stands i t ∙ elsewhere n i t t (hands.owner t) (Taken c) (λ z. ne (sym z ∙ e.of_kind)) refl) (λ j differ. f.stands i j));
      slot = each_put (λ i (x : Owner). SlotHolds (slot_range n) (stamp n.tops (store memory (Head k) (head_word n.tops q next)) (kind_of n i)) (memory Phase) i (memory (Status i)) x) hands.owner t (Taken c)
          (ready_taken (slot_range n) (stamp n.tops (store memory (Head k) (head_word n.tops q next)) (kind_of n t)) (memory Phase) t (memory (Status t)) c (hands.owner t) e.own (up off t))
          (λ i ne. up off i);
    }
  where
    up : TakenOff n memory hands.owner c k t next (below_top (hands.chain k)) → (i : ℕ)
        → SlotHolds (slot_range n) (stamp n.tops (store memory (Head k) (head_word n.tops q next)) (kind_of n i)) (memory Phase) i (memory (Status i)) (hands.owner i)
    up off i = slot_up (slot_range n) (stamp n.tops memory (kind_of n i)) (stamp n.tops (store memory (Head k) (head_word n.tops q next)) (kind_of n i)) (memory Phase) (memory Phase) i (memory (Status i)) (memory (Status i)) (hands.owner i)
        (stamps_rise n.tops memory k q next off.small (let here = (tells n.tops memory k q t e.head e.small).0 in omega (arith, here)) (kind_of n i)) (omega arith) refl (f.slot i)

pub goes_taken : (n : Sizes) (memory : Word → ℕ) (hands : Hands) (c k q t next : ℕ) → Expected n memory hands k q t next → PoolHolds n memory hands
    → MayMove n c memory hands (store memory (Head k) (head_word n.tops q next)) (without_top hands k c t)
goes_taken n memory hands c k q t next e f =
    let off = take_off n memory hands c k q t next (hands.chain k) e (f.linked k e.kind) (f.stands k) f.slot in
    record {
      phase = omega arith;
      stamped = stamps_rise n.tops memory k q next off.small (let here = (tells n.tops memory k q t e.head e.small).0 in omega (arith, here));
      chained = λ i own. ⊎_elim
          (λ (z : i ≡ t). inr (ap (put hands.owner t (Taken c)) z ∙ put_same hands.owner t (Taken c)))
          (λ (ne : i ≢ t). inl (put_other hands.owner t i (Taken c) ne ∙ own, refl))
          (cases_eq i t);
      gone = λ p i le is. inr (each_put (λ i (x : Owner). ComesAbove p (hands.owner i) → ComesAbove p x) hands.owner t (Taken c) (λ z. tt) (λ i ne z. z) i is);
      taken = λ i d ne own. put_other hands.owner t i (Taken c) (other i (Taken d) own (λ z. cc)) ∙ own;
      pushing = λ i d s ne own. (put_other hands.owner t i (Taken c) (other i (Pushing d s) own (λ z. cc)) ∙ own, refl);
      retiring = λ i d tag ne own. put_other hands.owner t i (Taken c) (other i (Retiring d tag) own (λ z. cc)) ∙ own;
      others = λ i d ne. each_put (λ i (x : Owner). caller_of x ≡ Some d → caller_of (hands.owner i) ≡ Some d) hands.owner t (Taken c) (λ is. absurd (ne (only_mine c d (Taken c) refl is))) (λ i differ is. is) i;
    }
  where
    other : (i : ℕ) (o : Owner) → hands.owner i ≡ o → (Chained ≡ o → ⊥) → i ≢ t
    other i o own differ z = differ (sym e.own ∙ (ap hands.owner (sym z) ∙ own))

-- ---- a push

-- the link of a slot that is being pushed is stored
pub fine_linked : (n : Sizes) (memory : Word → ℕ) (hands : Hands) (c s j x : ℕ) → hands.owner j ≡ Pushing c s → PoolHolds n memory hands → PoolHolds n (store memory (Link j) x) hands
fine_linked n memory hands c s j x own f = record {
  stamped = f.stamped;
  linked = λ k lt. chain_same (links memory) (links (store memory (Link j) x)) (top n.tops memory k) (hands.chain k) (λ i some. link_other memory j x i (λ z. some (none k i z))) (f.linked k lt);
  stands = f.stands;
  slot = f.slot;
} where
  none : (k i : ℕ) → i ≡ j → times i (hands.chain k) ≡ 0
  none k i z = f.stands k i ∙ once_none n k i (hands.owner i) (ap (λ (a : ℕ). once (hands.owner a)) z ∙ ap once own)

pub goes_linked : (n : Sizes) (memory : Word → ℕ) (hands : Hands) (c s j x : ℕ) → hands.owner j ≡ Pushing c s → MayMove n c memory hands (store memory (Link j) x) hands
goes_linked n memory hands c s j x own = record {
  phase = omega arith;
  stamped = λ k. omega arith;
  chained = λ i is. inl (is, link_other memory j x i (λ z. let e : Pushing c s ≡ Chained = sym own ∙ (ap hands.owner (sym z) ∙ is) in cc));
  gone = λ q t le above. inr above;
  taken = λ i d ne is. is;
  pushing = λ i d p ne is. (is, link_other memory j x i (λ z. ne (let e : Pushing c s ≡ Pushing d p = sym own ∙ (ap hands.owner (sym z) ∙ is) in cc)));
  retiring = λ i d tag ne is. is;
  others = λ i d ne is. is;
}

-- the head of a slot's kind is as a push expects it, and the slot is linked to the top
pub record Pushes (n : Sizes) (memory : Word → ℕ) (hands : Hands) (c s k j q t : ℕ) : Type 0 where
  pub slots : n.slots < n.tops
  pub head : memory (Head k) ≡ head_word n.tops q t
  pub small : t < n.tops
  pub own : hands.owner j ≡ Pushing c s
  pub of_kind : kind_of n j ≡ k
  pub link : memory (Link j) ≡ t

pushing_slot : (range : SlotRange) (stamped phase j word c s : ℕ) (o : Owner) → o ≡ Pushing c s → SlotHolds range stamped phase j word o → SlotHolds range stamped phase j word (Pushing c s)
pushing_slot range stamped phase j word c s o own is = subst (λ (x : Owner). SlotHolds range stamped phase j word x) own is

pub fine_pushed : (n : Sizes) (memory : Word → ℕ) (hands : Hands) (c s k j q t : ℕ) → Pushes n memory hands c s k j q t → PoolHolds n memory hands
    → PoolHolds n (store memory (Head k) (head_word n.tops (max q s) j)) (with_top hands k j)
fine_pushed n memory hands c s k j q t e f =
    let here = tells n.tops memory k q t e.head e.small in
    let slot = pushing_slot (slot_range n) (stamp n.tops memory (kind_of n j)) (memory Phase) j (memory (Status j)) c s (hands.owner j) e.own (f.slot j) in
    let low : j < n.tops = (let within = slot.0.1 in let most = e.slots in omega (arith, within, most)) in
    let there = stored_tells n.tops memory k (max q s) j low in
    let m' : Word → ℕ = store memory (Head k) (head_word n.tops (max q s) j) in
    let none : (i : ℕ) → once_in n i j (hands.owner j) ≡ 0 = (λ i. once_none n i j (hands.owner j) (ap once e.own)) in
    let up : (i : ℕ) → stamp n.tops memory i ≤ stamp n.tops m' i = stamps_rise n.tops memory k (max q s) j low (let is = here.0 in omega (arith, is)) in
    record {
      stamped = each_head (λ i w. i < length n.kinds → (head_parts n.tops w).phase ≤ memory Phase) memory k (head_word n.tops (max q s) j)
          (λ lt. (let old = f.stamped k lt in let is = here.0 in let new = slot.2 in let phase = phase_back n.tops (max q s) j low in omega (arith, old, is, new, phase))) (λ i ne lt. f.stamped i lt);
      linked = each_put (λ i (chain : List ℕ). i < length n.kinds → IsChain (links memory) (top n.tops m' i) chain) hands.chain k (j ∷ hands.chain k)
          (λ lt. (there.1, (λ z. let some = slot.0.0 in let no : ⊥ = omega (arith, z, some) in no), subst (λ (x : ℕ). IsChain (links memory) x (hands.chain k)) (here.1 ∙ sym e.link) (f.linked k lt)))
          (λ i ne lt. subst (λ (w : ℕ). IsChain (links memory) (head_parts n.tops w).top (hands.chain i)) (sym (head_other memory k (head_word n.tops (max q s) j) i ne)) (f.linked i lt));
      stands = each_put (λ i (chain : List ℕ). (a : ℕ) → times a chain ≡ once_in n i a (put hands.owner j Chained a)) hands.chain k (j ∷ hands.chain k)
          (each_put (λ a (x : Owner). times a (j ∷ hands.chain k) ≡ once_in n k a x) hands.owner j Chained
          (times_here j (hands.chain k) ∙ (ap suc (f.stands k j ∙ none k) ∙ sym (once_here n k j Chained e.of_kind)))
          (λ a ne. times_other a j (hands.chain k) (λ z. ne (sym z)) ∙ f.stands k a))
          (λ i ne. each_put (λ a (x : Owner). times a (hands.chain i) ≡ once_in n i a x) hands.owner j Chained
          (f.stands i j ∙ elsewhere n i j j (hands.owner j) Chained (λ z. ne (sym z ∙ e.of_kind)) refl) (λ a differ. f.stands i a));
      slot = each_put (λ i (x : Owner). SlotHolds (slot_range n) (stamp n.tops m' (kind_of n i)) (memory Phase) i (memory (Status i)) x) hands.owner j Chained
          (slot.0, (s, slot.1, (let is = ap (stamp n.tops m') e.of_kind ∙ there.0 in omega (arith, is))))
          (λ i ne. slot_up (slot_range n) (stamp n.tops memory (kind_of n i)) (stamp n.tops m' (kind_of n i)) (memory Phase) (memory Phase) i (memory (Status i)) (memory (Status i)) (hands.owner i) (up (kind_of n i)) (omega arith) refl (f.slot i));
    }

pub goes_pushed : (n : Sizes) (memory : Word → ℕ) (hands : Hands) (c s k j q t : ℕ) → Pushes n memory hands c s k j q t → PoolHolds n memory hands
    → MayMove n c memory hands (store memory (Head k) (head_word n.tops (max q s) j)) (with_top hands k j)
goes_pushed n memory hands c s k j q t e f =
    let here = tells n.tops memory k q t e.head e.small in
    let slot = pushing_slot (slot_range n) (stamp n.tops memory (kind_of n j)) (memory Phase) j (memory (Status j)) c s (hands.owner j) e.own (f.slot j) in
    let low : j < n.tops = (let within = slot.0.1 in let most = e.slots in omega (arith, within, most)) in
    let there = stored_tells n.tops memory k (max q s) j low in
    let m' : Word → ℕ = store memory (Head k) (head_word n.tops (max q s) j) in
    record {
      phase = omega arith;
      stamped = stamps_rise n.tops memory k (max q s) j low (let is = here.0 in omega (arith, is));
      chained = λ i own. inl (put_other hands.owner j i Chained (other i Chained own (λ z. cc)) ∙ own, refl);
      gone = λ p i le is. ⊎_elim
          (λ (z : i ≡ j).
          let below : p < s = subst (λ (x : Owner). ComesAbove p x) (ap hands.owner z ∙ e.own) is in
          let is : stamp n.tops m' (kind_of n i) ≡ max q s = ap (stamp n.tops m') (ap (kind_of n) z ∙ e.of_kind) ∙ there.0 in inl (omega (arith, below, is)))
          (λ (ne : i ≢ j). inr (subst (λ (x : Owner). ComesAbove p x) (sym (put_other hands.owner j i Chained ne)) is))
          (cases_eq i j);
      taken = λ i d ne own. put_other hands.owner j i Chained (other i (Taken d) own (λ z. cc)) ∙ own;
      pushing = λ i d p ne own. (put_other hands.owner j i Chained (other i (Pushing d p) own (λ z. ne (cc z))) ∙ own, refl);
      retiring = λ i d tag ne own. put_other hands.owner j i Chained (other i (Retiring d tag) own (λ z. cc)) ∙ own;
      others = λ i d ne. each_put (λ i (x : Owner). caller_of x ≡ Some d → caller_of (hands.owner i) ≡ Some d) hands.owner j Chained (λ is. absurd (let z : None ≡ Some d = is in cc)) (λ i differ is. is) i;
    }
  where
    other : (i : ℕ) (o : Owner) → hands.owner i ≡ o → (Pushing c s ≡ o → ⊥) → i ≢ j
    other i o own differ z = differ (sym e.own ∙ (ap hands.owner (sym z) ∙ own))
