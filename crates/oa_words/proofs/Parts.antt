-- Words and their parts give each other back.
use Rattle.std.proofs.Common.{◌≡◌, ◌↔◌, ℕ, zero, suc, ◌+◌, ◌*◌, ◌/◌, ◌%◌, ◌<◌, ◌≤◌, Bool, true, false, Some, None, refl, sym, ◌∙◌, ap, arith}
use Rattle.std.specs.Prelude.{◌==◌}
use Rattle.std.proofs.Math.Nat.{mul-add-div, div-eq_of_lt, mul-add-mod_self_left, mod-eq_of_lt, mod-lt, div-add-mod}
use Rattle.std.proofs.lemmas.Bool.Decides.{nat_tests}
use Rattle.oa_words.specs.declared.packed.Kind.{Kind}
use Rattle.oa_words.specs.declared.packed.Kind.TheVariants.{Ready, Used, Retired}
use Rattle.oa_words.specs.Packed.{mark_bit, ref_word, slot_part, is_marked, status_kind_of, StatusParts, parts_by, status_word, status_parts, HeadParts, head_word, head_parts}
use Rattle.oa_words.specs.Laws.{ReferencesSplit, StatusesSplit, HeadsSplit}

-- ---- references

pub slot_back : (slot : ℕ) (marked : Bool) → slot_part (ref_word slot marked) ≡ slot
slot_back slot true = omega arith
slot_back slot false = omega arith

pub mark_back : (slot : ℕ) (marked : Bool) → is_marked (ref_word slot marked) ≡ marked
mark_back slot true = let odd : (2 * slot + 1) % 2 ≡ 1 = omega arith in rw odd refl
mark_back slot false = let even : (2 * slot + 0) % 2 ≡ 0 = omega arith in rw even refl

-- a mark as its number
mark_of : (n : ℕ) → n < 2 → mark_bit (n == 1) ≡ n
mark_of zero lt = refl
mark_of (suc zero) lt = refl
mark_of (suc (suc n)) lt = absurd (omega (arith, lt))

pub ref_back : (word : ℕ) → ref_word (slot_part word) (is_marked word) ≡ word
ref_back word =
    let small : word % 2 < 2 = omega arith in
    let mark = mark_of (word % 2) small in
    omega (arith, mark)

ref_equal : (slot other : ℕ) (marked also : Bool) → ref_word slot marked ≡ ref_word other also → (slot ≡ other) × (marked ≡ also)
ref_equal slot other marked also e =
    (sym (slot_back slot marked) ∙ ap slot_part e ∙ slot_back other also, sym (mark_back slot marked) ∙ ap is_marked e ∙ mark_back other also)

pub references_split : ReferencesSplit
references_split = record { slot = slot_back; mark = mark_back; whole = ref_back; equal = ref_equal }

-- ---- statuses

pub status_back : (phase : ℕ) (kind : Kind) → status_parts (status_word phase kind) ≡ Some (record { phase = phase; kind = kind })
status_back phase Ready = let a : (4 * phase + 0) / 4 ≡ phase = omega arith in let b : (4 * phase + 0) % 4 ≡ 0 = omega arith in rw (a, b) refl
status_back phase Used = let a : (4 * phase + 1) / 4 ≡ phase = omega arith in let b : (4 * phase + 1) % 4 ≡ 1 = omega arith in rw (a, b) refl
status_back phase Retired = let a : (4 * phase + 2) / 4 ≡ phase = omega arith in let b : (4 * phase + 2) % 4 ≡ 2 = omega arith in rw (a, b) refl

some_parts : (p q : StatusParts) → Some p ≡ Some q → p ≡ q
some_parts p q e = cc

-- a number past those of the kinds is none's
no_kind : (n : ℕ) → 3 ≤ n → status_kind_of n ≡ None
no_kind n le =
    let a : (n == 0) ≡ false = grind (arith, nat_tests) in
    let b : (n == 1) ≡ false = grind (arith, nat_tests) in
    let c : (n == 2) ≡ false = grind (arith, nat_tests) in
    rw (a, b, c) refl

-- the word of what a kind's number gives
whole_by : (phase n : ℕ) (parts : StatusParts) → parts_by phase (status_kind_of n) ≡ Some parts → status_word parts.phase parts.kind ≡ 4 * phase + n
whole_by phase zero parts e = let is = some_parts (record { phase = phase; kind = Ready }) parts e in rw (← is) refl
whole_by phase (suc zero) parts e = let is = some_parts (record { phase = phase; kind = Used }) parts e in rw (← is) refl
whole_by phase (suc (suc zero)) parts e = let is = some_parts (record { phase = phase; kind = Retired }) parts e in rw (← is) refl
whole_by phase (suc (suc (suc n))) parts e = absurd (let no : None ≡ Some parts = sym (ap (parts_by phase) (no_kind (suc (suc (suc n))) (omega arith))) ∙ e in cc)

pub status_whole : (word : ℕ) (parts : StatusParts) → status_parts word ≡ Some parts → status_word parts.phase parts.kind ≡ word
status_whole word parts e = let whole = whole_by (word / 4) (word % 4) parts e in whole ∙ omega arith

same_parts : (p q : StatusParts) → Some p ≡ Some q → (p.phase ≡ q.phase) × (p.kind ≡ q.kind)
same_parts p q e = let is = some_parts p q e in (ap (λ (r : StatusParts). r.phase) is, ap (λ (r : StatusParts). r.kind) is)

status_equal : (phase other : ℕ) (kind also : Kind) → status_word phase kind ≡ status_word other also → (phase ≡ other) × (kind ≡ also)
status_equal phase other kind also e =
    same_parts (record { phase = phase; kind = kind }) (record { phase = other; kind = also })
    (sym (status_back phase kind) ∙ ap status_parts e ∙ status_back other also)

none_by : (phase n : ℕ) → n < 4 → (parts_by phase (status_kind_of n) ≡ None) ↔ (n ≡ 3)
none_by phase zero lt = (λ e. absurd (let no : Some (record { phase = phase; kind = Ready }) ≡ None = e in cc), λ e. absurd (omega (arith, e)))
none_by phase (suc zero) lt = (λ e. absurd (let no : Some (record { phase = phase; kind = Used }) ≡ None = e in cc), λ e. absurd (omega (arith, e)))
none_by phase (suc (suc zero)) lt = (λ e. absurd (let no : Some (record { phase = phase; kind = Retired }) ≡ None = e in cc), λ e. absurd (omega (arith, e)))
none_by phase (suc (suc (suc zero))) lt = (λ e. refl, λ e. refl)
none_by phase (suc (suc (suc (suc n)))) lt = absurd (omega (arith, lt))

status_none : (word : ℕ) → (status_parts word ≡ None) ↔ (word % 4 ≡ 3)
status_none word = let small : word % 4 < 4 = omega arith in none_by (word / 4) (word % 4) small

pub statuses_split : StatusesSplit
statuses_split = record { parts = status_back; whole = status_whole; equal = status_equal; none = status_none }

-- ---- heads

both_parts : (phase other top also : ℕ) → phase ≡ other → top ≡ also → ◌≡◌ {A = HeadParts} (record { phase = phase; top = top }) (record { phase = other; top = also })
both_parts phase other top also p t = cc

pub head_back : (tops phase top : ℕ) → top < tops → head_parts tops (head_word tops phase top) ≡ record { phase = phase; top = top }
head_back tops phase top lt =
    let some : 0 < tops = omega (arith, lt) in
    let above : head_word tops phase top / tops ≡ phase + top / tops = mul-add-div some phase top in
    let none : top / tops ≡ 0 = div-eq_of_lt lt in
    let below : head_word tops phase top % tops ≡ top % tops = mul-add-mod_self_left tops phase top in
    both_parts (head_word tops phase top / tops) phase (head_word tops phase top % tops) top (omega (arith, above, none)) (below ∙ mod-eq_of_lt lt)

pub top_small : (tops word : ℕ) → 1 ≤ tops → (head_parts tops word).top < tops
top_small tops word some = mod-lt word (omega (arith, some))

pub head_whole : (tops word : ℕ) → head_word tops (head_parts tops word).phase (head_parts tops word).top ≡ word
head_whole tops word = div-add-mod word tops

parts_equal : (p q : HeadParts) → p ≡ q → (p.phase ≡ q.phase) × (p.top ≡ q.top)
parts_equal p q e = (ap (λ (r : HeadParts). r.phase) e, ap (λ (r : HeadParts). r.top) e)

head_equal : (tops phase other top also : ℕ) → top < tops → also < tops → head_word tops phase top ≡ head_word tops other also → (phase ≡ other) × (top ≡ also)
head_equal tops phase other top also lt less e =
    parts_equal (record { phase = phase; top = top }) (record { phase = other; top = also })
    (sym (head_back tops phase top lt) ∙ ap (head_parts tops) e ∙ head_back tops other also less)

pub heads_split : (tops : ℕ) → 1 ≤ tops → HeadsSplit tops
heads_split tops some = record { parts = head_back tops; small = λ word. top_small tops word some; whole = head_whole tops; equal = head_equal tops }
