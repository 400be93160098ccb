-- Paths through the blocks of a compiled method: each leads into a block by its first instruction, and on through it one by one.
use Rattle.std.proofs.Common.{◌≡◌, ℕ, zero, suc, ◌+◌, ◌<◌, ◌⊎◌, inl, inr, Bool, true, false, ◌||◌, List, [], ◌∷◌, ◌++◌, map, length, take, Option, Some, None, refl, sym, ap, subst, ◌∙◌, arith}
use Rattle.std.specs.Prelude.{slice_get, ◌==◌, IsTrue}
use Rattle.std.specs.List.{list_all, list_any}
use Rattle.std.proofs.Math.Seq.{take-length}
use Rattle.std.proofs.lemmas.Option.{same_Some, slice_get_within}
use Rattle.std.proofs.lemmas.Bool.Decides.{nat_tests}
use Rattle.std.proofs.lemmas.List.{length-append}
use Rattle.norm_lang.specs.declared.text.Reg.{Reg}
use Rattle.norm_lang.specs.declared.text.Instr.{Instr}
use Rattle.norm_lang.specs.declared.text.Instr.TheVariants as instr
use Rattle.norm_lang.specs.declared.text.Op.{Op}
use Rattle.norm_lang.specs.Flow.{goes_to, state_along, passed}
use Rattle.norm_paths.proofs.Within.{all_get}
use Rattle.target_code.specs.declared.target.TargetInstr.{TargetInstr}
use Rattle.target_code.specs.declared.target.TargetInstr.TheVariants.{Plain, Check, Guard}
use Rattle.target_code.specs.Paths.{target_successors, target_goes_from, TargetPath}
use Rattle.target_code.specs.Erasing.{redirected}
use Rattle.target_code.specs.Blocks.{to_guard, Marked, check_if, barrier, block, block_place, laid_out}
use Rattle.barrier_compiler.proofs.BlocksInLists.{less_or_last, begin, piece_get, next_begins, piece_there, same_begin, run, run_on}

-- control goes on to the next instruction alone
abbrev pub leads_on : Instr → Bool
leads_on (instr.Cas entry l) = false
leads_on (instr.Jump l) = false
leads_on (instr.IfEq a b l) = false
leads_on (instr.IfLess a b l) = false
leads_on (instr.IfMarked a l) = false
leads_on (instr.Commit entries) = false
leads_on (instr.Return a) = false
leads_on instr.ReturnNone = false
leads_on instr.Again = false
leads_on _ = true

-- control may go elsewhere
abbrev pub jumps : Instr → Bool
jumps (instr.Cas entry l) = true
jumps (instr.Jump l) = true
jumps (instr.IfEq a b l) = true
jumps (instr.IfLess a b l) = true
jumps (instr.IfMarked a l) = true
jumps _ = false

-- an instruction may go from a place to another
abbrev pub MayGo : Instr → ℕ → ℕ → Type 0
MayGo i at to = (IsTrue (leads_on i) × (to ≡ suc at)) ⊎ IsTrue (jumps i)

-- a check or a guard
abbrev pub is_barrier : TargetInstr → Bool
is_barrier (Plain i) = false
is_barrier Check = true
is_barrier (Guard r) = true

-- a barrier is of checks and guards
guards_bar : (rs : List Reg) → IsTrue (list_all is_barrier (map Guard rs ++ (Check ∷ [])))
guards_bar [] = refl
guards_bar (r ∷ rs) = guards_bar rs

checks_bar : (wanted : Bool) → IsTrue (list_all is_barrier (check_if wanted))
checks_bar true = refl
checks_bar false = refl

barrier_bars : (wanted : Bool) (rs : List Reg) → IsTrue (list_all is_barrier (barrier wanted rs))
barrier_bars wanted [] = checks_bar wanted
barrier_bars wanted (r ∷ rs) = guards_bar rs

-- a place in a block: in its barrier, at its other instruction, or at the check after that
abbrev pub At : (ℕ → ℕ) → Op → Marked → ℕ → TargetInstr → Type 0
At place op m k j =
    (IsTrue (is_barrier j) × (suc k < length (block place op m)))
    ⊎ (((j ≡ Plain (redirected place m.instr)) × (take k (block place op m) ≡ barrier m.before (to_guard op m.instr)) × (k ≡ length (barrier m.before (to_guard op m.instr))))
    ⊎ (IsTrue (is_barrier j) × (m.after ≡ true)))

-- among two lists stands one other instruction
at_seam : (before behind : List TargetInstr) (x : TargetInstr) (k : ℕ) (j : TargetInstr) → IsTrue (list_all is_barrier before) → IsTrue (list_all is_barrier behind)
    → slice_get (before ++ (x ∷ behind)) k ≡ Some j
    → (IsTrue (is_barrier j) × (suc k < length (before ++ (x ∷ behind))))
    ⊎ (((j ≡ x) × (take k (before ++ (x ∷ behind)) ≡ before) × (k ≡ length before))
    ⊎ (IsTrue (is_barrier j) × ((n : ℕ) × (slice_get behind n ≡ Some j))))
at_seam [] behind x zero j one two is = inr (inl (sym (same_Some x j is), refl, refl))
at_seam [] behind x (suc k) j one two is = inr (inr (all_get is_barrier behind k j two is, (k, is)))
at_seam (y ∷ before) behind x zero j one two is =
    inl (all_get is_barrier (y ∷ before) zero j one is, omega (arith, length-append before (x ∷ behind)))
at_seam (y ∷ before) behind x (suc k) j one two is =
    elim (at_seam before behind x k j (all_rest y before one) two is) [
      | inl bars ↦ inl (bars.0, omega (arith, bars.1))
      | inr rest ↦ elim rest [
        | inl plain ↦ inr (inl (plain.0, ap (λ z. y ∷ z) plain.1, ap suc plain.2))
        | inr later ↦ inr (inr later)
      ]
    ]
  where
    all_rest : (y : TargetInstr) (ys : List TargetInstr) → IsTrue (list_all is_barrier (y ∷ ys)) → IsTrue (list_all is_barrier ys)
    all_rest (Plain i) ys all = cc
    all_rest Check ys all = all
    all_rest (Guard r) ys all = all

if_there : (wanted : Bool) (n : ℕ) (j : TargetInstr) → slice_get (check_if wanted) n ≡ Some j → wanted ≡ true
if_there true n j is = refl
if_there false n j is = cc

-- what stands in a block
pub in_block : (place : ℕ → ℕ) (op : Op) (m : Marked) (k : ℕ) (j : TargetInstr) → slice_get (block place op m) k ≡ Some j → At place op m k j
in_block place op m k j is =
    elim (at_seam (barrier m.before (to_guard op m.instr)) (check_if m.after) (Plain (redirected place m.instr)) k j (barrier_bars m.before (to_guard op m.instr)) (checks_bar m.after) is) [
      | inl bars ↦ inl bars
      | inr rest ↦ elim rest [
        | inl plain ↦ inr (inl plain)
        | inr behind ↦ inr (inr (behind.0, if_there m.after behind.1.0 j behind.1.1))
      ]
    ]

-- where a block ends without a check after its instruction
ends_plain : (place : ℕ → ℕ) (op : Op) (m : Marked) → m.after ≡ false → suc (length (barrier m.before (to_guard op m.instr))) ≡ length (block place op m)
ends_plain place op m unchecked =
    let none : length (check_if m.after) ≡ 0 = ap (λ b. length (check_if b)) unchecked in
    omega (arith, none, length-append (barrier m.before (to_guard op m.instr)) (Plain (redirected place m.instr) ∷ check_if m.after))

-- a block has an instruction
block_some : (place : ℕ → ℕ) (op : Op) (m : Marked) → 0 < length (block place op m)
block_some place op m = omega (arith, length-append (barrier m.before (to_guard op m.instr)) (Plain (redirected place m.instr) ∷ check_if m.after))

one_way : (a to : ℕ) → IsTrue ((a == to) || false) → to ≡ a
one_way a to is = by_bool (a == to) refl is
  where
    by_bool : (b : Bool) → (a == to) ≡ b → IsTrue (b || false) → to ≡ a
    by_bool true same found = grind (arith, nat_tests)
    by_bool false same found = cc

two_ways : (a b to : ℕ) → IsTrue ((a == to) || ((b == to) || false)) → (to ≡ a) ⊎ (to ≡ b)
two_ways a b to is = by_bool (a == to) refl is
  where
    by_bool : (c : Bool) → (a == to) ≡ c → IsTrue (c || ((b == to) || false)) → (to ≡ a) ⊎ (to ≡ b)
    by_bool true same found = inl (grind (arith, nat_tests))
    by_bool false same found = inr (one_way b to found)

-- where the block's instruction goes: on, as it alone may; or it jumps, and goes on or to the place of a block
abbrev Goes : (ℕ → ℕ) → Instr → ℕ → ℕ → Type 0
Goes place i last to = (IsTrue (leads_on i) × (to ≡ last + 1)) ⊎ (IsTrue (jumps i) × ((to ≡ last + 1) ⊎ ((l : ℕ) × (to ≡ place l))))

forks : (place : ℕ → ℕ) (l last to : ℕ) → IsTrue (((last + 1) == to) || ((place l == to) || false)) → (to ≡ last + 1) ⊎ ((l : ℕ) × (to ≡ place l))
forks place l last to is = elim (two_ways (last + 1) (place l) to is) [ inl next ↦ inl next | inr jump ↦ inr (l, jump) ]

plain_goes : (place : ℕ → ℕ) (i : Instr) (last to : ℕ) → IsTrue (goes_to (redirected place i) last to) → Goes place i last to
plain_goes place (instr.Cas entry l) last to is = inr (refl, forks place l last to is)
plain_goes place (instr.Jump l) last to is = inr (refl, inr (l, one_way (place l) to is))
plain_goes place (instr.IfEq a b l) last to is = inr (refl, forks place l last to is)
plain_goes place (instr.IfLess a b l) last to is = inr (refl, forks place l last to is)
plain_goes place (instr.IfMarked a l) last to is = inr (refl, forks place l last to is)
plain_goes place (instr.Commit entries) last to is = cc
plain_goes place (instr.Return a) last to is = cc
plain_goes place instr.ReturnNone last to is = cc
plain_goes place instr.Again last to is = cc
plain_goes place _ last to is = inl (refl, one_way (last + 1) to is)

bar_goes : (j : TargetInstr) (last to : ℕ) → IsTrue (is_barrier j) → IsTrue (list_any (λ next. next == to) (target_successors j last)) → to ≡ last + 1
bar_goes (Plain i) last to bars is = cc
bar_goes Check last to bars is = one_way (last + 1) to is
bar_goes (Guard r) last to bars is = one_way (last + 1) to is

pub jumps_not_on : (i : Instr) → IsTrue (jumps i) → leads_on i ≡ false
jumps_not_on (instr.Cas entry l) is = cc
jumps_not_on _ is = cc

-- a check stands only after what goes on
abbrev pub IsStraight : Marked → Type 0
IsStraight m = m.after ≡ true → IsTrue (leads_on m.instr)

none_behind : (m : Marked) → IsStraight m → IsTrue (jumps m.instr) → m.after ≡ false
none_behind m straight jumping = by_bool m.after straight
  where
    by_bool : (b : Bool) → (b ≡ true → IsTrue (leads_on m.instr)) → b ≡ false
    by_bool false on = refl
    by_bool true on = let no : false ≡ true = sym (jumps_not_on m.instr jumping) ∙ on refl in cc

-- control goes from a place of a block to the next place there, or from its last one on or to the beginning of a block
abbrev BlockGoes : (ℕ → ℕ) → Op → Marked → ℕ → ℕ → ℕ → Type 0
BlockGoes place op m k last to =
    ((to ≡ last + 1) × (suc k < length (block place op m)))
    ⊎ ((suc k ≡ length (block place op m)) × (((to ≡ last + 1) × (IsTrue (leads_on m.instr) ⊎ IsTrue (jumps m.instr))) ⊎ (IsTrue (jumps m.instr) × ((l : ℕ) × (to ≡ place l)))))

further : (place : ℕ → ℕ) (op : Op) (m : Marked) (k last to : ℕ) → k < length (block place op m) → to ≡ last + 1 → IsTrue (leads_on m.instr) ⊎ IsTrue (jumps m.instr) → BlockGoes place op m k last to
further place op m k last to inside next how = elim (less_or_last k (length (block place op m)) inside) [
  | inl more ↦ inl (next, more)
  | inr ends ↦ inr (ends, inl (next, how))
]

block_goes : (place : ℕ → ℕ) (op : Op) (m : Marked) (k : ℕ) (j : TargetInstr) (last to : ℕ) → IsStraight m → slice_get (block place op m) k ≡ Some j
    → IsTrue (list_any (λ next. next == to) (target_successors j last)) → BlockGoes place op m k last to
block_goes place op m k j last to straight is goes =
    let inside = slice_get_within (block place op m) k j is in
    elim (in_block place op m k j is) [
      | inl bars ↦ inl (bar_goes j last to bars.0 goes, bars.1)
      | inr rest ↦ elim rest [
        | inr behind ↦ further place op m k last to inside (bar_goes j last to behind.0 goes) (inl (straight behind.1))
        | inl plain ↦ elim (plain_goes place m.instr last to (subst (λ z. IsTrue (list_any (λ next. next == to) (target_successors z last))) plain.0 goes)) [
          | inl on ↦ further place op m k last to inside on.1 (inl on.0)
          | inr jump ↦ inr (
            ap suc plain.2 ∙ ends_plain place op m (none_behind m straight jump.0),
            elim jump.1 [
              | inl next ↦ inl (next, inr jump.0)
              | inr far ↦ inr (jump.0, far)
            ],
          )
        ]
      ]
    ]

-- blocks whose jumps are taken elsewhere are as long
pub same_length : (place other : ℕ → ℕ) (op : Op) (m : Marked) → length (block place op m) ≡ length (block other op m)
same_length place other op m =
    length-append (barrier m.before (to_guard op m.instr)) (Plain (redirected place m.instr) ∷ check_if m.after)
    ∙ sym (length-append (barrier m.before (to_guard op m.instr)) (Plain (redirected other m.instr) ∷ check_if m.after))

-- the block that an instruction of a method becomes
abbrev pub block_in : Op → List Marked → Marked → List TargetInstr
block_in op marked m = block (block_place op marked) op m

begins : (op : Op) (marked : List Marked) (at : ℕ) → begin (block_in op marked) marked at ≡ block_place op marked at
begins op marked at = same_begin (block_in op marked) (block (λ l. l) op) (same_length (block_place op marked) (λ l. l) op) marked at

-- a place is in a block, and a state there comes of one before the block that has a property of the block's place, by what
-- stands before the place
pub record IsInBlock {S : Type 0} (after : TargetInstr → S → S) (P : ℕ → S → Type 0) (op : Op) (marked : List Marked) (to : ℕ) (state : S) : Type 0 where
  pub at : ℕ
  pub source : Marked
  pub offset : ℕ
  pub before : S
  pub stands : slice_get marked at ≡ Some source
  pub inside : offset < length (block_in op marked source)
  pub there : to ≡ block_place op marked at + offset
  pub holds : P at before
  pub comes : state ≡ run after (take offset (block_in op marked source)) before

-- a property of a state where a block is entered is handed on to each block that control may go to
abbrev pub HandsOn : {S : Type 0} → (TargetInstr → S → S) → (ℕ → S → Type 0) → Op → List Marked → Type 0
HandsOn {S} after P op marked =
    (at : ℕ) (m : Marked) (state : S) (to : ℕ) → slice_get marked at ≡ Some m → MayGo m.instr at to → P at state → P to (run after (block_in op marked m) state)

-- no check stands after what may go elsewhere
abbrev pub AreStraight : List Marked → Type 0
AreStraight marked = (at : ℕ) (m : Marked) → slice_get marked at ≡ Some m → IsStraight m

-- at a block's beginning
enters : {S : Type 0} (after : TargetInstr → S → S) (P : ℕ → S → Type 0) (op : Op) (marked : List Marked) (at to : ℕ) (state before : S) → to ≡ block_place op marked at → to < length (laid_out op marked)
    → P at before → state ≡ before → IsInBlock after P op marked to state
enters after P op marked at to state before there inside holds same =
    let begun : begin (block_in op marked) marked at ≡ to = begins op marked at ∙ sym there in
    let found = piece_there (block_in op marked) marked at (subst (λ n. n < length (laid_out op marked)) (sym begun) inside) in
    record {
      at = at;
      source = found.0;
      offset = 0;
      before = before;
      stands = found.1;
      inside = block_some (block_place op marked) op found.0;
      there = omega (arith, there);
      holds = holds;
      comes = same;
    }

-- what stands at a place of a block
pub stands_there : {S : Type 0} (after : TargetInstr → S → S) (P : ℕ → S → Type 0) (op : Op) (marked : List Marked) (to : ℕ) (state : S) (is : IsInBlock after P op marked to state)
    → slice_get (laid_out op marked) to ≡ slice_get (block_in op marked is.source) is.offset
stands_there after P op marked to state is =
    let there : to ≡ begin (block_in op marked) marked is.at + is.offset = omega (arith, is.there, begins op marked is.at) in
    ap (slice_get (laid_out op marked)) there ∙ piece_get (block_in op marked) marked is.at is.source is.offset is.stands is.inside

-- a step leads on in the block, or to a block's beginning
steps_on : {S : Type 0} (after : TargetInstr → S → S) (P : ℕ → S → Type 0) (op : Op) (marked : List Marked) → AreStraight marked → HandsOn after P op marked
    → (last to : ℕ) (j : TargetInstr) (state : S) → IsInBlock after P op marked last state → slice_get (laid_out op marked) last ≡ Some j
    → IsTrue (list_any (λ next. next == to) (target_successors j last)) → to < length (laid_out op marked)
    → IsInBlock after P op marked to (after j state)
steps_on after P op marked straight hands last to j state is found goes inside =
    let m = is.source in
    let k = is.offset in
    let at = is.at in
    let placed : slice_get (block_in op marked m) k ≡ Some j = sym (stands_there after P op marked last state is) ∙ found in
    let further : after j state ≡ run after (take (suc k) (block_in op marked m)) is.before = ap (after j) is.comes ∙ sym (run_on after (block_in op marked m) k j is.before placed) in
    let whole : suc k ≡ length (block_in op marked m) → after j state ≡ run after (block_in op marked m) is.before =
    λ ends. further ∙ ap (λ n. run after (take n (block_in op marked m)) is.before) ends ∙ ap (λ z. run after z is.before) (take-length (block_in op marked m)) in
    let behind : suc k ≡ length (block_in op marked m) → to ≡ last + 1 → to ≡ block_place op marked (suc at) =
    λ ends next. omega (arith, next, is.there, ends, begins op marked at, begins op marked (suc at), next_begins (block_in op marked) marked at m is.stands) in
    let at_end : (next : ℕ) → MayGo m.instr at next → to ≡ block_place op marked next → suc k ≡ length (block_in op marked m) → IsInBlock after P op marked to (after j state) =
    λ next may there ends. enters after P op marked next to (after j state) (run after (block_in op marked m) is.before) there inside (hands at m is.before next is.stands may is.holds) (whole ends) in
    elim (block_goes (block_place op marked) op m k j last to (straight at m is.stands) placed goes) [
      | inl next ↦ record {
        at = at;
        source = m;
        offset = suc k;
        before = is.before;
        stands = is.stands;
        inside = next.1;
        there = omega (arith, next.0, is.there);
        holds = is.holds;
        comes = further;
      }
      | inr ends ↦ elim ends.1 [
        | inl next ↦ at_end (suc at) (elim next.1 [ inl on ↦ inl (on, refl) | inr jump ↦ inr jump ]) (behind ends.0 next.0) ends.0
        | inr far ↦ at_end far.1.0 (inr far.0) far.1.1 ends.0
      ]
    ]

goes_some : (found : Option TargetInstr) (last to : ℕ) → IsTrue (target_goes_from found last to) → (j : TargetInstr) × (found ≡ Some j) × IsTrue (list_any (λ next. next == to) (target_successors j last))
goes_some None last to goes = cc
goes_some (Some j) last to goes = (j, refl, goes)

-- a path of a compiled method leads to a place in a block. What holds of the state where the method starts, and is handed on from
-- block to block, holds where that block is entered
pub leads_into : {S : Type 0} (after : TargetInstr → S → S) (P : ℕ → S → Type 0) (op : Op) (marked : List Marked) → AreStraight marked → HandsOn after P op marked
    → (start : S) → P 0 start → (path : List ℕ) (to : ℕ) → TargetPath (laid_out op marked) path to → to < length (laid_out op marked)
    → IsInBlock after P op marked to (state_along after start (laid_out op marked) path)
leads_into after P op marked straight hands start holds [] to leads inside = enters after P op marked 0 to start start leads inside holds refl
leads_into after P op marked straight hands start holds (last ∷ path) to leads inside =
    let scheme = laid_out op marked in
    let state = state_along after start scheme path in
    let found = goes_some (slice_get scheme last) last to leads.0.0 in
    let before = leads_into after P op marked straight hands start holds path last leads.1 (slice_get_within scheme last found.0 found.1) in
    let there : passed after (slice_get scheme last) state ≡ after found.0 state = ap (λ o. passed after o state) found.1 in
    subst (IsInBlock after P op marked to) (sym there) (steps_on after P op marked straight hands last to found.0 state before found.1 found.2 inside)
