-- Blocks whose jumps are taken to blocks are those of the scheme.
use Rattle.std.proofs.Common.{◌≡◌, ℕ, zero, suc, ◌+◌, ◌≤◌, Bool, true, false, List, [], ◌∷◌, ◌++◌, map, length, take, refl, sym, ap, ◌∙◌, arith}
use Rattle.std.specs.List.{flat_map}
use Rattle.std.proofs.Math.Path.{fun_ext}
use Rattle.std.proofs.lemmas.List.{length-append, length-map}
use Rattle.norm_lang.specs.declared.text.Reg.{Reg}
use Rattle.norm_lang.specs.declared.text.Op.{Op}
use Rattle.target_code.specs.declared.target.TargetInstr.{TargetInstr}
use Rattle.target_code.specs.declared.target.TargetInstr.TheVariants.{Plain, Check, Guard}
use Rattle.target_code.specs.Erasing.{redirected}
use Rattle.target_code.specs.Blocks.{to_guard, Marked, check_if, barrier, block, block_place, laid_out}
use Rattle.barrier_compiler.specs.Building.{kept_references, block_by, starts_from, start_of, AreNear, relocated}
use Rattle.barrier_compiler.specs.Sized.{IsShort}
use Rattle.barrier_compiler.proofs.Gathering.{guarded_is}
use Rattle.norm_paths.proofs.Starting.{zero_plus}

map_append : {X Y : Type 0} (f : X → Y) (xs ys : List X) → map f (xs ++ ys) ≡ map f xs ++ map f ys
map_append f [] ys = refl
map_append f (x ∷ xs) ys = ap (λ t. f x ∷ t) (map_append f xs ys)

-- guards and checks stay as they are
guards_stay : (place : ℕ → ℕ) (rs : List Reg) → map (relocated place) (map Guard rs ++ Check ∷ []) ≡ map Guard rs ++ Check ∷ []
guards_stay place [] = refl
guards_stay place (r ∷ rs) = ap (λ t. Guard r ∷ t) (guards_stay place rs)

check_stays : (place : ℕ → ℕ) (wanted : Bool) → map (relocated place) (check_if wanted) ≡ check_if wanted
check_stays place true = refl
check_stays place false = refl

barrier_stays : (place : ℕ → ℕ) (wanted : Bool) (rs : List Reg) → map (relocated place) (barrier wanted rs) ≡ barrier wanted rs
barrier_stays place wanted [] = check_stays place wanted
barrier_stays place wanted (r ∷ rs) = guards_stay place (r ∷ rs)

-- a block with its jump taken elsewhere
block_linked : (place : ℕ → ℕ) (op : Op) (m : Marked) → map (relocated place) (block_by (kept_references op) m) ≡ block place op m
block_linked place op m =
    ap (λ t. map (relocated place) (barrier m.before t ++ (Plain m.instr ∷ check_if m.after))) (guarded_is op m.instr)
    ∙ map_append (relocated place) (barrier m.before (to_guard op m.instr)) (Plain m.instr ∷ check_if m.after)
    ∙ ap (λ t. t ++ (Plain (redirected place m.instr) ∷ map (relocated place) (check_if m.after))) (barrier_stays place m.before (to_guard op m.instr))
    ∙ ap (λ t. barrier m.before (to_guard op m.instr) ++ (Plain (redirected place m.instr) ∷ t)) (check_stays place m.after)

-- all blocks
blocks_linked : (place : ℕ → ℕ) (op : Op) (marked : List Marked) → map (relocated place) (flat_map (block_by (kept_references op)) marked) ≡ flat_map (block place op) marked
blocks_linked place op [] = refl
blocks_linked place op (m ∷ marked) =
    map_append (relocated place) (block_by (kept_references op) m) (flat_map (block_by (kept_references op)) marked)
    ∙ ap (λ t. t ++ map (relocated place) (flat_map (block_by (kept_references op)) marked)) (block_linked place op m)
    ∙ ap (λ t. block place op m ++ t) (blocks_linked place op marked)

-- blocks are as long wherever their jumps lead
same_length : (place : ℕ → ℕ) (op : Op) (marked : List Marked) → length (flat_map (block_by (kept_references op)) marked) ≡ length (flat_map (block place op) marked)
same_length place op marked =
    sym (length-map (flat_map (block_by (kept_references op)) marked) (relocated place)) ∙ ap length (blocks_linked place op marked)

-- where a block begins is how long all blocks before it are
start_counted : (kept : List Reg) (n : ℕ) (code : List Marked) (at : ℕ)
    → start_of (starts_from kept n code) (n + length (flat_map (block_by kept) code)) at ≡ n + length (flat_map (block_by kept) (take at code))
start_counted kept n [] zero = refl
start_counted kept n [] (suc at) = refl
start_counted kept n (i ∷ code) zero = omega arith
start_counted kept n (i ∷ code) (suc at) =
    ap (λ t. start_of (starts_from kept (n + length (block_by kept i)) code) t at) (further (flat_map (block_by kept) code))
    ∙ start_counted kept (n + length (block_by kept i)) code at
    ∙ sym (further (flat_map (block_by kept) (take at code)))
  where
    further : (behind : List TargetInstr) → n + length (block_by kept i ++ behind) ≡ (n + length (block_by kept i)) + length behind
    further behind = let counted : length (block_by kept i ++ behind) ≡ length (block_by kept i) + length behind = length-append (block_by kept i) behind in omega (arith, counted)

starts_are : (op : Op) (code : List Marked) (at : ℕ)
    → start_of (starts_from (kept_references op) 0 code) (length (flat_map (block_by (kept_references op)) code)) at ≡ block_place op code at
starts_are op code at =
    let blocks : List Marked → List TargetInstr = flat_map (block_by (kept_references op)) in
    ap (λ t. start_of (starts_from (kept_references op) 0 code) t at) (sym (zero_plus (length (blocks code))))
    ∙ start_counted (kept_references op) 0 code at
    ∙ zero_plus (length (blocks (take at code)))
    ∙ same_length (λ l. l) op (take at code)

-- a prefix isn't longer
front_is_short : (f : Marked → List TargetInstr) (code : List Marked) (at : ℕ) → length (flat_map f (take at code)) ≤ length (flat_map f code)
front_is_short f [] zero = omega arith
front_is_short f [] (suc at) = omega arith
front_is_short f (i ∷ code) zero = omega arith
front_is_short f (i ∷ code) (suc at) =
    let one : length (f i ++ flat_map f (take at code)) ≡ length (f i) + length (flat_map f (take at code)) = length-append (f i) (flat_map f (take at code)) in
    let two : length (f i ++ flat_map f code) ≡ length (f i) + length (flat_map f code) = length-append (f i) (flat_map f code) in
    omega (arith, one, two, front_is_short f code at)

-- no block of a compiled method within the limits begins too far away
pub near : (op : Op) (kept : List Reg) (code : List Marked) (starts : List ℕ) (blocks : List TargetInstr)
    → kept ≡ kept_references op → IsShort op code → blocks ≡ flat_map (block_by kept) code → starts ≡ starts_from kept 0 code
    → AreNear starts (length blocks)
near op kept code starts blocks keeps short is begins at =
    let told : start_of starts (length blocks) at ≡ start_of (starts_from (kept_references op) 0 code) (length (flat_map (block_by (kept_references op)) code)) at =
    ap (λ s. start_of s (length blocks) at) begins
    ∙ ap (λ b. start_of (starts_from kept 0 code) (length b) at) is
    ∙ ap (λ k. start_of (starts_from k 0 code) (length (flat_map (block_by k) code)) at) keeps in
    let place : start_of (starts_from (kept_references op) 0 code) (length (flat_map (block_by (kept_references op)) code)) at ≡ block_place op code at = starts_are op code at in
    let front : block_place op code at ≤ length (flat_map (block (λ l. l) op) code) = front_is_short (block (λ l. l) op) code at in
    let long : length (flat_map (block (λ l. l) op) code) ≡ length (laid_out op code) =
    sym (same_length (λ l. l) op code) ∙ same_length (block_place op code) op code in
    omega (arith, told, place, front, long, short)

-- the blocks of a method with their jumps taken to blocks
pub linked_is : (op : Op) (kept : List Reg) (code : List Marked) (starts : List ℕ) (blocks : List TargetInstr)
    → kept ≡ kept_references op → blocks ≡ flat_map (block_by kept) code → starts ≡ starts_from kept 0 code
    → map (relocated (start_of starts (length blocks))) blocks ≡ laid_out op code
linked_is op kept code starts blocks keeps is begins =
    ap (λ b. map (relocated (start_of starts (length b))) b) is
    ∙ ap (λ s. map (relocated (start_of s (length (flat_map (block_by kept) code)))) (flat_map (block_by kept) code)) begins
    ∙ ap (λ k. map (relocated (start_of (starts_from k 0 code) (length (flat_map (block_by k) code)))) (flat_map (block_by k) code)) keeps
    ∙ ap (λ (place : ℕ → ℕ). map (relocated place) (flat_map (block_by (kept_references op)) code)) (fun_ext (starts_are op code))
    ∙ blocks_linked (block_place op code) op code
