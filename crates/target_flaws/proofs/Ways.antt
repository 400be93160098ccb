-- The facts of a machine are those of the paths of a target's method.
use Rattle.std.proofs.Common.{◌≡◌, ℕ, zero, suc, ◌+◌, ◌<◌, ◌≤◌, Bool, List, [], ◌∷◌, length, Option, Some, None, refl, sym, ap, subst, ◌∙◌, arith}
use Rattle.std.specs.Prelude.{slice_get, option_map, IsTrue}
use Rattle.std.specs.List.{All}
use Rattle.std.proofs.lemmas.Option.{same_Some}
use Rattle.norm_lang.specs.Reach.{LeadsTo}
use Rattle.norm_lang.specs.Flow.{passed, state_along}
use Rattle.path_facts.specs.declared.moves.Move.{Move}
use Rattle.path_facts.specs.Facts.{state_behind, IsMove, GoesOn, ComesIn, AreFacts}
use Rattle.norm_paths.proofs.Following.{leads_same, few_successors, fork_leads, leads_fork, fork_stays}
use Rattle.target_code.specs.declared.target.TargetInstr.{TargetInstr}
use Rattle.target_code.specs.declared.target.TargetInstr.TheVariants.{Plain, Check, Guard}
use Rattle.target_code.specs.Paths.{target_successors, target_goes_from, IsTargetSuccessor, OnSomeTargetPath}
use Rattle.target_flaws.specs.Machines.{target_move_of, moves_from}
use Rattle.target_flaws.specs.Found.{SeesAll}

-- what stands at a place
move_get : (after : TargetInstr → ℕ → ℕ) (count k : ℕ) (code : List TargetInstr) (at : ℕ) → slice_get (moves_from after count k code) at ≡ option_map (λ i. target_move_of after count i (k + at)) (slice_get code at)
move_get after count k [] at = refl
move_get after count k (i ∷ code) zero = let same : k ≡ k + 0 = omega arith in ap (λ n. Some (target_move_of after count i n)) same
move_get after count k (i ∷ code) (suc at) =
    let same : k + 1 + at ≡ k + suc at = omega arith in
    move_get after count (k + 1) code at ∙ ap (λ n. option_map (λ j. target_move_of after count j n) (slice_get code at)) same

-- the moves of a method
abbrev moves_for : (TargetInstr → ℕ → ℕ) → List TargetInstr → List Move
moves_for after code = moves_from after (length code) 0 code

move_at : (after : TargetInstr → ℕ → ℕ) (code : List TargetInstr) (at : ℕ) → slice_get (moves_for after code) at ≡ option_map (λ i. target_move_of after (length code) i at) (slice_get code at)
move_at after code at =
    let same : 0 + at ≡ at = omega arith in
    move_get after (length code) 0 code at ∙ ap (λ n. option_map (λ i. target_move_of after (length code) i n) (slice_get code at)) same

length_moves : (after : TargetInstr → ℕ → ℕ) (count k : ℕ) (code : List TargetInstr) → length (moves_from after count k code) ≡ length code
length_moves after count k [] = refl
length_moves after count k (i ∷ code) = ap suc (length_moves after count (k + 1) code)

-- an instruction has at most two successors
few : (i : TargetInstr) (at : ℕ) → length (target_successors i at) ≤ 2
few (Plain i) at = few_successors i at
few Check at = omega arith
few (Guard r) at = omega arith

goes_by : (after : TargetInstr → ℕ → ℕ) (count from to : ℕ) (found : Option TargetInstr) (move : Move)
    → option_map (λ i. target_move_of after count i from) found ≡ Some move → LeadsTo move.fork to → IsTrue (target_goes_from found from to) × (to < count)
goes_by after count from to None move is leads = cc
goes_by after count from to (Some i) move is leads =
    let same : target_move_of after count i from ≡ move = same_Some (target_move_of after count i from) move is in
    fork_leads count (target_successors i from) to (few i from) (subst (λ (m : Move). LeadsTo m.fork to) (sym same) leads)

goes_on : (after : TargetInstr → ℕ → ℕ) (code : List TargetInstr) (from to : ℕ) → GoesOn (moves_for after code) from to → IsTargetSuccessor code from to
goes_on after code from to goes = goes_by after (length code) from to (slice_get code from) goes.0 (sym (move_at after code from) ∙ goes.1) goes.2

on_by : (after : TargetInstr → ℕ → ℕ) (count from to : ℕ) (found : Option TargetInstr) → IsTrue (target_goes_from found from to) → to < count
    → (move : Move) × (option_map (λ i. target_move_of after count i from) found ≡ Some move) × LeadsTo move.fork to
on_by after count from to None goes lt = cc
on_by after count from to (Some i) goes lt = (target_move_of after count i from, refl, leads_fork count (target_successors i from) to (few i from) goes lt)

on_goes : (after : TargetInstr → ℕ → ℕ) (code : List TargetInstr) (from to : ℕ) → IsTargetSuccessor code from to → GoesOn (moves_for after code) from to
on_goes after code from to goes = let found = on_by after (length code) from to (slice_get code from) goes.0 goes.1 in (found.0, move_at after code from ∙ found.1, found.2)

-- no instruction leads to a fifth state
abbrev pub StaysFour : (TargetInstr → ℕ → ℕ) → Type 0
StaysFour after = (i : TargetInstr) (state : ℕ) → after i state < 4

behind_is : (after : TargetInstr → ℕ → ℕ) (count : ℕ) (i : TargetInstr) (at state : ℕ) → state < 4 → state_behind (target_move_of after count i at) state ≡ after i state
behind_is after count i at zero lt = refl
behind_is after count i at (suc zero) lt = refl
behind_is after count i at (suc (suc zero)) lt = refl
behind_is after count i at (suc (suc (suc zero))) lt = refl
behind_is after count i at (suc (suc (suc (suc state)))) lt = let no : ⊥ = omega arith in absurd no

passed_is : (after : TargetInstr → ℕ → ℕ) (count at : ℕ) (found : Option TargetInstr) (state : ℕ) → state < 4
    → passed state_behind (option_map (λ i. target_move_of after count i at) found) state ≡ passed after found state
passed_is after count at None state lt = refl
passed_is after count at (Some i) state lt = behind_is after count i at state lt

passed_lt : (after : TargetInstr → ℕ → ℕ) → StaysFour after → (found : Option TargetInstr) (state : ℕ) → state < 4 → passed after found state < 4
passed_lt after stays None state lt = lt
passed_lt after stays (Some i) state lt = stays i state

pub along_lt : (after : TargetInstr → ℕ → ℕ) → StaysFour after → (code : List TargetInstr) (path : List ℕ) → state_along after 0 code path < 4
along_lt after stays code [] = omega arith
along_lt after stays code (last ∷ path) = passed_lt after stays (slice_get code last) (state_along after 0 code path) (along_lt after stays code path)

along_is : (after : TargetInstr → ℕ → ℕ) → StaysFour after → (code : List TargetInstr) (path : List ℕ) → state_along state_behind 0 (moves_for after code) path ≡ state_along after 0 code path
along_is after stays code [] = refl
along_is after stays code (last ∷ path) =
    ap (passed state_behind (slice_get (moves_for after code) last)) (along_is after stays code path)
    ∙ ap (λ found. passed state_behind found (state_along after 0 code path)) (move_at after code last)
    ∙ passed_is after (length code) last (slice_get code last) (state_along after 0 code path) (along_lt after stays code path)

-- on some path the machine comes to a state
comes_there : (after : TargetInstr → ℕ → ℕ) → StaysFour after → (code : List TargetInstr) (at state : ℕ) → ComesIn (moves_for after code) 0 at state → OnSomeTargetPath after 0 code at state
comes_there after stays code at state comes =
    (comes.0, leads_same (GoesOn (moves_for after code)) (IsTargetSuccessor code) (goes_on after code) 0 comes.0 at comes.1, sym (along_is after stays code comes.0) ∙ comes.2)

there_comes : (after : TargetInstr → ℕ → ℕ) → StaysFour after → (code : List TargetInstr) (at state : ℕ) → OnSomeTargetPath after 0 code at state → ComesIn (moves_for after code) 0 at state
there_comes after stays code at state comes =
    (comes.0, leads_same (IsTargetSuccessor code) (GoesOn (moves_for after code)) (on_goes after code) 0 comes.0 at comes.1, along_is after stays code comes.0 ∙ comes.2)

-- the facts of the moves that were made of a method
pub sees_all : (after : TargetInstr → ℕ → ℕ) → StaysFour after → (code : List TargetInstr) (moves : List Move) (facts : List Bool) → moves ≡ moves_for after code → AreFacts moves 0 facts → SeesAll after code facts
sees_all after stays code moves facts is are = λ at state lt.
    let right = subst (λ (m : List Move). AreFacts m 0 facts) is are at state lt in
    ((λ so. comes_there after stays code at state (right.0 so)), λ comes. right.1 (there_comes after stays code at state comes))

-- the moves of a method stay in it
behind_all : (after : TargetInstr → ℕ → ℕ) → StaysFour after → (count : ℕ) (i : TargetInstr) (at : ℕ) → All (λ state. state < 4) (target_move_of after count i at).after
behind_all after stays count i at zero d lt = stays i 0
behind_all after stays count i at (suc zero) d lt = stays i 1
behind_all after stays count i at (suc (suc zero)) d lt = stays i 2
behind_all after stays count i at (suc (suc (suc zero))) d lt = stays i 3
behind_all after stays count i at (suc (suc (suc (suc k)))) d lt = let no : ⊥ = omega arith in absurd no

all_moves : (after : TargetInstr → ℕ → ℕ) → StaysFour after → (count k : ℕ) (code : List TargetInstr) → All (IsMove count) (moves_from after count k code)
all_moves after stays count k [] = λ at d lt. let no : ⊥ = omega arith in absurd no
all_moves after stays count k (i ∷ code) =
    all_cons (target_move_of after count i k) (moves_from after count (k + 1) code) (fork_stays count (target_successors i k), behind_all after stays count i k) (all_moves after stays count (k + 1) code)
  where
    all_cons : (move : Move) (moves : List Move) → IsMove count move → All (IsMove count) moves → All (IsMove count) (move ∷ moves)
    all_cons move moves first rest zero d lt = first
    all_cons move moves first rest (suc at) d lt = rest at d (omega arith)

pub moves_counted : (after : TargetInstr → ℕ → ℕ) (code : List TargetInstr) (moves : List Move) → moves ≡ moves_for after code → length moves ≡ length code
moves_counted after code moves is = ap length is ∙ length_moves after (length code) 0 code

pub moves_closed : (after : TargetInstr → ℕ → ℕ) → StaysFour after → (code : List TargetInstr) (moves : List Move) → moves ≡ moves_for after code → All (IsMove (length moves)) moves
moves_closed after stays code moves is =
    subst (λ (n : ℕ). All (IsMove n) moves) (sym (moves_counted after code moves is)) (subst (All (IsMove (length code))) (sym is) (all_moves after stays (length code) 0 code))

-- a state that follows from another follows from it along a path
pub along_map : {S T : Type 0} (after : TargetInstr → S → S) (other : TargetInstr → T → T) (f : S → T) → ((i : TargetInstr) (s : S) → f (after i s) ≡ other i (f s))
    → (start : S) (code : List TargetInstr) (path : List ℕ) → f (state_along after start code path) ≡ state_along other (f start) code path
along_map after other f same start code [] = refl
along_map after other f same start code (last ∷ path) =
    by_option (slice_get code last) ∙ ap (passed other (slice_get code last)) (along_map after other f same start code path)
  where
    by_option : (found : Option TargetInstr) → f (passed after found (state_along after start code path)) ≡ passed other found (f (state_along after start code path))
    by_option None = refl
    by_option (Some i) = same i (state_along after start code path)
