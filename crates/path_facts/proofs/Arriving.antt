-- Nodes that are reached are states that a machine may arrive in.
use Rattle.std.proofs.Common.{◌≡◌, ◌↔◌, ℕ, zero, suc, ◌*◌, ◌^◌, ◌<◌, inl, inr, Bool, true, false, List, [], ◌∷◌, length, Option, Some, None, refl, sym, ap, subst, ◌∙◌, arith}
use Rattle.std.specs.Prelude.{slice_get, slice_index, unwrap_or, option_map, IsTrue}
use Rattle.std.specs.List.{All, flat_map}
use Rattle.std.specs.Option.{ForSome}
use Rattle.std.proofs.lemmas.Option.{same_Some}
use Rattle.std.proofs.lemmas.List.Elements.{All-append}
use Rattle.norm_lang.specs.declared.forks.Fork.{Fork}
use Rattle.norm_lang.specs.Flow.{state_along}
use Rattle.norm_lang.specs.Reach.{LeadsTo, StaysBelow, IsForkSuccessor, Reaches, AreMarks}
use Rattle.norm_lang.proofs.Reaching.{reaches_itself, reaches_on, reached_within}
use Rattle.path_facts.specs.declared.moves.Move.{Move}
use Rattle.path_facts.specs.Facts.{state_behind, IsMove, IsWay, ComesIn, AreFacts}
use Rattle.path_facts.specs.Nodes.{node, fork_with, fork_behind, nodes_of}
use Rattle.path_facts.proofs.Fitting.{one_of_four}

-- the fork of a node is that of its instruction with the state after it
fork_of_node : (moves : List Move) (at state : ℕ) → state < 4 → slice_get (flat_map nodes_of moves) (node at state) ≡ option_map (λ move. fork_behind move state) (slice_get moves at)
fork_of_node (move ∷ moves) zero (suc (suc (suc (suc state)))) lt = let no : ⊥ = omega arith in absurd no
fork_of_node (move ∷ moves) (suc at) state lt =
    let further : node (suc at) state ≡ suc (suc (suc (suc (node at state)))) = omega arith in
    ap (slice_get (flat_map nodes_of (move ∷ moves))) further ∙ fork_of_node moves at state lt
fork_of_node _ _ _ lt = refl

length_nodes : (moves : List Move) → length (flat_map nodes_of moves) ≡ 4 * length moves
length_nodes [] = refl
length_nodes (move ∷ moves) = omega (arith, length_nodes moves)

-- a state after an instruction is one of the four
behind_lt : (count : ℕ) (move : Move) (state : ℕ) → IsMove count move → state_behind move state < 4
behind_lt count move state is = by_length move.after state is.1
  where
    by_length : (after : List ℕ) (state : ℕ) → All (λ s. s < 4) after → slice_index after state < 4
    by_length [] state all = omega arith
    by_length (s ∷ after) zero all = all 0 0 (omega arith)
    by_length (s ∷ after) (suc state) all = by_length after state (λ k d lt. all (suc k) d (omega arith))

-- an instruction that control goes on from is one of the instructions
move_at : (count : ℕ) (moves : List Move) (at : ℕ) (move : Move) → All (IsMove count) moves → slice_get moves at ≡ Some move → IsMove count move
move_at count [] at move all is = cc
move_at count (first ∷ moves) zero move all is = subst (IsMove count) (same_Some first move is) (all 0 first (omega arith))
move_at count (first ∷ moves) (suc at) move all is = move_at count moves at move (λ k d lt. all (suc k) d (omega arith)) is

mapped_leads : (fork : Fork) (state to : ℕ) → LeadsTo fork to → LeadsTo (fork_with fork state) (node to state)
mapped_leads fork state to leads = elim leads [ inl first ↦ inl (ap (option_map (λ t. node t state)) first) | inr second ↦ inr (ap (option_map (λ t. node t state)) second) ]

mapped_some : (at : Option ℕ) (state next : ℕ) → option_map (λ t. node t state) at ≡ Some next → (to : ℕ) × (at ≡ Some to) × (next ≡ node to state)
mapped_some None state next is = cc
mapped_some (Some to) state next is = (to, refl, sym (same_Some (node to state) next is))

mapped_from : (fork : Fork) (state next : ℕ) → LeadsTo (fork_with fork state) next → (to : ℕ) × LeadsTo fork to × (next ≡ node to state)
mapped_from fork state next leads = elim leads [
  | inl first ↦ (let found = mapped_some fork.first state next first in (found.0, inl found.1, found.2))
  | inr second ↦ (let found = mapped_some fork.second state next second in (found.0, inr found.1, found.2))
]

-- a node stands for a state that the machine may be in
abbrev StandsFor : List Move → ℕ → ℕ → Type 0
StandsFor moves start k = (at state : ℕ) × (state < 4) × (k ≡ node at state) × ComesIn moves start at state

found_move : (moves : List Move) (at state : ℕ) (fork : Fork) → slice_get (flat_map nodes_of moves) (node at state) ≡ Some fork → state < 4
    → (move : Move) × (slice_get moves at ≡ Some move) × (fork ≡ fork_behind move state)
found_move moves at state fork is lt = by_option (slice_get moves at) (sym (fork_of_node moves at state lt) ∙ is)
  where
    by_option : (found : Option Move) → option_map (λ move. fork_behind move state) found ≡ Some fork → (move : Move) × (found ≡ Some move) × (fork ≡ fork_behind move state)
    by_option None is = cc
    by_option (Some move) is = (move, refl, sym (same_Some (fork_behind move state) fork is))

state_step : (moves : List Move) (start at : ℕ) (path : List ℕ) (move : Move) (state : ℕ) → slice_get moves at ≡ Some move → state_along state_behind start moves path ≡ state
    → state_along state_behind start moves (at ∷ path) ≡ state_behind move state
state_step moves start at path move state is was = rw (is, was) refl

-- a successor of a node that stands for a state stands for one
stands_on : (moves : List Move) (start count : ℕ) → All (IsMove count) moves → (k next : ℕ) → StandsFor moves start k → IsForkSuccessor (flat_map nodes_of moves) k next → StandsFor moves start next
stands_on moves start count closed k next stands goes =
    let at = stands.0 in
    let state = stands.1 in
    let lt : state < 4 = stands.2 in
    let found = found_move moves at state goes.0 (ap (slice_get (flat_map nodes_of moves)) (sym stands.3) ∙ goes.1) lt in
    let move = found.0 in
    let leads = mapped_from move.fork (state_behind move state) next (subst (λ (f : Fork). LeadsTo f next) found.2 goes.2) in
    let comes : ComesIn moves start at state = stands.4 in (
      leads.0,
      state_behind move state,
      behind_lt count move state (move_at count moves at move closed found.1),
      leads.2,
      (at ∷ comes.0, ((move, found.1, leads.1), comes.1), state_step moves start at comes.0 move state found.1 comes.2),
    )

first_node : (start : ℕ) → node 0 start ≡ start
first_node start = omega arith

start_stands : (moves : List Move) (start : ℕ) → start < 4 → StandsFor moves start start
start_stands moves start lt = (0, start, lt, sym (first_node start), ([], refl, refl))

-- a state that the machine may be in has a node that is reached
reached_by : (moves : List Move) (start count : ℕ) → start < 4 → All (IsMove count) moves → (path : List ℕ) (at : ℕ) → IsWay moves path at
    → (state_along state_behind start moves path < 4) × Reaches (flat_map nodes_of moves) start (node at (state_along state_behind start moves path))
reached_by moves start count lt closed [] at here = (lt, subst (λ (to : ℕ). Reaches (flat_map nodes_of moves) start (node to start)) (sym here) (subst (Reaches (flat_map nodes_of moves) start) (sym (first_node start)) (reaches_itself (flat_map nodes_of moves) start)))
reached_by moves start count lt closed (last ∷ path) at goes =
    let before = reached_by moves start count lt closed path last goes.1 in
    let state = state_along state_behind start moves path in
    let move = goes.0.0 in
    let is : state_along state_behind start moves (last ∷ path) ≡ state_behind move state = state_step moves start last path move state goes.0.1 refl in
    let fork : slice_get (flat_map nodes_of moves) (node last state) ≡ Some (fork_behind move state) =
    fork_of_node moves last state before.0 ∙ ap (option_map (λ m. fork_behind m state)) goes.0.1 in
    let next : Reaches (flat_map nodes_of moves) start (node at (state_behind move state)) =
    reaches_on (flat_map nodes_of moves) start (node last state) (node at (state_behind move state)) before.1 (fork_behind move state, fork, mapped_leads move.fork (state_behind move state) at goes.0.2) in
    subst (λ (s : ℕ). (s < 4) × Reaches (flat_map nodes_of moves) start (node at s)) (sym is) (behind_lt count move state (move_at count moves last move closed goes.0.1), next)

same_node : (at state there other : ℕ) → state < 4 → other < 4 → node at state ≡ node there other → (at ≡ there) × (state ≡ other)
same_node at state there other lt less is = (omega arith, omega arith)

stands_there : (moves : List Move) (start at state : ℕ) → state < 4 → StandsFor moves start (node at state) → ComesIn moves start at state
stands_there moves start at state lt stands =
    let same = same_node at state stands.0 stands.1 lt stands.2 stands.3 in
    subst (λ (a : ℕ). ComesIn moves start a state) (sym same.0) (subst (ComesIn moves start stands.0) (sym same.1) stands.4)

marked_option : (mark : Option Bool) → IsTrue (unwrap_or mark false) → mark ≡ Some true
marked_option (Some true) is = refl
marked_option _ is = cc

option_marked : (mark : Option Bool) → mark ≡ Some true → IsTrue (unwrap_or mark false)
option_marked mark is = rw is refl

-- the marks of what is reached are the facts
pub facts_are : (moves : List Move) (start : ℕ) (forks : List Fork) (marks : List Bool) → start < 4 → All (IsMove (length moves)) moves
    → forks ≡ flat_map nodes_of moves → AreMarks forks start marks → AreFacts moves start marks
facts_are moves start forks marks lt closed is are = λ at state less.
    let right : (k : ℕ) → (slice_get marks k ≡ Some true) ↔ Reaches (flat_map nodes_of moves) start k = subst (λ (f : List Fork). (k : ℕ) → (slice_get marks k ≡ Some true) ↔ Reaches f start k) is are.right in (
      λ marked. stands_there moves start at state less (reached_within (flat_map nodes_of moves) (StandsFor moves start) (stands_on moves start (length moves) closed) start (node at state) (start_stands moves start lt) ((right (node at state)).0 (marked_option (slice_get marks (node at state)) (sym (one_of_four marks at state less) ∙ marked)))),
      λ comes. let reached = reached_by moves start (length moves) lt closed comes.0 at comes.1 in
          one_of_four marks at state less ∙ option_marked (slice_get marks (node at state)) ((right (node at state)).1 (subst (λ (s : ℕ). Reaches (flat_map nodes_of moves) start (node at s)) comes.2 reached.1)),
    )

-- the nodes' forks stay among the nodes
within_nodes : (count : ℕ) (at : Option ℕ) (state : ℕ) → state < 4 → ForSome at (λ to. to < count) → ForSome (option_map (λ t. node t state) at) (λ to. to < 4 * count)
within_nodes count at state lt inside = λ next is.
    let found = mapped_some at state next is in
    let less : found.0 < count = inside found.0 found.1 in
    let same : next ≡ node found.0 state = found.2 in omega arith

fork_within : (count : ℕ) (move : Move) (state : ℕ) → IsMove count move → state < 4 → StaysBelow (4 * count) (fork_behind move state)
fork_within count move state is lt =
    let behind = behind_lt count move state is in
    (within_nodes count move.fork.first (state_behind move state) behind is.0.0, within_nodes count move.fork.second (state_behind move state) behind is.0.1)

nodes_within : (count : ℕ) (move : Move) → IsMove count move → All (StaysBelow (4 * count)) (nodes_of move)
nodes_within count move is zero d lt = fork_within count move 0 is (omega arith)
nodes_within count move is (suc zero) d lt = fork_within count move 1 is (omega arith)
nodes_within count move is (suc (suc zero)) d lt = fork_within count move 2 is (omega arith)
nodes_within count move is (suc (suc (suc zero))) d lt = fork_within count move 3 is (omega arith)
nodes_within count move is (suc (suc (suc (suc k)))) d lt = let no : ⊥ = omega arith in absurd no

all_within : (count : ℕ) (moves : List Move) → All (IsMove count) moves → All (StaysBelow (4 * count)) (flat_map nodes_of moves)
all_within count [] closed = λ k d lt. let no : ⊥ = omega arith in absurd no
all_within count (move ∷ moves) closed =
    All-append (StaysBelow (4 * count)) (nodes_of move) (flat_map nodes_of moves) (nodes_within count move (closed 0 move (omega arith))) (all_within count moves (λ k d lt. closed (suc k) d (omega arith)))

-- fewer than 2 ^ 32 nodes
pub nodes_few : (moves : List Move) (forks : List Fork) → length moves < 2 ^ 30 → forks ≡ flat_map nodes_of moves → length forks < 2 ^ 32
nodes_few moves forks few is = let counted : length forks ≡ 4 * length moves = ap length is ∙ length_nodes moves in omega (arith, counted)

-- the start's node is one of them
pub start_inside : (moves : List Move) (forks : List Fork) (start : ℕ) → 0 < length moves → start < 4 → forks ≡ flat_map nodes_of moves → start < length forks
start_inside moves forks start some lt is = let counted : length forks ≡ 4 * length moves = ap length is ∙ length_nodes moves in omega (arith, counted)

-- and their successors are
pub nodes_closed : (moves : List Move) (forks : List Fork) → All (IsMove (length moves)) moves → forks ≡ flat_map nodes_of moves → All (StaysBelow (length forks)) forks
nodes_closed moves forks closed is =
    let counted : length forks ≡ 4 * length moves = ap length is ∙ length_nodes moves in
    subst (λ (n : ℕ). All (StaysBelow n) forks) (sym counted) (subst (All (StaysBelow (4 * length moves))) (sym is) (all_within (length moves) moves closed))
