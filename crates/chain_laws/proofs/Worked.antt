-- Runs worked out by hand.
use Rattle.std.proofs.Common.{ℕ, zero, suc, ◌≡◌, ◌≤◌, ◌<◌, List, [], ◌∷◌, ◌++◌, Option, Some, None, arith, refl}
use Rattle.oa_words.specs.Words.{Warning, Status, Head, Link, Sizes}
use Rattle.oa_words.specs.SlotKinds.{slots_of}
use Rattle.oa_words.specs.Within.{AreKinds}
use Rattle.oa_words.specs.Starts.{Beginning, start_word}
use Rattle.phase_pools.specs.declared.stages.Scheme.TheVariants.{Warned, Announced}
use Rattle.phase_pools.specs.declared.stages.ClaimStage.TheVariants as claims
use Rattle.phase_pools.specs.Pools.{sweep_begun}
use Rattle.chain_laws.specs.Chains.{Owner, Chained, Taken, Outside, Retired}
use Rattle.chain_laws.specs.Laws.{NodesFit}
use Rattle.chain_laws.specs.Machine.{Standing, Elsewhere, Claims, PoolState, PoolEvent, BeginsClaim, BeginsRetirement, Steps, Writes, pool_run, pool_start}

-- one kind: slot 1 holds an initial node; 2 and 3 are chained
sizes : Sizes
sizes = record { callers = 1; slots = 3; fields = 1; cells = 1; kinds = 3 ∷ []; tops = 8192 }

beginning : Beginning
beginning = record { first = 1; warnings = 1; nodes = (0 ∷ []) ∷ []; counts = 1 ∷ []; cells = 0 ∷ [] }

abbrev times_of : ℕ → PoolEvent → List PoolEvent
times_of zero event = []
times_of (suc count) event = event ∷ times_of count event

-- what is seen of a state: the head, the words and the owners of slots 2 and 3, the chain, and where callers 0 and 1 stand
record Seen : Type 0 where
  head : ℕ
  links : List ℕ
  statuses : List ℕ
  owners : List Owner
  chain : List ℕ
  standings : List Standing

abbrev seen_of : PoolState → Seen
seen_of state = record {
  head = state.memory (Head 0);
  links = state.memory (Link 2) ∷ state.memory (Link 3) ∷ [];
  statuses = state.memory (Status 2) ∷ state.memory (Status 3) ∷ [];
  owners = state.hands.owner 2 ∷ state.hands.owner 3 ∷ [];
  chain = state.hands.chain 0;
  standings = state.who 0 ∷ state.who 1 ∷ [];
}

abbrev seen_in : Option PoolState → Option Seen
seen_in None = None
seen_in (Some state) = Some (seen_of state)

abbrev after : List PoolEvent → Option PoolState
after events = pool_run sizes 5 events (pool_start sizes beginning (start_word sizes beginning))

abbrev looks : Standing
looks = Claims (record { kind = 0; stage = claims.ReadHead; sweeps = 0; sweep = sweep_begun 8192 Warned })

start_seen : seen_in (after []) ≡ Some (record { head = 8194; links = 3 ∷ 0 ∷ []; statuses = 4 ∷ 4 ∷ []; owners = Chained ∷ Chained ∷ []; chain = 2 ∷ 3 ∷ []; standings = Elsewhere ∷ Elsewhere ∷ [] })
unfolding sizes beginning
start_seen = refl

-- two claims load the same head: the one whose exchange comes first takes the top, the other looks again
two_claims : List PoolEvent
two_claims = BeginsClaim 0 0 Warned ∷ BeginsClaim 1 0 Warned ∷ Steps 0 ∷ Steps 1 ∷ Steps 0 ∷ Steps 1 ∷ Steps 0 ∷ Steps 1 ∷ []

one_takes : seen_in (after two_claims) ≡ Some (record {
  head = 8195;
  links = 3 ∷ 0 ∷ [];
  statuses = 4 ∷ 4 ∷ [];
  owners = Taken 0 ∷ Chained ∷ [];
  chain = 3 ∷ [];
  standings = Claims (record { kind = 0; stage = claims.StoreUsed 1 2; sweeps = 0; sweep = sweep_begun 8192 Warned }) ∷ looks ∷ [];
})
unfolding sizes beginning two_claims
one_takes = refl

-- caller 0 has loaded the head (1, 2) and the link 3. Then caller 1 claims slots 2 and 3, retires slot 2, and its next claim's sweep frees
-- slot 2 and pushes it: slot 2 is on top again, over none
taken_and_back : List PoolEvent
taken_and_back = BeginsClaim 0 0 Warned ∷ times_of 2 (Steps 0) ++ (BeginsClaim 1 0 Warned ∷ times_of 4 (Steps 1) ++ (BeginsClaim 1 0 Warned ∷ times_of 4 (Steps 1)
    ++ (BeginsRetirement 1 2 ∷ times_of 2 (Steps 1) ++ (BeginsClaim 1 0 Warned ∷ times_of 18 (Steps 1)))))

abbrev back : Seen → ℕ × List ℕ × List ℕ × List ℕ × List Owner
back s = (s.head, s.links, s.statuses, s.chain, s.owners)

abbrev back_in : Option Seen → Option (ℕ × List ℕ × List ℕ × List ℕ × List Owner)
back_in None = None
back_in (Some s) = Some (back s)

-- under phase 2
is_back : back_in (seen_in (after taken_and_back)) ≡ Some (16386, 0 ∷ 0 ∷ [], 8 ∷ 5 ∷ [], 2 ∷ [], Chained ∷ Outside ∷ [])
unfolding sizes beginning taken_and_back
is_back = refl

-- so the exchange of caller 0 fails: it would put slot 3 on top, which is used
abbrev first_standing : Option PoolState → Option Standing
first_standing None = None
first_standing (Some state) = Some (state.who 0)

exchange_fails : (first_standing (after (taken_and_back ++ Steps 0 ∷ [])) ≡ Some looks) × (back_in (seen_in (after (taken_and_back ++ Steps 0 ∷ []))) ≡ back_in (seen_in (after taken_and_back)))
unfolding sizes beginning taken_and_back
exchange_fails = (refl, refl)

-- ---- two kinds

-- slot 1 is of the first kind, and holds its initial node; 2 and 3 are of the second, and 2 holds that one's
two_kinds : Sizes
two_kinds = record { callers = 1; slots = 3; fields = 1; cells = 1; kinds = 1 ∷ 2 ∷ []; tops = 8192 }

a_node_each : Beginning
a_node_each = record { first = 1; warnings = 1; nodes = (0 ∷ []) ∷ (0 ∷ []) ∷ []; counts = 1 ∷ 1 ∷ []; cells = 0 ∷ [] }

-- the premises of the laws are met
are_kinds : AreKinds two_kinds
unfolding two_kinds
are_kinds = record { some = omega arith; few = omega arith; each = each; whole = refl } where
  each : (k : ℕ) → k < 2 → 1 ≤ slots_of two_kinds k
  each (suc (suc k)) lt = absurd (omega (arith, lt))
  each _ lt = omega arith

nodes_fit : NodesFit two_kinds a_node_each
unfolding two_kinds a_node_each
nodes_fit (suc (suc k)) lt = absurd (omega (arith, lt))
nodes_fit _ lt = omega arith

-- what is seen of a state: both heads and both chains, and the status and the owner of slot 3
record BothSeen : Type 0 where
  heads : List ℕ
  chains : List (List ℕ)
  status : ℕ
  owner : Owner

abbrev both_of : PoolState → BothSeen
both_of state = record {
  heads = state.memory (Head 0) ∷ state.memory (Head 1) ∷ [];
  chains = state.hands.chain 0 ∷ state.hands.chain 1 ∷ [];
  status = state.memory (Status 3);
  owner = state.hands.owner 3;
}

abbrev both_in : Option PoolState → Option BothSeen
both_in None = None
both_in (Some state) = Some (both_of state)

abbrev after_both : List PoolEvent → Option PoolState
after_both events = pool_run two_kinds 5 events (pool_start two_kinds a_node_each (start_word two_kinds a_node_each))

both_start : both_in (after_both []) ≡ Some (record { heads = 8192 ∷ 8195 ∷ []; chains = [] ∷ (3 ∷ []) ∷ []; status = 4; owner = Chained })
unfolding two_kinds a_node_each
both_start = refl

-- a claim of the first kind finds no slot, although one of the second is ready
none_of_its_kind : first_standing (after_both (BeginsClaim 0 0 Warned ∷ Steps 0 ∷ [])) ≡ Some (Claims (record { kind = 0; stage = claims.Sweeps; sweeps = 0; sweep = sweep_begun 8192 Warned }))
unfolding two_kinds a_node_each
none_of_its_kind = refl

-- caller 0 claims slot 3 and retires it. Then its claim of the first kind sweeps: it frees slot 3, and pushes it onto the second kind's chain
freed_for_another : List PoolEvent
freed_for_another = BeginsClaim 0 1 Warned ∷ times_of 4 (Steps 0) ++ (BeginsRetirement 0 3 ∷ times_of 2 (Steps 0) ++ (BeginsClaim 0 0 Warned ∷ times_of 17 (Steps 0)))

is_freed : both_in (after_both freed_for_another) ≡ Some (record { heads = 8192 ∷ 16387 ∷ []; chains = [] ∷ (3 ∷ []) ∷ []; status = 8; owner = Chained })
unfolding two_kinds a_node_each freed_for_another
is_freed = refl

-- and a claim of the second kind takes it without a sweep
is_taken : both_in (after_both (freed_for_another ++ BeginsClaim 1 1 Warned ∷ times_of 4 (Steps 1))) ≡ Some (record { heads = 8192 ∷ 16384 ∷ []; chains = [] ∷ [] ∷ []; status = 9; owner = Outside })
unfolding two_kinds a_node_each freed_for_another
is_taken = refl

-- ---- callers that announce

-- two callers, who have announced nothing
two_callers : Sizes
two_callers = record { callers = 2; slots = 3; fields = 1; cells = 1; kinds = 1 ∷ 2 ∷ []; tops = 8192 }

unannounced : Beginning
unannounced = record { first = 1; warnings = 0; nodes = (0 ∷ []) ∷ (0 ∷ []) ∷ []; counts = 1 ∷ 1 ∷ []; cells = 0 ∷ [] }

abbrev after_announced : List PoolEvent → Option PoolState
after_announced events = pool_run two_callers 5 events (pool_start two_callers unannounced (start_word two_callers unannounced))

-- caller 0 claims slot 3 and retires it in phase 1, and its claim of the first kind comes to a sweep, which loads what caller 1 has announced
-- meanwhile, 0 for nothing
abbrev announced : ℕ → List PoolEvent
announced phase =
    BeginsClaim 0 1 (Announced 0)
    ∷ times_of 4 (Steps 0) ++ (BeginsRetirement 0 3 ∷ times_of 2 (Steps 0) ++ (BeginsClaim 0 0 (Announced 0) ∷ times_of 4 (Steps 0) ++ (Writes (Warning 1) phase ∷ times_of 7 (Steps 0))))

-- an announcement of phase 1 holds the slot back
is_held_back : both_in (after_announced (announced 1)) ≡ Some (record { heads = 8192 ∷ 8192 ∷ []; chains = [] ∷ [] ∷ []; status = 6; owner = Retired 1 })
unfolding two_callers unannounced
is_held_back = refl

-- without one, or by one of a greater phase, it is freed, and pushed onto its kind's chain
is_let_go : (both_in (after_announced (announced 0)) ≡ Some (record { heads = 8192 ∷ 16387 ∷ []; chains = [] ∷ (3 ∷ []) ∷ []; status = 8; owner = Chained })) × (both_in (after_announced (announced 2)) ≡ both_in (after_announced (announced 0)))
unfolding two_callers unannounced
is_let_go = (refl, refl)
