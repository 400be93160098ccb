-- Claims that run alone: the lines of a claim on rows whose accesses were worked out by hand. A status is 4 times the phase, and 0 for ready, 1
-- for used, 2 for retired; a head is 8192 times its phase, and the slot on top.
use Rattle.std.specs.Prelude.{◌≡◌, ℕ, List, [], ◌∷◌, ◌++◌, Some}
use Rattle.oa_words.specs.Words.{Sizes, Phase, Warning, Hazard, Status, Head, Link}
use Rattle.phase_pools.specs.Accesses.{WordAccess, Loads, Stores, Exchanges}
use Rattle.c_language.specs.Steps.{Pool}
use Rattle.c_language.specs.Threads.{kept_begun, frame_begun}
use Rattle.c_runtime.specs.Laws.{claim_code}
use Rattle.c_rows.specs.Running.{Ran, lines_run}

abbrev pub pool_of : Sizes → ℕ → Pool
pool_of n last = record { sizes = n; fields = []; last = last; own = 0 }

-- a claim of a kind in a pool with a last phase
abbrev pub claimed : Sizes → ℕ → ℕ → List ℕ → Ran
claimed n last kind words = lines_run (pool_of n last) (claim_code (pool_of n last) kind) 600 (frame_begun [] kept_begun) words

-- 1 caller, 3 slots, 2 fields, 1 cell
abbrev pub small : Sizes
small = record { callers = 1; slots = 3; fields = 2; cells = 1; kinds = 3 ∷ []; tops = 8192 }

-- the same with heads of another base
abbrev pub wide : Sizes
wide = record { callers = 1; slots = 3; fields = 2; cells = 1; kinds = 3 ∷ []; tops = 16777216 }

-- their words: the phase, the warning, the first hazard, the statuses of slots 0 to 3, and the head with the links of slots 0 to 3; all others
-- are 0
abbrev pub row : (phase warning hazard : ℕ) → (statuses chain : List ℕ) → List ℕ
row phase warning hazard statuses chain =
    (phase ∷ 0 ∷ warning ∷ hazard ∷ 0 ∷ 0 ∷ 0 ∷ 0 ∷ 0 ∷ 0 ∷ 0 ∷ [])
    ++ (statuses
    ++ ((0 ∷ 0 ∷ 0 ∷ 0 ∷ 0 ∷ 0 ∷ 0 ∷ 0 ∷ 0 ∷ [])
    ++ chain))

-- the status of null, and those of three slots
abbrev pub statuses : (one two three : ℕ) → List ℕ
statuses one two three = 5 ∷ one ∷ two ∷ three ∷ []

-- the head, the link of null, and those of three slots
abbrev pub chain : (head one two three : ℕ) → List ℕ
chain head one two three = head ∷ 0 ∷ one ∷ two ∷ three ∷ []

-- no slot is on top, under phase 1
abbrev pub no_chain : List ℕ
no_chain = chain 8192 0 0 0

abbrev pub hazards_of : ℕ → List WordAccess
hazards_of c =
    Loads (Hazard c 0) ∷ Loads (Hazard c 1) ∷ Loads (Hazard c 2) ∷ Loads (Hazard c 3) ∷ Loads (Hazard c 4) ∷ Loads (Hazard c 5) ∷ Loads (Hazard c 6)
    ∷ Loads (Hazard c 7) ∷ []

-- a raise of a warning from one phase to another
abbrev pub raised : ℕ → ℕ → ℕ → List WordAccess
raised c p s = Loads (Warning c) ∷ Exchanges (Warning c) p s ∷ []

-- a sweep up to its statuses
abbrev pub warned : ℕ → ℕ → List WordAccess
warned p s = Loads Phase ∷ Exchanges Phase p s ∷ [] ++ raised 0 p s ++ hazards_of 0

-- one that makes no slot ready
abbrev pub idle : ℕ → ℕ → List WordAccess
idle p s = warned p s ++ Loads (Status 3) ∷ Loads (Status 2) ∷ Loads (Status 1) ∷ []

-- a slot is pushed, over another one
abbrev pub pushed : (kind j below head new : ℕ) → List WordAccess
pushed kind j below head new = Loads (Head kind) ∷ Stores (Link j) below ∷ Exchanges (Head kind) head new ∷ []

-- a slot is taken, over another one
abbrev pub taken : (kind j head new used : ℕ) → List WordAccess
taken kind j head new used = Loads (Head kind) ∷ Loads (Link j) ∷ Exchanges (Head kind) head new ∷ Stores (Status j) used ∷ []

-- two kinds: slots 1 and 2 are of the first, slot 3 is of the second. 1 caller, 1 field, 1 cell
abbrev pub mixed : Sizes
mixed = record { callers = 1; slots = 3; fields = 1; cells = 1; kinds = 2 ∷ 1 ∷ []; tops = 8192 }

-- its words: the phase, which its warning says too, the statuses of slots 0 to 3, and both heads with the links of slots 0 to 3
abbrev pub mixed_row : (phase : ℕ) → (statuses : List ℕ) → (first_head second_head : ℕ) → List ℕ
mixed_row phase statuses first_head second_head =
    (phase ∷ 0 ∷ phase ∷ 0 ∷ 0 ∷ 0 ∷ 0 ∷ 0 ∷ 0 ∷ 0 ∷ 0 ∷ [])
    ++ (statuses
    ++ (0 ∷ 0 ∷ 0 ∷ 0 ∷ 0 ∷ first_head ∷ second_head ∷ 0 ∷ 0 ∷ 0 ∷ 0 ∷ []))

-- four kinds of one slot each, 1 caller, 1 field, 1 cell; the words as those of two kinds
abbrev pub four : Sizes
four = record { callers = 1; slots = 4; fields = 1; cells = 1; kinds = 1 ∷ 1 ∷ 1 ∷ 1 ∷ []; tops = 8192 }

abbrev pub four_row : (phase : ℕ) → (statuses heads : List ℕ) → List ℕ
four_row phase statuses heads =
    (phase ∷ 0 ∷ phase ∷ 0 ∷ 0 ∷ 0 ∷ 0 ∷ 0 ∷ 0 ∷ 0 ∷ 0 ∷ [])
    ++ (statuses
    ++ ((0 ∷ 0 ∷ 0 ∷ 0 ∷ 0 ∷ 0 ∷ [])
    ++ (heads ++ (0 ∷ 0 ∷ 0 ∷ 0 ∷ 0 ∷ []))))

-- 2 callers, 3 slots, 1 field, 1 cell: the phase, which both warnings say too, the last hazard of the second caller, the statuses and the chain
abbrev pub pair : Sizes
pair = record { callers = 2; slots = 3; fields = 1; cells = 1; kinds = 3 ∷ []; tops = 8192 }

abbrev pub pair_row : (phase hazard : ℕ) → (statuses chain : List ℕ) → List ℕ
pair_row phase hazard statuses chain =
    (phase ∷ 0 ∷ 0 ∷ phase ∷ phase ∷ 0 ∷ 0 ∷ 0 ∷ 0 ∷ 0 ∷ 0 ∷ 0 ∷ 0 ∷ 0 ∷ 0 ∷ 0 ∷ 0 ∷ 0 ∷ 0 ∷ 0 ∷ hazard ∷ [])
    ++ (statuses
    ++ ((0 ∷ 0 ∷ 0 ∷ 0 ∷ 0 ∷ [])
    ++ chain))

pub record ClaimRows : Type 0 where
  -- slots 2 and 3 are chained: the look takes slot 2, and leaves slot 3 on top
  pub of_two : claimed small 5 0 (row 1 1 0 (statuses 5 4 4) (chain 8194 0 3 0)) ≡ record {
    accesses = taken 0 2 8194 8195 5;
    words = row 1 1 0 (statuses 5 5 4) (chain 8195 0 3 0);
    returned = Some 2;
  }
  -- then it takes slot 3, and leaves no slot
  pub of_one : claimed small 5 0 (row 1 1 0 (statuses 5 5 4) (chain 8195 0 3 0)) ≡ record {
    accesses = taken 0 3 8195 8192 5;
    words = row 1 1 0 (statuses 5 5 5) (chain 8192 0 3 0);
    returned = Some 3;
  }
  -- in a row of 2^24 tops a head is 16777216 times its phase, and the slot on top
  pub of_wide_row : claimed wide 5 0 (row 1 1 0 (statuses 5 4 4) (chain 16777218 0 3 0)) ≡ record {
    accesses = taken 0 2 16777218 16777219 5;
    words = row 1 1 0 (statuses 5 5 4) (chain 16777219 0 3 0);
    returned = Some 2;
  }
  -- and so is one that a sweep pushes
  pub of_wide_recycled : claimed wide 5 0 (row 1 1 0 (statuses 5 6 5) (chain 16777216 0 0 0)) ≡ record {
    accesses = Loads (Head 0) ∷ [] ++ warned 1 2
        ++ (Loads (Status 3) ∷ Loads (Status 2) ∷ Exchanges (Status 2) 6 8 ∷ [] ++ pushed 0 2 0 16777216 33554434)
        ++ (Loads (Status 1) ∷ [] ++ taken 0 2 33554434 33554432 9);
    words = row 2 2 0 (statuses 5 9 5) (chain 33554432 0 0 0);
    returned = Some 2;
  }
  -- three slots are used up: look, sweep, look, sweep, look
  pub full : claimed small 1000 0 (row 1 1 0 (statuses 5 5 5) no_chain) ≡ record {
    accesses = Loads (Head 0) ∷ [] ++ idle 1 2 ++ Loads (Head 0) ∷ [] ++ idle 2 3 ++ Loads (Head 0) ∷ [];
    words = row 3 3 0 (statuses 5 5 5) no_chain;
    returned = Some 0;
  }
  -- the phases are over: slots 2 and 3 were retired in the last one
  pub in_last_phase : claimed small 2 0 (row 2 2 0 (statuses 5 10 10) no_chain) ≡ record {
    accesses = Loads (Head 0) ∷ Loads Phase ∷ [];
    words = row 2 2 0 (statuses 5 10 10) no_chain;
    returned = Some 18446744073709551615;
  }
  -- the first sweep may go from the one phase to the other, and the second finds the last
  pub after_last_sweep : claimed small 2 0 (row 1 1 0 (statuses 5 5 5) no_chain) ≡ record {
    accesses = Loads (Head 0) ∷ [] ++ idle 1 2 ++ Loads (Head 0) ∷ Loads Phase ∷ [];
    words = row 2 2 0 (statuses 5 5 5) no_chain;
    returned = Some 18446744073709551615;
  }
  -- slots 2 and 3 were retired in phase 1: the sweep makes both ready, the least ends on top, and the look after it takes that
  pub of_recycled : claimed small 2 0 (row 1 1 0 (statuses 5 6 6) no_chain) ≡ record {
    accesses = Loads (Head 0) ∷ [] ++ warned 1 2
        ++ (Loads (Status 3) ∷ Exchanges (Status 3) 6 8 ∷ [] ++ pushed 0 3 0 8192 16387)
        ++ (Loads (Status 2) ∷ Exchanges (Status 2) 6 8 ∷ [] ++ pushed 0 2 3 16387 16386)
        ++ (Loads (Status 1) ∷ [] ++ taken 0 2 16386 16387 9);
    words = row 2 2 0 (statuses 5 9 8) (chain 16387 0 3 0);
    returned = Some 2;
  }
  -- slot 3 is guarded: the sweep spares it, and recycles slot 2
  pub of_unguarded : claimed small 5 0 (row 1 1 3 (statuses 5 6 6) no_chain) ≡ record {
    accesses = Loads (Head 0) ∷ [] ++ warned 1 2
        ++ (Loads (Status 3) ∷ Loads (Status 2) ∷ Exchanges (Status 2) 6 8 ∷ [] ++ pushed 0 2 0 8192 16386)
        ++ (Loads (Status 1) ∷ [] ++ taken 0 2 16386 16384 9);
    words = row 2 2 3 (statuses 5 9 6) (chain 16384 0 0 0);
    returned = Some 2;
  }
  -- another caller guards slot 3 in its last register: both are warned, and the hazards of both are noted
  pub of_two_callers : claimed pair 5 0 (pair_row 1 3 (statuses 5 6 6) no_chain) ≡ record {
    accesses = (Loads (Head 0) ∷ Loads Phase ∷ Exchanges Phase 1 2 ∷ []) ++ raised 0 1 2 ++ raised 1 1 2 ++ hazards_of 0 ++ hazards_of 1
        ++ (Loads (Status 3) ∷ Loads (Status 2) ∷ Exchanges (Status 2) 6 8 ∷ [] ++ pushed 0 2 0 8192 16386)
        ++ (Loads (Status 1) ∷ [] ++ taken 0 2 16386 16384 9);
    words = pair_row 2 3 (statuses 5 9 6) (chain 16384 0 0 0);
    returned = Some 2;
  }
  -- slot 2 was retired in phase 2: the first sweep, which raises to 2, spares it, and the second recycles it
  pub of_own_phase : claimed small 5 0 (row 1 1 0 (statuses 5 10 5) no_chain) ≡ record {
    accesses = Loads (Head 0) ∷ [] ++ idle 1 2 ++ Loads (Head 0) ∷ [] ++ warned 2 3
        ++ (Loads (Status 3) ∷ Loads (Status 2) ∷ Exchanges (Status 2) 10 12 ∷ [] ++ pushed 0 2 0 8192 24578)
        ++ (Loads (Status 1) ∷ [] ++ taken 0 2 24578 24576 13);
    words = row 3 3 0 (statuses 5 13 5) (chain 24576 0 0 0);
    returned = Some 2;
  }
  -- a warning that says the phase already is loaded, and not exchanged
  pub of_warned : claimed small 5 0 (row 1 2 0 (statuses 5 6 5) no_chain) ≡ record {
    accesses = (Loads (Head 0) ∷ Loads Phase ∷ Exchanges Phase 1 2 ∷ Loads (Warning 0) ∷ [])
        ++ hazards_of 0
        ++ (Loads (Status 3) ∷ Loads (Status 2) ∷ Exchanges (Status 2) 6 8 ∷ [] ++ pushed 0 2 0 8192 16386)
        ++ (Loads (Status 1) ∷ [] ++ taken 0 2 16386 16384 9);
    words = row 2 2 0 (statuses 5 9 5) (chain 16384 0 0 0);
    returned = Some 2;
  }
  -- slot 3 of the second kind was retired: the sweeps of a claim of the first kind push it onto the second kind's chain, and the claim finds none
  pub for_another_kind : claimed mixed 5 0 (mixed_row 1 (statuses 5 5 6) 8192 8192) ≡ record {
    accesses = Loads (Head 0) ∷ [] ++ warned 1 2
        ++ (Loads (Status 3) ∷ Exchanges (Status 3) 6 8 ∷ [] ++ pushed 1 3 0 8192 16387)
        ++ (Loads (Status 2) ∷ Loads (Status 1) ∷ Loads (Head 0) ∷ [] ++ idle 2 3 ++ Loads (Head 0) ∷ []);
    words = mixed_row 3 (statuses 5 5 8) 8192 16387;
    returned = Some 0;
  }
  -- then a claim of the second kind takes it at once
  pub of_second_kind : claimed mixed 5 1 (mixed_row 3 (statuses 5 5 8) 8192 16387) ≡ record {
    accesses = taken 1 3 16387 16384 9;
    words = mixed_row 3 (statuses 5 5 9) 8192 16384;
    returned = Some 3;
  }
  -- of four kinds with a retired slot each, the claim of the third takes its own
  pub of_third_kind : claimed four 5 2 (four_row 1 (5 ∷ 6 ∷ 6 ∷ 6 ∷ 6 ∷ []) (8192 ∷ 8192 ∷ 8192 ∷ 8192 ∷ [])) ≡ record {
    accesses = Loads (Head 2) ∷ [] ++ warned 1 2
        ++ (Loads (Status 4) ∷ Exchanges (Status 4) 6 8 ∷ [] ++ pushed 3 4 0 8192 16388)
        ++ (Loads (Status 3) ∷ Exchanges (Status 3) 6 8 ∷ [] ++ pushed 2 3 0 8192 16387)
        ++ (Loads (Status 2) ∷ Exchanges (Status 2) 6 8 ∷ [] ++ pushed 1 2 0 8192 16386)
        ++ (Loads (Status 1) ∷ Exchanges (Status 1) 6 8 ∷ [] ++ pushed 0 1 0 8192 16385)
        ++ taken 2 3 16387 16384 9;
    words = four_row 2 (5 ∷ 8 ∷ 8 ∷ 9 ∷ 8 ∷ []) (16385 ∷ 16386 ∷ 16384 ∷ 16388 ∷ []);
    returned = Some 3;
  }
