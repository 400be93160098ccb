-- Routines on rows that were worked out by hand: which accesses they make, what they leave, and how they end.
use Rattle.std.proofs.Common.{◌≡◌, ℕ, List, [], ◌∷◌, ◌++◌, Some, None, true, false, refl}
use Rattle.oa_words.specs.Words.{Sizes, Phase, Warning, Hazard, Status, Head, Link}
use Rattle.phase_pools.specs.declared.access.ClaimEnd.TheVariants as ends
use Rattle.phase_pools.specs.declared.access.SweepEnd.TheVariants as swept
use Rattle.phase_pools.specs.declared.stages.ClaimStage.{ClaimStage}
use Rattle.phase_pools.specs.declared.stages.ClaimStage.TheVariants as claims
use Rattle.phase_pools.specs.declared.stages.Scheme.TheVariants.{Warned, Announced}
use Rattle.phase_pools.specs.declared.stages.SweepStage.{SweepStage}
use Rattle.phase_pools.specs.declared.stages.SweepStage.TheVariants as sweeps
use Rattle.phase_pools.specs.Accesses.{WordAccess, Loads, Stores, Exchanges, Raises}
use Rattle.phase_pools.specs.Pools.{Sweep, sweep_begun, Claim, claim_begun, claim_takes, retire_begun}
use Rattle.phase_pools.proofs.Runs.{sweep_run, claim_run, retire_run, sweep_told, claim_told}

-- 1 caller, 3 slots, 2 fields, 1 cell. A status is 4 times the phase, and 0 for ready, 1 for used, 2 for retired; the head is
-- 8192 times its phase, and the slot on top
abbrev small : Sizes
small = record { callers = 1; slots = 3; fields = 2; cells = 1; kinds = 3 ∷ []; tops = 8192 }

-- its words: the phase, the warning, the first hazard, the statuses of slots 0 to 3, and the head with the links of slots 0
-- to 3; all others are 0
abbrev row : (phase warning hazard : ℕ) → (statuses chain : List ℕ) → List ℕ
row phase warning hazard statuses chain =
    (phase ∷ 0 ∷ warning ∷ hazard ∷ 0 ∷ 0 ∷ 0 ∷ 0 ∷ 0 ∷ 0 ∷ 0 ∷ [])
    ++ (statuses
    ++ ((0 ∷ 0 ∷ 0 ∷ 0 ∷ 0 ∷ 0 ∷ 0 ∷ 0 ∷ 0 ∷ [])
    ++ chain))

-- the status of null, and those of three slots
abbrev kinds : (one two three : ℕ) → List ℕ
kinds one two three = 5 ∷ one ∷ two ∷ three ∷ []

-- the head, the link of null, and those of three slots
abbrev chain : (head one two three : ℕ) → List ℕ
chain head one two three = head ∷ 0 ∷ one ∷ two ∷ three ∷ []

-- no slot is on top, under phase 1
abbrev no_chain : List ℕ
no_chain = chain 8192 0 0 0

abbrev hazards_of : ℕ → List WordAccess
hazards_of c = Loads (Hazard c 0) ∷ Loads (Hazard c 1) ∷ Loads (Hazard c 2) ∷ Loads (Hazard c 3) ∷ Loads (Hazard c 4) ∷ Loads (Hazard c 5) ∷ Loads (Hazard c 6) ∷ Loads (Hazard c 7) ∷ []

-- ---- two sweeps, one after another

-- slot 1 is used, slots 2 and 3 were retired in phase 1, and slot 3 is guarded
pub first_sweep : sweep_run small 5 100 None (sweep_begun 8192 Warned) (row 1 1 3 (kinds 5 6 6) no_chain) ≡ record {
  accesses = Loads Phase ∷ Exchanges Phase 1 2 ∷ Raises (Warning 0) 2 ∷ []
      ++ hazards_of 0
      ++ Loads (Status 3) ∷ Loads (Status 2) ∷ Exchanges (Status 2) 6 8 ∷ []
      ++ Loads (Head 0) ∷ Stores (Link 2) 0 ∷ Exchanges (Head 0) 8192 16386 ∷ Loads (Status 1) ∷ [];
  words = row 2 2 3 (kinds 5 8 6) (chain 16386 0 0 0);
  ended = Some swept.Swept;
}
first_sweep = refl

-- then slot 1 was retired in phase 2, and slot 3 isn't guarded any more: both are pushed, slot 3 first
pub second_sweep : sweep_run small 5 100 None (sweep_begun 8192 Warned) (row 2 2 0 (kinds 10 8 6) (chain 16386 0 0 0)) ≡ record {
  accesses = Loads Phase ∷ Exchanges Phase 2 3 ∷ Raises (Warning 0) 3 ∷ []
      ++ hazards_of 0
      ++ Loads (Status 3) ∷ Exchanges (Status 3) 6 12 ∷ Loads (Head 0) ∷ Stores (Link 3) 2 ∷ Exchanges (Head 0) 16386 24579 ∷ []
      ++ Loads (Status 2) ∷ []
      ++ Loads (Status 1) ∷ Exchanges (Status 1) 10 12 ∷ Loads (Head 0) ∷ Stores (Link 1) 3 ∷ Exchanges (Head 0) 24579 24577 ∷ [];
  words = row 3 3 0 (kinds 12 8 12) (chain 24577 3 0 2);
  ended = Some swept.Swept;
}
second_sweep = refl

-- in the last phase a sweep ends with its first access
pub sweep_in_last_phase : sweep_run small 5 100 None (sweep_begun 8192 Warned) (row 5 5 0 (kinds 5 6 6) no_chain) ≡ record {
  accesses = Loads Phase ∷ [];
  words = row 5 5 0 (kinds 5 6 6) no_chain;
  ended = Some (swept.PhasesOver 5);
}
sweep_in_last_phase = refl

-- a slot that was retired in the very phase that the sweep announces stays retired
pub own_phase_stays : sweep_run small 5 100 None (sweep_begun 8192 Warned) (row 1 1 0 (kinds 5 10 5) no_chain) ≡ record {
  accesses = Loads Phase ∷ Exchanges Phase 1 2 ∷ Raises (Warning 0) 2 ∷ []
      ++ hazards_of 0
      ++ Loads (Status 3) ∷ Loads (Status 2) ∷ Loads (Status 1) ∷ [];
  words = row 2 2 0 (kinds 5 10 5) no_chain;
  ended = Some swept.Swept;
}
own_phase_stays = refl

-- ---- sweeps beside other callers, which announce phase 3

abbrev sweep_at : SweepStage → Sweep
sweep_at stage = record { scheme = Warned; tops = 8192; stage = stage; bound = 3; low = 3; gathered = [] }

-- after the head was loaded with slot 1 on top, another slot came on top: the push begins again, and stores the link again
pub push_after_failed_exchange : sweep_told small 5 (16385 ∷ 0 ∷ 16387 ∷ 16387 ∷ 1 ∷ 16387 ∷ []) None (sweep_at (sweeps.PushHead 0 2)) ≡ record {
  accesses = Loads (Head 0) ∷ Stores (Link 2) 1 ∷ Exchanges (Head 0) 16385 24578 ∷ Loads (Head 0) ∷ Stores (Link 2) 3 ∷ Exchanges (Head 0) 16387 24578 ∷ [];
  next = Some (Loads (Status 1));
  ended = None;
}
push_after_failed_exchange = refl

-- a head with a greater phase than the sweep's keeps it; after slot 1 the sweep has ended
pub push_under_greater_phase : sweep_told small 5 (40962 ∷ 0 ∷ 40962 ∷ []) None (sweep_at (sweeps.PushHead 0 1)) ≡ record {
  accesses = Loads (Head 0) ∷ Stores (Link 1) 2 ∷ Exchanges (Head 0) 40962 40961 ∷ [];
  next = None;
  ended = Some swept.Swept;
}
push_under_greater_phase = refl

-- a slot that another sweep made ready is pushed by that one
pub lost_slot_is_not_pushed : sweep_told small 5 (6 ∷ 12 ∷ []) None (sweep_at (sweeps.ReadStatus 3)) ≡ record {
  accesses = Loads (Status 3) ∷ Exchanges (Status 3) 6 12 ∷ [];
  next = Some (Loads (Status 2));
  ended = None;
}
lost_slot_is_not_pushed = refl

-- ---- all 64 hazards are set

abbrev large : Sizes
large = record { callers = 8; slots = 3; fields = 1; cells = 1; kinds = 3 ∷ []; tops = 8192 }

abbrev eight : ℕ → List ℕ
eight word = word ∷ word ∷ word ∷ word ∷ word ∷ word ∷ word ∷ word ∷ []

-- all hazards name slot 1 but the last, which names slot 2
abbrev guarded_row : (phase three head : ℕ) → List ℕ
guarded_row phase three head =
    phase ∷ []
    ++ eight 0
    ++ eight phase
    ++ eight 1 ++ eight 1 ++ eight 1 ++ eight 1 ++ eight 1 ++ eight 1 ++ eight 1
    ++ (1 ∷ 1 ∷ 1 ∷ 1 ∷ 1 ∷ 1 ∷ 1 ∷ 2 ∷ [])
    ++ (5 ∷ 6 ∷ 6 ∷ three ∷ [])
    ++ (0 ∷ 0 ∷ 0 ∷ 0 ∷ 0 ∷ [])
    ++ chain head 0 0 0

pub guarded_slots_stay : sweep_run large 5 200 None (sweep_begun 8192 Warned) (guarded_row 1 6 8192) ≡ record {
  accesses = Loads Phase ∷ Exchanges Phase 1 2 ∷ []
      ++ (Raises (Warning 0) 2 ∷ Raises (Warning 1) 2 ∷ Raises (Warning 2) 2 ∷ Raises (Warning 3) 2 ∷ Raises (Warning 4) 2 ∷ Raises (Warning 5) 2 ∷ Raises (Warning 6) 2 ∷ Raises (Warning 7) 2 ∷ [])
      ++ hazards_of 0 ++ hazards_of 1 ++ hazards_of 2 ++ hazards_of 3 ++ hazards_of 4 ++ hazards_of 5 ++ hazards_of 6 ++ hazards_of 7
      ++ (Loads (Status 3) ∷ Exchanges (Status 3) 6 8 ∷ Loads (Head 0) ∷ Stores (Link 3) 0 ∷ Exchanges (Head 0) 8192 16387 ∷ [])
      ++ (Loads (Status 2) ∷ Loads (Status 1) ∷ []);
  words = guarded_row 2 8 16387;
  ended = Some swept.Swept;
}
guarded_slots_stay = refl

-- ---- claims

-- slots 2 and 3 are chained: the look takes slot 2, and leaves slot 3 on top
pub claim_of_two : claim_run small 5 100 None (claim_begun small 0 Warned) (row 1 1 0 (kinds 5 4 4) (chain 8194 0 3 0)) ≡ record {
  accesses = Loads (Head 0) ∷ Loads (Link 2) ∷ Exchanges (Head 0) 8194 8195 ∷ Stores (Status 2) 5 ∷ [];
  words = row 1 1 0 (kinds 5 5 4) (chain 8195 0 3 0);
  ended = Some (ends.Claimed 2);
}
claim_of_two = refl

-- then the look takes slot 3, and leaves no slot
pub claim_of_one : claim_run small 5 100 None (claim_begun small 0 Warned) (row 1 1 0 (kinds 5 5 4) (chain 8195 0 3 0)) ≡ record {
  accesses = Loads (Head 0) ∷ Loads (Link 3) ∷ Exchanges (Head 0) 8195 8192 ∷ Stores (Status 3) 5 ∷ [];
  words = row 1 1 0 (kinds 5 5 5) (chain 8192 0 3 0);
  ended = Some (ends.Claimed 3);
}
claim_of_one = refl

-- the first in rows of other tops: heads are 4 times the phase, or 16,777,216 times
abbrev with_tops : ℕ → Sizes
with_tops tops = record small { tops = tops }

pub claim_of_four_tops : claim_run (with_tops 4) 5 100 None (claim_begun (with_tops 4) 0 Warned) (row 1 1 0 (kinds 5 4 4) (chain 6 0 3 0)) ≡ record {
  accesses = Loads (Head 0) ∷ Loads (Link 2) ∷ Exchanges (Head 0) 6 7 ∷ Stores (Status 2) 5 ∷ [];
  words = row 1 1 0 (kinds 5 5 4) (chain 7 0 3 0);
  ended = Some (ends.Claimed 2);
}
claim_of_four_tops = refl

pub claim_of_wide_tops : claim_run (with_tops 16777216) 5 100 None (claim_begun (with_tops 16777216) 0 Warned) (row 1 1 0 (kinds 5 4 4) (chain 16777218 0 3 0)) ≡ record {
  accesses = Loads (Head 0) ∷ Loads (Link 2) ∷ Exchanges (Head 0) 16777218 16777219 ∷ Stores (Status 2) 5 ∷ [];
  words = row 1 1 0 (kinds 5 5 4) (chain 16777219 0 3 0);
  ended = Some (ends.Claimed 2);
}
claim_of_wide_tops = refl

-- the first sweep in a row of four tops: slot 2 is pushed under phase 2, where none was on top under phase 1
pub sweep_of_four_tops : sweep_run (with_tops 4) 5 100 None (sweep_begun 4 Warned) (row 1 1 3 (kinds 5 6 6) (chain 4 0 0 0)) ≡ record {
  accesses = Loads Phase ∷ Exchanges Phase 1 2 ∷ Raises (Warning 0) 2 ∷ []
      ++ hazards_of 0
      ++ Loads (Status 3) ∷ Loads (Status 2) ∷ Exchanges (Status 2) 6 8 ∷ []
      ++ Loads (Head 0) ∷ Stores (Link 2) 0 ∷ Exchanges (Head 0) 4 10 ∷ Loads (Status 1) ∷ [];
  words = row 2 2 3 (kinds 5 8 6) (chain 10 0 0 0);
  ended = Some swept.Swept;
}
sweep_of_four_tops = refl

-- a sweep that makes no slot ready
abbrev idle_sweep : ℕ → ℕ → List WordAccess
idle_sweep p s = Loads Phase ∷ Exchanges Phase p s ∷ Raises (Warning 0) s ∷ [] ++ hazards_of 0 ++ Loads (Status 3) ∷ Loads (Status 2) ∷ Loads (Status 1) ∷ []

-- a list whose three slots are used up, so that none is on top: look, sweep, look, sweep, look
pub full_claim : claim_run small 1000 100 None (claim_begun small 0 Warned) (row 1 1 0 (kinds 5 5 5) no_chain) ≡ record {
  accesses = Loads (Head 0) ∷ [] ++ idle_sweep 1 2 ++ Loads (Head 0) ∷ [] ++ idle_sweep 2 3 ++ Loads (Head 0) ∷ [];
  words = row 3 3 0 (kinds 5 5 5) no_chain;
  ended = Some ends.Full;
}
full_claim = refl

-- both phases are over: slots 2 and 3 were retired in the last one
pub claim_in_last_phase : claim_run small 2 100 None (claim_begun small 0 Warned) (row 2 2 0 (kinds 5 10 10) no_chain) ≡ record {
  accesses = Loads (Head 0) ∷ Loads Phase ∷ [];
  words = row 2 2 0 (kinds 5 10 10) no_chain;
  ended = Some (ends.PhasesOver 2);
}
claim_in_last_phase = refl

-- the first sweep may go from the one phase to the other, and the second finds the last
pub claim_after_last_sweep : claim_run small 2 100 None (claim_begun small 0 Warned) (row 1 1 0 (kinds 5 5 5) no_chain) ≡ record {
  accesses = Loads (Head 0) ∷ [] ++ idle_sweep 1 2 ++ Loads (Head 0) ∷ Loads Phase ∷ [];
  words = row 2 2 0 (kinds 5 5 5) no_chain;
  ended = Some (ends.PhasesOver 2);
}
claim_after_last_sweep = refl

-- slots 2 and 3 were retired in phase 1: the sweep makes both ready, the least ends on top, and the look after it takes that
pub claim_of_recycled : claim_run small 2 100 None (claim_begun small 0 Warned) (row 1 1 0 (kinds 5 6 6) no_chain) ≡ record {
  accesses = Loads (Head 0) ∷ Loads Phase ∷ Exchanges Phase 1 2 ∷ Raises (Warning 0) 2 ∷ []
      ++ hazards_of 0
      ++ Loads (Status 3) ∷ Exchanges (Status 3) 6 8 ∷ Loads (Head 0) ∷ Stores (Link 3) 0 ∷ Exchanges (Head 0) 8192 16387 ∷ []
      ++ Loads (Status 2) ∷ Exchanges (Status 2) 6 8 ∷ Loads (Head 0) ∷ Stores (Link 2) 3 ∷ Exchanges (Head 0) 16387 16386 ∷ []
      ++ Loads (Status 1) ∷ []
      ++ Loads (Head 0) ∷ Loads (Link 2) ∷ Exchanges (Head 0) 16386 16387 ∷ Stores (Status 2) 9 ∷ [];
  words = row 2 2 0 (kinds 5 9 8) (chain 16387 0 3 0);
  ended = Some (ends.Claimed 2);
}
claim_of_recycled = refl

-- ---- claims beside other callers

-- another caller took slot 2 after the head was loaded: the look begins again, and takes slot 3
pub look_after_failed_exchange : claim_told small 5 (8194 ∷ 3 ∷ 8195 ∷ 8195 ∷ 0 ∷ 8195 ∷ 4 ∷ []) None (claim_begun small 0 Warned) ≡ record {
  accesses = Loads (Head 0) ∷ Loads (Link 2) ∷ Exchanges (Head 0) 8194 8195 ∷ Loads (Head 0) ∷ Loads (Link 3) ∷ Exchanges (Head 0) 8195 8192 ∷ Stores (Status 3) 5 ∷ [];
  next = None;
  ended = Some (ends.Claimed 3);
}
look_after_failed_exchange = refl

-- slot 2 was taken and pushed again under phase 2, with another link: it is on top as before, and isn't taken for it
pub slot_that_came_back : claim_told small 5 (8194 ∷ 3 ∷ 16386 ∷ 16386 ∷ 1 ∷ 16386 ∷ []) None (claim_begun small 0 Warned) ≡ record {
  accesses = Loads (Head 0) ∷ Loads (Link 2) ∷ Exchanges (Head 0) 8194 8195 ∷ Loads (Head 0) ∷ Loads (Link 2) ∷ Exchanges (Head 0) 16386 16385 ∷ [];
  next = Some (Stores (Status 2) 9);
  ended = None;
}
slot_that_came_back = refl

-- the last slot went to another caller: the look has ended, and a sweep begins
pub look_that_lost_last_slot : claim_told small 5 (8195 ∷ 0 ∷ 8192 ∷ 8192 ∷ []) None (claim_begun small 0 Warned) ≡ record {
  accesses = Loads (Head 0) ∷ Loads (Link 3) ∷ Exchanges (Head 0) 8195 8192 ∷ Loads (Head 0) ∷ [];
  next = Some (Loads Phase);
  ended = None;
}
look_that_lost_last_slot = refl

-- a claim is counted if its exchange succeeds, and with no other access
abbrev claim_at : ClaimStage → Claim
claim_at stage = record { kind = 0; stage = stage; sweeps = 0; sweep = sweep_begun 8192 Warned }

pub exchange_takes : claim_takes small (claim_at (claims.Take 1 2 3)) 8194 ≡ true
exchange_takes = refl

pub failed_exchange_takes_nothing : claim_takes small (claim_at (claims.Take 1 2 3)) 8195 ≡ false
failed_exchange_takes_nothing = refl

pub store_takes_nothing : claim_takes small (claim_at (claims.StoreUsed 1 2)) 8194 ≡ false
store_takes_nothing = refl

-- ---- a retirement

pub retirement : retire_run small 100 (Some (retire_begun 2)) (row 7 7 0 (kinds 5 9 8) no_chain) ≡ record {
  accesses = Loads Phase ∷ Stores (Status 2) 30 ∷ [];
  words = row 7 7 0 (kinds 5 30 8) no_chain;
  ended = Some tt;
}
retirement = refl

-- ---- two kinds: slots 1 and 2 are of the first, slot 3 is of the second. 1 caller, 1 field, 1 cell

abbrev mixed : Sizes
mixed = record { callers = 1; slots = 3; fields = 1; cells = 1; kinds = 2 ∷ 1 ∷ []; tops = 8192 }

-- its words: the phase, which its warning says too, the statuses of slots 0 to 3, and both heads with the links of slots 0 to 3
abbrev mixed_row : (phase : ℕ) → (statuses : List ℕ) → (first_head second_head : ℕ) → List ℕ
mixed_row phase statuses first_head second_head =
    (phase ∷ 0 ∷ phase ∷ 0 ∷ 0 ∷ 0 ∷ 0 ∷ 0 ∷ 0 ∷ 0 ∷ 0 ∷ [])
    ++ (statuses
    ++ (0 ∷ 0 ∷ 0 ∷ 0 ∷ 0 ∷ first_head ∷ second_head ∷ 0 ∷ 0 ∷ 0 ∷ 0 ∷ []))

-- slots 1 and 2 are used up, and slot 3 was retired in phase 1: the sweep of a claim of the first kind pushes slot 3 onto the second
-- kind's chain, and the claim finds none
pub claim_that_frees_another_kind : claim_run mixed 5 100 None (claim_begun mixed 0 Warned) (mixed_row 1 (kinds 5 5 6) 8192 8192) ≡ record {
  accesses = Loads (Head 0) ∷ Loads Phase ∷ Exchanges Phase 1 2 ∷ Raises (Warning 0) 2 ∷ []
      ++ hazards_of 0
      ++ Loads (Status 3) ∷ Exchanges (Status 3) 6 8 ∷ Loads (Head 1) ∷ Stores (Link 3) 0 ∷ Exchanges (Head 1) 8192 16387 ∷ []
      ++ Loads (Status 2) ∷ Loads (Status 1) ∷ Loads (Head 0) ∷ []
      ++ idle_sweep 2 3 ++ Loads (Head 0) ∷ [];
  words = mixed_row 3 (kinds 5 5 8) 8192 16387;
  ended = Some ends.Full;
}
claim_that_frees_another_kind = refl

-- then a claim of the second kind takes it at once
pub claim_of_second_kind : claim_run mixed 5 100 None (claim_begun mixed 1 Warned) (mixed_row 3 (kinds 5 5 8) 8192 16387) ≡ record {
  accesses = Loads (Head 1) ∷ Loads (Link 3) ∷ Exchanges (Head 1) 16387 16384 ∷ Stores (Status 3) 9 ∷ [];
  words = mixed_row 3 (kinds 5 5 9) 8192 16384;
  ended = Some (ends.Claimed 3);
}
claim_of_second_kind = refl

-- ---- callers that announce phases: 2 callers, 3 slots, 1 field, 1 cell

abbrev pair : Sizes
pair = record { callers = 2; slots = 3; fields = 1; cells = 1; kinds = 3 ∷ []; tops = 8192 }

-- its words: the phase, what the two callers have announced, and the statuses and the chain; no hazard is set
abbrev pair_row : (phase zero_announced one_announced : ℕ) → (statuses chain : List ℕ) → List ℕ
pair_row phase zero_announced one_announced statuses chain =
    (phase ∷ 0 ∷ 0 ∷ zero_announced ∷ one_announced ∷ 0 ∷ 0 ∷ 0 ∷ 0 ∷ 0 ∷ 0 ∷ 0 ∷ 0 ∷ 0 ∷ 0 ∷ 0 ∷ 0 ∷ 0 ∷ 0 ∷ 0 ∷ 0 ∷ [])
    ++ (statuses
    ++ ((0 ∷ 0 ∷ 0 ∷ 0 ∷ 0 ∷ [])
    ++ chain))

abbrev no_slot_on_top : List ℕ
no_slot_on_top = chain 8192 0 0 0

-- caller 1 has announced phase 4: of slots 1 and 2, which were retired in phases 4 and 3, only the second becomes ready
pub announced_sweep : sweep_run pair 9 100 None (sweep_begun 8192 (Announced 0)) (pair_row 5 0 4 (kinds 18 14 21) no_slot_on_top) ≡ record {
  accesses = Loads Phase ∷ Exchanges Phase 5 6 ∷ Loads (Warning 0) ∷ Loads (Warning 1) ∷ []
      ++ Loads (Status 3) ∷ Loads (Status 2) ∷ Exchanges (Status 2) 14 24 ∷ Loads (Head 0) ∷ Stores (Link 2) 0 ∷ Exchanges (Head 0) 8192 49154 ∷ []
      ++ Loads (Status 1) ∷ [];
  words = pair_row 6 0 4 (kinds 18 24 21) (chain 49154 0 0 0);
  ended = Some swept.Swept;
}
announced_sweep = refl

-- the claim of caller 1 withdraws its announcement before it sweeps: then phase 5 holds nothing back, and both are freed
pub announced_claim : claim_run pair 9 100 None (claim_begun pair 0 (Announced 1)) (pair_row 5 0 4 (kinds 18 14 21) no_slot_on_top) ≡ record {
  accesses = Loads (Head 0) ∷ Stores (Warning 1) 0 ∷ Loads Phase ∷ Exchanges Phase 5 6 ∷ Loads (Warning 0) ∷ Loads (Warning 1) ∷ []
      ++ Loads (Status 3) ∷ Loads (Status 2) ∷ Exchanges (Status 2) 14 24 ∷ Loads (Head 0) ∷ Stores (Link 2) 0 ∷ Exchanges (Head 0) 8192 49154 ∷ []
      ++ Loads (Status 1) ∷ Exchanges (Status 1) 18 24 ∷ Loads (Head 0) ∷ Stores (Link 1) 2 ∷ Exchanges (Head 0) 49154 49153 ∷ []
      ++ Loads (Head 0) ∷ Loads (Link 1) ∷ Exchanges (Head 0) 49153 49154 ∷ Stores (Status 1) 25 ∷ [];
  words = pair_row 6 0 0 (kinds 25 24 21) (chain 49154 2 0 0);
  ended = Some (ends.Claimed 1);
}
announced_claim = refl

abbrev idle_announced_sweep : ℕ → ℕ → List WordAccess
idle_announced_sweep p s = Loads Phase ∷ Exchanges Phase p s ∷ Loads (Warning 0) ∷ Loads (Warning 1) ∷ Loads (Status 3) ∷ Loads (Status 2) ∷ Loads (Status 1) ∷ []

-- caller 0 holds everything back: the claim is full, and has withdrawn once
pub announced_claim_is_full : claim_run pair 9 100 None (claim_begun pair 0 (Announced 1)) (pair_row 5 3 5 (kinds 18 14 14) no_slot_on_top) ≡ record {
  accesses = Loads (Head 0) ∷ Stores (Warning 1) 0 ∷ [] ++ idle_announced_sweep 5 6 ++ Loads (Head 0) ∷ [] ++ idle_announced_sweep 6 7 ++ Loads (Head 0) ∷ [];
  words = pair_row 7 3 0 (kinds 18 14 14) no_slot_on_top;
  ended = Some ends.Full;
}
announced_claim_is_full = refl
