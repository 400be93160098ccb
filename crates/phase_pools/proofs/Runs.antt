-- A routine that runs alone, on the words of a row, or that is told the words that its accesses find: the accesses that it
-- makes, in their order, and how it ends.
use Rattle.std.specs.Prelude.{ℕ, zero, suc, List, [], ◌∷◌, Option, Some, None, slice_index, slice_set}
use Rattle.oa_words.specs.Words.{Sizes, address_of}
use Rattle.phase_pools.specs.declared.access.ClaimEnd.{ClaimEnd}
use Rattle.phase_pools.specs.declared.access.SweepEnd.{SweepEnd}
use Rattle.phase_pools.specs.Accesses.{WordAccess, word_of, word_after}
use Rattle.phase_pools.specs.Pools.{Sweep, sweep_wants, sweep_accepts, Claim, claim_wants, claim_accepts, Retirement, retire_wants, retire_accepts}

-- the word that an access finds, and the words after it
abbrev pub found_by : Sizes → List ℕ → WordAccess → ℕ
found_by n words access = slice_index words (address_of n (word_of access))

abbrev pub words_after : Sizes → List ℕ → WordAccess → List ℕ
words_after n words access = slice_set words (address_of n (word_of access)) (word_after access (found_by n words access))

-- what a routine did: its accesses, the words then, and its end, if it came to one
pub record Ran (End : Type 0) : Type 0 where
  pub accesses : List WordAccess
  pub words : List ℕ
  pub ended : Option End

abbrev also : {End : Type 0} → WordAccess → Ran End → Ran End
also access ran = record { accesses = access ∷ ran.accesses; words = ran.words; ended = ran.ended }

abbrev stopped : {End : Type 0} → List ℕ → Option End → Ran End
stopped words ended = record { accesses = []; words = words; ended = ended }

-- a sweep, for so many accesses
abbrev pub sweep_run : Sizes → ℕ → ℕ → Option SweepEnd → Sweep → List ℕ → Ran SweepEnd
sweep_run n last k (Some end) sweep words = stopped words (Some end)
sweep_run n last zero None sweep words = stopped words None
sweep_run n last (suc k) None sweep words =
    let access = sweep_wants sweep in
    let turn = sweep_accepts n last sweep (found_by n words access) in
    also access (sweep_run n last k turn.ended turn.sweep (words_after n words access))

-- a claim, for so many accesses
abbrev pub claim_run : Sizes → ℕ → ℕ → Option ClaimEnd → Claim → List ℕ → Ran ClaimEnd
claim_run n last k (Some end) claim words = stopped words (Some end)
claim_run n last zero None claim words = stopped words None
claim_run n last (suc k) None claim words =
    let access = claim_wants claim in
    let turn = claim_accepts n last claim (found_by n words access) in
    also access (claim_run n last k turn.ended turn.claim (words_after n words access))

-- a retirement, for so many accesses; it ends without a result
abbrev pub retire_run : Sizes → ℕ → Option Retirement → List ℕ → Ran (Unit {0})
retire_run n k None words = stopped words (Some tt)
retire_run n zero (Some retirement) words = stopped words None
retire_run n (suc k) (Some retirement) words =
    let access = retire_wants retirement in
    also access (retire_run n k (retire_accepts retirement (found_by n words access)) (words_after n words access))

-- ---- with words that other callers left: those that the accesses find, one after another

-- what a routine did: its accesses, the one that it wants next, and its end, if it came to one
pub record Heard (End : Type 0) : Type 0 where
  pub accesses : List WordAccess
  pub next : Option WordAccess
  pub ended : Option End

abbrev heard_also : {End : Type 0} → WordAccess → Heard End → Heard End
heard_also access heard = record { accesses = access ∷ heard.accesses; next = heard.next; ended = heard.ended }

abbrev pub sweep_told : Sizes → ℕ → List ℕ → Option SweepEnd → Sweep → Heard SweepEnd
sweep_told n last words (Some end) sweep = record { accesses = []; next = None; ended = Some end }
sweep_told n last [] None sweep = record { accesses = []; next = Some (sweep_wants sweep); ended = None }
sweep_told n last (word ∷ words) None sweep =
    let turn = sweep_accepts n last sweep word in
    heard_also (sweep_wants sweep) (sweep_told n last words turn.ended turn.sweep)

abbrev pub claim_told : Sizes → ℕ → List ℕ → Option ClaimEnd → Claim → Heard ClaimEnd
claim_told n last words (Some end) claim = record { accesses = []; next = None; ended = Some end }
claim_told n last [] None claim = record { accesses = []; next = Some (claim_wants claim); ended = None }
claim_told n last (word ∷ words) None claim =
    let turn = claim_accepts n last claim word in
    heard_also (claim_wants claim) (claim_told n last words turn.ended turn.claim)
