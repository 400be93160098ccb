-- That the lines of a claim make the accesses of a claim.
use Rattle.std.specs.Prelude.{◌≡◌, ◌≢◌, ◌⊎◌, ℕ, ◌+◌, ◌*◌, ◌≤◌, ◌<◌, ◌^◌, true, List, length, Option, Some, None}
use Rattle.oa_words.specs.Words.{Warning, in_row}
use Rattle.oa_words.specs.SlotKinds.{kind_of}
use Rattle.oa_words.specs.Within.{AreSizes}
use Rattle.phase_pools.specs.declared.access.ClaimEnd.{ClaimEnd}
use Rattle.phase_pools.specs.declared.access.ClaimEnd.TheVariants as ends
use Rattle.phase_pools.specs.declared.stages.Scheme.TheVariants.{Warned}
use Rattle.phase_pools.specs.declared.stages.SweepStage.{SweepStage}
use Rattle.phase_pools.specs.declared.stages.SweepStage.TheVariants as sweeps
use Rattle.phase_pools.specs.declared.stages.ClaimStage.{ClaimStage}
use Rattle.phase_pools.specs.declared.stages.ClaimStage.TheVariants as claims
use Rattle.phase_pools.specs.Accesses.{WordAccess, Loads, Stores, Exchanges, Raises, word_of, word_after}
use Rattle.phase_pools.specs.Pools.{Claim, claim_begun, claim_wants, claim_accepts}
use Rattle.phase_pools.specs.Ranges.{ClaimInRange, ClaimTold}
use Rattle.c_language.specs.declared.lines.Line.{Line}
use Rattle.c_language.specs.Steps.{Pool, Frame, Goes, Wants, Returns, stop}
use Rattle.c_language.specs.Runs.{Comes}
use Rattle.c_runtime.specs.ClaimLines.{claim_lines}
use Rattle.c_runtime.specs.ClaimFrames.{Quiet, Stands}

-- the lines of a claim of a kind, in a pool
abbrev pub claim_code : Pool → ℕ → List Line
claim_code pool kind = claim_lines kind (length pool.sizes.kinds)

-- what a claim's end returns
abbrev pub answer_of : ClaimEnd → ℕ
answer_of (ends.Claimed j) = j
answer_of ends.Full = 0
answer_of (ends.PhasesOver p) = 18446744073709551615

-- it returns an answer, and no slot's bit is set
pub record Ends (pool : Pool) (kind x : ℕ) (f : Frame) : Type 0 where
  pub returns : stop pool (claim_code pool kind) f ≡ Returns x
  pub quiet : Quiet f.kept

abbrev pub Arrives : Pool → ℕ → Claim → Option ClaimEnd → Frame → Type 0
Arrives pool kind claim None g = Stands pool.sizes claim g
Arrives pool kind claim (Some end) g = Ends pool kind (answer_of end) g

-- the lines go on to where the claim stands, or to its end
abbrev pub Follows : Pool → ℕ → Claim → Option ClaimEnd → Frame → Type 0
Follows pool kind claim ended f = Comes pool (claim_code pool kind) f (Arrives pool kind claim ended)

-- the access leaves what the claim's would
pub record Makes (pool : Pool) (kind : ℕ) (claim : Claim) (a : WordAccess) (word : ℕ) (f : Frame) : Type 0 where
  pub leaves : word_after a word ≡ word_after (claim_wants claim) word
  pub follows : Follows pool kind (claim_accepts pool.sizes pool.last claim word).claim (claim_accepts pool.sizes pool.last claim word).ended f

-- the claim stands where it stood, and this is the next access
pub record StandsBefore (pool : Pool) (kind : ℕ) (claim : Claim) (a : WordAccess) (f : Frame) : Type 0 where
  pub stands : Stands pool.sizes claim f
  pub next : ℕ → Frame
  pub wants : stop pool (claim_code pool kind) f ≡ Wants a next

-- how a raise gets on: a load that found a low word leads to the exchange of that word for the phase, and an exchange that found another word
-- than it expected leads to a load
abbrev pub GetsOn : Pool → ℕ → Claim → ℕ → WordAccess → Frame → Type 0
GetsOn pool kind claim word (Loads w) f =
    (word < claim.sweep.bound) × Comes pool (claim_code pool kind) f (StandsBefore pool kind claim (Exchanges w word claim.sweep.bound))
GetsOn pool kind claim word (Exchanges w expected replacement) f =
    (word ≢ expected) × Comes pool (claim_code pool kind) f (StandsBefore pool kind claim (Loads w))
GetsOn pool kind claim word (Stores w x) f = ⊥
GetsOn pool kind claim word (Raises w x) f = ⊥

-- the claim wants to raise a warning; the access changes nothing, and the claim stands where it stood
pub record Waits (pool : Pool) (kind : ℕ) (claim : Claim) (a : WordAccess) (word : ℕ) (f : Frame) : Type 0 where
  pub caller : ℕ
  pub raises : claim_wants claim ≡ Raises (Warning caller) claim.sweep.bound
  pub leaves : word_after a word ≡ word
  pub on : GetsOn pool kind claim word a f

-- before an access to the word that the claim wants: whatever fitting word it finds, it is the claim's, or part of a raise that waits
pub record Steps (pool : Pool) (kind : ℕ) (claim : Claim) (f : Frame) : Type 0 where
  pub access : WordAccess
  pub next : ℕ → Frame
  pub wants : stop pool (claim_code pool kind) f ≡ Wants access next
  pub same : word_of access ≡ word_of (claim_wants claim)
  pub each : (word : ℕ) → ClaimTold pool.sizes pool.last claim.sweep claim.stage word
      → Makes pool kind claim access word (next word) ⊎ Waits pool kind claim access word (next word)

-- sizes of a row, a number of callers that fits a word, and a last phase from 1 on whose heads do. So the slots and the tops fit a word too
pub record FitsClaim (pool : Pool) : Type 0 where
  pub sizes : AreSizes pool.sizes
  pub callers : pool.sizes.callers < 2 ^ 64
  pub some : 1 ≤ pool.last
  pub last : pool.last * pool.sizes.tops + pool.sizes.tops ≤ 2 ^ 64

-- what a sweep that stands before an access has found before
abbrev pub SweepFits : Pool → ℕ → SweepStage → Type 0
SweepFits pool s sweeps.ReadPhase = Unit {0}
SweepFits pool s (sweeps.RaisePhase p) = p < pool.last
SweepFits pool s (sweeps.Warn c) = s ≤ pool.last
SweepFits pool s (sweeps.ReadHazard c r) = s ≤ pool.last
SweepFits pool s (sweeps.ReadStatus j) = (s ≤ pool.last) × (1 ≤ j)
SweepFits pool s (sweeps.MakeReady j q) = (s ≤ pool.last) × (1 ≤ j)
SweepFits pool s (sweeps.PushHead k j) = (s ≤ pool.last) × (1 ≤ j) × (k ≡ kind_of pool.sizes j)
SweepFits pool s (sweeps.PushLink j q t) = (s ≤ pool.last) × (1 ≤ j) × (q ≤ pool.last)
SweepFits pool s (sweeps.PushTop k j q t) = (s ≤ pool.last) × (1 ≤ j) × (q ≤ pool.last) × (k ≡ kind_of pool.sizes j)

abbrev pub ClaimFits : Pool → Claim → ClaimStage → Type 0
ClaimFits pool claim claims.ReadHead = Unit {0}
ClaimFits pool claim (claims.ReadLink q t) = (q ≤ pool.last) × (1 ≤ t)
ClaimFits pool claim (claims.Take q t next) = (q ≤ pool.last) × (1 ≤ t)
ClaimFits pool claim (claims.StoreUsed q t) = (q ≤ pool.last) × (1 ≤ t)
ClaimFits pool claim (claims.Withdraw own) = Unit {0}
ClaimFits pool claim claims.Sweeps = SweepFits pool claim.sweep.bound claim.sweep.stage

-- a claim of one of the kinds, whose sweeps warn, of a pool that it fits
pub record Fits (pool : Pool) (claim : Claim) : Type 0 where
  pub within : FitsClaim pool
  pub kind : claim.kind < length pool.sizes.kinds
  pub scheme : claim.sweep.scheme ≡ Warned
  pub tops : claim.sweep.tops ≡ pool.sizes.tops
  pub low : claim.sweep.low ≡ claim.sweep.bound
  pub range : ClaimInRange pool.sizes claim.sweep claim.stage
  pub stage : ClaimFits pool claim claim.stage

-- an end of a claim: a slot that was taken is one of the row's, and the phases are over at the last one
abbrev pub IsEnd : Pool → ClaimEnd → Type 0
IsEnd pool (ends.Claimed j) = (1 ≤ j) × (j ≤ pool.sizes.slots)
IsEnd pool ends.Full = Unit {0}
IsEnd pool (ends.PhasesOver p) = p ≡ pool.last

abbrev pub FitsOn : Pool → Claim → Option ClaimEnd → Type 0
FitsOn pool claim None = Fits pool claim
FitsOn pool claim (Some end) = IsEnd pool end

-- a claim fits from its beginning to its end, its accesses are to words of the row, and what is returned tells the ends apart
pub record ClaimsFit : Type 0 where
  pub begins : (pool : Pool) (kind : ℕ) → FitsClaim pool → kind < length pool.sizes.kinds → Fits pool (claim_begun pool.sizes kind Warned)
  pub keeps : (pool : Pool) (claim : Claim) (word : ℕ) → Fits pool claim → ClaimTold pool.sizes pool.last claim.sweep claim.stage word
      → FitsOn pool (claim_accepts pool.sizes pool.last claim word).claim (claim_accepts pool.sizes pool.last claim word).ended
  pub within : (pool : Pool) (claim : Claim) → Fits pool claim → in_row pool.sizes (word_of (claim_wants claim)) ≡ true
  pub apart : (pool : Pool) (x y : ClaimEnd) → FitsClaim pool → IsEnd pool x → IsEnd pool y → answer_of x ≡ answer_of y → x ≡ y

-- what the lines of a claim leave of a caller's cradles: all
pub record CradlesStay (pool : Pool) (kind : ℕ) (f : Frame) : Type 0 where
  pub goes : (g : Frame) → stop pool (claim_code pool kind) f ≡ Goes g → g.kept.cradles ≡ f.kept.cradles
  pub wants : (a : WordAccess) (next : ℕ → Frame) → stop pool (claim_code pool kind) f ≡ Wants a next → (word : ℕ)
      → (next word).kept.cradles ≡ f.kept.cradles

abbrev pub ClaimsKeepCradles : Type 0
ClaimsKeepCradles = (pool : Pool) (kind : ℕ) (f : Frame) → CradlesStay pool kind f

-- the first line stands before the claim's first access, and each line before an access makes the claim's
pub record ClaimsAreMade : Type 0 where
  pub begins : (pool : Pool) (kind : ℕ) (f : Frame) → f.at ≡ 0 → Quiet f.kept
      → Comes pool (claim_code pool kind) f (Stands pool.sizes (claim_begun pool.sizes kind Warned))
  pub steps : (pool : Pool) (claim : Claim) (f : Frame) → Fits pool claim → Stands pool.sizes claim f → Steps pool claim.kind claim f
