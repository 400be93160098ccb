-- A claim fits its pool from its beginning to its end.
use Rattle.std.proofs.Common.{◌≡◌, ◌≢◌, ℕ, ◌+◌, ◌-◌, ◌*◌, ◌^◌, ◌≤◌, ◌<◌, Bool, true, false, ◌&&◌, List, [], length, ◌==◌, if◌then◌else◌, refl, sym, ◌∙◌, ap, subst, arith}
use Rattle.std.specs.Prelude.{nat_lt}
use Rattle.std.proofs.Math.Nat.{mul-le-mul_right}
use Rattle.std.proofs.lemmas.Bool.Decides.{nat_tests}
use Rattle.oa_words.specs.declared.packed.Kind.TheVariants as kinds
use Rattle.oa_words.specs.Words.{in_row}
use Rattle.oa_words.specs.SlotKinds.{kind_of}
use Rattle.oa_words.specs.Packed.{status_word, status_parts, head_word, head_parts}
use Rattle.oa_words.proofs.KindRanges.{kind_small}
use Rattle.guard_words.specs.Guards.{with_slot}
use Rattle.phase_pools.specs.declared.access.ClaimEnd.{ClaimEnd}
use Rattle.phase_pools.specs.declared.access.ClaimEnd.TheVariants as ends
use Rattle.phase_pools.specs.declared.access.SweepEnd.TheVariants as swept
use Rattle.phase_pools.specs.declared.stages.Scheme.{Scheme}
use Rattle.phase_pools.specs.declared.stages.Scheme.TheVariants.{Warned}
use Rattle.phase_pools.specs.declared.stages.SweepStage.{SweepStage}
use Rattle.phase_pools.specs.declared.stages.SweepStage.TheVariants as sweeps
use Rattle.phase_pools.specs.declared.stages.ClaimStage.{ClaimStage}
use Rattle.phase_pools.specs.declared.stages.ClaimStage.TheVariants as claims
use Rattle.phase_pools.specs.Accesses.{word_of}
use Rattle.phase_pools.specs.Pools.{Claim, ClaimTurn, SweepTurn, sweep_goes, sweep_ends, sweep_on, sweep_accepts_at, look_ended, claim_goes, claim_ends, sweep_started, claim_sweeps, claim_wants, claim_accepts}
use Rattle.phase_pools.specs.Ranges.{SweepInRange, ClaimInRange, SweepTold, ClaimTold}
use Rattle.phase_pools.proofs.Statuses.{from_slot, from_status}
use Rattle.c_language.specs.Steps.{Pool}
use Rattle.c_runtime.specs.Laws.{answer_of, FitsClaim, SweepFits, ClaimFits, Fits, IsEnd, FitsOn, ClaimsFit}
use Rattle.c_runtime.proofs.Shapes.{sweep_at, sweeping}

-- what holds both ways of a test
either : {A : Type 0} (P : A → Type 0) (test : Bool) (x y : A) → (test ≡ true → P x) → (test ≡ false → P y) → P (if test then x else y)
either P true x y here there = here refl
either P false x y here there = there refl

-- a claim by its parts
abbrev claim_at : Pool → ℕ → ℕ → ℕ → List ℕ → SweepStage → ClaimStage → Claim
claim_at pool kind count s gathered inner stage = record { kind = kind; stage = stage; sweeps = count; sweep = sweep_at pool inner s gathered }

fits_at : (pool : Pool) (kind count s : ℕ) (gathered : List ℕ) (inner : SweepStage) (stage : ClaimStage) → FitsClaim pool → kind < length pool.sizes.kinds
    → ClaimInRange pool.sizes (sweep_at pool inner s gathered) stage → ClaimFits pool (claim_at pool kind count s gathered inner stage) stage
    → Fits pool (claim_at pool kind count s gathered inner stage)
fits_at pool kind count s gathered inner stage within few range fit =
    record { within = within; kind = few; scheme = refl; tops = refl; low = refl; range = range; stage = fit }

abbrev TurnFits : Pool → ClaimTurn → Type 0
TurnFits pool turn = FitsOn pool turn.claim turn.ended

-- after a turn of the sweep
abbrev SweepTurnFits : Pool → ℕ → ℕ → SweepStage → ℕ → List ℕ → SweepTurn → Type 0
SweepTurnFits pool kind count was s gathered turn = TurnFits pool (claim_sweeps (sweeping pool kind count was s gathered) turn)

-- ---- sweeps

slot_done : (pool : Pool) (kind count s j : ℕ) (gathered : List ℕ) (was : SweepStage) → FitsClaim pool → kind < length pool.sizes.kinds → s ≤ pool.last → j ≤ pool.sizes.slots
    → SweepTurnFits pool kind count was s gathered (sweep_on pool.sizes (sweep_at pool was s gathered) j)
slot_done pool kind count s j gathered was within few low most =
    from_slot (SweepTurnFits pool kind count was s gathered) pool.sizes (sweep_at pool was s gathered) j
    (λ more. fits_at pool kind count s gathered (sweeps.ReadStatus (j - 1)) claims.Sweeps within few (omega (arith, most)) (low, omega (arith, more)))
    (fits_at pool kind (count + 1) s gathered was claims.ReadHead within few tt tt)

pushes : (pool : Pool) (kind count s j : ℕ) (gathered : List ℕ) (was : SweepStage) → FitsClaim pool → kind < length pool.sizes.kinds → s ≤ pool.last → 1 ≤ j → j ≤ pool.sizes.slots
    → SweepTurnFits pool kind count was s gathered (sweep_goes (sweep_at pool was s gathered) (sweeps.PushHead (kind_of pool.sizes j) j))
pushes pool kind count s j gathered was within few low some most =
    fits_at pool kind count s gathered (sweeps.PushHead (kind_of pool.sizes j) j) claims.Sweeps within few (kind_small pool.sizes j within.sizes.kinds, most) (low, some, refl)

sweep_keeps : (pool : Pool) (kind count s : ℕ) (gathered : List ℕ) (stage : SweepStage) (word : ℕ) → FitsClaim pool → kind < length pool.sizes.kinds
    → SweepInRange pool.sizes stage → SweepFits pool s stage → SweepTold pool.sizes pool.last stage word
    → SweepTurnFits pool kind count stage s gathered (sweep_accepts_at pool.sizes pool.last (sweep_at pool stage s gathered) word stage)
sweep_keeps pool kind count s gathered sweeps.ReadPhase word within few range fit told =
    either (SweepTurnFits pool kind count sweeps.ReadPhase s gathered) (word == pool.last) (sweep_ends (sweep_at pool sweeps.ReadPhase s gathered) (swept.PhasesOver word))
    (sweep_goes (sweep_at pool sweeps.ReadPhase s gathered) (sweeps.RaisePhase word))
    (λ is. let same : word ≡ pool.last = grind (arith, nat_tests) in same)
    (λ is. let other : word ≢ pool.last = grind (arith, nat_tests) in
    fits_at pool kind count s gathered (sweeps.RaisePhase word) claims.Sweeps within few tt (omega (arith, told, other)))
sweep_keeps pool kind count s gathered (sweeps.RaisePhase p) word within few range fit told =
    fits_at pool kind count (p + 1) gathered (sweeps.Warn 0) claims.Sweeps within few within.sizes.callers (omega (arith, fit))
sweep_keeps pool kind count s gathered (sweeps.Warn c) word within few range fit told =
    either (λ (next : SweepStage). SweepTurnFits pool kind count (sweeps.Warn c) s gathered (sweep_goes (sweep_at pool (sweeps.Warn c) s gathered) next)) (nat_lt (c + 1) pool.sizes.callers)
    (sweeps.Warn (c + 1)) (sweeps.ReadHazard 0 0)
    (λ is. fits_at pool kind count s gathered (sweeps.Warn (c + 1)) claims.Sweeps within few (let more : c + 1 < pool.sizes.callers = grind (arith, nat_tests) in more) fit)
    (λ is. fits_at pool kind count s gathered (sweeps.ReadHazard 0 0) claims.Sweeps within few (within.sizes.callers, omega arith) fit)
sweep_keeps pool kind count s gathered (sweeps.ReadHazard c r) word within few range fit told =
    either At (nat_lt (r + 1) 8) (sweeps.ReadHazard c (r + 1)) (if nat_lt (c + 1) pool.sizes.callers then sweeps.ReadHazard (c + 1) 0 else sweeps.ReadStatus pool.sizes.slots)
    (λ is. goes (sweeps.ReadHazard c (r + 1)) (range.0, (let more : r + 1 < 8 = grind (arith, nat_tests) in more)) fit)
    (λ is. either At (nat_lt (c + 1) pool.sizes.callers) (sweeps.ReadHazard (c + 1) 0) (sweeps.ReadStatus pool.sizes.slots)
    (λ also. goes (sweeps.ReadHazard (c + 1) 0) ((let more : c + 1 < pool.sizes.callers = grind (arith, nat_tests) in more), omega arith) fit)
    (λ also. goes (sweeps.ReadStatus pool.sizes.slots) (omega arith) (fit, within.sizes.slots)))
  where
    At : SweepStage → Type 0
    At next = SweepTurnFits pool kind count (sweeps.ReadHazard c r) s gathered (sweep_goes (sweep_at pool (sweeps.ReadHazard c r) s (with_slot gathered word)) next)

    goes : (next : SweepStage) → SweepInRange pool.sizes next → SweepFits pool s next → At next
    goes next there fits = fits_at pool kind count s (with_slot gathered word) next claims.Sweeps within few there fits
sweep_keeps pool kind count s gathered (sweeps.ReadStatus j) word within few range fit told =
    from_status (SweepTurnFits pool kind count (sweeps.ReadStatus j) s gathered) pool.sizes (sweep_at pool (sweeps.ReadStatus j) s gathered) j (status_parts word)
    (slot_done pool kind count s j gathered (sweeps.ReadStatus j) within few fit.0 range)
    (λ parts is below away. fits_at pool kind count s gathered (sweeps.MakeReady j parts.phase) claims.Sweeps within few range fit)
sweep_keeps pool kind count s gathered (sweeps.MakeReady j q) word within few range fit told =
    either (SweepTurnFits pool kind count (sweeps.MakeReady j q) s gathered) (word == status_word q kinds.Retired)
    (sweep_goes (sweep_at pool (sweeps.MakeReady j q) s gathered) (sweeps.PushHead (kind_of pool.sizes j) j)) (sweep_on pool.sizes (sweep_at pool (sweeps.MakeReady j q) s gathered) j)
    (λ is. pushes pool kind count s j gathered (sweeps.MakeReady j q) within few fit.0 fit.1 range)
    (λ is. slot_done pool kind count s j gathered (sweeps.MakeReady j q) within few fit.0 range)
sweep_keeps pool kind count s gathered (sweeps.PushHead k j) word within few range fit told =
    fits_at pool kind count s gathered (sweeps.PushLink j (head_parts pool.sizes.tops word).phase (head_parts pool.sizes.tops word).top) claims.Sweeps within few
    (range.1, told.1) (fit.0, fit.1, told.0)
sweep_keeps pool kind count s gathered (sweeps.PushLink j q t) word within few range fit told =
    fits_at pool kind count s gathered (sweeps.PushTop (kind_of pool.sizes j) j q t) claims.Sweeps within few
    (kind_small pool.sizes j within.sizes.kinds, range.0, range.1) (fit.0, fit.1, fit.2, refl)
sweep_keeps pool kind count s gathered (sweeps.PushTop k j q t) word within few range fit told =
    either (SweepTurnFits pool kind count (sweeps.PushTop k j q t) s gathered) (word == head_word pool.sizes.tops q t)
    (sweep_on pool.sizes (sweep_at pool (sweeps.PushTop k j q t) s gathered) j) (sweep_goes (sweep_at pool (sweeps.PushTop k j q t) s gathered) (sweeps.PushHead (kind_of pool.sizes j) j))
    (λ is. slot_done pool kind count s j gathered (sweeps.PushTop k j q t) within few fit.0 range.1)
    (λ is. pushes pool kind count s j gathered (sweeps.PushTop k j q t) within few fit.0 fit.1 range.1)

-- ---- claims

look_over : (pool : Pool) (kind count s : ℕ) (gathered : List ℕ) (inner : SweepStage) → FitsClaim pool → kind < length pool.sizes.kinds
    → TurnFits pool (look_ended (claim_at pool kind count s gathered inner claims.ReadHead))
look_over pool kind count s gathered inner within few =
    either (TurnFits pool) (count == 2) (claim_ends (claim_at pool kind count s gathered inner claims.ReadHead) ends.Full) (sweep_started (claim_at pool kind count s gathered inner claims.ReadHead))
    (λ is. tt) (λ is. fits_at pool kind count 0 [] sweeps.ReadPhase claims.Sweeps within few tt tt)

keeps_at : (pool : Pool) (kind count s : ℕ) (gathered : List ℕ) (inner : SweepStage) (stage : ClaimStage) (word : ℕ) → FitsClaim pool → kind < length pool.sizes.kinds
    → ClaimInRange pool.sizes (sweep_at pool inner s gathered) stage → ClaimFits pool (claim_at pool kind count s gathered inner stage) stage
    → ClaimTold pool.sizes pool.last (sweep_at pool inner s gathered) stage word
    → TurnFits pool (claim_accepts pool.sizes pool.last (claim_at pool kind count s gathered inner stage) word)
keeps_at pool kind count s gathered inner claims.ReadHead word within few range fit told =
    either (TurnFits pool) ((head_parts pool.sizes.tops word).top == 0) (look_ended (claim_at pool kind count s gathered inner claims.ReadHead))
    (claim_goes (claim_at pool kind count s gathered inner claims.ReadHead) (claims.ReadLink (head_parts pool.sizes.tops word).phase (head_parts pool.sizes.tops word).top))
    (λ is. look_over pool kind count s gathered inner within few)
    (λ is. fits_at pool kind count s gathered inner (claims.ReadLink (head_parts pool.sizes.tops word).phase (head_parts pool.sizes.tops word).top) within few told.1
    (told.0, positive (head_parts pool.sizes.tops word).top is))
  where
    positive : (t : ℕ) → (t == 0) ≡ false → 1 ≤ t
    positive t is = let other : t ≢ 0 = grind (arith, nat_tests) in omega (arith, other)
keeps_at pool kind count s gathered inner (claims.ReadLink q t) word within few range fit told =
    fits_at pool kind count s gathered inner (claims.Take q t word) within few (range, told) fit
keeps_at pool kind count s gathered inner (claims.Take q t next) word within few range fit told =
    either (TurnFits pool) (word == head_word pool.sizes.tops q t) (claim_goes (claim_at pool kind count s gathered inner (claims.Take q t next)) (claims.StoreUsed q t))
    (claim_goes (claim_at pool kind count s gathered inner (claims.Take q t next)) claims.ReadHead)
    (λ is. fits_at pool kind count s gathered inner (claims.StoreUsed q t) within few range.0 fit)
    (λ is. fits_at pool kind count s gathered inner claims.ReadHead within few tt tt)
keeps_at pool kind count s gathered inner (claims.StoreUsed q t) word within few range fit told = (fit.1, range)
keeps_at pool kind count s gathered inner (claims.Withdraw own) word within few range fit told =
    fits_at pool kind count 0 [] sweeps.ReadPhase claims.Sweeps within few tt tt
keeps_at pool kind count s gathered inner claims.Sweeps word within few range fit told =
    sweep_keeps pool kind count s gathered inner word within few range fit told

-- ---- the words of the row

lesser : (a b : ℕ) → a < b → nat_lt a b ≡ true
lesser a b lt = grind (arith, nat_tests)

stands : (j slots : ℕ) → j ≤ slots → nat_lt j (slots + 1) ≡ true
stands j slots most = let lt : j < slots + 1 = omega (arith, most) in lesser j (slots + 1) lt

both : (b c : Bool) → b ≡ true → c ≡ true → (b && c) ≡ true
both true c is also = also
both false c is also = is

sweep_within : (pool : Pool) (kind count s : ℕ) (gathered : List ℕ) (stage : SweepStage) → SweepInRange pool.sizes stage
    → in_row pool.sizes (word_of (claim_wants (sweeping pool kind count stage s gathered))) ≡ true
sweep_within pool kind count s gathered sweeps.ReadPhase range = refl
sweep_within pool kind count s gathered (sweeps.RaisePhase p) range = refl
sweep_within pool kind count s gathered (sweeps.Warn c) range = lesser c pool.sizes.callers range
sweep_within pool kind count s gathered (sweeps.ReadHazard c r) range =
    both (nat_lt c pool.sizes.callers) (nat_lt r 8) (lesser c pool.sizes.callers range.0) (lesser r 8 range.1)
sweep_within pool kind count s gathered (sweeps.ReadStatus j) range = stands j pool.sizes.slots range
sweep_within pool kind count s gathered (sweeps.MakeReady j q) range = stands j pool.sizes.slots range
sweep_within pool kind count s gathered (sweeps.PushHead k j) range = lesser k (length pool.sizes.kinds) range.0
sweep_within pool kind count s gathered (sweeps.PushLink j q t) range = stands j pool.sizes.slots range.0
sweep_within pool kind count s gathered (sweeps.PushTop k j q t) range = lesser k (length pool.sizes.kinds) range.0

within_at : (pool : Pool) (kind count s : ℕ) (gathered : List ℕ) (inner : SweepStage) (stage : ClaimStage) → kind < length pool.sizes.kinds
    → ClaimInRange pool.sizes (sweep_at pool inner s gathered) stage
    → in_row pool.sizes (word_of (claim_wants (claim_at pool kind count s gathered inner stage))) ≡ true
within_at pool kind count s gathered inner claims.ReadHead few range = lesser kind (length pool.sizes.kinds) few
within_at pool kind count s gathered inner (claims.ReadLink q t) few range = stands t pool.sizes.slots range
within_at pool kind count s gathered inner (claims.Take q t next) few range = lesser kind (length pool.sizes.kinds) few
within_at pool kind count s gathered inner (claims.StoreUsed q t) few range = stands t pool.sizes.slots range
within_at pool kind count s gathered inner (claims.Withdraw own) few range = lesser own pool.sizes.callers range
within_at pool kind count s gathered inner claims.Sweeps few range = sweep_within pool kind count s gathered inner range

-- ---- any claim that fits is one of these

abbrev whole : ℕ → ℕ → ℕ → ℕ → ℕ → Scheme → List ℕ → SweepStage → ClaimStage → Claim
whole kind count s low tops scheme gathered inner stage =
    record { kind = kind; stage = stage; sweeps = count; sweep = record { scheme = scheme; tops = tops; stage = inner; bound = s; low = low; gathered = gathered } }

parts : (P : Claim → Type 0) (pool : Pool) (kind count s low tops : ℕ) (scheme : Scheme) (gathered : List ℕ) (inner : SweepStage) (stage : ClaimStage)
    → scheme ≡ Warned → tops ≡ pool.sizes.tops → low ≡ s → P (claim_at pool kind count s gathered inner stage) → P (whole kind count s low tops scheme gathered inner stage)
parts P pool kind count s low tops scheme gathered inner stage warned heads lowest plain =
    subst (λ (by : Scheme). P (whole kind count s low tops by gathered inner stage)) (sym warned)
    (subst (λ (n : ℕ). P (whole kind count s low n Warned gathered inner stage)) (sym heads)
    (subst (λ (x : ℕ). P (whole kind count s x pool.sizes.tops Warned gathered inner stage)) (sym lowest) plain))

-- ---- ends

no_slot : (j slots tops product : ℕ) → j ≤ slots → slots < tops → 1 * tops ≤ product → product + tops ≤ 2 ^ 64 → j ≡ 18446744073709551615 → ⊥
no_slot j slots tops product most below some fit is = absurd (omega (arith, most, below, some, fit, is))

slot_is_not_last : (pool : Pool) (j : ℕ) → FitsClaim pool → j ≤ pool.sizes.slots → j ≡ 18446744073709551615 → ⊥
slot_is_not_last pool j within most =
    no_slot j pool.sizes.slots pool.sizes.tops (pool.last * pool.sizes.tops) most within.sizes.tops (mul-le-mul_right pool.sizes.tops within.some) within.last

ends_apart : (pool : Pool) (x y : ClaimEnd) → FitsClaim pool → IsEnd pool x → IsEnd pool y → answer_of x ≡ answer_of y → x ≡ y
ends_apart pool (ends.Claimed i) (ends.Claimed j) within is also same = ap (λ (k : ℕ). ends.Claimed k) same
ends_apart pool (ends.Claimed i) ends.Full within is also same = absurd (let some = is.0 in omega (arith, some, same))
ends_apart pool (ends.Claimed i) (ends.PhasesOver p) within is also same = absurd (slot_is_not_last pool i within is.1 same)
ends_apart pool ends.Full (ends.Claimed j) within is also same = absurd (let some = also.0 in omega (arith, some, same))
ends_apart pool ends.Full ends.Full within is also same = refl
ends_apart pool ends.Full (ends.PhasesOver p) within is also same = absurd (omega (arith, same))
ends_apart pool (ends.PhasesOver p) (ends.Claimed j) within is also same = absurd (slot_is_not_last pool j within also.1 (sym same))
ends_apart pool (ends.PhasesOver p) ends.Full within is also same = absurd (omega (arith, same))
ends_apart pool (ends.PhasesOver p) (ends.PhasesOver q) within is also same = ap (λ (k : ℕ). ends.PhasesOver k) (is ∙ sym also)

pub claims_fit : ClaimsFit
claims_fit = record {
  begins = λ pool kind within few. fits_at pool kind 0 0 [] sweeps.ReadPhase claims.ReadHead within few tt tt;
  keeps = λ pool claim word fits told.
      parts
      (λ (c : Claim). ClaimInRange pool.sizes c.sweep c.stage → ClaimFits pool c c.stage → ClaimTold pool.sizes pool.last c.sweep c.stage word → TurnFits pool (claim_accepts pool.sizes pool.last c word))
      pool claim.kind claim.sweeps claim.sweep.bound claim.sweep.low claim.sweep.tops claim.sweep.scheme claim.sweep.gathered claim.sweep.stage claim.stage
      fits.scheme fits.tops fits.low
      (λ range fit heard. keeps_at pool claim.kind claim.sweeps claim.sweep.bound claim.sweep.gathered claim.sweep.stage claim.stage word fits.within fits.kind range fit heard)
      fits.range fits.stage told;
  within = λ pool claim fits.
      parts (λ (c : Claim). ClaimInRange pool.sizes c.sweep c.stage → in_row pool.sizes (word_of (claim_wants c)) ≡ true)
      pool claim.kind claim.sweeps claim.sweep.bound claim.sweep.low claim.sweep.tops claim.sweep.scheme claim.sweep.gathered claim.sweep.stage claim.stage
      fits.scheme fits.tops fits.low
      (λ range. within_at pool claim.kind claim.sweeps claim.sweep.bound claim.sweep.gathered claim.sweep.stage claim.stage fits.kind range)
      fits.range;
  apart = ends_apart;
}
