-- A sweep, a claim and a retirement go on to stand at slots, callers and registers of the row.
use Rattle.std.proofs.Common.{◌≡◌, ◌≢◌, ℕ, zero, suc, ◌+◌, ◌≤◌, ◌<◌, ◌==◌, Bool, true, false, List, length, Option, Some, None, refl, sym, ◌∙◌, subst, arith, if◌then◌else◌}
use Rattle.std.specs.Prelude.{nat_lt, IsSomeAnd}
use Rattle.std.specs.List.{All}
use Rattle.std.proofs.lemmas.Bool.Decides.{nat_tests}
use Rattle.std.proofs.lemmas.List.Elements.{All-push}
use Rattle.oa_words.specs.declared.packed.Kind.TheVariants as kinds
use Rattle.oa_words.specs.SlotKinds.{kind_of, IsNullOrOf}
use Rattle.oa_words.specs.Packed.{StatusParts, status_parts, status_word, HeadParts, head_word, head_parts}
use Rattle.target_code.specs.declared.target.Target.{Target}
use Rattle.guard_words.specs.Guards.{with_slot}
use Rattle.phase_pools.specs.declared.access.ClaimEnd.{ClaimEnd}
use Rattle.phase_pools.specs.declared.access.ClaimEnd.TheVariants as ends
use Rattle.phase_pools.specs.declared.access.SweepEnd.{SweepEnd}
use Rattle.phase_pools.specs.declared.access.SweepEnd.TheVariants as swept
use Rattle.phase_pools.specs.declared.stages.SweepStage.{SweepStage}
use Rattle.phase_pools.specs.declared.stages.SweepStage.TheVariants as sweeps
use Rattle.phase_pools.specs.declared.stages.ClaimStage.{ClaimStage}
use Rattle.phase_pools.specs.declared.stages.ClaimStage.TheVariants as claims
use Rattle.phase_pools.specs.declared.stages.Scheme.{Scheme}
use Rattle.phase_pools.specs.declared.stages.Scheme.TheVariants.{Warned, Announced}
use Rattle.phase_pools.proofs.Lowering.{lower_less}
use Rattle.phase_pools.proofs.Keeping.{sweep_keeps as schemes_stay}
use Rattle.phase_pools.specs.Pools.{Sweep, SweepTurn, sweep_wants_at, low_after, warned_all, sweep_follows, sweep_started, sweep_goes, sweep_ends, sweep_on, sweep_accepts, sweep_accepts_at, status_read, Claim, ClaimTurn, claim_wants_at, claim_accepts_at, claim_goes, claim_ends, look_begun, look_ended, sweep_ended, sweep_begun}
use Rattle.phase_pools.proofs.Statuses.{from_slot, from_status}
use Rattle.caller_parts.specs.Settings.{Setting}
use Rattle.caller_steps.specs.Lawful.{Accepts}
use Rattle.caller_steps.specs.Belongs.{ClaimBelongs, ClaimStands, HasBound, HasLow, SweepBelongs, SweepStands, last_slot, scheme_of}
use Rattle.core_runs.proofs.caller_laws.Methods.{SettingSane}
use Rattle.core_runs.proofs.caller_laws.OfKinds.{of_same_kind, slot_of_kind}

-- what the stages of a sweep share
abbrev pub Gathers : Setting → Sweep → Type 0
Gathers setting sweep = All (λ (j : ℕ). j ≤ setting.sizes.slots) sweep.gathered

-- a sweep belongs as it goes on, and as it has ended
abbrev pub SweepKeeps : Setting → SweepTurn → Type 0
SweepKeeps setting turn = SweepBelongs setting turn.sweep

abbrev pub Bound : Setting → Sweep → Type 0
Bound setting sweep = (setting.first ≤ sweep.bound) × (sweep.bound ≤ setting.last)

-- a sweep may recycle what was retired before the phase to which it raises
no_lower : (scheme : Scheme) (s : ℕ) → HasLow scheme s s
no_lower Warned s = refl
no_lower (Announced own) s = omega arith

-- and goes on to recycle no more
lower_still : (scheme : Scheme) (s low word : ℕ) → HasLow scheme s low → HasLow scheme s (low_after scheme low word)
lower_still Warned s low word is = is
lower_still (Announced own) s low word is = let less = lower_less low word in omega (arith, is, less)

-- a sweep before its first access
pub fresh_sweep : (setting : Setting) (tops : ℕ) (scheme : Scheme) → SweepBelongs setting (sweep_begun tops scheme)
fresh_sweep setting tops scheme = record { stands = tt; bound = omega arith; low = no_lower scheme 0; gathered = λ k d lt. let no : k < 0 = lt in omega (arith, no) }

pub on_keeps : (setting : Setting) (sweep : Sweep) (j : ℕ) → j ≤ setting.sizes.slots → SweepBelongs setting sweep → Bound setting sweep → Gathers setting sweep → SweepKeeps setting (sweep_on setting.sizes sweep j)
on_keeps setting sweep j high own bound gathers =
    from_slot (SweepKeeps setting) setting.sizes sweep j (λ more. record { stands = (omega (arith, more), omega (arith, high)); bound = bound; low = own.low; gathered = gathers }) own

status_keeps : (setting : Setting) (sweep : Sweep) (j : ℕ) (parts : Option StatusParts) → IsSomeAnd parts (λ (p : StatusParts). p.phase ≤ setting.last)
    → 1 ≤ j → j ≤ setting.sizes.slots → SweepBelongs setting sweep → Bound setting sweep → Gathers setting sweep → SweepKeeps setting (status_read setting.sizes sweep j parts)
status_keeps setting sweep j parts lawful low high own bound gathers = from_status (SweepKeeps setting) setting.sizes sweep j parts (on_keeps setting sweep j high own bound gathers)
    (λ p is below away. record { stands = (low, high, subst (λ o. IsSomeAnd o (λ (p : StatusParts). p.phase ≤ setting.last)) is lawful); bound = bound; low = own.low; gathered = gathers })

gathers_more : (setting : Setting) (slots : List ℕ) (word : ℕ) → word ≤ setting.sizes.slots → All (λ (j : ℕ). j ≤ setting.sizes.slots) slots → All (λ (j : ℕ). j ≤ setting.sizes.slots) (with_slot slots word)
gathers_more setting slots zero le all = all
gathers_more setting slots (suc j) le all = All-push (λ (i : ℕ). i ≤ setting.sizes.slots) slots (suc j) all le

pub sweep_keeps : (target : Target) (setting : Setting) (sweep : Sweep) (word : ℕ) (stage : SweepStage) → SettingSane setting → 0 < setting.sizes.callers → SweepBelongs setting sweep
    → SweepStands setting sweep.bound stage → HasBound setting sweep.bound stage → Gathers setting sweep → Accepts target setting (sweep_wants_at sweep.tops sweep.scheme stage sweep.bound) word
    → SweepKeeps setting (sweep_accepts_at setting.sizes setting.last sweep word stage)
sweep_keeps target setting sweep word sweeps.ReadPhase some callers own stands bound gathers lawful = of (word == setting.last) refl where
  of : (b : Bool) → (word == setting.last) ≡ b → SweepKeeps setting (if b then sweep_ends sweep (swept.PhasesOver word) else sweep_goes sweep (sweeps.RaisePhase word))
  of true is = own
  of false is = let ne : word ≢ setting.last = (λ e. let z : (word == setting.last) ≡ true = grind (arith, nat_tests) in let y : false ≡ true = sym is ∙ z in cc) in
      record { stands = (lawful.0, omega (arith, lawful.1, ne)); bound = bound; low = own.low; gathered = gathers }
sweep_keeps target setting sweep word (sweeps.RaisePhase p) some callers own stands bound gathers lawful =
    record { stands = callers; bound = (omega (arith, stands.0), omega (arith, stands.1)); low = no_lower sweep.scheme (p + 1); gathered = gathers }
sweep_keeps target setting sweep word (sweeps.Warn c) some callers own stands bound gathers lawful = of (nat_lt (c + 1) setting.sizes.callers) refl where
  low : HasLow sweep.scheme sweep.bound (low_after sweep.scheme sweep.low word)
  low = lower_still sweep.scheme sweep.bound sweep.low word own.low

  all : (scheme : Scheme) → SweepKeeps setting (sweep_goes (record sweep { low = low_after sweep.scheme sweep.low word }) (warned_all setting.sizes scheme))
  all Warned = record { stands = (callers, omega arith); bound = bound; low = low; gathered = gathers }
  all (Announced own) = record { stands = (some.slots, omega arith); bound = bound; low = low; gathered = gathers }

  of : (b : Bool) → nat_lt (c + 1) setting.sizes.callers ≡ b
      → SweepKeeps setting (sweep_goes (record sweep { low = low_after sweep.scheme sweep.low word }) (if b then sweeps.Warn (c + 1) else warned_all setting.sizes sweep.scheme))
  of true is = record { stands = grind (arith, nat_tests); bound = bound; low = low; gathered = gathers }
  of false is = all sweep.scheme
sweep_keeps target setting sweep word (sweeps.ReadHazard c r) some callers own stands bound gathers lawful = of (nat_lt (r + 1) 8) refl (nat_lt (c + 1) setting.sizes.callers) refl where
  more : All (λ (j : ℕ). j ≤ setting.sizes.slots) (with_slot sweep.gathered word)
  more = gathers_more setting sweep.gathered word lawful gathers

  of : (b : Bool) → nat_lt (r + 1) 8 ≡ b → (d : Bool) → nat_lt (c + 1) setting.sizes.callers ≡ d
      → SweepKeeps setting (sweep_goes (record sweep { gathered = with_slot sweep.gathered word }) (if b then sweeps.ReadHazard c (r + 1) else (if d then sweeps.ReadHazard (c + 1) 0 else sweeps.ReadStatus (last_slot setting))))
  of true is d then_is = let lt : r + 1 < 8 = grind (arith, nat_tests) in record { stands = (stands.0, lt); bound = bound; low = own.low; gathered = more }
  of false is true then_is = let lt : c + 1 < setting.sizes.callers = grind (arith, nat_tests) in record { stands = (lt, omega arith); bound = bound; low = own.low; gathered = more }
  of false is false then_is = record { stands = (some.slots, omega arith); bound = bound; low = own.low; gathered = more }
sweep_keeps target setting sweep word (sweeps.ReadStatus j) some callers own stands bound gathers lawful = status_keeps setting sweep j (status_parts word) lawful stands.0 stands.1 own bound gathers
sweep_keeps target setting sweep word (sweeps.MakeReady j q) some callers own stands bound gathers lawful = of (word == status_word q kinds.Retired) where
  of : (b : Bool) → SweepKeeps setting (if b then sweep_goes sweep (sweeps.PushHead (kind_of setting.sizes j) j) else sweep_on setting.sizes sweep j)
  of true = record { stands = (stands.0, stands.1, refl); bound = bound; low = own.low; gathered = gathers }
  of false = on_keeps setting sweep j stands.1 own bound gathers
sweep_keeps target setting sweep word (sweeps.PushHead k j) some callers own stands bound gathers lawful = record {
  stands = (stands.0, stands.1, lawful.0, of_same_kind setting.sizes k (kind_of setting.sizes j) (head_parts setting.sizes.tops word).top stands.2 lawful.1);
  bound = bound;
  low = own.low;
  gathered = gathers;
}
sweep_keeps target setting sweep word (sweeps.PushLink j q t) some callers own stands bound gathers lawful =
    record { stands = (stands.0, stands.1, stands.2, stands.3, refl); bound = bound; low = own.low; gathered = gathers }
sweep_keeps target setting sweep word (sweeps.PushTop k j q t) some callers own stands bound gathers lawful = of (word == head_word setting.sizes.tops q t) where
  of : (b : Bool) → SweepKeeps setting (if b then sweep_on setting.sizes sweep j else sweep_goes sweep (sweeps.PushHead (kind_of setting.sizes j) j))
  of true = on_keeps setting sweep j stands.1 own bound gathers
  of false = record { stands = (stands.0, stands.1, refl); bound = bound; low = own.low; gathered = gathers }

-- the claim of a caller goes on as one that belongs, or has ended, maybe with a slot of its kind
abbrev pub ClaimOn : Setting → ℕ → Option ClaimEnd → Claim → Type 0
ClaimOn setting c None claim = ClaimBelongs setting c claim
ClaimOn setting c (Some (ends.Claimed j)) claim = (1 ≤ j) × (j ≤ setting.sizes.slots) × (kind_of setting.sizes j ≡ claim.kind)
ClaimOn setting c (Some ends.Full) claim = Unit {0}
ClaimOn setting c (Some (ends.PhasesOver p)) claim = Unit {0}

abbrev pub ClaimKeeps : Setting → ℕ → ClaimTurn → Type 0
ClaimKeeps setting c turn = ClaimOn setting c turn.ended turn.claim

-- its sweeps go by the scheme of the setting, and have the row's tops
abbrev pub Goes : Setting → ℕ → Sweep → Type 0
Goes setting c sweep = (sweep.scheme ≡ scheme_of setting.reclamation c) × (sweep.tops ≡ setting.sizes.tops)

abbrev pub Follows : Setting → ℕ → Claim → Type 0
Follows setting c claim = Goes setting c claim.sweep

started_keeps : (setting : Setting) (c : ℕ) (claim : Claim) → claim.kind < length setting.sizes.kinds → Follows setting c claim → ClaimKeeps setting c (sweep_started claim)
started_keeps setting c claim known follows = record { kind = known; scheme = follows.0; tops = follows.1; stands = tt; sweep = fresh_sweep setting claim.sweep.tops claim.sweep.scheme }

-- a sweep follows a look, or first the withdrawal of the caller's own announcement
follows_keeps : (setting : Setting) (c : ℕ) (claim : Claim) (scheme : Scheme) (made : ℕ) → claim.kind < length setting.sizes.kinds → Follows setting c claim → claim.sweep.scheme ≡ scheme → SweepBelongs setting claim.sweep
    → ClaimKeeps setting c (sweep_follows scheme made claim)
follows_keeps setting c claim (Announced announced) zero known follows is own = record { kind = known; scheme = follows.0; tops = follows.1; stands = is; sweep = own }
follows_keeps setting c claim _ _ known follows is own = started_keeps setting c claim known follows

ended_keeps : (setting : Setting) (c : ℕ) (claim : Claim) → claim.kind < length setting.sizes.kinds → Follows setting c claim → SweepBelongs setting claim.sweep → ClaimKeeps setting c (look_ended claim)
ended_keeps setting c claim known follows own = of (claim.sweeps == 2) where
  of : (b : Bool) → ClaimKeeps setting c (if b then claim_ends claim ends.Full else sweep_follows claim.sweep.scheme claim.sweeps claim)
  of true = tt
  of false = follows_keeps setting c claim claim.sweep.scheme claim.sweeps known follows refl own

-- a look that found a head
begun_keeps : (setting : Setting) (c : ℕ) (claim : Claim) (head : HeadParts) → (head.phase ≤ setting.last) × IsNullOrOf setting.sizes claim.kind head.top
    → claim.kind < length setting.sizes.kinds → Follows setting c claim → SweepBelongs setting claim.sweep → ClaimKeeps setting c (look_begun claim head)
begun_keeps setting c claim head within known follows own = of (head.top == 0) refl where
  of : (b : Bool) → (head.top == 0) ≡ b → ClaimKeeps setting c (if b then look_ended claim else claim_goes claim (claims.ReadLink head.phase head.top))
  of true is = ended_keeps setting c claim known follows own
  of false is =
      let one = slot_of_kind setting.sizes claim.kind head.top (grind (arith, nat_tests)) within.1 in
      record { kind = known; scheme = follows.0; tops = follows.1; stands = (one.0, one.1, within.0, one.2); sweep = own }

swept_keeps : (setting : Setting) (c : ℕ) (claim : Claim) (sweep : Sweep) (end : Option SweepEnd) → claim.stage ≡ claims.Sweeps → claim.kind < length setting.sizes.kinds → Goes setting c sweep
    → SweepBelongs setting sweep → ClaimKeeps setting c (sweep_ended claim sweep end)
swept_keeps setting c claim sweep None is known follows own =
    record { kind = known; scheme = follows.0; tops = follows.1; stands = subst (λ (stage : ClaimStage). ClaimStands setting sweep.scheme claim.kind stage) (sym is) tt; sweep = own }
swept_keeps setting c claim sweep (Some swept.Swept) is known follows own = record { kind = known; scheme = follows.0; tops = follows.1; stands = tt; sweep = own }
swept_keeps setting c claim sweep (Some (swept.PhasesOver p)) is known follows own = tt

pub claim_keeps : (target : Target) (setting : Setting) (c : ℕ) (claim : Claim) (word : ℕ) (stage : ClaimStage) → claim.stage ≡ stage → SettingSane setting → 0 < setting.sizes.callers
    → claim.kind < length setting.sizes.kinds → Follows setting c claim → ClaimStands setting claim.sweep.scheme claim.kind stage → SweepBelongs setting claim.sweep
    → Accepts target setting (claim_wants_at claim.sweep.tops claim.kind claim.sweep stage) word → ClaimKeeps setting c (claim_accepts_at setting.sizes setting.last claim word stage)
claim_keeps target setting c claim word claims.ReadHead is some callers known follows stands own lawful = begun_keeps setting c claim (head_parts setting.sizes.tops word) lawful known follows own
claim_keeps target setting c claim word (claims.ReadLink q t) is some callers known follows stands own lawful = record {
  kind = known;
  scheme = follows.0;
  tops = follows.1;
  stands = (stands.0, stands.1, stands.2, of_same_kind setting.sizes (kind_of setting.sizes t) claim.kind word stands.3 lawful, stands.3);
  sweep = own;
}
claim_keeps target setting c claim word (claims.Take q t next) is some callers known follows stands own lawful = of (word == head_word setting.sizes.tops q t) where
  of : (b : Bool) → ClaimKeeps setting c (if b then claim_goes claim (claims.StoreUsed q t) else claim_goes claim claims.ReadHead)
  of true = record { kind = known; scheme = follows.0; tops = follows.1; stands = (stands.0, stands.1, stands.2, stands.4); sweep = own }
  of false = record { kind = known; scheme = follows.0; tops = follows.1; stands = tt; sweep = own }
claim_keeps target setting c claim word (claims.StoreUsed q t) is some callers known follows stands own lawful = (stands.0, stands.1, stands.3)
claim_keeps target setting c claim word (claims.Withdraw announced) is some callers known follows stands own lawful = started_keeps setting c claim known follows
claim_keeps target setting c claim word claims.Sweeps is some callers known follows stands own lawful =
    let turn = sweep_accepts setting.sizes setting.last claim.sweep word in
    let stays = schemes_stay setting.sizes setting.last claim.sweep word in
    swept_keeps setting c claim turn.sweep turn.ended is known (stays.scheme ∙ follows.0, stays.tops ∙ follows.1)
    (sweep_keeps target setting claim.sweep word claim.sweep.stage some callers own own.stands own.bound own.gathered lawful)
