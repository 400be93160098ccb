-- The words that a routine may be told, by the address at which they stand.
use Rattle.std.specs.Prelude.{ℕ, ◌+◌, ◌*◌, ◌≤◌, ◌<◌, length}
use Rattle.oa_words.specs.Words.{Sizes, slot_rows, head_base, link_base}
use Rattle.phase_pools.specs.declared.access.Access.{Access}
use Rattle.phase_pools.specs.declared.access.Access.TheVariants as codes
use Rattle.phase_pools.specs.Pools.{Claim}
use Rattle.phase_pools.specs.Ranges.{ClaimInRange, HasOwn, IsStatus, IsHead}

abbrev pub address_in : Access → ℕ
address_in (codes.Load at) = at
address_in (codes.Store at word) = at
address_in (codes.CompareExchange at expected replacement) = at
address_in (codes.FetchMax at word) = at

-- phases stand first, then hazards, then statuses
pub record IsTold (n : Sizes) (last at word : ℕ) : Type 0 where
  pub phase : at ≤ 2 * n.callers → word ≤ last
  pub hazard : 2 * n.callers < at → at ≤ 10 * n.callers → word ≤ n.slots
  pub status : 10 * n.callers < at → at ≤ 10 * n.callers + slot_rows n → IsStatus last word
  pub head : head_base n ≤ at → at < link_base n → IsHead n last word
  pub link : link_base n ≤ at → word ≤ n.slots

-- a claim of one of a row's kinds, by one of its callers, which stands in the row
abbrev pub StandsInRow : Sizes → Claim → Type 0
StandsInRow n claim = (claim.kind < length n.kinds) × HasOwn n claim.sweep.scheme × ClaimInRange n claim.sweep claim.stage
