-- Where a caller stands in the pool of slots.
use Rattle.chain_laws.specs.Machine.{Standing, Elsewhere, Claims, Retires}
use Rattle.caller_parts.specs.declared.routine.Routine.{Routine}
use Rattle.caller_parts.specs.declared.routine.Routine.TheVariants as routines

-- before an access of a claim or a retirement, or in no routine of the pool
abbrev pub standing_of : Routine → Standing
standing_of routines.Idle = Elsewhere
standing_of (routines.LoadSeen why) = Elsewhere
standing_of routines.At = Elsewhere
standing_of (routines.InList k) = Elsewhere
standing_of (routines.Retires retirement go) = Retires retirement
standing_of routines.Restarts = Elsewhere
standing_of (routines.Clears next) = Elsewhere
standing_of (routines.Claims claim) = Claims claim
standing_of (routines.Zeroes k field) = Elsewhere
standing_of (routines.Announces announcing) = Elsewhere
