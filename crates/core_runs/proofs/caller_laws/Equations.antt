-- What an entry wants, and what it becomes, by where it stands: one equation for each state of its routine. Laws about the
-- machine cite these, and leave `wants` and `after` closed.
use Rattle.std.proofs.Common.{◌≡◌, ℕ, Some, None, refl}
use Rattle.std.specs.Prelude.{slice_get}
use Rattle.target_code.specs.declared.target.Target.{Target}
use Rattle.phase_pools.specs.Pools.{Claim, Retirement, claim_wants, claim_takes, claim_accepts, retire_wants, retire_accepts}
use Rattle.phase_pools.specs.Accesses.{Loads, Stores}
use Rattle.oa_words.specs.Words.{Warning, FieldOf}
use Rattle.caller_parts.specs.declared.routine.MethodStart.{MethodStart}
use Rattle.caller_parts.specs.declared.routine.AfterClear.{AfterClear}
use Rattle.caller_parts.specs.declared.routine.AfterRetire.{AfterRetire}
use Rattle.caller_parts.specs.declared.routine.Routine.TheVariants.{Idle, LoadSeen, At, InList, Retires, Restarts, Clears, Claims, Zeroes, Announces}
use Rattle.caller_parts.specs.declared.routine.Announcing.{Announcing}
use Rattle.caller_parts.specs.declared.setting.Reclamation.{Reclamation}
use Rattle.caller_parts.specs.Settings.{Setting}
use Rattle.caller_steps.specs.Entries.{Entry, cradle_of, instr_in}
use Rattle.caller_parts.specs.Operands.{list_of}
use Rattle.caller_steps.specs.Clearing.{clear_next, restart_next}
use Rattle.caller_steps.specs.Wants.{announcing_wanted, clear_wanted, instr_wanted, list_wanted, wants}
use Rattle.caller_steps.specs.Signs.{quiet}
use Rattle.caller_steps.specs.After.{announced, moved, signs, after, claim_counted, claimed, counted, instr_accepted, list_accepted, restart_cleared, retired_on, seen_loaded, then_cleared, zeroed}

module _ (target : Target) (e : Entry) where
  pub wants_idle : e.routine ≡ Idle → wants target e ≡ None
  unfolding wants
  wants_idle is = rw is refl

  pub wants_seen : (why : MethodStart) → e.routine ≡ LoadSeen why → wants target e ≡ Some (Loads (Warning e.number))
  unfolding wants
  wants_seen why is = rw is refl

  pub wants_at : e.routine ≡ At → wants target e ≡ instr_wanted target.fields e.number (instr_in target e) e.hand.registers
  unfolding wants
  wants_at is = rw is refl

  pub wants_list : (k : ℕ) → e.routine ≡ InList k → wants target e ≡ list_wanted target.fields (slice_get (list_of (instr_in target e)) k) e.hand.registers
  unfolding wants
  wants_list k is = rw is refl

  pub wants_retires : (retirement : Retirement) (go : AfterRetire) → e.routine ≡ Retires retirement go → wants target e ≡ Some (retire_wants retirement)
  unfolding wants
  wants_retires retirement go is = rw is refl

  pub wants_restarts : e.routine ≡ Restarts → wants target e ≡ clear_wanted e.number (restart_next target e)
  unfolding wants
  wants_restarts is = rw is refl

  pub wants_clears : (next : AfterClear) → e.routine ≡ Clears next → wants target e ≡ clear_wanted e.number (clear_next target next e)
  unfolding wants
  wants_clears next is = rw is refl

  pub wants_claims : (claim : Claim) → e.routine ≡ Claims claim → wants target e ≡ Some (claim_wants claim)
  unfolding wants
  wants_claims claim is = rw is refl

  pub wants_zeroes : (k field : ℕ) → e.routine ≡ Zeroes k field → wants target e ≡ Some (Stores (FieldOf (cradle_of e k) field) 0)
  unfolding wants
  wants_zeroes k field is = rw is refl

  pub wants_announces : (announcing : Announcing) → e.routine ≡ Announces announcing → wants target e ≡ Some (announcing_wanted e.number announcing)
  unfolding wants
  wants_announces announcing is = rw is refl

module _ (target : Target) (setting : Setting) (e : Entry) (word : ℕ) where
  pub after_is : after target setting e word ≡ (moved setting.reclamation target setting e word).entry
  unfolding after
  after_is = refl

  pub signs_are : signs target setting e word ≡ (moved setting.reclamation target setting e word).signs
  unfolding signs
  signs_are = refl

-- by each scheme
module _ (by : Reclamation) (target : Target) (setting : Setting) (e : Entry) (word : ℕ) where
  pub moved_seen : (why : MethodStart) → e.routine ≡ LoadSeen why → moved by target setting e word ≡ seen_loaded target setting.sizes why word (counted e)
  moved_seen why is = rw is refl

  pub moved_at : e.routine ≡ At → moved by target setting e word ≡ instr_accepted by target setting.sizes (instr_in target e) word (counted e)
  moved_at is = rw is refl

  pub moved_list : (k : ℕ) → e.routine ≡ InList k → moved by target setting e word ≡ list_accepted by target setting.sizes k (slice_get (list_of (instr_in target e)) k) word (counted e)
  moved_list k is = rw is refl

  pub moved_retires : (retirement : Retirement) (go : AfterRetire) → e.routine ≡ Retires retirement go → moved by target setting e word ≡ retired_on by target setting.sizes go (retire_accepts retirement word) (counted e)
  moved_retires retirement go is = rw is refl

  pub moved_restarts : e.routine ≡ Restarts → moved by target setting e word ≡ restart_cleared target setting.sizes (counted e)
  moved_restarts is = rw is refl

  pub moved_clears : (next : AfterClear) → e.routine ≡ Clears next → moved by target setting e word ≡ quiet (then_cleared target setting.sizes next (counted e))
  moved_clears next is = rw is refl

  pub moved_claims : (claim : Claim) → e.routine ≡ Claims claim → moved by target setting e word ≡ claimed by target (claim_accepts setting.sizes setting.last claim word) (claim_counted (claim_takes setting.sizes claim word) (counted e))
  moved_claims claim is = rw is refl

  pub moved_zeroes : (k field : ℕ) → e.routine ≡ Zeroes k field → moved by target setting e word ≡ zeroed by target setting.sizes k field (counted e)
  moved_zeroes k field is = rw is refl

  pub moved_announces : (announcing : Announcing) → e.routine ≡ Announces announcing → moved by target setting e word ≡ announced target setting.sizes announcing word (counted e)
  moved_announces announcing is = rw is refl
