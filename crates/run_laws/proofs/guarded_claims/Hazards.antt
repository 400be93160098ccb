-- Which accesses store a hazard word: a `grd` and a clear alone.
use Rattle.std.proofs.Common.{List, ℕ, zero, suc, ◌≡◌, ◌≢◌, ◌⊎◌, Option, Some, None, sym, ap, subst, refl, true, false, ◌==◌, inl, inr}
use Rattle.std.specs.Prelude.{slice_get}
use Rattle.std.proofs.lemmas.Bool.Decides.{eqb_tells}
use Rattle.norm_lang.specs.declared.text.Place.{Place}
use Rattle.norm_lang.specs.declared.text.Place.TheVariants as places
use Rattle.norm_lang.specs.declared.text.CasEntry.{CasEntry}
use Rattle.norm_lang.specs.declared.text.Instr.{Instr}
use Rattle.norm_lang.specs.declared.text.Instr.TheVariants as instr
use Rattle.norm_lang.specs.declared.registers.Registers.{Registers}
use Rattle.norm_lang.specs.declared.text.FieldDecl.{FieldDecl}
use Rattle.norm_lang.specs.KindFields.{place_of}
use Rattle.target_code.specs.declared.target.Target.{Target}
use Rattle.target_code.specs.declared.target.TargetInstr.{TargetInstr}
use Rattle.target_code.specs.declared.target.TargetInstr.TheVariants.{Plain, Check, Guard}
use Rattle.oa_words.specs.Words.{Word, Hazard}
use Rattle.oa_words.specs.Memories.{store}
use Rattle.phase_pools.specs.declared.stages.Scheme.{Scheme}
use Rattle.phase_pools.specs.declared.stages.Scheme.TheVariants.{Warned, Announced}
use Rattle.phase_pools.specs.declared.stages.SweepStage.{SweepStage}
use Rattle.phase_pools.specs.declared.stages.SweepStage.TheVariants as sweeps
use Rattle.phase_pools.specs.declared.stages.ClaimStage.{ClaimStage}
use Rattle.phase_pools.specs.declared.stages.ClaimStage.TheVariants as claims
use Rattle.phase_pools.specs.declared.stages.RetireStage.{RetireStage}
use Rattle.phase_pools.specs.declared.stages.RetireStage.TheVariants as retires
use Rattle.phase_pools.specs.Accesses.{WordAccess, Stores}
use Rattle.phase_pools.specs.Pools.{Sweep, claim_wants_at, warn_wanted, sweep_wants_at, retire_wants_at}
use Rattle.caller_parts.specs.declared.routine.Routine.{Routine}
use Rattle.caller_parts.specs.declared.routine.Routine.TheVariants.{Idle, LoadSeen, At, InList, Retires, Restarts, Clears, Claims, Zeroes, Announces}
use Rattle.caller_parts.specs.Operands.{list_of, slot_in, word_in, register_number}
use Rattle.caller_steps.specs.Entries.{Entry, instr_in}
use Rattle.caller_steps.specs.Clearing.{restart_next, clear_next}
use Rattle.caller_steps.specs.Wants.{wanted, announcing_wanted, exchange_wanted, instr_wanted, list_wanted, clear_wanted, object_exchange, place_exchange, plain_wanted}
use Rattle.chain_laws.specs.Memories.{after_access}
use Rattle.oa_simulation.proofs.sim_relation.Words.{store_again}
use Rattle.caller_parts.specs.declared.routine.Announcing.{Announcing}
use Rattle.caller_parts.specs.declared.routine.Announcing.TheVariants as announces

abbrev pub Leaves : (Word → ℕ) → ℕ → ℕ → Option WordAccess → Type 0
Leaves m c r None = Unit {0}
Leaves m c r (Some a) = after_access m a (Hazard c r) ≡ m (Hazard c r)

-- the hazard word that a routine stores
abbrev pub stored_at : Option TargetInstr → Option ℕ
stored_at None = None
stored_at (Some (Plain i)) = None
stored_at (Some Check) = None
stored_at (Some (Guard r)) = Some (register_number r)

abbrev pub stored : Target → Entry → Routine → Option ℕ
stored target e At = stored_at (instr_in target e)
stored target e Restarts = restart_next target e
stored target e (Clears next) = clear_next target next e
stored target e _ = None

module _ (m : Word → ℕ) (c r : ℕ) where
  -- a store in another hazard word of the caller
  other_leaves : (i k word : ℕ) → r ≢ k → store m (Hazard i k) word (Hazard c r) ≡ m (Hazard c r)
  other_leaves i k word ne = of (eqb_tells r k) (eqb_tells c i) where
    of : (((r == k) ≡ true) × (r ≡ k)) ⊎ (((r == k) ≡ false) × (r ≢ k)) → (((c == i) ≡ true) × (c ≡ i)) ⊎ (((c == i) ≡ false) × (c ≢ i)) → store m (Hazard i k) word (Hazard c r) ≡ m (Hazard c r)
    of (inl same) here = absurd (ne same.1)
    of (inr away) (inl here) = rw (here.0, away.0) refl
    of (inr away) (inr there) = rw there.0 refl

  exchange_leaves : (fields : List FieldDecl) (exchange : CasEntry) (registers : Registers) → Leaves m c r (Some (exchange_wanted fields exchange registers))
  exchange_leaves fields exchange registers = of exchange.place where
    object : (k f expected replacement : ℕ) → Leaves m c r (Some (object_exchange k f expected replacement))
    object zero f expected replacement = refl
    object (suc k) f expected replacement = refl

    of : (place : Place) → Leaves m c r (Some (place_exchange fields place registers (word_in registers exchange.expected) (word_in registers exchange.replacement)))
    of (places.Root x) = refl
    of (places.Field a f) = object (slot_in registers a) (place_of fields f) (word_in registers exchange.expected) (word_in registers exchange.replacement)

  plain_leaves : (fields : List FieldDecl) (i : Instr) (registers : Registers) → Leaves m c r (plain_wanted fields i registers)
  plain_leaves fields (instr.LoadRoot d x) registers = refl
  plain_leaves fields (instr.LoadPick d x n a) registers = refl
  plain_leaves fields (instr.LoadField d a f) registers = refl
  plain_leaves fields (instr.Put a f b) registers = refl
  plain_leaves fields (instr.Cas exchange l) registers = exchange_leaves fields exchange registers
  plain_leaves fields _ registers = tt

  list_leaves : (fields : List FieldDecl) (o : Option CasEntry) (registers : Registers) → Leaves m c r (list_wanted fields o registers)
  list_leaves fields None registers = tt
  list_leaves fields (Some exchange) registers = exchange_leaves fields exchange registers

  instr_leaves : (fields : List FieldDecl) (i : ℕ) (o : Option TargetInstr) (registers : Registers) → (stored_at o ≡ Some r → ⊥) → Leaves m c r (instr_wanted fields i o registers)
  instr_leaves fields i None registers ne = tt
  instr_leaves fields i (Some (Plain x)) registers ne = plain_leaves fields x registers
  instr_leaves fields i (Some Check) registers ne = refl
  instr_leaves fields i (Some (Guard k)) registers ne = other_leaves i (register_number k) (slot_in registers k) (λ same. ne (ap Some (sym same)))

  clear_leaves : (i : ℕ) (o : Option ℕ) → (o ≡ Some r → ⊥) → Leaves m c r (clear_wanted i o)
  clear_leaves i None ne = tt
  clear_leaves i (Some k) ne = other_leaves i k 0 (λ same. ne (ap Some (sym same)))

  retire_leaves : (slot : ℕ) (stage : RetireStage) → Leaves m c r (Some (retire_wants_at slot stage))
  retire_leaves slot retires.ReadPhase = refl
  retire_leaves slot (retires.StoreStatus p) = refl

  warn_leaves : (scheme : Scheme) (d bound : ℕ) → Leaves m c r (Some (warn_wanted scheme d bound))
  warn_leaves Warned d bound = refl
  warn_leaves (Announced own) d bound = refl

  sweep_leaves : (tops : ℕ) (scheme : Scheme) (stage : SweepStage) (bound : ℕ) → Leaves m c r (Some (sweep_wants_at tops scheme stage bound))
  sweep_leaves tops scheme (sweeps.Warn d) bound = warn_leaves scheme d bound
  sweep_leaves tops scheme (sweeps.ReadHazard d i) bound = store_again m (Hazard d i) (Hazard c r)
  sweep_leaves tops scheme _ bound = refl

  claim_leaves : (kind : ℕ) (sweep : Sweep) (stage : ClaimStage) → Leaves m c r (Some (claim_wants_at sweep.tops kind sweep stage))
  claim_leaves kind sweep claims.Sweeps = sweep_leaves sweep.tops sweep.scheme sweep.stage sweep.bound
  claim_leaves kind sweep _ = refl

  announcing_leaves : (i : ℕ) (announcing : Announcing) → Leaves m c r (Some (announcing_wanted i announcing))
  announcing_leaves i (announces.Loads why) = refl
  announcing_leaves i _ = refl

  pub leaves : (target : Target) (e : Entry) (routine : Routine) → (stored target e routine ≡ Some r → ⊥) → Leaves m c r (wanted target e routine)
  leaves target e Idle ne = tt
  leaves target e (LoadSeen why) ne = refl
  leaves target e At ne = instr_leaves target.fields e.number (instr_in target e) e.hand.registers ne
  leaves target e (InList k) ne = list_leaves target.fields (slice_get (list_of (instr_in target e)) k) e.hand.registers
  leaves target e (Retires retirement go) ne = retire_leaves retirement.slot retirement.stage
  leaves target e Restarts ne = clear_leaves e.number (restart_next target e) ne
  leaves target e (Clears next) ne = clear_leaves e.number (clear_next target next e) ne
  leaves target e (Claims claim) ne = claim_leaves claim.kind claim.sweep claim.stage
  leaves target e (Zeroes k field) ne = refl
  leaves target e (Announces announcing) ne = announcing_leaves e.number announcing

  -- a store of what stands there
  pub again_leaves : (slot : ℕ) → slot ≡ m (Hazard c r) → Leaves m c r (Some (Stores (Hazard c r) slot))
  again_leaves slot same = subst (λ (word : ℕ). store m (Hazard c r) word (Hazard c r) ≡ m (Hazard c r)) (sym same) (store_again m (Hazard c r) (Hazard c r))
