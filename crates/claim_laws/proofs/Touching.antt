-- Slots that were never claimed stay ready.
use Rattle.std.proofs.Common.{◌≡◌, ◌≢◌, ◌⊎◌, inl, inr, ⊎_elim, ℕ, zero, suc, ◌+◌, ◌*◌, ◌≤◌, ◌<◌, ◌==◌, ◌||◌, Bool, true, false, List, ◌∷◌, Option, Some, None, refl, ap, arith, if◌then◌else◌}
use Rattle.std.specs.Prelude.{slice_get}
use Rattle.std.proofs.lemmas.Bool.{cases_lt}
use Rattle.std.proofs.lemmas.Bool.Decides.{nat_tests}
use Rattle.norm_lang.specs.declared.text.Place.{Place}
use Rattle.norm_lang.specs.declared.text.Place.TheVariants as places
use Rattle.norm_lang.specs.declared.text.CasEntry.{CasEntry}
use Rattle.norm_lang.specs.declared.text.Instr.{Instr}
use Rattle.norm_lang.specs.declared.text.Instr.TheVariants as instr
use Rattle.norm_lang.specs.declared.registers.Registers.{Registers}
use Rattle.norm_lang.specs.KindFields.{place_of}
use Rattle.target_code.specs.declared.target.TargetInstr.{TargetInstr}
use Rattle.target_code.specs.declared.target.TargetInstr.TheVariants.{Plain, Check, Guard}
use Rattle.target_code.specs.declared.target.Target.{Target}
use Rattle.oa_words.specs.declared.packed.Kind.TheVariants as kinds
use Rattle.oa_words.specs.Words.{Status, IsSlot}
use Rattle.oa_words.specs.Packed.{status_word}
use Rattle.guard_words.specs.Guards.{has_slot}
use Rattle.phase_pools.specs.declared.stages.SweepStage.{SweepStage}
use Rattle.phase_pools.specs.declared.stages.SweepStage.TheVariants as sweeps
use Rattle.phase_pools.specs.declared.stages.ClaimStage.{ClaimStage}
use Rattle.phase_pools.specs.declared.stages.ClaimStage.TheVariants as claims
use Rattle.phase_pools.specs.declared.stages.RetireStage.{RetireStage}
use Rattle.phase_pools.specs.declared.stages.RetireStage.TheVariants as retires
use Rattle.phase_pools.specs.Accesses.{WordAccess, word_of, word_after}
use Rattle.oa_words.specs.SlotKinds.{range_of, kind_of, range_at}
use Rattle.oa_words.specs.Starts.{first_ready}
use Rattle.phase_pools.specs.declared.stages.Scheme.{Scheme}
use Rattle.phase_pools.specs.declared.stages.Scheme.TheVariants.{Warned, Announced}
use Rattle.phase_pools.specs.Pools.{Sweep, warn_wanted, sweep_wants_at, claim_wants_at, retire_wants_at}
use Rattle.caller_parts.specs.declared.routine.Announcing.{Announcing}
use Rattle.caller_parts.specs.declared.routine.Announcing.TheVariants as announces
use Rattle.caller_parts.specs.declared.routine.Routine.{Routine}
use Rattle.caller_parts.specs.declared.routine.Routine.TheVariants.{Idle, LoadSeen, At, InList, Retires, Restarts, Clears, Claims, Zeroes, Announces}
use Rattle.caller_parts.specs.Settings.{Setting}
use Rattle.caller_steps.specs.Entries.{Entry, instr_in}
use Rattle.caller_parts.specs.Operands.{list_of, slot_in, word_in}
use Rattle.caller_steps.specs.Clearing.{restart_next, clear_next}
use Rattle.caller_steps.specs.Wants.{announcing_wanted, clear_wanted, exchange_wanted, instr_wanted, list_wanted, object_exchange, place_exchange, plain_wanted, wanted, wants}
use Rattle.claim_laws.specs.Untouched.{nodes_in, HeldNone, StageAvoids, RoutineAvoids, EntryAvoids}

-- ---- a status that stays

-- an access of a ready slot's status leaves the status as it was found
abbrev pub LeavesReady : ℕ → ℕ → Option WordAccess → Type 0
LeavesReady j first None = Unit {0}
LeavesReady j first (Some a) = word_of a ≡ Status j → word_after a (status_word first kinds.Ready) ≡ status_word first kinds.Ready

module _ (target : Target) (setting : Setting) (j : ℕ) where
  abbrev ready : ℕ
  ready = status_word setting.first kinds.Ready

  abbrev Leaves : Option WordAccess → Type 0
  Leaves o = LeavesReady j setting.first o

  exchange_leaves : (exchange : CasEntry) (registers : Registers) → Leaves (Some (exchange_wanted target.fields exchange registers))
  exchange_leaves exchange registers = of exchange.place where
    object : (k f expected replacement : ℕ) → Leaves (Some (object_exchange k f expected replacement))
    object zero f expected replacement is = refl
    object (suc k) f expected replacement is = absurd cc

    of : (place : Place) → Leaves (Some (place_exchange target.fields place registers (word_in registers exchange.expected) (word_in registers exchange.replacement)))
    of (places.Root x) is = absurd cc
    of (places.Field a f) is = object (slot_in registers a) (place_of target.fields f) (word_in registers exchange.expected) (word_in registers exchange.replacement) is

  plain_leaves : (i : Instr) (registers : Registers) → Leaves (plain_wanted target.fields i registers)
  plain_leaves (instr.LoadRoot d x) registers = λ is. refl
  plain_leaves (instr.LoadPick d x n a) registers = λ is. refl
  plain_leaves (instr.LoadField d a f) registers = λ is. refl
  plain_leaves (instr.Put a f b) registers = λ is. absurd cc
  plain_leaves (instr.Cas exchange l) registers = exchange_leaves exchange registers
  plain_leaves _ registers = tt

  instr_leaves : (c : ℕ) (o : Option TargetInstr) (registers : Registers) → Leaves (instr_wanted target.fields c o registers)
  instr_leaves c None registers = tt
  instr_leaves c (Some Check) registers = λ is. refl
  instr_leaves c (Some (Guard r)) registers = λ is. absurd cc
  instr_leaves c (Some (Plain i)) registers = plain_leaves i registers

  list_leaves : (o : Option CasEntry) (registers : Registers) → Leaves (list_wanted target.fields o registers)
  list_leaves None registers = tt
  list_leaves (Some exchange) registers = exchange_leaves exchange registers

  clear_leaves : (c : ℕ) (o : Option ℕ) → Leaves (clear_wanted c o)
  clear_leaves c None = tt
  clear_leaves c (Some r) = λ is. absurd cc

  same_slot : (a b : ℕ) → Status a ≡ Status b → a ≡ b
  same_slot a b is = cc

  retire_leaves : (slot : ℕ) (stage : RetireStage) → slot ≢ j → Leaves (Some (retire_wants_at slot stage))
  retire_leaves slot retires.ReadPhase other = λ is. refl
  retire_leaves slot (retires.StoreStatus p) other = λ is. absurd (other (same_slot slot j is))

  warn_leaves : (scheme : Scheme) (c s : ℕ) → Leaves (Some (warn_wanted scheme c s))
  warn_leaves Warned c s is = absurd cc
  warn_leaves (Announced own) c s is = refl

  -- no sweep makes ready what isn't retired
  sweep_leaves : (tops : ℕ) (scheme : Scheme) (bound : ℕ) (stage : SweepStage) → Leaves (Some (sweep_wants_at tops scheme stage bound))
  sweep_leaves tops scheme bound (sweeps.RaisePhase p) is = absurd cc
  sweep_leaves tops scheme bound (sweeps.Warn c) is = warn_leaves scheme c bound is
  sweep_leaves tops scheme bound (sweeps.MakeReady k q) is =
      let other : (ready == status_word q kinds.Retired) ≡ false = (let ne : 4 * setting.first + 0 ≢ 4 * q + 2 = (λ z. omega (arith, z)) in grind (arith, nat_tests)) in
      ap (λ (b : Bool). if b then status_word bound kinds.Ready else ready) other
  sweep_leaves tops scheme bound (sweeps.PushLink k q t) is = absurd cc
  sweep_leaves tops scheme bound (sweeps.PushTop kind k q t) is = absurd cc
  sweep_leaves tops scheme bound _ is = refl

  -- a claim stores in the status of the slot that it has taken
  claim_leaves : (tops k : ℕ) (sweep : Sweep) (stage : ClaimStage) → StageAvoids j stage → Leaves (Some (claim_wants_at tops k sweep stage))
  claim_leaves tops k sweep claims.ReadHead other is = refl
  claim_leaves tops k sweep (claims.ReadLink q t) other is = refl
  claim_leaves tops k sweep (claims.Take q t next) other is = absurd cc
  claim_leaves tops k sweep (claims.StoreUsed q t) other is = absurd (other (same_slot t j is))
  claim_leaves tops k sweep (claims.Withdraw own) other is = absurd cc
  claim_leaves tops k sweep claims.Sweeps other is = sweep_leaves tops sweep.scheme sweep.bound sweep.stage is

  announcing_leaves : (c : ℕ) (announcing : Announcing) → Leaves (Some (announcing_wanted c announcing))
  announcing_leaves c (announces.Loads why) is = refl
  announcing_leaves c _ is = absurd cc

  leaves_step : (e : Entry) (routine : Routine) → RoutineAvoids j routine → Leaves (wanted target e routine)
  leaves_step e Idle a = tt
  leaves_step e (LoadSeen why) a = λ is. refl
  leaves_step e At a = instr_leaves e.number (instr_in target e) e.hand.registers
  leaves_step e (InList k) a = list_leaves (slice_get (list_of (instr_in target e)) k) e.hand.registers
  leaves_step e (Retires retirement go) a = retire_leaves retirement.slot retirement.stage a
  leaves_step e Restarts a = clear_leaves e.number (restart_next target e)
  leaves_step e (Clears next) a = clear_leaves e.number (clear_next target next e)
  leaves_step e (Claims claim) a = claim_leaves claim.sweep.tops claim.kind claim.sweep claim.stage a.1
  leaves_step e (Zeroes k field) a = λ is. absurd cc
  leaves_step e (Announces announcing) a = announcing_leaves e.number announcing

  pub step_leaves_ready : (e : Entry) → EntryAvoids j e → Leaves (wants target e)
  unfolding wants
  step_leaves_ready e a = leaves_step e e.routine a.routine

-- ---- slots that were claimed

module _ (setting : Setting) where
  -- a slot that held an initial node, or was claimed
  abbrev pub IsTouched : List ℕ → ℕ → Type 0
  IsTouched taken j = (j < first_ready (range_at setting.sizes j) (nodes_in setting (kind_of setting.sizes j))) ⊎ (has_slot taken j ≡ true)

  -- neither
  abbrev pub IsUntaken : List ℕ → ℕ → Type 0
  IsUntaken taken j = HeldNone setting j × (j ≤ setting.sizes.slots) × (has_slot taken j ≡ false)

  pub held_some : (j : ℕ) → HeldNone setting j → 1 ≤ j
  held_some j past = omega (arith, past)

  pub touched_or : (taken : List ℕ) (j : ℕ) → j ≤ setting.sizes.slots → IsTouched taken j ⊎ IsUntaken taken j
  touched_or taken j le = ⊎_elim (λ (node : j < ready). inl (inl node)) (λ (past : ready ≤ j). of past (has_slot taken j) refl) (cases_lt j ready) where
    ready : ℕ
    ready = first_ready (range_at setting.sizes j) (nodes_in setting (kind_of setting.sizes j))

    of : ready ≤ j → (d : Bool) → has_slot taken j ≡ d → IsTouched taken j ⊎ IsUntaken taken j
    of past true has = inl (inr has)
    of past false has = inr (past, le, has)

  pub touched_more : (taken : List ℕ) (k j : ℕ) → IsTouched taken j → IsTouched (k ∷ taken) j
  touched_more taken k j (inl node) = inl node
  touched_more taken k j (inr has) = inr (of (k == j) (has_slot taken j) has) where
    of : (b d : Bool) → d ≡ true → (b || d) ≡ true
    of true d has = refl
    of false d has = has

  -- no other slot is untaken afterwards
  pub untaken_before : (taken : List ℕ) (k j : ℕ) → IsUntaken (k ∷ taken) j → IsUntaken taken j × (k ≢ j)
  untaken_before taken k j u = ((u.0, u.1, of (k == j) (has_slot taken j) u.2), (λ same. let is : (k == j) ≡ true = grind (arith, nat_tests) in no (k == j) (has_slot taken j) is u.2)) where
    of : (b d : Bool) → (b || d) ≡ false → d ≡ false
    of true d is = absurd (let z : true ≡ false = is in cc)
    of false d is = is

    no : (b d : Bool) → b ≡ true → (b || d) ≡ false → ⊥
    no true d is has = let z : true ≡ false = has in cc
    no false d is has = let z : false ≡ true = is in cc

  -- all slots of a kind
  abbrev pub AllTouched : ℕ → List ℕ → Type 0
  AllTouched k taken = (i : ℕ) → IsSlot (range_of setting.sizes k) i → IsTouched taken i
