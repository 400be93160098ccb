-- A slot whose status is used holds a name that isn't retired, or a caller is about to store 0 in its fields, or to retire it. What one
-- step makes of that.
use Rattle.std.proofs.Common.{ℕ, zero, suc, ◌≡◌, ◌≢◌, ◌==◌, ◌+◌, ◌⊎◌, ◌∙◌, Bool, true, false, List, [], ◌∷◌, set, Option, Some, None, arith, inl, inr, ⊎_elim, sym, ap, subst, refl, if◌then◌else◌}
use Rattle.std.specs.Prelude.{slice_get, slice_index, nat_lt}
use Rattle.std.proofs.lemmas.Bool.Decides.{nat_tests, eqb_tells}
use Rattle.norm_lang.specs.declared.text.Place.{Place}
use Rattle.norm_lang.specs.declared.text.Place.TheVariants as places
use Rattle.norm_lang.specs.declared.text.CasEntry.{CasEntry}
use Rattle.norm_lang.specs.declared.text.Instr.{Instr}
use Rattle.norm_lang.specs.declared.text.Instr.TheVariants as instr
use Rattle.norm_lang.specs.declared.registers.Registers.{Registers}
use Rattle.norm_lang.specs.declared.text.FieldDecl.{FieldDecl}
use Rattle.norm_lang.specs.KindFields.{place_of}
use Rattle.target_code.specs.declared.target.TargetInstr.{TargetInstr}
use Rattle.target_code.specs.declared.target.TargetInstr.TheVariants.{Plain}
use Rattle.oa_words.specs.declared.packed.Kind.{Kind}
use Rattle.oa_words.specs.declared.packed.Kind.TheVariants as kinds
use Rattle.oa_words.specs.Words.{Word, Phase, Warning, Hazard, Status, FieldOf, Head, Link}
use Rattle.oa_words.specs.Packed.{status_word, head_word}
use Rattle.oa_words.specs.Memories.{store}
use Rattle.phase_pools.specs.declared.access.ClaimEnd.TheVariants as ends
use Rattle.phase_pools.specs.declared.stages.Scheme.{Scheme}
use Rattle.phase_pools.specs.declared.stages.Scheme.TheVariants.{Warned, Announced}
use Rattle.phase_pools.specs.declared.stages.SweepStage.{SweepStage}
use Rattle.phase_pools.specs.declared.stages.SweepStage.TheVariants as sweeps
use Rattle.phase_pools.specs.declared.stages.ClaimStage.{ClaimStage}
use Rattle.phase_pools.specs.declared.stages.ClaimStage.TheVariants as claims
use Rattle.phase_pools.specs.declared.stages.RetireStage.{RetireStage}
use Rattle.phase_pools.specs.declared.stages.RetireStage.TheVariants as retires
use Rattle.phase_pools.specs.Accesses.{WordAccess, Loads, Stores, Exchanges, Raises, word_of}
use Rattle.phase_pools.specs.Pools.{Claim, claim_wants_at, warn_wanted, sweep_wants_at, claim_accepts_at, claim_ends, takes_at, retire_wants_at, retire_accepts_at}
use Rattle.source_machine.specs.MethodRuns.{put}
use Rattle.source_machine.specs.Proper.{has}
use Rattle.source_machine.proofs.Places.{put_same, put_other}
use Rattle.caller_parts.specs.declared.routine.AfterRetire.{AfterRetire}
use Rattle.caller_parts.specs.declared.routine.Routine.{Routine}
use Rattle.caller_parts.specs.declared.routine.Routine.TheVariants.{Idle, LoadSeen, At, InList, Retires, Restarts, Clears, Claims, Zeroes, Announces}
use Rattle.caller_steps.specs.Entries.{Entry, instr_in, cradle_of, new_number, zero_count}
use Rattle.caller_parts.specs.Operands.{list_of, slot_in, word_in}
use Rattle.caller_steps.specs.Clearing.{restart_next, clear_next}
use Rattle.caller_steps.specs.Signs.{Moved, quiet}
use Rattle.caller_steps.specs.Wants.{announcing_wanted, clear_wanted, exchange_wanted, instr_wanted, list_wanted, object_exchange, place_exchange, plain_wanted, wanted}
use Rattle.caller_steps.specs.After.{accepted, counted, claim_counted, claimed, node_made, retired_on, slot_claimed, with_routine}
use Rattle.oa_simulation.specs.sim_relation.Views.{Plan, Shared, Caller}
use Rattle.oa_simulation.specs.sim_relation.Shared.{SharedHolds}
use Rattle.oa_simulation.specs.sim_relation.Callers.{CallerHolds, HoldsAt}
use Rattle.oa_simulation.specs.sim_relation.Naming.{emptied_at, freed_in, named_at, present_at}
use Rattle.oa_simulation.specs.sim_relation.Steps.{GoesToRetire}
use Rattle.oa_simulation.proofs.sim_relation.Words.{store_again}
use Rattle.chain_laws.proofs.Routines.{status_tells}
use Rattle.chain_laws.specs.Chains.{IsOf}
use Rattle.chain_laws.specs.Memories.{after_access}
use Rattle.caller_parts.specs.declared.setting.Reclamation.TheVariants.{Optimistic}
use Rattle.caller_parts.specs.declared.routine.Announcing.{Announcing}
use Rattle.caller_parts.specs.declared.routine.Announcing.TheVariants as announces

-- a slot holds a name that isn't retired
abbrev pub IsNamed : Shared → ℕ → Type 0
IsNamed s j = (s.present j ≢ 0) × (has (s.present j) s.source.retired ≡ false)

-- the caller has a slot in a cradle whose `new` stores 0 in its fields, or in its retire routine
abbrev pub WorksAt : Entry → Routine → ℕ → Type 0
WorksAt e (Retires retirement go) j = retirement.slot ≡ j
WorksAt e (Zeroes k field) j = cradle_of e k ≡ j
WorksAt e _ j = ⊥

abbrev pub Works : Entry → ℕ → Type 0
Works e j = WorksAt e e.routine j

-- ---- what an access leaves of a status

abbrev Leaves : (Word → ℕ) → ℕ → Option WordAccess → Type 0
Leaves m j None = Unit {0}
Leaves m j (Some a) = after_access m a (Status j) ≡ m (Status j)

module _ (m : Word → ℕ) (j : ℕ) where
  exchange_leaves : (fields : List FieldDecl) (exchange : CasEntry) (registers : Registers) → Leaves m j (Some (exchange_wanted fields exchange registers))
  exchange_leaves fields exchange registers = of exchange.place where
    object : (k f expected replacement : ℕ) → Leaves m j (Some (object_exchange k f expected replacement))
    object zero f expected replacement = refl
    object (suc k) f expected replacement = refl

    of : (place : Place) → Leaves m j (Some (place_exchange fields place registers (word_in registers exchange.expected) (word_in registers exchange.replacement)))
    of (places.Root x) = refl
    of (places.Field a f) = object (slot_in registers a) (place_of fields f) (word_in registers exchange.expected) (word_in registers exchange.replacement)

  plain_leaves : (fields : List FieldDecl) (i : Instr) (registers : Registers) → Leaves m j (plain_wanted fields i registers)
  plain_leaves fields (instr.LoadRoot d x) registers = refl
  plain_leaves fields (instr.LoadPick d x n a) registers = refl
  plain_leaves fields (instr.LoadField d a f) registers = refl
  plain_leaves fields (instr.Put a f b) registers = refl
  plain_leaves fields (instr.Cas exchange l) registers = exchange_leaves fields exchange registers
  plain_leaves fields _ registers = tt

  instr_leaves : (fields : List FieldDecl) (c : ℕ) (o : Option TargetInstr) (registers : Registers) → Leaves m j (instr_wanted fields c o registers)
  instr_leaves fields c None registers = tt
  instr_leaves fields c (Some (Plain i)) registers = plain_leaves fields i registers
  instr_leaves fields c _ registers = refl

  list_leaves : (fields : List FieldDecl) (o : Option CasEntry) (registers : Registers) → Leaves m j (list_wanted fields o registers)
  list_leaves fields None registers = tt
  list_leaves fields (Some exchange) registers = exchange_leaves fields exchange registers

  clear_leaves : (c : ℕ) (o : Option ℕ) → Leaves m j (clear_wanted c o)
  clear_leaves c None = tt
  clear_leaves c (Some r) = refl

  announcing_leaves : (c : ℕ) (announcing : Announcing) → Leaves m j (Some (announcing_wanted c announcing))
  announcing_leaves c (announces.Loads why) = refl
  announcing_leaves c _ = refl

  -- a store in the status of another slot
  other_leaves : (i word : ℕ) → j ≢ i → store m (Status i) word (Status j) ≡ m (Status j)
  other_leaves i word ne = let away : (j == i) ≡ false = grind (arith, nat_tests) in rw away refl

  status_there : (i word : ℕ) → j ≡ i → store m (Status i) word (Status j) ≡ word
  status_there i word same = let here : (j == i) ≡ true = grind (arith, nat_tests) in rw here refl

-- a cradle that has a slot after it was filled has that one
filled : (xs : List ℕ) (k slot : ℕ) → slice_index (set xs k slot) k ≢ 0 → slice_index (set xs k slot) k ≡ slot
filled [] k slot some = absurd (some refl)
filled (x ∷ xs) zero slot some = refl
filled (x ∷ xs) (suc k) slot some = filled xs k slot some

-- ---- a step that is kept

-- what is used of it here: what holds of what is shared and of its caller afterwards, and which names it retires
pub record Kept (t : Plan) (c : ℕ) (s : Shared) (memory' : Word → ℕ) (m : Moved) (present' : ℕ → ℕ) : Type 0 where
  pub s' : Shared
  pub x' : Caller
  pub memory : s'.memory ≡ memory'
  pub present : s'.present ≡ present'
  pub entry : x'.entry ≡ m.entry
  pub shared_holds : SharedHolds t s'
  pub retires : (n : ℕ) → has n s'.source.retired ≡ true → (has n s.source.retired ≡ true) ⊎ GoesToRetire t m.entry.routine n
  pub caller_holds : CallerHolds t s' c x'

module _ (t : Plan) (c : ℕ) (s : Shared) (x : Caller) (memory' : Word → ℕ) (m : Moved) (present' : ℕ → ℕ) (k : Kept t c s memory' m present') (Other : Type 0) (j : ℕ) where
  -- after it
  abbrev Now : Type 0
  Now = IsNamed k.s' j ⊎ (Works k.x'.entry j ⊎ Other)

  works_on : Works m.entry j → Now
  works_on works = inr (inl (subst (λ (e : Entry). Works e j) (sym k.entry) works))

  -- a name that wasn't retired before is so still, or its slot is the one that the caller goes on to retire
  named_on : k.s'.present j ≢ 0 → has (k.s'.present j) s.source.retired ≡ false → Now
  named_on some alive = of (has (k.s'.present j) k.s'.source.retired) refl where
    works : GoesToRetire t m.entry.routine (k.s'.present j) → Works m.entry j
    works goes = subst (λ (r : Routine). WorksAt m.entry r j) (sym goes.1) (k.shared_holds.home j some)

    of : (b : Bool) → has (k.s'.present j) k.s'.source.retired ≡ b → Now
    of false is = inl (some, is)
    of true is = ⊎_elim
        (λ (was : has (k.s'.present j) s.source.retired ≡ true). absurd (let no : false ≡ true = sym alive ∙ was in cc))
        (λ (goes : GoesToRetire t m.entry.routine (k.s'.present j)). works_on (works goes))
        (k.retires (k.s'.present j) is)

  same_named : present' j ≡ s.present j → IsNamed s j → Now
  same_named same named =
      let is : k.s'.present j ≡ s.present j = ap (λ (present : ℕ → ℕ). present j) k.present ∙ same in
      named_on (λ z. named.0 (sym is ∙ z)) (ap (λ (n : ℕ). has n s.source.retired) is ∙ named.1)

  -- the slot's status was used before, if the step leaves it
  used_before : memory' (Status j) ≡ s.memory (Status j) → IsOf kinds.Used (k.s'.memory (Status j)) → IsOf kinds.Used (s.memory (Status j))
  used_before same used = subst (IsOf kinds.Used) (ap (λ (memory : Word → ℕ). memory (Status j)) k.memory ∙ same) used

  -- nobody but others worked on it, and it has the name that it had
  still : memory' (Status j) ≡ s.memory (Status j) → present' j ≡ s.present j → (IsOf kinds.Used (s.memory (Status j)) → IsNamed s j ⊎ (⊥ ⊎ Other)) → IsOf kinds.Used (k.s'.memory (Status j)) → Now
  still status name before used = ⊎_elim
      (λ (named : IsNamed s j). same_named name named)
      (λ (works : ⊥ ⊎ Other). ⊎_elim (λ (no : ⊥). absurd no) (λ (other : Other). inr (inr other)) works)
      (before (used_before status used))

  -- its status isn't used afterwards
  unused : (q : ℕ) (kind : Kind) → memory' (Status j) ≡ status_word q kind → (kind ≡ kinds.Used → ⊥) → IsOf kinds.Used (k.s'.memory (Status j)) → Now
  unused q kind status ne used = absurd (ne (status_tells q used.0 kind kinds.Used (sym status ∙ (sym (ap (λ (memory : Word → ℕ). memory (Status j)) k.memory) ∙ used.1))).1)

-- ---- by where the caller stands

module _ (t : Plan) (c : ℕ) (s : Shared) (x : Caller) (memory' : Word → ℕ) (m : Moved) (present' : ℕ → ℕ) (k : Kept t c s memory' m present') (holds : SharedHolds t s) (Other : Type 0) (j : ℕ) where
  abbrev After : Type 0
  After = IsOf kinds.Used (k.s'.memory (Status j)) → IsNamed k.s' j ⊎ (Works k.x'.entry j ⊎ Other)

  abbrev Before : Type 0 → Type 0
  Before Working = IsOf kinds.Used (s.memory (Status j)) → IsNamed s j ⊎ (Working ⊎ Other)

  left : (o : Option WordAccess) (a : WordAccess) → o ≡ Some a → Leaves s.memory j o → memory' ≡ after_access s.memory a → memory' (Status j) ≡ s.memory (Status j)
  left o a is leaves makes = ap (λ (memory : Word → ℕ). memory (Status j)) makes ∙ subst (Leaves s.memory j) is leaves

  idle_store : (i : ℕ) → memory' ≡ store s.memory (Status i) (s.memory (Status i)) → memory' (Status j) ≡ s.memory (Status j)
  idle_store i makes = ap (λ (memory : Word → ℕ). memory (Status j)) makes ∙ store_again s.memory (Status i) (Status j)

  other_store : (i word : ℕ) → j ≢ i → memory' ≡ store s.memory (Status i) word → memory' (Status j) ≡ s.memory (Status j)
  other_store i word ne makes = ap (λ (memory : Word → ℕ). memory (Status j)) makes ∙ other_leaves s.memory j i word ne

  own_store : (i word : ℕ) → j ≡ i → memory' ≡ store s.memory (Status i) word → memory' (Status j) ≡ word
  own_store i word same makes = ap (λ (memory : Word → ℕ). memory (Status j)) makes ∙ status_there s.memory j i word same

  named_as : present' ≡ s.present → present' j ≡ s.present j
  named_as is = ap (λ (present : ℕ → ℕ). present j) is

  quietly : memory' (Status j) ≡ s.memory (Status j) → present' ≡ s.present → Before ⊥ → After
  quietly status names before = still t c s x memory' m present' k Other j status (named_as names) before

  -- the slot that a claim has taken goes into the cradle of the `new`
  taken : (i : ℕ) → m.entry ≡ slot_claimed t.target i (with_routine (claim_counted false (counted x.entry)) At) → j ≡ i → After
  taken i made same used =
      let number : ℕ = new_number t.target (with_routine (claim_counted false (counted x.entry)) At) in
      let at : k.x'.entry.routine ≡ Zeroes number 0 = ap (λ (e : Entry). e.routine) (k.entry ∙ made) in
      let spot : HoldsAt t k.s' c k.x' (Zeroes number 0) = subst (λ (r : Routine). HoldsAt t k.s' c k.x' r) at k.caller_holds.spot in
      let full : slice_index (set x.entry.cradles number i) number ≢ 0 = λ z. spot.0 (ap (λ (e : Entry). cradle_of e number) (k.entry ∙ made) ∙ z) in
      works_on t c s x memory' m present' k Other j (subst (λ (e : Entry). Works e j) (sym made) (filled x.entry.cradles number i full ∙ sym same))

  by_used : (claim : Claim) (i q : ℕ) → memory' ≡ store s.memory (Status i) (status_word q kinds.Used) → m ≡ claimed Optimistic t.target (claim_ends claim (ends.Claimed i)) (claim_counted false (counted x.entry)) → present' ≡ s.present → Before ⊥ → After
  by_used claim i q makes moves names before = ⊎_elim
      (λ (same : ((j == i) ≡ true) × (j ≡ i)). taken i (ap (λ (moved : Moved). moved.entry) moves) same.1)
      (λ (away : ((j == i) ≡ false) × (j ≢ i)). quietly (other_store i (status_word q kinds.Used) away.1 makes) names before)
      (eqb_tells j i)

  -- a sweep makes a slot ready, and takes its name
  by_freeing : (i q bound : ℕ) → memory' ≡ after_access s.memory (Exchanges (Status i) (status_word q kinds.Retired) (status_word bound kinds.Ready))
      → present' ≡ (if s.memory (Status i) == status_word q kinds.Retired then put s.present i 0 else s.present) → Before ⊥ → After
  by_freeing i q bound makes names before = of (s.memory (Status i) == status_word q kinds.Retired) makes names where
    of : (b : Bool) → memory' ≡ store s.memory (Status i) (if b then status_word bound kinds.Ready else s.memory (Status i)) → present' ≡ (if b then put s.present i 0 else s.present) → After
    of false makes names = quietly (idle_store i makes) names before
    of true makes names = ⊎_elim
        (λ (same : ((j == i) ≡ true) × (j ≡ i)). unused t c s x memory' m present' k Other j bound kinds.Ready (own_store i (status_word bound kinds.Ready) same.1 makes) (λ e. cc))
        (λ (away : ((j == i) ≡ false) × (j ≢ i)).
        still t c s x memory' m present' k Other j (other_store i (status_word bound kinds.Ready) away.1 makes) (ap (λ (present : ℕ → ℕ). present j) names ∙ put_other s.present i j 0 away.1) before)
        (eqb_tells j i)

  by_warning : (scheme : Scheme) (d bound : ℕ) → memory' ≡ after_access s.memory (warn_wanted scheme d bound) → present' ≡ s.present → Before ⊥ → After
  by_warning Warned d bound makes names before = quietly (left (Some (Raises (Warning d) bound)) (Raises (Warning d) bound) refl refl makes) names before
  by_warning (Announced own) d bound makes names before = quietly (left (Some (Loads (Warning d))) (Loads (Warning d)) refl refl makes) names before

  by_sweep : (tops : ℕ) (scheme : Scheme) (stage : SweepStage) (bound : ℕ) → memory' ≡ after_access s.memory (sweep_wants_at tops scheme stage bound) → present' ≡ freed_in claims.Sweeps stage s.memory s.present → Before ⊥ → After
  by_sweep tops scheme sweeps.ReadPhase bound makes names before = quietly (left (Some (Loads Phase)) (Loads Phase) refl refl makes) names before
  by_sweep tops scheme (sweeps.RaisePhase p) bound makes names before = quietly (left (Some (Exchanges Phase p (p + 1))) (Exchanges Phase p (p + 1)) refl refl makes) names before
  by_sweep tops scheme (sweeps.Warn d) bound makes names before = by_warning scheme d bound makes names before
  by_sweep tops scheme (sweeps.ReadHazard d r) bound makes names before = quietly (left (Some (Loads (Hazard d r))) (Loads (Hazard d r)) refl refl makes) names before
  by_sweep tops scheme (sweeps.ReadStatus i) bound makes names before = quietly (idle_store i makes) names before
  by_sweep tops scheme (sweeps.MakeReady i q) bound makes names before = by_freeing i q bound makes names before
  by_sweep tops scheme (sweeps.PushHead h i) bound makes names before = quietly (left (Some (Loads (Head h))) (Loads (Head h)) refl refl makes) names before
  by_sweep tops scheme (sweeps.PushLink i q top) bound makes names before = quietly (left (Some (Stores (Link i) top)) (Stores (Link i) top) refl refl makes) names before
  by_sweep tops scheme (sweeps.PushTop h i q top) bound makes names before =
      quietly (left (Some (sweep_wants_at tops scheme (sweeps.PushTop h i q top) bound)) (sweep_wants_at tops scheme (sweeps.PushTop h i q top) bound) refl refl makes) names before

  by_claim : (claim : Claim) (stage : ClaimStage) → claim.stage ≡ stage → memory' ≡ after_access s.memory (claim_wants_at claim.sweep.tops claim.kind claim.sweep stage)
      → m ≡ claimed Optimistic t.target (claim_accepts_at t.setting.sizes t.setting.last claim (s.memory (word_of (claim_wants_at claim.sweep.tops claim.kind claim.sweep stage))) stage) (claim_counted (takes_at t.setting.sizes.tops stage (s.memory (word_of (claim_wants_at claim.sweep.tops claim.kind claim.sweep stage)))) (counted x.entry))
      → present' ≡ freed_in stage claim.sweep.stage s.memory s.present → Before ⊥ → After
  by_claim claim claims.ReadHead at makes moves names before = quietly (left (Some (Loads (Head claim.kind))) (Loads (Head claim.kind)) refl refl makes) names before
  by_claim claim (claims.ReadLink q i) at makes moves names before = quietly (left (Some (Loads (Link i))) (Loads (Link i)) refl refl makes) names before
  by_claim claim (claims.Take q i next) at makes moves names before = quietly (left (Some (Exchanges (Head claim.kind) (head_word claim.sweep.tops q i) (head_word claim.sweep.tops q next))) (Exchanges (Head claim.kind) (head_word claim.sweep.tops q i) (head_word claim.sweep.tops q next)) refl refl makes) names before
  by_claim claim (claims.StoreUsed q i) at makes moves names before = by_used claim i q makes moves names before
  by_claim claim (claims.Withdraw own) at makes moves names before = quietly (left (Some (Stores (Warning own) 0)) (Stores (Warning own) 0) refl refl makes) names before
  by_claim claim claims.Sweeps at makes moves names before = by_sweep claim.sweep.tops claim.sweep.scheme claim.sweep.stage claim.sweep.bound makes names before

  -- a retirement: the slot is the caller's until its status is retired
  by_retirement : (slot : ℕ) (stage : RetireStage) (go : AfterRetire) → memory' ≡ after_access s.memory (retire_wants_at slot stage)
      → m ≡ retired_on Optimistic t.target t.setting.sizes go (retire_accepts_at slot (s.memory (word_of (retire_wants_at slot stage))) stage) (counted x.entry) → present' ≡ s.present → Before (slot ≡ j) → After
  by_retirement slot retires.ReadPhase go makes moves names before used = ⊎_elim
      (λ (named : IsNamed s j). same_named t c s x memory' m present' k Other j (named_as names) named)
      (λ (works : (slot ≡ j) ⊎ Other). ⊎_elim (λ (same : slot ≡ j). works_on t c s x memory' m present' k Other j (subst (λ (moved : Moved). Works moved.entry j) (sym moves) same)) (λ (other : Other). inr (inr other)) works)
      (before (used_before t c s x memory' m present' k Other j (left (Some (Loads Phase)) (Loads Phase) refl refl makes) used))
  by_retirement slot (retires.StoreStatus p) go makes moves names before used = ⊎_elim
      (λ (same : ((j == slot) ≡ true) × (j ≡ slot)). unused t c s x memory' m present' k Other j p kinds.Retired (own_store slot (status_word p kinds.Retired) same.1 makes) (λ e. cc) used)
      (λ (away : ((j == slot) ≡ false) × (j ≢ slot)). quietly (other_store slot (status_word p kinds.Retired) away.1 makes) names
      (λ was. ⊎_elim (λ (named : IsNamed s j). inl named) (λ (works : (slot ≡ j) ⊎ Other). ⊎_elim (λ (same : slot ≡ j). absurd (away.1 (sym same))) (λ (other : Other). inr (inr other)) works) (before was)) used)
      (eqb_tells j slot)

  -- a store of 0 of a `new`: with the last one the slot gets a name
  emptied_other : (field slot : ℕ) → j ≢ slot → emptied_at field slot s.present j ≡ s.present j
  emptied_other zero slot away = put_other s.present slot j 0 away
  emptied_other (suc field) slot away = refl

  by_zero : (i field : ℕ) → memory' ≡ after_access s.memory (Stores (FieldOf (cradle_of x.entry i) field) 0)
      → m ≡ (if nat_lt (field + 1) (zero_count t.target (instr_in t.target x.entry)) then quiet (with_routine (counted x.entry) (Zeroes i (field + 1))) else node_made Optimistic t.target t.setting.sizes (cradle_of x.entry i) (counted x.entry))
      → present' ≡ named_at (nat_lt (field + 1) (zero_count t.target (instr_in t.target x.entry))) (cradle_of x.entry i) s.unused (emptied_at field (cradle_of x.entry i) s.present) → Before (cradle_of x.entry i ≡ j) → After
  by_zero i field makes moves names before used = ⊎_elim
      (λ (same : ((j == cradle_of x.entry i) ≡ true) × (j ≡ cradle_of x.entry i)). here (nat_lt (field + 1) (zero_count t.target (instr_in t.target x.entry))) same.1 moves names)
      (λ (away : ((j == cradle_of x.entry i) ≡ false) × (j ≢ cradle_of x.entry i)). still t c s x memory' m present' k Other j status (elsewhere away.1 (nat_lt (field + 1) (zero_count t.target (instr_in t.target x.entry))) names)
      (λ was. ⊎_elim (λ (named : IsNamed s j). inl named) (λ (works : (cradle_of x.entry i ≡ j) ⊎ Other). ⊎_elim (λ (same : cradle_of x.entry i ≡ j). absurd (away.1 (sym same))) (λ (other : Other). inr (inr other)) works) (before was)) used)
      (eqb_tells j (cradle_of x.entry i)) where
        status : memory' (Status j) ≡ s.memory (Status j)
        status = left (Some (Stores (FieldOf (cradle_of x.entry i) field) 0)) (Stores (FieldOf (cradle_of x.entry i) field) 0) refl refl makes

        elsewhere : j ≢ cradle_of x.entry i → (b : Bool) → present' ≡ named_at b (cradle_of x.entry i) s.unused (emptied_at field (cradle_of x.entry i) s.present) → present' j ≡ s.present j
        elsewhere away true names = ap (λ (present : ℕ → ℕ). present j) names ∙ emptied_other field (cradle_of x.entry i) away
        elsewhere away false names = ap (λ (present : ℕ → ℕ). present j) names ∙ (put_other (emptied_at field (cradle_of x.entry i) s.present) (cradle_of x.entry i) j s.unused away ∙ emptied_other field (cradle_of x.entry i) away)

        here : (b : Bool) → j ≡ cradle_of x.entry i → m ≡ (if b then quiet (with_routine (counted x.entry) (Zeroes i (field + 1))) else node_made Optimistic t.target t.setting.sizes (cradle_of x.entry i) (counted x.entry))
            → present' ≡ named_at b (cradle_of x.entry i) s.unused (emptied_at field (cradle_of x.entry i) s.present) → IsNamed k.s' j ⊎ (Works k.x'.entry j ⊎ Other)
        here true same moves names = works_on t c s x memory' m present' k Other j (subst (λ (moved : Moved). Works moved.entry j) (sym moves) (sym same))
        here false same moves names =
            let drawn : k.s'.present j ≡ s.unused =
            ap (λ (present : ℕ → ℕ). present j) (k.present ∙ names) ∙ (ap (put (emptied_at field (cradle_of x.entry i) s.present) (cradle_of x.entry i) s.unused) same ∙ put_same (emptied_at field (cradle_of x.entry i) s.present) (cradle_of x.entry i) s.unused) in
            let some = holds.unused_some in
            named_on t c s x memory' m present' k Other j (λ z. (let none : s.unused ≡ 0 = sym drawn ∙ z in omega (arith, some, none)))
            (ap (λ (n : ℕ). has n s.source.retired) drawn ∙ (holds.unused s.unused (omega arith)).1)

  -- each step
  by_routine : (r : Routine) (a : WordAccess) → wanted t.target x.entry r ≡ Some a → memory' ≡ after_access s.memory a → m ≡ accepted Optimistic t.target t.setting (s.memory (word_of a)) (counted x.entry) r
      → present' ≡ present_at t.target s.memory s.unused x.entry r s.present → Before (WorksAt x.entry r j) → After
  by_routine Idle a want makes moves names before = absurd (let no : None ≡ Some a = want in cc)
  by_routine (LoadSeen why) a want makes moves names before = quietly (left (Some (Loads (Warning x.entry.number))) a want refl makes) names before
  by_routine At a want makes moves names before = quietly (left (instr_wanted t.target.fields x.entry.number (instr_in t.target x.entry) x.entry.hand.registers) a want (instr_leaves s.memory j t.target.fields x.entry.number (instr_in t.target x.entry) x.entry.hand.registers) makes) names before
  by_routine (InList i) a want makes moves names before =
      quietly (left (list_wanted t.target.fields (slice_get (list_of (instr_in t.target x.entry)) i) x.entry.hand.registers) a want (list_leaves s.memory j t.target.fields (slice_get (list_of (instr_in t.target x.entry)) i) x.entry.hand.registers) makes) names before
  by_routine (Retires retirement go) a want makes moves names before =
      let same : retire_wants_at retirement.slot retirement.stage ≡ a = (let both : Some (retire_wants_at retirement.slot retirement.stage) ≡ Some a = want in cc) in
      by_retirement retirement.slot retirement.stage go (makes ∙ ap (after_access s.memory) (sym same))
      (moves ∙ ap (λ (a : WordAccess). retired_on Optimistic t.target t.setting.sizes go (retire_accepts_at retirement.slot (s.memory (word_of a)) retirement.stage) (counted x.entry)) (sym same)) names before
  by_routine Restarts a want makes moves names before = quietly (left (clear_wanted x.entry.number (restart_next t.target x.entry)) a want (clear_leaves s.memory j x.entry.number (restart_next t.target x.entry)) makes) names before
  by_routine (Clears next) a want makes moves names before = quietly (left (clear_wanted x.entry.number (clear_next t.target next x.entry)) a want (clear_leaves s.memory j x.entry.number (clear_next t.target next x.entry)) makes) names before
  by_routine (Claims claim) a want makes moves names before =
      let same : claim_wants_at claim.sweep.tops claim.kind claim.sweep claim.stage ≡ a = (let both : Some (claim_wants_at claim.sweep.tops claim.kind claim.sweep claim.stage) ≡ Some a = want in cc) in
      by_claim claim claim.stage refl (makes ∙ ap (after_access s.memory) (sym same))
      (moves ∙ ap (λ (a : WordAccess). claimed Optimistic t.target (claim_accepts_at t.setting.sizes t.setting.last claim (s.memory (word_of a)) claim.stage) (claim_counted (takes_at t.setting.sizes.tops claim.stage (s.memory (word_of a))) (counted x.entry))) (sym same)) names before
  by_routine (Zeroes i field) a want makes moves names before =
      let same : Stores (FieldOf (cradle_of x.entry i) field) 0 ≡ a = (let both : Some (Stores (FieldOf (cradle_of x.entry i) field) 0) ≡ Some a = want in cc) in
      by_zero i field (makes ∙ ap (after_access s.memory) (sym same)) moves names before
  by_routine (Announces announcing) a want makes moves names before =
      quietly (left (Some (announcing_wanted x.entry.number announcing)) a want (announcing_leaves s.memory j x.entry.number announcing) makes) names before

-- what a step makes of it, as the simulation keeps the step
pub step_settles : (t : Plan) (c : ℕ) (s : Shared) (x : Caller) (a : WordAccess) → SharedHolds t s → wanted t.target x.entry x.entry.routine ≡ Some a
    → (k : Kept t c s (after_access s.memory a) (accepted Optimistic t.target t.setting (s.memory (word_of a)) (counted x.entry) x.entry.routine) (present_at t.target s.memory s.unused x.entry x.entry.routine s.present))
    → (Other : Type 0) (j : ℕ) → (IsOf kinds.Used (s.memory (Status j)) → IsNamed s j ⊎ (Works x.entry j ⊎ Other)) → IsOf kinds.Used (k.s'.memory (Status j)) → IsNamed k.s' j ⊎ (Works k.x'.entry j ⊎ Other)
step_settles t c s x a holds want k Other j before =
    by_routine t c s x (after_access s.memory a) (accepted Optimistic t.target t.setting (s.memory (word_of a)) (counted x.entry) x.entry.routine) (present_at t.target s.memory s.unused x.entry x.entry.routine s.present) k holds Other j
    x.entry.routine a want refl refl refl before
