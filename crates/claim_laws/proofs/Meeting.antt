-- What a caller finds and what it writes, if neither fields, roots nor guards name a slot.
use Rattle.std.proofs.Common.{◌≡◌, ◌≢◌, ℕ, zero, suc, ◌+◌, ◌≤◌, ◌<◌, ◌==◌, ◌&&◌, ◌||◌, Bool, true, false, List, [], ◌∷◌, length, Option, Some, None, refl, sym, ◌∙◌, subst, ap, arith, ⊎_elim, if◌then◌else◌}
use Rattle.std.specs.Prelude.{slice_get, nat_le, nat_lt, option_map}
use Rattle.std.specs.List.{All, list_any, list_all}
use Rattle.std.proofs.lemmas.Bool.Decides.{nat_tests}
use Rattle.std.proofs.lemmas.Bool.{or_parts, not-false, and_parts}
use Rattle.norm_lang.specs.declared.text.Reg.{Reg}
use Rattle.norm_lang.specs.declared.text.FieldKind.{FieldKind}
use Rattle.norm_lang.specs.declared.text.FieldKind.TheVariants as holdings
use Rattle.norm_lang.specs.declared.text.FieldDecl.{FieldDecl}
use Rattle.norm_lang.specs.declared.text.Place.{Place}
use Rattle.norm_lang.specs.declared.text.Place.TheVariants as places
use Rattle.norm_lang.specs.declared.text.CasEntry.{CasEntry}
use Rattle.norm_lang.specs.declared.text.Instr.{Instr}
use Rattle.norm_lang.specs.declared.text.Instr.TheVariants as instr
use Rattle.norm_lang.specs.declared.registers.Registers.{Registers}
use Rattle.norm_lang.specs.Registers.{number_in}
use Rattle.norm_lang.specs.InstructionRules.{holds_number, is_unlike, field_kind, root_kind, place_kind, has_wrong_object, has_wrong_operand, are_roots_of_one_kind}
use Rattle.norm_lang.specs.Kinds.{asks, asks_object}
use Rattle.norm_lang.specs.KindFields.{fields_of, place_of}
use Rattle.norm_lang.specs.Limits.{is_register, is_place, is_retire, is_entry}
use Rattle.norm_lang.proofs.FieldPlaces.{place_finds}
use Rattle.norm_lang.specs.Local.{remainder}
use Rattle.target_code.specs.declared.target.TargetInstr.{TargetInstr}
use Rattle.target_code.specs.declared.target.TargetInstr.TheVariants.{Plain, Check, Guard}
use Rattle.target_code.specs.declared.target.Target.{Target}
use Rattle.oa_words.specs.declared.packed.Kind.TheVariants as statuses
use Rattle.oa_words.specs.Words.{Sizes, Word, FieldOf, Cell}
use Rattle.oa_words.specs.Packed.{slot_part, StatusParts, status_parts, status_word, HeadParts, head_parts, head_word}
use Rattle.phase_pools.specs.declared.access.ClaimEnd.TheVariants as ends
use Rattle.phase_pools.specs.declared.access.SweepEnd.{SweepEnd}
use Rattle.phase_pools.specs.declared.access.SweepEnd.TheVariants as swept
use Rattle.phase_pools.specs.declared.stages.SweepStage.{SweepStage}
use Rattle.phase_pools.specs.declared.stages.SweepStage.TheVariants as sweeps
use Rattle.phase_pools.specs.declared.stages.ClaimStage.{ClaimStage}
use Rattle.phase_pools.specs.declared.stages.ClaimStage.TheVariants as claims
use Rattle.phase_pools.specs.declared.stages.RetireStage.{RetireStage}
use Rattle.phase_pools.specs.declared.stages.RetireStage.TheVariants as retires
use Rattle.phase_pools.specs.Accesses.{WordAccess, word_of, word_after, Exchanges}
use Rattle.oa_words.specs.SlotKinds.{kind_of}
use Rattle.phase_pools.specs.declared.stages.Scheme.{Scheme}
use Rattle.phase_pools.specs.declared.stages.Scheme.TheVariants.{Warned, Announced}
use Rattle.phase_pools.specs.Pools.{Sweep, warn_wanted, sweep_follows, sweep_goes, sweep_ends, sweep_on, sweep_accepts, sweep_accepts_at, sweep_wants_at, status_read, Claim, ClaimTurn, claim_accepts_at, claim_goes, claim_ends, claim_wants_at, look_begun, sweep_ended, retire_wants_at}
use Rattle.phase_pools.proofs.Statuses.{from_slot, from_status}
use Rattle.caller_parts.specs.declared.routine.Announcing.{Announcing}
use Rattle.caller_parts.specs.declared.routine.Announcing.TheVariants as announces
use Rattle.caller_parts.specs.declared.routine.Routine.{Routine}
use Rattle.caller_parts.specs.declared.routine.Routine.TheVariants.{Idle, LoadSeen, At, InList, Retires, Restarts, Clears, Claims, Zeroes, Announces}
use Rattle.caller_parts.specs.Settings.{Setting}
use Rattle.caller_steps.specs.Entries.{Entry, code_in, instr_in, cradle_of}
use Rattle.caller_parts.specs.Operands.{list_of, slot_in, word_in}
use Rattle.caller_steps.specs.Clearing.{restart_next, clear_next}
use Rattle.caller_steps.specs.Wants.{announcing_wanted, clear_wanted, exchange_wanted, instr_wanted, list_wanted, object_exchange, place_exchange, plain_wanted, wanted, wants}
use Rattle.caller_steps.specs.Lawful.{held_at}
use Rattle.caller_steps.specs.Belongs.{Belongs, RunsAt, RunsWithKinds, Stands}
use Rattle.target_laws.specs.target_runs.Sane.{SaneAt}
use Rattle.core_runs.proofs.caller_laws.Methods.{Methods}
use Rattle.core_runs.proofs.caller_laws.Stopping.{Here, site_of}
use Rattle.core_runs.proofs.caller_laws.Going.{pick_kind, remainder_below}
use Rattle.core_runs.proofs.caller_laws.Fields.{HasField, declared, owner_there}
use Rattle.core_runs.proofs.caller_laws.Asked.{object_has}
use Rattle.core_runs.proofs.caller_laws.Values.{entry_asks_object, commit_asks}
use Rattle.core_runs.proofs.caller_laws.Safety.{all_true, below, list_there, put_finds}
use Rattle.claim_laws.specs.Untouched.{ValueAvoids, WordAvoids, RegistersAvoid, StageAvoids, RoutineAvoids, EntryAvoids}
use Rattle.claim_laws.proofs.Naming.{alike_avoids, null, names_other, worded, register_avoids, zero_avoids, gathered}
use Rattle.claim_laws.proofs.Avoiding.{LoadAvoids, InstrAvoids, ClaimAvoids, StepAvoids}

-- what an access finds doesn't name the slot
abbrev pub FoundAvoids : Target → Sizes → ℕ → WordAccess → ℕ → Type 0
FoundAvoids target n j a word = WordAvoids target n j (word_of a) word

abbrev pub ToldAvoids : Target → Sizes → ℕ → Option WordAccess → ℕ → Type 0
ToldAvoids target n j None word = Unit {0}
ToldAvoids target n j (Some a) word = FoundAvoids target n j a word

-- nor does what it leaves, then
abbrev pub LeavesOther : Target → Sizes → ℕ → Option WordAccess → Type 0
LeavesOther target n j None = Unit {0}
LeavesOther target n j (Some a) = (found : ℕ) → WordAvoids target n j (word_of a) found → WordAvoids target n j (word_of a) (word_after a found)

-- the step's exchange doesn't take the slot, in a row with so many tops
abbrev pub TakesOther : ℕ → ℕ → ClaimStage → ℕ → Type 0
TakesOther tops j (claims.Take q t next) word = (word == head_word tops q t) ≡ true → t ≢ j
TakesOther tops j _ word = Unit {0}

abbrev pub ClaimsOther : ℕ → ℕ → ℕ → Routine → Type 0
ClaimsOther tops j word (Claims claim) = TakesOther tops j claim.stage word
ClaimsOther tops j word _ = Unit {0}

at_least : (a b : ℕ) → nat_le a b ≡ true → a ≤ b
at_least a b e = grind (arith, nat_tests)

any_false : {X : Type 0} (p : X → Bool) (xs : List X) (k : ℕ) (x : X) → list_any p xs ≡ false → slice_get xs k ≡ Some x → p x ≡ false
any_false p [] k x none is = absurd cc
any_false p (y ∷ ys) zero x none is = let same : y ≡ x = cc in subst (λ z. p z ≡ false) same (or_parts (p y) (list_any p ys) none).0
any_false p (y ∷ ys) (suc k) x none is = any_false p ys k x (or_parts (p y) (list_any p ys) none).1 is

-- a field that is declared, of a slot that has it
abbrev IsFieldOf : Target → Setting → ℕ → ℕ → Type 0
IsFieldOf target setting slot f = (f < length target.fields) × HasField target setting slot f

-- at its place among those of its kind the slot holds what the declaration says
held_there : (target : Target) (setting : Setting) (slot f : ℕ) → slot ≢ 0 → IsFieldOf target setting slot f → held_at target (kind_of setting.sizes slot) (place_of target.fields f) ≡ field_kind target.fields f
held_there target setting slot f some is =
    let own = declared target.fields f is.0 in
    ⊎_elim
    (λ (null : slot ≡ 0). absurd (some null))
    (λ (of : kind_of setting.sizes slot ≡ own.field.owner).
    ap (λ (k : ℕ). field_kind (fields_of k target.fields) (place_of target.fields f)) of ∙ ap (option_map (λ (d : FieldDecl). d.kind)) (place_finds target.fields f own.field own.there ∙ sym own.there))
    (is.1 own.field.owner (owner_there target.fields f own.field own.there))

-- a put asks its object to have the field
put_asks : (target : Target) (a : Reg) (f : ℕ) (b : Reg) (r k : ℕ) → asks_object target.fields (places.Field a f) r k ≡ true → asks target.fields target.roots (instr.Put a f b) r k ≡ true
put_asks target a f b r k asked = rw asked refl

-- an exchange's object has its field
abbrev ObjectHas : Target → Setting → Place → Registers → Type 0
ObjectHas target setting (places.Root x) registers = Unit {0}
ObjectHas target setting (places.Field a f) registers = IsFieldOf target setting (slot_in registers a) f

module _ (target : Target) (setting : Setting) (sane : Methods target) (j : ℕ) (some : 1 ≤ j) where
  -- ---- fields

  other_node : (kind : Option FieldKind) (word : ℕ) → slot_part word ≢ j → ValueAvoids j kind word
  other_node (Some (holdings.Reference k)) word other = other
  other_node _ word other = tt

  -- a field that was found and one that is written, by what its declaration says
  field_found : (slot f word : ℕ) → IsFieldOf target setting slot f → WordAvoids target setting.sizes j (FieldOf slot (place_of target.fields f)) word → ValueAvoids j (field_kind target.fields f) word
  field_found zero f word has avoids = other_node (field_kind target.fields f) word avoids
  field_found (suc k) f word has avoids = subst (λ (kind : Option FieldKind). ValueAvoids j kind word) (held_there target setting (suc k) f (λ z. omega (arith, z)) has) avoids

  field_written : (slot f word : ℕ) → slot ≢ 0 → IsFieldOf target setting slot f → ValueAvoids j (field_kind target.fields f) word → WordAvoids target setting.sizes j (FieldOf slot (place_of target.fields f)) word
  field_written zero f word fresh has avoids = absurd (fresh refl)
  field_written (suc k) f word fresh has avoids = subst (λ (kind : Option FieldKind). ValueAvoids j kind word) (sym (held_there target setting (suc k) f fresh has)) avoids

  field_emptied : (slot g : ℕ) → WordAvoids target setting.sizes j (FieldOf slot g) 0
  field_emptied zero g = null j some
  field_emptied (suc k) g = zero_avoids j some (held_at target (kind_of setting.sizes (suc k)) g)

  -- ---- loads

  plain_found : (e : Entry) (i : Instr) (word : ℕ) → Here target setting e → instr_in target e ≡ Some (Plain i) → RegistersAvoid j e.hand.registers
      → ToldAvoids target setting.sizes j (plain_wanted target.fields i e.hand.registers) word → LoadAvoids j i word e.hand.registers
  plain_found e (instr.LoadRoot d x) word c is s told =
      worded j some e.hand.registers (root_kind target.roots x) d word s told (site_of target e (Plain (instr.LoadRoot d x)) sane c.reached is).own.form.kinds
  plain_found e (instr.LoadPick d x n a) word c is s told =
      let site = site_of target e (Plain (instr.LoadPick d x n a)) sane c.reached is in
      let limits = and_parts (is_register d) (nat_lt x (length target.roots) && ((nat_le 1 n && nat_le n 256) && is_register a)) site.limits in
      let limits2 = and_parts (nat_lt x (length target.roots)) ((nat_le 1 n && nat_le n 256) && is_register a) limits.1 in
      let limits3 = and_parts (nat_le 1 n && nat_le n 256) (is_register a) limits2.1 in
      let limits4 = and_parts (nat_le 1 n) (nat_le n 256) limits3.0 in
      let one = not-false (are_roots_of_one_kind target.roots x n) site.own.form.range in
      let same = pick_kind target.roots x n (remainder (number_in e.hand.registers a) n) one (remainder_below (number_in e.hand.registers a) n (at_least 1 n limits4.0)) in
      worded j some e.hand.registers (root_kind target.roots x) d word s (alike_avoids j (root_kind target.roots x) (root_kind target.roots (x + remainder (number_in e.hand.registers a) n)) word same.0 told) site.own.form.kinds
  plain_found e (instr.LoadField d a f) word c is s told =
      let limits = and_parts (is_register d) (is_register a && nat_lt f (length target.fields)) (site_of target e (Plain (instr.LoadField d a f)) sane c.reached is).limits in
      let limit = below f (length target.fields) (and_parts (is_register a) (nat_lt f (length target.fields)) limits.1).1 in
      worded j some e.hand.registers (field_kind target.fields f) d word s (field_found (slot_in e.hand.registers a) f word (limit, object_has target setting e (instr.LoadField d a f) a f sane c is (λ r k asked. asked)) told)
      (or_parts (holds_number a) (is_unlike (field_kind target.fields f) d) (site_of target e (Plain (instr.LoadField d a f)) sane c.reached is).own.form.kinds).1
  plain_found e _ word c is s told = tt

  instr_found : (e : Entry) (o : Option TargetInstr) (word : ℕ) → Here target setting e → instr_in target e ≡ o → RegistersAvoid j e.hand.registers
      → ToldAvoids target setting.sizes j (instr_wanted target.fields e.number o e.hand.registers) word → InstrAvoids j o word e.hand.registers
  instr_found e (Some (Plain i)) word c is s told = plain_found e i word c is s told
  instr_found e _ word c is s told = tt

  -- ---- sweeps and claims

  abbrev Others : List ℕ → Type 0
  Others slots = All (λ (slot : ℕ). slot ≢ j) slots

  on_others : (sweep : Sweep) (k : ℕ) → Others sweep.gathered → Others (sweep_on setting.sizes sweep k).sweep.gathered
  on_others sweep k all = from_slot (λ turn. Others turn.sweep.gathered) setting.sizes sweep k (λ more. all) all

  status_others : (sweep : Sweep) (k : ℕ) (o : Option StatusParts) → Others sweep.gathered → Others (status_read setting.sizes sweep k o).sweep.gathered
  status_others sweep k o all = from_status (λ turn. Others turn.sweep.gathered) setting.sizes sweep k o (on_others sweep k all) (λ p is below away. all)

  sweep_others : (sweep : Sweep) (word : ℕ) (stage : SweepStage) → Others sweep.gathered → FoundAvoids target setting.sizes j (sweep_wants_at sweep.tops sweep.scheme stage sweep.bound) word
      → Others (sweep_accepts_at setting.sizes setting.last sweep word stage).sweep.gathered
  sweep_others sweep word sweeps.ReadPhase all told = of (word == setting.last) where
    of : (b : Bool) → Others (if b then sweep_ends sweep (swept.PhasesOver word) else sweep_goes sweep (sweeps.RaisePhase word)).sweep.gathered
    of true = all
    of false = all
  sweep_others sweep word (sweeps.ReadHazard c r) all told = gathered j some sweep.gathered word told all
  sweep_others sweep word (sweeps.ReadStatus k) all told = status_others sweep k (status_parts word) all
  sweep_others sweep word (sweeps.MakeReady k q) all told = of (word == status_word q statuses.Retired) where
    of : (b : Bool) → Others (if b then sweep_goes sweep (sweeps.PushHead (kind_of setting.sizes k) k) else sweep_on setting.sizes sweep k).sweep.gathered
    of true = all
    of false = on_others sweep k all
  sweep_others sweep word (sweeps.PushTop kind k q t) all told = of (word == head_word setting.sizes.tops q t) where
    of : (b : Bool) → Others (if b then sweep_on setting.sizes sweep k else sweep_goes sweep (sweeps.PushHead (kind_of setting.sizes k) k)).sweep.gathered
    of true = on_others sweep k all
    of false = all
  sweep_others sweep word _ all told = all

  none_gathered : Others []
  none_gathered k d lt = let none : k < 0 = lt in omega (arith, none)

  -- what a claim's step leaves
  abbrev Goes : ClaimTurn → Type 0
  Goes turn = ClaimAvoids j turn.claim turn.ended

  follows_goes : (claim : Claim) (scheme : Scheme) (made : ℕ) → Others claim.sweep.gathered → Goes (sweep_follows scheme made claim)
  follows_goes claim (Announced own) zero all = (all, tt)
  follows_goes claim _ _ all = (none_gathered, tt)

  begun_goes : (claim : Claim) (head : HeadParts) → Others claim.sweep.gathered → Goes (look_begun claim head)
  begun_goes claim head all = of (head.top == 0) (claim.sweeps == 2) where
    of : (b d : Bool) → Goes (if b then (if d then claim_ends claim ends.Full else sweep_follows claim.sweep.scheme claim.sweeps claim) else claim_goes claim (claims.ReadLink head.phase head.top))
    of true true = tt
    of true false = follows_goes claim claim.sweep.scheme claim.sweeps all
    of false d = (all, tt)

  swept_goes : (claim : Claim) (next : Sweep) (end : Option SweepEnd) → claim.stage ≡ claims.Sweeps → Others next.gathered → Goes (sweep_ended claim next end)
  swept_goes claim next None is all = (all, subst (λ (stage : ClaimStage). StageAvoids j stage) (sym is) tt)
  swept_goes claim next (Some swept.Swept) is all = (all, tt)
  swept_goes claim next (Some (swept.PhasesOver p)) is all = tt

  claim_goes_on : (claim : Claim) (word : ℕ) (stage : ClaimStage) → claim.stage ≡ stage → Others claim.sweep.gathered → StageAvoids j stage → FoundAvoids target setting.sizes j (claim_wants_at claim.sweep.tops claim.kind claim.sweep stage) word
      → TakesOther setting.sizes.tops j stage word → Goes (claim_accepts_at setting.sizes setting.last claim word stage)
  claim_goes_on claim word claims.ReadHead is all taken told other = begun_goes claim (head_parts setting.sizes.tops word) all
  claim_goes_on claim word (claims.ReadLink q t) is all taken told other = (all, tt)
  claim_goes_on claim word (claims.Take q t next) is all taken told other = of (word == head_word setting.sizes.tops q t) refl where
    of : (b : Bool) → (word == head_word setting.sizes.tops q t) ≡ b → Goes (if b then claim_goes claim (claims.StoreUsed q t) else claim_goes claim claims.ReadHead)
    of true same = (all, other same)
    of false same = (all, tt)
  claim_goes_on claim word (claims.StoreUsed q t) is all taken told other = taken
  claim_goes_on claim word (claims.Withdraw own) is all taken told other = (none_gathered, tt)
  claim_goes_on claim word claims.Sweeps is all taken told other =
      let turn = sweep_accepts setting.sizes setting.last claim.sweep word in swept_goes claim turn.sweep turn.ended is (sweep_others claim.sweep word claim.sweep.stage all told)

  -- ---- each step

  found_step : (e : Entry) (word : ℕ) (routine : Routine) → Belongs target setting e → RunsAt target e routine → RunsWithKinds target setting e routine → RegistersAvoid j e.hand.registers → RoutineAvoids j routine
      → ToldAvoids target setting.sizes j (wanted target e routine) word → ClaimsOther setting.sizes.tops j word routine → StepAvoids target setting j e word routine
  found_step e word At b reaches kinds s a told other = instr_found e (instr_in target e) word (record { reached = reaches; names = b.hand.registers; kinds = kinds.now }) refl s told
  found_step e word (Claims claim) b reaches kinds s a told other = claim_goes_on claim word claim.stage refl a.0 a.1 told other
  found_step e word _ b reaches kinds s a told other = tt

  pub step_found : (e : Entry) (word : ℕ) → Belongs target setting e → EntryAvoids j e → ToldAvoids target setting.sizes j (wants target e) word → ClaimsOther setting.sizes.tops j word e.routine → StepAvoids target setting j e word e.routine
  unfolding wants
  step_found e word b a told other = found_step e word e.routine b b.reaches b.kinds a.registers a.routine told other

  -- ---- what is written

  exchange_leaves : (w : Word) (expected x : ℕ) → WordAvoids target setting.sizes j w x → LeavesOther target setting.sizes j (Some (Exchanges w expected x))
  exchange_leaves w expected x other found was = of (found == expected) where
    of : (b : Bool) → WordAvoids target setting.sizes j w (if b then x else found)
    of true = other
    of false = was

  text_exchange : (exchange : CasEntry) (registers : Registers) → RegistersAvoid j registers → has_wrong_operand target.fields target.roots exchange ≡ false → ObjectHas target setting exchange.place registers
      → LeavesOther target setting.sizes j (Some (exchange_wanted target.fields exchange registers))
  text_exchange exchange registers s kinds has =
      of exchange.place has
      (register_avoids j some registers (place_kind target.fields target.roots exchange.place) exchange.replacement s
      (or_parts (is_unlike (place_kind target.fields target.roots exchange.place) exchange.expected) (is_unlike (place_kind target.fields target.roots exchange.place) exchange.replacement)
      (or_parts (has_wrong_object exchange.place) (is_unlike (place_kind target.fields target.roots exchange.place) exchange.expected || is_unlike (place_kind target.fields target.roots exchange.place) exchange.replacement) kinds).1).1) where
        object : (k f : ℕ) → IsFieldOf target setting k f → ValueAvoids j (field_kind target.fields f) (word_in registers exchange.replacement)
            → LeavesOther target setting.sizes j (Some (object_exchange k (place_of target.fields f) (word_in registers exchange.expected) (word_in registers exchange.replacement)))
        object zero f has other = λ found was. was
        object (suc k) f has other = exchange_leaves (FieldOf (suc k) (place_of target.fields f)) (word_in registers exchange.expected) (word_in registers exchange.replacement)
            (field_written (suc k) f (word_in registers exchange.replacement) (λ z. omega (arith, z)) has other)

        of : (place : Place) → ObjectHas target setting place registers → ValueAvoids j (place_kind target.fields target.roots place) (word_in registers exchange.replacement)
            → LeavesOther target setting.sizes j (Some (place_exchange target.fields place registers (word_in registers exchange.expected) (word_in registers exchange.replacement)))
        of (places.Root x) has other = exchange_leaves (Cell x) (word_in registers exchange.expected) (word_in registers exchange.replacement) other
        of (places.Field a f) has other = object (slot_in registers a) f has other

  -- the object of an exchange has the field, as the instruction asks it to be of the field's kind
  exchange_object : (e : Entry) (i : Instr) (exchange : CasEntry) → Here target setting e → instr_in target e ≡ Some (Plain i) → is_entry (length target.fields) (length target.roots) exchange ≡ true
      → ((r k : ℕ) → asks_object target.fields exchange.place r k ≡ true → asks target.fields target.roots i r k ≡ true) → ObjectHas target setting exchange.place e.hand.registers
  exchange_object e i exchange c is limits asked =
      of exchange.place (and_parts (is_place (length target.fields) (length target.roots) exchange.place) (is_register exchange.expected && (is_register exchange.replacement && is_retire exchange.retire)) limits).0 asked where
        of : (place : Place) → is_place (length target.fields) (length target.roots) place ≡ true → ((r k : ℕ) → asks_object target.fields place r k ≡ true → asks target.fields target.roots i r k ≡ true)
            → ObjectHas target setting place e.hand.registers
        of (places.Root x) limit asked = tt
        of (places.Field a f) limit asked = (below f (length target.fields) (and_parts (is_register a) (nat_lt f (length target.fields)) limit).1, object_has target setting e i a f sane c is asked)

  plain_leaves : (e : Entry) (i : Instr) → Here target setting e → instr_in target e ≡ Some (Plain i) → RegistersAvoid j e.hand.registers → LeavesOther target setting.sizes j (plain_wanted target.fields i e.hand.registers)
  plain_leaves e (instr.LoadRoot d x) c is s = λ found was. was
  plain_leaves e (instr.LoadPick d x n a) c is s = λ found was. was
  plain_leaves e (instr.LoadField d a f) c is s = λ found was. was
  plain_leaves e (instr.Put a f b) c is s = λ found was.
      let limits = and_parts (is_register a) (nat_lt f (length target.fields) && is_register b) (site_of target e (Plain (instr.Put a f b)) sane c.reached is).limits in
      let limit = below f (length target.fields) (and_parts (nat_lt f (length target.fields)) (is_register b) limits.1).0 in
      field_written (slot_in e.hand.registers a) f (word_in e.hand.registers b) (put_finds target e a b f sane c.reached is)
      (limit, object_has target setting e (instr.Put a f b) a f sane c is (λ r k asked. put_asks target a f b r k asked))
      (register_avoids j some e.hand.registers (field_kind target.fields f) b s
      (or_parts (holds_number a) (is_unlike (field_kind target.fields f) b) (site_of target e (Plain (instr.Put a f b)) sane c.reached is).own.form.kinds).1)
  plain_leaves e (instr.Cas exchange l) c is s =
      let site = site_of target e (Plain (instr.Cas exchange l)) sane c.reached is in
      text_exchange exchange e.hand.registers s site.own.form.kinds
      (exchange_object e (instr.Cas exchange l) exchange c is (and_parts (is_entry (length target.fields) (length target.roots) exchange) (nat_le l 65535) site.limits).0 (λ r k asked. entry_asks_object target.fields target.roots exchange r k asked))
  plain_leaves e _ c is s = tt

  instr_leaves : (e : Entry) (o : Option TargetInstr) → Here target setting e → instr_in target e ≡ o → RegistersAvoid j e.hand.registers
      → LeavesOther target setting.sizes j (instr_wanted target.fields e.number o e.hand.registers)
  instr_leaves e None c is s = tt
  instr_leaves e (Some Check) c is s = λ found was. was
  instr_leaves e (Some (Guard r)) c is s = λ found was. names_other j some e.hand.registers r s
  instr_leaves e (Some (Plain i)) c is s = plain_leaves e i c is s

  list_leaves : (e : Entry) (k : ℕ) → Here target setting e → RegistersAvoid j e.hand.registers → k < length (list_of (instr_in target e))
      → LeavesOther target setting.sizes j (list_wanted target.fields (slice_get (list_of (instr_in target e)) k) e.hand.registers)
  list_leaves e k c s lt = of (slice_get (list_of (instr_in target e)) k) refl where
    there : (exchanges : List CasEntry) × (instr_in target e ≡ Some (Plain (instr.Commit exchanges)))
    there = list_there (instr_in target e) k lt

    site : SaneAt target e.hand.wrapup (code_in target e) e.hand.at (Plain (instr.Commit there.0))
    site = site_of target e (Plain (instr.Commit there.0)) sane c.reached there.1

    same : slice_get (list_of (instr_in target e)) k ≡ slice_get there.0 k
    same = ap (λ (q : Option TargetInstr). slice_get (list_of q) k) there.1

    of : (x : Option CasEntry) → slice_get (list_of (instr_in target e)) k ≡ x → LeavesOther target setting.sizes j (list_wanted target.fields x e.hand.registers)
    of None none = tt
    of (Some exchange) is = text_exchange exchange e.hand.registers s (any_false (has_wrong_operand target.fields target.roots) there.0 k exchange site.own.form.kinds (sym same ∙ is))
        (exchange_object e (instr.Commit there.0) exchange c there.1
        (all_true (is_entry (length target.fields) (length target.roots)) there.0 k exchange (and_parts (nat_le (length there.0) 4) (list_all (is_entry (length target.fields) (length target.roots)) there.0) site.limits).1 (sym same ∙ is))
        (λ r i asked. commit_asks target.fields target.roots there.0 k exchange r i (sym same ∙ is) (entry_asks_object target.fields target.roots exchange r i asked)))

  clear_leaves : (c : ℕ) (o : Option ℕ) → LeavesOther target setting.sizes j (clear_wanted c o)
  clear_leaves c None = tt
  clear_leaves c (Some r) = λ found was. null j some

  retire_leaves : (slot : ℕ) (stage : RetireStage) → LeavesOther target setting.sizes j (Some (retire_wants_at slot stage))
  retire_leaves slot retires.ReadPhase = λ found was. tt
  retire_leaves slot (retires.StoreStatus p) = λ found was. tt

  warn_leaves : (scheme : Scheme) (c s : ℕ) → LeavesOther target setting.sizes j (Some (warn_wanted scheme c s))
  warn_leaves Warned c s = λ found was. tt
  warn_leaves (Announced own) c s = λ found was. tt

  sweep_leaves : (tops : ℕ) (scheme : Scheme) (bound : ℕ) (stage : SweepStage) → LeavesOther target setting.sizes j (Some (sweep_wants_at tops scheme stage bound))
  sweep_leaves tops scheme bound (sweeps.Warn c) = warn_leaves scheme c bound
  sweep_leaves tops scheme bound (sweeps.ReadHazard c r) = λ found was. was
  sweep_leaves tops scheme bound _ = λ found was. tt

  claim_leaves : (tops k : ℕ) (sweep : Sweep) (stage : ClaimStage) → LeavesOther target setting.sizes j (Some (claim_wants_at tops k sweep stage))
  claim_leaves tops k sweep claims.Sweeps = sweep_leaves tops sweep.scheme sweep.bound sweep.stage
  claim_leaves tops k sweep _ = λ found was. tt

  announcing_leaves : (c : ℕ) (announcing : Announcing) → LeavesOther target setting.sizes j (Some (announcing_wanted c announcing))
  announcing_leaves c (announces.Loads why) = λ found was. tt
  announcing_leaves c _ = λ found was. tt

  leaves_step : (e : Entry) (routine : Routine) → Belongs target setting e → RunsAt target e routine → RunsWithKinds target setting e routine → Stands target setting e routine → RegistersAvoid j e.hand.registers → LeavesOther target setting.sizes j (wanted target e routine)
  leaves_step e Idle b reaches kinds stands s = tt
  leaves_step e (LoadSeen why) b reaches kinds stands s = λ found was. was
  leaves_step e At b reaches kinds stands s = instr_leaves e (instr_in target e) (record { reached = reaches; names = b.hand.registers; kinds = kinds.now }) refl s
  leaves_step e (InList k) b reaches kinds stands s = list_leaves e k (record { reached = reaches; names = b.hand.registers; kinds = kinds.now }) s stands
  leaves_step e (Retires retirement go) b reaches kinds stands s = retire_leaves retirement.slot retirement.stage
  leaves_step e Restarts b reaches kinds stands s = clear_leaves e.number (restart_next target e)
  leaves_step e (Clears next) b reaches kinds stands s = clear_leaves e.number (clear_next target next e)
  leaves_step e (Claims claim) b reaches kinds stands s = claim_leaves claim.sweep.tops claim.kind claim.sweep claim.stage
  leaves_step e (Zeroes k field) b reaches kinds stands s = λ found was. field_emptied (cradle_of e k) field
  leaves_step e (Announces announcing) b reaches kinds stands s = announcing_leaves e.number announcing

  pub step_leaves : (e : Entry) → Belongs target setting e → EntryAvoids j e → LeavesOther target setting.sizes j (wants target e)
  unfolding wants
  step_leaves e b a = leaves_step e e.routine b b.reaches b.kinds b.stands a.registers
