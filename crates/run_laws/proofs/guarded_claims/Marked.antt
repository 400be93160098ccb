-- What the marks of a run say of the relation's guards: each step of a caller keeps it.
use Rattle.std.proofs.Common.{ℕ, zero, suc, ◌≡◌, ◌≢◌, ◌==◌, ◌⊎◌, ◌∙◌, not, if◌then◌else◌, Bool, true, false, Option, Some, None, arith, ⊎_elim, sym, ap, subst, refl, inl, inr}
use Rattle.std.proofs.lemmas.Bool.Decides.{nat_tests, eqb_tells}
use Rattle.norm_lang.specs.declared.text.Reg.{Reg}
use Rattle.norm_lang.specs.declared.text.Reg.TheVariants.{Ref}
use Rattle.norm_lang.specs.Registers.{node_in}
use Rattle.target_code.specs.declared.target.TargetInstr.{TargetInstr}
use Rattle.target_code.specs.declared.target.TargetInstr.TheVariants.{Check, Guard}
use Rattle.oa_words.specs.Words.{Word, Warning, Hazard}
use Rattle.phase_pools.specs.Accesses.{WordAccess, Loads, Stores, word_of}
use Rattle.source_machine.specs.MethodRuns.{put}
use Rattle.caller_parts.specs.declared.routine.AfterClear.{AfterClear}
use Rattle.caller_parts.specs.declared.routine.Routine.{Routine}
use Rattle.caller_parts.specs.declared.routine.Routine.TheVariants.{Idle, LoadSeen, At, Restarts, Clears, Announces}
use Rattle.caller_steps.specs.Entries.{Entry, is_idle, instr_in}
use Rattle.caller_parts.specs.Operands.{slot_in}
use Rattle.caller_steps.specs.Clearing.{restart_next, clear_next, unguarded}
use Rattle.caller_steps.specs.Wants.{wants, instr_wanted}
use Rattle.caller_steps.specs.After.{counted, with_hand}
use Rattle.caller_steps.specs.After.{moved as after_moves}
use Rattle.caller_steps.specs.Signs.{Moved}
use Rattle.run_ahead.specs.Guards.{GuardRow, validated}
use Rattle.oa_simulation.specs.sim_relation.Views.{Plan, Shared, Caller, protected, settled_names}
use Rattle.oa_simulation.specs.sim_relation.Callers.{Calm, Base}
use Rattle.oa_simulation.specs.sim_relation.MayChange.{MayChange}
use Rattle.chain_laws.specs.Memories.{after_access}
use Rattle.oa_simulation.specs.sim_relation.Steps.{KeptWith, NamesAt, NamesCleared, NamesAfter, checked_names, with_names, is_between, is_counted, is_over}
use Rattle.oa_simulation.specs.sim_relation.WasSet.{set_after_access}
use Rattle.oa_simulation.proofs.sim_steps.Walks.Beginning.{over_after}
use Rattle.oa_simulation.proofs.sim_steps.Pools.Core.{after_is, wants_is}
use Rattle.run_laws.specs.guarded_claims.Marks.{Mark, Marks, Absent, Published, Validated, passed, begun, published, restored, checked, cleared, instr_marks, hazard_marks, step_marks}
use Rattle.run_laws.proofs.guarded_claims.Hazards.{Leaves, leaves, again_leaves, stored, stored_at}
use Rattle.oa_simulation.proofs.sim_steps.Seen.{is_check, loads_seen, seen_stays}
use Rattle.caller_parts.specs.declared.setting.Reclamation.TheVariants.{Optimistic}
use Rattle.oa_simulation.proofs.sim_relation.Schemes.{NeverAnnounces}

-- what a caller's marks say of the names of its guards that no check has validated yet, and of what its run has set
pub record Marked (t : Plan) (s : Shared) (c : ℕ) (x : Caller) (marks : Marks) : Type 0 where
  pub was_set : x.was_set ≡ marks.was_set
  -- while a method run goes on and the caller isn't warned
  pub published : (r : ℕ) → marks.hazards r ≡ Published → is_between x.entry.routine ≡ false → Calm s c x → x.names.name r ≢ 0

-- the same of names that an access has made, as long as the run goes on. What is validated was so, and its word is unchanged, or a check
-- validates it now
record Row (on : Type 0) (Left : ℕ → Type 0) (row : GuardRow) (before hazards : ℕ → Mark) : Type 0 where
  validated : (r : ℕ) → hazards r ≡ Validated → ((before r ≡ Validated) × Left r) ⊎ (protected row r ≢ 0)
  published : (r : ℕ) → hazards r ≡ Published → on → row.name r ≢ 0

passed_validated : (m : Mark) → passed m ≡ Validated → (m ≡ Published) ⊎ (m ≡ Validated)
passed_validated Absent is = absurd (let z : Absent ≡ Validated = is in cc)
passed_validated Published is = inl refl
passed_validated Validated is = inr refl

passed_published : (m : Mark) → passed m ≡ Published → ⊥
passed_published Published is = let z : Validated ≡ Published = is in cc
passed_published m is = let z : m ≡ Published = is in cc

begun_validated : (m : Mark) → begun m ≡ Validated → m ≡ Validated
begun_validated Published is = absurd (let z : Absent ≡ Validated = is in cc)
begun_validated _ is = is

begun_published : (m : Mark) → begun m ≡ Published → ⊥
begun_published Published is = let z : Absent ≡ Published = is in cc
begun_published m is = let z : m ≡ Published = is in cc

published_validated : (counted : Bool) (slot : ℕ) → published counted slot ≡ Validated → ⊥
published_validated true (suc j) is = let z : Published ≡ Validated = is in cc
published_validated _ _ is = let z : Absent ≡ Validated = is in cc

published_counts : (counted : Bool) (slot : ℕ) → published counted slot ≡ Published → (counted ≡ true) × (slot ≢ 0)
published_counts true (suc j) is = (refl, (λ z. omega (arith, z)))
published_counts _ _ is = absurd (let z : Absent ≡ Published = is in cc)

restored_validated : (same : Bool) (before : Mark) (counted : Bool) (slot : ℕ) → restored same before (published counted slot) ≡ Validated → (same ≡ true) × (before ≡ Validated)
restored_validated true Validated counted slot is = (refl, refl)
restored_validated _ _ counted slot is = absurd (published_validated counted slot is)

restored_published : (same : Bool) (before stored : Mark) → restored same before stored ≡ Published → stored ≡ Published
restored_published true Validated stored is = absurd (let z : Validated ≡ Published = is in cc)
restored_published _ _ stored is = is

now_protected : (n : ℕ) → n ≢ 0 → (if not (n == 0) then n else 0) ≢ 0
now_protected zero some = absurd (some refl)
now_protected (suc n) some = let e : (suc n == 0) ≡ false = grind (arith, nat_tests) in rw e (λ z. some z)

-- ---- each access

module _ (t : Plan) (s : Shared) (c : ℕ) (x : Caller) (marks : Marks) (m : Marked t s c x marks) (on : Type 0) (Left : ℕ → Type 0) where
  abbrev Now : GuardRow → (ℕ → Mark) → Type 0
  Now row hazards = Row on Left row marks.hazards hazards

  same_row : (row : GuardRow) → row ≡ x.names → (on → is_between x.entry.routine ≡ false) → (on → Calm s c x) → ((r : ℕ) → Left r) → Now row marks.hazards
  same_row row same between calm left = record {
    validated = λ r is. inl (is, left r);
    published = λ r is o. subst (λ (row : GuardRow). row.name r ≢ 0) (sym same) (m.published r is (between o) (calm o));
  }

  -- a method run begins
  begun_row : (row : GuardRow) → ((r : ℕ) → Left r) → Now row (λ r. begun (marks.hazards r))
  begun_row row left = record {
    validated = λ r is. inl (begun_validated (marks.hazards r) is, left r);
    published = λ r is o. absurd (begun_published (marks.hazards r) is);
  }

  -- a hazard word is cleared
  cleared_row : (k : ℕ) → (on → is_between x.entry.routine ≡ false) → (on → Calm s c x) → ((r : ℕ) → r ≢ k → Left r) → Now (with_names x.names k 0) (put marks.hazards k Absent)
  cleared_row k between calm left = record { validated = λ r. validated r (eqb_tells r k); published = λ r. published r (eqb_tells r k) } where
    validated : (r : ℕ) → (((r == k) ≡ true) × (r ≡ k)) ⊎ (((r == k) ≡ false) × (r ≢ k)) → put marks.hazards k Absent r ≡ Validated → ((marks.hazards r ≡ Validated) × Left r) ⊎ (protected (with_names x.names k 0) r ≢ 0)
    validated r (inl e) = rw e.0 (λ is. absurd (let z : Absent ≡ Validated = is in cc))
    validated r (inr e) = rw e.0 (λ is. inl (is, left r e.1))

    published : (r : ℕ) → (((r == k) ≡ true) × (r ≡ k)) ⊎ (((r == k) ≡ false) × (r ≢ k)) → put marks.hazards k Absent r ≡ Published → on → (with_names x.names k 0).name r ≢ 0
    published r (inl e) = rw e.0 (λ is o. absurd (let z : Absent ≡ Published = is in cc))
    published r (inr e) = rw e.0 (λ is o. m.published r is (between o) (calm o))

  -- a guard is published, or its word is stored again
  guard_row : (again counted : Bool) (k n : ℕ) → (counted ≡ true → Calm s c x → node_in x.entry.hand.registers k ≢ 0 → n ≢ 0) → (on → is_between x.entry.routine ≡ false) → (on → Calm s c x)
      → (again ≡ true → Left k) → ((r : ℕ) → r ≢ k → Left r) → Now (with_names x.names k n) (put marks.hazards k (restored again (marks.hazards k) (published counted (node_in x.entry.hand.registers k))))
  guard_row again counted k n names between calm here left = record { validated = λ r. valid r (eqb_tells r k); published = λ r. named r (eqb_tells r k) } where
    valid : (r : ℕ) → (((r == k) ≡ true) × (r ≡ k)) ⊎ (((r == k) ≡ false) × (r ≢ k)) → put marks.hazards k (restored again (marks.hazards k) (published counted (node_in x.entry.hand.registers k))) r ≡ Validated
        → ((marks.hazards r ≡ Validated) × Left r) ⊎ (protected (with_names x.names k n) r ≢ 0)
    valid r (inl e) = rw e.0 (λ is. (let old = restored_validated again (marks.hazards k) counted (node_in x.entry.hand.registers k) is in inl (ap marks.hazards e.1 ∙ old.1, subst Left (sym e.1) (here old.0))))
    valid r (inr e) = rw e.0 (λ is. inl (is, left r e.1))

    named : (r : ℕ) → (((r == k) ≡ true) × (r ≡ k)) ⊎ (((r == k) ≡ false) × (r ≢ k)) → put marks.hazards k (restored again (marks.hazards k) (published counted (node_in x.entry.hand.registers k))) r ≡ Published
        → on → (with_names x.names k n).name r ≢ 0
    named r (inl e) = rw e.0 (λ is o.
        (let new = restored_published again (marks.hazards k) (published counted (node_in x.entry.hand.registers k)) is in
        let at = published_counts counted (node_in x.entry.hand.registers k) new in
        names at.0 (calm o) at.1))
    named r (inr e) = rw e.0 (λ is o. m.published r is (between o) (calm o))

  -- a check
  passed_row : is_between x.entry.routine ≡ false → Calm s c x → ((r : ℕ) → Left r) → Now (validated x.names) (λ r. passed (marks.hazards r))
  passed_row between calm left = record {
    validated = λ r is. ⊎_elim
        (λ (waiting : marks.hazards r ≡ Published). inr (now_protected (x.names.name r) (m.published r waiting between calm)))
        (λ (old : marks.hazards r ≡ Validated). inl (old, left r))
        (passed_validated (marks.hazards r) is);
    published = λ r is o. absurd (passed_published (marks.hazards r) is);
  }

  check_row : (b : Bool) → (s.memory (Warning c) == x.entry.hand.seen) ≡ b → is_between x.entry.routine ≡ false → ((r : ℕ) → Left r) → Now (checked_names b x.names) (checked b marks.hazards)
  check_row true is between left = passed_row between (let calm : x.entry.hand.seen ≡ s.memory (Warning c) = grind (arith, nat_tests) in calm) left
  check_row false is between left = begun_row (settled_names x.names) left

-- ---- a whole step

module _ (t : Plan) (s : Shared) (c : ℕ) (x : Caller) (marks : Marks) (a : WordAccess) (row : GuardRow) (present' : ℕ → ℕ)
    (m : Marked t s c x marks) (base : Base t s c x) (want : wants t.target x.entry ≡ Some a) (busy : is_idle x.entry.routine ≡ false) (never : NeverAnnounces x.entry.routine)
    (k : KeptWith t c s x row (set_after_access t.target x.entry x.entry.routine (s.memory (word_of a)) x.was_set) (after_access s.memory a) (after_moves Optimistic t.target t.setting x.entry (s.memory (word_of a))) present') where
  -- the method run goes on, and the caller isn't warned
  abbrev On : Type 0
  On = (is_between (after_moves Optimistic t.target t.setting x.entry (s.memory (word_of a))).entry.routine ≡ false) × Calm k.s' c k.x'

  -- a hazard word is unchanged
  abbrev Left : ℕ → Type 0
  Left r = after_access s.memory a (Hazard c r) ≡ s.memory (Hazard c r)

  left_at : (routine : Routine) → x.entry.routine ≡ routine → (r : ℕ) → (stored t.target x.entry routine ≡ Some r → ⊥) → Left r
  left_at routine is r other = subst (Leaves s.memory c r) (sym (wants_is t.target x.entry routine is) ∙ want) (leaves s.memory c r t.target x.entry routine other)

  left_all : (routine : Routine) → x.entry.routine ≡ routine → stored t.target x.entry routine ≡ None → (r : ℕ) → Left r
  left_all routine is none r = left_at routine is r (λ z. let no : None ≡ Some r = sym none ∙ z in cc)

  calm_at : (r : Routine) → x.entry.routine ≡ r → loads_seen t.target x.entry r ≡ false → On → Calm s c x
  calm_at r is other o =
      let seen : k.x'.entry.hand.seen ≡ x.entry.hand.seen =
      ap (λ (e : Entry). e.hand.seen) k.entry ∙ (ap (λ (m : Moved). m.entry.hand.seen) (after_is t.target t.setting x.entry (s.memory (word_of a)) r is) ∙ seen_stays t.target t.setting (s.memory (word_of a)) x.entry r (λ announcing same. never announcing (is ∙ same)) other) in
      let now : k.x'.entry.hand.seen ≡ k.s'.memory (Warning c) = o.1 in
      let grows = k.goes.warning c in
      let most = base.seen in
      omega (arith, seen, now, grows, most)

  going : (r : Routine) → x.entry.routine ≡ r → is_between r ≡ false → is_between x.entry.routine ≡ false
  going r is on = ap is_between is ∙ on

  by_clear : (next : AfterClear) → x.entry.routine ≡ Clears next → On → is_between x.entry.routine ≡ false
  by_clear next is o = of (is_over next) refl where
    of : (b : Bool) → is_over next ≡ b → is_between x.entry.routine ≡ false
    of false on = going (Clears next) is on
    of true over =
        let later : is_between (after_moves Optimistic t.target t.setting x.entry (s.memory (word_of a))).entry.routine ≡ true =
        ap (λ (m : Moved). is_between m.entry.routine) (after_is t.target t.setting x.entry (s.memory (word_of a)) (Clears next) is)
        ∙ over_after t.target t.setting.sizes next (with_hand (counted x.entry) (unguarded (clear_next t.target next x.entry) x.entry.hand)) over in
        absurd (let z : true ≡ false = sym later ∙ o.0 in cc)

  abbrev After : (ℕ → Mark) → Type 0
  After hazards = Row On Left row marks.hazards hazards

  by_cleared : (o : Option ℕ) → (On → is_between x.entry.routine ≡ false) → (On → Calm s c x) → ((r : ℕ) → (o ≡ Some r → ⊥) → Left r) → NamesCleared x o row → After (cleared o marks.hazards)
  by_cleared None between calm left names = same_row t s c x marks m On Left row names between calm (λ r. left r (λ z. let no : None ≡ Some r = z in cc))
  by_cleared (Some k) between calm left names = subst (λ (row : GuardRow). Row On Left row marks.hazards (put marks.hazards k Absent)) (sym names)
      (cleared_row t s c x marks m On Left k between calm (λ r ne. left r (λ z. ne (let one : Some k ≡ Some r = z in cc))))

  -- a check loads the own warning
  check_word : x.entry.routine ≡ At → instr_in t.target x.entry ≡ Some Check → s.memory (word_of a) ≡ s.memory (Warning c)
  check_word at is =
      let loads : Some (Loads (Warning x.entry.number)) ≡ Some a = sym (wants_is t.target x.entry At at ∙ ap (λ (o : Option TargetInstr). instr_wanted t.target.fields x.entry.number o x.entry.hand.registers) is) ∙ want in
      let same : Loads (Warning x.entry.number) ≡ a = cc in
      ap (λ (a : WordAccess). s.memory (word_of a)) (sym same) ∙ ap (λ (i : ℕ). s.memory (Warning i)) base.number

  -- a `grd` that finds what it stores leaves its word
  guard_leaves : (i : ℕ) → x.entry.routine ≡ At → instr_in t.target x.entry ≡ Some (Guard (Ref i)) → (s.memory (word_of a) == slot_in x.entry.hand.registers (Ref i)) ≡ true → Left i
  guard_leaves i at is found =
      let slot : ℕ = slot_in x.entry.hand.registers (Ref i) in
      let stores : Some (Stores (Hazard x.entry.number i) slot) ≡ Some a = sym (wants_is t.target x.entry At at ∙ ap (λ (o : Option TargetInstr). instr_wanted t.target.fields x.entry.number o x.entry.hand.registers) is) ∙ want in
      let one : Stores (Hazard x.entry.number i) slot ≡ a = cc in
      let same : Stores (Hazard c i) slot ≡ a = ap (λ (k : ℕ). Stores (Hazard k i) slot) (sym base.number) ∙ one in
      let word : s.memory (word_of a) ≡ slot = grind (arith, nat_tests) in
      subst (λ (a : WordAccess). after_access s.memory a (Hazard c i) ≡ s.memory (Hazard c i)) same (again_leaves s.memory c i slot (sym word ∙ ap (λ (a : WordAccess). s.memory (word_of a)) (sym same)))

  by_guard : (i n : ℕ) → x.entry.routine ≡ At → instr_in t.target x.entry ≡ Some (Guard (Ref i)) → row ≡ with_names x.names i n → (is_counted x.entry x.was_set i ≡ true → Calm s c x → node_in x.entry.hand.registers i ≢ 0 → n ≢ 0)
      → After (instr_marks x.entry (Some (Guard (Ref i))) (s.memory (word_of a)) marks.was_set marks.hazards)
  by_guard i n at is is_row named =
      let counts : Bool = is_counted x.entry marks.was_set i in
      let again : Bool = s.memory (word_of a) == slot_in x.entry.hand.registers (Ref i) in
      subst (λ (row : GuardRow). Row On Left row marks.hazards (put marks.hazards i (restored again (marks.hazards i) (published counts (node_in x.entry.hand.registers i))))) (sym is_row)
      (guard_row t s c x marks m On Left again counts i n (λ counts. named (ap (λ (were : ℕ → Bool). is_counted x.entry were i) m.was_set ∙ counts)) (λ o. going At at refl) (calm_at At at (ap (λ (o : Option TargetInstr). is_check o) is))
      (guard_leaves i at is) (λ r ne. left_at At at r (λ z. ne (let one : Some i ≡ Some r = sym (ap (λ (o : Option TargetInstr). stored_at o) is) ∙ z in cc))))

  by_instr : (o : Option TargetInstr) → x.entry.routine ≡ At → instr_in t.target x.entry ≡ o → NamesAt t s c x o row → After (instr_marks x.entry o (s.memory (word_of a)) marks.was_set marks.hazards)
  by_instr (Some Check) at is names = subst (λ (w : ℕ). After (checked (w == x.entry.hand.seen) marks.hazards)) (sym (check_word at is))
      (subst (λ (row : GuardRow). Row On Left row marks.hazards (checked (s.memory (Warning c) == x.entry.hand.seen) marks.hazards)) (sym names)
      (check_row t s c x marks m On Left (s.memory (Warning c) == x.entry.hand.seen) refl (going At at refl) (left_all At at (ap (λ (o : Option TargetInstr). stored_at o) is))))
  by_instr (Some (Guard r)) at is (i, n, same, is_row, named) =
      subst (λ (r : Reg). After (instr_marks x.entry (Some (Guard r)) (s.memory (word_of a)) marks.was_set marks.hazards)) (sym same)
      (by_guard i n at (is ∙ ap (λ (r : Reg). Some (Guard r)) same) is_row named)
  by_instr _ at is names =
      same_row t s c x marks m On Left row names (λ o. going At at refl) (calm_at At at (ap (λ (o : Option TargetInstr). is_check o) is)) (left_all At at (ap (λ (o : Option TargetInstr). stored_at o) is))

  by_routine : (r : Routine) → x.entry.routine ≡ r → NamesAfter t s c x r row → After (hazard_marks t.target x.entry r (s.memory (word_of a)) marks.was_set marks.hazards)
  by_routine Idle is names = absurd (let z : true ≡ false = sym (ap is_idle is) ∙ busy in cc)
  by_routine (LoadSeen why) is names = begun_row t s c x marks m On Left row (left_all (LoadSeen why) is refl)
  by_routine At is names = by_instr (instr_in t.target x.entry) is refl names
  by_routine Restarts is names = by_cleared (restart_next t.target x.entry) (λ o. going Restarts is refl) (calm_at Restarts is refl) (left_at Restarts is) names
  by_routine (Clears next) is names = by_cleared (clear_next t.target next x.entry) (by_clear next is) (calm_at (Clears next) is refl) (left_at (Clears next) is) names
  by_routine (Announces announcing) is names = absurd (never announcing is)
  by_routine r is names = same_row t s c x marks m On Left row names (λ o. going r is refl) (calm_at r is refl) (left_all r is refl)

  -- the mover's marks after its step
  pub step_marked : NamesAfter t s c x x.entry.routine row → Marked t k.s' c k.x' (step_marks t.target t.setting x.entry (s.memory (word_of a)) marks)
  step_marked names =
      let r = by_routine x.entry.routine refl names in
      record {
        was_set = k.was_set ∙ ap (λ (were : ℕ → Bool). set_after_access t.target x.entry x.entry.routine (s.memory (word_of a)) were) m.was_set;
        published = λ i is between calm.
            (let on : is_between (after_moves Optimistic t.target t.setting x.entry (s.memory (word_of a))).entry.routine ≡ false = ap (λ (e : Entry). is_between e.routine) (sym k.entry) ∙ between in
            k.names.named on i (r.published i is (on, calm)));
      }

  -- and what is validated: it was so, and its word is unchanged; or the relation has it validated
  pub step_validated : NamesAfter t s c x x.entry.routine row → (i : ℕ) → (step_marks t.target t.setting x.entry (s.memory (word_of a)) marks).hazards i ≡ Validated
      → ((marks.hazards i ≡ Validated) × (k.s'.memory (Hazard c i) ≡ s.memory (Hazard c i))) ⊎ (k.s'.protects c i ≢ 0)
  step_validated names i is = ⊎_elim
      (λ (old : (marks.hazards i ≡ Validated) × Left i). inl (old.0, ap (λ (memory : Word → ℕ). memory (Hazard c i)) k.memory ∙ old.1))
      (λ (now : protected row i ≢ 0). inr (λ z. k.names.guarded i now (sym (k.caller_holds.base.protects i) ∙ z)))
      ((by_routine x.entry.routine refl names).validated i is)

-- the marks of another caller
pub others_marked : (t : Plan) (s s' : Shared) (c d : ℕ) (x : Caller) (marks : Marks) → MayChange t c s s' → Base t s d x → Marked t s d x marks → Marked t s' d x marks
others_marked t s s' c d x marks goes base m = record {
  was_set = m.was_set;
  published = λ r is between calm.
      (let now : x.entry.hand.seen ≡ s'.memory (Warning d) = calm in
      let grows = goes.warning d in
      let most = base.seen in
      let before : x.entry.hand.seen ≡ s.memory (Warning d) = omega (arith, now, grows, most) in
      m.published r is between before);
}
