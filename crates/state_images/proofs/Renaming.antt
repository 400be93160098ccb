-- Local code under other names.
use Rattle.std.proofs.Common.{ℕ, zero, suc, ◌+◌, ◌-◌, ◌%◌, ◌^◌, ◌≡◌, ◌≢◌, ◌∙◌, ◌==◌, ◌&&◌, nat_lt, Bool, true, false, cond, List, [], ◌∷◌, map, set, Option, Some, None, option_map, sym, ap, refl, subst, ⊎_elim, arith}
use Rattle.std.specs.Prelude.{slice_get, slice_index, unwrap_or}
use Rattle.std.proofs.lemmas.Bool.{cases_eq}
use Rattle.std.proofs.lemmas.Bool.Decides.{nat_tests, eqb_tells}
use Rattle.norm_lang.specs.declared.text.Reg.{Reg}
use Rattle.norm_lang.specs.declared.text.Reg.TheVariants.{Num, Ref}
use Rattle.norm_lang.specs.declared.text.Instr.{Instr}
use Rattle.norm_lang.specs.declared.text.Instr.TheVariants as instr
use Rattle.norm_lang.specs.declared.registers.Reference.{Reference}
use Rattle.norm_lang.specs.declared.registers.Registers.{Registers}
use Rattle.norm_lang.specs.Registers.{no_reference, number_in, reference_in, node_in, with_number, with_reference, moved, same_bool, same_reference, are_equal}
use Rattle.norm_lang.specs.Local.{Spot, remainder, local_step, local_at, go_on, local_run}
use Rattle.state_images.specs.Images.{Naming, Kept, renamed, renamed_registers, renamed_spot, AreKept, LocalRunsAreRenamed}

module _ (n : Naming) where
  pub renamed_null : renamed n no_reference ≡ no_reference
  renamed_null = ap (λ k. let r : Reference = record { node = k; marked = false } in r) n.null

  get_map : (xs : List Reference) (r : ℕ) → unwrap_or (slice_get (map (renamed n) xs) r) no_reference ≡ renamed n (unwrap_or (slice_get xs r) no_reference)
  get_map [] r = sym renamed_null
  get_map (x ∷ xs) zero = refl
  get_map (x ∷ xs) (suc r) = get_map xs r

  pub set_map : {A B : Type 0} (f : A → B) (xs : List A) (r : ℕ) (x : A) → set (map f xs) r (f x) ≡ map f (set xs r x)
  set_map f [] r x = refl
  set_map f (y ∷ ys) zero x = refl
  set_map f (y ∷ ys) (suc r) x = ap (λ l. f y ∷ l) (set_map f ys r x)

  pub reference_renamed : (registers : Registers) (a : Reg) → reference_in (renamed_registers n registers) a ≡ renamed n (reference_in registers a)
  reference_renamed registers (Num r) = sym renamed_null
  reference_renamed registers (Ref r) = get_map registers.references r

  pub number_renamed : (registers : Registers) (a : Reg) → number_in (renamed_registers n registers) a ≡ number_in registers a
  number_renamed registers (Num r) = refl
  number_renamed registers (Ref r) = refl

  pub reference_kept : (registers : Registers) (a : Reg) → AreKept n registers → Kept n (reference_in registers a).node
  reference_kept registers (Num r) kept = n.null_kept
  reference_kept registers (Ref r) kept = kept r

  pub with_number_renamed : (registers : Registers) (d : Reg) (v : ℕ) → with_number (renamed_registers n registers) d v ≡ renamed_registers n (with_number registers d v)
  with_number_renamed registers (Num r) v = refl
  with_number_renamed registers (Ref r) v = refl

  pub with_number_kept : (registers : Registers) (d : Reg) (v : ℕ) → AreKept n registers → AreKept n (with_number registers d v)
  with_number_kept registers (Num r) v kept = kept
  with_number_kept registers (Ref r) v kept = kept

  pub with_reference_renamed : (registers : Registers) (d : Reg) (v : Reference) → with_reference (renamed_registers n registers) d (renamed n v) ≡ renamed_registers n (with_reference registers d v)
  with_reference_renamed registers (Num r) v = refl
  with_reference_renamed registers (Ref r) v = ap (λ l. let x : Registers = record { numbers = registers.numbers; references = l } in x) (set_map (renamed n) registers.references r v)

  set_kept : (xs : List Reference) (i : ℕ) (v : Reference) → Kept n v.node → ((r : ℕ) → Kept n (unwrap_or (slice_get xs r) no_reference).node)
      → (r : ℕ) → Kept n (unwrap_or (slice_get (set xs i v) r) no_reference).node
  set_kept [] i v here kept r = kept r
  set_kept (x ∷ xs) zero v here kept zero = here
  set_kept (x ∷ xs) zero v here kept (suc r) = kept (suc r)
  set_kept (x ∷ xs) (suc i) v here kept zero = kept zero
  set_kept (x ∷ xs) (suc i) v here kept (suc r) = set_kept xs i v here (λ k. kept (suc k)) r

  pub with_reference_kept : (registers : Registers) (d : Reg) (v : Reference) → Kept n v.node → AreKept n registers → AreKept n (with_reference registers d v)
  with_reference_kept registers (Num r) v here kept = kept
  with_reference_kept registers (Ref r) v here kept = set_kept registers.references r v here kept

  -- whether names are one
  pub same_name : (a b : ℕ) → Kept n a → Kept n b → (n.to a == n.to b) ≡ (a == b)
  same_name a b ka kb = ⊎_elim
      (λ (t : ((a == b) ≡ true) × (a ≡ b)). let e : n.to a ≡ n.to b = ap n.to t.1 in let s : (n.to a == n.to b) ≡ true = grind (arith, nat_tests, e) in s ∙ sym t.0)
      (λ (t : ((a == b) ≡ false) × (a ≢ b)). let e : n.to a ≢ n.to b = (λ h. t.1 (n.apart a b ka kb h)) in let s : (n.to a == n.to b) ≡ false = grind (arith, nat_tests, e) in s ∙ sym t.0)
      (eqb_tells a b)

  pub same_reference_renamed : (a b : Reference) → Kept n a.node → Kept n b.node → same_reference (renamed n a) (renamed n b) ≡ same_reference a b
  same_reference_renamed a b ka kb = ap (λ x. x && same_bool a.marked b.marked) (same_name a.node b.node ka kb)

  pub equal_renamed : (registers : Registers) (a b : Reg) → AreKept n registers → are_equal (renamed_registers n registers) a b ≡ are_equal registers a b
  equal_renamed registers (Num a) (Num b) kept = refl
  equal_renamed registers (Num a) (Ref b) kept = refl
  equal_renamed registers (Ref a) (Num b) kept = refl
  equal_renamed registers (Ref a) (Ref b) kept =
      ap (λ x. same_reference x (reference_in (renamed_registers n registers) (Ref b))) (reference_renamed registers (Ref a))
      ∙ (ap (λ y. same_reference (renamed n (reference_in registers (Ref a))) y) (reference_renamed registers (Ref b))
      ∙ same_reference_renamed (reference_in registers (Ref a)) (reference_in registers (Ref b)) (kept a) (kept b))

  abbrev SpotIs : Option Spot → Option Spot → Type 0
  SpotIs None o = o ≡ None
  SpotIs (Some spot) o = (o ≡ Some (renamed_spot n spot)) × AreKept n spot.registers

  spot_is : (at : ℕ) (g g' : Registers) → g' ≡ renamed_registers n g → AreKept n g → SpotIs (Some (record { at = at; registers = g })) (Some (record { at = at; registers = g' }))
  spot_is at g g' e kept = (ap (λ r. Some (let s : Spot = record { at = at; registers = r } in s)) e, kept)

  spot_at : (at at' : ℕ) (g : Registers) → at' ≡ at → AreKept n g → SpotIs (Some (record { at = at; registers = g })) (Some (record { at = at'; registers = renamed_registers n g }))
  spot_at at at' g e kept = (ap (λ k. Some (let s : Spot = record { at = k; registers = renamed_registers n g } in s)) e, kept)

  put_number : (g : Registers) (at : ℕ) (d : Reg) (v v' : ℕ) → v' ≡ v → AreKept n g
      → SpotIs (Some (record { at = at; registers = with_number g d v })) (Some (record { at = at; registers = with_number (renamed_registers n g) d v' }))
  put_number g at d v v' e kept = spot_is at (with_number g d v) (with_number (renamed_registers n g) d v') (ap (with_number (renamed_registers n g) d) e ∙ with_number_renamed g d v) (with_number_kept g d v kept)

  put_reference : (g : Registers) (at : ℕ) (d : Reg) (v v' : Reference) → v' ≡ renamed n v → Kept n v.node → AreKept n g
      → SpotIs (Some (record { at = at; registers = with_reference g d v })) (Some (record { at = at; registers = with_reference (renamed_registers n g) d v' }))
  put_reference g at d v v' e here kept =
      spot_is at (with_reference g d v) (with_reference (renamed_registers n g) d v') (ap (with_reference (renamed_registers n g) d) e ∙ with_reference_renamed g d v) (with_reference_kept g d v here kept)

  marks : (g : Registers) (a : Reg) (mark : Bool) → (let x : Reference = record { node = (reference_in (renamed_registers n g) a).node; marked = mark } in x) ≡ renamed n (record { node = (reference_in g a).node; marked = mark })
  marks g a mark = ap (λ (r : Reference). let x : Reference = record { node = r.node; marked = mark } in x) (reference_renamed g a)

  step_renamed : (i : Instr) (at : ℕ) (g : Registers) → AreKept n g → SpotIs (local_step i at g) (local_step i at (renamed_registers n g))
  step_renamed (instr.Set d v) at g kept = put_number g (at + 1) d v v refl kept
  step_renamed (instr.Mov d (Num a)) at g kept = put_number g (at + 1) d _ _ refl kept
  step_renamed (instr.Mov d (Ref a)) at g kept = put_reference g (at + 1) d (reference_in g (Ref a)) _ (reference_renamed g (Ref a)) (kept a) kept
  step_renamed (instr.Add d a b) at g kept =
      put_number g (at + 1) d _ _ (ap (λ x. (x + number_in (renamed_registers n g) b) % 2 ^ 64) (number_renamed g a) ∙ ap (λ y. (number_in g a + y) % 2 ^ 64) (number_renamed g b)) kept
  step_renamed (instr.Sub d a b) at g kept =
      put_number g (at + 1) d _ _ (ap (λ x. (x + (2 ^ 64 - number_in (renamed_registers n g) b)) % 2 ^ 64) (number_renamed g a) ∙ ap (λ y. (number_in g a + (2 ^ 64 - y)) % 2 ^ 64) (number_renamed g b)) kept
  step_renamed (instr.Rem d a v) at g kept = put_number g (at + 1) d _ _ (ap (λ x. remainder x v) (number_renamed g a)) kept
  step_renamed (instr.Null d) at g kept = put_reference g (at + 1) d no_reference no_reference (sym renamed_null) n.null_kept kept
  step_renamed (instr.Mark d a) at g kept = put_reference g (at + 1) d (record { node = (reference_in g a).node; marked = true }) _ (marks g a true) (reference_kept g a kept) kept
  step_renamed (instr.Unmark d a) at g kept = put_reference g (at + 1) d (record { node = (reference_in g a).node; marked = false }) _ (marks g a false) (reference_kept g a kept) kept
  step_renamed (instr.Jump l) at g kept = spot_at l l g refl kept
  step_renamed (instr.IfEq a b l) at g kept = spot_at _ _ g (ap (λ t. cond t l (at + 1)) (equal_renamed g a b kept)) kept
  step_renamed (instr.IfLess a b l) at g kept =
      spot_at _ _ g (ap (λ x. cond (nat_lt x (number_in (renamed_registers n g) b)) l (at + 1)) (number_renamed g a) ∙ ap (λ y. cond (nat_lt (number_in g a) y) l (at + 1)) (number_renamed g b)) kept
  step_renamed (instr.IfMarked a l) at g kept = spot_at _ _ g (ap (λ (r : Reference). cond r.marked l (at + 1)) (reference_renamed g a)) kept
  step_renamed _ at g kept = refl

  at_renamed : (o : Option Instr) (at : ℕ) (g : Registers) → AreKept n g → SpotIs (local_at o at g) (local_at o at (renamed_registers n g))
  at_renamed None at g kept = refl
  at_renamed (Some i) at g kept = step_renamed i at g kept

  run_renamed : (code : List Instr) (k : ℕ) (spot : Spot) → AreKept n spot.registers
      → (local_run code k (renamed_spot n spot) ≡ renamed_spot n (local_run code k spot)) × AreKept n (local_run code k spot).registers
  run_renamed code zero spot kept = (refl, kept)
  run_renamed code (suc k) spot kept =
      of (local_at (slice_get code spot.at) spot.at spot.registers) (local_at (slice_get code spot.at) spot.at (renamed_registers n spot.registers)) (at_renamed (slice_get code spot.at) spot.at spot.registers kept)
      (run_renamed code k) where
        of : (o o' : Option Spot) → SpotIs o o'
            → ((next : Spot) → AreKept n next.registers → (local_run code k (renamed_spot n next) ≡ renamed_spot n (local_run code k next)) × AreKept n (local_run code k next).registers)
            → (go_on o' (renamed_spot n spot) (local_run code k) ≡ renamed_spot n (go_on o spot (local_run code k))) × AreKept n (go_on o spot (local_run code k)).registers
        of None o' is next = (ap (λ x. go_on x (renamed_spot n spot) (local_run code k)) is, kept)
        of (Some s) o' is next = let h = next s is.1 in (ap (λ x. go_on x (renamed_spot n spot) (local_run code k)) is.0 ∙ h.0, h.1)

pub local_runs_are_renamed : LocalRunsAreRenamed
local_runs_are_renamed n code k spot kept = run_renamed n code k spot kept
