-- A caller's registers have only kinds that they may have.
use Rattle.std.proofs.Common.{◌≡◌, ◌≢◌, ℕ, zero, suc, ◌==◌, ◌||◌, ◌⊎◌, inl, inr, ⊎_elim, Bool, true, false, List, [], ◌∷◌, set, replicate, Option, Some, None, refl, sym, ap, subst, ◌∙◌, arith}
use Rattle.std.specs.Prelude.{slice_get, unwrap_or, IsTrue, IfSome}
use Rattle.std.proofs.lemmas.Bool.{cases_eq}
use Rattle.std.proofs.lemmas.Bool.Decides.{nat_tests}
use Rattle.std.proofs.lemmas.Option.{same_Some}
use Rattle.norm_lang.specs.declared.text.Reg.{Reg}
use Rattle.norm_lang.specs.declared.text.Reg.TheVariants.{Num, Ref}
use Rattle.norm_lang.specs.declared.text.FieldDecl.{FieldDecl}
use Rattle.norm_lang.specs.declared.text.RootDecl.{RootDecl}
use Rattle.norm_lang.specs.declared.text.Instr.{Instr}
use Rattle.norm_lang.specs.declared.text.Instr.TheVariants as instr
use Rattle.norm_lang.specs.declared.registers.Reference.{Reference}
use Rattle.norm_lang.specs.declared.registers.Registers.{Registers}
use Rattle.norm_lang.specs.Registers.{no_reference, number_in, reference_in, with_number, with_reference, moved, node_in}
use Rattle.norm_lang.specs.Local.{Spot, local_step}
use Rattle.norm_lang.specs.RegisterUse.{is_register_named, destination, sets}
use Rattle.norm_lang.specs.InstructionRules.{are_of_two_kinds, holds_number, has_wrong_kind}
use Rattle.norm_lang.specs.Kept.{holds_reference}
use Rattle.norm_lang.specs.Kinds.{none_held, given_kinds}
use Rattle.target_code.specs.declared.target.TargetInstr.TheVariants.{Plain}
use Rattle.target_code.specs.declared.target.TargetOp.{TargetOp}
use Rattle.target_code.specs.Paths.{TargetPath, IsTargetSuccessor, target_code_of}
use Rattle.kind_laws.specs.TargetKinds.{MayHaveInTarget, CopiesFrom, AreTyped}
use Rattle.kind_laws.specs.Laws.{LocalCodeKeepsKinds, LoadsKeepKinds, NewNodesKeepKinds, CommitsCarryKinds, RestartsKeepKinds}
use Rattle.kind_laws.proofs.Closed.{kept_kind, given_kind, copied_kind, carried_kind}

-- ---- one register

set_at : (xs : List Reference) (i : ℕ) (x : Reference) (r : ℕ) → r ≡ i → (unwrap_or (slice_get (set xs i x) r) no_reference ≡ x) ⊎ ((unwrap_or (slice_get (set xs i x) r) no_reference).node ≡ 0)
set_at [] i x r is = inr refl
set_at (y ∷ ys) zero x zero is = inl refl
set_at (y ∷ ys) zero x (suc r) is = let no : ⊥ = omega (arith, is) in absurd no
set_at (y ∷ ys) (suc i) x zero is = let no : ⊥ = omega (arith, is) in absurd no
set_at (y ∷ ys) (suc i) x (suc r) is = set_at ys i x r (omega (arith, is))

set_misses : (xs : List Reference) (i : ℕ) (x : Reference) (r : ℕ) → r ≢ i → unwrap_or (slice_get (set xs i x) r) no_reference ≡ unwrap_or (slice_get xs r) no_reference
set_misses (y ∷ ys) zero x zero ne = absurd (ne refl)
set_misses (y ∷ ys) (suc i) x (suc r) ne = set_misses ys i x r (λ is. ne (ap suc is))
set_misses _ _ x _ ne = refl

same_number : (r d : ℕ) → r ≡ d → (r == d) ≡ true
same_number r d is = grind (arith, nat_tests)

other_number : (r d : ℕ) → r ≢ d → (r == d) ≡ false
other_number r d isnt = grind (arith, nat_tests)

-- what a step leaves: a register of references that the instruction sets is null, or of a kind that it gives, or a copy; one that it
-- doesn't set names what it named
pub record Leaves (kind_of : ℕ → ℕ) (fields : List FieldDecl) (roots : List RootDecl) (i : Instr) (registers after : Registers) : Type 0 where
  pub changed : (r : ℕ) → sets (Ref r) i ≡ true
      → (node_in after r ≡ 0) ⊎ ((given_kinds fields roots i none_held (kind_of (node_in after r)) ≡ true) ⊎ ((a : ℕ) × CopiesFrom fields roots a i × (node_in after r ≡ node_in registers a)))
  pub kept : (r : ℕ) → sets (Ref r) i ≡ false → node_in after r ≡ node_in registers r

-- so registers that have only kinds that they may have go on to do so
pub goes_on : (kind_of : ℕ → ℕ) (fields : List FieldDecl) (roots : List RootDecl) (op : TargetOp) (wrapup : Bool) (at to : ℕ) (i : Instr) (registers after : Registers) (path : List ℕ)
    → TargetPath (target_code_of op wrapup) path at → slice_get (target_code_of op wrapup) at ≡ Some (Plain i) → IsTargetSuccessor (target_code_of op wrapup) at to → Leaves kind_of fields roots i registers after
    → AreTyped kind_of fields roots op wrapup at registers → AreTyped kind_of fields roots op wrapup to after
goes_on kind_of fields roots op wrapup at to i registers after path leads is goes leaves typed r = by (sets (Ref r) i) refl
  where
    copy_of : (sets_it : sets (Ref r) i ≡ true) (a : ℕ) → CopiesFrom fields roots a i → node_in after r ≡ node_in registers a → (node_in after r ≡ 0) ⊎ MayHaveInTarget fields roots op wrapup r to (kind_of (node_in after r))
    copy_of sets_it a copies same = ⊎_elim
        (λ (null : node_in registers a ≡ 0). inl (same ∙ null))
        (λ (may : MayHaveInTarget fields roots op wrapup a at (kind_of (node_in registers a))).
        inr (subst (λ (n : ℕ). MayHaveInTarget fields roots op wrapup r to (kind_of n)) (sym same) (copied_kind fields roots op wrapup r a at to (kind_of (node_in registers a)) i is goes sets_it copies may)))
        (typed a)

    by : (b : Bool) → sets (Ref r) i ≡ b → (node_in after r ≡ 0) ⊎ MayHaveInTarget fields roots op wrapup r to (kind_of (node_in after r))
    by false isnt =
        let same = leaves.kept r isnt in
        ⊎_elim
        (λ (null : node_in registers r ≡ 0). inl (same ∙ null))
        (λ (may : MayHaveInTarget fields roots op wrapup r at (kind_of (node_in registers r))).
        inr (subst (λ (n : ℕ). MayHaveInTarget fields roots op wrapup r to (kind_of n)) (sym same) (kept_kind fields roots op wrapup r at to (kind_of (node_in registers r)) (Plain i) is goes isnt may)))
        (typed r)
    by true sets_it = ⊎_elim
        (λ (null : node_in after r ≡ 0). inl null)
        (λ (rest : (given_kinds fields roots i none_held (kind_of (node_in after r)) ≡ true) ⊎ ((a : ℕ) × CopiesFrom fields roots a i × (node_in after r ≡ node_in registers a))). ⊎_elim
        (λ (gives : given_kinds fields roots i none_held (kind_of (node_in after r)) ≡ true). inr (given_kind fields roots op wrapup r at to (kind_of (node_in after r)) i path leads is goes sets_it gives))
        (λ (copy : (a : ℕ) × CopiesFrom fields roots a i × (node_in after r ≡ node_in registers a)). copy_of sets_it copy.0 copy.1 copy.2)
        rest)
        (leaves.changed r sets_it)

-- ---- what each instruction leaves

module _ (kind_of : ℕ → ℕ) (fields : List FieldDecl) (roots : List RootDecl) where
  -- a reference is put into a register
  puts_reference : (i : Instr) (d : Reg) (v : Reference) (registers : Registers) → destination i ≡ Some d
      → (v.node ≡ 0) ⊎ ((given_kinds fields roots i none_held (kind_of v.node) ≡ true) ⊎ ((a : ℕ) × CopiesFrom fields roots a i × (v.node ≡ node_in registers a)))
      → Leaves kind_of fields roots i registers (with_reference registers d v)
  puts_reference i (Num d) v registers is right = record {
    changed = λ r sets_it. let no : false ≡ true = sym (ap (is_register_named (Ref r)) is) ∙ sets_it in absurd (let never : false ≡ true = no in cc);
    kept = λ r isnt. refl;
  }
  puts_reference i (Ref d) v registers is right = record { changed = here; kept = there }
    where
      named : (r : ℕ) → (r == d) ≡ sets (Ref r) i
      named r = sym (ap (is_register_named (Ref r)) is)

      here : (r : ℕ) → sets (Ref r) i ≡ true → (node_in (with_reference registers (Ref d) v) r ≡ 0)
          ⊎ ((given_kinds fields roots i none_held (kind_of (node_in (with_reference registers (Ref d) v) r)) ≡ true) ⊎ ((a : ℕ) × CopiesFrom fields roots a i × (node_in (with_reference registers (Ref d) v) r ≡ node_in registers a)))
      here r sets_it =
          let test : (r == d) ≡ true = named r ∙ sets_it in
          let same : r ≡ d = grind (arith, nat_tests) in
          ⊎_elim
          (λ (found : unwrap_or (slice_get (set registers.references d v) r) no_reference ≡ v).
          subst (λ (x : Reference). (x.node ≡ 0) ⊎ ((given_kinds fields roots i none_held (kind_of x.node) ≡ true) ⊎ ((a : ℕ) × CopiesFrom fields roots a i × (x.node ≡ node_in registers a)))) (sym found) right)
          (λ (null : (unwrap_or (slice_get (set registers.references d v) r) no_reference).node ≡ 0). inl null)
          (set_at registers.references d v r same)

      there : (r : ℕ) → sets (Ref r) i ≡ false → node_in (with_reference registers (Ref d) v) r ≡ node_in registers r
      there r isnt = ⊎_elim
          (λ (same : r ≡ d). let no : false ≡ true = sym isnt ∙ (sym (named r) ∙ same_number r d same) in absurd (let never : false ≡ true = no in cc))
          (λ (other : r ≢ d). ap (λ (x : Reference). x.node) (set_misses registers.references d v r other))
          (cases_eq r d)

  -- a number is put into a register of numbers
  puts_number : (i : Instr) (d : Reg) (n : ℕ) (registers : Registers) → destination i ≡ Some d → holds_reference d ≡ false → Leaves kind_of fields roots i registers (with_number registers d n)
  puts_number i (Num d) n registers is number = record {
    changed = λ r sets_it. let no : false ≡ true = sym (ap (is_register_named (Ref r)) is) ∙ sets_it in absurd (let never : false ≡ true = no in cc);
    kept = λ r isnt. refl;
  }
  puts_number i (Ref d) n registers is number = absurd (let no : true ≡ false = number in cc)

  -- no register changes
  leaves_all : (i : Instr) (registers : Registers) → destination i ≡ None → Leaves kind_of fields roots i registers registers
  leaves_all i registers none = record {
    changed = λ r sets_it. let no : false ≡ true = sym (ap (is_register_named (Ref r)) none) ∙ sets_it in absurd (let never : false ≡ true = no in cc);
    kept = λ r isnt. refl;
  }

  move_leaves : (d a : Reg) (registers : Registers) → are_of_two_kinds d a ≡ false → Leaves kind_of fields roots (instr.Mov d a) registers (moved registers d a)
  move_leaves (Num d) (Num a) registers right = puts_number (instr.Mov (Num d) (Num a)) (Num d) (number_in registers (Num a)) registers refl refl
  move_leaves (Num d) (Ref a) registers right = absurd (let no : true ≡ false = right in cc)
  move_leaves (Ref d) (Num a) registers right = absurd (let no : true ≡ false = right in cc)
  move_leaves (Ref d) (Ref a) registers right = puts_reference (instr.Mov (Ref d) (Ref a)) (Ref d) (reference_in registers (Ref a)) registers refl (inr (inr (a, (λ held t. refl), refl)))

  mark_leaves : (d a : Reg) (registers : Registers) → (holds_number d || holds_number a) ≡ false
      → Leaves kind_of fields roots (instr.Mark d a) registers (with_reference registers d (record { node = (reference_in registers a).node; marked = true }))
  mark_leaves (Ref d) (Ref a) registers right =
      puts_reference (instr.Mark (Ref d) (Ref a)) (Ref d) (record { node = (reference_in registers (Ref a)).node; marked = true }) registers refl (inr (inr (a, (λ held t. refl), refl)))
  mark_leaves _ _ registers right = absurd (let no : true ≡ false = right in cc)

  unmark_leaves : (d a : Reg) (registers : Registers) → (holds_number d || holds_number a) ≡ false
      → Leaves kind_of fields roots (instr.Unmark d a) registers (with_reference registers d (record { node = (reference_in registers a).node; marked = false }))
  unmark_leaves (Ref d) (Ref a) registers right =
      puts_reference (instr.Unmark (Ref d) (Ref a)) (Ref d) (record { node = (reference_in registers (Ref a)).node; marked = false }) registers refl (inr (inr (a, (λ held t. refl), refl)))
  unmark_leaves _ _ registers right = absurd (let no : true ≡ false = right in cc)

  -- a local instruction whose registers are of the right kinds: one of another kind keeps what it holds, though the instruction sets it
  local_leaves : (i : Instr) (place : ℕ) (registers : Registers) → has_wrong_kind fields roots i ≡ false → IfSome (local_step i place registers) (λ (spot : Spot). Leaves kind_of fields roots i registers spot.registers)
  local_leaves (instr.Set d n) place registers right = puts_number (instr.Set d n) d n registers refl right
  local_leaves (instr.Mov d a) place registers right = move_leaves d a registers right
  local_leaves (instr.Add d a b) place registers right = puts_number (instr.Add d a b) d _ registers refl right
  local_leaves (instr.Sub d a b) place registers right = puts_number (instr.Sub d a b) d _ registers refl right
  local_leaves (instr.Rem d a n) place registers right = puts_number (instr.Rem d a n) d _ registers refl right
  local_leaves (instr.Mark d a) place registers right = mark_leaves d a registers right
  local_leaves (instr.Unmark d a) place registers right = unmark_leaves d a registers right
  local_leaves (instr.Null d) place registers right = puts_reference (instr.Null d) d no_reference registers refl (inl refl)
  local_leaves (instr.Jump l) place registers right = leaves_all (instr.Jump l) registers refl
  local_leaves (instr.IfEq a b l) place registers right = leaves_all (instr.IfEq a b l) registers refl
  local_leaves (instr.IfLess a b l) place registers right = leaves_all (instr.IfLess a b l) registers refl
  local_leaves (instr.IfMarked a l) place registers right = leaves_all (instr.IfMarked a l) registers refl
  local_leaves _ place registers right = tt

-- ---- the laws

some_spot : (P : Spot → Type 0) (o : Option Spot) (spot : Spot) → o ≡ Some spot → IfSome o P → P spot
some_spot P None spot is holds = absurd (let no : None ≡ Some spot = is in cc)
some_spot P (Some other) spot is holds = subst P (same_Some other spot is) holds

pub local_code_keeps : LocalCodeKeepsKinds
local_code_keeps kind_of fields roots op wrapup at registers i place spot path leads is right steps to goes typed =
    goes_on kind_of fields roots op wrapup at to i registers spot.registers path leads is goes
    (some_spot (λ (s : Spot). Leaves kind_of fields roots i registers s.registers) (local_step i place registers) spot steps (local_leaves kind_of fields roots i place registers right)) typed

pub loads_keep : LoadsKeepKinds
loads_keep kind_of fields roots op wrapup at registers i d found path leads is sets_it right to goes typed =
    goes_on kind_of fields roots op wrapup at to i registers (with_reference registers d found) path leads is goes
    (puts_reference kind_of fields roots i d found registers sets_it
    (⊎_elim (λ (null : found.node ≡ 0). inl null) (λ (gives : IsTrue (given_kinds fields roots i none_held (kind_of found.node))). inr (inl gives)) right)) typed

same_kind : (a b : ℕ) → a ≡ b → (b == a) ≡ true
same_kind a b is = grind (arith, nat_tests)

pub new_nodes_keep : NewNodesKeepKinds
new_nodes_keep kind_of fields roots op wrapup at registers d kind slot path leads is of_kind to goes typed =
    goes_on kind_of fields roots op wrapup at to (instr.New d kind) registers (with_reference registers d (record { node = slot; marked = false })) path leads is goes
    (puts_reference kind_of fields roots (instr.New d kind) d (record { node = slot; marked = false }) registers refl (inr (inl (same_kind (kind_of slot) kind of_kind)))) typed

pub commits_carry : CommitsCarryKinds
commits_carry kind_of fields roots op at registers entries is typed r = ⊎_elim
    (λ (null : node_in registers r ≡ 0). inl null)
    (λ (may : MayHaveInTarget fields roots op false r at (kind_of (node_in registers r))). inr (carried_kind fields roots op r at (kind_of (node_in registers r)) entries is may))
    (typed r)

all_null : (n r : ℕ) → unwrap_or (slice_get (replicate n no_reference) r) no_reference ≡ no_reference
all_null (suc n) (suc r) = all_null n r
all_null _ _ = refl

pub restarts_keep : RestartsKeepKinds
restarts_keep kind_of fields roots op wrapup at args r = inl (ap (λ (x : Reference). x.node) (all_null 8 r))
