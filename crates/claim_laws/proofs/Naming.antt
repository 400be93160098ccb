-- Registers, guards, cradles and words that don't name a slot go on not to.
use Rattle.std.proofs.Common.{◌≡◌, ◌≢◌, ℕ, zero, suc, ◌+◌, ◌*◌, ◌/◌, ◌%◌, ◌^◌, ◌≤◌, ◌==◌, Bool, true, false, List, [], ◌∷◌, set, map, Option, Some, None, refl, sym, subst, arith, if◌then◌else◌}
use Rattle.std.specs.Prelude.{slice_get, slice_index, IfSome}
use Rattle.std.specs.List.{All}
use Rattle.std.proofs.lemmas.List.Elements.{All-push}
use Rattle.norm_lang.specs.declared.text.Reg.{Reg}
use Rattle.norm_lang.specs.declared.text.Reg.TheVariants.{Num, Ref}
use Rattle.norm_lang.specs.declared.text.FieldKind.{FieldKind}
use Rattle.norm_lang.specs.declared.text.FieldKind.TheVariants as holdings
use Rattle.norm_lang.specs.declared.text.Instr.{Instr}
use Rattle.norm_lang.specs.declared.text.Instr.TheVariants as instr
use Rattle.norm_lang.specs.declared.registers.Reference.{Reference}
use Rattle.norm_lang.specs.declared.registers.Registers.{Registers}
use Rattle.norm_lang.specs.Registers.{no_reference, first_registers, number_in, reference_in, with_number, with_reference, moved}
use Rattle.norm_lang.specs.InstructionRules.{is_unlike}
use Rattle.norm_lang.specs.Local.{Spot, local_step, go_on}
use Rattle.target_code.specs.declared.target.TargetInstr.{TargetInstr}
use Rattle.target_code.specs.declared.target.TargetInstr.TheVariants.{Plain}
use Rattle.target_code.specs.LocalCode.{target_local_at, target_run}
use Rattle.oa_words.specs.Packed.{ref_word, slot_part}
use Rattle.guard_words.specs.Guards.{Guards, guard_at, with_guard, with_slot}
use Rattle.caller_parts.specs.Operands.{unpacked, with_word, word_in, slot_in, emptied, to_retire}
use Rattle.core_runs.proofs.caller_laws.Named.{set_keeps}
use Rattle.core_runs.proofs.caller_laws.Going.{are_alike}
use Rattle.claim_laws.specs.Untouched.{ValueAvoids, RegistersAvoid}

-- of two kinds of values that are alike: a word that avoids the slot as a value of one does so as a value of the other
pub alike_avoids : (j : ℕ) (one other : Option FieldKind) (word : ℕ) → are_alike one other ≡ true → ValueAvoids j other word → ValueAvoids j one word
alike_avoids j None other word alike avoids = tt
alike_avoids j (Some holdings.Number) other word alike avoids = tt
alike_avoids j (Some (holdings.Reference k)) None word alike avoids = absurd (let z : false ≡ true = alike in cc)
alike_avoids j (Some (holdings.Reference k)) (Some holdings.Number) word alike avoids = absurd (let z : false ≡ true = alike in cc)
alike_avoids j (Some (holdings.Reference k)) (Some (holdings.Reference i)) word alike avoids = avoids

module _ (j : ℕ) (some : 1 ≤ j) where
  pub null : 0 ≢ j
  null is = omega (arith, is, some)

  pub numbered : (registers : Registers) (d : Reg) (n : ℕ) → RegistersAvoid j registers → RegistersAvoid j (with_number registers d n)
  numbered registers (Num d) n s = s
  numbered registers (Ref d) n s = s

  pub referred : (registers : Registers) (d : Reg) (v : Reference) → RegistersAvoid j registers → v.node ≢ j → RegistersAvoid j (with_reference registers d v)
  referred registers (Num d) v s other = s
  referred registers (Ref d) v s other = λ r. set_keeps (λ (x : Reference). x.node ≢ j) registers.references d v no_reference r other (s r)

  moves : (registers : Registers) (d a : Reg) → RegistersAvoid j registers → RegistersAvoid j (moved registers d a)
  moves registers d (Num a) s = numbered registers d (number_in registers (Num a)) s
  moves registers d (Ref a) s = referred registers d (reference_in registers (Ref a)) s (s a)

  pub names_other : (registers : Registers) (a : Reg) → RegistersAvoid j registers → slot_in registers a ≢ j
  names_other registers (Num a) s = null
  names_other registers (Ref a) s = s a

  pub worded : (registers : Registers) (kind : Option FieldKind) (d : Reg) (word : ℕ) → RegistersAvoid j registers → ValueAvoids j kind word → is_unlike kind d ≡ false
      → RegistersAvoid j (with_word registers d word)
  worded registers kind (Num d) word s other like = numbered registers (Num d) word s
  worded registers None (Ref d) word s other like = absurd (let e : true ≡ false = like in cc)
  worded registers (Some holdings.Number) (Ref d) word s other like = absurd (let e : true ≡ false = like in cc)
  worded registers (Some (holdings.Reference k)) (Ref d) word s other like = referred registers (Ref d) (unpacked word) s other

  pub first_avoid : (args : List ℕ) → RegistersAvoid j (first_registers args)
  first_avoid args (suc (suc (suc (suc (suc (suc (suc zero))))))) = null
  first_avoid args _ = null

  -- ---- local code

  local_avoids : (i : Instr) (at : ℕ) (registers : Registers) → RegistersAvoid j registers → IfSome (local_step i at registers) (λ (spot : Spot). RegistersAvoid j spot.registers)
  local_avoids (instr.Set d n) at registers s = numbered registers d n s
  local_avoids (instr.Mov d a) at registers s = moves registers d a s
  local_avoids (instr.Add d a b) at registers s = numbered registers d ((number_in registers a + number_in registers b) % 2 ^ 64) s
  local_avoids (instr.Sub d a b) at registers s = numbered registers d _ s
  local_avoids (instr.Rem d a n) at registers s = numbered registers d _ s
  local_avoids (instr.Mark d a) at registers s = referred registers d (record { node = (reference_in registers a).node; marked = true }) s (names_other registers a s)
  local_avoids (instr.Unmark d a) at registers s = referred registers d (record { node = (reference_in registers a).node; marked = false }) s (names_other registers a s)
  local_avoids (instr.Null d) at registers s = referred registers d no_reference s null
  local_avoids (instr.Jump l) at registers s = s
  local_avoids (instr.IfEq a b l) at registers s = s
  local_avoids (instr.IfLess a b l) at registers s = s
  local_avoids (instr.IfMarked a l) at registers s = s
  local_avoids _ at registers s = tt

  abbrev Further : List TargetInstr → ℕ → Type 0
  Further code n = (next : Spot) → RegistersAvoid j next.registers → RegistersAvoid j (target_run code n next).registers

  pub run_avoids : (code : List TargetInstr) (n : ℕ) (spot : Spot) → RegistersAvoid j spot.registers → RegistersAvoid j (target_run code n spot).registers
  run_avoids code zero spot s = s
  run_avoids code (suc n) spot s = turn (λ next d. run_avoids code n next d) (slice_get code spot.at) where
    step : Further code n → (i : Instr) → (o : Option Spot) → local_step i spot.at spot.registers ≡ o → RegistersAvoid j (go_on o spot (target_run code n)).registers
    step further i None steps = s
    step further i (Some next) steps = further next (subst (λ (o : Option Spot). IfSome o (λ (x : Spot). RegistersAvoid j x.registers)) steps (local_avoids i spot.at spot.registers s))

    turn : Further code n → (o : Option TargetInstr) → RegistersAvoid j (go_on (target_local_at o spot.at spot.registers) spot (target_run code n)).registers
    turn further (Some (Plain i)) = step further i (local_step i spot.at spot.registers) refl
    turn further _ = s

  -- ---- what a register gives

  packed_slot : (node : ℕ) (marked : Bool) → slot_part (ref_word node marked) ≡ node
  packed_slot node true = let e : (2 * node + 1) / 2 ≡ node = omega arith in e
  packed_slot node false = let e : (2 * node + 0) / 2 ≡ node = omega arith in e

  pub register_avoids : (registers : Registers) (kind : Option FieldKind) (b : Reg) → RegistersAvoid j registers → is_unlike kind b ≡ false → ValueAvoids j kind (word_in registers b)
  register_avoids registers (Some (holdings.Reference k)) (Num b) s like = absurd (let z : true ≡ false = like in cc)
  register_avoids registers (Some (holdings.Reference k)) (Ref b) s like =
      subst (λ (n : ℕ). n ≢ j) (sym (packed_slot (reference_in registers (Ref b)).node (reference_in registers (Ref b)).marked)) (s b)
  register_avoids registers _ b s like = tt

  pub zero_avoids : (kind : Option FieldKind) → ValueAvoids j kind 0
  zero_avoids (Some (holdings.Reference k)) = null
  zero_avoids _ = tt

  pub retires_other : (retire : Option Reg) (registers : Registers) → RegistersAvoid j registers → to_retire retire registers ≢ j
  retires_other None registers s = null
  retires_other (Some r) registers s = names_other registers r s

  -- ---- guards, cradles and gathered slots

  pub guard_put : (guards : Guards) (r slot k : ℕ) → ((i : ℕ) → guard_at guards i ≢ j) → slot ≢ j → guard_at (with_guard guards r slot) k ≢ j
  guard_put guards r slot k g other = set_keeps (λ (x : ℕ). x ≢ j) guards.slots r slot 0 k other (g k)

  pub cradle_put : (xs : List ℕ) (i x r : ℕ) → x ≢ j → slice_index xs r ≢ j → slice_index (set xs i x) r ≢ j
  cradle_put (y ∷ ys) zero x zero p q = p
  cradle_put (y ∷ ys) (suc i) x (suc r) p q = cradle_put ys i x r p q
  cradle_put _ _ x _ p q = q

  pub cradle_emptied : (slot : ℕ) (xs : List ℕ) (k : ℕ) → slice_index xs k ≢ j → slice_index (map (emptied slot) xs) k ≢ j
  cradle_emptied slot [] k other = other
  cradle_emptied slot (x ∷ xs) zero other = of (x == slot) where
    of : (b : Bool) → (if b then 0 else x) ≢ j
    of true = null
    of false = other
  cradle_emptied slot (x ∷ xs) (suc k) other = cradle_emptied slot xs k other

  pub gathered : (slots : List ℕ) (word : ℕ) → word ≢ j → All (λ (slot : ℕ). slot ≢ j) slots → All (λ (slot : ℕ). slot ≢ j) (with_slot slots word)
  gathered slots zero other all = all
  gathered slots (suc i) other all = All-push (λ (slot : ℕ). slot ≢ j) slots (suc i) all other
