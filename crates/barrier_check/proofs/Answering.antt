-- What the answers to an instruction say.
use Rattle.std.proofs.Common.{◌≡◌, ℕ, ◌<◌, ◌≤◌, Bool, true, false, List, Some, None, refl, sym, ◌∙◌, arith}
use Rattle.std.specs.Prelude.{slice_get, slice_index_or}
use Rattle.norm_lang.specs.declared.text.Text.{Text}
use Rattle.norm_lang.specs.declared.text.Op.{Op}
use Rattle.target_code.specs.declared.target.TargetInstr.{TargetInstr}
use Rattle.target_code.specs.declared.target.TargetOp.{TargetOp}
use Rattle.target_code.specs.declared.target.Target.{Target}
use Rattle.target_code.specs.Paths.{target_code_of}
use Rattle.target_code.specs.Barred.{FlawKind, ErasesDifferently, UncheckedUse, Unguarded, GuardAfterCheck, GuardDropped, kind_number, Flaw, IsFlawed, HasFlaw}
use Rattle.target_flaws.specs.FlawAnswers.{AreFlawAnswers}
use Rattle.barrier_check.specs.declared.flaw.FlawKind.{FlawKind as ToldKind}
use Rattle.barrier_check.specs.declared.flaw.FlawKind.TheVariants as told
use Rattle.barrier_check.specs.FlawsTold.{kind_of, flaw_of, answer_for, IsFirstKind}
use Rattle.barrier_check.specs.Comparing.{IsSubject}
use Rattle.barrier_check.specs.Scopes.{AtPlace, IsClear, IsFirstThere}
use Rattle.barrier_check.proofs.Placing.{before_kind}
use Rattle.barrier_check.proofs.Whole.{flawed_there, there_flawed}

-- no answer is yes
pub none_yes : (answers : List Bool) → slice_index_or answers 0 false ≡ false → slice_index_or answers 1 false ≡ false → slice_index_or answers 2 false ≡ false
    → slice_index_or answers 3 false ≡ false → IsFirstKind answers None
none_yes answers n0 n1 n2 n3 = each
  where
    each : (kind : FlawKind) → 2 ≤ kind_number kind → answer_for answers kind ≡ false
    each ErasesDifferently least = absurd (omega (arith, least))
    each UncheckedUse least = n0
    each Unguarded least = n1
    each GuardAfterCheck least = n2
    each GuardDropped least = n3

pub first_yes : (answers : List Bool) → slice_index_or answers 0 false ≡ true → IsFirstKind answers (Some told.UncheckedUse)
first_yes answers agreed = (omega arith, agreed, λ kind least less. absurd (omega (arith, least, less)))

pub second_yes : (answers : List Bool) → slice_index_or answers 0 false ≡ false → slice_index_or answers 1 false ≡ true → IsFirstKind answers (Some told.Unguarded)
second_yes answers n0 agreed = (omega arith, agreed, earlier)
  where
    earlier : (kind : FlawKind) → 2 ≤ kind_number kind → kind_number kind < 3 → answer_for answers kind ≡ false
    earlier ErasesDifferently least less = absurd (omega (arith, least))
    earlier UncheckedUse least less = n0
    earlier _ least less = absurd (omega (arith, less))

pub third_yes : (answers : List Bool) → slice_index_or answers 0 false ≡ false → slice_index_or answers 1 false ≡ false → slice_index_or answers 2 false ≡ true
    → IsFirstKind answers (Some told.GuardAfterCheck)
third_yes answers n0 n1 agreed = (omega arith, agreed, earlier)
  where
    earlier : (kind : FlawKind) → 2 ≤ kind_number kind → kind_number kind < 4 → answer_for answers kind ≡ false
    earlier ErasesDifferently least less = absurd (omega (arith, least))
    earlier UncheckedUse least less = n0
    earlier Unguarded least less = n1
    earlier GuardAfterCheck least less = absurd (omega (arith, less))
    earlier GuardDropped least less = absurd (omega (arith, less))

pub fourth_yes : (answers : List Bool) → slice_index_or answers 0 false ≡ false → slice_index_or answers 1 false ≡ false → slice_index_or answers 2 false ≡ false
    → slice_index_or answers 3 false ≡ true → IsFirstKind answers (Some told.GuardDropped)
fourth_yes answers n0 n1 n2 agreed = (omega arith, agreed, earlier)
  where
    earlier : (kind : FlawKind) → 2 ≤ kind_number kind → kind_number kind < 5 → answer_for answers kind ≡ false
    earlier ErasesDifferently least less = absurd (omega (arith, least))
    earlier UncheckedUse least less = n0
    earlier Unguarded least less = n1
    earlier GuardAfterCheck least less = n2
    earlier GuardDropped least less = absurd (omega (arith, less))

-- that a target erases differently is no flaw of an instruction
of_instruction : (kind : FlawKind) (source : Op) (wrapup : Bool) (code : List TargetInstr) (at : ℕ) (i : TargetInstr) → IsFlawed kind source wrapup code at i → 2 ≤ kind_number kind
of_instruction ErasesDifferently source wrapup code at i flawed = absurd flawed
of_instruction _ source wrapup code at i flawed = omega arith

both_ways : (b : Bool) → b ≡ true → b ≡ false → ⊥
both_ways b agreed denied = let never : false ≡ true = sym denied ∙ agreed in cc

pub clear_there : (target : Target) (text : Text) (number : ℕ) (op : TargetOp) (source : Op) (wrapup : Bool) (at : ℕ) (i : TargetInstr) (answers : List Bool)
    → IsSubject target text number op source → slice_get (target_code_of op wrapup) at ≡ Some i → AreFlawAnswers source wrapup (target_code_of op wrapup) at i answers
    → IsFirstKind answers None → IsClear (HasFlaw target text) (AtPlace number wrapup at)
clear_there target text number op source wrapup at i answers subject stands are none flaw there has =
    let flawed : IsFlawed flaw.kind source wrapup (target_code_of op wrapup) at i = flawed_there target text number op source wrapup at i flaw subject stands there has in
    let least : 2 ≤ kind_number flaw.kind = of_instruction flaw.kind source wrapup (target_code_of op wrapup) at i flawed in
    both_ways (answer_for answers flaw.kind) ((are.each flaw.kind least).1 flawed) (none flaw.kind least)

pub first_there : (target : Target) (text : Text) (number : ℕ) (op : TargetOp) (source : Op) (wrapup : Bool) (at : ℕ) (i : TargetInstr) (answers : List Bool) (found : ToldKind)
    → IsSubject target text number op source → slice_get (target_code_of op wrapup) at ≡ Some i → AreFlawAnswers source wrapup (target_code_of op wrapup) at i answers
    → IsFirstKind answers (Some found) → IsFirstThere (HasFlaw target text) (AtPlace number wrapup at) (flaw_of (record { kind = found; op = number; wrapup = wrapup; at = at }))
first_there target text number op source wrapup at i answers found subject stands are first =
    let told : Flaw = record { kind = kind_of found; op = number; wrapup = wrapup; at = at } in
    record {
      there = (refl, refl, refl);
      has = there_flawed target text number op source wrapup at i told subject stands (refl, refl, refl) ((are.each (kind_of found) first.0).0 first.1);
      first = λ other there before has.
          let flawed : IsFlawed other.kind source wrapup (target_code_of op wrapup) at i = flawed_there target text number op source wrapup at i other subject stands there has in
          let least : 2 ≤ kind_number other.kind = of_instruction other.kind source wrapup (target_code_of op wrapup) at i flawed in
          let less : kind_number other.kind < kind_number (kind_of found) = before_kind other told there.0 there.1 there.2 before in
          both_ways (answer_for answers other.kind) ((are.each other.kind least).1 flawed) (first.2 other.kind least less);
    }
