-- The flaws of an instruction at its place, of a whole method, and of all operations.
use Rattle.std.proofs.Common.{◌≡◌, ℕ, ◌≤◌, inl, inr, Bool, length, Option, Some, None, refl, sym, subst, arith}
use Rattle.std.specs.Prelude.{slice_get, IsSomeAnd}
use Rattle.std.proofs.lemmas.Option.{slice_get_past}
use Rattle.norm_lang.specs.declared.text.Text.{Text}
use Rattle.norm_lang.specs.declared.text.Op.{Op}
use Rattle.target_code.specs.declared.target.TargetInstr.{TargetInstr}
use Rattle.target_code.specs.declared.target.TargetOp.{TargetOp}
use Rattle.target_code.specs.declared.target.Target.{Target}
use Rattle.target_code.specs.Paths.{target_code_of}
use Rattle.target_code.specs.Barred.{FlawKind, Flaw, IsFlawed, HasFlaw}
use Rattle.barrier_check.specs.Comparing.{IsSubject}
use Rattle.barrier_check.specs.Scopes.{AtPlace, InMethod, Anywhere, IsClear}
use Rattle.barrier_check.proofs.Placing.{less_or_more}
use Rattle.barrier_check.proofs.Parts.{Above, Earlier}
use Rattle.norm_check.proofs.Placing.{and_some, some_and}

-- a flaw of the instruction that may stand at a place of an operation
abbrev FlawOfInstr : FlawKind → Op → TargetOp → Bool → ℕ → Type 0
FlawOfInstr kind source op wrapup at = IsSomeAnd (slice_get (target_code_of op wrapup) at) (λ i. IsFlawed kind source wrapup (target_code_of op wrapup) at i)

-- of an operation that a target may have
abbrev FlawOfOp : Target → FlawKind → ℕ → Bool → ℕ → Op → Type 0
FlawOfOp target kind number wrapup at source = IsSomeAnd (slice_get target.ops number) (λ op. FlawOfInstr kind source op wrapup at)

-- a target has a flaw, each part of it by itself
abbrev HasAt : Target → Text → FlawKind → ℕ → Bool → ℕ → Type 0
HasAt target text kind number wrapup at = IsSomeAnd (slice_get text.ops number) (FlawOfOp target kind number wrapup at)

moved : (target : Target) (text : Text) (flaw : Flaw) (number : ℕ) (wrapup : Bool) (at : ℕ) → AtPlace number wrapup at flaw → HasFlaw target text flaw → HasAt target text flaw.kind number wrapup at
moved target text flaw number wrapup at there has =
    subst (λ a. HasAt target text flaw.kind number wrapup a) there.2
    (subst (λ w. HasAt target text flaw.kind number w flaw.at) there.1
    (subst (λ n. HasAt target text flaw.kind n flaw.wrapup flaw.at) there.0 has))

moved_back : (target : Target) (text : Text) (flaw : Flaw) (number : ℕ) (wrapup : Bool) (at : ℕ) → AtPlace number wrapup at flaw → HasAt target text flaw.kind number wrapup at → HasFlaw target text flaw
moved_back target text flaw number wrapup at there has =
    subst (λ n. HasAt target text flaw.kind n flaw.wrapup flaw.at) (sym there.0)
    (subst (λ w. HasAt target text flaw.kind number w flaw.at) (sym there.1)
    (subst (λ a. HasAt target text flaw.kind number wrapup a) (sym there.2) has))

flaw_of_instr : (target : Target) (text : Text) (kind : FlawKind) (number : ℕ) (op : TargetOp) (source : Op) (wrapup : Bool) (at : ℕ) → IsSubject target text number op source
    → HasAt target text kind number wrapup at → FlawOfInstr kind source op wrapup at
flaw_of_instr target text kind number op source wrapup at subject has =
    some_and (slice_get target.ops number) op (λ o. FlawOfInstr kind source o wrapup at) subject.compiled
    (some_and (slice_get text.ops number) source (FlawOfOp target kind number wrapup at) subject.stands has)

-- a flaw at an instruction's place is one of the instruction
pub flawed_there : (target : Target) (text : Text) (number : ℕ) (op : TargetOp) (source : Op) (wrapup : Bool) (at : ℕ) (i : TargetInstr) (flaw : Flaw) → IsSubject target text number op source
    → slice_get (target_code_of op wrapup) at ≡ Some i → AtPlace number wrapup at flaw → HasFlaw target text flaw → IsFlawed flaw.kind source wrapup (target_code_of op wrapup) at i
flawed_there target text number op source wrapup at i flaw subject stands there has =
    some_and (slice_get (target_code_of op wrapup) at) i (λ j. IsFlawed flaw.kind source wrapup (target_code_of op wrapup) at j) stands
    (flaw_of_instr target text flaw.kind number op source wrapup at subject (moved target text flaw number wrapup at there has))

pub there_flawed : (target : Target) (text : Text) (number : ℕ) (op : TargetOp) (source : Op) (wrapup : Bool) (at : ℕ) (i : TargetInstr) (flaw : Flaw) → IsSubject target text number op source
    → slice_get (target_code_of op wrapup) at ≡ Some i → AtPlace number wrapup at flaw → IsFlawed flaw.kind source wrapup (target_code_of op wrapup) at i → HasFlaw target text flaw
there_flawed target text number op source wrapup at i flaw subject stands there flawed =
    moved_back target text flaw number wrapup at there
    (and_some (slice_get text.ops number) source (FlawOfOp target flaw.kind number wrapup at) subject.stands
    (and_some (slice_get target.ops number) op (λ o. FlawOfInstr flaw.kind source o wrapup at) subject.compiled
    (and_some (slice_get (target_code_of op wrapup) at) i (λ j. IsFlawed flaw.kind source wrapup (target_code_of op wrapup) at j) stands flawed)))

nothing_there : {X : Type 0} (o : Option X) (P : X → Type 0) → o ≡ None → ¬ IsSomeAnd o P
nothing_there o P is holds = subst (λ z. IsSomeAnd z P) is holds

-- after the last instruction there is no flaw
pub whole_method : (target : Target) (text : Text) (number : ℕ) (op : TargetOp) (source : Op) (wrapup : Bool) (at : ℕ) → IsSubject target text number op source → length (target_code_of op wrapup) ≤ at
    → IsClear (HasFlaw target text) (Above number wrapup at) → IsClear (HasFlaw target text) (InMethod number wrapup)
whole_method target text number op source wrapup at subject past above flaw there has =
    elim (less_or_more flaw.at at) [
      | inl less ↦ above flaw (there, less) has
      | inr more ↦ nothing_there (slice_get (target_code_of op wrapup) flaw.at) (λ j. IsFlawed flaw.kind source wrapup (target_code_of op wrapup) flaw.at j)
          (slice_get_past (target_code_of op wrapup) flaw.at (omega (arith, past, more)))
          (flaw_of_instr target text flaw.kind number op source wrapup flaw.at subject (moved target text flaw number wrapup flaw.at (there.0, there.1, refl) has))
    ]

-- nor after the last operation
pub all_operations : (target : Target) (text : Text) (count : ℕ) → length text.ops ≤ count → IsClear (HasFlaw target text) (Earlier count) → IsClear (HasFlaw target text) Anywhere
all_operations target text count past earlier flaw there has =
    elim (less_or_more flaw.op count) [
      | inl less ↦ earlier flaw less has
      | inr more ↦ nothing_there (slice_get text.ops flaw.op) (FlawOfOp target flaw.kind flaw.op flaw.wrapup flaw.at) (slice_get_past text.ops flaw.op (omega (arith, past, more))) has
    ]
