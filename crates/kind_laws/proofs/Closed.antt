-- What a register may have is closed under the steps of a path.
use Rattle.std.proofs.Common.{◌≡◌, ℕ, inl, inr, Bool, true, false, List, [], ◌∷◌, Option, Some, refl, sym, ap, ◌∙◌}
use Rattle.std.specs.Prelude.{slice_get}
use Rattle.norm_lang.specs.declared.text.Reg.TheVariants.{Ref}
use Rattle.norm_lang.specs.declared.text.FieldDecl.{FieldDecl}
use Rattle.norm_lang.specs.declared.text.RootDecl.{RootDecl}
use Rattle.norm_lang.specs.declared.text.CasEntry.{CasEntry}
use Rattle.norm_lang.specs.declared.text.Instr.{Instr}
use Rattle.norm_lang.specs.declared.text.Instr.TheVariants as instr
use Rattle.norm_lang.specs.Flow.{passed}
use Rattle.norm_lang.specs.RegisterUse.{sets}
use Rattle.norm_lang.specs.Kinds.{none_held, given_kinds, kinds_after}
use Rattle.target_code.specs.declared.target.TargetInstr.{TargetInstr}
use Rattle.target_code.specs.declared.target.TargetInstr.TheVariants.{Plain}
use Rattle.target_code.specs.declared.target.TargetOp.{TargetOp}
use Rattle.target_code.specs.Paths.{TargetPath, IsTargetSuccessor, target_code_of, target_sets}
use Rattle.target_code.specs.PathStates.{over_plain}
use Rattle.kind_laws.specs.TargetKinds.{target_kinds_along, MayStartInTarget, MayHaveInTarget, CopiesFrom}

-- the kinds at the end of a path that is longer by one instruction
longer : (fields : List FieldDecl) (roots : List RootDecl) (start : ℕ → ℕ → Bool) (code : List TargetInstr) (path : List ℕ) (at : ℕ) (i : TargetInstr) → slice_get code at ≡ Some i → (r t : ℕ)
    → target_kinds_along fields roots start code (at ∷ path) r t ≡ over_plain (kinds_after fields roots) i (target_kinds_along fields roots start code path) r t
longer fields roots start code path at i is r t = ap (λ (o : Option TargetInstr). passed (over_plain (kinds_after fields roots)) o (target_kinds_along fields roots start code path) r t) is

unset_keeps : (fields : List FieldDecl) (roots : List RootDecl) (i : TargetInstr) (held : ℕ → ℕ → Bool) (r t : ℕ) → target_sets (Ref r) i ≡ false → over_plain (kinds_after fields roots) i held r t ≡ held r t
unset_keeps fields roots (Plain i) held r t isnt = rw isnt refl
unset_keeps fields roots _ held r t isnt = refl

set_gives : (fields : List FieldDecl) (roots : List RootDecl) (i : Instr) (held : ℕ → ℕ → Bool) (r t : ℕ) → sets (Ref r) i ≡ true → kinds_after fields roots i held r t ≡ given_kinds fields roots i held t
set_gives fields roots i held r t is = rw is refl

-- what an instruction gives whatever registers have, it gives
given_anyway : (fields : List FieldDecl) (roots : List RootDecl) (i : Instr) (held : ℕ → ℕ → Bool) (t : ℕ) → given_kinds fields roots i none_held t ≡ true → given_kinds fields roots i held t ≡ true
given_anyway fields roots (instr.Mov d (Ref a)) held t is = absurd (let no : false ≡ true = is in cc)
given_anyway fields roots (instr.Mark d (Ref a)) held t is = absurd (let no : false ≡ true = is in cc)
given_anyway fields roots (instr.Unmark d (Ref a)) held t is = absurd (let no : false ≡ true = is in cc)
given_anyway fields roots _ held t is = is

module _ (fields : List FieldDecl) (roots : List RootDecl) (op : TargetOp) (wrapup : Bool) where
  -- a register that isn't set may have what it may have before
  pub kept_kind : (r at to t : ℕ) (i : TargetInstr) → slice_get (target_code_of op wrapup) at ≡ Some i → IsTargetSuccessor (target_code_of op wrapup) at to → target_sets (Ref r) i ≡ false
      → MayHaveInTarget fields roots op wrapup r at t → MayHaveInTarget fields roots op wrapup r to t
  kept_kind r at to t i is goes isnt may = record {
    start = may.start;
    starts = may.starts;
    path = at ∷ may.path;
    leads = (goes, may.leads);
    has = longer fields roots may.start (target_code_of op wrapup) may.path at i is r t ∙ (unset_keeps fields roots i (target_kinds_along fields roots may.start (target_code_of op wrapup) may.path) r t isnt ∙ may.has);
  }

  -- one that is set may have what the instruction gives, on any path to it
  pub given_kind : (r at to t : ℕ) (i : Instr) (path : List ℕ) → TargetPath (target_code_of op wrapup) path at → slice_get (target_code_of op wrapup) at ≡ Some (Plain i) → IsTargetSuccessor (target_code_of op wrapup) at to
      → sets (Ref r) i ≡ true → given_kinds fields roots i none_held t ≡ true → MayHaveInTarget fields roots op wrapup r to t
  given_kind r at to t i path leads is goes sets_it gives = record {
    start = none_held;
    starts = from_none wrapup;
    path = at ∷ path;
    leads = (goes, leads);
    has =
        let held = target_kinds_along fields roots none_held (target_code_of op wrapup) path in
        longer fields roots none_held (target_code_of op wrapup) path at (Plain i) is r t ∙ (set_gives fields roots i held r t sets_it ∙ given_anyway fields roots i held t gives);
  }
    where
      from_none : (w : Bool) → MayStartInTarget fields roots op w none_held
      from_none false = refl
      from_none true = inl refl

  -- and a copy what its source may have
  pub copied_kind : (r a at to t : ℕ) (i : Instr) → slice_get (target_code_of op wrapup) at ≡ Some (Plain i) → IsTargetSuccessor (target_code_of op wrapup) at to → sets (Ref r) i ≡ true → CopiesFrom fields roots a i
      → MayHaveInTarget fields roots op wrapup a at t → MayHaveInTarget fields roots op wrapup r to t
  copied_kind r a at to t i is goes sets_it copies may = record {
    start = may.start;
    starts = may.starts;
    path = at ∷ may.path;
    leads = (goes, may.leads);
    has =
        let held = target_kinds_along fields roots may.start (target_code_of op wrapup) may.path in
        longer fields roots may.start (target_code_of op wrapup) may.path at (Plain i) is r t ∙ (set_gives fields roots i held r t sets_it ∙ (copies held t ∙ may.has));
  }

-- what it may have at a commit it may have where the wrap-up starts
pub carried_kind : (fields : List FieldDecl) (roots : List RootDecl) (op : TargetOp) (r at t : ℕ) (entries : List CasEntry) → slice_get op.generator at ≡ Some (Plain (instr.Commit entries))
    → MayHaveInTarget fields roots op false r at t → MayHaveInTarget fields roots op true r 0 t
carried_kind fields roots op r at t entries is may = record {
  start = target_kinds_along fields roots none_held op.generator may.path;
  starts = inr (record { at = at; entries = entries; stands = is; path = may.path; leads = may.leads }, refl);
  path = [];
  leads = refl;
  has = sym (ap (λ (start : ℕ → ℕ → Bool). target_kinds_along fields roots start op.generator may.path r t) may.starts) ∙ may.has;
}
