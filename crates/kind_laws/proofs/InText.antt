-- What a register may have in a target it may have in the text, and what N15 says of it.
use Rattle.std.proofs.Common.{◌≡◌, ◌≢◌, ℕ, inl, inr, ⊎_elim, Bool, true, false, List, refl, sym, ap, subst, ◌∙◌}
use Rattle.std.specs.Prelude.{IsTrue}
use Rattle.std.proofs.lemmas.Bool.{cases_eq}
use Rattle.norm_lang.specs.declared.text.FieldDecl.{FieldDecl}
use Rattle.norm_lang.specs.declared.text.RootDecl.{RootDecl}
use Rattle.norm_lang.specs.declared.text.Instr.{Instr}
use Rattle.norm_lang.specs.declared.text.Instr.TheVariants as instr
use Rattle.norm_lang.specs.declared.text.Text.{Text}
use Rattle.norm_lang.specs.Kinds.{none_held, kinds_after, kinds_along, CommitPath, MayStart, MayHaveKind, asks}
use Rattle.norm_lang.specs.NormalForm.{N15, IsNormal}
use Rattle.norm_lang.specs.Registers.{node_in}
use Rattle.target_code.specs.declared.target.TargetInstr.TheVariants.{Plain}
use Rattle.target_code.specs.declared.target.Target.{Target}
use Rattle.target_code.specs.Erasing.{source_place, redirected, ErasesTo}
use Rattle.target_laws.specs.Methods.{Method, code_in, source_in, generator_of}
use Rattle.target_laws.specs.Places.{IgnoresJumps, source_path}
use Rattle.target_laws.proofs.ErasedPlaces.{erased_here}
use Rattle.target_laws.proofs.InText.{paths_are_in_text, states_are_same}
use Rattle.target_laws.proofs.TextRules.{keeps_at}
use Rattle.kind_laws.specs.TargetKinds.{target_kinds_along, TargetCommit, MayStartInTarget, MayHaveInTarget}
use Rattle.kind_laws.specs.TextKinds.{KindsAreInText, AskedKindsAreOne, AskedKindsAreOneInTarget, AskedKindsAreNamed}

-- it doesn't matter to kinds where jumps lead
kinds_ignore_jumps : (fields : List FieldDecl) (roots : List RootDecl) → IgnoresJumps (kinds_after fields roots)
kinds_ignore_jumps fields roots place (instr.Cas entry l) held = refl
kinds_ignore_jumps fields roots place _ held = refl

-- nor to what is asked
asks_redirected : (fields : List FieldDecl) (roots : List RootDecl) (place : ℕ → ℕ) (i : Instr) (r k : ℕ) → asks fields roots (redirected place i) r k ≡ asks fields roots i r k
asks_redirected fields roots place (instr.Cas entry l) r k = refl
asks_redirected fields roots place _ r k = refl

module _ (target : Target) (text : Text) (normal : IsNormal text) (erases : ErasesTo target text) where
  -- kinds along a path of a target are those along the text's
  same_kinds : (method : Method target text) (fields : List FieldDecl) (roots : List RootDecl) (start : ℕ → ℕ → Bool) (path : List ℕ)
      → kinds_along fields roots start (source_in method) (source_path (code_in method) path) ≡ target_kinds_along fields roots start (code_in method) path
  same_kinds method fields roots start path = states_are_same (ℕ → ℕ → Bool) (kinds_after fields roots) (kinds_ignore_jumps fields roots) target text erases method start path

  -- a commit that a path of the target reaches is one of the text
  abbrev commit_in_text : (method : Method target text) → TargetCommit method.compiled.generator → CommitPath method.op.generator
  commit_in_text method c = record {
    at = source_place method.compiled.generator c.at;
    entries = c.entries;
    stands = (erased_here erases (generator_of method) c.at (Plain (instr.Commit c.entries)) c.stands).0;
    path = source_path method.compiled.generator c.path;
    leads = paths_are_in_text target text normal erases (generator_of method) c.path c.at c.leads;
  }

  starts_in_text : (method : Method target text) (wrapup : Bool) (fields : List FieldDecl) (roots : List RootDecl) (start : ℕ → ℕ → Bool)
      → MayStartInTarget fields roots method.compiled wrapup start → MayStart fields roots method.op wrapup start
  starts_in_text method false fields roots start starts = starts
  starts_in_text method true fields roots start (inl none) = inl none
  starts_in_text method true fields roots start (inr from) = inr (commit_in_text method from.0, from.1 ∙ sym (same_kinds (generator_of method) fields roots none_held from.0.path))

  in_text_of : (method : Method target text) (fields : List FieldDecl) (roots : List RootDecl) (r at t : ℕ) → MayHaveInTarget fields roots method.compiled method.wrapup r at t
      → MayHaveKind fields roots method.op method.wrapup r (source_place (code_in method) at) t
  in_text_of method fields roots r at t may = record {
    start = may.start;
    starts = starts_in_text method method.wrapup fields roots may.start may.starts;
    path = source_path (code_in method) may.path;
    leads = paths_are_in_text target text normal erases method may.path at may.leads;
    has = ap (λ (held : ℕ → ℕ → Bool). held r t) (same_kinds method fields roots may.start may.path) ∙ may.has;
  }

pub kinds_are_in_text : KindsAreInText
kinds_are_in_text target text normal erases method r at t may =
    subst (λ (x : Text). MayHaveKind x.fields x.roots method.op method.wrapup r (source_place (code_in method) at) t) erases
    (in_text_of target text normal erases method target.fields target.roots r at t may)

pub asked_kinds_are_one : AskedKindsAreOne
asked_kinds_are_one text op wrapup at i r k t keeps asked may = ⊎_elim
    (λ (same : t ≡ k). same)
    (λ (other : t ≢ k). absurd (keeps (inr (record { register = r; asked = k; kind = t; asks_it = asked; may = may; differs = other }))))
    (cases_eq t k)

pub asked_kinds_are_one_in_target : AskedKindsAreOneInTarget
asked_kinds_are_one_in_target target text normal erases method at i r k t stands asked may =
    let place = source_place (code_in method) in
    asked_kinds_are_one text method.op method.wrapup (place at) (redirected place i) r k t
    (λ mixes. keeps_at normal erases method N15 at i stands mixes)
    (asks_redirected text.fields text.roots place i r k ∙ subst (λ (x : Text). IsTrue (asks x.fields x.roots i r k)) erases asked)
    (kinds_are_in_text target text normal erases method r at t may)

pub asked_kinds_are_named : AskedKindsAreNamed
asked_kinds_are_named kind_of target text normal erases method at i registers r k stands asked typed = ⊎_elim
    (λ (null : node_in registers r ≡ 0). inl null)
    (λ (may : MayHaveInTarget target.fields target.roots method.compiled method.wrapup r at (kind_of (node_in registers r))).
    inr (asked_kinds_are_one_in_target target text normal erases method at i r k (kind_of (node_in registers r)) stands asked may))
    (typed r)
