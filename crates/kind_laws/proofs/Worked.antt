-- The laws at texts worked out by hand: what they ask for can be met, and what they give is told.
use Rattle.std.proofs.Common.{◌≡◌, ◌≢◌, ℕ, zero, suc, ◌&&◌, ◌⊎◌, inl, inr, ⊎_elim, Bool, true, false, List, [], ◌∷◌, length, refl, subst, arith}
use Rattle.std.specs.Prelude.{codes, nat_lt, slice_get, ◌==◌, if◌then◌else◌}
use Rattle.std.proofs.lemmas.Bool.{and_parts, ltb-true}
use Rattle.std.proofs.lemmas.Bool.Decides.{nat_tests}
use Rattle.norm_lang.specs.declared.text.Reg.TheVariants.{Ref}
use Rattle.norm_lang.specs.declared.text.FieldKind.TheVariants.{Reference}
use Rattle.norm_lang.specs.declared.text.Start.TheVariants as starts
use Rattle.norm_lang.specs.declared.text.FieldDecl.{FieldDecl}
use Rattle.norm_lang.specs.declared.text.RootDecl.{RootDecl}
use Rattle.norm_lang.specs.declared.text.Instr.{Instr}
use Rattle.norm_lang.specs.declared.text.Instr.TheVariants.{LoadRoot, LoadField, Commit, ReturnNone}
use Rattle.norm_lang.specs.declared.text.Op.{Op}
use Rattle.norm_lang.specs.declared.text.Text.{Text}
use Rattle.norm_lang.specs.declared.registers.Registers.{Registers}
use Rattle.norm_lang.specs.LineWords.{item_kind}
use Rattle.norm_lang.specs.Flow.{IsPath}
use Rattle.norm_lang.specs.Kinds.{none_held, kinds_along, MayHaveKind, HasOtherKind, MixesKinds}
use Rattle.norm_lang.specs.NormalForm.{IsNormal}
use Rattle.norm_lang.specs.Registers.{first_registers, with_reference, node_in}
use Rattle.closed_tables.specs.Tables.{OpTables}
use Rattle.closed_tables.proofs.Normal.{tables_show_normal}
use Rattle.target_code.specs.declared.target.TargetInstr.{TargetInstr}
use Rattle.target_code.specs.declared.target.TargetInstr.TheVariants.{Plain, Check}
use Rattle.target_code.specs.declared.target.Target.{Target}
use Rattle.target_code.specs.Erasing.{ErasesTo}
use Rattle.target_code.specs.Paths.{IsTargetSuccessor, target_goes_from}
use Rattle.target_laws.specs.Methods.{Method}
use Rattle.kind_laws.specs.TargetKinds.{MayHaveInTarget, AreTyped}
use Rattle.kind_laws.proofs.InText.{kinds_are_in_text, asked_kinds_are_one, asked_kinds_are_named}

-- fields and roots of which each refers to nodes of a kind, and the fields' nodes are of it
abbrev fields_of : ℕ → List FieldDecl
fields_of kind = record { owner = kind; name = codes "next"; kind = Reference kind } ∷ []

abbrev roots_of : ℕ → List RootDecl
roots_of kind = record { name = codes "h"; kind = Reference kind; start = starts.Node 0 } ∷ []

-- x: loads the root and the node's field
abbrev loads : List Instr
loads = LoadRoot (Ref 0) 0 ∷ LoadField (Ref 1) (Ref 0) 0 ∷ Commit [] ∷ []

abbrev x : Op
x = record { name = codes "x"; args = 0; generator = loads; wrapup = ReturnNone ∷ [] }

-- ---- one kind, in a target

abbrev one : Text
one = record { kinds = item_kind ∷ []; fields = fields_of 0; roots = roots_of 0; nodes = []; ops = x ∷ [] }

abbrev checked : List TargetInstr
checked = Plain (LoadRoot (Ref 0) 0) ∷ Check ∷ Plain (LoadField (Ref 1) (Ref 0) 0) ∷ Check ∷ Plain (Commit []) ∷ []

abbrev target : Target
target = record {
  kinds = item_kind ∷ [];
  fields = fields_of 0;
  roots = roots_of 0;
  nodes = [];
  ops = record { name = codes "x"; args = 0; generator = checked; wrapup = Plain ReturnNone ∷ [] } ∷ [];
}

abbrev tables : OpTables
tables = record {
  generator = record { may_be_fresh = []; surely_fresh = []; set = [] ∷ (Ref 0 ∷ []) ∷ (Ref 0 ∷ Ref 1 ∷ []) ∷ []; level = []; rank = 0 ∷ 1 ∷ 2 ∷ [] };
  wrapup = record { may_be_fresh = []; surely_fresh = []; set = []; level = []; rank = [] };
}

normal : IsNormal one
normal = tables_show_normal one (tables ∷ []) refl

erases : ErasesTo target one
erases = refl

abbrev generating : Method target one
generating = record {
  number = 0;
  wrapup = false;
  op = x;
  compiled = record { name = codes "x"; args = 0; generator = checked; wrapup = Plain ReturnNone ∷ [] };
  in_text = refl;
  in_target = refl;
}

step : (at to : ℕ) → target_goes_from (slice_get checked at) at to ≡ true → nat_lt to (length checked) ≡ true → IsTargetSuccessor checked at to
step at to goes there = (goes, ltb-true to (length checked) there)

-- r0 may be of kind 0 at the second load
may : MayHaveInTarget target.fields target.roots generating.compiled false 0 2 0
may = record { start = none_held; starts = refl; path = 1 ∷ 0 ∷ []; leads = (step 1 2 refl refl, (step 0 1 refl refl, refl)); has = refl }

-- which is at 1 of the text
may_in_text : MayHaveKind one.fields one.roots x false 0 1 0
may_in_text = kinds_are_in_text target one normal erases generating 0 2 0 may

-- and nodes, of which all but node 7 are of kind 0: r0 has node 1
abbrev kind_of : ℕ → ℕ
kind_of n = if n == 7 then 1 else 0

abbrev registers : Registers
registers = with_reference (first_registers []) (Ref 0) (record { node = 1; marked = false })

typed : AreTyped kind_of target.fields target.roots generating.compiled false 2 registers
typed zero = inr may
typed (suc (suc (suc (suc (suc (suc (suc zero))))))) = inl refl
typed _ = inl refl

named : (node_in registers 0 ≡ 0) ⊎ (kind_of (node_in registers 0) ≡ 0)
named = asked_kinds_are_named kind_of target one normal erases generating 2 (LoadField (Ref 1) (Ref 0) 0) registers 0 0 refl refl typed

-- ---- the second of two kinds, in a text

abbrev two : Text
two = record { kinds = item_kind ∷ codes "pair" ∷ []; fields = fields_of 1; roots = roots_of 1; nodes = []; ops = x ∷ [] }

-- the load at 1 asks r0 to be of kind 1, and the root has given it that
second : (start : ℕ → ℕ → Bool) (path : List ℕ) (t : ℕ) → IsPath loads path 1 → kinds_along (fields_of 1) (roots_of 1) start loads path 0 t ≡ true → t ≡ 1
second start [] t leads has = let no : ⊥ = omega (arith, leads) in absurd no
second start (zero ∷ path) t leads has = let same : 1 ≡ t = grind (arith, nat_tests) in omega (arith, same)
second start (suc zero ∷ path) t leads has = absurd (let no : false ≡ true = leads.0.0 in cc)
second start (suc (suc zero) ∷ path) t leads has = absurd (let no : false ≡ true = leads.0.0 in cc)
second start (suc (suc (suc n)) ∷ path) t leads has = absurd (let no : false ≡ true = leads.0.0 in cc)

keeps : ¬ MixesKinds two x false 1 (LoadField (Ref 1) (Ref 0) 0)
keeps mixes = ⊎_elim
    (λ (several : false ≡ true). let no : false ≡ true = several in cc)
    (λ (other : HasOtherKind two x false 1 (LoadField (Ref 1) (Ref 0) 0)). by other.register other.asked other.kind other.asks_it other.may other.differs)
    mixes
  where
    by : (r k t : ℕ) → ((r == 0) && (1 == k)) ≡ true → MayHaveKind two.fields two.roots x false r 1 t → t ≢ k → ⊥
    by r k t asked has differs =
        let parts = and_parts (r == 0) (1 == k) asked in
        let named : (r == 0) ≡ true = parts.0 in
        let owned : (1 == k) ≡ true = parts.1 in
        let first : r ≡ 0 = grind (arith, nat_tests) in
        let same : 1 ≡ k = grind (arith, nat_tests) in
        let here : MayHaveKind two.fields two.roots x false 0 1 t = subst (λ (n : ℕ). MayHaveKind two.fields two.roots x false n 1 t) first has in
        let is : t ≡ 1 = second here.start here.path t here.leads here.has in
        differs (omega (arith, same, is))

-- so whatever r0 may be of there is kind 1
only : (t : ℕ) → MayHaveKind two.fields two.roots x false 0 1 t → t ≡ 1
only t = asked_kinds_are_one two x false 1 (LoadField (Ref 1) (Ref 0) 0) 0 1 t keeps refl

-- and it may
of_second : MayHaveKind two.fields two.roots x false 0 1 1
of_second = record { start = none_held; starts = refl; path = 0 ∷ []; leads = ((refl, ltb-true 1 3 refl), refl); has = refl }
