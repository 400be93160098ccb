-- Lawful values as what registers hold.
use Rattle.std.proofs.Common.{◌≡◌, ℕ, zero, suc, ◌+◌, ◌<◌, ◌≤◌, ◌==◌, ◌||◌, ◌&&◌, ◌⊎◌, inl, inr, Bool, true, false, List, [], ◌∷◌, take, drop, Option, Some, None, refl, ap, ◌∙◌, subst, arith}
use Rattle.std.specs.Prelude.{slice_get}
use Rattle.std.specs.List.{list_any}
use Rattle.std.proofs.lemmas.Bool.Decides.{nat_tests}
use Rattle.norm_lang.specs.declared.text.Reg.{Reg}
use Rattle.norm_lang.specs.declared.text.Reg.TheVariants.{Ref}
use Rattle.norm_lang.specs.declared.text.FieldKind.{FieldKind}
use Rattle.norm_lang.specs.declared.text.FieldKind.TheVariants as holdings
use Rattle.norm_lang.specs.declared.text.FieldDecl.{FieldDecl}
use Rattle.norm_lang.specs.declared.text.RootDecl.{RootDecl}
use Rattle.norm_lang.specs.declared.text.Place.TheVariants as places
use Rattle.norm_lang.specs.declared.text.CasEntry.{CasEntry}
use Rattle.norm_lang.specs.declared.text.Instr.TheVariants as instr
use Rattle.norm_lang.specs.RegisterUse.{same_register}
use Rattle.norm_lang.specs.InstructionRules.{is_unlike, root_kind, field_kind, place_kind}
use Rattle.norm_lang.specs.Kinds.{refers, root_refers, asks, asks_object, asks_entry}
use Rattle.norm_lang.specs.KindFields.{owner_of}
use Rattle.oa_words.specs.Words.{Sizes}
use Rattle.oa_words.specs.Packed.{slot_part}
use Rattle.oa_words.specs.SlotKinds.{kind_of, IsNullOrOf}
use Rattle.caller_steps.specs.Lawful.{LawfulValue}

same_number : (a b : ℕ) → a ≡ b → (b == a) ≡ true
same_number a b is = grind (arith, nat_tests)

pub itself : (n : ℕ) → (n == n) ≡ true
itself n = grind (arith, nat_tests)

-- null, or a slot of the row that is of a kind
pub null_or_of : (n : Sizes) (k j : ℕ) → j ≤ n.slots → (j ≡ 0) ⊎ (kind_of n j ≡ k) → IsNullOrOf n k j
null_or_of n k zero le is = inl refl
null_or_of n k (suc j) le (inl none) = inl none
null_or_of n k (suc j) le (inr same) = inr (omega arith, le, same)

-- a lawful value is null, or a node of a kind to which its place refers
pub value_given : (n : Sizes) (kind : Option FieldKind) (d word : ℕ) → is_unlike kind (Ref d) ≡ false → LawfulValue n kind word → (slot_part word ≡ 0) ⊎ (refers kind (kind_of n (slot_part word)) ≡ true)
value_given n None d word like lawful = absurd (let no : true ≡ false = like in cc)
value_given n (Some holdings.Number) d word like lawful = absurd (let no : true ≡ false = like in cc)
value_given n (Some (holdings.Reference k)) d word like (inl none) = inl none
value_given n (Some (holdings.Reference k)) d word like (inr slot) = inr (same_number (kind_of n (slot_part word)) k slot.2)

-- the root of a pick is one of those whose kinds it gives
picked_first : (t : ℕ) (roots : List RootDecl) (n k : ℕ) → k < n → refers (root_kind roots k) t ≡ true → list_any (root_refers t) (take n roots) ≡ true
picked_first t [] n k lt is = absurd (let no : false ≡ true = is in cc)
picked_first t (root ∷ roots) zero k lt is = absurd (let no : ⊥ = omega (arith, lt) in no)
picked_first t (root ∷ roots) (suc n) zero lt is = rw is refl
picked_first t (root ∷ roots) (suc n) (suc k) lt is = of (root_refers t root) (picked_first t roots n k (omega (arith, lt)) is)
  where
    of : (b : Bool) → list_any (root_refers t) (take n roots) ≡ true → (b || list_any (root_refers t) (take n roots)) ≡ true
    of true rest = refl
    of false rest = rest

pub picked : (t : ℕ) (roots : List RootDecl) (x n k : ℕ) → k < n → refers (root_kind roots (x + k)) t ≡ true → list_any (root_refers t) (take n (drop x roots)) ≡ true
picked t [] x n k lt is = absurd (let no : false ≡ true = is in cc)
picked t (root ∷ roots) zero n k lt is = picked_first t (root ∷ roots) n k lt (let same : 0 + k ≡ k = omega arith in subst (λ (m : ℕ). refers (root_kind (root ∷ roots) m) t ≡ true) same is)
picked t (root ∷ roots) (suc x) n k lt is =
    picked t roots x n k lt (let same : suc x + k ≡ suc (x + k) = omega arith in subst (λ (m : ℕ). refers (root_kind (root ∷ roots) m) t ≡ true) same is)

-- ---- what is asked

-- the object of a place is asked to be of the kind that has the field
pub object_asked : (fields : List FieldDecl) (a f k : ℕ) → owner_of fields f ≡ Some k → asks_object fields (places.Field (Ref a) f) a k ≡ true
object_asked fields a f k owner = rw (itself a, owner, itself k) refl

pub entry_asks_object : (fields : List FieldDecl) (roots : List RootDecl) (exchange : CasEntry) (r k : ℕ) → asks_object fields exchange.place r k ≡ true → asks_entry fields roots r k exchange ≡ true
entry_asks_object fields roots exchange r k asked = rw asked refl

-- and an exchange's new operand to be of that to which its place refers
pub entry_asks_new : (fields : List FieldDecl) (roots : List RootDecl) (exchange : CasEntry) (r k : ℕ) → same_register (Ref r) exchange.replacement ≡ true → refers (place_kind fields roots exchange.place) k ≡ true
    → asks_entry fields roots r k exchange ≡ true
entry_asks_new fields roots exchange r k new to = of (asks_object fields exchange.place r k) (same_register (Ref r) exchange.expected) (same_register (Ref r) exchange.replacement) (refers (place_kind fields roots exchange.place) k) new to
  where
    of : (a b c d : Bool) → c ≡ true → d ≡ true → (a || ((b || c) && d)) ≡ true
    of true b c d p q = refl
    of false true c d p q = q
    of false false c d p q = rw (p, q) refl

-- a commit asks what each of its exchanges asks
pub commit_asks : (fields : List FieldDecl) (roots : List RootDecl) (exchanges : List CasEntry) (at : ℕ) (exchange : CasEntry) (r k : ℕ) → slice_get exchanges at ≡ Some exchange → asks_entry fields roots r k exchange ≡ true
    → list_any (asks_entry fields roots r k) exchanges ≡ true
commit_asks fields roots [] at exchange r k there asked = absurd (let no : None ≡ Some exchange = there in cc)
commit_asks fields roots (first ∷ exchanges) zero exchange r k there asked = let same : first ≡ exchange = cc in rw (ap (asks_entry fields roots r k) same ∙ asked) refl
commit_asks fields roots (first ∷ exchanges) (suc at) exchange r k there asked = of (asks_entry fields roots r k first) (commit_asks fields roots exchanges at exchange r k there asked)
  where
    of : (b : Bool) → list_any (asks_entry fields roots r k) exchanges ≡ true → (b || list_any (asks_entry fields roots r k) exchanges) ≡ true
    of true rest = refl
    of false rest = rest

-- a put asks both
pub put_asks_object : (fields : List FieldDecl) (roots : List RootDecl) (a : Reg) (f : ℕ) (b : Reg) (r k : ℕ) → asks_object fields (places.Field a f) r k ≡ true → asks fields roots (instr.Put a f b) r k ≡ true
put_asks_object fields roots a f b r k asked = rw asked refl

pub put_asks_new : (fields : List FieldDecl) (roots : List RootDecl) (a : Reg) (f : ℕ) (b : Reg) (r k : ℕ) → same_register (Ref r) b ≡ true → refers (field_kind fields f) k ≡ true → asks fields roots (instr.Put a f b) r k ≡ true
put_asks_new fields roots a f b r k new to = of (asks_object fields (places.Field a f) r k) (same_register (Ref r) b) (refers (field_kind fields f) k) new to
  where
    of : (c d e : Bool) → d ≡ true → e ≡ true → (c || (d && e)) ≡ true
    of true d e p q = refl
    of false d e p q = rw (p, q) refl
