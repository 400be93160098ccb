-- Each local instruction of a target is mirrored by the source's.
use Rattle.std.proofs.Common.{◌≡◌, ℕ, ◌+◌, ◌-◌, ◌^◌, ◌⊎◌, inl, inr, Bool, true, false, ◌&&◌, ◌||◌, List, Some, None, refl, sym, ap, subst, ◌∙◌}
use Rattle.std.specs.Prelude.{IsTrue, ◌==◌, ◌%◌, nat_lt, if◌then◌else◌}
use Rattle.std.proofs.lemmas.Bool.{eqb-true, eqb-false, eq-eqb, ne_eqb, or_left, or_right}
use Rattle.norm_lang.specs.declared.text.Reg.{Reg}
use Rattle.norm_lang.specs.declared.text.Reg.TheVariants.{Num, Ref}
use Rattle.norm_lang.specs.declared.text.FieldDecl.{FieldDecl}
use Rattle.norm_lang.specs.declared.text.RootDecl.{RootDecl}
use Rattle.norm_lang.specs.declared.text.Instr.{Instr}
use Rattle.norm_lang.specs.declared.text.Instr.TheVariants as instr
use Rattle.norm_lang.specs.declared.registers.Reference.{Reference}
use Rattle.norm_lang.specs.declared.registers.Registers.{Registers}
use Rattle.norm_lang.specs.Registers.{no_reference, number_in, reference_in, with_number, with_reference, same_bool, same_reference, are_equal, node_in}
use Rattle.norm_lang.specs.Local.{Spot, goes, local_step, remainder}
use Rattle.norm_lang.specs.InstructionRules.{has_wrong_kind}
use Rattle.norm_lang.specs.RegisterUse.{same_register, destination, reads}
use Rattle.target_code.specs.Erasing.{redirected}
use Rattle.run_ahead.specs.Agreeing.{StandsFor, Agree, HaveSameSize, Changes, Mirrors}
use Rattle.run_ahead.proofs.Changing.{nothing_changes, number_changes, put_same, reference_changes, put_stands}

-- ---- what a register that agrees holds

pub same_itself : (r : Reg) → IsTrue (same_register r r)
same_itself (Num r) = eq-eqb r r refl
same_itself (Ref r) = eq-eqb r r refl

-- a register of references holds the number 0 on both sides
pub numbers_agree : (home : ℕ → ℕ) (here mirror : Registers) (r : Reg) → Agree home here mirror r → number_in here r ≡ number_in mirror r
numbers_agree home here mirror (Num r) agree = agree
numbers_agree home here mirror (Ref r) agree = refl

-- and a register of numbers null
pub references_agree : (home : ℕ → ℕ) (here mirror : Registers) (r : Reg) → home 0 ≡ 0 → Agree home here mirror r → StandsFor home (reference_in here r) (reference_in mirror r)
references_agree home here mirror (Num r) null agree = (sym null, refl)
references_agree home here mirror (Ref r) null agree = agree

-- the slots of names that are apart are the same exactly if the names are
pub same_test : (home : ℕ → ℕ) (m n : ℕ) → (home m ≡ home n → m ≡ n) → (home m == home n) ≡ (m == n)
same_test home m n apart = by_test (home m == home n) refl
  where
    by_test : (b : Bool) → (home m == home n) ≡ b → b ≡ (m == n)
    by_test true is = sym (eq-eqb m n (apart (eqb-true (home m) (home n) is)))
    by_test false is = sym (ne_eqb m n (λ same. eqb-false (home m) (home n) is (ap home same)))

pub same_references : (home : ℕ → ℕ) (a b c d : Reference) → StandsFor home a c → StandsFor home b d → (home c.node ≡ home d.node → c.node ≡ d.node) → same_reference a b ≡ same_reference c d
same_references home a b c d one other apart = rw (one.0, other.0, one.1, other.1) (ap (λ t. t && same_bool c.marked d.marked) (same_test home c.node d.node apart))

-- registers are equal on one side exactly if they are on the other
pub equal_both : (home : ℕ → ℕ) (here mirror : Registers) (a b : Reg) → Agree home here mirror a → Agree home here mirror b
    → ((x y : ℕ) → a ≡ Ref x → b ≡ Ref y → home (node_in mirror x) ≡ home (node_in mirror y) → node_in mirror x ≡ node_in mirror y) → are_equal here a b ≡ are_equal mirror a b
equal_both home here mirror (Num a) (Num b) one other apart = rw (one, other) refl
equal_both home here mirror (Ref a) (Ref b) one other apart = same_references home (reference_in here (Ref a)) (reference_in here (Ref b)) (reference_in mirror (Ref a)) (reference_in mirror (Ref b)) one other (apart a b refl refl)
equal_both home here mirror (Num a) (Ref b) one other apart = refl
equal_both home here mirror (Ref a) (Num b) one other apart = refl

-- ---- the instructions

-- where it leads and what it leaves, of a spot that is known
spot_is : (at : ℕ) (registers : Registers) (next : Spot) → goes at registers ≡ Some next → record { at = at; registers = registers } ≡ next
spot_is at registers next is = cc

-- an instruction that goes on to the one after it
mirrored_next : (home place : ℕ → ℕ) (i : Instr) (at given : ℕ) (here mirror here' mirror' : Registers) (next : Spot)
    → local_step (redirected place i) (place at) mirror ≡ goes (place at + 1) mirror' → place (at + 1) ≡ place at + 1
    → goes (at + 1) here' ≡ Some next → Changes home (λ A. A) (destination i) given here mirror here' mirror'
    → (given ≡ 0) ⊎ ((r : ℕ) × IsTrue (reads (Ref r) i) × (node_in mirror r ≡ given)) → Mirrors home place i at here mirror next
mirrored_next home place i at given here mirror here' mirror' next steps on is changes known =
    subst (λ (s : Spot). Mirrors home place i at here mirror s) (spot_is (at + 1) here' next is)
    (record { mirror' = mirror'; given = given; steps = steps ∙ ap (λ k. goes k mirror') (sym on); changes = changes; known = known })

-- a number is set
mirrored_number : (home place : ℕ → ℕ) (i : Instr) (at : ℕ) (here mirror : Registers) (next : Spot) (d n m : ℕ) → HaveSameSize here mirror
    → destination i ≡ Some (Num d) → local_step (redirected place i) (place at) mirror ≡ goes (place at + 1) (with_number mirror (Num d) m) → place (at + 1) ≡ place at + 1
    → goes (at + 1) (with_number here (Num d) n) ≡ Some next → n ≡ m → Mirrors home place i at here mirror next
mirrored_number home place i at here mirror next d n m sized names steps on is same =
    mirrored_next home place i at 0 here mirror (with_number here (Num d) n) (with_number mirror (Num d) m) next steps on is
    (subst (λ o. Changes home (λ A. A) o 0 here mirror (with_number here (Num d) n) (with_number mirror (Num d) m)) (sym names) (number_changes home (λ A. A) here mirror d n m sized (put_same here mirror d n m sized same))) (inl refl)

-- a reference is set
mirrored_reference : (home place : ℕ → ℕ) (i : Instr) (at : ℕ) (here mirror : Registers) (next : Spot) (d : ℕ) (x y : Reference) → home 0 ≡ 0 → HaveSameSize here mirror
    → destination i ≡ Some (Ref d) → local_step (redirected place i) (place at) mirror ≡ goes (place at + 1) (with_reference mirror (Ref d) y) → place (at + 1) ≡ place at + 1
    → goes (at + 1) (with_reference here (Ref d) x) ≡ Some next → StandsFor home x y
    → (y.node ≡ 0) ⊎ ((r : ℕ) × IsTrue (reads (Ref r) i) × (node_in mirror r ≡ y.node)) → Mirrors home place i at here mirror next
mirrored_reference home place i at here mirror next d x y null sized names steps on is stands known =
    mirrored_next home place i at y.node here mirror (with_reference here (Ref d) x) (with_reference mirror (Ref d) y) next steps on is
    (subst (λ o. Changes home (λ A. A) o y.node here mirror (with_reference here (Ref d) x) (with_reference mirror (Ref d) y)) (sym names)
    (reference_changes home (λ A. A) here mirror d x y sized (put_stands home here mirror d x y sized null stands))) known

-- control goes one of two ways by a test that is the same on both sides
mirrored_fork : (home place : ℕ → ℕ) (i : Instr) (at l : ℕ) (here mirror : Registers) (next : Spot) (test test' : Bool) → HaveSameSize here mirror
    → destination i ≡ None → local_step (redirected place i) (place at) mirror ≡ goes (if test' then place l else place at + 1) mirror → place (at + 1) ≡ place at + 1
    → goes (if test then l else at + 1) here ≡ Some next → test ≡ test' → Mirrors home place i at here mirror next
mirrored_fork home place i at l here mirror next test test' sized names steps on is same =
    subst (λ (s : Spot). Mirrors home place i at here mirror s) (spot_is (if test then l else at + 1) here next is)
    (record {
      mirror' = mirror;
      given = 0;
      steps = steps ∙ ap (λ k. goes k mirror) (ap (λ t. if t then place l else place at + 1) (sym same) ∙ ways test);
      changes = subst (λ o. Changes home (λ A. A) o 0 here mirror here mirror) (sym names) (nothing_changes home (λ A. A) here mirror sized);
      known = inl refl;
    })
  where
    ways : (t : Bool) → (if t then place l else place at + 1) ≡ place (if t then l else at + 1)
    ways true = refl
    ways false = sym on

-- the name in a register that an instruction reads; a register of numbers holds null
known_node : (mirror : Registers) (i : Instr) (a : Reg) → IsTrue (reads a i) → ((reference_in mirror a).node ≡ 0) ⊎ ((r : ℕ) × IsTrue (reads (Ref r) i) × (node_in mirror r ≡ (reference_in mirror a).node))
known_node mirror i (Num a) reads = inl refl
known_node mirror i (Ref a) reads = inr (a, reads, refl)

pub reads_first : (a : Reg) (rest : Bool) → IsTrue (same_register a a || rest)
reads_first a rest = or_left (same_register a a) rest (same_itself a)

pub reads_second : (a b : Reg) → IsTrue (same_register b a || (same_register b b || false))
reads_second a b = or_right (same_register b a) _ (reads_first b false)

pub mirrored : (home place : ℕ → ℕ) (fields : List FieldDecl) (roots : List RootDecl) (i : Instr) (at : ℕ) (here mirror : Registers) (next : Spot)
    → home 0 ≡ 0 → place (at + 1) ≡ place at + 1 → HaveSameSize here mirror → has_wrong_kind fields roots i ≡ false
    → ((r : Reg) → IsTrue (reads r i) → Agree home here mirror r)
    → ((x y : ℕ) → IsTrue (reads (Ref x) i) → IsTrue (reads (Ref y) i) → home (node_in mirror x) ≡ home (node_in mirror y) → node_in mirror x ≡ node_in mirror y)
    → local_step i at here ≡ Some next → Mirrors home place i at here mirror next
mirrored home place fields roots (instr.Set (Num d) n) at here mirror next null on sized kind agree apart is =
    mirrored_number home place (instr.Set (Num d) n) at here mirror next d n n sized refl refl on is refl
mirrored home place fields roots (instr.Mov (Num d) (Num a)) at here mirror next null on sized kind agree apart is =
    mirrored_number home place (instr.Mov (Num d) (Num a)) at here mirror next d (number_in here (Num a)) (number_in mirror (Num a)) sized refl refl on is (agree (Num a) (reads_first (Num a) false))
mirrored home place fields roots (instr.Mov (Ref d) (Ref a)) at here mirror next null on sized kind agree apart is =
    mirrored_reference home place (instr.Mov (Ref d) (Ref a)) at here mirror next d (reference_in here (Ref a)) (reference_in mirror (Ref a)) null sized refl refl on is
    (agree (Ref a) (reads_first (Ref a) false)) (known_node mirror (instr.Mov (Ref d) (Ref a)) (Ref a) (reads_first (Ref a) false))
mirrored home place fields roots (instr.Add (Num d) a b) at here mirror next null on sized kind agree apart is =
    mirrored_number home place (instr.Add (Num d) a b) at here mirror next d ((number_in here a + number_in here b) % 2 ^ 64) ((number_in mirror a + number_in mirror b) % 2 ^ 64) sized refl refl on is
    (rw (numbers_agree home here mirror a (agree a (reads_first a _)), numbers_agree home here mirror b (agree b (reads_second a b))) refl)
mirrored home place fields roots (instr.Sub (Num d) a b) at here mirror next null on sized kind agree apart is =
    mirrored_number home place (instr.Sub (Num d) a b) at here mirror next d ((number_in here a + (2 ^ 64 - number_in here b)) % 2 ^ 64) ((number_in mirror a + (2 ^ 64 - number_in mirror b)) % 2 ^ 64) sized refl refl on is
    (rw (numbers_agree home here mirror a (agree a (reads_first a _)), numbers_agree home here mirror b (agree b (reads_second a b))) refl)
mirrored home place fields roots (instr.Rem (Num d) a n) at here mirror next null on sized kind agree apart is =
    mirrored_number home place (instr.Rem (Num d) a n) at here mirror next d (remainder (number_in here a) n) (remainder (number_in mirror a) n) sized refl refl on is
    (ap (λ k. remainder k n) (numbers_agree home here mirror a (agree a (reads_first a _))))
mirrored home place fields roots (instr.Null (Ref d)) at here mirror next null on sized kind agree apart is =
    mirrored_reference home place (instr.Null (Ref d)) at here mirror next d no_reference no_reference null sized refl refl on is (sym null, refl) (inl refl)
mirrored home place fields roots (instr.Mark (Ref d) a) at here mirror next null on sized kind agree apart is =
    mirrored_reference home place (instr.Mark (Ref d) a) at here mirror next d (record { node = (reference_in here a).node; marked = true }) (record { node = (reference_in mirror a).node; marked = true }) null sized refl refl on is
    ((references_agree home here mirror a null (agree a (reads_first a _))).0, refl) (known_node mirror (instr.Mark (Ref d) a) a (reads_first a _))
mirrored home place fields roots (instr.Unmark (Ref d) a) at here mirror next null on sized kind agree apart is =
    mirrored_reference home place (instr.Unmark (Ref d) a) at here mirror next d (record { node = (reference_in here a).node; marked = false }) (record { node = (reference_in mirror a).node; marked = false }) null sized refl refl on is
    ((references_agree home here mirror a null (agree a (reads_first a _))).0, refl) (known_node mirror (instr.Unmark (Ref d) a) a (reads_first a _))
mirrored home place fields roots (instr.Jump l) at here mirror next null on sized kind agree apart is =
    mirrored_fork home place (instr.Jump l) at l here mirror next true true sized refl refl on is refl
mirrored home place fields roots (instr.IfEq a b l) at here mirror next null on sized kind agree apart is =
    mirrored_fork home place (instr.IfEq a b l) at l here mirror next (are_equal here a b) (are_equal mirror a b) sized refl refl on is
    (equal_both home here mirror a b (agree a (reads_first a _)) (agree b (reads_second a b))
    (λ x y is_x is_y. apart x y (subst (λ r. IsTrue (reads r (instr.IfEq a b l))) is_x (reads_first a _)) (subst (λ r. IsTrue (reads r (instr.IfEq a b l))) is_y (reads_second a b))))
mirrored home place fields roots (instr.IfLess a b l) at here mirror next null on sized kind agree apart is =
    mirrored_fork home place (instr.IfLess a b l) at l here mirror next (nat_lt (number_in here a) (number_in here b)) (nat_lt (number_in mirror a) (number_in mirror b)) sized refl refl on is
    (rw (numbers_agree home here mirror a (agree a (reads_first a _)), numbers_agree home here mirror b (agree b (reads_second a b))) refl)
mirrored home place fields roots (instr.IfMarked a l) at here mirror next null on sized kind agree apart is =
    mirrored_fork home place (instr.IfMarked a l) at l here mirror next (reference_in here a).marked (reference_in mirror a).marked sized refl refl on is
    (references_agree home here mirror a null (agree a (reads_first a _))).1
mirrored home place fields roots _ at here mirror next null on sized kind agree apart is = absurd cc
