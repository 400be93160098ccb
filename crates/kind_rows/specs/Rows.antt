-- Rows of N15: texts of two kinds of nodes, of which an instruction breaks it, or doesn't.
use Rattle.std.specs.Prelude.{◌≡◌, ℕ, Bool, true, false, List, [], ◌∷◌, None, codes}
use Rattle.norm_lang.specs.declared.text.Reg.{Reg}
use Rattle.norm_lang.specs.declared.text.Reg.TheVariants.{Num, Ref}
use Rattle.norm_lang.specs.declared.text.FieldKind.TheVariants as holdings
use Rattle.norm_lang.specs.declared.text.FieldDecl.{FieldDecl}
use Rattle.norm_lang.specs.declared.text.RootDecl.{RootDecl}
use Rattle.norm_lang.specs.declared.text.Start.TheVariants as starts
use Rattle.norm_lang.specs.declared.text.Place.TheVariants as places
use Rattle.norm_lang.specs.declared.text.CasEntry.{CasEntry}
use Rattle.norm_lang.specs.declared.text.Instr.{Instr}
use Rattle.norm_lang.specs.declared.text.Instr.TheVariants as instr
use Rattle.norm_lang.specs.declared.text.Op.{Op}
use Rattle.norm_lang.specs.declared.text.Text.{Text}
use Rattle.norm_lang.specs.Shipped.{root_entry}
use Rattle.norm_lang.specs.NormalForm.{Rule, N1, N10, N13, N15, Breaks}
use Rattle.norm_lang.specs.Kinds.{none_held, given_kinds, kinds_along, asks, CommitPath, MayStart}

abbrev pub n0 : Reg
n0 = Num 0

abbrev pub n1 : Reg
n1 = Num 1

abbrev pub r0 : Reg
r0 = Ref 0

abbrev pub r1 : Reg
r1 = Ref 1

-- the kinds
abbrev pub item : ℕ
item = 0

abbrev pub pair : ℕ
pair = 1

-- the fields: a number of an item, a number of a pair, and a pair to which an item leads
abbrev pub key : ℕ
key = 0

abbrev pub left : ℕ
left = 1

abbrev pub other : ℕ
other = 2

abbrev pub number_of : ℕ → List ℕ → FieldDecl
number_of owner name = record { owner = owner; name = name; kind = holdings.Number }

abbrev pub fields : List FieldDecl
fields = number_of item (codes "key") ∷ number_of pair (codes "left") ∷ record { owner = item; name = codes "other"; kind = holdings.Reference pair } ∷ []

-- the roots: of an item, of a pair, of a number, and of an item
abbrev pub a : ℕ
a = 0

abbrev pub b : ℕ
b = 1

abbrev pub null_root : List ℕ → ℕ → RootDecl
null_root name kind = record { name = name; kind = holdings.Reference kind; start = starts.Node 0 }

abbrev pub number_root : List ℕ → RootDecl
number_root name = record { name = name; kind = holdings.Number; start = starts.Value 0 }

abbrev pub two_roots : List RootDecl
two_roots = null_root (codes "a") item ∷ null_root (codes "b") pair ∷ []

abbrev pub four_roots : List RootDecl
four_roots = null_root (codes "a") item ∷ null_root (codes "b") pair ∷ number_root (codes "c") ∷ null_root (codes "d") item ∷ []

abbrev pub does : List Instr → List Instr → Op
does generator wrapup = record { name = codes "x"; args = 0; generator = generator; wrapup = wrapup }

abbrev pub over : List RootDecl → List Instr → List Instr → Text
over roots generator wrapup = record { kinds = codes "item" ∷ codes "pair" ∷ []; fields = fields; roots = roots; nodes = []; ops = does generator wrapup ∷ [] }

-- a generator, with a wrap-up that only replies, breaks a rule at a place
abbrev pub GeneratorBreaks : List Instr → Rule → ℕ → Type 0
GeneratorBreaks generator rule at = Breaks (over four_roots generator (instr.ReturnNone ∷ [])) (record { rule = rule; op = 0; wrapup = false; at = at })

abbrev pub WrapUpBreaks : List Instr → List Instr → Rule → ℕ → Type 0
WrapUpBreaks generator wrapup rule at = Breaks (over four_roots generator wrapup) (record { rule = rule; op = 0; wrapup = true; at = at })

-- an item goes to a root of pairs
abbrev pub gives_item : List Instr
gives_item = instr.LoadRoot r0 a ∷ instr.Null r1 ∷ instr.Cas (root_entry b r1 r0) 3 ∷ instr.Commit [] ∷ []

abbrev pub item_for_pair : Text
item_for_pair = over two_roots gives_item (instr.ReturnNone ∷ [])

-- an item is expected there, or is what a commit puts there
abbrev pub expects_item : List Instr
expects_item = instr.LoadRoot r0 a ∷ instr.Null r1 ∷ instr.Cas (root_entry b r0 r1) 3 ∷ instr.Commit [] ∷ []

abbrev pub commits_item : List Instr
commits_item = instr.New r0 item ∷ instr.Null r1 ∷ instr.Commit (root_entry a r1 r0 ∷ root_entry b r1 r0 ∷ []) ∷ []

-- a put writes an item into the field of an item to which pairs are put
abbrev pub puts_item : List Instr
puts_item = instr.LoadRoot r1 a ∷ instr.New r0 item ∷ instr.Put r0 other r1 ∷ instr.Commit [] ∷ []

-- an exchange of the field of an item to which pairs are put: its object is a pair, it expects an item, or it puts an item there
abbrev pub other_entry : Reg → Reg → Reg → CasEntry
other_entry object expected replacement = record { place = places.Field object other; expected = expected; replacement = replacement; retire = None }

abbrev pub exchanges : ℕ → Reg → Reg → Reg → List Instr
exchanges root object expected replacement = instr.LoadRoot r0 root ∷ instr.Null r1 ∷ instr.Cas (other_entry object expected replacement) 3 ∷ instr.Commit [] ∷ []

-- what a field leads to is a pair
abbrev pub follows_other : List Instr
follows_other = instr.LoadRoot r0 a ∷ instr.LoadField r1 r0 other ∷ instr.LoadField n0 r1 key ∷ instr.Commit [] ∷ []

-- a register of two kinds by two paths is the base of a load, and is compared
abbrev pub loads_by_two_paths : List Instr
loads_by_two_paths = instr.LoadRoot r0 a ∷ instr.IfEq n0 n1 3 ∷ instr.LoadRoot r0 b ∷ instr.LoadField n0 r0 key ∷ instr.Commit [] ∷ []

abbrev pub compares_two_kinds : List Instr
compares_two_kinds = instr.LoadRoot r0 a ∷ instr.LoadRoot r1 b ∷ instr.IfEq r0 r1 3 ∷ instr.Commit [] ∷ []

-- a register is moved, and a field of the other kind is put into the node
abbrev pub moves_and_puts : List Instr
moves_and_puts = instr.New r0 item ∷ instr.Mov r1 r0 ∷ instr.Put r1 left n0 ∷ instr.Commit [] ∷ []

-- on the second turn of a loop it has the other kind
abbrev pub turns_twice : List Instr
turns_twice = instr.LoadRoot r0 a ∷ instr.LoadField n0 r0 key ∷ instr.LoadRoot r0 b ∷ instr.Jump 1 ∷ []

-- fields of null
abbrev pub loads_from_null : List Instr
loads_from_null = instr.Null r0 ∷ instr.LoadField n0 r0 key ∷ instr.LoadField n0 r0 left ∷ instr.Commit [] ∷ []

-- a register of numbers has no kinds, though a `new` sets it
abbrev pub moves_number : List Instr
moves_number = instr.New n0 item ∷ instr.Mov r1 n0 ∷ instr.LoadField n1 r1 left ∷ instr.Commit [] ∷ []

-- nor has it those of the register of references with its number
abbrev pub moves_beside : List Instr
moves_beside = instr.New r0 item ∷ instr.Set n0 5 ∷ instr.Mov r1 n0 ∷ instr.Commit [] ∷ []

-- a wrap-up that moves a kept register, after a load through the register that it sets
abbrev pub commits_with_item : List Instr
commits_with_item = instr.LoadRoot r0 a ∷ instr.Commit [] ∷ []

abbrev pub moves_kept : List Instr
moves_kept = instr.LoadField n1 r1 left ∷ instr.Mov r1 r0 ∷ instr.Jump 0 ∷ []

-- a wrap-up loads a root of the other kind into a register that the commit had
abbrev pub loads_anew : List Instr
loads_anew = instr.LoadRoot r0 b ∷ instr.LoadField n0 r0 left ∷ instr.ReturnNone ∷ []

-- a generator that reaches no commit
abbrev pub reaches_none : List Instr
reaches_none = instr.LoadRoot r1 a ∷ instr.Jump 0 ∷ instr.Commit [] ∷ []

abbrev pub loads_other : List Instr
loads_other = instr.LoadRoot r0 a ∷ instr.LoadField n0 r0 left ∷ instr.ReturnNone ∷ []

pub record MixedKindRows : Type 0 where
  -- the new operand of an auxiliary exchange
  pub given : Breaks item_for_pair (record { rule = N15; op = 0; wrapup = false; at = 2 })
  -- no instruction before it
  pub load_of_root : ¬ Breaks item_for_pair (record { rule = N15; op = 0; wrapup = false; at = 0 })
  pub null : ¬ Breaks item_for_pair (record { rule = N15; op = 0; wrapup = false; at = 1 })
  -- the expected operand, and the new one of a commit
  pub expected : GeneratorBreaks expects_item N15 2
  pub committed : GeneratorBreaks commits_item N15 2
  -- the value of a put, and each operand of an exchange of a field
  pub put : GeneratorBreaks puts_item N15 2
  pub object : GeneratorBreaks (exchanges b r0 r1 r1) N15 2
  pub field_expected : GeneratorBreaks (exchanges a r0 r0 r1) N15 2
  pub field_given : GeneratorBreaks (exchanges a r0 r1 r0) N15 2
  -- what was loaded from a field
  pub followed : GeneratorBreaks follows_other N15 2
  -- the base of a load, by a path that isn't the straight one
  pub by_two_paths : GeneratorBreaks loads_by_two_paths N15 3
  -- the object of a put, whose kind was moved
  pub moved : GeneratorBreaks moves_and_puts N15 2
  -- on the second turn
  pub second_turn : GeneratorBreaks turns_twice N15 1
  -- roots of two node kinds are no ranges of two kinds: that is N15 and not N13, and a number beside a reference is N13 and not N15
  pub pick_of_two : GeneratorBreaks (instr.LoadPick r0 a 2 n0 ∷ instr.Commit [] ∷ []) N15 0
  pub in_range : ¬ GeneratorBreaks (instr.LoadPick r0 a 2 n0 ∷ instr.Commit [] ∷ []) N13 0
  pub pick_beside_number : GeneratorBreaks (instr.LoadPick r0 b 2 n0 ∷ instr.Commit [] ∷ []) N13 0
  pub one_node_kind : ¬ GeneratorBreaks (instr.LoadPick r0 b 2 n0 ∷ instr.Commit [] ∷ []) N15 0
  -- roots that aren't beside each other in the pick
  pub pick_past_number : GeneratorBreaks (instr.LoadPick r0 b 3 n0 ∷ instr.Commit [] ∷ []) N15 0
  -- a wrap-up moves a kept register, which N10 tells there: N15 is told before it, of the load that a path through the move leads to
  pub kept_moved : WrapUpBreaks commits_with_item moves_kept N10 1
  pub before_the_move : WrapUpBreaks commits_with_item moves_kept N15 0
  -- a wrap-up has paths even if no commit is reached
  pub without_commit : WrapUpBreaks reaches_none loads_other N15 1

pub record AcceptedRows : Type 0 where
  -- any two references are compared
  pub compared : ¬ GeneratorBreaks compares_two_kinds N15 2
  -- null has no kind
  pub of_null : (t : ℕ) → kinds_along fields four_roots none_held loads_from_null (1 ∷ 0 ∷ []) 0 t ≡ false
  -- nor has a register of numbers, and what is moved from there: N1 tells both
  pub new_number : GeneratorBreaks moves_number N1 0
  pub moved_number : GeneratorBreaks moves_number N1 1
  pub of_number : (t : ℕ) → kinds_along fields four_roots none_held moves_number (1 ∷ 0 ∷ []) 1 t ≡ false
  pub beside : kinds_along fields four_roots none_held moves_beside (2 ∷ 1 ∷ 0 ∷ []) 1 item ≡ false
  -- a pick gives the kinds of all its roots, and a copy those of its source
  pub first_root : given_kinds fields four_roots (instr.LoadPick r0 a 2 n0) none_held item ≡ true
  pub second_root : given_kinds fields four_roots (instr.LoadPick r0 a 2 n0) none_held pair ≡ true
  pub marked : (held : ℕ → ℕ → Bool) (t : ℕ) → given_kinds fields four_roots (instr.Mark r1 r0) held t ≡ held 0 t
  pub unmarked : (held : ℕ → ℕ → Bool) (t : ℕ) → given_kinds fields four_roots (instr.Unmark r1 r0) held t ≡ held 0 t
  -- a field of numbers leads nowhere, so nothing is asked of what is put there
  pub number_put : (t : ℕ) → asks fields four_roots (instr.Put r0 key r1) 1 t ≡ false
  -- a pick past the last root gives the kinds of those that are declared
  pub past_the_last : given_kinds fields four_roots (instr.LoadPick r0 3 5 n0) none_held item ≡ true
  pub no_other : given_kinds fields four_roots (instr.LoadPick r0 3 5 n0) none_held pair ≡ false
  -- without the kinds of the commits the load before the move would be let through
  pub without_commits_kinds : (t : ℕ) → kinds_along fields four_roots none_held moves_kept (2 ∷ 1 ∷ 0 ∷ []) 1 t ≡ false
  -- no path leads to the commit, and the wrap-up starts with no kinds
  pub no_commit : ¬ CommitPath reaches_none
  pub starts_with_none : MayStart fields four_roots (does reaches_none loads_other) true none_held
  -- a register that is set anew has the new kind alone, whatever the commit had
  pub set_anew : (held : ℕ → ℕ → Bool) → kinds_along fields four_roots held loads_anew (0 ∷ []) 0 item ≡ false
