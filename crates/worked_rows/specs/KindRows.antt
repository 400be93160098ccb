-- Rows of the normal form's tests of one instruction: lists of instructions that a test finds, and of others that it doesn't.
use Rattle.std.specs.Prelude.{◌≡◌, true, false, List, [], ◌∷◌}
use Rattle.std.specs.List.{list_any, list_all}
use Rattle.norm_lang.specs.declared.text.Instr.{Instr}
use Rattle.norm_lang.specs.declared.text.Instr.TheVariants.{Set, Mov, Add, Sub, Rem, Null, Mark, Unmark, LoadRoot, LoadPick, LoadField, New, Put, Cas, Jump, IfEq, IfLess, IfMarked, Commit, Return, ReturnNone, Again}
use Rattle.norm_lang.specs.Shipped.{root_entry, next_entry, retiring}
use Rattle.norm_lang.specs.InstructionRules.{has_wrong_kind, computes_on_reference}
use Rattle.norm_lang.specs.PathRules.{looks, follows}
use Rattle.worked_rows.specs.Small.{n0, n1, n2, r0, r1, r2, key, next, first, ten, small_fields, small_roots, field_entry}

-- one register of each is of the wrong kind
abbrev pub wrong_kinds : List Instr
wrong_kinds =
    Set r0 5
    ∷ Mov n1 r0
    ∷ Mov r0 n1
    ∷ Add r0 n0 n1
    ∷ Sub r0 n0 n1
    ∷ Rem r0 n0 5
    ∷ Null n1
    ∷ Mark n1 r0
    ∷ Mark r1 n0
    ∷ Unmark n1 r0
    ∷ Unmark r1 n0
    ∷ LoadRoot n1 first
    ∷ LoadRoot r0 ten
    ∷ LoadPick n1 first 2 n0
    ∷ LoadPick r0 ten 3 n0
    ∷ LoadField n1 n0 key
    ∷ LoadField r1 r0 key
    ∷ LoadField n1 r0 next
    ∷ New n1 0
    ∷ Put n1 key n0
    ∷ Put r0 key r1
    ∷ Put r0 next n0
    ∷ Cas (root_entry ten r0 n0) 0
    ∷ Cas (root_entry ten n0 r0) 0
    ∷ Cas (root_entry first n0 r0) 0
    ∷ Cas (root_entry first r0 n0) 0
    ∷ Cas (field_entry n0 key n1 n2) 0
    ∷ Cas (field_entry r0 key r1 n1) 0
    ∷ Cas (field_entry r0 next r1 n1) 0
    ∷ IfEq n0 r0 0
    ∷ IfEq r0 n0 0
    ∷ IfMarked n0 0
    ∷ Commit (root_entry ten n0 n1 ∷ root_entry first r0 n0 ∷ [])
    ∷ Return r0
    ∷ []

-- no register of these is, but for what is judged by another rule: what is computed with, compared by `ifless`, or picks, and
-- what is retired
abbrev pub right_kinds : List Instr
right_kinds =
    Set n0 5
    ∷ Mov n1 n0
    ∷ Mov r1 r0
    ∷ Add n2 r0 r1
    ∷ Sub n2 r0 r1
    ∷ Rem n1 r0 5
    ∷ Null r0
    ∷ Mark r1 r0
    ∷ Unmark r1 r0
    ∷ LoadRoot r0 first
    ∷ LoadRoot n0 ten
    ∷ LoadPick r0 first 2 r1
    ∷ LoadPick n1 ten 3 r1
    ∷ LoadField n1 r0 key
    ∷ LoadField r1 r0 next
    ∷ New r0 0
    ∷ Put r0 key n0
    ∷ Put r0 next r1
    ∷ Cas (retiring (root_entry ten n0 n1) n2) 0
    ∷ Cas (retiring (next_entry r0 r1 r2) n2) 0
    ∷ Jump 0
    ∷ IfEq n0 n1 0
    ∷ IfEq r0 r1 0
    ∷ IfLess r0 r1 0
    ∷ IfMarked r0 0
    ∷ Commit (root_entry ten n0 n1 ∷ retiring (root_entry first r0 r1) n2 ∷ [])
    ∷ Return n0
    ∷ ReturnNone
    ∷ Again
    ∷ []

-- a reference is computed with
abbrev pub computing : List Instr
computing =
    Add n2 r0 n1
    ∷ Add n2 n0 r1
    ∷ Sub n2 r0 n1
    ∷ Sub n2 n0 r1
    ∷ Rem n1 r0 5
    ∷ IfLess r0 n1 0
    ∷ IfLess n0 r1 0
    ∷ LoadPick r0 first 2 r1
    ∷ []

-- none is, though some of these have a register of the wrong kind
abbrev pub not_computing : List Instr
not_computing = Add r2 n0 n1 ∷ Sub r2 n0 n1 ∷ Rem r1 n0 5 ∷ Mov n0 r0 ∷ IfLess n0 n1 0 ∷ IfEq r0 r1 0 ∷ LoadPick r0 first 2 n0 ∷ Return r0 ∷ []

-- loads and auxiliary exchanges, and all other forms
abbrev pub looking : List Instr
looking =
    LoadRoot r0 first ∷ LoadPick r0 first 2 n0 ∷ LoadField n1 r0 key ∷ Cas (root_entry first r0 r1) 0 ∷ Cas (next_entry r0 r1 r2) 0 ∷ []

abbrev pub not_looking : List Instr
not_looking =
    Set n0 5
    ∷ Mov n1 n0
    ∷ Add n2 n0 n1
    ∷ Sub n2 n0 n1
    ∷ Rem n1 n0 5
    ∷ Null r0
    ∷ Mark r1 r0
    ∷ Unmark r1 r0
    ∷ New r0 0
    ∷ Put r0 key n0
    ∷ Jump 0
    ∷ IfEq n0 n1 0
    ∷ IfLess n0 n1 0
    ∷ IfMarked r0 0
    ∷ Commit (root_entry first r0 r1 ∷ [])
    ∷ Return n0
    ∷ ReturnNone
    ∷ Again
    ∷ []

-- r0 is the base of a load or is copied; and it is used otherwise, or set
abbrev pub following : List Instr
following = LoadField n1 r0 key ∷ LoadField r0 r0 next ∷ Mov r1 r0 ∷ Mark r1 r0 ∷ Unmark r1 r0 ∷ []

abbrev pub not_following : List Instr
not_following =
    LoadField r0 r1 next
    ∷ Mov r0 r1
    ∷ Mark r0 r1
    ∷ Unmark r0 r1
    ∷ Put r0 next r0
    ∷ Cas (next_entry r0 r0 r0) 0
    ∷ IfEq r0 r0 0
    ∷ IfMarked r0 0
    ∷ Commit (next_entry r0 r0 r0 ∷ [])
    ∷ []

pub record KindRows : Type 0 where
  -- N1 finds a register of the wrong kind wherever it stands, and judges no register that another rule judges
  pub kinds_found : list_all (has_wrong_kind small_fields small_roots) wrong_kinds ≡ true
  pub kinds_passed : list_any (has_wrong_kind small_fields small_roots) right_kinds ≡ false
  -- N2 finds each reference that is computed with
  pub computing_found : list_all computes_on_reference computing ≡ true
  pub computing_passed : list_any computes_on_reference not_computing ≡ false
  -- for N7 loads and auxiliary exchanges alone look
  pub looking_found : list_all looks looking ≡ true
  pub looking_passed : list_any looks not_looking ≡ false
  -- N10 finds a base and what is copied
  pub following_found : list_all (follows r0) following ≡ true
  pub following_passed : list_any (follows r0) not_following ≡ false
