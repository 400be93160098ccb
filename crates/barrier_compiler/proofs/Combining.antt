-- The checks of the second scheme come in time: what may not be clean where an instruction is reached is noted as due there.
--
-- The notes go by the order of the text, and what is unclean by paths. They agree since control goes on to the next
-- instruction alone, or else the instruction breaks, and no register is unclean where control leaves it.
use Rattle.std.proofs.Common.{◌≡◌, ℕ, zero, suc, ◌+◌, ◌⊎◌, inl, inr, Bool, true, false, ◌&&◌, ◌||◌, List, [], ◌∷◌, ◌++◌, map, take, Option, Some, None, refl, sym, ap, subst, ◌∙◌, arith}
use Rattle.std.specs.Prelude.{slice_get, IsTrue, if◌then◌else◌}
use Rattle.std.specs.List.{list_any}
use Rattle.std.proofs.lemmas.Option.{same_Some}
use Rattle.std.proofs.lemmas.Bool.{or_cases, or_left, or_right}
use Rattle.norm_lang.specs.declared.text.Reg.{Reg}
use Rattle.norm_lang.specs.declared.text.Instr.{Instr}
use Rattle.norm_lang.specs.declared.text.Instr.TheVariants as instr
use Rattle.norm_lang.specs.declared.text.Op.{Op}
use Rattle.norm_lang.specs.RegisterUse.{same_register, is_register_named, registers_named, destination, reads, sets}
use Rattle.norm_lang.specs.PathRules.{is_commit}
use Rattle.norm_lang.specs.Flow.{is_end}
use Rattle.norm_paths.proofs.Within.{register_same}
use Rattle.target_code.specs.declared.target.TargetInstr.TheVariants.{Plain}
use Rattle.target_code.specs.Flaws.{fetches, Uses}
use Rattle.target_code.specs.Blocks.{Marked}
use Rattle.target_code.specs.SecondScheme.{Due, none_due, is_any, is_due, breaks, reads_some, needs_check, after_check, noted, left_due, jumps_to, meets_jump, next_due, marked, marks_from, second_marks}
use Rattle.barrier_compiler.proofs.BlockPaths.{leads_on, jumps, AreStraight}
use Rattle.barrier_compiler.proofs.Guarding.{IsAmong, among_left, among_right, IsUnclean}
use Rattle.barrier_compiler.proofs.Flawless.{KnowsUnchecked, IsScheme}

-- ---- what is due, by the order of the text

-- what is due after instructions from a place on
abbrev pub due_along : List Instr → ℕ → Due → List Instr → Due
due_along code at due [] = due
due_along code at due (i ∷ rest) = due_along code (at + 1) (next_due code at i due) rest

-- what is due before the instruction at a place
abbrev pub due_before : List Instr → ℕ → Due
due_before code at = due_along code 0 none_due (take at code)

further : (code : List Instr) (n : ℕ) (due : Due) (rest : List Instr) (k : ℕ) (i : Instr) → slice_get rest k ≡ Some i
    → due_along code n due (take (suc k) rest) ≡ next_due code (n + k) i (due_along code n due (take k rest))
further code n due [] k i is = cc
further code n due (first ∷ rest) zero i is =
    let here : n ≡ n + 0 = omega arith in
    ap (λ z. next_due code n z due) (same_Some first i is) ∙ ap (λ (at : ℕ). next_due code at i due) here
further code n due (first ∷ rest) (suc k) i is =
    let there : (n + 1) + k ≡ n + suc k = omega arith in
    further code (n + 1) (next_due code n first due) rest k i is ∙ ap (λ (at : ℕ). next_due code at i (due_along code (n + 1) (next_due code n first due) (take k rest))) there

-- what a place is marked with
found : (code : List Instr) (n : ℕ) (due : Due) (rest : List Instr) (k : ℕ) (m : Marked) → slice_get (marks_from code n due rest) k ≡ Some m
    → (slice_get rest k ≡ Some m.instr) × (m ≡ marked code (n + k) (due_along code n due (take k rest)) m.instr)
found code n due [] k m is = cc
found code n due (first ∷ rest) zero m is =
    let same : marked code n due first ≡ m = same_Some (marked code n due first) m is in
    let here : n ≡ n + 0 = omega arith in
    (ap (λ (z : Marked). Some z.instr) same, sym same ∙ (ap (λ (z : Marked). marked code n due z.instr) same ∙ ap (λ (at : ℕ). marked code at due m.instr) here))
found code n due (first ∷ rest) (suc k) m is =
    let there : (n + 1) + k ≡ n + suc k = omega arith in
    let later = found code (n + 1) (next_due code n first due) rest k m is in
    (later.0, later.1 ∙ ap (λ (at : ℕ). marked code at (due_along code (n + 1) (next_due code n first due) (take k rest)) m.instr) there)

-- the instruction at a place is marked by what is due before it
marked_there : (code : List Instr) (at : ℕ) (m : Marked) → slice_get (second_marks code) at ≡ Some m → m ≡ marked code at (due_before code at) m.instr
marked_there code at m is =
    let here : 0 + at ≡ at = omega arith in
    (found code 0 none_due code at m is).1 ∙ ap (λ (n : ℕ). marked code n (due_before code at) m.instr) here

next_there : (code : List Instr) (at : ℕ) (m : Marked) → slice_get (second_marks code) at ≡ Some m → due_before code (suc at) ≡ next_due code at m.instr (due_before code at)
next_there code at m is =
    let here : 0 + at ≡ at = omega arith in
    further code 0 none_due code at m.instr (found code 0 none_due code at m is).0 ∙ ap (λ (n : ℕ). next_due code n m.instr (due_before code at)) here

all_marked : (code : List Instr) (n : ℕ) (due : Due) (rest : List Instr) → map (λ m. m.instr) (marks_from code n due rest) ≡ rest
all_marked code n due [] = refl
all_marked code n due (i ∷ rest) = ap (λ z. i ∷ z) (all_marked code (n + 1) (next_due code n i due) rest)

-- ---- forms of instructions

jumps_fetch_none : (i : Instr) → IsTrue (jumps i) → fetches i ≡ false
jumps_fetch_none (instr.Cas entry l) is = cc
jumps_fetch_none _ is = cc

jumps_break : (i : Instr) → IsTrue (jumps i) → (breaks i ≡ true) × (is_end i ≡ false)
jumps_break (instr.Cas entry l) is = (cc, cc)
jumps_break _ is = (cc, cc)

commit_breaks : (i : Instr) → IsTrue (is_commit i) → (breaks i ≡ true) × (is_end i ≡ false)
commit_breaks (instr.Commit entries) is = (refl, refl)
commit_breaks _ is = cc

on_ends_not : (i : Instr) → IsTrue (leads_on i) → is_end i ≡ false
on_ends_not (instr.Return a) is = cc
on_ends_not instr.ReturnNone is = cc
on_ends_not instr.Again is = cc
on_ends_not _ is = refl

-- ---- what one instruction does to what is due

among_some : (r : Reg) (rs : List Reg) → IsAmong r rs → IsTrue (is_any rs)
among_some r [] is = cc
among_some r (a ∷ rs) is = refl

among_reads : (r : Reg) (i : Instr) (rs : List Reg) → IsAmong r rs → IsTrue (reads r i) → IsTrue (reads_some i rs)
among_reads r i [] is reading = cc
among_reads r i (a ∷ rs) is reading = elim (or_cases (same_register r a) (list_any (same_register r) rs) is) [
  | inl same ↦ or_left (reads a i) (reads_some i rs) (subst (λ z. IsTrue (reads z i)) (register_same r a same) reading)
  | inr later ↦ or_right (reads a i) (reads_some i rs) (among_reads r i rs later reading)
]

-- an instruction has a check before it if it reads what was fetched, or if it breaks and a check is due
reading_checked : (last other due break reading : Bool) → IsTrue due → IsTrue reading → IsTrue (if last then reading || other else due && (break || reading))
reading_checked true other due break true holds is = refl
reading_checked false other true true true holds is = refl
reading_checked false other true false true holds is = refl
reading_checked false other false break true holds is = cc
reading_checked last other due break false holds is = cc

breaking_checked : (i : Instr) (due : Due) → (breaks i ≡ true) × (is_end i ≡ false) → needs_check due i ≡ is_due due
breaking_checked i due how =
    ap (λ last. if last then reads_some i due.fetched || reads_some i due.others else is_due due && (breaks i || reads_some i due.fetched)) how.1
    ∙ (ap (λ break. is_due due && (break || reads_some i due.fetched)) how.0 ∙ and_true (is_due due))
  where
    and_true : (b : Bool) → (b && true) ≡ b
    and_true true = refl
    and_true false = refl

uses_none : (op : Op) (i : Instr) (due : Due) (r : Reg) → needs_check due i ≡ false → IsAmong r due.fetched → ¬ Uses op r (Plain i)
uses_none op i due r unchecked among uses =
    let due_there = among_some r due.fetched among in
    elim uses [
      | inl reading ↦ (
          let checks : needs_check due i ≡ true =
          reading_checked (is_end i) (reads_some i due.others) (is_due due) (breaks i) (reads_some i due.fetched) due_there (among_reads r i due.fetched among reading) in
          let no : false ≡ true = sym unchecked ∙ checks in cc)
      | inr commits ↦ (let no : false ≡ true = sym unchecked ∙ (breaking_checked i due (commit_breaks i commits.0) ∙ due_there) in cc)
    ]

-- what is noted as fetched after an instruction that isn't an end
noted_fetched : (i : Instr) (due : Due) → is_end i ≡ false → (noted i due).fetched ≡ (if fetches i then due.fetched ++ registers_named (destination i) else due.fetched)
noted_fetched i due goes_on = by_bool (is_end i) (fetches i) (is_due due) goes_on
  where
    by_bool : (last fetched is : Bool) → last ≡ false
        → (if last then none_due else if fetched then record due { fetched = due.fetched ++ registers_named (destination i) } else if is then record due { others = due.others ++ registers_named (destination i) } else due).fetched
        ≡ (if fetched then due.fetched ++ registers_named (destination i) else due.fetched)
    by_bool true fetched is same = cc
    by_bool false true is same = refl
    by_bool false false true same = refl
    by_bool false false false same = refl

after_due : (fetched others : List Reg) → (after_check (is_any fetched) (record { fetched = fetched; others = others })).fetched ≡ []
after_due [] others = refl
after_due (r ∷ rs) others = refl

-- after a break that fetches nothing none is due
breaks_settle : (i : Instr) (due : Due) → fetches i ≡ false → (breaks i ≡ true) × (is_end i ≡ false) → is_due (left_due i due) ≡ false
breaks_settle i due plain how =
    ap is_any
    (noted_fetched i (after_check (needs_check due i) due) how.1
    ∙ (ap (λ b. if b then (after_check (needs_check due i) due).fetched ++ registers_named (destination i) else (after_check (needs_check due i) due).fetched) plain
    ∙ (ap (λ b. (after_check b due).fetched) (breaking_checked i due how)
    ∙ after_due due.fetched due.others)))

-- a check that is due after an instruction is due where it goes on
leaving_settles : (i : Instr) (due : Due) → leads_on i ≡ false → is_due (left_due i due) ≡ false
leaving_settles (instr.Cas entry l) due is = breaks_settle (instr.Cas entry l) due refl (refl, refl)
leaving_settles (instr.Jump l) due is = breaks_settle (instr.Jump l) due refl (refl, refl)
leaving_settles (instr.IfEq a b l) due is = breaks_settle (instr.IfEq a b l) due refl (refl, refl)
leaving_settles (instr.IfLess a b l) due is = breaks_settle (instr.IfLess a b l) due refl (refl, refl)
leaving_settles (instr.IfMarked a l) due is = breaks_settle (instr.IfMarked a l) due refl (refl, refl)
leaving_settles (instr.Commit entries) due is = breaks_settle (instr.Commit entries) due refl (refl, refl)
leaving_settles (instr.Return a) due is = refl
leaving_settles instr.ReturnNone due is = refl
leaving_settles instr.Again due is = refl
leaving_settles _ due is = cc

meets_straight : (code : List Instr) (at : ℕ) (i : Instr) (due : Due) → meets_jump code at (left_due i due) ≡ true → IsTrue (leads_on i)
meets_straight code at i due meets = by_bool (leads_on i) refl
  where
    by_bool : (b : Bool) → leads_on i ≡ b → IsTrue b
    by_bool true on = refl
    by_bool false off = let no : false ≡ true = sym (ap (λ b. b && list_any (jumps_to at) code) (leaving_settles i due off)) ∙ meets in cc

-- what may not be clean after an instruction is noted
named_among : (r : Reg) (named : Option Reg) → IsTrue (is_register_named r named) → IsAmong r (registers_named named)
named_among r None is = cc
named_among r (Some a) is = or_left (same_register r a) false is

left_noted : (i : Instr) (due : Due) (r : Reg) → is_end i ≡ false → (IsTrue (sets r i) × IsTrue (fetches i)) ⊎ ((needs_check due i ≡ false) × IsAmong r due.fetched) → IsAmong r (left_due i due).fetched
left_noted i due r goes_on how =
    let before : List Reg = (after_check (needs_check due i) due).fetched in
    subst (IsAmong r) (sym (noted_fetched i (after_check (needs_check due i) due) goes_on)) (elim how [
      | inl set ↦ subst (λ b. IsAmong r (if b then before ++ registers_named (destination i) else before)) (sym set.1) (among_right r before (registers_named (destination i)) (named_among r (destination i) set.0))
      | inr kept ↦ either (fetches i) (subst (λ b. IsAmong r (after_check b due).fetched) (sym kept.0) kept.1)
    ])
  where
    either : (b : Bool) → IsAmong r (after_check (needs_check due i) due).fetched
        → IsAmong r (if b then (after_check (needs_check due i) due).fetched ++ registers_named (destination i) else (after_check (needs_check due i) due).fetched)
    either true is = among_left r (after_check (needs_check due i) due).fetched (registers_named (destination i)) is
    either false is = is

next_noted : (code : List Instr) (at : ℕ) (i : Instr) (due : Due) (r : Reg) → meets_jump code (at + 1) (left_due i due) ≡ false → IsAmong r (left_due i due).fetched → IsAmong r (next_due code at i due).fetched
next_noted code at i due r meets is = subst (λ b. IsAmong r (after_check b (left_due i due)).fetched) (sym meets) is

-- ---- the second scheme

second_straight : (code : List Instr) → AreStraight (second_marks code)
second_straight code at m stands checks =
    let is = marked_there code at m stands in
    meets_straight code (at + 1) m.instr (due_before code at) (sym (ap (λ (z : Marked). z.after) is) ∙ checks)

second_knows : (op : Op) (code : List Instr) → KnowsUnchecked op (second_marks code)
second_knows op code = record {
  unchecked = λ at. (due_before code at).fetched;
  uses = λ at m r stands unchecked among.
      uses_none op m.instr (due_before code at) r (sym (ap (λ (z : Marked). z.before) (marked_there code at m stands)) ∙ unchecked) among;
  after = λ at m r stands on none unclean.
      let is = marked_there code at m stands in
      subst (λ (due : Due). IsAmong r due.fetched) (sym (next_there code at m stands))
      (next_noted code at m.instr (due_before code at) r (sym (ap (λ (z : Marked). z.after) is) ∙ none)
      (left_noted m.instr (due_before code at) r (on_ends_not m.instr on) (by_marks code at m r is unclean)));
  leaving = λ at m r stands jumping unclean. elim (by_marks code at m r (marked_there code at m stands) unclean) [
    | inl set ↦ (let no : false ≡ true = sym (jumps_fetch_none m.instr jumping) ∙ set.1 in cc)
    | inr kept ↦ (let no : false ≡ true = sym kept.0 ∙ (breaking_checked m.instr (due_before code at) (jumps_break m.instr jumping) ∙ among_some r (due_before code at).fetched kept.1) in cc)
  ];
}
  where
    by_marks : (code : List Instr) (at : ℕ) (m : Marked) (r : Reg) → m ≡ marked code at (due_before code at) m.instr → IsUnclean r m (IsAmong r (due_before code at).fetched)
        → (IsTrue (sets r m.instr) × IsTrue (fetches m.instr)) ⊎ ((needs_check (due_before code at) m.instr ≡ false) × IsAmong r (due_before code at).fetched)
    by_marks code at m r is unclean = elim unclean [ inl set ↦ inl set | inr kept ↦ inr (sym (ap (λ (z : Marked). z.before) is) ∙ kept.0, kept.1) ]

pub second_is_scheme : IsScheme second_marks
second_is_scheme = record {
  instrs = λ code. all_marked code 0 none_due code;
  straight = second_straight;
  knows = second_knows;
}
