-- Tables over the places of a method, and when they are closed: each holds at the start, and each instruction keeps it.
use Rattle.std.specs.Prelude.{ℕ, suc, Bool, true, false, ◌&&◌, ◌||◌, not, List, [], ◌∷◌, length, slice_get, unwrap_or, nat_le, nat_lt, ◌==◌}
use Rattle.std.specs.List.{list_any, list_all}
use Rattle.norm_lang.specs.declared.text.Reg.{Reg}
use Rattle.norm_lang.specs.declared.text.Reg.TheVariants.{Num}
use Rattle.norm_lang.specs.declared.text.FieldDecl.{FieldDecl}
use Rattle.norm_lang.specs.declared.text.RootDecl.{RootDecl}
use Rattle.norm_lang.specs.declared.text.Instr.{Instr}
use Rattle.norm_lang.specs.declared.text.Instr.TheVariants as instr
use Rattle.norm_lang.specs.declared.text.Op.{Op}
use Rattle.norm_lang.specs.declared.text.Text.{Text}
use Rattle.norm_lang.specs.Grammar.{is_new}
use Rattle.norm_lang.specs.Limits.{is_kind}
use Rattle.norm_lang.specs.Flow.{formed_successors}
use Rattle.norm_lang.specs.RegisterUse.{same_register, registers_named, sources, destination, sets, set_after}
use Rattle.norm_lang.specs.Freshness.{fresh_after}
use Rattle.norm_lang.specs.Kept.{code_of, holds_reference, is_argument}
use Rattle.norm_lang.specs.PathRules.{reads_openly, is_commit, looks}
use Rattle.norm_lang.specs.InstructionRules.{has_wrong_kind, computes_on_reference, has_wrong_end, has_wrong_retire, has_wrong_range}
use Rattle.norm_lang.specs.NormalForm.{Rule, N1, N2, N3, N4, N5, N6, N7, N8, N9, N10, N11, N12, N13, N14, N15}

-- what is known at each place of a method, before its instruction acts
pub record Tables : Type 0 where
  -- no register but these is fresh there, on any path
  pub may_be_fresh : List (List Reg)
  -- on every path these are
  pub surely_fresh : List (List Reg)
  -- on every path these have been set
  pub set : List (List Reg)
  -- this number never falls on the way, and it rises after a `new`
  pub level : List ℕ
  -- this one rises after each instruction that doesn't look
  pub rank : List ℕ

-- a register is one of a list
abbrev pub among : Reg → List Reg → Bool
among r registers = list_any (same_register r) registers

abbrev pub registers_at : List (List Reg) → ℕ → List Reg
registers_at table at = unwrap_or (slice_get table at) []

abbrev pub table_number : List ℕ → ℕ → ℕ
table_number table at = unwrap_or (slice_get table at) 0

-- a test of each instruction and its place, from a place on
abbrev pub all_from : (ℕ → Instr → Bool) → ℕ → List Instr → Bool
all_from test at [] = true
all_from test at (i ∷ code) = test at i && all_from test (suc at) code

-- each register that may be fresh after the instruction is among those of the next place
abbrev pub keeps_may_be_fresh : Tables → ℕ → Instr → ℕ → Bool
keeps_may_be_fresh t at i next =
    list_all (λ r. sets r i || among r (registers_at t.may_be_fresh next)) (registers_at t.may_be_fresh at)
    && (not (is_new i) || list_all (λ r. among r (registers_at t.may_be_fresh next)) (registers_named (destination i)))

-- each register that the next place has as surely fresh is so after the instruction
abbrev pub keeps_surely_fresh : Tables → ℕ → Instr → ℕ → Bool
keeps_surely_fresh t at i next =
    list_all (λ r. fresh_after r i (among r (registers_at t.surely_fresh at))) (registers_at t.surely_fresh next)

-- each register that the next place has as set is so after the instruction
abbrev pub keeps_set : Tables → ℕ → Instr → ℕ → Bool
keeps_set t at i next = list_all (λ r. set_after r i (among r (registers_at t.set at))) (registers_at t.set next)

abbrev pub keeps_level : Tables → ℕ → Instr → ℕ → Bool
keeps_level t at i next =
    nat_le (table_number t.level at) (table_number t.level next)
    && (not (is_new i) || nat_lt (table_number t.level at) (table_number t.level next))

abbrev pub keeps_rank : Tables → ℕ → Instr → ℕ → Bool
keeps_rank t at i next = looks i || nat_lt (table_number t.rank at) (table_number t.rank next)

-- an instruction at a place keeps the tables on the way to the next place
abbrev pub keeps_tables : Tables → ℕ → Instr → ℕ → Bool
keeps_tables t at i next =
    keeps_may_be_fresh t at i next
    && (keeps_surely_fresh t at i next && (keeps_set t at i next && (keeps_level t at i next && keeps_rank t at i next)))

-- the tables hold at the start, where nothing is fresh or set, and each instruction keeps them
abbrev pub is_closed : Tables → List Instr → Bool
is_closed t code =
    list_all (λ r. false) (registers_at t.surely_fresh 0)
    && (list_all (λ r. false) (registers_at t.set 0)
    && all_from (λ at i. list_all (keeps_tables t at i) (formed_successors i at)) 0 code)

-- a table of each method of an operation
pub record OpTables : Type 0 where
  pub generator : Tables
  pub wrapup : Tables

abbrev pub tables_of : OpTables → Bool → Tables
tables_of t false = t.generator
tables_of t true = t.wrapup

-- the register is set at each commit of the generator
abbrev pub is_set_at_commits : Op → OpTables → Reg → Bool
is_set_at_commits op t r =
    all_from (λ at i. not (is_commit i) || (is_argument op r || among r (registers_at t.generator.set at))) 0 op.generator

-- the register is set where the method starts
abbrev pub starts_set : Op → OpTables → Bool → Reg → Bool
starts_set op t false r = is_argument op r
starts_set op t true r = same_register r (Num 7) || is_set_at_commits op t r

-- a put comes in a generator, into a node that is surely fresh, of what can't be fresh
abbrev pub has_right_put : Tables → Bool → ℕ → Instr → Bool
has_right_put t wrapup at (instr.Put a f b) =
    not wrapup && (among a (registers_at t.surely_fresh at) && not (among b (registers_at t.may_be_fresh at)))
has_right_put t wrapup at _ = true

-- an auxiliary exchange puts in what can't be fresh
abbrev pub has_right_exchange : Tables → ℕ → Instr → Bool
has_right_exchange t at (instr.Cas entry l) = not (among entry.replacement (registers_at t.may_be_fresh at))
has_right_exchange t at _ = true

-- no instruction of the wrap-up reads a reference that isn't set on every path to it, so the wrap-up keeps none
abbrev pub keeps_none : Op → OpTables → Bool
keeps_none op t =
    all_from (λ at i. list_all (λ r. not (holds_reference r) || among r (registers_at t.wrapup.set at)) (sources i)) 0 op.wrapup

-- a field of nodes of the first kind, which refers to no other
abbrev pub is_first_field : FieldDecl → Bool
is_first_field field = (field.owner == 0) && is_kind 1 field.kind

abbrev pub is_first_root : RootDecl → Bool
is_first_root root = is_kind 1 root.kind

-- fields and roots are of the first kind
abbrev pub declare_first : List FieldDecl → List RootDecl → Bool
declare_first fields roots = list_all is_first_field fields && list_all is_first_root roots

-- a node that the instruction makes is of the first kind
abbrev pub makes_first : Instr → Bool
makes_first (instr.New d kind) = kind == 0
makes_first _ = true

-- the tables show that the instruction at a place keeps a rule, if the wrap-up keeps no reference and the tables are
-- closed
abbrev pub keeps_rule : Rule → List FieldDecl → List RootDecl → Op → OpTables → Bool → ℕ → Instr → Bool
keeps_rule N1 fields roots op t wrapup at i = not (has_wrong_kind fields roots i)
keeps_rule N2 fields roots op t wrapup at i = not (computes_on_reference i)
keeps_rule N3 fields roots op t wrapup at i = not (wrapup && is_new i)
keeps_rule N4 fields roots op t wrapup at i = has_right_put (tables_of t wrapup) wrapup at i
keeps_rule N5 fields roots op t wrapup at i = has_right_exchange (tables_of t wrapup) at i
keeps_rule N6 fields roots op t wrapup at i = list_all (λ r. not (reads_openly r i)) (registers_at (tables_of t wrapup).may_be_fresh at)
keeps_rule N7 fields roots op t wrapup at i = true
keeps_rule N8 fields roots op t wrapup at i = not (has_wrong_end wrapup i at (length (code_of op wrapup)))
keeps_rule N9 fields roots op t wrapup at i = true
keeps_rule N10 fields roots op t wrapup at i = true
keeps_rule N11 fields roots op t wrapup at i = true
keeps_rule N12 fields roots op t wrapup at i = not (has_wrong_retire i)
keeps_rule N13 fields roots op t wrapup at i = not (has_wrong_range roots i (length (code_of op wrapup)))
keeps_rule N14 fields roots op t wrapup at i =
    list_all (λ r. starts_set op t wrapup r || among r (registers_at (tables_of t wrapup).set at)) (sources i)
keeps_rule N15 fields roots op t wrapup at i = makes_first i

-- a test of each rule
abbrev pub all_rules : (Rule → Bool) → Bool
all_rules test =
    test N1 && (test N2 && (test N3 && (test N4 && (test N5 && (test N6 && (test N7 && (test N8
    && (test N9 && (test N10 && (test N11 && (test N12 && (test N13 && (test N14 && test N15)))))))))))))

-- the tables are closed and show that each instruction of the method keeps each rule
abbrev pub method_shown : List FieldDecl → List RootDecl → Op → OpTables → Bool → Bool
method_shown fields roots op t wrapup =
    is_closed (tables_of t wrapup) (code_of op wrapup)
    && all_from (λ at i. all_rules (λ rule. keeps_rule rule fields roots op t wrapup at i)) 0 (code_of op wrapup)

abbrev pub op_shown : List FieldDecl → List RootDecl → Op → OpTables → Bool
op_shown fields roots op t = keeps_none op t && (method_shown fields roots op t false && method_shown fields roots op t true)

abbrev pub ops_shown : List FieldDecl → List RootDecl → List Op → List OpTables → Bool
ops_shown fields roots [] tables = true
ops_shown fields roots (op ∷ ops) [] = false
ops_shown fields roots (op ∷ ops) (t ∷ tables) = op_shown fields roots op t && ops_shown fields roots ops tables

-- the tables of a text's operations show that it is in normal form. Its nodes are of the first kind alone, so that none is mixed with
-- another
abbrev pub tables_show : Text → List OpTables → Bool
tables_show text tables = declare_first text.fields text.roots && ops_shown text.fields text.roots text.ops tables
