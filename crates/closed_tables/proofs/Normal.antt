-- Closed tables show that a text is in normal form.
use Rattle.std.proofs.Common.{◌≡◌, ℕ, Bool, true, false, ◌&&◌, List, [], ◌∷◌, length, zero, suc, Option, Some, None, refl}
use Rattle.std.specs.Prelude.{slice_get, IsSomeAnd}
use Rattle.norm_lang.specs.declared.text.Reg.{Reg}
use Rattle.norm_lang.specs.declared.text.Instr.{Instr}
use Rattle.norm_lang.specs.declared.text.Op.{Op}
use Rattle.norm_lang.specs.declared.text.Text.{Text}
use Rattle.norm_lang.specs.Kept.{code_of, IsKept}
use Rattle.norm_lang.specs.InstructionRules.{has_wrong_kind, computes_on_reference, has_wrong_end, has_wrong_retire, has_wrong_range}
use Rattle.norm_lang.specs.NormalForm.{Rule, N1, N2, N3, N4, N5, N6, N7, N8, N9, N10, N11, N12, N13, N14, N15, Breach, BreaksRule}
use Rattle.closed_tables.specs.Tables.{OpTables, tables_of, all_from, is_closed, keeps_none, keeps_rule, all_rules, declare_first, makes_first, method_shown, op_shown, ops_shown}
use Rattle.closed_tables.specs.Laws.{TablesShowNormal}
use Rattle.closed_tables.proofs.Tests.{and_left, and_right, not_and_true, all_places}
use Rattle.closed_tables.proofs.Rules.{made_once, puts_right, shows_none, none_kept, leaks_none, reads_set, loops_none}
use Rattle.closed_tables.proofs.OneKind.{mixes_none}

-- what the tables of an operation are shown to be
record Shown (op : Op) (t : OpTables) : Type 0 where
  generator : is_closed t.generator op.generator ≡ true
  wrapup : is_closed t.wrapup op.wrapup ≡ true
  none : (r : Reg) → IsKept op r → ⊥
  first : (wrapup : Bool) (at : ℕ) (i : Instr) → slice_get (code_of op wrapup) at ≡ Some i → makes_first i ≡ true

closed_of : (op : Op) (t : OpTables) (wrapup : Bool) → Shown op t → is_closed (tables_of t wrapup) (code_of op wrapup) ≡ true
closed_of op t false shown = shown.generator
closed_of op t true shown = shown.wrapup

rule_kept : (text : Text) (op : Op) (t : OpTables) (wrapup : Bool) (at : ℕ) (i : Instr) (rule : Rule) → declare_first text.fields text.roots ≡ true → Shown op t → slice_get (code_of op wrapup) at ≡ Some i
    → keeps_rule rule text.fields text.roots op t wrapup at i ≡ true → BreaksRule rule text op wrapup at i → ⊥
rule_kept text op t wrapup at i N1 one shown get test broken = not_and_true (has_wrong_kind text.fields text.roots i) test broken
rule_kept text op t wrapup at i N2 one shown get test broken = not_and_true (computes_on_reference i) test broken
rule_kept text op t wrapup at i N3 one shown get test broken = made_once op wrapup (tables_of t wrapup) at i (closed_of op t wrapup shown) get test broken
rule_kept text op t wrapup at i N4 one shown get test broken = puts_right op wrapup (tables_of t wrapup) at i (closed_of op t wrapup shown) test broken
rule_kept text op t wrapup at i N5 one shown get test broken = shows_none op wrapup (tables_of t wrapup) at i (closed_of op t wrapup shown) test broken
rule_kept text op t wrapup at i N6 one shown get test broken = leaks_none op wrapup (tables_of t wrapup) at i (closed_of op t wrapup shown) shown.none test broken
rule_kept text op t wrapup at i N7 one shown get test broken = loops_none op wrapup (tables_of t wrapup) at i (closed_of op t wrapup shown) broken
rule_kept text op t wrapup at i N8 one shown get test broken = not_and_true (has_wrong_end wrapup i at (length (code_of op wrapup))) test broken
rule_kept text op t wrapup at i N9 one shown get test broken = shown.none broken.1.0 broken.1.2
rule_kept text op t wrapup at i N10 one shown get test broken = shown.none broken.1.0 broken.1.2
rule_kept text op t wrapup at i N11 one shown get test broken = shown.none broken.1.0 broken.1.2
rule_kept text op t wrapup at i N12 one shown get test broken = not_and_true (has_wrong_retire i) test broken
rule_kept text op t wrapup at i N13 one shown get test broken = not_and_true (has_wrong_range text.roots i (length (code_of op wrapup))) test broken
rule_kept text op t wrapup at i N14 one shown get test broken = reads_set op t wrapup at i shown.generator (closed_of op t wrapup shown) test broken
rule_kept text op t wrapup at i N15 one shown get test broken = mixes_none text op one shown.first wrapup at i broken

-- the tests from a rule on
abbrev from_14 : (Rule → Bool) → Bool
from_14 test = test N14 && test N15

abbrev from_13 : (Rule → Bool) → Bool
from_13 test = test N13 && from_14 test

abbrev from_12 : (Rule → Bool) → Bool
from_12 test = test N12 && from_13 test

abbrev from_11 : (Rule → Bool) → Bool
from_11 test = test N11 && from_12 test

abbrev from_10 : (Rule → Bool) → Bool
from_10 test = test N10 && from_11 test

abbrev from_9 : (Rule → Bool) → Bool
from_9 test = test N9 && from_10 test

abbrev from_8 : (Rule → Bool) → Bool
from_8 test = test N8 && from_9 test

abbrev from_7 : (Rule → Bool) → Bool
from_7 test = test N7 && from_8 test

abbrev from_6 : (Rule → Bool) → Bool
from_6 test = test N6 && from_7 test

abbrev from_5 : (Rule → Bool) → Bool
from_5 test = test N5 && from_6 test

abbrev from_4 : (Rule → Bool) → Bool
from_4 test = test N4 && from_5 test

abbrev from_3 : (Rule → Bool) → Bool
from_3 test = test N3 && from_4 test

abbrev from_2 : (Rule → Bool) → Bool
from_2 test = test N2 && from_3 test

each_rule : (test : Rule → Bool) (rule : Rule) → all_rules test ≡ true → test rule ≡ true
each_rule test N1 all = and_left (test N1) (from_2 test) all
each_rule test N2 all = and_left (test N2) (from_3 test) (and_right (test N1) (from_2 test) all)
each_rule test N3 all = and_left (test N3) (from_4 test) (and_right (test N2) (from_3 test) (and_right (test N1) (from_2 test) all))
each_rule test N4 all = and_left (test N4) (from_5 test) (and_right (test N3) (from_4 test) (and_right (test N2) (from_3 test) (and_right (test N1) (from_2 test) all)))
each_rule test N5 all = and_left (test N5) (from_6 test) (and_right (test N4) (from_5 test) (and_right (test N3) (from_4 test) (and_right (test N2) (from_3 test) (and_right (test N1) (from_2 test) all))))
each_rule test N6 all = and_left (test N6) (from_7 test) (and_right (test N5) (from_6 test) (and_right (test N4) (from_5 test) (and_right (test N3) (from_4 test) (and_right (test N2) (from_3 test) (and_right (test N1) (from_2 test) all)))))
each_rule test N7 all = and_left (test N7) (from_8 test) (and_right (test N6) (from_7 test) (and_right (test N5) (from_6 test) (and_right (test N4) (from_5 test) (and_right (test N3) (from_4 test) (and_right (test N2) (from_3 test) (and_right (test N1) (from_2 test) all))))))
each_rule test N8 all = and_left (test N8) (from_9 test) (and_right (test N7) (from_8 test) (and_right (test N6) (from_7 test) (and_right (test N5) (from_6 test) (and_right (test N4) (from_5 test) (and_right (test N3) (from_4 test) (and_right (test N2) (from_3 test) (and_right (test N1) (from_2 test) all)))))))
each_rule test N9 all = and_left (test N9) (from_10 test) (and_right (test N8) (from_9 test) (and_right (test N7) (from_8 test) (and_right (test N6) (from_7 test) (and_right (test N5) (from_6 test) (and_right (test N4) (from_5 test) (and_right (test N3) (from_4 test) (and_right (test N2) (from_3 test) (and_right (test N1) (from_2 test) all))))))))
each_rule test N10 all = and_left (test N10) (from_11 test) (and_right (test N9) (from_10 test) (and_right (test N8) (from_9 test) (and_right (test N7) (from_8 test) (and_right (test N6) (from_7 test) (and_right (test N5) (from_6 test) (and_right (test N4) (from_5 test) (and_right (test N3) (from_4 test) (and_right (test N2) (from_3 test) (and_right (test N1) (from_2 test) all)))))))))
each_rule test N11 all = and_left (test N11) (from_12 test) (and_right (test N10) (from_11 test) (and_right (test N9) (from_10 test) (and_right (test N8) (from_9 test) (and_right (test N7) (from_8 test) (and_right (test N6) (from_7 test) (and_right (test N5) (from_6 test) (and_right (test N4) (from_5 test) (and_right (test N3) (from_4 test) (and_right (test N2) (from_3 test) (and_right (test N1) (from_2 test) all))))))))))
each_rule test N12 all = and_left (test N12) (from_13 test) (and_right (test N11) (from_12 test) (and_right (test N10) (from_11 test) (and_right (test N9) (from_10 test) (and_right (test N8) (from_9 test) (and_right (test N7) (from_8 test) (and_right (test N6) (from_7 test) (and_right (test N5) (from_6 test) (and_right (test N4) (from_5 test) (and_right (test N3) (from_4 test) (and_right (test N2) (from_3 test) (and_right (test N1) (from_2 test) all)))))))))))
each_rule test N13 all = and_left (test N13) (from_14 test) (and_right (test N12) (from_13 test) (and_right (test N11) (from_12 test) (and_right (test N10) (from_11 test) (and_right (test N9) (from_10 test) (and_right (test N8) (from_9 test) (and_right (test N7) (from_8 test) (and_right (test N6) (from_7 test) (and_right (test N5) (from_6 test) (and_right (test N4) (from_5 test) (and_right (test N3) (from_4 test) (and_right (test N2) (from_3 test) (and_right (test N1) (from_2 test) all))))))))))))
each_rule test N14 all = and_left (test N14) (test N15) (and_right (test N13) (from_14 test) (and_right (test N12) (from_13 test) (and_right (test N11) (from_12 test) (and_right (test N10) (from_11 test) (and_right (test N9) (from_10 test) (and_right (test N8) (from_9 test) (and_right (test N7) (from_8 test) (and_right (test N6) (from_7 test) (and_right (test N5) (from_6 test) (and_right (test N4) (from_5 test) (and_right (test N3) (from_4 test) (and_right (test N2) (from_3 test) (and_right (test N1) (from_2 test) all)))))))))))))
each_rule test N15 all = and_right (test N14) (test N15) (and_right (test N13) (from_14 test) (and_right (test N12) (from_13 test) (and_right (test N11) (from_12 test) (and_right (test N10) (from_11 test) (and_right (test N9) (from_10 test) (and_right (test N8) (from_9 test) (and_right (test N7) (from_8 test) (and_right (test N6) (from_7 test) (and_right (test N5) (from_6 test) (and_right (test N4) (from_5 test) (and_right (test N3) (from_4 test) (and_right (test N2) (from_3 test) (and_right (test N1) (from_2 test) all)))))))))))))

method_places : (text : Text) (op : Op) (t : OpTables) (wrapup : Bool) → method_shown text.fields text.roots op t wrapup ≡ true
    → all_from (λ at i. all_rules (λ rule. keeps_rule rule text.fields text.roots op t wrapup at i)) 0 (code_of op wrapup) ≡ true
method_places text op t wrapup shown =
    and_right (is_closed (tables_of t wrapup) (code_of op wrapup))
    (all_from (λ at i. all_rules (λ rule. keeps_rule rule text.fields text.roots op t wrapup at i)) 0 (code_of op wrapup)) shown

method_closed : (text : Text) (op : Op) (t : OpTables) (wrapup : Bool) → method_shown text.fields text.roots op t wrapup ≡ true → is_closed (tables_of t wrapup) (code_of op wrapup) ≡ true
method_closed text op t wrapup shown =
    and_left (is_closed (tables_of t wrapup) (code_of op wrapup))
    (all_from (λ at i. all_rules (λ rule. keeps_rule rule text.fields text.roots op t wrapup at i)) 0 (code_of op wrapup)) shown

both_methods : (text : Text) (op : Op) (t : OpTables) → op_shown text.fields text.roots op t ≡ true → (wrapup : Bool) → method_shown text.fields text.roots op t wrapup ≡ true
both_methods text op t shown false =
    let generator = method_shown text.fields text.roots op t false in
    let wrapup = method_shown text.fields text.roots op t true in
    and_left generator wrapup (and_right (keeps_none op t) (generator && wrapup) shown)
both_methods text op t shown true =
    let generator = method_shown text.fields text.roots op t false in
    let wrapup = method_shown text.fields text.roots op t true in
    and_right generator wrapup (and_right (keeps_none op t) (generator && wrapup) shown)

op_is_shown : (text : Text) (op : Op) (t : OpTables) → op_shown text.fields text.roots op t ≡ true → Shown op t
op_is_shown text op t shown =
    let generator = method_shown text.fields text.roots op t false in
    let wrapup = method_shown text.fields text.roots op t true in
    let closed = method_closed text op t true (both_methods text op t shown true) in
    record {
      generator = method_closed text op t false (both_methods text op t shown false);
      wrapup = closed;
      none = λ r. none_kept op t r closed (and_left (keeps_none op t) (generator && wrapup) shown);
      first = λ b at i get. each_rule (λ rule. keeps_rule rule text.fields text.roots op t b at i) N15
          (all_places (λ k x. all_rules (λ rule. keeps_rule rule text.fields text.roots op t b k x)) (code_of op b) at i (method_places text op t b (both_methods text op t shown b)) get);
    }

-- an operation of which the tables show it breaks no rule
op_kept : (text : Text) (breach : Breach) (op : Op) (t : OpTables) → declare_first text.fields text.roots ≡ true → op_shown text.fields text.roots op t ≡ true → (found : Option Instr) → slice_get (code_of op breach.wrapup) breach.at ≡ found
    → IsSomeAnd found (λ i. BreaksRule breach.rule text op breach.wrapup breach.at i) → ⊥
op_kept text breach op t one shown None get broken = broken
op_kept text breach op t one shown (Some i) get broken =
    let places = method_places text op t breach.wrapup (both_methods text op t shown breach.wrapup) in
    let rules = all_places (λ at i. all_rules (λ rule. keeps_rule rule text.fields text.roots op t breach.wrapup at i)) (code_of op breach.wrapup) breach.at i places get in
    let test = each_rule (λ rule. keeps_rule rule text.fields text.roots op t breach.wrapup breach.at i) breach.rule rules in
    rule_kept text op t breach.wrapup breach.at i breach.rule one (op_is_shown text op t shown) get test broken

ops_kept : (text : Text) (breach : Breach) (ops : List Op) (tables : List OpTables) (k : ℕ) → declare_first text.fields text.roots ≡ true → ops_shown text.fields text.roots ops tables ≡ true
    → IsSomeAnd (slice_get ops k) (λ op. IsSomeAnd (slice_get (code_of op breach.wrapup) breach.at) (λ i. BreaksRule breach.rule text op breach.wrapup breach.at i)) → ⊥
ops_kept text breach [] tables k one shown broken = broken
ops_kept text breach (op ∷ ops) [] k one shown broken = let z : false ≡ true = shown in cc
ops_kept text breach (op ∷ ops) (t ∷ tables) zero one shown broken =
    op_kept text breach op t one (and_left (op_shown text.fields text.roots op t) (ops_shown text.fields text.roots ops tables) shown)
    (slice_get (code_of op breach.wrapup) breach.at) refl broken
ops_kept text breach (op ∷ ops) (t ∷ tables) (suc k) one shown broken =
    ops_kept text breach ops tables k one (and_right (op_shown text.fields text.roots op t) (ops_shown text.fields text.roots ops tables) shown) broken

pub tables_show_normal : TablesShowNormal
tables_show_normal text tables shown breach broken =
    let one = declare_first text.fields text.roots in
    let ops = ops_shown text.fields text.roots text.ops tables in
    ops_kept text breach text.ops tables breach.op (and_left one ops shown) (and_right one ops shown) broken
