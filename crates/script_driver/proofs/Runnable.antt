-- That the documents of a workload can be run.
use Rattle.std.proofs.Common.{◌≡◌, ℕ, ◌-◌, ◌/◌, ◌%◌, ◌<◌, ◌≤◌, min, Bool, true, false, List, [], ◌∷◌, map, length, Option, None, refl, arith}
use Rattle.std.proofs.lemmas.Bool.{le-leb}
use Rattle.std.proofs.lemmas.List.Elements.{All-map, All-nil, All-from_get_or}
use Rattle.std.proofs.lemmas.List.FromFn.{length-map-range_with_len}
use Rattle.std.specs.Prelude.{◌==◌, codes, if◌then◌else◌}
use Rattle.std.specs.List.{range_with_len}
use Rattle.norm_lang.specs.declared.text.Op.{Op}
use Rattle.norm_lang.specs.Laws.{ShippedAreWithin}
use Rattle.norm_lang.specs.NormalForm.{IsNormal}
use Rattle.norm_lang.specs.Shipped.{set_text}
use Rattle.documents.specs.declared.document.ScriptCall.{ScriptCall}
use Rattle.documents.specs.DocumentLimits.{most_calls, AreShort, count_of, IsWithinDocumentLimits}
use Rattle.schedule_turns.specs.declared.turn.Turn.{Turn}
use Rattle.oa_words.specs.Within.{is_count}
use Rattle.oa_words.specs.declared.limits.TheConstants.{MOST_SLOTS}
use Rattle.script_plans.specs.declared.fault.ShapeFault.{ShapeFault}
use Rattle.script_plans.specs.Shapes.{first_of, call_fault, script_fault, scripts_fault, shape_fault}
use Rattle.script_plans.specs.Plans.{IsRunnable}
use Rattle.script_driver.specs.declared.parts.TheConstants.{BUCKETS, FIRST_PART_CALLS, SECOND_PART_SLOTS}
use Rattle.script_driver.specs.Laws.{PartsCanBeRun, PartsAreWithinLimits}
use Rattle.script_driver.specs.Workload.{key_at, key_call, round_call, call_at, script_of, scripts_of, set_document, first_part, second_part}

-- ---- calls

abbrev ops : List Op
ops = (set_text BUCKETS).ops

insert_is_call : (key : ℕ) → call_fault ops (key_call (codes "insert") key) ≡ None
insert_is_call key = refl

remove_is_call : (key : ℕ) → call_fault ops (key_call (codes "remove") key) ≡ None
remove_is_call key = refl

contains_is_call : (key : ℕ) → call_fault ops (key_call (codes "contains") key) ≡ None
contains_is_call key = refl

either : (b : Bool) (one other : ScriptCall) → call_fault ops one ≡ None → call_fault ops other ≡ None → call_fault ops (if b then one else other) ≡ None
either true one other first second = first
either false one other first second = second

are_calls : (key before place : ℕ) → call_fault ops (round_call key before place) ≡ None
are_calls key before place =
    either (place == 0) (key_call (codes "insert") key) _ (insert_is_call key)
    (either (place == 1) (key_call (codes "contains") key) _ (contains_is_call key)
    (either (place == 2) (key_call (codes "remove") before) (key_call (codes "contains") before) (remove_is_call before) (contains_is_call before)))

-- the list that is made of numbers has no fault if what is made of each number has none
none_has : {A : Type 0} (fault : A → Option ShapeFault) (make : ℕ → A) (numbers : List ℕ) → ((n : ℕ) → fault (make n) ≡ None) → first_of (map fault (map make numbers)) ≡ None
none_has fault make [] each = refl
none_has fault make (n ∷ numbers) each = rw (each n, none_has fault make numbers each) refl

no_script_fault : (count caller : ℕ) → script_fault ops (script_of count caller) ≡ None
no_script_fault count caller =
    none_has (call_fault ops) (call_at caller) (range_with_len 0 count) (λ i. are_calls (key_at caller (i / 4)) (key_at caller (i / 4 - 1)) (i % 4))

no_scripts_fault : (count callers : ℕ) → scripts_fault ops (scripts_of count callers) ≡ None
no_scripts_fault count callers = none_has (script_fault ops) (script_of count) (range_with_len 0 callers) (no_script_fault count)

-- ---- settings

few_callers : (count callers : ℕ) → 1 ≤ callers → callers ≤ 8 → is_count 8 (length (scripts_of count callers)) ≡ true
few_callers count callers some few = rw (length-map-range_with_len (script_of count) 0 callers, le-leb 1 callers some, le-leb callers 8 few) refl

first_shape : (scripts : List (List ScriptCall)) → is_count 8 (length scripts) ≡ true → scripts_fault ops scripts ≡ None → shape_fault (set_document MOST_SLOTS scripts) ≡ None
first_shape scripts few calls = rw (few, calls) refl

second_shape : (scripts : List (List ScriptCall)) → is_count 8 (length scripts) ≡ true → scripts_fault ops scripts ≡ None → shape_fault (set_document SECOND_PART_SLOTS scripts) ≡ None
second_shape scripts few calls = rw (few, calls) refl

-- ---- both parts

part_can_be_run : (b : Bool) (count callers : ℕ) → IsNormal (set_text BUCKETS) → 1 ≤ callers → callers ≤ 8
    → IsRunnable (if b then first_part count callers else second_part count)
part_can_be_run true count callers normal some few = record {
  normal = normal;
  shape = first_shape (scripts_of (min count FIRST_PART_CALLS) callers) (few_callers (min count FIRST_PART_CALLS) callers some few) (no_scripts_fault (min count FIRST_PART_CALLS) callers);
}
part_can_be_run false count callers normal some few = record {
  normal = normal;
  shape = second_shape (scripts_of count 1) (few_callers count 1 (omega arith) (omega arith)) (no_scripts_fault count 1);
}

pub parts_can_be_run : ((b : ℕ) → 0 < b → IsNormal (set_text b)) → PartsCanBeRun
parts_can_be_run normal part count callers some few = part_can_be_run (part == 1) count callers (normal 8 (omega arith)) some few

are_short : (count callers : ℕ) → count ≤ most_calls → AreShort (scripts_of count callers)
are_short count callers few =
    All-map (λ (script : List ScriptCall). length script ≤ most_calls) (script_of count) (range_with_len 0 callers)
    (All-from_get_or (λ (caller : ℕ). length (script_of count caller) ≤ most_calls) (range_with_len 0 callers) 0 (λ i lt. one_is_short _))
  where
    one_is_short : (caller : ℕ) → length (script_of count caller) ≤ most_calls
    one_is_short caller = rw (length-map-range_with_len (call_at caller) 0 count) few

part_is_within : (b : Bool) (count callers : ℕ) → ShippedAreWithin → count ≤ most_calls → IsWithinDocumentLimits (if b then first_part count callers else second_part count)
part_is_within true count callers shipped few = record {
  text = shipped.0 8 (omega arith) (omega arith);
  scripts = are_short (min count FIRST_PART_CALLS) callers (omega (arith, few));
  turns = All-nil (λ (turn : Turn). 1 ≤ count_of turn);
}
part_is_within false count callers shipped few = record {
  text = shipped.0 8 (omega arith) (omega arith);
  scripts = are_short count 1 few;
  turns = All-nil (λ (turn : Turn). 1 ≤ count_of turn);
}

pub parts_are_within_limits : ShippedAreWithin → PartsAreWithinLimits
parts_are_within_limits shipped part count callers few = part_is_within (part == 1) count callers shipped few
