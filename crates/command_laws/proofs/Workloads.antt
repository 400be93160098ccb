-- The documents of a workload are such as bytes state: their spelling is read.
use Rattle.std.proofs.Common.{◌≡◌, ℕ, zero, suc, ◌+◌, ◌-◌, ◌/◌, ◌%◌, ◌^◌, ◌<◌, ◌≤◌, ◌==◌, ◌&&◌, min, Bool, true, false, List, [], ◌∷◌, ◌++◌, map, length, refl, sym, ap, subst, arith, if◌then◌else◌}
use Rattle.std.specs.Prelude.{codes, decimal}
use Rattle.std.specs.List.{AllByRecursion, range_with_len}
use Rattle.std.proofs.lemmas.Bool.{lt-ltb}
use Rattle.std.proofs.lemmas.Fmt.{length-decimal-le}
use Rattle.std.proofs.lemmas.List.{length-append}
use Rattle.std.proofs.lemmas.List.FromFn.{length-map-range_with_len}
use Rattle.norm_lang.specs.Laws.{ShippedAreWithin}
use Rattle.norm_lang.specs.LineWords.{is_name}
use Rattle.norm_lang.specs.Declarations.{is_reserved}
use Rattle.norm_lang.specs.Limits.{is_number}
use Rattle.documents.specs.declared.document.ScriptCall.{ScriptCall}
use Rattle.documents.specs.declared.document.Document.{Document}
use Rattle.documents.specs.DocumentLimits.{most_calls}
use Rattle.document_spelling.specs.Spelling.{document_spelling}
use Rattle.document_spelling.specs.SpellingLaws.{placeless, placed, calls_from, scripts_from, first_behind_settings, AreAlike}
use Rattle.document_spelling.proofs.DocumentParts.{IsCall, IsScript, IsStated}
use Rattle.document_spelling.proofs.SpellingsRead.{placed_read}
use Rattle.oa_words.specs.declared.limits.TheConstants.{MOST_SLOTS}
use Rattle.script_driver.specs.Laws.{KeysAreOwn}
use Rattle.script_driver.specs.Workload.{key_at, key_call, round_call, call_at, script_of, scripts_of, set_document, first_part, second_part, workload_document}
use Rattle.command_laws.specs.RoundTrips.{IsStood, WorkloadsAreStood}
use Rattle.command_laws.proofs.Blind.{turned}

-- ---- calls

-- a key is a number of few digits
abbrev IsSmall : ℕ → Type 0
IsSmall key = key < 10 ^ 9

key_small : KeysAreOwn → (caller j : ℕ) → caller < 8 → IsSmall (key_at caller j)
key_small keys caller j few = let lt = keys.below caller j in omega (arith, lt, few)

-- a name of an operation
pub record IsOpName (name : List ℕ) : Type 0 where
  pub named : is_name name ≡ true
  pub free : is_reserved name ≡ false
  pub short : length name ≤ 16

small_number : (key : ℕ) → IsSmall key → is_number key ≡ true
small_number key small = lt-ltb key (2 ^ 64) (omega (arith, small))

call_is : (name : List ℕ) (key : ℕ) → IsOpName name → IsSmall key → IsCall (key_call name key)
call_is name key is small = record {
  named = is.named;
  free = is.free;
  args = ap (λ (b : Bool). b && true) (small_number key small);
  short =
      let digits = length-decimal-le 9 key (omega arith) small (omega (arith, small)) in
      let few = is.short in
      let one : length (name ++ 32 ∷ (decimal key ++ [])) ≡ length name + length (32 ∷ (decimal key ++ [])) = length-append name (32 ∷ (decimal key ++ [])) in
      let two : length (decimal key ++ []) ≡ length (decimal key) + 0 = length-append (decimal key) [] in
      omega (arith, digits, few, one, two);
}

insert_is : IsOpName (codes "insert")
insert_is = record { named = refl; free = refl; short = omega arith }

contains_is : IsOpName (codes "contains")
contains_is = record { named = refl; free = refl; short = omega arith }

remove_is : IsOpName (codes "remove")
remove_is = record { named = refl; free = refl; short = omega arith }

either : (b : Bool) (one other : ScriptCall) → IsCall one → IsCall other → IsCall (if b then one else other)
either true one other first second = first
either false one other first second = second

round_is : (key before place : ℕ) → IsSmall key → IsSmall before → IsCall (round_call key before place)
round_is key before place now was =
    either (place == 0) (key_call (codes "insert") key) _ (call_is (codes "insert") key insert_is now)
    (either (place == 1) (key_call (codes "contains") key) _ (call_is (codes "contains") key contains_is now)
    (either (place == 2) (key_call (codes "remove") before) (key_call (codes "contains") before) (call_is (codes "remove") before remove_is was) (call_is (codes "contains") before contains_is was)))

-- what is made of each number of a range has what each has that is made of one below its end
all_made : {A : Type 0} (P : A → Type 0) (make : ℕ → A) (from n most : ℕ) → from + n ≤ most → ((i : ℕ) → i < most → P (make i)) → AllByRecursion P (map make (range_with_len from n))
all_made P make from zero most le each = tt
all_made P make from (suc n) most le each = (each from (omega (arith, le)), all_made P make (from + 1) n most (omega (arith, le)) each)

script_is : KeysAreOwn → (count caller : ℕ) → count ≤ most_calls → caller < 8 → IsScript (script_of count caller)
script_is keys count caller few own = record {
  few = subst (λ (n : ℕ). n ≤ 100000) (sym (length-map-range_with_len (call_at caller) 0 count)) few;
  each = all_made IsCall (call_at caller) 0 count count (omega arith) (λ i lt. round_is (key_at caller (i / 4)) (key_at caller (i / 4 - 1)) (i % 4) (key_small keys caller (i / 4) own) (key_small keys caller (i / 4 - 1) own));
}

-- ---- documents

set_document_is : KeysAreOwn → (slots count callers : ℕ) → ShippedAreWithin → is_number slots ≡ true → callers ≤ 8 → count ≤ most_calls → IsStated (set_document slots (scripts_of count callers))
set_document_is keys slots count callers shipped fits own few = record {
  text = shipped.0 8 (omega arith) (omega arith);
  slots = refl;
  counts = ap (λ (b : Bool). b && true) fits;
  first = refl;
  last = refl;
  fuel = refl;
  few_scripts = let same = length-map-range_with_len (script_of count) 0 callers in omega (arith, same, own);
  scripts = all_made IsScript (script_of count) 0 callers callers (omega arith) (λ caller lt. script_is keys count caller few (omega (arith, lt, own)));
  few_turns = omega arith;
  turns = tt;
}

less : (n m : ℕ) → n ≤ most_calls → min n m ≤ most_calls
less n m le = omega (arith, le)

part_is : KeysAreOwn → (b : Bool) (count callers : ℕ) → ShippedAreWithin → callers ≤ 8 → count ≤ most_calls → IsStated (if b then first_part count callers else second_part count)
part_is keys true count callers shipped own few = set_document_is keys MOST_SLOTS _ callers shipped refl own (less count _ few)
part_is keys false count callers shipped own few = set_document_is keys _ count 1 shipped refl (omega arith) few

-- ---- what is read of their spelling

calls_alike : (line : ℕ) (calls : List ScriptCall) → map placeless (calls_from line calls) ≡ map placeless calls
calls_alike line [] = refl
calls_alike line (call ∷ calls) = ap (λ (rest : List ScriptCall). placeless call ∷ rest) (calls_alike (line + 1) calls)

scripts_alike : (line : ℕ) (scripts : List (List ScriptCall)) → map (map placeless) (scripts_from line scripts) ≡ map (map placeless) scripts
scripts_alike line [] = refl
scripts_alike line (script ∷ scripts) = rw (calls_alike (line + 1) script, scripts_alike (line + 1 + length script) scripts) refl

placed_alike : (document : Document) → AreAlike (placed document) document
placed_alike document = record {
  text = refl;
  slots = refl;
  first = refl;
  last = refl;
  fuel = refl;
  scripts = scripts_alike (first_behind_settings document) document.scripts;
  schedule = refl;
}

stood : (document : Document) → IsStated document → IsStood document
stood document is = (document_spelling document, placed document, placed_read false document is, turned (placed document) document (placed_alike document))

pub workloads_are_stood : ShippedAreWithin → KeysAreOwn → WorkloadsAreStood
workloads_are_stood shipped keys part count callers some own few = stood (workload_document part count callers) (part_is keys (part == 1) count callers shipped own few)
