-- What a plan keeps.
use Rattle.std.proofs.Common.{◌≡◌, ℕ, suc, ◌≤◌, ◌<◌, ◌^◌, Bool, true, false, ◌&&◌, List, [], ◌∷◌, map, length, drop, get_or, Option, Some, None, refl, arith}
use Rattle.std.proofs.lemmas.Bool.{eqb-true, lt-ltb, and_from}
use Rattle.std.proofs.lemmas.Bool.Decides.{nat_tests}
use Rattle.std.proofs.lemmas.List.{drop_all, length-map}
use Rattle.std.proofs.lemmas.List.Elements.{All-nil, All-cons, All-head, All-tail, All-map, All-get_or, All-from_get_or}
use Rattle.std.proofs.lemmas.Option.{slice_get-map}
use Rattle.std.specs.Prelude.{nat_le, ◌==◌, if◌then◌else◌, slice_get, slice_index, take}
use Rattle.std.specs.List.{All, list_all}
use Rattle.std.specs.Option.{option_or, option_map}
use Rattle.norm_lang.specs.declared.text.Op.{Op}
use Rattle.norm_lang.specs.Arguments.{are_words, padded}
use Rattle.target_code.specs.declared.target.TargetOp.{TargetOp}
use Rattle.target_code.specs.Blocks.{scheme_op}
use Rattle.target_code.specs.SecondScheme.{second_marks}
use Rattle.oa_words.specs.Within.{is_count}
use Rattle.caller_parts.specs.declared.call.Call.{Call}
use Rattle.caller_parts.specs.Settings.{are_phases}
use Rattle.caller_parts.specs.Calls.{is_call_of}
use Rattle.documents.specs.declared.document.ScriptCall.{ScriptCall}
use Rattle.documents.specs.declared.document.Document.{Document}
use Rattle.documents.specs.DocumentLimits.{most_calls, AreShort, IsWithinDocumentLimits}
use Rattle.script_plans.specs.declared.fault.ShapeFault.{ShapeFault}
use Rattle.script_plans.specs.declared.limits.TheConstants.{MOST_FUEL}
use Rattle.script_plans.specs.Shapes.{first_of, kind_slots, kind_nodes, sizes_of, sizes_fault, nodes_fault, fault_unless, op_number, call_fault_at, args_fault, call_fault, script_fault, scripts_fault, setting_fault}
use Rattle.target_code.specs.Bare.{bare_op}
use Rattle.script_plans.specs.Plans.{call_of, calls_of, TakeWords, AllTakeWords, plan_for, IsRunnable, IsReady}
use Rattle.script_plans.specs.EpochPlans.{epoch_plan_for, IsEpochReady}
use Rattle.script_plans.proofs.Sized.{few_kinds}

both : (one other : Option ShapeFault) → option_or one other ≡ None → (one ≡ None) × (other ≡ None)
both None other none = (refl, none)
both (Some fault) other none = cc

passed : (number : ℕ) (test : Bool) → fault_unless number test ≡ None → test ≡ true
passed number true none = refl
passed number false none = cc

-- ---- calls

zeros : (args : List ℕ) → list_all (λ word. word == 0) (drop (length args) (padded args)) ≡ true
zeros (a ∷ b ∷ c ∷ d ∷ rest) = rw (drop_all (length (a ∷ b ∷ c ∷ d ∷ rest)) (a ∷ b ∷ c ∷ d ∷ []) (omega arith)) refl
zeros _ = refl

pub four_words : (a b c d : ℕ) → a < 2 ^ 64 → b < 2 ^ 64 → c < 2 ^ 64 → d < 2 ^ 64 → are_words (a ∷ b ∷ c ∷ d ∷ []) ≡ true
four_words a b c d fits_a fits_b fits_c fits_d = rw (lt-ltb a (2 ^ 64) fits_a, lt-ltb b (2 ^ 64) fits_b, lt-ltb c (2 ^ 64) fits_c, lt-ltb d (2 ^ 64) fits_d) refl

abbrev unless_counted : ScriptCall → Bool → Option ShapeFault
unless_counted call test = if test then None else Some (call_fault_at 9 call)

-- an operation of the text as it is coded, with as many arguments
module _ (coded : Op → TargetOp) (same : (op : Op) → (coded op).args ≡ op.args) where
  counted : (call : ScriptCall) (op : Option Op) → are_words (padded call.args) ≡ true → args_fault call op ≡ None → is_call_of (option_map coded op) (padded call.args) ≡ true
  counted call None words none = cc
  counted call (Some op) words none = rw (same op) (and_from (are_words (padded call.args)) (list_all (λ word. word == 0) (drop op.args (padded call.args))) words (go (length call.args == op.args) refl none))
    where
      go : (test : Bool) → (length call.args == op.args) ≡ test → unless_counted call test ≡ None
          → list_all (λ word. word == 0) (drop op.args (padded call.args)) ≡ true
      go true test none = rw (← eqb-true (length call.args) op.args test) (zeros call.args)
      go false test none = cc

  abbrev IsIn : List Op → Call → Type 0
  IsIn ops call = is_call_of (slice_get (map coded ops) call.op) call.args ≡ true

  call_is : (ops : List Op) (call : ScriptCall) → are_words (padded call.args) ≡ true → call_fault ops call ≡ None → IsIn ops (call_of ops call)
  call_is ops call words none =
      rw (slice_get-map coded ops (op_number ops call.name)) (counted call (slice_get ops (op_number ops call.name)) words none)

  script_is : (ops : List Op) (script : List ScriptCall) → TakeWords (map (call_of ops) script) → script_fault ops script ≡ None → All (IsIn ops) (map (call_of ops) script)
  script_is ops [] words none = All-nil (IsIn ops)
  script_is ops (call ∷ script) words none =
      let parts = both (call_fault ops call) (script_fault ops script) none in
      let first = All-head (λ (c : Call). are_words c.args ≡ true) (call_of ops call) (map (call_of ops) script) words in
      let others = All-tail (λ (c : Call). are_words c.args ≡ true) (call_of ops call) (map (call_of ops) script) words in
      All-cons (IsIn ops) (call_of ops call) (map (call_of ops) script) (call_is ops call first parts.0) (script_is ops script others parts.1)

  abbrev AreIn : List Op → List Call → Type 0
  AreIn ops calls = All (IsIn ops) calls

  scripts_are : (ops : List Op) (scripts : List (List ScriptCall)) → AllTakeWords (map (map (call_of ops)) scripts) → scripts_fault ops scripts ≡ None
      → All (AreIn ops) (map (map (call_of ops)) scripts)
  scripts_are ops [] words none = All-nil (AreIn ops)
  scripts_are ops (script ∷ scripts) words none =
      let parts = both (script_fault ops script) (scripts_fault ops scripts) none in
      let first = All-head TakeWords (map (call_of ops) script) (map (map (call_of ops)) scripts) words in
      let others = All-tail TakeWords (map (call_of ops) script) (map (map (call_of ops)) scripts) words in
      All-cons (AreIn ops) (map (call_of ops) script) (map (map (call_of ops)) scripts) (script_is ops script first parts.0) (scripts_are ops scripts others parts.1)

-- ---- the rest

abbrev Short : {A : Type 0} → List A → Type 0
Short script = length script ≤ most_calls

one_short : (ops : List Op) (script : List ScriptCall) → Short script → Short (map (call_of ops) script)
one_short ops script le = rw (length-map script (call_of ops)) le

short_are : (ops : List Op) (scripts : List (List ScriptCall)) → AreShort scripts → AreShort (map (map (call_of ops)) scripts)
short_are ops scripts short =
    All-map (Short {A = Call}) (map (call_of ops)) scripts
    (All-from_get_or (λ (script : List ScriptCall). Short (map (call_of ops) script)) scripts [] (λ i lt. one_short ops (get_or scripts i []) (All-get_or (Short {A = ScriptCall}) scripts i [] lt short)))

fuelled : (document : Document) → setting_fault document ≡ None → 1 ≤ document.fuel
fuelled document none =
    let last : fault_unless 7 (is_count MOST_FUEL document.fuel) ≡ None =
    fourth (sizes_fault (length document.text.kinds) (sizes_of document)) (nodes_fault (kind_slots document) (kind_nodes document.text.nodes)) (fault_unless 6 (are_phases document.first document.last)) (fault_unless 7 (is_count MOST_FUEL document.fuel)) none in
    first (nat_le 1 document.fuel) (nat_le document.fuel MOST_FUEL) refl (passed 7 (is_count MOST_FUEL document.fuel) last)
  where
    fourth : (a b c d : Option ShapeFault) → first_of (a ∷ b ∷ first_of (c ∷ d ∷ []) ∷ []) ≡ None → d ≡ None
    fourth None None None None none = refl
    fourth None None None (Some fault) none = cc
    fourth _ _ _ d none = cc

    first : (a b : Bool) → nat_le 1 document.fuel ≡ a → (a && b) ≡ true → 1 ≤ document.fuel
    first true b le is = grind (arith, nat_tests)
    first false b le is = cc

-- four numbers are enough for the kinds
four_are_enough : (kinds a b c d : ℕ) → kinds ≤ 4 → length (take kinds (a ∷ b ∷ c ∷ d ∷ [])) ≡ kinds
four_are_enough (suc (suc (suc (suc (suc kinds))))) a b c d few = absurd (omega (arith, few))
four_are_enough _ a b c d few = refl

pub all_kinds : (document : Document) → length document.text.kinds ≤ 4 → length (kind_slots document) ≡ length document.text.kinds
all_kinds document few =
    four_are_enough (length document.text.kinds) (slice_index document.slots 0) (slice_index document.slots 1) (slice_index document.slots 2) (slice_index document.slots 3) few

pub plan_is_ready : (document : Document) → IsWithinDocumentLimits document → IsRunnable document → AllTakeWords (calls_of document) → IsReady (plan_for document)
plan_is_ready document within runs words =
    let parts = both (setting_fault document) (first_of (scripts_fault document.text.ops document.scripts ∷ [])) runs.shape in
    let calls = both (scripts_fault document.text.ops document.scripts) None parts.1 in
    record {
      fits = record { kinds = all_kinds document (few_kinds document.text within.text); fields = refl; cells = refl; nodes = refl };
      count = length-map document.scripts (map (call_of document.text.ops));
      calls = scripts_are (scheme_op second_marks) (λ op. refl) document.text.ops document.scripts words calls.0;
      short = short_are document.text.ops document.scripts within.scripts;
      fuel = fuelled document parts.0;
    }

pub epoch_plan_is_ready : (document : Document) → IsWithinDocumentLimits document → IsRunnable document → AllTakeWords (calls_of document) → IsEpochReady (epoch_plan_for document)
epoch_plan_is_ready document within runs words =
    let parts = both (setting_fault document) (first_of (scripts_fault document.text.ops document.scripts ∷ [])) runs.shape in
    let calls = both (scripts_fault document.text.ops document.scripts) None parts.1 in
    record {
      fits = record { kinds = all_kinds document (few_kinds document.text within.text); fields = refl; cells = refl; nodes = refl };
      epochs = refl;
      count = length-map document.scripts (map (call_of document.text.ops));
      calls = scripts_are bare_op (λ op. refl) document.text.ops document.scripts words calls.0;
      short = short_are document.text.ops document.scripts within.scripts;
      fuel = fuelled document parts.0;
    }
