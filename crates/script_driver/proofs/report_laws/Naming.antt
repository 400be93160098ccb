-- The lines of a document of a shipped text ask for what the operations so named do.
use Rattle.std.proofs.Common.{◌≡◌, ℕ, ◌+◌, Bool, true, false, List, [], ◌∷◌, length, Option, Some, None, cond, refl, sym, ap, ◌∙◌, subst, arith}
use Rattle.std.specs.Prelude.{◌==◌, nat_lt, slice_get, slice_index, codes, if◌then◌else◌}
use Rattle.std.specs.List.{position_or_len}
use Rattle.std.specs.Option.{option_or, unwrap_or}
use Rattle.std.specs.Str.{bytes_eq}
use Rattle.std.proofs.lemmas.Bool.{eqb-true}
use Rattle.std.proofs.lemmas.List.Recursion.{is_position_or_len}
use Rattle.std.proofs.lemmas.Slice.Eq.{bytes_eq-Decides}
use Rattle.norm_lang.specs.declared.text.Op.{Op}
use Rattle.norm_lang.specs.declared.text.Text.{Text}
use Rattle.norm_lang.specs.Shipped.{set_text, queue_text}
use Rattle.documents.specs.declared.document.ScriptCall.{ScriptCall}
use Rattle.documents.specs.declared.document.Document.{Document}
use Rattle.script_plans.specs.declared.fault.ShapeFault.{ShapeFault}
use Rattle.script_plans.specs.Shapes.{first_of, op_number, call_fault_at, args_fault, call_fault, script_fault, scripts_fault, setting_fault, shape_fault}
use Rattle.histories.specs.declared.call.Action.{Action}
use Rattle.legal_histories.specs.Told.{set_action, queue_action}
use Rattle.script_driver.specs.report_laws.Legal.{AsksFor}

-- ---- calls without a fault

both : (one other : Option ShapeFault) → option_or one other ≡ None → (one ≡ None) × (other ≡ None)
both None other none = (refl, none)
both (Some fault) other none = cc

-- every call of a script is asked for by the action of its operation
abbrev pub Asks : (ℕ → ℕ → Action) → List Op → ScriptCall → Type 0
Asks action ops call = AsksFor (action (op_number ops call.name) (slice_index call.args 0)) call.name call.args

abbrev pub AllAsk : (ℕ → ℕ → Action) → List Op → List ScriptCall → Type 0
AllAsk action ops [] = Unit {0}
AllAsk action ops (call ∷ script) = Asks action ops call × AllAsk action ops script

abbrev pub EachAsks : (ℕ → ℕ → Action) → List Op → List (List ScriptCall) → Type 0
EachAsks action ops [] = Unit {0}
EachAsks action ops (script ∷ scripts) = AllAsk action ops script × EachAsks action ops scripts

module _ (action : ℕ → ℕ → Action) (ops : List Op) (one : (call : ScriptCall) → call_fault ops call ≡ None → Asks action ops call) where
  script_asks : (script : List ScriptCall) → script_fault ops script ≡ None → AllAsk action ops script
  script_asks [] none = tt
  script_asks (call ∷ script) none = let parts = both (call_fault ops call) (script_fault ops script) none in (one call parts.0, script_asks script parts.1)

  scripts_ask : (scripts : List (List ScriptCall)) → scripts_fault ops scripts ≡ None → EachAsks action ops scripts
  scripts_ask [] none = tt
  scripts_ask (script ∷ scripts) none = let parts = both (script_fault ops script) (scripts_fault ops scripts) none in (script_asks script parts.0, scripts_ask scripts parts.1)

-- ---- arguments

abbrev unless_counted : ScriptCall → Bool → Option ShapeFault
unless_counted call test = if test then None else Some (call_fault_at 9 call)

count_is : (call : ScriptCall) (count : ℕ) (test : Bool) → (length call.args == count) ≡ test → unless_counted call test ≡ None → length call.args ≡ count
count_is call count true same none = eqb-true (length call.args) count same
count_is call count false same none = cc

one_argument : (args : List ℕ) → length args ≡ 1 → args ≡ slice_index args 0 ∷ []
one_argument (a ∷ []) is = refl
one_argument _ is = let no : ⊥ = omega (arith, is) in absurd no

no_argument : (args : List ℕ) → length args ≡ 0 → args ≡ []
no_argument [] is = refl
no_argument (a ∷ args) is = let no : ⊥ = omega (arith, is) in absurd no

same_name : (word name : List ℕ) → bytes_eq word name ≡ true → name ≡ word
same_name word name is = sym ((bytes_eq-Decides word name).0 is)

-- ---- the number of an operation

-- where the first passes; past the end, if none does
abbrev first_at : (Op → Bool) → List Op → ℕ
first_at test [] = 0
first_at test (op ∷ ops) = cond (test op) 0 (1 + first_at test ops)

is_first : (test : Op → Bool) (ops : List Op) → first_at test ops ≡ position_or_len test ops
is_first test ops = is_position_or_len (first_at test) test refl (λ op rest. refl) ops

-- ---- the set

abbrev at_three : Bool → Bool → Bool → ℕ
at_three a b d = cond a 0 (1 + cond b 0 (1 + cond d 0 (1 + 0)))

abbrev third : Bool → Bool → Bool → ℕ
third a b d = unwrap_or (cond (nat_lt (at_three a b d) 3) (Some (at_three a b d)) None) 3

set_by : (buckets : ℕ) (call : ScriptCall) (a b d : Bool) → bytes_eq (codes "insert") call.name ≡ a → bytes_eq (codes "remove") call.name ≡ b → bytes_eq (codes "contains") call.name ≡ d
    → args_fault call (slice_get (set_text buckets).ops (third a b d)) ≡ None → AsksFor (set_action (third a b d) (slice_index call.args 0)) call.name call.args
set_by buckets call true b d ea eb ed none = (same_name (codes "insert") call.name ea, one_argument call.args (count_is call 1 (length call.args == 1) refl none))
set_by buckets call false true d ea eb ed none = (same_name (codes "remove") call.name eb, one_argument call.args (count_is call 1 (length call.args == 1) refl none))
set_by buckets call false false true ea eb ed none = (same_name (codes "contains") call.name ed, one_argument call.args (count_is call 1 (length call.args == 1) refl none))
set_by buckets call false false false ea eb ed none = cc

set_number : (buckets : ℕ) (name : List ℕ) → third (bytes_eq (codes "insert") name) (bytes_eq (codes "remove") name) (bytes_eq (codes "contains") name) ≡ op_number (set_text buckets).ops name
set_number buckets name = ap (λ n. unwrap_or (cond (nat_lt n 3) (Some n) None) 3) (is_first (λ (op : Op). bytes_eq op.name name) (set_text buckets).ops)

set_asks : (buckets : ℕ) (call : ScriptCall) → call_fault (set_text buckets).ops call ≡ None → Asks set_action (set_text buckets).ops call
set_asks buckets call none =
    let same = set_number buckets call.name in
    subst (λ n. AsksFor (set_action n (slice_index call.args 0)) call.name call.args) same
    (set_by buckets call (bytes_eq (codes "insert") call.name) (bytes_eq (codes "remove") call.name) (bytes_eq (codes "contains") call.name) refl refl refl
    (ap (λ n. args_fault call (slice_get (set_text buckets).ops n)) same ∙ none))

-- ---- the queue

abbrev at_two : Bool → Bool → ℕ
at_two a b = cond a 0 (1 + cond b 0 (1 + 0))

abbrev second : Bool → Bool → ℕ
second a b = unwrap_or (cond (nat_lt (at_two a b) 2) (Some (at_two a b)) None) 2

queue_by : (call : ScriptCall) (a b : Bool) → bytes_eq (codes "enqueue") call.name ≡ a → bytes_eq (codes "dequeue") call.name ≡ b
    → args_fault call (slice_get queue_text.ops (second a b)) ≡ None → AsksFor (queue_action (second a b) (slice_index call.args 0)) call.name call.args
queue_by call true b ea eb none = (same_name (codes "enqueue") call.name ea, one_argument call.args (count_is call 1 (length call.args == 1) refl none))
queue_by call false true ea eb none = (same_name (codes "dequeue") call.name eb, no_argument call.args (count_is call 0 (length call.args == 0) refl none))
queue_by call false false ea eb none = cc

queue_number : (name : List ℕ) → second (bytes_eq (codes "enqueue") name) (bytes_eq (codes "dequeue") name) ≡ op_number queue_text.ops name
queue_number name = ap (λ n. unwrap_or (cond (nat_lt n 2) (Some n) None) 2) (is_first (λ (op : Op). bytes_eq op.name name) queue_text.ops)

queue_asks : (call : ScriptCall) → call_fault queue_text.ops call ≡ None → Asks queue_action queue_text.ops call
queue_asks call none =
    let same = queue_number call.name in
    subst (λ n. AsksFor (queue_action n (slice_index call.args 0)) call.name call.args) same
    (queue_by call (bytes_eq (codes "enqueue") call.name) (bytes_eq (codes "dequeue") call.name) refl refl (ap (λ n. args_fault call (slice_get queue_text.ops n)) same ∙ none))

-- ---- documents

of_calls : (document : Document) → shape_fault document ≡ None → scripts_fault document.text.ops document.scripts ≡ None
of_calls document none = last (scripts_fault document.text.ops document.scripts) ((both (setting_fault document) (first_of (scripts_fault document.text.ops document.scripts ∷ [])) none).1)
  where
    last : (fault : Option ShapeFault) → first_of (fault ∷ []) ≡ None → fault ≡ None
    last None none = refl
    last (Some fault) none = cc

pub set_document_asks : (buckets : ℕ) (document : Document) → document.text ≡ set_text buckets → shape_fault document ≡ None → EachAsks set_action document.text.ops document.scripts
set_document_asks buckets document is none = subst (λ (ops : List Op). scripts_fault ops document.scripts ≡ None → EachAsks set_action ops document.scripts) (sym (ap (λ (t : Text). t.ops) is))
    (scripts_ask set_action (set_text buckets).ops (set_asks buckets) document.scripts) (of_calls document none)

pub queue_document_asks : (document : Document) → document.text ≡ queue_text → shape_fault document ≡ None → EachAsks queue_action document.text.ops document.scripts
queue_document_asks document is none = subst (λ (ops : List Op). scripts_fault ops document.scripts ≡ None → EachAsks queue_action ops document.scripts) (sym (ap (λ (t : Text). t.ops) is))
    (scripts_ask queue_action queue_text.ops queue_asks document.scripts) (of_calls document none)
