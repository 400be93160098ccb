-- If the slots of a document of a shipped text are enough, no line of its report is full.
use Rattle.std.proofs.Common.{◌≡◌, ℕ, zero, suc, ◌+◌, ◌≤◌, ◌<◌, Bool, true, false, List, [], ◌∷◌, length, map, Option, Some, None, refl, sym, ◌∙◌, ap, subst, arith, if◌then◌else◌, get_or}
use Rattle.std.specs.Prelude.{slice_get, slice_index_or, codes, ◌==◌}
use Rattle.std.specs.List.{All, position}
use Rattle.std.specs.Option.{unwrap_or}
use Rattle.std.specs.Str.{bytes_eq}
use Rattle.std.proofs.lemmas.Bool.Decides.{nat_tests}
use Rattle.std.proofs.lemmas.List.Quantifiers.{position-Some}
use Rattle.std.proofs.lemmas.Slice.Eq.{bytes_eq-Decides}
use Rattle.norm_lang.specs.declared.text.Op.{Op}
use Rattle.norm_lang.specs.declared.text.NodeDecl.{NodeDecl}
use Rattle.oa_words.specs.SlotKinds.{together}
use Rattle.norm_lang.specs.declared.text.Text.{Text}
use Rattle.norm_lang.specs.declared.reply.SourceReply.TheVariants as replies
use Rattle.target_code.specs.declared.target.TargetOp.{TargetOp}
use Rattle.target_code.specs.declared.target.Target.{Target}
use Rattle.target_code.specs.Bare.{bare_op, bare}
use Rattle.target_code.specs.Blocks.{scheme_op}
use Rattle.target_code.specs.SecondScheme.{second_marks, second_scheme}
use Rattle.target_laws.specs.target_runs.Runnable.{MayBeWalked}
use Rattle.caller_parts.specs.declared.call.Call.{Call}
use Rattle.caller_parts.specs.declared.call.Running.{Running}
use Rattle.caller_parts.specs.declared.setting.Reclamation.{Reclamation}
use Rattle.caller_parts.specs.declared.setting.Reclamation.TheVariants.{Optimistic, Epochs}
use Rattle.caller_parts.specs.Settings.{Fits, IsSetting}
use Rattle.caller_steps.specs.Entries.{Entry}
use Rattle.core_runs.specs.Machine.{CoreState, CoreEvent}
use Rattle.core_runs.specs.Histories.{calls_of}
use Rattle.core_runs.specs.Scripts.{AreOfScript, IsCompleteRun, script_of}
use Rattle.core_runs.proofs.Keeping.{kept_calls}
use Rattle.shipped_claims.specs.NeverFull.{has_name, calls_named, calls_named_in, IsNeverFull}
use Rattle.shipped_claims.proofs.NeverFull.{set_never_full, queue_never_full, bare_set_never_full, bare_queue_never_full}
use Rattle.documents.specs.declared.document.ScriptCall.{ScriptCall}
use Rattle.documents.specs.declared.document.Document.{Document}
use Rattle.script_plans.specs.Shapes.{op_number, kind_nodes, sizes_of, setting_under, setting_of, epoch_setting_of}
use Rattle.script_plans.specs.Plans.{target_of, call_of, calls_of as scripts_of}
use Rattle.document_runs.specs.Reports.{report_of}
use Rattle.document_runs.specs.Epochs.{IsCompleteEpochRunOf}
use Rattle.document_runs.specs.Runs.{IsCompleteRunOf}
use Rattle.script_driver.specs.report_laws.Shipped.{calls_to, all_calls_to, HasRoomFor, IsNotFull, ShippedIsNeverFull}
use Rattle.script_driver.proofs.report_laws.EachLine.{told_reply, every_line}

-- ---- the operation that a name finds, among those that a text's become

module _ (becomes : Op → TargetOp) (named : (op : Op) → (becomes op).name ≡ op.name) where
  none_past : (ops : List Op) → slice_get (map becomes ops) (length ops) ≡ None
  none_past [] = refl
  none_past (op ∷ ops) = none_past ops

  some_inside : (ops : List Op) (i : ℕ) (d : Op) → i < length ops → slice_get (map becomes ops) i ≡ Some (becomes (get_or ops i d))
  some_inside [] i d lt = absurd (omega (arith, lt))
  some_inside (op ∷ ops) zero d lt = refl
  some_inside (op ∷ ops) (suc i) d lt = some_inside ops i d (omega (arith, lt))

  -- an operation so named is found by this name alone
  named_call : (ops : List Op) (name word : List ℕ) → has_name name (slice_get (map becomes ops) (op_number ops word)) ≡ true → bytes_eq name word ≡ true
  named_call ops name word has = of (position (λ (op : Op). bytes_eq op.name word) ops) refl has where
    any_op : Op
    any_op = record { name = []; args = 0; generator = []; wrapup = [] }

    of : (o : Option ℕ) → position (λ (op : Op). bytes_eq op.name word) ops ≡ o → has_name name (slice_get (map becomes ops) (unwrap_or o (length ops))) ≡ true → bytes_eq name word ≡ true
    of None is has = absurd (let z : false ≡ true = sym (ap (has_name name) (none_past ops)) ∙ has in cc)
    of (Some i) is has =
        let found = position-Some (λ (op : Op). bytes_eq op.name word) ops i any_op is in
        let there : bytes_eq (get_or ops i any_op).name name ≡ true =
        ap (λ (l : List ℕ). bytes_eq l name) (sym (named (get_or ops i any_op))) ∙ (sym (ap (has_name name) (some_inside ops i any_op found.0)) ∙ has) in
        let same : (get_or ops i any_op).name ≡ name = (bytes_eq-Decides (get_or ops i any_op).name name).0 there in
        sym (ap (λ (l : List ℕ). bytes_eq l word) same) ∙ found.1

  -- ---- calls that were taken, and calls of the scripts

  module _ (target : Target) (text : Text) (ops_are : target.ops ≡ map becomes text.ops) (name : List ℕ) (fuel : ℕ) where
    taken_within : (script : List ScriptCall) (taken : List Running) → AreOfScript fuel (map (call_of text.ops) script) taken → calls_named target name taken ≤ calls_to name script
    taken_within script [] are = omega arith
    taken_within [] (t ∷ taken) are = absurd are
    taken_within (call ∷ script) (t ∷ taken) are =
        of (has_name name (slice_get target.ops t.call.op)) (bytes_eq name call.name) (λ has. named_call text.ops name call.name (sym same ∙ has)) (taken_within script taken are.2) where
          number : t.call.op ≡ op_number text.ops call.name
          number = ap (λ (c : Call). c.op) are.0

          same : has_name name (slice_get target.ops t.call.op) ≡ has_name name (slice_get (map becomes text.ops) (op_number text.ops call.name))
          same = ap (λ (ops : List TargetOp). has_name name (slice_get ops t.call.op)) ops_are ∙ ap (λ (op : ℕ). has_name name (slice_get (map becomes text.ops) op)) number

          of : (has bytes : Bool) → (has ≡ true → bytes ≡ true) → calls_named target name taken ≤ calls_to name script
              → (if has then calls_named target name taken + 1 else calls_named target name taken) ≤ (if bytes then calls_to name script + 1 else calls_to name script)
          of true true so rest = omega (arith, rest)
          of true false so rest = absurd (let z : false ≡ true = so refl in cc)
          of false true so rest = omega (arith, rest)
          of false false so rest = rest

    all_within : (scripts : List (List ScriptCall)) (entries : List Entry) → length scripts ≡ length entries
        → ((c : ℕ) (e : Entry) → slice_get entries c ≡ Some e → AreOfScript fuel (slice_index_or (map (map (call_of text.ops)) scripts) c []) (calls_of e))
        → calls_named_in target name entries ≤ all_calls_to name scripts
    all_within scripts [] count each = omega arith
    all_within [] (e ∷ entries) count each = absurd (omega (arith, count))
    all_within (script ∷ scripts) (e ∷ entries) count each =
        let here = taken_within script (calls_of e) (each 0 e refl) in
        let rest = all_within scripts entries (omega (arith, count)) (λ c f got. each (suc c) f got) in
        omega (arith, here, rest)

below : (entries : List Entry) (c : ℕ) (e : Entry) → slice_get entries c ≡ Some e → c < length entries
below [] c e got = absurd (let z : None ≡ Some e = got in cc)
below (x ∷ entries) zero e got = omega arith
below (x ∷ entries) (suc c) e got = let rest = below entries c e got in omega (arith, rest)

-- ---- initial nodes

-- a node counts to one of four kinds at most
counted_once : (nodes : List NodeDecl) → together (kind_nodes nodes) ≤ length nodes
counted_once [] = omega arith
counted_once (node ∷ nodes) = of node.owner refl (counted_once nodes) where
  of : (owner : ℕ) → node.owner ≡ owner → together (kind_nodes nodes) ≤ length nodes → together (kind_nodes (node ∷ nodes)) ≤ length (node ∷ nodes)
  of (suc (suc (suc (suc owner)))) is rest =
      let a : (node.owner == 0) ≡ false = grind (arith, nat_tests) in
      let b : (node.owner == 1) ≡ false = grind (arith, nat_tests) in
      let c : (node.owner == 2) ≡ false = grind (arith, nat_tests) in
      let d : (node.owner == 3) ≡ false = grind (arith, nat_tests) in
      rw (a, b, c, d) (omega (arith, rest))
  of _ is rest = rw is (omega (arith, rest))

-- ---- the report

-- of a target whose operations are what those of the document's text become, under a scheme
module _ (becomes : Op → TargetOp) (named : (op : Op) → (becomes op).name ≡ op.name) (by : Reclamation) (document : Document) (target : Target) (ops_are : target.ops ≡ map becomes document.text.ops)
    (events : List CoreEvent) (state : CoreState) (complete : IsCompleteRun target (setting_under by document) (scripts_of document) document.fuel events state)
    (count : 0 + length document.scripts ≡ length state.entries) where
  counted : length document.scripts ≡ length state.entries
  counted = omega (arith, count)

  enough : (name : List ℕ) → HasRoomFor name document → together (kind_nodes document.text.nodes) + calls_named_in target name state.entries ≤ (sizes_of document).slots
  enough name room =
      let calls = all_within becomes named target document.text ops_are name document.fuel document.scripts state.entries counted
      (λ c e got. subst (AreOfScript document.fuel (script_of (scripts_of document) c)) (sym (kept_calls target (setting_under by document) events state c e complete.run.runs got))
      (complete.run.of c (let lt = below state.entries c e got in omega (arith, lt, counted)))) in
      let nodes = counted_once document.text.nodes in
      omega (arith, calls, room, nodes)

  none_full : (name : List ℕ) → IsNeverFull name target (setting_under by document) → HasRoomFor name document → All IsNotFull (report_of document state).lines
  none_full name never room = every_line state IsNotFull
      (λ c i call e there full. let told = told_reply state c e there i replies.Full full in
      never.each state c i e told.0 (record { events = events; runs = complete.run.runs }) (enough name room) there told.1 told.2) 0 document.scripts count

module _ (document : Document) (events : List CoreEvent) (state : CoreState) (count : 0 + length document.scripts ≡ length state.entries) where
  -- of a text that is compiled
  abbrev NeverFullFor : List ℕ → Text → Type 0
  NeverFullFor name text = MayBeWalked (second_scheme text) text → IsSetting (setting_of document) → Fits (second_scheme text) (setting_of document) → IsNeverFull name (second_scheme text) (setting_of document)

  pub never_full : IsCompleteRunOf document events state → IsSetting (setting_of document) → MayBeWalked (target_of document) document.text → Fits (target_of document) (setting_of document)
      → ShippedIsNeverFull document (report_of document state)
  never_full complete own may fits =
      let none = none_full (scheme_op second_marks) (λ op. refl) Optimistic document (target_of document) refl events state complete count in
      record {
        set = λ buckets is room. none (codes "insert") (subst (NeverFullFor (codes "insert")) (sym is) (set_never_full buckets (setting_of document)) may own fits) room;
        queue = λ is room. none (codes "enqueue") (subst (NeverFullFor (codes "enqueue")) (sym is) (queue_never_full (setting_of document)) may own fits) room;
      }

  -- of one that is run as it is
  abbrev BareNeverFullFor : List ℕ → Text → Type 0
  BareNeverFullFor name text = MayBeWalked (bare text) text → IsSetting (epoch_setting_of document) → Fits (bare text) (epoch_setting_of document) → IsNeverFull name (bare text) (epoch_setting_of document)

  pub bare_never_full : IsCompleteEpochRunOf document events state → IsSetting (epoch_setting_of document) → MayBeWalked (bare document.text) document.text
      → Fits (bare document.text) (epoch_setting_of document) → ShippedIsNeverFull document (report_of document state)
  bare_never_full complete own may fits =
      let none = none_full bare_op (λ op. refl) Epochs document (bare document.text) refl events state complete count in
      record {
        set = λ buckets is room. none (codes "insert") (subst (BareNeverFullFor (codes "insert")) (sym is) (bare_set_never_full buckets (epoch_setting_of document)) may own fits) room;
        queue = λ is room. none (codes "enqueue") (subst (BareNeverFullFor (codes "enqueue")) (sym is) (bare_queue_never_full (epoch_setting_of document)) may own fits) room;
      }
