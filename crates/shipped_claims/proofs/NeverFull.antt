-- From the `new` of calls to the calls of one operation.
use Rattle.std.proofs.Common.{◌≡◌, ℕ, ◌+◌, ◌≤◌, ◌<◌, ◌∙◌, Bool, true, false, List, [], ◌∷◌, length, ap, subst, refl, arith, if◌then◌else◌}
use Rattle.std.specs.Prelude.{slice_get, slice_index, codes}
use Rattle.norm_lang.specs.declared.text.Text.{Text}
use Rattle.norm_lang.specs.NormalForm.{IsNormal}
use Rattle.norm_lang.specs.Laws.{ShippedAreWithin}
use Rattle.norm_lang.specs.Shipped.{set_text, queue_text}
use Rattle.target_code.specs.declared.target.Target.{Target}
use Rattle.target_code.specs.Bare.{bare}
use Rattle.target_code.specs.SecondScheme.{second_scheme}
use Rattle.bare_targets.specs.BareLaws.{BareTextsAreRunnable}
use Rattle.target_laws.specs.target_runs.Runnable.{MayBeWalked}
use Rattle.barrier_compiler.specs.Laws.{SecondSchemeIsBarred, SecondSchemeIsWithin}
use Rattle.oa_words.specs.SlotKinds.{together, slots_of}
use Rattle.oa_words.proofs.KindRanges.{single_kind}
use Rattle.caller_parts.specs.declared.call.Running.{Running}
use Rattle.caller_parts.specs.Settings.{Setting, Fits, IsSetting}
use Rattle.caller_steps.specs.Entries.{Entry}
use Rattle.core_runs.specs.Histories.{calls_of}
use Rattle.claim_laws.specs.Untouched.{nodes_in}
use Rattle.claim_laws.specs.Publishing.{news_of, HasFewNews, PublishedEnd, new_calls, new_calls_in}
use Rattle.claim_laws.proofs.Taking.{full_takes_calls}
use Rattle.shipped_claims.specs.NeverFull.{has_name, calls_named, calls_named_in, IsNeverFull, SetsAreNeverFull, QueueIsNeverFull, BareSetsAreNeverFull, BareQueueIsNeverFull}
use Rattle.shipped_claims.proofs.Published.{published_end}
use Rattle.shipped_claims.proofs.Sets.{set_news, SetHolds, set_begins, set_carries, bare_set_news, bare_set_carries}
use Rattle.shipped_claims.proofs.Queue.{queue_news, QueueHolds, queue_begins, queue_carries, bare_queue_news, BareQueueHolds, bare_queue_begins, bare_queue_carries}

-- ---- only the operation so named has a `new`, and has one

abbrev pub NewsAreNamed : List ℕ → Target → Type 0
NewsAreNamed name target = (op : ℕ) → news_of (slice_get target.ops op) ≡ (if has_name name (slice_get target.ops op) then 1 else 0)

module _ (name : List ℕ) (target : Target) (named : NewsAreNamed name target) where
  few_news : HasFewNews target
  few_news op = of (has_name name (slice_get target.ops op)) (named op) where
    of : (b : Bool) → news_of (slice_get target.ops op) ≡ (if b then 1 else 0) → news_of (slice_get target.ops op) ≤ 1
    of true is = omega (arith, is)
    of false is = omega (arith, is)

  news_counted : (runs : List Running) → new_calls target runs ≡ calls_named target name runs
  news_counted [] = refl
  news_counted (run ∷ runs) = of (has_name name (slice_get target.ops run.call.op)) (named run.call.op) (news_counted runs) where
    of : (b : Bool) → news_of (slice_get target.ops run.call.op) ≡ (if b then 1 else 0) → new_calls target runs ≡ calls_named target name runs
        → news_of (slice_get target.ops run.call.op) + new_calls target runs ≡ (if b then calls_named target name runs + 1 else calls_named target name runs)
    of true is rest = omega (arith, is, rest)
    of false is rest = omega (arith, is, rest)

  news_counted_in : (entries : List Entry) → new_calls_in target entries ≡ calls_named_in target name entries
  news_counted_in [] = refl
  news_counted_in (e ∷ entries) = let here = news_counted (calls_of e) in let rest = news_counted_in entries in omega (arith, here, rest)

  -- in a text of one kind all slots are of that kind
  pub named_never_full : (text : Text) (setting : Setting) → MayBeWalked target text → IsSetting setting → Fits target setting → length target.kinds ≡ 1 → PublishedEnd target setting → IsNeverFull name target setting
  named_never_full text setting runs own fits single ends = record {
    each = λ state c i e replied reached room there got full.
        let more = (full_takes_calls target text setting runs own fits).each reached.events state c i e replied few_news ends reached.runs there got full in
        let one : length setting.sizes.kinds ≡ 1 = fits.kinds ∙ single in
        let first : more.0 ≡ 0 = (let lt = more.2 in omega (arith, lt, one)) in
        let over : slots_of setting.sizes 0 < nodes_in setting 0 + new_calls_in target state.entries = subst (λ (k : ℕ). slots_of setting.sizes k < nodes_in setting k + new_calls_in target state.entries) first more.3 in
        let all : slots_of setting.sizes 0 ≡ setting.sizes.slots = ap (λ (kinds : List ℕ). slice_index kinds 0) (single_kind setting.sizes own.sizes.kinds one) in
        let nodes = first_within setting.nodes in
        let same = news_counted_in state.entries in
        omega (arith, over, all, nodes, room, same);
  } where
    first_within : (counts : List ℕ) → slice_index counts 0 ≤ together counts
    first_within [] = omega arith
    first_within (count ∷ counts) = omega arith

-- ---- the shipped texts

pub set_never_full : (buckets : ℕ) (setting : Setting) → (let target = second_scheme (set_text buckets) in MayBeWalked target (set_text buckets) → IsSetting setting → Fits target setting → IsNeverFull (codes "insert") target setting)
set_never_full buckets setting runs own fits =
    named_never_full (codes "insert") (second_scheme (set_text buckets)) (set_news buckets) (set_text buckets) setting runs own fits refl
    (published_end (second_scheme (set_text buckets)) (set_text buckets) setting runs own fits (SetHolds buckets) (set_begins buckets) (set_carries buckets))

pub queue_never_full : (setting : Setting) → MayBeWalked (second_scheme queue_text) queue_text → IsSetting setting → Fits (second_scheme queue_text) setting → IsNeverFull (codes "enqueue") (second_scheme queue_text) setting
queue_never_full setting runs own fits =
    named_never_full (codes "enqueue") (second_scheme queue_text) queue_news queue_text setting runs own fits refl
    (published_end (second_scheme queue_text) queue_text setting runs own fits QueueHolds queue_begins queue_carries)

pub sets_never_full : SecondSchemeIsBarred → SecondSchemeIsWithin → ShippedAreWithin → ((buckets : ℕ) → 0 < buckets → IsNormal (set_text buckets)) → SetsAreNeverFull
sets_never_full barred small shipped normal buckets setting some most own fits =
    let within = shipped.0 buckets some most in
    let in_form = normal buckets (let le = some in omega (arith, le)) in
    set_never_full buckets setting (record { small = within; normal = in_form; within = small (set_text buckets) within; erases = (barred (set_text buckets) within in_form).erases }) own fits

pub queues_never_full : SecondSchemeIsBarred → SecondSchemeIsWithin → ShippedAreWithin → IsNormal queue_text → QueueIsNeverFull
queues_never_full barred small shipped normal setting own fits =
    queue_never_full setting (record { small = shipped.1; normal = normal; within = small queue_text shipped.1; erases = (barred queue_text shipped.1 normal).erases }) own fits

-- ---- the texts as they are

pub bare_set_never_full : (buckets : ℕ) (setting : Setting) → MayBeWalked (bare (set_text buckets)) (set_text buckets) → IsSetting setting → Fits (bare (set_text buckets)) setting
    → IsNeverFull (codes "insert") (bare (set_text buckets)) setting
bare_set_never_full buckets setting runs own fits =
    named_never_full (codes "insert") (bare (set_text buckets)) (bare_set_news buckets) (set_text buckets) setting runs own fits refl
    (published_end (bare (set_text buckets)) (set_text buckets) setting runs own fits (SetHolds buckets) (set_begins buckets) (bare_set_carries buckets))

pub bare_queue_never_full : (setting : Setting) → MayBeWalked (bare queue_text) queue_text → IsSetting setting → Fits (bare queue_text) setting → IsNeverFull (codes "enqueue") (bare queue_text) setting
bare_queue_never_full setting runs own fits =
    named_never_full (codes "enqueue") (bare queue_text) bare_queue_news queue_text setting runs own fits refl
    (published_end (bare queue_text) queue_text setting runs own fits BareQueueHolds bare_queue_begins bare_queue_carries)

pub bare_sets_never_full : BareTextsAreRunnable → ShippedAreWithin → ((buckets : ℕ) → 0 < buckets → IsNormal (set_text buckets)) → BareSetsAreNeverFull
bare_sets_never_full runnable shipped normal buckets setting some most own fits =
    bare_set_never_full buckets setting (runnable (set_text buckets) (shipped.0 buckets some most) (normal buckets (let le = some in omega (arith, le)))) own fits

pub bare_queues_never_full : BareTextsAreRunnable → ShippedAreWithin → IsNormal queue_text → BareQueueIsNeverFull
bare_queues_never_full runnable shipped normal setting own fits = bare_queue_never_full setting (runnable queue_text shipped.1 normal) own fits
