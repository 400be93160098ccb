-- Places stand apart from what callers want, and are 0 at the start; and the core's events, one at a time.
use Rattle.std.proofs.Common.{◌≡◌, ◌≢◌, ℕ, ◌+◌, ◌<◌, ◌&&◌, Bool, true, false, Option, Some, None, sym, ap, ◌∙◌, arith, if◌then◌else◌}
use Rattle.std.specs.Prelude.{slice_get, slice_set, slice_index, nat_lt}
use Rattle.std.proofs.lemmas.Bool.Decides.{nat_tests}
use Rattle.target_code.specs.declared.target.Target.{Target}
use Rattle.target_laws.specs.target_runs.Runnable.{MayBeWalked}
use Rattle.norm_lang.specs.declared.text.Text.{Text}
use Rattle.oa_words.specs.Words.{Word, Place, Sizes, address_of, in_row}
use Rattle.oa_words.proofs.Places.{apart}
use Rattle.phase_pools.specs.Accesses.{WordAccess, Stores, word_of}
use Rattle.caller_parts.specs.declared.call.Call.{Call}
use Rattle.caller_parts.specs.Settings.{Setting, Fits, IsSetting}
use Rattle.caller_steps.specs.Entries.{Entry, is_idle}
use Rattle.caller_parts.specs.Calls.{is_call}
use Rattle.caller_steps.specs.Wants.{wants}
use Rattle.caller_steps.specs.After.{after, taken}
use Rattle.caller_steps.specs.Lawful.{IsLawful, Accepts, is_place}
use Rattle.core_runs.specs.Machine.{CoreState, Takes, Steps, core_event, event_by, stepped, found_by, made, core_start}
use Rattle.core_runs.proofs.Starting.{start_is_seen}
use Rattle.core_runs.proofs.core_sound.Reached.{start_suits}

lt_is : (a b : ℕ) → a < b → nat_lt a b ≡ true
lt_is a b lt = grind (arith, nat_tests)

-- a word of the row that isn't a place stands at none
pub no_place : (n : Sizes) (w : Word) (k : ℕ) → in_row n w ≡ true → is_place w ≡ false → k < n.callers → 1 + k ≢ address_of n w
no_place n w k row isnt lt is =
    let same : Place k ≡ w = apart n (Place k) w (lt_is k n.callers lt) row is in
    let z : true ≡ false = ap is_place same ∙ isnt in absurd cc

-- a word that is lawful where it stands is one that the caller may be told
pub told_lawful : (target : Target) (setting : Setting) (a : WordAccess) (n : ℕ) → IsLawful target setting (word_of a) n → Accepts target setting a n
told_lawful target setting (Stores w x) n h = tt
told_lawful target setting _ n h = h

pub place_free : (target : Target) (text : Text) (setting : Setting) (c : ℕ) → MayBeWalked target text → IsSetting setting → Fits target setting → c < setting.sizes.callers
    → slice_index (core_start target setting).words (1 + c) ≡ 0
place_free target text setting c runs own fits lt =
    let row : in_row setting.sizes (Place c) ≡ true = lt_is c setting.sizes.callers lt in
    sym (ap (λ (b : Bool). if b then slice_index (core_start target setting).words (1 + c) else 0) row)
    ∙ (start_is_seen target setting).memory (start_suits target text setting runs own fits).suits (Place c) row

-- ---- events

pub taking : (target : Target) (setting : Setting) (state : CoreState) (c : ℕ) (call : Call) (e : Entry) → slice_get state.entries c ≡ Some e → is_idle e.routine ≡ true → is_call target call ≡ true
    → core_event target setting state (Takes c call) ≡ Some (record state { entries = slice_set state.entries c (taken setting.reclamation call e) })
taking target setting state c call e there idle is =
    let later : Option CoreState = Some (record state { entries = slice_set state.entries c (taken setting.reclamation call e) }) in
    ap (event_by target setting state (Takes c call)) there
    ∙ (ap (λ (b : Bool). if b && is_call target call then later else None) idle ∙ ap (λ (b : Bool). if true && b then later else None) is)

pub stepping : (target : Target) (setting : Setting) (state : CoreState) (c : ℕ) (e : Entry) (a : WordAccess) → slice_get state.entries c ≡ Some e → wants target e ≡ Some a
    → core_event target setting state (Steps c) ≡ Some (record { words = made setting state a; entries = slice_set state.entries c (after target setting e (found_by setting state a)) })
stepping target setting state c e a there want =
    ap (event_by target setting state (Steps c)) there ∙ ap (stepped target setting state c e) want
