-- The slots that a run claims: what each step adds to its caller's count, and that all other slots stay untouched.
use Rattle.std.proofs.Common.{◌≡◌, ◌≢◌, ℕ, ◌+◌, ◌-◌, ◌^◌, ◌≤◌, ◌<◌, ◌==◌, ◌&&◌, ◌||◌, eq-eqb, ne_eqb, Bool, true, false, List, [], ◌∷◌, ◌++◌, length, set, Option, Some, None, refl, sym, ◌∙◌, ap, subst, arith, if◌then◌else◌}
use Rattle.std.specs.Prelude.{slice_get, slice_set, flat_map, min}
use Rattle.std.proofs.lemmas.List.{append-nil, length-append}
use Rattle.std.proofs.lemmas.Bool.Decides.{nat_tests}
use mathlib.Core.Logic.{dite}
use native.Mathlib.Decide.{ℕ_discrete}
use Rattle.norm_lang.specs.declared.text.Text.{Text}
use Rattle.target_code.specs.declared.target.Target.{Target}
use Rattle.target_laws.specs.target_runs.Runnable.{MayBeWalked}
use Rattle.oa_words.specs.Words.{Status, Sizes, in_row}
use Rattle.oa_words.specs.Packed.{head_word}
use Rattle.guard_words.specs.Guards.{has_slot}
use Rattle.phase_pools.specs.declared.stages.ClaimStage.{ClaimStage}
use Rattle.phase_pools.specs.declared.stages.ClaimStage.TheVariants as claims
use Rattle.phase_pools.specs.Accesses.{WordAccess}
use Rattle.phase_pools.specs.Pools.{takes_at}
use Rattle.caller_parts.specs.declared.routine.Routine.{Routine}
use Rattle.caller_parts.specs.declared.routine.Routine.TheVariants.{Claims}
use Rattle.caller_parts.specs.Settings.{Setting, Fits, IsSetting}
use Rattle.caller_steps.specs.Entries.{Entry, is_idle, one_more}
use Rattle.caller_parts.specs.Calls.{is_call}
use Rattle.caller_steps.specs.Wants.{wants}
use Rattle.caller_steps.specs.After.{after, taken}
use Rattle.core_runs.specs.Machine.{CoreState, CoreEvent, Takes, Steps, Reachable, core_event, core_run, core_start, run_on, event_by, found_by, made, stepped}
use Rattle.core_runs.proofs.Reaching.{some_is, starts, reaches, run_more, induct_reached}
use Rattle.core_runs.proofs.Keeping.{idle_wants, got_same, got_other, run_count}
use Rattle.core_runs.specs.caller_laws.Laws.{ForRuns}
use Rattle.core_runs.proofs.caller_laws.Methods.{setting_sane}
use Rattle.core_runs.proofs.caller_laws.Together.{methods}
use Rattle.core_runs.proofs.core_sound.StartSound.{idle_at}
use Rattle.core_runs.proofs.core_sound.Reached.{states_are_sound}
use Rattle.claim_laws.specs.CallSteps.{steps_wanted, steps_by}
use Rattle.claim_laws.specs.Untouched.{HeldNone, IsUntouched}
use Rattle.claim_laws.proofs.Touching.{held_some}
use Rattle.claim_laws.specs.Claimed.{taken_at, taken_in, slots_taken, event_claims, claims_on, events_claims, claimed_by, ClaimsAreCounted, UnclaimedIsUntouched}
use Rattle.claim_laws.proofs.Onward.{IsBefore}
use Rattle.claim_laws.proofs.Meeting.{ClaimsOther, TakesOther}
use Rattle.claim_laws.proofs.Pooling.{takes_in, count_after, counts_after, take_untouched, untouched_stays}
use Rattle.claim_laws.proofs.Filling.{start_untouched, reached_pool}

-- ---- counts

-- a count after so many more
abbrev Grows : ℕ → ℕ → ℕ → Type 0
Grows before more later = later ≡ min (before + more) (2 ^ 64 - 1)

abbrev pub IsCount : ℕ → Type 0
IsCount n = n ≤ 2 ^ 64 - 1

stays_count : (n : ℕ) → IsCount n → Grows n 0 n
stays_count n le = omega (arith, le)

one_more_grows : (n : ℕ) → IsCount n → Grows n 1 (one_more n)
one_more_grows n le = omega (arith, le)

-- a claim that takes a slot counts one more
taken_counts : (sizes : Sizes) (routine : Routine) (word n : ℕ) → IsCount n → Grows n (length (taken_in sizes.tops routine word)) (count_after (takes_in sizes routine word) n)
taken_counts sizes (Claims claim) word n le = of claim.stage where
  of : (stage : ClaimStage) → Grows n (length (taken_at sizes.tops stage word)) (count_after (takes_at sizes.tops stage word) n)
  of (claims.Take q t next) = by (word == head_word sizes.tops q t) where
    by : (b : Bool) → Grows n (length (if b then t ∷ [] else [])) (count_after b n)
    by true = one_more_grows n le
    by false = stays_count n le
  of _ = stays_count n le
taken_counts sizes _ word n le = stays_count n le

module _ (target : Target) (setting : Setting) where
  -- each step counts the slot that it took
  step_grows : (e : Entry) (word : ℕ) → is_idle e.routine ≡ false → IsBefore e.routine → IsCount e.counts.claims → Grows e.counts.claims (length (taken_in setting.sizes.tops e.routine word)) (after target setting e word).counts.claims
  step_grows e word busy before le =
      subst (λ (n : ℕ). Grows e.counts.claims (length (taken_in setting.sizes.tops e.routine word)) n) (sym (counts_after target setting e word busy before)) (taken_counts setting.sizes e.routine word e.counts.claims le)

  -- the caller's entry in a state, with so many more claims than before
  abbrev Tallies : CoreState → ℕ → ℕ → ℕ → Type 0
  Tallies state c before more = (e : Entry) × (slice_get state.entries c ≡ Some e) × Grows before more e.counts.claims

  no_more : (state : CoreState) (c : ℕ) (e : Entry) → slice_get state.entries c ≡ Some e → IsCount e.counts.claims → Tallies state c e.counts.claims 0
  no_more state c e there le = (e, there, stays_count e.counts.claims le)

  one_changes : (state mid : CoreState) (words : List ℕ) (k c more : ℕ) (d new e : Entry) → record { words = words; entries = slice_set state.entries k new } ≡ mid
      → slice_get state.entries k ≡ Some d → slice_get state.entries c ≡ Some e → IsCount e.counts.claims → Grows d.counts.claims more new.counts.claims → Tallies mid c e.counts.claims (if k == c then more else 0)
  one_changes state mid words k c more d new e is at there le grows = subst (λ (m : CoreState). Tallies m c e.counts.claims (if k == c then more else 0)) is (dite (ℕ_discrete k c)
      (λ (q : k ≡ c).
      let same : d ≡ e = (let at' : slice_get state.entries c ≡ Some d = subst (λ (j : ℕ). slice_get state.entries j ≡ Some d) q at in cc) in (
        new,
        subst (λ (j : ℕ). slice_get (set state.entries k new) j ≡ Some new) q (got_same state.entries k new d at),
        subst (λ (n : ℕ). Grows e.counts.claims n new.counts.claims) (sym (ap (λ (b : Bool). if b then more else 0) (eq-eqb k c q))) (subst (λ (x : Entry). Grows x.counts.claims more new.counts.claims) same grows),
      ))
      (λ (n : k ≢ c). (
        e,
        got_other state.entries k c new (λ z. n (sym z)) ∙ there,
        subst (λ (i : ℕ). Grows e.counts.claims i e.counts.claims) (sym (ap (λ (b : Bool). if b then more else 0) (ne_eqb k c n))) (stays_count e.counts.claims le),
      )))

  length_if : (b : Bool) (slots : List ℕ) → length (if b then slots else []) ≡ (if b then length slots else 0)
  length_if true slots = refl
  length_if false slots = refl

  event_tallies : (state mid : CoreState) (event : CoreEvent) (c : ℕ) (e : Entry) → ((k : ℕ) (d : Entry) → slice_get state.entries k ≡ Some d → IsBefore d.routine × IsCount d.counts.claims)
      → core_event target setting state event ≡ Some mid → slice_get state.entries c ≡ Some e → Tallies mid c e.counts.claims (length (event_claims target setting c state event))
  event_tallies state mid (Takes k call) c e known goes there = of (slice_get state.entries k) refl goes where
    choose : (b : Bool) (n : ℕ) → (if b then n else n) ≡ n
    choose true n = refl
    choose false n = refl

    by : (d : Entry) → slice_get state.entries k ≡ Some d → (b : Bool) → (if b then Some (record state { entries = slice_set state.entries k (taken setting.reclamation call d) }) else None) ≡ Some mid → Tallies mid c e.counts.claims 0
    by d at true became = subst (Tallies mid c e.counts.claims) (choose (k == c) 0)
        (one_changes state mid state.words k c 0 d (taken setting.reclamation call d) e (some_is _ mid became) at there (known c e there).1 (stays_count d.counts.claims (known k d at).1))
    by d at false became = absurd (let z : None ≡ Some mid = became in cc)

    of : (o : Option Entry) → slice_get state.entries k ≡ o → event_by target setting state (Takes k call) o ≡ Some mid → Tallies mid c e.counts.claims 0
    of None at became = absurd (let z : None ≡ Some mid = became in cc)
    of (Some d) at became = by d at (is_idle d.routine && is_call target call) became
  event_tallies state mid (Steps k) c e known goes there = of (slice_get state.entries k) refl goes where
    by : (d : Entry) → slice_get state.entries k ≡ Some d → (o : Option WordAccess) → wants target d ≡ o → (i : Bool) → is_idle d.routine ≡ i
        → stepped target setting state k d o ≡ Some mid → Tallies mid c e.counts.claims (length (event_claims target setting c state (Steps k)))
    by d at None want i idle became = absurd (let z : None ≡ Some mid = became in cc)
    by d at (Some a) want true idle became = absurd (idle_wants target d a idle want)
    by d at (Some a) want false idle became =
        let found : ℕ = found_by setting state a in
        let own : flat_map (slots_taken setting) (steps_by target setting state (slice_get state.entries k)) ≡ taken_in setting.sizes.tops d.routine found ++ [] =
        ap (λ (o : Option Entry). flat_map (slots_taken setting) (steps_by target setting state o)) at ∙ ap (λ (o : Option WordAccess). flat_map (slots_taken setting) (steps_wanted setting state d o)) want in
        let count : length (event_claims target setting c state (Steps k)) ≡ (if k == c then length (taken_in setting.sizes.tops d.routine found) else 0) =
        ap (λ (l : List ℕ). length (if k == c then l else [])) (own ∙ append-nil (taken_in setting.sizes.tops d.routine found)) ∙ length_if (k == c) (taken_in setting.sizes.tops d.routine found) in
        subst (Tallies mid c e.counts.claims) (sym count)
        (one_changes state mid (made setting state a) k c (length (taken_in setting.sizes.tops d.routine found)) d (after target setting d found) e (some_is _ mid became) at there (known c e there).1
        (step_grows d found idle (known k d at).0 (known k d at).1))

    of : (o : Option Entry) → slice_get state.entries k ≡ o → event_by target setting state (Steps k) o ≡ Some mid → Tallies mid c e.counts.claims (length (event_claims target setting c state (Steps k)))
    of None at became = absurd (let z : None ≡ Some mid = became in cc)
    of (Some d) at became = by d at (wants target d) refl (is_idle d.routine) refl became

-- ---- a run

module _ (target : Target) (text : Text) (setting : Setting) (runs : MayBeWalked target text) (own : IsSetting setting) (fits : Fits target setting) where
  abbrev pub Known : CoreState → Type 0
  Known state = (k : ℕ) (d : Entry) → slice_get state.entries k ≡ Some d → IsBefore d.routine × IsCount d.counts.claims

  counts_within : (state : CoreState) → Reachable target setting state → (k : ℕ) (d : Entry) → slice_get state.entries k ≡ Some d → IsCount d.counts.claims
  counts_within state reached = induct_reached target setting (λ (s : CoreState). (k : ℕ) (d : Entry) → slice_get s.entries k ≡ Some d → IsCount d.counts.claims)
      (λ k d is. let there = idle_at 0 setting.sizes.callers k d is in subst (λ (x : Entry). IsCount x.counts.claims) (sym there.1) (omega arith))
      (λ now later event was counts goes k d is.
      let known : Known now = (λ i f at. ((reached_pool target text setting runs own fits now was).pool.before i f at, counts i f at)) in
      let first = run_count target setting (event ∷ []) now later k d (run_more target setting [] event now now later refl goes) is in
      let tallies = event_tallies target setting now later event k first.0 known goes first.1 in
      let same : tallies.0 ≡ d = (let at = tallies.1 in cc) in
      let grows = tallies.2 in
      subst (λ (x : Entry). IsCount x.counts.claims) same (omega (arith, grows))) state reached

  pub known_in : (state : CoreState) → Reachable target setting state → Known state
  known_in state reached k d at = ((reached_pool target text setting runs own fits state reached).pool.before k d at, counts_within state reached k d at)

  grows_on : (a b c m n : ℕ) → Grows a m b → Grows b n c → Grows a (m + n) c
  grows_on a b c m n first next = omega (arith, first, next)

  run_tallies : (events : List CoreEvent) (state later : CoreState) (c : ℕ) (e : Entry) → Reachable target setting state → core_run target setting events state ≡ Some later → slice_get state.entries c ≡ Some e
      → Tallies target setting later c e.counts.claims (length (events_claims target setting c events state))
  run_tallies [] state later c e reached run there =
      subst (λ (s : CoreState). Tallies target setting s c e.counts.claims 0) (some_is state later run) (no_more target setting state c e there (counts_within state reached c e there))
  run_tallies (event ∷ events) state later c e reached run there =
      of (λ mid d r g at. run_tallies events mid later c d (reaches target setting state mid event reached g) r at) (core_event target setting state event) refl run where
        of : ((mid : CoreState) (d : Entry) → core_run target setting events mid ≡ Some later → core_event target setting state event ≡ Some mid → slice_get mid.entries c ≡ Some d
            → Tallies target setting later c d.counts.claims (length (events_claims target setting c events mid)))
            → (o : Option CoreState) → core_event target setting state event ≡ o → run_on o (core_run target setting events) ≡ Some later
            → Tallies target setting later c e.counts.claims (length (event_claims target setting c state event ++ claims_on o (events_claims target setting c events)))
        of further None goes r = absurd (let z : None ≡ Some later = r in cc)
        of further (Some mid) goes r =
            let now = event_tallies target setting state mid event c e (known_in state reached) goes there in
            let rest = further mid now.0 r goes now.1 in (
              rest.0,
              rest.1,
              subst (λ (n : ℕ). Grows e.counts.claims n rest.0.counts.claims) (sym (length-append (event_claims target setting c state event) (events_claims target setting c events mid)))
                  (grows_on e.counts.claims now.0.counts.claims rest.0.counts.claims (length (event_claims target setting c state event)) (length (events_claims target setting c events mid)) now.2 rest.2),
            )

  counted_in : (events : List CoreEvent) (state : CoreState) (c : ℕ) (e : Entry) → core_run target setting events (core_start target setting) ≡ Some state → slice_get state.entries c ≡ Some e
      → e.counts.claims ≡ min (length (claimed_by target setting events c)) (2 ^ 64 - 1)
  counted_in events state c e run there =
      let first = run_count target setting events (core_start target setting) state c e run there in
      let idle = (idle_at 0 setting.sizes.callers c first.0 first.1).1 in
      let none : first.0.counts.claims ≡ 0 = ap (λ (x : Entry). x.counts.claims) idle in
      let all = run_tallies events (core_start target setting) state c first.0 (starts target setting) run first.1 in
      let same : all.0 ≡ e = (let at = all.1 in cc) in
      let grows = all.2 in
      ap (λ (x : Entry). x.counts.claims) (sym same) ∙ omega (arith, grows, none)

  -- ---- a slot that isn't claimed

  not_claimed : (j word : ℕ) (routine : Routine) → has_slot (taken_in setting.sizes.tops routine word) j ≡ false → ClaimsOther setting.sizes.tops j word routine
  not_claimed j word (Claims claim) none = of claim.stage none where
    of : (stage : ClaimStage) → has_slot (taken_at setting.sizes.tops stage word) j ≡ false → TakesOther setting.sizes.tops j stage word
    of (claims.Take q t next) none = by (word == head_word setting.sizes.tops q t) none where
      by : (b : Bool) → has_slot (if b then t ∷ [] else []) j ≡ false → b ≡ true → t ≢ j
      by true none took same = let own : (t == j) ≡ true = grind (arith, nat_tests) in let z : true ≡ false = sym (ap (λ (d : Bool). d || false) own) ∙ none in cc
      by false none took same = let z : false ≡ true = took in cc
    of _ none = tt
  not_claimed j word _ none = tt

  module _ (j : ℕ) (past : HeldNone setting j) (le : j ≤ setting.sizes.slots) where
    some : 1 ≤ j
    some = held_some setting j past

    event_untouched : (state mid : CoreState) (event : CoreEvent) → Reachable target setting state → core_event target setting state event ≡ Some mid
        → ((c : ℕ) → has_slot (event_claims target setting c state event) j ≡ false) → IsUntouched target setting state j → IsUntouched target setting mid j
    event_untouched state mid (Takes k call) reached goes none was = of (slice_get state.entries k) refl goes where
      by : (d : Entry) → slice_get state.entries k ≡ Some d → (b : Bool) → (if b then Some (record state { entries = slice_set state.entries k (taken setting.reclamation call d) }) else None) ≡ Some mid → IsUntouched target setting mid j
      by d at true became = subst (λ (s : CoreState). IsUntouched target setting s j) (some_is _ mid became) (take_untouched target setting state k call d j some at was)
      by d at false became = absurd (let z : None ≡ Some mid = became in cc)

      of : (o : Option Entry) → slice_get state.entries k ≡ o → event_by target setting state (Takes k call) o ≡ Some mid → IsUntouched target setting mid j
      of None at became = absurd (let z : None ≡ Some mid = became in cc)
      of (Some d) at became = by d at (is_idle d.routine && is_call target call) became
    event_untouched state mid (Steps k) reached goes none was = of (slice_get state.entries k) refl goes where
      row : in_row setting.sizes (Status j) ≡ true
      row = let lt : j < setting.sizes.slots + 1 = omega (arith, le) in grind (arith, nat_tests)

      by : (d : Entry) → slice_get state.entries k ≡ Some d → (o : Option WordAccess) → wants target d ≡ o → (i : Bool) → is_idle d.routine ≡ i
          → stepped target setting state k d o ≡ Some mid → IsUntouched target setting mid j
      by d at None want i idle became = absurd (let z : None ≡ Some mid = became in cc)
      by d at (Some a) want true idle became = absurd (idle_wants target d a idle want)
      by d at (Some a) want false idle became =
          let found : ℕ = found_by setting state a in
          let slots : flat_map (slots_taken setting) (steps_by target setting state (slice_get state.entries k)) ≡ taken_in setting.sizes.tops d.routine found =
          ap (λ (o : Option Entry). flat_map (slots_taken setting) (steps_by target setting state o)) at ∙ (ap (λ (o : Option WordAccess). flat_map (slots_taken setting) (steps_wanted setting state d o)) want ∙ append-nil (taken_in setting.sizes.tops d.routine found)) in
          let mine : event_claims target setting k state (Steps k) ≡ taken_in setting.sizes.tops d.routine found =
          ap (λ (b : Bool). if b then flat_map (slots_taken setting) (steps_by target setting state (slice_get state.entries k)) else []) (eq-eqb k k refl) ∙ slots in
          subst (λ (s : CoreState). IsUntouched target setting s j) (some_is _ mid became)
          (untouched_stays target setting (methods target text runs) (setting_sane setting own) fits state k d a (states_are_sound target text setting state runs own fits reached) at idle want j
          some row was (not_claimed j found d.routine (sym (ap (λ (l : List ℕ). has_slot l j) mine) ∙ none k)))

      of : (o : Option Entry) → slice_get state.entries k ≡ o → event_by target setting state (Steps k) o ≡ Some mid → IsUntouched target setting mid j
      of None at became = absurd (let z : None ≡ Some mid = became in cc)
      of (Some d) at became = by d at (wants target d) refl (is_idle d.routine) refl became

    both_none : (xs ys : List ℕ) → has_slot (xs ++ ys) j ≡ false → (has_slot xs j ≡ false) × (has_slot ys j ≡ false)
    both_none [] ys none = (refl, none)
    both_none (x ∷ xs) ys none = of (x == j) none (both_none xs ys) where
      of : (b : Bool) → (b || has_slot (xs ++ ys) j) ≡ false → (has_slot (xs ++ ys) j ≡ false → (has_slot xs j ≡ false) × (has_slot ys j ≡ false)) → ((b || has_slot xs j) ≡ false) × (has_slot ys j ≡ false)
      of true no_slot rest = absurd (let z : true ≡ false = no_slot in cc)
      of false no_slot rest = rest no_slot

    run_untouched : (events : List CoreEvent) (state later : CoreState) → Reachable target setting state → core_run target setting events state ≡ Some later
        → ((c : ℕ) → has_slot (events_claims target setting c events state) j ≡ false) → IsUntouched target setting state j → IsUntouched target setting later j
    run_untouched [] state later reached run none was = subst (λ (s : CoreState). IsUntouched target setting s j) (some_is state later run) was
    run_untouched (event ∷ events) state later reached run none was =
        of (λ mid r g n w. run_untouched events mid later (reaches target setting state mid event reached g) r n w) (core_event target setting state event) refl run none where
          of : ((mid : CoreState) → core_run target setting events mid ≡ Some later → core_event target setting state event ≡ Some mid → ((c : ℕ) → has_slot (events_claims target setting c events mid) j ≡ false)
              → IsUntouched target setting mid j → IsUntouched target setting later j)
              → (o : Option CoreState) → core_event target setting state event ≡ o → run_on o (core_run target setting events) ≡ Some later
              → ((c : ℕ) → has_slot (event_claims target setting c state event ++ claims_on o (events_claims target setting c events)) j ≡ false) → IsUntouched target setting later j
          of further None goes r n = absurd (let z : None ≡ Some later = r in cc)
          of further (Some mid) goes r n =
              further mid r goes (λ c. (both_none (event_claims target setting c state event) (events_claims target setting c events mid) (n c)).1)
              (event_untouched state mid event reached goes (λ c. (both_none (event_claims target setting c state event) (events_claims target setting c events mid) (n c)).0) was)

pub claims_counted : ForRuns ClaimsAreCounted
claims_counted target text setting runs own fits = record { each = λ events state c e run there. counted_in target text setting runs own fits events state c e run there }

pub unclaimed_untouched : ForRuns UnclaimedIsUntouched
unclaimed_untouched target text setting runs own fits = record {
  each = λ events state j run past le none. run_untouched target text setting runs own fits j past le events (core_start target setting) state (starts target setting) run none
      (start_untouched runs.within own fits j past le);
}
