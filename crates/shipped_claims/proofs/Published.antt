-- Along a run: if no wrap-up leads to `again` after an exchange has succeeded, a call that has published a node doesn't begin again.
use Rattle.std.proofs.Common.{◌≡◌, ◌≢◌, ◌⊎◌, inl, inr, ⊎_elim, ℕ, ◌≤◌, ◌<◌, Bool, true, false, List, [], ◌∷◌, ◌++◌, length, set, Option, Some, None, refl, sym, ◌∙◌, ap, subst, arith, get_or-set_same, get_or-set_other}
use Rattle.std.specs.Prelude.{slice_index}
use Rattle.std.proofs.lemmas.Bool.{cases_lt}
use Rattle.std.proofs.lemmas.List.{get_or_past}
use mathlib.Core.Logic.{dite}
use native.Mathlib.Decide.{ℕ_discrete}
use Rattle.norm_lang.specs.declared.text.Text.{Text}
use Rattle.norm_lang.specs.declared.registers.Registers.{Registers}
use Rattle.target_code.specs.declared.target.Target.{Target}
use Rattle.target_laws.specs.target_runs.Runnable.{MayBeWalked}
use Rattle.phase_pools.specs.declared.access.ClaimEnd.{ClaimEnd}
use Rattle.phase_pools.specs.declared.access.ClaimEnd.TheVariants as ends
use Rattle.phase_pools.specs.Pools.{Claim, ClaimTurn, claim_accepts, claim_takes}
use Rattle.caller_steps.specs.declared.entry.Hand.{Hand}
use Rattle.caller_parts.specs.declared.routine.Announcing.TheVariants as announces
use Rattle.caller_parts.specs.declared.setting.Reclamation.{Reclamation}
use Rattle.caller_parts.specs.declared.setting.Reclamation.TheVariants.{Optimistic, Epochs}
use Rattle.caller_parts.specs.declared.routine.AfterRetire.TheVariants as retires
use Rattle.caller_parts.specs.declared.routine.Routine.{Routine}
use Rattle.caller_parts.specs.declared.routine.Routine.TheVariants.{Idle, LoadSeen, At, InList, Retires, Restarts, Clears, Claims, Zeroes, Announces}
use Rattle.caller_parts.specs.Settings.{Setting, Fits, IsSetting}
use Rattle.caller_steps.specs.Entries.{Entry, is_idle, cradle_of, new_number}
use Rattle.caller_parts.specs.Operands.{code_at}
use Rattle.caller_steps.specs.Signs.{Moved}
use Rattle.caller_steps.specs.After.{after, claim_counted, counted, claim_on, with_routine}
use Rattle.caller_steps.specs.Belongs.{Belongs}
use Rattle.core_runs.specs.Machine.{found_by}
use Rattle.core_runs.proofs.caller_laws.Equations.{after_is, moved_claims}
use Rattle.core_runs.proofs.caller_laws.Pools.{ClaimOn}
use Rattle.core_runs.proofs.core_sound.Reached.{states_are_sound}
use Rattle.claim_laws.specs.CallSteps.{StepMade}
use Rattle.claim_laws.specs.Publishing.{again_routine, Publishes, PublishedEnd}
use Rattle.claim_laws.proofs.Lasts.{never_nil, last_or_before}
use Rattle.claim_laws.proofs.Onward.{StepKeeps as StepLeaves, after_keeps, slot_gains}
use Rattle.claim_laws.proofs.Calling.{HasPublished}
use Rattle.claim_laws.proofs.Running.{StepKeeps, running_has}
use Rattle.claim_laws.proofs.Taking.{claim_on_step}
use Rattle.shipped_claims.proofs.Settled.{Begins, CodeCarries, SettledAt, Settled, after_settles, after_publishes}

-- ---- one step

module _ (target : Target) (setting : Setting) (e : Entry) (word : ℕ) where
  abbrev later : Entry
  later = after target setting e word

  abbrev made : StepMade
  made = record { entry = e; found = word }

  -- cradles that stay tell of nothing published
  leaves_cradles : later.cradles ≡ e.cradles → Publishes target setting made → ⊥
  leaves_cradles same p = p.1 (sym (ap (λ (l : List ℕ). slice_index l p.0) same) ∙ p.2)

  -- a claim fills a cradle, and empties none
  claim_fills : (takes : Bool) (next : Claim) (o : Option ClaimEnd) (k : ℕ) → ClaimOn setting e.number o next → cradle_of e k ≢ 0 → cradle_of (claim_on setting.reclamation target next o (claim_counted takes (counted e))).entry k ≡ 0 → ⊥
  claim_fills takes next None k on full empty = full empty
  claim_fills takes next (Some ends.Full) k on full empty = full empty
  claim_fills takes next (Some (ends.PhasesOver p)) k on full empty = full empty
  claim_fills takes next (Some (ends.Claimed j)) k on full was_empty = dite (ℕ_discrete k n)
      (λ (q : k ≡ n).
      let inside : n < length e.cradles = below (λ past. full (ap (λ (i : ℕ). slice_index e.cradles i) q ∙ get_or_past e.cradles n 0 past)) in
      let held : slice_index (set e.cradles n j) n ≡ j = get_or-set_same e.cradles n j 0 inside in
      let z : j ≡ 0 = sym held ∙ (ap (λ (i : ℕ). slice_index (set e.cradles n j) i) (sym q) ∙ empty) in
      let low = on.0 in
      omega (arith, low, z))
      (λ (other : k ≢ n). full (sym (get_or-set_other e.cradles n k j 0 other) ∙ empty)) where
        n : ℕ
        n = new_number target e

        empty : slice_index (set e.cradles n j) k ≡ 0
        empty =
            let g = slot_gains setting.reclamation target next.sweeps j (with_routine (claim_counted takes (counted e)) At) in
            sym (ap (λ (l : List ℕ). slice_index l k) g.cradles) ∙ was_empty

        below : (length e.cradles ≤ n → ⊥) → n < length e.cradles
        below refuted = ⊎_elim (λ (t : n < length e.cradles). t) (λ (t : length e.cradles ≤ n). absurd (refuted t)) (cases_lt n (length e.cradles))

  claim_publishes : (claim : Claim) → e.routine ≡ Claims claim → (let turn = claim_accepts setting.sizes setting.last claim word in ClaimOn setting e.number turn.ended turn.claim) → Publishes target setting made → ⊥
  claim_publishes claim is on p =
      let turn : ClaimTurn = claim_accepts setting.sizes setting.last claim word in
      let later_is : later ≡ (claim_on setting.reclamation target turn.claim turn.ended (claim_counted (claim_takes setting.sizes claim word) (counted e))).entry = after_is target setting e word ∙ ap (λ (m : Moved). m.entry) (moved_claims setting.reclamation target setting e word claim is) in
      claim_fills (claim_takes setting.sizes claim word) turn.claim turn.ended p.0 on p.1 (sym (ap (λ (x : Entry). cradle_of x p.0) later_is) ∙ p.2)

  -- only a list publishes
  lists_publish : is_idle e.routine ≡ false → ((claim : Claim) → e.routine ≡ Claims claim → (let turn = claim_accepts setting.sizes setting.last claim word in ClaimOn setting e.number turn.ended turn.claim))
      → Publishes target setting made → (k : ℕ) × (e.routine ≡ InList k)
  lists_publish busy on p = of e.routine refl (after_keeps target setting e word) where
    of : (routine : Routine) → e.routine ≡ routine → StepLeaves target (counted e) later routine → (k : ℕ) × (e.routine ≡ InList k)
    of Idle is leaves = absurd (let z : true ≡ false = sym (ap is_idle is) ∙ busy in cc)
    of (InList k) is leaves = (k, is)
    of (Claims claim) is leaves = absurd (claim_publishes claim is (on claim is) p)
    of (LoadSeen why) is leaves = absurd (leaves_cradles leaves.0 p)
    of At is leaves = absurd (leaves_cradles leaves.0 p)
    of (Retires retirement retires.Next) is leaves = absurd (leaves_cradles leaves.0 p)
    of (Retires retirement (retires.List k)) is leaves = absurd (leaves_cradles leaves.0 p)
    of Restarts is leaves = absurd (leaves_cradles leaves.0 p)
    of (Clears next) is leaves = absurd (leaves_cradles leaves.0 p)
    of (Zeroes k field) is leaves = absurd (leaves_cradles leaves.0 p)
    of (Announces (announces.Loads why)) is leaves = absurd (leaves_cradles leaves.0 p)
    of (Announces (announces.Stores why phase)) is leaves = absurd (leaves_cradles leaves.0 p)
    of (Announces (announces.Leaves reply)) is leaves = absurd (leaves_cradles leaves.0 p)

-- it doesn't stand where a call begins again
never_again : (by : Reclamation) (Holds : ℕ → Registers → Type 0) (hand : Hand) → SettledAt Holds hand (again_routine by) → ⊥
never_again Optimistic Holds hand settled = settled
never_again Epochs Holds hand settled = settled

again_busy : (by : Reclamation) → is_idle (again_routine by) ≡ false
again_busy Optimistic = refl
again_busy Epochs = refl

-- ---- a run

module _ (target : Target) (text : Text) (setting : Setting) (runs : MayBeWalked target text) (own : IsSetting setting) (fits : Fits target setting)
    (Holds : ℕ → ℕ → Registers → Type 0) (begins : (op : ℕ) → Begins (Holds op)) (carries : (op : ℕ) → CodeCarries (Holds op) (code_at target op true)) where
  abbrev Stays : Entry → Type 0
  Stays e = Settled target setting.sizes Holds begins carries e

  -- a call that has published stays so
  abbrev StaysOnce : Entry → List StepMade → Type 0
  StaysOnce e steps = HasPublished target setting steps → Stays e

  now_or_before : (steps : List StepMade) (s : StepMade) → HasPublished target setting (steps ++ s ∷ []) → Publishes target setting s ⊎ HasPublished target setting steps
  now_or_before steps s p = ⊎_elim
      (λ (t : p.step ≡ s). inl (subst (Publishes target setting) t p.publishes))
      (λ (t : (rest : List StepMade) × (steps ≡ p.before ++ p.step ∷ rest)). inr (record { before = p.before; step = p.step; later = t.0; among = t.1; publishes = p.publishes }))
      (last_or_before steps p.before p.later s p.step p.among)

  keeps : StepKeeps target setting (λ (e : Entry). Unit {0}) StaysOnce
  keeps past state k e a steps step calls was = (
    (λ t. tt),
    (λ t p. ⊎_elim
        (λ (now : Publishes target setting s). from_list (lists_publish target setting e found step.busy (λ claim is. claim_on_step target text setting runs own fits past state k e a claim step is) now) now)
        (λ (before : HasPublished target setting steps). after_settles target setting Holds begins carries e found eight (was before))
        (now_or_before steps s p)),
  ) where
    found : ℕ
    found = found_by setting state a

    s : StepMade
    s = record { entry = e; found = found }

    belongs : Belongs target setting e
    belongs = ((states_are_sound target text setting state runs own fits (record { events = past; runs = step.came })).belong k e step.there).0

    eight : length e.hand.registers.numbers ≡ 8
    eight = belongs.hand.registers.numbers

    from_list : (k : ℕ) × (e.routine ≡ InList k) → Publishes target setting s → Stays (after target setting e found)
    from_list list now = ⊎_elim
        (λ (t : Stays (after target setting e found)). t)
        (λ (t : (after target setting e found).cradles ≡ e.cradles). absurd (leaves_cradles target setting e found t now))
        (after_publishes target setting Holds begins carries e found list.0 eight list.1)

  pub published_end : PublishedEnd target setting
  published_end = record {
    each = λ events state c e before step later run there is among publishes.
        let stays : Stays e = running_has target setting (λ (x : Entry). Unit {0}) StaysOnce (λ i. tt) (λ x call rests none. absurd (never_nil none.before none.step none.later none.among)) keeps
        events state run c e there (ap is_idle is ∙ again_busy setting.reclamation) (record { before = before; step = step; later = later; among = among; publishes = publishes }) in
        never_again setting.reclamation (Holds e.running.call.op) e.hand (subst (SettledAt (Holds e.running.call.op) e.hand) is stays);
  }
