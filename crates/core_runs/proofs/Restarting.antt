-- Under epochs a restart is counted exactly if a claim that has made a sweep ends with a slot.
use Rattle.std.proofs.Common.{◌≡◌, ◌==◌, ℕ, zero, suc, ◌+◌, ◌-◌, ◌^◌, ◌&&◌, eq-eqb, ne_eqb, Bool, true, false, List, [], ◌∷◌, set, Option, Some, None, refl, sym, ap, ◌∙◌, subst, arith, if◌then◌else◌}
use Rattle.std.specs.Prelude.{slice_get, slice_set, min}
use mathlib.Core.Logic.{dite}
use native.Mathlib.Decide.{ℕ_discrete}
use Rattle.target_code.specs.declared.target.TargetInstr.{TargetInstr}
use Rattle.target_code.specs.declared.target.TargetInstr.TheVariants.{Plain}
use Rattle.target_code.specs.declared.target.Target.{Target}
use Rattle.oa_words.specs.Words.{Sizes}
use Rattle.oa_words.specs.Packed.{HeadParts, head_parts, head_word}
use Rattle.phase_pools.specs.declared.access.ClaimEnd.{ClaimEnd}
use Rattle.phase_pools.specs.declared.access.ClaimEnd.TheVariants as ends
use Rattle.phase_pools.specs.declared.access.SweepEnd.{SweepEnd}
use Rattle.phase_pools.specs.declared.access.SweepEnd.TheVariants as swept
use Rattle.phase_pools.specs.declared.stages.Scheme.{Scheme}
use Rattle.phase_pools.specs.declared.stages.Scheme.TheVariants.{Announced}
use Rattle.phase_pools.specs.declared.stages.ClaimStage.{ClaimStage}
use Rattle.phase_pools.specs.declared.stages.ClaimStage.TheVariants as claims
use Rattle.phase_pools.specs.Accesses.{WordAccess}
use Rattle.phase_pools.specs.Pools.{Sweep, Claim, claim_accepts_at, claim_ends, claim_goes, claim_takes, look_begun, look_ended, look_took, retire_accepts, sweep_accepts, sweep_ended, sweep_follows}
use Rattle.caller_parts.specs.declared.routine.AnnounceReason.TheVariants as reasons
use Rattle.caller_parts.specs.declared.routine.Announcing.TheVariants as announces
use Rattle.caller_parts.specs.declared.routine.Routine.{Routine}
use Rattle.caller_parts.specs.declared.routine.Routine.TheVariants.{Idle, LoadSeen, At, InList, Retires, Restarts, Clears, Claims, Zeroes, Announces}
use Rattle.caller_parts.specs.declared.setting.Reclamation.{Reclamation}
use Rattle.caller_parts.specs.declared.setting.Reclamation.TheVariants.{Epochs}
use Rattle.caller_parts.specs.Settings.{Setting}
use Rattle.caller_parts.specs.Calls.{is_call}
use Rattle.caller_parts.specs.Operands.{list_of}
use Rattle.caller_steps.specs.declared.entry.Counts.{Counts}
use Rattle.caller_steps.specs.Entries.{Entry, idle_entry, instr_in, is_idle, one_more}
use Rattle.caller_steps.specs.Clearing.{clear_next, restart_next, unguarded}
use Rattle.caller_steps.specs.Wants.{wants}
use Rattle.caller_steps.specs.After.{accepted, after, claim_counted, claim_on, counted, instr_accepted, is_wrap_up, taken, with_hand}
use Rattle.core_runs.specs.Machine.{CoreState, CoreEvent, Takes, Steps, core_event, core_run, core_start, event_by, found_by, made, OfAll, run_on, stepped}
use Rattle.core_runs.specs.Swept.{ends_swept, entry_restarts, event_restarts, has_swept, is_last_store, restarts_in, restarts_on, RestartsAreCounted}
use Rattle.core_runs.proofs.Reaching.{some_is}
use Rattle.core_runs.proofs.Keeping.{got_same, got_other, idle_there, idle_within, run_count}
use Rattle.core_runs.proofs.Turning.{accepted_plain, announced_turns, begun_turns, cleared_turns, list_accepted_turns, restarted_turns, retired_turns, zeroed_turns}
use Rattle.core_runs.proofs.caller_laws.Routed.{HoldsAtStarts, step_routed}

-- ---- a claim goes on, or ends

-- it doesn't end with a slot
abbrev NoSlot : Option ClaimEnd → Type 0
NoSlot (Some (ends.Claimed j)) = ⊥
NoSlot _ = Unit {0}

follows_no_slot : (scheme : Scheme) (made : ℕ) (claim : Claim) → NoSlot (sweep_follows scheme made claim).ended
follows_no_slot (Announced own) zero claim = tt
follows_no_slot _ _ claim = tt

ended_no_slot : (claim : Claim) → NoSlot (look_ended claim).ended
ended_no_slot claim = of (claim.sweeps == 2) where
  of : (b : Bool) → NoSlot (if b then claim_ends claim ends.Full else sweep_follows claim.sweep.scheme claim.sweeps claim).ended
  of true = tt
  of false = follows_no_slot claim.sweep.scheme claim.sweeps claim

begun_no_slot : (claim : Claim) (head : HeadParts) → NoSlot (look_begun claim head).ended
begun_no_slot claim head = of (head.top == 0) where
  of : (b : Bool) → NoSlot (if b then look_ended claim else claim_goes claim (claims.ReadLink head.phase head.top)).ended
  of true = ended_no_slot claim
  of false = tt

took_no_slot : (n : Sizes) (claim : Claim) (q t word : ℕ) → NoSlot (look_took n claim q t word).ended
took_no_slot n claim q t word = of (word == head_word n.tops q t) where
  of : (b : Bool) → NoSlot (if b then claim_goes claim (claims.StoreUsed q t) else claim_goes claim claims.ReadHead).ended
  of true = tt
  of false = tt

swept_no_slot : (claim : Claim) (sweep : Sweep) (end : Option SweepEnd) → NoSlot (sweep_ended claim sweep end).ended
swept_no_slot claim sweep (Some swept.Swept) = tt
swept_no_slot claim sweep _ = tt

-- ---- what a claim's step leaves

-- the count, and where the entry stands: at the announcement after a sweep, or not
record Leaves (more : Bool) (before later : Entry) : Type 0 where
  restarts : later.counts.restarts ≡ (if more then one_more before.counts.restarts else before.counts.restarts)
  there : later.routine ≡ Announces (announces.Loads reasons.Swept) → more ≡ true
  comes : more ≡ true → later.routine ≡ Announces (announces.Loads reasons.Swept)

none_leaves : (target : Target) (claim : Claim) (o : Option ClaimEnd) (e : Entry) → NoSlot o → Leaves false e (claim_on Epochs target claim o e).entry
none_leaves target claim None e none = record { restarts = refl; there = λ is. absurd (let no : Claims claim ≡ Announces (announces.Loads reasons.Swept) = is in cc); comes = λ more. absurd (let no : false ≡ true = more in cc) }
none_leaves target claim (Some (ends.Claimed j)) e none = absurd none
none_leaves target claim (Some ends.Full) e none = record { restarts = refl; there = λ is. absurd (let no : Idle ≡ Announces (announces.Loads reasons.Swept) = is in cc); comes = λ more. absurd (let no : false ≡ true = more in cc) }
none_leaves target claim (Some (ends.PhasesOver p)) e none = record { restarts = refl; there = λ is. absurd (let no : Idle ≡ Announces (announces.Loads reasons.Swept) = is in cc); comes = λ more. absurd (let no : false ≡ true = more in cc) }

slot_leaves : (target : Target) (claim : Claim) (made j : ℕ) (e : Entry) → claim.sweeps ≡ made → Leaves (has_swept made) e (claim_on Epochs target claim (Some (ends.Claimed j)) e).entry
slot_leaves target claim made j e is = subst (λ (n : ℕ). Leaves (has_swept made) e (claim_on Epochs target (record claim { sweeps = n }) (Some (ends.Claimed j)) e).entry) (sym is) (of made) where
  of : (made : ℕ) → Leaves (has_swept made) e (claim_on Epochs target (record claim { sweeps = made }) (Some (ends.Claimed j)) e).entry
  of zero = record { restarts = refl; there = λ is. absurd cc; comes = λ more. absurd (let no : false ≡ true = more in cc) }
  of (suc more) = record { restarts = refl; there = λ is. refl; comes = λ more. refl }

claim_leaves : (target : Target) (n : Sizes) (last : ℕ) (claim : Claim) (word : ℕ) (stage : ClaimStage) (e : Entry)
    → let turn = claim_accepts_at n last claim word stage in Leaves (is_last_store stage && has_swept claim.sweeps) e (claim_on Epochs target turn.claim turn.ended e).entry
claim_leaves target n last claim word claims.ReadHead e = let turn = look_begun claim (head_parts n.tops word) in none_leaves target turn.claim turn.ended e (begun_no_slot claim (head_parts n.tops word))
claim_leaves target n last claim word (claims.ReadLink q t) e = none_leaves target (record claim { stage = claims.Take q t word }) None e tt
claim_leaves target n last claim word (claims.Take q t next) e = let turn = look_took n claim q t word in none_leaves target turn.claim turn.ended e (took_no_slot n claim q t word)
claim_leaves target n last claim word (claims.StoreUsed q t) e = slot_leaves target claim claim.sweeps t e refl
claim_leaves target n last claim word (claims.Withdraw own) e = let turn = claim_accepts_at n last claim word (claims.Withdraw own) in none_leaves target turn.claim None e tt
claim_leaves target n last claim word claims.Sweeps e =
    let made = sweep_accepts n last claim.sweep word in
    let turn = sweep_ended claim made.sweep made.ended in none_leaves target turn.claim turn.ended e (swept_no_slot claim made.sweep made.ended)

-- ---- any other step

-- it counts nothing
abbrev SameCount : Entry → Entry → Type 0
SameCount before later = later.counts.restarts ≡ before.counts.restarts

same_counts : (before later : Entry) → later.counts ≡ before.counts → SameCount before later
same_counts before later is = ap (λ (counts : Counts). counts.restarts) is

instr_counts : (target : Target) (sizes : Sizes) (o : Option TargetInstr) (word : ℕ) (e : Entry) → is_idle e.routine ≡ false → SameCount e (instr_accepted Epochs target sizes o word e).entry
instr_counts target sizes (Some (Plain i)) word e busy = same_counts e (instr_accepted Epochs target sizes (Some (Plain i)) word e).entry (accepted_plain target sizes Epochs i word e busy).2
instr_counts target sizes _ word e busy = refl

step_counts : (target : Target) (setting : Setting) (word : ℕ) (e : Entry) (routine : Routine) → e.routine ≡ routine → ((claim : Claim) → routine ≡ Claims claim → ⊥) → SameCount e (accepted Epochs target setting word e routine).entry
step_counts target setting word e Idle is other = refl
step_counts target setting word e (LoadSeen why) is other =
    same_counts e (accepted Epochs target setting word e (LoadSeen why)).entry (begun_turns target setting.sizes (is_wrap_up why) (with_hand e (record e.hand { seen = word }))).2
step_counts target setting word e At is other = instr_counts target setting.sizes (instr_in target e) word e (ap is_idle is)
step_counts target setting word e (InList k) is other =
    same_counts e (accepted Epochs target setting word e (InList k)).entry (list_accepted_turns target setting.sizes Epochs k (slice_get (list_of (instr_in target e)) k) word e (ap is_idle is)).2
step_counts target setting word e (Retires retirement go) is other =
    same_counts e (accepted Epochs target setting word e (Retires retirement go)).entry (retired_turns target setting.sizes Epochs go (retire_accepts retirement word) e).2
step_counts target setting word e Restarts is other =
    same_counts e (accepted Epochs target setting word e Restarts).entry (restarted_turns target setting.sizes (with_hand e (unguarded (restart_next target e) e.hand))).2
step_counts target setting word e (Clears next) is other =
    same_counts e (accepted Epochs target setting word e (Clears next)).entry (cleared_turns target setting.sizes next (with_hand e (unguarded (clear_next target next e) e.hand))).2
step_counts target setting word e (Claims claim) is other = absurd (other claim refl)
step_counts target setting word e (Zeroes k field) is other = same_counts e (accepted Epochs target setting word e (Zeroes k field)).entry (zeroed_turns target setting.sizes Epochs k field e).2
step_counts target setting word e (Announces announcing) is other = same_counts e (accepted Epochs target setting word e (Announces announcing)).entry (announced_turns target setting.sizes announcing word e).2

-- and doesn't lead to the announcement after a sweep
abbrev IsElsewhere : Routine → Type 0
IsElsewhere routine = routine ≡ Announces (announces.Loads reasons.Swept) → ⊥

elsewhere_starts : (target : Target) (sizes : Sizes) → HoldsAtStarts target sizes IsElsewhere
elsewhere_starts target sizes = record {
  idle = λ is. cc;
  seen = λ why is. cc;
  here = λ is. cc;
  lists = λ k is. cc;
  retires = λ j go is. cc;
  restarts = λ is. cc;
  clears = λ next is. cc;
  claims = λ e scheme is. cc;
  zeroes = λ k field is. cc;
  again = λ is. cc;
  stores = λ why phase is. cc;
  leaves = λ reply is. cc;
}

step_elsewhere : (target : Target) (setting : Setting) (word : ℕ) (e : Entry) (routine : Routine) → e.routine ≡ routine → ((claim : Claim) → routine ≡ Claims claim → ⊥) → IsElsewhere (accepted Epochs target setting word e routine).entry.routine
step_elsewhere target setting word e routine is other =
    step_routed Epochs target setting IsElsewhere (elsewhere_starts target setting.sizes) e word routine is
    (record { claims = λ claim same goes. absurd (other claim same); retires = λ retirement left go same goes to. cc })
    (λ claim same. absurd (other claim same))

-- ---- each step

other_leaves : (target : Target) (setting : Setting) (word : ℕ) (e : Entry) (routine : Routine) → e.routine ≡ routine → ((claim : Claim) → routine ≡ Claims claim → ⊥) → Leaves false e (accepted Epochs target setting word e routine).entry
other_leaves target setting word e routine is other = record {
  restarts = step_counts target setting word e routine is other;
  there = λ to. absurd (step_elsewhere target setting word e routine is other to);
  comes = λ more. absurd (let no : false ≡ true = more in cc);
}

-- that a claim is counted changes no other count
counted_leaves : (more takes : Bool) (e later : Entry) → Leaves more (claim_counted takes e) later → Leaves more e later
counted_leaves more takes e later l = record { restarts = l.restarts; there = l.there; comes = l.comes }

step_leaves : (target : Target) (setting : Setting) (word : ℕ) (e : Entry) (routine : Routine) → e.routine ≡ routine → Leaves (ends_swept routine) e (accepted Epochs target setting word e routine).entry
step_leaves target setting word e (Claims claim) is =
    counted_leaves (ends_swept (Claims claim)) (claim_takes setting.sizes claim word) e (accepted Epochs target setting word e (Claims claim)).entry
    (claim_leaves target setting.sizes setting.last claim word claim.stage (claim_counted (claim_takes setting.sizes claim word) e))
step_leaves target setting word e routine is = other_leaves target setting word e routine is (λ claim no. cc)

after_leaves : (target : Target) (setting : Setting) → setting.reclamation ≡ Epochs → (e : Entry) (word : ℕ) → Leaves (ends_swept e.routine) e (after target setting e word)
unfolding after
after_leaves target setting epochs e word =
    subst (λ (by : Reclamation). Leaves (ends_swept e.routine) e (accepted by target setting word (counted e) e.routine).entry) (sym epochs)
    (let l = step_leaves target setting word (counted e) e.routine refl in record { restarts = l.restarts; there = l.there; comes = l.comes })

-- ---- runs

-- the state has an entry of c, with this count
abbrev Counted : CoreState → ℕ → ℕ → Type 0
Counted state c n = (e : Entry) × (slice_get state.entries c ≡ Some e) × (e.counts.restarts ≡ n)

-- a count after so many more, up to an end
up_to : ℕ → ℕ → ℕ
up_to n k = min k n

none_more : (n k r : ℕ) → r ≡ min k n → r ≡ min (k + 0) n
none_more n k r is = let same : k + 0 ≡ k = omega arith in is ∙ ap (λ (j : ℕ). min j n) (sym same)

some_more : (n k r : ℕ) → r ≡ min k n → min (r + 1) n ≡ min (k + 1) n
some_more n k r is = omega (arith, is)

-- one entry changes: another caller's, or this caller's
one_changes : (state : CoreState) (words : List ℕ) (k c r : ℕ) (new e : Entry) → slice_get state.entries c ≡ Some e → ((k ≡ c) → new.counts.restarts ≡ r) → ((k ≡ c → ⊥) → e.counts.restarts ≡ r)
    → Counted (record { words = words; entries = slice_set state.entries k new }) c r
one_changes state words k c r new e there own other = dite (ℕ_discrete k c)
    (λ (q : k ≡ c). (new, subst (λ (j : ℕ). slice_get (set state.entries k new) j ≡ Some new) q (got_same state.entries k new e (subst (λ (j : ℕ). slice_get state.entries j ≡ Some e) (sym q) there)), own q))
    (λ (n : k ≡ c → ⊥). (e, got_other state.entries k c new (λ z. n (sym z)) ∙ there, other n))

module _ (target : Target) (setting : Setting) (epochs : setting.reclamation ≡ Epochs) where
  abbrev most : ℕ
  most = 2 ^ 64 - 1

  -- what one event adds
  event_counts : (state mid : CoreState) (event : CoreEvent) (c k : ℕ) (e : Entry) → core_event target setting state event ≡ Some mid → slice_get state.entries c ≡ Some e → e.counts.restarts ≡ min k most
      → Counted mid c (min (k + event_restarts c state event) most)
  event_counts state mid (Takes d call) c k e goes there is = of (slice_get state.entries d) refl goes where
    by : (x : Entry) → slice_get state.entries d ≡ Some x → (b : Bool) → (if b then Some (record state { entries = slice_set state.entries d (taken setting.reclamation call x) }) else None) ≡ Some mid → Counted mid c (min (k + 0) most)
    by x at true became = subst (λ (s : CoreState). Counted s c (min (k + 0) most)) (some_is _ mid became)
        (one_changes state state.words d c (min (k + 0) most) (taken setting.reclamation call x) e there
        (λ q. (let same : x ≡ e = (let at' : slice_get state.entries c ≡ Some x = subst (λ (j : ℕ). slice_get state.entries j ≡ Some x) q at in cc) in ap (λ (y : Entry). y.counts.restarts) same ∙ none_more most k e.counts.restarts is))
        (λ n. none_more most k e.counts.restarts is))
    by x at false became = absurd (let no : None ≡ Some mid = became in cc)

    of : (o : Option Entry) → slice_get state.entries d ≡ o → event_by target setting state (Takes d call) o ≡ Some mid → Counted mid c (min (k + 0) most)
    of None at became = absurd (let no : None ≡ Some mid = became in cc)
    of (Some x) at became = by x at (is_idle x.routine && is_call target call) became
  event_counts state mid (Steps d) c k e goes there is = of (slice_get state.entries d) refl goes where
    more : (b : Bool) (r : ℕ) → r ≡ (if b then one_more e.counts.restarts else e.counts.restarts) → r ≡ min (k + (if b then 1 else 0)) most
    more true r at = at ∙ some_more most k e.counts.restarts is
    more false r at = at ∙ none_more most k e.counts.restarts is

    -- those of an event of the caller itself, and of another
    own : d ≡ c → event_restarts c state (Steps d) ≡ (if ends_swept e.routine then 1 else 0)
    own q = ap (λ (b : Bool). if b then entry_restarts (slice_get state.entries d) else 0) (eq-eqb d c q) ∙ ap entry_restarts (subst (λ (j : ℕ). slice_get state.entries j ≡ Some e) (sym q) there)

    other : (d ≡ c → ⊥) → event_restarts c state (Steps d) ≡ 0
    other n = ap (λ (b : Bool). if b then entry_restarts (slice_get state.entries d) else 0) (ne_eqb d c n)

    by : (x : Entry) → slice_get state.entries d ≡ Some x → (o : Option WordAccess) → stepped target setting state d x o ≡ Some mid → Counted mid c (min (k + event_restarts c state (Steps d)) most)
    by x at None became = absurd (let no : None ≡ Some mid = became in cc)
    by x at (Some a) became =
        let later = after target setting x (found_by setting state a) in
        subst (λ (s : CoreState). Counted s c (min (k + event_restarts c state (Steps d)) most)) (some_is _ mid became)
        (one_changes state (made setting state a) d c (min (k + event_restarts c state (Steps d)) most) later e there
        (λ q. (let same : x ≡ e = (let at' : slice_get state.entries c ≡ Some x = subst (λ (j : ℕ). slice_get state.entries j ≡ Some x) q at in cc) in
        let counts = (after_leaves target setting epochs x (found_by setting state a)).restarts in
        more (ends_swept e.routine) later.counts.restarts (counts ∙ ap (λ (y : Entry). if ends_swept y.routine then one_more y.counts.restarts else y.counts.restarts) same)
        ∙ ap (λ (n : ℕ). min (k + n) most) (sym (own q))))
        (λ n. none_more most k e.counts.restarts is ∙ ap (λ (m : ℕ). min (k + m) most) (sym (other n))))

    of : (o : Option Entry) → slice_get state.entries d ≡ o → event_by target setting state (Steps d) o ≡ Some mid → Counted mid c (min (k + event_restarts c state (Steps d)) most)
    of None at became = absurd (let no : None ≡ Some mid = became in cc)
    of (Some x) at became = by x at (wants target x) became

  counts_from : (events : List CoreEvent) (state later : CoreState) (c k : ℕ) (e : Entry) → core_run target setting events state ≡ Some later → slice_get state.entries c ≡ Some e → e.counts.restarts ≡ min k most
      → Counted later c (min (k + restarts_in target setting c events state) most)
  counts_from [] state later c k e runs there is = (e, subst (λ (s : CoreState). slice_get s.entries c ≡ Some e) (some_is state later runs) there, none_more most k e.counts.restarts is)
  counts_from (event ∷ events) state later c k e runs there is =
      of (λ mid d j r at counts. counts_from events mid later c j d r at counts) (core_event target setting state event) refl runs where
        of : ((mid : CoreState) (d : Entry) (j : ℕ) → core_run target setting events mid ≡ Some later → slice_get mid.entries c ≡ Some d → d.counts.restarts ≡ min j most → Counted later c (min (j + restarts_in target setting c events mid) most))
            → (o : Option CoreState) → core_event target setting state event ≡ o → run_on o (core_run target setting events) ≡ Some later
            → Counted later c (min (k + (event_restarts c state event + restarts_on o (restarts_in target setting c events))) most)
        of further None goes r = absurd (let no : None ≡ Some later = r in cc)
        of further (Some mid) goes r =
            let one = event_counts state mid event c k e goes there is in
            let all = further mid one.0 (k + event_restarts c state event) r one.1 one.2 in
            let sum : (k + event_restarts c state event) + restarts_in target setting c events mid ≡ k + (event_restarts c state event + restarts_in target setting c events mid) = omega arith in
            subst (λ (n : ℕ). Counted later c (min n most)) sum all

  run_counts : (events : List CoreEvent) (state : CoreState) (c : ℕ) (e : Entry) → core_run target setting events (core_start target setting) ≡ Some state → slice_get state.entries c ≡ Some e
      → e.counts.restarts ≡ min (restarts_in target setting c events (core_start target setting)) most
  run_counts events state c e runs there =
      let first = run_count target setting events (core_start target setting) state c e runs there in
      let lt = idle_within 0 setting.sizes.callers c first.0 first.1 in
      let idle = idle_there 0 setting.sizes.callers c lt in
      let last = counts_from events (core_start target setting) state c 0 (idle_entry (0 + c)) runs idle (omega arith) in
      let same : e ≡ last.0 = (let at = last.1 in cc) in
      let none : 0 + restarts_in target setting c events (core_start target setting) ≡ restarts_in target setting c events (core_start target setting) = omega arith in
      ap (λ (x : Entry). x.counts.restarts) same ∙ (last.2 ∙ ap (λ (n : ℕ). min n most) none)

pub restarts_are_counted : OfAll RestartsAreCounted
restarts_are_counted target setting = record {
  step = λ epochs e word. (after_leaves target setting epochs e word).restarts;
  comes = λ epochs e word. (let l = after_leaves target setting epochs e word in (λ to. l.there to, λ more. l.comes more));
  takes = λ e call. refl;
  run = λ epochs events state c e runs there. run_counts target setting epochs events state c e runs there;
}
