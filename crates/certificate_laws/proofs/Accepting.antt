-- The judge accepts the image of each complete run of scripts of a proper text.
use Rattle.std.proofs.Common.{◌≡◌, ◌≤◌, ◌<◌, ℕ, ◌+◌, ◌⊎◌, inl, inr, Bool, true, false, List, length, get_or, Option, Some, None, refl, sym, ap, ◌∙◌, subst, arith}
use Rattle.std.proofs.lemmas.List.{length-map, length-replicate}
use Rattle.std.proofs.lemmas.Option.{slice_get-map, slice_get_past, slice_get_cases}
use Rattle.std.specs.Prelude.{slice_get, option_map, replicate, is_none, unwrap_or}
use Rattle.target_laws.specs.target_runs.Runnable.{MayBeWalked}
use Rattle.source_machine.specs.declared.event.SourceEvent.{SourceEvent}
use Rattle.norm_lang.specs.declared.reply.SourceReply.{SourceReply}
use Rattle.source_machine.specs.declared.state.SourceCaller.{SourceCaller}
use Rattle.source_machine.specs.declared.state.SourceMachine.{SourceMachine}
use Rattle.source_machine.specs.State.{idle_caller, source_start}
use Rattle.source_machine.specs.Run.{IsSourceRun, source_replies}
use Rattle.source_machine.specs.Proper.{IsProperFor}
use Rattle.documents.specs.declared.document.ScriptCall.{ScriptCall}
use Rattle.caller_parts.specs.declared.call.Call.{Call}
use Rattle.caller_parts.specs.declared.routine.Routine.{Routine}
use Rattle.caller_parts.specs.declared.routine.Routine.TheVariants.{Idle}
use Rattle.caller_parts.specs.Settings.{Setting, Fits, IsSetting}
use Rattle.caller_steps.specs.Entries.{Entry, idle_entry, is_idle as rests}
use Rattle.core_runs.specs.Machine.{CoreState, CoreEvent}
use Rattle.core_runs.specs.Scripts.{IsCompleteRun}
use Rattle.barrier_check.specs.Paired.{Paired, IsSound}
use Rattle.oa_simulation.specs.sim_relation.Views.{Plan, Shared, Caller}
use Rattle.oa_simulation.specs.sim_relation.Callers.{HoldsAt, CallerHolds, replies_of}
use Rattle.oa_simulation.specs.Shadow.{shadow, image}
use Rattle.oa_simulation.specs.Statements.{AgreesWith}
use Rattle.oa_simulation.proofs.Lifting.{machine_is}
use Rattle.oa_simulation.proofs.Refining.{Stood, stands, plan_of, refines}
use Rattle.event_judge.specs.declared.verdict.Verdict.TheVariants.{Accepted}
use Rattle.event_judge.specs.Calls.{listed, script_of as lines_of}
use Rattle.event_judge.specs.Judging.{is_idle, verdict_on}
use Rattle.event_judge.specs.JudgingLaws.{calls_begun, are_first_calls, Agrees, AgreesAfter, IsTrueRun}
use Rattle.event_judge.proofs.Verdicts.{accepted_is_true}
use Rattle.certificate_laws.specs.Certified.{replies_in, Spell, RunsAreAccepted}
use Rattle.certificate_laws.proofs.Beginning.{begins_first, idle_count, busy_count, none_begun}
use Rattle.caller_parts.specs.declared.setting.Reclamation.TheVariants.{Optimistic}

-- ---- one caller

rests_by : (r : Routine) → rests r ≡ true → r ≡ Idle
rests_by Idle is = refl
rests_by _ is = absurd (let no : false ≡ true = is in cc)

-- a caller that rests is idle in the source
source_rests : (t : Plan) (s : Shared) (d : ℕ) (x : Caller) → CallerHolds t s d x → x.entry.routine ≡ Idle → is_none x.source.running ≡ true
source_rests t s d x holds at =
    let spot : HoldsAt t s d x Idle = subst (λ (r : Routine). HoldsAt t s d x r) at holds.spot in
    ap (λ (caller : SourceCaller). is_none caller.running) spot.2

none_later : (n c : ℕ) → n ≤ c → slice_get (replicate n idle_caller) c ≡ None
none_later n c past = slice_get_past (replicate n idle_caller) c (let count = length-replicate n idle_caller in omega (arith, count, past))

module _ (pair : Paired) (setting : Setting) (sound : IsSound pair) (own : IsSetting setting) (fits : Fits pair.target setting) (optimistic : setting.reclamation ≡ Optimistic) (proper : IsProperFor setting.sizes.callers pair.source)
    (lines : List (List ScriptCall)) (scripts : List (List Call)) (fuel : ℕ) (events : List CoreEvent) (state : CoreState) (some : 1 ≤ fuel) (count : length lines ≡ setting.sizes.callers)
    (spelled : Spell pair.source.ops lines scripts) (complete : IsCompleteRun pair.target setting scripts fuel events state) where
  abbrev events_of : List SourceEvent
  events_of = image pair.target pair.source setting events

  abbrev machine : SourceMachine
  machine = (shadow pair.target pair.source setting events).machine

  may : MayBeWalked pair.target pair.source
  may = record { small = sound.small; normal = sound.normal; within = sound.within; erases = sound.barred.erases }

  stood : Stood pair.target pair.source setting events state
  stood = stands pair.target pair.source setting events state may sound.barred own fits optimistic proper complete.run.runs

  source : IsSourceRun pair.source setting.sizes.callers events_of machine
  source = stood.beside.sourced.run

  entries_count : length state.entries ≡ setting.sizes.callers
  entries_count = stood.sound.callers

  -- ---- the calls

  order_at : (c : ℕ) → are_first_calls pair.source.ops (calls_begun c events_of) (lines_of lines c) ≡ true
  order_at c = of (slice_get_cases state.entries c).1 where
    of : ((e : Entry) × (c < length state.entries) × (slice_get state.entries c ≡ Some e) × (get_or state.entries c e ≡ e)) ⊎ ((length state.entries ≤ c) × (slice_get state.entries c ≡ None))
        → are_first_calls pair.source.ops (calls_begun c events_of) (lines_of lines c) ≡ true
    of (inl t) = begins_first pair.target pair.source setting optimistic scripts fuel events state some complete c t.0 t.2 pair.source.ops (lines_of lines c) (spelled c)
    of (inr t) =
        let past = t.0 in
        let many = entries_count in
        let none : slice_get (source_start pair.source setting.sizes.callers).callers c ≡ None = none_later setting.sizes.callers c (omega (arith, past, many)) in
        ap (λ l. are_first_calls pair.source.ops l (lines_of lines c)) (none_begun pair.source c events_of (source_start pair.source setting.sizes.callers) machine none source.runs)

  -- ---- the replies

  machine_caller : (c : ℕ) → c < setting.sizes.callers → slice_get machine.callers c ≡ Some (stood.beside.w.who c).source
  machine_caller c lt = ap (λ (m : SourceMachine). slice_get m.callers c) (sym (machine_is pair.source setting.sizes.callers (shadow pair.target pair.source setting events) stood.beside.v stood.beside.sourced)) ∙ stood.beside.caller c lt

  entry_is : (c : ℕ) (e : Entry) → c < setting.sizes.callers → slice_get state.entries c ≡ Some e → (stood.beside.w.who c).entry ≡ e
  entry_is c e lt there = stood.beside.entry c lt ∙ ap (λ (o : Option Entry). unwrap_or o (idle_entry c)) there

  idle_at : (c : ℕ) (e : Entry) → c < setting.sizes.callers → slice_get state.entries c ≡ Some e → rests e.routine ≡ true → is_idle (slice_get machine.callers c) ≡ true
  idle_at c e lt there idle = ap is_idle (machine_caller c lt)
      ∙ source_rests (plan_of pair.target pair.source setting events) stood.beside.w.shared c (stood.beside.w.who c) (stood.beside.holds.caller_holds c lt)
      (ap (λ (e : Entry). e.routine) (entry_is c e lt there) ∙ rests_by e.routine idle)

  replies_count : (e : Entry) → length (replies_of e) ≡ length e.replies
  replies_count e = length-map e.replies _

  agrees_by : (c : ℕ) (e : Entry) → c < setting.sizes.callers → slice_get state.entries c ≡ Some e → (b : Bool) → rests e.routine ≡ b → AgreesWith b (replies_of e) (source_replies machine c)
      → Agrees (length (calls_begun c events_of)) (is_idle (slice_get machine.callers c)) (source_replies machine c) (replies_of e)
  agrees_by c e lt there true idle same = inl (record {
    counted = idle_count pair.target pair.source setting optimistic scripts fuel events state some complete c e there idle ∙ sym (replies_count e);
    is_idle = idle_at c e lt there idle;
    same = same;
  })
  agrees_by c e lt there false busy same = inr (record {
    counted = busy_count pair.target pair.source setting optimistic scripts fuel events state some complete c e there busy ∙ ap (λ (n : ℕ). n + 1) (sym (replies_count e));
    same = same;
  })

  agrees_at : (c : ℕ) (e : Entry) → c < setting.sizes.callers → slice_get state.entries c ≡ Some e → AgreesAfter events_of machine (replies_in state) c
  agrees_at c e lt there =
      subst (λ (l : List SourceReply). Agrees (length (calls_begun c events_of)) (is_idle (slice_get machine.callers c)) (source_replies machine c) l)
      (sym (ap listed (slice_get-map replies_of state.entries c ∙ ap (option_map replies_of) there)))
      (agrees_by c e lt there (rests e.routine) refl ((refines pair.target pair.source setting events state may sound.barred own fits optimistic proper complete.run.runs).agrees c e there))

  agree : (c : ℕ) → c < length lines → AgreesAfter events_of machine (replies_in state) c
  agree c below = of (slice_get_cases state.entries c).1 where
    of : ((e : Entry) × (c < length state.entries) × (slice_get state.entries c ≡ Some e) × (get_or state.entries c e ≡ e)) ⊎ ((length state.entries ≤ c) × (slice_get state.entries c ≡ None))
        → AgreesAfter events_of machine (replies_in state) c
    of (inl t) = agrees_at c t.0 (let many = count in omega (arith, below, many)) t.2
    of (inr t) = let past = t.0 in let many = entries_count in let here = count in absurd (omega (arith, below, past, many, here))

  is_true : IsTrueRun pair.source lines events_of (replies_in state)
  is_true = record {
    state = machine;
    is_run = record { run = subst (λ (n : ℕ). IsSourceRun pair.source n events_of machine) (sym count) source; order = order_at };
    agree = agree;
  }

  pub accepted : verdict_on pair.source lines events_of (replies_in state) ≡ Accepted
  accepted =
      let first = source.some in
      let many = count in
      let entries = entries_count in
      let claims : length (replies_in state) ≡ length lines = (let same = length-map state.entries replies_of in omega (arith, same, many, entries)) in
      (accepted_is_true pair.source lines events_of (replies_in state) (omega (arith, first, many)) claims).1 is_true

pub are_accepted : (pair : Paired) (setting : Setting) → IsSound pair → IsSetting setting → Fits pair.target setting → setting.reclamation ≡ Optimistic → RunsAreAccepted pair.target pair.source setting
are_accepted pair setting sound own fits optimistic proper lines scripts fuel events state some count spelled complete =
    accepted pair setting sound own fits optimistic proper lines scripts fuel events state some count spelled complete
