-- What a step under epochs makes of the calls that an entry has begun.
use Rattle.std.proofs.Common.{◌≡◌, ◌≤◌, ◌<◌, ℕ, Bool, true, false, List, [], ◌∷◌, ◌++◌, map, refl, sym, ap, ◌∙◌, subst, ⊎_elim, arith, if◌then◌else◌}
use Rattle.std.specs.Prelude.{nat_lt}
use Rattle.std.proofs.lemmas.Bool.Decides.{nat_tests}
use Rattle.std.proofs.lemmas.List.{append_assoc, append-nil, map-append}
use Rattle.norm_lang.specs.declared.reply.SourceReply.{SourceReply}
use Rattle.target_code.specs.declared.target.Target.{Target}
use Rattle.caller_parts.specs.declared.call.Call.{Call}
use Rattle.caller_parts.specs.declared.call.Replied.{Replied}
use Rattle.caller_parts.specs.declared.call.Running.{Running}
use Rattle.caller_parts.specs.declared.routine.AnnounceReason.{AnnounceReason}
use Rattle.caller_parts.specs.declared.routine.AnnounceReason.TheVariants as reasons
use Rattle.caller_parts.specs.declared.routine.Announcing.{Announcing}
use Rattle.caller_parts.specs.declared.routine.Announcing.TheVariants as announces
use Rattle.caller_parts.specs.declared.routine.MethodStart.TheVariants as starts
use Rattle.caller_parts.specs.declared.routine.Routine.{Routine}
use Rattle.caller_parts.specs.declared.routine.Routine.TheVariants.{Idle, LoadSeen, At, InList, Retires, Restarts, Clears, Claims, Zeroes, Announces}
use Rattle.caller_parts.specs.declared.setting.Reclamation.{Reclamation}
use Rattle.caller_parts.specs.declared.setting.Reclamation.TheVariants.{Epochs}
use Rattle.caller_parts.specs.Pairing.{replied_by}
use Rattle.caller_parts.specs.Settings.{Setting}
use Rattle.caller_steps.specs.Entries.{Entry, one_more, is_idle}
use Rattle.caller_steps.specs.After.{accepted, after, announced, counted, signs, taken}
use Rattle.core_runs.specs.Advances.{RunsOn, Ends}
use Rattle.core_runs.proofs.Turning.{after_turns}
use Rattle.oa_simulation.proofs.sim_relation.Schemes.{NeverAnnounces}
use Rattle.run_laws.specs.begin_laws.Begins.{call_replied}
use Rattle.run_laws.proofs.begin_laws.EventsBegun.{BeginsBy}
use Rattle.run_laws.proofs.begin_laws.SignsBegun.{begins_at, begun, waits, after_starts, generator_on}
use Rattle.epoch_runs.specs.Begins.{begun_with, started_of, started}

-- so many accesses were made for the call of a caller that stands there: none before the load of the phase with which it begins, one before
-- the store of its announcement, and two or more everywhere else
abbrev pub MadeAt : Routine → ℕ → Type 0
MadeAt Idle n = Unit {0}
MadeAt (LoadSeen starts.Begin) n = ⊥
MadeAt (LoadSeen starts.WrapUp) n = 2 ≤ n
MadeAt (LoadSeen starts.Again) n = 2 ≤ n
MadeAt At n = 2 ≤ n
MadeAt (InList k) n = 2 ≤ n
MadeAt (Retires retirement go) n = 2 ≤ n
MadeAt Restarts n = 2 ≤ n
MadeAt (Clears next) n = 2 ≤ n
MadeAt (Claims claim) n = 2 ≤ n
MadeAt (Zeroes k field) n = 2 ≤ n
MadeAt (Announces (announces.Loads reasons.Begin)) n = n ≡ 0
MadeAt (Announces (announces.Loads reasons.Again)) n = 2 ≤ n
MadeAt (Announces (announces.Loads reasons.Swept)) n = 2 ≤ n
MadeAt (Announces (announces.Stores reasons.Begin phase)) n = n ≡ 1
MadeAt (Announces (announces.Stores reasons.Again phase)) n = 2 ≤ n
MadeAt (Announces (announces.Stores reasons.Swept phase)) n = 2 ≤ n
MadeAt (Announces (announces.Leaves reply)) n = 2 ≤ n

abbrev pub Counts : Entry → Type 0
Counts e = MadeAt e.routine e.running.steps

-- ---- if a caller doesn't wait

-- whoever doesn't wait for its announcement has made two or more
past : (r : Routine) (n : ℕ) → waits Epochs r ≡ false → 2 ≤ n → MadeAt r n
past Idle n on le = tt
past (LoadSeen starts.Begin) n on le = absurd (let z : true ≡ false = on in cc)
past (Announces (announces.Loads reasons.Begin)) n on le = absurd (let z : true ≡ false = on in cc)
past (Announces (announces.Stores reasons.Begin phase)) n on le = absurd (let z : true ≡ false = on in cc)
past _ n on le = le

-- a count that is two or more stays so, and one that is one becomes two
grown : (n : ℕ) → 1 ≤ n → 2 ≤ one_more n
grown n le = grind (arith, nat_tests)

-- ---- one step, by where the caller stands

-- a step's entry stands where so many accesses were made, and it has begun what its signs begin
pub record Goes (target : Target) (setting : Setting) (e : Entry) (word : ℕ) : Type 0 where
  pub made : MadeAt (after target setting e word).routine (one_more e.running.steps)
  pub ends : is_idle (after target setting e word).routine ≡ true → 2 ≤ one_more e.running.steps
  pub begins : begun_with e.running.steps (e.running.call ∷ []) ++ begun (signs target setting e word) ≡ begun_with (one_more e.running.steps) (e.running.call ∷ [])

module _ (target : Target) (setting : Setting) (epochs : setting.reclamation ≡ Epochs) (e : Entry) (word : ℕ) where
  abbrev call : List Call
  call = e.running.call ∷ []

  signs_at : (r : Routine) → e.routine ≡ r → begun (signs target setting e word) ≡ (if begins_at r then call else [])
  signs_at r is = (after_starts target setting e word).0 ∙ ap (λ (routine : Routine). if begins_at routine then call else []) is

  -- elsewhere no call begins
  two : 2 ≤ e.running.steps → begun (signs target setting e word) ≡ [] → begun_with e.running.steps call ++ begun (signs target setting e word) ≡ begun_with (one_more e.running.steps) call
  two le none =
      let more = grown e.running.steps (omega (arith, le)) in
      let before : nat_lt 1 e.running.steps ≡ true = grind (arith, nat_tests) in
      let later : nat_lt 1 (one_more e.running.steps) ≡ true = (let lt : 1 < one_more e.running.steps = omega (arith, more) in grind (arith, nat_tests)) in
      ap (λ (l : List Call). begun_with e.running.steps call ++ l) none ∙ (append-nil (begun_with e.running.steps call) ∙ (ap (λ (b : Bool). if b then call else []) before ∙ sym (ap (λ (b : Bool). if b then call else []) later)))

  onward : (r : Routine) → e.routine ≡ r → NeverAnnounces r → begins_at r ≡ false → 2 ≤ e.running.steps → Goes target setting e word
  onward r is never none le = record {
    made = past (after target setting e word).routine (one_more e.running.steps)
        (sym (ap (λ (by : Reclamation). waits by (after target setting e word).routine) epochs) ∙ (after_starts target setting e word).1 (λ announcing at. never announcing (sym is ∙ at))) (grown e.running.steps (omega (arith, le)));
    ends = λ idle. grown e.running.steps (omega (arith, le));
    begins = two le (signs_at r is ∙ ap (λ (b : Bool). if b then call else []) none);
  }

  after_at : (announcing : Announcing) → e.routine ≡ Announces announcing → after target setting e word ≡ (announced target setting.sizes announcing word (counted e)).entry
  unfolding after
  after_at announcing is = ap (λ (r : Routine). (accepted setting.reclamation target setting word (counted e) r).entry) is

  -- the load of the phase
  loads : (why : AnnounceReason) → e.routine ≡ Announces (announces.Loads why) → (after target setting e word).routine ≡ Announces (announces.Stores why word)
  loads why is = ap (λ (later : Entry). later.routine) (after_at (announces.Loads why) is)

  not_idle : (announcing : Announcing) → (after target setting e word).routine ≡ Announces announcing → is_idle (after target setting e word).routine ≡ true → ⊥
  not_idle announcing at idle = let z : false ≡ true = sym (ap is_idle at) ∙ idle in cc

  -- with which a call begins
  loads_first : e.routine ≡ Announces (announces.Loads reasons.Begin) → e.running.steps ≡ 0 → Goes target setting e word
  loads_first is none = record {
    made = subst (λ (r : Routine). MadeAt r (one_more e.running.steps)) (sym (loads reasons.Begin is)) (ap one_more none);
    ends = λ idle. absurd (not_idle (announces.Stores reasons.Begin word) (loads reasons.Begin is) idle);
    begins = ap (λ (n : ℕ). begun_with n call ++ begun (signs target setting e word)) none ∙ (signs_at (Announces (announces.Loads reasons.Begin)) is ∙ sym (ap (λ (n : ℕ). begun_with (one_more n) call) none));
  }

  -- of another announcement
  loads_again : (why : AnnounceReason) → e.routine ≡ Announces (announces.Loads why) → MadeAt (Announces (announces.Stores why word)) (one_more e.running.steps) → 2 ≤ e.running.steps → Goes target setting e word
  loads_again why is made le = record {
    made = subst (λ (r : Routine). MadeAt r (one_more e.running.steps)) (sym (loads why is)) made;
    ends = λ idle. absurd (not_idle (announces.Stores why word) (loads why is) idle);
    begins = two le (signs_at (Announces (announces.Loads why)) is);
  }

  -- the store of an announcement, after which the generator runs
  stores_on : (why : AnnounceReason) (phase : ℕ) → e.routine ≡ Announces (announces.Stores why phase) → waits Epochs (after target setting e word).routine ≡ false
  stores_on why phase is = ap (λ (later : Entry). waits Epochs later.routine) (after_at (announces.Stores why phase) is) ∙ (generator_on target setting.sizes (counted e)).1

  stores_first : (phase : ℕ) → e.routine ≡ Announces (announces.Stores reasons.Begin phase) → e.running.steps ≡ 1 → Goes target setting e word
  stores_first phase is one =
      let more : 2 ≤ one_more e.running.steps = grown e.running.steps (omega (arith, one)) in
      let later : nat_lt 1 (one_more e.running.steps) ≡ true = (let lt : 1 < one_more e.running.steps = omega (arith, more) in grind (arith, nat_tests)) in
      record {
        made = past (after target setting e word).routine (one_more e.running.steps) (stores_on reasons.Begin phase is) more;
        ends = λ idle. more;
        begins = ap (λ (n : ℕ). begun_with n call ++ begun (signs target setting e word)) one ∙ (signs_at (Announces (announces.Stores reasons.Begin phase)) is ∙ sym (ap (λ (b : Bool). if b then call else []) later));
      }

  stores_again : (why : AnnounceReason) (phase : ℕ) → e.routine ≡ Announces (announces.Stores why phase) → begins_at (Announces (announces.Stores why phase)) ≡ false → 2 ≤ e.running.steps → Goes target setting e word
  stores_again why phase is none le = record {
    made = past (after target setting e word).routine (one_more e.running.steps) (stores_on why phase is) (grown e.running.steps (omega (arith, le)));
    ends = λ idle. grown e.running.steps (omega (arith, le));
    begins = two le (signs_at (Announces (announces.Stores why phase)) is ∙ ap (λ (b : Bool). if b then call else []) none);
  }

  -- the store that withdraws it
  leaves : (reply : SourceReply) → e.routine ≡ Announces (announces.Leaves reply) → 2 ≤ e.running.steps → Goes target setting e word
  leaves reply is le = record {
    made = subst (λ (r : Routine). MadeAt r (one_more e.running.steps)) (sym (ap (λ (later : Entry). later.routine) (after_at (announces.Leaves reply) is))) tt;
    ends = λ idle. grown e.running.steps (omega (arith, le));
    begins = two le (signs_at (Announces (announces.Leaves reply)) is);
  }

  announced_goes : (announcing : Announcing) → e.routine ≡ Announces announcing → MadeAt (Announces announcing) e.running.steps → Goes target setting e word
  announced_goes (announces.Loads reasons.Begin) is n = loads_first is n
  announced_goes (announces.Loads reasons.Again) is n = loads_again reasons.Again is (grown e.running.steps (omega (arith, n))) n
  announced_goes (announces.Loads reasons.Swept) is n = loads_again reasons.Swept is (grown e.running.steps (omega (arith, n))) n
  announced_goes (announces.Stores reasons.Begin phase) is n = stores_first phase is n
  announced_goes (announces.Stores reasons.Again phase) is n = stores_again reasons.Again phase is refl n
  announced_goes (announces.Stores reasons.Swept phase) is n = stores_again reasons.Swept phase is refl n
  announced_goes (announces.Leaves reply) is n = leaves reply is n

  goes_at : (r : Routine) → e.routine ≡ r → is_idle r ≡ false → MadeAt r e.running.steps → Goes target setting e word
  goes_at Idle is busy n = absurd (let z : true ≡ false = busy in cc)
  goes_at (LoadSeen starts.Begin) is busy n = absurd n
  goes_at (Announces announcing) is busy n = announced_goes announcing is n
  goes_at r is busy n = onward r is (λ announcing at. cc) refl n

-- ---- along a run

module _ (target : Target) (setting : Setting) (epochs : setting.reclamation ≡ Epochs) where
  goes : (e : Entry) (word : ℕ) → is_idle e.routine ≡ false → Counts e → Goes target setting e word
  goes e word busy counts = goes_at target setting epochs e word e.routine refl busy counts

  step_counts : (e : Entry) (word : ℕ) → is_idle e.routine ≡ false → Counts e → Counts (after target setting e word)
  step_counts e word busy counts =
      let later : Entry = after target setting e word in
      let running : later.running ≡ (counted e).running = ⊎_elim (λ (r : RunsOn (counted e) later). r.2) (λ (r : Ends (counted e) later). r.3) (after_turns target setting e word busy) in
      subst (λ (r : Running). MadeAt later.routine r.steps) (sym running) (goes e word busy counts).made

  -- what has begun after a step
  after_started : (e : Entry) (word : ℕ) → is_idle e.routine ≡ false → Goes target setting e word → started (after target setting e word) ≡ map call_replied e.replies ++ begun_with (one_more e.running.steps) (e.running.call ∷ [])
  after_started e word busy one =
      let later : Entry = after target setting e word in
      ⊎_elim
      (λ (t : RunsOn (counted e) later). ap (λ (b : Bool). map call_replied later.replies ++ started_of b later.running) t.0
      ∙ (ap (λ (l : List Replied). map call_replied l ++ started_of false later.running) t.1 ∙ ap (λ (r : Running). map call_replied e.replies ++ started_of false r) t.2))
      (λ (t : Ends (counted e) later).
      let more = one.ends t.1 in
      let made : nat_lt 1 (one_more e.running.steps) ≡ true = (let lt : 1 < one_more e.running.steps = omega (arith, more) in grind (arith, nat_tests)) in
      ap (λ (b : Bool). map call_replied later.replies ++ started_of b later.running) t.1
      ∙ (append-nil (map call_replied later.replies) ∙ (ap (map call_replied) t.2 ∙ (map-append call_replied e.replies (replied_by t.0 (counted e).running ∷ [])
      ∙ ap (λ (b : Bool). map call_replied e.replies ++ (if b then e.running.call ∷ [] else [])) (sym made)))))
      (after_turns target setting e word busy)

  step_started : (e : Entry) (word : ℕ) → is_idle e.routine ≡ false → Counts e → started (after target setting e word) ≡ started e ++ begun (signs target setting e word)
  step_started e word busy counts =
      let one = goes e word busy counts in
      let mine : List Call = begun_with e.running.steps (e.running.call ∷ []) in
      after_started e word busy one
      ∙ (ap (λ (l : List Call). map call_replied e.replies ++ l) (sym one.begins)
      ∙ (sym (append_assoc (map call_replied e.replies) mine (begun (signs target setting e word)))
      ∙ ap (λ (i : Bool). (map call_replied e.replies ++ started_of i e.running) ++ begun (signs target setting e word)) (sym busy)))

  -- a caller that takes a call has begun nothing by that
  take_counts : (e : Entry) (call : Call) → Counts (taken setting.reclamation call e)
  take_counts e call = subst (λ (by : Reclamation). Counts (taken by call e)) (sym epochs) refl

  take_started : (e : Entry) (call : Call) → is_idle e.routine ≡ true → started (taken setting.reclamation call e) ≡ started e
  take_started e call idle = ap (λ (by : Reclamation). started (taken by call e)) epochs ∙ sym (ap (λ (i : Bool). map call_replied e.replies ++ started_of i e.running) idle)

  pub begins_by : BeginsBy target setting Counts started
  begins_by = record {
    steps_known = step_counts;
    steps_started = step_started;
    takes_known = λ e call idle. take_counts e call;
    takes_started = take_started;
    first_known = λ c. tt;
    first_started = λ c. refl;
  }
