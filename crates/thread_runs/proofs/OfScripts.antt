-- A whole run of scripts is a complete core run of them.
use Rattle.std.proofs.Common.{◌≡◌, ◌≤◌, ◌<◌, ◌+◌, ◌^◌, ℕ, zero, suc, Bool, true, false, List, [], ◌∷◌, ◌++◌, map, length, Some, None, refl, sym, ap, ◌∙◌, subst, ⊎_elim, arith, append_assoc}
use Rattle.std.specs.Prelude.{slice_get, All}
use Rattle.std.proofs.lemmas.List.{map-append, append-nil}
use Rattle.caller_parts.specs.declared.call.Call.{Call}
use Rattle.caller_parts.specs.declared.call.Running.{Running}
use Rattle.caller_parts.specs.Pairing.{run_of, replied_by}
use Rattle.caller_steps.specs.Entries.{Entry, RoomyEntry, idle_entry, one_more, is_idle}
use Rattle.caller_steps.specs.After.{taken}
use Rattle.core_runs.specs.Machine.{CoreState}
use Rattle.core_runs.specs.Advances.{Stays, Stops, counted_on}
use Rattle.core_runs.specs.Histories.{running_of, calls_of, calls_in}
use Rattle.core_runs.specs.Scripts.{script_of, AreOfScript, HasEnded, IsCompleteRun}
use Rattle.core_runs.proofs.Advancing.{runs_end}
use Rattle.core_runs.proofs.Keeping.{kept_calls, first_busy}
use Rattle.core_runs.specs.core_sound.Sound.{IsSound}
use Rattle.word_runner.specs.table_rule.Seen.{Fixed}
use Rattle.word_runner.specs.table_rule.Rule.{IsReached}
use Rattle.word_runner.specs.table_rule.Seats.{cores}
use Rattle.word_runner.specs.Shown.{Operated}
use Rattle.thread_runs.specs.Scripts.{Took, Ended}
use Rattle.thread_runs.specs.Whole.{AllEnded}

counted_exact : (n : ℕ) (ws : List ℕ) → n + length ws < 2 ^ 64 → counted_on n ws ≡ n + length ws
counted_exact n [] lt = omega arith
counted_exact n (w ∷ ws) lt =
    let one : one_more n ≡ n + 1 = omega (arith, lt) in
    ap (λ (k : ℕ). counted_on k ws) one ∙ (counted_exact (n + 1) ws (omega (arith, lt)) ∙ omega arith)

-- a call with so many steps
abbrev one_of : Call → ℕ → List Running
one_of call steps = record { call = call; steps = steps } ∷ []

-- one call
one_call : (key : Fixed) (e mid : Entry) (call : Call) (fuel accesses : ℕ) → is_idle e.routine ≡ true → (o : Operated key (taken key.setting.reclamation call e) fuel mid accesses) → calls_of mid ≡ calls_of e ++ one_of call (counted_on 0 o.words)
one_call key e mid call fuel accesses idle o =
    let kept : List Running = map run_of e.replies in
    let one : List Running = one_of call (counted_on 0 o.words) in
    let before : calls_of e ++ one ≡ kept ++ one = ap (λ (b : Bool). (kept ++ running_of b e) ++ one) idle ∙ ap (λ (l : List Running). l ++ one) (append-nil kept) in
    ⊎_elim
    (λ (t : Stays (taken key.setting.reclamation call e) o.words mid). (λ i. map run_of (t.replies i) ++ running_of (t.busy i) mid) ∙ ((λ i. kept ++ t.running i ∷ []) ∙ sym before))
    (λ (t : Stops (taken key.setting.reclamation call e) o.words mid). (λ i. map run_of (t.replies i) ++ running_of (t.idle i) mid)
    ∙ (append-nil (map run_of (e.replies ++ replied_by t.reply mid.running ∷ []))
    ∙ (map-append run_of e.replies (replied_by t.reply mid.running ∷ []) ∙ ((λ i. kept ++ t.running i ∷ []) ∙ sym before))))
    ((runs_end key.target.target key.setting).all (taken key.setting.reclamation call e) mid o.words (first_busy key.setting.reclamation) o.advances)

-- the calls that were added
record Added (fuel : ℕ) (script : List Call) (e e' : Entry) : Type 0 where
  pub calls : List Running
  pub is : calls_of e' ≡ calls_of e ++ calls
  pub of : AreOfScript fuel script calls
  pub ended : HasEnded fuel script calls (is_idle e'.routine)

-- one call more, before others
ended_more : (fuel : ℕ) (call : Call) (script : List Call) (x : Running) (calls : List Running) (b : Bool) → 0 < fuel → HasEnded fuel script calls b → HasEnded fuel (call ∷ script) (x ∷ calls) b
ended_more fuel call script x calls true some h = ap suc h
ended_more fuel call script x [] false some h = absurd (let none : 0 ≡ fuel = h in omega (arith, none, some))
ended_more fuel call script x (y ∷ calls) false some h = h

added : (key : Fixed) (fuel : ℕ) (script : List Call) (e e' : Entry) → 0 < fuel → fuel < 2 ^ 64 → is_idle e.routine ≡ true → Took key script fuel e e' → Added fuel script e e'
added key fuel [] e e' some lt idle took = record {
  calls = [];
  is = ap calls_of took ∙ sym (append-nil (calls_of e));
  of = tt;
  ended = subst (λ (b : Bool). HasEnded fuel [] [] b) (sym (ap (λ (x : Entry). is_idle x.routine) took ∙ idle)) refl;
}
added key fuel (call ∷ script) e e' some lt idle took =
    let mid : Entry = took.0 in
    let o : Operated key (taken key.setting.reclamation call e) fuel mid took.1 = took.2 in
    let few : length o.words ≤ fuel = let each = o.each in let most = o.few in omega arith in
    let exact : counted_on 0 o.words ≡ 0 + length o.words = counted_exact 0 o.words (omega (arith, few, lt)) in
    let bound : counted_on 0 o.words ≤ fuel = omega (arith, exact, few) in
    let one = one_call key e mid call fuel took.1 idle o in
    let first : Running = record { call = call; steps = counted_on 0 o.words } in
    ⊎_elim
    (λ (t : (is_idle mid.routine ≡ false) × (e' ≡ mid)).
    let all : length o.words ≡ fuel = o.each ∙ o.whole t.0 in
    let last : counted_on 0 o.words ≡ fuel = omega (arith, exact, all) in
    let it : Added fuel (call ∷ script) e e' = record {
      calls = first ∷ [];
      is = ap calls_of t.1 ∙ one;
      of = (refl, bound, tt);
      ended = subst (λ (b : Bool). HasEnded fuel (call ∷ script) (first ∷ []) b) (sym (ap (λ (x : Entry). is_idle x.routine) t.1 ∙ t.0)) last;
    } in it)
    (λ (t : (is_idle mid.routine ≡ true) × Took key script fuel mid e').
    let more = added key fuel script mid e' some lt t.0 t.1 in
    let it : Added fuel (call ∷ script) e e' = record {
      calls = first ∷ more.calls;
      is = more.is ∙ (ap (λ (l : List Running). l ++ more.calls) one ∙ append_assoc (calls_of e) (first ∷ []) more.calls);
      of = (refl, bound, more.of);
      ended = ended_more fuel call script first more.calls (is_idle e'.routine) some more.ended;
    } in it)
    took.3

-- the entry of a caller, among those that were closed
core_at : (P : RoomyEntry → Type 0) (Q : Entry → Type 0) → ((r : RoomyEntry) → P r → Q r.core) → (rs : List RoomyEntry) (c : ℕ) (e : Entry) → All P rs → slice_get (cores rs) c ≡ Some e → Q e
core_at P Q of [] c e all at = absurd (let z : None ≡ Some e = at in cc)
core_at P Q of (r ∷ rs) zero e all at = let same : r.core ≡ e = cc in subst Q same (of r (all 0 r (omega arith)))
core_at P Q of (r ∷ rs) (suc c) e all at = core_at P Q of rs c e (λ k d lt. all (suc k) d (omega arith)) at

entry_there : (es : List Entry) (c : ℕ) → c < length es → (e : Entry) × (slice_get es c ≡ Some e)
entry_there [] c lt = absurd (omega (arith, lt))
entry_there (e ∷ es) zero lt = (e, refl)
entry_there (e ∷ es) (suc c) lt = entry_there es c (omega (arith, lt))

-- what each caller did, in the run's own events
module _ (key : Fixed) (scripts : List (List Call)) (fuel : ℕ) (entries : List RoomyEntry) (core : CoreState) (reached : IsReached key core) (is : cores entries ≡ core.entries)
    (whole : IsSound key.target.target key.setting core) (some : 0 < fuel) (lt : fuel < 2 ^ 64) (all : AllEnded key scripts fuel entries) where
  -- the calls of the entry's own script were taken from the start
  abbrev OwnTook : Entry → Type 0
  OwnTook e = Took key (script_of scripts e.number) fuel (idle_entry e.number) e

  did : (c : ℕ) (e : Entry) → slice_get core.entries c ≡ Some e → AreOfScript fuel (script_of scripts c) (calls_in c reached.events) × HasEnded fuel (script_of scripts c) (calls_in c reached.events) (is_idle e.routine)
  did c e at =
      let there : slice_get (cores entries) c ≡ Some e = ap (λ (es : List Entry). slice_get es c) is ∙ at in
      let took : OwnTook e = core_at (Ended key scripts fuel) OwnTook (λ r h. h.took) entries c e all there in
      let number : e.number ≡ c = (whole.belong c e at).1 in
      let run = added key fuel (script_of scripts e.number) (idle_entry e.number) e some lt refl took in
      let kept : calls_of e ≡ calls_in c reached.events = kept_calls key.target.target key.setting reached.events core c e reached.runs at in
      let calls : run.calls ≡ calls_in c reached.events = sym run.is ∙ kept in
      subst (λ (k : ℕ). AreOfScript fuel (script_of scripts k) (calls_in c reached.events) × HasEnded fuel (script_of scripts k) (calls_in c reached.events) (is_idle e.routine)) number
      (subst (λ (l : List Running). AreOfScript fuel (script_of scripts e.number) l × HasEnded fuel (script_of scripts e.number) l (is_idle e.routine)) calls (run.of, run.ended))

  pub is_complete : IsCompleteRun key.target.target key.setting scripts fuel reached.events core
  is_complete = record {
    run = record {
      runs = reached.runs;
      of = λ c below. (let e = entry_there core.entries c (let n = whole.callers in omega (arith, below, n)) in (did c e.0 e.1).0);
    };
    ended = λ c e at. (did c e at).1;
  }
