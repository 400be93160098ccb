-- What an event can break of a proper state.
use Rattle.std.proofs.Common.{ℕ, zero, suc, ◌≡◌, ◌≢◌, ◌==◌, ◌||◌, ◌&&◌, ◌∙◌, ◌++◌, not, Bool, true, false, List, [], ◌∷◌, length, take, set, Option, Some, None, sym, ap, refl, subst, inl, inr, ⊎_elim, arith}
use Rattle.std.specs.Prelude.{slice_get}
use Rattle.std.proofs.lemmas.Bool.{cases_eq, cases_Bool, or_left, or_right, not-false}
use Rattle.std.proofs.lemmas.Bool.Decides.{nat_tests}
use Rattle.std.proofs.lemmas.List.{length-set}
use Rattle.norm_lang.specs.declared.text.Text.{Text}
use Rattle.source_machine.specs.declared.event.SourceEvent.{SourceEvent}
use Rattle.source_machine.specs.declared.plan.Change.{Change}
use Rattle.source_machine.specs.declared.plan.Change.TheVariants.{Nothing, Makes, Writes}
use Rattle.source_machine.specs.declared.state.Memory.{Memory}
use Rattle.source_machine.specs.declared.state.SourceCaller.{SourceCaller}
use Rattle.source_machine.specs.declared.state.SourceMachine.{SourceMachine}
use Rattle.source_machine.specs.Plans.{changed}
use Rattle.source_machine.specs.Run.{mover, is_enabled, is_enabled_for, source_step, step_of}
use Rattle.source_machine.specs.MethodRuns.{MethodRun, put, run_at, watched_step}
use Rattle.source_machine.specs.Proper.{has, IsOnce, Reaches, runs_method, IsProperState}
use Rattle.source_machine.proofs.Later.{others_stay}
use Rattle.source_machine.proofs.Names.{has_take, untrue}
use Rattle.source_machine.proofs.Places.{put_same, put_other, same_test}
use Rattle.source_machine.proofs.Planning.{turn_is_planned}
use Rattle.proper_judge.specs.declared.runs.KeptRun.{KeptRun}
use Rattle.proper_judge.specs.declared.breach.Breach.{Breach}
use Rattle.proper_judge.specs.declared.breach.Breach.TheVariants.{Twice, Root, Got}
use Rattle.proper_judge.specs.declared.event.Kept.{Kept}
use Rattle.proper_judge.specs.declared.event.Effect.{Effect}
use Rattle.proper_judge.specs.Numbers.{numbering, AreRetirements, is_among, is_second, with_retirement}
use Rattle.proper_judge.specs.Reach.{ReachedFrom, IsFine, Found, targets, without}
use Rattle.proper_judge.specs.Changes.{planned_change, is_field_change, retired_by, field_targets, root_targets, written_targets, IsFineIf, needs_roots, needs_runs}
use Rattle.proper_judge.specs.Runs.{HoldsRun, HoldsOf, HoldsRuns, gain_at, stand_of, run_gained, IsGained, FollowsOne, FollowsAt}
use Rattle.proper_judge.specs.Breaches.{RootsTold, FoundIf, FoundOf, ShowsGot, AddedTold, MovedIf, MovedTold, RunsTold, IsTold, IsRootBreach, IsGotBreach, AreRootsKept, Shown}
use Rattle.proper_judge.specs.Events.{Keeps, IsEffect, doubts_of, Settles}
use Rattle.proper_judge.proofs.Numbering.{after_retirement, among_is, all_among, retirements_go, once_after, twice_after}
use Rattle.proper_judge.proofs.Reaching.{at_target, target_at, has_both, has_kept, has_gone, one_has}
use Rattle.proper_judge.proofs.Linking.{change_retires, change_edges, change_roots, fine_on}
use Rattle.proper_judge.proofs.Gaining.{moved, has_caller, IsGrown, grown_at, all_after, follow_holds, has_added}

-- ---- fine names

fine_less : (memory : Memory) (from : List ℕ) (bad bad' : ℕ → Bool) → IsFine memory from bad → ((n : ℕ) → bad' n ≡ true → bad n ≡ true) → IsFine memory from bad'
fine_less memory from bad bad' fine less start name e reaches = ⊎_elim
    (λ (k : bad' name ≡ true). absurd (untrue (bad name) (fine start name e reaches) (less name k)))
    (λ (k : bad' name ≡ false). k)
    (cases_Bool (bad' name))

fine_same : (memory : Memory) (from : List ℕ) (bad bad' : ℕ → Bool) → IsFine memory from bad → ((n : ℕ) → bad' n ≡ bad n) → IsFine memory from bad'
fine_same memory from bad bad' fine same start name e reaches = same name ∙ fine start name e reaches

fine_part : (memory : Memory) (from from' : List ℕ) (bad : ℕ → Bool) → IsFine memory from bad → ((n : ℕ) → has n from' ≡ true → has n from ≡ true) → IsFine memory from' bad
fine_part memory from from' bad fine part start name e reaches = fine start name (part start e) reaches

fine_none : (memory : Memory) (bad : ℕ → Bool) → IsFine memory [] bad
fine_none memory bad start name e reaches = absurd (untrue false refl e)

has_first : (n : ℕ) (ns ms : List ℕ) → has n ns ≡ true → has n (ns ++ ms) ≡ true
has_first n ns ms e = has_both n ns ms ∙ or_left (has n ns) (has n ms) e

has_second : (n : ℕ) (ns ms : List ℕ) → has n ms ≡ true → has n (ns ++ ms) ≡ true
has_second n ns ms e = has_both n ns ms ∙ or_right (has n ns) (has n ms) e

-- ---- doubts

calm_parts : (calm : Bool) (name : ℕ) → not calm || not (name == 0) ≡ false → (calm ≡ true) × (name ≡ 0)
calm_parts true name e = (refl, grind (arith, nat_tests, not-false (name == 0) e))
calm_parts false name e = absurd (let z : true ≡ false = e in cc)

-- a change that is no field's makes no reference in one
no_field : (change : Change) → is_field_change change ≡ false → field_targets change ≡ []
no_field Nothing e = refl
no_field (Makes name kind) e = absurd (let z : true ≡ false = e in cc)
no_field (Writes w) e = ap (λ b. written_targets b w.value) e

has_item : {A B : Type 0} (xs : List A) (ys : List B) (c : ℕ) (x : A) → length ys ≡ length xs → slice_get xs c ≡ Some x → (y : B) × (slice_get ys c ≡ Some y)
has_item [] ys c x l e = absurd (let z : None ≡ Some x = e in cc)
has_item (x' ∷ xs) [] c x l e = absurd (let z : 0 ≡ suc (length xs) = l in let no : ⊥ = omega (arith, z) in no)
has_item (x' ∷ xs) (y ∷ ys) zero x l e = (y, refl)
has_item (x' ∷ xs) (y ∷ ys) (suc c) x l e = has_item xs ys c x (let z : suc (length ys) ≡ suc (length xs) = l in let same : length ys ≡ length xs = omega (arith, z) in same) e

-- ---- an event

module _ (text : Text) (event : SourceEvent) (old new : SourceMachine) (kept kept' : Kept) (effect : Effect) (found : Option Breach)
    (enabled : is_enabled text old event ≡ true) (stepped : new ≡ source_step text old event) (as_many : length new.callers ≡ length old.callers)
    (e : IsEffect text event old (numbering kept.retirements) effect) (s : Settles new (mover event) effect kept kept' found)
    (runs : ℕ → MethodRun) (k : Keeps old kept runs) (proper : IsProperState old runs) where
  abbrev pub caller : SourceCaller
  caller = (has_caller text old event enabled).0

  at : slice_get old.callers (mover event) ≡ Some caller
  at = (has_caller text old event enabled).1

  abbrev pub runs' : ℕ → MethodRun
  runs' = (watched_step text (record { machine = old; runs = runs }) event).runs

  abbrev pub gone : List ℕ
  gone = old.memory.retired

  abbrev pub gone' : List ℕ
  gone' = new.memory.retired

  memory_is : new.memory ≡ changed text effect.change old.memory
  memory_is =
      ap (λ (m : SourceMachine). m.memory) (stepped ∙ ap (λ o. step_of text event o old) at)
      ∙ (ap (λ t. t.memory) (turn_is_planned text event old.memory caller (sym (ap (λ o. is_enabled_for text event o old.memory) at) ∙ enabled))
      ∙ ap (λ c. changed text c old.memory) (sym (e.change ∙ ap (planned_change text event old.memory) at)))

  retired_is : gone' ≡ after_retirement (retired_by effect.change) gone
  retired_is = ap (λ (m : Memory). m.retired) memory_is ∙ change_retires text effect.change old.memory

  retirements : AreRetirements (numbering kept'.retirements) gone'
  retirements =
      subst (AreRetirements (numbering kept'.retirements)) (sym retired_is)
      (retirements_go (numbering kept.retirements) (numbering kept'.retirements) gone (retired_by effect.change) k.retirements
      (subst (λ l. (n : ℕ) → (numbering kept'.retirements) n ≡ with_retirement (numbering kept.retirements) (retired_by effect.change) (length l) n) retired_is s.numbers))

  old_item : (kept_run : KeptRun) × (slice_get kept.runs.items (mover event) ≡ Some kept_run)
  old_item = has_item old.callers kept.runs.items (mover event) caller k.many at

  follows : FollowsOne effect.gain new (mover event) kept.runs.items kept'.runs.items old_item.0 s.added
  follows = subst (λ o. FollowsAt effect.gain new (mover event) kept.runs.items kept'.runs.items o s.added) old_item.1 s.follows

  holds_old : HoldsRuns gone' kept.runs.items runs
  holds_old = subst (λ l. HoldsRuns l kept.runs.items runs) (sym retired_is) (all_after (retired_by effect.change) gone kept.runs.items runs k.holds)

  -- the runs after the event
  holds_new : HoldsRuns gone' kept'.runs.items (put runs (mover event) (run_gained effect.gain new.memory (stand_of (slice_get new.callers (mover event))) (runs (mover event))))
  holds_new = follow_holds effect.gain new (mover event) kept.runs.items kept'.runs.items old_item.0 s.added runs holds_old old_item.1 follows

  moved_is : runs' (mover event) ≡ run_gained effect.gain new.memory (stand_of (slice_get new.callers (mover event))) (runs (mover event))
  moved_is =
      put_same runs (mover event) (run_at text event old.memory (slice_get old.callers (mover event)) (runs (mover event)))
      ∙ (moved text old event (runs (mover event)) caller at
      ∙ (ap (λ g. run_gained g (source_step text old event).memory (stand_of (slice_get (source_step text old event).callers (mover event))) (runs (mover event))) (sym e.gain)
      ∙ ap (λ (m : SourceMachine). run_gained effect.gain m.memory (stand_of (slice_get m.callers (mover event))) (runs (mover event))) (sym stepped)))

  holds : HoldsRuns gone' kept'.runs.items runs'
  holds c = ⊎_elim
      (λ (t : c ≡ mover event).
      subst (λ r. HoldsOf gone' (slice_get kept'.runs.items c) r)
      (ap (put runs (mover event) (run_gained effect.gain new.memory (stand_of (slice_get new.callers (mover event))) (runs (mover event)))) t
      ∙ (put_same runs (mover event) (run_gained effect.gain new.memory (stand_of (slice_get new.callers (mover event))) (runs (mover event)))
      ∙ (sym moved_is ∙ ap runs' (sym t)))) (holds_new c))
      (λ (ne : c ≢ mover event).
      subst (λ r. HoldsOf gone' (slice_get kept'.runs.items c) r)
      (put_other runs (mover event) c (run_gained effect.gain new.memory (stand_of (slice_get new.callers (mover event))) (runs (mover event))) ne
      ∙ sym (put_other runs (mover event) c (run_at text event old.memory (slice_get old.callers (mover event)) (runs (mover event))) ne)) (holds_new c))
      (cases_eq c (mover event))

  many_runs : length kept'.runs.items ≡ length new.callers
  many_runs = ap length follows.placed ∙ (length-set kept.runs.items (mover event) follows.new ∙ (k.many ∙ sym as_many))

  pub keeps : Keeps new kept' runs'
  keeps = record { retirements = retirements; holds = holds; many = many_runs }

  -- what was so before
  was_roots : IsFine old.memory (targets old.memory.roots) (λ n. has n gone)
  was_roots start name h reaches =
      let t = target_at old.memory.roots start h in
      proper.roots t.0 name (record { node = start; marked = t.1 }) t.2 reaches

  was_got : (c : ℕ) → runs_method (slice_get old.callers c) ≡ true → IsFine old.memory (runs c).got (λ n. has n (runs c).old)
  was_got c on start name h reaches = proper.got c start name on h reaches

  -- what was retired before a run is retired
  old_less : (c : ℕ) → runs_method (slice_get old.callers c) ≡ true → (n : ℕ) → has n (runs c).old ≡ true → has n gone ≡ true
  old_less c on n h = of (slice_get old.callers c) refl where
    of : (o : Option SourceCaller) → slice_get old.callers c ≡ o → has n gone ≡ true
    of None a = absurd (let z : false ≡ true = sym (ap runs_method a) ∙ on in cc)
    of (Some x) a =
        let item = has_item old.callers kept.runs.items c x k.many a in
        let held : HoldsRun gone item.0 (runs c) = subst (λ o. HoldsOf gone o (runs c)) item.1 (k.holds c) in
        has_take n item.0.before gone (sym (ap (has n) held.old) ∙ h)

  bad_is : (n : ℕ) → is_among (numbering kept.retirements) (length gone) n ≡ has n gone
  bad_is n = all_among (numbering kept.retirements) gone k.retirements n

  bad_is' : (n : ℕ) → is_among (numbering kept'.retirements) (length gone') n ≡ has n gone'
  bad_is' n = all_among (numbering kept'.retirements) gone' retirements n

  abbrev pub links : List ℕ
  links = field_targets effect.change ++ root_targets effect.change

  calm_fine : effect.calm ≡ true → IsFine old.memory links (λ n. has n gone)
  calm_fine on =
      let fine : IsFineIf true old.memory links (is_among (numbering kept.retirements) (length gone)) = subst (λ b. IsFineIf b old.memory links (is_among (numbering kept.retirements) (length gone))) on e.calm in
      fine_same old.memory links (is_among (numbering kept.retirements) (length gone)) (λ n. has n gone)
      (fine (fine_same old.memory (targets old.memory.roots) (λ n. has n gone) (is_among (numbering kept.retirements) (length gone)) was_roots bad_is)) (λ n. sym (bad_is n))

  on_edges : (from : List ℕ) (bad : ℕ → Bool) → IsFine old.memory from bad → IsFine old.memory (field_targets effect.change) bad → IsFine new.memory from bad
  on_edges from bad here there =
      subst (λ m. IsFine m from bad) (sym memory_is)
      (fine_on old.memory (changed text effect.change old.memory) (field_targets effect.change) from bad (change_edges text effect.change old.memory) here there)

  -- roots
  roots_calm : needs_roots effect.calm effect.change ≡ false → IsFine new.memory (targets new.memory.roots) (λ n. has n gone')
  roots_calm none start name h reaches =
      let p = calm_parts effect.calm (retired_by effect.change) none in
      let same : gone' ≡ gone = retired_is ∙ ap (λ n. after_retirement n gone) p.1 ∙ kept_none gone in
      let links_fine = calm_fine p.0 in
      let fields = fine_part old.memory links (field_targets effect.change) (λ n. has n gone) links_fine (λ n f. has_first n (field_targets effect.change) (root_targets effect.change) f) in
      let roots = fine_part old.memory links (root_targets effect.change) (λ n. has n gone) links_fine (λ n f. has_second n (field_targets effect.change) (root_targets effect.change) f) in
      ap (has name) same
      ∙ ⊎_elim
      (λ (was : has start (targets old.memory.roots) ≡ true). on_edges (targets old.memory.roots) (λ n. has n gone) was_roots fields start name was reaches)
      (λ (now : has start (root_targets effect.change) ≡ true). on_edges (root_targets effect.change) (λ n. has n gone) roots fields start name now reaches)
      (change_roots text effect.change old.memory start (subst (λ (m : Memory). has start (targets m.roots) ≡ true) memory_is h)) where
        kept_none : (ns : List ℕ) → after_retirement 0 ns ≡ ns
        kept_none ns = refl

  roots_told : (b : Bool) → needs_roots effect.calm effect.change ≡ b → RootsTold b new.memory (is_among (numbering kept'.retirements) (length gone')) None → IsFine new.memory (targets new.memory.roots) (λ n. has n gone')
  roots_told false none told = roots_calm none
  roots_told true some told =
      fine_same new.memory (targets new.memory.roots) (is_among (numbering kept'.retirements) (length gone')) (λ n. has n gone')
      (told (fine_none new.memory (is_among (numbering kept'.retirements) (length gone')))) (λ n. sym (bad_is' n))

  are_kept : IsFine new.memory (targets new.memory.roots) (λ n. has n gone') → AreRootsKept new
  are_kept fine x other reference stands reaches = fine reference.node other (at_target new.memory.roots x reference.marked reference.node stands) reaches

  -- what method runs have got
  fields_calm : needs_runs effect.calm effect.change ≡ false → IsFine old.memory (field_targets effect.change) (λ n. has n gone)
  fields_calm none = of effect.calm refl where
    of : (b : Bool) → effect.calm ≡ b → IsFine old.memory (field_targets effect.change) (λ n. has n gone)
    of true c = fine_part old.memory links (field_targets effect.change) (λ n. has n gone) (calm_fine c) (λ n f. has_first n (field_targets effect.change) (root_targets effect.change) f)
    of false c =
        subst (λ l. IsFine old.memory l (λ n. has n gone)) (sym (no_field effect.change (sym (ap (λ b. not b && is_field_change effect.change) c) ∙ none)))
        (fine_none old.memory (λ n. has n gone))

  got_still : needs_runs effect.calm effect.change ≡ false → (c : ℕ) → runs_method (slice_get old.callers c) ≡ true → IsFine new.memory (runs c).got (λ n. has n (runs c).old)
  got_still none c on =
      on_edges (runs c).got (λ n. has n (runs c).old) (was_got c on)
      (fine_less old.memory (field_targets effect.change) (λ n. has n gone) (λ n. has n (runs c).old) (fields_calm none) (old_less c on))

  stays : (c : ℕ) → c ≢ mover event → slice_get new.callers c ≡ slice_get old.callers c
  stays c ne = ap (λ (m : SourceMachine). slice_get m.callers c) stepped ∙ others_stay text old event c ne

  run_stays : (c : ℕ) → c ≢ mover event → runs' c ≡ runs c
  run_stays c ne = put_other runs (mover event) c (run_at text event old.memory (slice_get old.callers (mover event)) (runs (mover event))) ne

  -- what is kept of the mover's run
  held : HoldsRun gone old_item.0 (runs (mover event))
  held = subst (λ o. HoldsOf gone o (runs (mover event))) old_item.1 (k.holds (mover event))

  item_new : slice_get kept'.runs.items (mover event) ≡ Some follows.new
  item_new = ap (λ ks. slice_get ks (mover event)) follows.placed ∙ set_item kept.runs.items (mover event) old_item.0 follows.new old_item.1 where
    set_item : (xs : List KeptRun) (i : ℕ) (x y : KeptRun) → slice_get xs i ≡ Some x → slice_get (set xs i y) i ≡ Some y
    set_item [] i x y h = absurd (let z : None ≡ Some x = h in cc)
    set_item (z ∷ zs) zero x y h = refl
    set_item (z ∷ zs) (suc i) x y h = set_item zs i x y h

  held' : HoldsRun gone' follows.new (runs' (mover event))
  held' = subst (λ o. HoldsOf gone' o (runs' (mover event))) item_new (holds (mover event))

  grown : IsGrown (runs_method (Some caller)) old_item.0 follows.new s.added
  grown =
      grown_at text event caller old.memory (length gone') (stand_of (slice_get new.callers (mover event))) old_item.0 follows.new s.added
      (subst (λ g. IsGained g (length gone') (stand_of (slice_get new.callers (mover event))) old_item.0 follows.new s.added) (e.gain ∙ ap (gain_at text event old.memory) at) follows.gains)

  old_is' : (n : ℕ) → is_among (numbering kept'.retirements) follows.new.before n ≡ has n (runs' (mover event)).old
  old_is' n = among_is (numbering kept'.retirements) gone' retirements follows.new.before n ∙ ap (has n) (sym held'.old)

  same_old : follows.new.before ≡ old_item.0.before → (runs' (mover event)).old ≡ (runs (mover event)).old
  same_old b =
      held'.old ∙ (ap (λ n. take n gone') b
      ∙ sym (let was : HoldsRun gone' old_item.0 (runs (mover event)) = subst (λ o. HoldsOf gone' o (runs (mover event))) old_item.1 (holds_old (mover event)) in was.old))

  -- the name that the mover's run has got now
  added_fine : IsFine new.memory (targets new.memory.roots) (λ n. has n gone') → runs_method (slice_get new.callers (mover event)) ≡ true
      → MovedTold (numbering kept'.retirements) new.memory (slice_get new.callers (mover event)) (slice_get kept'.runs.items (mover event)) s.added None
      → (name : ℕ) → s.added ≡ Some name → IsFine new.memory (without name follows.new.got) (λ n. has n (runs' (mover event)).old) → IsFine new.memory (name ∷ []) (λ n. has n (runs' (mover event)).old)
  added_fine roots on told name is others =
      let bad = is_among (numbering kept'.retirements) follows.new.before in
      let one : MovedTold (numbering kept'.retirements) new.memory (slice_get new.callers (mover event)) (Some follows.new) (Some name) None =
      subst (λ a. MovedTold (numbering kept'.retirements) new.memory (slice_get new.callers (mover event)) (Some follows.new) a None) is
      (subst (λ o. MovedTold (numbering kept'.retirements) new.memory (slice_get new.callers (mover event)) o s.added None) item_new told) in
      let open_ : AddedTold new.memory follows.new bad name None = subst (λ b. MovedIf b (numbering kept'.retirements) new.memory follows.new name None) on one in
      fine_same new.memory (name ∷ []) bad (λ n. has n (runs' (mover event)).old)
      (open_
      (fine_same new.memory (targets new.memory.roots) (λ n. has n (runs' (mover event)).old) bad
      (fine_less new.memory (targets new.memory.roots) (λ n. has n gone') (λ n. has n (runs' (mover event)).old) roots (λ n h. has_take n follows.new.before gone' (sym (ap (has n) held'.old) ∙ h))) old_is')
      (fine_same new.memory (without name follows.new.got) (λ n. has n (runs' (mover event)).old) bad others old_is'))
      (λ n. sym (old_is' n))

  mover_fine : needs_runs effect.calm effect.change ≡ false → IsFine new.memory (targets new.memory.roots) (λ n. has n gone') → runs_method (slice_get new.callers (mover event)) ≡ true
      → MovedTold (numbering kept'.retirements) new.memory (slice_get new.callers (mover event)) (slice_get kept'.runs.items (mover event)) s.added None
      → IsFine new.memory (runs' (mover event)).got (λ n. has n (runs' (mover event)).old)
  mover_fine none roots on told start name h reaches = by grown where
    here : has start follows.new.got ≡ true
    here = held'.got start ∙ h

    by : IsGrown (runs_method (Some caller)) old_item.0 follows.new s.added → has name (runs' (mover event)).old ≡ false
    by (inl empty) = absurd (untrue false refl (sym (ap (has start) empty) ∙ here))
    by (inr g) = ⊎_elim (λ (was : has start old_item.0.got ≡ true). before start was name reaches) (λ (now : s.added ≡ Some start). fresh now) (g.2 start here) where
      before : (n : ℕ) → has n old_item.0.got ≡ true → (z : ℕ) → Reaches new.memory n z → has z (runs' (mover event)).old ≡ false
      before n was z goes = ap (has z) (same_old g.1) ∙ got_still none (mover event) (ap runs_method at ∙ g.0) n z (sym (held.got n) ∙ was) goes

      fresh : s.added ≡ Some start → has name (runs' (mover event)).old ≡ false
      fresh now = added_fine roots on told start now others start name (has_second start [] (start ∷ []) (or_left (start == start) false (same_test start))) reaches where
        others : IsFine new.memory (without start follows.new.got) (λ n. has n (runs' (mover event)).old)
        others n z in_ goes = ⊎_elim
            (λ (t : n ≡ start). absurd (untrue (has n (without start follows.new.got)) (subst (λ m. has m (without start follows.new.got) ≡ false) (sym t) (has_gone start follows.new.got)) in_))
            (λ (ne : n ≢ start). ⊎_elim
            (λ (was : has n old_item.0.got ≡ true). before n was z goes)
            (λ (same : s.added ≡ Some n). absurd (ne (let z : Some n ≡ Some start = sym same ∙ now in cc)))
            (g.2 n (sym (has_kept n start follows.new.got ne) ∙ in_)))
            (cases_eq n start)

  -- what all runs have got, if they were searched
  searched : ShowsGot (numbering kept'.retirements) new kept'.runs.items None → (c : ℕ) → runs_method (slice_get new.callers c) ≡ true → IsFine new.memory (runs' c).got (λ n. has n (runs' c).old)
  searched got c on = of (slice_get new.callers c) refl where
    by : (x : SourceCaller) (kr : KeptRun) → slice_get kept'.runs.items c ≡ Some kr → runs_method (Some x) ≡ true → FoundOf (numbering kept'.retirements) new.memory (Some x) (slice_get kept'.runs.items c) None
        → IsFine new.memory (runs' c).got (λ n. has n (runs' c).old)
    by x kr i runs_on told start name h reaches =
        let here : HoldsRun gone' kr (runs' c) = subst (λ o. HoldsOf gone' o (runs' c)) i (holds c) in
        let f : Found new.memory kr.got [] (is_among (numbering kept'.retirements) kr.before) None =
        subst (λ b. FoundIf b (numbering kept'.retirements) new.memory (Some kr) None) runs_on (subst (λ o. FoundOf (numbering kept'.retirements) new.memory (Some x) o None) i told) in
        ap (has name) here.old ∙ (sym (among_is (numbering kept'.retirements) gone' retirements kr.before name)
        ∙ f (fine_none new.memory (is_among (numbering kept'.retirements) kr.before)) start name (here.got start ∙ h) reaches)

    of : (o : Option SourceCaller) → slice_get new.callers c ≡ o → IsFine new.memory (runs' c).got (λ n. has n (runs' c).old)
    of None a = absurd (let z : false ≡ true = sym (ap runs_method a) ∙ on in cc)
    of (Some x) a =
        let item = has_item new.callers kept'.runs.items c x many_runs a in
        by x item.0 item.1 (sym (ap runs_method a) ∙ on) (got c x a)

  moved_alone : needs_runs effect.calm effect.change ≡ false → IsFine new.memory (targets new.memory.roots) (λ n. has n gone')
      → MovedTold (numbering kept'.retirements) new.memory (slice_get new.callers (mover event)) (slice_get kept'.runs.items (mover event)) s.added None
      → (c : ℕ) → runs_method (slice_get new.callers c) ≡ true → IsFine new.memory (runs' c).got (λ n. has n (runs' c).old)
  moved_alone none roots told c on = ⊎_elim
      (λ (t : c ≡ mover event). subst (λ d. IsFine new.memory (runs' d).got (λ n. has n (runs' d).old)) (sym t) (mover_fine none roots (sym (ap (λ d. runs_method (slice_get new.callers d)) t) ∙ on) told))
      (λ (ne : c ≢ mover event).
      subst (λ (r : MethodRun). IsFine new.memory r.got (λ n. has n r.old)) (sym (run_stays c ne)) (got_still none c (sym (ap runs_method (stays c ne)) ∙ on)))
      (cases_eq c (mover event))

  all_got : (b : Bool) → needs_runs effect.calm effect.change ≡ b → IsFine new.memory (targets new.memory.roots) (λ n. has n gone') → RunsTold b (numbering kept'.retirements) new kept'.runs.items (mover event) s.added None
      → (c : ℕ) → runs_method (slice_get new.callers c) ≡ true → IsFine new.memory (runs' c).got (λ n. has n (runs' c).old)
  all_got true some roots told = searched told
  all_got false none roots told = moved_alone none roots told

  -- the list of retirements
  once_new : is_second (numbering kept.retirements) (retired_by effect.change) ≡ false → IsOnce gone'
  once_new none = subst IsOnce (sym retired_is) (once_after (numbering kept.retirements) gone (retired_by effect.change) k.retirements proper.once none)

  twice_new : is_second (numbering kept.retirements) (retired_by effect.change) ≡ true → IsOnce gone' → ⊥
  twice_new some once = twice_after (numbering kept.retirements) gone (retired_by effect.change) k.retirements some (subst IsOnce retired_is once)

  -- a breach by a run
  got_breach : (c name : ℕ) (x : SourceCaller) → slice_get new.callers c ≡ Some x → (kr : KeptRun) → slice_get kept'.runs.items c ≡ Some kr → runs_method (Some x) ≡ true
      → ReachedFrom new.memory kr.got name → is_among (numbering kept'.retirements) kr.before name ≡ true → IsGotBreach new runs' c name
  got_breach c name x a kr i on leads bad =
      let here : HoldsRun gone' kr (runs' c) = subst (λ o. HoldsOf gone' o (runs' c)) i (holds c) in
      record {
        runs_on = ap runs_method a ∙ on;
        leads = (leads.0, sym (here.got leads.0) ∙ leads.1, leads.2);
        old = ap (has name) here.old ∙ (sym (among_is (numbering kept'.retirements) gone' retirements kr.before name) ∙ bad);
      }

  found_breach : (c name : ℕ) → ShowsGot (numbering kept'.retirements) new kept'.runs.items (Some (Got c name)) → IsGotBreach new runs' c name
  found_breach c name shows = of (slice_get kept'.runs.items c) refl (runs_method (Some shows.0)) refl shows.2 where
    of : (o : Option KeptRun) → slice_get kept'.runs.items c ≡ o → (b : Bool) → runs_method (Some shows.0) ≡ b → FoundIf b (numbering kept'.retirements) new.memory o (Some name) → IsGotBreach new runs' c name
    of o i false on f = absurd (let z : Some name ≡ None = f in cc)
    of None i true on f = absurd (let z : Some name ≡ None = f in cc)
    of (Some kr) i true on f = got_breach c name shows.0 shows.1 kr i on f.0 f.1

  added_in : (name : ℕ) → s.added ≡ Some name → has name follows.new.got ≡ true
  added_in name is = has_added effect.gain (length gone') (stand_of (slice_get new.callers (mover event))) old_item.0 follows.new s.added follows.gains name is

  moved_breach : (name : ℕ) → MovedTold (numbering kept'.retirements) new.memory (slice_get new.callers (mover event)) (slice_get kept'.runs.items (mover event)) s.added (Some name) → IsGotBreach new runs' (mover event) name
  moved_breach name told = of s.added refl (slice_get new.callers (mover event)) refl where
    by : (x : SourceCaller) → slice_get new.callers (mover event) ≡ Some x → (n : ℕ) → s.added ≡ Some n → (b : Bool) → runs_method (Some x) ≡ b → MovedIf b (numbering kept'.retirements) new.memory follows.new n (Some name) → IsGotBreach new runs' (mover event) name
    by x a n is false on t = absurd (let z : Some name ≡ None = t in cc)
    by x a n is true on t =
        let start : t.0.0 ≡ n = one_has t.0.0 n t.0.1 in
        got_breach (mover event) name x a follows.new item_new on (t.0.0, subst (λ m. has m follows.new.got ≡ true) (sym start) (added_in n is), t.0.2) t.1

    of : (o : Option ℕ) → s.added ≡ o → (q : Option SourceCaller) → slice_get new.callers (mover event) ≡ q → IsGotBreach new runs' (mover event) name
    of None is q a = absurd (let z : Some name ≡ None = subst (λ o. MovedTold (numbering kept'.retirements) new.memory (slice_get new.callers (mover event)) (slice_get kept'.runs.items (mover event)) o (Some name)) is told in cc)
    of (Some n) is q a = with_caller q a where
      one : MovedIf (runs_method (slice_get new.callers (mover event))) (numbering kept'.retirements) new.memory follows.new n (Some name)
      one =
          subst (λ o. MovedTold (numbering kept'.retirements) new.memory (slice_get new.callers (mover event)) o (Some n) (Some name)) item_new
          (subst (λ o. MovedTold (numbering kept'.retirements) new.memory (slice_get new.callers (mover event)) (slice_get kept'.runs.items (mover event)) o (Some name)) is told)

      with_caller : (q : Option SourceCaller) → slice_get new.callers (mover event) ≡ q → IsGotBreach new runs' (mover event) name
      with_caller None h = absurd (let z : Some name ≡ None = subst (λ o. MovedIf (runs_method o) (numbering kept'.retirements) new.memory follows.new n (Some name)) h one in cc)
      with_caller (Some x) h = by x h n is (runs_method (Some x)) refl (subst (λ o. MovedIf (runs_method o) (numbering kept'.retirements) new.memory follows.new n (Some name)) h one)

  run_breach : (b : Bool) (c name : ℕ) → RunsTold b (numbering kept'.retirements) new kept'.runs.items (mover event) s.added (Some (Got c name)) → IsGotBreach new runs' c name
  run_breach true c name told = found_breach c name told
  run_breach false c name told = subst (λ d. IsGotBreach new runs' d name) (sym told.0) (moved_breach name told.1)

  -- a breach by a root
  root_breach : (b : Bool) (name : ℕ) → RootsTold b new.memory (is_among (numbering kept'.retirements) (length gone')) (Some name) → IsRootBreach new name
  root_breach false name told = absurd (let z : Some name ≡ None = told in cc)
  root_breach true name told =
      let t = target_at new.memory.roots told.0.0 told.0.1 in
      record { root = t.0; reference = record { node = told.0.0; marked = t.1 }; stands = t.2; leads = told.0.2; retired = sym (bad_is' name) ∙ told.1 }

  pub shown : Shown new runs' found
  shown = of found s.told where
    twice : Bool
    twice = is_second (numbering kept.retirements) (retired_by effect.change)

    of : (o : Option Breach) → IsTold (doubts_of effect twice) (numbering kept'.retirements) new kept'.runs.items (mover event) s.added o → Shown new runs' o
    of None told =
        let roots = roots_told (needs_roots effect.calm effect.change) refl told.1 in
        let got = all_got (needs_runs effect.calm effect.change) refl roots told.2 in
        record { once = once_new told.0; roots = are_kept roots; got = λ c name other on h reaches. got c on name other h reaches }
    of (Some Twice) told = twice_new told
    of (Some (Root name)) told = (once_new told.0, root_breach (needs_roots effect.calm effect.change) name told.1)
    of (Some (Got c name)) told =
        (once_new told.0, are_kept (roots_told (needs_roots effect.calm effect.change) refl told.1), run_breach (needs_runs effect.calm effect.change) c name told.2)
