-- What the test of an image tells of callers and of whole states.
use Rattle.std.proofs.Common.{ℕ, zero, suc, ◌≡◌, ◌≢◌, ◌∙◌, ◌==◌, ◌&&◌, ◌||◌, Bool, true, false, cond, is_some, List, [], ◌∷◌, drop, Option, Some, None, sym, ap, refl, subst, ⊎_elim, arith}
use Rattle.std.specs.Prelude.{slice_get}
use Rattle.std.specs.Str.{bytes_eq}
use Rattle.std.proofs.lemmas.Bool.{and_parts}
use Rattle.std.proofs.lemmas.Bool.Decides.{nat_tests, eqb_tells}
use Rattle.norm_lang.specs.declared.text.Reg.{Reg}
use Rattle.norm_lang.specs.declared.text.Reg.TheVariants.{Num, Ref}
use Rattle.norm_lang.specs.declared.text.Place.{Place}
use Rattle.norm_lang.specs.declared.text.Place.TheVariants as places
use Rattle.norm_lang.specs.declared.text.CasEntry.{CasEntry}
use Rattle.norm_lang.specs.Registers.{same_bool}
use Rattle.source_machine.specs.declared.state.Memory.{Memory}
use Rattle.source_machine.specs.declared.state.Stand.{Stand}
use Rattle.source_machine.specs.declared.state.Stand.TheVariants.{InGenerator, InList, InWrapUp}
use Rattle.source_machine.specs.declared.state.Running.{Running}
use Rattle.source_machine.specs.declared.state.SourceCaller.{SourceCaller}
use Rattle.source_machine.specs.declared.state.SourceMachine.{SourceMachine}
use Rattle.source_machine.specs.Memory.{fields_named}
use Rattle.source_machine.specs.MethodRuns.{MethodRun}
use Rattle.source_machine.specs.Proper.{has, runs_method}
use Rattle.source_machine.proofs.Names.{untrue}
use Rattle.state_judge.specs.declared.runs.ListedRun.{ListedRun}
use Rattle.state_judge.specs.Runs.{ListsRun, ListsOf, ListsRuns}
use Rattle.state_judge.specs.Breaches.{is_once}
use Rattle.state_judge.proofs.Breaching.{once_is}
use Rattle.state_images.specs.Images.{Naming, Kept, renamed_registers, renamed_stand, IsKeptStand, IsRunningImage, IsRunningImageIf, IsCallerImage, IsRunImage, IsImage}
use Rattle.state_images.specs.Tests.{number_of, matters, are_registers, are_in, are_used, is_memory, same_register, same_place, same_retired, same_entry, same_entries, is_stand, is_running, is_running_if, are_kept, is_run, is_run_if, is_caller, are_callers, is_image, ImagesAreTested}
use Rattle.state_images.proofs.Tested.{naming_of, same_bool_is, numbers_tested, registers_tested, in_both, used_all, with_null, memory_tested}

equal : (a b : ℕ) → (a == b) ≡ true → b ≡ a
equal a b e = grind (arith, nat_tests, e)

-- ---- lists of exchanges

register_is : (a b : Reg) → same_register a b ≡ true → b ≡ a
register_is (Num a) (Num b) e = ap Num (equal a b e)
register_is (Ref a) (Ref b) e = ap Ref (equal a b e)
register_is (Num a) (Ref b) e = absurd (untrue false refl e)
register_is (Ref a) (Num b) e = absurd (untrue false refl e)

place_is : (p q : Place) → same_place p q ≡ true → q ≡ p
place_is (places.Root x) (places.Root y) e = ap places.Root (equal x y e)
place_is (places.Field a f) (places.Field b g) e =
    let t = and_parts (same_register a b) (f == g) e in
    ap (λ r. places.Field r g) (register_is a b t.0) ∙ ap (places.Field a) (equal f g t.1)
place_is (places.Root x) (places.Field b g) e = absurd (untrue false refl e)
place_is (places.Field a f) (places.Root y) e = absurd (untrue false refl e)

retired_is : (a b : Option Reg) → same_retired a b ≡ true → b ≡ a
retired_is None None e = refl
retired_is (Some a) (Some b) e = ap Some (register_is a b e)
retired_is None (Some b) e = absurd (untrue false refl e)
retired_is (Some a) None e = absurd (untrue false refl e)

entry_of : Place → Reg → Reg → Option Reg → CasEntry
entry_of place expected replacement retire = record { place = place; expected = expected; replacement = replacement; retire = retire }

entry_is : (e e' : CasEntry) → same_entry e e' ≡ true → e' ≡ e
unfolding entry_of
entry_is e e' h =
    let p = and_parts (same_place e.place e'.place) (same_register e.expected e'.expected && (same_register e.replacement e'.replacement && same_retired e.retire e'.retire)) h in
    let q = and_parts (same_register e.expected e'.expected) (same_register e.replacement e'.replacement && same_retired e.retire e'.retire) p.1 in
    let r = and_parts (same_register e.replacement e'.replacement) (same_retired e.retire e'.retire) q.1 in
    ap (λ x. entry_of x e'.expected e'.replacement e'.retire) (place_is e.place e'.place p.0)
    ∙ ap (λ x. entry_of e.place x e'.replacement e'.retire) (register_is e.expected e'.expected q.0)
    ∙ ap (λ x. entry_of e.place e.expected x e'.retire) (register_is e.replacement e'.replacement r.0)
    ∙ ap (entry_of e.place e.expected e.replacement) (retired_is e.retire e'.retire r.1)

entries_are : (es es' : List CasEntry) → same_entries es es' ≡ true → es' ≡ es
entries_are [] [] h = refl
entries_are (e ∷ es) (e' ∷ es') h =
    let p = and_parts (same_entry e e') (same_entries es es') h in
    ap (λ x. x ∷ es') (entry_is e e' p.0) ∙ ap (λ l. e ∷ l) (entries_are es es' p.1)
entries_are [] (e' ∷ es') h = absurd (untrue false refl h)
entries_are (e ∷ es) [] h = absurd (untrue false refl h)

-- ---- callers

module _ (order : List ℕ) where
  stand_tested : (s s' : Stand) → is_stand order s s' ≡ true → (s' ≡ renamed_stand (naming_of order) s) × IsKeptStand (naming_of order) s
  stand_tested (InGenerator at) (InGenerator at') e = (ap InGenerator (equal at at' e), tt)
  stand_tested (InList at entries made) (InList at' entries' made') e =
      let p = and_parts (at == at') (same_entries entries entries' && (made == made')) e in
      let q = and_parts (same_entries entries entries') (made == made') p.1 in (
        ap (λ x. InList x entries' made') (equal at at' p.0) ∙ ap (λ x. InList at x made') (entries_are entries entries' q.0) ∙ ap (InList at entries) (equal made made' q.1),
        tt,
      )
  stand_tested (InWrapUp at started accessed) (InWrapUp at' started' accessed') e =
      let p = and_parts (at == at') (are_registers order started started' && same_bool accessed accessed') e in
      let q = and_parts (are_registers order started started') (same_bool accessed accessed') p.1 in
      let g = registers_tested order started started' q.0 in (
        ap (λ x. InWrapUp x started' accessed') (equal at at' p.0) ∙ ap (λ x. InWrapUp at x accessed') g.0
            ∙ ap (InWrapUp at (renamed_registers (naming_of order) started)) (same_bool_is order accessed accessed' q.1),
        g.1,
      )
  stand_tested (InGenerator at) (InList at' entries' made') e = absurd (untrue false refl e)
  stand_tested (InGenerator at) (InWrapUp at' started' accessed') e = absurd (untrue false refl e)
  stand_tested (InList at entries made) (InGenerator at') e = absurd (untrue false refl e)
  stand_tested (InList at entries made) (InWrapUp at' started' accessed') e = absurd (untrue false refl e)
  stand_tested (InWrapUp at started accessed) (InGenerator at') e = absurd (untrue false refl e)
  stand_tested (InWrapUp at started accessed) (InList at' entries' made') e = absurd (untrue false refl e)

  running_tested : (r r' : Running) → is_running order r r' ≡ true → IsRunningImage (naming_of order) r r'
  running_tested r r' e =
      let p = and_parts (r.op == r'.op) (bytes_eq r.args r'.args && (are_registers order r.registers r'.registers && is_stand order r.stand r'.stand)) e in
      let q = and_parts (bytes_eq r.args r'.args) (are_registers order r.registers r'.registers && is_stand order r.stand r'.stand) p.1 in
      let t = and_parts (are_registers order r.registers r'.registers) (is_stand order r.stand r'.stand) q.1 in
      let g = registers_tested order r.registers r'.registers t.0 in
      let s = stand_tested r.stand r'.stand t.1 in
      record {
        op = equal r.op r'.op p.0;
        args = numbers_tested order r.args r'.args q.0;
        registers = g.0;
        stand = s.0;
        registers_kept = g.1;
        stand_kept = s.1;
      }

  running_if_tested : (o o' : Option Running) → is_running_if order o o' ≡ true → IsRunningImageIf (naming_of order) o o'
  running_if_tested None None e = tt
  running_if_tested (Some r) (Some r') e = running_tested r r' e
  running_if_tested None (Some r') e = absurd (untrue false refl e)
  running_if_tested (Some r) None e = absurd (untrue false refl e)

  -- ---- method runs

  all_kept : (xs : List ℕ) → are_kept order xs ≡ true → (a : ℕ) → has a xs ≡ true → Kept (naming_of order) a
  all_kept [] e a h = absurd (untrue false refl h)
  all_kept (b ∷ bs) e a h =
      let p = and_parts (matters order b) (are_kept order bs) e in
      ⊎_elim
      (λ (t : ((b == a) ≡ true) × (b ≡ a)). subst (λ c. Kept (naming_of order) c) t.1 p.0)
      (λ (t : ((b == a) ≡ false) × (b ≢ a)). all_kept bs p.1 a (sym (ap (λ x. x || has a bs) t.0) ∙ h))
      (eqb_tells b a)

  -- what is told of one method run
  record RunTold (m : Memory) (r r' : MethodRun) : Type 0 where
    image : IsRunImage (naming_of order) r r'
    old_used : (a : ℕ) → has a r.old ≡ true → is_some (fields_named a m.nodes) ≡ true

  run_tested : (m : Memory) (k k' : ListedRun) (r r' : MethodRun) → is_run order m k k' ≡ true → ListsRun k r → ListsRun k' r' → RunTold m r r'
  run_tested m k k' r r' e holds holds' =
      let p = and_parts (are_kept order k.got) (are_in order (0 ∷ order) k.got k'.got && (are_in order (0 ∷ order) k.old k'.old && are_used k.old m)) e in
      let q = and_parts (are_in order (0 ∷ order) k.got k'.got) (are_in order (0 ∷ order) k.old k'.old && are_used k.old m) p.1 in
      let t = and_parts (are_in order (0 ∷ order) k.old k'.old) (are_used k.old m) q.1 in
      record {
        image = record {
          got_kept = λ a h. all_kept k.got p.0 a (holds.got a ∙ h);
          got = λ a kept h. sym (holds'.got (number_of order a)) ∙ in_both order (0 ∷ order) k.got k'.got q.0 a (with_null order a kept) (holds.got a ∙ h);
          old = λ a kept h. sym (holds'.old (number_of order a)) ∙ in_both order (0 ∷ order) k.old k'.old t.0 a (with_null order a kept) (holds.old a ∙ h);
        };
        old_used = λ a h. used_all order k.old m t.1 a (holds.old a ∙ h);
      }

  run_if_tested : (m : Memory) (k k' : Option ListedRun) (r r' : MethodRun) → is_run_if true order m k k' ≡ true → ListsOf k r → ListsOf k' r' → RunTold m r r'
  run_if_tested m (Some k) (Some k') r r' e holds holds' = run_tested m k k' r r' e holds holds'
  run_if_tested m None k' r r' e holds holds' = absurd (untrue false refl e)
  run_if_tested m (Some k) None r r' e holds holds' = absurd (untrue false refl e)

  -- ---- all callers

  -- what is tested of the caller at one place
  abbrev CallerTested : Memory → Option SourceCaller → Option SourceCaller → Option ListedRun → Option ListedRun → Type 0
  CallerTested m None c' k k' = c' ≡ None
  CallerTested m (Some c) c' k k' = is_caller order m c c' k k' ≡ true

  next : {A : Type 0} (xs : List A) (i : ℕ) → slice_get (drop 1 xs) i ≡ slice_get xs (suc i)
  next [] i = refl
  next (y ∷ ys) i = refl

  callers_at : (m : Memory) (cs cs' : List SourceCaller) (ks ks' : List ListedRun) → are_callers order m cs cs' ks ks' ≡ true
      → (c : ℕ) → CallerTested m (slice_get cs c) (slice_get cs' c) (slice_get ks c) (slice_get ks' c)
  callers_at m [] [] ks ks' e c = refl
  callers_at m [] (x' ∷ cs') ks ks' e c = absurd (untrue false refl e)
  callers_at m (x ∷ cs) cs' ks ks' e zero =
      (and_parts (is_caller order m x (slice_get cs' 0) (slice_get ks 0) (slice_get ks' 0)) (are_callers order m cs (drop 1 cs') (drop 1 ks) (drop 1 ks')) e).0
  callers_at m (x ∷ cs) cs' ks ks' e (suc c) =
      let p = and_parts (is_caller order m x (slice_get cs' 0) (slice_get ks 0) (slice_get ks' 0)) (are_callers order m cs (drop 1 cs') (drop 1 ks) (drop 1 ks')) e in
      subst (λ z. CallerTested m (slice_get cs c) (slice_get cs' (suc c)) (slice_get ks (suc c)) z) (next ks' c)
      (subst (λ z. CallerTested m (slice_get cs c) (slice_get cs' (suc c)) z (slice_get (drop 1 ks') c)) (next ks c)
      (subst (λ z. CallerTested m (slice_get cs c) z (slice_get (drop 1 ks) c) (slice_get (drop 1 ks') c)) (next cs' c)
      (callers_at m cs (drop 1 cs') (drop 1 ks) (drop 1 ks') p.1 c)))

  caller_image : (m : Memory) (o o' : Option SourceCaller) (k k' : Option ListedRun) → CallerTested m o o' k k' → IsCallerImage (naming_of order) o o'
  caller_image m None None k k' t = tt
  caller_image m None (Some c') k k' t = absurd (let z : Some c' ≡ None = t in cc)
  caller_image m (Some c) None k k' t = absurd (untrue false refl t)
  caller_image m (Some c) (Some c') k k' t =
      running_if_tested c.running c'.running (and_parts (is_running_if order c.running c'.running) (is_run_if (runs_method (Some c)) order m k k') t).0

  run_told : (m : Memory) (o o' : Option SourceCaller) (k k' : Option ListedRun) (r r' : MethodRun) → CallerTested m o o' k k' → ListsOf k r → ListsOf k' r'
      → runs_method o ≡ true → RunTold m r r'
  run_told m None o' k k' r r' t holds holds' runs = absurd (untrue false refl runs)
  run_told m (Some c) None k k' r r' t holds holds' runs = absurd (untrue false refl t)
  run_told m (Some c) (Some c') k k' r r' t holds holds' runs =
      run_if_tested m k k' r r'
      (sym (ap (λ b. is_run_if b order m k k') runs) ∙ (and_parts (is_running_if order c.running c'.running) (is_run_if (runs_method (Some c)) order m k k') t).1)
      holds holds'

  -- ---- states

  image_tested : (s s' : SourceMachine) (ks ks' : List ListedRun) (runs runs' : ℕ → MethodRun) → is_image order s ks s' ks' ≡ true
      → ListsRuns ks runs → ListsRuns ks' runs' → IsImage (naming_of order) (record { machine = s; runs = runs }) (record { machine = s'; runs = runs' })
  image_tested s s' ks ks' runs runs' e holds holds' =
      let p = and_parts (is_once s.memory.retired) (is_memory order s.memory s'.memory && are_callers order s.memory s.callers s'.callers ks ks') e in
      let q = and_parts (is_memory order s.memory s'.memory) (are_callers order s.memory s.callers s'.callers ks ks') p.1 in
      let at = callers_at s.memory s.callers s'.callers ks ks' q.1 in
      record {
        memory = memory_tested order s.memory s'.memory (once_is s.memory.retired p.0) q.0;
        callers = λ c. caller_image s.memory (slice_get s.callers c) (slice_get s'.callers c) (slice_get ks c) (slice_get ks' c) (at c);
        runs = λ c on. (run_told s.memory (slice_get s.callers c) (slice_get s'.callers c) (slice_get ks c) (slice_get ks' c) (runs c) (runs' c) (at c) (holds c) (holds' c) on).image;
        old_used = λ c a on h. (run_told s.memory (slice_get s.callers c) (slice_get s'.callers c) (slice_get ks c) (slice_get ks' c) (runs c) (runs' c) (at c) (holds c) (holds' c) on).old_used a h;
      }

pub images_are_tested : ImagesAreTested
images_are_tested order s s' ks ks' runs runs' e holds holds' = (naming_of order, image_tested order s s' ks ks' runs runs' e holds holds')
