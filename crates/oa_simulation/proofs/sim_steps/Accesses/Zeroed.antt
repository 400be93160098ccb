-- The stores of a `new` at a caller that belongs.
use Rattle.std.proofs.Common.{ℕ, zero, suc, ◌≡◌, ◌≢◌, ◌==◌, ◌+◌, ◌≤◌, ◌<◌, ◌⊎◌, ◌∙◌, Bool, true, false, inl, inr, List, length, Option, Some, arith, sym, ap, subst, refl, if◌then◌else◌, set}
use Rattle.std.specs.Prelude.{nat_lt}
use Rattle.std.proofs.lemmas.Bool.{and_parts}
use Rattle.std.proofs.lemmas.Bool.Decides.{nat_tests, eqb_tells}
use Rattle.std.proofs.lemmas.List.{length-map, get_or-set_same}
use Rattle.std.proofs.lemmas.Option.{unwrap_or-slice_get}
use Rattle.norm_lang.specs.declared.text.Reg.{Reg}
use Rattle.norm_lang.specs.declared.text.Reg.TheVariants.{Num, Ref}
use Rattle.norm_lang.specs.declared.text.FieldDecl.{FieldDecl}
use Rattle.norm_lang.specs.declared.text.Instr.TheVariants as instr
use Rattle.norm_lang.specs.declared.text.Text.{Text}
use Rattle.norm_lang.specs.KindFields.{fields_of}
use Rattle.norm_lang.specs.declared.registers.Reference.{Reference}
use Rattle.norm_lang.specs.declared.registers.Registers.{Registers}
use Rattle.norm_lang.specs.Registers.{no_reference, with_reference, node_in}
use Rattle.target_code.specs.declared.target.TargetInstr.{TargetInstr}
use Rattle.target_code.specs.declared.target.TargetInstr.TheVariants.{Plain}
use Rattle.oa_words.specs.Words.{FieldOf}
use Rattle.oa_words.specs.Memories.{store}
use Rattle.source_machine.specs.Memory.{blank_field, blank_fields}
use Rattle.source_machine.specs.MethodRuns.{put}
use Rattle.caller_parts.specs.declared.routine.Routine.{Routine}
use Rattle.caller_parts.specs.declared.routine.Routine.TheVariants.{Zeroes}
use Rattle.caller_steps.specs.Belongs.{Belongs, Stands as CoreStands}
use Rattle.caller_steps.specs.Entries.{cradle_of, instr_in, zero_count}
use Rattle.caller_parts.specs.Operands.{cradle_number}
use Rattle.caller_parts.proofs.News.{new_there}
use Rattle.caller_steps.specs.After.{counted, node_made, zeroed as core_zeroed}
use Rattle.caller_steps.specs.Signs.{quiet}
use Rattle.run_ahead.proofs.Plain.{kind_right}
use Rattle.run_ahead.specs.Ahead.{erasing}
use Rattle.oa_simulation.specs.sim_relation.Views.{Plan, IsPlan, Shared, Caller}
use Rattle.oa_simulation.specs.sim_relation.Shared.{SharedHolds}
use Rattle.oa_simulation.specs.sim_relation.Callers.{CallerHolds, HoldsAt, Walks, Trail, spot_of}
use Rattle.oa_simulation.specs.sim_relation.Points.{DrawsHome}
use Rattle.oa_simulation.specs.sim_relation.Naming.{emptied_at, named_at}
use Rattle.oa_simulation.specs.sim_relation.Steps.{KeptWith}
use Rattle.oa_simulation.specs.sim_relation.WasSet.{set_zeroed}
use Rattle.oa_simulation.proofs.sim_relation.Codes.{code_is, instr_is}
use Rattle.oa_simulation.proofs.sim_steps.Walks.Quieting.{sane_here}
use Rattle.oa_simulation.proofs.sim_steps.Guards.Unguarding.{counted_caller}
use Rattle.oa_simulation.proofs.sim_steps.Accesses.News.{Zeroing, zeroing_on, zeroing_kind}
use Rattle.oa_simulation.proofs.sim_steps.Accesses.Newing.{zeroing_moved, moved_kind, new_stores}
use Rattle.caller_parts.specs.declared.setting.Reclamation.TheVariants.{Optimistic}

-- the caller stores 0 to a field of a cradle's slot
pub record AtZeroes (t : Plan) (c : ℕ) (s : Shared) (x : Caller) (k field : ℕ) : Type 0 where
  pub plan : IsPlan t
  pub shared_holds : SharedHolds t s
  pub caller_holds : CallerHolds t s c x
  pub belongs : Belongs t.target t.setting x.entry
  pub at : x.entry.routine ≡ Zeroes k field
  pub home : DrawsHome t.home (core_zeroed Optimistic t.target t.setting.sizes k field (counted x.entry)).signs s.unused

-- a reference that is put into a register is there
pub put_there : (mirror : Registers) (r n : ℕ) → r < length mirror.references → node_in (with_reference mirror (Ref r) (record { node = n; marked = false })) r ≡ n
put_there mirror r n lt = ap (λ (z : Reference). z.node) (unwrap_or-slice_get (set mirror.references r (record { node = n; marked = false })) r no_reference ∙ get_or-set_same mirror.references r (record { node = n; marked = false }) no_reference lt)

-- a `new` stores 0 to each field of its kind
pub all_zeroed : (t : Plan) (r kind g : ℕ) → t.target.fields ≡ t.text.fields → nat_lt (g + 1) (zero_count t.target (Some (Plain (instr.New (Ref r) kind)))) ≡ false → length (blank_fields t.text kind) ≤ g + 1
all_zeroed t r kind g fields ends =
    let count : length (blank_fields t.text kind) ≡ zero_count t.target (Some (Plain (instr.New (Ref r) kind))) = length-map (fields_of kind t.text.fields) blank_field ∙ ap (λ (fields : List FieldDecl). length (fields_of kind fields)) (sym fields) in
    let past : zero_count t.target (Some (Plain (instr.New (Ref r) kind))) ≤ g + 1 = grind (arith, nat_tests, ends) in
    omega (arith, count, past)

-- from the second store on the slot has no name already
pub none_before : (present : ℕ → ℕ) (j field : ℕ) → (0 < field → present j ≡ 0) → put present j 0 ≡ emptied_at field j present
none_before present j zero none = refl
none_before present j (suc field) none = λ i l. at l (eqb_tells l j) i where
  at : (l : ℕ) → (((l == j) ≡ true) × (l ≡ j)) ⊎ (((l == j) ≡ false) × (l ≢ j)) → put present j 0 l ≡ present l
  at l (inl e) = rw e.0 (sym (ap present e.1 ∙ none (omega arith)))
  at l (inr e) = rw e.0 refl

pub zero_step : (t : Plan) (c : ℕ) (s : Shared) (x : Caller) (k field : ℕ) → AtZeroes t c s x k field
    → KeptWith t c s x x.names (set_zeroed t.target x.entry x.was_set k (nat_lt (field + 1) (zero_count t.target (instr_in t.target x.entry)))) (store s.memory (FieldOf (cradle_of x.entry k) field) 0) (core_zeroed Optimistic t.target t.setting.sizes k field (counted x.entry))
    (named_at (nat_lt (field + 1) (zero_count t.target (instr_in t.target x.entry))) (cradle_of x.entry k) s.unused (emptied_at field (cradle_of x.entry k) s.present))
zero_step t c s x k field w =
    let spot : HoldsAt t s c x (Zeroes k field) = subst (λ (r : Routine). HoldsAt t s c x r) w.at w.caller_holds.spot in
    let stands : CoreStands t.target t.setting x.entry (Zeroes k field) = subst (λ (r : Routine). CoreStands t.target t.setting x.entry r) w.at w.belongs.stands in
    let there = new_there (instr_in t.target x.entry) stands.0 in
    subst (λ (present : ℕ → ℕ). KeptWith t c s x x.names (set_zeroed t.target x.entry x.was_set k (nat_lt (field + 1) (zero_count t.target (instr_in t.target x.entry)))) (store s.memory (FieldOf (cradle_of x.entry k) field) 0) (core_zeroed Optimistic t.target t.setting.sizes k field (counted x.entry)) (named_at (nat_lt (field + 1) (zero_count t.target (instr_in t.target x.entry))) (cradle_of x.entry k) s.unused present))
    (none_before s.present (cradle_of x.entry k) field spot.1.0) (by_register there.0 there.1 there.2 spot stands)
  where
    draws_home : (b : Bool) → b ≡ false → DrawsHome t.home (if b then quiet (record (counted x.entry) { routine = Zeroes k (field + 1) }) else node_made Optimistic t.target t.setting.sizes (cradle_of x.entry k) (counted x.entry)).signs s.unused → t.home s.unused ≡ cradle_of x.entry k
    draws_home true is home = absurd (let z : true ≡ false = is in cc)
    draws_home false is home = home.0

    by_register : (d : Reg) (kind : ℕ) → instr_in t.target x.entry ≡ Some (Plain (instr.New d kind)) → HoldsAt t s c x (Zeroes k field) → CoreStands t.target t.setting x.entry (Zeroes k field)
        → KeptWith t c s x x.names (set_zeroed t.target x.entry x.was_set k (nat_lt (field + 1) (zero_count t.target (instr_in t.target x.entry)))) (store s.memory (FieldOf (cradle_of x.entry k) field) 0) (core_zeroed Optimistic t.target t.setting.sizes k field (counted x.entry))
        (named_at (nat_lt (field + 1) (zero_count t.target (instr_in t.target x.entry))) (cradle_of x.entry k) s.unused (put s.present (cradle_of x.entry k) 0))
    by_register (Num r) kind is spot stands =
        let at = spot.2 in
        let here = sym (instr_is t s c x (spot_of x.entry.hand) at.0 at.1) ∙ is in
        absurd (let z : true ≡ false = kind_right at.0.walk.method (erasing w.plan.compiled) x.entry.hand.at (instr.New (Num r) kind) here in cc)
    by_register (Ref r) kind is spot stands =
        let at = spot.2 in
        let m : Trail t = at.0 in
        let walks : Walks t s c x (spot_of x.entry.hand) m = at.1 in
        let here = sym (instr_is t s c x (spot_of x.entry.hand) m walks) ∙ is in
        let sane = sane_here t s c x (spot_of x.entry.hand) m (Plain (instr.New (Ref r) kind)) w.plan.sane walks here in
        let less : r < 8 = (let limit : nat_lt r 8 ≡ true = (and_parts (nat_lt r 8) (nat_lt kind (length t.target.kinds)) sane.limits).0 in grind (arith, nat_tests, limit)) in
        let zeroing : Zeroing t s c x m r k field = record {
          plan = w.plan;
          shared_holds = w.shared_holds;
          base = w.caller_holds.base;
          walks = walks;
          gets = at.3;
          held = spot.0;
          zeros = spot.1;
          empty = spot.3;
          kind = kind;
          here = here;
          number = stands.1 ∙ ap (λ code. cradle_number code x.entry.hand.at) (code_is t s c x (spot_of x.entry.hand) m walks);
          generator = sane.own.news refl;
        } in
        new_stores t c s x m r k field zeroing at.2 is (λ ends. record {
          zeroing = zeroing_on t s c (counted_caller x) m r k field (zeroing_moved t s c x m r k field zeroing);
          stands = at.2;
          home = draws_home (nat_lt (field + 1) (zero_count t.target (instr_in t.target x.entry))) ends w.home;
          counted = subst (λ (n : ℕ). length (blank_fields t.text n) ≤ field + 1)
              (sym (zeroing_kind t s c (counted_caller x) m r k field (zeroing_moved t s c x m r k field zeroing) ∙ moved_kind t s c x m r k field zeroing))
              (all_zeroed t r kind field (ap (λ (text : Text). text.fields) w.plan.compiled.barred.erases) (ap (λ (o : Option TargetInstr). nat_lt (field + 1) (zero_count t.target o)) (sym is) ∙ ends));
          register = put_there m.mirror r s.unused (let same : length x.entry.hand.registers.references ≡ length m.mirror.references = walks.ahead.sized.1 in let eight : length x.entry.hand.registers.references ≡ 8 = w.belongs.hand.registers.references in omega (arith, less, same, eight));
        })
