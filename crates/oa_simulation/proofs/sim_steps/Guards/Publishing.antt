-- A guard is published.
use Rattle.std.proofs.Common.{ℕ, ◌≡◌, ◌≢◌, ◌==◌, ◌+◌, ◌<◌, ◌⊎◌, ◌∙◌, ◌&&◌, ◌||◌, not, Bool, true, false, List, [], ◌∷◌, length, Option, Some, None, arith, inl, inr, ⊎_elim, sym, ap, subst, refl, if◌then◌else◌}
use Rattle.std.specs.Prelude.{slice_get}
use Rattle.std.proofs.lemmas.Bool.Decides.{nat_tests, eqb_tells}
use Rattle.norm_lang.specs.declared.text.Reg.TheVariants.{Ref}
use Rattle.norm_lang.specs.declared.text.Instr.{Instr}
use Rattle.norm_lang.specs.Flow.{passed}
use Rattle.norm_lang.specs.Local.{Spot}
use Rattle.norm_lang.specs.RegisterUse.{sets}
use Rattle.target_code.specs.declared.target.TargetInstr.{TargetInstr}
use Rattle.target_code.specs.declared.target.TargetInstr.TheVariants.{Plain, Check, Guard}
use Rattle.target_code.specs.declared.target.Target.{Target}
use Rattle.target_code.specs.Barred.{GuardDropped}
use Rattle.target_code.specs.Flaws.{GuardState, Free, Published, Validated, Dropped, guard_after, fetches}
use Rattle.target_code.specs.Keeping.{keeps}
use Rattle.target_code.proofs.Keeping.{keeps_is_kept}
use Rattle.norm_lang.specs.declared.text.Text.{Text}
use Rattle.guard_words.specs.Guards.{guard_at, with_guard}
use Rattle.source_machine.specs.MethodRuns.{put}
use Rattle.source_machine.specs.Proper.{has}
use Rattle.source_machine.proofs.Places.{put_other}
use Rattle.run_ahead.specs.Agreeing.{Agree}
use Rattle.target_laws.specs.Trusted.{Trust, Trusted, Unchecked, Spoilt, carried_in, carried_by, trust_along, trust_after, trust_in_set, trust_at_start, confirmed}
use Rattle.run_ahead.specs.Ahead.{erasing, AsTrusted}
use Rattle.target_laws.specs.Methods.{Method, code_in}
use Rattle.target_code.specs.PathStates.{over_plain, is_fresh_along}
use Rattle.run_ahead.specs.Guards.{GuardStands}
use Rattle.run_ahead.specs.Known.{IsGot, is_set_in}
use Rattle.run_ahead.proofs.Quiet.{guard_keeps}
use Rattle.run_ahead.proofs.Getting.{guard_got}
use Rattle.target_laws.proofs.Used.{has_none}
use Rattle.norm_lang.specs.Freshness.{fresh_after}
use Rattle.norm_lang.specs.RegisterUse.{set_after}
use Rattle.norm_lang.specs.Registers.{node_in}
use Rattle.oa_simulation.specs.sim_relation.Views.{Plan, IsPlan, Shared, Caller}
use Rattle.oa_simulation.specs.sim_relation.Callers.{Calm, Trail, Walks, Running, counts, guard_state, spared, spot_of}
use Rattle.oa_simulation.specs.sim_relation.Steps.{hazarded, regarded, with_names, is_counted}
use Rattle.oa_simulation.proofs.sim_steps.Walks.Along.{made_before}
use Rattle.oa_simulation.proofs.sim_relation.Codes.{blank}
use Rattle.oa_simulation.proofs.sim_steps.Guards.Guarding.{kept_hazarded, guard_here, guard_other, protects_more}
use Rattle.oa_simulation.proofs.sim_steps.Walks.Local.{at_spot}

-- a register that was carried over or set isn't spoilt
unspoilt_set : (i : Instr) → trust_in_set i ≡ Spoilt → ⊥
unspoilt_set i = of (fetches i) where
  of : (b : Bool) → (if b then Unchecked else Trusted) ≡ Spoilt → ⊥
  of true is = let z : Unchecked ≡ Spoilt = is in cc
  of false is = let z : Trusted ≡ Spoilt = is in cc

unspoilt_confirmed : (was : Trust) → (was ≡ Spoilt → ⊥) → confirmed was ≡ Spoilt → ⊥
unspoilt_confirmed Trusted old is = let z : Trusted ≡ Spoilt = is in cc
unspoilt_confirmed Unchecked old is = let z : Trusted ≡ Spoilt = is in cc
unspoilt_confirmed Spoilt old is = old refl

pub unspoilt : {target : Target} {text : Text} (m : Method target text) (r : ℕ) (path : List ℕ) → (carried_in m (Ref r) || is_set_in m path r) ≡ true → trust_along m path (Ref r) ≡ Spoilt → ⊥
unspoilt m r [] live = of (carried_in m (Ref r)) live where
  of : (b : Bool) → (b || false) ≡ true → trust_at_start b ≡ Spoilt → ⊥
  of true live is = let z : Trusted ≡ Spoilt = is in cc
  of false live is = let z : false ≡ true = live in cc
unspoilt m r (last ∷ path) live = of (slice_get (code_in m) last) live (unspoilt m r path) where
  by_set : (i : Instr) (b : Bool) → sets (Ref r) i ≡ b → (carried_in m (Ref r) || (b || is_set_in m path r)) ≡ true → ((carried_in m (Ref r) || is_set_in m path r) ≡ true → trust_along m path (Ref r) ≡ Spoilt → ⊥)
      → (if b then trust_in_set i else trust_along m path (Ref r)) ≡ Spoilt → ⊥
  by_set i true is live old spoilt = unspoilt_set i spoilt
  by_set i false is live old spoilt = old live spoilt

  of : (o : Option TargetInstr) → (carried_in m (Ref r) || passed (over_plain (set_after (Ref r))) o (is_set_in m path r)) ≡ true → ((carried_in m (Ref r) || is_set_in m path r) ≡ true → trust_along m path (Ref r) ≡ Spoilt → ⊥)
      → passed (trust_after (Ref r)) o (trust_along m path (Ref r)) ≡ Spoilt → ⊥
  of None live old = old live
  of (Some (Plain i)) live old = by_set i (sets (Ref r) i) refl live old
  of (Some Check) live old = unspoilt_confirmed (trust_along m path (Ref r)) (old live)
  of (Some (Guard a)) live old = old live

told_calm : (calm : Type 0) (trust : Trust) (A : Type 0) → calm → (trust ≡ Spoilt → ⊥) → AsTrusted calm trust A → A
told_calm calm Trusted A now live told = told
told_calm calm Unchecked A now live told = told now
told_calm calm Spoilt A now live told = absurd (live refl)

-- the name that a guard gets: none if it doesn't count
abbrev pub guard_name : (t : Plan) → Trail t → ℕ → ℕ
guard_name t m k = if counts t m.walk m.path k then node_in m.mirror k else 0

live_register : (a b c' : Bool) → (not a || b) ≡ true → (a ≡ false → c' ≡ true) → (c' || b) ≡ true
live_register false b c' counted carried = rw (carried refl) refl
live_register true true true counted carried = refl
live_register true true false counted carried = refl
live_register true false c' counted carried = absurd (let z : false ≡ true = counted in cc)

-- while the caller isn't warned, a register whose guard counts has its name's slot
pub guard_agrees : (t : Plan) (s : Shared) (c : ℕ) (x : Caller) (k : ℕ) (m : Trail t) → Walks t s c x (spot_of x.entry.hand) m → Calm s c x → counts t m.walk m.path k ≡ true → Agree t.home x.entry.hand.registers m.mirror (Ref k)
guard_agrees t s c x k m w calm counted = told_calm (Calm s c x) (trust_along m.walk.method m.path (Ref k)) (Agree t.home x.entry.hand.registers m.mirror (Ref k)) calm
    (unspoilt m.walk.method k m.path (live_register m.walk.method.wrapup (is_set_in m.walk.method m.path k) (carried_in m.walk.method (Ref k)) counted (carried m.walk.method.wrapup refl))) (w.ahead.agree (Ref k))
  where
    carried : (a : Bool) → m.walk.method.wrapup ≡ a → a ≡ false → carried_in m.walk.method (Ref k) ≡ true
    carried true is gen = absurd (let z : true ≡ false = gen in cc)
    carried false is gen = ap (λ (b : Bool). carried_by b m.walk.method.op (Ref k)) is

-- a `grd` that counts, by what the run has set
run_counts : (t : Plan) (s : Shared) (c : ℕ) (x : Caller) (k : ℕ) (m : Trail t) → Walks t s c x (spot_of x.entry.hand) m → is_counted x.entry x.was_set k ≡ counts t m.walk m.path k
run_counts t s c x k m w = ap (λ (a : Bool). not a || x.was_set k) w.wrapup ∙ ap (λ (b : Bool). not m.walk.method.wrapup || b) (w.was_set k)

-- so it gets a name, if the register isn't null
pub guard_named : (t : Plan) (s : Shared) (c : ℕ) (x : Caller) (k : ℕ) (m : Trail t) → t.home 0 ≡ 0 → Walks t s c x (spot_of x.entry.hand) m → is_counted x.entry x.was_set k ≡ true → Calm s c x → node_in x.entry.hand.registers k ≢ 0 → guard_name t m k ≢ 0
guard_named t s c x k m null_home w counts calm some none =
    let counted = sym (run_counts t s c x k m w) ∙ counts in
    let name : guard_name t m k ≡ node_in m.mirror k = rw counted refl in
    some ((guard_agrees t s c x k m w calm counted).0 ∙ (ap t.home (sym name ∙ none) ∙ null_home))

-- a wrap-up publishes no guard of a kept register
unkept : (t : Plan) (m : Trail t) (at k : ℕ) → IsPlan t → slice_get (code_in m.walk.method) at ≡ Some (Guard (Ref k)) → spared t m.walk k ≡ false
unkept t m at k plan is = of m.walk.method.wrapup refl (keeps m.walk.method.op (Ref k)) refl where
  of : (a : Bool) → m.walk.method.wrapup ≡ a → (b : Bool) → keeps m.walk.method.op (Ref k) ≡ b → (a && b) ≡ false
  of false wrap b kept = refl
  of true wrap false kept = refl
  of true wrap true kept = absurd (has_none m.walk.method plan.compiled.barred.flawless GuardDropped at (Guard (Ref k)) is
      (inr (wrap, (Ref k, (let same : (k == k) ≡ true = grind (arith, nat_tests) in same), (keeps_is_kept m.walk.method.op (Ref k)).0 kept))))

pub running_guarded : (t : Plan) (s : Shared) (c : ℕ) (x : Caller) (k : ℕ) → IsPlan t → (walk : Running t s c x (spot_of x.entry.hand)) → k < length x.entry.hand.guards.slots
    → slice_get (code_in walk.0.walk.method) x.entry.hand.at ≡ Some (Guard (Ref k))
    → let next : Spot = record { at = x.entry.hand.at + 1; registers = x.entry.hand.registers } in
    Running t (hazarded s c k (node_in x.entry.hand.registers k)) c (at_spot (regarded x k (node_in x.entry.hand.registers k) (guard_name t walk.0 k)) next) next
running_guarded t s c x k plan walk lt is = (
  record { walk = walk.0.walk; path = x.entry.hand.at ∷ walk.0.path; mirror = walk.0.mirror; there = walk.0.there },
  record {
    call = w.call;
    wrapup = w.wrapup;
    was_set = λ r. w.was_set r ∙ sym (set_still r);
    first = w.first;
    number = w.number;
    start = w.start;
    generator = w.generator;
    ahead = guard_keeps walk.0.walk.method t.home (Calm s c x) walk.0.path (spot_of x.entry.hand) walk.0.mirror walk.0.there (Ref k) (erasing plan.compiled) is w.ahead;
    kept = kept_hazarded t x k (node_in x.entry.hand.registers k) (guard_name t walk.0 k) walk.0.walk (unkept t walk.0 x.entry.hand.at k plan is) w.kept;
    shown = w.shown;
    sound = record {
      word = λ calm r. word calm r (eqb_tells r k);
      pairs = λ o e g free some some'.
          let p = protects_more s c k (node_in x.entry.hand.registers k) c o some in
          let q = protects_more s c k (node_in x.entry.hand.registers k) c e some' in
          rw (p.0, q.0) (w.sound.pairs o e g free (λ z. some (p.0 ∙ z)) (λ z. some' (q.0 ∙ z)));
      apart = λ gen r e trusted some.
          let p = protects_more s c k (node_in x.entry.hand.registers k) c e some in
          rw p.0 (w.sound.apart gen r e (subst (λ o. passed (trust_after (Ref r)) o (trust_along walk.0.walk.method walk.0.path (Ref r)) ≡ Trusted) is trusted) (λ z. some (p.0 ∙ z)));
    };
  },
  walk.2,
  record {
    got = guard_got walk.0.walk.method walk.0.path x.entry.hand.at (Ref k) walk.0.walk.started walk.0.mirror x.held.got is walk.3.got;
    named = λ r some free. named r (eqb_tells r k) some free;
    shown = λ gen r shut. walk.3.shown gen r (subst (λ o. passed (over_plain (fresh_after (Ref r))) o (is_fresh_along (code_in walk.0.walk.method) walk.0.path (Ref r)) ≡ false) is shut);
    fresh = λ gen r fresh. walk.3.fresh gen r (subst (λ o. passed (over_plain (fresh_after (Ref r))) o (is_fresh_along (code_in walk.0.walk.method) walk.0.path (Ref r)) ≡ true) is fresh);
    made = λ n i got held here. made_before (code_in walk.0.walk.method) x.entry.hand.at walk.0.path i (walk.3.made n i got held here);
  },
  (λ r counted. guards r (eqb_tells r k) (sym (counts_is r) ∙ counted)),
) where
  w : Walks t s c x (spot_of x.entry.hand) walk.0
  w = walk.1

  set_still : (r : ℕ) → is_set_in walk.0.walk.method (x.entry.hand.at ∷ walk.0.path) r ≡ is_set_in walk.0.walk.method walk.0.path r
  set_still r = ap (λ o. passed (over_plain (set_after (Ref r))) o (is_set_in walk.0.walk.method walk.0.path r)) is

  counts_is : (r : ℕ) → counts t walk.0.walk (x.entry.hand.at ∷ walk.0.path) r ≡ counts t walk.0.walk walk.0.path r
  counts_is r = ap (λ (b : Bool). not walk.0.walk.method.wrapup || b) (set_still r)

  -- a guard with a name counts
  name_counts : (b : Bool) (n : ℕ) → (if b then n else 0) ≢ 0 → b ≡ true
  name_counts true n some = refl
  name_counts false n some = absurd (some refl)

  agrees : Calm s c x → counts t walk.0.walk walk.0.path k ≡ true → Agree t.home x.entry.hand.registers walk.0.mirror (Ref k)
  agrees calm counted = guard_agrees t s c x k walk.0 w calm counted

  word : Calm s c x → (r : ℕ) → (((r == k) ≡ true) × (r ≡ k)) ⊎ (((r == k) ≡ false) × (r ≢ k)) → put x.names.name k (guard_name t walk.0 k) r ≢ 0 → put x.names.valid k false r ≡ false
      → guard_at (with_guard x.entry.hand.guards k (node_in x.entry.hand.registers k)) r ≡ t.home (put x.names.name k (guard_name t walk.0 k) r)
  word calm r (inl e) = rw e.0 (λ some invalid.
      let counted = name_counts (counts t walk.0.walk walk.0.path k) (node_in walk.0.mirror k) some in
      ap (λ (i : ℕ). guard_at (with_guard x.entry.hand.guards k (node_in x.entry.hand.registers k)) i) e.1 ∙ (guard_here x.entry.hand.guards k (node_in x.entry.hand.registers k) lt ∙ ((agrees calm counted).0 ∙ rw counted refl)))
  word calm r (inr e) = rw e.0 (λ some invalid. guard_other x.entry.hand.guards k (node_in x.entry.hand.registers k) r e.1 ∙ w.sound.word calm r some invalid)

  got_name : counts t walk.0.walk walk.0.path k ≡ true → node_in walk.0.mirror k ≢ 0 → has (node_in walk.0.mirror k) x.held.got ≡ true
  got_name counted some = by_set (is_set_in walk.0.walk.method walk.0.path k) refl walk.0.walk.method.wrapup refl where
    among : IsGot x.held.got (node_in walk.0.mirror k) → has (node_in walk.0.mirror k) x.held.got ≡ true
    among (inl z) = absurd (some z)
    among (inr a) = a

    by_set : (b : Bool) → is_set_in walk.0.walk.method walk.0.path k ≡ b → (a : Bool) → walk.0.walk.method.wrapup ≡ a → has (node_in walk.0.mirror k) x.held.got ≡ true
    by_set true set a wrap = among (walk.3.got.set k set)
    by_set false unset false wrap = absurd (some (walk.3.got.unset k unset ∙ blank walk.0.walk w.generator wrap k))
    by_set false unset true wrap = absurd (let z : false ≡ true = sym (ap (λ (b : Bool). not b || is_set_in walk.0.walk.method walk.0.path k) wrap ∙ unset) ∙ counted in cc)

  named : (r : ℕ) → (((r == k) ≡ true) × (r ≡ k)) ⊎ (((r == k) ≡ false) × (r ≢ k)) → put x.names.name k (guard_name t walk.0 k) r ≢ 0 → spared t walk.0.walk r ≡ false → has (put x.names.name k (guard_name t walk.0 k) r) x.held.got ≡ true
  named r (inl e) = rw e.0 (λ some free.
      let counted = name_counts (counts t walk.0.walk walk.0.path k) (node_in walk.0.mirror k) some in
      let name : guard_name t walk.0 k ≡ node_in walk.0.mirror k = rw counted refl in
      ap (λ (n : ℕ). has n x.held.got) name ∙ got_name counted (λ z. some (name ∙ z)))
  named r (inr e) = rw e.0 (λ some free. walk.3.named r some free)

  guards : (r : ℕ) → (((r == k) ≡ true) × (r ≡ k)) ⊎ (((r == k) ≡ false) × (r ≢ k)) → counts t walk.0.walk walk.0.path r ≡ true
      → GuardStands (guard_state t walk.0.walk (x.entry.hand.at ∷ walk.0.path) r) walk.0.mirror (with_names x.names k (guard_name t walk.0 k)) r
  guards r (inl e) counted =
      let state : guard_state t walk.0.walk (x.entry.hand.at ∷ walk.0.path) r ≡ Published = ap (λ o. passed (guard_after (Ref r)) o (guard_state t walk.0.walk walk.0.path r)) is ∙ rw e.0 refl in
      let here : counts t walk.0.walk walk.0.path k ≡ true = ap (λ (i : ℕ). counts t walk.0.walk walk.0.path i) (sym e.1) ∙ counted in
      subst (λ (o : GuardState). GuardStands o walk.0.mirror (with_names x.names k (guard_name t walk.0 k)) r) (sym state) (rw e.0 (rw here (ap (λ (i : ℕ). node_in walk.0.mirror i) (sym e.1))))
  guards r (inr e) counted =
      let state : guard_state t walk.0.walk (x.entry.hand.at ∷ walk.0.path) r ≡ guard_state t walk.0.walk walk.0.path r = ap (λ o. passed (guard_after (Ref r)) o (guard_state t walk.0.walk walk.0.path r)) is ∙ rw e.0 refl in
      subst (λ (o : GuardState). GuardStands o walk.0.mirror (with_names x.names k (guard_name t walk.0 k)) r) (sym state)
      (same_row (guard_state t walk.0.walk walk.0.path r) (put_other x.names.name k r (guard_name t walk.0 k) e.1) (put_other x.names.valid k r false e.1) (walk.4 r counted))
    where
      same_row : (was : GuardState) → put x.names.name k (guard_name t walk.0 k) r ≡ x.names.name r → put x.names.valid k false r ≡ x.names.valid r → GuardStands was walk.0.mirror x.names r → GuardStands was walk.0.mirror (with_names x.names k (guard_name t walk.0 k)) r
      same_row Free a b g = tt
      same_row Published a b g = a ∙ g
      same_row Validated a b g = (a ∙ g.0, ⊎_elim (λ (v : x.names.valid r ≡ true). inl (b ∙ v)) (λ (z : x.names.name r ≡ 0). inr (a ∙ z)) g.1)
      same_row Dropped a b g = tt
