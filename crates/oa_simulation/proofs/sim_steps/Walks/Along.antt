-- A method run goes on along one instruction, and what is shared stays.
use Rattle.std.proofs.Common.{ℕ, ◌≡◌, ◌≢◌, ◌==◌, if◌then◌else◌, ◌∙◌, ◌||◌, not, Bool, true, false, List, ◌∷◌, Some, inl, inr, ⊎_elim, sym, ap, subst, refl}
use Rattle.std.specs.Prelude.{slice_get}
use Rattle.norm_lang.specs.declared.text.Reg.TheVariants.{Ref}
use Rattle.norm_lang.specs.declared.text.Instr.{Instr}
use Rattle.norm_lang.specs.declared.registers.Registers.{Registers}
use Rattle.norm_lang.specs.Grammar.{is_new}
use Rattle.norm_lang.specs.Flow.{passed}
use Rattle.norm_lang.specs.Local.{Spot}
use Rattle.norm_lang.specs.RegisterUse.{sets, destination}
use Rattle.target_code.specs.declared.target.TargetInstr.{TargetInstr}
use Rattle.target_code.specs.declared.target.TargetInstr.TheVariants.{Plain}
use Rattle.target_code.specs.Flaws.{GuardState, Free, Published, Validated, Dropped, dropped, guard_after}
use Rattle.source_machine.specs.MethodRuns.{MethodRun}
use Rattle.source_machine.specs.Proper.{has}
use Rattle.run_ahead.specs.Agreeing.{Changes}
use Rattle.target_laws.specs.Trusted.{Trusted, trust_along, trust_after, trust_in_set}
use Rattle.target_laws.specs.Methods.{code_in}
use Rattle.target_code.specs.PathStates.{over_plain, is_fresh_along}
use Rattle.run_ahead.specs.Ahead.{IsHeld, Ahead}
use Rattle.run_ahead.specs.Guards.{GuardRow, GuardStands}
use Rattle.run_ahead.specs.Known.{AreGot, is_set_in}
use Rattle.norm_lang.specs.Freshness.{fresh_after}
use Rattle.norm_lang.specs.RegisterUse.{set_after}
use Rattle.norm_lang.specs.Registers.{node_in}
use Rattle.oa_simulation.specs.sim_relation.Views.{Plan, Held, Shared, Caller, Resident, Apart}
use Rattle.oa_simulation.specs.sim_relation.Shared.{SharedHolds}
use Rattle.oa_simulation.specs.sim_relation.Callers.{Own, Known, Shown, Calm, Base, Trail, Walks, Gets, Guards, counts, guard_state, HasMade}
use Rattle.oa_simulation.specs.sim_relation.Steps.{walked}
use Rattle.oa_simulation.specs.sim_relation.WasSet.{set_by}
use Rattle.oa_simulation.proofs.sim_relation.Names.{has_slot_of}

-- null is apart from what is protected
pub null_apart : (t : Plan) (s : Shared) (c e n : ℕ) → t.home 0 ≡ 0 → SharedHolds t s → s.protects c e ≢ 0 → n ≡ 0 → Apart t n (s.protects c e)
null_apart t s c e n null_home f some z same = absurd (has_slot_of t s (s.protects c e) f (f.guard c e some).resident some (sym same ∙ (ap t.home z ∙ null_home)))

pub undone : (was : GuardState) (mirror : Registers) (row : GuardRow) (r : ℕ) → GuardStands (dropped was) mirror row r
undone Free mirror row r = tt
undone _ mirror row r = tt

pub stands_still : (was : GuardState) (mirror mirror' : Registers) (row : GuardRow) (r : ℕ) → node_in mirror' r ≡ node_in mirror r → GuardStands was mirror row r → GuardStands was mirror' row r
stands_still Free mirror mirror' row r same g = tt
stands_still Published mirror mirror' row r same g = g ∙ sym same
stands_still Validated mirror mirror' row r same g = (g.0 ∙ sym same, g.1)
stands_still Dropped mirror mirror' row r same g = tt

pub has_before : (at : ℕ) (path : List ℕ) (i : ℕ) → has i path ≡ true → has i (at ∷ path) ≡ true
has_before at path i is = rw is (or_true (at == i)) where
  or_true : (a : Bool) → (a || true) ≡ true
  or_true true = refl
  or_true false = refl

pub made_before : (code : List TargetInstr) (at : ℕ) (path : List ℕ) (k : ℕ) → HasMade code path k → HasMade code (at ∷ path) k
made_before code at path k made = (made.0, has_before at path made.0 made.1, made.2, made.3)

pub base_walked : (t : Plan) (s : Shared) (c : ℕ) (x : Caller) (next : Spot) (accessed : Bool) (held : MethodRun) (were : ℕ → Bool) → held.old ≡ x.held.old → ((n : ℕ) → has n held.got ≡ true → Known t s c n) → Base t s c x → Base t s c (walked x next accessed held were)
base_walked t s c x next accessed held were same known b = record {
  number = b.number;
  seen = b.seen;
  hazard = b.hazard;
  protects = b.protects;
  cradle = b.cradle;
  known = known;
  old = λ n p is lt. ap (λ (ns : List ℕ). has n ns) same ∙ b.old n p is lt;
}

pub walks_along : (t : Plan) (s : Shared) (c : ℕ) (x : Caller) (core next : Spot) (m : Trail t) (i : Instr) (given : ℕ) (Set : Type 0 → Type 0) (mirror' : Registers) (there' : Spot) (accessed : Bool) (held : MethodRun)
    → t.home 0 ≡ 0 → SharedHolds t s → slice_get (code_in m.walk.method) core.at ≡ Some (Plain i)
    → Changes t.home Set (destination i) given core.registers m.mirror next.registers mirror'
    → (trust_in_set i ≡ Trusted → IsHeld (trust_along m.walk.method m.path) m.mirror given)
    → Ahead m.walk.method t.home (Calm s c x) (core.at ∷ m.path) next mirror' there'
    → Walks t s c x core m → Walks t s c (walked x next accessed held (set_by (Some (Plain i)) x.was_set)) next (record { walk = m.walk; path = core.at ∷ m.path; mirror = mirror'; there = there' })
walks_along t s c x core next m i given Set mirror' there' accessed held null_home f is changes trusts ahead w = record {
  call = w.call;
  wrapup = w.wrapup;
  first = w.first;
  number = w.number;
  start = w.start;
  ahead = ahead;
  generator = w.generator;
  kept = w.kept;
  shown = w.shown;
  was_set = λ r. ap (λ (b : Bool). passed (over_plain (set_after (Ref r))) (Some (Plain i)) b) (w.was_set r) ∙ ap (λ o. passed (over_plain (set_after (Ref r))) o (is_set_in m.walk.method m.path r)) (sym is);
  sound = record {
    word = w.sound.word;
    pairs = w.sound.pairs;
    apart = λ gen r e trusted some. by_trust gen r e some (sets (Ref r) i) refl (subst (λ o. passed (trust_after (Ref r)) o (trust_along m.walk.method m.path (Ref r)) ≡ Trusted) is trusted);
  };
} where
  held_apart : m.walk.method.wrapup ≡ false → (e : ℕ) → s.protects c e ≢ 0 → IsHeld (trust_along m.walk.method m.path) m.mirror given → Apart t given (s.protects c e)
  held_apart gen e some (inl z) = null_apart t s c e given null_home f some z
  held_apart gen e some (inr h) = subst (λ (n : ℕ). Apart t n (s.protects c e)) h.2 (w.sound.apart gen h.0 e h.1 some)

  by_trust : m.walk.method.wrapup ≡ false → (r e : ℕ) → s.protects c e ≢ 0 → (b : Bool) → sets (Ref r) i ≡ b → (if sets (Ref r) i then trust_in_set i else trust_along m.walk.method m.path (Ref r)) ≡ Trusted → Apart t (node_in mirror' r) (s.protects c e)
  by_trust gen r e some true set trusted = ⊎_elim
      (λ (z : node_in mirror' r ≡ 0). null_apart t s c e (node_in mirror' r) null_home f some z)
      (λ (g : node_in mirror' r ≡ given). subst (λ (n : ℕ). Apart t n (s.protects c e)) (sym g) (held_apart gen e some (trusts (sym (rw set refl) ∙ trusted))))
      (changes.gives r set)
  by_trust gen r e some false set trusted = subst (λ (n : ℕ). Apart t n (s.protects c e)) (sym (changes.leaves r set)) (w.sound.apart gen r e (sym (rw set refl) ∙ trusted) some)

pub guards_along : (t : Plan) (s : Shared) (c : ℕ) (x : Caller) (core next : Spot) (m : Trail t) (i : Instr) (given : ℕ) (Set : Type 0 → Type 0) (mirror' : Registers) (there' : Spot) (accessed : Bool) (held : MethodRun)
    → slice_get (code_in m.walk.method) core.at ≡ Some (Plain i) → is_new i ≡ false
    → Changes t.home Set (destination i) given core.registers m.mirror next.registers mirror'
    → Guards t x m → Guards t (walked x next accessed held x.was_set) (record { walk = m.walk; path = core.at ∷ m.path; mirror = mirror'; there = there' })
guards_along t s c x core next m i given Set mirror' there' accessed held is old changes g r counted = by_guard r (sets (Ref r) i) refl counted where
  state_is : (r : ℕ) → guard_state t m.walk (core.at ∷ m.path) r ≡ (if sets (Ref r) i || is_new i then dropped (guard_state t m.walk m.path r) else guard_state t m.walk m.path r)
  state_is r = ap (λ o. passed (guard_after (Ref r)) o (guard_state t m.walk m.path r)) is

  set_is : (r : ℕ) → is_set_in m.walk.method (core.at ∷ m.path) r ≡ (sets (Ref r) i || is_set_in m.walk.method m.path r)
  set_is r = ap (λ o. passed (over_plain (set_after (Ref r))) o (is_set_in m.walk.method m.path r)) is

  by_guard : (r : ℕ) (b : Bool) → sets (Ref r) i ≡ b → counts t m.walk (core.at ∷ m.path) r ≡ true → GuardStands (guard_state t m.walk (core.at ∷ m.path) r) mirror' x.names r
  by_guard r true set counted =
      subst (λ state. GuardStands state mirror' x.names r) (sym (state_is r ∙ rw set refl)) (undone (guard_state t m.walk m.path r) mirror' x.names r)
  by_guard r false set counted =
      subst (λ state. GuardStands state mirror' x.names r) (sym (state_is r ∙ rw (set, old) refl))
      (stands_still (guard_state t m.walk m.path r) m.mirror mirror' x.names r (changes.leaves r set) (g r (ap (λ (b : Bool). not m.walk.method.wrapup || b) (sym (set_is r ∙ rw set refl)) ∙ counted)))

pub gets_along : (t : Plan) (s : Shared) (c : ℕ) (x : Caller) (core next : Spot) (m : Trail t) (i : Instr) (given : ℕ) (Set : Type 0 → Type 0) (mirror' : Registers) (there' : Spot) (accessed : Bool) (held : MethodRun)
    → slice_get (code_in m.walk.method) core.at ≡ Some (Plain i) → is_new i ≡ false
    → Changes t.home Set (destination i) given core.registers m.mirror next.registers mirror'
    → AreGot m.walk.method (core.at ∷ m.path) m.walk.started mirror' held.got
    → ((n : ℕ) → has n x.held.got ≡ true → has n held.got ≡ true)
    → ((n k : ℕ) → has n held.got ≡ true → s.owner (t.home n) ≡ Held c k → Resident t s n → has n x.held.got ≡ true)
    → (m.walk.method.wrapup ≡ false → (r : ℕ) → sets (Ref r) i ≡ true → Shown s given)
    → Gets t s c x m → Gets t s c (walked x next accessed held x.was_set) (record { walk = m.walk; path = core.at ∷ m.path; mirror = mirror'; there = there' })
gets_along t s c x core next m i given Set mirror' there' accessed held is old changes got more own shows g = record {
  fresh = λ gen r is_fresh. by_fresh gen r (sets (Ref r) i) refl (subst (λ o. passed (over_plain (fresh_after (Ref r))) o (is_fresh_along (code_in m.walk.method) m.path (Ref r)) ≡ true) is is_fresh);
  shown = λ gen r shut. by_shown gen r (sets (Ref r) i) refl (subst (λ o. passed (over_plain (fresh_after (Ref r))) o (is_fresh_along (code_in m.walk.method) m.path (Ref r)) ≡ false) is shut);
  got = got;
  named = λ r some free. more (x.names.name r) (g.named r some free);
  made = λ n k has_n held_k here. made_before (code_in m.walk.method) core.at m.path k (g.made n k (own n k has_n held_k here) held_k here);
} where
  by_shown : m.walk.method.wrapup ≡ false → (r : ℕ) (b : Bool) → sets (Ref r) i ≡ b → (if sets (Ref r) i then is_new i else is_fresh_along (code_in m.walk.method) m.path (Ref r)) ≡ false → Shown s (node_in mirror' r)
  by_shown gen r true set shut = ⊎_elim (λ (z : node_in mirror' r ≡ 0). inl z) (λ (is : node_in mirror' r ≡ given). subst (λ (n : ℕ). Shown s n) (sym is) (shows gen r set)) (changes.gives r set)
  by_shown gen r false set shut = subst (λ (n : ℕ). Shown s n) (sym (changes.leaves r set)) (g.shown gen r (sym (rw set refl) ∙ shut))

  by_fresh : m.walk.method.wrapup ≡ false → (r : ℕ) (b : Bool) → sets (Ref r) i ≡ b → (if sets (Ref r) i then is_new i else is_fresh_along (code_in m.walk.method) m.path (Ref r)) ≡ true → Own t s c (node_in mirror' r)
  by_fresh gen r true set fresh = absurd (let z : false ≡ true = sym old ∙ (sym (rw set refl) ∙ fresh) in cc)
  by_fresh gen r false set fresh = subst (λ (n : ℕ). Own t s c n) (sym (changes.leaves r set)) (g.fresh gen r (sym (rw set refl) ∙ fresh))
