-- A check that passes validates the guards.
use Rattle.std.proofs.Common.{ℕ, zero, suc, ◌≡◌, ◌≢◌, ◌==◌, ◌+◌, ◌≤◌, ◌<◌, ◌⊎◌, ◌∙◌, ◌||◌, not, Bool, true, false, ◌∷◌, length, Some, arith, inl, inr, ⊎_elim, sym, ap, subst, refl, if◌then◌else◌}
use Rattle.std.specs.Prelude.{slice_get}
use Rattle.std.proofs.lemmas.Bool.{cases_eq, cases_lt}
use Rattle.std.proofs.lemmas.Bool.Decides.{nat_tests}
use Rattle.norm_lang.specs.declared.text.Reg.TheVariants.{Ref}
use Rattle.norm_lang.specs.Flow.{passed}
use Rattle.norm_lang.specs.Local.{Spot}
use Rattle.target_code.specs.declared.target.TargetInstr.TheVariants.{Check}
use Rattle.target_code.specs.Flaws.{GuardState, guard_after}
use Rattle.oa_words.specs.Words.{Warning, Hazard}
use Rattle.guard_words.specs.Guards.{guard_at, pass_check}
use Rattle.source_machine.specs.declared.state.Value.{Value}
use Rattle.source_machine.specs.declared.state.Value.TheVariants.{Number, Node}
use Rattle.source_machine.specs.MethodRuns.{put, name_in}
use Rattle.source_machine.specs.Proper.{has, field_of, itself, onward}
use Rattle.source_machine.proofs.Places.{put_same, put_other}
use Rattle.target_laws.specs.Trusted.{Trust, Trusted, Unchecked, Spoilt, confirmed, trust_along, trust_after}
use Rattle.target_laws.specs.Methods.{code_in}
use Rattle.target_code.specs.PathStates.{over_plain, is_fresh_along}
use Rattle.run_ahead.specs.Ahead.{erasing, IsHoped}
use Rattle.run_ahead.specs.Guards.{GuardStands, validated}
use Rattle.run_ahead.specs.Known.{is_set_in}
use Rattle.run_ahead.proofs.Quiet.{check_keeps}
use Rattle.run_ahead.proofs.Getting.{check_got}
use Rattle.run_ahead.proofs.GuardRows.{guards_keep}
use Rattle.norm_lang.specs.Freshness.{fresh_after}
use Rattle.norm_lang.specs.RegisterUse.{set_after}
use Rattle.norm_lang.specs.Registers.{node_in}
use Rattle.oa_simulation.specs.sim_relation.Views.{Plan, IsPlan, Held, Shared, Caller, link, Resident}
use Rattle.oa_simulation.specs.sim_relation.Shared.{SharedHolds, Guarded}
use Rattle.oa_simulation.specs.sim_relation.Callers.{Known, Calm, Base, Trail, Walks, Gets, Guards, Running, guard_state, spared, spot_of}
use Rattle.oa_simulation.specs.sim_relation.MayChange.{MayChange}
use Rattle.oa_simulation.specs.sim_relation.Allowing.{IsProperFor}
use Rattle.oa_simulation.proofs.sim_relation.Names.{residents_apart, null_resident, has_slot_of}
use Rattle.oa_simulation.proofs.sim_steps.Walks.Along.{made_before}
use Rattle.oa_simulation.proofs.sim_steps.Walks.Local.{at_spot}
use Rattle.oa_simulation.proofs.sim_relation.Clearing.{past_end}
use Rattle.oa_simulation.proofs.sim_relation.Codes.{blank}
use Rattle.oa_simulation.proofs.sim_steps.Guards.Residents.{resident, hoped_resident, protects_name}

-- the caller after a check that passed, and what is shared
abbrev pub checked_caller : Caller → Caller
checked_caller x = record x { names = validated x.names; entry = record x.entry { hand = record x.entry.hand { guards = pass_check x.entry.hand.guards } } }

abbrev pub checked_shared : Shared → ℕ → Caller → Shared
checked_shared s c x = record s { protects = put s.protects c x.names.name }

-- what a passing check needs
pub record Passing (t : Plan) (s : Shared) (c : ℕ) (x : Caller) (m : Trail t) : Type 0 where
  pub plan : IsPlan t
  pub shared_holds : SharedHolds t s
  pub base : Base t s c x
  pub walks : Walks t s c x (spot_of x.entry.hand) m
  pub gets : Gets t s c x m
  pub below : c < t.setting.sizes.callers
  pub calm : Calm s c x
  pub proper : IsProperFor s x
  pub count : length x.entry.hand.guards.slots ≡ 8

-- a guard that has a name: it protected it before, or the run has got the name, and the guard is its slot
pub named_guard : (t : Plan) (s : Shared) (c : ℕ) (x : Caller) (m : Trail t) (r : ℕ) → Passing t s c x m → x.names.name r ≢ 0
    → (s.protects c r ≡ x.names.name r) ⊎ ((has (x.names.name r) x.held.got ≡ true) × (guard_at x.entry.hand.guards r ≡ t.home (x.names.name r)))
named_guard t s c x m r w some = of (x.names.valid r) refl where
  by_spared : (b : Bool) → spared t m.walk r ≡ b → x.names.valid r ≡ false → has (x.names.name r) x.held.got ≡ true
  by_spared true is invalid = absurd (⊎_elim (λ (v : x.names.valid r ≡ true). let z : true ≡ false = sym v ∙ invalid in cc) (λ (z : x.names.name r ≡ 0). some z) (w.walks.kept r is).1)
  by_spared false is invalid = w.gets.named r some is

  of : (v : Bool) → x.names.valid r ≡ v → (s.protects c r ≡ x.names.name r) ⊎ ((has (x.names.name r) x.held.got ≡ true) × (guard_at x.entry.hand.guards r ≡ t.home (x.names.name r)))
  of true is = inl (protects_name t s c x r w.base is)
  of false is = inr (by_spared (spared t m.walk r) refl is, w.walks.sound.word w.calm r some is)

pub named_holds : (t : Plan) (s : Shared) (c : ℕ) (x : Caller) (m : Trail t) (r : ℕ) → Passing t s c x m → x.names.name r ≢ 0
    → Resident t s (x.names.name r) × (s.memory (Hazard c r) ≡ t.home (x.names.name r)) × (r < 8) × ((s.public (x.names.name r) ≡ true) ⊎ ((k : ℕ) × (s.owner (t.home (x.names.name r)) ≡ Held c k)))
named_holds t s c x m r w some = ⊎_elim
    (λ (p : s.protects c r ≡ x.names.name r).
    let there : s.protects c r ≢ 0 = λ z. some (sym p ∙ z) in
    let g = w.shared_holds.guard c r there in
    (subst (λ (n : ℕ). Resident t s n) p g.resident, g.word ∙ ap t.home p, g.register, subst (λ (n : ℕ). (s.public n ≡ true) ⊎ ((k : ℕ) × (s.owner (t.home n) ≡ Held c k))) p (w.shared_holds.mine c r there)))
    (λ (new : (has (x.names.name r) x.held.got ≡ true) × (guard_at x.entry.hand.guards r ≡ t.home (x.names.name r))).
    let here : Resident t s (x.names.name r) = resident t s c x w.plan.null w.shared_holds w.base w.below w.calm w.proper (x.names.name r) (x.names.name r) new.0 (itself (x.names.name r)) in
    (here, w.base.hazard r ∙ new.1, low new.1 here, mine (w.base.known (x.names.name r) new.0)))
    (named_guard t s c x m r w some)
  where
    low : guard_at x.entry.hand.guards r ≡ t.home (x.names.name r) → Resident t s (x.names.name r) → r < 8
    low is here = ⊎_elim (λ (l : r < 8). l) (λ (ge : 8 ≤ r). absurd (has_slot_of t s (x.names.name r) w.shared_holds here some (sym is ∙ past_end x.entry.hand.guards.slots r (omega (arith, w.count, ge))))) (cases_lt r 8)

    mine : Known t s c (x.names.name r) → (s.public (x.names.name r) ≡ true) ⊎ ((k : ℕ) × (s.owner (t.home (x.names.name r)) ≡ Held c k))
    mine (inl z) = absurd (some z)
    mine (inr (inl p)) = inl p
    mine (inr (inr own)) = inr (own.0, own.1)

pub fine_passed : (t : Plan) (s : Shared) (c : ℕ) (x : Caller) (m : Trail t) → Passing t s c x m → SharedHolds t (checked_shared s c x)
fine_passed t s c x m w = record {
  warning = f.warning;
  tag = f.tag;
  tagged = f.tagged;
  slot = f.slot;
  home = f.home;
  none_there = f.none_there;
  null_stays = f.null_stays;
  gone = f.gone;
  public = f.public;
  placed = f.placed;
  store = f.store;
  unused = f.unused;
  unused_some = f.unused_some;
  typed = f.typed;
  guard = λ d r. by_caller d r (cases_eq d c);
  mine = λ d r. mine_by d r (cases_eq d c);
} where
  f : SharedHolds t s
  f = w.shared_holds

  at_own : (d r : ℕ) → d ≡ c → put s.protects c x.names.name d r ≡ x.names.name r
  at_own d r e = ap (λ (i : ℕ). put s.protects c x.names.name i r) e ∙ ap (λ (row : ℕ → ℕ). row r) (put_same s.protects c x.names.name)

  at_other : (d r : ℕ) → d ≢ c → put s.protects c x.names.name d r ≡ s.protects d r
  at_other d r ne = ap (λ (row : ℕ → ℕ). row r) (put_other s.protects c d x.names.name ne)

  by_caller : (d r : ℕ) → (d ≡ c) ⊎ (d ≢ c) → put s.protects c x.names.name d r ≢ 0 → Guarded t (checked_shared s c x) d r
  by_caller d r (inl e) some =
      let at = at_own d r e in
      let h = named_holds t s c x m r w (λ z. some (at ∙ z)) in
      record { resident = rw at h.0; word = rw at (ap (λ (i : ℕ). s.memory (Hazard i r)) e ∙ h.1); caller = subst (λ (i : ℕ). i < t.setting.sizes.callers) (sym e) w.below; register = h.2 }
  by_caller d r (inr ne) some =
      let at = at_other d r ne in
      let g = f.guard d r (λ z. some (at ∙ z)) in
      record { resident = rw at g.resident; word = rw at g.word; caller = g.caller; register = g.register }

  mine_by : (d r : ℕ) → (d ≡ c) ⊎ (d ≢ c) → put s.protects c x.names.name d r ≢ 0
      → (s.public (put s.protects c x.names.name d r) ≡ true) ⊎ ((k : ℕ) × (s.owner (t.home (put s.protects c x.names.name d r)) ≡ Held d k))
  mine_by d r (inl e) some =
      let at = at_own d r e in
      rw at (subst (λ (i : ℕ). (s.public (x.names.name r) ≡ true) ⊎ ((k : ℕ) × (s.owner (t.home (x.names.name r)) ≡ Held i k))) (sym e) (named_holds t s c x m r w (λ z. some (at ∙ z))).3)
  mine_by d r (inr ne) some = let at = at_other d r ne in rw at (f.mine d r (λ z. some (at ∙ z)))

pub goes_passed : (t : Plan) (s : Shared) (c : ℕ) (x : Caller) (m : Trail t) → Passing t s c x m → MayChange t c s (checked_shared s c x)
goes_passed t s c x m w = record {
  phase = omega arith;
  warning = λ d. omega arith;
  tag = λ n q is. inl is;
  public = λ n is. is;
  link = λ n g. inl refl;
  hazard = λ d k ne. refl;
  protects = λ d k ne. ap (λ (row : ℕ → ℕ). row k) (put_other s.protects c d x.names.name ne);
  validated = λ r q some.
      let at : put s.protects c x.names.name c r ≡ x.names.name r = ap (λ (row : ℕ → ℕ). row r) (put_same s.protects c x.names.name) in
      ⊎_elim
      (λ (old : s.protects c r ≡ x.names.name r). inl (at ∙ sym old))
      (λ (new : (has (x.names.name r) x.held.got ≡ true) × (guard_at x.entry.hand.guards r ≡ t.home (x.names.name r))). inr (λ tagged. ⊎_elim
      (λ (below : q < s.memory (Warning c)).
      let same : x.entry.hand.seen ≡ s.memory (Warning c) = w.calm in
      let old : has (x.names.name r) x.held.old ≡ true = w.base.old (x.names.name r) q (ap s.tag (sym at) ∙ tagged) (omega (arith, same, below)) in
      absurd (let clash : true ≡ false = sym old ∙ w.proper (x.names.name r) (x.names.name r) new.0 (itself (x.names.name r)) in cc))
      (λ (le : s.memory (Warning c) ≤ q). le)
      (cases_lt q (s.memory (Warning c)))))
      (named_guard t s c x m r w (λ z. some (at ∙ z)));
  held = λ j d k ne is. (is, refl, (λ g. refl));
  retiring = λ j d ne is. (is, refl, refl);
}

passed_name : (n : ℕ) → (if not (n == 0) then n else 0) ≡ n
passed_name zero = refl
passed_name (suc n) = let e : (suc n == 0) ≡ false = grind (arith, nat_tests) in rw e refl

pub base_passed : (t : Plan) (s : Shared) (c : ℕ) (x : Caller) → Base t s c x → Base t (checked_shared s c x) c (checked_caller x)
base_passed t s c x b = record {
  number = b.number;
  seen = b.seen;
  old = b.old;
  hazard = b.hazard;
  known = b.known;
  cradle = b.cradle;
  protects = λ r. ap (λ (row : ℕ → ℕ). row r) (put_same s.protects c x.names.name) ∙ sym (passed_name (x.names.name r));
}

now_valid : (n : ℕ) → (not (n == 0) ≡ true) ⊎ (n ≡ 0)
now_valid zero = inr refl
now_valid (suc n) = let e : (suc n == 0) ≡ false = grind (arith, nat_tests) in inl (ap not e)

invalid_null : (n : ℕ) → not (n == 0) ≡ false → n ≡ 0
invalid_null n is = grind (arith, nat_tests)

hopeful : (was : Trust) → confirmed was ≡ Trusted → was ≢ Spoilt
hopeful Trusted is e = let z : Trusted ≡ Spoilt = e in cc
hopeful Unchecked is e = let z : Unchecked ≡ Spoilt = e in cc
hopeful Spoilt is e = let z : Spoilt ≡ Trusted = is in cc

pub walks_passed : (t : Plan) (s : Shared) (c : ℕ) (x : Caller) (m : Trail t) → Passing t s c x m → slice_get (code_in m.walk.method) x.entry.hand.at ≡ Some Check
    → let next : Spot = record { at = x.entry.hand.at + 1; registers = x.entry.hand.registers } in
    Walks t (checked_shared s c x) c (at_spot (checked_caller x) next) next (record { walk = m.walk; path = x.entry.hand.at ∷ m.path; mirror = m.mirror; there = m.there })
walks_passed t s c x m w is = record {
  call = k.call;
  wrapup = k.wrapup;
  was_set = λ r. k.was_set r ∙ ap (λ o. passed (over_plain (set_after (Ref r))) o (is_set_in m.walk.method m.path r)) (sym is);
  first = k.first;
  number = k.number;
  start = k.start;
  generator = k.generator;
  ahead = check_keeps m.walk.method t.home (Calm s c x) m.path (spot_of x.entry.hand) m.mirror m.there (erasing w.plan.compiled) is w.calm (λ n o p q. residents_apart t s n o (hoped n p) (hoped o q)) k.ahead;
  kept = λ r kept. ((k.kept r kept).0, now_valid (x.names.name r));
  shown = k.shown;
  sound = record {
    word = λ calm r some invalid. absurd (some (invalid_null (x.names.name r) invalid));
    pairs = λ o e g free some some'. residents_apart t s (link s (put s.protects c x.names.name c o) g) (put s.protects c x.names.name c e) (content o g free some) (fine'.guard c e some').resident;
    apart = λ gen r e trusted some. residents_apart t s (node_in m.mirror r) (put s.protects c x.names.name c e)
        (hoped (node_in m.mirror r) (inr (r, hopeful (trust_along m.walk.method m.path (Ref r)) (subst (λ o. passed (trust_after (Ref r)) o (trust_along m.walk.method m.path (Ref r)) ≡ Trusted) is trusted), refl)))
        (fine'.guard c e some).resident;
  };
} where
  k : Walks t s c x (spot_of x.entry.hand) m
  k = w.walks

  fine' : SharedHolds t (checked_shared s c x)
  fine' = fine_passed t s c x m w

  hoped : (n : ℕ) → IsHoped (trust_along m.walk.method m.path) m.mirror n → Resident t s n
  hoped = hoped_resident t s c x m w.plan.null w.shared_holds w.base w.below w.calm w.proper (blank m.walk k.generator) k.kept w.gets

  by_value : (n g : ℕ) → has n x.held.got ≡ true → (v : Value) → field_of s.source n g ≡ v → Resident t s (name_in v)
  by_value n g got (Number i) is = null_resident t s 0 w.plan.null w.shared_holds refl
  by_value n g got (Node reference) is =
      resident t s c x w.plan.null w.shared_holds w.base w.below w.calm w.proper n reference.node got (onward n reference.node reference.node (g, reference.marked, is) (itself reference.node))

  content : (o g : ℕ) → spared t m.walk o ≡ false → put s.protects c x.names.name c o ≢ 0 → Resident t s (link s (put s.protects c x.names.name c o) g)
  content o g free some =
      let at : put s.protects c x.names.name c o ≡ x.names.name o = ap (λ (row : ℕ → ℕ). row o) (put_same s.protects c x.names.name) in
      rw at (by_value (x.names.name o) g (w.gets.named o (λ z. some (at ∙ z)) free) (field_of s.source (x.names.name o) g) refl)

pub gets_passed : (t : Plan) (s : Shared) (c : ℕ) (x : Caller) (m : Trail t) (next : Spot) → slice_get (code_in m.walk.method) x.entry.hand.at ≡ Some Check → Gets t s c x m
    → Gets t (checked_shared s c x) c (at_spot (checked_caller x) next) (record { walk = m.walk; path = x.entry.hand.at ∷ m.path; mirror = m.mirror; there = m.there })
gets_passed t s c x m next is g = record {
  got = check_got m.walk.method m.path x.entry.hand.at m.walk.started m.mirror x.held.got is g.got;
  named = g.named;
  shown = λ gen r shut. g.shown gen r (subst (λ o. passed (over_plain (fresh_after (Ref r))) o (is_fresh_along (code_in m.walk.method) m.path (Ref r)) ≡ false) is shut);
  fresh = λ gen r fresh. g.fresh gen r (subst (λ o. passed (over_plain (fresh_after (Ref r))) o (is_fresh_along (code_in m.walk.method) m.path (Ref r)) ≡ true) is fresh);
  made = λ n k got held here. made_before (code_in m.walk.method) x.entry.hand.at m.path k (g.made n k got held here);
}

pub guards_passed : (t : Plan) (x : Caller) (m : Trail t) (next : Spot) → slice_get (code_in m.walk.method) x.entry.hand.at ≡ Some Check → Guards t x m
    → Guards t (at_spot (checked_caller x) next) (record { walk = m.walk; path = x.entry.hand.at ∷ m.path; mirror = m.mirror; there = m.there })
guards_passed t x m next is g r counted =
    let state : guard_state t m.walk (x.entry.hand.at ∷ m.path) r ≡ guard_after (Ref r) Check (guard_state t m.walk m.path r) = ap (λ o. passed (guard_after (Ref r)) o (guard_state t m.walk m.path r)) is in
    let set : is_set_in m.walk.method (x.entry.hand.at ∷ m.path) r ≡ is_set_in m.walk.method m.path r = ap (λ o. passed (over_plain (set_after (Ref r))) o (is_set_in m.walk.method m.path r)) is in
    subst (λ (o : GuardState). GuardStands o m.mirror (validated x.names) r) (sym state)
    (guards_keep Check m.mirror m.mirror x.names r (guard_state t m.walk m.path r) (λ same. refl) (λ a e. refl) (λ e. refl) (g r (ap (λ (b : Bool). not m.walk.method.wrapup || b) (sym set) ∙ counted)))

-- a check that passes, to the instruction after it
pub running_passed : (t : Plan) (s : Shared) (c : ℕ) (x : Caller) → (walk : Running t s c x (spot_of x.entry.hand)) → Passing t s c x walk.0 → slice_get (code_in walk.0.walk.method) x.entry.hand.at ≡ Some Check
    → let next : Spot = record { at = x.entry.hand.at + 1; registers = x.entry.hand.registers } in Running t (checked_shared s c x) c (at_spot (checked_caller x) next) next
running_passed t s c x walk w is =
    let next : Spot = record { at = x.entry.hand.at + 1; registers = x.entry.hand.registers } in (
      record { walk = walk.0.walk; path = x.entry.hand.at ∷ walk.0.path; mirror = walk.0.mirror; there = walk.0.there },
      walks_passed t s c x walk.0 w is,
      walk.2,
      gets_passed t s c x walk.0 next is walk.3,
      guards_passed t x walk.0 next is walk.4,
    )
