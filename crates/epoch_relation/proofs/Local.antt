-- Local code, made by the core and by the source.
use Rattle.std.proofs.Common.{ℕ, zero, suc, ◌≡◌, ◌∙◌, ◌⊎◌, Bool, true, false, ◌∷◌, Option, Some, None, option_map, inl, inr, ⊎_elim, sym, ap, subst, refl, if◌then◌else◌}
use Rattle.std.specs.Prelude.{slice_get, IsTrue}
use Rattle.norm_lang.specs.declared.text.Reg.{Reg}
use Rattle.norm_lang.specs.declared.text.Reg.TheVariants.{Ref}
use Rattle.norm_lang.specs.declared.text.Instr.{Instr}
use Rattle.norm_lang.specs.declared.registers.Registers.{Registers}
use Rattle.norm_lang.specs.Flow.{passed}
use Rattle.norm_lang.specs.Freshness.{fresh_after}
use Rattle.norm_lang.specs.Grammar.{is_new}
use Rattle.norm_lang.specs.Local.{Spot, local_step, local_at, local_run, go_on}
use Rattle.norm_lang.specs.RegisterUse.{destination, sets, reads}
use Rattle.target_code.specs.declared.target.TargetInstr.{TargetInstr}
use Rattle.target_code.specs.declared.target.TargetInstr.TheVariants.{Plain, Check, Guard}
use Rattle.target_code.specs.LocalCode.{target_local_at, target_run}
use Rattle.target_code.specs.Paths.{target_goes_from}
use Rattle.target_code.specs.PathStates.{over_plain, is_fresh_along}
use Rattle.target_laws.specs.Methods.{code_in, source_in}
use Rattle.run_ahead.specs.Agreeing.{Agree, Changes}
use Rattle.run_ahead.proofs.Mirroring.{mirrored}
use Rattle.oa_simulation.specs.sim_relation.Views.{Plan, Shared, Resident}
use Rattle.oa_simulation.proofs.sim_steps.Walks.Along.{made_before}
use Rattle.oa_simulation.proofs.sim_relation.Names.{residents_apart}
use Rattle.epoch_relation.specs.Reckoned.{EpochHolds}
use Rattle.epoch_relation.specs.Callers.{Caller, Base, IsSafe, IsAnnounced}
use Rattle.epoch_relation.specs.Walking.{IsPlan, Trail, Walks, Gets}
use Rattle.epoch_relation.proofs.Bare.{in_source, instr_is, undirected, local_none}
use Rattle.norm_lang.specs.Flow.{goes_to}
use Rattle.norm_lang.specs.Registers.{node_in}
use Rattle.oa_simulation.specs.sim_relation.Callers.{Own, Shown}
use Rattle.oa_simulation.proofs.sim_relation.Codes.{blank}
use Rattle.run_ahead.specs.Ahead.{IsErased}
use Rattle.run_ahead.proofs.Getting.{local_got}
use Rattle.run_ahead.proofs.Plain.{path_on, kind_right}
use Rattle.target_laws.proofs.local_laws.Settled.{step_goes}
use Rattle.epoch_relation.proofs.Announcing.{safe_is_resident}
use Rattle.run_ahead.specs.Following.{Walk}
use Rattle.std.proofs.Common.{◌<◌}
use Rattle.oa_simulation.proofs.sim_steps.Walks.Local.{local_is_old, local_shown}

pub erased_of : (t : Plan) → IsPlan t → IsErased t.target t.text
erased_of t plan = record { normal = plan.normal; within = plan.within; erases = plan.erases }

-- ---- one instruction, that makes no node

-- the instruction changes one register at most, and its name is one that the caller may hold
pub walks_on : (t : Plan) (s : Shared) (d : ℕ) (x : Caller) (core next : Spot) (m : Trail t) (i : Instr) (given : ℕ) (mirror' : Registers) → IsPlan t
    → slice_get (code_in m.walk.method) core.at ≡ Some (Plain i) → is_new i ≡ false → IsTrue (goes_to i core.at next.at)
    → Changes t.home (λ A. A) (destination i) given core.registers m.mirror next.registers mirror'
    → ((r : ℕ) → sets (Ref r) i ≡ true → IsSafe t s d x given)
    → (m.walk.method.wrapup ≡ false → (r : ℕ) → sets (Ref r) i ≡ true → Shown s given)
    → Walks t s d x core m → Walks t s d x next (record { walk = m.walk; path = core.at ∷ m.path; mirror = mirror' })
walks_on t s d x core next m i given mirror' plan is old goes changes safe shows w = record {
  call = w.call;
  wrapup = w.wrapup;
  number = w.number;
  generator = w.generator;
  path_is = path_on m.walk.method (erased_of t plan) m.path core.at next.at w.path_is (subst (λ o. IsTrue (target_goes_from o core.at next.at)) (sym is) goes);
  sized = changes.sized;
  agree = λ r. agree r (sets r i) refl;
  safe = λ r. safe_at r (sets (Ref r) i) refl;
  fresh = λ gen r is_fresh. by_fresh gen r (sets (Ref r) i) refl (subst (λ o. passed (over_plain (fresh_after (Ref r))) o (is_fresh_along (code_in m.walk.method) m.path (Ref r)) ≡ true) is is_fresh);
  shown = λ gen r shut. by_shown gen r (sets (Ref r) i) refl (subst (λ o. passed (over_plain (fresh_after (Ref r))) o (is_fresh_along (code_in m.walk.method) m.path (Ref r)) ≡ false) is shut);
} where
  agree : (r : Reg) (b : Bool) → sets r i ≡ b → Agree t.home next.registers mirror' r
  agree r true set = changes.set r set
  agree r false set = changes.kept r set (w.agree r)

  safe_at : (r : ℕ) (b : Bool) → sets (Ref r) i ≡ b → IsSafe t s d x (node_in mirror' r)
  safe_at r true set = ⊎_elim (λ (z : node_in mirror' r ≡ 0). inl z) (λ (g : node_in mirror' r ≡ given). subst (λ (n : ℕ). IsSafe t s d x n) (sym g) (safe r set)) (changes.gives r set)
  safe_at r false set = subst (λ (n : ℕ). IsSafe t s d x n) (sym (changes.leaves r set)) (w.safe r)

  by_shown : m.walk.method.wrapup ≡ false → (r : ℕ) (b : Bool) → sets (Ref r) i ≡ b → (if sets (Ref r) i then is_new i else is_fresh_along (code_in m.walk.method) m.path (Ref r)) ≡ false → Shown s (node_in mirror' r)
  by_shown gen r true set shut = ⊎_elim (λ (z : node_in mirror' r ≡ 0). inl z) (λ (g : node_in mirror' r ≡ given). subst (λ (n : ℕ). Shown s n) (sym g) (shows gen r set)) (changes.gives r set)
  by_shown gen r false set shut = subst (λ (n : ℕ). Shown s n) (sym (changes.leaves r set)) (w.shown gen r (sym (rw set refl) ∙ shut))

  by_fresh : m.walk.method.wrapup ≡ false → (r : ℕ) (b : Bool) → sets (Ref r) i ≡ b → (if sets (Ref r) i then is_new i else is_fresh_along (code_in m.walk.method) m.path (Ref r)) ≡ true → Own t s d (node_in mirror' r)
  by_fresh gen r true set fresh = absurd (let z : false ≡ true = sym old ∙ (sym (rw set refl) ∙ fresh) in cc)
  by_fresh gen r false set fresh = subst (λ (n : ℕ). Own t s d n) (sym (changes.leaves r set)) (w.fresh gen r (sym (rw set refl) ∙ fresh))

-- ---- local code

-- one step
pub record Stepped (t : Plan) (s : Shared) (d : ℕ) (x : Caller) (core next : Spot) (m : Trail t) : Type 0 where
  pub m' : Trail t
  pub walk : m'.walk ≡ m.walk
  pub walks : Walks t s d x next m'
  pub gets : Gets t s d x m'
  -- no register gets a name that none held
  pub holds : (r : ℕ) → (node_in m'.mirror r ≡ 0) ⊎ ((q : ℕ) × (node_in m'.mirror r ≡ node_in m.mirror q))
  pub source : local_at (slice_get (source_in m.walk.method) core.at) core.at m.mirror ≡ Some (record { at = next.at; registers = m'.mirror })

-- what a caller that is announced stands on
pub record Standing (t : Plan) (s : Shared) (since : ℕ → ℕ) (d : ℕ) (x : Caller) : Type 0 where
  pub plan : IsPlan t
  pub holds : EpochHolds t s since
  pub base : Base t s since d x
  pub below : d < t.setting.sizes.callers
  pub announced : IsAnnounced s d

-- what it may hold is resident
pub safe_here : (t : Plan) (s : Shared) (since : ℕ → ℕ) (d : ℕ) (x : Caller) (n : ℕ) → Standing t s since d x → IsSafe t s d x n → Resident t s n
safe_here t s since d x n st safe = safe_is_resident t s since d x n st.plan.null st.holds st.base st.below st.announced safe

pub safe_apart : (t : Plan) (s : Shared) (since : ℕ → ℕ) (d : ℕ) (x : Caller) (m n : ℕ) → Standing t s since d x → IsSafe t s d x m → IsSafe t s d x n → t.home m ≡ t.home n → m ≡ n
safe_apart t s since d x m n st one other = residents_apart t s m n (safe_here t s since d x m st one) (safe_here t s since d x n st other)

local_goes : (i : Instr) (at : ℕ) (registers : Registers) (next : Spot) → local_step i at registers ≡ Some next → IsTrue (goes_to i at next.at)
local_goes i at registers next is = (step_goes i at registers next is).0

plain_step : (t : Plan) (s : Shared) (since : ℕ → ℕ) (d : ℕ) (x : Caller) (core next : Spot) (m : Trail t) (i : Instr) → Standing t s since d x
    → slice_get (code_in m.walk.method) core.at ≡ Some (Plain i) → local_step i core.at core.registers ≡ Some next → Walks t s d x core m → Gets t s d x m → Stepped t s d x core next m
plain_step t s since d x core next m i st is step w g =
    let made = mirrored t.home (λ at. at) t.text.fields t.text.roots i core.at core.registers m.mirror next st.plan.null refl w.sized (kind_right m.walk.method (erased_of t st.plan) core.at i is)
    (λ r read. w.agree r) (λ a b one other. safe_apart t s since d x (node_in m.mirror a) (node_in m.mirror b) st (w.safe a) (w.safe b)) step in
    let got = local_got m.walk.method (erased_of t st.plan) t.home (λ A. A) m.path core.at i made.given core.registers m.mirror next.registers made.mirror' m.walk.started x.watch.got next w.path_is is step made.changes made.known (blank m.walk w.generator) g.got in
    record {
      m' = record { walk = m.walk; path = core.at ∷ m.path; mirror = made.mirror' };
      walk = refl;
      walks = walks_on t s d x core next m i made.given made.mirror' st.plan is (local_is_old i core.at core.registers next step) (local_goes i core.at core.registers next step) made.changes
          (λ r set. safe made.given made.known)
          (λ gen r set. local_shown s m.walk.method m.path m.mirror i core next made.given (erased_of t st.plan) is step w.path_is (w.shown gen) made.known) w;
      gets = record {
        got = got;
        made = λ n k has_n held here. made_before (code_in m.walk.method) core.at m.path k (g.made n k has_n held here);
        safe = g.safe;
        known = g.known;
        older = g.older;
      };
      holds = λ r. holds made.mirror' made.given made.known r (sets (Ref r) i) refl (λ set. made.changes.gives r set) (λ unset. made.changes.leaves r unset);
      source = ap (λ (o : Option Instr). local_at o core.at m.mirror) (in_source st.plan.target_is m.walk.method core.at i is)
          ∙ (ap (λ (j : Instr). local_step j core.at m.mirror) (sym (undirected i)) ∙ made.steps);
    }
  where
    holds : (mirror' : Registers) (given : ℕ) → (given ≡ 0) ⊎ ((q : ℕ) × IsTrue (reads (Ref q) i) × (node_in m.mirror q ≡ given)) → (r : ℕ) (b : Bool) → sets (Ref r) i ≡ b
        → (sets (Ref r) i ≡ true → (node_in mirror' r ≡ 0) ⊎ (node_in mirror' r ≡ given)) → (sets (Ref r) i ≡ false → node_in mirror' r ≡ node_in m.mirror r) → (node_in mirror' r ≡ 0) ⊎ ((q : ℕ) × (node_in mirror' r ≡ node_in m.mirror q))
    holds mirror' given known r false unset gives leaves = inr (r, leaves unset)
    holds mirror' given known r true set gives leaves = ⊎_elim (λ (z : node_in mirror' r ≡ 0). inl z)
        (λ (same : node_in mirror' r ≡ given). ⊎_elim (λ (z : given ≡ 0). inl (same ∙ z)) (λ (read : (q : ℕ) × IsTrue (reads (Ref q) i) × (node_in m.mirror q ≡ given)). inr (read.0, same ∙ sym read.2)) known)
        (gives set)

    safe : (given : ℕ) → (given ≡ 0) ⊎ ((r : ℕ) × IsTrue (reads (Ref r) i) × (node_in m.mirror r ≡ given)) → IsSafe t s d x given
    safe given (inl z) = inl z
    safe given (inr read) = subst (λ (n : ℕ). IsSafe t s d x n) read.2 (w.safe read.0)

-- local code, at most so many instructions: the source's comes to the same place
pub record RunTo (t : Plan) (s : Shared) (d : ℕ) (x : Caller) (n : ℕ) (core last : Spot) (m : Trail t) : Type 0 where
  pub m' : Trail t
  pub walk : m'.walk ≡ m.walk
  pub walks : Walks t s d x last m'
  pub gets : Gets t s d x m'
  pub holds : (r : ℕ) → (node_in m'.mirror r ≡ 0) ⊎ ((q : ℕ) × (node_in m'.mirror r ≡ node_in m.mirror q))
  pub source : local_run (source_in m.walk.method) n (record { at = core.at; registers = m.mirror }) ≡ record { at = last.at; registers = m'.mirror }

pub runs_on : (t : Plan) (s : Shared) (since : ℕ → ℕ) (d : ℕ) (x : Caller) (n : ℕ) (core : Spot) (m : Trail t) → Standing t s since d x → Walks t s d x core m → Gets t s d x m → RunTo t s d x n core (target_run (code_in m.walk.method) n core) m
runs_on t s since d x zero core m st w g = record { m' = m; walk = refl; walks = w; gets = g; holds = λ r. inr (r, refl); source = refl }
runs_on t s since d x (suc n) core m st w g = by_instr (slice_get (code_in m.walk.method) core.at) refl (λ next m' walk walks gets. subst (λ (v : Walk t.target t.text). RunTo t s d x n next (target_run (code_in v.method) n next) m') walk (runs_on t s since d x n next m' st walks gets)) where
  source_none : (o : Option TargetInstr) → slice_get (code_in m.walk.method) core.at ≡ o → target_local_at o core.at core.registers ≡ None → local_at (slice_get (source_in m.walk.method) core.at) core.at m.mirror ≡ None
  source_none o there none = of (slice_get (source_in m.walk.method) core.at) (sym (instr_is st.plan.target_is m.walk.method core.at) ∙ there) where
    of : (i : Option Instr) → option_map Plain i ≡ o → local_at i core.at m.mirror ≡ None
    of None is = refl
    of (Some i) is = local_none i core.at core.registers m.mirror (ap (λ (o : Option TargetInstr). target_local_at o core.at core.registers) is ∙ none)

  Rest : Type 0
  Rest = (next : Spot) (m' : Trail t) → m'.walk ≡ m.walk → Walks t s d x next m' → Gets t s d x m' → RunTo t s d x n next (target_run (code_in m.walk.method) n next) m'

  by_step : (o : Option Spot) → target_local_at (slice_get (code_in m.walk.method) core.at) core.at core.registers ≡ o → ((next : Spot) → o ≡ Some next → Stepped t s d x core next m) → Rest
      → RunTo t s d x (suc n) core (go_on o core (target_run (code_in m.walk.method) n)) m
  by_step None is one rest = record { m' = m; walk = refl; walks = w; gets = g; holds = λ r. inr (r, refl); source = ap (λ (o : Option Spot). go_on o (record { at = core.at; registers = m.mirror }) (local_run (source_in m.walk.method) n)) (source_none (slice_get (code_in m.walk.method) core.at) refl is) }
  by_step (Some next) is one rest =
      let made = one next refl in
      let more = rest next made.m' made.walk made.walks made.gets in
      record {
        m' = more.m';
        walk = more.walk ∙ made.walk;
        walks = more.walks;
        gets = more.gets;
        holds = λ r. ⊎_elim (λ (z : node_in more.m'.mirror r ≡ 0). inl z)
            (λ (k : (q : ℕ) × (node_in more.m'.mirror r ≡ node_in made.m'.mirror q)). ⊎_elim (λ (z : node_in made.m'.mirror k.0 ≡ 0). inl (k.1 ∙ z)) (λ (j : (q : ℕ) × (node_in made.m'.mirror k.0 ≡ node_in m.mirror q)). inr (j.0, k.1 ∙ j.1)) (made.holds k.0))
            (more.holds r);
        source = ap (λ (o : Option Spot). go_on o (record { at = core.at; registers = m.mirror }) (local_run (source_in m.walk.method) n)) made.source
            ∙ (ap (λ (v : Walk t.target t.text). local_run (source_in v.method) n (record { at = next.at; registers = made.m'.mirror })) (sym made.walk) ∙ more.source);
      }

  by_instr : (o : Option TargetInstr) → slice_get (code_in m.walk.method) core.at ≡ o → Rest → RunTo t s d x (suc n) core (target_run (code_in m.walk.method) (suc n) core) m
  by_instr o there rest = by_step (target_local_at (slice_get (code_in m.walk.method) core.at) core.at core.registers) refl (λ next is. of o there next is) rest where
    of : (o : Option TargetInstr) → slice_get (code_in m.walk.method) core.at ≡ o → (next : Spot) → target_local_at (slice_get (code_in m.walk.method) core.at) core.at core.registers ≡ Some next → Stepped t s d x core next m
    of None there next is = absurd (let z : None ≡ Some next = sym (ap (λ (o : Option TargetInstr). target_local_at o core.at core.registers) there) ∙ is in cc)
    of (Some Check) there next is = absurd (let z : None ≡ Some next = sym (ap (λ (o : Option TargetInstr). target_local_at o core.at core.registers) there) ∙ is in cc)
    of (Some (Guard r)) there next is = absurd (let z : None ≡ Some next = sym (ap (λ (o : Option TargetInstr). target_local_at o core.at core.registers) there) ∙ is in cc)
    of (Some (Plain i)) there next is = plain_step t s since d x core next m i st there (sym (ap (λ (o : Option TargetInstr). target_local_at o core.at core.registers) there) ∙ is) w g
