-- A load of the text, and the local code after it.
use Rattle.std.proofs.Common.{ℕ, zero, suc, ◌≡◌, ◌+◌, ◌<◌, ◌∙◌, ◌⊎◌, Bool, true, false, List, ◌∷◌, Some, None, inl, inr, ⊎_elim, sym, ap, subst, refl}
use Rattle.std.specs.Prelude.{slice_get, IsTrue}
use Rattle.norm_lang.specs.declared.text.Instr.{Instr}
use Rattle.norm_lang.specs.declared.text.Instr.TheVariants as instr
use Rattle.norm_lang.specs.declared.text.Reg.{Reg}
use Rattle.norm_lang.specs.declared.text.Reg.TheVariants.{Ref}
use Rattle.norm_lang.specs.declared.registers.Registers.{Registers}
use Rattle.norm_lang.specs.Local.{Spot}
use Rattle.norm_lang.specs.RegisterUse.{destination, sets}
use Rattle.norm_lang.specs.Registers.{node_in}
use Rattle.target_code.specs.declared.target.TargetInstr.TheVariants.{Plain}
use Rattle.target_code.specs.Erasing.{redirected}
use Rattle.target_laws.specs.Methods.{code_in}
use Rattle.target_laws.specs.Trusted.{Trusted}
use Rattle.oa_words.specs.Words.{Word}
use Rattle.oa_words.specs.Memories.{store}
use Rattle.source_machine.specs.declared.event.SourceEvent.TheVariants as events
use Rattle.source_machine.specs.declared.state.SourceCaller.{SourceCaller}
use Rattle.source_machine.specs.Memory.{loaded, access_by, with_value}
use Rattle.source_machine.specs.MethodRuns.{run_with, with_name, name_got, name_in}
use Rattle.source_machine.specs.Proper.{has}
use Rattle.source_machine.specs.Run.{is_name}
use Rattle.source_machine.specs.Step.{caller_turn}
use Rattle.caller_parts.specs.Operands.{with_word}
use Rattle.caller_steps.specs.Signs.{Accesses}
use Rattle.caller_steps.specs.Entries.{Entry}
use Rattle.caller_steps.specs.Signs.{Moved}
use Rattle.caller_steps.specs.After.{counted, with_access, goes_on, plain_accepted, loaded as core_loaded}
use Rattle.caller_parts.specs.declared.setting.Reclamation.TheVariants.{Epochs}
use Rattle.run_ahead.specs.Agreeing.{Changes}
use Rattle.run_ahead.specs.Known.{AreGot}
use Rattle.run_ahead.specs.Standing.{loads_into}
use Rattle.run_ahead.proofs.Accesses.{is_load, IsLoad, value_changes}
use Rattle.oa_simulation.specs.sim_relation.Views.{Plan, Held, Null, Shared, Resident}
use Rattle.oa_simulation.specs.sim_relation.Callers.{Shown, spot_of, HasMade}
use Rattle.oa_simulation.specs.sim_relation.Points.{IsProperPoint}
use Rattle.oa_simulation.proofs.sim_relation.Names.{own_private}
use Rattle.run_ahead.specs.Following.{Walk}
use Rattle.oa_simulation.proofs.sim_relation.Playing.{PlaysEvent, plays_first}
use Rattle.oa_simulation.proofs.sim_relation.Words.{store_idle}
use Rattle.oa_simulation.proofs.sim_steps.Accesses.Loads.{read_as, word_put, has_with, LooksAt}
use Rattle.oa_simulation.proofs.sim_steps.Walks.Along.{made_before}
use Rattle.epoch_relation.specs.Reckoned.{reckoned, EpochHolds}
use Rattle.epoch_relation.specs.Callers.{Caller, Base, IsSafe}
use Rattle.epoch_relation.specs.Walking.{IsPlan, Trail, Walks, Gets, Running}
use Rattle.epoch_relation.specs.Keeping.{point_at, KeptWith, Ends, Comes}
use Rattle.epoch_relation.proofs.Bare.{undirected}
use Rattle.run_ahead.proofs.Getting.{plain_got, given_got, more_got}
use Rattle.epoch_relation.proofs.Local.{Standing, walks_on}
use Rattle.epoch_relation.proofs.Loading.{Found, finds}
use Rattle.epoch_relation.proofs.Moving.{changed, base_changed, walks_changed}
use Rattle.epoch_relation.proofs.Settling.{settles_ends}
use Rattle.epoch_relation.proofs.Sweeping.{changes_same}
use Rattle.epoch_relation.proofs.Accessing.{Turned, turns, asked_at, stands_marked, Clear, Owing, got_clear, register_got, pairs_clear, clear_safe}

-- ---- the run gets it

gets_found : (t : Plan) (s : Shared) (since : ℕ → ℕ) (c : ℕ) (x : Caller) (m m' : Trail t) (at n : ℕ) (e : Entry) (source : SourceCaller) → Standing t s since c x → Gets t s c x m → m'.walk ≡ m.walk → m'.path ≡ at ∷ m.path
    → AreGot m.walk.method (at ∷ m.path) m.walk.started m'.mirror (with_name n x.watch.got) → IsSafe t s c x n → Shown s n → Gets t s c (changed x e source (run_with n x.watch)) m'
gets_found t s since c x m m' at n e source st w walk path got safe shown = record {
  got = subst (λ (v : Walk t.target t.text). AreGot v.method m'.path v.started m'.mirror (with_name n x.watch.got)) (sym walk) (subst (λ (p : List ℕ). AreGot m.walk.method p m.walk.started m'.mirror (with_name n x.watch.got)) (sym path) got);
  made = λ k i has_k held here. subst (λ (v : Walk t.target t.text). HasMade (code_in v.method) m'.path i) (sym walk) (subst (λ (p : List ℕ). HasMade (code_in m.walk.method) p i) (sym path)
      (made_before (code_in m.walk.method) at m.path i (made k i (has_with k n x.watch.got has_k) held here)));
  safe = λ k has_k. ⊎_elim (λ (e : k ≡ n). subst (λ (j : ℕ). IsSafe t s c x j) (sym e) safe) (λ (old : has k x.watch.got ≡ true). w.safe k old) (has_with k n x.watch.got has_k);
  known = λ wrap k has_k. known n shown refl wrap k has_k;
  older = w.older;
} where
  made : (k i : ℕ) → (k ≡ n) ⊎ (has k x.watch.got ≡ true) → s.owner (t.home k) ≡ Held c i → Resident t s k → HasMade (code_in m.walk.method) m.path i
  made k i (inr old) held here = w.made k i old held here
  made k i (inl e) held here = absurd (not_own shown (subst (λ (j : ℕ). s.owner (t.home j) ≡ Held c i) e held) (subst (λ (j : ℕ). Resident t s j) e here)) where
    not_own : Shown s n → s.owner (t.home n) ≡ Held c i → Resident t s n → ⊥
    not_own (inl z) own here = let e : Null ≡ Held c i = sym st.holds.holds.none_there ∙ (ap s.owner (sym (ap t.home z ∙ st.plan.null)) ∙ own) in cc
    not_own (inr p) own here = let e : true ≡ false = sym p ∙ own_private t (reckoned s since) c i n st.holds.holds own here in cc

  known : (g : ℕ) → Shown s g → g ≡ n → m'.walk.method.wrapup ≡ true → (k : ℕ) → has k (with_name n x.watch.got) ≡ true → s.public k ≡ true
  known g shown same wrap k has_k = of g shown same where
    old : has k x.watch.got ≡ true → s.public k ≡ true
    old is = w.known (ap (λ (v : Walk t.target t.text). v.method.wrapup) (sym walk) ∙ wrap) k is

    of : (g : ℕ) → Shown s g → g ≡ n → s.public k ≡ true
    of zero shown same = old (ap (λ (j : ℕ). has k (with_name j x.watch.got)) same ∙ has_k)
    of (suc g) (inl z) same = absurd (let e : suc g ≡ 0 = z in cc)
    of (suc g) (inr p) same = ⊎_elim (λ (e : k ≡ n). ap s.public (e ∙ sym same) ∙ p) old (has_with k n x.watch.got has_k)

-- ---- the load

load_accepted : (t : Plan) (i : Instr) (d : Reg) (word : ℕ) (e : Entry) → loads_into i ≡ Some d → core_loaded Epochs t.target t.setting.sizes d word e ≡ plain_accepted Epochs t.target t.setting.sizes i word e
load_accepted t (instr.LoadRoot f z) d word e is = let same : d ≡ f = cc in ap (λ (r : Reg). core_loaded Epochs t.target t.setting.sizes r word e) same
load_accepted t (instr.LoadPick f z n a) d word e is = let same : d ≡ f = cc in ap (λ (r : Reg). core_loaded Epochs t.target t.setting.sizes r word e) same
load_accepted t (instr.LoadField f a g) d word e is = let same : d ≡ f = cc in ap (λ (r : Reg). core_loaded Epochs t.target t.setting.sizes r word e) same
load_accepted t _ d word e is = absurd (let never : None ≡ Some d = is in cc)

pub load_kept : (t : Plan) (c : ℕ) (s : Shared) (since : ℕ → ℕ) (x : Caller) (i : Instr) (d : Reg) (w : Word) → IsPlan t → EpochHolds t s since → Base t s since c x → c < t.setting.sizes.callers → (r : Running t s c x) → IsProperPoint t.text (point_at s x)
    → slice_get (code_in r.0.walk.method) x.entry.hand.at ≡ Some (Plain i) → loads_into i ≡ Some d → LooksAt t.target.fields i x.entry.hand.registers w
    → KeptWith t c s since x (store s.memory w (s.memory w)) (plain_accepted Epochs t.target t.setting.sizes i (s.memory w) (counted x.entry)) s.present
load_kept t c s since x i d w plan f b below r proper is loads looks = subst (λ (m : Moved). KeptWith t c s since x (store s.memory w (s.memory w)) m s.present) (load_accepted t i d (s.memory w) (counted x.entry) loads) (record {
  s' = s;
  since' = since;
  x' = ended.x';
  memory = store_idle s.memory w;
  present = refl;
  entry = ended.entry;
  plays = plays_first t.text c Accesses _ (point_at s x) (point_at s y) (point_at s ended.x') event refl ended.plays;
  shared_holds = f;
  goes = changes_same t s since c;
  caller_holds = ended.caller_holds;
}) where
  st : Standing t s since c x
  st = record { plan = plan; holds = f; base = b; below = below; announced = r.4 }

  l : IsLoad t.text i d
  l = is_load t.text i d loads

  n : ℕ
  n = name_in (loaded t.text i r.0.mirror s.source)

  mirror' : Registers
  mirror' = with_value r.0.mirror d (loaded t.text i r.0.mirror s.source)

  next : Spot
  next = record { at = x.entry.hand.at + 1; registers = with_word x.entry.hand.registers d (s.memory w) }

  m' : Trail t
  m' = record { walk = r.0.walk; path = x.entry.hand.at ∷ r.0.path; mirror = with_value r.0.mirror d (loaded t.text i r.0.mirror s.source) }

  e : Entry
  e = with_access (counted x.entry)

  undo : (P : Instr → Type 0) → P (redirected (λ at. at) i) → P i
  undo P h = subst P (undirected i) h

  turn : Turned t s c 0 x r.0 i (record { at = x.entry.hand.at + 1; registers = with_word x.entry.hand.registers d (s.memory w) }) (with_value r.0.mirror d (loaded t.text i r.0.mirror s.source))
  turn = turns t s c 0 x r.0 i next mirror' plan r.1 r.3 is l.access (subst (λ b. IsTrue (is_name b 0 s.source.nodes)) (sym l.old) refl)
      (undo (λ j. (access_by t.text 0 j x.entry.hand.at r.0.mirror s.source).spot ≡ record { at = x.entry.hand.at + 1; registers = mirror' }) (l.spot (λ at. at) 0 x.entry.hand.at r.0.mirror s.source))

  owes : Owing t s since c x r.0
  owes = record { standing = st; walks = r.1; gets = r.2; proper = proper; runs = turn.runs }

  found : Found t s c x r.0 i d w
  found = finds t s since c x r.0 i d w (record { owes = owes; here = is; asked = asked_at t s c x r.0 i plan r.1 r.3 is l.access proper }) loads looks

  safe : IsSafe t s c x (name_in (loaded t.text i r.0.mirror s.source))
  safe = clear_safe t s c x n found.clear found.shown

  changes : Changes t.home (λ A. A) (destination i) (name_in (loaded t.text i r.0.mirror s.source)) x.entry.hand.registers r.0.mirror (with_word x.entry.hand.registers d (s.memory w)) (with_value r.0.mirror d (loaded t.text i r.0.mirror s.source))
  changes = subst (λ registers. Changes t.home (λ A. A) (destination i) (name_in (loaded t.text i r.0.mirror s.source)) x.entry.hand.registers r.0.mirror registers mirror') (sym (word_put x.entry.hand.registers d (s.memory w)))
      (subst (λ o. Changes t.home (λ A. A) o (name_in (loaded t.text i r.0.mirror s.source)) x.entry.hand.registers r.0.mirror (with_value x.entry.hand.registers d (read_as d (s.memory w))) mirror') (sym l.sets)
      (value_changes t.home (Unit {0}) Trusted x.entry.hand.registers r.0.mirror d (read_as d (s.memory w)) (loaded t.text i r.0.mirror s.source) plan.null r.1.sized found.kind.0 found.kind.1 found.agrees))

  source : SourceCaller
  source = (caller_turn t.text (events.Access c 0) s.source x.source).caller

  y : Caller
  y = changed x e source (run_with n x.watch)

  walks : Walks t s c x (record { at = x.entry.hand.at + 1; registers = with_word x.entry.hand.registers d (s.memory w) }) (record { walk = r.0.walk; path = x.entry.hand.at ∷ r.0.path; mirror = with_value r.0.mirror d (loaded t.text i r.0.mirror s.source) })
  walks = walks_on t s c x (spot_of x.entry.hand) next r.0 i (name_in (loaded t.text i r.0.mirror s.source)) mirror' plan is l.old (l.next x.entry.hand.at) changes
      (λ k set. safe) (λ gen k set. found.shown) r.1

  got : AreGot r.0.walk.method (x.entry.hand.at ∷ r.0.path) r.0.walk.started (with_value r.0.mirror d (loaded t.text i r.0.mirror s.source)) (with_name (name_in (loaded t.text i r.0.mirror s.source)) x.watch.got)
  got = plain_got r.0.walk.method t.home (λ A. A) r.0.path x.entry.hand.at i (name_in (loaded t.text i r.0.mirror s.source)) x.entry.hand.registers r.0.mirror next.registers mirror' r.0.walk.started x.watch.got (with_name n x.watch.got) is changes
      (λ k set. given_got n x.watch.got) (λ k. more_got n x.watch.got k) r.2.got

  all_clear : r.0.walk.method.wrapup ≡ false → (k : ℕ) (b : Bool) → sets (Ref k) i ≡ b → Clear s x (node_in (with_value r.0.mirror d (loaded t.text i r.0.mirror s.source)) k)
  all_clear gen k true set = ⊎_elim (λ (z : node_in mirror' k ≡ 0). inl z) (λ (g : node_in mirror' k ≡ name_in (loaded t.text i r.0.mirror s.source)). subst (λ (j : ℕ). Clear s x j) (sym g) found.clear) (changes.gives k set)
  all_clear gen k false unset = subst (λ (j : ℕ). Clear s x j) (sym (changes.leaves k unset)) (got_clear t s since c x r.0 owes (node_in r.0.mirror k) (register_got t s since c x r.0 owes gen k))

  comes : Comes t s since c (changed x (with_access (counted x.entry)) (caller_turn t.text (events.Access c 0) s.source x.source).caller (run_with (name_in (loaded t.text i r.0.mirror s.source)) x.watch)) (record { at = x.entry.hand.at + 1; registers = with_word x.entry.hand.registers d (s.memory w) })
      (record { walk = r.0.walk; path = x.entry.hand.at ∷ r.0.path; mirror = with_value r.0.mirror d (loaded t.text i r.0.mirror s.source) })
  comes = record {
    plan = plan;
    holds = f;
    base = base_changed t s since c x e source (run_with n x.watch) refl refl b;
    below = below;
    announced = r.4;
    walks = walks_changed t s c x next m' e source (run_with n x.watch) refl refl walks;
    gets = gets_found t s since c x r.0 m' x.entry.hand.at n e source st r.2 refl refl got safe found.shown;
    pairs = λ gen. pairs_clear t s since c x r.0 owes mirror' (λ k. all_clear gen k (sets (Ref k) i) refl) walks.safe;
  }

  ended : Ends t s since c (changed x (with_access (counted x.entry)) (caller_turn t.text (events.Access c 0) s.source x.source).caller (run_with (name_in (loaded t.text i r.0.mirror s.source)) x.watch)) (goes_on Epochs t.target t.setting.sizes (with_word x.entry.hand.registers d (s.memory w)) (with_access (counted x.entry)))
  ended = settles_ends t s since c y next m' comes (turn.stands ∙ stands_marked r.0.walk.method.op r.0.walk.method.wrapup r.0.walk.started x.entry.hand.wrapup r.0.walk.call _ (λ wrap. r.1.wrapup ∙ wrap))

  event : PlaysEvent t.text (events.Access c 0) s.source x.source x.watch s.source (caller_turn t.text (events.Access c 0) s.source x.source).caller (run_with (name_in (loaded t.text i r.0.mirror s.source)) x.watch)
  event = (
    turn.enabled,
    (
      sym (turn.memory ∙ undo (λ j. (access_by t.text 0 j x.entry.hand.at r.0.mirror s.source).memory ≡ s.source) (l.memory (λ at. at) 0 x.entry.hand.at r.0.mirror s.source)),
      refl,
      sym (turn.watch ∙ ap (λ (k : ℕ). run_with k x.watch) (undo (λ j. name_got t.text 0 (Some j) r.0.mirror s.source ≡ name_in (loaded t.text i r.0.mirror s.source)) (l.gets (λ at. at) 0 r.0.mirror s.source))),
    ),
  )
