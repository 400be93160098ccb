-- What is known of a caller stays if a step leaves its own names: a step of its own, or another's.
use Rattle.std.proofs.Common.{ℕ, ◌≡◌, ◌+◌, ◌<◌, Bool, true, false, List, length, Some, inl, inr, refl}
use Rattle.std.specs.Prelude.{nat_lt}
use Rattle.norm_lang.specs.Local.{Spot}
use Rattle.norm_lang.specs.Registers.{node_in}
use Rattle.source_machine.specs.Proper.{has}
use Rattle.caller_parts.specs.declared.routine.AfterRetire.{AfterRetire}
use Rattle.caller_parts.specs.declared.routine.AfterRetire.TheVariants as onward
use Rattle.caller_parts.specs.Operands.{list_of}
use Rattle.caller_steps.specs.declared.entry.Counts.{Counts}
use Rattle.caller_parts.specs.declared.routine.Routine.{Routine}
use Rattle.caller_steps.specs.Entries.{instr_in, cradle_of}
use Rattle.target_laws.specs.Methods.{code_in}
use Rattle.oa_simulation.specs.sim_relation.Views.{Plan, Shared}
use Rattle.oa_simulation.specs.sim_relation.Callers.{Known, HasMade, spot_of}
use Rattle.oa_simulation.proofs.sim_relation.Names.{KeepsNames, own_kept, shown_kept, made_kept}
use Rattle.epoch_relation.specs.Reckoned.{reckoned, EpochHolds}
use Rattle.epoch_relation.specs.Callers.{Caller, Base, IsAnnounced, IsSafe}
use Rattle.epoch_relation.specs.Walking.{Trail, Walks, Listed, Gets, Pairs, Running, RunsFrom, AfterExchange, GoesOn, ClaimsIn}
use Rattle.epoch_relation.proofs.Moving.{becomes, walks_changed, listed_changed, gets_changed}

-- ---- its own names stay, and what was published

pub safe_known : (t : Plan) (s : Shared) (c : ℕ) (x : Caller) (n : ℕ) → IsSafe t s c x n → Known t s c n
safe_known t s c x n (inl z) = inl z
safe_known t s c x n (inr (inl own)) = inr (inr own)
safe_known t s c x n (inr (inr public)) = inr (inl public.0)

module _ (t : Plan) (c : ℕ) (s s' : Shared) (x : Caller) (g : KeepsNames c s s') where
  pub safe_kept : (n : ℕ) → IsSafe t s c x n → IsSafe t s' c x n
  safe_kept n (inl z) = inl z
  safe_kept n (inr (inl own)) = inr (inl (own_kept t c s s' n g own))
  safe_kept n (inr (inr public)) = inr (inr (g.public n public.0, public.1))

  pub walks_kept : (core : Spot) (m : Trail t) → Walks t s c x core m → Walks t s' c x core m
  walks_kept core m w = record {
    call = w.call;
    wrapup = w.wrapup;
    number = w.number;
    generator = w.generator;
    path_is = w.path_is;
    sized = w.sized;
    agree = w.agree;
    safe = λ r. safe_kept (node_in m.mirror r) (w.safe r);
    fresh = λ gen r is. own_kept t c s s' (node_in m.mirror r) g (w.fresh gen r is);
    shown = λ gen r is. shown_kept s s' (node_in m.mirror r) g.public (w.shown gen r is);
  }

  pub listed_kept : (core : Spot) (m : Trail t) → Listed t s c x core m → Listed t s' c x core m
  listed_kept core m w = record {
    call = w.call;
    wrapup = w.wrapup;
    number = w.number;
    path_is = w.path_is;
    sized = w.sized;
    agree = w.agree;
    safe = λ r. safe_kept (node_in m.mirror r) (w.safe r);
    shown = λ gen r is. shown_kept s s' (node_in m.mirror r) g.public (w.shown gen r is);
  }

  pub gets_kept : (since' : ℕ → ℕ) (m : Trail t) → t.home 0 ≡ 0 → EpochHolds t s' since' → Gets t s c x m → Gets t s' c x m
  gets_kept since' m null after w = record {
    got = w.got;
    made = λ n k has_n. made_kept t c s (reckoned s' since') (λ i. HasMade (code_in m.walk.method) m.path i) n null (record { held = g.held; public = g.public }) after.holds (safe_known t s c x n (w.safe n has_n)) (λ i. w.made n i has_n) k;
    safe = λ n has_n. safe_kept n (w.safe n has_n);
    known = λ wrap n has_n. g.public n (w.known wrap n has_n);
    older = w.older;
  }

  pub base_kept : (since since' : ℕ → ℕ) → (IsAnnounced s' c → (n p : ℕ) → s'.tag n ≡ Some p → p < since' c → has n x.old ≡ true) → ((n : ℕ) → has n s.source.retired ≡ true → has n s'.source.retired ≡ true)
      → Base t s since c x → Base t s' since' c x
  base_kept since since' old retired b = record { number = b.number; old = old; before = λ n is. retired n (b.before n is); cradle = λ k some. (g.held (cradle_of x.entry k) k (b.cradle k some)).0 }

-- ---- so does its announcement, and what its registers are apart from

pub record Leaves (t : Plan) (c : ℕ) (s s' : Shared) (since' : ℕ → ℕ) (x : Caller) : Type 0 where
  pub null : t.home 0 ≡ 0
  pub after : EpochHolds t s' since'
  pub names : KeepsNames c s s'
  pub announced : IsAnnounced s c → IsAnnounced s' c
  pub pairs : (m : Trail t) → IsAnnounced s c → ((r : ℕ) → IsSafe t s c x (node_in m.mirror r)) → Pairs t s m → Pairs t s' m

module _ (t : Plan) (c : ℕ) (s s' : Shared) (since' : ℕ → ℕ) (x : Caller) (g : Leaves t c s s' since' x) where
  pub running_kept : Running t s c x → Running t s' c x
  running_kept w = (w.0, walks_kept t c s s' x g.names (spot_of x.entry.hand) w.0 w.1, gets_kept t c s s' x g.names since' w.0 g.null g.after w.2, w.3, g.announced w.4)

  from_kept : (core : Spot) → RunsFrom t s c x core → RunsFrom t s' c x core
  from_kept core w = (w.0, walks_kept t c s s' x g.names core w.0 w.1, gets_kept t c s s' x g.names since' w.0 g.null g.after w.2, w.3, g.announced w.4, (λ gen. g.pairs w.0 w.4 w.1.safe (w.5 gen)))

  pub behind_kept : (made : ℕ) (more : Bool) → AfterExchange t s c x made more → AfterExchange t s' c x made more
  behind_kept made true w = (w.0, listed_kept t c s s' x g.names (spot_of x.entry.hand) w.0 w.1, w.2, w.3, g.announced w.4, g.pairs w.0 w.4 w.1.safe w.5)
  behind_kept made false w = (w.0, listed_kept t c s s' x g.names (spot_of x.entry.hand) w.0 w.1, w.2, w.3, g.announced w.4, w.5, w.6)

  pub goes_on_kept : (go : AfterRetire) → GoesOn t s c x go → GoesOn t s' c x go
  goes_on_kept onward.Next w = from_kept (record { at = x.entry.hand.at + 1; registers = x.entry.hand.registers }) w
  goes_on_kept (onward.List k) w = behind_kept (k + 1) (nat_lt (k + 1) (length (list_of (instr_in t.target x.entry)))) w

  pub claims_kept : (withdrawn : Bool) → ClaimsIn t s c x withdrawn → ClaimsIn t s' c x withdrawn
  claims_kept true w = w
  claims_kept false w = running_kept w

-- ---- the entry goes on, and its call, hand and replies stay

abbrev pub placed : Caller → ℕ → List ℕ → Counts → Routine → Caller
placed x steps cradles counts r = becomes x (record {
  number = x.entry.number;
  running = record x.entry.running { steps = steps };
  hand = x.entry.hand;
  cradles = cradles;
  routine = r;
  replies = x.entry.replies;
  counts = counts;
})

module _ (t : Plan) (s : Shared) (c : ℕ) (x : Caller) (steps : ℕ) (cradles : List ℕ) (counts : Counts) (r : Routine) where
  pub running_placed : Running t s c x → Running t s c (placed x steps cradles counts r)
  running_placed w = (w.0, walks_changed t s c x (spot_of x.entry.hand) w.0 (placed x steps cradles counts r).entry x.source x.watch refl refl w.1, gets_changed t s c x w.0 (placed x steps cradles counts r).entry x.source w.2, w.3, w.4)

  from_placed : (core : Spot) → RunsFrom t s c x core → RunsFrom t s c (placed x steps cradles counts r) core
  from_placed core w = (w.0, walks_changed t s c x core w.0 (placed x steps cradles counts r).entry x.source x.watch refl refl w.1, gets_changed t s c x w.0 (placed x steps cradles counts r).entry x.source w.2, w.3, w.4, w.5)

  pub behind_placed : (made : ℕ) (more : Bool) → AfterExchange t s c x made more → AfterExchange t s c (placed x steps cradles counts r) made more
  behind_placed made true w = (w.0, listed_changed t s c x (spot_of x.entry.hand) w.0 (placed x steps cradles counts r).entry x.source x.watch refl refl w.1, w.2, w.3, w.4, w.5)
  behind_placed made false w = (w.0, listed_changed t s c x (spot_of x.entry.hand) w.0 (placed x steps cradles counts r).entry x.source x.watch refl refl w.1, w.2, w.3, w.4, w.5, w.6)

  pub goes_on_placed : (go : AfterRetire) → GoesOn t s c x go → GoesOn t s c (placed x steps cradles counts r) go
  goes_on_placed onward.Next w = from_placed (record { at = x.entry.hand.at + 1; registers = x.entry.hand.registers }) w
  goes_on_placed (onward.List k) w = behind_placed (k + 1) (nat_lt (k + 1) (length (list_of (instr_in t.target x.entry)))) w
