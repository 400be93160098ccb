-- Each head's phase is at most the phase word: a sweep announces a phase that the phase word has come to, and a head was loaded before.
use Rattle.std.proofs.Common.{inl, inr, ⊎_elim, ◌⊎◌, List, ◌≡◌, ℕ, zero, suc, ◌+◌, ◌≤◌, true, Option, Some, None, refl, sym, ◌∙◌, ap, subst}
use Rattle.std.specs.Prelude.{slice_get}
use Rattle.norm_lang.specs.declared.text.Place.{Place}
use Rattle.norm_lang.specs.declared.text.Place.TheVariants as places
use Rattle.norm_lang.specs.declared.text.CasEntry.{CasEntry}
use Rattle.norm_lang.specs.declared.text.Instr.{Instr}
use Rattle.norm_lang.specs.declared.text.Instr.TheVariants as instr
use Rattle.norm_lang.specs.declared.registers.Registers.{Registers}
use Rattle.norm_lang.specs.declared.text.FieldDecl.{FieldDecl}
use Rattle.norm_lang.specs.KindFields.{place_of}
use Rattle.norm_lang.specs.Registers.{number_in}
use Rattle.norm_lang.specs.Local.{remainder}
use Rattle.target_code.specs.declared.target.TargetInstr.{TargetInstr}
use Rattle.target_code.specs.declared.target.TargetInstr.TheVariants.{Plain, Check, Guard}
use Rattle.target_code.specs.declared.target.Target.{Target}
use Rattle.oa_words.specs.Words.{Word, Phase, Warning, Hazard, FieldOf, Cell}
use Rattle.oa_words.specs.Starts.{Suits}
use Rattle.phase_pools.specs.declared.access.ClaimEnd.{ClaimEnd}
use Rattle.phase_pools.specs.declared.stages.SweepStage.{SweepStage}
use Rattle.phase_pools.specs.declared.stages.SweepStage.TheVariants as sweeps
use Rattle.phase_pools.specs.declared.stages.ClaimStage.{ClaimStage}
use Rattle.phase_pools.specs.declared.stages.ClaimStage.TheVariants as claims
use Rattle.phase_pools.specs.Accesses.{WordAccess, Loads, Stores, word_of, word_after}
use Rattle.phase_pools.specs.Pools.{Claim, claim_wants, claim_accepts, Retirement, retire_wants}
use Rattle.chain_laws.specs.Memories.{after_access}
use Rattle.chain_laws.specs.Machine.{Elsewhere, is_other}
use Rattle.chain_laws.proofs.Lists.{each_put}
use Rattle.chain_laws.proofs.Changes.{Same}
use Rattle.chain_laws.proofs.Same.{same_loaded, same_written}
use Rattle.chain_laws.specs.claim_order.Stamps.{Below, WordsWithin}
use Rattle.chain_laws.proofs.claim_order.Stamps.{ClaimOn, ClaimStores, SweepStores, below_up, claim_keeps, retire_within, start_within, words_same}
use Rattle.caller_parts.specs.declared.routine.AfterRetire.{AfterRetire}
use Rattle.caller_parts.specs.declared.routine.Routine.{Routine}
use Rattle.caller_parts.specs.declared.routine.Routine.TheVariants.{Idle, LoadSeen, At, InList, Retires, Restarts, Clears, Claims, Zeroes, Announces}
use Rattle.caller_parts.specs.declared.routine.Announcing.{Announcing}
use Rattle.caller_parts.specs.declared.routine.Announcing.TheVariants as announces
use Rattle.caller_parts.specs.Operands.{list_of, register_number, slot_in, word_in}
use Rattle.caller_parts.specs.declared.setting.Reclamation.{Reclamation}
use Rattle.caller_parts.specs.declared.setting.Reclamation.TheVariants.{Optimistic, Epochs}
use Rattle.caller_parts.specs.Settings.{Setting}
use Rattle.caller_steps.specs.Entries.{Entry, cradle_of, instr_in}
use Rattle.caller_steps.specs.Clearing.{clear_next, restart_next}
use Rattle.caller_steps.specs.Wants.{announcing_wanted, clear_wanted, exchange_wanted, instr_wanted, list_wanted, object_exchange, place_exchange, plain_wanted, wanted, wants}
use Rattle.caller_steps.specs.After.{after, first_routine, taken}
use Rattle.caller_steps.specs.Belongs.{ClaimBelongs, ClaimStands, SweepStands, Stands}
use Rattle.core_runs.specs.Machine.{CoreEvent, CoreState, Steps, Takes, core_event, core_start, beginning_of}
use Rattle.core_runs.specs.Views.{CoreView, IsShaped, Moves, put, view}
use Rattle.core_runs.proofs.Seeing.{caller_there, events_are_seen}
use Rattle.core_runs.proofs.Starting.{start_is_seen}
use Rattle.core_runs.proofs.caller_laws.Equations.{wants_claims, wants_retires}
use Rattle.core_runs.proofs.caller_laws.Methods.{SettingSane}
use Rattle.core_runs.proofs.caller_laws.Routed.{HoldsAtBegins, after_routed}
use Rattle.core_runs.specs.core_sound.Sound.{IsSound}
use Rattle.core_runs.specs.core_sound.Standing.{standing_of}

-- ---- what is accessed outside the pool's routines

-- an access of a word that isn't the pool's
abbrev pub IsOther : WordAccess → Type 0
IsOther a = is_other (word_of a) ≡ true

-- or a load of the phase, which is the pool's too
abbrev pub LeavesPool : WordAccess → Type 0
LeavesPool a = IsOther a ⊎ (a ≡ Loads Phase)

pub leaves_same : (m : Word → ℕ) (a : WordAccess) → LeavesPool a → Same m (after_access m a)
leaves_same m a leaves = ⊎_elim
    (λ (other : IsOther a). same_written m (word_of a) (word_after a (m (word_of a))) other)
    (λ (loads : a ≡ Loads Phase). subst (λ (x : WordAccess). Same m (after_access m x)) (sym loads) (same_loaded m Phase))
    leaves

some_same : (a b : WordAccess) → Some a ≡ Some b → a ≡ b
some_same a b is = cc

other_by : (x a : WordAccess) → Some x ≡ Some a → IsOther x → IsOther a
other_by x a is other = subst IsOther (some_same x a is) other

other_exchange : (fields : List FieldDecl) (exchange : CasEntry) (registers : Registers) → IsOther (exchange_wanted fields exchange registers)
other_exchange fields exchange registers = of exchange.place where
  by_slot : (j f expected replacement : ℕ) → IsOther (object_exchange j f expected replacement)
  by_slot zero f expected replacement = refl
  by_slot (suc j) f expected replacement = refl

  of : (place : Place) → IsOther (place_exchange fields place registers (word_in registers exchange.expected) (word_in registers exchange.replacement))
  of (places.Root x) = refl
  of (places.Field a f) = by_slot (slot_in registers a) (place_of fields f) (word_in registers exchange.expected) (word_in registers exchange.replacement)

other_plain : (fields : List FieldDecl) (i : Instr) (registers : Registers) (a : WordAccess) → plain_wanted fields i registers ≡ Some a → IsOther a
other_plain fields (instr.LoadRoot d x) registers a is = other_by (Loads (Cell x)) a is refl
other_plain fields (instr.LoadPick d x count r) registers a is = other_by (Loads (Cell (x + remainder (number_in registers r) count))) a is refl
other_plain fields (instr.LoadField d r f) registers a is = other_by (Loads (FieldOf (slot_in registers r) (place_of fields f))) a is refl
other_plain fields (instr.Put r f b) registers a is = other_by (Stores (FieldOf (slot_in registers r) (place_of fields f)) (word_in registers b)) a is refl
other_plain fields (instr.Cas exchange l) registers a is = other_by (exchange_wanted fields exchange registers) a is (other_exchange fields exchange registers)
other_plain fields _ registers a is = absurd (let no : None ≡ Some a = is in cc)

other_instr : (fields : List FieldDecl) (c : ℕ) (o : Option TargetInstr) (registers : Registers) (a : WordAccess) → instr_wanted fields c o registers ≡ Some a → IsOther a
other_instr fields c None registers a is = absurd (let no : None ≡ Some a = is in cc)
other_instr fields c (Some (Plain i)) registers a is = other_plain fields i registers a is
other_instr fields c (Some Check) registers a is = other_by (Loads (Warning c)) a is refl
other_instr fields c (Some (Guard r)) registers a is = other_by (Stores (Hazard c (register_number r)) (slot_in registers r)) a is refl

other_list : (fields : List FieldDecl) (o : Option CasEntry) (registers : Registers) (a : WordAccess) → list_wanted fields o registers ≡ Some a → IsOther a
other_list fields None registers a is = absurd (let no : None ≡ Some a = is in cc)
other_list fields (Some exchange) registers a is = other_by (exchange_wanted fields exchange registers) a is (other_exchange fields exchange registers)

other_clear : (c : ℕ) (o : Option ℕ) (a : WordAccess) → clear_wanted c o ≡ Some a → IsOther a
other_clear c None a is = absurd (let no : None ≡ Some a = is in cc)
other_clear c (Some r) a is = other_by (Stores (Hazard c r) 0) a is refl

other_announcing : (c : ℕ) (announcing : Announcing) (a : WordAccess) → Some (announcing_wanted c announcing) ≡ Some a → LeavesPool a
other_announcing c (announces.Loads why) a is = inr (some_same a (Loads Phase) (sym is))
other_announcing c (announces.Stores why phase) a is = inl (other_by (Stores (Warning c) phase) a is refl)
other_announcing c (announces.Leaves reply) a is = inl (other_by (Stores (Warning c) 0) a is refl)

other_wanted : (target : Target) (e : Entry) (routine : Routine) (a : WordAccess) → standing_of routine ≡ Elsewhere → wanted target e routine ≡ Some a → LeavesPool a
other_wanted target e Idle a at is = absurd (let no : None ≡ Some a = is in cc)
other_wanted target e (LoadSeen why) a at is = inl (other_by (Loads (Warning e.number)) a is refl)
other_wanted target e At a at is = inl (other_instr target.fields e.number (instr_in target e) e.hand.registers a is)
other_wanted target e (InList k) a at is = inl (other_list target.fields (slice_get (list_of (instr_in target e)) k) e.hand.registers a is)
other_wanted target e (Retires retirement go) a at is = absurd cc
other_wanted target e Restarts a at is = inl (other_clear e.number (restart_next target e) a is)
other_wanted target e (Clears next) a at is = inl (other_clear e.number (clear_next target next e) a is)
other_wanted target e (Claims claim) a at is = absurd cc
other_wanted target e (Zeroes k field) a at is = inl (other_by (Stores (FieldOf (cradle_of e k) field) 0) a is refl)
other_wanted target e (Announces announcing) a at is = other_announcing e.number announcing a is

-- a caller that stands elsewhere accesses a word that isn't the pool's, or loads the phase
pub elsewhere_wants : (target : Target) (e : Entry) (a : WordAccess) → standing_of e.routine ≡ Elsewhere → wants target e ≡ Some a → LeavesPool a
unfolding wants
elsewhere_wants target e a at is = other_wanted target e e.routine a at is

-- ---- a claim that belongs stores slots of the row

sweep_stores : (setting : Setting) (bound : ℕ) (stage : SweepStage) → SweepStands setting bound stage → SweepStores setting.sizes stage
sweep_stores setting bound (sweeps.PushHead k j) s = s.2
sweep_stores setting bound (sweeps.PushLink j q t) s = s.3
sweep_stores setting bound (sweeps.PushTop k j q t) s = (s.4, (s.0, s.1))
sweep_stores setting bound _ s = tt

claim_stores : (setting : Setting) (c : ℕ) (claim : Claim) → ClaimBelongs setting c claim → ClaimStores setting.sizes claim.kind claim.sweep.stage claim.stage
claim_stores setting c claim b = of claim.stage b.stands where
  of : (stage : ClaimStage) → ClaimStands setting claim.sweep.scheme claim.kind stage → ClaimStores setting.sizes claim.kind claim.sweep.stage stage
  of (claims.Take q t next) s = s.3
  of claims.Sweeps s = sweep_stores setting claim.sweep.bound claim.sweep.stage b.sweep.stands
  of _ s = tt

-- ---- steps

-- the words of the chain are within their limits, and no phase that a caller has loaded or announced is past the phase word
pub record IsStamped (setting : Setting) (memory : Word → ℕ) (who : ℕ → Entry) : Type 0 where
  pub words : WordsWithin setting.sizes memory
  pub below : (c : ℕ) → Below (memory Phase) (standing_of (who c).routine)

-- before the first access of a call a caller stands elsewhere
first_below : (phase : ℕ) (by : Reclamation) → Below phase (standing_of (first_routine by))
first_below phase Optimistic = tt
first_below phase Epochs = tt

begins_below : (target : Target) (setting : Setting) (phase : ℕ) → HoldsAtBegins target setting.sizes (λ (routine : Routine). Below phase (standing_of routine))
begins_below target setting phase = record {
  idle = tt;
  seen = λ why. tt;
  here = tt;
  lists = λ k. tt;
  retires = λ j go. tt;
  restarts = tt;
  clears = λ next. tt;
  claims = λ e scheme. tt;
  zeroes = λ k field. tt;
  announces = λ announcing. tt;
}

-- words, and where the caller stands after its access
record AfterStep (setting : Setting) (m m' : Word → ℕ) (later : Entry) : Type 0 where
  words : WordsWithin setting.sizes m'
  up : m Phase ≤ m' Phase
  below : Below (m' Phase) (standing_of later.routine)

module _ (target : Target) (setting : Setting) (some : SettingSane setting) where
  claims_step : (m : Word → ℕ) (e : Entry) (claim : Claim) → e.routine ≡ Claims claim → ClaimBelongs setting e.number claim → WordsWithin setting.sizes m → Below (m Phase) (standing_of (Claims claim))
      → AfterStep setting m (after_access m (claim_wants claim)) (after target setting e (m (word_of (claim_wants claim))))
  claims_step m e claim is b words below =
      let found = m (word_of (claim_wants claim)) in
      let turn = claim_accepts setting.sizes setting.last claim found in
      let m' : Word → ℕ = after_access m (claim_wants claim) in
      let k = claim_keeps setting.sizes setting.last m claim b.tops some.kinds some.few b.kind words (claim_stores setting e.number claim b) below in
      record {
        words = k.words;
        up = k.up;
        below = after_routed target setting (λ (routine : Routine). Below (m' Phase) (standing_of routine)) (begins_below target setting (m' Phase)) e found (record {
          claims = λ other same goes.
              let one : claim ≡ other = (let both : Claims claim ≡ Claims other = sym is ∙ same in cc) in
              subst (λ (x : Claim). Below (m' Phase) (standing_of (Claims (claim_accepts setting.sizes setting.last x found).claim))) one
              (goes_on (m' Phase) turn.claim turn.ended (subst (λ (x : Claim). (claim_accepts setting.sizes setting.last x found).ended ≡ None) (sym one) goes) k.on);
          retires = λ retirement left go same goes. tt;
        });
      }
    where
      goes_on : (phase : ℕ) (claim : Claim) (end : Option ClaimEnd) → end ≡ None → ClaimOn claim end phase → Below phase (standing_of (Claims claim))
      goes_on phase claim None is on = on
      goes_on phase claim (Some end) is on = absurd cc

  retires_step : (m : Word → ℕ) (e : Entry) (retirement : Retirement) (go : AfterRetire) → e.routine ≡ Retires retirement go → WordsWithin setting.sizes m
      → AfterStep setting m (after_access m (retire_wants retirement)) (after target setting e (m (word_of (retire_wants retirement))))
  retires_step m e retirement go is words =
      let found = m (word_of (retire_wants retirement)) in
      let m' : Word → ℕ = after_access m (retire_wants retirement) in
      let k = retire_within setting.sizes m retirement.slot retirement.stage words in
      record {
        words = k.0;
        up = k.1;
        below = after_routed target setting (λ (routine : Routine). Below (m' Phase) (standing_of routine)) (begins_below target setting (m' Phase)) e found (record {
          claims = λ claim same goes. absurd (let no : Retires retirement go ≡ Claims claim = sym is ∙ same in cc);
          retires = λ other left go same goes. tt;
        });
      }

  elsewhere_step : (m : Word → ℕ) (e : Entry) (a : WordAccess) → standing_of e.routine ≡ Elsewhere → wants target e ≡ Some a → WordsWithin setting.sizes m
      → AfterStep setting m (after_access m a) (after target setting e (m (word_of a)))
  elsewhere_step m e a at want words =
      let found = m (word_of a) in
      let m' : Word → ℕ = after_access m a in
      let same = leaves_same m a (elsewhere_wants target e a at want) in
      record {
        words = words_same setting.sizes m m' same words;
        up = same.phase;
        below = after_routed target setting (λ (routine : Routine). Below (m' Phase) (standing_of routine)) (begins_below target setting (m' Phase)) e found (record {
          claims = λ claim same goes. absurd (let no : standing_of (Claims claim) ≡ Elsewhere = ap standing_of (sym same) ∙ at in cc);
          retires = λ retirement left go same goes. tt;
        });
      }

  caller_step : (m : Word → ℕ) (e : Entry) (a : WordAccess) → wants target e ≡ Some a → Stands target setting e e.routine → WordsWithin setting.sizes m → Below (m Phase) (standing_of e.routine)
      → AfterStep setting m (after_access m a) (after target setting e (m (word_of a)))
  caller_step m e a want stands words below = of e.routine refl stands below where
    of : (routine : Routine) → e.routine ≡ routine → Stands target setting e routine → Below (m Phase) (standing_of routine) → AfterStep setting m (after_access m a) (after target setting e (m (word_of a)))
    of (Claims claim) is stands below =
        subst (λ (x : WordAccess). AfterStep setting m (after_access m x) (after target setting e (m (word_of x)))) (some_same (claim_wants claim) a (sym (wants_claims target e claim is) ∙ want))
        (claims_step m e claim is stands.1 words below)
    of (Retires retirement go) is stands below =
        subst (λ (x : WordAccess). AfterStep setting m (after_access m x) (after target setting e (m (word_of x)))) (some_same (retire_wants retirement) a (sym (wants_retires target e retirement go is) ∙ want))
        (retires_step m e retirement go is words)
    of _ is stands below = elsewhere_step m e a (ap standing_of is) want words

  -- events
  moves_stamped : (state : CoreState) (event : CoreEvent) (later : CoreView) → IsShaped target setting state → IsSound target setting state
      → IsStamped setting (view setting state).memory (view setting state).who → Moves target setting (view setting state) event later → IsStamped setting later.memory later.who
  moves_stamped state (Takes c call) later shaped sound w goes =
      let v = view setting state in
      let who : ℕ → Entry = put v.who c (taken setting.reclamation call (v.who c)) in
      subst (λ (m : Word → ℕ). IsStamped setting m later.who) (sym goes.3)
      (subst (λ (f : ℕ → Entry). IsStamped setting v.memory f) (sym goes.4) (record {
        words = w.words;
        below = each_put (λ d (x : Entry). Below (v.memory Phase) (standing_of x.routine)) v.who c (taken setting.reclamation call (v.who c)) (first_below (v.memory Phase) setting.reclamation) (λ d ne. w.below d);
      }))
  moves_stamped state (Steps c) later shaped sound w goes =
      let v = view setting state in
      let a : WordAccess = goes.0 in
      let e : Entry = v.who c in
      let m' : Word → ℕ = after_access v.memory a in
      let e' : Entry = after target setting e (v.memory (word_of a)) in
      let belongs = (sound.belong c e (caller_there {target = target} {setting = setting} state c shaped goes.1)).0 in
      let k = caller_step v.memory e a goes.2 belongs.stands w.words (w.below c) in
      subst (λ (m : Word → ℕ). IsStamped setting m later.who) (sym goes.4)
      (subst (λ (f : ℕ → Entry). IsStamped setting m' f) (sym goes.5) (record {
        words = k.words;
        below = each_put (λ d (x : Entry). Below (m' Phase) (standing_of x.routine)) v.who c e' k.below (λ d ne. below_up (v.memory Phase) (m' Phase) (standing_of (v.who d).routine) k.up (w.below d));
      }))

  pub event_stamped : (state later : CoreState) (event : CoreEvent) → IsShaped target setting state → IsSound target setting state → core_event target setting state event ≡ Some later
      → IsStamped setting (view setting state).memory (view setting state).who → IsStamped setting (view setting later).memory (view setting later).who
  event_stamped state later event shaped sound leads w =
      moves_stamped state event (view setting later) shaped sound w ((events_are_seen target setting).moves state later event shaped leads)

  pub start_stamped : Suits setting.sizes (beginning_of target setting) → IsStamped setting (view setting (core_start target setting)).memory (view setting (core_start target setting)).who
  start_stamped suits = record {
    words = start_within setting.sizes (beginning_of target setting) (view setting (core_start target setting)).memory some.kinds some.few ((start_is_seen target setting).memory suits);
    below = λ c. subst (λ (x : Entry). Below ((view setting (core_start target setting)).memory Phase) (standing_of x.routine)) (sym ((start_is_seen target setting).who c)) tt;
  }
