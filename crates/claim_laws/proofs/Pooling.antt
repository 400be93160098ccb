-- Every event keeps that slots which were never claimed are ready and named by the chain alone, that claims take them in ascending order,
-- and that claims are counted.
use Rattle.std.proofs.Common.{◌≡◌, ◌≢◌, ◌⊎◌, inl, inr, ⊎_elim, ℕ, zero, suc, ◌+◌, ◌≤◌, ◌<◌, ◌==◌, ◌&&◌, ◌||◌, Bool, true, false, List, [], ◌∷◌, length, set, Option, Some, None, refl, sym, ◌∙◌, ap, subst, arith, get_or-set_other, get_or-set_same, if◌then◌else◌}
use Rattle.std.specs.Prelude.{slice_get, slice_set, slice_index}
use Rattle.std.proofs.lemmas.Bool.{cases_lt}
use Rattle.std.proofs.lemmas.Bool.Decides.{nat_tests, eqb_tells}
use Rattle.target_code.specs.declared.target.Target.{Target}
use Rattle.oa_words.specs.declared.packed.Kind.TheVariants as kinds
use Rattle.oa_words.specs.SlotKinds.{range_of, kind_of, range_at}
use Rattle.oa_words.specs.Starts.{first_ready}
use Rattle.oa_words.proofs.KindRanges.{kind_small, in_range_is_of_kind}
use Rattle.oa_words.specs.Words.{Word, Status, Head, Sizes, address_of, in_row, word_count}
use Rattle.oa_words.specs.Packed.{head_parts, head_word, status_word}
use Rattle.oa_words.specs.Memories.{seen, store}
use Rattle.oa_words.proofs.Places.{apart, within}
use Rattle.guard_words.specs.Guards.{has_slot}
use Rattle.phase_pools.specs.declared.access.ClaimEnd.{ClaimEnd}
use Rattle.phase_pools.specs.declared.access.ClaimEnd.TheVariants as ends
use Rattle.phase_pools.specs.declared.stages.ClaimStage.{ClaimStage}
use Rattle.phase_pools.specs.declared.stages.ClaimStage.TheVariants as claims
use Rattle.phase_pools.specs.Accesses.{WordAccess, word_of, word_after}
use Rattle.phase_pools.specs.Pools.{Claim, ClaimTurn, claim_accepts, claim_takes, claim_wants, Retirement, retire_wants, takes_at}
use Rattle.chain_laws.specs.Chains.{top}
use Rattle.chain_laws.specs.Machine.{Elsewhere}
use Rattle.chain_laws.specs.Memories.{after_access, put}
use Rattle.chain_laws.proofs.Lists.{each_put, put_same}
use Rattle.chain_laws.specs.claim_order.Frontier.{ClaimFits, Fits, IsOrdered, AreOrdered, frontier_at}
use Rattle.chain_laws.proofs.claim_order.Ranges.{near_below, near_inside, near_none}
use Rattle.chain_laws.proofs.claim_order.Frontier.{ClaimOn, AllMove, Kept, all_stay, claim_opens, fits_later, ordered_same, retire_open}
use Rattle.caller_parts.specs.declared.call.Call.{Call}
use Rattle.caller_parts.specs.declared.routine.AfterRetire.{AfterRetire}
use Rattle.caller_parts.specs.declared.setting.Reclamation.{Reclamation}
use Rattle.caller_parts.specs.declared.setting.Reclamation.TheVariants.{Optimistic, Epochs}
use Rattle.caller_parts.specs.declared.routine.Routine.{Routine}
use Rattle.caller_parts.specs.declared.routine.Routine.TheVariants.{Idle, LoadSeen, At, InList, Retires, Restarts, Clears, Claims, Zeroes, Announces}
use Rattle.caller_parts.specs.Settings.{Setting, Fits as FitsTarget}
use Rattle.caller_steps.specs.Entries.{Entry, is_idle, one_more}
use Rattle.caller_parts.specs.Calls.{is_call}
use Rattle.caller_steps.specs.Signs.{Moved}
use Rattle.caller_steps.specs.Wants.{wants}
use Rattle.caller_steps.specs.After.{after, taken, claim_counted, claim_on, counted, first_routine, with_routine}
use Rattle.caller_steps.specs.Lawful.{AsksSafely, IsSafe, MayBeTold}
use Rattle.caller_steps.specs.Belongs.{Belongs, Stands}
use Rattle.core_runs.specs.Machine.{CoreState, CoreEvent, Takes, Steps, core_event, event_by, found_by, made, stepped, word_at}
use Rattle.core_runs.proofs.Reaching.{some_is}
use Rattle.core_runs.proofs.Seeing.{found_is, seen_set}
use Rattle.core_runs.proofs.Keeping.{idle_wants}
use Rattle.core_runs.proofs.caller_laws.Methods.{Methods, SettingSane, news_fit}
use Rattle.core_runs.proofs.caller_laws.Equations.{after_is, moved_claims, wants_claims, wants_retires}
use Rattle.core_runs.proofs.caller_laws.Routed.{HoldsAsGoesOn, HoldsAtBegins, after_routed}
use Rattle.core_runs.proofs.caller_laws.Safety.{wants_safe}
use Rattle.core_runs.proofs.caller_laws.Steps.{after_belongs}
use Rattle.core_runs.specs.core_sound.Sound.{IsSound}
use Rattle.core_runs.specs.core_sound.Standing.{standing_of}
use Rattle.core_runs.proofs.core_sound.Machine.{found_told, set_got}
use Rattle.core_runs.proofs.core_sound.Stamping.{elsewhere_wants, leaves_same}
use Rattle.claim_laws.specs.Untouched.{nodes_in, HeldNone, WordAvoids, EntryAvoids, IsUntouched, RoutineAvoids}
use Rattle.claim_laws.proofs.Onward.{IsBefore, IsNoClaim, StandsAfter, after_answers, first_before, slot_gains}
use Rattle.claim_laws.proofs.Avoiding.{after_avoids}
use Rattle.claim_laws.proofs.Naming.{first_avoid}
use Rattle.claim_laws.proofs.Meeting.{ClaimsOther, TakesOther, ToldAvoids, LeavesOther, step_found, step_leaves}
use Rattle.claim_laws.proofs.Counting.{IsCounted, counts_same, counts_more}
use Rattle.claim_laws.proofs.Touching.{LeavesReady, step_leaves_ready, IsUntaken, AllTouched, held_some, untaken_before}

-- ---- one word changes

stored : (setting : Setting) (words : List ℕ) (v w : Word) (x : ℕ) → length words ≡ word_count setting.sizes → in_row setting.sizes v ≡ true → in_row setting.sizes w ≡ true
    → ((w ≡ v) × (slice_index (set words (address_of setting.sizes v) x) (address_of setting.sizes w) ≡ x))
    ⊎ (slice_index (set words (address_of setting.sizes v) x) (address_of setting.sizes w) ≡ slice_index words (address_of setting.sizes w))
stored setting words v w x count row there = ⊎_elim
    (λ (t : ((address_of setting.sizes w == address_of setting.sizes v) ≡ true) × (address_of setting.sizes w ≡ address_of setting.sizes v)).
    inl (
      apart setting.sizes w v there row t.1,
      ap (slice_index (set words (address_of setting.sizes v) x)) t.1
          ∙ get_or-set_same words (address_of setting.sizes v) x 0 (let lt = within setting.sizes v row in omega (arith, lt, count)),
    ))
    (λ (t : ((address_of setting.sizes w == address_of setting.sizes v) ≡ false) × (address_of setting.sizes w ≢ address_of setting.sizes v)).
    inr (get_or-set_other words (address_of setting.sizes v) (address_of setting.sizes w) x 0 t.1))
    (eqb_tells (address_of setting.sizes w) (address_of setting.sizes v))

-- ---- what holds of all callers together

-- the slots that were claimed are among these, and as many claims are counted. They are those that held no initial node and stand before the
-- frontier of their kind
pub record Pool (target : Target) (setting : Setting) (state : CoreState) (slots : List ℕ) (v : ℕ → ℕ) : Type 0 where
  pub untouched : (j : ℕ) → IsUntaken setting slots j → IsUntouched target setting state j
  pub past : (j : ℕ) → HeldNone setting j → j < v (kind_of setting.sizes j) → has_slot slots j ≡ true
  pub ahead : (j : ℕ) → v (kind_of setting.sizes j) ≤ j → has_slot slots j ≡ false
  pub words : AreOrdered setting.sizes (nodes_in setting) setting.first (seen setting.sizes state.words) v
  pub fits : (c : ℕ) (e : Entry) → slice_get state.entries c ≡ Some e → Fits setting.sizes (seen setting.sizes state.words) v (standing_of e.routine)
  pub before : (c : ℕ) (e : Entry) → slice_get state.entries c ≡ Some e → IsBefore e.routine
  pub count : IsCounted (length slots) state.entries

pub record IsPooled (target : Target) (setting : Setting) (state : CoreState) : Type 0 where
  pub slots : List ℕ
  pub frontier : ℕ → ℕ
  pub pool : Pool target setting state slots frontier

-- if no slot of a kind is on top, each was claimed
all_touched : (setting : Setting) (slots : List ℕ) (m : Word → ℕ) (v : ℕ → ℕ) (k : ℕ) → k < length setting.sizes.kinds → AreOrdered setting.sizes (nodes_in setting) setting.first m v
    → ((j : ℕ) → HeldNone setting j → j < v (kind_of setting.sizes j) → has_slot slots j ≡ true) → top setting.sizes.tops m k ≡ 0 → AllTouched setting k slots
all_touched setting slots m v k lt o past none i within = ⊎_elim (λ (node : i < ready). inl node) (λ (other : ready ≤ i). inr (past i other below)) (cases_lt i ready) where
  ready : ℕ
  ready = first_ready (range_at setting.sizes i) (nodes_in setting (kind_of setting.sizes i))

  words : IsOrdered setting.sizes.tops (range_of setting.sizes k) k (nodes_in setting k) setting.first m (v k)
  words = o k lt

  below : i < v (kind_of setting.sizes i)
  below =
      let over = near_none (range_of setting.sizes k) (v k) (top setting.sizes.tops m k) words.above_null none words.top_good.0 in
      subst (λ (a : ℕ). i < v a) (sym (in_range_is_of_kind setting.sizes k i lt within)) (let high = within.1 in omega (arith, high, over))

-- ---- a caller after its step

-- the step's exchange takes a slot
abbrev pub takes_in : Sizes → Routine → ℕ → Bool
takes_in sizes (Claims claim) word = claim_takes sizes claim word
takes_in sizes _ word = false

abbrev pub count_after : Bool → ℕ → ℕ
count_after takes n = if takes then one_more n else n

module _ (target : Target) (setting : Setting) where
  -- each step counts the slot that it takes
  pub counts_after : (e : Entry) (word : ℕ) → is_idle e.routine ≡ false → IsBefore e.routine → (after target setting e word).counts.claims ≡ count_after (takes_in setting.sizes e.routine word) e.counts.claims
  counts_after e word busy before = of e.routine refl where
    plain : (routine : Routine) → e.routine ≡ routine → IsNoClaim routine → takes_in setting.sizes routine word ≡ false → (after target setting e word).counts.claims ≡ count_after (takes_in setting.sizes e.routine word) e.counts.claims
    plain routine is other none =
        (after_answers target setting e word before (subst IsNoClaim (sym is) other)).0 ∙ ap (λ (b : Bool). count_after b e.counts.claims) (sym (ap (λ (r : Routine). takes_in setting.sizes r word) is ∙ none))

    ended : (claim : Claim) (o : Option ClaimEnd) (x : Entry) → (claim_on setting.reclamation target claim o x).entry.counts.claims ≡ x.counts.claims
    ended claim (Some (ends.Claimed k)) x = (slot_gains setting.reclamation target claim.sweeps k (with_routine x At)).claims
    ended claim _ x = refl

    of : (routine : Routine) → e.routine ≡ routine → (after target setting e word).counts.claims ≡ count_after (takes_in setting.sizes e.routine word) e.counts.claims
    of Idle is = absurd (let z : true ≡ false = sym (ap is_idle is) ∙ busy in cc)
    of (Claims claim) is =
        let turn : ClaimTurn = claim_accepts setting.sizes setting.last claim word in
        ap (λ (x : Entry). x.counts.claims) (after_is target setting e word ∙ ap (λ (m : Moved). m.entry) (moved_claims setting.reclamation target setting e word claim is))
        ∙ (ended turn.claim turn.ended (claim_counted (claim_takes setting.sizes claim word) (counted e))
        ∙ ap (λ (b : Bool). count_after b e.counts.claims) (sym (ap (λ (r : Routine). takes_in setting.sizes r word) is)))
    of (LoadSeen why) is = plain (LoadSeen why) is tt refl
    of At is = plain At is tt refl
    of (InList k) is = plain (InList k) is tt refl
    of (Retires retirement go) is = plain (Retires retirement go) is tt refl
    of Restarts is = plain Restarts is tt refl
    of (Clears next) is = plain (Clears next) is tt refl
    of (Zeroes k field) is = plain (Zeroes k field) is tt refl
    of (Announces announcing) is = plain (Announces announcing) is tt refl

  -- and one that ends its call does so with an answer
  pub before_after : (e : Entry) (word : ℕ) → is_idle e.routine ≡ false → IsBefore e.routine → IsBefore (after target setting e word).routine
  before_after e word busy before = of e.routine refl where
    later : Entry
    later = after target setting e word

    plain : (routine : Routine) → e.routine ≡ routine → IsNoClaim routine → IsBefore later.routine
    plain routine is other = by later.routine refl (after_answers target setting e word before (subst IsNoClaim (sym is) other)).1 where
      by : (now : Routine) → later.routine ≡ now → StandsAfter setting.sizes (counted e) later now → IsBefore later.routine
      by (Clears next) same stands = subst IsBefore (sym same) stands
      by (Announces announcing) same stands = subst IsBefore (sym same) stands
      by now same stands = subst IsBefore (sym same) tt

    ended : (next : Claim) (o : Option ClaimEnd) (x : Entry) → IsBefore (claim_on setting.reclamation target next o x).entry.routine
    ended next (Some (ends.Claimed k)) x = (slot_gains setting.reclamation target next.sweeps k (with_routine x At)).before
    ended next _ x = tt

    of : (routine : Routine) → e.routine ≡ routine → IsBefore later.routine
    of Idle is = absurd (let z : true ≡ false = sym (ap is_idle is) ∙ busy in cc)
    of (Claims claim) is =
        let turn : ClaimTurn = claim_accepts setting.sizes setting.last claim word in
        subst (λ (x : Entry). IsBefore x.routine) (sym (after_is target setting e word ∙ ap (λ (m : Moved). m.entry) (moved_claims setting.reclamation target setting e word claim is)))
        (ended turn.claim turn.ended (claim_counted (claim_takes setting.sizes claim word) (counted e)))
    of (LoadSeen why) is = plain (LoadSeen why) is tt
    of At is = plain At is tt
    of (InList k) is = plain (InList k) is tt
    of (Retires retirement go) is = plain (Retires retirement go) is tt
    of Restarts is = plain Restarts is tt
    of (Clears next) is = plain (Clears next) is tt
    of (Zeroes k field) is = plain (Zeroes k field) is tt
    of (Announces announcing) is = plain (Announces announcing) is tt

-- ---- the words after a step, and which slots it leaves unclaimed

-- from the words m, of which v is each kind's frontier, by the access a
pub record Advances (setting : Setting) (m : Word → ℕ) (slots : List ℕ) (v : ℕ → ℕ) (e : Entry) (a : WordAccess) (slots' : List ℕ) (v' : ℕ → ℕ) : Type 0 where
  pub words : AreOrdered setting.sizes (nodes_in setting) setting.first (after_access m a) v'
  pub moves : AllMove setting.sizes m (after_access m a) v v'
  pub untaken : (j : ℕ) → IsUntaken setting slots' j → IsUntaken setting slots j × ClaimsOther setting.sizes.tops j (m (word_of a)) e.routine
  pub past : (j : ℕ) → HeldNone setting j → j < v' (kind_of setting.sizes j) → has_slot slots' j ≡ true
  pub ahead : (j : ℕ) → v' (kind_of setting.sizes j) ≤ j → has_slot slots' j ≡ false
  pub on : (claim : Claim) → e.routine ≡ Claims claim → (let turn = claim_accepts setting.sizes setting.last claim (m (word_of a)) in ClaimOn setting.sizes (after_access m a) v' turn.claim turn.ended)

-- it takes no slot, or one
abbrev pub AdvancesBy : Setting → (Word → ℕ) → List ℕ → (ℕ → ℕ) → Entry → WordAccess → Type 0
AdvancesBy setting m slots v e a =
    ((takes_in setting.sizes e.routine (m (word_of a)) ≡ false) × Advances setting m slots v e a slots v)
    ⊎ ((takes_in setting.sizes e.routine (m (word_of a)) ≡ true) × (t : ℕ) × (v' : ℕ → ℕ) × Advances setting m slots v e a (t ∷ slots) v')

module _ (setting : Setting) (some : SettingSane setting) (m : Word → ℕ) (slots : List ℕ) (v : ℕ → ℕ) (e : Entry) (ordered : AreOrdered setting.sizes (nodes_in setting) setting.first m v)
    (past : (j : ℕ) → HeldNone setting j → j < v (kind_of setting.sizes j) → has_slot slots j ≡ true) (ahead : (j : ℕ) → v (kind_of setting.sizes j) ≤ j → has_slot slots j ≡ false) where
  -- no claim
  still : (a : WordAccess) → Kept setting.sizes (nodes_in setting) setting.first m (after_access m a) v → ((j : ℕ) → ClaimsOther setting.sizes.tops j (m (word_of a)) e.routine)
      → ((claim : Claim) → e.routine ≡ Claims claim → (let turn = claim_accepts setting.sizes setting.last claim (m (word_of a)) in ClaimOn setting.sizes (after_access m a) v turn.claim turn.ended))
      → Advances setting m slots v e a slots v
  still a k other on = record { words = k.0; moves = all_stay setting.sizes m (after_access m a) v k.1; untaken = λ j u. (u, other j); past = past; ahead = ahead; on = on }

  elsewhere_advances : (target : Target) (a : WordAccess) → standing_of e.routine ≡ Elsewhere → wants target e ≡ Some a → AdvancesBy setting m slots v e a
  elsewhere_advances target a at want = inl (
    takes_none e.routine at,
    still a (ordered_same setting.sizes (nodes_in setting) setting.first m (after_access m a) v (leaves_same m a (elsewhere_wants target e a at want)) ordered)
        (λ j. other_none j e.routine at) (λ claim is. absurd (no_claim claim (sym (ap standing_of is) ∙ at))),
  ) where
    no_claim : (claim : Claim) → standing_of (Claims claim) ≡ Elsewhere → ⊥
    no_claim claim is = cc

    takes_none : (routine : Routine) → standing_of routine ≡ Elsewhere → takes_in setting.sizes routine (m (word_of a)) ≡ false
    takes_none (Claims claim) is = absurd (no_claim claim is)
    takes_none _ is = refl

    other_none : (j : ℕ) (routine : Routine) → standing_of routine ≡ Elsewhere → ClaimsOther setting.sizes.tops j (m (word_of a)) routine
    other_none j (Claims claim) is = absurd (no_claim claim is)
    other_none j _ is = tt

  retires_advances : (retirement : Retirement) (go : AfterRetire) → e.routine ≡ Retires retirement go → retirement.slot < v (kind_of setting.sizes retirement.slot) → AdvancesBy setting m slots v e (retire_wants retirement)
  retires_advances retirement go is lt = inl (
    ap (λ (r : Routine). takes_in setting.sizes r (m (word_of (retire_wants retirement)))) is,
    still (retire_wants retirement) (retire_open setting.sizes (nodes_in setting) setting.first m v retirement.slot retirement.stage lt ordered).0
        (λ j. subst (ClaimsOther setting.sizes.tops j (m (word_of (retire_wants retirement)))) (sym is) tt) (λ claim claims_is. absurd (let no : Retires retirement go ≡ Claims claim = sym is ∙ claims_is in cc)),
  )

  module _ (claim : Claim) (is : e.routine ≡ Claims claim) (known : claim.kind < length setting.sizes.kinds) (same_tops : claim.sweep.tops ≡ setting.sizes.tops)
      (fits : ClaimFits setting.sizes claim.kind m v claim.sweep.stage claim.stage) where
    abbrev told : ℕ
    told = m (word_of (claim_wants claim))

    abbrev m' : Word → ℕ
    m' = after_access m (claim_wants claim)

    abbrev turn : ClaimTurn
    turn = claim_accepts setting.sizes setting.last claim told

    same_claim : (a b : Claim) → Claims a ≡ Claims b → a ≡ b
    same_claim a b both = cc

    on_of : (v' : ℕ → ℕ) → ClaimOn setting.sizes m' v' turn.claim turn.ended → (other : Claim) → e.routine ≡ Claims other
        → (let turn' = claim_accepts setting.sizes setting.last other told in ClaimOn setting.sizes m' v' turn'.claim turn'.ended)
    on_of v' on other also =
        subst (λ (c : Claim). let turn' = claim_accepts setting.sizes setting.last c told in ClaimOn setting.sizes m' v' turn'.claim turn'.ended) (same_claim claim other (sym is ∙ also)) on

    takes_is : takes_in setting.sizes e.routine told ≡ takes_at setting.sizes.tops claim.stage told
    takes_is = ap (λ (r : Routine). takes_in setting.sizes r told) is

    -- if the exchange takes nothing
    none_taken : takes_at setting.sizes.tops claim.stage told ≡ false → frontier_at setting.sizes.tops claim.kind claim.stage m v ≡ v → ((j : ℕ) → TakesOther setting.sizes.tops j claim.stage told) → AdvancesBy setting m slots v e (claim_wants claim)
    none_taken takes front other =
        let k = claim_opens setting.sizes setting.last (nodes_in setting) setting.first m v 0 claim same_tops some.kinds some.few known ordered fits in
        inl (
          takes_is ∙ takes,
          record {
            words = subst (λ (x : ℕ → ℕ). AreOrdered setting.sizes (nodes_in setting) setting.first m' x) front k.words;
            moves = subst (λ (x : ℕ → ℕ). AllMove setting.sizes m m' v x) front k.moves;
            untaken = λ j u. (u, subst (ClaimsOther setting.sizes.tops j told) (sym is) (other j));
            past = past;
            ahead = ahead;
            on = on_of v (subst (λ (x : ℕ → ℕ). ClaimOn setting.sizes m' x turn.claim turn.ended) front k.on);
          },
        )

    -- if it takes t, a slot of the claim's kind, which stands before the kind's frontier or at it
    one_taken : (q t next : ℕ) → claim.stage ≡ claims.Take q t next → kind_of setting.sizes t ≡ claim.kind → t ≤ v claim.kind → (m (Head claim.kind) == head_word setting.sizes.tops q t) ≡ true → AdvancesBy setting m slots v e (claim_wants claim)
    one_taken q t next at its le finds =
        let k = claim_opens setting.sizes setting.last (nodes_in setting) setting.first m v 0 claim same_tops some.kinds some.few known ordered fits in
        inr (
          takes_is ∙ takes,
          t,
          on_by (t == v claim.kind),
          record {
            words = subst (λ (x : ℕ → ℕ). AreOrdered setting.sizes (nodes_in setting) setting.first m' x) front k.words;
            moves = subst (λ (x : ℕ → ℕ). AllMove setting.sizes m m' v x) front k.moves;
            untaken = λ j u. (let was = untaken_before setting slots t j u in (was.0, subst (ClaimsOther setting.sizes.tops j told) (sym is) (subst (λ (stage : ClaimStage). TakesOther setting.sizes.tops j stage told) (sym at) (λ took. was.1))));
            past = λ j low lt. has_past (t == v claim.kind) refl j low lt;
            ahead = λ j from. has_ahead (t == v claim.kind) refl j from;
            on = on_of (on_by (t == v claim.kind)) (subst (λ (x : ℕ → ℕ). ClaimOn setting.sizes m' x turn.claim turn.ended) front k.on);
          },
        )
      where
        on_by : Bool → ℕ → ℕ
        on_by b = if b then put v claim.kind (v claim.kind + 1) else v

        told_is_head : told ≡ m (Head claim.kind)
        told_is_head = ap (λ (stage : ClaimStage). m (word_of (claim_wants (record claim { stage = stage })))) at

        takes : takes_at setting.sizes.tops claim.stage told ≡ true
        takes = ap (λ (stage : ClaimStage). takes_at setting.sizes.tops stage told) at ∙ (ap (λ (n : ℕ). n == head_word setting.sizes.tops q t) told_is_head ∙ finds)

        front : frontier_at setting.sizes.tops claim.kind claim.stage m v ≡ on_by (t == v claim.kind)
        front = ap (λ (stage : ClaimStage). frontier_at setting.sizes.tops claim.kind stage m v) at ∙ ap (λ (b : Bool). if b then on_by (t == v claim.kind) else v) finds

        more : (j : ℕ) → has_slot slots j ≡ true → has_slot (t ∷ slots) j ≡ true
        more j has = of (t == j) (has_slot slots j) has where
          of : (b d : Bool) → d ≡ true → (b || d) ≡ true
          of true d has = refl
          of false d has = has

        here : (j : ℕ) → t ≡ j → has_slot (t ∷ slots) j ≡ true
        here j same = let one : (t == j) ≡ true = grind (arith, nat_tests) in rw one refl

        -- the slots before the frontier of a kind that moves on, or stays
        has_past : (b : Bool) → (t == v claim.kind) ≡ b → (j : ℕ) → HeldNone setting j → j < on_by b (kind_of setting.sizes j) → has_slot (t ∷ slots) j ≡ true
        has_past true same j low lt = of (kind_of setting.sizes j) refl lt (past j low) where
          of : (i : ℕ) → kind_of setting.sizes j ≡ i → j < put v claim.kind (v claim.kind + 1) i → (j < v i → has_slot slots j ≡ true) → has_slot (t ∷ slots) j ≡ true
          of i is = each_put (λ i (x : ℕ). j < x → (j < v i → has_slot slots j ≡ true) → has_slot (t ∷ slots) j ≡ true) v claim.kind (v claim.kind + 1)
              (λ below before. ⊎_elim
              (λ (lt : j < v claim.kind). more j (before lt))
              (λ (from : v claim.kind ≤ j). here j (let e : t ≡ v claim.kind = grind (arith, nat_tests) in omega (arith, e, from, below)))
              (cases_lt j (v claim.kind)))
              (λ i ne below before. more j (before below)) i
        has_past false same j low lt = more j (past j low lt)

        other : (j : ℕ) → t ≢ j → has_slot slots j ≡ false → has_slot (t ∷ slots) j ≡ false
        other j ne none = let one : (t == j) ≡ false = grind (arith, nat_tests) in rw (one, none) refl

        -- and t isn't one of those from there on
        before_it : (b : Bool) → (t == v claim.kind) ≡ b → t < on_by b claim.kind
        before_it true same = let e : t ≡ v claim.kind = grind (arith, nat_tests) in let up = put_same v claim.kind (v claim.kind + 1) in omega (arith, e, up)
        before_it false same = let ne : t ≢ v claim.kind = grind (arith, nat_tests) in omega (arith, ne, le)

        frontier_up : (b : Bool) (i : ℕ) → v i ≤ on_by b i
        frontier_up true i = each_put (λ i (x : ℕ). v i ≤ x) v claim.kind (v claim.kind + 1) (omega arith) (λ i ne. omega arith) i
        frontier_up false i = omega arith

        has_ahead : (b : Bool) → (t == v claim.kind) ≡ b → (j : ℕ) → on_by b (kind_of setting.sizes j) ≤ j → has_slot (t ∷ slots) j ≡ false
        has_ahead b same j from = other j
            (λ z.
            let kind : kind_of setting.sizes j ≡ claim.kind = ap (kind_of setting.sizes) (sym z) ∙ its in
            let at_or_past : on_by b claim.kind ≤ j = subst (λ (i : ℕ). on_by b i ≤ j) kind from in
            let below = before_it b same in
            omega (arith, z, at_or_past, below))
            (ahead j (let up = frontier_up b (kind_of setting.sizes j) in omega (arith, up, from)))

    claims_advance : AdvancesBy setting m slots v e (claim_wants claim)
    claims_advance = of claim.stage refl fits where
      of : (stage : ClaimStage) → claim.stage ≡ stage → ClaimFits setting.sizes claim.kind m v claim.sweep.stage stage → AdvancesBy setting m slots v e (claim_wants claim)
      of claims.ReadHead at w =
          none_taken (ap (λ (x : ClaimStage). takes_at setting.sizes.tops x told) at) (ap (λ (x : ClaimStage). frontier_at setting.sizes.tops claim.kind x m v) at) (λ j. subst (λ (x : ClaimStage). TakesOther setting.sizes.tops j x told) (sym at) tt)
      of (claims.ReadLink q t) at w =
          none_taken (ap (λ (x : ClaimStage). takes_at setting.sizes.tops x told) at) (ap (λ (x : ClaimStage). frontier_at setting.sizes.tops claim.kind x m v) at) (λ j. subst (λ (x : ClaimStage). TakesOther setting.sizes.tops j x told) (sym at) tt)
      of (claims.StoreUsed q t) at w =
          none_taken (ap (λ (x : ClaimStage). takes_at setting.sizes.tops x told) at) (ap (λ (x : ClaimStage). frontier_at setting.sizes.tops claim.kind x m v) at) (λ j. subst (λ (x : ClaimStage). TakesOther setting.sizes.tops j x told) (sym at) tt)
      of (claims.Withdraw own) at w =
          none_taken (ap (λ (x : ClaimStage). takes_at setting.sizes.tops x told) at) (ap (λ (x : ClaimStage). frontier_at setting.sizes.tops claim.kind x m v) at) (λ j. subst (λ (x : ClaimStage). TakesOther setting.sizes.tops j x told) (sym at) tt)
      of claims.Sweeps at w =
          none_taken (ap (λ (x : ClaimStage). takes_at setting.sizes.tops x told) at) (ap (λ (x : ClaimStage). frontier_at setting.sizes.tops claim.kind x m v) at) (λ j. subst (λ (x : ClaimStage). TakesOther setting.sizes.tops j x told) (sym at) tt)
      of (claims.Take q t next) at w = by (m (Head claim.kind) == head_word setting.sizes.tops q t) refl where
        at_head : told ≡ m (Head claim.kind)
        at_head = ap (λ (stage : ClaimStage). m (word_of (claim_wants (record claim { stage = stage })))) at

        its : kind_of setting.sizes t ≡ claim.kind
        its = in_range_is_of_kind setting.sizes claim.kind t known (w.0, near_inside (range_of setting.sizes claim.kind) (v claim.kind) t w.1.0)

        by : (b : Bool) → (m (Head claim.kind) == head_word setting.sizes.tops q t) ≡ b → AdvancesBy setting m slots v e (claim_wants claim)
        by true finds = one_taken q t next at its (near_below (range_of setting.sizes claim.kind) (v claim.kind) t w.1.0) finds
        by false fails = none_taken (ap (λ (x : ClaimStage). takes_at setting.sizes.tops x told) at ∙ lost) (ap (λ (x : ClaimStage). frontier_at setting.sizes.tops claim.kind x m v) at ∙ ap (λ (b : Bool). if b then (if t == v claim.kind then put v claim.kind (v claim.kind + 1) else v) else v) fails)
            (λ j. subst (λ (x : ClaimStage). TakesOther setting.sizes.tops j x told) (sym at) (λ took. absurd (let z : false ≡ true = sym lost ∙ took in cc))) where
              lost : (told == head_word setting.sizes.tops q t) ≡ false
              lost = ap (λ (n : ℕ). n == head_word setting.sizes.tops q t) at_head ∙ fails

-- ---- events

-- before the first access of a call
first_elsewhere : (by : Reclamation) → standing_of (first_routine by) ≡ Elsewhere
first_elsewhere Optimistic = refl
first_elsewhere Epochs = refl

pub take_untouched : (target : Target) (setting : Setting) (state : CoreState) (c : ℕ) (call : Call) (e : Entry) (j : ℕ) → 1 ≤ j → slice_get state.entries c ≡ Some e → IsUntouched target setting state j
    → IsUntouched target setting (record state { entries = set state.entries c (taken setting.reclamation call e) }) j
take_untouched target setting state c call e j low there was = record {
  status = was.status;
  words = was.words;
  entries = λ d f got. ⊎_elim
      (λ (t : (d ≡ c) × (f ≡ taken setting.reclamation call e)). subst (EntryAvoids j) (sym t.1) (let held = was.entries c e there in
      record { registers = first_avoid j low call.args; started = first_avoid j low []; guards = held.guards; cradles = held.cradles; routine = first_avoids setting.reclamation }))
      (λ (t : slice_get state.entries d ≡ Some f). was.entries d f t)
      (set_got state.entries c d (taken setting.reclamation call e) f got);
} where
  first_avoids : (by : Reclamation) → RoutineAvoids j (first_routine by)
  first_avoids Optimistic = tt
  first_avoids Epochs = tt

-- what a step leaves of claims
abbrev ClaimsFit : Sizes → (Word → ℕ) → (ℕ → ℕ) → Routine → Type 0
ClaimsFit n m v (Claims claim) = (claim.kind < length n.kinds) × ClaimFits n claim.kind m v claim.sweep.stage claim.stage
ClaimsFit n m v _ = Unit {0}

module _ (target : Target) (setting : Setting) (sane : Methods target) (some : SettingSane setting) (fits : FitsTarget target setting) where
  abbrev stepped_state : CoreState → ℕ → Entry → WordAccess → CoreState
  stepped_state state c e a = record { words = made setting state a; entries = set state.entries c (after target setting e (found_by setting state a)) }

  module _ (state : CoreState) (c : ℕ) (e : Entry) (a : WordAccess) (sound : IsSound target setting state) (there : slice_get state.entries c ≡ Some e)
      (busy : is_idle e.routine ≡ false) (want : wants target e ≡ Some a) where
    abbrev found : ℕ
    found = found_by setting state a

    own : Belongs target setting e
    own = (sound.belong c e there).0

    safe : IsSafe target setting a
    safe = subst (λ (o : Option WordAccess). AsksSafely target setting o) want (wants_safe target setting e sane some fits own busy)

    -- a slot that the step doesn't claim stays untouched
    pub untouched_stays : (j : ℕ) → 1 ≤ j → in_row setting.sizes (Status j) ≡ true → IsUntouched target setting state j → ClaimsOther setting.sizes.tops j found e.routine
        → IsUntouched target setting (stepped_state state c e a) j
    untouched_stays j low row u other = record { status = status; words = words; entries = entries } where
      held : EntryAvoids j e
      held = u.entries c e there

      left : LeavesOther target setting.sizes j (Some a)
      left = subst (LeavesOther target setting.sizes j) want (step_leaves target setting sane j low e own held)

      words : (w : Word) → in_row setting.sizes w ≡ true → WordAvoids target setting.sizes j w (word_at setting (stepped_state state c e a) w)
      words w in_it = ⊎_elim
          (λ (t : (w ≡ word_of a) × (word_at setting (stepped_state state c e a) w ≡ word_after a found)).
          subst (WordAvoids target setting.sizes j w) (sym t.1) (subst (λ (v : Word). WordAvoids target setting.sizes j v (word_after a found)) (sym t.0) (left found (u.words (word_of a) safe.row))))
          (λ (t : word_at setting (stepped_state state c e a) w ≡ word_at setting state w). subst (WordAvoids target setting.sizes j w) (sym t) (u.words w in_it))
          (stored setting state.words (word_of a) w (word_after a found) sound.count safe.row in_it)

      ready_left : word_of a ≡ Status j → word_after a found ≡ status_word setting.first kinds.Ready
      ready_left is =
          let same : found ≡ status_word setting.first kinds.Ready = ap (word_at setting state) is ∙ u.status in
          let stays : LeavesReady j setting.first (Some a) = subst (LeavesReady j setting.first) want (step_leaves_ready target setting j e held) in
          ap (word_after a) same ∙ stays is

      status : word_at setting (stepped_state state c e a) (Status j) ≡ status_word setting.first kinds.Ready
      status = ⊎_elim
          (λ (t : (Status j ≡ word_of a) × (word_at setting (stepped_state state c e a) (Status j) ≡ word_after a found)). t.1 ∙ ready_left (sym t.0))
          (λ (t : word_at setting (stepped_state state c e a) (Status j) ≡ word_at setting state (Status j)). t ∙ u.status)
          (stored setting state.words (word_of a) (Status j) (word_after a found) sound.count safe.row row)

      entries : (d : ℕ) (f : Entry) → slice_get (set state.entries c (after target setting e found)) d ≡ Some f → EntryAvoids j f
      entries d f got = ⊎_elim
          (λ (t : (d ≡ c) × (f ≡ after target setting e found)). subst (EntryAvoids j) (sym t.1)
          (after_avoids target setting j found e low held
          (step_found target setting sane j low e found own held (subst (λ (o : Option WordAccess). ToldAvoids target setting.sizes j o found) (sym want) (u.words (word_of a) safe.row)) other)))
          (λ (t : slice_get state.entries d ≡ Some f). u.entries d f t)
          (set_got state.entries c d (after target setting e found) f got)

    abbrev m : Word → ℕ
    m = seen setting.sizes state.words

    found_seen : m (word_of a) ≡ found
    found_seen = found_is setting state a safe.row

    later_seen : seen setting.sizes (made setting state a) ≡ after_access m a
    later_seen = seen_set setting.sizes state.words (word_of a) (word_after a found) sound.count safe.row ∙ ap (λ (k : ℕ). store m (word_of a) (word_after a k)) (sym found_seen)

    later_belongs : Belongs target setting (after target setting e found)
    later_belongs = after_belongs target setting e found sane some fits own (subst (λ (o : Option WordAccess). MayBeTold target setting o found) (sym want) (found_told target setting state a sound safe))

    module _ (slots : List ℕ) (v : ℕ → ℕ) (pool : Pool target setting state slots v) where
      mine : IsBefore e.routine
      mine = pool.before c e there

      status_row : (j : ℕ) → j ≤ setting.sizes.slots → in_row setting.sizes (Status j) ≡ true
      status_row j le = let lt : j < setting.sizes.slots + 1 = omega (arith, le) in grind (arith, nat_tests)

      advances : AdvancesBy setting m slots v e a
      advances = of e.routine refl (pool.fits c e there) where
        same_access : (x : WordAccess) → wants target e ≡ Some x → x ≡ a
        same_access x is = let both : Some x ≡ Some a = sym is ∙ want in cc

        of : (routine : Routine) → e.routine ≡ routine → Fits setting.sizes m v (standing_of routine) → AdvancesBy setting m slots v e a
        of (Claims claim) is w =
            subst (AdvancesBy setting m slots v e) (same_access (claim_wants claim) (wants_claims target e claim is)) (claims_advance setting some m slots v e pool.words pool.past pool.ahead claim is w.0 w.2 w.1)
        of (Retires retirement go) is w =
            subst (AdvancesBy setting m slots v e) (same_access (retire_wants retirement) (wants_retires target e retirement go is)) (retires_advances setting some m slots v e pool.words pool.past pool.ahead retirement go is w)
        of _ is w = elsewhere_advances setting some m slots v e pool.words pool.past pool.ahead target a (ap standing_of is) want

      -- a look that finds no slot of its kind on top
      pub sought_touched : (claim : Claim) → e.routine ≡ Claims claim → claim.stage ≡ claims.ReadHead → (head_parts setting.sizes.tops found).top ≡ 0
          → (claim.kind < length setting.sizes.kinds) × AllTouched setting claim.kind slots
      sought_touched claim is looks empty = (known, all_touched setting slots m v claim.kind known pool.words pool.past at_top) where
        known : claim.kind < length setting.sizes.kinds
        known = let stands : Stands target setting e (Claims claim) = subst (Stands target setting e) is own.stands in stands.1.kind

        head : word_of a ≡ Head claim.kind
        head =
            let both : Some (claim_wants claim) ≡ Some a = sym (wants_claims target e claim is) ∙ want in
            let same : claim_wants claim ≡ a = cc in
            ap word_of (sym same) ∙ ap (λ (stage : ClaimStage). word_of (claim_wants (record claim { stage = stage }))) looks

        at_top : top setting.sizes.tops m claim.kind ≡ 0
        at_top = ap (λ (n : ℕ). (head_parts setting.sizes.tops n).top) (ap m (sym head) ∙ found_seen) ∙ empty

      module _ (slots' : List ℕ) (v' : ℕ → ℕ) (adv : Advances setting m slots v e a slots' v') where
        untouched_then : (j : ℕ) → IsUntaken setting slots' j → IsUntouched target setting (stepped_state state c e a) j
        untouched_then j u =
            let was = adv.untaken j u in
            untouched_stays j (held_some setting j u.0) (status_row j u.1) (pool.untouched j was.0) (subst (λ (n : ℕ). ClaimsOther setting.sizes.tops j n e.routine) found_seen was.1)

        begins_fit : HoldsAtBegins target setting.sizes (ClaimsFit setting.sizes (after_access m a) v')
        begins_fit = record { idle = tt; seen = λ why. tt; here = tt; lists = λ k. tt; retires = λ j go. tt; restarts = tt; clears = λ next. tt; claims = λ e scheme. (news_fit target setting sane some fits e.running.call.op e.hand.wrapup e.hand.at, tt); zeroes = λ k field. tt; announces = λ announcing. tt }

        going_fit : HoldsAsGoesOn setting (m (word_of a)) (ClaimsFit setting.sizes (after_access m a) v') e.routine
        going_fit = record {
          claims = λ claim is none. of (claim_accepts setting.sizes setting.last claim (m (word_of a))).claim (claim_accepts setting.sizes setting.last claim (m (word_of a))).ended none (adv.on claim is);
          retires = λ retirement left go is goes. tt;
        } where
          of : (next : Claim) (o : Option ClaimEnd) → o ≡ None → ClaimOn setting.sizes (after_access m a) v' next o → ClaimsFit setting.sizes (after_access m a) v' (Claims next)
          of next None none on = on
          of next (Some end) none on = absurd cc

        claims_fit : ClaimsFit setting.sizes (after_access m a) v' (after target setting e found).routine
        claims_fit = subst (λ (n : ℕ). ClaimsFit setting.sizes (after_access m a) v' (after target setting e n).routine) found_seen
            (after_routed target setting (ClaimsFit setting.sizes (after_access m a) v') begins_fit e (m (word_of a)) going_fit)

        -- what is retired was claimed: no reference leads to a slot that wasn't
        own_fits : Fits setting.sizes (after_access m a) v' (standing_of (after target setting e found).routine)
        own_fits = of (after target setting e found).routine refl claims_fit where
          later : Entry
          later = after target setting e found

          got : slice_get (set state.entries c later) c ≡ Some later
          got = got_here state.entries c e later there where
            got_here : (l : List Entry) (i : ℕ) (x y : Entry) → slice_get l i ≡ Some x → slice_get (set l i y) i ≡ Some y
            got_here [] i x y is = absurd (let z : None ≡ Some x = is in cc)
            got_here (z ∷ zs) zero x y is = refl
            got_here (z ∷ zs) (suc i) x y is = got_here zs i x y is

          below : (retirement : Retirement) (go : AfterRetire) → later.routine ≡ Retires retirement go → retirement.slot < v' (kind_of setting.sizes retirement.slot)
          below retirement go is = ⊎_elim
              (λ (lt : retirement.slot < v' (kind_of setting.sizes retirement.slot)). lt)
              (λ (from : v' (kind_of setting.sizes retirement.slot) ≤ retirement.slot).
              let stands : Stands target setting later (Retires retirement go) = subst (Stands target setting later) is later_belongs.stands in
              let untaken : IsUntaken setting slots' retirement.slot = ((let words = adv.words (kind_of setting.sizes retirement.slot) (kind_small setting.sizes retirement.slot some.kinds) in let low = words.least in omega (arith, low, from)), stands.0.1, adv.ahead retirement.slot from) in
              let held = (untouched_then retirement.slot untaken).entries c later got in
              let other : RoutineAvoids retirement.slot (Retires retirement go) = subst (RoutineAvoids retirement.slot) is held.routine in
              absurd (other refl))
              (cases_lt retirement.slot (v' (kind_of setting.sizes retirement.slot)))

          of : (routine : Routine) → later.routine ≡ routine → ClaimsFit setting.sizes (after_access m a) v' routine → Fits setting.sizes (after_access m a) v' (standing_of routine)
          of (Claims claim) is w = let stands : Stands target setting later (Claims claim) = subst (Stands target setting later) is later_belongs.stands in (w.0, w.1, stands.1.tops)
          of (Retires retirement go) is w = below retirement go is
          of _ is w = tt

        pool_then : IsCounted (length slots') (set state.entries c (after target setting e found)) → Pool target setting (stepped_state state c e a) slots' v'
        pool_then count = record {
          untouched = untouched_then;
          past = adv.past;
          ahead = adv.ahead;
          words = subst (λ (w : Word → ℕ). AreOrdered setting.sizes (nodes_in setting) setting.first w v') (sym later_seen) adv.words;
          fits = λ d f got. subst (λ (w : Word → ℕ). Fits setting.sizes w v' (standing_of f.routine)) (sym later_seen) (⊎_elim
              (λ (t : (d ≡ c) × (f ≡ after target setting e found)). subst (λ (x : Entry). Fits setting.sizes (after_access m a) v' (standing_of x.routine)) (sym t.1) own_fits)
              (λ (t : slice_get state.entries d ≡ Some f). fits_later setting.sizes (nodes_in setting) setting.first m (after_access m a) v v' some.kinds pool.words adv.moves (standing_of f.routine) (pool.fits d f t))
              (set_got state.entries c d (after target setting e found) f got));
          before = λ d f got. ⊎_elim
              (λ (t : (d ≡ c) × (f ≡ after target setting e found)). subst (λ (x : Entry). IsBefore x.routine) (sym t.1) (before_after target setting e found busy mine))
              (λ (t : slice_get state.entries d ≡ Some f). pool.before d f t)
              (set_got state.entries c d (after target setting e found) f got);
          count = count;
        }

      counts : (b : Bool) → takes_in setting.sizes e.routine (m (word_of a)) ≡ b → (after target setting e found).counts.claims ≡ count_after b e.counts.claims
      counts b is = counts_after target setting e found busy mine ∙ ap (λ (x : Bool). count_after x e.counts.claims) (ap (takes_in setting.sizes e.routine) (sym found_seen) ∙ is)

      pub step_pool : IsPooled target setting (stepped_state state c e a)
      step_pool = of advances where
        of : AdvancesBy setting m slots v e a → IsPooled target setting (stepped_state state c e a)
        of (inl kept) = record {
          slots = slots;
          frontier = v;
          pool = pool_then slots v kept.1 (counts_same (length slots) state.entries c e (after target setting e found) there (counts false kept.0) pool.count);
        }
        of (inr took) = record {
          slots = took.1 ∷ slots;
          frontier = took.2;
          pool = pool_then (took.1 ∷ slots) took.2 took.3 (counts_more (length slots) state.entries c e (after target setting e found) there (counts true took.0) pool.count);
        }

  -- a call is taken
  take_pool : (state : CoreState) (c : ℕ) (call : Call) (e : Entry) (slots : List ℕ) (v : ℕ → ℕ) → slice_get state.entries c ≡ Some e → Pool target setting state slots v
      → Pool target setting (record state { entries = set state.entries c (taken setting.reclamation call e) }) slots v
  take_pool state c call e slots v there pool = record {
    untouched = λ j u. take_untouched target setting state c call e j (held_some setting j u.0) there (pool.untouched j u);
    past = pool.past;
    ahead = pool.ahead;
    words = pool.words;
    fits = λ d f got. ⊎_elim
        (λ (t : (d ≡ c) × (f ≡ taken setting.reclamation call e)). subst (λ (x : Entry). Fits setting.sizes (seen setting.sizes state.words) v (standing_of x.routine)) (sym t.1) (subst (Fits setting.sizes (seen setting.sizes state.words) v) (sym (first_elsewhere setting.reclamation)) tt))
        (λ (t : slice_get state.entries d ≡ Some f). pool.fits d f t)
        (set_got state.entries c d (taken setting.reclamation call e) f got);
    before = λ d f got. ⊎_elim
        (λ (t : (d ≡ c) × (f ≡ taken setting.reclamation call e)). subst (λ (x : Entry). IsBefore x.routine) (sym t.1) (first_before setting.reclamation))
        (λ (t : slice_get state.entries d ≡ Some f). pool.before d f t)
        (set_got state.entries c d (taken setting.reclamation call e) f got);
    count = counts_same (length slots) state.entries c e (taken setting.reclamation call e) there refl pool.count;
  }

  pub event_pool : (state later : CoreState) (event : CoreEvent) → IsSound target setting state → IsPooled target setting state → core_event target setting state event ≡ Some later → IsPooled target setting later
  event_pool state later (Takes c call) sound pooled is = of (slice_get state.entries c) refl is where
    by : (e : Entry) → slice_get state.entries c ≡ Some e → (b : Bool)
        → (if b then Some (record state { entries = slice_set state.entries c (taken setting.reclamation call e) }) else None) ≡ Some later → IsPooled target setting later
    by e at true became = subst (IsPooled target setting) (some_is _ later became) (record { slots = pooled.slots; frontier = pooled.frontier; pool = take_pool state c call e pooled.slots pooled.frontier at pooled.pool })
    by e at false became = absurd (let z : None ≡ Some later = became in cc)

    of : (o : Option Entry) → slice_get state.entries c ≡ o → event_by target setting state (Takes c call) o ≡ Some later → IsPooled target setting later
    of None at became = absurd (let z : None ≡ Some later = became in cc)
    of (Some e) at became = by e at (is_idle e.routine && is_call target call) became
  event_pool state later (Steps c) sound pooled is = of (slice_get state.entries c) refl is where
    by : (e : Entry) → slice_get state.entries c ≡ Some e → (o : Option WordAccess) → wants target e ≡ o → (i : Bool) → is_idle e.routine ≡ i
        → stepped target setting state c e o ≡ Some later → IsPooled target setting later
    by e at None want i idle became = absurd (let z : None ≡ Some later = became in cc)
    by e at (Some a) want true idle became = absurd (idle_wants target e a idle want)
    by e at (Some a) want false idle became = subst (IsPooled target setting) (some_is _ later became) (step_pool state c e a sound at idle want pooled.slots pooled.frontier pooled.pool)

    of : (o : Option Entry) → slice_get state.entries c ≡ o → event_by target setting state (Steps c) o ≡ Some later → IsPooled target setting later
    of None at became = absurd (let z : None ≡ Some later = became in cc)
    of (Some e) at became = by e at (wants target e) refl (is_idle e.routine) refl became
