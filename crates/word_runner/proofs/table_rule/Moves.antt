-- A step of a caller keeps the rule.
use Rattle.std.proofs.Common.{◌≡◌, ◌≢◌, ℕ, zero, suc, ◌+◌, ◌<◌, true, false, List, [], ◌∷◌, set, Some, refl, sym, ap, ◌∙◌, subst, ⊎_elim, arith}
use Rattle.std.specs.Prelude.{Option, slice_get, slice_index, slice_set}
use Rattle.std.proofs.Math.ListN.{length-set}
use Rattle.std.proofs.lemmas.List.{get_or-set_other}
use mathlib.Core.Option.{some}
use lib.ListN.{get_elem?}
use Rattle.atomic_table.specs.Table.{State, Me, keeps, Allows}
use Rattle.atomic_table.proofs.Lists.{at_set}
use Rattle.oa_words.specs.Words.{Word, address_of}
use Rattle.phase_pools.specs.Accesses.{WordAccess, Stores, word_of, word_after}
use Rattle.caller_parts.specs.Calls.{is_call}
use Rattle.caller_parts.specs.declared.call.Call.{Call}
use Rattle.caller_steps.specs.Entries.{Entry, is_idle}
use Rattle.caller_steps.specs.After.{taken}
use Rattle.caller_steps.specs.Lawful.{IsLawful, Accepts, MayBeTold, IsSafe, AsksSafely}
use Rattle.core_runs.specs.Machine.{CoreState, Takes, Steps as StepsOf, found_by, made}
use Rattle.core_runs.specs.core_sound.Sound.{IsSound}
use Rattle.core_runs.proofs.core_sound.Reached.{states_are_sound}
use Rattle.core_runs.proofs.caller_laws.Together.{safe as asks_safe}
use Rattle.core_runs.proofs.Turning.{after_number}
use Rattle.core_runs.proofs.Reaching.{reaches}
use Rattle.word_runner.proofs.table_rule.Rows.{taking, stepping}
use Rattle.core_runs.proofs.caller_laws.Stored.{after_store}
use Rattle.word_runner.proofs.table_rule.Rows.{no_place, told_lawful}
use Rattle.word_runner.specs.table_rule.Seen.{Fixed, IsGround, SeatView}
use Rattle.word_runner.specs.table_rule.Rule.{IsReached, callers_of, IsPlace, times, held, AllHere, IsSeen, Shows, Holds}
use Rattle.word_runner.specs.table_rule.Plays.{wish, next, IsTold, Belonging, with_accesses, with_entry, Made, InHand, CanGo}
use Rattle.word_runner.proofs.table_rule.Parting.{whole_set}
use Rattle.word_runner.proofs.table_rule.Sums.{total_set, total_at, total_two, times_self, times_number, here_set, same_set, slice_get_set_same, slice_get_set_other, set_set, set_again}

-- where a word stands in the table
abbrev pub place_of : Fixed → WordAccess → ℕ
place_of key a = address_of key.setting.sizes (word_of a)

pub sound : (key : Fixed) (core : CoreState) → IsGround key → IsReached key core → IsSound key.target.target key.setting core
sound key core good reachable = states_are_sound key.target.target key.target.source key.setting core good.runs good.own good.fits reachable

-- the machine with the entry in hand
abbrev with_hand : CoreState → ℕ → Entry → CoreState
with_hand core c e = record { words = core.words; entries = set core.entries c e }

hand_reachable : (key : Fixed) (core : CoreState) (base e : Entry) (c : ℕ) → IsReached key core → slice_get core.entries c ≡ Some base → InHand key base e → IsReached key (with_hand core c e)
hand_reachable key core base e c r is hand =
    ⊎_elim
    (λ (h : e ≡ base). let k : set core.entries c e ≡ core.entries = ap (λ (x : Entry). set core.entries c x) h ∙ set_again core.entries c base is in
    subst (λ (es : List Entry). IsReached key (record { words = core.words; entries = es })) (sym k) r)
    (λ (h : (is_idle base.routine ≡ true) × ((call : Call) × (is_call key.target.target call ≡ true) × (e ≡ taken key.setting.reclamation call base))).
    subst (λ (x : Entry). IsReached key (with_hand core c x)) (sym h.1.2)
    (reaches key.target.target key.setting core (with_hand core c (taken key.setting.reclamation h.1.0 base)) (Takes c h.1.0) r (taking key.target.target key.setting core c h.1.0 base is h.0 h.1.1)))
    hand

hand_number : (key : Fixed) (base e : Entry) → InHand key base e → e.number ≡ base.number
hand_number key base e hand = ⊎_elim (λ (h : e ≡ base). ap (λ (x : Entry). x.number) h) (λ (h : (is_idle base.routine ≡ true) × ((call : Call) × (is_call key.target.target call ≡ true) × (e ≡ taken key.setting.reclamation call base))). ap (λ (x : Entry). x.number) h.1.2) hand

-- the machine after the step of the entry in hand
abbrev next_core : Fixed → CoreState → ℕ → Entry → WordAccess → CoreState
next_core key core c e a = record { words = made key.setting core a; entries = set core.entries c (next key e (found_by key.setting core a)) }

next_reachable : (key : Fixed) (core : CoreState) (base e : Entry) (c : ℕ) (a : WordAccess) → IsReached key core → slice_get core.entries c ≡ Some base → InHand key base e → wish key e ≡ Some a
    → IsReached key (next_core key core c e a)
next_reachable key core base e c a r is hand want =
    let mid = with_hand core c e in
    let new = next key e (found_by key.setting core a) in
    let there : slice_get mid.entries c ≡ Some e = slice_get_set_same core.entries c e base is in
    let q = reaches key.target.target key.setting mid (record { words = made key.setting core a; entries = set mid.entries c new }) (StepsOf c) (hand_reachable key core base e c r is hand) (stepping key.target.target key.setting mid c e a there want) in
    subst (λ (es : List Entry). IsReached key (record { words = made key.setting core a; entries = es })) (set_set core.entries c e new) q

-- what is wanted is safe: in the row, and at no place
pub safe : (key : Fixed) (e : Entry) (a : WordAccess) → IsGround key → Belonging key e → is_idle e.routine ≡ false → wish key e ≡ Some a → IsSafe key.target.target key.setting a
safe key e a good b busy want = subst (λ (o : Option WordAccess). AsksSafely key.target.target key.setting o) want
    ((asks_safe key.target.target key.target.source key.setting good.runs good.own good.fits).busy e b.belongs busy)

not_place : (key : Fixed) (a : WordAccess) → IsSafe key.target.target key.setting a → ¬ IsPlace (callers_of key) (place_of key a)
not_place key a s p = of (place_of key a) refl p where
  of : (i : ℕ) → i ≡ place_of key a → IsPlace (callers_of key) i → ⊥
  of zero is p = absurd (omega (arith, p.0))
  of (suc k) is p = no_place key.setting.sizes (word_of a) k s.row s.place (omega (arith, p.1)) (let one : 1 + k ≡ suc k = omega arith in one ∙ is)

-- what the rule says after a step of the entry c, with the seat's new view
step_shows : (key : Fixed) (words : List ℕ) (views : List SeatView) (core : CoreState) (id c : ℕ) (v : SeatView) (base e : Entry) (a : WordAccess)
    → Shows key words views core → IsSound key.target.target key.setting core → IsSafe key.target.target key.setting a → get_elem? views id ≡ some v → (v.live ≡ true → v.fixed ≡ key) → v.entries ≡ base ∷ [] → base.number ≡ c → slice_get core.entries c ≡ Some base → InHand key base e
    → (n : ℕ) → n ≡ slice_index words (place_of key a) → n ≡ found_by key.setting core a
    → (new : Entry) → new ≡ next key e (found_by key.setting core a)
    → Shows key (slice_set words (place_of key a) (word_after a n)) (set views id (with_accesses (with_entry v new) 1)) (next_core key core c e a)
step_shows key words views core id c v base e a h sound' asks at fixed alone num is hand n found found' new new_is =
    let there : ℕ = place_of key a in
    let made_of : Entry = next key e (found_by key.setting core a) in
    let all : List Entry = set core.entries c made_of in
    let all_is : set core.entries c new ≡ all = ap (λ (x : Entry). set core.entries c x) new_is in
    let w = with_accesses (with_entry v new) 1 in
    let number : new.number ≡ c = ap (λ (x : Entry). x.number) new_is ∙ (after_number key.target.target key.setting e (found_by key.setting core a) ∙ (hand_number key base e hand ∙ num)) in
    let one : times c v.entries ≡ 1 = ap (times c) alone ∙ times_self base c num in
    let in_range : c < callers_of key = subst (λ (k : ℕ). k < callers_of key) num (sound'.belong c base is).0.number in
    let same_times : (i : ℕ) → times i w.entries ≡ times i v.entries = λ i. times_number new base i (number ∙ sym num) ∙ sym (ap (times i) alone) in
    let same_held : (i : ℕ) → held i (set views id w) ≡ held i views = λ i. let t = total_set (λ (u : SeatView). times i u.entries) views id v w at in let q = same_times i in omega arith in
    let same_place : (k : ℕ) → k < callers_of key → slice_index (slice_set words there (word_after a n)) (1 + k) ≡ slice_index words (1 + k) = λ k lt. get_or-set_other words there (1 + k) (word_after a n) 0 (no_place key.setting.sizes (word_of a) k asks.row asks.place lt) in
    let mine = h.seen id v at in
    let others : (j : ℕ) (u : SeatView) → j ≢ id → get_elem? views j ≡ some u → times c u.entries ≡ 0 = λ j u ne stands. let t = total_two (λ (x : SeatView). times c x.entries) views j id u v ne stands at in let o = h.once c in_range in omega arith in
    record {
      count = length-set words there (word_after a n) ∙ h.count;
      seen = λ by u stands.
          ⊎_elim
          (λ (t : (by ≡ id) × (w ≡ u)). subst (IsSeen key (slice_set words there (word_after a n)) all) t.1 (record {
            fixed = fixed;
            within = mine.within;
            places = λ k lt. same_place k (omega (arith, mine.within)) ∙ mine.places k lt;
            here = (subst (λ (xs : List Entry). slice_get xs new.number ≡ Some new) all_is (subst (λ (k : ℕ). slice_get (set core.entries c new) k ≡ Some new) (sym number) (slice_get_set_same core.entries c new base is)), tt);
          }))
          (λ (t : (by ≢ id) × (get_elem? views by ≡ some u)). let its = h.seen by u t.1 in record {
            fixed = its.fixed;
            within = its.within;
            places = λ k lt. same_place k (omega (arith, its.within)) ∙ its.places k lt;
            here = here_set core.entries u.entries c made_of (others by u t.0 t.1) its.here;
          })
          (at_set views id by w u stands);
      same = λ i no'. subst (λ (k : ℕ). slice_index (slice_set words there (word_after a n)) i ≡ slice_index (slice_set core.words there (word_after a k)) i) found' (same_set words core.words there (word_after a n) i (h.count ∙ sym sound'.count) (h.same i no'));
      placed = λ i lt. same_place i lt ∙ (h.placed i lt ∙ sym (same_held i));
      once = λ i lt. let q = same_held i in let o = h.once i lt in omega arith;
      absent = λ i lt none. let q = same_held i in
          let ne : i ≢ c = λ z. let k : held i views ≡ 0 = omega arith in let k' : held c views ≡ 0 = subst (λ (y : ℕ). held y views ≡ 0) z k in let g = total_at (λ (x : SeatView). times c x.entries) views id v at in omega arith in
          slice_get_set_other core.entries c i made_of ne ∙ h.absent i lt (omega arith);
    }

-- what a step needs, of a word by its name
pub record CanMake (key : Fixed) (me : Me ℕ SeatView) (e : Entry) (a : WordAccess) : Type 0 where
  pub can : CanGo key me e
  pub wanted : wish key e ≡ Some a

told : (key : Fixed) (me : Me ℕ SeatView) (e : Entry) (a : WordAccess) (n : ℕ) → CanMake key me e a → Accepts key.target.target key.setting a n → IsTold me.0.fixed e n
told key me e a n can h = subst (λ (f : Fixed). IsTold f e n) (sym can.can.fixed) (subst (λ (o : Option WordAccess). MayBeTold key.target.target key.setting o n) (sym can.wanted) h)

-- the rule is kept if the seat's view gets what the entry in hand becomes
goes : (key : Fixed) (slots id : ℕ) (me : Me ℕ SeatView) (e : Entry) (a : WordAccess) (s : State ℕ SeatView) → CanMake key me e a → (h : Holds key s) → get_elem? s.views id ≡ some me.0
    → (new : Entry) → new ≡ next key e (found_by key.setting h.core a)
    → Holds key (record { words = slice_set s.words (place_of key a) (word_after a (slice_index s.words (place_of key a))); homes = s.homes; views = slice_set s.views id (with_accesses (with_entry me.0 new) 1) })
goes key slots id me e a s can h at new new_is =
    let go = can.can in
    let good = sound key h.core h.good h.reachable in
    let asks = safe key e a h.good go.belongs go.busy can.wanted in
    let here = subst (AllHere h.core.entries) go.alone ((h.shows.seen id me.0 at).here) in
    record {
      good = h.good;
      core = next_core key h.core go.base.number e a;
      reachable = next_reachable key h.core go.base e go.base.number a h.reachable here.0 go.hand can.wanted;
      shows = step_shows key s.words s.views h.core id go.base.number me.0 go.base e a h.shows good asks at (λ _. go.fixed) go.alone refl here.0 go.hand (slice_index s.words (place_of key a)) refl (h.shows.same (place_of key a) (not_place key a asks)) new new_is;
      whole = whole_set s.views id me.0 (with_accesses (with_entry me.0 new) 1) h.whole at refl go.live go.live;
    }

pub step_allowed : (key : Fixed) (slots id : ℕ) (me : Me ℕ SeatView) (e : Entry) (a : WordAccess) → CanMake key me e a → Allows (Holds key) slots id me (place_of key a) (word_after a) (Made e me)
step_allowed key slots id me e a can s h len at bound =
    let go = can.can in
    let n : ℕ = slice_index s.words (place_of key a) in
    let good = sound key h.core h.good h.reachable in
    let asks = safe key e a h.good go.belongs go.busy can.wanted in
    let word : n ≡ found_by key.setting h.core a = h.shows.same (place_of key a) (not_place key a asks) in
    let new = next me.0.fixed e n in
    let new_is : new ≡ next key e (found_by key.setting h.core a) = (λ i. next (go.fixed i) e (word i)) in
    let w = with_accesses (with_entry me.0 new) 1 in (
      w,
      keeps,
      tt,
      goes key slots id me e a s can h at new new_is,
      record {
        lawful = told key me e a n can (told_lawful key.target.target key.setting a n (subst (IsLawful key.target.target key.setting (word_of a)) (sym word) (good.lawful (word_of a) asks.row)));
        view = λ i. (w, go.bare i);
      },
    )

-- a store, whose word found is not told
pub store_allowed : (key : Fixed) (slots id : ℕ) (me : Me ℕ SeatView) (e : Entry) (u : Word) (x : ℕ) → CanMake key me e (Stores u x) → Allows (Holds key) slots id me (address_of key.setting.sizes u) (λ _. x) (λ _. Made e me 0)
store_allowed key slots id me e u x can s h len at bound =
    let go = can.can in
    let a = Stores u x in
    let new = next me.0.fixed e 0 in
    let new_is : new ≡ next key e (found_by key.setting h.core a) = (λ j. next (go.fixed j) e 0) ∙ (after_store key.target.target key.setting e u x 0 (found_by key.setting h.core a) can.wanted).0 in
    let w = with_accesses (with_entry me.0 new) 1 in (
      w,
      keeps,
      tt,
      goes key slots id me e a s can h at new new_is,
      record {
        lawful = told key me e a 0 can tt;
        view = λ j. (w, go.bare j);
      },
    )
