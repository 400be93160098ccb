-- Steps one after another.
use Rattle.std.proofs.Common.{◌≡◌, ℕ, ◌+◌, ◌-◌, ◌<◌, List, [], ◌∷◌, ◌++◌, refl, sym, ap, ◌∙◌, subst, inl, arith, length-append}
use Rattle.atomic_table.specs.Table.{Me}
use Rattle.std.proofs.Common.{false}
use Rattle.caller_steps.specs.Entries.{Entry, RoomyEntry, is_idle}
use Rattle.core_runs.proofs.Advancing.{advances_more}
use Rattle.word_runner.specs.table_rule.Seen.{Fixed, SeatView}
use Rattle.word_runner.specs.table_rule.Plays.{with_accesses, with_entry, next, IsTold, AreTold, Steps, CanGo}
use Rattle.word_runner.specs.table_rule.Drives.{Went, Driving}

pub can_again : (key : Fixed) (me : Me ℕ SeatView) (e : RoomyEntry) (budget left : ℕ) (me' : Me ℕ SeatView) (e' : RoomyEntry) → CanGo key me e.core → Driving key me e budget left me' e' → is_idle e'.core.routine ≡ false → CanGo key me' e'.core
can_again key me e budget left me' e' can d busy =
    let view = d.drove.view in record {
      bare = ap (λ (m : Me ℕ SeatView). m.1) view;
      live = ap (λ (m : Me ℕ SeatView). m.0.live) view ∙ can.live;
      fixed = ap (λ (m : Me ℕ SeatView). m.0.fixed) view ∙ can.fixed;
      base = e'.core;
      alone = ap (λ (m : Me ℕ SeatView). m.0.entries) view;
      hand = inl refl;
      belongs = d.drove.belongs;
      busy = busy;
    }

went_advances : (key : Fixed) (me : Me ℕ SeatView) (e : RoomyEntry) (mid : Entry) (ws : List ℕ) (me' : Me ℕ SeatView) (e' : RoomyEntry) (w : ℕ) → Steps key mid ws e.core → is_idle e.core.routine ≡ false
    → e'.core ≡ next key e.core w → Steps key mid (ws ++ w ∷ []) e'.core
went_advances key me e mid ws me' e' w h busy is = subst (λ (x : Entry). Steps key mid (ws ++ w ∷ []) x) (sym is) (advances_more key.target.target key.setting mid e.core ws w h busy)

pub drive_first : (key : Fixed) (me : Me ℕ SeatView) (e : RoomyEntry) (budget : ℕ) (me' : Me ℕ SeatView) (e' : RoomyEntry) → 0 < budget → CanGo key me e.core → Went key me e me' e' → Driving key me e budget (budget - 1) me' e'
drive_first key me e budget me' e' some can went = record {
  steps = 1;
  some = omega arith;
  count = omega arith;
  drove = record {
    words = went.word ∷ [];
    count = refl;
    told = (went.lawful, tt);
    advances = (can.busy, ap (λ (r : RoomyEntry). r.core) went.entry);
    room = ap (λ (r : RoomyEntry). r.room) went.entry;
    view = went.view;
    belongs = went.belongs;
  };
}

told_more : (key : Fixed) (e mid : Entry) (words : List ℕ) (word : ℕ) → AreTold key e words → Steps key e words mid → IsTold key mid word → AreTold key e (words ++ word ∷ [])
told_more key e mid [] word told steps lawful = (subst (λ (x : Entry). IsTold key x word) steps lawful, tt)
told_more key e mid (w ∷ ws) word told steps lawful = (told.0, told_more key (next key e w) mid ws word told.1 steps.1 lawful)

pub drive_more : (key : Fixed) (me : Me ℕ SeatView) (e : RoomyEntry) (budget left : ℕ) (mid : Me ℕ SeatView) (m : RoomyEntry) (me' : Me ℕ SeatView) (e' : RoomyEntry) → 0 < left → Driving key me e budget left mid m → is_idle m.core.routine ≡ false → Went key mid m me' e' → Driving key me e budget (left - 1) me' e'
drive_more key me e budget left mid m me' e' some d busy went = record {
  steps = d.steps + 1;
  some = omega arith;
  count = let q = d.count in omega arith;
  drove = record {
    words = d.drove.words ++ went.word ∷ [];
    count = let q = d.drove.count in omega (arith, length-append d.drove.words (went.word ∷ []));
    told = told_more key e.core m.core d.drove.words went.word d.drove.told d.drove.advances went.lawful;
    advances = went_advances key mid m e.core d.drove.words me' e' went.word d.drove.advances busy (ap (λ (r : RoomyEntry). r.core) went.entry);
    room = ap (λ (r : RoomyEntry). r.room) went.entry ∙ d.drove.room;
    view = went.view
        ∙ (ap (λ (x : Me ℕ SeatView). let y : Me ℕ SeatView = (with_accesses (with_entry x.0 e'.core) 1, []) in y) d.drove.view
        ∙ ap (λ (n : ℕ). let y : Me ℕ SeatView = (record (with_entry me.0 e'.core) { accesses = n }, []) in y) (let sum : (me.0.accesses + d.steps) + 1 ≡ me.0.accesses + (d.steps + 1) = omega arith in sum));
    belongs = went.belongs;
  };
}
