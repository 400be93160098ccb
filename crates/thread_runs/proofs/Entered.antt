-- A caller that has just entered, and the end of all.
use Rattle.std.proofs.Common.{◌≡◌, ◌≤◌, ◌<◌, ◌^◌, ℕ, List, [], length, subst, sym, ap, ◌∙◌, arith}
use Rattle.std.specs.Prelude.{Result, Ok, Err, IfOk}
use Rattle.std.proofs.lemmas.List.Elements.{All-weaker}
use Rattle.std.proofs.lemmas.List.Sorted.{All-permutation}
use Rattle.caller_parts.specs.declared.call.Call.{Call}
use Rattle.caller_steps.specs.Entries.{RoomyEntry, idle_entry}
use Rattle.core_runs.specs.Scripts.{SuitScripts}
use Rattle.word_runner.specs.table_rule.Seen.{Fixed}
use Rattle.word_runner.specs.table_rule.Closing.{IsClosed}
use Rattle.word_runner.proofs.table_rule.Moves.{sound}
use Rattle.word_runner.specs.Shown.{ArenaShown, BlankShown, CallerShown}
use Rattle.thread_runs.specs.Scripts.{IsLongest, Fresh, Ended}
use Rattle.thread_runs.specs.Whole.{IsBlank, AreShort, AllEnded, AllLongest, ReadyShown, IsReadyFor, IsFinalOf}
use Rattle.thread_runs.proofs.OfScripts.{is_complete}

pub fresh_entered : (a : ArenaShown) (room : ℕ) (scripts : List (List Call)) (b : BlankShown) (c : CallerShown) → SuitScripts a.fixed.target.target a.fixed.setting scripts → IsLongest scripts room → AreShort scripts → IsBlank a room b
    → (c.table ≡ b.table) × (c.fixed ≡ b.fixed) × (c.entry ≡ record { core = idle_entry c.entry.core.number; room = b.room }) × (b.found ≤ c.entry.core.number) × (c.entry.core.number < b.fixed.setting.sizes.callers)
    → Fresh a scripts c
fresh_entered a room scripts b c suit longest short mine e =
    let own : c.entry.room ≡ room = ap (λ (r : RoomyEntry). r.room) e.2 ∙ mine.1 in
    let limit : b.fixed.setting.sizes.callers ≡ a.fixed.setting.sizes.callers = ap (λ (f : Fixed). f.setting.sizes.callers) mine.0.1 in
    record {
      came = (e.0 ∙ mine.0.0, e.1 ∙ mine.0.1);
      idle = ap (λ (r : RoomyEntry). r.core) e.2;
      within = let n = suit.count in let lt = e.4 in omega arith;
      room = let k = longest.rooms c.entry.core.number [] (let n = suit.count in let lt = e.4 in omega arith) in omega (arith, own, k);
      short = short c.entry.core.number [] (let n = suit.count in let lt = e.4 in omega arith);
      calls = suit.calls c.entry.core.number [] (let n = suit.count in let lt = e.4 in omega arith);
      longest = subst (IsLongest scripts) (sym own) longest;
    }

-- what was closed is the end of a complete run
pub completes : (g f : Fixed) (scripts : List (List Call)) (fuel phase : ℕ) (rested entries : List RoomyEntry) → g ≡ f → 0 < fuel → fuel < 2 ^ 64 → IsClosed g rested phase entries → AllEnded g scripts fuel rested
    → IsFinalOf f scripts fuel phase entries
completes g f scripts fuel phase rested entries is some lt c ended =
    let good = sound g c.core c.good c.reachable in
    let all : AllEnded g scripts fuel entries = All-permutation (Ended g scripts fuel) rested entries c.kept ended in
    let rooms : AllLongest scripts entries = All-weaker (Ended g scripts fuel) (λ (r : RoomyEntry). IsLongest scripts r.room) (λ r h. h.longest) entries all in
    subst (λ (h : Fixed). IsFinalOf h scripts fuel phase entries) is (record {
      events = c.reachable.events;
      core = c.core;
      complete = is_complete g scripts fuel entries c.core c.reachable c.entries_are good some lt all;
      sound = good;
      phase_is = c.phase_is;
      entries_are = c.entries_are;
      rooms = rooms;
    })

-- callers of an arena that was made for the scripts are ready for them
pub ready_so : {E : Type 0} (o : Result ReadyShown E) (own fixed : Fixed) (scripts : List (List Call)) (count room : ℕ) → own ≡ fixed → IfOk o (λ r. r ≡ record { fixed = own; count = count; room = room })
    → SuitScripts fixed.target.target fixed.setting scripts → count ≡ length scripts → IsLongest scripts room → AreShort scripts → IfOk o (λ r. IsReadyFor scripts r)
ready_so (Err e) own fixed scripts count room same is suit each longest short = tt
ready_so (Ok r) own fixed scripts count room same is suit each longest short =
    subst (IsReadyFor scripts) (sym is) (record { suit = subst (λ (f : Fixed). SuitScripts f.target.target f.setting scripts) (sym same) suit; each = each; longest = longest; short = short })
