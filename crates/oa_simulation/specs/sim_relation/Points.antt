-- The source's part of a step, seen from its caller: the signs are played one after another, and a restart that isn't enabled
-- is left out.
use Rattle.std.specs.Prelude.{ℕ, ◌≡◌, ◌+◌, true, false, List, [], ◌∷◌, Some}
use Rattle.norm_lang.specs.declared.text.Text.{Text}
use Rattle.norm_lang.specs.declared.registers.Reference.{Reference}
use Rattle.source_machine.specs.declared.event.SourceEvent.{SourceEvent}
use Rattle.source_machine.specs.declared.event.SourceEvent.TheVariants as events
use Rattle.source_machine.specs.declared.state.Value.TheVariants.{Node}
use Rattle.source_machine.specs.declared.state.Memory.{Memory}
use Rattle.source_machine.specs.declared.state.SourceCaller.{SourceCaller}
use Rattle.source_machine.specs.Memory.{value_at}
use Rattle.source_machine.specs.Step.{caller_turn}
use Rattle.source_machine.specs.Run.{is_enabled_for}
use Rattle.source_machine.specs.MethodRuns.{MethodRun, run_after}
use Rattle.source_machine.specs.Proper.{has, IsOnce, Reaches, runs_method}
use Rattle.caller_steps.specs.Signs.{Sign, Begins, Accesses, Draws, Renews, GivesUp}
use Rattle.run_ahead.specs.TypedCallers.{IsTypedCaller}
use Rattle.oa_simulation.specs.sim_relation.Views.{Shared, Caller}

-- the event of a sign of a caller; `unused` is the least name that wasn't drawn, and a `new` draws it
abbrev pub event_of : ℕ → ℕ → Sign → SourceEvent
event_of c unused (Begins call) = events.Begin c call.op call.args
event_of c unused Accesses = events.Access c 0
event_of c unused (Draws j) = events.Access c unused
event_of c unused Renews = events.Restart c
event_of c unused (GivesUp phase) = events.GiveUp c phase

abbrev pub unused_after : Sign → ℕ → ℕ
unused_after (Draws j) unused = unused + 1
unused_after _ unused = unused

-- the source as a caller sees it, and the least name that wasn't drawn
pub record Point : Type 0 where
  pub unused : ℕ
  pub memory : Memory
  pub caller : SourceCaller
  pub run : MethodRun

abbrev pub point : Shared → Caller → Point
point s x = record { unused = s.unused; memory = s.source; caller = x.source; run = x.watch }

abbrev pub is_open : Text → ℕ → Sign → Point → Type 0
is_open text c sign p = is_enabled_for text (event_of c p.unused sign) (Some p.caller) p.memory ≡ true

abbrev pub played : Text → ℕ → Sign → Point → Point
played text c sign p =
    let event = event_of c p.unused sign in
    record {
      unused = unused_after sign p.unused;
      memory = (caller_turn text event p.memory p.caller).memory;
      caller = (caller_turn text event p.memory p.caller).caller;
      run = run_after text event p.memory p.caller p.run;
    }

-- a caller's signs lead from one point to another: the event of each is enabled and happens, but that of a restart may be left out
-- if it isn't enabled
pub data Plays (text : Text) (c : ℕ) : List Sign → Point → Point → Type 0 where
  done : (p : Point) → Plays text c [] p p
  makes : (sign : Sign) (signs : List Sign) (p q : Point) → is_open text c sign p → Plays text c signs (played text c sign p) q → Plays text c (sign ∷ signs) p q
  leaves_out : (signs : List Sign) (p q : Point) → is_enabled_for text (events.Restart c) (Some p.caller) p.memory ≡ false → Plays text c signs p q → Plays text c (Renews ∷ signs) p q

-- what a proper text owes at a point, and what every text does: the caller's registers name nodes of kinds that they may have there
pub record IsProperPoint (text : Text) (p : Point) : Type 0 where
  pub once : IsOnce p.memory.retired
  pub roots : (x other : ℕ) (reference : Reference) → value_at p.memory.roots x ≡ Node reference → Reaches p.memory reference.node other → has other p.memory.retired ≡ false
  pub got : runs_method (Some p.caller) ≡ true → (name other : ℕ) → has name p.run.got ≡ true → Reaches p.memory name other → has other p.run.old ≡ false
  pub kinds : IsTypedCaller text p.memory.nodes p.caller

-- and at each point to which signs of the caller lead
abbrev pub StaysProper : Text → ℕ → Point → Type 0
StaysProper text c p = (signs : List Sign) (q : Point) → Plays text c signs p q → IsProperPoint text q

-- the names that are drawn have the slots of the plan
abbrev pub DrawsHome : (ℕ → ℕ) → List Sign → ℕ → Type 0
DrawsHome home [] unused = Unit {0}
DrawsHome home (Draws j ∷ signs) unused = (home unused ≡ j) × DrawsHome home signs (unused + 1)
DrawsHome home (sign ∷ signs) unused = DrawsHome home signs unused
