-- What is written down of a run: the events of its signs, made on the source machine one after another.
use Rattle.std.specs.Prelude.{◌≡◌, ℕ, ◌+◌, ◌<◌, Bool, true, false, ◌&&◌, List, [], ◌∷◌, length, take, Some, None, nat_le}
use Rattle.norm_lang.specs.declared.text.Text.{Text}
use Rattle.norm_lang.specs.Limits.{is_number}
use Rattle.source_machine.specs.declared.event.SourceEvent.{SourceEvent}
use Rattle.source_machine.specs.declared.event.SourceEvent.TheVariants as events
use Rattle.source_machine.specs.declared.state.SourceMachine.{SourceMachine}
use Rattle.source_machine.specs.State.{source_start}
use Rattle.source_machine.specs.Run.{is_enabled, source_step}
use Rattle.caller_parts.specs.declared.call.Call.{Call}
use Rattle.oa_simulation.specs.Shadow.{machine_if, events_if}
use Rattle.core_entries.specs.declared.signs.Sign.{Sign}
use Rattle.core_entries.specs.declared.signs.Sign.TheVariants.{Begin, Access, Fresh, Restart, End, Full, Phases}

-- the source's machine, the least name that isn't used, and the events so far
pub record Recording : Type 0 where
  pub machine : SourceMachine
  pub unused : ℕ
  pub events : List SourceEvent

-- the event that a sign gives, of a caller that runs this call: a `new` makes the least name that isn't used
abbrev pub named_event : ℕ → Call → ℕ → Sign → SourceEvent
named_event c call unused Begin = events.Begin c call.op call.args
named_event c call unused Access = events.Access c 0
named_event c call unused Fresh = events.Access c unused
named_event c call unused Restart = events.Restart c
named_event c call unused End = events.Access c 0
named_event c call unused Full = events.GiveUp c None
named_event c call unused (Phases p) = events.GiveUp c (Some p)

-- its numbers are numbers of their types, but for those of a call that it begins
abbrev pub is_sized : SourceEvent → Bool
is_sized (events.Begin c op args) = nat_le c 4294967295
is_sized (events.Access c name) = nat_le c 4294967295 && is_number name
is_sized (events.Restart c) = nat_le c 4294967295
is_sized (events.GiveUp c None) = nat_le c 4294967295
is_sized (events.GiveUp c (Some phase)) = nat_le c 4294967295 && is_number phase

abbrev pub unused_after : Sign → ℕ → ℕ
unused_after Fresh unused = unused + 1
unused_after _ unused = unused

abbrev pub is_restart : Sign → Bool
is_restart Restart = true
is_restart _ = false

-- a restart that isn't enabled is left out, and nothing else is
abbrev pub is_kept : Sign → Bool → Bool
is_kept Restart enabled = enabled
is_kept _ enabled = true

-- whether an event is enabled, and then it is made
abbrev pub Makes : Text → SourceMachine → SourceEvent → SourceMachine → Bool → Type 0
Makes text old event new true = (is_enabled text old event ≡ true) × (new ≡ source_step text old event)
Makes text old event new false = (is_enabled text old event ≡ false) × (new ≡ old)

-- an event that isn't enabled leaves the machine as it was
abbrev pub logged : Text → ℕ → Call → Recording → Sign → Recording
logged text c call z sign =
    let event = named_event c call z.unused sign in
    let enabled = is_enabled text z.machine event in
    record {
      machine = machine_if enabled text z.machine event;
      unused = unused_after sign z.unused;
      events = events_if (is_kept sign enabled) z.events event;
    }

abbrev pub logged_all : Text → ℕ → Call → List Sign → Recording → Recording
logged_all text c call [] z = z
logged_all text c call (sign ∷ signs) z = logged_all text c call signs (logged text c call z sign)

-- only the first signs were written, and not all of them
pub record IsCutShort (text : Text) (c : ℕ) (call : Call) (signs : List Sign) (old new : Recording) : Type 0 where
  pub written : ℕ
  pub fewer : written < length signs
  pub same : new ≡ logged_all text c call (take written signs) old

-- before the first event: the initial nodes are named from 1 on
abbrev pub recording_start : Text → ℕ → ℕ → Recording
recording_start text callers nodes = record { machine = source_start text callers; unused = nodes + 1; events = [] }
