-- What is written down of one call after each kind of event, worked out by hand. Each row is computed from the definitions.
--
-- They tell the log apart from these wrong ones:
--
--   a last generator run that begins at the call's Begin      restart, back, back_late, again, again_late
--   one that begins with each access, or with a wrap-up       on, to_list, next_in_list, to_wrap_up, wrap_up_restart
--   a call that ends later than its last event                ended, gave_up
--   a call that begins earlier than its Begin                 begins
use Rattle.std.specs.Prelude.{◌≡◌, ℕ, true, false, List, [], ◌∷◌, Option, Some, None, refl}
use Rattle.norm_lang.specs.declared.registers.Registers.{Registers}
use Rattle.norm_lang.specs.Registers.{first_registers}
use Rattle.source_machine.specs.declared.event.SourceEvent.TheVariants.{Begin, Access, Restart, GiveUp}
use Rattle.norm_lang.specs.declared.reply.SourceReply.{SourceReply}
use Rattle.norm_lang.specs.declared.reply.SourceReply.TheVariants as replies
use Rattle.source_machine.specs.declared.state.Stand.{Stand}
use Rattle.source_machine.specs.declared.state.Stand.TheVariants.{InGenerator, InList, InWrapUp}
use Rattle.source_machine.specs.declared.state.Running.{Running}
use Rattle.source_machine.specs.declared.state.SourceCaller.{SourceCaller}
use Rattle.source_histories.specs.Books.{Started, Ended, Log, logged}

-- operation 2 with the argument 5, where it stands
abbrev arguments : List ℕ
arguments = 5 ∷ 0 ∷ 0 ∷ 0 ∷ []

abbrev registers : Registers
registers = first_registers arguments

abbrev stands : Stand → Option Running
stands stand = Some (record { op = 2; args = arguments; registers = registers; stand = stand })

-- the caller after an event: it replied 1 to an earlier call, and the operation runs on; or it replied last, and is idle
abbrev runs : Stand → SourceCaller
runs stand = record { replies = replies.Number 1 ∷ []; running = stands stand }

abbrev idle : SourceReply → SourceCaller
idle reply = record { replies = replies.Number 1 ∷ reply ∷ []; running = None }

-- its calls: the earlier one, from event 0 to event 2; and that of the operation, begun at event 3, with the event by which its
-- last generator run began
abbrev call : ℕ → Started
call since = record { op = 2; arg = 5; begun = 3; since = since }

abbrev earlier : Ended
earlier = record { call = record { op = 0; arg = 4; begun = 0; since = 0 }; reply = replies.Number 1; at = 2 }

abbrev before : Log
before = record { done = earlier ∷ []; now = None }

abbrev running : ℕ → Log
running since = record { done = earlier ∷ []; now = Some (call since) }

abbrev over : SourceReply → ℕ → Log
over reply at = record { done = earlier ∷ record { call = call 6; reply = reply; at = at } ∷ []; now = None }

-- a Begin, an access of the generator, one that comes to the list, an exchange that succeeds, and one after which the wrap-up
-- runs
begins : logged (Begin 0 2 arguments) 3 None (runs (InGenerator 1)) before ≡ running 3
begins = refl

on : logged (Access 0 0) 7 (stands (InGenerator 1)) (runs (InGenerator 2)) (running 6) ≡ running 6
on = refl

to_list : logged (Access 0 0) 7 (stands (InGenerator 2)) (runs (InList 4 [] 0)) (running 6) ≡ running 6
to_list = refl

next_in_list : logged (Access 0 0) 7 (stands (InList 4 [] 0)) (runs (InList 4 [] 1)) (running 6) ≡ running 6
next_in_list = refl

to_wrap_up : logged (Access 0 0) 7 (stands (InList 4 [] 1)) (runs (InWrapUp 2 registers false)) (running 6) ≡ running 6
to_wrap_up = refl

-- a restart of the generator, of it before the list's first exchange, and of a wrap-up
restart : logged (Restart 0) 7 (stands (InGenerator 2)) (runs (InGenerator 1)) (running 6) ≡ running 7
restart = refl

back : logged (Restart 0) 7 (stands (InList 4 [] 0)) (runs (InGenerator 1)) (running 6) ≡ running 7
back = refl

wrap_up_restart : logged (Restart 0) 7 (stands (InWrapUp 3 registers true)) (runs (InWrapUp 2 registers false)) (running 6) ≡ running 6
wrap_up_restart = refl

-- a restart by which a generator without an access comes to its list
back_late : logged (Restart 0) 7 (stands (InList 0 [] 0)) (runs (InList 0 [] 0)) (running 6) ≡ running 7
back_late = refl

-- `again` by the exchange that failed, and by a later access of the wrap-up
again : logged (Access 0 0) 7 (stands (InList 4 [] 0)) (runs (InGenerator 1)) (running 6) ≡ running 7
again = refl

again_late : logged (Access 0 0) 7 (stands (InWrapUp 3 registers true)) (runs (InGenerator 1)) (running 6) ≡ running 7
again_late = refl

-- an end with a number, and a caller that gives up
ended : logged (Access 0 0) 8 (stands (InList 4 [] 0)) (idle (replies.Number 0)) (running 6) ≡ over (replies.Number 0) 8
ended = refl

gave_up : logged (GiveUp 0 None) 8 (stands (InGenerator 3)) (idle replies.Full) (running 6) ≡ over replies.Full 8
gave_up = refl
