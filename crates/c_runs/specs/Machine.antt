-- Callers that run C on shared words, one line or access after another, in any order: the memory is sequentially consistent.
use Rattle.std.specs.Prelude.{ℕ, Bool, true, false, ◌&&◌, ◌==◌, nat_lt, List, [], ◌∷◌, ◌++◌, Option, Some, None, if◌then◌else◌}
use Rattle.norm_lang.specs.declared.reply.SourceReply.{SourceReply}
use Rattle.target_code.specs.declared.target.Target.{Target}
use Rattle.oa_words.specs.Words.{Word}
use Rattle.oa_words.specs.Memories.{store}
use Rattle.phase_pools.specs.Accesses.{WordAccess, word_of, word_after}
use Rattle.caller_parts.specs.declared.call.Call.{Call}
use Rattle.caller_parts.specs.Settings.{Setting}
use Rattle.caller_parts.specs.Calls.{is_call}
use Rattle.core_runs.specs.Views.{put}

-- what a caller does next: a local step; an access, after which it goes on with the word found; nothing, since no function runs; or what C
-- leaves undefined
pub data Move (C : Type 0) : Type 0 where
  Goes : (x : C) → Move C
  Wants : (a : WordAccess) (next : ℕ → C) → Move C
  Rests : Move C
  Strays : Move C

-- the functions that callers run: the caller of a number at the start, what a call makes of one that rests, what a caller does next, and what its
-- calls have returned so far
pub record Functions (C : Type 0) : Type 0 where
  pub start : ℕ → C
  pub call : Call → C → C
  pub move : C → Move C
  pub replies : C → List SourceReply

-- the words, and the callers by their numbers
pub record CState (C : Type 0) : Type 0 where
  pub memory : Word → ℕ
  pub who : ℕ → C

-- the program calls a function for a caller, or a caller makes its next step
pub data CEvent : Type 0 where
  Calls : (c : ℕ) (call : Call) → CEvent
  Runs : (c : ℕ) → CEvent

abbrev pub rests : {C : Type 0} → Move C → Bool
rests (Goes x) = false
rests (Wants a next) = false
rests Rests = true
rests Strays = false

abbrev pub with_caller : {C : Type 0} → CState C → ℕ → C → CState C
with_caller s c x = record s { who = put s.who c x }

-- the access finds the word that stands there, and leaves what it makes of it
abbrev pub accessed : {C : Type 0} → CState C → ℕ → WordAccess → (ℕ → C) → CState C
accessed s c a next = record {
  memory = store s.memory (word_of a) (word_after a (s.memory (word_of a)));
  who = put s.who c (next (s.memory (word_of a)));
}

abbrev pub moved : {C : Type 0} → CState C → ℕ → Move C → Option (CState C)
moved s c (Goes x) = Some (with_caller s c x)
moved s c (Wants a next) = Some (accessed s c a next)
moved s c Rests = None
moved s c Strays = None

-- an event, if it can be: a caller that rests may take each call of the target, and one that doesn't may make its step
abbrev pub c_event : {C : Type 0} → Target → Setting → Functions C → CState C → CEvent → Option (CState C)
c_event target setting code s (Calls c call) =
    if nat_lt c setting.sizes.callers && (rests (code.move (s.who c)) && is_call target call) then Some (with_caller s c (code.call call (s.who c))) else None
c_event target setting code s (Runs c) = if nat_lt c setting.sizes.callers then moved s c (code.move (s.who c)) else None

abbrev pub on_state : {C : Type 0} → Option (CState C) → (CState C → Option (CState C)) → Option (CState C)
on_state None next = None
on_state (Some s) next = next s

-- events one after another, if each can be
abbrev pub c_run : {C : Type 0} → Target → Setting → Functions C → List CEvent → CState C → Option (CState C)
c_run target setting code [] s = Some s
c_run target setting code (event ∷ events) s = on_state (c_event target setting code s event) (c_run target setting code events)

-- the calls that a caller took in events, in order
abbrev pub call_in : ℕ → CEvent → List Call
call_in c (Calls d call) = if d == c then call ∷ [] else []
call_in c (Runs d) = []

abbrev pub calls_made : ℕ → List CEvent → List Call
calls_made c [] = []
calls_made c (event ∷ events) = call_in c event ++ calls_made c events
