-- How a run is told: step by step, the access made, the word found there, and the signs given.
use Rattle.std.specs.Prelude.{ℕ, ◌+◌, Bool, List, [], ◌∷◌, ◌++◌, map, replicate, Option, Some, None, option_map, slice_get}
use Rattle.norm_lang.specs.declared.reply.SourceReply.{SourceReply}
use Rattle.guard_words.specs.Guards.{Guards}
use Rattle.oa_words.specs.Words.{Word, Phase, Warning, Hazard, Status, FieldOf, Head, Link}
use Rattle.phase_pools.specs.Accesses.{WordAccess, Loads, Stores, Exchanges, Raises}
use Rattle.target_code.specs.declared.target.Target.{Target}
use Rattle.caller_parts.specs.declared.call.Call.{Call}
use Rattle.caller_parts.specs.Pairing.{reply_of}
use Rattle.caller_parts.specs.Settings.{Setting}
use Rattle.caller_steps.specs.Entries.{Entry}
use Rattle.caller_steps.specs.Wants.{wants}
use Rattle.caller_steps.specs.After.{signs}
use Rattle.caller_steps.specs.Signs.{Sign, Begins, Accesses, Draws, Renews}
use Rattle.core_runs.specs.Machine.{CoreState, CoreEvent, Takes, Steps, core_event, core_run, core_start, found_by}

-- an access that was made, with the word that it found; what a store finds doesn't matter
pub data Noted : Type 0 where
  Load : (w : Word) (found : ℕ) → Noted
  Store : (w : Word) (x : ℕ) → Noted
  Exchange : (w : Word) (expected replacement found : ℕ) → Noted
  Raise : (w : Word) (x found : ℕ) → Noted

abbrev pub noted : WordAccess → ℕ → Noted
noted (Loads w) found = Load w found
noted (Stores w x) found = Store w x
noted (Exchanges w expected replacement) found = Exchange w expected replacement found
noted (Raises w x) found = Raise w x found

-- a step
pub record Line : Type 0 where
  pub access : Noted
  pub signs : List Sign

abbrev pub line_by : Target → Setting → CoreState → Entry → Option WordAccess → List Line
line_by target setting state e None = []
line_by target setting state e (Some a) =
    let found = found_by setting state a in record { access = noted a found; signs = signs target setting e found } ∷ []

abbrev pub line_of : Target → Setting → CoreState → Option Entry → List Line
line_of target setting state None = []
line_of target setting state (Some e) = line_by target setting state e (wants target e)

abbrev pub event_lines : Target → Setting → CoreState → CoreEvent → List Line
event_lines target setting state (Takes c call) = []
event_lines target setting state (Steps c) = line_of target setting state (slice_get state.entries c)

-- the lines of a list of events; one that isn't enabled ends them
abbrev pub lines_from : Target → Setting → List CoreEvent → Option CoreState → List Line
lines_from target setting events None = []
lines_from target setting [] (Some state) = []
lines_from target setting (event ∷ events) (Some state) =
    event_lines target setting state event ++ lines_from target setting events (core_event target setting state event)

-- the lines of events that come after others from the start
abbrev pub lines_after : Target → Setting → List CoreEvent → List CoreEvent → List Line
lines_after target setting before events = lines_from target setting events (core_run target setting before (core_start target setting))

-- a caller makes so many steps, and takes a call before them
abbrev pub steps : ℕ → ℕ → List CoreEvent
steps c n = replicate n (Steps c)

abbrev pub calls : ℕ → Call → ℕ → List CoreEvent
calls c call n = Takes c call ∷ steps c n

-- ---- lines

-- parts of a story, one after the other
abbrev pub story : List (List Line) → List Line
story [] = []
story (part ∷ parts) = part ++ story parts

abbrev pub gives : Noted → List Sign → Line
gives access signs = record { access = access; signs = signs }

abbrev pub silent : Noted → Line
silent access = gives access []

-- the load of the own warning: at a call's begin, in a check that passes, and where `seen` is taken once more: in a check
-- that fails, at a wrap-up's start and after `again`
abbrev pub begins : ℕ → ℕ → Call → Line
begins c word call = gives (Load (Warning c) word) (Begins call ∷ [])

abbrev pub passes : ℕ → ℕ → Line
passes c word = silent (Load (Warning c) word)

abbrev pub renews : ℕ → ℕ → Line
renews c word = gives (Load (Warning c) word) (Renews ∷ [])

-- a check that passes, after which local code comes to the end of an empty list, or to the end of a wrap-up run that has made
-- an access
abbrev pub ends : ℕ → ℕ → Line
ends c word = gives (Load (Warning c) word) (Accesses ∷ [])

-- loads, puts and exchanges of the text
abbrev pub reads : Word → ℕ → Line
reads w found = gives (Load w found) (Accesses ∷ [])

abbrev pub puts : Word → ℕ → Line
puts w x = gives (Store w x) (Accesses ∷ [])

abbrev pub exchanges : Word → ℕ → ℕ → ℕ → Line
exchanges w expected replacement found = gives (Exchange w expected replacement found) (Accesses ∷ [])

-- a guard, and a guard cleared
abbrev pub guards : ℕ → ℕ → ℕ → Line
guards c r slot = silent (Store (Hazard c r) slot)

abbrev pub clears : ℕ → ℕ → Line
clears c r = silent (Store (Hazard c r) 0)

-- the store of 0 to the one field, or to the last field, of a `new`
abbrev pub draws : ℕ → ℕ → Line
draws slot field = gives (Store (FieldOf slot field) 0) (Draws slot ∷ [])

abbrev pub zeroes : ℕ → ℕ → Line
zeroes slot field = silent (Store (FieldOf slot field) 0)

-- a look's load of the head: 8192 times its phase, and the slot on top
abbrev pub looks : ℕ → Line
looks head = silent (Load (Head 0) head)

-- a look that takes the slot on top: the head, the slot's link, the exchange that finds what it expects, and the status
abbrev pub takes : ℕ → ℕ → ℕ → ℕ → ℕ → List Line
takes slot head link next used = looks head ∷ silent (Load (Link slot) link) ∷ silent (Exchange (Head 0) head next head) ∷ silent (Store (Status slot) used) ∷ []

-- a retirement in a phase
abbrev pub retires : ℕ → ℕ → ℕ → List Line
retires slot phase word = silent (Load Phase phase) ∷ silent (Store (Status slot) word) ∷ []

-- a sweep's beginning, from one phase to the next
abbrev pub raises : ℕ → ℕ → List Line
raises p q = silent (Load Phase p) ∷ silent (Exchange Phase p q p) ∷ []

abbrev pub warns : ℕ → ℕ → ℕ → Line
warns c s found = silent (Raise (Warning c) s found)

-- a sweep's loads of a caller's hazards, from register r on
abbrev pub hazards_from : ℕ → ℕ → List ℕ → List Line
hazards_from c r [] = []
hazards_from c r (slot ∷ slots) = silent (Load (Hazard c r) slot) ∷ hazards_from c (r + 1) slots

abbrev pub hazards : ℕ → List ℕ → List Line
hazards c slots = hazards_from c 0 slots

abbrev pub no_hazards : ℕ → List Line
no_hazards c = hazards c (0 ∷ 0 ∷ 0 ∷ 0 ∷ 0 ∷ 0 ∷ 0 ∷ 0 ∷ [])

-- a sweep's load of a status
abbrev pub finds : ℕ → ℕ → Line
finds slot word = silent (Load (Status slot) word)

-- its push of a slot onto the one on top: the head, the slot's link, and the exchange that finds what it expects
abbrev pub pushes : ℕ → ℕ → ℕ → ℕ → List Line
pushes slot head top next = silent (Load (Head 0) head) ∷ silent (Store (Link slot) top) ∷ silent (Exchange (Head 0) head next head) ∷ []

-- a sweep's exchange of a status to ready
abbrev pub frees : ℕ → ℕ → ℕ → Line
frees slot retired ready = silent (Exchange (Status slot) retired ready retired)

-- ---- what is left at the end

-- of one caller
pub record Left : Type 0 where
  pub replies : List SourceReply
  pub cradles : List ℕ
  pub restarts : ℕ
  pub claims : ℕ

abbrev pub left_of : Option Entry → Option Left
left_of None = None
left_of (Some e) = Some (record { replies = map reply_of e.replies; cradles = e.cradles; restarts = e.counts.restarts; claims = e.counts.claims })

abbrev pub left_in : Option CoreState → ℕ → Option Left
left_in None c = None
left_in (Some state) c = left_of (slice_get state.entries c)

-- of a caller after events from the start
abbrev pub left_after : Target → Setting → List CoreEvent → ℕ → Option Left
left_after target setting events c = left_in (core_run target setting events (core_start target setting)) c

-- a caller's entry after events from the start, and parts of it
abbrev pub entry_in : Option CoreState → ℕ → Option Entry
entry_in None c = None
entry_in (Some state) c = slice_get state.entries c

abbrev pub entry_after : Target → Setting → List CoreEvent → ℕ → Option Entry
entry_after target setting events c = entry_in (core_run target setting events (core_start target setting)) c

-- where it stands
pub record Standing : Type 0 where
  pub wrapup : Bool
  pub at : ℕ

abbrev pub standing_of : Entry → Standing
standing_of e = record { wrapup = e.hand.wrapup; at = e.hand.at }

abbrev pub stands_after : Target → Setting → List CoreEvent → ℕ → Option Standing
stands_after target setting events c = option_map standing_of (entry_after target setting events c)

-- its guards, and whether its present wrap-up run has made an access
abbrev pub guards_of : Entry → Guards
guards_of e = e.hand.guards

abbrev pub guards_after : Target → Setting → List CoreEvent → ℕ → Option Guards
guards_after target setting events c = option_map guards_of (entry_after target setting events c)

abbrev pub accessed_by : Entry → Bool
accessed_by e = e.hand.accessed

abbrev pub accessed_after : Target → Setting → List CoreEvent → ℕ → Option Bool
accessed_after target setting events c = option_map accessed_by (entry_after target setting events c)
