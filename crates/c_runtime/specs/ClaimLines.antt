-- The lines of a claim of a slot of a kind: a look, and after each of at most two sweeps another. They return the slot, 0 if there is
-- none, or 2^64 - 1 if a sweep finds the last phase. A raise of a warning is a load and, if the word is low, an exchange, until it is
-- high; what was gathered are the caller's bits, which a sweep clears again as it goes.
use Rattle.std.specs.Prelude.{ℕ, List, [], ◌∷◌, ◌++◌}
use Rattle.c_language.specs.declared.lines.Parameter.TheVariants.{Slots, Callers, LastPhase, Tops}
use Rattle.c_language.specs.declared.lines.Operand.TheVariants.{Number, Local, Of}
use Rattle.c_language.specs.declared.lines.Value.TheVariants as values
use Rattle.c_language.specs.declared.lines.Place.TheVariants as places
use Rattle.c_language.specs.declared.lines.Test.TheVariants as tests
use Rattle.c_language.specs.declared.lines.Line.{Line}
use Rattle.c_language.specs.declared.lines.Line.TheVariants as lines
use Rattle.c_runtime.specs.KindLines.{kind_lines}

-- locals: 0 sweeps, 1 top (the head that was loaded), 2 slot, 3 other (the head to be, or the slot below), 4 found, 5 word (the status
-- to be), 6 bound, 7 caller, 8 register, 9 status, 10 old, 11 phase, 12 kind

-- the look, from 0 on
abbrev pub look_lines : ℕ → List Line
look_lines kind =
    lines.Let 0 (values.Is (Number 0))
    -- a look begins here, 1
    ∷ lines.Load 1 (places.Head (Number kind))
    ∷ lines.Let 2 (values.Rest (Local 1) (Of Tops))
    ∷ lines.If (tests.Equal (Local 2) (Number 0)) 14
    ∷ lines.Load 3 (places.Link (Local 2))
    ∷ lines.Let 4 (values.Minus (Local 1) (Local 2))
    ∷ lines.Let 3 (values.Plus (Local 4) (Local 3))
    ∷ lines.Exchange 4 (places.Head (Number kind)) (Local 1) (Local 3)
    ∷ []

-- what follows its exchange, from 8 on
abbrev pub take_lines : List Line
take_lines =
    lines.If (tests.Differ (Local 4) (Local 1)) 1
    ∷ lines.Let 4 (values.Over (Local 1) (Of Tops))
    ∷ lines.Let 4 (values.Times (Local 4) (Number 4))
    ∷ lines.Let 5 (values.Plus (Local 4) (Number 1))
    ∷ lines.Store (places.Status (Local 2)) (Local 5)
    ∷ lines.Return (Local 2)
    -- no slot is on top, 14
    ∷ lines.If (tests.Less (Local 0) (Number 2)) 16
    ∷ lines.Return (Number 0)
    ∷ []

-- the phase of a sweep, from 16 on
abbrev pub phase_lines : List Line
phase_lines =
    lines.Load 11 places.Phase
    ∷ lines.If (tests.Differ (Local 11) (Of LastPhase)) 19
    ∷ lines.Return (Number 18446744073709551615)
    ∷ lines.Let 6 (values.Plus (Local 11) (Number 1))
    ∷ lines.Exchange 4 places.Phase (Local 11) (Local 6)
    ∷ lines.Let 7 (values.Is (Number 0))
    ∷ []

-- its warnings, from 22 on
abbrev pub warning_lines : List Line
warning_lines =
    lines.Load 4 (places.Warning (Local 7))
    ∷ lines.If (tests.Less (Local 4) (Local 6)) 25
    ∷ lines.Goto 27
    ∷ lines.Exchange 5 (places.Warning (Local 7)) (Local 4) (Local 6)
    ∷ lines.If (tests.Differ (Local 5) (Local 4)) 22
    ∷ lines.Let 7 (values.Plus (Local 7) (Number 1))
    ∷ lines.If (tests.Less (Local 7) (Of Callers)) 22
    ∷ lines.Let 7 (values.Is (Number 0))
    ∷ []

-- its hazards, from 30 on
abbrev pub hazard_lines : List Line
hazard_lines =
    lines.Let 8 (values.Is (Number 0))
    ∷ lines.Load 4 (places.Hazard (Local 7) (Local 8))
    ∷ lines.Note (Local 4)
    ∷ lines.Let 8 (values.Plus (Local 8) (Number 1))
    ∷ lines.If (tests.Less (Local 8) (Number 8)) 31
    ∷ lines.Let 7 (values.Plus (Local 7) (Number 1))
    ∷ lines.If (tests.Less (Local 7) (Of Callers)) 30
    ∷ lines.Let 2 (values.Is (Of Slots))
    ∷ []

-- its statuses, from 38 on
abbrev pub status_lines : List Line
status_lines =
    lines.Load 9 (places.Status (Local 2))
    ∷ lines.IfNoted (Local 2) 48
    ∷ lines.Let 5 (values.Rest (Local 9) (Number 4))
    ∷ lines.If (tests.Differ (Local 5) (Number 2)) 48
    ∷ lines.Let 10 (values.Over (Local 9) (Number 4))
    ∷ lines.If (tests.Less (Local 10) (Local 6)) 45
    ∷ lines.Goto 48
    ∷ lines.Let 5 (values.Times (Local 6) (Number 4))
    ∷ []

-- the exchange that makes a slot ready, from 46 on
abbrev pub ready_lines : List Line
ready_lines =
    lines.Exchange 4 (places.Status (Local 2)) (Local 9) (Local 5)
    ∷ lines.If (tests.Equal (Local 4) (Local 9)) 65
    -- the next lower slot, 48
    ∷ lines.If (tests.Less (Number 1) (Local 2)) 50
    ∷ lines.Goto 52
    ∷ lines.Let 2 (values.Minus (Local 2) (Number 1))
    ∷ lines.Goto 38
    -- the sweep has ended, 52
    ∷ lines.Let 0 (values.Plus (Local 0) (Number 1))
    ∷ lines.Goto 1
    ∷ []

-- the line of a push
abbrev pub push_line : ℕ
push_line = 54

-- a push, from there on
abbrev pub push_lines : List Line
push_lines =
    lines.Load 1 (places.Head (Local 12))
    ∷ lines.Let 3 (values.Rest (Local 1) (Of Tops))
    ∷ lines.Store (places.Link (Local 2)) (Local 3)
    ∷ lines.Let 10 (values.Over (Local 1) (Of Tops))
    ∷ lines.If (tests.Less (Local 6) (Local 10)) 60
    ∷ lines.Let 10 (values.Is (Local 6))
    ∷ []

-- its exchange, from 60 on
abbrev pub top_lines : List Line
top_lines =
    lines.Let 10 (values.Times (Local 10) (Of Tops))
    ∷ lines.Let 3 (values.Plus (Local 10) (Local 2))
    ∷ lines.Exchange 4 (places.Head (Local 12)) (Local 1) (Local 3)
    ∷ lines.If (tests.Equal (Local 4) (Local 1)) 48
    ∷ lines.Goto 54
    ∷ []

-- a look
abbrev pub look_part : ℕ → List Line
look_part kind = look_lines kind ++ take_lines

-- a sweep, up to its statuses
abbrev pub sweep_part : List Line
sweep_part = phase_lines ++ (warning_lines ++ hazard_lines)

-- and from these on
abbrev pub recycle_part : List Line
recycle_part = status_lines ++ (ready_lines ++ (push_lines ++ top_lines))

abbrev pub claim_front : ℕ → List Line
claim_front kind = look_part kind ++ (sweep_part ++ recycle_part)

-- a claim of a kind, of so many kinds. From 65 on stands what finds the kind of a slot that was made ready
abbrev pub claim_lines : ℕ → ℕ → List Line
claim_lines kind kinds = claim_front kind ++ kind_lines push_line 0 kinds
