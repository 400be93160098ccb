-- What an event is to change in memory, and the references that it makes.
use Rattle.std.specs.Prelude.{ℕ, Bool, true, false, not, ◌&&◌, ◌||◌, ◌==◌, List, [], ◌∷◌, ◌++◌, Option, Some, None}
use Rattle.norm_lang.specs.declared.text.Text.{Text}
use Rattle.source_machine.specs.declared.event.SourceEvent.{SourceEvent}
use Rattle.source_machine.specs.declared.state.Value.{Value}
use Rattle.source_machine.specs.declared.state.Memory.{Memory}
use Rattle.source_machine.specs.declared.state.SourceCaller.{SourceCaller}
use Rattle.source_machine.specs.declared.plan.Site.{Site}
use Rattle.source_machine.specs.declared.plan.Site.TheVariants as sites
use Rattle.source_machine.specs.declared.plan.Change.{Change}
use Rattle.source_machine.specs.declared.plan.Change.TheVariants.{Nothing, Makes, Writes}
use Rattle.source_machine.specs.Step.{performed}
use Rattle.source_machine.specs.Plans.{plan_of}
use Rattle.proper_judge.specs.Reach.{IsFine, targets}

-- what an event is to change, by its caller
abbrev pub planned_change : Text → SourceEvent → Memory → Option SourceCaller → Change
planned_change text event memory None = Nothing
planned_change text event memory (Some caller) = (plan_of text event (performed text caller) memory).change

abbrev pub is_root_site : Site → Bool
is_root_site (sites.Root x) = true
is_root_site (sites.Field name f) = false

-- whether a field may be changed
abbrev pub is_field_change : Change → Bool
is_field_change Nothing = false
is_field_change (Makes name kind) = true
is_field_change (Writes w) = not (is_root_site w.site)

-- the name that is retired, 0 for none
abbrev pub retired_by : Change → ℕ
retired_by Nothing = 0
retired_by (Makes name kind) = 0
retired_by (Writes w) = w.retires

-- the names to which references are made, in fields and in roots: a fresh node's are null
abbrev pub written_targets : Bool → Value → List ℕ
written_targets false value = []
written_targets true value = targets (value ∷ [])

abbrev pub field_targets : Change → List ℕ
field_targets Nothing = []
field_targets (Makes name kind) = 0 ∷ []
field_targets (Writes w) = written_targets (not (is_root_site w.site)) w.value

abbrev pub root_targets : Change → List ℕ
root_targets Nothing = []
root_targets (Makes name kind) = []
root_targets (Writes w) = written_targets (is_root_site w.site) w.value

-- the names lead to no bad one, if that is told, and if no root does
abbrev pub IsFineIf : Bool → Memory → List ℕ → (ℕ → Bool) → Type 0
IsFineIf false memory names bad = Unit {0}
IsFineIf true memory names bad = IsFine memory (targets memory.roots) bad → IsFine memory names bad

-- the same of the names to which a change makes references
abbrev pub IsCalm : Bool → Memory → Change → (ℕ → Bool) → Type 0
IsCalm calm memory change bad = IsFineIf calm memory (field_targets change ++ root_targets change) bad

-- whether the roots are to be searched after a change, and whether what all method runs have got is: if it isn't calm and changes what they lead to,
-- and after a retirement
abbrev pub needs_roots : Bool → Change → Bool
needs_roots calm change = not calm || not (retired_by change == 0)

abbrev pub needs_runs : Bool → Change → Bool
needs_runs calm change = not calm && is_field_change change
