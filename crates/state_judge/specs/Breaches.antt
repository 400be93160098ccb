-- What a state breaks, told from lists of what its method runs have got.
use Rattle.std.specs.Prelude.{◌≡◌, ℕ, Bool, true, false, not, ◌&&◌, List, [], ◌∷◌, Option, Some, None, slice_get}
use Rattle.source_machine.specs.declared.state.Memory.{Memory}
use Rattle.source_machine.specs.declared.state.SourceCaller.{SourceCaller}
use Rattle.source_machine.specs.declared.state.SourceMachine.{SourceMachine}
use Rattle.source_machine.specs.MethodRuns.{MethodRun}
use Rattle.source_machine.specs.Proper.{has, runs_method}
use Rattle.proper_judge.specs.declared.breach.Breach.{Breach}
use Rattle.proper_judge.specs.declared.breach.Breach.TheVariants.{Twice, Root, Got}
use Rattle.proper_judge.specs.Breaches.{Shown}
use Rattle.state_judge.specs.declared.runs.ListedRun.{ListedRun}
use Rattle.state_judge.specs.Reach.{Found}
use Rattle.state_judge.specs.Runs.{ListsRuns}

abbrev pub is_once : List ℕ → Bool
is_once [] = true
is_once (name ∷ names) = not (has name names) && is_once names

-- what is found of a caller's method run
abbrev pub FoundInRun : Bool → Memory → Option ListedRun → Option ℕ → Type 0
FoundInRun false memory run found = found ≡ None
FoundInRun true memory None found = found ≡ None
FoundInRun true memory (Some run) found = Found memory run.got run.old found

abbrev pub FoundOf : Memory → SourceCaller → Option ListedRun → Option ℕ → Type 0
FoundOf memory caller run found = FoundInRun (runs_method (Some caller)) memory run found

-- what is found of the method runs of all callers
abbrev pub ShowsGot : SourceMachine → List ListedRun → Option Breach → Type 0
ShowsGot state kept None = (c : ℕ) (caller : SourceCaller) → slice_get state.callers c ≡ Some caller → FoundOf state.memory caller (slice_get kept c) None
ShowsGot state kept (Some Twice) = ⊥
ShowsGot state kept (Some (Root name)) = ⊥
ShowsGot state kept (Some (Got c name)) = (caller : SourceCaller) × (slice_get state.callers c ≡ Some caller) × FoundOf state.memory caller (slice_get kept c) (Some name)

-- the state is proper, or the breach is one, whatever method runs the lists hold
abbrev pub Shows : SourceMachine → List ListedRun → Option Breach → Type 0
Shows state kept found = (runs : ℕ → MethodRun) → ListsRuns kept runs → Shown state runs found
