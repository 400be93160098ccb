-- What a state breaks, told from what is kept beside it.
use Rattle.std.specs.Prelude.{◌≡◌, ℕ, Bool, true, false, List, [], ◌∷◌, length, Option, Some, None, slice_get}
use Rattle.norm_lang.specs.declared.registers.Reference.{Reference}
use Rattle.source_machine.specs.declared.state.Value.TheVariants.{Node}
use Rattle.source_machine.specs.declared.state.Memory.{Memory}
use Rattle.source_machine.specs.declared.state.SourceCaller.{SourceCaller}
use Rattle.source_machine.specs.declared.state.SourceMachine.{SourceMachine}
use Rattle.source_machine.specs.Memory.{value_at}
use Rattle.source_machine.specs.MethodRuns.{MethodRun}
use Rattle.source_machine.specs.Proper.{has, IsOnce, Reaches, runs_method, IsProperState}
use Rattle.proper_judge.specs.declared.runs.KeptRun.{KeptRun}
use Rattle.proper_judge.specs.declared.breach.Breach.{Breach}
use Rattle.proper_judge.specs.declared.breach.Breach.TheVariants.{Twice, Root, Got}
use Rattle.proper_judge.specs.declared.breach.Doubts.{Doubts}
use Rattle.proper_judge.specs.Numbers.{is_among}
use Rattle.proper_judge.specs.Reach.{ReachedFrom, IsFine, Found, targets, without}

-- what is found from the roots, if they are searched
abbrev pub RootsTold : Bool → Memory → (ℕ → Bool) → Option ℕ → Type 0
RootsTold false memory bad found = found ≡ None
RootsTold true memory bad found = Found memory (targets memory.roots) [] bad found

-- what is found of a caller's method run
abbrev pub FoundIf : Bool → (ℕ → ℕ) → Memory → Option KeptRun → Option ℕ → Type 0
FoundIf false numbers memory run found = found ≡ None
FoundIf true numbers memory None found = found ≡ None
FoundIf true numbers memory (Some run) found = Found memory run.got [] (is_among numbers run.before) found

abbrev pub FoundOf : (ℕ → ℕ) → Memory → Option SourceCaller → Option KeptRun → Option ℕ → Type 0
FoundOf numbers memory caller run found = FoundIf (runs_method caller) numbers memory run found

-- what is found of the method runs of all callers
abbrev pub ShowsGot : (ℕ → ℕ) → SourceMachine → List KeptRun → Option Breach → Type 0
ShowsGot numbers state kept None = (c : ℕ) (caller : SourceCaller) → slice_get state.callers c ≡ Some caller → FoundOf numbers state.memory (Some caller) (slice_get kept c) None
ShowsGot numbers state kept (Some Twice) = ⊥
ShowsGot numbers state kept (Some (Root name)) = ⊥
ShowsGot numbers state kept (Some (Got c name)) =
    (caller : SourceCaller) × (slice_get state.callers c ≡ Some caller) × FoundOf numbers state.memory (Some caller) (slice_get kept c) (Some name)

-- what is found of a name that a method run has got now: nothing that it leads to is bad, if nothing is to which the roots or the run's other names
-- lead
abbrev pub AddedTold : Memory → KeptRun → (ℕ → Bool) → ℕ → Option ℕ → Type 0
AddedTold memory run bad name None = IsFine memory (targets memory.roots) bad → IsFine memory (without name run.got) bad → IsFine memory (name ∷ []) bad
AddedTold memory run bad name (Some other) = ReachedFrom memory (name ∷ []) other × (bad other ≡ true)

abbrev pub MovedIf : Bool → (ℕ → ℕ) → Memory → KeptRun → ℕ → Option ℕ → Type 0
MovedIf false numbers memory run name found = found ≡ None
MovedIf true numbers memory run name found = AddedTold memory run (is_among numbers run.before) name found

-- the same of the caller that moved, if it has got a name
abbrev pub MovedTold : (ℕ → ℕ) → Memory → Option SourceCaller → Option KeptRun → Option ℕ → Option ℕ → Type 0
MovedTold numbers memory caller run None found = found ≡ None
MovedTold numbers memory caller None (Some name) found = found ≡ None
MovedTold numbers memory caller (Some run) (Some name) found = MovedIf (runs_method caller) numbers memory run name found

abbrev pub RunsTold : Bool → (ℕ → ℕ) → SourceMachine → List KeptRun → ℕ → Option ℕ → Option Breach → Type 0
RunsTold true numbers state kept c added found = ShowsGot numbers state kept found
RunsTold false numbers state kept c added None = MovedTold numbers state.memory (slice_get state.callers c) (slice_get kept c) added None
RunsTold false numbers state kept c added (Some Twice) = ⊥
RunsTold false numbers state kept c added (Some (Root name)) = ⊥
RunsTold false numbers state kept c added (Some (Got d name)) = (d ≡ c) × MovedTold numbers state.memory (slice_get state.callers c) (slice_get kept c) added (Some name)

-- what is found of a state: the roots are looked at only if no node was retired twice, and the method runs only if no root leads to a retired node
abbrev pub RestTold : Doubts → (ℕ → ℕ) → SourceMachine → List KeptRun → ℕ → Option ℕ → Option Breach → Type 0
RestTold doubts numbers state kept c added found =
    (doubts.twice ≡ false) × RootsTold doubts.roots state.memory (is_among numbers (length state.memory.retired)) None × RunsTold doubts.runs numbers state kept c added found

abbrev pub IsTold : Doubts → (ℕ → ℕ) → SourceMachine → List KeptRun → ℕ → Option ℕ → Option Breach → Type 0
IsTold doubts numbers state kept c added None = RestTold doubts numbers state kept c added None
IsTold doubts numbers state kept c added (Some Twice) = doubts.twice ≡ true
IsTold doubts numbers state kept c added (Some (Root name)) =
    (doubts.twice ≡ false) × RootsTold doubts.roots state.memory (is_among numbers (length state.memory.retired)) (Some name)
IsTold doubts numbers state kept c added (Some (Got d name)) = RestTold doubts numbers state kept c added (Some (Got d name))

-- a root leads to a retired name
pub record IsRootBreach (state : SourceMachine) (name : ℕ) : Type 0 where
  pub root : ℕ
  pub reference : Reference
  pub stands : value_at state.memory.roots root ≡ Node reference
  pub leads : Reaches state.memory reference.node name
  pub retired : has name state.memory.retired ≡ true

-- what a method run has got leads to a name that was retired before the run began
pub record IsGotBreach (state : SourceMachine) (runs : ℕ → MethodRun) (c name : ℕ) : Type 0 where
  pub runs_on : runs_method (slice_get state.callers c) ≡ true
  pub leads : ReachedFrom state.memory (runs c).got name
  pub old : has name (runs c).old ≡ true

-- no root leads to a retired name
abbrev pub AreRootsKept : SourceMachine → Type 0
AreRootsKept state =
    (x other : ℕ) (reference : Reference) → value_at state.memory.roots x ≡ Node reference → Reaches state.memory reference.node other → has other state.memory.retired ≡ false

-- a breach is of the least condition that the state breaks: those before it hold
abbrev pub IsBreach : SourceMachine → (ℕ → MethodRun) → Breach → Type 0
IsBreach state runs Twice = IsOnce state.memory.retired → ⊥
IsBreach state runs (Root name) = IsOnce state.memory.retired × IsRootBreach state name
IsBreach state runs (Got c name) = IsOnce state.memory.retired × AreRootsKept state × IsGotBreach state runs c name

-- the number of the condition that a breach breaks
abbrev pub number_of : Breach → ℕ
number_of Twice = 1
number_of (Root name) = 2
number_of (Got c name) = 3

abbrev pub Shown : SourceMachine → (ℕ → MethodRun) → Option Breach → Type 0
Shown state runs None = IsProperState state runs
Shown state runs (Some breach) = IsBreach state runs breach
