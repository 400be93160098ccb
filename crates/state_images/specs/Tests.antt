-- Whether a state is an image of another, by the names that matter in the order of their numbers, from 1.
use Rattle.std.specs.Prelude.{◌≡◌, ℕ, ◌+◌, Bool, true, false, not, ◌&&◌, ◌||◌, ◌==◌, List, [], ◌∷◌, drop, Option, Some, None, is_some, if◌then◌else◌, slice_get}
use Rattle.std.specs.Str.{bytes_eq}
use Rattle.norm_lang.specs.declared.text.Reg.{Reg}
use Rattle.norm_lang.specs.declared.text.Reg.TheVariants.{Num, Ref}
use Rattle.norm_lang.specs.declared.text.Place.{Place}
use Rattle.norm_lang.specs.declared.text.Place.TheVariants as places
use Rattle.norm_lang.specs.declared.text.CasEntry.{CasEntry}
use Rattle.norm_lang.specs.declared.registers.Reference.{Reference}
use Rattle.norm_lang.specs.declared.registers.Registers.{Registers}
use Rattle.norm_lang.specs.Registers.{same_bool}
use Rattle.source_machine.specs.declared.state.Value.{Value}
use Rattle.source_machine.specs.declared.state.Value.TheVariants.{Number, Node}
use Rattle.source_machine.specs.declared.state.NamedNode.{NamedNode}
use Rattle.source_machine.specs.declared.state.Memory.{Memory}
use Rattle.source_machine.specs.declared.state.Stand.{Stand}
use Rattle.source_machine.specs.declared.state.Stand.TheVariants.{InGenerator, InList, InWrapUp}
use Rattle.source_machine.specs.declared.state.Running.{Running}
use Rattle.source_machine.specs.declared.state.SourceCaller.{SourceCaller}
use Rattle.source_machine.specs.declared.state.SourceMachine.{SourceMachine}
use Rattle.source_machine.specs.Memory.{fields_named}
use Rattle.source_machine.specs.MethodRuns.{MethodRun}
use Rattle.source_machine.specs.Proper.{has, runs_method}
use Rattle.state_judge.specs.declared.runs.ListedRun.{ListedRun}
use Rattle.state_judge.specs.Runs.{ListsRuns}
use Rattle.state_judge.specs.Breaches.{is_once}
use Rattle.state_images.specs.Images.{Naming, IsImage}

abbrev pub place_from : ℕ → List ℕ → ℕ → ℕ
place_from k [] a = 0
place_from k (b ∷ bs) a = if b == a then k else place_from (k + 1) bs a

-- the number of a name; null is 0
abbrev pub number_of : List ℕ → ℕ → ℕ
number_of order a = if a == 0 then 0 else place_from 1 order a

abbrev pub matters : List ℕ → ℕ → Bool
matters order a = (a == 0) || has a order

abbrev pub is_reference : List ℕ → Reference → Reference → Bool
is_reference order r r' = matters order r.node && ((r'.node == number_of order r.node) && same_bool r.marked r'.marked)

abbrev pub is_value : List ℕ → Value → Value → Bool
is_value order (Number v) (Number v') = v == v'
is_value order (Node r) (Node r') = is_reference order r r'
is_value order (Number v) (Node r') = false
is_value order (Node r) (Number v') = false

abbrev pub are_values : List ℕ → List Value → List Value → Bool
are_values order [] [] = true
are_values order (v ∷ vs) (v' ∷ vs') = is_value order v v' && are_values order vs vs'
are_values order [] (v' ∷ vs') = false
are_values order (v ∷ vs) [] = false

abbrev pub are_references : List ℕ → List Reference → List Reference → Bool
are_references order [] [] = true
are_references order (r ∷ rs) (r' ∷ rs') = is_reference order r r' && are_references order rs rs'
are_references order [] (r' ∷ rs') = false
are_references order (r ∷ rs) [] = false

abbrev pub are_registers : List ℕ → Registers → Registers → Bool
are_registers order g g' = bytes_eq g.numbers g'.numbers && are_references order g.references g'.references

-- the fields of a name that matters
abbrev pub are_fields : List ℕ → ℕ → Option (List Value) → Option (List Value) → Bool
are_fields order a None None = a == 0
are_fields order a (Some vs) (Some vs') = are_values order vs vs'
are_fields order a None (Some vs') = false
are_fields order a (Some vs) None = false

abbrev pub are_nodes : List ℕ → List ℕ → Memory → Memory → Bool
are_nodes order [] m m' = true
are_nodes order (a ∷ names0) m m' = are_fields order a (fields_named a m.nodes) (fields_named (number_of order a) m'.nodes) && are_nodes order names0 m m'

-- what is in one list and matters is in the other
abbrev pub are_in : List ℕ → List ℕ → List ℕ → List ℕ → Bool
are_in order [] names names' = true
are_in order (a ∷ names0) names names' = (not (has a names) || has (number_of order a) names') && are_in order names0 names names'

abbrev pub are_used : List ℕ → Memory → Bool
are_used [] m = true
are_used (a ∷ names0) m = is_some (fields_named a m.nodes) && are_used names0 m

abbrev pub is_memory : List ℕ → Memory → Memory → Bool
is_memory order m m' =
    are_values order m.roots m'.roots && (are_nodes order (0 ∷ order) m m' && (are_in order (0 ∷ order) m.retired m'.retired && are_used m.retired m))

-- ---- callers

abbrev pub same_register : Reg → Reg → Bool
same_register (Num a) (Num b) = a == b
same_register (Ref a) (Ref b) = a == b
same_register (Num a) (Ref b) = false
same_register (Ref a) (Num b) = false

abbrev pub same_place : Place → Place → Bool
same_place (places.Root x) (places.Root y) = x == y
same_place (places.Field a f) (places.Field b g) = same_register a b && (f == g)
same_place (places.Root x) (places.Field b g) = false
same_place (places.Field a f) (places.Root y) = false

abbrev pub same_retired : Option Reg → Option Reg → Bool
same_retired None None = true
same_retired (Some a) (Some b) = same_register a b
same_retired None (Some b) = false
same_retired (Some a) None = false

abbrev pub same_entry : CasEntry → CasEntry → Bool
same_entry e e' =
    same_place e.place e'.place
    && (same_register e.expected e'.expected && (same_register e.replacement e'.replacement && same_retired e.retire e'.retire))

abbrev pub same_entries : List CasEntry → List CasEntry → Bool
same_entries [] [] = true
same_entries (e ∷ es) (e' ∷ es') = same_entry e e' && same_entries es es'
same_entries [] (e' ∷ es') = false
same_entries (e ∷ es) [] = false

abbrev pub is_stand : List ℕ → Stand → Stand → Bool
is_stand order (InGenerator at) (InGenerator at') = at == at'
is_stand order (InList at entries made) (InList at' entries' made') = (at == at') && (same_entries entries entries' && (made == made'))
is_stand order (InWrapUp at started accessed) (InWrapUp at' started' accessed') =
    (at == at') && (are_registers order started started' && same_bool accessed accessed')
is_stand order (InGenerator at) (InList at' entries' made') = false
is_stand order (InGenerator at) (InWrapUp at' started' accessed') = false
is_stand order (InList at entries made) (InGenerator at') = false
is_stand order (InList at entries made) (InWrapUp at' started' accessed') = false
is_stand order (InWrapUp at started accessed) (InGenerator at') = false
is_stand order (InWrapUp at started accessed) (InList at' entries' made') = false

abbrev pub is_running : List ℕ → Running → Running → Bool
is_running order r r' =
    (r.op == r'.op) && (bytes_eq r.args r'.args && (are_registers order r.registers r'.registers && is_stand order r.stand r'.stand))

abbrev pub is_running_if : List ℕ → Option Running → Option Running → Bool
is_running_if order None None = true
is_running_if order (Some r) (Some r') = is_running order r r'
is_running_if order None (Some r') = false
is_running_if order (Some r) None = false

-- ---- method runs

abbrev pub are_kept : List ℕ → List ℕ → Bool
are_kept order [] = true
are_kept order (a ∷ names0) = matters order a && are_kept order names0

-- what is got matters, and is got in the other; what was retired before is so in the other
abbrev pub is_run : List ℕ → Memory → ListedRun → ListedRun → Bool
is_run order m k k' =
    are_kept order k.got && (are_in order (0 ∷ order) k.got k'.got && (are_in order (0 ∷ order) k.old k'.old && are_used k.old m))

-- the runs of callers in a method alone matter
abbrev pub is_run_if : Bool → List ℕ → Memory → Option ListedRun → Option ListedRun → Bool
is_run_if false order m k k' = true
is_run_if true order m (Some k) (Some k') = is_run order m k k'
is_run_if true order m None k' = false
is_run_if true order m (Some k) None = false

abbrev pub is_caller : List ℕ → Memory → SourceCaller → Option SourceCaller → Option ListedRun → Option ListedRun → Bool
is_caller order m c None k k' = false
is_caller order m c (Some c') k k' = is_running_if order c.running c'.running && is_run_if (runs_method (Some c)) order m k k'

abbrev pub are_callers : List ℕ → Memory → List SourceCaller → List SourceCaller → List ListedRun → List ListedRun → Bool
are_callers order m [] [] ks ks' = true
are_callers order m [] (c' ∷ cs') ks ks' = false
are_callers order m (c ∷ cs) cs' ks ks' =
    is_caller order m c (slice_get cs' 0) (slice_get ks 0) (slice_get ks' 0) && are_callers order m cs (drop 1 cs') (drop 1 ks) (drop 1 ks')

-- ---- states

abbrev pub is_image : List ℕ → SourceMachine → List ListedRun → SourceMachine → List ListedRun → Bool
is_image order s ks s' ks' =
    is_once s.memory.retired && (is_memory order s.memory s'.memory && are_callers order s.memory s.callers s'.callers ks ks')

-- what the test tells: the second state, with the method runs that its lists hold, is an image of the first
abbrev pub ImagesAreTested : Type 0
ImagesAreTested =
    (order : List ℕ) (s s' : SourceMachine) (ks ks' : List ListedRun) (runs runs' : ℕ → MethodRun) → is_image order s ks s' ks' ≡ true
    → ListsRuns ks runs → ListsRuns ks' runs'
    → (n : Naming) × IsImage n (record { machine = s; runs = runs }) (record { machine = s'; runs = runs' })
