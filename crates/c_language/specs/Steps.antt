-- What a line does: it goes on without an access, or stops. Of what C leaves undefined these stray: a division by 0, a field that the slot
-- doesn't have, a bit or a cradle that isn't there, a line that isn't there. Any other index outside its array doesn't stray, and neither does a
-- number of the pool that doesn't fit a word: laws of those who run lines ask for pools whose numbers fit, and say that the words are in the row.
use Rattle.std.specs.Prelude.{ℕ, ◌+◌, ◌-◌, ◌*◌, ◌/◌, ◌%◌, ◌^◌, Bool, true, false, ◌&&◌, ◌||◌, not, List, Option, Some, None, nat_lt, nat_le, ◌==◌, if◌then◌else◌, slice_get, slice_index}
use Rattle.oa_words.specs.Words.{Word, Phase, Warning, Hazard, Status, FieldOf, Cell, Head, Link, Sizes}
use Rattle.oa_words.specs.SlotKinds.{first_of, kind_of}
use Rattle.phase_pools.specs.Accesses.{WordAccess, Loads, Stores, Exchanges}
use Rattle.c_language.specs.declared.lines.Parameter.{Parameter}
use Rattle.c_language.specs.declared.lines.Parameter.TheVariants as parameters
use Rattle.c_language.specs.declared.lines.Operand.{Operand}
use Rattle.c_language.specs.declared.lines.Operand.TheVariants.{Number, Local, Of}
use Rattle.c_language.specs.declared.lines.Value.{Value}
use Rattle.c_language.specs.declared.lines.Value.TheVariants as values
use Rattle.c_language.specs.declared.lines.Place.{Place}
use Rattle.c_language.specs.declared.lines.Place.TheVariants as places
use Rattle.c_language.specs.declared.lines.Test.{Test}
use Rattle.c_language.specs.declared.lines.Test.TheVariants as tests
use Rattle.c_language.specs.declared.lines.Answer.{Answer}
use Rattle.c_language.specs.declared.lines.Line.{Line}
use Rattle.c_language.specs.declared.lines.Line.TheVariants as lines

-- what stays while functions run: the row, how many fields a node of each kind has, the last phase, and the caller's number
pub record Pool : Type 0 where
  pub sizes : Sizes
  pub fields : List ℕ
  pub last : ℕ
  pub own : ℕ

-- what belongs to a caller and outlives a function: its bits, one for each slot and one for null, and its cradles
pub record Kept : Type 0 where
  pub noted : ℕ → Bool
  pub cradles : ℕ → ℕ

-- a function that runs: the line at which it stands, its locals, and what belongs to its caller
pub record Frame : Type 0 where
  pub at : ℕ
  pub locals : ℕ → ℕ
  pub kept : Kept

abbrev pub parameter : Pool → Parameter → ℕ
parameter pool parameters.Slots = pool.sizes.slots
parameter pool parameters.Callers = pool.sizes.callers
parameter pool parameters.LastPhase = pool.last
parameter pool (parameters.FirstSlot k) = first_of pool.sizes k
parameter pool parameters.Tops = pool.sizes.tops
parameter pool parameters.Own = pool.own

abbrev pub operand : Pool → (ℕ → ℕ) → Operand → ℕ
operand pool locals (Number x) = x
operand pool locals (Local d) = locals d
operand pool locals (Of p) = parameter pool p

-- uint64_t
abbrev pub wrap : ℕ → ℕ
wrap x = x % 2 ^ 64

-- a quotient or a rest by a number, none by 0
abbrev pub divided : ℕ → ℕ → Option ℕ
divided by x = if by == 0 then None else Some x

abbrev pub value : Pool → (ℕ → ℕ) → Value → Option ℕ
value pool locals (values.Is a) = Some (operand pool locals a)
value pool locals (values.Plus a b) = Some (wrap (operand pool locals a + operand pool locals b))
value pool locals (values.Minus a b) = Some (wrap (operand pool locals a + (2 ^ 64 - operand pool locals b)))
value pool locals (values.Times a b) = Some (wrap (operand pool locals a * operand pool locals b))
value pool locals (values.Over a b) = divided (operand pool locals b) (operand pool locals a / operand pool locals b)
value pool locals (values.Rest a b) = divided (operand pool locals b) (operand pool locals a % operand pool locals b)

abbrev pub place : Pool → (ℕ → ℕ) → Place → Word
place pool locals places.Phase = Phase
place pool locals (places.Warning c) = Warning (operand pool locals c)
place pool locals (places.Hazard c r) = Hazard (operand pool locals c) (operand pool locals r)
place pool locals (places.Status j) = Status (operand pool locals j)
place pool locals (places.Field k j g) = FieldOf (operand pool locals j) g
place pool locals (places.Root x a) = Cell (x + operand pool locals a)
place pool locals (places.Head k) = Head (operand pool locals k)
place pool locals (places.Link j) = Link (operand pool locals j)

-- each kind has its own array of fields, with a row for null and one for each slot of the kind
abbrev pub has_field : Pool → ℕ → ℕ → ℕ → Bool
has_field pool k j g = nat_lt g (slice_index pool.fields k) && (j == 0 || (nat_le j pool.sizes.slots && (kind_of pool.sizes j == k)))

abbrev pub is_place : Pool → (ℕ → ℕ) → Place → Bool
is_place pool locals places.Phase = true
is_place pool locals (places.Warning c) = true
is_place pool locals (places.Hazard c r) = true
is_place pool locals (places.Status j) = true
is_place pool locals (places.Field k j g) = has_field pool k (operand pool locals j) g
is_place pool locals (places.Root x a) = true
is_place pool locals (places.Head k) = true
is_place pool locals (places.Link j) = true

-- null's fields are one word here, and in C one in each kind's array: they can be loaded, and nothing else
abbrev pub is_null : Pool → (ℕ → ℕ) → Place → Bool
is_null pool locals (places.Field k j g) = operand pool locals j == 0
is_null pool locals _ = false

-- a place whose word may be changed
abbrev pub can_change : Pool → (ℕ → ℕ) → Place → Bool
can_change pool locals p = is_place pool locals p && not (is_null pool locals p)

abbrev pub test : Pool → (ℕ → ℕ) → Test → Bool
test pool locals (tests.Equal a b) = operand pool locals a == operand pool locals b
test pool locals (tests.Differ a b) = not (operand pool locals a == operand pool locals b)
test pool locals (tests.Less a b) = nat_lt (operand pool locals a) (operand pool locals b)

-- a table after one of its values is set
abbrev pub set : {X : Type 0} → (ℕ → X) → ℕ → X → ℕ → X
set table d x e = if e == d then x else table e

abbrev pub goes_to : ℕ → Frame → Frame
goes_to l f = record f { at = l }

abbrev pub onward : Frame → Frame
onward f = record f { at = f.at + 1 }

abbrev pub with_local : ℕ → ℕ → Frame → Frame
with_local d x f = record f { at = f.at + 1; locals = set f.locals d x }

abbrev pub branch : Bool → ℕ → Frame → Frame
branch true l f = goes_to l f
branch false l f = onward f

abbrev pub note : ℕ → Bool → Kept → Kept
note j b kept = record kept { noted = set kept.noted j b }

abbrev pub keep : ℕ → ℕ → Kept → Kept
keep k x kept = record kept { cradles = set kept.cradles k x }

-- with what belongs to the caller changed
abbrev pub with_kept : Kept → Frame → Frame
with_kept kept f = record f { kept = kept }

-- what a line comes to: the next line, an access and what follows the word that it finds, a call of a function for a local, the end of a
-- function that was called, the end of an operation, or what C leaves undefined
pub data Stop : Type 0 where
  Goes : (f : Frame) → Stop
  Wants : (a : WordAccess) (next : ℕ → Frame) → Stop
  Calls : (d function : ℕ) → Stop
  Returns : (x : ℕ) → Stop
  Replies : (answer : Answer) (x : ℕ) → Stop
  Strays : Stop

-- if a condition of C holds
abbrev pub defined : Bool → Stop → Stop
defined true stop = stop
defined false stop = Strays

abbrev pub sets : ℕ → Frame → Option ℕ → Stop
sets d f None = Strays
sets d f (Some x) = Goes (with_local d x f)

-- there is a bit for each slot and for null
abbrev pub has_bit : Pool → ℕ → Bool
has_bit pool j = nat_le j pool.sizes.slots

-- there are sixteen cradles
abbrev pub has_cradle : ℕ → Bool
has_cradle k = nat_lt k 16

abbrev pub line_stop : Pool → Frame → Line → Stop
line_stop pool f (lines.Let d v) = sets d f (value pool f.locals v)
line_stop pool f (lines.Goto l) = Goes (goes_to l f)
line_stop pool f (lines.If t l) = Goes (branch (test pool f.locals t) l f)
line_stop pool f (lines.Load d p) = defined (is_place pool f.locals p) (Wants (Loads (place pool f.locals p)) (λ word. with_local d word f))
line_stop pool f (lines.Store p a) =
    defined (can_change pool f.locals p) (Wants (Stores (place pool f.locals p) (operand pool f.locals a)) (λ word. onward f))
line_stop pool f (lines.Exchange d p a b) =
    defined (can_change pool f.locals p)
    (Wants (Exchanges (place pool f.locals p) (operand pool f.locals a) (operand pool f.locals b)) (λ word. with_local d word f))
line_stop pool f (lines.Note a) =
    defined (has_bit pool (operand pool f.locals a)) (Goes (onward (with_kept (note (operand pool f.locals a) true f.kept) f)))
line_stop pool f (lines.IfNoted a l) =
    defined (has_bit pool (operand pool f.locals a))
    (Goes (branch (f.kept.noted (operand pool f.locals a)) l (with_kept (note (operand pool f.locals a) false f.kept) f)))
line_stop pool f (lines.Get d k) = defined (has_cradle k) (Goes (with_local d (f.kept.cradles k) f))
line_stop pool f (lines.Keep k a) = defined (has_cradle k) (Goes (onward (with_kept (keep k (operand pool f.locals a) f.kept) f)))
line_stop pool f (lines.Call d function) = Calls d function
line_stop pool f (lines.Return a) = Returns (operand pool f.locals a)
line_stop pool f (lines.Reply answer a) = Replies answer (operand pool f.locals a)

abbrev pub stop_at : Pool → Frame → Option Line → Stop
stop_at pool f None = Strays
stop_at pool f (Some line) = line_stop pool f line

abbrev pub stop : Pool → List Line → Frame → Stop
stop pool code f = stop_at pool f (slice_get code f.at)
