-- What the rows write short: registers, declarations, exchanges and calls.
use Rattle.std.specs.Prelude.{ℕ, List, [], ◌∷◌, None}
use Rattle.norm_lang.specs.declared.text.Reg.{Reg}
use Rattle.norm_lang.specs.declared.text.Reg.TheVariants.{Num, Ref}
use Rattle.norm_lang.specs.declared.text.FieldKind.TheVariants as holdings
use Rattle.norm_lang.specs.declared.text.Start.TheVariants as starts
use Rattle.norm_lang.specs.declared.text.RootDecl.{RootDecl}
use Rattle.norm_lang.specs.declared.text.NodeDecl.{NodeDecl}
use Rattle.norm_lang.specs.declared.text.Place.TheVariants as places
use Rattle.norm_lang.specs.declared.text.CasEntry.{CasEntry}
use Rattle.caller_parts.specs.declared.call.Call.{Call}
use Rattle.caller_parts.specs.declared.setting.Reclamation.TheVariants.{Optimistic}
use Rattle.caller_parts.specs.Settings.{Setting}

abbrev pub n0 : Reg
n0 = Num 0

abbrev pub n1 : Reg
n1 = Num 1

abbrev pub n2 : Reg
n2 = Num 2

abbrev pub n3 : Reg
n3 = Num 3

abbrev pub n7 : Reg
n7 = Num 7

abbrev pub r0 : Reg
r0 = Ref 0

abbrev pub r1 : Reg
r1 = Ref 1

abbrev pub r2 : Reg
r2 = Ref 2

abbrev pub r3 : Reg
r3 = Ref 3

abbrev pub r4 : Reg
r4 = Ref 4

abbrev pub r5 : Reg
r5 = Ref 5

abbrev pub r6 : Reg
r6 = Ref 6

-- a root that starts with a number
abbrev pub number_root : List ℕ → ℕ → RootDecl
number_root name value = record { name = name; kind = holdings.Number; start = starts.Value value }

-- an initial node of one number
abbrev pub number_node : ℕ → NodeDecl
number_node value = record { owner = 0; values = starts.Value value ∷ [] }

-- an exchange on a field of the node in a register
abbrev pub field_entry : Reg → ℕ → Reg → Reg → CasEntry
field_entry object field expected replacement = record { place = places.Field object field; expected = expected; replacement = replacement; retire = None }

-- a call with at most one argument
abbrev pub call_of : ℕ → ℕ → Call
call_of op argument = record { op = op; args = argument ∷ 0 ∷ 0 ∷ 0 ∷ [] }

-- a setting by its callers, slots, fields, roots, initial nodes and last phase: the first phase is 1, all nodes are of one kind, and access
-- is optimistic
abbrev pub setting_of : ℕ → ℕ → ℕ → ℕ → ℕ → ℕ → Setting
setting_of callers slots fields roots nodes last =
    record { reclamation = Optimistic; sizes = record { callers = callers; slots = slots; fields = fields; cells = roots; kinds = slots ∷ []; tops = 8192 }; first = 1; last = last; nodes = nodes ∷ 0 ∷ 0 ∷ 0 ∷ [] }

-- the cradles of the first kind, four of them; those of other kinds hold no slot
abbrev pub cradles_of : ℕ → ℕ → ℕ → ℕ → List ℕ
cradles_of a b c d = a ∷ b ∷ c ∷ d ∷ 0 ∷ 0 ∷ 0 ∷ 0 ∷ 0 ∷ 0 ∷ 0 ∷ 0 ∷ 0 ∷ 0 ∷ 0 ∷ 0 ∷ []

-- no cradle holds a slot
abbrev pub no_slots : List ℕ
no_slots = cradles_of 0 0 0 0
