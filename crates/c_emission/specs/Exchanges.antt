-- Exchanges, and what follows those that succeed, as lines.
use Rattle.std.specs.Prelude.{ℕ, zero, suc, ◌+◌, ◌*◌, List, [], ◌∷◌, ◌++◌, Option, Some, None, unwrap_or}
use Rattle.norm_lang.specs.declared.text.FieldDecl.{FieldDecl}
use Rattle.norm_lang.specs.declared.text.Place.{Place}
use Rattle.norm_lang.specs.declared.text.Place.TheVariants as text_places
use Rattle.norm_lang.specs.declared.text.Reg.{Reg}
use Rattle.norm_lang.specs.declared.text.Reg.TheVariants.{Num, Ref}
use Rattle.norm_lang.specs.declared.text.CasEntry.{CasEntry}
use Rattle.norm_lang.specs.KindFields.{owner_of, place_of}
use Rattle.c_language.specs.declared.lines.Operand.TheVariants.{Number, Local}
use Rattle.c_language.specs.declared.lines.Value.TheVariants as values
use Rattle.c_language.specs.declared.lines.Place.TheVariants as places
use Rattle.c_language.specs.declared.lines.Test.TheVariants as tests
use Rattle.c_language.specs.declared.lines.Line.{Line}
use Rattle.c_language.specs.declared.lines.Line.TheVariants as lines
use Rattle.c_emission.specs.Blocks.{local_of, slot_line}

-- the kind of the nodes that have a field
abbrev pub kind_of_field : List FieldDecl → ℕ → ℕ
kind_of_field fields f = unwrap_or (owner_of fields f) 0

-- an exchange of a root, which goes on at a line if it fails
abbrev pub root_exchange : ℕ → Reg → Reg → ℕ → List Line
root_exchange x expected replacement failed =
    lines.Exchange 29 (places.Root x (Number 0)) (Local (local_of expected)) (Local (local_of replacement))
    ∷ lines.If (tests.Differ (Local 29) (Local (local_of expected))) failed
    ∷ []

-- an exchange, from a line on, of the field at a place of a kind's node. Null's field is loaded instead, and the exchange fails
abbrev pub field_exchange : ℕ → Reg → ℕ → ℕ → Reg → Reg → ℕ → List Line
field_exchange base a kind g expected replacement failed =
    slot_line a
    ∷ lines.If (tests.Differ (Local 30) (Number 0)) (base + 4)
    ∷ lines.Load 29 (places.Field kind (Number 0) g)
    ∷ lines.Goto failed
    ∷ lines.Exchange 29 (places.Field kind (Local 30) g) (Local (local_of expected)) (Local (local_of replacement))
    ∷ lines.If (tests.Differ (Local 29) (Local (local_of expected))) failed
    ∷ []

abbrev pub place_exchange : List FieldDecl → ℕ → Place → Reg → Reg → ℕ → List Line
place_exchange fields base (text_places.Root x) expected replacement failed = root_exchange x expected replacement failed
place_exchange fields base (text_places.Field a f) expected replacement failed =
    field_exchange base a (kind_of_field fields f) (place_of fields f) expected replacement failed

abbrev pub place_size : Place → ℕ
place_size (text_places.Root x) = 2
place_size (text_places.Field a f) = 6

-- the retirement of the node in a register of references, from a line on: nothing, if the register holds null
abbrev pub retirement_lines : ℕ → Reg → List Line
retirement_lines base r =
    slot_line r
    ∷ lines.If (tests.Equal (Local 30) (Number 0)) (base + 6)
    ∷ lines.Load 31 places.Phase
    ∷ lines.Let 31 (values.Times (Local 31) (Number 4))
    ∷ lines.Let 31 (values.Plus (Local 31) (Number 2))
    ∷ lines.Store (places.Status (Local 30)) (Local 31)
    ∷ []

-- if there is a register to retire
abbrev pub retire_lines : ℕ → Option Reg → List Line
retire_lines base None = []
retire_lines base (Some (Num r)) = []
retire_lines base (Some (Ref r)) = retirement_lines base (Ref r)

abbrev pub retire_size : Option Reg → ℕ
retire_size None = 0
retire_size (Some (Num r)) = 0
retire_size (Some (Ref r)) = 6

-- a cradle is emptied if it holds the slot in local 30, from a line on
abbrev pub emptied_line : ℕ → ℕ → List Line
emptied_line base k = lines.Get 31 k ∷ lines.If (tests.Differ (Local 31) (Local 30)) (base + 3) ∷ lines.Keep k (Number 0) ∷ []

-- so many cradles from one on
abbrev pub emptied_lines : ℕ → ℕ → ℕ → List Line
emptied_lines base k zero = []
emptied_lines base k (suc n) = emptied_line base k ++ emptied_lines (base + 3) (k + 1) n

-- the node in a register was published: it is in no cradle any more. There are four cradles for each of so many kinds
abbrev pub published_lines : ℕ → ℕ → Reg → List Line
published_lines base kinds (Num r) = []
published_lines base kinds (Ref r) = slot_line (Ref r) ∷ emptied_lines (base + 1) 0 (4 * kinds)

abbrev pub published_size : ℕ → Reg → ℕ
published_size kinds (Num r) = 0
published_size kinds (Ref r) = 1 + 12 * kinds

-- an auxiliary exchange, from a line on; where it goes on if it fails
abbrev pub cas_block : List FieldDecl → ℕ → CasEntry → ℕ → List Line
cas_block fields base exchange failed =
    place_exchange fields base exchange.place exchange.expected exchange.replacement failed ++ retire_lines (base + place_size exchange.place) exchange.retire

abbrev pub cas_size : CasEntry → ℕ
cas_size exchange = place_size exchange.place + retire_size exchange.retire

-- an exchange of a list, before which so many have succeeded, from a line on. If it fails, the lines go on at the wrap-up with that count in local 32
abbrev pub entry_block : List FieldDecl → ℕ → ℕ → ℕ → ℕ → CasEntry → List Line
entry_block fields kinds wrap_up base made exchange =
    lines.Let 32 (values.Is (Number made))
    ∷ (place_exchange fields (base + 1) exchange.place exchange.expected exchange.replacement wrap_up
    ++ (published_lines (base + 1 + place_size exchange.place) kinds exchange.replacement
    ++ retire_lines (base + 1 + place_size exchange.place + published_size kinds exchange.replacement) exchange.retire))

abbrev pub entry_size : ℕ → CasEntry → ℕ
entry_size kinds exchange = 1 + place_size exchange.place + published_size kinds exchange.replacement + retire_size exchange.retire

-- the end of a list of which so many have succeeded
abbrev pub list_end : ℕ → ℕ → List Line
list_end wrap_up made = lines.Let 32 (values.Is (Number made)) ∷ lines.Goto wrap_up ∷ []

-- a list of exchanges, before which so many have succeeded, from a line on. Its end goes on at the wrap-up
abbrev pub commit_block : List FieldDecl → ℕ → ℕ → ℕ → ℕ → List CasEntry → List Line
commit_block fields kinds wrap_up base made [] = list_end wrap_up made
commit_block fields kinds wrap_up base made (exchange ∷ exchanges) =
    entry_block fields kinds wrap_up base made exchange ++ commit_block fields kinds wrap_up (base + entry_size kinds exchange) (made + 1) exchanges

abbrev pub commit_size : ℕ → List CasEntry → ℕ
commit_size kinds [] = 2
commit_size kinds (exchange ∷ exchanges) = entry_size kinds exchange + commit_size kinds exchanges
