-- What tables over the places of a method say.
use Rattle.std.specs.Prelude.{◌≡◌, ℕ, Bool, List, Some, slice_get, IsTrue}
use Rattle.norm_lang.specs.declared.text.Instr.{Instr}
use Rattle.norm_lang.specs.declared.text.Text.{Text}
use Rattle.norm_lang.specs.Flow.{goes_to, IsPath, state_along}
use Rattle.norm_lang.specs.NormalForm.{IsNormal}
use Rattle.closed_tables.specs.Tables.{OpTables, tables_show}

-- A table says which of two states may come at each place. One that has the start, and has after each instruction what
-- comes of each state that it has before, has the state after every path
abbrev pub TablesHold : Type 0
TablesHold =
    (after : Instr → Bool → Bool) (start : Bool) (code : List Instr) (table : ℕ → Bool → Bool)
    → IsTrue (table 0 start)
    → ((at next : ℕ) (i : Instr) (state : Bool) → slice_get code at ≡ Some i → IsTrue (goes_to i at next) → IsTrue (table at state) → IsTrue (table next (after i state)))
    → (path : List ℕ) (to : ℕ) → IsPath code path to → IsTrue (table to (state_along after start code path))

-- a text of which some tables show that it keeps the rules is in normal form
abbrev pub TablesShowNormal : Type 0
TablesShowNormal = (text : Text) (tables : List OpTables) → IsTrue (tables_show text tables) → IsNormal text
