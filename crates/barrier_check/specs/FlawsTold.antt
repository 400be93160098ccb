-- What a refusal tells.
use Rattle.std.specs.Prelude.{◌≡◌, ◌≤◌, ◌<◌, ◌-◌, Bool, true, false, List, Option, Some, None, slice_index_or}
use Rattle.target_code.specs.Barred.{FlawKind, ErasesDifferently, UncheckedUse, Unguarded, GuardAfterCheck, GuardDropped, kind_number, Flaw}
use Rattle.barrier_check.specs.declared.flaw.FlawKind.{FlawKind as ToldKind}
use Rattle.barrier_check.specs.declared.flaw.FlawKind.TheVariants as told
use Rattle.barrier_check.specs.declared.flaw.Flaw.{Flaw as ToldFlaw}

-- the kind that is told
abbrev pub kind_of : ToldKind → FlawKind
kind_of told.ErasesDifferently = ErasesDifferently
kind_of told.UncheckedUse = UncheckedUse
kind_of told.Unguarded = Unguarded
kind_of told.GuardAfterCheck = GuardAfterCheck
kind_of told.GuardDropped = GuardDropped

-- and the flaw
abbrev pub flaw_of : ToldFlaw → Flaw
flaw_of flaw = record { kind = kind_of flaw.kind; op = flaw.op; wrapup = flaw.wrapup; at = flaw.at }

-- the answer for a kind of flaw that an instruction may have
abbrev pub answer_for : List Bool → FlawKind → Bool
answer_for answers kind = slice_index_or answers (kind_number kind - 2) false

-- the first kind whose answer is yes
abbrev pub IsFirstKind : List Bool → Option ToldKind → Type 0
IsFirstKind answers None = (kind : FlawKind) → 2 ≤ kind_number kind → answer_for answers kind ≡ false
IsFirstKind answers (Some found) =
    (2 ≤ kind_number (kind_of found))
    × (answer_for answers (kind_of found) ≡ true)
    × ((kind : FlawKind) → 2 ≤ kind_number kind → kind_number kind < kind_number (kind_of found) → answer_for answers kind ≡ false)
