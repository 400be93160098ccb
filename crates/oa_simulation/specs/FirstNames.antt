-- The slots of the first names.
use Rattle.std.specs.Prelude.{ℕ, nat_le, if◌then◌else◌}
use Rattle.oa_words.specs.SlotKinds.{together}
use Rattle.oa_words.specs.Starts.{first_home as node_slot}
use Rattle.caller_parts.specs.Settings.{Setting}

-- an initial node's name is its number, and its slot the one in which it stands, one of its kind; slot 0 is null's
abbrev pub first_home : Setting → ℕ → ℕ
first_home setting n = if nat_le n (together setting.nodes) then node_slot setting.sizes setting.nodes n else 0
