-- The words at the start of a row, in three parts, as they are put one after another.
use Rattle.std.specs.Prelude.{ℕ, ◌*◌, List, [], ◌∷◌, ◌++◌, Option, option_map, length, map, replicate}
use Rattle.norm_lang.specs.declared.text.NodeDecl.{NodeDecl}
use Rattle.target_code.specs.declared.target.Target.{Target}
use Rattle.oa_words.specs.Words.{slot_rows}
use Rattle.oa_words.specs.Starts.{Beginning, first_home, start_row, start_statuses, start_rows, start_heads, start_links}
use Rattle.caller_parts.specs.Settings.{Setting, first_warning}
use Rattle.core_runs.specs.Machine.{node_words, root_word}

-- the slot of an initial node: those of a kind stand in its first slots
abbrev pub home_in : Setting → ℕ → ℕ
home_in setting j = first_home setting.sizes setting.nodes j

-- what the row begins with, by the setting's counts of initial nodes
abbrev pub start_of : Target → Setting → Beginning
start_of target setting = record {
  first = setting.first;
  warnings = first_warning setting.reclamation setting.first;
  nodes = map (node_words (home_in setting)) target.nodes;
  counts = setting.nodes;
  cells = map (root_word (home_in setting)) target.roots;
}

-- the same without the words of nodes and cells, for the words that say nothing of them
abbrev pub bare_start : Setting → Beginning
bare_start setting = record { first = setting.first; warnings = first_warning setting.reclamation setting.first; nodes = []; counts = setting.nodes; cells = [] }

-- the fields of a slot with an initial node, or without one
abbrev pub node_row : Setting → Option NodeDecl → List ℕ
node_row setting node = start_row setting.sizes.fields (option_map (node_words (home_in setting)) node)

-- the first phase, and the words of callers: no place is taken, each warning is as the scheme begins it, no hazard is published
abbrev pub caller_words : Setting → List ℕ
caller_words setting =
    setting.first
    ∷ (replicate setting.sizes.callers 0 ++ (replicate setting.sizes.callers (first_warning setting.reclamation setting.first) ++ replicate (8 * setting.sizes.callers) 0))

-- the statuses and the fields of all slots, and the cells
abbrev pub slot_words : Target → Setting → List ℕ
slot_words target setting =
    start_statuses setting.sizes (bare_start setting) 0 (slot_rows setting.sizes)
    ++ (start_rows setting.sizes (start_of target setting) 0 (slot_rows setting.sizes)
    ++ map (root_word (home_in setting)) target.roots)

-- the head of each kind, which names its least slot without an initial node, and the link of each slot
abbrev pub pool_words : Setting → List ℕ
pool_words setting =
    start_heads setting.sizes (bare_start setting) 0 (length setting.sizes.kinds)
    ++ start_links setting.sizes (bare_start setting) 0 (slot_rows setting.sizes)
