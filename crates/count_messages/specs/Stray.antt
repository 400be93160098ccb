-- The initial node that a line names and that doesn't exist: `@0`, or one past the count of nodes.
use Rattle.std.specs.Prelude.{ℕ, ◌-◌, Bool, true, false, ◌&&◌, ◌||◌, List, [], ◌∷◌, filter, find, Option, Some, None, codes, nat_lt, ◌==◌}
use Rattle.oa_text.specs.Lines.{TextLine, lines_of, numbered}
use Rattle.oa_text.specs.Tokens.{line_fault}
use Rattle.message_lines.specs.Places.{words_if, begins, number_said, count_word}

abbrev pub count_in : Option (Option ℕ) → ℕ
count_in None = 0
count_in (Some None) = 0
count_in (Some (Some n)) = n

-- how many initial nodes a `nodes` line promises, by its last word
abbrev pub promised_by : TextLine → ℕ
promised_by line = count_in (number_said (count_word line))

abbrev pub is_nodes_above : ℕ → TextLine → Bool
is_nodes_above number line = nat_lt line.number number && begins (codes "nodes") line

-- what is left of a number after what these lines promise
abbrev pub left_after : ℕ → List TextLine → ℕ
left_after left [] = left
left_after left (line ∷ lines) = left_after (left - promised_by line) lines

-- a number is greater than the count of nodes that the lines above promise
abbrev pub is_beyond : List ℕ → ℕ → ℕ → Bool
is_beyond bytes number node = nat_lt 0 (left_after node (filter (is_nodes_above number) (numbered 1 (lines_of bytes))))

-- there is no node with the number that is said
abbrev pub is_number_astray : List ℕ → ℕ → Option (Option ℕ) → Bool
is_number_astray bytes number None = false
is_number_astray bytes number (Some None) = true
is_number_astray bytes number (Some (Some node)) = (node == 0) || is_beyond bytes number node

-- a word `@J` names such a node
abbrev pub is_stray_word : List ℕ → ℕ → List ℕ → Bool
is_stray_word bytes number [] = false
is_stray_word bytes number (b ∷ word) = (b == 64) && is_number_astray bytes number (number_said word)

-- the first such word of a line
abbrev pub stray_word : List ℕ → TextLine → Option (List ℕ)
stray_word bytes line = find (is_stray_word bytes line.number) (words_if (line_fault line) line.bytes)
