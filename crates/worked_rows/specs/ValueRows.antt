-- Rows of the source machine: what loads find, and what local instructions compute.
use Rattle.std.specs.Prelude.{List, [], ◌∷◌}
use Rattle.norm_lang.specs.declared.text.Instr.{Instr}
use Rattle.norm_lang.specs.declared.text.Instr.TheVariants.{Set, Mov, Add, Sub, Rem, Null, Mark, Unmark, LoadRoot, LoadPick, LoadField, Jump, IfEq, IfLess, IfMarked, Commit, Return}
use Rattle.norm_lang.specs.declared.text.Text.{Text}
use Rattle.norm_lang.specs.declared.reply.SourceReply.TheVariants as replies
use Rattle.worked_rows.specs.Small.{n0, n1, n2, r0, r1, r2, key, next, first, ten, small}
use Rattle.worked_rows.specs.Runs.{Replies, decides}

-- a number that was 7 is loaded through null
abbrev pub loads_number : Text
loads_number = small (Set n1 7 ∷ Null r0 ∷ LoadField n1 r0 key ∷ Commit [] ∷ []) (Return n1 ∷ [])

-- a reference that was to the first node is loaded through null, and compared with null
abbrev pub loads_reference : Text
loads_reference = decides (Null r0 ∷ LoadRoot r1 first ∷ LoadField r1 r0 next ∷ []) (IfEq r1 r0)

-- the first node's key is loaded by a reference with a mark
abbrev pub loads_through_mark : Text
loads_through_mark = small (LoadRoot r0 first ∷ Mark r1 r0 ∷ LoadField n1 r1 key ∷ Commit [] ∷ []) (Return n1 ∷ [])

-- one of the roots 10, 20 and 30 is picked
abbrev pub picks_number : Text
picks_number = small (LoadPick n1 ten 3 n0 ∷ Commit [] ∷ []) (Return n1 ∷ [])

-- the argument less 5, with 2 added, and divided by 5
abbrev pub takes_five : Text
takes_five = small (Set n1 5 ∷ Sub n2 n0 n1 ∷ Commit [] ∷ []) (Return n2 ∷ [])

abbrev pub adds_two : Text
adds_two = small (Set n1 2 ∷ Add n2 n0 n1 ∷ Commit [] ∷ []) (Return n2 ∷ [])

abbrev pub divides_by_five : Text
divides_by_five = small (Rem n1 n0 5 ∷ Commit [] ∷ []) (Return n1 ∷ [])

-- a register that was 9 becomes the argument
abbrev pub moves_number : Text
moves_number = small (Set n1 9 ∷ Mov n1 n0 ∷ Commit [] ∷ []) (Return n1 ∷ [])

-- r1 is the first node with a mark, r2 a copy of it, and r2 without the mark
abbrev pub marked_and_copied : List Instr
marked_and_copied = LoadRoot r0 first ∷ Mark r1 r0 ∷ Mov r2 r1 ∷ []

abbrev pub marked_and_unmarked : List Instr
marked_and_unmarked = LoadRoot r0 first ∷ Mark r1 r0 ∷ Unmark r2 r1 ∷ []

-- a jump over an instruction
abbrev pub jumps_over : Text
jumps_over = small (Set n1 1 ∷ Jump 3 ∷ Set n1 2 ∷ Commit [] ∷ []) (Return n1 ∷ [])

-- the argument is less than 5
abbrev pub compares_with_five : Text
compares_with_five = decides (Set n2 5 ∷ []) (IfLess n0 n2)

pub record ValueRows : Type 0 where
  -- a load through null gives 0 or null, whatever the register held
  pub number_through_null : Replies loads_number 0 2 (replies.Number 0)
  pub reference_through_null : Replies loads_reference 0 3 (replies.Number 2)
  -- the mark of a base is ignored
  pub number_through_mark : Replies loads_through_mark 0 3 (replies.Number 4)
  -- a pick takes the root that stands the remainder of its index after the first: 3, 4 and 5 by 3
  pub picks_first : Replies picks_number 3 2 (replies.Number 10)
  pub picks_second : Replies picks_number 4 2 (replies.Number 20)
  pub picks_third : Replies picks_number 5 2 (replies.Number 30)
  -- sums and differences are modulo 2^64
  pub difference : Replies takes_five 7 1 (replies.Number 2)
  pub difference_below_zero : Replies takes_five 3 1 (replies.Number 18446744073709551614)
  pub sum : Replies adds_two 7 1 (replies.Number 9)
  pub sum_past_the_last : Replies adds_two 18446744073709551615 1 (replies.Number 1)
  -- 17 is 3 times 5 and 2
  pub remainder_by_five : Replies divides_by_five 17 1 (replies.Number 2)
  -- a copy of a number; and one of a reference, mark included
  pub number_moved : Replies moves_number 5 1 (replies.Number 5)
  pub reference_moved : Replies (decides marked_and_copied (IfEq r2 r1)) 0 2 (replies.Number 2)
  pub mark_moved : Replies (decides marked_and_copied (IfMarked r2)) 0 2 (replies.Number 2)
  -- without its mark it is the same node again
  pub mark_taken : Replies (decides marked_and_unmarked (IfMarked r2)) 0 2 (replies.Number 1)
  pub node_left : Replies (decides marked_and_unmarked (IfEq r2 r0)) 0 2 (replies.Number 2)
  -- references are equal with the same mark alone
  pub marks_compared : Replies (decides marked_and_copied (IfEq r0 r1)) 0 2 (replies.Number 1)
  pub jumped : Replies jumps_over 0 1 (replies.Number 1)
  -- 4 is less than 5, and 5 and 6 aren't
  pub less : Replies compares_with_five 4 1 (replies.Number 2)
  pub same_isnt_less : Replies compares_with_five 5 1 (replies.Number 1)
  pub more_isnt_less : Replies compares_with_five 6 1 (replies.Number 1)
