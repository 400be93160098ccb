-- The rows of loads and local instructions, each computed from the machine's definitions.
use Rattle.std.specs.Prelude.{refl}
use Rattle.norm_lang.specs.declared.text.Instr.TheVariants.{IfEq, IfMarked}
use Rattle.norm_lang.specs.declared.reply.SourceReply.TheVariants as replies
use Rattle.worked_rows.specs.Small.{r0, r1, r2}
use Rattle.worked_rows.specs.Runs.{Replies, decides}
use Rattle.worked_rows.specs.ValueRows.{loads_number, loads_reference, loads_through_mark, picks_number, takes_five, adds_two, divides_by_five, moves_number, marked_and_copied, marked_and_unmarked, jumps_over, compares_with_five, ValueRows}

number_through_null : Replies loads_number 0 2 (replies.Number 0)
number_through_null = refl

reference_through_null : Replies loads_reference 0 3 (replies.Number 2)
reference_through_null = refl

number_through_mark : Replies loads_through_mark 0 3 (replies.Number 4)
number_through_mark = refl

picks_first : Replies picks_number 3 2 (replies.Number 10)
picks_first = refl

picks_second : Replies picks_number 4 2 (replies.Number 20)
picks_second = refl

picks_third : Replies picks_number 5 2 (replies.Number 30)
picks_third = refl

difference : Replies takes_five 7 1 (replies.Number 2)
difference = refl

difference_below_zero : Replies takes_five 3 1 (replies.Number 18446744073709551614)
difference_below_zero = refl

sum : Replies adds_two 7 1 (replies.Number 9)
sum = refl

sum_past_the_last : Replies adds_two 18446744073709551615 1 (replies.Number 1)
sum_past_the_last = refl

remainder_by_five : Replies divides_by_five 17 1 (replies.Number 2)
remainder_by_five = refl

number_moved : Replies moves_number 5 1 (replies.Number 5)
number_moved = refl

reference_moved : Replies (decides marked_and_copied (IfEq r2 r1)) 0 2 (replies.Number 2)
reference_moved = refl

mark_moved : Replies (decides marked_and_copied (IfMarked r2)) 0 2 (replies.Number 2)
mark_moved = refl

mark_taken : Replies (decides marked_and_unmarked (IfMarked r2)) 0 2 (replies.Number 1)
mark_taken = refl

node_left : Replies (decides marked_and_unmarked (IfEq r2 r0)) 0 2 (replies.Number 2)
node_left = refl

marks_compared : Replies (decides marked_and_copied (IfEq r0 r1)) 0 2 (replies.Number 1)
marks_compared = refl

jumped : Replies jumps_over 0 1 (replies.Number 1)
jumped = refl

less : Replies compares_with_five 4 1 (replies.Number 2)
less = refl

same_isnt_less : Replies compares_with_five 5 1 (replies.Number 1)
same_isnt_less = refl

more_isnt_less : Replies compares_with_five 6 1 (replies.Number 1)
more_isnt_less = refl

pub value_rows : ValueRows
value_rows = record {
  number_through_null = number_through_null;
  reference_through_null = reference_through_null;
  number_through_mark = number_through_mark;
  picks_first = picks_first;
  picks_second = picks_second;
  picks_third = picks_third;
  difference = difference;
  difference_below_zero = difference_below_zero;
  sum = sum;
  sum_past_the_last = sum_past_the_last;
  remainder_by_five = remainder_by_five;
  number_moved = number_moved;
  reference_moved = reference_moved;
  mark_moved = mark_moved;
  mark_taken = mark_taken;
  node_left = node_left;
  marks_compared = marks_compared;
  jumped = jumped;
  less = less;
  same_isnt_less = same_isnt_less;
  more_isnt_less = more_isnt_less;
}
