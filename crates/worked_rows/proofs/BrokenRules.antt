-- The rows of the normal form. What shows that a rule over paths is broken is the path, the latest place first, and a step of it
-- for each place.
use Rattle.std.specs.Prelude.{◌≡◌, ℕ, true, false, List, [], ◌∷◌, length, nat_lt, slice_get, refl}
use Rattle.std.proofs.Common.{inl, inr}
use Rattle.std.proofs.lemmas.Bool.{ltb-true}
use Rattle.norm_lang.specs.declared.text.Instr.{Instr}
use Rattle.norm_lang.specs.declared.text.Instr.TheVariants.{LoadPick, Cas, Commit, Set, ReturnNone}
use Rattle.norm_lang.specs.Shipped.{root_entry, retiring}
use Rattle.norm_lang.specs.Flow.{IsSuccessor, goes_from}
use Rattle.norm_lang.specs.PathRules.{exchanges}
use Rattle.norm_lang.specs.NormalForm.{N3, N4, N6, N8, N11, N12, N13, Breaks}
use Rattle.worked_rows.specs.Small.{n0, n1, r0, r1, first, none, ten, thirty, small}
use Rattle.worked_rows.specs.NormalFormRows.{GeneratorBreaks, WrapUpBreaks, makes_node, shows_and_keeps, reads_kept, expects_kept, gives_kept, retires_kept, retires_object, commits_object, retires_new_operand, retires_number, NormalFormRows}

-- a step from one place to the next
step : (code : List Instr) (at to : ℕ) → goes_from (slice_get code at) at to ≡ true → nat_lt to (length code) ≡ true → IsSuccessor code at to
step code at to goes there = (goes, ltb-true to (length code) there)

impossible : false ≡ true → ⊥
impossible e = cc

new_in_wrap_up : WrapUpBreaks makes_node N3 0
new_in_wrap_up = inl refl

put_in_wrap_up : WrapUpBreaks makes_node N4 1
put_in_wrap_up = inl refl

commit_in_wrap_up : WrapUpBreaks (Commit [] ∷ []) N8 0
commit_in_wrap_up = refl

reply_in_wrap_up : ¬ WrapUpBreaks (ReturnNone ∷ []) N8 0
reply_in_wrap_up e = impossible e

end_of_wrap_up : WrapUpBreaks (Set n1 5 ∷ []) N8 0
end_of_wrap_up = refl

kept_while_fresh : Breaks (small shows_and_keeps reads_kept) (record { rule = N6; op = 0; wrapup = false; at = 2 })
kept_while_fresh =
    inr (refl, (r0, (refl, (0, refl, ([], refl, refl))), (1 ∷ 0 ∷ [], (step shows_and_keeps 1 2 refl refl, (step shows_and_keeps 0 1 refl refl, refl)), refl)))

kept_expected : WrapUpBreaks expects_kept N11 1
kept_expected = (refl, (r0, refl, (refl, (1, refl, (0 ∷ [], (step expects_kept 0 1 refl refl, refl), refl)))))

kept_given : WrapUpBreaks gives_kept N11 1
kept_given = (refl, (r0, refl, (refl, (1, refl, (0 ∷ [], (step gives_kept 0 1 refl refl, refl), refl)))))

kept_retired : exchanges r0 (Cas (retiring (root_entry first r1 r1) r0) 2) ≡ false
kept_retired = refl

stranger_retired : WrapUpBreaks retires_kept N12 1
stranger_retired = refl

object_retired : ¬ GeneratorBreaks retires_object N12 3
object_retired e = impossible e

object_retired_at_commit : ¬ GeneratorBreaks commits_object N12 3
object_retired_at_commit e = impossible e

new_operand_retired : GeneratorBreaks retires_new_operand N12 3
new_operand_retired = refl

number_retired : GeneratorBreaks retires_number N12 1
number_retired = refl

pick_of_two_kinds : GeneratorBreaks (LoadPick r0 none 2 n0 ∷ Commit [] ∷ []) N13 0
pick_of_two_kinds = refl

pick_past_the_last : GeneratorBreaks (LoadPick n1 thirty 2 n0 ∷ Commit [] ∷ []) N13 0
pick_past_the_last = refl

pick_of_the_last : ¬ GeneratorBreaks (LoadPick n1 ten 3 n0 ∷ Commit [] ∷ []) N13 0
pick_of_the_last e = impossible e

pub normal_form_rows : NormalFormRows
normal_form_rows = record {
  new_in_wrap_up = new_in_wrap_up;
  put_in_wrap_up = put_in_wrap_up;
  commit_in_wrap_up = commit_in_wrap_up;
  reply_in_wrap_up = reply_in_wrap_up;
  end_of_wrap_up = end_of_wrap_up;
  kept_while_fresh = kept_while_fresh;
  kept_expected = kept_expected;
  kept_given = kept_given;
  kept_retired = kept_retired;
  stranger_retired = stranger_retired;
  object_retired = object_retired;
  object_retired_at_commit = object_retired_at_commit;
  new_operand_retired = new_operand_retired;
  number_retired = number_retired;
  pick_of_two_kinds = pick_of_two_kinds;
  pick_past_the_last = pick_past_the_last;
  pick_of_the_last = pick_of_the_last;
}
