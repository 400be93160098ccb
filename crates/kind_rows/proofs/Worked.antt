-- The rows of N15. What shows that a register may have a kind is the path, the latest place first, and a step of it for each place.
use Rattle.std.proofs.Common.{◌≡◌, ◌≢◌, ℕ, zero, suc, inl, inr, ⊎_elim, true, false, List, [], ◌∷◌, length, Some, refl, subst, arith}
use Rattle.std.specs.Prelude.{nat_lt, slice_get}
use Rattle.std.proofs.lemmas.Bool.{ltb-true}
use Rattle.norm_lang.specs.declared.text.Instr.{Instr}
use Rattle.norm_lang.specs.declared.text.Instr.TheVariants as instr
use Rattle.norm_lang.specs.Flow.{IsPath, IsSuccessor, goes_from}
use Rattle.norm_lang.specs.NormalForm.{N10, N13, N15, Breaks}
use Rattle.norm_lang.specs.Kinds.{none_held, CommitPath, HasOtherKind, kinds_along}
use Rattle.kind_rows.specs.Rows.{n0, r0, r1, item, pair, fields, a, b, four_roots, does, over, GeneratorBreaks, WrapUpBreaks, gives_item, item_for_pair, expects_item, commits_item, puts_item, exchanges, follows_other, loads_by_two_paths, compares_two_kinds, moves_and_puts, turns_twice, commits_with_item, moves_kept, reaches_none, loads_other, MixedKindRows, AcceptedRows}

-- a step from one place to the next
step : (code : List Instr) (at to : ℕ) → goes_from (slice_get code at) at to ≡ true → nat_lt to (length code) ≡ true → IsSuccessor code at to
step code at to goes there = (goes, ltb-true to (length code) there)

impossible : false ≡ true → ⊥
impossible e = cc

item_or_pair : item ≢ pair
item_or_pair is = omega (arith, is)

pair_or_item : pair ≢ item
pair_or_item is = omega (arith, is)

given : Breaks item_for_pair (record { rule = N15; op = 0; wrapup = false; at = 2 })
given = inr (record {
  register = 0;
  asked = pair;
  kind = item;
  asks_it = refl;
  may = record { start = none_held; starts = refl; path = 1 ∷ 0 ∷ []; leads = (step gives_item 1 2 refl refl, (step gives_item 0 1 refl refl, refl)); has = refl };
  differs = item_or_pair;
})

load_of_root : ¬ Breaks item_for_pair (record { rule = N15; op = 0; wrapup = false; at = 0 })
load_of_root breaks = ⊎_elim (λ several. impossible several) (λ (other : HasOtherKind item_for_pair (does gives_item (instr.ReturnNone ∷ [])) false 0 (instr.LoadRoot r0 a)). impossible other.asks_it) breaks

null : ¬ Breaks item_for_pair (record { rule = N15; op = 0; wrapup = false; at = 1 })
null breaks = ⊎_elim (λ several. impossible several) (λ (other : HasOtherKind item_for_pair (does gives_item (instr.ReturnNone ∷ [])) false 1 (instr.Null r1)). impossible other.asks_it) breaks

expected : GeneratorBreaks expects_item N15 2
expected = inr (record {
  register = 0;
  asked = pair;
  kind = item;
  asks_it = refl;
  may = record { start = none_held; starts = refl; path = 1 ∷ 0 ∷ []; leads = (step expects_item 1 2 refl refl, (step expects_item 0 1 refl refl, refl)); has = refl };
  differs = item_or_pair;
})

committed : GeneratorBreaks commits_item N15 2
committed = inr (record {
  register = 0;
  asked = pair;
  kind = item;
  asks_it = refl;
  may = record { start = none_held; starts = refl; path = 1 ∷ 0 ∷ []; leads = (step commits_item 1 2 refl refl, (step commits_item 0 1 refl refl, refl)); has = refl };
  differs = item_or_pair;
})

put : GeneratorBreaks puts_item N15 2
put = inr (record {
  register = 1;
  asked = pair;
  kind = item;
  asks_it = refl;
  may = record { start = none_held; starts = refl; path = 1 ∷ 0 ∷ []; leads = (step puts_item 1 2 refl refl, (step puts_item 0 1 refl refl, refl)); has = refl };
  differs = item_or_pair;
})

object : GeneratorBreaks (exchanges b r0 r1 r1) N15 2
object = inr (record {
  register = 0;
  asked = item;
  kind = pair;
  asks_it = refl;
  may = record { start = none_held; starts = refl; path = 1 ∷ 0 ∷ []; leads = (step (exchanges b r0 r1 r1) 1 2 refl refl, (step (exchanges b r0 r1 r1) 0 1 refl refl, refl)); has = refl };
  differs = pair_or_item;
})

field_expected : GeneratorBreaks (exchanges a r0 r0 r1) N15 2
field_expected = inr (record {
  register = 0;
  asked = pair;
  kind = item;
  asks_it = refl;
  may = record { start = none_held; starts = refl; path = 1 ∷ 0 ∷ []; leads = (step (exchanges a r0 r0 r1) 1 2 refl refl, (step (exchanges a r0 r0 r1) 0 1 refl refl, refl)); has = refl };
  differs = item_or_pair;
})

field_given : GeneratorBreaks (exchanges a r0 r1 r0) N15 2
field_given = inr (record {
  register = 0;
  asked = pair;
  kind = item;
  asks_it = refl;
  may = record { start = none_held; starts = refl; path = 1 ∷ 0 ∷ []; leads = (step (exchanges a r0 r1 r0) 1 2 refl refl, (step (exchanges a r0 r1 r0) 0 1 refl refl, refl)); has = refl };
  differs = item_or_pair;
})

followed : GeneratorBreaks follows_other N15 2
followed = inr (record {
  register = 1;
  asked = item;
  kind = pair;
  asks_it = refl;
  may = record { start = none_held; starts = refl; path = 1 ∷ 0 ∷ []; leads = (step follows_other 1 2 refl refl, (step follows_other 0 1 refl refl, refl)); has = refl };
  differs = pair_or_item;
})

by_two_paths : GeneratorBreaks loads_by_two_paths N15 3
by_two_paths = inr (record {
  register = 0;
  asked = item;
  kind = pair;
  asks_it = refl;
  may = record { start = none_held; starts = refl; path = 2 ∷ 1 ∷ 0 ∷ []; leads = (step loads_by_two_paths 2 3 refl refl, (step loads_by_two_paths 1 2 refl refl, (step loads_by_two_paths 0 1 refl refl, refl))); has = refl };
  differs = pair_or_item;
})

moved : GeneratorBreaks moves_and_puts N15 2
moved = inr (record {
  register = 1;
  asked = pair;
  kind = item;
  asks_it = refl;
  may = record { start = none_held; starts = refl; path = 1 ∷ 0 ∷ []; leads = (step moves_and_puts 1 2 refl refl, (step moves_and_puts 0 1 refl refl, refl)); has = refl };
  differs = item_or_pair;
})

second_turn : GeneratorBreaks turns_twice N15 1
second_turn = inr (record {
  register = 0;
  asked = item;
  kind = pair;
  asks_it = refl;
  may = record {
    start = none_held;
    starts = refl;
    path = 3 ∷ 2 ∷ 1 ∷ 0 ∷ [];
    leads = (step turns_twice 3 1 refl refl, (step turns_twice 2 3 refl refl, (step turns_twice 1 2 refl refl, (step turns_twice 0 1 refl refl, refl))));
    has = refl;
  };
  differs = pair_or_item;
})

in_range : ¬ GeneratorBreaks (instr.LoadPick r0 a 2 n0 ∷ instr.Commit [] ∷ []) N13 0
in_range e = impossible e

one_node_kind : ¬ GeneratorBreaks (instr.LoadPick r0 b 2 n0 ∷ instr.Commit [] ∷ []) N15 0
one_node_kind breaks = ⊎_elim
    (λ several. impossible several)
    (λ (other : HasOtherKind (over four_roots (instr.LoadPick r0 b 2 n0 ∷ instr.Commit [] ∷ []) (instr.ReturnNone ∷ [])) (does (instr.LoadPick r0 b 2 n0 ∷ instr.Commit [] ∷ []) (instr.ReturnNone ∷ [])) false 0 (instr.LoadPick r0 b 2 n0)). impossible other.asks_it)
    breaks

kept_moved : WrapUpBreaks commits_with_item moves_kept N10 1
kept_moved = (refl, (r0, refl, (refl, (1, refl, (0 ∷ [], (step moves_kept 0 1 refl refl, refl), refl)))))

before_the_move : WrapUpBreaks commits_with_item moves_kept N15 0
before_the_move = inr (record {
  register = 1;
  asked = pair;
  kind = item;
  asks_it = refl;
  may = record {
    start = kinds_along fields four_roots none_held commits_with_item (0 ∷ []);
    starts = inr (record { at = 1; entries = []; stands = refl; path = 0 ∷ []; leads = (step commits_with_item 0 1 refl refl, refl) }, refl);
    path = 2 ∷ 1 ∷ 0 ∷ [];
    leads = (step moves_kept 2 0 refl refl, (step moves_kept 1 2 refl refl, (step moves_kept 0 1 refl refl, refl)));
    has = refl;
  };
  differs = item_or_pair;
})

without_commit : WrapUpBreaks reaches_none loads_other N15 1
without_commit = inr (record {
  register = 0;
  asked = pair;
  kind = item;
  asks_it = refl;
  may = record { start = none_held; starts = inl refl; path = 0 ∷ []; leads = (step loads_other 0 1 refl refl, refl); has = refl };
  differs = item_or_pair;
})

pub mixed_kind_rows : MixedKindRows
mixed_kind_rows = record {
  given = given;
  load_of_root = load_of_root;
  null = null;
  expected = expected;
  committed = committed;
  put = put;
  object = object;
  field_expected = field_expected;
  field_given = field_given;
  followed = followed;
  by_two_paths = by_two_paths;
  moved = moved;
  second_turn = second_turn;
  pick_of_two = inl refl;
  in_range = in_range;
  pick_beside_number = refl;
  one_node_kind = one_node_kind;
  pick_past_number = inl refl;
  kept_moved = kept_moved;
  before_the_move = before_the_move;
  without_commit = without_commit;
}

compared : ¬ GeneratorBreaks compares_two_kinds N15 2
compared breaks = ⊎_elim
    (λ several. impossible several)
    (λ (other : HasOtherKind (over four_roots compares_two_kinds (instr.ReturnNone ∷ [])) (does compares_two_kinds (instr.ReturnNone ∷ [])) false 2 (instr.IfEq r0 r1 3)). impossible other.asks_it)
    breaks

-- no place goes on to the commit
never_there : (from : ℕ) → goes_from (slice_get reaches_none from) from 2 ≡ true → ⊥
never_there (suc (suc zero)) goes = impossible goes
never_there _ goes = impossible goes

no_commit_at : (at : ℕ) (path : List ℕ) → IsPath reaches_none path at → at ≡ 2 → ⊥
no_commit_at at [] leads is = omega (arith, leads, is)
no_commit_at at (from ∷ path) leads is = never_there from (subst (λ (to : ℕ). goes_from (slice_get reaches_none from) from to ≡ true) is leads.0.0)

commit_place : (at : ℕ) (entries : List _) → slice_get reaches_none at ≡ Some (instr.Commit entries) → at ≡ 2
commit_place (suc (suc zero)) entries is = refl
commit_place _ entries is = cc

no_commit : ¬ CommitPath reaches_none
no_commit c = no_commit_at c.at c.path c.leads (commit_place c.at c.entries c.stands)

pub accepted_rows : AcceptedRows
accepted_rows = record {
  compared = compared;
  of_null = λ t. refl;
  new_number = refl;
  moved_number = refl;
  of_number = λ t. refl;
  beside = refl;
  first_root = refl;
  second_root = refl;
  marked = λ held t. refl;
  unmarked = λ held t. refl;
  number_put = λ t. refl;
  past_the_last = refl;
  no_other = refl;
  without_commits_kinds = λ t. refl;
  no_commit = no_commit;
  starts_with_none = inl refl;
  set_anew = λ held. refl;
}
