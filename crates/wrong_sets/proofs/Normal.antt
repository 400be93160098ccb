-- The wrong sets are in normal form: tables of their methods show it, which are the right set's if the code goes the same ways.
use Rattle.std.proofs.Common.{List, [], ◌∷◌, ◌++◌, refl}
use Rattle.std.specs.Prelude.{replicate}
use Rattle.std.specs.Fmt.{digits}
use Rattle.norm_lang.specs.declared.text.Reg.{Reg}
use Rattle.norm_lang.specs.declared.text.Reg.TheVariants.{Num, Ref}
use Rattle.closed_tables.specs.Tables.{OpTables}
use Rattle.closed_tables.proofs.Normal.{tables_show_normal}
use Rattle.set_source.proofs.Normal.{searched, rising, replies, insert_tables, remove_tables, contains_tables}
use Rattle.wrong_sets.specs.Wrong.{unmarking, moving, walking, unchecking, IsAccepted}

-- a removal of one instruction fewer than the right one: it makes no mark
abbrev unmarking_tables : OpTables
unmarking_tables = record {
  generator = record {
    may_be_fresh = [];
    surely_fresh = [];
    set = searched ((Ref 0 ∷ Ref 1 ∷ Ref 2 ∷ []) ∷ (Ref 0 ∷ Ref 1 ∷ Ref 2 ∷ Num 2 ∷ []) ∷ [] ∷ (Num 2 ∷ []) ∷ []);
    level = [];
    rank = rising (6 ∷ 7 ∷ 6 ∷ 7 ∷ []);
  };
  wrapup = replies;
}

-- from the `new` at 18 to the commit the new node is in r4
abbrev new_node : List (List Reg)
new_node = replicate 19 [] ++ ((Ref 4 ∷ []) ∷ (Ref 4 ∷ []) ∷ (Ref 4 ∷ []) ∷ [])

-- an insert with one load more than the right one
abbrev unchecking_tables : OpTables
unchecking_tables = record {
  generator = record {
    may_be_fresh = new_node;
    surely_fresh = new_node;
    set = searched (
        (Ref 0 ∷ Ref 1 ∷ [])
        ∷ (Ref 0 ∷ Ref 1 ∷ Num 2 ∷ [])
        ∷ (Ref 0 ∷ Ref 1 ∷ Ref 2 ∷ Num 2 ∷ [])
        ∷ (Ref 0 ∷ Ref 1 ∷ Ref 2 ∷ Ref 4 ∷ Num 2 ∷ [])
        ∷ (Ref 0 ∷ Ref 1 ∷ Ref 2 ∷ Ref 4 ∷ Num 2 ∷ [])
        ∷ (Ref 0 ∷ Ref 1 ∷ Ref 2 ∷ Ref 4 ∷ Num 2 ∷ [])
        ∷ []
        ∷ (Num 2 ∷ [])
        ∷ []);
    level = replicate 19 0 ++ (1 ∷ 1 ∷ 1 ∷ 0 ∷ 0 ∷ []);
    rank = rising (6 ∷ 7 ∷ 8 ∷ 9 ∷ 10 ∷ 11 ∷ 6 ∷ 7 ∷ []);
  };
  wrapup = replies;
}

pub unmarking_is_accepted : IsAccepted unmarking
unfolding digits
unmarking_is_accepted = (refl, tables_show_normal unmarking (insert_tables ∷ unmarking_tables ∷ contains_tables ∷ []) refl)

pub moving_is_accepted : IsAccepted moving
unfolding digits
moving_is_accepted = (refl, tables_show_normal moving (insert_tables ∷ remove_tables ∷ contains_tables ∷ []) refl)

pub walking_is_accepted : IsAccepted walking
unfolding digits
walking_is_accepted = (refl, tables_show_normal walking (insert_tables ∷ remove_tables ∷ contains_tables ∷ []) refl)

pub unchecking_is_accepted : IsAccepted unchecking
unfolding digits
unchecking_is_accepted = (refl, tables_show_normal unchecking (unchecking_tables ∷ remove_tables ∷ contains_tables ∷ []) refl)
