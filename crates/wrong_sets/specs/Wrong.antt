-- Wrong texts of a set of one bucket.
use Rattle.std.specs.Prelude.{ℕ, List, [], ◌∷◌, ◌++◌, codes}
use Rattle.norm_lang.specs.declared.text.Reg.TheVariants.{Num, Ref}
use Rattle.norm_lang.specs.declared.text.Instr.{Instr}
use Rattle.norm_lang.specs.declared.text.Instr.TheVariants as instr
use Rattle.norm_lang.specs.declared.text.Text.{Text}
use Rattle.norm_lang.specs.Limits.{IsWithinLimits}
use Rattle.norm_lang.specs.NormalForm.{IsNormal}
use Rattle.norm_lang.specs.Shipped.{first_field, next_field, next_entry, retiring, search_code, answer_code, insert_code, remove_code, change_wrap_up, insert_op, remove_op, contains_op, set_text}
use Rattle.source_machine.specs.Proper.{IsProper}

-- a removal takes its node out without a mark
abbrev pub unmarking : Text
unmarking = record (set_text 1) {
  ops =
      insert_op 1
      ∷ record {
        name = codes "remove";
        args = 1;
        generator = search_code 1 18 16 ++ (instr.Set (Num 2) 1 ∷ instr.Commit (retiring (next_entry (Ref 0) (Ref 1) (Ref 2)) (Ref 1) ∷ []) ∷ answer_code 0);
        wrapup = change_wrap_up;
      }
      ∷ contains_op 1
      ∷ [];
}

-- the search walks over marked references
abbrev pub walking_code : ℕ → ℕ → List Instr
walking_code absent present =
    instr.Null (Ref 5)
    ∷ instr.LoadPick (Ref 0) 0 1 (Num 0)
    ∷ instr.LoadField (Ref 1) (Ref 0) next_field
    ∷ instr.IfEq (Ref 1) (Ref 5) absent
    ∷ instr.LoadField (Ref 2) (Ref 1) next_field
    ∷ instr.IfMarked (Ref 2) 6
    ∷ instr.LoadField (Num 1) (Ref 1) first_field
    ∷ instr.IfLess (Num 0) (Num 1) absent
    ∷ instr.IfEq (Num 0) (Num 1) present
    ∷ instr.Mov (Ref 0) (Ref 1)
    ∷ instr.Mov (Ref 1) (Ref 2)
    ∷ instr.Jump 3
    ∷ instr.Unmark (Ref 3) (Ref 2)
    ∷ instr.Cas (retiring (next_entry (Ref 0) (Ref 1) (Ref 3)) (Ref 1)) 1
    ∷ instr.Mov (Ref 1) (Ref 3)
    ∷ instr.Jump 3
    ∷ []

abbrev pub walking : Text
walking = record (set_text 1) {
  ops =
      record { name = codes "insert"; args = 1; generator = walking_code 16 21 ++ (insert_code ++ answer_code 0); wrapup = change_wrap_up }
      ∷ record { name = codes "remove"; args = 1; generator = walking_code 19 16 ++ (remove_code ++ answer_code 0); wrapup = change_wrap_up }
      ∷ record { name = codes "contains"; args = 1; generator = walking_code 18 16 ++ (answer_code 1 ++ answer_code 0); wrapup = instr.Return (Num 2) ∷ [] }
      ∷ [];
}

-- a removal's first exchange writes what it found
abbrev pub moving : Text
moving = record (set_text 1) {
  ops =
      insert_op 1
      ∷ record {
        name = codes "remove";
        args = 1;
        generator = search_code 1 19 16 ++ ((
            instr.Mov (Ref 6) (Ref 2)
            ∷ instr.Set (Num 2) 1
            ∷ instr.Commit (next_entry (Ref 1) (Ref 2) (Ref 6) ∷ retiring (next_entry (Ref 0) (Ref 1) (Ref 2)) (Ref 1) ∷ [])
            ∷ []) ++ answer_code 0);
        wrapup = change_wrap_up;
      }
      ∷ contains_op 1
      ∷ [];
}

abbrev pub MovingIsImproper : Type 0
MovingIsImproper = ¬ IsProper moving

-- an insert links in front of the node after the one that its exchange expects
abbrev pub unchecking : Text
unchecking = record (set_text 1) {
  ops =
      record {
        name = codes "insert";
        args = 1;
        generator = search_code 1 16 22 ++ ((
            instr.Set (Num 2) 1
            ∷ instr.LoadField (Ref 2) (Ref 1) next_field
            ∷ instr.New (Ref 4) 0
            ∷ instr.Put (Ref 4) first_field (Num 0)
            ∷ instr.Put (Ref 4) next_field (Ref 2)
            ∷ instr.Commit (next_entry (Ref 0) (Ref 1) (Ref 4) ∷ [])
            ∷ []) ++ answer_code 0);
        wrapup = change_wrap_up;
      }
      ∷ remove_op 1
      ∷ contains_op 1
      ∷ [];
}

abbrev pub UnmarkingIsImproper : Type 0
UnmarkingIsImproper = ¬ IsProper unmarking

abbrev pub WalkingIsImproper : Type 0
WalkingIsImproper = ¬ IsProper walking

abbrev pub UncheckingIsImproper : Type 0
UncheckingIsImproper = ¬ IsProper unchecking

-- the rules accept a text: it is within the limits of texts, and in normal form
abbrev pub IsAccepted : Text → Type 0
IsAccepted text = IsWithinLimits text × IsNormal text
