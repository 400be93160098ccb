-- Worked runs, each of which breaks one condition of properness first.
use Rattle.std.specs.Prelude.{◌≡◌, ℕ, List, [], ◌∷◌, codes}
use Rattle.norm_lang.specs.declared.text.Reg.TheVariants.{Num, Ref}
use Rattle.norm_lang.specs.declared.text.Instr.TheVariants as instr
use Rattle.norm_lang.specs.declared.text.Text.{Text}
use Rattle.norm_lang.specs.LineWords.{item_kind}
use Rattle.norm_lang.specs.Shipped.{first_field, number_field, reference_field, reference_root, sentinel, root_entry, next_entry, retiring}
use Rattle.source_machine.specs.declared.event.SourceEvent.{SourceEvent}
use Rattle.source_machine.specs.declared.event.SourceEvent.TheVariants.{Access}
use Rattle.source_machine.specs.Keeper.{begins, keeper}
use Rattle.source_machine.specs.MethodRuns.{method_runs}
use Rattle.proper_judge.specs.declared.breach.Breach.{Breach}
use Rattle.proper_judge.specs.declared.breach.Breach.TheVariants.{Twice, Root, Got}
use Rattle.proper_judge.specs.Breaches.{number_of}
use Rattle.proper_judge.specs.Judging.{IsBreachAfter}

-- takes the node out of the root and retires it, and retires it again by an exchange on the node itself
abbrev pub flagger : Text
flagger = record {
  kinds = item_kind ∷ [];
  fields = number_field (codes "value") ∷ reference_field (codes "next") ∷ [];
  roots = reference_root (codes "top") 1 ∷ [];
  nodes = sentinel ∷ [];
  ops = record {
    name = codes "take";
    args = 0;
    generator =
        instr.Null (Ref 1) ∷ instr.LoadRoot (Ref 0) 0
        ∷ instr.Commit (retiring (root_entry 0 (Ref 0) (Ref 1)) (Ref 0) ∷ retiring (next_entry (Ref 0) (Ref 1) (Ref 1)) (Ref 0) ∷ []) ∷ [];
    wrapup = instr.ReturnNone ∷ [];
  } ∷ [];
}

-- node 1 in the root `top`, and node 2 in the root `spare`. `link` retires the node in `spare`, takes the other out of its root, and makes it lead
-- to the retired one; `see` loads the node in `top`, and its value
abbrev pub linker : Text
linker = record {
  kinds = item_kind ∷ [];
  fields = number_field (codes "value") ∷ reference_field (codes "next") ∷ [];
  roots = reference_root (codes "top") 1 ∷ reference_root (codes "spare") 2 ∷ [];
  nodes = sentinel ∷ sentinel ∷ [];
  ops = record {
    name = codes "link";
    args = 0;
    generator =
        instr.Null (Ref 2) ∷ instr.LoadRoot (Ref 0) 0 ∷ instr.LoadRoot (Ref 1) 1
        ∷ instr.Commit (retiring (root_entry 1 (Ref 1) (Ref 2)) (Ref 1) ∷ root_entry 0 (Ref 0) (Ref 2) ∷ next_entry (Ref 0) (Ref 2) (Ref 1) ∷ []) ∷ [];
    wrapup = instr.ReturnNone ∷ [];
  } ∷ record {
    name = codes "see";
    args = 0;
    generator = instr.LoadRoot (Ref 0) 0 ∷ instr.LoadField (Num 0) (Ref 0) first_field ∷ instr.Commit [] ∷ [];
    wrapup = instr.Return (Num 0) ∷ [];
  } ∷ [];
}

-- one call of the first operation, up to its second exchange, and one up to its first
abbrev pub flags : List SourceEvent
flags = begins 0 0 0 ∷ Access 0 0 ∷ Access 0 0 ∷ Access 0 0 ∷ []

abbrev pub drops : List SourceEvent
drops = begins 0 0 0 ∷ Access 0 0 ∷ Access 0 0 ∷ []

-- `link` by caller 0 up to its first exchange, `see` by caller 1 up to its first load, and then the second exchange
abbrev pub sees : List SourceEvent
sees = begins 0 0 0 ∷ Access 0 0 ∷ Access 0 0 ∷ Access 0 0 ∷ begins 1 1 0 ∷ Access 1 0 ∷ Access 0 0 ∷ []

-- and the third
abbrev pub links : List SourceEvent
links = begins 0 0 0 ∷ Access 0 0 ∷ Access 0 0 ∷ Access 0 0 ∷ begins 1 1 0 ∷ Access 1 0 ∷ Access 0 0 ∷ Access 0 0 ∷ []

-- the events lead to a state of which no breach is of another condition
abbrev pub IsFirst : Text → ℕ → List SourceEvent → ℕ → Type 0
IsFirst text callers events number = (breach : Breach) → IsBreachAfter text callers events breach → number_of breach ≡ number

pub record BreachRows : Type 0 where
  pub twice : IsBreachAfter flagger 1 flags Twice
  pub twice_first : IsFirst flagger 1 flags 1
  pub root : IsBreachAfter keeper 1 drops (Root 1)
  pub root_first : IsFirst keeper 1 drops 2
  pub got : IsBreachAfter linker 2 links (Got 1 2)
  pub got_first : IsFirst linker 2 links 3
  -- caller 1 has got node 1, and node 2 was retired before; of caller 0 no method runs any more
  pub seen : method_runs linker 2 sees 1 ≡ record { got = 1 ∷ []; old = 2 ∷ [] }
  pub linking : method_runs linker 2 sees 0 ≡ record { got = []; old = 2 ∷ [] }
