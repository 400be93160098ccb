-- The documents of a workload, call by call. A caller's numbers begin with one more than its own: 1, 149, 11249, 57305, 38044 of caller 0
-- (75 times each and 74, less a multiple of 65537), and 2, 224 of caller 1. A key is what a number leaves by 50, and 1000 for each caller before.
use Rattle.std.specs.Prelude.{◌≡◌, ℕ, [], ◌∷◌, map, length, codes}
use Rattle.norm_lang.specs.Shipped.{set_text}
use Rattle.norm_lang.specs.Arguments.{padded}
use Rattle.documents.specs.declared.document.ScriptCall.{ScriptCall}
use Rattle.documents.specs.declared.document.Document.{Document}
use Rattle.script_driver.specs.Workload.{workload_document}

abbrev pub insert_of : ℕ → ScriptCall
insert_of key = record { line = 0; name = codes "insert"; args = key ∷ [] }

abbrev pub contains_of : ℕ → ScriptCall
contains_of key = record { line = 0; name = codes "contains"; args = key ∷ [] }

abbrev pub remove_of : ℕ → ScriptCall
remove_of key = record { line = 0; name = codes "remove"; args = key ∷ [] }

-- two callers, of six calls each, over 4096 slots
abbrev pub first_document : Document
first_document = record {
  text = set_text 8;
  slots = 4096 ∷ [];
  first = 1;
  last = 1000000000;
  fuel = 1000000;
  scripts =
      (insert_of 1 ∷ contains_of 1 ∷ remove_of 1 ∷ contains_of 1 ∷ insert_of 49 ∷ contains_of 49 ∷ [])
      ∷ (insert_of 1002 ∷ contains_of 1002 ∷ remove_of 1002 ∷ contains_of 1002 ∷ insert_of 1024 ∷ contains_of 1024 ∷ [])
      ∷ [];
  schedule = [];
}

-- caller 0 alone, of 17 calls, over 16 slots: from the third round on the key before is another than in the first
abbrev pub second_document : Document
second_document = record {
  text = set_text 8;
  slots = 16 ∷ [];
  first = 1;
  last = 1000000000;
  fuel = 1000000;
  scripts =
      (insert_of 1 ∷ contains_of 1 ∷ remove_of 1 ∷ contains_of 1
      ∷ insert_of 49 ∷ contains_of 49 ∷ remove_of 1 ∷ contains_of 1
      ∷ insert_of 49 ∷ contains_of 49 ∷ remove_of 49 ∷ contains_of 49
      ∷ insert_of 5 ∷ contains_of 5 ∷ remove_of 49 ∷ contains_of 49
      ∷ insert_of 44 ∷ [])
      ∷ [];
  schedule = [];
}

pub record WorkloadRows : Type 0 where
  pub first_part : workload_document 1 6 2 ≡ first_document
  pub second_part : workload_document 2 17 2 ≡ second_document
  -- the first part has 2000 calls of each caller at most, the second as many as are wanted
  pub at_most : map length (workload_document 1 2001 2).scripts ≡ 2000 ∷ 2000 ∷ []
  pub all : map length (workload_document 2 2001 2).scripts ≡ 2001 ∷ []

-- a call's words: its arguments, and 0 past them
pub record PaddedRows : Type 0 where
  pub none : padded [] ≡ 0 ∷ 0 ∷ 0 ∷ 0 ∷ []
  pub three : padded (5 ∷ 6 ∷ 7 ∷ []) ≡ 5 ∷ 6 ∷ 7 ∷ 0 ∷ []
  pub four : padded (5 ∷ 6 ∷ 7 ∷ 8 ∷ []) ≡ 5 ∷ 6 ∷ 7 ∷ 8 ∷ []
