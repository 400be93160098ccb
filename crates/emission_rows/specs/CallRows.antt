-- Calls of the stack by a caller that is told its words, in a pool with five slots whose heads are told by 16: the second caller of two. Each access has
-- its word in the same place of the list.
use Rattle.std.specs.Prelude.{◌≡◌, ℕ, List, [], ◌∷◌}
use Rattle.oa_words.specs.Words.{Phase, Warning, Hazard, Status, FieldOf, Cell, Head, Link}
use Rattle.phase_pools.specs.Accesses.{WordAccess, Loads, Stores, Exchanges}
use Rattle.c_language.specs.declared.lines.Answer.TheVariants as answers
use Rattle.c_language.specs.Steps.{Pool, Kept}
use Rattle.c_language.specs.Threads.{kept_begun, thread_begun}
use Rattle.emission_rows.specs.Telling.{Ending, Waits, Answers, Told, told, kept_with}
use Rattle.emission_rows.specs.Targets.{functions}

abbrev pub row_pool : Pool
row_pool = record { sizes = record { callers = 2; slots = 5; fields = 2; cells = 1; kinds = 5 ∷ []; tops = 16 }; fields = 2 ∷ []; last = 9; own = 1 }

-- `push` is function 1, `pop` 2, `peek` 3 and `swing` 4
abbrev pub call : ℕ → ℕ → Kept → List ℕ → Told
call function argument kept words = told row_pool functions 500 (thread_begun function (argument ∷ []) kept) words

abbrev pub Does : Told → List WordAccess → Ending → Type 0
Does told accesses ending = told ≡ record { accesses = accesses; ending = ending }

pub record PushRows : Type 0 where
  -- slot 5 stands in the cradle: no claim. The exchange publishes it, so the cradle is empty then
  pub kept : Does (call 1 7 (kept_with 5) (4 ∷ 0 ∷ 0 ∷ 0 ∷ 6 ∷ 0 ∷ 6 ∷ 4 ∷ []))
      (Loads (Warning 1) ∷ Stores (FieldOf 5 0) 0 ∷ Stores (FieldOf 5 1) 0 ∷ Stores (FieldOf 5 1) 7 ∷ Loads (Cell 0) ∷ Stores (FieldOf 5 0) 6
      ∷ Exchanges (Cell 0) 6 10 ∷ Loads (Warning 1) ∷ [])
      (Answers answers.Nothing 0 0 0)
  -- the exchange finds another word: the wrap-up has 0 in n7, and the operation begins again with a load of its warning. The slot stays in the cradle
  pub lost : Does (call 1 7 (kept_with 5) (4 ∷ 0 ∷ 0 ∷ 0 ∷ 6 ∷ 0 ∷ 8 ∷ 4 ∷ 5 ∷ []))
      (Loads (Warning 1) ∷ Stores (FieldOf 5 0) 0 ∷ Stores (FieldOf 5 1) 0 ∷ Stores (FieldOf 5 1) 7 ∷ Loads (Cell 0) ∷ Stores (FieldOf 5 0) 6
      ∷ Exchanges (Cell 0) 6 10 ∷ Loads (Warning 1) ∷ Loads (Warning 1) ∷ [])
      (Waits (Stores (FieldOf 5 0) 0))
  -- an empty cradle: slot 2 is claimed
  pub claimed : Does (call 1 7 kept_begun (4 ∷ 18 ∷ 3 ∷ 18 ∷ 4 ∷ 0 ∷ 0 ∷ []))
      (Loads (Warning 1) ∷ Loads (Head 0) ∷ Loads (Link 2) ∷ Exchanges (Head 0) 18 19 ∷ Stores (Status 2) 5 ∷ Stores (FieldOf 2 0) 0 ∷ Stores (FieldOf 2 1) 0 ∷ [])
      (Waits (Stores (FieldOf 2 1) 7))
  -- no slot is on top, and the phases are over
  pub over : Does (call 1 7 kept_begun (4 ∷ 16 ∷ 9 ∷ [])) (Loads (Warning 1) ∷ Loads (Head 0) ∷ Loads Phase ∷ []) (Answers answers.Phases 9 0 0)

pub record PopRows : Type 0 where
  -- slot 5 is the top, and slot 3 follows it. Its retirement is stamped with phase 3. The guard is cleared at the wrap-up's start
  pub popped : Does (call 2 0 kept_begun (4 ∷ 10 ∷ 0 ∷ 4 ∷ 6 ∷ 4 ∷ 10 ∷ 3 ∷ 0 ∷ 5 ∷ 4 ∷ []))
      (Loads (Warning 1) ∷ Loads (Cell 0) ∷ Stores (Hazard 1 0) 5 ∷ Loads (Warning 1) ∷ Loads (FieldOf 5 0) ∷ Loads (Warning 1) ∷ Exchanges (Cell 0) 10 6
      ∷ Loads Phase ∷ Stores (Status 5) 14 ∷ Stores (Hazard 1 0) 0 ∷ Loads (Warning 1) ∷ [])
      (Answers answers.Number 1 0 0)
  -- a check finds another word than was seen: the guard is cleared, and the generator begins again without a load of the warning
  pub warned : Does (call 2 0 kept_begun (4 ∷ 10 ∷ 0 ∷ 5 ∷ 0 ∷ 8 ∷ 0 ∷ 5 ∷ []))
      (Loads (Warning 1) ∷ Loads (Cell 0) ∷ Stores (Hazard 1 0) 5 ∷ Loads (Warning 1) ∷ Stores (Hazard 1 0) 0 ∷ Loads (Cell 0) ∷ Stores (Hazard 1 0) 4
      ∷ Loads (Warning 1) ∷ [])
      (Waits (Loads (FieldOf 4 0)))
  -- an empty stack: null is guarded, its field is loaded, and there is nothing to retire and nothing to clear
  pub none : Does (call 2 0 kept_begun (4 ∷ 0 ∷ 0 ∷ 4 ∷ 0 ∷ 4 ∷ 0 ∷ 4 ∷ []))
      (Loads (Warning 1) ∷ Loads (Cell 0) ∷ Stores (Hazard 1 0) 0 ∷ Loads (Warning 1) ∷ Loads (FieldOf 0 0) ∷ Loads (Warning 1) ∷ Exchanges (Cell 0) 0 0
      ∷ Loads (Warning 1) ∷ [])
      (Answers answers.Number 1 0 0)

pub record PeekRows : Type 0 where
  -- the guard is kept over the wrap-up's start, and cleared before the answer
  pub peeked : Does (call 3 0 kept_begun (4 ∷ 10 ∷ 0 ∷ 4 ∷ 5 ∷ 42 ∷ 5 ∷ 0 ∷ []))
      (Loads (Warning 1) ∷ Loads (Cell 0) ∷ Stores (Hazard 1 0) 5 ∷ Loads (Warning 1) ∷ Loads (Warning 1) ∷ Loads (FieldOf 5 1) ∷ Loads (Warning 1)
      ∷ Stores (Hazard 1 0) 0 ∷ [])
      (Answers answers.Number 42 0 0)
  -- the wrap-up begins again with the registers of its start, and keeps the guard
  pub warned : Does (call 3 0 kept_begun (4 ∷ 10 ∷ 0 ∷ 4 ∷ 5 ∷ 42 ∷ 6 ∷ 43 ∷ 6 ∷ 0 ∷ []))
      (Loads (Warning 1) ∷ Loads (Cell 0) ∷ Stores (Hazard 1 0) 5 ∷ Loads (Warning 1) ∷ Loads (Warning 1) ∷ Loads (FieldOf 5 1) ∷ Loads (Warning 1)
      ∷ Loads (FieldOf 5 1) ∷ Loads (Warning 1) ∷ Stores (Hazard 1 0) 0 ∷ [])
      (Answers answers.Number 43 0 0)

pub record SwingRows : Type 0 where
  pub swung : Does (call 4 0 kept_begun (4 ∷ 10 ∷ 10 ∷ 4 ∷ []))
      (Loads (Warning 1) ∷ Loads (Cell 0) ∷ Exchanges (FieldOf 5 0) 10 0 ∷ Loads (Warning 1) ∷ []) (Answers answers.Number 1 0 0)
  pub lost : Does (call 4 0 kept_begun (4 ∷ 10 ∷ 8 ∷ 4 ∷ []))
      (Loads (Warning 1) ∷ Loads (Cell 0) ∷ Exchanges (FieldOf 5 0) 10 0 ∷ Loads (Warning 1) ∷ []) (Answers answers.Number 0 0 0)
  -- null's field is loaded, and the exchange fails
  pub of_null : Does (call 4 0 kept_begun (4 ∷ 0 ∷ 0 ∷ 4 ∷ []))
      (Loads (Warning 1) ∷ Loads (Cell 0) ∷ Loads (FieldOf 0 0) ∷ Loads (Warning 1) ∷ []) (Answers answers.Number 0 0 0)
