-- Nodes of two kinds, computed: an operation that makes one of each kind, and joins them.
use Rattle.std.specs.Prelude.{◌≡◌, ℕ, List, [], ◌∷◌, ◌++◌, Option, Some, None, codes, refl, map, replicate}
use Rattle.norm_lang.specs.declared.text.Reg.TheVariants.{Num, Ref}
use Rattle.norm_lang.specs.declared.text.FieldKind.TheVariants as holdings
use Rattle.norm_lang.specs.declared.text.Start.TheVariants as starts
use Rattle.norm_lang.specs.declared.text.Instr.TheVariants as instr
use Rattle.norm_lang.specs.LineWords.{item_kind}
use Rattle.target_code.specs.declared.target.TargetInstr.TheVariants.{Plain}
use Rattle.target_code.specs.declared.target.TargetOp.{TargetOp}
use Rattle.target_code.specs.declared.target.Target.{Target}
use Rattle.caller_parts.specs.declared.call.Call.{Call}
use Rattle.caller_parts.specs.declared.setting.Reclamation.TheVariants.{Optimistic}
use Rattle.caller_parts.specs.Settings.{Setting}
use Rattle.caller_steps.specs.Entries.{Entry}
use Rattle.caller_steps.specs.Wants.{wants}
use Rattle.caller_steps.specs.After.{after}
use Rattle.core_runs.specs.Machine.{CoreState, Takes, Steps, core_run, core_start}

join : TargetOp
join = record {
  name = codes "join";
  args = 1;
  generator =
      Plain (instr.New (Ref 0) 1)
      ∷ Plain (instr.New (Ref 1) 0)
      ∷ Plain (instr.Put (Ref 1) 0 (Num 0))
      ∷ Plain (instr.Put (Ref 0) 2 (Ref 1))
      ∷ Plain (instr.LoadRoot (Ref 2) 1)
      ∷ Plain (instr.LoadField (Ref 3) (Ref 2) 2)
      ∷ Plain (instr.Put (Ref 3) 0 (Num 0))
      ∷ Plain (instr.Commit [])
      ∷ [];
  wrapup = Plain instr.ReturnNone ∷ [];
}

-- an item has a number, a pair has a number and an item
two_kinds : Target
two_kinds = record {
  kinds = item_kind ∷ codes "pair" ∷ [];
  fields =
      record { owner = 0; name = codes "key"; kind = holdings.Number }
      ∷ record { owner = 1; name = codes "left"; kind = holdings.Number }
      ∷ record { owner = 1; name = codes "right"; kind = holdings.Reference 0 }
      ∷ [];
  roots =
      record { name = codes "a"; kind = holdings.Reference 0; start = starts.Node 1 }
      ∷ record { name = codes "b"; kind = holdings.Reference 1; start = starts.Node 2 }
      ∷ [];
  nodes = record { owner = 0; values = starts.Value 7 ∷ [] } ∷ record { owner = 1; values = starts.Value 8 ∷ starts.Node 1 ∷ [] } ∷ [];
  ops = join ∷ [];
}

-- two slots for items, and three for pairs: items stand in slots 1 and 2, pairs in 3 to 5
setting : Setting
setting = record { reclamation = Optimistic; sizes = record { callers = 1; slots = 5; fields = 2; cells = 2; kinds = 2 ∷ 3 ∷ []; tops = 8192 }; first = 1; last = 9; nodes = 1 ∷ 1 ∷ 0 ∷ 0 ∷ [] }

words_of : Option CoreState → List ℕ
words_of None = []
words_of (Some state) = state.words

cradles_of : Option CoreState → List (List ℕ)
cradles_of None = []
cradles_of (Some state) = map (λ (e : Entry). e.cradles) state.entries

steps_of : Option CoreState → List ℕ
steps_of None = []
steps_of (Some state) = map (λ (e : Entry). e.running.steps) state.entries

-- the phase, the place, the warning and the hazards; statuses, fields, roots, heads and links. The second initial node is the first pair, in slot 3
starts_by_kind : (core_start two_kinds setting).words
    ≡ (1 ∷ 0 ∷ 1 ∷ replicate 8 0)
    ++ (5 ∷ 5 ∷ 4 ∷ 5 ∷ 4 ∷ 4 ∷ [])
    ++ (0 ∷ 0 ∷ 7 ∷ 0 ∷ 0 ∷ 0 ∷ 8 ∷ 2 ∷ 0 ∷ 0 ∷ 0 ∷ 0 ∷ [])
    ++ (2 ∷ 6 ∷ [])
    ++ (8194 ∷ 8196 ∷ [])
    ++ (0 ∷ 0 ∷ 0 ∷ 0 ∷ 5 ∷ 0 ∷ [])
unfolding two_kinds join setting
starts_by_kind = refl

join_nine : Call
join_nine = record { op = 0; args = 9 ∷ 0 ∷ 0 ∷ 0 ∷ [] }

-- the load of the warning; the claim of a pair and two zeroes, the claim of an item and one zero; two puts, two loads and a put; the load of
-- the warning for the wrap-up
joined : Option CoreState
joined = core_run two_kinds setting (Takes 0 join_nine ∷ replicate 18 (Steps 0)) (core_start two_kinds setting)

-- the pair is made in slot 4 and the item in slot 2. The second field of a pair is its third in the text
joins_by_kind : words_of joined
    ≡ (1 ∷ 0 ∷ 1 ∷ replicate 8 0)
    ++ (5 ∷ 5 ∷ 5 ∷ 5 ∷ 5 ∷ 4 ∷ [])
    ++ (0 ∷ 0 ∷ 9 ∷ 0 ∷ 9 ∷ 0 ∷ 8 ∷ 2 ∷ 0 ∷ 4 ∷ 0 ∷ 0 ∷ [])
    ++ (2 ∷ 6 ∷ [])
    ++ (8192 ∷ 8197 ∷ [])
    ++ (0 ∷ 0 ∷ 0 ∷ 0 ∷ 5 ∷ 0 ∷ [])
unfolding two_kinds join setting join_nine joined words_of wants after
joins_by_kind = refl

-- both are the first `new` of their kinds
cradles_by_kind : cradles_of joined ≡ (2 ∷ 0 ∷ 0 ∷ 0 ∷ 4 ∷ replicate 11 0) ∷ []
unfolding two_kinds join setting join_nine joined cradles_of wants after
cradles_by_kind = refl

-- the call has ended with its last step
steps_by_kind : steps_of joined ≡ 18 ∷ []
unfolding two_kinds join setting join_nine joined steps_of wants after
steps_by_kind = refl
