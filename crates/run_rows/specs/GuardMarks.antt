-- What is said of the hazard words of caller 1 in the run that leaves a guarded slot retired: its `remove 5` guards r1, r2, r6 and r0
-- before its list, r2 and r6 being null, and a check passes after them. Which guards of a wrap-up count; and what a guard leaves that
-- stores the slot again.
use Rattle.std.specs.Prelude.{◌≡◌, ℕ, true, false, List, [], ◌∷◌, ◌++◌, Option, Some, codes, option_map}
use Rattle.norm_lang.specs.declared.text.Instr.TheVariants.{Mov, LoadRoot, IfEq, Commit, Return}
use Rattle.norm_lang.specs.LineWords.{item_kind}
use Rattle.norm_lang.specs.Shipped.{number_field, reference_root}
use Rattle.target_code.specs.declared.target.Target.{Target}
use Rattle.target_code.specs.declared.target.TargetInstr.TheVariants.{Plain, Check, Guard}
use Rattle.target_code.specs.declared.target.TargetOp.{TargetOp}
use Rattle.oa_words.specs.Words.{Hazard}
use Rattle.caller_parts.specs.Settings.{Setting}
use Rattle.core_runs.specs.Machine.{CoreState, CoreEvent, core_run, core_start}
use Rattle.core_runs.specs.Views.{view}
use Rattle.core_rows.specs.Short.{call_of, n0, n1, r0, r1, number_node, setting_of}
use Rattle.core_rows.specs.ShippedTargets.{list_target}
use Rattle.core_rows.specs.SharedRows.{shared_setting, five_in, marking, spared}
use Rattle.core_rows.specs.Stories.{steps, calls}
use Rattle.run_laws.specs.guarded_claims.Marks.{Mark, Marks, Absent, Published, Validated, run_marks, no_marks}

-- of a register of caller 1 after a run
abbrev pub mark_after : List CoreEvent → ℕ → Mark
mark_after events r = (run_marks list_target (shared_setting 3) events (core_start list_target (shared_setting 3)) no_marks 1).hazards r

pub record GuardMarks : Type 0 where
  -- before the check, and null publishes nothing
  pub published : mark_after (five_in ++ calls 1 (call_of 1 5) 13) 1 ≡ Published
  pub null : mark_after (five_in ++ calls 1 (call_of 1 5) 13) 2 ≡ Absent
  -- the check passes
  pub node : mark_after marking 1 ≡ Validated
  pub sentinel : mark_after marking 0 ≡ Validated
  pub null_still : mark_after marking 6 ≡ Absent
  -- whatever caller 0 does
  pub kept : mark_after spared 1 ≡ Validated
  -- the exchange fails, and the guards are cleared, r0's first
  pub not_yet : mark_after (spared ++ steps 1 2) 1 ≡ Validated
  pub first_cleared : mark_after (spared ++ steps 1 2) 0 ≡ Absent
  pub cleared : mark_after (spared ++ steps 1 3) 1 ≡ Absent

-- ---- a wrap-up that guards r0, which its run sets in local code if the argument isn't 0, and else leaves as the generator loaded it

abbrev pub copies : TargetOp
copies = record {
  name = codes "copy";
  args = 1;
  generator = Plain (LoadRoot r0 0) ∷ Check ∷ Plain (Commit []) ∷ [];
  wrapup =
      Plain (IfEq n0 n1 4)
      ∷ Plain (LoadRoot r1 0)
      ∷ Check
      ∷ Plain (Mov r0 r1)
      ∷ Guard r0
      ∷ Check
      ∷ Plain (Return n0)
      ∷ [];
}

abbrev pub copying : Target
copying = record { kinds = item_kind ∷ []; fields = number_field (codes "v") ∷ []; roots = reference_root (codes "head") 1 ∷ []; nodes = number_node 7 ∷ []; ops = copies ∷ [] }

abbrev pub alone : Setting
alone = setting_of 1 1 1 1 1 9

-- the marks of the caller after so many steps of a call with this argument, and its hazard word for r0
abbrev pub marks_of : ℕ → ℕ → Marks
marks_of argument n = run_marks copying alone (calls 0 (call_of 0 argument) n) (core_start copying alone) no_marks 0

abbrev pub hazard_of : ℕ → ℕ → Option ℕ
hazard_of argument n = option_map (λ (state : CoreState). (view alone state).memory (Hazard 0 0)) (core_run copying alone (calls 0 (call_of 0 argument) n) (core_start copying alone))

pub record CountedGuards : Type 0 where
  -- the generator has set r0, and the wrap-up's run begins with nothing set
  pub generator : (marks_of 0 2).was_set 0 ≡ true
  pub wrap_up : (marks_of 0 4).was_set 0 ≡ false
  -- what the generator loaded is published, and the check passes
  pub published : (marks_of 0 5).hazards 0 ≡ Absent
  pub passed : (marks_of 0 6).hazards 0 ≡ Absent
  pub stored : hazard_of 0 6 ≡ Some 1
  -- what the wrap-up's run has loaded and copied counts
  pub loaded : (marks_of 1 5).was_set 1 ≡ true
  pub not_copied : (marks_of 1 5).was_set 0 ≡ false
  pub copied : (marks_of 1 6).was_set 0 ≡ true
  pub waits : (marks_of 1 7).hazards 0 ≡ Published
  pub counts : (marks_of 1 8).hazards 0 ≡ Validated

-- ---- a generator that guards r0, stores its slot again before a check and after it, and then guards the node of another root

abbrev pub repeats : TargetOp
repeats = record {
  name = codes "repeat";
  args = 0;
  generator =
      Plain (LoadRoot r0 0)
      ∷ Check
      ∷ Guard r0
      ∷ Guard r0
      ∷ Check
      ∷ Guard r0
      ∷ Plain (LoadRoot r0 1)
      ∷ Check
      ∷ Guard r0
      ∷ Check
      ∷ Plain (LoadRoot r0 1)
      ∷ Guard r0
      ∷ Plain (Commit [])
      ∷ [];
  wrapup = Plain (Return n0) ∷ [];
}

-- the roots start at the nodes in slots 1 and 2
abbrev pub repeating : Target
repeating = record {
  kinds = item_kind ∷ [];
  fields = number_field (codes "v") ∷ [];
  roots = reference_root (codes "head") 1 ∷ reference_root (codes "tail") 2 ∷ [];
  nodes = number_node 7 ∷ number_node 8 ∷ [];
  ops = repeats ∷ [];
}

abbrev pub two_nodes : Setting
two_nodes = setting_of 1 2 1 2 2 9

-- after so many steps of its call
abbrev pub repeated : ℕ → Mark
repeated n = (run_marks repeating two_nodes (calls 0 (call_of 0 0) n) (core_start repeating two_nodes) no_marks 0).hazards 0

abbrev pub repeated_hazard : ℕ → Option ℕ
repeated_hazard n = option_map (λ (state : CoreState). (view two_nodes state).memory (Hazard 0 0)) (core_run repeating two_nodes (calls 0 (call_of 0 0) n) (core_start repeating two_nodes))

pub record RepeatedGuards : Type 0 where
  -- the own warning, the root, a check, and the `grd`
  pub none : repeated 3 ≡ Absent
  pub waits : repeated 4 ≡ Published
  pub word : repeated_hazard 4 ≡ Some 1
  -- what no check has passed waits on
  pub waits_still : repeated 5 ≡ Published
  pub counts : repeated 6 ≡ Validated
  -- stored again, it stays validated with no check after it
  pub again : repeated 7 ≡ Validated
  pub same_word : repeated_hazard 7 ≡ Some 1
  pub still : repeated 9 ≡ Validated
  -- another slot waits for a check
  pub other : repeated 10 ≡ Published
  pub other_word : repeated_hazard 10 ≡ Some 2
  pub other_counts : repeated 11 ≡ Validated
  pub other_again : repeated 13 ≡ Validated
