-- Rows of the normal form: small texts that break a rule at a place, or that don't.
use Rattle.std.specs.Prelude.{◌≡◌, ℕ, true, false, List, [], ◌∷◌}
use Rattle.norm_lang.specs.declared.text.Instr.{Instr}
use Rattle.norm_lang.specs.declared.text.Instr.TheVariants.{Set, Null, LoadRoot, LoadPick, LoadField, New, Put, Cas, IfMarked, Commit, ReturnNone}
use Rattle.norm_lang.specs.Shipped.{root_entry, retiring}
use Rattle.norm_lang.specs.NormalForm.{Rule, N3, N4, N6, N8, N11, N12, N13, Breaks}
use Rattle.norm_lang.specs.PathRules.{exchanges}
use Rattle.worked_rows.specs.Small.{n0, n1, n7, r0, r1, r2, key, next, first, none, ten, thirty, small, field_entry}

-- a generator, with a wrap-up that only replies, breaks a rule at a place
abbrev pub GeneratorBreaks : List Instr → Rule → ℕ → Type 0
GeneratorBreaks generator rule at = Breaks (small generator (ReturnNone ∷ [])) (record { rule = rule; op = 0; wrapup = false; at = at })

-- a wrap-up, after a generator that sets r0, breaks a rule at a place
abbrev pub WrapUpBreaks : List Instr → Rule → ℕ → Type 0
WrapUpBreaks wrapup rule at = Breaks (small (LoadRoot r0 first ∷ Commit [] ∷ []) wrapup) (record { rule = rule; op = 0; wrapup = true; at = at })

-- a wrap-up with a `new`, and with a put into it
abbrev pub makes_node : List Instr
makes_node = New r1 0 ∷ Put r1 key n7 ∷ ReturnNone ∷ []

-- a new node is given to a root, and the wrap-up reads its register
abbrev pub shows_and_keeps : List Instr
shows_and_keeps = Null r1 ∷ New r0 0 ∷ Commit (root_entry first r1 r0 ∷ []) ∷ []

abbrev pub reads_kept : List Instr
reads_kept = IfMarked r0 1 ∷ ReturnNone ∷ []

-- wrap-ups that exchange the kept r0 as the expected and as the new operand, and one that only retires it
abbrev pub expects_kept : List Instr
expects_kept = Null r1 ∷ Cas (root_entry first r0 r1) 2 ∷ ReturnNone ∷ []

abbrev pub gives_kept : List Instr
gives_kept = Null r1 ∷ Cas (root_entry first r1 r0) 2 ∷ ReturnNone ∷ []

abbrev pub retires_kept : List Instr
retires_kept = Null r1 ∷ Cas (retiring (root_entry first r1 r1) r0) 2 ∷ ReturnNone ∷ []

-- a node taken out of its own field is retired: by an auxiliary exchange, and by a commit
abbrev pub retires_object : List Instr
retires_object = LoadRoot r0 first ∷ LoadField r1 r0 next ∷ Null r2 ∷ Cas (retiring (field_entry r0 next r1 r2) r0) 4 ∷ Commit [] ∷ []

abbrev pub commits_object : List Instr
commits_object = LoadRoot r0 first ∷ LoadField r1 r0 next ∷ Null r2 ∷ Commit (retiring (field_entry r0 next r1 r2) r0 ∷ []) ∷ []

-- what is exchanged in is retired
abbrev pub retires_new_operand : List Instr
retires_new_operand = LoadRoot r0 first ∷ LoadField r1 r0 next ∷ Null r2 ∷ Commit (retiring (field_entry r0 next r1 r2) r2 ∷ []) ∷ []

-- a number is retired, the one that is expected
abbrev pub retires_number : List Instr
retires_number = LoadRoot n1 ten ∷ Commit (retiring (root_entry ten n1 n0) n1 ∷ []) ∷ []

pub record NormalFormRows : Type 0 where
  -- a `new` in a wrap-up breaks N3, though it lies on no cycle
  pub new_in_wrap_up : WrapUpBreaks makes_node N3 0
  -- a put in a wrap-up breaks N4, though its object is surely fresh and its value isn't
  pub put_in_wrap_up : WrapUpBreaks makes_node N4 1
  -- a commit in a wrap-up breaks N8, and a reply there doesn't
  pub commit_in_wrap_up : WrapUpBreaks (Commit [] ∷ []) N8 0
  pub reply_in_wrap_up : ¬ WrapUpBreaks (ReturnNone ∷ []) N8 0
  -- running off the end of a wrap-up breaks N8
  pub end_of_wrap_up : WrapUpBreaks (Set n1 5 ∷ []) N8 0
  -- a commit breaks N6 if a kept register may be fresh, though it is given away only once
  pub kept_while_fresh : Breaks (small shows_and_keeps reads_kept) (record { rule = N6; op = 0; wrapup = false; at = 2 })
  -- a kept register as the expected operand of an exchange in a wrap-up breaks N11, and so it does as the new one
  pub kept_expected : WrapUpBreaks expects_kept N11 1
  pub kept_given : WrapUpBreaks gives_kept N11 1
  -- a register that is only retired there isn't among the operands (that it is a stranger breaks N12)
  pub kept_retired : exchanges r0 (Cas (retiring (root_entry first r1 r1) r0) 2) ≡ false
  pub stranger_retired : WrapUpBreaks retires_kept N12 1
  -- an exchange may retire its object
  pub object_retired : ¬ GeneratorBreaks retires_object N12 3
  pub object_retired_at_commit : ¬ GeneratorBreaks commits_object N12 3
  -- but not its new operand, and no number
  pub new_operand_retired : GeneratorBreaks retires_new_operand N12 3
  pub number_retired : GeneratorBreaks retires_number N12 1
  -- a pick of roots of two kinds breaks N13: the root `none` and the root `ten`
  pub pick_of_two_kinds : GeneratorBreaks (LoadPick r0 none 2 n0 ∷ Commit [] ∷ []) N13 0
  -- and so does a pick that goes past the last root
  pub pick_past_the_last : GeneratorBreaks (LoadPick n1 thirty 2 n0 ∷ Commit [] ∷ []) N13 0
  -- a pick of the last three roots, which are numbers, doesn't
  pub pick_of_the_last : ¬ GeneratorBreaks (LoadPick n1 ten 3 n0 ∷ Commit [] ∷ []) N13 0
