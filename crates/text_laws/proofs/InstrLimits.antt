-- Each line of a method gives an instruction within the limits.
use Rattle.std.specs.Prelude.{◌≡◌, ℕ, true, List, length, Result, Ok, Err, IfOk, nat_le, codes}
use Rattle.std.specs.Str.{bytes_eq}
use Rattle.std.proofs.Common.{refl}
use Rattle.std.proofs.lemmas.Bool.{and_from, and_parts}
use Rattle.norm_lang.specs.declared.text.FieldDecl.{FieldDecl}
use Rattle.norm_lang.specs.declared.text.RootDecl.{RootDecl}
use Rattle.norm_lang.specs.declared.text.Instr.{Instr}
use Rattle.norm_lang.specs.declared.text.Version.{Version}
use Rattle.norm_lang.specs.LineWords.{end_at}
use Rattle.norm_lang.specs.Instructions.{Step, Whole, Commits, whole, set_line, mov_line, add_line, sub_line, rem_line, null_line, mark_line, unmark_line, load_root_line, pick_line, load_field_line, new_line, put_line, cas_line, casroot_line, jump_line, ifeq_line, ifless_line, ifmarked_line, return_line, returnnone_line, again_line, commit_line, step_line, with_line, withroot_line, entry_line}
use Rattle.norm_lang.specs.Limits.{is_entry, is_instr}
use Rattle.text_laws.specs.StandsFor.{KindsOf}
use Rattle.text_laws.proofs.Readings.{anyhow, either}
use Rattle.text_laws.proofs.LineLimits.{number_then, positive_then, register_then, name_then, one_then, two_then, three_then, retire_then, value_then, value_above_then, up_to_then, target_then, field_then, root_then, owner_then, declared_then}

-- an instruction within the limits, or a commit of at most 4 entries
abbrev pub StepFits : ℕ → ℕ → ℕ → Step → Type 0
StepFits kinds fields roots (Whole i) = is_instr kinds fields roots i ≡ true
StepFits kinds fields roots (Commits count) = nat_le count 4 ≡ true

-- every instruction that is read is within the limits, for so many kinds, fields and roots
abbrev Gives : ℕ → ℕ → ℕ → Result Instr ℕ → Type 0
Gives kinds fields roots read = IfOk read (λ i. is_instr kinds fields roots i ≡ true)

module _ (version : Version) (kinds : List (List ℕ)) (fields : List FieldDecl) (roots : List RootDecl) (named : KindsOf version kinds) where
  as_step : (read : Result Instr ℕ) → Gives (length kinds) (length fields) (length roots) read → IfOk (whole read) (StepFits (length kinds) (length fields) (length roots))
  as_step (Ok i) h = h
  as_step (Err e) h = tt

  set_fits : (words : List (List ℕ)) → Gives (length kinds) (length fields) (length roots) (set_line words)
  set_fits words = register_then words _ _ λ d rest dh. number_then rest _ _ λ n rest nh. anyhow (end_at rest) _ _ λ done. value_then n _ _ nh λ v vh. and_from _ _ dh vh

  mov_fits : (words : List (List ℕ)) → Gives (length kinds) (length fields) (length roots) (mov_line words)
  mov_fits words = two_then words _ _ λ a b ha hb. and_from _ _ ha hb

  add_fits : (words : List (List ℕ)) → Gives (length kinds) (length fields) (length roots) (add_line words)
  add_fits words = three_then words _ _ λ a b c ha hb hc. and_from _ _ ha (and_from _ _ hb hc)

  sub_fits : (words : List (List ℕ)) → Gives (length kinds) (length fields) (length roots) (sub_line words)
  sub_fits words = three_then words _ _ λ a b c ha hb hc. and_from _ _ ha (and_from _ _ hb hc)

  rem_fits : (words : List (List ℕ)) → Gives (length kinds) (length fields) (length roots) (rem_line words)
  rem_fits words = register_then words _ _ λ d rest dh. register_then rest _ _ λ a rest ah. positive_then rest _ _ λ n rest nh. anyhow (end_at rest) _ _ λ done. value_above_then n _ _ nh λ v vh. and_from _ _ dh (and_from _ _ ah vh)

  null_fits : (words : List (List ℕ)) → Gives (length kinds) (length fields) (length roots) (null_line words)
  null_fits words = one_then words _ _ λ a ha. ha

  mark_fits : (words : List (List ℕ)) → Gives (length kinds) (length fields) (length roots) (mark_line words)
  mark_fits words = two_then words _ _ λ a b ha hb. and_from _ _ ha hb

  unmark_fits : (words : List (List ℕ)) → Gives (length kinds) (length fields) (length roots) (unmark_line words)
  unmark_fits words = two_then words _ _ λ a b ha hb. and_from _ _ ha hb

  root_fits : (words : List (List ℕ)) → Gives (length kinds) (length fields) (length roots) (load_root_line roots words)
  root_fits words = register_then words _ _ λ d rest dh. name_then rest _ _ λ x rest _. anyhow (end_at rest) _ _ λ done. root_then roots x _ _ λ i hi. and_from _ _ dh hi

  pick_fits : (words : List (List ℕ)) → Gives (length kinds) (length fields) (length roots) (pick_line roots words)
  pick_fits words = register_then words _ _ λ d rest dh. name_then rest _ _ λ x rest _. positive_then rest _ _ λ n rest nh. one_then rest _ _ λ a ha. value_above_then n _ _ nh λ v vh. root_then roots x _ _ λ i hi. up_to_then 256 v _ _ λ few. and_from _ _ dh (and_from _ _ hi (and_from _ _ (and_from _ _ (and_parts _ _ vh).0 few) ha))

  load_fits : (words : List (List ℕ)) → Gives (length kinds) (length fields) (length roots) (load_field_line fields words)
  load_fits words = register_then words _ _ λ d rest dh. register_then rest _ _ λ a rest ah. name_then rest _ _ λ x rest _. anyhow (end_at rest) _ _ λ done. field_then fields x _ _ λ i hi. and_from _ _ dh (and_from _ _ ah hi)

  new_fits : (words : List (List ℕ)) → Gives (length kinds) (length fields) (length roots) (new_line version kinds words)
  new_fits words = register_then words _ _ λ d rest dh. owner_then version kinds rest _ _ named λ owner rest is. anyhow (end_at rest) _ _ λ done. declared_then (length kinds) owner _ _ is λ k _ below. and_from _ _ dh below

  put_fits : (words : List (List ℕ)) → Gives (length kinds) (length fields) (length roots) (put_line fields words)
  put_fits words = register_then words _ _ λ a rest ah. name_then rest _ _ λ x rest _. one_then rest _ _ λ b hb. field_then fields x _ _ λ i hi. and_from _ _ ah (and_from _ _ hi hb)

  cas_fits : (words : List (List ℕ)) → Gives (length kinds) (length fields) (length roots) (cas_line fields words)
  cas_fits words = register_then words _ _ λ a rest ah. name_then rest _ _ λ x rest _. register_then rest _ _ λ b rest bh. register_then rest _ _ λ d rest dh. number_then rest _ _ λ n rest nh. retire_then rest _ _ λ r rh. value_then n _ _ nh λ v vh. field_then fields x _ _ λ i hi. up_to_then 65535 v _ _ λ near. and_from _ _ (and_from _ _ (and_from _ _ ah hi) (and_from _ _ bh (and_from _ _ dh rh))) near

  casroot_fits : (words : List (List ℕ)) → Gives (length kinds) (length fields) (length roots) (casroot_line roots words)
  casroot_fits words = name_then words _ _ λ x rest _. register_then rest _ _ λ b rest bh. register_then rest _ _ λ d rest dh. number_then rest _ _ λ n rest nh. retire_then rest _ _ λ r rh. value_then n _ _ nh λ v vh. root_then roots x _ _ λ i hi. up_to_then 65535 v _ _ λ near. and_from _ _ (and_from _ _ hi (and_from _ _ bh (and_from _ _ dh rh))) near

  jump_fits : (words : List (List ℕ)) → Gives (length kinds) (length fields) (length roots) (jump_line words)
  jump_fits words = target_then words _ _ λ l lh. lh

  ifeq_fits : (words : List (List ℕ)) → Gives (length kinds) (length fields) (length roots) (ifeq_line words)
  ifeq_fits words = register_then words _ _ λ a rest ah. register_then rest _ _ λ b rest bh. target_then rest _ _ λ l lh. and_from _ _ ah (and_from _ _ bh lh)

  ifless_fits : (words : List (List ℕ)) → Gives (length kinds) (length fields) (length roots) (ifless_line words)
  ifless_fits words = register_then words _ _ λ a rest ah. register_then rest _ _ λ b rest bh. target_then rest _ _ λ l lh. and_from _ _ ah (and_from _ _ bh lh)

  ifmarked_fits : (words : List (List ℕ)) → Gives (length kinds) (length fields) (length roots) (ifmarked_line words)
  ifmarked_fits words = register_then words _ _ λ a rest ah. target_then rest _ _ λ l lh. and_from _ _ ah lh

  return_fits : (words : List (List ℕ)) → Gives (length kinds) (length fields) (length roots) (return_line words)
  return_fits words = one_then words _ _ λ a ha. ha

  returnnone_fits : (words : List (List ℕ)) → Gives (length kinds) (length fields) (length roots) (returnnone_line words)
  returnnone_fits words = anyhow (end_at words) _ _ λ done. refl

  again_fits : (words : List (List ℕ)) → Gives (length kinds) (length fields) (length roots) (again_line words)
  again_fits words = anyhow (end_at words) _ _ λ done. refl

  commit_fits : (words : List (List ℕ)) → IfOk (commit_line words) (StepFits (length kinds) (length fields) (length roots))
  commit_fits words = number_then words _ _ λ n rest nh. anyhow (end_at rest) _ _ λ done. value_then n _ _ nh λ v vh. up_to_then 4 v _ _ λ few. few

  pub step_fits : (word : List ℕ) (rest : List (List ℕ)) → IfOk (step_line version kinds fields roots word rest) (StepFits (length kinds) (length fields) (length roots))
  step_fits word rest =
      either (bytes_eq word (codes "set")) _ _ _ (λ _. as_step _ (set_fits rest)) λ _.
      either (bytes_eq word (codes "mov")) _ _ _ (λ _. as_step _ (mov_fits rest)) λ _.
      either (bytes_eq word (codes "add")) _ _ _ (λ _. as_step _ (add_fits rest)) λ _.
      either (bytes_eq word (codes "sub")) _ _ _ (λ _. as_step _ (sub_fits rest)) λ _.
      either (bytes_eq word (codes "rem")) _ _ _ (λ _. as_step _ (rem_fits rest)) λ _.
      either (bytes_eq word (codes "null")) _ _ _ (λ _. as_step _ (null_fits rest)) λ _.
      either (bytes_eq word (codes "mark")) _ _ _ (λ _. as_step _ (mark_fits rest)) λ _.
      either (bytes_eq word (codes "unmark")) _ _ _ (λ _. as_step _ (unmark_fits rest)) λ _.
      either (bytes_eq word (codes "root")) _ _ _ (λ _. as_step _ (root_fits rest)) λ _.
      either (bytes_eq word (codes "pick")) _ _ _ (λ _. as_step _ (pick_fits rest)) λ _.
      either (bytes_eq word (codes "load")) _ _ _ (λ _. as_step _ (load_fits rest)) λ _.
      either (bytes_eq word (codes "new")) _ _ _ (λ _. as_step _ (new_fits rest)) λ _.
      either (bytes_eq word (codes "put")) _ _ _ (λ _. as_step _ (put_fits rest)) λ _.
      either (bytes_eq word (codes "cas")) _ _ _ (λ _. as_step _ (cas_fits rest)) λ _.
      either (bytes_eq word (codes "casroot")) _ _ _ (λ _. as_step _ (casroot_fits rest)) λ _.
      either (bytes_eq word (codes "jump")) _ _ _ (λ _. as_step _ (jump_fits rest)) λ _.
      either (bytes_eq word (codes "ifeq")) _ _ _ (λ _. as_step _ (ifeq_fits rest)) λ _.
      either (bytes_eq word (codes "ifless")) _ _ _ (λ _. as_step _ (ifless_fits rest)) λ _.
      either (bytes_eq word (codes "ifmarked")) _ _ _ (λ _. as_step _ (ifmarked_fits rest)) λ _.
      either (bytes_eq word (codes "commit")) _ _ _ (λ _. commit_fits rest) λ _.
      either (bytes_eq word (codes "return")) _ _ _ (λ _. as_step _ (return_fits rest)) λ _.
      either (bytes_eq word (codes "returnnone")) _ _ _ (λ _. as_step _ (returnnone_fits rest)) λ _.
      either (bytes_eq word (codes "again")) _ _ _ (λ _. as_step _ (again_fits rest)) λ _.
      tt

module _ (fields : List FieldDecl) (roots : List RootDecl) where
  with_fits : (words : List (List ℕ)) → IfOk (with_line fields words) (λ entry. is_entry (length fields) (length roots) entry ≡ true)
  with_fits words = register_then words _ _ λ a rest ah. name_then rest _ _ λ x rest _. register_then rest _ _ λ b rest bh. register_then rest _ _ λ d rest dh. retire_then rest _ _ λ r rh. field_then fields x _ _ λ i hi. and_from _ _ (and_from _ _ ah hi) (and_from _ _ bh (and_from _ _ dh rh))

  withroot_fits : (words : List (List ℕ)) → IfOk (withroot_line roots words) (λ entry. is_entry (length fields) (length roots) entry ≡ true)
  withroot_fits words = name_then words _ _ λ x rest _. register_then rest _ _ λ b rest bh. register_then rest _ _ λ d rest dh. retire_then rest _ _ λ r rh. root_then roots x _ _ λ i hi. and_from _ _ hi (and_from _ _ bh (and_from _ _ dh rh))

  pub entry_fits : (word : List ℕ) (rest : List (List ℕ)) → IfOk (entry_line fields roots word rest) (λ entry. is_entry (length fields) (length roots) entry ≡ true)
  entry_fits word rest = either (bytes_eq word (codes "with")) _ _ _ (λ _. with_fits rest) λ _. either (bytes_eq word (codes "withroot")) _ _ _ (λ _. withroot_fits rest) λ _. tt
