-- Each line of a method that the grammar reads is spelled as the spelling writes what it says.
use Rattle.std.specs.Prelude.{◌≡◌, ℕ, List, [], ◌∷◌, Option, Result, Ok, Err, IfOk, codes, decimal, nat_le, true}
use Rattle.std.specs.Str.{bytes_eq}
use Rattle.std.proofs.Common.{refl, ap, ◌∙◌}
use Rattle.std.proofs.lemmas.List.{append-nil}
use Rattle.norm_lang.specs.declared.text.Reg.{Reg}
use Rattle.norm_lang.specs.declared.text.FieldDecl.{FieldDecl}
use Rattle.norm_lang.specs.declared.text.RootDecl.{RootDecl}
use Rattle.norm_lang.specs.declared.text.CasEntry.{CasEntry}
use Rattle.norm_lang.specs.declared.text.Instr.{Instr}
use Rattle.norm_lang.specs.declared.text.Version.{Version}
use Rattle.norm_lang.specs.Faults.{◌>>=◌, form_fault}
use Rattle.norm_lang.specs.Instructions.{Step, Whole, Commits, whole, one_register, two_registers, three_registers, retire_at, target_at, set_line, mov_line, add_line, sub_line, rem_line, null_line, mark_line, unmark_line, load_root_line, pick_line, load_field_line, new_line, put_line, cas_line, casroot_line, jump_line, ifeq_line, ifless_line, ifmarked_line, return_line, returnnone_line, again_line, commit_line, step_line, with_line, withroot_line, entry_line}
use Rattle.norm_lang.specs.Spelling.{register_word, owner_words, retire_words, spelled_entry, instr_lines}
use Rattle.text_laws.proofs.Readings.{then_has, demanded, either}
use Rattle.text_laws.proofs.WordsSaid.{same_word, end_then, name_then, number_then, positive_then, register_then, owner_then, known_then, value_then, up_to_then, field_then, root_then}

-- the last register is read, and then what is read has P
pub one_then : {B : Type 0} (words : List (List ℕ)) (f : Reg → Result B ℕ) (P : B → Type 0) → ((a : Reg) → words ≡ register_word a ∷ [] → IfOk (f a) P) → IfOk (one_register words >>= f) P
one_then words f P next = then_has (one_register words) f (λ a. words ≡ register_word a ∷ []) P (one_said words) next
  where
    one_said : (words : List (List ℕ)) → IfOk (one_register words) (λ a. words ≡ register_word a ∷ [])
    one_said words = register_then words _ _ λ a rest here. end_then rest _ _ λ last. rw (here, last) refl

two_then : {B : Type 0} (words : List (List ℕ)) (f : Reg × Reg → Result B ℕ) (P : B → Type 0)
    → ((a b : Reg) → words ≡ register_word a ∷ register_word b ∷ [] → IfOk (f (a, b)) P) → IfOk (two_registers words >>= f) P
two_then words f P next = then_has (two_registers words) f (λ r. words ≡ register_word r.0 ∷ register_word r.1 ∷ []) P two_said λ r same. next r.0 r.1 same
  where
    two_said : IfOk (two_registers words) (λ r. words ≡ register_word r.0 ∷ register_word r.1 ∷ [])
    two_said = register_then words _ _ λ a rest here. one_then rest _ (λ r. words ≡ register_word r.0 ∷ register_word r.1 ∷ []) λ b last. rw (here, last) refl

three_then : {B : Type 0} (words : List (List ℕ)) (f : Reg × (Reg × Reg) → Result B ℕ) (P : B → Type 0)
    → ((a b c : Reg) → words ≡ register_word a ∷ register_word b ∷ register_word c ∷ [] → IfOk (f (a, (b, c))) P) → IfOk (three_registers words >>= f) P
three_then words f P next = then_has (three_registers words) f (λ r. words ≡ register_word r.0 ∷ register_word r.1.0 ∷ register_word r.1.1 ∷ []) P three_said λ r same. next r.0 r.1.0 r.1.1 same
  where
    three_said : IfOk (three_registers words) (λ r. words ≡ register_word r.0 ∷ register_word r.1.0 ∷ register_word r.1.1 ∷ [])
    three_said = register_then words _ _ λ a rest here. two_then rest _ (λ r. words ≡ register_word r.0 ∷ register_word r.1.0 ∷ register_word r.1.1 ∷ []) λ b c last. rw (here, last) refl

-- what is retired is read, and then what is read has P
retire_then : {B : Type 0} (words : List (List ℕ)) (f : Option Reg → Result B ℕ) (P : B → Type 0)
    → ((r : Option Reg) → words ≡ retire_words r → IfOk (f r) P) → IfOk (retire_at words >>= f) P
retire_then words f P next = then_has (retire_at words) f (λ r. words ≡ retire_words r) P (retire_said words) next
  where
    retire_said : (words : List (List ℕ)) → IfOk (retire_at words) (λ r. words ≡ retire_words r)
    retire_said [] = refl
    retire_said (word ∷ rest) = demanded form_fault (bytes_eq word (codes "retire")) _ _ λ e. one_then rest _ (λ r. word ∷ rest ≡ retire_words r) λ r last. rw (same_word word (codes "retire") e, last) refl

-- the last number is read, and then what is read has P
target_then : {B : Type 0} (words : List (List ℕ)) (f : ℕ → Result B ℕ) (P : B → Type 0) → ((l : ℕ) → words ≡ decimal l ∷ [] → IfOk (f l) P) → IfOk (target_at words >>= f) P
target_then words f P next = then_has (target_at words) f (λ l. words ≡ decimal l ∷ []) P target_said next
  where
    target_said : IfOk (target_at words) (λ l. words ≡ decimal l ∷ [])
    target_said =
        number_then words _ _ λ word n rest here said. end_then rest _ _ λ last. value_then word n _ _ said λ v is.
        either (nat_le v 65535) _ _ (λ l. words ≡ decimal l ∷ []) (λ _. rw (here, last, is) refl) (λ _. tt)

module _ (version : Version) (kinds : List (List ℕ)) (fields : List FieldDecl) (roots : List RootDecl) where
  -- the line's keyword and the words after it are those of the instruction's only line
  abbrev Says : List ℕ → List (List ℕ) → Result Instr ℕ → Type 0
  Says keyword words read = IfOk read (λ i. (keyword ∷ words) ∷ [] ≡ instr_lines version kinds fields roots i)

  set_said : (words : List (List ℕ)) → Says (codes "set") words (set_line words)
  set_said words = register_then words _ _ λ d rest ds. number_then rest _ _ λ word n rest ns said. end_then rest _ _ λ last. value_then word n _ _ said λ v vs. rw (ds, ns, last, vs) refl

  mov_said : (words : List (List ℕ)) → Says (codes "mov") words (mov_line words)
  mov_said words = two_then words _ _ λ a b same. rw same refl

  add_said : (words : List (List ℕ)) → Says (codes "add") words (add_line words)
  add_said words = three_then words _ _ λ a b c same. rw same refl

  sub_said : (words : List (List ℕ)) → Says (codes "sub") words (sub_line words)
  sub_said words = three_then words _ _ λ a b c same. rw same refl

  rem_said : (words : List (List ℕ)) → Says (codes "rem") words (rem_line words)
  rem_said words = register_then words _ _ λ d rest ds. register_then rest _ _ λ a rest aw. positive_then rest _ _ λ word n rest ns said. end_then rest _ _ λ last. value_then word n _ _ said λ v vs. rw (ds, aw, ns, last, vs) refl

  null_said : (words : List (List ℕ)) → Says (codes "null") words (null_line words)
  null_said words = one_then words _ _ λ a same. rw same refl

  mark_said : (words : List (List ℕ)) → Says (codes "mark") words (mark_line words)
  mark_said words = two_then words _ _ λ a b same. rw same refl

  unmark_said : (words : List (List ℕ)) → Says (codes "unmark") words (unmark_line words)
  unmark_said words = two_then words _ _ λ a b same. rw same refl

  root_said : (words : List (List ℕ)) → Says (codes "root") words (load_root_line roots words)
  root_said words = register_then words _ _ λ d rest ds. name_then rest _ _ λ x rest xs. end_then rest _ _ λ last. root_then roots x _ _ λ i is. rw (ds, xs, last, is) refl

  pick_said : (words : List (List ℕ)) → Says (codes "pick") words (pick_line roots words)
  pick_said words = register_then words _ _ λ d rest ds. name_then rest _ _ λ x rest xs. positive_then rest _ _ λ word n rest ns said. one_then rest _ _ λ a last. value_then word n _ _ said λ v vs. root_then roots x _ _ λ i is. up_to_then 256 v _ _ λ few. rw (ds, xs, ns, last, vs, is) refl

  load_said : (words : List (List ℕ)) → Says (codes "load") words (load_field_line fields words)
  load_said words = register_then words _ _ λ d rest ds. register_then rest _ _ λ a rest aw. name_then rest _ _ λ x rest xs. end_then rest _ _ λ last. field_then fields x _ _ λ i is. rw (ds, aw, xs, last, is) refl

  new_said : (words : List (List ℕ)) → Says (codes "new") words (new_line version kinds words)
  new_said words = register_then words _ _ λ d rest ds. owner_then version kinds rest _ _ λ owner rest os. end_then rest _ _ λ last. known_then owner _ _ λ k known. rw (ds, os.says k known, last, append-nil (owner_words version kinds k)) refl

  put_said : (words : List (List ℕ)) → Says (codes "put") words (put_line fields words)
  put_said words = register_then words _ _ λ a rest aw. name_then rest _ _ λ x rest xs. one_then rest _ _ λ b last. field_then fields x _ _ λ i is. rw (aw, xs, last, is) refl

  cas_said : (words : List (List ℕ)) → Says (codes "cas") words (cas_line fields words)
  cas_said words = register_then words _ _ λ a rest aw. name_then rest _ _ λ x rest xs. register_then rest _ _ λ b rest bs. register_then rest _ _ λ d rest ds. number_then rest _ _ λ word n rest ns said. retire_then rest _ _ λ r last. value_then word n _ _ said λ v vs. field_then fields x _ _ λ i is. up_to_then 65535 v _ _ λ near. rw (aw, xs, bs, ds, ns, last, vs, is) refl

  casroot_said : (words : List (List ℕ)) → Says (codes "casroot") words (casroot_line roots words)
  casroot_said words = name_then words _ _ λ x rest xs. register_then rest _ _ λ b rest bs. register_then rest _ _ λ d rest ds. number_then rest _ _ λ word n rest ns said. retire_then rest _ _ λ r last. value_then word n _ _ said λ v vs. root_then roots x _ _ λ i is. up_to_then 65535 v _ _ λ near. rw (xs, bs, ds, ns, last, vs, is) refl

  jump_said : (words : List (List ℕ)) → Says (codes "jump") words (jump_line words)
  jump_said words = target_then words _ _ λ l same. rw same refl

  ifeq_said : (words : List (List ℕ)) → Says (codes "ifeq") words (ifeq_line words)
  ifeq_said words = register_then words _ _ λ a rest aw. register_then rest _ _ λ b rest bs. target_then rest _ _ λ l last. rw (aw, bs, last) refl

  ifless_said : (words : List (List ℕ)) → Says (codes "ifless") words (ifless_line words)
  ifless_said words = register_then words _ _ λ a rest aw. register_then rest _ _ λ b rest bs. target_then rest _ _ λ l last. rw (aw, bs, last) refl

  ifmarked_said : (words : List (List ℕ)) → Says (codes "ifmarked") words (ifmarked_line words)
  ifmarked_said words = register_then words _ _ λ a rest aw. target_then rest _ _ λ l last. rw (aw, last) refl

  return_said : (words : List (List ℕ)) → Says (codes "return") words (return_line words)
  return_said words = one_then words _ _ λ a same. rw same refl

  returnnone_said : (words : List (List ℕ)) → Says (codes "returnnone") words (returnnone_line words)
  returnnone_said words = end_then words _ _ λ last. rw last refl

  again_said : (words : List (List ℕ)) → Says (codes "again") words (again_line words)
  again_said words = end_then words _ _ λ last. rw last refl

  -- a line says a whole instruction, or begins a commit
  abbrev pub StepSays : List (List ℕ) → Step → Type 0
  StepSays words (Whole i) = words ∷ [] ≡ instr_lines version kinds fields roots i
  StepSays words (Commits count) = words ≡ codes "commit" ∷ decimal count ∷ []

  commit_said : (words : List (List ℕ)) → IfOk (commit_line words) (StepSays (codes "commit" ∷ words))
  commit_said words = number_then words _ _ λ word n rest ns said. end_then rest _ _ λ last. value_then word n _ _ said λ v vs. up_to_then 4 v _ _ λ few. rw (ns, last, vs) refl

  as_step : (word keyword : List ℕ) (rest : List (List ℕ)) (read : Result Instr ℕ) → bytes_eq word keyword ≡ true → Says keyword rest read → IfOk (whole read) (StepSays (word ∷ rest))
  as_step word keyword rest (Ok i) e says = ap (λ w. (w ∷ rest) ∷ []) (same_word word keyword e) ∙ says
  as_step word keyword rest (Err fault) e says = tt

  pub step_said : (word : List ℕ) (rest : List (List ℕ)) → IfOk (step_line version kinds fields roots word rest) (StepSays (word ∷ rest))
  step_said word rest =
      either (bytes_eq word (codes "set")) _ _ _ (λ e. as_step word _ rest _ e (set_said rest)) λ _.
      either (bytes_eq word (codes "mov")) _ _ _ (λ e. as_step word _ rest _ e (mov_said rest)) λ _.
      either (bytes_eq word (codes "add")) _ _ _ (λ e. as_step word _ rest _ e (add_said rest)) λ _.
      either (bytes_eq word (codes "sub")) _ _ _ (λ e. as_step word _ rest _ e (sub_said rest)) λ _.
      either (bytes_eq word (codes "rem")) _ _ _ (λ e. as_step word _ rest _ e (rem_said rest)) λ _.
      either (bytes_eq word (codes "null")) _ _ _ (λ e. as_step word _ rest _ e (null_said rest)) λ _.
      either (bytes_eq word (codes "mark")) _ _ _ (λ e. as_step word _ rest _ e (mark_said rest)) λ _.
      either (bytes_eq word (codes "unmark")) _ _ _ (λ e. as_step word _ rest _ e (unmark_said rest)) λ _.
      either (bytes_eq word (codes "root")) _ _ _ (λ e. as_step word _ rest _ e (root_said rest)) λ _.
      either (bytes_eq word (codes "pick")) _ _ _ (λ e. as_step word _ rest _ e (pick_said rest)) λ _.
      either (bytes_eq word (codes "load")) _ _ _ (λ e. as_step word _ rest _ e (load_said rest)) λ _.
      either (bytes_eq word (codes "new")) _ _ _ (λ e. as_step word _ rest _ e (new_said rest)) λ _.
      either (bytes_eq word (codes "put")) _ _ _ (λ e. as_step word _ rest _ e (put_said rest)) λ _.
      either (bytes_eq word (codes "cas")) _ _ _ (λ e. as_step word _ rest _ e (cas_said rest)) λ _.
      either (bytes_eq word (codes "casroot")) _ _ _ (λ e. as_step word _ rest _ e (casroot_said rest)) λ _.
      either (bytes_eq word (codes "jump")) _ _ _ (λ e. as_step word _ rest _ e (jump_said rest)) λ _.
      either (bytes_eq word (codes "ifeq")) _ _ _ (λ e. as_step word _ rest _ e (ifeq_said rest)) λ _.
      either (bytes_eq word (codes "ifless")) _ _ _ (λ e. as_step word _ rest _ e (ifless_said rest)) λ _.
      either (bytes_eq word (codes "ifmarked")) _ _ _ (λ e. as_step word _ rest _ e (ifmarked_said rest)) λ _.
      either (bytes_eq word (codes "commit")) _ _ _ (λ e. commit_step word e) λ _.
      either (bytes_eq word (codes "return")) _ _ _ (λ e. as_step word _ rest _ e (return_said rest)) λ _.
      either (bytes_eq word (codes "returnnone")) _ _ _ (λ e. as_step word _ rest _ e (returnnone_said rest)) λ _.
      either (bytes_eq word (codes "again")) _ _ _ (λ e. as_step word _ rest _ e (again_said rest)) λ _.
      tt
    where
      commit_step : (word : List ℕ) → bytes_eq word (codes "commit") ≡ true → IfOk (commit_line rest) (StepSays (word ∷ rest))
      commit_step word e = rw (same_word word (codes "commit") e) (commit_said rest)

  with_said : (words : List (List ℕ)) → IfOk (with_line fields words) (λ entry. codes "with" ∷ words ≡ spelled_entry fields roots entry)
  with_said words = register_then words _ _ λ a rest aw. name_then rest _ _ λ x rest xs. register_then rest _ _ λ b rest bs. register_then rest _ _ λ d rest ds. retire_then rest _ _ λ r last. field_then fields x _ _ λ i is. rw (aw, xs, bs, ds, last, is) refl

  withroot_said : (words : List (List ℕ)) → IfOk (withroot_line roots words) (λ entry. codes "withroot" ∷ words ≡ spelled_entry fields roots entry)
  withroot_said words = name_then words _ _ λ x rest xs. register_then rest _ _ λ b rest bs. register_then rest _ _ λ d rest ds. retire_then rest _ _ λ r last. root_then roots x _ _ λ i is. rw (xs, bs, ds, last, is) refl

  entry_as : (word keyword : List ℕ) (rest : List (List ℕ)) (read : Result CasEntry ℕ) → bytes_eq word keyword ≡ true → IfOk read (λ entry. keyword ∷ rest ≡ spelled_entry fields roots entry)
      → IfOk read (λ entry. word ∷ rest ≡ spelled_entry fields roots entry)
  entry_as word keyword rest (Ok entry) e says = ap (λ w. w ∷ rest) (same_word word keyword e) ∙ says
  entry_as word keyword rest (Err fault) e says = tt

  pub entry_said : (word : List ℕ) (rest : List (List ℕ)) → IfOk (entry_line fields roots word rest) (λ entry. word ∷ rest ≡ spelled_entry fields roots entry)
  entry_said word rest =
      either (bytes_eq word (codes "with")) _ _ _ (λ e. entry_as word _ rest _ e (with_said rest)) λ _.
      either (bytes_eq word (codes "withroot")) _ _ _ (λ e. entry_as word _ rest _ e (withroot_said rest)) λ _. tt
