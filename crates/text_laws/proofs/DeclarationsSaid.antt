-- Each line before a method that the grammar reads is spelled as the spelling writes what it says.
use Rattle.std.specs.Prelude.{◌≡◌, ℕ, ◌+◌, true, not, List, [], ◌∷◌, ◌++◌, map, length, get_or, Option, Some, IfOk, codes, decimal, nat_lt, ⊤}
use Rattle.std.specs.List.{list_any}
use Rattle.std.specs.Str.{bytes_eq}
use Rattle.std.proofs.Common.{refl, ap, ◌∙◌, sym}
use Rattle.std.proofs.lemmas.Bool.{ltb-true, leb-true, eqb-true}
use Rattle.std.proofs.lemmas.List.{append-nil}
use Rattle.norm_lang.specs.declared.text.FieldDecl.{FieldDecl}
use Rattle.norm_lang.specs.declared.text.RootDecl.{RootDecl}
use Rattle.norm_lang.specs.declared.text.Op.{Op}
use Rattle.norm_lang.specs.declared.text.Text.{Text}
use Rattle.norm_lang.specs.declared.text.Version.{Version}
use Rattle.norm_lang.specs.Faults.{number_fault, form_fault, repeated, too_many, mismatch}
use Rattle.norm_lang.specs.KindFields.{fields_of}
use Rattle.norm_lang.specs.LineWords.{StartWord, is_great, spelled_kind, start_of, is_match}
use Rattle.norm_lang.specs.Declarations.{has_field, has_root, has_op, has_kind, groups_begun, may_follow, is_next, are_matches, version_in, version_line, kind_line, field_line, nodes_line, values_at, starts_of, node_line, root_line, is_reserved, op_line, shipped_line, set_line, shipped_named, use_line}
use Rattle.norm_lang.specs.Spelling.{owner_words, kind_words, start_word, spelled_version, spelled_field, spelled_node, spelled_root, spelled_op}
use Rattle.text_laws.specs.StandsFor.{ShippedText, TheList, TheSet, TheQueue, IsShipped, spelled_use, shipped_text}
use Rattle.text_laws.proofs.Readings.{then_has, demanded, either}
use Rattle.text_laws.proofs.WordsSaid.{same_word, SaysStart, end_then, name_then, number_then, owner_then, known_then, holding_then, kind_then, start_then, value_then, up_to_then}

version_in_said : (word : List ℕ) → IfOk (version_in word) (λ version. codes "oa" ∷ word ∷ [] ≡ spelled_version version)
version_in_said word =
    either (bytes_eq word (codes "1")) _ _ (λ version. codes "oa" ∷ word ∷ [] ≡ spelled_version version) (λ e. ap (λ w. codes "oa" ∷ w ∷ []) (same_word word (codes "1") e)) λ _.
    either (bytes_eq word (codes "2")) _ _ (λ version. codes "oa" ∷ word ∷ [] ≡ spelled_version version) (λ e. ap (λ w. codes "oa" ∷ w ∷ []) (same_word word (codes "2") e)) λ _. tt

pub version_said : (words : List (List ℕ)) → IfOk (version_line words) (λ version. codes "oa" ∷ words ≡ spelled_version version)
version_said [] = tt
version_said (word ∷ rest) =
    then_has (version_in word) _ (λ version. codes "oa" ∷ word ∷ [] ≡ spelled_version version) (λ version. codes "oa" ∷ word ∷ rest ≡ spelled_version version) (version_in_said word) λ version said.
    end_then rest _ (λ version. codes "oa" ∷ word ∷ rest ≡ spelled_version version) λ last. ap (λ l. codes "oa" ∷ word ∷ l) last ∙ said

pub kind_said : (kinds words : List (List ℕ)) → IfOk (kind_line kinds words) (λ name. words ≡ name ∷ [])
kind_said kinds words =
    name_then words _ _ λ name rest ns. end_then rest _ _ λ last. demanded repeated (not (has_kind kinds name)) _ _ λ _. demanded too_many (nat_lt (length kinds) 4) _ (λ name. words ≡ name ∷ []) λ _. rw (ns, last) refl

pub field_said : (version : Version) (kinds : List (List ℕ)) (fields : List FieldDecl) (words : List (List ℕ))
    → IfOk (field_line version kinds fields words) (λ field. codes "field" ∷ words ≡ spelled_field version kinds field)
field_said version kinds fields words =
    owner_then version kinds words _ _ λ owner rest os. name_then rest _ _ λ name rest ns. holding_then version kinds rest _ _ λ holding rest hs. end_then rest _ _ λ last.
    demanded form_fault (may_follow (groups_begun fields) owner) _ _ λ _. known_then owner _ _ λ k known. kind_then holding _ _ λ kind of.
    demanded repeated (not (has_field fields name)) _ _ λ _. demanded too_many (nat_lt (length (fields_of k fields)) 4) _ _ λ _.
    rw (os.says k known, ns, hs.says kind of, last, append-nil (kind_words version kinds kind)) refl

-- the words of a count's line are those of the kind whose turn it is
pub nodes_said : (version : Version) (kinds : List (List ℕ)) (turn promised : ℕ) (words : List (List ℕ))
    → IfOk (nodes_line version kinds turn promised words) (λ count. words ≡ owner_words version kinds turn ++ (decimal count ∷ []))
nodes_said version kinds turn promised words =
    owner_then version kinds words _ _ λ owner rest os. number_then rest _ _ λ word n rest ns said. end_then rest _ _ λ last.
    demanded form_fault (is_next turn owner) _ _ λ next. value_then word n _ _ said λ v vs. known_then owner _ _ λ k known.
    up_to_then 256 (promised + v) _ (λ count. words ≡ owner_words version kinds turn ++ (decimal count ∷ [])) λ _.
    os.says turn (known ∙ ap Some (turn_is owner k known next)) ∙ ap (λ l. owner_words version kinds turn ++ l) (rw (ns, last, vs) refl)
  where
    turn_is : (owner : Option ℕ) (k : ℕ) → owner ≡ Some k → is_next turn owner ≡ true → k ≡ turn
    turn_is owner k known next = eqb-true k turn (ap (is_next turn) (sym known) ∙ next)

-- words that are read as first values
abbrev SayStarts : List (List ℕ) → List StartWord → Type 0
SayStarts [] [] = ⊤
SayStarts (word ∷ words) (read ∷ values) = SaysStart word read × SayStarts words values
SayStarts _ _ = ⊥

say_more : (words rest : List (List ℕ)) (word : List ℕ) (read : StartWord) (values : List StartWord) → words ≡ word ∷ rest → SaysStart word read → SayStarts rest values → SayStarts words (read ∷ values)
say_more words rest word read values same said others = rw same (said, others)

values_said : (fields : List FieldDecl) (words : List (List ℕ)) → IfOk (values_at fields words) (SayStarts words)
values_said [] words = end_then words _ (SayStarts words) λ last. rw last tt
values_said (field ∷ fields) words =
    start_then field.kind words _ (SayStarts words) λ word read rest here said.
    then_has (values_at fields rest) _ (SayStarts rest) (SayStarts words) (values_said fields rest) λ values others. say_more words rest word read values here said others

starts_said : (count : ℕ) (words : List (List ℕ)) (values : List StartWord) → SayStarts words values → IfOk (starts_of count values) (λ starts. words ≡ map start_word starts)
starts_said count [] [] said = refl
starts_said count [] (read ∷ values) said = absurd said
starts_said count (word ∷ words) [] said = absurd said
starts_said count (word ∷ words) (read ∷ values) said =
    then_has (start_of count read) _ (λ start. word ≡ start_word start) _ ((said.0).says count) λ start first.
    then_has (starts_of count values) _ (λ starts. words ≡ map start_word starts) _ (starts_said count words values said.1) λ starts others. rw (first, others) refl

pub node_said : (fields : List FieldDecl) (owners : List ℕ) (at : ℕ) (words : List (List ℕ)) → IfOk (node_line fields owners at words) (λ node. codes "node" ∷ words ≡ spelled_node node)
node_said fields owners at words =
    let own = fields_of (get_or owners at 0) fields in
    then_has (values_at own words) _ (SayStarts words) _ (values_said own words) λ values said.
    demanded number_fault (not (list_any is_great values)) _ _ λ _.
    then_has (starts_of (length owners) values) _ (λ starts. words ≡ map start_word starts) _ (starts_said (length owners) words values said) λ starts same.
    demanded mismatch (are_matches owners own starts) _ (λ node. codes "node" ∷ words ≡ spelled_node node) λ _. ap (λ l. codes "node" ∷ l) same

pub root_said : (version : Version) (kinds : List (List ℕ)) (owners : List ℕ) (roots : List RootDecl) (words : List (List ℕ))
    → IfOk (root_line version kinds owners roots words) (λ root. codes "root" ∷ words ≡ spelled_root version kinds root)
root_said version kinds owners roots words =
    name_then words _ _ λ name rest ns. holding_then version kinds rest _ _ λ holding rest hs. start_then (spelled_kind holding) rest _ _ λ word read rest ss said. end_then rest _ _ λ last.
    then_has (start_of (length owners) read) _ (λ start. word ≡ start_word start) _ (said.says (length owners)) λ start same. kind_then holding _ _ λ kind of.
    demanded repeated (not (has_root roots name)) _ _ λ _. demanded too_many (nat_lt (length roots) 256) _ _ λ _. demanded mismatch (is_match owners kind start) _ _ λ _.
    rw (ns, hs.says kind of, ss, last, same) refl

-- an operation without code, and the words of its line
pub record SaysOp (words : List (List ℕ)) (op : Op) : Type 0 where
  pub line : codes "op" ∷ words ≡ spelled_op op
  pub no_generator : op.generator ≡ []
  pub no_wrap_up : op.wrapup ≡ []

pub op_said : (ops : List Op) (words : List (List ℕ)) → IfOk (op_line ops words) (SaysOp words)
op_said ops words =
    name_then words _ _ λ name rest ns. number_then rest _ _ λ word n rest cs said. end_then rest _ _ λ last.
    demanded form_fault (not (is_reserved name)) _ _ λ _. value_then word n _ _ said λ v vs.
    demanded repeated (not (has_op ops name)) _ _ λ _. demanded too_many (nat_lt (length ops) 16) _ _ λ _. up_to_then 4 v _ _ λ _.
    record { line = rw (ns, cs, last, vs) refl; no_generator = refl; no_wrap_up = refl }

-- the words of a `use` line, and its text
pub record NamesBy (words : List (List ℕ)) (text : Text) : Type 0 where
  pub shipped : ShippedText
  pub may_be : IsShipped shipped
  pub line : words ≡ spelled_use shipped
  pub named : text ≡ shipped_text shipped

shipped_said : (shipped : ShippedText) (words rest : List (List ℕ)) → IsShipped shipped → (rest ≡ [] → words ≡ spelled_use shipped) → IfOk (shipped_line (shipped_text shipped) rest) (NamesBy words)
shipped_said shipped words rest may line = end_then rest _ (NamesBy words) λ last. record { shipped = shipped; may_be = may; line = line last; named = refl }

set_said : (words rest : List (List ℕ)) → words ≡ codes "use" ∷ codes "set" ∷ rest → IfOk (set_line rest) (NamesBy words)
set_said words rest here =
    number_then rest _ (NamesBy words) λ word n rest ns said. end_then rest _ (NamesBy words) λ last. value_then word n _ (NamesBy words) said λ v vs.
    demanded too_many (nat_lt 0 v) _ (NamesBy words) λ some. up_to_then 64 v _ (NamesBy words) λ few.
    record { shipped = TheSet v; may_be = (ltb-true 0 v some, leb-true v 64 few); line = rw (here, ns, last, vs) refl; named = refl }

named_said : (word : List ℕ) (rest : List (List ℕ)) → IfOk (shipped_named word rest) (NamesBy (codes "use" ∷ word ∷ rest))
named_said word rest =
    either (bytes_eq word (codes "list")) _ _ (NamesBy (codes "use" ∷ word ∷ rest)) (λ e. shipped_said TheList _ rest tt λ last. rw (same_word word (codes "list") e, last) refl) λ _.
    either (bytes_eq word (codes "set")) _ _ (NamesBy (codes "use" ∷ word ∷ rest)) (λ e. set_said _ rest (rw (same_word word (codes "set") e) refl)) λ _.
    either (bytes_eq word (codes "queue")) _ _ (NamesBy (codes "use" ∷ word ∷ rest)) (λ e. shipped_said TheQueue _ rest tt λ last. rw (same_word word (codes "queue") e, last) refl) λ _. tt

pub use_said : (words : List (List ℕ)) → IfOk (use_line words) (NamesBy (codes "use" ∷ words))
use_said [] = tt
use_said (word ∷ rest) = named_said word rest
