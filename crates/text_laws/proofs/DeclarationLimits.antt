-- Each line before a method's instructions declares what is within the limits.
use Rattle.std.specs.Prelude.{◌≡◌, ℕ, zero, suc, ◌+◌, true, not, ◌&&◌, List, [], ◌∷◌, length, get_or, Some, None, Result, IfOk, nat_lt, nat_le, codes, ⊤, ◌==◌}
use Rattle.std.specs.List.{list_any}
use Rattle.std.specs.Str.{bytes_eq}
use Rattle.std.proofs.Common.{refl, arith}
use Rattle.std.proofs.lemmas.Bool.{and_from, and_parts}
use Rattle.std.proofs.lemmas.Bool.Decides.{nat_tests}
use Rattle.norm_lang.specs.declared.text.FieldKind.{FieldKind}
use Rattle.norm_lang.specs.declared.text.FieldKind.TheVariants as holdings
use Rattle.norm_lang.specs.declared.text.Start.TheVariants as starts
use Rattle.norm_lang.specs.declared.text.FieldDecl.{FieldDecl}
use Rattle.norm_lang.specs.declared.text.RootDecl.{RootDecl}
use Rattle.norm_lang.specs.declared.text.NodeDecl.{NodeDecl}
use Rattle.norm_lang.specs.declared.text.Op.{Op}
use Rattle.norm_lang.specs.declared.text.Text.{Text}
use Rattle.norm_lang.specs.declared.text.Version.{Version}
use Rattle.norm_lang.specs.Faults.{◌>>=◌, number_fault, form_fault, repeated, too_many, mismatch}
use Rattle.norm_lang.specs.KindFields.{fields_of}
use Rattle.norm_lang.specs.LineWords.{StartWord, Value, Null, At, Holding, OfNumbers, OfNodes, word_at, end_at, is_name, number_in, holding_by, holding_at, kind_of_holding, spelled_kind, is_great, node_in, start_in, start_at, start_of, is_match}
use Rattle.norm_lang.specs.Declarations.{has_field, has_root, has_op, has_kind, kind_line, groups_begun, may_follow, field_line, is_next, nodes_line, values_at, starts_of, are_matches, node_line, root_line, is_reserved, op_line, shipped_line, set_line, shipped_named, use_line}
use Rattle.norm_lang.specs.Shipped.{set_text, queue_text}
use Rattle.norm_lang.specs.Limits.{is_kind, is_field, is_start, are_starts, is_root, is_within_limits}
use Rattle.text_laws.specs.StandsFor.{KindsOf}
use Rattle.text_laws.proofs.Readings.{then_has, anyhow, demanded, either}
use Rattle.text_laws.proofs.LineLimits.{Fits, number_in_fits, number_then, name_then, value_then, up_to_then, IsOwner, owner_then, declared_then}
use Rattle.text_laws.proofs.Declared.{IsNext}
use Rattle.text_laws.proofs.FieldGroups.{Follows}
use Rattle.norm_lang.proofs.ShippedLimits.{set_is_within, queue_is_within}

-- a first value as it is spelled suits the kind
abbrev pub Suits : FieldKind → StartWord → Type 0
Suits holdings.Number (Value n) = Fits n
Suits (holdings.Reference k) Null = ⊤
Suits (holdings.Reference k) (At j) = ⊤
Suits _ _ = ⊥

node_in_suits : (k : ℕ) (word : List ℕ) → IfOk (node_in word) (Suits (holdings.Reference k))
node_in_suits k [] = tt
node_in_suits k (b ∷ bytes) = demanded form_fault (b == 64) _ _ λ _. anyhow (number_in bytes) _ _ λ j. tt

start_in_suits : (kind : FieldKind) (word : List ℕ) → IfOk (start_in kind word) (Suits kind)
start_in_suits holdings.Number word = then_has (number_in word) _ Fits _ (number_in_fits word) λ n h. h
start_in_suits (holdings.Reference k) word = either (bytes_eq word (codes "null")) _ _ _ (λ _. tt) (λ _. node_in_suits k word)

start_at_suits : (kind : FieldKind) (words : List (List ℕ)) → IfOk (start_at kind words) (λ t. Suits kind t.0)
start_at_suits kind [] = tt
start_at_suits kind (word ∷ rest) = then_has (start_in kind word) _ (Suits kind) _ (start_in_suits kind word) λ s h. h

-- a first value is read, and then what is read after it has P
start_then : {B : Type 0} (kind : FieldKind) (words : List (List ℕ)) (f : StartWord × List (List ℕ) → Result B ℕ) (P : B → Type 0)
    → ((s : StartWord) (rest : List (List ℕ)) → Suits kind s → IfOk (f (s, rest)) P) → IfOk (start_at kind words >>= f) P
start_then kind words f P next = then_has (start_at kind words) f (λ t. Suits kind t.0) P (start_at_suits kind words) λ t h. next t.0 t.1 h

-- a first value that suits what its place holds, and fits it, is within the limits
start_of_fits : (owners : List ℕ) (count : ℕ) (kind : FieldKind) (s : StartWord) → Suits kind s
    → IfOk (start_of count s) (λ s. is_match owners kind s ≡ true → is_start owners kind s ≡ true)
start_of_fits owners count holdings.Number (Value n) suits = value_then n _ _ suits λ v h _. h
start_of_fits owners count holdings.Number Null suits = absurd suits
start_of_fits owners count holdings.Number (At j) suits = absurd suits
start_of_fits owners count (holdings.Reference k) (Value n) suits = absurd suits
start_of_fits owners count (holdings.Reference k) Null suits = λ _. refl
start_of_fits owners count (holdings.Reference k) (At None) suits = tt
start_of_fits owners count (holdings.Reference k) (At (Some j)) suits = either (nat_lt 0 j && nat_le j count) _ _ _ (λ _. node_is j) (λ _. tt)
  where
    node_is : (j : ℕ) → is_match owners (holdings.Reference k) (starts.Node j) ≡ true → is_start owners (holdings.Reference k) (starts.Node j) ≡ true
    node_is zero fits = refl
    node_is (suc j) fits = fits

-- first values as they are spelled suit the fields
abbrev AllSuit : List FieldDecl → List StartWord → Type 0
AllSuit [] [] = ⊤
AllSuit (field ∷ fields) (s ∷ words) = Suits field.kind s × AllSuit fields words
AllSuit _ _ = ⊥

values_suit : (fields : List FieldDecl) (words : List (List ℕ)) → IfOk (values_at fields words) (AllSuit fields)
values_suit [] words = anyhow (end_at words) _ _ λ done. tt
values_suit (field ∷ fields) words =
    start_then field.kind words _ _ λ s rest h. then_has (values_at fields rest) _ (AllSuit fields) _ (values_suit fields rest) λ more hs. (h, hs)

starts_fit : (owners : List ℕ) (count : ℕ) (fields : List FieldDecl) (words : List StartWord) → AllSuit fields words
    → IfOk (starts_of count words) (λ starts. are_matches owners fields starts ≡ true → are_starts owners fields starts ≡ true)
starts_fit owners count [] [] suits = λ _. refl
starts_fit owners count [] (s ∷ words) suits = absurd suits
starts_fit owners count (field ∷ fields) [] suits = absurd suits
starts_fit owners count (field ∷ fields) (s ∷ words) suits =
    then_has (start_of count s) _ (λ start. is_match owners field.kind start ≡ true → is_start owners field.kind start ≡ true) _ (start_of_fits owners count field.kind s suits.0) λ start h.
    then_has (starts_of count words) _ (λ starts. are_matches owners fields starts ≡ true → are_starts owners fields starts ≡ true) _ (starts_fit owners count fields words suits.1) λ more hs matches.
    let parts = and_parts (is_match owners field.kind start) (are_matches owners fields more) matches in
    and_from _ _ (h parts.0) (hs parts.1)

-- what is held: nodes of one of so many kinds, or of none that is declared
abbrev pub Holds : ℕ → Holding → Type 0
Holds kinds OfNumbers = ⊤
Holds kinds (OfNodes owner) = IsOwner kinds owner

module _ (version : Version) (kinds : List (List ℕ)) (named : KindsOf version kinds) where
  holding_by_holds : (word : List ℕ) (rest : List (List ℕ)) → IfOk (holding_by version kinds word rest) (λ t. Holds (length kinds) t.0)
  holding_by_holds word rest =
      either (bytes_eq word (codes "num")) _ _ _ (λ _. tt) λ _.
      either (bytes_eq word (codes "ref")) _ _ _ (λ _. owner_then version kinds rest _ _ named λ owner rest is. is) λ _. tt

  holding_at_holds : (words : List (List ℕ)) → IfOk (holding_at version kinds words) (λ t. Holds (length kinds) t.0)
  holding_at_holds [] = tt
  holding_at_holds (word ∷ rest) = holding_by_holds word rest

  -- what is held is read, and then what is read after it has P
  holding_then : {B : Type 0} (words : List (List ℕ)) (f : Holding × List (List ℕ) → Result B ℕ) (P : B → Type 0)
      → ((holding : Holding) (rest : List (List ℕ)) → Holds (length kinds) holding → IfOk (f (holding, rest)) P) → IfOk (holding_at version kinds words >>= f) P
  holding_then words f P next = then_has (holding_at version kinds words) f (λ t. Holds (length kinds) t.0) P (holding_at_holds words) λ t h. next t.0 t.1 h

-- what is held is declared, and then what is read has P: it is as a first value's spelling takes it
kind_then : {B : Type 0} (kinds : ℕ) (holding : Holding) (f : FieldKind → Result B ℕ) (P : B → Type 0) → Holds kinds holding
    → ((kind : FieldKind) → is_kind kinds kind ≡ true → spelled_kind holding ≡ kind → IfOk (f kind) P) → IfOk (kind_of_holding holding >>= f) P
kind_then kinds OfNumbers f P holds next = next holdings.Number refl refl
kind_then kinds (OfNodes None) f P holds next = tt
kind_then kinds (OfNodes (Some k)) f P holds next = next (holdings.Reference k) holds refl

-- the next kind, with its name
abbrev pub NextKind : List (List ℕ) → List ℕ → Type 0
NextKind kinds name = IsNext 4 (λ kind. kind) kinds name × (is_name name ≡ true)

pub kind_fits : (kinds words : List (List ℕ)) → IfOk (kind_line kinds words) (NextKind kinds)
kind_fits kinds words =
    name_then words _ _ λ name rest named. anyhow (end_at rest) _ _ λ done.
    demanded repeated (not (has_kind kinds name)) _ _ λ new. demanded too_many (nat_lt (length kinds) 4) _ _ λ room.
    (record { room = room; new = new }, named)

-- the next field, within the limits
pub record NextField (kinds : ℕ) (fields : List FieldDecl) (field : FieldDecl) : Type 0 where
  pub follows : Follows fields field
  pub new : not (has_field fields field.name) ≡ true
  pub fine : is_field kinds field ≡ true

pub field_fits : (version : Version) (kinds : List (List ℕ)) (fields : List FieldDecl) (words : List (List ℕ)) → KindsOf version kinds
    → IfOk (field_line version kinds fields words) (NextField (length kinds) fields)
field_fits version kinds fields words are =
    owner_then version kinds words _ _ are λ owner rest owned. name_then rest _ _ λ name rest named. holding_then version kinds are rest _ _ λ holding rest holds. anyhow (end_at rest) _ _ λ done.
    demanded form_fault (may_follow (groups_begun fields) owner) _ _ λ turn. declared_then (length kinds) owner _ _ owned λ k is below.
    kind_then (length kinds) holding _ _ holds λ kind of same. demanded repeated (not (has_field fields name)) _ _ λ new. demanded too_many (nat_lt (length (fields_of k fields)) 4) _ _ λ room.
    record { follows = record { turn = rw is at turn; room = room }; new = new; fine = and_from _ _ named (and_from _ _ below of) }

-- the next count of nodes, for the kind whose turn it is, with so many promised
pub record NextCount (kinds turn promised count : ℕ) : Type 0 where
  pub below : nat_lt turn kinds ≡ true
  pub few : nat_le (promised + count) 256 ≡ true

pub nodes_fit : (version : Version) (kinds : List (List ℕ)) (turn promised : ℕ) (words : List (List ℕ)) → KindsOf version kinds
    → IfOk (nodes_line version kinds turn promised words) (NextCount (length kinds) turn promised)
nodes_fit version kinds turn promised words are =
    owner_then version kinds words _ _ are λ owner rest owned. number_then rest _ _ λ n rest h. anyhow (end_at rest) _ _ λ done.
    demanded form_fault (is_next turn owner) _ _ λ next. value_then n _ _ h λ v _. declared_then (length kinds) owner _ _ owned λ k is below.
    up_to_then 256 (promised + v) _ _ λ few. record { below = turns k (rw is at next) below; few = few }
  where
    turns : (k : ℕ) → (k == turn) ≡ true → nat_lt k (length kinds) ≡ true → nat_lt turn (length kinds) ≡ true
    turns k same below = grind (arith, nat_tests)

-- the next node, of the kind that is promised
pub record NextNode (fields : List FieldDecl) (owners : List ℕ) (at : ℕ) (node : NodeDecl) : Type 0 where
  pub owner : node.owner ≡ get_or owners at 0
  pub starts : are_starts owners (fields_of node.owner fields) node.values ≡ true

pub node_fits : (fields : List FieldDecl) (owners : List ℕ) (at : ℕ) (words : List (List ℕ)) → IfOk (node_line fields owners at words) (NextNode fields owners at)
node_fits fields owners at words =
    then_has (values_at (fields_of (get_or owners at 0) fields) words) _ (AllSuit (fields_of (get_or owners at 0) fields)) _ (values_suit (fields_of (get_or owners at 0) fields) words) λ values suit.
    demanded number_fault (not (list_any is_great values)) _ _ λ _.
    then_has (starts_of (length owners) values) _ _ _ (starts_fit owners (length owners) (fields_of (get_or owners at 0) fields) values suit) λ starts h.
    demanded mismatch (are_matches owners (fields_of (get_or owners at 0) fields) starts) _ _ λ matches.
    record { owner = refl; starts = h matches }

-- the next root, with its name and its first value, given so many kinds and initial nodes of these
abbrev pub NextRoot : ℕ → List ℕ → List RootDecl → RootDecl → Type 0
NextRoot kinds owners roots root = IsNext 256 (λ root. root.name) roots root × (is_root kinds owners root ≡ true)

pub root_fits : (version : Version) (kinds : List (List ℕ)) (owners : List ℕ) (roots : List RootDecl) (words : List (List ℕ)) → KindsOf version kinds
    → IfOk (root_line version kinds owners roots words) (NextRoot (length kinds) owners roots)
root_fits version kinds owners roots words are =
    name_then words _ _ λ name rest named. holding_then version kinds are rest _ _ λ holding rest holds.
    start_then (spelled_kind holding) rest _ _ λ s rest suits. anyhow (end_at rest) _ _ λ done.
    then_has (start_of (length owners) s) _ (λ start. is_match owners (spelled_kind holding) start ≡ true → is_start owners (spelled_kind holding) start ≡ true) _
    (start_of_fits owners (length owners) (spelled_kind holding) s suits) λ start fits.
    kind_then (length kinds) holding _ _ holds λ kind of same. demanded repeated (not (has_root roots name)) _ _ λ new. demanded too_many (nat_lt (length roots) 256) _ _ λ room.
    demanded mismatch (is_match owners kind start) _ _ λ matches.
    (record { room = room; new = new }, and_from _ _ named (and_from _ _ of (rw same at fits matches)))

-- the next operation, without code
pub record NextOp (ops : List Op) (op : Op) : Type 0 where
  pub next : IsNext 16 (λ op. op.name) ops op
  pub named : is_name op.name && not (is_reserved op.name) ≡ true
  pub args : nat_le op.args 4 ≡ true
  pub no_generator : op.generator ≡ []
  pub no_wrap_up : op.wrapup ≡ []

pub op_fits : (ops : List Op) (words : List (List ℕ)) → IfOk (op_line ops words) (NextOp ops)
op_fits ops words =
    name_then words _ _ λ name rest named. number_then rest _ _ λ n rest h. anyhow (end_at rest) _ _ λ done.
    demanded form_fault (not (is_reserved name)) _ _ λ free. value_then n _ _ h λ v _.
    demanded repeated (not (has_op ops name)) _ _ λ new. demanded too_many (nat_lt (length ops) 16) _ _ λ room. up_to_then 4 v _ _ λ few.
    record { next = record { room = room; new = new }; named = and_from _ _ named free; args = few; no_generator = refl; no_wrap_up = refl }

shipped_fits : (text : Text) (words : List (List ℕ)) → is_within_limits text ≡ true → IfOk (shipped_line text words) (λ text. is_within_limits text ≡ true)
shipped_fits text words h = anyhow (end_at words) _ _ λ done. h

set_fits : (words : List (List ℕ)) → IfOk (set_line words) (λ text. is_within_limits text ≡ true)
set_fits words =
    number_then words _ _ λ n rest h. anyhow (end_at rest) _ _ λ done. value_then n _ _ h λ v _.
    demanded too_many (nat_lt 0 v) _ _ λ some. up_to_then 64 v _ _ λ few. set_is_within v some few

shipped_named_fits : (word : List ℕ) (rest : List (List ℕ)) → IfOk (shipped_named word rest) (λ text. is_within_limits text ≡ true)
shipped_named_fits word rest =
    either (bytes_eq word (codes "list")) _ _ _ (λ _. shipped_fits (set_text 1) rest (set_is_within 1 refl refl)) λ _.
    either (bytes_eq word (codes "set")) _ _ _ (λ _. set_fits rest) λ _.
    either (bytes_eq word (codes "queue")) _ _ _ (λ _. shipped_fits queue_text rest queue_is_within) λ _. tt

pub use_fits : (words : List (List ℕ)) → IfOk (use_line words) (λ text. is_within_limits text ≡ true)
use_fits words = anyhow (word_at words) _ _ λ (word : List ℕ × List (List ℕ)). shipped_named_fits word.0 word.1
