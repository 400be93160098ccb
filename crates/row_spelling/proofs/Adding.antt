-- What is added by parts is what the whole spells.
use Rattle.std.proofs.Common.{◌≡◌, ℕ, ◌+◌, ◌<◌, ◌++◌, [], ◌∷◌, List, Option, Some, None, length, take, drop, get_or, map, true, false, suc, ◌-◌, Bor, Bool, Result, arith, rules, subst, sym, ap, ◌∙◌, refl}
use Rattle.std.proofs.lemmas.List.{take_more, append_assoc}
use Rattle.std.proofs.lemmas.Grind.{flat_map-append, common_steps}
use Rattle.std.specs.Prelude.{if◌then◌else◌}
use Rattle.std.specs.Str.{bytes_eq}
use Rattle.std.specs.String.{string_bytes}
use Rattle.std.specs.Vec.{vec_items}
use Rattle.std.specs.List.{range_with_len}
use Rattle.row_spelling.specs.Answered.{Gives}
use Rattle.row_spelling.specs.Spelling.{onto, followed, all_spelled, byte_spelled, plain_spelled, parts_spelled, lines_named}
use Rattle.row_spelling.specs.declared.error.RowError.{RowError}
use Rattle.row_spelling.specs.declared.spelling.NamedLines.{NamedLines}

-- bytes that spell one byte more
pub plain_more : (copy : ℕ) (bytes old before after : List ℕ) (i d : ℕ) → i < length bytes → before ≡ old ++ plain_spelled copy (take i bytes) → after ≡ before ++ byte_spelled copy (get_or bytes i d) → after ≡ old ++ plain_spelled copy (take (i + 1) bytes)
plain_more copy bytes old before after i d lt is added =
    let single : plain_spelled copy (get_or bytes i d ∷ []) ≡ byte_spelled copy (get_or bytes i d) = search rules in
    let whole : plain_spelled copy (take (i + 1) bytes) ≡ plain_spelled copy (take i bytes) ++ byte_spelled copy (get_or bytes i d) =
    ap (plain_spelled copy) (take_more bytes i d lt) ∙ flat_map-append (byte_spelled copy) (take i bytes) (get_or bytes i d ∷ []) ∙ ap (λ (l : List ℕ). plain_spelled copy (take i bytes) ++ l) single in
    grind (arith, common_steps)

onto-onto : (old bytes : List ℕ) (more : Option (List ℕ)) → onto old (onto bytes more) ≡ onto (old ++ bytes) more
onto-onto old bytes None = refl
onto-onto old bytes (Some last) = ap (λ (l : List ℕ). Some l) (sym (append_assoc old bytes last))

-- what follows is added to what the first thing gave
pub onto_followed : (old new : List ℕ) (one more : Option (List ℕ)) → onto old one ≡ Some new → onto old (followed one more) ≡ onto new more
onto_followed old new None more is = search rules
onto_followed old new (Some bytes) more is = onto-onto old bytes more ∙ ap (λ (o : Option (List ℕ)). followed o more) is

-- what follows something wrong is not told
pub onto_wrong : (old : List ℕ) (one more : Option (List ℕ)) → onto old one ≡ None → onto old (followed one more) ≡ None
onto_wrong old None more is = refl
onto_wrong old (Some bytes) more is = search rules

module _ {X : Type 0} (spell : X → Option (List ℕ)) where
  -- one thing more of a list is added
  pub all_more : (xs : List X) (i : ℕ) (d : X) (before after : List ℕ) → i < length xs → onto before (spell (get_or xs i d)) ≡ Some after → onto before (all_spelled spell (drop i xs)) ≡ onto after (all_spelled spell (drop (i + 1) xs))
  all_more xs i d before after lt is =
      let cut : drop i xs ≡ get_or xs i d ∷ drop (i + 1) xs = grind (arith, common_steps) in
      ap (λ ys. onto before (all_spelled spell ys)) cut ∙ onto_followed before after (spell (get_or xs i d)) (all_spelled spell (drop (i + 1) xs)) is

  -- one thing of a list is wrong
  pub all_wrong : (xs : List X) (i : ℕ) (d : X) (before : List ℕ) → i < length xs → onto before (spell (get_or xs i d)) ≡ None → onto before (all_spelled spell (drop i xs)) ≡ None
  all_wrong xs i d before lt is =
      let cut : drop i xs ≡ get_or xs i d ∷ drop (i + 1) xs = grind (arith, common_steps) in
      ap (λ ys. onto before (all_spelled spell ys)) cut ∙ onto_wrong before (spell (get_or xs i d)) (all_spelled spell (drop (i + 1) xs)) is

all-map : {X Y : Type 0} (spell : Y → Option (List ℕ)) (view : X → Y) (xs : List X) → all_spelled spell (map view xs) ≡ all_spelled (λ x. spell (view x)) xs
all-map spell view [] = refl
all-map spell view (x ∷ xs) = ap (followed (spell (view x))) (all-map spell view xs)

-- bytes are added, and then what follows
pub onto_then : (old bytes middle : List ℕ) (more read : Option (List ℕ)) → middle ≡ old ++ bytes → onto middle more ≡ read → onto old (onto bytes more) ≡ read
onto_then old bytes middle more read added rest = onto-onto old bytes more ∙ ap (λ (front : List ℕ). onto front more) (sym added) ∙ rest

-- what one thing spells is added, and then what follows
pub followed_then : (old middle : List ℕ) (one more read : Option (List ℕ)) → onto old one ≡ Some middle → onto middle more ≡ read → onto old (followed one more) ≡ read
followed_then old middle one more read added rest = onto_followed old middle one more added ∙ rest

-- what is added to nothing is all
pub onto_nothing : (old : List ℕ) (one read : Option (List ℕ)) → old ≡ [] → onto old one ≡ read → one ≡ read
onto_nothing old None read empty is = is
onto_nothing old (Some bytes) read empty is = ap (λ (front : List ℕ). Some (front ++ bytes)) (sym empty) ∙ is

module _ (before after : List ℕ → Option (List ℕ)) where
  -- the first of the parts of a text, and the others
  pub parts_first : (text : List (List ℕ)) (items slice : List (Bor (List ℕ))) (first : Bor (List ℕ)) (rest : List (Bor (List ℕ))) → map (λ part. part.now) items ≡ text → slice ≡ items → slice ≡ first ∷ rest → followed (before first.now) (all_spelled (λ part. after part.now) rest) ≡ parts_spelled before after text
  parts_first text items slice first rest shown same cut =
      ap (followed (before first.now)) (sym (all-map after (λ part. part.now) rest))
      ∙ ap (λ (parts : List (Bor (List ℕ))). parts_spelled before after (map (λ part. part.now) parts)) (sym cut ∙ same)
      ∙ ap (parts_spelled before after) shown

-- an answer to the same
pub gives_same : {X Y : Type 0} (view : X → Y) (answer : Result X RowError) (one other : Option Y) → one ≡ other → Gives view answer one → Gives view answer other
gives_same view answer one other same gives = subst (Gives view answer) same gives

-- lines have the name, and others follow
pub named_here : (named : List NamedLines) (i : ℕ) (d : NamedLines) (name : List ℕ) → i < length named → bytes_eq (string_bytes (get_or named i d).name) name ≡ true → lines_named (drop i named) name ≡ Some (vec_items (get_or named i d).bytes)
named_here named i d name lt is =
    let cut : drop i named ≡ get_or named i d ∷ drop (i + 1) named = grind (arith, common_steps) in
    ap (λ ls. lines_named ls name) cut ∙ ap (λ (b : Bool). if b then Some (vec_items (get_or named i d).bytes) else lines_named (drop (i + 1) named) name) is

-- lines have another name, so those with it follow
pub named_later : (named : List NamedLines) (i : ℕ) (d : NamedLines) (name : List ℕ) → i < length named → bytes_eq (string_bytes (get_or named i d).name) name ≡ false → lines_named (drop i named) name ≡ lines_named (drop (i + 1) named) name
named_later named i d name lt is =
    let cut : drop i named ≡ get_or named i d ∷ drop (i + 1) named = grind (arith, common_steps) in
    ap (λ ls. lines_named ls name) cut ∙ ap (λ (b : Bool). if b then Some (vec_items (get_or named i d).bytes) else lines_named (drop (i + 1) named) name) is

range_more : (a b : ℕ) → a < b → range_with_len a (b - a) ≡ a ∷ range_with_len (a + 1) (b - (a + 1))
range_more a b lt = let one : b - a ≡ suc (b - (a + 1)) = omega arith in ap (range_with_len a) one

module _ (spell : ℕ → Option (List ℕ)) where
  -- one copy more is added
  pub copies_more : (a b : ℕ) (before after : List ℕ) → a < b → onto before (spell a) ≡ Some after → onto before (all_spelled spell (range_with_len a (b - a))) ≡ onto after (all_spelled spell (range_with_len (a + 1) (b - (a + 1))))
  copies_more a b before after lt is =
      ap (λ ns. onto before (all_spelled spell ns)) (range_more a b lt) ∙ onto_followed before after (spell a) (all_spelled spell (range_with_len (a + 1) (b - (a + 1)))) is

  -- a copy is wrong
  pub copies_wrong : (a b : ℕ) (before : List ℕ) → a < b → onto before (spell a) ≡ None → onto before (all_spelled spell (range_with_len a (b - a))) ≡ None
  copies_wrong a b before lt is =
      ap (λ ns. onto before (all_spelled spell ns)) (range_more a b lt) ∙ onto_wrong before (spell a) (all_spelled spell (range_with_len (a + 1) (b - (a + 1)))) is
