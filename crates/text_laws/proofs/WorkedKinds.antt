-- Texts of the second version worked out by hand: what they are, or their first fault. Each computes from the definition.
use Rattle.std.specs.Prelude.{◌≡◌, ℕ, true, false, List, [], ◌∷◌, ◌++◌, is_ok, Some, None, Ok, codes, replicate}
use Rattle.std.specs.List.{flat_map}
use Rattle.std.specs.Fmt.{digits}
use Rattle.std.proofs.Common.{refl}
use Rattle.norm_lang.specs.declared.text.Reg.TheVariants.{Num, Ref}
use Rattle.norm_lang.specs.declared.text.FieldKind.TheVariants as holdings
use Rattle.norm_lang.specs.declared.text.Start.TheVariants as starts
use Rattle.norm_lang.specs.declared.text.Place.TheVariants as places
use Rattle.norm_lang.specs.declared.text.Instr.TheVariants as instr
use Rattle.norm_lang.specs.declared.text.Text.{Text}
use Rattle.norm_lang.specs.declared.text.Version.TheVariants.{First}
use Rattle.norm_lang.specs.Shipped.{set_text}
use Rattle.norm_lang.specs.Spelling.{line_bytes, spelled_by, spelling_of}
use Rattle.norm_lang.specs.Limits.{is_within_limits}
use Rattle.norm_lang.specs.Grammar.{text_in, fault_in}
use Rattle.text_laws.proofs.WorkedTexts.{counter, counter_text, is_fault, are_judged, behind}

-- two kinds, whose fields refer to both
abbrev declarations : List (List ℕ)
declarations =
    codes "oa 2"
    ∷ codes "kind item"
    ∷ codes "kind pair"
    ∷ codes "field item key num"
    ∷ codes "field item next ref item"
    ∷ codes "field item both ref pair"
    ∷ codes "field pair left ref item"
    ∷ codes "field pair right ref pair"
    ∷ codes "nodes item 2"
    ∷ codes "nodes pair 1"
    ∷ codes "node 5 @2 @3"
    ∷ codes "node 6 null null"
    ∷ codes "node @1 @3"
    ∷ codes "root total num 7"
    ∷ codes "root top ref item @2"
    ∷ codes "root duo ref pair @3"
    ∷ codes "root none ref pair null"
    ∷ []

-- an operation with a `new` of each kind
abbrev two_kinds : List (List ℕ)
two_kinds = declarations
    ++ (codes "op make 2"
    ∷ codes "gen"
    ∷ codes "new r0 pair"
    ∷ codes "new r1 item"
    ∷ codes "put r1 key n0"
    ∷ codes "put r0 left r1"
    ∷ codes "root r2 duo"
    ∷ codes "load r3 r2 right"
    ∷ codes "commit 1"
    ∷ codes "with r2 right r3 r0"
    ∷ codes "wrap"
    ∷ codes "return n1"
    ∷ [])

abbrev two_kinds_text : Text
two_kinds_text = record {
  kinds = codes "item" ∷ codes "pair" ∷ [];
  fields =
      record { owner = 0; name = codes "key"; kind = holdings.Number }
      ∷ record { owner = 0; name = codes "next"; kind = holdings.Reference 0 }
      ∷ record { owner = 0; name = codes "both"; kind = holdings.Reference 1 }
      ∷ record { owner = 1; name = codes "left"; kind = holdings.Reference 0 }
      ∷ record { owner = 1; name = codes "right"; kind = holdings.Reference 1 }
      ∷ [];
  roots =
      record { name = codes "total"; kind = holdings.Number; start = starts.Value 7 }
      ∷ record { name = codes "top"; kind = holdings.Reference 0; start = starts.Node 2 }
      ∷ record { name = codes "duo"; kind = holdings.Reference 1; start = starts.Node 3 }
      ∷ record { name = codes "none"; kind = holdings.Reference 1; start = starts.Node 0 }
      ∷ [];
  nodes =
      record { owner = 0; values = starts.Value 5 ∷ starts.Node 2 ∷ starts.Node 3 ∷ [] }
      ∷ record { owner = 0; values = starts.Value 6 ∷ starts.Node 0 ∷ starts.Node 0 ∷ [] }
      ∷ record { owner = 1; values = starts.Node 1 ∷ starts.Node 3 ∷ [] }
      ∷ [];
  ops = record {
    name = codes "make";
    args = 2;
    generator =
        instr.New (Ref 0) 1
        ∷ instr.New (Ref 1) 0
        ∷ instr.Put (Ref 1) 0 (Num 0)
        ∷ instr.Put (Ref 0) 3 (Ref 1)
        ∷ instr.LoadRoot (Ref 2) 2
        ∷ instr.LoadField (Ref 3) (Ref 2) 4
        ∷ instr.Commit (record { place = places.Field (Ref 2) 4; expected = Ref 3; replacement = Ref 0; retire = None } ∷ [])
        ∷ [];
    wrapup = instr.Return (Num 1) ∷ [];
  } ∷ [];
}

two_kinds_is : text_in two_kinds ≡ Ok two_kinds_text
two_kinds_is = refl

-- lines in bytes, with a newline after each
abbrev in_bytes : List (List ℕ) → List ℕ
in_bytes lines = flat_map (λ line. line ++ 10 ∷ []) lines

-- its lines are its canonical spelling
two_kinds_spelled : spelling_of two_kinds_text ≡ in_bytes two_kinds
unfolding digits
two_kinds_spelled = refl

two_kinds_within : is_within_limits two_kinds_text ≡ true
unfolding digits
two_kinds_within = refl

-- fields or nodes out of their order, a kind without a field, a node of another kind, and an undeclared kind are outside the limits
fields_apart : is_within_limits (record two_kinds_text {
  fields =
      record { owner = 0; name = codes "key"; kind = holdings.Number }
      ∷ record { owner = 0; name = codes "next"; kind = holdings.Reference 0 }
      ∷ record { owner = 1; name = codes "left"; kind = holdings.Reference 0 }
      ∷ record { owner = 0; name = codes "both"; kind = holdings.Reference 1 }
      ∷ record { owner = 1; name = codes "right"; kind = holdings.Reference 1 }
      ∷ [];
}) ≡ false
unfolding digits
fields_apart = refl

nodes_apart : is_within_limits (record two_kinds_text {
  nodes =
      record { owner = 0; values = starts.Value 5 ∷ starts.Node 3 ∷ starts.Node 2 ∷ [] }
      ∷ record { owner = 1; values = starts.Node 1 ∷ starts.Node 0 ∷ [] }
      ∷ record { owner = 0; values = starts.Value 6 ∷ starts.Node 0 ∷ starts.Node 0 ∷ [] }
      ∷ [];
  roots = record { name = codes "total"; kind = holdings.Number; start = starts.Value 7 } ∷ [];
}) ≡ false
unfolding digits
nodes_apart = refl

no_field : is_within_limits (record two_kinds_text { kinds = codes "item" ∷ codes "pair" ∷ codes "more" ∷ [] }) ≡ false
unfolding digits
no_field = refl

other_kind : is_within_limits (record two_kinds_text { roots = record { name = codes "top"; kind = holdings.Reference 0; start = starts.Node 3 } ∷ [] }) ≡ false
unfolding digits
other_kind = refl

undeclared : is_within_limits (record two_kinds_text { roots = record { name = codes "top"; kind = holdings.Reference 2; start = starts.Node 0 } ∷ [] }) ≡ false
unfolding digits
undeclared = refl

-- the counter in the second version
abbrev second_counter : List (List ℕ)
second_counter =
    codes "oa 2"
    ∷ codes "kind item"
    ∷ codes "field item pad num"
    ∷ codes "nodes item 0"
    ∷ codes "root total num 0"
    ∷ codes "op add 1"
    ∷ codes "gen"
    ∷ codes "root n1 total"
    ∷ codes "add n2 n1 n0"
    ∷ codes "commit 1"
    ∷ codes "withroot total n1 n2"
    ∷ codes "wrap"
    ∷ codes "set n3 0"
    ∷ codes "ifeq n7 n3 3"
    ∷ codes "return n2"
    ∷ codes "again"
    ∷ codes "op nop 0"
    ∷ codes "gen"
    ∷ codes "commit 0"
    ∷ codes "wrap"
    ∷ codes "returnnone"
    ∷ []

second_counter_is : text_in second_counter ≡ Ok counter_text
second_counter_is = refl

-- one text in both versions
counter_spelled : spelling_of counter_text ≡ in_bytes second_counter
unfolding digits
counter_spelled = refl

first_spelled : flat_map line_bytes (spelled_by First counter_text) ≡ in_bytes counter
unfolding digits
first_spelled = refl

-- a text with nodes, references and a `new`, in both versions
abbrev stack_text : Text
stack_text = record {
  kinds = codes "item" ∷ [];
  fields = record { owner = 0; name = codes "key"; kind = holdings.Number } ∷ record { owner = 0; name = codes "next"; kind = holdings.Reference 0 } ∷ [];
  roots = record { name = codes "top"; kind = holdings.Reference 0; start = starts.Node 1 } ∷ [];
  nodes = record { owner = 0; values = starts.Value 5 ∷ starts.Node 1 ∷ [] } ∷ [];
  ops = record {
    name = codes "push";
    args = 1;
    generator =
        instr.New (Ref 0) 0
        ∷ instr.LoadRoot (Ref 1) 0
        ∷ instr.Commit (record { place = places.Root 0; expected = Ref 1; replacement = Ref 0; retire = Some (Ref 1) } ∷ [])
        ∷ [];
    wrapup = instr.ReturnNone ∷ [];
  } ∷ [];
}

abbrev stack_code : List (List ℕ)
stack_code =
    codes "root r1 top"
    ∷ codes "commit 1"
    ∷ codes "withroot top r1 r0 retire r1"
    ∷ codes "wrap"
    ∷ codes "returnnone"
    ∷ []

first_stack : text_in (
    codes "oa 1"
    ∷ codes "field key num"
    ∷ codes "field next ref"
    ∷ codes "nodes 1"
    ∷ codes "node 5 @1"
    ∷ codes "root top ref @1"
    ∷ codes "op push 1"
    ∷ codes "gen"
    ∷ codes "new r0"
    ∷ stack_code) ≡ Ok stack_text
first_stack = refl

second_stack : text_in (
    codes "oa 2"
    ∷ codes "kind item"
    ∷ codes "field item key num"
    ∷ codes "field item next ref item"
    ∷ codes "nodes item 1"
    ∷ codes "node 5 @1"
    ∷ codes "root top ref item @1"
    ∷ codes "op push 1"
    ∷ codes "gen"
    ∷ codes "new r0 item"
    ∷ stack_code) ≡ Ok stack_text
second_stack = refl

-- kinds may have names of declarations, and words of the lines
words_as_names : is_ok (text_in (
    codes "oa 2"
    ∷ codes "kind num"
    ∷ codes "kind ref"
    ∷ codes "kind null"
    ∷ codes "field num num num"
    ∷ codes "field ref ref ref num"
    ∷ codes "field null null ref ref"
    ∷ codes "nodes num 0"
    ∷ codes "nodes ref 1"
    ∷ codes "nodes null 1"
    ∷ codes "node null"
    ∷ codes "node @1"
    ∷ codes "root num ref ref @1"
    ∷ codes "op kind 0"
    ∷ codes "gen"
    ∷ codes "new r0 null"
    ∷ codes "commit 0"
    ∷ codes "wrap"
    ∷ codes "returnnone"
    ∷ [])) ≡ true
words_as_names = refl

-- the first line, and a shipped text after it
starts_with : are_judged 1 (
    (codes "oa 3" ∷ [], 4)
    ∷ (codes "oa 2 1" ∷ [], 4)
    ∷ (codes "oa 02" ∷ [], 4)
    ∷ (codes "oa two" ∷ [], 4)
    ∷ []) ≡ true
starts_with = refl

sets : text_in (codes "oa 2" ∷ codes "# the greatest set" ∷ codes "use set 64" ∷ []) ≡ Ok (set_text 64)
sets = refl

-- the lines after the version
openings : are_judged 2 (behind (codes "oa 2" ∷ []) (
    (codes "field item key num", 4)
    ∷ (codes "field key num", 4)
    ∷ (codes "nodes item 0", 4)
    ∷ (codes "kind", 4)
    ∷ (codes "kind Item", 4)
    ∷ (codes "kind item pair", 4)
    ∷ (codes "kind a2345678901234567", 4)
    ∷ (codes "oa 2", 4)
    ∷ (codes "use set 65", 7)
    ∷ (codes "op add 1", 4)
    ∷ [])) ≡ true
openings = refl

-- the lines after two kinds
kinds : are_judged 4 (behind (codes "oa 2" ∷ codes "kind a" ∷ codes "kind b" ∷ []) (
    (codes "kind a", 6)
    ∷ (codes "kind b c", 4)
    ∷ (codes "field b x num", 4)
    ∷ (codes "field b x ref c", 4)
    ∷ (codes "field c x num", 5)
    ∷ (codes "field c x ref b", 5)
    ∷ (codes "field a x ref c", 5)
    ∷ (codes "field a x ref", 4)
    ∷ (codes "field a x ref b a", 4)
    ∷ (codes "field a x num b", 4)
    ∷ (codes "field a x word", 4)
    ∷ (codes "field a x", 4)
    ∷ (codes "field x num", 4)
    ∷ (codes "field num num num", 5)
    ∷ (codes "nodes a 0", 4)
    ∷ (codes "root x num 0", 4)
    ∷ (codes "use list", 4)
    ∷ [])) ≡ true
kinds = refl

-- the lines after four kinds
four_kinds : are_judged 6 (behind (codes "oa 2" ∷ codes "kind a" ∷ codes "kind b" ∷ codes "kind c" ∷ codes "kind d" ∷ []) (
    (codes "kind e", 7)
    ∷ (codes "kind d", 6)
    ∷ (codes "kind e f", 4)
    ∷ [])) ≡ true
four_kinds = refl

-- the lines after the fields of the first kind
first_group : are_judged 5 (behind (codes "oa 2" ∷ codes "kind a" ∷ codes "kind b" ∷ codes "field a x num" ∷ []) (
    (codes "kind c", 4)
    ∷ (codes "field a x num", 6)
    ∷ (codes "field b x num", 6)
    ∷ (codes "nodes a 0", 4)
    ∷ [])) ≡ true
first_group = refl

-- the lines after four fields of a kind
whole_group : are_judged 8 (behind (codes "oa 2" ∷ codes "kind a" ∷ codes "kind b" ∷ codes "field a x num" ∷ codes "field a y num" ∷ codes "field a z ref a" ∷ codes "field a w ref b" ∷ []) (
    (codes "field a v num", 7)
    ∷ (codes "field a x num", 6)
    ∷ (codes "field a x ref c", 5)
    ∷ (codes "field a v ref c", 5)
    ∷ (codes "field b x num", 6)
    ∷ (codes "nodes a 0", 4)
    ∷ [])) ≡ true
whole_group = refl

-- the fields of two kinds
abbrev two_groups : List (List ℕ)
two_groups = codes "oa 2" ∷ codes "kind a" ∷ codes "kind b" ∷ codes "field a x num" ∷ codes "field a y ref b" ∷ codes "field b z ref a" ∷ []

-- the lines after them
groups : are_judged 7 (behind two_groups (
    (codes "field a w num", 4)
    ∷ (codes "field a x num", 4)
    ∷ (codes "field a w ref c", 4)
    ∷ (codes "field b y num", 6)
    ∷ (codes "field b y ref c", 5)
    ∷ (codes "field c w num", 5)
    ∷ (codes "kind c", 4)
    ∷ (codes "nodes b 1", 4)
    ∷ (codes "nodes b 300", 4)
    ∷ (codes "nodes b 18446744073709551616", 4)
    ∷ (codes "nodes c 1", 5)
    ∷ (codes "nodes c 300", 5)
    ∷ (codes "nodes c 18446744073709551616", 2)
    ∷ (codes "nodes a 257", 7)
    ∷ (codes "nodes a 18446744073709551616", 2)
    ∷ (codes "nodes a 01", 4)
    ∷ (codes "nodes a", 4)
    ∷ (codes "nodes 1", 4)
    ∷ (codes "root x num 0", 4)
    ∷ [])) ≡ true
groups = refl

-- the lines after the first kind's count
counts : are_judged 8 (behind (two_groups ++ codes "nodes a 200" ∷ []) (
    (codes "nodes b 57", 7)
    ∷ (codes "nodes a 57", 4)
    ∷ (codes "nodes c 57", 5)
    ∷ (codes "node 5 null", 4)
    ∷ (codes "field b w num", 4)
    ∷ (codes "root x num 0", 4)
    ∷ [])) ≡ true
counts = refl

-- two nodes of the first kind and one of the second are promised
abbrev three_promised : List (List ℕ)
three_promised = two_groups ++ (codes "nodes a 2" ∷ codes "nodes b 1" ∷ [])

-- the line of the first node
first_node : are_judged 9 (behind three_promised (
    (codes "node 5 @1", 8)
    ∷ (codes "node 5 @2", 8)
    ∷ (codes "node 5 @0", 5)
    ∷ (codes "node 5 @4", 5)
    ∷ (codes "node 18446744073709551616 @1", 2)
    ∷ (codes "node 18446744073709551616 @4", 2)
    ∷ (codes "node 5", 4)
    ∷ (codes "node 5 @3 null", 4)
    ∷ (codes "node @3", 4)
    ∷ (codes "nodes b 1", 4)
    ∷ (codes "root x num 0", 4)
    ∷ [])) ≡ true
first_node = refl

-- the line of the third
third_node : are_judged 11 (behind (three_promised ++ (codes "node 5 @3" ∷ codes "node 6 null" ∷ [])) (
    (codes "node @3", 8)
    ∷ (codes "node @4", 5)
    ∷ (codes "node 5 @3", 4)
    ∷ (codes "node 5", 4)
    ∷ (codes "root x num 0", 4)
    ∷ [])) ≡ true
third_node = refl

-- an unknown node comes before one of another kind, wherever it stands
unknown_first : is_fault 9 5 (fault_in (text_in (
    codes "oa 2" ∷ codes "kind a" ∷ codes "kind b" ∷ codes "field a x ref b" ∷ codes "field a y ref b" ∷ codes "field b z num" ∷ codes "nodes a 1" ∷ codes "nodes b 0" ∷ codes "node @1 @2" ∷ []))) ≡ true
unknown_first = refl

-- the declarations with all nodes and a root
abbrev head : List (List ℕ)
head = three_promised ++ (codes "node 5 @3" ∷ codes "node 6 null" ∷ codes "node @1" ∷ codes "root r ref b @3" ∷ [])

-- the lines after them
heads : are_judged 13 (behind head (
    (codes "root s ref b @1", 8)
    ∷ (codes "root s ref a @3", 8)
    ∷ (codes "root r ref b @1", 6)
    ∷ (codes "root r ref b @0", 5)
    ∷ (codes "root r ref c @1", 5)
    ∷ (codes "root s ref c @9", 5)
    ∷ (codes "root s ref c null", 5)
    ∷ (codes "root s ref b @0", 5)
    ∷ (codes "root s ref b @4", 5)
    ∷ (codes "root s ref @1", 4)
    ∷ (codes "root s ref null", 4)
    ∷ (codes "root s ref a 1", 4)
    ∷ (codes "root s num @1", 4)
    ∷ (codes "root s num a 1", 4)
    ∷ (codes "root r num 18446744073709551616", 2)
    ∷ (codes "root s ref a null null", 4)
    ∷ (codes "kind c", 4)
    ∷ (codes "gen", 4)
    ∷ [])) ≡ true
heads = refl

-- the lines of a generator
instructions : are_judged 15 (behind (head ++ (codes "op make 0" ∷ codes "gen" ∷ [])) (
    (codes "new r0", 4)
    ∷ (codes "new r0 c", 5)
    ∷ (codes "new r0 A", 4)
    ∷ (codes "new r0 a b", 4)
    ∷ (codes "new r8 a", 4)
    ∷ (codes "new a", 4)
    ∷ (codes "new r0 x", 5)
    ∷ (codes "put r0 a r1", 5)
    ∷ (codes "load r0 r1 b", 5)
    ∷ [])) ≡ true
instructions = refl

-- a line of the first version names no kind
first_names_none : are_judged 8 (behind (codes "oa 1" ∷ codes "field key num" ∷ codes "nodes 0" ∷ codes "root total num 0" ∷ codes "op make 0" ∷ codes "gen" ∷ codes "commit 0" ∷ []) (
    (codes "new r0 item", 4)
    ∷ [])) ≡ true
first_names_none = refl

-- four `new` of an operation, over all kinds
news : are_judged 19 (behind (head ++ (codes "op make 0" ∷ codes "gen" ∷ codes "new r0 a" ∷ codes "new r1 b" ∷ codes "new r2 a" ∷ codes "new r3 b" ∷ [])) (
    (codes "new r4 a", 7)
    ∷ (codes "new r4 b", 7)
    ∷ (codes "new r4 c", 5)
    ∷ (codes "new r4", 4)
    ∷ [])) ≡ true
news = refl

-- the fields of a kind in the greatest text by its declarations: four of each of four kinds, and 256 nodes in all
abbrev group : List ℕ → List ℕ → List (List ℕ)
group kind names =
    (codes "field " ++ (kind ++ (codes " x" ++ (names ++ codes " num"))))
    ∷ (codes "field " ++ (kind ++ (codes " y" ++ (names ++ codes " num"))))
    ∷ (codes "field " ++ (kind ++ (codes " z" ++ (names ++ codes " ref a"))))
    ∷ (codes "field " ++ (kind ++ (codes " w" ++ (names ++ codes " ref d"))))
    ∷ []

-- the lines before its last node
abbrev greatest : List (List ℕ)
greatest =
    (codes "oa 2" ∷ codes "kind a" ∷ codes "kind b" ∷ codes "kind c" ∷ codes "kind d" ∷ [])
    ++ (group (codes "a") (codes "0")
    ++ (group (codes "b") (codes "1")
    ++ (group (codes "c") (codes "2")
    ++ (group (codes "d") (codes "3")
    ++ (codes "nodes a 100" ∷ codes "nodes b 0" ∷ codes "nodes c 155" ∷ codes "nodes d 1" ∷ replicate 255 (codes "node 1 2 @100 @256"))))))

greatest_is : is_ok (text_in (greatest
    ++ (codes "node 0 0 @1 null"
    ∷ codes "root top ref d @256"
    ∷ codes "op nop 0"
    ∷ codes "gen"
    ∷ codes "commit 0"
    ∷ codes "wrap"
    ∷ codes "returnnone"
    ∷ []))) ≡ true
greatest_is = refl

-- the line of its last node
greatest_last : are_judged 281 (behind greatest (
    (codes "node 0 0 @101 null", 8)
    ∷ (codes "node 0 0 @1 @1", 8)
    ∷ (codes "node 0 0 @1", 4)
    ∷ [])) ≡ true
greatest_last = refl
