-- Version lines, texts within documents and heads of targets, worked out by hand. Each computes from the definition.
use Rattle.std.specs.Prelude.{◌≡◌, ℕ, Bool, true, false, ◌&&◌, length, List, [], ◌∷◌, ◌++◌, ◌+◌, replicate, Result, Ok, Err, codes, ◌==◌}
use Rattle.std.specs.List.{list_all, flat_map}
use Rattle.std.proofs.Common.{refl}
use Rattle.oa_text.specs.Lines.{numbered}
use Rattle.norm_lang.specs.declared.text.FieldKind.TheVariants as holdings
use Rattle.norm_lang.specs.declared.text.Start.TheVariants as starts
use Rattle.norm_lang.specs.declared.text.Instr.TheVariants as instr
use Rattle.norm_lang.specs.declared.text.Reg.TheVariants.{Ref}
use Rattle.norm_lang.specs.declared.text.Version.{Version}
use Rattle.norm_lang.specs.declared.text.Version.TheVariants.{First, Second}
use Rattle.norm_lang.specs.Faults.{LineFault}
use Rattle.norm_lang.specs.Shipped.{set_text, queue_text}
use Rattle.norm_parser.specs.FrontRead.{front_read, head_read}
use Rattle.norm_parser.specs.Version.{after_version, after_second_version}

-- lines, with a newline after each
abbrev spelled : List (List ℕ) → List ℕ
spelled lines = flat_map (λ line. line ++ 10 ∷ []) lines

abbrev is_fault : {A : Type 0} → ℕ → ℕ → Result A LineFault → Bool
is_fault line number (Ok x) = false
is_fault line number (Err fault) = (fault.line == line) && (fault.number == number)

-- the line after the version line, in documents and in targets
abbrev of_document : List (List ℕ) → Result (ℕ × Version) LineFault
of_document lines = after_version (codes "oa") (length lines + 1) (numbered 1 lines)

abbrev of_target : List (List ℕ) → Result ℕ LineFault
of_target lines = after_second_version (codes "oat") (length lines + 1) (numbered 1 lines)

first : of_document ([] ∷ codes "# a text" ∷ codes "oa 1" ∷ codes "use list" ∷ []) ≡ Ok (4, First)
first = refl

second : of_document ((codes " oa" ++ 9 ∷ codes "2 ") ∷ []) ≡ Ok (2, Second)
second = refl

of_second : of_target (codes "#" ∷ codes "oat 2" ∷ []) ≡ Ok 3
of_second = refl

-- no version line
versions : list_all (λ (line : List ℕ). is_fault 2 4 (of_document ([] ∷ line ∷ codes "oa 2" ∷ []))) (codes "oa 3" ∷ codes "oa" ∷ codes "oa 2 x" ∷ codes "oa 02" ∷ codes "oat 2" ∷ codes "use list" ∷ [])
    && (is_fault 2 1 (of_document ([] ∷ (codes "oa 3" ++ 13 ∷ []) ∷ []))
    && (is_fault 3 4 (of_document ([] ∷ codes "#" ∷ []))
    && list_all (λ (line : List ℕ). is_fault 2 4 (of_target ([] ∷ line ∷ codes "oat 2" ∷ []))) (codes "oat 1" ∷ codes "oat 3" ∷ codes "oa 2" ∷ []))) ≡ true
versions = refl

-- a shipped text ends with its line: those after it aren't judged
shipped : front_read First (spelled (codes "oa 1" ∷ codes "# a list" ∷ codes "use list" ∷ replicate 201 32 ∷ codes "script 0" ∷ [])) 2 ≡ Ok (set_text 1, 4)
shipped = refl

-- a shipped text at the end of the input
last : front_read Second (spelled (codes "oa 2" ∷ codes "use queue" ∷ [])) 2 ≡ Ok (queue_text, 3)
last = refl

-- a line that ends the text early, with each fault that it can have
early : list_all (λ (row : List ℕ × ℕ). is_fault 3 row.1 (front_read First (spelled (codes "oa 1" ∷ codes "field pad num" ∷ row.0 ∷ [])) 2)) (
    (codes "script 0", 4)
    ∷ (codes "slots" ++ replicate 196 32, 3)
    ∷ (codes "fuel 5" ++ 13 ∷ [], 1)
    ∷ (codes "schedule" ++ 13 ∷ replicate 196 32, 3)
    ∷ (codes "phases 1 2", 4)
    ∷ (codes "use list", 4)
    ∷ []) ≡ true
early = refl

-- past the end of the input
past : is_fault 3 4 (front_read First (spelled (codes "oa 1" ∷ codes "use list" ∷ [])) 3)
    && is_fault 3 4 (front_read Second (spelled (codes "oa 2" ∷ codes "use list" ∷ [])) 9) ≡ true
past = refl

-- a text of two kinds, up to the document's next line
abbrev two_kinds : List (List ℕ)
two_kinds =
    codes "oa 2"
    ∷ codes "kind item"
    ∷ codes "kind pair"
    ∷ codes "field item key num"
    ∷ codes "field pair left ref item"
    ∷ codes "field pair right ref pair"
    ∷ codes "nodes item 1"
    ∷ codes "nodes pair 1"
    ∷ codes "node 4"
    ∷ codes "node @1 null"
    ∷ codes "root top ref pair @2"
    ∷ codes "op x 0"
    ∷ codes "gen"
    ∷ codes "new r0 pair"
    ∷ codes "commit 0"
    ∷ codes "wrap"
    ∷ codes "returnnone"
    ∷ codes "script 0"
    ∷ []

kinds : front_read Second (spelled two_kinds) 2
    ≡ Ok (
      record {
        kinds = codes "item" ∷ codes "pair" ∷ [];
        fields =
            record { owner = 0; name = codes "key"; kind = holdings.Number }
            ∷ record { owner = 1; name = codes "left"; kind = holdings.Reference 0 }
            ∷ record { owner = 1; name = codes "right"; kind = holdings.Reference 1 }
            ∷ [];
        roots = record { name = codes "top"; kind = holdings.Reference 1; start = starts.Node 2 } ∷ [];
        nodes = record { owner = 0; values = starts.Value 4 ∷ [] } ∷ record { owner = 1; values = starts.Node 1 ∷ starts.Node 0 ∷ [] } ∷ [];
        ops =
            record {
              name = codes "x";
              args = 0;
              generator = instr.New (Ref 0) 1 ∷ instr.Commit [] ∷ [];
              wrapup = instr.ReturnNone ∷ [];
            }
            ∷ [];
      },
      18,
    )
kinds = refl

-- lines of one version aren't those of the other
versions_differ : is_fault 2 4 (front_read First (spelled two_kinds) 2)
    && (is_fault 2 4 (front_read Second (spelled (codes "oa 1" ∷ codes "field pad num" ∷ [])) 2)
    && is_fault 3 4 (front_read Second (spelled (codes "oa 2" ∷ codes "kind item" ∷ codes "field pad num" ∷ [])) 2)) ≡ true
versions_differ = refl

-- an initial node of another kind than its root's
other_kind : is_fault 10 8 (front_read Second (spelled (codes "oa 2" ∷ codes "kind item" ∷ codes "kind pair" ∷ codes "field item key num" ∷ codes "field pair left num"
    ∷ codes "nodes item 1" ∷ codes "nodes pair 0" ∷ codes "node 4" ∷ codes "root a ref item null" ∷ codes "root b ref pair @1" ∷ [])) 2) ≡ true
other_kind = refl

-- a head, and the number of its first operation's line
head : head_read (spelled (codes "oat 2" ∷ codes "kind item" ∷ codes "field item pad num" ∷ codes "nodes item 0" ∷ codes "root total num 5" ∷ [] ∷ codes "op add 1" ∷ [])) 2
    ≡ Ok (
      record {
        kinds = codes "item" ∷ [];
        fields = record { owner = 0; name = codes "pad"; kind = holdings.Number } ∷ [];
        roots = record { name = codes "total"; kind = holdings.Number; start = starts.Value 5 } ∷ [];
        nodes = [];
      },
      7,
    )
head = refl

-- the fault of a head with these lines, and with an operation after them
abbrev has_fault : ℕ → ℕ → List (List ℕ) → Bool
has_fault line number lines = is_fault line number (head_read (spelled (codes "oat 2" ∷ codes "kind item" ∷ (lines ++ codes "op add 1" ∷ []))) 2)

-- the first operation comes early, or a line may not stand where it does
heads : has_fault 3 4 []
    && (has_fault 4 4 (codes "field item pad num" ∷ [])
    && (has_fault 5 4 (codes "field item pad num" ∷ codes "nodes item 0" ∷ [])
    && (has_fault 3 4 (codes "use list" ∷ [])
    && (has_fault 3 1 ((codes "use list" ++ 127 ∷ []) ∷ [])
    && (has_fault 3 4 (codes "nodes item 0" ∷ [])
    && (has_fault 4 4 (codes "field item pad num" ∷ codes "kind pair" ∷ [])
    && (has_fault 5 4 (codes "kind pair" ∷ codes "field item pad num" ∷ codes "nodes item 0" ∷ [])
    && has_fault 3 5 (codes "field pair pad num" ∷ [])))))))) ≡ true
heads = refl

-- a head begins with a kind, and ends before an operation: never with the input
head_ends : is_fault 2 4 (head_read (spelled (codes "oat 2" ∷ codes "field item pad num" ∷ codes "op add 1" ∷ [])) 2)
    && (is_fault 2 4 (head_read (spelled (codes "oat 2" ∷ codes "use list" ∷ codes "op add 1" ∷ [])) 2)
    && (is_fault 3 1 (head_read (spelled (codes "oat 2" ∷ codes "kind item" ∷ (codes "op add 1" ++ 127 ∷ []) ∷ [])) 2)
    && is_fault 6 4 (head_read (spelled (codes "oat 2" ∷ codes "kind item" ∷ codes "field item pad num" ∷ codes "nodes item 0" ∷ codes "root total num 5" ∷ [])) 2))) ≡ true
head_ends = refl
