-- Texts worked out by hand: what they are, or their first fault. Each computes from the definition.
use Rattle.std.specs.Prelude.{◌≡◌, ℕ, zero, suc, ◌+◌, decimal, Bool, true, false, ◌&&◌, List, [], ◌∷◌, ◌++◌, take, Option, Some, None, Ok, codes, replicate, ◌==◌}
use Rattle.std.specs.List.{list_all, flat_map}
use Rattle.std.specs.Fmt.{digits}
use Rattle.std.proofs.Common.{refl}
use Rattle.norm_lang.specs.declared.text.Reg.TheVariants.{Num, Ref}
use Rattle.norm_lang.specs.declared.text.FieldKind.TheVariants as holdings
use Rattle.norm_lang.specs.declared.text.Start.TheVariants as starts
use Rattle.norm_lang.specs.declared.text.Place.TheVariants as places
use Rattle.norm_lang.specs.declared.text.Instr.TheVariants as instr
use Rattle.norm_lang.specs.declared.text.Text.{Text}
use Rattle.norm_lang.specs.Faults.{LineFault}
use Rattle.norm_lang.specs.Shipped.{set_text, queue_text}
use Rattle.norm_lang.specs.Limits.{is_within_limits}
use Rattle.norm_lang.specs.Grammar.{text_in, text_read, fault_in}

abbrev pub counter : List (List ℕ)
counter =
    codes "oa 1"
    ∷ codes "field pad num"
    ∷ codes "nodes 0"
    ∷ codes "root total num 0"
    ∷ codes "op add 1"
    ∷ codes "gen"
    ∷ codes "root n1 total"
    ∷ codes "add n2 n1 n0"
    ∷ codes "commit 1"
    ∷ codes "withroot total n1 n2"
    ∷ codes "wrap"
    ∷ codes "set n3 0"
    ∷ codes "ifeq n7 n3 3"
    ∷ codes "return n2"
    ∷ codes "again"
    ∷ codes "op nop 0"
    ∷ codes "gen"
    ∷ codes "commit 0"
    ∷ codes "wrap"
    ∷ codes "returnnone"
    ∷ []

abbrev pub counter_text : Text
counter_text = record {
  kinds = codes "item" ∷ [];
  fields = record { owner = 0; name = codes "pad"; kind = holdings.Number } ∷ [];
  roots = record { name = codes "total"; kind = holdings.Number; start = starts.Value 0 } ∷ [];
  nodes = [];
  ops =
      record {
        name = codes "add";
        args = 1;
        generator =
            instr.LoadRoot (Num 1) 0
            ∷ instr.Add (Num 2) (Num 1) (Num 0)
            ∷ instr.Commit (record { place = places.Root 0; expected = Num 1; replacement = Num 2; retire = None } ∷ [])
            ∷ [];
        wrapup = instr.Set (Num 3) 0 ∷ instr.IfEq (Num 7) (Num 3) 3 ∷ instr.Return (Num 2) ∷ instr.Again ∷ [];
      }
      ∷ record { name = codes "nop"; args = 0; generator = instr.Commit [] ∷ []; wrapup = instr.ReturnNone ∷ [] }
      ∷ [];
}

counter_is : text_in counter ≡ Ok counter_text
counter_is = refl

-- whether the first fault is this one
abbrev pub is_fault : ℕ → ℕ → Option LineFault → Bool
is_fault line number None = false
is_fault line number (Some fault) = (fault.line == line) && (fault.number == number)

-- each text of a table has its first fault at this line, with the number beside it
abbrev pub are_judged : ℕ → List (List (List ℕ) × ℕ) → Bool
are_judged line rows = list_all (λ row. is_fault line row.1 (fault_in (text_in row.0))) rows

-- lines after these, each with the number of its fault
abbrev pub behind : List (List ℕ) → List (List ℕ × ℕ) → List (List (List ℕ) × ℕ)
behind lines [] = []
behind lines (row ∷ rows) = (lines ++ row.0 ∷ [], row.1) ∷ behind lines rows

-- a head of eight lines with two fields, two nodes and two roots
abbrev head : List (List ℕ)
head =
    codes "oa 1"
    ∷ codes "field key num"
    ∷ codes "field next ref"
    ∷ codes "nodes 2"
    ∷ codes "node 5 null"
    ∷ codes "node 6 @1"
    ∷ codes "root total num 0"
    ∷ codes "root top ref @2"
    ∷ []

-- the eleventh line is the first of a generator
abbrev generator : List (List ℕ)
generator = head ++ (codes "op add 1" ∷ codes "gen" ∷ [])

-- instructions with a fault
instructions : are_judged 11 (behind generator (
    (codes "set n0 18446744073709551616", 2)
    ∷ (codes "set n0 007", 4)
    ∷ (codes "set n0 1 n1", 4)
    ∷ (codes "set n8 1", 4)
    ∷ (codes "set n0", 4)
    ∷ (codes "SET n0 1", 4)
    ∷ (codes "set n0 -1", 4)
    ∷ (codes "set n0 99999999999999999999999 x", 4)
    ∷ (codes "mov n0", 4)
    ∷ (codes "mov n0 x1", 4)
    ∷ (codes "add n0 n1", 4)
    ∷ (codes "rem n0 n1 0", 4)
    ∷ (codes "rem n0 n1 00", 4)
    ∷ (codes "rem n0 n1 18446744073709551616", 2)
    ∷ (codes "root n0 other", 5)
    ∷ (codes "root n0 key", 5)
    ∷ (codes "root n0 Total", 4)
    ∷ (codes "load n0 r0 total", 5)
    ∷ (codes "load n0 r0 5", 4)
    ∷ (codes "put r0 other n0", 5)
    ∷ (codes "pick n0 total 257 n1", 7)
    ∷ (codes "pick n0 total 0 n1", 4)
    ∷ (codes "pick n0 other 257 n1", 5)
    ∷ (codes "pick n0 other 18446744073709551616 n1", 2)
    ∷ (codes "pick n0 other 0 n1", 4)
    ∷ (codes "jump 65536", 7)
    ∷ (codes "jump 18446744073709551616", 2)
    ∷ (codes "jump 01", 4)
    ∷ (codes "ifeq n0 n1 65536", 7)
    ∷ (codes "ifmarked r0 65536 0", 4)
    ∷ (codes "cas r0 next r1 r2 65536", 7)
    ∷ (codes "cas r0 other r1 r2 65536", 5)
    ∷ (codes "cas r0 next r1 r2 0 retire", 4)
    ∷ (codes "cas r0 next r1 r2 0 retire r1 retire r1", 4)
    ∷ (codes "casroot key r1 r2 0", 5)
    ∷ (codes "casroot total n1 n2 18446744073709551616 retire r1", 2)
    ∷ (codes "commit 5", 7)
    ∷ (codes "commit 18446744073709551616", 2)
    ∷ (codes "commit", 4)
    ∷ (codes "again now", 4)
    ∷ (codes "wrap", 4)
    ∷ (codes "op nop 0", 4)
    ∷ (codes "gen", 4)
    ∷ (codes "script 0", 4)
    ∷ [])) ≡ true
instructions = refl

-- the lines after `commit 1`
entries : are_judged 12 (behind (generator ++ codes "commit 1" ∷ []) (
    (codes "with r0 next r1", 4)
    ∷ (codes "with r0 other r1 r2", 5)
    ∷ (codes "withroot total n1 n2 retired r1", 4)
    ∷ (codes "withroot next n1 n2", 5)
    ∷ (codes "wrap", 4)
    ∷ (codes "commit 0", 4)
    ∷ [])) ≡ true
entries = refl

-- the lines after the head
heads : are_judged 9 (behind head (
    (codes "op script 1", 4)
    ∷ (codes "op schedule 0", 4)
    ∷ (codes "op x 5", 7)
    ∷ (codes "op x 18446744073709551616", 2)
    ∷ (codes "op script 18446744073709551616", 4)
    ∷ (codes "op _x 1", 4)
    ∷ (codes "op a234567890123456_ 1", 4)
    ∷ (codes "node 5 null", 4)
    ∷ (codes "root total ref null", 6)
    ∷ (codes "root total ref @3", 5)
    ∷ (codes "root other ref @07", 4)
    ∷ (codes "root other ref @", 4)
    ∷ (codes "root other ref @0", 5)
    ∷ (codes "root other ref @3", 5)
    ∷ (codes "root other ref @99999999999999999999999999", 5)
    ∷ (codes "root other ref 1", 4)
    ∷ (codes "root other num @1", 4)
    ∷ (codes "root total num 18446744073709551616", 2)
    ∷ (codes "field more num", 4)
    ∷ (codes "gen", 4)
    ∷ (codes "use list", 4)
    ∷ [])) ≡ true
heads = refl

-- the lines after four fields
fields : are_judged 6 (behind (codes "oa 1" ∷ codes "field a num" ∷ codes "field b ref" ∷ codes "field c num" ∷ codes "field d num" ∷ []) (
    (codes "field e num", 7)
    ∷ (codes "field a num", 6)
    ∷ (codes "field a", 4)
    ∷ (codes "field e word", 4)
    ∷ (codes "nodes 257", 7)
    ∷ (codes "nodes 18446744073709551616", 2)
    ∷ (codes "nodes 0256", 4)
    ∷ (codes "use list", 4)
    ∷ (codes "root x num 0", 4)
    ∷ [])) ≡ true
fields = refl

-- the lines after the count of nodes
nodes : are_judged 5 (behind (codes "oa 1" ∷ codes "field key num" ∷ codes "field next ref" ∷ codes "nodes 1" ∷ []) (
    (codes "node 5", 4)
    ∷ (codes "node 5 null 6", 4)
    ∷ (codes "node null 5", 4)
    ∷ (codes "node 5 @2", 5)
    ∷ (codes "node 5 @0", 5)
    ∷ (codes "node 18446744073709551616 @2", 2)
    ∷ (codes "root x num 0", 4)
    ∷ [])) ≡ true
nodes = refl

-- the lines after the version
openings : are_judged 2 (behind (codes "oa 1" ∷ []) (
    (codes "use set 65", 7)
    ∷ (codes "use set 0", 7)
    ∷ (codes "use set 064", 4)
    ∷ (codes "use set 18446744073709551616", 2)
    ∷ (codes "use set", 4)
    ∷ (codes "use lists", 4)
    ∷ (codes "use queue 1", 4)
    ∷ (codes "oa 1", 4)
    ∷ (codes "nodes 0", 4)
    ∷ (codes "op add 1", 4)
    ∷ [])) ≡ true
openings = refl

-- the first line, even if it is skipped
starts_with : are_judged 1 (
    (codes "oa 3" ∷ [], 4)
    ∷ (codes "oa" ∷ [], 4)
    ∷ (codes "field pad num" ∷ [], 4)
    ∷ (replicate 201 32 ∷ [], 3)
    ∷ (replicate 201 13 ∷ [], 3)
    ∷ ((codes "# " ++ replicate 199 33) ∷ [], 3)
    ∷ ((codes "oa 1" ++ 13 ∷ []) ∷ [], 1)
    ∷ ((codes "# tilde and more" ++ 127 ∷ []) ∷ [], 1)
    ∷ ([], 4)
    ∷ []) ≡ true
starts_with = refl

-- nothing of a text stands after a shipped one, and a skipped line may be faulty there too
shipped : are_judged 4 (behind (codes "# a queue" ∷ codes "oa 1" ∷ codes "use queue" ∷ []) (
    (codes "field pad num", 4)
    ∷ (codes "use queue", 4)
    ∷ (127 ∷ [], 1)
    ∷ (replicate 201 9, 3)
    ∷ [])) ≡ true
shipped = refl

-- no bytes: a line must follow
nothing : is_fault 1 4 (fault_in (text_read [])) ≡ true
nothing = refl

-- the counter, cut after its first `wrap` line
cut : is_fault 12 4 (fault_in (text_in (take 11 counter))) ≡ true
cut = refl

-- the counter, whose last line is the twentieth, with an operation's name again
again : is_fault 21 6 (fault_in (text_in (counter ++ codes "op add 18" ∷ []))) ≡ true
again = refl

-- a fifth `new` of an operation, of which four stand in the generator, and a third operation without a method
news : is_fault 19 7 (fault_in (text_in (generator ++ (
    codes "new r0" ∷ codes "new r1" ∷ codes "new r2" ∷ codes "new r3" ∷ codes "commit 1" ∷ [] ∷ codes "  with r0 next  r1 r2" ∷ codes "wrap"
    ∷ codes "new r4" ∷ codes "again" ∷ [])))) ≡ true
news = refl

-- the 257th instruction of a method
many : is_fault 267 7 (fault_in (text_in (generator ++ (replicate 256 (codes "mov n1 n1") ++ codes "commit 0" ∷ [])))) ≡ true
many = refl

-- each form of an instruction
every : text_in (generator ++ (
    codes "set n0 18446744073709551615"
    ∷ codes "mov n1 n0"
    ∷ codes "add n2 n1 n0"
    ∷ codes "sub n2 n1 n0"
    ∷ codes "rem n3 n2 8"
    ∷ codes "null r0"
    ∷ codes "mark r1 r0"
    ∷ codes "unmark r2 r1"
    ∷ codes "root r3 top"
    ∷ codes "pick r4 top 256 n3"
    ∷ codes "load r5 r4 next"
    ∷ codes "new r6"
    ∷ codes "put r6 key n2"
    ∷ codes "cas r5 next r1 r2 65535"
    ∷ codes "cas r5 next r1 r2 3 retire r1"
    ∷ codes "casroot top r1 r2 0"
    ∷ codes "casroot top r1 r2 0 retire r1"
    ∷ codes "jump 18"
    ∷ codes "ifeq n0 n1 19"
    ∷ codes "ifless n0 n1 20"
    ∷ codes "ifmarked r0 21"
    ∷ codes "commit 4"
    ∷ codes "with r5 next r1 r2"
    ∷ codes "# between the entries"
    ∷ codes "with r5 next r1 r2 retire r5"
    ∷ codes "withroot total n1 n2"
    ∷ codes "withroot top r1 r2 retire r1"
    ∷ codes "wrap"
    ∷ codes "return n0"
    ∷ codes "returnnone"
    ∷ codes "again"
    ∷ [])) ≡ Ok (record {
      kinds = codes "item" ∷ [];
      fields = record { owner = 0; name = codes "key"; kind = holdings.Number } ∷ record { owner = 0; name = codes "next"; kind = holdings.Reference 0 } ∷ [];
      roots =
          record { name = codes "total"; kind = holdings.Number; start = starts.Value 0 }
          ∷ record { name = codes "top"; kind = holdings.Reference 0; start = starts.Node 2 }
          ∷ [];
      nodes = record { owner = 0; values = starts.Value 5 ∷ starts.Node 0 ∷ [] } ∷ record { owner = 0; values = starts.Value 6 ∷ starts.Node 1 ∷ [] } ∷ [];
      ops = record {
        name = codes "add";
        args = 1;
        generator =
            instr.Set (Num 0) 18446744073709551615
            ∷ instr.Mov (Num 1) (Num 0)
            ∷ instr.Add (Num 2) (Num 1) (Num 0)
            ∷ instr.Sub (Num 2) (Num 1) (Num 0)
            ∷ instr.Rem (Num 3) (Num 2) 8
            ∷ instr.Null (Ref 0)
            ∷ instr.Mark (Ref 1) (Ref 0)
            ∷ instr.Unmark (Ref 2) (Ref 1)
            ∷ instr.LoadRoot (Ref 3) 1
            ∷ instr.LoadPick (Ref 4) 1 256 (Num 3)
            ∷ instr.LoadField (Ref 5) (Ref 4) 1
            ∷ instr.New (Ref 6) 0
            ∷ instr.Put (Ref 6) 0 (Num 2)
            ∷ instr.Cas (record { place = places.Field (Ref 5) 1; expected = Ref 1; replacement = Ref 2; retire = None }) 65535
            ∷ instr.Cas (record { place = places.Field (Ref 5) 1; expected = Ref 1; replacement = Ref 2; retire = Some (Ref 1) }) 3
            ∷ instr.Cas (record { place = places.Root 1; expected = Ref 1; replacement = Ref 2; retire = None }) 0
            ∷ instr.Cas (record { place = places.Root 1; expected = Ref 1; replacement = Ref 2; retire = Some (Ref 1) }) 0
            ∷ instr.Jump 18
            ∷ instr.IfEq (Num 0) (Num 1) 19
            ∷ instr.IfLess (Num 0) (Num 1) 20
            ∷ instr.IfMarked (Ref 0) 21
            ∷ instr.Commit (
            record { place = places.Field (Ref 5) 1; expected = Ref 1; replacement = Ref 2; retire = None }
            ∷ record { place = places.Field (Ref 5) 1; expected = Ref 1; replacement = Ref 2; retire = Some (Ref 5) }
            ∷ record { place = places.Root 0; expected = Num 1; replacement = Num 2; retire = None }
            ∷ record { place = places.Root 1; expected = Ref 1; replacement = Ref 2; retire = Some (Ref 1) }
            ∷ [])
            ∷ [];
        wrapup = instr.Return (Num 0) ∷ instr.ReturnNone ∷ instr.Again ∷ [];
      } ∷ [];
    })
every = refl

-- the counter in bytes, with a newline after each line
counter_bytes : text_read (flat_map (λ line. line ++ 10 ∷ []) counter) ≡ Ok counter_text
counter_bytes = refl

-- a shipped text, with skipped lines around its lines
sets : text_in ([] ∷ codes "# the greatest set" ∷ codes "oa 1" ∷ replicate 200 32 ∷ codes "use set 64" ∷ (32 ∷ codes "#") ∷ []) ≡ Ok (set_text 64)
sets = refl

-- the limits compute too
within : is_within_limits counter_text && (is_within_limits (set_text 64) && is_within_limits queue_text) ≡ true
unfolding digits
within = refl

-- so many lines, each made from its number from 0 up
abbrev lines_from : (ℕ → List (List ℕ)) → ℕ → ℕ → List (List ℕ)
lines_from make i zero = []
lines_from make i (suc n) = make i ++ lines_from make (i + 1) n

abbrev root_named : ℕ → List (List ℕ)
root_named i = (codes "root b" ++ (decimal i ++ codes " num 0")) ∷ []

abbrev op_named : ℕ → List (List ℕ)
op_named i = (codes "op o" ++ (decimal i ++ codes " 4")) ∷ codes "gen" ∷ codes "commit 0" ∷ codes "wrap" ∷ codes "again" ∷ []

-- the greatest text by its counts of roots and operations, and one more of each
greatest : is_fault 341 7 (fault_in (text_in (
    codes "oa 1" ∷ codes "field a234567890123456 num" ∷ codes "nodes 256" ∷ (replicate 256 (codes "node 0") ++ codes "root total num 0" ∷ []) ++ (lines_from op_named 0 17)))) ≡ true
unfolding digits
greatest = refl

roots_most : is_fault 260 4 (fault_in (text_in (codes "oa 1" ∷ codes "field a num" ∷ codes "nodes 0" ∷ lines_from root_named 0 256))) ≡ true
unfolding digits
roots_most = refl

roots_past : is_fault 260 7 (fault_in (text_in (codes "oa 1" ∷ codes "field a num" ∷ codes "nodes 0" ∷ lines_from root_named 0 257))) ≡ true
unfolding digits
roots_past = refl
