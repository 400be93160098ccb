-- An exchange of a field or a root, whatever follows its success and its failure.
use Rattle.std.proofs.Common.{◌≡◌, ℕ, zero, suc, ◌+◌, ◌/◌, ◌<◌, Bool, true, false, ◌&&◌, not, List, Some, ◌==◌, refl, sym, ◌∙◌, ap, arith}
use Rattle.std.proofs.lemmas.Bool.Decides.{nat_tests}
use Rattle.norm_lang.specs.declared.text.Reg.{Reg}
use Rattle.norm_lang.specs.declared.text.Reg.TheVariants.{Num, Ref}
use Rattle.norm_lang.specs.declared.text.Place.{Place}
use Rattle.norm_lang.specs.declared.text.Place.TheVariants as places
use Rattle.norm_lang.specs.declared.text.CasEntry.{CasEntry}
use Rattle.norm_lang.specs.declared.registers.Registers.{Registers}
use Rattle.norm_lang.specs.KindFields.{place_of}
use Rattle.target_code.specs.declared.target.Target.{Target}
use Rattle.oa_words.specs.Words.{FieldOf, Cell}
use Rattle.phase_pools.specs.Accesses.{Loads, Exchanges}
use Rattle.caller_parts.specs.Settings.{Setting}
use Rattle.caller_parts.specs.Operands.{word_in, slot_in, has_object}
use Rattle.caller_steps.specs.Entries.{Entry}
use Rattle.caller_steps.specs.Wants.{wants, object_exchange, exchange_wanted}
use Rattle.caller_steps.specs.Wants as wanting
use Rattle.c_language.specs.declared.lines.Line.{Line}
use Rattle.c_language.specs.Steps.{Pool, Frame, Goes, Wants, stop, set, with_local, onward, goes_to, branch, has_field}
use Rattle.c_language.specs.Runs.{Comes}
use Rattle.c_language.proofs.Walking.{here, walks, goes_if}
use Rattle.c_runtime.specs.KindLines.{HasLines}
use Rattle.c_emission.specs.Blocks.{local_of}
use Rattle.c_emission.specs.Exchanges.{kind_of_field, field_exchange, root_exchange, place_exchange, place_size}
use Rattle.emission_laws.specs.Hands.{StandsFor, known_of}
use Rattle.emission_laws.specs.Making.{RunsFor, MakesAccess, HasNumber}
use Rattle.emission_laws.proofs.Frames.{scratched, moved_to, goes_onward, word_held}
use Rattle.emission_laws.proofs.Sides.{line_is, slot_of, field_is}
use Rattle.exchange_laws.specs.Exchanging.{FitsPlace}
use Rattle.exchange_laws.proofs.Steps.{isnt_zero, is_defined}

-- what follows an exchange that found a word, if it succeeded and if it failed. The count in local 32 stays
pub record Follows (pool : Pool) (code : List Line) (e : Entry) (registers : Registers) (expected : Reg) (object : Bool) (end failed count : ℕ) (There : ℕ → Frame → Type 0) : Type 0 where
  pub goes : (word : ℕ) (h : Frame) → (object && (word == word_in registers expected)) ≡ true → StandsFor e registers end h → h.locals 32 ≡ count → Comes pool code h (There word)
  pub fails : (word : ℕ) (h : Frame) → (object && (word == word_in registers expected)) ≡ false → StandsFor e registers failed h → h.locals 32 ≡ count → Comes pool code h (There word)

-- a test of what was found, after the exchange
judged : (pool : Pool) (code : List Line) (e : Entry) (registers : Registers) (expected : Reg) (object : Bool) (line end failed word : ℕ) (There : ℕ → Frame → Type 0) (h : Frame)
    → object ≡ true → HasNumber expected → Follows pool code e registers expected object end failed (h.locals 32) There
    → stop pool code (with_local 29 word h) ≡ Goes (branch (not (word == (with_local 29 word h).locals (local_of expected))) failed (with_local 29 word h))
    → StandsFor e registers line h → line + 2 ≡ end → Comes pool code (with_local 29 word h) (There word)
judged pool code e registers expected object line end failed word There h some numbered follows tested stands next = of (word == word_in registers expected) refl where
  standing : StandsFor e registers (line + 1) (with_local 29 word h)
  standing = scratched (known_of e) registers line (line + 1) h 29 word (omega arith) (omega arith) refl stands

  known : (b : Bool) → (word == word_in registers expected) ≡ b → not (word == (with_local 29 word h).locals (local_of expected)) ≡ not b
  known b t = ap (λ (x : ℕ). not (word == x)) (word_held registers (set h.locals 29 word) expected numbered standing.held) ∙ ap not t

  of : (b : Bool) → (word == word_in registers expected) ≡ b → Comes pool code (with_local 29 word h) (There word)
  of true t =
      goes_if {pool = pool} {code = code} {f = with_local 29 word h} (not (word == (with_local 29 word h).locals (local_of expected))) false failed tested (known true t)
      (follows.goes word (onward (with_local 29 word h)) (ap (λ (x : Bool). x && (word == word_in registers expected)) some ∙ t)
      (goes_onward (known_of e) registers (line + 1) end (with_local 29 word h) (omega (arith, next)) standing) refl)
  of false t =
      goes_if {pool = pool} {code = code} {f = with_local 29 word h} (not (word == (with_local 29 word h).locals (local_of expected))) true failed tested (known false t)
      (follows.fails word (goes_to failed (with_local 29 word h)) (ap (λ (x : Bool). x && (word == word_in registers expected)) some ∙ t)
      (moved_to (known_of e) registers (line + 1) failed (with_local 29 word h) standing) refl)

changes : (pool : Pool) (kind j g i : ℕ) → has_field pool kind j g ≡ true → j ≡ suc i → (has_field pool kind j g && not (j == 0)) ≡ true
changes pool kind j g i has some = ap (λ (x : Bool). x && not (j == 0)) has ∙ ap not (ap (λ (x : ℕ). x == 0) some ∙ isnt_zero i)

-- of a field
module _ (pool : Pool) (code : List Line) (target : Target) (setting : Setting) (e : Entry) (registers : Registers) (base a kind g failed : ℕ) (expected replacement : Reg) (There : ℕ → Frame → Type 0) (first : Frame)
    (low : a < 8) (numbered : HasNumber expected) (other_numbered : HasNumber replacement) (has : (j : ℕ) → j ≡ slot_in registers (Ref a) → has_field pool kind j g ≡ true)
    (wanted : wants target e ≡ Some (object_exchange (slot_in registers (Ref a)) g (word_in registers expected) (word_in registers replacement)))
    (lines : HasLines code base (field_exchange base (Ref a) kind g expected replacement failed))
    (follows : Follows pool code e registers expected (not (slot_in registers (Ref a) == 0)) (base + 6) failed (first.locals 32) There)
    (stands : StandsFor e registers base first) where
  abbrev slot : ℕ
  slot = first.locals (8 + a) / 2

  abbrev slotted : Frame
  slotted = with_local 30 (first.locals (8 + a) / 2) first

  abbrev block : List Line
  block = field_exchange base (Ref a) kind g expected replacement failed

  slot_is : first.locals (8 + a) / 2 ≡ slot_in registers (Ref a)
  slot_is = slot_of registers first.locals a low stands.held

  standing : StandsFor e registers (base + 1) slotted
  standing = scratched (known_of e) registers base (base + 1) first 30 (first.locals (8 + a) / 2) (omega arith) (omega arith) refl stands

  -- null: its field is loaded, and the exchange fails
  of_null : slot_in registers (Ref a) ≡ 0 → Comes pool code first (MakesAccess pool code target setting e There)
  of_null none =
      walks slotted (line_is pool code base block first 0 lines (omega arith) (stands.at ∙ omega arith))
      (goes_if {pool = pool} {code = code} {f = slotted} (not (slot == 0)) false (base + 4) (line_is pool code base block slotted 1 lines (omega arith) (standing.at))
      (ap not (let zero_now : (slot == 0) ≡ true = grind (arith, nat_tests) in zero_now))
      (here (record {
        access = Loads (FieldOf 0 g);
        next = λ word. with_local 29 word (onward slotted);
        stops = line_is pool code base block (onward slotted) 2 lines (omega arith) (moved.at)
            ∙ is_defined (has_field pool kind 0 g) (Wants (Loads (FieldOf 0 g)) (λ word. with_local 29 word (onward slotted))) (has 0 (sym none));
        wanted = wanted ∙ ap (λ (j : ℕ). Some (object_exchange j g (word_in registers expected) (word_in registers replacement))) none;
        after = λ word told.
            let loaded = scratched (known_of e) registers (base + 2) (base + 3) (onward slotted) 29 word (omega arith) (omega arith) (omega arith) moved in
            walks (goes_to failed (with_local 29 word (onward slotted))) (line_is pool code base block (with_local 29 word (onward slotted)) 3 lines (omega arith) loaded.at)
            (follows.fails word (goes_to failed (with_local 29 word (onward slotted))) (ap (λ (b : Bool). not b && (word == word_in registers expected)) zero_now)
            (moved_to (known_of e) registers (base + 3) failed (with_local 29 word (onward slotted)) loaded) refl);
      })))
    where
      moved : StandsFor e registers (base + 2) (onward slotted)
      moved = goes_onward (known_of e) registers (base + 1) (base + 2) slotted (omega arith) standing

      zero_now : (slot_in registers (Ref a) == 0) ≡ true
      zero_now = grind (arith, nat_tests)

  abbrev old : ℕ
  old = set first.locals 30 (first.locals (8 + a) / 2) (local_of expected)

  abbrev new : ℕ
  new = set first.locals 30 (first.locals (8 + a) / 2) (local_of replacement)

  -- a node: its field is exchanged
  of_some : (j : ℕ) → slot_in registers (Ref a) ≡ suc j → Comes pool code first (MakesAccess pool code target setting e There)
  of_some j some =
      walks slotted (line_is pool code base block first 0 lines (omega arith) (stands.at ∙ omega arith))
      (goes_if {pool = pool} {code = code} {f = slotted} (not (slot == 0)) true (base + 4) (line_is pool code base block slotted 1 lines (omega arith) (standing.at))
      (ap not (ap (λ (x : ℕ). x == 0) (slot_is ∙ some) ∙ isnt_zero j))
      (here (record {
        access = Exchanges (FieldOf slot g) (old) (new);
        next = λ word. with_local 29 word (goes_to (base + 4) slotted);
        stops = line_is pool code base block (goes_to (base + 4) slotted) 4 lines (omega arith) refl
            ∙ is_defined (has_field pool kind slot g && not (slot == 0)) (Wants (Exchanges (FieldOf slot g) old new) (λ word. with_local 29 word (goes_to (base + 4) slotted)))
            (changes pool kind slot g j (has slot slot_is) (slot_is ∙ some));
        wanted = wanted ∙ (ap (λ (k : ℕ). Some (object_exchange k g (word_in registers expected) (word_in registers replacement))) some
            ∙ (ap (λ (k : ℕ). Some (Exchanges (FieldOf k g) (word_in registers expected) (word_in registers replacement))) (sym (slot_is ∙ some))
            ∙ (ap (λ (x : ℕ). Some (Exchanges (FieldOf slot g) x (word_in registers replacement))) (sym (word_held registers (set first.locals 30 slot) expected numbered standing.held))
            ∙ ap (λ (x : ℕ). Some (Exchanges (FieldOf slot g) old x)) (sym (word_held registers (set first.locals 30 slot) replacement other_numbered standing.held)))));
        after = λ word told. judged pool code e registers expected (not (slot_in registers (Ref a) == 0)) (base + 4) (base + 6) failed word There (goes_to (base + 4) slotted)
            (ap not (ap (λ (x : ℕ). x == 0) some ∙ isnt_zero j)) numbered follows
            (line_is pool code base block (with_local 29 word (goes_to (base + 4) slotted)) 5 lines (omega arith) (omega arith))
            (moved_to (known_of e) registers (base + 1) (base + 4) slotted standing) (omega arith);
      })))

  pub field_made : Comes pool code first (MakesAccess pool code target setting e There)
  field_made = of (slot_in registers (Ref a)) refl where
    of : (j : ℕ) → slot_in registers (Ref a) ≡ j → Comes pool code first (MakesAccess pool code target setting e There)
    of zero none = of_null none
    of (suc j) some = of_some j some

-- of a root
pub root_made : (pool : Pool) (code : List Line) (target : Target) (setting : Setting) (e : Entry) (registers : Registers) (base x failed : ℕ) (expected replacement : Reg) (There : ℕ → Frame → Type 0) (first : Frame)
    → HasNumber expected → HasNumber replacement
    → wants target e ≡ Some (Exchanges (Cell x) (word_in registers expected) (word_in registers replacement))
    → HasLines code base (root_exchange x expected replacement failed)
    → Follows pool code e registers expected true (base + 2) failed (first.locals 32) There
    → StandsFor e registers base first → Comes pool code first (MakesAccess pool code target setting e There)
root_made pool code target setting e registers base x failed expected replacement There first numbered other_numbered wanted lines follows stands = here (record {
  access = Exchanges (Cell (x + 0)) (first.locals (local_of expected)) (first.locals (local_of replacement));
  next = λ word. with_local 29 word first;
  stops = line_is pool code base (root_exchange x expected replacement failed) first 0 lines (omega arith) (stands.at ∙ omega arith);
  wanted = wanted ∙ (ap (λ (c : ℕ). Some (Exchanges (Cell c) (word_in registers expected) (word_in registers replacement))) (let same : x ≡ x + 0 = omega arith in same)
      ∙ (ap (λ (w : ℕ). Some (Exchanges (Cell (x + 0)) w (word_in registers replacement))) (sym (word_held registers first.locals expected numbered stands.held))
      ∙ ap (λ (w : ℕ). Some (Exchanges (Cell (x + 0)) (first.locals (local_of expected)) w)) (sym (word_held registers first.locals replacement other_numbered stands.held))));
  after = λ word told. judged pool code e registers expected true base (base + 2) failed word There first refl numbered follows
      (line_is pool code base (root_exchange x expected replacement failed) (with_local 29 word first) 1 lines (omega arith) (ap (λ (k : ℕ). k + 1) stands.at))
      stands refl;
})

-- of the place of an exchange
pub place_made : (pool : Pool) (code : List Line) (target : Target) (setting : Setting) (e : Entry) (exchange : CasEntry) (base failed : ℕ) (There : ℕ → Frame → Type 0) (first : Frame) (place : Place)
    → RunsFor pool target setting e → FitsPlace target setting e place → HasNumber exchange.expected → HasNumber exchange.replacement
    → wants target e ≡ Some (wanting.place_exchange target.fields place e.hand.registers (word_in e.hand.registers exchange.expected) (word_in e.hand.registers exchange.replacement))
    → HasLines code base (place_exchange target.fields base place exchange.expected exchange.replacement failed)
    → Follows pool code e e.hand.registers exchange.expected (has_object place e.hand.registers) (base + place_size place) failed (first.locals 32) There
    → StandsFor e e.hand.registers base first → Comes pool code first (MakesAccess pool code target setting e There)
place_made pool code target setting e exchange base failed There first (places.Root x) runs fits numbered other wanted lines follows stands =
    root_made pool code target setting e e.hand.registers base x failed exchange.expected exchange.replacement There first numbered other wanted lines follows stands
place_made pool code target setting e exchange base failed There first (places.Field (Num a) f) runs fits numbered other wanted lines follows stands = absurd fits
place_made pool code target setting e exchange base failed There first (places.Field (Ref a) f) runs fits numbered other wanted lines follows stands =
    field_made pool code target setting e e.hand.registers base a (kind_of_field target.fields f) (place_of target.fields f) failed exchange.expected exchange.replacement There first
    fits.low numbered other (λ j is. field_is pool target setting e a f j runs fits is) wanted lines follows stands
