-- The zeroes of a `new`.
use Rattle.std.proofs.Common.{◌≡◌, ◌≢◌, ℕ, zero, suc, ◌+◌, ◌*◌, ◌≤◌, ◌<◌, Bool, true, false, ◌&&◌, ◌||◌, not, List, [], ◌∷◌, ◌++◌, length, Option, Some, ◌==◌, if◌then◌else◌, refl, sym, ◌∙◌, ap, subst, arith, ⊎_elim}
use Rattle.std.specs.Prelude.{nat_lt, nat_le, slice_get, slice_index}
use Rattle.std.proofs.lemmas.Bool.Decides.{nat_tests}
use Rattle.norm_lang.specs.declared.text.Reg.{Reg}
use Rattle.norm_lang.specs.declared.text.Reg.TheVariants.{Ref}
use Rattle.norm_lang.specs.declared.text.Instr.TheVariants as instr
use Rattle.norm_lang.specs.declared.registers.Reference.{Reference}
use Rattle.norm_lang.specs.Registers.{with_reference}
use Rattle.target_code.specs.declared.target.TargetInstr.{TargetInstr}
use Rattle.target_code.specs.declared.target.TargetInstr.TheVariants.{Plain}
use Rattle.target_code.specs.declared.target.Target.{Target}
use Rattle.oa_words.specs.Words.{Sizes, FieldOf}
use Rattle.oa_words.specs.SlotKinds.{kind_of, IsNullOrOf}
use Rattle.oa_words.specs.Packed.{ref_word, is_marked}
use Rattle.oa_words.proofs.Parts.{references_split}
use Rattle.phase_pools.specs.Accesses.{Stores}
use Rattle.caller_parts.specs.declared.setting.Reclamation.TheVariants.{Optimistic}
use Rattle.caller_parts.specs.declared.routine.Routine.{Routine}
use Rattle.caller_parts.specs.declared.routine.Routine.TheVariants.{Zeroes}
use Rattle.caller_parts.specs.KindCounts.{field_count}
use Rattle.caller_parts.specs.Operands.{unpacked, with_word, with_new, kind_made, news_before}
use Rattle.caller_parts.specs.Settings.{Setting}
use Rattle.caller_steps.specs.Entries.{Entry, code_in, instr_in, new_number, zero_count, cradle_of}
use Rattle.caller_steps.specs.Belongs.{Stands}
use Rattle.caller_steps.specs.After.{after, counted, with_routine, node_made, settles}
use Rattle.caller_steps.specs.Signs.{quiet}
use Rattle.c_language.specs.declared.lines.Operand.TheVariants.{Number, Local}
use Rattle.c_language.specs.declared.lines.Place.TheVariants as places
use Rattle.c_language.specs.declared.lines.Line.{Line}
use Rattle.c_language.specs.declared.lines.Line.TheVariants as lines
use Rattle.c_language.specs.Steps.{Pool, Frame, Wants, has_field, stop, stop_at, with_local, onward, wrap}
use Rattle.c_language.specs.Runs.{Comes}
use Rattle.c_language.specs.Threads.{lines_of}
use Rattle.c_language.proofs.Walking.{here, walks}
use Rattle.c_runtime.specs.KindLines.{HasLines}
use Rattle.c_emission.specs.Ends.{clear_block, cradle_block, field_lines, new_block, new_size, reference_line}
use Rattle.emission_laws.specs.Hands.{StandsFor, known_of}
use Rattle.emission_laws.specs.Making.{RunsFor, MakesAccess}
use Rattle.emission_laws.proofs.Frames.{goes_onward, loaded, words_after}
use Rattle.emission_laws.proofs.Sides.{line_is, wants_by, after_by, words_of, slots_small}
use Rattle.emission_laws.proofs.Sizes.{field_length}
use Rattle.emission_laws.proofs.Layouts.{lines_at, lines_within, lines_past}
use Rattle.exchange_laws.proofs.Steps.{is_defined, back_lines}
use Rattle.c_calls.specs.News.{AtNew, StandsZeroing, Zeroed}

-- ---- the parts of a `new`

pub clear_length : (base : ℕ) → length (clear_block base) ≡ 24
clear_length base = refl

pub cradle_part : (code : List Line) (base : ℕ) (d : Reg) (kind cradle count : ℕ) → HasLines code base (new_block base d kind cradle count) → HasLines code (base + 24) (cradle_block (base + 24) kind cradle)
cradle_part code base d kind cradle count has =
    lines_within code (base + 24) (cradle_block (base + 24) kind cradle) (field_lines kind 0 count ++ reference_line d ∷ [])
    (back_lines code base 24 (clear_block base) (cradle_block (base + 24) kind cradle ++ (field_lines kind 0 count ++ reference_line d ∷ [])) (clear_length base) has)

last_part : (code : List Line) (base : ℕ) (d : Reg) (kind cradle count : ℕ) → HasLines code base (new_block base d kind cradle count) → HasLines code (base + 32) (field_lines kind 0 count ++ reference_line d ∷ [])
last_part code base d kind cradle count has =
    lines_at code (base + 24 + 8) (base + 32) (field_lines kind 0 count ++ reference_line d ∷ []) (omega arith)
    (back_lines code (base + 24) 8 (cradle_block (base + 24) kind cradle) (field_lines kind 0 count ++ reference_line d ∷ []) refl
    (back_lines code base 24 (clear_block base) (cradle_block (base + 24) kind cradle ++ (field_lines kind 0 count ++ reference_line d ∷ [])) (clear_length base) has))

-- the store to a field
field_stands : (kind g n i x : ℕ) → i < n → x ≡ g + i → slice_get (field_lines kind g n) i ≡ Some (lines.Store (places.Field kind (Local 30) x) (Number 0))
field_stands kind g zero i x lt is = absurd (omega (arith, lt))
field_stands kind g (suc n) zero x lt is = ap (λ (y : ℕ). Some (lines.Store (places.Field kind (Local 30) y) (Number 0))) (omega (arith, is))
field_stands kind g (suc n) (suc i) x lt is = field_stands kind (g + 1) n i x (omega (arith, lt)) (omega (arith, is))

-- ---- its slot

-- the number of its cradle
pub number_is : (target : Target) (e : Entry) (d kind : ℕ) → instr_in target e ≡ Some (Plain (instr.New (Ref d) kind)) → new_number target e ≡ 4 * kind + news_before kind (code_in target e) e.hand.at
number_is target e d kind is = ap (λ (i : Option TargetInstr). 4 * kind_made i + news_before (kind_made i) (code_in target e) e.hand.at) is

has_it : (pool : Pool) (kind j g : ℕ) → IsNullOrOf pool.sizes kind j → j ≢ 0 → g < slice_index pool.fields kind → (has_field pool kind j g && not (j == 0)) ≡ true
has_it pool kind j g object some low = ⊎_elim (λ (null : j ≡ 0). absurd (some null)) slot object where
  slot : (1 ≤ j) × (j ≤ pool.sizes.slots) × (kind_of pool.sizes j ≡ kind) → (has_field pool kind j g && not (j == 0)) ≡ true
  slot is =
      let within = is.1 in
      let same_kind = is.2 in
      let field : nat_lt g (slice_index pool.fields kind) ≡ true = grind (arith, nat_tests) in
      let low_slot : nat_le j pool.sizes.slots ≡ true = grind (arith, nat_tests) in
      let same : (kind_of pool.sizes j == kind) ≡ true = grind (arith, nat_tests) in
      let node : (j == 0) ≡ false = grind (arith, nat_tests) in
      ap (λ (b : Bool). b && (j == 0 || (nat_le j pool.sizes.slots && (kind_of pool.sizes j == kind))) && not (j == 0)) field
      ∙ (ap (λ (b : Bool). true && (b || (nat_le j pool.sizes.slots && (kind_of pool.sizes j == kind))) && not b) node
      ∙ (ap (λ (b : Bool). true && (false || (b && (kind_of pool.sizes j == kind))) && true) low_slot ∙ ap (λ (b : Bool). true && (false || (true && b)) && true) same))

-- a reference without a mark
unmarked : (slot : ℕ) → unpacked (ref_word slot false) ≡ record { node = slot; marked = false }
unmarked slot = ap (λ (j : ℕ). record { node = j; marked = is_marked (ref_word slot false) }) (references_split.slot slot false) ∙ ap (λ (b : Bool). record { node = slot; marked = b }) (references_split.mark slot false)

module _ (pool : Pool) (functions : List (List Line)) (target : Target) (setting : Setting) (e : Entry) (d kind op k field base : ℕ) (f : Frame)
    (runs : RunsFor pool target setting e) (new : AtNew functions target e d kind op base) (at : e.routine ≡ Zeroes k field) (stands : StandsZeroing e k field base f) where
  abbrev count : ℕ
  count = field_count target.fields kind

  belongs : Stands target setting e (Zeroes k field)
  belongs = subst (λ (r : Routine). Stands target setting e r) at runs.belongs.stands

  counted_is : zero_count target (instr_in target e) ≡ count
  counted_is = ap (λ (i : Option TargetInstr). zero_count target i) new.is

  low : field < count
  low = let below = belongs.3 in subst (λ (n : ℕ). field < n) counted_is below

  number : k ≡ 4 * kind + news_before kind (code_in target e) e.hand.at
  number = belongs.1 ∙ number_is target e d kind new.is

  object : IsNullOrOf pool.sizes kind (f.locals 30)
  object = subst (λ (j : ℕ). IsNullOrOf pool.sizes kind j) (ap (cradle_of e) (sym number) ∙ sym stands.slot)
      (subst (λ (n : Sizes). IsNullOrOf n kind (cradle_of e (4 * kind + news_before kind (code_in target e) e.hand.at))) (sym runs.sizes) (runs.belongs.cradles.kinds kind (news_before kind (code_in target e) e.hand.at) new.few))

  some : f.locals 30 ≢ 0
  some none = belongs.2 (sym stands.slot ∙ none)

  last : HasLines (lines_of functions op) (base + 32) (field_lines kind 0 (field_count target.fields kind) ++ reference_line (Ref d) ∷ [])
  last = last_part (lines_of functions op) base (Ref d) kind (new_number target e) (field_count target.fields kind) new.has

  stores : HasLines (lines_of functions op) (base + 32) (field_lines kind 0 (field_count target.fields kind))
  stores = lines_within (lines_of functions op) (base + 32) (field_lines kind 0 (field_count target.fields kind)) (reference_line (Ref d) ∷ []) last

  sets : HasLines (lines_of functions op) (base + 32 + field_count target.fields kind) (reference_line (Ref d) ∷ [])
  sets = lines_past (lines_of functions op) (base + 32) (base + 32 + field_count target.fields kind) (field_lines kind 0 (field_count target.fields kind)) (reference_line (Ref d) ∷ [])
      (ap (λ (n : ℕ). base + 32 + n) (field_length kind 0 (field_count target.fields kind))) last

  store : stop pool (lines_of functions op) f ≡ Wants (Stores (FieldOf (f.locals 30) field) 0) (λ word. onward f)
  store =
      line_is pool (lines_of functions op) (base + 32) (field_lines kind 0 (field_count target.fields kind)) f field stores (let size = field_length kind 0 (field_count target.fields kind) in omega (arith, size, low)) stands.stands.at
      ∙ (ap (stop_at pool f) (field_stands kind 0 (field_count target.fields kind) field field low (omega arith))
      ∙ is_defined (has_field pool kind (f.locals 30) field && not (f.locals 30 == 0)) (Wants (Stores (FieldOf (f.locals 30) field) 0) (λ word. onward f))
      (has_it pool kind (f.locals 30) field object some (let given = runs.fields kind in omega (arith, low, given))))

  ended : (word : ℕ) (b : Bool) → nat_lt (field + 1) (field_count target.fields kind) ≡ b
      → after target setting e word ≡ (if b then quiet (with_routine (counted e) (Zeroes k (field + 1))) else node_made Optimistic target setting.sizes (cradle_of e k) (counted e)).entry
  ended word b t =
      after_by target setting e word (Zeroes k field) runs.by at
      ∙ (ap (λ (n : ℕ). (if nat_lt (field + 1) n then quiet (with_routine (counted e) (Zeroes k (field + 1))) else node_made Optimistic target setting.sizes (cradle_of e k) (counted e)).entry) counted_is
      ∙ ap (λ (x : Bool). (if x then quiet (with_routine (counted e) (Zeroes k (field + 1))) else node_made Optimistic target setting.sizes (cradle_of e k) (counted e)).entry) t)

  -- the reference to the slot
  word_is : wrap (f.locals 30 * 2) ≡ ref_word (cradle_of e k) false
  word_is = ap (λ (j : ℕ). wrap (j * 2)) stands.slot ∙ (let within = runs.belongs.cradles.within k in let few = slots_small pool target setting e runs in omega (arith, within, few))

  reference_is : unpacked (wrap (f.locals 30 * 2)) ≡ record { node = cradle_of e k; marked = false }
  reference_is = ap unpacked word_is ∙ unmarked (cradle_of e k)

  standing : StandsFor e e.hand.registers (base + 32 + (field + 1)) (onward f)
  standing = goes_onward (known_of e) e.hand.registers (base + 32 + field) (base + 32 + (field + 1)) f (omega arith) stands.stands

  gone : (word : ℕ) → nat_lt (field + 1) (field_count target.fields kind) ≡ false → field_count target.fields kind ≤ field + 1 → Comes pool (lines_of functions op) (onward f) (Zeroed target setting e kind k field base word)
  gone word t high =
      walks (with_local (8 + d) (wrap (f.locals 30 * 2)) (onward f))
      (line_is pool (lines_of functions op) (base + 32 + field_count target.fields kind) (reference_line (Ref d) ∷ []) (onward f) 0 sets (omega arith) (standing.at ∙ omega (arith, high, low)))
      (here (record {
        more = λ lt. absurd (let no : ⊥ = omega (arith, lt, high) in no);
        ends = λ le. record {
          entry = counted e;
          spot = record { at = e.hand.at + 1; registers = with_word e.hand.registers (Ref d) (wrap (f.locals 30 * 2)) };
          is = ended word false t
              ∙ (ap (λ (i : Option TargetInstr). (settles Optimistic target setting.sizes (record { at = e.hand.at + 1; registers = with_new i (cradle_of e k) e.hand.registers }) (counted e)).entry) new.is
              ∙ ap (λ (x : Reference). (settles Optimistic target setting.sizes (record { at = e.hand.at + 1; registers = with_reference e.hand.registers (Ref d) x }) (counted e)).entry) (sym reference_is));
          op = refl;
          method = refl;
          at = refl;
          words = words_after e.hand.registers (Ref d) (wrap (f.locals 30 * 2)) (omega arith) (words_of pool target setting e runs);
          stands = loaded (known_of e) e.hand.registers (base + 32 + (field + 1)) (base + new_size (field_count target.fields kind)) (onward f) (Ref d) (wrap (f.locals 30 * 2)) (words_of pool target setting e runs) new.low
              (omega (arith, high, low)) standing;
        };
      }))

  pub made : MakesAccess pool (lines_of functions op) target setting e (Zeroed target setting e kind k field base) f
  made = record {
    access = Stores (FieldOf (f.locals 30) field) 0;
    next = λ word. onward f;
    stops = store;
    wanted = wants_by target e (Zeroes k field) at ∙ ap (λ (j : ℕ). Some (Stores (FieldOf j field) 0)) (sym stands.slot);
    after = λ word told. of word (nat_lt (field + 1) (field_count target.fields kind)) refl;
  } where
    of : (word : ℕ) (b : Bool) → nat_lt (field + 1) (field_count target.fields kind) ≡ b → Comes pool (lines_of functions op) (onward f) (Zeroed target setting e kind k field base word)
    of word true t = here (record {
      more = λ lt. (ended word true t, record { stands = standing; slot = stands.slot; cleared = stands.cleared });
      ends = λ le. absurd (let no : ⊥ = grind (arith, nat_tests) in no);
    })
    of word false t = gone word t (grind (arith, nat_tests))
