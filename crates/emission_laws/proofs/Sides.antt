-- The two sides of a step: what an entry wants and comes to, and what a line does.
use Rattle.std.proofs.Common.{◌≡◌, ℕ, zero, suc, ◌+◌, ◌*◌, ◌/◌, ◌≤◌, ◌<◌, ◌^◌, Bool, true, false, ◌&&◌, ◌||◌, List, [], ◌∷◌, length, Option, Some, None, ◌==◌, refl, sym, ◌∙◌, ap, subst, arith, ⊎_elim}
use Rattle.std.specs.Prelude.{slice_get, slice_index, nat_lt, nat_le, unwrap_or, option_map}
use Rattle.std.proofs.lemmas.Bool.Decides.{nat_tests}
use Rattle.norm_lang.specs.declared.text.Reg.TheVariants.{Ref}
use Rattle.norm_lang.specs.declared.text.FieldDecl.{FieldDecl}
use Rattle.norm_lang.specs.declared.registers.Registers.{Registers}
use Rattle.norm_lang.specs.Registers.{reference_in}
use Rattle.norm_lang.specs.KindFields.{place_of}
use Rattle.norm_lang.proofs.FieldPlaces.{place_below}
use Rattle.target_code.specs.declared.target.TargetInstr.{TargetInstr}
use Rattle.target_code.specs.declared.target.Target.{Target}
use Rattle.oa_words.specs.Words.{Sizes}
use Rattle.oa_words.specs.SlotKinds.{kind_of, IsNullOrOf}
use Rattle.oa_words.proofs.Parts.{references_split}
use Rattle.caller_parts.specs.declared.setting.Reclamation.{Reclamation}
use Rattle.caller_parts.specs.declared.setting.Reclamation.TheVariants.{Optimistic}
use Rattle.caller_parts.specs.declared.routine.Routine.{Routine}
use Rattle.caller_parts.specs.declared.routine.Routine.TheVariants.{At}
use Rattle.caller_parts.specs.KindCounts.{field_count}
use Rattle.caller_parts.specs.Settings.{Setting}
use Rattle.caller_parts.specs.Operands.{slot_in}
use Rattle.caller_steps.specs.Entries.{Entry, instr_in}
use Rattle.caller_steps.specs.Wants.{wants, wanted, instr_wanted}
use Rattle.caller_steps.specs.After.{after, accepted, instr_accepted, counted}
use Rattle.c_language.specs.declared.lines.Line.{Line}
use Rattle.c_language.specs.Steps.{Pool, Frame, has_field, stop, stop_at}
use Rattle.c_runtime.specs.KindLines.{HasLines}
use Rattle.c_emission.specs.Exchanges.{kind_of_field}
use Rattle.emission_laws.specs.Hands.{Holds, AreWords}
use Rattle.emission_laws.specs.Making.{RunsFor}
use Rattle.emission_laws.specs.Accesses.{HasField}

-- ---- the entry's side

pub wants_by : (target : Target) (e : Entry) (routine : Routine) → e.routine ≡ routine → wants target e ≡ wanted target e routine
unfolding wants
wants_by target e routine at = ap (λ (x : Routine). wanted target e x) at

pub after_by : (target : Target) (setting : Setting) (e : Entry) (word : ℕ) (routine : Routine) → setting.reclamation ≡ Optimistic → e.routine ≡ routine
    → after target setting e word ≡ (accepted Optimistic target setting word (counted e) routine).entry
unfolding after
after_by target setting e word routine by at =
    ap (λ (x : Routine). (accepted setting.reclamation target setting word (counted e) x).entry) at
    ∙ ap (λ (r : Reclamation). (accepted r target setting word (counted e) routine).entry) by

pub wants_at : (target : Target) (e : Entry) (i : Option TargetInstr) → e.routine ≡ At → instr_in target e ≡ i
    → wants target e ≡ instr_wanted target.fields e.number i e.hand.registers
wants_at target e i at is = wants_by target e At at ∙ ap (λ (j : Option TargetInstr). instr_wanted target.fields e.number j e.hand.registers) is

pub after_at : (target : Target) (setting : Setting) (e : Entry) (word : ℕ) (i : Option TargetInstr) → setting.reclamation ≡ Optimistic → e.routine ≡ At → instr_in target e ≡ i
    → after target setting e word ≡ (instr_accepted Optimistic target setting.sizes i word (counted e)).entry
after_at target setting e word i by at is =
    after_by target setting e word At by at ∙ ap (λ (j : Option TargetInstr). (instr_accepted Optimistic target setting.sizes j word (counted e)).entry) is

-- slots of the row are far from filling a word
pub slots_small : (pool : Pool) (target : Target) (setting : Setting) (e : Entry) → RunsFor pool target setting e → setting.sizes.slots < 2 ^ 63
slots_small pool target setting e runs =
    small setting.last setting.sizes.tops setting.sizes.slots (let first = runs.is_setting.first in let more = runs.is_setting.phases in omega (arith, first, more)) runs.is_setting.last runs.is_setting.sizes.tops
  where
    small : (last tops slots : ℕ) → 1 ≤ last → last * tops + tops ≤ 2 ^ 64 → slots < tops → slots < 2 ^ 63
    small zero tops slots some fits below = absurd (omega (arith, some))
    small (suc last) tops slots some fits below = omega (arith, fits, below)

-- the registers of an entry that belongs fit words
pub words_of : (pool : Pool) (target : Target) (setting : Setting) (e : Entry) → RunsFor pool target setting e → AreWords e.hand.registers
words_of pool target setting e runs = record {
  numbers = runs.belongs.hand.registers.numbers;
  references = runs.belongs.hand.registers.references;
  small = λ r. (let within = runs.belongs.hand.registers.within r in let few = slots_small pool target setting e runs in omega (arith, within, few));
}

pub started_words : (pool : Pool) (target : Target) (setting : Setting) (e : Entry) → RunsFor pool target setting e → AreWords e.hand.started
started_words pool target setting e runs = record {
  numbers = runs.belongs.hand.started.numbers;
  references = runs.belongs.hand.started.references;
  small = λ r. (let within = runs.belongs.hand.started.within r in let few = slots_small pool target setting e runs in omega (arith, within, few));
}

-- ---- the lines' side

pub line_is : (pool : Pool) (code : List Line) (base : ℕ) (block : List Line) (f : Frame) (i : ℕ) → HasLines code base block → i < length block → f.at ≡ base + i
    → stop pool code f ≡ stop_at pool f (slice_get block i)
line_is pool code base block f i has lt at = ap (λ (k : ℕ). stop_at pool f (slice_get code k)) at ∙ ap (stop_at pool f) (has i lt)

pub slot_of : (registers : Registers) (l : ℕ → ℕ) (a : ℕ) → a < 8 → Holds registers l → l (8 + a) / 2 ≡ slot_in registers (Ref a)
slot_of registers l a low held =
    ap (λ (x : ℕ). x / 2) (held.references a low) ∙ references_split.slot (reference_in registers (Ref a)).node (reference_in registers (Ref a)).marked

-- a field of null, or of a slot of the kind that has it
field_there : (pool : Pool) (k j g : ℕ) → IsNullOrOf pool.sizes k j → g < slice_index pool.fields k → has_field pool k j g ≡ true
field_there pool k j g object low =
    let some : nat_lt g (slice_index pool.fields k) ≡ true = grind (arith, nat_tests) in
    ap (λ (b : Bool). b && (j == 0 || (nat_le j pool.sizes.slots && (kind_of pool.sizes j == k)))) some ∙ ⊎_elim null slot object
  where
    null : j ≡ 0 → (j == 0 || (nat_le j pool.sizes.slots && (kind_of pool.sizes j == k))) ≡ true
    null is = ap (λ (b : Bool). b || (nat_le j pool.sizes.slots && (kind_of pool.sizes j == k))) (let same : (j == 0) ≡ true = grind (arith, nat_tests) in same)

    any : (b : Bool) → (b || (true && true)) ≡ true
    any true = refl
    any false = refl

    slot : (1 ≤ j) × (j ≤ pool.sizes.slots) × (kind_of pool.sizes j ≡ k) → (j == 0 || (nat_le j pool.sizes.slots && (kind_of pool.sizes j == k))) ≡ true
    slot is =
        let within = is.1 in
        let kind = is.2 in
        let low_slot : nat_le j pool.sizes.slots ≡ true = grind (arith, nat_tests) in
        let same : (kind_of pool.sizes j == k) ≡ true = grind (arith, nat_tests) in
        ap (λ (b : Bool). j == 0 || (b && (kind_of pool.sizes j == k))) low_slot ∙ (ap (λ (b : Bool). j == 0 || (true && b)) same ∙ any (j == 0))

-- a field that is declared is one of those of its kind
place_of_kind : (fields : List FieldDecl) (f : ℕ) → f < length fields → place_of fields f < field_count fields (kind_of_field fields f)
place_of_kind fields f low = of (slice_get fields f) refl where
  of : (o : Option FieldDecl) → slice_get fields f ≡ o → place_of fields f < field_count fields (kind_of_field fields f)
  of None is = absurd (missing fields f low is) where
    missing : (xs : List FieldDecl) (i : ℕ) → i < length xs → slice_get xs i ≡ None → ⊥
    missing [] i lt none = absurd (omega (arith, lt))
    missing (x ∷ xs) zero lt none = let no : Some x ≡ None = none in cc
    missing (x ∷ xs) (suc i) lt none = missing xs i (omega (arith, lt)) none
  of (Some field) is =
      let below = place_below fields f field is in
      let kind : kind_of_field fields f ≡ field.owner = ap (λ (o : Option FieldDecl). unwrap_or (option_map (λ (x : FieldDecl). x.owner) o) 0) is in
      subst (λ (k : ℕ). place_of fields f < field_count fields k) (sym kind) below

-- so a frame whose local 30 holds the object may access the field
pub field_is : (pool : Pool) (target : Target) (setting : Setting) (e : Entry) (a f slot : ℕ) → RunsFor pool target setting e → HasField target setting e a f → slot ≡ slot_in e.hand.registers (Ref a)
    → has_field pool (kind_of_field target.fields f) slot (place_of target.fields f) ≡ true
field_is pool target setting e a f slot runs field same =
    field_there pool (kind_of_field target.fields f) slot (place_of target.fields f)
    (subst (λ (j : ℕ). IsNullOrOf pool.sizes (kind_of_field target.fields f) j) (sym same) (subst (λ (n : Sizes). IsNullOrOf n (kind_of_field target.fields f) (slot_in e.hand.registers (Ref a))) (sym runs.sizes) field.object))
    (let low = place_of_kind target.fields f field.declared in let count = runs.fields (kind_of_field target.fields f) in omega (arith, low, count))
