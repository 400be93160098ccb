-- Loads, puts, checks and guards.
use Rattle.std.proofs.Common.{◌≡◌, ◌≢◌, ℕ, zero, suc, ◌+◌, ◌/◌, ◌%◌, ◌≤◌, ◌<◌, Bool, true, false, ◌&&◌, not, List, Option, Some, ◌==◌, if◌then◌else◌, refl, sym, ◌∙◌, ap, subst, arith}
use Rattle.std.proofs.lemmas.Bool.Decides.{nat_tests}
use Rattle.norm_lang.specs.declared.text.Reg.{Reg}
use Rattle.norm_lang.specs.declared.text.Reg.TheVariants.{Num, Ref}
use Rattle.norm_lang.specs.declared.text.Instr.TheVariants as instr
use Rattle.norm_lang.specs.Registers.{number_in}
use Rattle.norm_lang.specs.KindFields.{place_of}
use Rattle.norm_lang.specs.Local.{remainder}
use Rattle.target_code.specs.declared.target.TargetInstr.TheVariants.{Plain, Check, Guard}
use Rattle.target_code.specs.declared.target.Target.{Target}
use Rattle.oa_words.specs.Words.{Warning, Hazard, FieldOf, Cell}
use Rattle.phase_pools.specs.Accesses.{WordAccess, Loads, Stores}
use Rattle.guard_words.specs.Guards.{with_guard, guard_at, pass_check}
use Rattle.guard_words.proofs.Rows.{guards_follow}
use Rattle.caller_parts.specs.declared.setting.Reclamation.TheVariants.{Optimistic}
use Rattle.caller_parts.specs.Settings.{Setting}
use Rattle.caller_parts.specs.Operands.{with_word, word_in, slot_in}
use Rattle.caller_steps.specs.Entries.{Entry}
use Rattle.caller_steps.specs.Wants.{wants}
use Rattle.caller_steps.specs.Lawful.{MayBeTold}
use Rattle.caller_steps.specs.After.{after, counted, settles, with_access, with_hand, check_passed, check_failed}
use Rattle.c_language.specs.declared.lines.Line.{Line}
use Rattle.c_language.specs.Steps.{Pool, Frame, Stop, Goes, Wants, defined, stop, with_local, onward, goes_to, branch}
use Rattle.c_language.specs.Runs.{Comes}
use Rattle.c_language.proofs.Walking.{here, walks, goes_if, goes_divided}
use Rattle.c_emission.specs.Blocks.{local_of, root_block, pick_block, load_block, put_block, check_block, guard_block}
use Rattle.c_emission.specs.Exchanges.{kind_of_field}
use Rattle.emission_laws.specs.Hands.{StandsFor, known_of}
use Rattle.emission_laws.specs.Making.{RunsFor, GoesOn, MakesAccess, HasNumber, FitsIn, TellsFitting}
use Rattle.emission_laws.specs.Accesses.{AtBlock, HasField, WasWarned, Checked, AccessesAreMade}
use Rattle.emission_laws.proofs.Frames.{scratched, moved_to, goes_onward, loaded, guarded, word_held, words_after}
use Rattle.emission_laws.proofs.Sides.{wants_at, after_at, words_of, line_is, slot_of, field_is}

-- what an entry that wants an access may be told
told_of : (target : Target) (setting : Setting) (e : Entry) (a : WordAccess) (word : ℕ) → wants target e ≡ Some a → MayBeTold target setting (Some a) word → MayBeTold target setting (wants target e) word
told_of target setting e a word is told = subst (λ (o : Option WordAccess). MayBeTold target setting o word) (sym is) told

-- after a load: the register has the word
fetched : (pool : Pool) (target : Target) (setting : Setting) (e : Entry) (d : Reg) (word line next : ℕ) (f : Frame) → RunsFor pool target setting e → HasNumber d → FitsIn d word → line + 1 ≡ next
    → StandsFor e e.hand.registers line f
    → after target setting e word ≡ (settles Optimistic target setting.sizes (record { at = e.hand.at + 1; registers = with_word e.hand.registers d word }) (with_access (counted e))).entry
    → GoesOn target setting e word next (with_local (local_of d) word f)
fetched pool target setting e d word line next f runs numbered fits ends stands is = record {
  entry = with_access (counted e);
  spot = record { at = e.hand.at + 1; registers = with_word e.hand.registers d word };
  is = is;
  op = refl;
  method = refl;
  at = refl;
  words = words_after e.hand.registers d word fits (words_of pool target setting e runs);
  stands = loaded (known_of e) e.hand.registers line next f d word (words_of pool target setting e runs) numbered ends stands;
}

-- ---- loads

root_makes : (pool : Pool) (code : List Line) (target : Target) (setting : Setting) (e : Entry) (d : Reg) (x base : ℕ) (first : Frame)
    → AtBlock pool code target setting e (Plain (instr.LoadRoot d x)) (root_block d x) base first → HasNumber d → TellsFitting target setting e d
    → Comes pool code first (MakesAccess pool code target setting e (λ word. GoesOn target setting e word (base + 1)))
root_makes pool code target setting e d x base first block numbered fits =
    here (record {
      access = Loads (Cell (x + 0));
      next = λ word. with_local (local_of d) word first;
      stops = line_is pool code base (root_block d x) first 0 block.has (omega arith) (let at = block.stands.at in omega (arith, at));
      wanted = wanted;
      after = λ word told. here (fetched pool target setting e d word base (base + 1) first block.runs numbered (fits word (told_of target setting e (Loads (Cell (x + 0))) word wanted told)) refl block.stands
          (after_at target setting e word (Some (Plain (instr.LoadRoot d x))) block.runs.by block.at block.is));
    })
  where
    wanted : wants target e ≡ Some (Loads (Cell (x + 0)))
    wanted = wants_at target e (Some (Plain (instr.LoadRoot d x))) block.at block.is ∙ ap (λ (k : ℕ). Some (Loads (Cell k))) (let none : x ≡ x + 0 = omega arith in none)

rest_of : (count n : ℕ) → 1 ≤ count → remainder n count ≡ n % count
rest_of zero n some = absurd (omega (arith, some))
rest_of (suc count) n some = refl

pick_makes : (pool : Pool) (code : List Line) (target : Target) (setting : Setting) (e : Entry) (d : Reg) (x count a base : ℕ) (first : Frame)
    → AtBlock pool code target setting e (Plain (instr.LoadPick d x count (Num a))) (pick_block d x count (Num a)) base first → HasNumber d → a < 8 → 1 ≤ count → TellsFitting target setting e d
    → Comes pool code first (MakesAccess pool code target setting e (λ word. GoesOn target setting e word (base + 2)))
pick_makes pool code target setting e d x count a base first block numbered low some fits =
    goes_divided {pool = pool} {code = code} {f = first} 31 (first.locals a % count) count
    (line_is pool code base (pick_block d x count (Num a)) first 0 block.has (omega arith) (let at = block.stands.at in omega (arith, at))) some
    (here (record {
      access = Loads (Cell (x + first.locals a % count));
      next = λ word. with_local (local_of d) word picked;
      stops = line_is pool code base (pick_block d x count (Num a)) picked 1 block.has (omega arith) (let at = block.stands.at in omega (arith, at));
      wanted = wanted;
      after = λ word told. here (fetched pool target setting e d word (base + 1) (base + 2) picked block.runs numbered (fits word (told_of target setting e (Loads (Cell (x + first.locals a % count))) word wanted told)) (omega arith)
          (scratched (known_of e) e.hand.registers base (base + 1) first 31 (first.locals a % count) (omega arith) (omega arith) refl block.stands)
          (after_at target setting e word (Some (Plain (instr.LoadPick d x count (Num a)))) block.runs.by block.at block.is));
    }))
  where
    picked : Frame
    picked = with_local 31 (first.locals a % count) first

    wanted : wants target e ≡ Some (Loads (Cell (x + first.locals a % count)))
    wanted = wants_at target e (Some (Plain (instr.LoadPick d x count (Num a)))) block.at block.is
        ∙ (ap (λ (k : ℕ). Some (Loads (Cell (x + k)))) (rest_of count (number_in e.hand.registers (Num a)) some)
        ∙ ap (λ (n : ℕ). Some (Loads (Cell (x + n % count)))) (sym (block.stands.held.numbers a low)))

load_makes : (pool : Pool) (code : List Line) (target : Target) (setting : Setting) (e : Entry) (d : Reg) (a f base : ℕ) (first : Frame)
    → AtBlock pool code target setting e (Plain (instr.LoadField d (Ref a) f)) (load_block d (Ref a) (kind_of_field target.fields f) (place_of target.fields f)) base first
    → HasNumber d → HasField target setting e a f → TellsFitting target setting e d
    → Comes pool code first (MakesAccess pool code target setting e (λ word. GoesOn target setting e word (base + 2)))
load_makes pool code target setting e d a f base first block numbered field fits =
    walks slotted (line_is pool code base (load_block d (Ref a) (kind_of_field target.fields f) (place_of target.fields f)) first 0 block.has (omega arith) (let at = block.stands.at in omega (arith, at)))
    (here (record {
      access = Loads (FieldOf (first.locals (8 + a) / 2) (place_of target.fields f));
      next = λ word. with_local (local_of d) word slotted;
      stops = line_is pool code base (load_block d (Ref a) (kind_of_field target.fields f) (place_of target.fields f)) slotted 1 block.has (omega arith) (let at = block.stands.at in omega (arith, at))
          ∙ ap (λ (b : Bool). defined b (Wants (Loads (FieldOf (first.locals (8 + a) / 2) (place_of target.fields f))) (λ word. with_local (local_of d) word slotted)))
          (field_is pool target setting e a f (first.locals (8 + a) / 2) block.runs field slot);
      wanted = wanted;
      after = λ word told. here (fetched pool target setting e d word (base + 1) (base + 2) slotted block.runs numbered (fits word (told_of target setting e (Loads (FieldOf (first.locals (8 + a) / 2) (place_of target.fields f))) word wanted told)) (omega arith)
          (scratched (known_of e) e.hand.registers base (base + 1) first 30 (first.locals (8 + a) / 2) (omega arith) (omega arith) refl block.stands)
          (after_at target setting e word (Some (Plain (instr.LoadField d (Ref a) f))) block.runs.by block.at block.is));
    }))
  where
    slotted : Frame
    slotted = with_local 30 (first.locals (8 + a) / 2) first

    slot : first.locals (8 + a) / 2 ≡ slot_in e.hand.registers (Ref a)
    slot = slot_of e.hand.registers first.locals a field.low block.stands.held

    wanted : wants target e ≡ Some (Loads (FieldOf (first.locals (8 + a) / 2) (place_of target.fields f)))
    wanted = wants_at target e (Some (Plain (instr.LoadField d (Ref a) f))) block.at block.is ∙ ap (λ (j : ℕ). Some (Loads (FieldOf j (place_of target.fields f)))) (sym slot)

-- ---- a put

put_makes : (pool : Pool) (code : List Line) (target : Target) (setting : Setting) (e : Entry) (a f : ℕ) (b : Reg) (base : ℕ) (first : Frame)
    → AtBlock pool code target setting e (Plain (instr.Put (Ref a) f b)) (put_block (Ref a) (kind_of_field target.fields f) (place_of target.fields f) b) base first
    → HasNumber b → HasField target setting e a f → slot_in e.hand.registers (Ref a) ≢ 0
    → Comes pool code first (MakesAccess pool code target setting e (λ word. GoesOn target setting e word (base + 2)))
put_makes pool code target setting e a f b base first block numbered field some =
    walks slotted (line_is pool code base (put_block (Ref a) (kind_of_field target.fields f) (place_of target.fields f) b) first 0 block.has (omega arith) (let at = block.stands.at in omega (arith, at)))
    (here (record {
      access = Stores (FieldOf (first.locals (8 + a) / 2) (place_of target.fields f)) (slotted.locals (local_of b));
      next = λ word. onward slotted;
      stops = line_is pool code base (put_block (Ref a) (kind_of_field target.fields f) (place_of target.fields f) b) slotted 1 block.has (omega arith) (let at = block.stands.at in omega (arith, at))
          ∙ (ap (λ (x : Bool). defined (x && not (first.locals (8 + a) / 2 == 0)) stores) (field_is pool target setting e a f (first.locals (8 + a) / 2) block.runs field slot)
          ∙ ap (λ (x : Bool). defined (true && not x) stores) isnt_null);
      wanted = wants_at target e (Some (Plain (instr.Put (Ref a) f b))) block.at block.is
          ∙ (ap (λ (j : ℕ). Some (Stores (FieldOf j (place_of target.fields f)) (word_in e.hand.registers b))) (sym slot)
          ∙ ap (λ (x : ℕ). Some (Stores (FieldOf (first.locals (8 + a) / 2) (place_of target.fields f)) x)) (sym (word_held e.hand.registers slotted.locals b numbered stands.held)));
      after = λ word told. here (record {
        entry = counted e;
        spot = record { at = e.hand.at + 1; registers = e.hand.registers };
        is = after_at target setting e word (Some (Plain (instr.Put (Ref a) f b))) block.runs.by block.at block.is;
        op = refl;
        method = refl;
        at = refl;
        words = words_of pool target setting e block.runs;
        stands = goes_onward (known_of e) e.hand.registers (base + 1) (base + 2) slotted (omega arith) stands;
      });
    }))
  where
    slotted : Frame
    slotted = with_local 30 (first.locals (8 + a) / 2) first

    slot : first.locals (8 + a) / 2 ≡ slot_in e.hand.registers (Ref a)
    slot = slot_of e.hand.registers first.locals a field.low block.stands.held

    stores : Stop
    stores = Wants (Stores (FieldOf (first.locals (8 + a) / 2) (place_of target.fields f)) (slotted.locals (local_of b))) (λ word. onward slotted)

    isnt_null : (first.locals (8 + a) / 2 == 0) ≡ false
    isnt_null = ap (λ (j : ℕ). j == 0) slot ∙ (let other : (slot_in e.hand.registers (Ref a) == 0) ≡ false = grind (arith, nat_tests) in other)

    stands : StandsFor e e.hand.registers (base + 1) slotted
    stands = scratched (known_of e) e.hand.registers base (base + 1) first 30 (first.locals (8 + a) / 2) (omega arith) (omega arith) refl block.stands

-- ---- a check

check_makes : (pool : Pool) (code : List Line) (target : Target) (setting : Setting) (e : Entry) (base warned : ℕ) (first : Frame)
    → AtBlock pool code target setting e Check (check_block warned) base first
    → Comes pool code first (MakesAccess pool code target setting e (Checked target setting e (base + 2) warned))
check_makes pool code target setting e base warned first block =
    here (record {
      access = Loads (Warning pool.own);
      next = λ word. with_local 29 word first;
      stops = line_is pool code base (check_block warned) first 0 block.has (omega arith) (let at = block.stands.at in omega (arith, at));
      wanted = wants_at target e (Some Check) block.at block.is ∙ ap (λ (c : ℕ). Some (Loads (Warning c))) (sym block.runs.own);
      after = λ word told. judged word (word == e.hand.seen) refl;
    })
  where
    found : (word : ℕ) → StandsFor e e.hand.registers (base + 1) (with_local 29 word first)
    found word = scratched (known_of e) e.hand.registers base (base + 1) first 29 word (omega arith) (omega arith) refl block.stands

    tested : (word : ℕ) → stop pool code (with_local 29 word first) ≡ Goes (branch (not (word == first.locals 20)) warned (with_local 29 word first))
    tested word = line_is pool code base (check_block warned) (with_local 29 word first) 1 block.has (omega arith) (let at = block.stands.at in omega (arith, at))

    same_test : (word : ℕ) (b : Bool) → (word == e.hand.seen) ≡ b → not (word == first.locals 20) ≡ not b
    same_test word b t = ap (λ (x : ℕ). not (word == x)) block.stands.seen ∙ ap not t

    accepts : (word : ℕ) (b : Bool) → (word == e.hand.seen) ≡ b
        → after target setting e word ≡ (if b then check_passed target setting.sizes (counted e) else check_failed target setting.sizes word (counted e)).entry
    accepts word b t = after_at target setting e word (Some Check) block.runs.by block.at block.is
        ∙ ap (λ (x : Bool). (if x then check_passed target setting.sizes (counted e) else check_failed target setting.sizes word (counted e)).entry) t

    judged : (word : ℕ) (b : Bool) → (word == e.hand.seen) ≡ b → Comes pool code (with_local 29 word first) (Checked target setting e (base + 2) warned word)
    judged word true t =
        goes_if {pool = pool} {code = code} {f = with_local 29 word first} (not (word == first.locals 20)) false warned (tested word) (same_test word true t)
        (here (record { passes = passes; fails = λ ne. absurd (ne (grind (arith, nat_tests))) }))
      where
        passes : word ≡ e.hand.seen → GoesOn target setting e word (base + 2) (onward (with_local 29 word first))
        passes same = record {
          entry = with_hand (counted e) (record e.hand { guards = pass_check e.hand.guards });
          spot = record { at = e.hand.at + 1; registers = e.hand.registers };
          is = accepts word true t;
          op = refl;
          method = refl;
          at = refl;
          words = words_of pool target setting e block.runs;
          stands = goes_onward (known_of e) e.hand.registers (base + 1) (base + 2) (with_local 29 word first) (omega arith) (found word);
        }
    judged word false t =
        goes_if {pool = pool} {code = code} {f = with_local 29 word first} (not (word == first.locals 20)) true warned (tested word) (same_test word false t)
        (here (record { passes = λ same. absurd (let differs : word ≢ e.hand.seen = grind (arith, nat_tests) in differs same); fails = fails }))
      where
        fails : word ≢ e.hand.seen → WasWarned target setting e word warned (goes_to warned (with_local 29 word first))
        fails ne = record { fails = accepts word false t; found = refl; stands = moved_to (known_of e) e.hand.registers (base + 1) warned (with_local 29 word first) (found word) }

-- ---- a guard

guard_makes : (pool : Pool) (code : List Line) (target : Target) (setting : Setting) (e : Entry) (r base : ℕ) (first : Frame)
    → AtBlock pool code target setting e (Guard (Ref r)) (guard_block (Ref r)) base first → r < 8
    → Comes pool code first (MakesAccess pool code target setting e (λ word. GoesOn target setting e word (base + 3)))
guard_makes pool code target setting e r base first block low =
    walks slotted (line_is pool code base (guard_block (Ref r)) first 0 block.has (omega arith) (let at = block.stands.at in omega (arith, at)))
    (here (record {
      access = Stores (Hazard pool.own r) (first.locals (8 + r) / 2);
      next = λ word. onward slotted;
      stops = line_is pool code base (guard_block (Ref r)) slotted 1 block.has (omega arith) (let at = block.stands.at in omega (arith, at));
      wanted = wants_at target e (Some (Guard (Ref r))) block.at block.is
          ∙ (ap (λ (c : ℕ). Some (Stores (Hazard c r) (slot_in e.hand.registers (Ref r)))) (sym block.runs.own) ∙ ap (λ (j : ℕ). Some (Stores (Hazard pool.own r) j)) (sym slot));
      after = λ word told. walks (with_local (21 + r) (first.locals (8 + r) / 2) (onward slotted))
          (line_is pool code base (guard_block (Ref r)) (onward slotted) 2 block.has (omega arith) (let at = block.stands.at in omega (arith, at)))
          (here (record {
            entry = with_hand (counted e) (record e.hand { guards = with_guard e.hand.guards r (slot_in e.hand.registers (Ref r)) });
            spot = record { at = e.hand.at + 1; registers = e.hand.registers };
            is = after_at target setting e word (Some (Guard (Ref r))) block.runs.by block.at block.is;
            op = refl;
            method = refl;
            at = refl;
            words = words_of pool target setting e block.runs;
            stands = guarded (known_of e) e.hand.registers (base + 2) (base + 3) (onward slotted) r (first.locals (8 + r) / 2) (with_guard e.hand.guards r (slot_in e.hand.registers (Ref r))).slots low (omega arith)
                (λ k same. ap (guard_at (with_guard e.hand.guards r (slot_in e.hand.registers (Ref r)))) same ∙ (guards_follow.put_slot e.hand.guards r (slot_in e.hand.registers (Ref r)) block.runs.belongs.hand.guards.row low ∙ sym slot))
                (λ k ne. guards_follow.other_slot e.hand.guards r (slot_in e.hand.registers (Ref r)) k ne)
                (goes_onward (known_of e) e.hand.registers (base + 1) (base + 2) slotted (omega arith)
                (scratched (known_of e) e.hand.registers base (base + 1) first 30 (first.locals (8 + r) / 2) (omega arith) (omega arith) refl block.stands));
          }));
    }))
  where
    slotted : Frame
    slotted = with_local 30 (first.locals (8 + r) / 2) first

    slot : first.locals (8 + r) / 2 ≡ slot_in e.hand.registers (Ref r)
    slot = slot_of e.hand.registers first.locals r low block.stands.held

pub accesses_are_made : AccessesAreMade
accesses_are_made = record { roots = root_makes; picks = pick_makes; loads = load_makes; puts = put_makes; checks = check_makes; guards = guard_makes }
