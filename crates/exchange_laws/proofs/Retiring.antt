-- A retirement, whatever follows it.
use Rattle.std.proofs.Common.{◌≡◌, ℕ, zero, suc, ◌+◌, ◌*◌, ◌/◌, ◌^◌, ◌≤◌, ◌<◌, true, false, List, Option, Some, None, ◌==◌, refl, sym, ◌∙◌, ap, arith}
use Rattle.std.proofs.Math.Nat.{mul-le-mul_left}
use Rattle.norm_lang.specs.declared.text.Reg.{Reg}
use Rattle.norm_lang.specs.declared.text.Reg.TheVariants.{Num, Ref}
use Rattle.norm_lang.specs.declared.registers.Registers.{Registers}
use Rattle.target_code.specs.declared.target.Target.{Target}
use Rattle.oa_words.specs.Words.{Phase, Status}
use Rattle.oa_words.specs.declared.packed.Kind.TheVariants as kinds
use Rattle.oa_words.specs.Packed.{status_word}
use Rattle.phase_pools.specs.declared.stages.RetireStage.TheVariants as stages
use Rattle.phase_pools.specs.Accesses.{Loads, Stores}
use Rattle.phase_pools.specs.Pools.{retire_begun}
use Rattle.caller_parts.specs.declared.routine.AfterRetire.{AfterRetire}
use Rattle.caller_parts.specs.declared.routine.Routine.TheVariants.{Retires}
use Rattle.caller_parts.specs.Settings.{Setting}
use Rattle.caller_parts.specs.Operands.{slot_in, to_retire}
use Rattle.caller_steps.specs.Entries.{Entry}
use Rattle.c_language.specs.declared.lines.Line.{Line}
use Rattle.c_language.specs.Steps.{Pool, Frame, with_local, onward, goes_to, wrap}
use Rattle.c_language.specs.Runs.{Comes}
use Rattle.c_language.proofs.Walking.{walks, goes_if}
use Rattle.c_runtime.specs.KindLines.{HasLines}
use Rattle.c_emission.specs.Exchanges.{retire_lines, retire_size}
use Rattle.emission_laws.specs.Hands.{StandsFor, known_of}
use Rattle.emission_laws.specs.Making.{MakesAccess}
use Rattle.emission_laws.proofs.Frames.{scratched, moved_to, goes_onward}
use Rattle.emission_laws.proofs.Sides.{line_is, slot_of, wants_by}
use Rattle.exchange_laws.specs.Exchanging.{FitsRetired, StandsRetiring, AtRetirement}
use Rattle.exchange_laws.proofs.Steps.{isnt_zero, stands_by}

-- the slot that is to be retired is null, or it stands in a local before the load of the phase
pub retire_begins : (pool : Pool) (code : List Line) (e : Entry) (registers : Registers) (base r : ℕ) (There : Frame → Type 0) (f : Frame) → r < 8
    → HasLines code base (retire_lines base (Some (Ref r))) → StandsFor e registers base f
    → ((h : Frame) → slot_in registers (Ref r) ≡ 0 → StandsFor e registers (base + 6) h → Comes pool code h There)
    → ((h : Frame) (j : ℕ) → slot_in registers (Ref r) ≡ suc j → StandsFor e registers (base + 2) h → h.locals 30 ≡ suc j → Comes pool code h There)
    → Comes pool code f There
retire_begins pool code e registers base r There f low has stands none some =
    walks slotted (line_is pool code base (retire_lines base (Some (Ref r))) f 0 has (omega arith) (stands.at ∙ omega arith)) (of (slot_in registers (Ref r)) refl)
  where
    slotted : Frame
    slotted = with_local 30 (f.locals (8 + r) / 2) f

    its : f.locals (8 + r) / 2 ≡ slot_in registers (Ref r)
    its = slot_of registers f.locals r low stands.held

    standing : StandsFor e registers (base + 1) (with_local 30 (f.locals (8 + r) / 2) f)
    standing = scratched (known_of e) registers base (base + 1) f 30 (f.locals (8 + r) / 2) (omega arith) (omega arith) refl stands

    of : (j : ℕ) → slot_in registers (Ref r) ≡ j → Comes pool code (with_local 30 (f.locals (8 + r) / 2) f) There
    of zero is =
        goes_if {pool = pool} {code = code} {f = with_local 30 (f.locals (8 + r) / 2) f} (f.locals (8 + r) / 2 == 0) true (base + 6)
        (line_is pool code base (retire_lines base (Some (Ref r))) (with_local 30 (f.locals (8 + r) / 2) f) 1 has (omega arith) standing.at)
        (let zero_now : (f.locals (8 + r) / 2 == 0) ≡ true = ap (λ (x : ℕ). x == 0) (its ∙ is) in zero_now)
        (none (goes_to (base + 6) (with_local 30 (f.locals (8 + r) / 2) f)) is (moved_to (known_of e) registers (base + 1) (base + 6) (with_local 30 (f.locals (8 + r) / 2) f) standing))
    of (suc j) is =
        goes_if {pool = pool} {code = code} {f = with_local 30 (f.locals (8 + r) / 2) f} (f.locals (8 + r) / 2 == 0) false (base + 6)
        (line_is pool code base (retire_lines base (Some (Ref r))) (with_local 30 (f.locals (8 + r) / 2) f) 1 has (omega arith) standing.at)
        (ap (λ (x : ℕ). x == 0) (its ∙ is) ∙ isnt_zero j)
        (some (onward (with_local 30 (f.locals (8 + r) / 2) f)) j is (goes_onward (known_of e) registers (base + 1) (base + 2) (with_local 30 (f.locals (8 + r) / 2) f) (omega arith) standing) (its ∙ is))

-- and so with what an exchange retires, if anything
pub retire_follows : (pool : Pool) (code : List Line) (e : Entry) (base : ℕ) (o : Option Reg) (There : Frame → Type 0) (f : Frame) → FitsRetired o
    → HasLines code base (retire_lines base o) → StandsFor e e.hand.registers base f
    → ((h : Frame) → to_retire o e.hand.registers ≡ 0 → StandsFor e e.hand.registers (base + retire_size o) h → Comes pool code h There)
    → ((h : Frame) (j : ℕ) → to_retire o e.hand.registers ≡ suc j → StandsRetiring e (retire_begun (to_retire o e.hand.registers)) base h → Comes pool code h There)
    → Comes pool code f There
retire_follows pool code e base None There f fits has stands none some = none f refl (stands_by (known_of e) e.hand.registers base (base + 0) f (omega arith) stands)
retire_follows pool code e base (Some (Num r)) There f fits has stands none some = absurd fits
retire_follows pool code e base (Some (Ref r)) There f fits has stands none some =
    retire_begins pool code e e.hand.registers base r There f fits has stands none
    (λ h j is standing here_slot. some h j is (record { stands = standing; slot = here_slot ∙ sym is; status = tt }))

-- a phase of the run fits a status
status_fits : (last tops p : ℕ) → last * tops + tops ≤ 2 ^ 64 → 4 ≤ tops → p ≤ last → wrap (wrap (p * 4) + 2) ≡ 4 * p + 2
status_fits last tops p room four low = whole (last * tops) (mul-le-mul_left last four) room where
  whole : (product : ℕ) → last * 4 ≤ product → product + tops ≤ 2 ^ 64 → wrap (wrap (p * 4) + 2) ≡ 4 * p + 2
  whole product scaled room = omega (arith, room, scaled, four, low)

-- the load of the phase leads to the store of the status
pub phase_loaded : (pool : Pool) (code : List Line) (target : Target) (setting : Setting) (e : Entry) (slot : ℕ) (go : AfterRetire) (r base : ℕ) (There : ℕ → Frame → Type 0) (f : Frame)
    → AtRetirement pool code target setting e (retire_begun slot) go r base f
    → ((word : ℕ) (h : Frame) → StandsRetiring e (record { slot = slot; stage = stages.StoreStatus word }) base h → Comes pool code h (There word))
    → MakesAccess pool code target setting e There f
phase_loaded pool code target setting e slot go r base There f retiring more = record {
  access = Loads Phase;
  next = λ word. with_local 31 word f;
  stops = line_is pool code base (retire_lines base (Some (Ref r))) f 2 retiring.has (omega arith) stands.at;
  wanted = wants_by target e (Retires (retire_begun slot) go) retiring.at;
  after = λ word told.
      let loaded = scratched (known_of e) e.hand.registers (base + 2) (base + 3) f 31 word (omega arith) (omega arith) (omega arith) stands in
      let scaled = scratched (known_of e) e.hand.registers (base + 3) (base + 4) (with_local 31 word f) 31 (wrap (word * 4)) (omega arith) (omega arith) (omega arith) loaded in
      walks (with_local 31 (wrap (word * 4)) (with_local 31 word f)) (line_is pool code base (retire_lines base (Some (Ref r))) (with_local 31 word f) 3 retiring.has (omega arith) loaded.at)
      (walks (with_local 31 (wrap (wrap (word * 4) + 2)) (with_local 31 (wrap (word * 4)) (with_local 31 word f)))
      (line_is pool code base (retire_lines base (Some (Ref r))) (with_local 31 (wrap (word * 4)) (with_local 31 word f)) 4 retiring.has (omega arith) scaled.at)
      (more word (with_local 31 (wrap (wrap (word * 4) + 2)) (with_local 31 (wrap (word * 4)) (with_local 31 word f))) (record {
        stands = scratched (known_of e) e.hand.registers (base + 4) (base + 5) (with_local 31 (wrap (word * 4)) (with_local 31 word f)) 31 (wrap (wrap (word * 4) + 2)) (omega arith) (omega arith) (omega arith) scaled;
        slot = retiring.stands.slot;
        status = status_fits setting.last setting.sizes.tops word retiring.runs.is_setting.last retiring.runs.is_setting.sizes.room told.1;
      })));
} where
  stands : StandsFor e e.hand.registers (base + 2) f
  stands = retiring.stands.stands

-- and the store of the status ends it
pub status_stored : (pool : Pool) (code : List Line) (target : Target) (setting : Setting) (e : Entry) (slot p : ℕ) (go : AfterRetire) (r base : ℕ) (There : ℕ → Frame → Type 0) (f : Frame)
    → AtRetirement pool code target setting e (record { slot = slot; stage = stages.StoreStatus p }) go r base f
    → ((word : ℕ) (h : Frame) → StandsFor e e.hand.registers (base + 6) h → Comes pool code h (There word))
    → MakesAccess pool code target setting e There f
status_stored pool code target setting e slot p go r base There f retiring more = record {
  access = Stores (Status (f.locals 30)) (f.locals 31);
  next = λ word. onward f;
  stops = line_is pool code base (retire_lines base (Some (Ref r))) f 5 retiring.has (omega arith) stands.at;
  wanted = wants_by target e (Retires (record { slot = slot; stage = stages.StoreStatus p }) go) retiring.at
      ∙ (ap (λ (j : ℕ). Some (Stores (Status j) (status_word p kinds.Retired))) (sym retiring.stands.slot) ∙ ap (λ (x : ℕ). Some (Stores (Status (f.locals 30)) x)) (sym retiring.stands.status));
  after = λ word told. more word (onward f) (goes_onward (known_of e) e.hand.registers (base + 5) (base + 6) f (omega arith) stands);
} where
  stands : StandsFor e e.hand.registers (base + 5) f
  stands = retiring.stands.stands
