-- What a caller of the core knows, as the locals of a function and as what belongs to its caller.
use Rattle.std.specs.Prelude.{◌≡◌, ℕ, ◌+◌, ◌<◌, ◌^◌, Bool, true, List, length, slice_get, slice_index, unwrap_or}
use Rattle.norm_lang.specs.declared.text.Reg.TheVariants.{Num, Ref}
use Rattle.norm_lang.specs.declared.registers.Registers.{Registers}
use Rattle.norm_lang.specs.Registers.{number_in, reference_in}
use Rattle.caller_parts.specs.Operands.{packed}
use Rattle.caller_steps.specs.Entries.{Entry}
use Rattle.c_language.specs.Steps.{Frame}
use Rattle.c_runtime.specs.ClaimFrames.{Quiet}

-- each register stands in its local
pub record Holds (registers : Registers) (l : ℕ → ℕ) : Type 0 where
  pub numbers : (r : ℕ) → r < 8 → l r ≡ number_in registers (Num r)
  pub references : (r : ℕ) → r < 8 → l (8 + r) ≡ packed (reference_in registers (Ref r))

-- the same of the locals that keep the registers of a wrap-up's start
pub record HoldsStarted (registers : Registers) (l : ℕ → ℕ) : Type 0 where
  pub numbers : (r : ℕ) → r < 8 → l (33 + r) ≡ number_in registers (Num r)
  pub references : (r : ℕ) → r < 8 → l (41 + r) ≡ packed (reference_in registers (Ref r))

-- eight registers of each kind, whose references fit words
pub record AreWords (registers : Registers) : Type 0 where
  pub numbers : length registers.numbers ≡ 8
  pub references : length registers.references ≡ 8
  pub small : (r : ℕ) → (reference_in registers (Ref r)).node < 2 ^ 63

-- what stands in the own hazards
abbrev pub HoldsSlots : List ℕ → (ℕ → ℕ) → Type 0
HoldsSlots slots l = (r : ℕ) → r < 8 → l (21 + r) ≡ unwrap_or (slice_get slots r) 0

-- what a caller knows besides its registers: the call's arguments, the warning that it has seen, what stands in its hazards, whether it runs the
-- wrap-up, the registers of the wrap-up's start, and its cradles
pub record Known : Type 0 where
  pub args : List ℕ
  pub seen : ℕ
  pub slots : List ℕ
  pub wrapup : Bool
  pub started : Registers
  pub cradles : List ℕ

abbrev pub known_of : Entry → Known
known_of e = record {
  args = e.running.call.args;
  seen = e.hand.seen;
  slots = e.hand.guards.slots;
  wrapup = e.hand.wrapup;
  started = e.hand.started;
  cradles = e.cradles;
}

-- the frame has all of it but the warning, which a method loads when it begins. No slot's bit is set
pub record Carries (known : Known) (f : Frame) : Type 0 where
  pub args : (k : ℕ) → k < 4 → f.locals (16 + k) ≡ slice_index known.args k
  pub slots : HoldsSlots known.slots f.locals
  pub started : known.wrapup ≡ true → HoldsStarted known.started f.locals
  pub cradles : (k : ℕ) → k < 16 → f.kept.cradles k ≡ slice_index known.cradles k
  pub quiet : Quiet f.kept

-- the frame stands at a line, with these registers
pub record Stands (known : Known) (registers : Registers) (line : ℕ) (f : Frame) : Type 0 where
  pub at : f.at ≡ line
  pub held : Holds registers f.locals
  pub seen : f.locals 20 ≡ known.seen
  pub carried : Carries known f

-- and has what an entry knows
abbrev pub StandsFor : Entry → Registers → ℕ → Frame → Type 0
StandsFor e registers line f = Stands (known_of e) registers line f
