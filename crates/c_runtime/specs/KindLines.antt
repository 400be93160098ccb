-- The kind of a slot, as lines: one test of the slot against the first slot of each further kind.
use Rattle.std.specs.Prelude.{◌≡◌, ℕ, zero, suc, ◌+◌, ◌≤◌, ◌<◌, List, [], ◌∷◌, length, slice_get}
use Rattle.oa_words.specs.SlotKinds.{kind_of}
use Rattle.c_language.specs.declared.lines.Parameter.TheVariants.{FirstSlot}
use Rattle.c_language.specs.declared.lines.Operand.TheVariants.{Number, Local, Of}
use Rattle.c_language.specs.declared.lines.Value.TheVariants as values
use Rattle.c_language.specs.declared.lines.Test.TheVariants as tests
use Rattle.c_language.specs.declared.lines.Line.{Line}
use Rattle.c_language.specs.declared.lines.Line.TheVariants as lines
use Rattle.c_language.specs.Steps.{Pool, Frame}
use Rattle.c_language.specs.Runs.{Comes}

-- after a kind, of which so many follow: the push, if the slot stands before the first of the next kind, or if there is none
abbrev pub kind_jump : ℕ → ℕ → ℕ → Line
kind_jump push t zero = lines.Goto push
kind_jump push t (suc left) = lines.If (tests.Less (Local 2) (Of (FirstSlot (t + 1)))) push

-- from a kind on, with so many kinds. The slot is in local 2, its kind comes into local 12, and the lines go on at the push
abbrev pub kind_lines : ℕ → ℕ → ℕ → List Line
kind_lines push t zero = []
kind_lines push t (suc left) = lines.Let 12 (values.Is (Number t)) ∷ kind_jump push t left ∷ kind_lines push (t + 1) left

-- a function has the lines from a line on
abbrev pub HasLines : List Line → ℕ → List Line → Type 0
HasLines code base block = (i : ℕ) → i < length block → slice_get code (base + i) ≡ slice_get block i

-- the frame stands at the push with the slot's kind, and with nothing else changed
pub record AtPush (push kind : ℕ) (from to : Frame) : Type 0 where
  pub line : to.at ≡ push
  pub named : to.locals 12 ≡ kind
  pub others : (x : ℕ) → (x ≡ 12 → ⊥) → to.locals x ≡ from.locals x
  pub kept : to.kept ≡ from.kept

-- in a function that has them, they lead to the push with the slot's kind
pub record KindsAreFound : Type 0 where
  pub found : (pool : Pool) (code : List Line) (base push j : ℕ) (f : Frame) → 1 ≤ length pool.sizes.kinds → 1 ≤ j
      → HasLines code base (kind_lines push 0 (length pool.sizes.kinds)) → f.at ≡ base → f.locals 2 ≡ j
      → Comes pool code f (AtPush push (kind_of pool.sizes j) f)
