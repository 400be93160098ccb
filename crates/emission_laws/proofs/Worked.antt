-- Rows worked by hand: blocks of lines in a pool of one caller with the number 2.
use Rattle.std.proofs.Common.{◌≡◌, ℕ, [], ◌∷◌, ◌==◌, if◌then◌else◌, refl}
use Rattle.norm_lang.specs.declared.text.Reg.TheVariants.{Num, Ref}
use Rattle.norm_lang.specs.declared.text.Instr.TheVariants as instr
use Rattle.oa_words.specs.Words.{Sizes, Hazard}
use Rattle.phase_pools.specs.Accesses.{Stores}
use Rattle.caller_parts.specs.Spared.{none_spared}
use Rattle.c_language.specs.Steps.{Pool, Frame, Goes, Wants, Replies, Strays, stop, with_local, goes_to, onward}
use Rattle.c_language.specs.Threads.{kept_begun}
use Rattle.c_language.specs.declared.lines.Answer.TheVariants as answers
use Rattle.c_emission.specs.Blocks.{guard_block, check_block, put_block, clear_lines}
use Rattle.c_emission.specs.Locals.{local_block}
use Rattle.c_emission.specs.Ends.{return_block}

abbrev row : Sizes
row = record { callers = 3; slots = 7; fields = 2; cells = 1; kinds = 4 ∷ 3 ∷ []; tops = 8192 }

abbrev pool : Pool
pool = record { sizes = row; fields = 2 ∷ 1 ∷ []; last = 9; own = 2 }

-- a frame with some locals; all others are 0
abbrev frame : ℕ → (ℕ → ℕ) → Frame
frame at locals = record { at = at; locals = locals; kept = kept_begun }

abbrev only : ℕ → ℕ → ℕ → ℕ
only d x y = if y == d then x else 0

-- r3 holds the word 13, slot 6 with a mark: the slot goes to the hazard, and then to local 24
guarded_slot : stop pool (guard_block (Ref 3)) (frame 0 (only 11 13)) ≡ Goes (with_local 30 6 (frame 0 (only 11 13)))
guarded_slot = refl

guarded_store : stop pool (guard_block (Ref 3)) (with_local 30 6 (frame 0 (only 11 13)))
    ≡ Wants (Stores (Hazard 2 3) 6) (λ word. onward (with_local 30 6 (frame 0 (only 11 13))))
guarded_store = refl

guarded_local : stop pool (guard_block (Ref 3)) (frame 2 (only 30 6)) ≡ Goes (with_local 24 6 (frame 2 (only 30 6)))
guarded_local = refl

-- the clear of r3, whose lines are the fourth three, stores 0 there
cleared_store : stop pool (clear_lines none_spared 0 0 8) (frame 10 (only 24 6)) ≡ Wants (Stores (Hazard 2 3) 0) (λ word. onward (frame 10 (only 24 6)))
cleared_store = refl

-- a check that finds 5 where 4 was seen goes to the line for a caller that was warned; with 4 it goes on
warned_by : stop pool (check_block 90) (with_local 29 5 (frame 0 (only 20 4))) ≡ Goes (goes_to 90 (with_local 29 5 (frame 0 (only 20 4))))
warned_by = refl

passes_by : stop pool (check_block 90) (with_local 29 4 (frame 0 (only 20 4))) ≡ Goes (onward (with_local 29 4 (frame 0 (only 20 4))))
passes_by = refl

-- a put into slot 6, which is of the second kind, strays as one of the first, and as one of a field that the kind doesn't have
put_strays : stop pool (put_block (Ref 0) 0 0 (Num 1)) (frame 1 (only 30 6)) ≡ Strays
put_strays = refl

put_past : stop pool (put_block (Ref 0) 1 1 (Num 1)) (frame 1 (only 30 6)) ≡ Strays
put_past = refl

-- r1 becomes r0 with its mark: of the word 12 and of 13 the last line makes 13
marked_last : stop pool (local_block (λ at. at) (instr.Mark (Ref 1) (Ref 0))) (frame 2 (only 31 12)) ≡ Goes (with_local 9 13 (frame 2 (only 31 12)))
marked_last = refl

-- a return of n1 ends with it, in the line after the clear
returned : stop pool (return_block 0 (Num 1)) (frame 24 (only 1 7)) ≡ Replies answers.Number 7
returned = refl
