-- The call of a claim, and its ends.
use Rattle.std.proofs.Common.{◌≡◌, ◌≢◌, ℕ, zero, suc, ◌+◌, ◌≤◌, ◌<◌, true, false, not, List, [], length, Some, None, ◌==◌, refl, sym, ◌∙◌, ap, arith, ⊎_elim}
use Rattle.std.specs.Prelude.{nat_lt, slice_get, slice_set, slice_index}
use Rattle.std.proofs.lemmas.Bool.{cases_eq}
use Rattle.std.proofs.lemmas.Bool.Decides.{nat_tests}
use Rattle.norm_lang.specs.declared.text.Reg.TheVariants.{Ref}
use Rattle.norm_lang.specs.declared.text.Instr.TheVariants as instr
use Rattle.norm_lang.specs.declared.registers.Registers.{Registers}
use Rattle.target_code.specs.declared.target.TargetInstr.TheVariants.{Plain}
use Rattle.target_code.specs.declared.target.Target.{Target}
use Rattle.phase_pools.specs.Accesses.{WordAccess}
use Rattle.caller_parts.specs.KindCounts.{field_count}
use Rattle.caller_parts.specs.Operands.{news_before}
use Rattle.caller_parts.specs.Settings.{Setting, Fits, IsSetting}
use Rattle.caller_steps.specs.Entries.{Entry, code_in, instr_in, new_number}
use Rattle.caller_steps.specs.After.{slot_claimed}
use Rattle.c_language.specs.declared.lines.Answer.{Answer}
use Rattle.c_language.specs.declared.lines.Answer.TheVariants as answers
use Rattle.c_language.specs.declared.lines.Line.{Line}
use Rattle.c_language.specs.Steps.{Pool, Kept, Frame, Stop, Returns, stop, set, with_local, onward, goes_to, branch, with_kept, keep, has_cradle, defined}
use Rattle.c_language.specs.Steps as steps
use Rattle.c_language.specs.Runs.{on_stop, goes}
use Rattle.c_language.specs.Threads.{Thread, turn_of, lines_of}
use Rattle.c_language.proofs.Walking.{here, walks, goes_if}
use Rattle.c_runtime.specs.KindLines.{HasLines}
use Rattle.c_runtime.specs.ClaimFrames.{Quiet}
use Rattle.c_runtime.specs.Laws.{claim_code}
use Rattle.c_runtime.proofs.Cradles.{claims_keep_cradles}
use Rattle.c_emission.specs.Ends.{cradle_block}
use Rattle.emission_laws.specs.Hands.{Known, Stands, StandsFor, known_of}
use Rattle.emission_laws.proofs.Tables.{set_here, set_apart, index_here, index_apart}
use Rattle.emission_laws.proofs.Frames.{scratched, moved_to}
use Rattle.emission_laws.proofs.Sides.{line_is}
use Rattle.exchange_laws.proofs.Steps.{is_defined}
use Rattle.c_calls.specs.Turns.{Leads}
use Rattle.c_calls.specs.News.{AtNew, HasCleared, Runs, StandsZeroing, waiting_frame, EndsWith}
use Rattle.c_calls.proofs.Turning.{stays, thread_of, lifted}
use Rattle.c_calls.proofs.Zeroing.{cradle_part, number_is}

-- ---- frames

-- bits that aren't set are no slot's
pub with_quiet : (known : Known) (registers : Registers) (line : ℕ) (f : Frame) (kept : Kept) → ((k : ℕ) → kept.cradles k ≡ f.kept.cradles k) → Quiet kept → Stands known registers line f → Stands known registers line (with_kept kept f)
with_quiet known registers line f kept same quiet stands = record {
  at = stands.at;
  held = record { numbers = stands.held.numbers; references = stands.held.references };
  seen = stands.seen;
  carried = record {
    args = stands.carried.args;
    slots = stands.carried.slots;
    started = stands.carried.started;
    cradles = λ k lt. same k ∙ stands.carried.cradles k lt;
    quiet = quiet;
  };
}

-- the lines of a claim leave the cradles as they are
pub wants_same : (pool : Pool) (kind : ℕ) (f : Frame) (a : WordAccess) (next : ℕ → Frame) → stop pool (claim_code pool kind) f ≡ steps.Wants a next → (word : ℕ) → (next word).kept.cradles ≡ f.kept.cradles
wants_same pool kind f a next is word = (claims_keep_cradles pool kind f).wants a next is word

end_frame : (f g : Frame) → Some f ≡ Some g → f ≡ g
end_frame f g e = cc

no_frame : (P : Type 0) (g : Frame) → None ≡ Some g → P
no_frame P g e = absurd (let no : ⊥ = cc in no)

pub goes_same : (pool : Pool) (kind n : ℕ) (f g : Frame) → goes pool (claim_code pool kind) n f ≡ Some g → g.kept.cradles ≡ f.kept.cradles
goes_same pool kind zero f g went = ap (λ (h : Frame). h.kept.cradles) (sym (end_frame f g went))
goes_same pool kind (suc n) f g went = of (stop pool (claim_code pool kind) f) refl went (λ h on. goes_same pool kind n h g on) where
  of : (s : Stop) → stop pool (claim_code pool kind) f ≡ s → on_stop s (goes pool (claim_code pool kind) n) ≡ Some g
      → ((h : Frame) → goes pool (claim_code pool kind) n h ≡ Some g → g.kept.cradles ≡ h.kept.cradles) → g.kept.cradles ≡ f.kept.cradles
  of (steps.Goes h) e on rest = rest h on ∙ (claims_keep_cradles pool kind f).goes h e
  of (steps.Wants a next) e on rest = no_frame (g.kept.cradles ≡ f.kept.cradles) g on
  of (steps.Calls d called) e on rest = no_frame (g.kept.cradles ≡ f.kept.cradles) g on
  of (steps.Returns x) e on rest = no_frame (g.kept.cradles ≡ f.kept.cradles) g on
  of (steps.Replies answer x) e on rest = no_frame (g.kept.cradles ≡ f.kept.cradles) g on
  of steps.Strays e on rest = no_frame (g.kept.cradles ≡ f.kept.cradles) g on

-- the number of a cradle
pub number_small : (target : Target) (setting : Setting) (e : Entry) (d kind : ℕ) → IsSetting setting → Fits target setting → kind < length target.kinds → instr_in target e ≡ Some (Plain (instr.New (Ref d) kind))
    → news_before kind (code_in target e) e.hand.at < 4 → new_number target e < 16
number_small target setting e d kind valid fits low is few =
    let number = number_is target e d kind is in
    let most = valid.sizes.kinds.few in
    let count = fits.kinds in
    omega (arith, number, most, count, low, few)

-- ---- the ends of a claim, in the operation that called it

module _ (pool : Pool) (functions : List (List Line)) (target : Target) (entry : Entry) (d kind op base : ℕ) (new : AtNew functions target entry d kind op base)
    (small : new_number target entry < 16) (count : length entry.cradles ≡ 16) (locals : ℕ → ℕ) (kept : Kept) (quiet : Quiet kept)
    (stands : StandsFor entry entry.hand.registers (base + 27) (waiting_frame base locals kept)) (cleared : HasCleared entry) where
  lines : HasLines (lines_of functions op) (base + 24) (cradle_block (base + 24) kind (new_number target entry))
  lines = cradle_part (lines_of functions op) base (Ref d) kind (new_number target entry) (field_count target.fields kind) new.has

  -- the operation goes on with what was returned
  abbrev resumed : ℕ → Frame
  resumed x = record { at = base + 27; locals = set locals 30 x; kept = kept }

  standing : (x : ℕ) → StandsFor entry entry.hand.registers (base + 27) (record { at = base + 27; locals = set locals 30 x; kept = kept })
  standing x = with_quiet (known_of entry) entry.hand.registers (base + 27) (goes_to (base + 27) (with_local 30 x (waiting_frame base locals kept))) kept (λ k. refl) quiet
      (moved_to (known_of entry) entry.hand.registers (base + 28) (base + 27) (with_local 30 x (waiting_frame base locals kept))
      (scratched (known_of entry) entry.hand.registers (base + 27) (base + 28) (waiting_frame base locals kept) 30 x (omega arith) (omega arith) (omega arith) stands))

  line_in : (f : Frame) (i : ℕ) → i < 8 → f.at ≡ base + 24 + i → stop pool (lines_of functions op) f ≡ steps.stop_at pool f (slice_get (cradle_block (base + 24) kind (new_number target entry)) i)
  line_in f i low at = line_is pool (lines_of functions op) (base + 24) (cradle_block (base + 24) kind (new_number target entry)) f i lines low at

  abbrev empty_handed : Frame
  empty_handed = record { at = base + 27; locals = set locals 30 0; kept = kept }

  -- there was no slot
  pub full : Leads pool functions (thread_of op [] (record { at = base + 27; locals = set locals 30 0; kept = kept })) (EndsWith pool functions entry answers.Full 0)
  full =
      lifted pool functions op [] (lines_of functions op) empty_handed
      (λ (g : Frame). (stop pool (lines_of functions op) g ≡ steps.Replies answers.Full 0) × (g.kept ≡ kept)) (EndsWith pool functions entry answers.Full 0) refl
      (walks (goes_to (base + 30) empty_handed) (line_in empty_handed 3 (omega arith) (omega arith) ∙ ap (λ (l : ℕ). steps.Goes (goes_to l empty_handed)) (let same : base + 24 + 6 ≡ base + 30 = omega arith in same))
      (here (line_in (goes_to (base + 30) empty_handed) 6 (omega arith) (omega arith), refl)))
      (λ g is. stays (ended answers.Full 0 g is.0 is.1))
    where
      ended : (answer : Answer) (x : ℕ) (g : Frame) → stop pool (lines_of functions op) g ≡ steps.Replies answer x → g.kept ≡ kept → EndsWith pool functions entry answer x (thread_of op [] g)
      ended answer x g is same = record {
        replies = ap (turn_of (thread_of op [] g)) is;
        cradles = λ k lt. ap (λ (m : Kept). m.cradles k) same ∙ stands.carried.cradles k lt;
        quiet = λ j some. ap (λ (m : Kept). m.noted j) same ∙ quiet j some;
        cleared = cleared;
      }

  -- the phases were over
  pub over : Leads pool functions (thread_of op [] (record { at = base + 27; locals = set locals 30 18446744073709551615; kept = kept })) (EndsWith pool functions entry answers.Phases pool.last)
  over =
      lifted pool functions op [] (lines_of functions op) (record { at = base + 27; locals = set locals 30 18446744073709551615; kept = kept })
      (λ (g : Frame). (stop pool (lines_of functions op) g ≡ steps.Replies answers.Phases pool.last) × (g.kept ≡ kept)) (EndsWith pool functions entry answers.Phases pool.last) refl
      (walks (onward (record { at = base + 27; locals = set locals 30 18446744073709551615; kept = kept })) (line_in (record { at = base + 27; locals = set locals 30 18446744073709551615; kept = kept }) 3 (omega arith) (omega arith))
      (walks (onward (onward (record { at = base + 27; locals = set locals 30 18446744073709551615; kept = kept }))) (line_in (onward (record { at = base + 27; locals = set locals 30 18446744073709551615; kept = kept })) 4 (omega arith) (omega arith))
      (here (line_in (onward (onward (record { at = base + 27; locals = set locals 30 18446744073709551615; kept = kept }))) 5 (omega arith) (omega arith), refl))))
      (λ g is. stays (record {
        replies = ap (turn_of (thread_of op [] g)) is.0;
        cradles = λ k lt. ap (λ (m : Kept). m.cradles k) is.1 ∙ stands.carried.cradles k lt;
        quiet = λ j some. ap (λ (m : Kept). m.noted j) is.1 ∙ quiet j some;
        cleared = cleared;
      }))

  -- the slot is kept in the cradle
  pub claimed : (j : ℕ) → 1 ≤ j → j < 18446744073709551615
      → Leads pool functions (thread_of op [] (record { at = base + 27; locals = set locals 30 j; kept = kept }))
      (λ (t : Thread). Runs op t × StandsZeroing (slot_claimed target j entry) (new_number target entry) 0 base t.frame)
  claimed j some low =
      lifted pool functions op [] (lines_of functions op) (record { at = base + 27; locals = set locals 30 j; kept = kept })
      (StandsZeroing (slot_claimed target j entry) (new_number target entry) 0 base)
      (λ (t : Thread). Runs op t × StandsZeroing (slot_claimed target j entry) (new_number target entry) 0 base t.frame) refl
      (goes_if {pool = pool} {code = lines_of functions op} {f = record { at = base + 27; locals = set locals 30 j; kept = kept }} (j == 0) false (base + 24 + 6)
      (line_in (record { at = base + 27; locals = set locals 30 j; kept = kept }) 3 (omega arith) (omega arith)) (let node : (j == 0) ≡ false = grind (arith, nat_tests) in node)
      (goes_if {pool = pool} {code = lines_of functions op} {f = onward (record { at = base + 27; locals = set locals 30 j; kept = kept })} (not (j == 18446744073709551615)) true (base + 24 + 7)
      (line_in (onward (record { at = base + 27; locals = set locals 30 j; kept = kept })) 4 (omega arith) (omega arith)) (ap not (let other : (j == 18446744073709551615) ≡ false = grind (arith, nat_tests) in other))
      (walks (onward (with_kept (keep (new_number target entry) j kept) (goes_to (base + 24 + 7) (onward (record { at = base + 27; locals = set locals 30 j; kept = kept })))))
      (line_in (goes_to (base + 24 + 7) (onward (record { at = base + 27; locals = set locals 30 j; kept = kept }))) 7 (omega arith) refl
      ∙ is_defined (has_cradle (new_number target entry)) (steps.Goes (onward (with_kept (keep (new_number target entry) j kept) (goes_to (base + 24 + 7) (onward (record { at = base + 27; locals = set locals 30 j; kept = kept }))))))
      (let there : nat_lt (new_number target entry) 16 ≡ true = grind (arith, nat_tests) in there))
      (here kept_now))))
      (λ g is. stays (record { function = refl; alone = refl }, is))
    where
      kept_now : StandsZeroing (slot_claimed target j entry) (new_number target entry) 0 base (onward (with_kept (keep (new_number target entry) j kept) (goes_to (base + 24 + 7) (onward (record { at = base + 27; locals = set locals 30 j; kept = kept })))))
      kept_now = record {
        stands = record {
          at = omega arith;
          held = record { numbers = (standing j).held.numbers; references = (standing j).held.references };
          seen = (standing j).seen;
          carried = record {
            args = (standing j).carried.args;
            slots = (standing j).carried.slots;
            started = (standing j).carried.started;
            cradles = λ k lt. ⊎_elim
                (λ (same : k ≡ new_number target entry). set_here kept.cradles (new_number target entry) j k same ∙ sym (ap (slice_index (slice_set entry.cradles (new_number target entry) j)) same ∙ index_here entry.cradles (new_number target entry) j (omega (arith, small, count))))
                (λ (ne : k ≢ new_number target entry). set_apart kept.cradles (new_number target entry) j k ne ∙ (stands.carried.cradles k lt ∙ sym (index_apart entry.cradles (new_number target entry) j k ne)))
                (cases_eq k (new_number target entry));
            quiet = quiet;
          };
        };
        slot = sym (index_here entry.cradles (new_number target entry) j (omega (arith, small, count)));
        cleared = cleared;
      }
