-- Where methods start, and where they end.
use Rattle.std.proofs.Common.{◌≡◌, ◌≢◌, ◌⊎◌, ℕ, zero, suc, ◌+◌, ◌≤◌, ◌<◌, Bool, true, false, ◌&&◌, not, List, [], ◌∷◌, ◌++◌, length, replicate, Some, None, ◌==◌, if◌then◌else◌, ◌-◌, refl, sym, ◌∙◌, ap, subst, arith, inl, inr}
use Rattle.std.specs.Prelude.{slice_get, slice_index, unwrap_or, nat_lt}
use Rattle.std.proofs.lemmas.Bool.Decides.{nat_tests}
use Rattle.norm_lang.specs.declared.text.Reg.TheVariants.{Num, Ref}
use Rattle.norm_lang.specs.declared.registers.Reference.{Reference}
use Rattle.norm_lang.specs.declared.registers.Registers.{Registers}
use Rattle.norm_lang.specs.Registers.{no_reference, first_registers, with_count, number_in, reference_in}
use Rattle.target_code.specs.declared.target.Target.{Target}
use Rattle.oa_words.specs.Words.{Sizes, Warning}
use Rattle.phase_pools.specs.Accesses.{Loads}
use Rattle.guard_words.specs.Guards.{IsRow, guard_at, is_spared}
use Rattle.guard_words.proofs.Rows.{guards_follow}
use Rattle.norm_lang.specs.declared.reply.SourceReply.{SourceReply}
use Rattle.caller_parts.specs.declared.call.Call.{Call}
use Rattle.caller_parts.specs.declared.setting.Reclamation.TheVariants.{Optimistic}
use Rattle.caller_parts.specs.declared.routine.AfterClear.TheVariants as clears
use Rattle.caller_parts.specs.declared.routine.MethodStart.{MethodStart}
use Rattle.caller_parts.specs.declared.routine.MethodStart.TheVariants as starts
use Rattle.caller_parts.specs.declared.routine.Routine.TheVariants.{LoadSeen}
use Rattle.caller_parts.specs.Settings.{Setting}
use Rattle.caller_parts.specs.Spared.{none_spared, restart_spares, kept_by}
use Rattle.caller_parts.specs.Operands.{packed}
use Rattle.caller_steps.specs.Entries.{Entry, op_of}
use Rattle.caller_steps.specs.After.{after, counted, with_hand, with_restart, is_wrap_up, method_begun, list_ended, wrap_up_hand, taken}
use Rattle.caller_steps.specs.Clearing.{clear_next}
use Rattle.c_language.specs.declared.lines.Operand.TheVariants.{Number, Local}
use Rattle.c_language.specs.declared.lines.Value.TheVariants as values
use Rattle.c_language.specs.declared.lines.Answer.TheVariants as answers
use Rattle.c_language.specs.declared.lines.Line.{Line}
use Rattle.c_language.specs.declared.lines.Line.TheVariants as lines
use Rattle.c_language.specs.Steps.{Pool, Kept, Frame, Replies, stop, set, with_local, goes_to}
use Rattle.c_language.specs.Threads.{first_locals, frame_begun}
use Rattle.c_runtime.specs.ClaimFrames.{Quiet}
use Rattle.c_language.specs.Runs.{Comes}
use Rattle.c_language.proofs.Walking.{here, walks, leads}
use Rattle.c_runtime.specs.KindLines.{HasLines}
use Rattle.c_emission.specs.Blocks.{clear_lines, clear_size, copy_lines, zero_lines}
use Rattle.c_emission.specs.Ends.{return_block, none_block, again_block}
use Rattle.c_emission.specs.Operations.{seen_lines, first_lines, warned_lines, wrap_up_lines}
use Rattle.emission_laws.specs.Hands.{Holds, HoldsStarted, AreWords, Known, Carries, Stands, StandsFor, known_of}
use Rattle.emission_laws.specs.Making.{RunsFor, SettlesFrom, SettlesAt, MakesAccess}
use Rattle.emission_laws.specs.Accesses.{WasWarned}
use Rattle.emission_laws.specs.Clears.{ClearsFrom, RestartsFrom}
use Rattle.emission_laws.specs.Starts.{StartsAreMade, RestartsAreMade, EndsAreMade}
use Rattle.emission_laws.proofs.Tables.{set_here, set_apart}
use Rattle.emission_laws.proofs.Frames.{carries_like, moved_to, loaded}
use Rattle.emission_laws.proofs.Sides.{wants_by, after_by, started_words, line_is}
use Rattle.emission_laws.proofs.LocalCode.{comes_on}
use Rattle.emission_laws.proofs.Sizes.{clear_length}
use Rattle.emission_laws.proofs.Layouts.{lines_within, lines_past}
use Rattle.emission_laws.proofs.Clears.{entry_begins}

-- ---- tables of locals

-- so many locals from one on are others, and the rest are as they were
record Copied (to n line : ℕ) (x : ℕ → ℕ) (f g : Frame) : Type 0 where
  at : g.at ≡ line + n
  made : (i : ℕ) → i < n → g.locals (to + i) ≡ x i
  others : (y : ℕ) → (y < to) ⊎ (to + n ≤ y) → g.locals y ≡ f.locals y
  kept : g.kept ≡ f.kept

copies : (pool : Pool) (code : List Line) (to from n base : ℕ) (f : Frame) → HasLines code base (copy_lines to from n) → f.at ≡ base → ((i j : ℕ) → i < n → j < n → from + i ≢ to + j)
    → Comes pool code f (Copied to n base (λ i. f.locals (from + i)) f)
copies pool code to from zero base f has at apart = here (record { at = at ∙ omega arith; made = λ i lt. absurd (omega (arith, lt)); others = λ y out. refl; kept = refl })
copies pool code to from (suc n) base f has at apart =
    walks (with_local to (f.locals from) f) (line_is pool code base (copy_lines to from (suc n)) f 0 has (omega arith) (omega (arith, at)))
    (leads (copies pool code (to + 1) (from + 1) n (base + 1) (with_local to (f.locals from) f)
    (lines_past code base (base + 1) (lines.Let to (values.Is (Local from)) ∷ []) (copy_lines (to + 1) (from + 1) n) refl has) (omega (arith, at))
    (λ i j low also e. apart (suc i) (suc j) (omega (arith, low)) (omega (arith, also)) (omega (arith, e)))) joined)
  where
    joined : (g : Frame) → Copied (to + 1) n (base + 1) (λ i. set f.locals to (f.locals from) (from + 1 + i)) (with_local to (f.locals from) f) g → Copied to (suc n) base (λ i. f.locals (from + i)) f g
    joined g came = record { at = (let there = came.at in omega (arith, there)); made = made; others = others; kept = came.kept } where
      others : (y : ℕ) → (y < to) ⊎ (to + suc n ≤ y) → g.locals y ≡ f.locals y
      others y (inl low) = came.others y (inl (omega (arith, low))) ∙ set_apart f.locals to (f.locals from) y (λ e. omega (arith, e, low))
      others y (inr high) = came.others y (inr (omega (arith, high))) ∙ set_apart f.locals to (f.locals from) y (λ e. omega (arith, e, high))

      made : (i : ℕ) → i < suc n → g.locals (to + i) ≡ f.locals (from + i)
      made zero lt =
          ap g.locals (let same : to + 0 ≡ to = omega arith in same)
          ∙ (came.others to (inl (omega arith)) ∙ (set_here f.locals to (f.locals from) to refl ∙ ap f.locals (let same : from ≡ from + 0 = omega arith in same)))
      made (suc i) lt =
          ap g.locals (let same : to + suc i ≡ to + 1 + i = omega arith in same)
          ∙ (came.made i (omega (arith, lt))
          ∙ (set_apart f.locals to (f.locals from) (from + 1 + i) (λ e. apart (suc i) 0 lt (omega arith) (omega (arith, e)))
          ∙ ap f.locals (let same : from + 1 + i ≡ from + suc i = omega arith in same)))

zeroes : (pool : Pool) (code : List Line) (to n base : ℕ) (f : Frame) → HasLines code base (zero_lines to n) → f.at ≡ base → Comes pool code f (Copied to n base (λ i. 0) f)
zeroes pool code to zero base f has at = here (record { at = at ∙ omega arith; made = λ i lt. absurd (omega (arith, lt)); others = λ y out. refl; kept = refl })
zeroes pool code to (suc n) base f has at =
    walks (with_local to 0 f) (line_is pool code base (zero_lines to (suc n)) f 0 has (omega arith) (omega (arith, at)))
    (leads (zeroes pool code (to + 1) n (base + 1) (with_local to 0 f)
    (lines_past code base (base + 1) (lines.Let to (values.Is (Number 0)) ∷ []) (zero_lines (to + 1) n) refl has) (omega (arith, at))) joined)
  where
    joined : (g : Frame) → Copied (to + 1) n (base + 1) (λ i. 0) (with_local to 0 f) g → Copied to (suc n) base (λ i. 0) f g
    joined g came = record { at = (let there = came.at in omega (arith, there)); made = made; others = others; kept = came.kept } where
      others : (y : ℕ) → (y < to) ⊎ (to + suc n ≤ y) → g.locals y ≡ f.locals y
      others y (inl low) = came.others y (inl (omega (arith, low))) ∙ set_apart f.locals to 0 y (λ e. omega (arith, e, low))
      others y (inr high) = came.others y (inr (omega (arith, high))) ∙ set_apart f.locals to 0 y (λ e. omega (arith, e, high))

      made : (i : ℕ) → i < suc n → g.locals (to + i) ≡ 0
      made zero lt = ap g.locals (let same : to + 0 ≡ to = omega arith in same) ∙ (came.others to (inl (omega arith)) ∙ set_here f.locals to 0 to refl)
      made (suc i) lt = ap g.locals (let same : to + suc i ≡ to + 1 + i = omega arith in same) ∙ came.made i (omega (arith, lt))

-- ---- the registers with which a method begins

-- registers are set, and the rest is as it was
record Begun (registers : Registers) (line : ℕ) (f g : Frame) : Type 0 where
  at : g.at ≡ line
  held : Holds registers g.locals
  others : (x : ℕ) → 16 ≤ x → g.locals x ≡ f.locals x
  kept : g.kept ≡ f.kept

null_first : (n r : ℕ) → unwrap_or (slice_get (replicate n no_reference) r) no_reference ≡ no_reference
null_first zero r = refl
null_first (suc n) zero = refl
null_first (suc n) (suc r) = null_first n r

first_held : (args : List ℕ) (l : ℕ → ℕ) → ((k : ℕ) → k < 4 → l k ≡ slice_index args k) → ((i : ℕ) → i < 12 → l (4 + i) ≡ 0) → Holds (first_registers args) l
first_held args l given others = record { numbers = numbers; references = references } where
  numbers : (r : ℕ) → r < 8 → l r ≡ number_in (first_registers args) (Num r)
  numbers zero lt = given 0 (omega arith)
  numbers (suc zero) lt = given 1 (omega arith)
  numbers (suc (suc zero)) lt = given 2 (omega arith)
  numbers (suc (suc (suc zero))) lt = given 3 (omega arith)
  numbers (suc (suc (suc (suc zero)))) lt = others 0 (omega arith)
  numbers (suc (suc (suc (suc (suc zero))))) lt = others 1 (omega arith)
  numbers (suc (suc (suc (suc (suc (suc zero)))))) lt = others 2 (omega arith)
  numbers (suc (suc (suc (suc (suc (suc (suc zero))))))) lt = others 3 (omega arith)
  numbers (suc (suc (suc (suc (suc (suc (suc (suc r)))))))) lt = absurd (omega (arith, lt))

  references : (r : ℕ) → r < 8 → l (8 + r) ≡ packed (reference_in (first_registers args) (Ref r))
  references r lt = ap l (let same : 8 + r ≡ 4 + (4 + r) = omega arith in same) ∙ (others (4 + r) (omega (arith, lt)) ∙ sym (ap packed (null_first 8 r)))

first_words : (args : List ℕ) → AreWords (first_registers args)
first_words args = record { numbers = refl; references = refl; small = λ r. (let none = ap (λ (x : Reference). x.node) (null_first 8 r) in omega (arith, none)) }

-- those of a generator
first_come : (pool : Pool) (code : List Line) (args : List ℕ) (base : ℕ) (f : Frame) → HasLines code base first_lines → f.at ≡ base → ((k : ℕ) → k < 4 → f.locals (16 + k) ≡ slice_index args k)
    → Comes pool code f (Begun (first_registers args) (base + 16) f)
first_come pool code args base f has at given =
    comes_on pool code f (copies pool code 0 16 4 base f (lines_within code base (copy_lines 0 16 4) (zero_lines 4 12) has) at (λ i j low also e. omega (arith, low, also, e)))
    (λ g came. leads (zeroes pool code 4 12 (base + 4) g (lines_past code base (base + 4) (copy_lines 0 16 4) (zero_lines 4 12) refl has) came.at) (λ h last. record {
      at = (let there = last.at in omega (arith, there));
      held = first_held args h.locals (λ k lt. last.others k (inl lt) ∙ (ap g.locals (let same : k ≡ 0 + k = omega arith in same) ∙ (came.made k lt ∙ given k lt))) (λ i lt. last.made i lt);
      others = λ x high. last.others x (inr (omega (arith, high))) ∙ came.others x (inr (omega (arith, high)));
      kept = last.kept ∙ came.kept;
    }))

-- and those that were kept at a wrap-up's start
started_come : (pool : Pool) (code : List Line) (registers : Registers) (base : ℕ) (f : Frame) → HasLines code base (copy_lines 0 33 16) → f.at ≡ base → HoldsStarted registers f.locals
    → Comes pool code f (Begun registers (base + 16) f)
started_come pool code registers base f has at kept =
    leads (copies pool code 0 33 16 base f has at (λ i j low also e. omega (arith, low, also, e))) (λ g came. record {
      at = came.at;
      held = record {
        numbers = λ r lt. ap g.locals (let same : r ≡ 0 + r = omega arith in same) ∙ (came.made r (omega (arith, lt)) ∙ kept.numbers r lt);
        references = λ r lt. ap g.locals (let same : 8 + r ≡ 0 + (8 + r) = omega arith in same) ∙ (came.made (8 + r) (omega (arith, lt)) ∙ (ap f.locals (let same : 33 + (8 + r) ≡ 41 + r = omega arith in same) ∙ kept.references r lt));
      };
      others = λ x high. came.others x (inr (omega (arith, high)));
      kept = came.kept;
    })

-- so the frame stands for what it has carried, with those registers
begun_stands : (known : Known) (registers : Registers) (line : ℕ) (f g : Frame) → Carries known f → f.locals 20 ≡ known.seen → Begun registers line f g → Stands known registers line g
begun_stands known registers line f g carried seen begun = record {
  at = begun.at;
  held = begun.held;
  seen = begun.others 20 (omega arith) ∙ seen;
  carried = carries_like known f g (λ x high apart lives. begun.others x high) begun.kept carried;
}

no_wrap_up : {X : Type 0} → false ≡ true → X
no_wrap_up e = absurd (let no : ⊥ = cc in no)

-- ---- starts

generator_starts : (pool : Pool) (code : List Line) (target : Target) (setting : Setting) (e : Entry) (why : MethodStart) (base : ℕ) (f : Frame)
    → RunsFor pool target setting e → e.routine ≡ LoadSeen why → is_wrap_up why ≡ false → HasLines code base (seen_lines ++ first_lines) → f.at ≡ base → Carries (known_of e) f
    → MakesAccess pool code target setting e (λ word. SettlesAt target setting e word false 0 (base + 17)) f
generator_starts pool code target setting e why base f runs at isnt has line carried = record {
  access = Loads (Warning pool.own);
  next = λ word. with_local 20 word f;
  stops = line_is pool code base (seen_lines ++ first_lines) f 0 has (omega arith) (omega (arith, line));
  wanted = wants_by target e (LoadSeen why) at ∙ ap (λ (c : ℕ). Some (Loads (Warning c))) (sym runs.own);
  after = λ word told. leads
      (first_come pool code e.running.call.args (base + 1) (with_local 20 word f) (lines_past code base (base + 1) seen_lines first_lines refl has) (omega (arith, line))
      (λ k lt. set_apart f.locals 20 word (16 + k) (λ z. omega (arith, z, lt)) ∙ carried.args k lt))
      (λ g begun. record {
        entry = with_hand (counted e) (record e.hand { seen = word; wrapup = false; accessed = false });
        spot = record { at = 0; registers = first_registers e.running.call.args };
        is = after_by target setting e word (LoadSeen why) runs.by at
            ∙ ap (λ (b : Bool). (method_begun target setting.sizes b (with_hand (counted e) (record e.hand { seen = word }))).entry) isnt;
        op = refl;
        method = refl;
        at = refl;
        words = first_words e.running.call.args;
        stands = begun_stands (record (known_of e) { seen = word; wrapup = false }) (first_registers e.running.call.args) (base + 17) (with_local 20 word f) g (seen_carried word) refl
            (record { at = (let there = begun.at in omega (arith, there)); held = begun.held; others = begun.others; kept = begun.kept });
      });
} where
  seen_carried : (word : ℕ) → Carries (record (known_of e) { seen = word; wrapup = false }) (with_local 20 word f)
  seen_carried word = record {
    args = λ k lt. set_apart f.locals 20 word (16 + k) (λ z. omega (arith, z, lt)) ∙ carried.args k lt;
    slots = λ r lt. set_apart f.locals 20 word (21 + r) (λ z. omega (arith, z)) ∙ carried.slots r lt;
    started = λ runs. no_wrap_up runs;
    cradles = carried.cradles;
    quiet = carried.quiet;
  }

wrap_up_starts : (pool : Pool) (code : List Line) (target : Target) (setting : Setting) (e : Entry) (base : ℕ) (f : Frame)
    → RunsFor pool target setting e → e.routine ≡ LoadSeen starts.WrapUp → e.hand.wrapup ≡ true → HasLines code base (seen_lines ++ copy_lines 0 33 16) → StandsFor e e.hand.registers base f
    → MakesAccess pool code target setting e (λ word. SettlesAt target setting e word true 0 (base + 17)) f
wrap_up_starts pool code target setting e base f runs at late has stands = record {
  access = Loads (Warning pool.own);
  next = λ word. with_local 20 word f;
  stops = line_is pool code base (seen_lines ++ copy_lines 0 33 16) f 0 has (omega arith) (let line = stands.at in omega (arith, line));
  wanted = wants_by target e (LoadSeen starts.WrapUp) at ∙ ap (λ (c : ℕ). Some (Loads (Warning c))) (sym runs.own);
  after = λ word told. leads
      (started_come pool code e.hand.started (base + 1) (with_local 20 word f) (lines_past code base (base + 1) seen_lines (copy_lines 0 33 16) refl has) (let line = stands.at in omega (arith, line)) (kept word))
      (λ g begun. record {
        entry = with_hand (counted e) (record e.hand { seen = word; wrapup = true; accessed = false });
        spot = record { at = 0; registers = e.hand.started };
        is = after_by target setting e word (LoadSeen starts.WrapUp) runs.by at;
        op = refl;
        method = refl;
        at = refl;
        words = started_words pool target setting e runs;
        stands = begun_stands (record (known_of e) { seen = word; wrapup = true }) e.hand.started (base + 17) (with_local 20 word f) g (seen_carried word) refl
            (record { at = (let there = begun.at in omega (arith, there)); held = begun.held; others = begun.others; kept = begun.kept });
      });
} where
  kept : (word : ℕ) → HoldsStarted e.hand.started (set f.locals 20 word)
  kept word = record {
    numbers = λ r lt. set_apart f.locals 20 word (33 + r) (λ z. omega (arith, z)) ∙ (stands.carried.started late).numbers r lt;
    references = λ r lt. set_apart f.locals 20 word (41 + r) (λ z. omega (arith, z)) ∙ (stands.carried.started late).references r lt;
  }

  seen_carried : (word : ℕ) → Carries (record (known_of e) { seen = word; wrapup = true }) (with_local 20 word f)
  seen_carried word = record {
    args = λ k lt. set_apart f.locals 20 word (16 + k) (λ z. omega (arith, z, lt)) ∙ stands.carried.args k lt;
    slots = λ r lt. set_apart f.locals 20 word (21 + r) (λ z. omega (arith, z)) ∙ stands.carried.slots r lt;
    started = λ runs. kept word;
    cradles = stands.carried.cradles;
    quiet = stands.carried.quiet;
  }

-- an argument, by its local
argument : (args : List ℕ) (d k : ℕ) → 16 + k ≡ d → first_locals args d ≡ slice_index args k
argument args d k is =
    ap (λ (b : Bool). if b then 0 else slice_index args (d - 16)) (let past : nat_lt d 16 ≡ false = grind (arith, nat_tests) in past) ∙ ap (slice_index args) (omega (arith, is))

none_past : (args : List ℕ) (k : ℕ) → length args ≤ k → slice_index args k ≡ 0
none_past [] k few = refl
none_past (x ∷ args) zero few = absurd (omega (arith, few))
none_past (x ∷ args) (suc k) few = none_past args k (omega (arith, few))

call_begins : (e : Entry) (call : Call) (kept : Kept) → length call.args ≤ 4 → ((r : ℕ) → guard_at e.hand.guards r ≡ 0) → ((k : ℕ) → k < 16 → kept.cradles k ≡ slice_index e.cradles k) → Quiet kept
    → Carries (known_of (taken Optimistic call e)) (frame_begun call.args kept)
call_begins e call kept few free cradles quiet = record {
  args = λ k lt. argument call.args (16 + k) k refl;
  slots = λ r lt. argument call.args (21 + r) (5 + r) (omega arith) ∙ (none_past call.args (5 + r) (omega (arith, few)) ∙ sym (free r));
  started = λ runs. no_wrap_up runs;
  cradles = cradles;
  quiet = quiet;
}

pub starts_are_made : StartsAreMade
starts_are_made = record { calls = call_begins; generators = generator_starts; wrap_ups = wrap_up_starts }

-- ---- restarts

warned_clears : (pool : Pool) (code : List Line) (target : Target) (setting : Setting) (e : Entry) (word base again : ℕ) (f : Frame)
    → RunsFor pool target setting e → HasLines code base (warned_lines base (restart_spares e.hand.wrapup (op_of target e)) again) → WasWarned target setting e word base f
    → Comes pool code f (RestartsFrom target setting.sizes (after target setting e word) e code (base + 1 + clear_size (restart_spares e.hand.wrapup (op_of target e)) 0 8))
warned_clears pool code target setting e word base again f runs has warned =
    walks (with_local 20 (f.locals 29) f)
    (line_is pool code base (warned_lines base (restart_spares e.hand.wrapup (op_of target e)) again) f 0 has (omega arith) (let at = warned.stands.at in omega (arith, at)))
    (leads (entry_begins pool code (restart_spares e.hand.wrapup (op_of target e)) (base + 1) (with_hand (with_restart (counted e)) (record e.hand { seen = word; accessed = false })) (with_local 20 (f.locals 29) f) runs.belongs.hand.guards.row
    (lines_within code (base + 1) (clear_lines (restart_spares e.hand.wrapup (op_of target e)) (base + 1) 0 8) (lines.Goto again ∷ [])
    (lines_past code base (base + 1) (lines.Let 20 (values.Is (Local 29)) ∷ []) (clear_lines (restart_spares e.hand.wrapup (op_of target e)) (base + 1) 0 8 ++ lines.Goto again ∷ []) refl has)) stands)
    (λ g clearing. record {
      entry = with_hand (with_restart (counted e)) (record e.hand { seen = word; accessed = false });
      is = warned.fails;
      op = refl;
      method = refl;
      stands = clearing;
    }))
  where
    stands : Stands (record (known_of e) { seen = word }) e.hand.registers (base + 1) (with_local 20 (f.locals 29) f)
    stands = record {
      at = (let at = warned.stands.at in omega (arith, at));
      held = record {
        numbers = λ r lt. set_apart f.locals 20 (f.locals 29) r (λ z. omega (arith, z, lt)) ∙ warned.stands.held.numbers r lt;
        references = λ r lt. set_apart f.locals 20 (f.locals 29) (8 + r) (λ z. omega (arith, z, lt)) ∙ warned.stands.held.references r lt;
      };
      seen = warned.found;
      carried = record {
        args = λ k lt. set_apart f.locals 20 (f.locals 29) (16 + k) (λ z. omega (arith, z, lt)) ∙ warned.stands.carried.args k lt;
        slots = λ r lt. set_apart f.locals 20 (f.locals 29) (21 + r) (λ z. omega (arith, z)) ∙ warned.stands.carried.slots r lt;
        started = λ late. record {
          numbers = λ r lt. set_apart f.locals 20 (f.locals 29) (33 + r) (λ z. omega (arith, z)) ∙ (warned.stands.carried.started late).numbers r lt;
          references = λ r lt. set_apart f.locals 20 (f.locals 29) (41 + r) (λ z. omega (arith, z)) ∙ (warned.stands.carried.started late).references r lt;
        };
        cradles = warned.stands.carried.cradles;
        quiet = warned.stands.carried.quiet;
      };
    }

generator_again : (pool : Pool) (code : List Line) (target : Target) (sizes : Sizes) (e : Entry) (end again : ℕ) (f : Frame) → e.hand.wrapup ≡ false
    → HasLines code end (lines.Goto again ∷ []) → HasLines code again first_lines → StandsFor e e.hand.registers end f
    → Comes pool code f (SettlesFrom target sizes (method_begun target sizes false e).entry e false 0 (again + 16))
generator_again pool code target sizes e end again f early has first stands =
    walks (goes_to again f) (line_is pool code end (lines.Goto again ∷ []) f 0 has (omega arith) (let at = stands.at in omega (arith, at)))
    (leads (first_come pool code e.running.call.args again (goes_to again f) first refl stands.carried.args) (λ g begun. record {
      entry = with_hand e (record e.hand { wrapup = false; accessed = false });
      spot = record { at = 0; registers = first_registers e.running.call.args };
      is = refl;
      op = refl;
      method = refl;
      at = refl;
      words = first_words e.running.call.args;
      stands = begun_stands (record (known_of e) { wrapup = false }) (first_registers e.running.call.args) (again + 16) (goes_to again f) g
          (record { args = stands.carried.args; slots = stands.carried.slots; started = λ runs. no_wrap_up runs; cradles = stands.carried.cradles; quiet = stands.carried.quiet }) stands.seen begun;
    }))

wrap_up_again : (pool : Pool) (code : List Line) (target : Target) (sizes : Sizes) (e : Entry) (end again : ℕ) (f : Frame) → e.hand.wrapup ≡ true
    → HasLines code end (lines.Goto again ∷ []) → HasLines code again (copy_lines 0 33 16) → StandsFor e e.hand.registers end f → AreWords e.hand.started
    → Comes pool code f (SettlesFrom target sizes (method_begun target sizes true e).entry e true 0 (again + 16))
wrap_up_again pool code target sizes e end again f late has first stands words =
    walks (goes_to again f) (line_is pool code end (lines.Goto again ∷ []) f 0 has (omega arith) (let at = stands.at in omega (arith, at)))
    (leads (started_come pool code e.hand.started again (goes_to again f) first refl (stands.carried.started late)) (λ g begun. record {
      entry = with_hand e (record e.hand { wrapup = true; accessed = false });
      spot = record { at = 0; registers = e.hand.started };
      is = refl;
      op = refl;
      method = refl;
      at = refl;
      words = words;
      stands = begun_stands (record (known_of e) { wrapup = true }) e.hand.started (again + 16) (goes_to again f) g
          (record { args = stands.carried.args; slots = stands.carried.slots; started = λ runs. stands.carried.started late; cradles = stands.carried.cradles; quiet = stands.carried.quiet }) stands.seen begun;
    }))

pub restarts_are_made : RestartsAreMade
restarts_are_made = record { warned = warned_clears; generators = generator_again; wrap_ups = wrap_up_again }

-- ---- ends

list_clears : (pool : Pool) (code : List Line) (target : Target) (sizes : Sizes) (e : Entry) (made base : ℕ) (f : Frame) → IsRow e.hand.guards → AreWords e.hand.registers
    → HasLines code base (wrap_up_lines base (kept_by (op_of target e))) → StandsFor e e.hand.registers base f → f.locals 32 ≡ made
    → Comes pool code f (ClearsFrom target sizes (list_ended target sizes made e) e clears.WrapUp code (base + 17 + clear_size (kept_by (op_of target e)) 0 8))
list_clears pool code target sizes e made base f row words has stands count =
    walks (with_local 7 (f.locals 32) f) (line_is pool code base (wrap_up_lines base (kept_by (op_of target e))) f 0 has (omega arith) (let at = stands.at in omega (arith, at)))
    (comes_on pool code (with_local 7 (f.locals 32) f)
    (copies pool code 33 0 16 (base + 1) (with_local 7 (f.locals 32) f) (lines_within code (base + 1) (copy_lines 33 0 16) later there) (let at = stands.at in omega (arith, at)) (λ i j low also e. omega (arith, low, also, e)))
    (λ g came. leads
    (entry_begins pool code (kept_by (op_of target e)) (base + 17) (with_hand e (wrap_up_hand made e.hand)) g row
    (lines_within code (base + 17) (clear_lines (kept_by (op_of target e)) (base + 17) 0 8) (seen_lines ++ copy_lines 0 33 16) (lines_past code (base + 1) (base + 17) (copy_lines 33 0 16) later (omega arith) there))
    (copied g came))
    (λ h clearing. record { entry = with_hand e (wrap_up_hand made e.hand); is = refl; op = refl; stands = clearing })))
  where
    later : List Line
    later = clear_lines (kept_by (op_of target e)) (base + 17) 0 8 ++ (seen_lines ++ copy_lines 0 33 16)

    there : HasLines code (base + 1) (copy_lines 33 0 16 ++ later)
    there = lines_past code base (base + 1) (lines.Let 7 (values.Is (Local 32)) ∷ []) (copy_lines 33 0 16 ++ later) refl has

    counted_in : Stands (known_of e) (with_count e.hand.registers made) (base + 1) (with_local 7 (f.locals 32) f)
    counted_in = subst (λ (n : ℕ). Stands (known_of e) (with_count e.hand.registers n) (base + 1) (with_local 7 (f.locals 32) f)) count
        (loaded (known_of e) e.hand.registers base (base + 1) f (Num 7) (f.locals 32) words (omega arith) refl stands)

    copied : (g : Frame) → Copied 33 16 (base + 1) (λ i. set f.locals 7 (f.locals 32) (0 + i)) (with_local 7 (f.locals 32) f) g
        → Stands (record (known_of e) { wrapup = true; started = with_count e.hand.registers made }) (with_count e.hand.registers made) (base + 17) g
    copied g came = record {
      at = (let at = came.at in omega (arith, at));
      held = record {
        numbers = λ r lt. came.others r (inl (omega (arith, lt))) ∙ counted_in.held.numbers r lt;
        references = λ r lt. came.others (8 + r) (inl (omega (arith, lt))) ∙ counted_in.held.references r lt;
      };
      seen = came.others 20 (inl (omega arith)) ∙ counted_in.seen;
      carried = record {
        args = λ k lt. came.others (16 + k) (inl (omega (arith, lt))) ∙ counted_in.carried.args k lt;
        slots = λ r lt. came.others (21 + r) (inl (omega (arith, lt))) ∙ counted_in.carried.slots r lt;
        started = λ late. record {
          numbers = λ r lt. came.made r (omega (arith, lt)) ∙ (ap (set f.locals 7 (f.locals 32)) (let same : 0 + r ≡ r = omega arith in same) ∙ counted_in.held.numbers r lt);
          references = λ r lt. ap g.locals (let same : 41 + r ≡ 33 + (8 + r) = omega arith in same) ∙ (came.made (8 + r) (omega (arith, lt)) ∙ (ap (set f.locals 7 (f.locals 32)) (let same : 0 + (8 + r) ≡ 8 + r = omega arith in same) ∙ counted_in.held.references r lt));
        };
        cradles = λ k lt. ap (λ (x : Kept). x.cradles k) came.kept ∙ counted_in.carried.cradles k lt;
        quiet = λ j some. ap (λ (x : Kept). x.noted j) came.kept ∙ counted_in.carried.quiet j some;
      };
    }

-- the last line of a block that clears all hazards first
last_stands : (code : List Line) (base : ℕ) (line : Line) → HasLines code base (clear_lines none_spared base 0 8 ++ line ∷ []) → HasLines code (base + 24) (line ∷ [])
last_stands code base line has = lines_past code base (base + 24) (clear_lines none_spared base 0 8) (line ∷ []) (ap (λ (n : ℕ). base + n) (clear_length none_spared base 0 8)) has

number_replied : (pool : Pool) (code : List Line) (e : Entry) (a base : ℕ) (f : Frame) → a < 8 → HasLines code base (return_block base (Num a))
    → StandsFor e e.hand.registers (base + 24) f → stop pool code f ≡ Replies answers.Number (number_in e.hand.registers (Num a))
number_replied pool code e a base f low has stands =
    line_is pool code (base + 24) (lines.Reply answers.Number (Local a) ∷ []) f 0 (last_stands code base (lines.Reply answers.Number (Local a)) has) (omega arith) (let at = stands.at in omega (arith, at))
    ∙ ap (Replies answers.Number) (stands.held.numbers a low)

none_replied : (pool : Pool) (code : List Line) (e : Entry) (base : ℕ) (f : Frame) → HasLines code base (none_block base)
    → StandsFor e e.hand.registers (base + 24) f → stop pool code f ≡ Replies answers.Nothing 0
none_replied pool code e base f has stands =
    line_is pool code (base + 24) (lines.Reply answers.Nothing (Number 0) ∷ []) f 0 (last_stands code base (lines.Reply answers.Nothing (Number 0)) has) (omega arith) (let at = stands.at in omega (arith, at))

begun_again : (pool : Pool) (code : List Line) (e : Entry) (base begin : ℕ) (f : Frame) → HasLines code base (again_block base begin)
    → StandsFor e e.hand.registers (base + 24) f → Comes pool code f (StandsFor e e.hand.registers begin)
begun_again pool code e base begin f has stands =
    walks (goes_to begin f) (line_is pool code (base + 24) (lines.Goto begin ∷ []) f 0 (last_stands code base (lines.Goto begin) has) (omega arith) (let at = stands.at in omega (arith, at)))
    (here (moved_to (known_of e) e.hand.registers (base + 24) begin f stands))

-- no register is spared
spares_none : (n r : ℕ) → unwrap_or (slice_get (replicate n false) r) false ≡ false
spares_none zero r = refl
spares_none (suc n) zero = refl
spares_none (suc n) (suc r) = spares_none n r

all_cleared : (target : Target) (e : Entry) (reply : SourceReply) → clear_next target (clears.Reply reply) e ≡ None → (r : ℕ) → guard_at e.hand.guards r ≡ 0
all_cleared target e reply none r =
    is_none (guard_at e.hand.guards r) (is_spared none_spared r) (spares_none 8 r) (guards_follow.next_none e.hand.guards none_spared none r)
  where
    is_none : (slot : ℕ) (b : Bool) → b ≡ false → (not (slot == 0) && not b) ≡ false → slot ≡ 0
    is_none zero b free done = refl
    is_none (suc slot) true free done = absurd (let no : ⊥ = cc in no)
    is_none (suc slot) false free done = absurd (let some : (not (suc slot == 0) && not false) ≡ true = grind (arith, nat_tests) in let no : ⊥ = cc in no)

pub ends_are_made : EndsAreMade
ends_are_made = record { lists = list_clears; numbers = number_replied; none = none_replied; unguarded = all_cleared; again = begun_again }
