-- A node was published: each cradle that held it is emptied.
use Rattle.std.proofs.Common.{◌≡◌, ◌≢◌, ◌⊎◌, ℕ, zero, suc, ◌+◌, ◌*◌, ◌/◌, ◌%◌, ◌≤◌, ◌<◌, Bool, true, false, not, List, [], ◌∷◌, length, map, ◌==◌, if◌then◌else◌, refl, sym, ◌∙◌, ap, subst, arith, ⊎_elim, inl, inr}
use Rattle.std.specs.Prelude.{nat_lt, slice_get, slice_index}
use Rattle.std.proofs.lemmas.Bool.{cases_eq}
use Rattle.std.proofs.lemmas.Bool.Decides.{nat_tests}
use Rattle.norm_lang.specs.declared.text.Reg.{Reg}
use Rattle.norm_lang.specs.declared.text.Reg.TheVariants.{Num, Ref}
use Rattle.target_code.specs.declared.target.Target.{Target}
use Rattle.oa_words.specs.SlotKinds.{kind_of, IsNullOrOf}
use Rattle.oa_words.proofs.KindRanges.{kind_small}
use Rattle.caller_parts.specs.Operands.{slot_in, emptied}
use Rattle.caller_parts.specs.Settings.{Setting, Fits}
use Rattle.caller_steps.specs.Entries.{Entry, cradle_of}
use Rattle.caller_steps.specs.After.{with_published}
use Rattle.c_language.specs.declared.lines.Line.{Line}
use Rattle.c_language.specs.Steps.{Pool, Frame, Stop, Goes, has_cradle, with_local, onward, goes_to, branch, with_kept, keep}
use Rattle.c_language.specs.Runs.{Comes}
use Rattle.c_language.proofs.Walking.{walks, goes_if}
use Rattle.c_runtime.specs.KindLines.{HasLines}
use Rattle.c_emission.specs.Blocks.{slot_line}
use Rattle.c_emission.specs.Exchanges.{emptied_lines, published_lines, published_size}
use Rattle.emission_laws.specs.Hands.{StandsFor, known_of}
use Rattle.emission_laws.specs.Making.{RunsFor, HasNumber}
use Rattle.emission_laws.proofs.Tables.{set_here, set_apart}
use Rattle.emission_laws.proofs.Frames.{scratched}
use Rattle.emission_laws.proofs.Sides.{line_is, slot_of}
use Rattle.exchange_laws.proofs.Steps.{is_defined, stands_by, back_lines}

-- so many cradles from one on were emptied of a slot, and nothing else has changed but a scratch local
pub record Emptied (slot k n line : ℕ) (f g : Frame) : Type 0 where
  pub at : g.at ≡ line
  pub locals : (x : ℕ) → x ≢ 31 → g.locals x ≡ f.locals x
  pub noted : (j : ℕ) → g.kept.noted j ≡ f.kept.noted j
  pub these : (i : ℕ) → k ≤ i → i < k + n → g.kept.cradles i ≡ emptied slot (f.kept.cradles i)
  pub others : (i : ℕ) → (i < k) ⊎ (k + n ≤ i) → g.kept.cradles i ≡ f.kept.cradles i

-- one cradle, and then the others
after_one : (slot k n line : ℕ) (f h g : Frame) → ((x : ℕ) → x ≢ 31 → h.locals x ≡ f.locals x) → ((j : ℕ) → h.kept.noted j ≡ f.kept.noted j)
    → h.kept.cradles k ≡ emptied slot (f.kept.cradles k) → ((i : ℕ) → i ≢ k → h.kept.cradles i ≡ f.kept.cradles i)
    → Emptied slot (k + 1) n line h g → Emptied slot k (suc n) line f g
after_one slot k n line f h g locals noted one rest more = record {
  at = more.at;
  locals = λ x ne. more.locals x ne ∙ locals x ne;
  noted = λ j. more.noted j ∙ noted j;
  these = λ i low high. ⊎_elim
      (λ (same : i ≡ k). more.others i (inl (omega (arith, same))) ∙ subst (λ (y : ℕ). h.kept.cradles y ≡ emptied slot (f.kept.cradles y)) (sym same) one)
      (λ (ne : i ≢ k). more.these i (omega (arith, low, ne)) (omega (arith, high)) ∙ ap (emptied slot) (rest i ne)) (cases_eq i k);
  others = λ i out. more.others i (⊎_elim (λ (low : i < k). inl (omega (arith, low))) (λ (high : k + suc n ≤ i). inr (omega (arith, high))) out)
      ∙ rest i (λ same. ⊎_elim (λ (low : i < k). omega (arith, low, same)) (λ (high : k + suc n ≤ i). omega (arith, high, same)) out);
}

pub emptying : (pool : Pool) (code : List Line) (slot k n base : ℕ) (There : Frame → Type 0) (f : Frame) → k + n ≤ 16 → HasLines code base (emptied_lines base k n) → f.at ≡ base → f.locals 30 ≡ slot
    → ((g : Frame) → Emptied slot k n (base + 3 * n) f g → Comes pool code g There) → Comes pool code f There
emptying pool code slot k zero base There f few has at slotted more = more f (record {
  at = at ∙ omega arith;
  locals = λ x ne. refl;
  noted = λ j. refl;
  these = λ i low high. absurd (omega (arith, low, high));
  others = λ i out. refl;
})
emptying pool code slot k (suc n) base There f few has at slotted more =
    walks got (line_is pool code base (emptied_lines base k (suc n)) f 0 has (omega arith) (at ∙ omega arith) ∙ is_defined (has_cradle k) (Goes (with_local 31 (f.kept.cradles k) f)) (let low : nat_lt k 16 ≡ true = grind (arith, nat_tests) in low))
    (of (f.kept.cradles k == slot) refl (λ h there other next. emptying pool code slot (k + 1) n (base + 3) There h (omega (arith, few)) rest_has there other next))
  where
    got : Frame
    got = with_local 31 (f.kept.cradles k) f

    tested : Frame → Stop
    tested g = Goes (branch (not (f.kept.cradles k == f.locals 30)) (base + 3) g)

    known : (b : Bool) → (f.kept.cradles k == slot) ≡ b → not (f.kept.cradles k == f.locals 30) ≡ not b
    known b t = ap (λ (x : ℕ). not (f.kept.cradles k == x)) slotted ∙ ap not t

    rest_has : HasLines code (base + 3) (emptied_lines (base + 3) (k + 1) n)
    rest_has i lt = ap (slice_get code) (omega arith) ∙ has (suc (suc (suc i))) (omega (arith, lt))

    emptied_is : (b : Bool) → (f.kept.cradles k == slot) ≡ b → emptied slot (f.kept.cradles k) ≡ (if b then 0 else f.kept.cradles k)
    emptied_is b t = ap (λ (x : Bool). if x then 0 else f.kept.cradles k) t

    of : (b : Bool) → (f.kept.cradles k == slot) ≡ b
        → ((h : Frame) → h.at ≡ base + 3 → h.locals 30 ≡ slot → ((g : Frame) → Emptied slot (k + 1) n (base + 3 + 3 * n) h g → Comes pool code g There) → Comes pool code h There)
        → Comes pool code (with_local 31 (f.kept.cradles k) f) There
    of true t rest =
        goes_if {pool = pool} {code = code} {f = with_local 31 (f.kept.cradles k) f} (not (f.kept.cradles k == f.locals 30)) false (base + 3)
        (line_is pool code base (emptied_lines base k (suc n)) (with_local 31 (f.kept.cradles k) f) 1 has (omega arith) (omega (arith, at))) (known true t)
        (walks dropped
        (line_is pool code base (emptied_lines base k (suc n)) (onward (with_local 31 (f.kept.cradles k) f)) 2 has (omega arith) (omega (arith, at))
        ∙ is_defined (has_cradle k) (Goes dropped) (let low : nat_lt k 16 ≡ true = grind (arith, nat_tests) in low))
        (rest dropped (omega (arith, at)) slotted
        (λ g there. more g (after_one slot k n (base + 3 * suc n) f dropped g (λ x ne. set_apart f.locals 31 (f.kept.cradles k) x ne) (λ j. refl)
        (set_here f.kept.cradles k 0 k refl ∙ sym (emptied_is true t)) (λ i ne. set_apart f.kept.cradles k 0 i ne)
        (record { at = there.at ∙ omega arith; locals = there.locals; noted = there.noted; these = there.these; others = there.others })))))
      where
        dropped : Frame
        dropped = onward (with_kept (keep k 0 f.kept) (onward (with_local 31 (f.kept.cradles k) f)))
    of false t rest =
        goes_if {pool = pool} {code = code} {f = with_local 31 (f.kept.cradles k) f} (not (f.kept.cradles k == f.locals 30)) true (base + 3)
        (line_is pool code base (emptied_lines base k (suc n)) (with_local 31 (f.kept.cradles k) f) 1 has (omega arith) (omega (arith, at))) (known false t)
        (rest (goes_to (base + 3) (with_local 31 (f.kept.cradles k) f)) refl slotted
        (λ g there. more g (after_one slot k n (base + 3 * suc n) f (goes_to (base + 3) (with_local 31 (f.kept.cradles k) f)) g (λ x ne. set_apart f.locals 31 (f.kept.cradles k) x ne) (λ j. refl)
        (sym (emptied_is false t)) (λ i ne. refl)
        (record { at = there.at ∙ omega arith; locals = there.locals; noted = there.noted; these = there.these; others = there.others }))))

-- ---- beside an entry

index_map : (slot : ℕ) (xs : List ℕ) (i : ℕ) → slice_index (map (emptied slot) xs) i ≡ emptied slot (slice_index xs i)
index_map slot [] i = of (0 == slot) where
  of : (b : Bool) → ◌≡◌ {A = ℕ} 0 (if b then 0 else 0)
  of true = refl
  of false = refl
index_map slot (x ∷ xs) zero = refl
index_map slot (x ∷ xs) (suc i) = index_map slot xs i

none_emptied : (slot x : ℕ) → x ≡ 0 → x ≡ emptied slot x
none_emptied slot x is = of (x == slot) where
  of : (b : Bool) → x ≡ (if b then 0 else x)
  of true = is
  of false = refl

-- cradles past those of the kinds are empty
pub past_kinds : (pool : Pool) (target : Target) (setting : Setting) (e : Entry) → RunsFor pool target setting e → Fits target setting
    → (k : ℕ) → 4 * length target.kinds ≤ k → cradle_of e k ≡ 0
past_kinds pool target setting e runs fits k high = of (runs.belongs.cradles.kinds (k / 4) (k % 4) (omega arith)) where
  same : slice_index e.cradles (4 * (k / 4) + k % 4) ≡ slice_index e.cradles k
  same = ap (slice_index e.cradles) (omega arith)

  of : IsNullOrOf setting.sizes (k / 4) (slice_index e.cradles (4 * (k / 4) + k % 4)) → slice_index e.cradles k ≡ 0
  of object = ⊎_elim (λ (null : slice_index e.cradles (4 * (k / 4) + k % 4) ≡ 0). sym same ∙ null)
      (λ (is : (1 ≤ slice_index e.cradles (4 * (k / 4) + k % 4)) × (slice_index e.cradles (4 * (k / 4) + k % 4) ≤ setting.sizes.slots) × (kind_of setting.sizes (slice_index e.cradles (4 * (k / 4) + k % 4)) ≡ k / 4)).
      (let kind = is.2 in
      let small = kind_small setting.sizes (slice_index e.cradles (4 * (k / 4) + k % 4)) runs.is_setting.sizes.kinds in
      let count = fits.kinds in
      absurd (let no : ⊥ = omega (arith, kind, small, count, high) in no))) object

pub published : (pool : Pool) (code : List Line) (e : Entry) (kinds base : ℕ) (r : Reg) (There : Frame → Type 0) (f : Frame) → HasNumber r → 4 * kinds ≤ 16 → ((k : ℕ) → 4 * kinds ≤ k → cradle_of e k ≡ 0)
    → HasLines code base (published_lines base kinds r) → StandsFor e e.hand.registers base f
    → ((g : Frame) → StandsFor (with_published r e) e.hand.registers (base + published_size kinds r) g → Comes pool code g There) → Comes pool code f There
published pool code e kinds base (Num r) There f low few past has stands more = more f (stands_by (known_of e) e.hand.registers base (base + 0) f (omega arith) stands)
published pool code e kinds base (Ref r) There f low few past has stands more =
    walks slotted (line_is pool code base (published_lines base kinds (Ref r)) f 0 has (omega arith) (stands.at ∙ omega arith))
    (emptying pool code slot 0 (4 * kinds) (base + 1) There slotted (omega (arith, few)) (back_lines code base 1 (slot_line (Ref r) ∷ []) (emptied_lines (base + 1) 0 (4 * kinds)) refl has) standing.at
    (slot_of e.hand.registers f.locals r low stands.held)
    (λ g there. more g (record {
      at = there.at ∙ omega arith;
      held = record {
        numbers = λ k lt. there.locals k (λ z. omega (arith, z, lt)) ∙ standing.held.numbers k lt;
        references = λ k lt. there.locals (8 + k) (λ z. omega (arith, z, lt)) ∙ standing.held.references k lt;
      };
      seen = there.locals 20 (λ z. omega (arith, z)) ∙ standing.seen;
      carried = record {
        args = λ k lt. there.locals (16 + k) (λ z. omega (arith, z, lt)) ∙ standing.carried.args k lt;
        slots = λ k lt. there.locals (21 + k) (λ z. omega (arith, z, lt)) ∙ standing.carried.slots k lt;
        started = λ runs. record {
          numbers = λ k lt. there.locals (33 + k) (λ z. omega (arith, z)) ∙ (standing.carried.started runs).numbers k lt;
          references = λ k lt. there.locals (41 + k) (λ z. omega (arith, z)) ∙ (standing.carried.started runs).references k lt;
        };
        cradles = λ k lt. cradles g there k lt (cases_lt k (4 * kinds)) ∙ sym (index_map slot e.cradles k);
        quiet = λ j some. there.noted j ∙ standing.carried.quiet j some;
      };
    })))
  where
    slot : ℕ
    slot = slot_in e.hand.registers (Ref r)

    slotted : Frame
    slotted = with_local 30 (f.locals (8 + r) / 2) f

    standing : StandsFor e e.hand.registers (base + 1) (with_local 30 (f.locals (8 + r) / 2) f)
    standing = scratched (known_of e) e.hand.registers base (base + 1) f 30 (f.locals (8 + r) / 2) (omega arith) (omega arith) refl stands

    cradles : (g : Frame) → Emptied (slot_in e.hand.registers (Ref r)) 0 (4 * kinds) (base + 1 + 3 * (4 * kinds)) (with_local 30 (f.locals (8 + r) / 2) f) g → (k : ℕ) → k < 16 → (k < 4 * kinds) ⊎ (4 * kinds ≤ k)
        → g.kept.cradles k ≡ emptied (slot_in e.hand.registers (Ref r)) (slice_index e.cradles k)
    cradles g there k lt (inl within) = there.these k (omega arith) (omega (arith, within)) ∙ ap (emptied (slot_in e.hand.registers (Ref r))) (stands.carried.cradles k lt)
    cradles g there k lt (inr high) = there.others k (inr (omega (arith, high))) ∙ (stands.carried.cradles k lt ∙ none_emptied (slot_in e.hand.registers (Ref r)) (slice_index e.cradles k) (past k high))

    cases_lt : (a b : ℕ) → (a < b) ⊎ (b ≤ a)
    cases_lt a b = of (nat_lt a b) refl where
      of : (t : Bool) → nat_lt a b ≡ t → (a < b) ⊎ (b ≤ a)
      of true t = inl (grind (arith, nat_tests))
      of false t = inr (grind (arith, nat_tests))
