-- The list of a commit.
use Rattle.std.proofs.Common.{◌≡◌, ℕ, zero, suc, ◌+◌, ◌≤◌, Bool, true, false, List, [], ◌∷◌, ◌++◌, length, Option, Some, None, if◌then◌else◌, refl, sym, ◌∙◌, ap, subst, arith}
use Rattle.std.specs.Prelude.{nat_lt, slice_get}
use Rattle.std.proofs.lemmas.Bool.Decides.{nat_tests}
use Rattle.std.proofs.lemmas.Option.{slice_get_within}
use Rattle.norm_lang.specs.declared.text.FieldDecl.{FieldDecl}
use Rattle.norm_lang.specs.declared.text.Reg.{Reg}
use Rattle.norm_lang.specs.declared.text.Reg.TheVariants.{Num, Ref}
use Rattle.norm_lang.specs.declared.text.CasEntry.{CasEntry}
use Rattle.norm_lang.specs.declared.registers.Registers.{Registers}
use Rattle.target_code.specs.declared.target.TargetInstr.{TargetInstr}
use Rattle.target_code.specs.declared.target.Target.{Target}
use Rattle.phase_pools.specs.declared.stages.RetireStage.TheVariants as stages
use Rattle.phase_pools.specs.Pools.{retire_begun}
use Rattle.caller_parts.specs.declared.setting.Reclamation.TheVariants.{Optimistic}
use Rattle.caller_parts.specs.declared.routine.AfterRetire.TheVariants as retires
use Rattle.caller_parts.specs.declared.routine.Routine.TheVariants.{At, InList, Retires}
use Rattle.caller_parts.specs.Operands.{list_of, succeeds, to_retire}
use Rattle.caller_parts.specs.Settings.{Setting}
use Rattle.caller_steps.specs.Entries.{Entry, instr_in}
use Rattle.caller_steps.specs.Wants.{wants, list_wanted, exchange_wanted}
use Rattle.caller_steps.specs.After.{after, counted, with_routine, with_published, list_ended, list_begun, list_accepted, retires_then, list_failed}
use Rattle.c_language.specs.declared.lines.Operand.TheVariants.{Number}
use Rattle.c_language.specs.declared.lines.Value.TheVariants as values
use Rattle.c_language.specs.declared.lines.Line.{Line}
use Rattle.c_language.specs.declared.lines.Line.TheVariants as lines
use Rattle.c_language.specs.Steps.{Pool, Frame, with_local, goes_to}
use Rattle.c_language.specs.Runs.{Comes}
use Rattle.c_language.proofs.Walking.{here, walks, leads}
use Rattle.c_runtime.specs.KindLines.{HasLines}
use Rattle.c_emission.specs.Exchanges.{place_exchange, place_size, retire_lines, retire_size, published_lines, published_size, entry_block, entry_size, commit_block}
use Rattle.emission_laws.specs.Hands.{Stands, StandsFor, known_of}
use Rattle.emission_laws.specs.Making.{MakesAccess}
use Rattle.emission_laws.proofs.Frames.{scratched, moved_to}
use Rattle.emission_laws.proofs.Sides.{line_is, wants_by, after_by}
use Rattle.emission_laws.proofs.Sizes.{place_length, published_length, entry_length}
use Rattle.emission_laws.proofs.Layouts.{lines_at, lines_within}
use Rattle.exchange_laws.specs.Exchanging.{FitsExchange, StandsRetiring, AtRetirement}
use Rattle.exchange_laws.specs.Lists.{lines_before, lines_to_retire, HasList, ListIsOn, Listed, ListsAreMade}
use Rattle.exchange_laws.proofs.Steps.{both, stands_by, back_lines}
use Rattle.exchange_laws.proofs.Exchanging.{place_made}
use Rattle.exchange_laws.proofs.Retiring.{retire_follows, status_stored}
use Rattle.exchange_laws.proofs.Publishing.{past_kinds, published}

-- ---- where an exchange of the list stands

some_entry : (a b : CasEntry) → Some a ≡ Some b → a ≡ b
some_entry a b e = cc

entry_stands : (code : List Line) (fields : List FieldDecl) (kinds wrap_up base made : ℕ) (exchanges : List CasEntry) (k : ℕ) (exchange : CasEntry) (at count : ℕ) → slice_get exchanges k ≡ Some exchange
    → HasLines code base (commit_block fields kinds wrap_up base made exchanges) → at ≡ base + lines_before kinds exchanges k → count ≡ made + k
    → HasLines code at (entry_block fields kinds wrap_up at count exchange)
entry_stands code fields kinds wrap_up base made [] k exchange at count is has there counts = absurd (let no : None ≡ Some exchange = is in let none : ⊥ = cc in none)
entry_stands code fields kinds wrap_up base made (x ∷ exchanges) zero exchange at count is has there counts =
    subst (λ (c : ℕ). HasLines code at (entry_block fields kinds wrap_up at c exchange)) (let same : made ≡ count = omega (arith, counts) in same)
    (subst (λ (b : ℕ). HasLines code b (entry_block fields kinds wrap_up b made exchange)) (let same : base ≡ at = omega (arith, there) in same)
    (subst (λ (y : CasEntry). HasLines code base (entry_block fields kinds wrap_up base made y)) (some_entry x exchange is)
    (lines_within code base (entry_block fields kinds wrap_up base made x) (commit_block fields kinds wrap_up (base + entry_size kinds x) (made + 1) exchanges) has)))
entry_stands code fields kinds wrap_up base made (x ∷ exchanges) (suc k) exchange at count is has there counts =
    entry_stands code fields kinds wrap_up (base + entry_size kinds x) (made + 1) exchanges k exchange at count is
    (back_lines code base (entry_size kinds x) (entry_block fields kinds wrap_up base made x) (commit_block fields kinds wrap_up (base + entry_size kinds x) (made + 1) exchanges) (entry_length fields kinds wrap_up base made x) has)
    (omega (arith, there)) (omega (arith, counts))

-- and the list's end
end_stands : (code : List Line) (fields : List FieldDecl) (kinds wrap_up base made : ℕ) (exchanges : List CasEntry) (k at count : ℕ) → k ≡ length exchanges
    → HasLines code base (commit_block fields kinds wrap_up base made exchanges) → at ≡ base + lines_before kinds exchanges k → count ≡ made + k
    → HasLines code at (commit_block fields kinds wrap_up at count [])
end_stands code fields kinds wrap_up base made [] k at count is has there counts =
    subst (λ (c : ℕ). HasLines code at (commit_block fields kinds wrap_up at c [])) (let same : made ≡ count = omega (arith, counts, is) in same)
    (lines_at code base at (commit_block fields kinds wrap_up at made []) (omega (arith, there)) has)
end_stands code fields kinds wrap_up base made (x ∷ exchanges) zero at count is has there counts = absurd (omega (arith, is))
end_stands code fields kinds wrap_up base made (x ∷ exchanges) (suc k) at count is has there counts =
    end_stands code fields kinds wrap_up (base + entry_size kinds x) (made + 1) exchanges k at count (omega (arith, is))
    (back_lines code base (entry_size kinds x) (entry_block fields kinds wrap_up base made x) (commit_block fields kinds wrap_up (base + entry_size kinds x) (made + 1) exchanges) (entry_length fields kinds wrap_up base made x) has)
    (omega (arith, there)) (omega (arith, counts))

next_line : (kinds : ℕ) (exchanges : List CasEntry) (k : ℕ) (exchange : CasEntry) → slice_get exchanges k ≡ Some exchange
    → lines_before kinds exchanges (k + 1) ≡ lines_before kinds exchanges k + entry_size kinds exchange
next_line kinds [] k exchange is = absurd (let no : None ≡ Some exchange = is in let none : ⊥ = cc in none)
next_line kinds (x ∷ []) zero exchange is = ap (λ (y : CasEntry). entry_size kinds y + 0) (some_entry x exchange is) ∙ omega arith
next_line kinds (x ∷ y ∷ exchanges) zero exchange is = ap (λ (z : CasEntry). entry_size kinds z + 0) (some_entry x exchange is) ∙ omega arith
next_line kinds (x ∷ exchanges) (suc k) exchange is =
    ap (lines_before kinds (x ∷ exchanges)) (let one : suc k + 1 ≡ suc (k + 1) = omega arith in one) ∙ (let more = next_line kinds exchanges k exchange is in omega (arith, more))

-- ---- what follows so many successes

is_on : (pool : Pool) (code : List Line) (target : Target) (setting : Setting) (settled entry : Entry) (exchanges : List CasEntry) (made wrap_up base : ℕ) (f : Frame)
    → HasLines code base (commit_block target.fields (length target.kinds) wrap_up base 0 exchanges) → made ≤ length exchanges
    → settled ≡ (if nat_lt made (length exchanges) then with_routine entry (InList made) else list_ended target setting.sizes made entry)
    → StandsFor entry entry.hand.registers (base + lines_before (length target.kinds) exchanges made) f
    → Comes pool code f (ListIsOn target setting settled entry exchanges made wrap_up base)
is_on pool code target setting settled entry exchanges made wrap_up base f has most is stands = of (nat_lt made (length exchanges)) refl where
  last_lines : List Line
  last_lines = commit_block target.fields (length target.kinds) wrap_up (base + lines_before (length target.kinds) exchanges made) made []

  of : (b : Bool) → nat_lt made (length exchanges) ≡ b → Comes pool code f (ListIsOn target setting settled entry exchanges made wrap_up base)
  of true t = here (record {
    goes = λ lt. record { is = is ∙ ap (λ (b : Bool). if b then with_routine entry (InList made) else list_ended target setting.sizes made entry) t; stands = stands };
    ends = λ le. absurd (let no : ⊥ = grind (arith, nat_tests) in no);
  })
  of false t =
      let high : length exchanges ≤ made = grind (arith, nat_tests) in
      let ending = end_stands code target.fields (length target.kinds) wrap_up base 0 exchanges made (base + lines_before (length target.kinds) exchanges made) made (omega (arith, high, most)) has refl (omega arith) in
      let counted_now = scratched (known_of entry) entry.hand.registers (base + lines_before (length target.kinds) exchanges made) (base + lines_before (length target.kinds) exchanges made + 1) f 32 made (omega arith) (omega arith) refl stands in
      walks (with_local 32 made f) (line_is pool code (base + lines_before (length target.kinds) exchanges made) last_lines f 0 ending (omega arith) (stands.at ∙ omega arith))
      (walks (goes_to wrap_up (with_local 32 made f)) (line_is pool code (base + lines_before (length target.kinds) exchanges made) last_lines (with_local 32 made f) 1 ending (omega arith) counted_now.at)
      (here (record {
        goes = λ lt. absurd (let no : ⊥ = omega (arith, lt, high) in no);
        ends = λ le. record {
          is = is ∙ ap (λ (b : Bool). if b then with_routine entry (InList made) else list_ended target setting.sizes made entry) t;
          stands = moved_to (known_of entry) entry.hand.registers (base + lines_before (length target.kinds) exchanges made + 1) wrap_up (with_local 32 made f) counted_now;
          count = refl;
        };
      })))

begins : (pool : Pool) (code : List Line) (target : Target) (setting : Setting) (e : Entry) (exchanges : List CasEntry) (wrap_up base : ℕ) (f : Frame)
    → HasLines code base (commit_block target.fields (length target.kinds) wrap_up base 0 exchanges) → StandsFor e e.hand.registers base f
    → Comes pool code f (ListIsOn target setting (list_begun target setting.sizes exchanges e).entry e exchanges 0 wrap_up base)
begins pool code target setting e [] wrap_up base f has stands =
    is_on pool code target setting (list_begun target setting.sizes [] e).entry e [] 0 wrap_up base f has (omega arith) refl (stands_by (known_of e) e.hand.registers base (base + 0) f (omega arith) stands)
begins pool code target setting e (x ∷ exchanges) wrap_up base f has stands =
    is_on pool code target setting (list_begun target setting.sizes (x ∷ exchanges) e).entry e (x ∷ exchanges) 0 wrap_up base f has (omega arith)
    (sym (ap (λ (b : Bool). if b then with_routine e (InList 0) else list_ended target setting.sizes 0 e) (let some : nat_lt 0 (suc (length exchanges)) ≡ true = grind (arith, nat_tests) in some))) (stands_by (known_of e) e.hand.registers base (base + 0) f (omega arith) stands)

-- ---- an exchange

-- what was published changes cradles alone
published_hand : (r : Reg) (e : Entry) → (with_published r e).hand.registers ≡ e.hand.registers
published_hand (Num r) e = refl
published_hand (Ref r) e = refl

published_instr : (target : Target) (r : Reg) (e : Entry) → instr_in target (with_published r e) ≡ instr_in target e
published_instr target (Num r) e = refl
published_instr target (Ref r) e = refl

module _ (pool : Pool) (code : List Line) (target : Target) (setting : Setting) (e : Entry) (exchanges : List CasEntry) (k : ℕ) (exchange : CasEntry) (wrap_up base : ℕ)
    (list : HasList pool code target setting e exchanges wrap_up base) (at : e.routine ≡ InList k) (nth : slice_get exchanges k ≡ Some exchange)
    (fits : FitsExchange target setting e exchange) where
  abbrev kinds : ℕ
  kinds = length target.kinds

  abbrev line : ℕ
  line = base + lines_before (length target.kinds) exchanges k

  abbrev entry : Entry
  entry = with_published exchange.replacement (counted e)

  abbrev There : ℕ → Frame → Type 0
  There word f = Listed target setting e exchanges k exchange wrap_up base word f

  abbrev first_lines : List Line
  first_lines = place_exchange target.fields (line + 1) exchange.place exchange.expected exchange.replacement wrap_up

  abbrev second_lines : List Line
  second_lines = published_lines (line + 1 + place_size exchange.place) kinds exchange.replacement

  abbrev third_lines : List Line
  third_lines = retire_lines (line + 1 + place_size exchange.place + published_size kinds exchange.replacement) exchange.retire

  block : HasLines code line (entry_block target.fields kinds wrap_up line k exchange)
  block = entry_stands code target.fields (length target.kinds) wrap_up base 0 exchanges k exchange (base + lines_before (length target.kinds) exchanges k) k nth list.has refl (omega arith)

  rest : HasLines code (line + 1) (first_lines ++ (second_lines ++ third_lines))
  rest = back_lines code line 1 (lines.Let 32 (values.Is (Number k)) ∷ []) (first_lines ++ (second_lines ++ third_lines)) refl block

  later : HasLines code (line + 1 + place_size exchange.place) (second_lines ++ third_lines)
  later = back_lines code (line + 1) (place_size exchange.place) first_lines (second_lines ++ third_lines)
      (place_length target.fields (line + 1) exchange.place exchange.expected exchange.replacement wrap_up) rest

  ends : (word : ℕ) (b : Bool) → succeeds exchange e.hand.registers word ≡ b
      → after target setting e word ≡ (if b then retires_then Optimistic target setting.sizes (retires.List k) (to_retire exchange.retire e.hand.registers) entry else list_failed Optimistic target setting.sizes k (counted e)).entry
  ends word b t =
      after_by target setting e word (InList k) list.runs.by at
      ∙ (ap (λ (i : Option TargetInstr). (list_accepted Optimistic target setting.sizes k (slice_get (list_of i) k) word (counted e)).entry) list.is
      ∙ (ap (λ (o : Option CasEntry). (list_accepted Optimistic target setting.sizes k o word (counted e)).entry) nth
      ∙ ap (λ (x : Bool). (if x then retires_then Optimistic target setting.sizes (retires.List k) (to_retire exchange.retire e.hand.registers) (with_published exchange.replacement (counted e)) else list_failed Optimistic target setting.sizes k (counted e)).entry) t))

  wanted_is : wants target e ≡ Some (exchange_wanted target.fields exchange e.hand.registers)
  wanted_is =
      wants_by target e (InList k) at
      ∙ (ap (λ (i : Option TargetInstr). list_wanted target.fields (slice_get (list_of i) k) e.hand.registers) list.is
      ∙ ap (λ (o : Option CasEntry). list_wanted target.fields o e.hand.registers) nth)

  failed : (word : ℕ) (h : Frame) → succeeds exchange e.hand.registers word ≡ false → StandsFor e e.hand.registers wrap_up h → h.locals 32 ≡ k → Listed target setting e exchanges k exchange wrap_up base word h
  failed word h t stands count = record {
    fails = λ no. record { is = ends word false t; stands = stands; count = count };
    goes = λ yes none. absurd (both (succeeds exchange e.hand.registers word) yes t);
    retires = λ yes some. absurd (both (succeeds exchange e.hand.registers word) yes t);
  }

  -- after all that follows a success
  next_is : lines_before kinds exchanges (k + 1) ≡ lines_before kinds exchanges k + entry_size kinds exchange
  next_is = next_line (length target.kinds) exchanges k exchange nth

  on_is : (word : ℕ) → to_retire exchange.retire e.hand.registers ≡ 0 → succeeds exchange e.hand.registers word ≡ true
      → after target setting e word ≡ (if nat_lt (k + 1) (length exchanges) then with_routine entry (InList (k + 1)) else list_ended target setting.sizes (k + 1) entry)
  on_is word none t =
      ends word true t
      ∙ (ap (λ (j : ℕ). (retires_then Optimistic target setting.sizes (retires.List k) j entry).entry) none
      ∙ ap (λ (i : Option TargetInstr). if nat_lt (k + 1) (length (list_of i)) then with_routine entry (InList (k + 1)) else list_ended target setting.sizes (k + 1) entry)
      (published_instr target exchange.replacement (counted e) ∙ list.is))

  gone : (word : ℕ) (h : Frame) → succeeds exchange e.hand.registers word ≡ true → to_retire exchange.retire e.hand.registers ≡ 0
      → StandsFor entry entry.hand.registers (line + 1 + place_size exchange.place + published_size kinds exchange.replacement + retire_size exchange.retire) h
      → Comes pool code h (Listed target setting e exchanges k exchange wrap_up base word)
  gone word h t none stands =
      leads (is_on pool code target setting (after target setting e word) entry exchanges (k + 1) wrap_up base h list.has (let within = slice_get_within exchanges k exchange nth in omega (arith, within)) (on_is word none t)
      (stands_by (known_of entry) entry.hand.registers (line + 1 + place_size exchange.place + published_size kinds exchange.replacement + retire_size exchange.retire)
      (base + lines_before kinds exchanges (k + 1)) h (omega (arith, next_is)) stands))
      (λ g on. record {
        fails = λ no. absurd (both (succeeds exchange e.hand.registers word) t no);
        goes = λ yes zero_slot. on;
        retires = λ yes some. absurd (some none);
      })

  retiring : (word : ℕ) (h : Frame) (j : ℕ) → succeeds exchange e.hand.registers word ≡ true → to_retire exchange.retire e.hand.registers ≡ suc j
      → StandsRetiring entry (retire_begun (to_retire exchange.retire e.hand.registers)) (line + lines_to_retire kinds exchange) h
      → Listed target setting e exchanges k exchange wrap_up base word h
  retiring word h j t some stands = record {
    fails = λ no. absurd (both (succeeds exchange e.hand.registers word) t no);
    goes = λ yes none. let no : suc j ≡ 0 = sym some ∙ none in absurd (omega (arith, no));
    retires = λ yes more. record {
      is = ends word true t ∙ (ap (λ (j : ℕ). (retires_then Optimistic target setting.sizes (retires.List k) j entry).entry) some
          ∙ ap (λ (j : ℕ). with_routine entry (Retires (retire_begun j) (retires.List k))) (sym some));
      stands = stands;
    };
  }

  -- what was published, and then what is retired
  succeeded : (word : ℕ) (h : Frame) → succeeds exchange e.hand.registers word ≡ true → StandsFor e e.hand.registers (line + 1 + place_size exchange.place) h
      → Comes pool code h (Listed target setting e exchanges k exchange wrap_up base word)
  succeeded word h t stands =
      published pool code (counted e) kinds (line + 1 + place_size exchange.place) exchange.replacement (Listed target setting e exchanges k exchange wrap_up base word) h fits.replacement
      (let few = list.runs.is_setting.sizes.kinds.few in let count = list.fits.kinds in omega (arith, few, count))
      (past_kinds pool target setting e list.runs list.fits)
      (lines_within code (line + 1 + place_size exchange.place) second_lines third_lines later) stands
      (λ g standing. retire_follows pool code entry (line + 1 + place_size exchange.place + published_size kinds exchange.replacement) exchange.retire
      (Listed target setting e exchanges k exchange wrap_up base word) g fits.retired
      (back_lines code (line + 1 + place_size exchange.place) (published_size kinds exchange.replacement) second_lines third_lines
      (published_length (line + 1 + place_size exchange.place) kinds exchange.replacement) later)
      (subst (λ (r : Registers). Stands (known_of entry) r (line + 1 + place_size exchange.place + published_size kinds exchange.replacement) g) (sym (published_hand exchange.replacement (counted e))) standing)
      (λ i none there. gone word i t (ap (to_retire exchange.retire) (sym (published_hand exchange.replacement (counted e))) ∙ none) there)
      (λ i j some there. here (retiring word i j t (ap (to_retire exchange.retire) (sym (published_hand exchange.replacement (counted e))) ∙ some) (begun_for i there))))
    where
      begun_for : (i : Frame) → StandsRetiring entry (retire_begun (to_retire exchange.retire entry.hand.registers)) (line + 1 + place_size exchange.place + published_size kinds exchange.replacement) i
          → StandsRetiring entry (retire_begun (to_retire exchange.retire e.hand.registers)) (line + lines_to_retire kinds exchange) i
      begun_for i there = record {
        stands = stands_by (known_of entry) entry.hand.registers (line + 1 + place_size exchange.place + published_size kinds exchange.replacement + 2) (line + lines_to_retire kinds exchange + 2) i (omega arith) there.stands;
        slot = there.slot ∙ ap (to_retire exchange.retire) (published_hand exchange.replacement (counted e));
        status = tt;
      }

  pub made : (f : Frame) → StandsFor e e.hand.registers line f → Comes pool code f (MakesAccess pool code target setting e (Listed target setting e exchanges k exchange wrap_up base))
  made f stands =
      walks (with_local 32 k f) (line_is pool code line (entry_block target.fields kinds wrap_up line k exchange) f 0 block (omega arith) (stands.at ∙ omega arith))
      (place_made pool code target setting e exchange (line + 1) wrap_up (Listed target setting e exchanges k exchange wrap_up base) (with_local 32 k f) exchange.place list.runs fits.place fits.expected fits.replacement
      wanted_is (lines_within code (line + 1) first_lines (second_lines ++ third_lines) rest)
      (record {
        goes = λ word h t standing count. succeeded word h t standing;
        fails = λ word h t standing count. here (failed word h t standing count);
      })
      (scratched (known_of e) e.hand.registers line (line + 1) f 32 k (omega arith) (omega arith) refl stands))

-- ---- the end of a retirement

retired : (pool : Pool) (code : List Line) (target : Target) (setting : Setting) (e : Entry) (exchanges : List CasEntry) (k : ℕ) (exchange : CasEntry) (wrap_up base r slot p : ℕ) (f : Frame)
    → HasList pool code target setting e exchanges wrap_up base → slice_get exchanges k ≡ Some exchange → exchange.retire ≡ Some (Ref r)
    → AtRetirement pool code target setting e (record { slot = slot; stage = stages.StoreStatus p }) (retires.List k) r
    (base + lines_before (length target.kinds) exchanges k + lines_to_retire (length target.kinds) exchange) f
    → MakesAccess pool code target setting e
    (λ word. ListIsOn target setting (after target setting e word) (with_routine (counted e) At) exchanges (k + 1) wrap_up base) f
retired pool code target setting e exchanges k exchange wrap_up base r slot p f list nth register retiring =
    status_stored pool code target setting e slot p (retires.List k) r (base + lines_before (length target.kinds) exchanges k + lines_to_retire (length target.kinds) exchange)
    (λ word. ListIsOn target setting (after target setting e word) (with_routine (counted e) At) exchanges (k + 1) wrap_up base) f retiring
    (λ word h standing. is_on pool code target setting (after target setting e word) (with_routine (counted e) At) exchanges (k + 1) wrap_up base h list.has
    (let within = slice_get_within exchanges k exchange nth in omega (arith, within))
    (after_by target setting e word (Retires (record { slot = slot; stage = stages.StoreStatus p }) (retires.List k)) list.runs.by retiring.at
    ∙ ap (λ (i : Option TargetInstr). if nat_lt (k + 1) (length (list_of i)) then with_routine (with_routine (counted e) At) (InList (k + 1)) else list_ended target setting.sizes (k + 1) (with_routine (counted e) At)) list.is)
    (stands_by (known_of e) e.hand.registers (base + lines_before (length target.kinds) exchanges k + lines_to_retire (length target.kinds) exchange + 6)
    (base + lines_before (length target.kinds) exchanges (k + 1)) h (sized (lines_before (length target.kinds) exchanges (k + 1)) (next_line (length target.kinds) exchanges k exchange nth)) standing))
  where
    sized : (next : ℕ) → next ≡ lines_before (length target.kinds) exchanges k + entry_size (length target.kinds) exchange
        → base + lines_before (length target.kinds) exchanges k + lines_to_retire (length target.kinds) exchange + 6 ≡ base + next
    sized next is = (let six = ap retire_size register in omega (arith, is, six))

pub lists_are_made : ListsAreMade
lists_are_made = record {
  begins = begins;
  exchanges = λ pool code target setting e exchanges k exchange wrap_up base f list at nth fits stands.
      made pool code target setting e exchanges k exchange wrap_up base list at nth fits f stands;
  retirements = retired;
}
