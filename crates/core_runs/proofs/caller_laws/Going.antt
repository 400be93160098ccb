-- An entry that goes on from its instruction to a successor belongs.
use Rattle.std.proofs.Common.{◌≡◌, ℕ, zero, suc, ◌+◌, ◌*◌, ◌%◌, inl, ◌≤◌, ◌<◌, ◌==◌, Bool, true, false, List, [], ◌∷◌, length, take, drop, set, map, length-set, Option, Some, None, refl, sym, ◌∙◌, ap, arith, if◌then◌else◌}
use Rattle.std.specs.Prelude.{slice_get, slice_index, option_map, nat_le}
use Rattle.std.specs.List.{list_all}
use Rattle.std.proofs.lemmas.Bool.Decides.{nat_tests}
use Rattle.std.proofs.lemmas.Bool.{and_parts}
use Rattle.norm_lang.specs.declared.text.Reg.{Reg}
use Rattle.norm_lang.specs.declared.text.Reg.TheVariants.{Num, Ref}
use Rattle.norm_lang.specs.declared.text.FieldKind.{FieldKind}
use Rattle.norm_lang.specs.declared.text.FieldKind.TheVariants as holdings
use Rattle.norm_lang.specs.declared.text.RootDecl.{RootDecl}
use Rattle.norm_lang.specs.declared.registers.Registers.{Registers}
use Rattle.norm_lang.specs.Registers.{reference_in}
use Rattle.norm_lang.specs.RegisterUse.{same_register}
use Rattle.norm_lang.specs.InstructionRules.{root_kind, are_roots_of_one_kind, is_of_kind, is_unlike, same_kind}
use Rattle.norm_lang.specs.Local.{remainder}
use Rattle.target_code.specs.declared.target.TargetInstr.{TargetInstr}
use Rattle.target_code.specs.declared.target.Target.{Target}
use Rattle.target_code.specs.Paths.{IsTargetSuccessor, target_goes_from}
use Rattle.target_code.specs.TargetLimits.{is_target_new}
use Rattle.guard_words.specs.Guards.{Guards, with_guard}
use Rattle.guard_words.proofs.Rows.{guards_follow}
use Rattle.oa_words.specs.Words.{Sizes}
use Rattle.oa_words.specs.SlotKinds.{IsNullOrOf}
use Rattle.caller_parts.specs.declared.setting.Reclamation.{Reclamation}
use Rattle.caller_parts.specs.Settings.{Setting, Fits}
use Rattle.caller_steps.specs.Entries.{Entry, op_of, code_in, instr_in}
use Rattle.caller_parts.specs.Operands.{unpacked, with_word, emptied}
use Rattle.caller_steps.specs.After.{settles}
use Rattle.caller_steps.specs.Belongs.{GuardsSlots, HaveKinds, HoldsSlots, NamesSlots}
use Rattle.target_laws.specs.target_runs.Sane.{SaneAt}
use Rattle.core_runs.proofs.caller_laws.Methods.{Methods, SettingSane}
use Rattle.core_runs.proofs.caller_laws.Named.{set_keeps}
use Rattle.core_runs.proofs.caller_laws.Reaching.{Leaves, next_reached, other_reference}
use Rattle.core_runs.proofs.caller_laws.Stopping.{Holds, Here, BelongsIn, settles_belongs, site_of}

-- a lawful load leaves the other registers as they are
pub other_word : (registers : Registers) (d : Reg) (word r : ℕ) → same_register (Ref r) d ≡ false → reference_in (with_word registers d word) (Ref r) ≡ reference_in registers (Ref r)
other_word registers (Num d) word r isnt = refl
other_word registers (Ref d) word r isnt = other_reference registers (Ref d) (unpacked word) r isnt

-- what an instruction that sets nothing leaves
pub leaves_all : (i : TargetInstr) (registers : Registers) → is_target_new i ≡ false → Leaves i registers registers
leaves_all i registers fresh = record { made = λ r wrote new. absurd (let e : false ≡ true = sym fresh ∙ new in cc); kept = λ r isnt. refl }

-- on to a successor, if registers name slots of kinds that they may have there
pub goes_belongs : (target : Target) (setting : Setting) (by : Reclamation) (e : Entry) (i : TargetInstr) (to : ℕ) (after : Registers) → Methods target → SettingSane setting → Fits target setting
    → Holds target setting e → Here target setting e → setting.reclamation ≡ by → instr_in target e ≡ Some i → target_goes_from (Some i) e.hand.at to ≡ true
    → Leaves i e.hand.registers after → NamesSlots setting.sizes.slots after → (IsTargetSuccessor (code_in target e) e.hand.at to → HaveKinds target setting (op_of target e) e.hand.wrapup to after)
    → BelongsIn target setting (settles by target setting.sizes (record { at = to; registers = after }) e)
goes_belongs target setting by e i to after sane some fits h c scheme is goes leaves names typed =
    settles_belongs target setting by (record { at = to; registers = after }) e sane some fits h scheme (record {
      reached = next_reached (code_in target e) e.hand.at to i e.hand.registers after is goes (site.goes to goes) c.reached leaves;
      names = names;
      kinds = typed (rw is goes, site.goes to goes);
    }) where
      site : SaneAt target e.hand.wrapup (code_in target e) e.hand.at i
      site = site_of target e i sane c.reached is

-- guards
pub guards_put : (slots : ℕ) (guards : Guards) (r slot : ℕ) → GuardsSlots slots guards → slot ≤ slots → GuardsSlots slots (with_guard guards r slot)
guards_put slots guards r slot g le = record {
  row = guards_follow.row_put guards r slot g.row;
  within = λ k. set_keeps (λ (x : ℕ). x ≤ slots) guards.slots r slot 0 k le (g.within k);
}

-- cradles
index_keeps : (P : ℕ → Type 0) (xs : List ℕ) (i x r : ℕ) → (r ≡ i → P x) → P (slice_index xs r) → P (slice_index (set xs i x) r)
index_keeps P (y ∷ ys) zero x zero p q = p refl
index_keeps P (y ∷ ys) (suc i) x (suc r) p q = index_keeps P ys i x r (λ is. p (ap suc is)) q
index_keeps P _ _ x _ p q = q

-- a slot is put into a cradle of its kind
pub cradle_put : (n : Sizes) (cradles : List ℕ) (k slot : ℕ) → HoldsSlots n cradles → slot ≤ n.slots → ((t j : ℕ) → j < 4 → 4 * t + j ≡ k → IsNullOrOf n t slot) → HoldsSlots n (set cradles k slot)
cradle_put n cradles k slot h le of = record {
  count = length-set cradles k slot ∙ h.count;
  within = λ r. index_keeps (λ (x : ℕ). x ≤ n.slots) cradles k slot r (λ is. le) (h.within r);
  kinds = λ t j lt. index_keeps (IsNullOrOf n t) cradles k slot (4 * t + j) (of t j lt) (h.kinds t j lt);
}

emptied_count : (slot : ℕ) (xs : List ℕ) → length (map (emptied slot) xs) ≡ length xs
emptied_count slot [] = refl
emptied_count slot (x ∷ xs) = ap suc (emptied_count slot xs)

emptied_keeps : (P : ℕ → Type 0) (slot : ℕ) (xs : List ℕ) (k : ℕ) → P 0 → P (slice_index xs k) → P (slice_index (map (emptied slot) xs) k)
emptied_keeps P slot [] k none had = had
emptied_keeps P slot (x ∷ xs) zero none had = of (x == slot) where
  of : (b : Bool) → P (if b then 0 else x)
  of true = none
  of false = had
emptied_keeps P slot (x ∷ xs) (suc k) none had = emptied_keeps P slot xs k none had

pub cradles_emptied : (n : Sizes) (slot : ℕ) (cradles : List ℕ) → HoldsSlots n cradles → HoldsSlots n (map (emptied slot) cradles)
cradles_emptied n slot cradles h = record {
  count = emptied_count slot cradles ∙ h.count;
  within = λ k. emptied_keeps (λ (x : ℕ). x ≤ n.slots) slot cradles k (omega arith) (h.within k);
  kinds = λ t k lt. emptied_keeps (IsNullOrOf n t) slot cradles (4 * t + k) (inl refl) (h.kinds t k lt);
}

-- both hold numbers, or both hold references
abbrev pub are_alike : Option FieldKind → Option FieldKind → Bool
are_alike (Some one) (Some other) = same_kind one other
are_alike _ _ = false

-- a register of the one's kind is of the other's
pub alike_unlike : (one other : Option FieldKind) (d : Reg) → are_alike one other ≡ true → is_unlike one d ≡ false → is_unlike other d ≡ false
alike_unlike (Some holdings.Number) (Some holdings.Number) d alike like = like
alike_unlike (Some (holdings.Reference k)) (Some (holdings.Reference j)) d alike like = like
alike_unlike _ _ d alike like = absurd (let z : false ≡ true = alike in cc)

of_kind : (kind : Option FieldKind) (root : RootDecl) → is_of_kind kind root ≡ true → are_alike kind (Some root.kind) ≡ true
of_kind None root e = e
of_kind (Some kind) root e = e

all_take : (kind : Option FieldKind) (roots : List RootDecl) (n k : ℕ) → list_all (is_of_kind kind) (take n roots) ≡ true → k < n → k < length roots
    → are_alike kind (option_map (λ (root : RootDecl). root.kind) (slice_get roots k)) ≡ true
all_take kind [] n k all lt within = absurd (omega (arith, within))
all_take kind (root ∷ roots) zero k all lt within = absurd (omega (arith, lt))
all_take kind (root ∷ roots) (suc n) zero all lt within = of_kind kind root (and_parts (is_of_kind kind root) (list_all (is_of_kind kind) (take n roots)) all).0
all_take kind (root ∷ roots) (suc n) (suc k) all lt within =
    all_take kind roots n k (and_parts (is_of_kind kind root) (list_all (is_of_kind kind) (take n roots)) all).1 (omega (arith, lt)) (omega (arith, within))

all_drop : (kind : Option FieldKind) (roots : List RootDecl) (x n k : ℕ) → list_all (is_of_kind kind) (take n (drop x roots)) ≡ true → k < n → x + k < length roots
    → are_alike kind (root_kind roots (x + k)) ≡ true
all_drop kind [] x n k all lt within = absurd (omega (arith, within))
all_drop kind (root ∷ roots) zero n k all lt within = let z : 0 + k ≡ k = omega arith in rw z (all_take kind (root ∷ roots) n k all lt (omega (arith, within)))
all_drop kind (root ∷ roots) (suc x) n k all lt within = let z : suc x + k ≡ suc (x + k) = omega arith in rw z (all_drop kind roots x n k all lt (omega (arith, within)))

-- the roots of a pick are alike
pub pick_kind : (roots : List RootDecl) (x n k : ℕ) → are_roots_of_one_kind roots x n ≡ true → k < n → (are_alike (root_kind roots x) (root_kind roots (x + k)) ≡ true) × (x + k < length roots)
pick_kind roots x n k one lt =
    let parts = and_parts (nat_le (x + n) (length roots)) (list_all (is_of_kind (root_kind roots x)) (take n (drop x roots))) one in
    let le : x + n ≤ length roots = within (x + n) (length roots) parts.0 in
    (all_drop (root_kind roots x) roots x n k parts.1 lt (omega (arith, le, lt)), omega (arith, le, lt)) where
      within : (a b : ℕ) → nat_le a b ≡ true → a ≤ b
      within a b e = grind (arith, nat_tests)

pub remainder_below : (a n : ℕ) → 1 ≤ n → remainder a n < n
remainder_below a zero le = absurd (omega (arith, le))
remainder_below a (suc n) le = rest where
  rest : a % suc n < suc n
  rest = omega arith
