-- What a scheme makes of a text in normal form has no flaw, if it is known of each method what may not be clean.
use Rattle.std.proofs.Common.{◌≡◌, ℕ, zero, suc, ◌⊎◌, inl, inr, Bool, true, false, List, [], ◌∷◌, ◌++◌, map, length, take, Option, Some, None, refl, sym, ap, subst, ◌∙◌}
use Rattle.std.specs.Prelude.{slice_get, option_map, IsSomeAnd, IsTrue, if◌then◌else◌}
use Rattle.std.specs.List.{list_any, filter}
use Rattle.std.proofs.lemmas.Option.{same_Some, slice_get-map, slice_get_within}
use Rattle.std.proofs.lemmas.Bool.{or_left, or_right}
use Rattle.norm_lang.specs.declared.text.Reg.{Reg}
use Rattle.norm_lang.specs.declared.text.Instr.{Instr}
use Rattle.norm_lang.specs.declared.text.Instr.TheVariants as instr
use Rattle.norm_lang.specs.declared.text.Op.{Op}
use Rattle.norm_lang.specs.declared.text.Text.{Text}
use Rattle.norm_lang.specs.Limits.{IsWithinLimits}
use Rattle.norm_lang.specs.RegisterUse.{same_register}
use Rattle.norm_lang.specs.Kept.{code_of, holds_reference, IsKept}
use Rattle.norm_lang.specs.InstructionRules.{has_wrong_end}
use Rattle.norm_lang.specs.PathRules.{is_commit, exchanges}
use Rattle.norm_lang.specs.NormalForm.{Rule, N8, N11, BreaksRule, IsNormal}
use Rattle.norm_paths.specs.Found.{IsOpWithin}
use Rattle.norm_paths.proofs.Founding.{op_within}
use Rattle.target_code.specs.declared.target.TargetInstr.{TargetInstr}
use Rattle.target_code.specs.declared.target.TargetInstr.TheVariants.{Plain, Check, Guard}
use Rattle.target_code.specs.declared.target.TargetOp.{TargetOp}
use Rattle.target_code.specs.Paths.{target_code_of}
use Rattle.target_code.specs.Erasing.{redirected}
use Rattle.target_code.specs.Flaws.{clean_after, guards, GuardState, Free, Published, Validated, Dropped, guard_after, exchanged, Uses, NeedsGuard, NeedsMore, UsesUnchecked, GuardsKept}
use Rattle.target_code.specs.Barred.{FlawKind, ErasesDifferently, UncheckedUse, Unguarded, GuardAfterCheck, GuardDropped, IsFlawed, IsFlawless}
use Rattle.target_code.specs.Keeping.{keeps}
use Rattle.target_code.specs.Blocks.{all_references, kept_at, to_guard, Marked, check_if, barrier, block, block_place, laid_out, scheme_op, scheme}
use Rattle.barrier_compiler.proofs.BlocksInLists.{in_either, piece_of, run}
use Rattle.barrier_compiler.proofs.BlockPaths.{leads_on, jumps, is_barrier, in_block, block_in, AreStraight, HandsOn, stands_there, leads_into}
use Rattle.barrier_compiler.proofs.Guarding.{IsAmong, among_either, filtered_among, once_among, uses_same, unclean_barrier, IsUnclean, unclean_block, barrier_validates, needed}
use Rattle.norm_check.proofs.Placing.{and_some}

-- `keeps` finds each kept register
abbrev pub FindsKept : Type 0
FindsKept = (op : Op) (r : Reg) → IsKept op r → IsTrue (keeps op r)

-- a check or a guard uses nothing, and needs nothing guarded
bar_uses_none : (op : Op) (r : Reg) (j : TargetInstr) → IsTrue (is_barrier j) → ¬ Uses op r j
bar_uses_none op r (Plain i) bars uses = cc
bar_uses_none op r Check bars uses = elim uses [ inl reading ↦ cc | inr commits ↦ (let no : IsTrue false = commits.0 in cc) ]
bar_uses_none op r (Guard a) bars uses = elim uses [ inl reading ↦ cc | inr commits ↦ (let no : IsTrue false = commits.0 in cc) ]

bar_needs_none : (op : Op) (r : Reg) (j : TargetInstr) → IsTrue (is_barrier j) → ¬ NeedsGuard op r j
bar_needs_none op r (Plain i) bars needs = cc
bar_needs_none op r Check bars needs = elim needs [ inl exchange ↦ (let no : IsTrue false = exchange.1 in cc) | inr commits ↦ (let no : IsTrue false = commits.0 in cc) ]
bar_needs_none op r (Guard a) bars needs = elim needs [ inl exchange ↦ (let no : IsTrue false = exchange.1 in cc) | inr commits ↦ (let no : IsTrue false = commits.0 in cc) ]

-- the registers that may not be clean where each block of a method is entered, and why each use finds its register clean
pub record KnowsUnchecked (op : Op) (marked : List Marked) : Type 0 where
  pub unchecked : ℕ → List Reg
  -- what an instruction uses isn't among them, or a check stands before it
  pub uses : (at : ℕ) (m : Marked) (r : Reg) → slice_get marked at ≡ Some m → m.before ≡ false → IsAmong r (unchecked at) → ¬ Uses op r (Plain m.instr)
  -- what may not be clean after an instruction is among them, or a check stands after it
  pub after : (at : ℕ) (m : Marked) (r : Reg) → slice_get marked at ≡ Some m → IsTrue (leads_on m.instr) → m.after ≡ false → IsUnclean r m (IsAmong r (unchecked at)) → IsAmong r (unchecked (suc at))
  -- and there is nothing of the kind where control may go elsewhere
  pub leaving : (at : ℕ) (m : Marked) (r : Reg) → slice_get marked at ≡ Some m → IsTrue (jumps m.instr) → ¬ IsUnclean r m (IsAmong r (unchecked at))

-- where a block is entered a register is clean, or among those that may not be
abbrev AreKnown : (ℕ → List Reg) → Reg → ℕ → Bool → Type 0
AreKnown unchecked r at state = state ≡ false → IsAmong r (unchecked at)

hands_known : (op : Op) (marked : List Marked) (knows : KnowsUnchecked op marked) (r : Reg) → HandsOn (clean_after r) (AreKnown knows.unchecked r) op marked
hands_known op marked knows r at m state to stands may known = λ unclean.
    let left = unclean_block r (block_place op marked) op m state unclean in
    let why : IsUnclean r m (IsAmong r (knows.unchecked at)) = elim left.1 [ inl set ↦ inl set | inr kept ↦ inr (kept.0, known kept.1) ] in
    elim may [
      | inl on ↦ subst (λ n. IsAmong r (knows.unchecked n)) (sym on.1) (knows.after at m r stands on.0 left.0 why)
      | inr jump ↦ absurd (knows.leaving at m r stands jump why)
    ]

-- what an instruction uses was checked
pub uses_checked : (op : Op) (marked : List Marked) → AreStraight marked → KnowsUnchecked op marked → (at : ℕ) (j : TargetInstr) → slice_get (laid_out op marked) at ≡ Some j → ¬ UsesUnchecked op (laid_out op marked) at j
uses_checked op marked straight knows at j stands uses =
    let r = uses.0 in
    let path = uses.2.0 in
    let inside = slice_get_within (laid_out op marked) at j stands in
    let is = leads_into (clean_after r) (AreKnown knows.unchecked r) op marked straight (hands_known op marked knows r) true (λ no. cc) path at uses.2.1 inside in
    let m = is.source in
    let placed : slice_get (block_in op marked m) is.offset ≡ Some j = sym (stands_there (clean_after r) (AreKnown knows.unchecked r) op marked at _ is) ∙ stands in
    elim (in_block (block_place op marked) op m is.offset j placed) [
      | inl bars ↦ bar_uses_none op r j bars.0 uses.1
      | inr rest ↦ elim rest [
        | inr bars ↦ bar_uses_none op r j bars.0 uses.1
        | inl plain ↦ (
            let unclean : run (clean_after r) (barrier m.before (to_guard op m.instr)) is.before ≡ false =
            ap (λ z. run (clean_after r) z is.before) (sym plain.1) ∙ sym is.comes ∙ uses.2.2 in
            let before = unclean_barrier r m.before (to_guard op m.instr) is.before unclean in
            knows.uses is.at m r is.stands before.0 (is.holds before.1) (uses_same (block_place op marked) op r m.instr (subst (Uses op r) plain.0 uses.1)))
      ]
    ]

-- what has to be guarded stands guarded and checked
pub needs_no_more : FindsKept → (op : Op) → IsOpWithin op → (marked : List Marked) → AreStraight marked → (at : ℕ) (j : TargetInstr) (state : GuardState) → (Validated ≡ state → ⊥) → slice_get (laid_out op marked) at ≡ Some j
    → ¬ NeedsMore state op (laid_out op marked) at j
needs_no_more finds op within marked straight at j state other stands needs =
    let r = needs.0 in
    let path = needs.2.0 in
    let inside = slice_get_within (laid_out op marked) at j stands in
    let is = leads_into (guard_after r) (λ _ _. Unit {0}) op marked straight (λ at m state to stands may any. tt) Free tt path at needs.2.1 inside in
    let m = is.source in
    let placed : slice_get (block_in op marked m) is.offset ≡ Some j = sym (stands_there (guard_after r) (λ _ _. Unit {0}) op marked at _ is) ∙ stands in
    elim (in_block (block_place op marked) op m is.offset j placed) [
      | inl bars ↦ bar_needs_none op r j bars.0 needs.1
      | inr rest ↦ elim rest [
        | inr bars ↦ bar_needs_none op r j bars.0 needs.1
        | inl plain ↦ (
            let among = needed (block_place op marked) op m.instr r within (finds op) (subst (NeedsGuard op r) plain.0 needs.1) in
            let validated : run (guard_after r) (take is.offset (block_in op marked m)) is.before ≡ Validated =
            ap (λ z. run (guard_after r) z is.before) plain.1 ∙ barrier_validates r m.before (to_guard op m.instr) is.before among in
            other (sym validated ∙ sym is.comes ∙ needs.2.2))
      ]
    ]

validated_not_free : Validated ≡ Free → ⊥
validated_not_free is = cc

validated_not_published : Validated ≡ Published → ⊥
validated_not_published is = cc

validated_not_dropped : Validated ≡ Dropped → ⊥
validated_not_dropped is = cc

-- an instruction that exchanges something is an auxiliary exchange of it or a commit
exchanged_how : (r : Reg) (i : Instr) → IsAmong r (exchanged i) → IsTrue (exchanges r i) ⊎ IsTrue (is_commit i)
exchanged_how r (instr.Cas entry l) is = inl is
exchanged_how r (instr.Commit entries) is = inr refl
exchanged_how r _ is = cc

guarded_how : (op : Op) (r : Reg) (i : Instr) → IsAmong r (to_guard op i) → IsTrue (exchanges r i) ⊎ IsTrue (is_commit i)
guarded_how op r i is =
    elim (among_either r (filter holds_reference (exchanged i)) (kept_at op i) (once_among r (filter holds_reference (exchanged i) ++ kept_at op i) is)) [
      | inl exchange ↦ exchanged_how r i (filtered_among holds_reference r (exchanged i) exchange)
      | inr kept ↦ inr (by_bool (is_commit i) kept)
    ]
  where
    by_bool : (b : Bool) → IsAmong r (if b then filter (keeps op) all_references else []) → IsTrue b
    by_bool true found = refl
    by_bool false found = cc

-- a guard in a block is of a register that the block has to guard
in_guards : (r : Reg) (rs : List Reg) (k : ℕ) (j : TargetInstr) → slice_get (map Guard rs ++ (Check ∷ [])) k ≡ Some j → IsTrue (guards r j) → IsAmong r rs
in_guards r [] zero j is guarding = let no : IsTrue false = subst (λ z. IsTrue (guards r z)) (sym (same_Some Check j is)) guarding in cc
in_guards r [] (suc k) j is guarding = cc
in_guards r (a ∷ rs) zero j is guarding = or_left (same_register r a) (list_any (same_register r) rs) (subst (λ z. IsTrue (guards r z)) (sym (same_Some (Guard a) j is)) guarding)
in_guards r (a ∷ rs) (suc k) j is guarding = or_right (same_register r a) (list_any (same_register r) rs) (in_guards r rs k j is guarding)

check_guards : (r : Reg) (wanted : Bool) (n : ℕ) (j : TargetInstr) → slice_get (check_if wanted) n ≡ Some j → IsTrue (guards r j) → ⊥
check_guards r true zero j stands guarding = let no : IsTrue false = subst (λ z. IsTrue (guards r z)) (sym (same_Some Check j stands)) guarding in cc
check_guards r true (suc n) j stands guarding = cc
check_guards r false n j stands guarding = cc

in_barrier : (r : Reg) (wanted : Bool) (rs : List Reg) (k : ℕ) (j : TargetInstr) → slice_get (barrier wanted rs) k ≡ Some j → IsTrue (guards r j) → IsAmong r rs
in_barrier r wanted [] k j is guarding = absurd (check_guards r wanted k j is guarding)
in_barrier r wanted (a ∷ rs) k j is guarding = in_guards r (a ∷ rs) k j is guarding

guards_among : (place : ℕ → ℕ) (op : Op) (m : Marked) (r : Reg) (k : ℕ) (j : TargetInstr) → slice_get (block place op m) k ≡ Some j → IsTrue (guards r j) → IsAmong r (to_guard op m.instr)
guards_among place op m r k j is guarding = elim (in_either (barrier m.before (to_guard op m.instr)) (Plain (redirected place m.instr) ∷ check_if m.after) k j is) [
  | inl before ↦ in_barrier r m.before (to_guard op m.instr) k j before guarding
  | inr behind ↦ absurd (plain_guards behind.0 behind.1)
]
  where
    plain_guards : (n : ℕ) → slice_get (Plain (redirected place m.instr) ∷ check_if m.after) n ≡ Some j → ⊥
    plain_guards zero stands = let no : IsTrue false = subst (λ z. IsTrue (guards r z)) (sym (same_Some (Plain (redirected place m.instr)) j stands)) guarding in cc
    plain_guards (suc n) stands = check_guards r m.after n j stands guarding

some_and : {X : Type 0} (o : Option X) (P : X → Type 0) → IsSomeAnd o P → (x : X) × (o ≡ Some x) × P x
some_and None P holds = absurd holds
some_and (Some x) P holds = (x, refl, holds)

-- no instruction of a text in normal form breaks a rule
none_broken : (text : Text) → IsNormal text → (number : ℕ) (op : Op) (wrapup : Bool) (at : ℕ) (i : Instr) (rule : Rule) → slice_get text.ops number ≡ Some op → slice_get (code_of op wrapup) at ≡ Some i
    → ¬ BreaksRule rule text op wrapup at i
none_broken text normal number op wrapup at i rule one two breaks =
    normal (record { rule = rule; op = number; wrapup = wrapup; at = at })
    (and_some (slice_get text.ops number) op (λ o. IsSomeAnd (slice_get (code_of o wrapup) at) (λ j. BreaksRule rule text o wrapup at j)) one
    (and_some (slice_get (code_of op wrapup) at) i (λ j. BreaksRule rule text op wrapup at j) two breaks))

commit_ends : (i : Instr) (at count : ℕ) → IsTrue (is_commit i) → IsTrue (has_wrong_end true i at count)
commit_ends (instr.Commit entries) at count is = refl
commit_ends _ at count is = cc

-- what a scheme owes: it marks the instructions that it is given, in their order; no check stands after what may go elsewhere;
-- and of each method it is known what may not be clean
pub record IsScheme (marks : List Instr → List Marked) : Type 0 where
  pub instrs : (code : List Instr) → map (λ m. m.instr) (marks code) ≡ code
  pub straight : (code : List Instr) → AreStraight (marks code)
  pub knows : (op : Op) (code : List Instr) → KnowsUnchecked op (marks code)

-- the instruction with a mark stands in the method
pub marked_stands : (marks : List Instr → List Marked) → IsScheme marks → (code : List Instr) (at : ℕ) (m : Marked) → slice_get (marks code) at ≡ Some m → slice_get code at ≡ Some m.instr
marked_stands marks is code at m stands =
    ap (λ z. slice_get z at) (sym (is.instrs code)) ∙ slice_get-map (λ (m : Marked). m.instr) (marks code) at ∙ ap (option_map (λ (m : Marked). m.instr)) stands

-- a wrap-up guards no kept register
pub guards_no_kept : (marks : List Instr → List Marked) → IsScheme marks → (text : Text) → IsNormal text → (number : ℕ) (op : Op) (wrapup : Bool) (at : ℕ) (j : TargetInstr) → slice_get text.ops number ≡ Some op
    → slice_get (laid_out op (marks (code_of op wrapup))) at ≡ Some j → ¬ GuardsKept op wrapup j
guards_no_kept marks is text normal number op false at j one stands guarding = let no : false ≡ true = guarding.0 in cc
guards_no_kept marks is text normal number op true at j one stands guarding =
    let r = guarding.1.0 in
    let found = piece_of (block_in op (marks op.wrapup)) (marks op.wrapup) at j stands in
    let m = found.1 in
    let there = marked_stands marks is op.wrapup found.0 m found.3 in
    let among = guards_among (block_place op (marks op.wrapup)) op m r found.2 j found.4 guarding.1.1 in
    elim (guarded_how op r m.instr among) [
      | inl exchange ↦ none_broken text normal number op true found.0 m.instr N11 one there (refl, (r, exchange, guarding.1.2))
      | inr commits ↦ none_broken text normal number op true found.0 m.instr N8 one there (commit_ends m.instr found.0 (length op.wrapup) commits)
    ]

-- no instruction of a compiled method has a flaw
pub method_is_flawless : FindsKept → (marks : List Instr → List Marked) → IsScheme marks → (text : Text) → IsWithinLimits text → IsNormal text → (number : ℕ) (op : Op) (wrapup : Bool) (at : ℕ) (j : TargetInstr) (kind : FlawKind)
    → slice_get text.ops number ≡ Some op → slice_get (laid_out op (marks (code_of op wrapup))) at ≡ Some j
    → ¬ IsFlawed kind op wrapup (laid_out op (marks (code_of op wrapup))) at j
method_is_flawless finds marks is text within normal number op wrapup at j ErasesDifferently one stands flawed = flawed
method_is_flawless finds marks is text within normal number op wrapup at j UncheckedUse one stands flawed =
    uses_checked op (marks (code_of op wrapup)) (is.straight (code_of op wrapup)) (is.knows op (code_of op wrapup)) at j stands flawed
method_is_flawless finds marks is text within normal number op wrapup at j Unguarded one stands flawed =
    needs_no_more finds op (op_within text number op within one) (marks (code_of op wrapup)) (is.straight (code_of op wrapup)) at j Free validated_not_free stands flawed
method_is_flawless finds marks is text within normal number op wrapup at j GuardAfterCheck one stands flawed =
    needs_no_more finds op (op_within text number op within one) (marks (code_of op wrapup)) (is.straight (code_of op wrapup)) at j Published validated_not_published stands flawed
method_is_flawless finds marks is text within normal number op wrapup at j GuardDropped one stands flawed = elim flawed [
  | inl more ↦ needs_no_more finds op (op_within text number op within one) (marks (code_of op wrapup)) (is.straight (code_of op wrapup)) at j Dropped validated_not_dropped stands more
  | inr kept ↦ guards_no_kept marks is text normal number op wrapup at j one stands kept
]

compiled_code : (marks : List Instr → List Marked) (op : Op) (wrapup : Bool) → target_code_of (scheme_op marks op) wrapup ≡ laid_out op (marks (code_of op wrapup))
compiled_code marks op false = refl
compiled_code marks op true = refl

-- no instruction of a compiled text has one
pub scheme_is_flawless : FindsKept → (marks : List Instr → List Marked) → IsScheme marks → (text : Text) → IsWithinLimits text → IsNormal text → IsFlawless (scheme marks text) text
scheme_is_flawless finds marks is text within normal flaw has =
    let source = some_and (slice_get text.ops flaw.op)
    (λ source. IsSomeAnd (slice_get (map (scheme_op marks) text.ops) flaw.op) (λ op. IsSomeAnd (slice_get (target_code_of op flaw.wrapup) flaw.at) (λ j. IsFlawed flaw.kind source flaw.wrapup (target_code_of op flaw.wrapup) flaw.at j)))
    has in
    let op = source.0 in
    let compiled : slice_get (map (scheme_op marks) text.ops) flaw.op ≡ Some (scheme_op marks op) = slice_get-map (scheme_op marks) text.ops flaw.op ∙ ap (option_map (scheme_op marks)) source.1 in
    let there : IsSomeAnd (slice_get (target_code_of (scheme_op marks op) flaw.wrapup) flaw.at) (λ j. IsFlawed flaw.kind op flaw.wrapup (target_code_of (scheme_op marks op) flaw.wrapup) flaw.at j) =
    subst (λ o. IsSomeAnd o (λ (t : TargetOp). IsSomeAnd (slice_get (target_code_of t flaw.wrapup) flaw.at) (λ j. IsFlawed flaw.kind op flaw.wrapup (target_code_of t flaw.wrapup) flaw.at j))) compiled source.2 in
    let here : IsSomeAnd (slice_get (laid_out op (marks (code_of op flaw.wrapup))) flaw.at) (λ j. IsFlawed flaw.kind op flaw.wrapup (laid_out op (marks (code_of op flaw.wrapup))) flaw.at j) =
    subst (λ code. IsSomeAnd (slice_get code flaw.at) (λ j. IsFlawed flaw.kind op flaw.wrapup code flaw.at j)) (compiled_code marks op flaw.wrapup) there in
    let found = some_and (slice_get (laid_out op (marks (code_of op flaw.wrapup))) flaw.at) (λ j. IsFlawed flaw.kind op flaw.wrapup (laid_out op (marks (code_of op flaw.wrapup))) flaw.at j) here in
    method_is_flawless finds marks is text within normal flaw.op op flaw.wrapup flaw.at found.0 flaw.kind source.1 found.1 found.2
