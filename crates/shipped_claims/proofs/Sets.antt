-- The sets: only `insert` has a `new`, and no wrap-up begins again after an exchange has succeeded.
use Rattle.std.proofs.Common.{◌≡◌, ℕ, zero, suc, true, [], ◌∷◌, refl, sym, subst, if◌then◌else◌}
use Rattle.std.specs.Prelude.{slice_get, codes}
use Rattle.norm_lang.specs.declared.text.Reg.TheVariants.{Num}
use Rattle.norm_lang.specs.declared.text.Instr.TheVariants as instr
use Rattle.norm_lang.specs.declared.registers.Registers.{Registers}
use Rattle.norm_lang.specs.Shipped.{set_text}
use Rattle.target_code.specs.declared.target.TargetInstr.TheVariants.{Plain}
use Rattle.target_code.specs.declared.target.Target.{Target}
use Rattle.target_code.specs.Bare.{bare}
use Rattle.target_code.specs.SecondScheme.{second_scheme}
use Rattle.caller_parts.specs.Operands.{code_at}
use Rattle.claim_laws.specs.Publishing.{news_of}
use Rattle.shipped_claims.specs.NeverFull.{has_name}
use Rattle.shipped_claims.proofs.Settled.{CodeCarries, Begins}
use Rattle.shipped_claims.proofs.WrapUps.{change_code, ChangeHolds, change_carries, AnswerHolds, answer_carries, nothing_carries}

module _ (buckets : ℕ) where
  abbrev set_target : Target
  set_target = second_scheme (set_text buckets)

  -- ---- what each operation has

  pub set_news : (op : ℕ) → news_of (slice_get set_target.ops op) ≡ (if has_name (codes "insert") (slice_get set_target.ops op) then 1 else 0)
  set_news (suc (suc zero)) = refl
  set_news _ = refl

  -- ---- their wrap-ups

  insert_code : code_at set_target 0 true ≡ change_code (instr.Return (Num 2)) (instr.Return (Num 3))
  insert_code = refl

  remove_code : code_at set_target 1 true ≡ change_code (instr.Return (Num 2)) (instr.Return (Num 3))
  remove_code = refl

  contains_code : code_at set_target 2 true ≡ Plain (instr.Return (Num 2)) ∷ []
  contains_code = refl

  abbrev pub SetHolds : ℕ → ℕ → Registers → Type 0
  SetHolds zero = ChangeHolds
  SetHolds (suc zero) = ChangeHolds
  SetHolds (suc (suc op)) = AnswerHolds

  pub set_begins : (op : ℕ) → Begins (SetHolds op)
  set_begins (suc (suc op)) registers some = tt
  set_begins _ registers some = some

  changes : CodeCarries ChangeHolds (change_code (instr.Return (Num 2)) (instr.Return (Num 3)))
  changes = change_carries (instr.Return (Num 2)) (instr.Return (Num 3)) (λ registers next is. absurd cc) (λ registers next is. absurd cc)

  pub set_carries : (op : ℕ) → CodeCarries (SetHolds op) (code_at set_target op true)
  set_carries zero = subst (CodeCarries ChangeHolds) (sym insert_code) changes
  set_carries (suc zero) = subst (CodeCarries ChangeHolds) (sym remove_code) changes
  set_carries (suc (suc zero)) = subst (CodeCarries AnswerHolds) (sym contains_code) answer_carries
  set_carries (suc (suc (suc op))) = nothing_carries

  -- ---- the text as it is

  abbrev bare_set : Target
  bare_set = bare (set_text buckets)

  pub bare_set_news : (op : ℕ) → news_of (slice_get bare_set.ops op) ≡ (if has_name (codes "insert") (slice_get bare_set.ops op) then 1 else 0)
  bare_set_news (suc (suc zero)) = refl
  bare_set_news _ = refl

  bare_insert_code : code_at bare_set 0 true ≡ change_code (instr.Return (Num 2)) (instr.Return (Num 3))
  bare_insert_code = refl

  bare_remove_code : code_at bare_set 1 true ≡ change_code (instr.Return (Num 2)) (instr.Return (Num 3))
  bare_remove_code = refl

  bare_contains_code : code_at bare_set 2 true ≡ Plain (instr.Return (Num 2)) ∷ []
  bare_contains_code = refl

  pub bare_set_carries : (op : ℕ) → CodeCarries (SetHolds op) (code_at bare_set op true)
  bare_set_carries zero = subst (CodeCarries ChangeHolds) (sym bare_insert_code) changes
  bare_set_carries (suc zero) = subst (CodeCarries ChangeHolds) (sym bare_remove_code) changes
  bare_set_carries (suc (suc zero)) = subst (CodeCarries AnswerHolds) (sym bare_contains_code) answer_carries
  bare_set_carries (suc (suc (suc op))) = nothing_carries
