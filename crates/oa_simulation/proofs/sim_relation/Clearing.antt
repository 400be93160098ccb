-- Guards are cleared from the least on, and what follows if none is left.
use Rattle.std.proofs.Common.{ℕ, zero, suc, ◌≡◌, ◌==◌, ◌+◌, ◌≤◌, ◌<◌, ◌⊎◌, ◌∙◌, ◌&&◌, not, Bool, true, false, List, [], ◌∷◌, length, Some, None, arith, inl, inr, sym, ap, refl, if◌then◌else◌}
use Rattle.std.specs.Prelude.{slice_get, unwrap_or}
use Rattle.std.proofs.lemmas.Bool.Decides.{nat_tests}
use Rattle.norm_lang.specs.declared.text.Reg.TheVariants.{Ref}
use Rattle.target_code.specs.declared.target.TargetOp.{TargetOp}
use Rattle.target_code.specs.Erasing.{erased_op}
use Rattle.target_code.specs.Keeping.{keeps}
use Rattle.guard_words.specs.Guards.{Guards, guard_at, least_from, is_spared, is_to_clear, next_to_clear}
use Rattle.caller_parts.specs.Spared.{kept_by, none_spared}
use Rattle.guard_words.proofs.Rows.{guards_follow}

pub least_some : (test : ℕ → Bool) (r n k : ℕ) → least_from test r n ≡ Some k → (test k ≡ true) × (k < r + n)
least_some test r zero k is = absurd (let z : None ≡ Some k = is in cc)
least_some test r (suc n) k is = of (test r) refl is (λ e. least_some test (r + 1) n k e) where
  of : (b : Bool) → test r ≡ b → (if b then Some r else least_from test (r + 1) n) ≡ Some k → (least_from test (r + 1) n ≡ Some k → (test k ≡ true) × (k < r + 1 + n)) → (test k ≡ true) × (k < r + suc n)
  of true here e more = let same : r ≡ k = (let z : Some r ≡ Some k = e in cc) in (ap test (sym same) ∙ here, omega (arith, same))
  of false here e more = let p = more e in (p.0, omega (arith, p.1))

pub past_end : (xs : List ℕ) (r : ℕ) → length xs ≤ r → unwrap_or (slice_get xs r) 0 ≡ 0
past_end [] r le = refl
past_end (x ∷ xs) zero le = absurd (omega (arith, le))
past_end (x ∷ xs) (suc r) le = past_end xs r (omega (arith, le))

-- if none is left, each guard that isn't left out is 0
pub clear_none : (guards : Guards) (out : List Bool) → next_to_clear guards out ≡ None → (r : ℕ) → is_spared out r ≡ false → guard_at guards r ≡ 0
clear_none guards out is r free = zero_of (guard_at guards r) (is_spared out r) free (guards_follow.next_none guards out is r) where
  zero_of : (n : ℕ) (b : Bool) → b ≡ false → (not (n == 0) && not b) ≡ false → n ≡ 0
  zero_of n true free fails = absurd (let z : true ≡ false = free in cc)
  zero_of n false free fails = grind (arith, nat_tests)

-- the next to clear isn't left out
pub clear_some : (guards : Guards) (out : List Bool) (r : ℕ) → next_to_clear guards out ≡ Some r → (is_spared out r ≡ false) × (r < length guards.slots)
clear_some guards out r is =
    let found = least_some (is_to_clear guards.slots out) 0 (length guards.slots) r is in
    (free_of (not (guard_at guards r == 0)) (is_spared out r) found.0, omega (arith, found.1))
  where
    free_of : (a b : Bool) → (a && not b) ≡ true → b ≡ false
    free_of a false is = refl
    free_of true true is = absurd (let z : false ≡ true = is in cc)
    free_of false true is = absurd (let z : false ≡ true = is in cc)

-- the registers that are left out, by number
pub kept_bit : (op : TargetOp) (r : ℕ) → (is_spared (kept_by (Some op)) r ≡ keeps (erased_op op) (Ref r)) ⊎ ((is_spared (kept_by (Some op)) r ≡ false) × (8 ≤ r))
kept_bit op zero = inl refl
kept_bit op (suc zero) = inl refl
kept_bit op (suc (suc zero)) = inl refl
kept_bit op (suc (suc (suc zero))) = inl refl
kept_bit op (suc (suc (suc (suc zero)))) = inl refl
kept_bit op (suc (suc (suc (suc (suc zero))))) = inl refl
kept_bit op (suc (suc (suc (suc (suc (suc zero)))))) = inl refl
kept_bit op (suc (suc (suc (suc (suc (suc (suc zero))))))) = inl refl
kept_bit op (suc (suc (suc (suc (suc (suc (suc (suc r)))))))) = inr (refl, omega arith)

none_bit : (r : ℕ) → is_spared none_spared r ≡ false
none_bit zero = refl
none_bit (suc zero) = refl
none_bit (suc (suc zero)) = refl
none_bit (suc (suc (suc zero))) = refl
none_bit (suc (suc (suc (suc zero)))) = refl
none_bit (suc (suc (suc (suc (suc zero))))) = refl
none_bit (suc (suc (suc (suc (suc (suc zero)))))) = refl
none_bit (suc (suc (suc (suc (suc (suc (suc zero))))))) = refl
none_bit (suc (suc (suc (suc (suc (suc (suc (suc r)))))))) = refl

pub none_out : (guards : Guards) → next_to_clear guards none_spared ≡ None → (r : ℕ) → guard_at guards r ≡ 0
none_out guards is r = clear_none guards none_spared is r (none_bit r)
