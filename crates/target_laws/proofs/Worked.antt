-- Erasing by places, paths and trust worked out by hand.
--
-- A path is given by its places, the latest first, with a step of it for each place.
use Rattle.std.specs.Prelude.{◌≡◌, ℕ, true, false, List, [], ◌∷◌, length, None, codes, nat_lt, slice_get, refl}
use Rattle.std.proofs.Common.{inr}
use Rattle.std.proofs.lemmas.Bool.{ltb-true}
use Rattle.norm_lang.specs.declared.text.Reg.TheVariants.{Num, Ref}
use Rattle.norm_lang.specs.declared.text.FieldKind.TheVariants as holdings
use Rattle.norm_lang.specs.declared.text.Start.TheVariants as starts
use Rattle.norm_lang.specs.declared.text.Place.TheVariants as places
use Rattle.norm_lang.specs.declared.text.CasEntry.{CasEntry}
use Rattle.norm_lang.specs.declared.text.Instr.{Instr}
use Rattle.norm_lang.specs.declared.text.Instr.TheVariants.{LoadRoot, New, Cas, IfMarked, Commit, ReturnNone}
use Rattle.norm_lang.specs.LineWords.{item_kind}
use Rattle.norm_lang.specs.Flow.{IsSuccessor, IsPath, IsCycle, goes_from}
use Rattle.target_code.specs.declared.target.TargetInstr.{TargetInstr}
use Rattle.target_code.specs.declared.target.TargetInstr.TheVariants.{Plain, Check, Guard}
use Rattle.target_code.specs.declared.target.TargetOp.{TargetOp}
use Rattle.target_code.specs.declared.target.Target.{Target}
use Rattle.target_code.specs.Barred.{Unguarded, HasFlaw}
use Rattle.target_code.specs.Erasing.{source_place, erased_code, erased}
use Rattle.target_code.specs.Flaws.{Published, Validated}
use Rattle.target_code.specs.Keeping.{carries}
use Rattle.target_code.specs.Paths.{IsTargetSuccessor, TargetPath, target_goes_from}
use Rattle.target_laws.specs.Methods.{Method}
use Rattle.target_laws.specs.Places.{source_path, IsTargetCycle}
use Rattle.target_code.specs.PathStates.{is_set_along, is_fresh_along}
use Rattle.target_laws.specs.Trusted.{Trusted, Unchecked, Spoilt, trust_along}
use Rattle.target_laws.specs.Uses.{is_clean_along, guard_along}

-- a step of a target, and of a text
step : (code : List TargetInstr) (at to : ℕ) → target_goes_from (slice_get code at) at to ≡ true → nat_lt to (length code) ≡ true → IsTargetSuccessor code at to
step code at to goes there = (goes, ltb-true to (length code) there)

source_step : (code : List Instr) (at to : ℕ) → goes_from (slice_get code at) at to ≡ true → nat_lt to (length code) ≡ true → IsSuccessor code at to
source_step code at to goes there = (goes, ltb-true to (length code) there)

-- ---- a jump into the middle of a block

-- r0 is exchanged for itself; if that fails, the exchange is tried again, from the check in the middle of its block on
abbrev swap : CasEntry
swap = record { place = places.Root 0; expected = Ref 0; replacement = Ref 0; retire = None }

abbrev again : List TargetInstr
again =
    Plain (LoadRoot (Ref 0) 0)
    ∷ Check
    ∷ Guard (Ref 0)
    ∷ Check
    ∷ Plain (Cas swap 3)
    ∷ Plain (Commit [])
    ∷ []

abbrev again_left : List Instr
again_left = LoadRoot (Ref 0) 0 ∷ Cas swap 1 ∷ Commit [] ∷ []

-- the jump is one to the exchange itself, whose source place its guard and its check have too
again_erases : erased_code again ≡ again_left
again_erases = refl

guard_place : source_place again 2 ≡ 1
guard_place = refl

check_place : source_place again 3 ≡ 1
check_place = refl

exchange_place : source_place again 4 ≡ 1
exchange_place = refl

commit_place : source_place again 5 ≡ 2
commit_place = refl

-- a path through the jump to the check, and the text's along it: the exchange stands on it once
abbrev jumped : List ℕ
jumped = 4 ∷ 3 ∷ 2 ∷ 1 ∷ 0 ∷ []

jumped_leads : TargetPath again jumped 3
jumped_leads =
    (step again 4 3 refl refl, (step again 3 4 refl refl, (step again 2 3 refl refl, (step again 1 2 refl refl, (step again 0 1 refl refl, refl)))))

jumped_in_text : source_path again jumped ≡ 1 ∷ 0 ∷ []
jumped_in_text = refl

jumped_leads_in_text : IsPath again_left (1 ∷ 0 ∷ []) 1
jumped_leads_in_text = (source_step again_left 1 1 refl refl, (source_step again_left 0 1 refl refl, refl))

-- the target goes round by the check, and the text by the exchange alone
goes_round : IsTargetCycle again (4 ∷ 3 ∷ []) 3
goes_round = (step again 4 3 refl refl, (step again 3 4 refl refl, refl))

round_in_text : source_path again (4 ∷ 3 ∷ []) ≡ 1 ∷ []
round_in_text = refl

goes_round_in_text : IsCycle again_left (1 ∷ []) 1
goes_round_in_text = (source_step again_left 1 1 refl refl, refl)

-- along it r0 is under a validated guard at the exchange, the first time and the next
guarded_first : guard_along again (3 ∷ 2 ∷ 1 ∷ 0 ∷ []) (Ref 0) ≡ Validated
guarded_first = refl

guarded_next : guard_along again (3 ∷ jumped) (Ref 0) ≡ Validated
guarded_next = refl

-- but not between its guard and the check
guarded_late : guard_along again (2 ∷ 1 ∷ 0 ∷ []) (Ref 0) ≡ Published
guarded_late = refl

-- ---- what is set and fresh

abbrev makes : List TargetInstr
makes = Plain (New (Ref 1) 0) ∷ Check ∷ Plain (LoadRoot (Ref 0) 0) ∷ Check ∷ Plain (Commit []) ∷ []

fresh_past_check : is_fresh_along makes (3 ∷ 2 ∷ 1 ∷ 0 ∷ []) (Ref 1) ≡ true
fresh_past_check = refl

loaded_is_not_fresh : is_fresh_along makes (3 ∷ 2 ∷ 1 ∷ 0 ∷ []) (Ref 0) ≡ false
loaded_is_not_fresh = refl

unset_before : is_set_along makes (1 ∷ 0 ∷ []) (Ref 0) false ≡ false
unset_before = refl

-- ---- clean, and not to be trusted

-- x: one operation over a root of references
abbrev x : List TargetInstr → List TargetInstr → TargetOp
x generator wrapup = record { name = codes "x"; args = 0; generator = generator; wrapup = wrapup }

abbrev row : List TargetInstr → List TargetInstr → Target
row generator wrapup = record {
  kinds = item_kind ∷ [];
  fields = record { owner = 0; name = codes "next"; kind = holdings.Reference 0 } ∷ [];
  roots = record { name = codes "h"; kind = holdings.Reference 0; start = starts.Node 0 } ∷ [];
  nodes = [];
  ops = x generator wrapup ∷ [];
}

-- the generator loads r0 and commits without a check of it
abbrev leaves : List TargetInstr
leaves = Plain (LoadRoot (Ref 0) 0) ∷ Plain (Commit []) ∷ []

-- the wrap-up loads r1, checks, and reads neither
abbrev looks_on : List TargetInstr
looks_on = Plain (LoadRoot (Ref 1) 0) ∷ Check ∷ Plain ReturnNone ∷ []

-- its wrap-up
abbrev wrapping : Method (row leaves looks_on) (erased (row leaves looks_on))
wrapping = record {
  number = 0;
  wrapup = true;
  op = record { name = codes "x"; args = 0; generator = erased_code leaves; wrapup = erased_code looks_on };
  compiled = x leaves looks_on;
  in_text = refl;
  in_target = refl;
}

-- r0 isn't clean at the commit
unclean_at_commit : is_clean_along leaves (0 ∷ []) (Ref 0) ≡ false
unclean_at_commit = refl

-- the fold of the flaws says clean of it where the wrap-up begins, and on; the wrap-up doesn't carry it over, so it can't be trusted
clean_at_start : is_clean_along looks_on [] (Ref 0) ≡ true
clean_at_start = refl

clean_past_check : is_clean_along looks_on (1 ∷ 0 ∷ []) (Ref 0) ≡ true
clean_past_check = refl

not_carried : carries wrapping.op (Ref 0) ≡ false
not_carried = refl

spoilt_at_start : trust_along wrapping [] (Ref 0) ≡ Spoilt
spoilt_at_start = refl

-- and the wrap-up's check, which confirms r1, doesn't confirm it
spoilt_past_check : trust_along wrapping (1 ∷ 0 ∷ []) (Ref 0) ≡ Spoilt
spoilt_past_check = refl

unchecked_before : trust_along wrapping (0 ∷ []) (Ref 1) ≡ Unchecked
unchecked_before = refl

trusted_past_check : trust_along wrapping (1 ∷ 0 ∷ []) (Ref 1) ≡ Trusted
trusted_past_check = refl

-- n7 will be the count
count_trusted : trust_along wrapping [] (Num 7) ≡ Trusted
count_trusted = refl

-- a wrap-up that reads r0 has it carried over, and then the commit has a flaw
abbrev reads_on : List TargetInstr
reads_on = Plain (IfMarked (Ref 0) 1) ∷ Plain ReturnNone ∷ []

read_is_refused : HasFlaw (row leaves reads_on) (erased (row leaves reads_on)) (record { kind = Unguarded; op = 0; wrapup = false; at = 1 })
read_is_refused = (Ref 0, inr (refl, (refl, (0, refl, ([], refl, refl)))), (0 ∷ [], (step leaves 0 1 refl refl, refl), refl))
