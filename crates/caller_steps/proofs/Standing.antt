-- A caller that stands at an access of its method.
use Rattle.std.proofs.Common.{◌≡◌, ℕ, zero, suc, true, false, List, Option, Some, None, refl, ap}
use Rattle.std.specs.Prelude.{slice_get}
use Rattle.norm_lang.specs.declared.registers.Registers.{Registers}
use Rattle.norm_lang.specs.Local.{Spot}
use Rattle.target_code.specs.declared.target.TargetInstr.{TargetInstr}
use Rattle.target_code.specs.declared.target.TargetInstr.TheVariants.{Plain}
use Rattle.target_code.specs.declared.target.Target.{Target}
use Rattle.target_code.specs.LocalCode.{target_local_at, target_run}
use Rattle.oa_words.specs.Words.{Sizes}
use Rattle.caller_parts.specs.declared.routine.Routine.{Routine}
use Rattle.caller_parts.specs.declared.routine.Routine.TheVariants.{At}
use Rattle.caller_parts.specs.Settings.{Setting}
use Rattle.caller_parts.specs.declared.setting.Reclamation.{Reclamation}
use Rattle.caller_parts.specs.declared.setting.Reclamation.TheVariants.{Optimistic, Epochs}
use Rattle.norm_lang.specs.declared.text.Instr.{Instr}
use Rattle.norm_lang.specs.declared.text.Instr.TheVariants as instr
use Rattle.caller_steps.specs.Entries.{Entry, instr_in}
use Rattle.caller_steps.specs.Stands.{is_stop, leaves}
use Rattle.caller_steps.specs.Wants.{wants, wanted, instr_wanted}
use Rattle.caller_steps.specs.After.{after, accepted, counted, instr_accepted, stop_at, stops, with_routine}

-- what it wants
pub wants_at : (target : Target) (e : Entry) → e.routine ≡ At → wants target e ≡ instr_wanted target.fields e.number (instr_in target e) e.hand.registers
unfolding wants
wants_at target e is = ap (λ (r : Routine). wanted target e r) is

-- and what becomes of it
pub after_at : (target : Target) (setting : Setting) (e : Entry) (word : ℕ) → e.routine ≡ At
    → after target setting e word ≡ (instr_accepted setting.reclamation target setting.sizes (instr_in target e) word (counted e)).entry
unfolding after
after_at target setting e word is = ap (λ (r : Routine). (accepted setting.reclamation target setting word (counted e) r).entry) is

-- no local code runs at a check or a guard
not_local : (o : Option TargetInstr) (at : ℕ) (registers : Registers) → is_stop o ≡ true → target_local_at o at registers ≡ None
not_local (Some (Plain i)) at registers stop = absurd (let no : false ≡ true = stop in cc)
not_local _ at registers stop = refl

stays : (code : List TargetInstr) (n : ℕ) (spot : Spot) → is_stop (slice_get code spot.at) ≡ true → target_run code n spot ≡ spot
stays code zero spot stop = refl
stays code (suc n) spot stop = rw (not_local (slice_get code spot.at) spot.at spot.registers stop) refl

stops_at : (by : Reclamation) (target : Target) (sizes : Sizes) (o : Option TargetInstr) (e : Entry) → is_stop o ≡ true → (stops by target sizes o e).entry ≡ with_routine e At
stops_at by target sizes (Some (Plain i)) e stop = absurd (let no : false ≡ true = stop in cc)
stops_at by target sizes _ e stop = refl

-- nor does a caller go on to something else at an access or local code
pub stands_there : (by : Reclamation) (target : Target) (sizes : Sizes) (i : Instr) (e : Entry) → leaves i ≡ false → (stop_at by target sizes i e).entry ≡ with_routine e At
stands_there by target sizes (instr.New d kind) e h = absurd (let wrong : true ≡ false = h in cc)
stands_there by target sizes (instr.Commit exchanges) e h = absurd (let wrong : true ≡ false = h in cc)
stands_there by target sizes (instr.Return a) e h = absurd (let wrong : true ≡ false = h in cc)
stands_there by target sizes instr.ReturnNone e h = absurd (let wrong : true ≡ false = h in cc)
stands_there by target sizes instr.Again e h = absurd (let wrong : true ≡ false = h in cc)
stands_there Optimistic target sizes _ e h = refl
stands_there Epochs target sizes _ e h = refl
