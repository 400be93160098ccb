-- The rows of BegunRows: the state is computed, and its one entry, or two, looked at.
use Rattle.std.proofs.Common.{◌≡◌, ℕ, zero, suc, Bool, true, false, List, [], ◌∷◌, Option, Some, None, refl, sym, ◌∙◌, ap, subst}
use Rattle.std.proofs.lemmas.Bool.{false≢true}
use Rattle.std.specs.Prelude.{slice_get, is_some}
use Rattle.std.specs.Option.{unwrap_or}
use Rattle.norm_lang.specs.Shipped.{set_text}
use Rattle.norm_lang.specs.declared.text.Reg.{Reg}
use Rattle.norm_lang.specs.declared.text.Reg.TheVariants.{Ref}
use Rattle.norm_lang.specs.declared.text.Instr.TheVariants as instr
use Rattle.target_code.specs.declared.target.TargetInstr.TheVariants.{Plain}
use Rattle.caller_parts.specs.declared.call.Call.{Call}
use Rattle.caller_parts.specs.declared.routine.Routine.{Routine}
use Rattle.caller_parts.specs.declared.routine.Routine.TheVariants.{At}
use Rattle.caller_parts.specs.Operands.{slot_in}
use Rattle.caller_parts.specs.Settings.{Setting}
use Rattle.caller_steps.specs.Entries.{Entry, idle_entry, is_idle, instr_in}
use Rattle.caller_steps.specs.Wants.{wants}
use Rattle.caller_steps.specs.After.{after, signs}
use Rattle.core_runs.specs.Machine.{CoreEvent}
use Rattle.core_rows.specs.Short.{call_of}
use Rattle.core_rows.specs.SmallTexts.{counter_text}
use Rattle.core_rows.specs.Stories.{calls}
use Rattle.oa_simulation.specs.Present.{IsResident, present_in}
use Rattle.oa_simulation.specs.Shadow.{image, shadow, home_of}
use Rattle.run_laws.specs.begin_laws.Begins.{begun_in}
use Rattle.epoch_relation.specs.Simulated.{source_name}
use Rattle.epoch_runs.specs.Begins.{BeginsScript}
use Rattle.epoch_rows.specs.EpochStories.{list_code}
use Rattle.epoch_rows.specs.HeldRows.{held_setting, begun}
use Rattle.epoch_rows.specs.BegunRows.{counter_code, counter_setting, state_after, Begins, BegunRows, unannounced_setting, eight_near, eight_begun, HaveBases, BaseRows}

-- its one entry
own : ℕ → Entry
own steps = unwrap_or (slice_get (state_after counter_code counter_setting (calls 0 (call_of 0 5) steps)).entries 0) (idle_entry 0)

abbrev seen : ℕ → List Call
seen steps = begun_in 0 (image counter_code counter_text counter_setting (calls 0 (call_of 0 5) steps))

abbrev Own : List Call → ℕ → ℕ → Entry → Type 0
Own script fuel steps e = BeginsScript (is_idle e.routine) script fuel e (seen steps)

some_is : {A : Type 0} {x y : A} → Some x ≡ Some y → x ≡ y
some_is is = cc

none_is : {A : Type 0} {y : A} → None ≡ Some y → ⊥
none_is is = cc

one_step : Begins (call_of 0 5 ∷ []) 1 1
unfolding wants after signs
one_step zero e got = subst (λ (x : Entry). Own (call_of 0 5 ∷ []) 1 1 x) (some_is got) refl
one_step (suc c) e got = absurd (none_is got)

two_steps : Begins (call_of 0 5 ∷ []) 2 2
unfolding wants after signs
two_steps zero e got = subst (λ (x : Entry). Own (call_of 0 5 ∷ []) 2 2 x) (some_is got) refl
two_steps (suc c) e got = absurd (none_is got)

ended : Begins (call_of 0 5 ∷ []) 5 5
unfolding wants after signs
ended zero e got = subst (λ (x : Entry). Own (call_of 0 5 ∷ []) 5 5 x) (some_is got) refl
ended (suc c) e got = absurd (none_is got)

not_by_two : Begins (call_of 0 5 ∷ []) 1 2 → ⊥
unfolding wants after signs own
not_by_two all = let no : call_of 0 5 ∷ [] ≡ [] = all 0 (own 2) refl in cc

not_by_one : Begins (call_of 0 5 ∷ []) 2 1 → ⊥
unfolding wants after signs own
not_by_one all = let no : [] ≡ call_of 0 5 ∷ [] = all 0 (own 1) refl in cc

not_another : Begins (call_of 0 5 ∷ call_of 1 0 ∷ []) 5 5 → ⊥
unfolding wants after signs own
not_another all = let no : call_of 0 5 ∷ [] ≡ call_of 0 5 ∷ call_of 1 0 ∷ [] = all 0 (own 5) refl in cc

not_without : Begins [] 5 5 → ⊥
unfolding wants after signs own
not_without all = let no : call_of 0 5 ∷ [] ≡ [] = all 0 (own 5) refl in cc

pub begun_rows : BegunRows
begun_rows = record {
  one_step = one_step;
  two_steps = two_steps;
  not_by_two = not_by_two;
  not_by_one = not_by_one;
  ended = ended;
  not_another = not_another;
  not_without = not_without;
}

-- what is asked of a load of a register
abbrev From : Setting → List CoreEvent → ℕ → Entry → Reg → Type 0
From setting events c e a =
    (slot_in e.hand.registers a ≡ home_of list_code (set_text 1) setting events (source_name (set_text 1) (shadow list_code (set_text 1) setting events).machine c a))
    × IsResident list_code (set_text 1) setting events (source_name (set_text 1) (shadow list_code (set_text 1) setting events).machine c a)

abbrev Loads : Setting → List CoreEvent → ℕ → Entry → Type 0
Loads setting events c e = (d a : Reg) (f : ℕ) → e.routine ≡ At → instr_in list_code e ≡ Some (Plain (instr.LoadField d a f)) → From setting events c e a

register : {d d' a a' : Reg} {f f' : ℕ} → Some (Plain (instr.LoadField d a f)) ≡ Some (Plain (instr.LoadField d' a' f')) → a ≡ a'
register is = cc

abbrev is_at : Routine → Bool
is_at At = true
is_at _ = false

-- the entry of a caller after events
entry_of : Setting → List CoreEvent → ℕ → Entry
entry_of setting events c = unwrap_or (slice_get (state_after list_code setting events).entries c) (idle_entry c)

of_sentinel : From held_setting begun 1 (entry_of held_setting begun 1) (Ref 0)
unfolding wants after signs entry_of
of_sentinel = (refl, refl)

of_second : Loads held_setting begun 1 (entry_of held_setting begun 1)
unfolding wants after signs entry_of
of_second d a f at is = subst (λ (x : Reg). From held_setting begun 1 (entry_of held_setting begun 1) x) (register is) of_sentinel

of_first : Loads held_setting begun 0 (entry_of held_setting begun 0)
unfolding wants after signs entry_of
of_first d a f at is = absurd (false≢true (ap is_at at))

sentinel : HaveBases held_setting begun begun
unfolding wants after signs entry_of
sentinel zero e d a f got at is = subst (λ (x : Entry). Loads held_setting begun 0 x) (some_is got) of_first d a f at is
sentinel (suc zero) e d a f got at is = subst (λ (x : Entry). Loads held_setting begun 1 x) (some_is got) of_second d a f at is
sentinel (suc (suc c)) e d a f got at is = absurd (none_is got)

-- an entry that is there is that which is looked for
there : (o : Option Entry) (other : Entry) → is_some o ≡ true → o ≡ Some (unwrap_or o other)
there None other is = absurd (false≢true is)
there (Some e) other is = refl

one_is_none : suc zero ≡ zero → ⊥
one_is_none is = cc

none_is_two : zero ≡ suc (suc zero) → ⊥
none_is_two is = cc

not_untold : HaveBases held_setting [] begun → ⊥
unfolding wants after signs entry_of
not_untold all = one_is_none (all 1 (entry_of held_setting begun 1) (Ref 1) (Ref 0) 1 refl refl refl).0

-- ---- a slot that is ready again. Each part is computed apart

reader : Entry
reader = entry_of unannounced_setting eight_begun 1

name : ℕ
name = source_name (set_text 1) (shadow list_code (set_text 1) unannounced_setting eight_begun).machine 1 (Ref 1)

is_there : is_some (slice_get (state_after list_code unannounced_setting eight_begun).entries 1) ≡ true
unfolding wants after signs
is_there = refl

stands_at : reader.routine ≡ At
unfolding wants after signs entry_of reader
stands_at = refl

loads_next : instr_in list_code reader ≡ Some (Plain (instr.LoadField (Ref 2) (Ref 1) 1))
unfolding wants after signs entry_of reader
loads_next = refl

is_second : name ≡ suc (suc zero)
unfolding wants after signs name
is_second = refl

is_gone : present_in list_code (set_text 1) unannounced_setting eight_begun (home_of list_code (set_text 1) unannounced_setting eight_begun name) ≡ zero
unfolding wants after signs name
is_gone = refl

is_reader : slice_get (state_after list_code unannounced_setting eight_begun).entries 1 ≡ Some reader
unfolding entry_of reader
is_reader = there (slice_get (state_after list_code unannounced_setting eight_begun).entries 1) (idle_entry 1) is_there

resident_of : HaveBases unannounced_setting eight_begun eight_begun → IsResident list_code (set_text 1) unannounced_setting eight_begun name
unfolding name
resident_of all = (all 1 reader (Ref 2) (Ref 1) 1 is_reader stands_at loads_next).1

not_recycled : HaveBases unannounced_setting eight_begun eight_begun → ⊥
not_recycled all = none_is_two (sym is_gone ∙ (resident_of all ∙ is_second))

-- ---- one step before, it is only retired

still : Entry
still = entry_of unannounced_setting eight_near 1

its_name : ℕ
its_name = source_name (set_text 1) (shadow list_code (set_text 1) unannounced_setting eight_near).machine 1 (Ref 1)

still_loads : instr_in list_code still ≡ Some (Plain (instr.LoadField (Ref 2) (Ref 1) 1))
unfolding wants after signs entry_of still
still_loads = refl

its_slot : slot_in still.hand.registers (Ref 1) ≡ suc (suc zero)
unfolding wants after signs entry_of still
its_slot = refl

its_number : its_name ≡ suc (suc zero)
unfolding wants after signs its_name
its_number = refl

its_home : home_of list_code (set_text 1) unannounced_setting eight_near its_name ≡ suc (suc zero)
unfolding wants after signs its_name
its_home = refl

is_present : present_in list_code (set_text 1) unannounced_setting eight_near (home_of list_code (set_text 1) unannounced_setting eight_near its_name) ≡ suc (suc zero)
unfolding wants after signs its_name
is_present = refl

of_five : From unannounced_setting eight_near 1 still (Ref 1)
unfolding its_name
of_five = (its_slot ∙ sym its_home, is_present ∙ sym its_number)

-- whether an entry stands at an instruction
abbrev at_of : Option Entry → Bool
at_of None = false
at_of (Some e) = is_at e.routine

claims_now : at_of (slice_get (state_after list_code unannounced_setting eight_near).entries 0) ≡ false
unfolding wants after signs
claims_now = refl

of_reader : (e : Entry) (d a : Reg) (f : ℕ) → still ≡ e → instr_in list_code e ≡ Some (Plain (instr.LoadField d a f)) → From unannounced_setting eight_near 1 e a
of_reader e d a f same is =
    let from : From unannounced_setting eight_near 1 e (Ref 1) = subst (λ (x : Entry). From unannounced_setting eight_near 1 x (Ref 1)) same of_five in
    subst (λ (x : Reg). From unannounced_setting eight_near 1 e x) (register (sym still_loads ∙ (ap (instr_in list_code) same ∙ is))) from

is_still : (e : Entry) → slice_get (state_after list_code unannounced_setting eight_near).entries 1 ≡ Some e → still ≡ e
unfolding entry_of still
is_still e got = ap (λ (o : Option Entry). unwrap_or o (idle_entry 1)) got

retired : HaveBases unannounced_setting eight_near eight_near
unfolding wants after signs
retired zero e d a f got at is = absurd (false≢true (sym claims_now ∙ (ap at_of got ∙ ap is_at at)))
retired (suc zero) e d a f got at is = of_reader e d a f (is_still e got) is
retired (suc (suc c)) e d a f got at is = absurd (none_is got)

pub base_rows : BaseRows
base_rows = record { sentinel = sentinel; not_untold = not_untold; retired = retired; not_recycled = not_recycled }
