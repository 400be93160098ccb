-- Local code and writes worked out by hand.
use Rattle.std.specs.Prelude.{◌≡◌, ℕ, zero, suc, false, List, [], ◌∷◌, length, Option, Some, None, slice_get, refl}
use Rattle.std.proofs.Common.{sym, ap, ◌∙◌}
use Rattle.std.proofs.lemmas.Bool.{ltb-true}
use Rattle.norm_lang.specs.declared.text.Reg.TheVariants.{Num, Ref}
use Rattle.norm_lang.specs.declared.text.Instr.{Instr}
use Rattle.norm_lang.specs.declared.text.Instr.TheVariants.{Set, LoadRoot, Jump, Commit}
use Rattle.norm_lang.specs.declared.registers.Registers.{Registers}
use Rattle.norm_lang.specs.Local.{Spot, local_at, local_run}
use Rattle.norm_lang.specs.NormalForm.{N7, Breaks}
use Rattle.norm_lang.specs.Registers.{no_reference, first_registers, number_in, reference_in, with_number}
use Rattle.norm_lang.specs.declared.text.Text.{Text}
use Rattle.norm_lang.specs.LineWords.{item_kind}
use Rattle.target_laws.specs.local_laws.Settling.{next_spot, Settles, rests, goes_on}

-- registers with 1 and 2 in n0 and n1
abbrev one_two : Registers
one_two = first_registers (1 ∷ 2 ∷ [])

abbrev from : ℕ → Registers → Spot
from at registers = record { at = at; registers = registers }

-- ---- a loop without an access

abbrev spin : List Instr
spin = Jump 0 ∷ Commit [] ∷ []

-- no bound is met: after any number of steps it stands at its jump still
still_there : (n : ℕ) (registers : Registers) → local_run spin n (from 0 registers) ≡ from 0 registers
still_there zero registers = refl
still_there (suc n) registers = still_there n registers

-- and it settles nowhere
steps_to_itself : (here : Spot) → here.at ≡ 0 → next_spot spin here ≡ Some (from 0 here.registers)
steps_to_itself here first = ap (λ k. local_at (slice_get spin k) k here.registers) first

settles_nowhere : (here there : Spot) → here.at ≡ 0 → Settles spin here there → ⊥
settles_nowhere here there first (rests _ none) = let no : None ≡ Some (from 0 here.registers) = sym none ∙ steps_to_itself here first in cc
settles_nowhere here there first (goes_on _ next _ is rest) = settles_nowhere next there (at_first next (sym is ∙ steps_to_itself here first)) rest
  where
    at_first : (next : Spot) → Some next ≡ Some (from 0 here.registers) → next.at ≡ 0
    at_first next same = ap (λ o. place o) same
      where
        place : Option Spot → ℕ
        place None = 0
        place (Some spot) = spot.at

-- so a text with it is refused: the jump lies on a cycle of itself alone
abbrev spinning : Text
spinning = record { kinds = item_kind ∷ []; fields = []; roots = []; nodes = []; ops = record { name = []; args = 0; generator = spin; wrapup = [] } ∷ [] }

spin_is_refused : Breaks spinning (record { rule = N7; op = 0; wrapup = false; at = 0 })
spin_is_refused = (0 ∷ [], (((refl, ltb-true 0 2 refl), refl)), refl)

-- ---- the bound

-- two local instructions before an access: as many steps as they are bring it there, one fewer doesn't
abbrev straight : List Instr
straight = Set (Num 0) 7 ∷ Jump 2 ∷ LoadRoot (Ref 0) 0 ∷ Commit [] ∷ []

one_step_is_short : local_run straight 1 (from 0 one_two) ≡ from 1 (with_number one_two (Num 0) 7)
one_step_is_short = refl

length_is_enough : local_run straight (length straight) (from 0 one_two) ≡ from 2 (with_number one_two (Num 0) 7)
length_is_enough = refl

straight_settles : Settles straight (from 0 one_two) (from 2 (with_number one_two (Num 0) 7))
straight_settles =
    goes_on (from 0 one_two) (from 1 (with_number one_two (Num 0) 7)) _ refl
    (goes_on (from 1 (with_number one_two (Num 0) 7)) (from 2 (with_number one_two (Num 0) 7)) _ refl (rests (from 2 (with_number one_two (Num 0) 7)) refl))

-- and it doesn't settle where a local instruction stands
not_before : Settles straight (from 0 one_two) (from 0 one_two) → ⊥
not_before settles = let no : None ≡ Some (from 1 (with_number one_two (Num 0) 7)) = sym (settled_there settles) ∙ refl in cc
  where
    settled_there : {here there : Spot} → Settles straight here there → next_spot straight there ≡ None
    settled_there (rests _ none) = none
    settled_there (goes_on _ next _ is rest) = settled_there rest

-- ---- writes

read_back : number_in (with_number one_two (Num 1) 9) (Num 1) ≡ 9
read_back = refl

other_stays : number_in (with_number one_two (Num 1) 9) (Num 0) ≡ 1
other_stays = refl

-- a ninth register isn't there, so what is put into it isn't read
no_ninth : number_in (with_number one_two (Num 8) 9) (Num 8) ≡ 0
no_ninth = refl

-- a number of the same number as a reference is another register
kinds_apart : reference_in (with_number one_two (Num 1) 9) (Ref 1) ≡ no_reference
kinds_apart = refl
