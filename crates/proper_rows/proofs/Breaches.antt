-- The rows of breaches, computed.
use Rattle.std.proofs.Common.{ℕ, zero, suc, ◌≡◌, ◌∙◌, true, false, List, [], ◌∷◌, Option, Some, None, refl, sym, ap, arith}
use Rattle.std.specs.Prelude.{unwrap_or}
use Rattle.norm_lang.specs.declared.text.Text.{Text}
use Rattle.norm_lang.specs.declared.registers.Reference.{Reference}
use Rattle.source_machine.specs.declared.event.SourceEvent.{SourceEvent}
use Rattle.source_machine.specs.declared.state.Value.{Value}
use Rattle.source_machine.specs.declared.state.Value.TheVariants.{Number, Node}
use Rattle.source_machine.specs.declared.state.Memory.{Memory}
use Rattle.source_machine.specs.declared.state.SourceMachine.{SourceMachine}
use Rattle.source_machine.specs.State.{source_start}
use Rattle.source_machine.specs.Memory.{value_at, fields_named}
use Rattle.source_machine.specs.Run.{source_run}
use Rattle.source_machine.specs.Proper.{Reaches, itself, onward, has, IsOnce}
use Rattle.source_machine.specs.Keeper.{keeper}
use Rattle.proper_judge.specs.declared.breach.Breach.TheVariants.{Twice, Root, Got}
use Rattle.proper_judge.specs.Breaches.{AreRootsKept}
use Rattle.proper_judge.specs.Judging.{IsBreachAfter}
use Rattle.proper_rows.specs.BreachRows.{flagger, linker, flags, drops, links, BreachRows}
use Rattle.proper_rows.proofs.Conditions.{same_number}

-- the state that a run leads to
reached : SourceMachine → Option SourceMachine → SourceMachine
reached start None = start
reached start (Some state) = state

state_after : Text → ℕ → List SourceEvent → SourceMachine
unfolding reached
state_after text callers events = reached (source_start text callers) (source_run text events (source_start text callers))

twice_row : IsBreachAfter flagger 1 flags Twice
unfolding state_after
twice_row = record {
  state = state_after flagger 1 flags;
  run = record { some = omega arith; runs = refl };
  breaks = λ (once : IsOnce (1 ∷ 1 ∷ [])). (let z : true ≡ false = once.0 in cc);
}

root_row : IsBreachAfter keeper 1 drops (Root 1)
unfolding state_after
root_row = record {
  state = state_after keeper 1 drops;
  run = record { some = omega arith; runs = refl };
  breaks = ((refl, tt), record { root = 0; reference = record { node = 1; marked = false }; stands = refl; leads = itself 1; retired = refl });
}

-- from null nothing is reached but null
no_value : (i : ℕ) → value_at [] i ≡ Number 0
no_value zero = refl
no_value (suc i) = refl

from_null : (memory : Memory) (from other : ℕ) → fields_named 0 memory.nodes ≡ None → from ≡ 0 → Reaches memory from other → other ≡ 0
from_null memory from other none zero_from (itself name) = zero_from
from_null memory from other none zero_from (onward name next last (f, mark, e) more) =
    let fields : unwrap_or (fields_named name memory.nodes) [] ≡ [] = ap (λ (n : ℕ). unwrap_or (fields_named n memory.nodes) []) zero_from ∙ ap (λ (o : Option (List Value)). unwrap_or o []) none in
    let value : Number 0 ≡ Node (record { node = next; marked = mark }) = sym (no_value f) ∙ (ap (λ (vs : List Value). value_at vs f) (sym fields) ∙ e) in
    absurd (let no : ⊥ = cc in no)

null_in : (reference : Reference) → Node (record { node = 0; marked = false }) ≡ Node reference → reference.node ≡ 0
null_in reference e = let z : record { node = 0; marked = false } ≡ reference = cc in sym (ap (λ (r : Reference). r.node) z)

-- both roots are null after the last exchange
roots_kept : AreRootsKept (state_after linker 2 links)
unfolding state_after
roots_kept zero other reference stands leads =
    ap (λ (n : ℕ). has n (2 ∷ [])) (from_null (state_after linker 2 links).memory reference.node other refl (null_in reference stands) leads)
roots_kept (suc zero) other reference stands leads =
    ap (λ (n : ℕ). has n (2 ∷ [])) (from_null (state_after linker 2 links).memory reference.node other refl (null_in reference stands) leads)
roots_kept (suc (suc x)) other reference stands leads = absurd (let no : ⊥ = (let z : Number 0 ≡ Node reference = stands in cc) in no)

got_row : IsBreachAfter linker 2 links (Got 1 2)
unfolding state_after
got_row = record {
  state = state_after linker 2 links;
  run = record { some = omega arith; runs = refl };
  breaks = ((refl, tt), roots_kept, record { runs_on = refl; leads = (1, refl, onward 1 2 2 (1, false, refl) (itself 2)); old = refl });
}

pub breach_rows : BreachRows
breach_rows = record {
  twice = twice_row;
  twice_first = λ breach after. same_number flagger 1 flags breach Twice after twice_row;
  root = root_row;
  root_first = λ breach after. same_number keeper 1 drops breach (Root 1) after root_row;
  got = got_row;
  got_first = λ breach after. same_number linker 2 links breach (Got 1 2) after got_row;
  seen = refl;
  linking = refl;
}
