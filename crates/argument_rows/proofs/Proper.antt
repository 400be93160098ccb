-- The text is proper: none of its callers comes to the exchange that retires.
use Rattle.std.proofs.Common.{ℕ, zero, suc, ◌^◌, ◌<◌, ◌≡◌, ◌⊎◌, Bool, true, false, List, [], ◌∷◌, ◌++◌, length, Option, Some, None, sym, ap, subst, refl, inl, inr, ⊎_elim, arith}
use Rattle.std.proofs.lemmas.Bool.{le-ltb, ltb-true, and_parts}
use Rattle.std.specs.Prelude.{◌==◌, nat_lt, slice_get, slice_index, unwrap_or, if◌then◌else◌}
use Rattle.std.specs.List.{list_all}
use Rattle.norm_lang.specs.declared.text.Reg.TheVariants.{Num}
use Rattle.norm_lang.specs.declared.text.Op.{Op}
use Rattle.norm_lang.specs.declared.registers.Registers.{Registers}
use Rattle.norm_lang.specs.Registers.{first_registers, with_number}
use Rattle.norm_lang.specs.Local.{local_run}
use Rattle.source_machine.specs.declared.event.SourceEvent.{SourceEvent}
use Rattle.source_machine.specs.declared.event.SourceEvent.TheVariants as events
use Rattle.norm_lang.specs.declared.reply.SourceReply.{SourceReply}
use Rattle.norm_lang.specs.declared.reply.SourceReply.TheVariants as told
use Rattle.norm_lang.specs.Arguments.{are_words, are_arguments}
use Rattle.source_machine.specs.declared.state.Memory.{Memory}
use Rattle.source_machine.specs.declared.state.Stand.{Stand}
use Rattle.source_machine.specs.declared.state.Stand.TheVariants.{InGenerator, InList}
use Rattle.source_machine.specs.declared.state.Running.{Running}
use Rattle.source_machine.specs.declared.state.SourceCaller.{SourceCaller}
use Rattle.source_machine.specs.State.{first_memory}
use Rattle.source_machine.specs.Step.{generator_at, generator_begun, performed}
use Rattle.source_machine.specs.Run.{mover, is_enabled_by}
use Rattle.source_machine.specs.MethodRuns.{MethodRun}
use Rattle.source_machine.specs.Proper.{has, runs_method, IsProperState, IsProperForAny}
use Rattle.source_machine.specs.Frames.{Kept}
use Rattle.source_machine.proofs.Frames.{proper_in}
use Rattle.argument_rows.specs.Losing.{losing}

abbrev greatest : ℕ
greatest = 18446744073709551615

abbrev memory : Memory
memory = first_memory losing

abbrev lose : Op
lose = unwrap_or (slice_get losing.ops 0) (record { name = []; args = 0; generator = []; wrapup = [] })

-- ---- what a call's first argument is

first_word : (args : List ℕ) → are_arguments 1 args ≡ true → slice_index args 0 < 2 ^ 64
first_word [] is = absurd (let z : false ≡ true = is in cc)
first_word (word ∷ args) is =
    let words = and_parts (are_words (word ∷ args)) (list_all (λ x. x == 0) args) is in
    let small = and_parts (length (word ∷ args) == 4) (list_all (λ x. nat_lt x (2 ^ 64)) (word ∷ args)) words.0 in
    ltb-true word (2 ^ 64) (and_parts (nat_lt word (2 ^ 64)) (list_all (λ x. nat_lt x (2 ^ 64)) args) small.1).0

-- ---- how the operation begins

abbrev set_so : List ℕ → Registers
set_so args = with_number (first_registers args) (Num 1) greatest

abbrev waiting : List ℕ → Registers → Running
waiting args registers = record { op = 0; args = args; registers = registers; stand = InList 2 [] 0 }

-- from the branch on
abbrev branched : Running → Bool → Running
branched running taken = generator_at lose (local_run lose.generator 3 (record { at = if taken then 3 else 2; registers = set_so running.args })) running

begins_so : (running : Running) → slice_index running.args 0 < 2 ^ 64 → generator_begun lose running ≡ record running { registers = set_so running.args; stand = InList 2 [] 0 }
begins_so running small = ap (branched running) (le-ltb greatest (slice_index running.args 0) (omega (arith, small)))

-- ---- where callers stand

abbrev idle_with : List SourceReply → SourceCaller
idle_with replies = record { replies = replies; running = None }

abbrev waits_with : List SourceReply → List ℕ → Registers → SourceCaller
waits_with replies args registers = record { replies = replies; running = Some (waiting args registers) }

record IsIdle (caller : SourceCaller) : Type 0 where
  replies : List SourceReply
  is : caller ≡ idle_with replies

-- it stands at the end of the empty list
record IsWaiting (caller : SourceCaller) : Type 0 where
  replies : List SourceReply
  args : List ℕ
  registers : Registers
  small : slice_index args 0 < 2 ^ 64
  is : caller ≡ waits_with replies args registers

abbrev Stands : Unit {0} → ℕ → MethodRun → SourceCaller → Type 0
Stands s c run caller = (run.old ≡ []) × (IsIdle caller ⊎ IsWaiting caller)

abbrev Keeps : SourceEvent → MethodRun → SourceCaller → Type 0
Keeps event run caller = Kept losing (Unit {0}) (λ s. memory) (λ s. Unit {0}) Stands (λ c s s'. Unit {0}) event (mover event) tt run caller

-- it begins, or begins again
waits : (replies : List SourceReply) (args : List ℕ) (registers : Registers) (stand : Stand) → slice_index args 0 < 2 ^ 64
    → IsWaiting (record { replies = replies; running = Some (generator_begun lose (record { op = 0; args = args; registers = registers; stand = stand })) })
waits replies args registers stand small = record {
  replies = replies;
  args = args;
  registers = set_so args;
  small = small;
  is = ap (λ (r : Running). record { replies = replies; running = Some r }) (begins_so (record { op = 0; args = args; registers = registers; stand = stand }) small);
}

-- ---- what an event keeps

keeps_idle : (event : SourceEvent) (run : MethodRun) (replies : List SourceReply) → is_enabled_by losing event None memory (idle_with replies) ≡ true → Keeps event run (idle_with replies)
keeps_idle (events.Begin c zero args) run replies e = record {
  s' = tt;
  memory = refl;
  fine = tt;
  goes = tt;
  stands = (refl, inr (waits replies args (first_registers args) (InGenerator 0) (first_word args e)));
}
keeps_idle (events.Begin c (suc n) args) run replies e = absurd (let z : false ≡ true = e in cc)
keeps_idle (events.Access c name) run replies e = absurd (let z : false ≡ true = e in cc)
keeps_idle (events.Restart c) run replies e = absurd (let z : false ≡ true = e in cc)
keeps_idle (events.GiveUp c phase) run replies e = absurd (let z : false ≡ true = e in cc)

keeps_waiting : (event : SourceEvent) (run : MethodRun) (replies : List SourceReply) (args : List ℕ) (registers : Registers) → slice_index args 0 < 2 ^ 64
    → is_enabled_by losing event (performed losing (waits_with replies args registers)) memory (waits_with replies args registers) ≡ true → Keeps event run (waits_with replies args registers)
keeps_waiting (events.Begin c number args') run replies args registers small e = absurd (let z : false ≡ true = e in cc)
keeps_waiting (events.Access c name) run replies args registers small e = record {
  s' = tt;
  memory = refl;
  fine = tt;
  goes = tt;
  stands = (refl, inl (record { replies = replies ++ told.Nothing ∷ []; is = refl }));
}
keeps_waiting (events.Restart c) run replies args registers small e = record {
  s' = tt;
  memory = refl;
  fine = tt;
  goes = tt;
  stands = (refl, inr (waits replies args registers (InList 2 [] 0) small));
}
keeps_waiting (events.GiveUp c phase) run replies args registers small e = absurd (let z : false ≡ true = e in cc)

keeps : (event : SourceEvent) (s : Unit {0}) (run : MethodRun) (caller : SourceCaller) → Unit {0} → Stands s (mover event) run caller
    → is_enabled_by losing event (performed losing caller) memory caller ≡ true → Kept losing (Unit {0}) (λ s. memory) (λ s. Unit {0}) Stands (λ c s s'. Unit {0}) event (mover event) s run caller
keeps event s run caller fine stands e = ⊎_elim
    (λ (i : IsIdle caller). subst (Keeps event run) (sym i.is)
    (keeps_idle event run i.replies (subst (λ (y : SourceCaller). is_enabled_by losing event (performed losing y) memory y ≡ true) i.is e)))
    (λ (w : IsWaiting caller). subst (Keeps event run) (sym w.is)
    (keeps_waiting event run w.replies w.args w.registers w.small (subst (λ (y : SourceCaller). is_enabled_by losing event (performed losing y) memory y ≡ true) w.is e)))
    stands.1

-- nothing is ever retired
state_is_proper : (s : Unit {0}) (callers : List SourceCaller) (runs : ℕ → MethodRun) → Unit {0}
    → ((c : ℕ) (caller : SourceCaller) → slice_get callers c ≡ Some caller → Stands s c (runs c) caller) → IsProperState (record { memory = memory; callers = callers }) runs
state_is_proper s callers runs fine all = record {
  once = tt;
  roots = λ x other reference at reaches. refl;
  got = λ c name other running got reaches. ap (has other) (old c (slice_get callers c) refl running);
} where
  old : (c : ℕ) (found : Option SourceCaller) → slice_get callers c ≡ found → runs_method found ≡ true → (runs c).old ≡ []
  old c None at running = absurd (let z : false ≡ true = running in cc)
  old c (Some caller) at running = (all c caller at).0

pub losing_is_proper : IsProperForAny losing
losing_is_proper =
    proper_in losing (Unit {0}) (λ s. memory) (λ s. Unit {0}) Stands (λ c s s'. Unit {0})
    (λ c d s s' run caller goes fine ne stands. stands) keeps tt refl tt (λ c. (refl, inl (record { replies = []; is = refl }))) state_is_proper
