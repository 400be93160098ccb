-- A new entry belongs, and so does one that takes a call.
use Rattle.std.proofs.Common.{◌≡◌, ℕ, suc, ◌+◌, ◌*◌, ◌≤◌, ◌<◌, inl, true, false, [], length, replicate, Option, Some, None, refl, arith}
use Rattle.std.specs.Prelude.{slice_get, slice_index}
use Rattle.std.proofs.lemmas.Option.{slice_get_within}
use Rattle.norm_lang.specs.Registers.{first_registers}
use Rattle.guard_words.specs.Guards.{no_guards, guard_at}
use Rattle.guard_words.proofs.Rows.{guards_follow}
use Rattle.target_code.specs.declared.target.TargetOp.{TargetOp}
use Rattle.target_code.specs.declared.target.Target.{Target}
use Rattle.caller_parts.specs.declared.call.Call.{Call}
use Rattle.caller_parts.specs.Operands.{cradle_count}
use Rattle.caller_parts.specs.Calls.{is_call, is_call_of}
use Rattle.caller_parts.specs.declared.setting.Reclamation.{Reclamation}
use Rattle.caller_parts.specs.declared.setting.Reclamation.TheVariants.{Optimistic, Epochs}
use Rattle.caller_parts.specs.Settings.{Setting}
use Rattle.caller_steps.specs.Entries.{Entry, idle_entry, code_in}
use Rattle.caller_steps.specs.After.{taken}
use Rattle.caller_steps.specs.Belongs.{Belongs, HandBelongs, HaveKinds, HasComeTo}
use Rattle.core_runs.proofs.caller_laws.Methods.{Methods}
use Rattle.core_runs.proofs.caller_laws.Reaching.{start_reached}
use Rattle.core_runs.proofs.caller_laws.Stopping.{first_names}
use Rattle.core_runs.proofs.caller_laws.KindSteps.{first_typed}

no_cradle : (n k : ℕ) → slice_index (replicate n 0) k ≡ 0
no_cradle (suc n) (suc k) = no_cradle n k
no_cradle _ _ = refl

-- a new entry belongs to every fitting pair with more callers than its number
pub idle_belongs : (target : Target) (setting : Setting) (c : ℕ) → Methods target → c < setting.sizes.callers → Belongs target setting (idle_entry c)
idle_belongs target setting c methods lt = record {
  number = lt;
  op = methods.ops;
  hand = record {
    registers = first_names setting.sizes.slots [];
    started = first_names setting.sizes.slots [];
    guards = record { row = guards_follow.row_first; within = no_guard };
    seen = omega arith;
  };
  cradles = record {
    count = refl;
    within = λ k. let none = no_cradle cradle_count k in omega (arith, none);
    kinds = λ t k lt. inl (no_cradle cradle_count (4 * t + k));
  };
  reaches = methods.some 0 false methods.ops;
  kinds = tt;
  stands = tt;
}
  where
    no_guard : (r : ℕ) → guard_at no_guards r ≤ setting.sizes.slots
    no_guard r = let none : guard_at no_guards r ≡ 0 = guards_follow.first_slot r in omega (arith, none)

-- an operation that is called is the target's
called : (target : Target) (call : Call) → is_call target call ≡ true → call.op < length target.ops
called target call is = of (slice_get target.ops call.op) refl is
  where
    of : (o : Option TargetOp) → slice_get target.ops call.op ≡ o → is_call_of o call.args ≡ true → call.op < length target.ops
    of None at wrong = absurd (let z : false ≡ true = wrong in cc)
    of (Some op) at right = slice_get_within target.ops call.op op at

-- by either scheme: it stands at the start of the call's generator, before the first access of the call
pub taken_belongs : (target : Target) (setting : Setting) (by : Reclamation) (call : Call) (e : Entry) → Methods target → setting.reclamation ≡ by → is_call target call ≡ true → Belongs target setting e
    → Belongs target setting (taken by call e)
taken_belongs target setting by call e methods scheme is b = of by scheme where
  hand : HandBelongs setting (record e.hand { wrapup = false; at = 0; registers = first_registers call.args; started = first_registers [] })
  hand = record { registers = first_names setting.sizes.slots call.args; started = first_names setting.sizes.slots []; guards = b.hand.guards; seen = b.hand.seen }

  reached : HasComeTo (code_in target (taken by call e)) 0 (first_registers call.args)
  reached = start_reached (code_in target (taken by call e)) (first_registers call.args) (methods.some call.op false (called target call is))

  now : HaveKinds target setting (slice_get target.ops call.op) false 0 (first_registers call.args)
  now = first_typed target setting false (slice_get target.ops call.op) 0 call.args

  of : (by : Reclamation) → setting.reclamation ≡ by → Belongs target setting (taken by call e)
  of Optimistic scheme = record {
    number = b.number;
    op = called target call is;
    hand = hand;
    cradles = b.cradles;
    reaches = reached;
    kinds = record { now = now; started = λ wrapup. absurd (let no : false ≡ true = wrapup in cc) };
    stands = (scheme, (refl, refl));
  }
  of Epochs scheme = record {
    number = b.number;
    op = called target call is;
    hand = hand;
    cradles = b.cradles;
    reaches = reached;
    kinds = record { now = now; started = λ wrapup. absurd (let no : false ≡ true = wrapup in cc) };
    stands = (scheme, (refl, refl));
  }
