-- One entry changes, and each call of a script is one of the target.
use Rattle.std.proofs.Common.{◌≡◌, ◌<◌, ℕ, zero, suc, ◌⊎◌, inl, inr, ⊎_elim, true, List, [], ◌∷◌, set, length, Some, refl, ap, subst, arith}
use Rattle.std.specs.Prelude.{slice_get, slice_set, All}
use Rattle.std.proofs.lemmas.Option.{slice_get_within, get_or_from_slice_get}
use Rattle.target_code.specs.declared.target.Target.{Target}
use Rattle.caller_parts.specs.declared.call.Call.{Call}
use Rattle.caller_parts.specs.Calls.{is_call, AreCalls}
use Rattle.caller_steps.specs.Entries.{RoomyEntry}
use Rattle.core_runs.specs.Scripts.{script_of}
use Rattle.replay_steps.specs.Entries.{HasRooms}

pub set_got : (es : List RoomyEntry) (k d : ℕ) (e f : RoomyEntry) → slice_get (set es k e) d ≡ Some f → ((d ≡ k) × (f ≡ e)) ⊎ (slice_get es d ≡ Some f)
set_got [] k d e f is = inr is
set_got (x ∷ xs) zero zero e f is = inl (refl, cc)
set_got (x ∷ xs) zero (suc d) e f is = inr is
set_got (x ∷ xs) (suc k) zero e f is = inr is
set_got (x ∷ xs) (suc k) (suc d) e f is = ⊎_elim (λ (t : (d ≡ k) × (f ≡ e)). inl (ap suc t.0, t.1)) (λ (t : slice_get xs d ≡ Some f). inr t) (set_got xs k d e f is)

-- its room stays
pub set_rooms : (scripts : List (List Call)) (entries : List RoomyEntry) (c : ℕ) (e moved : RoomyEntry) → HasRooms scripts entries → slice_get entries c ≡ Some e → moved.room ≡ e.room
    → HasRooms scripts (slice_set entries c moved)
set_rooms scripts entries c e moved rooms at room = λ k f is. ⊎_elim
    (λ (t : (k ≡ c) × (f ≡ moved)).
    let own : f.room ≡ moved.room = ap (λ (x : RoomyEntry). x.room) t.1 in
    let exact : e.room ≡ length (script_of scripts c) = rooms c e at in
    let same : length (script_of scripts k) ≡ length (script_of scripts c) = ap (λ (d : ℕ). length (script_of scripts d)) t.0 in
    omega (arith, room, own, exact, same))
    (λ (t : slice_get entries k ≡ Some f). rooms k f t)
    (set_got entries c k moved f is)

pub script_calls : (target : Target) (scripts : List (List Call)) (c : ℕ) → All (AreCalls target) scripts → AreCalls target (script_of scripts c)
script_calls target [] c all = λ i d lt. absurd (let none : i < 0 = lt in let no : ⊥ = omega (arith, none) in no)
script_calls target (script ∷ scripts) zero all = all 0 [] (omega arith)
script_calls target (script ∷ scripts) (suc c) all = script_calls target scripts c (λ i d lt. all (suc i) d (omega (arith, lt)))

pub call_is : (target : Target) (script : List Call) (k : ℕ) (call : Call) → AreCalls target script → slice_get script k ≡ Some call → is_call target call ≡ true
call_is target script k call all is =
    subst (λ (x : Call). is_call target x ≡ true) (get_or_from_slice_get script k call call is) (all k call (slice_get_within script k call is))
