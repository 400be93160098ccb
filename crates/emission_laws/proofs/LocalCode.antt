-- Local code and its lines lead to the same place.
use Rattle.std.proofs.Common.{◌≡◌, ℕ, zero, suc, Bool, List, length, Option, Some, None, refl, sym, ◌∙◌, ap, subst, arith}
use Rattle.std.specs.Prelude.{slice_get}
use Rattle.norm_lang.specs.Local.{Spot, local_step, go_on}
use Rattle.target_code.specs.declared.target.TargetInstr.{TargetInstr}
use Rattle.target_code.specs.declared.target.TargetInstr.TheVariants.{Plain, Check, Guard}
use Rattle.target_code.specs.LocalCode.{target_run, target_local_at}
use Rattle.target_code.specs.declared.target.Target.{Target}
use Rattle.oa_words.specs.Words.{Sizes}
use Rattle.caller_parts.specs.Operands.{code_at}
use Rattle.caller_steps.specs.Entries.{Entry, code_in}
use Rattle.caller_steps.specs.After.{run_to}
use Rattle.c_language.specs.declared.lines.Line.{Line}
use Rattle.c_language.specs.Steps.{Pool, Frame, Stop, Goes, Wants, Calls, Returns, Replies, Strays, stop}
use Rattle.c_language.specs.Runs.{on_stop, goes, Comes}
use Rattle.c_language.proofs.Walking.{here, walks, leads}
use Rattle.emission_laws.specs.Locals.{FitsLocal, LaysOut, AllFit, AtSpot, StopsFrom, LocalsAreMade}
use Rattle.emission_laws.specs.Hands.{known_of}
use Rattle.emission_laws.specs.Making.{SettlesFrom}
use Rattle.emission_laws.proofs.Frames.{carries_like}
use Rattle.emission_laws.proofs.LocalSteps.{OnSpot, one}

some_frame : (f g : Frame) → Some f ≡ Some g → f ≡ g
some_frame f g e = cc

-- some lines lead to a frame from which others go on
pub comes_on : {P Q : Frame → Type 0} (pool : Pool) (code : List Line) (f : Frame) → Comes pool code f P → ((g : Frame) → P g → Comes pool code g Q) → Comes pool code f Q
comes_on {Q = Q} pool code f came more = join came.count f came.frame came.goes (more came.frame came.there) where
  join : (n : ℕ) (f g : Frame) → goes pool code n f ≡ Some g → Comes pool code g Q → Comes pool code f Q
  join zero f g is then_on = subst (λ (h : Frame). Comes pool code h Q) (sym (some_frame f g is)) then_on
  join (suc n) f g is then_on = of (λ h e. join n h g e then_on) (stop pool code f) refl is where
    of : ((h : Frame) → goes pool code n h ≡ Some g → Comes pool code h Q) → (s : Stop) → stop pool code f ≡ s → on_stop s (goes pool code n) ≡ Some g → Comes pool code f Q
    of further (Goes h) here_is e = walks h here_is (further h e)
    of further (Wants a next) here_is e = absurd (let z : None ≡ Some g = e in let no : ⊥ = cc in no)
    of further (Calls d function) here_is e = absurd (let z : None ≡ Some g = e in let no : ⊥ = cc in no)
    of further (Returns x) here_is e = absurd (let z : None ≡ Some g = e in let no : ⊥ = cc in no)
    of further (Replies answer x) here_is e = absurd (let z : None ≡ Some g = e in let no : ⊥ = cc in no)
    of further Strays here_is e = absurd (let z : None ≡ Some g = e in let no : ⊥ = cc in no)

module _ (pool : Pool) (code : List Line) (method : List TargetInstr) (start : ℕ → ℕ) (laid : LaysOut code method start) (fit : AllFit method) where
  runs : (n : ℕ) (spot : Spot) (from f : Frame) → AtSpot start spot from f → Comes pool code f (AtSpot start (target_run method n spot) from)
  runs zero spot from f s = here s
  runs (suc n) spot from f s = of (λ next g t. runs n next from g t) (slice_get method spot.at) refl where
    of : ((next : Spot) (g : Frame) → AtSpot start next from g → Comes pool code g (AtSpot start (target_run method n next) from))
        → (o : Option TargetInstr) → slice_get method spot.at ≡ o → Comes pool code f (AtSpot start (go_on (target_local_at o spot.at spot.registers) spot (target_run method n)) from)
    of further None is = here s
    of further (Some Check) is = here s
    of further (Some (Guard r)) is = here s
    of further (Some (Plain i)) is = stepped (local_step i spot.at spot.registers) refl where
      stepped : (o : Option Spot) → local_step i spot.at spot.registers ≡ o → Comes pool code f (AtSpot start (go_on o spot (target_run method n)) from)
      stepped None e = here s
      stepped (Some next) e =
          let fits : FitsLocal i = fit spot.at i spot.registers next is e in
          let came = subst (λ (x : Option Spot). OnSpot x (λ spot. Comes pool code f (AtSpot start spot from))) e
          (one pool code start spot.at i spot.registers from f fits (laid.block spot.at i is fits) (laid.after spot.at i is fits) s) in
          comes_on pool code f came (λ g t. further next g t)

-- ---- beside an entry

settled_by : (pool : Pool) (code : List Line) (target : Target) (sizes : Sizes) (settled e : Entry) (wrapup : Bool) (place : ℕ) (start : ℕ → ℕ) (f : Frame)
    → LaysOut code (code_at target e.running.call.op wrapup) start → AllFit (code_at target e.running.call.op wrapup)
    → SettlesFrom target sizes settled e wrapup place (start place) f → Comes pool code f (StopsFrom target sizes settled e wrapup start)
settled_by pool code target sizes settled e wrapup place start f laid fit s =
    leads (runs pool code (code_in target s.entry) start (subst (λ (m : List TargetInstr). LaysOut code m start) (sym same) laid) (subst AllFit (sym same) fit) (length (code_in target s.entry)) s.spot f f begins) ends
  where
    same : code_in target s.entry ≡ code_at target e.running.call.op wrapup
    same = ap (λ (op : ℕ). code_at target op s.entry.hand.wrapup) s.op ∙ ap (code_at target e.running.call.op) s.method

    begins : AtSpot start s.spot f f
    begins = record { at = s.stands.at ∙ ap start (sym s.at); held = s.stands.held; words = s.words; others = λ x high ne. refl; kept = refl }

    ends : (g : Frame) → AtSpot start (target_run (code_in target s.entry) (length (code_in target s.entry)) s.spot) f g → StopsFrom target sizes settled e wrapup start g
    ends g arrived = record {
      entry = run_to target s.spot s.entry;
      is = s.is;
      op = s.op;
      method = s.method;
      words = arrived.words;
      stands = record {
        at = arrived.at;
        held = arrived.held;
        seen = arrived.others 20 (omega arith) (λ e. omega (arith, e)) ∙ s.stands.seen;
        carried = carries_like (known_of s.entry) f g (λ x high apart lives. arrived.others x high (λ e. (let more = lives (omega (arith, e)) in omega (arith, e, more)))) arrived.kept s.stands.carried;
      };
    }

pub locals_are_made : LocalsAreMade
locals_are_made = record { run = λ pool code method start laid fit n spot from f s. runs pool code method start laid fit n spot from f s; settles = settled_by }
