-- Loads and puts of the text at a caller that belongs.
use Rattle.std.proofs.Common.{ℕ, ◌≡◌, ◌<◌, ◌∙◌, true, false, [], Option, Some, None, inl, inr, sym, ap, subst, refl}
use Rattle.std.specs.Prelude.{slice_get, IsTrue}
use Rattle.norm_lang.specs.declared.text.Reg.{Reg}
use Rattle.norm_lang.specs.declared.text.Instr.{Instr}
use Rattle.norm_lang.specs.declared.text.Instr.TheVariants as instr
use Rattle.target_code.specs.declared.target.TargetInstr.TheVariants.{Plain}
use Rattle.oa_words.specs.Words.{Word}
use Rattle.phase_pools.specs.Accesses.{Loads, WordAccess, word_of}
use Rattle.source_machine.specs.Proper.{has}
use Rattle.caller_parts.specs.declared.routine.Routine.{Routine}
use Rattle.caller_parts.specs.declared.routine.Routine.TheVariants.{At}
use Rattle.caller_steps.specs.Entries.{instr_in}
use Rattle.caller_steps.specs.Wants.{plain_wanted}
use Rattle.caller_steps.specs.After.{counted, plain_accepted}
use Rattle.target_laws.specs.Methods.{code_in}
use Rattle.target_laws.specs.local_laws.Settling.{is_access}
use Rattle.run_ahead.specs.Standing.{loads_into}
use Rattle.run_ahead.specs.Typed.{AreAsked}
use Rattle.run_ahead.proofs.Asked.{asked_here}
use Rattle.run_ahead.specs.Ahead.{IsErased, erasing}
use Rattle.oa_simulation.specs.sim_relation.Views.{Plan, IsPlan, Shared, Caller}
use Rattle.oa_simulation.specs.sim_relation.Shared.{SharedHolds}
use Rattle.oa_simulation.specs.sim_relation.Callers.{Tied, CallerHolds, HoldsAt, Running, spot_of}
use Rattle.oa_simulation.specs.sim_relation.Allowing.{IsProperFor}
use Rattle.oa_simulation.specs.sim_relation.Points.{StaysProper, IsProperPoint, point, done}
use Rattle.chain_laws.specs.Memories.{after_access}
use Rattle.oa_simulation.specs.sim_relation.Steps.{KeptSetting}
use Rattle.oa_simulation.specs.sim_relation.WasSet.{set_plain}
use Rattle.oa_simulation.proofs.sim_relation.Codes.{instr_is}
use Rattle.oa_simulation.proofs.sim_steps.Accesses.Loads.{LooksAt, load_kept}
use Rattle.oa_simulation.proofs.sim_steps.Accesses.Puts.{put_kept}
use Rattle.oa_simulation.proofs.sim_steps.Walks.Accessing.{source_stands}
use Rattle.caller_parts.specs.declared.setting.Reclamation.TheVariants.{Optimistic}

-- what a proper text owes where it stands is what a check and a load ask for
pub proper_here : (t : Plan) (c : ℕ) (s : Shared) (x : Caller) → StaysProper t.text c (point s x) → Tied x → IsProperFor s x
proper_here t c s x stays (inl (runs, same)) n other got reaches =
    let here : IsProperPoint t.text (point s x) = stays [] (point s x) (done (point s x)) in
    ap (λ run. has other run.old) same ∙ here.got runs n other (sym (ap (λ run. has n run.got) same) ∙ got) reaches
proper_here t c s x stays (inr (ended, none)) n other got reaches = absurd (let z : false ≡ true = sym (ap (has n) none) ∙ got in cc)

-- the caller stands before a plain instruction of its method
pub record AtPlain (t : Plan) (c : ℕ) (s : Shared) (x : Caller) (i : Instr) : Type 0 where
  pub plan : IsPlan t
  pub shared_holds : SharedHolds t s
  pub caller_holds : CallerHolds t s c x
  pub below : c < t.setting.sizes.callers
  pub at : x.entry.routine ≡ At
  pub here : instr_in t.target x.entry ≡ Some (Plain i)
  pub proper : StaysProper t.text c (point s x)

pub running_at : (t : Plan) (c : ℕ) (s : Shared) (x : Caller) (i : Instr) → AtPlain t c s x i → Running t s c x (spot_of x.entry.hand)
running_at t c s x i w = subst (λ (r : Routine). HoldsAt t s c x r) w.at w.caller_holds.spot

pub code_at : (t : Plan) (c : ℕ) (s : Shared) (x : Caller) (i : Instr) (w : AtPlain t c s x i) → slice_get (code_in (running_at t c s x i w).0.walk.method) x.entry.hand.at ≡ Some (Plain i)
code_at t c s x i w = let r = running_at t c s x i w in sym (instr_is t s c x (spot_of x.entry.hand) r.0 r.1) ∙ w.here

-- the source's caller stands there too, and what the instruction asks of its registers holds
pub run_asked : (t : Plan) (c : ℕ) (s : Shared) (x : Caller) (i : Instr) → IsErased t.target t.text → (run : Running t s c x (spot_of x.entry.hand)) → IsProperPoint t.text (point s x) → slice_get (code_in run.0.walk.method) x.entry.hand.at ≡ Some (Plain i) → IsTrue (is_access i)
    → AreAsked t.text i s.source.nodes run.0.mirror
run_asked t c s x i erased run proper here access =
    asked_here run.0.walk.method run.0.walk.started x.entry.hand.accessed run.0.walk.call x.entry.hand.at run.0.mirror run.0.there x.source i s.source.nodes erased (source_stands t s c x (spot_of x.entry.hand) run.0 run.1 run.2) here access
    proper.kinds

pub asked_at : (t : Plan) (c : ℕ) (s : Shared) (x : Caller) (i : Instr) (w : AtPlain t c s x i) → IsTrue (is_access i) → AreAsked t.text i s.source.nodes (running_at t c s x i w).0.mirror
asked_at t c s x i w access = run_asked t c s x i (erasing w.plan.compiled) (running_at t c s x i w) (w.proper [] (point s x) (done (point s x))) (code_at t c s x i w) access

load_is_access : (i : Instr) (d : Reg) → loads_into i ≡ Some d → IsTrue (is_access i)
load_is_access (instr.LoadRoot e x) d is = refl
load_is_access (instr.LoadPick e x n a) d is = refl
load_is_access (instr.LoadField e a f) d is = refl
load_is_access _ d is = absurd (let never : None ≡ Some d = is in cc)

-- the step of the core at a plain instruction, by the access that it makes
abbrev pub PlainKept : (t : Plan) (c : ℕ) (s : Shared) (x : Caller) → Instr → Option WordAccess → Type 0
PlainKept t c s x i None = Unit {0}
PlainKept t c s x i (Some a) = KeptSetting t c s x (set_plain t.target i (s.memory (word_of a)) x.entry x.was_set) (after_access s.memory a) (plain_accepted Optimistic t.target t.setting.sizes i (s.memory (word_of a)) (counted x.entry))

pub put_step : (t : Plan) (c : ℕ) (s : Shared) (x : Caller) (a b : Reg) (f : ℕ) → AtPlain t c s x (instr.Put a f b) → PlainKept t c s x (instr.Put a f b) (plain_wanted t.target.fields (instr.Put a f b) x.entry.hand.registers)
put_step t c s x a b f w = put_kept t c s x a f b w.plan w.shared_holds w.caller_holds.base (running_at t c s x (instr.Put a f b) w) (code_at t c s x (instr.Put a f b) w) (asked_at t c s x (instr.Put a f b) w refl)

pub load_at : (t : Plan) (c : ℕ) (s : Shared) (x : Caller) (i : Instr) (d : Reg) (word : Word) → AtPlain t c s x i → loads_into i ≡ Some d → LooksAt t.target.fields i x.entry.hand.registers word → PlainKept t c s x i (Some (Loads word))
load_at t c s x i d word w loads looks =
    let r = running_at t c s x i w in
    load_kept t c s x i d word w.plan w.shared_holds w.caller_holds.base r w.below (proper_here t c s x w.proper r.2.tied) (code_at t c s x i w) (asked_at t c s x i w (load_is_access i d loads)) loads looks
