-- Replies agree, from what is known of a caller: the source's replies are the entry's, or one more of the running call.
use Rattle.std.proofs.Common.{ℕ, ◌≡◌, ◌+◌, ◌⊎◌, ◌∙◌, ◌++◌, Bool, true, false, List, [], ◌∷◌, Option, Some, None, inl, inr, ap, subst, refl, sym}
use Rattle.norm_lang.specs.declared.text.Instr.{Instr}
use Rattle.norm_lang.specs.declared.text.Instr.TheVariants as instr
use Rattle.norm_lang.specs.declared.text.Op.{Op}
use Rattle.norm_lang.specs.declared.registers.Registers.{Registers}
use Rattle.norm_lang.specs.Registers.{number_in, with_count}
use Rattle.norm_lang.specs.Local.{Spot}
use Rattle.std.specs.Prelude.{slice_get, length, nat_lt}
use Rattle.norm_lang.specs.declared.reply.SourceReply.{SourceReply}
use Rattle.norm_lang.specs.declared.reply.SourceReply.TheVariants as replies
use Rattle.source_machine.specs.declared.state.Running.{Running}
use Rattle.source_machine.specs.declared.state.SourceCaller.{SourceCaller}
use Rattle.source_machine.specs.Step.{wrap_up_end, wrap_up_stop}
use Rattle.caller_parts.specs.declared.routine.MethodStart.TheVariants as starts
use Rattle.caller_parts.specs.declared.routine.AfterClear.TheVariants as clears
use Rattle.caller_parts.specs.declared.routine.AfterRetire.TheVariants as onward
use Rattle.caller_parts.specs.declared.routine.Routine.{Routine}
use Rattle.caller_parts.specs.declared.routine.Routine.TheVariants.{Idle, LoadSeen, At, InList, Retires, Restarts, Clears, Claims, Zeroes, Announces}
use Rattle.caller_steps.specs.Entries.{is_idle, instr_in}
use Rattle.caller_parts.specs.Operands.{list_of}
use Rattle.run_ahead.specs.Standing.{Call, stands_at}
use Rattle.oa_simulation.specs.sim_relation.Views.{Plan, Shared, Caller}
use Rattle.oa_simulation.specs.sim_relation.Callers.{CallerHolds, HoldsAt, Walks, Stands, Begins, Trail, call_of, replies_of, spot_of, AfterExchange, InExecutor}

-- a caller that runs has its call's replies, or one more
abbrev pub HasAbout : List SourceReply → SourceCaller → Type 0
HasAbout own caller = (caller.replies ≡ own) ⊎ ((reply : SourceReply) × (caller.replies ≡ own ++ reply ∷ []))

at_end : (op : Op) (i : Option Instr) (running : Running) (caller : SourceCaller) → HasAbout caller.replies (wrap_up_end op i running caller)
at_end op (Some (instr.Return a)) running caller = inr (replies.Number (number_in running.registers a), refl)
at_end op (Some instr.ReturnNone) running caller = inr (replies.Nothing, refl)
at_end op _ running caller = inl refl

at_stop : (accessed : Bool) (op : Op) (i : Option Instr) (running : Running) (caller : SourceCaller) → HasAbout caller.replies (wrap_up_stop accessed op i running caller)
at_stop true op i running caller = inl refl
at_stop false op i running caller = at_end op i running caller

pub at_stand : (op : Op) (wrapup : Bool) (started : Registers) (accessed : Bool) (call : Call) (there : Spot) → HasAbout call.replies (stands_at op wrapup started accessed call there)
at_stand op false started accessed call there = inl refl
at_stand op true started accessed call there =
    at_stop accessed op (slice_get op.wrapup there.at) (record { op = call.number; args = call.args; registers = there.registers; stand = _ }) (record { replies = call.replies; running = None })

pub about : (own : List SourceReply) (call : Call) (source caller : SourceCaller) → call.replies ≡ own → source ≡ caller → HasAbout call.replies caller → HasAbout own source
about own call source caller is same h = subst (λ (k : SourceCaller). HasAbout own k) (sym same) (subst (λ (k : List SourceReply). HasAbout k caller) is h)

pub replies_are : (a b : Call) → a ≡ b → a.replies ≡ b.replies
replies_are a b e = ap (λ (k : Call). k.replies) e

module _ (t : Plan) (s : Shared) (d : ℕ) (x : Caller) where
  walking : (core : Spot) (m : Trail t) → Walks t s d x core m → Stands t x m → HasAbout (replies_of x.entry) x.source
  walking core m w st = about (replies_of x.entry) m.walk.call x.source (stands_at m.walk.method.op m.walk.method.wrapup m.walk.started x.entry.hand.accessed m.walk.call m.there)
      (replies_are m.walk.call (call_of x.entry) w.call) st.stands (at_stand m.walk.method.op m.walk.method.wrapup m.walk.started x.entry.hand.accessed m.walk.call m.there)

  beginning : (walk : _) → Begins t s d x walk → HasAbout (replies_of x.entry) x.source
  beginning walk b = about (replies_of x.entry) walk.call x.source _ (replies_are walk.call (call_of x.entry) b.call) b.stands (at_stand walk.method.op walk.method.wrapup walk.started false walk.call _)

  in_list : (k : ℕ) → InExecutor t s d x k → HasAbout (replies_of x.entry) x.source
  in_list k e = inl (ap (λ (c : SourceCaller). c.replies) e.4 ∙ replies_are e.0.walk.call (call_of x.entry) e.1.call)

  behind_entry : (made : ℕ) (b : Bool) → AfterExchange t s d x made b → HasAbout (replies_of x.entry) x.source
  behind_entry made true e = in_list made e
  behind_entry made false e = about (replies_of x.entry) e.0.walk.call x.source _ (replies_are e.0.walk.call (call_of x.entry) e.1.call) e.4
      (at_stand e.0.walk.method.op true (with_count e.0.mirror made) false e.0.walk.call _)

  by_routine : (r : Routine) → HoldsAt t s d x r → HasAbout (replies_of x.entry) x.source
  by_routine Idle told = inl (ap (λ (c : SourceCaller). c.replies) told.2)
  by_routine (LoadSeen starts.Begin) told = inl (ap (λ (c : SourceCaller). c.replies) told.2)
  by_routine At told = walking (spot_of x.entry.hand) told.0 told.1 told.2
  by_routine (InList k) told = in_list k told
  by_routine (Retires retirement onward.Next) told = walking (record { at = x.entry.hand.at + 1; registers = x.entry.hand.registers }) told.1.0 told.1.1 told.1.2
  by_routine (Retires retirement (onward.List k)) told = behind_entry (k + 1) (nat_lt (k + 1) (length (list_of (instr_in t.target x.entry)))) told.1
  by_routine (Clears clears.New) told = walking (spot_of x.entry.hand) told.0 told.1 told.2
  by_routine (Clears (clears.Reply reply)) told = inr (_, ap (λ (c : SourceCaller). c.replies) told.0)
  by_routine (Claims claim) told = walking (spot_of x.entry.hand) told.1.0 told.1.1 told.1.2
  by_routine (Zeroes k field) told = walking (spot_of x.entry.hand) told.2.0 told.2.1 told.2.2
  by_routine (Announces announcing) told = absurd told
  by_routine _ told = beginning told.0 told.1

  pub running_agrees : CallerHolds t s d x → HasAbout (replies_of x.entry) x.source
  running_agrees told = by_routine x.entry.routine told.spot

  -- an idle caller's are all there are
  pub idle_agrees : CallerHolds t s d x → is_idle x.entry.routine ≡ true → x.source.replies ≡ replies_of x.entry
  idle_agrees told idle = of x.entry.routine idle told.spot where
    of : (r : Routine) → is_idle r ≡ true → HoldsAt t s d x r → x.source.replies ≡ replies_of x.entry
    of Idle idle spot = ap (λ (c : SourceCaller). c.replies) spot.2
    of (LoadSeen why) idle spot = absurd (let z : false ≡ true = idle in cc)
    of At idle spot = absurd (let z : false ≡ true = idle in cc)
    of (InList k) idle spot = absurd (let z : false ≡ true = idle in cc)
    of (Retires retirement go) idle spot = absurd (let z : false ≡ true = idle in cc)
    of Restarts idle spot = absurd (let z : false ≡ true = idle in cc)
    of (Clears next) idle spot = absurd (let z : false ≡ true = idle in cc)
    of (Claims claim) idle spot = absurd (let z : false ≡ true = idle in cc)
    of (Zeroes k field) idle spot = absurd (let z : false ≡ true = idle in cc)
    of (Announces announcing) idle spot = absurd spot
