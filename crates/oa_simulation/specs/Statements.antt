-- The statements of the simulation over runs of the core.
use Rattle.std.specs.Prelude.{ℕ, ◌≡◌, ◌⊎◌, Bool, true, false, List, [], ◌∷◌, ◌++◌, Option, Some, None, is_some, slice_get}
use Rattle.norm_lang.specs.declared.text.CasEntry.{CasEntry}
use Rattle.norm_lang.specs.declared.text.Instr.{Instr}
use Rattle.norm_lang.specs.declared.text.Instr.TheVariants as instr
use Rattle.norm_lang.specs.declared.text.Op.{Op}
use Rattle.norm_lang.specs.declared.text.Text.{Text}
use Rattle.norm_lang.specs.declared.text.FieldDecl.{FieldDecl}
use Rattle.target_code.specs.declared.target.Target.{Target}
use Rattle.target_code.specs.Barred.{IsBarred}
use Rattle.phase_pools.specs.Accesses.{WordAccess}
use Rattle.norm_lang.specs.declared.reply.SourceReply.{SourceReply}
use Rattle.source_machine.specs.declared.state.Memory.{Memory}
use Rattle.source_machine.specs.declared.state.Stand.{Stand}
use Rattle.source_machine.specs.declared.state.Stand.TheVariants.{InGenerator, InList, InWrapUp}
use Rattle.source_machine.specs.declared.state.SourceCaller.{SourceCaller}
use Rattle.source_machine.specs.declared.state.SourceMachine.{SourceMachine}
use Rattle.source_machine.specs.Memory.{exchange}
use Rattle.source_machine.specs.Step.{Performed, performed}
use Rattle.source_machine.specs.Run.{IsSourceRun, source_replies}
use Rattle.source_machine.specs.Proper.{IsProperFor}
use Rattle.caller_parts.specs.declared.routine.Routine.{Routine}
use Rattle.caller_parts.specs.declared.routine.Routine.TheVariants.{At, InList as InCoreList}
use Rattle.caller_parts.specs.Settings.{Setting, Fits, IsSetting}
use Rattle.caller_steps.specs.Entries.{Entry, is_idle, instr_in}
use Rattle.caller_steps.specs.Wants.{wants}
use Rattle.caller_parts.specs.Operands.{list_of, succeeds}
use Rattle.caller_steps.specs.Belongs.{cas_of}
use Rattle.core_runs.specs.Machine.{CoreState, CoreEvent, core_run, core_start, found_by}
use Rattle.target_laws.specs.target_runs.Runnable.{MayBeWalked}
use Rattle.oa_simulation.specs.sim_relation.Callers.{replies_of}
use Rattle.oa_simulation.specs.Shadow.{shadow, image}
use Rattle.caller_parts.specs.declared.setting.Reclamation.TheVariants.{Optimistic}

-- a caller's replies against the source's: those of the entry, and maybe one more if a call runs
abbrev pub AgreesWith : Bool → List SourceReply → List SourceReply → Type 0
AgreesWith true own source = source ≡ own
AgreesWith false own source = (source ≡ own) ⊎ ((reply : SourceReply) × (source ≡ own ++ reply ∷ []))

-- the replies agree
abbrev pub Agrees : CoreState → SourceMachine → Type 0
Agrees state machine = (c : ℕ) (e : Entry) → slice_get state.entries c ≡ Some e → AgreesWith (is_idle e.routine) (replies_of e) (source_replies machine c)

-- the exchange of the text that an entry makes next
abbrev pub core_exchange : Target → Entry → Routine → Option CasEntry
core_exchange target e At = cas_of (instr_in target e)
core_exchange target e (InCoreList k) = slice_get (list_of (instr_in target e)) k
core_exchange target e _ = None

abbrev pub exchange_of : Option Instr → Option CasEntry
exchange_of (Some (instr.Cas x l)) = Some x
exchange_of _ = None

abbrev pub stand_exchange : Op → Stand → Option CasEntry
stand_exchange op (InGenerator at) = exchange_of (slice_get op.generator at)
stand_exchange op (InList at entries made) = slice_get entries made
stand_exchange op (InWrapUp at started accessed) = exchange_of (slice_get op.wrapup at)

-- whether the exchange that the source's caller makes next succeeds
abbrev pub exchange_makes : List FieldDecl → Memory → Performed → Option CasEntry → Bool
exchange_makes fields memory here None = false
exchange_makes fields memory here (Some x) = is_some (exchange fields x here.running.registers memory)

abbrev pub performed_makes : List FieldDecl → Memory → Option Performed → Bool
performed_makes fields memory None = false
performed_makes fields memory (Some here) = exchange_makes fields memory here (stand_exchange here.op here.running.stand)

abbrev pub caller_makes : Text → Memory → Option SourceCaller → Bool
caller_makes text memory None = false
caller_makes text memory (Some caller) = performed_makes text.fields memory (performed text caller)

abbrev pub source_makes : Text → SourceMachine → ℕ → Bool
source_makes text machine c = caller_makes text machine.memory (slice_get machine.callers c)

-- an exchange of the text succeeds exactly if the source's does
abbrev pub ExchangesAgree : Target → Text → Setting → CoreState → SourceMachine → Type 0
ExchangesAgree target text setting state machine = (c : ℕ) (e : Entry) (x : CasEntry) (a : WordAccess) → slice_get state.entries c ≡ Some e → core_exchange target e e.routine ≡ Some x
    → wants target e ≡ Some a → succeeds x e.hand.registers (found_by setting state a) ≡ source_makes text machine c

-- both, of one core run
pub record Refined (target : Target) (text : Text) (setting : Setting) (events : List CoreEvent) (state : CoreState) : Type 0 where
  pub run : IsSourceRun text setting.sizes.callers (image target text setting events) (shadow target text setting events).machine
  pub agrees : Agrees state (shadow target text setting events).machine
  pub exchanges : ExchangesAgree target text setting state (shadow target text setting events).machine

-- of every core run of a barred target of a text, with a setting of optimistic access that fits it and for whose callers the text is proper
abbrev pub ForProper : (Target → Text → Setting → List CoreEvent → CoreState → Type 0) → Type 0
ForProper Holds = (target : Target) (text : Text) (setting : Setting) (events : List CoreEvent) (state : CoreState) → MayBeWalked target text → IsBarred target text → IsSetting setting → Fits target setting → setting.reclamation ≡ Optimistic → IsProperFor setting.sizes.callers text
    → core_run target setting events (core_start target setting) ≡ Some state → Holds target text setting events state

abbrev pub Refines : Type 0
Refines = ForProper Refined
