-- A `new`: the call of a claim if its cradle is empty, its ends, and the zeroes.
use Rattle.std.specs.Prelude.{◌≡◌, ◌≢◌, ℕ, ◌+◌, ◌≤◌, ◌<◌, ◌^◌, false, List, [], ◌∷◌, Option, Some, None, length}
use Rattle.norm_lang.specs.declared.reply.SourceReply.TheVariants as source
use Rattle.norm_lang.specs.declared.text.Reg.TheVariants.{Ref}
use Rattle.norm_lang.specs.declared.text.Instr.TheVariants as instr
use Rattle.target_code.specs.declared.target.TargetInstr.TheVariants.{Plain}
use Rattle.target_code.specs.declared.target.Target.{Target}
use Rattle.guard_words.specs.Guards.{next_to_clear}
use Rattle.phase_pools.specs.declared.access.ClaimEnd.{ClaimEnd}
use Rattle.phase_pools.specs.declared.access.ClaimEnd.TheVariants as ends
use Rattle.phase_pools.specs.declared.stages.Scheme.TheVariants.{Warned}
use Rattle.phase_pools.specs.Pools.{Claim, claim_begun, claim_takes, claim_accepts}
use Rattle.caller_parts.specs.declared.routine.Routine.TheVariants.{At, Claims, Zeroes}
use Rattle.caller_parts.specs.KindCounts.{field_count}
use Rattle.caller_parts.specs.Operands.{news_before}
use Rattle.caller_parts.specs.Settings.{Setting, Fits, IsSetting}
use Rattle.caller_parts.specs.Spared.{none_spared}
use Rattle.caller_steps.specs.Entries.{Entry, code_in, instr_in, new_number, cradle_of}
use Rattle.caller_steps.specs.Wants.{wants}
use Rattle.caller_steps.specs.After.{after, counted, claim_counted, new_begun, slot_claimed, replied, with_routine}
use Rattle.caller_steps.specs.Asking.{CanAsk, CanAccept}
use Rattle.caller_steps.specs.Lawful.{MayBeTold}
use Rattle.c_language.specs.declared.lines.Answer.{Answer}
use Rattle.c_language.specs.declared.lines.Answer.TheVariants as answers
use Rattle.c_language.specs.declared.lines.Line.{Line}
use Rattle.c_language.specs.Steps.{Pool, Kept, Frame}
use Rattle.c_language.specs.Threads.{Thread, Replies, turn, lines_of}
use Rattle.c_runtime.specs.KindLines.{HasLines}
use Rattle.c_runtime.specs.ClaimLines.{claim_lines}
use Rattle.c_runtime.specs.ClaimFrames.{Quiet}
use Rattle.c_runtime.specs.ClaimFrames as frames
use Rattle.c_emission.specs.Ends.{new_block, new_size}
use Rattle.emission_laws.specs.Hands.{StandsFor}
use Rattle.emission_laws.specs.Making.{RunsFor, MakesAccess, GoesOn}
use Rattle.c_calls.specs.Turns.{Leads, Asks}

-- an entry stands at a `new` of a kind for a register, whose block stands in the lines of an operation from a line on; the claims of kinds are the
-- first functions. A method has at most four such of each kind
pub record AtNew (functions : List (List Line)) (target : Target) (e : Entry) (d kind op base : ℕ) : Type 0 where
  pub is : instr_in target e ≡ Some (Plain (instr.New (Ref d) kind))
  pub low : d < 8
  pub few : news_before kind (code_in target e) e.hand.at < 4
  pub has : HasLines (lines_of functions op) base (new_block base (Ref d) kind (new_number target e) (field_count target.fields kind))
  pub claims : lines_of functions kind ≡ claim_lines kind (length target.kinds)

-- none of its hazards is left to clear
abbrev pub HasCleared : Entry → Type 0
HasCleared e = next_to_clear e.hand.guards none_spared ≡ None

-- the line of a `new` after its clear, that after its call, and that of its first store
abbrev pub cradle_line : ℕ
cradle_line = 24

abbrev pub called_line : ℕ
called_line = 27

abbrev pub zeroes_line : ℕ
zeroes_line = 32

-- ---- where a thread stands

-- the operation runs, and no function waits
pub record Runs (op : ℕ) (thread : Thread) : Type 0 where
  pub function : thread.function ≡ op
  pub alone : thread.waiting ≡ []

-- before the store of 0 to a field of the slot in a cradle
pub record StandsZeroing (e : Entry) (k field base : ℕ) (f : Frame) : Type 0 where
  pub stands : StandsFor e e.hand.registers (base + zeroes_line + field) f
  pub slot : f.locals 30 ≡ cradle_of e k
  pub cleared : HasCleared e

-- the operation's frame while a claim runs, as if no bit were set
abbrev pub waiting_frame : ℕ → (ℕ → ℕ) → Kept → Frame
waiting_frame base locals kept = record { at = base + called_line; locals = locals; kept = record kept { noted = λ j. false } }

-- the claim of a kind runs, and the operation waits for its slot
pub record StandsClaiming (pool : Pool) (e : Entry) (claim : Claim) (kind op base : ℕ) (thread : Thread) : Type 0 where
  pub function : thread.function ≡ kind
  pub claims : frames.Stands pool.sizes claim thread.frame
  pub locals : ℕ → ℕ
  pub waits : thread.waiting ≡ record { function = op; at = base + called_line; locals = locals; result = 30 } ∷ []
  pub stands : StandsFor e e.hand.registers (base + called_line) (waiting_frame base locals thread.frame.kept)
  pub cleared : HasCleared e

-- an operation ends with an answer: its cradles are the entry's, no bit of a slot is set, and none of its hazards is left to clear
pub record EndsWith (pool : Pool) (functions : List (List Line)) (e : Entry) (answer : Answer) (x : ℕ) (thread : Thread) : Type 0 where
  pub replies : turn pool functions thread ≡ Replies answer x thread.frame.kept
  pub cradles : (k : ℕ) → k < 16 → thread.frame.kept.cradles k ≡ cradle_of e k
  pub quiet : Quiet thread.frame.kept
  pub cleared : HasCleared e

-- ---- what follows

-- after the clear: the claim if the cradle is empty, and the zeroes if it has a slot
pub record NewGoes (pool : Pool) (target : Target) (settled e : Entry) (kind op base : ℕ) (thread : Thread) : Type 0 where
  pub claims : cradle_of e (new_number target e) ≡ 0
      → (settled ≡ with_routine e (Claims (claim_begun pool.sizes kind Warned))) × StandsClaiming pool e (claim_begun pool.sizes kind Warned) kind op base thread
  pub zeroes : cradle_of e (new_number target e) ≢ 0
      → (settled ≡ with_routine e (Zeroes (new_number target e) 0)) × Runs op thread × StandsZeroing e (new_number target e) 0 base thread.frame

-- after an access of a claim: the claim goes on, or its slot is in the cradle and the zeroes come next, or the call ends
abbrev pub ClaimGoes : Pool → List (List Line) → Target → Entry → Entry → ℕ → ℕ → ℕ → Claim → Option ClaimEnd → Thread → Type 0
ClaimGoes pool functions target settled e kind op base claim None thread = (settled ≡ with_routine e (Claims claim)) × StandsClaiming pool e claim kind op base thread
ClaimGoes pool functions target settled e kind op base claim (Some (ends.Claimed j)) thread =
    (settled ≡ slot_claimed target j e) × Runs op thread × StandsZeroing (slot_claimed target j e) (new_number target e) 0 base thread.frame
ClaimGoes pool functions target settled e kind op base claim (Some ends.Full) thread =
    (settled ≡ replied source.Full (with_routine e At)) × EndsWith pool functions e answers.Full 0 thread
ClaimGoes pool functions target settled e kind op base claim (Some (ends.PhasesOver p)) thread =
    (settled ≡ replied (source.Phases p) (with_routine e At)) × EndsWith pool functions e answers.Phases p thread

-- the entry after an access of its claim, but for the routine
abbrev pub claiming_on : Setting → Entry → Claim → ℕ → Entry
claiming_on setting e claim word = claim_counted (claim_takes setting.sizes claim word) (counted e)

-- after a store of 0: the next field, or the next instruction, with the slot's reference in the register
pub record Zeroed (target : Target) (setting : Setting) (e : Entry) (kind k field base word : ℕ) (f : Frame) : Type 0 where
  pub more : field + 1 < field_count target.fields kind
      → (after target setting e word ≡ with_routine (counted e) (Zeroes k (field + 1))) × StandsZeroing (counted e) k (field + 1) base f
  pub ends : field_count target.fields kind ≤ field + 1 → GoesOn target setting e word (base + new_size (field_count target.fields kind)) f

-- the entry may ask for its access, and accept each word that it may be told: what `EntriesFitCode` of core_runs says of one that belongs
pub record IsFit (target : Target) (setting : Setting) (e : Entry) : Type 0 where
  pub asks : CanAsk target setting e e.routine
  pub accepts : (word : ℕ) → MayBeTold target setting (wants target e) word → CanAccept target setting e word e.routine

pub record NewsAreMade : Type 0 where
  -- the clear has ended
  pub begins : (pool : Pool) (functions : List (List Line)) (target : Target) (setting : Setting) (e : Entry) (d kind op base : ℕ) (here : Thread)
      → pool.sizes ≡ setting.sizes → IsSetting setting → Fits target setting → kind < length target.kinds → AtNew functions target e d kind op base
      → HasCleared e
      → Runs op here → StandsFor e e.hand.registers (base + cradle_line) here.frame
      → Leads pool functions here (NewGoes pool target (new_begun Warned target setting.sizes e) e kind op base)
  -- an access of the claim
  pub claims : (pool : Pool) (functions : List (List Line)) (target : Target) (setting : Setting) (e : Entry) (claim : Claim) (d kind op base : ℕ) (here : Thread)
      → RunsFor pool target setting e → setting.sizes.callers < 2 ^ 64 → Fits target setting → AtNew functions target e d kind op base
      → e.routine ≡ Claims claim → IsFit target setting e
      → StandsClaiming pool e claim kind op base here
      → Asks pool functions target setting e (StandsClaiming pool e claim kind op base)
      (λ word. ClaimGoes pool functions target (after target setting e word) (claiming_on setting e claim word) kind op base
      (claim_accepts setting.sizes setting.last claim word).claim (claim_accepts setting.sizes setting.last claim word).ended) here
  -- a store of 0
  pub zeroes : (pool : Pool) (functions : List (List Line)) (target : Target) (setting : Setting) (e : Entry) (d kind op k field base : ℕ) (here : Frame)
      → RunsFor pool target setting e → AtNew functions target e d kind op base → e.routine ≡ Zeroes k field → StandsZeroing e k field base here
      → MakesAccess pool (lines_of functions op) target setting e (Zeroed target setting e kind k field base) here
