-- The word that a store found doesn't matter.
use Rattle.std.proofs.Common.{List, ◌≡◌, ◌∙◌, ℕ, zero, suc, Bool, Option, Some, None, refl, ap}
use Rattle.std.specs.Prelude.{slice_get}
use Rattle.norm_lang.specs.declared.text.Place.{Place}
use Rattle.norm_lang.specs.declared.text.Place.TheVariants as places
use Rattle.norm_lang.specs.declared.text.CasEntry.{CasEntry}
use Rattle.norm_lang.specs.declared.text.Instr.{Instr}
use Rattle.norm_lang.specs.declared.text.Instr.TheVariants as instr
use Rattle.norm_lang.specs.declared.registers.Registers.{Registers}
use Rattle.norm_lang.specs.declared.text.FieldDecl.{FieldDecl}
use Rattle.norm_lang.specs.KindFields.{place_of}
use Rattle.target_code.specs.declared.target.TargetInstr.{TargetInstr}
use Rattle.target_code.specs.declared.target.TargetInstr.TheVariants.{Plain, Check}
use Rattle.target_code.specs.declared.target.Target.{Target}
use Rattle.oa_words.specs.Words.{Word, Sizes}
use Rattle.phase_pools.specs.Accesses.{WordAccess, Stores}
use Rattle.phase_pools.specs.declared.stages.SweepStage.{SweepStage}
use Rattle.phase_pools.specs.declared.stages.SweepStage.TheVariants as sweeps
use Rattle.phase_pools.specs.declared.stages.ClaimStage.{ClaimStage}
use Rattle.phase_pools.specs.declared.stages.ClaimStage.TheVariants as claims
use Rattle.phase_pools.specs.declared.stages.RetireStage.{RetireStage}
use Rattle.phase_pools.specs.declared.stages.RetireStage.TheVariants as retires
use Rattle.phase_pools.specs.declared.stages.Scheme.{Scheme}
use Rattle.phase_pools.specs.declared.stages.Scheme.TheVariants.{Warned, Announced}
use Rattle.phase_pools.specs.Pools.{Sweep, warn_wanted, sweep_wants_at, sweep_accepts_at, Claim, ClaimTurn, claim_wants, claim_wants_at, claim_accepts, claim_accepts_at, claim_sweeps, claim_takes, takes_at, Retirement, retire_wants_at, retire_accepts_at}
use Rattle.caller_parts.specs.declared.routine.Routine.{Routine}
use Rattle.caller_parts.specs.declared.routine.Routine.TheVariants.{LoadSeen, At, InList, Retires, Claims, Announces}
use Rattle.caller_parts.specs.declared.routine.Announcing.TheVariants as announces
use Rattle.caller_parts.specs.declared.setting.Reclamation.{Reclamation}
use Rattle.caller_parts.specs.Settings.{Setting}
use Rattle.caller_steps.specs.Entries.{Entry, instr_in}
use Rattle.caller_parts.specs.Operands.{list_of, slot_in, word_in}
use Rattle.caller_steps.specs.Wants.{exchange_wanted, instr_wanted, list_wanted, object_exchange, place_exchange, plain_wanted, wanted, wants}
use Rattle.caller_steps.specs.Signs.{Moved}
use Rattle.caller_steps.specs.After.{accepted, after, claim_counted, claimed, counted, instr_accepted, moved, plain_accepted, retired_on, signs}

-- no store
abbrev IsNoStore : WordAccess → Type 0
IsNoStore a = (w : Word) (x : ℕ) → a ≡ Stores w x → ⊥

exchange_no_store : (fields : List FieldDecl) (exchange : CasEntry) (registers : Registers) → IsNoStore (exchange_wanted fields exchange registers)
exchange_no_store fields exchange registers = of exchange.place where
  by_slot : (j f expected replacement : ℕ) → IsNoStore (object_exchange j f expected replacement)
  by_slot zero f expected replacement w x is = cc
  by_slot (suc j) f expected replacement w x is = cc

  of : (place : Place) → IsNoStore (place_exchange fields place registers (word_in registers exchange.expected) (word_in registers exchange.replacement))
  of (places.Root c) w x is = cc
  of (places.Field a f) w x is = by_slot (slot_in registers a) (place_of fields f) (word_in registers exchange.expected) (word_in registers exchange.replacement) w x is

warn_no_store : (scheme : Scheme) (c s : ℕ) → IsNoStore (warn_wanted scheme c s)
warn_no_store Warned c s w x is = cc
warn_no_store (Announced own) c s w x is = cc

-- a claim's stores are of a status, of a link, and of the caller's own warning
sweep_store : (n : Sizes) (last tops : ℕ) (sweep : Sweep) (stage : SweepStage) (w : Word) (x a b : ℕ) → sweep_wants_at tops sweep.scheme stage sweep.bound ≡ Stores w x
    → sweep_accepts_at n last sweep a stage ≡ sweep_accepts_at n last sweep b stage
sweep_store n last tops sweep (sweeps.Warn c) w x a b is = absurd (warn_no_store sweep.scheme c sweep.bound w x is)
sweep_store n last tops sweep (sweeps.PushLink j q t) w x a b is = refl
sweep_store n last tops sweep _ w x a b is = absurd cc

-- the claim after a store, and whether it took a slot
claim_store : (n : Sizes) (last tops : ℕ) (claim : Claim) (stage : ClaimStage) (w : Word) (x a b : ℕ) → claim_wants_at tops claim.kind claim.sweep stage ≡ Stores w x
    → (claim_accepts_at n last claim a stage ≡ claim_accepts_at n last claim b stage) × (takes_at n.tops stage a ≡ takes_at n.tops stage b)
claim_store n last tops claim (claims.StoreUsed q t) w x a b is = (refl, refl)
claim_store n last tops claim (claims.Withdraw own) w x a b is = (refl, refl)
claim_store n last tops claim claims.Sweeps w x a b is = (ap (claim_sweeps claim) (sweep_store n last tops claim.sweep claim.sweep.stage w x a b is), refl)
claim_store n last tops claim _ w x a b is = absurd cc

plain_store : (by : Reclamation) (target : Target) (sizes : Sizes) (i : Instr) (registers : Registers) (w : Word) (x a b : ℕ) (e : Entry) → plain_wanted target.fields i registers ≡ Some (Stores w x) → plain_accepted by target sizes i a e ≡ plain_accepted by target sizes i b e
plain_store by target sizes (instr.LoadRoot d y) registers w x a b e is = absurd cc
plain_store by target sizes (instr.LoadPick d y n r) registers w x a b e is = absurd cc
plain_store by target sizes (instr.LoadField d r f) registers w x a b e is = absurd cc
plain_store by target sizes (instr.Cas exchange l) registers w x a b e is = absurd (exchange_no_store target.fields exchange registers w x (let same : exchange_wanted target.fields exchange registers ≡ Stores w x = cc in same))
plain_store by target sizes (instr.Put r f v) registers w x a b e is = refl
plain_store by target sizes _ registers w x a b e is = refl

instr_store : (by : Reclamation) (target : Target) (sizes : Sizes) (c : ℕ) (o : Option TargetInstr) (registers : Registers) (w : Word) (x a b : ℕ) (e : Entry) → instr_wanted target.fields c o registers ≡ Some (Stores w x) → instr_accepted by target sizes o a e ≡ instr_accepted by target sizes o b e
instr_store by target sizes c (Some (Plain i)) registers w x a b e is = plain_store by target sizes i registers w x a b e is
instr_store by target sizes c (Some Check) registers w x a b e is = absurd cc
instr_store by target sizes c _ registers w x a b e is = refl

list_no_store : (fields : List FieldDecl) (o : Option CasEntry) (registers : Registers) (w : Word) (x : ℕ) → list_wanted fields o registers ≡ Some (Stores w x) → ⊥
list_no_store fields None registers w x is = cc
list_no_store fields (Some exchange) registers w x is = exchange_no_store fields exchange registers w x (let same : exchange_wanted fields exchange registers ≡ Stores w x = cc in same)

retire_store : (slot : ℕ) (stage : RetireStage) (w : Word) (x a b : ℕ) → retire_wants_at slot stage ≡ Stores w x → retire_accepts_at slot a stage ≡ retire_accepts_at slot b stage
retire_store slot retires.ReadPhase w x a b is = absurd cc
retire_store slot (retires.StoreStatus p) w x a b is = refl

some_same : (a b : WordAccess) → Some a ≡ Some b → a ≡ b
some_same a b is = cc

step_store : (by : Reclamation) (target : Target) (setting : Setting) (e : Entry) (routine : Routine) (w : Word) (x a b : ℕ) → wanted target e routine ≡ Some (Stores w x)
    → accepted by target setting a (counted e) routine ≡ accepted by target setting b (counted e) routine
step_store by target setting e (LoadSeen why) w x a b is = absurd cc
step_store by target setting e At w x a b is = instr_store by target setting.sizes e.number (instr_in target e) e.hand.registers w x a b (counted e) is
step_store by target setting e (InList k) w x a b is = absurd (list_no_store target.fields (slice_get (list_of (instr_in target e)) k) e.hand.registers w x is)
step_store by target setting e (Retires retirement go) w x a b is =
    ap (λ (o : Option Retirement). retired_on by target setting.sizes go o (counted e)) (retire_store retirement.slot retirement.stage w x a b (some_same (retire_wants_at retirement.slot retirement.stage) (Stores w x) is))
step_store by target setting e (Claims claim) w x a b is =
    let same = claim_store setting.sizes setting.last claim.sweep.tops claim claim.stage w x a b (some_same (claim_wants claim) (Stores w x) is) in
    ap (λ (turn : ClaimTurn). claimed by target turn (claim_counted (claim_takes setting.sizes claim a) (counted e))) same.0
    ∙ ap (λ (takes : Bool). claimed by target (claim_accepts setting.sizes setting.last claim b) (claim_counted takes (counted e))) same.1
step_store by target setting e (Announces (announces.Loads why)) w x a b is = absurd cc
step_store by target setting e _ w x a b is = refl

pub moved_store : (by : Reclamation) (target : Target) (setting : Setting) (e : Entry) (w : Word) (x a b : ℕ) → wants target e ≡ Some (Stores w x) → moved by target setting e a ≡ moved by target setting e b
unfolding wants
moved_store by target setting e w x a b is = step_store by target setting e e.routine w x a b is

pub after_store : (target : Target) (setting : Setting) (e : Entry) (w : Word) (x a b : ℕ) → wants target e ≡ Some (Stores w x)
    → (after target setting e a ≡ after target setting e b) × (signs target setting e a ≡ signs target setting e b)
unfolding after signs
after_store target setting e w x a b is = let same = moved_store setting.reclamation target setting e w x a b is in (ap (λ (m : Moved). m.entry) same, ap (λ (m : Moved). m.signs) same)
