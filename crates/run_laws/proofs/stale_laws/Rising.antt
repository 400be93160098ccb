-- No access of an entry that belongs lowers a warning word.
use Rattle.std.proofs.Common.{List, ℕ, zero, suc, ◌≡◌, ◌≤◌, ◌+◌, ◌∙◌, max, Option, Some, None, arith, sym, subst, refl}
use Rattle.std.specs.Prelude.{slice_get}
use Rattle.norm_lang.specs.declared.text.Place.{Place}
use Rattle.norm_lang.specs.declared.text.Place.TheVariants as places
use Rattle.norm_lang.specs.declared.text.CasEntry.{CasEntry}
use Rattle.norm_lang.specs.declared.text.Instr.{Instr}
use Rattle.norm_lang.specs.declared.text.Instr.TheVariants as instr
use Rattle.norm_lang.specs.declared.registers.Registers.{Registers}
use Rattle.target_code.specs.declared.target.TargetInstr.{TargetInstr}
use Rattle.target_code.specs.declared.target.TargetInstr.TheVariants.{Plain, Check, Guard}
use Rattle.target_code.specs.declared.target.Target.{Target}
use Rattle.norm_lang.specs.declared.text.FieldDecl.{FieldDecl}
use Rattle.norm_lang.specs.KindFields.{place_of}
use Rattle.norm_lang.specs.Registers.{number_in}
use Rattle.norm_lang.specs.Local.{remainder}
use Rattle.oa_words.specs.Words.{Word, Phase, Warning, Hazard, Status, FieldOf, Cell, Head, Link}
use Rattle.oa_words.specs.Memories.{store}
use Rattle.phase_pools.specs.declared.stages.Scheme.{Scheme}
use Rattle.phase_pools.specs.declared.stages.Scheme.TheVariants.{Warned, Announced}
use Rattle.phase_pools.specs.declared.stages.SweepStage.{SweepStage}
use Rattle.phase_pools.specs.declared.stages.SweepStage.TheVariants as sweeps
use Rattle.phase_pools.specs.declared.stages.ClaimStage.{ClaimStage}
use Rattle.phase_pools.specs.declared.stages.ClaimStage.TheVariants as claims
use Rattle.phase_pools.specs.declared.stages.RetireStage.{RetireStage}
use Rattle.phase_pools.specs.declared.stages.RetireStage.TheVariants as retires
use Rattle.phase_pools.specs.Accesses.{WordAccess, Loads, word_of, word_after}
use Rattle.phase_pools.specs.Pools.{Sweep, warn_wanted, sweep_wants_at, claim_wants_at, retire_wants_at}
use Rattle.caller_parts.specs.declared.routine.Routine.{Routine}
use Rattle.caller_parts.specs.declared.routine.Routine.TheVariants.{Idle, LoadSeen, At, InList, Retires, Restarts, Clears, Claims, Zeroes, Announces}
use Rattle.caller_steps.specs.Entries.{Entry, instr_in}
use Rattle.caller_parts.specs.Operands.{list_of, slot_in, word_in}
use Rattle.caller_parts.specs.Settings.{Setting}
use Rattle.caller_steps.specs.Belongs.{Belongs, ClaimStands, Stands}
use Rattle.caller_steps.specs.Clearing.{restart_next, clear_next}
use Rattle.caller_steps.specs.Wants.{wants, wanted, instr_wanted, plain_wanted, list_wanted, clear_wanted, exchange_wanted, place_exchange, object_exchange}
use Rattle.oa_simulation.proofs.sim_relation.Words.{store_idle, each_warning}
use Rattle.caller_parts.specs.declared.setting.Reclamation.TheVariants.{Optimistic}
use Rattle.oa_simulation.proofs.sim_relation.Schemes.{claim_warned, never_stands}

abbrev Rises : WordAccess → Type 0
Rises a = (m : Word → ℕ) (d : ℕ) → m (Warning d) ≤ store m (word_of a) (word_after a (m (word_of a))) (Warning d)

abbrev AllRise : Option WordAccess → Type 0
AllRise None = Unit {0}
AllRise (Some a) = Rises a

loads : (w : Word) → Rises (Loads w)
loads w m d = subst (λ (k : Word → ℕ). m (Warning d) ≤ k (Warning d)) (store_idle m w) (omega arith)

object : (slot f expected replacement : ℕ) → Rises (object_exchange slot f expected replacement)
object zero f expected replacement = loads (FieldOf 0 f)
object (suc j) f expected replacement = λ m d. omega arith

place : (fields : List FieldDecl) (p : Place) (registers : Registers) (expected replacement : ℕ) → Rises (place_exchange fields p registers expected replacement)
place fields (places.Root x) registers expected replacement = λ m d. omega arith
place fields (places.Field a f) registers expected replacement = object (slot_in registers a) (place_of fields f) expected replacement

exchanges : (fields : List FieldDecl) (entry : CasEntry) (registers : Registers) → Rises (exchange_wanted fields entry registers)
exchanges fields entry registers = place fields entry.place registers (word_in registers entry.expected) (word_in registers entry.replacement)

plain : (fields : List FieldDecl) (i : Instr) (registers : Registers) → AllRise (plain_wanted fields i registers)
plain fields (instr.LoadRoot d x) registers = loads (Cell x)
plain fields (instr.LoadPick d x count a) registers = loads (Cell (x + remainder (number_in registers a) count))
plain fields (instr.LoadField d a f) registers = loads (FieldOf (slot_in registers a) (place_of fields f))
plain fields (instr.Put a f b) registers = λ m d. omega arith
plain fields (instr.Cas exchange l) registers = exchanges fields exchange registers
plain fields _ registers = tt

by_instr : (fields : List FieldDecl) (c : ℕ) (o : Option TargetInstr) (registers : Registers) → AllRise (instr_wanted fields c o registers)
by_instr fields c None registers = tt
by_instr fields c (Some (Plain i)) registers = plain fields i registers
by_instr fields c (Some Check) registers = loads (Warning c)
by_instr fields c (Some (Guard r)) registers = λ m d. omega arith

by_entry : (fields : List FieldDecl) (o : Option CasEntry) (registers : Registers) → AllRise (list_wanted fields o registers)
by_entry fields None registers = tt
by_entry fields (Some entry) registers = exchanges fields entry registers

clears : (c : ℕ) (o : Option ℕ) → AllRise (clear_wanted c o)
clears c None = tt
clears c (Some r) = λ m d. omega arith

by_warning : (scheme : Scheme) (c bound : ℕ) → Rises (warn_wanted scheme c bound)
by_warning Warned c bound = λ m d. each_warning (λ i n. m (Warning i) ≤ n) m c (max (m (Warning c)) bound) (omega arith) (λ i ne. omega arith) d
by_warning (Announced own) c bound = loads (Warning c)

by_sweep : (tops : ℕ) (scheme : Scheme) (stage : SweepStage) (bound : ℕ) → Rises (sweep_wants_at tops scheme stage bound)
by_sweep tops scheme sweeps.ReadPhase bound = loads Phase
by_sweep tops scheme (sweeps.Warn c) bound = by_warning scheme c bound
by_sweep tops scheme (sweeps.ReadHazard c r) bound = loads (Hazard c r)
by_sweep tops scheme (sweeps.ReadStatus j) bound = loads (Status j)
by_sweep tops scheme (sweeps.PushHead k j) bound = loads (Head k)
by_sweep tops scheme _ bound = λ m d. omega arith

by_claim : (setting : Setting) (k : ℕ) (sweep : Sweep) (stage : ClaimStage) → sweep.scheme ≡ Warned → ClaimStands setting sweep.scheme k stage → Rises (claim_wants_at sweep.tops k sweep stage)
by_claim setting k sweep claims.ReadHead warns stands = loads (Head k)
by_claim setting k sweep (claims.ReadLink q t) warns stands = loads (Link t)
by_claim setting k sweep (claims.Take q t next) warns stands = λ m d. omega arith
by_claim setting k sweep (claims.StoreUsed q t) warns stands = λ m d. omega arith
by_claim setting k sweep (claims.Withdraw own) warns stands = absurd (let no : Warned ≡ Announced own = sym warns ∙ stands in cc)
by_claim setting k sweep claims.Sweeps warns stands = by_sweep sweep.tops sweep.scheme sweep.stage sweep.bound

by_retirement : (slot : ℕ) (stage : RetireStage) → Rises (retire_wants_at slot stage)
by_retirement slot retires.ReadPhase = loads Phase
by_retirement slot (retires.StoreStatus p) = λ m d. omega arith

by_routine : (target : Target) (setting : Setting) (e : Entry) (r : Routine) → setting.reclamation ≡ Optimistic → Stands target setting e r → AllRise (wanted target e r)
by_routine target setting e Idle optimistic stands = tt
by_routine target setting e (LoadSeen why) optimistic stands = loads (Warning e.number)
by_routine target setting e At optimistic stands = by_instr target.fields e.number (instr_in target e) e.hand.registers
by_routine target setting e (InList k) optimistic stands = by_entry target.fields (slice_get (list_of (instr_in target e)) k) e.hand.registers
by_routine target setting e (Retires retirement go) optimistic stands = by_retirement retirement.slot retirement.stage
by_routine target setting e Restarts optimistic stands = clears e.number (restart_next target e)
by_routine target setting e (Clears next) optimistic stands = clears e.number (clear_next target next e)
by_routine target setting e (Claims claim) optimistic stands = by_claim setting claim.kind claim.sweep claim.stage (claim_warned setting e.number claim optimistic stands.1) stands.1.stands
by_routine target setting e (Zeroes k field) optimistic stands = λ m d. omega arith
by_routine target setting e (Announces announcing) optimistic stands = absurd (never_stands target setting e (Announces announcing) optimistic stands announcing refl)

pub warnings_rise : (target : Target) (setting : Setting) (e : Entry) (a : WordAccess) → setting.reclamation ≡ Optimistic → Belongs target setting e → wants target e ≡ Some a → (m : Word → ℕ) (d : ℕ) → m (Warning d) ≤ store m (word_of a) (word_after a (m (word_of a))) (Warning d)
unfolding wants
warnings_rise target setting e a optimistic belongs is = subst AllRise is (by_routine target setting e e.routine optimistic belongs.stands)
