-- What a step that isn't one of a claim does: it adds no reply but an answer, claims nothing, keeps cradles unless it publishes,
-- and begins a claim, if it comes to one, at an empty cradle; and past a list nothing leads back to a claim but `again`.
--
-- One lemma for each small definition of `after`. What is said of the entry before speaks of its parts, so that one whose hand or
-- cradles have changed may stand in its place.
use Rattle.std.proofs.Common.{ℕ, zero, suc, ◌≡◌, ◌==◌, ◌+◌, Bool, true, false, refl, sym, subst, List, [], ◌∷◌, ◌++◌, length, Option, Some, None, if◌then◌else◌}
use Rattle.std.specs.Prelude.{slice_get, slice_set, nat_lt}
use Rattle.norm_lang.specs.declared.text.Reg.{Reg}
use Rattle.norm_lang.specs.declared.text.Reg.TheVariants.{Num, Ref}
use Rattle.norm_lang.specs.declared.text.CasEntry.{CasEntry}
use Rattle.norm_lang.specs.declared.text.Instr.{Instr}
use Rattle.norm_lang.specs.declared.registers.Registers.{Registers}
use Rattle.norm_lang.specs.Registers.{number_in, with_count}
use Rattle.norm_lang.specs.Local.{Spot}
use Rattle.target_code.specs.declared.target.TargetInstr.{TargetInstr}
use Rattle.target_code.specs.declared.target.TargetInstr.TheVariants.{Plain, Check, Guard}
use Rattle.target_code.specs.declared.target.Target.{Target}
use Rattle.guard_words.specs.Guards.{pass_check, with_guard}
use Rattle.oa_words.specs.Words.{Sizes}
use Rattle.phase_pools.specs.declared.stages.Scheme.{Scheme}
use Rattle.phase_pools.specs.declared.stages.Scheme.TheVariants.{Warned, Announced}
use Rattle.phase_pools.specs.Pools.{claim_begun, Retirement, retire_accepts}
use Rattle.caller_parts.specs.declared.routine.AfterClear.{AfterClear}
use Rattle.caller_parts.specs.declared.routine.AfterRetire.{AfterRetire}
use Rattle.caller_parts.specs.declared.routine.Announcing.{Announcing}
use Rattle.caller_parts.specs.declared.routine.Announcing.TheVariants as announces
use Rattle.caller_parts.specs.declared.setting.Reclamation.{Reclamation}
use Rattle.caller_parts.specs.declared.setting.Reclamation.TheVariants.{Optimistic, Epochs}
use Rattle.caller_parts.specs.declared.routine.Routine.{Routine}
use Rattle.caller_parts.specs.declared.routine.Routine.TheVariants.{Idle, LoadSeen, At, InList, Retires, Restarts, Clears, Claims, Zeroes, Announces}
use Rattle.caller_parts.specs.Settings.{Setting}
use Rattle.caller_steps.specs.Entries.{Entry, is_idle, instr_in, new_kind, new_number, zero_count, cradle_of}
use Rattle.caller_parts.specs.Operands.{with_word, slot_in, register_number, list_of, succeeds, to_retire, with_new}
use Rattle.caller_steps.specs.Clearing.{restart_next, clear_next, unguarded}
use Rattle.caller_steps.specs.Signs.{quiet}
use Rattle.caller_steps.specs.After.{with_routine, with_hand, run_to, new_on, new_begun, then_goes, clear_on, cleared, wrap_up_hand, list_ended, list_begun, plain_stop, wrap_up_stop, wrap_up_stops, wrap_up_begun, announced_list, announced_stop, stop_at, stops, stopped, settles, goes_on, first_spot, method_begun, restart_on, restarted, is_wrap_up, generator_begun, check_passed, check_failed, checked, checked_by, guarded_by, with_restart, with_access, list_on, list_goes, list_failed, onward_goes, retires_then, cas_failed, cas_ended, plain_accepted, instr_accepted, with_published, entry_ended, list_accepted, retired_on, node_made, zeroed, accepted, counted, after, slot_gained, first_routine}
use Rattle.caller_parts.specs.Pairing.{replied_by}
use Rattle.norm_lang.specs.declared.text.Instr.TheVariants as instr
use Rattle.norm_lang.specs.declared.reply.SourceReply.{SourceReply}
use Rattle.norm_lang.specs.declared.reply.SourceReply.TheVariants as replies
use Rattle.caller_parts.specs.declared.routine.AfterClear.TheVariants as clears
use Rattle.caller_parts.specs.declared.routine.AfterRetire.TheVariants as retires

-- an operation's own answer: a number, or nothing
abbrev pub IsAnswer : SourceReply → Type 0
IsAnswer (replies.Number n) = Unit {0}
IsAnswer replies.Nothing = Unit {0}
IsAnswer replies.Full = ⊥
IsAnswer (replies.Phases p) = ⊥

abbrev pub IsOfAnswer : AfterClear → Type 0
IsOfAnswer (clears.Reply reply) = IsAnswer reply
IsOfAnswer _ = Unit {0}

-- what is added when an announcement is withdrawn is an answer
abbrev pub LeavesWithAnswer : Announcing → Type 0
LeavesWithAnswer (announces.Loads why) = Unit {0}
LeavesWithAnswer (announces.Stores why phase) = Unit {0}
LeavesWithAnswer (announces.Leaves reply) = IsAnswer reply

-- where it stands after the step
abbrev pub StandsAfter : Sizes → Entry → Entry → Routine → Type 0
StandsAfter sizes before later Idle = (reply : SourceReply) × IsAnswer reply × (later.replies ≡ before.replies ++ replied_by reply before.running ∷ [])
StandsAfter sizes before later (Clears next) = IsOfAnswer next
StandsAfter sizes before later (Announces announcing) = LeavesWithAnswer announcing
StandsAfter sizes before later (Claims claim) = (kind : ℕ) × (scheme : Scheme) × (claim ≡ claim_begun sizes kind scheme)
StandsAfter sizes before later _ = Unit {0}

abbrev pub Answers : Sizes → Entry → Entry → Type 0
Answers sizes before later = (later.counts.claims ≡ before.counts.claims) × StandsAfter sizes before later later.routine

-- a claim has just begun at an empty cradle
abbrev pub ClaimStarts : Target → Entry → Routine → Type 0
ClaimStarts target later (Claims claim) = cradle_of later (new_number target later) ≡ 0
ClaimStarts target later _ = Unit {0}

-- the store of an announcement comes after its load alone
abbrev pub IsNoStoreOf : Announcing → Type 0
IsNoStoreOf (announces.Loads why) = Unit {0}
IsNoStoreOf (announces.Stores why phase) = ⊥
IsNoStoreOf (announces.Leaves reply) = Unit {0}

abbrev pub IsNoStore : Routine → Type 0
IsNoStore (Announces announcing) = IsNoStoreOf announcing
IsNoStore _ = Unit {0}

-- cradles stay, and a wrap-up stays one
abbrev pub KeepsFrom : Target → List ℕ → Bool → Entry → Type 0
KeepsFrom target cradles wrapup later =
    (later.cradles ≡ cradles) × (wrapup ≡ true → later.hand.wrapup ≡ true) × ClaimStarts target later later.routine × IsNoStore later.routine

abbrev pub Keeps : Target → Entry → Entry → Type 0
Keeps target before later = KeepsFrom target before.cradles before.hand.wrapup later

-- in a list, or in the wrap-up after it, until the phase was loaded that is announced for another run of the generator
abbrev pub IsPastAt : Entry → Routine → Type 0
IsPastAt e (InList k) = Unit {0}
IsPastAt e (Retires retirement (retires.List k)) = Unit {0}
IsPastAt e (Claims claim) = ⊥
IsPastAt e (Announces (announces.Stores why phase)) = ⊥
IsPastAt e _ = e.hand.wrapup ≡ true

abbrev pub IsPast : Entry → Type 0
IsPast e = IsPastAt e e.routine

-- a step that isn't one of a claim keeps cradles and wrap-ups, and answers
abbrev pub MovesFrom : Target → Sizes → Bool → Entry → Entry → Type 0
MovesFrom target sizes wrapup before later = KeepsFrom target before.cradles wrapup later × Answers sizes before later

abbrev pub Moves : Target → Sizes → Entry → Entry → Type 0
Moves target sizes before later = MovesFrom target sizes before.hand.wrapup before later

module _ (target : Target) (sizes : Sizes) where
  -- at an instruction
  here : (e : Entry) → Moves target sizes e (with_routine e At)
  here e = ((refl, (λ w. w), tt, tt), (refl, tt))

  -- nothing happened
  same : (e : Entry) (routine : Routine) → e.routine ≡ routine → ClaimStarts target e routine → IsNoStore routine → StandsAfter sizes e e routine → Moves target sizes e e
  same e routine is starts no_store stands =
      ((refl, (λ w. w), subst (ClaimStarts target e) (sym is) starts, subst IsNoStore (sym is) no_store), (refl, subst (StandsAfter sizes e e) (sym is) stands))

  -- at a `new`
  new_moves : (scheme : Scheme) (e : Entry) → Moves target sizes e (new_begun scheme target sizes e)
  new_moves scheme e = of (cradle_of e (new_number target e)) refl where
    of : (j : ℕ) → cradle_of e (new_number target e) ≡ j → Moves target sizes e (new_on scheme sizes (new_kind target e) (new_number target e) j e)
    of zero is = ((refl, (λ w. w), is, tt), (refl, (new_kind target e, scheme, refl)))
    of (suc j) is = ((refl, (λ w. w), tt, tt), (refl, tt))

  -- what a clear adds at its end is an answer
  abbrev MovesIf : AfterClear → Entry → Entry → Type 0
  MovesIf next before later = Keeps target before later × (IsOfAnswer next → Answers sizes before later)

  then_moves : (next : AfterClear) (e : Entry) → MovesIf next e (then_goes target sizes next e)
  then_moves clears.New e = let k = new_moves Warned e in (k.0, (λ of_answer. k.1))
  then_moves clears.WrapUp e = ((refl, (λ w. w), tt, tt), (λ of_answer. (refl, tt)))
  then_moves (clears.Reply reply) e = ((refl, (λ w. w), tt, tt), (λ of_answer. (refl, (reply, of_answer, refl))))
  then_moves clears.Again e = ((refl, (λ w. w), tt, tt), (λ of_answer. (refl, tt)))

  cleared_if : (next : AfterClear) (e : Entry) → MovesIf next e (cleared target sizes next e)
  cleared_if next e = of (clear_next target next e) where
    of : (o : Option ℕ) → MovesIf next e (clear_on target sizes next o e)
    of None = then_moves next e
    of (Some r) = ((refl, (λ w. w), tt, tt), (λ of_answer. (refl, of_answer)))

  cleared_moves : (next : AfterClear) (e : Entry) → IsOfAnswer next → Moves target sizes e (cleared target sizes next e)
  cleared_moves next e of_answer = let k = cleared_if next e in (k.0, k.1 of_answer)

  ended_moves : (made : ℕ) (e : Entry) → Moves target sizes e (list_ended target sizes made e)
  ended_moves made e = let k = cleared_moves clears.WrapUp (with_hand e (wrap_up_hand made e.hand)) tt in ((k.0.0, (λ w. k.0.1 refl), k.0.2, k.0.3), k.1)

  begun_list_moves : (exchanges : List CasEntry) (e : Entry) → Moves target sizes e (list_begun target sizes exchanges e).entry
  begun_list_moves [] e = ended_moves 0 e
  begun_list_moves (exchange ∷ exchanges) e = ((refl, (λ w. w), tt, tt), (refl, tt))

  plain_moves : (i : Instr) (e : Entry) → Moves target sizes e (plain_stop target sizes i e).entry
  plain_moves (instr.New d kind) e = cleared_moves clears.New e tt
  plain_moves (instr.Commit exchanges) e = begun_list_moves exchanges e
  plain_moves (instr.Return a) e = cleared_moves (clears.Reply (replies.Number (number_in e.hand.registers a))) e tt
  plain_moves instr.ReturnNone e = cleared_moves (clears.Reply replies.Nothing) e tt
  plain_moves instr.Again e = cleared_moves clears.Again e tt
  plain_moves _ e = here e

  -- ---- under epochs

  stop_moves : (i : Instr) (e : Entry) → Moves target sizes e (wrap_up_stop i e).entry
  stop_moves (instr.Return a) e = ((refl, (λ w. w), tt, tt), (refl, tt))
  stop_moves instr.ReturnNone e = ((refl, (λ w. w), tt, tt), (refl, tt))
  stop_moves instr.Again e = ((refl, (λ w. w), tt, tt), (refl, tt))
  stop_moves _ e = here e

  stops_moves : (o : Option TargetInstr) (e : Entry) → Moves target sizes e (wrap_up_stops o e).entry
  stops_moves (Some (Plain i)) e = stop_moves i e
  stops_moves _ e = here e

  -- the wrap-up has run from its start
  abbrev wrapped : ℕ → Entry → Entry
  wrapped made e = run_to target (record { at = 0; registers = with_count e.hand.registers made }) (with_hand e (wrap_up_hand made e.hand))

  wrap_up_moves : (made : ℕ) (e : Entry) → Moves target sizes e (wrap_up_begun target made e).entry
  wrap_up_moves made e = let k = stops_moves (instr_in target (wrapped made e)) (wrapped made e) in ((k.0.0, (λ w. k.0.1 refl), k.0.2, k.0.3), k.1)

  announced_list_moves : (exchanges : List CasEntry) (e : Entry) → Moves target sizes e (announced_list target exchanges e).entry
  announced_list_moves [] e = wrap_up_moves 0 e
  announced_list_moves (exchange ∷ exchanges) e = ((refl, (λ w. w), tt, tt), (refl, tt))

  announced_moves : (i : Instr) (e : Entry) → Moves target sizes e (announced_stop target sizes i e).entry
  announced_moves (instr.New d kind) e = new_moves (Announced e.number) e
  announced_moves (instr.Commit exchanges) e = announced_list_moves exchanges e
  announced_moves i e = stop_moves i e

  -- ---- where local code stops

  stop_at_moves : (by : Reclamation) (i : Instr) (e : Entry) → Moves target sizes e (stop_at by target sizes i e).entry
  stop_at_moves Optimistic i e = plain_moves i e
  stop_at_moves Epochs i e = announced_moves i e

  stopped_moves : (by : Reclamation) (e : Entry) → Moves target sizes e (stopped by target sizes e).entry
  stopped_moves by e = of (instr_in target e) where
    of : (o : Option TargetInstr) → Moves target sizes e (stops by target sizes o e).entry
    of (Some (Plain i)) = stop_at_moves by i e
    of _ = here e

  settles_moves : (by : Reclamation) (spot : Spot) (e : Entry) → Moves target sizes e (settles by target sizes spot e).entry
  settles_moves by spot e = stopped_moves by (run_to target spot e)

  begun_moves : (wrapup : Bool) (e : Entry) → MovesFrom target sizes wrapup e (method_begun target sizes wrapup e).entry
  begun_moves wrapup e = settles_moves Optimistic (first_spot wrapup e.running.call.args e.hand.started) (with_hand e (record e.hand { wrapup = wrapup; accessed = false }))

  generator_moves : (e : Entry) → MovesFrom target sizes false e (generator_begun target sizes e).entry
  generator_moves e = settles_moves Epochs (first_spot false e.running.call.args e.hand.started) (with_hand e (record e.hand { wrapup = false; accessed = false }))

  restarted_moves : (e : Entry) → Moves target sizes e (restarted target sizes e).entry
  restarted_moves e = of (restart_next target e) where
    of : (o : Option ℕ) → Moves target sizes e (restart_on target sizes o e).entry
    of None = begun_moves e.hand.wrapup e
    of (Some r) = ((refl, (λ w. w), tt, tt), (refl, tt))

  on_moves : (by : Reclamation) (registers : Registers) (e : Entry) → Moves target sizes e (goes_on by target sizes registers e).entry
  on_moves by registers e = settles_moves by (record { at = e.hand.at + 1; registers = registers }) e

  list_moves : (k : ℕ) (e : Entry) → Moves target sizes e (list_on target sizes k e)
  list_moves k e = of (nat_lt (k + 1) (length (list_of (instr_in target e)))) where
    of : (b : Bool) → Moves target sizes e (if b then with_routine e (InList (k + 1)) else list_ended target sizes (k + 1) e)
    of true = ((refl, (λ w. w), tt, tt), (refl, tt))
    of false = ended_moves (k + 1) e

  list_goes_moves : (by : Reclamation) (k : ℕ) (e : Entry) → Moves target sizes e (list_goes by target sizes k e).entry
  list_goes_moves Optimistic k e = list_moves k e
  list_goes_moves Epochs k e = of (nat_lt (k + 1) (length (list_of (instr_in target e)))) where
    of : (b : Bool) → Moves target sizes e (if b then quiet (with_routine e (InList (k + 1))) else wrap_up_begun target (k + 1) e).entry
    of true = ((refl, (λ w. w), tt, tt), (refl, tt))
    of false = wrap_up_moves (k + 1) e

  pub failed_moves : (by : Reclamation) (k : ℕ) (e : Entry) → Moves target sizes e (list_failed by target sizes k e).entry
  failed_moves Optimistic k e = ended_moves k e
  failed_moves Epochs k e = wrap_up_moves k e

  onward_moves : (by : Reclamation) (go : AfterRetire) (e : Entry) → Moves target sizes e (onward_goes by target sizes go e).entry
  onward_moves by retires.Next e = on_moves by e.hand.registers e
  onward_moves by (retires.List k) e = list_goes_moves by k e

  retires_moves : (by : Reclamation) (go : AfterRetire) (slot : ℕ) (e : Entry) → Moves target sizes e (retires_then by target sizes go slot e).entry
  retires_moves by go zero e = onward_moves by go e
  retires_moves by go (suc j) e = ((refl, (λ w. w), tt, tt), (refl, tt))

  cas_moves : (by : Reclamation) (exchange : CasEntry) (l word : ℕ) (e : Entry) → Moves target sizes e (cas_ended by target sizes exchange l word e).entry
  cas_moves by exchange l word e = of (succeeds exchange e.hand.registers word) where
    of : (b : Bool) → Moves target sizes e (if b then retires_then by target sizes retires.Next (to_retire exchange.retire e.hand.registers) e else cas_failed by target sizes l e).entry
    of true = retires_moves by retires.Next (to_retire exchange.retire e.hand.registers) e
    of false = settles_moves by (record { at = l; registers = e.hand.registers }) e

  checked_moves : (word : ℕ) (e : Entry) → Moves target sizes e (checked target sizes word e).entry
  checked_moves word e = of (word == e.hand.seen) where
    of : (b : Bool) → Moves target sizes e (if b then check_passed target sizes e else check_failed target sizes word e).entry
    of true = on_moves Optimistic e.hand.registers (with_hand e (record e.hand { guards = pass_check e.hand.guards }))
    of false = restarted_moves (with_hand (with_restart e) (record e.hand { seen = word; accessed = false }))

  checked_by_moves : (by : Reclamation) (word : ℕ) (e : Entry) → e.routine ≡ At → Moves target sizes e (checked_by by target sizes word e).entry
  checked_by_moves Optimistic word e is = checked_moves word e
  checked_by_moves Epochs word e is = same e At is tt tt tt

  guarded_by_moves : (by : Reclamation) (r : Reg) (e : Entry) → e.routine ≡ At → Moves target sizes e (guarded_by by target sizes r e).entry
  guarded_by_moves Optimistic r e is =
      on_moves Optimistic e.hand.registers (with_hand e (record e.hand { guards = with_guard e.hand.guards (register_number r) (slot_in e.hand.registers r) }))
  guarded_by_moves Epochs r e is = same e At is tt tt tt

  accepted_plain : (by : Reclamation) (i : Instr) (word : ℕ) (e : Entry) → e.routine ≡ At → Moves target sizes e (plain_accepted by target sizes i word e).entry
  accepted_plain by (instr.LoadRoot d x) word e is = on_moves by (with_word e.hand.registers d word) (with_access e)
  accepted_plain by (instr.LoadPick d x n a) word e is = on_moves by (with_word e.hand.registers d word) (with_access e)
  accepted_plain by (instr.LoadField d a f) word e is = on_moves by (with_word e.hand.registers d word) (with_access e)
  accepted_plain by (instr.Put a f b) word e is = on_moves by e.hand.registers e
  accepted_plain by (instr.Cas exchange l) word e is = cas_moves by exchange l word (with_access e)
  accepted_plain by _ word e is = same e At is tt tt tt

  accepted_instr : (by : Reclamation) (o : Option TargetInstr) (word : ℕ) (e : Entry) → e.routine ≡ At → Moves target sizes e (instr_accepted by target sizes o word e).entry
  accepted_instr by None word e is = same e At is tt tt tt
  accepted_instr by (Some (Plain i)) word e is = accepted_plain by i word e is
  accepted_instr by (Some Check) word e is = checked_by_moves by word e is
  accepted_instr by (Some (Guard r)) word e is = guarded_by_moves by r e is

  published_answers : (r : Reg) (e later : Entry) → Answers sizes (with_published r e) later → Answers sizes e later
  published_answers (Num r) e later turns = turns
  published_answers (Ref r) e later turns = turns

  entry_answers : (by : Reclamation) (k : ℕ) (exchange : CasEntry) (word : ℕ) (e : Entry) → Answers sizes e (entry_ended by target sizes k exchange word e).entry
  entry_answers by k exchange word e = of (succeeds exchange e.hand.registers word) where
    of : (b : Bool) → Answers sizes e (if b then retires_then by target sizes (retires.List k) (to_retire exchange.retire e.hand.registers) (with_published exchange.replacement e) else list_failed by target sizes k e).entry
    of true =
        let published = with_published exchange.replacement e in
        published_answers exchange.replacement e (retires_then by target sizes (retires.List k) (to_retire exchange.retire e.hand.registers) published).entry
        (retires_moves by (retires.List k) (to_retire exchange.retire e.hand.registers) published).1
    of false = (failed_moves by k e).1

  list_accepted_answers : (by : Reclamation) (k : ℕ) (o : Option CasEntry) (word : ℕ) (e : Entry) → e.routine ≡ InList k → Answers sizes e (list_accepted by target sizes k o word e).entry
  list_accepted_answers by k None word e is = (same e (InList k) is tt tt tt).1
  list_accepted_answers by k (Some exchange) word e is = entry_answers by k exchange word e

  retired_moves : (by : Reclamation) (go : AfterRetire) (o : Option Retirement) (e : Entry) → Moves target sizes e (retired_on by target sizes go o e).entry
  retired_moves by go None e = onward_moves by go (with_routine e At)
  retired_moves by go (Some retirement) e = ((refl, (λ w. w), tt, tt), (refl, tt))

  zeroed_moves : (by : Reclamation) (k field : ℕ) (e : Entry) → Moves target sizes e (zeroed by target sizes k field e).entry
  zeroed_moves by k field e = of (nat_lt (field + 1) (zero_count target (instr_in target e))) where
    of : (b : Bool) → Moves target sizes e (if b then quiet (with_routine e (Zeroes k (field + 1))) else node_made by target sizes (cradle_of e k) e).entry
    of true = ((refl, (λ w. w), tt, tt), (refl, tt))
    of false = on_moves by (with_new (instr_in target e) (cradle_of e k) e.hand.registers) e

  cleared_out : (o : Option ℕ) (e : Entry) (later : Entry) → Keeps target (with_hand e (unguarded o e.hand)) later → Keeps target e later
  cleared_out None e later k = k
  cleared_out (Some r) e later k = k

  -- ---- lists

  ended_past : (made : ℕ) (e : Entry) → IsPast (list_ended target sizes made e)
  ended_past made e = of (clear_next target clears.WrapUp (with_hand e (wrap_up_hand made e.hand))) where
    of : (o : Option ℕ) → IsPast (clear_on target sizes clears.WrapUp o (with_hand e (wrap_up_hand made e.hand)))
    of None = refl
    of (Some r) = refl

  stop_past : (i : Instr) (e : Entry) → e.hand.wrapup ≡ true → IsPast (wrap_up_stop i e).entry
  stop_past (instr.Return a) e w = w
  stop_past _ e w = w

  stops_past : (o : Option TargetInstr) (e : Entry) → e.hand.wrapup ≡ true → IsPast (wrap_up_stops o e).entry
  stops_past (Some (Plain i)) e w = stop_past i e w
  stops_past _ e w = w

  wrap_up_past : (made : ℕ) (e : Entry) → IsPast (wrap_up_begun target made e).entry
  wrap_up_past made e = stops_past (instr_in target (wrapped made e)) (wrapped made e) refl

  list_past : (k : ℕ) (e : Entry) → IsPast (list_on target sizes k e)
  list_past k e = of (nat_lt (k + 1) (length (list_of (instr_in target e)))) where
    of : (b : Bool) → IsPast (if b then with_routine e (InList (k + 1)) else list_ended target sizes (k + 1) e)
    of true = tt
    of false = ended_past (k + 1) e

  list_goes_past : (by : Reclamation) (k : ℕ) (e : Entry) → IsPast (list_goes by target sizes k e).entry
  list_goes_past Optimistic k e = list_past k e
  list_goes_past Epochs k e = of (nat_lt (k + 1) (length (list_of (instr_in target e)))) where
    of : (b : Bool) → IsPast (if b then quiet (with_routine e (InList (k + 1))) else wrap_up_begun target (k + 1) e).entry
    of true = tt
    of false = wrap_up_past (k + 1) e

  failed_past : (by : Reclamation) (k : ℕ) (e : Entry) → IsPast (list_failed by target sizes k e).entry
  failed_past Optimistic k e = ended_past k e
  failed_past Epochs k e = wrap_up_past k e

  retires_past : (by : Reclamation) (k slot : ℕ) (e : Entry) → IsPast (retires_then by target sizes (retires.List k) slot e).entry
  retires_past by k zero e = list_goes_past by k e
  retires_past by k (suc j) e = tt

  entry_past : (by : Reclamation) (k : ℕ) (exchange : CasEntry) (word : ℕ) (e : Entry) → IsPast (entry_ended by target sizes k exchange word e).entry
  entry_past by k exchange word e = of (succeeds exchange e.hand.registers word) where
    of : (b : Bool) → IsPast (if b then retires_then by target sizes (retires.List k) (to_retire exchange.retire e.hand.registers) (with_published exchange.replacement e) else list_failed by target sizes k e).entry
    of true = retires_past by k (to_retire exchange.retire e.hand.registers) (with_published exchange.replacement e)
    of false = failed_past by k e

  list_accepted_past : (by : Reclamation) (k : ℕ) (o : Option CasEntry) (word : ℕ) (e : Entry) → e.routine ≡ InList k → IsPast (list_accepted by target sizes k o word e).entry
  list_accepted_past by k None word e is = subst (IsPastAt e) (sym is) tt
  list_accepted_past by k (Some exchange) word e is = entry_past by k exchange word e

  retired_past : (by : Reclamation) (k : ℕ) (o : Option Retirement) (e : Entry) → IsPast (retired_on by target sizes (retires.List k) o e).entry
  retired_past by k None e = list_goes_past by k (with_routine e At)
  retired_past by k (Some retirement) e = tt

-- ---- each step

-- if the step isn't one of a claim or of a list, the caller holds its cradles, a wrap-up stays one, and a claim begins at an empty cradle
abbrev pub StepKeeps : Target → Entry → Entry → Routine → Type 0
StepKeeps target before later Idle = Unit {0}
StepKeeps target before later (LoadSeen why) = KeepsFrom target before.cradles (is_wrap_up why) later
StepKeeps target before later (InList k) = IsPast later
StepKeeps target before later (Retires retirement (retires.List k)) = (later.cradles ≡ before.cradles) × IsPast later
StepKeeps target before later (Claims claim) = Unit {0}
StepKeeps target before later (Announces (announces.Loads why)) = (later.cradles ≡ before.cradles) × (phase : ℕ) × (later.routine ≡ Announces (announces.Stores why phase))
StepKeeps target before later (Announces (announces.Stores why phase)) = KeepsFrom target before.cradles false later
StepKeeps target before later _ = Keeps target before later

step_keeps : (by : Reclamation) (target : Target) (setting : Setting) (word : ℕ) (e : Entry) (routine : Routine) → e.routine ≡ routine → StepKeeps target e (accepted by target setting word e routine).entry routine
step_keeps by target setting word e Idle is = tt
step_keeps by target setting word e (LoadSeen why) is = (begun_moves target setting.sizes (is_wrap_up why) (with_hand e (record e.hand { seen = word }))).0
step_keeps by target setting word e At is = (accepted_instr target setting.sizes by (instr_in target e) word e is).0
step_keeps by target setting word e (InList k) is = list_accepted_past target setting.sizes by k (slice_get (list_of (instr_in target e)) k) word e is
step_keeps by target setting word e (Retires retirement retires.Next) is = (retired_moves target setting.sizes by retires.Next (retire_accepts retirement word) e).0
step_keeps by target setting word e (Retires retirement (retires.List k)) is =
    ((retired_moves target setting.sizes by (retires.List k) (retire_accepts retirement word) e).0.0, retired_past target setting.sizes by k (retire_accepts retirement word) e)
step_keeps by target setting word e Restarts is =
    cleared_out target setting.sizes (restart_next target e) e (restarted target setting.sizes (with_hand e (unguarded (restart_next target e) e.hand))).entry (restarted_moves target setting.sizes (with_hand e (unguarded (restart_next target e) e.hand))).0
step_keeps by target setting word e (Clears next) is =
    cleared_out target setting.sizes (clear_next target next e) e (cleared target setting.sizes next (with_hand e (unguarded (clear_next target next e) e.hand))) (cleared_if target setting.sizes next (with_hand e (unguarded (clear_next target next e) e.hand))).0
step_keeps by target setting word e (Claims claim) is = tt
step_keeps by target setting word e (Announces (announces.Loads why)) is = (refl, word, refl)
step_keeps by target setting word e (Announces (announces.Stores why phase)) is = (generator_moves target setting.sizes e).0
step_keeps by target setting word e (Announces (announces.Leaves reply)) is = (refl, (λ w. w), tt, tt)
step_keeps by target setting word e (Zeroes k field) is = (zeroed_moves target setting.sizes by k field e).0

pub after_keeps : (target : Target) (setting : Setting) (e : Entry) (word : ℕ) → StepKeeps target (counted e) (after target setting e word) e.routine
unfolding after
after_keeps target setting e word = step_keeps setting.reclamation target setting word (counted e) e.routine refl

-- where it stands before a step: what a clear adds at its end is an answer, and so is what is added when an announcement is withdrawn
abbrev pub IsBefore : Routine → Type 0
IsBefore (Clears next) = IsOfAnswer next
IsBefore (Announces announcing) = LeavesWithAnswer announcing
IsBefore _ = Unit {0}

-- and so before the first of a call
pub first_before : (by : Reclamation) → IsBefore (first_routine by)
first_before Optimistic = tt
first_before Epochs = tt

-- a step that isn't one of a claim
abbrev pub IsNoClaim : Routine → Type 0
IsNoClaim (Claims claim) = ⊥
IsNoClaim Idle = ⊥
IsNoClaim _ = Unit {0}

-- a claim ended with a slot, which goes into the cradle
pub record Gains (target : Target) (j : ℕ) (e later : Entry) : Type 0 where
  pub busy : is_idle later.routine ≡ false
  pub before : IsBefore later.routine
  pub other : IsNoClaim later.routine
  pub replies : later.replies ≡ e.replies
  pub claims : later.counts.claims ≡ e.counts.claims
  pub running : later.running ≡ e.running
  pub cradles : later.cradles ≡ slice_set e.cradles (new_number target e) j

pub slot_gains : (by : Reclamation) (target : Target) (swept j : ℕ) (e : Entry) → Gains target j e (slot_gained by target swept j e)
slot_gains Epochs target zero j e = record { busy = refl; before = tt; other = tt; replies = refl; claims = refl; running = refl; cradles = refl }
slot_gains _ target _ j e = record { busy = refl; before = tt; other = tt; replies = refl; claims = refl; running = refl; cradles = refl }

step_answers : (by : Reclamation) (target : Target) (setting : Setting) (word : ℕ) (e : Entry) (routine : Routine) → e.routine ≡ routine → IsBefore routine → IsNoClaim routine
    → Answers setting.sizes e (accepted by target setting word e routine).entry
step_answers by target setting word e Idle is before other = absurd other
step_answers by target setting word e (LoadSeen why) is before other = (begun_moves target setting.sizes (is_wrap_up why) (with_hand e (record e.hand { seen = word }))).1
step_answers by target setting word e At is before other = (accepted_instr target setting.sizes by (instr_in target e) word e is).1
step_answers by target setting word e (InList k) is before other = list_accepted_answers target setting.sizes by k (slice_get (list_of (instr_in target e)) k) word e is
step_answers by target setting word e (Retires retirement go) is before other = (retired_moves target setting.sizes by go (retire_accepts retirement word) e).1
step_answers by target setting word e Restarts is before other = (restarted_moves target setting.sizes (with_hand e (unguarded (restart_next target e) e.hand))).1
step_answers by target setting word e (Clears next) is before other = (cleared_moves target setting.sizes next (with_hand e (unguarded (clear_next target next e) e.hand)) before).1
step_answers by target setting word e (Claims claim) is before other = absurd other
step_answers by target setting word e (Announces (announces.Loads why)) is before other = (refl, tt)
step_answers by target setting word e (Announces (announces.Stores why phase)) is before other = (generator_moves target setting.sizes e).1
step_answers by target setting word e (Announces (announces.Leaves reply)) is before other = (refl, (reply, before, refl))
step_answers by target setting word e (Zeroes k field) is before other = (zeroed_moves target setting.sizes by k field e).1

pub after_answers : (target : Target) (setting : Setting) (e : Entry) (word : ℕ) → IsBefore e.routine → IsNoClaim e.routine → Answers setting.sizes (counted e) (after target setting e word)
unfolding after
after_answers target setting e word before other = step_answers setting.reclamation target setting word (counted e) e.routine refl before other
