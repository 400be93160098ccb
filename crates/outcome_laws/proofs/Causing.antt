-- The steps of a call of `operate` or `resume`, one after another.
use Rattle.std.proofs.Common.{◌≡◌, ◌⊎◌, inl, inr, ⊎_elim, ℕ, ◌<◌, true, false, List, [], ◌∷◌, ◌++◌, length, Option, Some, None, refl, sym, ap, ◌∙◌, subst, arith, append_assoc}
use Rattle.std.proofs.lemmas.List.{append-nil, append_cancel_left}
use Rattle.norm_lang.specs.declared.reply.SourceReply.{SourceReply}
use Rattle.norm_lang.specs.declared.reply.SourceReply.TheVariants as replies
use Rattle.caller_parts.specs.declared.call.Call.{Call}
use Rattle.caller_parts.specs.declared.call.Replied.{Replied}
use Rattle.caller_parts.specs.Pairing.{replied_by}
use Rattle.caller_steps.specs.Entries.{Entry, is_idle}
use Rattle.caller_steps.specs.After.{taken, counted}
use Rattle.claim_laws.specs.CallSteps.{StepMade}
use Rattle.claim_laws.specs.Causes.{IsCaused, FoundNeither}
use Rattle.claim_laws.proofs.Lasts.{never_nil}
use Rattle.claim_laws.proofs.Onward.{first_before}
use Rattle.claim_laws.proofs.Causing.{Unfinished, GoesOn, GetsReply, step_caused}
use Rattle.word_runner.specs.table_rule.Seen.{Fixed}
use Rattle.word_runner.specs.table_rule.Plays.{next, Steps}
use Rattle.word_runner.specs.declared.caller.Outcome.{Outcome}
use Rattle.word_runner.specs.declared.caller.Outcome.TheVariants as outcomes
use Rattle.word_runner.specs.Shown.{Operated}
use Rattle.word_runner.specs.Outcome.{Replies, answer_of}
use Rattle.outcome_laws.specs.Outcomes.{steps_from, OutcomeIsCaused, OutcomesAreCaused}
use Rattle.core_runs.proofs.Keeping.{first_busy}

never : (e : Entry) → is_idle e.routine ≡ true → is_idle e.routine ≡ false → ⊥
never e idle busy = let no : true ≡ false = sym idle ∙ busy in cc

-- the call goes on after the steps, or has ended with a reply that they caused
record Goes (key : Fixed) (e : Entry) (steps : List StepMade) (later : Entry) : Type 0 where
  pub busy : is_idle later.routine ≡ false
  pub replies : later.replies ≡ e.replies
  pub unfinished : Unfinished key.setting later steps

record Gets (key : Fixed) (e : Entry) (steps : List StepMade) (later : Entry) : Type 0 where
  pub idle : is_idle later.routine ≡ true
  pub last : Replied
  pub replies : later.replies ≡ e.replies ++ last ∷ []
  pub caused : IsCaused key.setting last.reply steps

abbrev Turns : Fixed → Entry → List StepMade → Entry → Type 0
Turns key e steps later = Goes key e steps later ⊎ Gets key e steps later

-- one step
turn : (key : Fixed) (e : Entry) (steps : List StepMade) (word : ℕ) → Unfinished key.setting e steps → is_idle e.routine ≡ false → Turns key e (steps ++ record { entry = e; found = word } ∷ []) (next key e word)
turn key e steps word u busy =
    let mid = next key e word in
    let all : List StepMade = steps ++ record { entry = e; found = word } ∷ [] in
    ⊎_elim
    (λ (t : GoesOn key.setting e all mid). inl (record { busy = t.0; replies = t.1; unfinished = t.2 }))
    (λ (t : GetsReply key.setting e all mid). inr (record { idle = t.0; last = replied_by t.1 (counted e).running; replies = t.2; caused = t.3 }))
    (step_caused key.target.target key.setting e steps word u busy)

-- steps after a step
turns_then : (key : Fixed) (e mid later : Entry) (steps : List StepMade) → mid.replies ≡ e.replies → Turns key mid steps later → Turns key e steps later
turns_then key e mid later steps same turns = ⊎_elim
    (λ (t : Goes key mid steps later). inl (record { busy = t.busy; replies = t.replies ∙ same; unfinished = t.unfinished }))
    (λ (t : Gets key mid steps later). inr (record { idle = t.idle; last = t.last; replies = t.replies ∙ ap (λ (l : List Replied). l ++ t.last ∷ []) same; caused = t.caused }))
    turns

-- all steps
turns : (key : Fixed) (words : List ℕ) (e later : Entry) (steps : List StepMade) → Unfinished key.setting e steps → is_idle e.routine ≡ false → Steps key e words later → Turns key e (steps ++ steps_from key e words) later
turns key [] e later steps u busy made = inl (record {
  busy = ap (λ (x : Entry). is_idle x.routine) made ∙ busy;
  replies = ap (λ (x : Entry). x.replies) made;
  unfinished = subst (λ (x : Entry). Unfinished key.setting x (steps ++ [])) (sym made) (subst (Unfinished key.setting e) (sym (append-nil steps)) u);
})
turns key (word ∷ []) e later steps u busy made = subst (Turns key e (steps ++ record { entry = e; found = word } ∷ [])) (sym made.1) (turn key e steps word u busy)
turns key (word ∷ more ∷ words) e later steps u busy made =
    let s : StepMade = record { entry = e; found = word } in
    let mid = next key e word in
    ⊎_elim
    (λ (t : Goes key e (steps ++ s ∷ []) mid).
    subst (λ (l : List StepMade). Turns key e l later) (append_assoc steps (s ∷ []) (steps_from key mid (more ∷ words)))
    (turns_then key e mid later ((steps ++ s ∷ []) ++ steps_from key mid (more ∷ words)) t.replies (turns key (more ∷ words) mid later (steps ++ s ∷ []) t.unfinished t.busy made.1)))
    (λ (t : Gets key e (steps ++ s ∷ []) mid). absurd (never mid t.idle made.1.0))
    (turn key e steps word u busy)

-- ---- what an outcome tells

none_found : (key : Fixed) (e : Entry) (steps : List StepMade) → Unfinished key.setting e steps → Unfinished key.setting e []
none_found key e steps u = record { before = u.before; neither = record { phases = λ p f. never_nil f.before f.step f.later f.among; full = λ f. never_nil f.0 f.1 [] f.2 } }

begins : (key : Fixed) (e : Entry) (call : Call) → Unfinished key.setting (taken key.setting.reclamation call e) []
begins key e call = record { before = first_before key.setting.reclamation; neither = record { phases = λ p f. never_nil f.before f.step f.later f.among; full = λ f. never_nil f.0 f.1 [] f.2 } }

-- by the reply that the call got
by_reply : (key : Fixed) (steps : List StepMade) (outcome : Outcome) (reply : SourceReply) → answer_of outcome ≡ Some reply → IsCaused key.setting reply steps → OutcomeIsCaused key.setting outcome steps
by_reply key steps (outcomes.Replied (Some n)) reply is c =
    let number : reply ≡ replies.Number n = cc in
    record { phases = λ p. ((λ e. absurd cc), (λ f. let z : replies.Number n ≡ replies.Phases p = sym number ∙ (c.phases p).1 f in absurd cc)); full = ((λ e. absurd cc), (λ f. let z : replies.Number n ≡ replies.Full = sym number ∙ c.full.1 f in absurd cc)) }
by_reply key steps (outcomes.Replied None) reply is c =
    let nothing : reply ≡ replies.Nothing = cc in
    record { phases = λ p. ((λ e. absurd cc), (λ f. let z : replies.Nothing ≡ replies.Phases p = sym nothing ∙ (c.phases p).1 f in absurd cc)); full = ((λ e. absurd cc), (λ f. let z : replies.Nothing ≡ replies.Full = sym nothing ∙ c.full.1 f in absurd cc)) }
by_reply key steps outcomes.Full reply is c =
    let full' : reply ≡ replies.Full = cc in
    record { phases = λ p. ((λ e. absurd cc), (λ f. let z : replies.Full ≡ replies.Phases p = sym full' ∙ (c.phases p).1 f in absurd cc)); full = ((λ e. c.full.0 full'), (λ f. refl)) }
by_reply key steps (outcomes.PhasesOver p) reply is c =
    let over : reply ≡ replies.Phases p = cc in
    record {
      phases = λ q. ((λ e. let same : p ≡ q = cc in (c.phases q).0 (over ∙ ap replies.Phases same)), (λ f. let z : replies.Phases p ≡ replies.Phases q = sym over ∙ (c.phases q).1 f in let same : p ≡ q = cc in ap outcomes.PhasesOver same));
      full = ((λ e. absurd cc), (λ f. let z : replies.Phases p ≡ replies.Full = sym over ∙ c.full.1 f in absurd cc));
    }
by_reply key steps outcomes.Spent reply is c = absurd (let z : None ≡ Some reply = is in cc)

-- if the call runs on
by_none : (key : Fixed) (steps : List StepMade) (outcome : Outcome) → answer_of outcome ≡ None → FoundNeither key.setting steps → OutcomeIsCaused key.setting outcome steps
by_none key steps (outcomes.Replied (Some n)) is found = absurd (let z : Some (replies.Number n) ≡ None = is in cc)
by_none key steps (outcomes.Replied None) is found = absurd (let z : Some replies.Nothing ≡ None = is in cc)
by_none key steps outcomes.Full is found = absurd (let z : Some replies.Full ≡ None = is in cc)
by_none key steps (outcomes.PhasesOver p) is found = absurd (let z : Some (replies.Phases p) ≡ None = is in cc)
by_none key steps outcomes.Spent is found = record { phases = λ p. ((λ e. absurd cc), (λ f. absurd (found.phases p f))); full = ((λ e. absurd cc), (λ f. absurd (found.full f))) }

only : (a b : Replied) → a ∷ [] ≡ b ∷ [] → a ≡ b
only a b is = cc

steps_busy : (key : Fixed) (e later : Entry) (words : List ℕ) → 0 < length words → Steps key e words later → is_idle e.routine ≡ false
steps_busy key e later [] some' made = absurd (omega (arith, some'))
steps_busy key e later (word ∷ words) some' made = made.0

concluded : (key : Fixed) (e later : Entry) (call : Call) (steps : List StepMade) (outcome : Outcome) (o : Option SourceReply) → answer_of outcome ≡ o → Replies e call o later → Turns key e steps later → OutcomeIsCaused key.setting outcome steps
concluded key e later call steps outcome (Some reply) is told turns' = ⊎_elim
    (λ (t : Goes key e steps later). absurd (never later told.0 t.busy))
    (λ (t : Gets key e steps later).
    let given : Replied = record { call = call; reply = reply; steps = later.running.steps } in
    let same : t.last ≡ given = only t.last given (append_cancel_left e.replies (t.last ∷ []) (given ∷ []) (sym t.replies ∙ told.1)) in
    by_reply key steps outcome reply is (subst (λ (r : SourceReply). IsCaused key.setting r steps) (ap (λ (r : Replied). r.reply) same) t.caused))
    turns'
concluded key e later call steps outcome None is told turns' = ⊎_elim
    (λ (t : Goes key e steps later). by_none key steps outcome is t.unfinished.neither)
    (λ (t : Gets key e steps later). absurd (never later t.idle told.0))
    turns'

-- a call of an entry whose earlier steps found neither cause
called : (key : Fixed) (e later : Entry) (call : Call) (budget accesses : ℕ) (outcome : Outcome) → Unfinished key.setting e [] → (made : Operated key e budget later accesses) → Replies e call (answer_of outcome) later
    → OutcomeIsCaused key.setting outcome (steps_from key e made.words)
called key e later call budget accesses outcome u made told =
    let some' : 0 < length made.words = let a = made.each in let b = made.some in omega arith in
    let busy = steps_busy key e later made.words some' made.advances in
    concluded key e later call (steps_from key e made.words) outcome (answer_of outcome) refl told (turns key made.words e later [] u busy made.advances)

follow : (key : Fixed) (e mid later : Entry) (words more : List ℕ) → Steps key e words mid → Steps key mid more later → Steps key e (words ++ more) later
follow key e mid later [] more h k = subst (λ (x : Entry). Steps key x more later) h k
follow key e mid later (word ∷ words) more h k = (h.0, follow key (next key e word) mid later words more h.1 k)

retaken : (key : Fixed) (e later : Entry) (call : Call) (o : Option SourceReply) → Replies e call o later → Replies (taken key.setting.reclamation call e) call o later
retaken key e later call (Some reply) h = h
retaken key e later call None h = h

-- a call that was taken, after some of its steps, if it still runs
so_far : (key : Fixed) (begun e : Entry) (call : Call) (earlier : List ℕ) → is_idle e.routine ≡ false → Steps key (taken key.setting.reclamation call begun) earlier e → Unfinished key.setting e []
so_far key begun e call earlier busy made = ⊎_elim
    (λ (t : Goes key (taken key.setting.reclamation call begun) (steps_from key (taken key.setting.reclamation call begun) earlier) e). none_found key e (steps_from key (taken key.setting.reclamation call begun) earlier) t.unfinished)
    (λ (t : Gets key (taken key.setting.reclamation call begun) (steps_from key (taken key.setting.reclamation call begun) earlier) e). absurd (never e t.idle busy))
    (turns key earlier (taken key.setting.reclamation call begun) e [] (begins key begun call) (first_busy key.setting.reclamation) made)

pub outcomes_are_caused : (key : Fixed) → OutcomesAreCaused key
outcomes_are_caused key = record {
  operates = λ e later call budget accesses outcome made told. called key (taken key.setting.reclamation call e) later call budget accesses outcome (begins key e call) made (retaken key e later call (answer_of outcome) told);
  resumes = λ begun e later call earlier budget accesses outcome steps made told.
      let some' : 0 < length made.words = let a = made.each in let b = made.some in omega arith in
      called key e later e.running.call budget accesses outcome (so_far key begun e call earlier (steps_busy key e later made.words some' made.advances) steps) made told;
  follow = λ e mid later words more h k. follow key e mid later words more h k;
}
