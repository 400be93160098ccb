-- What an outcome says, from the steps that were made.
use Rattle.std.proofs.Common.{◌≡◌, ◌⊎◌, ℕ, true, false, List, [], ◌∷◌, ◌++◌, Option, Some, None, sym, ap, ◌∙◌, subst, ⊎_elim}
use Rattle.norm_lang.specs.declared.reply.SourceReply.{SourceReply}
use Rattle.caller_parts.specs.declared.call.Call.{Call}
use Rattle.caller_parts.specs.declared.call.Running.{Running}
use Rattle.caller_parts.specs.Pairing.{replied_by}
use Rattle.caller_steps.specs.Entries.{Entry, is_idle}
use Rattle.caller_steps.specs.After.{taken}
use Rattle.core_runs.specs.Advances.{Stays, Stops}
use Rattle.core_runs.proofs.Advancing.{runs_end}
use Rattle.word_runner.specs.table_rule.Seen.{Fixed}
use Rattle.word_runner.specs.table_rule.Plays.{Steps}
use Rattle.word_runner.specs.Outcome.{Replies, IsLastAnswer}
use Rattle.core_runs.proofs.Keeping.{first_busy}

neither : (e : Entry) → is_idle e.routine ≡ true → is_idle e.routine ≡ false → ⊥
neither e idle busy = let z : true ≡ false = sym idle ∙ busy in cc

replies_go : (e e' : Entry) (ws : List ℕ) (o : Option SourceReply) → Stays e ws e' ⊎ Stops e ws e' → IsLastAnswer e' o → Replies e e.running.call o e'
replies_go e e' ws (Some r) go a =
    ⊎_elim
    (λ (t : Stays e ws e'). absurd (neither e' a.0 t.busy))
    (λ (t : Stops e ws e').
    let same : e'.running.call ≡ e.running.call = ap (λ (x : Running). x.call) t.running in
    (a.0, t.replies ∙ (λ i. e.replies ++ record { call = same i; reply = sym (a.1 e.replies (replied_by t.reply e'.running) t.replies) i; steps = e'.running.steps } ∷ [])))
    go
replies_go e e' ws None go a = ⊎_elim (λ (t : Stays e ws e'). (t.busy, t.replies, ap (λ (x : Running). x.call) t.running)) (λ (t : Stops e ws e'). absurd (neither e' t.idle a)) go

pub replies_resumed : (f : Fixed) (e e1 e' : Entry) (ws : List ℕ) (o : Option SourceReply) → e1 ≡ e → is_idle e.routine ≡ false → Steps f e1 ws e' → IsLastAnswer e' o → Replies e e.running.call o e'
replies_resumed f e e1 e' ws o is busy h a = replies_go e e' ws o ((runs_end f.target.target f.setting).all e e' ws busy (subst (λ (x : Entry). Steps f x ws e') is h)) a

pub replies_taken : (f : Fixed) (e e1 e' : Entry) (call : Call) (ws : List ℕ) (o : Option SourceReply) → e1 ≡ taken f.setting.reclamation call e → Steps f e1 ws e' → IsLastAnswer e' o → Replies e call o e'
replies_taken f e e1 e' call ws o is h a = retake o (replies_resumed f (taken f.setting.reclamation call e) e1 e' ws o is (first_busy f.setting.reclamation) h a)
  where
    retake : (o : Option SourceReply) → Replies (taken f.setting.reclamation call e) call o e' → Replies e call o e'
    retake (Some r) h = h
    retake None h = h
