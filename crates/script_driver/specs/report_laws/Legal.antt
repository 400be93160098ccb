-- The history that the lines of a report show: what each caller asked for, and what it was told.
use Rattle.std.specs.Prelude.{◌≡◌, ℕ, List, [], ◌∷◌, codes}
use Rattle.norm_lang.specs.declared.reply.SourceReply.TheVariants as replies
use Rattle.document_runs.specs.declared.report.Answer.{Answer}
use Rattle.document_runs.specs.declared.report.Answer.TheVariants as answers
use Rattle.document_runs.specs.declared.report.ReportLine.{ReportLine}
use Rattle.document_runs.specs.declared.report.Report.{Report}
use Rattle.histories.specs.declared.call.Call.{Call}
use Rattle.histories.specs.declared.call.Action.{Action}
use Rattle.histories.specs.declared.call.Action.TheVariants.{Insert, Remove, Contains, Enqueue, Dequeue}
use Rattle.histories.specs.declared.call.Answer as told
use Rattle.histories.specs.declared.call.Answer.TheVariants.{Number, Nothing, Spent, NoEffect}
use Rattle.histories.specs.Histories.{nothing_shared, HasLegalOrder}

-- a line asks for an action, by the name and the arguments that it shows
abbrev pub AsksFor : Action → List ℕ → List ℕ → Type 0
AsksFor (Insert key) name args = (name ≡ codes "insert") × (args ≡ key ∷ [])
AsksFor (Remove key) name args = (name ≡ codes "remove") × (args ≡ key ∷ [])
AsksFor (Contains key) name args = (name ≡ codes "contains") × (args ≡ key ∷ [])
AsksFor (Enqueue value) name args = (name ≡ codes "enqueue") × (args ≡ value ∷ [])
AsksFor Dequeue name args = (name ≡ codes "dequeue") × (args ≡ [])

-- what a printed answer tells: a call that is printed as `full`, `phases` or `unreached` had no effect, and a spent one may have had one
abbrev pub answer_shown : Answer → told.Answer
answer_shown (answers.Replied (replies.Number n)) = Number n
answer_shown (answers.Replied replies.Nothing) = Nothing
answer_shown (answers.Replied replies.Full) = NoEffect
answer_shown (answers.Replied (replies.Phases p)) = NoEffect
answer_shown answers.Spent = Spent
answer_shown answers.Unreached = NoEffect

-- a line shows a call of a history
pub record Shows (line : ReportLine) (it : Call) : Type 0 where
  pub caller : it.caller ≡ line.caller
  pub action : AsksFor it.action line.name line.args
  pub answer : it.answer ≡ answer_shown line.answer

-- the lines show these calls, one each
abbrev pub AreShown : List ReportLine → List Call → Type 0
AreShown [] [] = Unit {0}
AreShown [] (it ∷ its) = ⊥
AreShown (line ∷ lines) [] = ⊥
AreShown (line ∷ lines) (it ∷ its) = Shows line it × AreShown lines its

-- the calls of all lines can be put in one order, each caller's in its own, in which a set, or a queue, that is empty at first gives
-- each printed answer; a call without effect changes nothing, and a spent one has its effect once or not at all
abbrev pub HasLegalHistory : Report → Type 0
HasLegalHistory report = (history : List Call) × AreShown report.lines history × HasLegalOrder nothing_shared history
