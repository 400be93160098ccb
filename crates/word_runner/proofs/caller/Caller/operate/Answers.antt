use Rattle.std.proofs.Common.{rules, sym, ap, ◌∙◌}
use Rattle.caller_parts.specs.declared.call.Call.{Call}
use Rattle.caller_parts.specs.Calls.{is_call}
use Rattle.caller_steps.specs.Entries.{RoomyEntry, is_idle}
use Rattle.word_runner.specs.table_rule.Seen.{Fixed}
use Rattle.caller_steps.specs.After.{taken}
use Rattle.word_runner.specs.Shown.{CallerShown}
use Rattle.word_runner.specs.Outcome.{answer_of}
use Rattle.word_runner.proofs.Ended.{replies_taken}
use Rattle.word_runner.proofs.Taking.{may_go}
use Rattle.word_runner.proofs.caller.Caller.operate.Goals as goal

pub drive-requires-clause-can : goal.drive-requires-clause-can
drive-requires-clause-can c =
    let call : Call = record { op = c.args.op; args = c.args.args } in
    may_go c.args.arena.now.fixed c.self.inside.place.me c.self.inside.entry.core c.begin.new.entry.core call c.self.invariant.0
    (ap (λ (x : CallerShown). x.fixed) c.self.view_is ∙ c.requires.came.1)
    (ap (λ (x : CallerShown). is_idle x.entry.core.routine) c.self.view_is ∙ c.requires.idle)
    (ap (λ (key : Fixed). is_call key.target.target call) (sym c.requires.came.1) ∙ c.requires.call)
    (ap (λ (r : RoomyEntry). r.core) c.begin.ensures.taken)
    c.begin.ensures.belongs

pub returns-clause-steps : goal.returns-clause-steps
returns-clause-steps c = search rules

pub returns-clause-outcome : goal.returns-clause-outcome
returns-clause-outcome c =
    let call : Call = record { op = c.args.op; args = c.args.args } in
    replies_taken c.args.arena.now.fixed c.args.self.now.entry.core c.begin.new.entry.core c.drive.new.entry.core call c.drive.ensures.ran.drove.words (answer_of c.answer.result)
    (ap (λ (r : RoomyEntry). r.core) c.begin.ensures.taken ∙ ap (λ (x : CallerShown). taken c.args.arena.now.fixed.setting.reclamation call x.entry.core) c.self.view_is)
    c.drive.ensures.ran.drove.advances
    c.answer.ensures
