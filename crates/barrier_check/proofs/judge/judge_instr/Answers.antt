use Rattle.target_code.specs.Paths.{target_code_of}
use Rattle.target_flaws.specs.FlawAnswers.{AreFlawAnswers}
use Rattle.barrier_check.proofs.Answering.{clear_there, first_there}
use Rattle.barrier_check.proofs.judge.judge_instr.Goals as goal

pub returns-in-None : goal.returns-in-None
returns-in-None c =
    let subject = c.args.subject.now in
    let code = target_code_of subject.op.now c.args.wrapup in
    let are : AreFlawAnswers subject.source.now c.args.wrapup code c.args.at c.args.instr.now c.flaws-answers.result =
    c.flaws-answers.ensures.true_of subject.source.now code (record { within = c.requires.within; limits = c.requires.limits; asks = c.requires.needs; true_of = c.requires.facts }) in
    clear_there subject.target.now subject.text.now subject.number subject.op.now subject.source.now c.args.wrapup c.args.at c.args.instr.now c.flaws-answers.result c.requires.subject
    c.requires.stands are c.in-None.ensures

pub returns-in-Some : goal.returns-in-Some
returns-in-Some c =
    let subject = c.args.subject.now in
    let code = target_code_of subject.op.now c.args.wrapup in
    let are : AreFlawAnswers subject.source.now c.args.wrapup code c.args.at c.args.instr.now c.flaws-answers.result =
    c.flaws-answers.ensures.true_of subject.source.now code (record { within = c.requires.within; limits = c.requires.limits; asks = c.requires.needs; true_of = c.requires.facts }) in
    first_there subject.target.now subject.text.now subject.number subject.op.now subject.source.now c.args.wrapup c.args.at c.args.instr.now c.flaws-answers.result c.in-Some.kind
    c.requires.subject c.requires.stands are c.in-Some.ensures
