use Rattle.std.proofs.Common.{true, List, refl, sym, subst}
use Rattle.norm_paths.specs.OpFound.{AreOpFacts, found_of}
use Rattle.kind_rules.specs.declared.facts.KindFacts.{KindFacts}
use Rattle.kind_rules.specs.Asking.{AreOfOp}
use Rattle.norm_check.specs.Judging.{IsSubject}
use Rattle.norm_check.proofs.Answering.{site_of}
use Rattle.norm_paths.proofs.Founding.{sized_within}
use Rattle.rule_registers.proofs.Decides.{first_at_fault}
use Rattle.rule_registers.proofs.search.blamed_at.Goals as goal

pub of_op-requires-clause-wrapup : goal.of_op-requires-clause-wrapup
of_op-requires-clause-wrapup c = sized_within c.args.op.now true c.requires.within

pub returns : goal.returns
returns c =
    let text = c.args.text.now in
    let op = c.args.op.now in
    let i = c.args.instr.now in
    let refusal = c.args.refusal in
    let facts = c.in_ok-facts.facts in
    let kinds = c.deref.result.now in
    let true_of : AreOpFacts op facts = c.in_ok-facts.ensures in
    let known : AreOfOp text op kinds = subst (λ (k : List KindFacts). AreOfOp text op k) (sym c.deref.ensures.value) c.in_ok-kinds.ensures.tell in
    let subject : IsSubject text refusal.op op facts kinds = record { within = c.requires.within; stands = c.requires.numbered; true_of = true_of; kinds = known } in
    first_at_fault text op i refusal (found_of facts refusal.wrapup) facts.kept kinds c.first_blamed.result
    (site_of text refusal.op op facts kinds refusal.wrapup refusal.at i (found_of facts refusal.wrapup) refl subject c.requires.stands)
    true_of.kept (known refusal.wrapup refusal.at i c.requires.stands) c.requires.numbered c.first_blamed.ensures
