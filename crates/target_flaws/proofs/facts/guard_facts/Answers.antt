use Rattle.std.proofs.Common.{ℕ, sym, subst, arith}
use Rattle.std.proofs.lemmas.Grind.{common_steps}
use Rattle.norm_lang.specs.declared.text.Reg.TheVariants.{Ref}
use Rattle.target_flaws.specs.Machines.{guard_number_after}
use Rattle.target_flaws.specs.Found.{SeesAll}
use Rattle.target_flaws.proofs.Checked.{Each, one_more}
use Rattle.target_flaws.proofs.facts.guard_facts.Goals as goal

pub loop-number-preserved : goal.loop-number-preserved
loop-number-preserved c = record {
  sized = grind (arith, common_steps, c.in_ok-push.ensures.items, c.loop-number.invariant.sized);
  each = subst (Each (λ (n : ℕ). SeesAll (guard_number_after (Ref n)) c.args.code.now)) (sym c.in_ok-push.ensures.items) (one_more (λ (n : ℕ). SeesAll (guard_number_after (Ref n)) c.args.code.now) c.loop-number.all.items c.loop-number.number c.in_ok-facts_of.field-0 c.loop-number.invariant.sized c.in_ok-facts_of.ensures c.loop-number.invariant.each);
}

pub returns : goal.returns
returns c = λ n lt. c.loop-number.invariant.each n (omega (arith, lt, c.loop-number.invariant.sized, c.loop-number-test.false))
