use Rattle.std.proofs.Common.{◌++◌, ◌∙◌, ap, List, ℕ, arith}
use Rattle.c_printer.specs.Names.{names_of}
use Rattle.c_printer.specs.Functions.{local_text}
use Rattle.c_printer.proofs.LocalsPut.{local_more}
use Rattle.c_printer.proofs.functions.put_locals.Goals as goal

pub loop-d-preserved : goal.loop-d-preserved
loop-d-preserved c =
    local_more (names_of c.args.table) c.loop-d.d c.loop-d.out.items c.put_local.new.out.items _ (omega (arith, c.loop-d-test.true, c.local_count-d-end.ensures))
    (c.in_ok-put_local.ensures ∙ ap (λ (n : List ℕ). c.loop-d.out.items ++ local_text n) c.local_name.ensures) c.loop-d.invariant
