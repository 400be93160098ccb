use Rattle.std.proofs.lemmas.Result.{IfOk-weaker}
use Rattle.reader_rows.proofs.rules.broken_names.Goals as goal

pub returns : goal.returns
returns c =
    IfOk-weaker c.listed.result _ _ (λ row names within. record {
      instr = c.args.instr.now;
      stands = c.requires.stands;
      broken = c.in_ok-broken.broken;
      breaks = c.in_ok-broken.ensures within;
      names = names;
    }) c.listed.ensures
