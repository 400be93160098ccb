use Rattle.norm_paths.specs.OpFound.{IsSite}
use Rattle.reader_rows.proofs.Sites.{site_of}
use Rattle.reader_rows.proofs.rules.broken_by.Goals as goal

pub returns : goal.returns
returns c op within facts stands =
    let i = c.args.instr.now in
    let wrapup = c.args.wrapup in
    let site : IsSite op wrapup c.args.at i c.method-method.result.now =
    site_of op c.args.facts.now wrapup c.args.at i c.method-method.result.now c.method-method.ensures within facts stands in
    record {
      n3 = c.in_ok-makes_again.ensures.rule op site;
      n4 = c.has_wrong_put.ensures.rule op site;
      n5 = c.shows_fresh.ensures.rule op wrapup site;
      n6 = c.leaks_fresh.ensures.rule op wrapup site facts.kept;
      n7 = c.in_ok-blind.ensures.rule op wrapup i site;
      n9 = c.sets_kept.ensures.rule op c.args.at within stands facts.kept;
      n10 = c.follows_kept.ensures.rule op c.args.at within stands facts.kept;
      n11 = c.exchanges_kept.ensures.rule op c.args.at within stands facts.kept;
      n14 = c.reads_unset.ensures.rule op wrapup site;
    }
