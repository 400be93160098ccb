use Rattle.std.proofs.Common.{Some, refl}
use Rattle.norm_paths.specs.OpFound.{found_of}
use Rattle.rule_registers.specs.Blamed.{is_blamed}
use Rattle.rule_registers.proofs.Finding.{place_some}
use Rattle.rule_registers.proofs.search.first_of.Goals as goal

pub returns-in-Some : goal.returns-in-Some
returns-in-Some c =
    let site = c.args.site.now in
    place_some (is_blamed c.args.rule site.text.now.fields site.text.now.roots site.wrapup site.at site.instr.now (found_of site.facts.now site.wrapup) site.facts.now.kept site.kinds.now) c.args.registers.now
    (Some c.in-Some.place) c.in-Some.place c.register_at.result c.in-Some.ensures refl c.register_at.ensures
