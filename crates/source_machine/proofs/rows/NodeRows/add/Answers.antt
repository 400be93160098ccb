use Rattle.std.proofs.Common.{rules, ◌≡◌, ◌∙◌, ◌++◌, ◌∷◌, [], ◌&&◌, length, ap, sym, subst, refl}
use Rattle.std.specs.Prelude.{is_some, reverse}
use Rattle.source_machine.specs.State.{NamedNode}
use Rattle.source_machine.specs.Rows.{place_named, IsIndexOf, AreFound}
use Rattle.source_machine.proofs.Indexed.{index_added, found_added}
use Rattle.source_machine.proofs.rows.NodeRows.add.Goals as goal

pub invariant_of-self-2 : goal.invariant_of-self-2
invariant_of-self-2 c =
    let told = c.self.inside.distinct in
    let fresh = c.is_none-fresh.result in
    let rows = c.self.inside.rows.items in
    let node : NamedNode = record { name = c.args.name; kind = c.args.kind; values = c.args.values } in
    let last : c.len.result ≡ length rows = search rules in (
      subst (λ all. IsIndexOf c.insert.new.self (reverse all)) (sym c.push_reserved.ensures.items) (subst (λ all. IsIndexOf c.insert.new.self (reverse (all ++ node ∷ []))) (sym c.reserve.ensures.items)
          (index_added c.self.inside.index c.insert.new.self rows node c.args.name c.len.result c.self.invariant.0 refl last c.in_ok-insert.ensures.updates.0)),
      subst (AreFound (told && fresh)) (sym c.push_reserved.ensures.items) (subst (λ all. AreFound (told && fresh) (all ++ node ∷ [])) (sym c.reserve.ensures.items)
          (found_added rows node c.args.name told fresh c.self.invariant.1 refl (ap is_some (ap (place_named c.args.name) c.self.view_is ∙ sym c.place.ensures) ∙ c.is_none-fresh.ensures))),
    )
