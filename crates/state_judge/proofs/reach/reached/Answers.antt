use Rattle.std.proofs.Common.{rules, ◌≡◌, ◌∙◌, ◌+◌, ◌<◌, ◌++◌, ℕ, suc, arith, List, [], ◌∷◌, Option, Some, false, length, sym, ap, subst, refl}
use Rattle.std.specs.Option.{option_to_list}
use Rattle.source_machine.specs.Proper.{has}
use Rattle.proper_judge.specs.Reach.{without}
use Rattle.state_judge.specs.Reach.{more_work}
use Rattle.state_judge.proofs.Reaching.{Search, weight, search_starts, search_found, search_ends, search_goes, weight_falls}
use Rattle.state_judge.proofs.reach.reached.Goals as goal

pub search-init : goal.search-init
search-init c =
    subst (λ w. Search c.args.memory.now c.args.from.now c.args.bad.now c.in_ok-rest.rest.items w) (sym c.in_ok-work.ensures.items)
    (subst (λ r. Search c.args.memory.now c.args.from.now c.args.bad.now r c.args.from.now) (sym c.in_ok-rest.ensures)
    (search_starts c.args.memory.now c.rows.result.now c.args.from.now c.args.bad.now c.rows.ensures))

popped : (old new : List ℕ) (o : Option ℕ) (name : ℕ) → o ≡ Some name → old ≡ new ++ option_to_list o → old ≡ new ++ name ∷ []
popped old new o name is e = e ∙ ap (λ p. new ++ option_to_list p) is

pub returns-then-is_in : goal.returns-then-is_in
returns-then-is_in c =
    search_found c.args.memory.now c.args.from.now c.args.bad.now c.search.rest.items c.pop.new.self.items c.in-Some.name
    (subst (λ w. Search c.args.memory.now c.args.from.now c.args.bad.now c.search.rest.items w) (popped _ _ _ c.in-Some.name c.in-Some.is c.pop.ensures.items) c.search.invariant)
    (search rules)

pub search-preserved : goal.search-preserved
search-preserved c =
    let s : Search c.args.memory.now c.args.from.now c.args.bad.now c.search.rest.items (c.pop.new.self.items ++ c.in-Some.name ∷ []) =
    subst (λ w. Search c.args.memory.now c.args.from.now c.args.bad.now c.search.rest.items w) (popped _ _ _ c.in-Some.name c.in-Some.is c.pop.ensures.items) c.search.invariant in
    let good : has c.in-Some.name c.args.bad.now ≡ false = search rules in
    let goes = search_goes c.args.memory.now c.args.from.now c.args.bad.now c.search.rest.items c.pop.new.self.items c.in-Some.name s good in
    subst (λ r. Search c.args.memory.now c.args.from.now c.args.bad.now r c.visit.new.work.items) (sym c.dropped-rest.ensures)
    (subst (λ w. Search c.args.memory.now c.args.from.now c.args.bad.now (without c.in-Some.name c.search.rest.items) w) (search rules) goes)

pub search-smaller : goal.search-smaller
search-smaller c =
    let falls : length (more_work c.args.memory.now c.in-Some.name c.search.rest.items c.pop.new.self.items) + weight c.args.memory.now (without c.in-Some.name c.search.rest.items)
    < length (c.pop.new.self.items ++ c.in-Some.name ∷ []) + weight c.args.memory.now c.search.rest.items
    = weight_falls c.args.memory.now c.search.rest.items c.pop.new.self.items c.in-Some.name in
    let old : c.search.work.items ≡ c.pop.new.self.items ++ c.in-Some.name ∷ [] = popped _ _ _ c.in-Some.name c.in-Some.is c.pop.ensures.items in
    let new : more_work c.args.memory.now c.in-Some.name c.search.rest.items c.pop.new.self.items ≡ c.visit.new.work.items = search rules in
    let rest : without c.in-Some.name c.search.rest.items ≡ c.dropped-rest.result.items = sym c.dropped-rest.ensures in
    subst (λ w. length c.visit.new.work.items + weight c.args.memory.now c.dropped-rest.result.items < length w + weight c.args.memory.now c.search.rest.items) (sym old)
    (subst (λ w. length w + weight c.args.memory.now c.dropped-rest.result.items < length (c.pop.new.self.items ++ c.in-Some.name ∷ []) + weight c.args.memory.now c.search.rest.items) new
    (subst (λ r. length (more_work c.args.memory.now c.in-Some.name c.search.rest.items c.pop.new.self.items) + weight c.args.memory.now r < length (c.pop.new.self.items ++ c.in-Some.name ∷ []) + weight c.args.memory.now c.search.rest.items) rest falls))

no_item : (xs : List ℕ) → length xs ≡ 0 → xs ≡ []
no_item [] l = refl
no_item (x ∷ xs) l = absurd (let z : suc (length xs) ≡ 0 = l in let no : ⊥ = omega (arith, z) in no)

pub returns : goal.returns
returns c =
    let l : length c.search.work.items ≡ 0 = search rules in
    search_ends c.args.memory.now c.args.from.now c.args.bad.now c.search.rest.items
    (subst (λ w. Search c.args.memory.now c.args.from.now c.args.bad.now c.search.rest.items w) (no_item c.search.work.items l) c.search.invariant)
