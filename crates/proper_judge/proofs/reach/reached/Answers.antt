use Rattle.std.proofs.Common.{rules, ◌≡◌, ◌∙◌, ◌+◌, ◌<◌, ◌++◌, ℕ, suc, arith, List, [], ◌∷◌, Option, Some, true, false, length, sym, ap, subst, refl}
use Rattle.std.specs.Option.{option_to_list}
use Rattle.proper_judge.specs.Numbers.{numbering, is_among}
use Rattle.proper_judge.specs.Marks.{is_marked}
use Rattle.proper_judge.proofs.Reaching.{Search, weight, search_starts, search_found, search_ends, search_goes, weight_falls}
use Rattle.proper_judge.proofs.reach.reached.Goals as goal

pub search-init : goal.search-init
search-init c =
    subst (λ w. Search c.args.memory.now c.args.from.now c.args.known.now (is_among (numbering c.args.retirements.now) c.args.count) (is_marked c.mark_all.new.marks) w) (sym c.in_ok-work.ensures.items)
    (search_starts c.args.memory.now c.args.from.now c.args.known.now (is_among (numbering c.args.retirements.now) c.args.count) (is_marked c.clear.new.self) (is_marked c.mark_all.new.marks)
    c.clear.ensures c.in_ok-mark_all.ensures)

popped : (old new : List ℕ) (o : Option ℕ) (name : ℕ) → o ≡ Some name → old ≡ new ++ option_to_list o → old ≡ new ++ name ∷ []
popped old new o name is e = e ∙ ap (λ p. new ++ option_to_list p) is

pub returns-then-is_among : goal.returns-then-is_among
returns-then-is_among c =
    let bad : is_among (numbering c.args.retirements.now) c.args.count c.in-Some.name ≡ true = sym c.is_among.ensures ∙ c.if-is_among.true in
    search_found c.args.memory.now c.args.from.now c.args.known.now (is_among (numbering c.args.retirements.now) c.args.count) (is_marked c.search.marks) c.pop.new.self.items c.in-Some.name
    (subst (λ w. Search c.args.memory.now c.args.from.now c.args.known.now (is_among (numbering c.args.retirements.now) c.args.count) (is_marked c.search.marks) w)
    (popped _ _ _ c.in-Some.name c.in-Some.is c.pop.ensures.items) c.search.invariant) bad

pub search-preserved : goal.search-preserved
search-preserved c =
    let good : is_among (numbering c.args.retirements.now) c.args.count c.in-Some.name ≡ false = sym c.is_among.ensures ∙ c.if-is_among.false in
    search_goes c.args.memory.now c.args.from.now c.args.known.now (is_among (numbering c.args.retirements.now) c.args.count) (is_marked c.search.marks) (is_marked c.visit.new.marks)
    c.pop.new.self.items c.visit.new.work.items c.in-Some.name
    (subst (λ w. Search c.args.memory.now c.args.from.now c.args.known.now (is_among (numbering c.args.retirements.now) c.args.count) (is_marked c.search.marks) w)
    (popped _ _ _ c.in-Some.name c.in-Some.is c.pop.ensures.items) c.search.invariant)
    good c.in_ok-visit.ensures.marks c.in_ok-visit.ensures.work

pub search-smaller : goal.search-smaller
search-smaller c =
    subst (λ w. length c.visit.new.work.items + weight c.args.memory.now (is_marked c.visit.new.marks) c.args.memory.now.nodes
    < length w + weight c.args.memory.now (is_marked c.search.marks) c.args.memory.now.nodes)
    (sym (popped _ _ _ c.in-Some.name c.in-Some.is c.pop.ensures.items))
    (weight_falls c.args.memory.now (is_marked c.search.marks) (is_marked c.visit.new.marks) c.pop.new.self.items c.visit.new.work.items c.in-Some.name
    c.in_ok-visit.ensures.marks c.in_ok-visit.ensures.work)

no_item : (xs : List ℕ) → length xs ≡ 0 → xs ≡ []
no_item [] l = refl
no_item (x ∷ xs) l = absurd (let z : suc (length xs) ≡ 0 = l in let no : ⊥ = omega (arith, z) in no)

pub returns : goal.returns
returns c =
    let l : length c.search.work.items ≡ 0 = search rules in
    search_ends c.args.memory.now c.args.from.now c.args.known.now (is_among (numbering c.args.retirements.now) c.args.count) (is_marked c.search.marks)
    (subst (λ w. Search c.args.memory.now c.args.from.now c.args.known.now (is_among (numbering c.args.retirements.now) c.args.count) (is_marked c.search.marks) w)
    (no_item c.search.work.items l) c.search.invariant)
