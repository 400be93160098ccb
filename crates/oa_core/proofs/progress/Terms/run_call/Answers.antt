use Rattle.std.proofs.Common.{◌≡◌, ◌+◌, ℕ, ap, ◌∙◌, arith}
use Rattle.oa_core.specs.Shown.{Terms, Progress}
use Rattle.oa_core.proofs.Calling.{call_goes}
use Rattle.oa_core.proofs.progress.Terms.run_call.Goals as goal

pub returns-clause-goes : goal.returns-clause-goes
returns-clause-goes c =
    let limit : c.self.inside.limit ≡ c.args.self.now.limit = ap (λ (x : Terms). x.limit) c.self.view_is in
    let steps : c.now.inside.steps ≡ c.args.now.now.steps = ap (λ (x : Progress). x.steps) c.now.view_is in
    let counts : c.now-2.inside.steps + c.run_in-made.result ≡ c.args.now.now.steps + c.run_in-made.result =
    ap (λ (x : Progress). x.steps + c.run_in-made.result) c.now-2.view_is ∙ ap (λ (n : ℕ). n + c.run_in-made.result) c.run_in-made.ensures.uncounted in
    let fewer = c.run_in-made.ensures.fewer in
    let below = c.requires.below in
    call_goes c.args.self.now c.args.caller c.run_in-made.result _ c.args.now.now c.run_in-made.new.now _ c.args.next c.requires.under_way c.requires.next c.run_in-made.ensures.ran
    (ap (λ (x : Progress). x.words) c.now-2.view_is) (ap (λ (x : Progress). x.entries) c.now-2.view_is) counts (omega (arith, limit, steps, counts, fewer, below))
