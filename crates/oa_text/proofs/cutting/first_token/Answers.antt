use Rattle.std.proofs.Common.{rules}
use Rattle.oa_text.proofs.TokenLemmas.{fronts, no_token}
use Rattle.oa_text.proofs.cutting.first_token.Goals as goal

pub returns-then-is_empty-clause-first : goal.returns-then-is_empty-clause-first
returns-then-is_empty-clause-first c = search (rules, fronts, no_token)

pub returns-clause-place : goal.returns-clause-place
returns-clause-place c = search rules
