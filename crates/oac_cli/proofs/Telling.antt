-- That each fault is told.
use Rattle.std.proofs.Common.{◌≡◌, ℕ, ◌<◌, List, [], ◌∷◌, Option, Some, None, arith}
use Rattle.statuses.specs.declared.limits.TheConstants.{DOCUMENT_LIMIT}
use Rattle.statuses.specs.declared.status.Status.{Status}
use Rattle.statuses.specs.declared.status.Status.TheVariants as statuses
use Rattle.oa_cli.specs.Judged.{FaultsAreTold}
use Rattle.oa_cli.specs.verdicts.Telling.{IsSaid, text_for, status_for}
use Rattle.oa_cli.specs.declared.verdicts.verdict.Verdict.{Verdict}
use Rattle.oa_cli.proofs.Telling.{source_told, told_by}
use Rattle.oac_cli.specs.declared.command.Request.{Request}
use Rattle.oac_cli.specs.declared.command.Request.TheVariants as requests
use Rattle.oac_cli.specs.Commands.{request_of}
use Rattle.oac_cli.specs.Judged.{IsOfBytes, IsOfRequest, IsJudged}

none_rose : (before now : ℕ) → now ≡ before → before < now → ⊥
none_rose before now same rose = omega (arith, same, rose)

-- a verdict other than that of a fault of reading leaves the source's count
request_told : (request : Option Request) (word : List ℕ) (old new : Option (List ℕ)) (before now : ℕ) (verdict : Verdict)
    → IsOfRequest request word old new before now verdict → before < now → status_for verdict ≡ statuses.ReadFault
request_told None word old new before now verdict judged rose = absurd (none_rose before now judged.1.faults rose)
request_told (Some requests.Help) word old new before now verdict judged rose = absurd (none_rose before now judged.1.faults rose)
request_told (Some requests.Version) word old new before now verdict judged rose = absurd (none_rose before now judged.1.faults rose)
request_told (Some requests.Header) word old new before now verdict judged rose = source_told DOCUMENT_LIMIT (IsOfBytes word) old new before now verdict judged rose

read_told : (words : List (List ℕ)) (old new : Option (List ℕ)) (before now : ℕ) (verdict : Verdict)
    → IsJudged words old new before now verdict → before < now → status_for verdict ≡ statuses.ReadFault
read_told [] old new before now verdict judged rose = absurd (none_rose before now judged.1.faults rose)
read_told (word ∷ []) old new before now verdict judged rose = request_told (request_of word) word old new before now verdict judged rose
read_told (word ∷ (other ∷ words)) old new before now verdict judged rose = absurd (none_rose before now judged.1.faults rose)

-- each fault is told
pub told : (words : List (List ℕ)) (old new : Option (List ℕ)) (before now : ℕ) (verdict : Verdict) (held holds : Option (List ℕ)) (earlier later : ℕ)
    (result : Status) → IsJudged words old new before now verdict
    → IsSaid held holds earlier later (text_for verdict) (status_for verdict) result → FaultsAreTold before now earlier later result
told words old new before now verdict held holds earlier later result judged said =
    told_by before now verdict held holds earlier later result (read_told words old new before now verdict judged) said
