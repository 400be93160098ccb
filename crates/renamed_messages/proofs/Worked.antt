-- Messages in another program's name, worked out by hand.
use Rattle.std.proofs.Common.{◌≡◌, codes, refl}
use Rattle.renamed_messages.specs.Renamed.{renamed}

of_oa : renamed (codes "oac") (codes "oa: line 3 is at fault\n") ≡ codes "oac: line 3 is at fault\n"
of_oa = refl

of_another : renamed (codes "oac") (codes "oax: usage") ≡ codes "oax: usage"
of_another = refl

none : renamed (codes "oac") (codes "") ≡ codes ""
none = refl
