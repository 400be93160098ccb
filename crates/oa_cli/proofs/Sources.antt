-- What is said of all bytes of a source, as it is judged.
use Rattle.std.proofs.Common.{◌≡◌, ℕ, ◌+◌, ◌<◌, ◌≤◌, List, [], ◌++◌, length, Option, Some, None, ◌⊎◌, inl, inr, refl, sym, ap, subst, ◌∙◌, arith}
use Rattle.std.proofs.lemmas.List.{length-append, append-nil}
use Rattle.std.specs.Option.{unwrap_or}
use Rattle.std.specs.Io.KnownBytes.{Consumes, IsAtEnd}
use Rattle.oa_text.specs.Causes.{Rose}
use Rattle.statuses.specs.declared.status.Status.TheVariants as statuses
use Rattle.command_input.specs.Inputs.{ReadsWithin}
use Rattle.oa_cli.specs.declared.verdicts.verdict.Verdict.{Verdict}
use Rattle.oa_cli.specs.declared.verdicts.verdict.Verdict.TheVariants as verdicts
use Rattle.oa_cli.specs.verdicts.Telling.{NoFault, status_for}
use Rattle.oa_cli.specs.Judged.{ReadsAll, IsUnread, IsOfInput, IsOfSource}

-- ---- what is judged

-- why a source was not read to its end is a verdict on it
pub unread : (limit : ℕ) (Says : List ℕ → Verdict → Type 0) (old new : Option (List ℕ)) (before now : ℕ) (verdict : Verdict)
    → IsUnread limit old new before now verdict → IsOfSource limit Says old new before now verdict
unread limit Says old new before now verdicts.ReadFault is = is
unread limit Says old new before now verdicts.LongInput is = is
unread limit Says old new before now verdicts.Memory is = is
unread limit Says old new before now _ is = absurd is

-- all bytes of a source, fewer than the limit, are no more than that
at_most : (n limit : ℕ) → n < limit → n ≤ limit
at_most n limit short = omega (arith, short)

reads_within : (limit : ℕ) (old new : Option (List ℕ)) (bytes : List ℕ) → ReadsAll limit old new bytes → ReadsWithin limit old new
reads_within limit old new bytes all = (bytes, all.read, at_most (length bytes) limit all.short)

-- what is said of all its bytes is one, if that says of none that they weren't read
pub read : (limit : ℕ) (Says : List ℕ → Verdict → Type 0) (old new : Option (List ℕ)) (before now : ℕ) (bytes : List ℕ) (verdict : Verdict)
    → (Says bytes verdicts.ReadFault → ⊥) → (Says bytes verdicts.LongInput → ⊥) → NoFault before now → ReadsAll limit old new bytes → Says bytes verdict
    → IsOfSource limit Says old new before now verdict
read limit Says old new before now bytes verdicts.ReadFault unfailed short same all says = absurd (unfailed says)
read limit Says old new before now bytes verdicts.LongInput unfailed short same all says = absurd (short says)
read limit Says old new before now bytes verdicts.Memory unfailed short same all says = (same, reads_within limit old new bytes all)
read limit Says old new before now bytes _ unfailed short same all says = (same, bytes, all, says)

-- ---- what was read is what there was

longer : (limit : ℕ) (p x q : List ℕ) → p ≡ x ++ q → length p < limit → length x ≡ limit → ⊥
longer limit p x q is short long =
    let sum : length p ≡ length x + length q = ap length is ∙ length-append x q in
    omega (arith, sum, short, long)

not_long : (limit : ℕ) (bytes read : List ℕ) (old new : Option (List ℕ)) → old ≡ Some bytes → length bytes < limit → Consumes old new read → length read ≡ limit → ⊥
not_long limit bytes read (Some p) (Some q) told short consumes long =
    let same : p ≡ bytes = ap (λ (o : Option (List ℕ)). unwrap_or o []) told in
    longer limit p read q consumes (subst (λ (l : List ℕ). length l < limit) (sym same) short) long
not_long limit bytes read (Some p) None told short consumes long = absurd consumes
not_long limit bytes read None new told short consumes long = cc

all_read : (bytes read : List ℕ) (old new : Option (List ℕ)) → old ≡ Some bytes → Consumes old new read → IsAtEnd new → read ≡ bytes
all_read bytes read (Some p) (Some q) told consumes end =
    let same : p ≡ bytes = ap (λ (o : Option (List ℕ)). unwrap_or o []) told in
    sym (append-nil read) ∙ ap (λ l. read ++ l) (sym end) ∙ sym consumes ∙ same
all_read bytes read (Some p) None told consumes end = absurd consumes
all_read bytes read None new told consumes end = cc

-- what is said of the source's bytes, if it tells these
said_of : (limit : ℕ) (Says : List ℕ → Verdict → Type 0) (old new : Option (List ℕ)) (before now : ℕ) (bytes : List ℕ) (verdict : Verdict) → old ≡ Some bytes
    → IsOfInput limit Says old new before now verdict → Says bytes verdict
said_of limit Says old new before now bytes verdict told (same, read, all, says) =
    subst (λ (l : List ℕ). Says l verdict) (all_read bytes read old new told all.read all.done) says

-- the verdict on a source without a fault that tells fewer bytes than the limit is what is said of these, or that memory ran out
pub told : (limit : ℕ) (Says : List ℕ → Verdict → Type 0) (old new : Option (List ℕ)) (before now : ℕ) (bytes : List ℕ) (verdict : Verdict) → old ≡ Some bytes
    → length bytes < limit → ¬ Rose before now → IsOfSource limit Says old new before now verdict → (status_for verdict ≡ statuses.Memory) ⊎ Says bytes verdict
told limit Says old new before now bytes verdicts.ReadFault is short kept judged = absurd (kept judged.0)
told limit Says old new before now bytes verdicts.LongInput is short kept judged = absurd (not_long limit bytes judged.1 old new is short judged.2 judged.3)
told limit Says old new before now bytes verdicts.Memory is short kept judged = inl refl
told limit Says old new before now bytes verdict is short kept judged = inr (said_of limit Says old new before now bytes verdict is judged)
