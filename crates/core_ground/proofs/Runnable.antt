-- What callers run: a barred target, or a text as it is.
use Rattle.std.proofs.Common.{◌≡◌, ◌↔◌, ℕ, ◌<◌, Bool, length, sym}
use Rattle.std.proofs.lemmas.List.{length-map}
use Rattle.std.specs.Prelude.{slice_get, IsSomeAnd, IsTrue}
use Rattle.norm_lang.specs.declared.text.Reg.TheVariants.{Ref}
use Rattle.norm_lang.specs.declared.text.Op.{Op}
use Rattle.norm_lang.specs.declared.text.Text.{Text}
use Rattle.norm_lang.specs.Kept.{IsKept}
use Rattle.norm_lang.specs.Limits.{IsWithinLimits}
use Rattle.norm_lang.specs.NormalForm.{IsNormal}
use Rattle.target_code.specs.Bare.{bare_op, bare}
use Rattle.bare_targets.proofs.Runnable.{bare_texts_are_runnable}
use Rattle.barrier_check.specs.Paired.{Paired, IsSound}
use Rattle.core_ground.specs.Running.{bare_pair, MayRun}
use Rattle.core_ground.specs.Tables.{keeps_at}
use Rattle.core_ground.proofs.Keeping.{kept_register}

pub runnable : (pair : Paired) → IsSound pair → MayRun pair
runnable pair s = record { small = s.small; normal = s.normal; within = s.within; erases = s.barred.erases }

pub bare_runs : (text : Text) → IsWithinLimits text → IsNormal text → MayRun (bare_pair text)
bare_runs text small normal = bare_texts_are_runnable text small normal

pub bare_count : (text : Text) → length text.ops ≡ length (bare text).ops
bare_count text = sym (length-map text.ops bare_op)

pub bare_register : (text : Text) (op r : ℕ) (b : Bool) → IsWithinLimits text → IsNormal text → op < length (bare text).ops
    → IsSomeAnd (slice_get text.ops op) (λ (o : Op). IsTrue b ↔ IsKept o (Ref r)) → b ≡ keeps_at (slice_get (bare text).ops op) r
bare_register text op r b small normal lt kept = kept_register (bare text) text op r b (bare_texts_are_runnable text small normal).erases lt kept
