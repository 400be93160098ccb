use Rattle.std.proofs.Common.{◌≡◌, ◌<◌, ℕ, length}
use Rattle.std.specs.Prelude.{slice_index}
use Rattle.norm_lang.specs.KindFields.{place_of}
use Rattle.caller_parts.proofs.fields.places.Given as goal

abbrev pub invariant-loop-field : goal.invariant-loop-field
invariant-loop-field l = record { sized : length l.places ≡ 16; right : (f : ℕ) → f < l.field → slice_index l.places f ≡ place_of l.fields f }
