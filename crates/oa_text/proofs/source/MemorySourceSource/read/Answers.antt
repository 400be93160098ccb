use Rattle.std.proofs.Common.{◌≡◌, ◌+◌, ◌≤◌, ◌<◌, ◌-◌, min, length, drop, sym, ap, ◌∙◌, arith}
use Rattle.std.proofs.lemmas.List.{length-append, length-drop}
use Rattle.oa_text.specs.Memory.{MemoryInput}
use Rattle.oa_text.proofs.Copied.{copied, at_end}
use Rattle.oa_text.proofs.source.MemorySourceSource.read.Goals as goal

pub returns-clause-bytes : goal.returns-clause-bytes
returns-clause-bytes c =
    let items = c.self.inside.bytes.items in
    let buffer = c.args.buffer.now in
    let at = c.self.inside.at in
    let most = c.self.inside.most in
    let count = c.min-count.result in
    let piece = c.copy_from_slice.new.self in
    let within : at ≤ length items = c.self.invariant.0 in
    let least : count ≡ min (min (length buffer) most) (length items - at) = omega (arith, c.min-count.ensures, c.min.ensures, c.len.ensures, c.self.inside.bytes.ok.0) in
    let fits : at + count ≤ length items = omega arith in (
      sym (ap (λ (s : MemoryInput). s.left) c.self.view_is) ∙ copied items buffer piece at count fits (rw c.deref-2.ensures.value at c.copy_from_slice.ensures.after),
      λ none space.
          let room : 0 < length buffer = omega (arith, space, none, length-append piece (drop count buffer), length-drop count buffer, c.copy_from_slice.ensures.len) in
          at_end items at count (length buffer) most within c.self.invariant.1 room least none,
    )
