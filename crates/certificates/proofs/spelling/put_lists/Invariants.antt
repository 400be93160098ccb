use Rattle.std.proofs.Common.{◌≡◌, ◌++◌, drop}
use Rattle.std.specs.List.{flat_map}
use Rattle.norm_lang.specs.Spelling.{line_bytes}
use Rattle.certificates.specs.CertificateSpelling.{replies_lines}
use Rattle.certificates.proofs.spelling.put_lists.Given as goal

abbrev pub invariant-loop-caller : goal.invariant-loop-caller
invariant-loop-caller l = l.out.items ++ flat_map line_bytes (replies_lines l.caller (drop l.caller l.lists)) ≡ l.fn.out.items ++ flat_map line_bytes (replies_lines 0 l.lists)
