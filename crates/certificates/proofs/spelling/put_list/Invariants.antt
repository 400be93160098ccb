use Rattle.std.proofs.Common.{◌≡◌, ◌++◌, drop, map}
use Rattle.std.specs.List.{flat_map}
use Rattle.norm_lang.specs.Spelling.{line_bytes}
use Rattle.certificates.specs.CertificateSpelling.{spelled_reply}
use Rattle.certificates.proofs.spelling.put_list.Given as goal

abbrev pub invariant-loop-reply : goal.invariant-loop-reply
invariant-loop-reply l = l.out.items ++ flat_map line_bytes (map (spelled_reply l.caller) (drop l.reply-index l.list)) ≡ l.fn.out.items ++ flat_map line_bytes (map (spelled_reply l.caller) l.list)
