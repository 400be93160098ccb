use Rattle.std.proofs.Common.{◌≡◌, ◌++◌, drop, map}
use Rattle.std.specs.List.{flat_map}
use Rattle.norm_lang.specs.Spelling.{line_bytes}
use Rattle.certificates.specs.CertificateSpelling.{spelled_event}
use Rattle.certificates.proofs.spelling.put_events.Given as goal

abbrev pub invariant-loop-event : goal.invariant-loop-event
invariant-loop-event l = l.out.items ++ flat_map line_bytes (map (spelled_event l.ops) (drop l.event-index l.events)) ≡ l.fn.out.items ++ flat_map line_bytes (map (spelled_event l.ops) l.events)
