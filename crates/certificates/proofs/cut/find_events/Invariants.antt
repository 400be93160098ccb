use Rattle.std.proofs.Common.{◌≡◌, ◌≤◌, ◌+◌, ◌^◌, false}
use Rattle.certificates.specs.CertificateRead.{cut_from, room_of}
use Rattle.certificates.proofs.cut.find_events.Given as goal

abbrev pub invariant-lines : goal.invariant-lines
invariant-lines l = record {
  next : (goal.iterator-lines).can_next l.behind;
  finite : (goal.iterator-lines).is_finite l.behind;
  same : cut_from l.scheduled l.before l.behind ≡ cut_from false 0 l.fn.lines;
  room : l.before + room_of l.behind ≤ 2 ^ 63;
}
