-- Calls by their names, documents of a workload, the words of a call, and a report, by computing.
use Rattle.std.specs.Prelude.{refl}
use Rattle.shipped_rows.specs.NamedRows.{NamedRows}
use Rattle.shipped_rows.specs.ReportRows.{ReportRows}
use Rattle.shipped_rows.specs.WorkloadRows.{WorkloadRows, PaddedRows}

pub named_rows : NamedRows
named_rows = record {
  inserts = refl;
  removes = refl;
  looks = refl;
  part = refl;
  other = refl;
  no_operation = refl;
  enqueues = refl;
  dequeues = refl;
  of_callers = refl;
  removes_of_callers = refl;
}

pub workload_rows : WorkloadRows
workload_rows = record {
  first_part = refl;
  second_part = refl;
  at_most = refl;
  all = refl;
}

pub padded_rows : PaddedRows
padded_rows = record {
  none = refl;
  three = refl;
  four = refl;
}

pub report_rows : ReportRows
report_rows = record {
  report = refl;
  few = refl;
  most = refl;
  more = refl;
}
