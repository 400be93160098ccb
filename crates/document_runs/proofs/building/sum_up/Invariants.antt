use Rattle.std.proofs.Common.{◌≡◌, ◌≤◌, ◌-◌, ◌^◌, map}
use Rattle.std.specs.List.{sum_by}
use Rattle.oa_core.specs.Finals.{core_part}
use Rattle.document_runs.specs.Reports.{capped, claims_of, restarts_of}
use Rattle.document_runs.proofs.Totals.{with_rest}
use Rattle.document_runs.proofs.building.sum_up.Given as goal

-- the sums so far and what is left are the whole
abbrev pub invariant-loop-entry : goal.invariant-loop-entry
invariant-loop-entry l = record {
  claims : with_rest claims_of l.claims l.entry-index l.entries ≡ capped (sum_by claims_of (map core_part l.entries));
  claims_fit : l.claims ≤ 2 ^ 64 - 1;
  restarts_fit : l.restarts ≤ 2 ^ 64 - 1;
  restarts : with_rest restarts_of l.restarts l.entry-index l.entries ≡ capped (sum_by restarts_of (map core_part l.entries));
}
