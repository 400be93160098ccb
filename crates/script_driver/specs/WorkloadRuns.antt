-- What the reports of a workload tell of.
use Rattle.std.specs.Prelude.{◌≡◌, ℕ}
use Rattle.script_driver.specs.report_laws.Runs.{IsRunReport}
use Rattle.script_driver.specs.Workload.{workload_document}
use Rattle.script_driver.specs.declared.workload.WorkloadReport.{WorkloadReport}

-- each tells of a complete run of its part's document, which can be run
pub record IsWorkloadReport (count callers : ℕ) (report : WorkloadReport) : Type 0 where
  pub asked : report.callers ≡ callers
  pub first : IsRunReport (workload_document 1 count callers) report.first
  pub second : IsRunReport (workload_document 2 count callers) report.second
