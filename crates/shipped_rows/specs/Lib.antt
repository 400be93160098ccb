pub mod NamedRows
pub mod WorkloadRows
pub mod ReportRows
pub mod LegalRows
