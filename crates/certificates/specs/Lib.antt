pub mod EventLines
pub mod Accounts
pub mod CertificateRead
pub mod Shown
pub mod CertificateSpelling
pub mod CertificateLaws
