pub mod CounterCertificates
