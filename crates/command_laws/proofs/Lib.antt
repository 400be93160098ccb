mod Blind
mod Workloads
mod RoundTrips
