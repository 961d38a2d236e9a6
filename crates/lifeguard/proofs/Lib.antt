pub mod HealthRuns
pub mod RelaySets
