pub mod Workload
pub mod Laws
