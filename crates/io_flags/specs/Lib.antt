pub mod Words
pub mod Faults
pub mod Grants
pub use Rattle.io_rights.specs.Operations
pub use Rattle.fidl_names.specs.StatusNumber
