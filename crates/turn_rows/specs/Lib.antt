-- A worked row of what endpoints are told. No other crate needs it.
pub mod Rows
