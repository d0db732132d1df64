-- That the generated workload is a script. Whole has what crates above cite.
mod Numerals
mod Plain
mod RequestSizes
mod GoodLines
mod RoundLines
mod PutLines
pub mod Whole
