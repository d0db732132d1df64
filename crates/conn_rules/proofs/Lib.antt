pub mod EveryWalk
pub mod KeptRows
pub mod Narrow
pub mod Taking
pub mod TokenHandles
mod Lengths
