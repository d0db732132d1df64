pub mod RequestLaws
pub mod Carrying
pub mod Taking
pub mod WrittenRequests
pub mod AskedParts
pub mod ShortestRequests
