-- Laws, each proved, and words of steps between journals. A reader of what is built on them believes `IsStart` in Soundness and
-- `AreServedOnce` in Laws, and no others.
pub mod Contents
pub mod Laws
pub mod Soundness
pub mod Carrying
pub mod Viewing
pub mod Behind
pub mod Choosing
pub mod Knowing
pub mod Trees
