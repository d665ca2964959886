-- Laws that the proofs of this crate and of others cite. Assumes nothing.
pub mod Frame
pub mod OnePass
pub mod Unique
pub mod Mirror
pub mod Grid
pub mod Constants
