-- Laws that the proofs of this crate and of others cite. Assumes nothing.
pub mod Draw
pub mod Frames
pub mod Lead
pub mod Tab
pub mod Exchange
pub mod Part
pub mod Each
pub mod Bools
pub mod Words
pub mod Rounding
pub mod Signs
pub mod Wholes
pub mod Nans
