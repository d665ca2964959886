-- Laws that the proofs of this crate and of others cite. Assumes nothing.
pub mod Steps
pub mod Blocks
pub mod Delays
pub mod Ranges
