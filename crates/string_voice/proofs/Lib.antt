-- Laws that the proofs of this crate and of others cite.
pub mod Ranges
pub mod Excitations
pub mod Halves
pub mod OneLoop
pub mod Drawn
pub mod Amounts
