-- Laws that the proofs of this crate cite.
pub mod Blocks
pub mod Strings
pub mod Modals
