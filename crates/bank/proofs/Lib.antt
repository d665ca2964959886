-- Laws of the bank.
pub mod Places
pub mod Moves
pub mod Accepted
