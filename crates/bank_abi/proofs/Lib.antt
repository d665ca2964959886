-- Laws of the bytes of a bank.
pub mod NumberOne
pub mod Back
pub mod Again
pub mod Stays
pub mod Crosses
pub mod Zeros
pub mod Plays
pub mod Chain
