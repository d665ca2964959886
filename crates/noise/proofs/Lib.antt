-- Laws that other crates cite.
pub mod Lent
pub mod OneAhead
pub mod Settled
pub mod Drawn
pub mod Ranges
