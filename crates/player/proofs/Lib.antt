-- Laws of the player.
pub mod Accepted
pub mod Following
pub mod Owners
pub mod Turns
