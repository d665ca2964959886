-- What the player is proved equal to, and whose the frames of a block are.
pub mod Sheet
pub mod Owners
pub mod Play
pub mod Values
