-- Laws of the bytes of a slot.
pub mod Little
pub mod Parts
pub mod Stand
