-- What the functions of `ground` are proved equal to. F32, Draw, Frames, Part and Each are cited by every crate above. Assumes nothing.
pub mod F32
pub mod Random
pub mod Draw
pub mod Frames
pub mod Part
pub mod Each
pub mod Floats
