-- What the functions of `modes` are proved equal to. Assumes nothing.
pub mod Resonator
pub mod OnePass
pub mod Subnormal
