-- What the functions of `waveguide` are proved equal to. Assumes nothing.
pub mod String
pub mod Underway
pub mod Kept
