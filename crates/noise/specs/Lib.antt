-- What the functions of `noise` are proved equal to.
pub mod Ahead
pub mod Buffers
pub mod Dust
pub mod Excitation
pub mod Settling
pub mod SvfAhead
