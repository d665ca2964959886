-- What the functions of `leaves_abi` are proved equal to. Assumes nothing.
pub mod Rows
pub mod Leaves
pub mod Buffers
