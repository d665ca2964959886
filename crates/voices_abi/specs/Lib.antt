-- What the functions of `voices_abi` are proved equal to.
pub mod Blocks
pub mod Strings
pub mod Modals
