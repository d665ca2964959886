-- What the bank's functions are proved equal to.
pub mod World
