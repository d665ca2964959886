-- What the exported calls are proved equal to, and what is claimed of the layout of the bank's bytes.
pub mod Crossing
pub mod Sheets
pub mod Chain
pub mod Claims
