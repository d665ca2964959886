-- What the functions of `resources` are proved equal to: how a table is read, and the tables. Assumes nothing.
pub mod Table
pub mod Stiffness
pub mod Svf
pub mod Pitch
