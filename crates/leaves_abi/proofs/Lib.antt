-- Laws of the structs that cross as lists.
pub mod Held
