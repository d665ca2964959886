-- Laws that the proofs of the voices cite: the order of floats, what operations keep of it, intervals, and whole parts within bounds.
pub mod Order
pub mod Monotone
pub mod Bounds
pub mod Indices
pub mod Gaps
