-- What the functions of `slot_bytes` are proved equal to: the layout of a bank's bytes.
pub mod Words
pub mod Layout
