-- What the functions of `slots` are proved equal to, and a call for one voice.
pub mod Answers
pub mod Slots
pub mod Calls
pub mod Table
pub mod Values
