-- The claim, proved.
pub mod Agreement
pub mod Acts
pub mod Order
pub mod OneCall
pub mod Tables
pub mod Whole
pub mod Items
pub mod Values
