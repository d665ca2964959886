-- 01's ledger, and the claim about every list of calls.
pub mod Ledger
pub mod Claim
pub mod Items
pub mod Tables
pub mod Values
