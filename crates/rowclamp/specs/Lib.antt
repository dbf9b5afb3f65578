-- The definitions of this crate, in the order to read them.
-- the clamp of a row in place
pub mod Clamp
