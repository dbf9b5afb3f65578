-- The definitions of this crate, in the order to read them.
-- bytes, and numbers as bytes, high or low byte first
pub mod Numbers
-- the order of byte strings
pub mod Order
-- the choice between two lent rows by their first bytes
pub mod Prefix
