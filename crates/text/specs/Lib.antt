-- The definitions of this crate, in the order to read them.
-- words as lists of bytes
pub mod Words
-- digits, and the numbers that they spell
pub mod Digits
-- the names of the kinds, and how many hex digits each has
pub mod Names
