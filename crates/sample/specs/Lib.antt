-- The definitions of this crate, in the order to read them.
-- samples in a string of bytes, low byte first
pub mod Samples
-- the conversion of a sample, and what the samples of a string of bytes are answered
pub mod Refusals
