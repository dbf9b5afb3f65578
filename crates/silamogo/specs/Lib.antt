-- The definitions of this crate, in the order to read them.
-- outcomes as the numbers that pass the boundary
pub mod Answer
-- samples as a kind number and bits, and the rules before a call's own
pub mod Samples
-- the calls on single samples
pub mod Single
-- the calls on records and keys
pub mod Records
-- what private functions compute
pub mod Inner
