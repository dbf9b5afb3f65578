-- The definitions of this crate, in the order to read them.
-- min, max and clamp of values; ranges, and the clamp of a sample
pub mod Choose
-- what private functions compute
pub mod Inner
