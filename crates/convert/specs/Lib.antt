-- The definitions of this crate, in the order to read them.
-- exact conversion: six rules in their order, and the value that has the number
pub mod Convert
-- which form has room for every number of another
pub mod Widening
-- what private functions compute
pub mod Inner
