-- The definitions of this crate, in the order to read them.
-- rows over any conversion of one sample: the answer, and the lent row at the end
pub mod Row
-- the four conversions of a row into a second row
pub mod Convert
-- what private functions compute
pub mod Inner
