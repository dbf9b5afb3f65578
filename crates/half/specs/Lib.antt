-- The definitions of this crate, in the order to read them.
-- the table of the f16 magnitudes with exponent field 0
pub mod Small
