-- The definitions of this crate, in the order to read them.
-- the operands of a case line
pub mod Operands
