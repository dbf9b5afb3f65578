-- The definitions of this crate, in the order to read them.
-- what a sheet tells: a block of samples behind what was told before it
pub mod Sheet
-- what the theorems speak of: an input that is told as blocks, and the classes that are counted
pub mod SheetTheorem
-- where two masters differ: a block of each behind what was seen before them
pub mod Difference
-- what the theorems speak of: what the definitions mean in other words, and masters that are compared as blocks
pub mod DifferenceTheorem
-- what private functions compute
pub mod Inner
