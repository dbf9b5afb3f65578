-- The definitions of this crate, in the order to read them.
-- the lines of a sheet, as bytes
pub mod Lines
-- the turns of a run, and what a whole run tells
pub mod Runs
-- what private functions compute
pub mod Inner
