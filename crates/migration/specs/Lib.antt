-- The definitions of this crate, in the order to read them.
-- how much of a file is in memory at a time
pub mod Sizes
-- what stops a run, and when it goes on
pub mod Turns
-- one turn of a move and of a report
pub mod Steps
-- whole runs, and what they decide
pub mod Runs
-- what private functions compute
pub mod Inner
