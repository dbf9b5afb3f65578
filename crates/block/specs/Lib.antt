-- The definitions of this crate, in the order to read them.
-- samples laid into bytes
pub mod Output
-- the migration of a string of bytes, as a whole and block by block
pub mod Migrate
-- what the theorem speaks of: an input that is read as blocks
pub mod Theorem
-- what private functions compute
pub mod Inner
