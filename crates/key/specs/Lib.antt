-- The definitions of this crate, in the order to read them.
-- the key of a record: written, and read back
pub mod Key
-- what demand 3 speaks of: values and records that have a key, and what reading makes of them
pub mod Keyed
-- what a program holds, in the kit's words
pub mod Held
-- what private functions compute
pub mod Inner
