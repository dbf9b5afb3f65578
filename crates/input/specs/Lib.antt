-- The definitions of this crate, in the order to read them.
-- what a read brought, also where it failed
pub mod Came
-- turns that follow one another, by what each took
pub mod Chain
