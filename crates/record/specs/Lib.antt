-- The definitions of this crate, in the order to read them.
-- records and shapes: made, set, read
pub mod Record
